-- What a turn gives to its link.
use Rattle.std.proofs.Common.{◌≡◌, ◌⊎◌, inl, inr, ℕ, List, [], ◌∷◌, ◌++◌, Bool, false, refl, sym, ◌∙◌, ap, subst}
use Rattle.std.specs.Prelude.{Option, Some, None, Result, Ok, Err, OnOk, OnErr, IfOk, IsErrOf}
use Rattle.std.specs.Option.{option_or}
use Rattle.std.specs.Io.KnownBytes.{Appends}
use Rattle.lb_base.specs.Causes.{Rose}
use Rattle.lb_base.specs.Known.{AppendsPrefix}
use Rattle.lb_base.proofs.lemmas.KnownLemmas.{appends_none}
use Rattle.record_ends.specs.Ends.{out_bytes}
use Rattle.record_ends.specs.declared.end.End.{End}
use Rattle.record_ends.specs.declared.end.End.TheVariants as ends
use Rattle.wire.specs.declared.message.Message.{Message}
use Rattle.lbfs_client.specs.Farewell.{farewell}
use Rattle.lbfs_client.specs.Mounting.{Mount}
use Rattle.lbfs_client.specs.declared.said.Said.{Said}
use Rattle.mount_desk.specs.Outlet.{Outlet, Fails, FarewellEnds, Gives, GivesPart, LosesOut, SaysOut, SaysOutOf, SendsOut, TurnsOut}
use Rattle.mount_desk.specs.Turns.{bounded_by}

-- where nothing is said a link is given nothing
pub appends_nothing : (bytes : Option (List ℕ)) (send : List Message) → send ≡ [] → Appends bytes bytes (out_bytes send)
appends_nothing bytes send none = subst (λ (ms : List Message). Appends bytes bytes (out_bytes ms)) (sym none) (appends_none bytes)

-- and no link none
pub given_none : {L : Type 0} (held : L → Option (List ℕ)) (link : Option L) (send : List Message) → link ≡ None → Gives held link link send
given_none {L} held link send none = subst (λ (o : Option L). Gives held o o send) (sym none) tt

pub given_so : {L E : Type 0} (held : L → Option (List ℕ)) (link : Option L) (l k : L) (send : List Message) (r : Result Unit E) → link ≡ Some l → OnOk r (Appends (held l) (held k) (out_bytes send)) → OnOk r (Gives held link (Some k) send)
given_so {L} held link l k send r is h = subst (λ (o : Option L). OnOk r (Gives held o (Some k) send)) (sym is) h

pub part_so : {L E : Type 0} (held : L → Option (List ℕ)) (link : Option L) (l k : L) (send : List Message) (r : Result Unit E) → link ≡ Some l → OnErr r (AppendsPrefix (held l) (held k) (out_bytes send)) → OnErr r (GivesPart held link (Some k) send)
part_so {L} held link l k send r is h = subst (λ (o : Option L). OnErr r (GivesPart held o (Some k) send)) (sym is) h

pub fails_so : {L : Type 0} (held : L → Option (List ℕ)) (faults : L → ℕ) (link : Option L) (l k : L) (send : List Message) (r : Result Unit End) → link ≡ Some l → OnErr r (AppendsPrefix (held l) (held k) (out_bytes send)) → (IsErrOf r ends.Failed → Rose (faults l) (faults k)) → IsErrOf r ends.Failed → Fails held faults link (Some k) send
fails_so {L} held faults link l k send r is part rose failed = subst (λ (o : Option L). Fails held faults o (Some k) send) (sym is) (subst (λ (q : Result Unit End). OnErr q (AppendsPrefix (held l) (held k) (out_bytes send))) failed part, rose failed)

-- what goes out behind what waits
pub added : {L : Type 0} (held : L → Option (List ℕ)) (faults : L → ℕ) (most : ℕ) (m : Mount) (now : ℕ) (m' : Mount) (o o' : Outlet L) (waits all : List Message) (more : Bool) → waits ≡ all → SendsOut held faults most m now m' (record o { waits = waits }) o' waits more → SendsOut held faults most m now m' o o' all more
added held faults most m now m' o o' waits all more is (SendsOut.gone behind gives none same line) = SendsOut.gone behind (subst (λ (ms : List Message). Gives held o.link o'.link ms) is gives) none same line
added held faults most m now m' o o' waits all more is (SendsOut.waiting ahead left same) = SendsOut.waiting ahead (left ∙ ap (λ (ms : List Message). record o { waits = ms }) is) same
added held faults most m now m' o o' waits all more is (SendsOut.lost behind broken fails shut none loses) = SendsOut.lost behind broken (subst (λ (ms : List Message). Fails held faults o.link broken ms) is fails) shut none loses

abbrev end_of : Result Unit End → End
end_of (Ok u) = ends.Failed
end_of (Err e) = e

-- A link that failed: the client is told so. Where memory ran out it isn't.
pub broke : {L : Type 0} (held : L → Option (List ℕ)) (faults : L → ℕ) (most : ℕ) (m : Mount) (now : ℕ) (m' : Mount) (o o' : Outlet L) (all : List Message) (more : Bool) (r : Result Unit End) (end : End) (broken : Option L)
    → r ≡ Err end → IsErrOf r ends.Failed ⊎ IsErrOf r ends.Memory → (IsErrOf r ends.Failed → Fails held faults o.link broken all) → more ≡ false → o'.link ≡ None → o'.waits ≡ [] → LosesOut most m end now m' o.line o'.line → SendsOut held faults most m now m' o o' all more
broke held faults most m now m' o o' all more r end broken is (inl failed) cut behind shut none loses = SendsOut.lost behind broken (cut failed) shut none (subst (λ (e : End). LosesOut most m e now m' o.line o'.line) (ap end_of (sym is ∙ failed)) loses)
broke held faults most m now m' o o' all more r end broken is (inr memory) cut behind shut none loses =
    let l : LosesOut most m ends.Memory now m' o.line o'.line = subst (λ (e : End). LosesOut most m e now m' o.line o'.line) (ap end_of (sym is ∙ memory)) loses in
    absurd l.0.stops

-- what is kept of a line is bounded, and its text kept, before what was said goes out
pub says_out : {L : Type 0} (held : L → Option (List ℕ)) (faults : L → ℕ) (most : ℕ) (m mid : Mount) (said : Said) (now : ℕ) (m' : Mount) (link : Option L) (waits : List Message) (line line' : Option (List ℕ)) (o' : Outlet L) (more : Bool)
    → mid ≡ bounded_by said most m → line' ≡ option_or said.line line → SendsOut held faults most mid now m' (record { link = link; waits = waits; line = line' }) o' (waits ++ said.send) more → SaysOut held faults most m said now m' (record { link = link; waits = waits; line = line }) o' more
says_out held faults most m mid said now m' link waits line line' o' more bounds keeps h =
    subst (λ (n : Mount). SendsOut held faults most n now m' (record { link = link; waits = waits; line = option_or said.line line }) o' (waits ++ said.send) more) bounds
    (subst (λ (t : Option (List ℕ)). SendsOut held faults most mid now m' (record { link = link; waits = waits; line = t }) o' (waits ++ said.send) more) keeps h)

pub said_out : {L E : Type 0} (held : L → Option (List ℕ)) (faults : L → ℕ) (r : Result Said E) (most : ℕ) (m : Mount) (said : Said) (now : ℕ) (m' : Mount) (o o' : Outlet L) (more : Bool) → r ≡ Ok said → SaysOut held faults most m said now m' o o' more → SaysOutOf held faults most m r now m' o o' more
said_out {L} {E} held faults r most m said now m' o o' more is h = subst (λ (q : Result Said E). SaysOutOf held faults most m q now m' o o' more) (sym is) h

-- a call of the client whose result is no error, and what was said of it
pub turn_out : {L E : Type 0} (held : L → Option (List ℕ)) (faults : L → ℕ) (r : Result Said E) (most : ℕ) (called : Mount → Said → Type 0) (m : Mount) (now : ℕ) (m' : Mount) (o o' : Outlet L) (more : Bool) (behind : Mount → Bool)
    → more ≡ behind m → IfOk r (λ said. called m said) → SaysOutOf held faults most m r now m' o o' more → TurnsOut held faults most called now m' o o' behind
turn_out held faults (Ok said) most called m now m' o o' more behind is p q = (m, said, p, subst (λ (b : Bool). SaysOut held faults most m said now m' o o' b) is q)
turn_out held faults (Err e) most called m now m' o o' more behind is p q = absurd q

-- behind hints, which give the link nothing
pub hinted_out : {L E : Type 0} (held : L → Option (List ℕ)) (faults : L → ℕ) (r : Result Said E) (most kept : ℕ) (called : Mount → Said → Type 0) (m : Mount) (now : ℕ) (m' : Mount) (o hinted o' : Outlet L)
    → kept ≡ most → hinted ≡ o → IfOk r (λ said. called m said) → SaysOutOf held faults kept m r now m' hinted o' false → TurnsOut held faults most called now m' o o' (λ n. false)
hinted_out {L} held faults r most kept called m now m' o hinted o' same is p q =
    subst (λ (k : ℕ). TurnsOut held faults k called now m' o o' (λ n. false)) same
    (subst (λ (x : Outlet L). TurnsOut held faults kept called now m' x o' (λ n. false)) is
    (turn_out held faults r kept called m now m' hinted o' false (λ n. false) refl p q))

-- ---- the end of a mount

-- a link that was given nothing was given a front
pub part_none : {L : Type 0} (held : L → Option (List ℕ)) (link : Option L) (send : List Message) → GivesPart held link link send
part_none held None send = tt
part_none held (Some l) send = ([], out_bytes send, refl, appends_none (held l))

-- what came of giving all that waits, with a farewell behind
pub farewell_ends : {L : Type 0} (held : L → Option (List ℕ)) (faults : L → ℕ) (old last : Option L) (waits all : List Message) (r : Result Unit End) → all ≡ waits ++ farewell ∷ []
    → OnOk r (Gives held old last all) → OnErr r (GivesPart held old last all) → OnErr r (IsErrOf r ends.Failed ⊎ IsErrOf r ends.Memory) → (IsErrOf r ends.Failed → Fails held faults old last all) → FarewellEnds held faults old last waits r
farewell_ends {L} held faults old last waits all r is gives part only fails = by r (subst (λ (ms : List Message). OnOk r (Gives held old last ms)) is gives) (subst (λ (ms : List Message). OnErr r (GivesPart held old last ms)) is part) only (λ failed. subst (λ (ms : List Message). Fails held faults old last ms) is (fails failed))
  where
    by : (q : Result Unit End) → OnOk q (Gives held old last (waits ++ farewell ∷ [])) → OnErr q (GivesPart held old last (waits ++ farewell ∷ [])) → OnErr q (IsErrOf q ends.Failed ⊎ IsErrOf q ends.Memory)
        → (IsErrOf q ends.Failed → Fails held faults old last (waits ++ farewell ∷ [])) → FarewellEnds held faults old last waits q
    by (Ok u) g p o f = g
    by (Err ends.Failed) g p o f = f refl
    by (Err ends.Memory) g p o f = p
    by (Err ends.InputEnd) g p (inl failed) f = cc
    by (Err ends.InputEnd) g p (inr memory) f = cc
    by (Err ends.Spoilt) g p (inl failed) f = cc
    by (Err ends.Spoilt) g p (inr memory) f = cc

-- what `give_on` goes by
pub ruleset by_give_on = (given_so, given_none, part_so, fails_so)
