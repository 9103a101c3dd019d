-- A run carries claims; so no note of a lease is stale in it, where its clocks keep the rule.
use Rattle.std.proofs.Common.{◌≡◌, inl, inr, ℕ, zero, suc, ◌<◌, List, [], ◌∷◌, ◌++◌, Option, Some, None, Bool, true, false, refl, sym, ap, ◌∙◌, subst, arith}
use Rattle.std.specs.Prelude.{◌==◌, ◌&&◌, nat_lt, if◌then◌else◌}
use Rattle.std.specs.List.{AllByRecursion}
use Rattle.std.specs.Option.{option_map}
use Rattle.std.proofs.lemmas.Bool.Decides.{nat_tests}
use Rattle.clock_rule.specs.declared.rule.Note.{Note as Noted}
use Rattle.clock_rule.specs.Keeping.{KeepRule}
use Rattle.client_cache.specs.Cache.{kept_of, content_of, content_in, fresh_of, fresh_in, fresh_if}
use Rattle.client_cache.specs.declared.kept.Content.{Content}
use Rattle.client_cache.specs.declared.kept.Kept.{Kept}
use Rattle.client_cache.specs.declared.kept.Note.{Note}
use Rattle.chunk_calls.specs.Files as the_files
use Rattle.server_law.specs.Facts.{IsGiven}
use Rattle.lease_law.specs.Claims.{noted_at}
use Rattle.lease_law.specs.Orderly.{IsOrderly}
use Rattle.lease_law.proofs.lemmas.Fresh.{fresh_holds}
use Rattle.kept_promise.proofs.Common.{Contains, Contains-push_cases, Core, Seat, Session, Event, Event.Joins, Event.Does, Event.Serves, Event.Hears, Event.Settles, Event.Cuts, Event.Hangs, happens, numbered, File, Moment, Opening, Mix, new_seat, Tree, Event.RawJoins}
use Rattle.kept_promise.proofs.Lists.{some_is, nothing_there, of_replicate}
use Rattle.kept_promise.proofs.Fits.{FitLaws}
use Rattle.kept_promise.proofs.Rights.{acts_at, acts_for, AreLeased}
use Rattle.kept_promise.proofs.lemmas.Owners.{happens_header}
use Rattle.kept_promise.proofs.RunsCarried.{moment, Header, first_core, MixStep, CarriedMix}
use Rattle.kept_promise.proofs.ClaimStill.{claimed_later}
use Rattle.kept_promise.proofs.Claimed.{Claimed, HasClaims, IsClocked, AreClocked, KeepsWith, noted_of, noted_in, clock_after, noted_after, way_of, downs_of}
use Rattle.kept_promise.proofs.ClaimEvents.{event_claimed}
use Rattle.kept_promise.proofs.ClaimAdjusts.{adjusted_claimed}

-- ---- the moment that comes next

pub record NowAt (term drift clock : ℕ) (noted : List Noted) (ats : List ℕ) (past : List Moment) (m : Moment) : Type 0 where
  pub at : ℕ
  pub clocked : IsClocked term drift (clock_after clock ats past) (noted_after noted ats past) at m
  pub clock_then : clock_after clock ats (past ++ m ∷ []) ≡ at
  pub noted_then : noted_after noted ats (past ++ m ∷ []) ≡ noted_after noted ats past ++ noted_in at m.before m.event

now_at : (term drift clock : ℕ) (noted : List Noted) (ats : List ℕ) (past : List Moment) (m : Moment) (rest : List Moment) → AreClocked term drift clock noted ats (past ++ m ∷ rest) → NowAt term drift clock noted ats past m
now_at term drift clock noted [] [] m rest h = absurd h
now_at term drift clock noted (a ∷ []) [] m rest h = record { at = a; clocked = h.0; clock_then = refl; noted_then = refl }
now_at term drift clock noted (a ∷ b ∷ ats) [] m rest h = record { at = a; clocked = h.0; clock_then = refl; noted_then = refl }
now_at term drift clock noted [] (p ∷ past) m rest h = absurd h
now_at term drift clock noted (a ∷ ats) (p ∷ past) m rest h =
    let n = now_at term drift a (noted ++ noted_in a p.before p.event) ats past m rest h.1 in
    record { at = n.at; clocked = n.clocked; clock_then = n.clock_then; noted_then = n.noted_then }

-- ---- what is carried

-- the ids of the tree were given once, at each moment
abbrev pub AllGiven : List Moment → Type 0
AllGiven all = (m : Moment) → Contains all m → IsGiven m.before.server.tree

abbrev pub ClaimsBy : (ats : List ℕ) → (all past : List Moment) → List Opening → Core → List Mix → Type 0
ClaimsBy ats all past opening k ms = AreClocked k.server.leasing.term k.drift 0 [] ats all → AllGiven all → (IsGiven k.server.tree → Claimed (noted_after [] ats past) (clock_after 0 ats past) k ms) × AreLeased past

-- ---- a content that is fresh

fresh_note : (o : Option Content) (n : Option Note) (now : ℕ) (bytes : List ℕ) (kept : Content) → o ≡ Some kept → fresh_if o n now ≡ Some bytes → (m : Note) × (n ≡ Some m) × (kept.version ≡ m.version) × (now < m.until)
fresh_note None n now bytes kept e f = nothing_there kept e
fresh_note (Some c) None now bytes kept e f = nothing_there bytes f
fresh_note (Some c) (Some m) now bytes kept e f = let w = by (c.version == m.version) (nat_lt now m.until) refl refl f in (m, refl, w.0, w.1)
  where
    by : (a b : Bool) → (c.version == m.version) ≡ a → nat_lt now m.until ≡ b → (if a && b then Some c.bytes else None) ≡ Some bytes → (kept.version ≡ m.version) × (now < m.until)
    by true true p q f = (sym (ap (λ (z : Content). z.version) (some_is c kept e)) ∙ grind (arith, nat_tests, p), grind (arith, nat_tests, q))
    by true false p q f = nothing_there bytes f
    by false b p q f = nothing_there bytes f

file_with : (o : Option File) (v : ℕ) → option_map (λ (g : File). g.version) o ≡ Some v → (g : File) × (o ≡ Some g) × (g.version ≡ v)
file_with None v e = nothing_there v e
file_with (Some g) v e = (g, refl, some_is g.version v e)

-- whoever acts at a moment notes its reading
acting_notes : (k : Core) (e : Event) (at : ℕ) (P : Noted → Type 0) (c now : ℕ) → acts_at k e ≡ Some (c, now) → AllByRecursion P (noted_in at k e) → P (noted_at c now at)
acting_notes k (Does i r d) at P c now acts h = subst (λ (p : ℕ × ℕ). P (noted_at p.0 p.1 at)) (some_is (i, r) (c, now) acts) h.0
acting_notes k (Hears n r bytes) at P c now acts h = by (numbered k.sessions n) acts h
  where
    by : (o : Option Session) → acts_for (Hears n r bytes) o ≡ Some (c, now) → AllByRecursion P (noted_of at r o) → P (noted_at c now at)
    by None acts h = nothing_there (c, now) acts
    by (Some x) acts h = subst (λ (p : ℕ × ℕ). P (noted_at p.0 p.1 at)) (some_is (x.owner, r) (c, now) acts) h.0
acting_notes k (Joins i) at P c now acts h = nothing_there (c, now) acts
acting_notes k RawJoins at P c now acts h = nothing_there (c, now) acts
acting_notes k (Serves n r bytes) at P c now acts h = nothing_there (c, now) acts
acting_notes k (Settles r) at P c now acts h = nothing_there (c, now) acts
acting_notes k (Cuts i) at P c now acts h = nothing_there (c, now) acts
acting_notes k (Hangs n) at P c now acts h = nothing_there (c, now) acts

-- at a moment at which clocks keep the rule the version of a fresh content is the file's
leased_now : (k : Core) (e : Event) (ms : List Mix) (clock at : ℕ) (noted : List Noted) → Claimed noted clock k ms → IsClocked k.server.leasing.term k.drift clock noted at (moment k e)
    → (c now f : ℕ) (seat : Seat) (kept : Content) → acts_at k e ≡ Some (c, now) → numbered k.seats c ≡ Some seat → content_of seat.client.cache f ≡ Some kept → fresh_of seat.client.cache f now ≡ Some kept.bytes → (g : File) × (the_files.file_at k.server.tree f ≡ Some g) × (g.version ≡ kept.version)
leased_now k e ms clock at noted h clocked c now f seat kept acts here content fresh = by (kept_of seat.client.cache f) refl content fresh
  where
    later : Claimed noted at k ms
    later = claimed_later k k.steps k.ops k.entries ms clock at noted noted clocked.after (λ x there. there) h

    rule : AllByRecursion (λ (n : Noted). KeepRule k.server.leasing.term k.drift n (noted_at c now at)) noted
    rule = acting_notes k e at (KeepsWith k.server.leasing.term k.drift noted) c now acts clocked.rule

    by : (o : Option Kept) → kept_of seat.client.cache f ≡ o → content_in o ≡ Some kept → fresh_in o now ≡ Some kept.bytes → (g : File) × (the_files.file_at k.server.tree f ≡ Some g) × (g.version ≡ kept.version)
    by None is content fresh = nothing_there kept content
    by (Some x) is content fresh =
        let n = fresh_note x.content x.note now kept.bytes kept content fresh in
        let o = (later.seats c seat here).notes f x n.0 is n.1 in
        let holds = fresh_holds k.server at k.drift noted c o.number f n.0.version n.0.until (way_of o.session o.mix) (downs_of o.mix.downs) o.note now rule n.3 in
        let g = file_with (the_files.file_at k.server.tree f) n.0.version holds in
        (g.0, g.1, g.2 ∙ sym n.2)

-- ---- the first moment

first_orderly : (tree : Tree) (h : Header) → IsGiven tree → IsOrderly (first_core tree h).server 0
first_orderly tree h given = record { early = omega arith; ordered = λ i j d before last. absurd (omega (arith, last)); changes = tt; given = given }

first_claimed : (tree : Tree) (h : Header) → IsGiven tree → Claimed [] 0 (first_core tree h) []
first_claimed tree h given = record {
  orderly = first_orderly tree h given;
  recalls = tt;
  talks = λ n m at. none_at n m at;
  seats = λ i seat at. subst (HasClaims [] 0 (first_core tree h) [] i) (sym (new_at i seat at)) (record {
    drift = refl;
    notes = λ f e n there is. nothing_there e there;
    sent = λ u x task lease. nothing_there u task;
    promises = λ u n x m task mine there is. nothing_there u task;
  });
}
  where
    none_at : {A : Type 0} (n : ℕ) (m : Mix) → ◌≡◌ {A = Option Mix} (numbered [] n) (Some m) → A
    none_at zero m e = nothing_there m e
    none_at (suc n) m e = nothing_there m e

    new_at : (i : ℕ) (seat : Seat) → numbered (first_core tree h).seats i ≡ Some seat → seat ≡ new_seat h.drift h.lbfs
    new_at zero seat e = nothing_there seat e
    new_at (suc i) seat e = of_replicate h.count (new_seat h.drift h.lbfs) i seat e

-- ---- the induction

pub carried_claims : FitLaws → (ats : List ℕ) → CarriedMix (ClaimsBy ats)
carried_claims laws ats = record {
  first = λ all opening tree h kept clocked given. ((λ now_given. subst (λ (z : ℕ). Claimed (noted_after [] ats []) z (first_core tree h) []) (sym (clock_none ats)) (subst (λ (z : List Noted). Claimed z 0 (first_core tree h) []) (sym (noted_none ats)) (first_claimed tree h now_given))), λ m c now f seat kept there. none_past m there);
  steps = λ all past rest opening k ms e mid after s h clocked given. step all past rest opening k ms e mid after s h clocked given;
  adjusts = λ all past opening k ms index seats same h clocked given. (let old = h clocked given in ((λ now_given. adjusted_claimed k index seats same ms (clock_after 0 ats past) (noted_after [] ats past) (old.0 now_given)), old.1));
}
  where
    clock_none : (ats : List ℕ) → clock_after 0 ats [] ≡ 0
    clock_none [] = refl
    clock_none (a ∷ ats) = refl

    noted_none : (ats : List ℕ) → noted_after [] ats [] ≡ []
    noted_none [] = refl
    noted_none (a ∷ ats) = refl

    none_past : {A : Type 0} (m : Moment) → Contains [] m → A
    none_past m there = let lt = there.1 in absurd (omega (arith, lt))

    step : (all past rest : List Moment) (opening : List Opening) (k : Core) (ms : List Mix) (e : Event) (mid after : List Mix) → MixStep all past rest opening k ms e mid after → ClaimsBy ats all past opening k ms → ClaimsBy ats all (past ++ moment k e ∷ []) opening (happens k e).core after
    step all past rest opening k ms e mid after s h clocked given =
        let header = happens_header k e in
        let term = ap (λ (p : ℕ × ℕ). p.0) header in
        let drift = ap (λ (p : ℕ × ℕ). p.1) header in
        let clocked_k = subst (λ (z : ℕ). AreClocked z k.drift 0 [] ats all) term (subst (λ (z : ℕ). AreClocked (happens k e).core.server.leasing.term z 0 [] ats all) drift clocked) in
        let old = h clocked_k given in
        let there : Contains all (moment k e) = s.plain.noted.there in
        let claimed = old.0 (given (moment k e) there) in
        let n = now_at k.server.leasing.term k.drift 0 [] ats past (moment k e) rest (subst (λ (z : List Moment). AreClocked k.server.leasing.term k.drift 0 [] ats z) s.plain.split clocked_k) in
        let then_ = event_claimed laws all past rest opening k ms e mid after s (clock_after 0 ats past) n.at (noted_after [] ats past) n.clocked claimed in (
          (λ now_given. subst (λ (z : ℕ). Claimed (noted_after [] ats (past ++ moment k e ∷ [])) z (happens k e).core after) (sym n.clock_then) (subst (λ (z : List Noted). Claimed z n.at (happens k e).core after) (sym n.noted_then) then_)),
          λ m c now f seat kept m_there acts here content fresh. elim (Contains-push_cases past (moment k e) m m_there) [
            | inl was ↦ old.1 m c now f seat kept was acts here content fresh
            | inr new ↦
                subst (λ (z : Moment). acts_at z.before z.event ≡ Some (c, now) → numbered z.before.seats c ≡ Some seat → (g : File) × (the_files.file_at z.before.server.tree f ≡ Some g) × (g.version ≡ kept.version)) new
                (λ acts here. leased_now k e ms (clock_after 0 ats past) n.at (noted_after [] ats past) claimed n.clocked c now f seat kept acts here content fresh) acts here
          ],
        )
