-- A client's step in a run: claims go on, and what it notes is claimed.
use Rattle.std.proofs.Common.{◌≡◌, ◌⊎◌, inl, inr, ℕ, ◌<◌, ◌≤◌, List, [], ◌∷◌, ◌++◌, length, Option, Some, None, Bool, true, false, refl, sym, ap, ◌∙◌, subst, arith, map}
use Rattle.std.specs.List.{AllByRecursion}
use Rattle.std.proofs.lemmas.List.{append-nil, append_assoc}
use Rattle.clock_rule.specs.declared.rule.Note.{Note as Noted}
use Rattle.wire.specs.declared.message.Message.{Message}
use Rattle.client_cache.specs.Cache.{kept_of}
use Rattle.client_cache.specs.declared.kept.Kept.{Kept}
use Rattle.client_cache.specs.declared.kept.Note.{Note}
use Rattle.client_state.specs.declared.step.ClientStep.{ClientStep}
use Rattle.client_state.specs.declared.task.Task.{Task}
use Rattle.server_core.specs.State as server
use Rattle.lease_law.specs.Claims.{Way, Claim, IsAmong, IsClaim, noted_at, answered_by, stored_by, recall_message}
use Rattle.lease_law.specs.Orderly.{IsOrderly, AreNumbered, IsUpTo, sent_on}
use Rattle.lease_law.proofs.lemmas.Events.{orderly_later, safe_later}
use Rattle.lease_law.proofs.lemmas.Ways.{safe_asked, safe_heard}
use Rattle.kept_promise.proofs.Common.{Core, CoreStep, Seat, Session, numbered, with_numbered, unless, Told, told_message, Up, Down, Down.Tells, Down.Recalls, Mix, up_message}
use Rattle.trace_ends.specs.Core.{Loss.Nothing}
use Rattle.kept_promise.proofs.Lists.{some_is, nothing_there, same_or_not}
use Rattle.kept_promise.proofs.Turns.{also_numbered, around_with}
use Rattle.kept_promise.proofs.Leading.{Sends, sent_ups, sent_downs, mixes_lost, mixes_after}
use Rattle.kept_promise.proofs.RecallsKept.{AreRecalls, AreAwaited, AreTwo, AllOnce, AllBeside, IsBeside, IsWaited, all_join, all_map}
use Rattle.kept_promise.proofs.Claimed.{Claimed, HasClaims, HasNote, IsTalking, IsPromised, AllTails, leasing_xid, ups_of, downs_of, way_of}
use Rattle.kept_promise.proofs.ClaimWays.{downs_on, before_at, sent_is, ups_are, ups_unless, none_is}
use Rattle.kept_promise.proofs.ClaimFrame.{claim_of, Goes, note_goes, tails_map, promised_map}
use Rattle.kept_promise.proofs.NoteSteps.{StepKeeps, HadNote, SendsLease}

-- ---- calls go up

abbrev pub AreCalls : List Message → Type 0
AreCalls ms = AllByRecursion (λ m. answered_by m ≡ None) ms

abbrev pub Spare : (f : ℕ) → List Message → Type 0
Spare f ms = AllByRecursion (λ m. stored_by m ≡ Some f → ⊥) ms

claim_asked : (s : server.State) (clock : ℕ) (c : Claim) (us ms : List Message) (cut : Bool) (behind : List Message) → AreCalls ms → Spare c.file ms → IsClaim s clock c (record { ups = us; cut = cut }) behind → IsClaim s clock c (record { ups = us ++ ms; cut = cut }) behind
claim_asked s clock c us [] cut behind calls spare h = subst (λ (l : List Message). IsClaim s clock c (record { ups = l; cut = cut }) behind) (sym (append-nil us)) h
claim_asked s clock c us (m ∷ ms) cut behind calls spare h =
    subst (λ (l : List Message). IsClaim s clock c (record { ups = l; cut = cut }) behind) (append_assoc us (m ∷ []) ms)
    (claim_asked s clock c (us ++ m ∷ []) ms cut behind calls.1 spare.1 (h.0, safe_asked s clock c (record { ups = us; cut = cut }) behind m calls.0 spare.0 h.1))

none : {A : Type 0} (x : ℕ) → ◌≡◌ {A = Option ℕ} None (Some x) → A
none x e = absurd cc

numbers_asked : (s : server.State) (n : ℕ) (us ms downs : List Message) → AreCalls ms → AreNumbered s n us downs → AreNumbered s n (us ++ ms) downs
numbers_asked s n us ms downs calls h = record {
  drawn = λ q. (let d = h.drawn q in record { answers = all_join _ us ms d.answers (all_map (λ m. answered_by m ≡ None) (λ m. IsUpTo _ (answered_by m)) ms (λ m e. subst (IsUpTo _) (sym e) tt) calls); calls = d.calls });
  apart = h.apart;
}

two_calls : (u : Message) (ms : List Message) → AreCalls ms → AllByRecursion (AreTwo u) ms
two_calls u [] h = tt
two_calls u (m ∷ ms) h = ((λ x a b. none x (sym h.0 ∙ b)), two_calls u ms h.1)

once_calls : (ms : List Message) → AreCalls ms → AllOnce ms
once_calls [] h = tt
once_calls (m ∷ ms) h = ((all_map (λ w. answered_by w ≡ None) (AreTwo m) ms (λ w e x a b. none x (sym e ∙ b)) h.1), once_calls ms h.1)

once_join : (us ms : List Message) → AreCalls ms → AllOnce us → AllOnce (us ++ ms)
once_join [] ms h o = once_calls ms h
once_join (u ∷ us) ms h o = (all_join (AreTwo u) us ms o.0 (two_calls u ms h), once_join us ms h o.1)

beside_calls : (ms downs : List Message) → AreCalls ms → AllBeside ms downs
beside_calls [] downs h = tt
beside_calls (m ∷ ms) downs h = (by downs, beside_calls ms downs h.1)
  where
    by : (ds : List Message) → AllByRecursion (IsBeside m) ds
    by [] = tt
    by (d ∷ ds) = ((λ x a b. none x (sym h.0 ∙ a)), by ds)

awaited_asked : (s : server.State) (n : ℕ) (us ms downs : List Message) → AreCalls ms → AreAwaited s n us downs → AreAwaited s n (us ++ ms) downs
awaited_asked s n us ms downs calls h = record {
  waited = λ q. (let w = h.waited q in record { answers = all_join _ us ms w.answers (all_map (λ m. answered_by m ≡ None) (λ m. IsWaited _ (answered_by m)) ms (λ m e. subst (IsWaited _) (sym e) tt) calls); calls = w.calls });
  once = once_join us ms calls h.once;
  beside = all_join (λ u. AllByRecursion (IsBeside u) downs) us ms h.beside (beside_calls ms downs calls);
}

-- ---- an answer is heard

not_recall : (a : Told) (x f : ℕ) → told_message a ≡ recall_message x f → ⊥
not_recall a x f e = cc

numbers_heard : (s : server.State) (n : ℕ) (us : List Message) (d : Message) (ds : List Message) → AreNumbered s n us (d ∷ ds) → AreNumbered s n us ds
numbers_heard s n us d ds h = record { drawn = λ q. (let w = h.drawn q in record { answers = w.answers; calls = w.calls.1 }); apart = h.apart.1 }

beside_tail : (us : List Message) (d : Message) (ds : List Message) → AllBeside us (d ∷ ds) → AllBeside us ds
beside_tail [] d ds h = tt
beside_tail (u ∷ us) d ds h = (h.0.1, beside_tail us d ds h.1)

awaited_heard : (s : server.State) (n : ℕ) (us : List Message) (d : Message) (ds : List Message) → AreAwaited s n us (d ∷ ds) → AreAwaited s n us ds
awaited_heard s n us d ds h = record { waited = λ q. (let w = h.waited q in record { answers = w.answers; calls = w.calls.1 }); once = h.once; beside = beside_tail us d ds h.beside }

-- ---- a step of a client alone

pub record Acts (k : Core) (ms mid : List Mix) (t : CoreStep) (i : ℕ) (seat next : Seat) : Type 0 where
  pub server : t.core.server ≡ k.server
  pub drift : t.core.drift ≡ k.drift
  pub loss : t.loss ≡ Nothing
  pub down : t.down ≡ []
  pub session : t.session ≡ seat.session
  pub here : numbered k.seats i ≡ Some seat
  pub seats : t.core.seats ≡ with_numbered k.seats i next
  pub next_session : next.session ≡ seat.session
  pub count : length t.core.sessions ≡ length k.sessions
  pub sessions : (n : ℕ) (x y : Session) → numbered k.sessions n ≡ Some x → numbered t.core.sessions n ≡ Some y → (y.owner ≡ x.owner) × (y.cut ≡ x.cut)
  pub rest : (n : ℕ) (m r : Mix) → numbered ms n ≡ Some m → numbered mid n ≡ Some r → (r.ups ≡ m.ups) × ((r.downs ≡ m.downs) ⊎ ((seat.session ≡ Some n) × (a : Told) × (m.downs ≡ Tells a ∷ r.downs)))

-- an answer to an earlier call
abbrev pub IsBelow : (next : ℕ) → Down → Type 0
IsBelow next (Tells a) = a.xid < next
IsBelow next (Recalls x f) = Unit {0}

-- a session before it and behind it
pub record ActAt (k : Core) (ms mid : List Mix) (t : CoreStep) (after : List Mix) (seat : Seat) (n : ℕ) : Type 0 where
  pub x : Session
  pub m : Mix
  pub y : Session
  pub p : Mix
  pub x_there : numbered k.sessions n ≡ Some x
  pub m_there : numbered ms n ≡ Some m
  pub y_there : numbered t.core.sessions n ≡ Some y
  pub p_there : numbered after n ≡ Some p
  pub left : Mix
  pub left_there : numbered mid n ≡ Some left
  pub left_is : p.downs ≡ left.downs
  pub owner : y.owner ≡ x.owner
  pub cut : y.cut ≡ x.cut
  pub ups : (ups_of p ≡ ups_of m) ⊎ ((seat.session ≡ Some n) × (ups_of p ≡ ups_of m ++ t.up))
  pub downs : (p.downs ≡ m.downs) ⊎ ((seat.session ≡ Some n) × (a : Told) × (m.downs ≡ Tells a ∷ p.downs))

none_left : {A B : Type 0} (f : A → B) (xs : List A) → map f xs ≡ [] → xs ≡ []
none_left f [] e = refl
none_left f (x ∷ xs) e = absurd cc

unless_nothing : {A : Type 0} (b : Bool) (xs : List A) → unless b xs [] ≡ xs
unless_nothing true xs = refl
unless_nothing false xs = append-nil xs

module _ (k : Core) (ms mid : List Mix) (t : CoreStep) (i : ℕ) (seat next : Seat) (acts : Acts k ms mid t i seat next) (pairs : length ms ≡ length k.sessions) (sent : Sends t) (pairs_then : length (mixes_after mid t sent) ≡ length t.core.sessions) where
  pub act_at : (n : ℕ) (x : Session) → numbered k.sessions n ≡ Some x → ActAt k ms mid t (mixes_after mid t sent) seat n
  act_at n x at =
      let m = also_numbered k.sessions ms n x pairs at in
      let y = also_numbered k.sessions t.core.sessions n x acts.count at in
      let p = also_numbered t.core.sessions (mixes_after mid t sent) n y.0 pairs_then y.1 in
      let b = before_at mid t sent n p.0 p.1 in
      let r = acts.rest n m.0 b.was m.1 (ap (λ (l : _). numbered (mixes_lost mid l) n) (sym acts.loss) ∙ b.there) in
      let z = acts.sessions n x y.0 at y.1 in
      let nothing : downs_on n (sent_downs t sent) ≡ [] = none_left _ (downs_on n (sent_downs t sent)) (none_is t sent n acts.down) in
      let down_same : p.0.downs ≡ b.was.downs = b.downs y.0 y.1 ∙ ap (unless y.0.cut b.was.downs) nothing ∙ unless_nothing y.0.cut b.was.downs in
      record {
        x = x;
        m = m.0;
        y = y.0;
        p = p.0;
        x_there = at;
        m_there = m.1;
        y_there = y.1;
        p_there = p.1;
        left = b.was;
        left_there = ap (λ (l : _). numbered (mixes_lost mid l) n) (sym acts.loss) ∙ b.there;
        left_is = down_same;
        owner = z.0;
        cut = z.1;
        ups = ups_by seat.session refl m.0 b.was p.0 y.0 r.0 b.other (λ mine. b.own y.0 mine y.1);
        downs = elim r.1 [
          | inl e ↦ inl (down_same ∙ e)
          | inr e ↦ inr (e.0, e.1, e.2 ∙ ap (λ (l : List Down). Tells e.1 ∷ l) (sym down_same))
        ];
      }
    where
      as_ups : (us vs : List Up) → us ≡ vs → map up_message us ≡ map up_message vs
      as_ups us vs e = ap (λ (l : List Up). map up_message l) e

      sends_up : (h : Bool) (m r p : Mix) → r.ups ≡ m.ups → p.ups ≡ unless h r.ups (sent_ups t sent) → (ups_of p ≡ ups_of m) ⊎ (ups_of p ≡ ups_of m ++ t.up)
      sends_up true m r p same e = inl (as_ups p.ups m.ups (e ∙ same))
      sends_up false m r p same e = inr (as_ups p.ups (r.ups ++ sent_ups t sent) e ∙ ups_unless false r.ups (sent_ups t sent) ∙ ap (λ (l : List Message). map up_message r.ups ++ l) (ups_are t sent) ∙ ap (λ (l : List Message). l ++ t.up) (as_ups r.ups m.ups same))

      ups_by : (o : Option ℕ) → seat.session ≡ o → (m r p : Mix) (y : Session) → r.ups ≡ m.ups → ((t.session ≡ Some n → ⊥) → p.ups ≡ r.ups) → (t.session ≡ Some n → p.ups ≡ unless y.hung r.ups (sent_ups t sent)) → (ups_of p ≡ ups_of m) ⊎ ((seat.session ≡ Some n) × (ups_of p ≡ ups_of m ++ t.up))
      ups_by None e m r p y same other own = inl (as_ups p.ups m.ups (other (λ mine. none n (sym (acts.session ∙ e) ∙ mine)) ∙ same))
      ups_by (Some j) e m r p y same other own = elim (same_or_not j n) [
        | inl mine ↦ elim (sends_up y.hung m r p same (own (acts.session ∙ e ∙ ap (λ (z : ℕ). Some z) mine))) [ inl q ↦ inl q | inr q ↦ inr (e ∙ ap (λ (z : ℕ). Some z) mine, q) ]
        | inr apart ↦ inl (as_ups p.ups m.ups (other (λ mine. apart (some_is j n (sym (acts.session ∙ e) ∙ mine))) ∙ same))
      ]

  module _ (clock at_ now : ℕ) (noted more : List Noted) (le : clock ≤ at_) (grows : (x : Noted) → IsAmong x noted → IsAmong x more) (h : Claimed noted clock k ms) (calls : AreCalls t.up) where
    claim_ups : (n : ℕ) (a : ActAt k ms mid t (mixes_after mid t sent) seat n) (behind : List Message) (c : Claim) → (seat.session ≡ Some n → Spare c.file t.up) → IsClaim k.server at_ c (way_of a.x a.m) behind → IsClaim k.server at_ c (way_of a.y a.p) behind
    claim_ups n a behind c spare q = by a.ups
      where
        moved : (us : List Message) → ups_of a.p ≡ us → IsClaim k.server at_ c (record { ups = us; cut = a.x.cut }) behind → IsClaim k.server at_ c (way_of a.y a.p) behind
        moved us e w = subst (λ (b : Bool). IsClaim k.server at_ c (record { ups = ups_of a.p; cut = b }) behind) (sym a.cut) (subst (λ (l : List Message). IsClaim k.server at_ c (record { ups = l; cut = a.x.cut }) behind) (sym e) w)

        by : (ups_of a.p ≡ ups_of a.m) ⊎ ((seat.session ≡ Some n) × (ups_of a.p ≡ ups_of a.m ++ t.up)) → IsClaim k.server at_ c (way_of a.y a.p) behind
        by (inl e) = moved (ups_of a.m) e q
        by (inr e) = moved (ups_of a.m ++ t.up) e.1 (claim_asked k.server at_ c (ups_of a.m) t.up a.x.cut behind calls (spare e.0) q)

    -- by then, with these behind it
    pub claim_way : (n : ℕ) (a : ActAt k ms mid t (mixes_after mid t sent) seat n) (behind : List Message) (file version base : ℕ) → (seat.session ≡ Some n → Spare file t.up) → IsClaim k.server clock (claim_of n file version base) (way_of a.x a.m) behind → IsClaim t.core.server at_ (claim_of n file version base) (way_of a.y a.p) behind
    claim_way n a behind file version base spare q =
        let b = q.0 in
        subst (λ (z : server.State). IsClaim z at_ (claim_of n file version base) (way_of a.y a.p) behind) (sym acts.server)
        (claim_ups n a behind (claim_of n file version base) spare (omega (arith, b, le), safe_later k.server clock at_ (claim_of n file version base) (way_of a.x a.m) behind le q.1))

    claim_heard : (n : ℕ) (a : ActAt k ms mid t (mixes_after mid t sent) seat n) (c : Claim) → IsClaim k.server clock c (way_of a.x a.m) (downs_of a.m.downs) → IsClaim k.server clock c (way_of a.x a.m) (downs_of a.p.downs)
    claim_heard n a c q = by a.downs
      where
        by : (a.p.downs ≡ a.m.downs) ⊎ ((seat.session ≡ Some n) × (d : Told) × (a.m.downs ≡ Tells d ∷ a.p.downs)) → IsClaim k.server clock c (way_of a.x a.m) (downs_of a.p.downs)
        by (inl e) = subst (λ (l : List Down). IsClaim k.server clock c (way_of a.x a.m) (downs_of l)) (sym e) q
        by (inr e) =
            let w = subst (λ (l : List Down). IsClaim k.server clock c (way_of a.x a.m) (downs_of l)) e.2 q in
            (w.0, safe_heard k.server clock c (way_of a.x a.m) (told_message e.1) (downs_of a.p.downs) (λ x. not_recall e.1 x c.file) w.1)

    pub act_goes : (n : ℕ) (x : Session) → numbered k.sessions n ≡ Some x → Goes clock at_ k t.core ms (mixes_after mid t sent) n (λ f. seat.session ≡ Some n → Spare f t.up)
    act_goes n x at =
        let a = act_at n x at in
        record {
          was = a.x;
          mix = a.m;
          is = a.y;
          mixed = a.p;
          was_there = a.x_there;
          mix_there = a.m_there;
          is_there = a.y_there;
          mixed_there = a.p_there;
          owner = a.owner;
          claims = λ file version base spare c. claim_way n a (downs_of a.p.downs) file version base spare (claim_heard n a (claim_of n file version base) c);
        }

    talk_then : (n : ℕ) (a : ActAt k ms mid t (mixes_after mid t sent) seat n) → IsTalking k.server n a.m → IsTalking t.core.server n a.p
    talk_then n a talk = subst (λ (z : server.State). IsTalking z n a.p) (sym acts.server) (ups_then a.ups (downs_then a.downs))
      where
        downs_then : (a.p.downs ≡ a.m.downs) ⊎ ((seat.session ≡ Some n) × (d : Told) × (a.m.downs ≡ Tells d ∷ a.p.downs)) → AreNumbered k.server n (ups_of a.m) (downs_of a.p.downs) × AreAwaited k.server n (ups_of a.m) (downs_of a.p.downs)
        downs_then (inl e) = (subst (λ (l : List Down). AreNumbered k.server n (ups_of a.m) (downs_of l)) (sym e) talk.numbers, subst (λ (l : List Down). AreAwaited k.server n (ups_of a.m) (downs_of l)) (sym e) talk.awaited)
        downs_then (inr e) = (
          numbers_heard k.server n (ups_of a.m) (told_message e.1) (downs_of a.p.downs) (subst (λ (l : List Down). AreNumbered k.server n (ups_of a.m) (downs_of l)) e.2 talk.numbers),
          awaited_heard k.server n (ups_of a.m) (told_message e.1) (downs_of a.p.downs) (subst (λ (l : List Down). AreAwaited k.server n (ups_of a.m) (downs_of l)) e.2 talk.awaited),
        )

        ups_then : (ups_of a.p ≡ ups_of a.m) ⊎ ((seat.session ≡ Some n) × (ups_of a.p ≡ ups_of a.m ++ t.up)) → AreNumbered k.server n (ups_of a.m) (downs_of a.p.downs) × AreAwaited k.server n (ups_of a.m) (downs_of a.p.downs) → IsTalking k.server n a.p
        ups_then (inl e) w = record { numbers = subst (λ (l : List Message). AreNumbered k.server n l (downs_of a.p.downs)) (sym e) w.0; awaited = subst (λ (l : List Message). AreAwaited k.server n l (downs_of a.p.downs)) (sym e) w.1 }
        ups_then (inr e) w = record {
          numbers = subst (λ (l : List Message). AreNumbered k.server n l (downs_of a.p.downs)) (sym e.1) (numbers_asked k.server n (ups_of a.m) t.up (downs_of a.p.downs) calls w.0);
          awaited = subst (λ (l : List Message). AreAwaited k.server n l (downs_of a.p.downs)) (sym e.1) (awaited_asked k.server n (ups_of a.m) t.up (downs_of a.p.downs) calls w.1);
        }

    term_same : t.core.server.leasing.term ≡ k.server.leasing.term
    term_same = ap (λ (z : server.State). z.leasing.term) acts.server

    -- whose a session is
    module _ (owners : (j : ℕ) (e : Seat) (n : ℕ) → numbered k.seats j ≡ Some e → e.session ≡ Some n → (x : Session) × (numbered k.sessions n ≡ Some x) × (x.owner ≡ j)) where
      not_mine : (j n : ℕ) (x : Session) → numbered k.sessions n ≡ Some x → x.owner ≡ j → (j ≡ i → ⊥) → seat.session ≡ Some n → ⊥
      not_mine j n x at own apart mine = let o = owners i seat n acts.here mine in apart (sym own ∙ ap (λ (z : Session). z.owner) (some_is x o.0 (sym at ∙ o.1)) ∙ o.2)

      -- what was promised on a session goes on, where its calls go on
      promises_go : (j n : ℕ) (a : ActAt k ms mid t (mixes_after mid t sent) seat n) (y : Session) (p : Mix) (u : Task) (was is : ℕ) → is ≡ was → numbered t.core.sessions n ≡ Some y → numbered (mixes_after mid t sent) n ≡ Some p → (seat.session ≡ Some n → Spare u.file t.up)
          → AllTails (IsPromised noted clock k j n (way_of a.x a.m) was u) a.m.downs → AllTails (IsPromised more at_ t.core j n (way_of y p) is u) p.downs
      promises_go j n a y p u was is same at there spare old =
          let same_y : a.y ≡ y = some_is a.y y (sym a.y_there ∙ at) in
          let same_p : a.p ≡ p = some_is a.p p (sym a.p_there ∙ there) in
          let left = by a.downs in
          let new = tails_map (IsPromised noted clock k j n (way_of a.x a.m) was u) (IsPromised more at_ t.core j n (way_of a.y a.p) was u)
          (λ d ds q. promised_map noted more clock at_ k t.core j n (way_of a.x a.m) (way_of a.y a.p) was u d ds ds acts.drift term_same grows (λ version base z. claim_way n a (downs_of ds) u.file version base spare z) q) a.p.downs left in
          subst (λ (z : ℕ). AllTails (IsPromised more at_ t.core j n (way_of y p) z u) p.downs) (sym same)
          (subst (λ (z : Session). AllTails (IsPromised more at_ t.core j n (way_of z p) was u) p.downs) same_y
          (subst (λ (z : Mix). AllTails (IsPromised more at_ t.core j n (way_of a.y z) was u) z.downs) same_p new))
        where
          by : (a.p.downs ≡ a.m.downs) ⊎ ((seat.session ≡ Some n) × (d : Told) × (a.m.downs ≡ Tells d ∷ a.p.downs)) → AllTails (IsPromised noted clock k j n (way_of a.x a.m) was u) a.p.downs
          by (inl e) = subst (AllTails (IsPromised noted clock k j n (way_of a.x a.m) was u)) (sym e) old
          by (inr e) = (subst (AllTails (IsPromised noted clock k j n (way_of a.x a.m) was u)) e.2 old).1

      -- another client's
      other_seat : (j : ℕ) (e : Seat) → numbered k.seats j ≡ Some e → (j ≡ i → ⊥) → HasClaims noted clock k ms j e → HasClaims more at_ t.core (mixes_after mid t sent) j e
      other_seat j e there apart c = record {
        drift = c.drift ∙ sym acts.drift;
        notes = λ f g n at is.
            (let o = c.notes f g n at is in
            note_goes noted more clock at_ k t.core ms (mixes_after mid t sent) j f n.version n.until acts.drift term_same grows o (λ f. seat.session ≡ Some o.number → Spare f t.up) (act_goes o.number o.session o.there)
            (λ mine. absurd (not_mine j o.number o.session o.there o.owner apart mine)));
        sent = λ u x task lease. (let s = c.sent u x task lease in let b = s.2 in (s.0, grows _ s.1, omega (arith, b, le)));
        promises = λ u n y p task mine at is.
            (let o = owners j e n there mine in
            let a = act_at n o.0 o.1 in
            promises_go j n a y p u e.client.sent e.client.sent refl at is (λ me. absurd (not_mine j n o.0 o.1 o.2 apart me)) (c.promises u n a.x a.m task mine a.x_there a.m_there));
      }

      -- its own: each answer on its way is to an earlier call
      own_seat : (New : (f : ℕ) → Note → Type 0) (does : ClientStep) → does.send ≡ t.up → StepKeeps now seat.client (next.client, does) New → IsAmong (noted_at i now at_) more
          → ((n : ℕ) (m : Mix) → seat.session ≡ Some n → numbered ms n ≡ Some m → AllByRecursion (IsBelow seat.client.next_xid) m.downs)
          → ((f : ℕ) (n : Note) → New f n → Spare f t.up → HasNote more at_ t.core (mixes_after mid t sent) i f n.version n.until)
          → HasClaims noted clock k ms i seat → HasClaims more at_ t.core (mixes_after mid t sent) i next
      own_seat New does up keeps known below fresh c = record {
        drift = keeps.drift ∙ c.drift ∙ sym acts.drift;
        notes = λ f g n at is. noted_then f g n at is (keeps.notes f g n at is);
        sent = λ u x task lease. sent_then u x task lease (keeps.sent u x task lease);
        promises = λ u n y p task mine at is. promised_then u n y p task (sym acts.next_session ∙ mine) at is (leasing_xid u.stage) refl;
      }
        where
          spare : (f : ℕ) → Spare f does.send → Spare f t.up
          spare f h = subst (Spare f) up h

          noted_then : (f : ℕ) (g : Kept) (n : Note) → kept_of next.client.cache f ≡ Some g → g.note ≡ Some n → HadNote seat.client.cache f n ⊎ New f n → HasNote more at_ t.core (mixes_after mid t sent) i f n.version n.until
          noted_then f g n at is (inl had) =
              let o = c.notes f had.entry n had.there had.noted in
              note_goes noted more clock at_ k t.core ms (mixes_after mid t sent) i f n.version n.until acts.drift term_same grows o (λ f. seat.session ≡ Some o.number → Spare f t.up) (act_goes o.number o.session o.there) (λ mine. spare f (keeps.stores f g n at is))
          noted_then f g n at is (inr new) = fresh f n new (spare f (keeps.stores f g n at is))

          sent_then : (u : Task) (x : ℕ) → next.client.task ≡ Some u → leasing_xid u.stage ≡ Some x → ((seat.client.next_xid ≤ x) × (next.client.sent ≡ now) × SendsLease does.send x u.file) ⊎ ((seat.client.task ≡ Some u) × (next.client.sent ≡ seat.client.sent) × (does.send ≡ []))
              → (base : ℕ) × IsAmong (noted_at i next.client.sent base) more × (base ≤ at_)
          sent_then u x task lease (inl e) = (at_, subst (λ (z : ℕ). IsAmong (noted_at i z at_) more) (sym e.1) known, omega arith)
          sent_then u x task lease (inr e) = let s = c.sent u x e.0 lease in let b = s.2 in (s.0, subst (λ (z : ℕ). IsAmong (noted_at i z s.0) more) (sym e.1) (grows _ s.1), omega (arith, b, le))

          vacuous : (n : ℕ) (way : Way) (s : ℕ) (u : Task) (ds : List Down) → ((a : Told) → leasing_xid u.stage ≡ Some a.xid → IsBelow seat.client.next_xid (Tells a) → ⊥) → AllByRecursion (IsBelow seat.client.next_xid) ds → AllTails (IsPromised more at_ t.core i n way s u) ds
          vacuous n way s u [] never h = tt
          vacuous n way s u (Tells a ∷ ds) never h = ((λ g awaits lease. absurd (never a awaits h.0)), vacuous n way s u ds never h.1)
          vacuous n way s u (Recalls x f ∷ ds) never h = (tt, vacuous n way s u ds never h.1)

          below_then : (n : ℕ) (a : ActAt k ms mid t (mixes_after mid t sent) seat n) (p : Mix) → seat.session ≡ Some n → numbered (mixes_after mid t sent) n ≡ Some p → AllByRecursion (IsBelow seat.client.next_xid) p.downs
          below_then n a p mine is = subst (λ (z : Mix). AllByRecursion (IsBelow seat.client.next_xid) z.downs) (some_is a.p p (sym a.p_there ∙ is)) (by a.downs)
            where
              by : (a.p.downs ≡ a.m.downs) ⊎ ((seat.session ≡ Some n) × (d : Told) × (a.m.downs ≡ Tells d ∷ a.p.downs)) → AllByRecursion (IsBelow seat.client.next_xid) a.p.downs
              by (inl e) = subst (AllByRecursion (IsBelow seat.client.next_xid)) (sym e) (below n a.m mine a.m_there)
              by (inr e) = (subst (AllByRecursion (IsBelow seat.client.next_xid)) e.2 (below n a.m mine a.m_there)).1

          promised_then : (u : Task) (n : ℕ) (y : Session) (p : Mix) → next.client.task ≡ Some u → seat.session ≡ Some n → numbered t.core.sessions n ≡ Some y → numbered (mixes_after mid t sent) n ≡ Some p → (o : Option ℕ) → leasing_xid u.stage ≡ o → AllTails (IsPromised more at_ t.core i n (way_of y p) next.client.sent u) p.downs
          promised_then u n y p task mine at is None lease =
              let o = owners i seat n acts.here mine in
              let a = act_at n o.0 o.1 in
              vacuous n (way_of y p) next.client.sent u p.downs (λ d awaits b. nothing_there d.xid (sym lease ∙ awaits)) (below_then n a p mine is)
          promised_then u n y p task mine at is (Some x) lease =
              let o = owners i seat n acts.here mine in
              let a = act_at n o.0 o.1 in
              elim (keeps.sent u x task lease) [
                | inl e ↦ vacuous n (way_of y p) next.client.sent u p.downs (λ d awaits b. (let same : x ≡ d.xid = some_is x d.xid (sym lease ∙ awaits) in let far = e.0 in absurd (omega (arith, same, far, b)))) (below_then n a p mine is)
                | inr e ↦ promises_go i n a y p u seat.client.sent next.client.sent e.1 at is (λ me. spare u.file (subst (Spare u.file) (sym e.2) tt)) (c.promises u n a.x a.m e.0 mine a.x_there a.m_there)
              ]

      pub acts_claimed : (New : (f : ℕ) → Note → Type 0) (does : ClientStep) → does.send ≡ t.up → StepKeeps now seat.client (next.client, does) New → IsAmong (noted_at i now at_) more
          → ((n : ℕ) (m : Mix) → seat.session ≡ Some n → numbered ms n ≡ Some m → AllByRecursion (IsBelow seat.client.next_xid) m.downs)
          → ((f : ℕ) (n : Note) → New f n → Spare f t.up → HasNote more at_ t.core (mixes_after mid t sent) i f n.version n.until)
          → Claimed more at_ t.core (mixes_after mid t sent)
      acts_claimed New does up keeps known below fresh = record {
        orderly = subst (λ (z : server.State). IsOrderly z at_) (sym acts.server) (orderly_later k.server clock at_ le h.orderly);
        recalls = subst (λ (z : server.State). AreRecalls z.leasing.calls) (sym acts.server) h.recalls;
        talks = λ n p at.
            (let y = also_numbered (mixes_after mid t sent) t.core.sessions n p (sym pairs_then) at in
            let x = also_numbered t.core.sessions k.sessions n y.0 (sym acts.count) y.1 in
            let a = act_at n x.0 x.1 in
            subst (λ (z : Mix). IsTalking t.core.server n z) (some_is a.p p (sym a.p_there ∙ at)) (talk_then n a (h.talks n a.m a.m_there)));
        seats = λ j e at. seats_then j e (ap (λ (l : List Seat). numbered l j) (sym acts.seats) ∙ at) (same_or_not j i);
      }
        where
          seats_then : (j : ℕ) (e : Seat) → numbered (with_numbered k.seats i next) j ≡ Some e → (j ≡ i) ⊎ (j ≡ i → ⊥) → HasClaims more at_ t.core (mixes_after mid t sent) j e
          seats_then j e at (inl mine) =
              let around = around_with k.seats i seat next acts.here in
              subst (λ (z : Seat). HasClaims more at_ t.core (mixes_after mid t sent) j z) (some_is next e (sym around.there ∙ ap (numbered (with_numbered k.seats i next)) (sym mine) ∙ at))
              (subst (λ (z : ℕ). HasClaims more at_ t.core (mixes_after mid t sent) z next) (sym mine) (own_seat New does up keeps known below fresh (h.seats i seat acts.here)))
          seats_then j e at (inr apart) =
              let around = around_with k.seats i seat next acts.here in
              let there = sym (around.others j apart) ∙ at in
              other_seat j e there apart (h.seats j e there)
