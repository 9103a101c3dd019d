-- A connection that is made.
use Rattle.std.specs.Prelude.{◌≡◌, ◌⊎◌, ℕ, ◌+◌, [], ◌∷◌, Bool, true, false, List, Option}
use Rattle.std.proofs.Common.{inl, inr, refl, sym, ap, ◌∙◌, subst}
use Rattle.slab.specs.Slab.{Slab}
use Rattle.server_held.specs.declared.boxes.Outbox.{Outbox}
use Rattle.server_held.specs.Boxes.{Holds, KeepsOthers}
use Rattle.wire.specs.declared.message.Message.{Message}
use Rattle.server_core.specs.declared.event.Event.TheVariants as event
use Rattle.server_core.specs.declared.event.ServerStep.{ServerStep}
use Rattle.server_rules.specs.declared.told.Told.{Told}
use Rattle.server_rules.specs.declared.told.Told.TheVariants as told
use Rattle.server_core.specs.State.{State}
use Rattle.server_core.specs.Step.{connect, has_room, Misses, nothing, lacks}
use Rattle.store.specs.declared.record.Kept.{Kept}
use Rattle.server_held.specs.Kept.{Steps, StoreKeeps}
use Rattle.server_held.proofs.Keeping.{store_more, steps_later}
use Rattle.server_held.proofs.Telling.{keeps_more}
use Rattle.server_held.specs.declared.held.SharedServer.{SharedServer}
use Rattle.server_held.specs.declared.held.Went.{Went}
use Rattle.server_held.specs.declared.held.Went.TheVariants as went
use Rattle.server_held.specs.Held.{Joined, Left, joined_as, hung}

missed_told : (s new : State) (step : ServerStep) → Misses s event.Connect new step → step.told ≡ told.Memory
missed_told s new step (nothing may left said) = ap (λ t. t.told) said
missed_told s new step (lacks l) = absurd l.1

-- where no further session may stand, nothing is changed
pub full_same : (before after : ℕ) (s new : State) (step : ServerStep) → Steps before after s event.Connect new step → step.told ≡ told.Full → new ≡ s
full_same before after s new step steps full = by_missed step.missed refl
  where
    by_room : (room : Bool) → connect s room ≡ (new, step) → new ≡ s
    by_room true is =
        let made : told.Session (s.sessions_made + 1) ≡ step.told = ap (λ p. p.1.told) is in
        let never : told.Session (s.sessions_made + 1) ≡ told.Full = made ∙ full in cc
    by_room false is = sym (ap (λ p. p.0) is)

    by_missed : (missed : Bool) → step.missed ≡ missed → new ≡ s
    by_missed true e =
        let never : told.Memory ≡ told.Full = sym (missed_told s new step (steps.1 e)) ∙ full in cc
    by_missed false e = by_room (has_room s) (steps.0 e).is

-- the session that was made has the last number
pub made_last : (before after : ℕ) (s new : State) (step : ServerStep) (session : ℕ) → Steps before after s event.Connect new step → step.told ≡ told.Session session → session ≡ new.sessions_made
made_last before after s new step session steps made = by_missed step.missed refl
  where
    by_room : (room : Bool) → connect s room ≡ (new, step) → session ≡ new.sessions_made
    by_room true is =
        let same : told.Session (s.sessions_made + 1) ≡ told.Session session = ap (λ p. p.1.told) is ∙ made in
        let last : s.sessions_made + 1 ≡ new.sessions_made = ap (λ p. p.0.sessions_made) is in cc
    by_room false is =
        let never : told.Full ≡ told.Session session = ap (λ p. p.1.told) is ∙ made in cc

    by_missed : (missed : Bool) → step.missed ≡ missed → session ≡ new.sessions_made
    by_missed true e =
        let never : told.Memory ≡ told.Session session = sym (missed_told s new step (steps.1 e)) ∙ made in cc
    by_missed false e = by_room (has_room s) (steps.0 e).is

-- where no session was made, and the server wasn't full, memory ran out
pub wanting : (t : Told) → (t ≡ told.Nothing) ⊎ (t ≡ told.Memory) ⊎ ((session : ℕ) × (xid : ℕ) × (t ≡ told.Settled session xid)) ⊎ (t ≡ told.NotReady) → went.Memory ≡ joined_as t []
wanting t (inl is) = sym (ap (λ w. joined_as w []) is)
wanting t (inr (inl is)) = sym (ap (λ w. joined_as w []) is)
wanting t (inr (inr (inl is))) = sym (ap (λ w. joined_as w []) is.2)
wanting t (inr (inr (inr is))) = sym (ap (λ w. joined_as w []) is)

keeps_all : (boxes : Slab (Outbox Message)) (session : ℕ) → KeepsOthers boxes boxes session
keeps_all boxes session = record { there = λ other messages differ holds. holds; back = λ other messages differ holds. holds }

-- the boxes of all other sessions are as before, where this one was made
others_of : {S : Type 0} (before after : ℕ) (old between : SharedServer S) (session : ℕ) (new : SharedServer S) (step : ServerStep) → Steps before after old.kept.server event.Connect between.kept.server step → step.told ≡ told.Session session → between.boxes ≡ old.boxes → KeepsOthers between.boxes new.boxes session → KeepsOthers old.boxes new.boxes between.kept.server.sessions_made
others_of before after old between session new step steps made boxes others = subst (λ z. KeepsOthers old.boxes new.boxes z) (made_last before after old.kept.server between.kept.server step session steps made) (subst (λ z. KeepsOthers z new.boxes session) boxes others)

module _ {S : Type 0} (records : S → Option (List Kept)) (faults : S → ℕ) where
  -- a session that was made is given an empty box
  pub joined : (old between : SharedServer S) (session : ℕ) (new : SharedServer S) (step : ServerStep) → Steps (faults old.kept.store) (faults between.kept.store) old.kept.server event.Connect between.kept.server step → StoreKeeps records faults old.kept between.kept → step.told ≡ told.Session session → between.boxes ≡ old.boxes → new.kept ≡ between.kept → Holds new.boxes session [] → KeepsOthers between.boxes new.boxes session → Joined records faults old (went.Open session) new
  joined old between session new step steps kept made boxes same empty others = record {
    step = step;
    between = between.kept.server;
    lost = [];
    stepped = subst (λ k. Steps (faults old.kept.store) (faults k.store) old.kept.server event.Connect between.kept.server step) (sym same) steps;
    hangs = ap (λ k. k.server) same;
    own = inl refl;
    answer = sym (ap (λ t. joined_as t []) made);
    opened = λ k is. let itself : session ≡ k = cc in subst (λ z. Holds new.boxes z []) itself empty;
    gone = tt;
    others = others_of _ _ old between session new step steps made boxes others;
    none = λ none. absurd (none session made);
    full = λ is. absurd (cc);
    store = subst (λ k. StoreKeeps records faults old.kept k) (sym same) kept;
  }

  -- or memory ran out for the box, and it was hung
  pub joined_lost : (old between lacking : SharedServer S) (session : ℕ) (new : SharedServer S) (step : ServerStep) → Steps (faults old.kept.store) (faults between.kept.store) old.kept.server event.Connect between.kept.server step → StoreKeeps records faults old.kept between.kept → step.told ≡ told.Session session → between.boxes ≡ old.boxes → lacking.kept ≡ between.kept → KeepsOthers between.boxes lacking.boxes session → Left records faults lacking session new → Joined records faults old went.Memory new
  joined_lost old between lacking session new step steps kept made boxes same keeps left =
      let after : StoreKeeps records faults between.kept new.kept = subst (λ k. StoreKeeps records faults k new.kept) same left.store in
      record {
        step = step;
        between = between.kept.server;
        lost = session ∷ [];
        stepped = steps_later (faults old.kept.store) (faults between.kept.store) (faults new.kept.store) old.kept.server event.Connect between.kept.server step after.later steps;
        hangs = left.hangs ∙ ap (λ k. hung k.server (session ∷ [])) same;
        own = inr (session, made, refl);
        answer = sym (ap (λ t. joined_as t (session ∷ [])) made);
        opened = λ k is. absurd (cc);
        gone = (left.gone, tt);
        others = others_of _ _ old between session new step steps made boxes (keeps_more between.boxes lacking.boxes new.boxes session keeps left.others);
        none = λ none. absurd (none session made);
        full = λ is. absurd (cc);
        store = store_more records faults old.kept between.kept new.kept kept after;
      }

  -- no session was made
  pub unjoined : (old : SharedServer S) (said : Went) (new : SharedServer S) (step : ServerStep) → Steps (faults old.kept.store) (faults new.kept.store) old.kept.server event.Connect new.kept.server step → StoreKeeps records faults old.kept new.kept → new.boxes ≡ old.boxes → said ≡ joined_as step.told [] → ((session : ℕ) → ¬ (said ≡ went.Open session)) → (said ≡ went.Full → step.told ≡ told.Full) → Joined records faults old said new
  unjoined old said new step steps kept boxes is shut full = record {
    step = step;
    between = new.kept.server;
    lost = [];
    stepped = steps;
    hangs = refl;
    own = inl refl;
    answer = is;
    opened = λ session said_open. absurd (shut session said_open);
    gone = tt;
    others = subst (λ z. KeepsOthers z new.boxes new.kept.server.sessions_made) boxes (keeps_all new.boxes new.kept.server.sessions_made);
    none = λ none. boxes;
    full = λ full_said. full_same _ _ old.kept.server new.kept.server step steps (full full_said);
    store = kept;
  }
