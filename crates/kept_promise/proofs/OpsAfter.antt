-- What an event makes of the operations: nothing, or one begins, or a client goes on with its own, or a change gives one its point.
use Rattle.std.proofs.Common.{◌⊎◌, inl, inr, ◌≡◌, ℕ, ◌+◌, ◌<◌, ◌≤◌, List, [], ◌∷◌, ◌++◌, Option, Some, None, Ok, true, false, refl, sym, ap, ◌∙◌, subst, arith, map}
use Rattle.client_state.specs.State as client
use Rattle.client_state.specs.declared.step.Outcome.TheVariants as outcome
use Rattle.register_model.specs.declared.op.Outcome.TheVariants as told
use Rattle.trace_ends.specs.Session.{taken_of as session_taken}
use Rattle.kept_promise.proofs.Common.{changes, changed_before, until, slice_get, slice_set, Book, ops_after, command_step, got_step, ended_by, ClientStep, Task, Op, Opening, TakenCall, op_after, Core, Seat, Event, Event.Does, Event.Hears, CoreStep, numbered, session_of, ops_with, does, happens, Moment, Queue, Command, told_message}
use Rattle.kept_promise.proofs.Lists.{some_is, nothing_there, at_replaced, of_appended, of_replaced, kept_appended, same_or_not, set_else}
use Rattle.kept_promise.proofs.Facts.{IsKept}
use Rattle.kept_promise.proofs.RunsCarried.{book_at, Step}
use Rattle.kept_promise.proofs.Actors.{acts_alone, own_op}
use Rattle.kept_promise.proofs.Marks.{unpointed, unchanging}
use Rattle.kept_promise.proofs.Counted.{AlikeUpTo, IsActor, running_past}
use Rattle.kept_promise.proofs.JobFacts.{ops_shape}
use Rattle.kept_promise.proofs.Versions.{version_in, count_replaced, count_appended, versions_whole}
use Rattle.kept_promise.proofs.Taking.{versions_after}
use Rattle.kept_promise.proofs.CommandOps.{made_by, made_later, made_point, made_quiet, made_by_now}
use Rattle.kept_promise.proofs.EventCases.{Settled, event_cases}
use Rattle.kept_promise.proofs.VersionRuns.{heard_finds, heard_shut, change_not_opened, change_versions}
use Rattle.kept_promise.proofs.Found.{cut_finds, Quietly}
use Rattle.kept_promise.proofs.Fits.{FitLaws}
use Rattle.register_model.specs.Raw.{op_of}

abbrev pub IsHears : Event → Type 0
IsHears (Hears n now bytes) = Unit {0}
IsHears e = ⊥

-- a client is told to do something
abbrev pub IsDoes : Event → Type 0
IsDoes (Does c now d) = Unit {0}
IsDoes e = ⊥

-- by which an operation may get a content
abbrev pub MayOpen : Event → Type 0
MayOpen e = IsDoes e ⊎ IsHears e

-- one begins
pub record IsBegun (e : Event) (k : Core) (ops : List Op) : Type 0 where
  pub told : IsDoes e
  pub new : Op
  pub is : ops ≡ k.ops ++ new ∷ []
  pub late : k.steps < new.begin
  -- it has no point yet, or changes nothing, as an open at once
  pub quiet : (new.point ≡ None) ⊎ (changes new.word ≡ false)
  pub point : (p : ℕ) → new.point ≡ Some p → p ≡ k.steps + 1
  -- if it has ended already, then now
  pub by : (step : ℕ) → step ≤ k.steps + 1 → until new.end step ≡ true

-- so it is no change that was made before
pub begun_unchanging : {e : Event} {k : Core} {ops : List Op} → (n : IsBegun e k ops) → (f p : ℕ) → changed_before f p n.new ≡ false
begun_unchanging n f p = elim n.quiet [ inl none ↦ unpointed f p n.new none | inr word ↦ unchanging f p n.new word ]

-- a client goes on with its own: where it heard nothing, none of a running open gets its content
pub record IsActed (e : Event) (k : Core) (ops : List Op) : Type 0 where
  pub index : ℕ
  pub seat : Seat
  pub here : numbered k.seats index ≡ Some seat
  pub after : client.State
  pub acts : ClientStep
  -- it finds no file, or its operation changes nothing
  pub finds : (p : ℕ) (o : Op) → seat.place ≡ Some p → slice_get k.ops p ≡ Some o → Quietly acts o.word
  -- nor one of an operation that has its file
  pub apart : (p : ℕ) (o : Op) → seat.place ≡ Some p → slice_get k.ops p ≡ Some o → (acts.found ≡ None) ⊎ (o.file ≡ 0)
  pub is : ops ≡ ops_with k.ops seat.place after (session_taken (session_of k.sessions seat.session)) (k.steps + 1) acts
  pub unopened : IsHears e ⊎ ((o : Op) (len : ℕ) (digest : List ℕ) → o.outcome ≡ told.Running → (op_after o after (session_taken (session_of k.sessions seat.session)) (k.steps + 1) acts).outcome ≡ told.Opened len digest → ⊥)

abbrev pub OpsAfter : Event → Core → List Op → Type 0
OpsAfter e k ops = (ops ≡ k.ops) ⊎ (IsBegun e k ops ⊎ (IsActed e k ops ⊎ Settled k ops))

abbrev pub Becomes : Event → Core → CoreStep → Type 0
Becomes e k t = OpsAfter e k t.core.ops × (k.steps ≤ t.core.steps)

running_not : (len : ℕ) (digest : List ℕ) → told.Running ≡ told.Opened len digest → ⊥
running_not len digest z = absurd cc

lost_not : (len : ℕ) (digest : List ℕ) → told.Lost ≡ told.Opened len digest → ⊥
lost_not len digest z = absurd cc

pub ops_after_event : FitLaws → (all past rest : List Moment) (opening : List Opening) (k : Core) (qs : List Queue) (e : Event) (mid after : List Queue) → Step all past rest opening k qs e mid after → Becomes e k (happens k e)
ops_after_event laws all past rest opening k qs e mid after s = event_cases laws all past rest opening k qs e mid after s (λ e t. Becomes e k t) (record {
  still = λ t still. (inr (inr (inr still.ops)), still.passes);
  begins = λ c now d seat w here small left. begins c now d seat left;
  hears = λ n now bytes s h left. (let r = got_step h.seat.client (Ok (told_message h.told)) now in (inr (inr (inl (record { index = h.session.owner; seat = h.seat; here = h.owner; after = r.0; acts = r.1; finds = heard_finds (book_at opening k all) k qs n now bytes mid s.kept h (Ok (told_message h.told)); apart = heard_shut (book_at opening k all) k qs n now bytes mid s.kept h (Ok (told_message h.told)); is = refl; unopened = inl tt }))), omega arith));
  lost = λ c seat w here. (inr (inr (inl (record { index = c; seat = seat; here = here; after = record seat.client { linked = false; task = None; forgotten = [] }; acts = ended_by seat.client.task (record { outcome = outcome.Lost; rests_on = 0 }); finds = λ p o e at. inl (cut_finds seat.client); apart = λ p o e at. inl (cut_finds seat.client); is = refl; unopened = inr (never seat seat.client.task) }))), omega arith);
})
  where
    begins : (c now : ℕ) (d : Command) (seat : Seat) → IsKept (book_at opening (does k c now d (Some seat)).core all) (does k c now d (Some seat)).core after → Becomes (Does c now d) k (does k c now d (Some seat))
    begins c now d seat left =
        let r = command_step seat.client d now in
        let new : Op = made_by k c now d seat r.0 r.1 in (
          inr (inl (record {
            new = new;
            is = refl;
            told = tt;
            late = made_later k c now d seat r.0 r.1 r.1.ended;
            quiet = made_quiet k c now d seat r.0 r.1 r.1.ended;
            point = made_point k c now d seat r.0 r.1 r.1.ended;
            by = made_by_now k c now d seat r.0 r.1 r.1.ended;
          })),
          omega arith,
        )

    never : (seat : Seat) (t : Option Task) (o : Op) (len : ℕ) (digest : List ℕ) → o.outcome ≡ told.Running → (op_after o (record seat.client { linked = false; task = None; forgotten = [] }) (session_taken (session_of k.sessions seat.session)) (k.steps + 1) (ended_by t (record { outcome = outcome.Lost; rests_on = 0 }))).outcome ≡ told.Opened len digest → ⊥
    never seat None o len digest run is = running_not len digest (sym run ∙ is)
    never seat (Some t) o len digest run is = lost_not len digest is

-- ---- what stays

-- each operation has the same part of what is past
abbrev pub StayIn : (step : ℕ) → (ops after : List Op) → Type 0
StayIn n ops after = (p : ℕ) (o : Op) → slice_get ops p ≡ Some o → (r : Op) × (slice_get after p ≡ Some r) × AlikeUpTo n o r

stay_same : (n : ℕ) (ops : List Op) → StayIn n ops ops
stay_same n ops p o at = (o, at, λ step i le. refl)

stay_replaced : (n : ℕ) (ops : List Op) (place : ℕ) (old new : Op) → slice_get ops place ≡ Some old → AlikeUpTo n old new → StayIn n ops (slice_set ops place new)
stay_replaced n ops place old new there alike p o at = elim (same_or_not p place) [
  | inr apart ↦ (o, set_else ops place p new apart ∙ at, λ step i le. refl)
  | inl same ↦
      let mine : old ≡ o = some_is old o (sym there ∙ ap (slice_get ops) (sym same) ∙ at) in
      (new, ap (slice_get (slice_set ops place new)) same ∙ at_replaced ops place new old there, subst (λ (z : Op). AlikeUpTo n z new) mine alike)
]

stay_acted : (n i : ℕ) (ops : List Op) (place : Option ℕ) (c : client.State) (taken : List TakenCall) (acts : ClientStep) → IsActor ops i place n → StayIn n ops (ops_with ops place c taken (n + 1) acts)
stay_acted n i ops None c taken acts actor = stay_same n ops
stay_acted n i ops (Some p) c taken acts actor = by (slice_get ops p) refl
  where
    by : (q : Option Op) → slice_get ops p ≡ q → StayIn n ops (ops_after ops p q c taken (n + 1) acts)
    by None e = stay_same n ops
    by (Some q) e = stay_replaced n ops p q (op_after q c taken (n + 1) acts) e (running_past q c taken n acts (actor.own p q refl e).1)

pub stays_in : (book : Book) (k : Core) (qs : List Queue) (e : Event) (ops : List Op) → IsKept book k qs → OpsAfter e k ops → StayIn k.steps k.ops ops
stays_in book k qs e ops kept (inl same) = subst (StayIn k.steps k.ops) (sym same) (stay_same k.steps k.ops)
stays_in book k qs e ops kept (inr (inl n)) = subst (StayIn k.steps k.ops) (sym n.is) (λ p o at. (o, kept_appended k.ops n.new p o at, λ step i le. refl))
stays_in book k qs e ops kept (inr (inr (inl a))) = subst (StayIn k.steps k.ops) (sym a.is) (stay_acted k.steps a.index k.ops a.seat.place a.after (session_taken (session_of k.sessions a.seat.session)) a.acts (acts_alone book k qs a.index a.seat kept a.here))
stays_in book k qs e ops kept (inr (inr (inr (inl same)))) = subst (StayIn k.steps k.ops) (sym same) (stay_same k.steps k.ops)
stays_in book k qs e ops kept (inr (inr (inr (inr s)))) = subst (StayIn k.steps k.ops) (sym s.is) (stay_replaced k.steps k.ops s.place s.op (record s.op { file = s.file; point = Some (k.steps + 1) }) s.there (λ step i le. refl))

-- and each file has the same versions up to now
pub same_versions : (k : Core) (e : Event) (ops : List Op) → OpsAfter e k ops → (f q : ℕ) → q ≤ k.steps → version_in ops f q ≡ version_in k.ops f q
same_versions k e ops by f q le = shown by
  where
    shown : OpsAfter e k ops → version_in ops f q ≡ version_in k.ops f q
    shown (inl same) = ap (λ (l : List Op). version_in l f q) same
    shown (inr (inl n)) = ap (λ (l : List Op). version_in l f q) n.is ∙ ap (λ z. z + 1) (count_appended f q k.ops n.new (begun_unchanging n f q))
    shown (inr (inr (inl a))) = ap (λ (l : List Op). version_in l f q) a.is ∙ versions_after k.ops a.seat.place a.after (session_taken (session_of k.sessions a.seat.session)) (k.steps + 1) a.acts a.finds f q
    shown (inr (inr (inr (inl same)))) = ap (λ (l : List Op). version_in l f q) same
    shown (inr (inr (inr (inr s)))) = ap (λ (l : List Op). version_in l f q) s.is ∙ ap (λ z. z + 1) (count_replaced f q k.ops s.place s.op (record s.op { file = s.file; point = Some (k.steps + 1) }) s.there (change_versions k ops s f q le))

-- with the changes by others
pub versions_all : (k : Core) (e : Event) (ops : List Op) → OpsAfter e k ops → (f q : ℕ) → q ≤ k.steps → version_in (ops ++ map op_of (happens k e).core.raws) f q ≡ version_in (k.ops ++ map op_of k.raws) f q
versions_all k e ops by f q le = versions_whole k e ops f q le (same_versions k e ops by f q le)

-- where no client was told to do something, nor heard anything, an open that has its content had it before
pub opened_before : (book : Book) (k : Core) (qs : List Queue) (e : Event) (ops : List Op) → IsKept book k qs → (MayOpen e → ⊥) → OpsAfter e k ops → (p len : ℕ) (digest : List ℕ) (r : Op) → slice_get ops p ≡ Some r → r.outcome ≡ told.Opened len digest → slice_get k.ops p ≡ Some r
opened_before book k qs e ops kept quiet by p len digest r at is = shown by
  where
    shown : OpsAfter e k ops → slice_get k.ops p ≡ Some r
    shown (inl same) = ap (λ (l : List Op). slice_get l p) (sym same) ∙ at
    shown (inr (inl n)) = absurd (quiet (inl n.told))
    shown (inr (inr (inl a))) = elim (ops_shape k.ops a.seat.place a.after (session_taken (session_of k.sessions a.seat.session)) (k.steps + 1) a.acts p r (ap (λ (l : List Op). slice_get l p) (sym a.is) ∙ at)) [
      | inr old ↦ old.1
      | inl mine ↦ elim a.unopened [
        | inl hears ↦ absurd (quiet (inr hears))
        | inr never ↦ absurd (never mine.0 len digest (own_op book k qs a.index a.seat p mine.0 kept a.here mine.1 mine.2).4 (ap (λ (z : Op). z.outcome) (sym mine.3) ∙ is))
      ]
    ]
    shown (inr (inr (inr (inl same)))) = ap (λ (l : List Op). slice_get l p) (sym same) ∙ at
    shown (inr (inr (inr (inr s)))) = elim (of_replaced k.ops s.place (record s.op { file = s.file; point = Some (k.steps + 1) }) p r (ap (λ (l : List Op). slice_get l p) (sym s.is) ∙ at)) [
      | inr old ↦ old.1
      | inl made ↦ absurd (change_not_opened book s.op len digest (kept.sound.rights s.place s.op (ap (λ (l : List Op). slice_get l s.place) kept.ops ∙ s.there)) s.unmade.0 (ap (λ (z : Op). z.outcome) (sym made.1) ∙ is))
    ]
