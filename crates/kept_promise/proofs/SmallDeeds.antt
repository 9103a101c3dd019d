-- A run carries that each command is on a file by its id, of 64 bits: a line with another one is refused.
use Rattle.std.proofs.Common.{false, inl, inr, ◌≡◌, ℕ, ◌+◌, List, ◌++◌, Some, append-nil, sym, subst, [], ap, ◌∙◌, refl}
use Rattle.trace_replay.specs.Trail.{is_fresh_for}
use Rattle.kept_promise.proofs.Common.{slice_get, Opening, Core, Event, numbered, Moment, Deed, deeds_of, deed_by, joined_from, calls_from, Queue, Event.Hears, Event.Cuts}
use Rattle.kept_promise.proofs.Lists.{nothing_there, of_appended}
use Rattle.kept_promise.proofs.Locally.{deeds_more}
use Rattle.kept_promise.proofs.PathNames.{IsSmall}
use Rattle.kept_promise.proofs.RunsCarried.{moment, Carried, Step}
use Rattle.kept_promise.proofs.EventCases.{event_cases}
use Rattle.kept_promise.proofs.Fits.{FitLaws}

abbrev AreSmall : List Deed → Type 0
AreSmall ds = (i : ℕ) (d : Deed) → slice_get ds i ≡ Some d → IsSmall d.command

-- those of an event more
small_more : FitLaws → (all past rest : List Moment) (opening : List Opening) (k : Core) (qs : List Queue) (e : Event) (mid after : List Queue) → Step all past rest opening k qs e mid after → AreSmall (deeds_of past) → AreSmall (deeds_of past ++ deed_by past k e)
small_more fits all past rest opening k qs e mid after s h = event_cases fits all past rest opening k qs e mid after s (λ e t. AreSmall (deeds_of past ++ deed_by past k e)) (record {
  still = λ t still. none e (still.deedless past);
  begins = λ c now d seat s here small left. λ i x at. elim (of_appended (deeds_of past) (record { client = c; command = d; begin = k.steps + 1; joined = joined_from c false past; calls = calls_from c 0 past; fresh = is_fresh_for (numbered k.seats c) now d }) i x at) [
    | inl last ↦ subst (λ (z : Deed). IsSmall z.command) (sym last.1) small
    | inr old ↦ h i x old
  ];
  hears = λ n now bytes s w left. none (Hears n now bytes) refl;
  lost = λ c seat s here. none (Cuts c) refl;
})
  where
    none : (e : Event) → deed_by past k e ≡ [] → AreSmall (deeds_of past ++ deed_by past k e)
    none e is = subst AreSmall (sym (ap (λ l. deeds_of past ++ l) is ∙ append-nil (deeds_of past))) h

abbrev pub SmallDeeds : (all past : List Moment) → List Opening → Core → List Queue → Type 0
SmallDeeds all past opening k qs = AreSmall (deeds_of past)

pub carried_small : FitLaws → Carried SmallDeeds
carried_small fits = record {
  first = λ all opening tree count kept. λ i d at. nothing_there d at;
  steps = λ all past rest opening k qs e mid after s h. subst AreSmall (sym (deeds_more past (moment k e))) (small_more fits all past rest opening k qs e mid after s h);
  adjusts = λ all past opening k qs index seats same h. h;
}
