-- How looking over a store ended, from what was answered.
use Rattle.std.proofs.Common.{◌≡◌, ◌⊎◌, ℕ, List, [], Option, Some, Bool, true, false, Result, Ok, Err, refl, ap, ◌∙◌, inl, inr, arith}
use Rattle.std.specs.Prelude.{IfOk, OnOk, IsErrOf, map, string_bytes}
use Rattle.lb_base.specs.Causes.{Rose}
use Rattle.program_words.specs.declared.asked.CheckOptions.{CheckOptions}
use Rattle.exit_status.specs.declared.status.Status.{Status}
use Rattle.exit_status.specs.declared.status.Status.TheVariants as status
use Rattle.synced_store.specs.declared.checks.CheckedStore.{CheckedStore}
use Rattle.store.specs.declared.record.Kept.{Kept}
use Rattle.store.specs.declared.store.StoreError.{StoreError}
use Rattle.store.specs.declared.store.StoreError.TheVariants as errors
use Rattle.store_report.specs.Report.{report}
use Rattle.lbfs_run.specs.Checking.{CheckCause, check_output, told_report}
use Rattle.lbfs_run.specs.Ends.{StoreFails}
use Rattle.lbfs_run.specs.Telling.{Tells}

pub cause : (o : CheckOptions) (store store' : ℕ) (records : Option (List Kept)) (there : List ℕ → Option (List Kept)) (place : List ℕ) (looked : Result CheckedStore StoreError)
    → OnOk looked (records ≡ there place) → place ≡ o.store
    → IfOk looked (λ c. (held : List Kept) → records ≡ Some held → (c.records.items ≡ held) × (c.findings.items ≡ []))
    → (IsErrOf looked errors.Failed → Rose store store') → CheckCause o store store' records there looked
cause o store store' records there place (Ok c) stands is told failed = (stands ∙ ap there is, told)
cause o store store' records there place (Err errors.Failed) stands is told failed = failed refl
cause o store store' records there place (Err errors.Memory) stands is told failed = tt

-- a report's status is Done or Broken
abbrev Known : Status → Type 0
Known s = (s ≡ status.Done) ⊎ (s ≡ status.WriteFault) ⊎ (s ≡ status.Memory) ⊎ (s ≡ status.Store) ⊎ (s ≡ status.Broken)

known_report : (held held' : Option (List ℕ)) (s : Status) (r : Bool × List ℕ) → Tells s held held' (told_report r) → Known s
known_report held held' s (true, text) told = grind (arith, told)
known_report held held' s (false, text) told = grind (arith, told)

pub known : (held held' : Option (List ℕ)) (s : Status) (looked : Result CheckedStore StoreError) → Tells s held held' (check_output looked) → Known s
known held held' s (Ok c) told = known_report held held' s (report (map (λ w. string_bytes w) c.findings.items) c.records.items) told
known held held' s (Err errors.Failed) told = grind (arith, told)
known held held' s (Err errors.Memory) told = grind (arith, told)

no_store : {A : Type 0} (held held' : Option (List ℕ)) (s : Status) (r : Bool × List ℕ) → Tells s held held' (told_report r) → s ≡ status.Store → A
no_store held held' s (true, text) (inl told) e = grind (arith, told, e)
no_store held held' s (true, text) (inr told) e = grind (arith, told, e)
no_store held held' s (false, text) (inl told) e = grind (arith, told, e)
no_store held held' s (false, text) (inr told) e = grind (arith, told, e)

pub store_failed : (o : CheckOptions) (store store' : ℕ) (records : Option (List Kept)) (there : List ℕ → Option (List Kept)) (held held' : Option (List ℕ)) (s : Status) (looked : Result CheckedStore StoreError)
    → CheckCause o store store' records there looked → Tells s held held' (check_output looked) → s ≡ status.Store → StoreFails store store' records held held'
store_failed o store store' records there held held' s (Ok c) h told e = no_store held held' s (report (map (λ w. string_bytes w) c.findings.items) c.records.items) told e
store_failed o store store' records there held held' s (Err errors.Failed) h (inl told) e = inl (h, told.1)
store_failed o store store' records there held held' s (Err errors.Failed) h (inr told) e = grind (arith, told, e)
store_failed o store store' records there held held' s (Err errors.Memory) h (inl told) e = grind (arith, told, e)
store_failed o store store' records there held held' s (Err errors.Memory) h (inr told) e = grind (arith, told, e)
