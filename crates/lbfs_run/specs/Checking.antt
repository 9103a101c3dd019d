-- How looking over a store ends, and what is written then.
use Rattle.std.specs.Prelude.{◌≡◌, ℕ, List, [], Option, Some, Result, Ok, Err, Bool, true, false, map, string_bytes}
use Rattle.lb_base.specs.Causes.{Rose}
use Rattle.synced_store.specs.declared.checks.CheckedStore.{CheckedStore}
use Rattle.store.specs.declared.record.Kept.{Kept}
use Rattle.store.specs.declared.store.StoreError.{StoreError}
use Rattle.store.specs.declared.store.StoreError.TheVariants as errors
use Rattle.store_report.specs.Report.{report}
use Rattle.program_words.specs.declared.asked.CheckOptions.{CheckOptions}
use Rattle.exit_status.specs.declared.status.Status.{Status}
use Rattle.exit_status.specs.declared.status.Status.TheVariants as status
use Rattle.lbfs_run.specs.Serving.{fault_text}
use Rattle.lbfs_run.specs.Telling.{Tells}

abbrev pub whole_status : (is_whole : Bool) → Status
whole_status true = status.Done
whole_status false = status.Broken

abbrev pub told_report : Bool × List ℕ → Status × List ℕ
told_report r = (whole_status r.0, r.1)

-- the status, and what is written
abbrev pub check_output : Result CheckedStore StoreError → Status × List ℕ
check_output (Ok c) = told_report (report (map (λ w. string_bytes w) c.findings.items) c.records.items)
check_output (Err errors.Failed) = (status.Store, fault_text)
check_output (Err errors.Memory) = (status.Memory, [])

-- what is known of that: of a store that tells its records these were looked over, which are those at the place that was asked for; the
-- store's count of faults rose
abbrev pub CheckCause : CheckOptions → (store store' : ℕ) → (records : Option (List Kept)) → (there : List ℕ → Option (List Kept)) → Result CheckedStore StoreError → Type 0
CheckCause o store store' records there (Ok c) = (records ≡ there o.store) × ((held : List Kept) → records ≡ Some held → (c.records.items ≡ held) × (c.findings.items ≡ []))
CheckCause o store store' records there (Err errors.Failed) = Rose store store'
CheckCause o store store' records there (Err errors.Memory) = Unit {0}

-- looking over a store ended in one of these ways, with its cause, and that was written with its status
abbrev pub CheckEnds : CheckOptions → (store store' : ℕ) → (records : Option (List Kept)) → (there : List ℕ → Option (List Kept)) → (held held' : Option (List ℕ)) → Status → Type 0
CheckEnds o store store' records there held held' s =
    (looked : Result CheckedStore StoreError) × CheckCause o store store' records there looked × Tells s held held' (check_output looked)
