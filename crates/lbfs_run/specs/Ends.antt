-- What each end of a run says of the outside.
use Rattle.std.specs.Prelude.{◌≡◌, ◌⊎◌, ℕ, List, Option, Some, None, Bool, true, false}
use Rattle.std.specs.Io.KnownBytes.{Appends}
use Rattle.lb_base.specs.Causes.{Rose}
use Rattle.store.specs.declared.record.Kept.{Kept}
use Rattle.lbfs_server.specs.Serve.{IsBad}
use Rattle.program_words.specs.Words.{reads}
use Rattle.program_words.specs.declared.asked.Asked.{Asked}
use Rattle.program_words.specs.declared.asked.Asked.TheVariants as asked
use Rattle.lbfs_run.specs.Serving.{fault_text, record_text}

-- whether the source is read
abbrev pub takes_input : Option Asked → Bool
takes_input None = false
takes_input (Some (asked.Command c)) = reads (Some c)
takes_input (Some (asked.Serve o)) = false
takes_input (Some (asked.Mount o)) = true
takes_input (Some (asked.Check o)) = false

-- the store's count of faults rose, or the record that was told is the first that breaks a rule
abbrev pub StoreFails : (faults faults' : ℕ) → Option (List Kept) → (held held' : Option (List ℕ)) → Type 0
StoreFails faults faults' records held held' =
    (Rose faults faults' × Appends held held' fault_text) ⊎ ((which : ℕ) × IsBad records which × Appends held held' (record_text which))
