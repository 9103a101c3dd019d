-- The two ends of a link: records out of bytes that come, and bytes of messages that go.
use Rattle.std.specs.Prelude.{◌≡◌, ℕ, List, [], ◌∷◌, ◌++◌, map}
use Rattle.rpc_record.specs.Records.{Unread, Parts, nothing_read, fed, stream}
use Rattle.rpc_record.specs.declared.records.Fed.{Fed}
use Rattle.wire.specs.Message.{message_spell}
use Rattle.wire.specs.declared.message.Message.{Message}
use Rattle.lb_base.specs.declared.sink.GiveError.{GiveError}
use Rattle.lb_base.specs.declared.sink.GiveError.TheVariants as give
use Rattle.record_ends.specs.declared.end.End.{End}
use Rattle.record_ends.specs.declared.end.End.TheVariants as ends

-- ---- what comes

-- the records that came and were not given yet, in order, and what came behind them
pub record Kept : Type 0 where
  pub waiting : List (List ℕ)
  pub unread : Unread

abbrev pub nothing_kept : Kept
nothing_kept = record { waiting = []; unread = nothing_read }

-- all that is given from now on if these bytes come: the records, what is left of one, and why none can follow
abbrev pub coming : Kept → List ℕ → Parts
coming kept bytes =
    let step : Unread × Fed = fed kept.unread bytes in
    record { records = kept.waiting ++ step.1.records; rest = step.0.rest; spoilt = step.0.spoilt }

-- these bytes were taken and nothing was given: whatever follows them, all that is to come still is
abbrev pub Takes : Kept → List ℕ → Kept → Type 0
Takes old bytes new = (more : List ℕ) → coming old (bytes ++ more) ≡ coming new more

-- these bytes were taken and a record was given: it stands before all that is to come, whatever follows these bytes
abbrev pub Gives : Kept → List ℕ → List ℕ → Kept → Type 0
Gives old bytes r new = (more : List ℕ) → coming old (bytes ++ more) ≡ record (coming new more) { records = r ∷ (coming new more).records }

-- ---- what goes

-- the records of messages, each as one fragment
abbrev pub out_bytes : List Message → List ℕ
out_bytes messages = stream (map message_spell messages)

abbrev pub end_of_give : GiveError → End
end_of_give give.Failed = ends.Failed
end_of_give give.Memory = ends.Memory
