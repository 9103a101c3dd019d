-- What holds while READs go out.
use Rattle.std.specs.Prelude.{◌≡◌, ℕ, ◌+◌, ◌≤◌, length}
use Rattle.client_state.specs.View.{IsReading, HasXids}
use Rattle.client_state.specs.declared.task.Fetch.{Fetch}
use Rattle.client_state.specs.declared.task.Stage.TheVariants as stage
use Rattle.file_open.specs.declared.calls.Reads.{Reads}

-- what holds while READs go out of an attempt, before which this was the next xid
pub record IsSendingReads (f : Fetch) (next : ℕ) (r : Reads) : Type 0 where
  pub within : IsReading r.fetch
  pub xids : HasXids r.next_xid (stage.Reading r.fetch)
  pub rises : next ≤ r.next_xid
  pub counted : length r.fetch.under ≡ length f.under + length r.send
  pub further : f.asked ≤ r.fetch.asked
  pub chunks : r.fetch.chunks ≡ f.chunks
