-- What holds while CONDWRITEs go out.
use Rattle.std.specs.Prelude.{◌≡◌, ℕ, ◌+◌, ◌≤◌, length}
use Rattle.client_state.specs.View.{IsStore, HasXids}
use Rattle.client_state.specs.declared.task.Stage.TheVariants as stage
use Rattle.file_close.specs.declared.calls.Names.{Names}

-- what holds while CONDWRITEs go out: so many chunks were named, and this was the next xid, before
pub record IsSendingNames (named next : ℕ) (n : Names) : Type 0 where
  pub within : IsStore n.store
  pub xids : HasXids n.next_xid (stage.Storing n.store)
  pub rises : next ≤ n.next_xid
  pub counted : n.store.named ≡ named + length n.send
