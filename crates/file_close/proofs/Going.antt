-- A close goes on with all calls that may be under way, whatever their number is.
use Rattle.std.proofs.Common.{◌≡◌, ℕ, List, Bool, sym, ap, ◌∙◌}
use Rattle.file_close.specs.Closing.{Names, names_all, is_stored}
use Rattle.client_state.specs.State.{State}
use Rattle.file_close.specs.Storing.{goes_if, goes_on}
use Rattle.client_state.specs.declared.task.Upload.{Upload}

-- with these calls, where all chunks are stored with them or aren't
pub goes_named : (s : State) (file : ℕ) (content : List ℕ) (st : Upload) (n : Names) (b : Bool) → n ≡ names_all s.lbfs st s.next_xid → is_stored n.store ≡ b → goes_on s file content st ≡ goes_if s file content n b
goes_named s file content st n b e f = sym (ap (λ (m : Names). goes_if s file content m (is_stored m.store)) e) ∙ ap (goes_if s file content n) f
