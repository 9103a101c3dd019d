-- A fetch goes on with all calls that may be under way, whatever their number is.
use Rattle.std.proofs.Common.{◌≡◌, ℕ, List, Bool, sym, ap, ◌∙◌}
use Rattle.std.specs.Prelude.{Some}
use Rattle.wire.specs.declared.message.Pending.{Pending}
use Rattle.file_open.specs.Caching.{found_all}
use Rattle.file_open.specs.Looking.{entering_if, entering_by}
use Rattle.file_open.specs.Opening.{Reads, reads_all, is_here, looked_up}
use Rattle.client_state.specs.State.{State}
use Rattle.file_open.specs.Fetching.{reads_if, reads_on}
use Rattle.client_state.specs.declared.task.Fetch.{Fetch}

-- a fetch with these READs, where all chunks are here with them or aren't
pub reads_named : (s : State) (calls : List Pending) (file xid : ℕ) (f : Fetch) (bytes : ℕ) (r : Reads) (b : Bool) → r ≡ reads_all s.cache s.index file f s.next_xid → is_here r.fetch ≡ b
    → reads_on s calls file xid f bytes ≡ reads_if (record s { index = found_all s.index (looked_up f r) }) calls file xid r bytes b
reads_named s calls file xid f bytes r b e h =
    sym (ap (λ (m : Reads). reads_if (record s { index = found_all s.index (looked_up f m) }) calls file xid m bytes (is_here m.fetch)) e)
    ∙ ap (reads_if (record s { index = found_all s.index (looked_up f r) }) calls file xid r bytes) h

-- and what enters the index then
pub enters_named : (s : State) (file : ℕ) (f : Fetch) (r : Reads) (b : Bool) → r ≡ reads_all s.cache s.index file f s.next_xid → is_here r.fetch ≡ b → entering_by s (Some (file, f)) ≡ entering_if file f r b
enters_named s file f r b e h = sym (ap (λ (m : Reads). entering_if file f m (is_here m.fetch)) e) ∙ ap (entering_if file f r) h
