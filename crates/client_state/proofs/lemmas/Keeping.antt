-- What is kept of files: entries that stay there, and contents within the limit of a file.
use Rattle.std.proofs.Common.{ℕ, ◌≤◌, List, length}
use Rattle.std.specs.List.{All}
use Rattle.std.specs.Prelude.{Option, Some, None}
use Rattle.client_cache.proofs.lemmas.Held.{held_reserved, held_kept, held_evicted, held_noted, held_recalled}
use Rattle.client_cache.proofs.lemmas.There.{evicted_there, noted_there, recalled_there}
use Rattle.client_cache.specs.Cache.{Entries, reserved, with_content, without_content, with_note, without_note}
use Rattle.transfer_rules.specs.Limits.{file_limit}
use Rattle.client_state.specs.View.{IsThere, StageIsThere, TaskIsThere, IsKeptBounded}
use Rattle.client_state.specs.declared.task.Stage.{Stage}
use Rattle.client_state.specs.declared.task.Task.{Task}
use Rattle.client_state.specs.declared.task.Stage.TheVariants as stage

-- where a file keeps its entry it has it at any stage
stage_there : (old new : Entries) (file : ℕ) (p : Stage) → (IsThere old file → IsThere new file) → StageIsThere old file p → StageIsThere new file p
stage_there old new file (stage.Asking xid) stays h = stays h
stage_there old new file (stage.Rewriting xid) stays h = stays h
stage_there old new file (stage.Hashing tries xid) stays h = stays h
stage_there old new file (stage.Listing xid f) stays h = stays h
stage_there old new file (stage.Reading f) stays h = stays h
stage_there old new file (stage.Making xid temp) stays h = tt
stage_there old new file (stage.Storing st) stays h = tt
stage_there old new file (stage.Committing xid) stays h = stays h
stage_there old new file (stage.Walking xid w) stays h = tt

still_there : (old new : Entries) (t : Option Task) → ((file : ℕ) → IsThere old file → IsThere new file) → TaskIsThere old t → TaskIsThere new t
still_there old new None stays h = tt
still_there old new (Some t) stays h = stage_there old new t.file t.stage (stays t.file) h

-- a file whose entry is there has one at any stage
pub entry_there : (cache : Entries) (file : ℕ) (p : Stage) → IsThere cache file → StageIsThere cache file p
entry_there cache file (stage.Asking xid) h = h
entry_there cache file (stage.Rewriting xid) h = h
entry_there cache file (stage.Hashing tries xid) h = h
entry_there cache file (stage.Listing xid f) h = h
entry_there cache file (stage.Reading f) h = h
entry_there cache file (stage.Making xid temp) h = tt
entry_there cache file (stage.Storing st) h = tt
entry_there cache file (stage.Committing xid) h = h
entry_there cache file (stage.Walking xid w) h = tt

-- where a content is dropped the file under way still has its entry
pub task_there : (cache : Entries) (other : ℕ) (t : Option Task) → TaskIsThere cache t → TaskIsThere (without_content cache other) t
task_there cache other t h = still_there cache (without_content cache other) t (evicted_there cache other) h

-- and so it has where a note comes or goes
pub task_noted : (cache : Entries) (other version until : ℕ) (t : Option Task) → TaskIsThere cache t → TaskIsThere (with_note cache other version until) t
task_noted cache other version until t h = still_there cache (with_note cache other version until) t (noted_there cache other version until) h

pub task_recalled : (cache : Entries) (other : ℕ) (t : Option Task) → TaskIsThere cache t → TaskIsThere (without_note cache other) t
task_recalled cache other t h = still_there cache (without_note cache other) t (recalled_there cache other) h

-- ---- what is kept is within the limit of a file

pub bounded_reserved : (cache : Entries) (file : ℕ) → All IsKeptBounded cache → All IsKeptBounded (reserved cache file)
bounded_reserved cache file h = held_reserved IsKeptBounded cache file h tt

pub bounded_kept : (cache : Entries) (file version : ℕ) (bytes : List ℕ) → All IsKeptBounded cache → length bytes ≤ file_limit → All IsKeptBounded (with_content cache file version bytes)
bounded_kept cache file version bytes h small = held_kept IsKeptBounded cache file version bytes h (λ k e. small)

pub bounded_evicted : (cache : Entries) (file : ℕ) → All IsKeptBounded cache → All IsKeptBounded (without_content cache file)
bounded_evicted cache file h = held_evicted IsKeptBounded cache file h (λ k e. tt)

pub bounded_noted : (cache : Entries) (file version until : ℕ) → All IsKeptBounded cache → All IsKeptBounded (with_note cache file version until)
bounded_noted cache file version until h = held_noted IsKeptBounded cache file version until h (λ k e. e)

pub bounded_recalled : (cache : Entries) (file : ℕ) → All IsKeptBounded cache → All IsKeptBounded (without_note cache file)
bounded_recalled cache file h = held_recalled IsKeptBounded cache file h (λ k e. e)
