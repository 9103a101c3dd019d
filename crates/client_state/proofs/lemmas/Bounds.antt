-- Bounds on what is open, and on chunks.
use Rattle.std.proofs.Common.{◌≡◌, ℕ, ◌≤◌, ◌<◌, List, [], length, subst, arith}
use Rattle.std.specs.Prelude.{slice_get, Option, Some, None, IfSome, option_map, unwrap_or}
use Rattle.std.specs.BTreeMap.{is_at}
use Rattle.std.specs.List.{All}
use Rattle.std.specs.Map.{values_of, remove_entry}
use Rattle.std.specs.Ordering.{nat_cmp}
use Rattle.std.proofs.lemmas.List.Elements.{All-get_or}
use Rattle.std.proofs.lemmas.Map.Views.{All-values-insert_entry, All-map-remove_entry, IfSome-lookup_from_All}
use Rattle.std.proofs.lemmas.Option.{slice_get_within, get_or_from_slice_get}
use Rattle.chunk_cut.specs.declared.chunk.Chunk.{Chunk}
use Rattle.client_state.specs.declared.task.Local.{Local}
use Rattle.transfer_rules.specs.Limits.{file_limit}
use Rattle.client_state.specs.State.{local_at, with_local, local_bytes}
use Rattle.client_state.specs.View.{IsChunkBounded, IsLocalBounded}

-- one more is open
pub locals_with : (es : List (ℕ × Local)) (k : ℕ) (v : Local) → All IsLocalBounded (values_of es) → length v.bytes ≤ file_limit → All IsLocalBounded (values_of (with_local es k v))
locals_with es k v a b = All-values-insert_entry nat_cmp k v IsLocalBounded es a b

-- one less is open
pub locals_without : (es : List (ℕ × Local)) (k : ℕ) → All IsLocalBounded (values_of es) → All IsLocalBounded (values_of (remove_entry (is_at (nat_cmp k)) es))
locals_without es k a = All-map-remove_entry (is_at (nat_cmp k)) (λ e. e.1) IsLocalBounded es a

-- the length of a chunk of the list has 32 bits
pub chunk_bounded : (cs : List Chunk) (i : ℕ) (c : Chunk) → All IsChunkBounded cs → slice_get cs i ≡ Some c → c.len < 4294967296
chunk_bounded cs i c a e =
    let h : IsChunkBounded c = subst IsChunkBounded (get_or_from_slice_get cs i c c e) (All-get_or IsChunkBounded cs i c (slice_get_within cs i c e) a) in
    omega (arith, h)

-- the local content of a file
pub local_small : (es : List (ℕ × Local)) (file : ℕ) → All IsLocalBounded (values_of es) → length (local_bytes es file) ≤ file_limit
local_small es file a = by (local_at es file) (IfSome-lookup_from_All IsLocalBounded (is_at (nat_cmp file)) es a)
  where
    by : (o : Option Local) → IfSome o IsLocalBounded → length (unwrap_or (option_map (λ (l : Local). l.bytes) o) []) ≤ file_limit
    by None h = omega arith
    by (Some l) h = h
