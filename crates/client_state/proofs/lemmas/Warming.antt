-- The items of a cache file, where all of their places entered.
use Rattle.std.proofs.Common.{◌≡◌, ℕ, List, Bool, true, false, ap, ◌∙◌}
use Rattle.std.specs.Prelude.{if◌then◌else◌}
use Rattle.chunk_index.specs.Index.{Indexed}
use Rattle.chunk_index.specs.Places.{indexed}
use Rattle.client_state.specs.Hints.{cached_file, laid_from, keeps_items, can_warm, WarmsIf, Warms, warms}
use Rattle.client_state.specs.State.{State}

all_if : (can : Bool) (s : State) (items : List (List ℕ)) (new : State) → WarmsIf can s items false new
    → new ≡ record s { cache = if can then (keeps_items s items).cache else s.cache; index = if can then indexed s.index cached_file (laid_from 0 items) else s.index }
all_if true s items new h = h.rest ∙ ap (λ (x : Indexed). record (keeps_items s items) { index = x }) h.enters
all_if false s items new h = h

pub all_entered : (s : State) (items : List (List ℕ)) (new : State) → Warms s items false new → new ≡ warms s items
all_entered s items new h = all_if (can_warm s.task items) s items new h
