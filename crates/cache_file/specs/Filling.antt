-- Items that are written while there is room, each digest's once.
use Rattle.std.specs.Prelude.{◌≡◌, ℕ, List, [], ◌++◌, Bool, true, false}
use Rattle.cache_file.specs.Items.{spelled}
use Rattle.cache_file.specs.Saved.{once_from, within}
use Rattle.cache_file.specs.declared.saving.Saving.{Saving}

-- of these those that are written from here on
abbrev pub written_of : Saving → List (List ℕ) → List (List ℕ)
written_of s items = within s.room (once_from s.seen.keys items)

-- those that follow, if it goes on
abbrev pub written_if : (goes : Bool) → Saving → List (List ℕ) → List (List ℕ)
written_if true s items = written_of s items
written_if false s items = []

-- of these the ones were written for which there is room
pub record Puts (s : Saving) (items : List (List ℕ)) (goes : Bool) (s' : Saving) : Type 0 where
  pub written : s'.writer ≡ s.writer ++ spelled (written_of s items)
  pub goes_on : (more : List (List ℕ)) → written_of s (items ++ more) ≡ written_of s items ++ written_if goes s' more
