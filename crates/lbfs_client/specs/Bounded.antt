-- What a client keeps is bounded: together it has at most so many bytes, or what is left of it is in use.
use Rattle.std.specs.Prelude.{◌≡◌, ◌⊎◌, ℕ, ◌≤◌, List, [], ◌∷◌, length, Some, None, slice_get, true}
use Rattle.client_cache.specs.Cache.{Entries, contents_in, files_most, kept_bytes, kept_of}
use Rattle.client_state.specs.Bounding.{in_use}
use Rattle.client_state.specs.State.{State}

-- each entry is of another file
abbrev pub IsOnce : Entries → Type 0
IsOnce [] = Unit {0}
IsOnce ((file, k) ∷ entries) = (kept_of entries file ≡ None) × IsOnce entries

-- what a client's cache is, whatever it keeps
abbrev pub IsCache : Entries → Type 0
IsCache entries = (length entries ≤ files_most) × IsOnce entries

-- each content that is kept is of a file that is open, or that an operation is under way on
abbrev pub IsAllInUse : State → Type 0
IsAllInUse s = (k : ℕ) → (c : ℕ × List ℕ) → slice_get (contents_in s.cache) k ≡ Some c → in_use s c.0 ≡ true

abbrev pub IsBounded : (most : ℕ) → State → Type 0
IsBounded most s = (kept_bytes s.cache ≤ most) ⊎ IsAllInUse s
