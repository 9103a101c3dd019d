-- Worked rows of a file that was made, and then wasn't stored: what becomes of it, and what a fetch and a sync make of it.
use Rattle.std.specs.Prelude.{◌≡◌, ℕ, List, [], ◌∷◌, true, false, codes, refl}
use Rattle.shell_walks.specs.Fetched.{Fetched, is_never_stored, is_stored_as}
use Rattle.shell_walks.specs.Storing.{is_only_made, made_as, unmade_as}
use Rattle.shell_walks.specs.Telling.{unstored_text}
use Rattle.shell_walks.specs.declared.remote.Answer.TheVariants as answer
use Rattle.shell_walks.specs.declared.remote.Seen.{Seen}
use Rattle.shell_walks.specs.declared.remote.Why.TheVariants as why

-- what a look tells of a file
abbrev file_seen : (version len : ℕ) → Seen
file_seen version len = record { id = 7; is_dir = false; version = version; len = len }

pub as_it_was_made : is_only_made (file_seen 1 0) ≡ true
as_it_was_made = refl

-- somebody stored in it: no bytes, or some
pub stored_empty : is_only_made (file_seen 2 0) ≡ false
stored_empty = refl

pub with_bytes : is_only_made (file_seen 1 3) ≡ false
with_bytes = refl

pub a_directory : is_only_made (record { id = 7; is_dir = true; version = 1; len = 0 }) ≡ false
a_directory = refl

-- what was made and then refused may stay, and so may what was lost; none does that another removed meanwhile
pub it_was_refused : made_as (answer.Failed (why.Refused 28)) ≡ answer.Left (why.Refused 28)
it_was_refused = refl

pub it_was_lost : made_as (answer.Failed why.Lost) ≡ answer.Left why.Lost
it_was_lost = refl

pub it_was_removed : made_as (answer.Failed (why.Refused 70)) ≡ answer.Failed (why.Refused 70)
it_was_removed = refl

pub it_was_stored : made_as (answer.Closed 2) ≡ answer.Closed 2
it_was_stored = refl

-- and so may one whose making was lost, but none that wasn't made
pub its_making_was_lost : unmade_as (answer.Failed why.Lost) ≡ answer.Left why.Lost
its_making_was_lost = refl

pub its_making_was_refused : unmade_as (answer.Failed (why.Refused 28)) ≡ answer.Failed (why.Refused 28)
its_making_was_refused = refl

pub what_is_said_of_it : unstored_text (answer.Left (why.Refused 28)) ≡ codes "the server has no more room; a new file may stay there, empty"
what_is_said_of_it = refl

-- ---- an open file that has no bytes, or some

abbrev open_file : (bytes : List ℕ) → (version : ℕ) → Fetched
open_file bytes version = record { bytes = bytes; version = version }

-- it is put just now, or a put of it was stopped
pub it_is_never_stored : is_never_stored (open_file [] 1) ≡ true
it_is_never_stored = refl

pub it_was_stored_empty : is_never_stored (open_file [] 2) ≡ false
it_was_stored_empty = refl

pub it_has_bytes : is_never_stored (open_file (5 ∷ []) 1) ≡ false
it_has_bytes = refl

-- so a sync of an empty file stores that, where it was made alone
pub what_was_made_alone_is_stored : is_stored_as (open_file [] 1) [] ≡ false
what_was_made_alone_is_stored = refl

pub what_is_empty_is_the_same : is_stored_as (open_file [] 2) [] ≡ true
what_is_empty_is_the_same = refl

pub what_has_the_bytes_is_the_same : is_stored_as (open_file (5 ∷ []) 2) (5 ∷ []) ≡ true
what_has_the_bytes_is_the_same = refl

pub another_byte_is_stored : is_stored_as (open_file (5 ∷ []) 2) (6 ∷ []) ≡ false
another_byte_is_stored = refl
