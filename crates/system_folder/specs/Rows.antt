-- Worked rows of the files of a store's folder.
use Rattle.std.specs.Prelude.{◌≡◌, [], ◌∷◌, true, false, Some, None, codes, ◌++◌}
use Rattle.std.proofs.Common.{refl}
use Rattle.log_store.specs.declared.which.Which.TheVariants as which
use Rattle.system_files.specs.Names.{which_of, as_read, made_bytes}
use Rattle.system_folder.specs.Strangers.{begins_log, begins_reserve, begins_list}

which_row : which_of (codes "c120") ≡ Some (which.Content 120)
which_row = refl

-- a number has one spelling, so no two files hold one record
zero_row : which_of (codes "n02") ≡ None
zero_row = refl

beside_row : which_of (codes "n2~") ≡ None
beside_row = refl

-- the second name of a content's file is that of no record
made_row : which_of (codes "m120") ≡ None
made_row = refl

-- bytes that a cut of power left are read where the second name is there, and a version that was stored stays
lost_row : as_read true (0 ∷ 0 ∷ []) ≡ made_bytes
lost_row = refl

kept_row : as_read true (0 ∷ 0 ∷ 0 ∷ 0 ∷ 0 ∷ 0 ∷ 0 ∷ 2 ∷ []) ≡ 0 ∷ 0 ∷ 0 ∷ 0 ∷ 0 ∷ 0 ∷ 0 ∷ 2 ∷ []
kept_row = refl

short_content_row : as_read false (0 ∷ 0 ∷ []) ≡ 0 ∷ 0 ∷ []
short_content_row = refl

-- a text isn't a log, nor what is reserved
text_row : begins_log (codes "a diary of mine, ") ≡ false
text_row = refl

log_row : begins_log (0 ∷ 0 ∷ 0 ∷ 0 ∷ 0 ∷ 0 ∷ 1 ∷ 7 ∷ 0 ∷ 0 ∷ 0 ∷ 0 ∷ 0 ∷ 0 ∷ 2 ∷ 9 ∷ []) ≡ true
log_row = refl

empty_log_row : begins_log [] ≡ true
empty_log_row = refl

short_log_row : begins_log (0 ∷ 97 ∷ []) ≡ false
short_log_row = refl

reserve_row : begins_reserve (1 ∷ 1 ∷ 0 ∷ []) ≡ true
reserve_row = refl

other_reserve_row : begins_reserve (codes "mine") ≡ false
other_reserve_row = refl

list_row : begins_list (codes "-21") ≡ true
list_row = refl
