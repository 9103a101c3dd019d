-- Records and the files of the folder, told apart.
use Rattle.std.specs.Prelude.{ℕ, ◌==◌, Bool, true, false, if◌then◌else◌, List, [], ◌∷◌}
use Rattle.log_store.specs.declared.which.Which.{Which}
use Rattle.log_store.specs.declared.which.Which.TheVariants as which
use Rattle.log_store.specs.declared.which.FileName.{FileName}
use Rattle.log_store.specs.declared.which.FileName.TheVariants.{Record, New}

-- the two are one record
abbrev pub same_which : Which → Which → Bool
same_which which.Head which.Head = true
same_which (which.Node n) (which.Node m) = n == m
same_which (which.Content n) (which.Content m) = n == m
same_which _ _ = false

-- the two are one name
abbrev pub same : FileName → FileName → Bool
same (Record n) (Record m) = same_which n m
same (New n) (New m) = same_which n m
same _ _ = false

abbrev pub is_among : Which → List Which → Bool
is_among n [] = false
is_among n (x ∷ xs) = if same_which n x then true else is_among n xs
