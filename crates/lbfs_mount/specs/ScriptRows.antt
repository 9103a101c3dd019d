-- A worked row: lines that come at once.
use Rattle.std.specs.Prelude.{◌≡◌, [], ◌∷◌, refl, codes, false}
use Rattle.lbfs_mount.specs.Script.{nothing_yet, coming}

-- two lines, an empty one, and one that lacks its end
lines_row : coming nothing_yet (codes "make a\nopen a\n\nclose") ≡ codes "make a" ∷ codes "open a" ∷ [] ∷ codes "close" ∷ []
lines_row = refl

-- a line that waits stands before what comes, and what came goes on
waiting_row : coming (record { lines = codes "make a" ∷ []; rest = codes "op"; taken = 9; ended = false }) (codes "en a\n") ≡ codes "make a" ∷ codes "open a" ∷ []
waiting_row = refl
