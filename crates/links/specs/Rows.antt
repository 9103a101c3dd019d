-- Worked rows of the files of a host.
use Rattle.std.specs.Prelude.{◌≡◌, List, [], ◌∷◌, refl, codes, true, false}
use Rattle.links.specs.declared.files.HostFile.{HostFile}
use Rattle.links.specs.Files.{is_there, bytes_of, with_file}

abbrev two : List HostFile
two = record { name = codes "h"; bytes = codes "abc" } ∷ record { name = codes "k"; bytes = [] } ∷ []

-- a file that was put has its bytes, and the others keep theirs
put_row : bytes_of (codes "k") (with_file (codes "k") (codes "xyz") two) ≡ codes "xyz"
put_row = refl

other_row : bytes_of (codes "h") (with_file (codes "k") (codes "xyz") two) ≡ codes "abc"
other_row = refl

-- there is one of a name, however often it was put
once_row : with_file (codes "h") (codes "b") (with_file (codes "h") (codes "a") []) ≡ record { name = codes "h"; bytes = codes "b" } ∷ []
once_row = refl

absent_row : is_there (codes "hh") two ≡ false
absent_row = refl

there_row : is_there (codes "k") two ≡ true
there_row = refl
