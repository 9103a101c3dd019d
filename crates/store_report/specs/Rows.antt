-- Worked reports.
use Rattle.std.specs.Prelude.{◌≡◌, ℕ, List, [], Some, None, ◌∷◌, ◌++◌, true, false, codes, decimal, refl}
use Rattle.tree_load.specs.Rows.{head, kept_file, kept_directory, kept_content}
use Rattle.store_report.specs.Report.{bytes_text, directories_text, files_text, first_broken, report}

row_whole : report [] (head 4 2 ∷ kept_file 2 1 (codes "a") ∷ kept_directory 3 1 (codes "d") ∷ kept_content 2 1 (codes "xyz") ∷ []) ≡ (true, files_text 1 ++ directories_text 1 ++ bytes_text 3)
row_whole = refl

row_empty : report [] [] ≡ (true, files_text 0 ++ directories_text 0 ++ bytes_text 0)
row_empty = refl

-- a line that tells this of the file of this letter and number
abbrev line : (letter : List ℕ) → (id : ℕ) → (text : List ℕ) → List ℕ
line letter id text = letter ++ decimal id ++ codes ": " ++ text ++ [] ++ codes "\n"

-- a content that is missing, one whose node is, and one past the head's count
row_broken : report [] (head 5 1 ∷ kept_file 2 1 (codes "a") ∷ kept_file 3 1 (codes "b") ∷ kept_content 2 7 [] ∷ kept_content 4 1 [] ∷ []) ≡ (false, line (codes "c") 3 (codes "is missing or unreadable, and its file isn't") ++ (line (codes "c") 2 (codes "its version is 0, or past the head's count of changes") ++ (line (codes "n") 4 (codes "is missing or unreadable, and its content isn't") ++ [])))
row_broken = refl

-- what was found stands first
row_found : report (codes "n7: not a node" ∷ codes "c2: permission denied" ∷ []) (kept_file 2 1 (codes "a") ∷ []) ≡ (false, codes "n7: not a node\n" ++ codes "c2: permission denied\n" ++ codes "head: is missing or unreadable\n" ++ (line (codes "c") 2 (codes "is missing or unreadable, and its file isn't") ++ []))
row_found = refl

-- the first alone; where a file isn't read as its record that is told by itself
row_first : first_broken [] (head 5 1 ∷ kept_file 2 1 (codes "a") ∷ kept_file 3 1 (codes "b") ∷ kept_content 2 7 [] ∷ []) ≡ Some (line (codes "c") 3 (codes "is missing or unreadable, and its file isn't"))
row_first = refl

row_first_found : first_broken (codes "n7: not a node" ∷ []) (kept_file 2 1 (codes "a") ∷ []) ≡ None
row_first_found = refl

row_none : first_broken [] (head 4 2 ∷ kept_file 2 1 (codes "a") ∷ kept_content 2 1 [] ∷ []) ≡ None
row_none = refl
