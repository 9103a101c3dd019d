-- Worked rows of the records that break a rule: all of them, each with the first rule that it breaks.
use Rattle.std.specs.Prelude.{◌≡◌, ℕ, List, [], ◌∷◌, map, codes, refl}
use Rattle.store.specs.declared.record.Kept.{Kept}
use Rattle.tree_load.specs.Rows.{head, kept_file, kept_directory, kept_content}
use Rattle.tree_load.specs.Rules.{broken}
use Rattle.tree_load.specs.Counts.{counts_of}
use Rattle.tree_load.specs.declared.counts.Counts.{Counts}
use Rattle.tree_load.specs.declared.rule.Broken.{Broken}
use Rattle.tree_load.specs.declared.rule.Rule.{Rule}
use Rattle.tree_load.specs.declared.rule.Rule.TheVariants as rule

abbrev at : ℕ → Rule → Broken
at k r = record { which = k; rule = r }

-- none; no record at all
row_whole : map broken ((head 3 1 ∷ kept_file 2 1 (codes "a") ∷ kept_content 2 1 [] ∷ []) ∷ [] ∷ []) ≡ [] ∷ [] ∷ []
row_whole = refl

-- several at once: a version that was not counted, a file without a content, a content without a file, a directory that isn't there
row_several : broken (head 9 1 ∷ kept_file 2 1 (codes "a") ∷ kept_file 3 1 (codes "b") ∷ kept_directory 4 7 (codes "d") ∷ kept_content 2 2 [] ∷ kept_content 5 1 [] ∷ []) ≡ at 2 rule.NoContent ∷ at 3 rule.NoDirectory ∷ at 4 rule.Version ∷ at 5 rule.NoFile ∷ []
row_several = refl

-- no head, and a head past its limits: no id and no version of the others is past the widest
row_headless : map broken ((kept_file 2 1 (codes "a") ∷ kept_content 2 9 [] ∷ []) ∷ (head 2 4294967296 ∷ kept_file 2 1 (codes "a") ∷ []) ∷ []) ≡ (at 0 rule.Headless ∷ []) ∷ (at 0 rule.HeadLimits ∷ at 1 rule.NoContent ∷ []) ∷ []
row_headless = refl

-- the other rules, each once
row_each : map broken ((head 3 1 ∷ head 3 1 ∷ []) ∷ (head 3 1 ∷ kept_directory 3 1 (codes "d") ∷ []) ∷ (head 3 1 ∷ kept_directory 2 1 (codes "d") ∷ kept_directory 2 1 (codes "e") ∷ []) ∷ (head 3 1 ∷ kept_directory 2 1 (codes ".") ∷ []) ∷ (head 4 1 ∷ kept_directory 2 1 (codes "d") ∷ kept_directory 3 1 (codes "d") ∷ []) ∷ (head 4 1 ∷ kept_directory 2 3 (codes "d") ∷ kept_directory 3 2 (codes "d") ∷ []) ∷ (head 3 1 ∷ kept_content 2 1 [] ∷ kept_directory 2 1 (codes "d") ∷ []) ∷ (head 3 1 ∷ kept_directory 2 1 (codes "d") ∷ kept_content 2 1 [] ∷ []) ∷ (head 3 1 ∷ kept_file 2 1 (codes "a") ∷ kept_content 2 1 [] ∷ kept_content 2 1 [] ∷ []) ∷ []) ≡ (at 1 rule.SecondHead ∷ []) ∷ (at 1 rule.Id ∷ []) ∷ (at 2 rule.IdTwice ∷ []) ∷ (at 1 rule.Name ∷ []) ∷ (at 2 rule.NameTwice ∷ []) ∷ (at 1 rule.Unreached ∷ at 2 rule.Unreached ∷ []) ∷ (at 2 rule.HasContent ∷ []) ∷ (at 2 rule.OfDirectory ∷ []) ∷ (at 3 rule.ContentTwice ∷ []) ∷ []
row_each = refl

row_counts : counts_of (head 9 7 ∷ kept_content 5 3 (codes "xyz") ∷ kept_file 5 8 (codes "x") ∷ kept_directory 8 1 (codes "d") ∷ kept_content 6 1 (codes "ab") ∷ []) ≡ record { files = 1; directories = 1; bytes = 5 }
row_counts = refl
