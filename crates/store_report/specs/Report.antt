-- What looking over a store comes to, as text.
use Rattle.std.specs.Prelude.{ℕ, List, [], ◌∷◌, ◌++◌, String, string_bytes, length, Option, Some, None, Bool, true, false, ◌&&◌, ◌==◌, slice_get, codes, decimal, flat_map}
use Rattle.std.specs.declared.alloc.Global.{Global}
use Rattle.store.specs.declared.record.Kept.{Kept}
use Rattle.store.specs.declared.record.Kept.TheVariants as kept
use Rattle.tree_load.specs.Counts.{counts_of}
use Rattle.tree_load.specs.Rules.{broken}
use Rattle.tree_load.specs.declared.counts.Counts.{Counts}
use Rattle.tree_load.specs.declared.rule.Broken.{Broken}
use Rattle.tree_load.specs.declared.rule.Rule.{Rule}
use Rattle.tree_load.specs.declared.rule.Rule.TheVariants as rule
use Rattle.store_report.specs.declared.subject.Subject.{Subject}
use Rattle.store_report.specs.declared.subject.Subject.TheVariants as subject

-- ---- a record that breaks a rule

-- which record is at fault: of one that wants another, that other
abbrev pub subject_of : Rule → Subject
subject_of rule.Headless = subject.Head
subject_of rule.HeadLimits = subject.Own
subject_of rule.SecondHead = subject.Own
subject_of rule.Id = subject.Own
subject_of rule.IdTwice = subject.Own
subject_of rule.NoDirectory = subject.Child
subject_of rule.Name = subject.Own
subject_of rule.NameTwice = subject.Own
subject_of rule.Unreached = subject.Own
subject_of rule.NoContent = subject.Content
subject_of rule.HasContent = subject.Own
subject_of rule.NoFile = subject.Node
subject_of rule.OfDirectory = subject.Own
subject_of rule.ContentTwice = subject.Own
subject_of rule.Version = subject.Own
subject_of rule.TooBig = subject.Own
subject_of rule.TreeFull = subject.Own

abbrev pub rule_text : Rule → List ℕ
rule_text rule.Headless = codes "is missing or unreadable"
rule_text rule.HeadLimits = codes "its numbers are past their limits"
rule_text rule.SecondHead = codes "a second one"
rule_text rule.Id = codes "its id is the root's, or not below the head's next"
rule_text rule.IdTwice = codes "another node has its id"
rule_text rule.NoDirectory = codes "its directory is missing, unreadable or a file"
rule_text rule.Name = codes "no directory may hold its name"
rule_text rule.NameTwice = codes "another node of its directory has its name"
rule_text rule.Unreached = codes "the root isn't above it"
rule_text rule.NoContent = codes "is missing or unreadable, and its file isn't"
rule_text rule.HasContent = codes "a directory with a content"
rule_text rule.NoFile = codes "is missing or unreadable, and its content isn't"
rule_text rule.OfDirectory = codes "the content of a directory"
rule_text rule.ContentTwice = codes "another content has its id"
rule_text rule.Version = codes "its version is 0, or past the head's count of changes"
rule_text rule.TooBig = codes "more bytes than a file may have"
rule_text rule.TreeFull = codes "with it there are more bytes than a tree may have"

abbrev pub node_name : (id : ℕ) → List ℕ
node_name id = codes "n" ++ decimal id

abbrev pub content_name : (id : ℕ) → List ℕ
content_name id = codes "c" ++ decimal id

abbrev pub name_of : Kept → List ℕ
name_of (kept.Head h) = codes "head"
name_of (kept.Node n) = node_name n.id
name_of (kept.Content c) = content_name c.id

abbrev pub id_of : Kept → ℕ
id_of (kept.Head h) = 0
id_of (kept.Node n) = n.id
id_of (kept.Content c) = c.id

abbrev pub subject_name : Subject → Kept → List ℕ
subject_name subject.Head r = codes "head"
subject_name subject.Node r = node_name (id_of r)
subject_name subject.Content r = content_name (id_of r)
subject_name subject.Own r = name_of r
subject_name subject.Child r = name_of r

abbrev pub parent_of : Kept → ℕ
parent_of (kept.Head h) = 0
parent_of (kept.Node n) = n.parent
parent_of (kept.Content c) = 0

-- and which other file that may be the fault of
abbrev pub other_text : Subject → Kept → List ℕ
other_text subject.Head r = []
other_text subject.Node r = []
other_text subject.Content r = []
other_text subject.Own r = []
other_text subject.Child r = codes ": " ++ node_name (parent_of r)

-- of the record that breaks it
abbrev pub line_of : Rule → Option Kept → List ℕ
line_of b None = []
line_of b (Some r) = subject_name (subject_of b) r ++ codes ": " ++ rule_text b ++ other_text (subject_of b) r ++ codes "\n"

abbrev pub broken_line : List Kept → Broken → List ℕ
broken_line all b = line_of b.rule (slice_get all b.which)

-- ---- all that there is to say

abbrev pub finding_line : List ℕ → List ℕ
finding_line text = text ++ codes "\n"

unfoldable pub files_text : (files : ℕ) → List ℕ
files_text n = codes "whole files " ++ decimal n

unfoldable pub directories_text : (directories : ℕ) → List ℕ
directories_text n = codes " directories " ++ decimal n

unfoldable pub bytes_text : (bytes : ℕ) → List ℕ
bytes_text n = codes " bytes " ++ decimal n ++ codes "\n"

abbrev pub whole_text : Counts → List ℕ
whole_text c = files_text c.files ++ directories_text c.directories ++ bytes_text c.bytes

-- whether the store is whole, and the text
abbrev pub report_if : (is_whole : Bool) → (findings : List (List ℕ)) → List Kept → List Broken → Bool × List ℕ
report_if true findings all bs = (true, whole_text (counts_of all))
report_if false findings all bs = (false, flat_map finding_line findings ++ flat_map (broken_line all) bs)

-- it is where nothing was found, and no record breaks a rule
abbrev pub report : (findings : List (List ℕ)) → List Kept → Bool × List ℕ
report findings all = report_if ((length findings == 0) && (length (broken all) == 0)) findings all (broken all)

-- ---- the first alone

abbrev pub text_in : Option (String Global) → Option (List ℕ)
text_in None = None
text_in (Some line) = Some (string_bytes line)

abbrev pub first_of : List Kept → List Broken → Option (List ℕ)
first_of all [] = None
first_of all (b ∷ bs) = Some (broken_line all b)

-- the line of the first record that breaks a rule, where nothing else was found
abbrev pub first_broken : (findings : List (List ℕ)) → List Kept → Option (List ℕ)
first_broken [] all = first_of all (broken all)
first_broken (f ∷ fs) all = None
