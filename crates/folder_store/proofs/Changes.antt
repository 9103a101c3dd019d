-- The edits of a change make of the files of a store's records those of the records that the change makes.
use Rattle.std.proofs.Common.{◌≡◌, ℕ, ◌==◌, Bool, true, false, not, cond, if◌then◌else◌, List, [], ◌∷◌, ◌++◌, map, Option, Some, None, Result, refl, sym, ◌∙◌, ap, ap₂, subst, true≢false, arith}
use Rattle.std.proofs.lemmas.Bool.Decides.{nat_tests}
use Rattle.std.specs.List.{filter}
use Rattle.store.specs.declared.record.Head.{Head}
use Rattle.store.specs.declared.record.Kept.{Kept}
use Rattle.store.specs.declared.record.Kept.TheVariants as kept
use Rattle.store.specs.declared.record.RecordChange.{RecordChange}
use Rattle.store.specs.declared.record.RecordChange.TheVariants as change
use Rattle.store.specs.Records.{takes_place, with_record, is_head, is_of, headless, changed_too, applied}
use Rattle.store.specs.Records as kept_records
use Rattle.log_store.specs.Names.{same_which}
use Rattle.log_store.specs.Lines.{Records, changed, made_by}
use Rattle.log_store.specs.Disk.{Disk}
use Rattle.log_store.specs.Store.{Applied}
use Rattle.log_store.proofs.lemmas.Logs.{is_same}
use Rattle.log_store.specs.declared.carrying.Unfinished.{Unfinished}
use Rattle.log_store.specs.declared.edit.Edit.{Edit}
use Rattle.log_store.specs.declared.which.Which.{Which}
use Rattle.log_store.specs.declared.which.Which.TheVariants as which
use Rattle.folder_store.specs.Folder.{head_bytes}
use Rattle.folder_store.specs.Edits.{file_of, bytes_of, files_of, Edited, edited, edits_of, edits_too, edits_in, one_or_two, two_or_none, AppliedThese}

-- ---- one record takes another's place where both have one file

same_takes : (r x : Kept) → same_which (file_of x) (file_of r) ≡ takes_place r x
same_takes (kept.Head a) (kept.Head b) = refl
same_takes (kept.Head a) (kept.Node b) = refl
same_takes (kept.Head a) (kept.Content b) = refl
same_takes (kept.Node a) (kept.Head b) = refl
same_takes (kept.Node a) (kept.Node b) = refl
same_takes (kept.Node a) (kept.Content b) = refl
same_takes (kept.Content a) (kept.Head b) = refl
same_takes (kept.Content a) (kept.Node b) = refl
same_takes (kept.Content a) (kept.Content b) = refl

-- the file of both, of the one alone, of the other, of neither
put_by : (b c t : Bool) → (b ≡ true → c ≡ t) → (t ≡ true → b ≡ c) → (one other : List ℕ) (before after : Option (List ℕ)) → after ≡ (if b then Some one else before)
    → (if t then (if b then Some one else before) else (if c then Some other else after)) ≡ (if b then Some one else (if c then Some other else before))
put_by true true true bt tb one other before after is = refl
put_by true true false bt tb one other before after is = absurd (true≢false (bt refl))
put_by true false true bt tb one other before after is = absurd (true≢false (tb refl))
put_by true false false bt tb one other before after is = is
put_by false true true bt tb one other before after is = absurd (true≢false (sym (tb refl)))
put_by false true false bt tb one other before after is = refl
put_by false false true bt tb one other before after is = refl
put_by false false false bt tb one other before after is = is

files_if : (t : Bool) (xs ys : List Kept) (n : Which) → files_of (if t then xs else ys) n ≡ (if t then files_of xs n else files_of ys n)
files_if true xs ys n = refl
files_if false xs ys n = refl

-- where the file is the record's, the other has it too where it takes the place
of_one : (r x : Kept) (n : Which) → same_which n (file_of r) ≡ true → same_which n (file_of x) ≡ takes_place r x
of_one r x n is = subst (λ (m : Which). same_which m (file_of x) ≡ takes_place r x) (sym (is_same n (file_of r) is)) (same_sym (file_of r) (file_of x) ∙ same_takes r x)
  where
    same_nat : (a b : ℕ) → (a == b) ≡ (b == a)
    same_nat a b = grind (arith, nat_tests)

    same_sym : (a b : Which) → same_which a b ≡ same_which b a
    same_sym which.Head which.Head = refl
    same_sym which.Head (which.Node b) = refl
    same_sym which.Head (which.Content b) = refl
    same_sym (which.Node a) which.Head = refl
    same_sym (which.Node a) (which.Node b) = same_nat a b
    same_sym (which.Node a) (which.Content b) = refl
    same_sym (which.Content a) which.Head = refl
    same_sym (which.Content a) (which.Node b) = refl
    same_sym (which.Content a) (which.Content b) = same_nat a b

-- where it takes the place both have one file
of_both : (r x : Kept) (n : Which) → takes_place r x ≡ true → same_which n (file_of r) ≡ same_which n (file_of x)
of_both r x n is = ap (λ (m : Which). same_which n m) (sym (is_same (file_of x) (file_of r) (same_takes r x ∙ is)))

-- a record in the place of the one that it replaces
pub put_files : (r : Kept) (xs : List Kept) (n : Which) → files_of (with_record r xs) n ≡ (if same_which n (file_of r) then Some (bytes_of r) else files_of xs n)
put_files r [] n = refl
put_files r (x ∷ xs) n =
    files_if (takes_place r x) (r ∷ xs) (x ∷ with_record r xs) n
    ∙ put_by (same_which n (file_of r)) (same_which n (file_of x)) (takes_place r x) (of_one r x n) (of_both r x n) (bytes_of r) (bytes_of x) (files_of xs n) (files_of (with_record r xs) n) (put_files r xs n)

-- ---- records that go

drop_by : (o s d : Bool) → (s ≡ true → o ≡ d) → (bytes : List ℕ) (before after : Option (List ℕ)) → after ≡ (if d then None else before)
    → (if (not o) then (if s then Some bytes else after) else after) ≡ (if d then None else (if s then Some bytes else before))
drop_by true true true sd bytes before after is = is
drop_by true true false sd bytes before after is = absurd (true≢false (sd refl))
drop_by true false true sd bytes before after is = is
drop_by true false false sd bytes before after is = is
drop_by false true true sd bytes before after is = absurd (true≢false (sym (sd refl)))
drop_by false true false sd bytes before after is = refl
drop_by false false true sd bytes before after is = is
drop_by false false false sd bytes before after is = is

cond_files : (t : Bool) (xs ys : List Kept) (n : Which) → files_of (cond t xs ys) n ≡ (if t then files_of xs n else files_of ys n)
cond_files true xs ys n = refl
cond_files false xs ys n = refl

none_if : (n : Which) (b : Bool) → files_of [] n ≡ (if b then None else files_of [] n)
none_if n true = refl
none_if n false = refl

-- those go of which their files say so
pub drop_files : (goes : Kept → Bool) (named : Which → Bool) → ((r : Kept) → goes r ≡ named (file_of r)) → (xs : List Kept) (n : Which)
    → files_of (filter (λ r. not (goes r)) xs) n ≡ (if named n then None else files_of xs n)
drop_files goes named by [] n = none_if n (named n)
drop_files goes named by (x ∷ xs) n =
    cond_files (not (goes x)) (x ∷ filter (λ r. not (goes r)) xs) (filter (λ r. not (goes r)) xs) n
    ∙ drop_by (goes x) (same_which n (file_of x)) (named n) (λ is. by x ∙ ap named (sym (is_same n (file_of x) is))) (bytes_of x) (files_of xs n) (files_of (filter (λ r. not (goes r)) xs) n) (drop_files goes named by xs n)

head_named : (r : Kept) → is_head r ≡ same_which (file_of r) which.Head
head_named (kept.Head h) = refl
head_named (kept.Node n) = refl
head_named (kept.Content c) = refl

abbrev is_file_of : ℕ → Which → Bool
is_file_of id which.Head = false
is_file_of id (which.Node m) = m == id
is_file_of id (which.Content m) = m == id

of_named : (id : ℕ) (r : Kept) → is_of id r ≡ is_file_of id (file_of r)
of_named id (kept.Head h) = refl
of_named id (kept.Node n) = refl
of_named id (kept.Content c) = refl

-- ---- edits, one behind the other

abbrev pub made : List Edited → Records → Records
made [] records n = records n
made (e ∷ es) records n = made es (λ m. if same_which m e.0 then e.1 else records m) n

edits_make : (es : List Edit) (records : Records) (n : Which) → changed es records n ≡ made (map (λ e. edited e) es) records n
edits_make [] records n = refl
edits_make (e ∷ es) records n = edits_make es (λ m. if same_which m e.which then made_by e.what else records m) n

made_same : (es : List Edited) (one other : Records) → ((n : Which) → one n ≡ other n) → (n : Which) → made es one n ≡ made es other n
made_same [] one other same n = same n
made_same (e ∷ es) one other same n = made_same es (λ m. if same_which m e.0 then e.1 else one m) (λ m. if same_which m e.0 then e.1 else other m) (λ m. ap (λ (o : Option (List ℕ)). if same_which m e.0 then e.1 else o) (same m)) n

made_behind : (es fs : List Edited) (records : Records) (n : Which) → made (es ++ fs) records n ≡ made fs (made es records) n
made_behind [] fs records n = refl
made_behind (e ∷ es) fs records n = made_behind es fs (λ m. if same_which m e.0 then e.1 else records m) n

two_go : (id : ℕ) (n : Which) (before : Option (List ℕ)) → (if same_which n (which.Content id) then None else (if same_which n (which.Node id) then None else before)) ≡ (if is_file_of id n then None else before)
two_go id which.Head before = refl
two_go id (which.Node m) before = refl
two_go id (which.Content m) before = refl

-- those of a change's part
part_makes : (c : RecordChange) (xs : List Kept) (n : Which) → made (edits_of c) (files_of xs) n ≡ files_of (kept_records.changed c xs) n
part_makes (change.Node k) xs n = sym (put_files (kept.Node k) xs n)
part_makes (change.Content k) xs n = sym (put_files (kept.Content k) xs n)
part_makes (change.Drop id) xs n = two_go id n (files_of xs n) ∙ sym (drop_files (is_of id) (is_file_of id) (of_named id) xs n)

part_too : (b : Option RecordChange) (xs : List Kept) (n : Which) → made (edits_too b) (files_of xs) n ≡ files_of (changed_too b xs) n
part_too None xs n = refl
part_too (Some c) xs n = part_makes c xs n

head_makes : (head : Head) (xs : List Kept) (n : Which) → (if same_which n which.Head then Some (head_bytes head) else files_of xs n) ≡ files_of (kept.Head head ∷ headless xs) n
head_makes head xs n = by (same_which n which.Head) (files_of xs n) (files_of (headless xs) n) (drop_files is_head (λ m. same_which m which.Head) head_named xs n)
  where
    by : (b : Bool) (before after : Option (List ℕ)) → after ≡ (if b then None else before) → (if b then Some (head_bytes head) else before) ≡ (if b then Some (head_bytes head) else after)
    by true before after is = refl
    by false before after is = sym is

-- all of a change
pub change_makes : (head : Head) (a : RecordChange) (b : Option RecordChange) (xs : List Kept) (n : Which) → made (edits_in head a b) (files_of xs) n ≡ files_of (applied head a b xs) n
change_makes head a b xs n =
    made_behind (edits_of a) (edits_too b) (λ m. if same_which m which.Head then Some (head_bytes head) else files_of xs m) n
    ∙ made_same (edits_too b) (made (edits_of a) (λ m. if same_which m which.Head then Some (head_bytes head) else files_of xs m)) (files_of (kept_records.changed a (kept.Head head ∷ headless xs)))
    (λ m. made_same (edits_of a) (λ k. if same_which k which.Head then Some (head_bytes head) else files_of xs k) (files_of (kept.Head head ∷ headless xs)) (head_makes head xs) m ∙ part_makes a (kept.Head head ∷ headless xs) m) n
    ∙ part_too b (kept_records.changed a (kept.Head head ∷ headless xs)) n

-- Edits that are a change's make of the files of records those of the records that the change makes: what `log_store` says of
-- edits is said of a store's change.
pub edits_make_the_change : (edits : List Edit) (head : Head) (a : RecordChange) (b : Option RecordChange) → map (λ e. edited e) edits ≡ edits_in head a b → (xs : List Kept) (n : Which) → changed edits (files_of xs) n ≡ files_of (applied head a b xs) n
edits_make_the_change edits head a b are xs n = edits_make edits (files_of xs) n ∙ ap (λ (es : List Edited). made es (files_of xs) n) are ∙ change_makes head a b xs n

pub these_by : {edits : List Edit} {these : List Edited} {records : Records} {past : List Records} {pending : List Which} {doubt : Bool} {old new : Disk} {result : Result (Unit {0}) Unfinished}
    → map (λ e. edited e) edits ≡ these → Applied edits records past pending doubt old new result → AppliedThese these records past pending doubt old new result
these_by {edits} are all = (edits, are, all)

pub change_by : (h : Head) (a : RecordChange) (b : Option RecordChange) (p : Edit × Option Edit) (q : Option (Edit × Option Edit)) {records : Records} {past : List Records} {pending : List Which} {doubt : Bool} {old new : Disk} {result : Result (Unit {0}) Unfinished}
    → one_or_two p ≡ edits_of a → two_or_none q ≡ edits_too b → AppliedThese ((which.Head, Some (head_bytes h)) ∷ (one_or_two p ++ two_or_none q)) records past pending doubt old new result → AppliedThese (edits_in h a b) records past pending doubt old new result
change_by h a b p q {records} {past} {pending} {doubt} {old} {new} {result} one two all =
    subst (λ (es : List Edited). AppliedThese ((which.Head, Some (head_bytes h)) ∷ es) records past pending doubt old new result) (ap₂ (λ (x y : List Edited). x ++ y) one two) all
