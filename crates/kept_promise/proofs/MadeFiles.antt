-- What the history says of the files of a tree once an operation has changed one of them, or let one go.
use Rattle.std.proofs.Common.{◌⊎◌, inl, inr, ◌≡◌, ℕ, ◌+◌, List, Option, Some, None, Bool, true, false, ◌==◌, refl, sym, ap, ◌∙◌, subst, arith, if◌then◌else◌}
use Rattle.std.proofs.lemmas.Bool.Decides.{nat_tests}
use Rattle.chunk_calls.specs.Files as the_files
use Rattle.register_model.specs.declared.op.Word.TheVariants as words
use Rattle.tree_reading.specs.Tree.{Tree}
use Rattle.kept_promise.proofs.Common.{File, Op, Word, Entry, Book, history, value_at, version_at, value_from, slice_get}
use Rattle.kept_promise.proofs.Marks.{marks}
use Rattle.kept_promise.proofs.Rights.{IsSound, IsUnmade}
use Rattle.kept_promise.proofs.Growth.{Grows, or_later, value_alike, version_alike}
use Rattle.kept_promise.proofs.History.{made_book, grows_made, value_now, version_now, marks_else}
use Rattle.kept_promise.proofs.Facts.{FileIs}
use Rattle.kept_promise.proofs.Unused.{IsUnused, file_used}
use Rattle.server_law.proofs.lemmas.Trees.{IsGiven}

-- a file that is what it was, in the version that it had
pub file_alike : (book more : Book) (made ended : Option ℕ) (f : ℕ) (g : Option File) → Grows book more made ended → value_at more f (more.steps + 1) ≡ value_at book f (book.steps + 1) → version_at more f (more.steps + 1) ≡ version_at book f (book.steps + 1) → FileIs book f g → FileIs more f g
file_alike book more made ended f None grows value version h = value ∙ h
file_alike book more made ended f (Some g) grows value version h = (h.0, h.1, h.2, record { value = h.3.value; is = value ∙ h.3.is; size = h.3.size; same = or_later book more made ended _ _ grows (λ e. e) h.3.same }, version ∙ h.4, h.5)

two : (n : ℕ) → n + 2 ≡ n + 1 + 1
two n = omega arith

-- what is so two steps on
pub at_two : (P : ℕ → Type 0) (n : ℕ) → P (n + 2) → P (n + 1 + 1)
at_two P n h = subst P (two n) h

-- any other file is as it was
pub others_alike : (book : Book) (es : List Entry) (f j : ℕ) (o : Op) (g : ℕ) → slice_get book.ops j ≡ Some o → IsUnmade o → (f ≡ g → ⊥) → IsSound book → (let more = made_book book es j f o in (value_at more g (more.steps + 1) ≡ value_at book g (book.steps + 1)) × (version_at more g (more.steps + 1) ≡ version_at book g (book.steps + 1)))
others_alike book es f j o g at u apart sound =
    let more = made_book book es j f o in
    let same : marks g (book.steps + 1 + 1) (history more).ops ≡ marks g (book.steps + 1) (history book).ops = at_two (λ n. marks g n (history more).ops ≡ marks g (book.steps + 1) (history book).ops) book.steps (marks_else book es f j o g at u apart sound) in
    (value_alike book more g (book.steps + 1 + 1) (book.steps + 1) refl same, version_alike book more g (book.steps + 1 + 1) (book.steps + 1) refl same)

-- the file itself is what the operation left, in the next version
pub own_alike : (book : Book) (es : List Entry) (f j : ℕ) (o : Op) → slice_get book.ops j ≡ Some o → IsUnmade o → IsSound book → (let more = made_book book es j f o in (value_at more f (more.steps + 1) ≡ value_from o.word o.value) × (version_at more f (more.steps + 1) ≡ version_at book f (book.steps + 1) + 1))
own_alike book es f j o at u sound =
    let more = made_book book es j f o in
    (at_two (λ n. value_at more f n ≡ value_from o.word o.value) book.steps (value_now book es f j o at u sound), at_two (λ n. version_at more f n ≡ version_at book f (book.steps + 1) + 1) book.steps (version_now book es f j o at u sound))

-- ---- a file goes

-- a remove, or a rename over a file, lets it go
abbrev pub LetsGo : Word → Type 0
LetsGo w = (w ≡ words.Remove) ⊎ (w ≡ words.Rename)

lets_not_close : (w : Word) → LetsGo w → w ≡ words.Close → ⊥
lets_not_close w (inl e) close = absurd (apart (sym e ∙ close))
  where
    apart : words.Remove ≡ words.Close → ⊥
    apart e = absurd cc
lets_not_close w (inr e) close = absurd (apart (sym e ∙ close))
  where
    apart : words.Rename ≡ words.Close → ⊥
    apart e = absurd cc

-- what it leaves
pub leaves_none : (w : Word) (x : List ℕ) → LetsGo w → value_from w x ≡ None
leaves_none w x (inl e) = ap (λ (z : Word). value_from z x) e
leaves_none w x (inr e) = ap (λ (z : Word). value_from z x) e

-- the files of the tree then
pub gone_files : (book : Book) (es : List Entry) (j : ℕ) (o : Op) (id : ℕ) (t after : Tree) → slice_get book.ops j ≡ Some o → IsUnmade o → LetsGo o.word → IsSound book → ((f : ℕ) → the_files.file_at after f ≡ (if id == f then None else the_files.file_at t f))
    → ((f : ℕ) → FileIs book f (the_files.file_at t f)) → (f : ℕ) → FileIs (made_book book es j id o) f (the_files.file_at after f)
gone_files book es j o id t after at u goes sound is held f = subst (FileIs more f) (sym (is f)) (by (id == f) refl)
  where
    more : Book
    more = made_book book es j id o

    grows : Grows book more (Some j) None
    grows = grows_made book es id j o (λ close. absurd (lets_not_close o.word goes close)) at u

    gone : FileIs more id None
    gone = (own_alike book es id j o at u sound).0 ∙ leaves_none o.word o.value goes

    by : (b : Bool) → (id == f) ≡ b → FileIs more f (if b then None else the_files.file_at t f)
    by true is = let same : id ≡ f = grind (arith, nat_tests, is) in subst (λ (i : ℕ). FileIs more i None) same gone
    by false is =
        let apart : id ≡ f → ⊥ = λ same. (let z : (id == f) ≡ true = grind (arith, nat_tests, same) in absurd cc) in
        let same = others_alike book es id j o f at u apart sound in
        file_alike book more (Some j) None f (the_files.file_at t f) grows same.0 same.1 (held f)

-- what no file has had as its number has no version
pub gone_fresh : (book : Book) (es : List Entry) (j : ℕ) (o : Op) (id : ℕ) (t : Tree) (g : File) → slice_get book.ops j ≡ Some o → IsUnmade o → IsSound book → IsGiven t → the_files.file_at t id ≡ Some g → ((f : ℕ) → IsUnused t f → version_at book f (book.steps + 1) ≡ 0) → (f : ℕ) → IsUnused t f → (let more = made_book book es j id o in version_at more f (more.steps + 1) ≡ 0)
gone_fresh book es j o id t g at u sound h there fresh f unused = (others_alike book es id j o f at u (λ same. file_used t id g h there (subst (IsUnused t) (sym same) unused)) sound).1 ∙ fresh f unused
