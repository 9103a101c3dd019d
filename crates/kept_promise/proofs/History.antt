-- The ways in which a history grows in a step: nothing of it changes, an operation is appended, one takes another form, or one takes effect.
use Rattle.std.proofs.Common.{◌⊎◌, inl, inr, ◌≡◌, ℕ, zero, suc, ◌+◌, ◌<◌, ◌≤◌, List, [], ◌∷◌, ◌++◌, length, replicate, length-append, map, lt-ltb, le-ltb, Option, Some, None, Bool, true, false, refl, sym, ap, ◌∙◌, subst, arith}
use Rattle.std.proofs.lemmas.List.{length-replicate}
use Rattle.register_model.specs.declared.op.Outcome.{Outcome}
use Rattle.register_model.specs.declared.op.Outcome.TheVariants as told
use Rattle.register_model.specs.declared.op.Word.TheVariants as words
use Rattle.register_model.specs.declared.raw.Raw.{Raw}
use Rattle.register_model.specs.declared.raw.RawKind.{RawKind}
use Rattle.register_model.specs.declared.raw.RawKind.TheVariants as raw
use Rattle.register_model.specs.Raw.{op_of, word_of}
use Rattle.trace_replay.specs.Book.{first_version}
use Rattle.tree_reading.specs.declared.entry.EntryKind.{EntryKind}
use Rattle.register_model.specs.Register.{IsFit}
use Rattle.trace_replay.specs.Faithful.{IsKind, Tells, HasJournal, left_by as left_of}
use Rattle.trace_ends.specs.Core.{is_of_file}
use Rattle.kept_promise.proofs.Common.{slice_get, slice_set, not, is_some, sha1, Entry, changes, changed_before, value_from, is_lost, is_untold, content_of, Op, Word, Book, Opening, Or, history, value_at, version_at, is_running, unwrap_or, cond, nat_lt}
use Rattle.kept_promise.proofs.Lists.{some_is, nothing_there, within, in_front, of_more, more_there, of_replicate, replicate_there, of_appended, kept_appended, of_replaced, at_replaced, else_replaced, true_and_false, at_end, count_more, set_count, of_map, map_there, map_end, append_along}
use Rattle.kept_promise.proofs.Marks.{Mark, marks, mark_of, left_by, ArePast, Inserted, AllBelow, unpointed, unchanging, too_late, elsewhere, made_before, marks_front, marks_appended, marks_neither, marks_same, marks_before, marks_elsewhere, marks_later, marks_made, all_below, inserted_among, inserted_last, inserted_count, inserted_latest}
use Rattle.kept_promise.proofs.Rights.{kind_changes, gets_file, may_point, Caused, IsRight, IsSound, IsUnmade, IsFitted, IsStranger}
use Rattle.kept_promise.proofs.Growth.{Follows, follows_same, Grows, or_later, value_seen, version_seen, version_later, right_later, fitted_later, stranger_later, value_later}

-- so many steps later, with these operations
abbrev pub onward : Book → (steps : ℕ) → List Op → Book
onward book n ops = record { lbfs = book.lbfs; opening = book.opening; ops = ops; raws = book.raws; steps = book.steps + n; journal = book.journal; entries = book.entries; moments = book.moments }

-- one step later, in which changes were made that the journal tells so
abbrev pub entered_with : Book → List Op → List Raw → List Entry → Book
entered_with book ops raws es = record { lbfs = book.lbfs; opening = book.opening; ops = ops; raws = raws; steps = book.steps + 1; journal = book.journal ++ es; entries = book.entries ++ replicate (length es) (book.steps + 1); moments = book.moments }

-- by operations, if by any
abbrev pub entered : Book → List Op → List Entry → Book
entered book ops es = entered_with book ops book.raws es

pub record Goes (book more : Book) (made ended : Option ℕ) : Type 0 where
  pub grows : Grows book more made ended
  pub raws : more.raws ≡ book.raws
  pub sound : IsSound more

-- no file changes in it
abbrev pub Still : (book more : Book) → Type 0
Still book more = (f : ℕ) → marks f (more.steps + 1) (history more).ops ≡ marks f (book.steps + 1) (history book).ops

abbrev pub Alike : (book more : Book) → Type 0
Alike book more = (f p : ℕ) → marks f p (history more).ops ≡ marks f p (history book).ops

-- where clients' operations leave the same, all do
alike_all : (book more : Book) → more.raws ≡ book.raws → ((f p : ℕ) → marks f p more.ops ≡ marks f p book.ops) → Alike book more
alike_all book more raws same f p = ap (λ (l : List Raw). marks f p (more.ops ++ map op_of l)) raws ∙ marks_front f p more.ops book.ops (map op_of book.raws) (same f p)

pub points_past : (book : Book) → IsSound book → ArePast (book.steps + 1) (history book).ops
points_past book sound k q o at e = elim (of_more book.ops (map op_of book.raws) k o at) [
  | inl own ↦ let lt = ((sound.rights k o own).pointed q e).1 in omega (arith, lt)
  | inr other ↦
      let r = of_map op_of book.raws other.0 o other.2 in
      let is : (r.0).point ≡ q = some_is (r.0).point q (ap (λ (z : Op). z.point) (sym r.2) ∙ e) in
      let le = (sound.strangers other.0 r.0 r.1).past in
      omega (arith, is, le)
]

pub still_by : (book : Book) (n : ℕ) (ops : List Op) → IsSound book → Alike book (onward book n ops) → Still book (onward book n ops)
still_by book n ops sound same f = same f (book.steps + n + 1) ∙ marks_later f (book.steps + 1) (book.steps + n + 1) (book.steps + 1) (history book).ops (points_past book sound) (omega arith) (omega arith)

-- ---- the journal

-- where an operation of a history stands once there are so many more of clients: those of others stand behind these
abbrev moved : (clients more : ℕ) → ℕ → ℕ
moved clients more k = cond (nat_lt k clients) k (k + more)

-- an operation was there before, with its point
abbrev FromOld : Book → (more k : ℕ) → Op → (p : ℕ) → Type 0
FromOld book more k q p = (j : ℕ) × (s : Op) × (slice_get (history book).ops j ≡ Some s) × (s.word ≡ q.word) × (s.point ≡ Some p) × (k ≡ moved (length book.ops) more j)

-- each operation that has a point was there with it; or its point is none of a change
abbrev OldPoint : Book → List Op → (more : ℕ) → Type 0
OldPoint book all more = (k : ℕ) (q : Op) (p : ℕ) → slice_get all k ≡ Some q → q.point ≡ Some p → FromOld book more k q p ⊎ ((changes q.word ≡ false) × ((i : ℕ) → slice_get book.entries i ≡ Some p → ⊥))

-- the same of clients' operations
abbrev OwnPoint : Book → List Op → Type 0
OwnPoint book ops = (k : ℕ) (q : Op) (p : ℕ) → slice_get ops k ≡ Some q → q.point ≡ Some p
    → ((s : Op) × (slice_get book.ops k ≡ Some s) × (s.word ≡ q.word) × (s.point ≡ Some p)) ⊎ ((changes q.word ≡ false) × ((i : ℕ) → slice_get book.entries i ≡ Some p → ⊥))

own_old : (book : Book) (more k : ℕ) (q s : Op) (p : ℕ) → slice_get book.ops k ≡ Some s → s.word ≡ q.word → s.point ≡ Some p → FromOld book more k q p
own_old book more k q s p at word point = let lt = within book.ops k s at in (k, s, in_front book.ops (map op_of book.raws) k s at, word, point, ap (λ b. cond b k (k + more)) (sym (lt-ltb k (length book.ops) lt)))

-- those of others stay as they are
others_old : (book : Book) (ops : List Op) (more j : ℕ) (q : Op) (p : ℕ) → length ops ≡ length book.ops + more → slice_get (map op_of book.raws) j ≡ Some q → q.point ≡ Some p → FromOld book more (length ops + j) q p
others_old book ops more j q p count at point = (length book.ops + j, q, more_there book.ops (map op_of book.raws) j q at, refl, point, omega (arith, count) ∙ ap (λ b. cond b (length book.ops + j) (length book.ops + j + more)) (sym (le-ltb (length book.ops + j) (length book.ops) (omega arith))))

old_points : (book : Book) (ops : List Op) (more : ℕ) → length ops ≡ length book.ops + more → OwnPoint book ops → OldPoint book (ops ++ map op_of book.raws) more
old_points book ops more count own k q p at point = elim (of_more ops (map op_of book.raws) k q at) [
  | inl here ↦ elim (own k q p here point) [ inl s ↦ inl (own_old book more k q s.0 p s.1 s.2 s.3) | inr n ↦ inr n ]
  | inr other ↦ inl (subst (λ (i : ℕ). FromOld book more i q p) (sym other.1) (others_old book ops more other.0 q p count other.2 point))
]

-- where each operation of a history is later
all_later : (book more : Book) (made ended : Option ℕ) → Grows book more made ended → (k : ℕ) (o : Op) → slice_get (history book).ops k ≡ Some o → changes o.word ≡ true → (m : ℕ) × (r : Op) × (slice_get (history more).ops m ≡ Some r) × (r.word ≡ o.word) × ((p : ℕ) → o.point ≡ Some p → (r.point ≡ Some p) × (r.file ≡ o.file)) × (r.value ≡ o.value)
all_later book more made ended g k o at change = elim (of_more book.ops (map op_of book.raws) k o at) [
  | inl own ↦ let r = g.each k o own in (k, r.0, in_front more.ops (map op_of more.raws) k r.0 r.1, r.2.word, r.2.point change, r.2.value change)
  | inr other ↦
      let r = of_map op_of book.raws other.0 o other.2 in
      (length more.ops + other.0, o, more_there more.ops (map op_of more.raws) other.0 o (map_there op_of more.raws other.0 r.0 (g.raws_kept other.0 r.0 r.1) ∙ ap (λ (z : Op). Some z) (sym r.2)), refl, λ p e. (e, refl), refl)
]

-- what a change left of its file
left_stays : (o r : Op) → r.word ≡ o.word → r.value ≡ o.value → left_of r ≡ left_of o
left_stays o r w v = ap (λ (z : Word). unwrap_or (value_from z r.value) []) w ∙ ap (λ (x : List ℕ). unwrap_or (value_from o.word x) []) v

-- what an entry tells stays so
pub tells_later : (book more : Book) (made ended : Option ℕ) (p : ℕ) (e : Entry) → Grows book more made ended → p ≤ book.steps → Tells book p e → Tells more p e
tells_later book more made ended p e g le m =
    let o : Op = m.1 in
    let change : changes o.word ≡ true = kind_changes o.word e.kind m.3 in
    let r = all_later book more made ended g m.0 o m.2 change in
    let point = r.4 p m.4 in
    let left = left_stays o r.1 r.3 r.5 in
    (r.0, r.1, r.2, subst (λ (w : Word). IsKind w e.kind) (sym r.3) m.3, point.0, point.1 ∙ m.5, ap length left ∙ m.6, or_later book more made ended _ _ g (λ q. ap sha1 left ∙ q) m.7, m.8 ∙ ap (λ v. v + 1) (sym (version_later book more made ended e.file p g (omega (arith, le)))))

journal_grown : (book : Book) (n : ℕ) (ops : List Op) (more : ℕ) (made ended : Option ℕ) → Grows book (onward book n ops) made ended → OldPoint book (ops ++ map op_of book.raws) more → IsSound book → HasJournal (onward book n ops)
journal_grown book n ops more made ended g was sound = record {
  count = sound.journal.count;
  rising = sound.journal.rising;
  apart = sound.journal.apart;
  made = λ i p e at is file. tells_later book (onward book n ops) made ended p e g (sound.past i p at).1 (sound.journal.made i p e at is file);
  only = λ k p o at c e. elim (was k o p at e) [
    | inl s ↦ sound.journal.only s.0 p s.1 s.2 (ap changes s.3 ∙ c) s.4
    | inr n ↦ absurd (true_and_false (changes o.word) c n.0)
  ];
  once = λ k m p o q at is c e d. elim (was k o p at e) [
    | inr n ↦ absurd (true_and_false (changes o.word) c n.0)
    | inl s ↦ elim (was m q p is d) [
      | inl t ↦ s.5 ∙ ap (moved (length book.ops) more) (sound.journal.once s.0 t.0 p s.1 t.1 s.2 t.2 (ap changes s.3 ∙ c) s.4 t.4) ∙ sym t.5
      | inr n ↦ let i = sound.journal.only s.0 p s.1 s.2 (ap changes s.3 ∙ c) s.4 in absurd (n.1 i.0 i.2)
    ]
  ];
}

past_grown : (book : Book) (n i p : ℕ) → IsSound book → slice_get book.entries i ≡ Some p → (0 < p) × (p ≤ book.steps + n)
past_grown book n i p sound at = let r = sound.past i p at in let le = r.1 in (r.0, omega (arith, le))

-- ---- nothing of it changes

pub grows_same : (book : Book) (n : ℕ) → Grows book (onward book n book.ops) None None
grows_same book n = record { lbfs = refl; opening = refl; happened = λ m h. h; hashed = λ b h. h; passes = omega arith; steps_kept = λ j p e. e; entries_new = λ j p e. inl e; journal_kept = λ j e at. at; values = λ f p le. refl; raws_kept = λ j r e. e; each = λ k o at. (o, at, follows_same book None None k o) }

pub goes_same : (book : Book) (n : ℕ) → IsSound book → Goes book (onward book n book.ops) None None
goes_same book n sound = record {
  grows = grows_same book n;
  raws = refl;
  sound = record {
    rights = λ k o at. right_later book (onward book n book.ops) None None o (grows_same book n) (sound.rights k o at);
    fits = λ k o at. fitted_later book (onward book n book.ops) None None o o (grows_same book n) refl (λ c. (refl, refl)) (sound.rights k o at) (sound.fits k o at);
    strangers = λ k r at. stranger_later book (onward book n book.ops) None None r (grows_same book n) (sound.strangers k r at);
    journal = journal_grown book n book.ops 0 None None (grows_same book n) (old_points book book.ops 0 (omega arith) (λ k q p at e. inl (q, at, refl, e))) sound;
    past = λ i p at. past_grown book n i p sound at;
    alike = sound.alike;
  };
}

pub still_same : (book : Book) (n : ℕ) → IsSound book → Still book (onward book n book.ops)
still_same book n sound = still_by book n book.ops sound (λ f p. refl)

-- ---- one is appended, which has no point, or one that is no change's

-- it makes no change: its point, if it has one, is none of a change
abbrev pub MakesNone : Book → Op → Type 0
MakesNone book new = (p : ℕ) → new.point ≡ Some p → (changes new.word ≡ false) × ((i : ℕ) → slice_get book.entries i ≡ Some p → ⊥)

pub makes_none : (book : Book) (new : Op) → new.point ≡ None → MakesNone book new
makes_none book new none p e = nothing_there p (sym none ∙ e)

no_mark : (book : Book) (f p : ℕ) (new : Op) → MakesNone book new → (changed_before f p new ≡ false)
no_mark book f p new h = by (changes new.word) refl
  where
    none : (o : Option ℕ) → new.point ≡ o → changes new.word ≡ true → o ≡ None
    none None e c = refl
    none (Some q) e c = absurd (true_and_false (changes new.word) c (h q e).0)

    by : (b : Bool) → changes new.word ≡ b → changed_before f p new ≡ false
    by true c = unpointed f p new (none new.point refl c)
    by false c = unchanging f p new c

added_alike : (book : Book) (new : Op) → MakesNone book new → Alike book (onward book 1 (book.ops ++ new ∷ []))
added_alike book new h = alike_all book (onward book 1 (book.ops ++ new ∷ [])) refl (λ f p. marks_appended f p book.ops new (no_mark book f p new h))

one_longer : (book : Book) (new : Op) → length (book.ops ++ new ∷ []) ≡ length book.ops + 1
one_longer book new = let e = count_more book.ops new in omega (arith, e)

pub grows_added : (book : Book) (new : Op) → MakesNone book new → Grows book (onward book 1 (book.ops ++ new ∷ [])) None None
grows_added book new h = record { lbfs = refl; opening = refl; happened = λ m h. h; hashed = λ b h. h; passes = omega arith; steps_kept = λ j p e. e; entries_new = λ j p e. inl e; journal_kept = λ j e at. at; values = λ f p le. added_alike book new h f p; raws_kept = λ j r e. e; each = λ k o at. (o, kept_appended book.ops new k o at, follows_same book None None k o) }

pub goes_added : (book : Book) (new : Op) → MakesNone book new → IsRight (onward book 1 (book.ops ++ new ∷ [])) new → IsSound book → Goes book (onward book 1 (book.ops ++ new ∷ [])) None None
goes_added book new h right sound = record {
  grows = grows_added book new h;
  raws = refl;
  sound = record {
    rights = λ k o at. elim (of_appended book.ops new k o at) [
      | inl is ↦ subst (IsRight (onward book 1 (book.ops ++ new ∷ []))) (sym is.1) right
      | inr was ↦ right_later book (onward book 1 (book.ops ++ new ∷ [])) None None o (grows_added book new h) (sound.rights k o was)
    ];
    fits = λ k o at. elim (of_appended book.ops new k o at) [
      | inl is ↦ λ c p e. absurd (true_and_false (changes o.word) c (subst (λ (z : Op). (p : ℕ) → z.point ≡ Some p → changes z.word ≡ false) (sym is.1) (λ q f. (h q f).0) p e))
      | inr was ↦ fitted_later book (onward book 1 (book.ops ++ new ∷ [])) None None o o (grows_added book new h) refl (λ c. (refl, refl)) (sound.rights k o was) (sound.fits k o was)
    ];
    strangers = λ k r at. stranger_later book (onward book 1 (book.ops ++ new ∷ [])) None None r (grows_added book new h) (sound.strangers k r at);
    journal = journal_grown book 1 (book.ops ++ new ∷ []) 1 None None (grows_added book new h) (old_points book (book.ops ++ new ∷ []) 1 (one_longer book new) (λ k q p at e. elim (of_appended book.ops new k q at) [
      | inl is ↦ inr (subst (λ (z : Op). z.point ≡ Some p → (changes z.word ≡ false) × ((i : ℕ) → slice_get book.entries i ≡ Some p → ⊥)) (sym is.1) (h p) e)
      | inr old ↦ inl (q, old, refl, e)
    ])) sound;
    past = λ i p at. past_grown book 1 i p sound at;
    alike = sound.alike;
  };
}

pub still_added : (book : Book) (new : Op) → MakesNone book new → IsSound book → Still book (onward book 1 (book.ops ++ new ∷ []))
still_added book new h sound = still_by book 1 (book.ops ++ new ∷ []) sound (added_alike book new h)

pub goes_appended : (book : Book) (new : Op) → new.point ≡ None → IsRight (onward book 1 (book.ops ++ new ∷ [])) new → IsSound book → Goes book (onward book 1 (book.ops ++ new ∷ [])) None None
goes_appended book new none right sound = goes_added book new (makes_none book new none) right sound

pub still_appended : (book : Book) (new : Op) → new.point ≡ None → IsSound book → Still book (onward book 1 (book.ops ++ new ∷ []))
still_appended book new none sound = still_added book new (makes_none book new none) sound

-- ---- one takes another form

-- what an operation may become in a step in which it makes no change
pub record Becomes (book : Book) (made ended : Option ℕ) (j : ℕ) (o r : Op) : Type 0 where
  pub follows : Follows book made ended j o r
  pub change_point : changes o.word ≡ true → r.point ≡ o.point
  pub change_file : changes o.word ≡ true → r.file ≡ o.file
  -- any other's point is none of a change
  pub point : (p : ℕ) → r.point ≡ Some p → (o.point ≡ Some p) ⊎ ((o.word ≡ words.Open) × ((i : ℕ) → slice_get book.entries i ≡ Some p → ⊥))

pub alike_becomes : (book : Book) (n : ℕ) (made ended : Option ℕ) (j : ℕ) (o r : Op) → slice_get book.ops j ≡ Some o → Becomes book made ended j o r → Alike book (onward book n (slice_set book.ops j r))
alike_becomes book n made ended j o r at b = alike_all book (onward book n (slice_set book.ops j r)) refl (λ f p. by f p (changes o.word) refl)
  where
    by : (f p : ℕ) (c : Bool) → changes o.word ≡ c → marks f p (slice_set book.ops j r) ≡ marks f p book.ops
    by f p false c = marks_neither f p book.ops j o r at (unchanging f p o c) (unchanging f p r (ap changes b.follows.word ∙ c))
    by f p true c = marks_same f p book.ops j o r at b.follows.word (b.change_file c) (b.change_point c) (b.follows.value c)

each_replaced : (book : Book) (j : ℕ) (o r : Op) (made ended : Option ℕ) → slice_get book.ops j ≡ Some o → Follows book made ended j o r → (k : ℕ) (q : Op) → slice_get book.ops k ≡ Some q → (s : Op) × (slice_get (slice_set book.ops j r) k ≡ Some s) × Follows book made ended k q s
each_replaced book j o r made ended at f k q is = elim (else_replaced book.ops j r k q is) [
  | inl here ↦
      let e : q ≡ o = some_is q o (sym is ∙ ap (slice_get book.ops) here ∙ at) in
      (r, ap (slice_get (slice_set book.ops j r)) here ∙ at_replaced book.ops j r o at, subst (λ (x : Op). Follows book made ended k x r) (sym e) (subst (λ (i : ℕ). Follows book made ended i o r) (sym here) f))
  | inr there ↦ (q, there.1, follows_same book made ended k q)
]

pub grows_becomes : (book : Book) (n : ℕ) (made ended : Option ℕ) (j : ℕ) (o r : Op) → slice_get book.ops j ≡ Some o → Becomes book made ended j o r → Grows book (onward book n (slice_set book.ops j r)) made ended
grows_becomes book n made ended j o r at b = record { lbfs = refl; opening = refl; happened = λ m h. h; hashed = λ b h. h; passes = omega arith; steps_kept = λ j p e. e; entries_new = λ j p e. inl e; journal_kept = λ j e at. at; values = λ f p le. alike_becomes book n made ended j o r at b f p; raws_kept = λ i s e. e; each = each_replaced book j o r made ended at b.follows }

pub goes_becomes : (book : Book) (n : ℕ) (made ended : Option ℕ) (j : ℕ) (o r : Op) → slice_get book.ops j ≡ Some o → Becomes book made ended j o r → IsRight (onward book n (slice_set book.ops j r)) r → IsSound book → Goes book (onward book n (slice_set book.ops j r)) made ended
goes_becomes book n made ended j o r at b right sound = record {
  grows = grows_becomes book n made ended j o r at b;
  raws = refl;
  sound = record {
    rights = λ k q is. elim (of_replaced book.ops j r k q is) [
      | inl here ↦ subst (IsRight (onward book n (slice_set book.ops j r))) (sym here.1) right
      | inr there ↦ right_later book (onward book n (slice_set book.ops j r)) made ended q (grows_becomes book n made ended j o r at b) (sound.rights k q there.1)
    ];
    fits = λ k q is. elim (of_replaced book.ops j r k q is) [
      | inl here ↦ subst (IsFitted (onward book n (slice_set book.ops j r))) (sym here.1) (fitted_later book (onward book n (slice_set book.ops j r)) made ended o r (grows_becomes book n made ended j o r at b) b.follows.word (λ c. (b.change_file c, b.change_point c)) (sound.rights j o at) (sound.fits j o at))
      | inr there ↦ fitted_later book (onward book n (slice_set book.ops j r)) made ended q q (grows_becomes book n made ended j o r at b) refl (λ c. (refl, refl)) (sound.rights k q there.1) (sound.fits k q there.1)
    ];
    strangers = λ k s is. stranger_later book (onward book n (slice_set book.ops j r)) made ended s (grows_becomes book n made ended j o r at b) (sound.strangers k s is);
    journal = journal_grown book n (slice_set book.ops j r) 0 made ended (grows_becomes book n made ended j o r at b) (old_points book (slice_set book.ops j r) 0 (let e = set_count book.ops j r in omega (arith, e)) was) sound;
    past = λ i p is. past_grown book n i p sound is;
    alike = sound.alike;
  };
}
  where
    was : OwnPoint book (slice_set book.ops j r)
    was k q p is e = elim (of_replaced book.ops j r k q is) [
      | inr there ↦ inl (q, there.1, refl, e)
      | inl here ↦ elim (b.point p (ap (λ (x : Op). x.point) (sym here.1) ∙ e)) [
        | inl old ↦ inl (o, ap (slice_get book.ops) here.0 ∙ at, sym b.follows.word ∙ ap (λ (x : Op). x.word) (sym here.1), old)
        | inr new ↦ inr (ap (λ (x : Op). changes x.word) here.1 ∙ ap changes (b.follows.word ∙ new.0), new.1)
      ]
    ]

pub still_becomes : (book : Book) (n : ℕ) (made ended : Option ℕ) (j : ℕ) (o r : Op) → slice_get book.ops j ≡ Some o → Becomes book made ended j o r → IsSound book → Still book (onward book n (slice_set book.ops j r))
still_becomes book n made ended j o r at b sound = still_by book n (slice_set book.ops j r) sound (alike_becomes book n made ended j o r at b)

-- ---- changes are made

-- each entry is about a name
abbrev pub AreNames : List Entry → Type 0
AreNames es = (j : ℕ) (e : Entry) → slice_get es j ≡ Some e → is_of_file e.kind ≡ false

-- how the operations stand beside the entries of a step, of which one at most is about a file; `here` is the place of the operation that made it
record Enters (book : Book) (ops : List Op) (raws : List Raw) (es : List Entry) (made here : Option ℕ) : Type 0 where
  grows : Grows book (entered_with book ops raws es) made None
  single : (i j : ℕ) (d e : Entry) → i < j → slice_get es i ≡ Some d → slice_get es j ≡ Some e → is_of_file d.kind ≡ true → is_of_file e.kind ≡ true → ⊥
  told : (j : ℕ) (e : Entry) → slice_get es j ≡ Some e → is_of_file e.kind ≡ true → Tells (entered_with book ops raws es) (book.steps + 1) e
  was : (k : ℕ) (q : Op) (p : ℕ) → slice_get (ops ++ map op_of raws) k ≡ Some q → q.point ≡ Some p → FromOld book 0 k q p ⊎ ((p ≡ book.steps + 1) × (here ≡ Some k) × ((j : ℕ) × (e : Entry) × (slice_get es j ≡ Some e) × (is_of_file e.kind ≡ true)))

-- the step of an entry of a list with more: it was there, or it is the new one
step_of_entry : (book : Book) (n i p : ℕ) → IsSound book → slice_get (book.entries ++ replicate n (book.steps + 1)) i ≡ Some p → ((slice_get book.entries i ≡ Some p) × (p ≤ book.steps)) ⊎ ((j : ℕ) × (i ≡ length book.entries + j) × (p ≡ book.steps + 1))
step_of_entry book n i p sound at = elim (of_more book.entries (replicate n (book.steps + 1)) i p at) [ inl old ↦ inl (old, (sound.past i p old).1) | inr new ↦ inr (new.0, new.1, of_replicate n (book.steps + 1) new.0 p new.2) ]

-- those that were there
of_old : (book : Book) (ops : List Op) (es : List Entry) (here : Option ℕ) → length ops ≡ length book.ops → ((k : ℕ) (q : Op) (p : ℕ) → slice_get ops k ≡ Some q → q.point ≡ Some p → ((s : Op) × (slice_get book.ops k ≡ Some s) × (s.word ≡ q.word) × (s.point ≡ Some p)) ⊎ ((p ≡ book.steps + 1) × (here ≡ Some k) × ((j : ℕ) × (e : Entry) × (slice_get es j ≡ Some e) × (is_of_file e.kind ≡ true))))
    → (k : ℕ) (q : Op) (p : ℕ) → slice_get (ops ++ map op_of book.raws) k ≡ Some q → q.point ≡ Some p → FromOld book 0 k q p ⊎ ((p ≡ book.steps + 1) × (here ≡ Some k) × ((j : ℕ) × (e : Entry) × (slice_get es j ≡ Some e) × (is_of_file e.kind ≡ true)))
of_old book ops es here count was k q p at point = elim (of_more ops (map op_of book.raws) k q at) [
  | inl own ↦ elim (was k q p own point) [ inl s ↦ inl (own_old book 0 k q s.0 p s.1 s.2 s.3) | inr n ↦ inr n ]
  | inr other ↦ inl (subst (λ (i : ℕ). FromOld book 0 i q p) (sym other.1) (others_old book ops 0 other.0 q p (omega (arith, count)) other.2 point))
]

journal_entered : (book : Book) (ops : List Op) (raws : List Raw) (es : List Entry) (made here : Option ℕ) → Enters book ops raws es made here → IsSound book → HasJournal (entered_with book ops raws es)
journal_entered book ops raws es made here h sound = record {
  count = length-append book.entries (replicate n now) ∙ ap (λ (z : ℕ). length book.entries + z) (length-replicate n now) ∙ ap (λ (z : ℕ). z + n) sound.journal.count ∙ sym (length-append book.journal es);
  rising = λ i j p q lt a b. elim (step_of_entry book n i p sound a) [
    | inl old ↦ elim (step_of_entry book n j q sound b) [ inl both ↦ sound.journal.rising i j p q lt old.0 both.0 | inr new ↦ let le = old.1 in let is = new.2 in omega (arith, le, is) ]
    | inr new ↦ elim (step_of_entry book n j q sound b) [ inl old ↦ let x = new.1 in let y = within book.entries j q old.0 in absurd (omega (arith, x, y, lt)) | inr both ↦ let x = new.2 in let y = both.2 in omega (arith, x, y) ]
  ];
  apart = λ i j p q d e lt a b c f x y. elim (step_of_entry book n i p sound a) [
    | inl old ↦ elim (step_of_entry book n j q sound b) [
      | inl both ↦ sound.journal.apart i j p q d e lt old.0 both.0 (entry_old i p d old.0 c) (entry_old j q e both.0 f) x y
      | inr new ↦ let le = old.1 in let is = new.2 in omega (arith, le, is)
    ]
    | inr new ↦ elim (step_of_entry book n j q sound b) [
      | inl old ↦ let z = new.1 in let w = within book.entries j q old.0 in absurd (omega (arith, z, w, lt))
      | inr both ↦
          let u = entry_new i new.0 d new.1 c in
          let v = entry_new j both.0 e both.1 f in
          let z = new.1 in
          let w = both.1 in
          absurd (h.single new.0 both.0 d e (omega (arith, z, w, lt)) u v x y)
    ]
  ];
  made = λ i p e a b file. elim (step_of_entry book n i p sound a) [
    | inl old ↦ tells_later book (entered_with book ops raws es) made None p e h.grows old.1 (sound.journal.made i p e old.0 (entry_old i p e old.0 b) file)
    | inr new ↦ subst (λ (z : ℕ). Tells (entered_with book ops raws es) z e) (sym new.2) (h.told new.0 e (entry_new i new.0 e new.1 b) file)
  ];
  only = λ k p q at c e. elim (h.was k q p at e) [
    | inl s ↦ let i = sound.journal.only s.0 p s.1 s.2 (ap changes s.3 ∙ c) s.4 in (i.0, i.1, in_front book.entries (replicate n now) i.0 p i.2, in_front book.journal es i.0 i.1 i.3, i.4)
    | inr new ↦
        let j = new.2.0 in
        let lt = within es j new.2.1 new.2.2 in
        (length book.entries + j, new.2.1, more_there book.entries (replicate n now) j now (replicate_there n now j lt) ∙ ap Some (sym new.0), ap (λ (z : ℕ). slice_get (book.journal ++ es) (z + j)) sound.journal.count ∙ more_there book.journal es j new.2.1 new.2.2, new.2.3)
  ];
  once = λ k m p o q a b c e f. elim (h.was k o p a e) [
    | inl s ↦ elim (h.was m q p b f) [
      | inl t ↦ s.5 ∙ ap (moved (length book.ops) 0) (sound.journal.once s.0 t.0 p s.1 t.1 s.2 t.2 (ap changes s.3 ∙ c) s.4 t.4) ∙ sym t.5
      | inr new ↦ let lt = points_past book sound s.0 p s.1 s.2 s.4 in let is = new.0 in absurd (omega (arith, lt, is))
    ]
    | inr new ↦ elim (h.was m q p b f) [
      | inl t ↦ let lt = points_past book sound t.0 p t.1 t.2 t.4 in let is = new.0 in absurd (omega (arith, lt, is))
      | inr both ↦ some_is k m (sym new.1 ∙ both.1)
    ]
  ];
}
  where
    n : ℕ
    n = length es

    now : ℕ
    now = book.steps + 1

    entry_old : (i p : ℕ) (e : Entry) → slice_get book.entries i ≡ Some p → slice_get (book.journal ++ es) i ≡ Some e → slice_get book.journal i ≡ Some e
    entry_old i p e at is = elim (of_more book.journal es i e is) [ inl old ↦ old | inr new ↦ let x = new.1 in let y = within book.entries i p at in let z = sound.journal.count in absurd (omega (arith, x, y, z)) ]

    entry_new : (i j : ℕ) (e : Entry) → i ≡ length book.entries + j → slice_get (book.journal ++ es) i ≡ Some e → slice_get es j ≡ Some e
    entry_new i j e at is = elim (of_more book.journal es i e is) [
      | inl old ↦ let y = within book.journal i e old in let z = sound.journal.count in absurd (omega (arith, at, y, z))
      | inr new ↦ let x = new.1 in let z = sound.journal.count in let same : new.0 ≡ j = omega (arith, at, x, z) in subst (λ (m : ℕ). slice_get es m ≡ Some e) same new.2
    ]

-- no entry is of a step to come
past_entered : (book : Book) (n i p : ℕ) → IsSound book → slice_get (book.entries ++ replicate n (book.steps + 1)) i ≡ Some p → (0 < p) × (p ≤ book.steps + 1)
past_entered book n i p sound at = elim (of_more book.entries (replicate n (book.steps + 1)) i p at) [
  | inl old ↦ past_grown book 1 i p sound old
  | inr new ↦ let is = of_replicate n (book.steps + 1) new.0 p new.2 in (omega (arith, is), omega (arith, is))
]

steps_new : (book : Book) (n j p : ℕ) → slice_get (book.entries ++ replicate n (book.steps + 1)) j ≡ Some p → (slice_get book.entries j ≡ Some p) ⊎ (book.steps < p)
steps_new book n j p at = elim (of_more book.entries (replicate n (book.steps + 1)) j p at) [ inl old ↦ inl old | inr new ↦ let is = of_replicate n (book.steps + 1) new.0 p new.2 in inr (omega (arith, is)) ]

-- ---- names alone change

pub grows_named : (book : Book) (es : List Entry) → Grows book (entered book book.ops es) None None
grows_named book es = record {
  lbfs = refl;
  opening = refl;
  happened = λ m h. h;
  hashed = λ b h. h;
  passes = omega arith;
  steps_kept = λ i p is. in_front book.entries (replicate (length es) (book.steps + 1)) i p is;
  entries_new = λ i p is. steps_new book (length es) i p is;
  journal_kept = λ i d is. in_front book.journal es i d is;
  values = λ f p le. refl;
  raws_kept = λ j r e. e;
  each = λ k o at. (o, at, follows_same book None None k o);
}

pub goes_named : (book : Book) (es : List Entry) → AreNames es → IsSound book → Goes book (entered book book.ops es) None None
goes_named book es names sound = record {
  grows = grows_named book es;
  raws = refl;
  sound = record {
    rights = λ k o at. right_later book (entered book book.ops es) None None o (grows_named book es) (sound.rights k o at);
    fits = λ k o at. fitted_later book (entered book book.ops es) None None o o (grows_named book es) refl (λ c. (refl, refl)) (sound.rights k o at) (sound.fits k o at);
    strangers = λ k r at. stranger_later book (entered book book.ops es) None None r (grows_named book es) (sound.strangers k r at);
    journal = journal_entered book book.ops book.raws es None None (record {
      grows = grows_named book es;
      single = λ i j d e lt a b c f. true_and_false (is_of_file d.kind) c (names i d a);
      told = λ j e at file. absurd (true_and_false (is_of_file e.kind) file (names j e at));
      was = of_old book book.ops es None refl (λ k q p at e. inl (q, at, refl, e));
    }) sound;
    past = λ i p at. past_entered book (length es) i p sound at;
    alike = sound.alike;
  };
}

pub still_named : (book : Book) (es : List Entry) → IsSound book → Still book (entered book book.ops es)
still_named book es sound f = marks_later f (book.steps + 1) (book.steps + 1 + 1) (book.steps + 1) (history book).ops (points_past book sound) (omega arith) (omega arith)

-- ---- one takes effect

-- an operation changed this file now
abbrev pub made_op : Book → (file : ℕ) → Op → Op
made_op book f o = record o { file = f; point = Some (book.steps + 1) }

abbrev pub made_book : Book → List Entry → (j file : ℕ) → Op → Book
made_book book es j f o = entered book (slice_set book.ops j (made_op book f o)) es

-- The journal's entry tells of it; those behind it are about names.
pub record IsEntryOf (book : Book) (f : ℕ) (o : Op) (e : Entry) : Type 0 where
  pub kind_is : IsKind o.word e.kind
  pub file : f ≡ e.file
  pub len : length (left_of o) ≡ e.len
  pub digest : Or book (sha1 (left_of o) ≡ e.sha1)
  pub version : e.version ≡ version_at book e.file (book.steps + 1) + 1
  -- a close has its file, which is what it must be
  pub own : o.word ≡ words.Close → f ≡ o.file
  pub positive : 1 < f
  pub fit : IsFit o.word (value_at book f (book.steps + 1))

kind_of_file : (w : Word) (k : EntryKind) → IsKind w k → is_of_file k ≡ true
kind_of_file words.Close k h = ap is_of_file h
kind_of_file words.Make k h = ap is_of_file h
kind_of_file words.Remove k h = ap is_of_file h
kind_of_file words.Rename k h = ap is_of_file h
kind_of_file _ k h = absurd h

pub follows_made : (book : Book) (f j : ℕ) (o : Op) → (o.word ≡ words.Close → f ≡ o.file) → IsUnmade o → Follows book (Some j) None j o (made_op book f o)
follows_made book f j o own u = record {
  client = refl;
  word = refl;
  file = λ n w. own (is_close o.word u.0 w);
  close_file = own;
  own_file = λ c n. absurd (n refl);
  begin = refl;
  point = λ w p e. nothing_there p (sym u.1 ∙ e);
  value = λ w. refl;
  unmade = λ n v. absurd (n refl);
  end = λ e q. inl q;
  running = λ n e. e;
}
  where
    is_close : (w : Word) → changes w ≡ true → gets_file w ≡ false → w ≡ words.Close
    is_close words.Close c g = refl
    is_close _ c g = absurd cc

pub grows_made : (book : Book) (es : List Entry) (f j : ℕ) (o : Op) → (o.word ≡ words.Close → f ≡ o.file) → slice_get book.ops j ≡ Some o → IsUnmade o → Grows book (made_book book es j f o) (Some j) None
grows_made book es f j o own at u = record {
  lbfs = refl;
  opening = refl;
  happened = λ m h. h;
  hashed = λ b h. h;
  passes = omega arith;
  steps_kept = λ i p is. in_front book.entries (replicate (length es) (book.steps + 1)) i p is;
  entries_new = λ i p is. steps_new book (length es) i p is;
  journal_kept = λ i d is. in_front book.journal es i d is;
  values = λ g p le. marks_front g p (slice_set book.ops j (made_op book f o)) book.ops (map op_of book.raws) (marks_before g p (book.steps + 1) book.ops j o (made_op book f o) at u.1 refl le);
  raws_kept = λ i r e. e;
  each = each_replaced book j o (made_op book f o) (Some j) None at (follows_made book f j o own u);
}

right_made : (book : Book) (es : List Entry) (f j : ℕ) (o : Op) → IsRight book o → IsUnmade o → IsRight (made_book book es j f o) (made_op book f o)
right_made book es f j o r u = record {
  cause = by o.outcome u.2 r.cause;
  begun = let b = r.begun in omega (arith, b);
  pointed = λ p q. let is = some_is (book.steps + 1) p q in let b = r.begun in (omega (arith, b, is), omega (arith, is), may_change o.word u.0);
  past = λ d q. let p = r.past d q in let le = p.1 in (p.0, omega (arith, le));
  ends = r.ends;
  within = λ l p d g s. absurd (ended o.outcome u.2 l d s r.ends);
  failed = λ w c n. absurd (true_and_false (is_untold o.outcome) u.2 n);
}
  where
    -- what nobody was told of has no end, if it was not lost
    ended : (t : Outcome) → is_untold t ≡ true → is_lost t ≡ false → (d : ℕ) → o.end ≡ Some d → is_some o.end ≡ not (is_running t) → ⊥
    ended told.Running u l d s ends = absurd (true_and_false (is_some o.end) (ap is_some s) ends)
    ended _ u l d s ends = absurd cc

    may_change : (w : Word) → changes w ≡ true → may_point w ≡ true
    may_change words.Close c = refl
    may_change words.Make c = refl
    may_change words.Mkdir c = refl
    may_change words.Remove c = refl
    may_change words.Rmdir c = refl
    may_change words.Rename c = refl
    may_change w c = absurd cc

    by : (t : Outcome) → is_untold t ≡ true → Caused book o t → Caused (made_book book es j f o) (made_op book f o) t
    by told.Lost u h = (h.0, record { end = h.1.end; end_is = h.1.end_is; moment = h.1.moment; there = h.1.there; step_is = h.1.step_is; event_is = h.1.event_is })
    by told.Running u h = h
    by t u h = absurd cc

fitted_made : (book : Book) (es : List Entry) (f j : ℕ) (o : Op) → (o.word ≡ words.Close → f ≡ o.file) → slice_get book.ops j ≡ Some o → 1 < f → IsFit o.word (value_at book f (book.steps + 1)) → IsUnmade o → IsFitted (made_book book es j f o) (made_op book f o)
fitted_made book es f j o own at positive fit u c p q =
    let now : book.steps + 1 ≡ p = some_is (book.steps + 1) p q in
    (positive, subst (IsFit o.word) (sym (value_later book (made_book book es j f o) (Some j) None f p (grows_made book es f j o own at u) (omega (arith, now)) ∙ ap (value_at book f) (sym now))) fit)

-- one of them is about a file
one_of_file : (e : Entry) (ns : List Entry) → AreNames ns → (i k : ℕ) (a b : Entry) → i < k → slice_get (e ∷ ns) i ≡ Some a → slice_get (e ∷ ns) k ≡ Some b → is_of_file a.kind ≡ true → is_of_file b.kind ≡ true → ⊥
one_of_file e ns names i zero a b lt x y c d = omega (arith, lt)
one_of_file e ns names i (suc k) a b lt x y c d = true_and_false (is_of_file b.kind) d (names k b y)

pub goes_made : (book : Book) (e : Entry) (ns : List Entry) (f j : ℕ) (o : Op) → IsEntryOf book f o e → AreNames ns → slice_get book.ops j ≡ Some o → IsUnmade o → IsSound book → Goes book (made_book book (e ∷ ns) j f o) (Some j) None
goes_made book e ns f j o tells names at u sound = record {
  grows = grows;
  raws = refl;
  sound = record {
    rights = λ k q is. elim (of_replaced book.ops j new k q is) [
      | inl here ↦ subst (IsRight more) (sym here.1) (right_made book (e ∷ ns) f j o (sound.rights j o at) u)
      | inr there ↦ right_later book more (Some j) None q grows (sound.rights k q there.1)
    ];
    fits = λ k q is. elim (of_replaced book.ops j new k q is) [
      | inl here ↦ subst (IsFitted more) (sym here.1) (fitted_made book (e ∷ ns) f j o tells.own at tells.positive tells.fit u)
      | inr there ↦ fitted_later book more (Some j) None q q grows refl (λ c. (refl, refl)) (sound.rights k q there.1) (sound.fits k q there.1)
    ];
    strangers = λ k r is. stranger_later book more (Some j) None r grows (sound.strangers k r is);
    journal = journal_entered book (slice_set book.ops j new) book.raws (e ∷ ns) (Some j) (Some j) (record {
      grows = grows;
      single = one_of_file e ns names;
      told = told_new;
      was = of_old book (slice_set book.ops j new) (e ∷ ns) (Some j) (set_count book.ops j new) (λ k q p is t. elim (of_replaced book.ops j new k q is) [
        | inr there ↦ inl (q, there.1, refl, t)
        | inl here ↦ inr (sym (some_is (book.steps + 1) p (ap (λ (z : Op). z.point) (sym here.1) ∙ t)), ap (λ (n : ℕ). Some n) (sym here.0), (0, e, refl, kind_of_file o.word e.kind tells.kind_is))
      ]);
    }) sound;
    past = λ i p a. past_entered book (length (e ∷ ns)) i p sound a;
    alike = sound.alike;
  };
}
  where
    new : Op
    new = made_op book f o

    more : Book
    more = made_book book (e ∷ ns) j f o

    grows : Grows book more (Some j) None
    grows = grows_made book (e ∷ ns) f j o tells.own at u

    told_new : (i : ℕ) (d : Entry) → slice_get (e ∷ ns) i ≡ Some d → is_of_file d.kind ≡ true → Tells more (book.steps + 1) d
    told_new zero d is file =
        let same : e ≡ d = some_is e d is in
        subst (Tells more (book.steps + 1)) same (
          j,
          new,
          in_front (slice_set book.ops j new) (map op_of book.raws) j new (at_replaced book.ops j new o at),
          tells.kind_is,
          refl,
          tells.file,
          tells.len,
          or_later book more (Some j) None _ _ grows (λ q. q) tells.digest,
          tells.version ∙ ap (λ n. n + 1) (sym (version_later book more (Some j) None e.file (book.steps + 1) grows (omega arith))),
        )
    told_new (suc i) d is file = absurd (true_and_false (is_of_file d.kind) file (names i d is))

-- ---- a session that is no client's changes a file

abbrev pub stranger_book : Book → Raw → List Entry → Book
stranger_book book r es = entered_with book book.ops (book.raws ++ r ∷ []) es

-- It was asked for by now, and made now; the journal's entry tells of it, and those behind it are about names.
pub record IsStrangers (book : Book) (r : Raw) (e : Entry) : Type 0 where
  pub order : r.begin ≤ r.point
  pub now : r.point ≡ book.steps + 1
  pub kind_is : IsKind (op_of r).word e.kind
  pub file : r.file ≡ e.file
  pub len : length (left_of (op_of r)) ≡ e.len
  pub digest : sha1 (left_of (op_of r)) ≡ e.sha1
  pub version : e.version ≡ version_at book e.file (book.steps + 1) + 1
  pub positive : 1 < r.file
  pub fit : IsFit (op_of r).word (value_at book r.file (book.steps + 1))

-- it stands behind all operations of the history
strangers_last : (book : Book) (r : Raw) (es : List Entry) → (history (stranger_book book r es)).ops ≡ (history book).ops ++ op_of r ∷ []
strangers_last book r es = ap (λ (l : List Op). book.ops ++ l) (map_end op_of book.raws r) ∙ sym (append_along book.ops (map op_of book.raws) (op_of r ∷ []))

strangers_past : (book : Book) (r : Raw) (es : List Entry) (f p : ℕ) → r.point ≡ book.steps + 1 → p ≤ book.steps + 1 → marks f p (history (stranger_book book r es)).ops ≡ marks f p (history book).ops
strangers_past book r es f p now le = ap (marks f p) (strangers_last book r es) ∙ marks_appended f p (history book).ops (op_of r) (too_late f p r.point (op_of r) refl (omega (arith, now, le)))

pub grows_stranger : (book : Book) (r : Raw) (es : List Entry) → r.point ≡ book.steps + 1 → Grows book (stranger_book book r es) None None
grows_stranger book r es now = record {
  lbfs = refl;
  opening = refl;
  happened = λ m h. h;
  hashed = λ b h. h;
  passes = omega arith;
  steps_kept = λ i p is. in_front book.entries (replicate (length es) (book.steps + 1)) i p is;
  entries_new = λ i p is. steps_new book (length es) i p is;
  journal_kept = λ i d is. in_front book.journal es i d is;
  values = λ f p le. strangers_past book r es f p now le;
  raws_kept = λ j s at. kept_appended book.raws r j s at;
  each = λ k o at. (o, at, follows_same book None None k o);
}

pub record GoesBy (book more : Book) : Type 0 where
  pub grows : Grows book more None None
  pub sound : IsSound more

pub goes_stranger : (book : Book) (r : Raw) (e : Entry) (ns : List Entry) → IsStrangers book r e → AreNames ns → IsSound book → GoesBy book (stranger_book book r (e ∷ ns))
goes_stranger book r e ns h names sound = record {
  grows = grows;
  sound = record {
    rights = λ k o at. right_later book more None None o grows (sound.rights k o at);
    fits = λ k o at. fitted_later book more None None o o grows refl (λ c. (refl, refl)) (sound.rights k o at) (sound.fits k o at);
    strangers = λ k s at. elim (of_appended book.raws r k s at) [
      | inl new ↦ subst (IsStranger more) (sym new.1) own
      | inr was ↦ stranger_later book more None None s grows (sound.strangers k s was)
    ];
    journal = journal_entered book book.ops (book.raws ++ r ∷ []) (e ∷ ns) None (Some (length (history book).ops)) (record { grows = grows; single = one_of_file e ns names; told = told_new; was = was }) sound;
    past = λ i p a. past_entered book (length (e ∷ ns)) i p sound a;
    alike = sound.alike;
  };
}
  where
    more : Book
    more = stranger_book book r (e ∷ ns)

    grows : Grows book more None None
    grows = grows_stranger book r (e ∷ ns) h.now

    own : IsStranger more r
    own = let now = h.now in record { order = h.order; past = omega (arith, now); positive = h.positive; fit = subst (IsFit (op_of r).word) (sym (value_later book more None None r.file r.point grows (omega (arith, now)) ∙ ap (value_at book r.file) now)) h.fit }

    of_file : (k : RawKind) → IsKind (word_of k) e.kind → is_of_file e.kind ≡ true
    of_file raw.Commit is = ap is_of_file is
    of_file raw.Make is = ap is_of_file is
    of_file raw.Remove is = ap is_of_file is

    was : (k : ℕ) (q : Op) (p : ℕ) → slice_get (history more).ops k ≡ Some q → q.point ≡ Some p → FromOld book 0 k q p ⊎ ((p ≡ book.steps + 1) × (Some (length (history book).ops) ≡ Some k) × ((j : ℕ) × (d : Entry) × (slice_get (e ∷ ns) j ≡ Some d) × (is_of_file d.kind ≡ true)))
    was k q p at point = elim (of_appended (history book).ops (op_of r) k q (ap (λ (l : List Op). slice_get l k) (sym (strangers_last book r (e ∷ ns))) ∙ at)) [
      | inl new ↦ inr (sym (some_is r.point p (ap (λ (z : Op). z.point) (sym new.1) ∙ point)) ∙ h.now, ap (λ (n : ℕ). Some n) (sym new.0), (0, e, refl, of_file r.kind h.kind_is))
      | inr old ↦ inl (elim (of_more book.ops (map op_of book.raws) k q old) [
        | inl mine ↦ own_old book 0 k q q p mine refl point
        | inr other ↦ subst (λ (i : ℕ). FromOld book 0 i q p) (sym other.1) (others_old book book.ops 0 other.0 q p (omega arith) other.2 point)
      ])
    ]

    told_new : (i : ℕ) (d : Entry) → slice_get (e ∷ ns) i ≡ Some d → is_of_file d.kind ≡ true → Tells more (book.steps + 1) d
    told_new zero d is file =
        let same : e ≡ d = some_is e d is in
        subst (Tells more (book.steps + 1)) same (
          length (history book).ops,
          op_of r,
          ap (λ (l : List Op). slice_get l (length (history book).ops)) (strangers_last book r (e ∷ ns)) ∙ at_end (history book).ops (op_of r),
          h.kind_is,
          ap (λ (n : ℕ). Some n) h.now,
          h.file,
          h.len,
          inl h.digest,
          h.version ∙ ap (λ n. n + 1) (sym (version_later book more None None e.file (book.steps + 1) grows (omega arith))),
        )
    told_new (suc i) d is file = absurd (true_and_false (is_of_file d.kind) file (names i d is))

-- ---- what the file is then

-- A change is made now, of this file, which leaves this mark above all others.
pub record MadeNow (book more : Book) (f : ℕ) (m : Mark) : Type 0 where
  pub opening : more.opening ≡ book.opening
  pub above : m.0 ≡ book.steps + 1
  pub inserted : Inserted m (marks f (book.steps + 2) (history book).ops) (marks f (book.steps + 2) (history more).ops)
  pub apart : (g : ℕ) → (f ≡ g → ⊥) → marks g (book.steps + 2) (history more).ops ≡ marks g (book.steps + 2) (history book).ops

one_more : (n first : ℕ) → suc n + first ≡ (n + first) + 1
one_more n first = omega arith

marks_now : (book : Book) (f : ℕ) → IsSound book → marks f (book.steps + 2) (history book).ops ≡ marks f (book.steps + 1) (history book).ops
marks_now book f sound = marks_later f (book.steps + 1) (book.steps + 2) (book.steps + 1) (history book).ops (points_past book sound) (omega arith) (omega arith)

pub value_then : (book more : Book) (f : ℕ) (m : Mark) → MadeNow book more f m → IsSound book → value_at more f (book.steps + 2) ≡ m.1
value_then book more f m h sound =
    value_seen more f (book.steps + 2)
    ∙ ap (left_by (content_of more.opening f)) (inserted_latest m (marks f (book.steps + 2) (history book).ops) (marks f (book.steps + 2) (history more).ops) h.inserted (subst (λ (n : ℕ). AllBelow n (marks f (book.steps + 2) (history book).ops)) (sym h.above) (all_below f (book.steps + 2) (book.steps + 1) (history book).ops (omega arith) (points_past book sound))))

pub version_then : (book more : Book) (f : ℕ) (m : Mark) → MadeNow book more f m → IsSound book → version_at more f (book.steps + 2) ≡ version_at book f (book.steps + 1) + 1
version_then book more f m h sound =
    let first : ℕ = first_version (content_of book.opening f) in
    version_seen more f (book.steps + 2)
    ∙ ap (λ (l : List Opening). length (marks f (book.steps + 2) (history more).ops) + first_version (content_of l f)) h.opening
    ∙ ap (λ n. n + first) (inserted_count m (marks f (book.steps + 2) (history book).ops) (marks f (book.steps + 2) (history more).ops) h.inserted)
    ∙ ap (λ ms. suc (length ms) + first) (marks_now book f sound)
    ∙ one_more (length (marks f (book.steps + 1) (history book).ops)) first
    ∙ ap (λ n. n + 1) (sym (version_seen book f (book.steps + 1)))

pub marks_then : (book more : Book) (f g : ℕ) (m : Mark) → MadeNow book more f m → (f ≡ g → ⊥) → IsSound book → marks g (book.steps + 2) (history more).ops ≡ marks g (book.steps + 1) (history book).ops
marks_then book more f g m h apart sound = h.apart g apart ∙ marks_now book g sound

-- by an operation
pub made_now : (book : Book) (es : List Entry) (f j : ℕ) (o : Op) → slice_get book.ops j ≡ Some o → IsUnmade o → MadeNow book (made_book book es j f o) f (mark_of (made_op book f o))
made_now book es f j o at u = record {
  opening = refl;
  above = refl;
  inserted = inserted_among f (book.steps + 2) (made_op book f o) book.ops (slice_set book.ops j (made_op book f o)) (map op_of book.raws) (marks_made f (book.steps + 2) book.ops j o (made_op book f o) at u.1 (made_before f (book.steps + 2) (book.steps + 1) (made_op book f o) u.0 refl refl (omega arith)));
  apart = λ g n. marks_front g (book.steps + 2) (slice_set book.ops j (made_op book f o)) book.ops (map op_of book.raws) (marks_elsewhere g (book.steps + 2) book.ops j o (made_op book f o) at u.1 n);
}

-- or by a session that is no client's
pub stranger_now : (book : Book) (r : Raw) (es : List Entry) → r.point ≡ book.steps + 1 → MadeNow book (stranger_book book r es) r.file (mark_of (op_of r))
stranger_now book r es now = record {
  opening = refl;
  above = now;
  inserted = subst (λ (l : List Op). Inserted (mark_of (op_of r)) (marks r.file (book.steps + 2) (history book).ops) (marks r.file (book.steps + 2) l)) (sym (strangers_last book r es)) (inserted_last r.file (book.steps + 2) (op_of r) (history book).ops (made_before r.file (book.steps + 2) r.point (op_of r) (is_change r.kind) refl refl (omega (arith, now))));
  apart = λ g n. ap (marks g (book.steps + 2)) (strangers_last book r es) ∙ marks_appended g (book.steps + 2) (history book).ops (op_of r) (elsewhere g (book.steps + 2) (op_of r) n);
}
  where
    is_change : (k : RawKind) → changes (word_of k) ≡ true
    is_change raw.Commit = refl
    is_change raw.Make = refl
    is_change raw.Remove = refl

pub value_now : (book : Book) (es : List Entry) (f j : ℕ) (o : Op) → slice_get book.ops j ≡ Some o → IsUnmade o → IsSound book → value_at (made_book book es j f o) f (book.steps + 2) ≡ value_from o.word o.value
value_now book es f j o at u sound = value_then book (made_book book es j f o) f (mark_of (made_op book f o)) (made_now book es f j o at u) sound

pub version_now : (book : Book) (es : List Entry) (f j : ℕ) (o : Op) → slice_get book.ops j ≡ Some o → IsUnmade o → IsSound book → version_at (made_book book es j f o) f (book.steps + 2) ≡ version_at book f (book.steps + 1) + 1
version_now book es f j o at u sound = version_then book (made_book book es j f o) f (mark_of (made_op book f o)) (made_now book es f j o at u) sound

pub marks_else : (book : Book) (es : List Entry) (f j : ℕ) (o : Op) (g : ℕ) → slice_get book.ops j ≡ Some o → IsUnmade o → (f ≡ g → ⊥) → IsSound book → marks g (book.steps + 2) (history (made_book book es j f o)).ops ≡ marks g (book.steps + 1) (history book).ops
marks_else book es f j o g at u apart sound = marks_then book (made_book book es j f o) f g (mark_of (made_op book f o)) (made_now book es f j o at u) apart sound
