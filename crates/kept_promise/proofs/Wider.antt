-- What is kept stays so where more moments are noted: a book with those of a whole run says no less than one with those that are past.
use Rattle.std.proofs.Common.{◌⊎◌, inl, inr, ◌≡◌, ℕ, zero, suc, List, [], ◌∷◌, ◌++◌, Option, Some, None, refl, sym, ap, ◌∙◌, subst, arith}
use Rattle.chunk_calls.specs.Files as the_files
use Rattle.trace_replay.specs.Trail.{hashed_in}
use Rattle.kept_promise.proofs.Common.{Contains, Contains-append_left, Contains-append_right, flat_map, Core, Moment, Op, Queue, Book, hashed_of}
use Rattle.kept_promise.proofs.Facts.{IsKept, IsServer}
use Rattle.kept_promise.proofs.Rights.{AreAlike, IsSound}
use Rattle.kept_promise.proofs.Growth.{Grows, follows_same, there_later, right_later, fitted_later, stranger_later}
use Rattle.kept_promise.proofs.History.{Goes, tells_later}
use Rattle.kept_promise.proofs.Rests.{kept_rest}
use Rattle.kept_promise.proofs.Later.{same_view}
use Rattle.kept_promise.proofs.Takes.{file_still, fresh_still}
use Rattle.kept_promise.proofs.Turns.{turned_core}

-- the same book with these moments
abbrev pub noting : Book → List Moment → Book
noting book ms = record book { moments = ms }

-- ---- what is hashed at a moment is hashed at those of a list that has it

abbrev pub Wider : (few more : List Moment) → Type 0
Wider few more = (m : Moment) → Contains few m → Contains more m

hashed_at : (ms : List Moment) (m : Moment) (b : List ℕ) → Contains ms m → Contains (hashed_in m) b → Contains (hashed_of ms) b
hashed_at [] m b (i, lt, e) at = absurd (omega (arith, lt))
hashed_at (n ∷ ms) m b (zero, lt, e) at = Contains-append_left (hashed_in n) (hashed_of ms) b (subst (λ (z : Moment). Contains (hashed_in z) b) (sym e) at)
hashed_at (n ∷ ms) m b (suc i, lt, e) at = Contains-append_right (hashed_in n) (hashed_of ms) b (hashed_at ms m b (i, omega (arith, lt), e) at)

either_in : (xs ys : List (List ℕ)) (b : List ℕ) → Contains (xs ++ ys) b → (Contains xs b) ⊎ (Contains ys b)
either_in [] ys b h = inr h
either_in (x ∷ xs) ys b (zero, lt, e) = inl (zero, omega arith, e)
either_in (x ∷ xs) ys b (suc i, lt, e) = elim (either_in xs ys b (i, omega (arith, lt), e)) [ inl h ↦ inl (suc h.0, (let l = h.1 in omega (arith, l)), h.2) | inr h ↦ inr h ]

pub hashed_wider : (few more : List Moment) → Wider few more → (b : List ℕ) → Contains (hashed_of few) b → Contains (hashed_of more) b
hashed_wider [] more wider b (i, lt, e) = absurd (omega (arith, lt))
hashed_wider (m ∷ few) more wider b h = elim (either_in (hashed_in m) (hashed_of few) b h) [
  | inl own ↦ hashed_at more m b (wider m (zero, omega arith, refl)) own
  | inr rest ↦ hashed_wider few more (λ n at. wider n (suc at.0, (let l = at.1 in omega (arith, l)), at.2)) b rest
]

-- ---- a book

pub grows_wider : (book : Book) (ms : List Moment) → Wider book.moments ms → Grows book (noting book ms) None None
grows_wider book ms wider = record { lbfs = refl; opening = refl; happened = wider; hashed = λ b h. hashed_wider book.moments ms wider b h; passes = omega arith; steps_kept = λ j p e. e; entries_new = λ j p e. inl e; journal_kept = λ j e at. at; values = λ f p le. refl; raws_kept = λ j r e. e; each = λ k o at. (o, at, follows_same book None None k o) }

goes_wider : (book : Book) (ms : List Moment) → Wider book.moments ms → AreAlike ms → IsSound book → Goes book (noting book ms) None None
goes_wider book ms wider alike sound =
    let g = grows_wider book ms wider in
    record {
      grows = g;
      raws = refl;
      sound = record {
        rights = λ k o at. right_later book (noting book ms) None None o g (sound.rights k o at);
        fits = λ k o at. fitted_later book (noting book ms) None None o o g refl (λ c. (refl, refl)) (sound.rights k o at) (sound.fits k o at);
        strangers = λ k r at. stranger_later book (noting book ms) None None r g (sound.strangers k r at);
        journal = record {
          count = sound.journal.count;
          rising = sound.journal.rising;
          apart = sound.journal.apart;
          made = λ i p e at is file. tells_later book (noting book ms) None None p e g (sound.past i p at).1 (sound.journal.made i p e at is file);
          only = sound.journal.only;
          once = sound.journal.once;
        };
        past = sound.past;
        alike = alike;
      };
    }

-- ---- all of it

same_core : (book : Book) (ms : List Moment) (k : Core) (qs : List Queue) → IsKept book k qs → turned_core k (noting book ms) k.server k.seats k.sessions ≡ k
same_core book ms k qs h =
    ap (λ (s : ℕ). record k { server = k.server; seats = k.seats; sessions = k.sessions; steps = s; ops = book.ops; entries = book.entries }) h.steps
    ∙ ap (λ (o : List Op). record k { server = k.server; seats = k.seats; sessions = k.sessions; steps = k.steps; ops = o; entries = book.entries }) h.ops
    ∙ ap (λ (e : List ℕ). record k { server = k.server; seats = k.seats; sessions = k.sessions; steps = k.steps; ops = k.ops; entries = e }) h.entries

pub kept_wider : (book : Book) (ms : List Moment) (k : Core) (qs : List Queue) → Wider book.moments ms → AreAlike ms → IsKept book k qs → IsKept (noting book ms) k qs
kept_wider book ms k qs wider alike kept =
    let more = noting book ms in
    let g = grows_wider book ms wider in
    let s = kept.server in
    let server : IsServer more k.server = record {
      held = λ f. file_still book more None None f (the_files.file_at k.server.tree f) g (λ f. refl) (s.held f);
      fresh = fresh_still book more None None k.server.tree g (λ f. refl) s.fresh;
      bounded = s.bounded;
      zero = s.zero;
      rooted = s.rooted;
      wants = s.wants;
      changes = s.changes;
      bytes = s.bytes;
      lengths = s.lengths;
      targets = λ i c e. there_later book more None None c.file g (s.targets i c e);
      xids = s.xids;
      leases = s.leases;
      serves = s.serves;
    } in
    subst (λ (z : Core). IsKept more z qs) (same_core book ms k qs kept)
    (kept_rest book more k qs k.server (goes_wider book ms wider alike kept.sound) server refl (λ m. same_view m k.server) kept.home kept.running kept.journal kept.shelf kept)

-- ---- moments that are past, and one more

pub wider_more : (past : List Moment) (ns : List Moment) → Wider past (past ++ ns)
wider_more past ns m at = Contains-append_left past ns m at

pub wider_split : (all front back : List Moment) → all ≡ front ++ back → Wider front all
wider_split all front back e m at = subst (λ (z : List Moment). Contains z m) (sym e) (Contains-append_left front back m at)

pub alike_of : (few more : List Moment) → Wider few more → AreAlike more → AreAlike few
alike_of few more wider alike f g h a b e = alike f g h (record { at = a.at; there = wider a.at a.there; held = a.held }) (record { at = b.at; there = wider b.at b.there; held = b.held }) e
