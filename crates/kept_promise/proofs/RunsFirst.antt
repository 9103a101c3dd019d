-- The two ends before the first event: the files are those of the opening tree, and nothing happened.
use Rattle.std.proofs.Common.{◌⊎◌, inl, inr, ◌≡◌, ℕ, zero, suc, ◌+◌, ◌<◌, ◌≤◌, List, [], ◌∷◌, ◌++◌, length, Option, Some, None, Bool, true, false, refl, sym, ap, ◌∙◌, subst, arith, eq-eqb, ne_eqb, replicate}
use Rattle.chunk_calls.specs.Files as the_files
use Rattle.kept_promise.proofs.Common.{slice_get, find, option_map, cond, ◌==◌, File, content_of, Opening, Seat, new_seat, numbered, Moment, Book, Tree, can_open, nat_tests, if◌then◌else◌}
use Rattle.kept_promise.proofs.Lists.{some_is, nothing_there, same_or_not}
use Rattle.kept_promise.proofs.Rights.{AreAlike}
use Rattle.kept_promise.proofs.Facts.{FileIs, IsServer, IsSeat, IsKept}
use Rattle.kept_promise.proofs.RunsCarried.{book_at, Header, first_core}
use Rattle.tree_nodes.specs.Nodes.{with_id}
use Rattle.tree_nodes.specs.declared.node.Body.TheVariants.{Directory, File as Plain}
use Rattle.file_tree.specs.Opening.{opens}
use Rattle.tree_reading.specs.Tree.{contents_size, root as root_of, empty as root_alone}
use Rattle.trace_replay.specs.Book.{first_version}
use Rattle.server_law.proofs.lemmas.Trees.{IsBounded, given}
use Rattle.kept_promise.proofs.Rooted.{IsRooted, root_rooted, opens_rooted}
use Rattle.kept_promise.proofs.TreeOpens.{IsOpened, IsWidened, opens_file, opens_directory}

-- ---- the opening tree

-- what the tree has of a file is what it opens with
abbrev pub IsOpening : List Opening → (file : ℕ) → Option File → Type 0
IsOpening opening f None = content_of opening f ≡ None
IsOpening opening f (Some g) = (g.id ≡ f) × (1 < f) × (f < 18446744073709551616) × (content_of opening f ≡ Some g.content) × (g.version ≡ 1) × (length g.content ≤ 67108864)

pub record IsTree (opening : List Opening) (t : Tree) : Type 0 where
  pub held : (f : ℕ) → IsOpening opening f (the_files.file_at t f)
  -- the root has the id 1, and no file has one that is still to be given
  pub above : 1 < t.next
  pub below : (f : ℕ) → t.next ≤ f → content_of opening f ≡ None
  pub bounded : IsBounded t
  -- nor has any node the id 0
  pub zero : with_id t.nodes 0 ≡ None
  pub rooted : IsRooted t.nodes

pub no_tree : IsTree [] root_alone
no_tree = record {
  held = λ f. nothing f (f == 1) refl;
  above = omega arith;
  below = λ f le. refl;
  bounded = record { count = omega arith; next = omega arith; each = (record { id = omega arith; version = omega arith; content = omega arith }, tt); apart = (tt, tt); size = omega arith };
  zero = refl;
  rooted = root_rooted 0;
}
  where
    other : (f : ℕ) → (f ≡ 1 → ⊥) → with_id root_alone.nodes f ≡ None
    other f apart = ap (λ (b : Bool). if b then Some (root_of 0) else None) (ne_eqb 1 f (λ e. apart (sym e)))

    nothing : (f : ℕ) (b : Bool) → (f == 1) ≡ b → IsOpening [] f (the_files.file_at root_alone f)
    nothing f true e = let one : f ≡ 1 = grind (arith, nat_tests, e) in subst (λ (i : ℕ). IsOpening [] i (the_files.file_at root_alone i)) (sym one) refl
    nothing f false e = subst (IsOpening [] f) (sym (ap the_files.file_of_node (other f (λ one. differ one e)))) refl
      where
        differ : f ≡ 1 → (f == 1) ≡ false → ⊥
        differ one e = let z : (f == 1) ≡ true = grind (arith, nat_tests, one) in absurd cc

-- ---- one file more

test_is : (o : Opening) (os : List Opening) (f : ℕ) (b : Bool) → (o.file == f) ≡ b → content_of (o ∷ os) f ≡ cond b (Some o.content) (content_of os f)
test_is o os f b e = by (o.file == f) b e
  where
    by : (c b : Bool) → c ≡ b → option_map (λ (x : Opening). x.content) (cond c (Some o) (find (λ x. x.file == f) os)) ≡ cond b (Some o.content) (content_of os f)
    by c true e = ap (λ (z : Bool). option_map (λ (x : Opening). x.content) (cond z (Some o) (find (λ x. x.file == f) os))) e
    by c false e = ap (λ (z : Bool). option_map (λ (x : Opening). x.content) (cond z (Some o) (find (λ x. x.file == f) os))) e

abbrev or_else : Option (List ℕ) → Option (List ℕ) → Option (List ℕ)
or_else None y = y
or_else (Some x) y = Some x

-- a file's content, with one file more
content_more : (os : List Opening) (o : Opening) (f : ℕ) → content_of (os ++ o ∷ []) f ≡ or_else (content_of os f) (content_of (o ∷ []) f)
content_more [] o f = refl
content_more (p ∷ ps) o f = by (p.file == f) refl (content_more ps o f)
  where
    by : (b : Bool) → (p.file == f) ≡ b → content_of (ps ++ o ∷ []) f ≡ or_else (content_of ps f) (content_of (o ∷ []) f) → content_of (p ∷ (ps ++ o ∷ [])) f ≡ or_else (content_of (p ∷ ps) f) (content_of (o ∷ []) f)
    by true t go = test_is p (ps ++ o ∷ []) f true t ∙ ap (λ (z : Option (List ℕ)). or_else z (content_of (o ∷ []) f)) (sym (test_is p ps f true t))
    by false t go = test_is p (ps ++ o ∷ []) f false t ∙ go ∙ ap (λ (z : Option (List ℕ)). or_else z (content_of (o ∷ []) f)) (sym (test_is p ps f false t))

content_own : (os : List Opening) (o : Opening) (f : ℕ) → content_of os f ≡ None → o.file ≡ f → content_of (os ++ o ∷ []) f ≡ Some o.content
content_own os o f none same = content_more os o f ∙ ap (λ (z : Option (List ℕ)). or_else z (content_of (o ∷ []) f)) none ∙ test_is o [] f true (eq-eqb o.file f same)

content_else : (os : List Opening) (o : Opening) (f : ℕ) → content_of os f ≡ None → (o.file ≡ f → ⊥) → content_of (os ++ o ∷ []) f ≡ None
content_else os o f none apart = content_more os o f ∙ ap (λ (z : Option (List ℕ)). or_else z (content_of (o ∷ []) f)) none ∙ test_is o [] f false (ne_eqb o.file f apart)

content_stays : (os : List Opening) (o : Opening) (f : ℕ) (x : List ℕ) → content_of os f ≡ Some x → content_of (os ++ o ∷ []) f ≡ Some x
content_stays os o f x is = content_more os o f ∙ ap (λ (z : Option (List ℕ)). or_else z (content_of (o ∷ []) f)) is

pub tree_more : (opening : List Opening) (t : Tree) (dir : ℕ) (name content : List ℕ) → can_open t dir name ≡ true → t.next < 65540 → length content ≤ 67108864 → contents_size t.nodes + length content ≤ 1073741824 → IsTree opening t
    → IsTree (opening ++ record { file = t.next; content = content } ∷ []) (opens t dir name (Plain content))
tree_more opening t dir name content can few size small h = record {
  held = λ f. held f (same_or_not f t.next);
  above = (let a = more.next in let b = h.above in omega (arith, a, b));
  below = λ f le. below f (let a = more.next in omega (arith, a, le));
  bounded = more.bounded h.bounded (omega (arith, few)) size small;
  zero = more.zero h.above h.zero;
  rooted = opens_rooted t dir name (Plain content) can h.above h.rooted;
}
  where
    o : Opening
    o = record { file = t.next; content = content }

    above : 1 < t.next
    above = h.above

    more : IsOpened t (opens t dir name (Plain content)) content
    more = opens_file t dir name content (given t h.bounded) can

    none : content_of opening t.next ≡ None
    none = h.below t.next (omega arith)

    stays : (f : ℕ) → (f ≡ t.next → ⊥) → (x : Option File) → IsOpening opening f x → IsOpening (opening ++ o ∷ []) f x
    stays f apart None h = content_else opening o f h (λ e. apart (sym e))
    stays f apart (Some g) h = (h.0, h.1, h.2, content_stays opening o f g.content h.3, h.4, h.5)

    held : (f : ℕ) → ((f ≡ t.next) ⊎ (f ≡ t.next → ⊥)) → IsOpening (opening ++ o ∷ []) f (the_files.file_at (opens t dir name (Plain content)) f)
    held f (inl same) =
        subst (λ (i : ℕ). IsOpening (opening ++ o ∷ []) i (the_files.file_at (opens t dir name (Plain content)) i)) (sym same) (subst (IsOpening (opening ++ o ∷ []) t.next) (sym more.own)
        (refl, above, omega (arith, few), content_own opening o t.next none refl, refl, size))
    held f (inr apart) = subst (IsOpening (opening ++ o ∷ []) f) (sym (more.others f apart)) (stays f apart (the_files.file_at t f) (h.held f))

    below : (f : ℕ) → t.next + 1 ≤ f → content_of (opening ++ o ∷ []) f ≡ None
    below f le = content_else opening o f (h.below f (omega (arith, le))) (λ e. omega (arith, e, le))

-- ---- one directory more

pub tree_wider : (opening : List Opening) (t : Tree) (dir : ℕ) (name : List ℕ) → can_open t dir name ≡ true → t.next < 65540 → IsTree opening t → IsTree opening (opens t dir name Directory)
tree_wider opening t dir name can few h = record {
  held = λ f. subst (IsOpening opening f) (sym (more.files f)) (h.held f);
  above = (let a = more.next in let b = h.above in omega (arith, a, b));
  below = λ f le. h.below f (let a = more.next in omega (arith, a, le));
  bounded = more.bounded h.bounded (omega (arith, few));
  zero = more.zero h.above h.zero;
  rooted = opens_rooted t dir name Directory can h.above h.rooted;
}
  where
    more : IsWidened t (opens t dir name Directory)
    more = opens_directory t dir name (given t h.bounded) can

-- ---- what is kept of it

no_element : {A B : Type 0} (k : ℕ) (x : A) → slice_get [] k ≡ Some x → B
no_element k x e = nothing_there x e

no_numbered : {A B : Type 0} (n : ℕ) (x : A) → numbered [] n ≡ Some x → B
no_numbered zero x e = nothing_there x e
no_numbered (suc k) x e = nothing_there x e

all_new : (drift lbfs count i : ℕ) (seat : Seat) → numbered (replicate count (new_seat drift lbfs)) i ≡ Some seat → seat ≡ new_seat drift lbfs
all_new drift lbfs count zero seat e = nothing_there seat e
all_new drift lbfs count (suc k) seat e = by count k e
  where
    by : (count k : ℕ) → slice_get (replicate count (new_seat drift lbfs)) k ≡ Some seat → seat ≡ new_seat drift lbfs
    by zero k e = nothing_there seat e
    by (suc count) zero e = sym (some_is (new_seat drift lbfs) seat e)
    by (suc count) (suc k) e = by count k e

seat_first : (book : Book) (drift i : ℕ) → IsSeat book [] i (new_seat drift book.lbfs)
seat_first book drift i = record {
  session = λ n e. nothing_there n e;
  linked = λ e. absurd (by e);
  unlinked = λ e. (refl, refl);
  speaks = refl;
  matched = inl (refl, refl);
  task = λ j e. nothing_there j e;
  trying = λ j n x e. nothing_there j e;
  xids = λ j e. nothing_there j e;
  next = (omega arith, omega arith);
  opened = λ f l e. nothing_there l e;
  kept = λ f c e. nothing_there c e;
}
  where
    by : false ≡ true → ⊥
    by e = cc

server_first : (opening : List Opening) (tree : Tree) (count : Header) (all : List Moment) → IsTree opening tree → IsServer (book_at opening (first_core tree count) all) (first_core tree count).server
server_first opening tree count all t = record {
  held = λ f. held f (the_files.file_at tree f) (t.held f);
  fresh = λ f u. ap (λ (z : Option (List ℕ)). 0 + first_version z) (elim u [ inl le ↦ t.below f le | inr node ↦ subst (IsOpening opening f) node.1 (t.held f) ]);
  bounded = t.bounded;
  zero = t.zero;
  rooted = t.rooted;
  wants = λ i c e. no_element i c e;
  changes = let m = t.bounded.count in omega (arith, m);
  bytes = let m = t.bounded.size in omega (arith, m);
  lengths = λ i c e. no_element i c e;
  targets = λ i c e. no_element i c e;
  xids = λ i c e. no_element i c e;
  leases = (count.term_fits, tt);
  serves = count.lbfs_fits;
}
  where
    held : (f : ℕ) (x : Option File) → IsOpening opening f x → FileIs (book_at opening (first_core tree count) all) f x
    held f None h = h
    held f (Some g) h = (h.0, h.1, h.2, record { value = g.content; is = h.3; size = refl; same = inl refl }, ap (λ (z : Option (List ℕ)). 0 + first_version z) h.3 ∙ sym h.4, h.5)

pub kept_first : (opening : List Opening) (tree : Tree) (count : Header) (all : List Moment) → AreAlike all → IsTree opening tree → IsKept (book_at opening (first_core tree count) all) (first_core tree count) []
kept_first opening tree count all alike t = record {
  lbfs = refl;
  ops = refl;
  steps = refl;
  journal = refl;
  entries = refl;
  sound = record {
    rights = λ k o e. no_element k o e;
    fits = λ k o e. no_element k o e;
    strangers = λ k r e. no_element k r e;
    journal = record { count = refl; rising = λ i j p q lt e f. no_element i p e; apart = λ i j p q d e lt a b c f g h. no_element i p a; made = λ i p e f g h. no_element i p f; only = λ k p o e f g. no_element k o e; once = λ k m p o q e f c g h. no_element k o e };
    past = λ i p e. no_element i p e;
    alike = alike;
  };
  server = server_first opening tree count all t;
  made = (refl, refl);
  raws = refl;
  came = record { many = refl; past = λ n p e. no_numbered n p e };
  sessions = λ n x q e f own. no_numbered n x e;
  strangers = λ n x q e f raw. no_numbered n x e;
  seats = λ i seat e. subst (IsSeat (book_at opening (first_core tree count) all) [] i) (sym (all_new count.drift count.lbfs count.count i seat e)) (seat_first (book_at opening (first_core tree count) all) count.drift i);
  running = λ p o e f. no_element p o e;
  closings = λ m n p x y e f g h. no_numbered m x e;
  home = λ i c e. no_element i c e;
  shelf = (tt, λ i e at. no_element i e at);
  unborn = λ n m i e lt small at. no_element i e at;
}
