-- A content that is fresh to a client that acts, where no note is stale: it is what its file is.
use Rattle.std.proofs.Common.{◌≡◌, ℕ, zero, suc, ◌+◌, ◌<◌, ◌≤◌, length, List, [], Option, Some, IsSome, refl, sym, ap, ◌∙◌, subst, arith}
use Rattle.client_cache.specs.Cache.{Entries, content_of, fresh_of}
use Rattle.client_cache.specs.declared.kept.Content.{Content}
use Rattle.chunk_calls.specs.Files as the_files
use Rattle.file_open.specs.Caching.{fresh_content}
use Rattle.tree_reading.specs.Tree.{Tree}
use Rattle.kept_promise.proofs.Common.{◌==◌, Contains, File, Message, Core, Seat, numbered, happens, Moment, Book, Op, Or, HadContent, value_at, version_at, Queue}
use Rattle.kept_promise.proofs.Lists.{false_and_true}
use Rattle.kept_promise.proofs.Rights.{acts_at, AreLeased, EndsFresh, WasThere}
use Rattle.kept_promise.proofs.Facts.{FileIs, IsKept}
use Rattle.kept_promise.proofs.Growth.{or_map}
use Rattle.kept_promise.proofs.Attempts.{one_content}
use Rattle.kept_promise.proofs.Caches.{FreshIn, fresh_in_is}

-- a moment at which a client acts, whose clock shows its reading by now; its step sends these
pub record ActsAt (book : Book) (k : Core) (i : ℕ) (seat : Seat) (send : List Message) : Type 0 where
  pub at : Moment
  pub there : Contains book.moments at
  pub steps_is : at.before.steps ≡ k.steps
  pub tree_is : at.before.server.tree ≡ k.server.tree
  pub acts : acts_at at.before at.event ≡ Some (i, seat.client.clock)
  pub was : Seat
  pub was_is : numbered at.before.seats i ≡ Some was
  pub cache_is : was.client.cache ≡ seat.client.cache
  pub quiet : send ≡ [] → (happens at.before at.event).up ≡ []

module _ (book : Book) (k : Core) (qs : List Queue) (i : ℕ) (seat : Seat) (kept : IsKept book k qs) (here : numbered k.seats i ≡ Some seat) (f : ℕ) (v : Content) (fresh : fresh_content seat.client.cache f seat.client.clock ≡ Some v) where
  is_fresh : FreshIn seat.client.cache f seat.client.clock v
  is_fresh = fresh_in_is seat.client.cache f seat.client.clock v fresh

  pub fresh_short : length v.bytes ≤ 67108864
  fresh_short = ((kept.seats i seat here).kept f v is_fresh.kept).1

  positive : 0 < f
  positive = by f refl
    where
      by : (g : ℕ) → f ≡ g → 0 < g
      by zero is = absurd (false_and_true (v.version == 0) is_fresh.some (ap (λ (n : ℕ). n == 0) (((kept.seats i seat here).kept f v is_fresh.kept).3 is)))
      by (suc g) is = omega arith

  pub fresh_there : WasThere book f
  fresh_there = ((kept.seats i seat here).kept f v is_fresh.kept).2 positive

  had : HadContent book f v.version v.bytes
  had = ((kept.seats i seat here).kept f v is_fresh.kept).0 positive

  -- the tree has its file, in its version
  in_tree : (send : List Message) → ActsAt book k i seat send → AreLeased book.moments → (g : File) × (the_files.file_at k.server.tree f ≡ Some g) × (g.version ≡ v.version)
  in_tree send a leased =
      let g = leased a.at i seat.client.clock f a.was v a.there a.acts a.was_is (ap (λ (es : Entries). content_of es f) a.cache_is ∙ is_fresh.kept) (ap (λ (es : Entries). fresh_of es f seat.client.clock) a.cache_is ∙ is_fresh.fresh) in
      (g.0, ap (λ (t : Tree). the_files.file_at t f) (sym a.tree_is) ∙ g.1, g.2)

  pub fresh_version : (send : List Message) → ActsAt book k i seat send → AreLeased book.moments → version_at book f (book.steps + 1) ≡ v.version
  fresh_version send a leased =
      let g = in_tree send a leased in
      let is = subst (FileIs book f) g.1 (kept.server.held f) in
      is.4 ∙ g.2

  pub fresh_value : (send : List Message) → ActsAt book k i seat send → AreLeased book.moments → Or book (value_at book f (book.steps + 1) ≡ Some v.bytes)
  fresh_value send a leased =
      let g = in_tree send a leased in
      let is = subst (FileIs book f) g.1 (kept.server.held f) in
      let value = is.3 in
      or_map book (value_at book f had.moment ≡ Some v.bytes) (value_at book f (book.steps + 1) ≡ Some v.bytes) (λ e. value.is ∙ ap (λ (l : List ℕ). Some l) (sym (one_content book f had.moment (book.steps + 1) v.bytes value.value e value.is (had.version_is ∙ sym g.2 ∙ sym is.4)))) had.value_is

  pub fresh_some : (send : List Message) → ActsAt book k i seat send → AreLeased book.moments → IsSome (value_at book f (book.steps + 1))
  fresh_some send a leased =
      let g = in_tree send a leased in
      let is = subst (FileIs book f) g.1 (kept.server.held f) in
      subst (λ (o : Option (List ℕ)). IsSome o) (sym is.3.is) refl

  -- an operation of it ends so
  abbrev pub fresh_ends : (send : List Message) → ActsAt book k i seat send → send ≡ [] → (o : Op) → o.client ≡ i → o.file ≡ f → o.end ≡ Some (k.steps + 1) → EndsFresh book.moments o
  fresh_ends send a none o client file end = record {
    moment = a.at;
    there = a.there;
    end_is = end ∙ ap (λ (n : ℕ). Some (n + 1)) (sym a.steps_is);
    quiet = a.quiet none;
    now = seat.client.clock;
    acts = a.acts ∙ ap (λ (c : ℕ). Some (c, seat.client.clock)) (sym client);
    seat = a.was;
    seat_is = ap (numbered a.at.before.seats) client ∙ a.was_is;
    content = v;
    fresh = ap (λ (es : Entries). fresh_content es o.file seat.client.clock) a.cache_is ∙ ap (λ (g : ℕ). fresh_content seat.client.cache g seat.client.clock) file ∙ fresh;
  }
