-- What answers tell of a tree: what a name stands for, and the names of a directory, page by page.
use Rattle.std.proofs.Common.{◌⊎◌, inl, inr, ◌≡◌, ℕ, zero, suc, ◌+◌, ◌-◌, ◌≤◌, List, [], ◌∷◌, ◌++◌, length, map, take, drop, Option, Some, None, Result, Ok, Err, Bool, true, false, not, ◌==◌, ◌&&◌, ◌||◌, refl, sym, ap, ◌∙◌, subst, arith, if◌then◌else◌}
use Rattle.std.specs.Prelude.{min, nat_lt, nat_le}
use Rattle.std.specs.Option.{option_map}
use Rattle.std.proofs.lemmas.Bool.Decides.{nat_tests}
use Rattle.xdr_codec.specs.Handle.{file_of, handle_bytes}
use Rattle.xdr_codec.specs.declared.attr.Attr.{Attr}
use Rattle.xdr_codec.specs.declared.status.Status.{Status}
use Rattle.xdr_codec.specs.declared.status.Status.TheVariants as status
use Rattle.nfs3_calls.specs.declared.listing.Entry.{Entry}
use Rattle.nfs3_calls.specs.declared.listing.Listing.{Listing}
use Rattle.nfs3_calls.specs.declared.listing.ListRange.{ListRange}
use Rattle.nfs3_calls.specs.declared.place.Found.{Found}
use Rattle.nfs3_calls.specs.declared.place.Place.{Place}
use Rattle.tree_nodes.specs.declared.node.Node.{Node}
use Rattle.tree_nodes.specs.Nodes.{with_id, named, names}
use Rattle.tree_reading.specs.Chain.{◌>>=◌}
use Rattle.tree_reading.specs.Names.{is_dot, is_dot_dot, spelt}
use Rattle.tree_reading.specs.Tree.{directory_of, node_of, or_stale, directory_or, or_no_entry}
use Rattle.tree_reading.specs.Reading.{attr_of, attr, looked, lookup, found_of, above, stands_for, standing_of, entry_size, page, is_too_small, listing_of, listed, is_bad_cookie, list}
use Rattle.file_tree.proofs.lemmas.States.{id_is}
use Rattle.tree_calls.specs.Telling.{id_of, or_bad_handle, getattr, found, found_of as told_of, listing}
use Rattle.path_calls.specs.Told.{last_cookie, with_page}
use Rattle.path_calls.specs.declared.walk.Pages.{Pages}
use Rattle.server_law.proofs.lemmas.TreeCalls.{bind_ok, ok_is}
use Rattle.kept_promise.proofs.TreeDirs.{names_in}

-- ---- handles

handle_is : (o : Option ℕ) (id : ℕ) → or_bad_handle o ≡ Ok id → o ≡ Some id
handle_is None id e = absurd cc
handle_is (Some i) id e = ap Some (ok_is i id e)

-- ---- LOOKUP

pub entry_is : (o : Option Node) (n : Node) → or_no_entry o ≡ Ok n → o ≡ Some n
entry_is None n e = absurd cc
entry_is (Some m) n e = ap Some (ok_is m n e)

-- a name that was found stands for this node, in the directory that the handle names
pub record IsFound (nodes : List Node) (dir : ℕ) (name : List ℕ) (f : Found) : Type 0 where
  pub node : Node
  pub named_is : named nodes dir name ≡ Some node
  pub handle_is : f.handle ≡ handle_bytes node.id
  pub attr_is : f.attr ≡ Some (attr_of nodes node)

directory_id : (nodes : List Node) (dir : ℕ) (d : Node) → directory_of nodes dir ≡ Ok d → d.id ≡ dir
directory_id nodes dir d e = by (with_id nodes dir) refl e
  where
    is_it : (n : Node) (b : Bool) → with_id nodes dir ≡ Some n → (let r : Result Node Status = if b then Ok n else Err status.NotDir in r ≡ Ok d) → d.id ≡ dir
    is_it n true at same = ap (λ (z : Node). z.id) (sym (ok_is n d same)) ∙ id_is nodes dir n at
    is_it n false at same = absurd cc

    by : (o : Option Node) → with_id nodes dir ≡ o → (or_stale o >>= directory_or status.NotDir) ≡ Ok d → d.id ≡ dir
    by None at same = absurd cc
    by (Some n) at same = is_it n (Rattle.tree_reading.specs.Tree.is_directory n.body) at same

pub lookup_tells : (nodes : List Node) (p : Place) (f : Found) → is_dot p.name ≡ false → is_dot_dot p.name ≡ false → found nodes p ≡ Ok f → (dir : ℕ) × (file_of p.dir ≡ Some dir) × IsFound nodes dir p.name f
lookup_tells nodes p f plain plain2 e =
    let a = bind_ok (id_of p.dir) (λ dir. lookup nodes dir p.name >>= λ l. Ok (told_of l)) f e in
    let b = bind_ok (lookup nodes a.0 p.name) (λ l. Ok (told_of l)) f a.2 in
    let c = bind_ok (directory_of nodes a.0) (λ d. spelt p.name >>= λ _. looked nodes d p.name >>= λ n. Ok (found_of nodes d n)) b.0 b.1 in
    let d = bind_ok (spelt p.name) (λ _. looked nodes c.0 p.name >>= λ n. Ok (found_of nodes c.0 n)) b.0 c.2 in
    let g = bind_ok (looked nodes c.0 p.name) (λ n. Ok (found_of nodes c.0 n)) b.0 d.2 in
    let there : looked nodes c.0 p.name ≡ or_no_entry (named nodes c.0.id p.name) =
    ap (λ (z : Bool). let r : Result Node Status = if z then Ok c.0 else (if is_dot_dot p.name then Ok (above c.0 (with_id nodes c.0.parent)) else or_no_entry (named nodes c.0.id p.name)) in r) plain
    ∙ ap (λ (z : Bool). let r : Result Node Status = if z then Ok (above c.0 (with_id nodes c.0.parent)) else or_no_entry (named nodes c.0.id p.name) in r) plain2 in
    let same : told_of (found_of nodes c.0 g.0) ≡ f = ap told_of (ok_is (found_of nodes c.0 g.0) b.0 g.2) ∙ ok_is (told_of b.0) f b.2 in (
      a.0,
      handle_is (file_of p.dir) a.0 a.1,
      record {
        node = g.0;
        named_is = ap (λ (i : ℕ). named nodes i p.name) (sym (directory_id nodes a.0 c.0 c.1)) ∙ entry_is (named nodes c.0.id p.name) g.0 (sym there ∙ g.1);
        handle_is = ap (λ (z : Found). z.handle) (sym same);
        attr_is = ap (λ (z : Found). z.attr) (sym same);
      },
    )

-- what stands for a name, as a look-up in a tree says it
pub stands : (nodes : List Node) (dir : ℕ) (name : List ℕ) (n : Node) → named nodes dir name ≡ Some n → stands_for nodes dir name ≡ Some (standing_of n)
stands nodes dir name n e = ap (option_map standing_of) e

-- ---- GETATTR

pub getattr_tells : (nodes : List Node) (handle : List ℕ) (a : Attr) → getattr nodes handle ≡ Ok a → (id : ℕ) × (n : Node) × (file_of handle ≡ Some id) × (with_id nodes id ≡ Some n) × (a ≡ attr_of nodes n)
getattr_tells nodes handle a e =
    let b = bind_ok (id_of handle) (λ id. attr nodes id) a e in
    let c = bind_ok (node_of nodes b.0) (λ n. Ok (attr_of nodes n)) a b.2 in
    (b.0, c.0, handle_is (file_of handle) b.0 b.1, stale (with_id nodes b.0) c.0 c.1, sym (ok_is (attr_of nodes c.0) a c.2))
  where
    stale : (o : Option Node) (n : Node) → or_stale o ≡ Ok n → o ≡ Some n
    stale None n e = absurd cc
    stale (Some m) n e = ap Some (ok_is m n e)

-- ---- READDIR

-- a page has the names from its cookie on, as far as it has room
pub record IsPage (nodes : List Node) (dir cookie verifier : ℕ) (x : Listing) : Type 0 where
  pub node : Node
  pub directory : directory_of nodes dir ≡ Ok node
  -- behind the first page the directory still has the version that it had
  pub same : (cookie ≡ 0) ⊎ (verifier ≡ node.version)
  pub within : cookie ≤ length (names nodes dir)
  pub room : ℕ
  pub entries_are : x.entries ≡ page room cookie (drop cookie (names nodes dir))
  pub verifier_is : x.verifier ≡ node.version
  pub eof_is : x.eof ≡ (length x.entries == length (drop cookie (names nodes dir)))
  -- where names are left it has one
  pub more : is_too_small (drop cookie (names nodes dir)) x.entries ≡ false

or_false : (a b : Bool) → (a || b) ≡ false → (a ≡ false) × (b ≡ false)
or_false true b e = absurd cc
or_false false b e = (refl, e)

good_cookie : (cookie verifier version : ℕ) → (not (cookie == 0) && not (verifier == version)) ≡ false → (cookie ≡ 0) ⊎ (verifier ≡ version)
good_cookie cookie verifier version e = by (cookie == 0) (verifier == version) refl refl e
  where
    by : (a b : Bool) → (cookie == 0) ≡ a → (verifier == version) ≡ b → (not a && not b) ≡ false → (cookie ≡ 0) ⊎ (verifier ≡ version)
    by true b is other e = inl (grind (arith, nat_tests, is))
    by false true is other e = inr (grind (arith, nat_tests, other))
    by false false is other e = absurd cc

listing_is : (nodes : List Node) (d : Node) (cookie verifier room : ℕ) (x : Listing) → is_bad_cookie nodes d cookie verifier ≡ false → listed nodes d cookie room ≡ Ok x → directory_of nodes d.id ≡ Ok d → IsPage nodes d.id cookie verifier x
listing_is nodes d cookie verifier room x good e at = by (nat_lt room 104) e
  where
    left : List Node
    left = drop cookie (names nodes d.id)

    tests : ((not (cookie == 0) && not (verifier == d.version)) ≡ false) × (nat_lt (length (names nodes d.id)) cookie ≡ false)
    tests = or_false (not (cookie == 0) && not (verifier == d.version)) (nat_lt (length (names nodes d.id)) cookie) good

    whole : Listing
    whole = record { attr = Some (attr_of nodes d); verifier = d.version; entries = page (room - 104) cookie left; eof = length (page (room - 104) cookie left) == length left }

    shown : (b : Bool) → is_too_small left (page (room - 104) cookie left) ≡ b → (let r : Result Listing Status = if b then Err status.TooSmall else Ok whole in r ≡ Ok x) → IsPage nodes d.id cookie verifier x
    shown true full e = absurd cc
    shown false full e =
        let is : whole ≡ x = ok_is whole x e in
        subst (IsPage nodes d.id cookie verifier) is (record { node = d; directory = at; same = good_cookie cookie verifier d.version tests.0; within = (let f = tests.1 in grind (arith, nat_tests, f)); room = room - 104; entries_are = refl; verifier_is = refl; eof_is = refl; more = full })

    by : (b : Bool) → (let r : Result Listing Status = if b then Err status.TooSmall else listing_of nodes d left (page (room - 104) cookie left) in r ≡ Ok x) → IsPage nodes d.id cookie verifier x
    by true e = absurd cc
    by false e = shown (is_too_small left (page (room - 104) cookie left)) refl e

pub listing_tells : (nodes : List Node) (l : ListRange) (x : Listing) → listing nodes l ≡ Ok x → (dir : ℕ) × (file_of l.dir ≡ Some dir) × IsPage nodes dir l.cookie l.verifier x
listing_tells nodes l x e =
    let a = bind_ok (id_of l.dir) (λ dir. list nodes dir l.cookie l.verifier l.count) x e in
    let b = bind_ok (directory_of nodes a.0) (λ d. if is_bad_cookie nodes d l.cookie l.verifier then Err status.BadCookie else listed nodes d l.cookie (min l.count 65536)) x a.2 in
    let id = directory_id nodes a.0 b.0 b.1 in
    (a.0, handle_is (file_of l.dir) a.0 a.1, subst (λ (i : ℕ). IsPage nodes i l.cookie l.verifier x) id (by b.0 (is_bad_cookie nodes b.0 l.cookie l.verifier) refl b.2 (ap (directory_of nodes) id ∙ b.1)))
  where
    by : (d : Node) (t : Bool) → is_bad_cookie nodes d l.cookie l.verifier ≡ t → (let r : Result Listing Status = if t then Err status.BadCookie else listed nodes d l.cookie (min l.count 65536) in r ≡ Ok x) → directory_of nodes d.id ≡ Ok d → IsPage nodes d.id l.cookie l.verifier x
    by d true is e at = absurd cc
    by d false is e at = listing_is nodes d l.cookie l.verifier (min l.count 65536) x is e at

-- ---- pages, one behind the other

page_names : (room cookie : ℕ) (ns : List Node) → map (λ (e : Entry). e.name) (page room cookie ns) ≡ take (length (page room cookie ns)) (map (λ (n : Node). n.name) ns)
page_names room cookie [] = refl
page_names room cookie (n ∷ ns) = by (nat_le (entry_size n.name) room) (page_names (room - entry_size n.name) (cookie + 1) ns)
  where
    by : (b : Bool) → map (λ (e : Entry). e.name) (page (room - entry_size n.name) (cookie + 1) ns) ≡ take (length (page (room - entry_size n.name) (cookie + 1) ns)) (map (λ (m : Node). m.name) ns)
        → (let l : List Entry = if b then record { fileid = n.id; name = n.name; cookie = cookie + 1 } ∷ page (room - entry_size n.name) (cookie + 1) ns else [] in map (λ (e : Entry). e.name) l ≡ take (length l) (map (λ (m : Node). m.name) (n ∷ ns)))
    by true later = ap (λ (l : List (List ℕ)). n.name ∷ l) later
    by false later = refl

page_cookie : (room cookie : ℕ) (ns : List Node) → last_cookie cookie (page room cookie ns) ≡ cookie + length (page room cookie ns)
page_cookie room cookie [] = omega arith
page_cookie room cookie (n ∷ ns) = by (nat_le (entry_size n.name) room) (page_cookie (room - entry_size n.name) (cookie + 1) ns)
  where
    by : (b : Bool) → last_cookie (cookie + 1) (page (room - entry_size n.name) (cookie + 1) ns) ≡ cookie + 1 + length (page (room - entry_size n.name) (cookie + 1) ns)
        → (let l : List Entry = if b then record { fileid = n.id; name = n.name; cookie = cookie + 1 } ∷ page (room - entry_size n.name) (cookie + 1) ns else [] in last_cookie cookie l ≡ cookie + length l)
    by true later = later ∙ omega arith
    by false later = omega arith

take_nothing : {A : Type 0} (n : ℕ) → ◌≡◌ {A = List A} (take n []) []
take_nothing zero = refl
take_nothing (suc n) = refl

take_more : {A : Type 0} (xs : List A) (c k : ℕ) → take c xs ++ take k (drop c xs) ≡ take (c + k) xs
take_more xs zero k = let e : k ≡ 0 + k = omega arith in ap (λ (n : ℕ). take n xs) e
take_more [] (suc c) k = take_nothing k ∙ sym (take_nothing (suc c + k))
take_more (x ∷ xs) (suc c) k = let e : suc (c + k) ≡ suc c + k = omega arith in ap (λ l. x ∷ l) (take_more xs c k) ∙ ap (λ (n : ℕ). take n (x ∷ xs)) e

map_drop : {A B : Type 0} (f : A → B) (xs : List A) (c : ℕ) → map f (drop c xs) ≡ drop c (map f xs)
map_drop f xs zero = refl
map_drop f [] (suc c) = refl
map_drop f (x ∷ xs) (suc c) = map_drop f xs c

map_length : {A B : Type 0} (f : A → B) (xs : List A) → length (map f xs) ≡ length xs
map_length f [] = refl
map_length f (x ∷ xs) = ap suc (map_length f xs)

take_whole : {A : Type 0} (xs : List A) (n : ℕ) → length xs ≤ n → take n xs ≡ xs
take_whole [] zero le = refl
take_whole [] (suc n) le = refl
take_whole (x ∷ xs) zero le = absurd (omega (arith, le))
take_whole (x ∷ xs) (suc n) le = ap (λ l. x ∷ l) (take_whole xs n (omega (arith, le)))

drop_length : {A : Type 0} (xs : List A) (c : ℕ) → c ≤ length xs → length (drop c xs) + c ≡ length xs
drop_length xs zero le = omega arith
drop_length [] (suc c) le = absurd (omega (arith, le))
drop_length (x ∷ xs) (suc c) le = let h = drop_length xs c (omega (arith, le)) in omega (arith, h)

-- Pages that came so far have the first names of the directory; with one more they have more of them, and with the last all.
pub pages_on : (nodes : List Node) (dir : ℕ) (p : Pages) (x : Listing) → IsPage nodes dir p.cookie p.verifier x → p.names ≡ take p.cookie (names_in nodes dir)
    → ((with_page p x).names ≡ take (with_page p x).cookie (names_in nodes dir)) × (x.eof ≡ true → (with_page p x).names ≡ names_in nodes dir)
pages_on nodes dir p x h so_far = (more, λ last. more ∙ all last)
  where
    left : List Node
    left = drop p.cookie (names nodes dir)

    cookie_is : (with_page p x).cookie ≡ p.cookie + length (page h.room p.cookie left)
    cookie_is = ap (last_cookie p.cookie) h.entries_are ∙ page_cookie h.room p.cookie left

    names_are : map (λ (e : Entry). e.name) x.entries ≡ take (length (page h.room p.cookie left)) (drop p.cookie (names_in nodes dir))
    names_are = ap (map (λ (e : Entry). e.name)) h.entries_are ∙ page_names h.room p.cookie left ∙ ap (take (length (page h.room p.cookie left))) (map_drop (λ (n : Node). n.name) (names nodes dir) p.cookie)

    more : (with_page p x).names ≡ take (with_page p x).cookie (names_in nodes dir)
    more =
        ap (λ (l : List (List ℕ)). l ++ map (λ (e : Entry). e.name) x.entries) so_far
        ∙ ap (λ (l : List (List ℕ)). take p.cookie (names_in nodes dir) ++ l) names_are
        ∙ take_more (names_in nodes dir) p.cookie (length (page h.room p.cookie left))
        ∙ ap (λ (n : ℕ). take n (names_in nodes dir)) (sym cookie_is)

    all : x.eof ≡ true → take (with_page p x).cookie (names_in nodes dir) ≡ names_in nodes dir
    all last =
        let same : (length x.entries == length left) ≡ true = sym h.eof_is ∙ last in
        let count : length x.entries ≡ length left = grind (arith, nat_tests, same) in
        let entries = ap (λ (l : List Entry). length l) h.entries_are in
        let whole = drop_length (names nodes dir) p.cookie h.within in
        let long = map_length (λ (n : Node). n.name) (names nodes dir) in
        take_whole (names_in nodes dir) (with_page p x).cookie (let c = cookie_is in omega (arith, count, entries, whole, long, c))
