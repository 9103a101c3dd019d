-- What the server answers to a look-up, to a GETATTR and to a READDIR fits its record, where its tree is within the limits: a name stands for a node whose
-- attributes fit, and a page has no more bytes than it may.
use Rattle.std.proofs.Common.{◌≡◌, ℕ, zero, suc, ◌+◌, ◌*◌, ◌/◌, ◌-◌, ◌<◌, ◌≤◌, ◌^◌, List, [], ◌∷◌, ◌++◌, length, drop, Option, Some, None, Result, Ok, Err, Bool, true, false, not, ◌==◌, refl, sym, ap, ◌∙◌, subst, arith, lit<, length-append, if◌then◌else◌}
use Rattle.std.specs.Prelude.{All, min, nat_lt, nat_le, filter, cond, replicate}
use Rattle.std.specs.List.{AllByRecursion, flat_map}
use Rattle.std.proofs.lemmas.Bool.Decides.{nat_tests}
use Rattle.std.proofs.lemmas.List.Elements.{All-nil, All-cons}
use Rattle.std.proofs.lemmas.List.{length-replicate}
use Rattle.std.specs.Int.{w32, to_be_bytes}
use Rattle.limits.specs.declared.TheConstants.{LISTING_MOST}
use Rattle.xdr_codec.specs.Xdr.{u32_form, u64_form, bool_form, bool_fits, bool_len, opaque_spell, wide32, wide64, fill_len}
use Rattle.xdr_codec.specs.Attr.{attr_form, kind_form, time_form}
use Rattle.xdr_codec.specs.Chain.{link_spell, chain_spell}
use Rattle.xdr_codec.specs.Choice.{optional}
use Rattle.xdr_codec.specs.declared.attr.Attr.{Attr}
use Rattle.xdr_codec.specs.declared.status.Status.{Status}
use Rattle.xdr_codec.specs.declared.status.Status.TheVariants as status
use Rattle.xdr_codec.specs.declared.answer.Answer.TheVariants.{Done, Failed}
use Rattle.nfs3_calls.specs.Calls.{found_form, listing_form, entry_form}
use Rattle.nfs3_calls.specs.declared.listing.Entry.{Entry}
use Rattle.nfs3_calls.specs.declared.listing.Listing.{Listing}
use Rattle.nfs3_calls.specs.declared.listing.ListRange.{ListRange}
use Rattle.nfs3_calls.specs.declared.message.Nfs.TheVariants as nfs
use Rattle.nfs3_calls.specs.declared.place.Found.{Found}
use Rattle.nfs3_calls.specs.declared.place.Place.{Place}
use Rattle.wire.proofs.lemmas.Bounds.{most_optional, most_attr}
use Rattle.wire.proofs.lemmas.Sizes.{small_fits}
use Rattle.wire.specs.Message.{MessageFits}
use Rattle.wire.specs.declared.message.Body.TheVariants as body
use Rattle.wire.specs.declared.message.Message.TheVariants as message
use Rattle.tree_nodes.specs.declared.node.Node.{Node}
use Rattle.tree_nodes.specs.declared.node.Body.{Body}
use Rattle.tree_nodes.specs.declared.node.Body.TheVariants.{Directory, File}
use Rattle.tree_nodes.specs.Nodes.{with_id, named, names, without}
use Rattle.tree_reading.specs.Chain.{◌>>=◌}
use Rattle.tree_reading.specs.Names.{is_dot_dot, spelt}
use Rattle.tree_reading.specs.Tree.{Tree, content_of, directory_of, directory_or, is_directory, node_of, or_stale, or_no_entry}
use Rattle.tree_reading.specs.View.{IsNodeBounded}
use Rattle.file_tree.specs.View.{AreIdsApart}
use Rattle.tree_reading.specs.Reading.{attr_of, attr_body, attr, time_of, looked, lookup, found_of, above, entry_size, page, is_too_small, listing_of, listed, is_bad_cookie, list}
use Rattle.tree_reading.proofs.lemmas.Found.{named_bounded, id_bounded}
use Rattle.file_tree.proofs.lemmas.Limits.{all_map, all_filter, apart_without, bounds}
use Rattle.tree_calls.specs.Telling.{id_of, getattr, found, found_of as told_of, listing, answer_of}
use Rattle.server_law.proofs.lemmas.TreeCalls.{bind_ok, ok_is}
use Rattle.server_law.proofs.lemmas.Trees.{nodes_of, IsBounded}
use Rattle.kept_promise.proofs.TreeTold.{entry_is}
use Rattle.kept_promise.proofs.TreeWalks.{IsUndotted}

-- ---- no more nodes than ids

filter_all : (ns : List Node) (id : ℕ) → AllByRecursion (λ m. (id == m.id) ≡ false) ns → length (without ns id) ≡ length ns
filter_all [] id all = refl
filter_all (n ∷ ns) id all = by (n.id == id) refl (filter_all ns id all.1)
  where
    other : (id == n.id) ≡ false
    other = all.0

    by : (b : Bool) → (n.id == id) ≡ b → length (without ns id) ≡ length ns → length (cond (not b) (n ∷ without ns id) (without ns id)) ≡ suc (length ns)
    by true e later = absurd (let o = other in grind (arith, nat_tests, e, o))
    by false e later = ap suc later

-- all but one have another id
but_one : (ns : List Node) (id : ℕ) → AreIdsApart ns → length ns ≤ suc (length (without ns id))
but_one [] id apart = omega arith
but_one (n ∷ ns) id apart = by (n.id == id) refl (but_one ns id apart.1)
  where
    by : (b : Bool) → (n.id == id) ≡ b → length ns ≤ suc (length (without ns id)) → suc (length ns) ≤ suc (length (cond (not b) (n ∷ without ns id) (without ns id)))
    by true e later = let same : n.id ≡ id = grind (arith, nat_tests, e) in let all = filter_all ns id (subst (λ (i : ℕ). AllByRecursion (λ m. (i == m.id) ≡ false) ns) same apart.0) in omega (arith, all)
    by false e later = omega (arith, later)

below_one : (top : ℕ) (ns : List Node) → AllByRecursion (λ n. n.id < suc top) ns → AllByRecursion (λ n. n.id < top) (without ns top)
below_one top [] all = tt
below_one top (n ∷ ns) all = by (n.id == top) refl (below_one top ns all.1)
  where
    less : n.id < suc top
    less = all.0

    by : (b : Bool) → (n.id == top) ≡ b → AllByRecursion (λ n. n.id < top) (without ns top) → AllByRecursion (λ n. n.id < top) (cond (not b) (n ∷ without ns top) (without ns top))
    by true e later = later
    by false e later = (let l = less in grind (arith, nat_tests, e, l), later)

few_nodes : (top : ℕ) (ns : List Node) → AllByRecursion (λ n. n.id < top) ns → AreIdsApart ns → length ns ≤ top
few_nodes zero [] all apart = omega arith
few_nodes zero (n ∷ ns) all apart = let l = all.0 in absurd (omega (arith, l))
few_nodes (suc top) ns all apart = let a = but_one ns top apart in let b = few_nodes top (without ns top) (below_one top ns all) (apart_without ns top apart) in omega (arith, a, b)

filter_few : (q : Node → Bool) (ns : List Node) → length (filter q ns) ≤ length ns
filter_few q [] = omega arith
filter_few q (n ∷ ns) = by (q n) (filter_few q ns)
  where
    by : (b : Bool) → length (filter q ns) ≤ length ns → length (cond b (n ∷ filter q ns) (filter q ns)) ≤ suc (length ns)
    by true later = omega (arith, later)
    by false later = omega (arith, later)

pub few_names : (t : Tree) (dir : ℕ) → IsBounded t → length (names t.nodes dir) < 2 ^ 64
few_names t dir h =
    let some = few_nodes t.next t.nodes (all_map (IsNodeBounded t.next t.changes) (λ n. n.id < t.next) (λ n b. b.id) t.nodes h.each) h.apart in
    let few = filter_few (λ n. n.parent == dir) t.nodes in
    let next = h.next in
    let count = h.count in
    omega (arith, some, few, next, count)

-- ---- attributes

time_fits : (version : ℕ) → version < 2 ^ 32 → time_form.Fits (time_of version)
unfolding time_form u32_form
time_fits version small = (omega (arith, small), omega (arith, small))

body_fits : (nodes : List Node) (n : Node) (b : Body) → n.id < 2 ^ 64 → n.version < 2 ^ 32 → length (content_of b) ≤ 67108864 → length (names nodes n.id) < 2 ^ 64 → attr_form.Fits (attr_body nodes n b)
unfolding attr_form kind_form u32_form u64_form
body_fits nodes n Directory id version content count = let t = time_fits n.version version in (lit< tt, (lit< tt, (lit< tt, (lit< tt, (lit< tt, (count, (count, (lit< tt, (lit< tt, (lit< tt, (id, (t, (t, t)))))))))))))
body_fits nodes n (File c) id version content count = let t = time_fits n.version version in (lit< tt, (lit< tt, (lit< tt, (lit< tt, (lit< tt, (omega (arith, content), (omega (arith, content), (lit< tt, (lit< tt, (lit< tt, (id, (t, (t, t)))))))))))))

pub node_fits : (t : Tree) (n : Node) → IsBounded t → IsNodeBounded t.next t.changes n → attr_form.Fits (attr_of t.nodes n)
node_fits t n h b =
    let i = b.id in
    let v = b.version in
    let c = b.content in
    let next = h.next in
    let count = h.count in
    body_fits t.nodes n n.body (omega (arith, i, next, count)) (omega (arith, v, count)) c (few_names t n.id h)

some_fits : (a : Attr) → attr_form.Fits a → (optional attr_form).Fits (Some a)
some_fits a fits = (bool_fits true, fits)

pub stale_is : (o : Option Node) (n : Node) → or_stale o ≡ Ok n → o ≡ Some n
stale_is None n e = absurd cc
stale_is (Some m) n e = ap Some (ok_is m n e)

pub directory_there : (nodes : List Node) (dir : ℕ) (d : Node) → directory_of nodes dir ≡ Ok d → with_id nodes dir ≡ Some d
directory_there nodes dir d e =
    let a = bind_ok (or_stale (with_id nodes dir)) (directory_or status.NotDir) d e in
    stale_is (with_id nodes dir) d (a.1 ∙ ap Ok (same a.0 (is_directory a.0.body) a.2))
  where
    same : (n : Node) (b : Bool) → (let r : Result Node Status = if b then Ok n else Err status.NotDir in r ≡ Ok d) → n ≡ d
    same n true e = ok_is n d e
    same n false e = absurd cc

-- ---- LOOKUP

pub found_fits : (t : Tree) (p : Place) (f : Found) → IsBounded t → IsUndotted p.name → found t.nodes p ≡ Ok f → found_form.Fits f
unfolding found_form
found_fits t p f h plain e =
    let a = bind_ok (id_of p.dir) (λ dir. lookup t.nodes dir p.name >>= λ l. Ok (told_of l)) f e in
    let b = bind_ok (lookup t.nodes a.0 p.name) (λ l. Ok (told_of l)) f a.2 in
    let c = bind_ok (directory_of t.nodes a.0) (λ d. spelt p.name >>= λ _. looked t.nodes d p.name >>= λ n. Ok (found_of t.nodes d n)) b.0 b.1 in
    let d = bind_ok (spelt p.name) (λ _. looked t.nodes c.0 p.name >>= λ n. Ok (found_of t.nodes c.0 n)) b.0 c.2 in
    let g = bind_ok (looked t.nodes c.0 p.name) (λ n. Ok (found_of t.nodes c.0 n)) b.0 d.2 in
    let there : looked t.nodes c.0 p.name ≡ or_no_entry (named t.nodes c.0.id p.name) =
    ap (λ (z : Bool). let r : Result Node Status = if z then Ok c.0 else (if is_dot_dot p.name then Ok (above c.0 (with_id t.nodes c.0.parent)) else or_no_entry (named t.nodes c.0.id p.name)) in r) plain.0
    ∙ ap (λ (z : Bool). let r : Result Node Status = if z then Ok (above c.0 (with_id t.nodes c.0.parent)) else or_no_entry (named t.nodes c.0.id p.name) in r) plain.1 in
    let same : told_of (found_of t.nodes c.0 g.0) ≡ f = ap told_of (ok_is (found_of t.nodes c.0 g.0) b.0 g.2) ∙ ok_is (told_of b.0) f b.2 in
    let all = bounds (nodes_of t) t.changes h in
    let node = node_fits t g.0 h (named_bounded (nodes_of t) t.changes c.0.id p.name g.0 all (entry_is (named t.nodes c.0.id p.name) g.0 (sym there ∙ g.1))) in
    let dir = node_fits t c.0 h (id_bounded (nodes_of t) t.changes a.0 c.0 all (directory_there t.nodes a.0 c.0 c.1)) in
    subst found_form.Fits same ((lit< tt, omega arith), (some_fits (attr_of t.nodes g.0) node, some_fits (attr_of t.nodes c.0) dir))

pub lookup_fits : (t : Tree) (xid : ℕ) (p : Place) → IsBounded t → IsUndotted p.name → xid < 2 ^ 32 → MessageFits (message.Answer xid (body.Nfs (nfs.LookupAnswer (answer_of None (found t.nodes p)))))
lookup_fits t xid p h plain x = by (found t.nodes p) refl
  where
    by : (r : Result Found Status) → found t.nodes p ≡ r → MessageFits (message.Answer xid (body.Nfs (nfs.LookupAnswer (answer_of None r))))
    by (Ok f) e = small_fits (message.Answer xid (body.Nfs (nfs.LookupAnswer (Done f)))) (x, (refl, found_fits t p f h plain e)) tt
    by (Err s) e = small_fits (message.Answer xid (body.Nfs (nfs.LookupAnswer (Failed s None)))) (x, (refl, (bool_fits false, refl))) tt

-- ---- GETATTR

pub getattr_fits : (t : Tree) (xid : ℕ) (handle : List ℕ) → IsBounded t → xid < 2 ^ 32 → MessageFits (message.Answer xid (body.Nfs (nfs.GetAttrAnswer (answer_of tt (getattr t.nodes handle)))))
getattr_fits t xid handle h x = by (getattr t.nodes handle) refl
  where
    by : (r : Result Attr Status) → getattr t.nodes handle ≡ r → MessageFits (message.Answer xid (body.Nfs (nfs.GetAttrAnswer (answer_of tt r))))
    by (Err s) e = small_fits (message.Answer xid (body.Nfs (nfs.GetAttrAnswer (Failed s tt)))) (x, (refl, refl)) tt
    by (Ok a) e =
        let b = bind_ok (id_of handle) (λ id. attr t.nodes id) a e in
        let c = bind_ok (node_of t.nodes b.0) (λ n. Ok (attr_of t.nodes n)) a b.2 in
        let fits = node_fits t c.0 h (id_bounded (nodes_of t) t.changes b.0 c.0 (bounds (nodes_of t) t.changes h) (stale_is (with_id t.nodes b.0) c.0 c.1)) in
        small_fits (message.Answer xid (body.Nfs (nfs.GetAttrAnswer (Done a)))) (x, (refl, subst attr_form.Fits (ok_is (attr_of t.nodes c.0) a c.2) fits)) tt

-- ---- READDIR

name_len : (name : List ℕ) → length (opaque_spell name) ≡ 4 + 4 * ((length name + 3) / 4)
unfolding opaque_spell
name_len name =
    let zeros : List ℕ = replicate (fill_len (length name)) 0 in
    omega (arith, wide32.len (length name), length-append (to_be_bytes w32 (length name)) (name ++ zeros), length-append name zeros, length-replicate {A = ℕ} (fill_len (length name)) 0)

number_len : (n : ℕ) → length (u64_form.spell n) ≡ 8
unfolding u64_form
number_len n = wide64.len n

-- each entry takes just its size
link_len : (e : Entry) → length (link_spell entry_form e) ≡ entry_size e.name
unfolding entry_form
link_len e =
    let name : List ℕ = opaque_spell e.name in
    let cookie : List ℕ = u64_form.spell e.cookie in
    omega (arith, bool_len true, name_len e.name, number_len e.fileid, number_len e.cookie, length-append (bool_form.spell true) (u64_form.spell e.fileid ++ (name ++ cookie)), length-append (u64_form.spell e.fileid) (name ++ cookie), length-append name cookie)

page_len : (ns : List Node) (room cookie : ℕ) → length (flat_map (link_spell entry_form) (page room cookie ns)) ≤ room
page_len [] room cookie = omega arith
page_len (n ∷ ns) room cookie = by (nat_le (entry_size n.name) room) refl (page_len ns (room - entry_size n.name) (cookie + 1))
  where
    one : Entry
    one = record { fileid = n.id; name = n.name; cookie = cookie + 1 }

    by : (b : Bool) → nat_le (entry_size n.name) room ≡ b → length (flat_map (link_spell entry_form) (page (room - entry_size n.name) (cookie + 1) ns)) ≤ room - entry_size n.name → length (flat_map (link_spell entry_form) (if b then record { fileid = n.id; name = n.name; cookie = cookie + 1 } ∷ page (room - entry_size n.name) (cookie + 1) ns else [])) ≤ room
    by false e later = omega arith
    by true e later =
        let le : entry_size n.name ≤ room = grind (arith, nat_tests, e) in
        let l = link_len one in
        let a = length-append (link_spell entry_form one) (flat_map (link_spell entry_form) (page (room - entry_size n.name) (cookie + 1) ns)) in
        omega (arith, le, l, a, later)

page_fits : (ns : List Node) (room cookie : ℕ) → AllByRecursion (λ n. n.id < 2 ^ 64) ns → room ≤ 65536 → cookie + length ns < 2 ^ 64 → All entry_form.Fits (page room cookie ns)
unfolding entry_form u64_form
page_fits [] room cookie all small few = All-nil entry_form.Fits
page_fits (n ∷ ns) room cookie all small few = by (nat_le (entry_size n.name) room) refl (page_fits ns (room - entry_size n.name) (cookie + 1) all.1 (omega (arith, small)) (omega (arith, few)))
  where
    id : n.id < 2 ^ 64
    id = all.0

    by : (b : Bool) → nat_le (entry_size n.name) room ≡ b → All entry_form.Fits (page (room - entry_size n.name) (cookie + 1) ns) → All entry_form.Fits (if b then record { fileid = n.id; name = n.name; cookie = cookie + 1 } ∷ page (room - entry_size n.name) (cookie + 1) ns else [])
    by false e later = All-nil entry_form.Fits
    by true e later =
        let le : entry_size n.name ≤ room = grind (arith, nat_tests, e) in
        All-cons entry_form.Fits (record { fileid = n.id; name = n.name; cookie = cookie + 1 }) (page (room - entry_size n.name) (cookie + 1) ns) (id, ((omega (arith, le, small), omega (arith, le, small)), omega (arith, few))) later

pub all_drop : (P : Node → Type 0) (k : ℕ) (ns : List Node) → AllByRecursion P ns → AllByRecursion P (drop k ns)
all_drop P zero ns all = all
all_drop P (suc k) [] all = tt
all_drop P (suc k) (n ∷ ns) all = all_drop P k ns all.1

pub drop_few : (k : ℕ) (ns : List Node) → k ≤ length ns → k + length (drop k ns) ≡ length ns
drop_few zero ns le = omega arith
drop_few (suc k) [] le = absurd (omega (arith, le))
drop_few (suc k) (n ∷ ns) le = let h = drop_few k ns (omega (arith, le)) in omega (arith, h)

-- the whole answer, and how long it is
abbrev whole : List Node → Node → (cookie room : ℕ) → Listing
whole nodes d cookie room = record { attr = Some (attr_of nodes d); verifier = d.version; entries = page (room - 104) cookie (drop cookie (names nodes d.id)); eof = length (page (room - 104) cookie (drop cookie (names nodes d.id))) == length (drop cookie (names nodes d.id)) }

whole_len : (nodes : List Node) (d : Node) (cookie room : ℕ) → 104 ≤ room → room ≤ 65536 → attr_form.Fits (attr_of nodes d) → length (listing_form.spell (whole nodes d cookie room)) ≤ LISTING_MOST
unfolding listing_form
whole_len nodes d cookie room least most fits =
    let x : Listing = whole nodes d cookie room in
    let entries : List ℕ = flat_map (link_spell entry_form) x.entries in
    let end : List ℕ = (optional entry_form).spell None in
    let eof : List ℕ = bool_form.spell x.eof in
    let chain : List ℕ = chain_spell entry_form x.entries in
    omega (arith, least, most, most_optional attr_form 84 most_attr x.attr (some_fits (attr_of nodes d) fits), page_len (drop cookie (names nodes d.id)) (room - 104) cookie, bool_len x.eof, bool_len false, length-append (bool_form.spell false) [], length-append entries end, length-append chain eof, number_len x.verifier, length-append (u64_form.spell x.verifier) (chain ++ eof), length-append ((optional attr_form).spell x.attr) (u64_form.spell x.verifier ++ (chain ++ eof)))

whole_fits : (t : Tree) (d : Node) (cookie room : ℕ) → IsBounded t → IsNodeBounded t.next t.changes d → cookie ≤ length (names t.nodes d.id) → room ≤ 65536 → listing_form.Fits (whole t.nodes d cookie room)
unfolding listing_form u64_form
whole_fits t d cookie room h b within most =
    let small : AllByRecursion (λ n. n.id < 2 ^ 64) t.nodes = all_map (IsNodeBounded t.next t.changes) (λ n. n.id < 2 ^ 64) (λ n k. let i = k.id in let next = h.next in let count = h.count in omega (arith, i, next, count)) t.nodes h.each in
    let few = few_names t d.id h in
    let left = drop_few cookie (names t.nodes d.id) within in
    let v = b.version in
    let count = h.count in
    (some_fits (attr_of t.nodes d) (node_fits t d h b), (omega (arith, v, count), (page_fits (drop cookie (names t.nodes d.id)) (room - 104) cookie (all_drop (λ n. n.id < 2 ^ 64) cookie (names t.nodes d.id) (all_filter (λ n. n.id < 2 ^ 64) (λ n. n.parent == d.id) t.nodes small)) (omega (arith, most)) (omega (arith, few, left)), bool_fits _)))

pub listing_fits : (t : Tree) (xid : ℕ) (l : ListRange) → IsBounded t → xid < 2 ^ 32 → MessageFits (message.Answer xid (body.Nfs (nfs.ReadDirAnswer (answer_of None (listing t.nodes l)))))
listing_fits t xid l h x = by (listing t.nodes l) refl
  where
    shown : (d : Node) (y : Listing) → IsNodeBounded t.next t.changes d → (bad : Bool) → is_bad_cookie t.nodes d l.cookie l.verifier ≡ bad → (let r : Result Listing Status = if bad then Err status.BadCookie else listed t.nodes d l.cookie (min l.count 65536) in r ≡ Ok y) → MessageFits (message.Answer xid (body.Nfs (nfs.ReadDirAnswer (Done y))))
    shown d y b true is e = absurd cc
    shown d y b false is e = roomy (nat_lt (min l.count 65536) 104) refl e
      where
        within : l.cookie ≤ length (names t.nodes d.id)
        within = grind (arith, nat_tests, is)

        made : 104 ≤ min l.count 65536 → (full : Bool) → (let r : Result Listing Status = if full then Err status.TooSmall else Ok (whole t.nodes d l.cookie (min l.count 65536)) in r ≡ Ok y) → MessageFits (message.Answer xid (body.Nfs (nfs.ReadDirAnswer (Done y))))
        made least true e = absurd cc
        made least false e =
            let most : min l.count 65536 ≤ 65536 = omega arith in
            subst (λ (z : Listing). MessageFits (message.Answer xid (body.Nfs (nfs.ReadDirAnswer (Done z))))) (ok_is (whole t.nodes d l.cookie (min l.count 65536)) y e)
            (small_fits (message.Answer xid (body.Nfs (nfs.ReadDirAnswer (Done (whole t.nodes d l.cookie (min l.count 65536)))))) (x, (refl, whole_fits t d l.cookie (min l.count 65536) h b within most)) (whole_len t.nodes d l.cookie (min l.count 65536) least most (node_fits t d h b)))

        roomy : (b : Bool) → nat_lt (min l.count 65536) 104 ≡ b → (let r : Result Listing Status = if b then Err status.TooSmall else listing_of t.nodes d (drop l.cookie (names t.nodes d.id)) (page (min l.count 65536 - 104) l.cookie (drop l.cookie (names t.nodes d.id))) in r ≡ Ok y) → MessageFits (message.Answer xid (body.Nfs (nfs.ReadDirAnswer (Done y))))
        roomy true is e = absurd cc
        roomy false is e = made (grind (arith, nat_tests, is)) (is_too_small (drop l.cookie (names t.nodes d.id)) (page (min l.count 65536 - 104) l.cookie (drop l.cookie (names t.nodes d.id)))) e

    by : (r : Result Listing Status) → listing t.nodes l ≡ r → MessageFits (message.Answer xid (body.Nfs (nfs.ReadDirAnswer (answer_of None r))))
    by (Err s) e = small_fits (message.Answer xid (body.Nfs (nfs.ReadDirAnswer (Failed s None)))) (x, (refl, (bool_fits false, refl))) tt
    by (Ok y) e =
        let a = bind_ok (id_of l.dir) (λ dir. list t.nodes dir l.cookie l.verifier l.count) y e in
        let b = bind_ok (directory_of t.nodes a.0) (λ d. if is_bad_cookie t.nodes d l.cookie l.verifier then Err status.BadCookie else listed t.nodes d l.cookie (min l.count 65536)) y a.2 in
        shown b.0 y (id_bounded (nodes_of t) t.changes a.0 b.0 (bounds (nodes_of t) t.changes h) (directory_there t.nodes a.0 b.0 b.1)) (is_bad_cookie t.nodes b.0 l.cookie l.verifier) refl b.2
