-- What calls on names may be refused by that change nothing: the look-up of a name that is spelt, a page of a directory, and the root's attributes.
use Rattle.std.proofs.Common.{inl, inr, ◌≡◌, ℕ, ◌+◌, ◌-◌, ◌<◌, ◌≤◌, List, [], ◌∷◌, length, drop, min, Option, Some, None, Result, Ok, Err, Bool, true, false, not, ◌&&◌, ◌==◌, refl, sym, ap, ◌∙◌, subst, arith, nat_lt, nat_le, if◌then◌else◌, IsSome}
use Rattle.std.specs.List.{AllByRecursion}
use Rattle.std.proofs.lemmas.Bool.Decides.{nat_tests}
use Rattle.limits.specs.declared.TheConstants.{LISTING_MOST}
use Rattle.xdr_codec.specs.Handle.{handle_bytes}
use Rattle.xdr_codec.specs.declared.status.Status.{Status}
use Rattle.xdr_codec.specs.declared.status.Status.TheVariants as status
use Rattle.nfs3_calls.specs.declared.listing.Entry.{Entry}
use Rattle.nfs3_calls.specs.declared.listing.Listing.{Listing}
use Rattle.tree_nodes.specs.declared.node.Node.{Node}
use Rattle.tree_nodes.specs.Nodes.{with_id, named, names}
use Rattle.tree_reading.specs.Chain.{◌>>=◌}
use Rattle.tree_reading.specs.Names.{is_dot_dot, is_misspelt, spelt}
use Rattle.tree_reading.specs.Tree.{or_stale, node_of, directory_of, or_no_entry}
use Rattle.tree_reading.specs.Reading.{attr_of, attr, looked, lookup, above, entry_size, page, is_too_small, listing_of, listed, is_bad_cookie, list}
use Rattle.file_tree.proofs.lemmas.Limits.{all_filter}
use Rattle.tree_calls.specs.Telling.{found, found_of, id_of, or_bad_handle, getattr, listing}
use Rattle.path_calls.specs.Walk.{place}
use Rattle.trace_replay.specs.Complete.{IsPathRefused, IsNameRefused}
use Rattle.kept_promise.proofs.Common.{Contains-push}
use Rattle.kept_promise.proofs.Checks.{FailsBy, done, fails, chain, directory_fails, spelt_fails}
use Rattle.kept_promise.proofs.Rooted.{IsShort}
use Rattle.kept_promise.proofs.TreeWalks.{own_handle, IsUndotted}
use Rattle.kept_promise.proofs.NamesSpelled.{all_drop}

-- by what a path is found to be
abbrev pub Refuses : {A : Type 0} → Result A Status → Type 0
Refuses r = FailsBy IsPathRefused r

-- ---- the directory, and the name in it

directory_refused : (nodes : List Node) (id : ℕ) → Refuses (directory_of nodes id)
directory_refused nodes id = directory_fails IsPathRefused nodes id (inr (inl refl)) (inr (inr refl))

looked_refused : (nodes : List Node) (d : Node) (name : List ℕ) → IsUndotted name → Refuses (looked nodes d name)
looked_refused nodes d name plain =
    subst (λ (b : Bool). Refuses (if b then Ok d else (if is_dot_dot name then Ok (above d (with_id nodes d.parent)) else or_no_entry (named nodes d.id name)))) (sym plain.0)
    (subst (λ (b : Bool). Refuses (if b then Ok (above d (with_id nodes d.parent)) else or_no_entry (named nodes d.id name))) (sym plain.1) (by (named nodes d.id name)))
  where
    by : (o : Option Node) → Refuses (or_no_entry o)
    by None = fails IsPathRefused status.NoEnt (inl refl)
    by (Some n) = done IsPathRefused n

-- a handle of its own is one
own_id : (P : ℕ → Type 0) (dir : ℕ) → dir < 18446744073709551616 → FailsBy P (id_of (handle_bytes dir))
own_id P dir small = subst (λ (o : Option ℕ). FailsBy P (or_bad_handle o)) (sym (own_handle dir small)) (done P dir)

pub found_refused : (nodes : List Node) (dir : ℕ) (name : List ℕ) → dir < 18446744073709551616 → IsUndotted name → length name ≤ 255 → is_misspelt name ≡ false → Refuses (found nodes (place dir name))
found_refused nodes dir name small plain short right =
    chain IsPathRefused (id_of (handle_bytes dir)) (λ d. lookup nodes d name >>= λ l. Ok (found_of l)) (own_id IsPathRefused dir small)
    (λ d. chain IsPathRefused (lookup nodes d name) (λ l. Ok (found_of l)) (looks d) (λ l. done IsPathRefused (found_of l)))
  where
    looks : (d : ℕ) → Refuses (lookup nodes d name)
    looks d = chain IsPathRefused (directory_of nodes d) _ (directory_refused nodes d) (λ n. chain IsPathRefused (spelt name) _ (spelt_fails IsPathRefused name short right) (λ u. chain IsPathRefused (looked nodes n name) _ (looked_refused nodes n name plain) (λ m. done IsPathRefused _)))

-- ---- the root's attributes

-- by nothing
abbrev pub Never : ℕ → Type 0
Never status = ⊥

-- those of a node that is there
pub attr_refused : (nodes : List Node) (id : ℕ) → id < 18446744073709551616 → IsSome (with_id nodes id) → FailsBy Never (getattr nodes (handle_bytes id))
attr_refused nodes id small there = subst (λ (o : Option ℕ). FailsBy Never (or_bad_handle o >>= λ i. attr nodes i)) (sym (own_handle id small)) (chain Never (node_of nodes id) (λ n. Ok (attr_of nodes n)) (by (with_id nodes id) there) (λ n. done Never (attr_of nodes n)))
  where
    by : (o : Option Node) → IsSome o → FailsBy Never (or_stale o)
    by None h = absurd cc
    by (Some n) h = done Never n

-- ---- a page of a directory

-- as a look-up is, or since another change came between (10003, NFS3ERR_BAD_COOKIE)
abbrev pub IsPageRefused : ℕ → Type 0
IsPageRefused status = IsNameRefused status (10003 ∷ [])

-- a page has an entry
some_entry : (e : Entry) (es : List Entry) → (length (e ∷ es) == 0) ≡ false
some_entry e es = let some : 0 < length (e ∷ es) = omega arith in grind (arith, nat_tests, some)

none_small : (b : Bool) → (b && false) ≡ false
none_small true = refl
none_small false = refl

entry_there : (room cookie : ℕ) (ns : List Node) → AllByRecursion IsShort ns → 282 ≤ room → is_too_small ns (page room cookie ns) ≡ false
entry_there room cookie [] all large = refl
entry_there room cookie (n ∷ ns) all large =
    let short : length n.name ≤ 255 = all.0 in
    let size : entry_size n.name ≤ room = omega (arith, short, large) in
    let fits : nat_le (entry_size n.name) room ≡ true = grind (arith, nat_tests, size) in
    by (nat_le (entry_size n.name) room) fits
  where
    by : (b : Bool) → b ≡ true → is_too_small (n ∷ ns) (if b then record { fileid = n.id; name = n.name; cookie = cookie + 1 } ∷ page (room - entry_size n.name) (cookie + 1) ns else []) ≡ false
    by true e = ap (λ (t : Bool). not (length (n ∷ ns) == 0) && t) (some_entry (record { fileid = n.id; name = n.name; cookie = cookie + 1 }) (page (room - entry_size n.name) (cookie + 1) ns)) ∙ none_small (not (length (n ∷ ns) == 0))
    by false e = absurd cc

listed_refused : (nodes : List Node) (d : Node) (cookie room : ℕ) → AllByRecursion IsShort nodes → 386 ≤ room → FailsBy IsPageRefused (listed nodes d cookie room)
listed_refused nodes d cookie room short large =
    let fits : nat_lt room 104 ≡ false = grind (arith, nat_tests, large) in
    subst (λ (b : Bool). FailsBy IsPageRefused (if b then Err status.TooSmall else listing_of nodes d left (page (room - 104) cookie left))) (sym fits)
    (subst (λ (b : Bool). FailsBy IsPageRefused (if b then Err status.TooSmall else Ok whole))
    (sym (entry_there (room - 104) cookie left (all_drop IsShort cookie (names nodes d.id) (all_filter IsShort (λ n. n.parent == d.id) nodes short)) (omega (arith, large)))) (done IsPageRefused whole))
  where
    left : List Node
    left = drop cookie (names nodes d.id)

    whole : Listing
    whole = record { attr = Some (attr_of nodes d); verifier = d.version; entries = page (room - 104) cookie left; eof = length (page (room - 104) cookie left) == length left }

pub page_refused : (nodes : List Node) (dir cookie verifier : ℕ) → dir < 18446744073709551616 → AllByRecursion IsShort nodes → FailsBy IsPageRefused (listing nodes (record { dir = handle_bytes dir; cookie = cookie; verifier = verifier; count = LISTING_MOST }))
page_refused nodes dir cookie verifier small short =
    chain IsPageRefused (id_of (handle_bytes dir)) (λ d. list nodes d cookie verifier LISTING_MOST) (own_id IsPageRefused dir small)
    (λ d. chain IsPageRefused (directory_of nodes d) (λ n. if is_bad_cookie nodes n cookie verifier then Err status.BadCookie else listed nodes n cookie (min LISTING_MOST 65536)) (λ s e. inl (directory_refused nodes d s e)) (λ n. by n (is_bad_cookie nodes n cookie verifier)))
  where
    by : (n : Node) (b : Bool) → FailsBy IsPageRefused (if b then Err status.BadCookie else listed nodes n cookie (min LISTING_MOST 65536))
    by n true = fails IsPageRefused status.BadCookie (inr (Contains-push [] 10003))
    by n false = listed_refused nodes n cookie (min LISTING_MOST 65536) short (omega arith)
