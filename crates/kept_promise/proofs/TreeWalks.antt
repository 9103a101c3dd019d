-- What comes of the answer to a walk's next call, where a tree gave it: each name that was looked up stands for what the next is looked up in, and what the
-- walk ends by is what the tree tells.
use Rattle.std.proofs.Common.{◌⊎◌, inl, inr, ◌≡◌, ℕ, ◌<◌, List, [], ◌∷◌, Option, Some, None, Result, Ok, Err, false, refl, sym, ap, ◌∙◌, subst, arith}
use native.Mathlib.Nat.{div-add-mod'}
use Rattle.std.proofs.lemmas.Nat.{from_be_bytes-to_be_bytes_8}
use Rattle.limits.specs.declared.TheConstants.{LISTING_MOST}
use Rattle.xdr_codec.specs.Handle.{file_of, handle_bytes}
use Rattle.xdr_codec.specs.declared.attr.Attr.{Attr}
use Rattle.xdr_codec.specs.declared.status.Status.{Status}
use Rattle.nfs3_calls.specs.declared.listing.Listing.{Listing}
use Rattle.nfs3_calls.specs.declared.listing.ListRange.{ListRange}
use Rattle.nfs3_calls.specs.declared.message.Nfs.{Nfs}
use Rattle.nfs3_calls.specs.declared.message.Nfs.TheVariants as nfs
use Rattle.nfs3_calls.specs.declared.place.Found.{Found}
use Rattle.tree_nodes.specs.declared.node.Node.{Node}
use Rattle.tree_nodes.specs.declared.node.Body.{Body}
use Rattle.tree_nodes.specs.declared.node.Body.TheVariants.{Directory, File}
use Rattle.tree_nodes.specs.Nodes.{with_id, named}
use Rattle.tree_reading.specs.Names.{is_dot, is_dot_dot}
use Rattle.tree_reading.specs.Tree.{Tree}
use Rattle.tree_reading.specs.Reading.{attr_of, attr_body, stands_for, standing_of}
use Rattle.tree_reading.specs.declared.reading.Standing.{Standing}
use Rattle.tree_reading.proofs.lemmas.Found.{named_bounded}
use Rattle.file_tree.proofs.lemmas.Limits.{bounds}
use Rattle.file_tree.proofs.lemmas.States.{id_is}
use Rattle.tree_calls.specs.Telling.{answer_of, found, getattr, listing, told as told_by}
use Rattle.path_calls.specs.declared.answers.Ended.TheVariants as ended
use Rattle.path_calls.specs.declared.answers.Told.{Told}
use Rattle.path_calls.specs.declared.answers.Told.TheVariants as told
use Rattle.path_calls.specs.declared.walk.Goal.{Goal}
use Rattle.path_calls.specs.declared.walk.Goal.TheVariants as goal
use Rattle.path_calls.specs.declared.walk.Pages.{Pages}
use Rattle.path_calls.specs.declared.walk.Walk.{Walk}
use Rattle.path_calls.specs.Walk.{place, arrives, call_at, goal_call, next_call}
use Rattle.path_calls.specs.Told.{goes_down, finds, finds_anew, seen, sees, told_goal, told_found, told_page, told_attr, with_page, lists_on, shown_version, walk_told}
use Rattle.trace_replay.specs.Naming.{refusal_of}
use Rattle.server_law.proofs.lemmas.Trees.{nodes_of, IsBounded}
use Rattle.kept_promise.proofs.TreeTold.{IsFound, IsPage, lookup_tells, getattr_tells, listing_tells, stands}

-- ---- handles

pub own_handle : (id : ℕ) → id < 18446744073709551616 → file_of (handle_bytes id) ≡ Some id
own_handle id small = ap (λ (n : ℕ). Some n) (from_be_bytes-to_be_bytes_8 id small)

some_id : (a b : ℕ) → ◌≡◌ {A = Option ℕ} (Some a) (Some b) → a ≡ b
some_id a b e = ap (λ (o : Option ℕ). or_else o) e
  where
    or_else : Option ℕ → ℕ
    or_else None = a
    or_else (Some n) = n

-- the ids that were given are small
named_small : (t : Tree) (dir : ℕ) (name : List ℕ) (n : Node) → IsBounded t → named t.nodes dir name ≡ Some n → n.id < 18446744073709551616
named_small t dir name n h at =
    let b = named_bounded (nodes_of t) t.changes dir name n (bounds (nodes_of t) t.changes h) at in
    let i = b.id in
    let x = h.next in
    let c = h.count in
    omega (arith, i, x, c)

-- ---- names

-- a name that is neither the directory itself nor the one above
abbrev pub IsUndotted : List ℕ → Type 0
IsUndotted name = (is_dot name ≡ false) × (is_dot_dot name ≡ false)

own_directory : (t : Tree) (dir : ℕ) (name : List ℕ) (f : Found) → dir < 18446744073709551616 → IsUndotted name → found t.nodes (place dir name) ≡ Ok f → IsFound t.nodes dir name f
own_directory t dir name f small plain e =
    let a = lookup_tells t.nodes (place dir name) f plain.0 plain.1 e in
    subst (λ (i : ℕ). IsFound t.nodes i name f) (some_id a.0 dir (sym a.1 ∙ own_handle dir small)) a.2

found_id : (t : Tree) (dir : ℕ) (name : List ℕ) (f : Found) → IsBounded t → (h : IsFound t.nodes dir name f) → file_of f.handle ≡ Some h.node.id
found_id t dir name f b h = ap file_of h.handle_is ∙ own_handle h.node.id (named_small t dir name h.node b h.named_is)

-- ---- what an answer leads to

-- it's refused, and the walk ends by that
abbrev pub IsRefusal : Nfs → Told → Type 0
IsRefusal a r = (s : Status) × (refusal_of a ≡ Some s) × (r ≡ told.Ends (ended.Refused s))

-- the name stands for a node, and with its id it goes on
abbrev pub Goes : Tree → (dir : ℕ) → List ℕ → (ℕ → Told) → Told → Type 0
Goes t dir name on r = (s : Standing) × (stands_for t.nodes dir name ≡ Some s) × (r ≡ on s.id) × (s.id < 18446744073709551616)

some_nfs : (a b : Nfs) → ◌≡◌ {A = Option Nfs} (Some a) (Some b) → a ≡ b
some_nfs a b e = ap (λ (o : Option Nfs). or_else o) e
  where
    or_else : Option Nfs → Nfs
    or_else None = a
    or_else (Some n) = n

-- a look-up on the way
pub looks_down : (t : Tree) (w : Walk) (n : List ℕ) (ns : List (List ℕ)) (a : Nfs) → IsBounded t → w.dir < 18446744073709551616 → IsUndotted n → w.left ≡ n ∷ ns → told_by t.nodes (next_call w) ≡ Some a
    → IsRefusal a (walk_told w a) ⊎ Goes t w.dir n (λ id. told.Asks (arrives id ns w.goal)) (walk_told w a)
looks_down t w n ns a b small plain left e =
    let call : next_call w ≡ nfs.Lookup (place w.dir n) = ap (λ (l : List (List ℕ)). call_at w.dir l w.goal) left in
    let is : nfs.LookupAnswer (answer_of None (found t.nodes (place w.dir n))) ≡ a = some_nfs (nfs.LookupAnswer (answer_of None (found t.nodes (place w.dir n)))) a (sym (ap (told_by t.nodes) call) ∙ e) in
    subst (λ (z : Nfs). IsRefusal z (walk_told w z) ⊎ Goes t w.dir n (λ id. told.Asks (arrives id ns w.goal)) (walk_told w z)) is (by (found t.nodes (place w.dir n)) refl)
  where
    by : (r : Result Found Status) → found t.nodes (place w.dir n) ≡ r → IsRefusal (nfs.LookupAnswer (answer_of None r)) (walk_told w (nfs.LookupAnswer (answer_of None r))) ⊎ Goes t w.dir n (λ id. told.Asks (arrives id ns w.goal)) (walk_told w (nfs.LookupAnswer (answer_of None r)))
    by (Err s) is = inl (s, refl, refl)
    by (Ok f) is =
        let h = own_directory t w.dir n f small plain is in
        inr (standing_of h.node, stands t.nodes w.dir n h.node h.named_is, ap (λ (l : List (List ℕ)). told_found l w.goal f) left ∙ ap (goes_down ns w.goal) (found_id t w.dir n f b h), named_small t w.dir n h.node b h.named_is)

-- the last of an open's
pub finds_file : (t : Tree) (w : Walk) (name : List ℕ) (a : Nfs) → IsBounded t → w.dir < 18446744073709551616 → IsUndotted name → w.left ≡ [] → w.goal ≡ goal.Find name → told_by t.nodes (next_call w) ≡ Some a
    → IsRefusal a (walk_told w a) ⊎ Goes t w.dir name (λ id. told.Finds id) (walk_told w a)
finds_file t w name a b small plain left aim e =
    let call : next_call w ≡ nfs.Lookup (place w.dir name) = ap (λ (l : List (List ℕ)). call_at w.dir l w.goal) left ∙ ap (goal_call w.dir) aim in
    let is : nfs.LookupAnswer (answer_of None (found t.nodes (place w.dir name))) ≡ a = some_nfs (nfs.LookupAnswer (answer_of None (found t.nodes (place w.dir name)))) a (sym (ap (told_by t.nodes) call) ∙ e) in
    subst (λ (z : Nfs). IsRefusal z (walk_told w z) ⊎ Goes t w.dir name (λ id. told.Finds id) (walk_told w z)) is (by (found t.nodes (place w.dir name)) refl)
  where
    by : (r : Result Found Status) → found t.nodes (place w.dir name) ≡ r → IsRefusal (nfs.LookupAnswer (answer_of None r)) (walk_told w (nfs.LookupAnswer (answer_of None r))) ⊎ Goes t w.dir name (λ id. told.Finds id) (walk_told w (nfs.LookupAnswer (answer_of None r)))
    by (Err s) is = inl (s, refl, refl)
    by (Ok f) is =
        let h = own_directory t w.dir name f small plain is in
        inr (standing_of h.node, stands t.nodes w.dir name h.node h.named_is, ap (λ (l : List (List ℕ)). told_found l w.goal f) left ∙ ap (λ (g : Goal). told_goal g f) aim ∙ ap finds (found_id t w.dir name f b h), named_small t w.dir name h.node b h.named_is)

-- and of a rewrite's
pub rewrites_file : (t : Tree) (w : Walk) (name : List ℕ) (a : Nfs) → IsBounded t → w.dir < 18446744073709551616 → IsUndotted name → w.left ≡ [] → w.goal ≡ goal.Rewrite name → told_by t.nodes (next_call w) ≡ Some a
    → IsRefusal a (walk_told w a) ⊎ Goes t w.dir name (λ id. told.Rewrites id) (walk_told w a)
rewrites_file t w name a b small plain left aim e =
    let call : next_call w ≡ nfs.Lookup (place w.dir name) = ap (λ (l : List (List ℕ)). call_at w.dir l w.goal) left ∙ ap (goal_call w.dir) aim in
    let is : nfs.LookupAnswer (answer_of None (found t.nodes (place w.dir name))) ≡ a = some_nfs (nfs.LookupAnswer (answer_of None (found t.nodes (place w.dir name)))) a (sym (ap (told_by t.nodes) call) ∙ e) in
    subst (λ (z : Nfs). IsRefusal z (walk_told w z) ⊎ Goes t w.dir name (λ id. told.Rewrites id) (walk_told w z)) is (by (found t.nodes (place w.dir name)) refl)
  where
    by : (r : Result Found Status) → found t.nodes (place w.dir name) ≡ r → IsRefusal (nfs.LookupAnswer (answer_of None r)) (walk_told w (nfs.LookupAnswer (answer_of None r))) ⊎ Goes t w.dir name (λ id. told.Rewrites id) (walk_told w (nfs.LookupAnswer (answer_of None r)))
    by (Err s) is = inl (s, refl, refl)
    by (Ok f) is =
        let h = own_directory t w.dir name f small plain is in
        inr (standing_of h.node, stands t.nodes w.dir name h.node h.named_is, ap (λ (l : List (List ℕ)). told_found l w.goal f) left ∙ ap (λ (g : Goal). told_goal g f) aim ∙ ap finds_anew (found_id t w.dir name f b h), named_small t w.dir name h.node b h.named_is)

-- ---- what is told of a node

-- the version that the attributes show is its own
shown : (nodes : List Node) (n : Node) → shown_version (attr_of nodes n) ≡ n.version
shown nodes n = by n.body
  where
    by : (b : Body) → shown_version (attr_body nodes n b) ≡ n.version
    by Directory = div-add-mod' n.version 1000000000
    by (File c) = div-add-mod' n.version 1000000000

-- it's told of by its attributes
abbrev pub Sees : List Node → Node → Told → Type 0
Sees nodes n r = r ≡ told.Ends (ended.Seen n.id (attr_of nodes n).kind n.version (attr_of nodes n).size)

seen_node : (nodes : List Node) (n : Node) → Sees nodes n (seen n.id (attr_of nodes n))
seen_node nodes n = ap (λ (v : ℕ). told.Ends (ended.Seen n.id (attr_of nodes n).kind v (attr_of nodes n).size)) (shown nodes n)

pub sees_name : (t : Tree) (w : Walk) (name : List ℕ) (a : Nfs) → IsBounded t → w.dir < 18446744073709551616 → IsUndotted name → w.left ≡ [] → w.goal ≡ goal.Look name → told_by t.nodes (next_call w) ≡ Some a
    → IsRefusal a (walk_told w a) ⊎ ((n : Node) × (named t.nodes w.dir name ≡ Some n) × Sees t.nodes n (walk_told w a))
sees_name t w name a b small plain left aim e =
    let call : next_call w ≡ nfs.Lookup (place w.dir name) = ap (λ (l : List (List ℕ)). call_at w.dir l w.goal) left ∙ ap (goal_call w.dir) aim in
    let is : nfs.LookupAnswer (answer_of None (found t.nodes (place w.dir name))) ≡ a = some_nfs (nfs.LookupAnswer (answer_of None (found t.nodes (place w.dir name)))) a (sym (ap (told_by t.nodes) call) ∙ e) in
    subst (λ (z : Nfs). IsRefusal z (walk_told w z) ⊎ ((n : Node) × (named t.nodes w.dir name ≡ Some n) × Sees t.nodes n (walk_told w z))) is (by (found t.nodes (place w.dir name)) refl)
  where
    by : (r : Result Found Status) → found t.nodes (place w.dir name) ≡ r → IsRefusal (nfs.LookupAnswer (answer_of None r)) (walk_told w (nfs.LookupAnswer (answer_of None r))) ⊎ ((n : Node) × (named t.nodes w.dir name ≡ Some n) × Sees t.nodes n (walk_told w (nfs.LookupAnswer (answer_of None r))))
    by (Err s) is = inl (s, refl, refl)
    by (Ok f) is =
        let h = own_directory t w.dir name f small plain is in
        inr (h.node, h.named_is, ap (λ (l : List (List ℕ)). told_found l w.goal f) left ∙ ap (λ (g : Goal). told_goal g f) aim ∙ ap (λ (o : Option ℕ). sees o f.attr) (found_id t w.dir name f b h) ∙ ap (sees (Some h.node.id)) h.attr_is ∙ seen_node t.nodes h.node)

pub sees_root : (t : Tree) (w : Walk) (a : Nfs) → IsBounded t → w.dir < 18446744073709551616 → w.left ≡ [] → w.goal ≡ goal.LookRoot → told_by t.nodes (next_call w) ≡ Some a
    → IsRefusal a (walk_told w a) ⊎ ((n : Node) × (with_id t.nodes w.dir ≡ Some n) × (n.id ≡ w.dir) × Sees t.nodes n (walk_told w a))
sees_root t w a b small left aim e =
    let call : next_call w ≡ nfs.GetAttr (handle_bytes w.dir) = ap (λ (l : List (List ℕ)). call_at w.dir l w.goal) left ∙ ap (goal_call w.dir) aim in
    let is : nfs.GetAttrAnswer (answer_of tt (getattr t.nodes (handle_bytes w.dir))) ≡ a = some_nfs (nfs.GetAttrAnswer (answer_of tt (getattr t.nodes (handle_bytes w.dir)))) a (sym (ap (told_by t.nodes) call) ∙ e) in
    subst (λ (z : Nfs). IsRefusal z (walk_told w z) ⊎ ((n : Node) × (with_id t.nodes w.dir ≡ Some n) × (n.id ≡ w.dir) × Sees t.nodes n (walk_told w z))) is (by (getattr t.nodes (handle_bytes w.dir)) refl)
  where
    by : (r : Result Attr Status) → getattr t.nodes (handle_bytes w.dir) ≡ r → IsRefusal (nfs.GetAttrAnswer (answer_of tt r)) (walk_told w (nfs.GetAttrAnswer (answer_of tt r))) ⊎ ((n : Node) × (with_id t.nodes w.dir ≡ Some n) × (n.id ≡ w.dir) × Sees t.nodes n (walk_told w (nfs.GetAttrAnswer (answer_of tt r))))
    by (Err s) is = inl (s, refl, refl)
    by (Ok x) is =
        let h = getattr_tells t.nodes (handle_bytes w.dir) x is in
        let same : h.0 ≡ w.dir = some_id h.0 w.dir (sym h.2 ∙ own_handle w.dir small) in
        let at : with_id t.nodes w.dir ≡ Some h.1 = ap (with_id t.nodes) (sym same) ∙ h.3 in
        let own : h.1.id ≡ w.dir = id_is t.nodes w.dir h.1 at in
        inr (h.1, at, own, ap (λ (g : Goal). told_attr w.dir g x) aim ∙ ap (seen w.dir) h.4 ∙ ap (λ (i : ℕ). seen i (attr_of t.nodes h.1)) (sym own) ∙ seen_node t.nodes h.1)

-- ---- pages

pub lists_page : (t : Tree) (w : Walk) (p : Pages) (a : Nfs) → w.dir < 18446744073709551616 → w.left ≡ [] → w.goal ≡ goal.List p → told_by t.nodes (next_call w) ≡ Some a
    → IsRefusal a (walk_told w a) ⊎ ((x : Listing) × IsPage t.nodes w.dir p.cookie p.verifier x × (walk_told w a ≡ lists_on w.dir (with_page p x) x.entries x.eof))
lists_page t w p a small left aim e =
    let call : next_call w ≡ goal_call w.dir (goal.List p) = ap (λ (l : List (List ℕ)). call_at w.dir l w.goal) left ∙ ap (goal_call w.dir) aim in
    let is : nfs.ReadDirAnswer (answer_of None (listing t.nodes range)) ≡ a = some_nfs (nfs.ReadDirAnswer (answer_of None (listing t.nodes range))) a (sym (ap (told_by t.nodes) call) ∙ e) in
    subst (λ (z : Nfs). IsRefusal z (walk_told w z) ⊎ ((x : Listing) × IsPage t.nodes w.dir p.cookie p.verifier x × (walk_told w z ≡ lists_on w.dir (with_page p x) x.entries x.eof))) is (by (listing t.nodes range) refl)
  where
    range : ListRange
    range = record { dir = handle_bytes w.dir; cookie = p.cookie; verifier = p.verifier; count = LISTING_MOST }

    by : (r : Result Listing Status) → listing t.nodes range ≡ r → IsRefusal (nfs.ReadDirAnswer (answer_of None r)) (walk_told w (nfs.ReadDirAnswer (answer_of None r))) ⊎ ((x : Listing) × IsPage t.nodes w.dir p.cookie p.verifier x × (walk_told w (nfs.ReadDirAnswer (answer_of None r)) ≡ lists_on w.dir (with_page p x) x.entries x.eof))
    by (Err s) is = inl (s, refl, refl)
    by (Ok x) is =
        let h = listing_tells t.nodes range x is in
        let same : h.0 ≡ w.dir = some_id h.0 w.dir (sym h.1 ∙ own_handle w.dir small) in
        inr (x, subst (λ (i : ℕ). IsPage t.nodes i p.cookie p.verifier x) same h.2, ap (λ (g : Goal). told_page w.dir g x) aim)
