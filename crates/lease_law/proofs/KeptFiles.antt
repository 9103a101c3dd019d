-- Which files a call, and a change once it's made, leave as they are: all, and all but its own.
use Rattle.std.proofs.Common.{◌≡◌, ℕ, ◌+◌, List, length, Option, Some, None, Result, Ok, Err, Bool, true, false, not, ◌==◌, refl, sym, ap, ◌∙◌, subst, arith, if◌then◌else◌}
use Rattle.std.specs.Option.{option_map}
use Rattle.std.proofs.lemmas.Bool.Decides.{nat_tests}
use Rattle.xdr_codec.specs.declared.status.Status.{Status}
use Rattle.xdr_codec.specs.declared.status.Status.TheVariants as status
use Rattle.nfs3_calls.specs.declared.message.Nfs.{Nfs}
use Rattle.nfs3_calls.specs.declared.message.Nfs.TheVariants as nfs
use Rattle.tree_nodes.specs.declared.node.Node.{Node}
use Rattle.tree_nodes.specs.declared.node.Body.{Body}
use Rattle.tree_nodes.specs.declared.node.Body.TheVariants.{Directory, File as Plain}
use Rattle.tree_nodes.specs.Nodes.{with_id, named, without}
use Rattle.tree_nodes.proofs.lemmas.Lists.{with_id_without}
use Rattle.tree_reading.specs.Chain.{◌>>=◌}
use Rattle.tree_reading.specs.Names.{spelt, undotted}
use Rattle.tree_reading.specs.Reading.{stands_for, standing_of, version}
use Rattle.tree_reading.specs.Tree.{Tree, is_directory, directory_of, directory_or, file_or, or_no_entry}
use Rattle.tree_reading.specs.Plans.{spared, create_plan, may_mkdir, may_rmdir, or_not_empty, remove_done, remove_plan, rmdir_plan, rename_plan, replace_plan, is_node}
use Rattle.tree_reading.specs.declared.call.Changed.{Changed}
use Rattle.tree_reading.specs.declared.call.CreateMode.{CreateMode}
use Rattle.tree_reading.specs.declared.call.Reservation.{Reservation}
use Rattle.tree_reading.specs.declared.call.Planned.{Planned}
use Rattle.tree_reading.specs.declared.call.Planned.TheVariants as planned
use Rattle.tree_reading.specs.declared.reading.Standing.{Standing}
use Rattle.tree_reading.proofs.lemmas.Admitted.{remove_there, rename_there}
use Rattle.tree_reading.proofs.lemmas.Found.{entry_is}
use Rattle.file_tree.specs.Step.{create, created, new_file, new_directory, made, mkdir, mkdir_if, remove, remove_if, removed, rmdir, shifted, moved, rename, rename_if, replace, replace_if, replaced}
use Rattle.file_tree.specs.Stores.{stored}
use Rattle.file_tree.proofs.lemmas.States.{id_is, named_id}
use Rattle.tree_calls.specs.declared.asked.Asked.{Asked}
use Rattle.tree_calls.specs.declared.asked.Asked.TheVariants as asked
use Rattle.tree_calls.specs.Telling.{id_of}
use Rattle.tree_calls.specs.Changing.{mode_of}
use Rattle.tree_calls.specs.Waiting.{file_of, rename_comes, over_comes, with_node, still, remove_again, rename_again, removes_if_under, renames_if_under, settles_under, gives_content_under, creates_in_under, mkdirs_in_under, rmdirs_in_under, renaming_under, asks_rename, renames_in_under, calls_under}
use Rattle.chunk_calls.specs.Files.{File, file_of_body, file_of_node, file_at}
use Rattle.server_law.proofs.lemmas.Asked.{asked_holds}
use Rattle.server_law.proofs.lemmas.Trees.{IsGiven, NoFile, no_file, file_below, file_node, made_files, removed_files, replaced_other, moved_at_files, without_none}
use Rattle.server_law.proofs.lemmas.TreeCalls.{bind_ok, ok_is, create_in, mkdir_in, remove_in, rmdir_in, rename_in, no_file_in}
use Rattle.lease_law.specs.Claims.{version_at}

-- a file is as it was
abbrev pub Stays : Tree → Tree → ℕ → Type 0
Stays t u f = (g : File) → file_at t f ≡ Some g → file_at u f ≡ Some g

-- each is
abbrev pub AllStay : Tree → Tree → Type 0
AllStay t u = (f : ℕ) → Stays t u f

-- each but one is
abbrev pub OthersStay : Tree → (id : ℕ) → Tree → Type 0
OthersStay t id u = (f : ℕ) → (f ≡ id → ⊥) → Stays t u f

pub same_stay : (t : Tree) → AllStay t t
same_stay t f g e = e

-- one that stands under its id isn't there under another
differs : (a f : ℕ) → (f ≡ a → ⊥) → (a == f) ≡ false
differs a f apart = by (a == f) refl
  where
    by : (b : Bool) → (a == f) ≡ b → b ≡ false
    by true e = absurd (apart (grind (arith, nat_tests, e)))
    by false e = refl

-- ---- a node more

made_stay : (t : Tree) (n d : Node) → IsGiven t → n.id ≡ t.next → with_id t.nodes n.parent ≡ Some d → is_directory d.body ≡ true → AllStay t (made t n)
made_stay t n d h new there is f g at =
    let lt = file_below t f g h at in
    made_files t n d f h new there is ∙ ap (λ (b : Bool). if b then file_of_node (Some n) else file_at t f) (differs n.id f (λ e. omega (arith, lt, new, e))) ∙ at

create_stay : (t : Tree) (held : Reservation) (dir : ℕ) (name : List ℕ) (m : CreateMode) → IsGiven t → AllStay t (create t held dir name m).0
create_stay t held dir name m h = by (create_plan t held dir name m) refl
  where
    by : (r : Result (Option Changed) Status) → create_plan t held dir name m ≡ r → AllStay t (created t dir name r).0
    by (Err s) e = same_stay t
    by (Ok (Some done)) e = same_stay t
    by (Ok None) e = let d = create_in t held dir name m None e in made_stay t (new_file t dir name) d.0 h refl d.1 d.2

mkdir_stay : (t : Tree) (held : Reservation) (dir : ℕ) (name : List ℕ) → IsGiven t → AllStay t (mkdir t held dir name).0
mkdir_stay t held dir name h = by (may_mkdir t held dir name) refl
  where
    by : (r : Result Unit Status) → may_mkdir t held dir name ≡ r → AllStay t (mkdir_if t dir name r).0
    by (Err s) e = same_stay t
    by (Ok u) e = let d = mkdir_in t held dir name u e in made_stay t (new_directory t dir name) d.0 h refl d.1 d.2

-- ---- a node less

removed_stay : (t : Tree) (dir id : ℕ) → NoFile t.nodes dir → OthersStay t id (removed t dir id)
removed_stay t dir id none f apart g at = removed_files t dir id f none ∙ ap (λ (b : Bool). if b then None else file_at t f) (differs id f apart) ∙ at

-- one that is no file
gone_stay : (t : Tree) (dir id : ℕ) → NoFile t.nodes dir → NoFile t.nodes id → AllStay t (removed t dir id)
gone_stay t dir id none gone f g at = removed_stay t dir id none f apart g at
  where
    some_none : {A : Type 0} → ◌≡◌ {A = Option File} None (Some g) → A
    some_none e = absurd cc

    apart : f ≡ id → ⊥
    apart e = some_none (sym gone ∙ ap (file_at t) (sym e) ∙ at)

directory_goes : (t : Tree) (held : Reservation) (dir : ℕ) (name : List ℕ) (done : Changed) → rmdir_plan t held dir name ≡ Ok done → (n : Node) × (named t.nodes dir name ≡ Some n) × (is_directory n.body ≡ true) × (done.id ≡ n.id)
directory_goes t held dir name done e =
    let p = bind_ok (may_rmdir t held dir name) (λ n. Ok (remove_done n)) done e in
    let a = bind_ok (directory_of t.nodes dir) (λ _. spelt name >>= λ _. undotted status.Inval status.Exist name >>= λ _. or_no_entry (named t.nodes dir name) >>= directory_or status.NotDir >>= λ n. or_not_empty t.nodes n >>= λ _. spared t.changes held 1 >>= λ _. Ok n) p.0 p.1 in
    let b = bind_ok (spelt name) (λ _. undotted status.Inval status.Exist name >>= λ _. or_no_entry (named t.nodes dir name) >>= directory_or status.NotDir >>= λ n. or_not_empty t.nodes n >>= λ _. spared t.changes held 1 >>= λ _. Ok n) p.0 a.2 in
    let d = bind_ok (undotted status.Inval status.Exist name) (λ _. or_no_entry (named t.nodes dir name) >>= directory_or status.NotDir >>= λ n. or_not_empty t.nodes n >>= λ _. spared t.changes held 1 >>= λ _. Ok n) p.0 b.2 in
    let f = bind_ok (or_no_entry (named t.nodes dir name) >>= directory_or status.NotDir) (λ n. or_not_empty t.nodes n >>= λ _. spared t.changes held 1 >>= λ _. Ok n) p.0 d.2 in
    let g = bind_ok (or_no_entry (named t.nodes dir name)) (directory_or status.NotDir) f.0 f.1 in
    let h = bind_ok (or_not_empty t.nodes f.0) (λ _. spared t.changes held 1 >>= λ _. Ok f.0) p.0 f.2 in
    let k = bind_ok (spared t.changes held 1) (λ _. Ok f.0) p.0 h.2 in
    let is = directory_if g.0 f.0 (is_directory g.0.body) g.2 in
    let same : p.0 ≡ g.0 = sym (◌∙◌ {a = g.0} {b = f.0} {c = p.0} is.1 (ok_is f.0 p.0 k.2)) in
    (g.0, entry_is (named t.nodes dir name) g.0 g.1, is.0, ap (λ (c : Changed). c.id) (sym (ok_is (remove_done p.0) done p.2)) ∙ ap (λ (m : Node). m.id) same)
  where
    directory_if : (n m : Node) (b : Bool) → (let r : Result Node Status = if b then Ok n else Err status.NotDir in r ≡ Ok m) → (b ≡ true) × (n ≡ m)
    directory_if n m true e = (refl, ok_is n m e)
    directory_if n m false e = absurd cc

rmdir_stay : (t : Tree) (held : Reservation) (dir : ℕ) (name : List ℕ) → IsGiven t → AllStay t (rmdir t held dir name).0
rmdir_stay t held dir name h = by (rmdir_plan t held dir name) refl
  where
    by : (r : Result Changed Status) → rmdir_plan t held dir name ≡ r → AllStay t (remove_if t dir r).0
    by (Err s) e = same_stay t
    by (Ok done) e =
        let n = directory_goes t held dir name done e in
        let none = no_file t.nodes n.0.id n.0 (named_id t.nodes dir name n.0 h.apart n.1) n.2 in
        subst (λ (i : ℕ). AllStay t (removed t dir i)) (sym n.3) (gone_stay t dir n.0.id (no_file_in t dir (rmdir_in t held dir name done e)) none)

remove_stay : (t : Tree) (held : Reservation) (dir : ℕ) (name : List ℕ) (n : Node) → named t.nodes dir name ≡ Some n → OthersStay t n.id (remove t held dir name).0
remove_stay t held dir name n is = by (remove_plan t held dir name) refl
  where
    by : (r : Result Changed Status) → remove_plan t held dir name ≡ r → OthersStay t n.id (remove_if t dir r).0
    by (Err s) e = λ f apart. same_stay t f
    by (Ok done) e =
        let m = remove_there t held dir name done e in
        let same : m.0 ≡ n = node_is m.0 n (sym m.1 ∙ is) in
        let id : done.id ≡ n.id = ap (λ (c : Changed). c.id) m.2 ∙ ap (λ (k : Node). k.id) same in
        subst (λ (i : ℕ). OthersStay t i (removed t dir done.id)) id (removed_stay t dir done.id (no_file_in t dir (remove_in t held dir name done e)))
      where
        node_is : (a b : Node) → Some a ≡ Some b → a ≡ b
        node_is a b e = cc

-- ---- a node under another name

moved_stay : (t : Tree) (dir : ℕ) (n : Node) (to : ℕ) (name : List ℕ) → with_id t.nodes n.id ≡ Some n → NoFile t.nodes dir → NoFile t.nodes to → AllStay t (moved t dir n None to name)
moved_stay t dir n to name at from into f g e = moved_at_files t t.nodes n dir to (t.changes + 1) name f at from into ∙ e

-- over one that goes
over_stay : (t : Tree) (dir : ℕ) (n m : Node) (to : ℕ) (name : List ℕ) → with_id t.nodes n.id ≡ Some n → (m.id == n.id) ≡ false → NoFile t.nodes dir → NoFile t.nodes to → OthersStay t m.id (moved t dir n (Some m) to name)
over_stay t dir n m to name at other from into f apart g e =
    moved_at_files t (without t.nodes m.id) n dir to (t.changes + 2) name f still (without_none t.nodes m.id dir from) (without_none t.nodes m.id to into)
    ∙ ap file_of_node (with_id_without t.nodes m.id f) ∙ ap (λ (b : Bool). file_of_node (if b then None else with_id t.nodes f)) (differs m.id f apart) ∙ e
  where
    still : with_id (without t.nodes m.id) n.id ≡ Some n
    still = with_id_without t.nodes m.id n.id ∙ ap (λ (b : Bool). if b then None else with_id t.nodes n.id) other ∙ at

shifted_stay : (t : Tree) (dir : ℕ) (n : Option Node) (to : ℕ) (name : List ℕ) → ((k : Node) → n ≡ Some k → with_id t.nodes k.id ≡ Some k) → NoFile t.nodes dir → NoFile t.nodes to → AllStay t (shifted t dir n None to name)
shifted_stay t dir None to name at from into = same_stay t
shifted_stay t dir (Some n) to name at from into = moved_stay t dir n to name (at n refl) from into

shifted_over : (t : Tree) (dir : ℕ) (n : Option Node) (m : Node) (to : ℕ) (name : List ℕ) → ((k : Node) → n ≡ Some k → with_id t.nodes k.id ≡ Some k) → ((k : Node) → n ≡ Some k → (m.id == k.id) ≡ false) → NoFile t.nodes dir → NoFile t.nodes to → OthersStay t m.id (shifted t dir n (Some m) to name)
shifted_over t dir None m to name at other from into = λ f apart. same_stay t f
shifted_over t dir (Some n) m to name at other from into = over_stay t dir n m to name (at n refl) (other n refl) from into

-- but the node that goes for it, if one does
rename_stay : (t : Tree) (held : Reservation) (dir : ℕ) (name : List ℕ) (to : ℕ) (to_name : List ℕ) → IsGiven t → (o : Option Node) → named t.nodes to to_name ≡ o → (r : Result Planned Status) → rename_plan t held dir name to to_name ≡ r
    → (f : ℕ) → ((m : Node) (done : Changed) → o ≡ Some m → r ≡ Ok (planned.Over done) → f ≡ m.id → ⊥) → Stays t (rename_if t dir name to to_name r).0 f
rename_stay t held dir name to to_name h o there (Err s) e f apart = same_stay t f
rename_stay t held dir name to to_name h o there (Ok (planned.Nothing done)) e f apart = same_stay t f
rename_stay t held dir name to to_name h o there (Ok (planned.Free done)) e f apart =
    let d = rename_in t held dir name to to_name (planned.Free done) e in
    shifted_stay t dir (named t.nodes dir name) to to_name (λ k is. named_id t.nodes dir name k h.apart is) (no_file_in t dir d.0) (no_file_in t to d.1) f
rename_stay t held dir name to to_name h None there (Ok (planned.Over done)) e f apart =
    let d = rename_in t held dir name to to_name (planned.Over done) e in
    subst (λ (z : Option Node). Stays t (shifted t dir (named t.nodes dir name) z to to_name) f) (sym there)
    (shifted_stay t dir (named t.nodes dir name) to to_name (λ k is. named_id t.nodes dir name k h.apart is) (no_file_in t dir d.0) (no_file_in t to d.1) f)
rename_stay t held dir name to to_name h (Some m) there (Ok (planned.Over done)) e f apart =
    let d = rename_in t held dir name to to_name (planned.Over done) e in
    let two = (rename_there t held dir name to to_name (planned.Over done) e).2 in
    subst (λ (z : Option Node). Stays t (shifted t dir (named t.nodes dir name) z to to_name) f) (sym there)
    (shifted_over t dir (named t.nodes dir name) m to to_name (λ k is. named_id t.nodes dir name k h.apart is) (λ k is. other k (two k m is there)) (no_file_in t dir d.0) (no_file_in t to d.1) f (λ q. apart m done refl refl q))
  where
    other : (k : Node) → (k.id == m.id) ≡ false → (m.id == k.id) ≡ false
    other k e = grind (arith, nat_tests, e)

-- ---- what waited

some_standing : (o : Option Node) (id : ℕ) → is_node id (option_map standing_of o) ≡ true → (n : Node) × (o ≡ Some n) × (n.id ≡ id)
some_standing None id e = absurd cc
some_standing (Some n) id e = (n, refl, grind (arith, nat_tests, e))

still_named : (nodes : List Node) (dir : ℕ) (name : List ℕ) (id : ℕ) (u : Unit) → (let r : Result Unit Status = if is_node id (stands_for nodes dir name) then Ok tt else Err status.Jukebox in r ≡ Ok u) → (n : Node) × (named nodes dir name ≡ Some n) × (n.id ≡ id)
still_named nodes dir name id u e = by (is_node id (stands_for nodes dir name)) refl e
  where
    by : (b : Bool) → is_node id (stands_for nodes dir name) ≡ b → (let r : Result Unit Status = if b then Ok tt else Err status.Jukebox in r ≡ Ok u) → (n : Node) × (named nodes dir name ≡ Some n) × (n.id ≡ id)
    by true is e = some_standing (named nodes dir name) id is
    by false is e = absurd cc

module _ (t : Tree) (held : Reservation) (fault : Bool) (h : IsGiven t) where
  stored_stay : (P : Tree → Type 0) (p : Tree × Result Changed Status) → P p.0 → P t → P (stored fault t p).0
  stored_stay P p made none = asked_holds (λ q. P q.0) fault t p made none

  pub settles_stay : (a : Asked) → OthersStay t (file_of a) (settles_under t held fault a).0
  settles_stay (asked.Remove r) = by (remove_again t.nodes r) refl
    where
      by : (o : Result Unit Status) → remove_again t.nodes r ≡ o → OthersStay t r.file (removes_if_under t held fault r.spot o).0
      by (Err s) e = λ f apart. same_stay t f
      by (Ok u) e =
          let p = bind_ok (version t.nodes r.file) (λ _. still t.nodes r.spot r.file) u e in
          let n = still_named t.nodes r.spot.dir r.spot.name r.file u p.2 in
          stored_stay (OthersStay t r.file) (remove t held r.spot.dir r.spot.name) (subst (λ (i : ℕ). OthersStay t i (remove t held r.spot.dir r.spot.name).0) n.2 (remove_stay t held r.spot.dir r.spot.name n.0 n.1)) (λ f apart. same_stay t f)
  settles_stay (asked.Rename r) = by (rename_again t.nodes r) refl
    where
      by : (o : Result Unit Status) → rename_again t.nodes r ≡ o → OthersStay t r.file (renames_if_under t held fault r.from r.to o).0
      by (Err s) e = λ f apart. same_stay t f
      by (Ok u) e =
          let p = bind_ok (version t.nodes r.file) (λ _. still t.nodes r.from r.node >>= λ _. still t.nodes r.to r.file) u e in
          let q = bind_ok (still t.nodes r.from r.node) (λ _. still t.nodes r.to r.file) u p.2 in
          let n = still_named t.nodes r.to.dir r.to.name r.file u q.2 in
          stored_stay (OthersStay t r.file) (rename t held r.from.dir r.from.name r.to.dir r.to.name)
          (λ f apart. rename_stay t held r.from.dir r.from.name r.to.dir r.to.name h (named t.nodes r.to.dir r.to.name) refl (rename_plan t held r.from.dir r.from.name r.to.dir r.to.name) refl f
          (λ m done is over same. apart (same ∙ ap (λ (k : Node). k.id) (node_is m n.0 (sym is ∙ n.1)) ∙ n.2)))
          (λ f apart. same_stay t f)
        where
          node_is : (a b : Node) → Some a ≡ Some b → a ≡ b
          node_is a b e = cc

  pub commits_stay : (id : ℕ) (content : List ℕ) (term : ℕ) → OthersStay t id (gives_content_under t held fault id content term).0
  commits_stay id content term = stored_stay (OthersStay t id) (replace t held id content) (by (replace_plan t held id (length content))) (λ f apart. same_stay t f)
    where
      by : (r : Result ℕ Status) → OthersStay t id (replace_if t id content r).0
      by (Err s) = λ f apart. same_stay t f
      by (Ok v) = λ f apart g at. replaced_other t id v content f apart ∙ at

  -- ---- any call, at once

  -- a file that goes for another waits
  over_directory : (busy b : Bool) (id node : ℕ) → ◌≡◌ {A = Result (Option (ℕ × ℕ)) Status} ((let r : Result (Option ℕ) Status = if not b then (if busy then Err status.Jukebox else Ok (Some id)) else Ok None in r) >>= λ file. Ok (with_node node file)) (Ok None) → b ≡ true
  over_directory busy true id node e = refl
  over_directory true false id node e = absurd cc
  over_directory false false id node e = absurd cc

  no_file_over : (busy : Bool) (dir : ℕ) (name : List ℕ) (to : ℕ) (to_name : List ℕ) (m : Node) (done : Changed) → asks_rename t held busy dir name to to_name ≡ Ok None → rename_plan t held dir name to to_name ≡ Ok (planned.Over done) → named t.nodes to to_name ≡ Some m → NoFile t.nodes m.id
  no_file_over busy dir name to to_name m done asks plan there =
      let over : rename_comes busy (Some (standing_of m)) (Ok (planned.Over done)) ≡ Ok None = sym (ap (rename_comes busy (stands_for t.nodes to to_name)) plan ∙ ap (λ (o : Option Node). rename_comes busy (option_map standing_of o) (Ok (planned.Over done))) there) ∙ asks in
      no_file t.nodes m.id m (named_id t.nodes to to_name m h.apart there) (over_directory busy (is_directory m.body) m.id done.id over)

  renaming_stay : (busy : Bool) (dir : ℕ) (name : List ℕ) (to : ℕ) (to_name : List ℕ) (o : Result (Option (ℕ × ℕ)) Status) → asks_rename t held busy dir name to to_name ≡ o → AllStay t (renaming_under t held fault dir name to to_name o).0
  renaming_stay busy dir name to to_name (Err s) e = same_stay t
  renaming_stay busy dir name to to_name (Ok (Some p)) e = same_stay t
  renaming_stay busy dir name to to_name (Ok None) e =
      stored_stay (AllStay t) (rename t held dir name to to_name)
      (λ f g at. rename_stay t held dir name to to_name h (named t.nodes to to_name) refl (rename_plan t held dir name to to_name) refl f
      (λ m done is over same. some_none g (sym (no_file_over busy dir name to to_name m done e over is) ∙ ap (file_at t) (sym same) ∙ at)) g at)
      (same_stay t)
    where
      some_none : {A : Type 0} (g : File) → ◌≡◌ {A = Option File} None (Some g) → A
      some_none g e = absurd cc

  pub calls_stay : (busy : Bool) (m : Nfs) → AllStay t (calls_under t held busy fault m).0
  calls_stay busy (nfs.Create f) = by (id_of f.place.dir)
    where
      by : (r : Result ℕ Status) → AllStay t (creates_in_under t held fault f r).0
      by (Err s) = same_stay t
      by (Ok dir) = stored_stay (AllStay t) (create t held dir f.place.name (mode_of f.how)) (create_stay t held dir f.place.name (mode_of f.how) h) (same_stay t)
  calls_stay busy (nfs.MkDir d) = by (id_of d.place.dir)
    where
      by : (r : Result ℕ Status) → AllStay t (mkdirs_in_under t held fault d.place.name r).0
      by (Err s) = same_stay t
      by (Ok dir) = stored_stay (AllStay t) (mkdir t held dir d.place.name) (mkdir_stay t held dir d.place.name h) (same_stay t)
  calls_stay busy (nfs.RmDir p) = by (id_of p.dir)
    where
      by : (r : Result ℕ Status) → AllStay t (rmdirs_in_under t held fault p.name r).0
      by (Err s) = same_stay t
      by (Ok dir) = stored_stay (AllStay t) (rmdir t held dir p.name) (rmdir_stay t held dir p.name h) (same_stay t)
  calls_stay busy (nfs.Rename r) = by (id_of r.from.dir) (id_of r.to.dir)
    where
      by : (a b : Result ℕ Status) → AllStay t (renames_in_under t held busy fault r.from.name r.to.name a b).0
      by (Ok dir) (Ok to) = renaming_stay busy dir r.from.name to r.to.name (asks_rename t held busy dir r.from.name to r.to.name) refl
      by (Ok dir) (Err s) = same_stay t
      by (Err s) b = same_stay t
  calls_stay busy m = same_stay t

-- ---- its version

pub version_stays : (t u : Tree) (f v : ℕ) → Stays t u f → version_at t f ≡ Some v → version_at u f ≡ Some v
version_stays t u f v stays = by (file_at t f) refl
  where
    by : (o : Option File) → file_at t f ≡ o → option_map (λ (g : File). g.version) o ≡ Some v → version_at u f ≡ Some v
    by None e is = absurd cc
    by (Some g) e is = ap (option_map (λ (g : File). g.version)) (stays g e) ∙ is
