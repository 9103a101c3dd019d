-- Steps with a store that failed or didn't, and what it keeps.
use Rattle.std.proofs.Common.{◌≡◌, ℕ, ◌+◌, ◌<◌, List, [], length, Option, Some, None, Result, Ok, Err, Bool, true, false, not, ◌==◌, refl, sym, ap, ◌∙◌, subst, arith, if◌then◌else◌}
use Rattle.std.specs.Option.{option_map}
use Rattle.std.proofs.lemmas.Bool.Decides.{nat_tests}
use Rattle.xdr_codec.specs.declared.status.Status.{Status}
use Rattle.xdr_codec.specs.declared.status.Status.TheVariants as status
use Rattle.store.specs.Records.{applied}
use Rattle.store.specs.declared.record.RecordChange.{RecordChange}
use Rattle.store.specs.declared.record.RecordChange.TheVariants as change
use Rattle.store.specs.declared.record.Head.{Head}
use Rattle.store.specs.declared.record.Kept.{Kept}
use Rattle.store.specs.declared.record.NodeKind.TheVariants as node_kind
use Rattle.tree_nodes.specs.Nodes.{named}
use Rattle.tree_nodes.specs.declared.node.Node.{Node}
use Rattle.tree_nodes.specs.declared.node.Body.{Body}
use Rattle.tree_nodes.specs.declared.node.Body.TheVariants.{Directory, File}
use Rattle.tree_reading.proofs.lemmas.Admitted.{rename_there}
use Rattle.file_tree.proofs.lemmas.States.{some_node}
use Rattle.file_tree.proofs.lemmas.Stored.{create_stored, mkdir_stored, remove_stored, rmdir_stored, rename_stored, replace_stored}
use Rattle.tree_reading.specs.Plans.{create_plan, may_mkdir, remove_plan, rmdir_plan, rename_plan, replace_plan}
use Rattle.file_tree.specs.Step.{made, new_file, new_directory, removed, moved, replaced, created, create, mkdir_if, mkdir, remove_if, remove, rmdir, rename_if, rename, shifted, replace_if, replace}
use Rattle.file_tree.specs.Storing.{kind_of, node_change, with_given, create_gives, mkdir_gives, remove_gives, rename_gives, shift_gives, replace_gives, IsStored}
use Rattle.tree_reading.specs.Reading.{standing_of, stands_for}
use Rattle.tree_reading.specs.Tree.{Tree, is_directory}
use Rattle.tree_reading.specs.declared.reading.Standing.{Standing}
use Rattle.tree_reading.specs.declared.call.Changed.{Changed}
use Rattle.tree_reading.specs.declared.call.CreateMode.{CreateMode}
use Rattle.tree_reading.specs.declared.call.Reservation.{Reservation}
use Rattle.tree_reading.specs.declared.call.Planned.{Planned}
use Rattle.tree_reading.specs.declared.call.Planned.TheVariants.{Nothing, Free, Over}
use Rattle.file_tree.specs.Stores.{stored, IsFault, IsStep, Keeps, kind_if, kind_found, id_found}

abbrev Step : Type 0
Step = Tree × Result Changed Status

-- ---- the step

pub step_done : (before after : ℕ) (t u : Tree) (p : Step) (r : Result Changed Status) → p ≡ (u, r) → IsStep before after t p (u, r)
step_done before after t u p r e = record { fault = false; cause = tt; is = e }

-- one that counts a change, where the store failed
step_failed : (before after : ℕ) (flag : Bool) (t u : Tree) (p : Step) (c : Changed) → flag ≡ true → IsFault flag before after → p ≡ (u, Ok c) → (u.changes == t.changes) ≡ false → IsStep before after t p (t, Err status.Io)
step_failed before after flag t u p c failed cause e counts = record {
  fault = true;
  cause = subst (λ b. IsFault b before after) failed cause;
  is = ap (stored true t) e ∙ ap (λ b. if b then (u, Ok c) else (t, Err status.Io)) counts;
}

one_more : (n : ℕ) → (n + 1 == n) ≡ false
one_more n = grind (arith, nat_tests)

two_more : (n : ℕ) → (n + 2 == n) ≡ false
two_more n = grind (arith, nat_tests)

-- ---- the store

pub keeps_same : (old new : Option (List Kept)) (t u : Tree) → new ≡ old → u ≡ t → Keeps old t new u
keeps_same None new t u e same = e
keeps_same (Some records) new t u e same = (
  records,
  e,
  record {
    stored = λ stored. subst (λ z. IsStored records z) (sym same) stored;
    counted = omega (arith, ap (λ (z : Tree). z.changes) same);
    same = λ _. refl;
  },
)

-- where the store was asked and failed, it is as it was
pub keeps_failed : (old new : Option (List Kept)) (flag : Bool) (head : Head) (first : RecordChange) (second : Option RecordChange) (t : Tree) → flag ≡ true → new ≡ (if flag then old else option_map (λ held. applied head first second held) old) → Keeps old t new t
keeps_failed old new flag head first second t failed e = keeps_same old new t t (e ∙ ap (λ b. if b then old else option_map (λ held. applied head first second held) old) failed) refl

-- where it was asked and didn't fail, a change is counted
keeps_applied : (old new : Option (List Kept)) (flag : Bool) (head : Head) (first : RecordChange) (second : Option RecordChange) (t u : Tree) → flag ≡ false → new ≡ (if flag then old else option_map (λ held. applied head first second held) old) → t.changes < u.changes → ((records : List Kept) → IsStored records t → IsStored (applied head first second records) u) → Keeps old t new u
keeps_applied None new flag head first second t u went e counts keeps = e ∙ ap (λ b. if b then None else option_map (λ held. applied head first second held) None) went
keeps_applied (Some records) new flag head first second t u went e counts keeps = (
  applied head first second records,
  e ∙ ap (λ b. if b then Some records else option_map (λ held. applied head first second held) (Some records)) went,
  record {
    stored = keeps records;
    counted = omega (arith, counts);
    same = λ same. absurd (omega (arith, counts, same));
  },
)

-- the tree of a step
tree_is : (p : Step) (u : Tree) (r : Result Changed Status) → p ≡ (u, r) → p.0 ≡ u
tree_is p u r e = ap (λ (z : Step). z.0) e

less_one : (n : ℕ) → n < n + 1
less_one n = omega arith

less_two : (n : ℕ) → n < n + 2
less_two n = omega arith

-- a step that comes to one with more changes
counts_more : (t u : Tree) (p q : Step) (r : Result Changed Status) → p ≡ (u, r) → p ≡ q → t.changes < q.0.changes → t.changes < u.changes
counts_more t u p q r is comes more = subst (λ (n : ℕ). t.changes < n) (sym (ap (λ (z : Step). z.0.changes) comes) ∙ ap (λ (z : Step). z.0.changes) is) more

-- ---- CREATE

module _ (t : Tree) (held : Reservation) (dir : ℕ) (name : List ℕ) (m : CreateMode) where
  pub create_refused : (before after : ℕ) (s : Status) → create_plan t held dir name m ≡ Err s → IsStep before after t (create t held dir name m) (t, Err s)
  create_refused before after s e = step_done before after t t (create t held dir name m) (Err s) (ap (created t dir name) e)

  pub create_there : (before after : ℕ) (c : Changed) → create_plan t held dir name m ≡ Ok (Some c) → IsStep before after t (create t held dir name m) (t, Ok c)
  create_there before after c e = step_done before after t t (create t held dir name m) (Ok c) (ap (created t dir name) e)

  pub created_failed : (before after : ℕ) (flag : Bool) → flag ≡ true → IsFault flag before after → create_plan t held dir name m ≡ Ok None → IsStep before after t (create t held dir name m) (t, Err status.Io)
  created_failed before after flag failed cause plan = step_failed before after flag t (made t (new_file t dir name)) (create t held dir name m) _ failed cause (ap (created t dir name) plan) (one_more t.changes)

  pub created_kept : (old new : Option (List Kept)) (flag : Bool) (head : Head) (first : RecordChange) (second : Option RecordChange) (u : Tree) (r : Result Changed Status) → flag ≡ false → new ≡ (if flag then old else option_map (λ held. applied head first second held) old) → create_plan t held dir name m ≡ Ok None → head ≡ record { next = t.next + 1; changes = t.changes + 1 } → first ≡ change.Node (record { id = t.next; parent = dir; kind = node_kind.File; name = name }) → second ≡ Some (change.Content (record { id = t.next; version = 1; bytes = [] })) → create t held dir name m ≡ (u, r) → Keeps old t new u
  created_kept old new flag head first second u r went e plan head_is first_is second_is done =
      keeps_applied old new flag head first second t u went e (counts_more t u (create t held dir name m) (created t dir name (Ok None)) r done (ap (created t dir name) plan) (less_one t.changes)) (λ records stored.
      let is : IsStored (with_given (create_gives t dir name (Ok None)) records) (create t held dir name m).0 = subst (λ (z : Result (Option Changed) Status). IsStored (with_given (create_gives t dir name z) records) (create t held dir name m).0) plan (create_stored t held dir name m records stored) in
      subst (λ z. IsStored (applied head first second records) z) (tree_is (create t held dir name m) u r done)
      (subst (λ z. IsStored (applied head first z records) (create t held dir name m).0) (sym second_is)
      (subst (λ z. IsStored (applied head z (Some (change.Content (record { id = t.next; version = 1; bytes = [] }))) records) (create t held dir name m).0) (sym first_is)
      (subst (λ z. IsStored (applied z (change.Node (record { id = t.next; parent = dir; kind = node_kind.File; name = name })) (Some (change.Content (record { id = t.next; version = 1; bytes = [] }))) records) (create t held dir name m).0) (sym head_is) is))))

-- ---- MKDIR

module _ (t : Tree) (held : Reservation) (dir : ℕ) (name : List ℕ) where
  pub mkdir_refused : (before after : ℕ) (s : Status) → may_mkdir t held dir name ≡ Err s → IsStep before after t (mkdir t held dir name) (t, Err s)
  mkdir_refused before after s e = step_done before after t t (mkdir t held dir name) (Err s) (ap (mkdir_if t dir name) e)

  pub mkdir_failed : (before after : ℕ) (flag : Bool) (z : Unit) → flag ≡ true → IsFault flag before after → may_mkdir t held dir name ≡ Ok z → IsStep before after t (mkdir t held dir name) (t, Err status.Io)
  mkdir_failed before after flag z failed cause plan = step_failed before after flag t (made t (new_directory t dir name)) (mkdir t held dir name) _ failed cause (ap (mkdir_if t dir name) plan) (one_more t.changes)

  pub mkdir_kept : (old new : Option (List Kept)) (flag : Bool) (z : Unit) (head : Head) (first : RecordChange) (u : Tree) (r : Result Changed Status) → flag ≡ false → new ≡ (if flag then old else option_map (λ held. applied head first None held) old) → may_mkdir t held dir name ≡ Ok z → head ≡ record { next = t.next + 1; changes = t.changes + 1 } → first ≡ change.Node (record { id = t.next; parent = dir; kind = node_kind.Directory; name = name }) → mkdir t held dir name ≡ (u, r) → Keeps old t new u
  mkdir_kept old new flag z head first u r went e plan head_is first_is done =
      keeps_applied old new flag head first None t u went e (counts_more t u (mkdir t held dir name) (mkdir_if t dir name (Ok z)) r done (ap (mkdir_if t dir name) plan) (less_one t.changes)) (λ records stored.
      let is : IsStored (with_given (mkdir_gives t dir name (Ok z)) records) (mkdir t held dir name).0 = subst (λ (y : Result Unit Status). IsStored (with_given (mkdir_gives t dir name y) records) (mkdir t held dir name).0) plan (mkdir_stored t held dir name records stored) in
      subst (λ y. IsStored (applied head first None records) y) (tree_is (mkdir t held dir name) u r done)
      (subst (λ y. IsStored (applied head y None records) (mkdir t held dir name).0) (sym first_is)
      (subst (λ y. IsStored (applied y (change.Node (record { id = t.next; parent = dir; kind = node_kind.Directory; name = name })) None records) (mkdir t held dir name).0) (sym head_is) is)))

  -- ---- REMOVE and RMDIR

  gone_kept : (step : Step) (plan : Result Changed Status) → step ≡ remove_if t dir plan → ((records : List Kept) → IsStored records t → IsStored (with_given (remove_gives t dir plan) records) step.0) → (old new : Option (List Kept)) (flag : Bool) (done : Changed) (head : Head) (id : ℕ) (u : Tree) (r : Result Changed Status) → flag ≡ false → new ≡ (if flag then old else option_map (λ held. applied head (change.Drop id) None held) old) → plan ≡ Ok done → head ≡ record { next = t.next; changes = t.changes + 1 } → id ≡ done.id → step ≡ (u, r) → Keeps old t new u
  gone_kept step plan comes keeps old new flag done head id u r went e planned head_is id_is stepped =
      keeps_applied old new flag head (change.Drop id) None t u went e (counts_more t u step (remove_if t dir (Ok done)) r stepped (comes ∙ ap (remove_if t dir) planned) (less_one t.changes)) (λ records stored.
      let is : IsStored (with_given (remove_gives t dir (Ok done)) records) step.0 = subst (λ (y : Result Changed Status). IsStored (with_given (remove_gives t dir y) records) step.0) planned (keeps records stored) in
      subst (λ y. IsStored (applied head (change.Drop id) None records) y) (tree_is step u r stepped)
      (subst (λ y. IsStored (applied head (change.Drop y) None records) step.0) (sym id_is)
      (subst (λ y. IsStored (applied y (change.Drop done.id) None records) step.0) (sym head_is) is)))

  pub remove_refused : (before after : ℕ) (s : Status) → remove_plan t held dir name ≡ Err s → IsStep before after t (remove t held dir name) (t, Err s)
  remove_refused before after s e = step_done before after t t (remove t held dir name) (Err s) (ap (remove_if t dir) e)

  pub remove_failed : (before after : ℕ) (flag : Bool) (done : Changed) → flag ≡ true → IsFault flag before after → remove_plan t held dir name ≡ Ok done → IsStep before after t (remove t held dir name) (t, Err status.Io)
  remove_failed before after flag done failed cause plan = step_failed before after flag t (removed t dir done.id) (remove t held dir name) done failed cause (ap (remove_if t dir) plan) (one_more t.changes)

  pub remove_kept : (old new : Option (List Kept)) (flag : Bool) (done : Changed) (head : Head) (id : ℕ) (u : Tree) (r : Result Changed Status) → flag ≡ false → new ≡ (if flag then old else option_map (λ held. applied head (change.Drop id) None held) old) → remove_plan t held dir name ≡ Ok done → head ≡ record { next = t.next; changes = t.changes + 1 } → id ≡ done.id → remove t held dir name ≡ (u, r) → Keeps old t new u
  remove_kept = gone_kept (remove t held dir name) (remove_plan t held dir name) refl (remove_stored t held dir name)

  pub rmdir_refused : (before after : ℕ) (s : Status) → rmdir_plan t held dir name ≡ Err s → IsStep before after t (rmdir t held dir name) (t, Err s)
  rmdir_refused before after s e = step_done before after t t (rmdir t held dir name) (Err s) (ap (remove_if t dir) e)

  pub rmdir_failed : (before after : ℕ) (flag : Bool) (done : Changed) → flag ≡ true → IsFault flag before after → rmdir_plan t held dir name ≡ Ok done → IsStep before after t (rmdir t held dir name) (t, Err status.Io)
  rmdir_failed before after flag done failed cause plan = step_failed before after flag t (removed t dir done.id) (rmdir t held dir name) done failed cause (ap (remove_if t dir) plan) (one_more t.changes)

  pub rmdir_kept : (old new : Option (List Kept)) (flag : Bool) (done : Changed) (head : Head) (id : ℕ) (u : Tree) (r : Result Changed Status) → flag ≡ false → new ≡ (if flag then old else option_map (λ held. applied head (change.Drop id) None held) old) → rmdir_plan t held dir name ≡ Ok done → head ≡ record { next = t.next; changes = t.changes + 1 } → id ≡ done.id → rmdir t held dir name ≡ (u, r) → Keeps old t new u
  rmdir_kept = gone_kept (rmdir t held dir name) (rmdir_plan t held dir name) refl (rmdir_stored t held dir name)

-- ---- what a name stands for

kind_by : (n : Node) (b : Body) → kind_if (not (is_directory b)) ≡ kind_of b
kind_by n Directory = refl
kind_by n (File c) = refl

stands_by : (o : Option Node) (s : Standing) → option_map standing_of o ≡ Some s → (s.id ≡ id_found o) × (kind_if s.is_file ≡ kind_found o)
stands_by None s e = absurd cc
stands_by (Some n) s e = (ap (λ (x : Standing). x.id) (sym (standing_is (standing_of n) s e)), ap (λ (x : Standing). kind_if x.is_file) (sym (standing_is (standing_of n) s e)) ∙ kind_by n n.body)
  where
    standing_is : (x y : Standing) → Some x ≡ Some y → x ≡ y
    standing_is x y same = ap or_this same
      where
        or_this : Option Standing → Standing
        or_this None = x
        or_this (Some z) = z

none_by : (o : Option Node) → option_map standing_of o ≡ None → (0 ≡ id_found o) × (node_kind.Directory ≡ kind_found o)
none_by None e = (refl, refl)
none_by (Some n) e = absurd cc

pub id_stands : (nodes : List Node) (dir : ℕ) (name : List ℕ) (s : Standing) → stands_for nodes dir name ≡ Some s → s.id ≡ id_found (named nodes dir name)
id_stands nodes dir name s e = (stands_by (named nodes dir name) s e).0

pub id_nothing : (nodes : List Node) (dir : ℕ) (name : List ℕ) → stands_for nodes dir name ≡ None → 0 ≡ id_found (named nodes dir name)
id_nothing nodes dir name e = (none_by (named nodes dir name) e).0

pub kind_stands : (nodes : List Node) (dir : ℕ) (name : List ℕ) (s : Standing) → stands_for nodes dir name ≡ Some s → kind_if s.is_file ≡ kind_found (named nodes dir name)
kind_stands nodes dir name s e = (stands_by (named nodes dir name) s e).1

pub kind_nothing : (nodes : List Node) (dir : ℕ) (name : List ℕ) → stands_for nodes dir name ≡ None → node_kind.Directory ≡ kind_found (named nodes dir name)
kind_nothing nodes dir name e = (none_by (named nodes dir name) e).1

-- ---- RENAME

module _ (t : Tree) (held : Reservation) (dir : ℕ) (name : List ℕ) (to : ℕ) (to_name : List ℕ) where
  pub rename_refused : (before after : ℕ) (s : Status) → rename_plan t held dir name to to_name ≡ Err s → IsStep before after t (rename t held dir name to to_name) (t, Err s)
  rename_refused before after s e = step_done before after t t (rename t held dir name to to_name) (Err s) (ap (rename_if t dir name to to_name) e)

  pub rename_in_place : (before after : ℕ) (done : Changed) → rename_plan t held dir name to to_name ≡ Ok (Nothing done) → IsStep before after t (rename t held dir name to to_name) (t, Ok done)
  rename_in_place before after done e = step_done before after t t (rename t held dir name to to_name) (Ok done) (ap (rename_if t dir name to to_name) e)

  -- what the names stand for, where a move is planned
  free_of : (done : Changed) → rename_plan t held dir name to to_name ≡ Ok (Free done) → (n : Node) × (named t.nodes dir name ≡ Some n)
  free_of done e = some_node (named t.nodes dir name) (rename_there t held dir name to to_name (Free done) e).0

  over_of : (done : Changed) → rename_plan t held dir name to to_name ≡ Ok (Over done) → (n : Node) × (m : Node) × (named t.nodes dir name ≡ Some n) × (named t.nodes to to_name ≡ Some m)
  over_of done e =
      let there = rename_there t held dir name to to_name (Over done) e in
      let n = some_node (named t.nodes dir name) there.0 in
      let m = some_node (named t.nodes to to_name) there.1 in
      (n.0, m.0, n.1, m.1)

  pub free_failed : (before after : ℕ) (flag : Bool) (done : Changed) → flag ≡ true → IsFault flag before after → rename_plan t held dir name to to_name ≡ Ok (Free done) → IsStep before after t (rename t held dir name to to_name) (t, Err status.Io)
  free_failed before after flag done failed cause plan =
      let n = free_of done plan in
      step_failed before after flag t (moved t dir n.0 None to to_name) (rename t held dir name to to_name) done failed cause (ap (rename_if t dir name to to_name) plan ∙ ap (λ (o : Option Node). (shifted t dir o None to to_name, Ok done)) n.1) (one_more t.changes)

  pub over_failed : (before after : ℕ) (flag : Bool) (done : Changed) → flag ≡ true → IsFault flag before after → rename_plan t held dir name to to_name ≡ Ok (Over done) → IsStep before after t (rename t held dir name to to_name) (t, Err status.Io)
  over_failed before after flag done failed cause plan =
      let n = over_of done plan in
      step_failed before after flag t (moved t dir n.0 (Some n.1) to to_name) (rename t held dir name to to_name) done failed cause (ap (rename_if t dir name to to_name) plan ∙ (λ i. (shifted t dir (n.2 i) (n.3 i) to to_name, Ok done))) (two_more t.changes)

  pub free_kept : (old new : Option (List Kept)) (flag : Bool) (done : Changed) (head : Head) (first : RecordChange) (u : Tree) (r : Result Changed Status) → flag ≡ false → new ≡ (if flag then old else option_map (λ held. applied head first None held) old) → rename_plan t held dir name to to_name ≡ Ok (Free done) → head ≡ record { next = t.next; changes = t.changes + 1 } → first ≡ change.Node (record { id = id_found (named t.nodes dir name); parent = to; kind = kind_found (named t.nodes dir name); name = to_name }) → rename t held dir name to to_name ≡ (u, r) → Keeps old t new u
  free_kept old new flag done head first u r went e plan head_is first_is stepped =
      let n = free_of done plan in
      keeps_applied old new flag head first None t u went e (counts_more t u (rename t held dir name to to_name) (moved t dir n.0 None to to_name, Ok done) r stepped (ap (rename_if t dir name to to_name) plan ∙ ap (λ (o : Option Node). (shifted t dir o None to to_name, Ok done)) n.1) (less_one t.changes)) (λ records stored.
      let given : IsStored (with_given (rename_gives t dir name to to_name (Ok (Free done))) records) (rename t held dir name to to_name).0 = subst (λ (y : Result Planned Status). IsStored (with_given (rename_gives t dir name to to_name y) records) (rename t held dir name to to_name).0) plan (rename_stored t held dir name to to_name records stored) in
      let is : IsStored (with_given (shift_gives t dir (Some n.0) None to to_name) records) (rename t held dir name to to_name).0 = subst (λ (o : Option Node). IsStored (with_given (shift_gives t dir o None to to_name) records) (rename t held dir name to to_name).0) n.1 given in
      let first_as : first ≡ change.Node (record { id = id_found (Some n.0); parent = to; kind = kind_found (Some n.0); name = to_name }) = first_is ∙ ap (λ (o : Option Node). change.Node (record { id = id_found o; parent = to; kind = kind_found o; name = to_name })) n.1 in
      subst (λ y. IsStored (applied head first None records) y) (tree_is (rename t held dir name to to_name) u r stepped)
      (subst (λ y. IsStored (applied head y None records) (rename t held dir name to to_name).0) (sym first_as)
      (subst (λ y. IsStored (applied y (node_change (record n.0 { parent = to; name = to_name })) None records) (rename t held dir name to to_name).0) (sym head_is) is)))

  pub over_kept : (old new : Option (List Kept)) (flag : Bool) (done : Changed) (head : Head) (gone : ℕ) (second : RecordChange) (u : Tree) (r : Result Changed Status) → flag ≡ false → new ≡ (if flag then old else option_map (λ held. applied head (change.Drop gone) (Some second) held) old) → rename_plan t held dir name to to_name ≡ Ok (Over done) → head ≡ record { next = t.next; changes = t.changes + 2 } → gone ≡ id_found (named t.nodes to to_name) → second ≡ change.Node (record { id = id_found (named t.nodes dir name); parent = to; kind = kind_found (named t.nodes dir name); name = to_name }) → rename t held dir name to to_name ≡ (u, r) → Keeps old t new u
  over_kept old new flag done head gone second u r went e plan head_is gone_is second_is stepped =
      let n = over_of done plan in
      keeps_applied old new flag head (change.Drop gone) (Some second) t u went e (counts_more t u (rename t held dir name to to_name) (moved t dir n.0 (Some n.1) to to_name, Ok done) r stepped (ap (rename_if t dir name to to_name) plan ∙ (λ i. (shifted t dir (n.2 i) (n.3 i) to to_name, Ok done))) (less_two t.changes)) (λ records stored.
      let given : IsStored (with_given (rename_gives t dir name to to_name (Ok (Over done))) records) (rename t held dir name to to_name).0 = subst (λ (y : Result Planned Status). IsStored (with_given (rename_gives t dir name to to_name y) records) (rename t held dir name to to_name).0) plan (rename_stored t held dir name to to_name records stored) in
      let is : IsStored (with_given (shift_gives t dir (Some n.0) (Some n.1) to to_name) records) (rename t held dir name to to_name).0 = subst (λ (o : Option Node). IsStored (with_given (shift_gives t dir (Some n.0) o to to_name) records) (rename t held dir name to to_name).0) n.3 (subst (λ (o : Option Node). IsStored (with_given (shift_gives t dir o (named t.nodes to to_name) to to_name) records) (rename t held dir name to to_name).0) n.2 given) in
      let gone_as : gone ≡ n.1.id = gone_is ∙ ap id_found n.3 in
      let second_as : second ≡ change.Node (record { id = id_found (Some n.0); parent = to; kind = kind_found (Some n.0); name = to_name }) = second_is ∙ ap (λ (o : Option Node). change.Node (record { id = id_found o; parent = to; kind = kind_found o; name = to_name })) n.2 in
      subst (λ y. IsStored (applied head (change.Drop gone) (Some second) records) y) (tree_is (rename t held dir name to to_name) u r stepped)
      (subst (λ y. IsStored (applied head (change.Drop gone) (Some y) records) (rename t held dir name to to_name).0) (sym second_as)
      (subst (λ y. IsStored (applied head (change.Drop y) (Some (node_change (record n.0 { parent = to; name = to_name }))) records) (rename t held dir name to to_name).0) (sym gone_as)
      (subst (λ y. IsStored (applied y (change.Drop n.1.id) (Some (node_change (record n.0 { parent = to; name = to_name }))) records) (rename t held dir name to to_name).0) (sym head_is) is))))

-- ---- a content replaced

module _ (t : Tree) (held : Reservation) (id : ℕ) (content : List ℕ) where
  pub replace_refused : (before after : ℕ) (len : ℕ) (s : Status) → len ≡ length content → replace_plan t held id len ≡ Err s → IsStep before after t (replace t held id content) (t, Err s)
  replace_refused before after len s is e = step_done before after t t (replace t held id content) (Err s) (ap (replace_if t id content) (ap (replace_plan t held id) (sym is) ∙ e))

  pub replace_failed : (before after : ℕ) (flag : Bool) (len version : ℕ) → flag ≡ true → IsFault flag before after → len ≡ length content → replace_plan t held id len ≡ Ok version → IsStep before after t (replace t held id content) (t, Err status.Io)
  replace_failed before after flag len version failed cause is plan = step_failed before after flag t (replaced t id version content) (replace t held id content) _ failed cause (ap (replace_if t id content) (ap (replace_plan t held id) (sym is) ∙ plan)) (one_more t.changes)

  pub replace_kept : (old new : Option (List Kept)) (flag : Bool) (len version : ℕ) (head : Head) (first : RecordChange) (u : Tree) (r : Result Changed Status) → flag ≡ false → new ≡ (if flag then old else option_map (λ held. applied head first None held) old) → len ≡ length content → replace_plan t held id len ≡ Ok version → head ≡ record { next = t.next; changes = t.changes + 1 } → first ≡ change.Content (record { id = id; version = version; bytes = content }) → replace t held id content ≡ (u, r) → Keeps old t new u
  replace_kept old new flag len version head first u r went e is_len plan head_is first_is stepped =
      let planned : replace_plan t held id (length content) ≡ Ok version = ap (replace_plan t held id) (sym is_len) ∙ plan in
      keeps_applied old new flag head first None t u went e (counts_more t u (replace t held id content) (replace_if t id content (Ok version)) r stepped (ap (replace_if t id content) planned) (less_one t.changes)) (λ records stored.
      let is : IsStored (with_given (replace_gives t id content (Ok version)) records) (replace t held id content).0 = subst (λ (y : Result ℕ Status). IsStored (with_given (replace_gives t id content y) records) (replace t held id content).0) planned (replace_stored t held id content (length content) records stored) in
      subst (λ y. IsStored (applied head first None records) y) (tree_is (replace t held id content) u r stepped)
      (subst (λ y. IsStored (applied head y None records) (replace t held id content).0) (sym first_is)
      (subst (λ y. IsStored (applied y (change.Content (record { id = id; version = version; bytes = content })) None records) (replace t held id content).0) (sym head_is) is)))

-- what `make_file` goes by
pub ruleset by_make_file = (step_done, created_failed, keeps_failed)

-- what `create` goes by
pub ruleset by_create = (create_refused, create_there, keeps_same)

-- what `make_directory` goes by
pub ruleset by_make_directory = (step_done, mkdir_failed, keeps_failed)

-- what `remove` goes by
pub ruleset by_remove = (step_done, remove_refused, remove_failed, keeps_failed, keeps_same)

-- what `rmdir` goes by
pub ruleset by_rmdir = (step_done, rmdir_refused, rmdir_failed, keeps_failed, keeps_same)

-- what `move_free` goes by
pub ruleset by_move_free = (step_done, free_failed, keeps_failed)

-- what `move_over` goes by
pub ruleset by_move_over = (step_done, over_failed, keeps_failed)

-- what `rename` goes by
pub ruleset by_rename = (rename_refused, rename_in_place, keeps_same)

-- what `replace` goes by
pub ruleset by_replace = (step_done, replace_refused, replace_failed, keeps_failed, keeps_same)
