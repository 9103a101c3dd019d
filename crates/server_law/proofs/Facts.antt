-- What each change of a tree leaves of its files is what its entries say.
use Rattle.std.proofs.Common.{◌≡◌, refl, sym, ap, ◌∙◌, subst, ℕ, ◌+◌, List, [], length, Option, Some, None, Bool, true, false, ◌==◌, arith, if◌then◌else◌}
use Rattle.std.specs.Option.{option_map}
use Rattle.std.proofs.lemmas.Bool.Decides.{nat_tests}
use Rattle.tree_nodes.specs.declared.node.Node.{Node}
use Rattle.tree_nodes.specs.declared.node.Body.{Body}
use Rattle.tree_nodes.specs.declared.node.Body.TheVariants.{Directory, File as Plain}
use Rattle.tree_nodes.specs.Nodes.{with_id, without}
use Rattle.tree_nodes.proofs.lemmas.Lists.{with_id_without}
use Rattle.tree_reading.specs.Tree.{Tree, is_directory}
use Rattle.tree_reading.specs.Plans.{made_entry, name_entry, commit_entry, gone_entry}
use Rattle.file_tree.specs.Step.{made, removed, moved, replaced, new_file, new_directory}
use Rattle.tree_reading.specs.declared.entry.Entry.{Entry as TreeEntry}
use Rattle.server_core.specs.declared.journal.Entry.{Entry}
use Rattle.server_core.specs.Closing.{entry_by, entries_by}
use Rattle.chunk_calls.specs.Files.{File, file_of_body, file_of_node, file_at}
use Rattle.server_law.specs.Facts.{Fact, fact_of, fact_at, fact_after, facts_after, IsNext, AreNext}
use Rattle.server_law.proofs.lemmas.Trees.{IsGiven, next_free, NoFile, made_files, removed_files, replaced_own, replaced_other, moved_at_files, without_none}

-- from the one tree to the other by these entries
pub record IsTelling (t : Tree) (session : ℕ) (first second : Option TreeEntry) (u : Tree) : Type 0 where
  pub facts : (id : ℕ) → fact_at u id ≡ facts_after id (fact_at t id) (entries_by session first second)
  pub versions : AreNext (fact_at t) (entries_by session first second)
  pub counted : u.changes ≡ t.changes + length (entries_by session first second)

pub tells_none : (t : Tree) (session : ℕ) → IsTelling t session None None t
tells_none t session = record { facts = λ id. refl; versions = tt; counted = omega arith }

is_id : (a b : ℕ) → (a == b) ≡ true → a ≡ b
is_id a b same = grind (arith, nat_tests, same)

-- what is the same either way
either : (b : Bool) (o : Option Fact) → o ≡ (if b then o else o)
either true o = refl
either false o = refl

-- ---- made

pub tells_file : (t : Tree) (session dir : ℕ) (name : List ℕ) (d : Node) → IsGiven t → with_id t.nodes dir ≡ Some d → is_directory d.body ≡ true → IsTelling t session (Some (made_entry t.next)) None (made t (new_file t dir name))
tells_file t session dir name d h there is = record {
  facts = λ id. ap (option_map fact_of) (made_files t (new_file t dir name) d id h refl there is) ∙ by id (t.next == id);
  versions = ((ap (λ o. option_map fact_of (file_of_node o)) (next_free t h), refl), tt);
  counted = omega arith;
}
  where
    file : File
    file = record { id = t.next; version = 1; content = [] }

    by : (id : ℕ) (b : Bool) → option_map fact_of (if b then Some file else file_at t id) ≡ (if b then Some (fact_of file) else fact_at t id)
    by id true = refl
    by id false = refl

pub tells_directory : (t : Tree) (session dir : ℕ) (name : List ℕ) (d : Node) → IsGiven t → with_id t.nodes dir ≡ Some d → is_directory d.body ≡ true → IsTelling t session (Some (name_entry t.next)) None (made t (new_directory t dir name))
tells_directory t session dir name d h there is = record {
  facts = λ id. ap (option_map fact_of) (made_files t (new_directory t dir name) d id h refl there is) ∙ by id (t.next == id) refl ∙ either (t.next == id) (fact_at t id);
  versions = (refl, tt);
  counted = omega arith;
}
  where
    none : (id : ℕ) → t.next ≡ id → fact_at t id ≡ None
    none id e = subst (λ (i : ℕ). fact_at t i ≡ None) e (ap (λ o. option_map fact_of (file_of_node o)) (next_free t h))

    by : (id : ℕ) (b : Bool) → (t.next == id) ≡ b → option_map fact_of (if b then None else file_at t id) ≡ fact_at t id
    by id true same = sym (none id (is_id t.next id same))
    by id false other = refl

-- ---- a node that goes: b is what it is

gone_none : (t : Tree) (n : Node) → with_id t.nodes n.id ≡ Some n → n.body ≡ Directory → fact_at t n.id ≡ None
gone_none t n at e = ap (λ o. option_map fact_of (file_of_node o)) at ∙ ap (λ (b : Body). option_map fact_of (file_of_body n b)) e

gone_file : (t : Tree) (n : Node) (c : List ℕ) → with_id t.nodes n.id ≡ Some n → n.body ≡ Plain c → fact_at t n.id ≡ Some (fact_of (record { id = n.id; version = n.version; content = c }))
gone_file t n c at e = ap (λ o. option_map fact_of (file_of_node o)) at ∙ ap (λ (b : Body). option_map fact_of (file_of_body n b)) e

gone_facts : (t : Tree) (session : ℕ) (n : Node) (b : Body) → with_id t.nodes n.id ≡ Some n → n.body ≡ b → (id : ℕ) → (if n.id == id then None else fact_at t id) ≡ fact_after id (fact_at t id) (entry_by session (gone_entry n b))
gone_facts t session n Directory at e id = by (n.id == id) refl ∙ either (n.id == id) (fact_at t id)
  where
    by : (b : Bool) → (n.id == id) ≡ b → (if b then None else fact_at t id) ≡ fact_at t id
    by true same = sym (subst (λ (i : ℕ). fact_at t i ≡ None) (is_id n.id id same) (gone_none t n at e))
    by false other = refl
gone_facts t session n (Plain c) at e id = refl

gone_next : (t : Tree) (session : ℕ) (n : Node) (b : Body) → with_id t.nodes n.id ≡ Some n → n.body ≡ b → (let x : Entry = entry_by session (gone_entry n b) in IsNext x.kind x (fact_at t x.file))
gone_next t session n Directory at e = refl
gone_next t session n (Plain c) at e = (fact_of (record { id = n.id; version = n.version; content = c }), gone_file t n c at e, refl)

-- what is left without it
without_facts : (t : Tree) (gone id : ℕ) (o : Option File) → o ≡ (if gone == id then None else file_at t id) → option_map fact_of o ≡ (if gone == id then None else fact_at t id)
without_facts t gone id o e = ap (option_map fact_of) e ∙ by (gone == id)
  where
    by : (b : Bool) → option_map fact_of (if b then None else file_at t id) ≡ (if b then None else fact_at t id)
    by true = refl
    by false = refl

pub tells_removed : (t : Tree) (session dir : ℕ) (n : Node) → with_id t.nodes n.id ≡ Some n → NoFile t.nodes dir → IsTelling t session (Some (gone_entry n n.body)) None (removed t dir n.id)
tells_removed t session dir n at none = record {
  facts = λ id. without_facts t n.id id (file_at (removed t dir n.id) id) (removed_files t dir n.id id none) ∙ gone_facts t session n n.body at refl id;
  versions = (gone_next t session n n.body at refl, tt);
  counted = omega arith;
}

-- ---- another content

pub tells_replaced : (t : Tree) (session id version : ℕ) (content : List ℕ) (g : File) → file_at t id ≡ Some g → version ≡ g.version + 1 → IsTelling t session (Some (commit_entry id version content)) None (replaced t id version content)
tells_replaced t session id version content g at next = record {
  facts = λ f. by f (id == f) refl;
  versions = ((fact_of g, ap (option_map fact_of) at, next), tt);
  counted = omega arith;
}
  where
    apart : (f : ℕ) → (id == f) ≡ false → f ≡ id → ⊥
    apart f other e = let same : (id == f) ≡ true = grind (arith, nat_tests, e) in absurd cc

    told : Fact
    told = fact_of (record g { version = version; content = content })

    by : (f : ℕ) (b : Bool) → (id == f) ≡ b → fact_at (replaced t id version content) f ≡ (if b then Some told else fact_at t f)
    by f true same = subst (λ (i : ℕ). fact_at (replaced t id version content) i ≡ Some told) (is_id id f same) (ap (option_map fact_of) (replaced_own t id version content g at))
    by f false other = ap (option_map fact_of) (replaced_other t id version content f (apart f other))

-- ---- another name

-- a node's name changes no file
name_after : (session id n : ℕ) (o : Option Fact) → o ≡ fact_after id o (entry_by session (name_entry n))
name_after session id n o = either (n == id) o

pub tells_moved : (t : Tree) (session dir : ℕ) (n : Node) (o : Option Node) (to : ℕ) (name : List ℕ) → with_id t.nodes n.id ≡ Some n → NoFile t.nodes dir → NoFile t.nodes to → o ≡ None → IsTelling t session (Some (name_entry n.id)) None (moved t dir n o to name)
tells_moved t session dir n (Some m) to name at from into e = absurd cc
tells_moved t session dir n None to name at from into e = record {
  facts = λ id. ap (option_map fact_of) (moved_at_files t t.nodes n dir to (t.changes + 1) name id at from into) ∙ name_after session id n.id (fact_at t id);
  versions = (refl, tt);
  counted = omega arith;
}

pub tells_over : (t : Tree) (session dir : ℕ) (n m : Node) (to : ℕ) (name : List ℕ) → with_id t.nodes n.id ≡ Some n → with_id t.nodes m.id ≡ Some m → (m.id == n.id) ≡ false → NoFile t.nodes dir → NoFile t.nodes to
    → IsTelling t session (Some (gone_entry m m.body)) (Some (name_entry n.id)) (moved t dir n (Some m) to name)
tells_over t session dir n m to name at gone apart from into = record {
  facts = λ id.
      without_facts t m.id id (file_at (moved t dir n (Some m) to name) id) (moved_at_files t (without t.nodes m.id) n dir to (t.changes + 2) name id still (without_none t.nodes m.id dir from) (without_none t.nodes m.id to into) ∙ files id)
      ∙ gone_facts t session m m.body gone refl id
      ∙ name_after session id n.id (fact_after id (fact_at t id) (entry_by session (gone_entry m m.body)));
  versions = (gone_next t session m m.body gone refl, (refl, tt));
  counted = omega arith;
}
  where
    still : with_id (without t.nodes m.id) n.id ≡ Some n
    still = with_id_without t.nodes m.id n.id ∙ ap (λ (b : Bool). if b then None else with_id t.nodes n.id) apart ∙ at

    files : (id : ℕ) → file_of_node (with_id (without t.nodes m.id) id) ≡ (if m.id == id then None else file_at t id)
    files id = ap file_of_node (with_id_without t.nodes m.id id) ∙ by (m.id == id)
      where
        by : (b : Bool) → file_of_node (if b then None else with_id t.nodes id) ≡ (if b then None else file_at t id)
        by true = refl
        by false = refl
