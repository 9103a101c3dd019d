-- The content that a file got, of which the index gets its places.
use Rattle.std.proofs.Common.{◌≡◌, refl, sym, ap, ◌∙◌, subst, ℕ, List, Option, Some, None, Result, Ok, Err, Bool, true, false, arith}
use Rattle.std.specs.Prelude.{◌+◌, ◌==◌, if◌then◌else◌, length}
use Rattle.std.specs.Option.{option_map}
use Rattle.std.proofs.lemmas.Bool.Decides.{nat_tests}
use Rattle.xdr_codec.specs.declared.status.Status.{Status}
use Rattle.xdr_codec.specs.declared.status.Status.TheVariants as status
use Rattle.xdr_codec.specs.declared.answer.Answer.{Answer}
use Rattle.xdr_codec.specs.declared.answer.Answer.TheVariants as answer
use Rattle.hash_calls.specs.declared.call.Committed.{Committed}
use Rattle.chunk_cut.specs.Chunks.{chunks_of}
use Rattle.tree_nodes.specs.declared.node.Node.{Node}
use Rattle.tree_nodes.specs.declared.node.Body.TheVariants.{File as Content}
use Rattle.tree_nodes.specs.Nodes.{with_id}
use Rattle.tree_nodes.proofs.lemmas.Lists.{with_id_changed}
use Rattle.tree_reading.specs.Chain.{◌>>=◌}
use Rattle.tree_reading.specs.Plans.{replace_plan, spared, spared_bytes, within_file}
use Rattle.file_tree.specs.Step.{replaced, replace_if}
use Rattle.tree_reading.specs.Tree.{Tree, contents_size, or_stale, file_or}
use Rattle.tree_reading.specs.declared.call.Changed.{Changed}
use Rattle.tree_reading.specs.declared.call.Reservation.{Reservation}
use Rattle.file_tree.specs.Stores.{stored}
use Rattle.tree_calls.specs.Calling.{IsCalled}
use Rattle.tree_calls.specs.Waiting.{with_committed, gives_content_under}
use Rattle.tree_calls.specs.declared.asked.Committing.{Committing}
use Rattle.chunk_calls.specs.Files.{file_of_node, file_at, chunks_at}

abbrev IsDone : Answer Committed Unit → Type 0
IsDone (answer.Done a) = Unit {0}
IsDone (answer.Failed s u) = ⊥

abbrev filled : ℕ → List ℕ → Node → Node
filled version content m = record m { version = version; body = Content content }

-- a node that is there gets the content
there_then : (t : Tree) (id version : ℕ) (content : List ℕ) (n : Node) → with_id t.nodes id ≡ Some n → chunks_at id (file_at (replaced t id version content) id) ≡ Some (id, chunks_of content)
there_then t id version content n at =
    ap (λ (o : Option Node). chunks_at id (file_of_node o)) (
    with_id_changed (filled version content) (λ m. refl) t.nodes id id
    ∙ ap (λ (b : Bool). if b then option_map (filled version content) (with_id t.nodes id) else with_id t.nodes id) (own id)
    ∙ ap (λ (o : Option Node). option_map (filled version content) o) at
    )
  where
    own : (i : ℕ) → (i == i) ≡ true
    own i = grind (arith, nat_tests)

abbrev planned : Tree → Reservation → ℕ → Option Node → Result ℕ Status
planned t h len o = (or_stale o >>= file_or status.IsDir >>= λ (n : Node). within_file len >>= λ _. spared t.changes h 1 >>= λ _. spared_bytes (contents_size t.nodes) h len >>= λ _. Ok n) >>= λ (n : Node). Ok (n.version + 1)

replaced_then : (t : Tree) (h : Reservation) (id version : ℕ) (content : List ℕ) (len : ℕ) → replace_plan t h id len ≡ Ok version → chunks_at id (file_at (replaced t id version content) id) ≡ Some (id, chunks_of content)
replaced_then t h id version content len plan = by (with_id t.nodes id) refl plan
  where
    by : (o : Option Node) → with_id t.nodes id ≡ o → planned t h len o ≡ Ok version → chunks_at id (file_at (replaced t id version content) id) ≡ Some (id, chunks_of content)
    by None at e = absurd cc
    by (Some n) at e = there_then t id version content n at

module _ (t : Tree) (h : Reservation) (id : ℕ) (content : List ℕ) (term : ℕ) (t' : Tree) (d : Committing) where
  abbrev committed_as : Tree × Result Changed Status → Type 0
  committed_as p = with_committed term p ≡ (t', d)

  abbrev Places : Type 0
  Places = chunks_at id (file_at t' id) ≡ Some (id, chunks_of content)

  by_plan : (r : Result ℕ Status) → replace_plan t h id (length content) ≡ r → committed_as (replace_if t id content r) → IsDone d.answer → Places
  by_plan (Err s) plan is done = absurd (subst (λ (q : Tree × Committing). IsDone q.1.answer) (sym is) done)
  by_plan (Ok version) plan is done =
      ap (λ (q : Tree × Committing). chunks_at id (file_at q.0 id)) (sym is) ∙ replaced_then t h id version content (length content) plan

  by_fault : (fault : Bool) (r : Result ℕ Status) → replace_plan t h id (length content) ≡ r → committed_as (stored fault t (replace_if t id content r)) → IsDone d.answer → Places
  by_fault false r plan is done = by_plan r plan is done
  by_fault true (Err s) plan is done = by_plan (Err s) plan is done
  by_fault true (Ok version) plan is done = by_changes ((replaced t id version content).changes == t.changes) is
    where
      by_changes : (b : Bool) → committed_as (if b then replace_if t id content (Ok version) else (t, Err status.Io)) → Places
      by_changes true k = by_plan (Ok version) plan k done
      by_changes false k = absurd (subst (λ (q : Tree × Committing). IsDone q.1.answer) (sym k) done)

-- of a commit that was done the index gets the places of the content
pub got_places : (before after : ℕ) (t : Tree) (h : Reservation) (id : ℕ) (content : List ℕ) (term : ℕ) (t' : Tree) (d : Committing) (a : Committed) → IsCalled before after (λ fault. gives_content_under t h fault id content term) (t', d) → d.answer ≡ answer.Done a
    → chunks_at id (file_at t' id) ≡ Some (id, chunks_of content)
got_places before after t h id content term t' d a called is =
    by_fault t h id content term t' d called.fault (replace_plan t h id (length content)) refl called.is (subst IsDone (sym is) tt)
