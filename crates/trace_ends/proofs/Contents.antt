-- The content of a file of the server's tree.
use Rattle.std.proofs.Common.{◌≡◌, ℕ, List, [], Option, Some, None, refl, sym, ap, subst, ◌∙◌}
use Rattle.std.specs.Prelude.{Result, Ok, Err, if◌then◌else◌}
use Rattle.xdr_codec.specs.declared.status.Status.{Status}
use Rattle.xdr_codec.specs.declared.status.Status.TheVariants as status
use Rattle.tree_nodes.specs.declared.node.Node.{Node}
use Rattle.tree_nodes.specs.declared.node.Body.{Body}
use Rattle.tree_nodes.specs.declared.node.Body.TheVariants.{Directory, File}
use Rattle.tree_nodes.specs.Nodes.{with_id}
use Rattle.tree_reading.specs.Chain.{◌>>=◌}
use Rattle.tree_reading.specs.Tree.{Tree, content_of, file_or, is_directory, or_stale}
use Rattle.tree_reading.specs.Reading.{content}
use Rattle.chunk_calls.specs.Files.{file_at, file_of_body, file_of_node}
use Rattle.trace_ends.specs.Core.{content_in}

abbrev bytes_or : Result (List ℕ) Status → List ℕ
bytes_or (Ok bytes) = bytes
bytes_or (Err s) = []

-- what the tree answers of a node
abbrev answered : Option Node → Result (List ℕ) Status
answered o = or_stale o >>= file_or status.IsDir >>= λ n. Ok (content_of n.body)

abbrev IsSame : Node → Body → Type 0
IsSame n b = content_in (file_of_body n b) ≡ bytes_or ((if is_directory b then Err status.IsDir else Ok n) >>= λ m. Ok (content_of m.body))

of_body : (n : Node) (b : Body) → n.body ≡ b → IsSame n n.body
of_body n Directory is = subst (IsSame n) (sym is) refl
of_body n (File c) is = subst (IsSame n) (sym is) (sym (ap content_of is))

of_node : (o : Option Node) → content_in (file_of_node o) ≡ bytes_or (answered o)
of_node None = refl
of_node (Some n) = of_body n n.body refl

pub content_is : (t : Tree) (id : ℕ) (bytes : List ℕ) → content t.nodes id ≡ Ok bytes → bytes ≡ content_in (file_at t id)
content_is t id bytes e = sym (of_node (with_id t.nodes id) ∙ ap bytes_or e)

pub no_content : (t : Tree) (id : ℕ) (s : Status) → content t.nodes id ≡ Err s → [] ≡ content_in (file_at t id)
no_content t id s e = sym (of_node (with_id t.nodes id) ∙ ap bytes_or e)
