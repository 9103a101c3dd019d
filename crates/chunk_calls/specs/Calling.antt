-- What a call of LBFS comes to, over a tree, temporary files and an index of chunks: all but COMMITTMP, which is to change the tree.
use Rattle.std.specs.Prelude.{◌≡◌, ℕ, List, length, Option, Some, None, IsSome, Bool, true, false}
use Rattle.chunk_cut.specs.declared.chunk.Chunk.{Chunk}
use Rattle.hash_calls.specs.declared.message.Lb.{Lb}
use Rattle.hash_calls.specs.declared.message.Lb.TheVariants as lb
use Rattle.chunk_index.specs.Index.{Indexed, key_of, place_of, found}
use Rattle.temp_files.specs.Temps.{Temps, temp_at, room_fault, piece_fault}
use Rattle.tree_reading.specs.Tree.{Tree}
use Rattle.chunk_calls.specs.Answers.{node_of, target_in, hash_answer, chunks_told, lease_answer, IsFile}
use Rattle.chunk_calls.specs.Entering.{with_told, IsLacking}
use Rattle.chunk_calls.specs.Writing.{Named, made, wrote, named, cond_fault, bytes_known}

-- what is left, and the answer; none where the message is none of these calls
pub record Called : Type 0 where
  pub temps : Temps
  pub index : Indexed
  pub answer : Option Lb

abbrev pub says : Temps → Indexed → Lb → Called
says temps index m = record { temps = temps; index = index; answer = Some m }

abbrev pub says_named : Named → Called
says_named n = says n.temps n.index (lb.CondWriteAnswer n.answer)

-- term: that of the lease which the call is granted on its file, in milliseconds; 0 where it is granted none
abbrev pub calls : Tree → Temps → Indexed → (session term : ℕ) → Lb → Called
calls tree temps index session term (lb.Null z) = says temps index lb.NullAnswer
calls tree temps index session term (lb.GetLease z) = says temps index (lb.GetLeaseAnswer (lease_answer term (node_of tree z.handle)))
calls tree temps index session term (lb.GetHash r) = says temps (with_told index (chunks_told (node_of tree r.handle) r)) (lb.GetHashAnswer (hash_answer term (node_of tree r.handle) r))
calls tree temps index session term (lb.MkTmpFile a) = let p = made temps session a.fd (target_in (node_of tree a.handle)) in says p.0 index (lb.MkTmpFileAnswer p.1)
calls tree temps index session term (lb.TmpWrite a) = let p = wrote temps a (temp_at temps session a.fd) in says p.0 index (lb.TmpWriteAnswer p.1)
calls tree temps index session term (lb.CondWrite a) = says_named (named tree temps index a (temp_at temps session a.fd))
calls tree temps index session term m = record { temps = temps; index = index; answer = None }

-- whether a message is a COMMITTMP
abbrev pub is_committmp : Lb → Bool
is_committmp (lb.CommitTmp a) = true
is_committmp m = false

-- ---- running out of memory

-- the calls that take memory: those that give chunks of a file, and those that keep something; one that is refused takes none
abbrev pub Takes : Tree → Temps → Indexed → (session : ℕ) → Lb → Type 0
Takes tree temps index session (lb.GetHash r) = IsFile (node_of tree r.handle)
Takes tree temps index session (lb.MkTmpFile a) = IsFile (node_of tree a.handle) × (room_fault temps session a.fd ≡ None)
Takes tree temps index session (lb.TmpWrite a) = piece_fault (temp_at temps session a.fd) a.offset (length a.bytes) ≡ None
Takes tree temps index session (lb.CondWrite a) = (cond_fault a (temp_at temps session a.fd) ≡ None) × IsSome (bytes_known tree a (place_of index.pairs (key_of a.digest)))
Takes tree temps index session m = ⊥

-- what is left of the index by one that met running out of memory: a CONDWRITE has looked its digest up by then
abbrev pub index_left : Indexed → Lb → Indexed
index_left index (lb.CondWrite a) = found index (key_of a.digest)
index_left index m = index

-- the file and those of its chunks whose places enter the index
abbrev pub chunks_entered : Tree → Lb → Option (ℕ × List Chunk)
chunks_entered tree (lb.GetHash r) = chunks_told (node_of tree r.handle) r
chunks_entered tree m = None

-- what is done but for places for which memory ran out: at least one is left out of the index
abbrev pub LeavesPlaces : Tree → Temps → Indexed → (session term : ℕ) → Lb → Called → Type 0
LeavesPlaces tree temps index session term m new = IsLacking index (chunks_entered tree m) new.index × (new ≡ record (calls tree temps index session term m) { index = new.index })
