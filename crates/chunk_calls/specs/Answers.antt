-- What a GETHASH and a GETLEASE are answered, by the file that a handle names, and the term of the lease on it that is granted, in milliseconds: 0 where
-- none is. Neither changes the tree.
use Rattle.std.specs.Prelude.{ℕ, ◌+◌, ◌/◌, ◌%◌, List, length, map, filter, take, Option, Some, None, Result, Ok, Err, Bool, ◌&&◌, ◌||◌, ◌==◌, nat_lt, nat_le}
use Rattle.limits.specs.declared.TheConstants.{PAIRS_MOST}
use Rattle.chunk_cut.specs.Chunks.{chunks_of}
use Rattle.chunk_cut.specs.Places.{end_of}
use Rattle.chunk_cut.specs.declared.chunk.Chunk.{Chunk}
use Rattle.xdr_codec.specs.Handle.{file_of}
use Rattle.xdr_codec.specs.declared.status.Status.{Status}
use Rattle.xdr_codec.specs.declared.status.Status.TheVariants as status
use Rattle.xdr_codec.specs.declared.attr.Attr.{Attr}
use Rattle.xdr_codec.specs.declared.attr.Time.{Time}
use Rattle.xdr_codec.specs.declared.attr.Kind.TheVariants as kind
use Rattle.xdr_codec.specs.declared.answer.Answer.{Answer}
use Rattle.xdr_codec.specs.declared.answer.Answer.TheVariants.{Done, Failed}
use Rattle.hash_calls.specs.declared.call.HashRange.{HashRange}
use Rattle.hash_calls.specs.declared.call.Hashes.{Hashes}
use Rattle.hash_calls.specs.declared.call.Pair.{Pair}
use Rattle.hash_calls.specs.declared.call.Leased.{Leased}
use Rattle.tree_nodes.specs.declared.node.Node.{Node as TreeNode}
use Rattle.tree_nodes.specs.declared.node.Body.{Body}
use Rattle.tree_nodes.specs.declared.node.Body.TheVariants.{Directory, File as Content}
use Rattle.tree_nodes.specs.Nodes.{with_id}
use Rattle.tree_reading.specs.Tree.{Tree}
use Rattle.chunk_calls.specs.Files.{File}

-- what a handle names: a directory, or a file
pub data Node : Type 0 where
  directory : Node
  file : File → Node

abbrev pub node_with : TreeNode → Body → Node
node_with n Directory = directory
node_with n (Content c) = file (record { id = n.id; version = n.version; content = c })

abbrev pub node_found : Option TreeNode → Result Node Status
node_found None = Err status.Stale
node_found (Some n) = Ok (node_with n n.body)

-- a handle of another form is BADHANDLE, and an id that is not in the tree STALE
abbrev pub node_named : Tree → Option ℕ → Result Node Status
node_named t None = Err status.BadHandle
node_named t (Some id) = node_found (with_id t.nodes id)

abbrev pub node_of : Tree → List ℕ → Result Node Status
node_of t handle = node_named t (file_of handle)

-- a handle names a file
abbrev pub IsFile : Result Node Status → Type 0
IsFile (Ok (file f)) = Unit {0}
IsFile n = ⊥

-- the id of the file that a handle names; a directory is none
abbrev pub target_in : Result Node Status → Result ℕ Status
target_in (Err e) = Err e
target_in (Ok directory) = Err status.IsDir
target_in (Ok (file f)) = Ok f.id

-- ---- attributes (RFC 1813 section 2.6)

-- all three times show the version
abbrev pub time_of : ℕ → Time
time_of version = record { seconds = version / 1000000000; nanoseconds = version % 1000000000 }

abbrev pub attr_of : File → Attr
attr_of f = record {
  kind = kind.File;
  mode = 420;
  nlink = 1;
  uid = 0;
  gid = 0;
  size = length f.content;
  used = length f.content;
  rdev_major = 0;
  rdev_minor = 0;
  fsid = 0x4C424653;
  fileid = f.id;
  atime = time_of f.version;
  mtime = time_of f.version;
  ctime = time_of f.version;
}

-- ---- GETHASH

-- no answer tells more chunks
abbrev pub chunks_most : ℕ
chunks_most = PAIRS_MOST

-- a chunk meets the range
abbrev pub meets : (offset count : ℕ) → Chunk → Bool
meets offset count c = nat_lt 0 count && nat_lt c.start (offset + count) && nat_lt offset (c.start + c.len)

-- the chunks of a content that are told: the first of those that meet the range
abbrev pub told_chunks : List ℕ → HashRange → List Chunk
told_chunks content r = take chunks_most (filter (meets r.offset r.count) (chunks_of content))

abbrev pub pair_of : Chunk → Pair
pair_of c = record { digest = c.digest; size = c.len }

-- the last chunk of a content of this size is among them, or the range begins at its end or past it
abbrev pub is_end : (size offset : ℕ) → List Chunk → Bool
is_end size offset told = nat_le size offset || end_of told == size

abbrev pub hashes_of : (term : ℕ) → File → HashRange → Hashes
hashes_of term f r = record {
  version = f.version;
  term = term;
  size = length f.content;
  pairs = map pair_of (told_chunks f.content r);
  eof = is_end (length f.content) r.offset (told_chunks f.content r);
}

abbrev pub hash_answer : (term : ℕ) → Result Node Status → HashRange → Answer Hashes Unit
hash_answer term (Err s) r = Failed s tt
hash_answer term (Ok directory) r = Failed status.IsDir tt
hash_answer term (Ok (file f)) r = Done (hashes_of term f r)

-- the file that the call is about and those of its chunks that are told, where any are
abbrev pub chunks_told : Result Node Status → HashRange → Option (ℕ × List Chunk)
chunks_told (Ok (file f)) r = Some (f.id, told_chunks f.content r)
chunks_told n r = None

-- ---- GETLEASE

abbrev pub leased_of : (term : ℕ) → File → Leased
leased_of term f = record { attr = attr_of f; version = f.version; term = term }

abbrev pub lease_answer : (term : ℕ) → Result Node Status → Answer Leased Unit
lease_answer term (Err s) = Failed s tt
lease_answer term (Ok directory) = Failed status.IsDir tt
lease_answer term (Ok (file f)) = Done (leased_of term f)
