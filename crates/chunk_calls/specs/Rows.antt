-- Worked calls over a tree of a file 2, "abc", and a directory 3.
use Rattle.std.specs.Prelude.{◌≡◌, ℕ, List, [], ◌∷◌, Some, None, refl, codes}
use Rattle.sha1.specs.Sha1.{sha1, digest_bytes, hash_after, compress, rounds, schedule, first_words}
use Rattle.chunk_index.specs.Index.{Indexed, key_of, put}
use Rattle.chunk_index.specs.Places.{no_index}
use Rattle.xdr_codec.specs.Handle.{handle_bytes}
use Rattle.xdr_codec.specs.declared.answer.Answer.TheVariants.{Done, Failed}
use Rattle.xdr_codec.specs.declared.status.Status.TheVariants.{BadFd, BadHandle, FdInUse, HashNotFound, Inval, IsDir, Stale}
use Rattle.hash_calls.specs.declared.message.Lb.{Lb}
use Rattle.hash_calls.specs.declared.message.Lb.TheVariants as lb
use Rattle.tree_nodes.specs.declared.node.Body.TheVariants.{Directory, File as Content}
use Rattle.temp_files.specs.Temps.{Temps}
use Rattle.tree_reading.specs.Tree.{Tree, root}
use Rattle.chunk_calls.specs.Answers.{attr_of}
use Rattle.chunk_calls.specs.Calling.{Called, calls}

abbrev tree : Tree
tree = record {
  nodes = root 2 ∷ record { id = 2; parent = 1; name = codes "a"; version = 1; body = Content (codes "abc") } ∷ record { id = 3; parent = 1; name = codes "d"; version = 2; body = Directory } ∷ [];
  next = 4;
  changes = 2;
}

-- a call of session 1
abbrev comes : Temps → Lb → Called
comes temps m = calls tree temps no_index 1 0 m

-- ---- GETLEASE

abbrev leases : List ℕ → Called
leases handle = comes [] (lb.GetLease (record { lbfs = 1; handle = handle }))

row_lease : ((leases (76 ∷ [])).answer ≡ Some (lb.GetLeaseAnswer (Failed BadHandle tt))) × ((leases (handle_bytes 9)).answer ≡ Some (lb.GetLeaseAnswer (Failed Stale tt))) × ((leases (handle_bytes 3)).answer ≡ Some (lb.GetLeaseAnswer (Failed IsDir tt))) × ((leases (handle_bytes 2)).answer ≡ Some (lb.GetLeaseAnswer (Done (record { attr = attr_of (record { id = 2; version = 1; content = codes "abc" }); version = 1; term = 0 }))))
row_lease = (refl, refl, refl, refl)

-- the term is told of a file, and of nothing else
granted : ((calls tree [] no_index 1 60000 (lb.GetLease (record { lbfs = 1; handle = handle_bytes 2 }))).answer ≡ Some (lb.GetLeaseAnswer (Done (record { attr = attr_of (record { id = 2; version = 1; content = codes "abc" }); version = 1; term = 60000 })))) × ((calls tree [] no_index 1 60000 (lb.GetLease (record { lbfs = 1; handle = handle_bytes 3 }))).answer ≡ Some (lb.GetLeaseAnswer (Failed IsDir tt)))
granted = (refl, refl)

-- ---- temporary files

abbrev makes : Temps → (fd : ℕ) → List ℕ → Called
makes temps fd handle = comes temps (lb.MkTmpFile (record { lbfs = 1; fd = fd; handle = handle }))

-- session 1 has a temporary file 1
abbrev one : Temps
one = (makes [] 1 (handle_bytes 2)).temps

row_makes : ((makes [] 1 (handle_bytes 2)).answer ≡ Some (lb.MkTmpFileAnswer (Done tt))) × ((makes one 1 (handle_bytes 2)).answer ≡ Some (lb.MkTmpFileAnswer (Failed FdInUse tt))) × ((makes one 1 (handle_bytes 3)).answer ≡ Some (lb.MkTmpFileAnswer (Failed IsDir tt)))
row_makes = (refl, refl, refl)

abbrev writes : Temps → (fd offset : ℕ) → List ℕ → Called
writes temps fd offset bytes = comes temps (lb.TmpWrite (record { lbfs = 1; fd = fd; offset = offset; bytes = bytes }))

-- a piece that meets another is refused, and one for no temporary file
row_writes : ((writes one 1 0 (codes "xy")).answer ≡ Some (lb.TmpWriteAnswer (Done tt))) × ((writes (writes one 1 0 (codes "xy")).temps 1 1 (codes "z")).answer ≡ Some (lb.TmpWriteAnswer (Failed Inval tt))) × ((writes one 2 0 (codes "x")).answer ≡ Some (lb.TmpWriteAnswer (Failed BadFd tt)))
row_writes = (refl, refl, refl)

-- ---- CONDWRITE

-- an index that has a place of file 2 under the key of these bytes
abbrev placed : List ℕ → (offset count : ℕ) → Indexed
placed bytes offset count = put no_index (key_of (sha1 bytes)) (record { file = 2; offset = offset; count = count })

abbrev names : Indexed → (fd : ℕ) → Called
names index fd = calls tree one index 1 0 (lb.CondWrite (record { lbfs = 1; fd = fd; offset = 0; count = 2; digest = sha1 (codes "bc") }))

-- the right bytes, others, and those of another count; where there is a fault nothing is looked up
row_names : ((names (placed (codes "bc") 1 2) 1).answer ≡ Some (lb.CondWriteAnswer (Done tt))) × ((names (placed (codes "bc") 0 2) 1).answer ≡ Some (lb.CondWriteAnswer (Failed HashNotFound tt))) × ((names (placed (codes "bc") 1 1) 1).answer ≡ Some (lb.CondWriteAnswer (Failed HashNotFound tt))) × ((names (placed (codes "bc") 1 2) 2) ≡ record { temps = one; index = placed (codes "bc") 1 2; answer = Some (lb.CondWriteAnswer (Failed BadFd tt)) })
unfolding key_of sha1 digest_bytes hash_after compress rounds schedule first_words
row_names = (refl, refl, refl, refl)

-- ---- a COMMITTMP is none of these calls, and an answer is none

row_none : (comes one (lb.CommitTmp (record { lbfs = 1; fd = 1; handle = handle_bytes 2; size = 0; base = None })) ≡ record { temps = one; index = no_index; answer = None }) × (comes one lb.NullAnswer ≡ record { temps = one; index = no_index; answer = None })
row_none = (refl, refl)
