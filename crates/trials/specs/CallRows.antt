-- Worked rows of the server's calls of LBFS: each with its faults in the order of its checks, of two at once the first; and of renames beside other changes of their files.
use Rattle.std.specs.Prelude.{None, ◌≡◌, ℕ, List, [], ◌∷◌, ◌++◌, map, replicate, codes, refl}
use Rattle.xdr_codec.specs.Handle.{handle_bytes}
use Rattle.xdr_codec.specs.declared.status.Status.{Status}
use Rattle.xdr_codec.specs.declared.status.Status.TheVariants as status
use Rattle.xdr_codec.specs.declared.answer.Answer.{Answer}
use Rattle.xdr_codec.specs.declared.answer.Answer.TheVariants.{Done, Failed}
use Rattle.hash_calls.specs.declared.message.Lb.{Lb}
use Rattle.hash_calls.specs.declared.message.Lb.TheVariants as lb
use Rattle.nfs3_calls.specs.declared.message.Nfs.TheVariants as nfs
use Rattle.wire.specs.declared.message.Body.{Body}
use Rattle.wire.specs.declared.message.Body.TheVariants as body
use Rattle.wire.specs.declared.message.Message.{Message}
use Rattle.wire.specs.declared.message.Message.TheVariants as message
use Rattle.tree_nodes.specs.declared.node.Body.TheVariants.{Directory, File as Content}
use Rattle.server_core.specs.declared.event.Event.{Event}
use Rattle.server_core.specs.declared.event.Event.TheVariants as event
use Rattle.server_core.specs.declared.event.Sent.{Sent}
use Rattle.server_core.specs.State.{State, empty}
use Rattle.server_core.specs.Step.{server_step, opens_with}

-- ---- what a step says

data Said : Type 0 where
  refused : Status → Said
  done : Said
  nothing : Said

abbrev in_short : {A F : Type 0} → Answer A F → Said
in_short (Done x) = done
in_short (Failed s f) = refused s

abbrev of_body : Body → Said
of_body (body.Lb (lb.GetLeaseAnswer a)) = in_short a
of_body (body.Lb (lb.GetHashAnswer a)) = in_short a
of_body (body.Lb (lb.MkTmpFileAnswer a)) = in_short a
of_body (body.Lb (lb.TmpWriteAnswer a)) = in_short a
of_body (body.Lb (lb.CondWriteAnswer a)) = in_short a
of_body (body.Lb (lb.CommitTmpAnswer a)) = in_short a
of_body (body.Nfs (nfs.RemoveAnswer a)) = in_short a
of_body (body.Nfs (nfs.RenameAnswer a)) = in_short a
of_body b = nothing

abbrev of_message : Message → Said
of_message (message.Answer xid b) = of_body b
of_message m = nothing

abbrev of_sent : List Sent → Said
of_sent [] = nothing
of_sent (s ∷ ss) = of_message s.message

abbrev after : State → List Event → State
after s [] = s
after s (e ∷ es) = after (server_step s e).0 es

abbrev steps : State → List Event → List Said
steps s [] = []
steps s (e ∷ es) = of_sent (server_step s e).1.send ∷ steps (server_step s e).0 es

abbrev calls : (session : ℕ) → Lb → Event
calls session b = event.Got session (message.Call 9 (body.Lb b)) 0

-- what each is answered in the same state, as a call of session 1
abbrev each : State → List Lb → List Said
each s ms = map (λ (m : Lb). of_sent (server_step s (calls 1 m)).1.send) ms

-- ---- a server: the file 2, "a", of three bytes, the file 3, "b", of none, and the directory 4; two sessions

abbrev makes : (fd : ℕ) → (handle : List ℕ) → Lb
makes fd handle = lb.MkTmpFile (record { lbfs = 1; fd = fd; handle = handle })

abbrev writes : (fd offset : ℕ) → List ℕ → Lb
writes fd offset bytes = lb.TmpWrite (record { lbfs = 1; fd = fd; offset = offset; bytes = bytes })

abbrev names : (fd offset count : ℕ) → Lb
names fd offset count = lb.CondWrite (record { lbfs = 1; fd = fd; offset = offset; count = count; digest = replicate 20 0 })

abbrev commits : (fd : ℕ) → (handle : List ℕ) → (size : ℕ) → Lb
commits fd handle size = lb.CommitTmp (record { lbfs = 1; fd = fd; handle = handle; size = size; base = None })

abbrev tree : State
tree = after (opens_with (opens_with (opens_with empty 1 (codes "a") (Content (codes "abc"))) 1 (codes "b") (Content [])) 1 (codes "d") Directory) (event.Connect ∷ event.Connect ∷ [])

-- a handle of no form; of nothing; of the directory; of the file 2
abbrev wrong : List ℕ
wrong = 76 ∷ []

abbrev gone : List ℕ
gone = handle_bytes 9

abbrev directory : List ℕ
directory = handle_bytes 4

abbrev a_file : List ℕ
a_file = handle_bytes 2

-- ---- GETLEASE and GETHASH

asked : each tree (map (λ (h : List ℕ). lb.GetLease (record { lbfs = 1; handle = h })) (wrong ∷ gone ∷ directory ∷ a_file ∷ [])) ≡ refused status.BadHandle ∷ refused status.Stale ∷ refused status.IsDir ∷ done ∷ []
asked = refl

hashed : each tree (map (λ (h : List ℕ). lb.GetHash (record { lbfs = 1; handle = h; offset = 0; count = 0 })) (wrong ∷ gone ∷ directory ∷ [])) ≡ refused status.BadHandle ∷ refused status.Stale ∷ refused status.IsDir ∷ []
hashed = refl

-- ---- MKTMPFILE: the handle, the kind, a number in use, and how many there are

abbrev fifteen : List ℕ
fifteen = 2 ∷ 3 ∷ 4 ∷ 5 ∷ 6 ∷ 7 ∷ 8 ∷ 9 ∷ 10 ∷ 11 ∷ 12 ∷ 13 ∷ 14 ∷ 15 ∷ 16 ∷ []

-- session 1 has sixteen
abbrev crowded : State
crowded = after tree (map (λ (n : ℕ). calls 1 (makes n a_file)) (1 ∷ fifteen))

made : each crowded (makes 1 wrong ∷ makes 1 gone ∷ makes 1 directory ∷ makes 1 a_file ∷ makes 17 wrong ∷ makes 17 a_file ∷ []) ≡ refused status.BadHandle ∷ refused status.Stale ∷ refused status.IsDir ∷ refused status.FdInUse ∷ refused status.BadHandle ∷ refused status.TooManyTemps ∷ []
made = refl

-- ---- TMPWRITE and CONDWRITE

-- session 1 has the temporary file 1, in which "xyz" stands at 4
abbrev begun : State
begun = after tree (calls 1 (makes 1 a_file) ∷ calls 1 (writes 1 4 (codes "xyz")) ∷ [])

-- no such number, before no bytes; no bytes; past all numbers; past the limit of a file; over what stands there, from each side; beside it
written : each begun (writes 2 4 [] ∷ writes 1 4 [] ∷ writes 1 18446744073709551615 (codes "x") ∷ writes 1 67108864 (codes "x") ∷ writes 1 3 (codes "xy") ∷ writes 1 6 (codes "xy") ∷ writes 1 5 (codes "x") ∷ writes 1 7 (codes "x") ∷ writes 1 3 (codes "x") ∷ []) ≡ refused status.BadFd ∷ refused status.Inval ∷ refused status.Inval ∷ refused status.FBig ∷ refused status.Inval ∷ refused status.Inval ∷ refused status.Inval ∷ done ∷ done ∷ []
written = refl

-- a wrong count comes before the number; then as of a TMPWRITE of so many bytes
named : each begun (names 2 0 0 ∷ names 2 0 65537 ∷ names 2 4 65536 ∷ names 1 18446744073709551615 1 ∷ names 1 67108864 1 ∷ names 1 67043329 65536 ∷ names 1 3 2 ∷ []) ≡ refused status.Inval ∷ refused status.Inval ∷ refused status.BadFd ∷ refused status.Inval ∷ refused status.FBig ∷ refused status.FBig ∷ refused status.Inval ∷ []
named = refl

-- ---- COMMITTMP

-- its temporary file 1 is whole with seven bytes; nothing waits
abbrev whole : State
whole = after begun (calls 1 (writes 1 0 (codes "abcd")) ∷ [])

-- a change of session 1 waits, and none has room
abbrev busy : State
busy = let s : State = after whole (calls 1 (makes 2 a_file) ∷ calls 1 (commits 2 a_file 0) ∷ []) in record s { tree = record s.tree { changes = 4294967295 } }

abbrev full : State
full = record whole { tree = record whole.tree { changes = 4294967295 } }

abbrev ends : List Lb
ends = commits 2 wrong 67108865 ∷ commits 1 wrong 67108865 ∷ commits 1 gone 67108865 ∷ commits 1 directory 67108865 ∷ commits 1 a_file 67108865 ∷ commits 1 a_file 6 ∷ commits 1 a_file 8 ∷ commits 1 a_file 7 ∷ []

-- the number, the handle, the kind, the size, what is whole, what waits, and what has room
committed : each busy ends ≡ refused status.BadFd ∷ refused status.BadHandle ∷ refused status.Stale ∷ refused status.IsDir ∷ refused status.FBig ∷ refused status.Inval ∷ refused status.Inval ∷ refused status.Jukebox ∷ []
committed = refl

committed_full : each full ends ≡ refused status.BadFd ∷ refused status.BadHandle ∷ refused status.Stale ∷ refused status.IsDir ∷ refused status.FBig ∷ refused status.Inval ∷ refused status.Inval ∷ refused status.NoSpc ∷ []
committed_full = refl

-- whichever it is, the temporary file ends
ended : map (λ (m : Lb). steps (after whole (calls 1 m ∷ [])) (calls 1 (commits 1 a_file 7) ∷ [])) (commits 1 wrong 7 ∷ commits 1 gone 7 ∷ commits 1 directory 7 ∷ commits 1 a_file 67108865 ∷ commits 1 a_file 6 ∷ []) ≡ replicate 5 (refused status.BadFd ∷ [])
ended = refl

-- ---- a RENAME of "a" over "b", which waits, beside other changes

abbrev renames : (session : ℕ) → (name to : List ℕ) → Event
renames session name to = event.Got session (message.Call 5 (body.Nfs (nfs.Rename (record { from = record { dir = handle_bytes 1; name = name }; to = record { dir = handle_bytes 1; name = to } })))) 0

abbrev removes : (session : ℕ) → List ℕ → Event
removes session name = event.Got session (message.Call 6 (body.Nfs (nfs.Remove (record { dir = handle_bytes 1; name = name })))) 0

-- session 2 gives the file 3 no bytes
abbrev closes : List Event
closes = calls 2 (makes 1 (handle_bytes 3)) ∷ calls 2 (commits 1 (handle_bytes 3) 0) ∷ []

abbrev moves : Event
moves = renames 1 (codes "a") (codes "b")

-- a close of "b" waits before it: both are made; behind it: its file is gone
beside_close : (steps (after tree (closes ++ moves ∷ [])) (event.Settle 7 ∷ event.Settle 8 ∷ event.Settle 9 ∷ []) ≡ done ∷ done ∷ nothing ∷ [])
beside_close = refl

before_close : steps (after tree (moves ∷ closes)) (event.Settle 7 ∷ event.Settle 8 ∷ event.Settle 9 ∷ []) ≡ done ∷ refused status.Stale ∷ nothing ∷ []
before_close = refl

-- "a" goes meanwhile; it gets another name; "b" goes; it gets another name; both are made again
meanwhile : map (λ (es : List Event). steps (after tree (es ++ moves ∷ [])) (event.Settle 7 ∷ event.Settle 8 ∷ [])) ((removes 2 (codes "a") ∷ []) ∷ (removes 2 (codes "b") ∷ []) ∷ []) ≡ (done ∷ refused status.Jukebox ∷ []) ∷ (done ∷ refused status.Stale ∷ []) ∷ []
meanwhile = refl

renamed_before : map (λ (e : Event). steps (after tree (moves ∷ e ∷ [])) (event.Settle 7 ∷ [])) (renames 2 (codes "a") (codes "n") ∷ renames 2 (codes "b") (codes "n") ∷ []) ≡ (refused status.Jukebox ∷ []) ∷ (refused status.Jukebox ∷ []) ∷ []
renamed_before = refl
