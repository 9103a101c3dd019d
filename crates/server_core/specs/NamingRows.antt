-- Worked sessions of the calls of NFS that change the tree: at once, or once they have waited.
use Rattle.std.specs.Prelude.{◌≡◌, ℕ, List, [], ◌∷◌, map, codes, refl, None, true}
use Rattle.sha1.specs.Sha1.{sha1}
use Rattle.xdr_codec.specs.Handle.{handle_bytes}
use Rattle.xdr_codec.specs.declared.status.Status.{Status}
use Rattle.xdr_codec.specs.declared.status.Status.TheVariants as status
use Rattle.xdr_codec.specs.declared.answer.Answer.{Answer}
use Rattle.xdr_codec.specs.declared.answer.Answer.TheVariants.{Done, Failed}
use Rattle.hash_calls.specs.declared.message.Lb.{Lb}
use Rattle.hash_calls.specs.declared.message.Lb.TheVariants as lb
use Rattle.nfs3_calls.specs.declared.making.HowMade.TheVariants.{Guarded}
use Rattle.nfs3_calls.specs.declared.making.SetAttr.{SetAttr}
use Rattle.nfs3_calls.specs.declared.making.SetTime.TheVariants.{Keep}
use Rattle.nfs3_calls.specs.declared.message.Nfs.{Nfs}
use Rattle.nfs3_calls.specs.declared.message.Nfs.TheVariants as nfs
use Rattle.nfs3_calls.specs.declared.place.Place.{Place}
use Rattle.wire.specs.declared.message.Body.{Body}
use Rattle.wire.specs.declared.message.Body.TheVariants as body
use Rattle.wire.specs.declared.message.Message.{Message}
use Rattle.wire.specs.declared.message.Message.TheVariants as message
use Rattle.tree_nodes.specs.declared.node.Node.{Node}
use Rattle.tree_nodes.specs.declared.node.Body.TheVariants.{File as Content}
use Rattle.tree_reading.specs.Tree.{root}
use Rattle.tree_reading.specs.declared.entry.EntryKind.{EntryKind}
use Rattle.tree_reading.specs.declared.entry.EntryKind.TheVariants as kind
use Rattle.server_core.specs.declared.event.Event.{Event}
use Rattle.server_core.specs.declared.event.Event.TheVariants as event
use Rattle.server_core.specs.declared.event.Sent.{Sent}
use Rattle.server_core.specs.declared.event.ServerStep.{ServerStep}
use Rattle.server_rules.specs.declared.told.Told.{Told}
use Rattle.server_rules.specs.declared.told.Told.TheVariants as told
use Rattle.server_core.specs.declared.journal.Entry.{Entry}
use Rattle.server_core.specs.Leasing.{unleased}
use Rattle.server_core.specs.State.{State, empty}
use Rattle.server_core.specs.Step.{server_step, server_step_under, opens_with}

-- ---- a server: the files 2, "a", and 3, "b", in the root, and two sessions

abbrev after : State → List Event → State
after s [] = s
after s (e ∷ es) = after (server_step s e).0 es

abbrev tree : State
tree = after (opens_with (opens_with empty 1 (codes "a") (Content (codes "abc"))) 1 (codes "b") (Content [])) (event.Connect ∷ event.Connect ∷ [])

abbrev asks : (session xid : ℕ) → Nfs → Event
asks session xid m = event.Got session (message.Call xid (body.Nfs m)) 0

abbrev calls : (session xid : ℕ) → Lb → Event
calls session xid m = event.Got session (message.Call xid (body.Lb m)) 0

abbrev at : (dir : ℕ) → List ℕ → Place
at dir name = record { dir = handle_bytes dir; name = name }

abbrev kept : SetAttr
kept = record { mode = None; uid = None; gid = None; size = None; atime = Keep; mtime = Keep }

abbrev makes : (session xid : ℕ) → List ℕ → Event
makes session xid name = asks session xid (nfs.Create (record { place = at 1 name; how = Guarded kept }))

abbrev removes : (session xid : ℕ) → List ℕ → Event
removes session xid name = asks session xid (nfs.Remove (at 1 name))

abbrev renames : (session xid : ℕ) → (name to : List ℕ) → Event
renames session xid name to = asks session xid (nfs.Rename (record { from = at 1 name; to = at 1 to }))

-- the session gives the file no bytes, by its temporary file 1
abbrev empties : (session file : ℕ) → List Event
empties session file = calls session 1 (lb.MkTmpFile (record { lbfs = 1; fd = 1; handle = handle_bytes file })) ∷ calls session 2 (lb.CommitTmp (record { lbfs = 1; fd = 1; handle = handle_bytes file; size = 0; base = None })) ∷ []

-- ---- what a step comes to, in short: to whom it says what under which number, what it tells, and how many entries it makes

pub data Said : Type 0 where
  refused : Status → Said
  done : Said
  other : Said

abbrev in_short : {A F : Type 0} → Answer A F → Said
in_short (Done x) = done
in_short (Failed s f) = refused s

abbrev of_body : Body → Said
of_body (body.Nfs (nfs.CreateAnswer a)) = in_short a
of_body (body.Nfs (nfs.RemoveAnswer a)) = in_short a
of_body (body.Nfs (nfs.RenameAnswer a)) = in_short a
of_body (body.Lb (lb.MkTmpFileAnswer a)) = in_short a
of_body (body.Lb (lb.CommitTmpAnswer a)) = in_short a
of_body b = other

abbrev of_message : (session : ℕ) → Message → ℕ × ℕ × Said
of_message s (message.Answer xid b) = (s, xid, of_body b)
of_message s m = (s, 0, other)

abbrev of_sent : Sent → ℕ × ℕ × Said
of_sent s = of_message s.session s.message

pub record Brief : Type 0 where
  pub said : List (ℕ × ℕ × Said)
  pub told : Told
  pub entries : ℕ

abbrev brief : ServerStep → Brief
brief r = record { said = map of_sent r.send; told = r.told; entries = r.entries }

abbrev steps : State → List Event → List Brief
steps s [] = []
steps s (e ∷ es) = brief (server_step s e).1 ∷ steps (server_step s e).0 es

abbrev answered : (session xid entries : ℕ) → Said → Brief
answered session xid entries a = record { said = (session, xid, a) ∷ []; told = told.Nothing; entries = entries }

abbrev waits : Brief
waits = record { said = []; told = told.Nothing; entries = 0 }

abbrev settled : (session xid entries : ℕ) → Said → Brief
settled session xid entries a = record { said = (session, xid, a) ∷ []; told = told.Settled session xid; entries = entries }

abbrev not_ready : Brief
not_ready = record { said = []; told = told.NotReady; entries = 0 }

-- an entry of session 1 that tells of no bytes
abbrev line : (id version : ℕ) → EntryKind → Entry
line id version k = record { file = id; version = version; kind = k; len = 0; sha1 = sha1 []; session = 1 }

abbrev file : (id : ℕ) → List ℕ → (version : ℕ) → List ℕ → Node
file id name version bytes = record { id = id; parent = 1; name = name; version = version; body = Content bytes }

-- ---- at once

created : steps tree (makes 1 5 (codes "c") ∷ makes 2 6 (codes "c") ∷ []) ≡ answered 1 5 1 done ∷ answered 2 6 0 (refused status.Exist) ∷ []
created = refl

created_state : (after tree (makes 1 5 (codes "c") ∷ [])) ≡ record tree { tree = record { nodes = root 2 ∷ file 2 (codes "a") 1 (codes "abc") ∷ file 3 (codes "b") 1 [] ∷ file 4 (codes "c") 1 [] ∷ []; next = 5; changes = 2 }; journal = line 4 1 kind.Make ∷ [] }
created_state = refl

-- ---- a REMOVE waits; meanwhile the session has no other change that waits, and others do what they like

removed : steps tree (removes 1 5 (codes "a") ∷ removes 1 6 (codes "b") ∷ makes 1 7 (codes "c") ∷ event.Settle 9 ∷ event.Settle 9 ∷ []) ≡ waits ∷ answered 1 6 0 (refused status.Jukebox) ∷ answered 1 7 1 done ∷ settled 1 5 1 done ∷ not_ready ∷ []
removed = refl

removed_state : (after tree (removes 1 5 (codes "a") ∷ event.Settle 9 ∷ [])) ≡ record tree { tree = record { nodes = root 2 ∷ file 3 (codes "b") 1 [] ∷ []; next = 4; changes = 2 }; journal = line 2 2 kind.Remove ∷ []; leasing = unleased 9 }
removed_state = refl

-- a COMMITTMP behind it finds its file gone, and so does a second REMOVE of the file
gone : steps (after tree (empties 2 2)) (removes 1 5 (codes "a") ∷ event.Settle 9 ∷ event.Settle 9 ∷ []) ≡ waits ∷ settled 2 2 1 done ∷ settled 1 5 1 done ∷ []
gone = refl

gone_before : steps (after tree (removes 1 5 (codes "a") ∷ empties 2 2)) (event.Settle 9 ∷ event.Settle 9 ∷ event.Settle 9 ∷ []) ≡ settled 1 5 1 done ∷ settled 2 2 0 (refused status.Stale) ∷ not_ready ∷ []
gone_before = refl

removed_twice : steps (after tree (removes 1 5 (codes "a") ∷ removes 2 6 (codes "a") ∷ [])) (event.Settle 9 ∷ event.Settle 9 ∷ []) ≡ settled 1 5 1 done ∷ settled 2 6 0 (refused status.Stale) ∷ []
removed_twice = refl

-- its name stands for another node by then
other_name : steps (after tree (removes 1 5 (codes "a") ∷ [])) (renames 2 6 (codes "a") (codes "c") ∷ event.Settle 9 ∷ []) ≡ answered 2 6 1 done ∷ settled 1 5 0 (refused status.Jukebox) ∷ []
other_name = refl

-- ---- a RENAME over a file waits, and makes two entries

renamed_over : steps tree (renames 1 5 (codes "a") (codes "b") ∷ event.Settle 9 ∷ []) ≡ waits ∷ settled 1 5 2 done ∷ []
renamed_over = refl

renamed_state : (after tree (renames 1 5 (codes "a") (codes "b") ∷ event.Settle 9 ∷ [])) ≡ record tree { tree = record { nodes = root 3 ∷ file 2 (codes "b") 1 (codes "abc") ∷ []; next = 4; changes = 3 }; journal = line 3 2 kind.Remove ∷ line 2 0 kind.Name ∷ []; leasing = unleased 9 }
renamed_state = refl

-- ---- a session that hangs takes its REMOVE along

hung : steps tree (removes 1 5 (codes "a") ∷ event.Hang 1 ∷ event.Settle 9 ∷ []) ≡ waits ∷ waits ∷ not_ready ∷ []
hung = refl

-- ---- what waits leaves others no room: a RENAME over a file holds two entries, of three that may still be made

abbrev nearly : State
nearly = record tree { tree = record tree.tree { changes = 4294967292 } }

held : steps nearly (renames 1 5 (codes "a") (codes "b") ∷ makes 2 6 (codes "c") ∷ makes 2 7 (codes "d") ∷ removes 2 8 (codes "b") ∷ []) ≡ waits ∷ answered 2 6 1 done ∷ answered 2 7 0 (refused status.NoSpc) ∷ answered 2 8 0 (refused status.NoSpc) ∷ []
held = refl

-- ---- a store that fails: IO is told, nothing is made, and a change that waited has left the queue

abbrev fails : State → Event → Brief
fails s e = brief (server_step_under s true e).1

failed : fails tree (makes 1 5 (codes "c")) ≡ answered 1 5 0 (refused status.Io)
failed = refl

failed_state : (server_step_under tree true (makes 1 5 (codes "c"))).0 ≡ tree
failed_state = refl

-- a call that makes nothing asks no store
not_asked : fails tree (makes 1 5 (codes "a")) ≡ answered 1 5 0 (refused status.Exist)
not_asked = refl

failed_later : fails (after tree (renames 1 5 (codes "a") (codes "b") ∷ [])) (event.Settle 9) ≡ settled 1 5 0 (refused status.Io)
failed_later = refl

failed_later_state : (server_step_under (after tree (renames 1 5 (codes "a") (codes "b") ∷ [])) true (event.Settle 9)).0 ≡ record tree { leasing = unleased 9 }
failed_later_state = refl
