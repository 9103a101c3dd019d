-- Worked sessions under leases: what is noted when, what is opened at once, and what a RECALL takes back.
use Rattle.std.specs.Prelude.{◌≡◌, ℕ, List, [], ◌∷◌, refl, codes, Option, Some, None, Ok, true, false}
use Rattle.sha1.specs.Sha1.{sha1}
use Rattle.chunk_cut.specs.Search.{next_end, closed_ends}
use Rattle.command_text.specs.declared.command.Command.{Command}
use Rattle.command_text.specs.declared.command.Command.TheVariants as command
use Rattle.command_text.specs.declared.path.PathCommand.TheVariants as path
use Rattle.xdr_codec.specs.Handle.{handle_bytes}
use Rattle.xdr_codec.specs.declared.answer.Answer.TheVariants.{Done, Failed}
use Rattle.xdr_codec.specs.declared.attr.Attr.{Attr}
use Rattle.xdr_codec.specs.declared.attr.Kind.TheVariants as kind
use Rattle.xdr_codec.specs.declared.status.Status.TheVariants as status
use Rattle.hash_calls.specs.declared.call.Pair.{Pair}
use Rattle.hash_calls.specs.declared.message.Back.{Back}
use Rattle.hash_calls.specs.declared.message.Back.TheVariants as back
use Rattle.hash_calls.specs.declared.message.Lb.TheVariants as lb
use Rattle.hash_calls.specs.declared.message.LbProc.TheVariants as lb_proc
use Rattle.nfs3_calls.specs.declared.message.Nfs.TheVariants as nfs
use Rattle.wire.specs.declared.message.Body.TheVariants as body
use Rattle.wire.specs.declared.message.Message.{Message}
use Rattle.wire.specs.declared.message.Message.TheVariants as message
use Rattle.path_calls.specs.Walk.{place}
use Rattle.client_cache.specs.Cache.{Entries, fronted}
use Rattle.client_cache.specs.declared.kept.Content.{Content}
use Rattle.client_cache.specs.declared.kept.Note.{Note}
use Rattle.client_state.specs.Counting.{no_counts, sends, nothing_done, sends_one, ends}
use Rattle.client_state.specs.Ending.{joined, cut}
use Rattle.client_state.specs.State.{State, start_with, evicted, lb_pending}
use Rattle.client_state.specs.declared.step.ClientStep.{ClientStep}
use Rattle.client_state.specs.declared.step.Outcome.TheVariants as outcome
use Rattle.file_close.specs.Closing.{make_call, commit_call}
use Rattle.file_open.specs.Opening.{lease_call, hash_call}
use Rattle.transfer_rules.specs.Limits.{calls_most}
use Rattle.open_close.specs.Step.{command_step, got_step}

-- ---- a run, each event at a reading of the client's clock; clocks may drift apart by 100 ms

data Event : Type 0 where
  Does : (now : ℕ) → Command → Event
  Gets : (now : ℕ) → Message → Event
  Evicts : (file : ℕ) → Event
  Cut : Event

abbrev step : State → Event → State × ClientStep
step s (Does now c) = command_step s c now
step s (Gets now m) = got_step s (Ok m) now
step s (Evicts file) = (evicted s file, nothing_done)
step s Cut = cut s

abbrev after : State → List Event → State
after s [] = s
after s (e ∷ es) = after (step s e).0 es

abbrev steps : State → List Event → List ClientStep
steps s [] = []
steps s (e ∷ es) = (step s e).1 ∷ steps (step s e).0 es

abbrev begins : State
begins = joined (start_with 100 1)

-- ---- answers by hand; files have nothing in them

abbrev attr : Attr
attr = record { kind = kind.File; mode = 420; nlink = 1; uid = 0; gid = 0; size = 0; used = 0; rdev_major = 0; rdev_minor = 0; fsid = 0; fileid = 2; atime = record { seconds = 0; nanoseconds = 0 }; mtime = record { seconds = 0; nanoseconds = 1 }; ctime = record { seconds = 0; nanoseconds = 0 } }

abbrev piece_is : (now xid version size : ℕ) → List Pair → (term : ℕ) → Event
piece_is now xid version size pairs term = Gets now (message.Answer xid (body.Lb (lb.GetHashAnswer (Done (record { version = version; term = term; size = size; pairs = pairs; eof = true })))))

abbrev hashes_are : (now xid version term : ℕ) → Event
hashes_are now xid version term = piece_is now xid version 0 [] term

-- the first of two pieces
abbrev first_is : (now xid version term : ℕ) → Event
first_is now xid version term = Gets now (message.Answer xid (body.Lb (lb.GetHashAnswer (Done (record { version = version; term = term; size = 2048; pairs = record { digest = sha1 []; size = 2048 } ∷ []; eof = false })))))

abbrev leased_is : (now xid version term : ℕ) → Event
leased_is now xid version term = Gets now (message.Answer xid (body.Lb (lb.GetLeaseAnswer (Done (record { attr = attr; version = version; term = term })))))

abbrev made : (now xid : ℕ) → Event
made now xid = Gets now (message.Answer xid (body.Lb (lb.MkTmpFileAnswer (Done tt))))

abbrev committed : (now xid version term : ℕ) → Event
committed now xid version term = Gets now (message.Answer xid (body.Lb (lb.CommitTmpAnswer (Done (record { version = version; term = term })))))

abbrev calls_back : (now xid : ℕ) → Back → Event
calls_back now xid b = Gets now (message.Call xid (body.Back b))

abbrev recalls : (now xid file : ℕ) → Event
recalls now xid file = calls_back now xid (back.Recall (handle_bytes file))

-- ---- what is kept then

abbrev content : (version : ℕ) → Option Content
content version = Some (record { version = version; bytes = [] })

abbrev note : (version until : ℕ) → Option Note
note version until = Some (record { version = version; until = until })

abbrev keeps : Option Content → Option Note → Entries
keeps c n = (2, record { content = c; note = n }) ∷ []

abbrev opens_as : (rests_on : ℕ) → ClientStep
opens_as rests_on = ends (outcome.Opened 2 0 (sha1 [])) rests_on 0

abbrev asks : (xid : ℕ) → ClientStep
asks xid = sends_one (lease_call 1 xid 2) 0

abbrev fetches : (xid : ℕ) → ClientStep
fetches xid = sends_one (hash_call 1 xid 2 0) 0

abbrev gives_up : (xid : ℕ) → ClientStep
gives_up xid = sends_one (message.Answer xid (body.Back back.RecallAnswer)) 0

-- ---- until when

-- a file was fetched under a term of a minute, and is open no more
abbrev fetched : List Event
fetched = Does 1000 (command.Open 2) ∷ hashes_are 1500 1 1 60000 ∷ Does 1500 (command.Abandon 2) ∷ []

abbrev noted : State
noted = after begins fetched

-- the lease counts from the reading at which its call went out, not from that of its answer, and less the drift
from_sending : noted.cache ≡ keeps (content 1) (note 1 60900)
unfolding calls_most fronted
from_sending = refl

-- so long nobody is asked, and what opens at once rests on no call and counts nothing; then the version is asked for
at_once : steps noted (Does 60899 (command.Open 2) ∷ Does 60899 (command.Open 2) ∷ Does 60899 (command.Abandon 2) ∷ Does 60900 (command.Open 2) ∷ Does 60901 (command.Open 2) ∷ []) ≡ (opens_as 0 ∷ ends outcome.AlreadyOpen 0 0 ∷ ends outcome.Done 0 0 ∷ asks 2 ∷ ends outcome.Busy 0 0 ∷ [])
unfolding calls_most fronted
at_once = refl

-- it changes nothing of what is kept
changes_nothing : (after noted (Does 60899 (command.Open 2) ∷ [])).cache ≡ noted.cache
unfolding calls_most fronted
changes_nothing = refl

-- no connection is needed
unlinked : steps noted (Cut ∷ Does 60899 (command.Open 2) ∷ Does 60899 (command.Abandon 2) ∷ Does 60900 (command.Open 2) ∷ []) ≡ (nothing_done ∷ opens_as 0 ∷ ends outcome.Done 0 0 ∷ ends outcome.NoLink 0 0 ∷ [])
unfolding calls_most fronted
unlinked = refl

-- a term that isn't above the drift sets no note, and what is noted stays
least_terms : ((after begins (Does 1000 (command.Open 2) ∷ hashes_are 1500 1 1 101 ∷ [])).cache ∷ (after begins (Does 1000 (command.Open 2) ∷ hashes_are 1500 1 1 100 ∷ [])).cache ∷ (after noted (Does 60900 (command.Open 2) ∷ leased_is 60901 2 1 100 ∷ [])).cache ∷ (after noted (Does 60900 (command.Open 2) ∷ leased_is 60901 2 1 0 ∷ [])).cache ∷ []) ≡ (keeps (content 1) (note 1 1001) ∷ keeps (content 1) None ∷ keeps (content 1) (note 1 60900) ∷ keeps (content 1) (note 1 60900) ∷ [])
unfolding calls_most fronted
least_terms = refl

-- ---- whose answers

-- a GETLEASE's is noted, of another version than what is kept too: the file is fetched then
leased : (after noted (Does 60900 (command.Open 2) ∷ leased_is 61000 2 1 60000 ∷ [])).cache ≡ keeps (content 1) (note 1 120800)
unfolding calls_most fronted
leased = refl

other_version : steps noted (Does 60900 (command.Open 2) ∷ leased_is 61000 2 2 60000 ∷ hashes_are 61100 3 2 0 ∷ Does 61200 (command.Abandon 2) ∷ Does 61200 (command.Open 2) ∷ []) ≡ (asks 2 ∷ fetches 3 ∷ opens_as 3 ∷ ends outcome.Done 0 0 ∷ opens_as 0 ∷ [])
unfolding calls_most fronted
other_version = refl

-- each piece of a GETHASH's is noted, by the reading at which that piece was asked for
pieces : ((after begins (Does 1000 (command.Open 2) ∷ first_is 1500 1 1 60000 ∷ [])).cache ∷ (after begins (Does 1000 (command.Open 2) ∷ first_is 1500 1 1 60000 ∷ piece_is 1600 2 1 2048 [] 60000 ∷ [])).cache ∷ []) ≡ (keeps None (note 1 60900) ∷ keeps None (note 1 61400) ∷ [])
unfolding calls_most fronted
pieces = refl

-- what a command asks for behind its look-ups goes out at their last answer
behind_look_ups : (after begins (Does 1000 (command.Named (path.Find (record { dirs = []; name = codes "f" }))) ∷ Gets 1200 (message.Answer 1 (body.Nfs (nfs.LookupAnswer (Done (record { handle = handle_bytes 2; attr = Some attr; dir = None }))))) ∷ hashes_are 1300 2 1 60000 ∷ [])).cache ≡ keeps (content 1) (note 1 61100)
unfolding calls_most fronted
behind_look_ups = refl

-- what a COMMITTMP sends away comes back with its answer; the file is open at once again
abbrev closes : List Event
closes = Does 2000 (command.Open 2) ∷ Does 2000 (command.Close 2) ∷ made 2100 2 ∷ []

commits : steps noted closes ≡ (opens_as 0 ∷ sends_one (make_call 1 2 1 2) 0 ∷ sends (commit_call 1 3 1 2 0 ∷ []) no_counts ∷ [])
unfolding calls_most fronted closed_ends next_end
commits = refl

commit_sent : (after noted closes).cache ≡ keeps (content 1) None
unfolding calls_most fronted closed_ends next_end
commit_sent = refl

commit_done : (after (after noted closes) (committed 2200 3 2 60000 ∷ [])).cache ≡ keeps (content 2) (note 2 62000)
unfolding calls_most fronted closed_ends next_end
commit_done = refl

commit_refused : (after (after noted closes) (Gets 2200 (message.Answer 3 (body.Lb (lb.CommitTmpAnswer (Failed status.Stale tt)))) ∷ [])).cache ≡ keeps (content 1) None
unfolding calls_most fronted closed_ends next_end
commit_refused = refl

-- a late answer, to a call of an ended operation, is noted nowhere
late : (after (record noted { forgotten = lb_pending lb_proc.GetLease 9 }) (leased_is 61000 9 1 60000 ∷ [])).cache ≡ noted.cache
unfolding calls_most fronted
late = refl

-- ---- a RECALL

-- it is answered, and what was noted goes; the version is asked for then
recalled : steps noted (recalls 2000 7 2 ∷ Does 2000 (command.Open 2) ∷ []) ≡ (gives_up 7 ∷ asks 2 ∷ [])
unfolding calls_most fronted
recalled = refl

-- in the middle of a fetch too, which goes on; what a later answer grants is noted anew, and nothing else
in_a_fetch : (steps begins (Does 1000 (command.Open 2) ∷ first_is 1500 1 1 60000 ∷ recalls 1550 7 2 ∷ []) ≡ (fetches 1 ∷ sends_one (hash_call 1 2 2 2048) 0 ∷ gives_up 7 ∷ [])) × ((after begins (Does 1000 (command.Open 2) ∷ first_is 1500 1 1 60000 ∷ recalls 1550 7 2 ∷ piece_is 1600 2 1 2048 [] 0 ∷ [])).cache ≡ keeps None None)
unfolding calls_most fronted
in_a_fetch = (refl, refl)

-- before the answer comes there is nothing to take back
before_the_answer : steps begins (Does 1000 (command.Open 2) ∷ recalls 1200 7 2 ∷ hashes_are 1500 1 1 0 ∷ Does 1500 (command.Abandon 2) ∷ Does 1500 (command.Open 2) ∷ []) ≡ (fetches 1 ∷ gives_up 7 ∷ opens_as 1 ∷ ends outcome.Done 0 0 ∷ asks 2 ∷ [])
unfolding calls_most fronted
before_the_answer = refl

-- another file's, and a handle that is none of the server's, change nothing; a NULL is answered
others : (steps noted (recalls 2000 7 3 ∷ calls_back 2000 8 (back.Recall (codes "x")) ∷ calls_back 2000 9 back.Null ∷ Does 2000 (command.Open 2) ∷ []) ≡ (gives_up 7 ∷ gives_up 8 ∷ sends_one (message.Answer 9 (body.Back back.NullAnswer)) 0 ∷ opens_as 0 ∷ []))
unfolding calls_most fronted
others = refl

-- ---- what is opened at once

-- a content that was dropped isn't; its note stays, so that a fetch of that version is fresh, whatever term it is told
dropped : steps noted (Evicts 2 ∷ Does 2000 (command.Open 2) ∷ hashes_are 2100 2 1 0 ∷ Does 2200 (command.Abandon 2) ∷ Does 2200 (command.Open 2) ∷ []) ≡ (nothing_done ∷ fetches 2 ∷ opens_as 2 ∷ ends outcome.Done 0 0 ∷ opens_as 0 ∷ [])
unfolding calls_most fronted
dropped = refl

-- behind a path's look-ups, too
path_at_once : steps noted (Does 2000 (command.Named (path.Find (record { dirs = []; name = codes "f" }))) ∷ Gets 2100 (message.Answer 2 (body.Nfs (nfs.LookupAnswer (Done (record { handle = handle_bytes 2; attr = Some attr; dir = None }))))) ∷ []) ≡ (sends_one (message.Call 2 (body.Nfs (nfs.Lookup (place 1 (codes "f"))))) 0 ∷ record (opens_as 0) { found = Some 2 } ∷ [])
unfolding calls_most fronted
path_at_once = refl

-- a rewrite under a note ends at once as well, with nothing in the file, in the version of the note
rewrite_at_once : (steps noted (Does 2000 (command.Rewrite 2) ∷ []) ≡ (ends outcome.Done 0 0 ∷ [])) × ((after noted (Does 2000 (command.Rewrite 2) ∷ [])).opened ≡ (2, record { version = 1; bytes = [] }) ∷ []) × (steps noted (Does 60900 (command.Rewrite 2) ∷ []) ≡ (asks 2 ∷ []))
unfolding calls_most fronted
rewrite_at_once = (refl, refl, refl)

-- what is no file's, in the version 0, is never opened, whatever was noted
no_files : steps (record noted { cache = keeps (content 0) (note 0 60900) }) (Does 2000 (command.Open 2) ∷ []) ≡ (asks 2 ∷ [])
unfolding calls_most fronted
no_files = refl
