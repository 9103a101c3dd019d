-- Worked sessions with the index of chunks, and GETLEASE.
use Rattle.std.specs.Prelude.{None, ◌≡◌, ℕ, List, [], ◌∷◌, refl, codes, length}
use Rattle.sha1.specs.Sha1.{sha1, digest_bytes, hash_after, compress, rounds, schedule, first_words}
use Rattle.chunk_cut.specs.Search.{next_end, closed_ends}
use Rattle.rabin_window.specs.Fingerprint.{fp}
use Rattle.chunk_index.specs.Index.{Pairs, key_of}
use Rattle.xdr_codec.specs.Handle.{handle_bytes}
use Rattle.xdr_codec.specs.declared.answer.Answer.{Answer}
use Rattle.xdr_codec.specs.declared.answer.Answer.TheVariants.{Done, Failed}
use Rattle.xdr_codec.specs.declared.status.Status.TheVariants as status
use Rattle.hash_calls.specs.declared.call.Leased.{Leased}
use Rattle.hash_calls.specs.declared.message.Lb.{Lb}
use Rattle.hash_calls.specs.declared.message.Lb.TheVariants as lb
use Rattle.wire.specs.declared.message.Body.TheVariants as body
use Rattle.wire.specs.declared.message.Message.TheVariants as message
use Rattle.server_core.specs.declared.event.Event.{Event}
use Rattle.server_core.specs.declared.event.Event.TheVariants as event
use Rattle.server_core.specs.declared.event.ServerStep.{ServerStep}
use Rattle.server_rules.specs.declared.told.Told.TheVariants as told
use Rattle.chunk_calls.specs.Answers.{attr_of}
use Rattle.server_core.specs.Steps.{sends, to}
use Rattle.tree_nodes.specs.declared.node.Body.TheVariants.{File as Content}
use Rattle.server_core.specs.State.{State, empty}
use Rattle.server_core.specs.Step.{server_step, opens_with, forges, clears_index}

abbrev after : State → List Event → State
after s [] = s
after s (e ∷ es) = after (server_step s e).0 es

abbrev steps : State → List Event → List ServerStep
steps s [] = []
steps s (e ∷ es) = (server_step s e).1 ∷ steps (server_step s e).0 es

-- file 2 is "abc", session 1 stands, and has a temporary file 1
abbrev calls : (xid : ℕ) → Lb → Event
calls xid b = event.Got 1 (message.Call xid (body.Lb b)) 0

abbrev answers : (xid : ℕ) → Lb → ServerStep
answers xid b = to 1 (message.Answer xid (body.Lb b))

abbrev tree : State
tree = after (opens_with empty 1 (codes "a") (Content (codes "abc"))) (event.Connect ∷ calls 1 (lb.MkTmpFile (record { lbfs = 1; fd = 1; handle = handle_bytes 2 })) ∷ [])

abbrev hashes : (xid : ℕ) → Event
hashes xid = calls xid (lb.GetHash (record { lbfs = 1; handle = handle_bytes 2; offset = 0; count = 9 }))

-- bytes that are named for place 0 of the temporary file
abbrev names : (xid : ℕ) → List ℕ → Event
names xid bytes = calls xid (lb.CondWrite (record { lbfs = 1; fd = 1; offset = 0; count = length bytes; digest = sha1 bytes }))

abbrev named : (xid : ℕ) → Answer Unit Unit → ServerStep
named xid a = answers xid (lb.CondWriteAnswer a)

abbrev commits : (xid : ℕ) → Event
commits xid = calls xid (lb.CommitTmp (record { lbfs = 1; fd = 1; handle = handle_bytes 2; size = 3; base = None }))

abbrev settled : (xid version : ℕ) → ServerStep
settled xid version = record (answers xid (lb.CommitTmpAnswer (Done (record { version = version; term = 0 })))) { told = told.Settled 1 xid; entries = 1 }

-- ---- what is known by a digest

-- the server knows no bytes that it hasn't told; what it told by a GETHASH it takes, as a piece, and the content comes to it
taken : steps tree (names 2 (codes "abc") ∷ []) ≡ (named 2 (Failed status.HashNotFound tt) ∷ [])
unfolding key_of
taken = refl

told_and_taken : steps (after tree (hashes 2 ∷ [])) (names 3 (codes "abc") ∷ names 4 (codes "abc") ∷ commits 5 ∷ event.Settle 7 ∷ []) ≡ (named 3 (Done tt) ∷ named 4 (Failed status.Inval tt) ∷ sends [] ∷ settled 5 2 ∷ [])
unfolding closed_ends next_end fp key_of sha1 digest_bytes hash_after compress rounds schedule first_words
told_and_taken = refl

-- so it does with the chunks of a content that was closed
abbrev closed : State
closed = after tree (calls 2 (lb.TmpWrite (record { lbfs = 1; fd = 1; offset = 0; bytes = codes "xyz" })) ∷ commits 3 ∷ event.Settle 7 ∷ calls 4 (lb.MkTmpFile (record { lbfs = 1; fd = 1; handle = handle_bytes 2 })) ∷ [])

closed_and_taken : steps closed (names 5 (codes "xyz") ∷ []) ≡ (named 5 (Done tt) ∷ [])
unfolding closed_ends next_end fp key_of sha1 digest_bytes hash_after compress rounds schedule first_words
closed_and_taken = refl

-- ---- an index that lies

-- a place under the key of a digest
abbrev forged : List ℕ → (file offset count : ℕ) → State
forged bytes file offset count = forges tree (key_of (sha1 bytes)) (record { file = file; offset = offset; count = count })

-- other bytes; another count; bytes past the end; no such file; and the right ones
lies : (steps (forged (codes "abd") 2 0 3) (names 2 (codes "abd") ∷ []) ∷ steps (forged (codes "abc") 2 0 2) (names 2 (codes "abc") ∷ []) ∷ steps (forged (codes "c") 2 3 1) (names 2 (codes "c") ∷ []) ∷ steps (forged (codes "c") 3 0 1) (names 2 (codes "c") ∷ []) ∷ steps (forged (codes "bc") 2 1 2) (names 2 (codes "bc") ∷ []) ∷ [])
    ≡ ((named 2 (Failed status.HashNotFound tt) ∷ []) ∷ (named 2 (Failed status.HashNotFound tt) ∷ []) ∷ (named 2 (Failed status.HashNotFound tt) ∷ []) ∷ (named 2 (Failed status.HashNotFound tt) ∷ []) ∷ (named 2 (Done tt) ∷ []) ∷ [])
unfolding key_of sha1 digest_bytes hash_after compress rounds schedule first_words
lies = refl

-- a look-up brings its pair to the front, also where it comes to nothing
abbrev two : State
two = forges (forged (codes "c") 3 0 1) 5 (record { file = 2; offset = 0; count = 1 })

abbrev first_key : Pairs → ℕ
first_key [] = 0
first_key (e ∷ es) = e.0

looked_up : (first_key two.index.pairs ∷ first_key (after two (names 2 (codes "c") ∷ [])).index.pairs ∷ []) ≡ (5 ∷ key_of (sha1 (codes "c")) ∷ [])
unfolding key_of sha1 digest_bytes hash_after compress rounds schedule first_words
looked_up = refl

-- a fault that is found before is told, and nothing looked up
faults : steps two (calls 2 (lb.CondWrite (record { lbfs = 1; fd = 2; offset = 0; count = 1; digest = sha1 (codes "c") })) ∷ calls 3 (lb.CondWrite (record { lbfs = 1; fd = 1; offset = 0; count = 0; digest = sha1 [] })) ∷ []) ≡ (named 2 (Failed status.BadFd tt) ∷ named 3 (Failed status.Inval tt) ∷ [])
faults = refl

faults_unchanged : after two (calls 2 (lb.CondWrite (record { lbfs = 1; fd = 2; offset = 0; count = 1; digest = sha1 (codes "c") })) ∷ []) ≡ two
faults_unchanged = refl

-- all pairs are dropped
dropped : steps (clears_index (forged (codes "bc") 2 1 2)) (names 2 (codes "bc") ∷ []) ≡ (named 2 (Failed status.HashNotFound tt) ∷ [])
unfolding key_of
dropped = refl

-- ---- GETLEASE

abbrev leases : (xid : ℕ) → List ℕ → Event
leases xid handle = calls xid (lb.GetLease (record { lbfs = 1; handle = handle }))

abbrev leased : (xid : ℕ) → Answer Leased Unit → ServerStep
leased xid a = answers xid (lb.GetLeaseAnswer a)

no_lease : steps tree (leases 2 (handle_bytes 2) ∷ leases 3 (handle_bytes 1) ∷ leases 4 (handle_bytes 9) ∷ leases 5 (codes "h") ∷ [])
    ≡ (leased 2 (Done (record { attr = attr_of (record { id = 2; version = 1; content = codes "abc" }); version = 1; term = 0 })) ∷ leased 3 (Failed status.IsDir tt) ∷ leased 4 (Failed status.Stale tt) ∷ leased 5 (Failed status.BadHandle tt) ∷ [])
no_lease = refl
