-- Worked steps of wrong servers, each of which a clause on pending changes refuses; how a file goes; and which file a call asks to change.
use Rattle.std.specs.Prelude.{◌≡◌, ◌⊎◌, ℕ, ◌<◌, ◌≤◌, zero, suc, Contains, slice_get, List, [], ◌∷◌, Option, Some, None, true, false, codes, map, refl}
use Rattle.std.proofs.Common.{ap, sym, ◌∙◌, inl, inr, arith, get_or}
use Rattle.xdr_codec.specs.Handle.{handle_bytes}
use Rattle.hash_calls.specs.declared.message.Lb.TheVariants as lb
use Rattle.nfs3_calls.specs.declared.message.Nfs.TheVariants as nfs
use Rattle.wire.specs.declared.fault.WireFault.TheVariants as fault
use Rattle.wire.specs.declared.message.Body.TheVariants as body
use Rattle.lease_rules.specs.Changes.{meets}
use Rattle.lease_rules.specs.declared.lease.Lease.{Lease}
use Rattle.tree_nodes.specs.declared.node.Body.TheVariants.{File}
use Rattle.xdr_codec.specs.declared.handle.TheConstants.{ROOT}
use Rattle.server_core.specs.declared.change.Wanted.TheVariants as wanted
use Rattle.server_core.specs.declared.event.Sent.{Sent}
use Rattle.server_core.specs.declared.journal.Entry.{Entry}
use Rattle.server_core.specs.Closing.{ready_by}
use Rattle.tree_calls.specs.declared.asked.Asked.{Asked}
use Rattle.tree_calls.specs.declared.asked.Asked.TheVariants as tree_call
use Rattle.tree_reading.specs.declared.entry.EntryKind.TheVariants as entry_kind
use Rattle.server_core.specs.State as server
use Rattle.server_core.specs.State.{State, FileChange, change_of}
use Rattle.server_core.specs.Step.{opens_with}
use Rattle.trace_ends.specs.Core.{Event, Event.Serves, Event.Settles, Event.Hangs}
use Rattle.trace_replay.specs.Book.{Book}
use Rattle.trace_replay.specs.Trail.{Moment, step_of}
use Rattle.trace_replay.specs.Faithful.{TakesReady, IsRemoved}
use Rattle.trace_replay.specs.PendingChanges.{Move, KeepsTime, GrantsTo, IsGranted, IsAskedFor, LeasesCome, GrantsNone, GivesUp, AsksFor, AsksForAll, EndsSession, GoesOn, file_asked, settlings}

-- ---- states

-- files 2 and 3, under the names a and b
abbrev two_files : State
two_files = opens_with (opens_with server.empty ROOT (codes "a") (File (codes "abc"))) ROOT (codes "b") (File [])

abbrev lease : (session file ends : ℕ) → Option ℕ → Lease
lease session file ends recall = record { session = session; file = file; ends = ends; recall = recall }

-- a close of a file
abbrev close : (session file : ℕ) → FileChange
close session file = change_of session 5 file (wanted.Content [])

-- sessions 1 to 4 stand, these changes are pending, and these leases stand
abbrev state : List FileChange → List Lease → State
state waiting leases = record two_files { waiting = waiting; sessions = 1 ∷ 2 ∷ 3 ∷ 4 ∷ []; sessions_made = 4; leasing = record two_files.leasing { term = 1000; leases = leases } }

abbrev served : (before after : State) → List Sent → Move
served before after sent = record { event = Serves 4 0 []; before = before; after = after; sent = sent }

no : {A B : Type 0} (x : A) → ◌≡◌ {A = Option A} None (Some x) → B
no x e = absurd cc

-- ---- wrong servers

-- a lease is granted to session 3 on a file while a change of it is pending
granted_while_pending : GrantsNone (served (state (close 2 2 ∷ []) []) (state (close 2 2 ∷ []) (lease 3 2 1000 None ∷ [])) []) → ⊥
granted_while_pending h = let w = h 0 0 (close 2 2) (lease 3 2 1000 None) refl refl refl in no w.lease w.there

-- one that stood is made to last longer
lengthened : GrantsNone (served (state (close 2 2 ∷ []) (lease 3 2 1000 None ∷ [])) (state (close 2 2 ∷ []) (lease 3 2 2000 None ∷ [])) []) → ⊥
lengthened h = let w = h 0 0 (close 2 2) (lease 3 2 2000 None) refl refl refl in by w.place w.lease w.there w.ends
  where
    by : (i : ℕ) (k : Lease) → slice_get (lease 3 2 1000 None ∷ []) i ≡ Some k → k.ends ≡ 2000 → ⊥
    by zero k e ends = let same = some_ends (lease 3 2 1000 None) k e in absurd (omega (arith, same, ends))
      where
        some_ends : (a b : Lease) → Some a ≡ Some b → a.ends ≡ b.ends
        some_ends a b e = cc
    by (suc i) k e ends = no k e

-- the RECALL that asked for it is forgotten
forgotten : GrantsNone (served (state (close 2 2 ∷ []) (lease 3 2 1000 (Some 1) ∷ [])) (state (close 2 2 ∷ []) (lease 3 2 1000 None ∷ [])) []) → ⊥
forgotten h = let w = h 0 0 (close 2 2) (lease 3 2 1000 None) refl refl refl in by w.place w.lease w.there w.recall
  where
    same : (a b : Lease) → Some a ≡ Some b → a.recall ≡ b.recall
    same a b e = cc

    by : (i : ℕ) (k : Lease) → slice_get (lease 3 2 1000 (Some 1) ∷ []) i ≡ Some k → (k.recall ≡ None) ⊎ (k.recall ≡ None) → ⊥
    by zero k e (inl none) = let r = same (lease 3 2 1000 (Some 1)) k e ∙ none in no 1 (sym r)
    by zero k e (inr none) = let r = same (lease 3 2 1000 (Some 1)) k e ∙ none in no 1 (sym r)
    by (suc i) k e r = no k e

-- a change that comes is put in front of one that is pending
in_front : GoesOn [] (Serves 4 0 []) (served (state (close 2 2 ∷ []) []) (state (close 4 2 ∷ close 2 2 ∷ []) []) []) → ⊥
in_front (inl same) = absurd (cons_nil (tail same))
  where
    tail : {x y : FileChange} {xs ys : List FileChange} → x ∷ xs ≡ y ∷ ys → xs ≡ ys
    tail e = cc

    cons_nil : {x : FileChange} {xs : List FileChange} → x ∷ xs ≡ [] → ⊥
    cons_nil e = absurd cc
in_front (inr (inr (closed, left))) = absurd (cons_nil (tail left))
  where
    tail : {x y : FileChange} {xs ys : List FileChange} → x ∷ xs ≡ y ∷ ys → xs ≡ ys
    tail e = cc

    cons_nil : {x : FileChange} {xs : List FileChange} → x ∷ xs ≡ [] → ⊥
    cons_nil e = absurd cc
in_front (inr (inl (c, comes))) = let e = ap session_of (head comes.behind) in absurd (omega (arith, e))
  where
    session_of : FileChange → ℕ
    session_of c = c.session

    head : {x y : FileChange} {xs ys : List FileChange} → x ∷ xs ≡ y ∷ ys → x ≡ y
    head e = cc

-- a change is lost as another session's connection is
lost_with_another : GoesOn [] (Hangs 3) (record { event = Hangs 3; before = state (close 2 2 ∷ []) []; after = state [] []; sent = [] }) → ⊥
lost_with_another e = absurd cc

-- or as another session is closed
lost_with_a_closed : GoesOn [] (Serves 4 0 []) (served (state (close 2 2 ∷ []) []) (state [] []) []) → ⊥
lost_with_a_closed (inl same) = absurd cc
lost_with_a_closed (inr (inl (c, comes))) = let e = comes.behind in absurd (nil_cons e)
  where
    nil_cons : {x : FileChange} {xs : List FileChange} → [] ≡ x ∷ xs → ⊥
    nil_cons e = absurd cc
lost_with_a_closed (inr (inr (closed, left))) = absurd cc

-- or by an answer to a call that doesn't wait
lost_by_an_answer : EndsSession (fault.UnknownXid 5) → ⊥
lost_by_an_answer h = h

-- an answer to a RECALL gives nothing up, or another's lease too
gives_nothing_up : GivesUp (served (state [] (lease 4 2 1000 (Some 1) ∷ [])) (state [] (lease 4 2 1000 (Some 1) ∷ [])) []) 4 1 → ⊥
gives_nothing_up h = h.gone 0 (lease 4 2 1000 (Some 1)) refl refl refl

gives_another_up : GivesUp (served (state [] (lease 4 2 1000 (Some 2) ∷ [])) (state [] []) []) 4 1 → ⊥
gives_another_up h = let w = h.others 0 (lease 4 2 1000 (Some 2)) refl (λ s r. other r) in no (lease 4 2 1000 (Some 2)) w.1
  where
    other : ◌≡◌ {A = Option ℕ} (Some 2) (Some 1) → ⊥
    other e = absurd cc

-- a lease lasts longer than the term, or is granted to another than asks
granted_too_long : LeasesCome (served (state [] []) (state [] (lease 4 2 2000 None ∷ [])) []) → ⊥
granted_too_long h = by (h 0 (lease 4 2 2000 None) refl)
  where
    v : Move
    v = served (state [] []) (state [] (lease 4 2 2000 None ∷ [])) []

    by : ((j : ℕ) × (slice_get [] j ≡ Some (lease 4 2 2000 None))) ⊎ (IsAskedFor v (lease 4 2 2000 None) ⊎ IsGranted v (lease 4 2 2000 None)) → ⊥
    by (inl old) = no (lease 4 2 2000 None) old.1
    by (inr (inl asked)) = no asked.xid asked.recall
    by (inr (inr granted)) = let ends = granted.ends in absurd (omega (arith, ends))

granted_to_another : GrantsTo (served (state [] []) (state [] (lease 3 2 1000 None ∷ [])) []) 3 2 → ⊥
granted_to_another (inl h) = let same = ap session_in h.4 in absurd (omega (arith, same))
  where
    session_in : Event → ℕ
    session_in (Serves session now bytes) = session
    session_in e = 0
granted_to_another (inr h) = absurd (other h.2)
  where
    other : {now : ℕ} → Serves 4 0 [] ≡ Settles now → ⊥
    other e = absurd cc

-- one remembers a number for which no RECALL goes out
remembers_alone : LeasesCome (served (state [] (lease 3 2 1000 None ∷ [])) (state (close 4 2 ∷ []) (lease 3 2 1000 (Some 1) ∷ [])) []) → ⊥
remembers_alone h = by (h 0 (lease 3 2 1000 (Some 1)) refl)
  where
    v : Move
    v = served (state [] (lease 3 2 1000 None ∷ [])) (state (close 4 2 ∷ []) (lease 3 2 1000 (Some 1) ∷ [])) []

    recalls : (a b : Lease) → Some a ≡ Some b → a.recall ≡ b.recall
    recalls a b e = cc

    old : (j : ℕ) → slice_get (lease 3 2 1000 None ∷ []) j ≡ Some (lease 3 2 1000 (Some 1)) → ⊥
    old zero e = no 1 (recalls (lease 3 2 1000 None) (lease 3 2 1000 (Some 1)) e)
    old (suc j) e = no (lease 3 2 1000 (Some 1)) e

    by : ((j : ℕ) × (slice_get (lease 3 2 1000 None ∷ []) j ≡ Some (lease 3 2 1000 (Some 1)))) ⊎ (IsAskedFor v (lease 3 2 1000 (Some 1)) ⊎ IsGranted v (lease 3 2 1000 (Some 1))) → ⊥
    by (inl h) = old h.0 h.1
    by (inr (inl asked)) = let lt = asked.sent.1 in absurd (omega (arith, lt))
    by (inr (inr granted)) = no 1 (sym granted.unasked)

-- the server's clock runs ahead of all readings, or a quiet begins
runs_ahead : KeepsTime (served (state [] []) (record two_files { leasing = record two_files.leasing { term = 1000; moment = 5 } }) []) → ⊥
runs_ahead h = by h.moment
  where
    by : (◌≡◌ {A = ℕ} 5 0) ⊎ (◌≡◌ {A = ℕ} 5 0) → ⊥
    by (inl e) = absurd (omega (arith, e))
    by (inr e) = absurd (omega (arith, e))

falls_quiet : (s : State) → KeepsTime (served (record s { leasing = record s.leasing { quiet = 500 } }) s []) → ⊥
falls_quiet s h = let e = h.quiet in absurd (omega (arith, e))

-- no RECALL goes out as a change comes
asks_nobody : AsksForAll [] (served (state [] (lease 3 2 1000 None ∷ [])) (state (close 4 2 ∷ []) (lease 3 2 1000 None ∷ [])) []) 0 (close 4 2) → ⊥
asks_nobody h = by (h 0 (lease 3 2 1000 None) refl refl refl (omega arith) refl refl)
  where
    by : AsksFor [] (served (state [] (lease 3 2 1000 None ∷ [])) (state (close 4 2 ∷ []) (lease 3 2 1000 None ∷ [])) []) (lease 3 2 1000 None) → ⊥
    by (inl w) = let lt = w.1.1 in absurd (omega (arith, lt))
    by (inr spent) = let le : 4294967295 ≤ 0 = spent in absurd (omega (arith, le))

-- a settling takes the second change of a file, or one within the quiet after the start
abbrev settled : State → Moment
settled s = record { before = record { server = s; seats = []; sessions = []; steps = 0; drift = 0; lbfs = 1; ops = []; entries = []; came = []; raws = [] }; event = Settles 100 }

second_made : (book : Book) → TakesReady book (settled (state (close 2 2 ∷ close 3 2 ∷ []) [])) 100 (close 3 2) → ⊥
second_made book t = by t.place t.there t.first
  where
    apart : Some (close 2 2) ≡ Some (close 3 2) → ⊥
    apart e = absurd cc

    by : (place : ℕ) → slice_get (close 2 2 ∷ close 3 2 ∷ []) place ≡ Some (close 3 2) → ((i : ℕ) (d : FileChange) → i < place → slice_get (close 2 2 ∷ close 3 2 ∷ []) i ≡ Some d → meets d (close 3 2) ≡ false) → ⊥
    by zero at first = apart at
    by (suc place) at first = absurd (no_true (first 0 (close 2 2) (omega arith) refl))
      where
        no_true : true ≡ false → ⊥
        no_true e = absurd cc

in_the_quiet : (book : Book) (s : State) → TakesReady book (settled (record s { leasing = record s.leasing { moment = 0; quiet = 500 } })) 100 (close 2 2) → ⊥
in_the_quiet book s t = let le = t.awake in absurd (omega (arith, le))

-- ---- a file goes

-- a REMOVE of a file
abbrev asks_removal : (file : ℕ) → Asked
asks_removal file = tree_call.Remove (record { spot = record { dir = ROOT; name = codes "a" }; file = file })

abbrev removal : (session file : ℕ) → FileChange
removal session file = change_of session 5 file (wanted.Asked (asks_removal file))

abbrev entry_of : (session file : ℕ) → Entry
entry_of session file = record { file = file; version = 2; kind = entry_kind.Remove; len = 0; sha1 = []; session = session }

abbrev one_pending : FileChange → List Lease → Moment
one_pending c leases = settled (state (c ∷ []) leases)

-- by the change that was ready
pub went : IsRemoved (one_pending (removal 2 2) [] ∷ []) 1 (entry_of 2 2)
went = record { moment = one_pending (removal 2 2) []; there = (0, omega arith, refl); now = 100; event_is = refl; step_is = refl; change = removal 2 2; ready = refl; call = asks_removal 2; what_is = refl; file_is = refl; session_is = refl }

only : (m n : Moment) → Contains (m ∷ []) n → m ≡ n
only m n p = at p.0 p.1 p.2
  where
    at : (k : ℕ) → k < 1 → get_or (m ∷ []) k n ≡ n → m ≡ n
    at zero lt e = e
    at (suc k) lt e = absurd (omega (arith, lt))

-- which is the one that the clause names
names_ready : (s : State) (o : Option FileChange) (step : ℕ) (e : Entry) → ready_by s 100 ≡ o → (w : IsRemoved (settled s ∷ []) step e) → o ≡ Some w.change
names_ready s o step e at w =
    let same : settled s ≡ w.moment = only (settled s) w.moment w.there in
    let reading : 100 ≡ w.now = now_of (ap (λ (m : Moment). m.event) same ∙ w.event_is) in
    sym at ∙ ap (λ n. ready_by s n) reading ∙ ap (λ (m : Moment). ready_by m.before.server w.now) same ∙ w.ready
  where
    now_of : {a b : ℕ} → Settles a ≡ Settles b → a ≡ b
    now_of e = cc

some_of : (c d : FileChange) → Some c ≡ Some d → c ≡ d
some_of c d e = cc

-- another session's, or another file
of_another : IsRemoved (one_pending (removal 2 2) [] ∷ []) 1 (entry_of 3 2) → ⊥
of_another w = let same = ap (λ (c : FileChange). c.session) (some_of (removal 2 2) w.change (names_ready (state (removal 2 2 ∷ []) []) (Some (removal 2 2)) 1 (entry_of 3 2) refl w)) in let is = w.session_is in absurd (omega (arith, same, is))

other_file : IsRemoved (one_pending (removal 2 2) [] ∷ []) 1 (entry_of 2 3) → ⊥
other_file w = let same = ap (λ (c : FileChange). c.file) (some_of (removal 2 2) w.change (names_ready (state (removal 2 2 ∷ []) []) (Some (removal 2 2)) 1 (entry_of 2 3) refl w)) in let is = w.file_is in absurd (omega (arith, same, is))

-- by a close
closed_away : IsRemoved (one_pending (close 2 2) [] ∷ []) 1 (entry_of 2 2) → ⊥
closed_away w = absurd (apart (ap (λ (c : FileChange). c.what) (some_of (close 2 2) w.change (names_ready (state (close 2 2 ∷ []) []) (Some (close 2 2)) 1 (entry_of 2 2) refl w)) ∙ w.what_is))
  where
    apart : {a : Asked} → wanted.Content [] ≡ wanted.Asked a → ⊥
    apart e = cc

-- under a lease of another, or while nothing was pending; and in another step than the settling's
under_a_lease : IsRemoved (one_pending (removal 2 2) (lease 3 2 1000 None ∷ []) ∷ []) 1 (entry_of 2 2) → ⊥
under_a_lease w = no w.change (names_ready (state (removal 2 2 ∷ []) (lease 3 2 1000 None ∷ [])) None 1 (entry_of 2 2) refl w)

of_itself : IsRemoved (settled (state [] []) ∷ []) 1 (entry_of 2 2) → ⊥
of_itself w = no w.change (names_ready (state [] []) None 1 (entry_of 2 2) refl w)

in_another_step : (s : State) (e : Entry) → IsRemoved (settled s ∷ []) 2 e → ⊥
in_another_step s e w = let same : 1 ≡ 2 = ap step_of (only (settled s) w.moment w.there) ∙ w.step_is in absurd (omega (arith, same))

-- ---- which file

-- a REMOVE's is what its name stands for, a RENAME's what it replaces
pub files_asked : map (file_asked two_files.tree) (body.Lb (lb.CommitTmp (record { lbfs = 1; handle = handle_bytes 3; fd = 1; size = 0; base = None })) ∷ body.Nfs (nfs.Remove (record { dir = handle_bytes ROOT; name = codes "a" })) ∷ body.Nfs (nfs.Rename (record { from = record { dir = handle_bytes ROOT; name = codes "a" }; to = record { dir = handle_bytes ROOT; name = codes "b" } })) ∷ body.Nfs (nfs.Rename (record { from = record { dir = handle_bytes ROOT; name = codes "a" }; to = record { dir = handle_bytes ROOT; name = codes "c" } })) ∷ [])
    ≡ Some 3 ∷ Some 2 ∷ Some 3 ∷ None ∷ []
files_asked = refl

-- ---- how many settlings

pub late_ones : settlings 100 (settled two_files ∷ settled two_files ∷ []) ≡ 2
late_ones = refl

pub too_early : settlings 101 (settled two_files ∷ []) ≡ 0
too_early = refl
