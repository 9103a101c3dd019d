-- What a step does that met running out of memory, or did not: of a GETHASH and a change that is made, whose chunks enter the index; and event by event.
use Rattle.std.proofs.Common.{◌≡◌, refl, sym, ap, ◌∙◌, subst, ℕ, List, [], ◌++◌, Option, Some, None, Bool, true, false, inl, inr}
use Rattle.std.specs.Prelude.{Result, Ok, Err, ◌==◌, if◌then◌else◌, max}
use Rattle.chunk_index.specs.Index.{Indexed}
use Rattle.xdr_codec.specs.declared.status.Status.{Status}
use Rattle.xdr_codec.specs.declared.status.Status.TheVariants as status
use Rattle.hash_calls.specs.declared.message.Lb.TheVariants as lb
use Rattle.wire.specs.declared.message.Body.{Body}
use Rattle.wire.specs.declared.message.Body.TheVariants as body
use Rattle.wire.specs.declared.message.Message.{Message}
use Rattle.wire.specs.declared.message.Message.TheVariants as message
use Rattle.server_core.specs.declared.event.Event.{Event}
use Rattle.server_core.specs.declared.event.Event.TheVariants as event
use Rattle.server_core.specs.declared.event.ServerStep.{ServerStep}
use Rattle.tree_reading.specs.Tree.{Tree}
use Rattle.file_tree.specs.Step.{replace}
use Rattle.tree_reading.specs.declared.call.Changed.{Changed}
use Rattle.tree_reading.specs.declared.call.Reservation.{Reservation}
use Rattle.file_tree.specs.Stores.{stored}
use Rattle.tree_calls.specs.Calling.{IsCalled}
use Rattle.tree_calls.specs.Waiting.{with_committed, gives_content as gives_content, gives_content_under, settles_under as tree_settles_under}
use Rattle.tree_calls.specs.declared.asked.Asked.{Asked}
use Rattle.tree_calls.specs.declared.asked.Committing.{Committing}
use Rattle.tree_calls.specs.declared.asked.Done.{Done}
use Rattle.server_core.specs.declared.change.Wanted.{Wanted}
use Rattle.server_core.specs.declared.change.Wanted.TheVariants as wanted
use Rattle.server_core.specs.declared.journal.Entry.{Entry}
use Rattle.server_core.specs.Closing.{at, entries_by, count_of, index_with, leases_done, committed_by, settled_by, told_change, makes_change, makes_change_under, ready_by, settles, settles_by, settles_under}
use Rattle.server_core.specs.Served.{IsServed}
use Rattle.server_core.specs.State.{State, FileChange, held}
use Rattle.server_core.specs.Recalling.{term_at}
use Rattle.chunk_calls.specs.Entering.{IsLacking}
use Rattle.chunk_cut.specs.declared.chunk.Chunk.{Chunk}
use Rattle.callback_core.specs.Waits.{without}
use Rattle.lease_rules.specs.declared.lease.Lease.{Lease}
use Rattle.server_rules.specs.declared.told.Told.TheVariants as told
use Rattle.server_core.specs.Step.{got_if, stands, change_entered, chunks_got, chunks_of_change, chunks_if, chunks_called, has_room, missed_step, Lacks, MissesCall, Misses, nothing, lacks}

-- ---- a change that is made

-- what a COMMITTMP leaves, by what the tree made of it
abbrev pub committed_state : State → Tree → List Entry → Indexed → List Lease → State
committed_state s t journal index leases = record s { tree = t; journal = journal; index = index; leasing = record s.leasing { leases = leases } }

abbrev committed_body : Committing → Body
committed_body d = body.Lb (lb.CommitTmpAnswer d.answer)

-- the leases that stand then
abbrev leases_then : State → FileChange → Committing → List Lease
leases_then s c d = leases_done s.leasing.leases s.leasing.moment c.session c.file d.answer

committed_by_all : (s : State) (fault : Bool) (c : FileChange) (content : List ℕ) (h : Reservation) (term : ℕ) (t : Tree) (d : Committing) (journal : List Entry) (index : Indexed) (leases : List Lease) (entries : ℕ) (left : Bool) (o : ServerStep)
    → h ≡ held s.waiting → term ≡ term_at s c.file → gives_content_under s.tree h fault c.file content term ≡ (t, d) → journal ≡ s.journal ++ entries_by c.session d.entry None → index ≡ index_with s.index c.file content d.answer
    → leases ≡ leases_then s c d → entries ≡ count_of d.entry None → o ≡ told_change c entries (body.Lb (lb.CommitTmpAnswer d.answer)) → left ≡ false
    → makes_change_under s fault c (wanted.Content content) ≡ (committed_state s t journal index leases, record o { missed = left })
committed_by_all s fault c content h term t d journal index leases entries left o needs lasts done entered places granted counts said none =
    ap (λ (x : Reservation). committed_by s c content (gives_content_under s.tree x fault c.file content (term_at s c.file))) (sym needs)
    ∙ ap (λ (x : ℕ). committed_by s c content (gives_content_under s.tree h fault c.file content x)) (sym lasts)
    ∙ ap (λ (p : Tree × Committing). committed_by s c content p) done
    ∙ ap (λ (l : List Entry). (committed_state s t l (index_with s.index c.file content d.answer) (leases_then s c d), told_change c (count_of d.entry None) (committed_body d))) (sym entered)
    ∙ ap (λ (i : Indexed). (committed_state s t journal i (leases_then s c d), told_change c (count_of d.entry None) (committed_body d))) (sym places)
    ∙ ap (λ (l : List Lease). (committed_state s t journal index l, told_change c (count_of d.entry None) (committed_body d))) (sym granted)
    ∙ ap (λ (n : ℕ). (committed_state s t journal index leases, told_change c n (committed_body d))) (sym counts)
    ∙ ap (λ (x : ServerStep). (committed_state s t journal index leases, record x { missed = false })) (sym said)
    ∙ ap (λ (b : Bool). (committed_state s t journal index leases, record o { missed = b })) (sym none)

pub committed_all : (before after : ℕ) (s : State) (c : FileChange) (content : List ℕ) (h : Reservation) (term : ℕ) (t : Tree) (d : Committing) (journal : List Entry) (index : Indexed) (leases : List Lease) (entries : ℕ) (left : Bool) (o : ServerStep)
    → h ≡ held s.waiting → term ≡ term_at s c.file → IsCalled before after (λ fault. gives_content_under s.tree h fault c.file content term) (t, d) → journal ≡ s.journal ++ entries_by c.session d.entry None → index ≡ index_with s.index c.file content d.answer
    → leases ≡ leases_then s c d → entries ≡ count_of d.entry None → o ≡ told_change c entries (body.Lb (lb.CommitTmpAnswer d.answer)) → left ≡ false
    → IsServed before after (λ fault. makes_change_under s fault c (wanted.Content content)) (committed_state s t journal index leases, record o { missed = left })
committed_all before after s c content h term t d journal index leases entries left o needs lasts done entered places granted counts said none =
    record { fault = done.fault; cause = done.cause; is = committed_by_all s done.fault c content h term t d journal index leases entries left o needs lasts done.is entered places granted counts said none }

-- places are left out only where the content was got, and then the store didn't fail
got_unfailed : (fault : Bool) (s : State) (h : Reservation) (id term : ℕ) (content : List ℕ) (t : Tree) (d : Committing) (index new : Indexed) → gives_content_under s.tree h fault id content term ≡ (t, d) → IsLacking index (chunks_got id content d.answer) new
    → gives_content s.tree h id content term ≡ (t, d)
got_unfailed false s h id term content t d index new done lack = done
got_unfailed true s h id term content t d index new done lack = by (replace s.tree h id content) done
  where
    by : (p : Tree × Result Changed Status) → with_committed term (stored true s.tree p) ≡ (t, d) → with_committed term p ≡ (t, d)
    by (u, Err e) is = is
    by (u, Ok c) is = by_changes (u.changes == s.tree.changes) is
      where
        by_changes : (b : Bool) → with_committed term (if b then (u, Ok c) else (s.tree, Err status.Io)) ≡ (t, d) → with_committed term (u, Ok c) ≡ (t, d)
        by_changes true k = k
        by_changes false k = absurd (subst (λ (q : Tree × Committing). IsLacking index (chunks_got id content q.1.answer) new) (sym k) lack)

pub committed_some : (before after : ℕ) (s : State) (c : FileChange) (content : List ℕ) (h : Reservation) (term : ℕ) (t : Tree) (d : Committing) (journal : List Entry) (index : Indexed) (leases : List Lease) (entries : ℕ) (left : Bool) (o : ServerStep)
    → h ≡ held s.waiting → term ≡ term_at s c.file → IsCalled before after (λ fault. gives_content_under s.tree h fault c.file content term) (t, d) → journal ≡ s.journal ++ entries_by c.session d.entry None → IsLacking s.index (chunks_got c.file content d.answer) index
    → leases ≡ leases_then s c d → entries ≡ count_of d.entry None → o ≡ told_change c entries (body.Lb (lb.CommitTmpAnswer d.answer)) → left ≡ true
    → Lacks s.index (change_entered s c (wanted.Content content)) (makes_change s c (wanted.Content content)) (committed_state s t journal index leases) (record o { missed = left })
committed_some before after s c content h term t d journal index leases entries left o needs lasts called entered lack granted counts said some =
    let done = got_unfailed called.fault s h c.file term content t d s.index index called.is lack in
    subst (λ (p : Tree × Committing). Lacks s.index (chunks_got c.file content p.1.answer) (committed_by s c content p) (committed_state s t journal index leases) (record o { missed = left }))
    (sym (ap (λ (x : Reservation). gives_content s.tree x c.file content (term_at s c.file)) (sym needs) ∙ ap (λ (x : ℕ). gives_content s.tree h c.file content x) (sym lasts) ∙ done)) (
      index,
      lack,
      ap (λ (l : List Entry). committed_state s t l index leases) entered
          ∙ ap (λ (l : List Lease). committed_state s t (s.journal ++ entries_by c.session d.entry None) index l) granted,
      ap (λ (b : Bool). record o { missed = b }) some
          ∙ ap (λ (x : ServerStep). record x { missed = true }) said
          ∙ ap (λ (n : ℕ). record (told_change c n (committed_body d)) { missed = true }) counts,
    )

-- a REMOVE or RENAME
settled_by_all : (s : State) (fault : Bool) (c : FileChange) (a : Asked) (h : Reservation) (t : Tree) (d : Done) (journal : List Entry) (entries : ℕ) (o : ServerStep)
    → h ≡ held s.waiting → tree_settles_under s.tree h fault a ≡ (t, d) → journal ≡ s.journal ++ entries_by c.session d.first d.second → entries ≡ count_of d.first d.second
    → o ≡ told_change c entries (body.Nfs d.answer) → makes_change_under s fault c (wanted.Asked a) ≡ (record s { tree = t; journal = journal }, o)
settled_by_all s fault c a h t d journal entries o needs done entered counts said =
    ap (λ (x : Reservation). settled_by s c (tree_settles_under s.tree x fault a)) (sym needs)
    ∙ ap (λ (p : Tree × Done). settled_by s c p) done
    ∙ ap (λ (l : List Entry). (record s { tree = t; journal = l }, told_change c (count_of d.first d.second) (body.Nfs d.answer))) (sym entered)
    ∙ ap (λ (n : ℕ). (record s { tree = t; journal = journal }, told_change c n (body.Nfs d.answer))) (sym counts)
    ∙ ap (λ (x : ServerStep). (record s { tree = t; journal = journal }, x)) (sym said)

pub settled_all : (before after : ℕ) (s : State) (c : FileChange) (a : Asked) (h : Reservation) (t : Tree) (d : Done) (journal : List Entry) (entries : ℕ) (o : ServerStep)
    → h ≡ held s.waiting → IsCalled before after (λ fault. tree_settles_under s.tree h fault a) (t, d) → journal ≡ s.journal ++ entries_by c.session d.first d.second → entries ≡ count_of d.first d.second
    → o ≡ told_change c entries (body.Nfs d.answer) → IsServed before after (λ fault. makes_change_under s fault c (wanted.Asked a)) (record s { tree = t; journal = journal }, o)
settled_all before after s c a h t d journal entries o needs done entered counts said =
    record { fault = done.fault; cause = done.cause; is = settled_by_all s done.fault c a h t d journal entries o needs done.is entered counts said }

-- ---- the change that is made next

-- what is left where it has left the queue
abbrev left_by : State → (waiting : List FileChange) → (leases : List Lease) → (moment : ℕ) → State
left_by s waiting leases moment = record s { waiting = waiting; leasing = record s.leasing { leases = leases; moment = moment } }

left_is : (s : State) (now moment : ℕ) (c : FileChange) (rest : List FileChange) (leases : List Lease) → rest ≡ without s.waiting c.session → leases ≡ s.leasing.leases → moment ≡ max s.leasing.moment now → left_by s rest leases moment ≡ at (record s { waiting = without s.waiting c.session }) now
left_is s now moment c rest leases others same later =
    ap (λ (l : List FileChange). left_by s l leases moment) others
    ∙ ap (λ (l : List Lease). left_by s (without s.waiting c.session) l moment) same
    ∙ ap (λ (m : ℕ). left_by s (without s.waiting c.session) s.leasing.leases m) later

pub settles_all : (before after : ℕ) (s new : State) (now moment : ℕ) (c : FileChange) (rest : List FileChange) (leases : List Lease) (o : ServerStep) → ready_by s now ≡ Some c → rest ≡ without s.waiting c.session → leases ≡ s.leasing.leases → moment ≡ max s.leasing.moment now
    → IsServed before after (λ fault. makes_change_under (left_by s rest leases moment) fault c c.what) (new, o) → IsServed before after (λ fault. settles_under s fault now) (new, o)
settles_all before after s new now moment c rest leases o next others same later made = record {
  fault = made.fault;
  cause = made.cause;
  is = ap (λ (r : Option FileChange). settles_by s made.fault now r) next
      ∙ ap (λ (t : State). makes_change_under t made.fault c c.what) (sym (left_is s now moment c rest leases others same later))
      ∙ made.is;
}

pub settles_some : (s new : State) (now moment : ℕ) (c : FileChange) (rest : List FileChange) (leases : List Lease) (o : ServerStep) → ready_by s now ≡ Some c → rest ≡ without s.waiting c.session → leases ≡ s.leasing.leases → moment ≡ max s.leasing.moment now
    → Lacks s.index (change_entered (left_by s rest leases moment) c c.what) (makes_change (left_by s rest leases moment) c c.what) new o
    → Lacks s.index (chunks_of_change s (ready_by s now)) (settles s now) new o
settles_some s new now moment c rest leases o next others same later made =
    subst (λ (r : Option FileChange). Lacks s.index (chunks_of_change s r) (settles_by s false now r) new o) (sym next)
    (subst (λ (e : Option (ℕ × List Chunk)). Lacks s.index e (makes_change (at (record s { waiting = without s.waiting c.session }) now) c c.what) new o) (entered c.what)
    (subst (λ (t : State). Lacks s.index (change_entered t c c.what) (makes_change t c c.what) new o) (left_is s now moment c rest leases others same later) made))
  where
    -- the moment says nothing of them
    entered : (w : Wanted) → change_entered (at (record s { waiting = without s.waiting c.session }) now) c w ≡ change_entered (record s { waiting = without s.waiting c.session }) c w
    entered (wanted.Content content) = refl
    entered (wanted.Asked a) = refl

-- where there is none
pub settles_none : (before after : ℕ) (s : State) (now : ℕ) (rest : List FileChange) (leases : List Lease) (o : ServerStep) → ready_by s now ≡ None → rest ≡ s.waiting → leases ≡ s.leasing.leases → o ≡ record { send = []; told = told.NotReady; entries = 0; missed = false }
    → IsServed before after (λ fault. settles_under s fault now) (left_by s rest leases s.leasing.moment, o)
settles_none before after s now rest leases o next all same said = record {
  fault = false;
  cause = tt;
  is = ap (λ (r : Option FileChange). settles_by s false now r) next
      ∙ ap (λ (x : ServerStep). (s, x)) (sym said)
      ∙ ap (λ (l : List FileChange). (left_by s l s.leasing.leases s.leasing.moment, o)) (sym all)
      ∙ ap (λ (l : List Lease). (left_by s rest l s.leasing.moment, o)) (sym same);
}

-- ---- an event

-- a call of a session that stands
called_misses : (s new : State) (session xid now : ℕ) (b : Body) (step : ServerStep) → stands s session ≡ true → MissesCall (at s now) session xid b new step
    → Misses s (event.Got session (message.Call xid b) now) new step
called_misses s new session xid now b step there (inl m) = nothing (there, m.0) m.1 m.2
called_misses s new session xid now b step there (inr l) =
    lacks (subst (λ (t : Bool). Lacks s.index (chunks_if t (chunks_called s b)) (got_if s t session (message.Call xid b) now) new step) (sym there) l)

pub call_misses : (s new : State) (session xid now moment : ℕ) (b : Body) (m : Message) (step : ServerStep) → m ≡ message.Call xid b → stands s session ≡ true → moment ≡ max s.leasing.moment now
    → MissesCall (record s { leasing = record s.leasing { moment = moment } }) session xid b new step → Misses s (event.Got session m now) new step
call_misses s new session xid now moment b m step is there later missed =
    subst (λ (x : Message). Misses s (event.Got session x now) new step) (sym is)
    (called_misses s new session xid now b step there (subst (λ (t : ℕ). MissesCall (record s { leasing = record s.leasing { moment = t } }) session xid b new step) later missed))

-- a connection that is made
pub connect_misses : (s new : State) (e : Event) (step : ServerStep) → e ≡ event.Connect → has_room s ≡ true → new ≡ s → step ≡ missed_step event.Connect → Misses s e new step
connect_misses s new e step is room same said = subst (λ (x : Event). Misses s x new step) (sym is) (nothing room same said)

-- a settling
pub settle_misses : (s new : State) (now : ℕ) (e : Event) (step : ServerStep) → e ≡ event.Settle now → Lacks s.index (chunks_of_change s (ready_by s now)) (settles s now) new step → Misses s e new step
settle_misses s new now e step is lack = subst (λ (x : Event). Misses s x new step) (sym is) (lacks lack)
