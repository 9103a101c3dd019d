-- A run carries by whose calls the names in directories change.
use Rattle.std.proofs.Common.{◌⊎◌, inl, inr, ◌≡◌, ℕ, List, [], ◌∷◌, ◌++◌, length, Option, Some, None, Result, Ok, Err, Bool, true, false, refl, sym, ap, ◌∙◌, subst, arith, map}
use Rattle.hash_calls.specs.declared.message.Lb.TheVariants as lb
use Rattle.nfs3_calls.specs.declared.message.Nfs.{Nfs}
use Rattle.wire.specs.declared.message.Body.{Body}
use Rattle.wire.specs.declared.message.Body.TheVariants as body
use Rattle.wire.specs.declared.fault.WireFault.TheVariants as fault
use Rattle.wire.specs.declared.message.Message.TheVariants as message
use Rattle.tree_nodes.specs.declared.node.Node.{Node}
use Rattle.tree_nodes.specs.declared.node.Body.TheVariants.{File as Plain}
use Rattle.tree_nodes.specs.Nodes.{names, changed}
use Rattle.tree_reading.specs.declared.call.Changed.{Changed}
use Rattle.tree_reading.specs.declared.call.Reservation.{Reservation}
use Rattle.file_tree.specs.Step.{replace_if}
use Rattle.tree_reading.specs.Plans.{replace_plan}
use Rattle.tree_calls.specs.Waiting.{calls, gives_content, file_of, settles as tree_settles}
use Rattle.tree_calls.specs.Changing.{said}
use Rattle.tree_calls.specs.declared.asked.Asked.{Asked}
use Rattle.tree_calls.specs.declared.asked.Asked.TheVariants as asked
use Rattle.tree_calls.specs.declared.asked.Done.{Done as Finished}
use Rattle.server_core.specs.State as server
use Rattle.server_core.specs.declared.event.Event.TheVariants as event
use Rattle.server_core.specs.declared.event.Sent.{Sent}
use Rattle.server_core.specs.declared.change.Wanted.TheVariants as wanted
use Rattle.path_calls.specs.Told.{walk_told}
use Rattle.path_calls.specs.Walk.{next_call, call_at}
use Rattle.path_calls.specs.declared.answers.Ended.TheVariants as ended
use Rattle.path_calls.specs.declared.answers.Told.TheVariants as told
use Rattle.path_calls.specs.declared.walk.Goal.{Goal}
use Rattle.path_calls.specs.declared.walk.Goal.TheVariants as goal
use Rattle.path_calls.specs.declared.walk.Walk.{Walk}
use Rattle.trace_replay.specs.NameChanges.{names_of, KeepsNames, ChangesNames, MakesOf, TakesNaming, MakesNaming, NamesChangeBy, ChangesRaw}
use Rattle.trace_replay.specs.PendingChanges.{EndsSession, ClosesRaw}
use Rattle.server_law.proofs.lemmas.Trees.{IsBounded}
use Rattle.trace_ends.specs.Core.{Loss, Loss.Nothing, Loss.Up_of, server_got, serves_none}
use Rattle.trace_replay.specs.Naming.{refusal_of}
use Rattle.trace_replay.specs.OwnCalls.{ComesTo, held_at, others_waiting}
use Rattle.kept_promise.proofs.Common.{cond, if◌then◌else◌, ◌==◌, filter, not, slice_get, Contains, Contains-append_left, Contains-append_right, Contains-push, Contains-push_cases, Status, Message, WireFault, parse_of, Tree, FileChange, Wanted, server_step, stands, at, has_waiting, Op, Opening, Core, Session, Event, Event.Serves, Event.Settles, CoreStep, numbered, called, server_waiting, server_waits, serves_if, serves, does, joins, hears, cuts, hangs_if, hangs, happens, Moment, step_of, client_of, is_in, Book, Queue, Ask, NameReply, name_answer, ask_message, Call, Call.Walks, is_raw, serves_unless}
use Rattle.server_core.specs.Closing.{makes_change}
use Rattle.kept_promise.proofs.Lists.{some_is, nothing_there, of_appended, true_and_false}
use Rattle.kept_promise.proofs.Messages.{AllAsks, AsksFor, walk_for, walk_is}
use Rattle.kept_promise.proofs.Fits.{FitLaws}
use Rattle.kept_promise.proofs.Rights.{WasThere}
use Rattle.kept_promise.proofs.Facts.{IsWanted, IsSession, IsKept}
use Rattle.kept_promise.proofs.Gone.{no_directory}
use Rattle.kept_promise.proofs.Statements.{CallFits}
use Rattle.kept_promise.proofs.Turns.{also_numbered, owned_up, unhung_up, raw_or_owned}
use Rattle.kept_promise.proofs.RunsCarried.{book_at, moment, Finds, FindsAsk, Step, Carried}
use Rattle.kept_promise.proofs.Actors.{serves_fits, serves_read, serves_read_plain}
use Rattle.kept_promise.proofs.Replies.{reply_taken, reply_silent}
use Rattle.kept_promise.proofs.Hangs.{left_there}
use Rattle.kept_promise.proofs.CallsAlike.{call_read}
use Rattle.kept_promise.proofs.CallsKeep.{IsByCommit, is_of_files, Waits, got_keeps, makes_call, walk_made, MayName, called_tree, named_tree}
use Rattle.kept_promise.proofs.PathNames.{IsWalkSmall, makes_at, is_making, is_building, is_going, making_is, building_makes, going_makes}
use Rattle.kept_promise.proofs.Makings.{made_by, step_by, MadeSo, refuses, enters, made_walk}
use Rattle.kept_promise.proofs.Departures.{ComesSo, refused, done_now, waits, comes_so, SettlesSo, refused_late, goes, settles_so, asks_itself}
use Rattle.kept_promise.proofs.ServesFiles.{got_making, making_got}
use Rattle.kept_promise.proofs.GoingSteps.{coming, got_answered, got_waits}
use Rattle.kept_promise.proofs.TakenOut.{made_waiting, WhatSettles, settles_one, settles_none, what_settles}
use Rattle.kept_promise.proofs.GoingEnds.{asked_step, asked_settles}
use Rattle.kept_promise.proofs.WalkRuns.{refused_leads}
use Rattle.kept_promise.proofs.SentUp.{WasCalled, UpsSent, call_asked}
use Rattle.kept_promise.proofs.Logs.{IsSilent}
use Rattle.kept_promise.proofs.Saved.{AllSaved, carried_saved}
use Rattle.kept_promise.proofs.Happens.{what_happens}
use Rattle.kept_promise.proofs.EntriesGrow.{IsOwned}
use Rattle.kept_promise.proofs.OwnersKept.{owned_before}
use Rattle.kept_promise.proofs.AnyCall.{any_waits}

-- ---- another content changes no name

abbrev entry_of : Node → List ℕ × ℕ
entry_of n = (n.name, n.id)

abbrev refilled : (version : ℕ) → List ℕ → Node → Node
refilled version content m = record m { version = version; body = Plain content }

names_refilled : (ns : List Node) (id version : ℕ) (content : List ℕ) (dir : ℕ) → map entry_of (names (changed ns id (refilled version content)) dir) ≡ map entry_of (names ns dir)
names_refilled [] id version content dir = refl
names_refilled (m ∷ ms) id version content dir = by (m.id == id) (names_refilled ms id version content dir)
  where
    first : (k : Node) → entry_of k ≡ entry_of m → (xs ys : List Node) → map entry_of xs ≡ map entry_of ys → (b : Bool) → map entry_of (cond b (k ∷ xs) xs) ≡ map entry_of (cond b (m ∷ ys) ys)
    first k e xs ys later true = ap (λ (z : List ℕ × ℕ). z ∷ map entry_of xs) e ∙ ap (λ (l : List (List ℕ × ℕ)). entry_of m ∷ l) later
    first k e xs ys later false = later

    by : (b : Bool) → map entry_of (names (changed ms id (refilled version content)) dir) ≡ map entry_of (names ms dir) → map entry_of (filter (λ (j : Node). j.parent == dir) ((if b then refilled version content m else m) ∷ changed ms id (refilled version content))) ≡ map entry_of (names (m ∷ ms) dir)
    by true later = first (refilled version content m) refl (names (changed ms id (refilled version content)) dir) (names ms dir) later (m.parent == dir)
    by false later = first m refl (names (changed ms id (refilled version content)) dir) (names ms dir) later (m.parent == dir)

commits_names : (t : Tree) (held : Reservation) (file : ℕ) (content : List ℕ) (dir : ℕ) → names_of (gives_content t held file content 0).0 dir ≡ names_of t dir
commits_names t held file content dir = by (replace_plan t held file (length content))
  where
    by : (r : Result ℕ Status) → names_of (replace_if t file content r).0 dir ≡ names_of t dir
    by (Err s) = refl
    by (Ok version) = names_refilled t.nodes file version content dir

-- ---- what waits

-- each change that waits in one state waits in another, before
abbrev AreOfThose : List FileChange → List FileChange → Type 0
AreOfThose after before = (i : ℕ) (c : FileChange) → slice_get after i ≡ Some c → (j : ℕ) × (slice_get before j ≡ Some c)

those_same : (after before : List FileChange) → after ≡ before → AreOfThose after before
those_same after before same i c at = (i, ap (λ (l : List FileChange). slice_get l i) (sym same) ∙ at)

-- what a step of the server leaves that makes nothing by a name: names are as they were, and what waits waited before
pub record IsStill (before after : server.State) : Type 0 where
  pub names : (dir : ℕ) → names_of after.tree dir ≡ names_of before.tree dir
  pub waiting : AreOfThose after.waiting before.waiting

still_same : (before after : server.State) → after ≡ before → IsStill before after
still_same before after same = record { names = λ dir. ap (λ (s : server.State). names_of s.tree dir) same; waiting = those_same after.waiting before.waiting (ap (λ (s : server.State). s.waiting) same) }

-- the last call of a walk that makes or removes something
changes_made : (dir : ℕ) (left : List (List ℕ)) (g : Goal) → makes_at left g ≡ true → ChangesNames (call_at dir left g)
changes_made dir [] (goal.Make n) e = tt
changes_made dir [] (goal.MakeDir n) e = tt
changes_made dir [] (goal.Remove n) e = tt
changes_made dir [] (goal.RemoveDir n) e = tt
changes_made dir [] (goal.RenameTo from n to) e = tt
changes_made dir left g e = absurd cc

-- a change of a COMMITTMP asks for nothing by a name
commit_content : (m : Message) (c : FileChange) → IsByCommit m c → (content : List ℕ) × (c.what ≡ wanted.Content content)
commit_content (message.Call xid (body.Lb (lb.CommitTmp a))) c h = h
commit_content m c h = absurd h

content_asked : (c : FileChange) (content : List ℕ) (a : Asked) → c.what ≡ wanted.Content content → c.what ≡ wanted.Asked a → ⊥
content_asked c content a is asks_ = apart (sym is ∙ asks_)
  where
    apart : wanted.Content content ≡ wanted.Asked a → ⊥
    apart e = absurd cc

asked_is : (a b : Asked) → wanted.Asked a ≡ wanted.Asked b → a ≡ b
asked_is a b e = cc

-- ---- events that leave the server's tree, and what waits there

hung_still : (k : Core) (n : ℕ) (b : Bool) → IsStill k.server (Rattle.server_core.specs.Step.hangs_if k.server b n).0
hung_still k n true = record { names = λ dir. refl; waiting = λ i c at. (left_there n k.server.waiting i c at).0 }
hung_still k n false = still_same k.server k.server refl

others_still : (k : Core) (e : Event) → ((n now : ℕ) (bytes : List ℕ) → e ≡ Serves n now bytes → ⊥) → ((now : ℕ) → e ≡ Settles now → ⊥) → IsStill k.server (happens k e).core.server
others_still k e unserved unsettled = what_happens k e (λ t. IsStill k.server t.core.server) (record {
  nothing = same;
  idle = same;
  joins = λ c seat is. record { names = λ dir. refl; waiting = those_same k.server.waiting k.server.waiting refl };
  refuses = λ c seat is. same;
  does = λ c now d seat is. same;
  takes = λ n now bytes x m is at unhung read. absurd (unserved n now bytes is);
  hears = λ n now bytes owner seat is. same;
  settles = λ now is. absurd (unsettled now is);
  cuts = λ c seat is. same;
  hangs = λ n x is at unhung. gone n (stands k.server n);
  closes = λ n now bytes x is at unhung. absurd (unserved n now bytes is);
  raw_joins = λ is. record { names = λ dir. refl; waiting = those_same k.server.waiting k.server.waiting refl };
  raw_refuses = λ is. same;
})
  where
    same : IsStill k.server k.server
    same = still_same k.server k.server refl

    gone : (n : ℕ) (b : Bool) → IsStill k.server (Rattle.server_core.specs.Step.hangs_if k.server b n).0
    gone n b = hung_still k n b

-- ---- what is carried

-- each change that waits for a client and asks for something by a name came by a call that was taken; and so did each change of names that was made, but those of sessions that are no client's
abbrev TakesAsked : List Moment → FileChange → Asked → Type 0
TakesAsked past c a = (t : TakesNaming past c.session c.xid) × (t.call ≡ next_call (walk_for a))

pub record AreNamed (past : List Moment) (k : Core) : Type 0 where
  pub waiting : (i : ℕ) (c : FileChange) (a : Asked) → slice_get k.server.waiting i ≡ Some c → c.what ≡ wanted.Asked a → IsOwned k c.session → TakesAsked past c a
  pub each : (m : Moment) → Contains past m → KeepsNames m ⊎ (MakesNaming past m ⊎ ChangesRaw m)

abbrev takes_later : (past : List Moment) (m : Moment) (session xid : ℕ) → TakesNaming past session xid → TakesNaming (past ++ m ∷ []) session xid
takes_later past m session xid t = record {
  call = t.call;
  changes = t.changes;
  taken = t.taken;
  there = Contains-append_left past (m ∷ []) t.taken t.there;
  now = t.now;
  bytes = t.bytes;
  event_is = t.event_is;
  parsed = t.parsed;
  sent = record { moment = t.sent.moment; there = Contains-append_left past (m ∷ []) t.sent.moment t.sent.there; before = t.sent.before; on = t.sent.on; sent = t.sent.sent };
}

makes_later : (past : List Moment) (m z : Moment) → MakesNaming past z → MakesNaming (past ++ m ∷ []) z
makes_later past m z n = record { session = n.session; xid = n.xid; takes = takes_later past m n.session n.xid n.takes; comes = n.comes; makes = n.makes; answer = n.answer; told = n.told; done = n.done }

-- what an event makes of it
pub record NamesAfter (past : List Moment) (k : Core) (e : Event) : Type 0 where
  pub now : KeepsNames (moment k e) ⊎ (MakesNaming (past ++ moment k e ∷ []) (moment k e) ⊎ ChangesRaw (moment k e))
  pub waiting : (i : ℕ) (c : FileChange) (a : Asked) → slice_get (happens k e).core.server.waiting i ≡ Some c → c.what ≡ wanted.Asked a → IsOwned (happens k e).core c.session → ((j : ℕ) × (slice_get k.server.waiting j ≡ Some c)) ⊎ TakesAsked (past ++ moment k e ∷ []) c a

named_after : (past : List Moment) (k : Core) (e : Event) → ((j : ℕ) (c : FileChange) → slice_get k.server.waiting j ≡ Some c → (x : Session) × (numbered k.sessions c.session ≡ Some x) × (x.hung ≡ false)) → NamesAfter past k e → AreNamed past k → AreNamed (past ++ moment k e ∷ []) (happens k e).core
named_after past k e home new h = record {
  waiting = λ i c a at asks_ owned. elim (new.waiting i c a at asks_ owned) [
    | inl old ↦ (let x = home old.0 c old.1 in let was = h.waiting old.0 c a old.1 asks_ (x.0, x.1, owned_before k e c.session x.0 owned.0 x.1 owned.1 owned.2) in (takes_later past (moment k e) c.session c.xid was.0, was.1))
    | inr takes ↦ takes
  ];
  each = λ z there. elim (Contains-push_cases past (moment k e) z there) [
    | inl old ↦ elim (h.each z old) [ inl keeps ↦ inl keeps | inr makes ↦ inr (elim makes [ inl own ↦ inl (makes_later past (moment k e) z own) | inr raw ↦ inr raw ]) ]
    | inr is ↦ subst (λ (y : Moment). KeepsNames y ⊎ (MakesNaming (past ++ moment k e ∷ []) y ⊎ ChangesRaw y)) is new.now
  ];
}

after_still : (past : List Moment) (k : Core) (e : Event) → IsStill k.server (happens k e).core.server → NamesAfter past k e
after_still past k e still = record { now = inl still.names; waiting = λ i c a at asks_ owned. inl (still.waiting i c at) }

-- ---- what is made, and what is answered

-- a step that leaves this keeps names, or it makes what this call asks for, and answers it on a session that it is done
abbrev Turned : Core → (session xid : ℕ) → (call : Nfs) → Reservation → CoreStep → Type 0
Turned k n xid call held t = ((dir : ℕ) → names_of t.core.server.tree dir ≡ names_of k.server.tree dir) ⊎ ((a : Nfs) × Contains t.down (record { session = n; message = message.Answer xid (body.Nfs a) }) × (refusal_of a ≡ None) × MakesOf call k.server.tree held t.core.server.tree)

-- nothing more waits then, or what a walk's call asked for
abbrev Leaves : Core → (session xid : ℕ) → Walk → CoreStep → Type 0
Leaves k n xid w t = (t.core.server.waiting ≡ k.server.waiting) ⊎ ((a : Asked) × (t.core.server.waiting ≡ k.server.waiting ++ coming n xid a ∷ []) × (w ≡ walk_for a))

-- what ends a walk by that refuses nothing
none_refused : (w : Walk) (a : Nfs) → walk_told w a ≡ told.Ends ended.Done → refusal_of a ≡ None
none_refused w a done = by (refusal_of a) refl
  where
    apart : {A : Type 0} (s : Status) → told.Ends ended.Done ≡ told.Ends (ended.Refused s) → A
    apart s e = absurd cc

    by : (o : Option Status) → refusal_of a ≡ o → o ≡ None
    by None is = refl
    by (Some s) is = apart s (sym done ∙ refused_leads w a s is)

makes_of : (dir : ℕ) (left : List (List ℕ)) (g : Goal) (t : Tree) (held : Reservation) → makes_at left g ≡ true → MakesOf (call_at dir left g) t held (step_by t held dir g).0
makes_of dir [] (goal.Make n) t held e = (dir, n, refl, refl)
makes_of dir [] (goal.MakeDir n) t held e = (dir, n, refl, refl)
makes_of dir [] (goal.Remove n) t held e = (dir, n, refl, refl)
makes_of dir [] (goal.RemoveDir n) t held e = (dir, n, refl, refl)
makes_of dir [] (goal.RenameTo from n to) t held e = (from, n, dir, to, refl, refl)
makes_of dir left g t held e = absurd cc

said_done : (k : Core) (n xid : ℕ) (w : Walk) (held : Reservation) (r : NameReply) (t : CoreStep) (done : Changed) → is_making w ≡ true → step_by k.server.tree held w.dir w.goal ≡ (t.core.server.tree, Ok done) → t.down ≡ record { session = n; message = message.Answer xid (body.Nfs (name_answer r)) } ∷ [] → walk_told w (name_answer r) ≡ told.Ends ended.Done → Turned k n xid (next_call w) held t
said_done k n xid w held r t done making step down leads = inr (
  name_answer r,
  subst (λ (l : List Sent). Contains l (record { session = n; message = message.Answer xid (body.Nfs (name_answer r)) })) (sym down) (Contains-push [] (record { session = n; message = message.Answer xid (body.Nfs (name_answer r)) })),
  none_refused w (name_answer r) leads,
  subst (MakesOf (next_call w) k.server.tree held) (ap (λ (p : Tree × Result Changed Status). p.0) step) (makes_of w.dir w.left w.goal k.server.tree held making),
)

built_turned : (k : Core) (n now : ℕ) (x : Session) (xid : ℕ) (w : Walk) → is_building w ≡ true → (let t = making_got k n now x xid (made_by k.server.tree (server.held k.server.waiting) w.dir w.goal) in Turned k n xid (next_call w) (server.held k.server.waiting) t × Leaves k n xid w t)
built_turned k n now x xid w building = (by (made_walk k.server.tree (server.held k.server.waiting) w building), inl refl)
  where
    by : MadeSo k.server.tree (server.held k.server.waiting) w → Turned k n xid (next_call w) (server.held k.server.waiting) (making_got k n now x xid (made_by k.server.tree (server.held k.server.waiting) w.dir w.goal))
    by (refuses s r is err turned leads procs) = subst (λ (p : Tree × Finished). Turned k n xid (next_call w) (server.held k.server.waiting) (making_got k n now x xid p)) (sym is) (inl (λ dir. refl))
    by (enters done e r after is step first_is second_is entry_is after_is leads procs) = subst (λ (p : Tree × Finished). Turned k n xid (next_call w) (server.held k.server.waiting) (making_got k n now x xid p)) (sym is) (said_done k n xid w (server.held k.server.waiting) r (making_got k n now x xid (after, record { answer = name_answer r; first = Some e; second = None })) done (building_makes w.left w.goal building) step refl leads)

going_turned : (k : Core) (n now : ℕ) (x : Session) (xid : ℕ) (w : Walk) → IsWalkSmall w → is_going w ≡ true → stands k.server n ≡ true → IsBounded k.server.tree → (let t = server_got k n now x (message.Call xid (body.Nfs (next_call w))) in Turned k n xid (next_call w) (server.held k.server.waiting) t × Leaves k n xid w t)
going_turned k n now x xid w small going standing bounded = by (comes_so k.server.tree (server.held k.server.waiting) (has_waiting k.server.waiting n) w bounded small going)
  where
    by : ComesSo k.server.tree (server.held k.server.waiting) (has_waiting k.server.waiting n) w → (let t = server_got k n now x (message.Call xid (body.Nfs (next_call w))) in Turned k n xid (next_call w) (server.held k.server.waiting) t × Leaves k n xid w t)
    by (refused s r is why turned leads procs) = subst (λ (t : CoreStep). Turned k n xid (next_call w) (server.held k.server.waiting) t × Leaves k n xid w t) (sym (got_answered k n now x xid w k.server.tree (said (name_answer r)) small going standing is)) (inl (λ dir. refl), inl refl)
    by (done_now done r after is step first second leads procs files none root next) =
        let d : Finished = record { answer = name_answer r; first = done.first; second = done.second } in
        subst (λ (t : CoreStep). Turned k n xid (next_call w) (server.held k.server.waiting) t × Leaves k n xid w t) (sym (got_answered k n now x xid w after d small going standing is)) (said_done k n xid w (server.held k.server.waiting) r (making_got k n now x xid (after, d)) done (going_makes w.left w.goal going) step refl leads, inl refl)
    by (waits a g is asks_ there room free two) = subst (λ (t : CoreStep). Turned k n xid (next_call w) (server.held k.server.waiting) t × Leaves k n xid w t) (sym (got_waits k n now x xid w a small going standing is)) (inl (λ dir. refl), inr (a, refl, walk_is w a asks_))

asked_makes : (a : Asked) → is_making (walk_for a) ≡ true
asked_makes (asked.Remove r) = refl
asked_makes (asked.Rename r) = refl

settled_turned : (k : Core) (now : ℕ) (c : FileChange) (cs : List FileChange) (a : Asked) → SettlesSo k.server.tree (server.held cs) (walk_for a) a → Turned k c.session c.xid (next_call (walk_for a)) (server.held cs) (asked_step k now c cs (tree_settles k.server.tree (server.held cs) a))
settled_turned k now c cs a so = by so
  where
    by : SettlesSo k.server.tree (server.held cs) (walk_for a) a → Turned k c.session c.xid (next_call (walk_for a)) (server.held cs) (asked_step k now c cs (tree_settles k.server.tree (server.held cs) a))
    by (refused_late s r is why turned leads procs) = subst (λ (p : Tree × Finished). Turned k c.session c.xid (next_call (walk_for a)) (server.held cs) (asked_step k now c cs p)) (sym is) (inl (λ dir. refl))
    by (goes done r after is step gone second leads procs files none off root next) =
        let d : Finished = record { answer = name_answer r; first = done.first; second = done.second } in
        subst (λ (p : Tree × Finished). Turned k c.session c.xid (next_call (walk_for a)) (server.held cs) (asked_step k now c cs p)) (sym is) (said_done k c.session c.xid (walk_for a) (server.held cs) r (asked_step k now c cs (after, d)) done (asked_makes a) step refl leads)

-- so what is said of the step
now_by : (past : List Moment) (m : Moment) (n xid : ℕ) (takes : TakesNaming past n xid) → ComesTo m n xid (step_of takes.taken) → Turned m.before n xid takes.call (held_at m) (happens m.before m.event) → KeepsNames m ⊎ (MakesNaming past m ⊎ ChangesRaw m)
now_by past m n xid takes comes (inl keeps) = inl keeps
now_by past m n xid takes comes (inr answered) = inr (inl (record { session = n; xid = xid; takes = takes; comes = comes; makes = answered.3; answer = answered.0; told = answered.1; done = answered.2 }))

-- ---- a call is taken

names_serves : FitLaws → (all past : List Moment) (opening : List Opening) (k : Core) (qs mid : List Queue) (n now : ℕ) (bytes : List ℕ) → IsKept (book_at opening k all) k qs → FindsAsk qs n bytes mid → UpsSent past k.steps qs → NamesAfter past k (Serves n now bytes)
names_serves fits all past opening k qs mid n now bytes kept f sent = by (makes_call f.1.call) refl
  where
    past2 : List Moment
    past2 = past ++ moment k (Serves n now bytes) ∷ []

    x : (x : Session) × (numbered k.sessions n ≡ Some x)
    x = also_numbered qs k.sessions n f.0 (sym kept.made.1) f.3

    read : parse_of server_waiting bytes ≡ Ok (ask_message f.1)
    read = serves_read_plain fits (book_at opening k all) k qs n now bytes mid kept f

    read_here : parse_of (server_waits k n) bytes ≡ Ok (ask_message f.1)
    read_here = serves_read fits (book_at opening k all) k qs n now bytes mid kept f

    standing_is : x.0.hung ≡ false
    standing_is = unhung_up kept n x.0 f.0 x.1 f.3 f.1 f.2 f.4

    server_is : (happens k (Serves n now bytes)).core.server ≡ (server_step k.server (event.Got n (ask_message f.1) now)).0
    server_is = ap (λ (o : Option Session). (serves k n now bytes o).core.server) x.1 ∙ ap (λ (b : Bool). (serves_unless k n now bytes x.0 b).core.server) standing_is ∙ ap (λ (r : Result Message WireFault). (serves_if k n now x.0 r).core.server) read_here

    was : WasCalled past k.steps n f.1
    was = (subst (AllAsks (WasCalled past k.steps n)) f.4 (sent n f.0 f.3)).0

    none : makes_call f.1.call ≡ false → NamesAfter past k (Serves n now bytes)
    none plain =
        let of = is_of_files f.1 (serves_fits (book_at opening k all) k qs n now bytes mid kept f) plain in
        let tree : (server_step k.server (event.Got n (ask_message f.1) now)).0.tree ≡ k.server.tree = got_keeps (λ (z : server.State). z.tree ≡ k.server.tree) k.server n (ask_message f.1) now of (λ temps waiting index leasing w. refl) in
        let came : Waits k.server.waiting n (IsByCommit (ask_message f.1)) (server_step k.server (event.Got n (ask_message f.1) now)).0.waiting = got_keeps (λ (z : server.State). Waits k.server.waiting n (IsByCommit (ask_message f.1)) z.waiting) k.server n (ask_message f.1) now of (λ temps waiting index leasing w. w) in
        record {
          now = inl (λ dir. ap (λ (s : server.State). names_of s.tree dir) server_is ∙ ap (λ (t : Tree). names_of t dir) tree);
          waiting = λ i c a there asks_ owned. inl (elim came [
            | inl same ↦ (i, ap (λ (l : List FileChange). slice_get l i) (sym same) ∙ ap (λ (s : server.State). slice_get s.waiting i) (sym server_is) ∙ there)
            | inr one ↦ elim (of_appended k.server.waiting one.0 i c (ap (λ (l : List FileChange). slice_get l i) (sym one.2) ∙ ap (λ (s : server.State). slice_get s.waiting i) (sym server_is) ∙ there)) [
              | inr old ↦ (i, old)
              | inl last ↦ (let content = commit_content (ask_message f.1) one.0 one.3 in absurd (content_asked c content.0 a (ap (λ (z : FileChange). z.what) last.1 ∙ content.1) asks_))
            ]
          ]);
        }

    some_ : makes_call f.1.call ≡ true → NamesAfter past k (Serves n now bytes)
    some_ makes = record {
      now = now_by past2 (moment k (Serves n now bytes)) n f.1.xid takes (inl refl) both.0;
      waiting = λ i c a there asks_ owned. elim both.1 [
        | inl same ↦ inl (i, ap (λ (l : List FileChange). slice_get l i) (sym same) ∙ there)
        | inr new ↦ elim (of_appended k.server.waiting (coming n f.1.xid new.0) i c (ap (λ (l : List FileChange). slice_get l i) (sym new.1) ∙ there)) [
          | inr old ↦ inl (i, old)
          | inl last ↦ inr (subst (λ (z : FileChange). z.what ≡ wanted.Asked a → TakesAsked past2 z a) (sym last.1) (λ what. (takes, ap (λ (v : Walk). next_call v) new.2 ∙ ap (λ (b : Asked). next_call (walk_for b)) (asked_is new.0 a what))) asks_)
        ]
      ];
    }
      where
        w : (w : Walk) × (f.1.call ≡ Walks w) × (is_making w ≡ true)
        w = walk_made f.1.call makes

        is : ask_message f.1 ≡ message.Call f.1.xid (body.Nfs (next_call w.0))
        is = ap (λ (c : Call). ask_message (record { lbfs = f.1.lbfs; xid = f.1.xid; call = c })) w.1

        fit : CallFits f.1.lbfs f.1.xid (Walks w.0)
        fit = subst (CallFits f.1.lbfs f.1.xid) w.1 (serves_fits (book_at opening k all) k qs n now bytes mid kept f)

        h : IsSession (book_at opening k all) k.seats k.server n x.0 f.0
        h = kept.sessions n x.0 f.0 x.1 f.3 (owned_up kept n x.0 f.0 x.1 f.3 f.1 f.2 f.4)

        standing : stands k.server n ≡ true
        standing = h.stands_is ∙ ap not standing_is

        step_is : happens k (Serves n now bytes) ≡ server_got k n now x.0 (message.Call f.1.xid (body.Nfs (next_call w.0)))
        step_is = ap (λ (o : Option Session). serves k n now bytes o) x.1 ∙ ap (serves_unless k n now bytes x.0) standing_is ∙ ap (λ (r : Result Message WireFault). serves_if k n now x.0 r) (read_here ∙ ap (λ (m : Message). Ok m) is)

        changes : ChangesNames (next_call w.0)
        changes = changes_made w.0.dir w.0.left w.0.goal w.2

        takes : TakesNaming past2 n f.1.xid
        takes = record {
          call = next_call w.0;
          changes = changes;
          taken = moment k (Serves n now bytes);
          there = Contains-append_right past (moment k (Serves n now bytes) ∷ []) (moment k (Serves n now bytes)) (Contains-push [] (moment k (Serves n now bytes)));
          now = now;
          bytes = bytes;
          event_is = refl;
          parsed = read ∙ ap (λ (m : Message). Ok m) is;
          sent = record {
            moment = was.moment;
            there = Contains-append_left past (moment k (Serves n now bytes) ∷ []) was.moment was.there;
            before = (let le = was.by in omega (arith, le));
            on = was.session;
            sent = subst (λ (m : Message). Contains (happens was.moment.before was.moment.event).up m) is was.sent;
          };
        }

        both : Turned k n f.1.xid (next_call w.0) (server.held k.server.waiting) (happens k (Serves n now bytes)) × Leaves k n f.1.xid w.0 (happens k (Serves n now bytes))
        both = subst (λ (t : CoreStep). Turned k n f.1.xid (next_call w.0) (server.held k.server.waiting) t × Leaves k n f.1.xid w.0 t) (sym step_is) (elim (making_is w.0.left w.0.goal w.2) [
          | inl built ↦ subst (λ (t : CoreStep). Turned k n f.1.xid (next_call w.0) (server.held k.server.waiting) t × Leaves k n f.1.xid w.0 t) (sym (got_making k n now x.0 f.1.xid w.0 fit.1 built standing)) (built_turned k n now x.0 f.1.xid w.0 built)
          | inr going ↦ going_turned k n now x.0 f.1.xid w.0 fit.1 going standing kept.server.bounded
        ])

    by : (b : Bool) → makes_call f.1.call ≡ b → NamesAfter past k (Serves n now bytes)
    by true is = some_ is
    by false is = none is

-- ---- what waits is settled

names_settles : (past : List Moment) (book : Book) (k : Core) (qs : List Queue) (now : ℕ) → IsKept book k qs → AreNamed past k → NamesAfter past k (Settles now)
names_settles past book k qs now kept h = by (what_settles book k qs now kept)
  where
    by : WhatSettles k now → NamesAfter past k (Settles now)
    by (settles_none none is) = after_still past k (Settles now) (still_same k.server (happens k (Settles now)).core.server (ap (λ (t : CoreStep). t.core.server) is))
    by (settles_one c cs out) = record { now = first c.what refl (raw_or_owned home.0); waiting = λ i d a there asks_ owned. inl (out.out.others i d (ap (λ (l : List FileChange). slice_get l i) (sym left) ∙ there)) }
      where
        before : server.State
        before = at (record k.server { waiting = cs }) now

        server_is : (happens k (Settles now)).core.server ≡ (makes_change (at (record k.server { waiting = cs }) now) c c.what).0
        server_is = ap (λ (t : CoreStep). t.core.server) out.is

        left : (happens k (Settles now)).core.server.waiting ≡ cs
        left = ap (λ (s : server.State). s.waiting) server_is ∙ made_waiting before c c.what

        home : (x : Session) × (numbered k.sessions c.session ≡ Some x) × (x.hung ≡ false)
        home = kept.home out.out.place c out.out.there

        first : (w : Wanted) → c.what ≡ w → (is_raw home.0 ≡ true) ⊎ (is_raw home.0 ≡ false) → KeepsNames (moment k (Settles now)) ⊎ (MakesNaming (past ++ moment k (Settles now) ∷ []) (moment k (Settles now)) ⊎ ChangesRaw (moment k (Settles now)))
        first (wanted.Asked a) what (inl raw) =
            let tree = ap (λ (t : CoreStep). t.core.server.tree) (asked_settles k now c cs a out what) ∙ ap (λ (held : Reservation). (tree_settles k.server.tree held a).0) (sym (ap server.held out.others)) in
            inr (inr (c.session, home.0, home.1, raw, inr (now, c, a, refl, out.ready, refl, what, tree)))
        first (wanted.Content content) what whose = inl (λ dir.
            ap (λ (s : server.State). names_of s.tree dir) server_is
            ∙ ap (λ (w : Wanted). names_of (makes_change (at (record k.server { waiting = cs }) now) c w).0.tree dir) what
            ∙ commits_names k.server.tree (server.held cs) c.file content dir)
        first (wanted.Asked a) what (inr owned) =
            let wants = subst (IsWanted c.file) what (kept.server.wants out.out.place c out.out.there) in
            let so = settles_so k.server.tree (server.held cs) (walk_for a) a kept.server.bounded wants.2 (asks_itself a) wants.1 (λ n d. no_directory book k.server (file_of a) n kept.server (subst (λ (f : ℕ). WasThere book f) wants.0 (kept.server.targets out.out.place c out.out.there)) d) in
            let was = h.waiting out.out.place c a out.out.there what (home.0, home.1, owned) in
            let room : server.held cs ≡ server.held (others_waiting (Settles now) k.server) = sym (ap server.held out.others) in
            now_by (past ++ moment k (Settles now) ∷ []) (moment k (Settles now)) c.session c.xid
            (takes_later past (moment k (Settles now)) c.session c.xid was.0)
            (inr (record { now = now; event_is = refl; change = c; ready = out.ready; session_is = refl; xid_is = refl }))
            (subst (λ (call : Nfs). Turned k c.session c.xid call (held_at (moment k (Settles now))) (happens k (Settles now))) (sym was.1)
            (subst (λ (held : Reservation). Turned k c.session c.xid (next_call (walk_for a)) held (happens k (Settles now))) room
            (subst (Turned k c.session c.xid (next_call (walk_for a)) (server.held cs)) (sym (asked_settles k now c cs a out what)) (settled_turned k now c cs a so))))

-- ---- a session that is no client's

-- a step leaves this tree: the one before, or what a call that may change names comes to
abbrev StaysOrNames : Core → (n : ℕ) → List ℕ → Tree → Type 0
StaysOrNames k n bytes t = (t ≡ k.server.tree) ⊎ ((xid : ℕ) × (call : Nfs) × (parse_of server_waiting bytes ≡ Ok (message.Call xid (body.Nfs call))) × ChangesNames call
    × (t ≡ (calls k.server.tree (server.held k.server.waiting) (has_waiting k.server.waiting n) call).0))

-- by any of its messages but such a call names stay
raw_names : (k : Core) (n now : ℕ) (bytes : List ℕ) (x : Session) → numbered k.sessions n ≡ Some x → is_raw x ≡ true → KeepsNames (moment k (Serves n now bytes)) ⊎ ChangesRaw (moment k (Serves n now bytes))
raw_names k n now bytes x on raw = elim (by x.hung) [
  | inl same ↦ inl (λ dir. ap (λ (o : Option Session). names_of (serves k n now bytes o).core.server.tree dir) on ∙ ap (λ (t : Tree). names_of t dir) same)
  | inr own ↦ inr (n, x, on, raw, inl (now, own.0, bytes, own.1, refl, own.2, own.3, ap (λ (o : Option Session). (serves k n now bytes o).core.server.tree) on ∙ own.4))
]
  where
    lost : (b : Bool) → StaysOrNames k n bytes (Rattle.server_core.specs.Step.hangs_if k.server b n).0.tree
    lost true = inl refl
    lost false = inl refl

    none : (e : WireFault) → StaysOrNames k n bytes (serves_none k n x e).core.server.tree
    none (fault.UnknownXid xid) = inl refl
    none (fault.NotRpc place) = lost (stands k.server n)
    none (fault.Garbage place) = lost (stands k.server n)

    named : (b : Body) → MayName b → (xid : ℕ) → parse_of server_waiting bytes ≡ Ok (message.Call xid b) → StaysOrNames k n bytes (called (at k.server now) n xid b).0.tree
    named (body.Nfs call) may xid read = inr (xid, call, read, may, named_tree (at k.server now) n xid call may)
    named (body.Lb call) may xid read = absurd may
    named (body.Back call) may xid read = absurd may

    got : (m : Message) → parse_of (server_waits k n) bytes ≡ Ok m → (b : Bool) → StaysOrNames k n bytes (Rattle.server_core.specs.Step.got_if k.server b n m now).0.tree
    got (message.Call xid b) read true = elim (called_tree (at k.server now) n xid b) [ inl same ↦ inl same | inr may ↦ named b may xid (call_read k n bytes xid b read) ]
    got (message.Unfit xid why) read true = inl refl
    got (message.Answer xid b) read true = inl refl
    got (message.Refuse xid why) read true = inl refl
    got m read false = inl refl

    taken : (r : Result Message WireFault) → parse_of (server_waits k n) bytes ≡ r → StaysOrNames k n bytes (serves_if k n now x r).core.server.tree
    taken (Ok m) read = got m read (stands k.server n)
    taken (Err e) read = none e

    by : (b : Bool) → StaysOrNames k n bytes (serves_unless k n now bytes x b).core.server.tree
    by true = inl refl
    by false = taken (parse_of (server_waits k n) bytes) refl

names_raw : (past : List Moment) (k : Core) (n now : ℕ) (bytes : List ℕ) (x : Session) → numbered k.sessions n ≡ Some x → is_raw x ≡ true → NamesAfter past k (Serves n now bytes)
names_raw past k n now bytes x at raw = record {
  now = elim (raw_names k n now bytes x at raw) [ inl same ↦ inl same | inr own ↦ inr (inr own) ];
  waiting = λ i c a there asks_ owned. inl (of_those i c there (λ own. true_and_false (is_raw x) raw (owned_before k (Serves n now bytes) n x owned.0 at (ap (numbered (happens k (Serves n now bytes)).core.sessions) (sym own) ∙ owned.1) owned.2)));
}
  where
    -- a change more is that session's
    came : (o : Option Session) → numbered k.sessions n ≡ o → Waits k.server.waiting n (λ c. Unit {0}) (serves k n now bytes o).core.server.waiting ⊎ ((i : ℕ) (c : FileChange) → slice_get (serves k n now bytes o).core.server.waiting i ≡ Some c → (j : ℕ) × (slice_get k.server.waiting j ≡ Some c))
    came None e = inl (inl refl)
    came (Some y) e = by y.hung
      where
        lost : (b : Bool) (i : ℕ) (c : FileChange) → slice_get (Rattle.server_core.specs.Step.hangs_if k.server b n).0.waiting i ≡ Some c → (j : ℕ) × (slice_get k.server.waiting j ≡ Some c)
        lost b i c there = (hung_still k n b).waiting i c there

        none : (e : WireFault) → Waits k.server.waiting n (λ c. Unit {0}) (serves_none k n y e).core.server.waiting ⊎ ((i : ℕ) (c : FileChange) → slice_get (serves_none k n y e).core.server.waiting i ≡ Some c → (j : ℕ) × (slice_get k.server.waiting j ≡ Some c))
        none (fault.UnknownXid xid) = inl (inl refl)
        none (fault.NotRpc place) = inr (lost (stands k.server n))
        none (fault.Garbage place) = inr (lost (stands k.server n))

        read : (r : Result Message WireFault) → Waits k.server.waiting n (λ c. Unit {0}) (serves_if k n now y r).core.server.waiting ⊎ ((i : ℕ) (c : FileChange) → slice_get (serves_if k n now y r).core.server.waiting i ≡ Some c → (j : ℕ) × (slice_get k.server.waiting j ≡ Some c))
        read (Ok m) = inl (any_waits k.server n m now (stands k.server n))
        read (Err e) = none e

        by : (b : Bool) → Waits k.server.waiting n (λ c. Unit {0}) (serves_unless k n now bytes y b).core.server.waiting ⊎ ((i : ℕ) (c : FileChange) → slice_get (serves_unless k n now bytes y b).core.server.waiting i ≡ Some c → (j : ℕ) × (slice_get k.server.waiting j ≡ Some c))
        by true = inl (inl refl)
        by false = read (parse_of (server_waits k n) bytes)

    of_those : (i : ℕ) (c : FileChange) → slice_get (happens k (Serves n now bytes)).core.server.waiting i ≡ Some c → (c.session ≡ n → ⊥) → (j : ℕ) × (slice_get k.server.waiting j ≡ Some c)
    of_those i c there other = elim (came (numbered k.sessions n) refl) [
      | inr old ↦ old i c there
      | inl more_ ↦ elim more_ [
        | inl same ↦ (i, ap (λ (l : List FileChange). slice_get l i) (sym same) ∙ there)
        | inr more ↦ elim (of_appended k.server.waiting more.0 i c (ap (λ (l : List FileChange). slice_get l i) (sym more.2) ∙ there)) [
          | inl last ↦ absurd (other (ap (λ (z : FileChange). z.session) last.1 ∙ more.1))
          | inr old ↦ (i, old)
        ]
      ]
    ]

-- ---- any event

names_event : FitLaws → (all past rest : List Moment) (opening : List Opening) (k : Core) (qs : List Queue) (e : Event) (mid after : List Queue) → Step all past rest opening k qs e mid after → UpsSent past k.steps qs → AreNamed past k → NamesAfter past k e
names_event fits all past rest opening k qs (Serves n now bytes) mid after s sent h = by s.finds
  where
    -- by an answer to a RECALL nothing waits, and no name moves
    by : Finds k qs (Serves n now bytes) mid → NamesAfter past k (Serves n now bytes)
    by (inl f) = names_serves fits all past opening k qs mid n now bytes s.kept f sent
    by (inr (inl f)) = after_still past k (Serves n now bytes) (elim (reply_taken fits k qs n now bytes mid f) [
      | inl taken ↦ subst (λ (t : CoreStep). IsStill k.server t.core.server) (sym taken.1) (record { names = λ dir. refl; waiting = those_same k.server.waiting k.server.waiting refl })
      | inr lost ↦ subst (λ (t : CoreStep). IsStill k.server t.core.server) (sym lost) (hung_still k n (stands k.server n))
    ])
    by (inr (inr f)) = names_raw past k n now bytes f.0 f.1 f.2
names_event fits all past rest opening k qs (Settles now) mid after s sent h = names_settles past (book_at opening k all) k qs now s.kept h
names_event fits all past rest opening k qs e mid after s sent h = after_still past k e (others_still k e (λ n now bytes z. absurd cc) (λ now z. absurd cc))

-- ---- no session of a client is closed

-- what comes up one is the first call on its way, or an answer to a RECALL: it is read, or isn't waited for any more
closes_raw : FitLaws → (all past rest : List Moment) (opening : List Opening) (k : Core) (qs : List Queue) (e : Event) (mid after : List Queue) → Step all past rest opening k qs e mid after → ClosesRaw (moment k e)
closes_raw fits all past rest opening k qs e mid after s n now bytes x is on closed = by (subst (λ (z : Event). Finds k qs z mid) is s.finds)
  where
    read_fails : {A : Type 0} (m : Message) (f : WireFault) → ◌≡◌ {A = Result Message WireFault} (Ok m) (Err f) → A
    read_fails m f z = absurd cc

    nothing_lost : {A : Type 0} (z : ℕ) → ◌≡◌ {A = Loss} Nothing (Up_of z) → A
    nothing_lost z e = absurd cc

    gone : (f : WireFault) → EndsSession f → (serves_none k n x f).loss ≡ Up_of n
    gone (fault.UnknownXid xid) ends = absurd ends
    gone (fault.NotRpc place) ends = refl
    gone (fault.Garbage place) ends = refl

    by : Finds k qs (Serves n now bytes) mid → is_raw x ≡ true
    by (inl f) = read_fails (ask_message f.1) closed.0 (sym (serves_read fits (book_at opening k all) k qs n now bytes mid s.kept f) ∙ closed.1)
    by (inr (inl f)) =
        let unhung : x.hung ≡ false = ap (λ (z : Session). z.hung) (some_is x f.session (sym on ∙ f.at)) ∙ f.unhung in
        let silent = reply_silent fits k n now f.xid x on unhung f.fits s.kept.server.leases.1 in
        let lost : (happens k (Serves n now bytes)).loss ≡ Up_of n =
        ap (λ (o : Option Session). (serves k n now bytes o).loss) on
        ∙ ap (λ (b : Bool). (serves_unless k n now bytes x b).loss) unhung
        ∙ ap (λ (r : Result Message WireFault). (serves_if k n now x r).loss) closed.1
        ∙ gone closed.0 closed.2 in
        nothing_lost n (sym silent.0 ∙ ap (λ (z : List ℕ). (happens k (Serves n now z)).loss) (sym f.bytes_is) ∙ lost)
    by (inr (inr f)) = ap is_raw (some_is x f.0 (sym on ∙ f.1)) ∙ f.2

-- beside what is saved, by which each call that is taken had been sent
pub record AllNamed (all past : List Moment) (opening : List Opening) (k : Core) (qs : List Queue) : Type 0 where
  pub saved : AllSaved all past opening k qs
  pub named : AreNamed past k
  pub closes : (m : Moment) → Contains past m → ClosesRaw m

pub carried_named : FitLaws → Carried AllNamed
carried_named fits = record {
  first = λ all opening tree count kept. record { saved = (carried_saved fits).first all opening tree count kept; named = record { waiting = λ i c a there asks_ owned. nothing_there c there; each = λ m there. (let lt = there.1 in absurd (omega (arith, lt))) }; closes = λ m there. (let lt = there.1 in absurd (omega (arith, lt))) };
  steps = λ all past rest opening k qs e mid after s h. record { saved = (carried_saved fits).steps all past rest opening k qs e mid after s h.saved; named = named_after past k e s.kept.home (names_event fits all past rest opening k qs e mid after s h.saved.called h.named) h.named; closes = λ m there. elim (Contains-push_cases past (moment k e) m there) [ inl old ↦ h.closes m old | inr new ↦ subst ClosesRaw new (closes_raw fits all past rest opening k qs e mid after s) ] };
  adjusts = λ all past opening k qs index seats same h. record { saved = (carried_saved fits).adjusts all past opening k qs index seats same h.saved; named = record { waiting = h.named.waiting; each = h.named.each }; closes = h.closes };
}

-- ---- what it makes of the promise

pub names_change : (book : Book) (m : Moment) → KeepsNames m ⊎ (MakesNaming book.moments m ⊎ ChangesRaw m) → ((z : Moment) → Contains book.moments z → IsSilent z ⊎ ((k : ℕ) × (o : Op) × (slice_get book.ops k ≡ Some o) × (is_in o (step_of z) (client_of z.before z.event) ≡ true))) → NamesChangeBy book m
names_change book m (inl keeps) owned = inl keeps
names_change book m (inr (inr raw)) owned = inr (inr raw)
names_change book m (inr (inl n)) owned = (let w = own (owned n.takes.sent.moment n.takes.sent.there) in inr (inl (n, w.0, w.1, w.2, w.3)))
  where
    none_sent : (z : Message) → Contains [] z → ⊥
    none_sent z c = let lt = c.1 in absurd (omega (arith, lt))

    own : IsSilent n.takes.sent.moment ⊎ ((k : ℕ) × (o : Op) × (slice_get book.ops k ≡ Some o) × (is_in o (step_of n.takes.sent.moment) (client_of n.takes.sent.moment.before n.takes.sent.moment.event) ≡ true)) → (k : ℕ) × (o : Op) × (slice_get book.ops k ≡ Some o) × (is_in o (step_of n.takes.sent.moment) (client_of n.takes.sent.moment.before n.takes.sent.moment.event) ≡ true)
    own (inr has) = has
    own (inl silent) = absurd (none_sent (message.Call n.xid (body.Nfs n.takes.call)) (subst (λ (l : List Message). Contains l (message.Call n.xid (body.Nfs n.takes.call))) silent.2 (call_asked (happens n.takes.sent.moment.before n.takes.sent.moment.event).up n.xid (body.Nfs n.takes.call) n.takes.sent.sent)))
