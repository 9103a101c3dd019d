-- A call is taken at the server: clients are as they were, nothing goes up, and operations are as they were, but for one that made a file.
use Rattle.std.proofs.Common.{◌⊎◌, inl, inr, ◌≡◌, ℕ, ◌+◌, ◌≤◌, List, [], ◌∷◌, ◌++◌, length, replicate, zero, suc, append-nil, Option, Some, None, Bool, true, false, Result, Ok, refl, sym, ap, ◌∙◌, subst, arith, Err}
use Rattle.tree_reading.specs.Tree.{Tree}
use Rattle.tree_reading.specs.Plans.{made_entry}
use Rattle.tree_reading.specs.declared.entry.Entry.{Entry as TreeEntry}
use Rattle.tree_reading.specs.declared.entry.EntryKind.TheVariants as kind
use Rattle.tree_calls.specs.declared.asked.Done.{Done as Finished}
use Rattle.path_calls.specs.declared.walk.Goal.{Goal}
use Rattle.path_calls.specs.declared.walk.Walk.{Walk}
use Rattle.register_model.specs.declared.op.Word.TheVariants as words
use Rattle.server_core.specs.State as server
use Rattle.server_core.specs.declared.event.Event.TheVariants as event
use Rattle.server_core.specs.Closing.{entry_by as written_by, entries_by}
use Rattle.tree_calls.specs.Changing.{said}
use Rattle.path_calls.specs.Walk.{next_call}
use Rattle.wire.specs.declared.message.Body.TheVariants as body
use Rattle.wire.specs.declared.fault.WireFault.TheVariants as fault
use Rattle.wire.specs.declared.message.Message.TheVariants as message
use Rattle.server_law.proofs.lemmas.Trees.{IsBounded, IsGiven, given}
use Rattle.trace_ends.specs.Core.{idles, server_got, changed_file, is_of_file, newest_entries, serves_none}
use Rattle.trace_ends.specs.Ops.{pointed_at, pointed}
use Rattle.kept_promise.proofs.Common.{slice_get, slice_set, cond, option_map, not, stands, has_waiting, name_answer, Call, Call.Walks, Entry, Op, Message, WireFault, Core, Session, Event.Serves, CoreStep, numbered, serves_if, serves, happens, Book, Queue, Ask, ask_message, serves_unless, server_step, quiet, is_raw, loses, parse_of, server_waits}
use Rattle.kept_promise.proofs.Lists.{some_is, nothing_there, true_and_false}
use Rattle.kept_promise.proofs.Fits.{FitLaws}
use Rattle.kept_promise.proofs.Messages.{job, goal_word, AllAsks, IsCommit, IsCreating}
use Rattle.kept_promise.proofs.Rights.{IsUnmade}
use Rattle.kept_promise.proofs.Facts.{IsSession, IsKept, change_number}
use Rattle.kept_promise.proofs.Statements.{CallFits}
use Rattle.kept_promise.proofs.RunsCarried.{Finds, FindsAsk}
use Rattle.kept_promise.proofs.CallsKeep.{got_keeps, is_of_files, makes_call, walk_made}
use Rattle.kept_promise.proofs.PathNames.{IsWalkSmall, builds_at, creates_at, is_making, is_building, is_going, is_creating, making_is, going_creates}
use Rattle.kept_promise.proofs.Makings.{made_by, MadeSo, refuses, enters, made_walk, EntryAt}
use Rattle.kept_promise.proofs.MakingServes.{name_goal, make_goal, entry_name}
use Rattle.kept_promise.proofs.ServesFiles.{count_is, quiet_got, got_quiet, got_making, making_got, pointed_none}
use Rattle.kept_promise.proofs.GoingCalls.{IsName}
use Rattle.kept_promise.proofs.Departures.{ComesSo, refused, done_now, waits, comes_so}
use Rattle.kept_promise.proofs.GoingSteps.{waits_got, got_answered, got_waits}
use Rattle.kept_promise.proofs.GoingServes.{names_none, names_unchanged}
use Rattle.kept_promise.proofs.Actors.{serves_read, serves_fits}
use Rattle.kept_promise.proofs.Replies.{reply_taken}
use Rattle.kept_promise.proofs.Turns.{unnoted, owned_up, also_numbered}
use Rattle.kept_promise.proofs.AnyCall.{any_entered, hung_journal, serves_plain}

-- an operation made a file in this step, which is its point
pub record MadeHere (k : Core) (after : List Op) : Type 0 where
  pub place : ℕ
  pub op : Op
  pub there : slice_get k.ops place ≡ Some op
  pub unmade : IsUnmade op
  pub word_is : op.word ≡ words.Make
  pub file_is : op.file ≡ 0
  pub new : ℕ
  pub after_is : after ≡ slice_set k.ops place (record op { file = new; point = Some (k.steps + 1) })

-- the journal has these entries more, none of which is of a content that was replaced
pub record Entered (k : Core) (t : CoreStep) : Type 0 where
  pub es : List Entry
  pub entries : t.core.entries ≡ k.entries ++ replicate (length es) (k.steps + 1)
  pub journal : t.core.server.journal ≡ k.server.journal ++ es
  pub plain : (i : ℕ) (e : Entry) → slice_get es i ≡ Some e → e.kind ≡ kind.Commit → ⊥

-- no file goes by them
abbrev pub NoneGoes : List Entry → Type 0
NoneGoes es = (i : ℕ) (e : Entry) → slice_get es i ≡ Some e → e.kind ≡ kind.Remove → ⊥

pub record IsQuiet (k : Core) (t : CoreStep) : Type 0 where
  pub ops : (t.core.ops ≡ k.ops) ⊎ MadeHere k t.core.ops
  pub seats : t.core.seats ≡ k.seats
  pub passes : k.steps ≤ t.core.steps
  pub up : t.up ≡ []
  pub entered : Entered k t
  pub stays : NoneGoes entered.es

abbrev EnteredStays : Core → CoreStep → Type 0
EnteredStays k t = (q : Entered k t) × NoneGoes q.es

abbrev none_entered : (k : Core) (t : CoreStep) → t.core.entries ≡ k.entries → t.core.server.journal ≡ k.server.journal → Entered k t
none_entered k t entries journal = record { es = []; entries = entries ∙ sym (append-nil k.entries); journal = journal ∙ sym (append-nil k.server.journal); plain = λ i e at. nothing_there e at }

-- an entry of what a walk's call makes is of no content
entry_plain : (t : Tree) (left : List (List ℕ)) (g : Goal) (e : TreeEntry) (b : Bool) → builds_at left g ≡ true → creates_at left g ≡ b → EntryAt t g e → e.kind ≡ kind.Commit → ⊥
entry_plain t left g e false m c is commit = name_commit (sym (entry_name t g e (name_goal left g m c) is) ∙ commit)
  where
    name_commit : kind.Name ≡ kind.Commit → ⊥
    name_commit z = absurd cc
entry_plain t left g e true m c is commit = make_commit (sym (ap (λ (z : TreeEntry). z.kind) (subst (λ (z : Goal). EntryAt t z e) (make_goal left g m c).1 is)) ∙ commit)
  where
    make_commit : kind.Make ≡ kind.Commit → ⊥
    make_commit z = absurd cc

-- nor is it one of a file that goes
entry_stays : (t : Tree) (left : List (List ℕ)) (g : Goal) (e : TreeEntry) (b : Bool) → builds_at left g ≡ true → creates_at left g ≡ b → EntryAt t g e → e.kind ≡ kind.Remove → ⊥
entry_stays t left g e false m c is goes = name_goes (sym (entry_name t g e (name_goal left g m c) is) ∙ goes)
  where
    name_goes : kind.Name ≡ kind.Remove → ⊥
    name_goes z = absurd cc
entry_stays t left g e true m c is goes = make_goes (sym (ap (λ (z : TreeEntry). z.kind) (subst (λ (z : Goal). EntryAt t z e) (make_goal left g m c).1 is)) ∙ goes)
  where
    make_goes : kind.Make ≡ kind.Remove → ⊥
    make_goes z = absurd cc

making_entered : (k : Core) (n now : ℕ) (x : Session) (xid : ℕ) (w : Walk) → is_building w ≡ true → EnteredStays k (making_got k n now x xid (made_by k.server.tree (server.held k.server.waiting) w.dir w.goal))
making_entered k n now x xid w making = by (made_walk k.server.tree (server.held k.server.waiting) w making)
  where
    plain : (e : TreeEntry) → EntryAt k.server.tree w.goal e → (i : ℕ) (d : Entry) → slice_get (written_by n e ∷ []) i ≡ Some d → d.kind ≡ kind.Commit → ⊥
    plain e is zero d at commit = entry_plain k.server.tree w.left w.goal e (is_creating w) making refl is (ap (λ (z : Entry). z.kind) (some_is (written_by n e) d at) ∙ commit)
    plain e is (suc i) d at commit = nothing_there d at

    stays : (e : TreeEntry) → EntryAt k.server.tree w.goal e → NoneGoes (written_by n e ∷ [])
    stays e is zero d at goes = entry_stays k.server.tree w.left w.goal e (is_creating w) making refl is (ap (λ (z : Entry). z.kind) (some_is (written_by n e) d at) ∙ goes)
    stays e is (suc i) d at goes = nothing_there d at

    by : MadeSo k.server.tree (server.held k.server.waiting) w → EnteredStays k (making_got k n now x xid (made_by k.server.tree (server.held k.server.waiting) w.dir w.goal))
    by (refuses s r is err turned leads procs) = subst (λ (p : Tree × Finished). EnteredStays k (making_got k n now x xid p)) (sym is) (record { es = []; entries = refl; journal = refl; plain = λ i e at. nothing_there e at }, λ i e at. nothing_there e at)
    by (enters done e r after is step first_is second_is entry_is after_is leads procs) = subst (λ (p : Tree × Finished). EnteredStays k (making_got k n now x xid p)) (sym is) (record { es = written_by n e ∷ []; entries = refl; journal = refl; plain = plain e entry_is }, stays e entry_is)

-- what a call that makes something leaves of the operations
making_ops : (book : Book) (k : Core) (qs : List Queue) (n now : ℕ) (x : Session) (q : Queue) (lbfs xid : ℕ) (w : Walk) (us : List Ask) → IsKept book k qs → IsSession book k.seats k.server n x q → q.ups ≡ record { lbfs = lbfs; xid = xid; call = Walks w } ∷ us → is_building w ≡ true → (let r = making_got k n now x xid (made_by k.server.tree (server.held k.server.waiting) w.dir w.goal) in (r.core.ops ≡ k.ops) ⊎ MadeHere k r.core.ops)
making_ops book k qs n now x q lbfs xid w us kept h first making = by (made_walk k.server.tree (server.held k.server.waiting) w making)
  where
    by : MadeSo k.server.tree (server.held k.server.waiting) w → (let r = making_got k n now x xid (made_by k.server.tree (server.held k.server.waiting) w.dir w.goal) in (r.core.ops ≡ k.ops) ⊎ MadeHere k r.core.ops)
    by (refuses s r is err turned leads procs) = subst (λ (p : Tree × Finished). let r = making_got k n now x xid p in (r.core.ops ≡ k.ops) ⊎ MadeHere k r.core.ops) (sym is) (inl (pointed_none k.ops x.closing (k.steps + 1)))
    by (enters done e r after is step first_is second_is entry_is after_is leads procs) = subst (λ (p : Tree × Finished). let r = making_got k n now x xid p in (r.core.ops ≡ k.ops) ⊎ MadeHere k r.core.ops) (sym is) (of (is_creating w) refl)
      where
        of : (b : Bool) → is_creating w ≡ b → (let o = pointed_at k.ops x.closing (k.steps + 1) (changed_file (written_by n e ∷ [])) in (o ≡ k.ops) ⊎ MadeHere k o)
        of false none =
            let kind_is = entry_name k.server.tree w.goal e (name_goal w.left w.goal making none) entry_is in
            inl (ap (λ (b : Bool). pointed_at k.ops x.closing (k.steps + 1) (option_map (λ (d : Entry). d.file) (cond b (Some (written_by n e)) None))) (ap is_of_file kind_is) ∙ pointed_none k.ops x.closing (k.steps + 1))
        of true some =
            let c : IsCreating book x.closing x.cut (job h.seat) xid w = (subst (AllAsks (IsCommit book x.closing x.cut (job h.seat) h.contents)) first h.commits).0 some in
            let entry : e ≡ made_entry k.server.tree.next = subst (λ (z : Goal). EntryAt k.server.tree z e) (make_goal w.left w.goal making some).1 entry_is in
            let there : slice_get k.ops c.place ≡ Some c.op = ap (λ (l : List Op). slice_get l c.place) (sym kept.ops) ∙ c.there in
            inr (record {
              place = c.place;
              op = c.op;
              there = there;
              unmade = c.unmade;
              word_is = c.word_is ∙ ap goal_word (make_goal w.left w.goal making some).1;
              file_is = c.file_is;
              new = k.server.tree.next;
              after_is = ap (λ (z : TreeEntry). pointed_at k.ops x.closing (k.steps + 1) (changed_file (written_by n z ∷ []))) entry
                  ∙ ap (λ (z : Option ℕ). pointed_at k.ops z (k.steps + 1) (Some k.server.tree.next)) c.known
                  ∙ ap (λ (z : Option Op). pointed k.ops c.place k.server.tree.next (k.steps + 1) z) there;
            })

-- what a call that removes or renames leaves
going_quiet : (k : Core) (n now : ℕ) (x : Session) (xid : ℕ) (w : Walk) → IsWalkSmall w → is_going w ≡ true → stands k.server n ≡ true → IsBounded k.server.tree → IsQuiet k (unnoted k (server_got k n now x (message.Call xid (body.Nfs (next_call w)))))
going_quiet k n now x xid w small goes standing bounded = by (comes_so k.server.tree (server.held k.server.waiting) (has_waiting k.server.waiting n) w bounded small goes)
  where
    no_entries : (after : Tree) (d : Finished) → IsName d.first → IsName d.second → IsQuiet k (making_got k n now x xid (after, d))
    no_entries after d first second = record {
      ops = inl (ap (λ (o : Option ℕ). pointed_at k.ops x.closing (k.steps + 1) o) (names_unchanged n d.first d.second first second) ∙ pointed_none k.ops x.closing (k.steps + 1));
      seats = refl;
      passes = omega arith;
      up = refl;
      entered = record { es = entries_by n d.first d.second; entries = ap (λ (m : ℕ). k.entries ++ replicate m (k.steps + 1)) (count_is n d.first d.second); journal = refl; plain = λ i e at commit. true_and_false (is_of_file e.kind) (ap is_of_file commit) (names_none n d.first d.second first second i e at) };
      stays = λ i e at goes. true_and_false (is_of_file e.kind) (ap is_of_file goes) (names_none n d.first d.second first second i e at);
    }

    by : ComesSo k.server.tree (server.held k.server.waiting) (has_waiting k.server.waiting n) w → IsQuiet k (unnoted k (server_got k n now x (message.Call xid (body.Nfs (next_call w)))))
    by (refused s r is why turned leads procs) = subst (IsQuiet k) (sym (got_answered k n now x xid w k.server.tree (said (name_answer r)) small goes standing is)) (no_entries k.server.tree (said (name_answer r)) (λ e f. nothing_there e f) (λ e f. nothing_there e f))
    by (done_now done r after is step first second leads procs files none root next) = subst (IsQuiet k) (sym (got_answered k n now x xid w after (record { answer = name_answer r; first = done.first; second = done.second }) small goes standing is)) (no_entries after (record { answer = name_answer r; first = done.first; second = done.second }) first second)
    by (waits a g is asks there room free two) = subst (IsQuiet k) (sym (got_waits k n now x xid w a small goes standing is)) (record { ops = inl refl; seats = refl; passes = omega arith; up = refl; entered = none_entered k (waits_got k n now x xid a) refl refl; stays = λ i e at. nothing_there e at })

-- what is noted of messages that came is nothing of it
pub quiet_noted : (k : Core) (t : CoreStep) → IsQuiet k (unnoted k t) → IsQuiet k t
quiet_noted k t h = record { ops = h.ops; seats = h.seats; passes = h.passes; up = h.up; entered = record { es = h.entered.es; entries = h.entered.entries; journal = h.entered.journal; plain = h.entered.plain }; stays = h.stays }

ask_quiet : FitLaws → (book : Book) (k : Core) (qs : List Queue) (n now : ℕ) (bytes : List ℕ) (mid : List Queue) → IsKept book k qs → FindsAsk qs n bytes mid → IsQuiet k (happens k (Serves n now bytes))
ask_quiet laws book k qs n now bytes mid kept f = by (numbered k.sessions n) refl
  where
    fits : CallFits f.1.lbfs f.1.xid f.1.call
    fits = serves_fits book k qs n now bytes mid kept f

    quietly : (x : Session) → makes_call f.1.call ≡ false → IsQuiet k (unnoted k (serves_if k n now x (Ok (ask_message f.1))))
    quietly x none =
        subst (IsQuiet k) (sym (got_quiet k n now x (ask_message f.1) (is_of_files f.1 fits none)))
        (record { ops = inl refl; seats = refl; passes = omega arith; up = refl; entered = none_entered k (quiet_got k n now x (ask_message f.1)) refl (got_keeps (λ (z : server.State). z.journal ≡ k.server.journal) k.server n (ask_message f.1) now (is_of_files f.1 fits none) (λ temps waiting index leasing w. refl)); stays = λ i e at. nothing_there e at })

    no_ups : {a : Ask} {us : List Ask} → ◌≡◌ {A = List Ask} [] (a ∷ us) → ⊥
    no_ups e = absurd cc

    unhung : (x : Session) (a : Ask) (b : Bool) → x.hung ≡ b → (h : IsSession book k.seats k.server n x f.0) → f.0.ups ≡ a ∷ f.2 → x.hung ≡ false
    unhung x a false e h first = e
    unhung x a true e h first = absurd (no_ups (sym (h.lost e) ∙ first))

    building : (x : Session) → numbered k.sessions n ≡ Some x → (w : Walk) → is_building w ≡ true → f.1.call ≡ Walks w → IsQuiet k (unnoted k (serves_if k n now x (Ok (ask_message (record { lbfs = f.1.lbfs; xid = f.1.xid; call = Walks w })))))
    building x at w makes is =
        let h = kept.sessions n x f.0 at f.3 (owned_up kept n x f.0 at f.3 f.1 f.2 f.4) in
        let first : f.0.ups ≡ record { lbfs = f.1.lbfs; xid = f.1.xid; call = Walks w } ∷ f.2 = f.4 ∙ ap (λ (c : Call). record { lbfs = f.1.lbfs; xid = f.1.xid; call = c } ∷ f.2) is in
        let fit = subst (CallFits f.1.lbfs f.1.xid) is fits in
        let entered = making_entered k n now x f.1.xid w makes in
        subst (IsQuiet k) (sym (got_making k n now x f.1.xid w fit.1 makes (h.stands_is ∙ ap not (unhung x (record { lbfs = f.1.lbfs; xid = f.1.xid; call = Walks w }) x.hung refl h first))))
        (record { ops = making_ops book k qs n now x f.0 f.1.lbfs f.1.xid w f.2 kept h first makes; seats = refl; passes = omega arith; up = refl; entered = entered.0; stays = entered.1 })

    going : (x : Session) → numbered k.sessions n ≡ Some x → (w : Walk) → is_going w ≡ true → f.1.call ≡ Walks w → IsQuiet k (unnoted k (serves_if k n now x (Ok (ask_message (record { lbfs = f.1.lbfs; xid = f.1.xid; call = Walks w })))))
    going x at w goes is =
        let h = kept.sessions n x f.0 at f.3 (owned_up kept n x f.0 at f.3 f.1 f.2 f.4) in
        let first : f.0.ups ≡ record { lbfs = f.1.lbfs; xid = f.1.xid; call = Walks w } ∷ f.2 = f.4 ∙ ap (λ (c : Call). record { lbfs = f.1.lbfs; xid = f.1.xid; call = c } ∷ f.2) is in
        let fit = subst (CallFits f.1.lbfs f.1.xid) is fits in
        going_quiet k n now x f.1.xid w fit.1 goes (h.stands_is ∙ ap not (unhung x (record { lbfs = f.1.lbfs; xid = f.1.xid; call = Walks w }) x.hung refl h first)) kept.server.bounded

    making : (x : Session) → numbered k.sessions n ≡ Some x → (w : Walk) → is_making w ≡ true → f.1.call ≡ Walks w → IsQuiet k (unnoted k (serves_if k n now x (Ok (ask_message (record { lbfs = f.1.lbfs; xid = f.1.xid; call = Walks w })))))
    making x at w makes is = elim (making_is w.left w.goal makes) [ inl builds ↦ building x at w builds is | inr goes ↦ going x at w goes is ]

    any : (x : Session) → numbered k.sessions n ≡ Some x → (b : Bool) → makes_call f.1.call ≡ b → IsQuiet k (unnoted k (serves_if k n now x (Ok (ask_message f.1))))
    any x at false none = quietly x none
    any x at true some =
        let w = walk_made f.1.call some in
        subst (λ (c : Call). IsQuiet k (unnoted k (serves_if k n now x (Ok (ask_message (record { lbfs = f.1.lbfs; xid = f.1.xid; call = c })))))) (sym w.1) (making x at w.0 w.2 w.1)

    by : (x : Option Session) → numbered k.sessions n ≡ x → IsQuiet k (serves k n now bytes x)
    by None at = record { ops = inl refl; seats = refl; passes = omega arith; up = refl; entered = none_entered k (serves k n now bytes None) refl refl; stays = λ i e at. nothing_there e at }
    by (Some x) at =
        let owned = owned_up kept n x f.0 at f.3 f.1 f.2 f.4 in
        let stands = unhung x f.1 x.hung refl (kept.sessions n x f.0 at f.3 owned) f.4 in
        quiet_noted k (serves k n now bytes (Some x)) (subst (λ (b : Bool). IsQuiet k (unnoted k (serves_unless k n now bytes x b))) (sym stands) (subst (λ (r : Result Message WireFault). IsQuiet k (unnoted k (serves_if k n now x r))) (sym (serves_read laws book k qs n now bytes mid kept f)) (any x at (makes_call f.1.call) refl)))

-- ---- a session that is no client's

-- no operation is pointed at by what it asks for, since it remembers no close
pub raw_stays : (k : Core) (n now : ℕ) (bytes : List ℕ) (x : Session) → numbered k.sessions n ≡ Some x → x.closing ≡ None → (happens k (Serves n now bytes)).core.ops ≡ k.ops
raw_stays k n now bytes x at closing = ap (λ (o : Option Session). (serves k n now bytes o).core.ops) at ∙ by x.hung
  where
    pointed_by : (o : Option ℕ) → pointed_at k.ops None (k.steps + 1) o ≡ k.ops
    pointed_by None = refl
    pointed_by (Some f) = refl

    none : (e : WireFault) → (serves_none k n x e).core.ops ≡ k.ops
    none (fault.UnknownXid xid) = refl
    none _ = refl

    read : (m : Result Message WireFault) → (serves_if k n now x m).core.ops ≡ k.ops
    read (Ok m) =
        let r = server_step k.server (event.Got n m now) in
        let changed = changed_file (newest_entries r.0.journal r.1.entries) in
        ap (λ (p : Option ℕ). pointed_at k.ops p (k.steps + 1) changed) closing ∙ pointed_by changed
    read (Err e) = none e

    by : (b : Bool) → (serves_unless k n now bytes x b).core.ops ≡ k.ops
    by true = refl
    by false = read (parse_of (server_waits k n) bytes)

raw_entered : (k : Core) (n now : ℕ) (bytes : List ℕ) (x : Session) → IsGiven k.server.tree → EnteredStays k (serves k n now bytes (Some x))
raw_entered k n now bytes x given_ = by x.hung
  where
    still : (t : CoreStep) → t.core.entries ≡ k.entries → t.core.server.journal ≡ k.server.journal → EnteredStays k t
    still t entries journal = (none_entered k t entries journal, λ i e at. nothing_there e at)

    none : (e : WireFault) → EnteredStays k (serves_none k n x e)
    none (fault.UnknownXid xid) = still (serves_none k n x (fault.UnknownXid xid)) refl refl
    none (fault.NotRpc place) = still (serves_none k n x (fault.NotRpc place)) refl (hung_journal k.server n (stands k.server n))
    none (fault.Garbage place) = still (serves_none k n x (fault.Garbage place)) refl (hung_journal k.server n (stands k.server n))

    read : (m : Result Message WireFault) → EnteredStays k (serves_if k n now x m)
    read (Ok m) =
        let g = any_entered k.server n m now (stands k.server n) given_ in
        (record { es = g.0; entries = ap (λ (c : ℕ). k.entries ++ replicate c (k.steps + 1)) g.2; journal = g.1; plain = λ i e at commit. (g.3 i e at).0 commit }, λ i e at goes. (g.3 i e at).1 goes)
    read (Err e) = none e

    by : (b : Bool) → EnteredStays k (serves_unless k n now bytes x b)
    by true = still (quiet k) refl refl
    by false = read (parse_of (server_waits k n) bytes)

raw_quiet : (book : Book) (k : Core) (qs : List Queue) (n now : ℕ) (bytes : List ℕ) (x : Session) → numbered k.sessions n ≡ Some x → is_raw x ≡ true → IsKept book k qs → IsQuiet k (happens k (Serves n now bytes))
raw_quiet book k qs n now bytes x at raw kept =
    let q = also_numbered k.sessions qs n x kept.made.1 at in
    let stays = raw_stays k n now bytes x at (kept.strangers n x q.0 at q.1 raw).closing in
    let e = subst (λ (o : Option Session). EnteredStays k (serves k n now bytes o)) (sym at) (raw_entered k n now bytes x (given k.server.tree kept.server.bounded)) in
    let rest = serves_plain k n now bytes (numbered k.sessions n) in
    record { ops = inl stays; seats = rest.1; passes = rest.2; up = rest.0; entered = e.0; stays = e.1 }

-- so is an answer to a RECALL
pub serves_quiet : FitLaws → (book : Book) (k : Core) (qs : List Queue) (n now : ℕ) (bytes : List ℕ) (mid : List Queue) → IsKept book k qs → Finds k qs (Serves n now bytes) mid → IsQuiet k (happens k (Serves n now bytes))
serves_quiet laws book k qs n now bytes mid kept (inl f) = ask_quiet laws book k qs n now bytes mid kept f
serves_quiet laws book k qs n now bytes mid kept (inr (inr f)) = raw_quiet book k qs n now bytes f.0 f.1 f.2 kept
serves_quiet laws book k qs n now bytes mid kept (inr (inl f)) = elim (reply_taken laws k qs n now bytes mid f) [
  | inl taken ↦ (let t : CoreStep = idles (record k { server = record k.server { leasing = taken.0 } }) in quiet_noted k (happens k (Serves n now bytes)) (subst (IsQuiet k) (sym taken.1) (record { ops = inl refl; seats = refl; passes = omega arith; up = refl; entered = none_entered k t refl refl; stays = λ i e at. nothing_there e at })))
  | inr lost ↦ subst (IsQuiet k) (sym lost) (record { ops = inl refl; seats = refl; passes = omega arith; up = refl; entered = none_entered k (loses k n f.session) refl (hung_journal k.server n (stands k.server n)); stays = λ i e at. nothing_there e at })
]

-- ---- a call that may change no file

making_still : (k : Core) (n now : ℕ) (x : Session) (xid : ℕ) (w : Walk) → is_building w ≡ true → is_creating w ≡ false → (making_got k n now x xid (made_by k.server.tree (server.held k.server.waiting) w.dir w.goal)).core.ops ≡ k.ops
making_still k n now x xid w making none = by (made_walk k.server.tree (server.held k.server.waiting) w making)
  where
    by : MadeSo k.server.tree (server.held k.server.waiting) w → (making_got k n now x xid (made_by k.server.tree (server.held k.server.waiting) w.dir w.goal)).core.ops ≡ k.ops
    by (refuses s r is err turned leads procs) = subst (λ (p : Tree × Finished). (making_got k n now x xid p).core.ops ≡ k.ops) (sym is) (pointed_none k.ops x.closing (k.steps + 1))
    by (enters done e r after is step first_is second_is entry_is after_is leads procs) = subst (λ (p : Tree × Finished). (making_got k n now x xid p).core.ops ≡ k.ops) (sym is)
        (ap (λ (b : Bool). pointed_at k.ops x.closing (k.steps + 1) (option_map (λ (d : Entry). d.file) (cond b (Some (written_by n e)) None))) (ap is_of_file (entry_name k.server.tree w.goal e (name_goal w.left w.goal making none) entry_is)) ∙ pointed_none k.ops x.closing (k.steps + 1))

-- no operation gets a point by it
pub serves_still : FitLaws → (book : Book) (k : Core) (qs : List Queue) (n now : ℕ) (bytes : List ℕ) (mid : List Queue) → IsKept book k qs → (f : FindsAsk qs n bytes mid) → change_number f.1.call ≡ 0 → (happens k (Serves n now bytes)).core.ops ≡ k.ops
serves_still laws book k qs n now bytes mid kept f zero_ = by (numbered k.sessions n) refl
  where
    fits : CallFits f.1.lbfs f.1.xid f.1.call
    fits = serves_fits book k qs n now bytes mid kept f

    no_ups : {a : Ask} {us : List Ask} → ◌≡◌ {A = List Ask} [] (a ∷ us) → ⊥
    no_ups e = absurd cc

    unhung : (x : Session) (b : Bool) → x.hung ≡ b → (h : IsSession book k.seats k.server n x f.0) → x.hung ≡ false
    unhung x false e h = e
    unhung x true e h = absurd (no_ups (sym (h.lost e) ∙ f.4))

    creates_none : (w : Walk) → f.1.call ≡ Walks w → (b : Bool) → is_creating w ≡ b → b ≡ false
    creates_none w is false e = refl
    creates_none w is true e = (let none : 1 ≡ 0 = sym (ap (λ (b : Bool). cond b 1 0) e) ∙ ap change_number (sym is) ∙ zero_ in absurd (omega (arith, none)))

    building : (x : Session) → numbered k.sessions n ≡ Some x → (w : Walk) → is_building w ≡ true → f.1.call ≡ Walks w → (serves_if k n now x (Ok (ask_message (record { lbfs = f.1.lbfs; xid = f.1.xid; call = Walks w })))).core.ops ≡ k.ops
    building x at w makes is =
        let h = kept.sessions n x f.0 at f.3 (owned_up kept n x f.0 at f.3 f.1 f.2 f.4) in
        let fit = subst (CallFits f.1.lbfs f.1.xid) is fits in
        ap (λ (t : CoreStep). t.core.ops) (got_making k n now x f.1.xid w fit.1 makes (h.stands_is ∙ ap not (unhung x x.hung refl h))) ∙ making_still k n now x f.1.xid w makes (creates_none w is (is_creating w) refl)

    making : (x : Session) → numbered k.sessions n ≡ Some x → (w : Walk) → is_making w ≡ true → f.1.call ≡ Walks w → (serves_if k n now x (Ok (ask_message (record { lbfs = f.1.lbfs; xid = f.1.xid; call = Walks w })))).core.ops ≡ k.ops
    making x at w makes is = elim (making_is w.left w.goal makes) [
      | inl builds ↦ building x at w builds is
      | inr goes ↦ absurd (true_and_false (is_creating w) (going_creates w.left w.goal goes) (creates_none w is (is_creating w) refl))
    ]

    any : (x : Session) → numbered k.sessions n ≡ Some x → (b : Bool) → makes_call f.1.call ≡ b → (serves_if k n now x (Ok (ask_message f.1))).core.ops ≡ k.ops
    any x at false none = ap (λ (t : CoreStep). t.core.ops) (got_quiet k n now x (ask_message f.1) (is_of_files f.1 fits none))
    any x at true some =
        let w = walk_made f.1.call some in
        subst (λ (c : Call). (serves_if k n now x (Ok (ask_message (record { lbfs = f.1.lbfs; xid = f.1.xid; call = c })))).core.ops ≡ k.ops) (sym w.1) (making x at w.0 w.2 w.1)

    by : (x : Option Session) → numbered k.sessions n ≡ x → (serves k n now bytes x).core.ops ≡ k.ops
    by None at = refl
    by (Some x) at = ap (λ (b : Bool). (serves_unless k n now bytes x b).core.ops) (unhung x x.hung refl (kept.sessions n x f.0 at f.3 (owned_up kept n x f.0 at f.3 f.1 f.2 f.4))) ∙ ap (λ (r : Result Message WireFault). (serves_if k n now x r).core.ops) (serves_read laws book k qs n now bytes mid kept f) ∙ any x at (makes_call f.1.call) refl
