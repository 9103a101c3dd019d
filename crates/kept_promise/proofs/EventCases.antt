-- What an event of a run comes to, for clients and operations: nothing becomes of any client, though a change may be made; or one joins, begins an operation, goes on with its own, or loses its connection.
use Rattle.std.proofs.Common.{◌⊎◌, inl, inr, ◌≡◌, ℕ, zero, suc, ◌+◌, ◌<◌, ◌≤◌, List, [], ◌∷◌, ◌++◌, Option, Some, None, Result, Ok, Err, Bool, true, false, refl, sym, ap, ◌∙◌, subst, arith, length, eqb-true}
use Rattle.std.specs.Option.{option_map}
use Rattle.wire.specs.declared.message.Message.TheVariants as message
use Rattle.server_core.specs.Closing.{at as at_reading}
use Rattle.server_core.specs.State as server
use Rattle.server_core.specs.declared.change.Wanted.TheVariants as wanted
use Rattle.server_core.specs.declared.event.Event.TheVariants as event
use Rattle.server_rules.specs.declared.told.Told.{Told as Announced}
use Rattle.server_rules.specs.declared.told.Told.TheVariants as announced
use Rattle.client_state.specs.declared.step.Outcome.TheVariants as outcome
use Rattle.register_model.specs.declared.op.Word.TheVariants as words
use Rattle.trace_ends.specs.Session.{taken_of as session_taken}
use Rattle.wire.specs.declared.fault.WireFault.TheVariants as fault
use Rattle.trace_ends.specs.Core.{newest_entries, changed_file, idles, serves_none, serves_unless}
use Rattle.server_core.specs.Leasing.{Leasing}
use Rattle.kept_promise.proofs.Common.{slice_get, slice_set, cond, find, ◌==◌, Command, File, parse_of, WireFault, Message, FileChange, Wanted, server_step, reply_message, got_step, ended_by, joined, Task, Op, Opening, TakenCall, taken_at, pointed, pointed_at, settled_ops, settled_by, Core, Seat, Session, Event, Event.Joins, Event.Does, Event.Serves, Event.Hears, Event.Settles, Event.Cuts, Event.Hangs, CoreStep, numbered, with_numbered, new_session, session_of, taken_with, server_waits, serves_if, serves, acted, does, joins_as, joins, settles, cuts_if, cuts, hangs_if, hangs, happens, Moment, calls_in, sent_if, owner_in, client_of, Entries, Indexed, deed_by, Book, Queue, ask_message, told_message, ServerStep, connect, calls_by, joined_by, is_raw, raw_session, Event.RawJoins, raw_joins_as, raw_joins, loses}
use Rattle.kept_promise.proofs.Lists.{some_is, nothing_there, same_or_not, kept_appended, set_else, set_count, count_more}
use Rattle.kept_promise.proofs.PathNames.{IsSmall}
use Rattle.kept_promise.proofs.Messages.{Job, job, job_of, WaitsFor, content_wanted}
use Rattle.kept_promise.proofs.Rights.{IsUnmade, gets_file}
use Rattle.kept_promise.proofs.Fits.{FitLaws}
use Rattle.kept_promise.proofs.Keys.{own}
use Rattle.kept_promise.proofs.Turns.{also_numbered, around_with, unnoted, raw_or_owned, unhung_up}
use Rattle.kept_promise.proofs.Facts.{IsKept}
use Rattle.kept_promise.proofs.Logs.{IsSilent}
use Rattle.kept_promise.proofs.RunsCarried.{book_at, moment, Step, FindsAsk, FindsReply, FindsRecall}
use Rattle.kept_promise.proofs.Actors.{Heard, heard_at, heard_acts, serves_read}
use Rattle.kept_promise.proofs.Adjusts.{SameSeats, same_seats, one_seat, with_kept}
use Rattle.kept_promise.proofs.Caches.{AddsNone, same_notes}
use Rattle.kept_promise.proofs.Replies.{reply_taken, Recalled, recalled_step, recall_heard, recall_adds, recall_takes, recall_gives}
use Rattle.kept_promise.proofs.Versions.{of_numbered, takens, Extends, extends_same}
use Rattle.kept_promise.proofs.ServesFiles.{newest_one}
use Rattle.kept_promise.proofs.TakenOut.{SettlesOut, settled_to, raw_ops}
use Rattle.kept_promise.proofs.Making.{made_change, made_is, entry_of}
use Rattle.kept_promise.proofs.ServesQuietly.{MadeHere, serves_quiet, raw_stays}
use Rattle.kept_promise.proofs.SettlesQuietly.{GoesHere, Settling, makes_commit, makes_else, settling}
use Rattle.kept_promise.proofs.Joins.{connects}
use Rattle.kept_promise.proofs.Numbering.{no_calls}

-- a session whose change waits remembers the close at this place
abbrev pub Remembers : Core → (place : ℕ) → Type 0
Remembers k place = (n i : ℕ) × (x : Session) × (c : FileChange) × (numbered k.sessions n ≡ Some x) × (x.closing ≡ Some place) × (slice_get (own n k.server.waiting) i ≡ Some c)

-- an operation's change was made: that of a close which a session remembers, or a file was made or went
pub record IsChange (k : Core) (ops : List Op) : Type 0 where
  pub place : ℕ
  pub op : Op
  pub there : slice_get k.ops place ≡ Some op
  pub unmade : IsUnmade op
  pub file : ℕ
  pub is : ops ≡ slice_set k.ops place (record op { file = file; point = Some (k.steps + 1) })
  pub kind : ((op.word ≡ words.Close) × (file ≡ op.file) × Remembers k place) ⊎ ((gets_file op.word ≡ true) × (op.file ≡ 0))

pub change_of : {k : Core} {ops : List Op} → MadeHere k ops → IsChange k ops
change_of m = record { place = m.place; op = m.op; there = m.there; unmade = m.unmade; file = m.new; is = m.after_is; kind = inr (ap gets_file m.word_is, m.file_is) }

-- what a change that was made, if one was, makes of the operations
abbrev pub Settled : Core → List Op → Type 0
Settled k ops = (ops ≡ k.ops) ⊎ IsChange k ops

pub goes_of : {k : Core} {ops : List Op} → GoesHere k ops → IsChange k ops
goes_of m = record { place = m.place; op = m.op; there = m.there; unmade = m.unmade; file = m.new; is = m.after_is; kind = inr (m.gets, m.file_is) }

pub settled_are : (book : Book) (k : Core) (qs : List Queue) (now : ℕ) → IsKept book k qs → Settled k (settles k now).core.ops
settled_are book k qs now kept = by (settling book k qs now kept)
  where
    made : (cs : List FileChange) (c : FileChange) → SettlesOut k now c cs → c.what ≡ wanted.Content (content_wanted c.what) → (f : File) → (home : (x : Session) × (numbered k.sessions c.session ≡ Some x) × (x.hung ≡ false)) → is_raw home.0 ≡ false → (let r = made_change (at_reading (record k.server { waiting = cs }) now) c (content_wanted c.what) f in Settled k (settled_by k (changed_file (newest_entries r.0.journal r.1.entries)) r.1.told))
    made cs c out what f home owned =
        let q = also_numbered k.sessions qs c.session home.0 kept.made.1 home.1 in
        let h = kept.sessions c.session home.0 q.0 home.1 q.1 owned in
        let its : slice_get (own c.session k.server.waiting) 0 ≡ Some c = ap (λ (l : List FileChange). slice_get l 0) out.out.mine in
        let pending = subst (λ (w : Wanted). WaitsFor book c.session home.0.closing home.0.cut (job h.seat) c.xid c.file w) what (h.pending 0 c its) in
        let there : slice_get k.ops pending.place ≡ Some pending.op = ap (λ (l : List Op). slice_get l pending.place) (sym kept.ops) ∙ pending.there in
        inr (record {
          place = pending.place;
          op = pending.op;
          there = there;
          unmade = pending.unmade;
          file = c.file;
          is = ap (λ (z : Option ℕ). settled_by k z (announced.Settled c.session c.xid)) (newest_one k.server.journal (entry_of c (content_wanted c.what) f))
              ∙ ap (settled_ops k.ops (k.steps + 1) (Some c.file)) home.1
              ∙ ap (λ l. pointed_at k.ops l (k.steps + 1) (Some c.file)) pending.known
              ∙ ap (pointed k.ops pending.place c.file (k.steps + 1)) there;
          kind = inl (pending.word_is, sym pending.file_is, (c.session, 0, home.0, c, home.1, pending.known, its));
        })

    by : Settling k now (settles k now) → Settled k (settles k now).core.ops
    by (makes_else (inl same) entered tells removes) = inl same
    by (makes_else (inr gone) entered tells removes) = inr (goes_of gone)
    by (makes_commit c cs f out what there) =
        let home = kept.home out.out.place c out.out.there in
        let q = also_numbered k.sessions qs c.session home.0 kept.made.1 home.1 in
        elim (raw_or_owned home.0) [
          | inl raw ↦ inl (raw_ops k now c cs home.0 out home.1 (kept.strangers c.session home.0 q.0 home.1 q.1 raw).closing)
          | inr owned ↦ subst (λ (t : CoreStep). Settled k t.core.ops) (sym (out.is ∙ ap (settled_to k) (made_is book k.server now c cs f kept.server out.out there what))) (made cs c out what f home owned)
        ]

-- ---- nothing is said

pub joins_unsent : (k : Core) (c : ℕ) → (joins k c (numbered k.seats c)).up ≡ []
joins_unsent k c = up (numbered k.seats c)
  where
    made : (z : Seat) (s : server.State) (o : Announced) → (joins_as k c z s o).up ≡ []
    made z s (announced.Session n) = refl
    made z s _ = refl

    up : (o : Option Seat) → (joins k c o).up ≡ []
    up None = refl
    up (Some z) = let r = server_step k.server event.Connect in made z r.0 r.1.told

pub joins_silent : (k : Core) (c : ℕ) → IsSilent (moment k (Joins c))
joins_silent k c = (refl, refl, ap calls_in (joins_unsent k c))

pub serves_silent : (k : Core) (n now : ℕ) (bytes : List ℕ) (x : Option Session) → (let t = serves k n now bytes x in (t.up ≡ []) × (t.core.seats ≡ k.seats) × (k.steps ≤ t.core.steps))
serves_silent k n now bytes None = (refl, refl, omega arith)
serves_silent k n now bytes (Some x) = by x.hung
  where
    none : (e : WireFault) → (let t = serves_none k n x e in (t.up ≡ []) × (t.core.seats ≡ k.seats) × (k.steps ≤ t.core.steps))
    none (fault.UnknownXid xid) = (refl, refl, omega arith)
    none _ = (refl, refl, omega arith)

    read : (m : Result Message WireFault) → (let t = serves_if k n now x m in (t.up ≡ []) × (t.core.seats ≡ k.seats) × (k.steps ≤ t.core.steps))
    read (Ok m) = (refl, refl, omega arith)
    read (Err e) = none e

    by : (b : Bool) → (let t = serves_unless k n now bytes x b in (t.up ≡ []) × (t.core.seats ≡ k.seats) × (k.steps ≤ t.core.steps))
    by true = (refl, refl, omega arith)
    by false = read (parse_of (server_waits k n) bytes)

pub hangs_silent : (k : Core) (n : ℕ) (x : Option Session) → (let t = hangs k n x in (t.up ≡ []) × (t.core.ops ≡ k.ops) × (t.core.seats ≡ k.seats) × (k.steps ≤ t.core.steps))
hangs_silent k n None = (refl, refl, refl, omega arith)
hangs_silent k n (Some x) = by x.hung
  where
    by : (b : Bool) → (let t = hangs_if k n x b in (t.up ≡ []) × (t.core.ops ≡ k.ops) × (t.core.seats ≡ k.seats) × (k.steps ≤ t.core.steps))
    by true = (refl, refl, refl, omega arith)
    by false = (refl, refl, refl, omega arith)

pub cuts_unsent : (k : Core) (c : ℕ) → (cuts k c (numbered k.seats c)).up ≡ []
cuts_unsent k c = up (numbered k.seats c)
  where
    acts : (t : Option Task) → (ended_by t (record { outcome = outcome.Lost; rests_on = 0 })).send ≡ []
    acts None = refl
    acts (Some t) = refl

    link : (z : Seat) (b : Bool) → (cuts_if k c z b).up ≡ []
    link z true = acts z.client.task
    link z false = refl

    up : (o : Option Seat) → (cuts k c o).up ≡ []
    up None = refl
    up (Some z) = link z z.client.linked

pub cuts_silent : (k : Core) (c : ℕ) → IsSilent (moment k (Cuts c))
cuts_silent k c = (refl, refl, ap calls_in (cuts_unsent k c))

-- ---- what was taken of a client's newest session

pub takens_else : (n m : ℕ) (sessions : List Session) (y : Session) (session : Option ℕ) → (session ≡ Some m → ⊥) → Extends n (session_taken (session_of sessions session)) (session_taken (session_of (with_numbered sessions m y) session))
takens_else n m sessions y None apart = extends_same n []
takens_else n m sessions y (Some l) apart = by m (λ e. apart (ap (λ z. Some z) e))
  where
    by : (m : ℕ) → (l ≡ m → ⊥) → Extends n (session_taken (numbered sessions l)) (session_taken (numbered (with_numbered sessions m y) l))
    by zero far = extends_same n (session_taken (numbered sessions l))
    by (suc m) far = subst (λ z. Extends n (session_taken (numbered sessions l)) (session_taken z)) (sym (other sessions m y l far)) (extends_same n (session_taken (numbered sessions l)))
      where
        other : (xs : List Session) (m : ℕ) (y : Session) (l : ℕ) → (l ≡ suc m → ⊥) → numbered (slice_set xs m y) l ≡ numbered xs l
        other xs m y zero far = refl
        other xs m y (suc l) far = set_else xs m l y (λ e. far (ap suc e))

pub takens_with : (n m : ℕ) (sessions : List Session) (x y : Session) (session : Option ℕ) → numbered sessions m ≡ Some x → Extends n x.taken y.taken → Extends n (session_taken (session_of sessions session)) (session_taken (session_of (with_numbered sessions m y) session))
takens_with n m sessions x y None at e = extends_same n []
takens_with n m sessions x y (Some l) at e = elim (same_or_not l m) [
  | inr apart ↦ takens_else n m sessions y (Some l) (λ q. apart (some_is l m q))
  | inl same ↦
      let around = around_with sessions m x y at in
      subst (λ z. Extends n (session_taken z) (session_taken (numbered (with_numbered sessions m y) l))) (sym (ap (numbered sessions) same ∙ at)) (subst (λ z. Extends n x.taken (session_taken z)) (sym (ap (numbered (with_numbered sessions m y)) same ∙ around.there)) e)
]

takens_more : (n : ℕ) (sessions : List Session) (y : Session) (session : Option ℕ) → ((l : ℕ) → session ≡ Some l → (x : Session) × (numbered sessions l ≡ Some x)) → Extends n (session_taken (session_of sessions session)) (session_taken (session_of (sessions ++ y ∷ []) session))
takens_more n sessions y None there = extends_same n []
takens_more n sessions y (Some l) there = by l (there l refl)
  where
    by : (l : ℕ) → (x : Session) × (numbered sessions l ≡ Some x) → Extends n (session_taken (numbered sessions l)) (session_taken (numbered (sessions ++ y ∷ []) l))
    by zero (x, e) = nothing_there x e
    by (suc l) (x, e) = subst (λ z. Extends n (session_taken z) (session_taken (slice_get (sessions ++ y ∷ []) l))) (sym e) (subst (λ z. Extends n x.taken (session_taken z)) (sym (kept_appended sessions y l x e)) (extends_same n x.taken))

-- a call that is taken now
taken_more_at : (n : ℕ) (taken : List TakenCall) (t : TakenCall) → n < t.step → Extends n taken (taken ++ t ∷ [])
taken_more_at n [] t lt = (λ y q e. nothing_there q e, λ y q e. by y q (t.xid == y) e)
  where
    by : (y q : ℕ) (b : Bool) → option_map (λ (z : TakenCall). z.step) (cond b (Some t) None) ≡ Some q → (None ≡ Some q) ⊎ (n < q)
    by y q true e = inr (let same : t.step ≡ q = some_is t.step q e in omega (arith, lt, same))
    by y q false e = inl e
taken_more_at n (u ∷ taken) t lt = (λ y q e. keeps y q (u.xid == y) e ((taken_more_at n taken t lt).0 y q), λ y q e. adds y q (u.xid == y) e ((taken_more_at n taken t lt).1 y q))
  where
    keeps : (y q : ℕ) (b : Bool) → option_map (λ (z : TakenCall). z.step) (cond b (Some u) (find (λ (z : TakenCall). z.xid == y) taken)) ≡ Some q → (taken_at taken y ≡ Some q → taken_at (taken ++ t ∷ []) y ≡ Some q) → option_map (λ (z : TakenCall). z.step) (cond b (Some u) (find (λ (z : TakenCall). z.xid == y) (taken ++ t ∷ []))) ≡ Some q
    keeps y q true e later = e
    keeps y q false e later = later e

    adds : (y q : ℕ) (b : Bool) → option_map (λ (z : TakenCall). z.step) (cond b (Some u) (find (λ (z : TakenCall). z.xid == y) (taken ++ t ∷ []))) ≡ Some q → (taken_at (taken ++ t ∷ []) y ≡ Some q → (taken_at taken y ≡ Some q) ⊎ (n < q)) → (option_map (λ (z : TakenCall). z.step) (cond b (Some u) (find (λ (z : TakenCall). z.xid == y) taken)) ≡ Some q) ⊎ (n < q)
    adds y q true e later = inl e
    adds y q false e later = later e

-- what the server took of a session since is newer
takens_serve : (k : Core) (n now : ℕ) (bytes : List ℕ) (m : Message) (x : Option Session) → parse_of (server_waits k n) bytes ≡ Ok m → numbered k.sessions n ≡ x → ((y : Session) → x ≡ Some y → y.hung ≡ false) → (z : Seat) → Extends k.steps (takens k.sessions z) (takens (serves k n now bytes x).core.sessions z)
takens_serve k n now bytes m None read is unhung z = extends_same k.steps (takens k.sessions z)
takens_serve k n now bytes m (Some x) read is unhung z = subst (λ (b : Bool). Extends k.steps (takens k.sessions z) (takens (serves_unless k n now bytes x b).core.sessions z)) (sym (unhung x refl)) (subst (λ (r : Result Message WireFault). Extends k.steps (takens k.sessions z) (takens (serves_if k n now x r).core.sessions z)) (sym read) (takens_with k.steps n k.sessions x (record x { taken = taken_with x.taken m (k.steps + 1) }) z.session is (called m)))
  where
    called : (m : Message) → Extends k.steps x.taken (taken_with x.taken m (k.steps + 1))
    called (message.Call xid body) = taken_more_at k.steps x.taken (record { xid = xid; step = k.steps + 1 }) (omega arith)
    called _ = extends_same k.steps x.taken

-- ---- what an event comes to

-- clients and operations are as they were, but for a change that is made, and nothing is said for an operation
pub record IsStill (k : Core) (e : Event) (t : CoreStep) : Type 0 where
  pub silent : IsSilent (moment k e)
  pub asks : calls_in t.up ≡ []
  pub passes : k.steps ≤ t.core.steps
  pub ops : Settled k t.core.ops
  -- a client with a job is just as it was, but for its clock, its index and what it keeps
  pub jobs : (i : ℕ) (seat : Seat) (j : Job) → numbered t.core.seats i ≡ Some seat → job seat ≡ Some j → (old : Seat) × (es : Entries) × (ix : Indexed × ℕ) × (numbered k.seats i ≡ Some old) × (seat ≡ with_kept old es ix)
  -- what was taken of its session was so, or is taken now
  pub newer : (i : ℕ) (seat : Seat) → numbered k.seats i ≡ Some seat → Extends k.steps (takens k.sessions seat) (takens t.core.sessions seat)
  -- no client has a note more
  pub notes : (i : ℕ) (d : Seat) → numbered t.core.seats i ≡ Some d → (c : Seat) × (numbered k.seats i ≡ Some c) × AddsNone c.client.cache d.client.cache
  -- no command is told
  pub deedless : (past : List Moment) → deed_by past k e ≡ []

-- its job was that, too
pub old_job : (old seat : Seat) (es : Entries) (ix : Indexed × ℕ) (j : Job) → seat ≡ with_kept old es ix → job seat ≡ Some j → job old ≡ Some j
old_job old seat es ix j same is = ap job (sym same) ∙ is

-- nothing becomes of any client, but of its clock, its index and what it keeps
pub record IsIdle (k : Core) (e : Event) (t : CoreStep) : Type 0 where
  pub still : IsStill k e t
  pub seats : SameSeats k.seats t.core.seats
  pub links : (i : ℕ) (seat : Seat) → numbered k.seats i ≡ Some seat → seat.client.linked ≡ joined_by i seat.client.linked e
  pub uncalled : (i n : ℕ) → calls_by i n (moment k e) ≡ n
  -- no session goes
  pub count : length k.sessions ≤ length t.core.sessions

-- each client is as it was
abbrev as_was : (seats : List Seat) (i : ℕ) (seat : Seat) → numbered seats i ≡ Some seat → (old : Seat) × (es : Entries) × (ix : Indexed × ℕ) × (numbered seats i ≡ Some old) × (seat ≡ with_kept old es ix)
as_was seats i seat there = (seat, seat.client.cache, (seat.client.index, seat.client.clock), there, refl)

abbrev none_more : (seats : List Seat) (i : ℕ) (d : Seat) → numbered seats i ≡ Some d → (c : Seat) × (numbered seats i ≡ Some c) × AddsNone c.client.cache d.client.cache
none_more seats i d at = (d, at, same_notes d.client.cache)

-- a client that joins has a session
abbrev pub joins_now : Core → (c : ℕ) → Seat → CoreStep
joins_now k c seat = let r = connect k.server true in joins_as k c seat r.0 r.1.told

-- what is to be shown of an event
pub record EventTurns (all past rest : List Moment) (opening : List Opening) (k : Core) (qs : List Queue) (e : Event) (mid after : List Queue) (Z : Event → CoreStep → Type 0) : Type 0 where
  pub idle : (t : CoreStep) → IsIdle k e t → Z e t
  -- a client joins
  pub joins : (c : ℕ) (seat : Seat) → e ≡ Joins c → Step all past rest opening k qs (Joins c) mid after → numbered k.seats c ≡ Some seat → IsStill k (Joins c) (joins_now k c seat) → Z (Joins c) (joins_now k c seat)
  -- one is told to do something
  pub begins : (c now : ℕ) (d : Command) (seat : Seat) → Step all past rest opening k qs (Does c now d) mid after → numbered k.seats c ≡ Some seat → IsSmall d → IsKept (book_at opening (does k c now d (Some seat)).core all) (does k c now d (Some seat)).core after → Z (Does c now d) (does k c now d (Some seat))
  -- one hears an answer
  pub hears : (n now : ℕ) (bytes : List ℕ) → Step all past rest opening k qs (Hears n now bytes) mid after → (h : Heard k qs n now bytes mid) → (let r = got_step h.seat.client (Ok (told_message h.told)) now in let t = acted k h.session.owner h.seat r.0 r.1 in IsKept (book_at opening t.core all) t.core after → Z (Hears n now bytes) t)
  -- one sees its connection lost
  pub lost : (c : ℕ) (seat : Seat) → Step all past rest opening k qs (Cuts c) mid after → numbered k.seats c ≡ Some seat → IsKept (book_at opening (cuts_if k c seat true).core all) (cuts_if k c seat true).core after → Z (Cuts c) (cuts_if k c seat true)

-- the same where it makes no difference whether a client joins or nothing becomes of one
pub record EventCases (all past rest : List Moment) (opening : List Opening) (k : Core) (qs : List Queue) (e : Event) (mid after : List Queue) (Z : Event → CoreStep → Type 0) : Type 0 where
  pub still : (t : CoreStep) → IsStill k e t → Z e t
  -- a client is told to do something
  pub begins : (c now : ℕ) (d : Command) (seat : Seat) → Step all past rest opening k qs (Does c now d) mid after → numbered k.seats c ≡ Some seat → IsSmall d → IsKept (book_at opening (does k c now d (Some seat)).core all) (does k c now d (Some seat)).core after → Z (Does c now d) (does k c now d (Some seat))
  -- one hears an answer
  pub hears : (n now : ℕ) (bytes : List ℕ) → Step all past rest opening k qs (Hears n now bytes) mid after → (h : Heard k qs n now bytes mid) → (let r = got_step h.seat.client (Ok (told_message h.told)) now in let t = acted k h.session.owner h.seat r.0 r.1 in IsKept (book_at opening t.core all) t.core after → Z (Hears n now bytes) t)
  -- one sees its connection lost
  pub lost : (c : ℕ) (seat : Seat) → Step all past rest opening k qs (Cuts c) mid after → numbered k.seats c ≡ Some seat → Z (Cuts c) (cuts_if k c seat true)

joins_still : (book : Book) (k : Core) (qs : List Queue) (c : ℕ) (seat : Seat) → IsKept book k qs → numbered k.seats c ≡ Some seat → seat.client.linked ≡ false → (s : server.State) (o : Announced) → IsStill k (Joins c) (joins_as k c seat s o)
joins_still book k qs c seat kept here free s (announced.Session made) = record {
  silent = joins_silent k c;
  asks = refl;
  passes = omega arith;
  ops = inl refl;
  jobs = λ i z j there is. elim (of_numbered k.seats c new i z there) [
    | inl mine ↦ nothing_there j (sym (idle seat.place) ∙ ap job (sym mine.1) ∙ is)
    | inr other ↦ as_was k.seats i z other.1
  ];
  newer = λ i z there. takens_more k.steps k.sessions (new_session c) z.session (λ l e. let x = (kept.seats i z there).session l e in (x.0, x.1));
  notes = λ i d at. elim (of_numbered k.seats c new i d at) [
    | inl mine ↦ (seat, ap (numbered k.seats) mine.0 ∙ here, subst (λ (z : Seat). AddsNone seat.client.cache z.client.cache) (sym mine.1) (same_notes seat.client.cache))
    | inr other ↦ none_more k.seats i d other.1
  ];
  deedless = λ past. refl;
}
  where
    new : Seat
    new = record { client = joined seat.client; session = Some made; place = seat.place }

    none : seat.client.task ≡ None
    none = ((kept.seats c seat here).unlinked free).0

    idle : (l : Option ℕ) → job_of l seat.client.task ≡ None
    idle None = refl
    idle (Some l) = ap (job_of (Some l)) none
joins_still book k qs c seat kept here free s _ = record { silent = joins_silent k c; asks = refl; passes = omega arith; ops = inl refl; jobs = λ i z j there is. as_was k.seats i z there; newer = λ i z there. extends_same k.steps (takens k.sessions z); notes = λ i d at. none_more k.seats i d at; deedless = λ past. refl }

-- ---- how many sessions there are

pub with_count : {A : Type 0} (xs : List A) (n : ℕ) (x : A) → length (with_numbered xs n x) ≡ length xs
with_count xs zero x = refl
with_count xs (suc n) x = set_count xs n x

serves_count : (k : Core) (n now : ℕ) (bytes : List ℕ) (o : Option Session) → length (serves k n now bytes o).core.sessions ≡ length k.sessions
serves_count k n now bytes None = refl
serves_count k n now bytes (Some x) = by x.hung
  where
    none : (e : WireFault) → length (serves_none k n x e).core.sessions ≡ length k.sessions
    none (fault.UnknownXid xid) = refl
    none _ = with_count k.sessions n _

    read : (m : Result Message WireFault) → length (serves_if k n now x m).core.sessions ≡ length k.sessions
    read (Ok m) = with_count k.sessions n _
    read (Err e) = none e

    by : (b : Bool) → length (serves_unless k n now bytes x b).core.sessions ≡ length k.sessions
    by true = refl
    by false = read (parse_of (server_waits k n) bytes)

hangs_count : (k : Core) (n : ℕ) (o : Option Session) → length (hangs k n o).core.sessions ≡ length k.sessions
hangs_count k n None = refl
hangs_count k n (Some x) = by x.hung
  where
    by : (b : Bool) → length (hangs_if k n x b).core.sessions ≡ length k.sessions
    by true = refl
    by false = with_count k.sessions n _

-- ---- the server takes a call, or an answer to a RECALL

asks_still : FitLaws → (book : Book) (k : Core) (qs : List Queue) (n now : ℕ) (bytes : List ℕ) (mid : List Queue) → IsKept book k qs → FindsAsk qs n bytes mid → IsStill k (Serves n now bytes) (happens k (Serves n now bytes))
asks_still laws book k qs n now bytes mid kept f =
    let q = serves_quiet laws book k qs n now bytes mid kept (inl f) in
    record {
      silent = (refl, refl, ap calls_in q.up);
      asks = ap calls_in q.up;
      passes = q.passes;
      ops = elim q.ops [ inl same ↦ inl same | inr made ↦ inr (change_of made) ];
      jobs = λ i z j there is. as_was k.seats i z (ap (λ (l : List Seat). numbered l i) (sym q.seats) ∙ there);
      newer = λ i z there. takens_serve k n now bytes (ask_message f.1) (numbered k.sessions n) (serves_read laws book k qs n now bytes mid kept f) refl (λ y at_. unhung_up kept n y f.0 at_ f.3 f.1 f.2 f.4) z;
      notes = λ i d at. none_more k.seats i d (ap (λ (l : List Seat). numbered l i) (sym q.seats) ∙ at);
      deedless = λ past. refl;
    }

asks_idle : FitLaws → (book : Book) (k : Core) (qs : List Queue) (n now : ℕ) (bytes : List ℕ) (mid : List Queue) → IsKept book k qs → FindsAsk qs n bytes mid → IsIdle k (Serves n now bytes) (happens k (Serves n now bytes))
asks_idle laws book k qs n now bytes mid kept f =
    let q = serves_quiet laws book k qs n now bytes mid kept (inl f) in
    record {
      still = asks_still laws book k qs n now bytes mid kept f;
      seats = subst (SameSeats k.seats) (sym q.seats) (same_seats k.seats);
      links = λ i seat at. refl;
      uncalled = λ i m. no_calls i 0 m (happens k (Serves n now bytes)).up q.up;
      count = let e = serves_count k n now bytes (numbered k.sessions n) in omega (arith, e);
    }

-- the leasing of the server alone changes
reply_idle : (k : Core) (n now : ℕ) (bytes : List ℕ) (l : Leasing) → unnoted k (happens k (Serves n now bytes)) ≡ idles (record k { server = record k.server { leasing = l } }) → IsIdle k (Serves n now bytes) (idles (record k { server = record k.server { leasing = l } }))
reply_idle k n now bytes l is = record {
  still = record {
    silent = (refl, refl, ap (λ (t : CoreStep). calls_in t.up) is);
    asks = refl;
    passes = omega arith;
    ops = inl refl;
    jobs = λ i z j there on. as_was k.seats i z there;
    newer = λ i z there. extends_same k.steps (takens k.sessions z);
    notes = λ i d at. none_more k.seats i d at;
    deedless = λ past. refl;
  };
  seats = same_seats k.seats;
  links = λ i seat at. refl;
  uncalled = λ i m. no_calls i 0 m (happens k (Serves n now bytes)).up (ap (λ (t : CoreStep). t.up) is);
  count = omega arith;
}

-- ---- a client hears a RECALL

recall_idle : (k : Core) (n now : ℕ) (bytes : List ℕ) (r : Recalled k n now bytes) → IsIdle k (Hears n now bytes) (recalled_step k r.session.owner now r.seat r.cache r.xid)
recall_idle k n now bytes r = record {
  still = record {
    silent = (recall_takes k n now bytes r, recall_gives k n now bytes r, ap (λ (t : CoreStep). calls_in t.up) r.is);
    asks = refl;
    passes = omega arith;
    ops = inl refl;
    jobs = λ i z j there on. (let w = same.was i z there in (w.0, w.1, w.2, w.3, w.4));
    newer = λ i z there. extends_same k.steps (takens k.sessions z);
    notes = λ i d at. (let w = same.was i d at in (w.0, w.3, subst (λ (z : Seat). AddsNone w.0.client.cache z.client.cache) (sym w.4) w.5));
    deedless = λ past. refl;
  };
  seats = same;
  links = λ i seat at. refl;
  uncalled = λ i m. ap (λ (t : CoreStep). m + sent_if (client_of k (Hears n now bytes) == i) t.up) r.is ∙ by m (client_of k (Hears n now bytes) == i);
  count = omega arith;
}
  where
    same : SameSeats k.seats (with_numbered k.seats r.session.owner (with_kept r.seat r.cache (r.seat.client.index, now)))
    same = one_seat k.seats r.session.owner r.seat r.cache (r.seat.client.index, now) r.owner (recall_adds k n now bytes r)

    by : (m : ℕ) (b : Bool) → m + sent_if b (reply_message r.xid ∷ []) ≡ m
    by m true = omega arith
    by m false = omega arith

hangs_still : (k : Core) (n : ℕ) → IsStill k (Hangs n) (hangs k n (numbered k.sessions n))
hangs_still k n =
    let q = hangs_silent k n (numbered k.sessions n) in
    record {
      silent = (refl, refl, ap calls_in q.0);
      asks = ap calls_in q.0;
      passes = q.3;
      ops = inl q.1;
      jobs = λ i z j there is. as_was k.seats i z (ap (λ (l : List Seat). numbered l i) (sym q.2) ∙ there);
      newer = λ i z there. later z (numbered k.sessions n) refl;
      notes = λ i d at. none_more k.seats i d (ap (λ (l : List Seat). numbered l i) (sym q.2) ∙ at);
      deedless = λ past. refl;
    }
  where
    later : (z : Seat) (x : Option Session) → numbered k.sessions n ≡ x → Extends k.steps (takens k.sessions z) (takens (hangs k n x).core.sessions z)
    later z None at = extends_same k.steps (takens k.sessions z)
    later z (Some x) at = by x.hung
      where
        by : (b : Bool) → Extends k.steps (takens k.sessions z) (takens (hangs_if k n x b).core.sessions z)
        by true = extends_same k.steps (takens k.sessions z)
        by false = takens_with k.steps n k.sessions x (record x { hung = true }) z.session at (extends_same k.steps x.taken)

-- what is noted of messages that came is nothing of it
idle_noted : (k : Core) (e : Event) (t : CoreStep) → IsIdle k e (unnoted k t) → IsIdle k e t
idle_noted k e t h = record { still = still_noted h.still; seats = h.seats; links = h.links; uncalled = h.uncalled; count = h.count }
  where
    still_noted : IsStill k e (unnoted k t) → IsStill k e t
    still_noted h = record { silent = h.silent; asks = h.asks; passes = h.passes; ops = h.ops; jobs = h.jobs; newer = h.newer; notes = h.notes; deedless = h.deedless }

-- or its session is closed
lost_idle : (k : Core) (n now : ℕ) (bytes : List ℕ) (x : Session) → numbered k.sessions n ≡ Some x → happens k (Serves n now bytes) ≡ loses k n x → IsIdle k (Serves n now bytes) (happens k (Serves n now bytes))
lost_idle k n now bytes x at lost =
    let quiet_ = serves_silent k n now bytes (numbered k.sessions n) in
    record {
      still = record {
        silent = (refl, refl, ap calls_in quiet_.0);
        asks = ap calls_in quiet_.0;
        passes = quiet_.2;
        ops = inl (ap (λ (t : CoreStep). t.core.ops) lost);
        jobs = λ i z j there is. as_was k.seats i z (ap (λ (l : List Seat). numbered l i) (sym quiet_.1) ∙ there);
        newer = λ i z there. subst (λ (t : CoreStep). Extends k.steps (takens k.sessions z) (takens t.core.sessions z)) (sym lost) (takens_with k.steps n k.sessions x (record x { hung = true }) z.session at (extends_same k.steps x.taken));
        notes = λ i d is. none_more k.seats i d (ap (λ (l : List Seat). numbered l i) (sym quiet_.1) ∙ is);
        deedless = λ past. refl;
      };
      seats = subst (SameSeats k.seats) (sym quiet_.1) (same_seats k.seats);
      links = λ i seat at. refl;
      uncalled = λ i m. no_calls i 0 m (happens k (Serves n now bytes)).up quiet_.0;
      count = let e = serves_count k n now bytes (numbered k.sessions n) in omega (arith, e);
    }

-- of a session that is no client's nothing becomes of any client
raw_newer : (k : Core) (n now : ℕ) (bytes : List ℕ) (x : Session) → numbered k.sessions n ≡ Some x → (z : Seat) → Extends k.steps (takens k.sessions z) (takens (serves k n now bytes (Some x)).core.sessions z)
raw_newer k n now bytes x at z = by x.hung
  where
    called : (m : Message) → Extends k.steps x.taken (taken_with x.taken m (k.steps + 1))
    called (message.Call xid body) = taken_more_at k.steps x.taken (record { xid = xid; step = k.steps + 1 }) (omega arith)
    called _ = extends_same k.steps x.taken

    none : (e : WireFault) → Extends k.steps (takens k.sessions z) (takens (serves_none k n x e).core.sessions z)
    none (fault.UnknownXid xid) = extends_same k.steps (takens k.sessions z)
    none _ = takens_with k.steps n k.sessions x (record x { hung = true }) z.session at (extends_same k.steps x.taken)

    read : (m : Result Message WireFault) → Extends k.steps (takens k.sessions z) (takens (serves_if k n now x m).core.sessions z)
    read (Ok m) = takens_with k.steps n k.sessions x (record x { taken = taken_with x.taken m (k.steps + 1) }) z.session at (called m)
    read (Err e) = none e

    by : (b : Bool) → Extends k.steps (takens k.sessions z) (takens (serves_unless k n now bytes x b).core.sessions z)
    by true = extends_same k.steps (takens k.sessions z)
    by false = read (parse_of (server_waits k n) bytes)

raw_idle : (book : Book) (k : Core) (qs : List Queue) (n now : ℕ) (bytes : List ℕ) (x : Session) → numbered k.sessions n ≡ Some x → is_raw x ≡ true → IsKept book k qs → IsIdle k (Serves n now bytes) (happens k (Serves n now bytes))
raw_idle book k qs n now bytes x at raw kept =
    let q = also_numbered k.sessions qs n x kept.made.1 at in
    let quiet_ = serves_silent k n now bytes (numbered k.sessions n) in
    record {
      still = record {
        silent = (refl, refl, ap calls_in quiet_.0);
        asks = ap calls_in quiet_.0;
        passes = quiet_.2;
        ops = inl (raw_stays k n now bytes x at (kept.strangers n x q.0 at q.1 raw).closing);
        jobs = λ i z j there is. as_was k.seats i z (ap (λ (l : List Seat). numbered l i) (sym quiet_.1) ∙ there);
        newer = λ i z there. subst (λ (o : Option Session). Extends k.steps (takens k.sessions z) (takens (serves k n now bytes o).core.sessions z)) (sym at) (raw_newer k n now bytes x at z);
        notes = λ i d is. none_more k.seats i d (ap (λ (l : List Seat). numbered l i) (sym quiet_.1) ∙ is);
        deedless = λ past. refl;
      };
      seats = subst (SameSeats k.seats) (sym quiet_.1) (same_seats k.seats);
      links = λ i seat at. refl;
      uncalled = λ i m. no_calls i 0 m (happens k (Serves n now bytes)).up quiet_.0;
      count = let e = serves_count k n now bytes (numbered k.sessions n) in omega (arith, e);
    }

-- a session is made that is no client's: one more, and nothing becomes of any client
raw_up : (k : Core) (s : server.State) (o : Announced) → (raw_joins_as k s o).up ≡ []
raw_up k s (announced.Session made) = refl
raw_up k s _ = refl

raw_silent : (k : Core) → IsSilent (moment k RawJoins)
raw_silent k = let r = server_step k.server event.Connect in (refl, refl, ap calls_in (raw_up k r.0 r.1.told))

raw_more : (k : Core) (s : server.State) (o : Announced) → length k.sessions ≤ length (raw_joins_as k s o).core.sessions
raw_more k s (announced.Session made) = let e = count_more k.sessions raw_session in omega (arith, e)
raw_more k s _ = omega arith

raw_seats : (k : Core) (s : server.State) (o : Announced) → SameSeats k.seats (raw_joins_as k s o).core.seats
raw_seats k s (announced.Session made) = same_seats k.seats
raw_seats k s _ = same_seats k.seats

raw_still : (book : Book) (k : Core) (qs : List Queue) → IsKept book k qs → (s : server.State) (o : Announced) → IsStill k RawJoins (raw_joins_as k s o)
raw_still book k qs kept s (announced.Session made) = record { silent = raw_silent k; asks = refl; passes = omega arith; ops = inl refl; jobs = λ i z j there is. as_was k.seats i z there; newer = λ i z there. takens_more k.steps k.sessions raw_session z.session (λ l e. let x = (kept.seats i z there).session l e in (x.0, x.1)); notes = λ i d at. none_more k.seats i d at; deedless = λ past. refl }
raw_still book k qs kept s _ = record { silent = raw_silent k; asks = refl; passes = omega arith; ops = inl refl; jobs = λ i z j there is. as_was k.seats i z there; newer = λ i z there. extends_same k.steps (takens k.sessions z); notes = λ i d at. none_more k.seats i d at; deedless = λ past. refl }

-- ---- any event

-- one that isn't joined sees no connection lost
cut_links : (k : Core) (c : ℕ) (seat : Seat) → numbered k.seats c ≡ Some seat → seat.client.linked ≡ false → (i : ℕ) (z : Seat) → numbered k.seats i ≡ Some z → z.client.linked ≡ joined_by i z.client.linked (Cuts c)
cut_links k c seat here off i z at = by (c == i) refl
  where
    by : (b : Bool) → (c == i) ≡ b → z.client.linked ≡ elim b as (λ (y : Bool). Bool) [ true ↦ false | false ↦ z.client.linked ]
    by false is = refl
    by true is = ap (λ (y : Seat). y.client.linked) (some_is z seat (sym at ∙ ap (numbered k.seats) (sym (eqb-true c i is)) ∙ here)) ∙ off

-- any event is one of these
pub event_turns : FitLaws → (all past rest : List Moment) (opening : List Opening) (k : Core) (qs : List Queue) (e : Event) (mid after : List Queue) → Step all past rest opening k qs e mid after → (Z : Event → CoreStep → Type 0) → EventTurns all past rest opening k qs e mid after Z → Z e (happens k e)
event_turns laws all past rest opening k qs (Joins c) mid after s Z cases =
    let seat : Seat = s.finds.0 in
    let still = joins_still (book_at opening k all) k qs c seat s.kept s.finds.1 s.finds.2 (connect k.server true).0 (connect k.server true).1.told in
    subst (λ (o : Option Seat). Z (Joins c) (joins k c o)) (sym s.finds.1) (subst (λ (r : server.State × ServerStep). Z (Joins c) (joins_as k c s.finds.0 r.0 r.1.told)) (sym (connects k.server s.finds.3 s.finds.4)) (cases.joins c seat refl s s.finds.1 still))
event_turns laws all past rest opening k qs (Does c now d) mid after s Z cases = subst (λ (o : Option Seat). IsKept (book_at opening (does k c now d o).core all) (does k c now d o).core after → Z (Does c now d) (does k c now d o)) (sym s.finds.1) (cases.begins c now d s.finds.0 s s.finds.1 s.finds.2) s.left
event_turns laws all past rest opening k qs (Serves n now bytes) mid after s Z cases = elim s.finds [
  | inl ask ↦ cases.idle (happens k (Serves n now bytes)) (asks_idle laws (book_at opening k all) k qs n now bytes mid s.kept ask)
  | inr (inl reply) ↦ elim (reply_taken laws k qs n now bytes mid reply) [
    | inl l ↦ cases.idle (happens k (Serves n now bytes)) (idle_noted k (Serves n now bytes) (happens k (Serves n now bytes)) (subst (IsIdle k (Serves n now bytes)) (sym l.1) (reply_idle k n now bytes l.0 l.1)))
    | inr lost ↦ cases.idle (happens k (Serves n now bytes)) (lost_idle k n now bytes reply.session reply.at lost)
  ]
  | inr (inr raw) ↦ cases.idle (happens k (Serves n now bytes)) (raw_idle (book_at opening k all) k qs n now bytes raw.0 raw.1 raw.2 s.kept)
]
event_turns laws all past rest opening k qs (Hears n now bytes) mid after s Z cases = elim s.finds [
  | inl told ↦
      let h = heard_at (book_at opening k all) k qs n now bytes mid s.kept told in
      subst (λ (t : CoreStep). IsKept (book_at opening t.core all) t.core after → Z (Hears n now bytes) t) (sym (heard_acts laws (book_at opening k all) k qs n now bytes mid s.kept h)) (cases.hears n now bytes s h) s.left
  | inr recall ↦
      let r = recall_heard laws (book_at opening k all) k qs n now bytes mid s.kept recall in
      subst (Z (Hears n now bytes)) (sym r.is) (cases.idle (recalled_step k r.session.owner now r.seat r.cache r.xid) (recall_idle k n now bytes r))
]
event_turns laws all past rest opening k qs (Settles now) mid after s Z cases = cases.idle (settles k now) (record {
  still = record { silent = (refl, refl, refl); asks = refl; passes = omega arith; ops = settled_are (book_at opening k all) k qs now s.kept; jobs = λ i z j there is. as_was k.seats i z there; newer = λ i z there. extends_same k.steps (takens k.sessions z); notes = λ i d at. none_more k.seats i d at; deedless = λ past. refl };
  seats = same_seats k.seats;
  links = λ i seat at. refl;
  uncalled = λ i m. no_calls i 0 m [] refl;
  count = omega arith;
})
event_turns laws all past rest opening k qs (Cuts c) mid after s Z cases = subst (λ (o : Option Seat). IsKept (book_at opening (cuts k c o).core all) (cuts k c o).core after → Z (Cuts c) (cuts k c o)) (sym s.finds.1) (by s.finds.0.client.linked refl) s.left
  where
    by : (b : Bool) → s.finds.0.client.linked ≡ b → IsKept (book_at opening (cuts_if k c s.finds.0 b).core all) (cuts_if k c s.finds.0 b).core after → Z (Cuts c) (cuts_if k c s.finds.0 b)
    by true is left = cases.lost c s.finds.0 s s.finds.1 left
    by false is left = cases.idle (cuts_if k c s.finds.0 false) (record {
      still = record { silent = cuts_silent k c; asks = refl; passes = omega arith; ops = inl refl; jobs = λ i z j there is. as_was k.seats i z there; newer = λ i z there. extends_same k.steps (takens k.sessions z); notes = λ i d at. none_more k.seats i d at; deedless = λ past. refl };
      seats = same_seats k.seats;
      links = cut_links k c s.finds.0 s.finds.1 is;
      uncalled = λ i m. no_calls i 0 m (happens k (Cuts c)).up (cuts_unsent k c);
      count = omega arith;
    })
event_turns laws all past rest opening k qs (Hangs n) mid after s Z cases =
    let q = hangs_silent k n (numbered k.sessions n) in
    cases.idle (hangs k n (numbered k.sessions n)) (record {
      still = hangs_still k n;
      seats = subst (SameSeats k.seats) (sym q.2) (same_seats k.seats);
      links = λ i seat at. refl;
      uncalled = λ i m. no_calls i 0 m (happens k (Hangs n)).up q.0;
      count = let e = hangs_count k n (numbered k.sessions n) in omega (arith, e);
    })
event_turns laws all past rest opening k qs RawJoins mid after s Z cases =
    let r = server_step k.server event.Connect in
    cases.idle (raw_joins k) (record {
      still = raw_still (book_at opening k all) k qs s.kept r.0 r.1.told;
      seats = raw_seats k r.0 r.1.told;
      links = λ i seat at. refl;
      uncalled = λ i m. no_calls i 0 m (happens k RawJoins).up (raw_up k r.0 r.1.told);
      count = raw_more k r.0 r.1.told;
    })

pub event_cases : FitLaws → (all past rest : List Moment) (opening : List Opening) (k : Core) (qs : List Queue) (e : Event) (mid after : List Queue) → Step all past rest opening k qs e mid after → (Z : Event → CoreStep → Type 0) → EventCases all past rest opening k qs e mid after Z → Z e (happens k e)
event_cases laws all past rest opening k qs e mid after s Z cases = event_turns laws all past rest opening k qs e mid after s Z (record {
  idle = λ t i. cases.still t i.still;
  joins = λ c seat is s here still. subst (λ (x : Event). Z x (joins_now k c seat)) is (cases.still (joins_now k c seat) (subst (λ (x : Event). IsStill k x (joins_now k c seat)) (sym is) still));
  begins = cases.begins;
  hears = cases.hears;
  lost = λ c seat s here left. cases.lost c seat s here;
})
