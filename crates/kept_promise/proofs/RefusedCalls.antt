-- An answer that refuses a call on names is what the call came to over the tree, as the server took it, or settled what it left waiting.
use Rattle.std.proofs.Common.{inl, inr, ◌≡◌, ℕ, List, [], ◌∷◌, length, Option, Some, None, Result, Ok, Err, Bool, true, false, refl, sym, ap, ◌∙◌, subst, arith, map}
use Rattle.hash_calls.specs.declared.message.Lb.{Lb}
use Rattle.hash_calls.specs.declared.message.Lb.TheVariants as lb
use Rattle.nfs3_calls.specs.declared.message.Nfs.{Nfs}
use Rattle.nfs3_calls.specs.declared.message.Nfs.TheVariants as nfs
use Rattle.wire.specs.declared.message.Body.TheVariants as body
use Rattle.wire.specs.declared.message.Message.TheVariants as message
use Rattle.xdr_codec.specs.declared.status.Status.TheVariants as status
use Rattle.tree_calls.specs.Waiting.{calls, file_of, settles as tree_settles}
use Rattle.tree_calls.specs.declared.asked.Done.{Done as Told}
use Rattle.tree_calls.specs.declared.asked.Outcome.{Outcome}
use Rattle.tree_calls.specs.declared.asked.Outcome.TheVariants.{Answered, Waits as ToWait}
use Rattle.server_core.specs.State as server
use Rattle.server_core.specs.Closing.{answers, looked_up, ready_by, settles_by}
use Rattle.callback_core.specs.Waits.{without, without_made}
use Rattle.server_core.specs.Step.{asks, asks_tree}
use Rattle.server_core.specs.declared.change.Wanted.TheVariants as wanted
use Rattle.server_core.specs.declared.event.Sent.{Sent}
use Rattle.trace_replay.specs.Naming.{refusal_of, TreeTells}
use Rattle.kept_promise.proofs.Common.{nat_lt, if◌then◌else◌, Contains, Contains-push_cases, Contains-append_cases, Failed, Status, Body, Message, parse_of, Temp, size_most, temp_at, room_fault, piece_fault, cond_fault, assembled, without_temp, File, Node, file, directory, node_of, called, got_if, at, stands, makes, makes_unless, writes_unless, names_unless, names_bytes, takes_commit, takes_commit_on, commits_whole, has_waiting, is_full, makes_change, Wanted, FileChange, Core, Event, Event.Serves, Event.Settles, CoreStep, server_waiting, server_waits, happens, change_of}
use Rattle.server_core.specs.Recalling.{comes, recall_sent, recalls_for}
use Rattle.server_core.specs.Leasing.{asking}
use Rattle.callback_core.specs.declared.back_calls.Asked.{Asked as Recalled}
use Rattle.kept_promise.proofs.Lists.{nothing_there}
use Rattle.kept_promise.proofs.CallsAlike.{call_read}
use Rattle.kept_promise.proofs.RunsCarried.{moment}
use Rattle.kept_promise.proofs.Happens.{what_happens}

-- ---- what is no answer of NFS

abbrev IsOther : Message → Type 0
IsOther (message.Answer xid (body.Nfs a)) = ⊥
IsOther m = Unit {0}

abbrev AreOther : List Sent → Type 0
AreOther [] = Unit {0}
AreOther (s ∷ ss) = IsOther s.message × AreOther ss

-- this answer, on a session
abbrev told_on : (n xid : ℕ) → Nfs → Sent
told_on n xid a = record { session = n; message = message.Answer xid (body.Nfs a) }

other_sent : (ss : List Sent) (n xid : ℕ) (a : Nfs) → AreOther ss → Contains ss (told_on n xid a) → ⊥
other_sent [] n xid a h c = let lt = c.1 in omega (arith, lt)
other_sent (s ∷ ss) n xid a h c = elim (Contains-append_cases (s ∷ []) ss (told_on n xid a) c) [
  | inl first ↦ elim (Contains-push_cases [] s (told_on n xid a) first) [
    | inl none ↦ (let lt = none.1 in absurd (omega (arith, lt)))
    | inr same ↦ subst (λ (z : Sent). IsOther z.message) same h.0
  ]
  | inr later ↦ other_sent ss n xid a h.1 later
]

-- the answer that is sent is just this one
same_sent : (n m x y : ℕ) (a b : Nfs) → Contains (told_on n x a ∷ []) (told_on m y b) → (m ≡ n) × (y ≡ x) × (b ≡ a)
same_sent n m x y a b c = elim (Contains-push_cases [] (told_on n x a) (told_on m y b) c) [
  | inl none ↦ (let lt = none.1 in absurd (omega (arith, lt)))
  | inr same ↦ (ap (λ (z : Sent). z.session) (sym same), xid_is x y a b (ap (λ (z : Sent). z.message) same), told_is x y a b (ap (λ (z : Sent). z.message) same))
]
  where
    xid_is : (x y : ℕ) (a b : Nfs) → message.Answer x (body.Nfs a) ≡ message.Answer y (body.Nfs b) → y ≡ x
    xid_is x y a b e = cc

    told_is : (x y : ℕ) (a b : Nfs) → message.Answer x (body.Nfs a) ≡ message.Answer y (body.Nfs b) → b ≡ a
    told_is x y a b e = cc

-- calls of LBFS have none
-- what a server asks for is none
recalls_other : (recalls : List Recalled) → AreOther (map recall_sent recalls)
recalls_other [] = tt
recalls_other (a ∷ recalls) = (tt, recalls_other recalls)

commits_other : (s : server.State) (n xid size : ℕ) (t : Temp) (nd : Result Node Status) → AreOther (takes_commit_on s n xid size t nd).1.send
commits_other s n xid size t (Err e) = (tt, tt)
commits_other s n xid size t (Ok directory) = (tt, tt)
commits_other s n xid size t (Ok (file f)) = by (nat_lt size_most size)
  where
    waits : (content : List ℕ) (a b : Bool) → AreOther (if a then answers s n xid (lb.CommitTmpAnswer (Failed status.Jukebox tt)) else if b then answers s n xid (lb.CommitTmpAnswer (Failed status.NoSpc tt)) else comes s (change_of n xid f.id (wanted.Content content))).1.send
    waits content true b = (tt, tt)
    waits content false true = (tt, tt)
    waits content false false = recalls_other (asking s.leasing (recalls_for s (change_of n xid f.id (wanted.Content content)))).1

    whole : (o : Option (List ℕ)) → AreOther (commits_whole s n xid f.id o).1.send
    whole None = (tt, tt)
    whole (Some content) = waits content (has_waiting s.waiting n) (is_full s (length content))

    by : (b : Bool) → AreOther (if b then answers s n xid (lb.CommitTmpAnswer (Failed status.FBig tt)) else commits_whole s n xid f.id (assembled t size)).1.send
    by true = (tt, tt)
    by false = whole (assembled t size)

lb_other : (s : server.State) (n xid : ℕ) (m : Lb) → AreOther (called s n xid (body.Lb m)).1.send
lb_other s n xid (lb.CondWrite a) = by (cond_fault a (temp_at s.temps n a.fd))
  where
    bytes : (t : Option Temp) (o : Option (List ℕ)) → AreOther (names_bytes (looked_up s a) n xid a t o).1.send
    bytes (Some t) (Some b) = (tt, tt)
    bytes (Some t) None = (tt, tt)
    bytes None o = (tt, tt)

    by : (o : Option Status) → AreOther (names_unless s n xid a (temp_at s.temps n a.fd) o).1.send
    by (Some e) = (tt, tt)
    by None = bytes (temp_at s.temps n a.fd) _
lb_other s n xid (lb.MkTmpFile a) = by (node_of s.tree a.handle)
  where
    room : (f : File) (o : Option Status) → AreOther (makes_unless s n xid a.fd f.id o).1.send
    room f (Some e) = (tt, tt)
    room f None = (tt, tt)

    by : (nd : Result Node Status) → AreOther (makes s n xid a.fd nd).1.send
    by (Err e) = (tt, tt)
    by (Ok directory) = (tt, tt)
    by (Ok (file f)) = room f (room_fault s.temps n a.fd)
lb_other s n xid (lb.TmpWrite a) = by (temp_at s.temps n a.fd) (piece_fault (temp_at s.temps n a.fd) a.offset (length a.bytes))
  where
    by : (t : Option Temp) (o : Option Status) → AreOther (writes_unless s n xid a t o).1.send
    by (Some t) None = (tt, tt)
    by (Some t) (Some e) = (tt, tt)
    by None o = (tt, tt)
lb_other s n xid (lb.CommitTmp a) = by (temp_at s.temps n a.fd)
  where
    by : (t : Option Temp) → AreOther (takes_commit s n xid a t).1.send
    by None = (tt, tt)
    by (Some t) = commits_other (record s { temps = without_temp s.temps n a.fd }) n xid a.size t (node_of s.tree a.handle)
lb_other s n xid m = (tt, tt)

-- ---- a call of NFS

-- what is sent for one is what it comes to over the tree; a NULL and a READ don't refuse as one on names does
abbrev Refuses : server.State → (n xid : ℕ) → Nfs → List Sent → Type 0
Refuses s n xid call send = (m y : ℕ) (a : Nfs) (e : Status) → refusal_of a ≡ Some e → Contains send (told_on m y a) → (m ≡ n) × (y ≡ xid) × ((d : Told) × ((calls s.tree (server.held s.waiting) (has_waiting s.waiting n) call).1 ≡ Some (Answered d)) × (d.answer ≡ a))

none_refused : {A : Type 0} (n xid : ℕ) (b : Nfs) → refusal_of b ≡ None → (m y : ℕ) (a : Nfs) (e : Status) → refusal_of a ≡ Some e → Contains (told_on n xid b ∷ []) (told_on m y a) → A
none_refused n xid b none m y a e refused c = nothing_there e (sym none ∙ ap refusal_of (sym (same_sent n m xid y b a c).2) ∙ refused)

asks_refuses : (s : server.State) (n xid : ℕ) (call : Nfs) → Refuses s n xid call (asks_tree s n xid (calls s.tree (server.held s.waiting) (has_waiting s.waiting n) call)).1.send
asks_refuses s n xid call = by (calls s.tree (server.held s.waiting) (has_waiting s.waiting n) call).1 refl
  where
    by : (o : Option Outcome) → (calls s.tree (server.held s.waiting) (has_waiting s.waiting n) call).1 ≡ o → Refuses s n xid call (asks (record s { tree = (calls s.tree (server.held s.waiting) (has_waiting s.waiting n) call).0 }) n xid o).1.send
    by None is m y a e refused c = absurd (other_sent (asks s n xid None).1.send m y a (tt, tt) c)
    by (Some (Answered d)) is m y a e refused c = (let same = same_sent n m xid y d.answer a c in (same.0, same.1, (d, is, sym same.2)))
    by (Some (ToWait w)) is m y a e refused c = absurd (other_sent (map recall_sent (asking s.leasing (recalls_for (record s { tree = (calls s.tree (server.held s.waiting) (has_waiting s.waiting n) call).0 }) (change_of n xid (file_of w) (wanted.Asked w)))).1) m y a (recalls_other (asking s.leasing (recalls_for (record s { tree = (calls s.tree (server.held s.waiting) (has_waiting s.waiting n) call).0 }) (change_of n xid (file_of w) (wanted.Asked w)))).1) c)

call_refuses : (s : server.State) (n xid : ℕ) (call : Nfs) → Refuses s n xid call (called s n xid (body.Nfs call)).1.send
call_refuses s n xid nfs.Null m y a e refused c = none_refused n xid nfs.NullAnswer refl m y a e refused c
call_refuses s n xid (nfs.Read r) m y a e refused c = none_refused n xid (nfs.ReadAnswer _) refl m y a e refused c
call_refuses s n xid call m y a e refused c = asks_refuses s n xid call m y a e refused c

-- ---- any event

record IsTold (k : Core) (e : Event) (t : CoreStep) : Type 0 where
  by : (m y : ℕ) (a : Nfs) (s : Status) → refusal_of a ≡ Some s → Contains t.down (told_on m y a) → TreeTells (moment k e) m y a

quietly : (k : Core) (e : Event) (t : CoreStep) → AreOther t.down → IsTold k e t
quietly k e t h = record { by = λ m y a s refused c. absurd (other_sent t.down m y a h c) }

all_told : (k : Core) (e : Event) → IsTold k e (happens k e)
all_told k e = what_happens k e (IsTold k e) (record {
  nothing = quietly k e _ tt;
  idle = quietly k e _ tt;
  joins = λ c seat is. quietly k e _ tt;
  refuses = λ c seat is. quietly k e _ tt;
  does = λ c now d seat is. quietly k e _ tt;
  takes = λ n now bytes x z is there unhung read. record { by = λ m y a s refused c. subst (λ (w : Event). TreeTells (moment k w) m y a) (sym is) (got_by n now bytes z read (stands k.server n) m y a s refused c) };
  hears = λ n now bytes owner seat is. quietly k e _ tt;
  settles = λ now is. record { by = λ m y a s refused c. subst (λ (w : Event). TreeTells (moment k w) m y a) (sym is) (settled now (ready_by k.server now) refl m y a s refused c) };
  cuts = λ c seat is. quietly k e _ tt;
  hangs = λ n x is there unhung. quietly k e _ tt;
  closes = λ n now bytes x is there unhung. quietly k e _ tt;
  raw_joins = λ is. quietly k e _ tt;
  raw_refuses = λ is. quietly k e _ tt;
})
  where
    called_by : (n now : ℕ) (bytes : List ℕ) (xid : ℕ) (b : Body) → parse_of server_waiting bytes ≡ Ok (message.Call xid b) → (m y : ℕ) (a : Nfs) (s : Status) → refusal_of a ≡ Some s → Contains (called (at k.server now) n xid b).1.send (told_on m y a) → TreeTells (moment k (Serves n now bytes)) m y a
    called_by n now bytes xid (body.Lb l) read m y a s refused c = absurd (other_sent (called (at k.server now) n xid (body.Lb l)).1.send m y a (lb_other (at k.server now) n xid l) c)
    called_by n now bytes xid (body.Nfs call) read m y a s refused c =
        let h = call_refuses (at k.server now) n xid call m y a s refused c in
        subst (λ i. TreeTells (moment k (Serves n now bytes)) i y a) (sym h.0) (subst (λ i. TreeTells (moment k (Serves n now bytes)) n i a) (sym h.1) (inl (record { now = now; bytes = bytes; call = call; event_is = refl; parsed = read; told = h.2.0; told_is = h.2.1; answer_is = h.2.2 })))
    called_by n now bytes xid (body.Back z) read m y a s refused c = absurd (other_sent (called (at k.server now) n xid (body.Back z)).1.send m y a (tt, tt) c)

    got_by : (n now : ℕ) (bytes : List ℕ) (z : Message) → parse_of (server_waits k n) bytes ≡ Ok z → (b : Bool) → (m y : ℕ) (a : Nfs) (s : Status) → refusal_of a ≡ Some s → Contains (got_if k.server b n z now).1.send (told_on m y a) → TreeTells (moment k (Serves n now bytes)) m y a
    got_by n now bytes (message.Call xid b) read true m y a s refused c = called_by n now bytes xid b (call_read k n bytes xid b read) m y a s refused c
    got_by n now bytes (message.Unfit xid why) read true m y a s refused c = absurd (other_sent (got_if k.server true n (message.Unfit xid why) now).1.send m y a (tt, tt) c)
    got_by n now bytes (message.Answer xid b) read true m y a s refused c = absurd (other_sent [] m y a tt c)
    got_by n now bytes (message.Refuse xid r) read true m y a s refused c = absurd (other_sent [] m y a tt c)
    got_by n now bytes z read false m y a s refused c = absurd (other_sent [] m y a tt c)

    made : (now : ℕ) (c : FileChange) → ready_by k.server now ≡ Some c → (w : Wanted) → c.what ≡ w → (m y : ℕ) (a : Nfs) (s : Status) → refusal_of a ≡ Some s → Contains (makes_change (at (record k.server { waiting = without k.server.waiting c.session }) now) c w).1.send (told_on m y a) → TreeTells (moment k (Settles now)) m y a
    made now c is (wanted.Content x) what m y a s refused here = absurd (other_sent (makes_change (at (record k.server { waiting = without k.server.waiting c.session }) now) c (wanted.Content x)).1.send m y a (tt, tt) here)
    made now c is (wanted.Asked w) what m y a s refused here =
        let same = same_sent c.session m c.xid y _ a here in
        inr (record {
          settled = record { now = now; event_is = refl; change = c; ready = is; session_is = sym same.0; xid_is = sym same.1 };
          asked = w;
          what_is = what;
          answer_is = ap (λ (o : Option FileChange). (tree_settles k.server.tree (server.held (without_made k.server.waiting o)) w).1.answer) is ∙ sym same.2;
        })

    settled : (now : ℕ) (next : Option FileChange) → ready_by k.server now ≡ next → (m y : ℕ) (a : Nfs) (s : Status) → refusal_of a ≡ Some s → Contains (settles_by k.server false now next).1.send (told_on m y a) → TreeTells (moment k (Settles now)) m y a
    settled now None is m y a s refused c = absurd (other_sent [] m y a tt c)
    settled now (Some c) is m y a s refused here = made now c is c.what refl m y a s refused here

-- what an answer says that refuses is what the tree told
pub tree_tells : (k : Core) (e : Event) (n xid : ℕ) (a : Nfs) (s : Status) → refusal_of a ≡ Some s → Contains (happens k e).down (record { session = n; message = message.Answer xid (body.Nfs a) }) → TreeTells (moment k e) n xid a
tree_tells k e n xid a s refused c = (all_told k e).by n xid a s refused c
