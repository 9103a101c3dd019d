-- The answer to a CONDWRITE is what the server makes of it as it takes it: that it has no such chunk exactly where it knows no bytes for it.
use Rattle.std.proofs.Common.{◌⊎◌, inl, inr, ◌≡◌, ℕ, ◌+◌, List, [], ◌∷◌, length, Option, Some, None, Result, Ok, Err, Bool, true, false, refl, sym, ap, ◌∙◌, subst, arith, map}
use Rattle.hash_calls.specs.declared.call.CondPiece.{CondPiece}
use Rattle.hash_calls.specs.declared.message.Lb.TheVariants as lb
use Rattle.nfs3_calls.specs.declared.message.Nfs.TheVariants as nfs
use Rattle.wire.specs.declared.message.Body.TheVariants as body
use Rattle.wire.specs.declared.message.Message.TheVariants as message
use Rattle.xdr_codec.specs.declared.status.Status.TheVariants as status
use Rattle.chunk_index.specs.Index.{key_of as digest_key, place_of}
use Rattle.server_core.specs.State as server
use Rattle.temp_files.specs.Pieces.{overlaps}
use Rattle.server_core.specs.Closing.{answers, looked_up, ready_by, settles_by}
use Rattle.callback_core.specs.Waits.{without}
use Rattle.chunk_calls.specs.Writing.{cond_most}
use Rattle.server_core.specs.declared.event.Sent.{Sent}
use Rattle.trace_replay.specs.Saving.{name_call, name_told, name_answer}
use Rattle.kept_promise.proofs.CallsAlike.{call_read}
use Rattle.kept_promise.proofs.Common.{nat_lt, if◌then◌else◌, ◌==◌, ◌||◌, list_any, Contains, Contains-push_cases, Contains-append_cases, Answer, Done, Failed, Status, Body, Message, parse_of, Temp, size_most, temp_at, room_fault, piece_fault, assembled, without_temp, Node, directory, file, node_of, File, FileChange, called, got_if, stands, at, makes, makes_unless, makes_change, names, names_unless, names_bytes, bytes_known, cond_fault, writes_unless, takes_commit, takes_commit_on, commits_whole, has_waiting, is_full, Core, Event, Event.Serves, CoreStep, server_waiting, server_waits, does, joins, hears, cuts, hangs, happens, Wanted, Tree, change_of, not, numbered}
use Rattle.tree_calls.specs.Waiting.{file_of}
use Rattle.server_core.specs.Recalling.{comes, recall_sent, recalls_for}
use Rattle.server_core.specs.Leasing.{asking}
use Rattle.callback_core.specs.declared.back_calls.Asked.{Asked as Recalled}
use Rattle.kept_promise.proofs.Lists.{nothing_there}
use Rattle.server_core.specs.declared.change.Wanted.TheVariants as wanted
use Rattle.server_core.specs.Step.{asks, asks_tree}
use Rattle.tree_calls.specs.Waiting.{calls}
use Rattle.tree_calls.specs.declared.asked.Outcome.{Outcome}
use Rattle.tree_calls.specs.declared.asked.Outcome.TheVariants.{Answered, Waits as ToWait}
use Rattle.kept_promise.proofs.Happens.{what_happens}
use Rattle.trace_replay.specs.Trail.{can_hang}

-- ---- what a CONDWRITE comes to

-- the bytes that a server knows for it
abbrev pub known_in : server.State → CondPiece → Option (List ℕ)
known_in s a = bytes_known s.tree a (place_of s.index.pairs (digest_key a.digest))

-- its temporary file can't take the bytes, or the answer says whether they are known
abbrev pub ComesTo : server.State → CondPiece → Option Temp → Answer Unit Unit → Type 0
ComesTo s a t r = ((e : Status) × (cond_fault a t ≡ Some e) × (r ≡ Failed e tt)) ⊎ ((cond_fault a t ≡ None) × (r ≡ name_answer (known_in s a)))

abbrev one_sent : (session : ℕ) → Message → List Sent
one_sent n m = record { session = n; message = m } ∷ []

abbrev Says : server.State → (n xid : ℕ) → CondPiece → Option Temp → List Sent → Type 0
Says s n xid a t send = (r : Answer Unit Unit) × ComesTo s a t r × (send ≡ one_sent n (name_told xid r))

-- a temporary file that isn't there takes nothing
none_free : (a : CondPiece) → cond_fault a None ≡ None → ⊥
none_free a e = by (a.count == 0 || nat_lt cond_most a.count) e
  where
    by : (b : Bool) → (if b then Some status.Inval else piece_fault None a.offset a.count) ≡ None → ⊥
    by true e = absurd cc
    by false e = absurd cc

pub names_say : (s : server.State) (n xid : ℕ) (a : CondPiece) (t : Option Temp) → Says s n xid a t (names s n xid a t).1.send
names_say s n xid a t = by (cond_fault a t) refl
  where
    bytes : (t : Option Temp) → cond_fault a t ≡ None → (o : Option (List ℕ)) → known_in s a ≡ o → Says s n xid a t (names_bytes (looked_up s a) n xid a t o).1.send
    bytes (Some t) none (Some b) is = (Done tt, inr (none, sym (ap name_answer is)), refl)
    bytes (Some t) none None is = (Failed status.HashNotFound tt, inr (none, sym (ap name_answer is)), refl)
    bytes None none o is = absurd (none_free a none)

    by : (o : Option Status) → cond_fault a t ≡ o → Says s n xid a t (names_unless s n xid a t o).1.send
    by (Some e) is = (Failed e tt, inl (e, is, refl), refl)
    by None is = bytes t is (known_in s a) refl

-- where its temporary file has room it is answered so
pub names_free : (s : server.State) (n xid : ℕ) (a : CondPiece) (t : Option Temp) → cond_fault a t ≡ None → (names s n xid a t).1.send ≡ one_sent n (name_told xid (name_answer (known_in s a)))
names_free s n xid a t none = by (names_say s n xid a t)
  where
    by : Says s n xid a t (names s n xid a t).1.send → (names s n xid a t).1.send ≡ one_sent n (name_told xid (name_answer (known_in s a)))
    by (r, inl (e, is, failed), sent) = nothing_there e (sym none ∙ is)
    by (r, inr (free, is), sent) = sent ∙ ap (λ z. one_sent n (name_told xid z)) is

-- no fault of a temporary file says that a chunk isn't known
pub fault_apart : (a : CondPiece) (t : Option Temp) → cond_fault a t ≡ Some status.HashNotFound → ⊥
fault_apart a t e = by (a.count == 0 || nat_lt cond_most a.count) e
  where
    over : (x y z : Bool) → (if x then Some status.Inval else if y then Some status.FBig else if z then Some status.Inval else None) ≡ Some status.HashNotFound → ⊥
    over true y z e = absurd cc
    over false true z e = absurd cc
    over false false true e = absurd cc
    over false false false e = absurd cc

    range : (x y z w : Bool) → (if x then Some status.Inval else if y then Some status.Inval else if z then Some status.FBig else if w then Some status.Inval else None) ≡ Some status.HashNotFound → ⊥
    range true y z w e = absurd cc
    range false y z w e = over y z w e

    piece : (t : Option Temp) → piece_fault t a.offset a.count ≡ Some status.HashNotFound → ⊥
    piece None e = absurd cc
    piece (Some t) e = range (a.count == 0) (nat_lt 18446744073709551615 (a.offset + a.count)) (nat_lt size_most (a.offset + a.count)) (list_any (overlaps a.offset (a.offset + a.count)) t.pieces) e

    by : (b : Bool) → (if b then Some status.Inval else piece_fault t a.offset a.count) ≡ Some status.HashNotFound → ⊥
    by true e = absurd cc
    by false e = piece t e

-- ---- nothing else answers one

abbrev IsOther : Message → Type 0
IsOther (message.Answer xid (body.Lb (lb.CondWriteAnswer r))) = ⊥
IsOther m = Unit {0}

abbrev AreOther : List Sent → Type 0
AreOther [] = Unit {0}
AreOther (s ∷ ss) = IsOther s.message × AreOther ss

other_sent : (ss : List Sent) (n xid : ℕ) (r : Answer Unit Unit) → AreOther ss → Contains ss (record { session = n; message = name_told xid r }) → ⊥
other_sent [] n xid r h c = let lt = c.1 in omega (arith, lt)
other_sent (s ∷ ss) n xid r h c = elim (Contains-append_cases (s ∷ []) ss (record { session = n; message = name_told xid r }) c) [
  | inl first ↦ elim (Contains-push_cases [] s (record { session = n; message = name_told xid r }) first) [
    | inl none ↦ (let lt = none.1 in absurd (omega (arith, lt)))
    | inr same ↦ subst (λ (z : Sent). IsOther z.message) same h.0
  ]
  | inr later ↦ other_sent ss n xid r h.1 later
]

-- what a server asks for is none
recalls_other : (recalls : List Recalled) → AreOther (map recall_sent recalls)
recalls_other [] = tt
recalls_other (a ∷ recalls) = (tt, recalls_other recalls)

commits_other : (s : server.State) (n xid size : ℕ) (t : Temp) (nd : Result Node Status) → AreOther (takes_commit_on s n xid size t nd).1.send
commits_other s n xid size t (Err e) = (tt, tt)
commits_other s n xid size t (Ok directory) = (tt, tt)
commits_other s n xid size t (Ok (file f)) = by (nat_lt size_most size)
  where
    waits : (content : List ℕ) (a b : Bool) → AreOther (if a then answers s n xid (lb.CommitTmpAnswer (Failed status.Jukebox tt)) else if b then answers s n xid (lb.CommitTmpAnswer (Failed status.NoSpc tt)) else comes s (change_of n xid f.id (wanted.Content content))).1.send
    waits content true b = (tt, tt)
    waits content false true = (tt, tt)
    waits content false false = recalls_other (asking s.leasing (recalls_for s (change_of n xid f.id (wanted.Content content)))).1

    whole : (o : Option (List ℕ)) → AreOther (commits_whole s n xid f.id o).1.send
    whole None = (tt, tt)
    whole (Some content) = waits content (has_waiting s.waiting n) (is_full s (length content))

    by : (b : Bool) → AreOther (if b then answers s n xid (lb.CommitTmpAnswer (Failed status.FBig tt)) else commits_whole s n xid f.id (assembled t size)).1.send
    by true = (tt, tt)
    by false = whole (assembled t size)

outcome_other : (s : server.State) (n xid : ℕ) (p : Tree × Option Outcome) → AreOther (asks_tree s n xid p).1.send
outcome_other s n xid p = by p.1
  where
    by : (o : Option Outcome) → AreOther (asks (record s { tree = p.0 }) n xid o).1.send
    by None = (tt, tt)
    by (Some (Answered d)) = (tt, tt)
    by (Some (ToWait a)) = recalls_other (asking s.leasing (recalls_for (record s { tree = p.0 }) (change_of n xid (file_of a) (wanted.Asked a)))).1

-- what a call comes to: a CONDWRITE, or another
abbrev Answers : server.State → (n xid : ℕ) → Body → List Sent → Type 0
Answers s n xid b send = ((a : CondPiece) × (b ≡ body.Lb (lb.CondWrite a)) × Says s n xid a (temp_at s.temps n a.fd) send) ⊎ AreOther send

call_answers : (s : server.State) (n xid : ℕ) (b : Body) → Answers s n xid b (called s n xid b).1.send
call_answers s n xid (body.Lb (lb.CondWrite a)) = inl (a, refl, names_say s n xid a (temp_at s.temps n a.fd))
call_answers s n xid (body.Lb (lb.MkTmpFile a)) = inr (by (node_of s.tree a.handle))
  where
    room : (f : File) (o : Option Status) → AreOther (makes_unless s n xid a.fd f.id o).1.send
    room f (Some e) = (tt, tt)
    room f None = (tt, tt)

    by : (nd : Result Node Status) → AreOther (makes s n xid a.fd nd).1.send
    by (Err e) = (tt, tt)
    by (Ok directory) = (tt, tt)
    by (Ok (file f)) = room f (room_fault s.temps n a.fd)
call_answers s n xid (body.Lb (lb.TmpWrite a)) = inr (by (temp_at s.temps n a.fd) (piece_fault (temp_at s.temps n a.fd) a.offset (length a.bytes)))
  where
    by : (t : Option Temp) (o : Option Status) → AreOther (writes_unless s n xid a t o).1.send
    by (Some t) None = (tt, tt)
    by (Some t) (Some e) = (tt, tt)
    by None o = (tt, tt)
call_answers s n xid (body.Lb (lb.CommitTmp a)) = inr (by (temp_at s.temps n a.fd))
  where
    by : (t : Option Temp) → AreOther (takes_commit s n xid a t).1.send
    by None = (tt, tt)
    by (Some t) = commits_other (record s { temps = without_temp s.temps n a.fd }) n xid a.size t (node_of s.tree a.handle)
call_answers s n xid (body.Nfs nfs.Null) = inr (tt, tt)
call_answers s n xid (body.Nfs (nfs.Read a)) = inr (tt, tt)
call_answers s n xid (body.Nfs m) = inr (outcome_other s n xid (calls s.tree (server.held s.waiting) (has_waiting s.waiting n) m))
call_answers s n xid b = inr (tt, tt)

-- ---- of any event

-- a CONDWRITE of this number was taken on this session, and came to this answer
pub record NameTaken (k : Core) (e : Event) (n xid : ℕ) (r : Answer Unit Unit) : Type 0 where
  pub now : ℕ
  pub bytes : List ℕ
  pub event_is : e ≡ Serves n now bytes
  pub stands : can_hang (numbered k.sessions n) ≡ true
  pub piece : CondPiece
  pub call_is : parse_of server_waiting bytes ≡ Ok (name_call xid piece)
  pub comes : ComesTo k.server piece (temp_at k.server.temps n piece.fd) r

-- the answer that is sent is just this one
same_sent : (n m x y : ℕ) (r s : Answer Unit Unit) → Contains (one_sent n (name_told x r)) (record { session = m; message = name_told y s }) → (m ≡ n) × (y ≡ x) × (s ≡ r)
same_sent n m x y r s c = elim (Contains-push_cases [] (record { session = n; message = name_told x r }) (record { session = m; message = name_told y s }) c) [
  | inl none ↦ (let lt = none.1 in absurd (omega (arith, lt)))
  | inr same ↦ (ap (λ (z : Sent). z.session) (sym same), xid_is x y r s (ap (λ (z : Sent). z.message) same), told_is x y r s (ap (λ (z : Sent). z.message) same))
]
  where
    xid_is : (x y : ℕ) (r s : Answer Unit Unit) → name_told x r ≡ name_told y s → y ≡ x
    xid_is x y r s e = cc

    told_is : (x y : ℕ) (r s : Answer Unit Unit) → name_told x r ≡ name_told y s → s ≡ r
    told_is x y r s e = cc

-- each answer to a CONDWRITE that is sent is what it came to
pub record SentBy (k : Core) (e : Event) (t : CoreStep) : Type 0 where
  pub taken : (n xid : ℕ) (r : Answer Unit Unit) → Contains t.down (record { session = n; message = name_told xid r }) → NameTaken k e n xid r

quietly : (k : Core) (e : Event) (t : CoreStep) → AreOther t.down → SentBy k e t
quietly k e t h = record { taken = λ n xid r c. absurd (other_sent t.down n xid r h c) }

pub name_taken : (k : Core) (e : Event) → SentBy k e (happens k e)
name_taken k e = what_happens k e (SentBy k e) (record {
  nothing = quietly k e _ tt;
  idle = quietly k e _ tt;
  joins = λ c seat is. quietly k e _ tt;
  refuses = λ c seat is. quietly k e _ tt;
  does = λ c now d seat is. quietly k e _ tt;
  takes = λ m now bytes x z is there unhung read. record { taken = λ n y r c. subst (λ (w : Event). NameTaken k w n y r) (sym is) (got_by m now bytes z (ap can_hang there ∙ ap not unhung) read (stands k.server m) n y r c) };
  hears = λ m now bytes owner seat is. quietly k e _ tt;
  settles = λ now is. quietly k e _ (settled now (ready_by k.server now));
  cuts = λ c seat is. quietly k e _ tt;
  hangs = λ m x is there unhung. quietly k e _ tt;
  closes = λ m now bytes x is there unhung. quietly k e _ tt;
  raw_joins = λ is. quietly k e _ tt;
  raw_refuses = λ is. quietly k e _ tt;
})
  where
    called_by : (m now : ℕ) (bytes : List ℕ) (xid : ℕ) (b : Body) → can_hang (numbered k.sessions m) ≡ true → parse_of server_waiting bytes ≡ Ok (message.Call xid b) → Answers (at k.server now) m xid b (called (at k.server now) m xid b).1.send → (n y : ℕ) (r : Answer Unit Unit) → Contains (called (at k.server now) m xid b).1.send (record { session = n; message = name_told y r }) → NameTaken k (Serves m now bytes) n y r
    called_by m now bytes xid b stood is (inr other) n y r c = absurd (other_sent (called (at k.server now) m xid b).1.send n y r other c)
    called_by m now bytes xid b stood is (inl (a, names_it, (s, comes, sent))) n y r c =
        let same = same_sent m n xid y s r (subst (λ l. Contains l (record { session = n; message = name_told y r })) sent c) in
        subst (λ z. NameTaken k (Serves m now bytes) z y r) (sym same.0) (subst (λ z. NameTaken k (Serves m now bytes) m z r) (sym same.1) (subst (NameTaken k (Serves m now bytes) m xid) (sym same.2) (record {
          now = now;
          bytes = bytes;
          event_is = refl;
          stands = stood;
          piece = a;
          call_is = is ∙ ap (λ z. Ok (message.Call xid z)) names_it;
          comes = comes;
        })))

    got_by : (m now : ℕ) (bytes : List ℕ) (z : Message) → can_hang (numbered k.sessions m) ≡ true → parse_of (server_waits k m) bytes ≡ Ok z → (b : Bool) → (n y : ℕ) (r : Answer Unit Unit) → Contains (got_if k.server b m z now).1.send (record { session = n; message = name_told y r }) → NameTaken k (Serves m now bytes) n y r
    got_by m now bytes (message.Call xid b) stood is true n y r c = called_by m now bytes xid b stood (call_read k m bytes xid b is) (call_answers (at k.server now) m xid b) n y r c
    got_by m now bytes (message.Unfit xid why) stood is true n y r c = absurd (other_sent (got_if k.server true m (message.Unfit xid why) now).1.send n y r (tt, tt) c)
    got_by m now bytes (message.Answer xid b) stood is true n y r c = absurd (other_sent [] n y r tt c)
    got_by m now bytes (message.Refuse xid why) stood is true n y r c = absurd (other_sent [] n y r tt c)
    got_by m now bytes z stood is false n y r c = absurd (other_sent [] n y r tt c)

    made : (s : server.State) (c : FileChange) (a : Wanted) → AreOther (makes_change s c a).1.send
    made s c (wanted.Content x) = (tt, tt)
    made s c (wanted.Asked a) = (tt, tt)

    settled : (now : ℕ) (next : Option FileChange) → AreOther (settles_by k.server false now next).1.send
    settled now None = tt
    settled now (Some c) = made (at (record k.server { waiting = without k.server.waiting c.session }) now) c c.what
