-- What is on its way between the two ends of a run are whole messages, each of which its end reads.
use Rattle.std.proofs.Common.{◌≡◌, ℕ, zero, suc, List, [], ◌∷◌, length, Option, Some, None, Bool, true, false, refl, sym, ap, ◌∙◌, subst, arith, map, ◌⊎◌, inl, inr}
use Rattle.std.specs.List.{AllByRecursion}
use Rattle.trace_replay.specs.Traces.{IsRead, IsServed, IsAnswered, xid_of, is_call, AreOfOne, HoldsMessages, HoldsQueues}
use Rattle.hash_calls.specs.declared.message.BackProc.TheVariants as back_proc
use Rattle.lease_law.specs.Claims.{recall_message}
use Rattle.wire.specs.Parse.{waiting}
use Rattle.wire.specs.declared.message.Program.{Program}
use Rattle.wire.specs.declared.message.Program.TheVariants as program
use Rattle.kept_promise.proofs.Common.{not, stands, All-nil, All-cons, All, slice_get, ◌==◌, ◌||◌, if◌then◌else◌, has_call, State, MessageFits, IsExpected, Waiting, Message, Pending, waiting_of, calls_of, Core, Session, server_waiting, server_waits, World, Moment, book_of, Call, Call.Lease, Ask, Told, Up, Up.Asks, Up.Replies, Down, Down.Tells, Down.Recalls, Mix, asks_in, tolds_in, queue_of, numbered, call_message, ask_message, told_message, reply_message, up_message, down_message, Call.Walks, is_raw}
use Rattle.kept_promise.proofs.Statements.{ToldFits, CallFits}
use Rattle.kept_promise.proofs.Messages.{AllAsks, AllTolds}
use Rattle.kept_promise.proofs.Facts.{IsSession}
use Rattle.kept_promise.proofs.Fits.{FitLaws}
use Rattle.kept_promise.proofs.Turns.{also_numbered, raw_or_owned}
use Rattle.kept_promise.proofs.Lists.{some_is, nothing_there}
use Rattle.kept_promise.proofs.Heard.{told_pending, rising_times}
use Rattle.kept_promise.proofs.Moves.{told_there, expected}
use Rattle.kept_promise.proofs.OrderSteps.{place_once, answers_apart}
use Rattle.kept_promise.proofs.Drops.{has_there}
use Rattle.kept_promise.proofs.Actors.{ask_expected}
use Rattle.kept_promise.proofs.Mixes.{UpFits, DownFits, IsMix, there_plain}
use Rattle.kept_promise.proofs.MixesFit.{map_count}
use Rattle.kept_promise.proofs.Replies.{reply_fits, recall_fits}
use Rattle.kept_promise.proofs.RunsCarried.{Stands}
use Rattle.kept_promise.proofs.RunsEvents.{MixFact}
use Rattle.path_calls.specs.Walk.{call_at}
use Rattle.wire.specs.declared.message.Body.TheVariants as body
use Rattle.wire.specs.declared.message.Message.TheVariants as message
use Rattle.path_calls.specs.declared.walk.Goal.{Goal}
use Rattle.path_calls.specs.declared.walk.Goal.TheVariants as goal
use Rattle.kept_promise.specs.Talk.{reply_body}
use Rattle.wire.specs.Message.{FitsIn}
use Rattle.kept_promise.proofs.Leading.{IsCarried}

-- ---- the numbers of RECALLs

abbrev pub recall_program : Program
recall_program = program.Back back_proc.Recall

-- the server waits for an answer that is on its way to it
abbrev pub UpWaits : List Pending → Up → Type 0
UpWaits waits (Asks a) = Unit {0}
UpWaits waits (Replies xid) = waiting xid waits ≡ Some recall_program

abbrev pub IsOtherUp : (xid : ℕ) → Up → Type 0
IsOtherUp xid (Asks a) = Unit {0}
IsOtherUp xid (Replies other) = xid ≡ other → ⊥

abbrev pub IsOtherDown : (xid : ℕ) → Down → Type 0
IsOtherDown xid (Tells t) = Unit {0}
IsOtherDown xid (Recalls other file) = xid ≡ other → ⊥

-- no two answers are to one RECALL, and no two RECALLs have one number
abbrev pub RepliesApart : List Up → Type 0
RepliesApart [] = Unit {0}
RepliesApart (Asks a ∷ us) = RepliesApart us
RepliesApart (Replies xid ∷ us) = AllByRecursion (IsOtherUp xid) us × RepliesApart us

abbrev pub RecallsApart : List Down → Type 0
RecallsApart [] = Unit {0}
RecallsApart (Tells t ∷ ds) = RecallsApart ds
RecallsApart (Recalls xid file ∷ ds) = AllByRecursion (IsOtherDown xid) ds × RecallsApart ds

-- as long as the server sees the session stand
pub record HasNumbers (stand : Bool) (waits : List Pending) (m : Mix) : Type 0 where
  pub waited : stand ≡ true → AllByRecursion (UpWaits waits) m.ups
  pub replies : RepliesApart m.ups
  pub recalls : RecallsApart m.downs

-- on each session
abbrev pub HaveNumbers : Core → List Mix → Type 0
HaveNumbers k ms = (n : ℕ) (m : Mix) → numbered ms n ≡ Some m → HasNumbers (stands k.server n) (server_waits k n).calls m

-- ---- lists

all_at : {A : Type 0} (P : A → Type 0) (xs : List A) (i : ℕ) (x : A) → AllByRecursion P xs → slice_get xs i ≡ Some x → P x
all_at P [] i x h at = nothing_there x at
all_at P (y ∷ xs) zero x h at = subst P (some_is y x at) h.0
all_at P (y ∷ xs) (suc i) x h at = all_at P xs i x h.1 at

-- no two are the same
abbrev AllOthers : {A : Type 0} → (A → A → Type 0) → List A → Type 0
AllOthers same [] = Unit {0}
AllOthers {A = A} same (x ∷ xs) = ((i : ℕ) (y : A) → slice_get xs i ≡ Some y → same x y → ⊥) × AllOthers same xs

one_place : {A : Type 0} (same : A → A → Type 0) → ((x y : A) → same x y → same y x) → (xs : List A) → AllOthers same xs → (i j : ℕ) (x y : A) → slice_get xs i ≡ Some x → slice_get xs j ≡ Some y → same x y → i ≡ j
one_place same turn [] h i j x y at on alike = nothing_there x at
one_place same turn (z ∷ xs) h zero zero x y at on alike = refl
one_place same turn (z ∷ xs) h zero (suc j) x y at on alike = absurd (h.0 j y on (subst (λ w. same w y) (sym (some_is z x at)) alike))
one_place same turn (z ∷ xs) h (suc i) zero x y at on alike = absurd (h.0 i x at (subst (λ w. same w x) (sym (some_is z y on)) (turn x y alike)))
one_place same turn (z ∷ xs) h (suc i) (suc j) x y at on alike = ap suc (one_place same turn xs h.1 i j x y at on alike)

next_place : (i j : ℕ) → suc i ≡ suc j → i ≡ j
next_place i j e = omega (arith, e)

true_not : {A : Type 0} → true ≡ false → A
true_not e = absurd (by e)
  where
    by : true ≡ false → ⊥
    by z = cc

of_one_turn : (a b : Message) → AreOfOne a b → AreOfOne b a
of_one_turn a b h = (sym h.0, sym h.1)

-- ---- up

asked_is : (a : Ask) → (is_call (ask_message a) ≡ true) × (xid_of (ask_message a) ≡ a.xid)
asked_is a = by a.call
  where
    by : (c : Call) → (is_call (call_message a.lbfs a.xid c) ≡ true) × (xid_of (call_message a.lbfs a.xid c) ≡ a.xid)
    by (Lease f) = (refl, refl)
    by _ = (refl, refl)

abbrev SameUp : Up → Up → Type 0
SameUp u v = AreOfOne (up_message u) (up_message v)

ask_place : (us : List Up) (i : ℕ) (a : Ask) → slice_get us i ≡ Some (Asks a) → (k : ℕ) × (slice_get (asks_in us) k ≡ Some a)
ask_place [] i a at = nothing_there (Asks a) at
ask_place (Asks b ∷ us) zero a at = (0, ap (λ z. Some z) (by (some_is (Asks b) (Asks a) at)))
  where
    by : Asks b ≡ Asks a → b ≡ a
    by e = cc
ask_place (Asks b ∷ us) (suc i) a at = let k = ask_place us i a at in (suc k.0, k.1)
ask_place (Replies x ∷ us) zero a at = absurd (by (some_is (Replies x) (Asks a) at))
  where
    by : Replies x ≡ Asks a → ⊥
    by e = cc
ask_place (Replies x ∷ us) (suc i) a at = ask_place us i a at

abbrev AsksOnce : List Ask → Type 0
AsksOnce cs = (i j : ℕ) (a b : Ask) → slice_get cs i ≡ Some a → slice_get cs j ≡ Some b → a.xid ≡ b.xid → i ≡ j

ups_others : (us : List Up) → AsksOnce (asks_in us) → RepliesApart us → AllOthers SameUp us
ups_others [] once apart = tt
ups_others (Asks a ∷ us) once apart = (λ i u at same. by i u at same, ups_others us (λ i j b c at on e. next_place i j (once (suc i) (suc j) b c at on e)) apart)
  where
    by : (i : ℕ) (u : Up) → slice_get us i ≡ Some u → SameUp (Asks a) u → ⊥
    by i (Asks b) at same =
        let k = ask_place us i b at in
        let e = once 0 (suc k.0) a b refl k.1 (sym (asked_is a).1 ∙ same.1 ∙ (asked_is b).1) in
        omega (arith, e)
    by i (Replies y) at same = true_not (sym (asked_is a).0 ∙ same.0)
ups_others (Replies x ∷ us) once apart = (λ i u at same. by i u at same, ups_others us once apart.1)
  where
    by : (i : ℕ) (u : Up) → slice_get us i ≡ Some u → SameUp (Replies x) u → ⊥
    by i (Asks b) at same = true_not (sym (asked_is b).0 ∙ sym same.0)
    by i (Replies y) at same = all_at (IsOtherUp x) us i (Replies y) apart.0 at same.1

of_up : (us : List Up) (i : ℕ) (m : Message) → slice_get (map up_message us) i ≡ Some m → (u : Up) × (slice_get us i ≡ Some u) × (up_message u ≡ m)
of_up [] i m at = nothing_there m at
of_up (u ∷ us) zero m at = (u, refl, some_is (up_message u) m at)
of_up (u ∷ us) (suc i) m at = of_up us i m at

ups_read : FitLaws → (k : Core) (n : ℕ) (us : List Up) → AllAsks (λ a. CallFits a.lbfs a.xid a.call) (asks_in us) → AllByRecursion UpFits us → AllByRecursion (UpWaits (server_waits k n).calls) us → All (IsRead (server_waits k n)) (map up_message us)
ups_read fits k n [] h small waits = All-nil (IsRead (server_waits k n))
ups_read fits k n (Asks a ∷ us) h small waits =
    let c = fits.calls a.lbfs a.xid a.call h.0 in
    All-cons (IsRead (server_waits k n)) (ask_message a) (map up_message us) (c.0, fits.again (server_waits k n) (ask_message a) c.0.0 (ask_expected k n a.lbfs a.xid a.call c.1)) (ups_read fits k n us h.1 small.1 waits.1)
ups_read fits k n (Replies x ∷ us) h small waits =
    let m = reply_fits x small.0 in
    All-cons (IsRead (server_waits k n)) (reply_message x) (map up_message us) (m, fits.again (server_waits k n) (reply_message x) m.0 (waits.0, tt)) (ups_read fits k n us h small.1 waits.1)

served_at : (waits : List Pending) (xid dir : ℕ) (left : List (List ℕ)) (g : Goal) → IsServed waits (message.Call xid (body.Nfs (call_at dir left g)))
served_at waits xid dir (n ∷ ns) g = tt
served_at waits xid dir [] (goal.Find name) = tt
served_at waits xid dir _ _ = tt

has_waiting : (calls : List Pending) (xid : ℕ) (p : Program) → waiting xid calls ≡ Some p → has_call calls xid ≡ true
has_waiting [] xid p e = nothing_there p e
has_waiting (c ∷ cs) xid p e = by (c.xid == xid) e (has_waiting cs xid p)
  where
    by : (b : Bool) → (if b then Some c.program else waiting xid cs) ≡ Some p → (waiting xid cs ≡ Some p → has_call cs xid ≡ true) → (b || has_call cs xid) ≡ true
    by true e later = refl
    by false e later = later e

ups_done : (waits : List Pending) (us : List Up) → AllByRecursion (UpWaits waits) us → All (IsServed waits) (map up_message us)
ups_done waits [] h = All-nil (IsServed waits)
ups_done waits (Asks a ∷ us) h = All-cons (IsServed waits) (ask_message a) (map up_message us) (by a.call) (ups_done waits us h.1)
  where
    by : (c : Call) → IsServed waits (call_message a.lbfs a.xid c)
    by (Walks w) = served_at waits a.xid w.dir w.left w.goal
    by _ = tt
ups_done waits (Replies x ∷ us) h = All-cons (IsServed waits) (reply_message x) (map up_message us) (has_waiting waits x recall_program h.0) (ups_done waits us h.1)

-- ---- down

abbrev SameDown : Down → Down → Type 0
SameDown d e = AreOfOne (down_message d) (down_message e)

told_place : (ds : List Down) (i : ℕ) (t : Told) → slice_get ds i ≡ Some (Tells t) → (k : ℕ) × (slice_get (tolds_in ds) k ≡ Some t)
told_place [] i t at = nothing_there (Tells t) at
told_place (Tells u ∷ ds) zero t at = (0, ap (λ z. Some z) (by (some_is (Tells u) (Tells t) at)))
  where
    by : Tells u ≡ Tells t → u ≡ t
    by e = cc
told_place (Tells u ∷ ds) (suc i) t at = let k = told_place ds i t at in (suc k.0, k.1)
told_place (Recalls x f ∷ ds) zero t at = absurd (by (some_is (Recalls x f) (Tells t) at))
  where
    by : Recalls x f ≡ Tells t → ⊥
    by e = cc
told_place (Recalls x f ∷ ds) (suc i) t at = told_place ds i t at

abbrev ToldsOnce : List Told → Type 0
ToldsOnce ts = (i j : ℕ) (t u : Told) → slice_get ts i ≡ Some t → slice_get ts j ≡ Some u → t.xid ≡ u.xid → i ≡ j

downs_others : (ds : List Down) → ToldsOnce (tolds_in ds) → RecallsApart ds → AllOthers SameDown ds
downs_others [] once apart = tt
downs_others (Tells t ∷ ds) once apart = (λ i d at same. by i d at same, downs_others ds (λ i j u v at on e. next_place i j (once (suc i) (suc j) u v at on e)) apart)
  where
    by : (i : ℕ) (d : Down) → slice_get ds i ≡ Some d → SameDown (Tells t) d → ⊥
    by i (Tells u) at same = (let k = told_place ds i u at in let e = once 0 (suc k.0) t u refl k.1 same.1 in omega (arith, e))
    by i (Recalls y g) at same = true_not (sym same.0)
downs_others (Recalls x f ∷ ds) once apart = (λ i d at same. by i d at same, downs_others ds once apart.1)
  where
    by : (i : ℕ) (d : Down) → slice_get ds i ≡ Some d → SameDown (Recalls x f) d → ⊥
    by i (Tells u) at same = true_not same.0
    by i (Recalls y g) at same = all_at (IsOtherDown x) ds i (Recalls y g) apart.0 at same.1

of_down : (ds : List Down) (i : ℕ) (m : Message) → slice_get (map down_message ds) i ≡ Some m → (d : Down) × (slice_get ds i ≡ Some d) × (down_message d ≡ m)
of_down [] i m at = nothing_there m at
of_down (d ∷ ds) zero m at = (d, refl, some_is (down_message d) m at)
of_down (d ∷ ds) (suc i) m at = of_down ds i m at

downs_read : FitLaws → (c : State) (ds : List Down) → AllTolds (ToldFits c.lbfs) (tolds_in ds) → AllByRecursion DownFits ds → ((i : ℕ) (t : Told) → slice_get (tolds_in ds) i ≡ Some t → FitsIn c.lbfs (reply_body t.reply) → IsExpected (waiting_of c) (told_message t)) → All (IsRead (waiting_of c)) (map down_message ds)
downs_read fits c [] h small waits = All-nil (IsRead (waiting_of c))
downs_read fits c (Tells t ∷ ds) h small waits =
    All-cons (IsRead (waiting_of c)) (told_message t) (map down_message ds) (h.0.0, fits.again (waiting_of c) (told_message t) h.0.0.0 (waits zero t refl h.0.1)) (downs_read fits c ds h.1 small.1 (λ i u at. waits (suc i) u at))
downs_read fits c (Recalls x f ∷ ds) h small waits =
    let m = recall_fits x f small.0.0 in
    All-cons (IsRead (waiting_of c)) (recall_message x f) (map down_message ds) (m, fits.again (waiting_of c) (recall_message x f) m.0 (refl, refl)) (downs_read fits c ds h small.1 waits)

downs_answered : (calls : List Pending) (ds : List Down) → ((i : ℕ) (t : Told) → slice_get (tolds_in ds) i ≡ Some t → (k : ℕ) × (slice_get calls k ≡ Some (told_pending t))) → All (IsAnswered calls) (map down_message ds)
downs_answered calls [] waits = All-nil (IsAnswered calls)
downs_answered calls (Tells t ∷ ds) waits = let w = waits 0 t refl in All-cons (IsAnswered calls) (told_message t) (map down_message ds) (has_there calls w.0 (told_pending t) w.1) (downs_answered calls ds (λ i u at. waits (suc i) u at))
downs_answered calls (Recalls x f ∷ ds) waits = All-cons (IsAnswered calls) (recall_message x f) (map down_message ds) tt (downs_answered calls ds waits)

-- ---- both

pub holds_messages : (P : MixFact) → FitLaws → (all past : List Moment) (w : World) → (h : Stands P all past w) → HaveNumbers w.core h.mixes → HoldsMessages w
holds_messages P fits all past w h counted number q at =
    let there = also_numbered w.wires h.mixes number q (sym h.carry.0) at in
    let m : Mix = there.0 in
    let x = also_numbered h.mixes w.core.sessions number m (sym h.kept.made.1 ∙ map_count queue_of h.mixes) there.1 in
    elim (raw_or_owned x.0) [
      | inl raw ↦ inr (x.0, x.1, raw, (subst (λ (b : Bool). IsCarried b q m) raw (h.carry.1 number x.0 q m x.1 at there.1)).0)
      | inr owned ↦ inl (held m there.1 x.0 x.1 owned)
    ]
  where
    -- one that the server sees hung has nothing on its way up
    waits_all : (x : Session) (m : Mix) (stand : Bool) → stand ≡ not x.hung → IsMix x m → HasNumbers stand (server_waits w.core number).calls m → (b : Bool) → x.hung ≡ b → AllByRecursion (UpWaits (server_waits w.core number).calls) m.ups
    waits_all x m stand is mix own true hung = subst (AllByRecursion (UpWaits (server_waits w.core number).calls)) (sym (mix.lost hung)) tt
    waits_all x m stand is mix own false there = own.waited (is ∙ ap not there)

    -- a session that was cut has nothing on its way down
    downs : (x : Session) (m : Mix) → (s : IsSession (book_of w all) w.core.seats w.core.server number x (queue_of m)) → IsMix x m → (b : Bool) → x.cut ≡ b → All (IsRead (waiting_of s.seat.client)) (map down_message m.downs)
    downs x m s mix true cut = subst (λ (ds : List Down). All (IsRead (waiting_of s.seat.client)) (map down_message ds)) (sym (mix.shut cut)) (All-nil (IsRead (waiting_of s.seat.client)))
    downs x m s mix false uncut = downs_read fits s.seat.client m.downs (subst (λ (v : ℕ). AllTolds (ToldFits v) (tolds_in m.downs)) (sym (h.kept.seats x.owner s.seat s.owner).speaks) s.downs_fit) mix.downs (λ i t there layout. expected number w.core.server.waiting (queue_of m) x.hung s.seat.client i t (s.talk uncut).balanced there layout)

    answers : (x : Session) (m : Mix) → (s : IsSession (book_of w all) w.core.seats w.core.server number x (queue_of m)) → IsMix x m → (b : Bool) → x.cut ≡ b → All (IsAnswered (calls_of s.seat.client)) (map down_message m.downs)
    answers x m s mix true cut = subst (λ (ds : List Down). All (IsAnswered (calls_of s.seat.client)) (map down_message ds)) (sym (mix.shut cut)) (All-nil (IsAnswered (calls_of s.seat.client)))
    answers x m s mix false uncut = downs_answered (calls_of s.seat.client) m.downs (λ i t there. told_there number w.core.server.waiting (queue_of m) x.hung s.seat.client.next_xid (calls_of s.seat.client) i t (s.talk uncut).balanced there)

    once : (x : Session) (m : Mix) → (s : IsSession (book_of w all) w.core.seats w.core.server number x (queue_of m)) → (b : Bool) → x.cut ≡ b → ToldsOnce (tolds_in m.downs)
    once x m s true cut i j t u a b same = nothing_there t (ap (λ (l : List Told). slice_get l i) (sym (s.shut cut)) ∙ a)
    once x m s false uncut i j t u a b same = answers_apart number w.core.server.waiting (queue_of m) x.hung s.seat.client.next_xid (calls_of s.seat.client) i j t u (s.talk uncut).balanced a b same

    -- of a client's session
    held : (m : Mix) → numbered h.mixes number ≡ Some m → (x : Session) → numbered w.core.sessions number ≡ Some x → is_raw x ≡ false → HoldsQueues w number q
    held m on x here owned =
        let s = h.kept.sessions number x (queue_of m) here (there_plain h.mixes number m on) owned in
        let mix = h.fit number x m here on in
        let own = counted number m on in
        let waited = waits_all x m (stands w.core.server number) s.stands_is mix own x.hung refl in
        let c = subst (λ (b : Bool). IsCarried b q m) owned (h.carry.1 number x q m here at on) in
        record {
          session = x;
          seat = s.seat;
          session_is = here;
          seat_is = s.owner;
          ups = map up_message m.ups;
          up = record { sound = c.up_sound; read = ups_read fits w.core number m.ups s.ups_fit mix.ups waited; bytes = c.up };
          done = ups_done (server_waits w.core number).calls m.ups waited;
          apart = λ uncut i j a b one two same.
              let u = of_up m.ups i a one in
              let v = of_up m.ups j b two in
              let talk = s.talk uncut in
              let once : AsksOnce (asks_in m.ups) = λ k l d e at on alike. place_once (λ (z : Ask). z.xid) (asks_in m.ups) k l d e at on alike (rising_times talk.floor (asks_in m.ups) s.seat.client.next_xid e.xid talk.rising) in
              one_place SameUp (λ z y. of_one_turn (up_message z) (up_message y)) m.ups (ups_others m.ups once own.replies) i j u.0 v.0 u.1 v.1 (subst (λ z. AreOfOne z (up_message v.0)) (sym u.2) (subst (AreOfOne a) (sym v.2) same));
          downs = map down_message m.downs;
          down = record { sound = c.down_sound; read = downs x m s mix x.cut refl; bytes = c.down };
          answered = answers x m s mix x.cut refl;
          once = λ i j a b one two same.
              let d = of_down m.downs i a one in
              let e = of_down m.downs j b two in
              one_place SameDown (λ z y. of_one_turn (down_message z) (down_message y)) m.downs (downs_others m.downs (once x m s x.cut refl) own.recalls) i j d.0 e.0 d.1 e.1 (subst (λ z. AreOfOne z (down_message e.0)) (sym d.2) (subst (AreOfOne a) (sym e.2) same));
          lost = λ hung. ap (map up_message) (mix.lost hung);
          shut = λ cut. ap (map down_message) (mix.shut cut);
        }
