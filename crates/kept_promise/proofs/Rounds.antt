-- Rounds of deliveries: where nothing is on its way a round does nothing, so that K rounds are K times the two deliveries.
use Rattle.std.proofs.Common.{◌⊎◌, inl, inr, ◌≡◌, ℕ, zero, suc, List, [], ◌∷◌, ◌++◌, length, Option, Some, None, take, drop, refl, sym, ap, subst, ◌∙◌, arith, append-nil, Bool, true, false, map}
use Rattle.trace_ends.specs.Queue.{is_none}
use Rattle.trace_ends.specs.Core.{Loss.Made, loss_down}
use Rattle.trace_replay.specs.Delivery.{down_all, taken_up, spoilt_as}
use Rattle.server_core.specs.declared.event.Sent.{Sent}
use Rattle.kept_promise.proofs.Common.{◌&&◌, slice_get, take_all, Fed, Refusal, Unread, Parts, nothing_read, fed, Message, Word, ClientStep, Core, Session, Event, Event.Serves, Event.Hears, CoreStep, Loss, Loss.Nothing, Loss.Down_of, Loss.Up_of, numbered, with_numbered, session_of, commanded_session, commanded_sessions, cut_session, new_session, raw_session, happens, World, Wire, new_wire, up_put, down_lost, up_lost, lost_by, routed, happened, all_happened, up_some, down_some, is_still_at, is_still, up_length, down_length, up_all, round, passes, rounds, unless}
use Rattle.kept_promise.proofs.Lists.{some_is, nothing_there, same_or_not, count_more, kept_appended, both_true}
use Rattle.kept_promise.proofs.Places.{at_place, becomes, become_count, there_is, none_is, of_with, of_more}
use Rattle.kept_promise.proofs.Turns.{also_numbered, around_with}
use Rattle.kept_promise.proofs.Happens.{what_happens}
use Rattle.kept_promise.proofs.Deliveries.{all_become, set_up, set_down, downs, downs_in, ups, ups_in, down_is, up_is, wired, up_events_of, down_events_of, up_none, down_none, end_twice, none_loses, hung_quiet, quiet_all}
use Rattle.trace_replay.specs.World.{raw_put, raw_put_in}

-- ---- an end that holds no whole record

abbrev idle_end : Unread → Unread × Fed
idle_end end = (end, record { records = []; spoilt = end.spoilt })

-- no bytes make nothing of it
abbrev pub IsRested : Unread → Type 0
IsRested end = fed end [] ≡ idle_end end

spoilt_both : (rest : List ℕ) (spoilt : Option Refusal) (piece : List ℕ) → (fed (record { rest = rest; spoilt = spoilt }) piece).1.spoilt ≡ (fed (record { rest = rest; spoilt = spoilt }) piece).0.spoilt
spoilt_both rest None piece = refl
spoilt_both rest (Some why) piece = refl

nothing_more : {A : Type 0} (xs ys : List A) → xs ++ ys ≡ xs → ys ≡ []
nothing_more [] ys e = e
nothing_more (x ∷ xs) ys e = nothing_more xs ys (by e)
  where
    by : x ∷ (xs ++ ys) ≡ x ∷ xs → xs ++ ys ≡ xs
    by q = cc

-- what an end and its records come to
abbrev after : List (List ℕ) → Unread × Fed → Parts
after records r = record { records = records ++ r.1.records; rest = r.0.rest; spoilt = r.0.spoilt }

abbrev held : List (List ℕ) → Unread → Parts
held records end = record { records = records; rest = end.rest; spoilt = end.spoilt }

rested_of : (end : Unread) (records : List (List ℕ)) (r : Unread × Fed) → r.1.spoilt ≡ r.0.spoilt
    → after records r ≡ held records end → r ≡ idle_end end
rested_of end records r same e =
    let a : records ++ r.1.records ≡ records = ap (λ (p : Parts). p.records) e in
    let b : r.0.rest ≡ end.rest = ap (λ (p : Parts). p.rest) e in
    let c : r.0.spoilt ≡ end.spoilt = ap (λ (p : Parts). p.spoilt) e in
    let d : r.1.records ≡ [] = nothing_more records r.1.records a in
    ap (λ (n : List ℕ). (record { rest = n; spoilt = r.0.spoilt }, record { records = r.1.records; spoilt = r.1.spoilt })) b
    ∙ ap (λ (n : Option Refusal). (record { rest = end.rest; spoilt = n }, record { records = r.1.records; spoilt = r.1.spoilt })) c
    ∙ ap (λ (n : List (List ℕ)). (end, record { records = n; spoilt = r.1.spoilt })) d
    ∙ ap (λ (n : Option Refusal). (end, record { records = []; spoilt = n })) (same ∙ c)

-- what a piece leaves is such an end
pub fed_rested : (end : Unread) (piece : List ℕ) → IsRested (fed end piece).0
fed_rested end piece =
    let r = fed end piece in
    rested_of r.0 r.1.records (fed r.0 []) (spoilt_both r.0.rest r.0.spoilt []) (end_twice end piece [] ∙ ap (λ (z : List ℕ). held (fed end z).1.records (fed end z).0) (append-nil piece))

-- ---- wires whose ends hold no whole record

abbrev pub Rests : Wire → Type 0
Rests q = IsRested q.server_end × IsRested q.client_end

-- its session is heard no more
abbrev pub IsHungAt : List Session → (number : ℕ) → Type 0
IsHungAt sessions n = (x : Session) × (numbered sessions n ≡ Some x) × (x.hung ≡ true)

-- Up the wire no length was wrong; or nobody hears it; or the server is yet to be told, as on the wire `coming`.
abbrev IsOpen : (coming : ℕ) → List Session → (number : ℕ) → Wire → Type 0
IsOpen coming sessions n q = (q.server_end.spoilt ≡ None) ⊎ (IsHungAt sessions n ⊎ (n ≡ coming))

pub record AreRestedBut (coming : ℕ) (sessions : List Session) (ws : List Wire) : Type 0 where
  pub count : length ws ≡ length sessions
  pub each : (n : ℕ) (q : Wire) → numbered ws n ≡ Some q → Rests q × IsOpen coming sessions n q

abbrev pub AreRested : World → Type 0
AreRested w = AreRestedBut 0 w.core.sessions w.wires

abbrev WiresHave : (ℕ → Wire → Type 0) → List Wire → Type 0
WiresHave P ws = (n : ℕ) (q : Wire) → numbered ws n ≡ Some q → P n q

have_become : (P : ℕ → Wire → Type 0) (f : Wire → Wire) (number : ℕ) → ((q : Wire) → P number q → P number (f q)) → (ws : List Wire) → WiresHave P ws → WiresHave P (becomes f ws number)
have_become P f number h ws r = by (numbered ws number) refl
  where
    by : (o : Option Wire) → numbered ws number ≡ o → WiresHave P (becomes f ws number)
    by None e = subst (WiresHave P) (sym (none_is f ws number e)) r
    by (Some q) e = subst (WiresHave P) (there_is f ws number q e) (λ n z is. elim (of_with ws number n (f q) z is) [
      | inl here ↦ subst (λ (i : ℕ). P i z) (sym here.0) (subst (P number) (sym here.1) (h q (r number q e)))
      | inr was ↦ r n z was
    ])

-- the wires' ends stay where this is made of one of them
abbrev KeepsEnds : (Wire → Wire) → Type 0
KeepsEnds f = (q : Wire) → ((f q).server_end ≡ q.server_end) × ((f q).client_end ≡ q.client_end)

ends_kept : (coming : ℕ) (sessions : List Session) (n : ℕ) (f : Wire → Wire) → KeepsEnds f → (q : Wire) → Rests q × IsOpen coming sessions n q → Rests (f q) × IsOpen coming sessions n (f q)
ends_kept coming sessions n f k q r = (
  (subst IsRested (sym (k q).0) r.0.0, subst IsRested (sym (k q).1) r.0.1),
  subst (λ (z : Unread). (z.spoilt ≡ None) ⊎ (IsHungAt sessions n ⊎ (n ≡ coming))) (sym (k q).0) r.1,
)

rests_become : (coming : ℕ) (sessions : List Session) (f : Wire → Wire) → KeepsEnds f → (ws : List Wire) (number : ℕ) → AreRestedBut coming sessions ws → AreRestedBut coming sessions (becomes f ws number)
rests_become coming sessions f k ws number r = record {
  count = become_count f ws number ∙ r.count;
  each = have_become (λ n q. Rests q × IsOpen coming sessions n q) f number (ends_kept coming sessions number f k) ws r.each;
}

abbrev Leaves : List (ℕ × (Wire → Wire)) → Type 0
Leaves [] = Unit {0}
Leaves (g ∷ gs) = KeepsEnds g.1 × Leaves gs

leaves_both : (gs hs : List (ℕ × (Wire → Wire))) → Leaves gs → Leaves hs → Leaves (gs ++ hs)
leaves_both [] hs a b = b
leaves_both (g ∷ gs) hs a b = (a.0, leaves_both gs hs a.1 b)

rests_all : (coming : ℕ) (sessions : List Session) (gs : List (ℕ × (Wire → Wire))) → Leaves gs → (ws : List Wire) → AreRestedBut coming sessions ws → AreRestedBut coming sessions (all_become gs ws)
rests_all coming sessions [] l ws r = r
rests_all coming sessions (g ∷ gs) l ws r = rests_all coming sessions gs l.1 (becomes g.1 ws g.0) (rests_become coming sessions g.1 l.0 ws g.0 r)

downs_leave_in : (s : Sent) (x : Option Session) → Leaves (downs_in s x)
downs_leave_in s None = tt
downs_leave_in s (Some x) = ((λ q. (refl, refl)), tt)

downs_leave : (sessions : List Session) (ss : List Sent) → Leaves (downs sessions ss)
downs_leave sessions [] = tt
downs_leave sessions (s ∷ ss) = leaves_both (downs_in s (numbered sessions s.session)) (downs sessions ss) (downs_leave_in s (numbered sessions s.session)) (downs_leave sessions ss)

ups_leave : (sessions : List Session) (o : Option ℕ) (ms : List Message) → Leaves (ups sessions o ms)
ups_leave sessions None ms = tt
ups_leave sessions (Some number) ms = by (numbered sessions number)
  where
    by : (x : Option Session) → Leaves (ups_in number ms x)
    by None = tt
    by (Some x) = ((λ q. (refl, refl)), tt)

abbrev no_down : Wire → Wire
no_down q = record q { down = []; client_end = nothing_read }

abbrev no_up : Wire → Wire
no_up q = record q { up = []; server_end = nothing_read }

-- what is lost, and a wire that is made
lost_open : (coming : ℕ) (sessions : List Session) (ws : List Wire) (loss : Loss) → WiresHave (λ n q. Rests q × IsOpen coming sessions n q) ws → WiresHave (λ n q. Rests q × IsOpen coming sessions n q) (lost_by ws loss)
lost_open coming sessions ws Nothing r = r
lost_open coming sessions ws Made r = λ n q is. elim (of_more ws n new_wire q is) [
  | inl new ↦ subst (λ (z : Wire). Rests z × IsOpen coming sessions n z) (sym new.1) ((refl, refl), inl refl)
  | inr was ↦ r n q was
]
lost_open coming sessions ws (Down_of number) r = by (numbered ws number) refl
  where
    by : (o : Option Wire) → numbered ws number ≡ o → WiresHave (λ n q. Rests q × IsOpen coming sessions n q) (down_lost ws number o)
    by None e = r
    by (Some q) e = subst (WiresHave (λ n z. Rests z × IsOpen coming sessions n z)) (sym (there_is no_down ws number q e)) (have_become (λ n z. Rests z × IsOpen coming sessions n z) no_down number (λ z k. ((k.0.0, refl), k.1)) ws r)
lost_open coming sessions ws (Up_of number) r = by (numbered ws number) refl
  where
    by : (o : Option Wire) → numbered ws number ≡ o → WiresHave (λ n q. Rests q × IsOpen coming sessions n q) (up_lost ws number o)
    by None e = r
    by (Some q) e = subst (WiresHave (λ n z. Rests z × IsOpen coming sessions n z)) (sym (there_is no_up ws number q e)) (have_become (λ n z. Rests z × IsOpen coming sessions n z) no_up number (λ z k. ((refl, k.0.1), inl refl)) ws r)

-- ---- the sessions

-- a session that was there is there, and nobody hears it where nobody did
abbrev HungStays : (before after : List Session) → Type 0
HungStays before after = (n : ℕ) (x : Session) → numbered before n ≡ Some x → (y : Session) × (numbered after n ≡ Some y) × (x.hung ≡ true → y.hung ≡ true)

-- as many wires as sessions
abbrev CountStays : (before after : List Session) → Loss → Type 0
CountStays before after loss = (ws : List Wire) → length ws ≡ length before → length (lost_by ws loss) ≡ length after

-- what an event makes of the sessions
abbrev IsRound : List Session → CoreStep → Type 0
IsRound sessions t = HungStays sessions t.core.sessions × CountStays sessions t.core.sessions t.loss

same_hung : (sessions : List Session) → HungStays sessions sessions
same_hung sessions n x at = (x, at, λ e. e)

more_hung : (sessions : List Session) (z : Session) → HungStays sessions (sessions ++ z ∷ [])
more_hung sessions z zero x at = nothing_there x at
more_hung sessions z (suc n) x at = (x, kept_appended sessions z n x at, λ e. e)

with_hung : (sessions : List Session) (m : ℕ) (x z : Session) → numbered sessions m ≡ Some x → (x.hung ≡ true → z.hung ≡ true) → HungStays sessions (with_numbered sessions m z)
with_hung sessions m x z at hung n y there =
    let ar = around_with sessions m x z at in
    elim (same_or_not n m) [
      | inl e ↦ (z, ap (numbered (with_numbered sessions m z)) e ∙ ar.there, λ is. hung (ap (λ (v : Session). v.hung) (some_is x y (sym at ∙ ap (numbered sessions) (sym e) ∙ there)) ∙ is))
      | inr apart ↦ (y, ar.others n apart ∙ there, λ is. is)
    ]

with_count : (sessions : List Session) (m : ℕ) (x z : Session) → numbered sessions m ≡ Some x → CountStays sessions (with_numbered sessions m z) Nothing
with_count sessions m x z at ws e = e ∙ sym (around_with sessions m x z at).count

more_count : (sessions : List Session) (z : Session) → CountStays sessions (sessions ++ z ∷ []) Made
more_count sessions z ws e = count_more ws new_wire ∙ ap suc e ∙ sym (count_more sessions z)

down_count : (ws : List Wire) (number : ℕ) → length (lost_by ws (Down_of number)) ≡ length ws
down_count ws number = by (numbered ws number) refl
  where
    by : (o : Option Wire) → numbered ws number ≡ o → length (down_lost ws number o) ≡ length ws
    by None e = refl
    by (Some q) e = ap length (there_is no_down ws number q e) ∙ become_count no_down ws number

up_count : (ws : List Wire) (number : ℕ) → length (lost_by ws (Up_of number)) ≡ length ws
up_count ws number = by (numbered ws number) refl
  where
    by : (o : Option Wire) → numbered ws number ≡ o → length (up_lost ws number o) ≡ length ws
    by None e = refl
    by (Some q) e = ap length (there_is no_up ws number q e) ∙ become_count no_up ws number

round_of : (k : Core) (e : Event) → IsRound k.sessions (happens k e)
round_of k e = what_happens k e (IsRound k.sessions) (record {
  nothing = still;
  idle = still;
  joins = λ c seat is. (more_hung k.sessions (new_session c), more_count k.sessions (new_session c));
  refuses = λ c seat is. still;
  does = λ c now d seat is. commanded seat.session (session_of k.sessions seat.session) refl seat.place (length k.ops) _ _;
  takes = λ n now bytes x m is at unhung read. (with_hung k.sessions n x _ at (λ z. z), with_count k.sessions n x _ at);
  closes = λ n now bytes x is at unhung. lost n x at;
  hears = λ n now bytes owner seat is. still;
  settles = λ now is. still;
  cuts = λ c seat is. cut seat.session (session_of k.sessions seat.session) refl;
  hangs = λ n x is at unhung. lost n x at;
  raw_joins = λ is. (more_hung k.sessions raw_session, more_count k.sessions raw_session);
  raw_refuses = λ is. still;
})
  where
    still : HungStays k.sessions k.sessions × CountStays k.sessions k.sessions Nothing
    still = (same_hung k.sessions, λ ws e. e)

    lost : (n : ℕ) (x : Session) → numbered k.sessions n ≡ Some x → HungStays k.sessions (with_numbered k.sessions n (record x { hung = true })) × CountStays k.sessions (with_numbered k.sessions n (record x { hung = true })) (Up_of n)
    lost n x at = (with_hung k.sessions n x (record x { hung = true }) at (λ z. refl), λ ws e. up_count ws n ∙ e ∙ sym (around_with k.sessions n x (record x { hung = true }) at).count)

    commanded : (o : Option ℕ) (x : Option Session) → session_of k.sessions o ≡ x → (running : Option ℕ) (place : ℕ) (what : Word) (acts : ClientStep)
        → HungStays k.sessions (commanded_sessions k.sessions o x running place what acts) × CountStays k.sessions (commanded_sessions k.sessions o x running place what acts) Nothing
    commanded (Some m) (Some x) at running place what acts = (with_hung k.sessions m x (commanded_session x running place what acts) at (λ z. z), with_count k.sessions m x (commanded_session x running place what acts) at)
    commanded (Some m) None at running place what acts = still
    commanded None x at running place what acts = still

    cut : (o : Option ℕ) (x : Option Session) → session_of k.sessions o ≡ x → HungStays k.sessions (cut_session k.sessions o x) × CountStays k.sessions (cut_session k.sessions o x) (loss_down o)
    cut (Some m) (Some x) at = (with_hung k.sessions m x (record x { cut = true }) at (λ z. z), λ ws e. down_count ws m ∙ with_count k.sessions m x (record x { cut = true }) at ws e)
    cut (Some m) None at = (same_hung k.sessions, λ ws e. down_count ws m ∙ e)
    cut None x at = still

-- ---- the events

rests_routed : (coming : ℕ) (w : World) (t : CoreStep) → IsRound w.core.sessions t → AreRestedBut coming w.core.sessions w.wires → AreRestedBut coming t.core.sessions (routed w t).wires
rests_routed coming w t is r =
    let first : List Wire = lost_by w.wires t.loss in
    let open_ : (n : ℕ) (q : Wire) → IsOpen coming w.core.sessions n q → IsOpen coming t.core.sessions n q = λ n q h. elim h [
      | inl none ↦ inl none
      | inr rest ↦ elim rest [
        | inl hung ↦ (let y = is.0 n hung.0 hung.1 in inr (inl (y.0, y.1, y.2 hung.2)))
        | inr e ↦ inr (inr e)
      ]
    ] in
    let lost : AreRestedBut coming t.core.sessions first = record {
      count = is.1 w.wires r.count;
      each = λ n q at. (let x = lost_open coming w.core.sessions w.wires t.loss r.each n q at in (x.0, open_ n q x.1));
    } in
    let up : AreRestedBut coming t.core.sessions (up_put t.core.sessions first t.session t.up) = subst (AreRestedBut coming t.core.sessions) (sym (up_is t.core.sessions first t.session t.up)) (rests_all coming t.core.sessions (ups t.core.sessions t.session t.up) (ups_leave t.core.sessions t.session t.up) first lost) in
    subst (AreRestedBut coming t.core.sessions) (sym (down_is t.core.sessions (up_put t.core.sessions first t.session t.up) t.down)) (rests_all coming t.core.sessions (downs t.core.sessions t.down) (downs_leave t.core.sessions t.down) (up_put t.core.sessions first t.session t.up) up)

rests_but : (coming : ℕ) (w : World) (e : Event) → AreRestedBut coming w.core.sessions w.wires → AreRestedBut coming (happened w e).core.sessions (happened w e).wires
rests_but coming w e r = rests_routed coming w (happens w.core e) (round_of w.core e) r

pub rests_happened : (w : World) (e : Event) → AreRested w → AreRested (happened w e)
rests_happened w e r = rests_but 0 w e r

pub rests_all_happened : (w : World) (es : List Event) → AreRested w → AreRested (all_happened w es)
rests_all_happened w [] r = r
rests_all_happened w (e ∷ es) r = rests_all_happened (happened w e) es (rests_happened w e r)

-- once the server is told of a wrong length nobody hears that session
rests_told : (w : World) (number now : ℕ) (x : Session) → numbered w.core.sessions number ≡ Some x → AreRestedBut number w.core.sessions w.wires → AreRested (happened w (Serves number now []))
rests_told w number now x at r =
    let e : Event = Serves number now [] in
    let after : AreRestedBut number (happened w e).core.sessions (happened w e).wires = rests_but number w e r in
    record {
      count = after.count;
      each = λ n q there. (let z = after.each n q there in (
        z.0,
        elim z.1 [
          | inl none ↦ inl none
          | inr rest ↦ inr (inl (elim rest [ inl hung ↦ hung | inr same ↦ subst (IsHungAt (happened w e).core.sessions) (sym same) (hung x.hung refl) ]))
        ],
      ));
    }
  where
    hung : (b : Bool) → x.hung ≡ b → IsHungAt (happens w.core (Serves number now [])).core.sessions number
    hung true is = (let y = (round_of w.core (Serves number now [])).0 number x at in (y.0, y.1, y.2 is))
    hung false is = subst (λ (t : CoreStep). IsHungAt t.core.sessions number) (sym (none_loses w.core number now x at is)) (record x { hung = true }, (around_with w.core.sessions number x (record x { hung = true }) at).there, refl)

-- the records before it, and then a wrong length
rests_spoilt : (w : World) (number now : ℕ) (rs : List (List ℕ)) (x : Session) → numbered w.core.sessions number ≡ Some x → AreRestedBut number w.core.sessions w.wires → AreRested (all_happened w (map (Serves number now) (rs ++ [] ∷ [])))
rests_spoilt w number now [] x at r = rests_told w number now x at r
rests_spoilt w number now (b ∷ rs) x at r =
    let y = (round_of w.core (Serves number now b)).0 number x at in
    rests_spoilt (happened w (Serves number now b)) number now rs y.0 y.1 (rests_but number w (Serves number now b) r)

-- a line has a session send bytes
pub rests_put : (w : World) (number : ℕ) (bytes : List ℕ) → AreRested w → AreRested (raw_put w number bytes)
rests_put w number bytes r = by (numbered w.core.sessions number) (numbered w.wires number) refl
  where
    by : (o : Option Session) (p : Option Wire) → numbered w.wires number ≡ p → AreRestedBut 0 w.core.sessions (raw_put_in w.wires number bytes o p)
    by None p e = r
    by (Some x) None e = r
    by (Some x) (Some q) e =
        let more : Wire → Wire = λ z. record z { up = unless x.hung z.up bytes } in
        subst (AreRestedBut 0 w.core.sessions) (sym (there_is more w.wires number q e)) (rests_become 0 w.core.sessions more (λ z. (refl, refl)) w.wires number r)

-- ---- deliveries

-- where only this wire becomes another
rests_taken : (coming : ℕ) (w : World) (number : ℕ) (q : Wire) → AreRested w → (f : Wire → Wire) → Rests (f q) × IsOpen coming w.core.sessions number (f q) → numbered w.wires number ≡ Some q → AreRestedBut coming w.core.sessions (becomes f w.wires number)
rests_taken coming w number q r f own at = record {
  count = become_count f w.wires number ∙ r.count;
  each = λ n z is. elim (of_with w.wires number n (f q) z (ap (λ (ws : List Wire). numbered ws n) (there_is f w.wires number q at) ∙ is)) [
    | inl here ↦ subst (λ (i : ℕ). Rests z × IsOpen coming w.core.sessions i z) (sym here.0) (subst (λ (v : Wire). Rests v × IsOpen coming w.core.sessions number v) (sym here.1) own)
    | inr was ↦ (let y = r.each n z was in (
      y.0,
      elim y.1 [
        | inl none ↦ inl none
        | inr rest ↦ inr (inl (elim rest [ inl hung ↦ hung | inr nowhere ↦ nothing_there z (ap (numbered w.wires) (sym nowhere) ∙ was) ]))
      ],
    ))
  ];
}

pub rests_up : (w : World) (number count now : ℕ) → AreRested w → AreRested (up_some w number count now)
rests_up w number count now r = by (numbered w.wires number) refl
  where
    by : (o : Option Wire) → numbered w.wires number ≡ o → AreRested (up_some w number count now)
    by None e = subst AreRested (sym (up_none w number count now e)) r
    by (Some q) e = subst AreRested (sym (up_events_of w number count now q e)) (come d.0.spoilt refl)
      where
        d : Unread × Fed
        d = fed q.server_end (take count q.up)

        f : Wire → Wire
        f = set_up (drop count q.up) d.0

        own : Rests (f q)
        own = (fed_rested q.server_end (take count q.up), (r.each number q e).0.1)

        come : (o : Option Refusal) → d.0.spoilt ≡ o → AreRested (all_happened (wired w (becomes f w.wires number)) (map (Serves number now) (taken_up d.1)))
        come None none = rests_all_happened (wired w (becomes f w.wires number)) (map (Serves number now) (taken_up d.1)) (rests_taken 0 w number q r f (own, inl none) e)
        come (Some why) is =
            let x = also_numbered w.wires w.core.sessions number q (sym r.count) e in
            let told : d.1.spoilt ≡ Some why = spoilt_both q.server_end.rest q.server_end.spoilt (take count q.up) ∙ is in
            subst (λ (o : Option Refusal). AreRested (all_happened (wired w (becomes f w.wires number)) (map (Serves number now) (d.1.records ++ spoilt_as o)))) (sym told)
            (rests_spoilt (wired w (becomes f w.wires number)) number now d.1.records x.0 x.1 (rests_taken number w number q r f (own, inr (inr refl)) e))

pub rests_down : (w : World) (number count now : ℕ) → AreRested w → AreRested (down_some w number count now)
rests_down w number count now r = by (numbered w.wires number) refl
  where
    by : (o : Option Wire) → numbered w.wires number ≡ o → AreRested (down_some w number count now)
    by None e = subst AreRested (sym (down_none w number count now e)) r
    by (Some q) e =
        let d : Unread × Fed = fed q.client_end (take count q.down) in
        let f : Wire → Wire = set_down (drop count q.down) d.0 in
        let k = r.each number q e in
        subst AreRested (sym (down_events_of w number count now q e))
        (rests_all_happened (wired w (becomes f w.wires number)) (map (Hears number now) d.1.records) (rests_taken 0 w number q r f ((k.0.0, fed_rested q.client_end (take count q.down)), k.1) e))

pub rests_round : (w : World) (number server at : ℕ) → AreRested w → AreRested (round w number server at)
rests_round w number server at r = rests_down (up_all w number server) number (down_length (numbered (up_all w number server).wires number)) at (rests_up w number (up_length (numbered w.wires number)) server r)

-- ---- a round where nothing is on its way

place_same : (f : Wire → Wire) (ws : List Wire) (k : ℕ) (q : Wire) → slice_get ws k ≡ Some q → f q ≡ q → at_place f ws k ≡ ws
place_same f [] k q e same = refl
place_same f (p ∷ ps) zero q e same = ap (λ (z : Wire). z ∷ ps) (by e)
  where
    by : Some p ≡ Some q → f p ≡ p
    by g = let z : p ≡ q = cc in ap f z ∙ same ∙ sym z
place_same f (p ∷ ps) (suc k) q e same = ap (λ (zs : List Wire). p ∷ zs) (place_same f ps k q e same)

becomes_same : (f : Wire → Wire) (ws : List Wire) (number : ℕ) (q : Wire) → numbered ws number ≡ Some q → f q ≡ q → becomes f ws number ≡ ws
becomes_same f ws zero q e same = refl
becomes_same f ws (suc k) q e same = place_same f ws k q e same

drop_none : (count : ℕ) → drop {A = ℕ} count [] ≡ []
drop_none zero = refl
drop_none (suc count) = refl

-- From a queue with nothing in it nothing comes; and nobody hears it where a length was wrong.
up_idle : (w : World) (number count now : ℕ) (q : Wire) → numbered w.wires number ≡ Some q → Rests q × IsOpen 0 w.core.sessions number q → q.up ≡ [] → up_some w number count now ≡ w
up_idle w number count now q e r none =
    let t : take count q.up ≡ [] = ap (take count) none ∙ take_all count [] (omega arith) in
    let d : drop count q.up ≡ q.up = ap (drop count) none ∙ drop_none count ∙ sym none in
    up_events_of w number count now q e
    ∙ ap (λ (z : List ℕ). all_happened (wired w (becomes (set_up (drop count q.up) (fed q.server_end z).0) w.wires number)) (map (Serves number now) (taken_up (fed q.server_end z).1))) t
    ∙ ap (λ (z : Unread × Fed). all_happened (wired w (becomes (set_up (drop count q.up) z.0) w.wires number)) (map (Serves number now) (taken_up z.1))) r.0.0
    ∙ ap (λ (z : List ℕ). all_happened (wired w (becomes (set_up z q.server_end) w.wires number)) (map (Serves number now) (spoilt_as q.server_end.spoilt))) d
    ∙ ap (λ (ws : List Wire). all_happened (wired w ws) (map (Serves number now) (spoilt_as q.server_end.spoilt))) (becomes_same (set_up q.up q.server_end) w.wires number q e refl)
    ∙ elim r.1 [
      | inl whole ↦ ap (λ (o : Option Refusal). all_happened w (map (Serves number now) (spoilt_as o))) whole
      | inr rest ↦ elim rest [
        | inl hung ↦ quiet_all w number now (hung_quiet w.core number now hung.0 hung.1 hung.2) (spoilt_as q.server_end.spoilt)
        | inr nowhere ↦ nothing_there q (ap (numbered w.wires) (sym nowhere) ∙ e)
      ]
    ]

down_idle : (w : World) (number count now : ℕ) (q : Wire) → numbered w.wires number ≡ Some q → IsRested q.client_end → q.down ≡ [] → down_some w number count now ≡ w
down_idle w number count now q e r none =
    let t : take count q.down ≡ [] = ap (take count) none ∙ take_all count [] (omega arith) in
    let d : drop count q.down ≡ q.down = ap (drop count) none ∙ drop_none count ∙ sym none in
    down_events_of w number count now q e
    ∙ ap (λ (z : List ℕ). all_happened (wired w (becomes (set_down (drop count q.down) (fed q.client_end z).0) w.wires number)) (map (Hears number now) (fed q.client_end z).1.records)) t
    ∙ ap (λ (z : Unread × Fed). all_happened (wired w (becomes (set_down (drop count q.down) z.0) w.wires number)) (map (Hears number now) z.1.records)) r
    ∙ ap (λ (z : List ℕ). wired w (becomes (set_down z q.client_end) w.wires number)) d
    ∙ ap (wired w) (becomes_same (set_down q.down q.client_end) w.wires number q e refl)

pub is_empty : (xs : List ℕ) → is_none xs ≡ true → xs ≡ []
is_empty [] e = refl
is_empty (x ∷ xs) e = absurd cc

round_idle : (w : World) (number server at : ℕ) → AreRested w → is_still w number ≡ true → round w number server at ≡ w
round_idle w number server at r still = by (numbered w.wires number) refl
  where
    by : (o : Option Wire) → numbered w.wires number ≡ o → round w number server at ≡ w
    by None e =
        let u : up_all w number server ≡ w = up_none w number (up_length (numbered w.wires number)) server e in
        ap (λ (v : World). down_all v number at) u ∙ down_none w number (down_length (numbered w.wires number)) at e
    by (Some q) e =
        let k = r.each number q e in
        let b : (is_none q.up && is_none q.down) ≡ true = sym (ap is_still_at e) ∙ still in
        let n = both_true (is_none q.up) (is_none q.down) b in
        let u : up_all w number server ≡ w = up_idle w number (up_length (numbered w.wires number)) server q e k (is_empty q.up n.0) in
        ap (λ (v : World). down_all v number at) u ∙ down_idle w number (down_length (numbered w.wires number)) at q e k.0.1 (is_empty q.down n.1)

rounds_idle : (k : ℕ) (w : World) (number server at : ℕ) → round w number server at ≡ w → rounds k w number server at ≡ w
rounds_idle zero w number server at e = refl
rounds_idle (suc k) w number server at e = ap (λ (v : World). rounds k v number server at) e ∙ rounds_idle k w number server at e

-- K rounds of a `pass` are K times the two deliveries, in a world whose ends hold no whole record, as those of all runs do
pub passes_are_rounds : (k : ℕ) (w : World) (number server at : ℕ) → AreRested w → passes k w number server at ≡ rounds k w number server at
passes_are_rounds zero w number server at r = refl
passes_are_rounds (suc k) w number server at r = by (is_still w number) refl (passes_are_rounds k (round w number server at) number server at (rests_round w number server at r))
  where
    by : (b : Bool) → is_still w number ≡ b → passes k (round w number server at) number server at ≡ rounds k (round w number server at) number server at
        → (elim b as (λ (x : Bool). World) [ true ↦ w | false ↦ passes k (round w number server at) number server at ]) ≡ rounds k (round w number server at) number server at
    by true e h = sym (ap (λ (v : World). rounds k v number server at) (round_idle w number server at r e) ∙ rounds_idle k w number server at (round_idle w number server at r e))
    by false e h = h
