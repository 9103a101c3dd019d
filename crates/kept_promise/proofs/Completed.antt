-- An operation has ended where the newest session of its client is left alone: else one of its calls would be on its way, or a change wait.
use Rattle.std.proofs.Common.{◌≡◌, ℕ, zero, suc, ◌<◌, ◌≤◌, List, [], ◌∷◌, ◌++◌, length, Option, Some, None, Bool, true, false, refl, sym, ap, ◌∙◌, subst, arith, append-nil, map, IsSome}
use Rattle.client_state.specs.State as client
use Rattle.trace_ends.specs.Queue.{is_none}
use Rattle.trace_replay.specs.Complete.{IsAlone, IsLeftAlone}
use Rattle.kept_promise.proofs.Common.{slice_get, All, Unread, Came, split, fed, stream, Fed, stream_comes, Refusal, message_spell, Pending, FileChange, Stage, Task, Op, Seat, Session, numbered, World, is_still_at, Moment, book_of, Queue, Mix, queue_of, asks_in, tolds_in, up_message, down_message, is_raw}
use Rattle.kept_promise.proofs.Lists.{some_is, nothing_there, both_true}
use Rattle.kept_promise.proofs.Keys.{times, own, on_way, ask_key, told_key, change_key, pending_key, there_by}
use Rattle.kept_promise.proofs.Messages.{Job, job, job_of}
use Rattle.kept_promise.proofs.Fits.{FitLaws}
use Rattle.kept_promise.proofs.Turns.{also_numbered, owned_uncut}
use Rattle.kept_promise.proofs.Facts.{IsBalanced, IsTalk, IsKept}
use Rattle.kept_promise.proofs.Leading.{CarryAll, IsCarried}
use Rattle.kept_promise.proofs.Rounds.{IsRested, AreRested, is_empty}
use Rattle.kept_promise.proofs.Doing.{without_end}
use Rattle.kept_promise.proofs.CutEnds.{job_is}
use Rattle.kept_promise.proofs.Mixes.{AreMixes, there_plain}
use Rattle.kept_promise.proofs.MixesFit.{map_count}
use Rattle.kept_promise.proofs.RunsDeliveries.{ups_short, downs_short}
use Rattle.kept_promise.proofs.Joins.{own_none}

-- ---- no bytes, no messages

fed_none : (end : Unread) → end.spoilt ≡ None → (fed end []).1.records ≡ (split (end.rest ++ [])).records
fed_none end sound = ap (λ (s : Option Refusal). (fed (record { rest = end.rest; spoilt = s }) []).1.records) sound

-- an end that holds no whole record, and has nothing on its way, has nothing to come
nothing_comes : (end : Unread) (records : List (List ℕ)) → All (λ r. length r ≤ 131072) records → end.spoilt ≡ None → IsRested end → end.rest ++ [] ≡ stream records → records ≡ []
nothing_comes end records short sound rested e =
    let c : Came records [] (split (end.rest ++ [])) = stream_comes records (end.rest ++ []) [] short (append-nil (end.rest ++ []) ∙ e) in
    let came : (split (end.rest ++ [])).records ≡ [] = sym (fed_none end sound) ∙ ap (λ (r : Unread × Fed). r.1.records) rested in
    c.records ∙ ap (λ l. l ++ c.left) came ∙ c.all refl

none_mapped : {A B : Type 0} (f : A → B) (xs : List A) → map f xs ≡ [] → xs ≡ []
none_mapped f [] e = refl
none_mapped f (x ∷ xs) e = absurd cc

-- ---- a session that is left alone

-- nothing is on its way there
nothing_waits : FitLaws → (w : World) (all : List Moment) (ms : List Mix) (n : ℕ) (x : Session) (m : Mix) → IsKept (book_of w all) w.core (map queue_of ms) → CarryAll w.core.sessions w.wires ms → AreMixes w.core.sessions ms → AreRested w → numbered w.core.sessions n ≡ Some x → is_raw x ≡ false → numbered ms n ≡ Some m → IsAlone w n
    → on_way n w.core.server.waiting (queue_of m) ≡ []
nothing_waits fits w all ms n x m kept carry fit rested at owned is alone =
    let v = also_numbered ms w.wires n m carry.0 is in
    let c = subst (λ (b : Bool). IsCarried b v.0 m) owned (carry.1 n x v.0 m at v.1 is) in
    let mix = fit n x m at is in
    let r = (rested.each n v.0 v.1).0 in
    let still = both_true (is_none v.0.up) (is_none v.0.down) (sym (ap is_still_at v.1) ∙ alone.still) in
    let s = kept.sessions n x (queue_of m) at (there_plain ms n m is) owned in
    let ups : m.ups ≡ [] = none_mapped up_message m.ups (none_mapped message_spell (map up_message m.ups) (nothing_comes v.0.server_end (map message_spell (map up_message m.ups)) (ups_short fits m.ups s.ups_fit mix.ups) c.up_sound r.0 (ap (λ l. v.0.server_end.rest ++ l) (sym (is_empty v.0.up still.0)) ∙ c.up))) in
    let downs : m.downs ≡ [] = none_mapped down_message m.downs (none_mapped message_spell (map down_message m.downs) (nothing_comes v.0.client_end (map message_spell (map down_message m.downs)) (downs_short w.core.lbfs m.downs s.downs_fit mix.downs) c.down_sound r.1 (ap (λ l. v.0.client_end.rest ++ l) (sym (is_empty v.0.down still.1)) ∙ c.down))) in
    let changes : own n w.core.server.waiting ≡ [] = own_none n w.core.server.waiting alone.waiting in
    ap (λ us. map ask_key (asks_in us) ++ (map change_key (own n w.core.server.waiting) ++ map told_key (tolds_in m.downs))) ups ∙ ap (λ cs. map change_key cs ++ map told_key (tolds_in m.downs)) changes ∙ ap (λ ds. map told_key (tolds_in ds)) downs

first_there : {A : Type 0} (xs ys : List A) → 0 < length xs → (x : A) × (slice_get (xs ++ ys) 0 ≡ Some x)
first_there [] ys lt = absurd (omega (arith, lt))
first_there (x ∷ xs) ys lt = (x, refl)

-- and so nobody waits for it
nobody_waits : (waiting : List FileChange) (n : ℕ) (q : Queue) (next : ℕ) (first more : List Pending) → IsBalanced n waiting q false next (first ++ more) → on_way n waiting q ≡ [] → 0 < length first → ⊥
nobody_waits waiting n q next first more b none some =
    let p = first_there first more some in
    let a = there_by pending_key (first ++ more) 0 p.0 p.1 in
    let le = b.least refl (pending_key p.0) in
    let z = ap (times (pending_key p.0)) none in
    omega (arith, a, le, z)

-- ---- completeness

stage_of : (p : Option ℕ) (u : Option Task) (j : Job) (t : Task) → job_of p u ≡ Some j → u ≡ Some t → j.stage ≡ t.stage
stage_of (Some p) (Some v) j t e f = sym (ap (λ (z : Job). z.stage) (some_is (record { place = p; file = v.file; stage = v.stage }) j e)) ∙ ap (λ (z : Task). z.stage) (some_is v t f)
stage_of (Some p) None j t e f = nothing_there t f
stage_of None u j t e f = nothing_there j e

-- a client with an operation under way has a session that is not left alone
not_alone : FitLaws → (w : World) (all : List Moment) (ms : List Mix) (c : ℕ) (seat : Seat) (j : Job) (t : Task) → IsKept (book_of w all) w.core (map queue_of ms) → CarryAll w.core.sessions w.wires ms → AreMixes w.core.sessions ms → AreRested w → numbered w.core.seats c ≡ Some seat → job seat ≡ Some j → seat.client.task ≡ Some t → IsLeftAlone w c → ⊥
not_alone fits w all ms c seat j t kept carry fit rested here is task alone = by seat.client.linked refl
  where
    by : (b : Bool) → seat.client.linked ≡ b → ⊥
    by false off = nothing_there t (sym ((kept.seats c seat here).unlinked off).0 ∙ task)
    by true on =
        let s = kept.seats c seat here in
        let l = s.linked on in
        let n = l.0 in
        let x = l.1 in
        let m = also_numbered w.core.sessions ms n x (sym (map_count queue_of ms) ∙ kept.made.1) l.3 in
        let owned = owned_uncut kept n x l.3 l.4 in
        let h = kept.sessions n x (queue_of m.0) l.3 (there_plain ms n m.0 m.1) owned in
        let own = s.session n l.2 in
        let owner : x.owner ≡ c = ap (λ (z : Session). z.owner) (some_is x own.0 (sym l.3 ∙ own.1)) ∙ own.2 in
        let same : h.seat ≡ seat = some_is h.seat seat (sym h.owner ∙ ap (numbered w.core.seats) owner ∙ here) in
        let lone = alone seat n here l.2 in
        let talk = subst (IsTalk (book_of w all) n w.core.server.waiting x (queue_of m.0)) same (h.talk l.4) in
        let balanced : IsBalanced n w.core.server.waiting (queue_of m.0) false seat.client.next_xid (client.pending seat.client.task ++ seat.client.forgotten) = subst (λ (z : Bool). IsBalanced n w.core.server.waiting (queue_of m.0) z seat.client.next_xid (client.calls_of seat.client)) (lone.stands x l.3) talk.balanced in
        let busy : 0 < length (client.pending_in t.stage) = subst (λ (z : Stage). 0 < length (client.pending_in z)) (stage_of seat.place seat.client.task j t is task) (talk.busy j is) in
        let some : 0 < length (client.pending seat.client.task) = subst (λ (z : Option Task). 0 < length (client.pending z)) (sym task) busy in
        nobody_waits w.core.server.waiting n (queue_of m.0) seat.client.next_xid (client.pending seat.client.task) seat.client.forgotten balanced (nothing_waits fits w all ms n x m.0 kept carry fit rested l.3 owned m.1 lone) some

pub completes : FitLaws → (w : World) (all : List Moment) (ms : List Mix) → IsKept (book_of w all) w.core (map queue_of ms) → CarryAll w.core.sessions w.wires ms → AreMixes w.core.sessions ms → AreRested w → (k : ℕ) (o : Op) → slice_get w.core.ops k ≡ Some o → IsLeftAlone w o.client → IsSome o.end
completes fits w all ms kept carry fit rested k o at alone = by o.end refl
  where
    by : (e : Option ℕ) → o.end ≡ e → IsSome o.end
    by (Some e) is = subst (λ (z : Option ℕ). IsSome z) (sym is) refl
    by None is =
        let run = kept.running k o at (without_end (book_of w all) o (kept.sound.rights k o at) is) in
        let j = job_is run.0.place run.0.client.task run.1 run.3 in
        absurd (not_alone fits w all ms o.client run.0 run.1 j.1.0 kept carry fit rested run.2 run.3 j.1.1 alone)
