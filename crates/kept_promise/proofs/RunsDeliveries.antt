-- Bytes that come to an end, in whatever pieces: each record that they complete is that of the first message on its way.
use Rattle.std.proofs.Common.{◌≡◌, ℕ, zero, suc, ◌≤◌, List, [], ◌∷◌, ◌++◌, length, take, drop, Option, Some, None, Bool, true, false, refl, sym, ap, ◌∙◌, subst, arith, append-nil, append_assoc, map, ◌⊎◌, inl, inr}
use Rattle.kept_promise.proofs.Common.{take-append-drop, All-nil, All-cons, All, fed, stream, message_spell, MessageFits, Message, Event, Event.Serves, Event.Hears, CoreStep, numbered, with_numbered, happens, World, Wire, bytes_of, happened, all_happened, up_taken, up_at, up_some, down_taken, down_at, down_some, up_length, down_length, up_all, round, is_still, passes, Moment, moments_of, up_moments_at, up_moments, down_moments_at, down_moments, round_moments, passes_moments, book_of, Up, Up.Asks, Up.Replies, Down, Down.Tells, Down.Recalls, up_message, down_message, reply_message, asks_in, tolds_in, Mix, queue_of, Carries, ask_message, told_message, is_raw, Session, Unread, Fed, Refusal, Loss.Nothing, Core, Book, Queue}
use Rattle.kept_promise.proofs.Statements.{ToldFits, CallFits}
use Rattle.kept_promise.proofs.Messages.{AllAsks, AllTolds}
use Rattle.kept_promise.proofs.Facts.{IsKept}
use Rattle.kept_promise.proofs.Fits.{FitLaws}
use Rattle.kept_promise.proofs.Turns.{also_numbered, around_with, raw_or_owned, with_same, unhung_up}
use Rattle.std.specs.List.{AllByRecursion}
use Rattle.lease_law.specs.Claims.{recall_message}
use Rattle.kept_promise.proofs.Leading.{mixes_after, CarryAll, IsCarried}
use Rattle.kept_promise.proofs.Mixes.{UpFits, DownFits, AreMixes, there_plain}
use Rattle.kept_promise.proofs.MixesFit.{map_count, ups_plain}
use Rattle.kept_promise.proofs.Replies.{reply_fits, recall_fits, reply_silent}
use Rattle.kept_promise.proofs.Routes.{routes_carry, carry_with}
use Rattle.kept_promise.proofs.Bytes.{streams_come, took_sound}
use Rattle.kept_promise.proofs.Deliveries.{hears_silent}
use Rattle.kept_promise.proofs.Rounds.{AreRested, rests_up, rests_down}
use Rattle.kept_promise.proofs.RunsCarried.{KeptLaws, moment, CarriedMix, Stands, FindsAsk, FindsReply}
use Rattle.kept_promise.proofs.Places.{becomes, there_is, become_same, become_count}
use Rattle.kept_promise.proofs.RunsQueues.{off_ups, off_downs, served_off, served_has, heard_off, heard_has, ups_next, downs_next}
use Rattle.kept_promise.proofs.RunsEvents.{MixFact, left_by}
use Rattle.kept_promise.proofs.OwnersKept.{owners_stay, deaf_of, stays_raw, sent_owned}
use Rattle.kept_promise.proofs.Lists.{some_is, all_append}
use Rattle.trace_replay.specs.Delivery.{taken_up, spoilt_as}
use Rattle.kept_promise.proofs.SentBytes.{AreBytes, AreAllBytes, fed_bytes, take_bytes, drop_bytes}
use Rattle.kept_promise.proofs.Serves.{serves_as}
use Rattle.kept_promise.proofs.Actors.{serves_read}

-- ---- records and messages

abbrev up_bytes : Up → List ℕ
up_bytes u = message_spell (up_message u)

abbrev down_bytes : Down → List ℕ
down_bytes d = message_spell (down_message d)

spells : {A : Type 0} (f : A → Message) (xs : List A) → map message_spell (map f xs) ≡ map (λ x. message_spell (f x)) xs
spells f [] = refl
spells f (x ∷ xs) = ap (λ (z : List (List ℕ)). message_spell (f x) ∷ z) (spells f xs)

-- the first of these records are those of the first messages
pub record Parted {A : Type 0} (f : A → List ℕ) (xs : List A) (came left : List (List ℕ)) : Type 0 where
  pub front : List A
  pub behind : List A
  pub all : xs ≡ front ++ behind
  pub came_is : map f front ≡ came
  pub left_is : map f behind ≡ left

pub parted : {A : Type 0} (f : A → List ℕ) (xs : List A) (came left : List (List ℕ)) → map f xs ≡ came ++ left → Parted f xs came left
parted f xs [] left e = record { front = []; behind = xs; all = refl; came_is = refl; left_is = e }
parted f [] (r ∷ rs) left e = absurd (by e)
  where
    by : [] ≡ r ∷ (rs ++ left) → ⊥
    by h = cc
parted f (x ∷ xs) (r ∷ rs) left e =
    let p = parted f xs rs left (behind e) in
    record { front = x ∷ p.front; behind = p.behind; all = ap (λ zs. x ∷ zs) p.all; came_is = ap (λ (z : List (List ℕ)). f x ∷ z) p.came_is ∙ ap (λ (z : List ℕ). z ∷ rs) (first e); left_is = p.left_is }
  where
    behind : f x ∷ map f xs ≡ r ∷ (rs ++ left) → map f xs ≡ rs ++ left
    behind h = cc

    first : f x ∷ map f xs ≡ r ∷ (rs ++ left) → f x ≡ r
    first h = cc

pub drop_front : {A : Type 0} (xs ys : List A) → drop (length xs) (xs ++ ys) ≡ ys
drop_front [] ys = refl
drop_front (x ∷ xs) ys = drop_front xs ys

pub fits_short : (m : Message) → MessageFits m → length (message_spell m) ≤ 131072
fits_short m f = let l = f.1 in omega (arith, l)

pub ups_short : FitLaws → (us : List Up) → AllAsks (λ a. CallFits a.lbfs a.xid a.call) (asks_in us) → AllByRecursion UpFits us → All (λ r. length r ≤ 131072) (map message_spell (map up_message us))
ups_short fits [] h small = All-nil (λ r. length r ≤ 131072)
ups_short fits (Asks a ∷ us) h small = All-cons (λ r. length r ≤ 131072) (up_bytes (Asks a)) (map message_spell (map up_message us)) (fits_short (ask_message a) (fits.calls a.lbfs a.xid a.call h.0).0) (ups_short fits us h.1 small.1)
ups_short fits (Replies xid ∷ us) h small = All-cons (λ r. length r ≤ 131072) (up_bytes (Replies xid)) (map message_spell (map up_message us)) (fits_short (reply_message xid) (reply_fits xid small.0)) (ups_short fits us h small.1)

pub downs_short : (lbfs : ℕ) (ds : List Down) → AllTolds (ToldFits lbfs) (tolds_in ds) → AllByRecursion DownFits ds → All (λ r. length r ≤ 131072) (map message_spell (map down_message ds))
downs_short lbfs [] h small = All-nil (λ r. length r ≤ 131072)
downs_short lbfs (Tells t ∷ ds) h small = All-cons (λ r. length r ≤ 131072) (down_bytes (Tells t)) (map message_spell (map down_message ds)) (fits_short (told_message t) h.0.0) (downs_short lbfs ds h.1 small.1)
downs_short lbfs (Recalls xid file ∷ ds) h small = All-cons (λ r. length r ≤ 131072) (down_bytes (Recalls xid file)) (map message_spell (map down_message ds)) (fits_short (recall_message xid file) (recall_fits xid file small.0.0)) (downs_short lbfs ds h small.1)

-- a queue's bytes, cut anywhere, are still behind what its end has
cut_whole : (rest queue bytes : List ℕ) (count : ℕ) → rest ++ queue ≡ bytes → rest ++ (take count queue ++ drop count queue) ≡ bytes
cut_whole rest queue bytes count e = ap (λ (z : List ℕ). rest ++ z) (take-append-drop count queue) ∙ e

came_of : {A : Type 0} (f : A → Message) (xs : List A) (came left : List (List ℕ)) → map message_spell (map f xs) ≡ came ++ left → map (λ x. message_spell (f x)) xs ≡ came ++ left
came_of f xs came left e = sym (spells f xs) ∙ e

-- what is left are the bytes of the messages behind
left_bytes : {A : Type 0} (f : A → Message) (xs : List A) (left : List (List ℕ)) (bytes : List ℕ) → bytes ≡ stream left → map (λ x. message_spell (f x)) xs ≡ left → bytes ≡ bytes_of (map f xs)
left_bytes f xs left bytes e is = e ∙ ap stream (sym is ∙ sym (spells f xs))

-- what is on its way without its first messages
ups_off : (qs : List Mix) (n : ℕ) (m : Mix) (front behind : List Up) → numbered qs n ≡ Some m → m.ups ≡ front ++ behind → with_numbered qs n (record m { ups = behind }) ≡ becomes (off_ups (length front)) qs n
ups_off qs n m front behind at is = ap (λ (z : List Up). with_numbered qs n (record m { ups = z })) (sym (ap (drop (length front)) is ∙ drop_front front behind)) ∙ there_is (off_ups (length front)) qs n m at

downs_off : (qs : List Mix) (n : ℕ) (m : Mix) (front behind : List Down) → numbered qs n ≡ Some m → m.downs ≡ front ++ behind → with_numbered qs n (record m { downs = behind }) ≡ becomes (off_downs (length front)) qs n
downs_off qs n m front behind at is = ap (λ (z : List Down). with_numbered qs n (record m { downs = z })) (sym (ap (drop (length front)) is ∙ drop_front front behind)) ∙ there_is (off_downs (length front)) qs n m at

-- ---- what stands while records come

own_there : (qs : List Mix) (n : ℕ) (q r : Mix) → numbered qs n ≡ Some q → numbered (with_numbered qs n r) n ≡ Some r
own_there qs n q r at = (around_with qs n q r at).there

record Midway (P : MixFact) (all past : List Moment) (w : World) : Type 0 where
  mixes : List Mix
  fit : AreMixes w.core.sessions mixes
  kept : IsKept (book_of w all) w.core (map queue_of mixes)
  early : IsKept (book_of w past) w.core (map queue_of mixes)
  carry : CarryAll w.core.sessions w.wires mixes
  more : P all past w.opening w.core mixes

none_more : (all past : List Moment) (P : List Moment → Type 0) → P past → P (past ++ [])
none_more all past P h = subst P (sym (append-nil past)) h

-- one moment more, and those behind it
one_more : (past : List Moment) (m : Moment) (ms : List Moment) (P : List Moment → Type 0) → P ((past ++ m ∷ []) ++ ms) → P (past ++ m ∷ ms)
one_more past m ms P h = subst P (append_assoc past (m ∷ []) ms) h

next_split : (all past : List Moment) (m : Moment) (ms rest : List Moment) → all ≡ past ++ ((m ∷ ms) ++ rest) → all ≡ (past ++ m ∷ []) ++ (ms ++ rest)
next_split all past m ms rest e = e ∙ sym (append_assoc past (m ∷ []) (ms ++ rest))

-- ---- up

abbrev serve_events : (n now : ℕ) → List (List ℕ) → List Event
serve_events n now rs = map (Serves n now) rs

-- what a client sent is taken: nothing is lost by it, and nothing sent up
served_silent : FitLaws → (book : Book) (k : Core) (qs : List Queue) (n now : ℕ) (bytes : List ℕ) (mid : List Queue) → IsKept book k qs → FindsAsk qs n bytes mid ⊎ FindsReply k qs n bytes mid → (let t = happens k (Serves n now bytes) in (t.loss ≡ Nothing) × (t.session ≡ None))
served_silent fits book k qs n now bytes mid kept (inl f) =
    let x = also_numbered qs k.sessions n f.0 (sym kept.made.1) f.3 in
    subst (λ (t : CoreStep). (t.loss ≡ Nothing) × (t.session ≡ None)) (sym (serves_as k n now bytes x.0 (ask_message f.1) x.1 (unhung_up kept n x.0 f.0 x.1 f.3 f.1 f.2 f.4) (serves_read fits book k qs n now bytes mid kept f))) (refl, refl)
served_silent fits book k qs n now bytes mid kept (inr f) = subst (λ (b : List ℕ). (let t = happens k (Serves n now b) in (t.loss ≡ Nothing) × (t.session ≡ None))) (sym f.bytes_is) (reply_silent fits k n now f.xid f.session f.at f.unhung f.fits kept.server.leases.1)

-- the records of the first calls on their way come, where the wires have them no more
served_all : (P : MixFact) → KeptLaws → FitLaws → CarriedMix P → (all past rest : List Moment) (n now : ℕ) (us behind : List Up) (w : World) (qs : List Mix) (q : Mix)
    → all ≡ past ++ (moments_of w (serve_events n now (map up_bytes us)) ++ rest) → AreMixes w.core.sessions qs → IsKept (book_of w all) w.core (map queue_of qs) → IsKept (book_of w past) w.core (map queue_of qs) → CarryAll w.core.sessions w.wires (becomes (off_ups (length us)) qs n) → P all past w.opening w.core qs → numbered qs n ≡ Some q → q.ups ≡ us ++ behind
    → Midway P all (past ++ moments_of w (serve_events n now (map up_bytes us))) (all_happened w (serve_events n now (map up_bytes us)))
served_all P l fits carried all past rest n now [] behind w qs q split fit kept early carry holds at is =
    none_more all past (λ (z : List Moment). Midway P all z w) (record { mixes = qs; fit = fit; kept = kept; early = early; carry = subst (CarryAll w.core.sessions w.wires) (become_same (off_ups 0) (λ z. refl) qs n) carry; more = holds })
served_all P l fits carried all past rest n now (a ∷ us) behind w qs q split fit kept early carry holds at is =
    let e : Event = Serves n now (up_bytes a) in
    let t : CoreStep = happens w.core e in
    let m : Moment = moment w.core e in
    let ms : List Moment = moments_of (happened w e) (serve_events n now (map up_bytes us)) in
    let mid : List Mix = with_numbered qs n (record q { ups = us ++ behind }) in
    let left = left_by P l carried all past (ms ++ rest) w.opening w.core qs e mid split fit kept early (inl (q, a, us ++ behind, at, is, refl, refl)) holds in
    let quiet = served_silent fits (book_of w all) w.core (map queue_of qs) n now (up_bytes a) (map queue_of mid) kept (ups_plain w.core qs n now (up_bytes a) mid kept.made.1 fit (q, a, us ++ behind, at, is, refl, refl) a refl) in
    let after : List Mix = mixes_after mid t left.sends in
    let own : numbered mid n ≡ Some (record q { ups = us ++ behind }) = own_there qs n q (record q { ups = us ++ behind }) at in
    let has = served_has mid t left.sends quiet.0 quiet.1 n (record q { ups = us ++ behind }) own in
    let less : CarryAll w.core.sessions w.wires (becomes (off_ups (length us)) mid n) = subst (CarryAll w.core.sessions w.wires) (ups_next qs (length us) n q a (us ++ behind) at is) carry in
    let sent : CarryAll (happened w e).core.sessions (happened w e).wires (becomes (off_ups (length us)) after n) = subst (CarryAll (happened w e).core.sessions (happened w e).wires) (served_off (length us) n mid t left.sends quiet.0 quiet.1) (routes_carry w.core.sessions w.wires (becomes (off_ups (length us)) mid n) t left.sends (owners_stay w.core e) (deaf_of left.kept) (sent_owned kept e) (sym kept.made.1 ∙ map_count queue_of qs ∙ sym (become_count (off_ups (suc (length us))) qs n) ∙ sym carry.0 ∙ less.0) less) in
    one_more past m ms (λ (z : List Moment). Midway P all z (all_happened (happened w e) (serve_events n now (map up_bytes us))))
    (served_all P l fits carried all (past ++ m ∷ []) rest n now us behind (happened w e) after has.0 (next_split all past m ms rest split) left.fit left.kept left.early sent left.more has.1 has.2)

-- records of a session that is no client's come, whatever they are
closing_bytes : (o : Option Refusal) → AreAllBytes (spoilt_as o)
closing_bytes None = tt
closing_bytes (Some why) = (tt, tt)

raws_all : (P : MixFact) → KeptLaws → CarriedMix P → (all past rest : List Moment) (n now : ℕ) (rs : List (List ℕ)) (w : World) (qs : List Mix) (x : Session)
    → all ≡ past ++ (moments_of w (serve_events n now rs) ++ rest) → AreMixes w.core.sessions qs → IsKept (book_of w all) w.core (map queue_of qs) → IsKept (book_of w past) w.core (map queue_of qs) → CarryAll w.core.sessions w.wires qs → P all past w.opening w.core qs → numbered w.core.sessions n ≡ Some x → is_raw x ≡ true → AreAllBytes rs
    → Midway P all (past ++ moments_of w (serve_events n now rs)) (all_happened w (serve_events n now rs))
raws_all P l carried all past rest n now [] w qs x split fit kept early carry holds at raw are =
    none_more all past (λ (z : List Moment). Midway P all z w) (record { mixes = qs; fit = fit; kept = kept; early = early; carry = carry; more = holds })
raws_all P l carried all past rest n now (r ∷ rs) w qs x split fit kept early carry holds at raw are =
    let e : Event = Serves n now r in
    let t : CoreStep = happens w.core e in
    let m : Moment = moment w.core e in
    let ms : List Moment = moments_of (happened w e) (serve_events n now rs) in
    let left = left_by P l carried all past (ms ++ rest) w.opening w.core qs e qs split fit kept early (inr (x, at, raw, refl, are.0)) holds in
    let y = stays_raw w.core n now r x at raw in
    one_more past m ms (λ (z : List Moment). Midway P all z (all_happened (happened w e) (serve_events n now rs)))
    (raws_all P l carried all (past ++ m ∷ []) rest n now rs (happened w e) (mixes_after qs t left.sends) y.0 (next_split all past m ms rest split) left.fit left.kept left.early
    (routes_carry w.core.sessions w.wires qs t left.sends (owners_stay w.core e) (deaf_of left.kept) (sent_owned kept e) (sym kept.made.1 ∙ map_count queue_of qs) carry) left.more y.1 y.2 are.1)

pub up_stands : (P : MixFact) → KeptLaws → FitLaws → CarriedMix P → (all past rest : List Moment) (w : World) (n count now : ℕ) → all ≡ past ++ (up_moments w n count now ++ rest) → Stands P all past w → Stands P all (past ++ up_moments w n count now) (up_some w n count now)
up_stands P l fits carried all past rest w n count now split h = by (numbered w.wires n) refl split
  where
    -- where its session is a client's
    carried_of : (v : Wire) (z : Mix) (x : Session) → numbered w.core.sessions n ≡ Some x → is_raw x ≡ false → Carries v z → (y : Session) → numbered w.core.sessions n ≡ Some y → IsCarried (is_raw y) v z
    carried_of v z x there owned c y at_ = subst (λ (b : Bool). IsCarried b v z) (sym (ap is_raw (some_is y x (sym at_ ∙ there)) ∙ owned)) c

    own : (q : Wire) → numbered w.wires n ≡ Some q → all ≡ past ++ (up_moments_at w n count now (Some q) ++ rest) → (m : Mix) → numbered h.mixes n ≡ Some m → (x : Session) → numbered w.core.sessions n ≡ Some x → is_raw x ≡ false → Midway P all (past ++ up_moments_at w n count now (Some q)) (up_at w n count now (Some q))
    own q at split m on x there owned =
        let session = h.kept.sessions n x (queue_of m) there (there_plain h.mixes n m on) owned in
        let mix = h.fit n x m there on in
        let c = subst (λ (b : Bool). IsCarried b q m) owned (h.carry.1 n x q m there at on) in
        let r = fed q.server_end (take count q.up) in
        let whole = cut_whole q.server_end.rest q.up (bytes_of (map up_message m.ups)) count c.up in
        let comes = streams_come q.server_end (take count q.up) (drop count q.up) (map message_spell (map up_message m.ups)) (ups_short fits m.ups session.ups_fit mix.ups) c.up_sound whole in
        let p = parted up_bytes m.ups r.1.records comes.left (came_of up_message m.ups r.1.records comes.left comes.all) in
        let carries : Carries (record q { up = drop count q.up; server_end = r.0 }) (record m { ups = p.behind }) = record {
          up_sound = comes.sound;
          up = left_bytes up_message p.behind comes.left (r.0.rest ++ drop count q.up) comes.queued p.left_is;
          down_sound = c.down_sound;
          down = c.down;
        } in
        let wires : List Wire = (up_taken w n count q).wires in
        let set : CarryAll w.core.sessions wires (with_numbered h.mixes n (record m { ups = p.behind })) = carry_with w.core.sessions w.wires h.mixes n q (record q { up = drop count q.up; server_end = r.0 }) m (record m { ups = p.behind }) h.carry at on (carried_of (record q { up = drop count q.up; server_end = r.0 }) (record m { ups = p.behind }) x there owned carries) in
        let off = ups_off h.mixes n m p.front p.behind on p.all in
        let same : map up_bytes p.front ≡ taken_up r.1 = p.came_is ∙ sym (took_sound q.server_end (take count q.up) comes.sound) in
        subst (λ (z : List (List ℕ)). Midway P all (past ++ moments_of (up_taken w n count q) (serve_events n now z)) (all_happened (up_taken w n count q) (serve_events n now z))) same
        (served_all P l fits carried all past rest n now p.front p.behind (up_taken w n count q) h.mixes m
        (subst (λ (z : List (List ℕ)). all ≡ past ++ (moments_of (up_taken w n count q) (serve_events n now z) ++ rest)) (sym same) split)
        h.fit h.kept h.early (subst (CarryAll w.core.sessions wires) off set) h.more on p.all)

    -- where it is none nothing is known of what comes but that it is bytes
    foreign : (q : Wire) → numbered w.wires n ≡ Some q → all ≡ past ++ (up_moments_at w n count now (Some q) ++ rest) → (m : Mix) → numbered h.mixes n ≡ Some m → (x : Session) → numbered w.core.sessions n ≡ Some x → is_raw x ≡ true → Midway P all (past ++ up_moments_at w n count now (Some q)) (up_at w n count now (Some q))
    foreign q at split m on x there raw =
        let r = fed q.server_end (take count q.up) in
        let v : Wire = record q { up = drop count q.up; server_end = r.0 } in
        let was : IsCarried true q m = subst (λ (b : Bool). IsCarried b q m) raw (h.carry.1 n x q m there at on) in
        let come = fed_bytes q.server_end (take count q.up) was.2 (take_bytes count q.up was.1) in
        let set = carry_with w.core.sessions w.wires h.mixes n q v m m h.carry at on (λ y at_. subst (λ (b : Bool). IsCarried b v m) (sym (ap is_raw (some_is y x (sym at_ ∙ there)) ∙ raw)) (was.0, drop_bytes count q.up was.1, come.1)) in
        raws_all P l carried all past rest n now (taken_up r.1) (up_taken w n count q) h.mixes x split h.fit h.kept h.early (subst (CarryAll w.core.sessions (up_taken w n count q).wires) (with_same h.mixes n m on) set) h.more there raw (all_append AreBytes r.1.records (spoilt_as r.1.spoilt) come.0 (closing_bytes r.1.spoilt))

    some : (q : Wire) → numbered w.wires n ≡ Some q → all ≡ past ++ (up_moments_at w n count now (Some q) ++ rest) → Midway P all (past ++ up_moments_at w n count now (Some q)) (up_at w n count now (Some q))
    some q at split =
        let there = also_numbered w.wires h.mixes n q (sym h.carry.0) at in
        let m : Mix = there.0 in
        let x = also_numbered h.mixes w.core.sessions n m (sym h.kept.made.1 ∙ map_count queue_of h.mixes) there.1 in
        elim (raw_or_owned x.0) [
          | inl raw ↦ foreign q at split m there.1 x.0 x.1 raw
          | inr owned ↦ own q at split m there.1 x.0 x.1 owned
        ]

    rest_of : (ms : List Moment) (v : World) → up_some w n count now ≡ v → Midway P all ms v → Stands P all ms v
    rest_of ms v e m = record { mixes = m.mixes; fit = m.fit; kept = m.kept; early = m.early; carry = m.carry; rested = subst AreRested e (rests_up w n count now h.rested); more = m.more }

    by : (o : Option Wire) → numbered w.wires n ≡ o → all ≡ past ++ (up_moments_at w n count now o ++ rest) → Stands P all (past ++ up_moments_at w n count now o) (up_at w n count now o)
    by None at split = none_more all past (λ (z : List Moment). Stands P all z w) h
    by (Some q) at split = rest_of (past ++ up_moments_at w n count now (Some q)) (up_at w n count now (Some q)) (ap (up_at w n count now) at) (some q at split)

-- ---- down

abbrev hear_events : (n now : ℕ) → List (List ℕ) → List Event
hear_events n now rs = map (Hears n now) rs

-- the records of the first answers on their way come, where the wires have them no more
heard_all : (P : MixFact) → KeptLaws → CarriedMix P → (all past rest : List Moment) (n now : ℕ) (ts behind : List Down) (w : World) (qs : List Mix) (q : Mix)
    → all ≡ past ++ (moments_of w (hear_events n now (map down_bytes ts)) ++ rest) → AreMixes w.core.sessions qs → IsKept (book_of w all) w.core (map queue_of qs) → IsKept (book_of w past) w.core (map queue_of qs) → CarryAll w.core.sessions w.wires (becomes (off_downs (length ts)) qs n) → P all past w.opening w.core qs → numbered qs n ≡ Some q → q.downs ≡ ts ++ behind
    → Midway P all (past ++ moments_of w (hear_events n now (map down_bytes ts))) (all_happened w (hear_events n now (map down_bytes ts)))
heard_all P l carried all past rest n now [] behind w qs q split fit kept early carry holds at is =
    none_more all past (λ (z : List Moment). Midway P all z w) (record { mixes = qs; fit = fit; kept = kept; early = early; carry = subst (CarryAll w.core.sessions w.wires) (become_same (off_downs 0) (λ z. refl) qs n) carry; more = holds })
heard_all P l carried all past rest n now (t ∷ ts) behind w qs q split fit kept early carry holds at is =
    let e : Event = Hears n now (down_bytes t) in
    let u : CoreStep = happens w.core e in
    let m : Moment = moment w.core e in
    let ms : List Moment = moments_of (happened w e) (hear_events n now (map down_bytes ts)) in
    let mid : List Mix = with_numbered qs n (record q { downs = ts ++ behind }) in
    let left = left_by P l carried all past (ms ++ rest) w.opening w.core qs e mid split fit kept early (q, t, ts ++ behind, at, is, refl, refl) holds in
    let quiet = hears_silent w.core n now (down_bytes t) in
    let after : List Mix = mixes_after mid u left.sends in
    let own : numbered mid n ≡ Some (record q { downs = ts ++ behind }) = own_there qs n q (record q { downs = ts ++ behind }) at in
    let has = heard_has mid u left.sends quiet.0 quiet.1 n (record q { downs = ts ++ behind }) own in
    let less : CarryAll w.core.sessions w.wires (becomes (off_downs (length ts)) mid n) = subst (CarryAll w.core.sessions w.wires) (downs_next qs (length ts) n q t (ts ++ behind) at is) carry in
    let sent : CarryAll (happened w e).core.sessions (happened w e).wires (becomes (off_downs (length ts)) after n) = subst (CarryAll (happened w e).core.sessions (happened w e).wires) (heard_off (length ts) n mid u left.sends quiet.0 quiet.1) (routes_carry w.core.sessions w.wires (becomes (off_downs (length ts)) mid n) u left.sends (owners_stay w.core e) (deaf_of left.kept) (sent_owned kept e) (sym kept.made.1 ∙ map_count queue_of qs ∙ sym (become_count (off_downs (suc (length ts))) qs n) ∙ sym carry.0 ∙ less.0) less) in
    one_more past m ms (λ (z : List Moment). Midway P all z (all_happened (happened w e) (hear_events n now (map down_bytes ts))))
    (heard_all P l carried all (past ++ m ∷ []) rest n now ts behind (happened w e) after has.0 (next_split all past m ms rest split) left.fit left.kept left.early sent left.more has.1 has.2)

pub down_stands : (P : MixFact) → KeptLaws → CarriedMix P → (all past rest : List Moment) (w : World) (n count now : ℕ) → all ≡ past ++ (down_moments w n count now ++ rest) → Stands P all past w → Stands P all (past ++ down_moments w n count now) (down_some w n count now)
down_stands P l carried all past rest w n count now split h = by (numbered w.wires n) refl split
  where
    own : (q : Wire) → numbered w.wires n ≡ Some q → all ≡ past ++ (down_moments_at w n count now (Some q) ++ rest) → (m : Mix) → numbered h.mixes n ≡ Some m → (x : Session) → numbered w.core.sessions n ≡ Some x → is_raw x ≡ false → Midway P all (past ++ down_moments_at w n count now (Some q)) (down_at w n count now (Some q))
    own q at split m on x there owned =
        let session = h.kept.sessions n x (queue_of m) there (there_plain h.mixes n m on) owned in
        let mix = h.fit n x m there on in
        let c = subst (λ (b : Bool). IsCarried b q m) owned (h.carry.1 n x q m there at on) in
        let r = fed q.client_end (take count q.down) in
        let whole = cut_whole q.client_end.rest q.down (bytes_of (map down_message m.downs)) count c.down in
        let comes = streams_come q.client_end (take count q.down) (drop count q.down) (map message_spell (map down_message m.downs)) (downs_short w.core.lbfs m.downs session.downs_fit mix.downs) c.down_sound whole in
        let p = parted down_bytes m.downs r.1.records comes.left (came_of down_message m.downs r.1.records comes.left comes.all) in
        let carries : Carries (record q { down = drop count q.down; client_end = r.0 }) (record m { downs = p.behind }) = record {
          up_sound = c.up_sound;
          up = c.up;
          down_sound = comes.sound;
          down = left_bytes down_message p.behind comes.left (r.0.rest ++ drop count q.down) comes.queued p.left_is;
        } in
        let wires : List Wire = (down_taken w n count q).wires in
        let set : CarryAll w.core.sessions wires (with_numbered h.mixes n (record m { downs = p.behind })) = carry_with w.core.sessions w.wires h.mixes n q (record q { down = drop count q.down; client_end = r.0 }) m (record m { downs = p.behind }) h.carry at on (λ y at_. subst (λ (b : Bool). IsCarried b (record q { down = drop count q.down; client_end = r.0 }) (record m { downs = p.behind })) (sym (ap is_raw (some_is y x (sym at_ ∙ there)) ∙ owned)) carries) in
        let off = downs_off h.mixes n m p.front p.behind on p.all in
        let same = p.came_is in
        subst (λ (z : List (List ℕ)). Midway P all (past ++ moments_of (down_taken w n count q) (hear_events n now z)) (all_happened (down_taken w n count q) (hear_events n now z))) same
        (heard_all P l carried all past rest n now p.front p.behind (down_taken w n count q) h.mixes m
        (subst (λ (z : List (List ℕ)). all ≡ past ++ (moments_of (down_taken w n count q) (hear_events n now z) ++ rest)) (sym same) split)
        h.fit h.kept h.early (subst (CarryAll w.core.sessions wires) off set) h.more on p.all)

    take_none : (i : ℕ) (bytes : List ℕ) → bytes ≡ [] → take i bytes ≡ []
    take_none i bytes e = ap (take i) e ∙ by i
      where
        by : (i : ℕ) → take {A = ℕ} i [] ≡ []
        by zero = refl
        by (suc i) = refl

    drop_none : (i : ℕ) (bytes : List ℕ) → bytes ≡ [] → drop i bytes ≡ []
    drop_none i bytes e = ap (drop i) e ∙ by i
      where
        by : (i : ℕ) → drop {A = ℕ} i [] ≡ []
        by zero = refl
        by (suc i) = refl

    -- down a session that is no client's nothing comes
    foreign : (q : Wire) → numbered w.wires n ≡ Some q → all ≡ past ++ (down_moments_at w n count now (Some q) ++ rest) → (m : Mix) → numbered h.mixes n ≡ Some m → (x : Session) → numbered w.core.sessions n ≡ Some x → is_raw x ≡ true → Midway P all (past ++ down_moments_at w n count now (Some q)) (down_at w n count now (Some q))
    foreign q at split m on x there raw =
        let r = fed q.client_end (take count q.down) in
        let v : Wire = record q { down = drop count q.down; client_end = r.0 } in
        let was : IsCarried true q m = subst (λ (b : Bool). IsCarried b q m) raw (h.carry.1 n x q m there at on) in
        let none : q.down ≡ [] = was.0 in
        let still : r.1.records ≡ [] = ap (λ (z : List ℕ). (fed q.client_end z).1.records) (take_none count q.down none) ∙ ap (λ (z : Unread × Fed). z.1.records) (h.rested.each n q at).0.1 in
        let set = carry_with w.core.sessions w.wires h.mixes n q v m m h.carry at on (λ y at_. subst (λ (b : Bool). IsCarried b v m) (sym (ap is_raw (some_is y x (sym at_ ∙ there)) ∙ raw)) (drop_none count q.down none, was.1, was.2)) in
        subst (λ (z : List (List ℕ)). Midway P all (past ++ moments_of (down_taken w n count q) (hear_events n now z)) (all_happened (down_taken w n count q) (hear_events n now z))) (sym still)
        (none_more all past (λ (z : List Moment). Midway P all z (down_taken w n count q)) (record { mixes = h.mixes; fit = h.fit; kept = h.kept; early = h.early; carry = subst (CarryAll w.core.sessions (down_taken w n count q).wires) (with_same h.mixes n m on) set; more = h.more }))

    some : (q : Wire) → numbered w.wires n ≡ Some q → all ≡ past ++ (down_moments_at w n count now (Some q) ++ rest) → Midway P all (past ++ down_moments_at w n count now (Some q)) (down_at w n count now (Some q))
    some q at split =
        let there = also_numbered w.wires h.mixes n q (sym h.carry.0) at in
        let m : Mix = there.0 in
        let x = also_numbered h.mixes w.core.sessions n m (sym h.kept.made.1 ∙ map_count queue_of h.mixes) there.1 in
        elim (raw_or_owned x.0) [
          | inl raw ↦ foreign q at split m there.1 x.0 x.1 raw
          | inr owned ↦ own q at split m there.1 x.0 x.1 owned
        ]

    rest_of : (ms : List Moment) (v : World) → down_some w n count now ≡ v → Midway P all ms v → Stands P all ms v
    rest_of ms v e m = record { mixes = m.mixes; fit = m.fit; kept = m.kept; early = m.early; carry = m.carry; rested = subst AreRested e (rests_down w n count now h.rested); more = m.more }

    by : (o : Option Wire) → numbered w.wires n ≡ o → all ≡ past ++ (down_moments_at w n count now o ++ rest) → Stands P all (past ++ down_moments_at w n count now o) (down_at w n count now o)
    by None at split = none_more all past (λ (z : List Moment). Stands P all z w) h
    by (Some q) at split = rest_of (past ++ down_moments_at w n count now (Some q)) (down_at w n count now (Some q)) (ap (down_at w n count now) at) (some q at split)

-- ---- rounds

-- two runs of moments, one behind the other
both_split : (all past ms ns rest : List Moment) → all ≡ past ++ ((ms ++ ns) ++ rest) → all ≡ past ++ (ms ++ (ns ++ rest))
both_split all past ms ns rest e = e ∙ ap (λ (z : List Moment). past ++ z) (append_assoc ms ns rest)

then_split : (all past ms ns rest : List Moment) → all ≡ past ++ ((ms ++ ns) ++ rest) → all ≡ (past ++ ms) ++ (ns ++ rest)
then_split all past ms ns rest e = both_split all past ms ns rest e ∙ sym (append_assoc past ms (ns ++ rest))

both_past : (P : List Moment → Type 0) (past ms ns : List Moment) → P ((past ++ ms) ++ ns) → P (past ++ (ms ++ ns))
both_past P past ms ns h = subst P (append_assoc past ms ns) h

round_stands : (P : MixFact) → KeptLaws → FitLaws → CarriedMix P → (all past rest : List Moment) (w : World) (n server at : ℕ) → all ≡ past ++ (round_moments w n server at ++ rest) → Stands P all past w → Stands P all (past ++ round_moments w n server at) (round w n server at)
round_stands P l fits carried all past rest w n server at split h =
    let v : World = up_all w n server in
    let ms : List Moment = up_moments w n (up_length (numbered w.wires n)) server in
    let ns : List Moment = down_moments v n (down_length (numbered v.wires n)) at in
    let first = up_stands P l fits carried all past (ns ++ rest) w n (up_length (numbered w.wires n)) server (both_split all past ms ns rest split) h in
    both_past (λ (z : List Moment). Stands P all z (round w n server at)) past ms ns
    (down_stands P l carried all (past ++ ms) rest v n (down_length (numbered v.wires n)) at (then_split all past ms ns rest split) first)

abbrev moments_if : (k : ℕ) → World → (n server at : ℕ) → (still : Bool) → List Moment
moments_if k w n server at b = elim b as (λ (x : Bool). List Moment) [ true ↦ [] | false ↦ round_moments w n server at ++ passes_moments k (round w n server at) n server at ]

abbrev passes_if : (k : ℕ) → World → (n server at : ℕ) → (still : Bool) → World
passes_if k w n server at b = elim b as (λ (x : Bool). World) [ true ↦ w | false ↦ passes k (round w n server at) n server at ]

pub passes_stand : (P : MixFact) → KeptLaws → FitLaws → CarriedMix P → (k : ℕ) (all past rest : List Moment) (w : World) (n server at : ℕ) → all ≡ past ++ (passes_moments k w n server at ++ rest) → Stands P all past w → Stands P all (past ++ passes_moments k w n server at) (passes k w n server at)
passes_stand P l fits carried zero all past rest w n server at split h = none_more all past (λ (z : List Moment). Stands P all z w) h
passes_stand P l fits carried (suc k) all past rest w n server at split h =
    by (is_still w n) (λ before. passes_stand P l fits carried k all before rest (round w n server at) n server at) split
  where
    by : (b : Bool)
        → ((before : List Moment) → all ≡ before ++ (passes_moments k (round w n server at) n server at ++ rest) → Stands P all before (round w n server at) → Stands P all (before ++ passes_moments k (round w n server at) n server at) (passes k (round w n server at) n server at))
        → all ≡ past ++ (moments_if k w n server at b ++ rest) → Stands P all (past ++ moments_if k w n server at b) (passes_if k w n server at b)
    by true go split = none_more all past (λ (z : List Moment). Stands P all z w) h
    by false go split =
        let ms : List Moment = round_moments w n server at in
        let ns : List Moment = passes_moments k (round w n server at) n server at in
        let one = round_stands P l fits carried all past (ns ++ rest) w n server at (both_split all past ms ns rest split) h in
        both_past (λ (z : List Moment). Stands P all z (passes k (round w n server at) n server at)) past ms ns (go (past ++ ms) (then_split all past ms ns rest split) one)
