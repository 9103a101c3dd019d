-- One message on its way, taken in pieces.
use Rattle.std.proofs.Common.{◌≡◌, ℕ, ◌<◌, ◌≤◌, List, [], ◌∷◌, ◌++◌, Option, Some, None, length, take, drop, refl, ap, ◌∙◌, arith, append_assoc, length-append, map, true, false}
use Rattle.std.proofs.lemmas.List.{drop_all}
use Rattle.rpc_record.proofs.lemmas.Streaming.{marked_begun, marked_whole}
use Rattle.rpc_record.proofs.lemmas.Splitting.{split_begun, split_whole}
use Rattle.trace_ends.specs.Core.{server_got}
use Rattle.kept_promise.specs.Whole.{Comes, client_got, UpsComeWhole, DownsComeWhole}
use Rattle.kept_promise.proofs.Common.{take_all, take-append-drop, length-drop, nat_tests, Fed, Unread, Parts, nothing_read, record_of, fed, marked, message_spell, MessageFits, IsExpected, Message, waiting_of, got_step, Core, Seat, Session, Event.Serves, Event.Hears, numbered, server_waits, serves, serves_if, hears, hears_at, hears_if, is_newest, acted, World, Wire, bytes_of, routed, all_happened, up_at, up_some, down_at, down_some, up_with, down_with, serves_unless}
use Rattle.kept_promise.proofs.Fits.{FitLaws}
use Rattle.kept_promise.proofs.Bytes.{fed_sound}
use Rattle.trace_replay.specs.Delivery.{taken_up}

-- ---- what an end makes of a piece

-- these records, and nothing is left
abbrev gives : List (List ℕ) → Unread × Fed
gives records = (nothing_read, record { records = records; spoilt = None })

-- no record yet, and these bytes are left
abbrev keeps : List ℕ → Unread × Fed
keeps rest = (record { rest = rest; spoilt = None }, record { records = []; spoilt = None })

abbrev parted : Parts → Unread × Fed
parted p = (record { rest = p.rest; spoilt = p.spoilt }, record { records = p.records; spoilt = p.spoilt })

-- a part of one message that does not complete it
fed_part : (end : Unread) (queue : List ℕ) (count : ℕ) (m : Message) → MessageFits m → Comes end queue m → count < length queue → fed end (take count queue) ≡ keeps (end.rest ++ take count queue)
fed_part end queue count m fits way lt =
    let contents : List ℕ = message_spell m in
    let bytes : List ℕ = end.rest ++ take count queue in
    let behind : List ℕ = drop count queue in
    let all : bytes ++ behind ≡ marked contents ++ [] = append_assoc end.rest (take count queue) behind ∙ ap (λ (z : List ℕ). end.rest ++ z) (take-append-drop count queue) ∙ way.1 in
    let some : 0 < length behind = omega (arith, lt, length-drop count queue) in
    let short : length bytes < length (marked contents) = omega (arith, some, ap length all, length-append bytes behind, length-append (marked contents) []) in
    fed_sound end (take count queue) way.0 ∙ ap parted (split_begun bytes (marked_begun contents bytes behind [] fits.1 all short))

-- all of it
fed_whole : (end : Unread) (queue : List ℕ) (count : ℕ) (m : Message) → MessageFits m → Comes end queue m → length queue ≤ count → fed end (take count queue) ≡ gives (message_spell m ∷ [])
fed_whole end queue count m fits way le =
    let contents : List ℕ = message_spell m in
    let bytes : List ℕ = end.rest ++ take count queue in
    let e : bytes ≡ bytes_of (m ∷ []) = ap (λ (z : List ℕ). end.rest ++ z) (take_all count queue le) ∙ way.1 in
    fed_sound end (take count queue) way.0 ∙ ap parted (split_whole bytes contents [] (ap record_of e ∙ marked_whole contents [] fits.1))

-- what is left comes still
still_comes : (end : Unread) (queue : List ℕ) (count : ℕ) (m : Message) → Comes end queue m → count < length queue → Comes (keeps (end.rest ++ take count queue)).0 (drop count queue) m
still_comes end queue count m way lt =
    (refl, append_assoc end.rest (take count queue) (drop count queue) ∙ ap (λ (z : List ℕ). end.rest ++ z) (take-append-drop count queue) ∙ way.1, omega (arith, lt, length-drop count queue))

-- ---- up

abbrev up_by : World → (number now : ℕ) → Wire → (left : List ℕ) → Unread × Fed → World
up_by w number now q left r = all_happened (up_with w number q left r.0) (map (Serves number now) (taken_up r.1))

-- the server takes what is spelled
served : FitLaws → (k : Core) (number now : ℕ) (x : Session) (m : Message) → numbered k.sessions number ≡ Some x → x.hung ≡ false → MessageFits m → IsExpected (server_waits k number) m → serves k number now (message_spell m) (numbered k.sessions number) ≡ server_got k number now x m
served laws k number now x m at unhung fits expected = ap (serves k number now (message_spell m)) at ∙ ap (serves_unless k number now (message_spell m) x) unhung ∙ ap (serves_if k number now x) (laws.again (server_waits k number) m fits.0 expected)

pub ups_come_whole : FitLaws → UpsComeWhole
ups_come_whole laws = λ w number q x m count now wire at unhung fits expected way. (λ lt. part w number q m count now wire fits way lt, λ le. whole w number q x m count now wire at unhung fits expected way le)
  where
    by : (w : World) (number : ℕ) (q : Wire) (count now : ℕ) → numbered w.wires number ≡ Some q → up_some w number count now ≡ up_by w number now q (drop count q.up) (fed q.server_end (take count q.up))
    by w number q count now wire = ap (up_at w number count now) wire

    part : (w : World) (number : ℕ) (q : Wire) (m : Message) (count now : ℕ) → numbered w.wires number ≡ Some q → MessageFits m → Comes q.server_end q.up m → count < length q.up
        → (end : Unread) × (up_some w number count now ≡ up_with w number q (drop count q.up) end) × Comes end (drop count q.up) m
    part w number q m count now wire fits way lt =
        ((keeps (q.server_end.rest ++ take count q.up)).0, by w number q count now wire ∙ ap (up_by w number now q (drop count q.up)) (fed_part q.server_end q.up count m fits way lt), still_comes q.server_end q.up count m way lt)

    whole : (w : World) (number : ℕ) (q : Wire) (x : Session) (m : Message) (count now : ℕ) → numbered w.wires number ≡ Some q → numbered w.core.sessions number ≡ Some x → x.hung ≡ false → MessageFits m → IsExpected (server_waits w.core number) m → Comes q.server_end q.up m → length q.up ≤ count
        → up_some w number count now ≡ routed (up_with w number q [] nothing_read) (server_got w.core number now x m)
    whole w number q x m count now wire at unhung fits expected way le =
        by w number q count now wire
        ∙ ap (up_by w number now q (drop count q.up)) (fed_whole q.server_end q.up count m fits way le)
        ∙ ap (λ (left : List ℕ). up_by w number now q left (gives (message_spell m ∷ []))) (drop_all count q.up le)
        ∙ ap (routed (up_with w number q [] nothing_read)) (served laws w.core number now x m at unhung fits expected)

-- ---- down

abbrev down_by : World → (number now : ℕ) → Wire → (left : List ℕ) → Unread × Fed → World
down_by w number now q left r = all_happened (down_with w number q left r.0) (map (Hears number now) r.1.records)

-- this is the newest session
newest : (seat : Seat) (number : ℕ) → seat.session ≡ Some number → is_newest seat.session number ≡ true
newest seat number e = ap (λ (s : Option ℕ). is_newest s number) e ∙ grind (arith, nat_tests)

-- the session's owner takes what is spelled
heard : FitLaws → (k : Core) (number now : ℕ) (x : Session) (seat : Seat) (m : Message) → numbered k.sessions number ≡ Some x → numbered k.seats x.owner ≡ Some seat → seat.session ≡ Some number → MessageFits m → IsExpected (waiting_of seat.client) m
    → hears k number now (message_spell m) (numbered k.sessions number) ≡ client_got k x.owner now seat m
heard laws k number now x seat m at sat new fits expected =
    ap (hears k number now (message_spell m)) at
    ∙ ap (hears_at k number x.owner now (message_spell m)) sat
    ∙ ap (hears_if k x.owner now seat (message_spell m)) (newest seat number new)
    ∙ ap (λ p. let r = got_step seat.client p now in acted k x.owner seat r.0 r.1) (laws.again (waiting_of seat.client) m fits.0 expected)

pub downs_come_whole : FitLaws → DownsComeWhole
downs_come_whole laws = λ w number q x seat m count now wire at sat new fits expected way. (λ lt. part w number q m count now wire fits way lt, λ le. whole w number q x seat m count now wire at sat new fits expected way le)
  where
    by : (w : World) (number : ℕ) (q : Wire) (count now : ℕ) → numbered w.wires number ≡ Some q → down_some w number count now ≡ down_by w number now q (drop count q.down) (fed q.client_end (take count q.down))
    by w number q count now wire = ap (down_at w number count now) wire

    part : (w : World) (number : ℕ) (q : Wire) (m : Message) (count now : ℕ) → numbered w.wires number ≡ Some q → MessageFits m → Comes q.client_end q.down m → count < length q.down
        → (end : Unread) × (down_some w number count now ≡ down_with w number q (drop count q.down) end) × Comes end (drop count q.down) m
    part w number q m count now wire fits way lt =
        ((keeps (q.client_end.rest ++ take count q.down)).0, by w number q count now wire ∙ ap (down_by w number now q (drop count q.down)) (fed_part q.client_end q.down count m fits way lt), still_comes q.client_end q.down count m way lt)

    whole : (w : World) (number : ℕ) (q : Wire) (x : Session) (seat : Seat) (m : Message) (count now : ℕ) → numbered w.wires number ≡ Some q → numbered w.core.sessions number ≡ Some x → numbered w.core.seats x.owner ≡ Some seat → seat.session ≡ Some number
        → MessageFits m → IsExpected (waiting_of seat.client) m → Comes q.client_end q.down m → length q.down ≤ count → down_some w number count now ≡ routed (down_with w number q [] nothing_read) (client_got w.core x.owner now seat m)
    whole w number q x seat m count now wire at sat new fits expected way le =
        by w number q count now wire
        ∙ ap (down_by w number now q (drop count q.down)) (fed_whole q.client_end q.down count m fits way le)
        ∙ ap (λ (left : List ℕ). down_by w number now q left (gives (message_spell m ∷ []))) (drop_all count q.down le)
        ∙ ap (routed (down_with w number q [] nothing_read)) (heard laws w.core number now x seat m at sat new fits expected)
