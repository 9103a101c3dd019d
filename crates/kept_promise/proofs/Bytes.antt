-- Of the records that were sent, those come whose bytes have come.
use Rattle.std.proofs.Common.{◌≡◌, ℕ, List, ◌++◌, Option, None, sym, ap, subst, ◌∙◌, append_assoc, Some, append-nil, refl, []}
use Rattle.kept_promise.proofs.Common.{Refusal, Fed, Unread, Parts, Came, split, fed, stream_comes}
use Rattle.kept_promise.proofs.Statements.{Comes, StreamsCome}
use Rattle.trace_replay.specs.Delivery.{taken_up, spoilt_as}

abbrev parted : Parts → Unread × Fed
parted p = (record { rest = p.rest; spoilt = p.spoilt }, record { records = p.records; spoilt = p.spoilt })

-- what an end that isn't spoilt makes of a piece
pub fed_sound : (end : Unread) (piece : List ℕ) → end.spoilt ≡ None → fed end piece ≡ parted (split (end.rest ++ piece))
fed_sound end piece sound = ap (λ (s : Option Refusal). fed (record { rest = end.rest; spoilt = s }) piece) sound

comes_of : (end : Unread) (piece behind : List ℕ) (records : List (List ℕ)) (parts : Parts) → Came records behind parts → Comes end.rest piece behind records (parted parts).0 (parted parts).1.records
comes_of end piece behind records parts c = record { left = c.left; all = c.records; sound = c.sound; queued = c.bytes }

pub streams_come : StreamsCome
streams_come = λ end piece behind records short sound e.
    let c : Came records behind (split (end.rest ++ piece)) = stream_comes records (end.rest ++ piece) behind short (append_assoc end.rest piece behind ∙ e) in
    subst (λ (r : Unread × Fed). Comes end.rest piece behind records r.0 r.1.records) (sym (fed_sound end piece sound)) (comes_of end piece behind records (split (end.rest ++ piece)) c)

-- of a stream that isn't spoilt the records alone are taken
pub took_sound : (end : Unread) (piece : List ℕ) → (fed end piece).0.spoilt ≡ None → taken_up (fed end piece).1 ≡ (fed end piece).1.records
took_sound end piece sound = ap (λ (o : Option Refusal). (fed end piece).1.records ++ spoilt_as o) (by end.spoilt refl ∙ sound) ∙ append-nil (fed end piece).1.records
  where
    by : (o : Option Refusal) → o ≡ end.spoilt → (let r : Unread × Fed = elim o [ Some why ↦ (end, record { records = []; spoilt = Some why }) | None ↦ (let parts = split (end.rest ++ piece) in (record { rest = parts.rest; spoilt = parts.spoilt }, record { records = parts.records; spoilt = parts.spoilt })) ] in r.1.spoilt ≡ r.0.spoilt)
    by (Some why) e = e
    by None e = refl
