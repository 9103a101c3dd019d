-- Worked rows of lines: which records come of bytes that are cut, which parts lines have, which version clients speak, and that a delivery which brings nothing is
-- none.
use Rattle.std.specs.Prelude.{◌≡◌, ℕ, List, [], ◌∷◌, ◌++◌, map, codes, refl}
use Rattle.std.proofs.Common.{ap, arith}
use Rattle.command_text.specs.Parts.{lines_of}
use Rattle.rpc_record.specs.Records.{record_of, marked}
use Rattle.trace_text.specs.declared.line.Amount.TheVariants as amount
use Rattle.trace_text.specs.declared.line.Line.TheVariants as line
use Rattle.trace_text.specs.declared.line.Who.TheVariants as who
use Rattle.trace_ends.specs.Core.{Core, Event.Cuts}
use Rattle.trace_ends.specs.Session.{Seat, new_seat}
use Rattle.trace_replay.specs.Chained.{Up, Down, Delivery, brought, records_in, event_at, nothing_sent, nothing_came, IsDelivered, Speaks, Grants, Drifts, Clients, Tells, Changes, Brings, parts_of, HasMoments}

-- two records of a byte each, five bytes on their way each
abbrev two : List ℕ
two = marked (7 ∷ []) ++ marked (8 ∷ [])

-- four bytes complete none, a fifth the first, and however many more there are they complete the second with the rest
pub come_cut : map (λ a. records_in Up (brought a 0 two)) (amount.Bytes 4 ∷ amount.Bytes 5 ∷ amount.Bytes 9 ∷ amount.All ∷ []) ≡ [] ∷ ((7 ∷ []) ∷ []) ∷ ((7 ∷ []) ∷ []) ∷ ((7 ∷ []) ∷ (8 ∷ []) ∷ []) ∷ []
unfolding record_of
come_cut = refl

-- a record that is too long is no message, and ends what the server takes
pub come_spoilt : (records_in Up (marked (7 ∷ []) ++ 255 ∷ 255 ∷ 255 ∷ 255 ∷ [])) ≡ (7 ∷ []) ∷ [] ∷ []
unfolding record_of
come_spoilt = refl

-- behind bytes that came the next ones come, and no more than there are
pub come_next : map (λ a. brought a 6 two) (amount.Bytes 1 ∷ amount.Bytes 9 ∷ amount.All ∷ []) ≡ (0 ∷ []) ∷ (0 ∷ 0 ∷ 1 ∷ 8 ∷ []) ∷ (0 ∷ 0 ∷ 1 ∷ 8 ∷ []) ∷ []
come_next = refl

-- a pass is so many deliveries up and down, and a line that clears an index changes that, and is no event
pub parts_told : parts_of (lines_of (codes "clients 1\npass 1 1 5 6\nclear server\ncut 1 7\n"))
    ≡ Clients 1 ∷ Brings (record { side = Up; session = 1; amount = amount.All; now = 5 }) ∷ Brings (record { side = Down; session = 1; amount = amount.All; now = 6 }) ∷ Changes (line.Clear who.Server) ∷ Tells (Cuts 1) ∷ []
parts_told = refl

abbrev all_up : Delivery
all_up = record { side = Up; session = 1; amount = amount.All; now = 5 }

-- so a world in which nothing comes of a delivery of these two records isn't what its lines say
pub nothing_comes_is_wrong : (k : Core) → IsDelivered two 0 k all_up [] k → ⊥
unfolding record_of
nothing_comes_is_wrong k h = by h.records h.events h.complete
  where
    by : (records : List (List ℕ)) → [] ≡ map (event_at Up 1 5) records → (7 ∷ []) ∷ (8 ∷ []) ∷ [] ≡ records → ⊥
    by [] events complete = absurd cc
    by (r ∷ rs) events complete = absurd cc

-- what the header says
pub header_told : parts_of (lines_of (codes "lbfs-trace 1\nterm 5\ndrift 6\nclients 2\n")) ≡ Speaks 1 ∷ Grants 5 ∷ Drifts 6 ∷ Clients 2 ∷ []
header_told = refl

-- clients come with the version of LBFS that was said, and not with another
pub speaks_so : (k : Core) → HasMoments nothing_sent nothing_came k (Speaks 4) [] (record k { lbfs = 4 })
speaks_so k = (refl, refl)

pub comes_so : (k : Core) → HasMoments nothing_sent nothing_came (record k { drift = 5; lbfs = 4 }) (Clients 1) [] (record k { drift = 5; lbfs = 4; seats = new_seat 5 4 ∷ [] })
comes_so k = (refl, refl)

speaks_another : (k : Core) → HasMoments nothing_sent nothing_came (record k { drift = 5; lbfs = 4 }) (Clients 1) [] (record k { drift = 5; lbfs = 4; seats = new_seat 5 1 ∷ [] }) → ⊥
speaks_another k h = let same : 1 ≡ 4 = ap (λ (c : Core). first c.seats) h.1 in absurd (omega (arith, same))
  where
    first : List Seat → ℕ
    first [] = 0
    first (s ∷ ss) = s.client.lbfs
