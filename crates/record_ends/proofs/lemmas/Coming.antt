-- What an end of a link gives, over several pieces.
use Rattle.std.proofs.Common.{◌≡◌, ℕ, List, [], ◌∷◌, ◌++◌, Option, Some, None, refl, sym, ap, ◌∙◌, append_assoc}
use Rattle.std.specs.Io.KnownBytes.{Consumes}
use Rattle.rpc_record.specs.Records.{Parts, fed, split, continued}
use Rattle.rpc_record.specs.declared.records.Fed.{Fed}
use Rattle.rpc_record.specs.declared.refusal.Refusal.{Refusal}
use Rattle.rpc_record.proofs.lemmas.Splitting.{split_cut}
use Rattle.record_ends.specs.Ends.{Kept, coming, Takes, Gives}

append_none : (xs : List (List ℕ)) → xs ++ [] ≡ xs
append_none [] = refl
append_none (x ∷ xs) = ap (λ z. x ∷ z) (append_none xs)

-- what more bytes make of some that were split is what an end with their records gives
continued_is : (records : List (List ℕ)) (rest : List ℕ) (spoilt : Option Refusal) (more : List ℕ) → continued (record { records = records; rest = rest; spoilt = spoilt }) more ≡ coming (record { waiting = records; unread = record { rest = rest; spoilt = spoilt } }) more
continued_is records rest (Some why) more = ap (λ z. record { records = z; rest = rest; spoilt = Some why }) (sym (append_none records))
continued_is records rest None more = refl

fed_then : (rest : List ℕ) (spoilt : Option Refusal) (piece more : List ℕ) → coming (record { waiting = []; unread = record { rest = rest; spoilt = spoilt } }) (piece ++ more) ≡ coming (record { waiting = (fed (record { rest = rest; spoilt = spoilt }) piece).1.records; unread = (fed (record { rest = rest; spoilt = spoilt }) piece).0 }) more
fed_then rest (Some why) piece more = refl
fed_then rest None piece more =
    let parts : Parts = split (rest ++ piece) in
    let whole : split (rest ++ (piece ++ more)) ≡ continued parts more = ap split (sym (append_assoc rest piece more)) ∙ split_cut (rest ++ piece) more in
    whole ∙ continued_is parts.records parts.rest parts.spoilt more

-- a piece that was fed to an end with no record waiting
pub takes_piece : (old new : Kept) (piece : List ℕ) (given : Fed) → old.waiting ≡ [] → fed old.unread piece ≡ (new.unread, given) → new.waiting ≡ given.records → Takes old piece new
takes_piece old new piece given none is same =
    λ more.
    ap (λ ws. coming (record { waiting = ws; unread = old.unread }) (piece ++ more)) none
    ∙ fed_then old.unread.rest old.unread.spoilt piece more
    ∙ ap (λ s. coming (record { waiting = s.1.records; unread = s.0 }) more) is
    ∙ ap (λ ws. coming (record { waiting = ws; unread = new.unread }) more) (sym same)

pub takes_none : (k : Kept) → Takes k [] k
takes_none k = λ more. refl

-- some bytes, and then some more
pub takes_more : (a b c : Kept) (xs ys : List ℕ) → Takes a xs b → Takes b ys c → Takes a (xs ++ ys) c
takes_more a b c xs ys p q = λ more. ap (coming a) (append_assoc xs ys more) ∙ p (ys ++ more) ∙ q more

-- the first record that waits is given
pub gives_first : (old held new : Kept) (bytes r : List ℕ) → Takes old bytes held → held.waiting ≡ r ∷ new.waiting → new.unread ≡ held.unread → Gives old bytes r new
gives_first old held new bytes r took first same =
    λ more.
    took more
    ∙ ap (λ ws. coming (record { waiting = ws; unread = held.unread }) more) first
    ∙ ap (λ u. coming (record { waiting = r ∷ new.waiting; unread = u }) more) (sym same)

-- known bytes begin with some, and then with more
pub consumes_more : (a b c : Option (List ℕ)) (xs ys : List ℕ) → Consumes a b xs → Consumes b c ys → Consumes a c (xs ++ ys)
consumes_more None b c xs ys p q = tt
consumes_more (Some us) None c xs ys p q = absurd p
consumes_more (Some us) (Some bs) None xs ys p q = absurd q
consumes_more (Some us) (Some bs) (Some cs) xs ys p q = p ∙ ap (λ z. xs ++ z) q ∙ sym (append_assoc xs ys cs)
