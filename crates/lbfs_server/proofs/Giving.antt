-- The records that an end of a link gave so far.
use Rattle.std.specs.Prelude.{◌≡◌, ℕ, List, [], ◌∷◌, ◌++◌, Bool, true, false, Option, Some, None}
use Rattle.std.proofs.Common.{refl, sym, ap, ◌∙◌, subst, append_assoc}
use Rattle.std.proofs.lemmas.List.{append-nil}
use Rattle.std.specs.Io.KnownBytes.{Consumes, Appends}
use Rattle.record_ends.specs.Ends.{Kept, coming, nothing_kept, Gives, Takes}
use Rattle.rpc_record.specs.declared.refusal.Refusal.{Refusal}
use Rattle.record_ends.proofs.lemmas.Coming.{consumes_more}
use Rattle.lb_base.specs.Known.{AppendsPrefix}
use Rattle.lb_base.proofs.lemmas.KnownLemmas.{appends_none, appends_more}
use Rattle.lbfs_server.specs.Ends.{Gave, IsSpoilt}
use Rattle.lbfs_server.specs.Given.{Given, Goes}

-- what was taken of what was to come, and what is kept of it
pub record Taken (before after : Option (List ℕ)) (kept : Kept) : Type 0 where
  pub bytes : List ℕ
  pub records : List (List ℕ)
  pub consumed : Consumes before after bytes
  pub gave : Gave nothing_kept bytes records kept

pub consumes_none : (a : Option (List ℕ)) → Consumes a a []
consumes_none None = tt
consumes_none (Some bytes) = refl

pub taken_none : (a : Option (List ℕ)) → Taken a a nothing_kept
taken_none a = record { bytes = []; records = []; consumed = consumes_none a; gave = λ more. refl }

pub gave_more : (a b c : Kept) (xs ys : List ℕ) (rs : List (List ℕ)) (r : List ℕ) → Gave a xs rs b → Gives b ys r c → Gave a (xs ++ ys) (rs ++ r ∷ []) c
gave_more a b c xs ys rs r first second = λ more.
    let moved : coming a ((xs ++ ys) ++ more) ≡ coming a (xs ++ (ys ++ more)) = ap (coming a) (append_assoc xs ys more) in
    let next : record (coming b (ys ++ more)) { records = rs ++ (coming b (ys ++ more)).records } ≡ record (coming c more) { records = rs ++ (r ∷ (coming c more).records) } = ap (λ p. record { records = rs ++ p.records; rest = p.rest; spoilt = p.spoilt }) (second more) in
    let joined : record (coming c more) { records = rs ++ (r ∷ (coming c more).records) } ≡ record (coming c more) { records = (rs ++ r ∷ []) ++ (coming c more).records } = ap (λ z. record { records = z; rest = (coming c more).rest; spoilt = (coming c more).spoilt }) (sym (append_assoc rs (r ∷ []) (coming c more).records)) in
    moved ∙ first (ys ++ more) ∙ next ∙ joined

-- the same where nothing was given of the bytes that were taken last
pub gave_no_more : (a b c : Kept) (xs ys : List ℕ) (rs : List (List ℕ)) → Gave a xs rs b → Takes b ys c → Gave a (xs ++ ys) rs c
gave_no_more a b c xs ys rs first second = λ more.
    let moved : coming a ((xs ++ ys) ++ more) ≡ coming a (xs ++ (ys ++ more)) = ap (coming a) (append_assoc xs ys more) in
    let next : record (coming b (ys ++ more)) { records = rs ++ (coming b (ys ++ more)).records } ≡ record (coming c more) { records = rs ++ (coming c more).records } = ap (λ p. record { records = rs ++ p.records; rest = p.rest; spoilt = p.spoilt }) (second more) in
    moved ∙ first (ys ++ more) ∙ next

pub taken_more : (before between after : Option (List ℕ)) (kept new : Kept) (bytes r : List ℕ) → Taken before between kept → Consumes between after bytes → Gives kept bytes r new → Taken before after new
taken_more before between after kept new bytes r w consumed gives = record {
  bytes = w.bytes ++ bytes;
  records = w.records ++ r ∷ [];
  consumed = consumes_more before between after w.bytes bytes w.consumed consumed;
  gave = gave_more nothing_kept kept new w.bytes bytes w.records r w.gave gives;
}

spoilt_some : (waiting : List (List ℕ)) (rest : List ℕ) (spoilt : Option Refusal) → ¬ (spoilt ≡ None) → ¬ ((coming (record { waiting = waiting; unread = record { rest = rest; spoilt = spoilt } }) []).spoilt ≡ None)
spoilt_some waiting rest (Some why) is = λ none. cc
spoilt_some waiting rest None is = absurd (is refl)

spoilt_stays : (kept : Kept) → ¬ (kept.unread.spoilt ≡ None) → ¬ ((coming kept []).spoilt ≡ None)
spoilt_stays kept is = spoilt_some kept.waiting kept.unread.rest kept.unread.spoilt is

pub taken_spoilt : (before between after : Option (List ℕ)) (kept new : Kept) (bytes : List ℕ) → Taken before between kept → Consumes between after bytes → Takes kept bytes new → ¬ (new.unread.spoilt ≡ None) → IsSpoilt before after
taken_spoilt before between after kept new bytes w consumed takes spoilt =
    let all : List ℕ = w.bytes ++ bytes in
    let whole : coming nothing_kept (w.bytes ++ (bytes ++ [])) ≡ record (coming kept (bytes ++ [])) { records = w.records ++ (coming kept (bytes ++ [])).records } = w.gave (bytes ++ []) in
    let ended : (coming nothing_kept (w.bytes ++ (bytes ++ []))).spoilt ≡ (coming new []).spoilt = ap (λ p. p.spoilt) whole ∙ ap (λ p. p.spoilt) (takes []) in
    let same : (coming nothing_kept (w.bytes ++ bytes)).spoilt ≡ (coming new []).spoilt = ap (λ z. (coming nothing_kept (w.bytes ++ z)).spoilt) (sym (append-nil bytes)) ∙ ended in
    (all, consumes_more before between after w.bytes bytes w.consumed consumed, λ none. spoilt_stays new spoilt (sym same ∙ none))

-- ---- what was given

-- all is a front, and so is nothing
pub whole_front : (before after : Option (List ℕ)) (bytes : List ℕ) → Appends before after bytes → AppendsPrefix before after bytes
whole_front before after bytes all = (bytes, [], append-nil bytes, all)

pub given_whole : (follows : Bool) (before after : Option (List ℕ)) (bytes : List ℕ) → Appends before after bytes → Given follows before after bytes
given_whole true before after bytes all = all
given_whole false before after bytes all = whole_front before after bytes all

pub none_given : (before after : Option (List ℕ)) (bytes : List ℕ) → after ≡ before → Given false before after bytes
none_given before after bytes same = ([], bytes, refl, subst (λ z. Appends before z []) (sym same) (appends_none before))

-- a front of what goes behind something is a front of all
front_more : (a b c : Option (List ℕ)) (xs ys : List ℕ) → Appends a b xs → AppendsPrefix b c ys → AppendsPrefix a c (xs ++ ys)
front_more a b c xs ys all front = (xs ++ front.0, front.1, append_assoc xs front.0 front.1 ∙ ap (λ z. xs ++ z) front.2, appends_more a b c xs front.0 all front.3)

-- a front is one of more, too
front_of_more : (a b : Option (List ℕ)) (xs ys : List ℕ) → AppendsPrefix a b xs → AppendsPrefix a b (xs ++ ys)
front_of_more a b xs ys front = (front.0, front.1 ++ ys, sym (append_assoc front.0 front.1 ys) ∙ ap (λ z. z ++ ys) front.2, front.3)

given_more : (follows : Bool) (a b c : Option (List ℕ)) (xs ys : List ℕ) → Appends a b xs → Given follows b c ys → Given follows a c (xs ++ ys)
given_more true a b c xs ys all given = appends_more a b c xs ys all given
given_more false a b c xs ys all given = front_more a b c xs ys all given

goes_more_of : (between follows : Bool) (a b c : Option (List ℕ)) (xs ys : List ℕ) → Given between a b xs → Goes between follows b c ys → Given follows a c (xs ++ ys)
goes_more_of true follows a b c xs ys first second = given_more follows a b c xs ys first second
goes_more_of false follows a b c xs ys first second = subst (λ f. Given f a c (xs ++ ys)) (sym second.0) (subst (λ z. AppendsPrefix a z (xs ++ ys)) (sym second.1) (front_of_more a b xs ys first))

not_false : true ≡ false → ⊥
not_false e = cc

nothing_goes : (between follows : Bool) (b c : Option (List ℕ)) (ys : List ℕ) → between ≡ false → Goes between follows b c ys → (follows ≡ false) × (c ≡ b)
nothing_goes true follows b c ys is goes = absurd (not_false is)
nothing_goes false follows b c ys is goes = goes

-- what goes to a link behind something else
pub goes_more : (may between follows : Bool) (a b c : Option (List ℕ)) (xs ys : List ℕ) → Goes may between a b xs → Goes between follows b c ys → Goes may follows a c (xs ++ ys)
goes_more true between follows a b c xs ys first second = goes_more_of between follows a b c xs ys first second
goes_more false between follows a b c xs ys first second = let none = nothing_goes between follows b c ys first.0 second in (none.0, none.1 ∙ first.1)

pub goes_none : (may : Bool) (a : Option (List ℕ)) → Goes may may a a []
goes_none true a = appends_none a
goes_none false a = (refl, refl)
