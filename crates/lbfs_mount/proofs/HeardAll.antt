-- Records that a connection's thread gave to the client.
use Rattle.std.specs.Prelude.{◌≡◌, ℕ, ◌≤◌, List, [], ◌∷◌, ◌++◌, Option, None, Bool}
use Rattle.std.proofs.Common.{refl, sym, ap, ◌∙◌, append_assoc}
use Rattle.std.proofs.lemmas.List.Elements.{All-nil, All-push}
use Rattle.std.specs.Io.KnownBytes.{Consumes, IsAtEnd}
use Rattle.lb_base.specs.Causes.{Rose}
use Rattle.record_ends.specs.Ends.{Kept, coming, Gives, Takes}
use Rattle.record_ends.specs.declared.end.End.{End}
use Rattle.record_ends.specs.declared.end.End.TheVariants as ends
use Rattle.lbfs_mount.specs.Heard.{Gave, IsHeard, HearsAll, HearsTill}
use Rattle.lbfs_mount.proofs.Coming.{consumes_more, consumes_none}
use Rattle.lbfs_mount.proofs.Progress.{rose_more}

-- ---- records

gave_more : (a b c : Kept) (xs ys : List ℕ) (rs : List (List ℕ)) (r : List ℕ) → Gave a xs rs b → Gives b ys r c → Gave a (xs ++ ys) (rs ++ r ∷ []) c
gave_more a b c xs ys rs r first second = λ more.
    let moved : coming a ((xs ++ ys) ++ more) ≡ coming a (xs ++ (ys ++ more)) = ap (coming a) (append_assoc xs ys more) in
    let next : record (coming b (ys ++ more)) { records = rs ++ (coming b (ys ++ more)).records } ≡ record (coming c more) { records = rs ++ (r ∷ (coming c more).records) } = ap (λ p. record { records = rs ++ p.records; rest = p.rest; spoilt = p.spoilt }) (second more) in
    let joined : record (coming c more) { records = rs ++ (r ∷ (coming c more).records) } ≡ record (coming c more) { records = (rs ++ r ∷ []) ++ (coming c more).records } = ap (λ z. record { records = z; rest = (coming c more).rest; spoilt = (coming c more).spoilt }) (sym (append_assoc rs (r ∷ []) (coming c more).records)) in
    moved ∙ first (ys ++ more) ∙ next ∙ joined

-- the same where nothing was given of the bytes that were taken last
gave_no_more : (a b c : Kept) (xs ys : List ℕ) (rs : List (List ℕ)) → Gave a xs rs b → Takes b ys c → Gave a (xs ++ ys) rs c
gave_no_more a b c xs ys rs first second = λ more.
    let moved : coming a ((xs ++ ys) ++ more) ≡ coming a (xs ++ (ys ++ more)) = ap (coming a) (append_assoc xs ys more) in
    let next : record (coming b (ys ++ more)) { records = rs ++ (coming b (ys ++ more)).records } ≡ record (coming c more) { records = rs ++ (coming c more).records } = ap (λ p. record { records = rs ++ p.records; rest = p.rest; spoilt = p.spoilt }) (second more) in
    moved ∙ first (ys ++ more) ∙ next

module _ {D : Type 0} (hears : D → ℕ → List ℕ → Bool → ℕ → Bool → D → Type 0) (connection : ℕ) where
  pub hears_none : (left : Option (List ℕ)) (kept : Kept) → HearsAll hears connection left left kept kept
  hears_none left kept = record { bytes = []; records = []; consumed = consumes_none left; gave = λ more. refl; heard = All-nil (IsHeard hears connection) }

  pub hears_more : (before between after : Option (List ℕ)) (kept mid new : Kept) (bytes r : List ℕ) → HearsAll hears connection before between kept mid → Consumes between after bytes → Gives mid bytes r new → IsHeard hears connection r
      → HearsAll hears connection before after kept new
  hears_more before between after kept mid new bytes r all consumed gives heard = record {
    bytes = all.bytes ++ bytes;
    records = all.records ++ r ∷ [];
    consumed = consumes_more before between after all.bytes bytes all.consumed consumed;
    gave = gave_more kept mid new all.bytes bytes all.records r all.gave gives;
    heard = All-push (IsHeard hears connection) all.records r all.heard heard;
  }

  hears_to_end : (before between after : Option (List ℕ)) (kept mid new : Kept) (bytes : List ℕ) → HearsAll hears connection before between kept mid → Consumes between after bytes → Takes mid bytes new → HearsAll hears connection before after kept new
  hears_to_end before between after kept mid new bytes all consumed takes = record {
    bytes = all.bytes ++ bytes;
    records = all.records;
    consumed = consumes_more before between after all.bytes bytes all.consumed consumed;
    gave = gave_no_more kept mid new all.bytes bytes all.records all.gave takes;
    heard = all.heard;
  }

  -- a loop over the records of a link ends with the end that came
  pub hears_till : (before between after : Option (List ℕ)) (faults later faults' : ℕ) (kept mid new : Kept) (end : End) → HearsAll hears connection before between kept mid → faults ≤ later
      → (end ≡ ends.InputEnd → (bytes : List ℕ) × Consumes between after bytes × Takes mid bytes new × IsAtEnd after × (new.waiting ≡ []) × (new.unread.spoilt ≡ None))
      → (end ≡ ends.Failed → (bytes : List ℕ) × Consumes between after bytes × Takes mid bytes new × Rose later faults')
      → (end ≡ ends.Spoilt → (bytes : List ℕ) × Consumes between after bytes × Takes mid bytes new × (new.waiting ≡ []) × ¬ (new.unread.spoilt ≡ None))
      → HearsTill hears connection before after faults faults' kept new end
  hears_till before between after faults later faults' kept mid new ends.InputEnd all more ended failed spoilt = let e = ended refl in (hears_to_end before between after kept mid new e.0 all e.1 e.2, e.3, e.4)
  hears_till before between after faults later faults' kept mid new ends.Failed all more ended failed spoilt = let e = failed refl in (hears_to_end before between after kept mid new e.0 all e.1 e.2, rose_more faults later faults' more e.3)
  hears_till before between after faults later faults' kept mid new ends.Spoilt all more ended failed spoilt = let e = spoilt refl in (hears_to_end before between after kept mid new e.0 all e.1 e.2, e.3, e.4)
  hears_till before between after faults later faults' kept mid new ends.Memory all more ended failed spoilt = tt
