-- A queue in pieces, and what an end is given of it.
use Rattle.std.proofs.Common.{◌≡◌, ◌≢◌, ℕ, suc, ◌+◌, ◌-◌, ◌<◌, ◌≤◌, List, [], ◌∷◌, ◌++◌, length, take, drop, true, false, slice_index_or, refl, sym, ap, ◌∙◌, subst, arith, append_assoc, length-append}
use Rattle.std.specs.Prelude.{nat_lt, Option, Some, None}
use Rattle.std.specs.List.{concat}
use Rattle.std.proofs.lemmas.List.{length-drop, drop_all, append-nil, take-append-le, drop-append-le, take_at, drop_at}
use Rattle.std.proofs.lemmas.List.Folds.{concat-append}
use Rattle.rpc_record.specs.Records.{Unread, fed}
use Rattle.trace_wires.specs.declared.queue.Given.{Given}
use Rattle.trace_wires.specs.Queue.{is_none, IsGiven, IsNext}

abbrev pub AllSome : List (List ℕ) → Type 0
AllSome pieces = (k : ℕ) (d : List ℕ) → k < length pieces → 0 < length (slice_index_or pieces k d)

pub some_first : (piece : List ℕ) (pieces : List (List ℕ)) → AllSome (piece ∷ pieces) → 0 < length piece
some_first piece pieces some = some 0 [] (omega arith)

pub some_others : (piece : List ℕ) (pieces : List (List ℕ)) → AllSome (piece ∷ pieces) → AllSome pieces
some_others piece pieces some k d lt = some (suc k) d (omega (arith, lt))

-- the bytes of a queue
abbrev pub bytes_in : List ℕ → ℕ → List (List ℕ) → List ℕ
bytes_in begun done behind = drop done begun ++ concat behind

-- where the first piece is done with
pub none_begun : (begun : List ℕ) (done : ℕ) (behind : List (List ℕ)) → length begun ≤ done → bytes_in begun done behind ≡ concat behind
none_begun begun done behind le = ap (λ (z : List ℕ). z ++ concat behind) (drop_all done begun le)

pub put_behind : (begun piece : List ℕ) (done : ℕ) (behind : List (List ℕ)) → bytes_in begun done (behind ++ piece ∷ []) ≡ bytes_in begun done behind ++ piece
put_behind begun piece done behind =
    ap (λ (z : List ℕ). drop done begun ++ z) (concat-append behind (piece ∷ []) ∙ ap (λ (z : List ℕ). concat behind ++ z) (append-nil piece))
    ∙ sym (append_assoc (drop done begun) (concat behind) piece)

-- whether there are any
pub is_none_some : (bytes others : List ℕ) → 0 < length bytes → is_none (bytes ++ others) ≡ false
is_none_some [] others lt = absurd (omega (arith, lt))
is_none_some (b ∷ bytes) others lt = refl

pub is_none_begun : (begun : List ℕ) (done : ℕ) (behind : List (List ℕ)) → done < length begun → is_none (bytes_in begun done behind) ≡ false
is_none_begun begun done behind lt = is_none_some (drop done begun) (concat behind) (omega (arith, lt, length-drop done begun))

pub is_none_pieces : (begun : List ℕ) (done : ℕ) (behind : List (List ℕ)) → length begun ≤ done → AllSome behind → true ≡ nat_lt 0 (length behind) → is_none (bytes_in begun done behind) ≡ false
is_none_pieces begun done [] le some lt = absurd cc
is_none_pieces begun done (piece ∷ pieces) le some lt = ap is_none (none_begun begun done (piece ∷ pieces) le) ∙ is_none_some piece (concat pieces) (some_first piece pieces some)

-- a part of what stands at the front
pub part_given : (before after others : List ℕ) (end then : Unread) (most : ℕ) (g : Given) → IsGiven before after end then most g → IsGiven (before ++ others) (after ++ others) end then most g
part_given before after others end then most g i =
    let same : take g.count (before ++ others) ≡ take g.count before = take-append-le g.count before others i.within in
    record {
      some = i.some;
      few = i.few;
      within = omega (arith, i.within, length-append before others);
      rest = ap (λ (z : List ℕ). z ++ others) i.rest ∙ sym (drop-append-le g.count before others i.within);
      kept = i.kept ∙ ap (λ (z : List ℕ). (fed end z).0) (sym same);
      records = i.records ∙ ap (λ (z : List ℕ). (fed end z).1.records) (sym same);
    }

-- the bytes of a queue whose first piece is done with
pub next_piece : (begun piece : List ℕ) (done : ℕ) (old pieces : List (List ℕ)) → length begun ≤ done → old ≡ piece ∷ pieces → bytes_in begun done old ≡ piece ++ concat pieces
next_piece begun piece done old pieces le is = none_begun begun done old le ∙ ap concat is

pub piece_begun : (begun piece after : List ℕ) (done : ℕ) (old pieces : List (List ℕ)) (end then : Unread) (most : ℕ) (g : Given) → length begun ≤ done → old ≡ piece ∷ pieces → IsGiven (drop 0 piece) after end then most g
    → IsGiven (bytes_in begun done old) (after ++ concat pieces) end then most g
piece_begun begun piece after done old pieces end then most g le is i =
    subst (λ (z : List ℕ). IsGiven z (after ++ concat pieces) end then most g) (sym (next_piece begun piece done old pieces le is)) (part_given piece after (concat pieces) end then most g i)

pub piece_given : (begun piece before : List ℕ) (done : ℕ) (old pieces : List (List ℕ)) (end then : Unread) (most : ℕ) (g : Given) → length begun ≤ done → AllSome old → old ≡ piece ∷ pieces → length piece ≤ most
    → g.count ≡ length piece → then ≡ (fed end piece).0 → g.records ≡ (fed end piece).1.records → bytes_in begun done old ≡ before → IsGiven before (bytes_in begun done pieces) end then most g
piece_given begun piece before done old pieces end then most g le some is few count kept records held =
    let front : before ≡ piece ++ concat pieces = sym held ∙ next_piece begun piece done old pieces le is in
    let first : take g.count before ≡ piece = ap (take g.count) front ∙ take_at piece (concat pieces) g.count (sym count) in
    record {
      some = omega (arith, some_first piece pieces (subst AllSome is some), count);
      few = omega (arith, few, count);
      within = omega (arith, count, ap length front, length-append piece (concat pieces));
      rest = none_begun begun done pieces le ∙ sym (ap (drop g.count) front ∙ drop_at piece (concat pieces) g.count (sym count));
      kept = kept ∙ ap (λ (z : List ℕ). (fed end z).0) (sym first);
      records = records ∙ ap (λ (z : List ℕ). (fed end z).1.records) (sym first);
    }

-- what came next, by its case
pub given_of : (before after : List ℕ) (end then : Unread) (most : ℕ) (o : Option Given) (g : Given) → IsNext before after end then most o → o ≡ Some g → IsGiven before after end then most g
given_of before after end then most o g next is = subst (IsNext before after end then most) is next

pub none_of : (before after : List ℕ) (end then : Unread) (most : ℕ) (o : Option Given) → IsNext before after end then most o → ((g : Given) → o ≢ Some g) → (before ≡ []) × (after ≡ []) × (then ≡ end)
none_of before after end then most None next not_some = next
none_of before after end then most (Some g) next not_some = absurd (not_some g refl)
