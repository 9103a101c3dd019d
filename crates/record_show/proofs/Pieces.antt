-- A stream that comes in pieces has the lines of the whole.
use Rattle.std.proofs.Common.{◌≡◌, ℕ, List, [], ◌++◌, length, Option, Some, None, refl, sym, ap, ◌∙◌, append_assoc}
use Rattle.std.specs.List.{flat_map}
use Rattle.std.proofs.lemmas.List.{append-nil}
use Rattle.std.proofs.lemmas.Grind.{flat_map-append}
use Rattle.rpc_record.specs.declared.refusal.Refusal.{Refusal}
use Rattle.rpc_record.specs.declared.records.Fed.{Fed}
use Rattle.rpc_record.specs.Records.{Parts, Unread, split, fed, nothing_read, continued}
use Rattle.rpc_record.proofs.lemmas.Splitting.{split_cut}
use Rattle.record_show.specs.Show.{record_text, end_text, shown}

abbrev unread_of : Parts → Unread
unread_of p = record { rest = p.rest; spoilt = p.spoilt }

abbrev lines_of : List (List ℕ) → List ℕ
lines_of records = flat_map record_text records

abbrev parts : List (List ℕ) → List ℕ → Option Refusal → Parts
parts records rest spoilt = record { records = records; rest = rest; spoilt = spoilt }

-- of the input some bytes came, and the lines of their records were written
pub record SoFar (input : List ℕ) (unread : Unread) (text left : List ℕ) : Type 0 where
  pub came : List ℕ
  pub whole : came ++ left ≡ input
  pub unread_is : unread_of (split came) ≡ unread
  pub lines : text ≡ lines_of (split came).records

pub so_far_none : (input : List ℕ) → SoFar input nothing_read [] input
so_far_none input = record { came = []; whole = refl; unread_is = refl; lines = refl }

-- ---- what a piece makes of the parts before it

state_by : (records : List (List ℕ)) (rest : List ℕ) (o : Option Refusal) (piece : List ℕ) → unread_of (continued (parts records rest o) piece) ≡ (fed (unread_of (parts records rest o)) piece).0
state_by records rest None piece = refl
state_by records rest (Some why) piece = refl

lines_by : (records : List (List ℕ)) (rest : List ℕ) (o : Option Refusal) (piece : List ℕ) → lines_of records ++ lines_of (fed (unread_of (parts records rest o)) piece).1.records ≡ lines_of (continued (parts records rest o) piece).records
lines_by records rest None piece = sym (flat_map-append record_text records (split (rest ++ piece)).records)
lines_by records rest (Some why) piece = append-nil (lines_of records)

spoilt_by : (rest : List ℕ) (o : Option Refusal) (piece : List ℕ) → (fed (record { rest = rest; spoilt = o }) piece).1.spoilt ≡ (fed (record { rest = rest; spoilt = o }) piece).0.spoilt
spoilt_by rest None piece = refl
spoilt_by rest (Some why) piece = refl

pub so_far_more : (input : List ℕ) (unread : Unread) (text piece left : List ℕ) (later : Unread) (given : Fed) → SoFar input unread text (piece ++ left) → fed unread piece ≡ (later, given) → SoFar input later (text ++ lines_of given.records) left
so_far_more input unread text piece left later given k e =
    let before : Parts = split k.came in
    let cut : split (k.came ++ piece) ≡ continued before piece = split_cut k.came piece in
    let step : fed (unread_of before) piece ≡ (later, given) = ap (λ (u : Unread). fed u piece) k.unread_is ∙ e in
    record {
      came = k.came ++ piece;
      whole = append_assoc k.came piece left ∙ k.whole;
      unread_is = ap unread_of cut ∙ state_by before.records before.rest before.spoilt piece ∙ ap (λ (p : Unread × Fed). p.0) step;
      lines =
          ap (λ (t : List ℕ). t ++ lines_of given.records) k.lines
          ∙ ap (λ (p : Unread × Fed). lines_of before.records ++ lines_of p.1.records) (sym step)
          ∙ lines_by before.records before.rest before.spoilt piece
          ∙ ap (λ (p : Parts). lines_of p.records) (sym cut);
    }

-- what is told with the records is what is kept
pub spoilt_same : (unread : Unread) (piece : List ℕ) (later : Unread) (given : Fed) → fed unread piece ≡ (later, given) → given.spoilt ≡ later.spoilt
spoilt_same unread piece later given e = ap (λ (p : Unread × Fed). p.1.spoilt) (sym e) ∙ spoilt_by unread.rest unread.spoilt piece ∙ ap (λ (p : Unread × Fed). p.0.spoilt) e

-- all has come
pub so_far_all : (input : List ℕ) (unread : Unread) (text : List ℕ) → SoFar input unread text [] → text ++ end_text unread.spoilt (length unread.rest) ≡ shown input
so_far_all input unread text k =
    ap (λ (t : List ℕ). t ++ end_text unread.spoilt (length unread.rest)) k.lines
    ∙ ap (λ (u : Unread). lines_of (split k.came).records ++ end_text u.spoilt (length u.rest)) (sym k.unread_is)
    ∙ ap shown (sym (append-nil k.came) ∙ k.whole)
