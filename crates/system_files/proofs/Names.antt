-- The names of records' files.
use Rattle.std.proofs.Common.{◌≡◌, ℕ, List, [], ◌++◌, true, Option, Some, None, refl, ap, ◌∙◌, length, ◌<◌, arith}
use Rattle.std.specs.Cmp.Lexicographic.{bytes_decides}
use Rattle.std.specs.Str.{bytes_eq}
use Rattle.std.proofs.lemmas.List.{append-nil, nil_from_length}
use Rattle.std.specs.Prelude.{decimal}
use Rattle.command_text.specs.Fields.{number_of}
use Rattle.command_text.proofs.lemmas.Decimals.{number_again}
use Rattle.log_store.specs.declared.which.Which.{Which}
use Rattle.log_store.specs.declared.which.Which.TheVariants as which
use Rattle.system_files.specs.Names.{name_of, which_of, lettered_by, made_bytes, made_name, IsWord}

pub name_again : (one : Which) → IsWord one → which_of (name_of one) ≡ Some one
name_again which.Head fits = refl
name_again (which.Node id) fits = ap (λ (o : Option ℕ). lettered_by 110 o) (number_again id fits)
name_again (which.Content id) fits = ap (λ (o : Option ℕ). lettered_by 99 o) (number_again id fits)

no_letter : (o : Option ℕ) → lettered_by 109 o ≡ None
no_letter None = refl
no_letter (Some id) = refl

-- the second name of a content's file is that of no record
pub made_is_none : (id : ℕ) → which_of (made_name id) ≡ None
made_is_none id = no_letter (number_of (decimal id))

pub made_front : (front body : List ℕ) → bytes_eq front made_bytes ≡ true → length body < 1 → front ++ body ≡ made_bytes
made_front front body is none = ap (λ (l : List ℕ). front ++ l) (nil_from_length body (omega (arith, none))) ∙ append-nil front ∙ (bytes_decides front made_bytes).0 is

pub made_body : (front body : List ℕ) → bytes_eq body made_bytes ≡ true → length front ≡ 0 → front ++ body ≡ made_bytes
made_body front body is none = ap (λ (l : List ℕ). l ++ body) (nil_from_length front none) ∙ (bytes_decides body made_bytes).0 is
