-- What `clap` tells of the words `shell` and `share`.
use Rattle.std.proofs.Common.{◌≡◌, ◌⊎◌, ◌&&◌, ℕ, Bool, true, false, List, [], ◌∷◌, map, Option, Some, None, refl, sym, ap, ◌∙◌, inl, inr}
use Rattle.std.specs.Borrow.{Bor}
use Rattle.std.specs.Option.{option_map}
use Rattle.clap.proofs.WalkLemmas.{raw_values-rows}
use Rattle.clap.specs.Words.{App, IsAmong, Kinds, Row, Text, all_of, fault_of, matched_of, raw_values, rows_of, subcommand_of, is_simple, is_simple_and_free}
use Rattle.clap.specs.declared.error.kind.ErrorKind.{ErrorKind}
use Rattle.clap.specs.declared.error.kind.ErrorKind.TheVariants as kind
use Rattle.clap.specs.declared.parser.matches.Found.{Found}
use Rattle.program_words.specs.declared.front.Front.{Front}
use Rattle.program_words.specs.FrontLine.{front}
use Rattle.program_words.specs.FrontRows.{front_told_by_clap}
use Rattle.program_words.specs.Front.{values_in, values_of, front_entered_of, front_unless, front_of}

first_holds : (x y : Bool) → (x && y) ≡ true → x ≡ true
first_holds true y e = refl
first_holds false y e = cc

pub free : (a : App) → a ≡ front → is_simple_and_free a ≡ true
free a is = ap is_simple_and_free is ∙ front_told_by_clap

pub simple : (a : App) → a ≡ front → is_simple a ≡ true
simple a is = first_holds (is_simple a) _ (free a is)

-- no fault was found, and this command was met
pub by_matches : (a : App) (words : List Text) (met : Option (Text × List Row)) (said : Option Front) → a ≡ front → fault_of a words ≡ [] → met ≡ subcommand_of a words → said ≡ front_entered_of met → said ≡ front_of words
unfolding front_of
by_matches a words met said is none same read =
    read ∙ ap front_entered_of (same ∙ ap (λ (x : App). subcommand_of x words) is)
    ∙ sym (ap (λ (k : Kinds). front_unless k (front_entered_of (subcommand_of front words))) (sym (ap (λ (x : App). fault_of x words) is) ∙ none))

some_fault : (k : ErrorKind) (faults : Kinds) (said : Option Front) → IsAmong k faults → None ≡ front_unless faults said
some_fault k [] said h = absurd h
some_fault k (x ∷ xs) said h = refl

-- a fault was found
pub by_fault : (a : App) (words : List Text) (k : ErrorKind) → a ≡ front → ((k ≡ kind.OutOfMemory) → ⊥) → (k ≡ kind.OutOfMemory) ⊎ IsAmong k (fault_of a words) → None ≡ front_of words
unfolding front_of
by_fault a words k is other (inl e) = absurd (other e)
by_fault a words k is other (inr h) =
    some_fault k (fault_of a words) (front_entered_of (subcommand_of front words)) h ∙ ap (λ (x : App). front_unless (fault_of x words) (front_entered_of (subcommand_of front words))) is

-- ---- all words that an argument was given

-- what was found is what the rows have
pub values_found : (f : Found) (name : Text) (o : Option (Bor (List (Bor Text)))) → option_map (λ s. map (λ v. v.now) s.now) o ≡ option_map raw_values (matched_of f name) → option_map (λ s. map (λ v. v.now) s.now) o ≡ all_of name (rows_of f)
values_found f name o is = is ∙ raw_values-rows f name

pub values_there : (f : Found) (name : Text) (o : Option (Bor (List (Bor Text)))) (texts : Bor (List (Bor Text))) → option_map (λ s. map (λ v. v.now) s.now) o ≡ option_map raw_values (matched_of f name) → o ≡ Some texts → map (λ v. v.now) texts.now ≡ values_of name (rows_of f)
values_there f name o texts is there = ap (λ (x : Option (List Text)). values_in x) (sym (ap (option_map (λ s. map (λ v. v.now) s.now)) there) ∙ values_found f name o is)

pub values_wanting : (f : Found) (name : Text) (o : Option (Bor (List (Bor Text)))) → option_map (λ s. map (λ v. v.now) s.now) o ≡ option_map raw_values (matched_of f name) → o ≡ None → [] ≡ values_of name (rows_of f)
values_wanting f name o is none = ap (λ (x : Option (List Text)). values_in x) (sym (ap (option_map (λ s. map (λ v. v.now) s.now)) none) ∙ values_found f name o is)
