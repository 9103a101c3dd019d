-- What `clap` tells of the program's words.
use Rattle.std.proofs.Common.{◌≡◌, ◌⊎◌, ◌&&◌, Bool, true, false, List, [], ◌∷◌, Option, None, refl, sym, ap, ◌∙◌, inl, inr}
use Rattle.clap.specs.Words.{App, IsAmong, Kinds, Row, Text, fault_of, subcommand_of, is_simple, is_simple_and_free}
use Rattle.clap.specs.declared.error.kind.ErrorKind.{ErrorKind}
use Rattle.clap.specs.declared.error.kind.ErrorKind.TheVariants as kind
use Rattle.program_words.specs.declared.asked.Asked.{Asked}
use Rattle.program_words.specs.Line.{lbfs}
use Rattle.program_words.specs.Rows.{told_by_clap}
use Rattle.program_words.specs.Words.{entered_of, unless_fault, asked_of}

first_holds : (x y : Bool) → (x && y) ≡ true → x ≡ true
first_holds true y e = refl
first_holds false y e = cc

pub free : (a : App) → a ≡ lbfs → is_simple_and_free a ≡ true
free a is = ap is_simple_and_free is ∙ told_by_clap

pub simple : (a : App) → a ≡ lbfs → is_simple a ≡ true
simple a is = first_holds (is_simple a) _ (free a is)

-- no fault was found, and this command was met
pub by_matches : (a : App) (words : List Text) (met : Option (Text × List Row)) (said : Option Asked) → a ≡ lbfs → fault_of a words ≡ [] → met ≡ subcommand_of a words → said ≡ entered_of met → said ≡ asked_of words
unfolding asked_of
by_matches a words met said is none same read =
    read ∙ ap entered_of (same ∙ ap (λ (x : App). subcommand_of x words) is)
    ∙ sym (ap (λ (k : Kinds). unless_fault k (entered_of (subcommand_of lbfs words))) (sym (ap (λ (x : App). fault_of x words) is) ∙ none))

some_fault : (k : ErrorKind) (faults : Kinds) (said : Option Asked) → IsAmong k faults → None ≡ unless_fault faults said
some_fault k [] said h = absurd h
some_fault k (x ∷ xs) said h = refl

-- a fault was found
pub by_fault : (a : App) (words : List Text) (k : ErrorKind) → a ≡ lbfs → ((k ≡ kind.OutOfMemory) → ⊥) → (k ≡ kind.OutOfMemory) ⊎ IsAmong k (fault_of a words) → None ≡ asked_of words
unfolding asked_of
by_fault a words k is other (inl e) = absurd (other e)
by_fault a words k is other (inr h) =
    some_fault k (fault_of a words) (entered_of (subcommand_of lbfs words)) h ∙ ap (λ (x : App). unless_fault (fault_of x words) (entered_of (subcommand_of lbfs words))) is
