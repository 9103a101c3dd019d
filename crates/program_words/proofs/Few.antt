-- The number of blocks that words ask for is within its limit.
use Rattle.std.proofs.Common.{◌≡◌, ℕ, ◌≤◌, List, [], ◌∷◌, Bool, true, false, cond, Option, Some, None, codes, arith, refl, subst}
use Rattle.std.specs.Prelude.{◌&&◌, nat_le, bytes_eq}
use Rattle.std.proofs.lemmas.Bool.Decides.{nat_tests}
use Rattle.clap.specs.Words.{Kinds, Row, Text, fault_of, subcommand_of, first_of}
use Rattle.command_text.specs.Fields.{◌>>=◌, number_of, number_within}
use Rattle.limits.specs.declared.TheConstants.{TERM_MOST, DRIFT_MOST, SESSIONS_EVER_MOST}
use Rattle.trace_generator.specs.declared.TheConstants.{BLOCKS_MOST}
use Rattle.program_words.specs.declared.asked.TheConstants.{PORT_MOST, SEED_MOST, KEEP_MOST}
use Rattle.program_words.specs.declared.asked.View.{View}
use Rattle.program_words.specs.declared.asked.InputCommand.TheVariants as input
use Rattle.program_words.specs.declared.asked.SeedCommand.TheVariants as seeded
use Rattle.program_words.specs.declared.asked.Command.TheVariants.{OfInput, OfSeed}
use Rattle.program_words.specs.declared.asked.Asked.{Asked}
use Rattle.program_words.specs.declared.asked.Asked.TheVariants as asked
use Rattle.program_words.specs.Line.{lbfs}
use Rattle.program_words.specs.Words.{given, if_given, is_set, view_of, replay_with, replay_of, gen_of, serve_with, serve_of, mount_of, check_of, named_of, entered_of, unless_fault, asked_of, command_in, IsFew}

-- of what is there, if it is
abbrev Holds : {A : Type 0} → (A → Type 0) → Option A → Type 0
Holds P None = Unit {0}
Holds P (Some x) = P x

by_test : {A : Type 0} (P : A → Type 0) (b : Bool) (x y : Option A) → Holds P x → Holds P y → Holds P (cond b x y)
by_test P true x y h k = h
by_test P false x y h k = k

by_value : {A B : Type 0} (P : B → Type 0) (o : Option A) (f : A → Option B) → ((a : A) → o ≡ Some a → Holds P (f a)) → Holds P (o >>= f)
by_value P None f h = tt
by_value P (Some a) f h = h a refl

there : {A : Type 0} (P : A → Type 0) (o : Option A) (x : A) → Holds P o → o ≡ Some x → P x
there P o x h e = subst (λ p. Holds P p) e h

-- a number within a range is
high_of : (high : ℕ) (n m : ℕ) (b : Bool) → nat_le n high ≡ b → cond (nat_le 1 n && b) (Some n) None ≡ Some m → m ≤ high
high_of high n m true h e = by (nat_le 1 n) e
  where
    by : (c : Bool) → cond (c && true) (Some n) None ≡ Some m → m ≤ high
    by true k = let same : n ≡ m = cc in grind (arith, nat_tests, h, same)
    by false k = cc
high_of high n m false h e = by (nat_le 1 n) e
  where
    by : (c : Bool) → cond (c && false) (Some n) None ≡ Some m → m ≤ high
    by true k = cc
    by false k = cc

within_of : (high : ℕ) (o : Option ℕ) (m : ℕ) → (o >>= λ n. cond (nat_le 1 n && nat_le n high) (Some n) None) ≡ Some m → m ≤ high
within_of high None m e = cc
within_of high (Some n) m e = high_of high n m (nat_le n high) refl e

-- ---- what an option gives

abbrev FitsNumber : Option ℕ → Type 0
FitsNumber None = Unit {0}
FitsNumber (Some n) = n ≤ BLOCKS_MOST

within : (word : Text) (n : ℕ) → number_within 1 BLOCKS_MOST word ≡ Some n → n ≤ BLOCKS_MOST
within word n e = within_of BLOCKS_MOST (number_of word) n e

if_given_fits : (o : Option Text) → Holds FitsNumber (if_given 1 BLOCKS_MOST o)
if_given_fits None = tt
if_given_fits (Some word) = by_value FitsNumber (number_within 1 BLOCKS_MOST word) (λ n. Some (Some n)) (λ n e. within word n e)

abbrev FitsOne : ℕ → Type 0
FitsOne n = n ≤ BLOCKS_MOST

within_holds : (word : Text) (o : Option ℕ) → number_within 1 BLOCKS_MOST word ≡ o → Holds FitsOne o
within_holds word None e = tt
within_holds word (Some n) e = within word n e

given_holds : (o : Option Text) → Holds FitsOne (o >>= λ word. number_within 1 BLOCKS_MOST word)
given_holds None = tt
given_holds (Some word) = within_holds word (number_within 1 BLOCKS_MOST word) refl

-- ---- what a command asks for

abbrev Fits : Asked → Type 0
Fits (asked.Command (OfSeed seed blocks c)) = blocks ≤ BLOCKS_MOST
Fits _ = Unit {0}

replay_fits : (view : View) (seed blocks : Option ℕ) → FitsNumber blocks → Holds Fits (replay_with view seed blocks)
replay_fits view None None h = tt
replay_fits view None (Some n) h = tt
replay_fits view (Some s) None h = tt
replay_fits view (Some s) (Some n) h = h

of_replay : (rows : List Row) → Holds Fits (replay_of rows)
of_replay rows =
    let view : View = view_of (is_set (first_of (codes "summary") rows)) in
    let blocks = if_given 1 BLOCKS_MOST (first_of (codes "blocks") rows) in
    by_value Fits (if_given 0 SEED_MOST (first_of (codes "seed") rows)) (λ s. blocks >>= λ b. replay_with view s b)
    (λ s e. by_value Fits blocks (λ b. replay_with view s b) (λ b f. replay_fits view s b (there FitsNumber blocks b (if_given_fits (first_of (codes "blocks") rows)) f)))

of_gen : (rows : List Row) → Holds Fits (gen_of rows)
of_gen rows =
    let blocks = given 1 BLOCKS_MOST (codes "blocks") rows in
    by_value Fits (given 0 SEED_MOST (codes "seed") rows) (λ s. blocks >>= λ b. Some (asked.Command (OfSeed s b seeded.Write)))
    (λ s e. by_value Fits blocks (λ b. Some (asked.Command (OfSeed s b seeded.Write))) (λ b f. there FitsOne blocks b (given_holds (first_of (codes "blocks") rows)) f))

-- one that makes no trace
no_trace : {A : Type 0} (o : Option A) (f : A → Option Asked) → ((a : A) → Holds Fits (f a)) → Holds Fits (o >>= f)
no_trace None f h = tt
no_trace (Some a) f h = h a

of_serve : (rows : List Row) → Holds Fits (serve_of rows)
of_serve rows = no_trace (first_of (codes "store") rows) (λ place. serve_with rows place) (λ place.
    no_trace (given 1 PORT_MOST (codes "port") rows) _ (λ p.
    no_trace (given 1 TERM_MOST (codes "term") rows) _ (λ t.
    no_trace (given 1 SESSIONS_EVER_MOST (codes "sessions") rows) _ (λ n. tt))))

of_mount : (rows : List Row) → Holds Fits (mount_of rows)
of_mount rows =
    no_trace (given 1 PORT_MOST (codes "port") rows) _ (λ p.
    no_trace (given 0 DRIFT_MOST (codes "drift") rows) _ (λ e.
    no_trace (if_given 0 KEEP_MOST (first_of (codes "keep") rows)) _ (λ k. tt)))

of_check : (rows : List Row) → Holds Fits (check_of rows)
of_check rows = no_trace (first_of (codes "store") rows) _ (λ place. tt)

of_named : (name : Text) (rows : List Row) → Holds Fits (named_of name rows)
of_named name rows =
    by_test Fits (bytes_eq name (codes "replay")) (replay_of rows) _ (of_replay rows)
    (by_test Fits (bytes_eq name (codes "gen")) (gen_of rows) _ (of_gen rows)
    (by_test Fits (bytes_eq name (codes "cut")) (Some (asked.Command (OfInput input.Cut))) _ tt
    (by_test Fits (bytes_eq name (codes "show")) (Some (asked.Command (OfInput input.Show))) _ tt
    (by_test Fits (bytes_eq name (codes "serve")) (serve_of rows) _ (of_serve rows)
    (by_test Fits (bytes_eq name (codes "mount")) (mount_of rows) _ (of_mount rows)
    (by_test Fits (bytes_eq name (codes "check")) (check_of rows) None (of_check rows) tt))))))

of_entered : (o : Option (Text × List Row)) → Holds Fits (entered_of o)
of_entered None = tt
of_entered (Some c) = of_named c.0 c.1

unfaulted : (faults : Kinds) (o : Option Asked) → Holds Fits o → Holds Fits (unless_fault faults o)
unfaulted [] o h = h
unfaulted (k ∷ ks) o h = tt

all_fit : (words : List Text) → Holds Fits (asked_of words)
unfolding asked_of
all_fit words = unfaulted (fault_of lbfs words) (entered_of (subcommand_of lbfs words)) (of_entered (subcommand_of lbfs words))

command_fits : (o : Option Asked) → Holds Fits o → IsFew (command_in o)
command_fits None h = tt
command_fits (Some (asked.Command (OfInput c))) h = tt
command_fits (Some (asked.Command (OfSeed s n c))) h = h
command_fits (Some (asked.Serve o)) h = tt
command_fits (Some (asked.Mount o)) h = tt
command_fits (Some (asked.Check o)) h = tt

pub few : (words : List Text) → IsFew (command_in (asked_of words))
few words = command_fits (asked_of words) (all_fit words)
