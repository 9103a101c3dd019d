-- What the lines of a generated trace say.
use Rattle.std.proofs.Common.{◌≡◌, ℕ, suc, ◌+◌, ◌-◌, ◌^◌, ◌<◌, ◌≤◌, ◌==◌, List, [], ◌∷◌, ◌++◌, Bool, true, false, ◌&&◌, ◌||◌, cond, length, Option, Some, arith, rules, refl, ap, ◌∙◌, append_assoc, decimal, codes}
use Rattle.std.specs.Prelude.{All, nat_le, bytes_eq}
use Rattle.std.specs.List.{list_all, onto_first}
use Rattle.std.proofs.lemmas.Bool.Decides.{nat_tests}
use Rattle.std.proofs.lemmas.Fmt.{decimal_nonempty}
use Rattle.command_text.specs.Commands.{open_at, command_of}
use Rattle.command_text.specs.declared.command.Command.{Command}
use Rattle.command_text.specs.declared.command.Command.TheVariants.{Open, Write, Close, Abandon}
use Rattle.command_text.specs.declared.content.Part.{Part}
use Rattle.command_text.specs.declared.content.Part.TheVariants.{Bytes, Random}
use Rattle.command_text.specs.Fields.{◌>>=◌, number_of, is_letter, text_of, count_of, random_of, parts_of, content_of, id_of}
use Rattle.command_text.specs.Parts.{words_of}
use Rattle.command_text.specs.Paths.{spot_of}
use Rattle.command_text.specs.declared.path.Spot.{Spot}
use Rattle.command_text.proofs.lemmas.Decimals.{number_again}
use Rattle.trace_text.specs.Grammar.{is_skipped, do_with, line_of, said_by}
use Rattle.trace_text.specs.Fields.{reading_of}
use Rattle.trace_text.specs.declared.line.Line.{Line}
use Rattle.trace_text.specs.declared.line.Line.TheVariants as line
use Rattle.trace_generator.specs.Lines.{do_line, pass_line, settle_line, on_file, write_command}
use Rattle.lbfs_run.proofs.Words.{IsDigit, digits_in, word_then, word_last, word_with, one_part, one_part_with, before_colon, after_colon}

-- ---- pieces, one behind the other

right_three : (a b c : List ℕ) → a ++ b ++ c ≡ a ++ (b ++ c)
right_three a b c = append_assoc a b c

right_four : (a b c d : List ℕ) → a ++ b ++ c ++ d ≡ a ++ (b ++ (c ++ d))
right_four a b c d = append_assoc (a ++ b) c d ∙ append_assoc a b (c ++ d)

right_five : (a b c d e : List ℕ) → a ++ b ++ c ++ d ++ e ≡ a ++ (b ++ (c ++ (d ++ e)))
right_five a b c d e = append_assoc (a ++ b ++ c) d e ∙ right_four a b c (d ++ e)

right_six : (a b c d e f : List ℕ) → a ++ b ++ c ++ d ++ e ++ f ≡ a ++ (b ++ (c ++ (d ++ (e ++ f))))
right_six a b c d e f = append_assoc (a ++ b ++ c ++ d) e f ∙ right_five a b c d (e ++ f)

right_seven : (a b c d e f g : List ℕ) → a ++ b ++ c ++ d ++ e ++ f ++ g ≡ a ++ (b ++ (c ++ (d ++ (e ++ (f ++ g)))))
right_seven a b c d e f g = append_assoc (a ++ b ++ c ++ d ++ e) f g ∙ right_six a b c d e (f ++ g)

right_eight : (a b c d e f g h : List ℕ) → a ++ b ++ c ++ d ++ e ++ f ++ g ++ h ≡ a ++ (b ++ (c ++ (d ++ (e ++ (f ++ (g ++ h))))))
right_eight a b c d e f g h = append_assoc (a ++ b ++ c ++ d ++ e ++ f) g h ∙ right_seven a b c d e f (g ++ h)

pub pass_pieces : (session rounds time : ℕ) → pass_line session rounds time ≡ codes "pass " ++ (decimal session ++ 32 ∷ (decimal rounds ++ 32 ∷ (decimal time ++ 32 ∷ decimal time)))
pass_pieces session rounds time = right_eight (codes "pass ") (decimal session) (codes " ") (decimal rounds) (codes " ") (decimal time) (codes " ") (decimal time)

pub do_pieces : (client time : ℕ) (command : List ℕ) → do_line client time command ≡ codes "do " ++ (decimal client ++ 32 ∷ (decimal time ++ 32 ∷ command))
do_pieces client time command = right_six (codes "do ") (decimal client) (codes " ") (decimal time) (codes " ") command

pub write_pieces : (file offset block : ℕ) → write_command file offset block ≡ codes "write #" ++ (decimal file ++ 32 ∷ (decimal offset ++ 32 ∷ (codes "t:" ++ decimal block)))
write_pieces file offset block = right_six (codes "write" ++ codes " #") (decimal file) (codes " ") (decimal offset) (codes " t:") (decimal block)

abbrev pub file_text : (number seed : ℕ) → List ℕ
file_text number seed = codes "file f" ++ decimal number ++ codes " r:" ++ decimal seed ++ codes ":9000"

pub file_pieces : (number seed : ℕ) → file_text number seed ≡ codes "file f" ++ (decimal number ++ 32 ∷ (codes "r:" ++ (decimal seed ++ codes ":9000")))
file_pieces number seed = right_five (codes "file f") (decimal number) (codes " r:") (decimal seed) (codes ":9000")

-- ---- a line that begins with a letter is not skipped

plain : (x : ℕ) (xs : List ℕ) → bytes_eq (x ∷ []) (codes "#") ≡ false → is_skipped (x ∷ xs) ≡ false
plain x xs e =
    let some : (length (x ∷ xs) == 0) ≡ false = grind (arith, nat_tests) in
    ap (λ (b : Bool). b || bytes_eq (x ∷ []) (codes "#")) some ∙ e

-- what is said of words, where the line is not skipped
says : (text : List ℕ) (words : List (List ℕ)) → is_skipped text ≡ false → words_of text ≡ words → line_of text ≡ said_by words
says text words plain e = ap (λ (b : Bool). cond b (Some line.Skipped) (said_by (words_of text))) plain ∙ ap said_by e

-- ---- numbers

reading_again : (n : ℕ) → n < 2 ^ 63 → reading_of (decimal n) ≡ Some n
reading_again n fits =
    let low : nat_le 0 n ≡ true = grind (arith, nat_tests) in
    let high : nat_le n (2 ^ 63 - 1) ≡ true = grind (arith, nat_tests) in
    rw (number_again n (omega (arith, fits)), low, high) refl

id_again : (n : ℕ) → n < 2 ^ 64 → id_of (35 ∷ decimal n) ≡ Some n
id_again n fits = number_again n fits

-- ---- rounds, and a settling

pass_words : (session rounds time : ℕ) → session < 2 ^ 64 → rounds < 2 ^ 64 → time < 2 ^ 64 → words_of (pass_line session rounds time) ≡ codes "pass" ∷ decimal session ∷ decimal rounds ∷ decimal time ∷ decimal time ∷ []
pass_words session rounds time s r t =
    ap words_of (pass_pieces session rounds time)
    ∙ ap (λ ws. codes "pass" ∷ ws)
    (word_then session _ s ∙ ap (λ ws. decimal session ∷ ws)
    (word_then rounds _ r ∙ ap (λ ws. decimal rounds ∷ ws)
    (word_then time _ t ∙ ap (λ ws. decimal time ∷ ws) (word_last time t))))

abbrev pass_with : Option ℕ → Option ℕ → Option ℕ → Option ℕ → Option Line
pass_with session rounds server at = session >>= λ n. rounds >>= λ k. server >>= λ s. at >>= λ a. Some (line.Pass n k s a)

pub pass_said : (session rounds time : ℕ) → session < 2 ^ 64 → rounds < 2 ^ 64 → time < 2 ^ 63 → line_of (pass_line session rounds time) ≡ Some (line.Pass session rounds time time)
pass_said session rounds time s r t =
    says (pass_line session rounds time) (codes "pass" ∷ decimal session ∷ decimal rounds ∷ decimal time ∷ decimal time ∷ []) (ap is_skipped (pass_pieces session rounds time) ∙ plain 112 (codes "ass " ++ (decimal session ++ 32 ∷ (decimal rounds ++ 32 ∷ (decimal time ++ 32 ∷ decimal time)))) refl) (pass_words session rounds time s r (omega (arith, t)))
    ∙ ap (λ (o : Option ℕ). pass_with o (number_of (decimal rounds)) (reading_of (decimal time)) (reading_of (decimal time))) (number_again session s)
    ∙ ap (λ (o : Option ℕ). pass_with (Some session) o (reading_of (decimal time)) (reading_of (decimal time))) (number_again rounds r)
    ∙ ap (λ (o : Option ℕ). pass_with (Some session) (Some rounds) o o) (reading_again time t)

pub settle_said : (time : ℕ) → time < 2 ^ 63 → line_of (settle_line time) ≡ Some (line.Settle time)
settle_said time t =
    says (settle_line time) (codes "settle" ∷ decimal time ∷ []) (plain 115 (codes "ettle " ++ decimal time) refl) (ap (λ ws. codes "settle" ∷ ws) (word_last time (omega (arith, t))))
    ∙ ap (λ (o : Option ℕ). o >>= λ s. Some (line.Settle s)) (reading_again time t)

-- ---- commands

do_words : (client time : ℕ) (command : List ℕ) (words : List (List ℕ)) → client < 2 ^ 64 → time < 2 ^ 64 → words_of command ≡ words → words_of (do_line client time command) ≡ codes "do" ∷ decimal client ∷ decimal time ∷ words
do_words client time command words c t e =
    ap words_of (do_pieces client time command)
    ∙ ap (λ ws. codes "do" ∷ ws)
    (word_then client _ c ∙ ap (λ ws. decimal client ∷ ws)
    (word_then time _ t ∙ ap (λ ws. decimal time ∷ ws) e))

abbrev done_with : Option ℕ → Option ℕ → Option Command → Option Line
done_with client at command = client >>= λ c. at >>= λ a. do_with c a command

do_said : (client time : ℕ) (command word : List ℕ) (words : List (List ℕ)) (k : Command) → client < 2 ^ 64 → time < 2 ^ 63 → words_of command ≡ word ∷ words → command_of word words ≡ Some k → line_of (do_line client time command) ≡ Some (line.Do client time k)
do_said client time command word words k c t e is =
    says (do_line client time command) (codes "do" ∷ decimal client ∷ decimal time ∷ word ∷ words) (ap is_skipped (do_pieces client time command) ∙ plain 100 (codes "o " ++ (decimal client ++ 32 ∷ (decimal time ++ 32 ∷ command))) refl) (do_words client time command (word ∷ words) c (omega (arith, t)) e)
    ∙ ap (λ (o : Option ℕ). done_with o (reading_of (decimal time)) (command_of word words)) (number_again client c)
    ∙ ap (λ (o : Option ℕ). done_with (Some client) o (command_of word words)) (reading_again time t)
    ∙ ap (done_with (Some client) (Some time)) is

file_word : (file : ℕ) → file < 2 ^ 64 → words_of (35 ∷ decimal file) ≡ (35 ∷ decimal file) ∷ []
file_word file f = ap (onto_first 35) (word_last file f)

pub open_said : (client time file : ℕ) → client < 2 ^ 64 → time < 2 ^ 63 → file < 2 ^ 64 → line_of (do_line client time (on_file (codes "open") file)) ≡ Some (line.Do client time (Open file))
open_said client time file c t f = do_said client time (on_file (codes "open") file) (codes "open") ((35 ∷ decimal file) ∷ []) (Open file) c t (ap (λ ws. codes "open" ∷ ws) (file_word file f)) (ap (open_at (35 ∷ decimal file)) (id_again file f))

pub close_said : (client time file : ℕ) → client < 2 ^ 64 → time < 2 ^ 63 → file < 2 ^ 64 → line_of (do_line client time (on_file (codes "close") file)) ≡ Some (line.Do client time (Close file))
close_said client time file c t f = do_said client time (on_file (codes "close") file) (codes "close") ((35 ∷ decimal file) ∷ []) (Close file) c t (ap (λ ws. codes "close" ∷ ws) (file_word file f)) (ap (λ (o : Option ℕ). o >>= λ n. Some (Close n)) (id_again file f))

pub abandon_said : (client time file : ℕ) → client < 2 ^ 64 → time < 2 ^ 63 → file < 2 ^ 64 → line_of (do_line client time (on_file (codes "abandon") file)) ≡ Some (line.Do client time (Abandon file))
abandon_said client time file c t f = do_said client time (on_file (codes "abandon") file) (codes "abandon") ((35 ∷ decimal file) ∷ []) (Abandon file) c t (ap (λ ws. codes "abandon" ∷ ws) (file_word file f)) (ap (λ (o : Option ℕ). o >>= λ n. Some (Abandon n)) (id_again file f))

-- ---- a write

-- a digit is a letter
letter : (b : ℕ) → IsDigit b → is_letter b ≡ true
letter b h = grind (arith, nat_tests, h.0, h.1)

letters : (bs : List ℕ) → All IsDigit bs → list_all is_letter bs ≡ true
letters [] all = refl
letters (b ∷ bs) all = rw (letter b (all 0 b (omega arith)), letters bs (λ k d within. all (suc k) d (omega (arith, within)))) refl

text_again : (n : ℕ) → n < 2 ^ 64 → text_of (decimal n) ≡ Some (Bytes (decimal n))
text_again n fits =
    let some : (length (decimal n) == 0) ≡ false = grind (arith, nat_tests, decimal_nonempty n fits) in
    rw (some, letters (decimal n) (digits_in n fits)) refl

abbrev parts_with : Option Part → Option (List Part)
parts_with part = part >>= λ p. Some (p ∷ [])

abbrev onto_text : List (List ℕ) → List (List ℕ)
onto_text ws = onto_first 116 (onto_first 58 ws)

content_again : (n : ℕ) → n < 2 ^ 64 → content_of (codes "t:" ++ decimal n) ≡ Some (Bytes (decimal n) ∷ [])
content_again n fits =
    ap (λ (ws : List (List ℕ)). parts_of (onto_text ws)) (one_part n fits)
    ∙ ap parts_with (text_again n fits)

write_words : (file offset block : ℕ) → file < 2 ^ 64 → offset < 2 ^ 64 → block < 2 ^ 64 → words_of (write_command file offset block) ≡ codes "write" ∷ (35 ∷ decimal file) ∷ decimal offset ∷ (codes "t:" ++ decimal block) ∷ []
write_words file offset block f o b =
    ap words_of (write_pieces file offset block)
    ∙ ap (λ ws. codes "write" ∷ ws)
    (ap (onto_first 35) (word_then file _ f)
    ∙ ap (λ ws. (35 ∷ decimal file) ∷ ws)
    (word_then offset _ o ∙ ap (λ ws. decimal offset ∷ ws) (ap onto_text (word_last block b))))

abbrev write_all : Option ℕ → Option ℕ → Option (List Part) → Option Command
write_all file offset content = file >>= λ f. offset >>= λ o. content >>= λ c. Some (Write f o c)

pub write_said : (client time file offset block : ℕ) → client < 2 ^ 64 → time < 2 ^ 63 → file < 2 ^ 64 → offset < 2 ^ 64 → block < 2 ^ 64 → line_of (do_line client time (write_command file offset block)) ≡ Some (line.Do client time (Write file offset (Bytes (decimal block) ∷ [])))
write_said client time file offset block c t f o b =
    do_said client time (write_command file offset block) (codes "write") ((35 ∷ decimal file) ∷ decimal offset ∷ (codes "t:" ++ decimal block) ∷ []) (Write file offset (Bytes (decimal block) ∷ [])) c t (write_words file offset block f o b)
    (ap (λ (x : Option ℕ). write_all x (number_of (decimal offset)) (content_of (codes "t:" ++ decimal block))) (id_again file f)
    ∙ ap (λ (x : Option ℕ). write_all (Some file) x (content_of (codes "t:" ++ decimal block))) (number_again offset o)
    ∙ ap (write_all (Some file) (Some offset)) (content_again block b))

-- ---- a file

no_space : All (λ b. (b == 32) ≡ false) (codes ":9000")
no_space = search rules

no_plus : All (λ b. (b == 43) ≡ false) (codes ":9000")
no_plus = search rules

abbrev onto_seed : List (List ℕ) → List (List ℕ)
onto_seed ws = onto_first 114 (onto_first 58 ws)

abbrev random_with : Option ℕ → Option ℕ → Option Part
random_with seed count = seed >>= λ s. count >>= λ n. Some (Random s n)

random_again : (n : ℕ) → n < 2 ^ 64 → random_of (decimal n ++ codes ":9000") ≡ Some (Random n 9000)
random_again n fits =
    ap (λ (w : List ℕ). random_with (number_of w) (count_of (Rattle.std.specs.List.after_first (λ b. b == 58) (decimal n ++ codes ":9000")))) (before_colon n (codes "9000") fits)
    ∙ ap (λ (w : List ℕ). random_with (number_of (decimal n)) (count_of w)) (after_colon n (codes "9000") fits)
    ∙ ap (λ (o : Option ℕ). random_with o (Some 9000)) (number_again n fits)

random_content : (n : ℕ) → n < 2 ^ 64 → content_of (codes "r:" ++ (decimal n ++ codes ":9000")) ≡ Some (Random n 9000 ∷ [])
random_content n fits =
    ap (λ (ws : List (List ℕ)). parts_of (onto_seed ws)) (one_part_with n (codes ":9000") fits no_plus)
    ∙ ap parts_with (random_again n fits)

file_words : (number seed : ℕ) → number < 2 ^ 64 → seed < 2 ^ 64 → words_of (file_text number seed) ≡ codes "file" ∷ (102 ∷ decimal number) ∷ (codes "r:" ++ (decimal seed ++ codes ":9000")) ∷ []
file_words number seed m s = ap words_of (file_pieces number seed) ∙ ap (λ ws. codes "file" ∷ ws) (ap (onto_first 102) (word_then number _ m) ∙ ap (λ ws. (102 ∷ decimal number) ∷ ws) (ap onto_seed (word_with seed (codes ":9000") s no_space)))

abbrev file_with : Option Spot → Option (List Part) → Option Line
file_with spot content = spot >>= λ s. content >>= λ c. Some (line.File s c)

-- a name in the root
abbrev pub root_spot : List ℕ → Spot
root_spot name = record { dirs = []; name = name }

pub file_said : (number seed : ℕ) → number < 2 ^ 64 → spot_of (102 ∷ decimal number) ≡ Some (root_spot (102 ∷ decimal number)) → seed < 2 ^ 64 → line_of (file_text number seed) ≡ Some (line.File (root_spot (102 ∷ decimal number)) (Random seed 9000 ∷ []))
file_said number seed m named s =
    says (file_text number seed) (codes "file" ∷ (102 ∷ decimal number) ∷ (codes "r:" ++ (decimal seed ++ codes ":9000")) ∷ []) (ap is_skipped (file_pieces number seed) ∙ plain 102 (codes "ile f" ++ (decimal number ++ 32 ∷ (codes "r:" ++ (decimal seed ++ codes ":9000")))) refl) (file_words number seed m s)
    ∙ ap (λ (o : Option Spot). file_with o (content_of (codes "r:" ++ (decimal seed ++ codes ":9000")))) named
    ∙ ap (file_with (Some (root_spot (102 ∷ decimal number)))) (random_content seed s)
