-- A generated trace is no longer than an input may be.
use Rattle.std.proofs.Common.{◌≡◌, ℕ, zero, suc, ◌+◌, ◌*◌, ◌/◌, ◌%◌, ◌^◌, ◌<◌, ◌≤◌, ◌==◌, List, [], ◌∷◌, ◌++◌, length, Bool, true, false, cond, codes, decimal, refl, ap, arith}
use Rattle.std.specs.List.{AllByRecursion}
use Rattle.std.proofs.lemmas.List.{length-append}
use Rattle.std.proofs.lemmas.Fmt.{length-decimal-le}
use Rattle.limits.specs.declared.TheConstants.{INPUT_MOST}
use Rattle.trace_generator.specs.Lines.{choice, client_of, file_of, offset_of, time_of, file_line, join_line, do_line, pass_line, settle_line, on_file, write_command, change_lines, abandon_lines, block_lines, opening_lines, generated_lines, generated_text, text_of}
use Rattle.lbfs_run.proofs.Spelled.{pass_pieces, do_pieces, write_pieces, file_text, file_pieces}
use Rattle.lbfs_run.proofs.Accepted.{lines_count}

-- ---- how long pieces are

exactly : (xs : List ℕ) (n : ℕ) → length xs ≡ n → length xs ≤ n
exactly xs n is = omega (arith, is)

within : (xs : List ℕ) (m n : ℕ) → length xs ≤ m → m ≤ n → length xs ≤ n
within xs m n h few = omega (arith, h, few)

both : (xs ys : List ℕ) (m n : ℕ) → length xs ≤ m → length ys ≤ n → length (xs ++ ys) ≤ m + n
both xs ys m n h k = omega (arith, length-append xs ys, h, k)

as_pieces : (line pieces : List ℕ) (m n : ℕ) → line ≡ pieces → length pieces ≤ m → m ≤ n → length line ≤ n
as_pieces line pieces m n e h few = omega (arith, ap length e, h, few)

-- a number has 20 digits at most
digits_few : (n : ℕ) → n < 2 ^ 64 → length (decimal n) ≤ 20
digits_few n fits = length-decimal-le 20 n (omega arith) (omega (arith, fits)) fits

-- a number, and a space before what follows
word_then : (n k : ℕ) (rest : List ℕ) → n < 2 ^ 64 → length rest ≤ k → length (decimal n ++ 32 ∷ rest) ≤ 21 + k
word_then n k rest fits e = omega (arith, length-append (decimal n) (32 ∷ rest), digits_few n fits, e)

letters_then : (letters rest : List ℕ) (n k : ℕ) → length letters ≡ n → length rest ≤ k → length (letters ++ rest) ≤ n + k
letters_then letters rest n k is e = both letters rest n k (exactly letters n is) e

-- ---- lines

abbrev IsShort : List ℕ → Type 0
IsShort line = length line ≤ 127

abbrev AreShort : List (List ℕ) → Type 0
AreShort lines = AllByRecursion (λ line. length line ≤ 127) lines

letters_short : (letters : List ℕ) (n : ℕ) → length letters ≡ n → n ≤ 127 → IsShort letters
letters_short letters n is few = within letters n 127 (exactly letters n is) few

pass_short : (session rounds time : ℕ) → session < 2 ^ 64 → rounds < 2 ^ 64 → time < 2 ^ 64 → IsShort (pass_line session rounds time)
pass_short session rounds time s r t =
    let times : length (decimal time ++ 32 ∷ decimal time) ≤ 41 = word_then time 20 (decimal time) t (digits_few time t) in
    let behind : length (decimal rounds ++ 32 ∷ (decimal time ++ 32 ∷ decimal time)) ≤ 62 = word_then rounds 41 (decimal time ++ 32 ∷ decimal time) r times in
    let all : length (decimal session ++ 32 ∷ (decimal rounds ++ 32 ∷ (decimal time ++ 32 ∷ decimal time))) ≤ 83 = word_then session 62 (decimal rounds ++ 32 ∷ (decimal time ++ 32 ∷ decimal time)) s behind in
    as_pieces _ _ 88 127 (pass_pieces session rounds time) (letters_then (codes "pass ") (decimal session ++ 32 ∷ (decimal rounds ++ 32 ∷ (decimal time ++ 32 ∷ decimal time))) 5 83 refl all) (omega arith)

-- a command of at most 80 bytes
do_short : (client time : ℕ) (command : List ℕ) → client < 2 ^ 64 → time < 2 ^ 64 → length command ≤ 80 → IsShort (do_line client time command)
do_short client time command c t e =
    let behind : length (decimal time ++ 32 ∷ command) ≤ 101 = word_then time 80 command t e in
    let all : length (decimal client ++ 32 ∷ (decimal time ++ 32 ∷ command)) ≤ 122 = word_then client 101 (decimal time ++ 32 ∷ command) c behind in
    as_pieces _ _ 125 127 (do_pieces client time command) (letters_then (codes "do ") (decimal client ++ 32 ∷ (decimal time ++ 32 ∷ command)) 3 122 refl all) (omega arith)

write_size : (file offset block : ℕ) → file < 2 ^ 64 → offset < 2 ^ 64 → block < 2 ^ 64 → length (write_command file offset block) ≤ 80
write_size file offset block f o b =
    let text : length (codes "t:" ++ decimal block) ≤ 22 = letters_then (codes "t:") (decimal block) 2 20 refl (digits_few block b) in
    let behind : length (decimal offset ++ 32 ∷ (codes "t:" ++ decimal block)) ≤ 43 = word_then offset 22 (codes "t:" ++ decimal block) o text in
    let all : length (decimal file ++ 32 ∷ (decimal offset ++ 32 ∷ (codes "t:" ++ decimal block))) ≤ 64 = word_then file 43 (decimal offset ++ 32 ∷ (codes "t:" ++ decimal block)) f behind in
    as_pieces _ _ 71 80 (write_pieces file offset block) (letters_then (codes "write #") (decimal file ++ 32 ∷ (decimal offset ++ 32 ∷ (codes "t:" ++ decimal block))) 7 64 refl all) (omega arith)

-- a word and a file
on_file_size : (word : List ℕ) (n file : ℕ) → length (word ++ codes " #") ≡ n → n ≤ 60 → file < 2 ^ 64 → length (on_file word file) ≤ 80
on_file_size word n file is few f = within (on_file word file) (n + 20) 80 (letters_then (word ++ codes " #") (decimal file) n 20 is (digits_few file f)) (omega (arith, few))

settle_short : (time : ℕ) → time < 2 ^ 64 → IsShort (settle_line time)
settle_short time t = within (settle_line time) 27 127 (letters_then (codes "settle ") (decimal time) 7 20 refl (digits_few time t)) (omega arith)

text_short : (number own : ℕ) → number < 2 ^ 64 → own < 2 ^ 64 → IsShort (file_text number own)
text_short number own n fits =
    let bytes : length (decimal own ++ codes ":9000") ≤ 25 = both (decimal own) (codes ":9000") 20 5 (digits_few own fits) (exactly (codes ":9000") 5 refl) in
    let content : length (codes "r:" ++ (decimal own ++ codes ":9000")) ≤ 27 = letters_then (codes "r:") (decimal own ++ codes ":9000") 2 25 refl bytes in
    let all : length (decimal number ++ 32 ∷ (codes "r:" ++ (decimal own ++ codes ":9000"))) ≤ 48 = word_then number 27 (codes "r:" ++ (decimal own ++ codes ":9000")) n content in
    as_pieces _ _ 54 127 (file_pieces number own) (letters_then (codes "file f") (decimal number ++ 32 ∷ (codes "r:" ++ (decimal own ++ codes ":9000"))) 6 48 refl all) (omega arith)

file_short : (seed number : ℕ) → number < 2 ^ 64 → IsShort (file_line seed number)
file_short seed number n = text_short number ((seed + number) % 2 ^ 64) n (omega arith)

join_short : (client : ℕ) → client < 2 ^ 64 → IsShort (join_line client)
join_short client c =
    let front : length (codes "join " ++ decimal client) ≤ 25 = letters_then (codes "join ") (decimal client) 5 20 refl (digits_few client c) in
    within (join_line client) 29 127 (both (codes "join " ++ decimal client) (codes " 0 0") 25 4 front (exactly (codes " 0 0") 4 refl)) (omega arith)

opening_short : (seed : ℕ) → AreShort (opening_lines seed)
unfolding opening_lines
opening_short seed =
    (letters_short (codes "lbfs-trace 1") 12 refl (omega arith), (letters_short (codes "term 1000") 9 refl (omega arith), (letters_short (codes "drift 50") 8 refl (omega arith), (letters_short (codes "clients 4") 9 refl (omega arith), (file_short seed 1 (omega arith), (file_short seed 2 (omega arith), (file_short seed 3 (omega arith), (file_short seed 4 (omega arith), (file_short seed 5 (omega arith), (file_short seed 6 (omega arith), (file_short seed 7 (omega arith), (file_short seed 8 (omega arith), (join_short 1 (omega arith), (join_short 2 (omega arith), (join_short 3 (omega arith), (join_short 4 (omega arith), tt))))))))))))))))

change_short : (client file offset block time : ℕ) → client < 2 ^ 64 → file < 2 ^ 64 → offset < 2 ^ 64 → block < 2 ^ 64 → time < 2 ^ 64 → AreShort (change_lines client file offset block time)
change_short client file offset block time c f o b t =
    (do_short client time (write_command file offset block) c t (write_size file offset block f o b), (do_short client time (on_file (codes "close") file) c t (on_file_size (codes "close") 7 file refl (omega arith) f), (pass_short client 40 time c (omega arith) t, (pass_short 1 2 time (omega arith) (omega arith) t, (pass_short 2 2 time (omega arith) (omega arith) t, (pass_short 3 2 time (omega arith) (omega arith) t, (pass_short 4 2 time (omega arith) (omega arith) t, (settle_short time t, (pass_short client 2 time c (omega arith) t, tt)))))))))

rest_short : (leaves : Bool) (client file offset block time : ℕ) → client < 2 ^ 64 → file < 2 ^ 64 → offset < 2 ^ 64 → block < 2 ^ 64 → time < 2 ^ 64 → AreShort (cond leaves (abandon_lines client file time) (change_lines client file offset block time))
rest_short true client file offset block time c f o b t = (do_short client time (on_file (codes "abandon") file) c t (on_file_size (codes "abandon") 9 file refl (omega arith) f), tt)
rest_short false client file offset block time c f o b t = change_short client file offset block time c f o b t

block_short : (seed block : ℕ) → block ≤ 5000 → AreShort (block_lines seed block)
unfolding block_lines
block_short seed block few =
    let q : ℕ = choice seed block in
    let c : client_of q < 2 ^ 64 = omega arith in
    let f : file_of q < 2 ^ 64 = omega arith in
    let t : time_of block < 2 ^ 64 = omega (arith, few) in
    (do_short (client_of q) (time_of block) (on_file (codes "open") (file_of q)) c t (on_file_size (codes "open") 6 (file_of q) refl (omega arith) f), (pass_short (client_of q) 40 (time_of block) c (omega arith) t, rest_short (q / 32 % 2 == 0) (client_of q) (file_of q) (offset_of q) block (time_of block) c f (omega arith) (omega (arith, few)) t))

joined_short : (xs ys : List (List ℕ)) → AreShort xs → AreShort ys → AreShort (xs ++ ys)
joined_short [] ys a b = b
joined_short (x ∷ xs) ys a b = (a.0, joined_short xs ys a.1 b)

lines_short : (seed blocks : ℕ) → blocks ≤ 5000 → AreShort (generated_lines seed blocks)
lines_short seed zero few = opening_short seed
lines_short seed (suc k) few = joined_short (generated_lines seed k) (block_lines seed (suc k)) (lines_short seed k (omega (arith, few))) (block_short seed (suc k) few)

-- ---- the text

line_then : (line rest : List ℕ) (k : ℕ) → length line ≤ 127 → length rest ≤ 128 * k → length ((line ++ 10 ∷ []) ++ rest) ≤ 128 * suc k
line_then line rest k h e = omega (arith, length-append (line ++ 10 ∷ []) rest, length-append line (10 ∷ []), h, e)

text_size : (lines : List (List ℕ)) → AreShort lines → length (text_of lines) ≤ 128 * length lines
unfolding text_of
text_size [] h = omega arith
text_size (line ∷ lines) h = line_then line (text_of lines) (length lines) h.0 (text_size lines h.1)

pub generated_short : (seed blocks : ℕ) → blocks ≤ 5000 → length (generated_text seed blocks) ≤ INPUT_MOST
generated_short seed blocks few = omega (arith, text_size (generated_lines seed blocks) (lines_short seed blocks few), lines_count seed blocks, few)
