-- No line of a generated trace holds a line feed.
use Rattle.std.proofs.Common.{◌≡◌, ℕ, zero, suc, ◌+◌, ◌*◌, ◌/◌, ◌%◌, ◌^◌, ◌<◌, ◌≤◌, ◌==◌, List, [], ◌∷◌, ◌++◌, Bool, true, false, cond, codes, decimal, refl, ap, ◌∙◌, arith}
use Rattle.std.specs.List.{list_any, AllByRecursion}
use Rattle.std.specs.Fmt.{digits}
use Rattle.trace_generator.specs.Lines.{choice, client_of, file_of, offset_of, time_of, file_line, join_line, do_line, pass_line, on_file, write_command, change_lines, abandon_lines, block_lines, opening_lines, generated_lines}
use Rattle.lbfs_run.proofs.Words.{fed_then, fed_last}
use Rattle.lbfs_run.proofs.Spelled.{pass_pieces, do_pieces, write_pieces, file_pieces}

abbrev feeds : List ℕ → Bool
feeds line = list_any (λ b. b == 10) line

abbrev pub IsLine : List ℕ → Type 0
IsLine line = list_any (λ b. b == 10) line ≡ false

abbrev pub AreLines : List (List ℕ) → Type 0
AreLines lines = AllByRecursion (λ line. list_any (λ b. b == 10) line ≡ false) lines

pass_is : (session rounds time : ℕ) → session < 2 ^ 64 → rounds < 2 ^ 64 → time < 2 ^ 64 → IsLine (pass_line session rounds time)
pass_is session rounds time s r t =
    ap feeds (pass_pieces session rounds time)
    ∙ fed_then session (32 ∷ (decimal rounds ++ 32 ∷ (decimal time ++ 32 ∷ decimal time))) s
    ∙ fed_then rounds (32 ∷ (decimal time ++ 32 ∷ decimal time)) r
    ∙ fed_then time (32 ∷ decimal time) t
    ∙ fed_last time t

do_is : (client time : ℕ) (command : List ℕ) → client < 2 ^ 64 → time < 2 ^ 64 → IsLine command → IsLine (do_line client time command)
do_is client time command c t e =
    ap feeds (do_pieces client time command)
    ∙ fed_then client (32 ∷ (decimal time ++ 32 ∷ command)) c
    ∙ fed_then time (32 ∷ command) t
    ∙ e

write_is : (file offset block : ℕ) → file < 2 ^ 64 → offset < 2 ^ 64 → block < 2 ^ 64 → IsLine (write_command file offset block)
write_is file offset block f o b =
    ap feeds (write_pieces file offset block)
    ∙ fed_then file (32 ∷ (decimal offset ++ 32 ∷ (codes "t:" ++ decimal block))) f
    ∙ fed_then offset (32 ∷ (codes "t:" ++ decimal block)) o
    ∙ fed_last block b

file_is : (seed number : ℕ) → number < 2 ^ 64 → IsLine (file_line seed number)
file_is seed number n =
    let below : (seed + number) % 2 ^ 64 < 2 ^ 64 = omega arith in
    ap feeds (file_pieces number ((seed + number) % 2 ^ 64))
    ∙ fed_then number (32 ∷ (codes "r:" ++ (decimal ((seed + number) % 2 ^ 64) ++ codes ":9000"))) n
    ∙ fed_then ((seed + number) % 2 ^ 64) (codes ":9000") below

joins_are : AreLines (join_line 1 ∷ join_line 2 ∷ join_line 3 ∷ join_line 4 ∷ [])
unfolding digits
joins_are = (refl, (refl, (refl, (refl, tt))))

pub opening_is : (seed : ℕ) → AreLines (opening_lines seed)
unfolding opening_lines
opening_is seed = (refl, (refl, (refl, (refl, (file_is seed 1 (omega arith), (file_is seed 2 (omega arith), (file_is seed 3 (omega arith), (file_is seed 4 (omega arith), (file_is seed 5 (omega arith), (file_is seed 6 (omega arith), (file_is seed 7 (omega arith), (file_is seed 8 (omega arith), joins_are))))))))))))

change_is : (client file offset block time : ℕ) → client < 2 ^ 64 → file < 2 ^ 64 → offset < 2 ^ 64 → block < 2 ^ 64 → time < 2 ^ 64 → AreLines (change_lines client file offset block time)
change_is client file offset block time c f o b t =
    (do_is client time (write_command file offset block) c t (write_is file offset block f o b), (do_is client time (on_file (codes "close") file) c t (fed_last file f), (pass_is client 40 time c (omega arith) t, (pass_is 1 2 time (omega arith) (omega arith) t, (pass_is 2 2 time (omega arith) (omega arith) t, (pass_is 3 2 time (omega arith) (omega arith) t, (pass_is 4 2 time (omega arith) (omega arith) t, (fed_last time t, (pass_is client 2 time c (omega arith) t, tt)))))))))

rest_is : (leaves : Bool) (client file offset block time : ℕ) → client < 2 ^ 64 → file < 2 ^ 64 → offset < 2 ^ 64 → block < 2 ^ 64 → time < 2 ^ 64 → AreLines (cond leaves (abandon_lines client file time) (change_lines client file offset block time))
rest_is true client file offset block time c f o b t = (do_is client time (on_file (codes "abandon") file) c t (fed_last file f), tt)
rest_is false client file offset block time c f o b t = change_is client file offset block time c f o b t

pub block_is : (seed block : ℕ) → block ≤ 5000 → AreLines (block_lines seed block)
unfolding block_lines
block_is seed block few =
    let q : ℕ = choice seed block in
    let c : client_of q < 2 ^ 64 = omega arith in
    let f : file_of q < 2 ^ 64 = omega arith in
    let t : time_of block < 2 ^ 64 = omega (arith, few) in
    (do_is (client_of q) (time_of block) (on_file (codes "open") (file_of q)) c t (fed_last (file_of q) f), (pass_is (client_of q) 40 (time_of block) c (omega arith) t, rest_is (q / 32 % 2 == 0) (client_of q) (file_of q) (offset_of q) block (time_of block) c f (omega arith) (omega (arith, few)) t))

joined_are : (xs ys : List (List ℕ)) → AreLines xs → AreLines ys → AreLines (xs ++ ys)
joined_are [] ys a b = b
joined_are (x ∷ xs) ys a b = (a.0, joined_are xs ys a.1 b)

pub generated_are : (seed blocks : ℕ) → blocks ≤ 5000 → AreLines (generated_lines seed blocks)
generated_are seed zero few = opening_is seed
generated_are seed (suc k) few = joined_are (generated_lines seed k) (block_lines seed (suc k)) (generated_are seed k (omega (arith, few))) (block_is seed (suc k) few)
