-- The traces that are made from a seed and a number of blocks.
use Rattle.std.specs.Prelude.{ℕ, zero, suc, ◌+◌, ◌*◌, ◌/◌, ◌%◌, ◌^◌, ◌==◌, List, [], ◌∷◌, ◌++◌, codes, decimal, flat_map, if◌then◌else◌}

-- ---- what stands before the blocks

-- a term, a drift, and how many clients there are
abbrev pub header : List (List ℕ)
header = codes "lbfs-trace 1" ∷ codes "term 1000" ∷ codes "drift 50" ∷ codes "clients 4" ∷ []

-- a file of 9,000 bytes, with its number and the seed of its bytes
abbrev pub file_line : (seed number : ℕ) → List ℕ
file_line seed number = codes "file f" ++ decimal number ++ codes " r:" ++ decimal ((seed + number) % 2 ^ 64) ++ codes ":9000"

abbrev pub join_line : (client : ℕ) → List ℕ
join_line client = codes "join " ++ decimal client ++ codes " 0 0"

-- so many files, numbered from 1
abbrev pub file_lines : (seed count : ℕ) → List (List ℕ)
file_lines seed zero = []
file_lines seed (suc k) = file_lines seed k ++ file_line seed (suc k) ∷ []

-- so many clients that join
abbrev pub join_lines : (count : ℕ) → List (List ℕ)
join_lines zero = []
join_lines (suc k) = join_lines k ++ join_line (suc k) ∷ []

-- the header, eight files, and four clients that join
unfoldable pub opening_lines : (seed : ℕ) → List (List ℕ)
opening_lines seed = header ++ file_lines seed 8 ++ join_lines 4

-- ---- a block

-- what the seed says of a block: its client, its file, whether it changes that, and where
abbrev pub choice : (seed block : ℕ) → ℕ
choice seed block = (seed + block) % 2 ^ 32

abbrev pub client_of : (choice : ℕ) → ℕ
client_of choice = 1 + choice % 4

abbrev pub file_of : (choice : ℕ) → ℕ
file_of choice = 2 + choice / 4 % 8

abbrev pub offset_of : (choice : ℕ) → ℕ
offset_of choice = 37 * choice % 9000

-- what both clocks read in a block
abbrev pub time_of : (block : ℕ) → ℕ
time_of block = 10 * block

-- a command of a client
abbrev pub do_front : (client time : ℕ) → List ℕ
do_front client time = codes "do " ++ decimal client ++ codes " " ++ decimal time ++ codes " "

abbrev pub do_line : (client time : ℕ) → (command : List ℕ) → List ℕ
do_line client time command = do_front client time ++ command

-- so many rounds of a session; the client of a number has the session of that number
abbrev pub pass_line : (session rounds time : ℕ) → List ℕ
pass_line session rounds time = codes "pass " ++ decimal session ++ codes " " ++ decimal rounds ++ codes " " ++ decimal time ++ codes " " ++ decimal time

abbrev pub settle_line : (time : ℕ) → List ℕ
settle_line time = codes "settle " ++ decimal time

-- a word and a file
abbrev pub on_file : (word : List ℕ) → (file : ℕ) → List ℕ
on_file word file = word ++ codes " #" ++ decimal file

abbrev pub open_lines : (client file time : ℕ) → List (List ℕ)
open_lines client file time = do_line client time (on_file (codes "open") file) ∷ pass_line client 40 time ∷ []

-- a write of the block's number
abbrev pub write_command : (file offset block : ℕ) → List ℕ
write_command file offset block = on_file (codes "write") file ++ codes " " ++ decimal offset ++ codes " t:" ++ decimal block

-- rounds of all sessions
abbrev pub all_lines : (time : ℕ) → List (List ℕ)
all_lines time = pass_line 1 2 time ∷ pass_line 2 2 time ∷ pass_line 3 2 time ∷ pass_line 4 2 time ∷ []

-- the file is written to and closed, and the change made
abbrev pub change_lines : (client file offset block time : ℕ) → List (List ℕ)
change_lines client file offset block time =
    do_line client time (write_command file offset block) ∷ do_line client time (on_file (codes "close") file) ∷ pass_line client 40 time ∷ []
    ++ all_lines time ++ settle_line time ∷ pass_line client 2 time ∷ []

abbrev pub abandon_lines : (client file time : ℕ) → List (List ℕ)
abandon_lines client file time = do_line client time (on_file (codes "abandon") file) ∷ []

-- what follows the open
abbrev pub rest_lines : (choice block : ℕ) → List (List ℕ)
rest_lines choice block = if choice / 32 % 2 == 0 then abandon_lines (client_of choice) (file_of choice) (time_of block) else change_lines (client_of choice) (file_of choice) (offset_of choice) block (time_of block)

abbrev pub chosen_lines : (choice block : ℕ) → List (List ℕ)
chosen_lines choice block = open_lines (client_of choice) (file_of choice) (time_of block) ++ rest_lines choice block

unfoldable pub block_lines : (seed block : ℕ) → List (List ℕ)
block_lines seed block = chosen_lines (choice seed block) block

-- ---- the trace

-- the lines of the opening and of the first so many blocks, which are numbered from 1
abbrev pub generated_lines : (seed blocks : ℕ) → List (List ℕ)
generated_lines seed zero = opening_lines seed
generated_lines seed (suc k) = generated_lines seed k ++ block_lines seed (suc k)

-- each line is ended by a line feed
unfoldable pub text_of : List (List ℕ) → List ℕ
text_of lines = flat_map (λ line. line ++ 10 ∷ []) lines

abbrev pub generated_text : (seed blocks : ℕ) → List ℕ
generated_text seed blocks = text_of (generated_lines seed blocks)
