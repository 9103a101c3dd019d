-- Worked words, commands and contents.
use Rattle.std.specs.Prelude.{◌≡◌, ℕ, zero, suc, length, List, [], ◌∷◌, ◌++◌, Option, Some, None, refl, codes, replicate, map}
use Rattle.hex.specs.Hex.{decode_pairs}
use Rattle.command_text.specs.declared.command.Command.{Command}
use Rattle.command_text.specs.declared.command.Command.TheVariants.{Open, Rewrite, Write, Trunc, Read, Close, Abandon, Named}
use Rattle.command_text.specs.declared.content.Part.TheVariants.{Bytes, Zeros, Marks, Random}
use Rattle.command_text.specs.declared.path.PathCommand.TheVariants.{Find, Rewrite as Renew, Look, LookRoot, List as Lists, Make, MakeDir, Remove, RemoveDir, Rename}
use Rattle.command_text.specs.declared.path.Spot.{Spot}
use Rattle.command_text.specs.Commands.{command_of}
use Rattle.command_text.specs.Paths.{spot_of}
use Rattle.command_text.specs.Content.{mark, random_bytes, content_bytes, content_length}
use Rattle.command_text.specs.Fields.{content_of, name_of}
use Rattle.command_text.specs.Parts.{lines_of, words_of}

-- each line feed ends a line, and the last line may lack it
no_line : lines_of [] ≡ []
no_line = refl

unended : lines_of (codes "a") ≡ (codes "a" ∷ [])
unended = refl

ended : lines_of (codes "a\n") ≡ (codes "a" ∷ [])
ended = refl

empty_line : lines_of (codes "\n") ≡ ([] ∷ [])
empty_line = refl

empty_last : lines_of (codes "a\n\n") ≡ (codes "a" ∷ [] ∷ [])
empty_last = refl

empty_between : lines_of (codes "a\n\nb") ≡ (codes "a" ∷ [] ∷ codes "b" ∷ [])
empty_between = refl

-- each space parts two words
no_word : words_of [] ≡ ([] ∷ [])
no_word = refl

two_spaces : words_of (codes "a  b ") ≡ (codes "a" ∷ [] ∷ codes "b" ∷ [] ∷ [])
two_spaces = refl

-- the longest name
longest_name : name_of (replicate 255 97) ≡ Some (replicate 255 97)
longest_name = refl

longer_name : name_of (replicate 256 97) ≡ None
longer_name = refl

-- a content of each kind of part
contents : map content_of (codes "-" ∷ codes "t:a.Z_0-" ∷ codes "x:00ff" ∷ codes "z:3" ∷ codes "m:2" ∷ codes "r:0:5" ∷ []) ≡ (Some [] ∷ Some (Bytes (codes "a.Z_0-") ∷ []) ∷ Some (Bytes (0 ∷ 255 ∷ []) ∷ []) ∷ Some (Zeros 3 ∷ []) ∷ Some (Marks 2 ∷ []) ∷ Some (Random 0 5 ∷ []) ∷ [])
unfolding decode_pairs
contents = refl

joined : content_of (codes "t:abc+z:3+x:0a+m:1+r:7:5") ≡ Some (Bytes (codes "abc") ∷ Zeros 3 ∷ Bytes (10 ∷ []) ∷ Marks 1 ∷ Random 7 5 ∷ [])
unfolding decode_pairs
joined = refl

-- the largest numbers, and a text of 2,049 letters
large : map content_of (codes "z:18446744073709551615" ∷ codes "m:18446744073709551615" ∷ codes "r:18446744073709551615:18446744073709551615" ∷ []) ≡ (Some (Zeros 18446744073709551615 ∷ []) ∷ Some (Marks 18446744073709551615 ∷ []) ∷ Some (Random 18446744073709551615 18446744073709551615 ∷ []) ∷ [])
large = refl

long_text : content_of (codes "t:" ++ replicate 2049 97) ≡ Some (Bytes (replicate 2049 97) ∷ [])
long_text = refl

-- no part
refused_text : map content_of (codes "t:" ∷ codes "t:a~" ∷ codes "t:a:b" ∷ codes "t" ∷ codes "abc" ∷ codes "T:a" ∷ codes "" ∷ []) ≡ replicate 7 None
refused_text = refl

refused_hex : map content_of (codes "x:" ∷ codes "x:0" ∷ codes "x:00f" ∷ codes "x:FF" ∷ codes "x:0A" ∷ codes "x:0g" ∷ codes "x:0x00" ∷ []) ≡ replicate 7 None
unfolding decode_pairs
refused_hex = refl

refused_count : map content_of (codes "z:" ∷ codes "z:0" ∷ codes "z:01" ∷ codes "z:+1" ∷ codes "z:18446744073709551616" ∷ codes "m:" ∷ codes "m:0" ∷ codes "m:18446744073709551616" ∷ []) ≡ replicate 8 None
refused_count = refl

refused_random : map content_of (codes "r:" ∷ codes "r:1" ∷ codes "r:1:" ∷ codes "r::1" ∷ codes "r:1:0" ∷ codes "r:01:1" ∷ codes "r:1:01" ∷ codes "r:1:1:1" ∷ codes "r:18446744073709551616:1" ∷ codes "r:1:18446744073709551616" ∷ []) ≡ replicate 10 None
refused_random = refl

refused_join : map content_of (codes "+" ∷ codes "+t:a" ∷ codes "t:a+" ∷ codes "t:a++t:b" ∷ codes "-+t:a" ∷ codes "t:a+-" ∷ codes "--" ∷ codes "y:1" ∷ codes "t:a+y:1" ∷ codes "t:a b" ∷ codes "t:a+z:0" ∷ []) ≡ replicate 11 None
refused_join = refl

-- the generator's bytes, as another program gives them
random : random_bytes 1 40 ≡ (108 ∷ 130 ∷ 165 ∷ 98 ∷ 203 ∷ 128 ∷ 141 ∷ 16 ∷ 214 ∷ 50 ∷ 190 ∷ 137 ∷ 200 ∷ 81 ∷ 62 ∷ 191 ∷ 108 ∷ 146 ∷ 159 ∷ 52 ∷ 221 ∷ 250 ∷ 140 ∷ 159 ∷ 99 ∷ 201 ∷ 150 ∷ 14 ∷ 246 ∷ 227 ∷ 72 ∷ 163 ∷ 82 ∷ 140 ∷ 138 ∷ 63 ∷ 204 ∷ 47 ∷ 4 ∷ 78 ∷ [])
random = refl

random_of_largest : random_bytes 18446744073709551615 3 ≡ (187 ∷ 177 ∷ 143 ∷ [])
random_of_largest = refl

-- a content's bytes are those of its parts, in their order
bytes : content_bytes (Bytes (codes "abc") ∷ Zeros 3 ∷ Bytes (10 ∷ []) ∷ Marks 1 ∷ Random 7 5 ∷ []) ≡ codes "abc" ++ (0 ∷ 0 ∷ 0 ∷ 10 ∷ []) ++ replicate 2047 0 ++ (120 ∷ 126 ∷ 244 ∷ 232 ∷ 69 ∷ 68 ∷ [])
unfolding mark
bytes = refl

lengths : map content_length ([] ∷ (Bytes (codes "abc") ∷ Zeros 3 ∷ Bytes (10 ∷ []) ∷ Marks 1 ∷ Random 7 5 ∷ []) ∷ (Zeros 18446744073709551615 ∷ Zeros 1 ∷ []) ∷ (Marks 18446744073709551615 ∷ []) ∷ []) ≡ (0 ∷ 2060 ∷ 18446744073709551616 ∷ 37778931862957161707520 ∷ [])
lengths = refl

-- ---- commands

abbrev command_in : List (List ℕ) → Option Command
command_in [] = None
command_in (word ∷ words) = command_of word words

abbrev said : List (List ℕ) → List (Option Command)
said lines = map (λ line. command_in (words_of line)) lines

commands : said (codes "open #3" ∷ codes "write #3 4 t:ab+z:5" ∷ codes "write #3 4 -" ∷ codes "trunc #3 4" ∷ codes "read #3 4 5" ∷ codes "close #3" ∷ codes "abandon #3" ∷ []) ≡ (Some (Open 3) ∷ Some (Write 3 4 (Bytes (codes "ab") ∷ Zeros 5 ∷ [])) ∷ Some (Write 3 4 []) ∷ Some (Trunc 3 4) ∷ Some (Read 3 4 5) ∷ Some (Close 3) ∷ Some (Abandon 3) ∷ [])
commands = refl

-- no command
refused_commands : said (codes "" ∷ codes "open" ∷ codes "open #3 #4" ∷ codes " open #3" ∷ codes "Open #3" ∷ codes "write #3 4" ∷ codes "trunc #3" ∷ codes "read #3 4" ∷ codes "close" ∷ codes "abandoned #3" ∷ codes "list #3" ∷ []) ≡ replicate 11 None
refused_commands = refl

-- a file that is to be written anew, by its id or by its path
rewrites : said (codes "rewrite #3" ∷ codes "rewrite d/a" ∷ codes "rewrite 3" ∷ []) ≡ (Some (Rewrite 3) ∷ Some (Named (Renew (record { dirs = codes "d" ∷ []; name = codes "a" }))) ∷ Some (Named (Renew (record { dirs = []; name = codes "3" }))) ∷ [])
rewrites = refl

refused_rewrites : said (codes "rewrite" ∷ codes "rewrite /" ∷ codes "rewrite #3 #4" ∷ codes "rewrite #03" ∷ codes "rewrite a/../b" ∷ codes "rewrites #3" ∷ codes "Rewrite #3" ∷ []) ≡ replicate 7 None
refused_rewrites = refl

-- ---- commands on names

abbrev a_in_d : Spot
a_in_d = record { dirs = codes "d" ∷ []; name = codes "a" }

abbrev a_at_root : Spot
a_at_root = record { dirs = []; name = codes "a" }

named : said (codes "open d/a" ∷ codes "make a" ∷ codes "mkdir d/a" ∷ codes "remove a" ∷ codes "rmdir a" ∷ codes "rename a d/a" ∷ codes "list /" ∷ codes "list d" ∷ codes "look /" ∷ codes "look d/a" ∷ []) ≡ (Some (Named (Find a_in_d)) ∷ Some (Named (Make a_at_root)) ∷ Some (Named (MakeDir a_in_d)) ∷ Some (Named (Remove a_at_root)) ∷ Some (Named (RemoveDir a_at_root)) ∷ Some (Named (Rename a_at_root a_in_d)) ∷ Some (Named (Lists [])) ∷ Some (Named (Lists (codes "d" ∷ []))) ∷ Some (Named LookRoot) ∷ Some (Named (Look a_in_d)) ∷ [])
named = refl

-- the root where a name is wanted, empty names, `.` and `..`, a name too few or too many
refused_names : said (codes "open /" ∷ codes "make /" ∷ codes "make /a" ∷ codes "make a/" ∷ codes "make a//b" ∷ codes "make ." ∷ codes "make a/.." ∷ codes "rename a" ∷ codes "rename a b c" ∷ codes "rename / a" ∷ codes "list" ∷ codes "look a b" ∷ codes "rmdir /" ∷ []) ≡ replicate 13 None
refused_names = refl

-- how many names are before the last
abbrev dirs_or : Option Spot → List (List ℕ)
dirs_or None = []
dirs_or (Some s) = s.dirs

-- 64 names, and 65
abbrev path_of_names : (count : ℕ) → List ℕ
path_of_names zero = codes "a"
path_of_names (suc n) = codes "a/" ++ path_of_names n

longest_path : length (dirs_or (spot_of (path_of_names 63))) ≡ 63
longest_path = refl

longer_path : spot_of (path_of_names 64) ≡ None
longer_path = refl
