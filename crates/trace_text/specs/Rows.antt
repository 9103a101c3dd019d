-- Worked lines.
use Rattle.std.specs.Prelude.{◌≡◌, ℕ, List, [], ◌∷◌, ◌++◌, Option, Some, None, refl, codes, replicate, map}
use Rattle.std.specs.Fmt.{digits}
use Rattle.hex.specs.Hex.{decode_pairs}
use Rattle.clock_rule.specs.declared.rule.ClockFault.TheVariants as clock
use Rattle.command_text.specs.declared.content.Part.TheVariants.{Bytes, Zeros}
use Rattle.trace_text.specs.declared.line.Amount.TheVariants as amount
use Rattle.trace_text.specs.declared.line.Who.TheVariants as who
use Rattle.command_text.specs.declared.command.Command.TheVariants.{Open, Rewrite, Write, Trunc, Read, Close, Abandon, Named}
use Rattle.command_text.specs.declared.path.PathCommand.TheVariants.{Find, Rewrite as Renew, Look, LookRoot, List as Lists, Make, MakeDir, Remove, RemoveDir, Rename}
use Rattle.command_text.specs.declared.path.Spot.{Spot}
use Rattle.trace_text.specs.declared.line.Line.{Line}
use Rattle.trace_text.specs.declared.line.Line.TheVariants.{Version, Term, Drift, Clients, Dir, File, Join, Do, Up, Down, Pass, RawJoin, Raw, Settle, Cut, Hang, Forge, Clear, Evict, Warm, Skipped}
use Rattle.trace_text.specs.declared.refusal.Limit.TheVariants.{Lines, Tree, Sessions}
use Rattle.trace_text.specs.declared.refusal.Limit.TheVariants.{File as OfFile}
use Rattle.trace_text.specs.declared.refusal.LineFault.TheVariants.{Grammar, Limit, Clock}
use Rattle.trace_text.specs.declared.refusal.Refusal.TheVariants.{Words, LimitBytes}
use Rattle.trace_text.specs.declared.refusal.Refusal.TheVariants.{Line as LineRefused}
use Rattle.trace_text.specs.Grammar.{line_of}
use Rattle.command_text.specs.Parts.{lines_of}
use Rattle.trace_text.specs.Refusals.{refusal_of}

abbrev said : List (List ℕ) → List (Option Line)
said lines = map line_of lines

abbrev root_name : List ℕ → Spot
root_name name = record { dirs = []; name = name }

abbrev b_in_a : Spot
b_in_a = record { dirs = codes "a" ∷ []; name = codes "b" }

-- a whole trace
trace : said (lines_of (codes "lbfs-trace 1\nterm 60000\ndrift 100\nclients 1\nfile a t:abc\njoin 1 0 0\ndo 1 0 open #2\npass 1 4 0 0\n")) ≡ (Some (Version 1) ∷ Some (Term 60000) ∷ Some (Drift 100) ∷ Some (Clients 1) ∷ Some (File (root_name (codes "a")) (Bytes (codes "abc") ∷ [])) ∷ Some (Join 1 0 0) ∷ Some (Do 1 0 (Open 2)) ∷ Some (Pass 1 4 0 0) ∷ [])
trace = refl

-- lines at the edges of the grammar
taken : said (codes "term 1" ∷ codes "term 3600000" ∷ codes "drift 0" ∷ codes "drift 3600000" ∷ codes "clients 16" ∷ codes "file ... -" ∷ codes "file a-Z_0.9 t:." ∷ codes "join 18446744073709551615 9223372036854775807 0" ∷ codes "do 0 0 open #0" ∷ codes "pass 0 18446744073709551615 0 9223372036854775807" ∷ []) ≡ (Some (Term 1) ∷ Some (Term 3600000) ∷ Some (Drift 0) ∷ Some (Drift 3600000) ∷ Some (Clients 16) ∷ Some (File (root_name (codes "...")) []) ∷ Some (File (root_name (codes "a-Z_0.9")) (Bytes (codes ".") ∷ [])) ∷ Some (Join 18446744073709551615 9223372036854775807 0) ∷ Some (Do 0 0 (Open 0)) ∷ Some (Pass 0 18446744073709551615 0 9223372036854775807) ∷ [])
taken = refl

-- each command of a client
commands : said (codes "do 1 2 open #3" ∷ codes "do 1 2 write #3 4 t:ab+z:5" ∷ codes "do 1 2 write #3 4 -" ∷ codes "do 1 2 trunc #3 4" ∷ codes "do 1 2 read #3 4 5" ∷ codes "do 1 2 close #3" ∷ codes "do 1 2 abandon #3" ∷ []) ≡ (Some (Do 1 2 (Open 3)) ∷ Some (Do 1 2 (Write 3 4 (Bytes (codes "ab") ∷ Zeros 5 ∷ []))) ∷ Some (Do 1 2 (Write 3 4 [])) ∷ Some (Do 1 2 (Trunc 3 4)) ∷ Some (Do 1 2 (Read 3 4 5)) ∷ Some (Do 1 2 (Close 3)) ∷ Some (Do 1 2 (Abandon 3)) ∷ [])
commands = refl

-- a file that is to be written anew
rewrites : said (codes "do 1 2 rewrite #3" ∷ codes "do 1 2 rewrite a/b" ∷ codes "do 1 2 rewrite /" ∷ codes "do 1 2 rewrite" ∷ []) ≡ (Some (Do 1 2 (Rewrite 3)) ∷ Some (Do 1 2 (Named (Renew b_in_a))) ∷ None ∷ None ∷ [])
rewrites = refl

-- its edges
-- each command on names
commands_on_names : said (codes "do 1 2 open a/b/c" ∷ codes "do 1 2 open 2" ∷ codes "do 1 2 make a" ∷ codes "do 1 2 mkdir a/b" ∷ codes "do 1 2 remove a" ∷ codes "do 1 2 rmdir a" ∷ codes "do 1 2 rename a a/b" ∷ codes "do 1 2 list /" ∷ codes "do 1 2 list a" ∷ codes "do 1 2 look /" ∷ codes "do 1 2 look a" ∷ []) ≡ (Some (Do 1 2 (Named (Find (record { dirs = codes "a" ∷ codes "b" ∷ []; name = codes "c" })))) ∷ Some (Do 1 2 (Named (Find (root_name (codes "2"))))) ∷ Some (Do 1 2 (Named (Make (root_name (codes "a"))))) ∷ Some (Do 1 2 (Named (MakeDir b_in_a))) ∷ Some (Do 1 2 (Named (Remove (root_name (codes "a"))))) ∷ Some (Do 1 2 (Named (RemoveDir (root_name (codes "a"))))) ∷ Some (Do 1 2 (Named (Rename (root_name (codes "a")) b_in_a))) ∷ Some (Do 1 2 (Named (Lists []))) ∷ Some (Do 1 2 (Named (Lists (codes "a" ∷ [])))) ∷ Some (Do 1 2 (Named LookRoot)) ∷ Some (Do 1 2 (Named (Look (root_name (codes "a"))))) ∷ [])
commands_on_names = refl

-- files and directories that are there from the start
opening : said (codes "dir a" ∷ codes "dir a/b" ∷ codes "file a/b -" ∷ codes "file ... z:1" ∷ []) ≡ (Some (Dir (root_name (codes "a"))) ∷ Some (Dir b_in_a) ∷ Some (File b_in_a []) ∷ Some (File (root_name (codes "...")) (Zeros 1 ∷ [])) ∷ [])
opening = refl

commands_at_edges : said (codes "do 0 0 write #0 0 -" ∷ codes "do 0 9223372036854775807 write #18446744073709551615 18446744073709551615 z:18446744073709551615" ∷ codes "do 0 0 trunc #0 0" ∷ codes "do 0 0 trunc #18446744073709551615 18446744073709551615" ∷ codes "do 0 0 read #0 0 0" ∷ codes "do 0 0 read #18446744073709551615 18446744073709551615 18446744073709551615" ∷ codes "do 0 0 close #18446744073709551615" ∷ codes "do 0 0 abandon #0" ∷ []) ≡ (Some (Do 0 0 (Write 0 0 [])) ∷ Some (Do 0 9223372036854775807 (Write 18446744073709551615 18446744073709551615 (Zeros 18446744073709551615 ∷ []))) ∷ Some (Do 0 0 (Trunc 0 0)) ∷ Some (Do 0 0 (Trunc 18446744073709551615 18446744073709551615)) ∷ Some (Do 0 0 (Read 0 0 0)) ∷ Some (Do 0 0 (Read 18446744073709551615 18446744073709551615 18446744073709551615)) ∷ Some (Do 0 0 (Close 18446744073709551615)) ∷ Some (Do 0 0 (Abandon 0)) ∷ [])
commands_at_edges = refl

-- each event, and its edges
events : said (codes "up 1 2 3" ∷ codes "up 1 all 3" ∷ codes "down 1 2 3" ∷ codes "down 1 all 3" ∷ codes "settle 1" ∷ codes "cut 1 2" ∷ codes "hang 1 2" ∷ codes "up 0 0 0" ∷ codes "up 18446744073709551615 18446744073709551615 9223372036854775807" ∷ codes "down 18446744073709551615 all 9223372036854775807" ∷ codes "down 0 0 0" ∷ codes "settle 0" ∷ codes "settle 9223372036854775807" ∷ codes "cut 18446744073709551615 9223372036854775807" ∷ codes "hang 18446744073709551615 9223372036854775807" ∷ []) ≡ (Some (Up 1 (amount.Bytes 2) 3) ∷ Some (Up 1 amount.All 3) ∷ Some (Down 1 (amount.Bytes 2) 3) ∷ Some (Down 1 amount.All 3) ∷ Some (Settle 1) ∷ Some (Cut 1 2) ∷ Some (Hang 1 2) ∷ Some (Up 0 (amount.Bytes 0) 0) ∷ Some (Up 18446744073709551615 (amount.Bytes 18446744073709551615) 9223372036854775807) ∷ Some (Down 18446744073709551615 amount.All 9223372036854775807) ∷ Some (Down 0 (amount.Bytes 0) 0) ∷ Some (Settle 0) ∷ Some (Settle 9223372036854775807) ∷ Some (Cut 18446744073709551615 9223372036854775807) ∷ Some (Hang 18446744073709551615 9223372036854775807) ∷ [])
events = refl

-- what changes an index or a cache, and its edges
indexes : said (codes "forge server 86f7e437faa5a7fc 2 0 3" ∷ codes "forge 16 0000000000000000 0 0 0" ∷ codes "forge 0 ffffffffffffffff 18446744073709551615 18446744073709551615 18446744073709551615" ∷ codes "forge server 0123456789abcdef 1 2 3" ∷ codes "clear server" ∷ codes "clear 1" ∷ codes "evict 1 2" ∷ codes "evict 18446744073709551615 0" ∷ []) ≡ (Some (Forge who.Server 9725492849409370108 2 0 3) ∷ Some (Forge (who.Client 16) 0 0 0 0) ∷ Some (Forge (who.Client 0) 18446744073709551615 18446744073709551615 18446744073709551615 18446744073709551615) ∷ Some (Forge who.Server 81985529216486895 1 2 3) ∷ Some (Clear who.Server) ∷ Some (Clear (who.Client 1)) ∷ Some (Evict 1 2) ∷ Some (Evict 18446744073709551615 0) ∷ [])
indexes = refl

-- what a client begins with
warmings : said (codes "warm 1 t:abc" ∷ codes "warm 18446744073709551615 -" ∷ codes "warm 0 z:5+t:a" ∷ []) ≡ (Some (Warm 1 (Bytes (codes "abc") ∷ [])) ∷ Some (Warm 18446744073709551615 []) ∷ Some (Warm 0 (Zeros 5 ∷ Bytes (codes "a") ∷ [])) ∷ [])
warmings = refl

-- sessions without a client, and what they send
strangers : said (codes "rawjoin 0" ∷ codes "rawjoin 9223372036854775807" ∷ codes "raw 1 00" ∷ codes "raw 18446744073709551615 80020001" ∷ codes "raw 0 09afFf" ∷ codes "raw 2 0123456789abcdef" ∷ []) ≡ (Some (RawJoin 0) ∷ Some (RawJoin 9223372036854775807) ∷ Some (Raw 1 (0 ∷ [])) ∷ Some (Raw 18446744073709551615 (128 ∷ 2 ∷ 0 ∷ 1 ∷ [])) ∷ None ∷ Some (Raw 2 (1 ∷ 35 ∷ 69 ∷ 103 ∷ 137 ∷ 171 ∷ 205 ∷ 239 ∷ [])) ∷ [])
unfolding decode_pairs
strangers = refl

-- no line of the grammar
refused : said (codes "terms 1" ∷ codes "Term 1" ∷ codes "term" ∷ codes "term " ∷ codes "term  1" ∷ codes "term 1 " ∷ codes " term 1" ∷ codes "term\t1" ∷ codes "term 1\r" ∷ codes "term 1 1" ∷ []) ≡ replicate 10 None
refused = refl

refused_number : said (codes "term 01" ∷ codes "drift 00" ∷ codes "drift +1" ∷ codes "drift -0" ∷ codes "drift 1a" ∷ codes "drift 0x1" ∷ codes "term 0" ∷ codes "term 3600001" ∷ codes "drift 3600001" ∷ codes "clients 0" ∷ codes "clients 17" ∷ codes "join 18446744073709551616 0 0" ∷ codes "join 1 9223372036854775808 0" ∷ codes "join 1 0 9223372036854775808" ∷ codes "pass 1 18446744073709551616 0 0" ∷ codes "lbfs-trace 2" ∷ codes "lbfs-trace 01" ∷ codes "lbfs-trace 0" ∷ codes "lbfs-trace" ∷ codes "lbfs-trace 1 1" ∷ []) ≡ replicate 20 None
refused_number = refl

refused_file : said (codes "file a" ∷ codes "file  -" ∷ codes "file . -" ∷ codes "file .. -" ∷ codes "file / -" ∷ codes "file /a -" ∷ codes "file a/ -" ∷ codes "file a//b -" ∷ codes "file a/. -" ∷ codes "file a~ -" ∷ codes "file a --" ∷ codes "file a t:" ∷ codes "file a t" ∷ codes "file a abc" ∷ codes "file a t:a b" ∷ []) ≡ replicate 15 None
refused_file = refl

refused_directory : said (codes "dir" ∷ codes "dir /" ∷ codes "dir ." ∷ codes "dir a/.." ∷ codes "dir a b" ∷ codes "dir  " ∷ codes "dir a -" ∷ []) ≡ replicate 7 None
refused_directory = refl

refused_event : said (codes "join 1 0" ∷ codes "join 1 0 0 0" ∷ codes "do 1 0" ∷ codes "do 1 0 open" ∷ codes "do 1 0 open /" ∷ codes "do 1 0 open #" ∷ codes "do 1 0 open #02" ∷ codes "do 1 0 open ##2" ∷ codes "do 1 0 open #2 #3" ∷ codes "do 1 0 Open #2" ∷ codes "pass 1 4 0" ∷ codes "pass 1 4 0 0 0" ∷ []) ≡ replicate 12 None
refused_event = refl

-- no command
refused_write : said (codes "do 1 2 write" ∷ codes "do 1 2 write #3" ∷ codes "do 1 2 write #3 4" ∷ codes "do 1 2 write #3 4 " ∷ codes "do 1 2 write #3 4 - -" ∷ codes "do 1 2 write #3 4 t:a t:b" ∷ codes "do 1 2 write  #3 4 -" ∷ codes "do 1 2 write #3  4 -" ∷ codes "do 1 2 write #3 4 -\n" ∷ codes "do 1 2 write 3 4 -" ∷ codes "do 1 2 write #03 4 -" ∷ codes "do 1 2 write #3 04 -" ∷ codes "do 1 2 write #3 -1 -" ∷ codes "do 1 2 write #3 4 abc" ∷ codes "do 1 2 write #3 t:a 4" ∷ codes "do 1 2 write\t#3 4 -" ∷ codes "do 1 2 Write #3 4 -" ∷ codes "do 1 2 write #3 18446744073709551616 -" ∷ codes "do 1 2 write #18446744073709551616 4 -" ∷ codes "do 1 9223372036854775808 write #3 4 -" ∷ []) ≡ replicate 20 None
refused_write = refl

refused_trunc : said (codes "do 1 2 trunc" ∷ codes "do 1 2 trunc #3" ∷ codes "do 1 2 trunc #3 4 5" ∷ codes "do 1 2 trunc #3  4" ∷ codes "do 1 2 trunc 3 4" ∷ codes "do 1 2 trunc #3 #4" ∷ codes "do 1 2 trunc #3 04" ∷ codes "do 1 2 trunc #3 -1" ∷ codes "do 1 2 trunc #3\t4" ∷ codes "do 1 2 trunc #3 18446744073709551616" ∷ codes "do 1 2 truncate #3 4" ∷ []) ≡ replicate 11 None
refused_trunc = refl

refused_read : said (codes "do 1 2 read" ∷ codes "do 1 2 read #3 4" ∷ codes "do 1 2 read #3 4 5 6" ∷ codes "do 1 2 read #3 4  5" ∷ codes "do 1 2 read 3 4 5" ∷ codes "do 1 2 read #3 04 5" ∷ codes "do 1 2 read #3 4 05" ∷ codes "do 1 2 read #3 4 all" ∷ codes "do 1 2 read #3 4 -1" ∷ codes "do 1 2 read #3 4 18446744073709551616" ∷ codes "do 1 2 READ #3 4 5" ∷ []) ≡ replicate 11 None
refused_read = refl

refused_close : said (codes "do 1 2 close" ∷ codes "do 1 2 close " ∷ codes "do 1 2 close 3" ∷ codes "do 1 2 close #" ∷ codes "do 1 2 close #03" ∷ codes "do 1 2 close # 3" ∷ codes "do 1 2 close #3 " ∷ codes "do 1 2 close #3 #4" ∷ codes "do 1 2 close\t#3" ∷ codes "do 1 2 Close #3" ∷ codes "do 1 close #3" ∷ codes "do 1 2 close #18446744073709551616" ∷ []) ≡ replicate 12 None
refused_close = refl

refused_abandon : said (codes "do 1 2 abandon" ∷ codes "do 1 2 abandon 3" ∷ codes "do 1 2 abandon #03" ∷ codes "do 1 2 abandon #3 #4" ∷ codes "do 1 2 abandon  #3" ∷ codes "do 1 2 abandoned #3" ∷ codes "do 1 2 abandon #18446744073709551616" ∷ []) ≡ replicate 7 None
refused_abandon = refl

-- no event
refused_up : said (codes "up" ∷ codes "up 1 all" ∷ codes "up 1 all 3 4" ∷ codes "up 1  all 3" ∷ codes "up 1 All 3" ∷ codes "up 1 ALL 3" ∷ codes "up 1 al 3" ∷ codes "up 1 alle 3" ∷ codes "up 1 -1 3" ∷ codes "up 1 02 3" ∷ codes "up 01 2 3" ∷ codes "up 1 2 03" ∷ codes "up 1 2\t3" ∷ codes "up 1 2 all" ∷ codes "up all 2 3" ∷ codes "up #1 2 3" ∷ codes "up 1 18446744073709551616 3" ∷ codes "up 1 2 9223372036854775808" ∷ codes "up 18446744073709551616 2 3" ∷ []) ≡ replicate 19 None
refused_up = refl

refused_down : said (codes "down" ∷ codes "down 1 all" ∷ codes "down 1 all 3 4" ∷ codes "down 1  all 3" ∷ codes "down 1 All 3" ∷ codes "down 1 ALL 3" ∷ codes "down 1 al 3" ∷ codes "down 1 alle 3" ∷ codes "down 1 -1 3" ∷ codes "down 1 02 3" ∷ codes "down 01 2 3" ∷ codes "down 1 2 03" ∷ codes "down 1 2\t3" ∷ codes "down 1 2 all" ∷ codes "down all 2 3" ∷ codes "down #1 2 3" ∷ codes "down 1 18446744073709551616 3" ∷ codes "down 1 2 9223372036854775808" ∷ codes "down 18446744073709551616 2 3" ∷ []) ≡ replicate 19 None
refused_down = refl

refused_settle : said (codes "settle" ∷ codes "settle " ∷ codes "settle  1" ∷ codes "settle 1 2" ∷ codes "settle 01" ∷ codes "settle -1" ∷ codes "settle all" ∷ codes "settle\t1" ∷ codes "Settle 1" ∷ codes "settle 9223372036854775808" ∷ []) ≡ replicate 10 None
refused_settle = refl

refused_cut : said (codes "cut" ∷ codes "cut 1" ∷ codes "cut 1 2 3" ∷ codes "cut 1  2" ∷ codes "cut 01 2" ∷ codes "cut 1 02" ∷ codes "cut -1 2" ∷ codes "cut 1\t2" ∷ codes "cut #1 2" ∷ codes "Cut 1 2" ∷ codes "cut 18446744073709551616 2" ∷ codes "cut 1 9223372036854775808" ∷ []) ≡ replicate 12 None
refused_cut = refl

refused_hang : said (codes "hang" ∷ codes "hang 1" ∷ codes "hang 1 2 3" ∷ codes "hang  1 2" ∷ codes "hang 01 2" ∷ codes "hang 1 02" ∷ codes "hang -1 2" ∷ codes "hang 1\t2" ∷ codes "hang all 2" ∷ codes "Hang 1 2" ∷ codes "hang 18446744073709551616 2" ∷ codes "hang 1 9223372036854775808" ∷ []) ≡ replicate 12 None
refused_hang = refl

refused_forge : said (codes "forge" ∷ codes "forge server 86f7e437faa5a7fc 2 0" ∷ codes "forge server 86f7e437faa5a7fc 2 0 3 4" ∷ codes "forge server  86f7e437faa5a7fc 2 0 3" ∷ codes "forge Server 86f7e437faa5a7fc 2 0 3" ∷ codes "forge servers 86f7e437faa5a7fc 2 0 3" ∷ codes "forge all 86f7e437faa5a7fc 2 0 3" ∷ codes "forge #1 86f7e437faa5a7fc 2 0 3" ∷ codes "forge 01 86f7e437faa5a7fc 2 0 3" ∷ codes "forge server 86f7e437faa5a7f 2 0 3" ∷ codes "forge server 086f7e437faa5a7fc 2 0 3" ∷ codes "forge server 86F7E437FAA5A7FC 2 0 3" ∷ codes "forge server 86f7e437faa5a7fg 2 0 3" ∷ codes "forge server 86f7e437faa5a7f` 2 0 3" ∷ codes "forge server 86f7e437faa5a7f: 2 0 3" ∷ codes "forge server x:86f7e437faa5a7 2 0 3" ∷ codes "forge server 86f7e437faa5a7fc #2 0 3" ∷ codes "forge server 86f7e437faa5a7fc 2 00 3" ∷ codes "forge server 86f7e437faa5a7fc 2 0 all" ∷ codes "forge server 86f7e437faa5a7fc 2 0 18446744073709551616" ∷ codes "forge 18446744073709551616 86f7e437faa5a7fc 2 0 3" ∷ codes "Forge server 86f7e437faa5a7fc 2 0 3" ∷ []) ≡ replicate 22 None
refused_forge = refl

refused_clear : said (codes "clear" ∷ codes "clear " ∷ codes "clear server 1" ∷ codes "clear  server" ∷ codes "clear 01" ∷ codes "clear #1" ∷ codes "clear all" ∷ codes "clear\tserver" ∷ codes "Clear server" ∷ codes "clear 18446744073709551616" ∷ []) ≡ replicate 10 None
refused_clear = refl

refused_evict : said (codes "evict" ∷ codes "evict 1" ∷ codes "evict 1 2 3" ∷ codes "evict  1 2" ∷ codes "evict 01 2" ∷ codes "evict 1 02" ∷ codes "evict 1 #2" ∷ codes "evict server 2" ∷ codes "evict 1\t2" ∷ codes "Evict 1 2" ∷ codes "evict 18446744073709551616 2" ∷ codes "evict 1 18446744073709551616" ∷ []) ≡ replicate 12 None
refused_evict = refl

refused_warm : said (codes "warm" ∷ codes "warm 1" ∷ codes "warm 1 - -" ∷ codes "warm 01 -" ∷ codes "warm #1 -" ∷ codes "warm server -" ∷ codes "warm  1 -" ∷ codes "Warm 1 -" ∷ codes "warm 1 x:0" ∷ codes "warm 18446744073709551616 -" ∷ []) ≡ replicate 10 None
refused_warm = refl

refused_strangers : said (codes "rawjoin" ∷ codes "rawjoin " ∷ codes "rawjoin 0 0" ∷ codes "rawjoin 1 0 0" ∷ codes "rawjoin 01" ∷ codes "Rawjoin 0" ∷ codes "rawjoin 9223372036854775808" ∷ codes "raw" ∷ codes "raw 1" ∷ codes "raw 1 " ∷ codes "raw 1 -" ∷ codes "raw 1 0" ∷ codes "raw 1 000" ∷ codes "raw 1 0g" ∷ codes "raw 1 0A" ∷ codes "raw 1 x:00" ∷ codes "raw 1 00 00" ∷ codes "raw  1 00" ∷ codes "raw 01 00" ∷ codes "raw #1 00" ∷ codes "raw 18446744073709551616 00" ∷ codes "Raw 1 00" ∷ []) ≡ replicate 22 None
unfolding decode_pairs
refused_strangers = refl

-- a byte above 127 is no letter
above : line_of (codes "file " ++ (195 ∷ 169 ∷ codes " -")) ≡ None
above = refl

-- empty lines and remarks, whatever bytes they hold
skipped : said (codes "" ∷ codes "#" ∷ codes "# term 1" ∷ codes "#2" ∷ (35 ∷ 0 ∷ 255 ∷ 13 ∷ []) ∷ []) ≡ replicate 5 (Some Skipped)
skipped = refl

not_skipped : said (codes " " ∷ codes " # a" ∷ codes "\r" ∷ codes "\t#" ∷ []) ≡ replicate 4 None
not_skipped = refl

-- the texts of refusals
refusals : map refusal_of (Words ∷ LimitBytes ∷ LineRefused 12 Grammar ∷ LineRefused 65537 (Limit Lines) ∷ LineRefused 5 (Limit OfFile) ∷ LineRefused 6 (Limit Tree) ∷ LineRefused 7 (Limit Sessions) ∷ LineRefused 8 (Clock (clock.Server 500 499)) ∷ LineRefused 8 (Clock (clock.Client 1 7 6)) ∷ LineRefused 8 (Clock (clock.Drift 1 0 0 300 500)) ∷ []) ≡ (codes "refused words\n" ∷ codes "refused limit bytes\n" ∷ codes "refused line 12 grammar\n" ∷ codes "refused line 65537 limit lines\n" ∷ codes "refused line 5 limit file\n" ∷ codes "refused line 6 limit tree\n" ∷ codes "refused line 7 limit sessions\n" ∷ codes "refused line 8 clock server from 500 to 499\n" ∷ codes "refused line 8 clock client 1 from 7 to 6\n" ∷ codes "refused line 8 clock client 1 from 0 0 to 300 500\n" ∷ [])
unfolding digits
refusals = refl
