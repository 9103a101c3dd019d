-- Worked histories: their texts, their counts, and what files are at moments of them.
use Rattle.std.specs.Prelude.{◌≡◌, ℕ, ◌∷◌, List, [], ◌++◌, map, Option, Some, None, codes, refl}
use Rattle.std.specs.Fmt.{digits}
use Rattle.hex.specs.Hex.{encode_with}
use Rattle.register_model.specs.declared.op.Word.{Word}
use Rattle.register_model.specs.declared.op.Word.TheVariants as word
use Rattle.register_model.specs.declared.op.Outcome.{Outcome}
use Rattle.register_model.specs.declared.op.Outcome.TheVariants as outcome
use Rattle.register_model.specs.declared.op.Op.{Op}
use Rattle.register_model.specs.declared.op.Traffic.{Traffic}
use Rattle.register_model.specs.declared.raw.Raw.{Raw}
use Rattle.register_model.specs.declared.raw.RawKind.{RawKind}
use Rattle.register_model.specs.declared.raw.RawKind.TheVariants as raw_kind
use Rattle.register_model.specs.Raw.{ops_of}
use Rattle.register_model.specs.Register.{History, value_at, Absent}
use Rattle.register_model.specs.Text.{number, word_text, moment, outcome_text, traffic_text, op_line, raw_lines, history_text, summary_text}

-- ---- digests: SHA-1 of nothing, "abc", "a", "b" and "c"

abbrev pub sha1_none : List ℕ
sha1_none = 218 ∷ 57 ∷ 163 ∷ 238 ∷ 94 ∷ 107 ∷ 75 ∷ 13 ∷ 50 ∷ 85 ∷ 191 ∷ 239 ∷ 149 ∷ 96 ∷ 24 ∷ 144 ∷ 175 ∷ 216 ∷ 7 ∷ 9 ∷ []

abbrev pub sha1_abc : List ℕ
sha1_abc = 169 ∷ 153 ∷ 62 ∷ 54 ∷ 71 ∷ 6 ∷ 129 ∷ 106 ∷ 186 ∷ 62 ∷ 37 ∷ 113 ∷ 120 ∷ 80 ∷ 194 ∷ 108 ∷ 156 ∷ 208 ∷ 216 ∷ 157 ∷ []

abbrev pub sha1_a : List ℕ
sha1_a = 134 ∷ 247 ∷ 228 ∷ 55 ∷ 250 ∷ 165 ∷ 167 ∷ 252 ∷ 225 ∷ 93 ∷ 29 ∷ 220 ∷ 185 ∷ 234 ∷ 234 ∷ 234 ∷ 55 ∷ 118 ∷ 103 ∷ 184 ∷ []

abbrev pub sha1_b : List ℕ
sha1_b = 233 ∷ 215 ∷ 31 ∷ 94 ∷ 231 ∷ 201 ∷ 45 ∷ 109 ∷ 201 ∷ 233 ∷ 47 ∷ 253 ∷ 173 ∷ 23 ∷ 184 ∷ 189 ∷ 73 ∷ 65 ∷ 143 ∷ 152 ∷ []

abbrev pub sha1_c : List ℕ
sha1_c = 132 ∷ 165 ∷ 22 ∷ 132 ∷ 27 ∷ 167 ∷ 122 ∷ 91 ∷ 70 ∷ 72 ∷ 222 ∷ 44 ∷ 208 ∷ 223 ∷ 203 ∷ 48 ∷ 234 ∷ 70 ∷ 219 ∷ 180 ∷ []

-- of two chunks of 2,048 bytes, "a" and "b", then zeros and "x" each
abbrev pub sha1_two_chunks : List ℕ
sha1_two_chunks = 169 ∷ 53 ∷ 111 ∷ 185 ∷ 67 ∷ 91 ∷ 5 ∷ 28 ∷ 203 ∷ 143 ∷ 42 ∷ 125 ∷ 170 ∷ 90 ∷ 199 ∷ 212 ∷ 162 ∷ 164 ∷ 33 ∷ 106 ∷ []

-- of these two chunks and "c"
abbrev pub sha1_three_chunks : List ℕ
sha1_three_chunks = 126 ∷ 151 ∷ 2 ∷ 170 ∷ 73 ∷ 54 ∷ 229 ∷ 55 ∷ 224 ∷ 183 ∷ 254 ∷ 32 ∷ 58 ∷ 168 ∷ 211 ∷ 149 ∷ 251 ∷ 38 ∷ 30 ∷ 63 ∷ []

-- of 20 times 2,047 zeros and "x"
abbrev pub sha1_20_chunks : List ℕ
sha1_20_chunks = 122 ∷ 238 ∷ 35 ∷ 166 ∷ 24 ∷ 233 ∷ 81 ∷ 191 ∷ 21 ∷ 29 ∷ 137 ∷ 237 ∷ 174 ∷ 19 ∷ 119 ∷ 12 ∷ 98 ∷ 142 ∷ 160 ∷ 124 ∷ []

-- of 1,025 times the same, and with "x" as its first byte
abbrev pub sha1_1025_chunks : List ℕ
sha1_1025_chunks = 17 ∷ 165 ∷ 124 ∷ 92 ∷ 151 ∷ 15 ∷ 217 ∷ 72 ∷ 156 ∷ 243 ∷ 134 ∷ 7 ∷ 241 ∷ 189 ∷ 181 ∷ 147 ∷ 54 ∷ 66 ∷ 25 ∷ 154 ∷ []

abbrev pub sha1_changed_chunks : List ℕ
sha1_changed_chunks = 181 ∷ 43 ∷ 194 ∷ 113 ∷ 88 ∷ 206 ∷ 236 ∷ 180 ∷ 205 ∷ 152 ∷ 5 ∷ 19 ∷ 17 ∷ 163 ∷ 173 ∷ 62 ∷ 14 ∷ 155 ∷ 59 ∷ 223 ∷ []

-- ---- whole histories

abbrev pub sent : ℕ → ℕ → ℕ → ℕ → Traffic
sent cond tmp read bytes = record { cond = cond; tmp = tmp; read = read; «data» = bytes }

-- client, word, file, begin, end, point, outcome, value, traffic
abbrev pub op : ℕ → Word → ℕ → ℕ → Option ℕ → Option ℕ → Outcome → List ℕ → Traffic → Op
op client w file begin end point o value traffic = record { client = client; word = w; file = file; begin = begin; end = end; point = point; outcome = o; value = value; traffic = traffic }

-- an open that got "abc"
abbrev pub one_open : History
one_open = record {
  lbfs = 1;
  opening = record { file = 2; content = codes "abc" } ∷ [];
  ops =
      op 1 word.Open 2 3 (Some 7) (Some 4) (outcome.Opened 3 sha1_abc) (codes "abc") (sent 0 0 1 3)
      ∷ [];
  raws = None;
  steps = 7;
}

pub text_of_one_open : history_text one_open ≡ codes "lbfs-history 1\n"
    ++ codes "op 1 client 1 open file 2 begin 3 end 7 point 4 Opened 3 a9993e364706816aba3e25717850c26c9cd0d89d cond 0 tmp 0 read 1 data 3\n"
    ++ codes "end ops 1 steps 7\n"
unfolding digits encode_with
text_of_one_open = refl

-- of clients that speak another version
pub text_of_another_version : history_text (record { lbfs = 4; opening = []; ops = []; raws = None; steps = 7 }) ≡ codes "lbfs-history 4\nend ops 0 steps 7\n"
unfolding digits encode_with
text_of_another_version = refl

-- an open and a close of an empty file
abbrev pub one_close : History
one_close = record {
  lbfs = 1;
  opening = record { file = 2; content = [] } ∷ [];
  ops =
      op 1 word.Open 2 3 (Some 5) (Some 4) (outcome.Opened 0 sha1_none) [] (sent 0 0 0 0)
      ∷ op 1 word.Close 2 6 (Some 11) (Some 10) (outcome.Closed 2 0 sha1_none) [] (sent 0 0 0 0)
      ∷ [];
  raws = None;
  steps = 11;
}

pub text_of_one_close : history_text one_close ≡ codes "lbfs-history 1\n"
    ++ codes "op 1 client 1 open file 2 begin 3 end 5 point 4 Opened 0 da39a3ee5e6b4b0d3255bfef95601890afd80709 cond 0 tmp 0 read 0 data 0\n"
    ++ codes "op 2 client 1 close file 2 begin 6 end 11 point 10 Closed 2 0 da39a3ee5e6b4b0d3255bfef95601890afd80709 cond 0 tmp 0 read 0 data 0\n"
    ++ codes "end ops 2 steps 11\n"
unfolding digits encode_with
text_of_one_close = refl

-- an open of no file
abbrev pub gone : History
gone = record {
  lbfs = 1;
  opening = record { file = 2; content = codes "abc" } ∷ [];
  ops =
      op 1 word.Open 9 3 (Some 5) (Some 4) (outcome.Refused 70) [] (sent 0 0 0 0)
      ∷ [];
  raws = None;
  steps = 5;
}

pub text_of_gone : history_text gone ≡ codes "lbfs-history 1\n"
    ++ codes "op 1 client 1 open file 9 begin 3 end 5 point 4 Refused 70 cond 0 tmp 0 read 0 data 0\n"
    ++ codes "end ops 1 steps 5\n"
unfolding digits encode_with
text_of_gone = refl

-- an open that has not ended
abbrev pub going : History
going = record {
  lbfs = 1;
  opening = record { file = 2; content = codes "abc" } ∷ [];
  ops =
      op 1 word.Open 9 3 None None outcome.Running [] (sent 0 0 0 0)
      ∷ [];
  raws = None;
  steps = 3;
}

pub text_of_going : history_text going ≡ codes "lbfs-history 1\n"
    ++ codes "op 1 client 1 open file 9 begin 3 end - point - Running cond 0 tmp 0 read 0 data 0\n"
    ++ codes "end ops 1 steps 3\n"
unfolding digits encode_with
text_of_going = refl

-- opens with no link, of no file, one that is under way and one beside it
abbrev pub no_link : History
no_link = record {
  lbfs = 1;
  opening = record { file = 2; content = codes "abc" } ∷ [];
  ops =
      op 1 word.Open 2 1 (Some 1) None outcome.NoLink [] (sent 0 0 0 0)
      ∷ op 1 word.Open 9 4 (Some 6) (Some 5) (outcome.Refused 70) [] (sent 0 0 0 0)
      ∷ op 1 word.Open 2 7 None None outcome.Running [] (sent 0 0 0 0)
      ∷ op 1 word.Open 2 8 (Some 8) None outcome.Busy [] (sent 0 0 0 0)
      ∷ [];
  raws = None;
  steps = 8;
}

pub text_of_no_link : history_text no_link ≡ codes "lbfs-history 1\n"
    ++ codes "op 1 client 1 open file 2 begin 1 end 1 point - NoLink cond 0 tmp 0 read 0 data 0\n"
    ++ codes "op 2 client 1 open file 9 begin 4 end 6 point 5 Refused 70 cond 0 tmp 0 read 0 data 0\n"
    ++ codes "op 3 client 1 open file 2 begin 7 end - point - Running cond 0 tmp 0 read 0 data 0\n"
    ++ codes "op 4 client 1 open file 2 begin 8 end 8 point - Busy cond 0 tmp 0 read 0 data 0\n"
    ++ codes "end ops 4 steps 8\n"
unfolding digits encode_with
text_of_no_link = refl

-- a close that was lost, and was made after its end
abbrev pub lost : History
lost = record {
  lbfs = 1;
  opening = record { file = 2; content = codes "a" } ∷ [];
  ops =
      op 1 word.Open 2 3 (Some 7) (Some 4) (outcome.Opened 1 sha1_a) (codes "a") (sent 0 0 1 1)
      ∷ op 1 word.Write 2 8 (Some 8) None outcome.Done [] (sent 0 0 0 0)
      ∷ op 1 word.Close 2 9 (Some 17) (Some 18) outcome.Lost (codes "b") (sent 1 1 0 1)
      ∷ [];
  raws = None;
  steps = 18;
}

pub text_of_lost : history_text lost ≡ codes "lbfs-history 1\n"
    ++ codes "op 1 client 1 open file 2 begin 3 end 7 point 4 Opened 1 86f7e437faa5a7fce15d1ddcb9eaeaea377667b8 cond 0 tmp 0 read 1 data 1\n"
    ++ codes "op 2 client 1 write file 2 begin 8 end 8 point - Done cond 0 tmp 0 read 0 data 0\n"
    ++ codes "op 3 client 1 close file 2 begin 9 end 17 point 18 Lost cond 1 tmp 1 read 0 data 1\n"
    ++ codes "end ops 3 steps 18\n"
unfolding digits encode_with
text_of_lost = refl

-- opens that get their content from the index or over the link, with what was kept forgotten between
abbrev pub indexed : History
indexed = record {
  lbfs = 1;
  opening = record { file = 2; content = codes "a" } ∷ record { file = 3; content = codes "a" } ∷ [];
  ops =
      op 1 word.Open 2 3 (Some 7) (Some 4) (outcome.Opened 1 sha1_a) (codes "a") (sent 0 0 1 1)
      ∷ op 1 word.Abandon 2 8 (Some 8) None outcome.Done [] (sent 0 0 0 0)
      ∷ op 1 word.Open 2 9 (Some 11) (Some 10) (outcome.Opened 1 sha1_a) (codes "a") (sent 0 0 0 0)
      ∷ op 1 word.Abandon 2 12 (Some 12) None outcome.Done [] (sent 0 0 0 0)
      ∷ op 1 word.Open 2 13 (Some 17) (Some 14) (outcome.Opened 1 sha1_a) (codes "a") (sent 0 0 1 1)
      ∷ op 1 word.Open 3 18 (Some 20) (Some 19) (outcome.Opened 1 sha1_a) (codes "a") (sent 0 0 0 0)
      ∷ [];
  raws = None;
  steps = 20;
}

pub text_of_indexed : history_text indexed ≡ codes "lbfs-history 1\n"
    ++ codes "op 1 client 1 open file 2 begin 3 end 7 point 4 Opened 1 86f7e437faa5a7fce15d1ddcb9eaeaea377667b8 cond 0 tmp 0 read 1 data 1\n"
    ++ codes "op 2 client 1 abandon file 2 begin 8 end 8 point - Done cond 0 tmp 0 read 0 data 0\n"
    ++ codes "op 3 client 1 open file 2 begin 9 end 11 point 10 Opened 1 86f7e437faa5a7fce15d1ddcb9eaeaea377667b8 cond 0 tmp 0 read 0 data 0\n"
    ++ codes "op 4 client 1 abandon file 2 begin 12 end 12 point - Done cond 0 tmp 0 read 0 data 0\n"
    ++ codes "op 5 client 1 open file 2 begin 13 end 17 point 14 Opened 1 86f7e437faa5a7fce15d1ddcb9eaeaea377667b8 cond 0 tmp 0 read 1 data 1\n"
    ++ codes "op 6 client 1 open file 3 begin 18 end 20 point 19 Opened 1 86f7e437faa5a7fce15d1ddcb9eaeaea377667b8 cond 0 tmp 0 read 0 data 0\n"
    ++ codes "end ops 6 steps 20\n"
unfolding digits encode_with
text_of_indexed = refl

-- the last of them, where the index names a wrong place
pub open_over_a_wrong_place : op_line 6 (op 1 word.Open 3 18 (Some 22) (Some 19) (outcome.Opened 1 sha1_a) (codes "a") (sent 0 0 1 1))
    ≡ codes "op 6 client 1 open file 3 begin 18 end 22 point 19 Opened 1 86f7e437faa5a7fce15d1ddcb9eaeaea377667b8 cond 0 tmp 0 read 1 data 1\n"
unfolding digits encode_with
open_over_a_wrong_place = refl

-- one client's operations in turn, each with another outcome
abbrev pub told : History
told = record {
  lbfs = 1;
  opening = record { file = 2; content = codes "a" } ∷ [];
  ops =
      op 1 word.Open 2 1 (Some 1) None outcome.NoLink [] (sent 0 0 0 0)
      ∷ op 1 word.Close 2 2 (Some 2) None outcome.NotOpen [] (sent 0 0 0 0)
      ∷ op 1 word.Open 2 5 (Some 10) (Some 7) (outcome.Opened 1 sha1_a) (codes "a") (sent 0 0 1 1)
      ∷ op 1 word.Open 2 6 (Some 6) None outcome.Busy [] (sent 0 0 0 0)
      ∷ op 1 word.Open 2 11 (Some 11) None outcome.AlreadyOpen [] (sent 0 0 0 0)
      ∷ op 1 word.Trunc 2 12 (Some 12) None (outcome.TooBig 67108865) [] (sent 0 0 0 0)
      ∷ op 1 word.Write 2 13 (Some 13) None outcome.Done [] (sent 0 0 0 0)
      ∷ op 1 word.Read 2 14 (Some 14) None (outcome.Piece 1 sha1_b) [] (sent 0 0 0 0)
      ∷ op 1 word.List 0 15 (Some 17) None (outcome.Names (codes "a" ∷ [])) [] (sent 0 0 0 0)
      ∷ op 1 word.Look 2 18 (Some 20) None (outcome.Seen 2 1 1 1) [] (sent 0 0 0 0)
      ∷ op 1 word.Open 0 21 (Some 23) None (outcome.Refused 2) [] (sent 0 0 0 0)
      ∷ op 1 word.Rewrite 2 24 (Some 26) None outcome.Done [] (sent 0 0 0 0)
      ∷ [];
  raws = None;
  steps = 26;
}

pub text_of_told : history_text told ≡ codes "lbfs-history 1\n"
    ++ codes "op 1 client 1 open file 2 begin 1 end 1 point - NoLink cond 0 tmp 0 read 0 data 0\n"
    ++ codes "op 2 client 1 close file 2 begin 2 end 2 point - NotOpen cond 0 tmp 0 read 0 data 0\n"
    ++ codes "op 3 client 1 open file 2 begin 5 end 10 point 7 Opened 1 86f7e437faa5a7fce15d1ddcb9eaeaea377667b8 cond 0 tmp 0 read 1 data 1\n"
    ++ codes "op 4 client 1 open file 2 begin 6 end 6 point - Busy cond 0 tmp 0 read 0 data 0\n"
    ++ codes "op 5 client 1 open file 2 begin 11 end 11 point - AlreadyOpen cond 0 tmp 0 read 0 data 0\n"
    ++ codes "op 6 client 1 trunc file 2 begin 12 end 12 point - TooBig 67108865 cond 0 tmp 0 read 0 data 0\n"
    ++ codes "op 7 client 1 write file 2 begin 13 end 13 point - Done cond 0 tmp 0 read 0 data 0\n"
    ++ codes "op 8 client 1 read file 2 begin 14 end 14 point - Piece 1 e9d71f5ee7c92d6dc9e92ffdad17b8bd49418f98 cond 0 tmp 0 read 0 data 0\n"
    ++ codes "op 9 client 1 list file 0 begin 15 end 17 point - Names 1 61 cond 0 tmp 0 read 0 data 0\n"
    ++ codes "op 10 client 1 look file 2 begin 18 end 20 point - Seen 2 1 1 1 cond 0 tmp 0 read 0 data 0\n"
    ++ codes "op 11 client 1 open file 0 begin 21 end 23 point - Refused 2 cond 0 tmp 0 read 0 data 0\n"
    ++ codes "op 12 client 1 rewrite file 2 begin 24 end 26 point - Done cond 0 tmp 0 read 0 data 0\n"
    ++ codes "end ops 12 steps 26\n"
unfolding digits encode_with
text_of_told = refl

-- a file is made, and another is renamed over it
abbrev pub renamed : History
renamed = record {
  lbfs = 1;
  opening = record { file = 3; content = codes "a" } ∷ [];
  ops =
      op 1 word.Make 4 3 (Some 7) (Some 6) outcome.Done [] (sent 0 0 0 0)
      ∷ op 1 word.Make 0 8 (Some 12) None (outcome.Refused 17) [] (sent 0 0 0 0)
      ∷ op 1 word.Rmdir 0 13 (Some 15) None (outcome.Refused 66) [] (sent 0 0 0 0)
      ∷ op 1 word.Rename 4 16 (Some 23) (Some 22) outcome.Done [] (sent 0 0 0 0)
      ∷ op 1 word.List 0 24 (Some 28) None (outcome.Names (codes "b" ∷ [])) [] (sent 0 0 0 0)
      ∷ op 1 word.Open 4 29 (Some 31) (Some 30) (outcome.Refused 70) [] (sent 0 0 0 0)
      ∷ [];
  raws = None;
  steps = 31;
}

pub text_of_renamed : history_text renamed ≡ codes "lbfs-history 1\n"
    ++ codes "op 1 client 1 make file 4 begin 3 end 7 point 6 Done cond 0 tmp 0 read 0 data 0\n"
    ++ codes "op 2 client 1 make file 0 begin 8 end 12 point - Refused 17 cond 0 tmp 0 read 0 data 0\n"
    ++ codes "op 3 client 1 rmdir file 0 begin 13 end 15 point - Refused 66 cond 0 tmp 0 read 0 data 0\n"
    ++ codes "op 4 client 1 rename file 4 begin 16 end 23 point 22 Done cond 0 tmp 0 read 0 data 0\n"
    ++ codes "op 5 client 1 list file 0 begin 24 end 28 point - Names 1 62 cond 0 tmp 0 read 0 data 0\n"
    ++ codes "op 6 client 1 open file 4 begin 29 end 31 point 30 Refused 70 cond 0 tmp 0 read 0 data 0\n"
    ++ codes "end ops 6 steps 31\n"
unfolding digits encode_with
text_of_renamed = refl

-- ---- single lines

-- a file is replaced while an open reads it: that open got the old content, the next one gets the new
pub open_before_the_change : op_line 3 (op 1 word.Open 2 11 (Some 25) (Some 12) (outcome.Opened 1 sha1_a) (codes "a") (sent 0 0 1 1))
    ≡ codes "op 3 client 1 open file 2 begin 11 end 25 point 12 Opened 1 86f7e437faa5a7fce15d1ddcb9eaeaea377667b8 cond 0 tmp 0 read 1 data 1\n"
unfolding digits encode_with
open_before_the_change = refl

pub close_beside_the_open : op_line 4 (op 2 word.Close 2 13 (Some 27) (Some 26) (outcome.Closed 2 1 sha1_b) (codes "b") (sent 1 1 0 1))
    ≡ codes "op 4 client 2 close file 2 begin 13 end 27 point 26 Closed 2 1 e9d71f5ee7c92d6dc9e92ffdad17b8bd49418f98 cond 1 tmp 1 read 0 data 1\n"
unfolding digits encode_with
close_beside_the_open = refl

pub open_after_the_change : op_line 6 (op 1 word.Open 2 29 (Some 35) (Some 32) (outcome.Opened 1 sha1_b) (codes "b") (sent 0 0 1 1))
    ≡ codes "op 6 client 1 open file 2 begin 29 end 35 point 32 Opened 1 e9d71f5ee7c92d6dc9e92ffdad17b8bd49418f98 cond 0 tmp 0 read 1 data 1\n"
unfolding digits encode_with
open_after_the_change = refl

-- a recall is answered too late: the close waited until the lease ran out, and the open got the new content
pub close_after_the_lease_ran_out : op_line 5 (op 2 word.Close 2 17 (Some 31) (Some 26) (outcome.Closed 2 1 sha1_b) (codes "b") (sent 1 1 0 1))
    ≡ codes "op 5 client 2 close file 2 begin 17 end 31 point 26 Closed 2 1 e9d71f5ee7c92d6dc9e92ffdad17b8bd49418f98 cond 1 tmp 1 read 0 data 1\n"
unfolding digits encode_with
close_after_the_lease_ran_out = refl

pub open_beside_an_old_answer : op_line 6 (op 1 word.Open 2 25 (Some 52) (Some 45) (outcome.Opened 1 sha1_b) (codes "b") (sent 0 0 1 1))
    ≡ codes "op 6 client 1 open file 2 begin 25 end 52 point 45 Opened 1 e9d71f5ee7c92d6dc9e92ffdad17b8bd49418f98 cond 0 tmp 0 read 1 data 1\n"
unfolding digits encode_with
open_beside_an_old_answer = refl

pub close_past_an_old_answer : op_line 9 (op 2 word.Close 2 36 (Some 53) (Some 51) (outcome.Closed 3 1 sha1_c) (codes "c") (sent 1 1 0 1))
    ≡ codes "op 9 client 2 close file 2 begin 36 end 53 point 51 Closed 3 1 84a516841ba77a5b4648de2cd0dfcb30ea46dbb4 cond 1 tmp 1 read 0 data 1\n"
unfolding digits encode_with
close_past_an_old_answer = refl

-- a close waits until the lease of a client that was lost runs out
pub close_past_a_lost_client : op_line 4 (op 2 word.Close 2 17 (Some 27) (Some 26) (outcome.Closed 2 1 sha1_b) (codes "b") (sent 1 1 0 1))
    ≡ codes "op 4 client 2 close file 2 begin 17 end 27 point 26 Closed 2 1 e9d71f5ee7c92d6dc9e92ffdad17b8bd49418f98 cond 1 tmp 1 read 0 data 1\n"
unfolding digits encode_with
close_past_a_lost_client = refl

-- an open while the content is fresh asks nothing; once it is not, the client asks
pub open_while_fresh : op_line 3 (op 1 word.Open 2 9 (Some 9) (Some 9) (outcome.Opened 1 sha1_a) (codes "a") (sent 0 0 0 0))
    ≡ codes "op 3 client 1 open file 2 begin 9 end 9 point 9 Opened 1 86f7e437faa5a7fce15d1ddcb9eaeaea377667b8 cond 0 tmp 0 read 0 data 0\n"
unfolding digits encode_with
open_while_fresh = refl

pub open_once_not_fresh : op_line 5 (op 1 word.Open 2 11 (Some 13) (Some 12) (outcome.Opened 1 sha1_a) (codes "a") (sent 0 0 0 0))
    ≡ codes "op 5 client 1 open file 2 begin 11 end 13 point 12 Opened 1 86f7e437faa5a7fce15d1ddcb9eaeaea377667b8 cond 0 tmp 0 read 0 data 0\n"
unfolding digits encode_with
open_once_not_fresh = refl

-- two closes of one file are made one after the other, and an open is answered after both
pub open_after_both_closes : op_line 5 (op 3 word.Open 2 19 (Some 48) (Some 45) (outcome.Opened 1 sha1_c) (codes "c") (sent 0 0 1 1))
    ≡ codes "op 5 client 3 open file 2 begin 19 end 48 point 45 Opened 1 84a516841ba77a5b4648de2cd0dfcb30ea46dbb4 cond 0 tmp 0 read 1 data 1\n"
unfolding digits encode_with
open_after_both_closes = refl

pub first_of_two_closes : op_line 6 (op 1 word.Close 2 20 (Some 41) (Some 38) (outcome.Closed 2 1 sha1_b) (codes "b") (sent 1 1 0 1))
    ≡ codes "op 6 client 1 close file 2 begin 20 end 41 point 38 Closed 2 1 e9d71f5ee7c92d6dc9e92ffdad17b8bd49418f98 cond 1 tmp 1 read 0 data 1\n"
unfolding digits encode_with
first_of_two_closes = refl

pub second_of_two_closes : op_line 7 (op 2 word.Close 2 28 (Some 44) (Some 43) (outcome.Closed 3 1 sha1_c) (codes "c") (sent 1 1 0 1))
    ≡ codes "op 7 client 2 close file 2 begin 28 end 44 point 43 Closed 3 1 84a516841ba77a5b4648de2cd0dfcb30ea46dbb4 cond 1 tmp 1 read 0 data 1\n"
unfolding digits encode_with
second_of_two_closes = refl

-- a close whose link is cut is made after its end, and another client's open gets its content
pub close_cut_off : op_line 3 (op 1 word.Close 2 11 (Some 19) (Some 20) outcome.Lost (codes "b") (sent 1 1 0 1))
    ≡ codes "op 3 client 1 close file 2 begin 11 end 19 point 20 Lost cond 1 tmp 1 read 0 data 1\n"
unfolding digits encode_with
close_cut_off = refl

pub open_after_a_cut_close : op_line 4 (op 2 word.Open 2 21 (Some 25) (Some 22) (outcome.Opened 1 sha1_b) (codes "b") (sent 0 0 1 1))
    ≡ codes "op 4 client 2 open file 2 begin 21 end 25 point 22 Opened 1 e9d71f5ee7c92d6dc9e92ffdad17b8bd49418f98 cond 0 tmp 0 read 1 data 1\n"
unfolding digits encode_with
open_after_a_cut_close = refl

-- a remove waits for the leases on its file; an open is made while its content is fresh, one finds no file
pub remove_past_leases : op_line 5 (op 3 word.Remove 2 19 (Some 28) (Some 27) outcome.Done [] (sent 0 0 0 0))
    ≡ codes "op 5 client 3 remove file 2 begin 19 end 28 point 27 Done cond 0 tmp 0 read 0 data 0\n"
unfolding digits encode_with
remove_past_leases = refl

pub open_before_the_remove : op_line 6 (op 2 word.Open 2 24 (Some 24) (Some 24) (outcome.Opened 1 sha1_a) (codes "a") (sent 0 0 0 0))
    ≡ codes "op 6 client 2 open file 2 begin 24 end 24 point 24 Opened 1 86f7e437faa5a7fce15d1ddcb9eaeaea377667b8 cond 0 tmp 0 read 0 data 0\n"
unfolding digits encode_with
open_before_the_remove = refl

pub open_after_the_remove : op_line 8 (op 1 word.Open 2 29 (Some 31) (Some 30) (outcome.Refused 70) [] (sent 0 0 0 0))
    ≡ codes "op 8 client 1 open file 2 begin 29 end 31 point 30 Refused 70 cond 0 tmp 0 read 0 data 0\n"
unfolding digits encode_with
open_after_the_remove = refl

-- an open of 1,025 chunks, and one of 20 with many calls under way
pub open_of_a_large_file : (content : List ℕ) → op_line 1 (op 1 word.Open 2 3 (Some 2057) (Some 4) (outcome.Opened 2099200 sha1_1025_chunks) content (sent 0 0 1025 2099200))
    ≡ codes "op 1 client 1 open file 2 begin 3 end 2057 point 4 Opened 2099200 11a57c5c970fd9489cf38607f1bdb5933642199a cond 0 tmp 0 read 1025 data 2099200\n"
unfolding digits encode_with
open_of_a_large_file content = refl

pub open_with_many_calls : (content : List ℕ) → op_line 1 (op 1 word.Open 2 3 (Some 45) (Some 4) (outcome.Opened 40960 sha1_20_chunks) content (sent 0 0 20 40960))
    ≡ codes "op 1 client 1 open file 2 begin 3 end 45 point 4 Opened 40960 7aee23a618e951bf151d89edae13770c628ea07c cond 0 tmp 0 read 20 data 40960\n"
unfolding digits encode_with
open_with_many_calls content = refl

-- ---- how a line ends

-- an outcome and the traffic, as they end a line
abbrev pub line_end : Outcome → Traffic → List ℕ
line_end o t = outcome_text o ++ traffic_text t ++ codes "\n"

-- the same after a point
abbrev pub point_and_end : Option ℕ → Outcome → Traffic → List ℕ
point_and_end p o t = codes " point" ++ moment p ++ codes " " ++ line_end o t

-- an open that met a change of its file at each attempt
pub open_that_gave_up : point_and_end None (outcome.Changed 4 5) (sent 0 0 4 4) ≡ codes " point - Changed 4 5 cond 0 tmp 0 read 4 data 4\n"
unfolding digits
open_that_gave_up = refl

-- two chunks are read, and sent back with a third, which alone travels; then nothing has to
pub open_of_two_chunks : line_end (outcome.Opened 4096 sha1_two_chunks) (sent 0 0 2 4096)
    ≡ codes "Opened 4096 a9356fb9435b051ccb8f2a7daa5ac7d4a2a4216a cond 0 tmp 0 read 2 data 4096\n"
unfolding digits encode_with
open_of_two_chunks = refl

pub close_of_three_chunks : line_end (outcome.Closed 2 4097 sha1_three_chunks) (sent 3 1 0 1)
    ≡ codes "Closed 2 4097 7e9702aa4936e537e0b7fe203aa8d395fb261e3f cond 3 tmp 1 read 0 data 1\n"
unfolding digits encode_with
close_of_three_chunks = refl

pub close_of_known_chunks : line_end (outcome.Closed 2 4097 sha1_three_chunks) (sent 3 0 0 0)
    ≡ codes "Closed 2 4097 7e9702aa4936e537e0b7fe203aa8d395fb261e3f cond 3 tmp 0 read 0 data 0\n"
unfolding digits encode_with
close_of_known_chunks = refl

-- closes where the server's index names a place of another length, one past the end, one with other bytes
pub close_past_a_wrong_length : line_end (outcome.Closed 2 1 sha1_a) (sent 1 1 0 1)
    ≡ codes "Closed 2 1 86f7e437faa5a7fce15d1ddcb9eaeaea377667b8 cond 1 tmp 1 read 0 data 1\n"
unfolding digits encode_with
close_past_a_wrong_length = refl

pub close_past_a_place_past_the_end : line_end (outcome.Closed 2 1 sha1_b) (sent 1 1 0 1)
    ≡ codes "Closed 2 1 e9d71f5ee7c92d6dc9e92ffdad17b8bd49418f98 cond 1 tmp 1 read 0 data 1\n"
unfolding digits encode_with
close_past_a_place_past_the_end = refl

pub close_past_other_bytes : line_end (outcome.Closed 2 1 sha1_c) (sent 1 1 0 1)
    ≡ codes "Closed 2 1 84a516841ba77a5b4648de2cd0dfcb30ea46dbb4 cond 1 tmp 1 read 0 data 1\n"
unfolding digits encode_with
close_past_other_bytes = refl

-- a large file whose first chunk is changed: the close sends that chunk alone, whatever it reads, and an
-- open meanwhile gets the new content whole
pub close_of_a_large_file : (read bytes : ℕ) → traffic_text (sent 1025 1 read bytes) ≡ codes " cond 1025 tmp 1 read" ++ number read ++ codes " data" ++ number bytes
unfolding digits
close_of_a_large_file read bytes = refl

pub open_of_the_changed_file : outcome_text (outcome.Opened 2099200 sha1_changed_chunks) ≡ codes "Opened 2099200 b52bc27158ceecb4cd98051311a3ad3e0e9b3bdf"
unfolding digits encode_with
open_of_the_changed_file = refl

-- a file is made, opened, filled, closed and opened again: outcomes alone
pub made : outcome_text outcome.Done ≡ codes "Done"
unfolding digits encode_with
made = refl

pub opened_empty : outcome_text (outcome.Opened 0 sha1_none) ≡ codes "Opened 0 da39a3ee5e6b4b0d3255bfef95601890afd80709"
unfolding digits encode_with
opened_empty = refl

pub closed_filled : outcome_text (outcome.Closed 2 3 sha1_abc) ≡ codes "Closed 2 3 a9993e364706816aba3e25717850c26c9cd0d89d"
unfolding digits encode_with
closed_filled = refl

pub opened_filled : outcome_text (outcome.Opened 3 sha1_abc) ≡ codes "Opened 3 a9993e364706816aba3e25717850c26c9cd0d89d"
unfolding digits encode_with
opened_filled = refl

-- what no run above meets: a server or a client without memory, a peer that breaks the protocol, a directory made
pub peer_memory : outcome_text outcome.PeerMemory ≡ codes "PeerMemory"
peer_memory = refl

pub memory : outcome_text outcome.Memory ≡ codes "Memory"
memory = refl

pub bad_peer : outcome_text (outcome.BadPeer 12) ≡ codes "BadPeer 12"
unfolding digits
bad_peer = refl

pub mkdir : word_text word.Mkdir ≡ codes "mkdir"
mkdir = refl

-- ---- counts

pub summary_of_lost : summary_text lost 1 ≡ codes "ops 3 opened 1 closed 0 other 1 refused 1 running 0\n"
    ++ codes "cond 1 tmp 1 read 1 data 2\n"
    ++ codes "journal 1\n"
unfolding digits
summary_of_lost = refl

pub summary_of_no_link : summary_text no_link 0 ≡ codes "ops 4 opened 0 closed 0 other 0 refused 3 running 1\n"
    ++ codes "cond 0 tmp 0 read 0 data 0\n"
    ++ codes "journal 0\n"
unfolding digits
summary_of_no_link = refl

-- an operation that ended so: the counts don't tell who did it, when, and on what
abbrev pub ended_so : Word → Outcome → Traffic → Op
ended_so w o traffic = op 1 w 2 1 (Some 1) None o [] traffic

-- a file of three chunks is opened, written in its first chunk, and closed
abbrev pub written : History
written = record {
  lbfs = 1;
  opening = [];
  ops =
      ended_so word.Open (outcome.Opened 9000 sha1_a) (sent 0 0 3 9000)
      ∷ ended_so word.Write outcome.Done (sent 0 0 0 0)
      ∷ ended_so word.Close (outcome.Closed 2 9000 sha1_b) (sent 3 1 0 2090)
      ∷ [];
  raws = None;
  steps = 1;
}

pub summary_of_written : summary_text written 1 ≡ codes "ops 3 opened 1 closed 1 other 1 refused 0 running 0\n"
    ++ codes "cond 3 tmp 1 read 3 data 11090\n"
    ++ codes "journal 1\n"
unfolding digits
summary_of_written = refl

-- a file of two chunks is opened and abandoned
abbrev pub left : History
left = record {
  lbfs = 1;
  opening = [];
  ops =
      ended_so word.Open (outcome.Opened 9000 sha1_a) (sent 0 0 2 9000)
      ∷ ended_so word.Abandon outcome.Done (sent 0 0 0 0)
      ∷ [];
  raws = None;
  steps = 1;
}

pub summary_of_left : summary_text left 0 ≡ codes "ops 2 opened 1 closed 0 other 1 refused 0 running 0\n"
    ++ codes "cond 0 tmp 0 read 2 data 9000\n"
    ++ codes "journal 0\n"
unfolding digits
summary_of_left = refl

-- ---- values at moments

-- at first, and at the very moment of the change
pub before_lost : value_at lost 2 18 ≡ Some (codes "a")
before_lost = refl

pub after_lost : value_at lost 2 19 ≡ Some (codes "b")
after_lost = refl

pub of_no_file : value_at lost 3 19 ≡ Absent
of_no_file = refl

-- a file that is made at 6, replaced at 10 and renamed over at 22; its operations stand in the
-- order of their begins, and not of their points
abbrev pub lives : History
lives = record {
  lbfs = 1;
  opening = record { file = 2; content = codes "a" } ∷ [];
  ops =
      op 1 word.Make 4 3 (Some 7) (Some 6) outcome.Done (codes "x") (sent 0 0 0 0)
      ∷ op 2 word.Rename 4 4 (Some 23) (Some 22) outcome.Done [] (sent 0 0 0 0)
      ∷ op 1 word.Close 4 8 (Some 11) (Some 10) (outcome.Closed 2 1 sha1_b) (codes "b") (sent 1 1 0 1)
      ∷ op 3 word.Remove 2 9 (Some 13) (Some 12) outcome.Done [] (sent 0 0 0 0)
      ∷ [];
  raws = None;
  steps = 23;
}

pub not_made : value_at lives 4 6 ≡ Absent
not_made = refl

pub made_empty : value_at lives 4 7 ≡ Some []
made_empty = refl

pub closed_over : value_at lives 4 22 ≡ Some (codes "b")
closed_over = refl

pub renamed_over : value_at lives 4 23 ≡ Absent
renamed_over = refl

pub still_there : value_at lives 2 12 ≡ Some (codes "a")
still_there = refl

pub taken_away : value_at lives 2 13 ≡ Absent
taken_away = refl

-- ---- lines of operations over restarts, caches, relays and other sessions

-- a close that waited for the leases of the start before
pub close_after_a_restart : op_line 5 (op 2 word.Close 2 21 (Some 32) (Some 31) (outcome.Closed 2 1 sha1_b) (codes "b") (sent 1 1 0 1))
    ≡ codes "op 5 client 2 close file 2 begin 21 end 32 point 31 Closed 2 1 e9d71f5ee7c92d6dc9e92ffdad17b8bd49418f98 cond 1 tmp 1 read 0 data 1\n"
unfolding digits encode_with
close_after_a_restart = refl

-- an open while its content is fresh, over a restart
pub fresh_over_a_restart : op_line 6 (op 1 word.Open 2 29 (Some 29) (Some 29) (outcome.Opened 1 sha1_a) (codes "a") (sent 0 0 0 0))
    ≡ codes "op 6 client 1 open file 2 begin 29 end 29 point 29 Opened 1 86f7e437faa5a7fce15d1ddcb9eaeaea377667b8 cond 0 tmp 0 read 0 data 0\n"
unfolding digits encode_with
fresh_over_a_restart = refl

-- a close whose base was replaced
pub close_of_another_base : op_line 7 (op 2 word.Close 2 28 (Some 44) None (outcome.Refused 20005) (codes "c") (sent 1 1 0 1))
    ≡ codes "op 7 client 2 close file 2 begin 28 end 44 point - Refused 20005 cond 1 tmp 1 read 0 data 1\n"
unfolding digits encode_with
close_of_another_base = refl

-- a close that was lost, and never took effect
pub lost_and_never : op_line 3 (op 1 word.Close 2 11 (Some 18) None outcome.Lost (codes "b") (sent 1 1 0 1))
    ≡ codes "op 3 client 1 close file 2 begin 11 end 18 point - Lost cond 1 tmp 1 read 0 data 1\n"
unfolding digits encode_with
lost_and_never = refl

-- a close that was lost, and took effect late
pub lost_and_late : op_line 3 (op 1 word.Close 2 11 (Some 18) (Some 36) outcome.Lost (codes "b") (sent 1 1 0 1))
    ≡ codes "op 3 client 1 close file 2 begin 11 end 18 point 36 Lost cond 1 tmp 1 read 0 data 1\n"
unfolding digits encode_with
lost_and_late = refl

-- the close that went before it
pub close_beside_the_lost : op_line 6 (op 2 word.Close 2 25 (Some 34) (Some 33) (outcome.Closed 2 1 sha1_c) (codes "c") (sent 1 1 0 1))
    ≡ codes "op 6 client 2 close file 2 begin 25 end 34 point 33 Closed 2 1 84a516841ba77a5b4648de2cd0dfcb30ea46dbb4 cond 1 tmp 1 read 0 data 1\n"
unfolding digits encode_with
close_beside_the_lost = refl

-- an open behind both
pub open_behind_both : op_line 7 (op 2 word.Open 2 37 (Some 40) (Some 38) (outcome.Opened 1 sha1_c) (codes "c") (sent 0 0 0 0))
    ≡ codes "op 7 client 2 open file 2 begin 37 end 40 point 38 Opened 1 84a516841ba77a5b4648de2cd0dfcb30ea46dbb4 cond 0 tmp 0 read 0 data 0\n"
unfolding digits encode_with
open_behind_both = refl

-- an open of a path whose names are fresh
pub open_by_a_fresh_name : op_line 3 (op 1 word.Open 3 15 (Some 15) (Some 15) (outcome.Opened 1 sha1_a) (codes "a") (sent 0 0 0 0))
    ≡ codes "op 3 client 1 open file 3 begin 15 end 15 point 15 Opened 1 86f7e437faa5a7fce15d1ddcb9eaeaea377667b8 cond 0 tmp 0 read 0 data 0\n"
unfolding digits encode_with
open_by_a_fresh_name = refl

-- a removal that waited for a file and its directory
pub remove_of_a_leased_name : op_line 4 (op 2 word.Remove 3 16 (Some 26) (Some 25) outcome.Done [] (sent 0 0 0 0))
    ≡ codes "op 4 client 2 remove file 3 begin 16 end 26 point 25 Done cond 0 tmp 0 read 0 data 0\n"
unfolding digits encode_with
remove_of_a_leased_name = refl

-- an open whose chunk was known from before
pub open_from_a_cache_file : op_line 1 (op 1 word.Open 2 3 (Some 5) (Some 4) (outcome.Opened 3 sha1_abc) (codes "abc") (sent 0 0 0 0))
    ≡ codes "op 1 client 1 open file 2 begin 3 end 5 point 4 Opened 3 a9993e364706816aba3e25717850c26c9cd0d89d cond 0 tmp 0 read 0 data 0\n"
unfolding digits encode_with
open_from_a_cache_file = refl

-- an open through a relay
pub open_through_a_relay : op_line 1 (op 1 word.Open 2 5 (Some 13) (Some 7) (outcome.Opened 1 sha1_a) (codes "a") (sent 0 0 1 1))
    ≡ codes "op 1 client 1 open file 2 begin 5 end 13 point 7 Opened 1 86f7e437faa5a7fce15d1ddcb9eaeaea377667b8 cond 0 tmp 0 read 1 data 1\n"
unfolding digits encode_with
open_through_a_relay = refl

-- an open while its content is fresh, behind a relay
pub fresh_behind_a_relay : op_line 3 (op 1 word.Open 2 15 (Some 15) (Some 15) (outcome.Opened 1 sha1_a) (codes "a") (sent 0 0 0 0))
    ≡ codes "op 3 client 1 open file 2 begin 15 end 15 point 15 Opened 1 86f7e437faa5a7fce15d1ddcb9eaeaea377667b8 cond 0 tmp 0 read 0 data 0\n"
unfolding digits encode_with
fresh_behind_a_relay = refl

-- a close that waited for the relay
pub close_behind_a_relay : op_line 4 (op 2 word.Close 2 22 (Some 36) (Some 35) (outcome.Closed 2 1 sha1_b) (codes "b") (sent 1 1 0 1))
    ≡ codes "op 4 client 2 close file 2 begin 22 end 36 point 35 Closed 2 1 e9d71f5ee7c92d6dc9e92ffdad17b8bd49418f98 cond 1 tmp 1 read 0 data 1\n"
unfolding digits encode_with
close_behind_a_relay = refl

-- ---- sessions without a client

abbrev pub raw : ℕ → RawKind → ℕ → ℕ → ℕ → ℕ → ℕ → List ℕ → List ℕ → Raw
raw session kind file begin point version len sha1 value = record { session = session; kind = kind; file = file; begin = begin; point = point; version = version; len = len; sha1 = sha1; value = value }

-- a stranger empties a file, and an open gets that
abbrev pub emptied : List Raw
emptied = raw 2 raw_kind.Commit 2 5 6 2 0 sha1_none [] ∷ []

abbrev pub by_a_stranger : History
by_a_stranger = record {
  lbfs = 1;
  opening = record { file = 2; content = codes "a" } ∷ [];
  ops = op 1 word.Open 2 7 (Some 9) (Some 8) (outcome.Opened 0 sha1_none) [] (sent 0 0 0 0) ∷ ops_of (Some emptied);
  raws = Some emptied;
  steps = 9;
}

pub text_of_by_a_stranger : history_text by_a_stranger ≡ codes "lbfs-history 1\n"
    ++ codes "op 1 client 1 open file 2 begin 7 end 9 point 8 Opened 0 da39a3ee5e6b4b0d3255bfef95601890afd80709 cond 0 tmp 0 read 0 data 0\n"
    ++ codes "raw session 2 Commit file 2 begin 5 point 6 version 2 0 da39a3ee5e6b4b0d3255bfef95601890afd80709\n"
    ++ codes "end ops 1 raw 1 steps 9\n"
unfolding digits encode_with
text_of_by_a_stranger = refl

-- it isn't counted but in the journal
pub summary_of_by_a_stranger : summary_text by_a_stranger 1 ≡ codes "ops 1 opened 1 closed 0 other 0 refused 0 running 0\ncond 0 tmp 0 read 0 data 0\njournal 1\n"
unfolding digits
summary_of_by_a_stranger = refl

-- and at its point it is a change of the file
pub value_by_a_stranger : map (value_at by_a_stranger 2) (1 ∷ 6 ∷ 7 ∷ []) ≡ Some (codes "a") ∷ Some (codes "a") ∷ Some [] ∷ []
value_by_a_stranger = refl

-- one that did nothing
pub text_of_an_idle_stranger : history_text (record { lbfs = 1; opening = []; ops = []; raws = Some []; steps = 2 }) ≡ codes "lbfs-history 1\nend ops 0 raw 0 steps 2\n"
unfolding digits
text_of_an_idle_stranger = refl

-- what is made and removed
pub lines_of_strangers : raw_lines (Some (raw 1 raw_kind.Make 3 5 5 1 0 sha1_none [] ∷ raw 12 raw_kind.Remove 3 9 11 2 0 sha1_none [] ∷ []))
    ≡ codes "raw session 1 Make file 3 begin 5 point 5 version 1 0 da39a3ee5e6b4b0d3255bfef95601890afd80709\nraw session 12 Remove file 3 begin 9 point 11 version 2 0 da39a3ee5e6b4b0d3255bfef95601890afd80709\n"
unfolding digits encode_with
lines_of_strangers = refl

-- an open behind the commit of a session without a client
pub open_of_what_a_stranger_left : op_line 1 (op 1 word.Open 2 7 (Some 9) (Some 8) (outcome.Opened 0 sha1_none) [] (sent 0 0 0 0))
    ≡ codes "op 1 client 1 open file 2 begin 7 end 9 point 8 Opened 0 da39a3ee5e6b4b0d3255bfef95601890afd80709 cond 0 tmp 0 read 0 data 0\n"
unfolding digits encode_with
open_of_what_a_stranger_left = refl
