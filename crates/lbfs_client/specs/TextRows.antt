-- Worked lines of a script, and of what is written.
use Rattle.std.specs.Prelude.{◌≡◌, ℕ, List, [], ◌∷◌, Option, Some, None, refl, codes, replicate, map}
use Rattle.std.specs.Fmt.{digits}
use Rattle.hex.specs.Hex.{encode_with}
use Rattle.command_text.specs.declared.command.Command.TheVariants.{Open, Rewrite, Write, Close, Named}
use Rattle.command_text.specs.declared.content.Part.TheVariants.{Bytes}
use Rattle.command_text.specs.declared.path.PathCommand.TheVariants.{Find, Rewrite as Renew, List as Lists, Make, RemoveDir}
use Rattle.command_text.specs.declared.path.Spot.{Spot}
use Rattle.register_model.specs.declared.op.Outcome.TheVariants as outcome
use Rattle.lbfs_client.specs.declared.answer.Answer.TheVariants as answer
use Rattle.lbfs_client.specs.declared.line.MountLine.{MountLine}
use Rattle.lbfs_client.specs.declared.line.MountLine.TheVariants.{Plain, Put, Get, Join, Skipped}
use Rattle.lbfs_client.specs.declared.line.Place.TheVariants.{File, Named as Path}
use Rattle.lbfs_client.specs.Answers.{answer_line}
use Rattle.lbfs_client.specs.Lines.{line_of, local_of, opening, renewing}

abbrev a_at_root : Spot
a_at_root = record { dirs = []; name = codes "a" }

abbrev a_in_d : Spot
a_in_d = record { dirs = codes "d" ∷ []; name = codes "a" }

abbrev said : List (List ℕ) → List (Option MountLine)
said lines = map line_of lines

-- a script that makes a file, stores into it, and fetches it
script : said (codes "make a" ∷ codes "put h a" ∷ codes "get a k" ∷ codes "list /" ∷ codes "rmdir a" ∷ []) ≡ (Some (Plain (Named (Make a_at_root))) ∷ Some (Put (codes "h") (Path a_at_root)) ∷ Some (Get (Path a_at_root) (codes "k")) ∷ Some (Plain (Named (Lists []))) ∷ Some (Plain (Named (RemoveDir a_at_root))) ∷ [])
script = refl

-- files by their ids, and in directories
places : said (codes "put h #2" ∷ codes "put h d/a" ∷ codes "get #2 h" ∷ codes "get d/a h" ∷ []) ≡ (Some (Put (codes "h") (File 2)) ∷ Some (Put (codes "h") (Path a_in_d)) ∷ Some (Get (File 2) (codes "h")) ∷ Some (Get (Path a_in_d) (codes "h")) ∷ [])
places = refl

commands : said (codes "open #3" ∷ codes "rewrite #3" ∷ codes "write #3 4 t:ab" ∷ codes "close #3" ∷ codes "join" ∷ []) ≡ (Some (Plain (Open 3)) ∷ Some (Plain (Rewrite 3)) ∷ Some (Plain (Write 3 4 (Bytes (codes "ab") ∷ []))) ∷ Some (Plain (Close 3)) ∷ Some Join ∷ [])
commands = refl

-- lines that say nothing
skipped : said (codes "" ∷ codes "#" ∷ codes "#put h a" ∷ codes "# any~bytes" ∷ []) ≡ replicate 4 (Some Skipped)
skipped = refl

-- no line of a script: a word too few or too many, the root, a host's name with `/`, no name at all
refused : said (codes "put" ∷ codes "put h" ∷ codes "put h a b" ∷ codes "put h /" ∷ codes "put d/h a" ∷ codes "put  a" ∷ codes "put h a~" ∷ codes "put h~ a" ∷ codes "get" ∷ codes "get a" ∷ codes "get / h" ∷ codes "get a d/h" ∷ codes "get a h k" ∷ codes "join 1" ∷ codes "join " ∷ codes "Join" ∷ codes " join" ∷ codes "do 1 0 open #2" ∷ []) ≡ replicate 18 None
refused = refl

-- the host's names are of the letters of paths alone; a path has neither of the last two, but the host may have any
host_names : map local_of (codes "h" ∷ codes "A.b_c-9" ∷ codes "." ∷ codes ".." ∷ []) ≡ (Some (codes "h") ∷ Some (codes "A.b_c-9") ∷ Some (codes ".") ∷ Some (codes "..") ∷ [])
host_names = refl

longest_name : local_of (replicate 255 97) ≡ Some (replicate 255 97)
longest_name = refl

longer_name : local_of (replicate 256 97) ≡ None
longer_name = refl

opened : map opening (File 2 ∷ Path a_in_d ∷ []) ≡ (Open 2 ∷ Named (Find a_in_d) ∷ [])
opened = refl

renewed : map renewing (File 2 ∷ Path a_in_d ∷ []) ≡ (Rewrite 2 ∷ Named (Renew a_in_d) ∷ [])
renewed = refl

-- what is written
lines : map answer_line (answer.LocalFault ∷ answer.Ended outcome.Done ∷ answer.Ended (outcome.TooBig 67108865) ∷ answer.Ended (outcome.Names (codes "a" ∷ [])) ∷ answer.Ended (outcome.Closed 2 1 (0 ∷ 171 ∷ [])) ∷ []) ≡ (codes "LocalFault\n" ∷ codes "Done\n" ∷ codes "TooBig 67108865\n" ∷ codes "Names 1 61\n" ∷ codes "Closed 2 1 00ab\n" ∷ [])
unfolding digits encode_with
lines = refl
