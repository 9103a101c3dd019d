-- The text of a history, and of its summary: lines of words that are parted by one blank. Numbers are
-- decimal, and digests and names hexadecimal.
use Rattle.std.specs.Prelude.{◌≡◌, ℕ, ◌+◌, List, [], ◌∷◌, ◌++◌, length, Option, Some, None, codes}
use Rattle.std.specs.List.{flat_map}
use Rattle.std.specs.Fmt.{decimal}
use Rattle.hex.specs.Hex.{encode_lower}
use Rattle.register_model.specs.declared.op.Word.{Word}
use Rattle.register_model.specs.declared.op.Word.TheVariants as word
use Rattle.register_model.specs.declared.op.Outcome.{Outcome}
use Rattle.register_model.specs.declared.op.Outcome.TheVariants as outcome
use Rattle.register_model.specs.declared.op.Traffic.{Traffic}
use Rattle.register_model.specs.declared.op.Op.{Op}
use Rattle.register_model.specs.declared.summary.Endings.{Endings}
use Rattle.register_model.specs.declared.summary.Totals.{Totals}
use Rattle.register_model.specs.declared.summary.Counts.{Counts}
use Rattle.register_model.specs.declared.raw.Raw.{Raw}
use Rattle.register_model.specs.declared.raw.RawKind.{RawKind}
use Rattle.register_model.specs.declared.raw.RawKind.TheVariants as kind
use Rattle.register_model.specs.Register.{History, of_clients}
use Rattle.register_model.specs.Summary.{counts_of, totals_of}

-- a word as the command of a trace has it
abbrev pub word_text : Word → List ℕ
word_text word.Open = codes "open"
word_text word.Rewrite = codes "rewrite"
word_text word.Write = codes "write"
word_text word.Trunc = codes "trunc"
word_text word.Read = codes "read"
word_text word.Close = codes "close"
word_text word.Abandon = codes "abandon"
word_text word.Make = codes "make"
word_text word.Mkdir = codes "mkdir"
word_text word.Remove = codes "remove"
word_text word.Rmdir = codes "rmdir"
word_text word.Rename = codes "rename"
word_text word.List = codes "list"
word_text word.Look = codes "look"

-- a blank and a number
abbrev pub number : ℕ → List ℕ
number n = codes " " ++ decimal n

-- a blank and bytes in hexadecimal
abbrev pub bytes_text : List ℕ → List ℕ
bytes_text bytes = codes " " ++ encode_lower bytes

-- a blank and a moment, or `-` where there is none
abbrev pub moment : Option ℕ → List ℕ
moment None = codes " -"
moment (Some n) = number n

-- how an operation ended: a word, and the numbers, digest or names that belong to it
abbrev pub outcome_text : Outcome → List ℕ
outcome_text (outcome.Opened len sha1) = codes "Opened" ++ number len ++ bytes_text sha1
outcome_text (outcome.Piece len sha1) = codes "Piece" ++ number len ++ bytes_text sha1
outcome_text (outcome.Closed version len sha1) = codes "Closed" ++ number version ++ number len ++ bytes_text sha1
outcome_text outcome.Done = codes "Done"
outcome_text (outcome.Names names) = codes "Names" ++ number (length names) ++ flat_map bytes_text names
outcome_text (outcome.Seen file kind version len) = codes "Seen" ++ number file ++ number kind ++ number version ++ number len
outcome_text outcome.Busy = codes "Busy"
outcome_text outcome.NotOpen = codes "NotOpen"
outcome_text outcome.AlreadyOpen = codes "AlreadyOpen"
outcome_text outcome.Lost = codes "Lost"
outcome_text (outcome.Changed first last) = codes "Changed" ++ number first ++ number last
outcome_text (outcome.Refused status) = codes "Refused" ++ number status
outcome_text outcome.PeerMemory = codes "PeerMemory"
outcome_text (outcome.BadPeer fault) = codes "BadPeer" ++ number fault
outcome_text (outcome.TooBig len) = codes "TooBig" ++ number len
outcome_text outcome.Memory = codes "Memory"
outcome_text outcome.NoLink = codes "NoLink"
outcome_text outcome.Running = codes "Running"

-- an ending that has nothing more to tell has this word; of any other nothing is said
abbrev pub IsWordAlone : Outcome → List ℕ → Type 0
IsWordAlone (outcome.Opened len sha1) word = Unit {0}
IsWordAlone (outcome.Piece len sha1) word = Unit {0}
IsWordAlone (outcome.Closed version len sha1) word = Unit {0}
IsWordAlone (outcome.Names names) word = Unit {0}
IsWordAlone (outcome.Seen file kind version len) word = Unit {0}
IsWordAlone (outcome.Changed first last) word = Unit {0}
IsWordAlone (outcome.Refused status) word = Unit {0}
IsWordAlone (outcome.BadPeer fault) word = Unit {0}
IsWordAlone (outcome.TooBig len) word = Unit {0}
IsWordAlone o word = word ≡ outcome_text o

-- what an operation sent and received
abbrev pub traffic_text : Traffic → List ℕ
traffic_text t = codes " cond" ++ number t.cond ++ codes " tmp" ++ number t.tmp ++ codes " read" ++ number t.read ++ codes " data" ++ number t.data

-- an operation's number, its client, its word and its file
abbrev pub op_name : ℕ → Op → List ℕ
op_name n o = codes "op" ++ number n ++ codes " client" ++ number o.client ++ codes " " ++ word_text o.word ++ codes " file" ++ number o.file

-- when it began and ended, and its point
abbrev pub op_times : Op → List ℕ
op_times o = codes " begin" ++ number o.begin ++ codes " end" ++ moment o.end ++ codes " point" ++ moment o.point

-- the line of the operation with this number
abbrev pub op_line : ℕ → Op → List ℕ
op_line n o = op_name n o ++ op_times o ++ codes " " ++ outcome_text o.outcome ++ traffic_text o.traffic ++ codes "\n"

-- the lines of operations, the first of them with this number
abbrev pub op_lines : ℕ → List Op → List ℕ
op_lines n [] = []
op_lines n (o ∷ os) = op_line n o ++ op_lines (n + 1) os

-- what a session that is no client's did to a file
abbrev pub kind_text : RawKind → List ℕ
kind_text kind.Commit = codes "Commit"
kind_text kind.Make = codes "Make"
kind_text kind.Remove = codes "Remove"

-- whose change it is, and of what
abbrev pub raw_name : Raw → List ℕ
raw_name r = codes "raw session" ++ number r.session ++ codes " " ++ kind_text r.kind ++ codes " file" ++ number r.file

-- when it was asked for and made, and what it left
abbrev pub raw_told : Raw → List ℕ
raw_told r = codes " begin" ++ number r.begin ++ codes " point" ++ number r.point ++ codes " version" ++ number r.version ++ number r.len ++ bytes_text r.sha1

abbrev pub raw_line : Raw → List ℕ
raw_line r = raw_name r ++ raw_told r ++ codes "\n"

-- the lines of such changes
abbrev pub raw_lines : Option (List Raw) → List ℕ
raw_lines None = []
raw_lines (Some rs) = flat_map raw_line rs

-- how many there were, where the run has such a session
abbrev pub raw_count : Option (List Raw) → List ℕ
raw_count None = []
raw_count (Some rs) = codes " raw" ++ number (length rs)

-- the last line: how many operations of clients there were, changes of others, and steps
abbrev pub end_line : History → List ℕ
end_line h = codes "end ops" ++ number (length (of_clients h)) ++ raw_count h.raws ++ codes " steps" ++ number h.steps ++ codes "\n"

-- the first line, with the version of LBFS that the clients speak
abbrev pub first_line : History → List ℕ
first_line h = codes "lbfs-history" ++ number h.lbfs ++ codes "\n"

-- the whole text
abbrev pub history_text : History → List ℕ
history_text h = first_line h ++ op_lines 1 (of_clients h) ++ raw_lines h.raws ++ end_line h

-- how many operations were done
abbrev pub done_text : Endings → List ℕ
done_text e = codes " opened" ++ number e.opened ++ codes " closed" ++ number e.closed ++ codes " other" ++ number e.other

-- how many were not, or not yet
abbrev pub undone_text : Endings → List ℕ
undone_text e = codes " refused" ++ number e.refused ++ codes " running" ++ number e.running

-- how many operations there were, and how they ended
abbrev pub ops_line : Counts → List ℕ
ops_line c = codes "ops" ++ number c.ops ++ done_text c.endings ++ undone_text c.endings ++ codes "\n"

-- what all of them sent and received
abbrev pub totals_line : Totals → List ℕ
totals_line t = codes "cond" ++ number t.cond ++ codes " tmp" ++ number t.tmp ++ codes " read" ++ number t.read ++ codes " data" ++ number t.data ++ codes "\n"

-- three lines of counts; the last is the number of entries in the server's journal, which is given
abbrev pub summary_text : History → ℕ → List ℕ
summary_text h journal = ops_line (counts_of h) ++ totals_line (totals_of (of_clients h)) ++ codes "journal" ++ number journal ++ codes "\n"
