-- What is shown of a stream of records.
use Rattle.std.specs.Prelude.{ℕ, zero, suc, List, [], ◌++◌, length, Option, Some, None, codes, decimal, flat_map}
use Rattle.rpc_record.specs.declared.refusal.Refusal.{Refusal}
use Rattle.rpc_record.specs.Records.{Parts, split}
use Rattle.record_show.specs.Line.{line_of, line_text}

-- a record's line
abbrev pub record_text : List ℕ → List ℕ
record_text contents = line_text (line_of contents)

-- the number of bytes that are no whole record, if there are any
abbrev pub rest_text : ℕ → List ℕ
rest_text zero = []
rest_text (suc n) = codes "rest " ++ decimal (suc n) ++ codes "\n"

-- behind the last record: that no other can follow, or what is left
abbrev pub end_text : Option Refusal → ℕ → List ℕ
end_text (Some why) rest = codes "limit\n"
end_text None rest = rest_text rest

abbrev pub parts_text : Parts → List ℕ
parts_text parts = flat_map record_text parts.records ++ end_text parts.spoilt (length parts.rest)

-- a line for each record, and what then is left
abbrev pub shown : List ℕ → List ℕ
shown input = parts_text (split input)
