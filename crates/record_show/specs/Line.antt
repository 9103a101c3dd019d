-- What is shown of a record, and its line.
use Rattle.std.specs.Prelude.{ℕ, List, [], ◌++◌, length, Result, Ok, Err, codes, decimal}
use Rattle.xdr_codec.specs.declared.fault.Fault.{Fault}
use Rattle.xdr_codec.specs.Format.{Input}
use Rattle.rpc_record.specs.declared.header.Front.{Front}
use Rattle.wire.specs.Message.{program_of, body_spell}
use Rattle.wire.specs.Parse.{fault_at, parse_of}
use Rattle.wire.specs.declared.message.Side.TheVariants.{Either}
use Rattle.wire.specs.declared.message.Waiting.{Waiting}
use Rattle.wire.specs.declared.message.Message.{Message}
use Rattle.wire.specs.declared.message.Message.TheVariants as message
use Rattle.wire.specs.declared.fault.WireFault.{WireFault}
use Rattle.wire.specs.declared.fault.WireFault.TheVariants.{NotRpc}
use Rattle.record_show.specs.Names.{program_name, procedure_name, refusal_name, stat_name}
use Rattle.record_show.specs.Stat.{answer_form}
use Rattle.record_show.specs.declared.line.Line.{Line}
use Rattle.record_show.specs.declared.line.Line.TheVariants.{Call, Unfit, Answer, Bad}
use Rattle.record_show.specs.declared.stat.Stat.{Stat}
use Rattle.wire.specs.declared.message.TheConstants.{LBFS_SERVED}

-- ---- what is shown of a record

-- every program's calls, and no answer
abbrev pub any_call : Waiting
any_call = record { side = Either; lbfs = LBFS_SERVED; calls = [] }

-- an answer is looked at as far as its accept_stat or reject_stat
abbrev pub answer_line : Result ((Front × Stat) × Input) Fault → Line
answer_line (Ok a) = Answer a.0.0.xid a.0.1 (length a.1.rest)
answer_line (Err fault) = Bad (fault_at fault)

-- a call by what is read, and what is neither a call nor no message as an answer, whatever waits for it
abbrev pub read_line : Result Message WireFault → Line → Line
read_line (Ok (message.Call xid b)) answer = Call xid (program_of b) (length (body_spell b))
read_line (Ok (message.Unfit xid why)) answer = Unfit xid why
read_line (Err (NotRpc at)) answer = Bad at
read_line other answer = answer

abbrev pub line_of : List ℕ → Line
line_of contents = read_line (parse_of any_call contents) (answer_line (answer_form.read (record { at = 0; rest = contents })))

-- ---- its line

-- a blank and a number
abbrev pub number : ℕ → List ℕ
number n = codes " " ++ decimal n

-- a blank and a name
abbrev pub name : List ℕ → List ℕ
name text = codes " " ++ text

abbrev pub line_text : Line → List ℕ
line_text (Call xid p arguments) = codes "call" ++ number xid ++ name (program_name p) ++ name (procedure_name p) ++ number arguments ++ codes "\n"
line_text (Unfit xid why) = codes "unfit" ++ number xid ++ name (refusal_name why) ++ codes "\n"
line_text (Answer xid stat behind) = codes "answer" ++ number xid ++ name (stat_name stat) ++ number behind ++ codes "\n"
line_text (Bad at) = codes "bad" ++ number at ++ codes "\n"
