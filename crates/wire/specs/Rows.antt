-- Worked examples. Records are written in words of four bytes.
use Rattle.std.specs.Prelude.{◌≡◌, ℕ, List, [], ◌∷◌, ◌++◌, true, Ok, Err, replicate, refl}
use Rattle.std.specs.Int.{w32, to_be_bytes}
use Rattle.std.specs.List.{flat_map}
use Rattle.xdr_codec.specs.Xdr.{u32_form, u64_form, bool_form, count_form, opaque_spell, opaque_read, bytes_form}
use Rattle.xdr_codec.specs.Answers.{outcome_form}
use Rattle.xdr_codec.specs.declared.answer.Answer.TheVariants.{Done}
use Rattle.nfs3_calls.specs.declared.message.NfsProc.TheVariants as nfs_proc
use Rattle.nfs3_calls.specs.declared.message.Nfs.TheVariants as nfs
use Rattle.nfs3_calls.specs.Calls.{range_form, place_form, new_file_form}
use Rattle.nfs3_calls.specs.Choices.{how_made_form, set_attr_form, set_time_form}
use Rattle.xdr_codec.specs.Handle.{handle_bytes}
use Rattle.hash_calls.specs.declared.message.LbProc.TheVariants as lb_proc
use Rattle.hash_calls.specs.declared.message.Lb.TheVariants as lb
use Rattle.hash_calls.specs.Calls.{hashes_form, look_on_form}
use Rattle.hash_calls.specs.declared.message.BackProc.TheVariants as back_proc
use Rattle.hash_calls.specs.declared.message.Back.TheVariants as back
use Rattle.rpc_record.specs.Header.{direction_form, front_form, auth_form, call_form, accept_form, denial_form, reply_form}
use Rattle.wire.specs.Message.{message_spell}
use Rattle.wire.specs.Parse.{parse_of}
use Rattle.wire.specs.declared.message.Side.{Side}
use Rattle.wire.specs.declared.message.Side.TheVariants.{Server, Client, Either}
use Rattle.wire.specs.declared.message.Body.TheVariants as body
use Rattle.wire.specs.declared.message.Program.TheVariants as program
use Rattle.wire.specs.declared.message.Program.{Program}
use Rattle.wire.specs.declared.message.Waiting.{Waiting}
use Rattle.wire.specs.declared.message.RpcRefusal.TheVariants as refusal
use Rattle.wire.specs.declared.message.Message.TheVariants.{Call, Answer, Refuse, Unfit}
use Rattle.wire.specs.declared.fault.WireFault.TheVariants.{NotRpc, UnknownXid, Garbage}

abbrev words : List ℕ → List ℕ
words ws = flat_map (to_be_bytes w32) ws

abbrev calls_at : Side → Waiting
calls_at side = record { side = side; lbfs = 1; calls = [] }

-- a client that awaits one answer
abbrev awaits : ℕ → Program → Waiting
awaits xid p = record { side = Client; lbfs = 1; calls = record { xid = xid; program = p } ∷ [] }

-- ---- calls

abbrev null_call : List ℕ
null_call = words (7 ∷ 0 ∷ 2 ∷ 536890434 ∷ 1 ∷ 0 ∷ 0 ∷ 0 ∷ 0 ∷ 0 ∷ [])

null_row : parse_of (calls_at Server) null_call ≡ Ok (Call 7 (body.Lb (lb.Null 1)))
unfolding front_form direction_form call_form auth_form u32_form opaque_read count_form bytes_form
null_row = refl

null_spelled_row : message_spell (Call 7 (body.Lb (lb.Null 1))) ≡ null_call
unfolding front_form direction_form call_form auth_form u32_form opaque_spell
null_spelled_row = refl

-- a client does not serve files
other_side_row : parse_of (calls_at Client) null_call ≡ Ok (Unfit 7 refusal.ProgUnavail)
unfolding front_form direction_form call_form auth_form u32_form opaque_read count_form bytes_form
other_side_row = refl

-- a recall of the lease on file 2
abbrev recall : List ℕ
recall = words (1 ∷ 0 ∷ 2 ∷ 536890435 ∷ 1 ∷ 1 ∷ 0 ∷ 0 ∷ 0 ∷ 0 ∷ 16 ∷ 1279406129 ∷ 0 ∷ 0 ∷ 2 ∷ [])

recall_row : parse_of (calls_at Client) recall ≡ Ok (Call 1 (body.Back (back.Recall (handle_bytes 2))))
unfolding front_form direction_form call_form auth_form u32_form opaque_read count_form bytes_form
recall_row = refl

recall_spelled_row : message_spell (Call 1 (body.Back (back.Recall (handle_bytes 2)))) ≡ recall
unfolding front_form direction_form call_form auth_form u32_form opaque_spell
recall_spelled_row = refl

-- a server is called no callback; where records of either end are read, both programs are served
recall_there_row : parse_of (calls_at Server) recall ≡ Ok (Unfit 1 refusal.ProgUnavail)
unfolding front_form direction_form call_form auth_form u32_form opaque_read count_form bytes_form
recall_there_row = refl

either_recall_row : parse_of (calls_at Either) recall ≡ Ok (Call 1 (body.Back (back.Recall (handle_bytes 2))))
unfolding front_form direction_form call_form auth_form u32_form opaque_read count_form bytes_form
either_recall_row = refl

either_null_row : parse_of (calls_at Either) null_call ≡ Ok (Call 7 (body.Lb (lb.Null 1)))
unfolding front_form direction_form call_form auth_form u32_form opaque_read count_form bytes_form
either_null_row = refl

-- authentication items are read over: here flavor 1 with four bytes
auth_row : parse_of (calls_at Server) (words (7 ∷ 0 ∷ 2 ∷ 100003 ∷ 3 ∷ 0 ∷ 1 ∷ 4 ∷ 9 ∷ 0 ∷ 0 ∷ [])) ≡ Ok (Call 7 (body.Nfs nfs.Null))
unfolding front_form direction_form call_form auth_form u32_form opaque_read count_form bytes_form
auth_row = refl

read_row : parse_of (calls_at Server) (words (8 ∷ 0 ∷ 2 ∷ 100003 ∷ 3 ∷ 6 ∷ 0 ∷ 0 ∷ 0 ∷ 0 ∷ 4 ∷ 1279406129 ∷ 0 ∷ 5 ∷ 100 ∷ [])) ≡ Ok (Call 8 (body.Nfs (nfs.Read (record { handle = 76 ∷ 66 ∷ 48 ∷ 49 ∷ []; offset = 5; count = 100 }))))
unfolding front_form direction_form call_form auth_form u32_form u64_form opaque_read count_form bytes_form range_form
read_row = refl

-- ---- calls that can't be taken, in the order of the tests

-- another version of RPC, and nothing behind it
rpc_row : parse_of (calls_at Server) (words (7 ∷ 0 ∷ 3 ∷ [])) ≡ Ok (Unfit 7 (refusal.RpcMismatch 2 2))
unfolding front_form direction_form call_form u32_form
rpc_row = refl

-- the program before its version, its version before the procedure
program_row : parse_of (calls_at Server) (words (7 ∷ 0 ∷ 2 ∷ 5 ∷ 9 ∷ 99 ∷ 0 ∷ 0 ∷ 0 ∷ 0 ∷ [])) ≡ Ok (Unfit 7 refusal.ProgUnavail)
unfolding front_form direction_form call_form auth_form u32_form opaque_read count_form bytes_form
program_row = refl

nfs_version_row : parse_of (calls_at Server) (words (7 ∷ 0 ∷ 2 ∷ 100003 ∷ 2 ∷ 99 ∷ 0 ∷ 0 ∷ 0 ∷ 0 ∷ [])) ≡ Ok (Unfit 7 (refusal.ProgMismatch 3 3))
unfolding front_form direction_form call_form auth_form u32_form opaque_read count_form bytes_form
nfs_version_row = refl

lbfs_version_row : parse_of (calls_at Server) (words (7 ∷ 0 ∷ 2 ∷ 536890434 ∷ 9 ∷ 99 ∷ 0 ∷ 0 ∷ 0 ∷ 0 ∷ [])) ≡ Ok (Unfit 7 (refusal.ProgMismatch 1 1))
unfolding front_form direction_form call_form auth_form u32_form opaque_read count_form bytes_form
lbfs_version_row = refl

-- LBFS is served in the versions from 1 on, here up to 1, and there up to 4; a version that isn't served isn't answered
abbrev null_call_in : ℕ → List ℕ
null_call_in v = words (7 ∷ 0 ∷ 2 ∷ 536890434 ∷ v ∷ 0 ∷ 0 ∷ 0 ∷ 0 ∷ 0 ∷ [])

abbrev serving : ℕ → Waiting
serving v = record { side = Server; lbfs = v; calls = [] }

second_version_row : parse_of (serving 1) (null_call_in 2) ≡ Ok (Unfit 7 (refusal.ProgMismatch 1 1))
unfolding front_form direction_form call_form auth_form u32_form opaque_read count_form bytes_form
second_version_row = refl

no_version_row : parse_of (serving 1) (null_call_in 0) ≡ Ok (Unfit 7 (refusal.ProgMismatch 1 1))
unfolding front_form direction_form call_form auth_form u32_form opaque_read count_form bytes_form
no_version_row = refl

fourth_version_row : parse_of (serving 4) (null_call_in 4) ≡ Ok (Call 7 (body.Lb (lb.Null 4)))
unfolding front_form direction_form call_form auth_form u32_form opaque_read count_form bytes_form
fourth_version_row = refl

fourth_spelled_row : message_spell (Call 7 (body.Lb (lb.Null 4))) ≡ null_call_in 4
unfolding front_form direction_form call_form auth_form u32_form opaque_spell
fourth_spelled_row = refl

fifth_version_row : parse_of (serving 4) (null_call_in 5) ≡ Ok (Unfit 7 (refusal.ProgMismatch 1 4))
unfolding front_form direction_form call_form auth_form u32_form opaque_read count_form bytes_form
fifth_version_row = refl

-- LOOKLEASE, procedure 7, of "a" in the root: version 4 has it, and version 3 has no such procedure
abbrev look_call_in : ℕ → List ℕ
look_call_in v = words (7 ∷ 0 ∷ 2 ∷ 536890434 ∷ v ∷ 7 ∷ 0 ∷ 0 ∷ 0 ∷ 0 ∷ 16 ∷ 1279406129 ∷ 0 ∷ 0 ∷ 1 ∷ 1 ∷ 1627389952 ∷ [])

look_row : parse_of (serving 4) (look_call_in 4) ≡ Ok (Call 7 (body.Lb (lb.LookLease (record { lbfs = 4; dir = handle_bytes 1; name = 97 ∷ [] }))))
unfolding front_form direction_form call_form auth_form u32_form opaque_read count_form bytes_form look_on_form
look_row = refl

no_look_row : parse_of (serving 4) (look_call_in 3) ≡ Ok (Unfit 7 refusal.ProcUnavail)
unfolding front_form direction_form call_form auth_form u32_form opaque_read count_form bytes_form
no_look_row = refl

procedure_row : parse_of (calls_at Server) (words (7 ∷ 0 ∷ 2 ∷ 100003 ∷ 3 ∷ 99 ∷ 0 ∷ 0 ∷ 0 ∷ 0 ∷ 1 ∷ [])) ≡ Ok (Unfit 7 refusal.ProcUnavail)
unfolding front_form direction_form call_form auth_form u32_form opaque_read count_form bytes_form
procedure_row = refl

back_version_row : parse_of (calls_at Client) (words (7 ∷ 0 ∷ 2 ∷ 536890435 ∷ 9 ∷ 99 ∷ 0 ∷ 0 ∷ 0 ∷ 0 ∷ [])) ≡ Ok (Unfit 7 (refusal.ProgMismatch 1 1))
unfolding front_form direction_form call_form auth_form u32_form opaque_read count_form bytes_form
back_version_row = refl

-- READ is procedure 6 of NFS, and WRITE, 7, is not served
write_row : parse_of (calls_at Server) (words (7 ∷ 0 ∷ 2 ∷ 100003 ∷ 3 ∷ 7 ∷ 0 ∷ 0 ∷ 0 ∷ 0 ∷ [])) ≡ Ok (Unfit 7 refusal.ProcUnavail)
unfolding front_form direction_form call_form auth_form u32_form opaque_read count_form bytes_form
write_row = refl

-- a LOOKUP of the name "a" in the root, whose fill isn't zero
fill_row : parse_of (calls_at Server) (words (9 ∷ 0 ∷ 2 ∷ 100003 ∷ 3 ∷ 3 ∷ 0 ∷ 0 ∷ 0 ∷ 0 ∷ 16 ∷ 1279406129 ∷ 0 ∷ 0 ∷ 1 ∷ 1 ∷ 1627389953 ∷ [])) ≡ Ok (Unfit 9 refusal.GarbageArgs)
unfolding front_form direction_form call_form auth_form u32_form opaque_read count_form bytes_form place_form
fill_row = refl

-- the same with fill that is zero
lookup_row : parse_of (calls_at Server) (words (9 ∷ 0 ∷ 2 ∷ 100003 ∷ 3 ∷ 3 ∷ 0 ∷ 0 ∷ 0 ∷ 0 ∷ 16 ∷ 1279406129 ∷ 0 ∷ 0 ∷ 1 ∷ 1 ∷ 1627389952 ∷ [])) ≡ Ok (Call 9 (body.Nfs (nfs.Lookup (record { dir = handle_bytes 1; name = 97 ∷ [] }))))
unfolding front_form direction_form call_form auth_form u32_form opaque_read count_form bytes_form place_form
lookup_row = refl

-- a CREATE whose first truth value is 2
bool_row : parse_of (calls_at Server) (words (9 ∷ 0 ∷ 2 ∷ 100003 ∷ 3 ∷ 8 ∷ 0 ∷ 0 ∷ 0 ∷ 0 ∷ 16 ∷ 1279406129 ∷ 0 ∷ 0 ∷ 1 ∷ 1 ∷ 1627389952 ∷ 0 ∷ 2 ∷ 0 ∷ 0 ∷ 0 ∷ 0 ∷ 0 ∷ [])) ≡ Ok (Unfit 9 refusal.GarbageArgs)
unfolding front_form direction_form call_form auth_form u32_form bool_form opaque_read count_form bytes_form place_form new_file_form how_made_form set_attr_form set_time_form
bool_row = refl

-- a GETATTR with a word behind its handle
behind_handle_row : parse_of (calls_at Server) (words (9 ∷ 0 ∷ 2 ∷ 100003 ∷ 3 ∷ 1 ∷ 0 ∷ 0 ∷ 0 ∷ 0 ∷ 16 ∷ 1279406129 ∷ 0 ∷ 0 ∷ 1 ∷ 0 ∷ [])) ≡ Ok (Unfit 9 refusal.GarbageArgs)
unfolding front_form direction_form call_form auth_form u32_form opaque_read count_form bytes_form
behind_handle_row = refl

-- a word too many behind the arguments
trailing_row : parse_of (calls_at Server) (words (7 ∷ 0 ∷ 2 ∷ 100003 ∷ 3 ∷ 0 ∷ 0 ∷ 0 ∷ 0 ∷ 0 ∷ 1 ∷ [])) ≡ Ok (Unfit 7 refusal.GarbageArgs)
unfolding front_form direction_form call_form auth_form u32_form opaque_read count_form bytes_form
trailing_row = refl

-- ---- no messages

short_row : parse_of (calls_at Server) (0 ∷ 0 ∷ 0 ∷ 7 ∷ 0 ∷ 0 ∷ []) ≡ Err (NotRpc 4)
unfolding front_form direction_form u32_form
short_row = refl

direction_row : parse_of (calls_at Server) (words (7 ∷ 2 ∷ [])) ≡ Err (NotRpc 4)
unfolding front_form direction_form u32_form
direction_row = refl

-- the credentials' length stands at 28
auth_length_row : parse_of (calls_at Server) (words (7 ∷ 0 ∷ 2 ∷ 100003 ∷ 3 ∷ 0 ∷ 0 ∷ 401 ∷ []) ++ replicate 412 0) ≡ Err (NotRpc 28)
unfolding front_form direction_form call_form auth_form u32_form opaque_read count_form bytes_form
auth_length_row = refl

-- ---- answers

null_answer_row : parse_of (awaits 7 (program.Lb lb_proc.Null)) (words (7 ∷ 1 ∷ 0 ∷ 0 ∷ 0 ∷ 0 ∷ [])) ≡ Ok (Answer 7 (body.Lb lb.NullAnswer))
unfolding front_form direction_form reply_form auth_form accept_form u32_form opaque_read count_form bytes_form
null_answer_row = refl

-- a RECALL is answered by a header alone, and a status behind it is garbage
recalled_row : parse_of (awaits 7 (program.Back back_proc.Recall)) (words (7 ∷ 1 ∷ 0 ∷ 0 ∷ 0 ∷ 0 ∷ [])) ≡ Ok (Answer 7 (body.Back back.RecallAnswer))
unfolding front_form direction_form reply_form auth_form accept_form u32_form opaque_read count_form bytes_form
recalled_row = refl

recall_status_row : parse_of (awaits 7 (program.Back back_proc.Recall)) (words (7 ∷ 1 ∷ 0 ∷ 0 ∷ 0 ∷ 0 ∷ 0 ∷ [])) ≡ Err (Garbage 24)
unfolding front_form direction_form reply_form auth_form accept_form u32_form opaque_read count_form bytes_form
recall_status_row = refl

-- an empty file of version 1, and a lease of a minute
hashes_row : parse_of (awaits 1 (program.Lb lb_proc.GetHash)) (words (1 ∷ 1 ∷ 0 ∷ 0 ∷ 0 ∷ 0 ∷ 0 ∷ 0 ∷ 1 ∷ 60000 ∷ 0 ∷ 0 ∷ 0 ∷ 1 ∷ [])) ≡ Ok (Answer 1 (body.Lb (lb.GetHashAnswer (Done (record { version = 1; term = 60000; size = 0; pairs = []; eof = true })))))
unfolding front_form direction_form reply_form auth_form accept_form u32_form u64_form bool_form opaque_read count_form bytes_form outcome_form hashes_form
hashes_row = refl

garbage_args_row : parse_of (awaits 9 (program.Nfs nfs_proc.Read)) (words (9 ∷ 1 ∷ 0 ∷ 0 ∷ 0 ∷ 4 ∷ [])) ≡ Ok (Refuse 9 refusal.GarbageArgs)
unfolding front_form direction_form reply_form auth_form accept_form u32_form opaque_read count_form bytes_form
garbage_args_row = refl

denied_row : parse_of (awaits 9 (program.Nfs nfs_proc.Read)) (words (9 ∷ 1 ∷ 1 ∷ 1 ∷ 5 ∷ [])) ≡ Ok (Refuse 9 (refusal.AuthError 5))
unfolding front_form direction_form reply_form denial_form u32_form
denied_row = refl

-- an xid that does not wait, whatever follows
unknown_row : parse_of (awaits 9 (program.Nfs nfs_proc.Read)) (words (8 ∷ 1 ∷ 77 ∷ [])) ≡ Err (UnknownXid 8)
unfolding front_form direction_form u32_form
unknown_row = refl

-- an unknown accept_stat, at 20; a word behind a refusal, at 24
accept_row : parse_of (awaits 9 (program.Nfs nfs_proc.Read)) (words (9 ∷ 1 ∷ 0 ∷ 0 ∷ 0 ∷ 6 ∷ [])) ≡ Err (Garbage 20)
unfolding front_form direction_form reply_form auth_form accept_form u32_form opaque_read count_form bytes_form
accept_row = refl

behind_refusal_row : parse_of (awaits 9 (program.Nfs nfs_proc.Read)) (words (9 ∷ 1 ∷ 0 ∷ 0 ∷ 0 ∷ 1 ∷ 0 ∷ [])) ≡ Err (Garbage 24)
unfolding front_form direction_form reply_form auth_form accept_form u32_form opaque_read count_form bytes_form
behind_refusal_row = refl
