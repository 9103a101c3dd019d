-- What clients of this project ask, and what the server answers: the messages that are on their way in a run.
use Rattle.std.specs.Prelude.{◌≡◌, ℕ, List, [], ◌∷◌, ◌++◌, map, Option, None}
use Rattle.chunk_cut.specs.declared.chunk.Chunk.{Chunk}
use Rattle.xdr_codec.specs.declared.answer.Answer.{Answer}
use Rattle.xdr_codec.specs.declared.attr.Attr.{Attr}
use Rattle.hash_calls.specs.declared.call.Committed.{Committed}
use Rattle.hash_calls.specs.declared.call.Hashes.{Hashes}
use Rattle.hash_calls.specs.declared.call.Leased.{Leased}
use Rattle.hash_calls.specs.declared.message.Back.TheVariants as back
use Rattle.hash_calls.specs.declared.message.Lb.TheVariants as lb
use Rattle.hash_calls.specs.declared.message.LbProc.TheVariants as lb_proc
use Rattle.nfs3_calls.specs.declared.call.Piece.{Piece}
use Rattle.nfs3_calls.specs.Nfs.{nfs_proc}
use Rattle.nfs3_calls.specs.declared.change.Moved.{Moved}
use Rattle.nfs3_calls.specs.declared.change.Wcc.{Wcc}
use Rattle.nfs3_calls.specs.declared.listing.Listing.{Listing}
use Rattle.nfs3_calls.specs.declared.making.Made.{Made as NewNode}
use Rattle.nfs3_calls.specs.declared.place.Found.{Found}
use Rattle.nfs3_calls.specs.declared.message.Nfs.{Nfs}
use Rattle.nfs3_calls.specs.declared.message.Nfs.TheVariants as nfs
use Rattle.nfs3_calls.specs.declared.message.NfsProc.TheVariants as nfs_procs
use Rattle.wire.specs.declared.message.Body.{Body}
use Rattle.wire.specs.declared.message.Body.TheVariants as body
use Rattle.wire.specs.declared.message.Message.{Message}
use Rattle.wire.specs.declared.message.Message.TheVariants as message
use Rattle.wire.specs.declared.message.Program.{Program}
use Rattle.wire.specs.declared.message.Program.TheVariants as program
use Rattle.path_calls.specs.Walk.{next_call}
use Rattle.path_calls.specs.declared.walk.Walk.{Walk}
use Rattle.file_open.specs.Opening.{lease_call, hash_call, read_call}
use Rattle.file_close.specs.Closing.{make_call, cond_call, commit_call}
use Rattle.lease_law.specs.Claims.{recall_message}
use Rattle.trace_ends.specs.Wires.{Wire, bytes_of}

-- ---- calls and answers

pub data Call : Type 0 where
  Lease : (file : ℕ) → Call
  Hash : (file offset : ℕ) → Call
  Read : (file : ℕ) → Chunk → Call
  Make : (temp file : ℕ) → Call
  Name : (temp : ℕ) → Chunk → Call
  Send : (temp start : ℕ) → (bytes : List ℕ) → Call
  Commit : (temp file size : ℕ) → Call
  -- the next call of a command on names
  Walks : Walk → Call

-- what is told of names, and of what was made or removed
pub data NameReply : Type 0 where
  LookedUp : Answer Found (Option Attr) → NameReply
  Shown : Answer Attr Unit → NameReply
  Listed : Answer Listing (Option Attr) → NameReply
  MadeFile : Answer NewNode Wcc → NameReply
  MadeDir : Answer NewNode Wcc → NameReply
  NoDir : Answer Wcc Wcc → NameReply
  Gone : Answer Wcc Wcc → NameReply
  Renamed : Answer Moved Moved → NameReply

abbrev pub name_answer : NameReply → Nfs
name_answer (LookedUp a) = nfs.LookupAnswer a
name_answer (Shown a) = nfs.GetAttrAnswer a
name_answer (Listed a) = nfs.ReadDirAnswer a
name_answer (MadeFile a) = nfs.CreateAnswer a
name_answer (MadeDir a) = nfs.MkDirAnswer a
name_answer (NoDir a) = nfs.RmDirAnswer a
name_answer (Gone a) = nfs.RemoveAnswer a
name_answer (Renamed a) = nfs.RenameAnswer a

pub data Reply : Type 0 where
  Versioned : Answer Leased Unit → Reply
  Hashed : Answer Hashes Unit → Reply
  Bytes : Answer Piece (Option Attr) → Reply
  Made : Answer Unit Unit → Reply
  Named : Answer Unit Unit → Reply
  Stored : Answer Unit Unit → Reply
  Changed : Answer Committed Unit → Reply
  Walked : NameReply → Reply

-- a call of a version of LBFS, or an answer, under an xid
pub record Ask : Type 0 where
  pub lbfs : ℕ
  pub xid : ℕ
  pub call : Call

pub record Told : Type 0 where
  pub xid : ℕ
  pub reply : Reply

abbrev pub call_message : (lbfs xid : ℕ) → Call → Message
call_message lbfs xid (Lease file) = lease_call lbfs xid file
call_message lbfs xid (Hash file offset) = hash_call lbfs xid file offset
call_message lbfs xid (Read file c) = read_call xid file c
call_message lbfs xid (Make temp file) = make_call lbfs xid temp file
call_message lbfs xid (Name temp c) = cond_call lbfs xid temp c
call_message lbfs xid (Send temp start bytes) = message.Call xid (body.Lb (lb.TmpWrite (record { lbfs = lbfs; fd = temp; offset = start; bytes = bytes })))
call_message lbfs xid (Commit temp file size) = commit_call lbfs xid temp file size
call_message lbfs xid (Walks w) = message.Call xid (body.Nfs (next_call w))

abbrev pub ask_message : Ask → Message
ask_message a = call_message a.lbfs a.xid a.call

abbrev pub reply_body : Reply → Body
reply_body (Versioned a) = body.Lb (lb.GetLeaseAnswer a)
reply_body (Hashed a) = body.Lb (lb.GetHashAnswer a)
reply_body (Bytes a) = body.Nfs (nfs.ReadAnswer a)
reply_body (Made a) = body.Lb (lb.MkTmpFileAnswer a)
reply_body (Named a) = body.Lb (lb.CondWriteAnswer a)
reply_body (Stored a) = body.Lb (lb.TmpWriteAnswer a)
reply_body (Changed a) = body.Lb (lb.CommitTmpAnswer a)
reply_body (Walked r) = body.Nfs (name_answer r)

abbrev pub told_message : Told → Message
told_message t = message.Answer t.xid (reply_body t.reply)

-- which procedure a call is of, and an answer
abbrev pub call_program : Call → Program
call_program (Lease file) = program.Lb lb_proc.GetLease
call_program (Hash file offset) = program.Lb lb_proc.GetHash
call_program (Read file c) = program.Nfs nfs_procs.Read
call_program (Make temp file) = program.Lb lb_proc.MkTmpFile
call_program (Name temp c) = program.Lb lb_proc.CondWrite
call_program (Send temp start bytes) = program.Lb lb_proc.TmpWrite
call_program (Commit temp file size) = program.Lb lb_proc.CommitTmp
call_program (Walks w) = program.Nfs (nfs_proc (next_call w))

abbrev pub reply_program : Reply → Program
reply_program (Versioned a) = program.Lb lb_proc.GetLease
reply_program (Hashed a) = program.Lb lb_proc.GetHash
reply_program (Bytes a) = program.Nfs nfs_procs.Read
reply_program (Made a) = program.Lb lb_proc.MkTmpFile
reply_program (Named a) = program.Lb lb_proc.CondWrite
reply_program (Stored a) = program.Lb lb_proc.TmpWrite
reply_program (Changed a) = program.Lb lb_proc.CommitTmp
reply_program (Walked r) = program.Nfs (nfs_proc (name_answer r))

-- ---- RECALLs

-- what is on its way to the server: a call, or an answer to the RECALL of this number
pub data Up : Type 0 where
  Asks : Ask → Up
  Replies : (xid : ℕ) → Up

-- what is on its way to a client: an answer, or the RECALL of a file
pub data Down : Type 0 where
  Tells : Told → Down
  Recalls : (xid file : ℕ) → Down

abbrev pub reply_message : (xid : ℕ) → Message
reply_message xid = message.Answer xid (body.Back back.RecallAnswer)

abbrev pub up_message : Up → Message
up_message (Asks a) = ask_message a
up_message (Replies xid) = reply_message xid

abbrev pub down_message : Down → Message
down_message (Tells t) = told_message t
down_message (Recalls xid file) = recall_message xid file

-- ---- what is on its way on a session

pub record Mix : Type 0 where
  pub ups : List Up
  pub downs : List Down

abbrev pub no_mix : Mix
no_mix = record { ups = []; downs = [] }

-- the calls and answers alone
pub record Queue : Type 0 where
  pub ups : List Ask
  pub downs : List Told

abbrev pub no_queue : Queue
no_queue = record { ups = []; downs = [] }

abbrev pub asks_in : List Up → List Ask
asks_in [] = []
asks_in (Asks a ∷ us) = a ∷ asks_in us
asks_in (Replies xid ∷ us) = asks_in us

abbrev pub tolds_in : List Down → List Told
tolds_in [] = []
tolds_in (Tells t ∷ ds) = t ∷ tolds_in ds
tolds_in (Recalls xid file ∷ ds) = tolds_in ds

abbrev pub queue_of : Mix → Queue
queue_of m = record { ups = asks_in m.ups; downs = tolds_in m.downs }

-- a wire carries just these
pub record Carries (q : Wire) (m : Mix) : Type 0 where
  pub up_sound : q.server_end.spoilt ≡ None
  pub up : q.server_end.rest ++ q.up ≡ bytes_of (map up_message m.ups)
  pub down_sound : q.client_end.spoilt ≡ None
  pub down : q.client_end.rest ++ q.down ≡ bytes_of (map down_message m.downs)
