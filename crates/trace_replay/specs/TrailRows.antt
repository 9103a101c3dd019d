-- Worked traces: which events and commands their lines tell, how their steps and the calls of a connection count, which numbers calls have, which messages
-- begin an attempt, what attempts read and which versions they met, what a close names and sends whole, and which close has a value.
use Rattle.std.specs.Prelude.{◌≡◌, ℕ, ◌<◌, List, [], ◌∷◌, ◌++◌, map, Bool, true, false, Some, None, codes, refl}
use Rattle.std.proofs.Common.{arith, ap}
use Rattle.chunk_cut.specs.declared.chunk.Chunk.{Chunk}
use Rattle.command_text.specs.Parts.{lines_of}
use Rattle.command_text.specs.declared.command.Command.TheVariants as command
use Rattle.rpc_record.specs.Records.{record_of}
use Rattle.client_cache.specs.Cache.{fronted}
use Rattle.xdr_codec.specs.declared.answer.Answer.TheVariants.{Done, Failed}
use Rattle.xdr_codec.specs.declared.status.Status.TheVariants as status
use Rattle.xdr_codec.specs.declared.attr.Attr.{Attr}
use Rattle.xdr_codec.specs.declared.attr.Kind.TheVariants as kind
use Rattle.nfs3_calls.specs.declared.message.Nfs.TheVariants as nfs
use Rattle.hash_calls.specs.declared.message.Lb.TheVariants as lb
use Rattle.wire.specs.declared.message.Body.TheVariants as body
use Rattle.wire.specs.declared.message.Message.TheVariants as message
use Rattle.file_close.specs.Closing.{cond_call, temp_call}
use Rattle.file_open.specs.Opening.{hash_call, read_call}
use Rattle.client_state.specs.State as client
use Rattle.server_core.specs.State as server
use Rattle.register_model.specs.declared.op.Op.{Op}
use Rattle.register_model.specs.declared.op.Word.TheVariants as word
use Rattle.trace_ends.specs.Ops.{begun}
use Rattle.trace_ends.specs.Core.{Core, happens, Event.Joins, Event.Does, Event.Settles, Event.Cuts, Event.Hangs}
use Rattle.trace_ends.specs.Session.{new_seat}
use Rattle.trace_replay.specs.Trail.{Deed, Said, moments, deeds_of, commands_of, events_of, AreCounted}
use Rattle.trace_replay.specs.Traffic.{Deal, Deal.Took, Deal.Found, Deal.Sent, attempts_of, attempts_in, named_in}
use Rattle.trace_replay.specs.Fetches.{fetches_in, no_fetch, chosen, ReachesFirst, EachReaches}
use Rattle.trace_replay.specs.Owing.{owes_nothing, Pays, PaysAll}
use Rattle.trace_replay.specs.Numbered.{numbers_of, CountOn}
use Rattle.trace_replay.specs.Causes.{can_ask}

abbrev header : List ℕ
header = codes "lbfs-trace 1\nterm 60000\ndrift 100\nclients 1\n"

-- one client, told to open a file and to give another up; its connection is lost
abbrev told_twice : List ℕ
told_twice = header ++ codes "file a t:abc\njoin 1 0 0\n# so far\ndo 1 5 open #2\npass 1 1 6 6\nsettle 7\ndo 1 8 abandon #3\ncut 1 9\nhang 1 9\n"

pub commands_told : commands_of (lines_of told_twice) ≡ (1, command.Open 2) ∷ (1, command.Abandon 3) ∷ []
commands_told = refl

pub events_told : events_of (lines_of told_twice) ≡ Joins 1 ∷ Does 1 5 (command.Open 2) ∷ Settles 7 ∷ Does 1 8 (command.Abandon 3) ∷ Cuts 1 ∷ Hangs 1 ∷ []
events_told = refl

-- a join counts two steps, and a session that hung before none
pub steps_counted : AreCounted 0 (moments (header ++ codes "join 1 0 0\nhang 1 5\nhang 1 6\nsettle 7\ncut 1 8\n")) 5
unfolding record_of
steps_counted = (refl, (refl, (refl, (refl, (refl, refl)))))

-- ---- the calls of a connection

-- an open asks for hashes; where the client sees its connection lost the count stays until the next join
abbrev joined_twice : List ℕ
joined_twice = header ++ codes "file a t:abc\njoin 1 0 0\ndo 1 5 open #2\ndo 1 8 abandon #3\ncut 1 9\ndo 1 9 abandon #3\njoin 1 9 9\ndo 1 9 abandon #3\n"

pub calls_counted : map (λ (d : Deed). d.calls) (deeds_of (moments joined_twice)) ≡ 0 ∷ 1 ∷ 1 ∷ 0 ∷ []
unfolding record_of
calls_counted = refl

-- with 1,000,000 numbers left of 4,294,967,295 it may ask, and with one less it may not
pub numbers_left : can_ask true 4293967295 ∷ can_ask true 4293967296 ∷ can_ask false 0 ∷ [] ≡ true ∷ false ∷ false ∷ []
numbers_left = refl

-- ---- the numbers of calls

-- a client asks on its first session, and again on its second one
abbrev opens_twice : List ℕ
opens_twice = header ++ codes "file a t:abc\njoin 1 0 0\ndo 1 5 open #2\ncut 1 9\njoin 1 9 9\ndo 1 9 open #2\n"

-- each session's calls are numbered from 1 on
pub sessions_numbered : map (λ n. numbers_of n (moments opens_twice)) (1 ∷ 2 ∷ 3 ∷ []) ≡ (1 ∷ []) ∷ (1 ∷ []) ∷ [] ∷ []
unfolding record_of fronted
sessions_numbered = refl

-- one number twice doesn't do
pub again_is_not : CountOn 1 (1 ∷ 1 ∷ []) → ⊥
again_is_not = λ h. let e = h.1.0 in absurd (omega (arith, e))

-- ---- attempts

-- an open of the first client
abbrev opened : Op
opened = record (begun 1 word.Open 2 [] 3) { end = Some 9 }

-- a client asks for the chunks of file 2 from an offset on
abbrev asks : (step client offset : ℕ) → Said
asks step client offset = record { step = step; client = client; message = hash_call 1 step 2 offset }

-- a further piece begins no attempt, nor does what another client sends, or this one before its begin and behind its end
pub attempts_counted : attempts_of opened (asks 2 1 0 ∷ asks 3 1 0 ∷ asks 5 1 4096 ∷ asks 7 2 0 ∷ asks 9 1 0 ∷ asks 10 1 0 ∷ []) ≡ 2
attempts_counted = refl

-- ---- what attempts read

abbrev one : Chunk
one = record { start = 0; len = 2048; digest = 1 ∷ [] }

abbrev other : Chunk
other = record { start = 2048; len = 2952; digest = 2 ∷ [] }

-- an attempt was told two chunks, found the first by the index and sent a READ for the second; then another began
abbrev read_twice : List Deal
read_twice =
    Sent (hash_call 1 1 2 0)
    ∷ Took (message.Answer 1 (body.Lb (lb.GetHashAnswer (Done (record { version = 1; term = 0; size = 5000; pairs = record { digest = 1 ∷ []; size = 2048 } ∷ record { digest = 2 ∷ []; size = 2952 } ∷ []; eof = true })))))
    ∷ Found (0, 2048)
    ∷ Sent (read_call 2 2 other)
    ∷ Sent (hash_call 1 3 2 0)
    ∷ []

pub attempts_read : fetches_in read_twice ≡ no_fetch ∷ record { told = one ∷ other ∷ []; reads = (2048, 2952) ∷ []; found = (0, 2048) ∷ []; bytes = 0 } ∷ no_fetch ∷ []
attempts_read = refl

pub attempts_reach : EachReaches read_twice
attempts_reach = (record { given = []; within = omega arith; found = refl; reads = refl }, (record { given = true ∷ false ∷ []; within = omega arith; found = refl; reads = refl }, (record { given = []; within = omega arith; found = refl; reads = refl }, tt)))

-- a READ for the chunk that the index gave doesn't do
pub read_again_is_not : ReachesFirst (record { told = one ∷ other ∷ []; reads = (0, 2048) ∷ []; found = (0, 2048) ∷ []; bytes = 0 }) → ⊥
read_again_is_not h = by h.given h.found h.reads
  where
    start : List (ℕ × ℕ) → ℕ
    start [] = 1
    start (p ∷ ps) = p.0

    behind : (which : Bool) (bs : List Bool) → 0 < start (chosen which bs (other ∷ []))
    behind which [] = omega arith
    behind true (true ∷ bs) = omega arith
    behind true (false ∷ []) = omega arith
    behind true (false ∷ b ∷ bs) = omega arith
    behind false (false ∷ bs) = omega arith
    behind false (true ∷ []) = omega arith
    behind false (true ∷ b ∷ bs) = omega arith

    by : (given : List Bool) → (0, 2048) ∷ [] ≡ chosen true given (one ∷ other ∷ []) → (0, 2048) ∷ [] ≡ chosen false given (one ∷ other ∷ []) → ⊥
    by [] found reads = let e = ap start found in absurd (omega (arith, e))
    by (true ∷ bs) found reads = let e = ap start reads in let b = behind false bs in absurd (omega (arith, e, b))
    by (false ∷ bs) found reads = let e = ap start found in let b = behind true bs in absurd (omega (arith, e, b))

-- ---- attempts that met another version

abbrev told_version : (xid version : ℕ) → Deal
told_version xid version = Took (message.Answer xid (body.Lb (lb.GetHashAnswer (Done (record { version = version; term = 0; size = 5000; pairs = []; eof = false })))))

abbrev shown_by : (version : ℕ) → Attr
shown_by version = record { kind = kind.File; mode = 420; nlink = 1; uid = 0; gid = 0; size = 5000; used = 0; rdev_major = 0; rdev_minor = 0; fsid = 0; fileid = 2; atime = record { seconds = 0; nanoseconds = 0 }; mtime = record { seconds = 0; nanoseconds = version }; ctime = record { seconds = 0; nanoseconds = 0 } }

abbrev read_shows : (xid version : ℕ) → Deal
read_shows xid version = Took (message.Answer xid (body.Nfs (nfs.ReadAnswer (Done (record { attr = Some (shown_by version); count = 0; eof = true; bytes = [] })))))

-- the first attempt met version 5 by a further piece, the second one version 6 by a READ's attributes, and the third was told no other yet
abbrev given_up_twice : List Deal
given_up_twice =
    Sent (hash_call 1 1 2 0)
    ∷ told_version 1 4
    ∷ Sent (hash_call 1 2 2 4096)
    ∷ told_version 2 5
    ∷ Sent (hash_call 1 3 2 0)
    ∷ told_version 3 5
    ∷ Sent (read_call 4 2 one)
    ∷ read_shows 4 6
    ∷ Sent (hash_call 1 5 2 0)
    ∷ told_version 5 6
    ∷ []

pub attempts_met : attempts_in given_up_twice ≡ record { last = Some (record { told = Some 6; met = None }); failed = record { told = Some 4; met = Some 5 } ∷ record { told = Some 5; met = Some 6 } ∷ [] }
attempts_met = refl

-- ---- what a close names

-- CONDWRITEs name chunks, in order, and TMPWRITEs none
pub chunks_named : named_in (Sent (cond_call 1 3 1 one) ∷ Sent (cond_call 1 4 1 other) ∷ Sent (temp_call 1 5 1 [] other) ∷ []) ≡ one ∷ other ∷ []
chunks_named = refl

-- ---- what a close sends whole

abbrev value : List ℕ
value = codes "abcdefg"

abbrev front : Chunk
front = record { start = 0; len = 3; digest = [] }

abbrev back : Chunk
back = record { start = 3; len = 4; digest = [] }

-- that the chunk of this CONDWRITE isn't known
abbrev unknown : (xid : ℕ) → Deal
unknown xid = Took (message.Answer xid (body.Lb (lb.CondWriteAnswer (Failed status.HashNotFound tt))))

-- of two chunks the server doesn't know the second, whose CONDWRITE has the number 4
pub one_is_paid : PaysAll value owes_nothing (Sent (cond_call 1 3 1 front) ∷ Sent (cond_call 1 4 1 back) ∷ unknown 4 ∷ Sent (temp_call 1 5 1 value back) ∷ [])
one_is_paid = (tt, tt, (tt, tt, (tt, refl, ((refl, refl), tt, refl))))

-- the other one's bytes don't do
pub other_is_not : Pays value (Some back) (Sent (temp_call 1 5 1 value front)) → ⊥
other_is_not = λ h. absurd (omega (arith, h.0))

-- ---- the value of a close

-- a client with a file open, joined or not
abbrev holds : (linked : Bool) → Core
holds linked = record {
  server = server.empty;
  drift = 0;
  lbfs = 1;
  seats = record (new_seat 0 1) { client = record (client.start_with 0 1) { linked = linked; opened = (2, record { version = 1; bytes = codes "abc" }) ∷ [] } } ∷ [];
  sessions = [];
  steps = 4;
  ops = [];
  entries = [];
  came = [];
  raws = [];
}

-- the values of the operations behind a close of it
abbrev closed_with : (linked : Bool) → List (List ℕ)
closed_with linked = map (λ o. o.value) (happens (holds linked) (Does 1 5 (command.Close 2))).core.ops

pub close_goes_on : closed_with true ≡ codes "abc" ∷ []
close_goes_on = refl

pub close_is_answered : closed_with false ≡ [] ∷ []
close_is_answered = refl
