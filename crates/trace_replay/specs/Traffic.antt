-- What an operation sent and received, by the messages of the run.
use Rattle.std.specs.Prelude.{◌≡◌, ◌⊎◌, ℕ, ◌+◌, ◌≤◌, List, [], ◌∷◌, ◌++◌, length, map, take, option_map, slice_get, Option, Some, None, Bool, true, false, ◌&&◌, ◌==◌, nat_le, Contains}
use Rattle.xdr_codec.specs.declared.answer.Answer.TheVariants.{Done, Failed}
use Rattle.chunk_cut.specs.Chunks.{chunks_of}
use Rattle.xdr_codec.specs.Handle.{handle_bytes}
use Rattle.chunk_cut.specs.declared.chunk.Chunk.{Chunk}
use Rattle.xdr_codec.specs.declared.status.Status.TheVariants as status
use Rattle.hash_calls.specs.declared.message.Lb.TheVariants as lb
use Rattle.nfs3_calls.specs.declared.message.Nfs.TheVariants as nfs
use Rattle.wire.specs.declared.message.Body.TheVariants as body
use Rattle.wire.specs.declared.message.Message.{Message}
use Rattle.wire.specs.declared.message.Message.TheVariants as message
use Rattle.xdr_codec.specs.declared.attr.Attr.{Attr}
use Rattle.transfer_rules.specs.Limits.{tries_most}
use Rattle.file_open.specs.Opening.{other_version}
use Rattle.register_model.specs.declared.op.Op.{Op}
use Rattle.register_model.specs.declared.op.Outcome.TheVariants as told
use Rattle.register_model.specs.declared.op.Traffic.{Traffic}
use Rattle.register_model.specs.declared.op.Word.{Word}
use Rattle.register_model.specs.declared.op.Word.TheVariants as word
use Rattle.trace_ends.specs.Ops.{no_traffic}
use Rattle.trace_replay.specs.Trail.{Moment, Said, step_of, client_of, taken_by, given_by, asked_in}

abbrev pub until : (end : Option ℕ) → (step : ℕ) → Bool
until None step = true
until (Some e) step = nat_le step e

-- a step of the operation's client, from its begin to its end: a client has one operation under way
abbrev pub is_in : Op → (step client : ℕ) → Bool
is_in o step c = (c == o.client) && (nat_le o.begin step && until o.end step)

-- a message of such a step
abbrev pub is_of : Op → Said → Bool
is_of o s = is_in o s.step s.client

-- ---- what a message counts

abbrev pub sent_traffic : Message → Traffic
sent_traffic (message.Call xid (body.Lb (lb.CondWrite a))) = record no_traffic { cond = 1 }
sent_traffic (message.Call xid (body.Lb (lb.TmpWrite a))) = record no_traffic { tmp = 1; «data» = length a.bytes }
sent_traffic (message.Call xid (body.Nfs (nfs.Read r))) = record no_traffic { read = 1 }
sent_traffic m = no_traffic

-- the bytes of a READ
abbrev pub taken_traffic : Message → Traffic
taken_traffic (message.Answer xid (body.Nfs (nfs.ReadAnswer (Done piece)))) = record no_traffic { «data» = length piece.bytes }
taken_traffic m = no_traffic

abbrev pub both : Traffic → Traffic → Traffic
both a b = record { cond = a.cond + b.cond; tmp = a.tmp + b.tmp; read = a.read + b.read; «data» = a.«data» + b.«data» }

abbrev pub traffic_if : Bool → Traffic → Traffic
traffic_if true t = t
traffic_if false t = no_traffic

abbrev pub sent_for : Op → List Said → Traffic
sent_for o [] = no_traffic
sent_for o (s ∷ ss) = let later : Traffic = sent_for o ss in both (traffic_if (is_of o s) (sent_traffic s.message)) later

abbrev pub taken_for : Op → List Said → Traffic
taken_for o [] = no_traffic
taken_for o (s ∷ ss) = let later : Traffic = taken_for o ss in both (traffic_if (is_of o s) (taken_traffic s.message)) later

-- of an operation, where clients sent and took these
abbrev pub traffic_of : Op → (sent taken : List Said) → Traffic
traffic_of o sent taken = both (sent_for o sent) (taken_for o taken)

-- ---- what it comes to

-- what an operation with this word may count: an open sends no CONDWRITE and no TMPWRITE, a close no READ, and all others nothing
abbrev pub CountsOwn : Word → Traffic → Type 0
CountsOwn word.Open t = (t.cond ≡ 0) × (t.tmp ≡ 0)
CountsOwn word.Close t = t.read ≡ 0
CountsOwn w t = t ≡ no_traffic

abbrev pub is_commit : Message → Bool
is_commit (message.Call xid (body.Lb (lb.CommitTmp a))) = true
is_commit m = false

-- an operation sent its COMMITTMP
abbrev pub SentCommit : Op → List Said → Type 0
SentCommit o sent = (s : Said) × Contains sent s × (is_of o s ≡ true) × (is_commit s.message ≡ true)

-- ---- attempts

abbrev pub number_if : Bool → ℕ → ℕ
number_if true n = n
number_if false n = 0

-- an attempt of an open begins with a GETHASH from its file's first byte on
abbrev pub begins : Message → Bool
begins (message.Call xid (body.Lb (lb.GetHash a))) = a.offset == 0
begins m = false

abbrev pub first_number : Message → ℕ
first_number m = number_if (begins m) 1

-- how many attempts an operation began
abbrev pub attempts_of : Op → List Said → ℕ
attempts_of o [] = 0
attempts_of o (s ∷ ss) = let later : ℕ = attempts_of o ss in number_if (is_of o s) (first_number s.message) + later

-- No operation begins more attempts than an open may; one that ended by other versions began just as many.
pub record AttemptsEnd (sent : List Said) (o : Op) : Type 0 where
  pub most : attempts_of o sent ≤ tries_most
  pub all : (first last : ℕ) → o.outcome ≡ told.Changed first last → attempts_of o sent ≡ tries_most

-- ---- what was said for an operation, in order

-- a message that its client took, a chunk whose bytes it then found by its index, or a call that it sent
pub data Deal : Type 0 where
  Took : Message → Deal
  Found : (place : ℕ × ℕ) → Deal
  Sent : Message → Deal

-- what a client took in a step, found then, and sent
abbrev pub deals_with : (taken : List Message) → (found : List (ℕ × ℕ)) → (sent : List Message) → List Deal
deals_with taken found sent = map Took taken ++ map Found found ++ map Sent sent

abbrev pub deals_if : Bool → (taken : List Message) → (found : List (ℕ × ℕ)) → (sent : List Message) → List Deal
deals_if true taken found sent = deals_with taken found sent
deals_if false taken found sent = []

-- at a moment, and at all of them
abbrev pub deals_in : Op → Moment → List Deal
deals_in o m = let c : ℕ = client_of m.before m.event in deals_if (is_in o (step_of m) c) (taken_by m.before c m.event) (given_by m.before c m.event) (asked_in m)

abbrev pub deals_of : Op → List Moment → List Deal
deals_of o [] = []
deals_of o (m ∷ ms) = deals_in o m ++ deals_of o ms

-- what a client took, found by its index or called for at a moment was for one of these operations, which it had under way in that step
abbrev pub IsFor : List Op → Moment → Type 0
IsFor ops m = let c : ℕ = client_of m.before m.event in (deals_with (taken_by m.before c m.event) (given_by m.before c m.event) (asked_in m) ≡ []) ⊎ ((k : ℕ) × (o : Op) × (slice_get ops k ≡ Some o) × (is_in o (step_of m) c ≡ true))

-- ---- what a close named and sent

-- the chunks that CONDWRITEs named
abbrev pub named_by : Deal → List Chunk
named_by (Sent (message.Call xid (body.Lb (lb.CondWrite a)))) = record { start = a.offset; len = a.count; digest = a.digest } ∷ []
named_by d = []

abbrev pub named_in : List Deal → List Chunk
named_in [] = []
named_in (d ∷ ds) = named_by d ++ named_in ds

-- how many answers told that a chunk isn't known
abbrev pub unknown_number : Deal → ℕ
unknown_number (Took (message.Answer xid (body.Lb (lb.CondWriteAnswer (Failed status.HashNotFound u))))) = 1
unknown_number d = 0

abbrev pub unknown_in : List Deal → ℕ
unknown_in [] = 0
unknown_in (d ∷ ds) = unknown_number d + unknown_in ds

-- how many MKTMPFILEs were sent, and how many COMMITTMPs
abbrev pub made_number : Deal → ℕ
made_number (Sent (message.Call xid (body.Lb (lb.MkTmpFile a)))) = 1
made_number d = 0

abbrev pub made_in : List Deal → ℕ
made_in [] = 0
made_in (d ∷ ds) = made_number d + made_in ds

abbrev pub commit_number : Deal → ℕ
commit_number (Sent (message.Call xid (body.Lb (lb.CommitTmp a)))) = 1
commit_number d = 0

abbrev pub commits_in : List Deal → ℕ
commits_in [] = 0
commits_in (d ∷ ds) = commit_number d + commits_in ds

-- A close named the first chunks of its value, in order, each once; it asked for one temporary file at most, and had its file replaced by one once
-- at most.
pub record NamesChunks (value : List ℕ) (deals : List Deal) : Type 0 where
  pub count : ℕ
  pub named : named_in deals ≡ take count (chunks_of value)
  pub makes : made_in deals ≤ 1
  pub commits : commits_in deals ≤ 1

-- ---- attempts that met another version

-- the version that an attempt's first answer told, and the other one that its last answer showed, if it did
pub record Attempt : Type 0 where
  pub told : Option ℕ
  pub met : Option ℕ

abbrev pub new_attempt : Attempt
new_attempt = record { told = None; met = None }

-- the attempt under way, and those before it, which were given up
pub record Attempts : Type 0 where
  pub last : Option Attempt
  pub failed : List Attempt

abbrev pub no_attempt : Attempts
no_attempt = record { last = None; failed = [] }

abbrev pub other_if : (same : Bool) → (shown : ℕ) → Option ℕ
other_if true shown = None
other_if false shown = Some shown

-- an answer to a GETHASH tells a version, and one to a READ may show one by its attributes
abbrev pub told_if : Option ℕ → (shown : ℕ) → Attempt
told_if None shown = record { told = Some shown; met = None }
told_if (Some version) shown = record { told = Some version; met = other_if (shown == version) shown }

abbrev pub shown_if : Option ℕ → Option Attr → Attempt
shown_if None attr = new_attempt
shown_if (Some version) attr = record { told = Some version; met = other_version version attr }

abbrev pub given_up : Option Attempt → List Attempt
given_up None = []
given_up (Some a) = a ∷ []

abbrev pub begun_anew : Attempts → Attempts
begun_anew t = record { last = Some new_attempt; failed = t.failed ++ given_up t.last }

abbrev pub begun_if : (anew : Bool) → Attempts → Attempts
begun_if true t = begun_anew t
begun_if false t = t

abbrev pub attempts_with : Attempts → Deal → Attempts
attempts_with t (Sent m) = begun_if (begins m) t
attempts_with t (Took (message.Answer xid (body.Lb (lb.GetHashAnswer (Done h))))) = record t { last = option_map (λ a. told_if a.told h.version) t.last }
attempts_with t (Took (message.Answer xid (body.Nfs (nfs.ReadAnswer (Done piece))))) = record t { last = option_map (λ a. shown_if a.told piece.attr) t.last }
attempts_with t d = t

abbrev pub attempts_from : Attempts → List Deal → Attempts
attempts_from t [] = t
attempts_from t (d ∷ ds) = attempts_from (attempts_with t d) ds

abbrev pub attempts_in : List Deal → Attempts
attempts_in ds = attempts_from no_attempt ds

-- one version was told, and another met
abbrev pub HasMet : (told met : ℕ) → Attempt → Type 0
HasMet told met a = (a.told ≡ Some told) × (a.met ≡ Some met) × (told ≡ met → ⊥)

abbrev pub AllMet : List Attempt → Type 0
AllMet [] = Unit {0}
AllMet (a ∷ later) = ((told : ℕ) × (met : ℕ) × HasMet told met a) × AllMet later

-- Each attempt of an open that was given up had met another version by its last answer; and one that ended by that gave up as many as there may be,
-- of the last of which it tells the two.
pub record AttemptsMet (o : Op) (deals : List Deal) : Type 0 where
  pub each : AllMet (attempts_in deals).failed
  pub changed : (first last : ℕ) → o.outcome ≡ told.Changed first last → (length (attempts_in deals).failed + 1 ≡ tries_most) × ((a : Attempt) × ((attempts_in deals).last ≡ Some a) × HasMet first last a)

-- ---- the calls of an operation

-- an open asks for chunks and bytes of its file
abbrev pub IsFetchCall : (file : ℕ) → Message → Type 0
IsFetchCall file (message.Call xid (body.Lb (lb.GetLease z))) = z.handle ≡ handle_bytes file
IsFetchCall file (message.Call xid (body.Lb (lb.GetHash a))) = a.handle ≡ handle_bytes file
IsFetchCall file (message.Call xid (body.Nfs (nfs.Read r))) = r.handle ≡ handle_bytes file
IsFetchCall file m = ⊥

-- a rewrite asks for the version of its file
abbrev pub IsVersionCall : (file : ℕ) → Message → Type 0
IsVersionCall file (message.Call xid (body.Lb (lb.GetLease z))) = z.handle ≡ handle_bytes file
IsVersionCall file m = ⊥

-- a close puts chunks of its value into a temporary file (`NamesChunks` and `PaysAll` say which), and has its file replaced by it
abbrev pub IsStoreCall : (file : ℕ) (value : List ℕ) → Message → Type 0
IsStoreCall file value (message.Call xid (body.Lb (lb.MkTmpFile a))) = a.handle ≡ handle_bytes file
IsStoreCall file value (message.Call xid (body.Lb (lb.CondWrite a))) = Unit {0}
IsStoreCall file value (message.Call xid (body.Lb (lb.TmpWrite a))) = Unit {0}
IsStoreCall file value (message.Call xid (body.Lb (lb.CommitTmp a))) = (a.handle ≡ handle_bytes file) × (a.size ≡ length value)
IsStoreCall file value m = ⊥

abbrev pub IsOwnCall : Word → (file : ℕ) (value : List ℕ) → Message → Type 0
IsOwnCall word.Open file value m = IsFetchCall file m
IsOwnCall word.Rewrite file value m = IsVersionCall file m
IsOwnCall word.Close file value m = IsStoreCall file value m
IsOwnCall w file value m = ⊥

-- whatever was sent for it is its own
abbrev pub AreOwn : Word → (file : ℕ) (value : List ℕ) → List Deal → Type 0
AreOwn w file value [] = Unit {0}
AreOwn w file value (Took m ∷ ds) = AreOwn w file value ds
AreOwn w file value (Found place ∷ ds) = AreOwn w file value ds
AreOwn w file value (Sent m ∷ ds) = IsOwnCall w file value m × AreOwn w file value ds

-- ---- what it comes to

-- how many bytes TMPWRITEs carried
abbrev pub bytes_number : Deal → ℕ
bytes_number (Sent (message.Call xid (body.Lb (lb.TmpWrite a)))) = length a.bytes
bytes_number d = 0

abbrev pub bytes_in : List Deal → ℕ
bytes_in [] = 0
bytes_in (d ∷ ds) = bytes_number d + bytes_in ds

-- A close that sent its COMMITTMP named each chunk of its value by a CONDWRITE, and sent the bytes of those that the server didn't know.
abbrev pub stored_traffic : (value : List ℕ) → List Deal → Traffic
stored_traffic value deals = record no_traffic { cond = length (chunks_of value); tmp = unknown_in deals; «data» = bytes_in deals }
