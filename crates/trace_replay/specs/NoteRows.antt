-- Worked steps of clients that note a lease, and that are asked for one back; and wrong ones, each of which a clause on notes refuses.
use Rattle.std.specs.Prelude.{◌≡◌, ◌⊎◌, ℕ, ◌+◌, ◌<◌, zero, suc, List, [], ◌∷◌, map, Option, Some, None, true, Contains, codes, refl}
use Rattle.std.proofs.Common.{ap, sym, ◌∙◌, subst, inl, inr, arith, get_or}
use Rattle.client_cache.specs.Cache.{fronted}
use Rattle.client_cache.specs.declared.kept.Note.{Note}
use Rattle.client_state.specs.State as client
use Rattle.client_state.specs.declared.noting.Granted.{Granted}
use Rattle.command_text.specs.declared.command.Command.TheVariants as command
use Rattle.file_open.specs.Opening.{lease_call}
use Rattle.hash_calls.specs.Calls.{lease_on_form, leased_form}
use Rattle.hash_calls.specs.declared.message.Back.TheVariants as back
use Rattle.hash_calls.specs.declared.message.Lb.TheVariants as lb
use Rattle.rpc_record.specs.Header.{direction_form, front_form, auth_form, call_form, versions_form, accept_form, denial_form, reply_form}
use Rattle.server_core.specs.State as server
use Rattle.session_rules.specs.Session.{new_session}
use Rattle.trace_ends.specs.Core.{Core, Event.Does, Event.Hears, Event.Settles, happens}
use Rattle.trace_ends.specs.Numbers.{numbered}
use Rattle.trace_ends.specs.Session.{Seat}
use Rattle.trace_replay.specs.Notes.{IsNoted, NotesCome, SaysDone, granted_by, note_of}
use Rattle.trace_replay.specs.Saving.{reading_at}
use Rattle.trace_replay.specs.Trail.{Moment, step_of, taken_by}
use Rattle.transfer_rules.specs.Limits.{calls_most}
use Rattle.wire.specs.Message.{message_spell}
use Rattle.wire.specs.declared.message.Body.{Body}
use Rattle.wire.specs.declared.message.Body.TheVariants as body
use Rattle.wire.specs.declared.message.Message.{Message}
use Rattle.wire.specs.declared.message.Message.TheVariants as message
use Rattle.xdr_codec.specs.Answers.{outcome_form}
use Rattle.xdr_codec.specs.Attr.{time_form, kind_form, attr_form}
use Rattle.xdr_codec.specs.Handle.{file_of, handle_bytes}
use Rattle.xdr_codec.specs.Xdr.{u32_form, u64_form, bool_form, bytes_form, fixed_form, count_form, opaque_spell, opaque_read}
use Rattle.xdr_codec.specs.declared.answer.Answer.TheVariants.{Done}
use Rattle.xdr_codec.specs.declared.attr.Attr.{Attr}
use Rattle.xdr_codec.specs.declared.attr.Kind.TheVariants as kind

-- ---- a client that keeps a content of file 2, and asks for its version

abbrev note_till : (until : ℕ) → Note
note_till until = record { version = 1; until = until }

abbrev keeps : Option Note → client.State
keeps n = record (client.start_with 100 1) { linked = true; cache = (2, record { content = Some (record { version = 1; bytes = codes "abc" }); note = n }) ∷ [] }

-- alone, on this session of two that it made
abbrev core_of : (newest : ℕ) → client.State → Core
core_of newest c = record { server = server.empty; drift = 100; lbfs = 1; seats = record { client = c; session = Some newest; place = None } ∷ []; sessions = new_session 1 ∷ new_session 1 ∷ []; steps = 4; ops = []; entries = []; came = []; raws = [] }

-- its call goes out at the reading 7
abbrev asked : Moment
asked = record { before = core_of 1 (keeps None); event = Does 1 7 (command.Open 2) }

abbrev attr : Attr
attr = record { kind = kind.File; mode = 420; nlink = 1; uid = 0; gid = 0; size = 3; used = 0; rdev_major = 0; rdev_minor = 0; fsid = 0; fileid = 2; atime = record { seconds = 0; nanoseconds = 0 }; mtime = record { seconds = 0; nanoseconds = 1 }; ctime = record { seconds = 0; nanoseconds = 0 } }

abbrev leased : Body
leased = body.Lb (lb.GetLeaseAnswer (Done (record { attr = attr; version = 1; term = 1000 })))

abbrev changed : (client.State → client.State) → Core → Core
changed f k = record k { seats = map (λ (s : Seat). record s { client = f s.client }) k.seats }

-- and the answer comes at 50, where something of the client was changed meanwhile
abbrev told : (client.State → client.State) → Moment
told f = record { before = changed f (happens asked.before asked.event).core; event = Hears 1 50 (message_spell (message.Answer 1 leased)) }

abbrev unchanged : client.State → client.State
unchanged s = s

-- the client's note of a file behind a moment
abbrev noted_by : Moment → (file : ℕ) → Option Note
noted_by m file = note_of (numbered (happens m.before m.event).core.seats 1) file

-- of two moments a contained one is the first or the second, and of one that
of_two : (x y z : Moment) → Contains (x ∷ y ∷ []) z → (x ≡ z) ⊎ (y ≡ z)
of_two x y z p = at p.0 p.1 p.2
  where
    at : (k : ℕ) → k < 2 → get_or (x ∷ y ∷ []) k z ≡ z → (x ≡ z) ⊎ (y ≡ z)
    at zero lt e = inl e
    at (suc zero) lt e = inr e
    at (suc (suc k)) lt e = absurd (omega (arith, lt))

only : {A : Type 0} (x y : A) → Contains (x ∷ []) y → x ≡ y
only {A} x y p = at p.0 p.1 p.2
  where
    at : (k : ℕ) → k < 1 → get_or (x ∷ []) k y ≡ y → x ≡ y
    at zero lt e = e
    at (suc k) lt e = absurd (omega (arith, lt))

first_of : {A : Type 0} (x : A) (xs : List A) → Contains (x ∷ xs) x
first_of x xs = (0, omega arith, refl)

no : {A B : Type 0} (x : A) → ◌≡◌ {A = Option A} None (Some x) → B
no x e = absurd cc

-- ---- it is noted

pub asks : (happens asked.before asked.event).up ≡ lease_call 1 1 2 ∷ []
unfolding calls_most fronted
asks = refl

pub takes : taken_by (told unchanged).before 1 (told unchanged).event ≡ message.Answer 1 leased ∷ []
unfolding calls_most fronted lease_on_form leased_form outcome_form time_form kind_form attr_form u32_form u64_form bool_form bytes_form fixed_form count_form opaque_spell opaque_read direction_form front_form auth_form call_form versions_form accept_form denial_form reply_form
takes = refl

-- for the term from the reading at which the call went out, less the drift; and nothing of another file
pub notes : map (noted_by (told unchanged)) (2 ∷ 3 ∷ []) ≡ Some (note_till 907) ∷ None ∷ []
unfolding calls_most fronted lease_on_form leased_form outcome_form time_form kind_form attr_form u32_form u64_form bool_form bytes_form fixed_form count_form opaque_spell opaque_read direction_form front_form auth_form call_form versions_form accept_form denial_form reply_form
notes = refl

pub is_noted : IsNoted (asked ∷ told unchanged ∷ []) (told unchanged) 1 2 (note_till 907)
unfolding calls_most fronted
is_noted = record {
  session = 1;
  now = 50;
  bytes = message_spell (message.Answer 1 leased);
  event_is = refl;
  xid = 1;
  told = leased;
  taken = subst (λ ms. Contains ms (message.Answer 1 leased)) (sym takes) (first_of (message.Answer 1 leased) []);
  granted = record { version = 1; term = 1000 };
  tells = refl;
  version_is = refl;
  call = body.Lb (lb.GetLease (record { lbfs = 1; handle = handle_bytes 2 }));
  names = refl;
  sent = record { moment = asked; there = first_of asked (told unchanged ∷ []); before = (let lt : 5 < 6 = omega arith in lt); on = refl; sent = subst (λ ms. Contains ms (lease_call 1 1 2)) (sym asks) (first_of (lease_call 1 1 2) []) };
  own = refl;
  ends = refl;
}

-- a step of the server changes no note
pub stays : (k : Core) (now : ℕ) → NotesCome [] (record { before = k; event = Settles now })
stays k now client file n is = inl is

-- ---- wrong notes

-- A note that was not there before and that this answer sets is not what the clause says, if it doesn't end by 907 and the drift.
not_so : (ms : List Moment) (f : client.State → client.State) (until : ℕ) → noted_by (told f) 2 ≡ Some (note_till until) → note_of (numbered (told f).before.seats 1) 2 ≡ None → taken_by (told f).before 1 (told f).event ≡ message.Answer 1 leased ∷ []
    → ((z : Moment) → Contains ms z → step_of z < step_of (told f) → until + 100 ≡ reading_at z.event + 1000 → ⊥) → NotesCome ms (told f) → ⊥
not_so ms f until set before came apart h = by (h 1 2 (note_till until) set)
  where
    body_of : Message → Body
    body_of (message.Answer xid b) = b
    body_of m = leased

    term_of : Option Granted → ℕ
    term_of None = 0
    term_of (Some g) = g.term

    by : (note_of (numbered (told f).before.seats 1) 2 ≡ Some (note_till until)) ⊎ IsNoted ms (told f) 1 2 (note_till until) → ⊥
    by (inl was) = no (note_till until) (sym before ∙ was)
    by (inr w) =
        let told_is : leased ≡ w.told = ap body_of (only (message.Answer 1 leased) (message.Answer w.xid w.told) (subst (λ zs. Contains zs (message.Answer w.xid w.told)) came w.taken)) in
        let term : 1000 ≡ w.granted.term = ap term_of (ap granted_by told_is ∙ w.tells) in
        apart w.sent.moment w.sent.there w.sent.before (w.ends ∙ ap (λ t. reading_at w.sent.moment.event + t) (sym term))

-- by an answer to a call that never went out
by_no_call : NotesCome (told unchanged ∷ []) (told unchanged) → ⊥
unfolding calls_most fronted lease_on_form leased_form outcome_form time_form kind_form attr_form u32_form u64_form bool_form bytes_form fixed_form count_form opaque_spell opaque_read direction_form front_form auth_form call_form versions_form accept_form denial_form reply_form
by_no_call = not_so (told unchanged ∷ []) unchanged 907 refl refl refl (λ z there before e. let same = ap step_of (only (told unchanged) z there) in absurd (omega (arith, same, before)))

-- what ends at another moment, of a note that is set by what went out at 7
ends_apart : (f : client.State → client.State) (until : ℕ) → (until ≡ 907 → ⊥) → (z : Moment) → Contains (asked ∷ told f ∷ []) z → step_of z < step_of (told f) → until + 100 ≡ reading_at z.event + 1000 → ⊥
ends_apart f until differs z there before ends = by (of_two asked (told f) z there)
  where
    by : (asked ≡ z) ⊎ (told f ≡ z) → ⊥
    by (inl e) = let reading : 7 ≡ reading_at z.event = ap (λ (m : Moment). reading_at m.event) e in differs (omega (arith, reading, ends))
    by (inr e) = let same = ap step_of e in absurd (omega (arith, same, before))

-- the lease counted from the answer's arrival
abbrev arrives : client.State → client.State
arrives s = record s { sent = 50 }

from_its_arrival : NotesCome (asked ∷ told arrives ∷ []) (told arrives) → ⊥
unfolding calls_most fronted lease_on_form leased_form outcome_form time_form kind_form attr_form u32_form u64_form bool_form bytes_form fixed_form count_form opaque_spell opaque_read direction_form front_form auth_form call_form versions_form accept_form denial_form reply_form
from_its_arrival = not_so (asked ∷ told arrives ∷ []) arrives 950 refl refl refl (ends_apart arrives 950 (λ e. absurd (omega (arith, e))))

-- by a client that takes its clock to be the server's
abbrev driftless : client.State → client.State
driftless s = record s { drift = 0 }

without_the_drift : NotesCome (asked ∷ told driftless ∷ []) (told driftless) → ⊥
unfolding calls_most fronted lease_on_form leased_form outcome_form time_form kind_form attr_form u32_form u64_form bool_form bytes_form fixed_form count_form opaque_spell opaque_read direction_form front_form auth_form call_form versions_form accept_form denial_form reply_form
without_the_drift = not_so (asked ∷ told driftless ∷ []) driftless 1007 refl refl refl (ends_apart driftless 1007 (λ e. absurd (omega (arith, e))))

-- ---- a RECALL

-- of file 2 on session 1, to a client whose newest session this is
abbrev recalled : (newest : ℕ) → Moment
recalled newest = record { before = core_of newest (keeps (Some (note_till 907))); event = Hears 1 60 (message_spell (message.Call 9 (body.Back (back.Recall (handle_bytes 2))))) }

pub says : (happens (recalled 1).before (recalled 1).event).up ≡ message.Answer 9 (body.Back back.RecallAnswer) ∷ []
unfolding fronted u32_form bytes_form count_form opaque_spell opaque_read direction_form front_form auth_form call_form
says = refl

pub forgets : noted_by (recalled 1) 2 ≡ None
unfolding fronted u32_form bytes_form count_form opaque_spell opaque_read direction_form front_form auth_form call_form
forgets = refl

pub on_it : (happens (recalled 1).before (recalled 1).event).session ≡ Some 1
unfolding fronted u32_form bytes_form count_form opaque_spell opaque_read direction_form front_form auth_form call_form
on_it = refl

pub says_done : SaysDone (recalled 1) 1 1 9 (handle_bytes 2)
says_done = record { on = on_it; says = says; forgets = λ file named. subst (λ f. noted_by (recalled 1) f ≡ None) (of_id file named) forgets }
  where
    of_id : (file : ℕ) → file_of (handle_bytes 2) ≡ Some file → 2 ≡ file
    of_id file e = let is : ◌≡◌ {A = Option ℕ} (Some 2) (Some file) = e in cc

-- ---- wrong answers to one

-- under another number
under_another : SaysDone (recalled 1) 1 1 8 (handle_bytes 2) → ⊥
under_another h = let same : 9 ≡ 8 = ap number (sym says ∙ h.says) in absurd (omega (arith, same))
  where
    number : List Message → ℕ
    number (message.Answer xid b ∷ ms) = xid
    number ms = 0

-- none at all: the client has left the session
says_nothing : SaysDone (recalled 2) 1 1 9 (handle_bytes 2) → ⊥
says_nothing h = let none : ◌≡◌ {A = Option ℕ} None (Some 1) = h.on in no 1 none

-- of a file whose note it keeps
abbrev two_noted : Moment
two_noted =
    let c : client.State = keeps (Some (note_till 907)) in
    record (recalled 1) { before = core_of 1 (record c { cache = (3, record { content = None; note = Some (note_till 907) }) ∷ c.cache }) }

keeps_the_other : noted_by two_noted 3 ≡ Some (note_till 907)
unfolding fronted u32_form bytes_form count_form opaque_spell opaque_read direction_form front_form auth_form call_form
keeps_the_other = refl

still_noted : SaysDone two_noted 1 1 9 (handle_bytes 3) → ⊥
still_noted h = no (note_till 907) (sym (h.forgets 3 refl) ∙ keeps_the_other)
