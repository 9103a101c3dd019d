-- A step of a client that hears an answer, or sees its connection lost: what becomes of its operation, and of its local contents.
use Rattle.std.proofs.Common.{◌⊎◌, inl, inr, ◌≡◌, ℕ, ◌+◌, ◌<◌, List, [], Option, Some, None, refl, sym, ap, ◌∙◌, subst, false}
use Rattle.command_text.specs.declared.command.Command.TheVariants as command
use Rattle.command_text.specs.declared.path.PathCommand.TheVariants as path
use Rattle.client_state.specs.State as client
use Rattle.client_state.specs.declared.step.Outcome.TheVariants as outcome
use Rattle.register_model.specs.declared.op.Outcome.{Outcome as Told}
use Rattle.register_model.specs.declared.op.Outcome.TheVariants as told
use Rattle.register_model.specs.declared.op.Word.TheVariants as words
use Rattle.kept_promise.proofs.Common.{slice_get, slice_set, option_map, unwrap_or, Command, ClientStep, Ended, Outcome, Local, Task, local_at_itself, local_at_another, without_at_itself, without_at_another, Op, Word, TakenCall, word_of, Core, Seat, numbered, with_numbered, taken_of, session_of, ops_after, ops_with, acted, counted, ended_op, op_after, told_of, value_of, place_after, Deed, Book, leaves, after_one, local_from}
use Rattle.kept_promise.proofs.Lists.{some_is, nothing_there, same_or_not, of_replaced, at_replaced, set_count}
use Rattle.kept_promise.proofs.Messages.{Job, job, job_of, stage_word}
use Rattle.kept_promise.proofs.Rights.{Caused, close_not_open}
use Rattle.kept_promise.proofs.Turns.{around_with}
use Rattle.kept_promise.proofs.Facts.{IsMatched, is_naming}
use Rattle.kept_promise.proofs.Leaving.{EndsWith, Leaves}
use Rattle.kept_promise.proofs.Locally.{Idles, other_client, other_file, its_own, leaves_alike, leaves_all, leaves_none, idles_by, local_same, local_late}
use Rattle.kept_promise.proofs.Deeds.{also_there, FromServer, IsOnNames, IsDeed, local_of, HasLocals, HasDeeds, Moved, moved_same, AllMoved, all_same, StaysBy, stays_same, stays_by, stays_named, AllStay, all_stay, deeds_moved, busy_behind}
use Rattle.kept_promise.proofs.WalkLeaves.{OpensNow, IsNeither as IsNone, EndsNeither}
use Rattle.kept_promise.proofs.Found.{op_found}
use Rattle.trace_ends.specs.Ops.{file_with, op_ended}

-- ---- one operation of a list becomes another

pub all_set : (step : ℕ) (ops : List Op) (p : ℕ) (o r : Op) → slice_get ops p ≡ Some o → Moved step o r → AllMoved step ops (slice_set ops p r)
all_set step ops p o r at m = record {
  count = set_count ops p r;
  each = λ i q s a b. elim (of_replaced ops p r i s b) [
    | inl here ↦ subst (λ (z : Op). Moved step q z) (sym here.1) (subst (λ (z : Op). Moved step z r) (some_is o q (sym at ∙ ap (slice_get ops) (sym here.0) ∙ a)) m)
    | inr else ↦ subst (λ (z : Op). Moved step q z) (some_is q s (sym a ∙ else.1)) (moved_same step q)
  ];
}

pub stay_set : (ds : List Deed) (ops : List Op) (p : ℕ) (d : Deed) (o r : Op) → slice_get ds p ≡ Some d → slice_get ops p ≡ Some o → StaysBy d.command o r → AllStay ds ops (slice_set ops p r)
stay_set ds ops p d o r is at m i e q s a b k = elim (of_replaced ops p r i s k) [
  | inl here ↦ subst (λ (z : Op). StaysBy e.command q z) (sym here.1) (subst (λ (z : Op). StaysBy e.command z r) (some_is o q (sym at ∙ ap (slice_get ops) (sym here.0) ∙ b)) (subst (λ (z : Deed). StaysBy z.command o r) (some_is d e (sym is ∙ ap (slice_get ds) (sym here.0) ∙ a)) m))
  | inr else ↦ subst (λ (z : Op). StaysBy e.command q z) (some_is q s (sym b ∙ else.1)) (stays_same e.command q)
]

-- it leaves the same
pub set_same : (c f : ℕ) (l : Option (List ℕ)) (ds : List Deed) (ops : List Op) (p : ℕ) (d : Deed) (o r : Op) → slice_get ds p ≡ Some d → slice_get ops p ≡ Some o → ((z : Option (List ℕ)) → after_one c f d r z ≡ after_one c f d o z) → local_from c f l ds (slice_set ops p r) ≡ local_from c f l ds ops
set_same c f l ds ops p d o r at is same = local_same c f l ds ops (slice_set ops p r) (sym (set_count ops p r)) (λ i e q s a b k. elim (of_replaced ops p r i s k) [
  | inl here ↦ λ z.
      let d_is : e ≡ d = some_is e d (sym a ∙ ap (slice_get ds) here.0 ∙ at) in
      let o_is : q ≡ o = some_is q o (sym b ∙ ap (slice_get ops) here.0 ∙ is) in
      ap (λ (u : Deed). after_one c f u s z) d_is ∙ ap (λ (u : Op). after_one c f d u z) here.1 ∙ same z ∙ sym (ap (λ (u : Deed). after_one c f u q z) d_is ∙ ap (λ (u : Op). after_one c f d u z) o_is)
  | inr else ↦ λ z. ap (λ (u : Op). after_one c f e u z) (some_is s q (sym else.1 ∙ b))
])

pub set_alike : (c f : ℕ) (ds : List Deed) (ops : List Op) (p : ℕ) (d : Deed) (o r : Op) → slice_get ds p ≡ Some d → slice_get ops p ≡ Some o → r.file ≡ o.file → r.outcome ≡ o.outcome → r.value ≡ o.value → local_from c f None ds (slice_set ops p r) ≡ local_from c f None ds ops
set_alike c f ds ops p d o r at is g a b = set_same c f None ds ops p d o r at is (leaves_alike c f d o r g a b)

-- nor does one that leaves nothing, before and after
set_idle : (c f : ℕ) (ds : List Deed) (ops : List Op) (p : ℕ) (d : Deed) (o r : Op) → slice_get ds p ≡ Some d → slice_get ops p ≡ Some o → Idles c f d o → Idles c f d r → local_from c f None ds (slice_set ops p r) ≡ local_from c f None ds ops
set_idle c f ds ops p d o r at is old new = set_same c f None ds ops p d o r at is (λ z. new z ∙ sym (old z))

set_else : (c f : ℕ) (ds : List Deed) (ops : List Op) (p : ℕ) (d : Deed) (o r : Op) → slice_get ds p ≡ Some d → slice_get ops p ≡ Some o → (d.client ≡ c → ⊥) → local_from c f None ds (slice_set ops p r) ≡ local_from c f None ds ops
set_else c f ds ops p d o r at is apart = set_same c f None ds ops p d o r at is (λ z. other_client c f d r apart z ∙ sym (other_client c f d o apart z))

-- ---- how an operation ends

-- with an outcome that says nothing of the local content all stays as it was
abbrev IsStill : Outcome → Type 0
IsStill (outcome.Opened g len digest) = ⊥
IsStill (outcome.Closed g version len digest) = ⊥
IsStill outcome.Done = ⊥
IsStill u = Unit {0}

stays_so : (what : Word) (k : Command) (u : Outcome) (opened after : List (ℕ × Local)) (file : ℕ) (v : List ℕ) (l : Option (List ℕ)) → EndsWith what opened after file u → IsStill u → (after ≡ opened) × (leaves k (told_of u) v l ≡ l)
stays_so what k (outcome.Opened g len digest) opened after file v l h none = absurd none
stays_so what k (outcome.Closed g version len digest) opened after file v l h none = absurd none
stays_so what k outcome.Done opened after file v l h none = absurd none
stays_so what k outcome.Lost opened after file v l h none = (h, leaves_all k told.Lost v l tt)
stays_so what k (outcome.Changed m n) opened after file v l h none = (h, leaves_all k (told.Changed m n) v l tt)
stays_so what k (outcome.Refused t) opened after file v l h none = (h, leaves_all k (told_of (outcome.Refused t)) v l tt)
stays_so what k outcome.PeerMemory opened after file v l h none = (h, leaves_all k told.PeerMemory v l tt)
stays_so what k (outcome.BadPeer fault) opened after file v l h none = (h, leaves_all k (told_of (outcome.BadPeer fault)) v l tt)
stays_so what k outcome.Memory opened after file v l h none = (h, leaves_all k told.Memory v l tt)
stays_so what k (outcome.Names names) opened after file v l h none = (h, leaves_all k (told.Names names) v l tt)
stays_so what k (outcome.Seen id kind version len) opened after file v l h none = (h, leaves_all k (told_of (outcome.Seen id kind version len)) v l tt)
stays_so what k _ opened after file v l h none = absurd h

from_server : (what : Word) (u : Outcome) (opened after : List (ℕ × Local)) (file : ℕ) → EndsWith what opened after file u → FromServer what (told_of u)
from_server what (outcome.Piece len digest) opened after file h = h
from_server what outcome.Done opened after file h = h.0
from_server what outcome.Busy opened after file h = h
from_server what outcome.NotOpen opened after file h = h
from_server what outcome.AlreadyOpen opened after file h = h
from_server what (outcome.TooBig size) opened after file h = h
from_server what outcome.NoLink opened after file h = h
from_server what _ opened after file h = tt

-- but for an open that got its content the value stays
value_stays : (what : Word) (v : List ℕ) (s : client.State) (u : Outcome) → IsNone what u → value_of v s u ≡ v
value_stays what v s (outcome.Opened g n d) h = absurd h
value_stays what v s _ h = refl

value_still : (v : List ℕ) (s : client.State) (u : Outcome) → IsStill u → value_of v s u ≡ v
value_still v s (outcome.Opened g n d) h = absurd h
value_still v s _ h = refl

-- an outcome is one of a content that was got, of a file that was replaced, or that is written anew, or none of these
abbrev Which : Outcome → Type 0
Which u = ((g : ℕ) × (n : ℕ) × (d : List ℕ) × (u ≡ outcome.Opened g n d)) ⊎ (((g : ℕ) × (w : ℕ) × (n : ℕ) × (d : List ℕ) × (u ≡ outcome.Closed g w n d)) ⊎ ((u ≡ outcome.Done) ⊎ IsStill u))

which : (u : Outcome) → Which u
which (outcome.Opened g n d) = inl (g, n, d, refl)
which (outcome.Closed g w n d) = inr (inl (g, w, n, d, refl))
which outcome.Done = inr (inr (inl refl))
which u = inr (inr (inr tt))

abbrev bytes_at : List (ℕ × Local) → (file : ℕ) → Option (List ℕ)
bytes_at opened f = option_map (λ (l : Local). l.bytes) (client.local_at opened f)

opened_here : (k : Command) (old now : List (ℕ × Local)) (file g n : ℕ) (d : List ℕ) (l : Local) → word_of k ≡ words.Open → g ≡ file → now ≡ client.with_local old file l → bytes_at now file ≡ leaves k (told.Opened n d) (client.local_bytes now g) (bytes_at old file)
opened_here k old now file g n d l w same is = by k w
  where
    at : bytes_at now file ≡ Some l.bytes
    at = ap (λ z. bytes_at z file) is ∙ ap (option_map (λ (z : Local). z.bytes)) (local_at_itself old file l)

    got : bytes_at now file ≡ Some (client.local_bytes now g)
    got = at ∙ ap (λ z. Some z) (sym (ap (client.local_bytes now) same ∙ ap (λ o. unwrap_or o []) at))

    by : (k : Command) → word_of k ≡ words.Open → bytes_at now file ≡ leaves k (told.Opened n d) (client.local_bytes now g) (bytes_at old file)
    by (command.Open f) w = got
    by (command.Named (path.Find t)) w = got
    by (command.Named t) w = absurd cc
    by k w = absurd cc

closed_here : (k : Command) (old now : List (ℕ × Local)) (file v n : ℕ) (d value : List ℕ) → word_of k ≡ words.Close → now ≡ client.without_local old file → bytes_at now file ≡ leaves k (told.Closed v n d) value (bytes_at old file)
closed_here k old now file v n d value w is = by k w
  where
    by : (k : Command) → word_of k ≡ words.Close → bytes_at now file ≡ leaves k (told.Closed v n d) value (bytes_at old file)
    by (command.Close f) w = ap (λ z. bytes_at z file) is ∙ ap (option_map (λ (z : Local). z.bytes)) (without_at_itself old file)
    by (command.Named (path.Find t)) w = absurd cc
    by (command.Named t) w = absurd cc
    by k w = absurd cc

renewed_here : (k : Command) (old now : List (ℕ × Local)) (file : ℕ) (v : List ℕ) (l : Local) → word_of k ≡ words.Rewrite → l.bytes ≡ [] → now ≡ client.with_local old file l → bytes_at now file ≡ leaves k told.Done v (bytes_at old file)
renewed_here k old now file v l w none is = by k w
  where
    empty : bytes_at now file ≡ Some []
    empty = ap (λ z. bytes_at z file) is ∙ ap (option_map (λ (z : Local). z.bytes)) (local_at_itself old file l) ∙ ap (λ z. Some z) none

    by : (k : Command) → word_of k ≡ words.Rewrite → bytes_at now file ≡ leaves k told.Done v (bytes_at old file)
    by (command.Rewrite f) w = empty
    by (command.Named (path.Rewrite t)) w = empty
    by (command.Named t) w = absurd cc
    by k w = absurd cc

-- the words of what was got and replaced
abbrev pub HasWord : Word → Told → Type 0
HasWord w (told.Opened n d) = w ≡ words.Open
HasWord w (told.Closed v n d) = w ≡ words.Close
HasWord w u = Unit {0}

-- of the operation's file
ended_here : (k : Command) (old : List (ℕ × Local)) (s : client.State) (file : ℕ) (v : List ℕ) (u : Outcome) → EndsWith (word_of k) old s.opened file u → HasWord (word_of k) (told_of u) → bytes_at s.opened file ≡ leaves k (told_of u) (value_of v s u) (bytes_at old file)
ended_here k old s file v u h w = by (which u)
  where
    got : (g n : ℕ) (d : List ℕ) → EndsWith (word_of k) old s.opened file (outcome.Opened g n d) → HasWord (word_of k) (told.Opened n d) → bytes_at s.opened file ≡ leaves k (told.Opened n d) (client.local_bytes s.opened g) (bytes_at old file)
    got g n d h w = opened_here k old s.opened file g n d h.1.0 w h.0 h.1.1

    replaced : (g m n : ℕ) (d : List ℕ) → EndsWith (word_of k) old s.opened file (outcome.Closed g m n d) → HasWord (word_of k) (told.Closed m n d) → bytes_at s.opened file ≡ leaves k (told.Closed m n d) v (bytes_at old file)
    replaced g m n d h w = closed_here k old s.opened file m n d v w h.1

    renewed : EndsWith (word_of k) old s.opened file outcome.Done → bytes_at s.opened file ≡ leaves k told.Done v (bytes_at old file)
    renewed h = renewed_here k old s.opened file v h.1.0 h.0 h.1.1 h.1.2

    by : Which u → bytes_at s.opened file ≡ leaves k (told_of u) (value_of v s u) (bytes_at old file)
    by (inl z) = subst (λ (x : Outcome). bytes_at s.opened file ≡ leaves k (told_of x) (value_of v s x) (bytes_at old file)) (sym z.3) (got z.0 z.1 z.2 (subst (EndsWith (word_of k) old s.opened file) z.3 h) (subst (λ (x : Outcome). HasWord (word_of k) (told_of x)) z.3 w))
    by (inr (inl z)) = subst (λ (x : Outcome). bytes_at s.opened file ≡ leaves k (told_of x) (value_of v s x) (bytes_at old file)) (sym z.4) (replaced z.0 z.1 z.2 z.3 (subst (EndsWith (word_of k) old s.opened file) z.4 h) (subst (λ (x : Outcome). HasWord (word_of k) (told_of x)) z.4 w))
    by (inr (inr (inl z))) = subst (λ (x : Outcome). bytes_at s.opened file ≡ leaves k (told_of x) (value_of v s x) (bytes_at old file)) (sym z) (renewed (subst (EndsWith (word_of k) old s.opened file) z h))
    by (inr (inr (inr z))) = let r = stays_so (word_of k) k u old s.opened file (value_of v s u) (bytes_at old file) h z in ap (λ o. bytes_at o file) r.0 ∙ sym r.1

-- and of all others
ended_else : (what : Word) (old now : List (ℕ × Local)) (file f : ℕ) (u : Outcome) → EndsWith what old now file u → (f ≡ file → ⊥) → bytes_at now f ≡ bytes_at old f
ended_else what old now file f u h apart = by (which u)
  where
    got : (g n : ℕ) (d : List ℕ) → EndsWith what old now file (outcome.Opened g n d) → bytes_at now f ≡ bytes_at old f
    got g n d h = ap (λ o. bytes_at o f) h.1.1 ∙ ap (option_map (λ (l : Local). l.bytes)) (local_at_another old file h.1.0 f apart)

    replaced : (g m n : ℕ) (d : List ℕ) → EndsWith what old now file (outcome.Closed g m n d) → bytes_at now f ≡ bytes_at old f
    replaced g m n d h = ap (λ o. bytes_at o f) h.1 ∙ ap (option_map (λ (l : Local). l.bytes)) (without_at_another old file f apart)

    renewed : EndsWith what old now file outcome.Done → bytes_at now f ≡ bytes_at old f
    renewed h = ap (λ o. bytes_at o f) h.1.2 ∙ ap (option_map (λ (l : Local). l.bytes)) (local_at_another old file h.1.0 f apart)

    by : Which u → bytes_at now f ≡ bytes_at old f
    by (inl z) = got z.0 z.1 z.2 (subst (EndsWith what old now file) z.3 h)
    by (inr (inl z)) = replaced z.0 z.1 z.2 z.3 (subst (EndsWith what old now file) z.4 h)
    by (inr (inr (inl z))) = renewed (subst (EndsWith what old now file) z h)
    by (inr (inr (inr z))) = ap (λ o. bytes_at o f) (stays_so what (command.Open 0) u old now file [] None h z).0

-- ---- the step

pub caused_word : (book : Book) (o : Op) (u : Told) → Caused book o u → HasWord o.word u
caused_word book o (told.Opened n d) h = h.0
caused_word book o (told.Closed v n d) h = h.0
caused_word book o _ h = tt

open_not_close : (v : List ℕ) (s : client.State) (w : Word) (u : Outcome) → HasWord w (told_of u) → w ≡ words.Close → value_of v s u ≡ v
open_not_close v s w u h is = by u h (which u)
  where
    by : (u : Outcome) → HasWord w (told_of u) → Which u → value_of v s u ≡ v
    by (outcome.Opened g n d) h z = absurd (close_not_open (sym is ∙ h))
    by (outcome.Closed g version n d) h z = refl
    by u h (inl z) = absurd (close_not_open (sym is ∙ subst (λ (x : Outcome). HasWord w (told_of x)) z.3 h))
    by u h (inr (inl z)) = ap (value_of v s) z.4 ∙ sym (ap (λ x. v) z.4)
    by u h (inr (inr (inl z))) = ap (value_of v s) z
    by u h (inr (inr (inr z))) = value_still v s u z

moved_ended : (step : ℕ) (o : Op) (s : client.State) (taken : List TakenCall) (e : Ended) (opened : List (ℕ × Local)) (file : ℕ) → o.end ≡ None → EndsWith o.word opened s.opened file e.outcome → HasWord o.word (told_of e.outcome) → Moved step o (ended_op o s taken step e)
moved_ended step o s taken e opened file none h w = record {
  client = refl;
  word = refl;
  begin = refl;
  value = λ c. open_not_close o.value s o.word e.outcome w c;
  ended = λ n at. nothing_there n (sym none ∙ at);
  ends = λ n. inr refl;
}

-- a seat's local contents, where those of its client are known
pub locals_with : (ds : List Deed) (rs : List Op) (seats : List Seat) (c : ℕ) (seat now : Seat) → numbered seats c ≡ Some seat → ((f : ℕ) → local_of now.client f ≡ local_from c f None ds rs) → ((z : ℕ) (e : Seat) → (z ≡ c → ⊥) → numbered seats z ≡ Some e → (f : ℕ) → local_of e.client f ≡ local_from z f None ds rs) → HasLocals ds rs (with_numbered seats c now)
locals_with ds rs seats c seat now here own others z e at f = elim (same_or_not z c) [
  | inl mine ↦
      let around = around_with seats c seat now here in
      let is : e ≡ now = some_is e now (sym at ∙ ap (numbered (with_numbered seats c now)) mine ∙ around.there) in
      ap (λ (x : Seat). local_of x.client f) is ∙ own f ∙ ap (λ (x : ℕ). local_from x f None ds rs) (sym mine)
  | inr apart ↦ others z e apart (sym ((around_with seats c seat now here).others z apart) ∙ at) f
]

-- what a step of a client leaves of operations and clients
pub record StepLeaves (ds : List Deed) (k : Core) (rs : List Op) (seats : List Seat) : Type 0 where
  pub moved : AllMoved (k.steps + 1) k.ops rs
  pub deeds : HasDeeds ds rs seats

-- what a step of a client that has its operation at this place is to show
pub record Acts (ds : List Deed) (k : Core) (c : ℕ) (seat : Seat) (t : client.State) (acts : ClientStep) : Type 0 where
  pub here : numbered k.seats c ≡ Some seat
  pub matched : IsMatched seat
  pub begins : (i : ℕ) (o : Op) → slice_get k.ops i ≡ Some o → o.begin < k.steps + 1
  -- the operation under way
  pub op : (j : Job) → job seat ≡ Some j → (o : Op) × (slice_get k.ops j.place ≡ Some o) × (o.client ≡ c) × (is_naming j.stage ≡ false → o.file ≡ j.file) × (o.outcome ≡ told.Running) × (o.end ≡ None) × (o.word ≡ stage_word j.stage)
  pub idle : seat.client.task ≡ None → (t.opened ≡ seat.client.opened) × (acts.ended ≡ None)
  -- of a file that is known; or it is one on names
  pub busy : (x : Task) (p : ℕ) → seat.client.task ≡ Some x → seat.place ≡ Some p → ((acts.found ≡ None) × ((file : ℕ) → (is_naming x.stage ≡ false → file ≡ x.file) → Leaves (stage_word x.stage) seat.client.opened t.opened file acts.ended)) ⊎ (((d : Deed) → slice_get ds p ≡ Some d → IsOnNames d.command) × (((t.opened ≡ seat.client.opened) × EndsNeither (stage_word x.stage) acts.ended) ⊎ OpensNow (stage_word x.stage) seat.client (t, acts)))
  pub words : (i : ℕ) (r : Op) → slice_get (acted k c seat t acts).core.ops i ≡ Some r → HasWord r.word r.outcome

-- what a step of this client leaves, whose operations are these then
abbrev Left : (ds : List Deed) (k : Core) (c : ℕ) (seat : Seat) (t : client.State) (place : Option ℕ) → List Op → Type 0
Left ds k c seat t place rs = StepLeaves ds k rs (with_numbered k.seats c (record seat { client = t; place = place }))

-- or one on names ends, with no content
neither_stays : (d : Command) (u : Outcome) (v : List ℕ) (l : Option (List ℕ)) → IsOnNames d → IsNone (word_of d) u → leaves d (told_of u) v l ≡ l
neither_stays (command.Named (path.Rewrite s)) outcome.Done v l on none = absurd (none refl)
neither_stays (command.Named (path.Rewrite s)) u v l on none = refl
neither_stays (command.Named (path.Find s)) (outcome.Opened g n d) v l on none = absurd none
neither_stays (command.Named (path.Find s)) u v l on none = refl
neither_stays (command.Named k) u v l on none = refl
neither_stays d u v l on none = absurd on

module _ (ds : List Deed) (k : Core) (c : ℕ) (seat : Seat) (t : client.State) (acts : ClientStep) (h : HasDeeds ds k.ops k.seats) (a : Acts ds k c seat t acts) where
  -- one becomes another, and leaves what it left
  same_left : (p : ℕ) (place : Option ℕ) (o r : Op) → slice_get k.ops p ≡ Some o → Moved (k.steps + 1) o r → t.opened ≡ seat.client.opened
      → ((d : Deed) → slice_get ds p ≡ Some d → StaysBy d.command o r × ((z f : ℕ) → local_from z f None ds (slice_set k.ops p r) ≡ local_from z f None ds k.ops)) → Left ds k c seat t place (slice_set k.ops p r)
  same_left p place o r at m opened by =
      let moved = all_set (k.steps + 1) k.ops p o r at m in
      let d = also_there k.ops ds p o (sym h.count) at in
      let same = by d.0 d.1 in
      record {
        moved = moved;
        deeds = deeds_moved (k.steps + 1) ds k.ops (slice_set k.ops p r) k.seats (with_numbered k.seats c (record seat { client = t; place = place })) h a.begins moved (stay_set ds k.ops p d.0 o r d.1 at same.0)
            (locals_with ds (slice_set k.ops p r) k.seats c seat (record seat { client = t; place = place }) a.here
            (λ f. ap (λ (l : List (ℕ × Local)). bytes_at l f) opened ∙ h.locals c seat a.here f ∙ sym (same.1 c f))
            (λ z e apart is f. h.locals z e is f ∙ sym (same.1 z f)));
      }

  -- one goes on
  goes_on : (p : ℕ) (place : Option ℕ) (o r : Op) → slice_get k.ops p ≡ Some o → Moved (k.steps + 1) o r → r.file ≡ o.file → r.outcome ≡ o.outcome → r.value ≡ o.value → t.opened ≡ seat.client.opened → Left ds k c seat t place (slice_set k.ops p r)
  goes_on p place o r at m g u v opened = same_left p place o r at m opened (λ d is. (stays_by d.command o r g (λ q. subst (FromServer (word_of d.command)) (sym u) q), λ z f. set_alike z f ds k.ops p d o r is at g u v))

  -- one ends
  ends_with : (p : ℕ) (place : Option ℕ) (o : Op) (file : ℕ) (taken : List TakenCall) (e : Ended) → slice_get k.ops p ≡ Some o → o.client ≡ c → o.outcome ≡ told.Running → o.end ≡ None
      → EndsWith o.word seat.client.opened t.opened file e.outcome → HasWord o.word (told_of e.outcome) → (n : Rattle.register_model.specs.declared.op.Traffic.Traffic)
      → ((d : Deed) → slice_get ds p ≡ Some d → StaysBy d.command o (ended_op (record o { file = file; traffic = n }) t taken (k.steps + 1) e))
      → Left ds k c seat t place (slice_set k.ops p (ended_op (record o { file = file; traffic = n }) t taken (k.steps + 1) e))
  ends_with p place o file taken e at mine running under ends word n stays =
      let q : Op = record o { file = file; traffic = n } in
      let r = ended_op q t taken (k.steps + 1) e in
      let m0 = moved_ended (k.steps + 1) q t taken e seat.client.opened file under ends word in
      let m : Moved (k.steps + 1) o r = record { client = refl; word = refl; begin = refl; value = m0.value; ended = λ n z. nothing_there n (sym under ∙ z); ends = m0.ends } in
      let moved = all_set (k.steps + 1) k.ops p o r at m in
      let d = also_there k.ops ds p o (sym h.count) at in
      let deed = h.each p d.0 o d.1 at in
      let of : d.0.client ≡ c = sym deed.client ∙ mine in
      record {
        moved = moved;
        deeds = deeds_moved (k.steps + 1) ds k.ops (slice_set k.ops p r) k.seats (with_numbered k.seats c (record seat { client = t; place = place })) h a.begins moved
            (stay_set ds k.ops p d.0 o r d.1 at (stays d.0 d.1))
            (locals_with ds (slice_set k.ops p r) k.seats c seat (record seat { client = t; place = place }) a.here
            (λ f. own d.0 r f of deed refl refl refl ∙ sym (local_late c f None ds k.ops p d.0 o r d.1 at (idles_by c f d.0 o (λ l. leaves_none d.0.command o.outcome o.value l (inl running))) (λ i x q lt b s. subst (λ (z : ℕ). Idles z f x q) mine (busy_behind ds k.ops p o f h.rising h.each at under i x q lt b s))))
            (λ z x apart is f. h.locals z x is f ∙ sym (set_else z f ds k.ops p d.0 o r d.1 at (λ same. apart (sym same ∙ of)))));
      }
    where
      own : (d : Deed) (r : Op) (f : ℕ) → d.client ≡ c → IsDeed ds k.ops p d o → r.file ≡ file → r.outcome ≡ told_of e.outcome → r.value ≡ value_of o.value t e.outcome → local_of t f ≡ after_one c f d r (local_from c f None ds k.ops)
      own d r f of deed g u v = elim (same_or_not f file) [
        | inr apart ↦ ended_else o.word seat.client.opened t.opened file f e.outcome ends apart ∙ h.locals c seat a.here f ∙ sym (other_file c f d r (λ same. apart (sym same ∙ g)) (local_from c f None ds k.ops))
        | inl same ↦
            ap (bytes_at t.opened) same
            ∙ ended_here d.command seat.client.opened t file o.value e.outcome (subst (λ (w : Word). EndsWith w seat.client.opened t.opened file e.outcome) deed.word ends) (subst (λ (w : Word). HasWord w (told_of e.outcome)) deed.word word)
            ∙ ap (λ (x : ℕ). leaves d.command (told_of e.outcome) (value_of o.value t e.outcome) (bytes_at seat.client.opened x)) (sym same)
            ∙ ap (leaves d.command (told_of e.outcome) (value_of o.value t e.outcome)) (h.locals c seat a.here f)
            ∙ sym (its_own c f d r (local_from c f None ds k.ops) of (g ∙ sym same)
            ∙ ap (λ (x : Told). leaves d.command x r.value (local_from c f None ds k.ops)) u ∙ ap (λ (x : List ℕ). leaves d.command (told_of e.outcome) x (local_from c f None ds k.ops)) v)
      ]

  one_ends : (p : ℕ) (place : Option ℕ) (o : Op) (taken : List TakenCall) (e : Ended) → slice_get k.ops p ≡ Some o → o.client ≡ c → o.outcome ≡ told.Running → o.end ≡ None
      → EndsWith o.word seat.client.opened t.opened o.file e.outcome → HasWord o.word (told_of e.outcome) → (n : Rattle.register_model.specs.declared.op.Traffic.Traffic)
      → Left ds k c seat t place (slice_set k.ops p (ended_op (record o { traffic = n }) t taken (k.steps + 1) e))
  one_ends p place o taken e at mine running under ends word n = ends_with p place o o.file taken e at mine running under ends word n (λ d is. stays_by d.command o (ended_op (record o { traffic = n }) t taken (k.steps + 1) e) refl (λ q. subst (λ (w : Word). FromServer w (told_of e.outcome)) (h.each p d o is at).word (from_server o.word e.outcome seat.client.opened t.opened o.file ends)))

  -- one on names finds its file, goes on, or ends with no content
  walks_on : (p : ℕ) (place : Option ℕ) (o r : Op) → slice_get k.ops p ≡ Some o → o.outcome ≡ told.Running → Moved (k.steps + 1) o r → t.opened ≡ seat.client.opened → ((d : Deed) → slice_get ds p ≡ Some d → IsOnNames d.command × ((l : Option (List ℕ)) → leaves d.command r.outcome r.value l ≡ l)) → Left ds k c seat t place (slice_set k.ops p r)
  walks_on p place o r at running m opened by = same_left p place o r at m opened (λ d is. (stays_named d.command o r (by d is).0, λ z f. set_idle z f ds k.ops p d o r is at (idles_by z f d o (λ l. leaves_none d.command o.outcome o.value l (inl running))) (idles_by z f d r (by d is).1)))

  same_ops : (place : Option ℕ) → t.opened ≡ seat.client.opened → Left ds k c seat t place k.ops
  same_ops place opened = record {
    moved = all_same (k.steps + 1) k.ops;
    deeds = deeds_moved (k.steps + 1) ds k.ops k.ops k.seats (with_numbered k.seats c (record seat { client = t; place = place })) h a.begins (all_same (k.steps + 1) k.ops) (all_stay ds k.ops)
        (locals_with ds k.ops k.seats c seat (record seat { client = t; place = place }) a.here (λ f. ap (λ (l : List (ℕ × Local)). bytes_at l f) opened ∙ h.locals c seat a.here f) (λ z e apart is f. h.locals z e is f));
  }

  by_place : (place : Option ℕ) (task : Option Task) → seat.place ≡ place → seat.client.task ≡ task → IsMatched seat
      → ((i : ℕ) (r : Op) → slice_get (ops_with k.ops place t (taken_of (session_of k.sessions seat.session)) (k.steps + 1) acts) i ≡ Some r → HasWord r.word r.outcome)
      → Left ds k c seat t (place_after place acts.ended) (ops_with k.ops place t (taken_of (session_of k.sessions seat.session)) (k.steps + 1) acts)
  by_place None None e f m words = same_ops (place_after None acts.ended) (a.idle f).0
  by_place (Some p) (Some x) e f m words =
      let j : Job = record { place = p; file = x.file; stage = x.stage } in
      let o = a.op j (ap (λ (z : Option ℕ). job_of z seat.client.task) e ∙ ap (job_of (Some p)) f) in
      let taken = taken_of (session_of k.sessions seat.session) in
      let ops_is : ops_with k.ops (Some p) t taken (k.steps + 1) acts ≡ slice_set k.ops p (op_after o.0 t taken (k.steps + 1) acts) = ap (λ (z : Option Op). ops_after k.ops p z t taken (k.steps + 1) acts) o.1 in
      let rights : HasWord (op_after o.0 t taken (k.steps + 1) acts).word (op_after o.0 t taken (k.steps + 1) acts).outcome =
      words p (op_after o.0 t taken (k.steps + 1) acts) (ap (λ (z : List Op). slice_get z p) ops_is ∙ at_replaced k.ops p (op_after o.0 t taken (k.steps + 1) acts) o.0 o.1) in
      subst (Left ds k c seat t (place_after (Some p) acts.ended)) (sym ops_is)
      (elim (a.busy x p f e) [
        | inl of ↦ by of.0 o.0 o.1 o.2 o.4 o.5 taken acts.ended refl (subst (λ (w : Word). Leaves w seat.client.opened t.opened o.0.file acts.ended) (sym o.6) (of.1 o.0.file o.3)) rights
        | inr walk ↦ elim walk.1 [
          | inl left ↦ walks o.0 o.1 o.4 o.5 taken walk.0 left.0 acts.ended (subst (λ (w : Word). EndsNeither w acts.ended) (sym o.6) left.1)
          | inr now ↦ opens_now o.0 o.1 o.2 o.4 o.5 taken walk.0 (subst (λ (w : Word). OpensNow w seat.client (t, acts)) (sym o.6) now) rights
        ]
      ])
    where
      becomes : (r q : Op) → r ≡ q → Left ds k c seat t (place_after (Some p) acts.ended) (slice_set k.ops p q) → Left ds k c seat t (place_after (Some p) acts.ended) (slice_set k.ops p r)
      becomes r q is = subst (λ (z : Op). Left ds k c seat t (place_after (Some p) acts.ended) (slice_set k.ops p z)) (sym is)

      walks : (o : Op) → slice_get k.ops p ≡ Some o → o.outcome ≡ told.Running → o.end ≡ None → (taken : List TakenCall) → ((d : Deed) → slice_get ds p ≡ Some d → IsOnNames d.command) → t.opened ≡ seat.client.opened → (ended : Option Ended) → EndsNeither o.word ended
          → Left ds k c seat t (place_after (Some p) acts.ended) (slice_set k.ops p (op_ended (record o { file = file_with o.file acts.found; traffic = counted o.traffic acts.counts }) t taken (k.steps + 1) ended))
      walks o at running under taken names opened None none =
          walks_on p (place_after (Some p) acts.ended) o (record o { file = file_with o.file acts.found; traffic = counted o.traffic acts.counts }) at running (record { client = refl; word = refl; begin = refl; value = λ w. refl; ended = λ n b. nothing_there n (sym under ∙ b); ends = λ n. inl n }) opened
          (λ d is. (names d is, λ l. leaves_none d.command o.outcome o.value l (inl running)))
      walks o at running under taken names opened (Some e) none =
          let q : Op = record o { file = file_with o.file acts.found; traffic = counted o.traffic acts.counts } in
          let r = ended_op q t taken (k.steps + 1) e in
          walks_on p (place_after (Some p) acts.ended) o r at running (record { client = refl; word = refl; begin = refl; value = λ w. value_stays o.word o.value t e.outcome none; ended = λ n b. nothing_there n (sym under ∙ b); ends = λ n. inr refl }) opened
          (λ d is. (names d is, λ l. neither_stays d.command e.outcome r.value l (names d is) (subst (λ (w : Word). IsNone w e.outcome) (h.each p d o is at).word none)))

      opens_now : (o : Op) → slice_get k.ops p ≡ Some o → o.client ≡ c → o.outcome ≡ told.Running → o.end ≡ None → (taken : List TakenCall) → ((d : Deed) → slice_get ds p ≡ Some d → IsOnNames d.command) → OpensNow o.word seat.client (t, acts) → HasWord (op_after o t taken (k.steps + 1) acts).word (op_after o t taken (k.steps + 1) acts).outcome
          → Left ds k c seat t (place_after (Some p) acts.ended) (slice_set k.ops p (op_after o t taken (k.steps + 1) acts))
      opens_now o at mine running under taken names now word =
          let id = now.0 in
          let e = now.2.0 in
          let q : Op = record o { file = now.0; traffic = counted o.traffic acts.counts } in
          let r_is : op_after o t taken (k.steps + 1) acts ≡ ended_op q t taken (k.steps + 1) e =
          ap (λ (z : Option ℕ). op_ended (record o { file = file_with o.file z; traffic = counted o.traffic acts.counts }) t taken (k.steps + 1) acts.ended) now.1 ∙ ap (λ (z : Option Ended). op_ended q t taken (k.steps + 1) z) now.2.1 in
          becomes (op_after o t taken (k.steps + 1) acts) (ended_op q t taken (k.steps + 1) e) r_is
          (ends_with p (place_after (Some p) acts.ended) o id taken e at mine running under now.2.2 (subst (λ (z : Op). HasWord z.word z.outcome) r_is word) (counted o.traffic acts.counts) (λ d there. stays_named d.command o (ended_op q t taken (k.steps + 1) e) (names d there)))

      by : acts.found ≡ None → (o : Op) → slice_get k.ops p ≡ Some o → o.client ≡ c → o.outcome ≡ told.Running → o.end ≡ None → (taken : List TakenCall) (ended : Option Ended) → acts.ended ≡ ended → Leaves o.word seat.client.opened t.opened o.file acts.ended → HasWord (op_after o t taken (k.steps + 1) acts).word (op_after o t taken (k.steps + 1) acts).outcome
          → Left ds k c seat t (place_after (Some p) acts.ended) (slice_set k.ops p (op_after o t taken (k.steps + 1) acts))
      by found o at mine running under taken None is leaves word =
          let r : Op = record o { traffic = counted o.traffic acts.counts } in
          becomes (op_after o t taken (k.steps + 1) acts) r (op_found o t taken (k.steps + 1) acts found ∙ ap (λ (z : Option Ended). op_ended r t taken (k.steps + 1) z) is)
          (goes_on p (place_after (Some p) acts.ended) o r at (record { client = refl; word = refl; begin = refl; value = λ w. refl; ended = λ n b. (b, refl, refl, λ w. (refl, refl)); ends = λ n. inl n }) refl refl refl (subst (Leaves o.word seat.client.opened t.opened o.file) is leaves))
      by found o at mine running under taken (Some e) is leaves word =
          let q : Op = record o { traffic = counted o.traffic acts.counts } in
          let r_is : op_after o t taken (k.steps + 1) acts ≡ ended_op q t taken (k.steps + 1) e = op_found o t taken (k.steps + 1) acts found ∙ ap (λ (z : Option Ended). op_ended q t taken (k.steps + 1) z) is in
          becomes (op_after o t taken (k.steps + 1) acts) (ended_op q t taken (k.steps + 1) e) r_is
          (one_ends p (place_after (Some p) acts.ended) o taken e at mine running under (subst (Leaves o.word seat.client.opened t.opened o.file) is leaves) (subst (λ (z : Op). HasWord z.word z.outcome) r_is word) (counted o.traffic acts.counts))
  by_place None (Some x) e f (inl m) words = nothing_there x (sym m.1 ∙ f)
  by_place None (Some x) e f (inr m) words = nothing_there m.0 (sym (ap (λ (p : Option ℕ). job_of p seat.client.task) e) ∙ m.1)
  by_place (Some p) None e f (inl m) words = nothing_there p (sym m.0 ∙ e)
  by_place (Some p) None e f (inr m) words = nothing_there m.0 (sym (ap (λ (z : Option ℕ). job_of z seat.client.task) e ∙ ap (job_of (Some p)) f) ∙ m.1)

  pub acted_follows : StepLeaves ds k (acted k c seat t acts).core.ops (acted k c seat t acts).core.seats
  acted_follows = by_place seat.place seat.client.task refl refl a.matched a.words
