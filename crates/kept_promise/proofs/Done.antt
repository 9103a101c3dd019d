-- Each command has its operation, which came to what its client answered, or to what the server's answers led to.
use Rattle.std.proofs.Common.{inl, inr, ◌≡◌, ℕ, ◌*◌, ◌≤◌, zero, suc, List, length, Option, Some, None, Bool, IsSome, true, false, refl, sym, ap, ◌∙◌, subst}
use Rattle.command_text.specs.declared.command.Command.TheVariants as command
use Rattle.register_model.specs.Register.{success}
use Rattle.register_model.specs.declared.op.Outcome.{Outcome}
use Rattle.register_model.specs.declared.op.Outcome.TheVariants as told
use Rattle.register_model.specs.declared.op.Word.TheVariants as words
use Rattle.kept_promise.proofs.Common.{slice_get, nat_lt, ◌||◌, if◌then◌else◌, content_length, Command, local_most, written_size, is_closed, is_untold, Op, Word, word_of, file_of, World, calls_most, Moment, Deed, deeds_of, Book, book_of, can_ask, can_go, IsOpened, IsClosed, IsChanged, IsOpenRefused, HasCause, is_busy, local_before, own_answer, unless_asks, write_outcome, sized_outcome, CameTo, IsDone, Queue, changes}
use Rattle.command_text.specs.declared.path.PathCommand.{PathCommand}
use Rattle.trace_replay.specs.Causes.{NamedCause, IsRewritten, IsRewriteRefused}
use Rattle.trace_replay.specs.Complete.{EndsNamed}
use Rattle.trace_replay.specs.Faithful.{HasFile, FindsOpen, StoresLocal}
use Rattle.kept_promise.proofs.Rights.{Soon, opened_if, closed_if, may_point, RewriteRefused, RenewedBy, AreLeased, RefusedBy, DoneBy, Caused, IsRight}
use Rattle.kept_promise.proofs.Lists.{true_and_false}
use Rattle.kept_promise.proofs.Facts.{IsKept}
use Rattle.kept_promise.proofs.Deeds.{FromServer, ByServer, Stores, HasIdFile, Came, IsDeed}
use Rattle.kept_promise.proofs.Following.{IsFollowed}

-- ---- own answers

-- a client's own answer is no success of a close, and one that is told; where it has none an open, a rewrite, a close, or a command on names asks the server
abbrev AsksRemote : Command → Type 0
AsksRemote (command.Open f) = Unit {0}
AsksRemote (command.Rewrite f) = Unit {0}
AsksRemote (command.Close f) = Unit {0}
AsksRemote (command.Named n) = Unit {0}
AsksRemote k = ⊥

abbrev IsPlain : Command → Option Outcome → Type 0
IsPlain k (Some own) = (is_closed own ≡ false) × (is_untold own ≡ false)
IsPlain k None = AsksRemote k

sized_plain : (k : Command) (size : ℕ) → IsPlain k (Some (sized_outcome size))
sized_plain k size = by (nat_lt local_most size)
  where
    by : (b : Bool) → IsPlain k (Some (if b then told.TooBig size else told.Done))
    by true = (refl, refl)
    by false = (refl, refl)

written_plain : (k : Command) (size offset count : ℕ) → IsPlain k (Some (write_outcome size offset count))
written_plain k size offset zero = (refl, refl)
written_plain k size offset (suc count) = sized_plain k (written_size size offset (suc count))

asks_plain : (k : Command) (b : Bool) → AsksRemote k → IsPlain k (unless_asks b)
asks_plain k true h = h
asks_plain k false h = (refl, refl)

own_plain : (busy asks : Bool) (k : Command) (l : Option (List ℕ)) → IsPlain k (own_answer busy asks k l)
own_plain true asks k l = (refl, refl)
own_plain false asks (command.Named n) None = asks_plain (command.Named n) asks tt
own_plain false asks (command.Named n) (Some x) = asks_plain (command.Named n) asks tt
own_plain false asks (command.Open f) None = asks_plain (command.Open f) asks tt
own_plain false asks (command.Rewrite f) None = asks_plain (command.Rewrite f) asks tt
own_plain false asks (command.Write f offset content) None = (refl, refl)
own_plain false asks (command.Trunc f size) None = (refl, refl)
own_plain false asks (command.Read f offset count) None = (refl, refl)
own_plain false asks (command.Close f) None = (refl, refl)
own_plain false asks (command.Abandon f) None = (refl, refl)
own_plain false asks (command.Open f) (Some x) = (refl, refl)
own_plain false asks (command.Rewrite f) (Some x) = (refl, refl)
own_plain false asks (command.Write f offset content) (Some x) = written_plain (command.Write f offset content) (length x) offset (content_length content)
own_plain false asks (command.Trunc f size) (Some x) = sized_plain (command.Trunc f size) size
own_plain false asks (command.Read f offset count) (Some x) = (refl, refl)
own_plain false asks (command.Close f) (Some x) = asks_plain (command.Close f) asks tt
own_plain false asks (command.Abandon f) (Some x) = (refl, refl)

-- ---- causes

open_cause : (book : Book) (f : ℕ) (o : Op) (u : Outcome) → Soon book o u → o.word ≡ words.Open → o.file ≡ f → ((status : ℕ) → u ≡ told.Refused status → IsOpenRefused book f o status) → FromServer words.Open u → Caused book o u → HasCause book (command.Open f) o u
open_cause book f o (told.Opened n d) soon w e r s h = subst (λ (x : ℕ). IsOpened book x o n d) e (opened_if book o n d soon h.1)
open_cause book f o (told.Refused t) soon w e r s h = r t refl
open_cause book f o (told.Changed a b) soon w e r s h = subst (λ (x : ℕ). IsChanged book x o a b) e h.1
open_cause book f o told.Lost soon w e r s h = h.1
open_cause book f o told.Running soon w e r s h = h.1
open_cause book f o (told.Closed v n d) soon w e r s h = absurd (apart (sym h.0 ∙ w))
  where
    apart : words.Close ≡ words.Open → ⊥
    apart e = absurd cc
open_cause book f o told.PeerMemory soon w e r s h = h
open_cause book f o (told.BadPeer n) soon w e r s h = h
open_cause book f o told.Memory soon w e r s h = h
open_cause book f o (told.Names n) soon w e r s h = absurd (apart (sym h ∙ w))
  where
    apart : words.List ≡ words.Open → ⊥
    apart e = absurd cc
open_cause book f o (told.Seen a b c d) soon w e r s h = absurd (apart (sym h ∙ w))
  where
    apart : words.Look ≡ words.Open → ⊥
    apart e = absurd cc
open_cause book f o told.Done soon w e r s h = absurd (apart s)
  where
    apart : words.Open ≡ words.Rewrite → ⊥
    apart e = absurd cc
open_cause book f o _ soon w e r s h = s

-- a rewrite has no point
pub rewrite_pointless : (book : Book) (o : Op) → IsRight book o → o.word ≡ words.Rewrite → o.point ≡ None
rewrite_pointless book o right w = by o.point refl
  where
    by : (t : Option ℕ) → o.point ≡ t → t ≡ None
    by None e = refl
    by (Some p) e = absurd (true_and_false (may_point o.word) (right.pointed p e).2 (ap may_point w))

pub rewrite_done : (book : Book) (o : Op) → AreLeased book.moments → o.point ≡ None → RenewedBy book o → IsRewritten book o
rewrite_done book o leased none (inl h) = (none, inl (record { step = h.step; inside = h.inside; there = subst (λ (v : Option (List ℕ)). IsSome v) (sym h.value_is) refl; xid = h.xid; taken = h.taken }))
rewrite_done book o leased none (inr h) = (none, inr (h.ends, h.value_is leased))

pub rewrite_refusal : (book : Book) (o : Op) (status : ℕ) → o.point ≡ None → RewriteRefused book o status → IsRewriteRefused book o status
rewrite_refusal book o status none (inl h) = inl (h.0, none, h.1)
rewrite_refusal book o status none (inr h) = inr (record { status_is = h.0; pointless = none; step = h.1.0; inside = h.1.1; value_is = h.1.3 })

rewrite_cause : (book : Book) (f : ℕ) (o : Op) (u : Outcome) → AreLeased book.moments → o.word ≡ words.Rewrite → o.point ≡ None → ((status : ℕ) → u ≡ told.Refused status → RewriteRefused book o status) → FromServer words.Rewrite u → Caused book o u → HasCause book (command.Rewrite f) o u
rewrite_cause book f o told.Done leased w none r s h = rewrite_done book o leased none (subst (DoneBy book o) w h)
rewrite_cause book f o (told.Refused t) leased w none r s h = rewrite_refusal book o t none (r t refl)
rewrite_cause book f o told.Lost leased w none r s h = h.1
rewrite_cause book f o told.Running leased w none r s h = h.1
rewrite_cause book f o (told.Opened n d) leased w none r s h = absurd (apart (sym h.0 ∙ w))
  where
    apart : words.Open ≡ words.Rewrite → ⊥
    apart e = absurd cc
rewrite_cause book f o (told.Changed a b) leased w none r s h = absurd (apart (sym h.0 ∙ w))
  where
    apart : words.Open ≡ words.Rewrite → ⊥
    apart e = absurd cc
rewrite_cause book f o (told.Closed v n d) leased w none r s h = absurd (apart (sym h.0 ∙ w))
  where
    apart : words.Close ≡ words.Rewrite → ⊥
    apart e = absurd cc
rewrite_cause book f o told.PeerMemory leased w none r s h = h
rewrite_cause book f o (told.BadPeer n) leased w none r s h = h
rewrite_cause book f o told.Memory leased w none r s h = h
rewrite_cause book f o (told.Names n) leased w none r s h = absurd (apart (sym h ∙ w))
  where
    apart : words.List ≡ words.Rewrite → ⊥
    apart e = absurd cc
rewrite_cause book f o (told.Seen a b c d) leased w none r s h = absurd (apart (sym h ∙ w))
  where
    apart : words.Look ≡ words.Rewrite → ⊥
    apart e = absurd cc
rewrite_cause book f o _ leased w none r s h = s

close_cause : (book : Book) (f : ℕ) (o : Op) (u : Outcome) → Soon book o u → o.word ≡ words.Close → o.file ≡ f → FromServer words.Close u → Caused book o u → HasCause book (command.Close f) o u
close_cause book f o (told.Closed v n d) soon w e s h = subst (λ (x : ℕ). IsClosed book x o v n d) e (closed_if book o v n d soon h.1)
close_cause book f o (told.Refused t) soon w e s h = elim (subst (λ (x : Word). RefusedBy book o x t) w h) [ inl full ↦ inl full | inr gone ↦ inr gone.0 ]
close_cause book f o told.Lost soon w e s h = h.1
close_cause book f o told.Running soon w e s h = h.1
close_cause book f o (told.Opened n d) soon w e s h = absurd (apart (sym h.0 ∙ w))
  where
    apart : words.Open ≡ words.Close → ⊥
    apart e = absurd cc
close_cause book f o (told.Changed a b) soon w e s h = absurd (apart (sym h.0 ∙ w))
  where
    apart : words.Open ≡ words.Close → ⊥
    apart e = absurd cc
close_cause book f o told.PeerMemory soon w e s h = h
close_cause book f o (told.BadPeer n) soon w e s h = h
close_cause book f o told.Memory soon w e s h = h
close_cause book f o (told.Names n) soon w e s h = absurd (apart (sym h ∙ w))
  where
    apart : words.List ≡ words.Close → ⊥
    apart e = absurd cc
close_cause book f o (told.Seen a b c d) soon w e s h = absurd (apart (sym h ∙ w))
  where
    apart : words.Look ≡ words.Close → ⊥
    apart e = absurd cc
close_cause book f o told.Done soon w e s h = absurd (apart s)
  where
    apart : words.Close ≡ words.Rewrite → ⊥
    apart e = absurd cc
close_cause book f o _ soon w e s h = s

-- ---- a command's operation

abbrev is_close : Word → Bool
is_close words.Close = true
is_close _ = false

not_close : (w : Word) → is_close w ≡ false → w ≡ words.Close → ⊥
not_close w not e = both (is_close w) (ap is_close e) not
  where
    both : (b : Bool) → b ≡ true → b ≡ false → ⊥
    both b e d = absurd cc

-- what a client answered by itself has no point
pointless : (book : Book) (o : Op) (own : Outcome) → IsRight book o → o.outcome ≡ own → (is_closed own ≡ false) × (is_untold own ≡ false) → ((o.word ≡ words.Close → ⊥) → o.point ≡ None) → o.point ≡ None
pointless book o own right is plain other = by o.word refl
  where
    by : (w : Word) → o.word ≡ w → o.point ≡ None
    by words.Close e = right.failed (ap changes e) (ap (λ (w : Word). success w o.file o.outcome) e ∙ ap is_closed is ∙ plain.0) (ap is_untold is ∙ plain.1)
    by w e = other (λ c. not_close w refl (sym e ∙ c))

came_to : (book : Book) (d : Deed) (o : Op) (l : Option (List ℕ)) (x : Option Outcome) → IsRight book o → (Stores d.command o l → StoresLocal d.command o l) → (AsksRemote d.command → ByServer d.command o.outcome → HasCause book d.command o o.outcome) → IsPlain d.command x → Came d o l x → CameTo book d o l x
came_to book d o l (Some own) right stores cause plain c = (c.0, c.1, pointless book o own right c.0 plain c.2)
came_to book d o l None right stores cause plain c = (cause plain c.1, stores c.0)

-- what is known beside: why an open, or a rewrite, by an id was refused, and why a command on names that asked the server ended so
pub record IsKnown (book : Book) (d : Deed) (o : Op) (l : Option (List ℕ)) : Type 0 where
  pub refused : (f : ℕ) → d.command ≡ command.Open f → (status : ℕ) → o.outcome ≡ told.Refused status → IsOpenRefused book f o status
  pub renewed : (f : ℕ) → d.command ≡ command.Rewrite f → (status : ℕ) → o.outcome ≡ told.Refused status → RewriteRefused book o status
  pub named : (n : PathCommand) → d.command ≡ command.Named n → own_answer (is_busy book.ops o) (can_go d) d.command None ≡ None → (o.end ≡ Some o.begin → ⊥) → NamedCause book n o o.outcome × FindsOpen n o.outcome l
  -- the status of one that was refused so is one that it may have
  pub ends : (n : PathCommand) → d.command ≡ command.Named n → (o.end ≡ Some o.begin → ⊥) → (status : ℕ) → o.outcome ≡ told.Refused status → EndsNamed n (told.Refused status)

-- its file, and what it came to
module _ (book : Book) (ds : List Deed) (i : ℕ) (d : Deed) (o : Op) (leased : AreLeased book.moments) (soon : Soon book o o.outcome) (right : IsRight book o) (busy asks : Bool) where
  abbrev before : ℕ → Option (List ℕ)
  before f = local_before ds book.ops i d.client f

  abbrev own : Command → ℕ → Option Outcome
  own k f = own_answer busy asks k (before f)

  abbrev Part : Command → ℕ → Type 0
  Part k f = HasFile k o (own k f) × CameTo book (record d { command = k }) o (before f) (own k f)

  -- on a file by its id
  id_part : (k : Command) → o.file ≡ file_of k → ((x : Option Outcome) → HasFile k o x) → (Stores k o (before (file_of k)) → StoresLocal k o (before (file_of k))) → (AsksRemote k → ByServer k o.outcome → HasCause book k o o.outcome) → Came (record d { command = k }) o (before (file_of k)) (own k (file_of k)) → Part k o.file
  id_part k e file stores cause c = subst (Part k) (sym e) (file (own k (file_of k)), came_to book (record d { command = k }) o (before (file_of k)) (own k (file_of k)) right stores cause (own_plain busy asks k (before (file_of k))) c)

  -- on names: what its client answers doesn't rest on a local content
  own_named : (n : PathCommand) (l : Option (List ℕ)) → own_answer busy asks (command.Named n) l ≡ own_answer busy asks (command.Named n) None
  own_named n l = by busy l
    where
      by : (b : Bool) (l : Option (List ℕ)) → own_answer b asks (command.Named n) l ≡ own_answer b asks (command.Named n) None
      by true l = refl
      by false None = refl
      by false (Some x) = refl

  named_part : (n : PathCommand) → (own_answer busy asks (command.Named n) None ≡ None → (o.end ≡ Some o.begin → ⊥) → NamedCause book n o o.outcome × FindsOpen n o.outcome (before o.file)) → Came (record d { command = command.Named n }) o (before 0) (own (command.Named n) 0) → Part (command.Named n) o.file
  named_part n known c =
      subst (λ (x : Option Outcome). HasFile (command.Named n) o x × CameTo book (record d { command = command.Named n }) o (before o.file) x) (sym (own_named n (before o.file)))
      (by (own_answer busy asks (command.Named n) None) refl (own_plain busy asks (command.Named n) None) (subst (Came (record d { command = command.Named n }) o (before 0)) (own_named n (before 0)) c))
    where
      by : (x : Option Outcome) → own_answer busy asks (command.Named n) None ≡ x → IsPlain (command.Named n) x → Came (record d { command = command.Named n }) o (before 0) x → HasFile (command.Named n) o x × CameTo book (record d { command = command.Named n }) o (before o.file) x
      by (Some own) e plain c = (c.3, (c.0, c.1, pointless book o own right c.0 plain c.2))
      by None e plain c = (tt, known e c.2)

  part : (k : Command) → HasIdFile k o → o.word ≡ word_of k → ((f : ℕ) → k ≡ command.Open f → (status : ℕ) → o.outcome ≡ told.Refused status → IsOpenRefused book f o status) → ((f : ℕ) → k ≡ command.Rewrite f → (status : ℕ) → o.outcome ≡ told.Refused status → RewriteRefused book o status) → ((n : PathCommand) → k ≡ command.Named n → own_answer busy asks k None ≡ None → (o.end ≡ Some o.begin → ⊥) → NamedCause book n o o.outcome × FindsOpen n o.outcome (before o.file))
      → Came (record d { command = k }) o (before (file_of k)) (own k (file_of k)) → Part k o.file
  part (command.Rewrite f) e w refused renewed named c = id_part (command.Rewrite f) e (λ x. e) (λ s. s) (λ a s. rewrite_cause book f o o.outcome leased w (rewrite_pointless book o right w) (renewed f refl) s right.cause) c
  part (command.Open f) e w refused renewed named c = id_part (command.Open f) e (λ x. e) (λ s. s) (λ a s. open_cause book f o o.outcome soon w e (refused f refl) s right.cause) c
  part (command.Close f) e w refused renewed named c = id_part (command.Close f) e (λ x. e) (λ s. s) (λ a s. close_cause book f o o.outcome soon w e s right.cause) c
  part (command.Named n) e w refused renewed named c = named_part n (named n refl) c
  part d e w refused renewed named c = id_part d e (λ x. e) (λ s. s) (λ a s. absurd a) c

pub is_done : (book : Book) (ds : List Deed) (i : ℕ) (d : Deed) (o : Op) → AreLeased book.moments → Soon book o o.outcome → d.calls ≤ calls_most * d.begin → IsRight book o → IsDeed ds book.ops i d o → IsKnown book d o (local_before ds book.ops i d.client o.file) → IsDone book d o (local_before ds book.ops i d.client o.file)
is_done book ds i d o leased soon few right h known =
    let p = part book ds i d o leased soon right (is_busy book.ops o) (can_go d) d.command h.file h.word known.refused known.renewed known.named h.came in
    record {
      client = h.client;
      word = h.word;
      file = p.0;
      begin = h.begin;
      few = few;
      came_to = p.1;
      end = right.ends;
      order = λ e at. (right.past e at).0;
    }

-- a command on names that asked the server isn't over in its first step
pub asked_late : (ds : List Deed) (ops : List Op) (i : ℕ) (d : Deed) (o : Op) (n : PathCommand) → IsDeed ds ops i d o → d.command ≡ command.Named n → can_ask d.joined d.calls ≡ true → is_busy ops o ≡ false → o.end ≡ Some o.begin → ⊥
asked_late ds ops i d o n h is asks free =
    (subst (Came (record d { command = command.Named n }) o (local_before ds ops i d.client 0)) (own (local_before ds ops i d.client 0)) (subst (λ (k : Command). Came (record d { command = k }) o (local_before ds ops i d.client (file_of k)) (own_answer (is_busy ops o) (can_go d) k (local_before ds ops i d.client (file_of k)))) is h.came)).2
  where
    asked : (l : Option (List ℕ)) → own_answer false true (command.Named n) l ≡ None
    asked None = refl
    asked (Some x) = refl

    own : (l : Option (List ℕ)) → own_answer (is_busy ops o) (can_go d) (command.Named n) l ≡ None
    own l = ap (λ (b : Bool). own_answer b (can_go d) (command.Named n) l) free ∙ ap (λ (b : Bool). own_answer false (b || d.fresh) (command.Named n) l) asks ∙ asked l

-- of a whole run: each command has its one operation, in order
pub deeds_counted : (w : World) (all : List Moment) → IsFollowed all w.core → length w.core.ops ≡ length (deeds_of all)
deeds_counted w all h = h.deeds.count

pub deeds_done : (w : World) (all : List Moment) (leased : AreLeased all) (soon : (k : ℕ) (o : Op) → slice_get w.core.ops k ≡ Some o → Soon (book_of w all) o o.outcome) (qs : List Queue) → IsKept (book_of w all) w.core qs → IsFollowed all w.core → (k : ℕ) (d : Deed) (o : Op) → slice_get (deeds_of all) k ≡ Some d → slice_get w.core.ops k ≡ Some o → IsKnown (book_of w all) d o (local_before (deeds_of all) w.core.ops k d.client o.file)
    → IsDone (book_of w all) d o (local_before (deeds_of all) w.core.ops k d.client o.file)
deeds_done w all leased soon qs kept h k d o at is known = is_done (book_of w all) (deeds_of all) k d o leased (soon k o is) (h.few k d at) (kept.sound.rights k o is) (h.deeds.each k d o at is) known
