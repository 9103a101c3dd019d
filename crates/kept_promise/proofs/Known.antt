-- Why a command on names that asked the server ended as it did, by what its names led to.
use Rattle.std.proofs.Common.{◌⊎◌, inl, inr, ◌≡◌, ℕ, zero, suc, ◌<◌, List, [], ◌∷◌, ◌++◌, Some, None, Result, Bool, true, false, refl, sym, ap, ◌∙◌, subst, arith}
use Rattle.command_text.specs.declared.path.PathCommand.{PathCommand}
use Rattle.command_text.specs.declared.path.PathCommand.TheVariants as path
use Rattle.command_text.specs.declared.path.Spot.{Spot}
use Rattle.register_model.specs.declared.op.Outcome.{Outcome}
use Rattle.register_model.specs.declared.op.Outcome.TheVariants as told
use Rattle.register_model.specs.declared.op.Word.TheVariants as words
use Rattle.trace_replay.specs.Causes.{NamedCause, IsPathRefused, IsRenewRefused}
use Rattle.trace_replay.specs.Complete.{EndsNamed}
use Rattle.trace_ends.specs.Commands.{path_word, word_of}
use Rattle.trace_replay.specs.Trail.{step_of}
use Rattle.xdr_codec.specs.declared.handle.TheConstants.{ROOT}
use Rattle.xdr_codec.specs.declared.status.Status.{Status}
use Rattle.tree_reading.specs.Tree.{Tree}
use Rattle.file_tree.specs.Step.{create, mkdir, remove, rmdir, rename}
use Rattle.tree_reading.specs.declared.call.Changed.{Changed}
use Rattle.tree_reading.specs.declared.call.CreateMode.TheVariants as mode
use Rattle.tree_reading.specs.declared.call.Reservation.{Reservation}
use Rattle.nfs3_calls.specs.declared.message.Nfs.{Nfs}
use Rattle.nfs3_calls.specs.declared.message.Nfs.TheVariants as nfs
use Rattle.wire.specs.declared.message.Body.TheVariants as body
use Rattle.path_calls.specs.Walk.{place, create_call, make_dir_call, rename_call}
use Rattle.server_core.specs.Closing.{entries_by}
use Rattle.trace_replay.specs.OwnCalls.{ComesTo}
use Rattle.trace_replay.specs.Naming.{Leads, all_names, FindsFile, HasFound, IsSeen, IsRootSeen, IsListed, ListsTooLong, IsRefused, Makes, MakesIn, Renames}
use Rattle.kept_promise.proofs.Common.{Op, Word, Book, IsOpenRefused, Contains, Contains-push}
use Rattle.kept_promise.proofs.Rights.{AreLeased, Soon, opened_if, RewriteRefused, RefusedBy, DoneBy, Caused}
use Rattle.command_text.specs.declared.command.Command.TheVariants as command
use Rattle.kept_promise.proofs.Common.{Command, Deed, local_before, slice_get}
use Rattle.kept_promise.proofs.WalkRuns.{bare, EndsAs, IsOver, takes_on}
use Rattle.kept_promise.proofs.Opens.{FindsBy, finds_so, HasOpens}
use Rattle.kept_promise.proofs.Done.{IsKnown, rewrite_done, rewrite_refusal}

-- it makes a file or a directory, or removes one
abbrev is_making_command : PathCommand → Bool
is_making_command (path.Make s) = true
is_making_command (path.MakeDir s) = true
is_making_command (path.Remove s) = true
is_making_command (path.RemoveDir s) = true
is_making_command (path.Rename s t) = true
is_making_command c = false

-- ---- of a book's moments alone

leads_in : (book : Book) (from dir : ℕ) (ns : List (List ℕ)) (id step : ℕ) → Leads (bare book.moments) from dir ns id step → Leads book from dir ns id step
leads_in book from dir [] id step h = h
leads_in book from dir (n ∷ ns) id step (m, s, there, le, is, rest) = (m, s, there, le, is, leads_in book (step_of m) s.id ns id step rest)

finds_in : (book : Book) (o : Op) (s : Spot) → FindsFile (bare book.moments) o s → FindsFile book o s
finds_in book o s h = record { step = h.step; found = leads_in book o.begin ROOT (all_names s) o.file h.step h.found; inside = h.inside }

seen_in : (book : Book) (o : Op) (s : Spot) (id kind version len : ℕ) → IsSeen (bare book.moments) o s id kind version len → IsSeen book o s id kind version len
seen_in book o s id kind version len h = record { dir = h.dir; found_at = h.found_at; found = leads_in book o.begin ROOT s.dirs h.dir h.found_at h.found; moment = h.moment; there = h.there; inside = h.inside; node = h.node; node_is = h.node_is; shows = h.shows }

root_in : (book : Book) (o : Op) (id kind version len : ℕ) → IsRootSeen (bare book.moments) o id kind version len → IsRootSeen book o id kind version len
root_in book o id kind version len h = record { moment = h.moment; there = h.there; inside = h.inside; node = h.node; node_is = h.node_is; shows = h.shows }

listed_in : (book : Book) (o : Op) (p list : List (List ℕ)) → IsListed (bare book.moments) o p list → IsListed book o p list
listed_in book o p list h = record { dir = h.dir; found_at = h.found_at; found = leads_in book o.begin ROOT p h.dir h.found_at h.found; moment = h.moment; there = h.there; inside = h.inside; node = h.node; directory = h.directory; names_are = h.names_are }

abbrev refused_in : (book : Book) (o : Op) (status : ℕ) → IsRefused (bare book.moments) o status → IsRefused book o status
refused_in book o status h = record { moment = h.moment; there = h.there; inside = h.inside; session = h.session; xid = h.xid; answer = h.answer; sent = h.sent; refuses = h.refuses; waits = h.waits; tells = h.tells; taken = h.taken; taken_there = h.taken_there; now = h.now; bytes = h.bytes; event_is = h.event_is; ends = h.ends; takes = h.takes }

makes_in : (book : Book) (o : Op) (behind : ℕ) (asks : Nfs) (call : Tree → Reservation → Tree × Result Changed Status) → Makes (bare book.moments) o behind asks call → Makes book o behind asks call
makes_in book o behind asks call h =
    let t = takes_on (bare book.moments) book o.client o.client h.taken h.xid (body.Nfs asks) (λ m there. there) refl h.takes in
    record { xid = h.xid; taken = h.taken; takes = t.0; after = h.after; moment = h.moment; there = h.there; comes = subst (λ (n : ℕ). ComesTo h.moment n h.xid h.taken) (sym t.1) h.comes; inside = h.inside; done = h.done; done_is = h.done_is; tree_is = h.tree_is; journal_is = h.journal_is ∙ ap (λ (n : ℕ). h.moment.before.server.journal ++ entries_by n h.done.first h.done.second) (sym t.1); pointed = h.pointed }

made_in : (book : Book) (o : Op) (dirs : List (List ℕ)) (asks : (dir : ℕ) → Nfs) (call : (dir : ℕ) → Tree → Reservation → Tree × Result Changed Status) → MakesIn (bare book.moments) o dirs asks call → MakesIn book o dirs asks call
made_in book o dirs asks call (dir, step, leads, made) = (dir, step, leads_in book o.begin ROOT dirs dir step leads, makes_in book o step (asks dir) (call dir) made)

renamed_in : (book : Book) (o : Op) (s t : Spot) → Renames (bare book.moments) o s t → Renames book o s t
renamed_in book o s t (dir, first, to, second, leads, more, made) = (dir, first, to, second, leads_in book o.begin ROOT s.dirs dir first leads, leads_in book first ROOT t.dirs to second more, makes_in book o second (rename_call dir s.name to t.name) (λ tree held. rename tree held dir s.name to t.name) made)

-- ---- what is known beside

pub record IsGiven (book : Book) (c : PathCommand) (o : Op) : Type 0 where
  -- no file has the id 0
  pub positive : (s : Spot) → FindsFile (bare book.moments) o s → o.file ≡ 0 → ⊥
  pub too_long : (p : List (List ℕ)) → c ≡ path.List p → o.outcome ≡ told.NoLink → ListsTooLong book o

-- ---- an open of a path

apart : (w v : Word) → (w ≡ v → ⊥) → (x : Word) → x ≡ w → x ≡ v → ⊥
apart w v not x a b = not (sym a ∙ b)

open_close : words.Open ≡ words.Close → ⊥
open_close e = absurd cc

open_list : words.Open ≡ words.List → ⊥
open_list e = absurd cc

open_look : words.Open ≡ words.Look → ⊥
open_look e = absurd cc

open_rewrite : words.Open ≡ words.Rewrite → ⊥
open_rewrite e = absurd cc

rewrite_open : words.Rewrite ≡ words.Open → ⊥
rewrite_open e = absurd cc

rewrite_close : words.Rewrite ≡ words.Close → ⊥
rewrite_close e = absurd cc

rewrite_list : words.Rewrite ≡ words.List → ⊥
rewrite_list e = absurd cc

rewrite_look : words.Rewrite ≡ words.Look → ⊥
rewrite_look e = absurd cc

-- the id 0 is no file's
has_found : (book : Book) (o : Op) (s : Spot) → (FindsFile (bare book.moments) o s → o.file ≡ 0 → ⊥) → FindsFile (bare book.moments) o s → HasFound book o s
has_found book o s positive f = (finds_in book o s f, by o.file (positive f))
  where
    by : (n : ℕ) → (n ≡ 0 → ⊥) → 0 < n
    by zero not = absurd (not refl)
    by (suc n) not = omega arith

path_refused : (book : Book) (o : Op) (s : Spot) (status : ℕ) → (FindsFile (bare book.moments) o s → o.file ≡ 0 → ⊥) → RefusedBy book o words.Open status → EndsAs book.moments (path.Find s) o (told.Refused status) → IsPathRefused book o s status
path_refused book o s status positive (inl r) (inl f) = inl (has_found book o s positive f.0, r)
path_refused book o s status positive (inr z) (inl f) = absurd (positive f.0 z.0)
path_refused book o s status positive (inl r) (inr u) = inr (u.0, (refused_in book o status u.1.0, u.1.1))
path_refused book o s status positive (inr z) (inr u) = inr (u.0, (refused_in book o status u.1.0, u.1.1))

found_as : (book : Book) (o : Op) (s : Spot) (u : Outcome) → Soon book o u → o.word ≡ words.Open → (FindsFile (bare book.moments) o s → o.file ≡ 0 → ⊥) → Caused book o u → EndsAs book.moments (path.Find s) o u → NamedCause book (path.Find s) o u
found_as book o s (told.Opened len digest) soon w positive h (inl f) = (has_found book o s positive f.0, opened_if book o len digest soon h.1)
found_as book o s told.AlreadyOpen soon w positive h (inl f) = (has_found book o s positive f.0, f.1 refl)
found_as book o s (told.Changed first last) soon w positive h (inl f) = (has_found book o s positive f.0, h.1)
found_as book o s (told.Refused status) soon w positive h ends = path_refused book o s status positive (subst (λ (v : Word). RefusedBy book o v status) w h) ends
found_as book o s told.Lost soon w positive h ends = h.1
found_as book o s told.Running soon w positive h ends = h.1
found_as book o s (told.Closed version len digest) soon w positive h ends = absurd (apart words.Open words.Close open_close o.word w h.0)
found_as book o s told.PeerMemory soon w positive h ends = absurd h
found_as book o s (told.BadPeer n) soon w positive h ends = absurd h
found_as book o s told.Memory soon w positive h ends = absurd h
found_as book o s (told.Names list) soon w positive h ends = absurd (apart words.Open words.List open_list o.word w h)
found_as book o s (told.Seen id kind version len) soon w positive h ends = absurd (apart words.Open words.Look open_look o.word w h)
found_as book o s (told.Piece len digest) soon w positive h (inl f) = absurd f.2
found_as book o s told.Done soon w positive h (inl f) = absurd (open_rewrite f.2)
found_as book o s told.Busy soon w positive h (inl f) = absurd f.2
found_as book o s told.NotOpen soon w positive h (inl f) = absurd f.2
found_as book o s (told.TooBig size) soon w positive h (inl f) = absurd f.2
found_as book o s told.NoLink soon w positive h (inl f) = absurd f.2
found_as book o s _ soon w positive h (inr x) = absurd x.1

-- ---- a rewrite

renew_refused : (book : Book) (o : Op) (s : Spot) (status : ℕ) → (FindsFile (bare book.moments) o s → o.file ≡ 0 → ⊥) → o.point ≡ None → RefusedBy book o words.Rewrite status → EndsAs book.moments (path.Rewrite s) o (told.Refused status) → IsRenewRefused book o s status
renew_refused book o s status positive none (inl r) (inl f) = inl (has_found book o s positive f.0, rewrite_refusal book o status none r)
renew_refused book o s status positive none (inr z) (inl f) = absurd (positive f.0 z.0)
renew_refused book o s status positive none r (inr u) = inr (refused_in book o status u.1.0, u.1.1)

renewed_as : (book : Book) (o : Op) (s : Spot) (u : Outcome) → AreLeased book.moments → o.word ≡ words.Rewrite → o.point ≡ None → (FindsFile (bare book.moments) o s → o.file ≡ 0 → ⊥) → Caused book o u → EndsAs book.moments (path.Rewrite s) o u → NamedCause book (path.Rewrite s) o u
renewed_as book o s told.Done leased w none positive h (inl f) = (has_found book o s positive f.0, rewrite_done book o leased none (subst (DoneBy book o) w h))
renewed_as book o s told.AlreadyOpen leased w none positive h (inl f) = (has_found book o s positive f.0, none)
renewed_as book o s (told.Refused status) leased w none positive h ends = renew_refused book o s status positive none (subst (λ (v : Word). RefusedBy book o v status) w h) ends
renewed_as book o s told.Lost leased w none positive h ends = h.1
renewed_as book o s told.Running leased w none positive h ends = h.1
renewed_as book o s (told.Opened len digest) leased w none positive h ends = absurd (apart words.Rewrite words.Open rewrite_open o.word w h.0)
renewed_as book o s (told.Changed first last) leased w none positive h ends = absurd (apart words.Rewrite words.Open rewrite_open o.word w h.0)
renewed_as book o s (told.Closed version len digest) leased w none positive h ends = absurd (apart words.Rewrite words.Close rewrite_close o.word w h.0)
renewed_as book o s told.PeerMemory leased w none positive h ends = absurd h
renewed_as book o s (told.BadPeer n) leased w none positive h ends = absurd h
renewed_as book o s told.Memory leased w none positive h ends = absurd h
renewed_as book o s (told.Names list) leased w none positive h ends = absurd (apart words.Rewrite words.List rewrite_list o.word w h)
renewed_as book o s (told.Seen id kind version len) leased w none positive h ends = absurd (apart words.Rewrite words.Look rewrite_look o.word w h)
renewed_as book o s (told.Piece len digest) leased w none positive h (inl f) = absurd f.1
renewed_as book o s told.Busy leased w none positive h (inl f) = absurd f.1
renewed_as book o s told.NotOpen leased w none positive h (inl f) = absurd f.1
renewed_as book o s (told.TooBig size) leased w none positive h (inl f) = absurd f.1
renewed_as book o s told.NoLink leased w none positive h (inl f) = absurd f.1
renewed_as book o s _ leased w none positive h (inr x) = absurd x.1

-- ---- a look, and a listing

look_as : (book : Book) (o : Op) (s : Spot) (u : Outcome) → Caused book o u → EndsAs book.moments (path.Look s) o u → NamedCause book (path.Look s) o u
look_as book o s (told.Seen id kind version len) h ends = (seen_in book o s id kind version len ends.0, ends.1, ends.2)
look_as book o s (told.Refused status) h ends = (refused_in book o status ends.0, ends.1)
look_as book o s told.Lost h ends = h.1
look_as book o s told.Running h ends = h.1
look_as book o s _ h ends = absurd ends

root_as : (book : Book) (o : Op) (u : Outcome) → Caused book o u → EndsAs book.moments path.LookRoot o u → NamedCause book path.LookRoot o u
root_as book o (told.Seen id kind version len) h ends = (root_in book o id kind version len ends.0, ends.1)
root_as book o (told.Refused status) h ends = (refused_in book o status ends.0, ends.1)
root_as book o told.Lost h ends = h.1
root_as book o told.Running h ends = h.1
root_as book o _ h ends = absurd ends

list_as : (book : Book) (o : Op) (p : List (List ℕ)) (u : Outcome) → (u ≡ told.NoLink → ListsTooLong book o) → Caused book o u → EndsAs book.moments (path.List p) o u → NamedCause book (path.List p) o u
list_as book o p (told.Names list) long h ends = (listed_in book o p list ends.0, ends.1)
list_as book o p told.NoLink long h ends = (long refl, ends)
list_as book o p (told.Refused status) long h ends = (refused_in book o status ends.0, ends.1)
list_as book o p told.Lost long h ends = h.1
list_as book o p told.Running long h ends = h.1
list_as book o p _ long h ends = absurd ends

-- ---- one that makes, removes or renames something

change_as : (book : Book) (o : Op) (c : PathCommand) (u : Outcome) → is_making_command c ≡ true → Caused book o u → EndsAs book.moments c o u → NamedCause book c o u
change_as book o (path.Make s) told.Done e h ends = made_in book o s.dirs (λ dir. create_call dir s.name) (λ dir t held. create t held dir s.name mode.Guarded) ends
change_as book o (path.Make s) (told.Refused status) e h ends = (refused_in book o status ends.0, ends.1)
change_as book o (path.Make s) told.Lost e h ends = h.1
change_as book o (path.Make s) told.Running e h ends = h.1
change_as book o (path.Make s) _ e h ends = absurd ends
change_as book o (path.MakeDir s) told.Done e h ends = made_in book o s.dirs (λ dir. make_dir_call dir s.name) (λ dir t held. mkdir t held dir s.name) ends
change_as book o (path.MakeDir s) (told.Refused status) e h ends = (refused_in book o status ends.0, ends.1)
change_as book o (path.MakeDir s) told.Lost e h ends = h.1
change_as book o (path.MakeDir s) told.Running e h ends = h.1
change_as book o (path.MakeDir s) _ e h ends = absurd ends
change_as book o (path.RemoveDir s) told.Done e h ends = made_in book o s.dirs (λ dir. nfs.RmDir (place dir s.name)) (λ dir t held. rmdir t held dir s.name) ends
change_as book o (path.RemoveDir s) (told.Refused status) e h ends = (refused_in book o status ends.0, ends.1)
change_as book o (path.RemoveDir s) told.Lost e h ends = h.1
change_as book o (path.RemoveDir s) told.Running e h ends = h.1
change_as book o (path.RemoveDir s) _ e h ends = absurd ends
change_as book o (path.Remove s) told.Done e h ends = made_in book o s.dirs (λ dir. nfs.Remove (place dir s.name)) (λ dir t held. remove t held dir s.name) ends
change_as book o (path.Remove s) (told.Refused status) e h ends = (refused_in book o status ends.0, ends.1)
change_as book o (path.Remove s) told.Lost e h ends = h.1
change_as book o (path.Remove s) told.Running e h ends = h.1
change_as book o (path.Remove s) _ e h ends = absurd ends
change_as book o (path.Rename s t) told.Done e h ends = renamed_in book o s t ends
change_as book o (path.Rename s t) (told.Refused status) e h ends = (refused_in book o status ends.0, ends.1)
change_as book o (path.Rename s t) told.Lost e h ends = h.1
change_as book o (path.Rename s t) told.Running e h ends = h.1
change_as book o (path.Rename s t) _ e h ends = absurd ends
change_as book o c u e h ends = absurd cc

-- ---- any

running_as : (book : Book) (o : Op) (c : PathCommand) → o.outcome ≡ told.Running → Caused book o o.outcome → NamedCause book c o o.outcome
running_as book o c is h = subst (NamedCause book c o) (sym is) (by c (subst (Caused book o) is h))
  where
    by : (c : PathCommand) → Caused book o told.Running → NamedCause book c o told.Running
    by (path.Find s) h = h.1
    by _ h = h.1

-- where it was refused, the status is one that its command may have
found_status : (book : Book) (o : Op) (s : Spot) (status : ℕ) → (FindsFile (bare book.moments) o s → o.file ≡ 0 → ⊥) → RefusedBy book o words.Open status → EndsAs book.moments (path.Find s) o (told.Refused status) → EndsNamed (path.Find s) (told.Refused status)
found_status book o s status positive (inl (inl directory)) (inl f) = inr (subst (Contains (21 ∷ [])) (sym directory.0) (Contains-push [] 21))
found_status book o s status positive (inl (inr stale)) (inl f) = inl (inr (inr stale.0))
found_status book o s status positive (inr z) (inl f) = absurd (positive f.0 z.0)
found_status book o s status positive r (inr u) = u.1.2

renewed_status : (book : Book) (o : Op) (s : Spot) (status : ℕ) → (FindsFile (bare book.moments) o s → o.file ≡ 0 → ⊥) → RefusedBy book o words.Rewrite status → EndsAs book.moments (path.Rewrite s) o (told.Refused status) → EndsNamed (path.Rewrite s) (told.Refused status)
renewed_status book o s status positive (inl (inl directory)) (inl f) = inr (subst (Contains (21 ∷ [])) (sym directory.0) (Contains-push [] 21))
renewed_status book o s status positive (inl (inr stale)) (inl f) = inl (inr (inr stale.0))
renewed_status book o s status positive (inr z) (inl f) = absurd (positive f.0 z.0)
renewed_status book o s status positive r (inr u) = u.1.2

named_status : (book : Book) (o : Op) (c : PathCommand) (status : ℕ) → o.word ≡ path_word c → Caused book o (told.Refused status) → IsGiven book c o → EndsAs book.moments c o (told.Refused status) → EndsNamed c (told.Refused status)
named_status book o (path.Find s) status w h g ends = found_status book o s status (g.positive s) (subst (λ (v : Word). RefusedBy book o v status) w h) ends
named_status book o (path.Rewrite s) status w h g ends = renewed_status book o s status (g.positive s) (subst (λ (v : Word). RefusedBy book o v status) w h) ends
named_status book o _ status w h g ends = ends.2

-- one that asked the server, which isn't over in its first step
pub named_cause : (book : Book) (o : Op) (c : PathCommand) → AreLeased book.moments → Soon book o o.outcome → o.word ≡ path_word c → (o.word ≡ words.Rewrite → o.point ≡ None) → Caused book o o.outcome → IsGiven book c o → (o.outcome ≡ told.Running) ⊎ EndsAs book.moments c o o.outcome → NamedCause book c o o.outcome
named_cause book o c leased soon word bare_ h given (inl running) = running_as book o c running h
named_cause book o c leased soon word bare_ h given (inr ends) = by c word given ends
  where
    by : (c : PathCommand) → o.word ≡ path_word c → IsGiven book c o → EndsAs book.moments c o o.outcome → NamedCause book c o o.outcome
    by (path.Find s) w g ends = found_as book o s o.outcome soon w (g.positive s) h ends
    by (path.Rewrite s) w g ends = renewed_as book o s o.outcome leased w (bare_ w) (g.positive s) h ends
    by (path.Look s) w g ends = look_as book o s o.outcome h ends
    by path.LookRoot w g ends = root_as book o o.outcome h ends
    by (path.List p) w g ends = list_as book o p o.outcome (g.too_long p refl) h ends
    by e w g ends = change_as book o e o.outcome refl h ends

-- all that is known of a command, for what it came to
pub known_by : (book : Book) (ds : List Deed) (i : ℕ) (d : Deed) (o : Op) → AreLeased book.moments → o.word ≡ word_of d.command → Soon book o o.outcome → (o.word ≡ words.Rewrite → o.point ≡ None) → Caused book o o.outcome → IsOver book.moments d.command o → HasOpens ds book.ops → slice_get ds i ≡ Some d → slice_get book.ops i ≡ Some o
    → ((c : PathCommand) → d.command ≡ command.Named c → (o.end ≡ Some o.begin → ⊥) → IsGiven book c o) → ((f : ℕ) → d.command ≡ command.Open f → (status : ℕ) → o.outcome ≡ told.Refused status → IsOpenRefused book f o status) → ((f : ℕ) → d.command ≡ command.Rewrite f → (status : ℕ) → o.outcome ≡ told.Refused status → RewriteRefused book o status) → IsKnown book d o (local_before ds book.ops i d.client o.file)
known_by book ds i d o leased word soon bare_ cause over opens at is given refused renewed = record {
  refused = refused;
  renewed = renewed;
  named = λ c e own late. (
    by c (word ∙ ap word_of e) (given c e late) (subst (λ (k : Command). IsOver book.moments k o) e over) late,
    finds_so c o.outcome (local_before ds book.ops i d.client o.file) (subst (λ (k : Command). FindsBy k o.outcome (local_before ds book.ops i d.client o.file)) e (opens i d o at is)),
  );
  ends = λ c e late status at_end. ended c status (word ∙ ap word_of e) at_end (given c e late) (subst (λ (k : Command). IsOver book.moments k o) e over) late;
}
  where
    ended : (c : PathCommand) (status : ℕ) → o.word ≡ path_word c → o.outcome ≡ told.Refused status → IsGiven book c o → IsOver book.moments (command.Named c) o → (o.end ≡ Some o.begin → ⊥) → EndsNamed c (told.Refused status)
    ended c status w at_end g (word_is, inl running) late = absurd (refused_runs (sym at_end ∙ running))
      where
        refused_runs : told.Refused status ≡ told.Running → ⊥
        refused_runs e = absurd cc
    ended c status w at_end g (word_is, inr (inl first)) late = absurd (late first)
    ended c status w at_end g (word_is, inr (inr ends)) late = named_status book o c status w (subst (Caused book o) at_end cause) g (subst (EndsAs book.moments c o) at_end ends)

    by : (c : PathCommand) → o.word ≡ path_word c → IsGiven book c o → IsOver book.moments (command.Named c) o → (o.end ≡ Some o.begin → ⊥) → NamedCause book c o o.outcome
    by c w g (word_is, inl running) late = named_cause book o c leased soon w bare_ cause g (inl running)
    by c w g (word_is, inr (inl first)) late = absurd (late first)
    by c w g (word_is, inr (inr ends)) late = named_cause book o c leased soon w bare_ cause g (inr ends)
