-- What a client sends as a look-up of its walk is answered: nothing, the next call, or what an open or a rewrite of the id that was found sends first.
use Rattle.std.proofs.Common.{◌⊎◌, inl, inr, ◌≡◌, ℕ, List, [], ◌∷◌, Option, Some, None, Ok, Bool, true, false, refl, sym, ap, ◌∙◌, subst, arith}
use Rattle.nfs3_calls.specs.declared.message.Nfs.{Nfs}
use Rattle.nfs3_calls.specs.declared.message.Nfs.TheVariants as nfs
use Rattle.nfs3_calls.specs.declared.place.Found.{Found}
use Rattle.wire.specs.declared.message.Body.TheVariants as body
use Rattle.wire.specs.declared.message.Message.TheVariants as message
use Rattle.xdr_codec.specs.Handle.{file_of}
use Rattle.xdr_codec.specs.declared.attr.Attr.{Attr}
use Rattle.client_cache.specs.Cache.{content_of, reserved}
use Rattle.client_state.specs.State as client
use Rattle.client_state.specs.declared.task.Stage.TheVariants as stage
use Rattle.client_state.specs.declared.task.Way.TheVariants as way
use Rattle.file_open.specs.Caching.{fresh_content}
use Rattle.file_open.specs.Fetching.{finds_kept}
use Rattle.file_open.specs.Rewriting.{empties_kept}
use Rattle.client_state.specs.Noting.{at as at_clock}
use Rattle.path_calls.specs.declared.walk.Goal.{Goal}
use Rattle.path_calls.specs.declared.walk.Goal.TheVariants as goal
use Rattle.path_calls.specs.Told.{told_found, told_goal, goes_down, finds, finds_anew, sees}
use Rattle.open_close.specs.Walking.{finding, walked, finds_if, renews_if, told_walk, is_its}
use Rattle.trace_replay.specs.Saving.{found_told, first_call, is_anew, anew_at, anew_in, found_call, AsksFound}
use Rattle.kept_promise.proofs.Common.{Contains, Contains-push_cases, Done, Body, Message, Pending, Content, is_open, asks_kept, got_step, took, took_if, idle, Task, Stage, UploadCall, Way, store_at, told_stored, told_way, answered, reply_body, Core, Seat, Event.Hears, numbered, happens, CoreStep, client_of, owner_in, wanted_if, taken_by, Book, Queue, told_message}
use Rattle.kept_promise.proofs.Lists.{some_is}
use Rattle.kept_promise.proofs.Fits.{FitLaws}
use Rattle.kept_promise.proofs.Facts.{IsKept}
use Rattle.kept_promise.proofs.RunsCarried.{moment}
use Rattle.kept_promise.proofs.Actors.{Heard, heard_takes, heard_acts}

-- ---- a step of the client

-- what is sent, where this was found
abbrev AsksSo : (lbfs : ℕ) → client.State → (now : ℕ) → (anew : Bool) → Found → List Message → Type 0
AsksSo lbfs s now anew f up = (up ≡ []) ⊎ (((x : ℕ) × (call : Nfs) × (up ≡ message.Call x (body.Nfs call) ∷ [])) ⊎ ((x file : ℕ) × (file_of f.handle ≡ Some file) × (fresh_content s.cache file now ≡ None) × (up ≡ found_call anew lbfs x file (content_of s.cache file) ∷ [])))

walk_asks : (s : client.State) (calls : List Pending) (x : ℕ) (left : List (List ℕ)) (g : Goal) (l : Bool) (f : Found) → AsksSo s.lbfs s s.clock (is_anew g) f (walked s calls x l (told_found left g f)).1.send
walk_asks s calls x (n ∷ ns) g l f = by (file_of f.handle)
  where
    by : (o : Option ℕ) → AsksSo s.lbfs s s.clock (is_anew g) f (walked s calls x l (goes_down ns g o)).1.send
    by None = inl refl
    by (Some id) = inr (inl (s.next_xid, _, refl))
walk_asks s calls x [] g l f = by g
  where
    kept : (id : ℕ) (o : Option Content) → (y : ℕ) × ((asks_kept (record s { cache = reserved s.cache id }) id o).1.send ≡ first_call s.lbfs y id o ∷ [])
    kept id None = (s.next_xid, refl)
    kept id (Some c) = (s.next_xid, refl)

    fresh : (id : ℕ) → file_of f.handle ≡ Some id → (o : Option Content) → fresh_content s.cache id s.clock ≡ o → AsksSo s.lbfs s s.clock false f (finding id (finds_kept s calls x id o)).1.send
    fresh id is None old = (let h = kept id (content_of s.cache id) in inr (inr (h.0, id, is, old, h.1)))
    fresh id is (Some c) old = inl refl

    shut : (id : ℕ) → file_of f.handle ≡ Some id → (b : Bool) → AsksSo s.lbfs s s.clock false f (finds_if s calls x id b).1.send
    shut id is true = inl refl
    shut id is false = fresh id is (fresh_content s.cache id s.clock) refl

    found : (o : Option ℕ) → file_of f.handle ≡ o → AsksSo s.lbfs s s.clock false f (walked s calls x l (finds o)).1.send
    found None is = inl refl
    found (Some id) is = shut id is (is_open s.opened id)

    fresh_anew : (id : ℕ) → file_of f.handle ≡ Some id → (o : Option Content) → fresh_content s.cache id s.clock ≡ o → AsksSo s.lbfs s s.clock true f (finding id (empties_kept s calls x id o)).1.send
    fresh_anew id is None old = inr (inr (s.next_xid, id, is, old, refl))
    fresh_anew id is (Some c) old = inl refl

    shut_anew : (id : ℕ) → file_of f.handle ≡ Some id → (b : Bool) → AsksSo s.lbfs s s.clock true f (renews_if s calls x id b).1.send
    shut_anew id is true = inl refl
    shut_anew id is false = fresh_anew id is (fresh_content s.cache id s.clock) refl

    found_anew : (o : Option ℕ) → file_of f.handle ≡ o → AsksSo s.lbfs s s.clock true f (walked s calls x l (finds_anew o)).1.send
    found_anew None is = inl refl
    found_anew (Some id) is = shut_anew id is (is_open s.opened id)

    seen : (o : Option ℕ) (a : Option Attr) → AsksSo s.lbfs s s.clock false f (walked s calls x l (sees o a)).1.send
    seen (Some id) (Some a) = inl refl
    seen None a = inl refl
    seen (Some id) None = inl refl

    by : (g : Goal) → AsksSo s.lbfs s s.clock (is_anew g) f (walked s calls x l (told_goal g f)).1.send
    by (goal.Find name) = found (file_of f.handle) refl
    by (goal.Rewrite name) = found_anew (file_of f.handle) refl
    by (goal.Look name) = seen (file_of f.handle) f.attr
    by g = inl refl

takes_found : (s : client.State) (calls : List Pending) (file x : ℕ) (st : Stage) (f : Found) → AsksSo s.lbfs s s.clock (anew_at st) f (took s calls file st x (body.Nfs (nfs.LookupAnswer (Done f)))).1.send
takes_found s calls file x (stage.Walking asked w) f = by (is_its w (nfs.LookupAnswer (Done f)))
  where
    by : (b : Bool) → AsksSo s.lbfs s s.clock (is_anew w.goal) f (told_walk s calls x w (nfs.LookupAnswer (Done f)) b).1.send
    by true = walk_asks s calls x w.left w.goal _ f
    by false = inl refl
takes_found s calls file x (stage.Storing st) f = by (store_at st.under x)
  where
    by_way : (c : UploadCall) (w : Way) → (told_way s calls file x (client.local_bytes s.opened file) (answered st x) c w (body.Nfs (nfs.LookupAnswer (Done f)))).1.send ≡ []
    by_way c way.Named = refl
    by_way c way.Whole = refl

    by : (o : Option UploadCall) → AsksSo s.lbfs s s.clock false f (told_stored s calls file x (client.local_bytes s.opened file) st (body.Nfs (nfs.LookupAnswer (Done f))) o).1.send
    by None = inl refl
    by (Some c) = inl (by_way c c.way)
takes_found s calls file x st f = inl refl

-- ---- an answer is heard

pub found_asked : FitLaws → (book : Book) (k : Core) (qs : List Queue) (n now : ℕ) (bytes : List ℕ) (mid : List Queue) → IsKept book k qs → Heard k qs n now bytes mid → AsksFound (moment k (Hears n now bytes))
found_asked fits book k qs n now bytes mid kept h xid f seat here there = by (client.has_call (client.pending h.seat.client.task) h.told.xid) refl taken
  where
    speaks : seat.client.lbfs ≡ k.lbfs
    speaks = (kept.seats (client_of k (Hears n now bytes)) seat here).speaks ∙ kept.lbfs

    same_seat : h.seat ≡ seat
    same_seat = some_is h.seat seat (sym h.owner ∙ ap (numbered k.seats) (sym (ap owner_in h.at)) ∙ here)

    taken : Contains (wanted_if (client.has_call (client.pending h.seat.client.task) h.told.xid) (told_message h.told)) (found_told xid f)
    taken = subst (λ (ms : List Message). Contains ms (found_told xid f)) (ap (λ i. taken_by k i (Hears n now bytes)) (ap owner_in h.at) ∙ heard_takes fits book k qs n now bytes mid kept h) there

    sends : client.has_call (client.pending h.seat.client.task) h.told.xid ≡ true → told_message h.told ≡ found_told xid f → AsksSo h.seat.client.lbfs h.seat.client now (anew_in h.seat.client.task) f (happens k (Hears n now bytes)).up
    sends own same = subst (AsksSo h.seat.client.lbfs h.seat.client now (anew_in h.seat.client.task) f) (sym up) (by_task h.seat.client.task waits)
      where
        by_task : (o : Option Task) → client.has_call (client.pending o) xid ≡ true → AsksSo h.seat.client.lbfs h.seat.client now (anew_in o) f (took_if (at_clock h.seat.client now) o xid (body.Nfs (nfs.LookupAnswer (Done f))) (client.has_call (client.pending o) xid)).1.send
        by_task None own = absurd cc
        by_task (Some t) own = subst (λ (b : Bool). AsksSo h.seat.client.lbfs h.seat.client now (anew_at t.stage) f (took_if (at_clock h.seat.client now) (Some t) xid (body.Nfs (nfs.LookupAnswer (Done f))) b).1.send) (sym own) (takes_found (idle (at_clock h.seat.client now)) (client.calls_of h.seat.client) t.file xid t.stage f)

        xid_is : (a : ℕ) (b : Body) → message.Answer a b ≡ found_told xid f → a ≡ xid
        xid_is a b e = cc

        waits : client.has_call (client.pending h.seat.client.task) xid ≡ true
        waits = ap (client.has_call (client.pending h.seat.client.task)) (sym (xid_is h.told.xid (reply_body h.told.reply) same)) ∙ own

        up : (happens k (Hears n now bytes)).up ≡ (got_step h.seat.client (Ok (found_told xid f)) now).1.send
        up = ap (λ (t : CoreStep). t.up) (heard_acts fits book k qs n now bytes mid kept h) ∙ ap (λ (m : Message). (got_step h.seat.client (Ok m) now).1.send) same

    by : (b : Bool) → client.has_call (client.pending h.seat.client.task) h.told.xid ≡ b → Contains (wanted_if b (told_message h.told)) (found_told xid f) → AsksSo k.lbfs seat.client now (anew_in seat.client.task) f (happens k (Hears n now bytes)).up
    by false own c = (let lt = c.1 in absurd (omega (arith, lt)))
    by true own c = elim (Contains-push_cases [] (told_message h.told) (found_told xid f) c) [
      | inl none ↦ (let lt = none.1 in absurd (omega (arith, lt)))
      | inr same ↦ subst (λ (v : ℕ). AsksSo v seat.client now (anew_in seat.client.task) f (happens k (Hears n now bytes)).up) speaks (subst (λ (c : Seat). AsksSo c.client.lbfs c.client now (anew_in c.client.task) f (happens k (Hears n now bytes)).up) same_seat (sends own same))
    ]
