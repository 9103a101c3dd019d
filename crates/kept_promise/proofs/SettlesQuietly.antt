-- A pending change is settled: a content is replaced; or else operations are as they were, but for one whose file goes, and the journal tells of no content.
use Rattle.std.proofs.Common.{◌⊎◌, inl, inr, ◌≡◌, ℕ, zero, suc, ◌+◌, ◌<◌, List, [], ◌++◌, length, replicate, append-nil, Option, Some, None, Bool, true, false, refl, sym, ap, ◌∙◌, subst, arith}
use Rattle.xdr_codec.specs.declared.status.Status.{Status}
use Rattle.xdr_codec.specs.declared.status.Status.TheVariants as status
use Rattle.wire.specs.declared.message.Body.TheVariants as body
use Rattle.wire.specs.declared.message.Message.TheVariants as message
use Rattle.tree_reading.specs.Tree.{Tree}
use Rattle.tree_reading.specs.declared.entry.Entry.{Entry as TreeEntry}
use Rattle.tree_reading.specs.declared.entry.EntryKind.TheVariants as kind
use Rattle.tree_calls.specs.Changing.{said}
use Rattle.tree_calls.specs.Waiting.{file_of, settles as tree_settles}
use Rattle.tree_calls.specs.declared.asked.Asked.{Asked}
use Rattle.tree_calls.specs.declared.asked.Asked.TheVariants as asked
use Rattle.tree_calls.specs.declared.asked.Done.{Done as Finished}
use Rattle.server_core.specs.State as server
use Rattle.chunk_calls.specs.Files as the_files
use Rattle.server_core.specs.Closing.{ready_by, entries_by, entered_by, entry_by}
use Rattle.server_core.specs.declared.change.Wanted.TheVariants as wanted
use Rattle.trace_replay.specs.Faithful.{change_refusal}
use Rattle.trace_ends.specs.Core.{changed_file, is_of_file}
use Rattle.trace_ends.specs.Ops.{pointed, pointed_at}
use Rattle.kept_promise.proofs.Common.{slice_get, slice_set, cond, option_map, find, Contains, Contains-push, Message, name_answer, told_message, FileChange, Wanted, File, Entry, Op, Core, Session, CoreStep, numbered, settles, settled_ops, Book, Queue, is_raw}
use Rattle.kept_promise.proofs.Lists.{some_is, nothing_there}
use Rattle.kept_promise.proofs.Rights.{WasThere, IsUnmade, gets_file}
use Rattle.kept_promise.proofs.Turns.{also_numbered, unnoted, raw_or_owned}
use Rattle.kept_promise.proofs.Messages.{job, WaitsFor, IsGoing, asked_word, walk_for, AsksFor, content_wanted}
use Rattle.kept_promise.proofs.Facts.{IsSession, IsKept, IsWanted}
use Rattle.kept_promise.proofs.GoingCalls.{IsName}
use Rattle.kept_promise.proofs.Departures.{SettlesSo, refused_late, goes, settles_so, asks_itself}
use Rattle.kept_promise.proofs.TakenOut.{SettlesOut, WhatSettles, settles_one, settles_none, what_settles}
use Rattle.kept_promise.proofs.GoingEnds.{asked_step, asked_settles}
use Rattle.kept_promise.proofs.Gone.{no_directory}
use Rattle.kept_promise.proofs.Unmade.{node_gone, unmade_step, unmade_told, unmade_settles}
use Rattle.kept_promise.proofs.ServesFiles.{count_is, pointed_none}
use Rattle.kept_promise.proofs.ServesQuietly.{Entered}

-- the file of an operation went in this step, which is its point
pub record GoesHere (k : Core) (after : List Op) : Type 0 where
  pub place : ℕ
  pub op : Op
  pub there : slice_get k.ops place ≡ Some op
  pub unmade : IsUnmade op
  pub gets : gets_file op.word ≡ true
  pub file_is : op.file ≡ 0
  pub new : ℕ
  pub after_is : after ≡ slice_set k.ops place (record op { file = new; point = Some (k.steps + 1) })

-- the session of a change is told why it was not made
abbrev pub RefusesFor : CoreStep → FileChange → Type 0
RefusesFor t c = (answer : Message) × (s : Status) × Contains t.down (record { session = c.session; message = answer }) × (change_refusal answer ≡ Some s)

-- the change that was ready was made, or was refused
abbrev pub TellsReady : (k : Core) (now : ℕ) (t : CoreStep) → List Entry → Type 0
TellsReady k now t es = (c : FileChange) → ready_by k.server now ≡ Some c → (0 < length es) ⊎ RefusesFor t c

-- the file that went is the one that the ready REMOVE or RENAME was of
pub record IsRemove (k : Core) (now : ℕ) (e : Entry) : Type 0 where
  pub change : FileChange
  pub ready : ready_by k.server now ≡ Some change
  pub call : Asked
  pub what_is : change.what ≡ wanted.Asked call
  pub file_is : e.file ≡ change.file
  pub session_is : e.session ≡ change.session

abbrev pub RemovesReady : (k : Core) (now : ℕ) → List Entry → Type 0
RemovesReady k now es = (i : ℕ) (e : Entry) → slice_get es i ≡ Some e → e.kind ≡ kind.Remove → IsRemove k now e

pub data Settling (k : Core) (now : ℕ) (t : CoreStep) : Type 0 where
  makes_commit : (c : FileChange) (cs : List FileChange) (f : File) → SettlesOut k now c cs → c.what ≡ wanted.Content (content_wanted c.what) → the_files.file_at k.server.tree c.file ≡ Some f → Settling k now t
  makes_else : (t.core.ops ≡ k.ops) ⊎ GoesHere k t.core.ops → (q : Entered k t) → TellsReady k now t q.es → RemovesReady k now q.es → Settling k now t

-- ---- the entries of what goes

no_commit : (n : ℕ) (first second : Option TreeEntry) (e : TreeEntry) → first ≡ Some e → e.kind ≡ kind.Remove → IsName second → (i : ℕ) (d : Entry) → slice_get (entries_by n first second) i ≡ Some d → d.kind ≡ kind.Commit → ⊥
no_commit n first second e is removes names i d at commit = by i second names (ap (λ (o : Option TreeEntry). slice_get (entries_by n o second) i) (sym is) ∙ at)
  where
    remove_commit : kind.Remove ≡ kind.Commit → ⊥
    remove_commit z = absurd cc

    name_commit : kind.Name ≡ kind.Commit → ⊥
    name_commit z = absurd cc

    by : (i : ℕ) (second : Option TreeEntry) → IsName second → slice_get (entries_by n (Some e) second) i ≡ Some d → ⊥
    by zero second names at = remove_commit (sym removes ∙ ap (λ (z : Entry). z.kind) (some_is (entry_by n e) d at) ∙ commit)
    by (suc i) None names at = nothing_there d at
    by (suc zero) (Some y) names at = name_commit (sym (names y refl) ∙ ap (λ (z : Entry). z.kind) (some_is (entry_by n y) d at) ∙ commit)
    by (suc (suc i)) (Some y) names at = nothing_there d at

removed_is : (n : ℕ) (first second : Option TreeEntry) (e : TreeEntry) → first ≡ Some e → IsName second → (i : ℕ) (d : Entry) → slice_get (entries_by n first second) i ≡ Some d → d.kind ≡ kind.Remove → (d.file ≡ e.file) × (d.session ≡ n)
removed_is n first second e is names i d at removes = by i second names (ap (λ (o : Option TreeEntry). slice_get (entries_by n o second) i) (sym is) ∙ at)
  where
    name_remove : {A : Type 0} → kind.Name ≡ kind.Remove → A
    name_remove z = absurd cc

    by : (i : ℕ) (second : Option TreeEntry) → IsName second → slice_get (entries_by n (Some e) second) i ≡ Some d → (d.file ≡ e.file) × (d.session ≡ n)
    by zero second names at = let same = sym (some_is (entry_by n e) d at) in (ap (λ (z : Entry). z.file) same, ap (λ (z : Entry). z.session) same)
    by (suc i) None names at = nothing_there d at
    by (suc zero) (Some y) names at = name_remove (sym (names y refl) ∙ ap (λ (z : Entry). z.kind) (some_is (entry_by n y) d at) ∙ removes)
    by (suc (suc i)) (Some y) names at = nothing_there d at

changed_is : (n : ℕ) (first second : Option TreeEntry) (e : TreeEntry) (file : ℕ) → first ≡ Some e → e.kind ≡ kind.Remove → e.file ≡ file → changed_file (entries_by n first second) ≡ Some file
changed_is n first second e file is removes same =
    ap (λ (o : Option TreeEntry). changed_file (entries_by n o second)) is
    ∙ ap (λ (b : Bool). option_map (λ (d : Entry). d.file) (cond b (Some (entry_by n e)) (find (λ (d : Entry). is_of_file d.kind) (entered_by n second)))) (ap is_of_file removes)
    ∙ ap (λ (f : ℕ). Some f) same

some_entered : (n : ℕ) (first second : Option TreeEntry) (e : TreeEntry) → first ≡ Some e → 0 < length (entries_by n first second)
some_entered n first second e is = subst (λ (o : Option TreeEntry). 0 < length (entries_by n o second)) (sym is) (by second)
  where
    by : (second : Option TreeEntry) → 0 < length (entries_by n (Some e) second)
    by None = omega arith
    by (Some y) = omega arith

tells_ready : (k : Core) (now : ℕ) (c : FileChange) (t : CoreStep) (es : List Entry) → ready_by k.server now ≡ Some c → (0 < length es) ⊎ RefusesFor t c → TellsReady k now t es
tells_ready k now c t es ready h d at = subst (λ (z : FileChange). (0 < length es) ⊎ RefusesFor t z) (some_is c d (sym ready ∙ at)) h

gets_asked : (a : Asked) → gets_file (asked_word a) ≡ true
gets_asked (asked.Remove r) = refl
gets_asked (asked.Rename r) = refl

-- ---- the step

-- what is noted of changes by others is nothing of it
settling_noted : (k : Core) (now : ℕ) (t : CoreStep) → Settling k now (unnoted k t) → Settling k now t
settling_noted k now t (makes_commit c cs f out what there) = makes_commit c cs f out what there
settling_noted k now t (makes_else ops q tells removes) = makes_else ops (record { es = q.es; entries = q.entries; journal = q.journal; plain = q.plain }) tells removes

pub settling : (book : Book) (k : Core) (qs : List Queue) (now : ℕ) → IsKept book k qs → Settling k now (settles k now)
settling book k qs now kept = by (what_settles book k qs now kept)
  where
    asked_so : (c : FileChange) (cs : List FileChange) (a : Asked) (x : Session) → SettlesOut k now c cs → c.what ≡ wanted.Asked a → c.file ≡ file_of a → numbered k.sessions c.session ≡ Some x → ((f : Option ℕ) → f ≡ Some (file_of a) → (let o = settled_ops k.ops (k.steps + 1) f (numbered k.sessions c.session) in (o ≡ k.ops) ⊎ GoesHere k o)) → SettlesSo k.server.tree (server.held cs) (walk_for a) a
        → Settling k now (asked_step k now c cs (tree_settles k.server.tree (server.held cs) a))
    asked_so c cs a x out what file here points (refused_late s r is why refuses leads procs) = subst (λ (z : Tree × Finished). Settling k now (asked_step k now c cs z)) (sym is) (makes_else
        (inl (ap (settled_ops k.ops (k.steps + 1) None) here ∙ pointed_none k.ops x.closing (k.steps + 1)))
        (record { es = []; entries = refl; journal = refl; plain = λ i e at. nothing_there e at })
        (tells_ready k now c (asked_step k now c cs (k.server.tree, said (name_answer r))) [] out.ready (inr (message.Answer c.xid (body.Nfs (name_answer r)), s, Contains-push [] (record { session = c.session; message = message.Answer c.xid (body.Nfs (name_answer r)) }), refuses)))
        (λ i e at. nothing_there e at))
    asked_so c cs a x out what file here points (goes done r after is step gone names leads procs files none off root next) = subst (λ (z : Tree × Finished). Settling k now (asked_step k now c cs z)) (sym is) (makes_else
        (points (changed_file (entries_by c.session done.first done.second)) (changed_is c.session done.first done.second gone.entry (file_of a) gone.is gone.kind_is gone.file_is))
        (record {
          es = entries_by c.session done.first done.second;
          entries = ap (λ (m : ℕ). k.entries ++ replicate m (k.steps + 1)) (count_is c.session done.first done.second);
          journal = refl;
          plain = no_commit c.session done.first done.second gone.entry gone.is gone.kind_is names;
        })
        (tells_ready k now c (asked_step k now c cs (after, record { answer = name_answer r; first = done.first; second = done.second })) (entries_by c.session done.first done.second) out.ready (inl (some_entered c.session done.first done.second gone.entry gone.is)))
        (λ i d at goes_. (let h = removed_is c.session done.first done.second gone.entry gone.is names i d at goes_ in record { change = c; ready = out.ready; call = a; what_is = what; file_is = h.0 ∙ gone.file_is ∙ sym file; session_is = h.1 })))

    by : WhatSettles k now → Settling k now (settles k now)
    by (settles_none none is) = subst (Settling k now) (sym is) (makes_else (inl refl) (record { es = []; entries = sym (append-nil k.entries); journal = sym (append-nil k.server.journal); plain = λ i d at. nothing_there d at }) (λ c at. nothing_there c (sym none ∙ at)) (λ i e at. nothing_there e at))
    by (settles_one c cs out) = is_wanted c.what refl
      where
        at_place : slice_get k.server.waiting out.out.place ≡ Some c
        at_place = out.out.there

        home : (x : Session) × (numbered k.sessions c.session ≡ Some x) × (x.hung ≡ false)
        home = kept.home out.out.place c at_place

        q : (q : Queue) × (numbered qs c.session ≡ Some q)
        q = also_numbered k.sessions qs c.session home.0 kept.made.1 home.1

        h : is_raw home.0 ≡ false → IsSession book k.seats k.server c.session home.0 q.0
        h owned = kept.sessions c.session home.0 q.0 home.1 q.1 owned

        pending : (owned : is_raw home.0 ≡ false) → WaitsFor book c.session home.0.closing home.0.cut (job (h owned).seat) c.xid c.file c.what
        pending owned = (h owned).pending 0 c (ap (λ (l : List FileChange). slice_get l 0) out.out.mine)

        commit : (content : List ℕ) → c.what ≡ wanted.Content content → (o : Option File) → the_files.file_at k.server.tree c.file ≡ o → Settling k now (settles k now)
        commit content what (Some f) there = makes_commit c cs f out (what ∙ ap (λ (x : List ℕ). wanted.Content x) (sym (ap content_wanted what))) there
        commit content what None none =
            let is = unmade_settles k now c cs content out what (node_gone book k.server c.file kept.server (kept.server.targets out.out.place c at_place) none) in
            settling_noted k now (settles k now) (subst (Settling k now) (sym is) (makes_else (inl refl) (record { es = []; entries = sym (append-nil k.entries); journal = sym (append-nil k.server.journal); plain = λ i d at. nothing_there d at }) (tells_ready k now c (unmade_step k now c cs) [] out.ready (inr (told_message (unmade_told c), status.Stale, Contains-push [] (record { session = c.session; message = told_message (unmade_told c) }), refl))) (λ i e at. nothing_there e at)))

        -- the operation of a client's session gets the file, and none of another session's does
        points : (a : Asked) → c.what ≡ wanted.Asked a → (f : Option ℕ) → f ≡ Some (file_of a) → (is_raw home.0 ≡ true) ⊎ (is_raw home.0 ≡ false) → (let o = settled_ops k.ops (k.steps + 1) f (numbered k.sessions c.session) in (o ≡ k.ops) ⊎ GoesHere k o)
        points a what f is (inl raw) =
            inl (ap (settled_ops k.ops (k.steps + 1) f) home.1 ∙ ap (λ (l : Option ℕ). pointed_at k.ops l (k.steps + 1) f) (kept.strangers c.session home.0 q.0 home.1 q.1 raw).closing ∙ none_pointed f)
          where
            none_pointed : (f : Option ℕ) → pointed_at k.ops None (k.steps + 1) f ≡ k.ops
            none_pointed None = refl
            none_pointed (Some g) = refl
        points a what f is (inr owned) =
            let p : IsGoing book c.session home.0.closing home.0.cut (job (h owned).seat) c.xid a = subst (λ (w : Wanted). WaitsFor book c.session home.0.closing home.0.cut (job (h owned).seat) c.xid c.file w) what (pending owned) in
            let there : slice_get k.ops p.place ≡ Some p.op = ap (λ (l : List Op). slice_get l p.place) (sym kept.ops) ∙ p.there in
            inr (record {
              place = p.place;
              op = p.op;
              there = there;
              unmade = p.unmade;
              gets = ap gets_file p.word_is ∙ gets_asked a;
              file_is = p.file_is;
              new = file_of a;
              after_is = ap (λ (o : Option ℕ). settled_ops k.ops (k.steps + 1) o (numbered k.sessions c.session)) is
                  ∙ ap (settled_ops k.ops (k.steps + 1) (Some (file_of a))) home.1
                  ∙ ap (λ (l : Option ℕ). pointed_at k.ops l (k.steps + 1) (Some (file_of a))) p.known
                  ∙ ap (pointed k.ops p.place (file_of a) (k.steps + 1)) there;
            })

        is_wanted : (w : Wanted) → c.what ≡ w → Settling k now (settles k now)
        is_wanted (wanted.Content content) what = commit content what (the_files.file_at k.server.tree c.file) refl
        is_wanted (wanted.Asked a) what =
            let wants = subst (IsWanted c.file) what (kept.server.wants out.out.place c at_place) in
            settling_noted k now (settles k now) (subst (Settling k now) (sym (asked_settles k now c cs a out what)) (asked_so c cs a home.0 out what wants.0 home.1
            (λ f is. points a what f is (raw_or_owned home.0))
            (settles_so k.server.tree (server.held cs) (walk_for a) a kept.server.bounded wants.2 (asks_itself a) wants.1 (λ n d. no_directory book k.server (file_of a) n kept.server (subst (λ (f : ℕ). WasThere book f) wants.0 (kept.server.targets out.out.place c at_place)) d))))
