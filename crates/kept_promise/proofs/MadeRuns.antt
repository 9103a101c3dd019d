-- A run carries that each change of the journal was made at a moment at which the server was told to make one, that it was the one that was ready then,
-- and whose close it is; and that a settling makes the one that is ready, or nothing.
use Rattle.std.proofs.Common.{inl, inr, ◌≡◌, ℕ, zero, suc, ◌+◌, ◌<◌, List, [], ◌∷◌, ◌++◌, length, Option, Some, None, Bool, true, false, refl, sym, ap, ◌∙◌, subst, arith, replicate, ◌⊎◌}
use Rattle.std.specs.Prelude.{remove, max, ◌≤◌}
use Rattle.lease_rules.specs.Changes.{asker, meets}
use Rattle.lease_rules.specs.Leases.{is_others}
use Rattle.lease_rules.specs.declared.lease.Lease.{Lease}
use Rattle.server_core.specs.Closing.{at as at_reading, ready_by}
use Rattle.server_core.specs.State as server
use Rattle.chunk_calls.specs.Files as the_files
use Rattle.server_core.specs.Step.{hangs_if as server_hangs_if}
use Rattle.client_state.specs.State as client
use Rattle.register_model.specs.declared.op.Word.TheVariants as words
use Rattle.server_core.specs.declared.change.Wanted.{Wanted}
use Rattle.server_core.specs.declared.change.Wanted.TheVariants as wanted
use Rattle.server_rules.specs.declared.told.Told.TheVariants as announced
use Rattle.tree_reading.specs.declared.entry.EntryKind.TheVariants as kind
use Rattle.trace_ends.specs.Core.{raw_in, raws_by, raws_on, raws_with}
use Rattle.trace_replay.specs.Faithful.{IsSettled, IsRawSettled, IsRemoved, SettlesReady, IsSettling, IsMadeOrRefused}
use Rattle.kept_promise.proofs.Common.{Contains-push_cases, slice_get, slice_set, Contains, stands, FileChange, ServerStep, File, Entry, ClientStep, Ended, Op, Opening, TakenCall, has_point, op_after, Core, Session, Event, Event.Serves, Event.Settles, CoreStep, joins, does, cuts, hangs, ops_with, settles, happens, Moment, step_of, Book, Queue, is_raw, numbered, Tree}
use Rattle.kept_promise.proofs.Lists.{some_is, nothing_there, at_end, at_replaced, kept_appended, of_appended, same_or_not, set_else, within, of_more, of_replicate, in_front}
use Rattle.kept_promise.proofs.Turns.{also_numbered, raw_or_owned, unnoted}
use Rattle.kept_promise.proofs.RawSettles.{came, line_of, raws_content}
use Rattle.kept_promise.proofs.Facts.{IsKept}
use Rattle.kept_promise.proofs.RunsCarried.{book_at, moment, Step, Carried}
use Rattle.kept_promise.proofs.Fits.{FitLaws}
use Rattle.kept_promise.proofs.ServesFiles.{newest_one}
use Rattle.kept_promise.proofs.Rights.{IsRight}
use Rattle.kept_promise.proofs.VersionRuns.{close_not_opened}
use Rattle.kept_promise.proofs.LogEvents.{value_stays}
use Rattle.kept_promise.proofs.Growth.{or_map}
use Rattle.kept_promise.proofs.Messages.{content_wanted, WaitsFor, job}
use Rattle.kept_promise.proofs.TakenOut.{SettlesOut, settled_to, made_waiting, WhatSettles, settles_one, settles_none, what_settles, raw_ops}
use Rattle.kept_promise.proofs.ReadyFree.{ready_free, ready_first}
use Rattle.kept_promise.proofs.Promised.{two_own, one_waits}
use Rattle.kept_promise.proofs.Making.{entry_of, made_change, made_is}
use Rattle.kept_promise.proofs.ServesQuietly.{MadeHere, Entered, IsQuiet, serves_quiet}
use Rattle.kept_promise.proofs.SettlesQuietly.{GoesHere, RefusesFor, Settling, makes_commit, makes_else, settling}
use Rattle.kept_promise.proofs.Happens.{what_happens}
use Rattle.register_model.specs.declared.raw.Raw.{Raw}
use Rattle.server_rules.specs.declared.told.Told.{Told}

-- ---- what becomes of operations that have a point

-- a close with a point keeps it, and its value
abbrev pub KeepsPoints : (before after : List Op) → Type 0
KeepsPoints before after = (j p : ℕ) (o : Op) → slice_get before j ≡ Some o → o.word ≡ words.Close → o.point ≡ Some p → (r : Op) × (slice_get after j ≡ Some r) × (r.client ≡ o.client) × (r.word ≡ words.Close) × (r.point ≡ Some p) × (r.value ≡ o.value)

same_points : (ops : List Op) → KeepsPoints ops ops
same_points ops j p o at word point = (o, at, refl, word, point, refl)

more_points : (ops : List Op) (new : Op) → KeepsPoints ops (ops ++ new ∷ [])
more_points ops new j p o at word point = (o, kept_appended ops new j o at, refl, word, point, refl)

else_at : (ops : List Op) (k m : ℕ) (x : Op) → (m ≡ k → ⊥) → slice_get (slice_set ops k x) m ≡ slice_get ops m
else_at ops k m x apart = set_else ops k m x apart

-- no close gets a content, so that its value stays
acted_points : (more : Book) (ops : List Op) (place : Option ℕ) (c : client.State) (taken : List TakenCall) (step : ℕ) (acts : ClientStep) → ((j : ℕ) (r : Op) → slice_get (ops_with ops place c taken step acts) j ≡ Some r → IsRight more r) → KeepsPoints ops (ops_with ops place c taken step acts)
acted_points more ops None c taken step acts rights = same_points ops
acted_points more ops (Some l) c taken step acts rights = by (slice_get ops l) refl rights
  where
    closed : (o : Op) (p : ℕ) → o.word ≡ words.Close → o.point ≡ Some p → (e : Option Ended) → (let r = op_after o c taken step (record acts { ended = e }) in (r.client ≡ o.client) × (r.word ≡ words.Close) × (r.point ≡ Some p))
    closed o p word point None = (refl, word, point)
    closed o p word point (Some e) = (refl, word, ap (λ w. Rattle.trace_ends.specs.Ops.point_if (has_point w e.outcome) taken e.rests_on step o.point) word ∙ point)

    by : (q : Option Op) → slice_get ops l ≡ q → ((j : ℕ) (r : Op) → slice_get (Rattle.trace_ends.specs.Ops.ops_after ops l q c taken step acts) j ≡ Some r → IsRight more r) → KeepsPoints ops (Rattle.trace_ends.specs.Ops.ops_after ops l q c taken step acts)
    by None e rights = same_points ops
    by (Some q) e rights = λ j p o at word point. elim (same_or_not j l) [
      | inr apart ↦ (o, else_at ops l j (op_after q c taken step acts) apart ∙ at, refl, word, point, refl)
      | inl same ↦
          let mine : q ≡ o = some_is q o (sym e ∙ ap (slice_get ops) (sym same) ∙ at) in
          let there : slice_get (slice_set ops l (op_after q c taken step acts)) j ≡ Some (op_after o c taken step acts) = ap (slice_get (slice_set ops l (op_after q c taken step acts))) same ∙ at_replaced ops l (op_after q c taken step acts) q e ∙ ap (λ (z : Op). Some (op_after z c taken step acts)) mine in
          let w = closed o p word point acts.ended in
          let value = value_stays o c taken step acts (λ len digest z. close_not_opened more (op_after o c taken step acts) len digest (rights j (op_after o c taken step acts) there) w.1 z) in
          (op_after o c taken step acts, there, w.0, w.1, w.2, value)
    ]

-- ---- an event of which no change comes

abbrev Quietly : Core → CoreStep → Type 0
Quietly k t = (t.core.entries ≡ k.entries) × (t.core.server.journal ≡ k.server.journal) × KeepsPoints k.ops t.core.ops

-- operations are right by the book of what a step leaves
left_rights : (all : List Moment) (opening : List Opening) (k : Core) (qs : List Queue) → IsKept (book_at opening k all) k qs → (j : ℕ) (r : Op) → slice_get k.ops j ≡ Some r → IsRight (book_at opening k all) r
left_rights all opening k qs kept j r at = kept.sound.rights j r at

quiet_event : (all past rest : List Moment) (opening : List Opening) (k : Core) (qs : List Queue) (e : Event) (mid after : List Queue) → Step all past rest opening k qs e mid after → ((now : ℕ) → e ≡ Settles now → ⊥) → ((n now : ℕ) (b : List ℕ) → e ≡ Serves n now b → ⊥) → Quietly k (happens k e)
quiet_event all past rest opening k qs e mid after s none served = what_happens k e Now (record {
  nothing = λ rights. same;
  idle = λ rights. same;
  joins = λ c seat is. λ rights. same;
  refuses = λ c seat is. λ rights. same;
  does = λ c now d seat is. λ rights. (refl, refl, more_points k.ops _);
  takes = λ n now bytes x m is at unhung read. absurd (served n now bytes is);
  hears = λ n now bytes owner seat is. λ rights. (refl, refl, acted_points left k.ops seat.place _ _ (k.steps + 1) _ rights);
  settles = λ now is. absurd (none now is);
  cuts = λ c seat is. λ rights. (refl, refl, acted_points left k.ops seat.place _ _ (k.steps + 1) _ rights);
  hangs = λ n x is at unhung. λ rights. (refl, gone n (stands k.server n), same_points k.ops);
  closes = λ n now bytes x is at unhung. absurd (served n now bytes is);
  raw_joins = λ is. λ rights. same;
  raw_refuses = λ is. λ rights. same;
}) (left_rights all opening (happens k e).core after s.left)
  where
    left : Book
    left = book_at opening (happens k e).core all

    Now : CoreStep → Type 0
    Now t = ((j : ℕ) (r : Op) → slice_get t.core.ops j ≡ Some r → IsRight (book_at opening (happens k e).core all) r) → Quietly k t

    same : (k.entries ≡ k.entries) × (k.server.journal ≡ k.server.journal) × KeepsPoints k.ops k.ops
    same = (refl, refl, same_points k.ops)

    gone : (n : ℕ) (b : Bool) → (server_hangs_if k.server b n).0.journal ≡ k.server.journal
    gone n true = refl
    gone n false = refl

-- ---- what is carried

-- where a change is ready, a settling makes it, in its own step, or tells its session why not
abbrev pub MakesReady : Book → Type 0
MakesReady book = (m : Moment) (now : ℕ) (c : FileChange) → Contains book.moments m → m.event ≡ Settles now → ready_by m.before.server now ≡ Some c → IsMadeOrRefused book m c

first_later : (book more : Book) (m : Moment) (c : FileChange) → ((i p : ℕ) → slice_get book.entries i ≡ Some p → slice_get more.entries i ≡ Some p) → IsMadeOrRefused book m c → IsMadeOrRefused more m c
first_later book more m c later (inl made) = inl (later (length m.before.server.journal) (step_of m) made)
first_later book more m c later (inr refused) = inr refused

-- a content that was replaced is a close's, or a session's that is no client's
abbrev pub IsMade : Book → (number step : ℕ) → Type 0
IsMade book i p = IsSettled book i p ⊎ IsRawSettled book i p

pub record AreMade (opening : List Opening) (all past : List Moment) (k : Core) : Type 0 where
  pub settled : (i p : ℕ) (e : Entry) → slice_get k.entries i ≡ Some p → slice_get k.server.journal i ≡ Some e → e.kind ≡ kind.Commit → IsMade (book_at opening k all) i p
  pub removed : (i p : ℕ) (e : Entry) → slice_get k.entries i ≡ Some p → slice_get k.server.journal i ≡ Some e → e.kind ≡ kind.Remove → IsRemoved all p e
  pub makes : MakesReady (book_at opening k past)

-- what is noted of changes by other sessions than clients' stays
abbrev pub RawsStay : (before after : List Raw) → Type 0
RawsStay before after = (j : ℕ) (r : Raw) → slice_get before j ≡ Some r → slice_get after j ≡ Some r

raws_stay : (k : Core) (e : Event) → RawsStay k.raws (happens k e).core.raws
raws_stay k e = what_happens k e (λ t. RawsStay k.raws t.core.raws) (record {
  nothing = same;
  idle = same;
  joins = λ c seat is. same;
  refuses = λ c seat is. same;
  does = λ c now d seat is. same;
  takes = λ n now bytes x m is at unhung read. with_more (is_raw x) (k.steps + 1) _ _;
  closes = λ n now bytes x is at unhung. same;
  hears = λ n now bytes owner seat is. same;
  settles = λ now is. told_more _ _ _;
  cuts = λ c seat is. same;
  hangs = λ n x is at unhung. same;
  raw_joins = λ is. same;
  raw_refuses = λ is. same;
})
  where
    same : RawsStay k.raws k.raws
    same j r at = at

    with_more : (raw : Bool) (begin : ℕ) (t : Tree) (e : Option Entry) → RawsStay k.raws (raws_with k.raws raw begin (k.steps + 1) t e)
    with_more true begin t e j r at = in_front k.raws (raw_in begin (k.steps + 1) t e) j r at
    with_more false begin t e j r at = at

    on_more : (came : Option ℕ) (t : Tree) (e : Option Entry) (x : Option Session) → RawsStay k.raws (raws_on k.raws came (k.steps + 1) t e x)
    on_more (Some b) t e (Some x) = with_more (is_raw x) b t e
    on_more (Some b) t e None = same
    on_more None t e x = same

    told_more : (t : Tree) (e : Option Entry) (told : Told) → RawsStay k.raws (raws_by k t e told)
    told_more t e (announced.Settled session xid) = on_more (numbered k.came session) t e (numbered k.sessions session)
    told_more t e _ = same

-- it stays once a journal has grown
settled_later : (opening : List Opening) (all : List Moment) (k l : Core) (i p : ℕ) → ((e : Entry) → slice_get k.server.journal i ≡ Some e → slice_get l.server.journal i ≡ Some e) → KeepsPoints k.ops l.ops → RawsStay k.raws l.raws → IsMade (book_at opening k all) i p → IsMade (book_at opening l all) i p
settled_later opening all k l i p journal points raws (inr s) = inr (record {
  moment = s.moment;
  there = s.there;
  now = s.now;
  event_is = s.event_is;
  step_is = s.step_is;
  number_is = s.number_is;
  change = s.change;
  ready = s.ready;
  session = s.session;
  on = s.on;
  raw = s.raw;
  came = s.came;
  came_is = s.came_is;
  entry = s.entry;
  entry_is = journal s.entry s.entry_is;
  content = s.content;
  what_is = s.what_is;
  place = s.place;
  line = s.line;
  line_is = raws s.place s.line s.line_is;
  told = s.told;
  entry_told = s.entry_told;
})
settled_later opening all k l i p journal points raws (inl s) =
    let r = points s.place p s.op s.op_is s.word_is s.point_is in
    inl (record {
      moment = s.moment;
      there = s.there;
      now = s.now;
      event_is = s.event_is;
      step_is = s.step_is;
      number_is = s.number_is;
      change = s.change;
      ready = s.ready;
      entry = s.entry;
      entry_is = journal s.entry s.entry_is;
      kind_is = s.kind_is;
      file_is = s.file_is;
      session_is = s.session_is;
      session = s.session;
      on = s.on;
      place = s.place;
      op = r.0;
      op_is = r.1;
      word_is = r.3;
      point_is = r.4;
      content = s.content;
      what_is = s.what_is;
      size_is = ap length r.5 ∙ s.size_is;
      value_is = or_map (book_at opening l all) _ _ (λ e. r.5 ∙ e) s.value_is;
      owner = s.owner ∙ sym r.2;
      closing = s.closing;
    })

made_quietly : (opening : List Opening) (all past : List Moment) (k : Core) (e : Event) → ((now : ℕ) → e ≡ Settles now → ⊥) → Quietly k (happens k e) → AreMade opening all past k → AreMade opening all (past ++ moment k e ∷ []) (happens k e).core
made_quietly opening all past k e none q h = record {
  settled = λ i p d at is commit. settled_later opening all k (happens k e).core i p (λ x was. ap (λ (l : List Entry). slice_get l i) q.1 ∙ was) q.2 (raws_stay k e) (h.settled i p d (ap (λ (l : List ℕ). slice_get l i) (sym q.0) ∙ at) (ap (λ (l : List Entry). slice_get l i) (sym q.1) ∙ is) commit);
  removed = λ i p d at is goes. h.removed i p d (ap (λ (l : List ℕ). slice_get l i) (sym q.0) ∙ at) (ap (λ (l : List Entry). slice_get l i) (sym q.1) ∙ is) goes;
  makes = λ m now c there is at. elim (Contains-push_cases past (moment k e) m there) [
    | inl old ↦ first_later (book_at opening k past) (book_at opening (happens k e).core (past ++ moment k e ∷ [])) m c (λ i p had. ap (λ (l : List ℕ). slice_get l i) q.0 ∙ had) (h.makes m now c old is at)
    | inr new ↦ absurd (none now (ap (λ (z : Moment). z.event) new ∙ is))
  ];
}

-- ---- what is entered changes no content

at_more : (xs : List ℕ) (n y : ℕ) → 0 < n → slice_get (xs ++ replicate n y) (length xs) ≡ Some y
at_more [] zero y lt = absurd (omega (arith, lt))
at_more [] (suc n) y lt = refl
at_more (x ∷ xs) n y lt = at_more xs n y lt

made_entered : (opening : List Opening) (all past : List Moment) (k : Core) (e : Event) → length k.entries ≡ length k.server.journal → (q : Entered k (happens k e)) → KeepsPoints k.ops (happens k e).core.ops → ((now : ℕ) (c : FileChange) → e ≡ Settles now → ready_by k.server now ≡ Some c → (0 < length q.es) ⊎ RefusesFor (happens k e) c)
    → ((i : ℕ) (d : Entry) → slice_get q.es i ≡ Some d → d.kind ≡ kind.Remove → IsRemoved all (k.steps + 1) d)
    → AreMade opening all past k → AreMade opening all (past ++ moment k e ∷ []) (happens k e).core
made_entered opening all past k e count q points tells goes_now h = record {
  settled = λ i p d at is commit. elim (of_more k.entries steps i p (ap (λ (l : List ℕ). slice_get l i) (sym q.entries) ∙ at)) [
    | inl old ↦ elim (of_more k.server.journal q.es i d (ap (λ (l : List Entry). slice_get l i) (sym q.journal) ∙ is)) [
      | inl was ↦ settled_later opening all k later i p (λ x had. ap (λ (l : List Entry). slice_get l i) q.journal ∙ in_front k.server.journal q.es i x had) points (raws_stay k e) (h.settled i p d old was commit)
      | inr new ↦ let x = new.1 in let y = within k.entries i p old in absurd (omega (arith, x, y, count))
    ]
    | inr late ↦ elim (of_more k.server.journal q.es i d (ap (λ (l : List Entry). slice_get l i) (sym q.journal) ∙ is)) [
      | inl was ↦ let x = late.1 in let y = within k.server.journal i d was in absurd (omega (arith, x, y, count))
      | inr new ↦ absurd (q.plain new.0 d new.2 commit)
    ]
  ];
  removed = λ i p d at is goes. elim (of_more k.entries steps i p (ap (λ (l : List ℕ). slice_get l i) (sym q.entries) ∙ at)) [
    | inl old ↦ elim (of_more k.server.journal q.es i d (ap (λ (l : List Entry). slice_get l i) (sym q.journal) ∙ is)) [
      | inl was ↦ h.removed i p d old was goes
      | inr new ↦ let x = new.1 in let y = within k.entries i p old in absurd (omega (arith, x, y, count))
    ]
    | inr late ↦ elim (of_more k.server.journal q.es i d (ap (λ (l : List Entry). slice_get l i) (sym q.journal) ∙ is)) [
      | inl was ↦ let x = late.1 in let y = within k.server.journal i d was in absurd (omega (arith, x, y, count))
      | inr new ↦ subst (λ (z : ℕ). IsRemoved all z d) (sym (of_replicate (length q.es) (k.steps + 1) late.0 p late.2)) (goes_now new.0 d new.2 goes)
    ]
  ];
  makes = λ m t c there is at. elim (Contains-push_cases past (moment k e) m there) [
    | inl old ↦ first_later (book_at opening k past) (book_at opening later (past ++ moment k e ∷ [])) m c (λ i p had. ap (λ (l : List ℕ). slice_get l i) q.entries ∙ in_front k.entries steps i p had) (h.makes m t c old is at)
    | inr new ↦ subst (λ (z : Moment). IsMadeOrRefused (book_at opening later (past ++ moment k e ∷ [])) z c) new (now_first c (tells t c (ap (λ (z : Moment). z.event) new ∙ is) (ap (λ (z : Moment). ready_by z.before.server t) new ∙ at)))
  ];
}
  where
    later : Core
    later = (happens k e).core

    steps : List ℕ
    steps = replicate (length q.es) (k.steps + 1)

    now_first : (c : FileChange) → (0 < length q.es) ⊎ RefusesFor (happens k e) c → IsMadeOrRefused (book_at opening later (past ++ moment k e ∷ [])) (moment k e) c
    now_first c (inl some_) = inl (ap (λ (l : List ℕ). slice_get l (length k.server.journal)) q.entries ∙ ap (slice_get (k.entries ++ steps)) (sym count) ∙ at_more k.entries (length q.es) (k.steps + 1) some_)
    now_first c (inr refused) = inr refused

-- ---- a change is made, or none is ready

-- a close that had no point gets one
pointed_points : (ops : List Op) (place file step : ℕ) (o : Op) → slice_get ops place ≡ Some o → o.point ≡ None → KeepsPoints ops (slice_set ops place (record o { file = file; point = Some step }))
pointed_points ops place file step o there none j p r at word point = elim (same_or_not j place) [
  | inr apart ↦ (r, else_at ops place j (record o { file = file; point = Some step }) apart ∙ at, refl, word, point, refl)
  | inl same ↦ nothing_there p (sym none ∙ ap (λ (z : Op). z.point) (some_is o r (sym there ∙ ap (slice_get ops) (sym same) ∙ at)) ∙ point)
]

-- so too where its file goes
gone_points : (k : Core) (ops : List Op) → (ops ≡ k.ops) ⊎ GoesHere k ops → KeepsPoints k.ops ops
gone_points k ops (inl same) = subst (KeepsPoints k.ops) (sym same) (same_points k.ops)
gone_points k ops (inr g) = subst (KeepsPoints k.ops) (sym g.after_is) (pointed_points k.ops g.place g.new (k.steps + 1) g.op g.there g.unmade.1)

-- a content that was pending is made one's
module _ (all past rest : List Moment) (opening : List Opening) (k : Core) (qs : List Queue) (now : ℕ) (mid after : List Queue) (s : Step all past rest opening k qs (Settles now) mid after) (h : AreMade opening all past k)
    (c : FileChange) (cs : List FileChange) (f : File) (out : SettlesOut k now c cs) (what : c.what ≡ wanted.Content (content_wanted c.what)) (there : the_files.file_at k.server.tree c.file ≡ Some f) where
  abbrev content : List ℕ
  content = content_wanted c.what

  abbrev told : Entry
  told = entry_of c content f

  abbrev left : Core
  left = (settles k now).core

  kept : IsKept (book_at opening k all) k qs
  kept = s.kept

  count : length k.entries ≡ length k.server.journal
  count = s.kept.sound.journal.count

  step_is : unnoted k (settles k now) ≡ settled_to k (made_change (at_reading (record k.server { waiting = cs }) now) c content f)
  step_is = out.is ∙ ap (settled_to k) (made_is (book_at opening k all) k.server now c cs f kept.server out.out there what)

  entries_are : left.entries ≡ k.entries ++ (k.steps + 1) ∷ []
  entries_are = ap (λ (t : CoreStep). t.core.entries) step_is

  journal_is : left.server.journal ≡ k.server.journal ++ told ∷ []
  journal_is = ap (λ (t : CoreStep). t.core.server.journal) step_is

  home : (x : Session) × (numbered k.sessions c.session ≡ Some x) × (x.hung ≡ false)
  home = kept.home out.out.place c out.out.there

  queue : (q : Queue) × (numbered qs c.session ≡ Some q)
  queue = also_numbered k.sessions qs c.session home.0 kept.made.1 home.1

  -- what it leaves of the operations, and what the last entry tells
  abbrev IsLast : Type 0
  IsLast = KeepsPoints k.ops left.ops × IsMade (book_at opening left all) (length k.entries) (k.steps + 1)

  entry_there : slice_get left.server.journal (length k.entries) ≡ Some told
  entry_there = ap (λ (l : List Entry). slice_get l (length k.entries)) journal_is ∙ ap (slice_get (k.server.journal ++ told ∷ [])) count ∙ at_end k.server.journal told

  by_client : is_raw home.0 ≡ false → IsLast
  by_client owned =
      let x = kept.sessions c.session home.0 queue.0 home.1 queue.1 owned in
      let pending = subst (λ (z : Wanted). WaitsFor (book_at opening k all) c.session home.0.closing home.0.cut (job x.seat) c.xid c.file z) what (x.pending 0 c (ap (λ (l : List FileChange). slice_get l 0) out.out.mine)) in
      let old = x.old pending.place pending.known in
      let op : Op = record pending.op { file = c.file; point = Some (k.steps + 1) } in
      let made_op : slice_get (slice_set k.ops pending.place op) pending.place ≡ Some op = at_replaced k.ops pending.place op pending.op pending.there in
      let ops_are : left.ops ≡ slice_set k.ops pending.place op =
      ap (λ (t : CoreStep). t.core.ops) step_is
      ∙ ap (λ (z : Option ℕ). Rattle.trace_ends.specs.Core.settled_by k z (announced.Settled c.session c.xid)) (newest_one k.server.journal told)
      ∙ ap (Rattle.trace_ends.specs.Session.settled_ops k.ops (k.steps + 1) (Some c.file)) home.1
      ∙ ap (λ l. Rattle.trace_ends.specs.Ops.pointed_at k.ops l (k.steps + 1) (Some c.file)) pending.known
      ∙ ap (Rattle.trace_ends.specs.Ops.pointed k.ops pending.place c.file (k.steps + 1)) pending.there in (
        subst (KeepsPoints k.ops) (sym ops_are) (pointed_points k.ops pending.place c.file (k.steps + 1) pending.op pending.there pending.unmade.1),
        inl (record {
          moment = moment k (Settles now);
          there = s.noted.there;
          now = now;
          event_is = refl;
          step_is = refl;
          number_is = sym count;
          change = c;
          ready = out.ready;
          entry = told;
          entry_is = entry_there;
          kind_is = refl;
          file_is = refl;
          session_is = refl;
          session = home.0;
          on = home.1;
          place = pending.place;
          op = op;
          op_is = ap (λ (l : List Op). slice_get l pending.place) ops_are ∙ made_op;
          word_is = pending.word_is;
          point_is = refl;
          content = content;
          what_is = what;
          size_is = pending.size_is;
          value_is = pending.value_is;
          owner = sym old.2 ∙ ap (λ (z : Op). z.client) (some_is old.0 pending.op (sym old.1 ∙ pending.there));
          closing = pending.known;
        }),
      )

  -- one by another session is noted as it is
  by_other : is_raw home.0 ≡ true → IsLast
  by_other raw =
      let came_ = came (book_at opening k all) k qs now c cs kept out home.0 home.1 raw in
      let line : Raw = line_of (book_at opening k all) k qs now c cs kept out home.0 home.1 raw f in (
        subst (KeepsPoints k.ops) (sym (raw_ops k now c cs home.0 out home.1 (kept.strangers c.session home.0 queue.0 home.1 queue.1 raw).closing)) (same_points k.ops),
        inr (record {
          moment = moment k (Settles now);
          there = s.noted.there;
          now = now;
          event_is = refl;
          step_is = refl;
          number_is = sym count;
          change = c;
          ready = out.ready;
          session = home.0;
          on = home.1;
          raw = raw;
          came = came_.0;
          came_is = came_.1;
          entry = told;
          entry_is = entry_there;
          content = content;
          what_is = what;
          place = length k.raws;
          line = line;
          line_is = ap (λ (l : List Raw). slice_get l (length k.raws)) (raws_content (book_at opening k all) k qs now c cs kept out home.0 home.1 raw f what there) ∙ at_end k.raws line;
          told = refl;
          entry_told = refl;
        }),
      )

  commit_stays : {A : Type 0} → kind.Commit ≡ kind.Remove → A
  commit_stays z = absurd cc

  old_entry : (i p : ℕ) (d : Entry) → slice_get k.entries i ≡ Some p → slice_get left.server.journal i ≡ Some d → slice_get k.server.journal i ≡ Some d
  old_entry i p d had is = elim (of_appended k.server.journal told i d (ap (λ (l : List Entry). slice_get l i) (sym journal_is) ∙ is)) [
    | inr was ↦ was
    | inl last ↦ let x = last.0 in let y = within k.entries i p had in absurd (omega (arith, x, y, count))
  ]

  pub made_content : AreMade opening all (past ++ moment k (Settles now) ∷ []) left
  made_content =
      let last : IsLast = elim (raw_or_owned home.0) [ inl raw ↦ by_other raw | inr owned ↦ by_client owned ] in
      record {
        settled = λ i p d at is commit. elim (of_appended k.entries (k.steps + 1) i p (ap (λ (l : List ℕ). slice_get l i) (sym entries_are) ∙ at)) [
          | inr was ↦ settled_later opening all k left i p (λ y had. ap (λ (l : List Entry). slice_get l i) journal_is ∙ kept_appended k.server.journal told i y had) last.0 (raws_stay k (Settles now)) (h.settled i p d was (old_entry i p d was is) commit)
          | inl new ↦ subst (λ (n : ℕ). IsMade (book_at opening left all) n p) (sym new.0) (subst (IsMade (book_at opening left all) (length k.entries)) (sym new.1) last.1)
        ];
        removed = λ i p d at is goes. elim (of_appended k.entries (k.steps + 1) i p (ap (λ (l : List ℕ). slice_get l i) (sym entries_are) ∙ at)) [
          | inr was ↦ h.removed i p d was (old_entry i p d was is) goes
          | inl new ↦ commit_stays (ap (λ (z : Entry). z.kind) (some_is told d (sym entry_there ∙ ap (slice_get left.server.journal) (sym new.0) ∙ is)) ∙ goes)
        ];
        makes = λ m n d in_ is at. elim (Contains-push_cases past (moment k (Settles now)) m in_) [
          | inl was ↦ first_later (book_at opening k past) (book_at opening left (past ++ moment k (Settles now) ∷ [])) m d (λ i p had. ap (λ (l : List ℕ). slice_get l i) entries_are ∙ kept_appended k.entries (k.steps + 1) i p had) (h.makes m n d was is at)
          | inr new ↦ inl (subst (λ (z : Moment). slice_get left.entries (length z.before.server.journal) ≡ Some (step_of z)) new (ap (λ (l : List ℕ). slice_get l (length k.server.journal)) entries_are ∙ ap (slice_get (k.entries ++ (k.steps + 1) ∷ [])) (sym count) ∙ at_end k.entries (k.steps + 1)))
        ];
      }

made_settling : (all past rest : List Moment) (opening : List Opening) (k : Core) (qs : List Queue) (now : ℕ) (mid after : List Queue) → Step all past rest opening k qs (Settles now) mid after → AreMade opening all past k → AreMade opening all (past ++ moment k (Settles now) ∷ []) (settles k now).core
made_settling all past rest opening k qs now mid after s h = by (settling (book_at opening k all) k qs now s.kept)
  where
    settles_at : {n : ℕ} → Settles now ≡ Settles n → now ≡ n
    settles_at is = cc

    by : Settling k now (settles k now) → AreMade opening all (past ++ moment k (Settles now) ∷ []) (settles k now).core
    by (makes_commit c cs f out what there) = made_content all past rest opening k qs now mid after s h c cs f out what there
    by (makes_else ops q tells removes) = made_entered opening all past k (Settles now) s.kept.sound.journal.count q (gone_points k (settles k now).core.ops ops) (λ n c is at. tells c (ap (ready_by k.server) (settles_at is) ∙ at))
        (λ i d at goes. (let r = removes i d at goes in record { moment = moment k (Settles now); there = s.noted.there; now = now; event_is = refl; step_is = refl; change = r.change; ready = r.ready; call = r.call; what_is = r.what_is; file_is = r.file_is; session_is = r.session_is })) h

-- ---- a call is taken

-- a close that has a point keeps it where a file is made
made_points : (k : Core) (ops : List Op) → (ops ≡ k.ops) ⊎ MadeHere k ops → KeepsPoints k.ops ops
made_points k ops (inl same) = subst (KeepsPoints k.ops) (sym same) (same_points k.ops)
made_points k ops (inr m) = subst (KeepsPoints k.ops) (sym m.after_is) (pointed_points k.ops m.place m.new (k.steps + 1) m.op m.there m.unmade.1)

made_serving : FitLaws → (all past rest : List Moment) (opening : List Opening) (k : Core) (qs : List Queue) (n now : ℕ) (bytes : List ℕ) (mid after : List Queue) → Step all past rest opening k qs (Serves n now bytes) mid after → AreMade opening all past k → AreMade opening all (past ++ moment k (Serves n now bytes) ∷ []) (happens k (Serves n now bytes)).core
made_serving laws all past rest opening k qs n now bytes mid after s h =
    let q : IsQuiet k (happens k (Serves n now bytes)) = serves_quiet laws (book_at opening k all) k qs n now bytes mid s.kept s.finds in
    made_entered opening all past k (Serves n now bytes) count q.entered (made_points k (happens k (Serves n now bytes)).core.ops q.ops) (λ m c e at. absurd (not_settles m e)) (λ i d at goes. absurd (q.stays i d at goes)) h
  where
    count : length k.entries ≡ length k.server.journal
    count = s.kept.sound.journal.count

    not_settles : (m : ℕ) → Serves n now bytes ≡ Settles m → ⊥
    not_settles m e = absurd cc

settled_event : FitLaws → (all past rest : List Moment) (opening : List Opening) (k : Core) (qs : List Queue) (e : Event) (mid after : List Queue) → Step all past rest opening k qs e mid after → AreMade opening all past k → AreMade opening all (past ++ moment k e ∷ []) (happens k e).core
settled_event laws all past rest opening k qs (Settles now) mid after s h = made_settling all past rest opening k qs now mid after s h
settled_event laws all past rest opening k qs (Serves n now bytes) mid after s h = made_serving laws all past rest opening k qs n now bytes mid after s h
settled_event laws all past rest opening k qs e mid after s h = made_quietly opening all past k e (λ n z. absurd cc) (quiet_event all past rest opening k qs e mid after s (λ n z. absurd cc) (λ n t b z. absurd cc)) h

-- a settling takes the change that is ready out and no other, which nothing holds up
pub record LeavesReady (k : Core) (now : ℕ) (c : FileChange) : Type 0 where
  pub place : ℕ
  pub there : slice_get k.server.waiting place ≡ Some c
  pub alone : (i : ℕ) → slice_get k.server.waiting i ≡ Some c → i ≡ place
  pub first : (i : ℕ) (d : FileChange) → i < place → slice_get k.server.waiting i ≡ Some d → meets d c ≡ false
  pub awake : k.server.leasing.quiet ≤ max k.server.leasing.moment now
  pub left : (settles k now).core.server.waiting ≡ remove k.server.waiting place
  pub free : (i : ℕ) (l : Lease) → slice_get k.server.leasing.leases i ≡ Some l → l.file ≡ c.file → is_others l (asker c) ≡ true → l.ends ≤ max k.server.leasing.moment now

-- where none is ready nothing of the server changes
abbrev pub Leaves : Core → (now : ℕ) → Option FileChange → Type 0
Leaves k now None = (settles k now).core.server ≡ k.server
Leaves k now (Some c) = LeavesReady k now c

abbrev pub AllLeave : List Moment → Type 0
AllLeave past = (m : Moment) (now : ℕ) → Contains past m → m.event ≡ Settles now → Leaves m.before now (ready_by m.before.server now)

pub leaves_ready : (book : Book) (k : Core) (qs : List Queue) (now : ℕ) → IsKept book k qs → Leaves k now (ready_by k.server now)
leaves_ready book k qs now kept = by (what_settles book k qs now kept)
  where
    once : (c : FileChange) (i j : ℕ) → slice_get k.server.waiting i ≡ Some c → slice_get k.server.waiting j ≡ Some c → i ≡ j
    once c i j a b =
        let home = kept.home i c a in
        let le = one_waits kept c.session home.0 home.1 in
        two_own c.session k.server.waiting i j c c a b refl refl (omega (arith, le))

    by : WhatSettles k now → Leaves k now (ready_by k.server now)
    by (settles_none none is) = subst (Leaves k now) (sym none) (ap (λ (t : CoreStep). t.core.server) is)
    by (settles_one c rest out) =
        let head = ready_first k.server now c out.ready in
        let same : head.0.place ≡ out.out.place = once c head.0.place out.out.place head.0.there out.out.there in
        subst (Leaves k now) (sym out.ready) (record {
          place = out.out.place;
          there = out.out.there;
          alone = λ i at. once c i out.out.place at out.out.there;
          first = λ i d lt at. head.0.first i d (omega (arith, lt, same)) at;
          awake = head.1;
          left = ap (λ (t : CoreStep). t.core.server.waiting) out.is ∙ made_waiting (at_reading (record k.server { waiting = rest }) now) c c.what ∙ out.out.left;
          free = ready_free k.server now c out.ready;
        })

left_event : (all past rest : List Moment) (opening : List Opening) (k : Core) (qs : List Queue) (e : Event) (mid after : List Queue) → Step all past rest opening k qs e mid after → AllLeave past → AllLeave (past ++ moment k e ∷ [])
left_event all past rest opening k qs e mid after s h m now there is = elim (Contains-push_cases past (moment k e) m there) [
  | inl old ↦ h m now old is
  | inr new ↦ subst (λ (z : Moment). Leaves z.before now (ready_by z.before.server now)) new (leaves_ready (book_at opening k all) k qs now s.kept)
]

abbrev pub AllSettled : (all past : List Moment) → List Opening → Core → List Queue → Type 0
AllSettled all past opening k qs = AreMade opening all past k × AllLeave past

pub carried_settled : FitLaws → Carried AllSettled
carried_settled laws = record {
  first = λ all opening tree count kept. (record { settled = λ i p d at is commit. nothing_there p at; removed = λ i p d at is goes. nothing_there p at; makes = λ m now c there is at. (let lt = there.1 in absurd (omega (arith, lt))) }, λ m now there is. (let lt = there.1 in absurd (omega (arith, lt))));
  steps = λ all past rest opening k qs e mid after s h. (settled_event laws all past rest opening k qs e mid after s h.0, left_event all past rest opening k qs e mid after s h.1);
  adjusts = λ all past opening k qs index seats same h. (record { settled = h.0.settled; removed = h.0.removed; makes = h.0.makes }, h.1);
}

-- ---- what the promise says of settlings

pub settles_ready : (book : Book) → MakesReady book → AllLeave book.moments → SettlesReady book
settles_ready book makes leaves = λ m now there is. by m now there is (ready_by m.before.server now) refl (leaves m now there is)
  where
    by : (m : Moment) (now : ℕ) → Contains book.moments m → m.event ≡ Settles now → (o : Option FileChange) → ready_by m.before.server now ≡ o → Leaves m.before now o → IsSettling book m now o
    by m now there is None e same = ap (λ (z : Event). (happens m.before z).core.server) is ∙ same
    by m now there is (Some c) e l = record {
      place = l.place;
      there = l.there;
      left = ap (λ (z : Event). (happens m.before z).core.server.waiting) is ∙ l.left;
      first = l.first;
      awake = l.awake;
      free = l.free;
      done = makes m now c there is e;
    }
