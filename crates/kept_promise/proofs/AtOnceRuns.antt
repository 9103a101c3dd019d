-- A run carries that what is fresh is open at once: an open of it ends in its first step by the content that is kept, and a rewrite by none.
use Rattle.std.proofs.Common.{inl, inr, ◌≡◌, ℕ, ◌+◌, ◌≤◌, List, [], ◌∷◌, ◌++◌, Option, Some, None, false, refl, sym, ap, ◌∙◌, subst, arith}
use Rattle.command_text.specs.declared.command.Command.TheVariants as command
use Rattle.client_cache.specs.declared.kept.Content.{Content}
use Rattle.client_state.specs.Ending.{is_open}
use Rattle.client_state.specs.Noting.{at as clocked}
use Rattle.client_state.specs.State as client
use Rattle.file_open.specs.Caching.{fresh_content}
use Rattle.file_open.specs.Fetching.{opens, opens_if, opens_kept, opens_fresh}
use Rattle.file_open.specs.Rewriting.{rewrites, rewrites_if, renews_kept, empties_fresh}
use Rattle.trace_ends.specs.Ops.{begun as op_begun}
use Rattle.trace_ends.specs.Session.{taken_of as session_taken}
use Rattle.trace_replay.specs.Saving.{EndsBy, EndsAnew, IsFreshIn, OpensAtOnce, RenewsAtOnce}
use Rattle.kept_promise.proofs.Common.{Contains, Contains-push_cases, slice_get, option_map, unwrap_or, Message, Command, command_step, ClientStep, Local, Op, Opening, op_after, word_of, file_of, value_at_begin, Core, Seat, Event, Event.Does, numbered, does, session_of, happens, Moment, step_of, local_at_itself, Book, Queue}
use Rattle.kept_promise.proofs.Lists.{nothing_there, of_appended, of_replaced}
use Rattle.kept_promise.proofs.Fits.{FitLaws}
use Rattle.kept_promise.proofs.Facts.{IsKept}
use Rattle.kept_promise.proofs.RunsCarried.{book_at, moment, Step}
use Rattle.kept_promise.proofs.Actors.{acts_alone}
use Rattle.kept_promise.proofs.JobFacts.{ops_shape}
use Rattle.kept_promise.proofs.WalksOnward.{begin_stays}
use Rattle.kept_promise.proofs.OpsAfter.{OpsAfter, Becomes, ops_after_event}

-- ---- what is carried

-- what an operation comes to whose client is told this, to which a file is fresh
abbrev pub EndsFor : Command → (file : ℕ) → Moment → Op → Content → Type 0
EndsFor (command.Open f) file m o c = f ≡ file → EndsBy m.before.lbfs o (step_of m) (happens m.before m.event).up (Some c.bytes)
EndsFor (command.Rewrite f) file m o c = f ≡ file → EndsAnew o (step_of m) (happens m.before m.event).up
EndsFor d file m o c = Unit {0}

abbrev pub IsAtOnce : Moment → Op → Type 0
IsAtOnce m o = (client now : ℕ) (d : Command) (file : ℕ) (c : Content) → m.event ≡ Does client now d → o.begin ≡ step_of m → IsFreshIn m client now file c → EndsFor d file m o c

pub both_at_once : (m : Moment) (o : Op) → IsAtOnce m o → OpensAtOnce m o × RenewsAtOnce m o
both_at_once m o h = (λ client now file c told begin fresh. h client now (command.Open file) file c told begin fresh refl, λ client now file c told begin fresh. h client now (command.Rewrite file) file c told begin fresh refl)

pub record AreAtOnce (past : List Moment) (steps : ℕ) (ops : List Op) : Type 0 where
  -- a moment in which an end is told something is a step
  pub told : (m : Moment) → Contains past m → (client now : ℕ) (d : Command) (seat : Seat) → m.event ≡ Does client now d → numbered m.before.seats client ≡ Some seat → step_of m ≤ steps
  pub each : (m : Moment) → Contains past m → (p : ℕ) (o : Op) → slice_get ops p ≡ Some o → IsAtOnce m o

-- ---- what is past stays

-- one that goes on had not ended
for_running : (d : Command) (file : ℕ) (m : Moment) (c : Content) (q r : Op) → q.end ≡ None → EndsFor d file m q c → EndsFor d file m r c
for_running (command.Open f) file m c q r running h = λ is. nothing_there (step_of m) (sym running ∙ (h is).1)
for_running (command.Rewrite f) file m c q r running h = λ is. nothing_there (step_of m) (sym running ∙ (h is).1)
for_running d file m c q r running h = tt

for_made : (d : Command) (file : ℕ) (m : Moment) (c : Content) (q : Op) (f : ℕ) (t : Option ℕ) → EndsFor d file m q c → EndsFor d file m (record q { file = f; point = t }) c
for_made (command.Open g) file m c q f t h = h
for_made (command.Rewrite g) file m c q f t h = h
for_made d file m c q f t h = tt

stays : (book : Book) (k : Core) (qs : List Queue) (e : Event) (ops : List Op) (m : Moment) → IsKept book k qs → step_of m ≤ k.steps → OpsAfter e k ops → (client now : ℕ) (d : Command) (file : ℕ) (c : Content) → m.event ≡ Does client now d → IsFreshIn m client now file c → ((p : ℕ) (o : Op) → slice_get k.ops p ≡ Some o → IsAtOnce m o) → (p : ℕ) (o : Op) → slice_get ops p ≡ Some o → o.begin ≡ step_of m → EndsFor d file m o c
stays book k qs e ops m kept le (inl same) client now d file c told fresh h p o at begin = h p o (ap (λ (l : List Op). slice_get l p) (sym same) ∙ at) client now d file c told begin fresh
stays book k qs e ops m kept le (inr (inl n)) client now d file c told fresh h p o at begin = elim (of_appended k.ops n.new p o (ap (λ (l : List Op). slice_get l p) (sym n.is) ∙ at)) [
  | inl last ↦ (let first = ap (λ (z : Op). z.begin) (sym last.1) ∙ begin in let lt = n.late in absurd (omega (arith, first, lt, le)))
  | inr old ↦ h p o old client now d file c told begin fresh
]
stays book k qs e ops m kept le (inr (inr (inl a))) client now d file c told fresh h p o at begin = elim (ops_shape k.ops a.seat.place a.after (session_taken (session_of k.sessions a.seat.session)) (k.steps + 1) a.acts p o (ap (λ (l : List Op). slice_get l p) (sym a.is) ∙ at)) [
  | inl mine ↦
      let new : Op = op_after mine.0 a.after (session_taken (session_of k.sessions a.seat.session)) (k.steps + 1) a.acts in
      let first : mine.0.begin ≡ step_of m = sym (begin_stays mine.0 a.after (session_taken (session_of k.sessions a.seat.session)) (k.steps + 1) a.acts) ∙ ap (λ (z : Op). z.begin) (sym mine.3) ∙ begin in
      subst (λ (z : Op). EndsFor d file m z c) (sym mine.3) (for_running d file m c mine.0 new ((acts_alone book k qs a.index a.seat kept a.here).own p mine.0 mine.1 mine.2).1 (h p mine.0 mine.2 client now d file c told first fresh))
  | inr old ↦ h p o old.1 client now d file c told begin fresh
]
stays book k qs e ops m kept le (inr (inr (inr (inl same)))) client now d file c told fresh h p o at begin = h p o (ap (λ (l : List Op). slice_get l p) (sym same) ∙ at) client now d file c told begin fresh
stays book k qs e ops m kept le (inr (inr (inr (inr s)))) client now d file c told fresh h p o at begin = elim (of_replaced k.ops s.place (record s.op { file = s.file; point = Some (k.steps + 1) }) p o (ap (λ (l : List Op). slice_get l p) (sym s.is) ∙ at)) [
  | inr old ↦ h p o old.1 client now d file c told begin fresh
  | inl made ↦ subst (λ (z : Op). EndsFor d file m z c) (sym made.1) (for_made d file m c s.op s.file (Some (k.steps + 1)) (h s.place s.op s.there client now d file c told (ap (λ (z : Op). z.begin) (sym made.1) ∙ begin) fresh))
]

-- ---- it is told to open what is fresh

opens_as : (s : client.State) (file now : ℕ) (c : Content) → s.task ≡ None → is_open s.opened file ≡ false → fresh_content s.cache file now ≡ Some c → command_step s (command.Open file) now ≡ opens_fresh (clocked s now) file c
opens_as s file now c free shut fresh = ap (opens (clocked s now) file) free ∙ ap (opens_if (clocked s now) file) shut ∙ ap (opens_kept (clocked s now) file) fresh

renews_as : (s : client.State) (file now : ℕ) (c : Content) → s.task ≡ None → is_open s.opened file ≡ false → fresh_content s.cache file now ≡ Some c → command_step s (command.Rewrite file) now ≡ empties_fresh (clocked s now) file c
renews_as s file now c free shut fresh = ap (rewrites (clocked s now) file) free ∙ ap (rewrites_if (clocked s now) file) shut ∙ ap (renews_kept (clocked s now) file) fresh

module _ (k : Core) (number now : ℕ) (seat : Seat) (here : numbered k.seats number ≡ Some seat) (file : ℕ) (c : Content) (free : seat.client.task ≡ None) (shut : is_open seat.client.opened file ≡ false) (fresh : fresh_content seat.client.cache file now ≡ Some c) where
  -- its operation, and what it sends
  abbrev made : Command → client.State × ClientStep → Op
  made d z = op_after (op_begun number (word_of d) (file_of d) (value_at_begin seat.client (word_of d) (file_of d) z.1.ended) (k.steps + 1)) z.0 [] (k.steps + 1) z.1

  up : (d : Command) → (happens k (Does number now d)).up ≡ (command_step seat.client d now).1.send
  up d = ap (λ (l : Option Seat). (does k number now d l).up) here

  -- what is open is what was kept
  value : client.local_bytes (client.with_local seat.client.opened file (record { version = c.version; bytes = c.bytes })) file ≡ c.bytes
  value = ap (λ (o : Option Local). unwrap_or (option_map (λ (z : Local). z.bytes) o) []) (local_at_itself seat.client.opened file (record { version = c.version; bytes = c.bytes }))

  opened : EndsBy k.lbfs (made (command.Open file) (command_step seat.client (command.Open file) now)) (k.steps + 1) (command_step seat.client (command.Open file) now).1.send (Some c.bytes)
  opened = subst (λ (z : client.State × ClientStep). EndsBy k.lbfs (made (command.Open file) z) (k.steps + 1) z.1.send (Some c.bytes)) (sym (opens_as seat.client file now c free shut fresh)) (refl, refl, value, refl, refl)

  renewed : EndsAnew (made (command.Rewrite file) (command_step seat.client (command.Rewrite file) now)) (k.steps + 1) (command_step seat.client (command.Rewrite file) now).1.send
  renewed = subst (λ (z : client.State × ClientStep). EndsAnew (made (command.Rewrite file) z) (k.steps + 1) z.1.send) (sym (renews_as seat.client file now c free shut fresh)) (refl, refl, refl, refl)

  new_ends : (d : Command) → EndsFor d file (moment k (Does number now d)) (made d (command_step seat.client d now)) c
  new_ends (command.Open f) = λ is. subst (λ (ms : List Message). EndsBy k.lbfs (made (command.Open f) (command_step seat.client (command.Open f) now)) (k.steps + 1) ms (Some c.bytes)) (sym (up (command.Open f))) (subst (λ (n : ℕ). EndsBy k.lbfs (made (command.Open n) (command_step seat.client (command.Open n) now)) (k.steps + 1) (command_step seat.client (command.Open n) now).1.send (Some c.bytes)) (sym is) opened)
  new_ends (command.Rewrite f) = λ is. subst (EndsAnew (made (command.Rewrite f) (command_step seat.client (command.Rewrite f) now)) (k.steps + 1)) (sym (up (command.Rewrite f))) (subst (λ (n : ℕ). EndsAnew (made (command.Rewrite n) (command_step seat.client (command.Rewrite n) now)) (k.steps + 1) (command_step seat.client (command.Rewrite n) now).1.send) (sym is) renewed)
  new_ends d = tt

  -- it is the one that begins then
  new_at : (book : Book) (qs : List Queue) → IsKept book k qs → book.steps ≡ k.steps → book.ops ≡ k.ops → (d : Command) (p : ℕ) (o : Op) → slice_get (happens k (Does number now d)).core.ops p ≡ Some o → o.begin ≡ k.steps + 1 → EndsFor d file (moment k (Does number now d)) o c
  new_at book qs kept steps ops d p o at begin = elim (of_appended k.ops (made d (command_step seat.client d now)) p o (ap (λ (l : Option Seat). slice_get (does k number now d l).core.ops p) (sym here) ∙ at)) [
    | inl last ↦ subst (λ (z : Op). EndsFor d file (moment k (Does number now d)) z c) (sym last.1) (new_ends d)
    | inr old ↦ (let before = (kept.sound.rights p o (ap (λ (l : List Op). slice_get l p) ops ∙ old)).begun in absurd (omega (arith, before, begin, steps)))
  ]

now_ends : (all past : List Moment) (opening : List Opening) (k : Core) (qs : List Queue) (e : Event) → IsKept (book_at opening k all) k qs → (p : ℕ) (o : Op) → slice_get (happens k e).core.ops p ≡ Some o → IsAtOnce (moment k e) o
now_ends all past opening k qs e kept p o at client now d file c told begin fresh =
    subst (λ (z : Event). slice_get (happens k z).core.ops p ≡ Some o → EndsFor d file (moment k z) o c) (sym told) (λ there. new_at k client now fresh.seat fresh.seat_is file c fresh.free fresh.shut fresh.fresh (book_at opening k all) qs kept refl refl d p o there begin) at

-- ---- any event

pub at_once_event : FitLaws → (all past rest : List Moment) (opening : List Opening) (k : Core) (qs : List Queue) (e : Event) (mid after : List Queue) → Step all past rest opening k qs e mid after → AreAtOnce past k.steps k.ops → AreAtOnce (past ++ moment k e ∷ []) (happens k e).core.steps (happens k e).core.ops
at_once_event fits all past rest opening k qs e mid after s h = record {
  told = λ z there client now d seat told here. elim (Contains-push_cases past (moment k e) z there) [
    | inl old ↦ (let le = w.1 in let lt = h.told z old client now d seat told here in omega (arith, le, lt))
    | inr new ↦ subst (λ (y : Moment). step_of y ≤ (happens k e).core.steps) new (told_step client now d seat (ap (λ (y : Moment). y.event) new ∙ told) (ap (λ (y : Moment). numbered y.before.seats client) new ∙ here))
  ];
  each = λ z there p o at client now d file c told begin fresh. elim (Contains-push_cases past (moment k e) z there) [
    | inl old ↦ stays (book_at opening k all) k qs e (happens k e).core.ops z s.kept (h.told z old client now d fresh.seat told fresh.seat_is) w.0 client now d file c told fresh (h.each z old) p o at begin
    | inr new ↦ subst (λ (y : Moment). IsAtOnce y o) new (now_ends all past opening k qs e s.kept p o at) client now d file c told begin fresh
  ];
}
  where
    w : Becomes e k (happens k e)
    w = ops_after_event fits all past rest opening k qs e mid after s

    told_step : (client now : ℕ) (d : Command) (seat : Seat) → e ≡ Does client now d → numbered k.seats client ≡ Some seat → k.steps + 1 ≤ (happens k e).core.steps
    told_step client now d seat told here =
        let is : (happens k e).core.steps ≡ k.steps + 1 = ap (λ (y : Event). (happens k y).core.steps) told ∙ ap (λ (l : Option Seat). (does k client now d l).core.steps) here in
        omega (arith, is)
