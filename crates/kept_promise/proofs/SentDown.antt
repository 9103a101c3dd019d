-- Each answer on its way to a client was sent by the server, in a step before.
use Rattle.std.proofs.Common.{◌⊎◌, inl, inr, ◌≡◌, ℕ, ◌+◌, ◌≤◌, List, [], ◌∷◌, ◌++◌, Bool, true, false, refl, sym, subst, arith, map, Some, length}
use Rattle.server_core.specs.Recalling.{recall_sent}
use Rattle.kept_promise.proofs.Common.{Contains, Contains-append_left, Contains-append_right, Contains-push, Core, Event, CoreStep, does, joins, hears, cuts, hangs, happens, Moment, step_of, unless, Queue, Told, Session, numbered, is_raw}
use Rattle.kept_promise.proofs.Lists.{all_append, AllOf, all_map}
use Rattle.kept_promise.proofs.Messages.{AllTolds}
use Rattle.kept_promise.proofs.LeftCommits.{QueuesHave, have_ups, have_downs, have_lost, taken_off}
use Rattle.kept_promise.proofs.Leading.{sent_message, Sends, ups_put, queues_lost, queues_after}
use Rattle.kept_promise.proofs.RunsCarried.{moment, Finds}
use Rattle.kept_promise.proofs.Happens.{what_happens}
use Rattle.kept_promise.proofs.Turns.{also_numbered}
use Rattle.kept_promise.proofs.OwnersKept.{owned_before}

-- the server sent this answer on a session at one of these moments, up to this step
pub record WasSent (past : List Moment) (steps : ℕ) (sessions : List Session) (n : ℕ) (t : Told) : Type 0 where
  pub moment : Moment
  pub there : Contains past moment
  pub by : step_of moment ≤ steps
  pub sent : Contains (happens moment.before moment.event).down (sent_message (n, t))
  -- where the session is a client's, it was one then
  pub owned : (x y : Session) → numbered moment.before.sessions n ≡ Some x → numbered sessions n ≡ Some y → is_raw y ≡ false → is_raw x ≡ false

abbrev pub DownSent : (past : List Moment) (steps : ℕ) (sessions : List Session) (n : ℕ) → Queue → Type 0
DownSent past steps sessions n q = AllTolds (WasSent past steps sessions n) q.downs

abbrev pub DownsSent : (past : List Moment) (steps : ℕ) (sessions : List Session) → List Queue → Type 0
DownsSent past steps sessions qs = QueuesHave (DownSent past steps sessions) qs

-- ---- as a run goes on

later : (past : List Moment) (k : Core) (e : Event) (qs : List Queue) → length k.sessions ≡ length qs → k.steps ≤ (happens k e).core.steps → DownsSent past k.steps k.sessions qs → DownsSent (past ++ moment k e ∷ []) (happens k e).core.steps (happens k e).core.sessions qs
later past k e qs made le h n q at = all_map (WasSent past k.steps k.sessions n) (WasSent (past ++ moment k e ∷ []) (happens k e).core.steps (happens k e).core.sessions n) (λ t w. record {
  moment = w.moment;
  there = Contains-append_left past (moment k e ∷ []) w.moment w.there;
  by = (let lt = w.by in omega (arith, lt, le));
  sent = w.sent;
  owned = λ x y was now owned. (let z = also_numbered qs k.sessions n q made at in w.owned x z.0 was z.1 (owned_before k e n z.0 y z.1 now owned));
}) q.downs (h n q at)

-- ---- what an event takes off the queues, and puts on them

abbrev Any : Type 1
Any = ℕ → Told → Type 0

abbrev On : Any → ℕ → Queue → Type 0
On R n q = AllTolds (R n) q.downs

pub all_sent : {A B : Type 0} (f : A → B) (P : A → Type 0) (xs : List A) → ((x : A) → Contains (map f xs) (f x) → P x) → AllOf P xs
all_sent f P [] h = tt
all_sent f P (x ∷ xs) h = (
  h x (Contains-append_left (f x ∷ []) (map f xs) (f x) (Contains-push [] (f x))),
  all_sent f P xs (λ y c. h y (Contains-append_right (f x ∷ []) (map f xs) (f y) c)),
)

-- what is put there is what it sends
put_on : (R : Any) (mid : List Queue) (t : CoreStep) (s : Sends t) → ((p : ℕ × Told) → Contains t.down (sent_message p) → R p.0 p.1) → QueuesHave (On R) mid → QueuesHave (On R) (queues_after mid t s)
put_on R mid t s new h =
    let lost = have_lost (On R) mid t.loss h tt (λ n q g. tt) (λ n q g. g) in
    let ups = have_ups (On R) t.core.sessions (queues_lost mid t.loss) t.session s.asks lost (λ n x q is at there g. g) in
    have_downs (On R) (λ p. R p.0 p.1) t.core.sessions s.tolds (ups_put t.core.sessions (queues_lost mid t.loss) t.session s.asks) (all_sent sent_message (λ p. R p.0 p.1) s.tolds (λ p c. new p (subst (λ l. Contains l (sent_message p)) (sym s.down_is) (Contains-append_right s.strays (map recall_sent s.recalls ++ map sent_message s.tolds) (sent_message p) (Contains-append_right (map recall_sent s.recalls) (map sent_message s.tolds) (sent_message p) c))))) ups put
  where
    put : (n : ℕ) (u : Told) (q : Queue) (lost : Bool) → R n u → On R n q → AllTolds (R n) (unless lost q.downs (u ∷ []))
    put n u q true r g = g
    put n u q false r g = all_append (R n) q.downs (u ∷ []) g (r, tt)

-- ---- the step of what is sent

-- where something is sent, it is in a step
abbrev InStep : Core → CoreStep → Type 0
InStep k t = ((t.up ≡ []) × (t.down ≡ [])) ⊎ (k.steps + 1 ≤ t.core.steps)

pub in_step : (k : Core) (e : Event) → InStep k (happens k e)
in_step k e = what_happens k e (InStep k) (record {
  nothing = inl (refl, refl);
  idle = inl (refl, refl);
  joins = λ c seat is. inl (refl, refl);
  refuses = λ c seat is. inl (refl, refl);
  does = λ c now d seat is. inr (omega arith);
  takes = λ n now bytes x m is at unhung read. inr (omega arith);
  hears = λ n now bytes owner seat is. inr (omega arith);
  settles = λ now is. inr (omega arith);
  cuts = λ c seat is. inr (omega arith);
  hangs = λ n x is at unhung. inl (refl, refl);
  closes = λ n now bytes x is at unhung. inl (refl, refl);
  raw_joins = λ is. inl (refl, refl);
  raw_refuses = λ is. inl (refl, refl);
})

pub none_sent : {A B : Type 0} (x : A) (xs : List A) → xs ≡ [] → Contains xs x → B
none_sent x xs none c = let there = subst (λ l. Contains l x) none c in let lt = there.1 in absurd (omega (arith, lt))

-- ---- any event

pub sent_after : (past : List Moment) (k : Core) (qs mid : List Queue) (e : Event) (s : Sends (happens k e)) → length k.sessions ≡ length qs → Finds k qs e mid → k.steps ≤ (happens k e).core.steps → DownsSent past k.steps k.sessions qs → DownsSent (past ++ moment k e ∷ []) (happens k e).core.steps (happens k e).core.sessions (queues_after mid (happens k e) s)
sent_after past k qs mid e s made finds le h =
    let past2 : List Moment = past ++ moment k e ∷ [] in
    put_on (λ n t. WasSent past2 (happens k e).core.steps (happens k e).core.sessions n t) mid (happens k e) s new
    (taken_off (DownSent past2 (happens k e).core.steps (happens k e).core.sessions) k qs mid e (λ n q a us is g. g) (λ n q t ts is g. (subst (AllTolds (WasSent past2 (happens k e).core.steps (happens k e).core.sessions n)) is g).1) finds (later past k e qs made le h))
  where
    new : (p : ℕ × Told) → Contains (happens k e).down (sent_message p) → WasSent (past ++ moment k e ∷ []) (happens k e).core.steps (happens k e).core.sessions p.0 p.1
    new p c = elim (in_step k e) [
      | inl none ↦ none_sent (sent_message p) (happens k e).down none.1 c
      | inr step ↦ record { moment = moment k e; there = Contains-append_right past (moment k e ∷ []) (moment k e) (Contains-push [] (moment k e)); by = step; sent = c; owned = λ x y was now owned. owned_before k e p.0 x y was now owned }
    ]
