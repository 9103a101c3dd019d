-- Each call on its way to the server was sent by a client, on that session, in a step before.
use Rattle.std.proofs.Common.{inl, inr, ◌≡◌, ℕ, ◌≤◌, List, [], ◌∷◌, ◌++◌, Some, Bool, true, false, sym, ap, ◌∙◌, refl, Ok, subst, arith, map, ◌⊎◌}
use Rattle.wire.specs.declared.message.Message.TheVariants as message
use Rattle.kept_promise.proofs.Common.{Event.Serves, parse_of, server_waiting, Body, Message, calls_in, reply_message, Contains, Contains-append_left, Contains-append_right, Contains-append_cases, Contains-push, Contains-push_cases, Core, Event, CoreStep, happens, Moment, step_of, unless, Queue, Ask, ask_message, Session, numbered, is_raw}
use Rattle.kept_promise.proofs.SentDown.{all_sent, in_step, none_sent}
use Rattle.kept_promise.proofs.Lists.{all_append, all_map, all_at, true_and_false}
use Rattle.kept_promise.proofs.Messages.{AllAsks}
use Rattle.kept_promise.proofs.LeftCommits.{QueuesHave, have_ups, have_downs, have_lost, taken_off}
use Rattle.kept_promise.proofs.Leading.{Sends, queues_lost, queues_after, ups_put}
use Rattle.kept_promise.proofs.RunsCarried.{moment, Finds, FindsAsk}
use Rattle.kept_promise.proofs.Fits.{FitLaws}
use Rattle.kept_promise.proofs.Replies.{reply_read}

-- a client sent this call on a session at one of these moments, up to this step
pub record WasCalled (past : List Moment) (steps n : ℕ) (a : Ask) : Type 0 where
  pub moment : Moment
  pub there : Contains past moment
  pub by : step_of moment ≤ steps
  pub session : (happens moment.before moment.event).session ≡ Some n
  pub sent : Contains (happens moment.before moment.event).up (ask_message a)

abbrev pub UpSent : (past : List Moment) (steps n : ℕ) → Queue → Type 0
UpSent past steps n q = AllAsks (WasCalled past steps n) q.ups

abbrev pub UpsSent : (past : List Moment) (steps : ℕ) → List Queue → Type 0
UpsSent past steps qs = QueuesHave (UpSent past steps) qs

-- ---- as a run goes on

later : (past : List Moment) (m : Moment) (steps after : ℕ) (qs : List Queue) → steps ≤ after → UpsSent past steps qs → UpsSent (past ++ m ∷ []) after qs
later past m steps after qs le h n q at = all_map (WasCalled past steps n) (WasCalled (past ++ m ∷ []) after n) (λ a w. record {
  moment = w.moment;
  there = Contains-append_left past (m ∷ []) w.moment w.there;
  by = (let lt = w.by in omega (arith, lt, le));
  session = w.session;
  sent = w.sent;
}) q.ups (h n q at)

-- ---- what an event takes off the queues, and puts on them

abbrev Any : Type 1
Any = ℕ → Ask → Type 0

abbrev On : Any → ℕ → Queue → Type 0
On R n q = AllAsks (R n) q.ups

-- what is put there is what it sends
put_on : (R : Any) (mid : List Queue) (t : CoreStep) (s : Sends t) → ((n : ℕ) (a : Ask) → t.session ≡ Some n → Contains t.up (ask_message a) → R n a) → QueuesHave (On R) mid → QueuesHave (On R) (queues_after mid t s)
put_on R mid t s new h =
    let lost = have_lost (On R) mid t.loss h tt (λ n q g. g) (λ n q g. tt) in
    let ups = have_ups (On R) t.core.sessions (queues_lost mid t.loss) t.session s.asks lost (λ n x q is at there g. put n q x.hung (all_sent ask_message (R n) s.asks (λ a c. new n a is (subst (λ l. Contains l (ask_message a)) (sym s.up_is) (Contains-append_right (map reply_message s.replies) (map ask_message s.asks) (ask_message a) c)))) g) in
    have_downs (On R) (λ p. Unit {0}) t.core.sessions s.tolds (ups_put t.core.sessions (queues_lost mid t.loss) t.session s.asks) (all_at (λ p. Unit {0}) s.tolds (λ i p at. tt)) ups (λ n u q lost r g. g)
  where
    put : (n : ℕ) (q : Queue) (lost : Bool) → AllAsks (R n) s.asks → On R n q → AllAsks (R n) (unless lost q.ups s.asks)
    put n q true r g = g
    put n q false r g = all_append (R n) q.ups s.asks g r

-- ---- any event

pub called_after : (past : List Moment) (k : Core) (qs mid : List Queue) (e : Event) (s : Sends (happens k e)) → Finds k qs e mid → k.steps ≤ (happens k e).core.steps → UpsSent past k.steps qs → UpsSent (past ++ moment k e ∷ []) (happens k e).core.steps (queues_after mid (happens k e) s)
called_after past k qs mid e s finds le h =
    let past2 : List Moment = past ++ moment k e ∷ [] in
    put_on (λ n a. WasCalled past2 (happens k e).core.steps n a) mid (happens k e) s new
    (taken_off (UpSent past2 (happens k e).core.steps) k qs mid e (λ n q a us is g. (subst (AllAsks (WasCalled past2 (happens k e).core.steps n)) is g).1) (λ n q t ts is g. g) finds (later past (moment k e) k.steps (happens k e).core.steps qs le h))
  where
    new : (n : ℕ) (a : Ask) → (happens k e).session ≡ Some n → Contains (happens k e).up (ask_message a) → WasCalled (past ++ moment k e ∷ []) (happens k e).core.steps n a
    new n a is c = elim (in_step k e) [
      | inl none ↦ none_sent (ask_message a) (happens k e).up none.0 c
      | inr step ↦ record { moment = moment k e; there = Contains-append_right past (moment k e ∷ []) (moment k e) (Contains-push [] (moment k e)); by = step; session = is; sent = c }
    ]

-- a call that is sent is asked for
pub call_asked : (ms : List Message) (xid : ℕ) (b : Body) → Contains ms (message.Call xid b) → Contains (calls_in ms) (message.Call xid b)
call_asked [] xid b c = c
call_asked (m ∷ ms) xid b c = elim (Contains-append_cases (m ∷ []) ms (message.Call xid b) c) [
  | inl first ↦ elim (Contains-push_cases [] m (message.Call xid b) first) [
    | inl none ↦ (let lt = none.1 in absurd (omega (arith, lt)))
    | inr same ↦ subst (λ (z : Message). Contains (calls_in (z ∷ ms)) (message.Call xid b)) (sym same) (Contains-append_left (message.Call xid b ∷ []) (calls_in ms) (message.Call xid b) (Contains-push [] (message.Call xid b)))
  ]
  | inr later ↦ behind m (call_asked ms xid b later)
]
  where
    behind : (m : Message) → Contains (calls_in ms) (message.Call xid b) → Contains (calls_in (m ∷ ms)) (message.Call xid b)
    behind (message.Call y d) h = Contains-append_right (message.Call y d ∷ []) (calls_in ms) (message.Call xid b) h
    behind (message.Answer y d) h = h
    behind (message.Refuse y d) h = h
    behind (message.Unfit y d) h = h

-- of a client's session: an answer to a RECALL is read as no call
pub asked_only : FitLaws → (k : Core) (qs : List Queue) (n now : ℕ) (bytes : List ℕ) (mid : List Queue) → Finds k qs (Serves n now bytes) mid → ((x : Session) → numbered k.sessions n ≡ Some x → is_raw x ≡ false) → (xid : ℕ) (b : Body) → parse_of server_waiting bytes ≡ Ok (message.Call xid b) → FindsAsk qs n bytes mid
asked_only fits k qs n now bytes mid (inl f) owned xid b read = f
asked_only fits k qs n now bytes mid (inr (inr f)) owned xid b read = absurd (true_and_false (is_raw f.0) f.2 (owned f.0 f.1))
asked_only fits k qs n now bytes mid (inr (inl f)) owned xid b read = absurd (no_call (reply_read fits server_waiting refl f.xid f.fits (message.Call xid b) (ap (parse_of server_waiting) (sym f.bytes_is) ∙ read)))
  where
    no_call : false ≡ true → ⊥
    no_call e = absurd cc
