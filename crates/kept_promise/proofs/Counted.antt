-- Sums of traffic; by which step something was said, and for which operation; and that what a client says is for the operation at its place.
use Rattle.std.proofs.Common.{◌⊎◌, inl, inr, ◌≡◌, ℕ, zero, suc, ◌+◌, ◌<◌, ◌≤◌, List, [], ◌∷◌, ◌++◌, Option, Some, None, Bool, true, false, refl, sym, ap, ◌∙◌, subst, arith, eq-eqb}
use Rattle.client_state.specs.State as client
use Rattle.trace_replay.specs.Traffic.{traffic_if, sent_for, taken_for}
use Rattle.kept_promise.proofs.Common.{nat_tests, Contains, ◌==◌, ◌&&◌, nat_le, slice_get, Message, ClientStep, Ended, Op, Traffic, TakenCall, no_traffic, op_after, Said, all_said, until, is_of, sent_traffic, taken_traffic, both}
use Rattle.kept_promise.proofs.Tallies.{sent_sum, taken_sum}

-- ---- sums of traffic

pub traffic_is : (a b : Traffic) → a.cond ≡ b.cond → a.tmp ≡ b.tmp → a.read ≡ b.read → a.«data» ≡ b.«data» → a ≡ b
traffic_is a b p q r s =
    ap (λ (n : ℕ). record { cond = n; tmp = a.tmp; read = a.read; «data» = a.«data» }) p
    ∙ ap (λ (n : ℕ). record { cond = b.cond; tmp = n; read = a.read; «data» = a.«data» }) q
    ∙ ap (λ (n : ℕ). record { cond = b.cond; tmp = b.tmp; read = n; «data» = a.«data» }) r
    ∙ ap (λ (n : ℕ). record { cond = b.cond; tmp = b.tmp; read = b.read; «data» = n }) s

pub both_assoc : (a b c : Traffic) → both (both a b) c ≡ both a (both b c)
both_assoc a b c = traffic_is (both (both a b) c) (both a (both b c)) (omega arith) (omega arith) (omega arith) (omega arith)

pub none_both : (a : Traffic) → both no_traffic a ≡ a
none_both a = traffic_is (both no_traffic a) a (omega arith) (omega arith) (omega arith) (omega arith)

pub both_none : (a : Traffic) → both a no_traffic ≡ a
both_none a = traffic_is (both a no_traffic) a (omega arith) (omega arith) (omega arith) (omega arith)

pub sent_append : (o : Op) (ss ts : List Said) → sent_for o (ss ++ ts) ≡ both (sent_for o ss) (sent_for o ts)
sent_append o [] ts = sym (none_both (sent_for o ts))
sent_append o (s ∷ ss) ts = ap (both (traffic_if (is_of o s) (sent_traffic s.message))) (sent_append o ss ts) ∙ sym (both_assoc (traffic_if (is_of o s) (sent_traffic s.message)) (sent_for o ss) (sent_for o ts))

pub taken_append : (o : Op) (ss ts : List Said) → taken_for o (ss ++ ts) ≡ both (taken_for o ss) (taken_for o ts)
taken_append o [] ts = sym (none_both (taken_for o ts))
taken_append o (s ∷ ss) ts = ap (both (traffic_if (is_of o s) (taken_traffic s.message))) (taken_append o ss ts) ∙ sym (both_assoc (traffic_if (is_of o s) (taken_traffic s.message)) (taken_for o ss) (taken_for o ts))

if_both : (b : Bool) (x y : Traffic) → both (traffic_if b x) (traffic_if b y) ≡ traffic_if b (both x y)
if_both true x y = refl
if_both false x y = refl

if_none : (b : Bool) → no_traffic ≡ traffic_if b no_traffic
if_none true = refl
if_none false = refl

-- whether a client's messages in a step are an operation's
abbrev pub of_step : Op → (step client : ℕ) → Bool
of_step o step c = (c == o.client) && (nat_le o.begin step && until o.end step)

pub sent_said : (o : Op) (step c : ℕ) (ms : List Message) → sent_for o (all_said step c ms) ≡ traffic_if (of_step o step c) (sent_sum ms)
sent_said o step c [] = if_none (of_step o step c)
sent_said o step c (m ∷ ms) = ap (both (traffic_if (of_step o step c) (sent_traffic m))) (sent_said o step c ms) ∙ if_both (of_step o step c) (sent_traffic m) (sent_sum ms)

pub taken_said : (o : Op) (step c : ℕ) (ms : List Message) → taken_for o (all_said step c ms) ≡ traffic_if (of_step o step c) (taken_sum ms)
taken_said o step c [] = if_none (of_step o step c)
taken_said o step c (m ∷ ms) = ap (both (traffic_if (of_step o step c) (taken_traffic m))) (taken_said o step c ms) ∙ if_both (of_step o step c) (taken_traffic m) (taken_sum ms)

-- ---- what is past

-- all was said by this step
abbrev pub SaidBy : (step : ℕ) → List Said → Type 0
SaidBy n [] = Unit {0}
SaidBy n (s ∷ ss) = (s.step ≤ n) × SaidBy n ss

pub said_later : (m n : ℕ) (ss : List Said) → m ≤ n → SaidBy m ss → SaidBy n ss
said_later m n [] le h = tt
said_later m n (s ∷ ss) le h = let a = h.0 in (omega (arith, a, le), said_later m n ss le h.1)

pub said_append : (n : ℕ) (ss ts : List Said) → SaidBy n ss → SaidBy n ts → SaidBy n (ss ++ ts)
said_append n [] ts h k = k
said_append n (s ∷ ss) ts h k = (h.0, said_append n ss ts h.1 k)

pub said_now : (n c : ℕ) (ms : List Message) → SaidBy n (all_said n c ms)
said_now n c [] = tt
said_now n c (m ∷ ms) = (omega arith, said_now n c ms)

-- an element of a list is its first one, or of the rest
pub first_or_rest : {A : Type 0} (x : A) (xs : List A) (y : A) → Contains (x ∷ xs) y → (y ≡ x) ⊎ Contains xs y
first_or_rest x xs y (zero, lt, e) = inl (sym e)
first_or_rest x xs y (suc i, lt, e) = inr (i, omega (arith, lt), e)

pub said_by : (n : ℕ) (ss : List Said) (s : Said) → SaidBy n ss → Contains ss s → s.step ≤ n
said_by n [] s h c = let lt = c.1 in absurd (omega (arith, lt))
said_by n (t ∷ ss) s h c = elim (first_or_rest t ss s c) [
  | inl e ↦ subst (λ (z : Said). z.step ≤ n) (sym e) h.0
  | inr rest ↦ said_by n ss s h.1 rest
]

-- by whom, and when
pub said_at : (step i : ℕ) (ms : List Message) (s : Said) → Contains (all_said step i ms) s → (s.step ≡ step) × (s.client ≡ i)
said_at step i [] s c = let lt = c.1 in absurd (omega (arith, lt))
said_at step i (m ∷ ms) s c = elim (first_or_rest (record { step = step; client = i; message = m }) (all_said step i ms) s c) [
  | inl e ↦ (ap (λ (z : Said). z.step) e, ap (λ (z : Said). z.client) e)
  | inr rest ↦ said_at step i ms s rest
]

-- two operations have the same part of what is past
abbrev pub AlikeUpTo : (n : ℕ) → Op → Op → Type 0
AlikeUpTo n o r = (step c : ℕ) → step ≤ n → of_step r step c ≡ of_step o step c

-- one that begins later has none
pub early : (o : Op) (step c : ℕ) → step < o.begin → of_step o step c ≡ false
early o step c lt = by (c == o.client) (nat_le o.begin step) refl
  where
    by : (a b : Bool) → nat_le o.begin step ≡ b → (a && (b && until o.end step)) ≡ false
    by a true e = absurd (grind (arith, nat_tests, e, lt))
    by true false e = refl
    by false false e = refl

-- ---- a client goes on with its operation

pub record IsActor (ops : List Op) (i : ℕ) (place : Option ℕ) (steps : ℕ) : Type 0 where
  pub other : (p : ℕ) (o : Op) → slice_get ops p ≡ Some o → (place ≡ Some p → ⊥) → of_step o (steps + 1) i ≡ false
  pub own : (p : ℕ) (o : Op) → place ≡ Some p → slice_get ops p ≡ Some o → (o.client ≡ i) × (o.end ≡ None) × (o.begin ≤ steps)

-- an operation that runs in a step, until then and perhaps no longer
pub running_now : (o : Op) (c : client.State) (taken : List TakenCall) (n i : ℕ) (acts : ClientStep) → o.client ≡ i → o.end ≡ None → o.begin ≤ n → of_step (op_after o c taken (n + 1) acts) (n + 1) i ≡ true
running_now o c taken n i acts client none le = by acts.ended
  where
    before : nat_le o.begin (n + 1) ≡ true
    before = grind (arith, nat_tests, le)

    last : nat_le (n + 1) (n + 1) ≡ true
    last = grind (arith, nat_tests)

    head : (b : Bool) → b ≡ true → ((i == o.client) && (nat_le o.begin (n + 1) && b)) ≡ true
    head b e = ap (λ z. z && (nat_le o.begin (n + 1) && b)) (eq-eqb i o.client (sym client)) ∙ ap (λ z. true && (z && b)) before ∙ e

    by : (e : Option Ended) → of_step (op_after o c taken (n + 1) (record acts { ended = e })) (n + 1) i ≡ true
    by None = head (until o.end (n + 1)) (ap (λ z. until z (n + 1)) none)
    by (Some e) = head (nat_le (n + 1) (n + 1)) last

pub running_past : (o : Op) (c : client.State) (taken : List TakenCall) (n : ℕ) (acts : ClientStep) → o.end ≡ None → AlikeUpTo n o (op_after o c taken (n + 1) acts)
running_past o c taken n acts none = λ step i le. by acts.ended step i le
  where
    by : (e : Option Ended) (step i : ℕ) → step ≤ n → of_step (op_after o c taken (n + 1) (record acts { ended = e })) step i ≡ of_step o step i
    by None step i le = refl
    by (Some e) step i le = ap (λ b. (i == o.client) && (nat_le o.begin step && b)) (let t : nat_le step (n + 1) ≡ true = grind (arith, nat_tests, le) in t ∙ sym (ap (λ z. until z step) none))
