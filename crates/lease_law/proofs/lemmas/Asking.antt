-- RECALLs are drawn and sent: each has an xid that its session has not seen yet, and a claim goes on, whichever leases they ask for.
use Rattle.std.proofs.Common.{◌≡◌, ◌⊎◌, inl, inr, ℕ, ◌+◌, ◌≤◌, List, [], ◌∷◌, ◌++◌, Option, Some, None, Bool, true, false, refl, sym, ap, ◌∙◌, subst, arith}
use Rattle.std.specs.Prelude.{◌==◌, not, cond, find, filter, map, nat_lt, if◌then◌else◌, unwrap_or}
use Rattle.std.specs.List.{AllByRecursion}
use Rattle.std.proofs.lemmas.Bool.Decides.{nat_tests}
use Rattle.limits.specs.declared.TheConstants.{XIDS_MOST}
use Rattle.wire.specs.declared.message.Message.{Message}
use Rattle.lease_rules.specs.declared.lease.Lease.{Lease}
use Rattle.lease_rules.specs.declared.change.Recall.{Recall}
use Rattle.lease_rules.specs.Xids.{draw}
use Rattle.lease_table.specs.Leases.{marked}
use Rattle.lease_table.specs.Order.{AreOrdered}
use Rattle.lease_table.proofs.lemmas.Lists.{or_else, find_append, find_kept, find_none_kept, some_is}
use Rattle.lease_table.proofs.lemmas.Held.{marked_ordered}
use Rattle.callback_core.specs.BackCalls.{BackCall, unasked, with_recall, recalled_if, is_at, call_at, xid_at, hung, with_call, asks_if, asked_with, asks, all_marked}
use Rattle.callback_core.specs.declared.back_calls.Asked.{Asked}
use Rattle.server_core.specs.declared.event.Sent.{Sent}
use Rattle.server_core.specs.Recalling.{recall_sent}
use Rattle.server_core.specs.State.{FileChange}
use Rattle.lease_law.specs.Claims.{Way, IsGuarded, recall_message, answered_by, called_by}
use Rattle.lease_law.specs.Orderly.{IsUpTo, AreAnswered, AreApart, AllApart, sent_on, behind_with}
use Rattle.lease_law.proofs.lemmas.LeasesAt.{guarded_more, guarded_marked}

-- ---- a session's calls

is_own : (calls : List BackCall) (n : ℕ) (c : BackCall) → find (is_at n) calls ≡ Some c → c.session ≡ n
is_own [] n c e = absurd cc
is_own (d ∷ ds) n c e = by (is_at n d) refl e (is_own ds n c)
  where
    by : (b : Bool) → is_at n d ≡ b → cond b (Some d) (find (is_at n) ds) ≡ Some c → (find (is_at n) ds ≡ Some c → c.session ≡ n) → c.session ≡ n
    by true is e later = subst (λ (z : BackCall). z.session ≡ n) (some_is d c e) (grind (arith, nat_tests, is))
    by false is e later = later e

call_own : (calls : List BackCall) (n : ℕ) → (call_at calls n).session ≡ n
call_own calls n = by (find (is_at n) calls) refl
  where
    by : (o : Option BackCall) → find (is_at n) calls ≡ o → (unwrap_or o (unasked n)).session ≡ n
    by None e = refl
    by (Some c) e = is_own calls n c e

at_own : (c : BackCall) (n : ℕ) → c.session ≡ n → is_at n c ≡ true
at_own c n e = grind (arith, nat_tests, e)

at_other : (c : BackCall) (n s : ℕ) → c.session ≡ n → (n ≡ s → ⊥) → is_at s c ≡ false
at_other c n s e apart = by (is_at s c) refl
  where
    by : (b : Bool) → is_at s c ≡ b → b ≡ false
    by true is = let same : c.session ≡ s = grind (arith, nat_tests, is) in absurd (apart (sym e ∙ same))
    by false is = refl

at_with : (calls : List BackCall) (n : ℕ) (c : BackCall) → c.session ≡ n → call_at (with_call calls n c) n ≡ c
at_with calls n c own =
    ap (λ (o : Option BackCall). unwrap_or o (unasked n))
    (find_append (is_at n) (hung calls n) (c ∷ [])
    ∙ ap (λ (o : Option BackCall). or_else o (find (is_at n) (c ∷ []))) (find_none_kept (is_at n) (λ d. not (is_at n d)) (λ d e. ap not e) calls)
    ∙ ap (λ (b : Bool). cond b (Some c) None) (at_own c n own))

at_beside : (calls : List BackCall) (n s : ℕ) (c : BackCall) → c.session ≡ n → (n ≡ s → ⊥) → call_at (with_call calls n c) s ≡ call_at calls s
at_beside calls n s c own apart =
    ap (λ (o : Option BackCall). unwrap_or o (unasked s))
    (find_append (is_at s) (hung calls n) (c ∷ [])
    ∙ ap (λ (o : Option BackCall). or_else o (find (is_at s) (c ∷ []))) (find_kept (is_at s) (λ d. not (is_at n d)) kept calls)
    ∙ ap (λ (b : Bool). or_else (find (is_at s) calls) (cond b (Some c) None)) (at_other c n s own apart)
    ∙ none_else (find (is_at s) calls))
  where
    none_else : (o : Option BackCall) → or_else o None ≡ o
    none_else None = refl
    none_else (Some d) = refl

    kept : (d : BackCall) → is_at s d ≡ true → not (is_at n d) ≡ true
    kept d is = by (is_at n d) refl
      where
        by : (b : Bool) → is_at n d ≡ b → not b ≡ true
        by false e = refl
        by true e = let a : d.session ≡ n = grind (arith, nat_tests, e) in let b : d.session ≡ s = grind (arith, nat_tests, is) in absurd (apart (sym a ∙ b))

recalled_own : (c : BackCall) (o : Option ℕ) → (recalled_if c o).session ≡ c.session
recalled_own c None = refl
recalled_own c (Some x) = refl

-- the xid of the next call is one more than the last
drawn : (last x : ℕ) → draw last ≡ Some x → x ≡ last + 1
drawn last x e = by (nat_lt last XIDS_MOST) e
  where
    by : (b : Bool) → (let o : Option ℕ = if b then Some (last + 1) else None in o ≡ Some x) → x ≡ last + 1
    by true e = sym (some_is (last + 1) x e)
    by false e = absurd cc

last_if : (c : BackCall) (o : Option ℕ) → draw c.last ≡ o → c.last ≤ (recalled_if c o).last
last_if c None e = omega arith
last_if c (Some x) e = let is = drawn c.last x e in omega (arith, is)

pub last_grows : (calls : List BackCall) (n s : ℕ) → (call_at calls s).last ≤ (call_at (asks_if calls n (xid_at calls n)) s).last
last_grows calls n s = by (n == s) refl
  where
    c : BackCall
    c = recalled_if (call_at calls n) (xid_at calls n)

    own : c.session ≡ n
    own = recalled_own (call_at calls n) (xid_at calls n) ∙ call_own calls n

    by : (b : Bool) → (n == s) ≡ b → (call_at calls s).last ≤ (call_at (asks_if calls n (xid_at calls n)) s).last
    by true e =
        let same : n ≡ s = grind (arith, nat_tests, e) in
        subst (λ (m : ℕ). (call_at calls m).last ≤ (call_at (asks_if calls n (xid_at calls n)) m).last) same
        (subst (λ (d : BackCall). (call_at calls n).last ≤ d.last) (sym (at_with calls n c own)) (last_if (call_at calls n) (xid_at calls n) refl))
    by false e =
        let apart : n ≡ s → ⊥ = λ q. no (sym (subst (λ (m : ℕ). (n == m) ≡ true) q (itself n)) ∙ e) in
        subst (λ (d : BackCall). (call_at calls s).last ≤ d.last) (sym (at_beside calls n s c own apart)) (omega arith)
      where
        no : true ≡ false → ⊥
        no e = absurd cc

        itself : (m : ℕ) → (m == m) ≡ true
        itself m = grind (arith, nat_tests)

-- ---- what was drawn, and what comes then

up_to_more : (last more : ℕ) (o : Option ℕ) → last ≤ more → IsUpTo last o → IsUpTo more o
up_to_more last more None le h = tt
up_to_more last more (Some x) le h = omega (arith, le, h)

all_more : (last more : ℕ) (of : Message → Option ℕ) (ms : List Message) → last ≤ more → AllByRecursion (λ m. IsUpTo last (of m)) ms → AllByRecursion (λ m. IsUpTo more (of m)) ms
all_more last more of [] le h = tt
all_more last more of (m ∷ ms) le h = (up_to_more last more (of m) le h.0, all_more last more of ms le h.1)

pub answered_more : (calls more : List BackCall) (s : ℕ) (ups : List Message) → (call_at calls s).last ≤ (call_at more s).last → AreAnswered calls s ups → AreAnswered more s ups
answered_more calls more s ups le h = all_more (call_at calls s).last (call_at more s).last answered_by ups le h

-- no message has an xid that is above all that were drawn
none_yet : (last x : ℕ) (of : Message → Option ℕ) (ms : List Message) → x ≡ last + 1 → AllByRecursion (λ m. IsUpTo last (of m)) ms → AllByRecursion (λ m. (y : ℕ) → of m ≡ Some y → y ≡ x → ⊥) ms
none_yet last x of [] e h = tt
none_yet last x of (m ∷ ms) e h = ((λ y is same. let le : y ≤ last = subst (IsUpTo last) is h.0 in omega (arith, le, e, same)), none_yet last x of ms e h.1)

-- ---- what is sent

pub sent_cons : (s : ℕ) (m : Sent) (ms : List Sent) → sent_on s (m ∷ ms) ≡ sent_on s (m ∷ []) ++ sent_on s ms
sent_cons s m ms = by (m.session == s)
  where
    by : (b : Bool) → map (λ (n : Sent). n.message) (cond b (m ∷ filter (λ n. n.session == s) ms) (filter (λ n. n.session == s) ms)) ≡ map (λ (n : Sent). n.message) (cond b (m ∷ []) []) ++ sent_on s ms
    by true = refl
    by false = refl

pub sent_one : (s : ℕ) (m : Sent) → m.session ≡ s → sent_on s (m ∷ []) ≡ m.message ∷ []
sent_one s m e = let is : (m.session == s) ≡ true = grind (arith, nat_tests, e) in ap (λ (b : Bool). map (λ (n : Sent). n.message) (cond b (m ∷ []) [])) is

append_all : {A : Type 0} (xs ys zs : List A) → (xs ++ ys) ++ zs ≡ xs ++ (ys ++ zs)
append_all [] ys zs = refl
append_all (x ∷ xs) ys zs = ap (λ l. x ∷ l) (append_all xs ys zs)

pub behind_join : (way : Way) (behind xs ys : List Message) → behind_with way (behind_with way behind xs) ys ≡ behind_with way behind (xs ++ ys)
behind_join way behind xs ys = by way.cut
  where
    by : (b : Bool) → (if b then (if b then behind else behind ++ xs) else (if b then behind else behind ++ xs) ++ ys) ≡ (if b then behind else behind ++ (xs ++ ys))
    by true = refl
    by false = append_all behind xs ys

-- ---- all that are asked for

-- the xids that answers tell were drawn, or the session isn't asked
abbrev pub AreKnown : List BackCall → (s : ℕ) → List Message → List Recall → Type 0
AreKnown calls s ups rs = AreAnswered calls s ups ⊎ AllByRecursion (λ (r : Recall). r.session ≡ s → ⊥) rs

known_next : (calls : List BackCall) (s : ℕ) (ups : List Message) (r : Recall) (rs : List Recall) (o : Option ℕ) → xid_at calls r.session ≡ o → AreKnown calls s ups (r ∷ rs) → AreKnown (asks_if calls r.session o) s ups rs
known_next calls s ups r rs o e (inl answered) = inl (subst (λ (x : Option ℕ). AreAnswered (asks_if calls r.session x) s ups) e (answered_more calls (asks_if calls r.session (xid_at calls r.session)) s ups (last_grows calls r.session s) answered))
known_next calls s ups r rs o e (inr none) = inr none.1

known_fresh : (calls : List BackCall) (s : ℕ) (ups : List Message) (r : Recall) (rs : List Recall) (x : ℕ) → xid_at calls r.session ≡ Some x → AreKnown calls s ups (r ∷ rs) → r.session ≡ s → AllByRecursion (λ m. (y : ℕ) → answered_by m ≡ Some y → y ≡ x → ⊥) ups
known_fresh calls s ups r rs x e (inl answered) same = none_yet (call_at calls s).last x answered_by ups (drawn (call_at calls s).last x (ap (xid_at calls) (sym same) ∙ e)) answered
known_fresh calls s ups r rs x e (inr none) same = absurd (none.0 same)

module _ (waiting : List FileChange) (s f limit : ℕ) (way : Way) where
  pub asks_guarded : (rs : List Recall) (calls : List BackCall) (leases : List Lease) (behind : List Message) → AreOrdered leases → AreKnown calls s way.ups rs → IsGuarded leases waiting s f limit way behind
      → IsGuarded (all_marked leases (asks calls rs).1) waiting s f limit way (behind_with way behind (sent_on s (map recall_sent (asks calls rs).1)))
  asks_guarded [] calls leases behind ordered known g = guarded_more waiting s f limit way behind leases [] g
  asks_guarded (r ∷ rs) calls leases behind ordered known g = by (xid_at calls r.session) refl (λ cs ls ms o k h. asks_guarded rs cs ls ms o k h)
    where
      by : (o : Option ℕ) → xid_at calls r.session ≡ o
          → ((cs : List BackCall) (ls : List Lease) (ms : List Message) → AreOrdered ls → AreKnown cs s way.ups rs → IsGuarded ls waiting s f limit way ms → IsGuarded (all_marked ls (asks cs rs).1) waiting s f limit way (behind_with way ms (sent_on s (map recall_sent (asks cs rs).1))))
          → IsGuarded (all_marked leases (asked_with r o ++ (asks (asks_if calls r.session o) rs).1)) waiting s f limit way (behind_with way behind (sent_on s (map recall_sent (asked_with r o ++ (asks (asks_if calls r.session o) rs).1))))
      by None e then_ = then_ (asks_if calls r.session None) leases behind ordered (known_next calls s way.ups r rs None e known) g
      by (Some x) e then_ =
          let a : Asked = record { session = r.session; file = r.file; xid = x } in
          let later : List Asked = (asks (asks_if calls r.session (Some x)) rs).1 in
          let one = guarded_marked waiting s f limit way behind leases r.session r.file x (sent_on s (recall_sent a ∷ [])) ordered (known_fresh calls s way.ups r rs x e known) (λ same. sent_one s (recall_sent a) same) g in
          let rest = then_ (asks_if calls r.session (Some x)) (marked leases r.session r.file x) (behind_with way behind (sent_on s (recall_sent a ∷ []))) (marked_ordered leases ordered r.session r.file x) (known_next calls s way.ups r rs (Some x) e known) one in
          subst (λ (ms : List Message). IsGuarded (all_marked (marked leases r.session r.file x) later) waiting s f limit way ms)
          (behind_join way behind (sent_on s (recall_sent a ∷ [])) (sent_on s (map recall_sent later)) ∙ ap (behind_with way behind) (sym (sent_cons s (recall_sent a) (map recall_sent later)))) rest

-- a session that isn't asked is sent nothing
pub asks_unsent : (s : ℕ) (rs : List Recall) (calls : List BackCall) → AllByRecursion (λ (r : Recall). r.session ≡ s → ⊥) rs → sent_on s (map recall_sent (asks calls rs).1) ≡ []
asks_unsent s [] calls none = refl
asks_unsent s (r ∷ rs) calls none = by (xid_at calls r.session) (λ cs. asks_unsent s rs cs none.1)
  where
    not_it : (b : Bool) → (r.session == s) ≡ b → b ≡ false
    not_it true e = absurd (none.0 (grind (arith, nat_tests, e)))
    not_it false e = refl

    by : (o : Option ℕ) → ((cs : List BackCall) → sent_on s (map recall_sent (asks cs rs).1) ≡ []) → sent_on s (map recall_sent (asked_with r o ++ (asks (asks_if calls r.session o) rs).1)) ≡ []
    by None later = later (asks_if calls r.session None)
    by (Some x) later =
        let more : List Asked = (asks (asks_if calls r.session (Some x)) rs).1 in
        ap (λ (b : Bool). map (λ (m : Sent). m.message) (cond b (recall_sent (record { session = r.session; file = r.file; xid = x }) ∷ filter (λ m. m.session == s) (map recall_sent more)) (filter (λ m. m.session == s) (map recall_sent more)))) (not_it (r.session == s) refl)
        ∙ later (asks_if calls r.session (Some x))

pub all_marked_ordered : (rs : List Asked) (leases : List Lease) → AreOrdered leases → AreOrdered (all_marked leases rs)
all_marked_ordered [] leases ordered = ordered
all_marked_ordered (a ∷ rs) leases ordered = all_marked_ordered rs (marked leases a.session a.file a.xid) (marked_ordered leases ordered a.session a.file a.xid)

-- ---- the xids that are on their way

pub record AreXids (asked : List BackCall) (session : ℕ) (ups downs : List Message) : Type 0 where
  pub answers : AreAnswered asked session ups
  pub calls : AllByRecursion (λ m. IsUpTo (call_at asked session).last (called_by m)) downs
  pub apart : AllApart downs

all_last : (P : Message → Type 0) (xs : List Message) (m : Message) → AllByRecursion P xs → P m → AllByRecursion P (xs ++ m ∷ [])
all_last P [] m h p = (p, tt)
all_last P (x ∷ xs) m h p = (h.0, all_last P xs m h.1 p)

apart_last : (downs : List Message) (x : ℕ) (m : Message) → called_by m ≡ Some x → AllByRecursion (λ d. (y : ℕ) → called_by d ≡ Some y → y ≡ x → ⊥) downs → AllApart downs → AllApart (downs ++ m ∷ [])
apart_last [] x m is none h = (tt, tt)
apart_last (d ∷ ds) x m is none h =
    (all_last (AreApart d) ds m h.0 (λ y a b. none.0 y a (sym (some_is x y (sym is ∙ b)))), apart_last ds x m is none.1 h.1)

module _ (s : ℕ) (way : Way) where
  pub asks_numbered : (rs : List Recall) (calls : List BackCall) (downs : List Message) → AreXids calls s way.ups downs → AreXids (asks calls rs).0 s way.ups (behind_with way downs (sent_on s (map recall_sent (asks calls rs).1)))
  asks_numbered [] calls downs h = subst (AreXids calls s way.ups) (sym (none way.cut)) h
    where
      append_none : (xs : List Message) → xs ++ [] ≡ xs
      append_none [] = refl
      append_none (x ∷ xs) = ap (λ (l : List Message). x ∷ l) (append_none xs)

      none : (b : Bool) → (if b then downs else downs ++ []) ≡ downs
      none true = refl
      none false = append_none downs
  asks_numbered (r ∷ rs) calls downs h = by (xid_at calls r.session) refl (λ cs ms k. asks_numbered rs cs ms k)
    where
      more : AreXids (asks_if calls r.session (xid_at calls r.session)) s way.ups downs
      more = record {
        answers = answered_more calls (asks_if calls r.session (xid_at calls r.session)) s way.ups (last_grows calls r.session s) h.answers;
        calls = all_more (call_at calls s).last (call_at (asks_if calls r.session (xid_at calls r.session)) s).last called_by downs (last_grows calls r.session s) h.calls;
        apart = h.apart;
      }

      -- the RECALL itself
      one : (x : ℕ) → xid_at calls r.session ≡ Some x → AreXids (asks_if calls r.session (Some x)) s way.ups (behind_with way downs (sent_on s (recall_sent (record { session = r.session; file = r.file; xid = x }) ∷ [])))
      one x e = split (r.session == s) refl
        where
          after : AreXids (asks_if calls r.session (Some x)) s way.ups downs
          after = subst (λ (o : Option ℕ). AreXids (asks_if calls r.session o) s way.ups downs) e more

          m : Message
          m = recall_message x r.file

          append_none : (xs : List Message) → xs ++ [] ≡ xs
          append_none [] = refl
          append_none (x ∷ xs) = ap (λ (l : List Message). x ∷ l) (append_none xs)

          last_is : r.session ≡ s → (call_at (asks_if calls r.session (Some x)) s).last ≡ x
          last_is same =
              subst (λ (n : ℕ). (call_at (asks_if calls r.session (Some x)) n).last ≡ x) same
              (ap (λ (c : BackCall). c.last) (at_with calls r.session (recalled_if (call_at calls r.session) (Some x)) (recalled_own (call_at calls r.session) (Some x) ∙ call_own calls r.session)))

          put : r.session ≡ s → (b : Bool) → AreXids (asks_if calls r.session (Some x)) s way.ups (if b then downs else downs ++ m ∷ [])
          put same true = after
          put same false =
              let is = last_is same in
              record {
                answers = after.answers;
                calls = all_last (λ d. IsUpTo (call_at (asks_if calls r.session (Some x)) s).last (called_by d)) downs m after.calls (omega (arith, is));
                apart = apart_last downs x m refl (none_yet (call_at calls s).last x called_by downs (drawn (call_at calls s).last x (ap (xid_at calls) (sym same) ∙ e)) h.calls) h.apart;
              }

          skip : (b : Bool) → AreXids (asks_if calls r.session (Some x)) s way.ups (if b then downs else downs ++ [])
          skip true = after
          skip false = subst (AreXids (asks_if calls r.session (Some x)) s way.ups) (sym (append_none downs)) after

          split : (b : Bool) → (r.session == s) ≡ b → AreXids (asks_if calls r.session (Some x)) s way.ups (behind_with way downs (map (λ (n : Sent). n.message) (cond b (recall_sent (record { session = r.session; file = r.file; xid = x }) ∷ []) [])))
          split true is = put (grind (arith, nat_tests, is)) way.cut
          split false is = skip way.cut

      by : (o : Option ℕ) → xid_at calls r.session ≡ o → ((cs : List BackCall) (ms : List Message) → AreXids cs s way.ups ms → AreXids (asks cs rs).0 s way.ups (behind_with way ms (sent_on s (map recall_sent (asks cs rs).1))))
          → AreXids (asks (asks_if calls r.session o) rs).0 s way.ups (behind_with way downs (sent_on s (map recall_sent (asked_with r o ++ (asks (asks_if calls r.session o) rs).1))))
      by None e then_ = then_ (asks_if calls r.session None) downs (subst (λ (o : Option ℕ). AreXids (asks_if calls r.session o) s way.ups downs) e more)
      by (Some x) e then_ =
          let a : Asked = record { session = r.session; file = r.file; xid = x } in
          let later : List Asked = (asks (asks_if calls r.session (Some x)) rs).1 in
          subst (AreXids (asks (asks_if calls r.session (Some x)) rs).0 s way.ups)
          (behind_join way downs (sent_on s (recall_sent a ∷ [])) (sent_on s (map recall_sent later)) ∙ ap (behind_with way downs) (sym (sent_cons s (recall_sent a) (map recall_sent later))))
          (then_ (asks_if calls r.session (Some x)) (behind_with way downs (sent_on s (recall_sent a ∷ []))) (one x e))
