-- Each event keeps what holds of the machine of one lease.
use Rattle.std.proofs.Common.{◌≡◌, ℕ, ◌+◌, ◌-◌, ◌<◌, ◌≤◌, List, [], ◌∷◌, ◌++◌, Option, Some, None, Bool, true, false, true≢false, ◌⊎◌, inl, inr, refl, sym, ap, subst, ◌∙◌, arith}
use Rattle.std.specs.Prelude.{not, cond, ◌&&◌, ◌||◌, ◌==◌, nat_lt}
use Rattle.std.proofs.lemmas.Bool.Decides.{nat_tests}
use Rattle.std.proofs.lemmas.List.Elements.{All-contains}
use Rattle.clock_rule.specs.Clocks.{Clocked}
use Rattle.clock_rule.specs.Keeping.{KeepRule}
use Rattle.lease_rules.specs.declared.lease.Lease.{Lease}
use Rattle.lease_table.specs.Leases.{lease_at, grant, marked, without_recalled, remembers, is_blocked, blocks, is_wanted_back}
use Rattle.lease_table.specs.Order.{AreOrdered}
use Rattle.lease_table.specs.Machine.{Machine, Note, Up, Up.Ask, Up.Commit, Up.Reply, Down, Down.Answered, Down.Recall, Event, Event.Open, Event.Fetch, Event.Store, Event.Read, Event.Take, Event.Arrive, Event.Change, Event.Settle, Event.Refuse, Event.Drop, Event.Cut, Event.Hang, Event.Restart, event_at, fresh, is_free, is_none, asks_if, opens_by, stores_if, note_if, note_of, reads_one, unless, answers, takes_one, is_wanted, recalls_if, changes, settles_if, refuses_if, happens, start}
use Rattle.lease_table.specs.Claims.{recalls_of, replies_of, Among, AllBelow, AreApart, calls, commits, answers_in, one_if, IsUnread, IsGuarded, IsSafe, IsKnown, IsClaim, IsNote, IsPromise, IsAlone, IsKept, IsNew, AllAnswers, AreNumbered, AllRight, IsNoted, IsTimed, IsLater}
use Rattle.lease_table.proofs.lemmas.Lists.{if_passes, some_is}
use Rattle.lease_table.proofs.lemmas.Held.{grant_ordered, marked_ordered, recalled_ordered, at_grant, at_mark, at_recalled, not_blocking, first, second}
use Rattle.lease_table.proofs.Messages.{recalls-append, recalls_answered, replies-append, replies_ask, replies_commit, calls-append, commits-append, commits_are_calls, answers-append, all_answers, answers_recalled, none_answered, only_answer, apart_answers, not_below, below_more, below_last, among_last, among_either, apart_last}

-- ---- from claim to claim

abbrev pub Claims : Machine → Machine → (behind behind' : List ℕ) → Type 0
Claims m n b c = (v s : ℕ) → IsClaim m v s b → IsClaim n v s c

pub note_map : (m n : Machine) (o : Option Note) (b c : List ℕ) → n.clocks.term ≡ m.clocks.term → n.clocks.drift ≡ m.clocks.drift → Claims m n b c → IsNote m o b → IsNote n o c
note_map m n None b c t d f h = tt
note_map m n (Some q) b c t d f h = (h.0, omega (arith, t, d, h.1), omega (arith, t, d, h.2), f q.version h.0 h.3)

pub promise_map : (m n : Machine) (v t : ℕ) (b c : List ℕ) → n.clocks.term ≡ m.clocks.term → n.clocks.drift ≡ m.clocks.drift → n.sent ≡ m.sent → Claims m n b c → IsPromise m v t b → IsPromise n v t c
promise_map m n v t b c e d s f h = λ sent is some. let k = h sent (sym s ∙ is) (omega (arith, d, some)) in (k.0 ∙ sym e, f v sent k.1)

-- ---- time passes

module _ (m : Machine) (new : Clocked) (later : IsLater m.clocks new) where
  abbrev at_last : Machine
  at_last = record m { clocks = new }

  known_later : (s base : ℕ) → IsKnown m s base → IsKnown at_last s base
  known_later s base k = (later.notes _ k.0, omega (arith, k.1, later.server))

  claims_later : (b : List ℕ) → Claims m at_last b b
  claims_later b v s c = (c.0, known_later s c.0 c.1, safe c.2)
    where
      safe : IsSafe m v (c.0 + m.clocks.term) b → IsSafe at_last v (c.0 + new.term) b
      safe (inl spent) = inl (omega (arith, later.term, later.server))
      safe (inr held) = inr (subst (λ (t : ℕ). (m.version ≡ v) × ((c.0 + t ≤ m.quiet) ⊎ IsGuarded (lease_at m.leases m.session m.file) (c.0 + t) (replies_of m.ups) b m.cut)) (sym later.term) held)

  pub kept_later : IsKept m → IsKept at_last
  kept_later k = record {
    ordered = k.ordered;
    note = note_map m at_last m.note _ _ later.term later.drift (claims_later (recalls_of m.downs)) k.note;
    answers = all_answers _ _ (λ v t ds. promise_map m at_last v t (recalls_of ds) (recalls_of ds) later.term later.drift refl (claims_later (recalls_of ds))) m.downs k.answers;
    sent = λ s e. let b = k.sent s e in (b.0, known_later s b.0 b.1);
    numbered = k.numbered;
    single = k.single;
    opens = k.opens;
  }

-- ---- an open by the note

-- Of a claim that isn't spent the version is the file's. This is where the clocks come in: the client's
-- clock went on by less than the term and the drift since it sent the call, so the server's went on by
-- less than the term.
unspent : (m : Machine) (seen : ℕ) (n : Note) (b : List ℕ) → IsNoted m seen → nat_lt seen n.until ≡ true → IsNote m (Some n) b → n.version ≡ m.version
unspent m seen n b keeps early h =
    let c = h.3 in
    let near : KeepRule m.clocks.term m.clocks.drift (record { client = m.client; reading = h.0; server = c.0 }) (event_at m seen) = All-contains (λ q. KeepRule m.clocks.term m.clocks.drift q (event_at m seen)) m.clocks.notes _ keeps.1 c.1.0 in
    let under : seen < n.until = grind (arith, nat_tests, early) in
    let went : m.clocks.server - c.0 ≤ (seen - h.0) + m.clocks.drift = near.apart refl (omega (arith, h.1, h.2, under)) in
    by c.2 (omega (arith, h.1, h.2, under, near.client refl, near.server, went))
  where
    by : IsSafe m n.version (h.3.0 + m.clocks.term) b → m.clocks.server < h.3.0 + m.clocks.term → n.version ≡ m.version
    by (inl spent) early = absurd (omega arith)
    by (inr held) early = sym held.0

pub open_is_right : (m : Machine) (seen : ℕ) (n : Note) → IsKept m → IsNoted m seen → m.note ≡ Some n → seen < n.until → n.version ≡ m.version
open_is_right m seen n k noted e early =
    unspent m seen n (recalls_of m.downs) noted (grind (arith, nat_tests, early)) (subst (λ (o : Option Note). IsNote m o (recalls_of m.downs)) e k.note)

-- ---- the client sends a call

free_of : (m : Machine) → is_free m ≡ true → (m.sent ≡ None) × (m.cut ≡ false)
free_of m e = by m.sent m.cut refl refl e
  where
    by : (o : Option ℕ) (b : Bool) → m.sent ≡ o → m.cut ≡ b → (is_none o && not b) ≡ true → (m.sent ≡ None) × (m.cut ≡ false)
    by None false s c e = (s, c)
    by None true s c e = absurd (true≢false (sym e))
    by (Some x) b s c e = absurd (true≢false (sym e))

-- only the replies among what is on its way up are seen by a claim
claims_up : (m : Machine) (us : List Up) → replies_of us ≡ replies_of m.ups → (b : List ℕ) → Claims m (record m { ups = us }) b b
claims_up m us e b v s c = (c.0, c.1, safe c.2)
  where
    safe : IsSafe m v (c.0 + m.clocks.term) b → IsSafe (record m { ups = us }) v (c.0 + m.clocks.term) b
    safe (inl spent) = inl spent
    safe (inr (is, inl quiet)) = inr (is, inl quiet)
    safe (inr (is, inr guarded)) = inr (is, inr (subst (λ rs. IsGuarded (lease_at m.leases m.session m.file) (c.0 + m.clocks.term) rs b m.cut) (sym e) guarded))

sent_is : (m : Machine) (seen : ℕ) → IsKnown m seen m.clocks.server → (s : ℕ) → Some seen ≡ Some s → (base : ℕ) × IsKnown m s base
sent_is m seen known s e = (m.clocks.server, subst (λ (t : ℕ). IsKnown m t m.clocks.server) (some_is seen s e) known)

alone_same : (o : Option Note) (a b : ℕ) → a ≡ b → IsAlone o a → IsAlone o b
alone_same None a b e h = tt
alone_same (Some n) a b e h = omega (arith, e, h)

alone_zero : (o : Option Note) (a : ℕ) → a ≡ 0 → IsAlone o a
alone_zero None a e = tt
alone_zero (Some n) a e = e

kept_asks : (m : Machine) (seen : ℕ) (b : Bool) → is_free m ≡ b → IsKnown m seen m.clocks.server → IsKept m → IsKept (asks_if b m seen)
kept_asks m seen false e known k = k
kept_asks m seen true e known k =
    let free = free_of m e in
    let none = k.single.idle free.1 free.0 in
    let same = replies_ask m.ups in
    let count = calls-append m.ups (Ask ∷ []) in
    let few = commits-append m.ups (Ask ∷ []) in
    let n : Machine = record m { ups = m.ups ++ Ask ∷ []; sent = Some seen } in
    record {
      ordered = k.ordered;
      note = note_map m n m.note _ _ refl refl (claims_up m (m.ups ++ Ask ∷ []) same (recalls_of m.downs)) k.note;
      answers = none_answered _ m.downs (omega (arith, none));
      sent = sent_is m seen known;
      numbered = record { apart = k.numbered.apart; below = k.numbered.below; replies = subst (AllBelow m.next) (sym same) k.numbered.replies };
      single = record { single = omega (arith, none, count); idle = λ c s. absurd cc; alone = alone_same m.note _ _ (omega (arith, few)) k.single.alone };
      opens = k.opens;
    }

kept_stores : (m : Machine) (seen : ℕ) (b : Bool) → is_free m ≡ b → IsKnown m seen m.clocks.server → IsKept m → IsKept (stores_if b m seen)
kept_stores m seen false e known k = k
kept_stores m seen true e known k =
    let free = free_of m e in
    let none = k.single.idle free.1 free.0 in
    let same = replies_commit m.ups in
    let count = calls-append m.ups (Commit ∷ []) in
    record {
      ordered = k.ordered;
      note = tt;
      answers = none_answered _ m.downs (omega (arith, none));
      sent = sent_is m seen known;
      numbered = record { apart = k.numbered.apart; below = k.numbered.below; replies = subst (AllBelow m.next) (sym same) k.numbered.replies };
      single = record { single = omega (arith, none, count); idle = λ c s. absurd cc; alone = tt };
      opens = k.opens;
    }

known_now : (m : Machine) (seen : ℕ) → IsNoted m seen → IsKnown m seen m.clocks.server
known_now m seen noted = (noted.0, omega arith)

kept_opens : (m : Machine) (seen : ℕ) → IsNoted m seen → IsKept m → (o : Option Note) → m.note ≡ o → IsKept (opens_by (fresh o seen) m seen)
kept_opens m seen keeps k None e = kept_asks m seen (is_free m) refl (known_now m seen keeps) k
kept_opens m seen keeps k (Some n) e = by (nat_lt seen n.until) refl
  where
    by : (b : Bool) → nat_lt seen n.until ≡ b → IsKept (opens_by (cond b (Some n.version) None) m seen)
    by false early = kept_asks m seen (is_free m) refl (known_now m seen keeps) k
    by true early = record {
      ordered = k.ordered;
      note = k.note;
      answers = k.answers;
      sent = k.sent;
      numbered = k.numbered;
      single = k.single;
      opens = (unspent m seen n (recalls_of m.downs) keeps early (subst (λ (o : Option Note). IsNote m o (recalls_of m.downs)) e k.note), k.opens);
    }

-- ---- the client reads a message

-- the note that an answer lets it take
note_taken : (m : Machine) (v t : ℕ) (b : List ℕ) (o : Option ℕ) → m.sent ≡ o → IsPromise m v t b → IsNote m m.note b → IsNote m (note_of m.clocks.drift o v t m.note) b
note_taken m v t b None e p h = h
note_taken m v t b (Some s) e p h = by (nat_lt m.clocks.drift t) refl
  where
    by : (c : Bool) → nat_lt m.clocks.drift t ≡ c → IsNote m (note_if c v ((s + t) - m.clocks.drift) m.note) b
    by false g = h
    by true g =
        let over : m.clocks.drift < t = grind (arith, nat_tests, g) in
        let k = p s e over in
        (s, omega (arith, k.0, over), omega (arith, k.0, over), k.1)

-- a reply goes up to a RECALL that no claim has to read any more
claims_replied : (m : Machine) (x : ℕ) (b : List ℕ) → m.cut ≡ false → (Among x b → ⊥) → Claims m (record m { ups = m.ups ++ Reply x ∷ [] }) b b
claims_replied m x b joined apart v s c = (c.0, c.1, safe c.2)
  where
    unread : (o : Option ℕ) → IsUnread o (replies_of m.ups) b m.cut → IsUnread o (replies_of (m.ups ++ Reply x ∷ [])) b m.cut
    unread None u = tt
    unread (Some y) u = (
      λ a. elim (among_either y x (replies_of m.ups) (subst (Among y) (replies-append m.ups (Reply x ∷ [])) a)) [
        | inl before ↦ u.0 before
        | inr is ↦ elim u.1 [ inl behind ↦ apart (subst (λ (z : ℕ). Among z b) is behind) | inr lost ↦ true≢false (sym lost ∙ joined) ]
      ],
      u.1,
    )

    guarded : (o : Option Lease) → IsGuarded o (c.0 + m.clocks.term) (replies_of m.ups) b m.cut → IsGuarded o (c.0 + m.clocks.term) (replies_of (m.ups ++ Reply x ∷ [])) b m.cut
    guarded None g = absurd g
    guarded (Some l) g = (g.0, unread l.recall g.1)

    safe : IsSafe m v (c.0 + m.clocks.term) b → IsSafe (record m { ups = m.ups ++ Reply x ∷ [] }) v (c.0 + m.clocks.term) b
    safe (inl spent) = inl spent
    safe (inr (is, inl quiet)) = inr (is, inl quiet)
    safe (inr (is, inr g)) = inr (is, inr (guarded (lease_at m.leases m.session m.file) g))

kept_reads : (m : Machine) (ds : List Down) → m.cut ≡ false → IsKept (record m { downs = ds }) → IsKept (reads_one (record m { downs = ds }) ds)
kept_reads m [] joined k = k
kept_reads m (Answered v t ∷ ds) joined k = record {
  ordered = k.ordered;
  note = note_taken m v t (recalls_of ds) m.sent refl k.answers.0 k.note;
  answers = none_answered _ ds (omega (arith, k.single.single));
  sent = λ s e. absurd cc;
  numbered = k.numbered;
  single = record {
    single = omega (arith, k.single.single);
    idle = λ c s. omega (arith, k.single.single);
    alone = alone_zero _ _ (omega (arith, k.single.single, commits_are_calls m.ups));
  };
  opens = k.opens;
}
kept_reads m (Recall x ∷ ds) joined k =
    let us : List Up = m.ups ++ Reply x ∷ [] in
    let n : Machine = record m { downs = ds; ups = us; note = None } in
    let count = calls-append m.ups (Reply x ∷ []) in
    record {
      ordered = k.ordered;
      note = tt;
      answers = apart_answers _ _ x (λ v t es not_there. promise_map m n v t _ _ refl refl refl (claims_replied m x (recalls_of es) joined not_there)) ds k.numbered.apart.0 k.answers;
      sent = k.sent;
      numbered = record { apart = k.numbered.apart.1; below = k.numbered.below.1; replies = subst (AllBelow m.next) (sym (replies-append m.ups (Reply x ∷ []))) (below_last m.next x (replies_of m.ups) k.numbered.replies k.numbered.below.0) };
      single = record { single = omega (arith, k.single.single, count); idle = λ c s. omega (arith, k.single.idle c s, count); alone = tt };
      opens = k.opens;
    }

kept_reads_unless : (m : Machine) (b : Bool) → m.cut ≡ b → IsKept m → IsKept (unless b m (reads_one m m.downs))
kept_reads_unless m true e k = k
kept_reads_unless m false e k = kept_reads m m.downs e k

-- ---- the server takes a call, and answers

abbrev pending : Machine → ℕ
pending m = calls m.ups + one_if m.waits + answers_in m.downs

-- a lease granted now guards every claim
claims_granted : (m : Machine) → AreOrdered m.leases → (b : List ℕ) → Claims m (record m { leases = grant m.leases m.session m.file (m.clocks.server + m.clocks.term) }) b b
claims_granted m ordered b v s c = (c.0, c.1, safe c.2)
  where
    guarded : IsGuarded (lease_at (grant m.leases m.session m.file (m.clocks.server + m.clocks.term)) m.session m.file) (c.0 + m.clocks.term) (replies_of m.ups) b m.cut
    guarded = rw (at_grant m.leases ordered m.session m.file (m.clocks.server + m.clocks.term)) (omega (arith, c.1.1), tt)

    safe : IsSafe m v (c.0 + m.clocks.term) b → IsSafe (record m { leases = grant m.leases m.session m.file (m.clocks.server + m.clocks.term) }) v (c.0 + m.clocks.term) b
    safe (inl spent) = inl spent
    safe (inr held) = inr (held.0, inr guarded)

kept_granted : (m : Machine) → IsKept m → IsKept (record m { leases = grant m.leases m.session m.file (m.clocks.server + m.clocks.term) })
kept_granted m k =
    let n : Machine = record m { leases = grant m.leases m.session m.file (m.clocks.server + m.clocks.term) } in
    record {
      ordered = grant_ordered m.leases k.ordered m.session m.file (m.clocks.server + m.clocks.term);
      note = note_map m n m.note _ _ refl refl (claims_granted m k.ordered (recalls_of m.downs)) k.note;
      answers = all_answers _ _ (λ v t ds. promise_map m n v t _ _ refl refl refl (claims_granted m k.ordered (recalls_of ds))) m.downs k.answers;
      sent = k.sent;
      numbered = k.numbered;
      single = k.single;
      opens = k.opens;
    }

-- an answer goes down where none is on its way, and its call is waited for
kept_answered : (m : Machine) (lost : Bool) (v t : ℕ) → pending m ≡ 0 → (m.cut ≡ false → m.sent ≡ None → ⊥) → IsPromise m v t [] → IsKept m → IsKept (record m { downs = cond lost m.downs (m.downs ++ Answered v t ∷ []) })
kept_answered m true v t none waited p k = k
kept_answered m false v t none waited p k =
    let same = recalls_answered m.downs v t in
    let count = answers-append m.downs (Answered v t ∷ []) in
    record {
      ordered = k.ordered;
      note = subst (IsNote m m.note) (sym same) k.note;
      answers = only_answer _ v t p m.downs (omega (arith, none));
      sent = k.sent;
      numbered = record { apart = subst AreApart (sym same) k.numbered.apart; below = subst (AllBelow m.next) (sym same) k.numbered.below; replies = k.numbered.replies };
      single = record { single = omega (arith, none, count); idle = λ c s. absurd (waited c s); alone = k.single.alone };
      opens = k.opens;
    }

kept_answers : (m : Machine) (grants : Bool) → pending m ≡ 0 → (m.cut ≡ false → m.sent ≡ None → ⊥) → IsKept m → IsKept (answers grants m)
kept_answers m false none waited k = kept_answered m (m.hung || m.cut) m.version 0 none waited (λ s e over. absurd (omega arith)) k
kept_answers m true none waited k =
    kept_answered (record m { leases = grant m.leases m.session m.file (m.clocks.server + m.clocks.term) }) (m.hung || m.cut) m.version m.clocks.term none waited promise (kept_granted m k)
  where
    promise : IsPromise (record m { leases = grant m.leases m.session m.file (m.clocks.server + m.clocks.term) }) m.version m.clocks.term []
    promise s e over =
        let b = k.sent s e in
        (refl, (b.0, b.1, inr (refl, inr (rw (at_grant m.leases k.ordered m.session m.file (m.clocks.server + m.clocks.term)) (omega (arith, b.1.1), tt)))))

-- a reply takes away only a lease that guards no claim
claims_given_up : (m : Machine) → AreOrdered m.leases → (x : ℕ) (us : List Up) (b : List ℕ) → Claims (record m { ups = Reply x ∷ us }) (record m { ups = us; leases = without_recalled m.leases m.session x }) b b
claims_given_up m ordered x us b v s c = (c.0, c.1, safe c.2)
  where
    stays : (l : Lease) (o : Option ℕ) → l.recall ≡ o → IsUnread o (x ∷ replies_of us) b m.cut → (not (remembers l m.session x) ≡ true) × IsUnread o (replies_of us) b m.cut
    stays l None e u = (by, tt)
      where
        by : not (remembers l m.session x) ≡ true
        by = rw e (none (l.session == m.session))
          where
            none : (c : Bool) → not (c && false) ≡ true
            none true = refl
            none false = refl
    stays l (Some y) e u = (rw e (differs (l.session == m.session) (y == x) refl), ((λ a. u.0 (inr a)), u.1))
      where
        differs : (c d : Bool) → (y == x) ≡ d → not (c && d) ≡ true
        differs c true f = absurd (u.0 (inl (grind (arith, nat_tests, f))))
        differs true false f = refl
        differs false false f = refl

    guarded : (o : Option Lease) → IsGuarded o (c.0 + m.clocks.term) (x ∷ replies_of us) b m.cut → IsGuarded (if_passes (λ l. not (remembers l m.session x)) o) (c.0 + m.clocks.term) (replies_of us) b m.cut
    guarded None g = absurd g
    guarded (Some l) g = let h = stays l l.recall refl g.1 in rw h.0 (g.0, h.1)

    safe : IsSafe (record m { ups = Reply x ∷ us }) v (c.0 + m.clocks.term) b → IsSafe (record m { ups = us; leases = without_recalled m.leases m.session x }) v (c.0 + m.clocks.term) b
    safe (inl spent) = inl spent
    safe (inr (is, inl quiet)) = inr (is, inl quiet)
    safe (inr (is, inr g)) = inr (is, inr (rw (at_recalled m.leases ordered m.session m.file x) (guarded (lease_at m.leases m.session m.file) g)))

kept_takes : (m : Machine) (grants : Bool) (us : List Up) → IsKept (record m { ups = us }) → IsKept (takes_one grants (record m { ups = us }) us)
kept_takes m grants [] k = k
kept_takes m grants (Ask ∷ us) k =
    kept_answers (record m { ups = us }) grants (omega (arith, k.single.single)) (λ c s. absurd (omega (arith, k.single.idle c s)))
    (record {
      ordered = k.ordered;
      note = k.note;
      answers = k.answers;
      sent = k.sent;
      numbered = k.numbered;
      single = record { single = omega (arith, k.single.single); idle = λ c s. omega (arith, k.single.single); alone = k.single.alone };
      opens = k.opens;
    })
kept_takes m grants (Commit ∷ us) k = record {
  ordered = k.ordered;
  note = k.note;
  answers = k.answers;
  sent = k.sent;
  numbered = k.numbered;
  single = record { single = waiting m.waits k.single.single; idle = λ c s. absurd (omega (arith, k.single.idle c s)); alone = alone_same m.note _ _ (moved m.waits k.single.single) k.single.alone };
  opens = k.opens;
}
  where
    waiting : (w : Bool) → 1 + calls us + one_if w + answers_in m.downs ≤ 1 → calls us + 1 + answers_in m.downs ≤ 1
    waiting true h = omega arith
    waiting false h = omega arith

    moved : (w : Bool) → 1 + calls us + one_if w + answers_in m.downs ≤ 1 → 1 + commits us + one_if w ≡ commits us + 1
    moved true h = omega arith
    moved false h = omega arith
kept_takes m grants (Reply x ∷ us) k =
    let n : Machine = record m { ups = us; leases = without_recalled m.leases m.session x } in
    let old : Machine = record m { ups = Reply x ∷ us } in
    record {
      ordered = recalled_ordered m.leases k.ordered m.session x;
      note = note_map old n m.note _ _ refl refl (claims_given_up m k.ordered x us (recalls_of m.downs)) k.note;
      answers = all_answers _ _ (λ v t ds. promise_map old n v t _ _ refl refl refl (claims_given_up m k.ordered x us (recalls_of ds))) m.downs k.answers;
      sent = k.sent;
      numbered = record { apart = k.numbered.apart; below = k.numbered.below; replies = k.numbered.replies.1 };
      single = record { single = k.single.single; idle = k.single.idle; alone = k.single.alone };
      opens = k.opens;
    }

kept_takes_unless : (m : Machine) (grants b : Bool) → m.hung ≡ b → IsKept m → IsKept (unless b m (takes_one grants m m.ups))
kept_takes_unless m grants true e k = k
kept_takes_unless m grants false e k = kept_takes m grants m.ups k

-- ---- a lease is recalled

abbrev remembering : Machine → Bool → Machine
remembering m lost = record m { leases = marked m.leases m.session m.file m.next; next = m.next + 1; downs = cond lost m.downs (m.downs ++ Recall m.next ∷ []) }

claims_recalled : (m : Machine) (lost : Bool) (l : Lease) → AreOrdered m.leases → lease_at m.leases m.session m.file ≡ Some l → l.recall ≡ None → AllBelow m.next (replies_of m.ups) → (b c : List ℕ) → Among m.next c ⊎ (m.cut ≡ true) → Claims m (remembering m lost) b c
claims_recalled m lost l ordered e none below b c there v s claim = (claim.0, claim.1, safe claim.2)
  where
    ends : (o : Option Lease) → o ≡ Some l → IsGuarded o (claim.0 + m.clocks.term) (replies_of m.ups) b m.cut → claim.0 + m.clocks.term ≤ l.ends
    ends None f g = absurd g
    ends (Some k) f g = subst (λ (h : Lease). claim.0 + m.clocks.term ≤ h.ends) (some_is k l f) g.0

    safe : IsSafe m v (claim.0 + m.clocks.term) b → IsSafe (remembering m lost) v (claim.0 + m.clocks.term) c
    safe (inl spent) = inl spent
    safe (inr (is, inl quiet)) = inr (is, inl quiet)
    safe (inr (is, inr g)) =
        inr (is, inr (rw (at_mark m.leases ordered m.session m.file m.next l e) (ends (lease_at m.leases m.session m.file) e g, ((λ a. omega (arith, not_below m.next m.next (replies_of m.ups) below a)), there))))

kept_remembers : (m : Machine) (lost : Bool) (l : Lease) → lease_at m.leases m.session m.file ≡ Some l → l.recall ≡ None → (lost ≡ true → m.cut ≡ true) → IsKept m → IsKept (remembering m lost)
kept_remembers m true l e none gone k = record {
  ordered = marked_ordered m.leases k.ordered m.session m.file m.next;
  note = note_map m (remembering m true) m.note _ _ refl refl (claims_recalled m true l k.ordered e none k.numbered.replies (recalls_of m.downs) (recalls_of m.downs) (inr (gone refl))) k.note;
  answers = all_answers _ _ (λ v t ds. promise_map m (remembering m true) v t _ _ refl refl refl (claims_recalled m true l k.ordered e none k.numbered.replies (recalls_of ds) (recalls_of ds) (inr (gone refl)))) m.downs k.answers;
  sent = k.sent;
  numbered = record { apart = k.numbered.apart; below = below_more m.next _ k.numbered.below; replies = below_more m.next _ k.numbered.replies };
  single = k.single;
  opens = k.opens;
}
kept_remembers m false l e none gone k =
    let same = recalls-append m.downs (Recall m.next ∷ []) in
    let count = answers-append m.downs (Recall m.next ∷ []) in
    record {
      ordered = marked_ordered m.leases k.ordered m.session m.file m.next;
      note = note_map m (remembering m false) m.note _ _ refl refl (claims_recalled m false l k.ordered e none k.numbered.replies (recalls_of m.downs) (recalls_of (m.downs ++ Recall m.next ∷ [])) (inl (subst (Among m.next) (sym same) (among_last m.next (recalls_of m.downs))))) k.note;
      answers = answers_recalled _ _ m.next
          (λ v t ds. promise_map m (remembering m false) v t _ _ refl refl refl
          (claims_recalled m false l k.ordered e none k.numbered.replies (recalls_of ds) (recalls_of (ds ++ Recall m.next ∷ [])) (inl (subst (Among m.next) (sym (recalls-append ds (Recall m.next ∷ []))) (among_last m.next (recalls_of ds)))))) m.downs k.answers;
      sent = k.sent;
      numbered = record {
        apart = subst AreApart (sym same) (apart_last m.next (recalls_of m.downs) k.numbered.below k.numbered.apart);
        below = subst (AllBelow (m.next + 1)) (sym same) (below_last (m.next + 1) m.next (recalls_of m.downs) (below_more m.next _ k.numbered.below) (omega arith));
        replies = below_more m.next _ k.numbered.replies;
      };
      single = record { single = omega (arith, k.single.single, count); idle = λ c s. omega (arith, k.single.idle c s, count); alone = k.single.alone };
      opens = k.opens;
    }

gone_of : (hung cut : Bool) → hung ≡ false → (hung || cut) ≡ true → cut ≡ true
gone_of false cut h e = e
gone_of true cut h e = absurd (true≢false h)

kept_recalls_if : (m : Machine) (by : ℕ) (o : Option Lease) (b : Bool) → lease_at m.leases m.session m.file ≡ o → (not m.hung && is_wanted o by m.file m.clocks.server) ≡ b → IsKept m → IsKept (recalls_if b m)
kept_recalls_if m by o false e f k = k
kept_recalls_if m by None true e f k = absurd (true≢false (sym f ∙ never (not m.hung)))
  where
    never : (c : Bool) → (c && false) ≡ false
    never true = refl
    never false = refl
kept_recalls_if m by (Some l) true e f k = kept_remembers m (m.hung || m.cut) l e (not_recalled l.recall refl) (gone_of m.hung m.cut there) k
  where
    there : m.hung ≡ false
    there = go m.hung f
      where
        go : (c : Bool) → (not c && is_wanted_back l by m.file m.clocks.server) ≡ true → c ≡ false
        go false f = refl
        go true f = absurd (true≢false (sym f))

    not_recalled : (r : Option ℕ) → l.recall ≡ r → l.recall ≡ None
    not_recalled None g = g
    not_recalled (Some x) g = absurd (true≢false (sym f ∙ ap (λ r. not m.hung && (blocks l by m.file m.clocks.server && is_none r)) g ∙ never (not m.hung) (blocks l by m.file m.clocks.server)))
      where
        never : (c d : Bool) → (c && (d && false)) ≡ false
        never true true = refl
        never true false = refl
        never false d = refl

-- ---- changes

claims_changed : (m : Machine) (by : ℕ) → (by == m.session) ≡ false → is_blocked m.leases by m.file m.clocks.server ≡ false → nat_lt m.clocks.server m.quiet ≡ false → (b : List ℕ) → Claims m (changes m) b b
claims_changed m by other free loud b v s c = (c.0, c.1, inl (spent c.2))
  where
    over : (o : Option Lease) → lease_at m.leases m.session m.file ≡ o → IsGuarded o (c.0 + m.clocks.term) (replies_of m.ups) b m.cut → c.0 + m.clocks.term ≤ m.clocks.server
    over None e g = absurd g
    over (Some l) e g = omega (arith, g.0, not_blocking m.leases by m.session m.file m.clocks.server other free l e)

    spent : IsSafe m v (c.0 + m.clocks.term) b → c.0 + m.clocks.term ≤ m.clocks.server
    spent (inl h) = h
    spent (inr (is, inl quiet)) = let now : m.quiet ≤ m.clocks.server = grind (arith, nat_tests, loud) in omega (arith, quiet, now)
    spent (inr (is, inr g)) = over (lease_at m.leases m.session m.file) refl g

kept_changes : (m : Machine) (by : ℕ) (b : Bool) → (by == m.session || (is_blocked m.leases by m.file m.clocks.server || nat_lt m.clocks.server m.quiet)) ≡ b → IsKept m → IsKept (unless b m (changes m))
kept_changes m by true e k = k
kept_changes m by false e k =
    let rest = second (by == m.session) _ e in
    let to = claims_changed m by (first (by == m.session) _ e) (first (is_blocked m.leases by m.file m.clocks.server) _ rest) (second (is_blocked m.leases by m.file m.clocks.server) _ rest) in
    record {
      ordered = k.ordered;
      note = note_map m (changes m) m.note _ _ refl refl (to (recalls_of m.downs)) k.note;
      answers = all_answers _ _ (λ v t ds. promise_map m (changes m) v t _ _ refl refl refl (to (recalls_of ds))) m.downs k.answers;
      sent = k.sent;
      numbered = k.numbered;
      single = k.single;
      opens = k.opens;
    }

-- beside one's own COMMITTMP there is no note, and no answer is on its way
note_alone : (m n : Machine) (o : Option Note) (a : ℕ) (b : List ℕ) → IsAlone o (a + 1) → IsNote m o b → IsNote n o b
note_alone m n None a b alone h = tt
note_alone m n (Some q) a b alone h = absurd (omega (arith, alone))

kept_settles : (m : Machine) (grants b : Bool) → (m.waits && not (nat_lt m.clocks.server m.quiet)) ≡ b → IsKept m → IsKept (settles_if b grants m)
kept_settles m grants false e k = k
kept_settles m grants true e k =
    kept_answers n grants (omega (arith, one)) (λ c s. absurd (omega (arith, k.single.idle c s, one_is)))
    (record {
      ordered = k.ordered;
      note = note_alone m n m.note (commits m.ups) (recalls_of m.downs) (subst (λ w. IsAlone m.note (commits m.ups + one_if w)) waits k.single.alone) k.note;
      answers = none_answered _ m.downs (omega (arith, one));
      sent = k.sent;
      numbered = k.numbered;
      single = record { single = omega (arith, one); idle = λ c s. omega (arith, one); alone = alone_zero m.note _ (omega (arith, one, commits_are_calls m.ups)) };
      opens = k.opens;
    })
  where
    n : Machine
    n = record m { waits = false; version = m.version + 1 }

    waits : m.waits ≡ true
    waits = go m.waits e
      where
        go : (c : Bool) → (c && not (nat_lt m.clocks.server m.quiet)) ≡ true → c ≡ true
        go true f = refl
        go false f = absurd (true≢false (sym f))

    one_is : one_if m.waits ≡ 1
    one_is = ap one_if waits

    one : calls m.ups + 1 + answers_in m.downs ≤ 1
    one = omega (arith, k.single.single, one_is)

kept_refuses : (m : Machine) (b : Bool) → m.waits ≡ b → IsKept m → IsKept (refuses_if b m)
kept_refuses m false e k = k
kept_refuses m true e k =
    kept_answers n false (omega (arith, one)) (λ c s. absurd (omega (arith, k.single.idle c s, one_is)))
    (record {
      ordered = k.ordered;
      note = note_alone m n m.note (commits m.ups) (recalls_of m.downs) (subst (λ w. IsAlone m.note (commits m.ups + one_if w)) e k.single.alone) k.note;
      answers = none_answered _ m.downs (omega (arith, one));
      sent = k.sent;
      numbered = k.numbered;
      single = record { single = omega (arith, one); idle = λ c s. omega (arith, one); alone = alone_zero m.note _ (omega (arith, one, commits_are_calls m.ups)) };
      opens = k.opens;
    })
  where
    n : Machine
    n = record m { waits = false }

    one_is : one_if m.waits ≡ 1
    one_is = ap one_if e

    one : calls m.ups + 1 + answers_in m.downs ≤ 1
    one = omega (arith, k.single.single, one_is)

-- ---- the connection is lost

abbrev cut_off : Machine → Machine
cut_off m = record m { cut = true; downs = []; sent = None }

claims_cut : (m : Machine) (b : List ℕ) → Claims m (cut_off m) b []
claims_cut m b v s c = (c.0, c.1, safe c.2)
  where
    unread : (o : Option ℕ) → IsUnread o (replies_of m.ups) b m.cut → IsUnread o (replies_of m.ups) [] true
    unread None u = tt
    unread (Some x) u = (u.0, inr refl)

    guarded : (o : Option Lease) → IsGuarded o (c.0 + m.clocks.term) (replies_of m.ups) b m.cut → IsGuarded o (c.0 + m.clocks.term) (replies_of m.ups) [] true
    guarded None g = absurd g
    guarded (Some l) g = (g.0, unread l.recall g.1)

    safe : IsSafe m v (c.0 + m.clocks.term) b → IsSafe (cut_off m) v (c.0 + m.clocks.term) []
    safe (inl spent) = inl spent
    safe (inr (is, inl quiet)) = inr (is, inl quiet)
    safe (inr (is, inr g)) = inr (is, inr (guarded (lease_at m.leases m.session m.file) g))

kept_cut : (m : Machine) → IsKept m → IsKept (cut_off m)
kept_cut m k = record {
  ordered = k.ordered;
  note = note_map m (cut_off m) m.note _ _ refl refl (claims_cut m (recalls_of m.downs)) k.note;
  answers = tt;
  sent = λ s e. absurd cc;
  numbered = record { apart = tt; below = tt; replies = k.numbered.replies };
  single = record { single = omega (arith, k.single.single); idle = λ c s. absurd cc; alone = k.single.alone };
  opens = k.opens;
}

abbrev hung_up : Machine → Machine
hung_up m = record m { hung = true; ups = []; waits = false }

claims_hung : (m : Machine) (b : List ℕ) → Claims m (hung_up m) b b
claims_hung m b v s c = (c.0, c.1, safe c.2)
  where
    unread : (o : Option ℕ) → IsUnread o (replies_of m.ups) b m.cut → IsUnread o [] b m.cut
    unread None u = tt
    unread (Some x) u = ((λ a. a), u.1)

    guarded : (o : Option Lease) → IsGuarded o (c.0 + m.clocks.term) (replies_of m.ups) b m.cut → IsGuarded o (c.0 + m.clocks.term) [] b m.cut
    guarded None g = absurd g
    guarded (Some l) g = (g.0, unread l.recall g.1)

    safe : IsSafe m v (c.0 + m.clocks.term) b → IsSafe (hung_up m) v (c.0 + m.clocks.term) b
    safe (inl spent) = inl spent
    safe (inr (is, inl quiet)) = inr (is, inl quiet)
    safe (inr (is, inr g)) = inr (is, inr (guarded (lease_at m.leases m.session m.file) g))

kept_hung : (m : Machine) → IsKept m → IsKept (hung_up m)
kept_hung m k = record {
  ordered = k.ordered;
  note = note_map m (hung_up m) m.note _ _ refl refl (claims_hung m (recalls_of m.downs)) k.note;
  answers = all_answers _ _ (λ v t ds. promise_map m (hung_up m) v t _ _ refl refl refl (claims_hung m (recalls_of ds))) m.downs k.answers;
  sent = k.sent;
  numbered = record { apart = k.numbered.apart; below = k.numbered.below; replies = tt };
  single = record { single = omega (arith, k.single.single); idle = λ c s. omega (arith, k.single.idle c s); alone = alone_zero m.note _ (omega arith) };
  opens = k.opens;
}

-- ---- the server begins again

abbrev restarted : Machine → ℕ → Machine
restarted m grace = record m { hung = true; ups = []; waits = false; leases = []; quiet = (m.clocks.server + m.clocks.term) + grace }

claims_restarted : (m : Machine) (grace : ℕ) (b : List ℕ) → Claims m (restarted m grace) b b
claims_restarted m grace b v s c = (c.0, c.1, safe c.2)
  where
    safe : IsSafe m v (c.0 + m.clocks.term) b → IsSafe (restarted m grace) v (c.0 + m.clocks.term) b
    safe (inl spent) = inl spent
    safe (inr held) = inr (held.0, inl (omega (arith, c.1.1)))

kept_restarted : (m : Machine) (grace : ℕ) → IsKept m → IsKept (restarted m grace)
kept_restarted m grace k = record {
  ordered = λ i j d before last. absurd (omega arith);
  note = note_map m (restarted m grace) m.note _ _ refl refl (claims_restarted m grace (recalls_of m.downs)) k.note;
  answers = all_answers _ _ (λ v t ds. promise_map m (restarted m grace) v t (recalls_of ds) (recalls_of ds) refl refl refl (claims_restarted m grace (recalls_of ds))) m.downs k.answers;
  sent = k.sent;
  numbered = record { apart = k.numbered.apart; below = k.numbered.below; replies = tt };
  single = record { single = omega (arith, k.single.single); idle = λ c s. omega (arith, k.single.idle c s); alone = alone_zero m.note _ (omega arith) };
  opens = k.opens;
}

-- ---- any event

pub kept_happens : (m : Machine) (e : Event) → IsTimed m e → IsKept m → IsKept (happens m e)
kept_happens m (Open seen) keeps k = kept_opens m seen keeps k m.note refl
kept_happens m (Fetch seen) keeps k = kept_asks m seen (is_free m) refl (known_now m seen keeps) k
kept_happens m (Store seen) keeps k = kept_stores m seen (is_free m) refl (known_now m seen keeps) k
kept_happens m (Read seen) keeps k = kept_reads_unless m m.cut refl k
kept_happens m (Take at grants) keeps k = kept_takes_unless m grants m.hung refl k
kept_happens m (Arrive by at) keeps k = kept_recalls_if m by (lease_at m.leases m.session m.file) (not m.hung && is_wanted (lease_at m.leases m.session m.file) by m.file m.clocks.server) refl refl k
kept_happens m (Change by at) keeps k = kept_changes m by (by == m.session || (is_blocked m.leases by m.file m.clocks.server || nat_lt m.clocks.server m.quiet)) refl k
kept_happens m (Settle at grants) keeps k = kept_settles m grants (m.waits && not (nat_lt m.clocks.server m.quiet)) refl k
kept_happens m (Refuse at) keeps k = kept_refuses m m.waits refl k
kept_happens m Drop keeps k = record {
  ordered = k.ordered;
  note = tt;
  answers = k.answers;
  sent = k.sent;
  numbered = k.numbered;
  single = record { single = k.single.single; idle = k.single.idle; alone = tt };
  opens = k.opens;
}
kept_happens m (Cut seen) keeps k = kept_cut m k
kept_happens m (Hang at) keeps k = kept_hung m k
kept_happens m (Restart at grace) keeps k = kept_restarted m grace k

pub kept_new : (m : Machine) → IsNew m → IsKept m
kept_new m n = record {
  ordered = n.ordered;
  note = subst (λ (o : Option Note). IsNote m o (recalls_of m.downs)) (sym n.note) tt;
  answers = subst (λ (ds : List Down). AllAnswers (λ version term es. IsPromise m version term (recalls_of es)) ds) (sym n.downs) tt;
  sent = λ s e. absurd (nothing s (sym n.sent ∙ e));
  numbered = subst (λ (ds : List Down). AreNumbered m.next (recalls_of ds) (replies_of m.ups)) (sym n.downs) (subst (λ (us : List Up). AreNumbered m.next [] (replies_of us)) (sym n.ups) (record { apart = tt; below = tt; replies = tt }));
  single = rw (n.ups, n.downs, n.waits, n.note) (record { single = omega arith; idle = λ c s. refl; alone = tt });
  opens = subst AllRight (sym n.opens) tt;
}
  where
    nothing : (s : ℕ) → None ≡ Some s → ⊥
    nothing s e = absurd cc

pub kept_start : (client session file term drift : ℕ) → IsKept (start client session file term drift)
kept_start client session file term drift = kept_new (start client session file term drift) (record { ordered = λ i j d less last. absurd (omega arith); ups = refl; downs = refl; waits = refl; sent = refl; note = refl; opens = refl })
