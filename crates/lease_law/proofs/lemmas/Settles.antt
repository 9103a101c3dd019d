-- A change that waited is made: what is claimed of its file is over by then, and all else goes on.
use Rattle.std.proofs.Common.{◌≡◌, ◌⊎◌, inl, inr, ℕ, zero, suc, ◌+◌, ◌<◌, ◌≤◌, List, [], ◌∷◌, ◌++◌, Option, Some, None, Bool, true, false, refl, sym, ap, ◌∙◌, subst, arith}
use Rattle.std.specs.Prelude.{◌==◌, ◌&&◌, ◌||◌, not, cond, filter, find, nat_le, max, if◌then◌else◌}
use Rattle.std.specs.List.{list_any, AllByRecursion}
use Rattle.std.proofs.lemmas.Bool.Decides.{nat_tests}
use Rattle.xdr_codec.specs.declared.answer.Answer.{Answer}
use Rattle.xdr_codec.specs.declared.answer.Answer.TheVariants.{Done, Failed}
use Rattle.hash_calls.specs.declared.call.Committed.{Committed}
use Rattle.hash_calls.specs.declared.message.Lb.TheVariants as lb
use Rattle.wire.specs.declared.message.Body.{Body}
use Rattle.wire.specs.declared.message.Body.TheVariants as body
use Rattle.wire.specs.declared.message.Message.{Message}
use Rattle.wire.specs.declared.message.Message.TheVariants as message
use Rattle.lease_rules.specs.declared.lease.Lease.{Lease}
use Rattle.lease_rules.specs.declared.change.Kind.TheVariants as kind
use Rattle.lease_rules.specs.Changes.{asker, is_about, meets}
use Rattle.lease_table.specs.Leases.{is_blocked, lease_at}
use Rattle.lease_table.specs.Order.{AreOrdered}
use Rattle.lease_table.proofs.lemmas.Held.{not_blocking}
use Rattle.lease_table.proofs.lemmas.Lists.{some_is}
use Rattle.callback_core.specs.Waits.{is_free, heads_after, heads, ready, without}
use Rattle.tree_reading.specs.Tree.{Tree}
use Rattle.tree_calls.specs.declared.asked.Committing.{Committing}
use Rattle.tree_calls.specs.declared.asked.Done.{Done as Outcome}
use Rattle.tree_calls.specs.Waiting.{committed, gives_content_under, settles_under as tree_settles_under, file_of}
use Rattle.server_core.specs.declared.change.Wanted.{Wanted}
use Rattle.server_core.specs.declared.change.Wanted.TheVariants as wanted
use Rattle.server_core.specs.declared.event.ServerStep.{ServerStep}
use Rattle.server_core.specs.Closing.{at, leases_done, grants_done, committed_by, settled_by, makes_change_under, settles_by, ready_by, settles_under, told_change, entries_by, index_with, count_of}
use Rattle.server_core.specs.Leasing.{Leasing, later, with_granted, ready_at}
use Rattle.server_core.specs.Recalling.{term_at}
use Rattle.server_core.specs.State.{State, FileChange, held}
use Rattle.server_law.specs.Facts.{IsGiven}
use Rattle.server_law.proofs.lemmas.TreeCalls.{settles_keep_under, commits_keep_under}
use Rattle.lease_law.specs.Claims.{Claim, Way, version_at, limit_of, is_own, IsAlone, IsGuarded, IsSafe}
use Rattle.lease_law.specs.Orderly.{IsOfFile, IsFit, IsOrderly, AreNumbered, sent_on, behind_with}
use Rattle.lease_law.proofs.KeptFiles.{OthersStay, settles_stay, commits_stay, version_stays}
use Rattle.lease_law.proofs.lemmas.LeasesAt.{with_granted_ordered, guarded_granted, guarded_more}
use Rattle.lease_law.proofs.lemmas.Claiming.{SafeIn, safe_map, guarded_alone, Keeps, behind_none, answered_numbered}

-- ---- the change that is made

any_first : (a b : Bool) → (a || b) ≡ false → a ≡ false
any_first true b h = absurd cc
any_first false b h = refl

any_second : (a b : Bool) → (a || b) ≡ false → b ≡ false
any_second true b h = absurd cc
any_second false b h = h

any_join : (a b : Bool) → a ≡ false → b ≡ false → (a || b) ≡ false
any_join true b h k = h
any_join false b h k = k

module _ {X : Type 0} where
  -- what is found has it
  found_has : (p : X → Bool) (xs : List X) (x : X) → find p xs ≡ Some x → p x ≡ true
  found_has p [] x e = absurd cc
  found_has p (y ∷ ys) x e = by (p y) refl e (found_has p ys x)
    where
      by : (b : Bool) → p y ≡ b → cond b (Some y) (find p ys) ≡ Some x → (find p ys ≡ Some x → p x ≡ true) → p x ≡ true
      by true h e later = subst (λ (z : X). p z ≡ true) (some_is y x e) h
      by false h e later = later e

  -- and what none has isn't found
  none_has : (q p : X → Bool) (xs : List X) (x : X) → list_any q xs ≡ false → find p xs ≡ Some x → q x ≡ false
  none_has q p [] x none e = absurd cc
  none_has q p (y ∷ ys) x none e = by (p y) e (none_has q p ys x (any_second (q y) (list_any q ys) none))
    where
      by : (b : Bool) → cond b (Some y) (find p ys) ≡ Some x → (find p ys ≡ Some x → q x ≡ false) → q x ≡ false
      by true e later = subst (λ (z : X). q z ≡ false) (some_is y x e) (any_first (q y) (list_any q ys) none)
      by false e later = later e

  -- nor once some are left out
  pub none_left : (q keep : X → Bool) (xs : List X) → list_any q xs ≡ false → list_any q (filter keep xs) ≡ false
  none_left q keep [] none = refl
  none_left q keep (y ∷ ys) none = by (keep y) (none_left q keep ys (any_second (q y) (list_any q ys) none))
    where
      by : (b : Bool) → list_any q (filter keep ys) ≡ false → list_any q (cond b (y ∷ filter keep ys) (filter keep ys)) ≡ false
      by true later = any_join (q y) (list_any q (filter keep ys)) (any_first (q y) (list_any q ys) none) later
      by false later = later

  pub all_left : (P : X → Type 0) (keep : X → Bool) (xs : List X) → AllByRecursion P xs → AllByRecursion P (filter keep xs)
  all_left P keep [] h = tt
  all_left P keep (y ∷ ys) h = by (keep y) (all_left P keep ys h.1)
    where
      by : (b : Bool) → AllByRecursion P (filter keep ys) → AllByRecursion P (cond b (y ∷ filter keep ys) (filter keep ys))
      by true later = (h.0, later)
      by false later = later

  -- what all have is had by what is found
  all_found : (P : X → Type 0) (p : X → Bool) (xs : List X) (x : X) → AllByRecursion P xs → find p xs ≡ Some x → P x
  all_found P p [] x h e = absurd cc
  all_found P p (y ∷ ys) x h e = by (p y) e (all_found P p ys x h.1)
    where
      by : (b : Bool) → cond b (Some y) (find p ys) ≡ Some x → (find p ys ≡ Some x → P x) → P x
      by true e later = subst P (some_is y x e) h.0
      by false e later = later e

-- the heads are among those that wait
none_heads : (q : FileChange → Bool) (earlier ws : List FileChange) → list_any q ws ≡ false → list_any q (heads_after earlier ws) ≡ false
none_heads q earlier [] none = refl
none_heads q earlier (w ∷ ws) none = by (list_any (λ e. meets e w) earlier) (none_heads q (earlier ++ w ∷ []) ws (any_second (q w) (list_any q ws) none))
  where
    by : (b : Bool) → list_any q (heads_after (earlier ++ w ∷ []) ws) ≡ false → list_any q (cond b (heads_after (earlier ++ w ∷ []) ws) (w ∷ heads_after (earlier ++ w ∷ []) ws)) ≡ false
    by true later = later
    by false later = any_join (q w) (list_any q (heads_after (earlier ++ w ∷ []) ws)) (any_first (q w) (list_any q ws) none) later

all_heads : (P : FileChange → Type 0) (earlier ws : List FileChange) → AllByRecursion P ws → AllByRecursion P (heads_after earlier ws)
all_heads P earlier [] h = tt
all_heads P earlier (w ∷ ws) h = by (list_any (λ e. meets e w) earlier) (all_heads P (earlier ++ w ∷ []) ws h.1)
  where
    by : (b : Bool) → AllByRecursion P (heads_after (earlier ++ w ∷ []) ws) → AllByRecursion P (cond b (heads_after (earlier ++ w ∷ []) ws) (w ∷ heads_after (earlier ++ w ∷ []) ws))
    by true later = later
    by false later = (h.0, later)

-- what is known of it: it is fit, no lease blocks it, the quiet is over, and it is no session's own that has none waiting
pub record IsReadyChange (g : Leasing) (moment : ℕ) (ws : List FileChange) (d : FileChange) : Type 0 where
  pub fit : IsFit d
  pub free : is_blocked g.leases (asker d) d.file moment ≡ false
  pub loud : g.quiet ≤ moment
  pub own : (session file : ℕ) → IsAlone ws session file → is_own session file d ≡ false

ready_change : (g : Leasing) (moment : ℕ) (ws : List FileChange) (d : FileChange) → AllByRecursion IsFit ws → ready_at g moment ws ≡ Some d → IsReadyChange g moment ws d
ready_change g moment ws d fits e = by (nat_le g.quiet moment) refl e
  where
    no : (b : Bool) → not b ≡ true → b ≡ false
    no true h = absurd cc
    no false h = refl

    by : (b : Bool) → nat_le g.quiet moment ≡ b → (if b then ready g.leases moment ws else None) ≡ Some d → IsReadyChange g moment ws d
    by true q e = record {
      fit = all_found IsFit (is_free g.leases moment) (heads ws) d (all_heads IsFit [] ws fits) e;
      free = no (is_blocked g.leases (asker d) d.file moment) (found_has (is_free g.leases moment) (heads ws) d e);
      loud = grind (arith, nat_tests, q);
      own = λ session file alone. none_has (is_own session file) (is_free g.leases moment) (heads ws) d (none_heads (is_own session file) [] ws alone) e;
    }
    by false q e = absurd cc

-- ---- what it leaves

module _ (clock : ℕ) (c : Claim) (way : Way) (behind downs : List Message) where
  -- a claim on the change's file is spent
  spent_by : (s : State) (moment : ℕ) (d : FileChange) → moment ≤ clock → IsReadyChange s.leasing moment s.waiting d → c.file ≡ d.file → 0 < c.session → IsSafe s clock c way behind → limit_of s.leasing c ≤ clock
  spent_by s moment d le r file some (inl spent) = spent
  spent_by s moment d le r file some (inr (v, inl quiet)) = let q = r.loud in omega (arith, quiet, q, le)
  spent_by s moment d le r file some (inr (v, inr g)) =
      let other : (asker d == c.session) ≡ false = not_own (asker d == c.session) (is_about d c.file) (grind (arith, nat_tests, file)) (r.own c.session c.file g.alone) in
      let over = not_blocking s.leasing.leases (asker d) c.session d.file moment other r.free g.lease (ap (lease_at s.leasing.leases c.session) (sym file) ∙ g.there) in
      let lasts = g.lasts in
      omega (arith, over, lasts, le)
    where
      not_own : (a b : Bool) → b ≡ true → (a && b) ≡ false → a ≡ false
      not_own true true h k = absurd cc
      not_own true false h k = absurd cc
      not_own false b h k = refl

  -- and any other stays, where the tree keeps its file
  others_keep : (s : State) (h : Leasing) (u : Tree) (vs : List FileChange) (d : FileChange) (more : List Message) → h.term ≡ s.leasing.term → h.quiet ≡ s.leasing.quiet → OthersStay s.tree d.file u → (c.file ≡ d.file → limit_of s.leasing c ≤ clock)
      → ((c.file ≡ d.file → ⊥) → IsGuarded s.leasing.leases s.waiting c.session c.file (limit_of s.leasing c) way behind → (limit_of s.leasing c ≤ clock) ⊎ IsGuarded h.leases vs c.session c.file (limit_of s.leasing c) way more) → IsSafe s clock c way behind → SafeIn h u vs clock c way more
  others_keep s h u vs d more term quiet stays over guard q = by (c.file == d.file) refl
    where
      differ : (c.file == d.file) ≡ false → c.file ≡ d.file → ⊥
      differ e same = let is : (c.file == d.file) ≡ true = grind (arith, nat_tests, same) in no (sym is ∙ e)
        where
          no : true ≡ false → ⊥
          no e = absurd cc

      by : (b : Bool) → (c.file == d.file) ≡ b → SafeIn h u vs clock c way more
      by true e = let spent = over (grind (arith, nat_tests, e)) in inl (omega (arith, spent, term))
      by false e = safe_map s.leasing h s.tree u s.waiting vs clock clock c way way behind more term quiet (omega arith) (version_stays s.tree u c.file c.version (stays c.file (differ e))) (guard (differ e)) q

-- ---- what it is made into

pub max_least : (a b k : ℕ) → a ≤ k → b ≤ k → max a b ≤ k
max_least a b k p q = omega (arith, p, q)

module _ (clock : ℕ) (c : Claim) (way : Way) (behind downs : List Message) (some : 0 < c.session) where
  module _ (s : State) (o : IsOrderly s clock) (now : ℕ) (le : now ≤ clock) (fault : Bool) (d : FileChange) (r : IsReadyChange s.leasing (later s.leasing now).moment s.waiting d) where
    abbrev rest : State
    rest = at (record s { waiting = without s.waiting d.session }) now

    moment_by : (later s.leasing now).moment ≤ clock
    moment_by = max_least s.leasing.moment now clock o.early le

    over : IsSafe s clock c way behind → c.file ≡ d.file → limit_of s.leasing c ≤ clock
    over q file = spent_by clock c way behind downs s (later s.leasing now).moment d moment_by r file some q

    left : (leases : List Lease) (ms : List Message) → IsGuarded leases s.waiting c.session c.file (limit_of s.leasing c) way behind → IsGuarded leases (without s.waiting d.session) c.session c.file (limit_of s.leasing c) way (behind_with way behind ms)
    left leases ms g = guarded_more (without s.waiting d.session) c.session c.file (limit_of s.leasing c) way behind leases ms
        (guarded_alone leases s.waiting (without s.waiting d.session) c.session c.file (limit_of s.leasing c) way behind (none_left (is_own c.session c.file) (λ e. not (e.session == d.session)) s.waiting g.alone) g)

    abbrev answer_of : ServerStep → List Message
    answer_of p = behind_with way behind (sent_on c.session p.send)

    fits : AllByRecursion IsFit (without s.waiting d.session)
    fits = all_left IsFit (λ e. not (e.session == d.session)) s.waiting o.changes

    -- a COMMITTMP, by what the tree makes of it
    committed_keeps : (content : List ℕ) (p : Tree × Committing) → IsGiven p.0 → OthersStay s.tree d.file p.0 → Keeps s clock c way behind downs (committed_by rest d content p)
    committed_keeps content p given stays = record {
      orderly = record { early = moment_by; ordered = ordered p.1.answer; changes = fits; given = given };
      safe = λ q. others_keep clock c way behind downs s (committed_by rest d content p).0.leasing p.0 (without s.waiting d.session) d (answer_of (committed_by rest d content p).1) refl refl stays (over q) (λ apart g. guard apart p.1.answer g) q;
      numbered = λ q. answered_numbered s (committed_by rest d content p).0 c.session d.session way downs (message.Answer d.xid (body.Lb (lb.CommitTmpAnswer p.1.answer))) refl refl refl q;
    }
      where
        ordered : (a : Answer Committed Unit) → AreOrdered (leases_done s.leasing.leases (later s.leasing now).moment d.session d.file a)
        ordered (Done a) = with_granted_ordered s.leasing.leases (later s.leasing now).moment d.session d.file a.term o.ordered
        ordered (Failed e u) = o.ordered

        guard : (c.file ≡ d.file → ⊥) → (a : Answer Committed Unit) → IsGuarded s.leasing.leases s.waiting c.session c.file (limit_of s.leasing c) way behind
            → (limit_of s.leasing c ≤ clock) ⊎ IsGuarded (leases_done s.leasing.leases (later s.leasing now).moment d.session d.file a) (without s.waiting d.session) c.session c.file (limit_of s.leasing c) way (answer_of (committed_by rest d content p).1)
        guard apart (Failed e u) g = inr (left s.leasing.leases (sent_on c.session (committed_by rest d content p).1.send) g)
        guard apart (Done a) g =
            by (guarded_granted s.waiting c.session c.file (limit_of s.leasing c) way behind s.leasing.leases (later s.leasing now).moment d.session d.file a.term o.ordered (λ t mine file. absurd (apart (sym file))) g)
          where
            by : (limit_of s.leasing c ≤ (later s.leasing now).moment) ⊎ IsGuarded (with_granted s.leasing.leases (later s.leasing now).moment d.session d.file a.term) s.waiting c.session c.file (limit_of s.leasing c) way behind
                → (limit_of s.leasing c ≤ clock) ⊎ IsGuarded (with_granted s.leasing.leases (later s.leasing now).moment d.session d.file a.term) (without s.waiting d.session) c.session c.file (limit_of s.leasing c) way (answer_of (committed_by rest d content p).1)
            by (inl spent) = let m = moment_by in inl (omega (arith, spent, m))
            by (inr h) = inr (left (with_granted s.leasing.leases (later s.leasing now).moment d.session d.file a.term) (sent_on c.session (committed_by rest d content p).1.send) h)

    -- a REMOVE or RENAME
    settled_keeps : (p : Tree × Outcome) → IsGiven p.0 → OthersStay s.tree d.file p.0 → Keeps s clock c way behind downs (settled_by rest d p)
    settled_keeps p given stays = record {
      orderly = record { early = moment_by; ordered = o.ordered; changes = fits; given = given };
      safe = λ q. others_keep clock c way behind downs s (settled_by rest d p).0.leasing p.0 (without s.waiting d.session) d (answer_of (settled_by rest d p).1) refl refl stays (over q) (λ apart g. inr (left s.leasing.leases (sent_on c.session (settled_by rest d p).1.send) g)) q;
      numbered = λ q. answered_numbered s (settled_by rest d p).0 c.session d.session way downs (message.Answer d.xid (body.Nfs p.1.answer)) refl refl refl q;
    }

    made_keeps : (w : Wanted) → d.what ≡ w → Keeps s clock c way behind downs (makes_change_under rest fault d w)
    made_keeps (wanted.Content content) is =
        committed_keeps content (gives_content_under s.tree (held (without s.waiting d.session)) fault d.file content (term_at rest d.file))
        (commits_keep_under s.tree (held (without s.waiting d.session)) fault d.file content (term_at rest d.file) o.given).0
        (commits_stay s.tree (held (without s.waiting d.session)) fault o.given d.file content (term_at rest d.file))
    made_keeps (wanted.Asked a) is =
        settled_keeps (tree_settles_under s.tree (held (without s.waiting d.session)) fault a)
        (settles_keep_under s.tree (held (without s.waiting d.session)) fault a o.given).0
        (subst (λ (f : ℕ). OthersStay s.tree f (tree_settles_under s.tree (held (without s.waiting d.session)) fault a).0) (sym (subst (IsOfFile d.file) is r.fit.file)) (settles_stay s.tree (held (without s.waiting d.session)) fault o.given a))

  -- ---- any Settle

  pub settle_keeps : (s : State) → IsOrderly s clock → (now : ℕ) → now ≤ clock → (fault : Bool) → Keeps s clock c way behind downs (settles_under s fault now)
  settle_keeps s o now le fault = by (ready_by s now) refl
    where
      by : (next : Option FileChange) → ready_by s now ≡ next → Keeps s clock c way behind downs (settles_by s fault now next)
      by None e = record {
        orderly = o;
        safe = λ q. subst (IsSafe s clock c way) (sym (behind_none way behind)) q;
        numbered = λ q. subst (AreNumbered s c.session way.ups) (sym (behind_none way downs)) q;
      }
      by (Some d) e = made_keeps s o now le fault d (ready_change s.leasing (later s.leasing now).moment s.waiting d o.changes e) d.what refl
