-- A pending change is taken out by a settling, wherever it stands: what is left of the others, and what the settling is.
use Rattle.std.proofs.Common.{◌≡◌, ℕ, zero, suc, ◌+◌, ◌≤◌, List, [], ◌∷◌, ◌++◌, length, Option, Some, None, Bool, true, false, refl, sym, ap, ◌∙◌, subst, arith, append-nil, eq-eqb, eqb-true, ne_eqb, replicate, ◌⊎◌, inl, inr}
use Rattle.std.specs.Prelude.{remove}
use Rattle.server_core.specs.State as server
use Rattle.server_core.specs.Closing as closing
use Rattle.server_core.specs.declared.change.Wanted.{Wanted}
use Rattle.server_core.specs.declared.change.Wanted.TheVariants as wanted
use Rattle.server_rules.specs.declared.told.Told.TheVariants as told
use Rattle.trace_ends.specs.Core.{newest_entries, changed_file, idles, raws_by, changed_entry}
use Rattle.callback_core.specs.Waits.{ready, without, without_made}
use Rattle.server_core.specs.Closing.{ready_by}
use Rattle.server_core.proofs.lemmas.Ready.{ready_there}
use Rattle.server_core.specs.Closing.{makes_change}
use Rattle.trace_replay.specs.OwnCalls.{others_waiting}
use Rattle.kept_promise.proofs.Common.{slice_get, cond, not, ◌==◌, at, FileChange, ServerStep, Core, CoreStep, quiet, settles, settled_by, Book, Queue, later, nat_le, if◌then◌else◌, Event.Settles, is_raw, raws_with, raws_on, Session, numbered, Tree, Entry, settled_ops, pointed_at}
use Rattle.kept_promise.proofs.Lists.{some_is, nothing_there}
use Rattle.kept_promise.proofs.Keys.{own}
use Rattle.kept_promise.proofs.Turns.{also_numbered, unnoted, raw_or_owned}
use Rattle.kept_promise.proofs.Promised.{own_there}
use Rattle.kept_promise.proofs.Facts.{IsKept}
use Rattle.register_model.specs.declared.raw.Raw.{Raw}

-- ---- among those that wait

pub record IsOut (waits : List FileChange) (c : FileChange) (rest : List FileChange) : Type 0 where
  pub place : ℕ
  pub there : slice_get waits place ≡ Some c
  -- what is left waited too
  pub others : (i : ℕ) (d : FileChange) → slice_get rest i ≡ Some d → (j : ℕ) × (slice_get waits j ≡ Some d)
  -- it was the one of its session, and those of any other are as they were
  pub mine : own c.session waits ≡ c ∷ []
  pub none : own c.session rest ≡ []
  pub apart : (n : ℕ) → (n ≡ c.session → ⊥) → own n rest ≡ own n waits
  -- what it needs is left by those that wait
  -- it is they, in order
  pub left : rest ≡ remove waits place
  pub entries : server.entries_held waits ≡ server.entries_wanted c.what + server.entries_held rest
  pub bytes : server.waiting_size waits ≡ server.size_wanted c.what + server.waiting_size rest

-- no session has more pending changes
pub own_fewer : (waits : List FileChange) (c : FileChange) (rest : List FileChange) → IsOut waits c rest → (n : ℕ) → length (own n rest) ≤ length (own n waits)
own_fewer waits c rest out n = by (n == c.session) refl
  where
    by : (b : Bool) → (n == c.session) ≡ b → length (own n rest) ≤ length (own n waits)
    by true is = let e = ap (λ (m : ℕ). length (own m rest)) (eqb-true n c.session is) in let none = ap (λ (l : List FileChange). length l) out.none in omega (arith, e, none)
    by false is = let e = ap (λ (l : List FileChange). length l) (out.apart n (λ same. differ same is)) in omega (arith, e)
      where
        differ : n ≡ c.session → (n == c.session) ≡ false → ⊥
        differ same un = let t : (n == c.session) ≡ true = eq-eqb n c.session same in absurd cc

-- ---- one at any place

removed_there : (waits : List FileChange) (k i : ℕ) (d : FileChange) → slice_get (remove waits k) i ≡ Some d → (j : ℕ) × (slice_get waits j ≡ Some d)
removed_there [] k i d at = by k at
  where
    by : (k : ℕ) → slice_get (remove [] k) i ≡ Some d → (j : ℕ) × (slice_get [] j ≡ Some d)
    by zero at = nothing_there d at
    by (suc k) at = nothing_there d at
removed_there (w ∷ ws) zero i d at = (suc i, at)
removed_there (w ∷ ws) (suc k) zero d at = (0, at)
removed_there (w ∷ ws) (suc k) (suc i) d at = let h = removed_there ws k i d at in (suc h.0, h.1)

removed_apart : (waits : List FileChange) (k n : ℕ) (c : FileChange) → slice_get waits k ≡ Some c → (n ≡ c.session → ⊥) → own n (remove waits k) ≡ own n waits
removed_apart [] k n c at far = nothing_there c at
removed_apart (w ∷ ws) zero n c at far = sym (ap (λ (b : Bool). cond b (w ∷ own n ws) (own n ws)) (ne_eqb w.session n (λ e. far (sym e ∙ ap (λ (z : FileChange). z.session) (some_is w c at)))))
removed_apart (w ∷ ws) (suc k) n c at far = ap (λ (l : List FileChange). cond (w.session == n) (w ∷ l) l) (removed_apart ws k n c at far)

removed_own : (waits : List FileChange) (k n : ℕ) (c : FileChange) → slice_get waits k ≡ Some c → c.session ≡ n → length (own n waits) ≡ suc (length (own n (remove waits k)))
removed_own [] k n c at mine = nothing_there c at
removed_own (w ∷ ws) zero n c at mine = ap (λ (b : Bool). length (cond b (w ∷ own n ws) (own n ws))) (eq-eqb w.session n (ap (λ (z : FileChange). z.session) (some_is w c at) ∙ mine))
removed_own (w ∷ ws) (suc k) n c at mine = by (w.session == n) (removed_own ws k n c at mine)
  where
    by : (b : Bool) → length (own n ws) ≡ suc (length (own n (remove ws k))) → length (cond b (w ∷ own n ws) (own n ws)) ≡ suc (length (cond b (w ∷ own n (remove ws k)) (own n (remove ws k))))
    by true e = ap suc e
    by false e = e

removed_needs : (waits : List FileChange) (k : ℕ) (c : FileChange) → slice_get waits k ≡ Some c → (server.entries_held waits ≡ server.entries_wanted c.what + server.entries_held (remove waits k)) × (server.waiting_size waits ≡ server.size_wanted c.what + server.waiting_size (remove waits k))
removed_needs [] k c at = nothing_there c at
removed_needs (w ∷ ws) zero c at = let same = some_is w c at in (ap (λ (z : FileChange). server.entries_wanted z.what + server.entries_held ws) same, ap (λ (z : FileChange). server.size_wanted z.what + server.waiting_size ws) same)
removed_needs (w ∷ ws) (suc k) c at = let h = removed_needs ws k c at in (omega (arith, h.0), omega (arith, h.1))

no_more : (l : List FileChange) → length l ≡ 0 → l ≡ []
no_more [] e = refl
no_more (x ∷ l) e = absurd (omega (arith, e))

the_one : (l : List FileChange) (j : ℕ) (c : FileChange) → slice_get l j ≡ Some c → length l ≤ 1 → l ≡ c ∷ []
the_one [] j c at one = nothing_there c at
the_one (x ∷ []) zero c at one = ap (λ (z : FileChange). z ∷ []) (some_is x c at)
the_one (x ∷ []) (suc j) c at one = nothing_there c at
the_one (x ∷ y ∷ l) j c at one = absurd (omega (arith, one))

-- where its session has no other
pub out_at : (waits : List FileChange) (k : ℕ) (c : FileChange) → slice_get waits k ≡ Some c → length (own c.session waits) ≤ 1 → IsOut waits c (remove waits k)
out_at waits k c at one =
    let its = own_there waits k c at in
    let less = removed_own waits k c.session c at refl in
    let needs = removed_needs waits k c at in
    record {
      place = k;
      there = at;
      others = λ i d is. removed_there waits k i d is;
      mine = the_one (own c.session waits) its.0 c its.1 one;
      none = no_more (own c.session (remove waits k)) (omega (arith, less, one));
      apart = λ n far. removed_apart waits k n c at far;
      left = refl;
      entries = needs.0;
      bytes = needs.1;
    }

-- ---- a settling

-- what it leaves, by what the server did
abbrev pub settled_to : Core → server.State × ServerStep → CoreStep
settled_to k r = record (quiet (record k { steps = k.steps + 1; server = r.0; ops = settled_by k (changed_file (newest_entries r.0.journal r.1.entries)) r.1.told; entries = k.entries ++ replicate r.1.entries (k.steps + 1) })) { down = r.1.send }

pub made_waiting : (s : server.State) (c : FileChange) (w : Wanted) → (makes_change s c w).0.waiting ≡ s.waiting
made_waiting s c (wanted.Content content) = refl
made_waiting s c (wanted.Asked a) = refl

-- and what is noted of a change by a session that is no client's
abbrev pub raws_to : Core → server.State × ServerStep → List Raw
raws_to k r = raws_by k r.0.tree (changed_entry (newest_entries r.0.journal r.1.entries)) r.1.told

-- with these
abbrev settled_raws : Core → server.State × ServerStep → CoreStep
settled_raws k r = record (settled_to k r) { core = record (settled_to k r).core { raws = raws_to k r } }

pub record SettlesOut (k : Core) (now : ℕ) (c : FileChange) (rest : List FileChange) : Type 0 where
  pub out : IsOut k.server.waiting c rest
  pub is : unnoted k (settles k now) ≡ settled_to k (makes_change (at (record k.server { waiting = rest }) now) c c.what)
  -- what is noted of it, if its session is no client's
  pub raws : (settles k now).core.raws ≡ raws_to k (makes_change (at (record k.server { waiting = rest }) now) c c.what)
  -- it's the one that the promise names, and so are the others
  pub ready : ready_by k.server now ≡ Some c
  pub others : others_waiting (Settles now) k.server ≡ rest

-- whatever is made of it, its session is told
pub told_is : (s : server.State) (c : FileChange) (w : Wanted) → (makes_change s c w).1.told ≡ told.Settled c.session c.xid
told_is s c (wanted.Content content) = refl
told_is s c (wanted.Asked a) = refl

-- of a session that has an owner nothing is noted so
pub owned_raws : (k : Core) (s : server.State) (c : FileChange) (w : Wanted) (x : Session) → numbered k.sessions c.session ≡ Some x → is_raw x ≡ false → raws_to k (makes_change s c w) ≡ k.raws
owned_raws k s c w x at own = ap (raws_by k tree entry) (told_is s c w) ∙ ap (raws_on k.raws (numbered k.came c.session) (k.steps + 1) tree entry) at ∙ by (numbered k.came c.session)
  where
    tree : Tree
    tree = (makes_change s c w).0.tree

    entry : Option Entry
    entry = changed_entry (newest_entries (makes_change s c w).0.journal (makes_change s c w).1.entries)

    by : (came : Option ℕ) → raws_on k.raws came (k.steps + 1) tree entry (Some x) ≡ k.raws
    by None = refl
    by (Some came) = ap (λ (b : Bool). raws_with k.raws b came (k.steps + 1) tree entry) own

-- and of one that has none no operation is pointed at
pub raw_ops : (k : Core) (now : ℕ) (c : FileChange) (rest : List FileChange) (x : Session) → SettlesOut k now c rest → numbered k.sessions c.session ≡ Some x → x.closing ≡ None → (settles k now).core.ops ≡ k.ops
raw_ops k now c rest x out at_ closing =
    ap (λ (t : CoreStep). t.core.ops) out.is
    ∙ ap (settled_by k changed) (told_is before c c.what)
    ∙ ap (settled_ops k.ops (k.steps + 1) changed) at_
    ∙ ap (λ (p : Option ℕ). pointed_at k.ops p (k.steps + 1) changed) closing
    ∙ none changed
  where
    before : server.State
    before = at (record k.server { waiting = rest }) now

    changed : Option ℕ
    changed = changed_file (newest_entries (makes_change before c c.what).0.journal (makes_change before c c.what).1.entries)

    none : (o : Option ℕ) → pointed_at k.ops None (k.steps + 1) o ≡ k.ops
    none None = refl
    none (Some f) = refl

-- a change is settled, or none is ready
pub data WhatSettles (k : Core) (now : ℕ) : Type 0 where
  settles_one : (c : FileChange) (rest : List FileChange) → SettlesOut k now c rest → WhatSettles k now
  settles_none : ready_by k.server now ≡ None → settles k now ≡ idles k → WhatSettles k now

-- what is ready waits
pub ready_waits : (s : server.State) (now : ℕ) (c : FileChange) → ready_by s now ≡ Some c → (i : ℕ) × (slice_get s.waiting i ≡ Some c)
ready_waits s now c is = by (nat_le s.leasing.quiet (later s.leasing now).moment) is
  where
    by : (b : Bool) → (if b then ready s.leasing.leases (later s.leasing now).moment s.waiting else None) ≡ Some c → (i : ℕ) × (slice_get s.waiting i ≡ Some c)
    by true e = ready_there s.leasing.leases (later s.leasing now).moment s.waiting c e
    by false e = nothing_there c e

-- where its session has no other, it is that which is taken out
without_none : (n : ℕ) (ws : List FileChange) → own n ws ≡ [] → without ws n ≡ ws
without_none n [] none = refl
without_none n (w ∷ ws) none = by (w.session == n) none (without_none n ws)
  where
    some_none : {A : Type 0} {x : A} {xs : List A} → x ∷ xs ≡ [] → ⊥
    some_none e = absurd cc

    by : (b : Bool) → cond b (w ∷ own n ws) (own n ws) ≡ [] → (own n ws ≡ [] → without ws n ≡ ws) → cond (not b) (w ∷ without ws n) (without ws n) ≡ w ∷ ws
    by true none later = absurd (some_none none)
    by false none later = ap (λ (l : List FileChange). w ∷ l) (later none)

without_removed : (waits : List FileChange) (k : ℕ) (c : FileChange) → slice_get waits k ≡ Some c → length (own c.session waits) ≤ 1 → without waits c.session ≡ remove waits k
without_removed [] k c at one = nothing_there c at
without_removed (w ∷ ws) zero c at one =
    let its : (w.session == c.session) ≡ true = eq-eqb w.session c.session (ap (λ (z : FileChange). z.session) (some_is w c at)) in
    let count = ap (λ (b : Bool). length (cond b (w ∷ own c.session ws) (own c.session ws))) its in
    ap (λ (b : Bool). cond (not b) (w ∷ without ws c.session) (without ws c.session)) its ∙ without_none c.session ws (no_more (own c.session ws) (omega (arith, one, count)))
without_removed (w ∷ ws) (suc k) c at one = by (w.session == c.session) one (without_removed ws k c at)
  where
    its : length (own c.session ws) ≡ suc (length (own c.session (remove ws k)))
    its = removed_own ws k c.session c at refl

    by : (b : Bool) → length (cond b (w ∷ own c.session ws) (own c.session ws)) ≤ 1 → (length (own c.session ws) ≤ 1 → without ws c.session ≡ remove ws k) → cond (not b) (w ∷ without ws c.session) (without ws c.session) ≡ w ∷ remove ws k
    by true one later = let z = its in absurd (omega (arith, one, z))
    by false one later = ap (λ (l : List FileChange). w ∷ l) (later one)

pub what_settles : (book : Book) (k : Core) (qs : List Queue) (now : ℕ) → IsKept book k qs → WhatSettles k now
what_settles book k qs now kept = by (ready_by k.server now) refl
  where
    single : (i : ℕ) (c : FileChange) → slice_get k.server.waiting i ≡ Some c → length (own c.session k.server.waiting) ≤ 1
    single i c at =
        let home = kept.home i c at in
        let q = also_numbered k.sessions qs c.session home.0 kept.made.1 home.1 in
        by home.0 q.0 home.1 q.1 (raw_or_owned home.0)
      where
        by : (x : Session) (q : Queue) → numbered k.sessions c.session ≡ Some x → numbered qs c.session ≡ Some q → (is_raw x ≡ true) ⊎ (is_raw x ≡ false) → length (own c.session k.server.waiting) ≤ 1
        by x q here is (inl raw) = (kept.strangers c.session x q here is raw).single
        by x q here is (inr owned) = let one = (kept.sessions c.session x q here is owned).single in omega (arith, one)

    settles_as : (o : Option FileChange) → ready_by k.server now ≡ o → closing.settles k.server now ≡ closing.settles_by k.server false now o
    settles_as o e = ap (closing.settles_by k.server false now) e

    by : (o : Option FileChange) → ready_by k.server now ≡ o → WhatSettles k now
    by None e = settles_none e (ap (settled_raws k) (settles_as None e) ∙ ap (λ (l : List ℕ). quiet (record k { steps = k.steps + 1; entries = l })) (append-nil k.entries))
    by (Some c) e =
        let there = ready_waits k.server now c e in
        let one = single there.0 c there.1 in
        settles_one c (without k.server.waiting c.session) (record {
          out = subst (λ (l : List FileChange). IsOut k.server.waiting c l) (sym (without_removed k.server.waiting there.0 c there.1 one)) (out_at k.server.waiting there.0 c there.1 one);
          is = ap (settled_to k) (settles_as (Some c) e);
          raws = ap (raws_to k) (settles_as (Some c) e);
          ready = e;
          others = ap (without_made k.server.waiting) e;
        })
