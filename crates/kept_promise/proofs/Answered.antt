-- A client takes an answer to a call of its operation under way: which call it is, and what comes of it.
use Rattle.std.proofs.Common.{◌≡◌, ℕ, zero, suc, ◌≤◌, List, [], ◌∷◌, ◌++◌, Option, Some, Bool, true, false, refl, sym, ap, ◌∙◌, subst, arith, eqb-true, eq-eqb, map}
use Rattle.hash_calls.specs.declared.call.Leased.{Leased}
use Rattle.nfs3_calls.specs.Nfs.{nfs_proc, proc_number}
use Rattle.nfs3_calls.specs.declared.message.NfsProc.{NfsProc}
use Rattle.nfs3_calls.specs.declared.message.NfsProc.TheVariants as procs
use Rattle.path_calls.specs.Walk.{call_at, next_call}
use Rattle.path_calls.specs.declared.walk.Goal.{Goal}
use Rattle.path_calls.specs.declared.walk.Goal.TheVariants as goal
use Rattle.path_calls.specs.declared.walk.Walk.{Walk}
use Rattle.open_close.specs.Walking.{is_its}
use Rattle.wire.specs.declared.message.Program.TheVariants as program
use Rattle.kept_promise.proofs.Common.{slice_get, cond, ◌==◌, ◌||◌, Answer, Attr, Committed, Hashes, Piece, waiting, Pending, Program, has_call, store_pending, read_pending, store_at, read_at, ReadCall, UploadCall, Reply, Reply.Versioned, Reply.Hashed, Reply.Bytes, Reply.Made, Reply.Named, Reply.Stored, Reply.Changed, Told, reply_program, Reply.Walked, NameReply, NameReply.LookedUp, name_answer}
use Rattle.kept_promise.proofs.Lists.{some_is, nothing_there, in_front, false_and_true}
use Rattle.kept_promise.proofs.Keys.{times, code_of}
use Rattle.kept_promise.proofs.PathNames.{IsAsking}
use Rattle.kept_promise.proofs.Heard.{told_pending}
use Rattle.kept_promise.proofs.Moves.{waits_under}

-- ---- which call it is

pub called : (calls : List Pending) (x : ℕ) → has_call calls x ≡ true → (i : ℕ) × (p : Pending) × (slice_get calls i ≡ Some p) × (p.xid ≡ x)
called [] x e = absurd cc
called (c ∷ cs) x e = by (c.xid == x) refl e (called cs x)
  where
    by : (b : Bool) → (c.xid == x) ≡ b → (b || has_call cs x) ≡ true → (has_call cs x ≡ true → (i : ℕ) × (p : Pending) × (slice_get cs i ≡ Some p) × (p.xid ≡ x)) → (i : ℕ) × (p : Pending) × (slice_get (c ∷ cs) i ≡ Some p) × (p.xid ≡ x)
    by true same e later = (0, c, refl, eqb-true c.xid x same)
    by false same e later = let h = later e in (suc h.0, h.1, h.2, h.3)

-- two calls that wait under one xid are one
pub one_call : (calls : List Pending) (i k : ℕ) (p q : Pending) → slice_get calls i ≡ Some p → slice_get calls k ≡ Some q → p.xid ≡ q.xid → times q.xid (map (λ c. c.xid) calls) ≤ 1 → p ≡ q
one_call calls i k p q a b same once =
    let u = waits_under calls i p a (subst (λ (y : ℕ). times y (map (λ (c : Pending). c.xid) calls) ≤ 1) (sym same) once) in
    let v = waits_under calls k q b once in
    let prog : p.program ≡ q.program = some_is p.program q.program (sym u ∙ ap (λ (y : ℕ). waiting y calls) same ∙ v) in
    ap (λ (y : ℕ). record { xid = y; program = p.program }) same ∙ ap (λ (z : Program). record { xid = q.xid; program = z }) prog

-- one of the operation's own
pub own_call : (mine others : List Pending) (k : ℕ) (t : Told) → slice_get (mine ++ others) k ≡ Some (told_pending t) → times t.xid (map (λ c. c.xid) (mine ++ others)) ≤ 1 → has_call mine t.xid ≡ true → (i : ℕ) × (slice_get mine i ≡ Some (told_pending t))
own_call mine others k t at once has =
    let c = called mine t.xid has in
    (c.0, c.2 ∙ ap (λ (p : Pending). Some p) (one_call (mine ++ others) c.0 k c.1 (told_pending t) (in_front mine others c.0 c.1 c.2) at c.3 once))

pub store_here : (under : List UploadCall) (i : ℕ) (t : Told) → slice_get (map store_pending under) i ≡ Some (told_pending t) → (m : ℕ) × (u : UploadCall) × (store_at under t.xid ≡ Some u) × (slice_get (map store_pending under) m ≡ Some (store_pending u)) × (u.xid ≡ t.xid)
store_here [] i t e = nothing_there (told_pending t) e
store_here (u ∷ us) i t e = by (u.xid == t.xid) refl i e (λ k. store_here us k t)
  where
    by : (b : Bool) → (u.xid == t.xid) ≡ b → (i : ℕ) → slice_get (map store_pending (u ∷ us)) i ≡ Some (told_pending t) → ((k : ℕ) → slice_get (map store_pending us) k ≡ Some (told_pending t) → (m : ℕ) × (v : UploadCall) × (store_at us t.xid ≡ Some v) × (slice_get (map store_pending us) m ≡ Some (store_pending v)) × (v.xid ≡ t.xid)) → (m : ℕ) × (v : UploadCall) × (cond b (Some u) (store_at us t.xid) ≡ Some v) × (slice_get (map store_pending (u ∷ us)) m ≡ Some (store_pending v)) × (v.xid ≡ t.xid)
    by true same i e later = (0, u, refl, refl, eqb-true u.xid t.xid same)
    by false same zero e later = let x : u.xid ≡ t.xid = ap (λ (p : Pending). p.xid) (some_is (store_pending u) (told_pending t) e) in absurd (false_and_true (u.xid == t.xid) same (eq-eqb u.xid t.xid x))
    by false same (suc i) e later = let h = later i e in (suc h.0, h.1, h.2, h.3, h.4)

pub read_here : (under : List ReadCall) (i : ℕ) (t : Told) → slice_get (map read_pending under) i ≡ Some (told_pending t) → (r : ReadCall) × (read_at under t.xid ≡ Some r)
read_here [] i t e = nothing_there (told_pending t) e
read_here (u ∷ us) i t e = by (u.xid == t.xid) refl i e (λ k. read_here us k t)
  where
    by : (b : Bool) → (u.xid == t.xid) ≡ b → (i : ℕ) → slice_get (map read_pending (u ∷ us)) i ≡ Some (told_pending t) → ((k : ℕ) → slice_get (map read_pending us) k ≡ Some (told_pending t) → (r : ReadCall) × (read_at us t.xid ≡ Some r)) → (r : ReadCall) × (cond b (Some u) (read_at us t.xid) ≡ Some r)
    by true same i e later = (u, refl)
    by false same zero e later = let x : u.xid ≡ t.xid = ap (λ (p : Pending). p.xid) (some_is (read_pending u) (told_pending t) e) in absurd (false_and_true (u.xid == t.xid) same (eq-eqb u.xid t.xid x))
    by false same (suc i) e later = later i e

-- ---- an answer to a procedure is of its kind

walked_code : (r : NameReply) → 8 ≤ code_of (reply_program (Walked r))
walked_code (LookedUp a) = omega arith
walked_code _ = omega arith

pub lease_reply : (r : Reply) → 7 ≡ code_of (reply_program r) → (a : Answer Leased Unit) × (r ≡ Versioned a)
lease_reply (Versioned a) e = (a, refl)
lease_reply (Walked r) e = let far = walked_code r in absurd (omega (arith, e, far))
lease_reply _ e = absurd (omega (arith, e))

pub hash_reply : (r : Reply) → 1 ≡ code_of (reply_program r) → (a : Answer Hashes Unit) × (r ≡ Hashed a)
hash_reply (Hashed a) e = (a, refl)
hash_reply (Walked r) e = let far = walked_code r in absurd (omega (arith, e, far))
hash_reply _ e = absurd (omega (arith, e))

pub made_reply : (r : Reply) → 2 ≡ code_of (reply_program r) → (a : Answer Unit Unit) × (r ≡ Made a)
made_reply (Made a) e = (a, refl)
made_reply (Walked r) e = let far = walked_code r in absurd (omega (arith, e, far))
made_reply _ e = absurd (omega (arith, e))

pub named_reply : (r : Reply) → 3 ≡ code_of (reply_program r) → (a : Answer Unit Unit) × (r ≡ Named a)
named_reply (Named a) e = (a, refl)
named_reply (Walked r) e = let far = walked_code r in absurd (omega (arith, e, far))
named_reply _ e = absurd (omega (arith, e))

pub stored_reply : (r : Reply) → 4 ≡ code_of (reply_program r) → (a : Answer Unit Unit) × (r ≡ Stored a)
stored_reply (Stored a) e = (a, refl)
stored_reply (Walked r) e = let far = walked_code r in absurd (omega (arith, e, far))
stored_reply _ e = absurd (omega (arith, e))

pub changed_reply : (r : Reply) → 5 ≡ code_of (reply_program r) → (a : Answer Committed Unit) × (r ≡ Changed a)
changed_reply (Changed a) e = (a, refl)
changed_reply (Walked r) e = let far = walked_code r in absurd (omega (arith, e, far))
changed_reply _ e = absurd (omega (arith, e))

pub read_reply : (r : Reply) → 6 ≡ code_of (reply_program r) → (a : Answer Piece (Option Attr)) × (r ≡ Bytes a)
read_reply (Bytes a) e = (a, refl)
read_reply (Walked r) e = let far = walked_code r in absurd (omega (arith, e, far))
read_reply _ e = absurd (omega (arith, e))

-- and one to a walk

pub walk_code : (dir : ℕ) (left : List (List ℕ)) (g : Goal) → IsAsking g → 8 ≤ code_of (program.Nfs (nfs_proc (call_at dir left g)))
walk_code dir (n ∷ ns) g h = omega arith
walk_code dir [] (goal.Find n) h = omega arith
walk_code dir _ _ h = omega arith

pub walk_reply : (r : Reply) → 8 ≤ code_of (reply_program r) → (m : NameReply) × (r ≡ Walked m)
walk_reply (Walked m) e = (m, refl)
walk_reply _ e = absurd (omega (arith, e))

nfs_part : Program → NfsProc
nfs_part (program.Nfs p) = p
nfs_part p = procs.Null

pub walk_its : (w : Walk) (m : NameReply) → program.Nfs (nfs_proc (next_call w)) ≡ reply_program (Walked m) → is_its w (name_answer m) ≡ true
unfolding nfs_part
walk_its w m e = eq-eqb (proc_number (nfs_proc (name_answer m))) (proc_number (nfs_proc (next_call w))) (ap (λ (p : Program). proc_number (nfs_part p)) (sym e))
