-- Calls by their keys: an xid, and which procedure it is of. Each call that waits for its answer is on its way once.
use Rattle.std.proofs.Common.{◌≡◌, ℕ, zero, suc, ◌+◌, ◌*◌, ◌<◌, List, [], ◌∷◌, ◌++◌, Some, Bool, true, false, refl, sym, ap, subst, arith, eq-eqb, map}
use Rattle.hash_calls.specs.declared.message.LbProc.TheVariants as lb_proc
use Rattle.nfs3_calls.specs.declared.message.NfsProc.TheVariants as nfs_proc
use Rattle.nfs3_calls.specs.Nfs.{nfs_proc as nfs_proc_of}
use Rattle.path_calls.specs.Walk.{call_at}
use Rattle.path_calls.specs.declared.walk.Goal.{Goal}
use Rattle.path_calls.specs.declared.walk.Goal.TheVariants as goal
use Rattle.server_core.specs.declared.change.Wanted.TheVariants as wanted
use Rattle.tree_calls.specs.declared.asked.Asked.TheVariants as asked
use Rattle.wire.specs.declared.message.Program.TheVariants as program
use Rattle.kept_promise.proofs.Common.{nat_tests, slice_get, cond, ◌==◌, filter, Pending, Program, Wanted, FileChange, Call, Ask, Told, Queue, call_program, reply_program}
use Rattle.kept_promise.proofs.Lists.{some_is, nothing_there}

-- ---- keys

abbrev pub code_of : Program → ℕ
code_of (program.Lb lb_proc.GetHash) = 1
code_of (program.Lb lb_proc.MkTmpFile) = 2
code_of (program.Lb lb_proc.CondWrite) = 3
code_of (program.Lb lb_proc.TmpWrite) = 4
code_of (program.Lb lb_proc.CommitTmp) = 5
code_of (program.Nfs nfs_proc.Read) = 6
code_of (program.Lb lb_proc.GetLease) = 7
code_of (program.Nfs nfs_proc.Lookup) = 8
code_of (program.Nfs nfs_proc.GetAttr) = 9
code_of (program.Nfs nfs_proc.ReadDir) = 10
code_of (program.Nfs nfs_proc.Create) = 11
code_of (program.Nfs nfs_proc.MkDir) = 12
code_of (program.Nfs nfs_proc.Remove) = 13
code_of (program.Nfs nfs_proc.RmDir) = 14
code_of (program.Nfs nfs_proc.Rename) = 15
code_of _ = 0

abbrev pub key : (xid : ℕ) → Program → ℕ
key xid p = xid * 16 + code_of p

abbrev pub ask_key : Ask → ℕ
ask_key a = key a.xid (call_program a.call)

abbrev pub told_key : Told → ℕ
told_key t = key t.xid (reply_program t.reply)

-- which procedure a pending change is of
abbrev pub wanted_program : Wanted → Program
wanted_program (wanted.Content content) = program.Lb lb_proc.CommitTmp
wanted_program (wanted.Asked (asked.Remove r)) = program.Nfs nfs_proc.Remove
wanted_program (wanted.Asked (asked.Rename r)) = program.Nfs nfs_proc.Rename

abbrev pub change_key : FileChange → ℕ
change_key c = key c.xid (wanted_program c.what)

abbrev pub pending_key : Pending → ℕ
pending_key p = key p.xid p.program

-- the changes of a session that wait
abbrev pub own : (session : ℕ) → List FileChange → List FileChange
own n waiting = filter (λ c. c.session == n) waiting

-- what is on its way on a session, or waits there
abbrev pub on_way : (session : ℕ) → List FileChange → Queue → List ℕ
on_way n waiting q = map ask_key q.ups ++ (map change_key (own n waiting) ++ map told_key q.downs)

-- ---- how often

abbrev pub times : ℕ → List ℕ → ℕ
times y [] = 0
times y (x ∷ xs) = cond (x == y) (suc (times y xs)) (times y xs)

pub times_append : (y : ℕ) (xs ys : List ℕ) → times y (xs ++ ys) ≡ times y xs + times y ys
times_append y [] ys = omega arith
times_append y (x ∷ xs) ys = by (x == y) (times_append y xs ys)
  where
    by : (b : Bool) → times y (xs ++ ys) ≡ times y xs + times y ys → cond b (suc (times y (xs ++ ys))) (times y (xs ++ ys)) ≡ cond b (suc (times y xs)) (times y xs) + times y ys
    by true e = omega (arith, e)
    by false e = e

pub times_head : (x : ℕ) (xs : List ℕ) → times x (x ∷ xs) ≡ suc (times x xs)
times_head x xs = ap (λ b. cond b (suc (times x xs)) (times x xs)) (eq-eqb x x refl)

-- what is found by key is there
pub found_by : {A : Type 0} (f : A → ℕ) (xs : List A) (y : ℕ) → 0 < times y (map f xs) → (i : ℕ) × (x : A) × (slice_get xs i ≡ Some x) × (f x ≡ y)
found_by f [] y lt = absurd (omega (arith, lt))
found_by f (x ∷ xs) y lt = by (f x == y) refl lt (found_by f xs y)
  where
    by : (b : Bool) → (f x == y) ≡ b → 0 < cond b (suc (times y (map f xs))) (times y (map f xs)) → (0 < times y (map f xs) → (i : ℕ) × (z : _) × (slice_get xs i ≡ Some z) × (f z ≡ y)) → (i : ℕ) × (z : _) × (slice_get (x ∷ xs) i ≡ Some z) × (f z ≡ y)
    by true e lt later = (0, x, refl, grind (arith, nat_tests, e))
    by false e lt later = let r = later lt in (suc r.0, r.1, r.2, r.3)

pub there_by : {A : Type 0} (f : A → ℕ) (xs : List A) (i : ℕ) (x : A) → slice_get xs i ≡ Some x → 0 < times (f x) (map f xs)
there_by f [] i x e = nothing_there x e
there_by f (z ∷ xs) zero x e = let same : z ≡ x = some_is z x e in let h = times_head (f x) (map f xs) in subst (λ a. 0 < times (f x) (f a ∷ map f xs)) (sym same) (omega (arith, h))
there_by f (z ∷ xs) (suc i) x e = by (f z == f x) (there_by f xs i x e)
  where
    by : (b : Bool) → 0 < times (f x) (map f xs) → 0 < cond b (suc (times (f x) (map f xs))) (times (f x) (map f xs))
    by true lt = omega arith
    by false lt = lt

-- ---- procedures

-- those of our calls
abbrev pub IsOurs : Program → Type 0
IsOurs p = 0 < code_of p

-- each of a walk's is
pub walk_ours : (dir : ℕ) (left : List (List ℕ)) (g : Goal) → IsOurs (program.Nfs (nfs_proc_of (call_at dir left g)))
walk_ours dir (n ∷ ns) g = omega arith
walk_ours dir [] (goal.Find name) = omega arith
walk_ours dir _ _ = omega arith

pub call_ours : (c : Call) → IsOurs (call_program c)
call_ours (Call.Walks w) = walk_ours w.dir w.left w.goal
call_ours _ = omega arith

code_small : (p : Program) → code_of p < 16
code_small (program.Lb lb_proc.GetLease) = omega arith
code_small (program.Lb lb_proc.GetHash) = omega arith
code_small (program.Lb lb_proc.MkTmpFile) = omega arith
code_small (program.Lb lb_proc.CondWrite) = omega arith
code_small (program.Lb lb_proc.TmpWrite) = omega arith
code_small (program.Lb lb_proc.CommitTmp) = omega arith
code_small (program.Nfs nfs_proc.Read) = omega arith
code_small (program.Nfs nfs_proc.Lookup) = omega arith
code_small (program.Nfs nfs_proc.GetAttr) = omega arith
code_small (program.Nfs nfs_proc.ReadDir) = omega arith
code_small (program.Nfs nfs_proc.Create) = omega arith
code_small (program.Nfs nfs_proc.MkDir) = omega arith
code_small (program.Nfs nfs_proc.Remove) = omega arith
code_small (program.Nfs nfs_proc.RmDir) = omega arith
code_small (program.Nfs nfs_proc.Rename) = omega arith
code_small _ = omega arith

pub key_xid : (x y : ℕ) (p q : Program) → key x p ≡ key y q → x ≡ y
key_xid x y p q e = let a = code_small p in let b = code_small q in omega (arith, a, b, e)

pub key_code : (x y : ℕ) (p q : Program) → key x p ≡ key y q → code_of p ≡ code_of q
key_code x y p q e = let a = code_small p in let b = code_small q in omega (arith, a, b, e)
