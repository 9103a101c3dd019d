-- Calls that wait, as one is answered and others are sent.
use Rattle.std.proofs.Common.{◌≡◌, ℕ, zero, suc, ◌+◌, ◌<◌, ◌≤◌, List, [], ◌∷◌, ◌++◌, Some, Bool, true, false, refl, sym, ap, ◌∙◌, arith, eq-eqb, map}
use Rattle.wire.specs.Message.{program_of}
use Rattle.wire.specs.declared.message.Program.TheVariants as program
use Rattle.hash_calls.specs.declared.message.LbProc.TheVariants as lb_proc
use Rattle.nfs3_calls.specs.declared.message.NfsProc.TheVariants as nfs_proc
use Rattle.client_state.specs.State as client
use Rattle.kept_promise.proofs.Common.{slice_get, not, cond, ◌==◌, IsExpected, waiting, Pending, Program, FileChange, without_call, Reply, Reply.Versioned, Reply.Hashed, Reply.Bytes, Reply.Made, Reply.Named, Reply.Stored, Reply.Changed, Ask, Told, Queue, reply_program, reply_body, told_message, Reply.Walked, NameReply.LookedUp, NameReply.Shown, NameReply.Listed, NameReply.MadeFile, NameReply.MadeDir, NameReply.NoDir, NameReply.Gone, NameReply.Renamed}
use Rattle.kept_promise.proofs.Lists.{some_is, nothing_there}
use Rattle.kept_promise.proofs.Keys.{times, times_append, code_of, pending_key, told_key, ask_key, change_key, own, found_by, there_by, key_xid, key_code}
use Rattle.kept_promise.proofs.Taken.{times_map_append}
use Rattle.kept_promise.proofs.Facts.{IsBalanced}
use Rattle.kept_promise.proofs.Heard.{ask_pending, told_pending, Moves}
use Rattle.wire.specs.Message.{FitsIn}

-- ---- the call that is answered

reply_ours : (r : Reply) → (c : Program) → 0 < code_of c → code_of c ≡ code_of (reply_program r) → c ≡ reply_program r
reply_ours r c lt e = by c r lt e
  where
    by : (c : Program) (r : Reply) → 0 < code_of c → code_of c ≡ code_of (reply_program r) → c ≡ reply_program r
    by (program.Lb lb_proc.GetLease) (Versioned a) lt e = refl
    by (program.Lb lb_proc.GetHash) (Hashed a) lt e = refl
    by (program.Lb lb_proc.MkTmpFile) (Made a) lt e = refl
    by (program.Lb lb_proc.CondWrite) (Named a) lt e = refl
    by (program.Lb lb_proc.TmpWrite) (Stored a) lt e = refl
    by (program.Lb lb_proc.CommitTmp) (Changed a) lt e = refl
    by (program.Nfs nfs_proc.Read) (Bytes a) lt e = refl
    by (program.Nfs nfs_proc.Lookup) (Walked (LookedUp a)) lt e = refl
    by (program.Nfs nfs_proc.GetAttr) (Walked (Shown a)) lt e = refl
    by (program.Nfs nfs_proc.ReadDir) (Walked (Listed a)) lt e = refl
    by (program.Nfs nfs_proc.Create) (Walked (MadeFile a)) lt e = refl
    by (program.Nfs nfs_proc.MkDir) (Walked (MadeDir a)) lt e = refl
    by (program.Nfs nfs_proc.RmDir) (Walked (NoDir a)) lt e = refl
    by (program.Nfs nfs_proc.Remove) (Walked (Gone a)) lt e = refl
    by (program.Nfs nfs_proc.Rename) (Walked (Renamed a)) lt e = refl
    by c (Walked (LookedUp a)) lt e = absurd (omega (arith, lt, e))
    by c (Walked (Shown a)) lt e = absurd (omega (arith, lt, e))
    by c (Walked (Listed a)) lt e = absurd (omega (arith, lt, e))
    by c (Walked (MadeFile a)) lt e = absurd (omega (arith, lt, e))
    by c (Walked (MadeDir a)) lt e = absurd (omega (arith, lt, e))
    by c (Walked (NoDir a)) lt e = absurd (omega (arith, lt, e))
    by c (Walked (Gone a)) lt e = absurd (omega (arith, lt, e))
    by c (Walked (Renamed a)) lt e = absurd (omega (arith, lt, e))
    by c r lt e = absurd (omega (arith, lt, e))

-- an answer on its way is to a call that waits, of the same procedure
pub told_there : (n : ℕ) (w : List FileChange) (q : Queue) (hung : Bool) (next : ℕ) (calls : List Pending) (i : ℕ) (t : Told) → IsBalanced n w q hung next calls → slice_get q.downs i ≡ Some t → (k : ℕ) × (slice_get calls k ≡ Some (told_pending t))
told_there n w q hung next calls i t h at =
    let a = there_by told_key q.downs i t at in
    let b = times_append (told_key t) (map ask_key q.ups) (map change_key (own n w) ++ map told_key q.downs) in
    let c = times_append (told_key t) (map change_key (own n w)) (map told_key q.downs) in
    let m = h.most (told_key t) in
    let f = found_by pending_key calls (told_key t) (omega (arith, a, b, c, m)) in
    let x = key_xid f.1.xid t.xid f.1.program (reply_program t.reply) f.3 in
    let p = reply_ours t.reply f.1.program (h.ours f.0 f.1 f.2) (key_code f.1.xid t.xid f.1.program (reply_program t.reply) f.3) in
    (f.0, f.2 ∙ ap (λ (z : ℕ). Some (record { xid = z; program = f.1.program })) x ∙ ap (λ (z : Program). Some (record { xid = t.xid; program = z })) p)

-- what waits under its xid
pub waits_under : (calls : List Pending) (k : ℕ) (p : Pending) → slice_get calls k ≡ Some p → times p.xid (map (λ c. c.xid) calls) ≤ 1 → waiting p.xid calls ≡ Some p.program
waits_under [] k p at once = nothing_there p at
waits_under (c ∷ cs) zero p at once = let same = some_is c p at in ap (λ b. cond b (Some c.program) (waiting p.xid cs)) (eq-eqb c.xid p.xid (ap (λ (z : Pending). z.xid) same)) ∙ ap (λ (z : Pending). Some z.program) same
waits_under (c ∷ cs) (suc k) p at once = by (c.xid == p.xid) refl once (waits_under cs k p at)
  where
    there : 0 < times p.xid (map (λ (z : Pending). z.xid) cs)
    there = there_by (λ (z : Pending). z.xid) cs k p at

    by : (b : Bool) → (c.xid == p.xid) ≡ b → cond b (suc (times p.xid (map (λ (z : Pending). z.xid) cs))) (times p.xid (map (λ (z : Pending). z.xid) cs)) ≤ 1 → (times p.xid (map (λ (z : Pending). z.xid) cs) ≤ 1 → waiting p.xid cs ≡ Some p.program) → cond b (Some c.program) (waiting p.xid cs) ≡ Some p.program
    by true e le later = let t = there in absurd (omega (arith, t, le))
    by false e le later = later le

body_program : (r : Reply) → program_of (reply_body r) ≡ reply_program r
body_program (Hashed a) = refl
body_program r = refl

pub expected : (n : ℕ) (w : List FileChange) (q : Queue) (hung : Bool) (c : client.State) (i : ℕ) (t : Told) → IsBalanced n w q hung c.next_xid (client.calls_of c) → slice_get q.downs i ≡ Some t → FitsIn c.lbfs (reply_body t.reply) → IsExpected (client.waiting_of c) (told_message t)
expected n w q hung c i t h at fits =
    let p = told_there n w q hung c.next_xid (client.calls_of c) i t h at in
    (waits_under (client.calls_of c) p.0 (told_pending t) p.1 (h.once t.xid) ∙ ap (λ z. Some z) (sym (body_program t.reply)), fits)

-- ---- one less

no_more : (xid : ℕ) (calls : List Pending) → times xid (map (λ c. c.xid) calls) ≡ 0 → without_call calls xid ≡ calls
no_more xid [] none = refl
no_more xid (c ∷ cs) none = by (c.xid == xid) refl none (no_more xid cs)
  where
    by : (b : Bool) → (c.xid == xid) ≡ b → cond b (suc (times xid (map (λ (z : Pending). z.xid) cs))) (times xid (map (λ (z : Pending). z.xid) cs)) ≡ 0 → (times xid (map (λ (z : Pending). z.xid) cs) ≡ 0 → without_call cs xid ≡ cs) → cond (not b) (c ∷ without_call cs xid) (without_call cs xid) ≡ c ∷ cs
    by true e none later = absurd (omega (arith, none))
    by false e none later = ap (λ l. c ∷ l) (later none)

pub without_moves : (f : Pending → ℕ) (y : ℕ) (calls : List Pending) (k : ℕ) (p : Pending) → slice_get calls k ≡ Some p → times p.xid (map (λ c. c.xid) calls) ≤ 1 → times y (map f (without_call calls p.xid)) + times y (f p ∷ []) ≡ times y (map f calls)
without_moves f y [] k p at once = nothing_there p at
without_moves f y (c ∷ cs) zero p at once =
    let same : c ≡ p = some_is c p at in
    let head : (c.xid == p.xid) ≡ true = eq-eqb c.xid p.xid (ap (λ (z : Pending). z.xid) same) in
    let count = ap (λ b. cond b (suc (times p.xid (map (λ (z : Pending). z.xid) cs))) (times p.xid (map (λ (z : Pending). z.xid) cs))) head in
    let rest : without_call cs p.xid ≡ cs = no_more p.xid cs (omega (arith, once, count)) in
    let gone : without_call (c ∷ cs) p.xid ≡ cs = ap (λ b. cond (not b) (c ∷ without_call cs p.xid) (without_call cs p.xid)) head ∙ rest in
    let a = ap (λ l. times y (map f l)) gone in
    let b = times_append y (f c ∷ []) (map f cs) in
    let d : times y (f c ∷ []) ≡ times y (f p ∷ []) = ap (λ (z : Pending). times y (f z ∷ [])) same in
    omega (arith, a, b, d)
without_moves f y (c ∷ cs) (suc k) p at once = by (c.xid == p.xid) refl once (without_moves f y cs k p at)
  where
    there : 0 < times p.xid (map (λ (z : Pending). z.xid) cs)
    there = there_by (λ (z : Pending). z.xid) cs k p at

    by : (b : Bool) → (c.xid == p.xid) ≡ b → cond b (suc (times p.xid (map (λ (z : Pending). z.xid) cs))) (times p.xid (map (λ (z : Pending). z.xid) cs)) ≤ 1 → (times p.xid (map (λ (z : Pending). z.xid) cs) ≤ 1 → times y (map f (without_call cs p.xid)) + times y (f p ∷ []) ≡ times y (map f cs))
        → times y (map f (cond (not b) (c ∷ without_call cs p.xid) (without_call cs p.xid))) + times y (f p ∷ []) ≡ times y (map f (c ∷ cs))
    by true e le later = let t = there in absurd (omega (arith, t, le))
    by false e le later =
        let l = later le in
        let a = times_append y (f c ∷ []) (map f (without_call cs p.xid)) in
        let b = times_append y (f c ∷ []) (map f cs) in
        omega (arith, l, a, b)

-- an operation ends: what else waits is forgotten
pub moves_ends : (calls : List Pending) (k : ℕ) (t : Told) → slice_get calls k ≡ Some (told_pending t) → times t.xid (map (λ c. c.xid) calls) ≤ 1 → Moves calls (without_call calls t.xid) t []
moves_ends calls k t at once = λ f y. let a = without_moves f y calls k (told_pending t) at once in omega (arith, a)

-- and one call goes out
pub moves_retries : (calls : List Pending) (k : ℕ) (t : Told) (a : Ask) → slice_get calls k ≡ Some (told_pending t) → times t.xid (map (λ c. c.xid) calls) ≤ 1 → Moves calls (ask_pending a ∷ without_call calls t.xid) t (a ∷ [])
moves_retries calls k t a at once = λ f y.
    let m = without_moves f y calls k (told_pending t) at once in
    let b = times_append y (f (ask_pending a) ∷ []) (map f (without_call calls t.xid)) in
    omega (arith, m, b)

-- a stage that waited for one call goes on
pub moves_single : (old new forgotten : List Pending) (t : Told) (asks : List Ask) → old ≡ told_pending t ∷ [] → ((f : Pending → ℕ) (y : ℕ) → times y (map f new) ≡ times y (map (λ a. f (ask_pending a)) asks)) → Moves (old ++ forgotten) (new ++ forgotten) t asks
moves_single old new forgotten t asks e same = λ f y.
    let a = times_map_append f y new forgotten in
    let b = times_map_append f y old forgotten in
    let c = same f y in
    let d = ap (λ l. times y (map f l)) e in
    omega (arith, a, b, c, d)
