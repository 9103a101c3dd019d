-- The steps of a close: a file that a handle names, what is asked for it, and what becomes of that.
use Rattle.std.proofs.Common.{◌≡◌, refl, sym, ap, ◌∙◌, ℕ, ◌+◌, List, [], ◌∷◌, ◌++◌, length, Option, Some, None, ◌≤◌, Bool, true, false, true≢false, arith}
use Rattle.std.specs.Prelude.{Result, Ok, Err, is_ok, is_some, nat_lt, if◌then◌else◌}
use Rattle.xdr_codec.specs.declared.status.Status.{Status}
use Rattle.xdr_codec.specs.declared.status.Status.TheVariants as status
use Rattle.xdr_codec.specs.declared.answer.Answer.TheVariants.{Failed}
use Rattle.hash_calls.specs.declared.call.Commit.{Commit}
use Rattle.hash_calls.specs.declared.message.Lb.TheVariants as lb
use Rattle.wire.specs.declared.message.Body.TheVariants as body
use Rattle.wire.specs.declared.message.Message.TheVariants as message
use Rattle.temp_files.specs.Pieces.{size_most}
use Rattle.temp_files.specs.Temps.{Temp, Temps, temp_at, without_temp, assembled, whole_of}
use Rattle.server_core.specs.declared.event.ServerStep.{ServerStep}
use Rattle.chunk_calls.specs.Answers.{Node, directory, file, node_of, target_in}
use Rattle.server_core.specs.Asking.{commit_target, admits}
use Rattle.server_core.specs.Closing.{answers, has_waiting, is_full, commits_whole, takes_commit_on, takes_commit}
use Rattle.server_core.specs.Recalling.{comes}
use Rattle.server_core.specs.Steps.{to}
use Rattle.server_core.specs.State.{State, FileChange, change_of, size_wanted, waiting_size}
use Rattle.server_core.specs.declared.change.Wanted.TheVariants as wanted
use Rattle.temp_files.proofs.lemmas.Joins.{joined_size}

-- ---- COMMITTMP

-- what becomes of one whose temporary file has ended
abbrev ends_by : State → (session xid : ℕ) → Result ℕ Status → Option (List ℕ) → State × ServerStep
ends_by s session xid (Err e) o = answers s session xid (lb.CommitTmpAnswer (Failed e tt))
ends_by s session xid (Ok id) None = answers s session xid (lb.CommitTmpAnswer (Failed status.Inval tt))
ends_by s session xid (Ok id) (Some content) = comes s (change_of session xid id (wanted.Content content))

-- a content that is whole for a size has that size
pub whole_size : (t : Temp) (size : ℕ) (content : List ℕ) → Some content ≡ assembled t size → length content ≡ size
whole_size t size content is = omega (arith, joined_size 0 size t.pieces content (sym is))

-- whether it can be done doesn't rest on the temporary files
commits_as : (s : State) (left : Temps) (session xid size : ℕ) (t : Temp) (n : Result Node Status)
    → takes_commit_on (record s { temps = left }) session xid size t n ≡ ends_by (record s { temps = left }) session xid (commit_target s session size t (target_in n)) (assembled t size)
commits_as s left session xid size t (Err e) = refl
commits_as s left session xid size t (Ok directory) = refl
commits_as s left session xid size t (Ok (file f)) = by (nat_lt size_most size) (assembled t size) refl
  where
    ended : State
    ended = record s { temps = left }

    target : (big some wait full : Bool) → Result ℕ Status
    target big some wait full = if big then Err status.FBig else if some then (if wait then Err status.Jukebox else if full then Err status.NoSpc else Ok f.id) else Err status.Inval

    fits : (content : List ℕ) (w u : Bool)
        → (if w then answers ended session xid (lb.CommitTmpAnswer (Failed status.Jukebox tt))
        else if u then answers ended session xid (lb.CommitTmpAnswer (Failed status.NoSpc tt))
        else comes ended (change_of session xid f.id (wanted.Content content)))
        ≡ ends_by ended session xid (target false true w u) (Some content)
    fits content true u = refl
    fits content false true = refl
    fits content false false = refl

    by : (b : Bool) (o : Option (List ℕ)) → assembled t size ≡ o
        → (if b then answers ended session xid (lb.CommitTmpAnswer (Failed status.FBig tt)) else commits_whole ended session xid f.id o)
        ≡ ends_by ended session xid (target b (is_some o) (has_waiting s.waiting session) (is_full s size)) o
    by true o is = refl
    by false None is = refl
    by false (Some content) is =
        fits content (has_waiting s.waiting session) (is_full s (length content))
        ∙ ap (λ n. ends_by ended session xid (target false true (has_waiting s.waiting session) (is_full s n)) (Some content)) (whole_size t size content (sym is))

-- one that is refused
pub commit_refused : (s : State) (session xid : ℕ) (a : Commit) (t : Temp) (e : Status) (temps : Temps) (o : ServerStep)
    → temp_at s.temps session a.fd ≡ Some t → commit_target s session a.size t (target_in (node_of s.tree a.handle)) ≡ Err e
    → temps ≡ without_temp s.temps session a.fd → o ≡ to session (message.Answer xid (body.Lb (lb.CommitTmpAnswer (Failed e tt))))
    → takes_commit s session xid a (temp_at s.temps session a.fd) ≡ (record s { temps = temps }, o)
commit_refused s session xid a t e temps o at target ended said =
    let left : Temps = without_temp s.temps session a.fd in
    ap (λ (x : Option Temp). takes_commit s session xid a x) at
    ∙ commits_as s left session xid a.size t (node_of s.tree a.handle)
    ∙ ap (λ (x : Result ℕ Status). ends_by (record s { temps = left }) session xid x (assembled t a.size)) target
    ∙ ap (λ (l : Temps). (record s { temps = l }, to session (message.Answer xid (body.Lb (lb.CommitTmpAnswer (Failed e tt)))))) (sym ended)
    ∙ ap (λ (x : ServerStep). (record s { temps = temps }, x)) (sym said)

-- one whose change waits from now on
pub commit_taken : (s n : State) (session xid id : ℕ) (a : Commit) (t : Temp) (content : List ℕ) (o : ServerStep)
    → temp_at s.temps session a.fd ≡ Some t → commit_target s session a.size t (target_in (node_of s.tree a.handle)) ≡ Ok id
    → Some content ≡ assembled t a.size → admits s session xid id a.fd content ≡ (n, o)
    → takes_commit s session xid a (temp_at s.temps session a.fd) ≡ (n, o)
commit_taken s n session xid id a t content o at target whole waits =
    let left : Temps = without_temp s.temps session a.fd in
    ap (λ (x : Option Temp). takes_commit s session xid a x) at
    ∙ commits_as s left session xid a.size t (node_of s.tree a.handle)
    ∙ ap (λ (x : Result ℕ Status). ends_by (record s { temps = left }) session xid x (assembled t a.size)) target
    ∙ ap (λ (x : Option (List ℕ)). ends_by (record s { temps = left }) session xid (Ok id) x) (sym whole)
    ∙ waits

-- the same of one that may not be there
pub whole_of_size : (t : Option Temp) (size : ℕ) (content : List ℕ) → Some content ≡ whole_of t size → length content ≡ size
whole_of_size None size content is = absurd (true≢false (ap is_some is))
whole_of_size (Some t) size content is = whole_size t size content is

-- what is there
pub there : (o : Option (List ℕ)) → is_some o ≡ true → (content : List ℕ) × (Some content ≡ o)
there None h = absurd (true≢false (sym h))
there (Some content) h = (content, refl)

-- what can be done is whole, within the limit of a file, and has its place
pub target_fits : (s : State) (session size : ℕ) (t : Temp) (r : Result ℕ Status) (id : ℕ) → commit_target s session size t r ≡ Ok id
    → (size ≤ size_most) × (is_some (assembled t size) ≡ true) × (is_full s size ≡ false) × (has_waiting s.waiting session ≡ false)
target_fits s session size t (Err e) id h = absurd (true≢false (sym (ap is_ok h)))
target_fits s session size t (Ok n) id h = by (nat_lt size_most size) (is_some (assembled t size)) (has_waiting s.waiting session) (is_full s size) refl refl refl refl h
  where
    by : (big some wait full : Bool) → nat_lt size_most size ≡ big → is_some (assembled t size) ≡ some → has_waiting s.waiting session ≡ wait → is_full s size ≡ full
        → (if big then Err status.FBig else if some then (if wait then Err status.Jukebox else if full then Err status.NoSpc else Ok n) else Err status.Inval) ≡ Ok id
        → (size ≤ size_most) × (is_some (assembled t size) ≡ true) × (is_full s size ≡ false) × (has_waiting s.waiting session ≡ false)
    by true some wait full p q w r g = absurd (true≢false (sym (ap is_ok g)))
    by false false wait full p q w r g = absurd (true≢false (sym (ap is_ok g)))
    by false true true full p q w r g = absurd (true≢false (sym (ap is_ok g)))
    by false true false true p q w r g = absurd (true≢false (sym (ap is_ok g)))
    by false true false false p q w r g = (grind (arith, p), q, r, w)

-- ---- the bytes that wait

pub waiting_size_more : (ws : List FileChange) (c : FileChange) → waiting_size (ws ++ c ∷ []) ≡ waiting_size ws + size_wanted c.what
waiting_size_more [] c = search arith
waiting_size_more (w ∷ ws) c = omega (arith, waiting_size_more ws c)
