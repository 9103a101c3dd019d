-- What is said for a walk: calls on names and their answers, which count nothing of files.
use Rattle.std.proofs.Common.{◌≡◌, ℕ, List, [], ◌∷◌, ◌++◌, None, true, false, ◌==◌, refl, sym, ap, ◌∙◌, subst, arith, append-nil}
use Rattle.nfs3_calls.specs.Nfs.{nfs_proc, proc_number}
use Rattle.nfs3_calls.specs.declared.message.Nfs.{Nfs}
use Rattle.nfs3_calls.specs.declared.message.Nfs.TheVariants as nfs
use Rattle.wire.specs.declared.message.Body.TheVariants as body
use Rattle.wire.specs.declared.message.Message.TheVariants as message
use Rattle.path_calls.specs.Walk.{call_at, next_call}
use Rattle.path_calls.specs.declared.walk.Goal.{Goal}
use Rattle.path_calls.specs.declared.walk.Goal.TheVariants as goal
use Rattle.path_calls.specs.declared.walk.Walk.{Walk}
use Rattle.open_close.specs.Walking.{is_its}
use Rattle.trace_replay.specs.Fetches.{Fetched, begins_by, fetch_with, fetch_from, over_if, over_from}
use Rattle.trace_replay.specs.Owing.{Owing, owes_nothing, owing_with, owing_from, Pays, Answers, PaysAll}
use Rattle.trace_replay.specs.Traffic.{Attempts, attempts_with, attempts_from, named_by, named_in, unknown_in, made_in, commits_in, bytes_in}
use Rattle.kept_promise.proofs.Common.{Deal, Deal.Sent, Deal.Took}
use Rattle.kept_promise.proofs.Lists.{false_and_true}
use Rattle.kept_promise.proofs.LogSums.{came_in, asked_in, begins_in, whole_in}
pub use Rattle.kept_promise.proofs.FindsOpen.{finds_open, finds_rewrite}

-- ---- such messages

-- a call on names, or an answer to one
abbrev pub IsNameDeal : Deal → Type 0
IsNameDeal (Sent (message.Call x (body.Nfs (nfs.Read r)))) = ⊥
IsNameDeal (Sent (message.Call x (body.Nfs m))) = Unit {0}
IsNameDeal (Took (message.Answer x (body.Nfs (nfs.ReadAnswer a)))) = ⊥
IsNameDeal (Took (message.Answer x (body.Nfs m))) = Unit {0}
IsNameDeal d = ⊥

abbrev pub NamesOnly : List Deal → Type 0
NamesOnly [] = Unit {0}
NamesOnly (d ∷ ds) = IsNameDeal d × NamesOnly ds

pub names_join : (a b : List Deal) → NamesOnly a → NamesOnly b → NamesOnly (a ++ b)
names_join [] b h k = k
names_join (d ∷ a) b h k = (h.0, names_join a b h.1 k)

-- a walk's next call is one
pub call_named : (x dir : ℕ) (left : List (List ℕ)) (g : Goal) → IsNameDeal (Sent (message.Call x (body.Nfs (call_at dir left g))))
call_named x dir (n ∷ ns) g = tt
call_named x dir [] (goal.Find n) = tt
call_named x dir _ _ = tt

no_read : (dir : ℕ) (left : List (List ℕ)) (g : Goal) → (6 == proc_number (nfs_proc (call_at dir left g))) ≡ false
no_read dir (n ∷ ns) g = refl
no_read dir [] (goal.Find n) = refl
no_read dir _ _ = refl

-- and an answer to it
pub answer_named : (x : ℕ) (w : Walk) (a : Nfs) → is_its w a ≡ true → IsNameDeal (Took (message.Answer x (body.Nfs a)))
answer_named x w (nfs.ReadAnswer a) own = absurd (false_and_true (6 == proc_number (nfs_proc (next_call w))) (no_read w.dir w.left w.goal) own)
answer_named x w a own = tt

-- ---- they count nothing

-- what one of them counts
pub record CountsNone (d : Deal) : Type 0 where
  pub begins : begins_in (d ∷ []) ≡ 0
  pub asked : asked_in (d ∷ []) ≡ 0
  pub came : came_in (d ∷ []) ≡ 0
  pub named : named_in (d ∷ []) ≡ []
  pub unknown : unknown_in (d ∷ []) ≡ 0
  pub whole : whole_in (d ∷ []) ≡ 0
  pub bytes : bytes_in (d ∷ []) ≡ 0
  pub made : made_in (d ∷ []) ≡ 0
  pub commits : commits_in (d ∷ []) ≡ 0
  pub fetch : (f : Fetched) → fetch_with f d ≡ f
  pub over : (f : Fetched) → over_from f (d ∷ []) ≡ []
  pub attempts : (t : Attempts) → attempts_with t d ≡ t
  pub owing : owing_with owes_nothing d ≡ owes_nothing

pub one_none : (d : Deal) → IsNameDeal d → CountsNone d
one_none (Sent (message.Call x (body.Nfs (nfs.Read r)))) h = absurd h
one_none (Sent (message.Call x (body.Nfs m))) h = record { begins = omega arith; asked = omega arith; came = omega arith; named = refl; unknown = omega arith; whole = omega arith; bytes = omega arith; made = omega arith; commits = omega arith; fetch = λ f. refl; over = λ f. refl; attempts = λ t. refl; owing = refl }
one_none (Took (message.Answer x (body.Nfs (nfs.ReadAnswer a)))) h = absurd h
one_none (Took (message.Answer x (body.Nfs m))) h = record { begins = omega arith; asked = omega arith; came = omega arith; named = refl; unknown = omega arith; whole = omega arith; bytes = omega arith; made = omega arith; commits = omega arith; fetch = λ f. refl; over = λ f. refl; attempts = λ t. refl; owing = refl }
one_none d h = absurd h

-- and all of them
pub record NamesCount (log : List Deal) : Type 0 where
  pub begins : begins_in log ≡ 0
  pub asked : asked_in log ≡ 0
  pub came : came_in log ≡ 0
  pub named : named_in log ≡ []
  pub unknown : unknown_in log ≡ 0
  pub whole : whole_in log ≡ 0
  pub bytes : bytes_in log ≡ 0
  pub made : made_in log ≡ 0
  pub commits : commits_in log ≡ 0
  pub fetch : (f : Fetched) → fetch_from f log ≡ f
  pub over : (f : Fetched) → over_from f log ≡ []
  pub attempts : (t : Attempts) → attempts_from t log ≡ t
  pub owing : owing_from owes_nothing log ≡ owes_nothing

pub names_count : (log : List Deal) → NamesOnly log → NamesCount log
names_count [] h = record { begins = refl; asked = refl; came = refl; named = refl; unknown = refl; whole = refl; bytes = refl; made = refl; commits = refl; fetch = λ f. refl; over = λ f. refl; attempts = λ t. refl; owing = refl }
names_count (d ∷ log) h =
    let one = one_none d h.0 in
    let later = names_count log h.1 in
    let a = one.begins in
    let b = later.begins in
    let c = one.asked in
    let e = later.asked in
    let g = one.came in
    let i = later.came in
    let j = one.unknown in
    let k = later.unknown in
    let l = one.whole in
    let m = later.whole in
    let x = one.bytes in
    let y = later.bytes in
    let n = one.made in
    let p = later.made in
    let q = one.commits in
    let r = later.commits in
    record {
      begins = omega (arith, a, b);
      asked = omega (arith, c, e);
      came = omega (arith, g, i);
      named = ap (λ l. l ++ named_in log) (sym (append-nil (named_by d)) ∙ one.named) ∙ later.named;
      unknown = omega (arith, j, k);
      whole = omega (arith, l, m);
      bytes = omega (arith, x, y);
      made = omega (arith, n, p);
      commits = omega (arith, q, r);
      fetch = λ f. ap (λ (z : Fetched). fetch_from z log) (one.fetch f) ∙ later.fetch f;
      over = λ f. ap (λ l. l ++ over_from (fetch_with f d) log) (sym (append-nil (over_if (begins_by d) f)) ∙ one.over f) ∙ later.over (fetch_with f d);
      attempts = λ t. ap (λ (z : Attempts). attempts_from z log) (one.attempts t) ∙ later.attempts t;
      owing = ap (λ (z : Owing). owing_from z log) one.owing ∙ later.owing;
    }

-- and nothing is owed for them
pub names_pay : (v : List ℕ) (log : List Deal) → NamesOnly log → PaysAll v owes_nothing log
names_pay v [] h = refl
names_pay v (d ∷ log) h = (pays d h.0, answers d h.0, subst (λ (o : Owing). PaysAll v o log) (sym (one_none d h.0).owing) (names_pay v log h.1))
  where
    pays : (d : Deal) → IsNameDeal d → Pays v None d
    pays (Sent (message.Call x (body.Nfs m))) h = tt
    pays (Took (message.Answer x (body.Nfs m))) h = tt
    pays d h = absurd h

    answers : (d : Deal) → IsNameDeal d → Answers [] d
    answers (Sent (message.Call x (body.Nfs m))) h = tt
    answers (Took (message.Answer x (body.Nfs m))) h = tt
    answers d h = absurd h
