-- RECALLs on their way, and answers to them: all are apart, and the server waits for each answer, through whatever it does.
use Rattle.std.proofs.Common.{◌≡◌, ◌⊎◌, inl, inr, ℕ, ◌+◌, ◌≤◌, List, [], ◌∷◌, ◌++◌, length, Option, Some, None, Result, Ok, Err, Bool, true, false, refl, sym, ap, ◌∙◌, subst, arith, map}
use Rattle.std.specs.Prelude.{◌==◌, ◌||◌, not, cond, find, filter, nat_lt, if◌then◌else◌, unwrap_or}
use Rattle.std.specs.List.{list_any, AllByRecursion}
use Rattle.std.proofs.lemmas.Bool.Decides.{nat_tests}
use Rattle.std.proofs.lemmas.List.Folds.{list_any-append}
use Rattle.xdr_codec.specs.declared.answer.Answer.TheVariants.{Failed}
use Rattle.xdr_codec.specs.declared.status.Status.{Status}
use Rattle.xdr_codec.specs.declared.status.Status.TheVariants as status
use Rattle.hash_calls.specs.declared.call.Commit.{Commit}
use Rattle.hash_calls.specs.declared.call.CondPiece.{CondPiece}
use Rattle.hash_calls.specs.declared.call.TempPiece.{TempPiece}
use Rattle.hash_calls.specs.declared.message.Back.TheVariants as back
use Rattle.hash_calls.specs.declared.message.BackProc.TheVariants as back_proc
use Rattle.hash_calls.specs.declared.message.Lb.TheVariants as lb
use Rattle.nfs3_calls.specs.declared.message.Nfs.{Nfs}
use Rattle.nfs3_calls.specs.declared.message.Nfs.TheVariants as nfs
use Rattle.wire.specs.Parse.{waiting}
use Rattle.wire.specs.declared.message.Body.{Body}
use Rattle.wire.specs.declared.message.Body.TheVariants as body
use Rattle.wire.specs.declared.message.Message.{Message}
use Rattle.wire.specs.declared.message.Message.TheVariants as message
use Rattle.wire.specs.declared.message.Pending.{Pending}
use Rattle.wire.specs.declared.message.Program.{Program}
use Rattle.wire.specs.declared.message.Program.TheVariants as program
use Rattle.temp_files.specs.Pieces.{size_most}
use Rattle.temp_files.specs.Temps.{Temp, temp_at, room_fault, piece_fault, without_temp, assembled}
use Rattle.limits.specs.declared.TheConstants.{XIDS_MOST}
use Rattle.lease_rules.specs.declared.change.Recall.{Recall}
use Rattle.lease_rules.specs.Xids.{draw}
use Rattle.lease_table.proofs.lemmas.Lists.{or_else, find_append, find_kept, find_none_kept, some_is}
use Rattle.callback_core.specs.BackCalls.{BackCall, unasked, recall_pending, recalled_if, is_at, call_at, xid_at, hung, with_call, asks_if, asked_with, asks, answered, answered_by as used_by}
use Rattle.callback_core.specs.Waits.{without}
use Rattle.callback_core.specs.declared.back_calls.Asked.{Asked}
use Rattle.tree_reading.specs.Tree.{Tree}
use Rattle.tree_calls.specs.Waiting.{calls_under, file_of}
use Rattle.tree_calls.specs.declared.asked.Outcome.{Outcome}
use Rattle.tree_calls.specs.declared.asked.Outcome.TheVariants.{Answered, Waits}
use Rattle.chunk_calls.specs.Answers.{Node, directory, file as a_file, node_of}
use Rattle.chunk_calls.specs.Writing.{cond_fault, bytes_known}
use Rattle.chunk_index.specs.Index.{key_of, place_of}
use Rattle.server_core.specs.declared.change.Wanted.{Wanted}
use Rattle.server_core.specs.declared.change.Wanted.TheVariants as wanted
use Rattle.server_core.specs.declared.event.Event.{Event}
use Rattle.server_core.specs.declared.event.Event.TheVariants as event
use Rattle.server_core.specs.declared.event.Sent.{Sent}
use Rattle.server_core.specs.declared.event.ServerStep.{ServerStep}
use Rattle.server_core.specs.Closing.{at, answers, has_waiting, is_full, makes, makes_unless, writes_unless, names_unless, names_bytes, looked_up, takes_commit, takes_commit_on, commits_whole, makes_change_under, settles_by, settles_under, ready_by}
use Rattle.server_core.specs.Recalling.{recall_sent, recalls_for, comes}
use Rattle.server_core.specs.State.{State, FileChange, change_of, held, stands}
use Rattle.server_core.specs.Step.{called_under, asks as asks_outcome, asks_tree, got_if_under, connect, has_room, hangs, hangs_if, server_step_under}
use Rattle.lease_law.specs.Claims.{Way, recall_message, answered_by, called_by}
use Rattle.lease_law.specs.Orderly.{IsUpTo, AreNumbered, sent_on, behind_with}
use Rattle.lease_law.proofs.lemmas.Claiming.{behind_none}
use Rattle.lease_law.proofs.lemmas.Asking.{AreXids, asks_numbered, asks_unsent, sent_cons, behind_join}
use Rattle.kept_promise.proofs.Lists.{nothing_there}

-- ---- what is said of them

abbrev pub recall_answer : (xid : ℕ) → Message
recall_answer xid = message.Answer xid (body.Back back.RecallAnswer)

abbrev pub recall_program : Program
recall_program = program.Back back_proc.Recall

abbrev pub IsWaited : List Pending → Option ℕ → Type 0
IsWaited waits None = Unit {0}
IsWaited waits (Some xid) = waiting xid waits ≡ Some recall_program

pub record AreWaited (waits : List Pending) (ups downs : List Message) : Type 0 where
  pub answers : AllByRecursion (λ m. IsWaited waits (answered_by m)) ups
  pub calls : AllByRecursion (λ m. IsWaited waits (called_by m)) downs

-- no two answers are to one RECALL, nor is one to a RECALL that is still on its way
abbrev pub AreTwo : Message → Message → Type 0
AreTwo m n = (xid : ℕ) → answered_by m ≡ Some xid → answered_by n ≡ Some xid → ⊥

abbrev pub AllOnce : List Message → Type 0
AllOnce [] = Unit {0}
AllOnce (m ∷ ms) = AllByRecursion (AreTwo m) ms × AllOnce ms

abbrev pub IsBeside : (up down : Message) → Type 0
IsBeside u d = (xid : ℕ) → answered_by u ≡ Some xid → called_by d ≡ Some xid → ⊥

abbrev pub AllBeside : (ups downs : List Message) → Type 0
AllBeside ups downs = AllByRecursion (λ u. AllByRecursion (IsBeside u) downs) ups

-- as long as the session stands all are waited for
pub record AreAwaited (s : State) (session : ℕ) (ups downs : List Message) : Type 0 where
  pub waited : stands s session ≡ true → AreWaited (call_at s.leasing.calls session).waits ups downs
  pub once : AllOnce ups
  pub beside : AllBeside ups downs

-- what waits for an answer is a RECALL
abbrev pub OnlyRecalls : List Pending → Type 0
OnlyRecalls waits = AllByRecursion (λ p. p.program ≡ recall_program) waits

abbrev pub AreRecalls : List BackCall → Type 0
AreRecalls calls = AllByRecursion (λ c. OnlyRecalls c.waits) calls

-- ---- lists

no : {A : Type 0} → true ≡ false → A
no e = absurd cc

pub all_map : {A : Type 0} (P Q : A → Type 0) (xs : List A) → ((x : A) → P x → Q x) → AllByRecursion P xs → AllByRecursion Q xs
all_map P Q [] f h = tt
all_map P Q (x ∷ xs) f h = (f x h.0, all_map P Q xs f h.1)

pub all_join : {A : Type 0} (P : A → Type 0) (xs ys : List A) → AllByRecursion P xs → AllByRecursion P ys → AllByRecursion P (xs ++ ys)
all_join P [] ys h k = k
all_join P (x ∷ xs) ys h k = (h.0, all_join P xs ys h.1 k)

pub all_kept : {A : Type 0} (P : A → Type 0) (keep : A → Bool) (xs : List A) → AllByRecursion P xs → AllByRecursion P (filter keep xs)
all_kept P keep [] h = tt
all_kept P keep (x ∷ xs) h = by (keep x) (all_kept P keep xs h.1)
  where
    by : (b : Bool) → AllByRecursion P (filter keep xs) → AllByRecursion P (cond b (x ∷ filter keep xs) (filter keep xs))
    by true later = (h.0, later)
    by false later = later

-- both at once
pub all_both : {A : Type 0} (P Q : A → Type 0) (xs : List A) → AllByRecursion P xs → AllByRecursion Q xs → AllByRecursion (λ x. P x × Q x) xs
all_both P Q [] h k = tt
all_both P Q (x ∷ xs) h k = ((h.0, k.0), all_both P Q xs h.1 k.1)

-- ---- what waits under an xid

waiting_more : (x : ℕ) (p : Program) (ws vs : List Pending) → waiting x ws ≡ Some p → waiting x (ws ++ vs) ≡ Some p
waiting_more x p [] vs e = absurd cc
waiting_more x p (w ∷ ws) vs e = by (w.xid == x) e (waiting_more x p ws vs)
  where
    by : (b : Bool) → (if b then Some w.program else waiting x ws) ≡ Some p → (waiting x ws ≡ Some p → waiting x (ws ++ vs) ≡ Some p) → (if b then Some w.program else waiting x (ws ++ vs)) ≡ Some p
    by true e later = e
    by false e later = later e

waiting_new : (x : ℕ) (ws : List Pending) → OnlyRecalls ws → waiting x (ws ++ recall_pending x ∷ []) ≡ Some recall_program
waiting_new x [] h = by (x == x) (grind (arith, nat_tests))
  where
    by : (b : Bool) → b ≡ true → (if b then Some recall_program else None) ≡ Some recall_program
    by true e = refl
    by false e = no (sym e)
waiting_new x (w ∷ ws) h = by (w.xid == x) (waiting_new x ws h.1)
  where
    by : (b : Bool) → waiting x (ws ++ recall_pending x ∷ []) ≡ Some recall_program → (if b then Some w.program else waiting x (ws ++ recall_pending x ∷ [])) ≡ Some recall_program
    by true later = ap (λ (p : Program). Some p) h.0
    by false later = later

waiting_others : (x y : ℕ) (p : Program) (ws : List Pending) → (y ≡ x → ⊥) → waiting y ws ≡ Some p → waiting y (filter (λ w. not (w.xid == x)) ws) ≡ Some p
waiting_others x y p [] apart e = e
waiting_others x y p (w ∷ ws) apart e = by (w.xid == x) (w.xid == y) refl refl e (waiting_others x y p ws apart)
  where
    by : (b d : Bool) → (w.xid == x) ≡ b → (w.xid == y) ≡ d → (if d then Some w.program else waiting y ws) ≡ Some p → (waiting y ws ≡ Some p → waiting y (filter (λ w. not (w.xid == x)) ws) ≡ Some p)
        → waiting y (cond (not b) (w ∷ filter (λ w. not (w.xid == x)) ws) (filter (λ w. not (w.xid == x)) ws)) ≡ Some p
    by true true a c e later = let p : w.xid ≡ x = grind (arith, nat_tests, a) in let q : w.xid ≡ y = grind (arith, nat_tests, c) in absurd (apart (sym q ∙ p))
    by true false a c e later = later e
    by false true a c e later = ap (λ (d : Bool). if d then Some w.program else waiting y (filter (λ w. not (w.xid == x)) ws)) c ∙ e
    by false false a c e later = ap (λ (d : Bool). if d then Some w.program else waiting y (filter (λ w. not (w.xid == x)) ws)) c ∙ later e

waited_more : (ws vs : List Pending) (o : Option ℕ) → IsWaited ws o → IsWaited (ws ++ vs) o
waited_more ws vs None h = tt
waited_more ws vs (Some x) h = waiting_more x recall_program ws vs h

waited_others : (x : ℕ) (ws : List Pending) (o : Option ℕ) → (o ≡ Some x → ⊥) → IsWaited ws o → IsWaited (filter (λ w. not (w.xid == x)) ws) o
waited_others x ws None apart h = tt
waited_others x ws (Some y) apart h = waiting_others x y recall_program ws (λ e. apart (ap (λ (n : ℕ). Some n) e)) h

-- ---- a session's calls

is_own : (calls : List BackCall) (n : ℕ) (c : BackCall) → find (is_at n) calls ≡ Some c → c.session ≡ n
is_own [] n c e = absurd cc
is_own (d ∷ ds) n c e = by (is_at n d) refl e (is_own ds n c)
  where
    by : (b : Bool) → is_at n d ≡ b → cond b (Some d) (find (is_at n) ds) ≡ Some c → (find (is_at n) ds ≡ Some c → c.session ≡ n) → c.session ≡ n
    by true is e later = subst (λ (z : BackCall). z.session ≡ n) (some_is d c e) (grind (arith, nat_tests, is))
    by false is e later = later e

call_own : (calls : List BackCall) (n : ℕ) → (call_at calls n).session ≡ n
call_own calls n = by (find (is_at n) calls) refl
  where
    by : (o : Option BackCall) → find (is_at n) calls ≡ o → (unwrap_or o (unasked n)).session ≡ n
    by None e = refl
    by (Some c) e = is_own calls n c e

at_own : (c : BackCall) (n : ℕ) → c.session ≡ n → is_at n c ≡ true
at_own c n e = grind (arith, nat_tests, e)

at_other : (c : BackCall) (n s : ℕ) → c.session ≡ n → (n ≡ s → ⊥) → is_at s c ≡ false
at_other c n s e apart = by (is_at s c) refl
  where
    by : (b : Bool) → is_at s c ≡ b → b ≡ false
    by true is = let same : c.session ≡ s = grind (arith, nat_tests, is) in absurd (apart (sym e ∙ same))
    by false is = refl

kept_beside : (n s : ℕ) → (n ≡ s → ⊥) → (d : BackCall) → is_at s d ≡ true → not (is_at n d) ≡ true
kept_beside n s apart d is = by (is_at n d) refl
  where
    by : (b : Bool) → is_at n d ≡ b → not b ≡ true
    by false e = refl
    by true e = let a : d.session ≡ n = grind (arith, nat_tests, e) in let b : d.session ≡ s = grind (arith, nat_tests, is) in absurd (apart (sym a ∙ b))

pub at_with : (calls : List BackCall) (n : ℕ) (c : BackCall) → c.session ≡ n → call_at (with_call calls n c) n ≡ c
at_with calls n c own =
    ap (λ (o : Option BackCall). unwrap_or o (unasked n))
    (find_append (is_at n) (hung calls n) (c ∷ [])
    ∙ ap (λ (o : Option BackCall). or_else o (find (is_at n) (c ∷ []))) (find_none_kept (is_at n) (λ d. not (is_at n d)) (λ d e. ap not e) calls)
    ∙ ap (λ (b : Bool). cond b (Some c) None) (at_own c n own))

pub at_beside : (calls : List BackCall) (n s : ℕ) (c : BackCall) → c.session ≡ n → (n ≡ s → ⊥) → call_at (with_call calls n c) s ≡ call_at calls s
at_beside calls n s c own apart =
    ap (λ (o : Option BackCall). unwrap_or o (unasked s))
    (find_append (is_at s) (hung calls n) (c ∷ [])
    ∙ ap (λ (o : Option BackCall). or_else o (find (is_at s) (c ∷ []))) (find_kept (is_at s) (λ d. not (is_at n d)) (kept_beside n s apart) calls)
    ∙ ap (λ (b : Bool). or_else (find (is_at s) calls) (cond b (Some c) None)) (at_other c n s own apart)
    ∙ none_else (find (is_at s) calls))
  where
    none_else : (o : Option BackCall) → or_else o None ≡ o
    none_else None = refl
    none_else (Some d) = refl

pub at_hung : (calls : List BackCall) (n s : ℕ) → (n ≡ s → ⊥) → call_at (hung calls n) s ≡ call_at calls s
at_hung calls n s apart = ap (λ (x : Option BackCall). unwrap_or x (unasked s)) (find_kept (is_at s) (λ d. not (is_at n d)) (kept_beside n s apart) calls)

used_session : (n xid : ℕ) (c : BackCall) → (used_by n xid c).session ≡ c.session
used_session n xid c = by (is_at n c)
  where
    by : (b : Bool) → (let d : BackCall = if b then record c { waits = filter (λ p. not (p.xid == xid)) c.waits } else c in d.session) ≡ c.session
    by true = refl
    by false = refl

pub at_used : (calls : List BackCall) (n xid s : ℕ) → call_at (answered calls n xid) s ≡ used_by n xid (call_at calls s)
at_used [] n xid s = by (s == n)
  where
    by : (b : Bool) → unasked s ≡ (if b then unasked s else unasked s)
    by true = refl
    by false = refl
at_used (d ∷ ds) n xid s =
    ap (λ (b : Bool). unwrap_or (cond b (Some (used_by n xid d)) (find (is_at s) (answered ds n xid))) (unasked s)) (ap (λ (k : ℕ). k == s) (used_session n xid d)) ∙ by (is_at s d) (at_used ds n xid s)
  where
    by : (b : Bool) → call_at (answered ds n xid) s ≡ used_by n xid (call_at ds s) → unwrap_or (cond b (Some (used_by n xid d)) (find (is_at s) (answered ds n xid))) (unasked s) ≡ used_by n xid (unwrap_or (cond b (Some d) (find (is_at s) ds)) (unasked s))
    by true later = refl
    by false later = later

pub recalls_at : (calls : List BackCall) (s : ℕ) → AreRecalls calls → OnlyRecalls (call_at calls s).waits
recalls_at [] s h = tt
recalls_at (c ∷ cs) s h = by (is_at s c) (recalls_at cs s h.1)
  where
    by : (b : Bool) → OnlyRecalls (call_at cs s).waits → OnlyRecalls (unwrap_or (cond b (Some c) (find (is_at s) cs)) (unasked s)).waits
    by true later = h.0
    by false later = later

-- what waits under an xid is a RECALL
pub recall_at : (waits : List Pending) (x : ℕ) (p : Program) → OnlyRecalls waits → waiting x waits ≡ Some p → p ≡ recall_program
recall_at [] x p h e = nothing_there p e
recall_at (w ∷ ws) x p h e = by (w.xid == x) (recall_at ws x p h.1) e
  where
    by : (b : Bool) → (waiting x ws ≡ Some p → p ≡ recall_program) → (if b then Some w.program else waiting x ws) ≡ Some p → p ≡ recall_program
    by true later e = sym (some_is w.program p e) ∙ h.0
    by false later e = later e

-- ---- a session is asked for a lease, or not

recalled_own : (c : BackCall) (o : Option ℕ) → (recalled_if c o).session ≡ c.session
recalled_own c None = refl
recalled_own c (Some x) = refl

pub asked_own : (calls : List BackCall) (n : ℕ) (o : Option ℕ) → (recalled_if (call_at calls n) o).session ≡ n
asked_own calls n o = recalled_own (call_at calls n) o ∙ call_own calls n

asked_recalls : (calls : List BackCall) (n : ℕ) (o : Option ℕ) → AreRecalls calls → AreRecalls (asks_if calls n o)
asked_recalls calls n o h = all_join (λ c. OnlyRecalls c.waits) (hung calls n) (recalled_if (call_at calls n) o ∷ []) (all_kept (λ c. OnlyRecalls c.waits) (λ c. not (is_at n c)) calls h) (by o, tt)
  where
    by : (o : Option ℕ) → OnlyRecalls (recalled_if (call_at calls n) o).waits
    by None = recalls_at calls n h
    by (Some x) = all_join (λ p. p.program ≡ recall_program) (call_at calls n).waits (recall_pending x ∷ []) (recalls_at calls n h) (refl, tt)

pub asks_recalls : (rs : List Recall) (calls : List BackCall) → AreRecalls calls → AreRecalls (asks calls rs).0
asks_recalls [] calls h = h
asks_recalls (r ∷ rs) calls h = asks_recalls rs (asks_if calls r.session (xid_at calls r.session)) (asked_recalls calls r.session (xid_at calls r.session) h)

-- all that was waited for is so still
asked_waits : (calls : List BackCall) (n s : ℕ) (o p : Option ℕ) → IsWaited (call_at calls s).waits p → IsWaited (call_at (asks_if calls n o) s).waits p
asked_waits calls n s o p h = by (n == s) refl
  where
    more : (o : Option ℕ) (c : BackCall) → IsWaited c.waits p → IsWaited (recalled_if c o).waits p
    more None c h = h
    more (Some x) c h = waited_more c.waits (recall_pending x ∷ []) p h

    by : (b : Bool) → (n == s) ≡ b → IsWaited (call_at (asks_if calls n o) s).waits p
    by true e =
        let same : n ≡ s = grind (arith, nat_tests, e) in
        subst (λ (m : ℕ). IsWaited (call_at calls m).waits p → IsWaited (call_at (asks_if calls n o) m).waits p) same
        (λ k. subst (λ (d : BackCall). IsWaited d.waits p) (sym (at_with calls n (recalled_if (call_at calls n) o) (asked_own calls n o))) (more o (call_at calls n) k)) h
    by false e = subst (λ (d : BackCall). IsWaited d.waits p) (sym (at_beside calls n s (recalled_if (call_at calls n) o) (asked_own calls n o) (λ q. no (sym (subst (λ (m : ℕ). (n == m) ≡ true) q (itself n)) ∙ e)))) h
      where
        itself : (m : ℕ) → (m == m) ≡ true
        itself m = grind (arith, nat_tests)

-- and so is what is asked for
asked_waited : (calls : List BackCall) (n x : ℕ) → AreRecalls calls → waiting x (call_at (asks_if calls n (Some x)) n).waits ≡ Some recall_program
asked_waited calls n x h =
    subst (λ (d : BackCall). waiting x d.waits ≡ Some recall_program) (sym (at_with calls n (recalled_if (call_at calls n) (Some x)) (asked_own calls n (Some x))))
    (waiting_new x (call_at calls n).waits (recalls_at calls n h))

drawn : (last x : ℕ) → draw last ≡ Some x → x ≡ last + 1
drawn last x e = by (nat_lt last XIDS_MOST) e
  where
    by : (b : Bool) → (if b then Some (last + 1) else None) ≡ Some x → x ≡ last + 1
    by true e = some_is x (last + 1) (sym e)
    by false e = nothing_there x e

-- no answer is to what is asked for just now
fresh_beside : (last x : ℕ) (ups : List Message) (d : Message) → x ≡ last + 1 → called_by d ≡ Some x → AllByRecursion (λ m. IsUpTo last (answered_by m)) ups → AllByRecursion (λ u. IsBeside u d) ups
fresh_beside last x [] d e is h = tt
fresh_beside last x (u ∷ us) d e is h =
    ((λ y a b. let le : y ≤ last = subst (IsUpTo last) a h.0 in let same : y ≡ x = some_is y x (sym b ∙ is) in omega (arith, le, e, same)), fresh_beside last x us d e is h.1)

beside_more : (ups downs : List Message) (d : Message) → AllBeside ups downs → AllByRecursion (λ u. IsBeside u d) ups → AllBeside ups (downs ++ d ∷ [])
beside_more [] downs d h k = tt
beside_more (u ∷ us) downs d h k = (all_join (IsBeside u) downs (d ∷ []) h.0 (k.0, tt), beside_more us downs d h.1 k.1)

-- ---- all that are asked for

record IsOpen (calls : List BackCall) (s : ℕ) (ups downs : List Message) : Type 0 where
  pub waited : AreWaited (call_at calls s).waits ups downs
  pub beside : AllBeside ups downs

module _ (s : ℕ) (way : Way) where
  open_as : (calls : List BackCall) (ms ns : List Message) → ms ≡ ns → IsOpen calls s way.ups ms → IsOpen calls s way.ups ns
  open_as calls ms ns e h = subst (IsOpen calls s way.ups) e h

  -- the xids of one alone
  xids_one : (r : Recall) (calls : List BackCall) (downs : List Message) (o : Option ℕ) → xid_at calls r.session ≡ o → AreXids calls s way.ups downs
      → AreXids (asks_if calls r.session o) s way.ups (behind_with way downs (sent_on s (map recall_sent (asked_with r o ++ []))))
  xids_one r calls downs o e h = subst (λ (p : Option ℕ). AreXids (asks_if calls r.session p) s way.ups (behind_with way downs (sent_on s (map recall_sent (asked_with r p ++ []))))) e (asks_numbered s way (r ∷ []) calls downs h)

  open_later : (calls : List BackCall) (r : Recall) (o : Option ℕ) (downs : List Message) → IsOpen calls s way.ups downs → IsOpen (asks_if calls r.session o) s way.ups downs
  open_later calls r o downs h = record {
    waited = record {
      answers = all_map (λ m. IsWaited (call_at calls s).waits (answered_by m)) (λ m. IsWaited (call_at (asks_if calls r.session o) s).waits (answered_by m)) way.ups (λ m w. asked_waits calls r.session s o (answered_by m) w) h.waited.answers;
      calls = all_map (λ m. IsWaited (call_at calls s).waits (called_by m)) (λ m. IsWaited (call_at (asks_if calls r.session o) s).waits (called_by m)) downs (λ m w. asked_waits calls r.session s o (called_by m) w) h.waited.calls;
    };
    beside = h.beside;
  }

  open_one : (r : Recall) (calls : List BackCall) (downs : List Message) (x : ℕ) → xid_at calls r.session ≡ Some x → AreRecalls calls → AreXids calls s way.ups downs → IsOpen calls s way.ups downs
      → IsOpen (asks_if calls r.session (Some x)) s way.ups (behind_with way downs (sent_on s (recall_sent (record { session = r.session; file = r.file; xid = x }) ∷ [])))
  open_one r calls downs x e only xids h = split (r.session == s) refl
    where
      m : Message
      m = recall_message x r.file

      then_ : IsOpen (asks_if calls r.session (Some x)) s way.ups downs
      then_ = open_later calls r (Some x) downs h

      put : r.session ≡ s → (b : Bool) → IsOpen (asks_if calls r.session (Some x)) s way.ups (if b then downs else downs ++ m ∷ [])
      put same true = then_
      put same false = record {
        waited = record {
          answers = then_.waited.answers;
          calls = all_join (λ d. IsWaited (call_at (asks_if calls r.session (Some x)) s).waits (called_by d)) downs (m ∷ []) then_.waited.calls (subst (λ (n : ℕ). waiting x (call_at (asks_if calls r.session (Some x)) n).waits ≡ Some recall_program) same (asked_waited calls r.session x only), tt);
        };
        beside = beside_more way.ups downs m h.beside (fresh_beside (call_at calls s).last x way.ups m (drawn (call_at calls s).last x (ap (xid_at calls) (sym same) ∙ e)) refl xids.answers);
      }

      skip : (b : Bool) → IsOpen (asks_if calls r.session (Some x)) s way.ups (if b then downs else downs ++ [])
      skip true = then_
      skip false = open_as (asks_if calls r.session (Some x)) downs (downs ++ []) (sym (append_none downs)) then_
        where
          append_none : (xs : List Message) → xs ++ [] ≡ xs
          append_none [] = refl
          append_none (x ∷ xs) = ap (λ (l : List Message). x ∷ l) (append_none xs)

      split : (b : Bool) → (r.session == s) ≡ b → IsOpen (asks_if calls r.session (Some x)) s way.ups (behind_with way downs (map (λ (n : Sent). n.message) (cond b (recall_sent (record { session = r.session; file = r.file; xid = x }) ∷ []) [])))
      split true is = put (grind (arith, nat_tests, is)) way.cut
      split false is = skip way.cut

  asks_open : (rs : List Recall) (calls : List BackCall) (downs : List Message) → AreRecalls calls → AreXids calls s way.ups downs → IsOpen calls s way.ups downs
      → IsOpen (asks calls rs).0 s way.ups (behind_with way downs (sent_on s (map recall_sent (asks calls rs).1)))
  asks_open [] calls downs only xids h = open_as calls downs (behind_with way downs []) (sym (behind_none way downs)) h
  asks_open (r ∷ rs) calls downs only xids h = by (xid_at calls r.session) refl (λ cs ms o k l. asks_open rs cs ms o k l)
    where
      by : (o : Option ℕ) → xid_at calls r.session ≡ o
          → ((cs : List BackCall) (ms : List Message) → AreRecalls cs → AreXids cs s way.ups ms → IsOpen cs s way.ups ms → IsOpen (asks cs rs).0 s way.ups (behind_with way ms (sent_on s (map recall_sent (asks cs rs).1))))
          → IsOpen (asks (asks_if calls r.session o) rs).0 s way.ups (behind_with way downs (sent_on s (map recall_sent (asked_with r o ++ (asks (asks_if calls r.session o) rs).1))))
      by None e then_ =
          then_ (asks_if calls r.session None) downs (asked_recalls calls r.session None only) (subst (AreXids (asks_if calls r.session None) s way.ups) (behind_none way downs) (xids_one r calls downs None e xids)) (open_later calls r None downs h)
      by (Some x) e then_ =
          let a : Asked = record { session = r.session; file = r.file; xid = x } in
          let later : List Asked = (asks (asks_if calls r.session (Some x)) rs).1 in
          open_as (asks (asks_if calls r.session (Some x)) rs).0 (behind_with way (behind_with way downs (sent_on s (recall_sent a ∷ []))) (sent_on s (map recall_sent later))) (behind_with way downs (sent_on s (recall_sent a ∷ map recall_sent later)))
          (behind_join way downs (sent_on s (recall_sent a ∷ [])) (sent_on s (map recall_sent later)) ∙ ap (behind_with way downs) (sym (sent_cons s (recall_sent a) (map recall_sent later))))
          (then_ (asks_if calls r.session (Some x)) (behind_with way downs (sent_on s (recall_sent a ∷ []))) (asked_recalls calls r.session (Some x) only) (xids_one r calls downs (Some x) e xids) (open_one r calls downs x e only xids h))

-- ---- what a step of the server does to them

abbrev pub ArePlain : List Sent → Type 0
ArePlain ms = AllByRecursion (λ m. called_by m.message ≡ None) ms

-- nothing but that answers are sent; or sessions that stand are asked for leases
pub record SameCalls (s : State) (p : State × ServerStep) : Type 0 where
  pub calls : p.0.leasing.calls ≡ s.leasing.calls
  pub term : p.0.leasing.term ≡ s.leasing.term
  pub sessions : p.0.sessions ≡ s.sessions
  pub plain : ArePlain p.1.send

pub record AsksFor (s : State) (p : State × ServerStep) : Type 0 where
  pub recalls : List Recall
  pub calls : p.0.leasing.calls ≡ (asks s.leasing.calls recalls).0
  pub term : p.0.leasing.term ≡ s.leasing.term
  pub sessions : p.0.sessions ≡ s.sessions
  pub send : p.1.send ≡ map recall_sent (asks s.leasing.calls recalls).1
  pub stand : AllByRecursion (λ r. stands s r.session ≡ true) recalls

abbrev pub Moves : State → State × ServerStep → Type 0
Moves s p = SameCalls s p ⊎ AsksFor s p

stand_all : (s : State) (rs : List Recall) → AllByRecursion (λ r. stands s r.session ≡ true) (filter (λ r. stands s r.session) rs)
stand_all s [] = tt
stand_all s (r ∷ rs) = by (stands s r.session) refl (stand_all s rs)
  where
    by : (b : Bool) → stands s r.session ≡ b → AllByRecursion (λ r. stands s r.session ≡ true) (filter (λ r. stands s r.session) rs) → AllByRecursion (λ r. stands s r.session ≡ true) (cond b (r ∷ filter (λ r. stands s r.session) rs) (filter (λ r. stands s r.session) rs))
    by true e later = (e, later)
    by false e later = later

-- ---- a message that is taken

-- over a state with the same sessions and the same RECALLs
module _ (s : State) where
  plain : (t : State) (r : ServerStep) → t.leasing.calls ≡ s.leasing.calls → t.leasing.term ≡ s.leasing.term → t.sessions ≡ s.sessions → ArePlain r.send → Moves s (t, r)
  plain t r calls term sessions p = inl (record { calls = calls; term = term; sessions = sessions; plain = p })

  comes_moves : (u : State) (c : FileChange) → u.leasing ≡ s.leasing → u.sessions ≡ s.sessions → Moves s (comes u c)
  comes_moves u c leasing sessions = inr (record {
    recalls = recalls_for u c;
    calls = ap (λ g. (asks g.calls (recalls_for u c)).0) leasing;
    term = ap (λ g. g.term) leasing;
    sessions = sessions;
    send = ap (λ g. map recall_sent (asks g.calls (recalls_for u c)).1) leasing;
    stand = all_map (λ r. stands u r.session ≡ true) (λ r. stands s r.session ≡ true) (recalls_for u c) (λ r e. sym (ap (λ (ks : List ℕ). list_any (λ k. k == r.session) ks) sessions) ∙ e) (stand_all u _);
  })

  makes_moves : (n xid fd : ℕ) (o : Result Node Status) → Moves s (makes s n xid fd o)
  makes_moves n xid fd (Err e) = plain s (makes s n xid fd (Err e)).1 refl refl refl (refl, tt)
  makes_moves n xid fd (Ok directory) = plain s (makes s n xid fd (Ok directory)).1 refl refl refl (refl, tt)
  makes_moves n xid fd (Ok (a_file f)) = by (room_fault s.temps n fd)
    where
      by : (o : Option Status) → Moves s (makes_unless s n xid fd f.id o)
      by (Some e) = plain s (makes_unless s n xid fd f.id (Some e)).1 refl refl refl (refl, tt)
      by None = plain (makes_unless s n xid fd f.id None).0 (makes_unless s n xid fd f.id None).1 refl refl refl (refl, tt)

  writes_moves : (n xid : ℕ) (a : TempPiece) (t : Option Temp) (o : Option Status) → Moves s (writes_unless s n xid a t o)
  writes_moves n xid a (Some t) None = plain (writes_unless s n xid a (Some t) None).0 (writes_unless s n xid a (Some t) None).1 refl refl refl (refl, tt)
  writes_moves n xid a (Some t) (Some e) = plain s (writes_unless s n xid a (Some t) (Some e)).1 refl refl refl (refl, tt)
  writes_moves n xid a None o = plain s (writes_unless s n xid a None o).1 refl refl refl (refl, tt)

  bytes_moves : (n xid : ℕ) (a : CondPiece) (t : Option Temp) (o : Option (List ℕ)) → Moves s (names_bytes (looked_up s a) n xid a t o)
  bytes_moves n xid a (Some t) (Some bytes) = plain (names_bytes (looked_up s a) n xid a (Some t) (Some bytes)).0 (names_bytes (looked_up s a) n xid a (Some t) (Some bytes)).1 refl refl refl (refl, tt)
  bytes_moves n xid a (Some t) None = plain (looked_up s a) (names_bytes (looked_up s a) n xid a (Some t) None).1 refl refl refl (refl, tt)
  bytes_moves n xid a None o = plain (looked_up s a) (names_bytes (looked_up s a) n xid a None o).1 refl refl refl (refl, tt)

  names_moves : (n xid : ℕ) (a : CondPiece) (t : Option Temp) (o : Option Status) → Moves s (names_unless s n xid a t o)
  names_moves n xid a t (Some e) = plain s (names_unless s n xid a t (Some e)).1 refl refl refl (refl, tt)
  names_moves n xid a t None = bytes_moves n xid a t (bytes_known s.tree a (place_of s.index.pairs (key_of a.digest)))

  module _ (u : State) (leasing : u.leasing ≡ s.leasing) (sessions : u.sessions ≡ s.sessions) where
    abbrev same_calls : u.leasing.calls ≡ s.leasing.calls
    same_calls = ap (λ g. g.calls) leasing

    abbrev same_term : u.leasing.term ≡ s.leasing.term
    same_term = ap (λ g. g.term) leasing

    whole_moves : (n xid id : ℕ) (o : Option (List ℕ)) → Moves s (commits_whole u n xid id o)
    whole_moves n xid id None = plain u (commits_whole u n xid id None).1 same_calls same_term sessions (refl, tt)
    whole_moves n xid id (Some content) = by (has_waiting u.waiting n) (is_full u (length content))
      where
        by : (a b : Bool) → Moves s (if a then answers u n xid (lb.CommitTmpAnswer (Failed status.Jukebox tt)) else if b then answers u n xid (lb.CommitTmpAnswer (Failed status.NoSpc tt)) else comes u (change_of n xid id (wanted.Content content)))
        by true b = plain u (answers u n xid (lb.CommitTmpAnswer (Failed status.Jukebox tt))).1 same_calls same_term sessions (refl, tt)
        by false true = plain u (answers u n xid (lb.CommitTmpAnswer (Failed status.NoSpc tt))).1 same_calls same_term sessions (refl, tt)
        by false false = comes_moves u (change_of n xid id (wanted.Content content)) leasing sessions

    commits_to_moves : (n xid size : ℕ) (t : Temp) (o : Result Node Status) → Moves s (takes_commit_on u n xid size t o)
    commits_to_moves n xid size t (Err e) = plain u (takes_commit_on u n xid size t (Err e)).1 same_calls same_term sessions (refl, tt)
    commits_to_moves n xid size t (Ok directory) = plain u (takes_commit_on u n xid size t (Ok directory)).1 same_calls same_term sessions (refl, tt)
    commits_to_moves n xid size t (Ok (a_file f)) = by (nat_lt size_most size)
      where
        by : (b : Bool) → Moves s (if b then answers u n xid (lb.CommitTmpAnswer (Failed status.FBig tt)) else commits_whole u n xid f.id (assembled t size))
        by true = plain u (answers u n xid (lb.CommitTmpAnswer (Failed status.FBig tt))).1 same_calls same_term sessions (refl, tt)
        by false = whole_moves n xid f.id (assembled t size)

    asks_moves : (n xid : ℕ) (o : Option Outcome) → Moves s (asks_outcome u n xid o)
    asks_moves n xid None = plain u (asks_outcome u n xid None).1 same_calls same_term sessions (refl, tt)
    asks_moves n xid (Some (Answered d)) = plain (asks_outcome u n xid (Some (Answered d))).0 (asks_outcome u n xid (Some (Answered d))).1 same_calls same_term sessions (refl, tt)
    asks_moves n xid (Some (Waits a)) = comes_moves u (change_of n xid (file_of a) (wanted.Asked a)) leasing sessions

  commits_moves : (n xid : ℕ) (a : Commit) (t : Option Temp) → Moves s (takes_commit s n xid a t)
  commits_moves n xid a None = plain s (takes_commit s n xid a None).1 refl refl refl (refl, tt)
  commits_moves n xid a (Some t) = commits_to_moves (record s { temps = without_temp s.temps n a.fd }) refl refl n xid a.size t (node_of s.tree a.handle)

  nfs_moves : (fault : Bool) (n xid : ℕ) (m : Nfs) → Moves s (asks_tree s n xid (calls_under s.tree (held s.waiting) (has_waiting s.waiting n) fault m))
  nfs_moves fault n xid m = let p : Tree × Option Outcome = calls_under s.tree (held s.waiting) (has_waiting s.waiting n) fault m in asks_moves (record s { tree = p.0 }) refl refl n xid p.1

  called_moves : (fault : Bool) (n xid : ℕ) (b : Body) → Moves s (called_under s fault n xid b)
  called_moves fault n xid (body.Lb (lb.Null z)) = plain s (called_under s fault n xid (body.Lb (lb.Null z))).1 refl refl refl (refl, tt)
  called_moves fault n xid (body.Lb (lb.GetLease z)) = plain (called_under s fault n xid (body.Lb (lb.GetLease z))).0 (called_under s fault n xid (body.Lb (lb.GetLease z))).1 refl refl refl (refl, tt)
  called_moves fault n xid (body.Lb (lb.GetHash r)) = plain (called_under s fault n xid (body.Lb (lb.GetHash r))).0 (called_under s fault n xid (body.Lb (lb.GetHash r))).1 refl refl refl (refl, tt)
  called_moves fault n xid (body.Lb (lb.MkTmpFile a)) = makes_moves n xid a.fd (node_of s.tree a.handle)
  called_moves fault n xid (body.Lb (lb.TmpWrite a)) = writes_moves n xid a (temp_at s.temps n a.fd) (piece_fault (temp_at s.temps n a.fd) a.offset (length a.bytes))
  called_moves fault n xid (body.Lb (lb.CondWrite a)) = names_moves n xid a (temp_at s.temps n a.fd) (cond_fault a (temp_at s.temps n a.fd))
  called_moves fault n xid (body.Lb (lb.CommitTmp a)) = commits_moves n xid a (temp_at s.temps n a.fd)
  called_moves fault n xid (body.Lb m) = plain s _ refl refl refl (refl, tt)
  called_moves fault n xid (body.Nfs nfs.Null) = plain s (called_under s fault n xid (body.Nfs nfs.Null)).1 refl refl refl (refl, tt)
  called_moves fault n xid (body.Nfs (nfs.Read r)) = plain s (called_under s fault n xid (body.Nfs (nfs.Read r))).1 refl refl refl (refl, tt)
  called_moves fault n xid (body.Nfs m) = nfs_moves fault n xid m
  called_moves fault n xid (body.Back m) = plain s (called_under s fault n xid (body.Back m)).1 refl refl refl (refl, tt)

-- a change is made, or none is
settle_moves : (s : State) (fault : Bool) (now : ℕ) → Moves s (settles_under s fault now)
settle_moves s fault now = by (ready_by s now)
  where
    made : (c : FileChange) (w : Wanted) → Moves s (makes_change_under (at (record s { waiting = without s.waiting c.session }) now) fault c w)
    made c (wanted.Content content) = plain s (makes_change_under (at (record s { waiting = without s.waiting c.session }) now) fault c (wanted.Content content)).0 (makes_change_under (at (record s { waiting = without s.waiting c.session }) now) fault c (wanted.Content content)).1 refl refl refl (refl, tt)
    made c (wanted.Asked a) = plain s (makes_change_under (at (record s { waiting = without s.waiting c.session }) now) fault c (wanted.Asked a)).0 (makes_change_under (at (record s { waiting = without s.waiting c.session }) now) fault c (wanted.Asked a)).1 refl refl refl (refl, tt)

    by : (o : Option FileChange) → Moves s (settles_by s fault now o)
    by None = plain s s (settles_by s fault now None).1 refl refl refl tt
    by (Some c) = made c c.what

-- ---- what stays

stands_as : (s t : State) (n : ℕ) → t.sessions ≡ s.sessions → stands t n ≡ true → stands s n ≡ true
stands_as s t n sessions e = sym (ap (λ (ks : List ℕ). list_any (λ k. k == n) ks) sessions) ∙ e

-- answers alone are sent
plain_calls : (waits : List Pending) (n : ℕ) (sent : List Sent) → ArePlain sent → AllByRecursion (λ m. IsWaited waits (called_by m)) (sent_on n sent)
plain_calls waits n [] p = tt
plain_calls waits n (m ∷ ms) p = by (m.session == n) (plain_calls waits n ms p.1)
  where
    by : (b : Bool) → AllByRecursion (λ m. IsWaited waits (called_by m)) (sent_on n ms) → AllByRecursion (λ m. IsWaited waits (called_by m)) (map (λ (x : Sent). x.message) (cond b (m ∷ filter (λ x. x.session == n) ms) (filter (λ x. x.session == n) ms)))
    by true later = (subst (IsWaited waits) (sym p.0) tt, later)
    by false later = later

plain_beside : (u : Message) (n : ℕ) (sent : List Sent) → ArePlain sent → AllByRecursion (IsBeside u) (sent_on n sent)
plain_beside u n [] p = tt
plain_beside u n (m ∷ ms) p = by (m.session == n) (plain_beside u n ms p.1)
  where
    by : (b : Bool) → AllByRecursion (IsBeside u) (sent_on n ms) → AllByRecursion (IsBeside u) (map (λ (x : Sent). x.message) (cond b (m ∷ filter (λ x. x.session == n) ms) (filter (λ x. x.session == n) ms)))
    by true later = ((λ x a b. nothing_there x (sym p.0 ∙ b)), later)
    by false later = later

beside_all : (ups downs more : List Message) → AllBeside ups downs → AllByRecursion (λ u. AllByRecursion (IsBeside u) more) ups → AllBeside ups (downs ++ more)
beside_all [] downs more h k = tt
beside_all (u ∷ us) downs more h k = (all_join (IsBeside u) downs more h.0 k.0, beside_all us downs more h.1 k.1)

for_all : {A : Type 0} (P : A → Type 0) (xs : List A) → ((x : A) → P x) → AllByRecursion P xs
for_all P [] f = tt
for_all P (x ∷ xs) f = (f x, for_all P xs f)

module _ (s : State) (n : ℕ) (way : Way) (downs : List Message) (only : AreRecalls s.leasing.calls) (numbers : AreNumbered s n way.ups downs) (h : AreAwaited s n way.ups downs) where
  plain_awaited : (p : State × ServerStep) → SameCalls s p → AreAwaited p.0 n way.ups (behind_with way downs (sent_on n p.1.send))
  plain_awaited p same = by way.cut
    where
      calls_same : (ms : List Message) → AreWaited (call_at s.leasing.calls n).waits way.ups ms → AreWaited (call_at p.0.leasing.calls n).waits way.ups ms
      calls_same ms w = subst (λ (cs : List BackCall). AreWaited (call_at cs n).waits way.ups ms) (sym same.calls) w

      by : (b : Bool) → AreAwaited p.0 n way.ups (if b then downs else downs ++ sent_on n p.1.send)
      by true = record { waited = λ q. calls_same downs (h.waited (stands_as s p.0 n same.sessions q)); once = h.once; beside = h.beside }
      by false = record {
        waited = λ q. (let w = h.waited (stands_as s p.0 n same.sessions q) in calls_same (downs ++ sent_on n p.1.send) (record {
          answers = w.answers;
          calls = all_join (λ m. IsWaited (call_at s.leasing.calls n).waits (called_by m)) downs (sent_on n p.1.send) w.calls (plain_calls (call_at s.leasing.calls n).waits n p.1.send same.plain);
        }));
        once = h.once;
        beside = beside_all way.ups downs (sent_on n p.1.send) h.beside (for_all (λ u. AllByRecursion (IsBeside u) (sent_on n p.1.send)) way.ups (λ u. plain_beside u n p.1.send same.plain));
      }

  asked_awaited : (p : State × ServerStep) → AsksFor s p → AreAwaited p.0 n way.ups (behind_with way downs (sent_on n p.1.send))
  asked_awaited p a = by (stands s n) refl
    where
      sent_then : List Message
      sent_then = behind_with way downs (sent_on n (map recall_sent (asks s.leasing.calls a.recalls).1))

      so : AreAwaited p.0 n way.ups sent_then → AreAwaited p.0 n way.ups (behind_with way downs (sent_on n p.1.send))
      so k = subst (λ (ms : List Sent). AreAwaited p.0 n way.ups (behind_with way downs (sent_on n ms))) (sym a.send) k

      unasked_by : (rs : List Recall) → stands s n ≡ false → AllByRecursion (λ r. stands s r.session ≡ true) rs → AllByRecursion (λ r. r.session ≡ n → ⊥) rs
      unasked_by rs e all = all_map (λ r. stands s r.session ≡ true) (λ r. r.session ≡ n → ⊥) rs (λ r is same. no (sym (subst (λ (m : ℕ). stands s m ≡ true) same is) ∙ e)) all

      by : (b : Bool) → stands s n ≡ b → AreAwaited p.0 n way.ups (behind_with way downs (sent_on n p.1.send))
      by true e =
          let d = numbers.drawn e in
          let k = asks_open n way a.recalls s.leasing.calls downs only (record { answers = d.answers; calls = d.calls; apart = numbers.apart }) (record { waited = h.waited e; beside = h.beside }) in
          so (record { waited = λ q. subst (λ (cs : List BackCall). AreWaited (call_at cs n).waits way.ups sent_then) (sym a.calls) k.waited; once = h.once; beside = k.beside })
      by false e =
          let nothing = ap (behind_with way downs) (asks_unsent n a.recalls s.leasing.calls (unasked_by a.recalls e a.stand)) ∙ behind_none way downs in
          so (subst (AreAwaited p.0 n way.ups) (sym nothing) (record { waited = λ q. no (sym (stands_as s p.0 n a.sessions q) ∙ e); once = h.once; beside = h.beside }))

  pub moves_awaited : (p : State × ServerStep) → Moves s p → AreAwaited p.0 n way.ups (behind_with way downs (sent_on n p.1.send))
  moves_awaited p (inl same) = plain_awaited p same
  moves_awaited p (inr a) = asked_awaited p a

pub moves_recalls : (s : State) (p : State × ServerStep) → Moves s p → AreRecalls s.leasing.calls → AreRecalls p.0.leasing.calls
moves_recalls s p (inl same) h = subst AreRecalls (sym same.calls) h
moves_recalls s p (inr a) h = subst AreRecalls (sym a.calls) (asks_recalls a.recalls s.leasing.calls h)

-- ---- events

moves_at : (s : State) (now : ℕ) (p : State × ServerStep) → Moves (at s now) p → Moves s p
moves_at s now p (inl h) = inl (record { calls = h.calls; term = h.term; sessions = h.sessions; plain = h.plain })
moves_at s now p (inr h) = inr (record { recalls = h.recalls; calls = h.calls; term = h.term; sessions = h.sessions; send = h.send; stand = h.stand })

-- a call is taken, and a change made
pub call_moves : (s : State) (fault : Bool) (n xid : ℕ) (b : Body) (now : ℕ) → Moves s (server_step_under s fault (event.Got n (message.Call xid b) now))
call_moves s fault n xid b now = by (stands s n)
  where
    by : (d : Bool) → Moves s (got_if_under s fault d n (message.Call xid b) now)
    by true = moves_at s now (called_under (at s now) fault n xid b) (called_moves (at s now) fault n xid b)
    by false = inl (record { calls = refl; term = refl; sessions = refl; plain = tt })

pub change_moves : (s : State) (fault : Bool) (now : ℕ) → Moves s (server_step_under s fault (event.Settle now))
change_moves s fault now = settle_moves s fault now

-- the first message is taken
pub taken_awaited : (s : State) (n : ℕ) (m : Message) (us downs : List Message) → AreAwaited s n (m ∷ us) downs → AreAwaited s n us downs
taken_awaited s n m us downs h = record { waited = λ q. (let w = h.waited q in record { answers = w.answers.1; calls = w.calls }); once = h.once.1; beside = h.beside.1 }

-- an answer is taken: its xid is used up
pub used_recalls : (n xid : ℕ) (calls : List BackCall) → AreRecalls calls → AreRecalls (answered calls n xid)
used_recalls n xid [] h = tt
used_recalls n xid (c ∷ cs) h = (by (is_at n c), used_recalls n xid cs h.1)
  where
    by : (b : Bool) → OnlyRecalls (let d : BackCall = if b then record c { waits = filter (λ p. not (p.xid == xid)) c.waits } else c in d.waits)
    by true = all_kept (λ p. p.program ≡ recall_program) (λ p. not (p.xid == xid)) c.waits h.0
    by false = h.0

module _ (s : State) (n xid now : ℕ) where
  abbrev stepped : State × ServerStep
  stepped = server_step_under s false (event.Got n (recall_answer xid) now)

  pub answered_sends : stepped.1.send ≡ []
  answered_sends = by (stands s n)
    where
      by : (b : Bool) → (got_if_under s false b n (recall_answer xid) now).1.send ≡ []
      by true = refl
      by false = refl

  answered_sessions : stepped.0.sessions ≡ s.sessions
  answered_sessions = by (stands s n)
    where
      by : (b : Bool) → (got_if_under s false b n (recall_answer xid) now).0.sessions ≡ s.sessions
      by true = refl
      by false = refl

  calls_by : (P : List BackCall → Type 0) → (stands s n ≡ true → P (answered s.leasing.calls n xid)) → (stands s n ≡ false → P s.leasing.calls) → P stepped.0.leasing.calls
  calls_by P answers other = by (stands s n) refl
    where
      by : (b : Bool) → stands s n ≡ b → P (got_if_under s false b n (recall_answer xid) now).0.leasing.calls
      by true e = answers e
      by false e = other e

  pub answered_recalls : AreRecalls s.leasing.calls → AreRecalls stepped.0.leasing.calls
  answered_recalls h = calls_by AreRecalls (λ e. used_recalls n xid s.leasing.calls h) (λ e. h)

  -- on that session all others are still waited for
  used_waits : (o : Option ℕ) → (o ≡ Some xid → ⊥) → (c : BackCall) → IsWaited c.waits o → IsWaited (used_by n xid c).waits o
  used_waits o apart c h = by (is_at n c)
    where
      by : (b : Bool) → IsWaited (let d : BackCall = if b then record c { waits = filter (λ p. not (p.xid == xid)) c.waits } else c in d.waits) o
      by true = waited_others xid c.waits o apart h
      by false = h

  pub used_apart : (k : ℕ) → (n ≡ k → ⊥) → call_at (answered s.leasing.calls n xid) k ≡ call_at s.leasing.calls k
  used_apart k apart = at_used s.leasing.calls n xid k ∙ by (is_at n (call_at s.leasing.calls k)) refl
    where
      by : (b : Bool) → is_at n (call_at s.leasing.calls k) ≡ b → (if b then record (call_at s.leasing.calls k) { waits = filter (λ p. not (p.xid == xid)) (call_at s.leasing.calls k).waits } else call_at s.leasing.calls k) ≡ call_at s.leasing.calls k
      by true e = let same : (call_at s.leasing.calls k).session ≡ n = grind (arith, nat_tests, e) in absurd (apart (sym same ∙ call_own s.leasing.calls k))
      by false e = refl

  others_of : (us : List Message) → AllByRecursion (AreTwo (recall_answer xid)) us → AllByRecursion (λ m. answered_by m ≡ Some xid → ⊥) us
  others_of us h = all_map (AreTwo (recall_answer xid)) (λ m. answered_by m ≡ Some xid → ⊥) us (λ m two e. two xid refl e) h

  pub answered_own : (us downs : List Message) → AreAwaited s n (recall_answer xid ∷ us) downs → AreAwaited stepped.0 n us downs
  answered_own us downs h = record {
    waited = λ q.
        (let w = h.waited (stands_as s stepped.0 n answered_sessions q) in
        let up = stands_as s stepped.0 n answered_sessions q in
        calls_by (λ cs. AreWaited (call_at cs n).waits us downs)
        (λ e. subst (λ (c : BackCall). AreWaited c.waits us downs) (sym (at_used s.leasing.calls n xid n)) (record {
          answers = all_map (λ m. (answered_by m ≡ Some xid → ⊥) × IsWaited (call_at s.leasing.calls n).waits (answered_by m)) (λ m. IsWaited (used_by n xid (call_at s.leasing.calls n)).waits (answered_by m)) us (λ m p. used_waits (answered_by m) p.0 (call_at s.leasing.calls n) p.1)
              (all_both (λ m. answered_by m ≡ Some xid → ⊥) (λ m. IsWaited (call_at s.leasing.calls n).waits (answered_by m)) us (others_of us h.once.0) w.answers.1);
          calls = all_map (λ m. IsBeside (recall_answer xid) m × IsWaited (call_at s.leasing.calls n).waits (called_by m)) (λ m. IsWaited (used_by n xid (call_at s.leasing.calls n)).waits (called_by m)) downs (λ m p. used_waits (called_by m) (λ e. p.0 xid refl e) (call_at s.leasing.calls n) p.1)
              (all_both (IsBeside (recall_answer xid)) (λ m. IsWaited (call_at s.leasing.calls n).waits (called_by m)) downs h.beside.0 w.calls);
        }))
        (λ e. no (sym up ∙ e)));
    once = h.once.1;
    beside = h.beside.1;
  }

  pub answered_other : (k : ℕ) (ups downs : List Message) → (n ≡ k → ⊥) → AreAwaited s k ups downs → AreAwaited stepped.0 k ups downs
  answered_other k ups downs apart h = record {
    waited = λ q.
        (let w = h.waited (stands_as s stepped.0 k answered_sessions q) in
        calls_by (λ cs. AreWaited (call_at cs k).waits ups downs) (λ e. subst (λ (c : BackCall). AreWaited c.waits ups downs) (sym (used_apart k apart)) w) (λ e. w));
    once = h.once;
    beside = h.beside;
  }

-- a connection is lost, and made
some_kept : (q keep : ℕ → Bool) (xs : List ℕ) → list_any q (filter keep xs) ≡ true → list_any q xs ≡ true
some_kept q keep [] h = h
some_kept q keep (x ∷ xs) h = by (keep x) h (some_kept q keep xs)
  where
    either : (a b : Bool) → b ≡ true → (a || b) ≡ true
    either true b e = refl
    either false b e = e

    carried : (a b d : Bool) → (b ≡ true → d ≡ true) → (a || b) ≡ true → (a || d) ≡ true
    carried true b d f e = refl
    carried false b d f e = f e

    by : (b : Bool) → list_any q (cond b (x ∷ filter keep xs) (filter keep xs)) ≡ true → (list_any q (filter keep xs) ≡ true → list_any q xs ≡ true) → (q x || list_any q xs) ≡ true
    by true h later = carried (q x) (list_any q (filter keep xs)) (list_any q xs) later h
    by false h later = either (q x) (list_any q xs) (later h)

none_left : (n : ℕ) (xs : List ℕ) → list_any (λ k. k == n) (filter (λ k. not (k == n)) xs) ≡ false
none_left n [] = refl
none_left n (x ∷ xs) = by (x == n) refl (none_left n xs)
  where
    by : (b : Bool) → (x == n) ≡ b → list_any (λ k. k == n) (filter (λ k. not (k == n)) xs) ≡ false → list_any (λ k. k == n) (cond (not b) (x ∷ filter (λ k. not (k == n)) xs) (filter (λ k. not (k == n)) xs)) ≡ false
    by true e later = later
    by false e later = ap (λ (b : Bool). b || list_any (λ k. k == n) (filter (λ k. not (k == n)) xs)) e ∙ later

hangs_awaited : (s : State) (n k : ℕ) (ups downs : List Message) → AreAwaited s k ups downs → AreAwaited (hangs s n) k ups downs
hangs_awaited s n k ups downs h = record { waited = λ q. by (n == k) refl q; once = h.once; beside = h.beside }
  where
    by : (b : Bool) → (n == k) ≡ b → stands (hangs s n) k ≡ true → AreWaited (call_at (hung s.leasing.calls n) k).waits ups downs
    by true e q = let same : n ≡ k = grind (arith, nat_tests, e) in no (sym (subst (λ (m : ℕ). stands (hangs s n) m ≡ true) (sym same) q) ∙ none_left n s.sessions)
    by false e q =
        let apart : n ≡ k → ⊥ = λ same. (let is : (n == k) ≡ true = grind (arith, nat_tests, same) in no (sym is ∙ e)) in
        subst (λ (c : BackCall). AreWaited c.waits ups downs) (sym (at_hung s.leasing.calls n k apart)) (h.waited (some_kept (λ m. m == k) (λ m. not (m == n)) s.sessions q))

pub hung_awaited : (s : State) (fault : Bool) (n k : ℕ) (ups downs : List Message) → AreAwaited s k ups downs → AreAwaited (server_step_under s fault (event.Hang n)).0 k ups downs
hung_awaited s fault n k ups downs h = by (stands s n)
  where
    by : (b : Bool) → AreAwaited (hangs_if s b n).0 k ups downs
    by true = hangs_awaited s n k ups downs h
    by false = h

pub hung_recalls : (s : State) (fault : Bool) (n : ℕ) → AreRecalls s.leasing.calls → AreRecalls (server_step_under s fault (event.Hang n)).0.leasing.calls
hung_recalls s fault n h = by (stands s n)
  where
    by : (b : Bool) → AreRecalls (hangs_if s b n).0.leasing.calls
    by true = all_kept (λ c. OnlyRecalls c.waits) (λ c. not (is_at n c)) s.leasing.calls h
    by false = h

pub made_awaited : (s : State) (k : ℕ) (ups downs : List Message) → k ≤ s.sessions_made → (b : Bool) → AreAwaited s k ups downs → AreAwaited (connect s b).0 k ups downs
made_awaited s k ups downs made false h = h
made_awaited s k ups downs made true h = record { waited = λ q. h.waited (old q); once = h.once; beside = h.beside }
  where
    other : (s.sessions_made + 1 == k) ≡ false
    other = grind (arith, nat_tests, made)

    or_none : (a b : Bool) → b ≡ false → (a || (b || false)) ≡ true → a ≡ true
    or_none true b e q = refl
    or_none false true e q = absurd cc
    or_none false false e q = q

    old : stands (connect s true).0 k ≡ true → stands s k ≡ true
    old q = or_none (stands s k) (s.sessions_made + 1 == k) other (sym (list_any-append (λ m. m == k) s.sessions ((s.sessions_made + 1) ∷ [])) ∙ q)

-- nothing is on its way on a session that was just made
pub new_awaited : (s : State) (k : ℕ) → AreAwaited s k [] []
new_awaited s k = record { waited = λ q. record { answers = tt; calls = tt }; once = tt; beside = tt }

-- ---- the term

moves_term : (s : State) (p : State × ServerStep) → Moves s p → p.0.leasing.term ≡ s.leasing.term
moves_term s p (inl h) = h.term
moves_term s p (inr h) = h.term

-- no step changes for how long leases are granted
pub step_term : (s : State) (fault : Bool) (e : Event) → (server_step_under s fault e).0.leasing.term ≡ s.leasing.term
step_term s fault event.Connect = by (has_room s)
  where
    by : (b : Bool) → (connect s b).0.leasing.term ≡ s.leasing.term
    by true = refl
    by false = refl
step_term s fault (event.Got n m now) = by (stands s n) m
  where
    by : (b : Bool) (m : Message) → (got_if_under s fault b n m now).0.leasing.term ≡ s.leasing.term
    by false m = refl
    by true (message.Call xid b) = moves_term s (called_under (at s now) fault n xid b) (moves_at s now (called_under (at s now) fault n xid b) (called_moves (at s now) fault n xid b))
    by true m = refl
step_term s fault (event.Settle now) = moves_term s (settles_under s fault now) (settle_moves s fault now)
step_term s fault (event.Hang n) = by (stands s n)
  where
    by : (b : Bool) → (hangs_if s b n).0.leasing.term ≡ s.leasing.term
    by true = refl
    by false = refl
