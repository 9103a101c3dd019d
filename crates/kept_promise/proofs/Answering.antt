-- What a client's step for a command says: its own answer, and what it leaves of the local content, or that it asks the server.
use Rattle.std.proofs.Common.{◌⊎◌, inl, inr, ◌≡◌, ℕ, zero, suc, ◌+◌, ◌≤◌, List, [], ◌∷◌, length, Option, Some, None, Bool, true, false, ◌&&◌, ◌<◌, refl, sym, ap, ◌∙◌, subst, arith}
use Rattle.command_text.specs.declared.command.Command.TheVariants as command
use Rattle.command_text.specs.declared.path.PathCommand.TheVariants as path
use Rattle.command_text.specs.declared.path.PathCommand.{PathCommand}
use Rattle.open_close.specs.Walking.{walks, walks_if}
use Rattle.path_calls.specs.Walk.{begun, arrives}
use Rattle.path_calls.specs.declared.walk.Goal.TheVariants as goal
use Rattle.command_text.specs.declared.path.Spot.{Spot}
use Rattle.client_state.specs.Ending.{may_walk, has_xids}
use Rattle.file_open.specs.Rewriting.{asks_anew, rewrites_if, rewrites}
use Rattle.client_state.specs.View.{walk_left}
use Rattle.client_cache.specs.Cache.{reserved, content_of}
use Rattle.client_cache.specs.declared.kept.Content.{Content}
use Rattle.client_state.specs.State as client
use Rattle.client_state.specs.declared.step.Outcome.TheVariants as outcome
use Rattle.register_model.specs.declared.op.Outcome.{Outcome as Told}
use Rattle.register_model.specs.declared.op.Outcome.TheVariants as told
use Rattle.trace_replay.specs.Causes.{free_answer}
use Rattle.kept_promise.proofs.Common.{◌||◌, Op, nat_tests, ◌==◌, nat_lt, is_some, option_map, if◌then◌else◌, sha1, content_length, content_bytes, Part, Command, content_size, ends, local_most, written_size, written, truncated, part_of, calls_most, may_ask, asks_file, asks_kept, opens_if, opens, on_local, done_with, too_big, edits, writes, truncates, reads, abandons, asks_temp, closes, command_step, ClientStep, Outcome, Local, Task, local_at_itself, local_at_another, without_at_itself, without_at_another, file_of, told_of, value_of, leaves, own_answer, unless_asks, write_outcome, sized_outcome}
use Rattle.client_state.specs.Noting.{at as clocked}
use Rattle.file_open.specs.Caching.{fresh_content}
use Rattle.file_open.specs.Fetching.{opens_kept, opens_fresh}
use Rattle.file_open.specs.Rewriting.{renews_kept, empties_fresh}
use Rattle.open_close.specs.Step.{does}
use Rattle.kept_promise.proofs.Does.{own_ended}
use Rattle.kept_promise.proofs.StepCases.{some_call, IsPlain}
use Rattle.kept_promise.proofs.Deeds.{local_of, ByServer, IsLate, Stores}
use Rattle.kept_promise.proofs.Locally.{leaves_all}
use Rattle.kept_promise.proofs.PathNames.{IsSmall, HasNames}

-- ---- what is said

-- it answers so by itself
pub record AnswersSo (s : client.State) (d : Command) (r : client.State × ClientStep) (own : Told) : Type 0 where
  pub outcome : Outcome
  pub plain : IsPlain outcome
  pub ended : r.1.ended ≡ Some (own_ended outcome)
  pub told_is : told_of outcome ≡ own
  pub value : (v : List ℕ) → value_of v r.0 outcome ≡ v
  pub here : (v : List ℕ) → local_of r.0 (file_of d) ≡ leaves d own v (local_of s (file_of d))
  pub others : (f : ℕ) → (f ≡ file_of d → ⊥) → local_of r.0 f ≡ local_of s f

-- what a close is to store is the local content
abbrev pub ValueIs : client.State → Command → Type 0
ValueIs s (command.Close f) = local_of s f ≡ Some (client.local_bytes s.opened f)
ValueIs s d = Unit {0}

-- what is fresh is open at once, or a file is so with nothing in it
pub record AtOnce (s : client.State) (d : Command) (r : client.State × ClientStep) : Type 0 where
  pub outcome : Outcome
  pub ended : r.1.ended ≡ Some (own_ended outcome)
  pub from : ByServer d (told_of outcome)
  pub late : (o : Op) → IsLate d o
  pub stores : (o : Op) (l : Option (List ℕ)) → Stores d o l
  pub here : (v : List ℕ) → local_of r.0 (file_of d) ≡ leaves d (told_of outcome) (value_of v r.0 outcome) (local_of s (file_of d))
  pub others : (f : ℕ) → (f ≡ file_of d → ⊥) → local_of r.0 f ≡ local_of s f

-- whether the file is fresh that a command is to open
abbrev pub fresh_by : client.State → Command → Bool
fresh_by s (command.Open file) = is_some (fresh_content s.cache file s.clock)
fresh_by s (command.Rewrite file) = is_some (fresh_content s.cache file s.clock)
fresh_by s d = false

abbrev pub may_go : client.State → Command → Bool
may_go s d = may_ask s || fresh_by s d

or_false : (b : Bool) → (b || false) ≡ b
or_false true = refl
or_false false = refl

or_true : (b : Bool) → (b || true) ≡ true
or_true true = refl
or_true false = refl

abbrev pub AnswersBy : client.State → Command → client.State × ClientStep → Option Told → Type 0
AnswersBy s d r (Some own) = AnswersSo s d r own
AnswersBy s d r None = ((r.1.ended ≡ None) × (r.0.opened ≡ s.opened) × ValueIs s d) ⊎ AtOnce s d r

-- what else a command leaves
abbrev pub Stays : client.State → client.State → Type 0
Stays s r = (r.next_xid ≤ s.next_xid + calls_most) × (r.linked ≡ s.linked)

abbrev pub IsAnswered : client.State → Command → client.State × ClientStep → Type 0
IsAnswered s d r = Stays s r.0 × AnswersBy s d r (own_answer false (may_go s d) d (local_of s (file_of d)))

abbrev IsAsked : client.State → Command → client.State × ClientStep → Type 0
IsAsked s d r = Stays s r.0 × AnswersBy s d r (own_answer false (may_ask s) d (local_of s (file_of d)))

-- what opens nothing is never fresh
plainly : (s : client.State) (d : Command) (r : client.State × ClientStep) → fresh_by s d ≡ false → IsAsked s d r → IsAnswered s d r
plainly s d r none h = subst (λ (b : Bool). Stays s r.0 × AnswersBy s d r (own_answer false b d (local_of s (file_of d)))) (sym (ap (λ (b : Bool). may_ask s || b) none ∙ or_false (may_ask s))) h

stays : (s : client.State) → Stays s s
stays s = (omega arith, refl)

-- nothing is left but the answer
so : (s : client.State) (d : Command) (o : Outcome) (own : Told) → IsPlain o → told_of o ≡ own → ((v : List ℕ) → value_of v s o ≡ v) → ((v : List ℕ) (l : Option (List ℕ)) → leaves d own v l ≡ l) → AnswersSo s d (s, ends o 0 0) own
so s d o own plain is value idle = record { outcome = o; plain = plain; ended = refl; told_is = is; value = value; here = λ v. sym (idle v (local_of s (file_of d))); others = λ f apart. refl }

-- ---- on an open file

put_here : (s : client.State) (file : ℕ) (l : Local) → option_map (λ (z : Local). z.bytes) (client.local_at (client.with_local s.opened file l) file) ≡ Some l.bytes
put_here s file l = ap (option_map (λ (z : Local). z.bytes)) (local_at_itself s.opened file l)

put_else : (s : client.State) (file f : ℕ) (l : Local) → (f ≡ file → ⊥) → option_map (λ (z : Local). z.bytes) (client.local_at (client.with_local s.opened file l) f) ≡ local_of s f
put_else s file f l apart = ap (option_map (λ (z : Local). z.bytes)) (local_at_another s.opened file l f apart)

-- a command that changes the local content, where it has the room
edited : (s : client.State) (d : Command) (file : ℕ) (l : Local) (size : ℕ) (content : List ℕ) → file_of d ≡ file → local_of s file ≡ Some l.bytes → ((v : List ℕ) → leaves d told.Done v (Some l.bytes) ≡ Some content) → ((n : ℕ) (v : List ℕ) (x : Option (List ℕ)) → leaves d (told.TooBig n) v x ≡ x)
    → Stays s (edits s file l size content).0 × AnswersSo s d (edits s file l size content) (sized_outcome size)
edited s d file l size content mine at done big = by (nat_lt local_most size)
  where
    by : (b : Bool) → (let r : client.State × ClientStep = if b then too_big s size else done_with s file l content in Stays s r.0 × AnswersSo s d r (if b then told.TooBig size else told.Done))
    by true = (stays s, so s d (outcome.TooBig size) (told.TooBig size) tt refl (λ v. refl) (big size))
    by false = (
      (omega arith, refl),
      record {
        outcome = outcome.Done;
        plain = tt;
        ended = refl;
        told_is = refl;
        value = λ v. refl;
        here = λ v. ap (λ f. option_map (λ (z : Local). z.bytes) (client.local_at (client.with_local s.opened file (record l { bytes = content })) f)) mine ∙ put_here s file (record l { bytes = content }) ∙ sym (done v) ∙ ap (leaves d told.Done v) (sym at ∙ ap (local_of s) (sym mine));
        others = λ f apart. put_else s file f (record l { bytes = content }) (λ e. apart (e ∙ sym mine));
      },
    )

wrote : (s : client.State) (file offset : ℕ) (content : List Part) (l : Local) → local_of s file ≡ Some l.bytes → (let r = writes s file offset content l in Stays s r.0 × AnswersSo s (command.Write file offset content) r (write_outcome (length l.bytes) offset (content_length content)))
wrote s file offset content l at = by (content_length content == 0) refl
  where
    -- no bytes change nothing
    none : content_length content ≡ 0 → content_bytes content ≡ []
    none e = empty (content_bytes content) (let n = content_size content in omega (arith, n, e))
      where
        empty : (xs : List ℕ) → length xs ≡ 0 → xs ≡ []
        empty [] e = refl
        empty (x ∷ xs) e = absurd (omega (arith, e))

    some : (n : ℕ) → (n == 0) ≡ false → write_outcome (length l.bytes) offset n ≡ sized_outcome (written_size (length l.bytes) offset n)
    some zero e = absurd cc
    some (suc n) e = refl

    by : (b : Bool) → (content_length content == 0) ≡ b → (let r : client.State × ClientStep = if b then (s, ends outcome.Done 0 0) else edits s file l (written_size (length l.bytes) offset (content_length content)) (written l.bytes offset (content_bytes content)) in Stays s r.0 × AnswersSo s (command.Write file offset content) r (write_outcome (length l.bytes) offset (content_length content)))
    by true e =
        let z : content_length content ≡ 0 = grind (arith, nat_tests, e) in (
          stays s,
          subst (λ (own : Told). AnswersSo s (command.Write file offset content) (s, ends outcome.Done 0 0) own) (sym (ap (write_outcome (length l.bytes) offset) z)) (record {
            outcome = outcome.Done;
            plain = tt;
            ended = refl;
            told_is = refl;
            value = λ v. refl;
            here = λ v. at ∙ sym (ap (option_map (λ x. written x offset (content_bytes content))) at ∙ ap (λ z. Some (written l.bytes offset z)) (none z));
            others = λ f apart. refl;
          }),
        )
    by false e =
        subst (λ (own : Told). (let r = edits s file l (written_size (length l.bytes) offset (content_length content)) (written l.bytes offset (content_bytes content)) in Stays s r.0 × AnswersSo s (command.Write file offset content) r own)) (sym (some (content_length content) e))
        (edited s (command.Write file offset content) file l (written_size (length l.bytes) offset (content_length content)) (written l.bytes offset (content_bytes content)) refl at (λ v. refl) (λ m v x. refl))

-- ---- what is told of the local content

-- a command on an open file
local_one : (s : client.State) (d : Command) (file : ℕ) (does_it : Local → client.State × ClientStep) → s.task ≡ None → file_of d ≡ file
    → free_answer (may_ask s) d None ≡ Some told.NotOpen → ((v : List ℕ) (l : Option (List ℕ)) → leaves d told.NotOpen v l ≡ l)
    → ((l : Local) → client.local_at s.opened file ≡ Some l → local_of s file ≡ Some l.bytes → Stays s (does_it l).0 × AnswersBy s d (does_it l) (free_answer (may_ask s) d (Some l.bytes)))
    → IsAsked s d (on_local s s.task (client.local_at s.opened file) does_it)
local_one s d file does_it free mine shut idle goes = subst (λ (f : ℕ). (let r = on_local s s.task (client.local_at s.opened file) does_it in Stays s r.0 × AnswersBy s d r (free_answer (may_ask s) d (local_of s f)))) (sym mine) (subst (λ (t : Option Task). (let r = on_local s t (client.local_at s.opened file) does_it in Stays s r.0 × AnswersBy s d r (free_answer (may_ask s) d (local_of s file)))) (sym free) (by (client.local_at s.opened file) refl))
  where
    by : (o : Option Local) → client.local_at s.opened file ≡ o → (let r = on_local s None o does_it in Stays s r.0 × AnswersBy s d r (free_answer (may_ask s) d (option_map (λ (z : Local). z.bytes) o)))
    by None e = (stays s, subst (λ (x : Option Told). AnswersBy s d (s, ends outcome.NotOpen 0 0) x) (sym shut) (so s d outcome.NotOpen told.NotOpen tt refl (λ v. refl) idle))
    by (Some l) e = goes l e (ap (option_map (λ (z : Local). z.bytes)) e)

-- ---- the server is asked

opened_answer : (s : client.State) (file : ℕ) → s.task ≡ None → IsAnswered s (command.Open file) (opens s file s.task)
opened_answer s file free = subst (λ (t : Option Task). IsAnswered s (command.Open file) (opens s file t)) (sym free) (by (client.local_at s.opened file))
  where
    by : (o : Option Local) → (let r = opens_if s file (is_some o) in Stays s r.0 × AnswersBy s (command.Open file) r (free_answer (may_go s (command.Open file)) (command.Open file) (option_map (λ (z : Local). z.bytes) o)))
    by (Some l) = (stays s, so s (command.Open file) outcome.AlreadyOpen told.AlreadyOpen tt refl (λ v. refl) (λ v l. refl))
    by None = fresh (fresh_content s.cache file s.clock)
      where
        kept : (o : Option Content) → (let r = asks_kept (record s { cache = reserved s.cache file }) file o in Stays s r.0 × AnswersBy s (command.Open file) r None)
        kept None = ((let o = some_call in omega (arith, o), refl), inl (refl, refl, tt))
        kept (Some c) = ((let o = some_call in omega (arith, o), refl), inl (refl, refl, tt))

        ask : (b : Bool) → (let r = asks_file s file b in Stays s r.0 × AnswersBy s (command.Open file) r (unless_asks b))
        ask true = kept (content_of s.cache file)
        ask false = (stays s, so s (command.Open file) outcome.NoLink told.NoLink tt refl (λ v. refl) (λ v l. refl))

        fresh : (o : Option Content) → (let r = opens_kept s file o in Stays s r.0 × AnswersBy s (command.Open file) r (unless_asks (may_ask s || is_some o)))
        fresh None = subst (λ (b : Bool). (let r = asks_file s file (may_ask s) in Stays s r.0 × AnswersBy s (command.Open file) r (unless_asks b))) (sym (or_false (may_ask s))) (ask (may_ask s))
        fresh (Some v) =
            let l : Local = record { version = v.version; bytes = v.bytes } in
            let put = put_here s file (record { version = v.version; bytes = v.bytes }) in
            subst (λ (b : Bool). (let r = opens_fresh s file v in Stays s r.0 × AnswersBy s (command.Open file) r (unless_asks b))) (sym (or_true (may_ask s))) (
              (omega arith, refl),
              inr (record {
                outcome = outcome.Opened file (length v.bytes) (sha1 v.bytes);
                ended = refl;
                from = tt;
                late = λ o. tt;
                stores = λ o x. tt;
                here = λ x. put ∙ sym (ap (λ (z : Option (List ℕ)). Some (Rattle.std.specs.Prelude.unwrap_or z [])) put);
                others = λ f apart. put_else s file f (record { version = v.version; bytes = v.bytes }) apart;
              }),
            )

rewritten_answer : (s : client.State) (file : ℕ) → s.task ≡ None → IsAnswered s (command.Rewrite file) (rewrites s file s.task)
rewritten_answer s file free = subst (λ (t : Option Task). IsAnswered s (command.Rewrite file) (rewrites s file t)) (sym free) (by (client.local_at s.opened file))
  where
    by : (o : Option Local) → (let r = rewrites_if s file (is_some o) in Stays s r.0 × AnswersBy s (command.Rewrite file) r (free_answer (may_go s (command.Rewrite file)) (command.Rewrite file) (option_map (λ (z : Local). z.bytes) o)))
    by (Some l) = (stays s, so s (command.Rewrite file) outcome.AlreadyOpen told.AlreadyOpen tt refl (λ v. refl) (λ v l. refl))
    by None = fresh (fresh_content s.cache file s.clock)
      where
        ask : (b : Bool) → (let r = asks_anew s file b in Stays s r.0 × AnswersBy s (command.Rewrite file) r (unless_asks b))
        ask true = ((let o = some_call in omega (arith, o), refl), inl (refl, refl, tt))
        ask false = (stays s, so s (command.Rewrite file) outcome.NoLink told.NoLink tt refl (λ v. refl) (λ v l. refl))

        fresh : (o : Option Content) → (let r = renews_kept s file o in Stays s r.0 × AnswersBy s (command.Rewrite file) r (unless_asks (may_ask s || is_some o)))
        fresh None = subst (λ (b : Bool). (let r = asks_anew s file (may_ask s) in Stays s r.0 × AnswersBy s (command.Rewrite file) r (unless_asks b))) (sym (or_false (may_ask s))) (ask (may_ask s))
        fresh (Some v) = subst (λ (b : Bool). (let r = empties_fresh s file v in Stays s r.0 × AnswersBy s (command.Rewrite file) r (unless_asks b))) (sym (or_true (may_ask s))) (
          (omega arith, refl),
          inr (record {
            outcome = outcome.Done;
            ended = refl;
            from = refl;
            late = λ o. tt;
            stores = λ o x. tt;
            here = λ x. put_here s file (record { version = v.version; bytes = [] });
            others = λ f apart. put_else s file f (record { version = v.version; bytes = [] }) apart;
          }),
        )

closed_answer : (s : client.State) (file : ℕ) (l : Local) → local_of s file ≡ Some l.bytes → (let r = closes s file l in Stays s r.0 × AnswersBy s (command.Close file) r (unless_asks (may_ask s)))
closed_answer s file l at = ask (may_ask s)
  where
    value : local_of s file ≡ Some (client.local_bytes s.opened file)
    value = at ∙ ap (λ z. Some z) (sym (ap (λ (o : Option (List ℕ)). Rattle.std.specs.Prelude.unwrap_or o []) at))

    ask : (b : Bool) → (let r = asks_temp s file b in Stays s r.0 × AnswersBy s (command.Close file) r (unless_asks b))
    ask true = ((let o = some_call in omega (arith, o), refl), inl (refl, refl, value))
    ask false = (stays s, so s (command.Close file) outcome.NoLink told.NoLink tt refl (λ v. refl) (λ v l. refl))

-- ---- a command on names

-- it may begin wherever any operation may: it sends few calls
few_moves : (dirs : List (List ℕ)) (n : List ℕ) (to : Spot) → length dirs ≤ 64 → length to.dirs ≤ 64 → walk_left (arrives 1 dirs (goal.RenameFrom n to)) ≤ 999998
few_moves [] n to few more = omega (arith, more)
few_moves (d ∷ ds) n to few more = omega (arith, few, more)

few_calls : (k : PathCommand) → HasNames k → walk_left (begun k) ≤ 999998
few_calls path.LookRoot h = omega arith
few_calls (path.List p) h = let few = h.1 in omega (arith, few)
few_calls (path.Rename s t) h = few_moves s.dirs s.name t h.0.0.1 h.1.0.1
few_calls _ h = let few = h.0.1 in omega (arith, few)

walk_asks : (s : client.State) (k : PathCommand) → HasNames k → may_walk s (begun k) ≡ may_ask s
walk_asks s k names = by (may_ask s) refl
  where
    room : (l : Bool) → elim l as (λ (x : Bool). Bool) [ true ↦ has_xids s.next_xid | false ↦ false ] ≡ true → has_xids s.next_xid ≡ true
    room true e = e
    room false e = absurd cc

    by : (b : Bool) → may_ask s ≡ b → (b && nat_lt (s.next_xid + 1 + walk_left (begun k)) 4294967296) ≡ b
    by true e =
        let few = few_calls k names in
        let x = room s.linked e in
        let lt : s.next_xid < 4293967297 = grind (arith, nat_tests, x) in
        let fits : s.next_xid + 1 + walk_left (begun k) < 4294967296 = omega (arith, lt, few) in
        let b : nat_lt (s.next_xid + 1 + walk_left (begun k)) 4294967296 ≡ true = grind (arith, nat_tests, fits) in
        b
    by false e = refl

own_named : (asks : Bool) (k : PathCommand) (l : Option (List ℕ)) → free_answer asks (command.Named k) l ≡ unless_asks asks
own_named asks k None = refl
own_named asks k (Some x) = refl

no_link_leaves : (k : PathCommand) (v : List ℕ) (l : Option (List ℕ)) → leaves (command.Named k) told.NoLink v l ≡ l
no_link_leaves (path.Find s) v l = refl
no_link_leaves (path.Rewrite s) v l = refl
no_link_leaves k v l = refl

named_answer : (s : client.State) (k : PathCommand) → HasNames k → s.task ≡ None → IsAsked s (command.Named k) (walks s k s.task)
named_answer s k names free =
    subst (λ (t : Option Task). IsAsked s (command.Named k) (walks s k t)) (sym free)
    (subst (λ (x : Option Told). (let r = walks_if s (begun k) (may_walk s (begun k)) in Stays s r.0 × AnswersBy s (command.Named k) r x)) (sym (own_named (may_ask s) k (local_of s 0)))
    (subst (λ (b : Bool). (let r = walks_if s (begun k) (may_walk s (begun k)) in Stays s r.0 × AnswersBy s (command.Named k) r (unless_asks b))) (walk_asks s k names) (ask (may_walk s (begun k)))))
  where
    ask : (b : Bool) → (let r = walks_if s (begun k) b in Stays s r.0 × AnswersBy s (command.Named k) r (unless_asks b))
    ask true = ((let o = some_call in omega (arith, o), refl), inl (refl, refl, tt))
    ask false = (stays s, so s (command.Named k) outcome.NoLink told.NoLink tt refl (λ v. refl) (no_link_leaves k))

-- ---- any command

-- with nothing under way
free_does : (s : client.State) (d : Command) → IsSmall d → s.task ≡ None → IsAnswered s d (does s d)
free_does s (command.Open file) small free = opened_answer s file free
free_does s (command.Rewrite file) small free = rewritten_answer s file free
free_does s (command.Write file offset content) small free = plainly s (command.Write file offset content) _ refl (local_one s (command.Write file offset content) file (writes s file offset content) free refl refl (λ v l. refl) (λ l e at. wrote s file offset content l at))
free_does s (command.Trunc file size) small free = plainly s (command.Trunc file size) _ refl (local_one s (command.Trunc file size) file (truncates s file size) free refl refl (λ v l. refl) (λ l e at. edited s (command.Trunc file size) file l size (truncated l.bytes size) refl at (λ v. refl) (λ n v x. refl)))
free_does s (command.Read file offset count) small free = plainly s (command.Read file offset count) _ refl (local_one s (command.Read file offset count) file (reads s offset count) free refl refl (λ v l. refl) (λ l e at. (stays s, so s (command.Read file offset count) (outcome.Piece (length (part_of l.bytes offset count)) (sha1 (part_of l.bytes offset count))) (told.Piece (length (part_of l.bytes offset count)) (sha1 (part_of l.bytes offset count))) tt refl (λ v. refl) (λ v l. refl))))
free_does s (command.Close file) small free = plainly s (command.Close file) _ refl (local_one s (command.Close file) file (closes s file) free refl refl (λ v l. refl) (λ l e at. closed_answer s file l at))
free_does s (command.Abandon file) small free = plainly s (command.Abandon file) _ refl (local_one s (command.Abandon file) file (abandons s file) free refl refl (λ v l. refl) (λ l e at. (
  (omega arith, refl),
  record {
    outcome = outcome.Done;
    plain = tt;
    ended = refl;
    told_is = refl;
    value = λ v. refl;
    here = λ v. ap (option_map (λ (z : Local). z.bytes)) (without_at_itself s.opened file);
    others = λ f apart. ap (option_map (λ (z : Local). z.bytes)) (without_at_another s.opened file f apart);
  },
)))
free_does s (command.Named k) small free = plainly s (command.Named k) _ refl (named_answer s k small free)

-- the same client before its clock was read
value_still : (s : client.State) (now : ℕ) (d : Command) → ValueIs (clocked s now) d → ValueIs s d
value_still s now (command.Close f) h = h
value_still s now _ h = tt

unclocked : (s : client.State) (now : ℕ) (d : Command) (r : client.State × ClientStep) (x : Option Told) → AnswersBy (clocked s now) d r x → AnswersBy s d r x
unclocked s now d r (Some own) h = record { outcome = h.outcome; plain = h.plain; ended = h.ended; told_is = h.told_is; value = h.value; here = h.here; others = h.others }
unclocked s now d r None (inl h) = inl (h.0, h.1, value_still s now d h.2)
unclocked s now d r None (inr h) = inr (record { outcome = h.outcome; ended = h.ended; from = h.from; late = h.late; stores = h.stores; here = h.here; others = h.others })

pub free_answers : (s : client.State) (d : Command) (now : ℕ) → IsSmall d → s.task ≡ None → (let r = command_step s d now in Stays s r.0 × AnswersBy s d r (own_answer false (may_go (clocked s now) d) d (local_of s (file_of d))))
free_answers s d now small free =
    let h = free_does (clocked s now) d small free in
    (h.0, unclocked s now d (command_step s d now) (own_answer false (may_go (clocked s now) d) d (local_of s (file_of d))) h.1)

-- with an operation under way it is busy
busy_by : (s : client.State) (d : Command) (t : Task) (now : ℕ) → s.task ≡ Some t → command_step s d now ≡ (clocked s now, ends outcome.Busy 0 0)
busy_by s (command.Open file) t now e = ap (opens (clocked s now) file) e
busy_by s (command.Rewrite file) t now e = ap (rewrites (clocked s now) file) e
busy_by s (command.Write file offset content) t now e = ap (λ z. on_local (clocked s now) z (client.local_at s.opened file) (writes (clocked s now) file offset content)) e
busy_by s (command.Trunc file size) t now e = ap (λ z. on_local (clocked s now) z (client.local_at s.opened file) (truncates (clocked s now) file size)) e
busy_by s (command.Read file offset count) t now e = ap (λ z. on_local (clocked s now) z (client.local_at s.opened file) (reads (clocked s now) offset count)) e
busy_by s (command.Close file) t now e = ap (λ z. on_local (clocked s now) z (client.local_at s.opened file) (closes (clocked s now) file)) e
busy_by s (command.Abandon file) t now e = ap (λ z. on_local (clocked s now) z (client.local_at s.opened file) (abandons (clocked s now) file)) e
busy_by s (command.Named k) t now e = ap (walks (clocked s now) k) e

pub busy_answers : (s : client.State) (d : Command) (t : Task) (now : ℕ) → IsSmall d → s.task ≡ Some t → (let r = command_step s d now in Stays s r.0 × AnswersBy s d r (Some told.Busy))
busy_answers s d t now small e = subst (λ (r : client.State × ClientStep). Stays s r.0 × AnswersBy s d r (Some told.Busy)) (sym (busy_by s d t now e)) ((omega arith, refl), record { outcome = outcome.Busy; plain = tt; ended = refl; told_is = refl; value = λ v. refl; here = λ v. sym (leaves_all d told.Busy v (local_of s (file_of d)) tt); others = λ f apart. refl })
