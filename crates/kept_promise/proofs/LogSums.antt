-- What the messages of a log come to: an operation's traffic, its attempts and its COMMITTMPs are sums over what was said for it.
use Rattle.std.proofs.Common.{inl, inr, ◌≡◌, ℕ, ◌+◌, ◌<◌, ◌≤◌, List, [], ◌∷◌, ◌++◌, length, Bool, true, false, refl, sym, ap, ◌∙◌, subst, arith, length-append, map}
use Rattle.hash_calls.specs.declared.message.Lb.TheVariants as lb
use Rattle.nfs3_calls.specs.declared.message.Nfs.TheVariants as nfs
use Rattle.wire.specs.declared.message.Body.TheVariants as body
use Rattle.wire.specs.declared.message.Message.TheVariants as message
use Rattle.trace_replay.specs.Traffic.{traffic_if, sent_for, taken_for, traffic_of, named_by, named_in, made_in, commit_number, commits_in, bytes_number, bytes_in, attempts_of, deals_if}
use Rattle.trace_replay.specs.Trail.{sent_of, taken_of}
use Rattle.trace_replay.specs.Trail.{asked_in as calls_sent}
use Rattle.kept_promise.proofs.Common.{Deal.Sent, Deal.Took, Deal.Found, nat_tests, nat_lt, Contains-append_right, Contains, Chunk, Message, Op, Traffic, no_traffic, Moment, step_of, client_of, taken_by, given_by, Deal, deals_with, deals_in, deals_of, Said, all_said, is_of, is_commit, SentCommit, number_if, first_number, sent_traffic, taken_traffic, both, sent_in}
use Rattle.kept_promise.proofs.Tallies.{sent_sum, taken_sum}
use Rattle.kept_promise.proofs.Counted.{traffic_is, both_assoc, none_both, both_none, sent_append, taken_append, sent_said, taken_said, of_step, first_or_rest}

-- ---- logs joined

pub sent_more : (ms : List Message) (m : Message) → map Sent (ms ++ m ∷ []) ≡ map Sent ms ++ Sent m ∷ []
sent_more [] m = refl
sent_more (x ∷ ms) m = ap (λ l. Sent x ∷ l) (sent_more ms m)

pub named_join : (a b : List Deal) → named_in (a ++ b) ≡ named_in a ++ named_in b
named_join [] b = refl
named_join (d ∷ a) b = ap (λ l. named_by d ++ l) (named_join a b) ∙ sym (joined (named_by d) (named_in a) (named_in b))
  where
    joined : (xs ys zs : List Chunk) → (xs ++ ys) ++ zs ≡ xs ++ (ys ++ zs)
    joined [] ys zs = refl
    joined (x ∷ xs) ys zs = ap (λ l. x ∷ l) (joined xs ys zs)

-- how many TMPWRITEs were sent
abbrev pub whole_number : Deal → ℕ
whole_number (Sent (message.Call xid (body.Lb (lb.TmpWrite a)))) = 1
whole_number d = 0

abbrev pub whole_in : List Deal → ℕ
whole_in [] = 0
whole_in (d ∷ ds) = whole_number d + whole_in ds

pub made_join : (a b : List Deal) → made_in (a ++ b) ≡ made_in a + made_in b
made_join [] b = omega arith
made_join (d ∷ a) b = let h = made_join a b in omega (arith, h)

pub commits_join : (a b : List Deal) → commits_in (a ++ b) ≡ commits_in a + commits_in b
commits_join [] b = omega arith
commits_join (d ∷ a) b = let h = commits_join a b in omega (arith, h)

-- the bytes of READs that came, the READs that were sent, and the attempts that began
abbrev pub came_number : Deal → ℕ
came_number (Took m) = (taken_traffic m).«data»
came_number d = 0

abbrev pub came_in : List Deal → ℕ
came_in [] = 0
came_in (d ∷ ds) = came_number d + came_in ds

-- of what was sent
abbrev deal_number : (Message → ℕ) → Deal → ℕ
deal_number f (Sent m) = f m
deal_number f d = 0

abbrev pub deal_sum : (Message → ℕ) → List Deal → ℕ
deal_sum f [] = 0
deal_sum f (d ∷ ds) = deal_number f d + deal_sum f ds

abbrev pub read_number : Message → ℕ
read_number m = (sent_traffic m).read

abbrev pub asked_in : List Deal → ℕ
asked_in ds = deal_sum read_number ds

abbrev pub begins_in : List Deal → ℕ
begins_in ds = deal_sum first_number ds

pub came_join : (a b : List Deal) → came_in (a ++ b) ≡ came_in a + came_in b
came_join [] b = omega arith
came_join (d ∷ a) b = let h = came_join a b in omega (arith, h)

pub sum_join : (f : Message → ℕ) (a b : List Deal) → deal_sum f (a ++ b) ≡ deal_sum f a + deal_sum f b
sum_join f [] b = omega arith
sum_join f (d ∷ a) b = let h = sum_join f a b in omega (arith, h)

pub none_came : (ms : List Message) → came_in (map Sent ms) ≡ 0
none_came [] = refl
none_came (m ∷ ms) = let h = none_came ms in omega (arith, h)

-- ---- an operation's traffic

abbrev pub deal_traffic : Deal → Traffic
deal_traffic (Took m) = taken_traffic m
deal_traffic (Sent m) = sent_traffic m
deal_traffic d = no_traffic

abbrev pub log_traffic : List Deal → Traffic
log_traffic [] = no_traffic
log_traffic (d ∷ ds) = let later : Traffic = log_traffic ds in both (deal_traffic d) later

pub log_join : (a b : List Deal) → log_traffic (a ++ b) ≡ both (log_traffic a) (log_traffic b)
log_join [] b = sym (none_both (log_traffic b))
log_join (d ∷ a) b = ap (both (deal_traffic d)) (log_join a b) ∙ sym (both_assoc (deal_traffic d) (log_traffic a) (log_traffic b))

log_took : (ms : List Message) → log_traffic (map Took ms) ≡ taken_sum ms
log_took [] = refl
log_took (m ∷ ms) = ap (both (taken_traffic m)) (log_took ms)

pub log_sent : (ms : List Message) → log_traffic (map Sent ms) ≡ sent_sum ms
log_sent [] = refl
log_sent (m ∷ ms) = ap (both (sent_traffic m)) (log_sent ms)

log_found : (ps : List (ℕ × ℕ)) → log_traffic (map Found ps) ≡ no_traffic
log_found [] = refl
log_found (p ∷ ps) = none_both (log_traffic (map Found ps)) ∙ log_found ps

pub log_with : (ts : List Message) (fs : List (ℕ × ℕ)) (ms : List Message) → log_traffic (deals_with ts fs ms) ≡ both (taken_sum ts) (sent_sum ms)
log_with ts fs ms =
    log_join (map Took ts ++ map Found fs) (map Sent ms)
    ∙ ap (λ (t : Traffic). both t (log_traffic (map Sent ms))) (log_join (map Took ts) (map Found fs) ∙ ap (both (log_traffic (map Took ts))) (log_found fs) ∙ both_none (log_traffic (map Took ts)) ∙ log_took ts)
    ∙ ap (both (taken_sum ts)) (log_sent ms)

log_if : (b : Bool) (ts : List Message) (fs : List (ℕ × ℕ)) (ms : List Message) → log_traffic (deals_if b ts fs ms) ≡ both (traffic_if b (sent_sum ms)) (traffic_if b (taken_sum ts))
log_if true ts fs ms = log_with ts fs ms ∙ traffic_is (both (taken_sum ts) (sent_sum ms)) (both (sent_sum ms) (taken_sum ts)) (omega arith) (omega arith) (omega arith) (omega arith)
log_if false ts fs ms = refl

-- what was sent and taken for an operation is what its log tells
pub traffic_log : (o : Op) (past : List Moment) → traffic_of o (sent_of past) (taken_of past) ≡ log_traffic (deals_of o past)
traffic_log o [] = refl
traffic_log o (m ∷ past) =
    let c : ℕ = client_of m.before m.event in
    let ms : List Message = calls_sent m in
    let ts : List Message = taken_by m.before c m.event in
    let b : Bool = of_step o (step_of m) c in
    ap (λ (t : Traffic). both t (taken_for o (taken_of (m ∷ past)))) (sent_append o (sent_in m) (sent_of past) ∙ ap (λ (t : Traffic). both t (sent_for o (sent_of past))) (sent_said o (step_of m) c ms))
    ∙ ap (both (both (traffic_if b (sent_sum ms)) (sent_for o (sent_of past)))) (taken_append o (all_said (step_of m) c ts) (taken_of past) ∙ ap (λ (t : Traffic). both t (taken_for o (taken_of past))) (taken_said o (step_of m) c ts))
    ∙ crossed (traffic_if b (sent_sum ms)) (sent_for o (sent_of past)) (traffic_if b (taken_sum ts)) (taken_for o (taken_of past))
    ∙ ap (both (both (traffic_if b (sent_sum ms)) (traffic_if b (taken_sum ts)))) (traffic_log o past)
    ∙ ap (λ (t : Traffic). both t (log_traffic (deals_of o past))) (sym (log_if b ts (given_by m.before c m.event) ms))
    ∙ sym (log_join (deals_in o m) (deals_of o past))
  where
    crossed : (a b c d : Traffic) → both (both a b) (both c d) ≡ both (both a c) (both b d)
    crossed a b c d = traffic_is (both (both a b) (both c d)) (both (both a c) (both b d)) (omega arith) (omega arith) (omega arith) (omega arith)

-- by its parts
pub record IsSum (t : Traffic) (log : List Deal) : Type 0 where
  pub cond : t.cond ≡ length (named_in log)
  pub tmp : t.tmp ≡ whole_in log
  pub read : t.read ≡ asked_in log
  pub data_is : t.«data» ≡ bytes_in log + came_in log

sum_deal : (d : Deal) → ((deal_traffic d).cond ≡ length (named_by d)) × ((deal_traffic d).tmp ≡ whole_number d) × ((deal_traffic d).read ≡ deal_number read_number d) × ((deal_traffic d).«data» ≡ bytes_number d + came_number d)
sum_deal (Sent (message.Call xid (body.Lb (lb.CondWrite a)))) = (refl, refl, refl, refl)
sum_deal (Sent (message.Call xid (body.Lb (lb.TmpWrite a)))) = (refl, refl, refl, omega arith)
sum_deal (Sent (message.Call xid (body.Nfs (nfs.Read r)))) = (refl, refl, refl, refl)
sum_deal (Took (message.Answer xid (body.Nfs (nfs.ReadAnswer a)))) = took (message.Answer xid (body.Nfs (nfs.ReadAnswer a)))
  where
    took : (m : Message) → ((taken_traffic m).cond ≡ 0) × ((taken_traffic m).tmp ≡ 0) × ((taken_traffic m).read ≡ 0) × ((taken_traffic m).«data» ≡ 0 + (taken_traffic m).«data»)
    took (message.Answer xid (body.Nfs (nfs.ReadAnswer (Rattle.kept_promise.proofs.Common.Done p)))) = (refl, refl, refl, omega arith)
    took m = (refl, refl, refl, refl)
sum_deal d = (refl, refl, refl, refl)

sum_log : (log : List Deal) → IsSum (log_traffic log) log
sum_log [] = record { cond = refl; tmp = refl; read = refl; data_is = refl }
sum_log (d ∷ log) =
    let h = sum_log log in
    let s = sum_deal d in
    let a = s.0 in
    let b = s.1 in
    let c = s.2 in
    let e = s.3 in
    let p = h.cond in
    let q = h.tmp in
    let r = h.read in
    let t = h.data_is in
    let l = length-append (named_by d) (named_in log) in
    record { cond = omega (arith, a, p, l); tmp = omega (arith, b, q); read = omega (arith, c, r); data_is = omega (arith, e, t) }

-- what an operation counted
pub counts_log : (o : Op) (past : List Moment) → o.traffic ≡ traffic_of o (sent_of past) (taken_of past) → IsSum o.traffic (deals_of o past)
counts_log o past counted = subst (λ (t : Traffic). IsSum t (deals_of o past)) (sym (counted ∙ traffic_log o past)) (sum_log (deals_of o past))

-- ---- its attempts, and its COMMITTMPs

abbrev said_sum : (Message → ℕ) → Op → List Said → ℕ
said_sum f o [] = 0
said_sum f o (s ∷ ss) = number_if (is_of o s) (f s.message) + said_sum f o ss

said_append : (f : Message → ℕ) (o : Op) (ss ts : List Said) → said_sum f o (ss ++ ts) ≡ said_sum f o ss + said_sum f o ts
said_append f o [] ts = omega arith
said_append f o (s ∷ ss) ts = let h = said_append f o ss ts in omega (arith, h)

pub sum_took : (f : Message → ℕ) (ts : List Message) (fs : List (ℕ × ℕ)) → deal_sum f (map Took ts ++ map Found fs) ≡ 0
sum_took f [] [] = refl
sum_took f [] (x ∷ fs) = let h = sum_took f [] fs in omega (arith, h)
sum_took f (t ∷ ts) fs = let h = sum_took f ts fs in omega (arith, h)

said_log : (f : Message → ℕ) (o : Op) (past : List Moment) → said_sum f o (sent_of past) ≡ deal_sum f (deals_of o past)
said_log f o [] = refl
said_log f o (m ∷ past) =
    let c : ℕ = client_of m.before m.event in
    let ms : List Message = calls_sent m in
    let a = said_append f o (sent_in m) (sent_of past) in
    let h = said_log f o past in
    let j = sum_join f (deals_in o m) (deals_of o past) in
    let n = now (of_step o (step_of m) c) refl (taken_by m.before c m.event) (given_by m.before c m.event) ms in
    omega (arith, a, h, j, n)
  where
    sent : (step c : ℕ) (ms : List Message) → of_step o step c ≡ true → said_sum f o (all_said step c ms) ≡ deal_sum f (map Sent ms)
    sent step c [] on = refl
    sent step c (x ∷ ms) on = let h = sent step c ms on in let e = ap (λ b. number_if b (f x)) on in omega (arith, h, e)

    none : (step c : ℕ) (ms : List Message) → of_step o step c ≡ false → said_sum f o (all_said step c ms) ≡ 0
    none step c [] off = refl
    none step c (x ∷ ms) off = let h = none step c ms off in let e = ap (λ b. number_if b (f x)) off in omega (arith, h, e)

    now : (b : Bool) → of_step o (step_of m) (client_of m.before m.event) ≡ b → (ts : List Message) (fs : List (ℕ × ℕ)) (ms : List Message) → said_sum f o (all_said (step_of m) (client_of m.before m.event) ms) ≡ deal_sum f (deals_if b ts fs ms)
    now true is ts fs ms = let h = sent (step_of m) (client_of m.before m.event) ms is in let j = sum_join f (map Took ts ++ map Found fs) (map Sent ms) in let z = sum_took f ts fs in omega (arith, h, j, z)
    now false is ts fs ms = none (step_of m) (client_of m.before m.event) ms is

pub attempts_log : (o : Op) (past : List Moment) → attempts_of o (sent_of past) ≡ begins_in (deals_of o past)
attempts_log o past = same (sent_of past) ∙ said_log first_number o past
  where
    same : (ss : List Said) → attempts_of o ss ≡ said_sum first_number o ss
    same [] = refl
    same (s ∷ ss) = let h = same ss in omega (arith, h)

abbrev commit_of : Message → ℕ
commit_of m = commit_number (Sent m)

commits_sum : (log : List Deal) → commits_in log ≡ deal_sum commit_of log
commits_sum [] = refl
commits_sum (Sent m ∷ log) = let h = commits_sum log in omega (arith, h)
commits_sum (Took m ∷ log) = let h = commits_sum log in omega (arith, h)
commits_sum (Found p ∷ log) = let h = commits_sum log in omega (arith, h)

one_commit : (m : Message) → is_commit m ≡ true → commit_of m ≡ 1
one_commit (message.Call xid (body.Lb (lb.CommitTmp a))) is = refl
one_commit m is = absurd cc

is_one : (m : Message) → 0 < commit_of m → is_commit m ≡ true
is_one (message.Call xid (body.Lb (lb.CommitTmp a))) lt = refl
is_one m lt = absurd (omega (arith, lt))

-- it sent one where its log has one
pub commit_log : (o : Op) (past : List Moment) → SentCommit o (sent_of past) → 0 < commits_in (deals_of o past)
commit_log o past (s, there, of, is) = let a = some (sent_of past) there in let b = said_log commit_of o past in let c = commits_sum (deals_of o past) in omega (arith, a, b, c)
  where
    some : (ss : List Said) → Contains ss s → 0 < said_sum commit_of o ss
    some [] at = let lt = at.1 in absurd (omega (arith, lt))
    some (z ∷ ss) at = elim (first_or_rest z ss s at) [
      | inl first ↦ (let e = ap (λ b. number_if b (commit_of z.message)) (subst (λ (y : Said). is_of o y ≡ true) first of) in let n = one_commit z.message (subst (λ (y : Said). is_commit y.message ≡ true) first is) in omega (arith, e, n))
      | inr rest ↦ (let h = some ss rest in omega (arith, h))
    ]

pub log_commit : (o : Op) (past : List Moment) → 0 < commits_in (deals_of o past) → SentCommit o (sent_of past)
log_commit o past lt = some (sent_of past) (let b = said_log commit_of o past in let c = commits_sum (deals_of o past) in omega (arith, lt, b, c))
  where
    some : (ss : List Said) → 0 < said_sum commit_of o ss → SentCommit o ss
    some [] lt = absurd (omega (arith, lt))
    some (z ∷ ss) lt = by (is_of o z) refl (nat_lt 0 (commit_of z.message)) refl (λ h. let r = some ss h in (r.0, Contains-append_right (z ∷ []) ss r.0 r.1, r.2, r.3))
      where
        by : (b : Bool) → is_of o z ≡ b → (l : Bool) → nat_lt 0 (commit_of z.message) ≡ l → (0 < said_sum commit_of o ss → SentCommit o (z ∷ ss)) → SentCommit o (z ∷ ss)
        by true of true is later = (z, (0, omega arith, refl), of, is_one z.message (grind (arith, nat_tests, is)))
        by true of false is later = later (let e = ap (λ b. number_if b (commit_of z.message)) of in let n : commit_of z.message ≤ 0 = grind (arith, nat_tests, is) in omega (arith, lt, e, n))
        by false of l is later = later (let e = ap (λ b. number_if b (commit_of z.message)) of in omega (arith, lt, e))
