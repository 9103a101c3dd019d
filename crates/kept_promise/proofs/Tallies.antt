-- What a client counts of a step is what it sends in it, and the bytes of the READ that it takes.
use Rattle.std.proofs.Common.{◌⊎◌, inl, inr, ◌≡◌, ℕ, ◌+◌, ◌-◌, List, [], ◌∷◌, ◌++◌, length, Option, Some, None, Result, Ok, Err, Bool, true, false, refl, sym, ap, ◌∙◌, subst, arith}
use Rattle.nfs3_calls.specs.declared.message.Nfs.TheVariants as nfs
use Rattle.wire.specs.declared.message.Body.TheVariants as body
use Rattle.hash_calls.specs.declared.message.Back.{Back}
use Rattle.hash_calls.specs.declared.message.Back.TheVariants as back
use Rattle.client_state.specs.Noting.{at as clocked}
use Rattle.open_close.specs.Step.{called, called_back}
use Rattle.wire.specs.declared.message.Message.TheVariants as message
use Rattle.wire.specs.declared.message.RpcRefusal.TheVariants as refusal
use Rattle.kept_promise.proofs.Common.{Chunk, Done, Body, Message, Pending, RpcRefusal, WireFault, cond_call, commit_call, names_from, names_all, calls_most, read_call, reads_chunk, reads_from, State, local_bytes, pending, calls_of, has_call, idle, denied, took, drops, took_if, denied_if, got_message, got_fault, got_step, Reads, ClientStep, Counts, Fetch, Stage, Upload, Task, Traffic, no_traffic, wanted_if, wanted_by, sent_traffic, taken_traffic, both}
use Rattle.kept_promise.proofs.StepCases.{reads_keep, names_keep, IsFault, bytes_came, JustEnds, FetchNow, FetchNow.all_told, FetchNow.one_came, reads_of, Cases, took_cases, Walks, walk_cases}
use Rattle.path_calls.specs.Walk.{next_call}
use Rattle.path_calls.specs.declared.answers.Told.{Told as WalkTold}
use Rattle.path_calls.specs.declared.answers.Told.TheVariants as walk_told_as
use Rattle.path_calls.specs.declared.walk.Walk.{Walk}
use Rattle.client_state.specs.declared.task.Stage.TheVariants as stage
use Rattle.kept_promise.proofs.WalkMessages.{call_counts, answer_counts}

-- ---- sums

abbrev pub sent_sum : List Message → Traffic
sent_sum [] = no_traffic
sent_sum (m ∷ ms) = let later : Traffic = sent_sum ms in both (sent_traffic m) later

abbrev pub taken_sum : List Message → Traffic
taken_sum [] = no_traffic
taken_sum (m ∷ ms) = let later : Traffic = taken_sum ms in both (taken_traffic m) later

-- a step's counts are those of the messages that it sends, and of so many bytes that were taken
pub record Tallied (n : Counts) (send : List Message) (bytes : ℕ) : Type 0 where
  pub cond : n.cond_writes ≡ (sent_sum send).cond
  pub tmp : n.temp_writes ≡ (sent_sum send).tmp
  pub read : n.reads ≡ (sent_sum send).read
  pub data_is : n.bytes ≡ (sent_sum send).«data» + bytes

abbrev pub Tallies : (bytes : ℕ) → State × ClientStep → Type 0
Tallies bytes r = Tallied r.1.counts r.1.send bytes ⊎ IsFault r.1.ended

-- ---- lists of READs and of CONDWRITEs

-- sums of lists of which one more is sent behind
pub sum_cond : (ms : List Message) (m : Message) → (sent_sum (ms ++ m ∷ [])).cond ≡ (sent_sum ms).cond + (sent_traffic m).cond
sum_cond [] m = omega arith
sum_cond (x ∷ ms) m = let l = sum_cond ms m in omega (arith, l)

pub sum_tmp : (ms : List Message) (m : Message) → (sent_sum (ms ++ m ∷ [])).tmp ≡ (sent_sum ms).tmp + (sent_traffic m).tmp
sum_tmp [] m = omega arith
sum_tmp (x ∷ ms) m = let l = sum_tmp ms m in omega (arith, l)

pub sum_read : (ms : List Message) (m : Message) → (sent_sum (ms ++ m ∷ [])).read ≡ (sent_sum ms).read + (sent_traffic m).read
sum_read [] m = omega arith
sum_read (x ∷ ms) m = let l = sum_read ms m in omega (arith, l)

pub sum_data : (ms : List Message) (m : Message) → (sent_sum (ms ++ m ∷ [])).«data» ≡ (sent_sum ms).«data» + (sent_traffic m).«data»
sum_data [] m = omega arith
sum_data (x ∷ ms) m = let l = sum_data ms m in omega (arith, l)

-- so many READs
pub record AreReads (send : List Message) : Type 0 where
  pub cond : (sent_sum send).cond ≡ 0
  pub tmp : (sent_sum send).tmp ≡ 0
  pub read : (sent_sum send).read ≡ length send
  pub data_is : (sent_sum send).«data» ≡ 0

pub record AreNames (send : List Message) : Type 0 where
  pub cond : (sent_sum send).cond ≡ length send
  pub tmp : (sent_sum send).tmp ≡ 0
  pub read : (sent_sum send).read ≡ 0
  pub data_is : (sent_sum send).«data» ≡ 0

pub length_more : (ms : List Message) (m : Message) → length (ms ++ m ∷ []) ≡ length ms + 1
length_more [] m = omega arith
length_more (x ∷ ms) m = let l = length_more ms m in omega (arith, l)

one_read : (ms : List Message) (xid file : ℕ) (c : Chunk) → AreReads ms → AreReads (ms ++ read_call xid file c ∷ [])
one_read ms xid file c h =
    let a = h.cond in
    let b = h.tmp in
    let d = h.read in
    let e = h.data_is in
    let n = length_more ms (read_call xid file c) in
    let p = sum_cond ms (read_call xid file c) in
    let q = sum_tmp ms (read_call xid file c) in
    let r = sum_read ms (read_call xid file c) in
    let s = sum_data ms (read_call xid file c) in
    record { cond = omega (arith, a, p); tmp = omega (arith, b, q); read = omega (arith, d, r, n); data_is = omega (arith, e, s) }

one_name : (ms : List Message) (lbfs xid temp : ℕ) (c : Chunk) → AreNames ms → AreNames (ms ++ cond_call lbfs xid temp c ∷ [])
one_name ms lbfs xid temp c h =
    let a = h.cond in
    let b = h.tmp in
    let d = h.read in
    let e = h.data_is in
    let n = length_more ms (cond_call lbfs xid temp c) in
    let p = sum_cond ms (cond_call lbfs xid temp c) in
    let q = sum_tmp ms (cond_call lbfs xid temp c) in
    let r = sum_read ms (cond_call lbfs xid temp c) in
    let s = sum_data ms (cond_call lbfs xid temp c) in
    record { cond = omega (arith, a, p, n); tmp = omega (arith, b, q); read = omega (arith, d, r); data_is = omega (arith, e, s) }

pub all_reads : (s : State) (file : ℕ) (f : Fetch) → AreReads (reads_of s file f).send
all_reads s file f = reads_keep (λ r. AreReads r.send) s.cache s.index file (λ r c o h at found. by r c h o) (length f.chunks - f.asked) (reads_from f s.next_xid) (record { cond = refl; tmp = refl; read = refl; data_is = refl })
  where
    by : (r : Reads) (c : Chunk) → AreReads r.send → (o : Option (List ℕ)) → AreReads (reads_chunk file r c o).send
    by r c h None = one_read r.send r.next_xid file c h
    by r c h (Some bytes) = h

pub all_names : (lbfs : ℕ) (st : Upload) (next : ℕ) → AreNames (names_all lbfs st next).send
all_names lbfs st next = names_keep lbfs (λ n. AreNames n.send) (λ n c h at. one_name n.send lbfs n.next_xid n.store.temp c h) (calls_most - length st.under) (names_from st next) (record { cond = refl; tmp = refl; read = refl; data_is = refl })

-- ---- an answer

came_now : (st : Stage) (x : ℕ) (b : Body) (f : Fetch) (bytes : ℕ) → FetchNow st x b f bytes → bytes ≡ bytes_came x b
came_now st x b f bytes (all_told g h is eof at same f_is none) = none ∙ sym (ap (bytes_came x) is)
came_now st x b f bytes (one_came g c k p is at found chunk fits f_is len) = len ∙ sym (ap (bytes_came x) is ∙ (let e : bytes_came x (body.Nfs (nfs.ReadAnswer (Done p))) ≡ length p.bytes = omega arith in e))

tally_ends : (x : ℕ) (b : Body) (r : State × ClientStep) → JustEnds x b r → Tallies (bytes_came x b) r
tally_ends x b r e = elim e.known [
  | inl fault ↦ inr fault
  | inr known ↦
      let sent = e.sent in
      let counts = e.counts in
      let came = known.1 in
      let n = ap (λ (c : Counts). c.bytes) counts in
      let d = ap (λ (l : List Message). (sent_sum l).«data») sent in
      inl (record {
        cond = ap (λ (c : Counts). c.cond_writes) counts ∙ sym (ap (λ (l : List Message). (sent_sum l).cond) sent);
        tmp = ap (λ (c : Counts). c.temp_writes) counts ∙ sym (ap (λ (l : List Message). (sent_sum l).tmp) sent);
        read = ap (λ (c : Counts). c.reads) counts ∙ sym (ap (λ (l : List Message). (sent_sum l).read) sent);
        data_is = omega (arith, n, d, came);
      })
]

tally_cases : (s : State) (calls : List Pending) (file : ℕ) (st : Stage) (x : ℕ) (b : Body) → Cases (λ found r. Tallies (bytes_came x b) r) s calls file st x b
tally_cases s calls file st x b = record {
  ends = λ r e unchanged came. tally_ends x b r e;
  changed = λ r f version e open_ gave last is. tally_ends x b r e;
  uses = λ y l bytes at is kept. let z = ap (bytes_came x) is in inl (record { cond = refl; tmp = refl; read = refl; data_is = omega (arith, z) });
  fetches = λ y l at is. let z = ap (bytes_came x) is in inl (record { cond = refl; tmp = refl; read = refl; data_is = omega (arith, z) });
  anew = λ f version bytes open_ gave few came. inl (record { cond = refl; tmp = refl; read = refl; data_is = omega (arith, came) });
  lists = λ f h is at same far. let z = ap (bytes_came x) is in inl (record { cond = refl; tmp = refl; read = refl; data_is = omega (arith, z) });
  reads = λ f bytes now here.
      let h = all_reads s file f in
      let a = h.data_is in
      let z = came_now st x b f bytes now in
      inl (record { cond = sym h.cond; tmp = sym h.tmp; read = sym h.read; data_is = omega (arith, a, z) });
  opens = λ f bytes now here. let z = came_now st x b f bytes now in inl (record { cond = refl; tmp = refl; read = refl; data_is = omega (arith, z) });
  names = λ w at known none is.
      let h = all_names s.lbfs w s.next_xid in
      let a = h.data_is in
      inl (record { cond = sym h.cond; tmp = sym h.tmp; read = sym h.read; data_is = omega (arith, a, none) });
  commits = λ w at known none is.
      let n = names_all s.lbfs w s.next_xid in
      let h = all_names s.lbfs w s.next_xid in
      let m : Message = commit_call s.lbfs n.next_xid n.store.temp file (length (local_bytes s.opened file)) in
      let a = h.cond in
      let c = h.tmp in
      let d = h.read in
      let e = h.data_is in
      let p = sum_cond n.send m in
      let q = sum_tmp n.send m in
      let r = sum_read n.send m in
      let t = sum_data n.send m in
      inl (record { cond = omega (arith, a, p); tmp = omega (arith, c, q); read = omega (arith, d, r); data_is = omega (arith, e, t, none) });
  whole = λ old c k at unknown none found name chunk. inl (record { cond = refl; tmp = refl; read = refl; data_is = omega (arith, none) });
}

tally_drops : (s : State) (task : Option Task) (xid : ℕ) (b : Bool) → Tallies 0 (drops s task xid b)
tally_drops s task xid true = inl (record { cond = refl; tmp = refl; read = refl; data_is = refl })
tally_drops s (Some t) xid false = inr (_, refl)
tally_drops s None xid false = inl (record { cond = refl; tmp = refl; read = refl; data_is = refl })

walk_answer : (s : State) (calls : List Pending) (file y : ℕ) (w : Walk) (x : ℕ) (b : Body) → Tallies (bytes_came x b) (took s calls file (stage.Walking y w) x b)
walk_answer s calls file y w x b = walk_cases (Tallies (bytes_came x b)) s calls file y w x b (record {
  fault = λ f bad. inr (f, refl);
  asks = λ v k.
      let z = came (walk_told_as.Asks v) k in
      let e = call_counts s.next_xid v in
      let d : (sent_traffic (message.Call s.next_xid (body.Nfs (next_call v)))).«data» ≡ 0 = ap (λ (t : Traffic). t.«data») e in
      inl (record {
        cond = sym (ap (λ (t : Traffic). (both t no_traffic).cond) e);
        tmp = sym (ap (λ (t : Traffic). (both t no_traffic).tmp) e);
        read = sym (ap (λ (t : Traffic). (both t no_traffic).read) e);
        data_is = omega (arith, z, d);
      });
  open_already = λ id k is. let z = came (walk_told_as.Finds id) k in inl (record { cond = refl; tmp = refl; read = refl; data_is = omega (arith, z) });
  fetches = λ id k shut none. let z = came (walk_told_as.Finds id) k in inl (record { cond = refl; tmp = refl; read = refl; data_is = omega (arith, z) });
  leases = λ id c k shut some. let z = came (walk_told_as.Finds id) k in inl (record { cond = refl; tmp = refl; read = refl; data_is = omega (arith, z) });
  opens_now = λ id c k shut fresh. let z = came (walk_told_as.Finds id) k in inl (record { cond = refl; tmp = refl; read = refl; data_is = omega (arith, z) });
  renew_already = λ id k is. let z = came (walk_told_as.Rewrites id) k in inl (record { cond = refl; tmp = refl; read = refl; data_is = omega (arith, z) });
  empties_now = λ id c k shut fresh. let z = came (walk_told_as.Rewrites id) k in inl (record { cond = refl; tmp = refl; read = refl; data_is = omega (arith, z) });
  renews = λ id k shut. let z = came (walk_told_as.Rewrites id) k in inl (record { cond = refl; tmp = refl; read = refl; data_is = omega (arith, z) });
  ends = λ v e k is. let z = came (walk_told_as.Ends e) k in inl (record { cond = refl; tmp = refl; read = refl; data_is = omega (arith, z) });
})
  where
    came : (t : WalkTold) → Walks (stage.Walking y w) b t → bytes_came x b ≡ 0
    came t k = ap (bytes_came x) k.body_is ∙ ap (λ (z : Traffic). z.«data») (answer_counts x k.walk k.answer k.its)

tally_took : (s : State) (calls : List Pending) (file : ℕ) (st : Stage) (x : ℕ) (b : Body) → Tallies (bytes_came x b) (took s calls file st x b)
tally_took s calls file (stage.Walking y w) x b = walk_answer s calls file y w x b
tally_took s calls file st x b = took_cases (λ found r. Tallies (bytes_came x b) r) s calls file st x b tt (λ found r g until lease is h. h) (tally_cases s calls file st x b)

tally_answer : (s : State) (task : Option Task) (xid : ℕ) (b : Body) → Tallies (taken_sum (wanted_if (has_call (pending task) xid) (message.Answer xid b))).«data» (took_if s task xid b (has_call (pending task) xid))
tally_answer s None xid b = tally_drops s None xid (has_call s.forgotten xid)
tally_answer s (Some t) xid b = by (has_call (pending (Some t)) xid)
  where
    by : (own : Bool) → Tallies (taken_sum (wanted_if own (message.Answer xid b))).«data» (took_if s (Some t) xid b own)
    by true = same _ _ (omega arith) (tally_took (idle s) (calls_of s) t.file t.stage xid b)
      where
        same : (m n : ℕ) → m ≡ n → Tallies m (took (idle s) (calls_of s) t.file t.stage xid b) → Tallies n (took (idle s) (calls_of s) t.file t.stage xid b)
        same m n e h = subst (λ z. Tallies z (took (idle s) (calls_of s) t.file t.stage xid b)) e h
    by false = tally_drops s (Some t) xid (has_call s.forgotten xid)

tally_denied : (s : State) (task : Option Task) (xid : ℕ) (r : RpcRefusal) (own : Bool) → Tallies 0 (denied_if s task xid r own)
tally_denied s (Some t) xid r true = by r
  where
    by : (r : RpcRefusal) → Tallies 0 (denied (idle s) (calls_of s) xid r)
    by refusal.SystemErr = inl (record { cond = refl; tmp = refl; read = refl; data_is = refl })
    by _ = inr (_, refl)
tally_denied s (Some t) xid r false = tally_drops s (Some t) xid (has_call s.forgotten xid)
tally_denied s None xid r own = tally_drops s None xid (has_call s.forgotten xid)

tally_message : (s : State) (m : Message) → Tallies (taken_sum (wanted_by s (Ok m))).«data» (got_message s s.task m)
tally_message s (message.Answer xid b) = tally_answer s s.task xid b
tally_message s (message.Refuse xid r) = tally_denied s s.task xid r (has_call (pending s.task) xid)
tally_message s (message.Unfit xid r) = inl (record { cond = refl; tmp = refl; read = refl; data_is = refl })
tally_message s (message.Call xid b) = by b
  where
    back_by : (c : Back) → Tallies 0 (called_back s xid c)
    back_by (back.Recall handle) = inl (record { cond = refl; tmp = refl; read = refl; data_is = refl })
    back_by back.Null = inl (record { cond = refl; tmp = refl; read = refl; data_is = refl })
    back_by c = inl (record { cond = refl; tmp = refl; read = refl; data_is = refl })

    by : (c : Body) → Tallies 0 (called s xid c)
    by (body.Back c) = back_by c
    by c = inl (record { cond = refl; tmp = refl; read = refl; data_is = refl })

-- whatever comes to a client
pub tally_got : (s : State) (m : Result Message WireFault) (now : ℕ) → Tallies (taken_sum (wanted_by s m)).«data» (got_step s m now)
tally_got s (Ok m) now = tally_message (clocked s now) m
tally_got s (Err e) now = by s.task
  where
    by : (task : Option Task) → Tallies 0 (got_fault (clocked s now) task e)
    by (Some t) = inr (_, refl)
    by None = inl (record { cond = refl; tmp = refl; read = refl; data_is = refl })
