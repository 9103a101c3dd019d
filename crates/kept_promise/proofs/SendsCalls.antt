-- What a client sends by a command, or by an answer, are calls: only what is asked of it is answered.
use Rattle.std.proofs.Common.{◌≡◌, ℕ, ◌+◌, ◌-◌, ◌≤◌, List, [], ◌∷◌, ◌++◌, length, Option, Some, None, Bool, true, false, Ok, arith, refl, sym, ap, ◌∙◌, map}
use Rattle.chunk_index.specs.Index.{Indexed}
use Rattle.client_cache.specs.Cache.{Entries}
use Rattle.client_state.specs.Noting.{at as at_clock}
use Rattle.client_state.specs.State as client
use Rattle.client_state.specs.declared.task.Stage.TheVariants as stage
use Rattle.file_open.specs.Opening.{reads_chunk, read_call}
use Rattle.file_close.specs.Closing.{cond_call, commit_call}
use Rattle.open_close.specs.Step.{takes}
use Rattle.wire.specs.declared.message.Message.TheVariants as message
use Rattle.path_calls.specs.declared.walk.Walk.{Walk}
use Rattle.trace_replay.specs.Numbered.{numbers_among}
use Rattle.trace_replay.specs.Trail.{calls_in}
use Rattle.kept_promise.proofs.Common.{Chunk, Command, Body, Message, Pending, calls_most, command_step, got_step, idle, took, took_if, drops, has_call, reads_from, reads_more, reads_all, names_from, names_next, names_more, names_all, ClientStep, Fetch, Names, Reads, Stage, Upload, Task, calls_among}
use Rattle.kept_promise.proofs.StepCases.{reads_keep, names_keep, IsOfFile, Cases, takes_cases, WalkCases, walk_cases, command_cases, reads_of}

-- ---- the calls of a list

abbrev pub AreCalls : List Message → Type 0
AreCalls ms = calls_in ms ≡ ms

-- a list that loses a message is shorter
fewer : (xs : List Message) → length (calls_in xs) ≤ length xs
fewer [] = omega arith
fewer (message.Call y c ∷ xs) = let h = fewer xs in omega (arith, h)
fewer (message.Answer y c ∷ xs) = let h = fewer xs in omega (arith, h)
fewer (message.Refuse y c ∷ xs) = let h = fewer xs in omega (arith, h)
fewer (message.Unfit y c ∷ xs) = let h = fewer xs in omega (arith, h)

shorter : (xs : List Message) (m : Message) → calls_in xs ≡ m ∷ xs → ⊥
shorter xs m e = let h = fewer xs in let l = ap length e in absurd (omega (arith, h, l))

calls_join : (xs : List Message) (xid : ℕ) (b : Body) → AreCalls xs → AreCalls (xs ++ message.Call xid b ∷ [])
calls_join [] xid b h = refl
calls_join (message.Call y c ∷ xs) xid b h = ap (λ (l : List Message). message.Call y c ∷ l) (calls_join xs xid b (behind h))
  where
    behind : message.Call y c ∷ calls_in xs ≡ message.Call y c ∷ xs → calls_in xs ≡ xs
    behind e = cc
calls_join (message.Answer y c ∷ xs) xid b h = absurd (shorter xs (message.Answer y c) h)
calls_join (message.Refuse y c ∷ xs) xid b h = absurd (shorter xs (message.Refuse y c) h)
calls_join (message.Unfit y c ∷ xs) xid b h = absurd (shorter xs (message.Unfit y c) h)

-- how many calls there are, and their numbers, are those of the calls
pub count_calls : (ms : List Message) → calls_among ms ≡ calls_among (calls_in ms)
count_calls [] = refl
count_calls (message.Call y c ∷ ms) = ap (λ (n : ℕ). 1 + n) (count_calls ms)
count_calls (message.Answer y c ∷ ms) = let h = count_calls ms in omega (arith, h)
count_calls (message.Refuse y c ∷ ms) = let h = count_calls ms in omega (arith, h)
count_calls (message.Unfit y c ∷ ms) = let h = count_calls ms in omega (arith, h)

pub number_calls : (ms : List Message) → numbers_among ms ≡ numbers_among (calls_in ms)
number_calls [] = refl
number_calls (message.Call y c ∷ ms) = ap (λ (l : List ℕ). y ∷ l) (number_calls ms)
number_calls (message.Answer y c ∷ ms) = number_calls ms
number_calls (message.Refuse y c ∷ ms) = number_calls ms
number_calls (message.Unfit y c ∷ ms) = number_calls ms

-- ---- by an answer

abbrev Sent : client.State × ClientStep → Type 0
Sent r = AreCalls r.1.send

reads_call : (cache : Entries) (index : Indexed) (file k : ℕ) (r : Reads) → AreCalls r.send → AreCalls (reads_more k cache index file r).send
reads_call cache index file k r h = reads_keep (λ q. AreCalls q.send) cache index file (λ q c o g at is. one q c o g) k r h
  where
    one : (q : Reads) (c : Chunk) (o : Option (List ℕ)) → AreCalls q.send → AreCalls (reads_chunk file q c o).send
    one q c (Some bytes) g = g
    one q c None g = calls_join q.send q.next_xid _ g

names_call : (lbfs : ℕ) (k : ℕ) (n : Names) → AreCalls n.send → AreCalls (names_more lbfs k n).send
names_call lbfs k n h = names_keep lbfs (λ q. AreCalls q.send) (λ q c g at. calls_join q.send q.next_xid _ g) k n h

reads_sent : (s : client.State) (file : ℕ) (f : Fetch) → AreCalls (reads_of s file f).send
reads_sent s file f = reads_call s.cache s.index file _ (reads_from f s.next_xid) refl

names_sent : (s : client.State) (w : Upload) → AreCalls (names_all s.lbfs w s.next_xid).send
names_sent s w = names_call s.lbfs (calls_most - length w.under) (names_from w s.next_xid) refl

takes_sent : (s : client.State) (calls : List Pending) (file : ℕ) (st : Stage) (x : ℕ) (b : Body) → IsOfFile st → Sent (takes s calls file st x b)
takes_sent s calls file st x b known = takes_cases (λ found r. Sent r) s calls file st x b known (record {
  ends = λ r e unchanged came. none r.1.send e.sent;
  uses = λ y l bytes at is kept. refl;
  fetches = λ y l at is. refl;
  anew = λ f version bytes open_ gave few came. refl;
  changed = λ r f version e open_ gave last is. none r.1.send e.sent;
  lists = λ f h is at same far. refl;
  reads = λ f bytes now here. reads_sent s file f;
  opens = λ f bytes now here. refl;
  names = λ w at known none is. names_sent s w;
  commits = λ w at known none is. calls_join (names_all s.lbfs w s.next_xid).send (names_all s.lbfs w s.next_xid).next_xid _ (names_sent s w);
  whole = λ old c k at unknown none found name chunk. refl;
})
  where
    none : (ms : List Message) → ms ≡ [] → AreCalls ms
    none ms e = ap calls_in e ∙ sym e

walk_sent : (s : client.State) (calls : List Pending) (file y : ℕ) (w : Walk) (x : ℕ) (b : Body) → Sent (took s calls file (stage.Walking y w) x b)
walk_sent s calls file y w x b = walk_cases Sent s calls file y w x b (record {
  fault = λ f untold. refl;
  asks = λ v k. refl;
  open_already = λ id k is. refl;
  fetches = λ id k shut none. refl;
  leases = λ id c k shut some. refl;
  opens_now = λ id c k shut fresh. refl;
  renew_already = λ id k is. refl;
  renews = λ id k shut. refl;
  empties_now = λ id c k shut fresh. refl;
  ends = λ w e k is. refl;
})

took_sent : (s : client.State) (calls : List Pending) (file : ℕ) (st : Stage) (x : ℕ) (b : Body) → Sent (took s calls file st x b)
took_sent s calls file (stage.Walking y w) x b = walk_sent s calls file y w x b
took_sent s calls file st x b = takes_sent s calls file st x b tt

pub answer_calls : (s : client.State) (x : ℕ) (b : Body) (now : ℕ) → AreCalls (got_step s (Ok (message.Answer x b)) now).1.send
answer_calls s x b now = by s.task (has_call (client.pending s.task) x)
  where
    dropped : (t : Option Task) (forgotten : Bool) → Sent (drops (at_clock s now) t x forgotten)
    dropped t true = refl
    dropped (Some t) false = refl
    dropped None false = refl

    by : (t : Option Task) (own : Bool) → Sent (took_if (at_clock s now) t x b own)
    by (Some t) true = took_sent (idle (at_clock s now)) (client.calls_of (at_clock s now)) t.file t.stage x b
    by t own = dropped t (has_call s.forgotten x)

-- ---- by a command

pub command_calls : (s : client.State) (d : Command) (now : ℕ) → AreCalls (command_step s d now).1.send
command_calls s d now = command_cases Sent s d now (record {
  busy = λ t is. refl;
  answers = λ free opened o plain. refl;
  fetches = λ file is free may. refl;
  asks = λ file c is free may at. refl;
  renews = λ file is free may. refl;
  opens_now = λ file c is free shut fresh. refl;
  empties_now = λ file c is free shut fresh. refl;
  walks = λ c is free may. refl;
  closes = λ file l is free may at. refl;
})
