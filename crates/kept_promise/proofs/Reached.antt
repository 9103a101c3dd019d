-- What an open reached by what was said for it: each chunk that was looked up was given by the index, or a READ went out for it, in order, in each attempt.
use Rattle.std.proofs.Common.{◌≡◌, ℕ, zero, suc, ◌+◌, ◌-◌, ◌<◌, ◌≤◌, List, [], ◌∷◌, ◌++◌, length, Option, Some, None, Bool, true, false, refl, sym, ap, ◌∙◌, subst, arith, append-nil, length-append, map, take, drop}
use Rattle.hash_calls.specs.declared.message.Lb.TheVariants as lb
use Rattle.nfs3_calls.specs.declared.message.Nfs.TheVariants as nfs
use Rattle.wire.specs.declared.message.Body.TheVariants as body
use Rattle.wire.specs.declared.message.Message.TheVariants as message
use Rattle.file_open.specs.Caching.{from_index}
use Rattle.client_state.specs.State as client
use Rattle.trace_replay.specs.Fetches.{Fetched, no_fetch, begins_by, fetch_with, fetch_from, last_fetch, over_if, over_from, is_same, chosen_if, chosen, ReachesFirst, AllReach, EachReaches, lengths_of}
use Rattle.trace_replay.specs.Trail.{place_of, given_if, given_of}
use Rattle.kept_promise.proofs.Common.{Entries, Indexed, Deal.Sent, Deal.Found, nat_tests, ◌==◌, is_some, not, cond, slice_get, Chunk, Done, end_of, chunks_from, Body, Message, hash_call, read_call, reads_chunk, reads_from, read_at, without_read, Reads, Fetch, ReadCall, Deal, Deal.Took}
use Rattle.kept_promise.proofs.Lists.{some_is, nothing_there, within, count_more}
use Rattle.kept_promise.proofs.Keys.{times}
use Rattle.kept_promise.proofs.Taking.{none_without}
use Rattle.kept_promise.proofs.StepCases.{reads_keep, bytes_came, reads_of, given}
use Rattle.kept_promise.proofs.LogSums.{sent_more, came_in, came_join, none_came, asked_in, read_number, begins_in, sum_join, sum_took}
use Rattle.kept_promise.proofs.ClosesLog.{take_more}

-- ---- what is reached

abbrev pub len_of : Option Chunk → ℕ
len_of None = 0
len_of (Some c) = c.len

abbrev pub len_at : List Chunk → ℕ → ℕ
len_at cs i = len_of (slice_get cs i)

-- the bytes that READs under way ask for
abbrev pub under_lens : List Chunk → List ReadCall → ℕ
under_lens cs [] = 0
under_lens cs (u ∷ us) = len_at cs u.index + under_lens cs us

-- these chunks were told, and each of so many of them was given by the index, or asked for by a READ
pub record Reached (f : Fetched) (cs : List Chunk) (asked : ℕ) (under : List ReadCall) : Type 0 where
  pub told : f.told ≡ cs
  pub flags : List Bool
  pub count : length flags ≡ asked
  pub found : f.found ≡ chosen true flags cs
  pub reads : f.reads ≡ chosen false flags cs
  pub bytes : f.bytes + under_lens cs under ≡ lengths_of f.reads
  pub inside : asked ≤ length cs

-- an attempt began, and those before it reached the first of the chunks that they were told; where it was the first, nothing else was read
pub record OneFetch (log : List Deal) : Type 0 where
  pub over : AllReach (over_from no_fetch log)
  pub begun : 1 ≤ begins_in log
  pub few : begins_in log ≤ 1 → (asked_in log ≡ length (last_fetch log).reads) × (came_in log ≡ (last_fetch log).bytes)

-- nothing was read at all
abbrev pub IsBare : List Deal → Type 0
IsBare log = (begins_in log ≡ 0) × (asked_in log ≡ 0) × (came_in log ≡ 0)

-- ---- lists

pub slice_drop : {A : Type 0} (xs : List A) (n k : ℕ) → slice_get (drop n xs) k ≡ slice_get xs (n + k)
slice_drop xs zero k = ap (slice_get xs) (let e : k ≡ 0 + k = omega arith in e)
slice_drop [] (suc n) k = refl
slice_drop (x ∷ xs) (suc n) k = slice_drop xs n k ∙ ap (slice_get (x ∷ xs)) (let e : suc (n + k) ≡ suc n + k = omega arith in e)

pub appended : {A : Type 0} (xs ys zs : List A) → (xs ++ ys) ++ zs ≡ xs ++ (ys ++ zs)
appended [] ys zs = refl
appended (x ∷ xs) ys zs = ap (λ l. x ∷ l) (appended xs ys zs)

pub chosen_join : (which : Bool) (bs ds : List Bool) (cs : List Chunk) → chosen which (bs ++ ds) cs ≡ chosen which bs cs ++ chosen which ds (drop (length bs) cs)
chosen_join which [] ds cs = refl
chosen_join which (b ∷ bs) ds [] = sym (none ds)
  where
    none : (ds : List Bool) → chosen which ds [] ≡ []
    none [] = refl
    none (d ∷ ds) = refl
chosen_join which (b ∷ bs) ds (c ∷ cs) = ap (λ l. chosen_if (is_same b which) c ++ l) (chosen_join which bs ds cs) ∙ sym (appended (chosen_if (is_same b which) c) (chosen which bs cs) (chosen which ds (drop (length bs) cs)))

chosen_more : (which : Bool) (ds : List Bool) (b : Bool) (xs : List Chunk) (c : Chunk) → slice_get xs (length ds) ≡ Some c → chosen which (ds ++ b ∷ []) xs ≡ chosen which ds xs ++ chosen_if (is_same b which) c
chosen_more which [] b [] c at = nothing_there c at
chosen_more which [] b (x ∷ xs) c at = append-nil (chosen_if (is_same b which) x) ∙ ap (chosen_if (is_same b which)) (some_is x c at)
chosen_more which (d ∷ ds) b [] c at = nothing_there c at
chosen_more which (d ∷ ds) b (x ∷ xs) c at = ap (λ l. chosen_if (is_same d which) x ++ l) (chosen_more which ds b xs c at) ∙ sym (appended (chosen_if (is_same d which) x) (chosen which ds xs) (chosen_if (is_same b which) c))

given_join : (cache : Entries) (index : Indexed) (a b : List Chunk) → given_of cache index (a ++ b) ≡ given_of cache index a ++ given_of cache index b
given_join cache index [] b = refl
given_join cache index (c ∷ a) b = ap (λ l. given_if (is_some (from_index cache index c)) c ++ l) (given_join cache index a b) ∙ sym (appended (given_if (is_some (from_index cache index c)) c) (given_of cache index a) (given_of cache index b))

pub lengths_join : (a b : List (ℕ × ℕ)) → lengths_of (a ++ b) ≡ lengths_of a + lengths_of b
lengths_join [] b = omega arith
lengths_join (p ∷ a) b = let h = lengths_join a b in omega (arith, h)

lens_more : (cs : List Chunk) (us : List ReadCall) (u : ReadCall) → under_lens cs (us ++ u ∷ []) ≡ under_lens cs us + len_at cs u.index
lens_more cs [] u = omega arith
lens_more cs (z ∷ us) u = let h = lens_more cs us u in omega (arith, h)

pub len_is : (cs : List Chunk) (i : ℕ) (c : Chunk) → slice_get cs i ≡ Some c → len_at cs i ≡ c.len
len_is cs i c at = by (slice_get cs i) at
  where
    by : (o : Option Chunk) → o ≡ Some c → len_of o ≡ c.len
    by None e = nothing_there c e
    by (Some d) e = ap (λ (z : Chunk). z.len) (some_is d c e)

-- one READ fewer is under way
pub lens_less : (cs : List Chunk) (us : List ReadCall) (x : ℕ) (c : ReadCall) → read_at us x ≡ Some c → times x (map (λ (u : ReadCall). u.xid) us) ≤ 1 → under_lens cs (without_read us x) + len_at cs c.index ≡ under_lens cs us
lens_less cs [] x c at once = nothing_there c at
lens_less cs (u ∷ us) x c at once = by (u.xid == x) refl at once (lens_less cs us x c)
  where
    by : (b : Bool) → (u.xid == x) ≡ b → cond b (Some u) (read_at us x) ≡ Some c → cond b (suc (times x (map (λ (u : ReadCall). u.xid) us))) (times x (map (λ (u : ReadCall). u.xid) us)) ≤ 1
        → (read_at us x ≡ Some c → times x (map (λ (u : ReadCall). u.xid) us) ≤ 1 → under_lens cs (without_read us x) + len_at cs c.index ≡ under_lens cs us)
        → under_lens cs (cond (not b) (u ∷ without_read us x) (without_read us x)) + len_at cs c.index ≡ under_lens cs (u ∷ us)
    by true is at once later =
        let same = ap (λ (z : ReadCall). len_at cs z.index) (some_is u c at) in
        let rest = ap (under_lens cs) (none_without us x (omega (arith, once))) in
        omega (arith, same, rest)
    by false is at once later = let h = later at once in omega (arith, h)

-- the call with an xid has it
pub read_xid : (us : List ReadCall) (x : ℕ) (c : ReadCall) → read_at us x ≡ Some c → c.xid ≡ x
read_xid [] x c at = nothing_there c at
read_xid (u ∷ us) x c at = by (u.xid == x) refl at (read_xid us x c)
  where
    by : (b : Bool) → (u.xid == x) ≡ b → cond b (Some u) (read_at us x) ≡ Some c → (read_at us x ≡ Some c → c.xid ≡ x) → c.xid ≡ x
    by true is at later = let e = ap (λ (z : ReadCall). z.xid) (some_is u c at) in grind (arith, nat_tests, is, e)
    by false is at later = later at

-- ---- logs joined

pub fetch_join : (f : Fetched) (a b : List Deal) → fetch_from f (a ++ b) ≡ fetch_from (fetch_from f a) b
fetch_join f [] b = refl
fetch_join f (d ∷ a) b = fetch_join (fetch_with f d) a b

pub fetch_found : (f : Fetched) (ps : List (ℕ × ℕ)) → fetch_from f (map Found ps) ≡ record f { found = f.found ++ ps }
fetch_found f [] = ap (λ (l : List (ℕ × ℕ)). record f { found = l }) (sym (append-nil f.found))
fetch_found f (p ∷ ps) = fetch_found (record f { found = f.found ++ p ∷ [] }) ps ∙ ap (λ (l : List (ℕ × ℕ)). record f { found = l }) (appended f.found (p ∷ []) ps)

pub over_join : (f : Fetched) (a b : List Deal) → over_from f (a ++ b) ≡ over_from f a ++ over_from (fetch_from f a) b
over_join f [] b = refl
over_join f (d ∷ a) b = ap (λ (l : List Fetched). over_if (begins_by d) f ++ l) (over_join (fetch_with f d) a b) ∙ sym (appended (over_if (begins_by d) f) (over_from (fetch_with f d) a) (over_from (fetch_from (fetch_with f d) a) b))

over_found : (f : Fetched) (ps : List (ℕ × ℕ)) → over_from f (map Found ps) ≡ []
over_found f [] = refl
over_found f (p ∷ ps) = over_found (record f { found = f.found ++ p ∷ [] }) ps

-- what one that ended with an answer alone has
pub came_one : (log : List Deal) (x : ℕ) (b : Body) → (begins_in (log ++ Took (message.Answer x b) ∷ []) ≡ begins_in log) × (asked_in (log ++ Took (message.Answer x b) ∷ []) ≡ asked_in log) × (came_in (log ++ Took (message.Answer x b) ∷ []) ≡ came_in log + bytes_came x b)
came_one log x b =
    let t : Deal = Took (message.Answer x b) in
    let p = sum_join Rattle.kept_promise.proofs.Common.first_number log (t ∷ []) in
    let q = sum_join read_number log (t ∷ []) in
    let r = came_join log (t ∷ []) in
    (omega (arith, p), omega (arith, q), omega (arith, r))

pub last_one : (log : List Deal) (x : ℕ) (b : Body) → last_fetch (log ++ Took (message.Answer x b) ∷ []) ≡ fetch_with (last_fetch log) (Took (message.Answer x b))
last_one log x b = fetch_join no_fetch log (Took (message.Answer x b) ∷ [])

-- ---- what each attempt reached

-- those before the last one, and the last one
abbrev pub AreReached : List Deal → Type 0
AreReached log = AllReach (over_from no_fetch log) × ReachesFirst (last_fetch log)

all_join : (fs gs : List Fetched) → AllReach fs → AllReach gs → AllReach (fs ++ gs)
all_join [] gs h k = k
all_join (f ∷ fs) gs h k = (h.0, all_join fs gs h.1 k)

pub each_reached : (log : List Deal) → AreReached log → EachReaches log
each_reached log h = all_join (over_from no_fetch log) (last_fetch log ∷ []) h.0 (h.1, tt)

-- nothing but these chunks was told
abbrev pub told_only : List Chunk → Fetched
told_only cs = record { told = cs; reads = []; found = []; bytes = 0 }

pub first_told : (f : Fetched) (cs : List Chunk) → f ≡ told_only cs → ReachesFirst f
first_told f cs is = subst ReachesFirst (sym is) (record { given = []; within = omega arith; found = refl; reads = refl })

pub first_reached : (f : Fetched) (cs : List Chunk) (asked : ℕ) (under : List ReadCall) → Reached f cs asked under → ReachesFirst f
first_reached f cs asked under h = record {
  given = h.flags;
  within = (let a = h.count in let b = h.inside in let c = ap length h.told in omega (arith, a, b, c));
  found = h.found ∙ ap (chosen true h.flags) (sym h.told);
  reads = h.reads ∙ ap (chosen false h.flags) (sym h.told);
}

-- further chunks may be told
chosen_front : (which : Bool) (bs : List Bool) (cs ds : List Chunk) → length bs ≤ length cs → chosen which bs (cs ++ ds) ≡ chosen which bs cs
chosen_front which [] cs ds le = refl
chosen_front which (b ∷ bs) [] ds le = absurd (omega (arith, le))
chosen_front which (b ∷ bs) (c ∷ cs) ds le = ap (λ l. chosen_if (is_same b which) c ++ l) (chosen_front which bs cs ds (omega (arith, le)))

pub first_took : (f : Fetched) (m : Message) → ReachesFirst f → ReachesFirst (fetch_with f (Took m))
first_took f (message.Answer x (body.Lb (lb.GetHashAnswer (Done a)))) h =
    let more : List Chunk = chunks_from (end_of f.told) a.pairs in
    record {
      given = h.given;
      within = (let le = h.within in let l = length-append f.told more in omega (arith, le, l));
      found = h.found ∙ sym (chosen_front true h.given f.told more h.within);
      reads = h.reads ∙ sym (chosen_front false h.given f.told more h.within);
    }
first_took f (message.Answer x (body.Nfs (nfs.ReadAnswer (Done p)))) h = record { given = h.given; within = h.within; found = h.found; reads = h.reads }
first_took f m h = h

-- an answer alone, and one behind which another attempt begins, or a call that begins none goes out
pub over_took : (log : List Deal) (x : ℕ) (b : Body) → over_from no_fetch (log ++ Took (message.Answer x b) ∷ []) ≡ over_from no_fetch log
over_took log x b = over_join no_fetch log (Took (message.Answer x b) ∷ []) ∙ append-nil (over_from no_fetch log)

pub reached_took : (log : List Deal) (x : ℕ) (b : Body) → AreReached log → AreReached (log ++ Took (message.Answer x b) ∷ [])
reached_took log x b h = (subst AllReach (sym (over_took log x b)) h.0, subst ReachesFirst (sym (last_one log x b)) (first_took (last_fetch log) (message.Answer x b) h.1))

pub over_begins : (log : List Deal) (x : ℕ) (b : Body) (lbfs y file : ℕ) → AreReached log → AllReach (over_from no_fetch (log ++ Took (message.Answer x b) ∷ Sent (hash_call lbfs y file 0) ∷ []))
over_begins log x b lbfs y file h = subst AllReach (sym (over_join no_fetch log (Took (message.Answer x b) ∷ Sent (hash_call lbfs y file 0) ∷ []))) (all_join (over_from no_fetch log) (fetch_with (last_fetch log) (Took (message.Answer x b)) ∷ []) h.0 (first_took (last_fetch log) (message.Answer x b) h.1, tt))

pub over_lists : (log : List Deal) (x : ℕ) (b : Body) (lbfs y file offset : ℕ) → (offset == 0) ≡ false → over_from no_fetch (log ++ Took (message.Answer x b) ∷ Sent (hash_call lbfs y file offset) ∷ []) ≡ over_from no_fetch log
over_lists log x b lbfs y file offset far = over_join no_fetch log (Took (message.Answer x b) ∷ Sent (hash_call lbfs y file offset) ∷ []) ∙ ap (λ t. over_from no_fetch log ++ (over_if t (fetch_with (last_fetch log) (Took (message.Answer x b))) ++ [])) far ∙ append-nil (over_from no_fetch log)

-- as many were found or asked for as were reached
pub chosen_count : (bs : List Bool) (cs : List Chunk) → length bs ≤ length cs → length (chosen true bs cs) + length (chosen false bs cs) ≡ length bs
chosen_count [] cs le = refl
chosen_count (b ∷ bs) [] le = absurd (omega (arith, le))
chosen_count (true ∷ bs) (c ∷ cs) le = let h = chosen_count bs cs (omega (arith, le)) in omega (arith, h)
chosen_count (false ∷ bs) (c ∷ cs) le = let h = chosen_count bs cs (omega (arith, le)) in omega (arith, h)

-- ---- chunks are looked up

pub record Asks (cache : Entries) (index : Indexed) (f : Fetch) (xs : List Chunk) (r : Reads) : Type 0 where
  pub flags : List Bool
  pub asked : r.fetch.asked ≡ f.asked + length flags
  pub chunks : r.fetch.chunks ≡ f.chunks
  pub first : r.fetch.first ≡ f.first
  pub given : given_of cache index (take (length flags) xs) ≡ chosen true flags xs
  pub sent : (g : Fetched) → fetch_from g (map Sent r.send) ≡ record g { reads = g.reads ++ chosen false flags xs }
  pub over : (g : Fetched) → over_from g (map Sent r.send) ≡ []
  pub under : under_lens f.chunks r.fetch.under ≡ under_lens f.chunks f.under + lengths_of (chosen false flags xs)
  pub count : asked_in (map Sent r.send) ≡ length (chosen false flags xs)
  pub none : begins_in (map Sent r.send) ≡ 0
  pub some : r.fetch.under ≡ [] → r.send ≡ []
  pub inside : r.fetch.asked ≤ length f.chunks

none_more : {A B : Type 0} (xs : List A) (x : A) → xs ++ x ∷ [] ≡ [] → B
none_more [] x e = absurd cc
none_more (y ∷ ys) x e = absurd cc

pub reads_ask : (s : client.State) (file : ℕ) (f : Fetch) → f.asked ≤ length f.chunks → Asks s.cache s.index f (drop f.asked f.chunks) (reads_of s file f)
reads_ask s file f le = reads_keep (Asks s.cache s.index f xs) s.cache s.index file (λ r c o h at is. more r c h at o is) (length f.chunks - f.asked) (reads_from f s.next_xid) (record {
  flags = [];
  asked = omega arith;
  chunks = refl;
  first = refl;
  given = refl;
  sent = λ g. ap (λ (l : List (ℕ × ℕ)). record g { reads = l }) (sym (append-nil g.reads));
  over = λ g. refl;
  under = omega arith;
  count = refl;
  none = refl;
  some = λ e. refl;
  inside = le;
})
  where
    xs : List Chunk
    xs = drop f.asked f.chunks

    more : (r : Reads) (c : Chunk) → Asks s.cache s.index f (drop f.asked f.chunks) r → slice_get r.fetch.chunks r.fetch.asked ≡ Some c → (o : Option (List ℕ)) → from_index s.cache s.index c ≡ o → Asks s.cache s.index f (drop f.asked f.chunks) (reads_chunk file r c o)
    more r c h at o is = by o is
      where
        n : ℕ
        n = length h.flags

        there : slice_get f.chunks r.fetch.asked ≡ Some c
        there = ap (λ (l : List Chunk). slice_get l r.fetch.asked) (sym h.chunks) ∙ at

        here : slice_get (drop f.asked f.chunks) (length h.flags) ≡ Some c
        here = slice_drop f.chunks f.asked (length h.flags) ∙ ap (slice_get f.chunks) (sym h.asked) ∙ there

        lt : r.fetch.asked < length f.chunks
        lt = within f.chunks r.fetch.asked c there

        taken : (b : Bool) → given_of s.cache s.index (take (length (h.flags ++ b ∷ [])) (drop f.asked f.chunks)) ≡ chosen true h.flags (drop f.asked f.chunks) ++ (given_if (is_some (from_index s.cache s.index c)) c ++ [])
        taken b = ap (λ k. given_of s.cache s.index (take k (drop f.asked f.chunks))) (count_more h.flags b) ∙ ap (given_of s.cache s.index) (take_more (drop f.asked f.chunks) (length h.flags) c here) ∙ given_join s.cache s.index (take (length h.flags) (drop f.asked f.chunks)) (c ∷ []) ∙ ap (λ l. l ++ (given_if (is_some (from_index s.cache s.index c)) c ++ [])) h.given

        by : (o : Option (List ℕ)) → from_index s.cache s.index c ≡ o → Asks s.cache s.index f (drop f.asked f.chunks) (reads_chunk file r c o)
        by (Some bytes) is =
            let a = h.asked in
            let k = count_more h.flags true in
            let g = chosen_more true h.flags true (drop f.asked f.chunks) c here in
            let e : chosen false (h.flags ++ true ∷ []) (drop f.asked f.chunks) ≡ chosen false h.flags (drop f.asked f.chunks) = chosen_more false h.flags true (drop f.asked f.chunks) c here ∙ append-nil (chosen false h.flags (drop f.asked f.chunks)) in
            let u = h.under in
            let m = h.count in
            let p = ap lengths_of e in
            let q = ap length e in
            record {
              flags = h.flags ++ true ∷ [];
              asked = omega (arith, a, k);
              chunks = h.chunks;
              first = h.first;
              given = taken true ∙ ap (λ z. chosen true h.flags (drop f.asked f.chunks) ++ (given_if (is_some z) c ++ [])) is ∙ sym g;
              sent = λ z. h.sent z ∙ ap (λ (l : List (ℕ × ℕ)). record z { reads = z.reads ++ l }) (sym e);
              over = h.over;
              under = omega (arith, u, p);
              count = omega (arith, m, q);
              none = h.none;
              some = h.some;
              inside = omega (arith, lt);
            }
        by None is =
            let m : Message = read_call r.next_xid file c in
            let a = h.asked in
            let k = count_more h.flags false in
            let g = chosen_more true h.flags false (drop f.asked f.chunks) c here in
            let e = chosen_more false h.flags false (drop f.asked f.chunks) c here in
            let u = h.under in
            let w = h.count in
            let v = h.none in
            let all = sent_more r.send m in
            let l = lens_more f.chunks r.fetch.under (record { xid = r.next_xid; index = r.fetch.asked }) in
            let z = len_is f.chunks r.fetch.asked c there in
            let p = ap lengths_of e in
            let y = lengths_join (chosen false h.flags (drop f.asked f.chunks)) (place_of c ∷ []) in
            let q = ap length e in
            let d = length-append (chosen false h.flags (drop f.asked f.chunks)) (place_of c ∷ []) in
            let i = ap asked_in all in
            let b = ap begins_in all in
            let t = sum_join read_number (map Sent r.send) (Sent m ∷ []) in
            let x = sum_join Rattle.kept_promise.proofs.Common.first_number (map Sent r.send) (Sent m ∷ []) in
            record {
              flags = h.flags ++ false ∷ [];
              asked = omega (arith, a, k);
              chunks = h.chunks;
              first = h.first;
              given = taken false ∙ ap (λ z. chosen true h.flags (drop f.asked f.chunks) ++ (given_if (is_some z) c ++ [])) is ∙ sym g;
              sent = λ z. ap (fetch_from z) all ∙ fetch_join z (map Sent r.send) (Sent m ∷ []) ∙ ap (λ (y : Fetched). fetch_with y (Sent m)) (h.sent z) ∙ ap (λ (l : List (ℕ × ℕ)). record z { reads = l }) (appended z.reads (chosen false h.flags (drop f.asked f.chunks)) (place_of c ∷ []) ∙ ap (λ (l : List (ℕ × ℕ)). z.reads ++ l) (sym e));
              over = λ z. ap (over_from z) all ∙ over_join z (map Sent r.send) (Sent m ∷ []) ∙ ap (λ (l : List Fetched). l ++ []) (h.over z);
              under = omega (arith, u, l, z, p, y);
              count = omega (arith, w, q, d, i, t);
              none = omega (arith, v, b, x);
              some = λ none. none_more r.fetch.under _ none;
              inside = omega (arith, lt);
            }

-- they go on from what was reached
pub record Onward (log : List Deal) (s : client.State) (file : ℕ) (f : Fetch) : Type 0 where
  pub reached : Reached (last_fetch (log ++ (map Found (given s file f) ++ map Sent (reads_of s file f).send))) f.chunks (reads_of s file f).fetch.asked (reads_of s file f).fetch.under
  pub one : OneFetch (log ++ (map Found (given s file f) ++ map Sent (reads_of s file f).send))

pub goes_onward : (log : List Deal) (s : client.State) (file : ℕ) (f : Fetch) → Reached (last_fetch log) f.chunks f.asked f.under → OneFetch log → Onward log s file f
goes_onward log s file f h one = record {
  reached = record {
    told = ap (λ (z : Fetched). z.told) last ∙ h.told;
    flags = h.flags ++ go.flags;
    count = (let a = h.count in let b = go.asked in let l = length-append h.flags go.flags in omega (arith, a, b, l));
    found = ap (λ (z : Fetched). z.found) last ∙ ap (λ (l : List (ℕ × ℕ)). l ++ chosen true go.flags (drop f.asked f.chunks)) h.found ∙ joins true;
    reads = reads;
    bytes = (let a = ap (λ (z : Fetched). z.bytes) last in let b = h.bytes in let u = go.under in let r = ap (λ (z : Fetched). lengths_of z.reads) last in let j = lengths_join (last_fetch log).reads (chosen false go.flags (drop f.asked f.chunks)) in omega (arith, a, b, u, r, j));
    inside = go.inside;
  };
  one = record {
    over = subst AllReach (sym over) one.over;
    begun = (let a = one.begun in omega (arith, a, begins));
    few = λ few.
        let w = one.few (omega (arith, few, begins)) in
        let a = w.0 in
        let b = w.1 in
        let c = ap (λ (z : Fetched). length z.reads) last in
        let d = length-append (last_fetch log).reads (chosen false go.flags (drop f.asked f.chunks)) in
        let e = ap (λ (z : Fetched). z.bytes) last in
        let k = go.count in
        (omega (arith, a, c, d, k, asked), omega (arith, b, e, came));
  };
}
  where
    go : Asks s.cache s.index f (drop f.asked f.chunks) (reads_of s file f)
    go = reads_ask s file f h.inside

    rest : List Deal
    rest = map Found (given s file f) ++ map Sent (reads_of s file f).send

    looked : given s file f ≡ chosen true go.flags (drop f.asked f.chunks)
    looked =
        let a = go.asked in
        let k : (reads_of s file f).fetch.asked - f.asked ≡ length go.flags = omega (arith, a) in
        ap (λ (l : List Chunk). given_of s.cache s.index (take ((reads_of s file f).fetch.asked - f.asked) (drop f.asked l))) go.chunks ∙ ap (λ k. given_of s.cache s.index (take k (drop f.asked f.chunks))) k ∙ go.given

    last : last_fetch (log ++ (map Found (given s file f) ++ map Sent (reads_of s file f).send)) ≡ record { told = (last_fetch log).told; reads = (last_fetch log).reads ++ chosen false go.flags (drop f.asked f.chunks); found = (last_fetch log).found ++ chosen true go.flags (drop f.asked f.chunks); bytes = (last_fetch log).bytes }
    last =
        fetch_join no_fetch log (map Found (given s file f) ++ map Sent (reads_of s file f).send)
        ∙ fetch_join (last_fetch log) (map Found (given s file f)) (map Sent (reads_of s file f).send)
        ∙ ap (λ (z : Fetched). fetch_from z (map Sent (reads_of s file f).send)) (fetch_found (last_fetch log) (given s file f) ∙ ap (λ (l : List (ℕ × ℕ)). record (last_fetch log) { found = (last_fetch log).found ++ l }) looked)
        ∙ go.sent (record (last_fetch log) { found = (last_fetch log).found ++ chosen true go.flags (drop f.asked f.chunks) })

    joins : (which : Bool) → chosen which h.flags f.chunks ++ chosen which go.flags (drop f.asked f.chunks) ≡ chosen which (h.flags ++ go.flags) f.chunks
    joins which = ap (λ k. chosen which h.flags f.chunks ++ chosen which go.flags (drop k f.chunks)) (sym h.count) ∙ sym (chosen_join which h.flags go.flags f.chunks)

    reads : (last_fetch (log ++ (map Found (given s file f) ++ map Sent (reads_of s file f).send))).reads ≡ chosen false (h.flags ++ go.flags) f.chunks
    reads = ap (λ (z : Fetched). z.reads) last ∙ ap (λ (l : List (ℕ × ℕ)). l ++ chosen false go.flags (drop f.asked f.chunks)) h.reads ∙ joins false

    over : over_from no_fetch (log ++ (map Found (given s file f) ++ map Sent (reads_of s file f).send)) ≡ over_from no_fetch log
    over =
        let g : Fetched = fetch_from (last_fetch log) (map Found (given s file f)) in
        over_join no_fetch log (map Found (given s file f) ++ map Sent (reads_of s file f).send)
        ∙ ap (λ (l : List Fetched). over_from no_fetch log ++ l) (over_join (last_fetch log) (map Found (given s file f)) (map Sent (reads_of s file f).send) ∙ ap (λ (l : List Fetched). l ++ over_from g (map Sent (reads_of s file f).send)) (over_found (last_fetch log) (given s file f)) ∙ go.over g)
        ∙ append-nil (over_from no_fetch log)

    begins : begins_in (log ++ (map Found (given s file f) ++ map Sent (reads_of s file f).send)) ≡ begins_in log
    begins =
        let p = sum_join Rattle.kept_promise.proofs.Common.first_number log rest in
        let q = sum_join Rattle.kept_promise.proofs.Common.first_number (map Found (given s file f)) (map Sent (reads_of s file f).send) in
        let z = sum_took Rattle.kept_promise.proofs.Common.first_number [] (given s file f) in
        let n = go.none in
        omega (arith, p, q, z, n)

    asked : asked_in (log ++ (map Found (given s file f) ++ map Sent (reads_of s file f).send)) ≡ asked_in log + asked_in (map Sent (reads_of s file f).send)
    asked =
        let p = sum_join read_number log rest in
        let q = sum_join read_number (map Found (given s file f)) (map Sent (reads_of s file f).send) in
        let z = sum_took read_number [] (given s file f) in
        omega (arith, p, q, z)

    came : came_in (log ++ (map Found (given s file f) ++ map Sent (reads_of s file f).send)) ≡ came_in log
    came =
        let p = came_join log rest in
        let q = came_join (map Found (given s file f)) (map Sent (reads_of s file f).send) in
        let z = none_found (given s file f) in
        let n = none_came (reads_of s file f).send in
        omega (arith, p, q, z, n)
      where
        none_found : (ps : List (ℕ × ℕ)) → came_in (map Found ps) ≡ 0
        none_found [] = refl
        none_found (p ∷ ps) = let h = none_found ps in omega (arith, h)
