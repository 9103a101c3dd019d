-- READs that go out, in chunk order.
use Rattle.std.proofs.Common.{◌⊎◌, inl, inr, ◌≡◌, ℕ, zero, suc, ◌+◌, ◌<◌, ◌≤◌, List, [], ◌∷◌, ◌++◌, length, Option, Some, None, Bool, true, false, refl, sym, ap, ◌∙◌, subst, arith, eqb-true, ne_eqb, append_assoc, append-nil, map}
use Rattle.kept_promise.proofs.Common.{nat_tests, slice_get, slice_set, cond, ◌==◌, not, Entries, Indexed, Chunk, Pending, read_pending, Reads, reads_chunk, reads_more, read_at, without_read, Fetch, ReadCall, Call.Read, Ask, ask_message}
use Rattle.kept_promise.proofs.Lists.{some_is, nothing_there, count_more, of_appended}
use Rattle.kept_promise.proofs.Keys.{times}
use Rattle.kept_promise.proofs.Messages.{AllAsks, Rising}
use Rattle.kept_promise.proofs.Facts.{commits_in}
use Rattle.kept_promise.proofs.Heard.{ask_pending}
use Rattle.kept_promise.proofs.StepCases.{reads_keep}

-- these notes and calls: each for a chunk, with xids from this one up to that
abbrev pub Sent : (lbfs file : ℕ) → List Chunk → (xid : ℕ) → List ReadCall → List Ask → (next : ℕ) → Type 0
Sent lbfs file chunks x [] [] y = x ≡ y
Sent lbfs file chunks x (u ∷ us) (a ∷ b) y = (u.xid ≡ x) × ((c : Chunk) × (slice_get chunks u.index ≡ Some c) × (a ≡ record { lbfs = lbfs; xid = x; call = Read file c })) × Sent lbfs file chunks (x + 1) us b y
Sent lbfs file chunks x us b y = ⊥

sent_more : (lbfs file : ℕ) (chunks : List Chunk) (x : ℕ) (us : List ReadCall) (b : List Ask) (y i : ℕ) (c : Chunk) → slice_get chunks i ≡ Some c → Sent lbfs file chunks x us b y → Sent lbfs file chunks x (us ++ record { xid = y; index = i } ∷ []) (b ++ record { lbfs = lbfs; xid = y; call = Read file c } ∷ []) (y + 1)
sent_more lbfs file chunks x [] [] y i c at s = (sym s, (c, at, ap (λ (z : ℕ). record { lbfs = lbfs; xid = z; call = Read file c }) (sym s)), ap (λ z. z + 1) s)
sent_more lbfs file chunks x (u ∷ us) (a ∷ b) y i c at s = (s.0, s.1, sent_more lbfs file chunks (x + 1) us b y i c at s.2)
sent_more lbfs file chunks x _ _ y i c at s = absurd s

messages_more : (b : List Ask) (a : Ask) → map ask_message (b ++ a ∷ []) ≡ map ask_message b ++ ask_message a ∷ []
messages_more [] a = refl
messages_more (d ∷ b) a = ap (λ l. ask_message d ∷ l) (messages_more b a)

-- what READs make of an attempt
pub record Ran (lbfs file : ℕ) (start r : Reads) : Type 0 where
  pub notes : List ReadCall
  pub asks : List Ask
  pub sent : Sent lbfs file start.fetch.chunks start.next_xid notes asks r.next_xid
  pub fetch_is : r.fetch ≡ record start.fetch { asked = r.fetch.asked; slots = r.fetch.slots; under = start.fetch.under ++ notes }
  pub further : start.fetch.asked + length notes ≤ r.fetch.asked
  pub indexes : (k : ℕ) (u : ReadCall) → slice_get notes k ≡ Some u → (start.fetch.asked ≤ u.index) × (u.index < r.fetch.asked)
  pub send_is : r.send ≡ start.send ++ map ask_message asks

pub reads_run : (lbfs : ℕ) (cache : Entries) (index : Indexed) (file k : ℕ) (start : Reads) → Ran lbfs file start (reads_more k cache index file start)
reads_run lbfs cache index file k start = reads_keep (Ran lbfs file start) cache index file more k start (record {
  notes = [];
  asks = [];
  sent = refl;
  fetch_is = ap (λ (l : List ReadCall). record start.fetch { under = l }) (sym (append-nil start.fetch.under));
  further = omega arith;
  indexes = λ m u at. nothing_there u at;
  send_is = sym (append-nil start.send);
})
  where
    more : (r : Reads) (c : Chunk) (o : Option (List ℕ)) → Ran lbfs file start r → slice_get r.fetch.chunks r.fetch.asked ≡ Some c → Rattle.file_open.specs.Caching.from_index cache index c ≡ o → Ran lbfs file start (reads_chunk file r c o)
    more r c (Some bytes) h at found =
        let le = h.further in
        record {
          notes = h.notes;
          asks = h.asks;
          sent = h.sent;
          fetch_is = ap (λ (z : Fetch). record z { asked = r.fetch.asked + 1; slots = slice_set r.fetch.slots r.fetch.asked (Some bytes) }) h.fetch_is;
          further = omega (arith, le);
          indexes = λ m u there. let i = h.indexes m u there in let lt = i.1 in (i.0, omega (arith, lt));
          send_is = h.send_is;
        }
    more r c None h at found =
        let u : ReadCall = record { xid = r.next_xid; index = r.fetch.asked } in
        let a : Ask = record { lbfs = lbfs; xid = r.next_xid; call = Read file c } in
        let chunk : slice_get start.fetch.chunks r.fetch.asked ≡ Some c = ap (λ (z : Fetch). slice_get z.chunks r.fetch.asked) (sym h.fetch_is) ∙ at in
        let le = h.further in
        let n = count_more h.notes u in
        record {
          notes = h.notes ++ u ∷ [];
          asks = h.asks ++ a ∷ [];
          sent = sent_more lbfs file start.fetch.chunks start.next_xid h.notes h.asks r.next_xid r.fetch.asked c chunk h.sent;
          fetch_is = ap (λ (z : Fetch). record z { asked = r.fetch.asked + 1; slots = r.fetch.slots; under = r.fetch.under ++ u ∷ [] }) h.fetch_is
              ∙ ap (λ (l : List ReadCall). record start.fetch { asked = r.fetch.asked + 1; slots = r.fetch.slots; under = l }) (ap (λ (z : Fetch). z.under ++ u ∷ []) h.fetch_is ∙ append_assoc start.fetch.under h.notes (u ∷ []));
          further = omega (arith, le, n);
          indexes = λ m v there. elim (of_appended h.notes u m v there) [
            | inl new ↦ let e = ap (λ (z : ReadCall). z.index) new.1 in (omega (arith, e, le), omega (arith, e))
            | inr old ↦ let i = h.indexes m v old in let lt = i.1 in (i.0, omega (arith, lt))
          ];
          send_is = ap (λ l. l ++ ask_message a ∷ []) h.send_is ∙ append_assoc start.send (map ask_message h.asks) (ask_message a ∷ []) ∙ ap (λ l. start.send ++ l) (sym (messages_more h.asks a));
        }

-- ---- what they are

pub sent_rising : (lbfs file : ℕ) (chunks : List Chunk) (x : ℕ) (us : List ReadCall) (b : List Ask) (y : ℕ) → Sent lbfs file chunks x us b y → Rising x b y
sent_rising lbfs file chunks x [] [] y s = omega (arith, s)
sent_rising lbfs file chunks x (u ∷ us) (a ∷ b) y s = let e : a.xid ≡ x = ap (λ (z : Ask). z.xid) s.1.2 in (omega (arith, e), subst (λ (z : ℕ). Rising (z + 1) b y) (sym e) (sent_rising lbfs file chunks (x + 1) us b y s.2))
sent_rising lbfs file chunks x _ _ y s = absurd s

pub sent_bound : (lbfs file : ℕ) (chunks : List Chunk) (x : ℕ) (us : List ReadCall) (b : List Ask) (y : ℕ) → Sent lbfs file chunks x us b y → x ≤ y
sent_bound lbfs file chunks x [] [] y s = omega (arith, s)
sent_bound lbfs file chunks x (u ∷ us) (a ∷ b) y s = let le = sent_bound lbfs file chunks (x + 1) us b y s.2 in omega (arith, le)
sent_bound lbfs file chunks x _ _ y s = absurd s

pub sent_all : (P : Ask → Type 0) (lbfs file : ℕ) (chunks : List Chunk) (x : ℕ) (us : List ReadCall) (b : List Ask) (y : ℕ) → ((k : ℕ) (u : ReadCall) (c : Chunk) → slice_get us k ≡ Some u → slice_get chunks u.index ≡ Some c → x ≤ u.xid → u.xid < y → P (record { lbfs = lbfs; xid = u.xid; call = Read file c })) → Sent lbfs file chunks x us b y → AllAsks P b
sent_all P lbfs file chunks x [] [] y f s = tt
sent_all P lbfs file chunks x (u ∷ us) (a ∷ b) y f s =
    let lt = sent_bound lbfs file chunks (x + 1) us b y s.2 in
    let e = s.0 in (
      subst P (sym s.1.2) (subst (λ (z : ℕ). P (record { lbfs = lbfs; xid = z; call = Read file s.1.0 })) s.0 (f 0 u s.1.0 refl s.1.1 (omega (arith, e)) (omega (arith, lt, e)))),
      sent_all P lbfs file chunks (x + 1) us b y (λ k v c at chunk le less. f (suc k) v c at chunk (omega (arith, le)) less) s.2,
    )
sent_all P lbfs file chunks x _ _ y f s = absurd s

pub sent_count : (lbfs file : ℕ) (chunks : List Chunk) (x : ℕ) (us : List ReadCall) (b : List Ask) (y : ℕ) → Sent lbfs file chunks x us b y → x + length us ≡ y
sent_count lbfs file chunks x [] [] y s = omega (arith, s)
sent_count lbfs file chunks x (u ∷ us) (a ∷ b) y s = let e = sent_count lbfs file chunks (x + 1) us b y s.2 in omega (arith, e)
sent_count lbfs file chunks x _ _ y s = absurd s

pub sent_times : (f : Pending → ℕ) (z : ℕ) (lbfs file : ℕ) (chunks : List Chunk) (x : ℕ) (us : List ReadCall) (b : List Ask) (y : ℕ) → Sent lbfs file chunks x us b y → times z (map f (map read_pending us)) ≡ times z (map (λ a. f (ask_pending a)) b)
sent_times f z lbfs file chunks x [] [] y s = refl
sent_times f z lbfs file chunks x (u ∷ us) (a ∷ b) y s =
    let later = sent_times f z lbfs file chunks (x + 1) us b y s.2 in
    let head : f (read_pending u) ≡ f (ask_pending a) = ap (λ (v : ℕ). f (read_pending (record { xid = v; index = u.index }))) s.0 ∙ ap (λ (v : Ask). f (ask_pending v)) (sym s.1.2) in
    ap (λ n. cond (n == z) (suc (times z (map f (map read_pending us)))) (times z (map f (map read_pending us)))) head ∙ ap (λ n. cond (f (ask_pending a) == z) (suc n) n) later
sent_times f z lbfs file chunks x _ _ y s = absurd s

-- the xids of the notes go on one by one, so that one xid is one note
sent_note : (lbfs file : ℕ) (chunks : List Chunk) (x : ℕ) (us : List ReadCall) (b : List Ask) (y k : ℕ) (u : ReadCall) → Sent lbfs file chunks x us b y → slice_get us k ≡ Some u → u.xid ≡ x + k
sent_note lbfs file chunks x [] [] y k u s at = nothing_there u at
sent_note lbfs file chunks x (v ∷ us) (a ∷ b) y zero u s at = let e : u.xid ≡ x = ap (λ (z : ReadCall). z.xid) (sym (some_is v u at)) ∙ s.0 in omega (arith, e)
sent_note lbfs file chunks x (v ∷ us) (a ∷ b) y (suc k) u s at = let e = sent_note lbfs file chunks (x + 1) us b y k u s.2 at in omega (arith, e)
sent_note lbfs file chunks x _ _ y k u s at = absurd s

pub sent_same : (lbfs file : ℕ) (chunks : List Chunk) (x : ℕ) (us : List ReadCall) (b : List Ask) (y k m : ℕ) (u v : ReadCall) → Sent lbfs file chunks x us b y → slice_get us k ≡ Some u → slice_get us m ≡ Some v → u.xid ≡ v.xid → u ≡ v
sent_same lbfs file chunks x us b y k m u v s at is same =
    let p = sent_note lbfs file chunks x us b y k u s at in
    let q = sent_note lbfs file chunks x us b y m v s is in
    let e : k ≡ m = omega (arith, p, q, same) in
    some_is u v (sym at ∙ ap (slice_get us) e ∙ is)

pub sent_from : (lbfs file : ℕ) (chunks : List Chunk) (x : ℕ) (us : List ReadCall) (b : List Ask) (y k : ℕ) (u : ReadCall) → Sent lbfs file chunks x us b y → slice_get us k ≡ Some u → x ≤ u.xid
sent_from lbfs file chunks x us b y k u s at = let e = sent_note lbfs file chunks x us b y k u s at in omega (arith, e)

pub sent_commits : (lbfs file : ℕ) (chunks : List Chunk) (x : ℕ) (us : List ReadCall) (b : List Ask) (y : ℕ) → Sent lbfs file chunks x us b y → commits_in b ≡ 0
sent_commits lbfs file chunks x [] [] y s = refl
sent_commits lbfs file chunks x (u ∷ us) (a ∷ b) y s = let none = sent_commits lbfs file chunks (x + 1) us b y s.2 in ap (λ (v : Ask). commits_in (v ∷ b)) s.1.2 ∙ omega (arith, none)
sent_commits lbfs file chunks x _ _ y s = absurd s

-- ---- READs under way

pub read_found : (under : List ReadCall) (x : ℕ) (r : ReadCall) → read_at under x ≡ Some r → (k : ℕ) × (slice_get under k ≡ Some r) × (r.xid ≡ x)
read_found [] x r e = nothing_there r e
read_found (u ∷ us) x r e = by (u.xid == x) refl e (read_found us x r)
  where
    by : (b : Bool) → (u.xid == x) ≡ b → cond b (Some u) (read_at us x) ≡ Some r → (read_at us x ≡ Some r → (k : ℕ) × (slice_get us k ≡ Some r) × (r.xid ≡ x)) → (k : ℕ) × (slice_get (u ∷ us) k ≡ Some r) × (r.xid ≡ x)
    by true same e later = (zero, e, sym (ap (λ (z : ReadCall). z.xid) (some_is u r e)) ∙ eqb-true u.xid x same)
    by false same e later = let h = later e in (suc h.0, h.1, h.2)

-- what has another xid stays
pub read_kept : (under : List ReadCall) (x k : ℕ) (r : ReadCall) → slice_get under k ≡ Some r → (r.xid ≡ x → ⊥) → (m : ℕ) × (slice_get (without_read under x) m ≡ Some r)
read_kept [] x k r at apart = nothing_there r at
read_kept (u ∷ us) x zero r at apart =
    let same : u ≡ r = some_is u r at in
    let head : (u.xid == x) ≡ false = ne_eqb u.xid x (λ e. apart (sym (ap (λ (z : ReadCall). z.xid) same) ∙ e)) in
    (zero, ap (λ b. slice_get (cond (not b) (u ∷ without_read us x) (without_read us x)) 0) head ∙ at)
read_kept (u ∷ us) x (suc k) r at apart = by (u.xid == x) (read_kept us x k r at apart)
  where
    by : (b : Bool) → (m : ℕ) × (slice_get (without_read us x) m ≡ Some r) → (m : ℕ) × (slice_get (cond (not b) (u ∷ without_read us x) (without_read us x)) m ≡ Some r)
    by true h = h
    by false h = (suc h.0, h.1)

-- and what stays was there, with another xid
pub read_was : (under : List ReadCall) (x m : ℕ) (r : ReadCall) → slice_get (without_read under x) m ≡ Some r → (k : ℕ) × (slice_get under k ≡ Some r) × (r.xid ≡ x → ⊥)
read_was [] x m r at = nothing_there r at
read_was (u ∷ us) x m r at = by (u.xid == x) refl m at (read_was us x)
  where
    by : (b : Bool) → (u.xid == x) ≡ b → (m : ℕ) → slice_get (cond (not b) (u ∷ without_read us x) (without_read us x)) m ≡ Some r → ((m : ℕ) (r : ReadCall) → slice_get (without_read us x) m ≡ Some r → (k : ℕ) × (slice_get us k ≡ Some r) × (r.xid ≡ x → ⊥)) → (k : ℕ) × (slice_get (u ∷ us) k ≡ Some r) × (r.xid ≡ x → ⊥)
    by true e m at later = let h = later m r at in (suc h.0, h.1, h.2)
    by false e zero at later = (zero, at, λ q. not_equal (u.xid) x e (ap (λ (z : ReadCall). z.xid) (some_is u r at) ∙ q))
      where
        not_equal : (a b : ℕ) → (a == b) ≡ false → a ≡ b → ⊥
        not_equal a b e q = grind (arith, nat_tests, e, q)
    by false e (suc m) at later = let h = later m r at in (suc h.0, h.1, h.2)

-- which is found by its xid still
pub read_still : (under : List ReadCall) (x y : ℕ) → (y ≡ x → ⊥) → read_at (without_read under x) y ≡ read_at under y
read_still [] x y apart = refl
read_still (u ∷ us) x y apart = by (u.xid == x) refl (u.xid == y) refl (read_still us x y apart)
  where
    by : (b : Bool) → (u.xid == x) ≡ b → (c : Bool) → (u.xid == y) ≡ c → read_at (without_read us x) y ≡ read_at us y → read_at (cond (not b) (u ∷ without_read us x) (without_read us x)) y ≡ cond c (Some u) (read_at us y)
    by true e true f later = absurd (grind (arith, nat_tests, e, f, apart))
    by true e false f later = later
    by false e c f later = ap (λ t. cond t (Some u) (read_at (without_read us x) y)) f ∙ ap (λ o. cond c (Some u) o) later

pub read_front : (us vs : List ReadCall) (y : ℕ) (r : ReadCall) → read_at (us ++ vs) y ≡ Some r → (read_at us y ≡ Some r) ⊎ (read_at vs y ≡ Some r)
read_front [] vs y r e = inr e
read_front (u ∷ us) vs y r e = by (u.xid == y) e (read_front us vs y r)
  where
    by : (b : Bool) → cond b (Some u) (read_at (us ++ vs) y) ≡ Some r → (read_at (us ++ vs) y ≡ Some r → (read_at us y ≡ Some r) ⊎ (read_at vs y ≡ Some r)) → (cond b (Some u) (read_at us y) ≡ Some r) ⊎ (read_at vs y ≡ Some r)
    by true e later = inl e
    by false e later = later e
