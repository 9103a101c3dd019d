-- CONDWRITEs that go out, in chunk order.
use Rattle.std.proofs.Common.{◌≡◌, ℕ, zero, suc, ◌+◌, ◌<◌, ◌≤◌, List, [], ◌∷◌, ◌++◌, length, Option, Some, None, refl, sym, ap, ◌∙◌, subst, arith, append_assoc, append-nil, map}
use Rattle.client_state.specs.declared.task.Way.TheVariants as way
use Rattle.kept_promise.proofs.Common.{slice_get, cond, ◌==◌, Chunk, Pending, store_pending, Names, names_next, names_more, Upload, UploadCall, Call.Name, Ask, ask_message}
use Rattle.kept_promise.proofs.Lists.{some_is, nothing_there, within}
use Rattle.kept_promise.proofs.Keys.{times}
use Rattle.kept_promise.proofs.Messages.{AllAsks, Rising}
use Rattle.kept_promise.proofs.Facts.{commits_in, names_in}
use Rattle.kept_promise.proofs.Heard.{ask_pending}

-- these notes and calls, in a version of LBFS: for the chunks from an index on, with xids from this one up to that
abbrev pub Named : (lbfs temp : ℕ) → List Chunk → (xid index : ℕ) → List UploadCall → List Ask → (next : ℕ) → Type 0
Named lbfs temp chunks x i [] [] y = x ≡ y
Named lbfs temp chunks x i (u ∷ us) (a ∷ b) y = (u ≡ record { xid = x; index = i; way = way.Named }) × ((c : Chunk) × (slice_get chunks i ≡ Some c) × (a ≡ record { lbfs = lbfs; xid = x; call = Name temp c })) × Named lbfs temp chunks (x + 1) (i + 1) us b y
Named lbfs temp chunks x i us b y = ⊥

-- what CONDWRITEs make of a close
pub record Ran (lbfs : ℕ) (start : Names) (most : ℕ) (n : Names) : Type 0 where
  pub notes : List UploadCall
  pub asks : List Ask
  pub named : Named lbfs start.store.temp start.store.chunks start.next_xid start.store.named notes asks n.next_xid
  pub store_is : n.store ≡ record start.store { named = start.store.named + length notes; under = start.store.under ++ notes }
  pub send_is : n.send ≡ start.send ++ map ask_message asks
  -- some are sent where some may be, and a chunk is left
  pub some : 0 < most → (c : Chunk) → slice_get start.store.chunks start.store.named ≡ Some c → 0 < length notes

pub names_run : (lbfs most : ℕ) (n : Names) → Ran lbfs n most (names_more lbfs most n)
names_run lbfs zero n = record {
  notes = [];
  asks = [];
  named = refl;
  store_is = store_same n.store;
  send_is = sym (append-nil n.send);
  some = λ lt. absurd (omega (arith, lt));
}
  where
    store_same : (s : Upload) → s ≡ record s { named = s.named + 0; under = s.under ++ [] }
    store_same s = let a : s.named ≡ s.named + 0 = omega arith in ap (λ z. record s { named = z }) a ∙ ap (λ l. record s { named = s.named + 0; under = l }) (sym (append-nil s.under))
names_run lbfs (suc most) n = by (slice_get n.store.chunks n.store.named) refl (names_run lbfs most)
  where
    by : (o : Option Chunk) → slice_get n.store.chunks n.store.named ≡ o → ((n : Names) → Ran lbfs n most (names_more lbfs most n)) → Ran lbfs n (suc most) (names_more lbfs most (names_next lbfs n o))
    by None e later = let h = later n in record { notes = h.notes; asks = h.asks; named = h.named; store_is = h.store_is; send_is = h.send_is; some = λ lt c at. nothing_there c (sym e ∙ at) }
    by (Some c) e later =
        let u : UploadCall = record { xid = n.next_xid; index = n.store.named; way = way.Named } in
        let a : Ask = record { lbfs = lbfs; xid = n.next_xid; call = Name n.store.temp c } in
        let one : Names = names_next lbfs n (Some c) in
        let h = later one in
        record {
          notes = u ∷ h.notes;
          asks = a ∷ h.asks;
          named = (refl, (c, e, refl), h.named);
          store_is = h.store_is ∙ (let q : n.store.named + 1 + length h.notes ≡ n.store.named + suc (length h.notes) = omega arith in ap (λ z. record n.store { named = z; under = (n.store.under ++ u ∷ []) ++ h.notes }) q) ∙ ap (λ l. record n.store { named = n.store.named + suc (length h.notes); under = l }) (append_assoc n.store.under (u ∷ []) h.notes);
          send_is = h.send_is ∙ append_assoc n.send (ask_message a ∷ []) (map ask_message h.asks);
          some = λ lt d at. omega arith;
        }

-- ---- what they are

pub named_rising : (lbfs temp : ℕ) (chunks : List Chunk) (x i : ℕ) (us : List UploadCall) (b : List Ask) (y : ℕ) → Named lbfs temp chunks x i us b y → Rising x b y
named_rising lbfs temp chunks x i [] [] y s = omega (arith, s)
named_rising lbfs temp chunks x i (u ∷ us) (a ∷ b) y s = let e : a.xid ≡ x = ap (λ (z : Ask). z.xid) s.1.2 in (omega (arith, e), subst (λ (z : ℕ). Rising (z + 1) b y) (sym e) (named_rising lbfs temp chunks (x + 1) (i + 1) us b y s.2))
named_rising lbfs temp chunks x i _ _ y s = absurd s

pub named_bound : (lbfs temp : ℕ) (chunks : List Chunk) (x i : ℕ) (us : List UploadCall) (b : List Ask) (y : ℕ) → Named lbfs temp chunks x i us b y → x ≤ y
named_bound lbfs temp chunks x i [] [] y s = omega (arith, s)
named_bound lbfs temp chunks x i (u ∷ us) (a ∷ b) y s = let le = named_bound lbfs temp chunks (x + 1) (i + 1) us b y s.2 in omega (arith, le)
named_bound lbfs temp chunks x i _ _ y s = absurd s

pub named_all : (P : Ask → Type 0) (lbfs temp : ℕ) (chunks : List Chunk) (x i : ℕ) (us : List UploadCall) (b : List Ask) (y : ℕ) → ((z k : ℕ) (c : Chunk) → slice_get chunks k ≡ Some c → x ≤ z → z < y → P (record { lbfs = lbfs; xid = z; call = Name temp c })) → Named lbfs temp chunks x i us b y → AllAsks P b
named_all P lbfs temp chunks x i [] [] y f s = tt
named_all P lbfs temp chunks x i (u ∷ us) (a ∷ b) y f s =
    let lt = named_bound lbfs temp chunks (x + 1) (i + 1) us b y s.2 in
    (subst P (sym s.1.2) (f x i s.1.0 s.1.1 (omega arith) (omega (arith, lt))), named_all P lbfs temp chunks (x + 1) (i + 1) us b y (λ z k c at le less. f z k c at (omega (arith, le)) less) s.2)
named_all P lbfs temp chunks x i _ _ y f s = absurd s

pub named_count : (lbfs temp : ℕ) (chunks : List Chunk) (x i : ℕ) (us : List UploadCall) (b : List Ask) (y : ℕ) → Named lbfs temp chunks x i us b y → (x + length us ≡ y) × (names_in us ≡ length us)
named_count lbfs temp chunks x i [] [] y s = (omega (arith, s), refl)
named_count lbfs temp chunks x i (u ∷ us) (a ∷ b) y s =
    let e = named_count lbfs temp chunks (x + 1) (i + 1) us b y s.2 in
    let one = e.0 in
    (omega (arith, one), ap (λ (v : UploadCall). names_in (v ∷ us)) s.0 ∙ ap suc e.1)
named_count lbfs temp chunks x i _ _ y s = absurd s

-- the index of the last is that of a chunk
pub named_inside : (lbfs temp : ℕ) (chunks : List Chunk) (x i : ℕ) (us : List UploadCall) (b : List Ask) (y : ℕ) → i ≤ length chunks → Named lbfs temp chunks x i us b y → i + length us ≤ length chunks
named_inside lbfs temp chunks x i [] [] y le s = omega (arith, le)
named_inside lbfs temp chunks x i (u ∷ us) (a ∷ b) y le s = let lt = within chunks i s.1.0 s.1.1 in let e = named_inside lbfs temp chunks (x + 1) (i + 1) us b y (omega (arith, lt)) s.2 in omega (arith, e)
named_inside lbfs temp chunks x i _ _ y le s = absurd s

pub named_times : (f : Pending → ℕ) (z : ℕ) (lbfs temp : ℕ) (chunks : List Chunk) (x i : ℕ) (us : List UploadCall) (b : List Ask) (y : ℕ) → Named lbfs temp chunks x i us b y → times z (map f (map store_pending us)) ≡ times z (map (λ a. f (ask_pending a)) b)
named_times f z lbfs temp chunks x i [] [] y s = refl
named_times f z lbfs temp chunks x i (u ∷ us) (a ∷ b) y s =
    let later = named_times f z lbfs temp chunks (x + 1) (i + 1) us b y s.2 in
    let head : f (store_pending u) ≡ f (ask_pending a) = ap (λ (v : UploadCall). f (store_pending v)) s.0 ∙ ap (λ (v : Ask). f (ask_pending v)) (sym s.1.2) in
    ap (λ n. cond (n == z) (suc (times z (map f (map store_pending us)))) (times z (map f (map store_pending us)))) head ∙ ap (λ n. cond (f (ask_pending a) == z) (suc n) n) later
named_times f z lbfs temp chunks x i _ _ y s = absurd s

-- each note is of an index from there on
pub named_note : (lbfs temp : ℕ) (chunks : List Chunk) (x i : ℕ) (us : List UploadCall) (b : List Ask) (y k : ℕ) (u : UploadCall) → Named lbfs temp chunks x i us b y → slice_get us k ≡ Some u → u.index < i + length us
named_note lbfs temp chunks x i [] [] y k u s at = nothing_there u at
named_note lbfs temp chunks x i (v ∷ us) (a ∷ b) y zero u s at = let e : u.index ≡ i = ap (λ (z : UploadCall). z.index) (sym (some_is v u at) ∙ s.0) in omega (arith, e)
named_note lbfs temp chunks x i (v ∷ us) (a ∷ b) y (suc k) u s at = let r = named_note lbfs temp chunks (x + 1) (i + 1) us b y k u s.2 at in omega (arith, r)
named_note lbfs temp chunks x i _ _ y k u s at = absurd s

pub named_commits : (lbfs temp : ℕ) (chunks : List Chunk) (x i : ℕ) (us : List UploadCall) (b : List Ask) (y : ℕ) → Named lbfs temp chunks x i us b y → commits_in b ≡ 0
named_commits lbfs temp chunks x i [] [] y s = refl
named_commits lbfs temp chunks x i (u ∷ us) (a ∷ b) y s = let none = named_commits lbfs temp chunks (x + 1) (i + 1) us b y s.2 in ap (λ (v : Ask). commits_in (v ∷ b)) s.1.2 ∙ omega (arith, none)
named_commits lbfs temp chunks x i _ _ y s = absurd s
