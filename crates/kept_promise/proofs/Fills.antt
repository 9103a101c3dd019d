-- A temporary file fills with the chunks of its close: what the server finds of a call that is in order, and what is held once it is taken.
use Rattle.std.proofs.Common.{◌⊎◌, inl, inr, ◌≡◌, ℕ, zero, suc, ◌+◌, ◌<◌, ◌≤◌, List, [], ◌∷◌, ◌++◌, length, Some, None, Bool, true, false, refl, sym, ap, ◌∙◌, subst, arith, eq-eqb, ne_eqb}
use Rattle.xdr_codec.specs.declared.status.Status.TheVariants as status
use Rattle.chunk_calls.specs.Writing.{cond_most}
use Rattle.client_state.specs.declared.task.Way.TheVariants as way
use Rattle.kept_promise.proofs.Common.{nat_tests, slice_get, ◌==◌, ◌||◌, nat_lt, nat_le, is_some, if◌then◌else◌, insert_entry, nat_cmp, chunks_of, chunk_bytes, Chunk, cond_fault, room_fault, Temp, temp_at, temps_of, range_fault, Upload, UploadCall, Call.Name, Call.Send, Ask, Told}
use Rattle.kept_promise.proofs.Statements.{PiecesOf, SameShape, AreInRow}
use Rattle.kept_promise.proofs.Lists.{some_is, nothing_there, same_or_not, of_appended, at_end}
use Rattle.kept_promise.proofs.Chunks.{chunks_in_row, chunks_are_named, piece_goes_in}
use Rattle.kept_promise.proofs.Shelf.{IsShelf, NoTemp, none_counted}
use Rattle.kept_promise.proofs.Shelves.{fault_alike, put_alike}
use Rattle.kept_promise.proofs.Orderly.{UpSend, known_reply, DownKnown, Holds}
use Rattle.kept_promise.proofs.Ordered.{known_more}

-- ---- a first temporary file

pub room_there : (temps : List (ℕ × Temp)) (n m : ℕ) → m < 4294967296 → IsShelf temps → NoTemp temps n → room_fault temps n m ≡ None
room_there temps n m lt shelf none =
    let a : is_some (temp_at temps n m) ≡ false = ap is_some (none m lt) in
    let c = none_counted temps n shelf none in
    let b : nat_le 16 (temps_of temps n) ≡ false = grind (arith, nat_tests, c) in
    rw (a, b) refl

-- ---- chunks stand apart

starts_from : (cs : List Chunk) (from to i : ℕ) (c : Chunk) → AreInRow from cs to → slice_get cs i ≡ Some c → (from ≤ c.start) × (0 < c.len) × (c.len ≤ 65536)
starts_from [] from to i c r at = nothing_there c at
starts_from (d ∷ ds) from to zero c r at = subst (λ (z : Chunk). (from ≤ z.start) × (0 < z.len) × (z.len ≤ 65536)) (some_is d c at) (let s = r.0 in omega (arith, s), r.1, r.2)
starts_from (d ∷ ds) from to (suc i) c r at = let h = starts_from ds (d.start + d.len) to i c r.3 at in let s = r.0 in let l = h.0 in (omega (arith, s, l), h.1, h.2)

starts_apart : (cs : List Chunk) (from to i j : ℕ) (c d : Chunk) → AreInRow from cs to → slice_get cs i ≡ Some c → slice_get cs j ≡ Some d → (i ≡ j → ⊥) → c.start ≡ d.start → ⊥
starts_apart [] from to i j c d r a b apart e = nothing_there c a
starts_apart (x ∷ xs) from to zero zero c d r a b apart e = apart refl
starts_apart (x ∷ xs) from to zero (suc j) c d r a b apart e =
    let h = starts_from xs (x.start + x.len) to j d r.3 b in
    let le = h.0 in
    let pos = r.1 in
    let s : x.start ≡ c.start = ap (λ (z : Chunk). z.start) (some_is x c a) in
    omega (arith, le, pos, s, e)
starts_apart (x ∷ xs) from to (suc i) zero c d r a b apart e =
    let h = starts_from xs (x.start + x.len) to i c r.3 a in
    let le = h.0 in
    let pos = r.1 in
    let s : x.start ≡ d.start = ap (λ (z : Chunk). z.start) (some_is x d b) in
    omega (arith, le, pos, s, e)
starts_apart (x ∷ xs) from to (suc i) (suc j) c d r a b apart e = starts_apart xs (x.start + x.len) to i j c d r.3 a b (λ s. apart (ap suc s)) e

pub chunk_sizes : (v : List ℕ) (i : ℕ) (c : Chunk) → slice_get (chunks_of v) i ≡ Some c → (0 < c.len) × (c.len ≤ 65536)
chunk_sizes v i c at = let h = starts_from (chunks_of v) 0 (length v) i c (chunks_in_row v) at in (h.1, h.2)

-- one chunk more
abbrev pub with_chunk : (Chunk → Bool) → Chunk → Chunk → Bool
with_chunk has c d = (d.start == c.start) || has d

chunk_here : (has : Chunk → Bool) (c : Chunk) → with_chunk has c c ≡ true
chunk_here has c = ap (λ b. b || has c) (eq-eqb c.start c.start refl)

chunk_else : (v : List ℕ) (has : Chunk → Bool) (i k : ℕ) (c d : Chunk) → slice_get (chunks_of v) i ≡ Some c → slice_get (chunks_of v) k ≡ Some d → (k ≡ i → ⊥) → with_chunk has c d ≡ has d
chunk_else v has i k c d a b apart = ap (λ t. t || has d) (ne_eqb d.start c.start (λ e. starts_apart (chunks_of v) 0 (length v) k i d c (chunks_in_row v) b a apart e))

-- ---- one goes in

pub chunk_goes : (v : List ℕ) (has : Chunk → Bool) (i : ℕ) (c : Chunk) → length v ≤ 67108864 → slice_get (chunks_of v) i ≡ Some c → has c ≡ false → (range_fault (PiecesOf v has (chunks_of v)) c.start c.len ≡ None) × (insert_entry nat_cmp (PiecesOf v has (chunks_of v)) c.start (chunk_bytes v c) ≡ PiecesOf v (with_chunk has c) (chunks_of v))
chunk_goes v has i c short at none = piece_goes_in v has (with_chunk has c) i c short at none (chunk_here has c) (λ k d b apart. chunk_else v has i k c d at b apart)

-- the name of a chunk that is not held is not refused
pub name_free : (lbfs : ℕ) (v : List ℕ) (has : Chunk → Bool) (i : ℕ) (c : Chunk) (t : Temp) (m : ℕ) → length v ≤ 67108864 → slice_get (chunks_of v) i ≡ Some c → has c ≡ false → SameShape t.pieces (PiecesOf v has (chunks_of v)) → cond_fault (record { lbfs = lbfs; fd = m; offset = c.start; count = c.len; digest = c.digest }) (Some t) ≡ None
name_free lbfs v has i c t m short at none is =
    let s = chunk_sizes v i c at in
    let pos = s.0 in
    let most = s.1 in
    let a : (c.len == 0) ≡ false = ne_eqb c.len 0 (λ e. omega (arith, e, pos)) in
    let b : nat_lt 65536 c.len ≡ false = grind (arith, nat_tests, most) in
    let d : range_fault t.pieces c.start c.len ≡ None = fault_alike t.pieces (PiecesOf v has (chunks_of v)) c.start c.len is ∙ (chunk_goes v has i c short at none).0 in
    let q : ((c.len == 0) || nat_lt cond_most c.len) ≡ false = rw (a, b) refl in
    ap (λ (z : Bool). if z then Some status.Inval else range_fault t.pieces c.start c.len) q ∙ d

-- ---- what is held once its bytes were taken

pub holds_taken : (v : List ℕ) (lbfs xid m s : ℕ) (b : List ℕ) (us : List Ask) (ts : List Told) (st : Upload) (ps : List (ℕ × List ℕ)) (k : ℕ) (u : UploadCall) (c : Chunk) → length v ≤ 67108864 → slice_get st.under k ≡ Some u → u.xid ≡ xid → u.index < st.named → u.way ≡ way.Whole → slice_get (chunks_of v) u.index ≡ Some c
    → ((i : ℕ) (w : UploadCall) → slice_get st.under i ≡ Some w → w.xid ≡ xid → i ≡ k)
    → (UpSend us xid → ⊥) → Holds v (record { lbfs = lbfs; xid = xid; call = Send m s b } ∷ us) ts st ps → (range_fault ps c.start c.len ≡ None) × Holds v us ts st (insert_entry nat_cmp ps c.start (chunk_bytes v c))
holds_taken v lbfs xid m s b us ts st ps k u c short at same inside whole chunk unique none h =
    let a : Ask = record { lbfs = lbfs; xid = xid; call = Send m s b } in
    let up : UpSend (a ∷ us) u.xid = (0, m, s, b, lbfs, ap (λ (z : ℕ). Some (record { lbfs = lbfs; xid = z; call = Send m s b })) (sym same)) in
    let goes = chunk_goes v h.has u.index c short chunk (h.up k u c at up chunk) in (
      fault_alike ps (PiecesOf v h.has (chunks_of v)) c.start c.len h.pieces_is ∙ goes.0,
      record {
        has = with_chunk h.has c;
        pieces_is = subst (SameShape (insert_entry nat_cmp ps c.start (chunk_bytes v c))) goes.1 (put_alike ps (PiecesOf v h.has (chunks_of v)) c.start (chunk_bytes v c) (chunk_bytes v c) refl h.pieces_is);
        later = λ i d is le. chunk_else v h.has u.index i c d chunk is (λ e. omega (arith, e, le, inside)) ∙ h.later i d is le;
        done = λ i d is lt free. chunk_else v h.has u.index i c d chunk is (λ e. free k u at (sym e)) ∙ h.done i d is lt free;
        by_name = λ i w d is by_name unknown ch. chunk_else v h.has u.index w.index c d chunk ch (λ e. ways u w (h.apart i k w u is at e) whole by_name) ∙ h.by_name i w d is by_name unknown ch;
        known = λ i w d is by_name z ch. chunk_else v h.has u.index w.index c d chunk ch (λ e. ways u w (h.apart i k w u is at e) whole by_name) ∙ h.known i w d is by_name z ch;
        up = λ i w d is sent ch. chunk_else v h.has u.index w.index c d chunk ch (λ e. none (subst (λ (z : ℕ). UpSend us z) (ap (λ (z : UploadCall). z.xid) (h.apart i k w u is at e) ∙ same) sent)) ∙ h.up i w d is (suc sent.0, sent.1, sent.2, sent.3, sent.4, sent.5) ch;
        taken = λ i w d is by_way gone ch. by i w d is by_way gone ch (same_or_not w.index u.index);
        apart = h.apart;
      },
    )
  where
    some_same : (i j : ℕ) (w z : UploadCall) → slice_get st.under i ≡ Some w → slice_get st.under j ≡ Some z → i ≡ j → w ≡ z
    some_same i j w z f g e = some_is w z (sym f ∙ ap (slice_get st.under) e ∙ g)

    ways : (y w : UploadCall) → w ≡ y → y.way ≡ way.Whole → w.way ≡ way.Named → ⊥
    ways y w e f g = not_named (sym f ∙ ap (λ (z : UploadCall). z.way) (sym e) ∙ g)
      where
        not_named : way.Whole ≡ way.Named → ⊥
        not_named e = absurd cc

    by : (i : ℕ) (w : UploadCall) (d : Chunk) → slice_get st.under i ≡ Some w → w.way ≡ way.Whole → (UpSend us w.xid → ⊥) → slice_get (chunks_of v) w.index ≡ Some d → ((w.index ≡ u.index) ⊎ (w.index ≡ u.index → ⊥)) → with_chunk h.has c d ≡ true
    by i w d is by_way gone ch (inl e) = let z : d ≡ c = some_is d c (sym ch ∙ ap (slice_get (chunks_of v)) e ∙ chunk) in ap (with_chunk h.has c) z ∙ chunk_here h.has c
    by i w d is by_way gone ch (inr apart) =
        chunk_else v h.has u.index w.index c d chunk ch apart ∙ h.taken i w d is by_way (λ sent. still i w is apart gone sent) ch
      where
        still : (i : ℕ) (w : UploadCall) → slice_get st.under i ≡ Some w → (w.index ≡ u.index → ⊥) → (UpSend us w.xid → ⊥) → UpSend (record { lbfs = lbfs; xid = xid; call = Send m s b } ∷ us) w.xid → ⊥
        still i w is apart gone (zero, m2, s2, b2, v2, e) =
            let x : xid ≡ w.xid = ap (λ (z : Ask). z.xid) (some_is (record { lbfs = lbfs; xid = xid; call = Send m s b }) _ e) in
            apart (ap (λ (z : UploadCall). z.index) (some_same i k w u is at (unique i w is (sym x))))
        still i w is apart gone (suc n, m2, s2, b2, v2, e) = gone (n, m2, s2, b2, v2, e)

-- ---- what is held once its bytes were known

pub holds_known : (v : List ℕ) (lbfs xid m : ℕ) (bytes : List ℕ) (us : List Ask) (ts : List Told) (st : Upload) (ps : List (ℕ × List ℕ)) (k : ℕ) (u : UploadCall) (c : Chunk) → length v ≤ 67108864 → slice_get st.under k ≡ Some u → u.xid ≡ xid → u.index < st.named → u.way ≡ way.Named → slice_get (chunks_of v) u.index ≡ Some c
    → ((i : ℕ) (w : UploadCall) → slice_get st.under i ≡ Some w → w.xid ≡ xid → i ≡ k) → length bytes ≡ c.len
    → (UpSend us xid → ⊥) → (DownKnown ts xid → ⊥) → Holds v (record { lbfs = lbfs; xid = xid; call = Name m c } ∷ us) ts st ps → Holds v us (ts ++ record { xid = xid; reply = known_reply } ∷ []) st (insert_entry nat_cmp ps c.start bytes)
holds_known v lbfs xid m bytes us ts st ps k u c short at same inside named chunk unique count none unknown h = record {
  has = with_chunk h.has c;
  pieces_is = subst (SameShape (insert_entry nat_cmp ps c.start bytes)) goes.1 (put_alike ps (PiecesOf v h.has (chunks_of v)) c.start bytes (chunk_bytes v c) (count ∙ sym (chunks_are_named v u.index c chunk).1) h.pieces_is);
  later = λ i d is le. chunk_else v h.has u.index i c d chunk is (λ e. omega (arith, e, le, inside)) ∙ h.later i d is le;
  done = λ i d is lt free. chunk_else v h.has u.index i c d chunk is (λ e. free k u at (sym e)) ∙ h.done i d is lt free;
  by_name = λ i w d is by_name z ch. chunk_else v h.has u.index w.index c d chunk ch (λ e. z (subst (λ (x : ℕ). DownKnown (ts ++ t ∷ []) x) (sym (xid_of i w is e)) (length ts, at_end ts t))) ∙ h.by_name i w d is by_name (λ y. z (known_more ts (t ∷ []) w.xid y)) ch;
  known = λ i w d is by_name z ch. elim (same_or_not w.index u.index) [
    | inl e ↦ ap (with_chunk h.has c) (some_is d c (sym ch ∙ ap (slice_get (chunks_of v)) e ∙ chunk)) ∙ chunk_here h.has c
    | inr apart ↦ chunk_else v h.has u.index w.index c d chunk ch apart ∙ h.known i w d is by_name (before i w is apart z) ch
  ];
  up = λ i w d is sent ch. chunk_else v h.has u.index w.index c d chunk ch (λ e. none (subst (λ (z : ℕ). UpSend us z) (xid_of i w is e) sent)) ∙ h.up i w d is (suc sent.0, sent.1, sent.2, sent.3, sent.4, sent.5) ch;
  taken = λ i w d is by_way gone ch. chunk_else v h.has u.index w.index c d chunk ch (λ e. ways (h.apart i k w u is at e) by_way) ∙ h.taken i w d is by_way (λ sent. still w gone sent) ch;
  apart = h.apart;
}
  where
    t : Told
    t = record { xid = xid; reply = known_reply }

    goes : (range_fault (PiecesOf v h.has (chunks_of v)) c.start c.len ≡ None) × (insert_entry nat_cmp (PiecesOf v h.has (chunks_of v)) c.start (chunk_bytes v c) ≡ PiecesOf v (with_chunk h.has c) (chunks_of v))
    goes = chunk_goes v h.has u.index c short chunk (h.by_name k u c at named (λ z. unknown (subst (λ (x : ℕ). DownKnown ts x) same z)) chunk)

    xid_of : (i : ℕ) (w : UploadCall) → slice_get st.under i ≡ Some w → w.index ≡ u.index → w.xid ≡ xid
    xid_of i w is e = ap (λ (z : UploadCall). z.xid) (h.apart i k w u is at e) ∙ same

    -- another name was known before
    before : (i : ℕ) (w : UploadCall) → slice_get st.under i ≡ Some w → (w.index ≡ u.index → ⊥) → DownKnown (ts ++ t ∷ []) w.xid → DownKnown ts w.xid
    before i w is apart z = elim (of_appended ts t z.0 (record { xid = w.xid; reply = known_reply }) z.1) [
      | inl last ↦ absurd (apart (ap (λ (y : UploadCall). y.index) (some_is w u (sym is ∙ ap (slice_get st.under) (unique i w is (ap (λ (y : Told). y.xid) last.1)) ∙ at))))
      | inr was ↦ (z.0, was)
    ]

    ways : {w : UploadCall} → w ≡ u → w.way ≡ way.Whole → ⊥
    ways e f = not_named (sym f ∙ ap (λ (z : UploadCall). z.way) e ∙ named)
      where
        not_named : way.Whole ≡ way.Named → ⊥
        not_named e = absurd cc

    still : (w : UploadCall) → (UpSend us w.xid → ⊥) → UpSend (record { lbfs = lbfs; xid = xid; call = Name m c } ∷ us) w.xid → ⊥
    still w gone (zero, m2, s2, b2, v2, e) = not_sent (ap (λ (z : Ask). z.call) (some_is (record { lbfs = lbfs; xid = xid; call = Name m c }) _ e))
      where
        not_sent : Name m c ≡ Send m2 s2 b2 → ⊥
        not_sent e = absurd cc
    still w gone (suc n, m2, s2, b2, v2, e) = gone (n, m2, s2, b2, v2, e)
