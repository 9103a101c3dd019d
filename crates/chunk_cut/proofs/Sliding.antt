-- Windows that lie in a piece, and how they move on.
use Rattle.std.proofs.Common.{◌≡◌, ℕ, ◌+◌, ◌-◌, ◌<◌, ◌≤◌, List, [], ◌∷◌, ◌++◌, length, take, drop, get_or, sym, ap, subst, ◌∙◌, arith}
use Rattle.std.proofs.lemmas.List.{length-append, length-drop, length-take-le, drop-append-le, drop-drop, drop-take, drop_all, drop_more, take_all, take_more, get_or-drop}
use Rattle.chunk_cut.specs.Ends.{window_before}
use Rattle.chunk_cut.specs.Cutting.{IsUnderWay}
use Rattle.chunk_cut.proofs.Windows.{window_known}

-- the bytes of the window before i but its first
abbrev pub kept_before : List ℕ → ℕ → List ℕ
kept_before piece i = take 47 (drop (i - 48 + 1) piece)

pub length-kept : (piece : List ℕ) (i : ℕ) → 48 ≤ i → i ≤ length piece → length (kept_before piece i) ≡ 47
length-kept piece i h l =
    let n : length (drop (i - 48 + 1) piece) ≡ length piece - (i - 48 + 1) = length-drop (i - 48 + 1) piece in
    length-take-le 47 (drop (i - 48 + 1) piece) (omega arith)

pub parted : (piece : List ℕ) (i : ℕ) → 48 ≤ i → i ≤ length piece → window_before piece i ≡ get_or piece (i - 48) 0 ∷ kept_before piece i
parted piece i h l =
    ap (λ (xs : List ℕ). take 48 xs) (drop_more piece (i - 48) 0 (omega arith))

pub moved : (piece : List ℕ) (i : ℕ) → 48 ≤ i → i < length piece → window_before piece (i + 1) ≡ kept_before piece i ++ get_or piece i 0 ∷ []
moved piece i h l =
    let from : ℕ = i - 48 + 1 in
    let n : length (drop from piece) ≡ length piece - from = length-drop from piece in
    let e1 : i + 1 - 48 ≡ from = omega arith in
    let e2 : from + 47 ≡ i = omega arith in
    ap (λ (k : ℕ). take 48 (drop k piece)) e1
    ∙ take_more (drop from piece) 47 0 (omega arith)
    ∙ ap (λ (b : ℕ). take 47 (drop from piece) ++ b ∷ []) (get_or-drop from piece 47 0 ∙ ap (λ (k : ℕ). get_or piece k 0) e2)

-- the first goes, and the next byte comes
pub slid : (piece : List ℕ) (i : ℕ) → 48 ≤ i → i < length piece → window_before piece (i + 1) ≡ drop 1 (window_before piece i) ++ get_or piece i 0 ∷ []
slid piece i h l =
    moved piece i h l ∙ ap (λ (xs : List ℕ). drop 1 xs ++ get_or piece i 0 ∷ []) (sym (parted piece i h (omega arith)))

past : (xs ys : List ℕ) (k : ℕ) → drop (length xs + k) (xs ++ ys) ≡ drop k ys
past xs ys k =
    sym (drop-drop k (length xs) (xs ++ ys))
    ∙ ap (λ (zs : List ℕ). drop k zs) (drop-append-le (length xs) xs ys (omega arith) ∙ ap (λ (zs : List ℕ). zs ++ ys) (drop_all (length xs) xs (omega arith)))

-- at 48 bytes of the piece, and the least number of the chunk, the window lies in the piece
pub in_piece : (content piece : List ℕ) (s len n : ℕ) (window : List ℕ) → 48 ≤ n → n ≤ length piece → 2048 ≤ len + n → IsUnderWay (content ++ take n piece) s (len + n) window → window ≡ window_before piece n
in_piece content piece s len n window h l enough u =
    let all : List ℕ = content ++ take n piece in
    let m : length (take n piece) ≡ n = length-take-le n piece l in
    let count : length all ≡ length content + length (take n piece) = length-append content (take n piece) in
    let e1 : length all - 48 ≡ length content + (n - 48) = omega arith in
    let e2 : n ≡ n - 48 + 48 = omega arith in
    let e3 : drop (n - 48) (take n piece) ≡ take 48 (drop (n - 48) piece) = ap (λ (k : ℕ). drop (n - 48) (take k piece)) e2 ∙ drop-take (n - 48) 48 piece in
    let k : length (drop (n - 48) piece) ≡ length piece - (n - 48) = length-drop (n - 48) piece in
    let k2 : length (take 48 (drop (n - 48) piece)) ≡ 48 = length-take-le 48 (drop (n - 48) piece) (omega arith) in
    sym (window_known all s (len + n) window u.size enough u.full u.recent)
    ∙ ap (λ (j : ℕ). take 48 (drop j all)) e1
    ∙ ap (λ (xs : List ℕ). take 48 xs) (past content (take n piece) (n - 48) ∙ e3)
    ∙ take_all 48 (take 48 (drop (n - 48) piece)) (omega arith)

-- there the search can go on over the piece alone
pub handed : (content piece : List ℕ) (s len i from : ℕ) (window : List ℕ) → i ≡ from → 48 ≤ from → from ≤ length piece → 2048 ≤ len + from → IsUnderWay (content ++ take i piece) s (len + i) window → IsUnderWay (content ++ take from piece) s (len + from) (window_before piece from)
handed content piece s len i from window e h l enough u =
    let here : IsUnderWay (content ++ take from piece) s (len + from) window = subst (λ (k : ℕ). IsUnderWay (content ++ take k piece) s (len + k) window) e u in
    subst (λ (ws : List ℕ). IsUnderWay (content ++ take from piece) s (len + from) ws) (in_piece content piece s len from window h l enough here) here

-- the last 48 bytes of the piece
pub last_bytes : (piece : List ℕ) → 48 ≤ length piece → take (length piece - (length piece - 48)) (drop (length piece - 48) piece) ≡ window_before piece (length piece)
last_bytes piece h =
    let e : length piece - (length piece - 48) ≡ 48 = omega arith in
    ap (λ (n : ℕ). take n (drop (length piece - 48) piece)) e
