-- The window over the end of the content, and whether a chunk ends there.
use Rattle.std.proofs.Common.{◌≡◌, ℕ, zero, suc, ◌+◌, ◌-◌, ◌%◌, ◌^◌, ◌<◌, ◌≤◌, ◌⊎◌, inl, inr, List, [], ◌∷◌, ◌++◌, length, take, drop, refl, sym, ap, subst, ◌∙◌, add-zero, arith}
use Rattle.std.proofs.lemmas.List.{length-append, length-drop, length_push, drop-append-le, drop-drop, drop_all, take_all, append-nil}
use Rattle.std.proofs.lemmas.Bool.{cases_lt}
use Rattle.rabin_window.specs.Fingerprint.{fp}
use Rattle.chunk_cut.specs.Ends.{window_before, IsMarked, MayEnd, IsOpen, IsLeastEnd}
use Rattle.chunk_cut.specs.Cutting.{IsRecent, IsUnderWay}
use Rattle.chunk_cut.proofs.Chains.{is_open_late, may_less}

-- nothing of the window is needed yet
pub recent_none : (content : List ℕ) (len : ℕ) (window : List ℕ) → len ≤ 2000 → length window ≡ 48 → IsRecent content len window
recent_none content len window h full zero p q =
    drop_all 48 window (omega arith) ∙ sym (drop_all (length content - 0) content (omega arith))
recent_none content len window h full (suc k) p q = absurd (omega arith)

pub skipped : (content more : List ℕ) (s len : ℕ) (window : List ℕ) → len + length more ≤ 2000 ⊎ (length more ≡ 0) → IsUnderWay content s len window → IsUnderWay (content ++ more) s (len + length more) window
skipped content more s len window (inl h) u =
    let size : s + len ≡ length content = u.size in
    let all : length (content ++ more) ≡ length content + length more = length-append content more in
    record {
      size = omega arith;
      goes_on = is_open_late (content ++ more) s (omega arith);
      full = u.full;
      recent = recent_none (content ++ more) (len + length more) window h u.full;
    }
skipped content [] s len window (inr h) u = rw (append-nil, add-zero) u
skipped content (x ∷ more) s len window (inr h) u = absurd (omega arith)

-- one byte more in the window
recent_push : (content : List ℕ) (len : ℕ) (window : List ℕ) (b : ℕ) → length window ≡ 48 → IsRecent content len window → IsRecent (content ++ b ∷ []) (len + 1) (drop 1 window ++ b ∷ [])
recent_push content len window b full recent zero p q =
    let n : length (drop 1 window ++ b ∷ []) ≡ 48 = length_push (drop 1 window) b ∙ simp length-drop (omega arith) in
    drop_all 48 (drop 1 window ++ b ∷ []) (omega arith) ∙ sym (drop_all (length (content ++ b ∷ []) - 0) (content ++ b ∷ []) (omega arith))
recent_push content len window b full recent (suc k) p q =
    let all : length (content ++ b ∷ []) ≡ length content + 1 = length_push content b in
    let e1 : drop (48 - suc k) (drop 1 window ++ b ∷ []) ≡ drop (48 - suc k) (drop 1 window) ++ b ∷ [] =
    drop-append-le (48 - suc k) (drop 1 window) (b ∷ []) (simp length-drop (omega arith)) in
    let e2 : drop (48 - suc k) (drop 1 window) ≡ drop (1 + (48 - suc k)) window = drop-drop (48 - suc k) 1 window in
    let e3 : 1 + (48 - suc k) ≡ 48 - k = omega arith in
    let e4 : drop (48 - k) window ≡ drop (length content - k) content = recent k (omega arith) (omega arith) in
    let e5 : length (content ++ b ∷ []) - suc k ≡ length content - k = omega arith in
    let e6 : drop (length content - k) (content ++ b ∷ []) ≡ drop (length content - k) content ++ b ∷ [] = drop-append-le (length content - k) content (b ∷ []) (omega arith) in
    e1
    ∙ ap (λ (xs : List ℕ). xs ++ b ∷ []) (e2 ∙ ap (λ (n : ℕ). drop n window) e3 ∙ e4)
    ∙ sym (ap (λ (n : ℕ). drop n (content ++ b ∷ [])) e5 ∙ e6)

-- from 2048 bytes on the window is that before the end
pub window_known : (content : List ℕ) (s len : ℕ) (window : List ℕ) → s + len ≡ length content → 2048 ≤ len → length window ≡ 48 → IsRecent content len window → window_before content (length content) ≡ window
window_known content s len window size h full recent =
    ap (λ (xs : List ℕ). take 48 xs) (sym (recent 48 (omega arith) (omega arith))) ∙ take_all 48 window (omega arith)

-- a chunk under way has not the most bytes yet
pub below_most : (content : List ℕ) (s len : ℕ) → s + len ≡ length content → IsOpen content s → len < 65536
below_most content s len size none = elim (cases_lt len 65536) [ inl h ↦ h | inr h ↦ absurd (none (s + 65536) (at h)) ]
  where
    at : 65536 ≤ len → MayEnd content s (s + 65536)
    at h = record { least = omega arith; most = omega arith; within = omega arith; mark = inr refl }

-- what is known of the content with one byte more
pub record IsPushed (content : List ℕ) (s len : ℕ) (window : List ℕ) : Type 0 where
  pub size : s + len ≡ length content
  pub most : len ≤ 65536
  pub full : length window ≡ 48
  pub recent : IsRecent content len window
  pub before : (e : ℕ) → e < length content → ¬ (MayEnd content s e)

pub pushed : (content : List ℕ) (s len : ℕ) (window : List ℕ) (b : ℕ) → IsUnderWay content s len window → IsPushed (content ++ b ∷ []) s (len + 1) (drop 1 window ++ b ∷ [])
pushed content s len window b u =
    let size : s + len ≡ length content = u.size in
    let all : length (content ++ b ∷ []) ≡ length content + 1 = length_push content b in
    let below : len < 65536 = below_most content s len u.size u.goes_on in
    let full : length window ≡ 48 = u.full in
    record {
      size = omega arith;
      most = omega arith;
      full = length_push (drop 1 window) b ∙ simp length-drop (omega arith);
      recent = recent_push content len window b u.full u.recent;
      before = λ e h m. u.goes_on e (may_less content (b ∷ []) s e (omega arith) m);
    }

-- the test that the code makes
abbrev pub IsEndAt : ℕ → ℕ → Type 0
IsEndAt print len = (2048 ≤ len) × ((print % 2 ^ 13 ≡ 0x78) ⊎ (len ≡ 65536))

pub ends_there : (content : List ℕ) (s len : ℕ) (window : List ℕ) → IsPushed content s len window → IsEndAt (fp window) len → IsLeastEnd content s (length content)
ends_there content s len window p test =
    let size : s + len ≡ length content = p.size in
    let most : len ≤ 65536 = p.most in
    record {
      may = record { least = omega (arith, test.0); most = omega arith; within = omega arith; mark = mark test.1 };
      first = λ d m. elim (cases_lt d (length content)) [ inl h ↦ absurd (p.before d h m) | inr h ↦ h ];
    }
  where
    mark : (fp window % 2 ^ 13 ≡ 0x78) ⊎ (len ≡ 65536) → IsMarked (window_before content (length content)) ⊎ (length content ≡ s + 65536)
    mark (inl h) = inl (ap (λ (xs : List ℕ). fp xs % 2 ^ 13) (window_known content s len window p.size test.0 p.full p.recent) ∙ h)
    mark (inr h) = let size : s + len ≡ length content = p.size in inr (omega arith)

pub goes_on : (content : List ℕ) (s len : ℕ) (window : List ℕ) → IsPushed content s len window → (IsEndAt (fp window) len → ⊥) → IsUnderWay content s len window
goes_on content s len window p test =
    record { size = p.size; goes_on = none; full = p.full; recent = p.recent }
  where
    here : MayEnd content s (length content) → ⊥
    here m =
        let size : s + len ≡ length content = p.size in
        let least : s + 2048 ≤ length content = m.least in
        let enough : 2048 ≤ len = omega arith in
        test (enough, mark enough m.mark)
      where
        mark : 2048 ≤ len → IsMarked (window_before content (length content)) ⊎ (length content ≡ s + 65536) → (fp window % 2 ^ 13 ≡ 0x78) ⊎ (len ≡ 65536)
        mark enough (inl h) = inl (ap (λ (xs : List ℕ). fp xs % 2 ^ 13) (sym (window_known content s len window p.size enough p.full p.recent)) ∙ h)
        mark enough (inr h) = let size : s + len ≡ length content = p.size in inr (omega arith)

    none : IsOpen content s
    none e m = elim (cases_lt e (length content)) [ inl h ↦ p.before e h m | inr h ↦ here (let w : e ≤ length content = m.within in let same : e ≡ length content = omega arith in subst (λ (x : ℕ). MayEnd content s x) same m) ]
