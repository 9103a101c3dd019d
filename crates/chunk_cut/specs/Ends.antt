-- Where the chunks of a content end (LBFS paper, SOSP 2001, section 3.1, with a least and a most
-- size): from a cut at s the next end is the least e with s + 2048 ≤ e ≤ s + 65536, within the
-- content, such that the 48 bytes before e are marked or e is s + 65536. Where there is none, the
-- end is that of the content. A content of no bytes has no chunk.
use Rattle.std.specs.Prelude.{◌≡◌, ℕ, ◌+◌, ◌-◌, ◌%◌, ◌^◌, ◌<◌, ◌≤◌, ◌⊎◌, List, [], ◌∷◌, length, take, drop}
use Rattle.limits.specs.declared.TheConstants.{CHUNK_LEAST, CHUNK_MOST, WINDOW}
use Rattle.rabin_window.specs.Fingerprint.{fp}

-- the window of 48 bytes that ends before e
abbrev pub window_before : List ℕ → ℕ → List ℕ
window_before content e = take WINDOW (drop (e - WINDOW) content)

-- the low 13 bits of its fingerprint are 0x78
abbrev pub IsMarked : List ℕ → Type 0
IsMarked window = fp window % 2 ^ 13 ≡ 0x78

-- a chunk that begins at s may end at e
pub record MayEnd (content : List ℕ) (s e : ℕ) : Type 0 where
  pub least : s + CHUNK_LEAST ≤ e
  pub most : e ≤ s + CHUNK_MOST
  pub within : e ≤ length content
  pub mark : IsMarked (window_before content e) ⊎ (e ≡ s + CHUNK_MOST)

-- a chunk that begins at s may end nowhere in the content
abbrev pub IsOpen : List ℕ → ℕ → Type 0
IsOpen content s = (e : ℕ) → ¬ (MayEnd content s e)

-- e is the least place where a chunk that begins at s may end
pub record IsLeastEnd (content : List ℕ) (s e : ℕ) : Type 0 where
  pub may : MayEnd content s e
  pub first : (d : ℕ) → MayEnd content s d → e ≤ d

-- the chunk that begins at s ends at e
abbrev pub IsNextEnd : List ℕ → ℕ → ℕ → Type 0
IsNextEnd content s e = IsLeastEnd content s e ⊎ (IsOpen content s × (e ≡ length content))

-- these are the ends of all chunks from the cut at s on
abbrev pub AreEndsFrom : List ℕ → ℕ → List ℕ → Type 0
AreEndsFrom content s [] = s ≡ length content
AreEndsFrom content s (e ∷ ends) = (s < length content) × IsNextEnd content s e × AreEndsFrom content e ends

-- these are the ends of the chunks of the content
abbrev pub AreEnds : List ℕ → List ℕ → Type 0
AreEnds content ends = AreEndsFrom content 0 ends
