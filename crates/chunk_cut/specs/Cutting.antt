-- What a cutter knows of the bytes that it was fed.
use Rattle.std.specs.Prelude.{◌≡◌, ℕ, ◌+◌, ◌-◌, ◌≤◌, List, length, drop}
use Rattle.sha1.specs.Sha1.{Holds}
use Rattle.chunk_cut.specs.Ends.{IsOpen}
use Rattle.chunk_cut.specs.Search.{open_at}
use Rattle.chunk_cut.specs.declared.cutter.Cutter.{Cutter}

-- how many bytes it was fed
abbrev pub fed : Cutter → ℕ
fed cutter = cutter.start + cutter.len

-- the window ends with the bytes since place 2000 of the chunk under way, which has so many bytes.
-- No end is nearer than 2048, and a window has 48 bytes, so it needs none before
abbrev pub IsRecent : List ℕ → ℕ → List ℕ → Type 0
IsRecent content len window = (k : ℕ) → k ≤ 48 → k + 2000 ≤ len → drop (48 - k) window ≡ drop (length content - k) content

-- the chunk that begins at s has so many bytes at the end of the content, and goes on
pub record IsUnderWay (content : List ℕ) (s len : ℕ) (window : List ℕ) : Type 0 where
  pub size : s + len ≡ length content
  pub goes_on : IsOpen content s
  pub full : length window ≡ 48
  pub recent : IsRecent content len window

-- it was fed these bytes
pub record IsFed (cutter : Cutter) (content : List ℕ) : Type 0 where
  pub start : cutter.start ≡ open_at content
  pub under_way : IsUnderWay content cutter.start cutter.len cutter.window
  pub hashed : Holds cutter.hasher (drop cutter.start content)
