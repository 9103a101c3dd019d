-- A window over each client's notes, by which a later event of it is judged without reading all of
-- them. Of two notes the one whose server reading is less ahead of its client reading breaks the rule
-- with a later event wherever the other does, if it is within the term, as the later of the two is
-- wherever the earlier is.
use Rattle.std.specs.Prelude.{◌≡◌, ℕ, ◌+◌, ◌-◌, ◌<◌, ◌≤◌, List, [], ◌∷◌, length, slice_get, slice_index_or, Some, All, Any, AllPairs, ◌≢◌, ◌⊎◌, ◌++◌}
use Rattle.std.specs.List.{AllWithin}
use Rattle.clock_rule.specs.declared.rule.Note.{Note}
use Rattle.clock_rule.specs.declared.window.Window.{Window}
use Rattle.clock_rule.specs.Clocks.{notes_of, last_reading}

-- the one note isn't before the other, and its server reading is no further ahead
abbrev pub Covers : Note → Note → Type 0
Covers one other =
    (other.reading ≤ one.reading) × (one.server + other.reading ≤ other.server + one.reading)

-- the earlier note isn't after the later, and its server reading is no further ahead
abbrev pub Rises : Note → Note → Type 0
Rises earlier later =
    (earlier.reading ≤ later.reading)
    × (earlier.server + later.reading ≤ later.server + earlier.reading)

-- the first so many notes are out of reach of an event at this reading
abbrev pub ArePassed : ℕ → List Note → ℕ → ℕ → Type 0
ArePassed term least passed reading =
    AllWithin (λ m. term < reading - m.reading) least 0 passed

-- an event at this reading reaches back to this place
pub record IsReach (term : ℕ) (least : List Note) (at reading : ℕ) : Type 0 where
  pub within : at ≤ length least
  pub passed : ArePassed term least at reading
  pub first : (d : Note) → at < length least → reading - (slice_index_or least at d).reading ≤ term

-- the least notes of a client whose last reading this is
pub record AreLeast (least : List Note) (last : ℕ) : Type 0 where
  pub rise : AllPairs Rises least
  pub until : All (λ m. m.reading ≤ last) least

-- what is kept of a client fits what was noted
pub record Fits (term : ℕ) (notes : List Note) (window : Window) : Type 0 where
  pub last : window.last ≡ last_reading window.client notes
  pub least : AreLeast window.least.items window.last
  pub covered : All (λ n. Any (λ m. Covers m n) window.least.items) (notes_of window.client notes)
  pub within : window.passed ≤ length window.least.items
  pub passed : ArePassed term window.least.items window.passed window.last

-- this client's window stands there
abbrev pub IsWindowOf : List Window → ℕ → ℕ → Type 0
IsWindowOf windows at client = (w : Window) × (slice_get windows at ≡ Some w) × (w.client ≡ client)

-- none of the windows is this client's
abbrev pub HasNoWindow : List Window → ℕ → Type 0
HasNoWindow windows client = (i : ℕ) (w : Window) → slice_get windows i ≡ Some w → w.client ≢ client

-- a window of a client without notes
pub record IsFresh (window : Window) (whose : ℕ) : Type 0 where
  pub client : window.client ≡ whose
  pub last : window.last ≡ 0
  pub passed : window.passed ≡ 0
  pub least : window.least.items ≡ []

-- the windows are the same, but for a fresh one at the end where the client had none
abbrev pub IsWithWindow : List Window → List Window → ℕ → Type 0
IsWithWindow old new client =
    (new ≡ old) ⊎ (HasNoWindow old client × ((w : Window) × IsFresh w client × (new ≡ old ++ w ∷ [])))

-- each client that was noted has one window, which fits
pub record AreKept (term : ℕ) (notes : List Note) (windows : List Window) : Type 0 where
  pub fit : (i : ℕ) (w : Window) → slice_get windows i ≡ Some w → Fits term notes w
  pub apart : (i j : ℕ) (a b : Window) → slice_get windows i ≡ Some a → slice_get windows j ≡ Some b → a.client ≡ b.client → i ≡ j
  pub rest : (c : ℕ) → HasNoWindow windows c → notes_of c notes ≡ []
