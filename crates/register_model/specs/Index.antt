-- The changes of a history as marks, which stand in two orders. What is promised stands in Register.antt;
-- this is only how the fast test goes about it.
use Rattle.std.specs.Prelude.{◌≡◌, ℕ, ◌+◌, ◌<◌, ◌≤◌, List, [], ◌∷◌, length, Bool, true, false, ◌&&◌, ◌||◌, ◌==◌, not, nat_lt, Option, Some, None, slice_index_or}
use Rattle.std.specs.List.{list_any, cons_option}
use Rattle.std.specs.List.Sorted.{IsNonDecreasingBy}
use Rattle.std.specs.Option.{option_map_or}
use Rattle.register_model.specs.declared.op.Op.{Op}
use Rattle.register_model.specs.declared.index.Mark.{Mark}
use Rattle.register_model.specs.Register.{changes}

abbrev pub mark_at : Bool → ℕ → ℕ → Option ℕ → Option Mark
mark_at true file place (Some p) = Some (record { file = file; point = p; place = place })
mark_at true file place None = None
mark_at false file place point = None

-- the mark of an operation that stands at this place: none where it changed nothing
abbrev pub mark_of : ℕ → Op → Option Mark
mark_of place o = mark_at (changes o.word) o.file place o.point

-- the marks of operations, the first of them at this place
abbrev pub marks_from : ℕ → List Op → List Mark
marks_from place [] = []
marks_from place (o ∷ os) = cons_option (mark_of place o) (marks_from (place + 1) os)

-- the same marks as the operations have, in whatever order
abbrev pub HasMarks : List Op → List Mark → Type 0
HasMarks ops ms = (test : Mark → Bool) → list_any test ms ≡ list_any test (marks_from 0 ops)

-- by file, and for one file by point
pub record RisesByFile (ms : List Mark) : Type 0 where
  pub files : IsNonDecreasingBy (λ m. m.file) ms
  pub points : (i j : ℕ) (d : Mark) → i ≤ j → j < length ms → (slice_index_or ms i d).file ≡ (slice_index_or ms j d).file → (slice_index_or ms i d).point ≤ (slice_index_or ms j d).point

-- the marks of operations in both orders
pub record IsIndexOf (ops : List Op) (by_point by_file : List Mark) : Type 0 where
  pub same_points : HasMarks ops by_point
  pub points_rise : IsNonDecreasingBy (λ m. m.point) by_point
  pub same_files : HasMarks ops by_file
  pub files_rise : RisesByFile by_file

-- another change than that at the place has the point
abbrev pub is_clash : ℕ → ℕ → Mark → Bool
is_clash point place m = (m.point == point) && not (m.place == place)

-- no other change has the point of the operation at the place
abbrev pub is_alone : List Mark → ℕ → Option ℕ → Bool
is_alone ms place point = option_map_or (λ p. not (list_any (is_clash p place) ms)) point true

-- the same of all operations, the first of them at this place
abbrev pub all_alone : List Mark → ℕ → List Op → Bool
all_alone ms place [] = true
all_alone ms place (o ∷ os) = is_alone ms place o.point && all_alone ms (place + 1) os

-- ---- the last mark below a moment

abbrev pub is_mark : ℕ → ℕ → ℕ → Mark → Bool
is_mark file point place m = (m.file == file) && (m.point == point) && (m.place == place)

-- of a lower file, or of this file and below the moment
abbrev pub is_lower : ℕ → ℕ → Mark → Bool
is_lower file moment m = nat_lt m.file file || ((m.file == file) && nat_lt m.point moment)

abbrev pub is_below : ℕ → ℕ → Mark → Bool
is_below file moment m = (m.file == file) && nat_lt m.point moment

abbrev pub is_between : ℕ → ℕ → ℕ → Mark → Bool
is_between file point moment m = (m.file == file) && nat_lt point m.point && nat_lt m.point moment

-- a change of the file with the greatest point below the moment stands at the place, or there is none
abbrev pub IsLastBelow : List Mark → ℕ → ℕ → Option ℕ → Type 0
IsLastBelow ms file moment None = list_any (is_below file moment) ms ≡ false
IsLastBelow ms file moment (Some place) = (point : ℕ) × (point < moment) × (list_any (is_mark file point place) ms ≡ true) × (list_any (is_between file point moment) ms ≡ false)
