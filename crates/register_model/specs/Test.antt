-- Legality as a test, an operation at a time. What is promised stands in Register.antt; this is only how
-- the fast test goes about it.
use Rattle.std.specs.Prelude.{ℕ, List, Bool, true, false, ◌&&◌, ◌||◌, not, nat_eq, nat_le, Option, Some, None, is_some, is_none}
use Rattle.std.specs.List.{list_all}
use Rattle.std.specs.Option.{option_map_or}
use Rattle.std.specs.Cmp.Lexicographic.{pointwise}
use Rattle.register_model.specs.declared.op.Word.{Word}
use Rattle.register_model.specs.declared.op.Word.TheVariants.{Open, Make}
use Rattle.register_model.specs.declared.op.Op.{Op}
use Rattle.register_model.specs.Register.{History, Value, value_at, changes, succeeded, is_opened, is_stale, is_lost, is_untold}
use Rattle.register_model.specs.Index.{marks_from, all_alone}

abbrev pub is_open : Word → Bool
is_open Open = true
is_open _ = false

abbrev pub is_content : Value → List ℕ → Bool
is_content None value = false
is_content (Some content) value = pointwise nat_eq content value

abbrev pub is_fit : Word → Value → Bool
is_fit Make before = is_none before
is_fit _ before = is_some before

-- right where it has no point
abbrev pub is_right_untouched : Op → Bool
is_right_untouched o = not (is_open o.word && (is_opened o.outcome || is_stale o.outcome)) && not (succeeded o)

abbrev pub is_within : Op → ℕ → Bool
is_within o p = nat_le o.begin p && (is_lost o.outcome || option_map_or (λ e. nat_le p e) o.end true)

abbrev pub is_right_read : Op → Value → Bool
is_right_read o before = not (is_open o.word) || ((not (is_opened o.outcome) || is_content before o.value) && (not (is_stale o.outcome) || is_none before))

abbrev pub is_right_change : Op → Value → Bool
is_right_change o before = not (changes o.word) || (is_fit o.word before && (succeeded o || is_untold o.outcome))

-- right with its point, or without one
abbrev pub is_right : (ℕ → Value) → Op → Option ℕ → Bool
is_right value o None = is_right_untouched o
is_right value o (Some p) = is_within o p && (is_right_read o (value p) && is_right_change o (value p))

abbrev pub are_points_apart : List Op → Bool
are_points_apart ops = all_alone (marks_from 0 ops) 0 ops

abbrev pub are_all_right : History → Bool
are_all_right h = list_all (λ o. is_right (value_at h o.file) o o.point) h.ops
