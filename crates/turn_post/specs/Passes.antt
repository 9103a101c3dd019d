-- What a clause reads of a post, of a pass and of a turn.
use Rattle.std.specs.Prelude.{◌≡◌, ℕ, ◌≤◌, List, [], ◌∷◌, length, None}
use mathlib.Core.List.{IsPrefix}
use Rattle.atomic_table.specs.Seated.{TableId}
use Rattle.turn_post.specs.declared.journaled.Journaled.{Ghosts}
use Rattle.turn_post.specs.declared.post.Post.{Post}
use Rattle.turn_post.specs.declared.post.Pass.{Pass}
use Rattle.turn_post.specs.declared.post.Turn.{Turn}
use Rattle.turn_post.specs.declared.rule.Stage.TheVariants.{Holds}

module _ {V E : Type 0} where
  -- which post it is
  abbrev pub post_id : Post V E → TableId
  post_id p = p.table.shared.table_id

  -- of which post the turn is
  abbrev pub turn_id : Turn V E → TableId
  turn_id t = t.seat.table_id

  -- the journal that the turn found
  abbrev pub found : Turn V E → List E
  found t = t.seat.me.0.seen

  -- the value as it is now
  abbrev pub value_of : Turn V E → V
  value_of t = t.value

  -- the value is with the turn, whose journal was found to be so long
  abbrev pub IsTurn : Turn V E → Type 0
  IsTurn t = (t.seat.table_id ≡ t.post.now.table.shared.table_id) × (t.seat.me.0.stage ≡ Holds t.ticket) × (t.seat.me.1 ≡ (0, None) ∷ []) × (t.front ≡ length (found t)) × (t.seat.me.0.front ≡ t.front)

  -- it is a turn of this post
  abbrev pub IsTurnOf : Post V E → Turn V E → Type 0
  IsTurnOf p t = IsTurn t × (turn_id t ≡ post_id p)

  -- the turn with another value
  abbrev pub with_value : Turn V E → V → Turn V E
  with_value t v = record t { value = v }

module _ {V E : Type 0} {g : Ghosts V E} where
  -- of which post the pass is
  abbrev pub pass_id : Pass V E g → TableId
  pass_id p = p.seat.table_id

  -- what the pass has seen of the journal
  abbrev pub seen : Pass V E g → List E
  seen p = p.seat.me.0.seen

  -- of how many entries the pass knows
  abbrev pub known : Pass V E g → ℕ
  known p = p.seat.me.0.front

  -- it is a pass of this post
  abbrev pub IsPassOf : Post V E → Pass V E g → Type 0
  IsPassOf p q = pass_id q ≡ post_id p

  -- a pass of this post that has seen all that the other had, and knows of no fewer entries
  abbrev pub Follows : Post V E → Pass V E g → Pass V E g → Type 0
  Follows p old new = IsPassOf p new × IsPrefix (seen old) (seen new) × (known old ≤ known new)
