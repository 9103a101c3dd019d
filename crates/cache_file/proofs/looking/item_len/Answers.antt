use Rattle.std.proofs.Common.{◌∙◌, ap, sym, Some, true, false}
use Rattle.cache_file.proofs.Looks.{counted, has_none, has_some, has_0}
use Rattle.cache_file.proofs.looking.item_len.Goals as goal
use Rattle.cache_file.proofs.looking.item_len.Goals.{else-len-gt0-via-then-len-gt0+else-are_there, else-len-gt0-via-else-len-gt0}

pub slice_bounds-are_there-count : goal.slice_bounds-are_there-count
slice_bounds-are_there-count c = (counted c.args.bytes.now c.in-Ok.len c.count.new.self (rw c.new-reader.ensures at c.in-Ok.ensures.gives)).0

pub slice_bounds-are_there-start : goal.slice_bounds-are_there-start
slice_bounds-are_there-start c = (counted c.args.bytes.now c.in-Ok.len c.count.new.self (rw c.new-reader.ensures at c.in-Ok.ensures.gives)).0

pub returns-then-are_there : goal.returns-then-are_there
returns-then-are_there c = ap Some c.whole_len.ensures ∙ sym (has_some c.args.bytes.now c.in-Ok.len c.count.new.self true (rw c.new-reader.ensures at c.in-Ok.ensures.gives) c.if-len-gt0.true (sym (c.are_there.ensures 0 4) ∙ c.if-are_there.true))

pub returns-else-len-gt0 : goal.returns-else-len-gt0
returns-else-len-gt0 c = elim c.else-len-gt0.branch [
  | else-len-gt0-via-then-len-gt0+else-are_there w ↦
      sym (has_some c.args.bytes.now c.in-Ok.len c.count.new.self false (rw c.new-reader.ensures at c.in-Ok.ensures.gives) w.if-len-gt0.true (sym (w.are_there.ensures 0 4) ∙ w.if-are_there.false))
  | else-len-gt0-via-else-len-gt0 w ↦ sym (has_0 c.args.bytes.now c.in-Ok.len c.count.new.self (rw c.new-reader.ensures at c.in-Ok.ensures.gives) w.if-len-gt0.false)
]

pub returns-in-Err : goal.returns-in-Err
returns-in-Err c = sym (has_none c.args.bytes.now c.in-Err.field-0 (rw c.new-reader.ensures at c.in-Err.ensures.gives) c.in-Err.ensures.no_memory)
