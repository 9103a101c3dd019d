use Rattle.std.proofs.Common.{refl, sym, ◌∙◌, ap, drop, length}
use Rattle.log_store.proofs.Coding.{no_lines, not_read, split_off, lines_on, too_long}
use Rattle.log_store.proofs.Steps.{if_ok}
use Rattle.log_store.proofs.entry.+add_lines.Goals as goal

pub returns-then-is_empty : goal.returns-then-is_empty
returns-then-is_empty t c = λ edits words is. (refl, no_lines edits c.args.entry.now c.args.lines.now.items is c.if-is_empty.ensures)

pub returns-in_default : goal.returns-in_default
returns-in_default t c = λ edits words is. absurd (not_read edits c.args.entry.now words is c.if-is_empty.ensures (sym c.in_ok-line.ensures ∙ c.in_default.is))

pub returns-in-Some-split_at_checked : goal.returns-in-Some-split_at_checked
returns-in-Some-split_at_checked t c = λ edits words is.
    let b = split_off edits c.args.entry.now c.in-Some.line words is c.if-is_empty.ensures (sym c.in_ok-line.ensures ∙ c.in-Some.is) in
    let left = c.in-Some-split_at_checked.ensures.cases.2 ∙ ap (λ k. drop k c.args.entry.now) c.size_of-size.ensures ∙ b.bytes in
    if_ok c.add_lines.result (λ whole both. (both.0, lines_on c.args.lines.now.items c.push.new.self.items c.add_lines.new.lines.items edits b.rest c.in-Some.line b.lines c.in_ok-push.ensures.items both.1)) (c.add_lines.ensures b.rest b.words left)

pub returns-in-None : goal.returns-in-None
returns-in-None t c = λ edits words is.
    let b = split_off edits c.args.entry.now c.in-Some.line words is c.if-is_empty.ensures (sym c.in_ok-line.ensures ∙ c.in-Some.is) in
    absurd (too_long (length c.args.entry.now) c.size_of-size.result _ c.in-None.ensures.cases c.size_of-size.ensures b.le)
