use Rattle.std.proofs.Common.{ℕ, List, get_or, rules, sym, ◌∙◌, ap}
use Rattle.std.proofs.lemmas.List.{take_rest}
use Rattle.log_store.specs.Entries.{word_in, task_in}
use Rattle.log_store.proofs.Coding.{line_made, line_of_no_task, line_of_no_record, line_too_short}
use Rattle.log_store.proofs.entry.line_in.Goals as goal

pub returns-then-bytes-lt-LINE_FRONT : goal.returns-then-bytes-lt-LINE_FRONT
returns-then-bytes-lt-LINE_FRONT c = line_too_short c.args.bytes.now c.if-bytes-lt-LINE_FRONT.true

pub returns-in_default : goal.returns-in_default
returns-in_default c = line_of_no_record c.args.bytes.now c.word.result c.if-bytes-lt-LINE_FRONT.false (sym c.in_default.is ∙ c.which_in.ensures) (c.word.ensures ∙ ap word_in (take_rest c.args.bytes.now 2))

pub returns-in_err-task : goal.returns-in_err-task
returns-in_err-task c = search rules

pub returns-in-Some-2 : goal.returns-in-Some-2
returns-in-Some-2 c = line_made c.args.bytes.now c.in-Some.which c.in-Some-2.task c.word.result c.word-count.result c.if-bytes-lt-LINE_FRONT.false c.in-Some.ensures (c.word.ensures ∙ ap word_in (take_rest c.args.bytes.now 2))
    (sym c.in-Some-2.is ∙ c.in_ok-task.ensures ∙ ap (λ (xs : List ℕ). task_in (get_or c.args.bytes.now 0 0) c.word-count.result xs) (take_rest c.args.bytes.now 18)) (c.word-count.ensures ∙ ap word_in (take_rest c.args.bytes.now 10))

pub returns-in-None : goal.returns-in-None
returns-in-None c = line_of_no_task c.args.bytes.now c.in-Some.which c.word.result c.word-count.result c.if-bytes-lt-LINE_FRONT.false c.in-Some.ensures (c.word.ensures ∙ ap word_in (take_rest c.args.bytes.now 2))
    (sym c.in-None.is ∙ c.in_ok-task.ensures ∙ ap (λ (xs : List ℕ). task_in (get_or c.args.bytes.now 0 0) c.word-count.result xs) (take_rest c.args.bytes.now 18)) (c.word-count.ensures ∙ ap word_in (take_rest c.args.bytes.now 10))
