use Rattle.std.proofs.Common.{List, ℕ, ◌++◌, string_bytes}
use Rattle.trace_generator.specs.Lines.{header, file_lines, join_lines, opening_lines}
use Rattle.trace_generator.proofs.Texts.{on_ok, then_text}
use Rattle.trace_generator.proofs.text.put_opening.Goals as goal

pub returns : goal.returns
unfolding opening_lines
returns c =
    let old : List ℕ = string_bytes c.args.out.now in
    let files : List (List ℕ) = file_lines c.args.seed 8 in
    let two = then_text old (string_bytes c.put_header.new.out) (string_bytes c.put_files.new.out) header files c.in_ok-put_header.ensures c.in_ok-put_files.ensures in
    on_ok c.put_joins.result _ _ (then_text old (string_bytes c.put_files.new.out) (string_bytes c.put_joins.new.out) (header ++ files) (join_lines 4) two) c.put_joins.ensures
