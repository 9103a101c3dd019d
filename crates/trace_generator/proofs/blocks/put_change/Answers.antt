use Rattle.std.proofs.Common.{List, ℕ, [], ◌∷◌, ◌++◌, string_bytes, codes}
use Rattle.trace_generator.specs.Lines.{do_line, on_file, write_command, pass_line, all_lines, settle_line}
use Rattle.trace_generator.proofs.Texts.{on_ok, then_text}
use Rattle.trace_generator.proofs.blocks.put_change.Goals as goal

-- the lines are written one after the other
pub returns : goal.returns
returns c =
    let old : List ℕ = string_bytes c.args.out.now in
    let a : List (List ℕ) = do_line c.args.client c.args.time (write_command c.args.file c.args.offset c.args.block) ∷ [] in
    let b : List (List ℕ) = do_line c.args.client c.args.time (on_file (codes "close") c.args.file) ∷ [] in
    let d : List (List ℕ) = pass_line c.args.client 40 c.args.time ∷ [] in
    let e : List (List ℕ) = all_lines c.args.time in
    let f : List (List ℕ) = settle_line c.args.time ∷ [] in
    let g : List (List ℕ) = pass_line c.args.client 2 c.args.time ∷ [] in
    let two = then_text old (string_bytes c.put_write.new.out) (string_bytes c.put_do.new.out) a b c.in_ok-put_write.ensures c.in_ok-put_do.ensures in
    let three = then_text old (string_bytes c.put_do.new.out) (string_bytes c.put_pass.new.out) (a ++ b) d two c.in_ok-put_pass.ensures in
    let four = then_text old (string_bytes c.put_pass.new.out) (string_bytes c.put_all.new.out) (a ++ b ++ d) e three c.in_ok-put_all.ensures in
    let five = then_text old (string_bytes c.put_all.new.out) (string_bytes c.put_settle.new.out) (a ++ b ++ d ++ e) f four c.in_ok-put_settle.ensures in
    on_ok c.put_pass-2.result _ _ (then_text old (string_bytes c.put_settle.new.out) (string_bytes c.put_pass-2.new.out) (a ++ b ++ d ++ e ++ f) g five) c.put_pass-2.ensures
