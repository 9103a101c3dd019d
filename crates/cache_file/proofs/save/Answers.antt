use Rattle.std.proofs.Common.{◌∙◌, ap, arith}
use Rattle.std.specs.List.{All}
use Rattle.cache_file.specs.Items.{IsItem, items}
use Rattle.cache_file.specs.Saved.{saved}
use Rattle.cache_file.proofs.Chunks.{saved_items}
use Rattle.cache_file.proofs.Reading.{found, spelled_again}
use Rattle.cache_file.proofs.save.Goals as goal

pub returns-clause-spelled : goal.returns-clause-spelled
returns-clause-spelled c = c.done.ensures ∙ rw (c.new-saving.ensures.0, c.new-saving.ensures.1, c.new-saving.ensures.2, c.as_slice.ensures.value, c.in_ok-stood.ensures) at c.in_ok-all.ensures

pub returns-clause-again : goal.returns-clause-again
returns-clause-again c =
    let is = c.done.ensures ∙ rw (c.new-saving.ensures.0, c.new-saving.ensures.1, c.new-saving.ensures.2, c.as_slice.ensures.value, c.in_ok-stood.ensures) at c.in_ok-all.ensures in
    let each : All IsItem (items c.args.old.now) = (found c.args.old.now (λ i. omega (arith, c.type_inv.old i))).each in
    ap items is ∙ spelled_again (saved c.args.cache.now (items c.args.old.now)) (saved_items (record { found = c.ends_law.ensures.found; chunks = c.ends_law.ensures.chunks }) c.args.cache.now (items c.args.old.now) each)
