use Rattle.std.proofs.Common.{◌∙◌, ap, ℕ, List}
use Rattle.std.specs.BTreeMap.{is_at}
use Rattle.std.specs.Map.{remove_entry}
use Rattle.std.specs.Ordering.{nat_cmp}
use Rattle.temp_files.specs.Temps.{Temp, without_temp}
use Rattle.temp_files.proofs.temps.take_whole.Goals as goal

pub returns-clause-ended : goal.returns-clause-ended
returns-clause-ended c =
    c.remove.ensures.entries
    ∙ ap (λ (k : ℕ). remove_entry (is_at (nat_cmp k)) c.share_of.new.temps.entries) c.key_of.ensures
    ∙ ap (λ (es : List (ℕ × Temp)). without_temp es c.args.session c.args.fd) c.share_of.ensures.same
