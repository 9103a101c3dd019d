use Rattle.std.proofs.Common.{ap, ◌∙◌}
use Rattle.std.specs.Prelude.{ℕ}
use Rattle.callback_core.specs.Waits.{bytes_of}
use Rattle.server_core.specs.State.{entries_held}
use Rattle.server_core.proofs.Needs.{made_entries, made_bytes}
use Rattle.server_core.proofs.waiting.held.Goals as goal

pub returns : goal.returns
returns c =
    let waits = c.args.waits.now.waits in
    ap (λ (p : ℕ × ℕ). record { entries = p.0; bytes = p.1 }) c.sizes-entries.ensures
    ∙ ap (λ (n : ℕ). record { entries = n; bytes = bytes_of waits }) (made_entries waits c.requires)
    ∙ ap (λ (n : ℕ). record { entries = entries_held waits; bytes = n }) (made_bytes waits c.requires)
