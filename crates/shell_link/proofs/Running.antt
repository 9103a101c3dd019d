-- What goes out, and what is heard, of a command that runs.
use Rattle.std.proofs.Common.{◌≡◌, Option, None, inl, inr, sym, subst}
use Rattle.command_text.specs.declared.command.Command.{Command}
use Rattle.client_state.specs.Ending.{cut}
use Rattle.client_state.specs.State.{State}
use Rattle.client_state.specs.declared.step.Ended.{Ended}
use Rattle.shell_link.specs.Asking.{kept, Sends, Runs, Runs.loses}
use Rattle.shell_link.specs.declared.hearing.Heard.{Heard}

-- what was said went out, or the connection is lost
pub sent : (old : State) (c : Command) (h : Heard) (s : State) (e : Option Ended) (t : State) (f : Option Ended) → Runs old c h s e → Sends s e t f → Runs old c h t f
sent old c h s e t f r (inl k) = subst (λ (x : Option Ended). Runs old c h t x) (sym k.1) (subst (λ (x : State). Runs old c h x e) (sym k.0) r)
sent old c h s e t f r (inr k) = subst (λ (x : Option Ended). Runs old c h t x) (sym k.1) (subst (λ (x : State). Runs old c h x (kept e (cut s).1.ended)) (sym k.0) (loses h s e r))

-- the connection is lost, and nothing was known to have ended
pub lost : (old : State) (c : Command) (h : Heard) (s t : State) (f : Option Ended) → Runs old c h s None → t ≡ (cut s).0 → f ≡ kept None (cut s).1.ended → Runs old c h t f
lost old c h s t f r a b = sent old c h s None t f r (inr (a, b))
