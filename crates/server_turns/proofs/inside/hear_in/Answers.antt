use Rattle.std.proofs.Common.{sym, ap, subst}
use Rattle.server_law.specs.Growth.{MayAdd}
use Rattle.wire.specs.Parse.{IsParsed, parse_of}
use Rattle.server_held.specs.Held.{server_waits}
use Rattle.server_turns.proofs.inside.hear_in.Goals as goal

pub returns-clause-heard : goal.returns-clause-heard
returns-clause-heard g c = λ is.
    let read = subst (λ r. IsParsed r (parse_of server_waits c.args.bytes.now)) (sym (ap (λ p. p.0) c.into_parts-read.ensures)) is in
    let heard = c.heard-heard.ensures.heard read in
    subst (λ old. g.H.Turns.hears old c.args.session c.args.bytes.now c.args.now c.heard-heard.result c.prepare-2.new.self) c.prepare.ensures (subst (λ new. g.H.Turns.hears c.prepare.new.self c.args.session c.args.bytes.now c.args.now c.heard-heard.result new) (sym c.prepare-2.ensures) heard)

pub returns-clause-grows : goal.returns-clause-grows
returns-clause-grows g c = subst (λ old. MayAdd (g.H.Journaled.journal old) (g.H.Journaled.journal c.prepare-2.new.self)) c.prepare.ensures (subst (λ new. MayAdd (g.H.Journaled.journal c.prepare.new.self) (g.H.Journaled.journal new)) (sym c.prepare-2.ensures) c.heard-heard.ensures.grows)
