use Rattle.std.proofs.Common.{subst}
use Rattle.server_core.specs.declared.event.Event.TheVariants as event
use Rattle.wire.specs.Parse.{IsParsed, parse_of}
use Rattle.server_held.specs.Held.{server_waits}
use Rattle.server_held.proofs.Hearing.{heard_so}
use Rattle.server_held.proofs.Growing.{took_grows}
use Rattle.server_held.proofs.held.SharedServerTurns.heard.Goals as goal

pub returns-in-Ok : goal.returns-in-Ok
returns-in-Ok g c =
    record {
      heard = λ is. heard_so g.S.Store.records g.S.Store.faults c.args.self.now c.args.session c.args.now c.args.bytes.now c.in-Ok.message c.take_message.result c.take_message.new.self (subst (λ r. IsParsed r (parse_of server_waits c.args.bytes.now)) c.in-Ok.is is) c.take_message.ensures;
      grows = took_grows g.S.Store.records g.S.Store.faults c.args.self.now (event.Got c.args.session c.in-Ok.message c.args.now) c.take_message.result c.take_message.new.self c.take_message.ensures;
    }

pub returns-in-Err : goal.returns-in-Err
returns-in-Err g c =
    record {
      heard = λ is. c.hear_again.ensures.heard (subst (λ r. IsParsed r (parse_of server_waits c.args.bytes.now)) c.in-Err.is is);
      grows = c.hear_again.ensures.grows;
    }
