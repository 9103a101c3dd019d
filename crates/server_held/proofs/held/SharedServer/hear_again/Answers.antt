use Rattle.std.proofs.Common.{sym, subst, ◌∙◌}
use Rattle.server_core.specs.declared.event.Event.TheVariants as event
use Rattle.wire.specs.Parse.{IsParsed, parse_of}
use Rattle.server_held.specs.Held.{waits_for}
use Rattle.server_held.proofs.Hearing.{heard_ok, heard_err, unread_so}
use Rattle.server_held.proofs.Growing.{took_grows, unread_grows}
use Rattle.server_held.proofs.held.SharedServer.hear_again.Goals as goal

pub returns-then-not-is_unknown : goal.returns-then-not-is_unknown
returns-then-not-is_unknown g c =
    record {
      heard = λ is. unread_so g.S.Store.records g.S.Store.faults c.args.self.now c.args.session c.args.now c.args.bytes.now c.args.error c.unread.result c.unread.new.self (sym c.is_unknown.ensures ∙ c.if-not-is_unknown.true) is c.unread.ensures;
      grows = unread_grows g.S.Store.records g.S.Store.faults c.args.self.now c.args.session c.args.error c.unread.result c.unread.new.self c.unread.ensures;
    }

pub returns-in-Ok : goal.returns-in-Ok
returns-in-Ok g c =
    record {
      heard = λ is. heard_ok g.S.Store.records g.S.Store.faults c.args.self.now c.args.session c.args.now (parse_of (waits_for c.args.self.now c.args.session) c.args.bytes.now) c.in-Ok.message c.take_message.result c.take_message.new.self (subst (λ r. IsParsed r (parse_of (waits_for c.args.self.now c.args.session) c.args.bytes.now)) c.in-Ok.is c.read.ensures) c.take_message.ensures;
      grows = took_grows g.S.Store.records g.S.Store.faults c.args.self.now (event.Got c.args.session c.in-Ok.message c.args.now) c.take_message.result c.take_message.new.self c.take_message.ensures;
    }

pub returns-in-Err : goal.returns-in-Err
returns-in-Err g c =
    record {
      heard = λ is. heard_err g.S.Store.records g.S.Store.faults c.args.self.now c.args.session c.args.now (parse_of (waits_for c.args.self.now c.args.session) c.args.bytes.now) c.in-Err.error c.unread-in-Err.result c.unread-in-Err.new.self (subst (λ r. IsParsed r (parse_of (waits_for c.args.self.now c.args.session) c.args.bytes.now)) c.in-Err.is c.read.ensures) c.unread-in-Err.ensures;
      grows = unread_grows g.S.Store.records g.S.Store.faults c.args.self.now c.args.session c.in-Err.error c.unread-in-Err.result c.unread-in-Err.new.self c.unread-in-Err.ensures;
    }
