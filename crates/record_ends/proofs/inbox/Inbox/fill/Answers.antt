use Rattle.std.proofs.Common.{rules, refl, ◌≡◌, ap, sym, ◌∙◌}
use Rattle.rpc_record.specs.Records.{fed}
use Rattle.record_ends.proofs.lemmas.Coming.{takes_piece}
use Rattle.record_ends.proofs.inbox.Inbox.fill.Goals as goal

pub returns-clause-ok : goal.returns-clause-ok
returns-clause-ok g c =
    let given = c.in_ok-given.ensures.given in
    let unread : c.self.inside.end ≡ c.args.self.now.unread = ap (λ k. k.unread) c.self.view_is in
    let gave : fed c.args.self.now.unread given.0 ≡ (c.take_piece.new.end, c.in_ok-given.given) = ap (λ u. fed u given.0) (sym unread) ∙ given.2 in
    let same : c.from.result.items ≡ c.in_ok-given.given.records = search rules in
    (given.0, given.1, takes_piece c.args.self.now (record { waiting = c.from.result.items; unread = c.take_piece.new.end }) given.0 c.in_ok-given.given c.requires gave same)

pub returns-then-self-clause-ok : goal.returns-then-self-clause-ok
returns-then-self-clause-ok g c = tt

pub returns-then-self-clause-ended : goal.returns-then-self-clause-ended
returns-then-self-clause-ended g c = λ h. cc

pub returns-then-self-clause-failed : goal.returns-then-self-clause-failed
returns-then-self-clause-failed g c = λ h. cc

pub returns-then-self-clause-out : goal.returns-then-self-clause-out
returns-then-self-clause-out g c = refl

pub returns-in_err-given-clause-out : goal.returns-in_err-given-clause-out
returns-in_err-given-clause-out g c = c.take_piece.ensures.out

pub returns-in_err-given-clause-later : goal.returns-in_err-given-clause-later
returns-in_err-given-clause-later g c = c.take_piece.ensures.later

pub returns-clause-out : goal.returns-clause-out
returns-clause-out g c = c.take_piece.ensures.out

pub returns-clause-later : goal.returns-clause-later
returns-clause-later g c = c.take_piece.ensures.later
