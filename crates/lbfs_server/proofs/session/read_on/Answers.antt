use Rattle.std.specs.Prelude.{Err}
use Rattle.std.proofs.Common.{refl, sym, ap, ◌∙◌, subst, arith}
use Rattle.lbfs_server.specs.Heard.{AnswersRecord, HearsAll}
use Rattle.lbfs_server.proofs.Following.{follows_self, follows_trans}
use Rattle.lbfs_server.proofs.Giving.{Taken, taken_none, taken_more, taken_spoilt}
use Rattle.lbfs_server.proofs.Hearing.{hears_none, hears_more, hears_at_end, starved}
use Rattle.lbfs_server.proofs.session.read_on.Goals as goal

pub loop-turn-init : goal.loop-turn-init
loop-turn-init g c = record {
  pass = follows_self c.args.shared.now.post c.args.pass c.requires;
  taken = subst (λ k. Taken (g.L.Link.left c.args.link.now) (g.L.Link.left c.args.link.now) k) (sym c.in-Ok.ensures) (taken_none (g.L.Link.left c.args.link.now));
  heard = subst (λ k. HearsAll g.H.Journaled.journal g.H.Turns.hears g.H.Turns.gives c.args.session (g.L.Link.left c.args.link.now) (g.L.Link.left c.args.link.now) k c.args.pass c.args.pass) (sym c.in-Ok.ensures) (hears_none g.H.Journaled.journal g.H.Turns.hears g.H.Turns.gives c.args.session (g.L.Link.left c.args.link.now) c.args.pass);
  out = refl;
  later = omega arith;
}

pub loop-turn-preserved : goal.loop-turn-preserved
loop-turn-preserved g c =
    let given = c.in-Ok-next.ensures.given in
    record {
      pass = follows_trans c.args.shared.now.post c.args.pass c.loop-turn.pass c.hear_beside-next.result.0 c.loop-turn.invariant.pass c.hear_beside-next.ensures.pass;
      taken = taken_more (g.L.Link.left c.args.link.now) (g.L.Link.left c.loop-turn.link) (g.L.Link.left c.next-in-loop-turn.new.link) c.loop-turn.inbox c.next-in-loop-turn.new.self given.0 _ c.loop-turn.invariant.taken given.1 given.2;
      heard = hears_more g.H.Journaled.journal g.H.Turns.hears g.H.Turns.gives c.args.session (g.L.Link.left c.args.link.now) (g.L.Link.left c.loop-turn.link) (g.L.Link.left c.next-in-loop-turn.new.link) c.loop-turn.inbox c.next-in-loop-turn.new.self given.0 _ c.args.pass c.loop-turn.pass c.hear_beside-next.result.0 c.loop-turn.invariant.heard given.1 given.2
          (subst (λ bytes. AnswersRecord g.H.Journaled.journal g.H.Turns.hears g.H.Turns.gives c.args.session bytes c.loop-turn.pass c.hear_beside-next.result.0) c.as_slice-bytes.ensures c.hear_beside-next.ensures.answered);
      out = c.in-Ok-next.ensures.out ∙ c.loop-turn.invariant.out;
      later = omega (arith, c.loop-turn.invariant.later, c.in-Ok-next.ensures.later);
    }

pub returns-in-Err-next-clause-spoilt : goal.returns-in-Err-next-clause-spoilt
returns-in-Err-next-clause-spoilt g c = λ is.
    let spoilt = c.in-Err-next.ensures.spoilt (ap Err is) in
    taken_spoilt (g.L.Link.left c.args.link.now) (g.L.Link.left c.loop-turn.link) (g.L.Link.left c.next-in-loop-turn.new.link) c.loop-turn.inbox c.next-in-loop-turn.new.self spoilt.0 c.loop-turn.invariant.taken spoilt.1 spoilt.2 spoilt.4

pub returns-in-Err-next-clause-ended : goal.returns-in-Err-next-clause-ended
returns-in-Err-next-clause-ended g c = λ is. (c.in-Err-next.ensures.ended (ap Err is)).3

pub returns-in-Err-next-clause-failed : goal.returns-in-Err-next-clause-failed
returns-in-Err-next-clause-failed g c = λ is. let rose = (c.in-Err-next.ensures.failed (ap Err is)).3 in omega (arith, rose, c.loop-turn.invariant.later)

pub returns-in-Err-next-clause-out : goal.returns-in-Err-next-clause-out
returns-in-Err-next-clause-out g c = c.in-Err-next.ensures.out ∙ c.loop-turn.invariant.out

pub returns-in-Err-next-clause-later : goal.returns-in-Err-next-clause-later
returns-in-Err-next-clause-later g c = omega (arith, c.loop-turn.invariant.later, c.in-Err-next.ensures.later)

pub returns-in-Err-clause-heard : goal.returns-in-Err-clause-heard
returns-in-Err-clause-heard g c = starved

pub returns-in-Err-next-clause-heard : goal.returns-in-Err-next-clause-heard
returns-in-Err-next-clause-heard g c = hears_at_end g.H.Journaled.journal g.H.Turns.hears g.H.Turns.gives c.args.session (g.L.Link.left c.args.link.now) (g.L.Link.left c.loop-turn.link) (g.L.Link.left c.next-in-loop-turn.new.link) c.loop-turn.inbox c.next-in-loop-turn.new.self c.in-Err-next.end c.args.pass c.loop-turn.pass c.loop-turn.invariant.heard
    (λ is. c.in-Err-next.ensures.ended (ap Err is)) (λ is. c.in-Err-next.ensures.spoilt (ap Err is))
