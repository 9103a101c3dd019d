use Rattle.std.specs.Prelude.{Bool, List, ℕ, Err}
use Rattle.std.proofs.Common.{rules, ap, subst, inl, inr}
use Rattle.lbfs_mount.specs.Heard.{IsHeard, IsHeardSo}
use Rattle.lbfs_mount.proofs.HeardAll.{hears_none, hears_more, hears_till}
use Rattle.lbfs_mount.proofs.hearing.hear_all.Goals as goal

pub loop-turn-init : goal.loop-turn-init
loop-turn-init g c = record { all = hears_none g.D.Turns.hears c.args.connection (g.L.Link.left c.args.link.now) c.args.inbox.now; later = search rules }

pub loop-turn-preserved : goal.loop-turn-preserved
loop-turn-preserved g c =
    let given = c.in-Ok.ensures.given in
    record {
      all = hears_more g.D.Turns.hears c.args.connection (g.L.Link.left c.args.link.now) (g.L.Link.left c.loop-turn.link) (g.L.Link.left c.next-in-loop-turn.new.link) c.args.inbox.now c.loop-turn.inbox c.next-in-loop-turn.new.self given.0 _ c.loop-turn.invariant.all given.1 given.2
          (subst (λ (bytes : List ℕ). IsHeard g.D.Turns.hears c.args.connection bytes) c.as_slice-bytes.ensures (c.hear-goes_on.result, (_, _, c.hear-goes_on.ensures.0, c.hear-goes_on.ensures.1, c.hear-goes_on.ensures.2)));
      later = search rules;
    }

pub returns-then-not-goes_on : goal.returns-then-not-goes_on
returns-then-not-goes_on g c =
    let given = c.in-Ok.ensures.given in
    inl (
      hears_more g.D.Turns.hears c.args.connection (g.L.Link.left c.args.link.now) (g.L.Link.left c.loop-turn.link) (g.L.Link.left c.next-in-loop-turn.new.link) c.args.inbox.now c.loop-turn.inbox c.next-in-loop-turn.new.self given.0 _ c.loop-turn.invariant.all given.1 given.2
          (subst (λ (bytes : List ℕ). IsHeard g.D.Turns.hears c.args.connection bytes) c.as_slice-bytes.ensures (c.hear-goes_on.result, (_, _, c.hear-goes_on.ensures.0, c.hear-goes_on.ensures.1, c.hear-goes_on.ensures.2))),
      (c.as_slice-bytes.result.now, subst (λ (goes_on : Bool). IsHeardSo g.D.Turns.hears c.args.connection goes_on c.as_slice-bytes.result.now) c.if-not-goes_on.true (_, _, c.hear-goes_on.ensures.0, c.hear-goes_on.ensures.1, c.hear-goes_on.ensures.2)),
    )

pub returns-in-Err : goal.returns-in-Err
returns-in-Err g c = inr (
  c.in-Err.end,
  hears_till g.D.Turns.hears c.args.connection (g.L.Link.left c.args.link.now) (g.L.Link.left c.loop-turn.link) (g.L.Link.left c.next-in-loop-turn.new.link) (g.L.Link.faults c.args.link.now) (g.L.Link.faults c.loop-turn.link) (g.L.Link.faults c.next-in-loop-turn.new.link) c.args.inbox.now c.loop-turn.inbox c.next-in-loop-turn.new.self c.in-Err.end c.loop-turn.invariant.all c.loop-turn.invariant.later
      (λ is. c.in-Err.ensures.ended (ap Err is)) (λ is. c.in-Err.ensures.failed (ap Err is)) (λ is. c.in-Err.ensures.spoilt (ap Err is)),
  (_, c.stop.ensures.0, c.stop.ensures.1, c.stop.ensures.2),
)
