use Rattle.std.proofs.Common.{rules, ◌≡◌, ◌++◌, ap, sym, ◌∙◌, subst}
use Rattle.std.specs.Option.{option_to_list}
use Rattle.record_ends.specs.Ends.{Kept, Takes}
use Rattle.record_ends.proofs.lemmas.Coming.{takes_more, consumes_more}
use Rattle.record_ends.proofs.inbox.Inbox.next.Goals as goal

pub loop-round-preserved : goal.loop-round-preserved
loop-round-preserved g c =
    let none : c.self.inside.waiting.items ≡ c.pop_front.new.self.items = subst (λ r. c.self.inside.waiting.items ≡ option_to_list r ++ c.pop_front.new.self.items) c.in-None.is c.pop_front.ensures.items in
    let held : Kept = record { waiting = c.pop_front.new.self.items; unread = c.self.inside.end } in
    let same : held ≡ c.loop-round.self = ap (λ ws. record { waiting = ws; unread = c.self.inside.end }) (sym none) ∙ c.self.view_is in
    let filled = c.in_ok-fill-in-None.ensures.ok in
    let more : Takes c.loop-round.self filled.0 c.fill.new.self = subst (λ k. Takes k filled.0 c.fill.new.self) same filled.2 in
    record {
      took = (c.loop-round.invariant.took.0 ++ filled.0, consumes_more _ _ _ _ _ c.loop-round.invariant.took.1 filled.1, takes_more _ _ _ _ _ c.loop-round.invariant.took.2 more);
      out = search rules;
      later = search rules;
    }
