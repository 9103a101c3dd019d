use Rattle.std.proofs.Common.{refl, sym, ap, ◌∙◌, subst, inr, List, length}
use Rattle.clock_rule.specs.declared.window.Window.{Window}
use Rattle.clock_rule.specs.Windows.{IsWindowOf, HasNoWindow}
use Rattle.clock_rule.proofs.Windows.{made_there}
use Rattle.clock_rule.proofs.window.window_of.Goals as goal

pub returns-in-Some-clause-found : goal.returns-in-Some-clause-found
returns-in-Some-clause-found c =
    subst (λ (ds : List Window). IsWindowOf ds c.in-Some.at c.args.client) c.deref.ensures.value c.in-Some.ensures.found

pub returns-in_ok-push-in-None-clause-found : goal.returns-in_ok-push-in-None-clause-found
returns-in_ok-push-in-None-clause-found c =
    made_there c.args.windows.now.items c.push.new.self.items c.len-at.result (record { client = c.args.client; last = 0; passed = 0; least = c.new.result }) c.args.client
    c.in_ok-push-in-None.ensures.items (c.len-at.ensures ∙ sym c.deref.ensures.len ∙ ap length c.deref.ensures.value) refl

pub returns-in_ok-push-in-None-clause-more : goal.returns-in_ok-push-in-None-clause-more
returns-in_ok-push-in-None-clause-more c =
    inr (
      subst (λ (ds : List Window). HasNoWindow ds c.args.client) c.deref.ensures.value c.in-None.ensures.none,
      (
        record { client = c.args.client; last = 0; passed = 0; least = c.new.result },
        record { client = refl; last = refl; passed = refl; least = c.new.ensures.items },
        c.in_ok-push-in-None.ensures.items,
      ),
    )
