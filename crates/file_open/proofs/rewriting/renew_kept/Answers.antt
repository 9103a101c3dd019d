use Rattle.std.proofs.Common.{◌≡◌, sym, ap, subst, ◌∙◌, IfOk}
use Rattle.std.specs.Prelude.{Option, Some, None, OnErr}
use Rattle.client_cache.specs.Cache.{lent}
use Rattle.client_cache.specs.declared.kept.Content.{Content}
use Rattle.client_state.specs.View.{state_of}
use Rattle.client_state.specs.declared.step.ClientStep.{ClientStep}
use Rattle.file_open.specs.Caching.{fresh_content}
use Rattle.file_open.specs.Fetching.{MayMissKept}
use Rattle.file_open.specs.Rewriting.{renews_kept}
use Rattle.file_open.proofs.rewriting.renew_kept.Goals as goal

pub returns-in-Some-clause-ok : goal.returns-in-Some-clause-ok
returns-in-Some-clause-ok c =
    let s = state_of c.args.state.now in
    let file = c.args.file in
    let found : fresh_content s.cache file s.clock ≡ Some (record { version = c.in-Some.version; bytes = c.in-Some._bytes.now }) = sym c.fresh.ensures ∙ ap lent c.in-Some.is in
    subst (λ (o : Option Content). IfOk c.empty_fresh.result (λ (a : ClientStep). renews_kept s file o ≡ (state_of c.empty_fresh.new.state, a))) (sym found) c.empty_fresh.ensures.ok

pub returns-in-None-clause-ok : goal.returns-in-None-clause-ok
returns-in-None-clause-ok c =
    let s = state_of c.args.state.now in
    let file = c.args.file in
    let found : fresh_content s.cache file s.clock ≡ None = sym c.fresh.ensures ∙ ap lent c.in-None.is in
    subst (λ (o : Option Content). IfOk c.ask_linked.result (λ (a : ClientStep). renews_kept s file o ≡ (state_of c.ask_linked.new.state, a))) (sym found) c.ask_linked.ensures.ok

pub returns-in-None-clause-sure : goal.returns-in-None-clause-sure
returns-in-None-clause-sure c =
    let s = state_of c.args.state.now in
    let found : fresh_content s.cache c.args.file s.clock ≡ None = sym c.fresh.ensures ∙ ap lent c.in-None.is in
    subst (λ (o : Option Content). OnErr c.ask_linked.result (MayMissKept s o)) (sym found) c.ask_linked.ensures.sure
