use Rattle.std.proofs.Common.{◌≡◌, sym, ap, subst, ◌∙◌, IfOk}
use Rattle.std.specs.Prelude.{Option, Some, None}
use Rattle.client_cache.specs.Cache.{lent}
use Rattle.client_cache.specs.declared.kept.Content.{Content}
use Rattle.client_state.specs.View.{state_of}
use Rattle.client_state.specs.declared.step.ClientStep.{ClientStep}
use Rattle.file_open.specs.Caching.{fresh_content}
use Rattle.file_open.specs.Rewriting.{empties_kept}
use Rattle.file_open.proofs.rewriting.renew_found.Goals as goal

pub returns-in-Some-clause-ok : goal.returns-in-Some-clause-ok
returns-in-Some-clause-ok c =
    let s = state_of c.args.state.now in
    let calls = c.args.state.now.waiting.calls in
    let file = c.args.file in
    let found : fresh_content s.cache file s.clock ≡ Some (record { version = c.in-Some.version; bytes = c.in-Some._bytes.now }) = sym c.fresh.ensures ∙ ap lent c.in-Some.is in
    subst (λ (o : Option Content). IfOk c.open_empty.result (λ (a : ClientStep). empties_kept s calls c.args.xid file o ≡ (state_of c.open_empty.new.state, a))) (sym found) c.open_empty.ensures.ok

pub returns-in-None-clause-ok : goal.returns-in-None-clause-ok
returns-in-None-clause-ok c =
    let s = state_of c.args.state.now in
    let calls = c.args.state.now.waiting.calls in
    let file = c.args.file in
    let found : fresh_content s.cache file s.clock ≡ None = sym c.fresh.ensures ∙ ap lent c.in-None.is in
    subst (λ (o : Option Content). IfOk c.ask_anew.result (λ (a : ClientStep). empties_kept s calls c.args.xid file o ≡ (state_of c.ask_anew.new.state, a))) (sym found) c.ask_anew.ensures.ok
