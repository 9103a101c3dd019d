use Rattle.std.proofs.Common.{◌≡◌, sym, ap, subst, ◌∙◌, ℕ, List, IfOk}
use Rattle.std.specs.Prelude.{Option, Some, None}
use Rattle.client_cache.specs.Cache.{lent}
use Rattle.client_cache.specs.declared.kept.Content.{Content}
use Rattle.client_state.specs.View.{state_of}
use Rattle.client_state.specs.declared.step.ClientStep.{ClientStep}
use Rattle.file_open.specs.Caching.{fresh_content}
use Rattle.file_open.specs.Fetching.{finds_kept}
use Rattle.file_open.proofs.Keeping.{fresh_small}
use Rattle.file_open.proofs.opening.open_found.Goals as goal

pub use_kept-requires-clause-small : goal.use_kept-requires-clause-small
use_kept-requires-clause-small c =
    let s = c.args.state.now in
    let content : List ℕ → Content = λ b. record { version = c.in-Some.version; bytes = b } in
    let found : fresh_content s.cache c.args.file s.clock ≡ Some (content c.in_ok-bytes-in-Some.bytes) =
    sym c.fresh.ensures ∙ (ap lent c.in-Some.is ∙ ap (λ (b : List ℕ). Some (content b)) (sym c.in_ok-bytes-in-Some.ensures)) in
    fresh_small s.cache c.args.file s.clock (content c.in_ok-bytes-in-Some.bytes) c.requires.held.base.kept found

pub returns-in_ok-bytes-in-Some-clause-ok : goal.returns-in_ok-bytes-in-Some-clause-ok
returns-in_ok-bytes-in-Some-clause-ok c =
    let s = state_of c.args.state.now in
    let calls = c.args.state.now.waiting.calls in
    let file = c.args.file in
    let content : List ℕ → Content = λ b. record { version = c.in-Some.version; bytes = b } in
    let found : fresh_content s.cache file s.clock ≡ Some (content c.in_ok-bytes-in-Some.bytes) =
    sym c.fresh.ensures ∙ (ap lent c.in-Some.is ∙ ap (λ (b : List ℕ). Some (content b)) (sym c.in_ok-bytes-in-Some.ensures)) in
    subst (λ (o : Option Content). IfOk c.use_kept.result (λ (a : ClientStep). finds_kept s calls c.args.xid file o ≡ (state_of c.use_kept.new.state, a))) (sym found) c.use_kept.ensures.ok

pub returns-in-None-clause-ok : goal.returns-in-None-clause-ok
returns-in-None-clause-ok c =
    let s = state_of c.args.state.now in
    let calls = c.args.state.now.waiting.calls in
    let file = c.args.file in
    let found : fresh_content s.cache file s.clock ≡ None = sym c.fresh.ensures ∙ ap lent c.in-None.is in
    subst (λ (o : Option Content). IfOk c.ask_file.result (λ (a : ClientStep). finds_kept s calls c.args.xid file o ≡ (state_of c.ask_file.new.state, a))) (sym found) c.ask_file.ensures.ok
