use Rattle.std.proofs.Common.{◌≡◌, sym, ap, subst, ◌∙◌, ℕ, List, IfOk}
use Rattle.std.specs.Prelude.{Option, Some, None, OnErr}
use Rattle.client_cache.specs.Cache.{lent}
use Rattle.client_cache.specs.declared.kept.Content.{Content}
use Rattle.client_state.specs.View.{state_of}
use Rattle.client_state.specs.declared.step.ClientStep.{ClientStep}
use Rattle.file_open.specs.Caching.{fresh_content}
use Rattle.file_open.specs.Fetching.{opens_kept, MayMissKept}
use Rattle.file_open.proofs.Keeping.{fresh_small}
use Rattle.file_open.proofs.opening.open_kept.Goals as goal

pub open_fresh-requires-clause-small : goal.open_fresh-requires-clause-small
open_fresh-requires-clause-small c =
    let s = c.args.state.now in
    let content : List ℕ → Content = λ b. record { version = c.in-Some.version; bytes = b } in
    let found : fresh_content s.cache c.args.file s.clock ≡ Some (content c.in_ok-bytes-in-Some.bytes) =
    sym c.fresh.ensures ∙ (ap lent c.in-Some.is ∙ ap (λ (b : List ℕ). Some (content b)) (sym c.in_ok-bytes-in-Some.ensures)) in
    fresh_small s.cache c.args.file s.clock (content c.in_ok-bytes-in-Some.bytes) c.requires.sound.base.kept found

pub returns-in_ok-bytes-in-Some-clause-ok : goal.returns-in_ok-bytes-in-Some-clause-ok
returns-in_ok-bytes-in-Some-clause-ok c =
    let s = state_of c.args.state.now in
    let file = c.args.file in
    let content : List ℕ → Content = λ b. record { version = c.in-Some.version; bytes = b } in
    let found : fresh_content s.cache file s.clock ≡ Some (content c.in_ok-bytes-in-Some.bytes) =
    sym c.fresh.ensures ∙ (ap lent c.in-Some.is ∙ ap (λ (b : List ℕ). Some (content b)) (sym c.in_ok-bytes-in-Some.ensures)) in
    subst (λ (o : Option Content). IfOk c.open_fresh.result (λ (a : ClientStep). opens_kept s file o ≡ (state_of c.open_fresh.new.state, a))) (sym found) c.open_fresh.ensures.ok

pub returns-in-None-clause-ok : goal.returns-in-None-clause-ok
returns-in-None-clause-ok c =
    let s = state_of c.args.state.now in
    let file = c.args.file in
    let found : fresh_content s.cache file s.clock ≡ None = sym c.fresh.ensures ∙ ap lent c.in-None.is in
    subst (λ (o : Option Content). IfOk c.ask_linked.result (λ (a : ClientStep). opens_kept s file o ≡ (state_of c.ask_linked.new.state, a))) (sym found) c.ask_linked.ensures.ok

pub returns-in-None-clause-sure : goal.returns-in-None-clause-sure
returns-in-None-clause-sure c =
    let s = state_of c.args.state.now in
    let found : fresh_content s.cache c.args.file s.clock ≡ None = sym c.fresh.ensures ∙ ap lent c.in-None.is in
    subst (λ (o : Option Content). OnErr c.ask_linked.result (MayMissKept s o)) (sym found) c.ask_linked.ensures.sure
