use Rattle.std.proofs.Common.{◌≡◌, ◌≤◌, sym, ap, subst, ◌∙◌, ℕ, List, length}
use Rattle.std.specs.Prelude.{IsSome}
use Rattle.sha1.specs.Sha1.{sha1}
use Rattle.client_cache.specs.Cache.{Entries, kept_of, with_content}
use Rattle.wire.specs.declared.message.Waiting.{Waiting}
use Rattle.client_state.specs.Counting.{ends}
use Rattle.transfer_rules.specs.Limits.{file_limit}
use Rattle.client_state.specs.State.{State, without_local, local_bytes}
use Rattle.client_state.specs.Ending.{forgets}
use Rattle.client_state.specs.View.{state_of}
use Rattle.client_state.specs.declared.state.ClientState.{ClientState}
use Rattle.client_state.specs.declared.step.ClientStep.{ClientStep}
use Rattle.client_state.specs.declared.step.Outcome.TheVariants as outcome
use Rattle.client_state.proofs.lemmas.Bounds.{local_small}
use Rattle.file_close.proofs.closing.closed.Goals as goal

pub keep-requires-clause-held : goal.keep-requires-clause-held
keep-requires-clause-held c = record { base = c.take_local.ensures.base; task = c.take_local.ensures.task ∙ c.requires.held.task }

pub keep-requires-clause-there : goal.keep-requires-clause-there
keep-requires-clause-there c = subst (λ (es : Entries). IsSome (kept_of es c.args.file)) (sym c.take_local.ensures.cache) c.requires.there

pub keep-requires-clause-small : goal.keep-requires-clause-small
keep-requires-clause-small c =
    let s = c.args.state.now in
    subst (λ (bytes : List ℕ). length bytes ≤ file_limit) (sym (c.hashed-content.ensures ∙ c.take_local.ensures.bytes)) (local_small s.opened.entries c.args.file c.requires.held.base.locals)

pub returns-clause-ok : goal.returns-clause-ok
returns-clause-ok c =
    let s = c.args.state.now in
    let t = c.take_local.new.self in
    let file = c.args.file in
    let version = c.args.version in
    let xid = c.args.xid in
    let content = c.hashed-content.result in
    let local = local_bytes s.opened.entries file in
    let shut : State = record (state_of s) { opened = without_local s.opened.entries file } in
    let kept : Entries = with_content t.cache file version content in
    let cache : kept ≡ with_content s.cache file version local =
    ap (λ (es : Entries). with_content es file version content) c.take_local.ensures.cache ∙ ap (λ (bytes : List ℕ). with_content s.cache file version bytes) (c.hashed-content.ensures ∙ c.take_local.ensures.bytes) in
    let state : state_of c.forget.new.self ≡ forgets (record shut { cache = with_content s.cache file version local }) s.waiting.calls xid =
    c.forget.ensures.rest
    ∙ (ap (λ (u : ClientState). forgets (state_of u) u.waiting.calls xid) c.keep.ensures.kept
    ∙ (ap (λ (r : State). forgets (record r { cache = kept }) t.waiting.calls xid) c.take_local.ensures.rest
    ∙ (ap (λ (w : Waiting). forgets (record shut { cache = kept }) w.calls xid) c.take_local.ensures.waiting
    ∙ ap (λ (es : Entries). forgets (record shut { cache = es }) s.waiting.calls xid) cache))) in
    let tells : List ℕ → ClientStep = λ bytes. ends (outcome.Closed file version (length bytes) (sha1 bytes)) xid 0 in
    let step : c.closed-step.result ≡ tells local = c.closed-step.ensures ∙ ap tells (c.hashed-content.ensures ∙ c.take_local.ensures.bytes) in
    sym (ap (λ (r : State). (r, c.closed-step.result)) state ∙ ap (λ (a : ClientStep). (forgets (record shut { cache = with_content s.cache file version local }) s.waiting.calls xid, a)) step)
