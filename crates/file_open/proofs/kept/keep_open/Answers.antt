use Rattle.std.proofs.Common.{◌≡◌, ◌≤◌, sym, ap, subst, ◌∙◌, ℕ, List, length}
use Rattle.std.specs.Prelude.{IsSome}
use Rattle.client_cache.specs.Cache.{Entries, kept_of, with_content}
use Rattle.transfer_rules.specs.Limits.{file_limit}
use Rattle.client_state.specs.State.{State, with_local}
use Rattle.client_state.specs.View.{state_of}
use Rattle.client_state.specs.declared.state.ClientState.{ClientState}
use Rattle.file_open.proofs.kept.keep_open.Goals as goal

pub keep-requires-clause-there : goal.keep-requires-clause-there
keep-requires-clause-there c = subst (λ (es : Entries). IsSome (kept_of es c.args.file)) (sym c.put_open.ensures.cache) c.requires.there

pub keep-requires-clause-small : goal.keep-requires-clause-small
keep-requires-clause-small c = subst (λ (bytes : List ℕ). length bytes ≤ file_limit) (sym c.in_ok-kept.ensures) c.requires.small

pub returns-clause-rest : goal.returns-clause-rest
returns-clause-rest c =
    let s = c.args.state.now in
    let file = c.args.file in
    let version = c.args.version in
    let content = c.args.content in
    let opened : State = record (state_of s) { opened = with_local s.opened.entries file (record { version = version; bytes = content }) } in
    let shared = c.in_ok-kept.kept in
    let put = c.put_open.new.state in
    let kept : with_content put.cache file version shared ≡ with_content s.cache file version content =
    ap (λ (es : Entries). with_content es file version shared) c.put_open.ensures.cache ∙ ap (λ (bytes : List ℕ). with_content s.cache file version bytes) c.in_ok-kept.ensures in
    ap (λ (t : ClientState). state_of t) c.keep.ensures.kept
    ∙ (ap (λ (t : State). record t { cache = with_content put.cache file version shared }) c.in_ok-step.ensures.rest
    ∙ ap (λ (es : Entries). record opened { cache = es }) kept)

pub returns-clause-waiting : goal.returns-clause-waiting
returns-clause-waiting c = ap (λ (t : ClientState). t.waiting) c.keep.ensures.kept ∙ c.put_open.ensures.waiting

pub returns-clause-index : goal.returns-clause-index
returns-clause-index c = ap (λ (t : ClientState). t.index) c.keep.ensures.kept ∙ c.put_open.ensures.index
