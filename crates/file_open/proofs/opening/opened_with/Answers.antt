use Rattle.std.proofs.Common.{◌≡◌, ◌-◌, ◌≤◌, refl, sym, ap, subst, ◌∙◌, ℕ, List, length, take, drop, true, false}
use Rattle.sha1.specs.Sha1.{sha1}
use Rattle.chunk_index.specs.Index.{Indexed}
use Rattle.chunk_index.specs.Places.{indexed, LeavesSome}
use Rattle.client_cache.specs.Cache.{with_content}
use Rattle.wire.specs.declared.message.Waiting.{Waiting}
use Rattle.file_open.specs.Caching.{found_all}
use Rattle.client_state.specs.Counting.{ends}
use Rattle.file_open.specs.Opening.{slots_bytes}
use Rattle.transfer_rules.specs.Limits.{file_limit}
use Rattle.client_state.specs.State.{State, with_local}
use Rattle.file_open.specs.Fetching.{opened_with}
use Rattle.client_state.specs.Ending.{forgets}
use Rattle.client_state.specs.View.{state_of, IsHeld}
use Rattle.client_state.specs.declared.state.ClientState.{ClientState}
use Rattle.client_state.specs.declared.step.ClientStep.{ClientStep}
use Rattle.client_state.specs.declared.step.Outcome.TheVariants as outcome
use Rattle.file_open.proofs.lemmas.Comings.{comes_at}
use Rattle.client_state.proofs.lemmas.Pending.{held_index}
use Rattle.file_open.proofs.Slots.{slots_small}
use Rattle.file_open.proofs.opening.opened_with.Goals as goal

pub keep_open-requires-clause-small : goal.keep_open-requires-clause-small
keep_open-requires-clause-small c = subst (λ (bytes : List ℕ). length bytes ≤ file_limit) (sym (c.in_ok-content.ensures ∙ ap slots_bytes c.replace-slots.ensures.value)) (slots_small c.args.fetch.now c.requires.within)

pub forget-requires : goal.forget-requires
forget-requires c = subst IsHeld (sym c.enter_fetched-missed.ensures.rest) (held_index c.keep_open.new.state c.enter_fetched-missed.new.state.index c.keep_open.ensures.held)

pub returns-clause-ok : goal.returns-clause-ok
returns-clause-ok c =
    let s = c.args.state.now in
    let f = c.args.fetch.now in
    let file = c.args.file in
    let xid = c.args.xid in
    let calls = s.waiting.calls in
    let looked = take (f.asked - c.args.from) (drop c.args.from f.chunks) in
    let index = c.enter_fetched-missed.new.state.index in
    let missed = c.enter_fetched-missed.result in
    let opened : List ℕ → State = λ bytes. record (state_of s) { opened = with_local s.opened.entries file (record { version = f.version; bytes = bytes }); cache = with_content s.cache file f.version bytes } in
    let content : c.in_ok-content.content ≡ slots_bytes f.slots = c.in_ok-content.ensures ∙ ap slots_bytes c.replace-slots.ensures.value in
    let state : state_of c.keep_open.new.state ≡ opened (slots_bytes f.slots) = c.in_ok-step.ensures.rest ∙ ap opened content in
    let rest : state_of c.forget.new.self ≡ forgets (record (opened (slots_bytes f.slots)) { index = index }) calls xid =
    c.forget.ensures.rest
    ∙ (ap (λ (t : ClientState). forgets (state_of t) t.waiting.calls xid) c.enter_fetched-missed.ensures.rest
    ∙ (ap (λ (t : State). forgets (record t { index = index }) c.keep_open.new.state.waiting.calls xid) state
    ∙ ap (λ (w : Waiting). forgets (record (opened (slots_bytes f.slots)) { index = index }) w.calls xid) c.keep_open.ensures.waiting)) in
    let tells : List ℕ → ClientStep = λ bytes. ends (outcome.Opened file (length bytes) (sha1 bytes)) f.first c.args.bytes in
    let said : record c.in_ok-step.step { missed = missed } ≡ record (tells (slots_bytes f.slots)) { missed = missed } = ap (λ (a : ClientStep). record a { missed = missed }) (c.in_ok-step.ensures.ok ∙ ap tells content) in
    let all : missed ≡ false → index ≡ indexed (found_all s.index looked) file f.chunks = λ e. c.enter_fetched-missed.ensures.all e ∙ ap (λ (i : Indexed). indexed (found_all i looked) file f.chunks) c.keep_open.ensures.index in
    let lacks : missed ≡ true → LeavesSome (found_all s.index looked) file f.chunks index = λ e. subst (λ (i : Indexed). LeavesSome (found_all i looked) file f.chunks index) c.keep_open.ensures.index (c.enter_fetched-missed.ensures.lacks e) in
    comes_at s.index (record { looked = looked; file = file; chunks = f.chunks }) (opened_with (record (state_of s) { index = found_all s.index looked }) calls file xid f c.args.bytes) (state_of c.forget.new.self) (record c.in_ok-step.step { missed = missed }) missed index refl all lacks rest said refl
