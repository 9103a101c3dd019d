use Rattle.std.proofs.Common.{◌≡◌, ◌+◌, sym, ap, subst, ◌∙◌, Bool, false, IfOk}
use Rattle.file_open.specs.Opening.{with_hashes}
use Rattle.client_state.specs.State.{State}
use Rattle.file_open.specs.Fetching.{lists_on}
use Rattle.client_state.specs.declared.step.ClientStep.{ClientStep}
use Rattle.file_open.proofs.lemmas.Comings.{comes_ok}
use Rattle.client_state.specs.declared.task.Fetch.{Fetch}
use Rattle.client_state.specs.declared.task.Stage.TheVariants as stage
use Rattle.client_state.specs.View.{state_of, IsFetch, IsListing, IsReading, HasXids}
use Rattle.file_open.proofs.lemmas.Pieces.{goes_on, is_whole, more_xids, read_xids}
use Rattle.file_open.proofs.Slots.{listed_fits}
use Rattle.file_open.proofs.opening.add_piece.Goals as goal

pub read_on-requires-clause-within : goal.read_on-requires-clause-within
read_on-requires-clause-within c =
    let all : IsFetch c.in_ok-fetch.fetch = subst IsFetch (sym c.in_ok-fetch.ensures) (is_whole c.args.fetch c.args.hashes.now c.requires.within c.requires.can) in
    subst IsReading (sym c.in_ok-whole.ensures) (listed_fits c.in_ok-fetch.fetch all (ap (λ (f : Fetch). f.asked) c.in_ok-fetch.ensures ∙ c.requires.within.2))

pub read_on-requires-clause-xids : goal.read_on-requires-clause-xids
read_on-requires-clause-xids c =
    let next = c.args.state.now.next_xid in
    subst (λ (f : Fetch). HasXids next (stage.Reading f)) (sym c.in_ok-whole.ensures) (subst (λ (f : Fetch). HasXids next (stage.Reading f)) (sym c.in_ok-fetch.ensures) (read_xids c.args.fetch c.args.hashes.now next c.requires.within c.requires.can c.requires.xids))

pub list_on-requires-clause-within : goal.list_on-requires-clause-within
list_on-requires-clause-within c = subst IsListing (sym c.in_ok-fetch.ensures) (goes_on c.args.fetch c.args.hashes.now c.requires.within c.requires.can c.if-hashes.false)

pub list_on-requires-clause-xids : goal.list_on-requires-clause-xids
list_on-requires-clause-xids c = subst (λ (f : Fetch). HasXids (c.args.state.now.next_xid + 1) (stage.Listing 0 f)) (sym c.in_ok-fetch.ensures) (more_xids c.args.fetch c.args.hashes.now c.args.state.now.next_xid c.requires.within c.requires.can c.if-hashes.false c.requires.xids)

pub returns-else-hashes-clause-ok : goal.returns-else-hashes-clause-ok
returns-else-hashes-clause-ok c =
    let s = c.args.state.now in
    let f = c.args.fetch in
    let h = c.args.hashes.now in
    let lists : Fetch → Bool → State × ClientStep = λ g eof. lists_on (state_of s) s.waiting.calls c.args.file c.args.xid g eof in
    let one : IfOk c.list_on.result (λ (a : ClientStep). lists (with_hashes f h) false ≡ (state_of c.list_on.new.state, a)) =
    subst (λ (g : Fetch). IfOk c.list_on.result (λ (a : ClientStep). lists g false ≡ (state_of c.list_on.new.state, a))) c.in_ok-fetch.ensures c.list_on.ensures.ok in
    let so : IfOk c.list_on.result (λ (a : ClientStep). lists (with_hashes f h) h.eof ≡ (state_of c.list_on.new.state, a)) =
    subst (λ (b : Bool). IfOk c.list_on.result (λ (a : ClientStep). lists (with_hashes f h) b ≡ (state_of c.list_on.new.state, a))) (sym c.if-hashes.false) one in
    comes_ok c.list_on.result s.index _ (lists (with_hashes f h) h.eof) (state_of c.list_on.new.state) so c.list_on.ensures.done
