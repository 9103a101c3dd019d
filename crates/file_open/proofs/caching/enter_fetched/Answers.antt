use Rattle.std.proofs.Common.{◌-◌, ap, subst, ◌∙◌, List, take, drop}
use Rattle.chunk_cut.specs.declared.chunk.Chunk.{Chunk}
use Rattle.chunk_index.specs.Places.{indexed, LeavesSome}
use Rattle.client_state.specs.declared.state.ClientState.{ClientState}
use Rattle.file_open.specs.Caching.{found_all}
use Rattle.file_open.proofs.caching.enter_fetched.Goals as goal

pub returns-clause-rest : goal.returns-clause-rest
returns-clause-rest c = c.enter.ensures.rest ∙ ap (λ (s : ClientState). record s { index = c.enter.new.self.index }) c.find_asked.ensures

pub returns-clause-all : goal.returns-clause-all
returns-clause-all c =
    let f = c.args.fetch.now in
    let looked = take (f.asked - c.args.from) (drop c.args.from f.chunks) in
    λ e. c.enter.ensures.all e ∙ (ap (λ (s : ClientState). indexed s.index c.args.file c.as_slice.result.now) c.find_asked.ensures ∙ ap (λ (cs : List Chunk). indexed (found_all c.args.state.now.index looked) c.args.file cs) c.as_slice.ensures)

pub returns-clause-lacks : goal.returns-clause-lacks
returns-clause-lacks c =
    let f = c.args.fetch.now in
    let looked = take (f.asked - c.args.from) (drop c.args.from f.chunks) in
    λ e. subst (λ (cs : List Chunk). LeavesSome (found_all c.args.state.now.index looked) c.args.file cs c.enter.new.self.index) c.as_slice.ensures (subst (λ (s : ClientState). LeavesSome s.index c.args.file c.as_slice.result.now c.enter.new.self.index) c.find_asked.ensures (c.enter.ensures.lacks e))
