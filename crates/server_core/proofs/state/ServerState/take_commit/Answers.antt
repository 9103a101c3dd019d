use Rattle.std.proofs.Common.{◌≡◌, Some, ◌∙◌, ap, sym, Option}
use Rattle.std.specs.Prelude.{is_some}
use Rattle.std.specs.Option.{option_copied}
use Rattle.temp_files.specs.Temps.{Temp, temp_at, whole_of, assembled}
use Rattle.chunk_calls.specs.Answers.{node_of, target_in}
use Rattle.server_core.specs.View.{state_of}
use Rattle.server_core.proofs.Closes.{commit_refused, commit_taken, target_fits, there}
use Rattle.server_core.proofs.state.ServerState.take_commit.Goals as goal

pub returns-in-Err-clause-ok : goal.returns-in-Err-clause-ok
returns-in-Err-clause-ok g c =
    let s = state_of c.args.self.now in
    let at : temp_at s.temps c.args.session c.args.commit.now.fd ≡ Some c.in-Some.temp.now = sym c.find.ensures ∙ ap option_copied c.in-Some.is in
    commit_refused s c.args.session c.args.xid c.args.commit.now c.in-Some.temp.now c.in-Err.status c.end.new.self c.refuse_commit-in-Err.result
    at (sym c.commit_target.ensures ∙ c.in-Err.is) c.end.ensures c.refuse_commit-in-Err.ensures

pub admit-requires-clause-size : goal.admit-requires-clause-size
admit-requires-clause-size g c =
    let s = state_of c.args.self.now in
    let commit = c.args.commit.now in
    (target_fits s c.args.session commit.size c.in-Some.temp.now (target_in (node_of s.tree commit.handle)) c.in-Ok.file (sym c.commit_target.ensures ∙ c.in-Ok.is)).0

pub admit-requires-clause-whole : goal.admit-requires-clause-whole
admit-requires-clause-whole g c =
    let s = state_of c.args.self.now in
    let commit = c.args.commit.now in
    let at : temp_at s.temps c.args.session commit.fd ≡ Some c.in-Some.temp.now = sym c.find.ensures ∙ ap option_copied c.in-Some.is in
    ap (λ (o : Option Temp). is_some (whole_of o commit.size)) at
    ∙ (target_fits s c.args.session commit.size c.in-Some.temp.now (target_in (node_of s.tree commit.handle)) c.in-Ok.file (sym c.commit_target.ensures ∙ c.in-Ok.is)).1

pub admit-requires-clause-room : goal.admit-requires-clause-room
admit-requires-clause-room g c =
    let s = state_of c.args.self.now in
    let commit = c.args.commit.now in
    (target_fits s c.args.session commit.size c.in-Some.temp.now (target_in (node_of s.tree commit.handle)) c.in-Ok.file (sym c.commit_target.ensures ∙ c.in-Ok.is)).2

pub admit-requires-clause-new : goal.admit-requires-clause-new
admit-requires-clause-new g c =
    let s = state_of c.args.self.now in
    let commit = c.args.commit.now in
    (target_fits s c.args.session commit.size c.in-Some.temp.now (target_in (node_of s.tree commit.handle)) c.in-Ok.file (sym c.commit_target.ensures ∙ c.in-Ok.is)).3

pub returns-in-Ok-admit-clause-ok : goal.returns-in-Ok-admit-clause-ok
returns-in-Ok-admit-clause-ok g c =
    let s = state_of c.args.self.now in
    let commit = c.args.commit.now in
    let t = c.in-Some.temp.now in
    let at : temp_at s.temps c.args.session commit.fd ≡ Some t = sym c.find.ensures ∙ ap option_copied c.in-Some.is in
    let fits = target_fits s c.args.session commit.size t (target_in (node_of s.tree commit.handle)) c.in-Ok.file (sym c.commit_target.ensures ∙ c.in-Ok.is) in
    let whole = there (assembled t commit.size) fits.1 in
    commit_taken s (state_of c.admit.new.self) c.args.session c.args.xid c.in-Ok.file commit t whole.0 c.in-Ok-admit.step
    at (sym c.commit_target.ensures ∙ c.in-Ok.is) whole.1 (c.in-Ok-admit.ensures.ok whole.0 (whole.1 ∙ ap (λ (o : Option Temp). whole_of o commit.size) (sym at)))
