use Rattle.std.proofs.Common.{◌≡◌, refl, List, ℕ, [], ◌∷◌, ◌++◌, ◌∙◌, ap, sym, length, arith}
use Rattle.temp_files.specs.Temps.{temp_at, without_temp, whole_of}
use Rattle.temp_files.proofs.lemmas.Entries.{some_same}
use Rattle.server_core.proofs.Coming.{is_made, recalls_commit, admits_as}
use Rattle.server_core.specs.Closing.{has_waiting, is_full}
use Rattle.tree_reading.specs.declared.call.Reservation.{Reservation}
use Rattle.server_core.specs.State.{State, FileChange, change_of, entries_held, size_wanted}
use Rattle.server_core.specs.View.{state_of}
use Rattle.server_core.specs.declared.change.Wanted.TheVariants as wanted
use Rattle.server_core.proofs.Closes.{whole_of_size}
use Rattle.server_core.proofs.Making.{has_place}
use Rattle.server_core.proofs.Needs.{entries_more}
use Rattle.server_core.proofs.state.ServerState.admit.Goals as goal

pub take_content-requires-clause-whole : goal.take_content-requires-clause-whole
take_content-requires-clause-whole g c = rw (ap (λ (s : State). s.temps) c.reserve.ensures.same) c.requires.whole

pub wait-requires-clause-bounded : goal.wait-requires-clause-bounded
wait-requires-clause-bounded g c =
    let b = c.reserve.ensures.bounded in
    record { bytes = b.bytes; room = b.room; made = b.made; early = b.early }

pub wait-requires-clause-made : goal.wait-requires-clause-made
wait-requires-clause-made g c = is_made c.change_of-change.result c.args.session c.args.xid c.args.file (wanted.Content c.in_ok-content.content) c.change_of-change.ensures

pub wait-requires-clause-new : goal.wait-requires-clause-new
wait-requires-clause-new g c =
    ap (λ (x : FileChange). has_waiting c.reserve.new.self.waits.waits x.session) c.change_of-change.ensures
    ∙ ap (λ (s : State). has_waiting s.waiting c.args.session) c.reserve.ensures.same
    ∙ c.requires.new

pub wait-requires-clause-recalling : goal.wait-requires-clause-recalling
wait-requires-clause-recalling g c =
    recalls_commit (state_of c.reserve.new.self) c.take_content.new.temps c.change_of-change.result c.args.session c.args.xid c.args.file c.in_ok-content.content c.in_ok-recalling.recalling c.change_of-change.ensures c.in_ok-recalling.ensures

pub wait-requires-clause-size : goal.wait-requires-clause-size
wait-requires-clause-size g c =
    let size : length c.in_ok-content.content ≡ c.args.commit.now.size = whole_of_size (temp_at c.reserve.new.self.temps c.args.session c.args.commit.now.fd) c.args.commit.now.size c.in_ok-content.content c.in_ok-content.ensures.content in
    let place = has_place (state_of c.reserve.new.self) c.args.commit.now.size (ap (λ (s : State). is_full s c.args.commit.now.size) c.reserve.ensures.same ∙ c.requires.room) in
    omega (arith, size, place, ap (λ (x : FileChange). size_wanted x.what) c.change_of-change.ensures)

pub wait-requires-clause-room : goal.wait-requires-clause-room
wait-requires-clause-room g c = c.in_ok-reserve.ensures.room

pub returns-clause-ok : goal.returns-clause-ok
returns-clause-ok g c content is =
    let old = state_of c.args.self.now in
    let now = state_of c.reserve.new.self in
    let fd = c.args.commit.now.fd in
    let same : now ≡ old = c.reserve.ensures.same in
    let found : c.in_ok-content.content ≡ content =
    some_same c.in_ok-content.content content (c.in_ok-content.ensures.content ∙ ap (λ (s : State). whole_of (temp_at s.temps c.args.session fd) c.args.commit.now.size) same ∙ sym is) in
    admits_as old now (state_of c.wait.new.self) (without_temp now.temps c.args.session fd) c.change_of-change.result c.args.session c.args.xid c.args.file fd content c.in_ok-content.content c.take_content.new.temps c.wait.result
    same found c.in_ok-content.ensures.ended c.change_of-change.ensures c.wait.ensures.exact refl

pub returns-clause-spare : goal.returns-clause-spare
returns-clause-spare g c =
    let before = c.reserve.new.self.waits.waits in
    let change : FileChange = change_of c.args.session c.args.xid c.args.file (wanted.Content c.in_ok-content.content) in
    omega (arith, ap entries_held c.wait.ensures.waiting, ap (λ (x : FileChange). entries_held (before ++ x ∷ [])) c.change_of-change.ensures, entries_more before change, ap (λ (h : Reservation). h.entries) c.held.ensures, c.in_ok-places.ensures, c.in_ok-reserve-2.ensures.room)
