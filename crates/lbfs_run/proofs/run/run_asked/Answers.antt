use Rattle.std.proofs.Common.{◌≡◌, Some, None, refl, sym, ap, ◌∙◌, inl}
use Rattle.program_words.specs.declared.asked.Command.{Command}
use Rattle.program_words.specs.declared.asked.Asked.TheVariants as ask
use Rattle.program_words.specs.Words.{command_in, is_alone}
use Rattle.lbfs_mount.specs.Heard.{SaysAt}
use Rattle.lbfs_mount.specs.Mounts.{IsFaulty}
use Rattle.lbfs_run.specs.Ends.{takes_input}
use Rattle.lbfs_run.specs.Mounting.{MountEnds}
use Rattle.lbfs_run.proofs.Asking.{answered_by, taken_by, broken_by, broken_off_by, starved_by, starved_off_by, not_serve, not_mount, not_check, not_both, check_not_serve, check_not_mount, not_some, no_command, no_both, same_check, same_mount, same_serve, saved_by, mounts_by, serves_by, checks_by, stays}
use Rattle.lbfs_run.proofs.run.run_asked.Goals as goal

pub returns-in-Some-Command-clause-replayed : goal.returns-in-Some-Command-clause-replayed
returns-in-Some-Command-clause-replayed g c =
    let is : c.args.asked ≡ Some (ask.Command c.in-Some-Command.command) = c.in-Some-Command.is ∙ ap Some c.in-Some-Command.field-0-is in
    λ view asks done trace told. c.run_plain.ensures.replayed view ((sym (ap command_in is)) ∙ asks) done trace told

pub returns-in-Some-Command-clause-generated : goal.returns-in-Some-Command-clause-generated
returns-in-Some-Command-clause-generated g c =
    let is : c.args.asked ≡ Some (ask.Command c.in-Some-Command.command) = c.in-Some-Command.is ∙ ap Some c.in-Some-Command.field-0-is in
    λ view seed blocks asks done. c.run_plain.ensures.generated view seed blocks ((sym (ap command_in is)) ∙ asks) done

pub returns-in-Some-Command-clause-accepted : goal.returns-in-Some-Command-clause-accepted
returns-in-Some-Command-clause-accepted g c =
    let is : c.args.asked ≡ Some (ask.Command c.in-Some-Command.command) = c.in-Some-Command.is ∙ ap Some c.in-Some-Command.field-0-is in
    λ seed blocks made asks refused. c.run_plain.ensures.accepted seed blocks made ((sym (ap command_in is)) ∙ asks) refused

pub returns-in-Some-Command-clause-read_again : goal.returns-in-Some-Command-clause-read_again
returns-in-Some-Command-clause-read_again g c =
    let is : c.args.asked ≡ Some (ask.Command c.in-Some-Command.command) = c.in-Some-Command.is ∙ ap Some c.in-Some-Command.field-0-is in
    λ view seed blocks asks few told refused. c.run_plain.ensures.read_again view seed blocks ((sym (ap command_in is)) ∙ asks) few told refused

pub returns-in-Some-Command-clause-answered : goal.returns-in-Some-Command-clause-answered
returns-in-Some-Command-clause-answered g c =
    let is : c.args.asked ≡ Some (ask.Command c.in-Some-Command.command) = c.in-Some-Command.is ∙ ap Some c.in-Some-Command.field-0-is in
    λ alone h. answered_by (Some c.in-Some-Command.command) (command_in c.args.asked) (g.S.Source.left c.args.out.source) (g.K.Sink.held c.args.out.sink) (g.K.Sink.held c.run_plain.result.1.sink) c.run_plain.result.0 (sym (ap command_in is)) (c.run_plain.ensures.answered h)

pub returns-in-Some-Command-clause-taken : goal.returns-in-Some-Command-clause-taken
returns-in-Some-Command-clause-taken g c =
    let is : c.args.asked ≡ Some (ask.Command c.in-Some-Command.command) = c.in-Some-Command.is ∙ ap Some c.in-Some-Command.field-0-is in
    λ alone h. taken_by (Some c.in-Some-Command.command) (command_in c.args.asked) (g.S.Source.left c.args.out.source) (g.S.Source.left c.run_plain.result.1.source) (g.K.Sink.held c.args.out.sink) (g.K.Sink.held c.run_plain.result.1.sink) c.run_plain.result.0 (sym (ap command_in is)) (c.run_plain.ensures.taken h)

pub returns-in-Some-Command-clause-unread : goal.returns-in-Some-Command-clause-unread
returns-in-Some-Command-clause-unread g c =
    let is : c.args.asked ≡ Some (ask.Command c.in-Some-Command.command) = c.in-Some-Command.is ∙ ap Some c.in-Some-Command.field-0-is in
    λ e. c.run_plain.ensures.unread (sym (ap takes_input is) ∙ e)

pub returns-in-Some-Command-clause-read_later : goal.returns-in-Some-Command-clause-read_later
returns-in-Some-Command-clause-read_later g c =
    c.run_plain.ensures.read_later

pub returns-in-Some-Command-clause-write_later : goal.returns-in-Some-Command-clause-write_later
returns-in-Some-Command-clause-write_later g c =
    c.run_plain.ensures.write_later

pub returns-in-Some-Command-clause-read_fault : goal.returns-in-Some-Command-clause-read_fault
returns-in-Some-Command-clause-read_fault g c =
    c.run_plain.ensures.read_fault

pub returns-in-Some-Command-clause-write_fault : goal.returns-in-Some-Command-clause-write_fault
returns-in-Some-Command-clause-write_fault g c =
    c.run_plain.ensures.write_fault

pub returns-in-Some-Command-clause-nothing : goal.returns-in-Some-Command-clause-nothing
returns-in-Some-Command-clause-nothing g c =
    λ alone. c.run_plain.ensures.nothing

pub returns-in-Some-Command-clause-broken : goal.returns-in-Some-Command-clause-broken
returns-in-Some-Command-clause-broken g c =
    let is : c.args.asked ≡ Some (ask.Command c.in-Some-Command.command) = c.in-Some-Command.is ∙ ap Some c.in-Some-Command.field-0-is in
    λ alone h. broken_by (Some c.in-Some-Command.command) (command_in c.args.asked) (g.S.Source.left c.args.out.source) (g.K.Sink.held c.args.out.sink) (g.K.Sink.held c.run_plain.result.1.sink) (sym (ap command_in is)) (c.run_plain.ensures.broken h)

pub returns-in-Some-Command-clause-broken_off : goal.returns-in-Some-Command-clause-broken_off
returns-in-Some-Command-clause-broken_off g c =
    let is : c.args.asked ≡ Some (ask.Command c.in-Some-Command.command) = c.in-Some-Command.is ∙ ap Some c.in-Some-Command.field-0-is in
    λ alone h. broken_off_by (Some c.in-Some-Command.command) (command_in c.args.asked) (g.S.Source.left c.args.out.source) (g.S.Source.left c.run_plain.result.1.source) (g.K.Sink.held c.args.out.sink) (g.K.Sink.held c.run_plain.result.1.sink) (sym (ap command_in is)) (c.run_plain.ensures.broken_off h)

pub returns-in-Some-Command-clause-starved : goal.returns-in-Some-Command-clause-starved
returns-in-Some-Command-clause-starved g c =
    let is : c.args.asked ≡ Some (ask.Command c.in-Some-Command.command) = c.in-Some-Command.is ∙ ap Some c.in-Some-Command.field-0-is in
    λ alone h. starved_by (Some c.in-Some-Command.command) (command_in c.args.asked) (g.S.Source.left c.args.out.source) (g.K.Sink.held c.args.out.sink) (g.K.Sink.held c.run_plain.result.1.sink) (sym (ap command_in is)) (c.run_plain.ensures.starved h)

pub returns-in-Some-Command-clause-starved_off : goal.returns-in-Some-Command-clause-starved_off
returns-in-Some-Command-clause-starved_off g c =
    let is : c.args.asked ≡ Some (ask.Command c.in-Some-Command.command) = c.in-Some-Command.is ∙ ap Some c.in-Some-Command.field-0-is in
    λ alone h. starved_off_by (c.run_plain.result.1.sink ≡ c.args.out.sink) (Some c.in-Some-Command.command) (command_in c.args.asked) (g.S.Source.left c.args.out.source) (g.S.Source.left c.run_plain.result.1.source) (g.K.Sink.held c.args.out.sink) (g.K.Sink.held c.run_plain.result.1.sink) (sym (ap command_in is)) (c.run_plain.ensures.starved_off h)

pub returns-in-Some-Command-clause-known : goal.returns-in-Some-Command-clause-known
returns-in-Some-Command-clause-known g c =
    λ alone. c.run_plain.ensures.known

pub returns-in-Some-Command-clause-apart : goal.returns-in-Some-Command-clause-apart
returns-in-Some-Command-clause-apart g c =
    λ alone. c.run_plain.ensures.apart

pub returns-in-Some-Command-clause-serves : goal.returns-in-Some-Command-clause-serves
returns-in-Some-Command-clause-serves g c =
    let is : c.args.asked ≡ Some (ask.Command c.in-Some-Command.command) = c.in-Some-Command.is ∙ ap Some c.in-Some-Command.field-0-is in
    λ o e. not_serve c.args.asked c.in-Some-Command.command o is e

pub returns-in-Some-Command-clause-unfiled : goal.returns-in-Some-Command-clause-unfiled
returns-in-Some-Command-clause-unfiled g c =
    let is : c.args.asked ≡ Some (ask.Command c.in-Some-Command.command) = c.in-Some-Command.is ∙ ap Some c.in-Some-Command.field-0-is in
    λ o e. not_serve c.args.asked c.in-Some-Command.command o is e

pub returns-in-Some-Command-clause-mounts : goal.returns-in-Some-Command-clause-mounts
returns-in-Some-Command-clause-mounts g c =
    let is : c.args.asked ≡ Some (ask.Command c.in-Some-Command.command) = c.in-Some-Command.is ∙ ap Some c.in-Some-Command.field-0-is in
    λ o e. not_mount c.args.asked c.in-Some-Command.command o is e

pub returns-in-Some-Command-clause-saved : goal.returns-in-Some-Command-clause-saved
returns-in-Some-Command-clause-saved g c =
    let is : c.args.asked ≡ Some (ask.Command c.in-Some-Command.command) = c.in-Some-Command.is ∙ ap Some c.in-Some-Command.field-0-is in
    λ o e. not_mount c.args.asked c.in-Some-Command.command o is e

pub returns-in-Some-Command-clause-unstored : goal.returns-in-Some-Command-clause-unstored
returns-in-Some-Command-clause-unstored g c =
    let is : c.args.asked ≡ Some (ask.Command c.in-Some-Command.command) = c.in-Some-Command.is ∙ ap Some c.in-Some-Command.field-0-is in
    λ o e. not_mount c.args.asked c.in-Some-Command.command o is e

pub returns-in-Some-Serve-clause-replayed : goal.returns-in-Some-Serve-clause-replayed
returns-in-Some-Serve-clause-replayed g c =
    let is : c.args.asked ≡ Some (ask.Serve c.in-Some-Serve.options) = c.in-Some-Serve.is ∙ ap Some c.in-Some-Serve.field-0-is in
    λ view asks done trace told. no_command c.args.asked _ (ap command_in is) asks

pub returns-in-Some-Serve-clause-generated : goal.returns-in-Some-Serve-clause-generated
returns-in-Some-Serve-clause-generated g c =
    let is : c.args.asked ≡ Some (ask.Serve c.in-Some-Serve.options) = c.in-Some-Serve.is ∙ ap Some c.in-Some-Serve.field-0-is in
    λ view seed blocks asks done. no_command c.args.asked _ (ap command_in is) asks

pub returns-in-Some-Serve-clause-accepted : goal.returns-in-Some-Serve-clause-accepted
returns-in-Some-Serve-clause-accepted g c =
    let is : c.args.asked ≡ Some (ask.Serve c.in-Some-Serve.options) = c.in-Some-Serve.is ∙ ap Some c.in-Some-Serve.field-0-is in
    λ seed blocks made asks refused. no_command c.args.asked _ (ap command_in is) asks

pub returns-in-Some-Serve-clause-read_again : goal.returns-in-Some-Serve-clause-read_again
returns-in-Some-Serve-clause-read_again g c =
    let is : c.args.asked ≡ Some (ask.Serve c.in-Some-Serve.options) = c.in-Some-Serve.is ∙ ap Some c.in-Some-Serve.field-0-is in
    λ view seed blocks asks few told refused. no_command c.args.asked _ (ap command_in is) asks

pub returns-in-Some-Serve-clause-answered : goal.returns-in-Some-Serve-clause-answered
returns-in-Some-Serve-clause-answered g c =
    let is : c.args.asked ≡ Some (ask.Serve c.in-Some-Serve.options) = c.in-Some-Serve.is ∙ ap Some c.in-Some-Serve.field-0-is in
    λ alone h. no_both (is_alone c.args.asked) (ap is_alone is) alone

pub returns-in-Some-Serve-clause-taken : goal.returns-in-Some-Serve-clause-taken
returns-in-Some-Serve-clause-taken g c =
    let is : c.args.asked ≡ Some (ask.Serve c.in-Some-Serve.options) = c.in-Some-Serve.is ∙ ap Some c.in-Some-Serve.field-0-is in
    λ alone h. no_both (is_alone c.args.asked) (ap is_alone is) alone

pub returns-in-Some-Serve-clause-nothing : goal.returns-in-Some-Serve-clause-nothing
returns-in-Some-Serve-clause-nothing g c =
    let is : c.args.asked ≡ Some (ask.Serve c.in-Some-Serve.options) = c.in-Some-Serve.is ∙ ap Some c.in-Some-Serve.field-0-is in
    λ alone h. no_both (is_alone c.args.asked) (ap is_alone is) alone

pub returns-in-Some-Serve-clause-broken : goal.returns-in-Some-Serve-clause-broken
returns-in-Some-Serve-clause-broken g c =
    let is : c.args.asked ≡ Some (ask.Serve c.in-Some-Serve.options) = c.in-Some-Serve.is ∙ ap Some c.in-Some-Serve.field-0-is in
    λ alone h. no_both (is_alone c.args.asked) (ap is_alone is) alone

pub returns-in-Some-Serve-clause-broken_off : goal.returns-in-Some-Serve-clause-broken_off
returns-in-Some-Serve-clause-broken_off g c =
    let is : c.args.asked ≡ Some (ask.Serve c.in-Some-Serve.options) = c.in-Some-Serve.is ∙ ap Some c.in-Some-Serve.field-0-is in
    λ alone h. no_both (is_alone c.args.asked) (ap is_alone is) alone

pub returns-in-Some-Serve-clause-starved : goal.returns-in-Some-Serve-clause-starved
returns-in-Some-Serve-clause-starved g c =
    let is : c.args.asked ≡ Some (ask.Serve c.in-Some-Serve.options) = c.in-Some-Serve.is ∙ ap Some c.in-Some-Serve.field-0-is in
    λ alone h. no_both (is_alone c.args.asked) (ap is_alone is) alone

pub returns-in-Some-Serve-clause-starved_off : goal.returns-in-Some-Serve-clause-starved_off
returns-in-Some-Serve-clause-starved_off g c =
    let is : c.args.asked ≡ Some (ask.Serve c.in-Some-Serve.options) = c.in-Some-Serve.is ∙ ap Some c.in-Some-Serve.field-0-is in
    λ alone h. no_both (is_alone c.args.asked) (ap is_alone is) alone

pub returns-in-Some-Serve-clause-known : goal.returns-in-Some-Serve-clause-known
returns-in-Some-Serve-clause-known g c =
    let is : c.args.asked ≡ Some (ask.Serve c.in-Some-Serve.options) = c.in-Some-Serve.is ∙ ap Some c.in-Some-Serve.field-0-is in
    λ alone. no_both (is_alone c.args.asked) (ap is_alone is) alone

pub returns-in-Some-Serve-clause-apart : goal.returns-in-Some-Serve-clause-apart
returns-in-Some-Serve-clause-apart g c =
    let is : c.args.asked ≡ Some (ask.Serve c.in-Some-Serve.options) = c.in-Some-Serve.is ∙ ap Some c.in-Some-Serve.field-0-is in
    λ alone. no_both (is_alone c.args.asked) (ap is_alone is) alone

pub returns-in-Some-Serve-clause-write_later : goal.returns-in-Some-Serve-clause-write_later
returns-in-Some-Serve-clause-write_later g c =
    c.run_serve.ensures.write_later

pub returns-in-Some-Serve-clause-write_fault : goal.returns-in-Some-Serve-clause-write_fault
returns-in-Some-Serve-clause-write_fault g c =
    c.run_serve.ensures.write_fault

pub returns-in-Some-Serve-clause-unread : goal.returns-in-Some-Serve-clause-unread
returns-in-Some-Serve-clause-unread g c =
    λ e. c.run_serve.ensures.unread

pub returns-in-Some-Serve-clause-read_later : goal.returns-in-Some-Serve-clause-read_later
returns-in-Some-Serve-clause-read_later g c =
    stays g.S.Source.faults c.args.out.source c.run_serve.result.1.source c.run_serve.ensures.unread

pub returns-in-Some-Serve-clause-serves : goal.returns-in-Some-Serve-clause-serves
returns-in-Some-Serve-clause-serves g c =
    let is : c.args.asked ≡ Some (ask.Serve c.in-Some-Serve.options) = c.in-Some-Serve.is ∙ ap Some c.in-Some-Serve.field-0-is in
    λ o e. serves_by c.in-Some-Serve.options o (g.N.Network.accepted c.args.out.network) (g.N.Network.accepted c.run_serve.result.1.network) (g.N.Network.faults c.args.out.network) (g.N.Network.faults c.run_serve.result.1.network) (g.D.Store.faults c.args.out.store) (g.D.Store.faults c.run_serve.result.1.store) (g.N.Network.at c.run_serve.result.1.network) (g.D.Store.records c.args.out.store) (g.D.Store.there c.args.out.store) (g.K.Sink.held c.args.out.sink) (g.K.Sink.held c.run_serve.result.1.sink) c.run_serve.result.0 (same_serve c.args.asked c.in-Some-Serve.options o is e) c.run_serve.ensures.serves

pub returns-in-Some-Serve-clause-unfiled : goal.returns-in-Some-Serve-clause-unfiled
returns-in-Some-Serve-clause-unfiled g c =
    λ o e. c.run_serve.ensures.unfiled

pub returns-in-Some-Serve-clause-mounts : goal.returns-in-Some-Serve-clause-mounts
returns-in-Some-Serve-clause-mounts g c =
    let is : c.args.asked ≡ Some (ask.Serve c.in-Some-Serve.options) = c.in-Some-Serve.is ∙ ap Some c.in-Some-Serve.field-0-is in
    λ o e. not_both c.args.asked c.in-Some-Serve.options o is e

pub returns-in-Some-Serve-clause-saved : goal.returns-in-Some-Serve-clause-saved
returns-in-Some-Serve-clause-saved g c =
    let is : c.args.asked ≡ Some (ask.Serve c.in-Some-Serve.options) = c.in-Some-Serve.is ∙ ap Some c.in-Some-Serve.field-0-is in
    λ o e. not_both c.args.asked c.in-Some-Serve.options o is e

pub returns-in-Some-Serve-clause-unstored : goal.returns-in-Some-Serve-clause-unstored
returns-in-Some-Serve-clause-unstored g c =
    let is : c.args.asked ≡ Some (ask.Serve c.in-Some-Serve.options) = c.in-Some-Serve.is ∙ ap Some c.in-Some-Serve.field-0-is in
    λ o e. not_both c.args.asked c.in-Some-Serve.options o is e

pub returns-in-Some-Serve-clause-network_fault : goal.returns-in-Some-Serve-clause-network_fault
returns-in-Some-Serve-clause-network_fault g c =
    λ e. inl (c.run_serve.ensures.network_fault e)

pub returns-in-Some-Serve-clause-store_fault : goal.returns-in-Some-Serve-clause-store_fault
returns-in-Some-Serve-clause-store_fault g c =
    c.run_serve.ensures.store_fault

pub returns-in-Some-Mount-clause-replayed : goal.returns-in-Some-Mount-clause-replayed
returns-in-Some-Mount-clause-replayed g c =
    let is : c.args.asked ≡ Some (ask.Mount c.in-Some-Mount.options) = c.in-Some-Mount.is ∙ ap Some c.in-Some-Mount.field-0-is in
    λ view asks done trace told. no_command c.args.asked _ (ap command_in is) asks

pub returns-in-Some-Mount-clause-generated : goal.returns-in-Some-Mount-clause-generated
returns-in-Some-Mount-clause-generated g c =
    let is : c.args.asked ≡ Some (ask.Mount c.in-Some-Mount.options) = c.in-Some-Mount.is ∙ ap Some c.in-Some-Mount.field-0-is in
    λ view seed blocks asks done. no_command c.args.asked _ (ap command_in is) asks

pub returns-in-Some-Mount-clause-accepted : goal.returns-in-Some-Mount-clause-accepted
returns-in-Some-Mount-clause-accepted g c =
    let is : c.args.asked ≡ Some (ask.Mount c.in-Some-Mount.options) = c.in-Some-Mount.is ∙ ap Some c.in-Some-Mount.field-0-is in
    λ seed blocks made asks refused. no_command c.args.asked _ (ap command_in is) asks

pub returns-in-Some-Mount-clause-read_again : goal.returns-in-Some-Mount-clause-read_again
returns-in-Some-Mount-clause-read_again g c =
    let is : c.args.asked ≡ Some (ask.Mount c.in-Some-Mount.options) = c.in-Some-Mount.is ∙ ap Some c.in-Some-Mount.field-0-is in
    λ view seed blocks asks few told refused. no_command c.args.asked _ (ap command_in is) asks

pub returns-in-Some-Mount-clause-answered : goal.returns-in-Some-Mount-clause-answered
returns-in-Some-Mount-clause-answered g c =
    let is : c.args.asked ≡ Some (ask.Mount c.in-Some-Mount.options) = c.in-Some-Mount.is ∙ ap Some c.in-Some-Mount.field-0-is in
    λ alone h. no_both (is_alone c.args.asked) (ap is_alone is) alone

pub returns-in-Some-Mount-clause-taken : goal.returns-in-Some-Mount-clause-taken
returns-in-Some-Mount-clause-taken g c =
    let is : c.args.asked ≡ Some (ask.Mount c.in-Some-Mount.options) = c.in-Some-Mount.is ∙ ap Some c.in-Some-Mount.field-0-is in
    λ alone h. no_both (is_alone c.args.asked) (ap is_alone is) alone

pub returns-in-Some-Mount-clause-nothing : goal.returns-in-Some-Mount-clause-nothing
returns-in-Some-Mount-clause-nothing g c =
    let is : c.args.asked ≡ Some (ask.Mount c.in-Some-Mount.options) = c.in-Some-Mount.is ∙ ap Some c.in-Some-Mount.field-0-is in
    λ alone h. no_both (is_alone c.args.asked) (ap is_alone is) alone

pub returns-in-Some-Mount-clause-broken : goal.returns-in-Some-Mount-clause-broken
returns-in-Some-Mount-clause-broken g c =
    let is : c.args.asked ≡ Some (ask.Mount c.in-Some-Mount.options) = c.in-Some-Mount.is ∙ ap Some c.in-Some-Mount.field-0-is in
    λ alone h. no_both (is_alone c.args.asked) (ap is_alone is) alone

pub returns-in-Some-Mount-clause-broken_off : goal.returns-in-Some-Mount-clause-broken_off
returns-in-Some-Mount-clause-broken_off g c =
    let is : c.args.asked ≡ Some (ask.Mount c.in-Some-Mount.options) = c.in-Some-Mount.is ∙ ap Some c.in-Some-Mount.field-0-is in
    λ alone h. no_both (is_alone c.args.asked) (ap is_alone is) alone

pub returns-in-Some-Mount-clause-starved : goal.returns-in-Some-Mount-clause-starved
returns-in-Some-Mount-clause-starved g c =
    let is : c.args.asked ≡ Some (ask.Mount c.in-Some-Mount.options) = c.in-Some-Mount.is ∙ ap Some c.in-Some-Mount.field-0-is in
    λ alone h. no_both (is_alone c.args.asked) (ap is_alone is) alone

pub returns-in-Some-Mount-clause-starved_off : goal.returns-in-Some-Mount-clause-starved_off
returns-in-Some-Mount-clause-starved_off g c =
    let is : c.args.asked ≡ Some (ask.Mount c.in-Some-Mount.options) = c.in-Some-Mount.is ∙ ap Some c.in-Some-Mount.field-0-is in
    λ alone h. no_both (is_alone c.args.asked) (ap is_alone is) alone

pub returns-in-Some-Mount-clause-known : goal.returns-in-Some-Mount-clause-known
returns-in-Some-Mount-clause-known g c =
    let is : c.args.asked ≡ Some (ask.Mount c.in-Some-Mount.options) = c.in-Some-Mount.is ∙ ap Some c.in-Some-Mount.field-0-is in
    λ alone. no_both (is_alone c.args.asked) (ap is_alone is) alone

pub returns-in-Some-Mount-clause-apart : goal.returns-in-Some-Mount-clause-apart
returns-in-Some-Mount-clause-apart g c =
    let is : c.args.asked ≡ Some (ask.Mount c.in-Some-Mount.options) = c.in-Some-Mount.is ∙ ap Some c.in-Some-Mount.field-0-is in
    λ alone. no_both (is_alone c.args.asked) (ap is_alone is) alone

pub returns-in-Some-Mount-clause-write_later : goal.returns-in-Some-Mount-clause-write_later
returns-in-Some-Mount-clause-write_later g c =
    c.run_mount.ensures.write_later

pub returns-in-Some-Mount-clause-write_fault : goal.returns-in-Some-Mount-clause-write_fault
returns-in-Some-Mount-clause-write_fault g c =
    c.run_mount.ensures.write_fault

pub returns-in-Some-Mount-clause-unread : goal.returns-in-Some-Mount-clause-unread
returns-in-Some-Mount-clause-unread g c =
    let is : c.args.asked ≡ Some (ask.Mount c.in-Some-Mount.options) = c.in-Some-Mount.is ∙ ap Some c.in-Some-Mount.field-0-is in
    λ e. no_both (takes_input c.args.asked) e (ap takes_input is)

pub returns-in-Some-Mount-clause-read_later : goal.returns-in-Some-Mount-clause-read_later
returns-in-Some-Mount-clause-read_later g c =
    c.run_mount.ensures.read_later

pub returns-in-Some-Mount-clause-read_fault : goal.returns-in-Some-Mount-clause-read_fault
returns-in-Some-Mount-clause-read_fault g c =
    c.run_mount.ensures.read_fault

pub returns-in-Some-Mount-clause-serves : goal.returns-in-Some-Mount-clause-serves
returns-in-Some-Mount-clause-serves g c =
    let is : c.args.asked ≡ Some (ask.Mount c.in-Some-Mount.options) = c.in-Some-Mount.is ∙ ap Some c.in-Some-Mount.field-0-is in
    λ o e. not_both c.args.asked o c.in-Some-Mount.options e is

pub returns-in-Some-Mount-clause-unfiled : goal.returns-in-Some-Mount-clause-unfiled
returns-in-Some-Mount-clause-unfiled g c =
    let is : c.args.asked ≡ Some (ask.Mount c.in-Some-Mount.options) = c.in-Some-Mount.is ∙ ap Some c.in-Some-Mount.field-0-is in
    λ o e. not_both c.args.asked o c.in-Some-Mount.options e is

pub returns-in-Some-Mount-clause-mounts : goal.returns-in-Some-Mount-clause-mounts
returns-in-Some-Mount-clause-mounts g c =
    let is : c.args.asked ≡ Some (ask.Mount c.in-Some-Mount.options) = c.in-Some-Mount.is ∙ ap Some c.in-Some-Mount.field-0-is in
    λ o e. mounts_by (λ b. MountEnds (SaysAt g.row.F.Denot g.N.L.Link.held g.N.L.Link.faults) b (g.S.Source.left c.args.out.source) (g.S.Source.left c.run_mount.result.1.source) (g.K.Sink.held c.args.out.sink) (g.K.Sink.held c.run_mount.result.1.sink) (g.S.Source.faults c.args.out.source) (g.S.Source.faults c.run_mount.result.1.source) (g.K.Sink.faults c.args.out.sink) (g.N.Network.faults c.args.out.network) (g.N.Network.faults c.run_mount.result.1.network) (IsFaulty g.N.L.Link.faults c.run_mount.result.2) c.run_mount.result.0)
    c.in-Some-Mount.options o (same_mount c.args.asked c.in-Some-Mount.options o is e) c.run_mount.ensures.mounts

pub returns-in-Some-Mount-clause-saved : goal.returns-in-Some-Mount-clause-saved
returns-in-Some-Mount-clause-saved g c =
    let is : c.args.asked ≡ Some (ask.Mount c.in-Some-Mount.options) = c.in-Some-Mount.is ∙ ap Some c.in-Some-Mount.field-0-is in
    λ o e. saved_by _ _ c.in-Some-Mount.options o (same_mount c.args.asked c.in-Some-Mount.options o is e) c.run_mount.ensures.saved

pub returns-in-Some-Mount-clause-unstored : goal.returns-in-Some-Mount-clause-unstored
returns-in-Some-Mount-clause-unstored g c =
    λ o e. c.run_mount.ensures.unstored

pub returns-in-Some-Mount-clause-network_fault : goal.returns-in-Some-Mount-clause-network_fault
returns-in-Some-Mount-clause-network_fault g c =
    c.run_mount.ensures.network_fault

pub returns-in-None-clause-replayed : goal.returns-in-None-clause-replayed
returns-in-None-clause-replayed g c =
    let is : c.args.asked ≡ None = c.in-None.is in
    λ view asks done trace told. c.run_plain-in-None.ensures.replayed view ((sym (ap command_in is)) ∙ asks) done trace told

pub returns-in-None-clause-generated : goal.returns-in-None-clause-generated
returns-in-None-clause-generated g c =
    let is : c.args.asked ≡ None = c.in-None.is in
    λ view seed blocks asks done. c.run_plain-in-None.ensures.generated view seed blocks ((sym (ap command_in is)) ∙ asks) done

pub returns-in-None-clause-accepted : goal.returns-in-None-clause-accepted
returns-in-None-clause-accepted g c =
    let is : c.args.asked ≡ None = c.in-None.is in
    λ seed blocks made asks refused. c.run_plain-in-None.ensures.accepted seed blocks made ((sym (ap command_in is)) ∙ asks) refused

pub returns-in-None-clause-read_again : goal.returns-in-None-clause-read_again
returns-in-None-clause-read_again g c =
    let is : c.args.asked ≡ None = c.in-None.is in
    λ view seed blocks asks few told refused. c.run_plain-in-None.ensures.read_again view seed blocks ((sym (ap command_in is)) ∙ asks) few told refused

pub returns-in-None-clause-answered : goal.returns-in-None-clause-answered
returns-in-None-clause-answered g c =
    let is : c.args.asked ≡ None = c.in-None.is in
    λ alone h. answered_by None (command_in c.args.asked) (g.S.Source.left c.args.out.source) (g.K.Sink.held c.args.out.sink) (g.K.Sink.held c.run_plain-in-None.result.1.sink) c.run_plain-in-None.result.0 (sym (ap command_in is)) (c.run_plain-in-None.ensures.answered h)

pub returns-in-None-clause-taken : goal.returns-in-None-clause-taken
returns-in-None-clause-taken g c =
    let is : c.args.asked ≡ None = c.in-None.is in
    λ alone h. taken_by None (command_in c.args.asked) (g.S.Source.left c.args.out.source) (g.S.Source.left c.run_plain-in-None.result.1.source) (g.K.Sink.held c.args.out.sink) (g.K.Sink.held c.run_plain-in-None.result.1.sink) c.run_plain-in-None.result.0 (sym (ap command_in is)) (c.run_plain-in-None.ensures.taken h)

pub returns-in-None-clause-unread : goal.returns-in-None-clause-unread
returns-in-None-clause-unread g c =
    λ e. c.run_plain-in-None.ensures.unread refl

pub returns-in-None-clause-read_later : goal.returns-in-None-clause-read_later
returns-in-None-clause-read_later g c =
    c.run_plain-in-None.ensures.read_later

pub returns-in-None-clause-write_later : goal.returns-in-None-clause-write_later
returns-in-None-clause-write_later g c =
    c.run_plain-in-None.ensures.write_later

pub returns-in-None-clause-read_fault : goal.returns-in-None-clause-read_fault
returns-in-None-clause-read_fault g c =
    c.run_plain-in-None.ensures.read_fault

pub returns-in-None-clause-write_fault : goal.returns-in-None-clause-write_fault
returns-in-None-clause-write_fault g c =
    c.run_plain-in-None.ensures.write_fault

pub returns-in-None-clause-nothing : goal.returns-in-None-clause-nothing
returns-in-None-clause-nothing g c =
    λ alone. c.run_plain-in-None.ensures.nothing

pub returns-in-None-clause-broken : goal.returns-in-None-clause-broken
returns-in-None-clause-broken g c =
    let is : c.args.asked ≡ None = c.in-None.is in
    λ alone h. broken_by None (command_in c.args.asked) (g.S.Source.left c.args.out.source) (g.K.Sink.held c.args.out.sink) (g.K.Sink.held c.run_plain-in-None.result.1.sink) (sym (ap command_in is)) (c.run_plain-in-None.ensures.broken h)

pub returns-in-None-clause-broken_off : goal.returns-in-None-clause-broken_off
returns-in-None-clause-broken_off g c =
    let is : c.args.asked ≡ None = c.in-None.is in
    λ alone h. broken_off_by None (command_in c.args.asked) (g.S.Source.left c.args.out.source) (g.S.Source.left c.run_plain-in-None.result.1.source) (g.K.Sink.held c.args.out.sink) (g.K.Sink.held c.run_plain-in-None.result.1.sink) (sym (ap command_in is)) (c.run_plain-in-None.ensures.broken_off h)

pub returns-in-None-clause-starved : goal.returns-in-None-clause-starved
returns-in-None-clause-starved g c =
    let is : c.args.asked ≡ None = c.in-None.is in
    λ alone h. starved_by None (command_in c.args.asked) (g.S.Source.left c.args.out.source) (g.K.Sink.held c.args.out.sink) (g.K.Sink.held c.run_plain-in-None.result.1.sink) (sym (ap command_in is)) (c.run_plain-in-None.ensures.starved h)

pub returns-in-None-clause-starved_off : goal.returns-in-None-clause-starved_off
returns-in-None-clause-starved_off g c =
    let is : c.args.asked ≡ None = c.in-None.is in
    λ alone h. starved_off_by (c.run_plain-in-None.result.1.sink ≡ c.args.out.sink) None (command_in c.args.asked) (g.S.Source.left c.args.out.source) (g.S.Source.left c.run_plain-in-None.result.1.source) (g.K.Sink.held c.args.out.sink) (g.K.Sink.held c.run_plain-in-None.result.1.sink) (sym (ap command_in is)) (c.run_plain-in-None.ensures.starved_off h)

pub returns-in-None-clause-known : goal.returns-in-None-clause-known
returns-in-None-clause-known g c =
    λ alone. c.run_plain-in-None.ensures.known

pub returns-in-None-clause-apart : goal.returns-in-None-clause-apart
returns-in-None-clause-apart g c =
    λ alone. c.run_plain-in-None.ensures.apart

pub returns-in-None-clause-serves : goal.returns-in-None-clause-serves
returns-in-None-clause-serves g c =
    let is : c.args.asked ≡ None = c.in-None.is in
    λ o e. not_some c.args.asked (ask.Serve o) is e

pub returns-in-None-clause-unfiled : goal.returns-in-None-clause-unfiled
returns-in-None-clause-unfiled g c =
    let is : c.args.asked ≡ None = c.in-None.is in
    λ o e. not_some c.args.asked (ask.Serve o) is e

pub returns-in-None-clause-mounts : goal.returns-in-None-clause-mounts
returns-in-None-clause-mounts g c =
    let is : c.args.asked ≡ None = c.in-None.is in
    λ o e. not_some c.args.asked (ask.Mount o) is e

pub returns-in-None-clause-saved : goal.returns-in-None-clause-saved
returns-in-None-clause-saved g c =
    let is : c.args.asked ≡ None = c.in-None.is in
    λ o e. not_some c.args.asked (ask.Mount o) is e

pub returns-in-None-clause-unstored : goal.returns-in-None-clause-unstored
returns-in-None-clause-unstored g c =
    let is : c.args.asked ≡ None = c.in-None.is in
    λ o e. not_some c.args.asked (ask.Mount o) is e

pub returns-in-Some-Check-clause-replayed : goal.returns-in-Some-Check-clause-replayed
returns-in-Some-Check-clause-replayed g c =
    let is : c.args.asked ≡ Some (ask.Check c.in-Some-Check.options) = c.in-Some-Check.is ∙ ap Some c.in-Some-Check.field-0-is in
    λ view asks done trace told. no_command c.args.asked _ (ap command_in is) asks

pub returns-in-Some-Check-clause-generated : goal.returns-in-Some-Check-clause-generated
returns-in-Some-Check-clause-generated g c =
    let is : c.args.asked ≡ Some (ask.Check c.in-Some-Check.options) = c.in-Some-Check.is ∙ ap Some c.in-Some-Check.field-0-is in
    λ view seed blocks asks done. no_command c.args.asked _ (ap command_in is) asks

pub returns-in-Some-Check-clause-accepted : goal.returns-in-Some-Check-clause-accepted
returns-in-Some-Check-clause-accepted g c =
    let is : c.args.asked ≡ Some (ask.Check c.in-Some-Check.options) = c.in-Some-Check.is ∙ ap Some c.in-Some-Check.field-0-is in
    λ seed blocks made asks refused. no_command c.args.asked _ (ap command_in is) asks

pub returns-in-Some-Check-clause-read_again : goal.returns-in-Some-Check-clause-read_again
returns-in-Some-Check-clause-read_again g c =
    let is : c.args.asked ≡ Some (ask.Check c.in-Some-Check.options) = c.in-Some-Check.is ∙ ap Some c.in-Some-Check.field-0-is in
    λ view seed blocks asks few told refused. no_command c.args.asked _ (ap command_in is) asks

pub returns-in-Some-Check-clause-answered : goal.returns-in-Some-Check-clause-answered
returns-in-Some-Check-clause-answered g c =
    let is : c.args.asked ≡ Some (ask.Check c.in-Some-Check.options) = c.in-Some-Check.is ∙ ap Some c.in-Some-Check.field-0-is in
    λ alone h. no_both (is_alone c.args.asked) (ap is_alone is) alone

pub returns-in-Some-Check-clause-taken : goal.returns-in-Some-Check-clause-taken
returns-in-Some-Check-clause-taken g c =
    let is : c.args.asked ≡ Some (ask.Check c.in-Some-Check.options) = c.in-Some-Check.is ∙ ap Some c.in-Some-Check.field-0-is in
    λ alone h. no_both (is_alone c.args.asked) (ap is_alone is) alone

pub returns-in-Some-Check-clause-nothing : goal.returns-in-Some-Check-clause-nothing
returns-in-Some-Check-clause-nothing g c =
    let is : c.args.asked ≡ Some (ask.Check c.in-Some-Check.options) = c.in-Some-Check.is ∙ ap Some c.in-Some-Check.field-0-is in
    λ alone h. no_both (is_alone c.args.asked) (ap is_alone is) alone

pub returns-in-Some-Check-clause-broken : goal.returns-in-Some-Check-clause-broken
returns-in-Some-Check-clause-broken g c =
    let is : c.args.asked ≡ Some (ask.Check c.in-Some-Check.options) = c.in-Some-Check.is ∙ ap Some c.in-Some-Check.field-0-is in
    λ alone h. no_both (is_alone c.args.asked) (ap is_alone is) alone

pub returns-in-Some-Check-clause-broken_off : goal.returns-in-Some-Check-clause-broken_off
returns-in-Some-Check-clause-broken_off g c =
    let is : c.args.asked ≡ Some (ask.Check c.in-Some-Check.options) = c.in-Some-Check.is ∙ ap Some c.in-Some-Check.field-0-is in
    λ alone h. no_both (is_alone c.args.asked) (ap is_alone is) alone

pub returns-in-Some-Check-clause-starved : goal.returns-in-Some-Check-clause-starved
returns-in-Some-Check-clause-starved g c =
    let is : c.args.asked ≡ Some (ask.Check c.in-Some-Check.options) = c.in-Some-Check.is ∙ ap Some c.in-Some-Check.field-0-is in
    λ alone h. no_both (is_alone c.args.asked) (ap is_alone is) alone

pub returns-in-Some-Check-clause-starved_off : goal.returns-in-Some-Check-clause-starved_off
returns-in-Some-Check-clause-starved_off g c =
    let is : c.args.asked ≡ Some (ask.Check c.in-Some-Check.options) = c.in-Some-Check.is ∙ ap Some c.in-Some-Check.field-0-is in
    λ alone h. no_both (is_alone c.args.asked) (ap is_alone is) alone

pub returns-in-Some-Check-clause-known : goal.returns-in-Some-Check-clause-known
returns-in-Some-Check-clause-known g c =
    let is : c.args.asked ≡ Some (ask.Check c.in-Some-Check.options) = c.in-Some-Check.is ∙ ap Some c.in-Some-Check.field-0-is in
    λ alone. no_both (is_alone c.args.asked) (ap is_alone is) alone

pub returns-in-Some-Check-clause-apart : goal.returns-in-Some-Check-clause-apart
returns-in-Some-Check-clause-apart g c =
    let is : c.args.asked ≡ Some (ask.Check c.in-Some-Check.options) = c.in-Some-Check.is ∙ ap Some c.in-Some-Check.field-0-is in
    λ alone. no_both (is_alone c.args.asked) (ap is_alone is) alone

pub returns-in-Some-Check-clause-write_later : goal.returns-in-Some-Check-clause-write_later
returns-in-Some-Check-clause-write_later g c =
    c.run_check.ensures.write_later

pub returns-in-Some-Check-clause-write_fault : goal.returns-in-Some-Check-clause-write_fault
returns-in-Some-Check-clause-write_fault g c =
    c.run_check.ensures.write_fault

pub returns-in-Some-Check-clause-unread : goal.returns-in-Some-Check-clause-unread
returns-in-Some-Check-clause-unread g c =
    λ e. c.run_check.ensures.unread

pub returns-in-Some-Check-clause-read_later : goal.returns-in-Some-Check-clause-read_later
returns-in-Some-Check-clause-read_later g c =
    stays g.S.Source.faults c.args.out.source c.run_check.result.1.source c.run_check.ensures.unread

pub returns-in-Some-Check-clause-serves : goal.returns-in-Some-Check-clause-serves
returns-in-Some-Check-clause-serves g c =
    let is : c.args.asked ≡ Some (ask.Check c.in-Some-Check.options) = c.in-Some-Check.is ∙ ap Some c.in-Some-Check.field-0-is in
    λ o e. check_not_serve c.args.asked c.in-Some-Check.options o is e

pub returns-in-Some-Check-clause-unfiled : goal.returns-in-Some-Check-clause-unfiled
returns-in-Some-Check-clause-unfiled g c =
    let is : c.args.asked ≡ Some (ask.Check c.in-Some-Check.options) = c.in-Some-Check.is ∙ ap Some c.in-Some-Check.field-0-is in
    λ o e. check_not_serve c.args.asked c.in-Some-Check.options o is e

pub returns-in-Some-Check-clause-mounts : goal.returns-in-Some-Check-clause-mounts
returns-in-Some-Check-clause-mounts g c =
    let is : c.args.asked ≡ Some (ask.Check c.in-Some-Check.options) = c.in-Some-Check.is ∙ ap Some c.in-Some-Check.field-0-is in
    λ o e. check_not_mount c.args.asked c.in-Some-Check.options o is e

pub returns-in-Some-Check-clause-saved : goal.returns-in-Some-Check-clause-saved
returns-in-Some-Check-clause-saved g c =
    let is : c.args.asked ≡ Some (ask.Check c.in-Some-Check.options) = c.in-Some-Check.is ∙ ap Some c.in-Some-Check.field-0-is in
    λ o e. check_not_mount c.args.asked c.in-Some-Check.options o is e

pub returns-in-Some-Check-clause-unstored : goal.returns-in-Some-Check-clause-unstored
returns-in-Some-Check-clause-unstored g c =
    let is : c.args.asked ≡ Some (ask.Check c.in-Some-Check.options) = c.in-Some-Check.is ∙ ap Some c.in-Some-Check.field-0-is in
    λ o e. check_not_mount c.args.asked c.in-Some-Check.options o is e

pub returns-in-Some-Check-clause-store_fault : goal.returns-in-Some-Check-clause-store_fault
returns-in-Some-Check-clause-store_fault g c =
    c.run_check.ensures.store_fault

pub returns-in-Some-Check-clause-checks : goal.returns-in-Some-Check-clause-checks
returns-in-Some-Check-clause-checks g c =
    let is : c.args.asked ≡ Some (ask.Check c.in-Some-Check.options) = c.in-Some-Check.is ∙ ap Some c.in-Some-Check.field-0-is in
    λ o e. checks_by c.in-Some-Check.options o (g.D.Store.faults c.args.out.store) (g.D.Store.faults c.run_check.result.1.store) (g.D.Store.records c.args.out.store) (g.D.Store.there c.args.out.store) (g.K.Sink.held c.args.out.sink) (g.K.Sink.held c.run_check.result.1.sink) c.run_check.result.0 (same_check c.args.asked c.in-Some-Check.options o is e) c.run_check.ensures.checks

pub returns-in-Some-Check-clause-unchanged : goal.returns-in-Some-Check-clause-unchanged
returns-in-Some-Check-clause-unchanged g c =
    λ o e. (c.run_check.ensures.kept, c.run_check.ensures.unfiled, c.run_check.ensures.apart)

pub returns-in-Some-Command-clause-checks : goal.returns-in-Some-Command-clause-checks
returns-in-Some-Command-clause-checks g c =
    let is : c.args.asked ≡ Some (ask.Command c.in-Some-Command.command) = c.in-Some-Command.is ∙ ap Some c.in-Some-Command.field-0-is in
    λ o e. not_check c.args.asked c.in-Some-Command.command o is e

pub returns-in-Some-Command-clause-unchanged : goal.returns-in-Some-Command-clause-unchanged
returns-in-Some-Command-clause-unchanged g c =
    let is : c.args.asked ≡ Some (ask.Command c.in-Some-Command.command) = c.in-Some-Command.is ∙ ap Some c.in-Some-Command.field-0-is in
    λ o e. not_check c.args.asked c.in-Some-Command.command o is e

pub returns-in-Some-Serve-clause-checks : goal.returns-in-Some-Serve-clause-checks
returns-in-Some-Serve-clause-checks g c =
    let is : c.args.asked ≡ Some (ask.Serve c.in-Some-Serve.options) = c.in-Some-Serve.is ∙ ap Some c.in-Some-Serve.field-0-is in
    λ o e. check_not_serve c.args.asked o c.in-Some-Serve.options e is

pub returns-in-Some-Serve-clause-unchanged : goal.returns-in-Some-Serve-clause-unchanged
returns-in-Some-Serve-clause-unchanged g c =
    let is : c.args.asked ≡ Some (ask.Serve c.in-Some-Serve.options) = c.in-Some-Serve.is ∙ ap Some c.in-Some-Serve.field-0-is in
    λ o e. check_not_serve c.args.asked o c.in-Some-Serve.options e is

pub returns-in-Some-Mount-clause-checks : goal.returns-in-Some-Mount-clause-checks
returns-in-Some-Mount-clause-checks g c =
    let is : c.args.asked ≡ Some (ask.Mount c.in-Some-Mount.options) = c.in-Some-Mount.is ∙ ap Some c.in-Some-Mount.field-0-is in
    λ o e. check_not_mount c.args.asked o c.in-Some-Mount.options e is

pub returns-in-Some-Mount-clause-unchanged : goal.returns-in-Some-Mount-clause-unchanged
returns-in-Some-Mount-clause-unchanged g c =
    let is : c.args.asked ≡ Some (ask.Mount c.in-Some-Mount.options) = c.in-Some-Mount.is ∙ ap Some c.in-Some-Mount.field-0-is in
    λ o e. check_not_mount c.args.asked o c.in-Some-Mount.options e is

pub returns-in-None-clause-checks : goal.returns-in-None-clause-checks
returns-in-None-clause-checks g c =
    let is : c.args.asked ≡ None = c.in-None.is in
    λ o e. not_some c.args.asked (ask.Check o) is e

pub returns-in-None-clause-unchanged : goal.returns-in-None-clause-unchanged
returns-in-None-clause-unchanged g c =
    let is : c.args.asked ≡ None = c.in-None.is in
    λ o e. not_some c.args.asked (ask.Check o) is e
