use Rattle.std.proofs.Common.{◌≡◌, Err, refl, ap, ◌∙◌, inl}
use Rattle.lbfs_mount.specs.declared.mount_error.MountError.TheVariants as mount_errors
use Rattle.lbfs_server.specs.declared.serve.ServeError.TheVariants as serve_errors
use Rattle.store.specs.declared.store.StoreError.TheVariants as store_errors
use Rattle.program_words.specs.declared.asked.View.TheVariants.{History}
use Rattle.program_words.specs.Rows.{replay_alone}
use Rattle.program_words.specs.Words.{asked_of, command_in, command_of, is_alone}
use Rattle.lbfs_run.specs.Ends.{takes_input}
use Rattle.lbfs_run.specs.Words.{words_as_bytes}
use Rattle.std.specs.Prelude.{is_some}
use Rattle.lbfs_run.proofs.Asking.{answered_by, taken_by, broken_by, broken_off_by, starved_by, starved_off_by, memory_not_done, nothing, none_written}
use Rattle.lbfs_run.proofs.run.run.Goals as goal

pub returns-in-Ok-clause-headline : goal.returns-in-Ok-clause-headline
returns-in-Ok-clause-headline g c =
    let is : c.in-Ok.asked ≡ asked_of (words_as_bytes c.args.words.now) = c.in-Ok.ensures.asked in
    λ words done input told. c.run_asked.ensures.replayed History ((ap command_in is) ∙ ap command_of words ∙ replay_alone) done input told

pub returns-in-Ok-clause-replayed : goal.returns-in-Ok-clause-replayed
returns-in-Ok-clause-replayed g c =
    let is : c.in-Ok.asked ≡ asked_of (words_as_bytes c.args.words.now) = c.in-Ok.ensures.asked in
    λ view asks done trace told. c.run_asked.ensures.replayed view ((ap command_in is) ∙ asks) done trace told

pub returns-in-Ok-clause-generated : goal.returns-in-Ok-clause-generated
returns-in-Ok-clause-generated g c =
    let is : c.in-Ok.asked ≡ asked_of (words_as_bytes c.args.words.now) = c.in-Ok.ensures.asked in
    λ view seed blocks asks done. c.run_asked.ensures.generated view seed blocks ((ap command_in is) ∙ asks) done

pub returns-in-Ok-clause-accepted : goal.returns-in-Ok-clause-accepted
returns-in-Ok-clause-accepted g c =
    let is : c.in-Ok.asked ≡ asked_of (words_as_bytes c.args.words.now) = c.in-Ok.ensures.asked in
    λ seed blocks made asks refused. c.run_asked.ensures.accepted seed blocks made ((ap command_in is) ∙ asks) refused

pub returns-in-Ok-clause-read_again : goal.returns-in-Ok-clause-read_again
returns-in-Ok-clause-read_again g c =
    let is : c.in-Ok.asked ≡ asked_of (words_as_bytes c.args.words.now) = c.in-Ok.ensures.asked in
    λ view seed blocks asks few told refused. c.run_asked.ensures.read_again view seed blocks ((ap command_in is) ∙ asks) few told refused

pub returns-in-Ok-clause-answered : goal.returns-in-Ok-clause-answered
returns-in-Ok-clause-answered g c =
    let is : c.in-Ok.asked ≡ asked_of (words_as_bytes c.args.words.now) = c.in-Ok.ensures.asked in
    λ alone h. answered_by (command_in c.in-Ok.asked) (command_of (words_as_bytes c.args.words.now)) (g.S.Source.left c.args.out.source) (g.K.Sink.held c.args.out.sink) (g.K.Sink.held c.run_asked.result.1.sink) c.run_asked.result.0 (ap command_in is) (c.run_asked.ensures.answered (ap is_alone is ∙ alone) h)

pub returns-in-Ok-clause-taken : goal.returns-in-Ok-clause-taken
returns-in-Ok-clause-taken g c =
    let is : c.in-Ok.asked ≡ asked_of (words_as_bytes c.args.words.now) = c.in-Ok.ensures.asked in
    λ alone h. taken_by (command_in c.in-Ok.asked) (command_of (words_as_bytes c.args.words.now)) (g.S.Source.left c.args.out.source) (g.S.Source.left c.run_asked.result.1.source) (g.K.Sink.held c.args.out.sink) (g.K.Sink.held c.run_asked.result.1.sink) c.run_asked.result.0 (ap command_in is) (c.run_asked.ensures.taken (ap is_alone is ∙ alone) h)

pub returns-in-Ok-clause-unread : goal.returns-in-Ok-clause-unread
returns-in-Ok-clause-unread g c =
    let is : c.in-Ok.asked ≡ asked_of (words_as_bytes c.args.words.now) = c.in-Ok.ensures.asked in
    λ e. c.run_asked.ensures.unread (ap takes_input is ∙ e)

pub returns-in-Ok-clause-read_later : goal.returns-in-Ok-clause-read_later
returns-in-Ok-clause-read_later g c =
    c.run_asked.ensures.read_later

pub returns-in-Ok-clause-write_later : goal.returns-in-Ok-clause-write_later
returns-in-Ok-clause-write_later g c =
    c.run_asked.ensures.write_later

pub returns-in-Ok-clause-read_fault : goal.returns-in-Ok-clause-read_fault
returns-in-Ok-clause-read_fault g c =
    c.run_asked.ensures.read_fault

pub returns-in-Ok-clause-write_fault : goal.returns-in-Ok-clause-write_fault
returns-in-Ok-clause-write_fault g c =
    c.run_asked.ensures.write_fault

pub returns-in-Ok-clause-network_fault : goal.returns-in-Ok-clause-network_fault
returns-in-Ok-clause-network_fault g c =
    c.run_asked.ensures.network_fault

pub returns-in-Ok-clause-store_fault : goal.returns-in-Ok-clause-store_fault
returns-in-Ok-clause-store_fault g c =
    c.run_asked.ensures.store_fault

pub returns-in-Ok-clause-nothing : goal.returns-in-Ok-clause-nothing
returns-in-Ok-clause-nothing g c =
    let is : c.in-Ok.asked ≡ asked_of (words_as_bytes c.args.words.now) = c.in-Ok.ensures.asked in
    λ alone. c.run_asked.ensures.nothing (ap is_alone is ∙ alone)

pub returns-in-Ok-clause-broken : goal.returns-in-Ok-clause-broken
returns-in-Ok-clause-broken g c =
    let is : c.in-Ok.asked ≡ asked_of (words_as_bytes c.args.words.now) = c.in-Ok.ensures.asked in
    λ alone h. broken_by (command_in c.in-Ok.asked) (command_of (words_as_bytes c.args.words.now)) (g.S.Source.left c.args.out.source) (g.K.Sink.held c.args.out.sink) (g.K.Sink.held c.run_asked.result.1.sink) (ap command_in is) (c.run_asked.ensures.broken (ap is_alone is ∙ alone) h)

pub returns-in-Ok-clause-broken_off : goal.returns-in-Ok-clause-broken_off
returns-in-Ok-clause-broken_off g c =
    let is : c.in-Ok.asked ≡ asked_of (words_as_bytes c.args.words.now) = c.in-Ok.ensures.asked in
    λ alone h. broken_off_by (command_in c.in-Ok.asked) (command_of (words_as_bytes c.args.words.now)) (g.S.Source.left c.args.out.source) (g.S.Source.left c.run_asked.result.1.source) (g.K.Sink.held c.args.out.sink) (g.K.Sink.held c.run_asked.result.1.sink) (ap command_in is) (c.run_asked.ensures.broken_off (ap is_alone is ∙ alone) h)

pub returns-in-Ok-clause-starved : goal.returns-in-Ok-clause-starved
returns-in-Ok-clause-starved g c =
    let is : c.in-Ok.asked ≡ asked_of (words_as_bytes c.args.words.now) = c.in-Ok.ensures.asked in
    λ alone h. starved_by (command_in c.in-Ok.asked) (command_of (words_as_bytes c.args.words.now)) (g.S.Source.left c.args.out.source) (g.K.Sink.held c.args.out.sink) (g.K.Sink.held c.run_asked.result.1.sink) (ap command_in is) (c.run_asked.ensures.starved (ap is_alone is ∙ alone) h)

pub returns-in-Ok-clause-starved_off : goal.returns-in-Ok-clause-starved_off
returns-in-Ok-clause-starved_off g c =
    let is : c.in-Ok.asked ≡ asked_of (words_as_bytes c.args.words.now) = c.in-Ok.ensures.asked in
    λ alone h. starved_off_by (c.run_asked.result.1.sink ≡ c.args.out.sink) (command_in c.in-Ok.asked) (command_of (words_as_bytes c.args.words.now)) (g.S.Source.left c.args.out.source) (g.S.Source.left c.run_asked.result.1.source) (g.K.Sink.held c.args.out.sink) (g.K.Sink.held c.run_asked.result.1.sink) (ap command_in is) (c.run_asked.ensures.starved_off (ap is_alone is ∙ alone) h)

pub returns-in-Ok-clause-known : goal.returns-in-Ok-clause-known
returns-in-Ok-clause-known g c =
    let is : c.in-Ok.asked ≡ asked_of (words_as_bytes c.args.words.now) = c.in-Ok.ensures.asked in
    λ alone. c.run_asked.ensures.known (ap is_alone is ∙ alone)

pub returns-in-Ok-clause-apart : goal.returns-in-Ok-clause-apart
returns-in-Ok-clause-apart g c =
    let is : c.in-Ok.asked ≡ asked_of (words_as_bytes c.args.words.now) = c.in-Ok.ensures.asked in
    λ alone. c.run_asked.ensures.apart (ap is_alone is ∙ alone)

pub returns-in-Ok-clause-serves : goal.returns-in-Ok-clause-serves
returns-in-Ok-clause-serves g c =
    let is : c.in-Ok.asked ≡ asked_of (words_as_bytes c.args.words.now) = c.in-Ok.ensures.asked in
    λ o e. c.run_asked.ensures.serves o (is ∙ e)

pub returns-in-Ok-clause-unfiled : goal.returns-in-Ok-clause-unfiled
returns-in-Ok-clause-unfiled g c =
    let is : c.in-Ok.asked ≡ asked_of (words_as_bytes c.args.words.now) = c.in-Ok.ensures.asked in
    λ o e. c.run_asked.ensures.unfiled o (is ∙ e)

pub returns-in-Ok-clause-mounts : goal.returns-in-Ok-clause-mounts
returns-in-Ok-clause-mounts g c =
    let is : c.in-Ok.asked ≡ asked_of (words_as_bytes c.args.words.now) = c.in-Ok.ensures.asked in
    λ o e. c.run_asked.ensures.mounts o (is ∙ e)

pub returns-in-Ok-clause-saved : goal.returns-in-Ok-clause-saved
returns-in-Ok-clause-saved g c =
    let is : c.in-Ok.asked ≡ asked_of (words_as_bytes c.args.words.now) = c.in-Ok.ensures.asked in
    λ o e. c.run_asked.ensures.saved o (is ∙ e)

pub returns-in-Ok-clause-unstored : goal.returns-in-Ok-clause-unstored
returns-in-Ok-clause-unstored g c =
    let is : c.in-Ok.asked ≡ asked_of (words_as_bytes c.args.words.now) = c.in-Ok.ensures.asked in
    λ o e. c.run_asked.ensures.unstored o (is ∙ e)

pub returns-in-Err-clause-saved : goal.returns-in-Err-clause-saved
returns-in-Err-clause-saved g c = λ o e done. absurd (memory_not_done done)

pub returns-in-Err-clause-serves : goal.returns-in-Err-clause-serves
returns-in-Err-clause-serves g c =
    λ o e. (Err serve_errors.Memory, tt, inl (refl, nothing (g.K.Sink.held c.args.out.sink)))

pub returns-in-Err-clause-mounts : goal.returns-in-Err-clause-mounts
returns-in-Err-clause-mounts g c =
    λ o e. (Err mount_errors.Memory, (g.K.Sink.held c.args.out.sink), g.K.Sink.faults c.args.out.sink, none_written _ (is_some o.cache) (g.K.Sink.held c.args.out.sink), inl (refl, nothing (g.K.Sink.held c.args.out.sink)))

pub returns-in-Ok-clause-checks : goal.returns-in-Ok-clause-checks
returns-in-Ok-clause-checks g c =
    let is : c.in-Ok.asked ≡ asked_of (words_as_bytes c.args.words.now) = c.in-Ok.ensures.asked in
    λ o e. c.run_asked.ensures.checks o (is ∙ e)

pub returns-in-Ok-clause-unchanged : goal.returns-in-Ok-clause-unchanged
returns-in-Ok-clause-unchanged g c =
    let is : c.in-Ok.asked ≡ asked_of (words_as_bytes c.args.words.now) = c.in-Ok.ensures.asked in
    λ o e. c.run_asked.ensures.unchanged o (is ∙ e)

pub returns-in-Err-clause-checks : goal.returns-in-Err-clause-checks
returns-in-Err-clause-checks g c =
    λ o e. (Err store_errors.Memory, tt, inl (refl, nothing (g.K.Sink.held c.args.out.sink)))

pub returns-in-Err-clause-unchanged : goal.returns-in-Err-clause-unchanged
returns-in-Err-clause-unchanged g c =
    λ o e. (refl, refl, refl)
