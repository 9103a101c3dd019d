use Rattle.std.proofs.Common.{◌+◌, ◌<◌, sym, ap, subst, ◌∙◌, List}
use Rattle.file_close.specs.Closing.{store_at}
use Rattle.client_state.specs.View.{calls_after, store_left}
use Rattle.client_state.specs.declared.task.Upload.{Upload}
use Rattle.client_state.specs.declared.task.UploadCall.{UploadCall}
use Rattle.file_close.proofs.lemmas.Sending.{calls_after_answer}
use Rattle.open_close.proofs.answers.took_stored.Goals as goal

pub told_chunk-requires-clause-xids : goal.told_chunk-requires-clause-xids
told_chunk-requires-clause-xids c =
    subst (λ (st : Upload). c.args.state.now.next_xid + store_left st + calls_after c.in-Some.call.way < 4294967296) (sym c.answered-store.ensures) (calls_after_answer c.args.store c.args.state.now.next_xid c.args.xid c.in-Some.call (ap (λ (us : List UploadCall). store_at us c.args.xid) (sym c.as_slice.ensures) ∙ sym c.in-Some.ensures) c.requires.xids)
