use Rattle.std.proofs.Common.{◌≡◌, IfOk, true, false, sym, subst}
use Rattle.hash_calls.specs.declared.message.Lb.{Lb}
use Rattle.chunk_calls.specs.Calling.{calls, LeavesPlaces}
use Rattle.chunk_calls.proofs.calls.call.Goals as goal

pub returns-in-GetHash-clause-ok : goal.returns-in-GetHash-clause-ok
returns-in-GetHash-clause-ok c =
    subst (λ (m : Lb). IfOk c.tell_hashes.result (λ o. o.left_out ≡ false → calls c.args.tree.now.tree c.args.temps.now c.args.index.now c.args.session c.args.term m ≡ record { temps = c.args.temps.now; index = c.tell_hashes.new.index; answer = o.answer }))
    (sym c.in-GetHash.is) (c.tell_hashes.ensures.ok c.args.temps.now c.args.session)

pub returns-in-GetHash-clause-lacks : goal.returns-in-GetHash-clause-lacks
returns-in-GetHash-clause-lacks c =
    subst (λ (m : Lb). IfOk c.tell_hashes.result (λ o. o.left_out ≡ true → LeavesPlaces c.args.tree.now.tree c.args.temps.now c.args.index.now c.args.session c.args.term m (record { temps = c.args.temps.now; index = c.tell_hashes.new.index; answer = o.answer })))
    (sym c.in-GetHash.is) (c.tell_hashes.ensures.lacks c.args.temps.now c.args.session)
