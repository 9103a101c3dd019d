-- Worked messages of a command on names, with how it may have ended.
use Rattle.std.proofs.Common.{◌≡◌, ◌⊎◌, inl, inr, ℕ, [], ◌∷◌, Option, Some, None, true, false, refl}
use Rattle.std.specs.Prelude.{codes}
use Rattle.command_text.specs.declared.path.PathCommand.TheVariants as path
use Rattle.xdr_codec.specs.declared.answer.Answer.TheVariants.{Failed}
use Rattle.xdr_codec.specs.declared.status.Status.TheVariants as status
use Rattle.nfs3_calls.specs.declared.message.Nfs.TheVariants as nfs
use Rattle.wire.specs.declared.message.Body.TheVariants as body
use Rattle.wire.specs.declared.message.Message.TheVariants as message
use Rattle.path_calls.specs.Walk.{begun, create_call}
use Rattle.register_model.specs.declared.op.Op.{Op}
use Rattle.register_model.specs.declared.op.Outcome.TheVariants as outcome
use Rattle.register_model.specs.declared.op.Word.TheVariants as word
use Rattle.trace_ends.specs.Ops.{no_traffic}
use Rattle.trace_replay.specs.Traffic.{Deal, Deal.Sent, Deal.Took}
use Rattle.trace_replay.specs.Walking.{Part, Part.asks, IsWalk, IsUnfound, HasWalkFile}

-- "b" is to be made in the root
abbrev make_b : Part
make_b = asks (begun (path.Make (record { dirs = []; name = codes "b" })))

abbrev call : Deal
call = Sent (message.Call 7 (body.Nfs (create_call 1 (codes "b"))))

-- the name is taken: NFS3ERR_EXIST (17)
abbrev taken_already : Deal
taken_already = Took (message.Answer 7 (body.Nfs (nfs.CreateAnswer (Failed status.Exist (record { before = None; after = None })))))

refused : IsWalk (outcome.Refused 17) make_b (call ∷ taken_already ∷ [])
refused = (refl, (refl, (refl, refl)))

not_done : IsWalk outcome.Done make_b (call ∷ taken_already ∷ []) → ⊥
not_done h = (let e : outcome.Done ≡ outcome.Refused 17 = h.1.1.1 in absurd cc)

not_by_another : IsWalk (outcome.Refused 2) make_b (call ∷ taken_already ∷ []) → ⊥
not_by_another h = (let e : outcome.Refused 2 ≡ outcome.Refused 17 = h.1.1.1 in absurd cc)

-- no answer was taken
unanswered : IsWalk outcome.Running make_b (call ∷ []) × IsWalk outcome.Lost make_b (call ∷ [])
unanswered = ((refl, inl refl), (refl, inr refl))

not_done_so : IsWalk outcome.Done make_b (call ∷ []) → ⊥
not_done_so h = by h.1
  where
    by : (outcome.Done ≡ outcome.Running) ⊎ (outcome.Done ≡ outcome.Lost) → ⊥
    by (inl e) = absurd cc
    by (inr e) = absurd cc

-- ---- its file

abbrev of_make : (file : ℕ) → (point : Option ℕ) → Op
of_make file point = record { client = 1; word = word.Make; file = file; begin = 3; end = None; point = point; outcome = outcome.Running; value = []; traffic = no_traffic }

-- as long as no answer was taken: none, or that of the change that was made meanwhile
unfound : HasWalkFile (of_make 0 None) make_b (call ∷ []) × HasWalkFile (of_make 5 (Some 4)) make_b (call ∷ [])
unfound = (inl refl, inr (refl, refl))

not_before : HasWalkFile (of_make 5 None) make_b (call ∷ []) → ⊥
not_before h = by h
  where
    by : IsUnfound (of_make 5 None) → ⊥
    by (inl e) = absurd cc
    by (inr e) = (let some : false ≡ true = e.1 in absurd cc)
