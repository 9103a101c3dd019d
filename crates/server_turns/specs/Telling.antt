-- Which messages of a server tell what its store has, and so wait until that is sure.
use Rattle.std.specs.Prelude.{Bool, true, false, List, [], ◌∷◌, ◌||◌}
use Rattle.hash_calls.specs.declared.message.Lb.TheVariants as lb
use Rattle.xdr_codec.specs.declared.answer.Answer.TheVariants.{Done}
use Rattle.wire.specs.declared.message.Body.TheVariants as body
use Rattle.wire.specs.declared.message.Message.{Message}
use Rattle.wire.specs.declared.message.Message.TheVariants as message

-- All but the answers on a client's temporary files, which are its session's: a cut of power takes them with it, whatever was sure.
-- A MKTMPFILE that is refused may tell that its file is gone; one that is done, no more than how its client came by the file.
abbrev pub tells : Message → Bool
tells (message.Answer xid (body.Lb (lb.MkTmpFileAnswer (Done u)))) = false
tells (message.Answer xid (body.Lb (lb.TmpWriteAnswer a))) = false
tells (message.Answer xid (body.Lb (lb.CondWriteAnswer a))) = false
tells m = true

abbrev pub any_tells : List Message → Bool
any_tells [] = false
any_tells (m ∷ rest) = tells m || any_tells rest
