use Rattle.std.proofs.Common.{◌≡◌, drop}
use Rattle.register_model.specs.Register.{content_of}
use Rattle.register_model.proofs.openings.content_of.Given as goal

abbrev pub invariant-loop-found : goal.invariant-loop-found
invariant-loop-found l = content_of (drop l.found-index l.opening) l.file ≡ content_of l.opening l.file
