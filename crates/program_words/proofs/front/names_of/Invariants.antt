use Rattle.std.proofs.Common.{◌≡◌, map, take}
use Rattle.program_words.proofs.front.names_of.Given as goal

abbrev pub invariant-loop-text : goal.invariant-loop-text
invariant-loop-text l = l.names ≡ map (λ t. t.now) (take l.text-index l.texts)
