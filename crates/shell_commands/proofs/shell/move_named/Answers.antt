use Rattle.std.proofs.Common.{refl}
use Rattle.std.proofs.lemmas.Result.{IfOk-weaker}
use Rattle.shell_commands.specs.Lines.{MovesTo.named_so}
use Rattle.shell_commands.proofs.Lined.{mistaken_moves, moves_as, named_as}
use Rattle.shell_commands.proofs.shell.move_named.Goals as goal

pub returns-in-Path : goal.returns-in-Path
returns-in-Path g c = IfOk-weaker c.move_to.result _ _ (λ told m. named_so c.in-Path.to (named_as c.args.dir.now c.args.dir.now c.args.word.now c.args.word.now _ _ refl refl c.in-Path.is c.in_ok-to.ensures) (moves_as _ _ _ _ _ _ _ _ c.says_dir.ensures m)) c.move_to.ensures

pub returns-in-Mistaken : goal.returns-in-Mistaken
returns-in-Mistaken g c = mistaken_moves _ _ c.args.dir.now _ c.args.word.now _ (named_as c.args.dir.now c.args.dir.now c.args.word.now c.args.word.now _ _ refl refl c.in-Mistaken.is c.in_ok-to.ensures)
