use Rattle.std.proofs.Common.{Some, ap, subst}
use Rattle.program_words.specs.Words.{IsFew}
use Rattle.lbfs_run.proofs.Seeded.{of_seed}
use Rattle.lbfs_run.proofs.plain.output_of_one.Goals as goal

pub seed_output-requires : goal.seed_output-requires
seed_output-requires g c = subst IsFew (ap Some c.in-OfSeed.is) c.requires

pub returns-in_ok-seed_output-in-OfSeed-clause-taken : goal.returns-in_ok-seed_output-in-OfSeed-clause-taken
returns-in_ok-seed_output-in-OfSeed-clause-taken g c =
    of_seed (Some c.args.command) (g.S.Source.left c.args.source.now) c.in-OfSeed.seed c.in-OfSeed.blocks c.in-OfSeed.command _ _ (ap Some c.in-OfSeed.is) c.in_ok-seed_output-in-OfSeed.ensures.output
