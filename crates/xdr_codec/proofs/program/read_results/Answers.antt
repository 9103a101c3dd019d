use Rattle.xdr_codec.proofs.Programs.{found, only}
use Rattle.xdr_codec.proofs.program.read_results.Goals as goal

pub returns-then-is_err-clause-only : goal.returns-then-is_err-clause-only
returns-then-is_err-clause-only g c =
    only (g.M.ProgramBody.results_form c.args.procedure) (g.M.ProgramBody.IsResults c.args.procedure) g.M.ProgramBody.spell (g.M.ProgramBody.fits_results c.args.procedure) (g.M.ProgramBody.results_same c.args.procedure) c.args.rest.now c.all_results-read.result c.all_results-read.ensures.exact

pub returns-else-is_err-clause-found : goal.returns-else-is_err-clause-found
returns-else-is_err-clause-found g c =
    found (g.M.ProgramBody.results_form c.args.procedure) (g.M.ProgramBody.IsResults c.args.procedure) g.M.ProgramBody.spell (g.M.ProgramBody.results_fit c.args.procedure) (g.M.ProgramBody.results_same c.args.procedure) c.args.rest.now c.all_results-read.result c.all_results-read.ensures.exact

pub returns-else-is_err-clause-only : goal.returns-else-is_err-clause-only
returns-else-is_err-clause-only g c =
    only (g.M.ProgramBody.results_form c.args.procedure) (g.M.ProgramBody.IsResults c.args.procedure) g.M.ProgramBody.spell (g.M.ProgramBody.fits_results c.args.procedure) (g.M.ProgramBody.results_same c.args.procedure) c.args.rest.now c.all_results-read.result c.all_results-read.ensures.exact
