use Rattle.xdr_codec.proofs.Programs.{found, only}
use Rattle.xdr_codec.proofs.program.read_args.Goals as goal

pub returns-then-is_err-clause-only : goal.returns-then-is_err-clause-only
returns-then-is_err-clause-only g c =
    only (g.M.ProgramBody.args_form c.args.procedure) (g.M.ProgramBody.IsArgs c.args.procedure) g.M.ProgramBody.spell (g.M.ProgramBody.fits_args c.args.procedure) (g.M.ProgramBody.args_same c.args.procedure) c.args.rest.now c.all_args-read.result c.all_args-read.ensures.exact

pub returns-else-is_err-clause-found : goal.returns-else-is_err-clause-found
returns-else-is_err-clause-found g c =
    found (g.M.ProgramBody.args_form c.args.procedure) (g.M.ProgramBody.IsArgs c.args.procedure) g.M.ProgramBody.spell (g.M.ProgramBody.args_fit c.args.procedure) (g.M.ProgramBody.args_same c.args.procedure) c.args.rest.now c.all_args-read.result c.all_args-read.ensures.exact

pub returns-else-is_err-clause-only : goal.returns-else-is_err-clause-only
returns-else-is_err-clause-only g c =
    only (g.M.ProgramBody.args_form c.args.procedure) (g.M.ProgramBody.IsArgs c.args.procedure) g.M.ProgramBody.spell (g.M.ProgramBody.fits_args c.args.procedure) (g.M.ProgramBody.args_same c.args.procedure) c.args.rest.now c.all_args-read.result c.all_args-read.ensures.exact
