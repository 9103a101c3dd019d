use Rattle.std.proofs.Common.{List, sym, subst}
use Rattle.wire.specs.Parse.{IsParsed, parse_of}
use Rattle.wire.specs.declared.message.Pending.{Pending}
use Rattle.wire.specs.declared.message.Side.TheVariants.{Either}
use Rattle.wire.specs.declared.message.TheConstants.{LBFS_SERVED}
use Rattle.record_show.specs.Line.{any_call}
use Rattle.record_show.specs.Said.{IsSaid}
use Rattle.record_show.specs.declared.reading.Said.{Said}
use Rattle.record_show.proofs.Parsed.{said_parsed}
use Rattle.record_show.proofs.reading.said_in.Goals as goal

pub returns : goal.returns
returns c = subst (λ (s : Said). IsSaid s (parse_of any_call c.args.contents.now)) (sym c.said_by-said.ensures) (said_parsed c.parse-read.result (parse_of any_call c.args.contents.now) (subst (λ (calls : List Pending). IsParsed c.parse-read.result (parse_of (record { side = Either; lbfs = LBFS_SERVED; calls = calls }) c.args.contents.now)) c.new.ensures c.parse-read.ensures.exact))
