use Rattle.std.proofs.Common.{ℕ, List, subst}
use Rattle.lbfs_client.specs.Host.{HasWritten}
use Rattle.lbfs_client.proofs.fetching.write.Goals as goal

pub returns : goal.returns
returns g c = subst (λ (n : List ℕ). HasWritten (record { files = g.F.Files.files c.args.files.now; faults = g.F.Files.faults c.args.files.now }) n c.args.bytes.now c.put.result (record { files = g.F.Files.files c.put.new.self; faults = g.F.Files.faults c.put.new.self })) c.as_str.ensures (record { ok = c.put.ensures.ok; err = c.put.ensures.err; later = c.put.ensures.later; cause = c.put.ensures.cause })
