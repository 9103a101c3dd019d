use Rattle.lbfs_client.proofs.caching.put.Goals as goal

pub returns : goal.returns
returns g c = record { ok = c.put.ensures.ok; err = c.put.ensures.err; later = c.put.ensures.later; cause = c.put.ensures.cause }
