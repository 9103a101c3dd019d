use Rattle.lbfs_client.proofs.caching.save_kept.Goals as goal

pub returns : goal.returns
returns g c = record { there = c.has-there.result; there_is = c.has-there.ensures.told; saves = c.save_there.ensures }
