use Rattle.lbfs_client.proofs.caching.write.Goals as goal

pub returns : goal.returns
returns g c = record { wrote = c.put-wrote.result; writes = c.put-wrote.ensures; told_is = c.unwritten_answer.ensures }
