use Rattle.lbfs_client.proofs.caching.look.Goals as goal

pub returns : goal.returns
returns g c = record { there = c.has-there.result; there_is = c.has-there.ensures.told; reads = c.read-bytes.ensures; replaces_is = c.may_replace-replaces.ensures }
