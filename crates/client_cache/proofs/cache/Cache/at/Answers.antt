use Rattle.std.proofs.Common.{◌≤◌, length, arith}
use Rattle.client_cache.specs.Cache.{files_most, contents_in}
use Rattle.client_cache.proofs.Shown.{contents_fewer}
use Rattle.client_cache.proofs.cache.Cache.at.Goals as goal

pub returns-clause-most : goal.returns-clause-most
returns-clause-most c =
    let few = contents_fewer c.self.inside.entries.entries in
    let most = c.self.invariant.0 in
    let all : length (contents_in c.self.inside.entries.entries) ≤ files_most = omega (arith, few, most) in
    rw (← c.self.view_is) all
