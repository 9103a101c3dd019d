use Rattle.std.proofs.Common.{None, sym, ◌∙◌}
use Rattle.temp_files.specs.Temps.{IsTempKeyed, temp_at}
use Rattle.temp_files.proofs.lemmas.Entries.{All-removed}
use Rattle.temp_files.proofs.lemmas.Joins.{none_some}
use Rattle.temp_files.proofs.Wholes.{comes}
use Rattle.temp_files.proofs.temps.take.Goals as goal

pub returns-then-not-covers-clause-covered : goal.returns-then-not-covers-clause-covered
returns-then-not-covers-clause-covered c = comes (temp_at c.args.temps.now.entries c.args.session c.args.fd) c.args.size None c.in_ok-covers.ensures.told c.covers.ensures.apart (none_some _ (sym c.in_ok-covers.ensures.exact ∙ c.if-not-covers.true))

pub returns-then-not-covers-clause-keyed : goal.returns-then-not-covers-clause-keyed
returns-then-not-covers-clause-keyed c = rw c.remove.ensures.entries (All-removed IsTempKeyed _ _ c.requires)

pub returns-clause-covered : goal.returns-clause-covered
returns-clause-covered c = comes (temp_at c.args.temps.now.entries c.args.session c.args.fd) c.args.size _ c.in_ok-covers.ensures.told c.covers.ensures.apart c.in_ok-whole.ensures.exact

pub returns-clause-keyed : goal.returns-clause-keyed
returns-clause-keyed c = rw c.in_ok-whole.ensures.ended (All-removed IsTempKeyed _ _ c.requires)
