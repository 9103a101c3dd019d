use Rattle.shell_walks.proofs.caching.save_where.Goals as goal

pub returns-then-replaces : goal.returns-then-replaces
returns-then-replaces g c = rw (c.if-replaces.true) c.save_over.ensures
