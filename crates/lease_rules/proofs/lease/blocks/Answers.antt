use Rattle.std.proofs.Common.{rules}
use Rattle.lease_rules.proofs.lease.blocks.Goals as goal

pub returns-then-key-session : goal.returns-then-key-session
returns-then-key-session c = search rules
