-- The rules on a single change that waits: whose leases hold it up, and which others it waits behind.
use Rattle.std.specs.Prelude.{ℕ, List, Bool, ◌==◌}
use Rattle.std.specs.List.{list_any}
use Rattle.lease_rules.specs.declared.change.Kind.{Kind}
use Rattle.lease_rules.specs.declared.change.Kind.TheVariants.{Commit, Remove, Rename}
use Rattle.lease_rules.specs.declared.change.PendingChange.{PendingChange}

-- A COMMITTMP isn't held up by its own session's lease; a REMOVE or RENAME is. Session 0 is nobody.
abbrev pub asker_of : Kind → (session : ℕ) → ℕ
asker_of Commit session = session
asker_of Remove session = 0
asker_of Rename session = 0

module _ {P : Type 0} where
  abbrev pub asker : PendingChange P → ℕ
  asker c = asker_of c.kind c.session

  -- the file is one that it changes
  abbrev pub is_about : PendingChange P → (file : ℕ) → Bool
  is_about c file = c.file == file

  -- both change one file
  abbrev pub meets : PendingChange P → PendingChange P → Bool
  meets c d = is_about c d.file

  -- one that came earlier meets it
  abbrev pub waits_behind : List (PendingChange P) → PendingChange P → Bool
  waits_behind earlier c = list_any (λ e. meets e c) earlier
