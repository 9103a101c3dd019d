-- How a mount ended, from what was answered.
use Rattle.std.proofs.Common.{◌≡◌, ◌⊎◌, ℕ, ◌≤◌, List, Bool, Option, Result, Ok, Err, refl, inl, inr, subst, arith}
use Rattle.std.specs.Prelude.{OnOk, IsErrOf, IfSome, Some, None}
use Rattle.std.specs.Borrow.{Bor}
use Rattle.std.specs.Option.{option_copied}
use Rattle.lb_base.specs.Causes.{Rose}
use Rattle.exit_status.specs.declared.status.Status.{Status}
use Rattle.exit_status.specs.declared.status.Status.TheVariants as status
use Rattle.lbfs_client.specs.declared.line.MountLine.{MountLine}
use Rattle.lbfs_mount.specs.Cached.{IsBadLineAll, IsDoneAll, WritesAll}
use Rattle.lbfs_client.specs.Host.{Host}
use Rattle.lbfs_mount.specs.Saved.{IsKept}
use Rattle.lbfs_mount.specs.Mounts.{IsTooLong}
use Rattle.lbfs_mount.specs.declared.mount_error.MountError.{MountError}
use Rattle.lbfs_mount.specs.declared.mount_error.MountError.TheVariants as errors
use Rattle.lbfs_run.specs.Mounting.{MountCause, mount_output}
use Rattle.lbfs_run.specs.Telling.{Tells}

module _ (Says : MountLine → List ℕ → Type 0) where
  cause : (cached : Bool) (left left' held held' : Option (List ℕ)) (read read' write write' net net' : ℕ) (link_fails : Type 0) (ended : Result Unit MountError)
      → OnOk ended (IsDoneAll Says cached left left' held held') → WritesAll Says cached held held'
      → (IsErrOf ended errors.ReadFault → Rose read read') → (IsErrOf ended errors.WriteFault → Rose write write')
      → (IsErrOf ended errors.Network → Rose net net' ⊎ link_fails)
      → ((n : ℕ) → IsErrOf ended (errors.BadLine n) → IsBadLineAll Says cached left left' held held' n)
      → (IsErrOf ended errors.TooLong → IsTooLong left left')
      → MountCause Says cached left left' held held' read read' write write' net net' link_fails ended
  cause cached left left' held held' read read' write write' net net' link_fails (Ok u) done writes reads wrote network bad long = done
  cause cached left left' held held' read read' write write' net net' link_fails (Err errors.ReadFault) done writes reads wrote network bad long = (writes, reads refl)
  cause cached left left' held held' read read' write write' net net' link_fails (Err errors.WriteFault) done writes reads wrote network bad long = (writes, wrote refl)
  cause cached left left' held held' read read' write write' net net' link_fails (Err (errors.BadLine n)) done writes reads wrote network bad long = bad n refl
  cause cached left left' held held' read read' write write' net net' link_fails (Err errors.Network) done writes reads wrote network bad long = (writes, network refl)
  cause cached left left' held held' read read' write write' net net' link_fails (Err errors.Memory) done writes reads wrote network bad long = writes
  cause cached left left' held held' read read' write write' net net' link_fails (Err errors.TooLong) done writes reads wrote network bad long = (writes, long refl)

  -- so too where the cache file's name was passed on
  pub caused : (was cached : Bool) (left left' held held' : Option (List ℕ)) (read read' write write' net net' : ℕ) (link_fails : Type 0) (ended : Result Unit MountError) → was ≡ cached
      → OnOk ended (IsDoneAll Says was left left' held held') → WritesAll Says was held held'
      → (IsErrOf ended errors.ReadFault → Rose read read') → (IsErrOf ended errors.WriteFault → Rose write write')
      → (IsErrOf ended errors.Network → Rose net net' ⊎ link_fails)
      → ((n : ℕ) → IsErrOf ended (errors.BadLine n) → IsBadLineAll Says was left left' held held' n)
      → (IsErrOf ended errors.TooLong → IsTooLong left left')
      → MountCause Says cached left left' held held' read read' write write' net net' link_fails ended
  caused was cached left left' held held' read read' write write' net net' link_fails ended same done writes reads wrote network bad long =
      subst (λ (b : Bool). MountCause Says b left left' held held' read read' write write' net net' link_fails ended) same
      (cause was left left' held held' read read' write write' net net' link_fails ended done writes reads wrote network bad long)

-- ---- by the status

pub read_rose : (held held' : Option (List ℕ)) (s : Status) (read read' : ℕ) (ended : Result Unit MountError) → (IsErrOf ended errors.ReadFault → Rose read read')
    → Tells s held held' (mount_output ended) → s ≡ status.ReadFault → Rose read read'
read_rose held held' s read read' (Err errors.ReadFault) h told e = h refl
read_rose held held' s read read' ended h told e = grind (arith, told, e)

pub network_rose : (held held' : Option (List ℕ)) (s : Status) (net net' : ℕ) (link_fails : Type 0) (ended : Result Unit MountError) → (IsErrOf ended errors.Network → Rose net net' ⊎ link_fails)
    → Tells s held held' (mount_output ended) → s ≡ status.Network → Rose net net' ⊎ link_fails
network_rose held held' s net net' link_fails (Err errors.Network) h told e = h refl
network_rose held held' s net net' link_fails ended h told e = grind (arith, told, e)

-- the count rose before the end was told, or as it was
pub write_rose : (write between write' : ℕ) → write ≤ between → between ≤ write' → Rose write between ⊎ Rose between write' → Rose write write'
write_rose write between write' first second (inl h) = search (arith, first, second, h)
write_rose write between write' first second (inr h) = search (arith, first, second, h)

pub known : (held held' : Option (List ℕ)) (s : Status) (ended : Result Unit MountError) → Tells s held held' (mount_output ended)
    → (s ≡ status.Done) ⊎ (s ≡ status.ReadFault) ⊎ (s ≡ status.WriteFault) ⊎ (s ≡ status.Refused) ⊎ (s ≡ status.Memory) ⊎ (s ≡ status.Network)
known held held' s (Err errors.ReadFault) told = grind (arith, told)
known held held' s ended told = grind (arith, told)

-- a mount that didn't end well isn't told as done
not_done : (held held' : Option (List ℕ)) (s : Status) (e : MountError) → Tells s held held' (mount_output (Err e)) → s ≡ status.Done → ⊥
not_done held held' s errors.ReadFault told done = grind (arith, told, done)
not_done held held' s errors.WriteFault told done = grind (arith, told, done)
not_done held held' s (errors.BadLine n) told done = grind (arith, told, done)
not_done held held' s errors.Network told done = grind (arith, told, done)
not_done held held' s errors.Memory told done = grind (arith, told, done)
not_done held held' s errors.TooLong told done = grind (arith, told, done)

-- its cache file was kept, by the name that was asked for
pub saved_named : (drift keep : ℕ) (old host : Host) (held held' : Option (List ℕ)) (s : Status) (given : Option (Bor (List ℕ))) (cache : Option (List ℕ)) (ended : Result Unit MountError) → option_copied given ≡ cache
    → OnOk ended (IfSome given (λ name. ∥ IsKept drift keep name.now old host ∥₁)) → Tells s held held' (mount_output ended) → s ≡ status.Done → IfSome cache (λ name. ∥ IsKept drift keep name old host ∥₁)
saved_named drift keep old host held held' s given cache (Err e) is saved told done = absurd (not_done held held' s e told done)
saved_named drift keep old host held held' s given cache (Ok u) is saved told done = subst (λ (o : Option (List ℕ)). IfSome o (λ name. ∥ IsKept drift keep name old host ∥₁)) is (by given saved)
  where
    by : (o : Option (Bor (List ℕ))) → IfSome o (λ name. ∥ IsKept drift keep name.now old host ∥₁) → IfSome (option_copied o) (λ name. ∥ IsKept drift keep name old host ∥₁)
    by None h = tt
    by (Some b) h = h
