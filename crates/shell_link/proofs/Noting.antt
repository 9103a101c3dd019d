-- A client whose drift no term is above notes no lease.
use Rattle.std.proofs.Common.{◌≡◌, refl, ℕ, ◌≤◌, ◌+◌, ◌-◌, Bool, true, false, cond, Some, None, nat_lt, arith}
use Rattle.std.proofs.lemmas.Bool.Decides.{nat_tests}
use Rattle.client_state.specs.Noting.{noted_until}
use Rattle.client_state.specs.State.{State}
use Rattle.shell_link.specs.Asking.{NotesNothing}

not_above : (d t : ℕ) → d ≡ 4294967295 → t ≤ 4294967295 → nat_lt d t ≡ false
not_above d t is h = grind (arith, nat_tests, is, h)

unless : (s : State) (file version until : ℕ) (b : Bool) → b ≡ false → noted_until s file version (cond b (Some until) None) ≡ s
unless s file version until true e = cc
unless s file version until false e = refl

pub notes_nothing : NotesNothing 4294967295
notes_nothing s sent file g is h = unless s file g.version (sent + (g.term - s.drift)) (nat_lt s.drift g.term) (not_above s.drift g.term is h)
