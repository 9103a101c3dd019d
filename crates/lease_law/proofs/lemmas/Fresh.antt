-- A note that hasn't ended isn't spent, and so the file has its version: here alone the clock rule is used.
use Rattle.std.proofs.Common.{◌≡◌, ◌⊎◌, inl, inr, ℕ, ◌+◌, ◌-◌, ◌<◌, ◌≤◌, List, [], ◌∷◌, Some, refl, arith}
use Rattle.std.specs.List.{AllByRecursion}
use Rattle.clock_rule.specs.declared.rule.Note.{Note as Noted}
use Rattle.clock_rule.specs.Keeping.{KeepRule}
use Rattle.wire.specs.declared.message.Message.{Message}
use Rattle.server_core.specs.State.{State}
use Rattle.lease_law.specs.Claims.{Way, version_at, noted_at, IsSafe, HasClaim, IsNote}
use Rattle.lease_law.proofs.lemmas.Claiming.{all_among}

pub unspent : (term drift sent base now at until : ℕ) → until + drift ≡ sent + term → sent ≤ now → base ≤ at → (now - sent ≤ term → at - base ≤ now - sent + drift) → now < until → base + term ≤ at → ⊥
unspent term drift sent base now at until ends le before rule fresh spent =
    let near : now - sent ≤ term = omega (arith, ends, fresh, le) in
    let far = rule near in
    omega (arith, ends, before, far, le, fresh, spent)

-- at a reading of the client's clock that keeps the rule with all that were noted
pub fresh_holds : (s : State) (clock drift : ℕ) (noted : List Noted) (client session file version until : ℕ) (way : Way) (behind : List Message) → IsNote s clock drift noted client session file version until way behind
    → (now : ℕ) → AllByRecursion (λ (n : Noted). KeepRule s.leasing.term drift n (noted_at client now clock)) noted → now < until → version_at s.tree file ≡ Some version
fresh_holds s clock drift noted client session file version until way behind n now rule fresh = by h.claim.1
  where
    h : HasClaim s clock noted client session file version n.sent way behind
    h = n.has

    kept : KeepRule s.leasing.term drift (noted_at client n.sent h.base) (noted_at client now clock)
    kept = all_among (λ (m : Noted). KeepRule s.leasing.term drift m (noted_at client now clock)) (noted_at client n.sent h.base) noted rule h.known

    by : IsSafe s clock (record { session = session; file = file; version = version; base = h.base }) way behind → version_at s.tree file ≡ Some version
    by (inl spent) = absurd (unspent s.leasing.term drift n.sent h.base now clock until n.ends (kept.client refl) h.claim.0 (kept.apart refl) fresh spent)
    by (inr held) = held.0
