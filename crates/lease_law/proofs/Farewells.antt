-- A session gives all of its leases up: what others may rely on goes on.
use Rattle.std.proofs.Common.{◌≡◌, ◌⊎◌, inl, inr, ℕ, List, Bool, true, false, ap, ◌∙◌, arith}
use Rattle.std.specs.Prelude.{◌==◌, not}
use Rattle.std.proofs.lemmas.Bool.Decides.{nat_tests}
use Rattle.std.proofs.lemmas.List.Kept.{AllPairs-filter}
use Rattle.wire.specs.declared.message.Message.{Message}
use Rattle.lease_rules.specs.declared.lease.Lease.{Lease}
use Rattle.lease_table.specs.Leases.{is_on, lease_at, without_session}
use Rattle.lease_table.specs.Order.{ComesBefore}
use Rattle.lease_table.proofs.lemmas.Lists.{find_kept}
use Rattle.server_core.specs.State.{State}
use Rattle.server_core.specs.Step.{gives_up}
use Rattle.lease_law.specs.Claims.{Way, Claim, limit_of, IsGuarded, IsSafe, IsClaim}
use Rattle.lease_law.specs.Orderly.{IsOrderly, AreNumbered}

at_others : (leases : List Lease) (session s f : ℕ) → (s == session) ≡ false → lease_at (without_session leases session) s f ≡ lease_at leases s f
at_others leases session s f other = find_kept (λ l. is_on l s f) (λ l. not (l.session == session)) stays leases
  where
    stays : (l : Lease) → is_on l s f ≡ true → not (l.session == session) ≡ true
    stays l on =
        let same : l.session ≡ s = grind (arith, nat_tests, on) in
        ap not (ap (λ (n : ℕ). n == session) same ∙ other)

pub claim_stays : (s : State) (session clock : ℕ) (c : Claim) (way : Way) (behind : List Message) → (c.session == session) ≡ false → IsClaim s clock c way behind → IsClaim (gives_up s session) clock c way behind
claim_stays s session clock c way behind other k = (k.0, safe k.1)
  where
    safe : IsSafe s clock c way behind → IsSafe (gives_up s session) clock c way behind
    safe (inl spent) = inl spent
    safe (inr (is, inl quiet)) = inr (is, inl quiet)
    safe (inr (is, inr g)) = inr (is, inr (record { lease = g.lease; there = at_others s.leasing.leases session c.session c.file other ∙ g.there; lasts = g.lasts; unread = g.unread; spared = g.spared; alone = g.alone }))

pub orderly_stays : (s : State) (session clock : ℕ) → IsOrderly s clock → IsOrderly (gives_up s session) clock
orderly_stays s session clock o = record { early = o.early; ordered = AllPairs-filter ComesBefore (λ l. not (l.session == session)) s.leasing.leases o.ordered; changes = o.changes; given = o.given }

pub numbers_stay : (s : State) (session other : ℕ) (ups downs : List Message) → AreNumbered s other ups downs → AreNumbered (gives_up s session) other ups downs
numbers_stay s session other ups downs n = record { drawn = n.drawn; apart = n.apart }
