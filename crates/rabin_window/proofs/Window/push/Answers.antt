use Rattle.std.proofs.Common.{◌≡◌, ℕ, ◌+◌, ◌<◌, List, [], ◌∷◌, ◌++◌, length, drop, get_or, set, sym, ap, ◌∙◌, arith, rules, lit<}
use Rattle.rabin_window.specs.Fingerprint.{fp}
use Rattle.rabin_window.specs.Ring.{IsRing}
use Rattle.rabin_window.proofs.Rings.{from_oldest, others, ring_split, ring_first, length-others}
use Rattle.rabin_window.proofs.Window.push.Goals as goal

-- the bytes that stay are one fewer than the window has
stay : (ring : List ℕ) (oldest : ℕ) → length ring ≡ 48 → oldest < 48 → length (others ring oldest) ≡ 47
stay ring oldest l h =
    let l2 : length (others ring oldest) + 1 ≡ length ring = length-others ring oldest (omega arith) in
    omega arith

-- the fingerprint is that of the oldest byte and those that stay
parted : (ring : List ℕ) (oldest print : ℕ) → length ring ≡ 48 → oldest < 48 → print ≡ fp (from_oldest ring oldest) → print ≡ fp (get_or ring oldest 0 ∷ others ring oldest)
parted ring oldest print l h is = is ∙ ap fp (ring_split ring oldest (omega arith))

-- the ring begins again
first : (ring : List ℕ) (oldest byte print : ℕ) → length ring ≡ 48 → oldest + 1 ≡ 48 → print ≡ fp (others ring oldest ++ byte ∷ []) → IsRing (set ring oldest byte) 0 print
first ring oldest byte print l e is =
    record { within = lit< tt; known = is ∙ ap fp (sym (ring_first ring oldest byte (e ∙ sym l))) }

-- the bytes are those of before without the oldest, and the new one
pushed : (ring : List ℕ) (oldest byte : ℕ) (old : List ℕ) → length ring ≡ 48 → oldest < 48 → from_oldest ring oldest ≡ old → drop 1 old ++ byte ∷ [] ≡ others ring oldest ++ byte ∷ []
pushed ring oldest byte old l h is =
    ap (λ (xs : List ℕ). drop 1 xs ++ byte ∷ []) (sym is ∙ ring_split ring oldest (omega arith))

pub roll-self-inside-requires : goal.roll-self-inside-requires
roll-self-inside-requires c =
    let held = c.self.inside in (
      others held.ring held.oldest,
      stay held.ring held.oldest (search rules) c.self.invariant.within,
      parted held.ring held.oldest held.print (search rules) c.self.invariant.within c.self.invariant.known,
    )

pub invariant_of-self : goal.invariant_of-self
invariant_of-self c =
    let held = c.self.inside in
    first held.ring held.oldest c.args.byte c.roll-self-inside.result (search rules) (search rules)
    (c.roll-self-inside.ensures (others held.ring held.oldest)
    (stay held.ring held.oldest (search rules) c.self.invariant.within)
    (parted held.ring held.oldest held.print (search rules) c.self.invariant.within c.self.invariant.known))

pub returns-then-self-eq-WINDOW_LEN : goal.returns-then-self-eq-WINDOW_LEN
returns-then-self-eq-WINDOW_LEN c =
    ring_first c.self.inside.ring c.self.inside.oldest c.args.byte (search rules)
    ∙ sym (pushed c.self.inside.ring c.self.inside.oldest c.args.byte _ (search rules) c.self.invariant.within c.self.view_is)
