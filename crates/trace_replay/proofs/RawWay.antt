-- Bytes on a session that has no way up go nowhere: there is no wire, or the server saw it lost.
use Rattle.std.proofs.Common.{◌≡◌, ℕ, zero, suc, List, [], ◌∷◌, ◌≤◌, Option, Some, None, Bool, true, false, nat_lt, cond, length, arith, refl, sym, ap, ◌∙◌}
use Rattle.std.specs.Prelude.{slice_get, slice_set}
use Rattle.std.proofs.lemmas.Bool.Decides.{nat_tests}
use Rattle.std.proofs.lemmas.Option.{same_Some, none-some, slice_get_past}
use Rattle.session_rules.specs.Ways.{own_way, way_up}
use Rattle.trace_ends.specs.Session.{Session}
use Rattle.trace_ends.specs.Numbers.{numbered}
use Rattle.trace_ends.specs.Wires.{Wire, unless}
use Rattle.trace_replay.specs.World.{raw_put_in}

-- an element put back where it stands changes nothing
put_back : {A : Type 0} (xs : List A) (i : ℕ) (x : A) → slice_get xs i ≡ Some x → slice_set xs i x ≡ xs
put_back [] i x e = refl
put_back (y ∷ xs) zero x e = ap (λ z. z ∷ xs) (sym (same_Some y x e))
put_back (y ∷ xs) (suc i) x e = ap (λ zs. y ∷ zs) (put_back xs i x e)

past_by : (b : Bool) (wires k : ℕ) → nat_lt k wires ≡ b → None ≡ cond b (Some k) None → wires ≤ k
past_by true wires k less e = absurd (none-some k e)
past_by false wires k less e = grind (arith, nat_tests, less)

module _ (wires : List Wire) (bytes : List ℕ) where
  nowhere : (number : ℕ) (s : Session) (lost : Bool) → s.hung ≡ lost → None ≡ own_way lost (length wires) number → (o : Option Wire) → numbered wires number ≡ o → raw_put_in wires number bytes (Some s) o ≡ wires
  nowhere number s lost is e None at = refl
  nowhere zero s lost is e (Some q) at = refl
  nowhere (suc k) s true is e (Some q) at = ap (λ b. slice_set wires k (record q { up = unless b q.up bytes })) is ∙ put_back wires k q at
  nowhere (suc k) s false is e (Some q) at = absurd (none-some q (sym (slice_get_past wires k (past_by (nat_lt k (length wires)) (length wires) k refl e)) ∙ at))

  pub raw_stays : (number : ℕ) (x : Option Session) → None ≡ way_up x (length wires) number → raw_put_in wires number bytes x (numbered wires number) ≡ wires
  raw_stays number None e = refl
  raw_stays number (Some s) e = nowhere number s s.hung refl e (numbered wires number) refl
