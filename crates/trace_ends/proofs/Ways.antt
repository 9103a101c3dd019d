-- What is sent on a session that has no way goes nowhere: there is no wire, or its connection is lost.
use Rattle.std.proofs.Common.{◌≡◌, ℕ, zero, suc, List, ◌++◌, [], ◌∷◌, ◌≤◌, Option, Some, None, Bool, true, false, nat_lt, cond, length, arith, refl, sym, ap, ◌∙◌}
use Rattle.std.specs.Prelude.{slice_get, slice_set}
use Rattle.std.proofs.lemmas.Bool.Decides.{nat_tests}
use Rattle.std.proofs.lemmas.Option.{same_Some, none-some, slice_get_past}
use Rattle.wire.specs.declared.message.Message.{Message}
use Rattle.session_rules.specs.Session.{Session}
use Rattle.session_rules.specs.Ways.{own_way, way_up, way_down}
use Rattle.trace_ends.specs.Numbers.{numbered}
use Rattle.trace_ends.specs.Wires.{Wire, unless, bytes_of, up_put_in, message_put_in}

-- an element put back where it stands changes nothing
put_back : {A : Type 0} (xs : List A) (i : ℕ) (x : A) → slice_get xs i ≡ Some x → slice_set xs i x ≡ xs
put_back [] i x e = refl
put_back (y ∷ xs) zero x e = ap (λ z. z ∷ xs) (sym (same_Some y x e))
put_back (y ∷ xs) (suc i) x e = ap (λ zs. y ∷ zs) (put_back xs i x e)

past_by : (b : Bool) (wires k : ℕ) → nat_lt k wires ≡ b → None ≡ cond b (Some k) None → wires ≤ k
past_by true wires k less e = absurd (none-some k e)
past_by false wires k less e = grind (arith, nat_tests, less)

module _ (wires : List Wire) (ms : List Message) where
  up_nowhere : (number : ℕ) (s : Session) (lost : Bool) → s.hung ≡ lost → None ≡ own_way lost (length wires) number → (o : Option Wire) → numbered wires number ≡ o → up_put_in wires number ms (Some s) o ≡ wires
  up_nowhere number s lost is e None at = refl
  up_nowhere zero s lost is e (Some q) at = refl
  up_nowhere (suc k) s true is e (Some q) at = ap (λ b. slice_set wires k (record q { up = unless b q.up (bytes_of ms) })) is ∙ put_back wires k q at
  up_nowhere (suc k) s false is e (Some q) at = absurd (none-some q (sym (slice_get_past wires k (past_by (nat_lt k (length wires)) (length wires) k refl e)) ∙ at))

  pub up_stays : (number : ℕ) (x : Option Session) → None ≡ way_up x (length wires) number → up_put_in wires number ms x (numbered wires number) ≡ wires
  up_stays number None e = refl
  up_stays number (Some s) e = up_nowhere number s s.hung refl e (numbered wires number) refl

module _ (wires : List Wire) (m : Message) where
  down_nowhere : (number : ℕ) (s : Session) (lost : Bool) → s.cut ≡ lost → None ≡ own_way lost (length wires) number → (o : Option Wire) → numbered wires number ≡ o → message_put_in wires number m (Some s) o ≡ wires
  down_nowhere number s lost is e None at = refl
  down_nowhere zero s lost is e (Some q) at = refl
  down_nowhere (suc k) s true is e (Some q) at = ap (λ b. slice_set wires k (record q { down = unless b q.down (bytes_of (m ∷ [])) })) is ∙ put_back wires k q at
  down_nowhere (suc k) s false is e (Some q) at = absurd (none-some q (sym (slice_get_past wires k (past_by (nat_lt k (length wires)) (length wires) k refl e)) ∙ at))

  pub down_stays : (number : ℕ) (x : Option Session) → None ≡ way_down x (length wires) number → message_put_in wires number m x (numbered wires number) ≡ wires
  down_stays number None e = refl
  down_stays number (Some s) e = down_nowhere number s s.cut refl e (numbered wires number) refl
