-- A step that was to come, whether places are missing in the index or not.
use Rattle.std.proofs.Common.{◌≡◌, sym, ap, subst, ◌∙◌, ℕ, Bool, true, false}
use Rattle.std.specs.Prelude.{Option, Some, Result, Ok, Err, IfOk, OnErr}
use Rattle.chunk_index.specs.Index.{Indexed}
use Rattle.chunk_index.specs.Places.{indexed, LeavesSome}
use Rattle.wire.specs.declared.message.Message.{Message}
use Rattle.file_open.specs.Caching.{found_all}
use Rattle.client_state.specs.Counting.{sends_one}
use Rattle.file_open.specs.Looking.{Entering}
use Rattle.client_state.specs.State.{State}
use Rattle.file_open.specs.Fetching.{Comes, with_index}
use Rattle.client_state.specs.declared.step.ClientStep.{ClientStep}

apart : false ≡ true → ⊥
apart e = cc

-- nothing is missing
pub comes_so : {enters : Option Entering} (old : Indexed) (comes : State × ClientStep) (new : State) (step : ClientStep) → comes ≡ (new, step) → step.missed ≡ false → Comes old enters comes new step
comes_so old comes new step so told = record { exact = λ e. so; lacks = λ e. absurd (apart (sym told ∙ e)) }

pub comes_ok : {E : Type 0} (r : Result ClientStep E) (old : Indexed) (enters : Option Entering) (comes : State × ClientStep) (new : State) → IfOk r (λ a. comes ≡ (new, a)) → IfOk r (λ a. a.missed ≡ false) → IfOk r (λ a. Comes old enters comes new a)
comes_ok (Ok a) old enters comes new so told = comes_so old comes new a so told
comes_ok (Err e) old enters comes new so told = tt

-- the places of chunks entered, or some of them were left out
pub comes_by : (old : Indexed) (e : Entering) (comes : State × ClientStep) (new : State) (step : ClientStep) (missed : Bool)
    → comes.0.index ≡ indexed (found_all old e.looked) e.file e.chunks → (missed ≡ false → new.index ≡ indexed (found_all old e.looked) e.file e.chunks) → (missed ≡ true → LeavesSome (found_all old e.looked) e.file e.chunks new.index)
    → new ≡ with_index comes.0 new.index → step ≡ record comes.1 { missed = missed } → comes.1.missed ≡ false → Comes old (Some e) comes new step
comes_by old e comes new step missed gains all lacks rest said none = record {
  exact = λ q.
      let is : missed ≡ false = sym (ap (λ (t : ClientStep). t.missed) said) ∙ q in
      let first : new ≡ comes.0 = rest ∙ ap (λ (i : Indexed). with_index comes.0 i) (all is ∙ sym gains) in
      let second : step ≡ comes.1 = said ∙ ap (λ (b : Bool). record comes.1 { missed = b }) (is ∙ sym none) in
      sym (ap (λ (n : State). (n, step)) first ∙ ap (λ (t : ClientStep). (comes.0, t)) second);
  lacks = λ q.
      let is : missed ≡ true = sym (ap (λ (t : ClientStep). t.missed) said) ∙ q in
      record { lacks = lacks is; rest = rest; said = said ∙ ap (λ (b : Bool). record comes.1 { missed = b }) is };
}

-- the same by the index alone
pub comes_at : (old : Indexed) (e : Entering) (comes : State × ClientStep) (new : State) (step : ClientStep) (missed : Bool) (index : Indexed)
    → comes.0.index ≡ indexed (found_all old e.looked) e.file e.chunks → (missed ≡ false → index ≡ indexed (found_all old e.looked) e.file e.chunks) → (missed ≡ true → LeavesSome (found_all old e.looked) e.file e.chunks index)
    → new ≡ with_index comes.0 index → step ≡ record comes.1 { missed = missed } → comes.1.missed ≡ false → Comes old (Some e) comes new step
comes_at old e comes new step missed index gains all lacks rest said none =
    let is : new.index ≡ index = ap (λ (t : State). t.index) rest in
    let lacking : missed ≡ true → LeavesSome (found_all old e.looked) e.file e.chunks new.index = λ q. subst (λ (i : Indexed). LeavesSome (found_all old e.looked) e.file e.chunks i) (sym is) (lacks q) in
    comes_by old e comes new step missed gains (λ q. is ∙ all q) lacking (rest ∙ ap (λ (i : Indexed). with_index comes.0 i) (sym is)) said none

-- one message was sent, behind a change of the state
pub sent_one : (s new : State) (step : ClientStep) (m call : Message) (bytes : ℕ) → new ≡ s → step ≡ sends_one call bytes → call ≡ m → ◌≡◌ {A = State × ClientStep} (s, sends_one m bytes) (new, step)
sent_one s new step m call bytes is said same = sym (ap (λ (t : State). (t, step)) is ∙ ap (λ (a : ClientStep). (s, a)) (said ∙ ap (λ (n : Message). sends_one n bytes) same))

-- an error comes only where both hold
pub on_err_both : {E : Type 0} (r : Result ClientStep E) (P Q : Type 0) → P → OnErr r Q → OnErr r (P × Q)
on_err_both (Ok a) P Q p q = tt
on_err_both (Err e) P Q p q = (p, q)
