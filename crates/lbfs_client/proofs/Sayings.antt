-- The cases of a walk, as the code comes to them.
use Rattle.std.proofs.Common.{◌≡◌, ℕ, List, true, false, refl, sym, subst, Bool}
use Rattle.std.specs.Prelude.{Some, Result}
use Rattle.lb_base.specs.declared.sink.GiveError.{GiveError}
use Rattle.wire.specs.declared.message.Message.{Message}
use Rattle.client_state.specs.State.{State, local_bytes}
use Rattle.client_state.specs.declared.step.Outcome.{Outcome}
use Rattle.lbfs_client.specs.declared.answer.Answer.{Answer}
use Rattle.lbfs_client.specs.Host.{Host, HasWritten}
use Rattle.lbfs_client.specs.Walks.{says, answer_of, is_closed, Abandons, ClosedIf, Closed, kept_answer, Keeps}
use Rattle.lbfs_client.specs.declared.said.Said.{Said}

pub closed_well : (c : State) (file : ℕ) (o : Outcome) (now : ℕ) (send : List Message) (said : Said) → is_closed o ≡ true → said ≡ says send (Some (answer_of o)) → Closed c file o now send c said
closed_well c file o now send said is e = subst (λ (b : Bool). ClosedIf c file b o now send c said) (sym is) (refl, e)

pub closed_badly : (c : State) (file : ℕ) (o : Outcome) (now : ℕ) (send : List Message) (c' : State) (said : Said) → is_closed o ≡ false → (a : Answer) → a ≡ answer_of o → Abandons c file a now send c' said → Closed c file o now send c' said
closed_badly c file o now send c' said is a same p =
    subst (λ (b : Bool). ClosedIf c file b o now send c' said) (sym is) (subst (λ (x : Answer). Abandons c file x now send c' said) same p)

pub keeps_is : (h : Host) (c : State) (file : ℕ) (name : List ℕ) (o : Outcome) (now : ℕ) (send : List Message) (h' : Host) (c' : State) (said : Said) (bytes : List ℕ) (wrote : Result Unit GiveError) (a : Answer) → bytes ≡ local_bytes c.opened file → HasWritten h name bytes wrote h' → a ≡ kept_answer o wrote → Abandons c file a now send c' said → Keeps h c file name o now send h' c' said
keeps_is h c file name o now send h' c' said bytes wrote a is writes same leaves = record {
  wrote = wrote;
  writes = subst (λ (xs : List ℕ). HasWritten h name xs wrote h') is writes;
  leaves = subst (λ (x : Answer). Abandons c file x now send c' said) same leaves;
}
