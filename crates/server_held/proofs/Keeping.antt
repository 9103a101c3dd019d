-- What stays known of a store over several events.
use Rattle.std.specs.Prelude.{◌≡◌, ℕ, ◌≤◌, List, Option, Some, None, Bool, true, false}
use Rattle.std.proofs.Common.{refl, ◌∙◌, subst, arith}
use Rattle.store.specs.declared.record.Kept.{Kept}
use Rattle.tree_reading.specs.Tree.{Tree}
use Rattle.file_tree.specs.Stores.{Keeps, IsLeft, IsFault}
use Rattle.server_core.specs.declared.event.Event.{Event}
use Rattle.server_core.specs.declared.event.ServerStep.{ServerStep}
use Rattle.server_core.specs.State.{State}
use Rattle.server_held.specs.Kept.{KeptState, Steps, StoreKeeps}

keeps_none : (a : Option (List Kept)) (t : Tree) → Keeps a t a t
keeps_none None t = refl
keeps_none (Some records) t = (records, refl, record { stored = λ stored. stored; counted = omega arith; same = λ _. refl })

left_more : (a b c : List Kept) (t u v : Tree) → IsLeft a t b u → IsLeft b u c v → IsLeft a t c v
left_more a b c t u v first second = record {
  stored = λ stored. second.stored (first.stored stored);
  counted = let p = first.counted in let q = second.counted in omega (arith, p, q);
  same = λ same. let p = first.counted in let q = second.counted in second.same (omega (arith, p, q, same)) ∙ first.same (omega (arith, p, q, same));
}

keeps_more : (a b c : Option (List Kept)) (t u v : Tree) → Keeps a t b u → Keeps b u c v → Keeps a t c v
keeps_more None b c t u v first second = subst (λ o. Keeps o u c v) first second
keeps_more (Some records) b c t u v first second =
    let next = subst (λ o. Keeps o u c v) first.1 second in
    (next.0, next.1, left_more records first.0 next.0 t u v first.2 next.2)

fault_later : (fault : Bool) (a b c : ℕ) → b ≤ c → IsFault fault a b → IsFault fault a c
fault_later false a b c le is = tt
fault_later true a b c le is = omega (arith, le, is)

-- faults that are counted later change nothing of what a step was
pub steps_later : (a b c : ℕ) (old : State) (e : Event) (new : State) (step : ServerStep) → b ≤ c → Steps a b old e new step → Steps a c old e new step
steps_later a b c old e new step le steps = (λ all. let s = steps.0 all in record { fault = s.fault; cause = fault_later s.fault a b c le s.cause; is = s.is }, steps.1)

module _ {S : Type 0} (records : S → Option (List Kept)) (faults : S → ℕ) where
  pub store_same : (k : KeptState S) → StoreKeeps records faults k k
  store_same k = record { keeps = keeps_none (records k.store) k.server.tree; later = omega arith; opening = refl }

  pub store_more : (a b c : KeptState S) → StoreKeeps records faults a b → StoreKeeps records faults b c → StoreKeeps records faults a c
  store_more a b c first second = record {
    keeps = keeps_more (records a.store) (records b.store) (records c.store) a.server.tree b.server.tree c.server.tree first.keeps second.keeps;
    later = let p = first.later in let q = second.later in omega (arith, p, q);
    opening = second.opening ∙ first.opening;
  }
