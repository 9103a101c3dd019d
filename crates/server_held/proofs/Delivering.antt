-- Messages that are delivered, and sessions that are hung for running out of memory.
use Rattle.std.specs.Prelude.{◌≡◌, ℕ, List, [], ◌∷◌, ◌++◌, Bool, true, false, IsTrue, Option, Some, None}
use Rattle.std.proofs.Common.{refl, sym, ap, ◌∙◌, subst}
use Rattle.server_held.specs.Boxes.{KeepsOthers}
use Rattle.store.specs.declared.record.Kept.{Kept}
use Rattle.send_list.specs.Sent.{sent_list}
use Rattle.server_core.specs.declared.event.Event.{Event}
use Rattle.server_core.specs.declared.event.Sent.{Sent}
use Rattle.server_core.specs.declared.event.ServerStep.{ServerStep}
use Rattle.server_held.specs.declared.held.SharedServer.{SharedServer}
use Rattle.server_held.specs.declared.held.Went.{Went}
use Rattle.server_held.specs.declared.held.Went.TheVariants as went
use Rattle.server_held.specs.Held.{Delivered, Left, Took, Answers, Adds, hung}
use Rattle.server_held.specs.Kept.{Steps, StoreKeeps}
use Rattle.server_held.proofs.Keeping.{store_same, store_more, steps_later}
use Rattle.server_held.proofs.Hanging.{hung_more}
use Rattle.server_held.proofs.Telling.{PutInto, adds_none, adds_one, adds_more, adds_lost, keeps_more}

module _ {S : Type 0} (records : S → Option (List Kept)) (faults : S → ℕ) where
  pub delivered_none : (old : SharedServer S) → Delivered records faults old [] true old
  delivered_none old = record { lost = []; hangs = refl; told = adds_none old.boxes; cause = λ sufficed. refl; store = store_same records faults old.kept }

  pub delivered_one : (old : SharedServer S) (s : Sent) (new : SharedServer S) → new.kept ≡ old.kept → PutInto old.boxes s new.boxes → Delivered records faults old (s ∷ []) true new
  delivered_one old s new same put = record {
    lost = [];
    hangs = ap (λ k. k.server) same;
    told = adds_one old.boxes s new.boxes put;
    cause = λ sufficed. refl;
    store = subst (λ k. StoreKeeps records faults old.kept k) (sym same) (store_same records faults old.kept);
  }

  pub delivered_hung : (old between : SharedServer S) (s : Sent) (new : SharedServer S) → between.kept ≡ old.kept → KeepsOthers old.boxes between.boxes s.session → Left records faults between s.session new → Delivered records faults old (s ∷ []) false new
  delivered_hung old between s new same keeps left = record {
    lost = s.session ∷ [];
    hangs = left.hangs ∙ ap (λ k. hung k.server (s.session ∷ [])) same;
    told = adds_lost old.boxes s new.boxes (keeps_more old.boxes between.boxes new.boxes s.session keeps left.others) left.gone;
    cause = λ sufficed. cc;
    store = subst (λ k. StoreKeeps records faults k new.kept) same left.store;
  }

  pub delivered_more : (a b c : SharedServer S) (xs ys : List Sent) (p q r : Bool) → (r ≡ true → (p ≡ true) × (q ≡ true)) → Delivered records faults a xs p b → Delivered records faults b ys q c → Delivered records faults a (xs ++ ys) r c
  delivered_more a b c xs ys p q r both first second = record {
    lost = first.lost ++ second.lost;
    hangs = second.hangs ∙ ap (λ w. hung w second.lost) first.hangs ∙ hung_more a.kept.server first.lost second.lost;
    told = adds_more a.boxes b.boxes c.boxes xs ys first.lost second.lost first.told second.told;
    cause = λ sufficed. ap (λ zs. zs ++ second.lost) (first.cause (both sufficed).0) ∙ second.cause (both sufficed).1;
    store = store_more records faults a.kept b.kept c.kept first.store second.store;
  }

  -- a step's messages: the first, where there is one, and those behind it
  pub delivered_first : (a b c : SharedServer S) (s : Sent) (first : Option Sent) (rest items all : List Sent) (p q r : Bool) → (IsTrue r → IsTrue p × IsTrue q) → sent_list first rest ≡ all → first ≡ Some s → items ≡ rest → Delivered records faults a (s ∷ []) p b → Delivered records faults b items q c → Delivered records faults a all r c
  delivered_first a b c s first rest items all p q r both whole is same one others =
      let list : s ∷ items ≡ all = ap (λ z. s ∷ z) same ∙ ap (λ o. sent_list o rest) (sym is) ∙ whole in
      subst (λ z. Delivered records faults a z r c) list (delivered_more a b c (s ∷ []) items p q r both one others)

  pub delivered_rest : (a c : SharedServer S) (first : Option Sent) (rest items all : List Sent) (q : Bool) → sent_list first rest ≡ all → first ≡ None → items ≡ rest → Delivered records faults a items q c → Delivered records faults a all q c
  delivered_rest a c first rest items all q whole is same others =
      let list : items ≡ all = same ∙ ap (λ o. sent_list o rest) (sym is) ∙ whole in
      subst (λ z. Delivered records faults a z q c) list others

  -- a step whose messages were delivered
  pub took : (old between : SharedServer S) (e : Event) (said : Went) (new : SharedServer S) (step : ServerStep) (sufficed : Bool) → Steps (faults old.kept.store) (faults between.kept.store) old.kept.server e between.kept.server step → StoreKeeps records faults old.kept between.kept → between.boxes ≡ old.boxes → Delivered records faults between step.send sufficed new → (¬ (said ≡ went.Memory) → sufficed ≡ true) → Answers e step new said → Took records faults old e said new
  took old between e said new step sufficed steps kept same d enough answer = record {
    step = step;
    between = between.kept.server;
    lost = d.lost;
    stepped = steps_later (faults old.kept.store) (faults between.kept.store) (faults new.kept.store) old.kept.server e between.kept.server step d.store.later steps;
    hangs = d.hangs;
    told = subst (λ b. Adds b step.send d.lost new.boxes) same d.told;
    cause = λ not. d.cause (enough not);
    answer = answer;
    store = store_more records faults old.kept between.kept new.kept kept d.store;
  }
