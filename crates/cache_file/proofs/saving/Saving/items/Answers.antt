use Rattle.std.proofs.Common.{◌≡◌, ◌+◌, ◌∙◌, [], ◌∷◌, sym, subst, ap, drop}
use Rattle.std.proofs.lemmas.List.{drop_all, drop_more}
use Rattle.cache_file.specs.Filling.{Puts}
use Rattle.cache_file.proofs.Filling.{Leads, leads_on, leads_full, leads_all}
use Rattle.cache_file.proofs.saving.Saving.items.Goals as goal

pub loop-item-preserved : goal.loop-item-preserved
loop-item-preserved c =
    let all = c.args.items.now in
    let k = c.loop-item.item-index in
    let bytes = c.as_slice.result.now in
    let left : drop k all ≡ bytes ∷ drop (k + 1) all = drop_more all k _ c.loop-item-test.true ∙ ap (λ b. b ∷ drop (k + 1) all) (sym (c.as_slice.ensures ∙ c.item-item.is)) in
    leads_on c.args.self.now all c.loop-item.self c.item.new.self (bytes ∷ []) (drop (k + 1) all)
    (subst (λ b. Puts c.loop-item.self (bytes ∷ []) b c.item.new.self) c.if-not-branch.false c.in_ok-item.ensures)
    (subst (Leads c.args.self.now all c.loop-item.self) left c.loop-item.invariant)

pub returns-then-not-branch : goal.returns-then-not-branch
returns-then-not-branch c =
    let all = c.args.items.now in
    let k = c.loop-item.item-index in
    let bytes = c.as_slice.result.now in
    let left : drop k all ≡ bytes ∷ drop (k + 1) all = drop_more all k _ c.loop-item-test.true ∙ ap (λ b. b ∷ drop (k + 1) all) (sym (c.as_slice.ensures ∙ c.item-item.is)) in
    leads_full c.args.self.now all c.loop-item.self c.item.new.self (bytes ∷ []) (drop (k + 1) all)
    (subst (λ b. Puts c.loop-item.self (bytes ∷ []) b c.item.new.self) c.if-not-branch.true c.in_ok-item.ensures)
    (subst (Leads c.args.self.now all c.loop-item.self) left c.loop-item.invariant)

pub returns : goal.returns
returns c =
    let all = c.args.items.now in
    leads_all c.args.self.now all c.loop-item.self
    (subst (Leads c.args.self.now all c.loop-item.self) (drop_all c.loop-item.item-index all c.loop-item-test.false) c.loop-item.invariant)
