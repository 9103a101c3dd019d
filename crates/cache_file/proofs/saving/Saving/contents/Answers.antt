use Rattle.std.proofs.Common.{◌≡◌, ◌+◌, List, [], ℕ, true, false, Some, sym, subst, drop, arith}
use Rattle.std.specs.Prelude.{slice_get}
use Rattle.std.specs.List.{flat_map}
use Rattle.std.proofs.lemmas.Option.{slice_get_within}
use Rattle.client_cache.specs.Cache.{contents_in}
use Rattle.cache_file.specs.Filling.{Puts}
use Rattle.cache_file.specs.Saved.{pieces_kept}
use Rattle.cache_file.proofs.Filling.{Leads, leads_on, leads_full, leads_all, contents_left, none_past, no_content}
use Rattle.cache_file.proofs.saving.Saving.contents.Goals as goal

pub contents-smaller : goal.contents-smaller
contents-smaller c =
    let at : slice_get (contents_in c.args.cache.now) c.contents.place ≡ Some (c.in-Some.file, c.in-Some.content.now) = sym c.in-Some.ensures.shown in
    let lt = slice_get_within (contents_in c.args.cache.now) c.contents.place _ at in
    omega (arith, lt)

pub contents-preserved : goal.contents-preserved
contents-preserved c =
    let f : ℕ × List ℕ → List (List ℕ) = pieces_kept in
    let cs = contents_in c.args.cache.now in
    let k = c.contents.place in
    let e : ℕ × List ℕ = (c.in-Some.file, c.in-Some.content.now) in
    let at : slice_get cs k ≡ Some e = sym c.in-Some.ensures.shown in
    let lt = slice_get_within cs k e at in
    let some : Puts c.contents.self (f e) true c.kept.new.self = subst (λ b. Puts c.contents.self (f e) b c.kept.new.self) c.if-not-branch.false (subst (λ bytes. Puts c.contents.self (pieces_kept (c.in-Some.file, bytes)) c.in_ok-kept.field-0 c.kept.new.self) c.as_slice.ensures c.in_ok-kept.ensures) in
    record {
      small = omega (arith, lt);
      leads = leads_on c.args.self.now (flat_map f cs) c.contents.self c.kept.new.self (f e) (flat_map f (drop (k + 1) cs)) some
          (subst (Leads c.args.self.now (flat_map f cs) c.contents.self) (contents_left f cs k e at) c.contents.invariant.leads);
    }

pub returns-then-not-branch : goal.returns-then-not-branch
returns-then-not-branch c =
    let f : ℕ × List ℕ → List (List ℕ) = pieces_kept in
    let cs = contents_in c.args.cache.now in
    let k = c.contents.place in
    let e : ℕ × List ℕ = (c.in-Some.file, c.in-Some.content.now) in
    let at : slice_get cs k ≡ Some e = sym c.in-Some.ensures.shown in
    let some : Puts c.contents.self (f e) false c.kept.new.self = subst (λ b. Puts c.contents.self (f e) b c.kept.new.self) c.if-not-branch.true (subst (λ bytes. Puts c.contents.self (pieces_kept (c.in-Some.file, bytes)) c.in_ok-kept.field-0 c.kept.new.self) c.as_slice.ensures c.in_ok-kept.ensures) in
    leads_full c.args.self.now (flat_map f cs) c.contents.self c.kept.new.self (f e) (flat_map f (drop (k + 1) cs)) some
    (subst (Leads c.args.self.now (flat_map f cs) c.contents.self) (contents_left f cs k e at) c.contents.invariant.leads)

pub returns : goal.returns
returns c =
    let f : ℕ × List ℕ → List (List ℕ) = pieces_kept in
    let cs = contents_in c.args.cache.now in
    let k = c.contents.place in
    let none : drop k cs ≡ [] = none_past cs k (no_content c.at.result cs k c.at.ensures.shown c.in_default.not-Some) in
    leads_all c.args.self.now (flat_map f cs) c.contents.self
    (subst (λ left. Leads c.args.self.now (flat_map f cs) c.contents.self (flat_map f left)) none c.contents.invariant.leads)
