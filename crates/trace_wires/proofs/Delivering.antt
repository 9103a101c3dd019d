-- A delivery gives an end one piece after the other, and it makes of them what it makes of all at once.
use Rattle.std.proofs.Common.{◌≡◌, ◌≢◌, ℕ, ◌+◌, ◌-◌, ◌<◌, ◌≤◌, List, [], ◌∷◌, ◌++◌, length, take, drop, refl, sym, ap, ◌∙◌, subst, arith, append_assoc}
use Rattle.std.specs.Prelude.{Option, Some, None}
use Rattle.std.proofs.lemmas.List.{length-drop, take_all, drop_all, append-nil, drop-drop}
use Rattle.std.proofs.Math.Seq.{take-add}
use Rattle.rpc_record.specs.declared.refusal.Refusal.{Refusal}
use Rattle.rpc_record.specs.declared.records.Fed.{Fed}
use Rattle.rpc_record.specs.Records.{Unread, Parts, fed, split, continued}
use Rattle.rpc_record.proofs.lemmas.Splitting.{split_cut}
use Rattle.trace_text.specs.declared.line.Amount.{Amount}
use Rattle.trace_text.specs.declared.line.Amount.TheVariants as amount
use Rattle.trace_wires.specs.declared.queue.Given.{Given}
use Rattle.trace_wires.specs.Queue.{count_of, IsGiven, IsNext, CanGive}
use Rattle.trace_wires.proofs.Giving.{none_of}

-- ---- two pieces give what they give at once

record Both (u : Unread) (a b : List ℕ) : Type 0 where
  pub end : (fed u (a ++ b)).0 ≡ (fed (fed u a).0 b).0
  pub records : (fed u (a ++ b)).1.records ≡ (fed u a).1.records ++ (fed (fed u a).0 b).1.records

-- what an end makes of what it has
abbrev made : Parts → Unread × Fed
made parts = (record { rest = parts.rest; spoilt = parts.spoilt }, record { records = parts.records; spoilt = parts.spoilt })

abbrev unread : List ℕ → Option Refusal → Unread
unread rest spoilt = record { rest = rest; spoilt = spoilt }

by_made : (u : Unread) (a b : List ℕ) (records : List (List ℕ)) (left : List ℕ) (spoilt : Option Refusal) → fed u a ≡ made (record { records = records; rest = left; spoilt = spoilt })
    → fed u (a ++ b) ≡ made (continued (record { records = records; rest = left; spoilt = spoilt }) b) → Both u a b
by_made u a b records left (Some why) first whole = record {
  end = ap (λ (z : Unread × Fed). z.0) whole ∙ sym (ap (λ (z : Unread × Fed). (fed z.0 b).0) first);
  records = ap (λ (z : Unread × Fed). z.1.records) whole ∙ sym (append-nil records) ∙ sym (ap (λ (z : Unread × Fed). z.1.records ++ (fed z.0 b).1.records) first);
}
by_made u a b records left None first whole = record {
  end = ap (λ (z : Unread × Fed). z.0) whole ∙ sym (ap (λ (z : Unread × Fed). (fed z.0 b).0) first);
  records = ap (λ (z : Unread × Fed). z.1.records) whole ∙ sym (ap (λ (z : Unread × Fed). z.1.records ++ (fed z.0 b).1.records) first);
}

both_in : (rest : List ℕ) (spoilt : Option Refusal) (a b : List ℕ) → Both (unread rest spoilt) a b
both_in rest (Some why) a b = record { end = refl; records = refl }
both_in rest None a b =
    let parts : Parts = split (rest ++ a) in
    by_made (unread rest None) a b parts.records parts.rest parts.spoilt refl (ap made (ap split (sym (append_assoc rest a b)) ∙ split_cut (rest ++ a) b))

both : (u : Unread) (a b : List ℕ) → Both u a b
both u a b = both_in u.rest u.spoilt a b

-- ---- what was delivered so far

pub record Delivers (amount : Amount) (before : List ℕ) (first : Unread) (now : List ℕ) (then : Unread) (told : List (List ℕ)) (most : ℕ) : Type 0 where
  pub given : ℕ
  pub within : given ≤ length before
  pub rest : now ≡ drop given before
  pub kept : then ≡ (fed first (take given before)).0
  pub records : told ≡ (fed first (take given before)).1.records
  pub can : CanGive amount given most

pub delivers_none : (a : Amount) (before : List ℕ) (first then : Unread) (told : List (List ℕ)) (most : ℕ) → then ≡ (fed first []).0 → told ≡ (fed first []).1.records → CanGive a 0 most → Delivers a before first before then told most
delivers_none a before first then told most kept records can = record { given = 0; within = omega arith; rest = refl; kept = kept; records = records; can = can }

pub delivers_more : (a : Amount) (before now after : List ℕ) (first then next : Unread) (told more : List (List ℕ)) (most left : ℕ) (g : Given) → Delivers a before first now then told most → IsGiven now after then next most g
    → more ≡ told ++ g.records → ((given : ℕ) → CanGive a given most → CanGive a (given + g.count) left) → Delivers a before first after next more left
delivers_more a before now after first then next told more most left g d i more_is can =
    let all : take (d.given + g.count) before ≡ take d.given before ++ take g.count now = take-add d.given g.count before ∙ ap (λ (z : List ℕ). take d.given before ++ take g.count z) (sym d.rest) in
    let two : Both first (take d.given before) (take g.count now) = both first (take d.given before) (take g.count now) in
    record {
      given = d.given + g.count;
      within = omega (arith, d.within, i.within, ap length d.rest, length-drop d.given before);
      rest = i.rest ∙ ap (drop g.count) d.rest ∙ drop-drop g.count d.given before;
      kept = i.kept ∙ ap (λ (u : Unread). (fed u (take g.count now)).0) d.kept ∙ sym two.end ∙ sym (ap (λ (z : List ℕ). (fed first z).0) all);
      records =
          more_is ∙ ap (λ (rs : List (List ℕ)). rs ++ g.records) d.records ∙ ap (λ (rs : List (List ℕ)). (fed first (take d.given before)).1.records ++ rs) (i.records ∙ ap (λ (u : Unread). (fed u (take g.count now)).1.records) d.kept)
          ∙ sym two.records ∙ sym (ap (λ (z : List ℕ). (fed first z).1.records) all);
      can = can d.given d.can;
    }

-- each piece has a byte at least
pub delivers_less : (now after : List ℕ) (end then : Unread) (most : ℕ) (g : Given) → IsGiven now after end then most g → length after < length now
delivers_less now after end then most g i = omega (arith, i.some, i.within, ap length i.rest, length-drop g.count now)

-- ---- the end of a delivery

-- so many are all that the line asks for
pub record IsAsked (a : Amount) (given : ℕ) (before : List ℕ) : Type 0 where
  pub first : take given before ≡ take (count_of a (length before)) before
  pub rest : drop given before ≡ drop (count_of a (length before)) before

asked_none : (a : Amount) (given : ℕ) (before : List ℕ) → CanGive a given 0 → IsAsked a given before
asked_none amount.All given before can = absurd (omega (arith, can))
asked_none (amount.Bytes n) given before can =
    let same : given ≡ n = omega (arith, can) in
    record { first = ap (λ (k : ℕ). take k before) same; rest = ap (λ (k : ℕ). drop k before) same }

asked_all : (a : Amount) (given most : ℕ) (before : List ℕ) → CanGive a given most → given ≤ length before → length before ≤ given → IsAsked a given before
asked_all amount.All given most before can le ge =
    let same : given ≡ length before = omega (arith, le, ge) in
    record { first = ap (λ (k : ℕ). take k before) same; rest = ap (λ (k : ℕ). drop k before) same }
asked_all (amount.Bytes n) given most before can le ge =
    let more : length before ≤ n = omega (arith, can, ge) in
    record { first = take_all given before ge ∙ sym (take_all n before more); rest = drop_all given before ge ∙ sym (drop_all n before more) }

-- a delivery of this amount is done
pub record IsDone (a : Amount) (before : List ℕ) (first : Unread) (now : List ℕ) (then : Unread) (told : List (List ℕ)) : Type 0 where
  pub rest : now ≡ drop (count_of a (length before)) before
  pub kept : then ≡ (fed first (take (count_of a (length before)) before)).0
  pub records : told ≡ (fed first (take (count_of a (length before)) before)).1.records

by_asked : (a : Amount) (before now : List ℕ) (first then : Unread) (told : List (List ℕ)) (most : ℕ) (d : Delivers a before first now then told most) → IsAsked a d.given before → IsDone a before first now then told
by_asked a before now first then told most d i = record {
  rest = d.rest ∙ i.rest;
  kept = d.kept ∙ ap (λ (z : List ℕ). (fed first z).0) i.first;
  records = d.records ∙ ap (λ (z : List ℕ). (fed first z).1.records) i.first;
}

pub done_given : (a : Amount) (before now : List ℕ) (first then : Unread) (told : List (List ℕ)) (most : ℕ) → Delivers a before first now then told most → most ≤ 0 → IsDone a before first now then told
done_given a before now first then told most d le =
    let none : most ≡ 0 = omega (arith, le) in
    by_asked a before now first then told most d (asked_none a d.given before (subst (CanGive a d.given) none d.can))

pub done_empty : (a : Amount) (before now : List ℕ) (first then : Unread) (told : List (List ℕ)) (most : ℕ) → Delivers a before first now then told most → now ≡ [] → IsDone a before first now then told
done_empty a before now first then told most d none =
    by_asked a before now first then told most d (asked_all a d.given most before d.can d.within (omega (arith, ap length none, ap length d.rest, length-drop d.given before)))

-- nothing came next
pub done_next : (a : Amount) (before now after : List ℕ) (first then next : Unread) (told : List (List ℕ)) (most : ℕ) (o : Option Given) → Delivers a before first now then told most → IsNext now after then next most o → ((g : Given) → o ≢ Some g)
    → IsDone a before first after next told
done_next a before now after first then next told most o d is not_some =
    let none : (now ≡ []) × (after ≡ []) × (next ≡ then) = none_of now after then next most o is not_some in
    let done : IsDone a before first now then told = done_empty a before now first then told most d none.0 in
    record { rest = none.1 ∙ sym none.0 ∙ done.rest; kept = none.2 ∙ done.kept; records = done.records }
