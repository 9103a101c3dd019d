-- The least notes of a client stand for all of them.
use Rattle.std.proofs.Common.{◌≡◌, ℕ, ◌+◌, ◌-◌, ◌<◌, ◌≤◌, List, [], ◌∷◌, ◌++◌, inl, inr, Option, Some, None, Bool, true, false, length, get_or, take, min, refl, sym, ap, subst, ◌∙◌, arith, length-take}
use Rattle.std.specs.Prelude.{All, Any, AllPairs, find, fold, cond, ◌==◌, nat_lt, option_map}
use Rattle.std.specs.List.{AllWithin}
use Rattle.std.proofs.lemmas.Bool.{cases_lt}
use Rattle.std.proofs.lemmas.Bool.Decides.{nat_tests}
use Rattle.std.proofs.lemmas.List.{length_push, get_or-take, append-nil}
use Rattle.std.proofs.lemmas.List.Elements.{filter-append, All-push, All-take, All-weaker}
use Rattle.std.proofs.lemmas.List.Sums.{fold-append}
use Rattle.std.proofs.lemmas.List.Quantifiers.{Any-push, all_pairs_push}
use Rattle.clock_rule.specs.declared.rule.Note.{Note}
use Rattle.clock_rule.specs.declared.rule.ClockFault.{ClockFault}
use Rattle.clock_rule.specs.declared.rule.ClockFault.TheVariants.{Client}
use Rattle.clock_rule.specs.declared.window.Window.{Window}
use Rattle.clock_rule.specs.Clocks.{breaks, notes_of, last_reading, first_broken, drift_fault, fault_of}
use Rattle.clock_rule.specs.Windows.{Covers, Rises, ArePassed, IsReach, AreLeast, Fits}
use Rattle.clock_rule.proofs.lemmas.Lists.{none_found, in_front, any_kept, pairs_taken}

-- ---- the rule on two events, in numbers

pub too_old : (term drift : ℕ) (one later : Note) → term < later.reading - one.reading → breaks term drift one later ≡ false
too_old term drift one later h = grind (arith, nat_tests)

pub near : (term drift : ℕ) (one later : Note) → later.server - one.server ≤ later.reading - one.reading + drift → breaks term drift one later ≡ false
near term drift one later h = grind (arith, nat_tests)

pub is_near : (term drift : ℕ) (one later : Note) → breaks term drift one later ≡ false → later.reading - one.reading ≤ term → later.server - one.server ≤ later.reading - one.reading + drift
is_near term drift one later h w = grind (arith, nat_tests)

-- where a note doesn't break the rule, none that it covers does
pub covered_keeps : (term drift : ℕ) (one other later : Note) → Covers one other → one.reading ≤ later.reading → breaks term drift one later ≡ false → breaks term drift other later ≡ false
covered_keeps term drift one other later c until h = elim (cases_lt term (later.reading - other.reading)) [
  | inl old ↦ too_old term drift other later old
  | inr new ↦
      let k : later.server - one.server ≤ later.reading - one.reading + drift = is_near term drift one later h (omega arith) in
      near term drift other later (omega arith)
]

rises_near : (first m later : Note) (drift : ℕ) → Rises first m → m.reading ≤ later.reading → later.server - first.server ≤ later.reading - first.reading + drift → later.server - m.server ≤ later.reading - m.reading + drift
rises_near first m later drift r until n = omega arith

-- where the first note within reach doesn't break the rule, none does
pub none_breaks : (term drift : ℕ) (least : List Note) (at : ℕ) (later : Note) → IsReach term least at later.reading → AreLeast least later.reading → (at < length least → (d : Note) → breaks term drift (get_or least at d) later ≡ false) → All (λ m. breaks term drift m later ≡ false) least
none_breaks term drift least at later reach order h = λ k d within. elim (cases_lt k at) [
  | inl before ↦ too_old term drift (get_or least k d) later (reach.passed k d (omega arith) before)
  | inr after ↦ elim (cases_lt at k) [
    | inl beyond ↦
        let rises : Rises (get_or least at d) (get_or least k d) = order.rise at k d beyond within in
        let until : (get_or least k d).reading ≤ later.reading = order.until k d within in
        let near_first : later.server - (get_or least at d).server ≤ later.reading - (get_or least at d).reading + drift = is_near term drift (get_or least at d) later (h (omega arith) d) (reach.first d (omega arith)) in
        near term drift (get_or least k d) later (rises_near (get_or least at d) (get_or least k d) later drift rises until near_first)
    | inr here ↦
        let same : at ≡ k = omega arith in
        subst (λ (n : ℕ). breaks term drift (get_or least n d) later ≡ false) same (h (omega arith) d)
  ]
]

not_covered : (m later : Note) → m.reading ≤ later.reading → (Covers later m → ⊥) → Rises m later
not_covered m later until not = elim (cases_lt (m.server + later.reading) (later.server + m.reading)) [
  | inl below ↦ (until, omega arith)
  | inr above ↦ absurd (not (until, omega arith))
]

rises_too : (a b c : Note) → Rises a b → Rises b c → Rises a c
rises_too a b c x y = (omega arith, omega arith)

-- ---- a window that fits

one_kept : (term drift : ℕ) (window : Window) (later : Note) → AreLeast window.least.items window.last → window.last ≤ later.reading → All (λ m. breaks term drift m later ≡ false) window.least.items → (n : Note) → Any (λ m. Covers m n) window.least.items → breaks term drift n later ≡ false
one_kept term drift window later least order h n any =
    let keeps : breaks term drift any.1 later ≡ false = subst (λ (m : Note). breaks term drift m later ≡ false) any.3 (h any.0 any.1 any.2) in
    let until : any.1.reading ≤ window.last = subst (λ (m : Note). m.reading ≤ window.last) any.3 (least.until any.0 any.1 any.2) in
    covered_keeps term drift any.1 n later any.4 (omega arith) keeps

-- an event that keeps the rule with the least notes keeps it with all
pub all_kept : (term drift : ℕ) (notes : List Note) (window : Window) (later : Note) → Fits term notes window → window.client ≡ later.client → window.last ≤ later.reading → All (λ m. breaks term drift m later ≡ false) window.least.items → first_broken term drift notes later ≡ None
all_kept term drift notes window later fits same order h =
    let none : All (λ n. breaks term drift n later ≡ false) (notes_of window.client notes) = All-weaker (λ n. Any (λ m. Covers m n) window.least.items) (λ n. breaks term drift n later ≡ false) (one_kept term drift window later fits.least order h) (notes_of window.client notes) fits.covered in
    none_found (λ n. breaks term drift n later) (notes_of later.client notes) (subst (λ (c : ℕ). All (λ n. breaks term drift n later ≡ false) (notes_of c notes)) same none)

-- ---- one more note

own : (c n : ℕ) → c ≡ n → (n == c) ≡ true
own c n e = grind (arith, nat_tests)

other : (c n : ℕ) → (c ≡ n → ⊥) → (n == c) ≡ false
other c n e = grind (arith, nat_tests)

pub notes_of_own : (c : ℕ) (notes : List Note) (later : Note) → c ≡ later.client → notes_of c (notes ++ later ∷ []) ≡ notes_of c notes ++ later ∷ []
notes_of_own c notes later e =
    filter-append (λ n. n.client == c) notes (later ∷ [])
    ∙ ap (λ (b : Bool). notes_of c notes ++ cond b (later ∷ []) []) (own c later.client e)

pub notes_of_other : (c : ℕ) (notes : List Note) (later : Note) → (c ≡ later.client → ⊥) → notes_of c (notes ++ later ∷ []) ≡ notes_of c notes
notes_of_other c notes later e =
    filter-append (λ n. n.client == c) notes (later ∷ [])
    ∙ ap (λ (b : Bool). notes_of c notes ++ cond b (later ∷ []) []) (other c later.client e)
    ∙ append-nil (notes_of c notes)

last_own : (c : ℕ) (notes : List Note) (later : Note) → c ≡ later.client → later.reading ≡ last_reading c (notes ++ later ∷ [])
last_own c notes later e =
    sym (ap (fold (λ (_ : ℕ) (n : Note). n.reading) 0) (notes_of_own c notes later e)
    ∙ fold-append (λ (_ : ℕ) (n : Note). n.reading) 0 (notes_of c notes) (later ∷ []))

covers_too : (m n later : Note) → Covers m n → Covers later m → Covers later n
covers_too m n later a b = (omega arith, omega arith)

-- the window after a note of its client
pub fits_more : (term : ℕ) (notes : List Note) (window new : Window) (later : Note) (at keep : ℕ)
    → Fits term notes window → window.client ≡ later.client → window.last ≤ later.reading → IsReach term window.least.items at later.reading
    → keep ≤ length window.least.items → AllWithin (λ m. Rises m later) window.least.items 0 keep → AllWithin (λ m. Covers later m) window.least.items keep (length window.least.items)
    → new.client ≡ window.client → new.last ≡ later.reading → new.passed ≡ min at keep → new.least.items ≡ take keep window.least.items ++ later ∷ []
    → Fits term (notes ++ later ∷ []) new
fits_more term notes window new later at keep fits same order reach within rise cover e_client e_last e_passed e_least =
    let old = window.least.items in
    let covers : (n : Note) → Any (λ m. Covers m n) old → Any (λ m. Covers m n) (take keep old ++ later ∷ []) =
    λ n. any_kept (λ (m : Note). Covers m n) old keep later within (λ k d from to h. covers_too (get_or old k d) n later h (cover k d from to)) in
    let covered : All (λ n. Any (λ m. Covers m n) (take keep old ++ later ∷ [])) (notes_of window.client notes ++ later ∷ []) =
    All-push (λ n. Any (λ m. Covers m n) (take keep old ++ later ∷ [])) (notes_of window.client notes) later
    (All-weaker (λ n. Any (λ m. Covers m n) old) (λ n. Any (λ m. Covers m n) (take keep old ++ later ∷ [])) covers (notes_of window.client notes) fits.covered)
    (Any-push (λ m. Covers m later) (take keep old) later (omega arith, omega arith)) in
    let until : All (λ m. m.reading ≤ later.reading) (take keep old ++ later ∷ []) =
    All-push (λ m. m.reading ≤ later.reading) (take keep old) later
    (All-take (λ m. m.reading ≤ later.reading) keep old (All-weaker (λ m. m.reading ≤ window.last) (λ m. m.reading ≤ later.reading) (λ m h. omega arith) old fits.least.until))
    (omega arith) in
    let rises : AllPairs Rises (take keep old ++ later ∷ []) =
    all_pairs_push Rises (take keep old) later (pairs_taken Rises old keep within fits.least.rise)
    (λ k d short. let below : k < keep = omega (arith, length-take keep old) in subst (λ (m : Note). Rises m later) (sym (get_or-take keep old k d below)) (rise k d (omega arith) below)) in
    let passed : ArePassed term (take keep old ++ later ∷ []) (min at keep) later.reading =
    λ k d from to. subst (λ (m : Note). term < later.reading - m.reading) (sym (in_front old keep later k d within (omega arith))) (reach.passed k d (omega arith) (omega arith)) in
    record {
      last = e_last ∙ last_own window.client notes later same ∙ ap (λ (c : ℕ). last_reading c (notes ++ later ∷ [])) (sym e_client);
      least = record {
        rise = subst (λ (xs : List Note). AllPairs Rises xs) (sym e_least) rises;
        until = subst (λ (xs : List Note). All (λ m. m.reading ≤ new.last) xs) (sym e_least) (subst (λ (l : ℕ). All (λ m. m.reading ≤ l) (take keep old ++ later ∷ [])) (sym e_last) until);
      };
      covered = subst (λ (xs : List Note). All (λ n. Any (λ m. Covers m n) xs) (notes_of new.client (notes ++ later ∷ []))) (sym e_least)
          (subst (λ (c : ℕ). All (λ n. Any (λ m. Covers m n) (take keep old ++ later ∷ [])) (notes_of c (notes ++ later ∷ []))) (sym e_client)
          (subst (λ (ns : List Note). All (λ n. Any (λ m. Covers m n) (take keep old ++ later ∷ [])) ns) (sym (notes_of_own window.client notes later same)) covered));
      within = let long = ap length e_least in omega (arith, long, length_push (take keep old) later, length-take keep old);
      passed = subst (λ (xs : List Note). ArePassed term xs new.passed new.last) (sym e_least)
          (subst (λ (p : ℕ). ArePassed term (take keep old ++ later ∷ []) p new.last) (sym e_passed)
          (subst (λ (l : ℕ). ArePassed term (take keep old ++ later ∷ []) (min at keep) l) (sym e_last) passed));
    }

-- a window fits where what is kept is the same, and so are the client's notes
pub fits_alike : (term : ℕ) (notes more : List Note) (window new : Window) → new.client ≡ window.client → new.last ≡ window.last → new.passed ≡ window.passed → new.least.items ≡ window.least.items → notes_of window.client more ≡ notes_of window.client notes → Fits term notes window → Fits term more new
fits_alike term notes more window new e_client e_last e_passed e_least e fits =
    let same : notes_of new.client more ≡ notes_of window.client notes = ap (λ (c : ℕ). notes_of c more) e_client ∙ e in
    record {
      last = e_last ∙ fits.last ∙ sym (ap (fold (λ (_ : ℕ) (n : Note). n.reading) 0) same);
      least = record {
        rise = subst (λ (xs : List Note). AllPairs Rises xs) (sym e_least) fits.least.rise;
        until = subst (λ (xs : List Note). All (λ m. m.reading ≤ new.last) xs) (sym e_least) (subst (λ (l : ℕ). All (λ m. m.reading ≤ l) window.least.items) (sym e_last) fits.least.until);
      };
      covered = subst (λ (xs : List Note). All (λ n. Any (λ m. Covers m n) xs) (notes_of new.client more)) (sym e_least)
          (subst (λ (ns : List Note). All (λ n. Any (λ m. Covers m n) window.least.items) ns) (sym same) fits.covered);
      within = let long = ap length e_least in omega (arith, long, fits.within);
      passed = subst (λ (xs : List Note). ArePassed term xs new.passed new.last) (sym e_least)
          (subst (λ (p : ℕ). ArePassed term window.least.items p new.last) (sym e_passed)
          (subst (λ (l : ℕ). ArePassed term window.least.items window.passed l) (sym e_last) fits.passed));
    }

pub fits_same : (term : ℕ) (notes more : List Note) (window : Window) → notes_of window.client more ≡ notes_of window.client notes → Fits term notes window → Fits term more window
fits_same term notes more window e fits = fits_alike term notes more window window refl refl refl refl e fits

-- ---- how many stay

-- where the last note that stays isn't covered, none before it is further ahead than the new one
pub rise_below : (least : List Note) (keep : ℕ) (later : Note) → 0 < keep → keep ≤ length least → AllPairs Rises least → All (λ m. m.reading ≤ later.reading) least → ((d : Note) → Covers later (get_or least (keep - 1) d) → ⊥) → AllWithin (λ m. Rises m later) least 0 keep
rise_below least keep later some within rise until not = λ k d from to.
    let last : Rises (get_or least (keep - 1) d) later = not_covered (get_or least (keep - 1) d) later (until (keep - 1) d (omega arith)) (not d) in
    elim (cases_lt k (keep - 1)) [
      | inl before ↦ rises_too (get_or least k d) (get_or least (keep - 1) d) later (rise k (keep - 1) d before (omega arith)) last
      | inr here ↦
          let same : keep - 1 ≡ k = omega arith in
          subst (λ (n : ℕ). Rises (get_or least n d) later) same last
    ]

-- ---- what is answered

below : (a b : ℕ) → a < b → nat_lt a b ≡ true
below a b h = grind (arith, nat_tests)

not_below : (a b : ℕ) → b ≤ a → nat_lt a b ≡ false
not_below a b h = grind (arith, nat_tests)

last_is : (term : ℕ) (notes : List Note) (window : Window) (later : Note) → Fits term notes window → window.client ≡ later.client → window.last ≡ last_reading later.client notes
last_is term notes window later fits same = fits.last ∙ ap (λ (c : ℕ). last_reading c notes) same

unfoldable fault_with : List Note → Note → Option ClockFault → ℕ → Option ClockFault
fault_with notes later drifts last = cond (nat_lt later.reading last) (Some (Client later.client last later.reading)) drifts

pub fault_fall : (term drift : ℕ) (notes : List Note) (window : Window) (later : Note) → Fits term notes window → window.client ≡ later.client → later.reading < window.last → fault_of term drift notes later ≡ Some (Client later.client window.last later.reading)
unfolding fault_with
fault_fall term drift notes window later fits same falls =
    sym (ap (fault_with notes later (option_map (drift_fault later) (first_broken term drift notes later))) (last_is term notes window later fits same))
    ∙ ap (λ (b : Bool). cond b (Some (Client later.client window.last later.reading)) (option_map (drift_fault later) (first_broken term drift notes later))) (below later.reading window.last falls)

-- where the reading doesn't fall
pub fault_else : (term drift : ℕ) (notes : List Note) (window : Window) (later : Note) (found : Option Note) → Fits term notes window → window.client ≡ later.client → window.last ≤ later.reading → first_broken term drift notes later ≡ found → fault_of term drift notes later ≡ option_map (drift_fault later) found
fault_else term drift notes window later found fits same order is =
    let last = last_is term notes window later fits same in
    ap (λ (b : Bool). cond b (Some (Client later.client (last_reading later.client notes) later.reading)) (option_map (drift_fault later) (first_broken term drift notes later))) (not_below later.reading (last_reading later.client notes) (omega arith))
    ∙ ap (option_map (drift_fault later)) is

unfoldable fault_among : ℕ → ℕ → Note → List Note → Option ClockFault
fault_among term drift later own =
    cond (nat_lt later.reading (fold (λ _ n. n.reading) 0 own)) (Some (Client later.client (fold (λ _ n. n.reading) 0 own) later.reading))
    (option_map (drift_fault later) (find (λ n. breaks term drift n later) own))

-- the first event of a client keeps the rule
pub fault_first : (term drift : ℕ) (notes : List Note) (later : Note) → notes_of later.client notes ≡ [] → fault_of term drift notes later ≡ None
unfolding fault_among
fault_first term drift notes later none =
    ap (fault_among term drift later) none
    ∙ ap (λ (b : Bool). cond b (Some (Client later.client 0 later.reading)) None) (not_below later.reading 0 (omega arith))
