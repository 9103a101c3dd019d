-- What becomes of the windows when one is made, and when its client's event is noted.
use Rattle.std.proofs.Common.{◌≡◌, ℕ, ◌+◌, ◌<◌, ◌≤◌, List, [], ◌∷◌, ◌++◌, ◌⊎◌, inl, inr, Some, length, get_or, refl, sym, ap, subst, ◌∙◌, arith}
use Rattle.std.specs.Prelude.{slice_get, slice_set, ◌≢◌, All, Any, AllPairs, fold}
use Rattle.std.proofs.lemmas.Bool.{cases_lt}
use Rattle.std.proofs.lemmas.Option.{slice_get_read, slice_get_within}
use Rattle.clock_rule.specs.declared.rule.Note.{Note}
use Rattle.clock_rule.specs.declared.window.Window.{Window}
use Rattle.clock_rule.specs.Clocks.{notes_of}
use Rattle.clock_rule.specs.Windows.{Covers, Rises, Fits, IsWindowOf, HasNoWindow, IsFresh, IsWithWindow, AreKept}
use Rattle.clock_rule.proofs.lemmas.Lists.{some_is, at_end, of_appended, kept_appended, of_replaced, at_replaced, else_replaced}
use Rattle.clock_rule.proofs.Least.{notes_of_other, fits_same}

-- a fresh window fits where nothing was noted of its client
fits_fresh : (term : ℕ) (notes : List Note) (window : Window) (client : ℕ) → IsFresh window client → notes_of client notes ≡ [] → Fits term notes window
fits_fresh term notes window client fresh none =
    let nothing : notes_of window.client notes ≡ [] = ap (λ (c : ℕ). notes_of c notes) fresh.client ∙ none in
    record {
      last = fresh.last ∙ sym (ap (fold (λ (_ : ℕ) (n : Note). n.reading) 0) nothing);
      least = record {
        rise = subst (λ (xs : List Note). AllPairs Rises xs) (sym fresh.least) (λ i j d before last. absurd (omega arith));
        until = subst (λ (xs : List Note). All (λ m. m.reading ≤ window.last) xs) (sym fresh.least) (λ k d last. absurd (omega arith));
      };
      covered = subst (λ (ns : List Note). All (λ n. Any (λ m. Covers m n) window.least.items) ns) (sym nothing) (λ k d last. absurd (omega arith));
      within = omega (arith, fresh.passed);
      passed = λ k d from to. absurd (omega (arith, fresh.passed));
    }

pub with_window : (term : ℕ) (notes : List Note) (windows more : List Window) (client : ℕ) → AreKept term notes windows → IsWithWindow windows more client → AreKept term notes more
with_window term notes windows more client kept (inl same) = subst (λ (ds : List Window). AreKept term notes ds) (sym same) kept
with_window term notes windows more client kept (inr (none, (new, fresh, is))) = subst (λ (ds : List Window). AreKept term notes ds) (sym is) (record {
  fit = λ i d at. elim (of_appended windows new i d at) [
    | inl h ↦ subst (λ (x : Window). Fits term notes x) (sym h.1) (fits_fresh term notes new client fresh (kept.rest client none))
    | inr h ↦ kept.fit i d h
  ];
  apart = λ i j a b at_i at_j same. elim (of_appended windows new i a at_i) [
    | inl h ↦ elim (of_appended windows new j b at_j) [
      | inl k ↦ h.0 ∙ sym k.0
      | inr k ↦ absurd (none j b k (sym same ∙ ap (λ (x : Window). x.client) h.1 ∙ fresh.client))
    ]
    | inr h ↦ elim (of_appended windows new j b at_j) [
      | inl k ↦ absurd (none i a h (same ∙ ap (λ (x : Window). x.client) k.1 ∙ fresh.client))
      | inr k ↦ kept.apart i j a b h k same
    ]
  ];
  rest = λ c free. kept.rest c (λ i d at. free i d (kept_appended windows new i d at));
})

-- the notes stay, or grow by one
abbrev pub Grows : List Note → List Note → Note → Type 0
Grows notes more later = (more ≡ notes) ⊎ (more ≡ notes ++ later ∷ [])

grown_other : (c : ℕ) (notes more : List Note) (later : Note) → Grows notes more later → (c ≡ later.client → ⊥) → notes_of c more ≡ notes_of c notes
grown_other c notes more later (inl same) apart = ap (notes_of c) same
grown_other c notes more later (inr longer) apart = ap (notes_of c) longer ∙ notes_of_other c notes later apart

-- each window after the change was there before, with the same client
was_there : (windows : List Window) (at : ℕ) (old new : Window) → slice_get windows at ≡ Some old → new.client ≡ old.client → (i : ℕ) (d : Window) → slice_get (slice_set windows at new) i ≡ Some d → (e : Window) × (slice_get windows i ≡ Some e) × (e.client ≡ d.client)
was_there windows at old new there client i d h = elim (of_replaced windows at new i d h) [
  | inl k ↦ (old, ap (slice_get windows) k.0 ∙ there, sym (ap (λ (x : Window). x.client) k.1 ∙ client))
  | inr k ↦ (d, k.1, refl)
]

pub with_note : (term : ℕ) (notes more : List Note) (windows : List Window) (at : ℕ) (old new : Window) (later : Note)
    → AreKept term notes windows → slice_get windows at ≡ Some old → old.client ≡ later.client → new.client ≡ old.client → Fits term more new → Grows notes more later
    → AreKept term more (slice_set windows at new)
with_note term notes more windows at old new later kept there whose client fits grows = record {
  fit = λ i d h. elim (of_replaced windows at new i d h) [
    | inl k ↦ subst (λ (x : Window). Fits term more x) (sym k.1) fits
    | inr k ↦ fits_same term notes more d (grown_other d.client notes more later grows (λ e. k.0 (kept.apart i at d old k.1 there (e ∙ sym whose)))) (kept.fit i d k.1)
  ];
  apart = λ i j a b at_i at_j same.
      let x = was_there windows at old new there client i a at_i in
      let y = was_there windows at old new there client j b at_j in
      kept.apart i j x.0 y.0 x.1 y.1 (x.2 ∙ same ∙ sym y.2);
  rest = λ c free.
      let none : HasNoWindow windows c = λ i d h e. elim (else_replaced windows at new i d h) [
        | inl k ↦ free at new (at_replaced windows at new old there) (client ∙ ap (λ (x : Window). x.client) (some_is old d (sym there ∙ sym (ap (slice_get windows) k) ∙ h)) ∙ e)
        | inr k ↦ free i d k e
      ] in
      grown_other c notes more later grows (λ e. free at new (at_replaced windows at new old there) (client ∙ whose ∙ sym e)) ∙ kept.rest c none;
}

-- ---- where a window stands

pub not_here : (windows : List Window) (at : ℕ) (here : Window) (client : ℕ) → slice_get windows at ≡ Some here → here.client ≢ client → ((i : ℕ) (d : Window) → i < at → slice_get windows i ≡ Some d → d.client ≢ client) → (i : ℕ) (d : Window) → i < at + 1 → slice_get windows i ≡ Some d → d.client ≢ client
not_here windows at here client is not before i d below there = elim (cases_lt i at) [
  | inl early ↦ before i d early there
  | inr late ↦
      let same : at ≡ i = omega arith in
      λ e. not (ap (λ (x : Window). x.client) (some_is here d (sym is ∙ ap (slice_get windows) same ∙ there)) ∙ e)
]

pub made_there : (windows more : List Window) (at : ℕ) (new : Window) (client : ℕ) → more ≡ windows ++ new ∷ [] → at ≡ length windows → new.client ≡ client → IsWindowOf more at client
made_there windows more at new client is last whose =
    (new, ap (λ (ds : List Window). slice_get ds at) is ∙ (ap (slice_get (windows ++ new ∷ [])) last ∙ at_end windows new), whose)

-- the client's window, as it is read there
pub read_there : (windows : List Window) (at : ℕ) (x : Window) (client : ℕ) → IsWindowOf windows at client → slice_get windows at ≡ Some x → x.client ≡ client
read_there windows at x client is there = ap (λ (d : Window). d.client) (some_is x is.0 (sym there ∙ is.1)) ∙ is.2

pub read_is : (windows : List Window) (at : ℕ) (x : Window) (client : ℕ) → IsWindowOf windows at client → x ≡ get_or windows at x → slice_get windows at ≡ Some x
read_is windows at x client is e = slice_get_read windows (length windows) at x refl (slice_get_within windows at is.0 is.1) e
