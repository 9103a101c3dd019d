-- Readings that are taken keep the rule between any two events, and those that would are taken.
use Rattle.std.proofs.Common.{◌≡◌, ℕ, suc, ◌-◌, ◌≤◌, ◌↔◌, List, [], ◌∷◌, ◌++◌, inl, inr, Option, Some, None, Ok, Bool, true, false, length, get_or, refl, sym, ap, subst, ◌∙◌, arith}
use Rattle.std.specs.Prelude.{All, AllPairs, find, fold, cond, ◌==◌, nat_lt, option_map}
use Rattle.std.specs.List.{AllByRecursion}
use Rattle.std.proofs.lemmas.Bool.{cases_lt}
use Rattle.std.proofs.lemmas.Bool.Decides.{nat_tests, eqb_tells}
use Rattle.std.proofs.lemmas.List.{length_push, get_or_append_left}
use Rattle.std.proofs.lemmas.List.Elements.{All-push, All-weaker, All-from_recursion, recursion_from_All}
use Rattle.std.proofs.lemmas.List.Quantifiers.{all_pairs_push}
use Rattle.clock_rule.specs.declared.rule.Note.{Note}
use Rattle.clock_rule.specs.declared.rule.ClockFault.{ClockFault}
use Rattle.clock_rule.specs.declared.rule.ClockFault.TheVariants.{Client}
use Rattle.clock_rule.specs.declared.rule.Reading.{Reading}
use Rattle.clock_rule.specs.declared.rule.Reading.TheVariants as reads
use Rattle.clock_rule.specs.Clocks.{Clocked, breaks, notes_of, last_reading, first_broken, drift_fault, fault_of, fault_at, event_of, server_read_if, noted, client_read, then_client, read_at}
use Rattle.clock_rule.specs.Keeping.{KeepRule, KeepsRule, KeptSoFar, at_first, and_reading, StillKept}
use Rattle.clock_rule.proofs.Least.{too_old, near, is_near}

-- ---- a client's last reading

abbrev last_from : ℕ → List Note → ℕ
last_from first notes = fold (λ (_ : ℕ) (n : Note). n.reading) first notes

own_from : (c first : ℕ) (x : Note) (xs : List Note) → (x.client == c) ≡ true → last_from first (notes_of c (x ∷ xs)) ≡ last_from x.reading (notes_of c xs)
own_from c first x xs e = ap (λ (b : Bool). last_from first (cond b (x ∷ notes_of c xs) (notes_of c xs))) e

other_from : (c first : ℕ) (x : Note) (xs : List Note) → (x.client == c) ≡ false → last_from first (notes_of c (x ∷ xs)) ≡ last_from first (notes_of c xs)
other_from c first x xs e = ap (λ (b : Bool). last_from first (cond b (x ∷ notes_of c xs) (notes_of c xs))) e

pub pairs_head : {A : Type 0} (R : A → A → Type 0) (x : A) (xs : List A) → AllPairs R (x ∷ xs) → All (R x) xs
pairs_head R x xs h = λ k d within. h 0 (suc k) d (omega arith) (omega arith)

pub pairs_tail : {A : Type 0} (R : A → A → Type 0) (x : A) (xs : List A) → AllPairs R (x ∷ xs) → AllPairs R xs
pairs_tail R x xs h = λ i j d before last. h (suc i) (suc j) d (omega arith) (omega arith)

-- where a client's readings don't fall, none is past its last
up_to_last : (term drift c first : ℕ) (notes : List Note) → KeepsRule term drift notes → All (λ n. n.client ≡ c → first ≤ n.reading) notes
    → (first ≤ last_from first (notes_of c notes)) × AllByRecursion (λ n. n.client ≡ c → n.reading ≤ last_from first (notes_of c notes)) notes
up_to_last term drift c first [] pairs from = (omega arith, tt)
up_to_last term drift c first (x ∷ xs) pairs from = elim (eqb_tells x.client c) [
  | inl own ↦
      let later : All (λ n. n.client ≡ c → x.reading ≤ n.reading) xs =
      All-weaker (KeepRule term drift x) (λ n. n.client ≡ c → x.reading ≤ n.reading) (λ n k same. k.client (own.1 ∙ sym same)) xs (pairs_head (KeepRule term drift) x xs pairs) in
      let rest = up_to_last term drift c x.reading xs (pairs_tail (KeepRule term drift) x xs pairs) later in
      let here : first ≤ x.reading = from 0 x (omega arith) own.1 in
      subst (λ (l : ℕ). (first ≤ l) × AllByRecursion (λ n. n.client ≡ c → n.reading ≤ l) (x ∷ xs)) (sym (own_from c first x xs own.0)) (omega (arith, rest.0), ((λ same. rest.0), rest.1))
  | inr else ↦
      let rest = up_to_last term drift c first xs (pairs_tail (KeepRule term drift) x xs pairs) (λ k d within. from (suc k) d (omega arith)) in
      subst (λ (l : ℕ). (first ≤ l) × AllByRecursion (λ n. n.client ≡ c → n.reading ≤ l) (x ∷ xs)) (sym (other_from c first x xs else.0)) (rest.0, ((λ same. absurd (else.1 same)), rest.1))
]

-- where none of a client's readings is past this one, its last isn't
last_until : (c first r : ℕ) (notes : List Note) → first ≤ r → AllByRecursion (λ n. n.client ≡ c → n.reading ≤ r) notes → last_from first (notes_of c notes) ≤ r
last_until c first r [] h all = h
last_until c first r (x ∷ xs) h all = elim (eqb_tells x.client c) [
  | inl own ↦ subst (λ (l : ℕ). l ≤ r) (sym (own_from c first x xs own.0)) (last_until c x.reading r xs (all.0 own.1) all.1)
  | inr else ↦ subst (λ (l : ℕ). l ≤ r) (sym (other_from c first x xs else.0)) (last_until c first r xs h all.1)
]

-- ---- what is found among a client's events

found_if : {A : Type 0} (b : Bool) (x : A) (rest : Option A) → cond b (Some x) rest ≡ None → (b ≡ false) × (rest ≡ None)
found_if true x rest e = absurd cc
found_if false x rest e = (refl, e)

not_mapped : {A B : Type 0} (f : A → B) (o : Option A) → option_map f o ≡ None → o ≡ None
not_mapped f None e = refl
not_mapped f (Some x) e = absurd cc

own_found : (c : ℕ) (test : Note → Bool) (x : Note) (xs : List Note) → (x.client == c) ≡ true → find test (notes_of c (x ∷ xs)) ≡ cond (test x) (Some x) (find test (notes_of c xs))
own_found c test x xs e = ap (λ (b : Bool). find test (cond b (x ∷ notes_of c xs) (notes_of c xs))) e

other_found : (c : ℕ) (test : Note → Bool) (x : Note) (xs : List Note) → (x.client == c) ≡ false → find test (notes_of c (x ∷ xs)) ≡ find test (notes_of c xs)
other_found c test x xs e = ap (λ (b : Bool). find test (cond b (x ∷ notes_of c xs) (notes_of c xs))) e

none_passes : (c : ℕ) (test : Note → Bool) (notes : List Note) → find test (notes_of c notes) ≡ None → AllByRecursion (λ n. n.client ≡ c → test n ≡ false) notes
none_passes c test [] e = tt
none_passes c test (x ∷ xs) e = elim (eqb_tells x.client c) [
  | inl own ↦
      let k = found_if (test x) x (find test (notes_of c xs)) (sym (own_found c test x xs own.0) ∙ e) in
      ((λ same. k.0), none_passes c test xs k.1)
  | inr else ↦ ((λ same. absurd (else.1 same)), none_passes c test xs (sym (other_found c test x xs else.0) ∙ e))
]

passes_none : (c : ℕ) (test : Note → Bool) (notes : List Note) → AllByRecursion (λ n. n.client ≡ c → test n ≡ false) notes → find test (notes_of c notes) ≡ None
passes_none c test [] all = refl
passes_none c test (x ∷ xs) all = elim (eqb_tells x.client c) [
  | inl own ↦ own_found c test x xs own.0 ∙ ap (λ (b : Bool). cond b (Some x) (find test (notes_of c xs))) (all.0 own.1) ∙ passes_none c test xs all.1
  | inr else ↦ other_found c test x xs else.0 ∙ passes_none c test xs all.1
]

-- ---- one more event

not_below : (a b : ℕ) → b ≤ a → nat_lt a b ≡ false
not_below a b h = grind (arith, nat_tests)

is_not_below : (a b : ℕ) → nat_lt a b ≡ false → b ≤ a
is_not_below a b h = grind (arith, nat_tests)

-- an event that has no fault keeps the rule with each earlier one
keeps_with_all : (term drift : ℕ) (notes : List Note) (later : Note) → KeepsRule term drift notes → All (λ n. n.server ≤ later.server) notes → fault_of term drift notes later ≡ None → All (λ n. KeepRule term drift n later) notes
keeps_with_all term drift notes later pairs until none =
    let c = later.client in
    let last = last_reading c notes in
    let why = found_if (nat_lt later.reading last) (Client c last later.reading) (option_map (drift_fault later) (first_broken term drift notes later)) none in
    let rises : last ≤ later.reading = is_not_below later.reading last why.0 in
    let own = All-from_recursion (λ n. n.client ≡ c → n.reading ≤ last) notes (up_to_last term drift c 0 notes pairs (λ k d within same. omega arith)).1 in
    let quiet = All-from_recursion (λ n. n.client ≡ c → breaks term drift n later ≡ false) notes (none_passes c (λ n. breaks term drift n later) notes (not_mapped (drift_fault later) (first_broken term drift notes later) why.1)) in
    λ k d within. record {
      server = until k d within;
      client = λ same. omega (arith, own k d within same, rises);
      apart = λ same near_enough. is_near term drift (get_or notes k d) later (quiet k d within same) near_enough;
    }

keeps : (term drift : ℕ) (n later : Note) → KeepRule term drift n later → n.client ≡ later.client → breaks term drift n later ≡ false
keeps term drift n later h same = elim (cases_lt term (later.reading - n.reading)) [
  | inl old ↦ too_old term drift n later old
  | inr new ↦ near term drift n later (h.apart same (omega arith))
]

-- an event that keeps the rule with each earlier one has no fault
no_fault : (term drift : ℕ) (notes : List Note) (later : Note) → All (λ n. KeepRule term drift n later) notes → fault_of term drift notes later ≡ None
no_fault term drift notes later all =
    let c = later.client in
    let until : last_reading c notes ≤ later.reading = last_until c 0 later.reading notes (omega arith)
    (recursion_from_All (λ n. n.client ≡ c → n.reading ≤ later.reading) notes (All-weaker (λ n. KeepRule term drift n later) (λ n. n.client ≡ c → n.reading ≤ later.reading) (λ n h same. h.client same) notes all)) in
    let none : first_broken term drift notes later ≡ None = passes_none c (λ n. breaks term drift n later) notes
    (recursion_from_All (λ n. n.client ≡ c → breaks term drift n later ≡ false) notes (All-weaker (λ n. KeepRule term drift n later) (λ n. n.client ≡ c → breaks term drift n later ≡ false) (λ n h same. keeps term drift n later h same) notes all)) in
    ap (λ (b : Bool). cond b (Some (Client c (last_reading c notes) later.reading)) (option_map (drift_fault later) (first_broken term drift notes later))) (not_below later.reading (last_reading c notes) until)
    ∙ ap (option_map (drift_fault later)) none

at_last : {A : Type 0} (xs : List A) (x d : A) → get_or (xs ++ x ∷ []) (length xs) d ≡ x
at_last [] x d = refl
at_last (z ∷ xs) x d = at_last xs x d

pairs_with_last : {A : Type 0} (R : A → A → Type 0) (xs : List A) (x : A) → AllPairs R (xs ++ x ∷ []) → All (λ y. R y x) xs
pairs_with_last R xs x h = λ k d within.
    subst (λ y. R y x) (get_or_append_left xs (x ∷ []) d k within)
    (subst (λ y. R (get_or (xs ++ x ∷ []) k d) y) (at_last xs x d) (h k (length xs) d within (omega (arith, length_push xs x))))

-- ---- one more reading

abbrev moved : Clocked → ℕ → Clocked
moved clocks server = record clocks { server = server }

abbrev with_event : Clocked → ℕ → ℕ → Clocked
with_event clocks client at = record clocks { notes = clocks.notes ++ event_of clocks client at ∷ [] }

pub kept_moved : (clocks : Clocked) (server : ℕ) → clocks.server ≤ server → KeptSoFar clocks → KeptSoFar (moved clocks server)
kept_moved clocks server up kept = record {
  pairs = kept.pairs;
  until = All-weaker (λ n. n.server ≤ clocks.server) (λ n. n.server ≤ server) (λ n h. omega arith) clocks.notes kept.until;
}

kept_with_event : (clocks : Clocked) (client at : ℕ) → KeptSoFar clocks → fault_at clocks client at ≡ None → KeptSoFar (with_event clocks client at)
kept_with_event clocks client at kept none =
    let later = event_of clocks client at in
    record {
      pairs = all_pairs_push (KeepRule clocks.term clocks.drift) clocks.notes later kept.pairs (keeps_with_all clocks.term clocks.drift clocks.notes later kept.pairs kept.until none);
      until = All-push (λ n. n.server ≤ clocks.server) clocks.notes later kept.until (omega arith);
    }

is_moved : (clocks new : Clocked) (server : ℕ) (fell : Bool) → server_read_if clocks server fell ≡ Ok new → (fell ≡ false) × (new ≡ moved clocks server)
is_moved clocks new server true e = absurd cc
is_moved clocks new server false e = (refl, cc)

is_with_event : (clocks new : Clocked) (client at : ℕ) (fault : Option ClockFault) → noted clocks client at fault ≡ Ok new → (fault ≡ None) × (new ≡ with_event clocks client at)
is_with_event clocks new client at None e = (refl, cc)
is_with_event clocks new client at (Some f) e = absurd cc

is_both : (clocks new : Clocked) (server client at : ℕ) (fell : Bool) → then_client (server_read_if clocks server fell) client at ≡ Ok new → (fell ≡ false) × (client_read (moved clocks server) client at ≡ Ok new)
is_both clocks new server client at true e = absurd cc
is_both clocks new server client at false e = (refl, e)

still : (clocks new : Clocked) (reading : Reading) → new ≡ and_reading clocks reading → clocks.server ≤ (and_reading clocks reading).server → KeptSoFar (and_reading clocks reading) → StillKept clocks new reading
still clocks new reading e up kept = record {
  more = e;
  server = subst (λ (x : Clocked). clocks.server ≤ x.server) (sym e) up;
  kept = subst (λ (x : Clocked). KeptSoFar x) (sym e) kept;
}

pub kept_taken : (clocks new : Clocked) (reading : Reading) → KeptSoFar clocks → read_at clocks reading ≡ Ok new → StillKept clocks new reading
kept_taken clocks new (reads.Server server) kept e =
    let k = is_moved clocks new server (nat_lt server clocks.server) e in
    let up = is_not_below server clocks.server k.0 in
    still clocks new (reads.Server server) k.1 up (kept_moved clocks server up kept)
kept_taken clocks new (reads.Client client at) kept e =
    let k = is_with_event clocks new client at (fault_at clocks client at) e in
    still clocks new (reads.Client client at) k.1 (omega arith) (kept_with_event clocks client at kept k.0)
kept_taken clocks new (reads.Both server client at) kept e =
    let both = is_both clocks new server client at (nat_lt server clocks.server) e in
    let up = is_not_below server clocks.server both.0 in
    let k = is_with_event (moved clocks server) new client at (fault_at (moved clocks server) client at) both.1 in
    still clocks new (reads.Both server client at) k.1 up (kept_with_event (moved clocks server) client at (kept_moved clocks server up kept) k.0)

no_fault_at : (clocks : Clocked) (client at : ℕ) → KeptSoFar (with_event clocks client at) → fault_at clocks client at ≡ None
no_fault_at clocks client at kept =
    no_fault clocks.term clocks.drift clocks.notes (event_of clocks client at) (pairs_with_last (KeepRule clocks.term clocks.drift) clocks.notes (event_of clocks client at) kept.pairs)

pub taken_kept : (clocks : Clocked) (reading : Reading) → clocks.server ≤ (and_reading clocks reading).server → KeptSoFar (and_reading clocks reading) → read_at clocks reading ≡ Ok (and_reading clocks reading)
taken_kept clocks (reads.Server server) up kept = ap (server_read_if clocks server) (not_below server clocks.server up)
taken_kept clocks (reads.Client client at) up kept = ap (noted clocks client at) (no_fault_at clocks client at kept)
taken_kept clocks (reads.Both server client at) up kept =
    ap (λ (b : Bool). then_client (server_read_if clocks server b) client at) (not_below server clocks.server up)
    ∙ ap (noted (moved clocks server) client at) (no_fault_at (moved clocks server) client at kept)

-- ---- the law

pub kept_at_start : (term drift : ℕ) → KeptSoFar (at_first term drift)
kept_at_start term drift = record {
  pairs = λ i j d before last. absurd (omega arith);
  until = λ k d within. absurd (omega arith);
}

pub kept_exactly : (clocks new : Clocked) (reading : Reading) → KeptSoFar clocks → (read_at clocks reading ≡ Ok new) ↔ StillKept clocks new reading
kept_exactly clocks new reading kept = (
  kept_taken clocks new reading kept,
  λ h. taken_kept clocks reading (subst (λ (x : Clocked). clocks.server ≤ x.server) h.more h.server) (subst (λ (x : Clocked). KeptSoFar x) h.more h.kept) ∙ ap Ok (sym h.more),
)
