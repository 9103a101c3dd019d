-- Readings are all taken exactly where the server's never fall and their events keep the rule.
use Rattle.std.proofs.Common.{◌≡◌, ℕ, suc, zero, true, false, ◌≤◌, ◌↔◌, List, [], ◌∷◌, ◌++◌, Result, Ok, Err, get_or, refl, sym, subst, arith}
use Rattle.std.specs.Prelude.{AllPairs, IsOk}
use Rattle.std.proofs.lemmas.List.{append-nil, append_assoc, get_or_append_left, length-append}
use Rattle.std.proofs.lemmas.List.Elements.{All-push, All-cons, All-weaker}
use Rattle.std.proofs.lemmas.List.Kept.{AllPairs-cons}
use Rattle.clock_rule.specs.declared.rule.Note.{Note}
use Rattle.clock_rule.specs.declared.rule.ClockFault.{ClockFault}
use Rattle.clock_rule.specs.declared.rule.Reading.{Reading}
use Rattle.clock_rule.specs.declared.rule.Reading.TheVariants as reads
use Rattle.clock_rule.specs.Clocks.{Clocked, event_of, read_at}
use Rattle.clock_rule.specs.Keeping.{KeepRule, KeepsRule, KeptSoFar, at_first, and_reading, all_read, servers, events, NeverFall}
use Rattle.clock_rule.proofs.lemmas.Keeping.{pairs_head, pairs_tail, kept_moved, kept_taken, taken_kept, kept_at_start}

pairs_front : {A : Type 0} (R : A → A → Type 0) (xs ys : List A) → AllPairs R (xs ++ ys) → AllPairs R xs
pairs_front R xs ys h = λ i j d before last.
    subst (λ x. R x (get_or xs j d)) (get_or_append_left xs ys d i (omega arith))
    (subst (λ y. R (get_or (xs ++ ys) i d) y) (get_or_append_left xs ys d j last) (h i j d before (omega (arith, length-append xs ys))))

never_more : (a b : ℕ) (xs : List ℕ) → a ≤ b → NeverFall (b ∷ xs) → NeverFall (a ∷ b ∷ xs)
never_more a b xs up h =
    AllPairs-cons (λ x y. x ≤ y) a (b ∷ xs) (All-cons (λ x. a ≤ x) b xs up (All-weaker (λ x. b ≤ x) (λ x. a ≤ x) (λ x k. omega arith) xs (pairs_head (λ x y. x ≤ y) b xs h))) h

up_first : (a b : ℕ) (xs : List ℕ) → NeverFall (a ∷ b ∷ xs) → a ≤ b
up_first a b xs h = h zero (suc zero) a (omega arith) (omega arith)

-- what was read keeps the rule together with what is still to be read
abbrev KeepOn : Clocked → List Reading → Type 0
KeepOn clocks rs =
    NeverFall (clocks.server ∷ servers rs)
    × KeepsRule clocks.term clocks.drift (clocks.notes ++ events clocks.server rs)

take_in : (clocks : Clocked) (r : Reading) (rs : List Reading) → clocks.server ≤ (and_reading clocks r).server → KeepOn (and_reading clocks r) rs → KeepOn clocks (r ∷ rs)
take_in clocks (reads.Server server) rs up on = (never_more clocks.server server (servers rs) up on.0, on.1)
take_in clocks (reads.Client client at) rs up on =
    (on.0, subst (λ (ns : List Note). KeepsRule clocks.term clocks.drift ns) (append_assoc clocks.notes (event_of clocks client at ∷ []) (events clocks.server rs)) on.1)
take_in clocks (reads.Both server client at) rs up on =
    (never_more clocks.server server (servers rs) up on.0, subst (λ (ns : List Note). KeepsRule clocks.term clocks.drift ns) (append_assoc clocks.notes (record { client = client; reading = at; server = server } ∷ []) (events server rs)) on.1)

take_out : (clocks : Clocked) (r : Reading) (rs : List Reading) → KeepOn clocks (r ∷ rs) → (clocks.server ≤ (and_reading clocks r).server) × KeepOn (and_reading clocks r) rs
take_out clocks (reads.Server server) rs on =
    (up_first clocks.server server (servers rs) on.0, (pairs_tail (λ x y. x ≤ y) clocks.server (server ∷ servers rs) on.0, on.1))
take_out clocks (reads.Client client at) rs on =
    (omega arith, (on.0, subst (λ (ns : List Note). KeepsRule clocks.term clocks.drift ns) (sym (append_assoc clocks.notes (event_of clocks client at ∷ []) (events clocks.server rs))) on.1))
take_out clocks (reads.Both server client at) rs on =
    (up_first clocks.server server (servers rs) on.0, (pairs_tail (λ x y. x ≤ y) clocks.server (server ∷ servers rs) on.0, subst (λ (ns : List Note). KeepsRule clocks.term clocks.drift ns) (sym (append_assoc clocks.notes (record { client = client; reading = at; server = server } ∷ []) (events server rs))) on.1))

kept_with : (clocks : Clocked) (r : Reading) → KeptSoFar clocks → clocks.server ≤ (and_reading clocks r).server → KeepsRule (and_reading clocks r).term (and_reading clocks r).drift (and_reading clocks r).notes → KeptSoFar (and_reading clocks r)
kept_with clocks (reads.Server server) kept up pairs = kept_moved clocks server up kept
kept_with clocks (reads.Client client at) kept up pairs =
    record { pairs = pairs; until = All-push (λ n. n.server ≤ clocks.server) clocks.notes (event_of clocks client at) kept.until (omega arith) }
kept_with clocks (reads.Both server client at) kept up pairs =
    record { pairs = pairs; until = All-push (λ n. n.server ≤ server) clocks.notes (record { client = client; reading = at; server = server }) (kept_moved clocks server up kept).until (omega arith) }

abbrev read_by : Result Clocked ClockFault → List Reading → Result Clocked ClockFault
read_by x rs = elim x [ Err f ↦ Err f | Ok new ↦ all_read new rs ]

is_read : (rs : List Reading) (x : Result Clocked ClockFault) → IsOk (read_by x rs) → (new : Clocked) × (x ≡ Ok new) × IsOk (all_read new rs)
is_read rs (Ok new) h = (new, refl, h)
is_read rs (Err f) h = let e : false ≡ true = h in absurd cc

keep_on : (clocks : Clocked) (rs : List Reading) → KeptSoFar clocks → IsOk (all_read clocks rs) → KeepOn clocks rs
keep_on clocks [] kept h =
    (λ i j d before last. absurd (omega arith), subst (λ (ns : List Note). KeepsRule clocks.term clocks.drift ns) (sym (append-nil clocks.notes)) kept.pairs)
keep_on clocks (r ∷ rs) kept h =
    let next = is_read rs (read_at clocks r) h in
    let k = kept_taken clocks next.0 r kept next.1 in
    take_in clocks r rs (subst (λ (x : Clocked). clocks.server ≤ x.server) k.more k.server)
    (subst (λ (x : Clocked). KeepOn x rs) k.more (keep_on next.0 rs k.kept next.2))

go_on : (clocks : Clocked) (rs : List Reading) → KeptSoFar clocks → KeepOn clocks rs → IsOk (all_read clocks rs)
go_on clocks [] kept on = refl
go_on clocks (r ∷ rs) kept on =
    let new = and_reading clocks r in
    let out = take_out clocks r rs on in
    let still = kept_with clocks r kept out.0 (pairs_front (KeepRule new.term new.drift) new.notes (events new.server rs) out.1.1) in
    subst (λ (x : Result Clocked ClockFault). IsOk (read_by x rs)) (sym (taken_kept clocks r out.0 still)) (go_on new rs still out.1)

pub taken_whole : (term drift : ℕ) (rs : List Reading) → IsOk (all_read (at_first term drift) rs) ↔ (NeverFall (servers rs) × KeepsRule term drift (events 0 rs))
taken_whole term drift rs =
    let first = at_first term drift in (
      λ h. let on = keep_on first rs (kept_at_start term drift) h in (pairs_tail (λ x y. x ≤ y) 0 (servers rs) on.0, on.1),
      λ k. go_on first rs (kept_at_start term drift) (AllPairs-cons (λ x y. x ≤ y) 0 (servers rs) (λ i d within. omega arith) k.0, k.1),
    )
