-- The search for the next end finds the least.
use Rattle.std.proofs.Common.{◌≡◌, ℕ, zero, suc, ◌+◌, ◌-◌, ◌%◌, ◌^◌, ◌<◌, ◌≤◌, inl, inr, List, length, Option, Some, None, Bool, true, false, refl, ap, ◌∙◌, arith}
use Rattle.std.specs.Prelude.{nat_le}
use Rattle.std.specs.Bool.{Decides}
use Rattle.std.proofs.lemmas.Bool.{leb-true, le-leb, cases_eq, cases_lt}
use Rattle.std.proofs.lemmas.Bool.Decides.{Decides-and, Decides-or, Decides-eqb, Decides-like}
use Rattle.rabin_window.specs.Fingerprint.{fp}
use Rattle.chunk_cut.specs.Ends.{window_before, MayEnd, IsOpen, IsLeastEnd}
use Rattle.chunk_cut.specs.Search.{least, may_end, next_end}

-- what a search among n numbers from e on found
abbrev IsLeastFrom : (ℕ → Bool) → ℕ → ℕ → Option ℕ → Type 0
IsLeastFrom test n e None = (k : ℕ) → e ≤ k → k < e + n → test k ≡ false
IsLeastFrom test n e (Some d) = (e ≤ d) × (d < e + n) × (test d ≡ true) × ((k : ℕ) → e ≤ k → k < d → test k ≡ false)

not_here : (test : ℕ → Bool) (e k : ℕ) → test e ≡ false → (e + 1 ≤ k → test k ≡ false) → e ≤ k → test k ≡ false
not_here test e k h later le =
    elim (cases_eq k e) [ inl same ↦ ap test same ∙ h | inr other ↦ later (omega arith) ]

least_found : (test : ℕ → Bool) (n e : ℕ) → IsLeastFrom test n e (least test n e)
least_found test zero e = λ k p q. absurd (omega arith)
least_found test (suc n) e = here (least_found test n (e + 1)) (test e) refl
  where
    later : (o : Option ℕ) → test e ≡ false → IsLeastFrom test n (e + 1) o → IsLeastFrom test (suc n) e o
    later None h f = λ k p q. not_here test e k h (λ r. f k r (omega arith)) p
    later (Some d) h f = (omega arith, omega arith, f.2, λ k p q. not_here test e k h (λ r. f.3 k r q) p)

    here : IsLeastFrom test n (e + 1) (least test n (e + 1)) → (b : Bool) → test e ≡ b → IsLeastFrom test (suc n) e (elim b [ true ↦ Some e | false ↦ least test n (e + 1) ])
    here found true h = (omega arith, omega arith, h, λ k p q. absurd (omega arith))
    here found false h = later (least test n (e + 1)) h found

may_decides : (content : List ℕ) (s e : ℕ) → s + 2048 ≤ e → e ≤ length content → Decides (may_end content s e) (MayEnd content s e)
may_decides content s e least within =
    Decides-like (may_end content s e)
    (λ p. record { least = least; most = p.0; within = within; mark = p.1 })
    (λ m. (m.most, m.mark))
    (Decides-and (nat_le e (s + 65536)) _ (leb-true e (s + 65536), le-leb e (s + 65536))
    (Decides-or _ _ (Decides-eqb (fp (window_before content e) % 2 ^ 13) 0x78) (Decides-eqb e (s + 65536))))

-- what `next_end` may answer
abbrev pub IsNext : List ℕ → ℕ → Option ℕ → Type 0
IsNext content s None = IsOpen content s
IsNext content s (Some e) = IsLeastEnd content s e

pub next_found : (content : List ℕ) (s : ℕ) → IsNext content s (next_end content s)
unfolding next_end
next_found content s =
    turned (least (may_end content s) n (s + 2048)) (least_found (may_end content s) n (s + 2048))
  where
    n : ℕ
    n = length content + 1 - (s + 2048)

    turned : (o : Option ℕ) → IsLeastFrom (may_end content s) (length content + 1 - (s + 2048)) (s + 2048) o → IsNext content s o
    turned None f = λ e m.
        let fails : may_end content s e ≡ false = f e m.least (let w : e ≤ length content = m.within in let l : s + 2048 ≤ e = m.least in omega arith) in
        let holds : may_end content s e ≡ true = (may_decides content s e m.least m.within).1 m in
        cc
    turned (Some e) f = record {
      may = (may_decides content s e f.0 (omega arith)).0 f.2;
      first = λ d m. not_before e d f.0 f.1 f.3 m;
    }
      where
        not_before : (e d : ℕ) → s + 2048 ≤ e → e < s + 2048 + (length content + 1 - (s + 2048)) → ((k : ℕ) → s + 2048 ≤ k → k < e → may_end content s k ≡ false) → MayEnd content s d → e ≤ d
        not_before e d l w none m = elim (cases_lt d e) [ inl before ↦ clash (none d m.least before) ((may_decides content s d m.least m.within).1 m) | inr after ↦ after ]
          where
            clash : may_end content s d ≡ false → may_end content s d ≡ true → e ≤ d
            clash p q = cc

same_least : (content : List ℕ) (s d e : ℕ) → IsLeastEnd content s d → IsLeastEnd content s e → d ≡ e
same_least content s d e p q =
    let a : d ≤ e = p.first e q.may in
    let b : e ≤ d = q.first d p.may in
    omega arith

pub next_is_some : (content : List ℕ) (s e : ℕ) → IsLeastEnd content s e → next_end content s ≡ Some e
next_is_some content s e p = at (next_end content s) (next_found content s)
  where
    at : (o : Option ℕ) → IsNext content s o → o ≡ Some e
    at None f = absurd (f e p.may)
    at (Some d) f = ap Some (same_least content s d e f p)

pub next_is_none : (content : List ℕ) (s : ℕ) → IsOpen content s → next_end content s ≡ None
next_is_none content s p = at (next_end content s) (next_found content s)
  where
    at : (o : Option ℕ) → IsNext content s o → o ≡ None
    at None f = refl
    at (Some d) f = absurd (p d f.may)
