-- Temporary files by place: what is put among them, and what is taken out; and their pieces, which are parts of a content.
use Rattle.std.proofs.Common.{◌⊎◌, inl, inr, ◌≡◌, ℕ, zero, suc, ◌+◌, ◌<◌, List, [], ◌∷◌, ◌++◌, length, take, drop, Option, Some, None, Bool, true, false, refl, sym, ap, ◌∙◌, subst, arith, eqb-true}
use Rattle.std.proofs.lemmas.List.{length-append}
use Rattle.temp_files.specs.Pieces.{joined, overlaps}
use Rattle.xdr_codec.specs.declared.status.Status.TheVariants as status
use Rattle.kept_promise.proofs.Common.{slice_get, cond, ◌==◌, ◌&&◌, ◌||◌, nat_lt, if◌then◌else◌, list_any, size_most, range_fault, Collides, option_map, insert_entry, is_at, lookup, remove_entry, nat_cmp, match_ordering, is_eq, Ordering, Less, Equal, Greater, take-append-drop, exact_unsigned, key_of}
use Rattle.kept_promise.proofs.Lists.{some_is, nothing_there}
use Rattle.kept_promise.proofs.Messages.{AreParts, IsPartOf}
use Rattle.kept_promise.proofs.Statements.{SameShape}

-- ---- entries

-- an entry of a list with one put in is that one, or was there
pub of_inserted : {X : Type 0} (es : List (ℕ × X)) (k : ℕ) (v : X) (i : ℕ) (e : ℕ × X) → slice_get (insert_entry nat_cmp es k v) i ≡ Some e → ((e.0 ≡ k) × (e.1 ≡ v)) ⊎ ((j : ℕ) × (slice_get es j ≡ Some e))
of_inserted [] k v zero e at = let is = some_is (k, v) e at in inl (ap (λ p. p.0) (sym is), ap (λ p. p.1) (sym is))
of_inserted [] k v (suc i) e at = nothing_there e at
of_inserted (d ∷ es) k v i e at = by (nat_cmp k d.0) refl i at (of_inserted es k v)
  where
    by : (r : Ordering) → nat_cmp k d.0 ≡ r → (i : ℕ) → slice_get (match_ordering r ((k, v) ∷ d ∷ es) ((d.0, v) ∷ es) (d ∷ insert_entry nat_cmp es k v)) i ≡ Some e → ((i : ℕ) (e : _) → slice_get (insert_entry nat_cmp es k v) i ≡ Some e → ((e.0 ≡ k) × (e.1 ≡ v)) ⊎ ((j : ℕ) × (slice_get es j ≡ Some e))) → ((e.0 ≡ k) × (e.1 ≡ v)) ⊎ ((j : ℕ) × (slice_get (d ∷ es) j ≡ Some e))
    by Less p zero at later = let is = some_is (k, v) e at in inl (ap (λ p. p.0) (sym is), ap (λ p. p.1) (sym is))
    by Less p (suc i) at later = inr (i, at)
    by Equal p zero at later = let is = some_is (d.0, v) e at in inl (ap (λ p. p.0) (sym is) ∙ sym (exact_unsigned k d.0 p), ap (λ p. p.1) (sym is))
    by Equal p (suc i) at later = inr (suc i, at)
    by Greater p zero at later = inr (zero, at)
    by Greater p (suc i) at later = elim (later i e at) [ inl h ↦ inl h | inr h ↦ inr (suc h.0, h.1) ]

pub of_removed : {X : Type 0} (test : ℕ → Bool) (es : List (ℕ × X)) (i : ℕ) (e : ℕ × X) → slice_get (remove_entry test es) i ≡ Some e → (j : ℕ) × (slice_get es j ≡ Some e)
of_removed test [] i e at = nothing_there e at
of_removed test (d ∷ es) i e at = by (test d.0) i at (of_removed test es)
  where
    by : (b : Bool) → (i : ℕ) → slice_get (cond b es (d ∷ remove_entry test es)) i ≡ Some e → ((i : ℕ) (e : _) → slice_get (remove_entry test es) i ≡ Some e → (j : ℕ) × (slice_get es j ≡ Some e)) → (j : ℕ) × (slice_get (d ∷ es) j ≡ Some e)
    by true i at later = (suc i, at)
    by false zero at later = (zero, at)
    by false (suc i) at later = let h = later i e at in (suc h.0, h.1)

-- what is looked up is there, under its key
pub of_lookup : {X : Type 0} (es : List (ℕ × X)) (k : ℕ) (v : X) → lookup (is_at (nat_cmp k)) es ≡ Some v → (i : ℕ) × (e : ℕ × X) × (slice_get es i ≡ Some e) × (e.0 ≡ k) × (e.1 ≡ v)
of_lookup [] k v at = nothing_there v at
of_lookup (d ∷ es) k v at = by (nat_cmp k d.0) refl at (of_lookup es k v)
  where
    by : (r : Ordering) → nat_cmp k d.0 ≡ r → cond (is_eq r) (Some d.1) (lookup (is_at (nat_cmp k)) es) ≡ Some v → (lookup (is_at (nat_cmp k)) es ≡ Some v → (i : ℕ) × (e : _) × (slice_get es i ≡ Some e) × (e.0 ≡ k) × (e.1 ≡ v)) → (i : ℕ) × (e : _) × (slice_get (d ∷ es) i ≡ Some e) × (e.0 ≡ k) × (e.1 ≡ v)
    by Equal p at later = (zero, d, refl, sym (exact_unsigned k d.0 p), some_is d.1 v at)
    by _ p at later = let h = later at in (suc h.0, h.1, h.2, h.3, h.4)

-- a key tells the session, where numbers have 32 bits
pub keys_tell : (n m o p : ℕ) → m < 4294967296 → p < 4294967296 → key_of n m ≡ key_of o p → n ≡ o
keys_tell n m o p lt le e = omega (arith, lt, le, e)

pub keys_number : (n m p : ℕ) → key_of n m ≡ key_of n p → m ≡ p
keys_number n m p e = omega (arith, e)

-- ---- pieces

pub parts_put : (hashed : List (List ℕ)) (v : List ℕ) (ps : List (ℕ × List ℕ)) (o : ℕ) (b : List ℕ) → AreParts hashed v ps → (IsPartOf v o b ⊎ Collides hashed) → AreParts hashed v (insert_entry nat_cmp ps o b)
parts_put hashed v [] o b h p = (p, tt)
parts_put hashed v (d ∷ ps) o b h p = by (nat_cmp o d.0) refl (parts_put hashed v ps o b h.1 p)
  where
    by : (r : Ordering) → nat_cmp o d.0 ≡ r → AreParts hashed v (insert_entry nat_cmp ps o b) → AreParts hashed v (match_ordering r ((o, b) ∷ d ∷ ps) ((d.0, b) ∷ ps) (d ∷ insert_entry nat_cmp ps o b))
    by Less q later = (p, h)
    by Equal q later = (subst (λ (z : ℕ). IsPartOf v z b ⊎ Collides hashed) (exact_unsigned o d.0 q) p, h.1)
    by Greater q later = (h.0, later)

-- pieces that are a content's, each
abbrev AreExact : List ℕ → List (ℕ × List ℕ) → Type 0
AreExact v [] = Unit {0}
AreExact v (p ∷ ps) = IsPartOf v p.0 p.1 × AreExact v ps

parts_exact : (hashed : List (List ℕ)) (v : List ℕ) (ps : List (ℕ × List ℕ)) → AreParts hashed v ps → AreExact v ps ⊎ Collides hashed
parts_exact hashed v [] h = inl tt
parts_exact hashed v (p ∷ ps) h = by h.0 (parts_exact hashed v ps h.1)
  where
    by : (IsPartOf v p.0 p.1 ⊎ Collides hashed) → (AreExact v ps ⊎ Collides hashed) → AreExact v (p ∷ ps) ⊎ Collides hashed
    by (inl a) (inl b) = inl (a, b)
    by (inl a) (inr c) = inr c
    by (inr c) later = inr c

-- ---- pieces at the same places, of the same lengths

any_alike : (s e : ℕ) (ps qs : List (ℕ × List ℕ)) → SameShape ps qs → list_any (overlaps s e) ps ≡ list_any (overlaps s e) qs
any_alike s e [] [] h = refl
any_alike s e (p ∷ ps) (q ∷ qs) h =
    ap (λ (z : ℕ). (nat_lt z e && nat_lt s (z + length p.1)) || list_any (overlaps s e) ps) h.0
    ∙ ap (λ (z : ℕ). (nat_lt q.0 e && nat_lt s (q.0 + z)) || list_any (overlaps s e) ps) h.1
    ∙ ap (λ (b : Bool). overlaps s e q || b) (any_alike s e ps qs h.2)
any_alike s e [] (q ∷ qs) h = absurd h
any_alike s e (p ∷ ps) [] h = absurd h

-- the same can be put among them
pub fault_alike : (ps qs : List (ℕ × List ℕ)) (o n : ℕ) → SameShape ps qs → range_fault ps o n ≡ range_fault qs o n
fault_alike ps qs o n h = ap (λ (b : Bool). if n == 0 then Some status.Inval else if nat_lt 18446744073709551615 (o + n) then Some status.Inval else if nat_lt size_most (o + n) then Some status.FBig else if b then Some status.Inval else None) (any_alike o (o + n) ps qs h)

pub put_alike : (ps qs : List (ℕ × List ℕ)) (o : ℕ) (b c : List ℕ) → length b ≡ length c → SameShape ps qs → SameShape (insert_entry nat_cmp ps o b) (insert_entry nat_cmp qs o c)
put_alike [] [] o b c e h = (refl, e, tt)
put_alike (p ∷ ps) (q ∷ qs) o b c e h = subst (λ (z : ℕ). SameShape (insert_entry nat_cmp (p ∷ ps) o b) (match_ordering (nat_cmp o z) ((o, c) ∷ q ∷ qs) ((q.0, c) ∷ qs) (q ∷ insert_entry nat_cmp qs o c))) h.0 (by (nat_cmp o p.0) (put_alike ps qs o b c e h.2))
  where
    by : (r : Ordering) → SameShape (insert_entry nat_cmp ps o b) (insert_entry nat_cmp qs o c)
        → SameShape (match_ordering r ((o, b) ∷ p ∷ ps) ((p.0, b) ∷ ps) (p ∷ insert_entry nat_cmp ps o b)) (match_ordering r ((o, c) ∷ q ∷ qs) ((q.0, c) ∷ qs) (q ∷ insert_entry nat_cmp qs o c))
    by Less later = (refl, e, h)
    by Equal later = (h.0, e, h.2)
    by Greater later = (h.0, h.1, later)
put_alike [] (q ∷ qs) o b c e h = absurd h
put_alike (p ∷ ps) [] o b c e h = absurd h

-- they can be joined where the others can
pub joined_alike : (ps qs : List (ℕ × List ℕ)) (at size : ℕ) (y : List ℕ) → SameShape ps qs → joined at size qs ≡ Some y → (x : List ℕ) × (joined at size ps ≡ Some x)
joined_alike [] [] at size y h e = (y, e)
joined_alike (p ∷ ps) (q ∷ qs) at size y h e = by (q.0 == at) refl (joined (at + length q.1) size qs) refl e (joined_alike ps qs (at + length q.1) size)
  where
    by : (b : Bool) → (q.0 == at) ≡ b → (o : Option (List ℕ)) → joined (at + length q.1) size qs ≡ o → cond b (option_map (λ bytes. q.1 ++ bytes) o) None ≡ Some y → ((z : List ℕ) → SameShape ps qs → joined (at + length q.1) size qs ≡ Some z → (x : List ℕ) × (joined (at + length q.1) size ps ≡ Some x))
        → (x : List ℕ) × (joined at size (p ∷ ps) ≡ Some x)
    by true same (Some z) is e later =
        let r = later z h.2 is in (
          p.1 ++ r.0,
          ap (λ (b : Bool). cond b (option_map (λ bytes. p.1 ++ bytes) (joined (at + length p.1) size ps)) None) (ap (λ (z : ℕ). z == at) h.0 ∙ same) ∙ ap (λ (n : ℕ). option_map (λ bytes. p.1 ++ bytes) (joined (at + n) size ps)) h.1 ∙ ap (λ (o : Option (List ℕ)). option_map (λ bytes. p.1 ++ bytes) o) r.1,
        )
    by true same None is e later = nothing_there y e
    by false same o is e later = nothing_there y e
joined_alike [] (q ∷ qs) at size y h e = absurd h
joined_alike (p ∷ ps) [] at size y h e = absurd h

-- ---- what they come to

pub drop_next : (m n : ℕ) (v : List ℕ) → drop n (drop m v) ≡ drop (m + n) v
drop_next zero n v = let on : n ≡ zero + n = omega arith in ap (λ (k : ℕ). drop k v) on
drop_next (suc m) zero [] = let on : suc m ≡ suc m + zero = omega arith in ap (λ (k : ℕ). drop k []) on
drop_next (suc m) (suc n) [] = let on : suc (m + suc n) ≡ suc m + suc n = omega arith in ap (λ (k : ℕ). drop k []) on
drop_next (suc m) n (b ∷ v) = let on : suc (m + n) ≡ suc m + n = omega arith in drop_next m n v ∙ ap (λ (k : ℕ). drop k (b ∷ v)) on

drop_end : (v : List ℕ) → drop (length v) v ≡ []
drop_end [] = refl
drop_end (b ∷ v) = drop_end v

-- pieces that are joined to a whole of a content's length are that content
joined_from : (v : List ℕ) (at : ℕ) (ps : List (ℕ × List ℕ)) (x : List ℕ) → AreExact v ps → joined at (length v) ps ≡ Some x → x ≡ drop at v
joined_from v at [] x h e = by (at == length v) refl e
  where
    by : (b : Bool) → (at == length v) ≡ b → cond b (Some []) None ≡ Some x → x ≡ drop at v
    by true same e = sym (some_is [] x e) ∙ sym (ap (λ (k : ℕ). drop k v) (eqb-true at (length v) same) ∙ drop_end v)
    by false same e = nothing_there x e
joined_from v at (p ∷ ps) x h e = by (p.0 == at) refl (joined (at + length p.1) (length v) ps) refl e (joined_from v (at + length p.1) ps)
  where
    by : (b : Bool) → (p.0 == at) ≡ b → (o : Option (List ℕ)) → joined (at + length p.1) (length v) ps ≡ o → cond b (option_map (λ bytes. p.1 ++ bytes) o) None ≡ Some x → ((x : List ℕ) → AreExact v ps → joined (at + length p.1) (length v) ps ≡ Some x → x ≡ drop (at + length p.1) v) → x ≡ drop at v
    by true same (Some rest) q e later =
        let tail : rest ≡ drop (at + length p.1) v = later rest h.1 q in
        let front : p.1 ≡ take (length p.1) (drop at v) = h.0 ∙ ap (λ (k : ℕ). take (length p.1) (drop k v)) (eqb-true p.0 at same) in
        sym (some_is (p.1 ++ rest) x e) ∙ ap (λ l. p.1 ++ l) (tail ∙ sym (drop_next at (length p.1) v)) ∙ ap (λ l. l ++ drop (length p.1) (drop at v)) front ∙ take-append-drop (length p.1) (drop at v)
    by true same None q e later = nothing_there x e
    by false same o q e later = nothing_there x e

-- they come to as many bytes as they are to
joined_count : (at size : ℕ) (ps : List (ℕ × List ℕ)) (x : List ℕ) → joined at size ps ≡ Some x → at + length x ≡ size
joined_count at size [] x e = by (at == size) refl e
  where
    by : (b : Bool) → (at == size) ≡ b → cond b (Some []) None ≡ Some x → at + length x ≡ size
    by true same e = let n = ap (λ (l : List ℕ). length l) (some_is [] x e) in let s = eqb-true at size same in omega (arith, n, s)
    by false same e = nothing_there x e
joined_count at size (p ∷ ps) x e = by (p.0 == at) (joined (at + length p.1) size ps) refl e (joined_count (at + length p.1) size ps)
  where
    by : (b : Bool) (o : Option (List ℕ)) → joined (at + length p.1) size ps ≡ o → cond b (option_map (λ bytes. p.1 ++ bytes) o) None ≡ Some x → ((x : List ℕ) → joined (at + length p.1) size ps ≡ Some x → at + length p.1 + length x ≡ size) → at + length x ≡ size
    by true (Some rest) q e later =
        let a = later rest q in
        let n = ap (λ (l : List ℕ). length l) (sym (some_is (p.1 ++ rest) x e)) in
        let m = length-append p.1 rest in
        omega (arith, a, n, m)
    by true None q e later = nothing_there x e
    by false o q e later = nothing_there x e

-- and are the content, if they have as many bytes
pub joined_is : (hashed : List (List ℕ)) (v : List ℕ) (ps : List (ℕ × List ℕ)) (x : List ℕ) → AreParts hashed v ps → joined 0 (length v) ps ≡ Some x → (length v ≡ length x) × ((x ≡ v) ⊎ Collides hashed)
joined_is hashed v ps x h e = ((let n = joined_count 0 (length v) ps x e in omega (arith, n)), by (parts_exact hashed v ps h))
  where
    by : AreExact v ps ⊎ Collides hashed → (x ≡ v) ⊎ Collides hashed
    by (inl all) = inl (joined_from v 0 ps x all e)
    by (inr c) = inr c
