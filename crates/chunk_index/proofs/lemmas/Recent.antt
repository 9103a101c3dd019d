-- Lists of pairs, the most recent first: what `lru` makes of them, in the words of this crate.
use Rattle.std.proofs.Common.{◌≡◌, refl, sym, ap, ◌∙◌, ℕ, zero, suc, ◌-◌, ◌<◌, ◌≤◌, List, [], ◌∷◌, length, take, Option, Some, None, Bool, true, false, nat_eq, arith}
use Rattle.std.specs.Prelude.{cond, option_map}
use Rattle.std.specs.Option.{option_map_or}
use Rattle.std.specs.Map.{lookup, lookup_entry, remove_entry, set_value}
use Rattle.std.proofs.lemmas.Bool.{eqb-true, eq-eqb}
use Rattle.std.proofs.lemmas.List.{length-take}
use Rattle.lru.specs.LruCache.{LruCache, lru_cache, promoted, put_entries}

module _ {X : Type 0} where
  no_some : (e : ℕ × X) → None ≡ Some e → ⊥
  no_some e h = cc

  some_none : (e : ℕ × X) → Some e ≡ None → ⊥
  some_none e h = cc

  some_same : (e f : ℕ × X) → Some e ≡ Some f → e ≡ f
  some_same e f h = cc

  -- ---- a key that is there, and one that isn't

  -- an entry that is found has the key, and is one of them
  found_key : (k : ℕ) (es : List (ℕ × X)) (e : ℕ × X) → lookup_entry (nat_eq k) es ≡ Some e → (e.0 ≡ k) × (suc (length (remove_entry (nat_eq k) es)) ≡ length es)
  found_key k [] e h = absurd (no_some e h)
  found_key k (f ∷ es) e h = by (nat_eq k f.0) refl h (found_key k es e)
    where
      by : (b : Bool) → nat_eq k f.0 ≡ b → cond b (Some f) (lookup_entry (nat_eq k) es) ≡ Some e
          → (lookup_entry (nat_eq k) es ≡ Some e → (e.0 ≡ k) × (suc (length (remove_entry (nat_eq k) es)) ≡ length es))
          → (e.0 ≡ k) × (suc (length (cond b es (f ∷ remove_entry (nat_eq k) es))) ≡ suc (length es))
      by true p g later = (ap (λ (x : ℕ × X). x.0) (sym (some_same f e g)) ∙ sym (eqb-true k f.0 p), refl)
      by false p g later = ((later g).0, ap suc (later g).1)

  none_key : (k : ℕ) (es : List (ℕ × X)) → lookup_entry (nat_eq k) es ≡ None → remove_entry (nat_eq k) es ≡ es
  none_key k [] h = refl
  none_key k (f ∷ es) h = by (nat_eq k f.0) h (none_key k es)
    where
      by : (b : Bool) → cond b (Some f) (lookup_entry (nat_eq k) es) ≡ None → (lookup_entry (nat_eq k) es ≡ None → remove_entry (nat_eq k) es ≡ es)
          → cond b es (f ∷ remove_entry (nat_eq k) es) ≡ f ∷ es
      by true g later = absurd (some_none f g)
      by false g later = ap (λ l. f ∷ l) (later g)

  -- the value that is found is the entry's
  lookup_is : (k : ℕ) (es : List (ℕ × X)) → lookup (nat_eq k) es ≡ option_map (λ e. e.1) (lookup_entry (nat_eq k) es)
  lookup_is k [] = refl
  lookup_is k (f ∷ es) = by (nat_eq k f.0) (lookup_is k es)
    where
      by : (b : Bool) → lookup (nat_eq k) es ≡ option_map (λ e. e.1) (lookup_entry (nat_eq k) es)
          → cond b (Some f.1) (lookup (nat_eq k) es) ≡ option_map (λ e. e.1) (cond b (Some f) (lookup_entry (nat_eq k) es))
      by true h = refl
      by false h = h

  -- ---- a pair that is put in front

  take_whole : (n : ℕ) (xs : List (ℕ × X)) → length xs ≤ n → take n xs ≡ xs
  take_whole zero [] le = refl
  take_whole (suc n) [] le = refl
  take_whole zero (x ∷ xs) le = absurd (omega arith)
  take_whole (suc n) (x ∷ xs) le = ap (λ l. x ∷ l) (take_whole n xs (omega arith))

  take_front : (n : ℕ) (x : ℕ × X) (xs : List (ℕ × X)) → 0 < n → take n (x ∷ xs) ≡ x ∷ take (n - 1) xs
  take_front zero x xs lt = absurd (omega arith)
  take_front (suc n) x xs lt = ap (λ m. x ∷ take m xs) (omega arith)

  -- a key's pair goes first, and what is past the capacity is dropped
  pub put_is : (cap k : ℕ) (v : X) (es : List (ℕ × X)) → length es ≤ cap → 0 < cap
      → option_map_or (λ e. (e.0, v) ∷ remove_entry (nat_eq k) es) (lookup_entry (nat_eq k) es) ((k, v) ∷ take (cap - 1) es) ≡ take cap ((k, v) ∷ remove_entry (nat_eq k) es)
  put_is cap k v es le lt = by (lookup_entry (nat_eq k) es) refl
    where
      by : (o : Option (ℕ × X)) → lookup_entry (nat_eq k) es ≡ o
          → option_map_or (λ e. (e.0, v) ∷ remove_entry (nat_eq k) es) o ((k, v) ∷ take (cap - 1) es) ≡ take cap ((k, v) ∷ remove_entry (nat_eq k) es)
      by None h = sym (take_front cap (k, v) (remove_entry (nat_eq k) es) lt ∙ ap (λ l. (k, v) ∷ take (cap - 1) l) (none_key k es h))
      by (Some e) h =
          let found = found_key k es e h in
          ap (λ (n : ℕ). (n, v) ∷ remove_entry (nat_eq k) es) found.0 ∙ sym (take_whole cap ((k, v) ∷ remove_entry (nat_eq k) es) (omega (arith, found.1, le)))

  pub within : (cap : ℕ) (es : List (ℕ × X)) → length (take cap es) ≤ cap
  within cap es = omega (arith, length-take cap es)

  -- ---- a pair that is found

  -- the pair of a value that was found goes first
  abbrev pub front_if : (k : ℕ) → List (ℕ × X) → Option X → List (ℕ × X)
  front_if k es None = es
  front_if k es (Some v) = (k, v) ∷ remove_entry (nat_eq k) es

  pub promoted_is : (k : ℕ) (es : List (ℕ × X)) → promoted (nat_eq k) es ≡ front_if k es (lookup (nat_eq k) es)
  promoted_is k es = by (lookup_entry (nat_eq k) es) refl ∙ ap (λ o. front_if k es o) (sym (lookup_is k es))
    where
      by : (o : Option (ℕ × X)) → lookup_entry (nat_eq k) es ≡ o → option_map_or (λ e. e ∷ remove_entry (nat_eq k) es) o es ≡ front_if k es (option_map (λ e. e.1) o)
      by None h = refl
      by (Some e) h = ap (λ (n : ℕ). (n, e.1) ∷ remove_entry (nat_eq k) es) (found_key k es e h).0

  -- as many as before
  pub promoted_len : (k : ℕ) (es : List (ℕ × X)) → length (promoted (nat_eq k) es) ≡ length es
  promoted_len k es = by (lookup_entry (nat_eq k) es) refl
    where
      by : (o : Option (ℕ × X)) → lookup_entry (nat_eq k) es ≡ o → length (option_map_or (λ e. e ∷ remove_entry (nat_eq k) es) o es) ≡ length es
      by None h = refl
      by (Some e) h = (found_key k es e h).1

  -- ---- a value that is written at a key

  pub set_len : (k : ℕ) (es : List (ℕ × X)) (w : X) → length (set_value (nat_eq k) es w) ≡ length es
  set_len k [] w = refl
  set_len k (f ∷ es) w = by (nat_eq k f.0) (set_len k es w)
    where
      by : (b : Bool) → length (set_value (nat_eq k) es w) ≡ length es → length (cond b ((f.0, w) ∷ es) (f ∷ set_value (nat_eq k) es w)) ≡ suc (length es)
      by true h = refl
      by false h = ap suc h

  -- of a pair that went first
  pub set_promoted : (k : ℕ) (es : List (ℕ × X)) (v w : X) → lookup (nat_eq k) es ≡ Some v → set_value (nat_eq k) (promoted (nat_eq k) es) w ≡ (k, w) ∷ remove_entry (nat_eq k) es
  set_promoted k es v w is =
      ap (λ l. set_value (nat_eq k) l w) (promoted_is k es ∙ ap (λ o. front_if k es o) is)
      ∙ ap (λ b. cond b ((k, w) ∷ remove_entry (nat_eq k) es) ((k, v) ∷ set_value (nat_eq k) (remove_entry (nat_eq k) es) w)) (eq-eqb k k refl)

  -- with the pair that was found there are no more than before
  pub found_len : (k : ℕ) (es : List (ℕ × X)) (v : X) → lookup (nat_eq k) es ≡ Some v → suc (length (remove_entry (nat_eq k) es)) ≡ length es
  found_len k es v is = ap length (sym (promoted_is k es ∙ ap (λ o. front_if k es o) is)) ∙ promoted_len k es

  -- a pair goes first in place of the one that was found, and none is past the capacity
  pub front_fits : (cap k : ℕ) (es : List (ℕ × X)) (v w : X) → length es ≤ cap → lookup (nat_eq k) es ≡ Some v → take cap ((k, w) ∷ remove_entry (nat_eq k) es) ≡ (k, w) ∷ remove_entry (nat_eq k) es
  front_fits cap k es v w le is = take_whole cap ((k, w) ∷ remove_entry (nat_eq k) es) (omega (arith, found_len k es v is, le))

  -- ---- a cache

  -- what `put` leaves is within the capacity
  pub put_fits : (old new : LruCache ℕ X) (k : ℕ) (v : X) → length old.entries ≤ old.cap → 0 < old.cap → new ≡ lru_cache (put_entries nat_eq old k v) old.cap
      → (length new.entries ≤ new.cap) × (0 < new.cap)
  put_fits old new k v le lt is =
      let len = ap (λ (c : LruCache ℕ X). length c.entries) is ∙ ap length (put_is old.cap k v old.entries le lt) in
      let cap = ap (λ (c : LruCache ℕ X). c.cap) is in
      let most = within old.cap ((k, v) ∷ remove_entry (nat_eq k) old.entries) in
      (omega arith, omega arith)

  pub put_leaves : (old new : LruCache ℕ X) (k : ℕ) (v : X) → length old.entries ≤ old.cap → 0 < old.cap → new ≡ lru_cache (put_entries nat_eq old k v) old.cap
      → new ≡ lru_cache (take old.cap ((k, v) ∷ remove_entry (nat_eq k) old.entries)) old.cap
  put_leaves old new k v le lt is = is ∙ ap (λ es. lru_cache es old.cap) (put_is old.cap k v old.entries le lt)

  -- and what `get` leaves
  pub got_fits : (old new : LruCache ℕ X) (k : ℕ) → length old.entries ≤ old.cap → 0 < old.cap → new ≡ lru_cache (promoted (nat_eq k) old.entries) old.cap
      → (length new.entries ≤ new.cap) × (0 < new.cap)
  got_fits old new k le lt is =
      let len = ap (λ (c : LruCache ℕ X). length c.entries) is ∙ promoted_len k old.entries in
      let cap = ap (λ (c : LruCache ℕ X). c.cap) is in
      (omega arith, omega arith)

  pub got_leaves : (old new : LruCache ℕ X) (k : ℕ) → new ≡ lru_cache (promoted (nat_eq k) old.entries) old.cap
      → new ≡ lru_cache (front_if k old.entries (lookup (nat_eq k) old.entries)) old.cap
  got_leaves old new k is = is ∙ ap (λ es. lru_cache es old.cap) (promoted_is k old.entries)
