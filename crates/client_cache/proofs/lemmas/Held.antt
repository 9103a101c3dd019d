-- What holds of each entry of a cache, after each change, for crates above.
use Rattle.std.proofs.Common.{◌≡◌, refl, sym, subst, ℕ, List, [], ◌∷◌, Option, Some, None, Bool, true, false, nat_eq}
use Rattle.std.specs.Prelude.{All, cond, unwrap_or}
use Rattle.std.specs.Map.{remove_entry, set_value}
use Rattle.std.proofs.lemmas.Bool.{eqb-true}
use Rattle.std.proofs.lemmas.List.Elements.{All-cons, All-head, All-tail, All-take}
use Rattle.client_cache.specs.declared.kept.Note.{Note}
use Rattle.client_cache.specs.declared.kept.Kept.{Kept}
use Rattle.client_cache.specs.Cache.{Entries, files_most, kept_of, nothing, fronted, reserved, keeps, notes, evicts, with_content, with_note, without_note, without_content}

some_same : (k l : Kept) → Some k ≡ Some l → k ≡ l
some_same k l e = cc

none_some : (k : Kept) → None ≡ Some k → ⊥
none_some k e = cc

module _ (P : ℕ × Kept → Type 0) where
  -- an entry that is found
  pub at_kept : (entries : Entries) (file : ℕ) (k : Kept) → All P entries → kept_of entries file ≡ Some k → P (file, k)
  at_kept [] file k a is = absurd (none_some k is)
  at_kept (e ∷ es) file k a is = by (nat_eq file e.0) refl is (at_kept es file k (All-tail P e es a))
    where
      by : (b : Bool) → nat_eq file e.0 ≡ b → cond b (Some e.1) (kept_of es file) ≡ Some k → (kept_of es file ≡ Some k → P (file, k)) → P (file, k)
      by true p g later = subst (λ (l : Kept). P (file, l)) (some_same e.1 k g) (subst (λ (n : ℕ). P (n, e.1)) (sym (eqb-true file e.0 p)) (All-head P e es a))
      by false p g later = later g

  removed : (entries : Entries) (file : ℕ) → All P entries → All P (remove_entry (nat_eq file) entries)
  removed [] file a = a
  removed (e ∷ es) file a = by (nat_eq file e.0) (removed es file (All-tail P e es a))
    where
      by : (b : Bool) → All P (remove_entry (nat_eq file) es) → All P (cond b es (e ∷ remove_entry (nat_eq file) es))
      by true later = All-tail P e es a
      by false later = All-cons P e (remove_entry (nat_eq file) es) (All-head P e es a) later

  written : (entries : Entries) (file : ℕ) (k : Kept) → All P entries → P (file, k) → All P (set_value (nat_eq file) entries k)
  written [] file k a p = a
  written (e ∷ es) file k a p = by (nat_eq file e.0) refl (written es file k (All-tail P e es a) p)
    where
      by : (b : Bool) → nat_eq file e.0 ≡ b → All P (set_value (nat_eq file) es k) → All P (cond b ((e.0, k) ∷ es) (e ∷ set_value (nat_eq file) es k))
      by true is later = All-cons P (e.0, k) es (subst (λ (n : ℕ). P (n, k)) (eqb-true file e.0 is) p) (All-tail P e es a)
      by false is later = All-cons P e (set_value (nat_eq file) es k) (All-head P e es a) later

  front : (entries : Entries) (file : ℕ) (k : Kept) → All P entries → P (file, k) → All P (fronted entries file k)
  unfolding fronted
  front entries file k a p = All-take P files_most ((file, k) ∷ remove_entry (nat_eq file) entries) (All-cons P (file, k) (remove_entry (nat_eq file) entries) p (removed entries file a))

  -- ---- the changes: what is to hold of the new entry, where there is one

  pub held_reserved : (entries : Entries) (file : ℕ) → All P entries → P (file, nothing) → All P (reserved entries file)
  held_reserved entries file a p = front entries file (unwrap_or (kept_of entries file) nothing) a (by (kept_of entries file) refl)
    where
      by : (o : Option Kept) → kept_of entries file ≡ o → P (file, unwrap_or o nothing)
      by None is = p
      by (Some k) is = at_kept entries file k a is

  pub held_kept : (entries : Entries) (file version : ℕ) (bytes : List ℕ) → All P entries
      → ((k : Kept) → P (file, k) → P (file, record k { content = Some (record { version = version; bytes = bytes }) })) → All P (with_content entries file version bytes)
  held_kept entries file version bytes a p = by (kept_of entries file) refl
    where
      by : (o : Option Kept) → kept_of entries file ≡ o → All P (keeps entries file version bytes o)
      by None is = a
      by (Some k) is = front entries file (record k { content = Some (record { version = version; bytes = bytes }) }) a (p k (at_kept entries file k a is))

  held_notes : (entries : Entries) (file : ℕ) (n : Option Note) → All P entries → ((k : Kept) → P (file, k) → P (file, record k { note = n })) → All P (notes entries file n (kept_of entries file))
  held_notes entries file n a p = by (kept_of entries file) refl
    where
      by : (o : Option Kept) → kept_of entries file ≡ o → All P (notes entries file n o)
      by None is = a
      by (Some k) is = written entries file (record k { note = n }) a (p k (at_kept entries file k a is))

  pub held_noted : (entries : Entries) (file version until : ℕ) → All P entries
      → ((k : Kept) → P (file, k) → P (file, record k { note = Some (record { version = version; until = until }) })) → All P (with_note entries file version until)
  held_noted entries file version until a p = held_notes entries file (Some (record { version = version; until = until })) a p

  pub held_recalled : (entries : Entries) (file : ℕ) → All P entries → ((k : Kept) → P (file, k) → P (file, record k { note = None })) → All P (without_note entries file)
  held_recalled entries file a p = held_notes entries file None a p

  pub held_evicted : (entries : Entries) (file : ℕ) → All P entries → ((k : Kept) → P (file, k) → P (file, record k { content = None })) → All P (without_content entries file)
  held_evicted entries file a p = by (kept_of entries file) refl
    where
      by : (o : Option Kept) → kept_of entries file ≡ o → All P (evicts entries file o)
      by None is = a
      by (Some k) is = written entries file (record k { content = None }) a (p k (at_kept entries file k a is))
