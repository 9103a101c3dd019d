-- Which files have an entry after each change, for crates above.
use Rattle.std.proofs.Common.{◌≡◌, refl, sym, ap, subst, ℕ, List, [], ◌∷◌, Option, Some, None, Bool, true, false, nat_eq, take}
use Rattle.std.specs.Prelude.{IsSome, cond, unwrap_or}
use Rattle.std.specs.Map.{lookup, remove_entry, set_value}
use Rattle.std.proofs.lemmas.Bool.{eq-eqb, false≢true}
use Rattle.client_cache.specs.declared.kept.Note.{Note}
use Rattle.client_cache.specs.declared.kept.Kept.{Kept}
use Rattle.client_cache.specs.Cache.{Entries, kept_of, nothing, fronted, reserved, keeps, notes, evicts, with_content, with_note, without_note, without_content}

-- an entry that goes first is there
at_front : (entries : Entries) (file : ℕ) (k : Kept) → kept_of (fronted entries file k) file ≡ Some k
unfolding fronted
at_front entries file k = ap (λ b. cond b (Some k) (lookup (nat_eq file) (take 255 (remove_entry (nat_eq file) entries)))) (eq-eqb file file refl)

some_there : (o : Option Kept) (k : Kept) → o ≡ Some k → IsSome o
some_there o k is = subst (λ (x : Option Kept). IsSome x) (sym is) refl

-- a value that is written leaves each file its entry
set_there : (entries : Entries) (other : ℕ) (k : Kept) (file : ℕ) → IsSome (kept_of entries file) → IsSome (kept_of (set_value (nat_eq other) entries k) file)
set_there [] other k file there = there
set_there (e ∷ es) other k file there = first (nat_eq other e.0) there (set_there es other k file)
  where
    written : (b : Bool) → IsSome (cond b (Some e.1) (kept_of es file)) → IsSome (cond b (Some k) (kept_of es file))
    written true t = refl
    written false t = t

    further : (b : Bool) → IsSome (cond b (Some e.1) (kept_of es file)) → (IsSome (kept_of es file) → IsSome (kept_of (set_value (nat_eq other) es k) file))
        → IsSome (cond b (Some e.1) (kept_of (set_value (nat_eq other) es k) file))
    further true t later = refl
    further false t later = later t

    first : (a : Bool) → IsSome (cond (nat_eq file e.0) (Some e.1) (kept_of es file)) → (IsSome (kept_of es file) → IsSome (kept_of (set_value (nat_eq other) es k) file))
        → IsSome (kept_of (cond a ((e.0, k) ∷ es) (e ∷ set_value (nat_eq other) es k)) file)
    first true t later = written (nat_eq file e.0) t
    first false t later = further (nat_eq file e.0) t later

notes_there : (entries : Entries) (other : ℕ) (n : Option Note) (o : Option Kept) (file : ℕ) → IsSome (kept_of entries file) → IsSome (kept_of (notes entries other n o) file)
notes_there entries other n None file there = there
notes_there entries other n (Some k) file there = set_there entries other (record k { note = n }) file there

evicts_there : (entries : Entries) (other : ℕ) (o : Option Kept) (file : ℕ) → IsSome (kept_of entries file) → IsSome (kept_of (evicts entries other o) file)
evicts_there entries other None file there = there
evicts_there entries other (Some k) file there = set_there entries other (record k { content = None }) file there

keeps_there : (entries : Entries) (file version : ℕ) (bytes : List ℕ) (o : Option Kept) → kept_of entries file ≡ o → IsSome o → IsSome (kept_of (keeps entries file version bytes o) file)
keeps_there entries file version bytes None at there = absurd (false≢true there)
keeps_there entries file version bytes (Some k) at there =
    let kept : Kept = record k { content = Some (record { version = version; bytes = bytes }) } in
    some_there _ kept (at_front entries file kept)

-- ---- the changes

-- a file whose entry was reserved has one
pub reserved_there : (entries : Entries) (file : ℕ) → IsSome (kept_of (reserved entries file) file)
reserved_there entries file =
    let kept : Kept = unwrap_or (kept_of entries file) nothing in
    some_there _ kept (at_front entries file kept)

-- one whose content is kept still has it
pub kept_there : (entries : Entries) (file version : ℕ) (bytes : List ℕ) → IsSome (kept_of entries file) → IsSome (kept_of (with_content entries file version bytes) file)
kept_there entries file version bytes there = keeps_there entries file version bytes (kept_of entries file) refl there

-- no note that comes or goes, and no content that is dropped, takes any file's entry away
pub noted_there : (entries : Entries) (other version until file : ℕ) → IsSome (kept_of entries file) → IsSome (kept_of (with_note entries other version until) file)
noted_there entries other version until file there = notes_there entries other (Some (record { version = version; until = until })) (kept_of entries other) file there

pub recalled_there : (entries : Entries) (other file : ℕ) → IsSome (kept_of entries file) → IsSome (kept_of (without_note entries other) file)
recalled_there entries other file there = notes_there entries other None (kept_of entries other) file there

pub evicted_there : (entries : Entries) (other file : ℕ) → IsSome (kept_of entries file) → IsSome (kept_of (without_content entries other) file)
evicted_there entries other file there = evicts_there entries other (kept_of entries other) file there
