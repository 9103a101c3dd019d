-- The steps of a CONDWRITE: what is found by its digest, and what becomes of that.
use Rattle.std.proofs.Common.{◌≡◌, refl, sym, ap, ◌∙◌, ℕ, ◌+◌, ◌≤◌, List, length, take, drop, Option, Some, None, Bool, true, false, true≢false, arith}
use Rattle.std.specs.Prelude.{◌==◌, ◌||◌, is_some, nat_le, nat_lt, if◌then◌else◌}
use Rattle.std.specs.Str.{bytes_eq}
use Rattle.std.proofs.lemmas.Bool.{eqb-true, leb-true}
use Rattle.std.proofs.lemmas.List.{length-take, length-drop}
use Rattle.sha1.specs.Sha1.{sha1}
use Rattle.chunk_index.specs.Index.{Indexed, key_of, place_of, found}
use Rattle.chunk_index.specs.declared.place.Place.{Place}
use Rattle.xdr_codec.specs.declared.status.Status.{Status}
use Rattle.xdr_codec.specs.declared.status.Status.TheVariants as status
use Rattle.xdr_codec.specs.declared.answer.Answer.TheVariants.{Done, Failed}
use Rattle.hash_calls.specs.declared.call.CondPiece.{CondPiece}
use Rattle.temp_files.specs.Temps.{Temp, Temps, with_more, piece_fault}
use Rattle.tree_reading.specs.Tree.{Tree}
use Rattle.chunk_calls.specs.Writing.{cond_most, cond_fault, bytes_found, bytes_known, named, named_unless, named_bytes}
use Rattle.chunk_calls.specs.Indexing.{bytes_of, wanted_bytes, with_digest}
use Rattle.chunk_calls.specs.Files.{File, file_at}

some_same : (b c : List ℕ) → Some b ≡ Some c → b ≡ c
some_same b c e = cc

none_some : (b : List ℕ) → None ≡ Some b → ⊥
none_some b e = cc

-- ---- what is found has the count

of_length : (f : Option File) (p : Place) (bytes : List ℕ) → bytes_of f p ≡ Some bytes → length bytes ≡ p.count
of_length None p bytes h = absurd (none_some bytes h)
of_length (Some f) p bytes h = by (nat_le (p.offset + p.count) (length f.content)) refl h
  where
    by : (b : Bool) → nat_le (p.offset + p.count) (length f.content) ≡ b → (if b then Some (take p.count (drop p.offset f.content)) else None) ≡ Some bytes → length bytes ≡ p.count
    by true e g =
        let within : p.offset + p.count ≤ length f.content = leb-true (p.offset + p.count) (length f.content) e in
        omega (arith, within, ap length (some_same (take p.count (drop p.offset f.content)) bytes g), length-take p.count (drop p.offset f.content), length-drop p.offset f.content)
    by false e g = absurd (none_some bytes g)

wanted_length : (f : Option File) (p : Place) (count : ℕ) (bytes : List ℕ) → wanted_bytes f p count ≡ Some bytes → length bytes ≡ count
wanted_length f p count bytes h = by (p.count == count) refl h
  where
    by : (b : Bool) → (p.count == count) ≡ b → (if b then bytes_of f p else None) ≡ Some bytes → length bytes ≡ count
    by true e g = of_length f p bytes g ∙ eqb-true p.count count e
    by false e g = absurd (none_some bytes g)

found_length : (tree : Tree) (a : CondPiece) (p : Option Place) (bytes : List ℕ) → bytes_found tree a p ≡ Some bytes → length bytes ≡ a.count
found_length tree a None bytes h = absurd (none_some bytes h)
found_length tree a (Some p) bytes h = wanted_length (file_at tree p.file) p a.count bytes h

digest_same : (digest : List ℕ) (o : Option (List ℕ)) (bytes : List ℕ) → with_digest digest o ≡ Some bytes → o ≡ Some bytes
digest_same digest None bytes h = h
digest_same digest (Some b) bytes h = by (bytes_eq (sha1 b) digest) h
  where
    by : (t : Bool) → (if t then Some b else None) ≡ Some bytes → Some b ≡ Some bytes
    by true g = g
    by false g = absurd (none_some bytes g)

known_length : (tree : Tree) (a : CondPiece) (p : Option Place) (bytes : List ℕ) → bytes_known tree a p ≡ Some bytes → length bytes ≡ a.count
known_length tree a p bytes h = found_length tree a p bytes (digest_same a.digest (bytes_found tree a p) bytes h)

-- ---- the fault of its piece

fault_none : (a : CondPiece) (t : Option Temp) → cond_fault a t ≡ None → piece_fault t a.offset a.count ≡ None
fault_none a t h = by (a.count == 0 || nat_lt cond_most a.count) h
  where
    by : (b : Bool) → (if b then Some status.Inval else piece_fault t a.offset a.count) ≡ None → piece_fault t a.offset a.count ≡ None
    by true g = absurd (true≢false (ap is_some g))
    by false g = g

-- what is known may be put where there is no fault
pub known_fits : (tree : Tree) (a : CondPiece) (t : Option Temp) (p : Option Place) (bytes : List ℕ) → cond_fault a t ≡ None → bytes_known tree a p ≡ Some bytes
    → piece_fault t a.offset (length bytes) ≡ None
known_fits tree a t p bytes fault known = ap (λ n. piece_fault t a.offset n) (known_length tree a p bytes known) ∙ fault_none a t fault

-- ---- what becomes of it

module _ (tree : Tree) (temps : Temps) (index : Indexed) (a : CondPiece) (t : Option Temp) where
  -- one that has a fault
  pub named_refused : (e : Status) → cond_fault a t ≡ Some e → named tree temps index a t ≡ record { temps = temps; index = index; answer = Failed e tt }
  named_refused e fault = ap (λ (f : Option Status). named_unless tree temps index a t f) fault

  no_bytes : (i : Indexed) (o : Option Temp) → named_bytes temps i a o None ≡ record { temps = temps; index = i; answer = Failed status.HashNotFound tt }
  no_bytes i None = refl
  no_bytes i (Some x) = refl

  -- one by whose digest nothing is known
  pub named_unknown : (new : Indexed) → cond_fault a t ≡ None → bytes_known tree a (place_of index.pairs (key_of a.digest)) ≡ None → new ≡ found index (key_of a.digest)
      → named tree temps index a t ≡ record { temps = temps; index = new; answer = Failed status.HashNotFound tt }
  named_unknown new fault none is =
      ap (λ (f : Option Status). named_unless tree temps index a t f) fault
      ∙ ap (λ (b : Option (List ℕ)). named_bytes temps (found index (key_of a.digest)) a t b) none
      ∙ no_bytes (found index (key_of a.digest)) t
      ∙ ap (λ (i : Indexed). record { temps = temps; index = i; answer = Failed status.HashNotFound tt }) (sym is)

  some_bytes : (i : Indexed) (bytes : List ℕ) (o : Option Temp) → piece_fault o a.offset a.count ≡ None → named_bytes temps i a o (Some bytes) ≡ record { temps = with_more temps o a.offset bytes; index = i; answer = Done tt }
  some_bytes i bytes None fits = absurd (true≢false (ap is_some fits))
  some_bytes i bytes (Some x) fits = refl

  -- one whose bytes are known
  pub named_known : (bytes : List ℕ) (new : Indexed) (more : Temps) → cond_fault a t ≡ None → bytes_known tree a (place_of index.pairs (key_of a.digest)) ≡ Some bytes → new ≡ found index (key_of a.digest) → more ≡ with_more temps t a.offset bytes
      → named tree temps index a t ≡ record { temps = more; index = new; answer = Done tt }
  named_known bytes new more fault known is put =
      ap (λ (f : Option Status). named_unless tree temps index a t f) fault
      ∙ ap (λ (b : Option (List ℕ)). named_bytes temps (found index (key_of a.digest)) a t b) known
      ∙ some_bytes (found index (key_of a.digest)) bytes t (fault_none a t fault)
      ∙ ap (λ (i : Indexed). record { temps = with_more temps t a.offset bytes; index = i; answer = Done tt }) (sym is)
      ∙ ap (λ (l : Temps). record { temps = l; index = new; answer = Done tt }) (sym put)
