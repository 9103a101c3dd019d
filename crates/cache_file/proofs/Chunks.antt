-- The chunks of a content are items: each has some bytes, and none too many.
use Rattle.std.proofs.Common.{◌≡◌, ℕ, ◌+◌, ◌-◌, ◌<◌, ◌≤◌, List, [], ◌∷◌, ◌++◌, length, map, take, drop, Bool, true, false, nat_lt, inl, inr, refl, sym, subst, arith}
use Rattle.std.specs.Prelude.{nat_le, ◌==◌, if◌then◌else◌}
use Rattle.std.specs.List.{All, flat_map}
use Rattle.std.proofs.lemmas.Bool.Decides.{nat_tests}
use Rattle.std.proofs.lemmas.List.{length-take, length-drop}
use Rattle.std.proofs.lemmas.List.Elements.{All-nil, All-cons, All-append, All-head, All-tail}
use Rattle.limits.specs.declared.TheConstants.{CHUNK_MOST}
use Rattle.chunk_cut.specs.Chunks.{chunk_at, chunks_between, chunks_of}
use Rattle.chunk_cut.specs.Places.{chunk_bytes}
use Rattle.chunk_cut.specs.Ends.{IsOpen, IsNextEnd, AreEndsFrom, AreEnds}
use Rattle.chunk_cut.specs.Search.{ends}
use Rattle.client_cache.specs.Cache.{Entries, contents_in}
use Rattle.cache_file.specs.Items.{IsItem}
use Rattle.sha1.specs.Sha1.{sha1}
use Rattle.cache_file.specs.Saved.{given_file, pieces_of, pieces_kept, pieces_in, is_seen, with_digest, once_from, taken, within, saved}

-- where no chunk may end what is left is no longer than the longest
open_small : (content : List ℕ) (s : ℕ) → IsOpen content s → length content ≤ s + CHUNK_MOST
open_small content s o = by (nat_lt (length content) (s + CHUNK_MOST)) refl
  where
    by : (b : Bool) → nat_lt (length content) (s + CHUNK_MOST) ≡ b → length content ≤ s + CHUNK_MOST
    by true e = grind (arith, nat_tests, e)
    by false e = absurd (o (s + CHUNK_MOST) (record { least = omega arith; most = omega arith; within = grind (arith, nat_tests, e); mark = inr refl }))

-- a chunk that ends where it may, or at the content's end
is_item : (content : List ℕ) (s e : ℕ) → s < length content → IsNextEnd content s e → IsItem (chunk_bytes content (chunk_at content s e))
is_item content s e lt (inl x) =
    let a = x.may.least in
    let b = x.may.most in
    let w = x.may.within in
    let n : length (take (e - s) (drop s content)) ≡ e - s = omega (arith, a, w, length-take (e - s) (drop s content), length-drop s content) in
    (omega (arith, n, a), omega (arith, n, b))
is_item content s e lt (inr x) =
    let b = open_small content s x.0 in
    let w = x.1 in
    let n : length (take (e - s) (drop s content)) ≡ e - s = omega (arith, lt, w, length-take (e - s) (drop s content), length-drop s content) in
    (omega (arith, n, w, lt), omega (arith, n, b, w))

between_items : (content es : List ℕ) (s : ℕ) → AreEndsFrom content s es → All IsItem (map (chunk_bytes content) (chunks_between content s es))
between_items content [] s h = All-nil IsItem
between_items content (e ∷ es) s h = All-cons IsItem (chunk_bytes content (chunk_at content s e)) (map (chunk_bytes content) (chunks_between content e es)) (is_item content s e h.0 h.1) (between_items content es e h.2)

-- what the law of ends says
pub record Cut : Type 0 where
  pub found : (content : List ℕ) → AreEnds content (ends content)
  pub chunks : (content : List ℕ) → chunks_of content ≡ chunks_between content 0 (ends content)

of_content : Cut → (content : List ℕ) → All IsItem (pieces_of content)
of_content law content = subst (λ cs. All IsItem (map (chunk_bytes content) cs)) (sym (law.chunks content)) (between_items content (ends content) 0 (law.found content))

of_kept : Cut → (c : ℕ × List ℕ) → All IsItem (pieces_kept c)
of_kept law c = by (c.0 == given_file)
  where
    by : (b : Bool) → All IsItem (if b then [] else pieces_of c.1)
    by true = All-nil IsItem
    by false = of_content law c.1

of_contents : Cut → (cs : List (ℕ × List ℕ)) → All IsItem (flat_map pieces_kept cs)
of_contents law [] = All-nil IsItem
of_contents law (c ∷ cs) = All-append IsItem (pieces_kept c) (flat_map pieces_kept cs) (of_kept law c) (of_contents law cs)

-- a prefix of items
all_within : (room : ℕ) (xs : List (List ℕ)) → All IsItem xs → All IsItem (within room xs)
all_within room [] h = All-nil IsItem
all_within room (x ∷ xs) h = by (nat_le (taken x) room) (all_within (room - taken x) xs (All-tail IsItem x xs h))
  where
    by : (b : Bool) → All IsItem (within (room - taken x) xs) → All IsItem (if b then x ∷ within (room - taken x) xs else [])
    by true later = All-cons IsItem x (within (room - taken x) xs) (All-head IsItem x xs h) later
    by false later = All-nil IsItem

-- and each item once
all_once : (seen xs : List (List ℕ)) → All IsItem xs → All IsItem (once_from seen xs)
all_once seen [] h = All-nil IsItem
all_once seen (x ∷ xs) h = by (is_seen seen (sha1 x)) (all_once seen xs (All-tail IsItem x xs h)) (all_once (with_digest seen (sha1 x)) xs (All-tail IsItem x xs h))
  where
    by : (b : Bool) → All IsItem (once_from seen xs) → All IsItem (once_from (with_digest seen (sha1 x)) xs) → All IsItem (if b then once_from seen xs else x ∷ once_from (with_digest seen (sha1 x)) xs)
    by true without later = without
    by false without later = All-cons IsItem x (once_from (with_digest seen (sha1 x)) xs) (All-head IsItem x xs h) later

pub saved_items : Cut → (entries : Entries) (old : List (List ℕ)) → All IsItem old → All IsItem (saved entries old)
saved_items law entries old each = all_within _ (once_from [] (pieces_in entries ++ old)) (all_once [] (pieces_in entries ++ old) (All-append IsItem (pieces_in entries) old (of_contents law (contents_in entries)) each))
