-- What is used again of what is kept: bytes that the index gives, which are as long as their chunk, and contents of a version.
use Rattle.std.proofs.Common.{◌≡◌, refl, sym, ap, subst, ◌∙◌, ℕ, ◌+◌, ◌≤◌, ◌==◌, List, [], length, take, drop, Bool, true, false, eqb-true, arith}
use Rattle.std.proofs.lemmas.Bool.Decides.{nat_tests}
use Rattle.std.proofs.lemmas.List.{length-take, length-drop}
use Rattle.std.specs.List.{All}
use Rattle.std.specs.Prelude.{not, ◌&&◌, Option, Some, None, is_some, nat_le, bytes_eq, unwrap_or, if◌then◌else◌}
use Rattle.sha1.specs.Sha1.{sha1}
use Rattle.chunk_cut.specs.declared.chunk.Chunk.{Chunk}
use Rattle.chunk_index.specs.Index.{Indexed, key_of, place_of}
use Rattle.chunk_index.specs.declared.place.Place.{Place}
use Rattle.client_cache.proofs.lemmas.Held.{at_kept}
use Rattle.client_cache.specs.Cache.{Entries, kept_of, content_of, fresh_of, bytes_in, content_in as content_in_kept}
use Rattle.client_cache.specs.declared.kept.Content.{Content}
use Rattle.client_cache.specs.declared.kept.Kept.{Kept}
use Rattle.file_open.specs.Caching.{content_in, fresh_if, fresh_content, bytes_there, with_digest, from_index}
use Rattle.client_state.specs.Counting.{sends_one}
use Rattle.file_open.specs.Opening.{lease_call}
use Rattle.transfer_rules.specs.Limits.{file_limit}
use Rattle.client_state.specs.State.{State}
use Rattle.file_open.specs.Fetching.{asks_kept, tries_anew}
use Rattle.client_state.specs.View.{IsContentBounded, IsKeptBounded}
use Rattle.client_state.specs.declared.task.Stage.TheVariants as stage
use Rattle.client_state.proofs.lemmas.Pending.{held_of, sound_kept, sound_again}

none_some : {b : List ℕ} → None ≡ Some b → ⊥
none_some e = cc

same : (a b : List ℕ) → Some a ≡ Some b → a ≡ b
same a b e = ap (λ (o : Option (List ℕ)). unwrap_or o []) e

range_length : (offset count : ℕ) (bytes : List ℕ) → offset + count ≤ length bytes → length (take count (drop offset bytes)) ≡ count
range_length offset count bytes le = let a = length-take count (drop offset bytes) in let b = length-drop offset bytes in omega (arith, a, b, le)

in_length : (o : Option Content) (p : Place) (b : List ℕ) → bytes_in o p ≡ Some b → length b ≡ p.count
in_length None p b e = absurd (none_some e)
in_length (Some c) p b e = by (nat_le (p.offset + p.count) (length c.bytes)) refl e
  where
    by : (t : Bool) → nat_le (p.offset + p.count) (length c.bytes) ≡ t → (if t then Some (take p.count (drop p.offset c.bytes)) else None) ≡ Some b → length b ≡ p.count
    by true le e = sym (ap length (same (take p.count (drop p.offset c.bytes)) b e)) ∙ range_length p.offset p.count c.bytes (grind (arith, nat_tests, le))
    by false le e = absurd (none_some e)

there_length : (cache : Entries) (c : Chunk) (o : Option Place) (b : List ℕ) → bytes_there cache c o ≡ Some b → length b ≡ c.len
there_length cache c None b e = absurd (none_some e)
there_length cache c (Some p) b e = by (p.count == c.len) refl e
  where
    by : (t : Bool) → (p.count == c.len) ≡ t → (if t then bytes_in (content_of cache p.file) p else None) ≡ Some b → length b ≡ c.len
    by true is e = in_length (content_of cache p.file) p b e ∙ eqb-true p.count c.len is
    by false is e = absurd (none_some e)

digest_same : (digest : List ℕ) (o : Option (List ℕ)) (b : List ℕ) → with_digest digest o ≡ Some b → o ≡ Some b
digest_same digest None b e = absurd (none_some e)
digest_same digest (Some x) b e = by (bytes_eq (sha1 x) digest) e
  where
    by : (t : Bool) → (if t then Some x else None) ≡ Some b → Some x ≡ Some b
    by true e = e
    by false e = absurd (none_some e)

pub kept_length : (cache : Entries) (index : Indexed) (c : Chunk) (b : List ℕ) → from_index cache index c ≡ Some b → length b ≡ c.len
kept_length cache index c b e = there_length cache c (place_of index.pairs (key_of c.digest)) b (digest_same c.digest (bytes_there cache c (place_of index.pairs (key_of c.digest))) b e)

pub content_small : (cache : Entries) (file version : ℕ) (bytes : List ℕ) → All IsKeptBounded cache → content_in version (content_of cache file) ≡ Some bytes → length bytes ≤ file_limit
content_small cache file version bytes h e = by (kept_of cache file) refl e
  where
    inside : (c : Content) → length c.bytes ≤ file_limit → (t : Bool) → (if t then Some c.bytes else None) ≡ Some bytes → length bytes ≤ file_limit
    inside c small true e = subst (λ (l : List ℕ). length l ≤ file_limit) (same c.bytes bytes e) small
    inside c small false e = absurd (none_some e)

    within : (o : Option Content) → IsContentBounded o → content_in version o ≡ Some bytes → length bytes ≤ file_limit
    within None b e = absurd (none_some e)
    within (Some c) b e = inside c b ((c.version == version) && not (version == 0)) e

    by : (o : Option Kept) → kept_of cache file ≡ o → content_in version (content_in_kept o) ≡ Some bytes → length bytes ≤ file_limit
    by None is e = absurd (none_some e)
    by (Some k) is e = within k.content (at_kept IsKeptBounded cache file k h is) e

pub fresh_small : (cache : Entries) (file now : ℕ) (c : Content) → All IsKeptBounded cache → fresh_content cache file now ≡ Some c → length c.bytes ≤ file_limit
fresh_small cache file now c h e = by (kept_of cache file) refl e
  where
    some_same : (x : Content) → Some x ≡ Some c → x ≡ c
    some_same x e = cc

    no_content : None ≡ Some c → ⊥
    no_content e = cc

    inside : (x : Content) → length x.bytes ≤ file_limit → (t : Bool) → (if t then Some x else None) ≡ Some c → length c.bytes ≤ file_limit
    inside x small true e = subst (λ (y : Content). length y.bytes ≤ file_limit) (some_same x e) small
    inside x small false e = absurd (no_content e)

    within : (o : Option Content) → IsContentBounded o → fresh_if (is_some (fresh_of cache file now)) o ≡ Some c → length c.bytes ≤ file_limit
    within None b e = absurd (no_content e)
    within (Some x) b e = inside x b (is_some (fresh_of cache file now) && not (x.version == 0)) e

    by : (o : Option Kept) → kept_of cache file ≡ o → fresh_if (is_some (fresh_of cache file now)) (content_in_kept o) ≡ Some c → length c.bytes ≤ file_limit
    by None is e = absurd (no_content e)
    by (Some k) is e = within k.content (at_kept IsKeptBounded cache file k h is) e

-- ---- what an open asks for

apart : false ≡ true → ⊥
apart e = cc

pub asks_version : (s : State) (file : ℕ) (o : Option Content) → is_some o ≡ true → asks_kept s file o ≡ (record s { next_xid = s.next_xid + 1; task = Some (record { file = file; stage = stage.Asking s.next_xid }); sent = s.clock }, sends_one (lease_call s.lbfs s.next_xid file) 0)
asks_version s file None e = absurd (apart e)
asks_version s file (Some c) e = refl

pub asks_hashes : (s : State) (file : ℕ) (o : Option Content) → is_some o ≡ false → asks_kept s file o ≡ tries_anew s file 1 0
asks_hashes s file None e = refl
asks_hashes s file (Some c) e = absurd (apart (sym e))

-- what `open_fresh` goes by
pub ruleset by_open_fresh = (held_of, sound_kept)

-- what `ask_linked` goes by
pub ruleset by_ask_linked = (held_of, sound_again)
