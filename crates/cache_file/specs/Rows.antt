-- Worked rows: what is written of items that come again, and of those that stood in the file.
use Rattle.std.specs.Prelude.{◌≡◌, ℕ, List, [], ◌∷◌, Some, None, refl, codes}
use Rattle.sha1.specs.Sha1.{sha1, digest_bytes, hash_after, compress, rounds, schedule, first_words}
use Rattle.xdr_codec.specs.Xdr.{opaque_spell}
use Rattle.client_cache.specs.declared.kept.Kept.{Kept}
use Rattle.cache_file.specs.Saved.{once_from, saved, within}

once_row : once_from [] (codes "ab" ∷ codes "c" ∷ codes "ab" ∷ codes "c" ∷ codes "d" ∷ []) ≡ codes "ab" ∷ codes "c" ∷ codes "d" ∷ []
unfolding sha1 digest_bytes hash_after compress rounds schedule first_words
once_row = refl

-- one that comes again takes no room
room_row : within 16 (once_from [] (codes "ab" ∷ codes "ab" ∷ codes "c" ∷ codes "d" ∷ [])) ≡ codes "ab" ∷ codes "c" ∷ []
unfolding opaque_spell sha1 digest_bytes hash_after compress rounds schedule first_words
room_row = refl

abbrev holds : List ℕ → Kept
holds content = record { content = Some (record { version = 0; bytes = content }); note = None }

-- what the file gave isn't cut anew, so that its items stay as they were
stays_row : saved ((0, holds (codes "abcd")) ∷ []) (codes "ab" ∷ codes "cd" ∷ []) ≡ codes "ab" ∷ codes "cd" ∷ []
unfolding opaque_spell sha1 digest_bytes hash_after compress rounds schedule first_words
stays_row = refl
