-- Worked rows: what is taken for a cache file.
use Rattle.std.specs.Prelude.{◌≡◌, [], ◌∷◌, ◌++◌, true, false, refl, codes, replicate}
use Rattle.xdr_codec.specs.Xdr.{opaque_read, opaque_spell, count_form, u32_form, bytes_form}
use Rattle.cache_file.specs.Items.{is_cache}

no_bytes : is_cache [] ≡ true
no_bytes = refl

three_bytes : is_cache (0 ∷ 0 ∷ 0 ∷ []) ≡ false
unfolding opaque_read count_form u32_form
three_bytes = refl

-- no item is empty
length_0 : is_cache (0 ∷ 0 ∷ 0 ∷ 0 ∷ []) ≡ false
unfolding opaque_read opaque_spell count_form u32_form bytes_form
length_0 = refl

whole_item : is_cache (0 ∷ 0 ∷ 0 ∷ 3 ∷ codes "abc" ++ 0 ∷ []) ≡ true
unfolding opaque_read opaque_spell count_form u32_form bytes_form
whole_item = refl

two_items : is_cache (0 ∷ 0 ∷ 0 ∷ 3 ∷ codes "abc" ++ 0 ∷ 0 ∷ 0 ∷ 0 ∷ 4 ∷ codes "abcd") ≡ true
unfolding opaque_read opaque_spell count_form u32_form bytes_form
two_items = refl

-- nothing else follows it
more : is_cache (0 ∷ 0 ∷ 0 ∷ 4 ∷ codes "abcd and a text") ≡ false
unfolding opaque_read opaque_spell count_form u32_form bytes_form
more = refl

cut_behind : is_cache (0 ∷ 0 ∷ 0 ∷ 4 ∷ codes "abcd" ++ 0 ∷ 0 ∷ 0 ∷ 3 ∷ codes "abc") ≡ false
unfolding opaque_read opaque_spell count_form u32_form bytes_form
cut_behind = refl

cut_short : is_cache (0 ∷ 0 ∷ 0 ∷ 3 ∷ codes "abc") ≡ false
unfolding opaque_read opaque_spell count_form u32_form bytes_form
cut_short = refl

other_fill : is_cache (0 ∷ 0 ∷ 0 ∷ 3 ∷ codes "abcd") ≡ false
unfolding opaque_read opaque_spell count_form u32_form bytes_form
other_fill = refl

-- 65,537 bytes, though they are there
too_long : is_cache (0 ∷ 1 ∷ 0 ∷ 1 ∷ replicate 65540 0) ≡ false
unfolding opaque_read count_form u32_form
too_long = refl

longest : is_cache (0 ∷ 1 ∷ 0 ∷ 0 ∷ replicate 65536 0) ≡ true
unfolding opaque_read opaque_spell count_form u32_form bytes_form
longest = refl

-- a font begins so
font : is_cache (0 ∷ 1 ∷ 0 ∷ 0 ∷ replicate 65540 0) ≡ false
unfolding opaque_read opaque_spell count_form u32_form bytes_form
font = refl

a_text : is_cache (codes "all that I have") ≡ false
unfolding opaque_read count_form u32_form
a_text = refl
