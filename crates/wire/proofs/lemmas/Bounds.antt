-- How long spellings are at most.
use Rattle.std.proofs.Common.{◌≡◌, ℕ, ◌+◌, ◌*◌, ◌≤◌, true, false, List, [], ◌∷◌, ◌++◌, length, Some, None, refl, arith, length-append, ap, subst}
use Rattle.std.specs.Prelude.{All, replicate}
use Rattle.std.specs.List.{flat_map}
use Rattle.std.specs.Int.{w32, to_be_bytes}
use Rattle.std.proofs.lemmas.List.{length-replicate}
use Rattle.limits.specs.declared.TheConstants.{HANDLE_MOST}
use Rattle.xdr_codec.specs.Format.{Format}
use Rattle.xdr_codec.specs.Laws.{All-head, All-tail}
use Rattle.xdr_codec.specs.Compose.{◌⋆◌, nothing, tagged, embedded}
use Rattle.xdr_codec.specs.Xdr.{u32_form, u64_form, bool_form, bool_len, wide32, wide64, fixed_form, opaque_spell, fill_len}
use Rattle.xdr_codec.specs.Choice.{optional}
use Rattle.xdr_codec.specs.Handle.{handle_form}
use Rattle.xdr_codec.specs.Attr.{attr_form, kind_form, time_form}
use Rattle.xdr_codec.specs.Status.{status_number}
use Rattle.xdr_codec.specs.Answers.{answer_form, outcome_form}
use Rattle.xdr_codec.specs.declared.answer.Answer.TheVariants.{Done, Failed}
use Rattle.xdr_codec.specs.declared.status.Status.{Status}

abbrev pub AtMost : {A : Type 0} → Format A → ℕ → Type 0
AtMost {A} f n = (a : A) → f.Fits a → length (f.spell a) ≤ n

pub most_u32 : AtMost u32_form 4
unfolding u32_form
most_u32 n fits = omega (arith, wide32.len n)

pub most_u64 : AtMost u64_form 8
unfolding u64_form
most_u64 n fits = omega (arith, wide64.len n)

pub most_bool : AtMost bool_form 4
most_bool b fits = omega (arith, bool_len b)

pub most_within : {A : Type 0} (f : Format A) (m n : ℕ) → AtMost f m → m ≤ n → AtMost f n
most_within f m n p le a fits = omega (arith, p a fits)

pub most_nothing : {A : Type 0} (a : A) → AtMost (nothing a) 0
most_nothing a b fits = omega arith

pub most_then : {A B : Type 0} (f : Format A) (g : Format B) (m n : ℕ) → AtMost f m → AtMost g n → AtMost (f ⋆ g) (m + n)
most_then f g m n p q a fits = omega (arith, p a.0 fits.0, q a.1 fits.1, length-append (f.spell a.0) (g.spell a.1))

fill_below : (n : ℕ) → fill_len n ≤ 3
fill_below n = omega arith

pub most_fixed : (n : ℕ) → AtMost (fixed_form n) (n + 3)
unfolding fixed_form
most_fixed n bytes fits =
    omega (arith, fits, fill_below (length bytes), length-append bytes (replicate (fill_len (length bytes)) 0), length-replicate {A = ℕ} (fill_len (length bytes)) 0)

pub most_opaque : (max : ℕ) (bytes : List ℕ) → length bytes ≤ max → length (opaque_spell bytes) ≤ max + 7
unfolding opaque_spell
most_opaque max bytes le =
    let zeros : List ℕ = replicate (fill_len (length bytes)) 0 in
    omega (arith, le, fill_below (length bytes), wide32.len (length bytes), length-append (to_be_bytes w32 (length bytes)) (bytes ++ zeros), length-append bytes zeros, length-replicate {A = ℕ} (fill_len (length bytes)) 0)

pub most_handle : AtMost handle_form 71
most_handle h fits = most_opaque HANDLE_MOST h fits.1

pub most_time : AtMost time_form 8
unfolding time_form u32_form
most_time t fits = omega arith

pub most_attr : AtMost attr_form 84
unfolding attr_form kind_form time_form u32_form u64_form
most_attr a fits = omega arith

pub most_tagged : {A B : Type 0} (tag : B → A) (f : Format A) (g : A → Format B) (one : (a : A) (b : B) → f.Fits a → (g a).Fits b → tag b ≡ a) (m n : ℕ) → AtMost f m → ((a : A) → AtMost (g a) n) → AtMost (tagged tag f g one) (m + n)
most_tagged tag f g one m n p q b fits = omega (arith, p (tag b) fits.0, q (tag b) b fits.1, length-append (f.spell (tag b)) ((g (tag b)).spell b))

pub most_embedded : {A B : Type 0} (to : A → B) (spell : B → List ℕ) (f : Format A) (same : (a : A) → spell (to a) ≡ f.spell a) (n : ℕ) → AtMost f n → AtMost (embedded to spell f same) n
most_embedded to spell f same n p b fits = subst (λ b. length (spell b) ≤ n) fits.1 (omega (arith, p fits.0 fits.2, ap length (same fits.0)))

pub most_optional : {A : Type 0} (f : Format A) (n : ℕ) → AtMost f n → AtMost (optional f) (4 + n)
most_optional f n p None fits = omega (arith, bool_len false, length-append (bool_form.spell false) [])
most_optional f n p (Some a) fits = omega (arith, bool_len true, length-append (bool_form.spell true) (f.spell a), p a fits.1)

pub flat_most : {A : Type 0} (f : Format A) (n : ℕ) → AtMost f n → (xs : List A) → All f.Fits xs → length (flat_map f.spell xs) ≤ length xs * n
flat_most f n p [] fits = omega arith
flat_most f n p (x ∷ xs) fits =
    let later = flat_most f n p xs (All-tail f.Fits x xs fits) in
    omega (arith, later, p x (All-head f.Fits x xs fits), length-append (f.spell x) (flat_map f.spell xs))

pub status_len : (s : Status) → length (outcome_form.spell (Some s)) ≡ 4
unfolding outcome_form u32_form
status_len s = wide32.len (status_number s)

pub done_len : length (outcome_form.spell None) ≡ 4
unfolding outcome_form u32_form
done_len = refl

pub most_done : {T F : Type 0} (f : Format T) (g : Format F) (n : ℕ) (x : T) → length (f.spell x) ≤ n → length ((answer_form f g).spell (Done x)) ≤ 4 + n
most_done f g n x le = omega (arith, le, done_len, length-append (outcome_form.spell None) (f.spell x))

pub most_failed : {T F : Type 0} (f : Format T) (g : Format F) (n : ℕ) (s : Status) (x : F) → length (g.spell x) ≤ n → length ((answer_form f g).spell (Failed s x)) ≤ 4 + n
most_failed f g n s x le = omega (arith, le, status_len s, length-append (outcome_form.spell (Some s)) (g.spell x))

-- both forms of an answer
pub most_answer : {T F : Type 0} (f : Format T) (g : Format F) (n : ℕ) → AtMost f n → AtMost g n → AtMost (answer_form f g) (4 + n)
most_answer f g n p q (Done x) fits = most_done f g n x (p x fits)
most_answer f g n p q (Failed s x) fits = most_failed f g n s x (q x fits)
