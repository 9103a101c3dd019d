-- Forms that a number chooses (RFC 1813, sections 2.6 and 3.3.8), and the attributes to set.
use Rattle.std.specs.Prelude.{◌≡◌, ℕ, zero, suc, List, [], Bool, true, false, refl}
use Rattle.std.proofs.Common.{ap, sym}
use Rattle.xdr_codec.specs.Format.{Format}
use Rattle.xdr_codec.specs.Compose.{◌⋆◌, mapped, tagged, embedded, nothing}
use Rattle.xdr_codec.specs.Xdr.{u32_form, u64_form}
use Rattle.xdr_codec.specs.Choice.{optional, known_form}
use Rattle.xdr_codec.specs.Attr.{time_form}
use Rattle.nfs3_calls.specs.declared.making.SetTime.{SetTime}
use Rattle.nfs3_calls.specs.declared.making.SetTime.TheVariants.{Keep, Server, Client}
use Rattle.nfs3_calls.specs.declared.making.SetAttr.{SetAttr}
use Rattle.nfs3_calls.specs.declared.making.HowMade.{HowMade}
use Rattle.nfs3_calls.specs.declared.making.HowMade.TheVariants.{Unchecked, Guarded, Exclusive}

-- one of three numbers
abbrev pub is_below_three : ℕ → Bool
is_below_three zero = true
is_below_three (suc zero) = true
is_below_three (suc (suc zero)) = true
is_below_three (suc (suc (suc n))) = false

-- ---- time_how, and set_atime and set_mtime (RFC 1813, section 2.6)

abbrev pub time_how : SetTime → ℕ
time_how Keep = 0
time_how Server = 1
time_how (Client t) = 2

abbrev pub set_time_spell : SetTime → List ℕ
set_time_spell Keep = []
set_time_spell Server = []
set_time_spell (Client t) = time_form.spell t

abbrev pub set_time_forms : ℕ → Format SetTime
set_time_forms zero = nothing Keep
set_time_forms (suc zero) = nothing Server
set_time_forms (suc (suc n)) = embedded Client set_time_spell time_form (λ _. refl)

pub set_time_one : (n : ℕ) (t : SetTime) → (known_form is_below_three).Fits n → (set_time_forms n).Fits t → time_how t ≡ n
set_time_one zero t known fits = ap time_how fits
set_time_one (suc zero) t known fits = ap time_how fits
set_time_one (suc (suc zero)) t known fits = ap time_how (sym fits.1)
set_time_one (suc (suc (suc n))) t known fits = let no = known.1 in absurd cc

unfoldable pub set_time_form : Format SetTime
set_time_form = tagged time_how (known_form is_below_three) set_time_forms set_time_one

-- ---- sattr3 (RFC 1813, section 2.6)

unfoldable pub set_attr_form : Format SetAttr
set_attr_form = mapped (λ (m, (u, (g, (s, (a, c))))). record { mode = m; uid = u; gid = g; size = s; atime = a; mtime = c }) (λ a. (a.mode, (a.uid, (a.gid, (a.size, (a.atime, a.mtime)))))) (λ _. refl) (λ _. refl)
    (optional u32_form ⋆ optional u32_form ⋆ optional u32_form ⋆ optional u64_form ⋆ set_time_form ⋆ set_time_form)

-- ---- createmode3, and createhow3 (RFC 1813, section 3.3.8)

abbrev pub create_mode : HowMade → ℕ
create_mode (Unchecked a) = 0
create_mode (Guarded a) = 1
create_mode (Exclusive v) = 2

abbrev pub how_made_spell : HowMade → List ℕ
how_made_spell (Unchecked a) = set_attr_form.spell a
how_made_spell (Guarded a) = set_attr_form.spell a
how_made_spell (Exclusive v) = u64_form.spell v

abbrev pub how_made_forms : ℕ → Format HowMade
how_made_forms zero = embedded Unchecked how_made_spell set_attr_form (λ _. refl)
how_made_forms (suc zero) = embedded Guarded how_made_spell set_attr_form (λ _. refl)
how_made_forms (suc (suc n)) = embedded Exclusive how_made_spell u64_form (λ _. refl)

pub how_made_one : (n : ℕ) (h : HowMade) → (known_form is_below_three).Fits n → (how_made_forms n).Fits h → create_mode h ≡ n
how_made_one zero h known fits = ap create_mode (sym fits.1)
how_made_one (suc zero) h known fits = ap create_mode (sym fits.1)
how_made_one (suc (suc zero)) h known fits = ap create_mode (sym fits.1)
how_made_one (suc (suc (suc n))) h known fits = let no = known.1 in absurd cc

unfoldable pub how_made_form : Format HowMade
how_made_form = tagged create_mode (known_form is_below_three) how_made_forms how_made_one
