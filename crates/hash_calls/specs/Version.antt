-- What differs between the versions of LBFS, of which each has all that those before it have.
use Rattle.std.specs.Prelude.{◌≡◌, ◌↔◌, ℕ, Bool, true, false, List, [], Option, Some, None, nat_lt, if◌then◌else◌, refl}
use Rattle.std.proofs.Common.{subst}
use Rattle.xdr_codec.specs.Format.{Format}
use Rattle.xdr_codec.specs.Compose.{embedded, nothing, in_words}
use Rattle.xdr_codec.specs.Xdr.{u64_form}

-- from version 3 on chunks are named by digests of SHA-256, before by those of SHA-1 (FIPS 180-4)
abbrev pub digest_length : (lbfs : ℕ) → ℕ
digest_length lbfs = if nat_lt lbfs 3 then 20 else 32

-- from version 2 on a COMMITTMP names the version of the file that it is to replace
abbrev pub has_base : (lbfs : ℕ) → Bool
has_base lbfs = if nat_lt lbfs 2 then false else true

-- ---- that version, which is there or isn't: no byte says whether

abbrev pub IsBased : Bool → Option ℕ → Type 0
IsBased true (Some n) = Unit {0}
IsBased true None = ⊥
IsBased false (Some n) = ⊥
IsBased false None = Unit {0}

abbrev pub base_spell : Option ℕ → List ℕ
base_spell None = []
base_spell (Some n) = u64_form.spell n

abbrev pub base_parts : Bool → Format (Option ℕ)
base_parts true = embedded Some base_spell u64_form (λ _. refl)
base_parts false = embedded (λ u. None) base_spell (nothing (tt {0})) (λ _. refl)

abbrev pub BaseFits : Bool → Option ℕ → Type 0
BaseFits true (Some n) = u64_form.Fits n
BaseFits true None = ⊥
BaseFits false (Some n) = ⊥
BaseFits false None = Unit {0}

pub base_same : (b : Bool) (o : Option ℕ) → (base_parts b).spell o ≡ base_spell o
base_same true o = refl
base_same false o = refl

pub base_iff : (b : Bool) (o : Option ℕ) → (base_parts b).Fits o ↔ BaseFits b o
base_iff true o = (λ h. subst (BaseFits true) h.1 h.2, λ h. fits o h)
  where
    fits : (o : Option ℕ) → BaseFits true o → (base_parts true).Fits o
    fits (Some n) h = (n, refl, h)
    fits None h = absurd h
base_iff false o = (λ h. subst (BaseFits false) h.1 tt, λ h. fits o h)
  where
    fits : (o : Option ℕ) → BaseFits false o → (base_parts false).Fits o
    fits None h = (tt, refl, refl)
    fits (Some n) h = absurd h

abbrev pub base_form : Bool → Format (Option ℕ)
base_form b = in_words base_spell (BaseFits b) (base_parts b) (base_same b) (base_iff b)
