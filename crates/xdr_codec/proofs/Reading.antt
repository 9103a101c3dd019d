-- What reading of bytes gives once the tests have passed.
use Rattle.std.proofs.Common.{◌≡◌, ℕ, ◌+◌, ◌≤◌, true, false, length, take, drop, Ok, Err, refl}
use Rattle.std.specs.List.{list_all}
use Rattle.std.proofs.lemmas.Bool.{le-ltb}
use Rattle.xdr_codec.specs.declared.fault.Fault.TheVariants.{BadFill}
use Rattle.xdr_codec.specs.Format.{Input}
use Rattle.xdr_codec.specs.Xdr.{bytes_form, fill_len, is_zero}

pub bytes_bad : (place n : ℕ) (i : Input) → n + fill_len n ≤ length i.rest → list_all is_zero (take (fill_len n) (drop n i.rest)) ≡ false → (bytes_form place n).read i ≡ Err (BadFill place)
unfolding bytes_form
bytes_bad place n i le e = rw (le-ltb _ _ le, e) refl

pub bytes_good : (place n : ℕ) (i : Input) → n + fill_len n ≤ length i.rest → list_all is_zero (take (fill_len n) (drop n i.rest)) ≡ true → (bytes_form place n).read i ≡ Ok (take n i.rest, record { at = i.at + (n + fill_len n); rest = drop (fill_len n) (drop n i.rest) })
unfolding bytes_form
bytes_good place n i le e = rw (le-ltb _ _ le, e) refl
