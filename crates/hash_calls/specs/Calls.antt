-- The arguments and the answer of each call. What a call asks for also says of which version of LBFS the call is, which stands in its header.
use Rattle.std.specs.Prelude.{◌≡◌, ℕ, length, refl}
use Rattle.limits.specs.declared.TheConstants.{PAIRS_MOST, PIECE_MOST}
use Rattle.xdr_codec.specs.declared.reader.TheConstants.{NO_MAXIMUM}
use Rattle.xdr_codec.specs.Format.{Format}
use Rattle.xdr_codec.specs.Compose.{◌⋆◌, mapped, versioned}
use Rattle.xdr_codec.specs.Xdr.{u32_form, u64_form, bool_form, opaque_form, fixed_form}
use Rattle.xdr_codec.specs.Attr.{attr_form, kind_form}
use Rattle.xdr_codec.specs.Choice.{optional}
use Rattle.xdr_codec.specs.Repeat.{counted}
use Rattle.xdr_codec.specs.Handle.{handle_form}
use Rattle.hash_calls.specs.Version.{digest_length, has_base, base_form}
use Rattle.hash_calls.specs.declared.call.LeaseOn.{LeaseOn}
use Rattle.hash_calls.specs.declared.call.Leased.{Leased}
use Rattle.hash_calls.specs.declared.call.HashRange.{HashRange}
use Rattle.hash_calls.specs.declared.call.Pair.{Pair}
use Rattle.hash_calls.specs.declared.call.Hashes.{Hashes}
use Rattle.hash_calls.specs.declared.call.NewTemp.{NewTemp}
use Rattle.hash_calls.specs.declared.call.TempPiece.{TempPiece}
use Rattle.hash_calls.specs.declared.call.CondPiece.{CondPiece}
use Rattle.hash_calls.specs.declared.call.Commit.{Commit}
use Rattle.hash_calls.specs.declared.call.Committed.{Committed}
use Rattle.hash_calls.specs.declared.call.LookOn.{LookOn}
use Rattle.hash_calls.specs.declared.call.Entry.{Entry}
use Rattle.hash_calls.specs.declared.call.Looked.{Looked}

-- GETLEASE: what it asks for, and what it gave
unfoldable pub lease_on_form : (lbfs : ℕ) → Format LeaseOn
lease_on_form lbfs = versioned (λ v h. record { lbfs = v; handle = h }) (λ l. l.lbfs) (λ l. l.handle) (λ _ _. refl) (λ _ _. refl) (λ _. refl) handle_form lbfs

unfoldable pub leased_form : Format Leased
leased_form = mapped (λ (a, (v, t)). record { attr = a; version = v; term = t }) (λ l. (l.attr, (l.version, l.term))) (λ _. refl) (λ _. refl)
    (attr_form ⋆ u64_form ⋆ u32_form)

-- GETHASH: what it asks for, and what it gave
unfoldable pub range_form : (lbfs : ℕ) → Format HashRange
range_form lbfs = versioned (λ v x. record { lbfs = v; handle = x.0; offset = x.1.0; count = x.1.1 }) (λ r. r.lbfs) (λ r. (r.handle, (r.offset, r.count))) (λ _ _. refl) (λ _ _. refl) (λ _. refl)
    (handle_form ⋆ u64_form ⋆ u32_form) lbfs

-- a chunk is named as that version does it
abbrev pub IsNamedIn : (lbfs : ℕ) → Pair → Type 0
IsNamedIn lbfs p = length p.digest ≡ digest_length lbfs

unfoldable pub pair_form : (lbfs : ℕ) → Format Pair
pair_form lbfs = mapped (λ (d, s). record { digest = d; size = s }) (λ p. (p.digest, p.size)) (λ _. refl) (λ _. refl) (fixed_form (digest_length lbfs) ⋆ u32_form)

unfoldable pub hashes_form : (lbfs : ℕ) → Format Hashes
hashes_form lbfs = mapped (λ (v, (t, (s, (ps, e)))). record { version = v; term = t; size = s; pairs = ps; eof = e }) (λ h. (h.version, (h.term, (h.size, (h.pairs, h.eof))))) (λ _. refl) (λ _. refl)
    (u64_form ⋆ u32_form ⋆ u64_form ⋆ counted PAIRS_MOST (pair_form lbfs) ⋆ bool_form)

-- MKTMPFILE: what it asks for
unfoldable pub new_temp_form : (lbfs : ℕ) → Format NewTemp
new_temp_form lbfs = versioned (λ v x. record { lbfs = v; fd = x.0; handle = x.1 }) (λ n. n.lbfs) (λ n. (n.fd, n.handle)) (λ _ _. refl) (λ _ _. refl) (λ _. refl) (u32_form ⋆ handle_form) lbfs

-- TMPWRITE: what it asks for
unfoldable pub temp_piece_form : (lbfs : ℕ) → Format TempPiece
temp_piece_form lbfs = versioned (λ v x. record { lbfs = v; fd = x.0; offset = x.1.0; bytes = x.1.1 }) (λ p. p.lbfs) (λ p. (p.fd, (p.offset, p.bytes))) (λ _ _. refl) (λ _ _. refl) (λ _. refl)
    (u32_form ⋆ u64_form ⋆ opaque_form PIECE_MOST) lbfs

-- CONDWRITE: what it asks for
unfoldable pub cond_piece_form : (lbfs : ℕ) → Format CondPiece
cond_piece_form lbfs = versioned (λ v x. record { lbfs = v; fd = x.0; offset = x.1.0; count = x.1.1.0; digest = x.1.1.1 }) (λ p. p.lbfs) (λ p. (p.fd, (p.offset, (p.count, p.digest)))) (λ _ _. refl) (λ _ _. refl) (λ _. refl)
    (u32_form ⋆ u64_form ⋆ u32_form ⋆ fixed_form (digest_length lbfs)) lbfs

-- COMMITTMP: what it asks for, and what it gave
unfoldable pub commit_form : (lbfs : ℕ) → Format Commit
commit_form lbfs = versioned (λ v x. record { lbfs = v; fd = x.0; handle = x.1.0; size = x.1.1.0; base = x.1.1.1 }) (λ c. c.lbfs) (λ c. (c.fd, (c.handle, (c.size, c.base)))) (λ _ _. refl) (λ _ _. refl) (λ _. refl)
    (u32_form ⋆ handle_form ⋆ u64_form ⋆ base_form (has_base lbfs)) lbfs

unfoldable pub committed_form : Format Committed
committed_form = mapped (λ (v, t). record { version = v; term = t }) (λ c. (c.version, c.term)) (λ _. refl) (λ _. refl) (u64_form ⋆ u32_form)

-- LOOKLEASE, from version 4 on: what it asks for, and what it gave
unfoldable pub look_on_form : (lbfs : ℕ) → Format LookOn
look_on_form lbfs = versioned (λ v x. record { lbfs = v; dir = x.0; name = x.1 }) (λ l. l.lbfs) (λ l. (l.dir, l.name)) (λ _ _. refl) (λ _ _. refl) (λ _. refl) (handle_form ⋆ opaque_form NO_MAXIMUM) lbfs

unfoldable pub entry_form : Format Entry
entry_form = mapped (λ (h, k). record { handle = h; kind = k }) (λ e. (e.handle, e.kind)) (λ _. refl) (λ _. refl) (handle_form ⋆ kind_form)

unfoldable pub looked_form : Format Looked
looked_form = mapped (λ (v, (t, e)). record { version = v; term = t; entry = e }) (λ l. (l.version, (l.term, l.entry))) (λ _. refl) (λ _. refl) (u64_form ⋆ u32_form ⋆ optional entry_form)
