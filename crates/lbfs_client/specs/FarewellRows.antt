-- A worked row: the record of a farewell. It is a reply (1) that was accepted (0), with no verifier (0, 0), and done (0).
use Rattle.std.specs.Prelude.{◌≡◌, [], ◌∷◌, refl}
use Rattle.std.specs.Int.{w32, to_be_bytes}
use Rattle.std.specs.List.{flat_map}
use Rattle.xdr_codec.specs.Xdr.{u32_form, opaque_spell}
use Rattle.rpc_record.specs.Header.{direction_form, front_form, auth_form, accept_form, reply_form}
use Rattle.wire.specs.Message.{message_spell}
use Rattle.lbfs_client.specs.Farewell.{farewell}

record_row : message_spell farewell ≡ flat_map (to_be_bytes w32) (0 ∷ 1 ∷ 0 ∷ 0 ∷ 0 ∷ 0 ∷ [])
unfolding front_form direction_form reply_form accept_form auth_form u32_form opaque_spell
record_row = refl
