use Rattle.std.proofs.Common.{rules, arith, drop, ◌≡◌, true}
use Rattle.std.specs.Prelude.{eqb}
use Rattle.std.specs.List.{starts_with}
use Rattle.std.specs.Int.{w64, from_be_bytes}
use Rattle.xdr_codec.specs.Handle.{handle_mark}
use Rattle.xdr_codec.proofs.Handles.{own_form}
use Rattle.xdr_codec.proofs.handle.own_file.Goals as goal

pub returns-clause-some : goal.returns-clause-some
returns-clause-some c =
    let starts : starts_with eqb c.args.bytes.now handle_mark ≡ true = search rules in
    let id : c.from_be_bytes.result ≡ from_be_bytes w64 (drop 8 c.args.bytes.now) = search rules in
    rw id (own_form c.args.bytes.now (λ i. omega (arith, c.type_inv.bytes i)) (omega arith) starts)
