use Rattle.std.proofs.Common.{◌≡◌, Some, ◌∙◌, sym, ap}
use Rattle.std.specs.Prelude.{is_some}
use Rattle.std.specs.Option.{option_copied}
use Rattle.std.proofs.lemmas.Result.{err_from_is_err_and}
use Rattle.chunk_index.specs.Index.{key_of, place_of}
use Rattle.temp_files.specs.Temps.{temp_at}
use Rattle.chunk_calls.specs.Writing.{bytes_known}
use Rattle.chunk_calls.proofs.Namings.{known_fits, named_unknown, named_known}
use Rattle.chunk_calls.proofs.writing.write_known.Goals as goal

pub put_known-requires : goal.put_known-requires
put_known-requires c =
    let a = c.args.piece.now in
    known_fits c.args.tree.now.tree a (temp_at c.args.temps.now c.args.session a.fd) (place_of c.args.index.now.pairs (key_of a.digest)) c.in-Some.bytes.now c.requires (sym c.look_up.ensures.known ∙ ap option_copied c.in-Some.is)

pub returns-in_err-put_known-in-Some-clause-takes : goal.returns-in_err-put_known-in-Some-clause-takes
returns-in_err-put_known-in-Some-clause-takes c =
    let a = c.args.piece.now in
    let known : bytes_known c.args.tree.now.tree a (place_of c.args.index.now.pairs (key_of a.digest)) ≡ Some c.in-Some.bytes.now = sym c.look_up.ensures.known ∙ ap option_copied c.in-Some.is in
    rw (err_from_is_err_and c.from_residual.result c.from_residual.ensures.1).1 (c.requires, ap is_some known)

pub returns-in_ok-put_known-in-Some-clause-ok : goal.returns-in_ok-put_known-in-Some-clause-ok
returns-in_ok-put_known-in-Some-clause-ok c =
    let a = c.args.piece.now in
    named_known c.args.tree.now.tree c.args.temps.now c.args.index.now a (temp_at c.args.temps.now c.args.session a.fd) c.in-Some.bytes.now c.look_up.new.index c.put_known.new.temps
    c.requires (sym c.look_up.ensures.known ∙ ap option_copied c.in-Some.is) c.look_up.ensures.order c.in_ok-put_known-in-Some.ensures.ok

pub returns-in-None-clause-ok : goal.returns-in-None-clause-ok
returns-in-None-clause-ok c =
    let a = c.args.piece.now in
    named_unknown c.args.tree.now.tree c.args.temps.now c.args.index.now a (temp_at c.args.temps.now c.args.session a.fd) c.look_up.new.index
    c.requires (sym c.look_up.ensures.known ∙ ap option_copied c.in-None.is) c.look_up.ensures.order
