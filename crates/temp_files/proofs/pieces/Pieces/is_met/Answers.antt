use Rattle.std.proofs.Common.{◌∙◌, sym, ap, List, arith}
use Rattle.std.specs.List.{list_any}
use Rattle.temp_files.specs.Pieces.{Piece, overlaps}
use Rattle.temp_files.proofs.Laying.{apart_from, apart_rest, met_front, met_rest}
use Rattle.temp_files.proofs.pieces.Pieces.is_met.Goals as goal

pub is_met-requires : goal.is_met-requires
is_met-requires c =
    let p = c.self.inside in
    apart_from 0 _ p.rest.entries (omega arith) (apart_rest p.front p.lengths.items p.rest.entries c.self.invariant.0 c.self.invariant.1)

pub returns-then-start-len : goal.returns-then-start-len
returns-then-start-len c =
    let p = c.self.inside in
    sym (met_front p.front p.lengths.items p.rest.entries c.args.start c.args.end c.self.invariant.0 (omega (arith, c.if-start-len.true, c.len.ensures)) c.requires)
    ∙ ap (λ (ps : List Piece). list_any (overlaps c.args.start c.args.end) ps) c.self.view_is

pub returns : goal.returns
returns c =
    let p = c.self.inside in
    c.is_met.ensures
    ∙ sym (met_rest p.front p.lengths.items p.rest.entries c.args.start c.args.end c.self.invariant.0 (omega (arith, c.if-start-len.false, c.len.ensures)))
    ∙ ap (λ (ps : List Piece). list_any (overlaps c.args.start c.args.end) ps) c.self.view_is
