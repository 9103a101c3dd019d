use Rattle.std.proofs.Common.{◌∙◌, sym, ap, subst, ℕ, List}
use Rattle.std.specs.Prelude.{is_some}
use Rattle.temp_files.specs.Pieces.{Piece, StandApart, joined}
use Rattle.temp_files.proofs.Laying.{apart_rest, covers_rest}
use Rattle.temp_files.proofs.pieces.Pieces.cover.Goals as goal

pub cover-requires : goal.cover-requires
cover-requires c =
    let p = c.self.inside in
    rw c.len.ensures (apart_rest p.front p.lengths.items p.rest.entries c.self.invariant.0 c.self.invariant.1)

pub returns-clause-exact : goal.returns-clause-exact
returns-clause-exact c =
    let p = c.self.inside in
    c.cover.ensures
    ∙ ap (λ (k : ℕ). is_some (joined k c.args.size p.rest.entries)) c.len.ensures
    ∙ sym (covers_rest c.args.size p.front p.lengths.items p.rest.entries c.self.invariant.0)
    ∙ ap (λ (ps : List Piece). is_some (joined 0 c.args.size ps)) c.self.view_is

pub returns-clause-apart : goal.returns-clause-apart
returns-clause-apart c = subst (λ (ps : List Piece). StandApart 0 ps) c.self.view_is c.self.invariant.1
