use Rattle.std.proofs.Common.{◌≡◌, ◌∙◌, sym, ap, subst, List}
use Rattle.temp_files.specs.Laid.{laid}
use Rattle.temp_files.specs.Pieces.{Piece, StandApart, and_piece}
use Rattle.temp_files.proofs.Apart.{apart_still}
use Rattle.temp_files.proofs.Laying.{put_rest}
use Rattle.temp_files.proofs.pieces.Pieces.put.Goals as goal

pub invariant_of-self-2 : goal.invariant_of-self-2
invariant_of-self-2 c =
    let p = c.self.inside in
    let before = laid p.front p.lengths.items p.rest.entries in
    let fits = rw (← c.self.view_is) at c.requires in
    let put = put_rest p.front p.lengths.items p.rest.entries c.args.offset c.args.bytes c.self.invariant.0 c.self.invariant.1 fits in
    let is : laid c.gather.new.self c.gather.new.lengths.items c.gather.new.rest.entries ≡ and_piece before c.args.offset c.args.bytes
    = c.gather.ensures.same ∙ ap (λ (ps : List Piece). laid p.front p.lengths.items ps) c.in_ok-insert.ensures.entries ∙ put in
    (c.gather.ensures.lengths, subst (λ (ps : List Piece). StandApart 0 ps) (sym is) (apart_still before c.args.offset c.args.bytes c.self.invariant.1 fits))

pub returns-clause-ok : goal.returns-clause-ok
returns-clause-ok c =
    let p = c.self.inside in
    let fits = rw (← c.self.view_is) at c.requires in
    c.gather.ensures.same
    ∙ ap (λ (ps : List Piece). laid p.front p.lengths.items ps) c.in_ok-insert.ensures.entries
    ∙ put_rest p.front p.lengths.items p.rest.entries c.args.offset c.args.bytes c.self.invariant.0 c.self.invariant.1 fits
    ∙ ap (λ (ps : List Piece). and_piece ps c.args.offset c.args.bytes) c.self.view_is
