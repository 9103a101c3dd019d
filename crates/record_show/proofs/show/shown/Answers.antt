use Rattle.std.proofs.Common.{rules, ◌≡◌, ◌++◌, List, ℕ, string_bytes, flat_map, subst, sym}
use Rattle.std.specs.Slice.Iter.{chunks_rest}
use Rattle.record_show.specs.Show.{record_text}
use Rattle.record_show.proofs.Pieces.{SoFar, so_far_more, spoilt_same}
use Rattle.record_show.proofs.show.shown.Goals as goal

pub loop-piece-preserved : goal.loop-piece-preserved
loop-piece-preserved c =
    let input = c.args.input.now in
    let piece = c.in-Some.piece.now in
    let left = chunks_rest c.next.new.self in
    let before = c.loop-piece.records in
    let after = c.feed.new.self in
    let text = string_bytes c.loop-piece.out in
    let given = c.in_ok-fed.fed in
    let written : string_bytes c.put_records.new.out ≡ text ++ flat_map record_text given.records = search rules in
    let lines : SoFar input before text (piece ++ left) = subst (SoFar input before text) c.in-Some.ensures.steps.1.0 c.loop-piece.invariant.lines in
    record {
      next = search rules;
      ends = tt;
      lines = subst (λ (t : List ℕ). SoFar input after t left) (sym written) (so_far_more input before text piece left after given lines c.in_ok-fed.ensures.ok);
      spoilt = spoilt_same before piece after given c.in_ok-fed.ensures.ok;
    }
