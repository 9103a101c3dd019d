use Rattle.std.proofs.Common.{arith, inl, inr}
use Rattle.std.proofs.lemmas.Option.{slice_get_within}
use Rattle.std.proofs.lemmas.Result.{err_from_is_err_and}
use Rattle.clock_rule.proofs.Least.{fault_first}
use Rattle.clock_rule.proofs.Windows.{with_window, with_note, read_there, read_is}
use Rattle.clock_rule.proofs.clocks.note_in.Goals as goal

pub returns-in_err-at-clause-fault : goal.returns-in_err-at-clause-fault
returns-in_err-at-clause-fault c =
    let p = err_from_is_err_and c.from_residual.result c.from_residual.ensures.1 in
    rw (p.1, p.2) (fault_first c.args.term c.args.drift c.args.notes.now.items c.args.later (c.requires.kept.rest c.args.later.client c.in_err-at.ensures.none))

pub index_mut-requires : goal.index_mut-requires
index_mut-requires c =
    let is = c.in_ok-at.ensures.found in
    omega (arith, slice_get_within c.window_of.new.windows.items c.in_ok-at.at is.0 is.1, c.window_of.new.windows.ok.0)

pub note-requires-clause-fits : goal.note-requires-clause-fits
note-requires-clause-fits c =
    let kept = with_window c.args.term c.args.notes.now.items c.args.windows.now.items c.window_of.new.windows.items c.args.later.client c.requires.kept c.in_ok-at.ensures.more in
    kept.fit c.in_ok-at.at c.index_mut.result.now (read_is c.window_of.new.windows.items c.in_ok-at.at c.index_mut.result.now c.args.later.client c.in_ok-at.ensures.found c.index_mut.ensures.value)

pub note-requires-clause-client : goal.note-requires-clause-client
note-requires-clause-client c =
    let found = c.in_ok-at.ensures.found in
    read_there c.window_of.new.windows.items c.in_ok-at.at c.index_mut.result.now c.args.later.client found
    (read_is c.window_of.new.windows.items c.in_ok-at.at c.index_mut.result.now c.args.later.client found c.index_mut.ensures.value)

pub returns-in_err-note-clause-kept : goal.returns-in_err-note-clause-kept
returns-in_err-note-clause-kept c =
    let found = c.in_ok-at.ensures.found in
    let kept = with_window c.args.term c.args.notes.now.items c.args.windows.now.items c.window_of.new.windows.items c.args.later.client c.requires.kept c.in_ok-at.ensures.more in
    let there = read_is c.window_of.new.windows.items c.in_ok-at.at c.index_mut.result.now c.args.later.client found c.index_mut.ensures.value in
    with_note c.args.term c.args.notes.now.items c.note.new.notes.items c.window_of.new.windows.items c.in_ok-at.at c.index_mut.result.now c.note.new.window c.args.later kept there
    (read_there c.window_of.new.windows.items c.in_ok-at.at c.index_mut.result.now c.args.later.client found there) c.note.ensures.client c.note.ensures.fits (inl c.in_err-note.ensures.err)

pub returns-clause-kept : goal.returns-clause-kept
returns-clause-kept c =
    let found = c.in_ok-at.ensures.found in
    let kept = with_window c.args.term c.args.notes.now.items c.args.windows.now.items c.window_of.new.windows.items c.args.later.client c.requires.kept c.in_ok-at.ensures.more in
    let there = read_is c.window_of.new.windows.items c.in_ok-at.at c.index_mut.result.now c.args.later.client found c.index_mut.ensures.value in
    with_note c.args.term c.args.notes.now.items c.note.new.notes.items c.window_of.new.windows.items c.in_ok-at.at c.index_mut.result.now c.note.new.window c.args.later kept there
    (read_there c.window_of.new.windows.items c.in_ok-at.at c.index_mut.result.now c.args.later.client found there) c.note.ensures.client c.note.ensures.fits (inr c.in_ok-note.ensures.ok)
