use Rattle.std.proofs.Common.{arith}
use Rattle.tree_load.proofs.Tables.{nodes_back, names_back, contents_back}
use Rattle.tree_load.proofs.firsts.first_places.Goals as goal

pub records-preserved : goal.records-preserved
records-preserved c =
    let all = c.args.records.now in
    let place = c.records.place in
    let one = c.index-records-place.result in
    let held = c.records.invariant in
    record {
      within = omega (arith, held.within);
      nodes = nodes_back all place one c.records.firsts.nodes c.note.new.firsts.nodes c.records-test.true held.within c.index-records-place.is held.nodes c.in_ok-note.ensures.nodes;
      names = names_back all place one c.records.firsts.names c.note.new.firsts.names c.records-test.true held.within c.index-records-place.is held.names c.in_ok-note.ensures.names;
      contents = contents_back all place one c.records.firsts.contents c.note.new.firsts.contents c.records-test.true held.within c.index-records-place.is held.contents c.in_ok-note.ensures.contents;
    }
