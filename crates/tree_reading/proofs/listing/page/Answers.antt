use Rattle.std.proofs.Common.{rules, ◌∙◌}
use Rattle.tree_reading.proofs.Pages.{page_stop, page_more, page_some, on_err}
use Rattle.tree_reading.proofs.listing.page.Goals as goal

pub returns-then-left-size-clause-page : goal.returns-then-left-size-clause-page
returns-then-left-size-clause-page c =
    c.from_vec-then-left-size.ensures ∙ page_stop c.args.nodes.now.nodes c.entries.at c.args.end c.entries.left c.entries.cookie c.entry_size-size.result c.in-Some.node.now c.entries.entries.items _ (search rules) (search rules) (search rules) (search rules) c.entries.invariant.rest

pub returns-in_err-name-clause-takes : goal.returns-in_err-name-clause-takes
returns-in_err-name-clause-takes c =
    on_err c.from_residual.result (page_some c.args.nodes.now.nodes c.entries.at c.args.end c.entries.left c.entries.cookie c.entry_size-size.result c.in-Some.node.now c.entries.entries.items _ (search rules) (search rules) (search rules) (search rules) c.entries.invariant.rest)

pub returns-in_err-push-clause-takes : goal.returns-in_err-push-clause-takes
returns-in_err-push-clause-takes c =
    on_err c.from_residual-in_err-push.result (page_some c.args.nodes.now.nodes c.entries.at c.args.end c.entries.left c.entries.cookie c.entry_size-size.result c.in-Some.node.now c.entries.entries.items _ (search rules) (search rules) (search rules) (search rules) c.entries.invariant.rest)

pub entries-preserved : goal.entries-preserved
entries-preserved c = record {
  within = search rules;
  cookies = search rules;
  rest = page_more c.args.nodes.now.nodes c.entries.at c.args.end c.entries.left c.entries.cookie c.entry_size-size.result c.in-Some.node.now c.entries.entries.items c.push.new.self.items _ (search rules) (search rules) (search rules) (search rules) (search rules) c.entries.invariant.rest;
}
