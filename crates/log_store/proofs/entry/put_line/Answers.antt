use Rattle.log_store.proofs.Steps.{on_ok}
use Rattle.log_store.proofs.Coding.{put_behind}
use Rattle.log_store.proofs.entry.put_line.Goals as goal

pub returns-in_ok-put_front-in-Put : goal.returns-in_ok-put_front-in-Put
returns-in_ok-put_front-in-Put c = on_ok c.put_parts.result
    (λ more. put_behind c.args.out.now.items c.put_front.new.out.items c.put_parts.new.out.items c.args.edit.now.which c.args.edit.now.what c.in-Put.parts c.count_of.result c.in-Put.is c.count_of.ensures c.in_ok-put_front-in-Put.ensures more) c.put_parts.ensures
