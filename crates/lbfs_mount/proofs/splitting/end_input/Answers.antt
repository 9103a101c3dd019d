use Rattle.std.proofs.Common.{rules, ◌≡◌, ℕ, List, [], ◌∷◌, ◌++◌, ◌<◌, length, ap, ◌∙◌}
use Rattle.lbfs_mount.proofs.Lines.{ends_in}
use Rattle.lbfs_mount.proofs.splitting.end_input.Goals as goal

pub returns-clause-ok : goal.returns-clause-ok
returns-clause-ok c =
    let some : 0 < length c.args.rest.now.items = search rules in
    let line : c.from_vec.result ≡ c.args.rest.now.items = search rules in
    let lines : c.push_back.new.self.items ≡ c.args.lines.now.items ++ c.args.rest.now.items ∷ [] = c.in_ok-push_back.ensures.items ∙ ap (λ (l : List ℕ). c.args.lines.now.items ++ l ∷ []) line in
    (ends_in c.args.lines.now.items c.push_back.new.self.items c.args.rest.now.items c.requires some lines, search rules)
