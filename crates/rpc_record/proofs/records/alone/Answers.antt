use Rattle.std.proofs.Common.{◌∷◌, ◌++◌, [], length, drop, ap, ◌∙◌, arith}
use Rattle.rpc_record.proofs.Reaching.{reach_start}
use Rattle.rpc_record.proofs.Alone.{alone_taken}
use Rattle.rpc_record.proofs.records.alone.Goals as goal

pub behind-requires : goal.behind-requires
behind-requires c = omega (arith, c.requires.0, ap length c.from_vec-held.ensures, ap (λ v. length v.items) c.replace.ensures.value)

pub returns-clause-ok : goal.returns-clause-ok
returns-clause-ok c = record {
  parts = alone_taken _ c.behind.result _ _ c.requires (c.behind.ensures ∙ ap (drop 4) (c.from_vec-held.ensures ∙ ap (λ v. v.items) c.replace.ensures.value)) (c.push_reserved.ensures.items ∙ ap (λ rs. rs ++ c.behind.result ∷ []) c.in_ok-records.ensures.items) (ap (λ v. v.items) c.replace.ensures.after ∙ c.new.ensures.items);
  known = reach_start _;
}
