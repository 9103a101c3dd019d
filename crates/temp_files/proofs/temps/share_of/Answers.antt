use Rattle.std.proofs.Common.{◌≡◌, ℕ, List, Option, Some, ◌∙◌, sym, ap, subst, true}
use Rattle.std.specs.Prelude.{is_some}
use Rattle.std.specs.BTreeMap.{is_at}
use Rattle.std.specs.Map.{lookup}
use Rattle.std.specs.Ordering.{nat_cmp}
use Rattle.std.proofs.lemmas.Map.Steps.{set_value_same}
use Rattle.std.proofs.lemmas.Result.{IfOk-weaker}
use Rattle.temp_files.specs.Pieces.{all_bytes}
use Rattle.temp_files.specs.Temps.{Temp, temp_at, whole_of, assembled}
use Rattle.temp_files.proofs.lemmas.Joins.{whole_is}
use Rattle.temp_files.proofs.temps.share_of.Goals as goal

pub returns-clause-exact : goal.returns-clause-exact
returns-clause-exact c =
    let temps = c.args.temps.now.entries in
    let t = c.in-Some.temp.now in
    let at : temp_at temps c.args.session c.args.fd ≡ Some t = subst (λ (k : ℕ). lookup (is_at (nat_cmp k)) temps ≡ Some t) c.key_of.ensures (sym c.in-Some.ensures.value) in
    let whole : is_some (assembled t c.args.size) ≡ true = ap (λ (o : Option Temp). is_some (whole_of o c.args.size)) (sym at) ∙ c.requires in
    IfOk-weaker c.share.result (λ (bytes : List ℕ). bytes ≡ all_bytes t.pieces) (λ (bytes : List ℕ). Some bytes ≡ whole_of (temp_at temps c.args.session c.args.fd) c.args.size)
    (λ (bytes : List ℕ) is. ap (λ (b : List ℕ). Some b) is ∙ whole_is c.args.size t.pieces whole ∙ ap (λ (o : Option Temp). whole_of o c.args.size) (sym at)) c.share.ensures.bytes

pub returns-clause-same : goal.returns-clause-same
returns-clause-same c =
    let temps = c.args.temps.now.entries in
    let w = c.share.new.self in
    let at : lookup (is_at (nat_cmp c.key_of.result)) temps ≡ Some c.in-Some.temp.now = sym c.in-Some.ensures.value in
    (c.get_mut.follows.holds w).0 ∙ set_value_same (is_at (nat_cmp c.key_of.result)) temps w (at ∙ ap (λ (x : Temp). Some x) (sym c.share.ensures.same))
