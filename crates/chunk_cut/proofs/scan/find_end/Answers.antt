use Rattle.std.proofs.Common.{◌≡◌, ℕ, ◌+◌, List, ◌++◌, ◌∙◌, length, sym, subst, take, add_assoc, rules}
use Rattle.std.specs.Prelude.{Bool, true, false, IsTrue}
use Rattle.rabin_window.specs.Fingerprint.{fp}
use Rattle.chunk_cut.specs.Cutting.{IsUnderWay}
use Rattle.chunk_cut.proofs.Scanned.{begun, stepped, ended}
use Rattle.chunk_cut.proofs.Sliding.{handed, last_bytes}
use Rattle.chunk_cut.proofs.Windows.{IsEndAt, ends_there, goes_on}
use Rattle.chunk_cut.proofs.scan.find_end.Goals as goal

clash : (b : Bool) → IsTrue b → b ≡ false → ⊥
clash true h e = cc
clash false h e = cc

pub bytes-init : goal.bytes-init
bytes-init c content s u =
    begun content c.args.piece.now s c.args.len c.unwatched-skipped.result c.args.window.now c.unwatched-skipped.ensures.within c.unwatched-skipped.ensures.before u

pub returns-then-is_end-clause-end : goal.returns-then-is_end-clause-end
returns-then-is_end-clause-end c content s u =
    let p = stepped content c.args.piece.now s c.args.len c.bytes.i c.bytes.window c.push.new.self (search rules) c.push.ensures (c.bytes.invariant content s u) in
    let test : IsEndAt (fp c.push.new.self) (c.args.len + c.bytes.i + 1) = subst (λ (n : ℕ). IsEndAt n (c.args.len + c.bytes.i + 1)) c.value.ensures (search rules) in
    (p.full, ends_there _ s _ _ p test)

pub bytes-preserved : goal.bytes-preserved
bytes-preserved c content s u =
    let p = stepped content c.args.piece.now s c.args.len c.bytes.i c.bytes.window c.push.new.self (search rules) c.push.ensures (c.bytes.invariant content s u) in
    let test : IsEndAt (fp c.push.new.self) (c.args.len + c.bytes.i + 1) → ⊥ = λ t. clash c.is_end.result (c.is_end.ensures.1 (subst (λ (n : ℕ). IsEndAt n (c.args.len + c.bytes.i + 1)) (sym c.value.ensures) t)) c.if-is_end.false in
    subst (λ (n : ℕ). IsUnderWay (content ++ take (c.bytes.i + 1) c.args.piece.now) s n c.push.new.self) (add_assoc c.args.len c.bytes.i 1) (goes_on _ s _ _ p test)

pub returns-then-filled-piece-clause-end : goal.returns-then-filled-piece-clause-end
returns-then-filled-piece-clause-end c content s u =
    ended content c.args.piece.now s c.args.len c.bytes.i c.bytes.window (search rules) (c.bytes.invariant content s u)

pub returns-in-Some-clause-end : goal.returns-in-Some-clause-end
returns-in-Some-clause-end c content s u =
    let under = c.bytes.invariant content s u in
    (under.full, c.in-Some.ensures.end content s (handed content c.args.piece.now s c.args.len c.bytes.i (c.unwatched-skipped.result + c.min.result) c.bytes.window (search rules) (search rules) (search rules) (search rules) under))

pub returns-in-None-clause-end : goal.returns-in-None-clause-end
returns-in-None-clause-end c content s u =
    let under = c.bytes.invariant content s u in
    subst (λ (ws : List ℕ). IsUnderWay (content ++ c.args.piece.now) s (c.args.len + length c.args.piece.now) ws) (sym (c.of.ensures ∙ last_bytes c.args.piece.now (search rules)))
    (c.in-None.ensures.end content s (handed content c.args.piece.now s c.args.len c.bytes.i (c.unwatched-skipped.result + c.min.result) c.bytes.window (search rules) (search rules) (search rules) (search rules) under))
