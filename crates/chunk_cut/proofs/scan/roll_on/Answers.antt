use Rattle.std.proofs.Common.{◌≡◌, ℕ, ◌+◌, ◌-◌, ◌%◌, ◌^◌, ◌<◌, ◌≤◌, ◌⊎◌, List, [], ◌∷◌, ◌++◌, ◌∙◌, length, get_or, sym, ap, subst, take, add_assoc, rules, arith}
use Rattle.std.specs.Prelude.{Bool, true, false, IsTrue}
use Rattle.rabin_window.specs.Fingerprint.{fp}
use Rattle.chunk_cut.specs.Cutting.{IsUnderWay}
use Rattle.chunk_cut.specs.Ends.{window_before}
use Rattle.chunk_cut.proofs.Scanned.{stepped, ended}
use Rattle.chunk_cut.proofs.Sliding.{kept_before, length-kept, parted, moved, slid}
use Rattle.chunk_cut.proofs.Windows.{IsEndAt, ends_there, goes_on}
use Rattle.chunk_cut.proofs.scan.roll_on.Goals as goal

-- the test that the code makes
abbrev IsEndHere : ℕ → ℕ → Type 0
IsEndHere print len = (print % 2 ^ 13 ≡ 0x78) ⊎ (len ≡ 65536)

clash : (b : Bool) → IsTrue b → b ≡ false → ⊥
clash true h e = cc
clash false h e = cc

behind : (from i : ℕ) → 48 ≤ from → from ≤ i → 48 ≤ i
behind from i h l = omega arith

enough : (len from i : ℕ) → 2048 ≤ len + from → from ≤ i → 2048 ≤ len + i + 1
enough len from i h l = omega arith

-- what the fingerprint becomes
rolled : (piece : List ℕ) (i before after : ℕ) → 48 ≤ i → i < length piece → before ≡ fp (window_before piece i)
    → ((w : List ℕ) → length w ≡ 47 → before ≡ fp (get_or piece (i - 48) 0 ∷ w) → after ≡ fp (w ++ get_or piece i 0 ∷ []))
    → after ≡ fp (window_before piece (i + 1))
rolled piece i before after h l is gives =
    gives (kept_before piece i) (length-kept piece i h (omega arith)) (is ∙ ap fp (parted piece i h (omega arith)))
    ∙ ap fp (sym (moved piece i h l))

pub roll-print-requires : goal.roll-print-requires
roll-print-requires c =
    let piece = c.args.piece.now in
    let h = behind c.args.from c.bytes.i c.requires.within.0 (search rules) in (
      kept_before piece c.bytes.i,
      length-kept piece c.bytes.i h (search rules),
      c.bytes.invariant.known ∙ ap fp (parted piece c.bytes.i h (search rules)),
    )

pub returns-then-ends_here-clause-end : goal.returns-then-ends_here-clause-end
returns-then-ends_here-clause-end c content s u =
    let piece = c.args.piece.now in
    let i = c.bytes.i in
    let h = behind c.args.from i c.requires.within.0 (search rules) in
    let p = stepped content piece s c.args.len i (window_before piece i) (window_before piece (i + 1)) (search rules) (slid piece i h (search rules)) (c.bytes.invariant.under_way content s u) in
    let print = rolled piece i c.bytes.print c.roll-print.result h (search rules) c.bytes.invariant.known c.roll-print.ensures in
    let least = enough c.args.len c.args.from i c.requires.least (search rules) in
    let test : IsEndHere c.roll-print.result (c.args.len + i + 1) = search rules in
    ends_there _ s _ _ p (least, subst (λ (n : ℕ). IsEndHere n (c.args.len + i + 1)) print test)

pub bytes-preserved : goal.bytes-preserved
bytes-preserved c =
    let piece = c.args.piece.now in
    let i = c.bytes.i in
    let h = behind c.args.from i c.requires.within.0 (search rules) in
    let print = rolled piece i c.bytes.print c.roll-print.result h (search rules) c.bytes.invariant.known c.roll-print.ensures in
    let test : IsEndAt (fp (window_before piece (i + 1))) (c.args.len + i + 1) → ⊥ = λ t. clash c.ends_here.result (c.ends_here.ensures.1 (subst (λ (n : ℕ). IsEndHere n (c.args.len + i + 1)) (sym print) t.1)) c.if-ends_here.false in
    record {
      known = print;
      under_way = λ content s u.
          let p = stepped content piece s c.args.len i (window_before piece i) (window_before piece (i + 1)) (search rules) (slid piece i h (search rules)) (c.bytes.invariant.under_way content s u) in
          subst (λ (n : ℕ). IsUnderWay (content ++ take (i + 1) piece) s n (window_before piece (i + 1))) (add_assoc c.args.len i 1) (goes_on _ s _ _ p test);
    }

pub returns-clause-end : goal.returns-clause-end
returns-clause-end c content s u =
    let piece = c.args.piece.now in
    let e : length piece ≡ c.bytes.i = search rules in
    subst (λ (n : ℕ). IsUnderWay (content ++ piece) s (c.args.len + length piece) (window_before piece n)) (sym e)
    (ended content piece s c.args.len c.bytes.i (window_before piece c.bytes.i) e (c.bytes.invariant.under_way content s u))
