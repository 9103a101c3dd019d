use Rattle.std.proofs.Common.{◌≡◌, ℕ, ◌+◌, List, ◌++◌, take}
use Rattle.rabin_window.specs.Fingerprint.{fp}
use Rattle.chunk_cut.specs.Cutting.{IsUnderWay}
use Rattle.chunk_cut.specs.Ends.{window_before}
use Rattle.chunk_cut.proofs.scan.roll_on.Given as goal

abbrev pub invariant-bytes : goal.invariant-bytes
invariant-bytes l = record {
  known : l.print ≡ fp (window_before l.piece l.i);
  under_way : (content : List ℕ) (s : ℕ) → IsUnderWay (content ++ take l.from l.piece) s (l.len + l.from) (window_before l.piece l.from) → IsUnderWay (content ++ take l.i l.piece) s (l.len + l.i) (window_before l.piece l.i);
}
