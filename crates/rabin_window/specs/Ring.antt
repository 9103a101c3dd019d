-- How a window keeps its bytes.
use Rattle.std.specs.Prelude.{◌≡◌, ℕ, ◌<◌, List, ◌++◌, take, drop}
use Rattle.rabin_window.specs.Fingerprint.{fp}

-- the ring's bytes from the oldest on have this fingerprint
pub record IsRing (ring : List ℕ) (oldest print : ℕ) : Type 0 where
  pub within : oldest < 48
  pub known : print ≡ fp (drop oldest ring ++ take oldest ring)
