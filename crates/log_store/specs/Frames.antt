-- The frames of the log's file. Numbers have their highest byte first.
use Rattle.std.specs.Prelude.{ℕ, List, ◌++◌, length}
use Rattle.std.specs.Int.{w64, to_be_bytes}
use Rattle.sha1.specs.Sha1.{sha1}

-- a number, and the payload's length
abbrev pub front : ℕ → List ℕ → List ℕ
front number payload = to_be_bytes w64 number ++ to_be_bytes w64 (length payload)

abbrev pub frame : ℕ → List ℕ → List ℕ
frame number payload = front number payload ++ (sha1 (front number payload ++ payload) ++ payload)
