-- Contents that are told in parts: how long they are, and their bytes.
use Rattle.std.specs.Prelude.{ℕ, zero, suc, ◌+◌, ◌*◌, ◌/◌, ◌%◌, ◌^◌, List, [], ◌∷◌, ◌++◌, length, replicate}
use Rattle.command_text.specs.declared.content.Part.{Part}
use Rattle.command_text.specs.declared.content.Part.TheVariants.{Bytes, Zeros, Marks, Random}

-- so many bytes that end in 0x78, with zero bytes before it
unfoldable pub mark : List ℕ
mark = replicate 2047 0 ++ 120 ∷ []

abbrev pub marks : ℕ → List ℕ
marks zero = []
marks (suc k) = mark ++ marks k

-- what the generator steps to from s
abbrev pub next_state : ℕ → ℕ
next_state s = (s * 6364136223846793005 + 1442695040888963407) % 2 ^ 64

-- so many bytes of the generator that stands at s: the high byte of each next state
abbrev pub random_bytes : ℕ → ℕ → List ℕ
random_bytes s zero = []
random_bytes s (suc n) = next_state s / 2 ^ 56 ∷ random_bytes (next_state s) n

abbrev pub part_length : Part → ℕ
part_length (Bytes bytes) = length bytes
part_length (Zeros n) = n
part_length (Marks k) = k * 2048
part_length (Random s n) = n

abbrev pub part_bytes : Part → List ℕ
part_bytes (Bytes bytes) = bytes
part_bytes (Zeros n) = replicate n 0
part_bytes (Marks k) = marks k
part_bytes (Random s n) = random_bytes s n

abbrev pub content_length : List Part → ℕ
content_length [] = 0
content_length (p ∷ ps) = part_length p + content_length ps

abbrev pub content_bytes : List Part → List ℕ
content_bytes [] = []
content_bytes (p ∷ ps) = part_bytes p ++ content_bytes ps
