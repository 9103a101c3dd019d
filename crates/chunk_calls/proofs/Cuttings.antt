-- A content that is held in pieces, cut piece by piece.
use Rattle.std.proofs.Common.{◌≡◌, refl, sym, ap, ◌∙◌, ℕ, ◌+◌, ◌<◌, ◌^◌, List, [], ◌++◌, length, Option, append_assoc, length-append, arith}
use Rattle.std.proofs.lemmas.List.{append-nil}
use Rattle.chunk_cut.specs.Chunks.{complete, rest, listed, chunks_of}
use Rattle.chunk_cut.specs.Cutting.{IsFed, fed}
use Rattle.chunk_cut.specs.Search.{closed_ends}
use Rattle.chunk_cut.specs.declared.chunk.Chunk.{Chunk}
use Rattle.chunk_cut.specs.declared.cutter.Cutter.{Cutter}

-- the cutter was fed bytes, whose chunks are these, and all are those and the ones that are left
abbrev pub IsCut : Cutter → List Chunk → (left all : List ℕ) → Type 0
IsCut cutter chunks left all = (content : List ℕ) × IsFed cutter content × (chunks ≡ complete content) × (content ++ left ≡ all)

pub cut_begins : (cutter : Cutter) (chunks : List Chunk) (all : List ℕ) → IsFed cutter [] → chunks ≡ [] → IsCut cutter chunks all all
unfolding closed_ends
cut_begins cutter chunks all is none = ([], is, none, refl)

-- there is room for the next piece
pub cut_fits : (cutter : Cutter) (chunks : List Chunk) (bytes left all : List ℕ) → IsCut cutter chunks (bytes ++ left) all → length all < 2 ^ 64 → fed cutter + length bytes < 2 ^ 64
cut_fits cutter chunks bytes left all cut lt =
    omega (arith, cut.1.under_way.size, ap length cut.3, length-append cut.0 (bytes ++ left), length-append bytes left, lt)

pub cut_more : (old new : Cutter) (chunks ended now : List Chunk) (bytes left all : List ℕ) → IsCut old chunks (bytes ++ left) all
    → ((content : List ℕ) → IsFed old content → complete (content ++ bytes) ≡ complete content ++ ended)
    → ((content : List ℕ) → IsFed old content → IsFed new (content ++ bytes))
    → now ≡ chunks ++ ended → IsCut new now left all
cut_more old new chunks ended now bytes left all cut told more is =
    (cut.0 ++ bytes, more cut.0 cut.1, is ∙ ap (λ (cs : List Chunk). cs ++ ended) cut.2 ∙ sym (told cut.0 cut.1), append_assoc cut.0 bytes left ∙ cut.3)

pub cut_ends : (cutter : Cutter) (chunks : List Chunk) (last : Option Chunk) (all : List ℕ) → IsCut cutter chunks [] all
    → ((content : List ℕ) → IsFed cutter content → last ≡ rest content) → chunks ++ listed last ≡ chunks_of all
cut_ends cutter chunks last all cut ends =
    ap (λ (cs : List Chunk). cs ++ listed last) cut.2 ∙ ap (λ (o : Option Chunk). complete cut.0 ++ listed o) (ends cut.0 cut.1)
    ∙ ap (λ (bytes : List ℕ). chunks_of bytes) (sym (append-nil cut.0) ∙ cut.3)
