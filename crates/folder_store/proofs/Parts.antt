-- A content whose version is read apart is the one that the file's bytes say.
use Rattle.std.proofs.Common.{◌≡◌, ℕ, ◌+◌, Bool, false, nat_lt, if◌then◌else◌, List, ◌++◌, Option, Some, None, IfSome, sym, ◌∙◌, ap, length, take, drop, length-append, arith}
use Rattle.std.proofs.lemmas.Bool.Decides.{nat_tests}
use Rattle.std.proofs.lemmas.List.{take_at, drop_at}
use Rattle.std.specs.Io.KnownBytes.{Consumes}
use Rattle.std.specs.Int.{w64, from_be_bytes}
use Rattle.store.specs.declared.record.ContentRecord.{ContentRecord}
use Rattle.folder_store.specs.Folder.{content_in}

abbrev content : ℕ → ℕ → List ℕ → ContentRecord
content id version bytes = record { id = id; version = version; bytes = bytes }

content_at : (id : ℕ) (front rest : List ℕ) → length front ≡ 8 → content_in id (front ++ rest) ≡ Some (content id (from_be_bytes w64 front) rest)
content_at id front rest eight =
    let whole : length (front ++ rest) ≡ length front + length rest = length-append front rest in
    let long : nat_lt (length (front ++ rest)) 8 ≡ false = grind (arith, nat_tests, whole, eight) in
    ap (λ (t : Bool). if t then None else Some (content id (from_be_bytes w64 (take 8 (front ++ rest))) (drop 8 (front ++ rest)))) long
    ∙ ap (λ (l : List ℕ). Some (content id (from_be_bytes w64 l) (drop 8 (front ++ rest)))) (take_at front rest 8 eight)
    ∙ ap (λ (l : List ℕ). Some (content id (from_be_bytes w64 front) l)) (drop_at front rest 8 eight)

same_content : (c : ContentRecord) (id version : ℕ) (bytes : List ℕ) → c.id ≡ id → c.version ≡ version → c.bytes ≡ bytes → Some (content id version bytes) ≡ Some c
same_content c id version bytes is of with =
    ap (λ (n : ℕ). Some (content n version bytes)) (sym is)
    ∙ ap (λ (n : ℕ). Some (content c.id n bytes)) (sym of)
    ∙ ap (λ (l : List ℕ). Some (content c.id c.version l)) (sym with)

-- first the version's eight bytes were read, and then all others
pub parted : (old mid : Option (List ℕ)) (front rest : List ℕ) (id : ℕ) (c : ContentRecord) → length front ≡ 8 → Consumes old mid front → IfSome mid (λ xs. rest ≡ xs)
    → c.id ≡ id → c.version ≡ from_be_bytes w64 front → c.bytes ≡ rest → IfSome old (λ bytes. content_in id bytes ≡ Some c)
parted None mid front rest id c eight first behind is version bytes = tt
parted (Some xs) None front rest id c eight first behind is version bytes = absurd first
parted (Some xs) (Some ys) front rest id c eight first behind is version bytes =
    ap (content_in id) first ∙ content_at id front ys eight ∙ same_content c id (from_be_bytes w64 front) ys is version (bytes ∙ behind)
