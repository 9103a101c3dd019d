-- A write at the first byte of no fewer bytes than a content has is the whole content; and one of a content that is one part of bytes.
use Rattle.std.proofs.Common.{◌≡◌, refl, ap, ◌∙◌, ℕ, ◌+◌, ◌-◌, ◌<◌, ◌≤◌, ◌^◌, List, [], ◌∷◌, ◌++◌, length, drop, replicate, append-nil, arith}
use Rattle.std.specs.Prelude.{Option, Some, None, ◌==◌, if◌then◌else◌}
use Rattle.std.proofs.Math.ListN.{drop_of_length-le}
use Rattle.command_text.specs.Content.{content_length, content_bytes}
use Rattle.command_text.specs.declared.content.Part.TheVariants as part
use Rattle.client_state.specs.Counting.{ends}
use Rattle.client_state.specs.Ending.{on_local, MayMissOn}
use Rattle.client_state.specs.Local.{local_most, written, written_size}
use Rattle.client_state.specs.State.{State}
use Rattle.client_state.specs.declared.step.ClientStep.{ClientStep}
use Rattle.client_state.specs.declared.step.Outcome.TheVariants as outcome
use Rattle.client_state.specs.declared.task.Local.{Local}
use Rattle.client_state.specs.declared.task.Task.{Task}
use Rattle.open_close.specs.Putting.{puts, PutTakes}
use Rattle.open_close.specs.Step.{edits, writes, WriteTakes}
use Rattle.command_text.proofs.lemmas.Contents.{content_size}

pub written_whole : (content more : List ℕ) → 0 < length more → length content ≤ length more → written content 0 more ≡ more
written_whole content [] some le = let no : ⊥ = omega (arith, some) in absurd no
written_whole content (b ∷ bs) some le =
    let gap : 0 - length content ≡ 0 = omega arith in
    let at : 0 + length (b ∷ bs) ≡ length (b ∷ bs) = omega arith in
    ap (λ n. replicate n 0 ++ b ∷ bs ++ drop (0 + length (b ∷ bs)) content) gap
    ∙ ap (λ n. b ∷ bs ++ drop n content) at
    ∙ ap (λ l. b ∷ bs ++ l) (drop_of_length-le content le)
    ∙ append-nil (b ∷ bs)

-- ---- one part of bytes

one_length : (bytes : List ℕ) → content_length (part.Bytes bytes ∷ []) ≡ length bytes
one_length bytes = omega arith

one_bytes : (bytes : List ℕ) → content_bytes (part.Bytes bytes ∷ []) ≡ bytes
one_bytes bytes = append-nil bytes

-- a write of so many bytes, which are these
writes_with : State → (file : ℕ) → Local → (count : ℕ) → List ℕ → State × ClientStep
writes_with s file l count bytes = if count == 0 then (s, ends outcome.Done 0 0) else edits s file l (written_size (length l.bytes) 0 count) (written l.bytes 0 bytes)

pub puts_so : (s : State) (task : Option Task) (local : Option Local) (file : ℕ) (bytes : List ℕ) → on_local s task local (writes s file 0 (part.Bytes bytes ∷ [])) ≡ on_local s task local (puts s file bytes)
unfolding writes_with
puts_so s (Some t) local file bytes = refl
puts_so s None None file bytes = refl
puts_so s None (Some l) file bytes = ap (λ n. writes_with s file l n (content_bytes (part.Bytes bytes ∷ []))) (one_length bytes) ∙ ap (λ bs. writes_with s file l (length bytes) bs) (one_bytes bytes)

takes_with : Local → (count : ℕ) → Type 0
takes_with l count = (count ≡ 0 → ⊥) × (written_size (length l.bytes) 0 count < 2 ^ 128 → written_size (length l.bytes) 0 count ≤ local_most)

pub may_miss_so : (task : Option Task) (local : Option Local) (bytes : List ℕ) → MayMissOn task local (WriteTakes 0 (part.Bytes bytes ∷ [])) ≡ MayMissOn task local (PutTakes bytes)
unfolding takes_with
may_miss_so (Some t) local bytes = refl
may_miss_so None None bytes = refl
may_miss_so None (Some l) bytes = ap (λ n. takes_with l n) (one_length bytes)

-- what `written` goes by
pub ruleset by_written = (content_size, written_whole)
