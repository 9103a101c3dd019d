use Rattle.std.proofs.Common.{◌≡◌, Option, Some, List, ℕ, ◌∙◌, sym, ap, true, length, arith}
use Rattle.std.specs.Prelude.{is_some}
use Rattle.std.specs.Option.{option_copied, option_map}
use Rattle.chunk_cut.specs.Chunks.{chunks_of}
use Rattle.temp_files.specs.Pieces.{all_bytes}
use Rattle.temp_files.specs.Temps.{Temp, temp_at, whole_of, assembled}
use Rattle.temp_files.proofs.lemmas.Entries.{some_same}
use Rattle.temp_files.proofs.lemmas.Joins.{whole_length}
use Rattle.chunk_calls.proofs.Pieces.{whole_bytes}
use Rattle.chunk_calls.proofs.contents.take_cut.Goals as goal

pub cut_pieces-requires : goal.cut_pieces-requires
cut_pieces-requires c =
    let t = c.in-Some.temp.now in
    let size = c.args.commit.now.size in
    let at : temp_at c.args.temps.now c.args.session c.args.commit.now.fd ≡ Some t = sym c.find.ensures ∙ ap option_copied c.in-Some.is in
    let whole : is_some (assembled t size) ≡ true = ap (λ (o : Option Temp). is_some (whole_of o size)) (sym at) ∙ c.requires.whole in
    omega (arith, whole_length size t.pieces whole, ap length c.parts.ensures, c.requires.size)

pub with_chunks-content-requires : goal.with_chunks-content-requires
with_chunks-content-requires c =
    let t = c.in-Some.temp.now in
    let size = c.args.commit.now.size in
    let both = c.in-Ok-Some.both in
    let at : temp_at c.args.temps.now c.args.session c.args.commit.now.fd ≡ Some t = sym c.find.ensures ∙ ap option_copied c.in-Some.is in
    let first : Some both.0 ≡ whole_of (temp_at c.args.temps.now c.args.session c.args.commit.now.fd) size = sym (ap (λ (o : Option (List ℕ × List ℕ)). option_map (λ p. p.0) o) c.in-Ok-Some.field-0-is) ∙ c.in-Ok-Some.ensures.exact in
    let bytes : both.0 ≡ all_bytes t.pieces = whole_bytes t size both.0 (first ∙ ap (λ (o : Option Temp). whole_of o size) at) in
    c.in_ok-chunks.ensures ∙ ap (λ (b : List ℕ). chunks_of b) (sym c.parts.ensures ∙ sym bytes)

pub new-requires : goal.new-requires
new-requires c =
    let both = c.in-Ok-Some.both in
    let owned = c.in-Ok-Some.field-0-is in
    let again : Some both.1 ≡ Some both.0 =
    sym (ap (λ (o : Option (List ℕ × List ℕ)). option_map (λ p. p.1) o) owned)
    ∙ c.in-Ok-Some.ensures.again
    ∙ ap (λ (o : Option (List ℕ × List ℕ)). option_map (λ p. p.0) o) owned in
    some_same both.1 both.0 again ∙ sym c.with_chunks-content.ensures
