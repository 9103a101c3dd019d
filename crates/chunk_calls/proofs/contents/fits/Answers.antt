use Rattle.std.proofs.Common.{◌≡◌, Option, Some, List, ℕ, ◌∙◌, sym, ap, true}
use Rattle.std.specs.Prelude.{is_some}
use Rattle.std.specs.Option.{option_copied}
use Rattle.temp_files.specs.Temps.{Temp, temp_at, whole_of, assembled}
use Rattle.temp_files.proofs.lemmas.Joins.{whole_is}
use Rattle.chunk_calls.proofs.contents.fits.Goals as goal

pub returns-in-Some : goal.returns-in-Some
returns-in-Some c = λ yes.
    let t = c.in-Some.temp.now in
    let size = c.args.commit.now.size in
    let at : temp_at c.args.temps.now c.args.session c.args.commit.now.fd ≡ Some t = sym c.find.ensures ∙ ap option_copied c.in-Some.is in
    let whole : is_some (assembled t size) ≡ true = ap (λ (o : Option Temp). is_some (whole_of o size)) (sym at) ∙ c.requires in
    ap (λ (b : List ℕ). Some b) (c.is_content_of.ensures yes) ∙ whole_is size t.pieces whole ∙ ap (λ (o : Option Temp). whole_of o size) (sym at)
