use Rattle.std.proofs.Common.{subst, ap, ◌∙◌, ◌≡◌, ℕ, List, ◌++◌, codes, OnOk, string_bytes, append_assoc}
use Rattle.std.specs.Fmt.{decimal}
use Rattle.register_model.specs.Text.{number}
use Rattle.register_model.proofs.text.put_raw_name.Goals as goal

-- the name is what is written
written : (old : List ℕ) (session : ℕ) (kind : List ℕ) (file : ℕ) → old ++ (codes "raw session " ++ (decimal session ++ (codes " " ++ (kind ++ (codes " file " ++ decimal file))))) ≡ old ++ (codes "raw session" ++ number session ++ codes " " ++ kind ++ codes " file" ++ number file)
written old session kind file = ap (λ (t : List ℕ). old ++ t) (simp append_assoc)

pub returns : goal.returns
returns c =
    subst (λ (t : List ℕ). OnOk c.write.result (string_bytes c.write.new.self ≡ t)) (written (string_bytes c.args.out.now) c.args.raw.now.session c.kind_of-kind.result.now c.args.raw.now.file ∙ ap (λ (kind : List ℕ). string_bytes c.args.out.now ++ (codes "raw session" ++ number c.args.raw.now.session ++ codes " " ++ kind ++ codes " file" ++ number c.args.raw.now.file)) c.kind_of-kind.ensures) c.write.ensures.bytes
