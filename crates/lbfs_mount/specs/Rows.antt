-- Worked rows: what is written for three lines, of which one is skipped.
use Rattle.std.specs.Prelude.{[], ◌∷◌, refl, codes}
use Rattle.lbfs_client.specs.declared.answer.Answer.TheVariants as answer
use Rattle.mount_desk.specs.Turns.{IsAnswer}
use Rattle.lbfs_mount.specs.Mounts.{Tells}

told_row : Tells (λ l told. IsAnswer told) (codes "put h a" ∷ codes "# a file" ∷ codes "get a k" ∷ []) (codes "LocalFault\nLocalFault\n")
told_row = Tells.more (codes "put h a" ∷ codes "# a file" ∷ []) (codes "LocalFault\n") (codes "get a k") (codes "LocalFault\n") (Tells.more (codes "put h a" ∷ []) (codes "LocalFault\n") (codes "# a file") [] (Tells.more [] [] (codes "put h a") (codes "LocalFault\n") Tells.nothing ∣ (answer.LocalFault, refl) ∣₁) refl) ∣ (answer.LocalFault, refl) ∣₁
