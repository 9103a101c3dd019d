-- Hints that the client gets before a line.
use Rattle.std.proofs.Common.{◌≡◌, refl, ℕ, List, Bool, true, false, inl, inr}
use Rattle.lbfs_client.specs.Hinting.{LearnsIn, OffersIf}
use Rattle.lbfs_client.specs.Mounting.{Mount}
use Rattle.mount_desk.specs.Turns.{MayLearn, MayOffer}

pub may_learn : (done : Bool) (m m' : Mount) (file : ℕ) → (done ≡ true → LearnsIn m file m') → (done ≡ false → m' ≡ m) → MayLearn m m'
may_learn true m m' file learned same = inr (file, learned refl)
may_learn false m m' file learned same = inl (same refl)

pub may_offer : (done : Bool) (m m' : Mount) (name : List ℕ) → OffersIf done m name m' → MayOffer m m'
may_offer done m m' name offered = inr (name, done, offered)

pub nothing_learned : (m : Mount) → MayLearn m m
nothing_learned m = inl refl

pub nothing_offered : (m : Mount) → MayOffer m m
nothing_offered m = inl refl
