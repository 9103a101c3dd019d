-- How a mount ends behind its script, and what it wrote to its cache file.
use Rattle.std.proofs.Common.{◌≡◌, ◌∙◌, ℕ, List, Bool, true, false, refl, sym, ap, subst}
use Rattle.std.specs.Prelude.{Option, Some, None, Result, Ok, Err, OnOk, IfSome}
use Rattle.std.proofs.Math.Logic.{∥∥₁_map}
use Rattle.lbfs_client.specs.Caching.{Loads, Saves, within}
use Rattle.lbfs_client.specs.Host.{Host}
use Rattle.lbfs_client.specs.Mounting.{Mount}
use Rattle.lbfs_client.specs.declared.answer.Answer.{Answer}
use Rattle.lbfs_client.specs.declared.line.MountLine.{MountLine}
use Rattle.lbfs_client.proofs.lemmas.Bounds.{is_bounded}
use Rattle.mount_desk.specs.Course.{Course, nothing_done}
use Rattle.lbfs_mount.specs.Cached.{SavesAfter}
use Rattle.lbfs_mount.specs.Mounts.{Outside, Ends}
use Rattle.lbfs_mount.specs.Saved.{IsSaved, IsKept, SavesIf, known_end}
use Rattle.lbfs_mount.specs.declared.mount_error.MountError.{MountError}
use Rattle.lbfs_mount.specs.declared.mount_error.MountError.TheVariants as errors
use Rattle.lbfs_mount.proofs.Progress.{ends_writes}

-- a client of which not all is known is the end of the mount
pub known_ends : (Says : MountLine → List ℕ → Type 0) (lf : Type 0) (o s : Outside) (ended : Result Unit MountError) (known : Bool) → Ends Says lf o s ended → Ends Says lf o s (known_end ended known)
known_ends Says lf o s (Ok u) true h = h
known_ends Says lf o s (Ok u) false h = (ends_writes Says lf o s (Ok u) h, tt)
known_ends Says lf o s (Err e) known h = h

no_error : (u : Unit {0}) (e : MountError) → Ok u ≡ Err e → ⊥
no_error u e is = cc

-- where a mount ends well all is known
sound : (known : Bool) (ended : Result Unit MountError) (u : Unit {0}) → known_end ended known ≡ Ok u → known ≡ true
sound true ended u is = refl
sound false (Ok v) u is = absurd (no_error u errors.Memory (sym is))
sound false (Err e) u is = absurd (no_error u e (sym is))

saved_one : (drift keep : ℕ) (known : Bool) (name : List ℕ) (m m' : Mount) (host : Host) → known ≡ true → m'.host ≡ host
    → (told : Option Answer) × Saves (within keep m) name told m' → (n : ℕ) × (known ≡ true → Course drift keep n m) → IsSaved drift keep name host
saved_one drift keep known name m m' host sure at (told, saves) (n, course) = record { listed = n; client = m; course = course sure; bound = is_bounded keep m.client; told = told; new = m'; saves = saves; host_is = at }

-- what a mount begins with has this host alone
loads_from : (drift : ℕ) (b m : Mount) (host : Host) (name : List ℕ) (told : Option Answer) (replaces : Bool) → b ≡ nothing_done drift host → Loads b name told replaces m → Loads (nothing_done drift b.host) name told replaces m
loads_from drift b m host name told replaces is l =
    let same : b ≡ nothing_done drift b.host = is ∙ ap (nothing_done drift) (sym (ap (λ (x : Mount). x.host) is)) in
    subst (λ (x : Mount). Loads x name told replaces m) same l

kept_one : (replaces : Bool) (drift keep : ℕ) (known : Bool) (name : List ℕ) (b m0 m m' : Mount) (begun host : Host) → b ≡ nothing_done drift begun → known ≡ true → m'.host ≡ host
    → (told : Option Answer) × Loads b name told replaces m0 → SavesIf replaces keep m name m' → (n : ℕ) × (known ≡ true → Course drift keep n m) → IsKept drift keep name b.host host
kept_one true drift keep known name b m0 m m' begun host is sure at (told, l) saves k = IsKept.saved told m0 (loads_from drift b m0 begun name told true is l) (saved_one drift keep known name m m' host sure at saves k)
kept_one false drift keep known name b m0 m m' begun host is sure at (told, l) same (n, course) =
    IsKept.left told m0 (loads_from drift b m0 begun name told false is l) (record { listed = n; client = m; course = course sure; host_is = ap (λ (x : Mount). x.host) (sym same) ∙ at })

kept_if : {X : Type 0} (name : X → List ℕ) (replaces : Bool) (drift keep : ℕ) (known : Bool) (cache : Option X) (b m0 m m' : Mount) (begun host : Host) → b ≡ nothing_done drift begun → known ≡ true → m'.host ≡ host
    → IfSome cache (λ x. (told : Option Answer) × Loads b (name x) told replaces m0) → IfSome cache (λ x. SavesIf replaces keep m (name x) m') → ∥ ((n : ℕ) × (known ≡ true → Course drift keep n m)) ∥₁ → IfSome cache (λ x. ∥ IsKept drift keep (name x) b.host host ∥₁)
kept_if name replaces drift keep known None b m0 m m' begun host is sure at loads saves k = tt
kept_if name replaces drift keep known (Some x) b m0 m m' begun host is sure at loads saves k = ∥∥₁_map k (λ h. kept_one replaces drift keep known (name x) b m0 m m' begun host is sure at loads saves h)

pub kept_all : {X : Type 0} (name : X → List ℕ) (replaces cached : Bool) (drift keep : ℕ) (known : Bool) (cache : Option X) (b m0 m m' : Mount) (begun host : Host) (ended r e : Result Unit MountError) (held held' : Option (List ℕ)) (writes writes' : ℕ)
    → b ≡ nothing_done drift begun → IfSome cache (λ x. (told : Option Answer) × Loads b (name x) told replaces m0)
    → e ≡ known_end ended known → m'.host ≡ host → SavesAfter cached e held held' writes writes' r
    → OnOk r (OnOk e (IfSome cache (λ x. SavesIf replaces keep m (name x) m')))
    → ∥ ((n : ℕ) × (known ≡ true → Course drift keep n m)) ∥₁ → OnOk r (IfSome cache (λ x. ∥ IsKept drift keep (name x) b.host host ∥₁))
kept_all name replaces cached drift keep known cache b m0 m m' begun host ended (Err f) e held held' writes writes' from loads is at after saves k = tt
kept_all name replaces cached drift keep known cache b m0 m m' begun host ended (Ok u) (Ok v) held held' writes writes' from loads is at after saves k = kept_if name replaces drift keep known cache b m0 m m' begun host from (sound known ended v (sym is)) at loads saves k
kept_all name replaces cached drift keep known cache b m0 m m' begun host ended (Ok u) (Err f) held held' writes writes' from loads is at after saves k = absurd (no_error u f after.0)
