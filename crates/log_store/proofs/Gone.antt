-- What a change wrote that wasn't made is gone.
use Rattle.std.proofs.Common.{◌≡◌, inl, inr, ⊎_elim, ℕ, ◌≤◌, ◌⊎◌, false, List, [], ◌∷◌, length, get_or, take, drop, ◌-◌, Result, Ok, Err, OnErr, refl, sym, ◌∙◌, ap, subst, arith}
use Rattle.lb_base.specs.Causes.{Rose}
use Rattle.log_store.specs.Names.{same}
use Rattle.log_store.specs.Disk.{Disk, Removed}
use Rattle.log_store.specs.Making.{IsGone, AreGone, StaysGone, GoneAfter, IfBefore}
use Rattle.log_store.specs.declared.edit.Edit.{Edit}
use Rattle.log_store.specs.declared.folder.Fault.{Fault}
use Rattle.log_store.specs.declared.staging.Undone.{Undone}
use Rattle.log_store.specs.declared.staging.Undone.TheVariants as undone
use Rattle.log_store.specs.declared.which.Which.{Which}
use Rattle.log_store.specs.declared.which.FileName.{FileName}
use Rattle.log_store.specs.declared.which.FileName.TheVariants.{Record, New}
use Rattle.log_store.proofs.lemmas.Logs.{same_or_not}
use Rattle.log_store.proofs.Stage.{front_edit}

pub gone_or : (name : FileName) (old new : Disk) (r : Result (Unit {0}) Fault) (f g : ℕ) → Removed old new name r → OnErr r (Rose f g) → IsGone name new f g
gone_or name old new (Ok u) f g did cause = inl did.done
gone_or name old new (Err e) f g did cause = inr cause

rose_later : (a b c : ℕ) → Rose a b → b ≤ c → Rose a c
rose_later a b c rose le = omega (arith, rose, le)

rose_more : (a b c : ℕ) → a ≤ b → Rose b c → Rose a c
rose_more a b c le rose = omega (arith, rose, le)

-- one file or two
one_or_two : (x name : FileName) → (x ≡ name) ⊎ (same x name ≡ false)
one_or_two (Record n) (Record m) = ⊎_elim (λ eq. inl (ap (λ (k : Which). Record k) eq)) (λ ne. inr ne) (same_or_not n m)
one_or_two (Record n) (New m) = inr refl
one_or_two (New n) (Record m) = inr refl
one_or_two (New n) (New m) = ⊎_elim (λ eq. inl (ap (λ (k : Which). New k) eq)) (λ ne. inr ne) (same_or_not n m)

pub stays_gone : (name : FileName) (old new : Disk) (r : Result (Unit {0}) Fault) → Removed old new name r → StaysGone old new
stays_gone name old new r did x missing = ⊎_elim
    (λ at. ap (λ (y : FileName). new.seen y) at ∙ ⊎_elim (λ whole. whole ∙ ap (λ (y : FileName). old.seen y) (sym at) ∙ missing) (λ gone. gone) did.whole)
    (λ ne. did.others x ne ∙ missing)
    (one_or_two x name)

pub stays_on : (old mid new : Disk) → StaysGone old mid → StaysGone mid new → StaysGone old new
stays_on old mid new a b x missing = b x (a x missing)

later_gone : (name : FileName) (mid new : Disk) (f g h : ℕ) → g ≤ h → StaysGone mid new → IsGone name mid f g → IsGone name new f h
later_gone name mid new f g h le stays (inl gone) = inl (stays name gone)
later_gone name mid new f g h le stays (inr rose) = inr (rose_later f g h rose le)

sooner : (es : List Edit) (d : Disk) (f g h : ℕ) → f ≤ g → AreGone es d g h → AreGone es d f h
sooner [] d f g h le all = all
sooner (e ∷ es) d f g h le all = (λ is. ⊎_elim (λ gone. inl gone) (λ rose. inr (rose_more f g h le rose)) (all.0 is), sooner es d f g h le all.1)

pub gone_on : (e : Edit) (es : List Edit) (mid new : Disk) (f g h : ℕ) → f ≤ g → g ≤ h → AreGone (e ∷ []) mid f g → StaysGone mid new → AreGone es new g h → AreGone (e ∷ es) new f h
gone_on e es mid new f g h le more first stays rest = (λ is. later_gone (New e.which) mid new f g h more stays (first.0 is), sooner es new f g h le rest)

pub gone_front : (xs : List Edit) (d : Edit) → 1 ≤ length xs → (mid new : Disk) (f g h : ℕ) → f ≤ g → g ≤ h
    → AreGone (get_or xs 0 d ∷ []) mid f g → StaysGone mid new → AreGone (take (length xs - 1) (drop 1 xs)) new g h → AreGone xs new f h
gone_front xs d le mid new f g h fg gh first stays rest =
    subst (λ (ys : List Edit). AreGone ys new f h) (sym (front_edit xs d le)) (gone_on (get_or xs 0 d) (take (length xs - 1) (drop 1 xs)) mid new f g h fg gh first stays rest)

pub gone_after : (edits : List Edit) (d : Disk) (f g h : ℕ) → Rose f g → AreGone edits d g h → GoneAfter edits d f h
gone_after edits d f g h rose all = (g, rose, all)

pub gone_sooner : (edits : List Edit) (d : Disk) (r : Result (Unit {0}) Undone) (f g h : ℕ) → f ≤ g → IfBefore r (GoneAfter edits d g h) → IfBefore r (GoneAfter edits d f h)
gone_sooner edits d (Ok u) f g h le after = tt
gone_sooner edits d (Err undone.Before) f g h le (mid, rose, all) = (mid, rose_more f g mid le rose, all)
gone_sooner edits d (Err undone.InDoubt) f g h le after = tt
