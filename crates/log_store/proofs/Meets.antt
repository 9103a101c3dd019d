-- A disk of pending operations meets the calls of a folder.
use Rattle.std.proofs.Common.{◌≡◌, ◌⊎◌, inl, inr, ⊎_elim, ℕ, suc, ◌≤◌, ◌++◌, Bool, true, false, if◌then◌else◌, List, [], ◌∷◌, take, Option, Result, Ok, Err, OnOk, refl, sym, ◌∙◌, ap, subst, arith}
use Rattle.log_store.specs.Names.{same}
use Rattle.log_store.specs.Lines.{Log}
use Rattle.log_store.specs.Disk.{Files, File, Missing, Loose, Firm, Passes, Agrees, Landed, taken, Only, Moved, Wrote, Flushed, Renamed, Removed, FlushedFolder, FlushedAll, firmed, Stayed, Appended, Cut, FlushedLog}
use Rattle.log_store.specs.Pending.{Names, Operation, Link, Move, Unlink, after, Survives, Left, IsOneOf, Pending, disk, now, done, logged, found, found_agrees}
use Rattle.log_store.specs.declared.edit.Line.{Line}
use Rattle.log_store.specs.declared.folder.Fault.{Fault}
use Rattle.log_store.specs.declared.which.Which.{Which}
use Rattle.log_store.specs.declared.which.FileName.{FileName}
use Rattle.log_store.specs.declared.which.FileName.TheVariants.{Record, New}
use Rattle.log_store.proofs.lemmas.Logs.{self}
use Rattle.log_store.proofs.Steps.{always, on_ok}

pub passes : (p : Pending) (here base : Names) (pending : List Operation) (whole : Survives base pending here) (entries : Log) (logs : List Log) → Passes (disk p) (disk (now p here base pending whole entries logs))
passes p here base pending whole entries logs = record {
  later = omega arith;
  nothing_else = λ t c l le since. ⊎_elim (λ past. inl past.1) (λ left. inr left) since;
  keeps = λ t c l le past. inl (le, past);
}

pub counts_now : (p : Pending) (here base : Names) (pending : List Operation) (whole : Survives base pending here) (entries : Log) (logs : List Log) (t : ℕ) (c : Files) (l : Log) → Left base pending c → IsOneOf (entries ∷ logs) l
    → (now p here base pending whole entries logs).since t c l
counts_now p here base pending whole entries logs t c l left one = inr (left, one)

pub only_now : (p : Pending) (here base : Names) (pending : List Operation) (whole : Survives base pending here) (entries : Log) (logs : List Log) (c : Files) (l : Log)
    → (now p here base pending whole entries logs).since (suc p.moment) c l → Left base pending c × IsOneOf (entries ∷ logs) l
only_now p here base pending whole entries logs c l since = ⊎_elim (λ past. absurd (omega (arith, past.0))) (λ left. left) since

if_false : {A : Type 0} (b : Bool) (x y : A) → b ≡ false → (if b then x else y) ≡ y
if_false b x y is = ap (λ (k : Bool). if k then x else y) is

if_true : {A : Type 0} (b : Bool) (x y : A) → b ≡ true → (if b then x else y) ≡ x
if_true b x y is = ap (λ (k : Bool). if k then x else y) is

ok : {X : Type 0} (r : Result (Unit {0}) Fault) → X → OnOk r X
ok r x = on_ok r (λ u. x) (always r)

-- what was left but for one name
but_agrees : (b : Bool) (f g : File) (o : Option (List ℕ)) → Agrees f o → (b ≡ false → f ≡ g) → Agrees g (if b then found g else o)
but_agrees true f g o agrees is = found_agrees g
but_agrees false f g o agrees is = subst (λ (h : File). Agrees h o) (is refl) agrees

-- an operation on one name changes no other
step_but : (p : Pending) (n : FileName) (o : Operation) → ((d : Names) (x : FileName) → same x n ≡ false → after o d x ≡ d x) → (c : Files) (l : Log) → Left p.base (o ∷ p.pending) c × IsOneOf (p.entries ∷ p.logs) l
    → (d : Files) × (Left p.base p.pending d × IsOneOf (p.entries ∷ p.logs) l) × Only n d c
step_but p n o others c l both = ⊎_elim
    (λ before. (c, ((both.0.0, before, both.0.2), both.1), λ x apart. refl))
    (λ did. let d : Names = did.0 in (
      (λ x. if same x n then found (d x) else c x),
      ((d, did.1, λ x. but_agrees (same x n) (both.0.0 x) (d x) (c x) (both.0.2 x) (λ apart. did.2 x ∙ others d x apart)), both.1),
      λ x apart. sym (if_false (same x n) (found (d x)) (c x) apart),
    ))
    both.0.1

same_self : (x : FileName) → same x x ≡ true
same_self (Record n) = self n
same_self (New n) = self n

pub done_passes : (p : Pending) (o : Operation) → Passes (disk p) (disk (done p o))
done_passes p o = passes p (after o p.here) p.base (o ∷ p.pending) (inr (p.here, p.whole, λ x. refl)) p.entries p.logs

-- whatever is answered of what was done
pub meets_write : (p : Pending) (n : FileName) (bytes : List ℕ) (r : Result (Unit {0}) Fault) → Wrote (disk p) (disk (done p (Link n (Loose bytes)))) n bytes r
meets_write p n bytes r = record {
  time = done_passes p (Link n (Loose bytes));
  others = λ x apart. if_false (same x n) (Loose bytes) (p.here x) apart;
  entries = refl;
  crash = step_but p n (Link n (Loose bytes)) (λ d x apart. if_false (same x n) (Loose bytes) (d x) apart);
  done = ok r (if_true (same n n) (Loose bytes) (p.here n) (same_self n));
}

pub meets_remove : (p : Pending) (n : FileName) (r : Result (Unit {0}) Fault) → Removed (disk p) (disk (done p (Unlink n))) n r
meets_remove p n r = record {
  time = done_passes p (Unlink n);
  others = λ x apart. if_false (same x n) Missing (p.here x) apart;
  whole = inr (if_true (same n n) Missing (p.here n) (same_self n));
  entries = refl;
  crash = λ c l both. ⊎_elim
      (λ before. (c, ((both.0.0, before, both.0.2), both.1), λ x apart. refl, inl refl))
      (λ did. let d : Names = did.0 in (
        (λ x. if same x n then found (d x) else c x),
        ((d, did.1, λ x. but_agrees (same x n) (both.0.0 x) (d x) (c x) (both.0.2 x) (λ apart. did.2 x ∙ if_false (same x n) Missing (d x) apart)), both.1),
        λ x apart. sym (if_false (same x n) (found (d x)) (c x) apart),
        inr (subst (λ (f : File). Agrees f (c n)) (did.2 n ∙ if_true (same n n) Missing (d n) (same_self n)) (both.0.2 n)),
      ))
      both.0.1;
  done = ok r (if_true (same n n) Missing (p.here n) (same_self n));
}

bytes_of : File → List ℕ
bytes_of Missing = []
bytes_of (Loose b) = b
bytes_of (Firm b) = b

-- a new file was written under the name, and nothing was done since
pub meets_flush : (p : Pending) (n : FileName) (b : List ℕ) → (let w = done p (Link n (Loose b)) in
    Flushed (disk w) (disk (now w (after (Link n (Firm b)) p.here) p.base (Link n (Firm b) ∷ p.pending) (inr (p.here, p.whole, λ x. refl)) p.entries p.logs)) n (Ok tt))
unfolding bytes_of
meets_flush p n b = record {
  time = passes (done p (Link n (Loose b))) (after (Link n (Firm b)) p.here) p.base (Link n (Firm b) ∷ p.pending) (inr (p.here, p.whole, λ x. refl)) p.entries p.logs;
  others = λ x apart. if_false (same x n) (Firm b) (p.here x) apart ∙ sym (if_false (same x n) (Loose b) (p.here x) apart);
  entries = refl;
  crash = λ c l both. ⊎_elim
      (λ before. ((both.0.0, inl before, both.0.2), both.1))
      (λ did. let d : Names = did.0 in (
        (
          (λ x. if same x n then Loose b else d x),
          inr (d, did.1, λ x. refl),
          λ x. loosely (same x n) (both.0.0 x) (d x) (c x) (both.0.2 x) (did.2 x),
        ),
        both.1,
      ))
      both.0.1;
  done = λ bytes is. if_true (same n n) (Firm b) (p.here n) (same_self n) ∙ ap (λ (l : List ℕ). Firm l) (ap bytes_of (sym (if_true (same n n) (Loose b) (p.here n) (same_self n)) ∙ is));
}
  where
    loosely : (k : Bool) (f g : File) (o : Option (List ℕ)) → Agrees f o → f ≡ (if k then Firm b else g) → Agrees (if k then Loose b else g) o
    loosely true f g o agrees is = tt
    loosely false f g o agrees is = subst (λ (h : File). Agrees h o) is agrees

pub meets_flush_folder : (p : Pending) → FlushedFolder (disk p) (disk (now p p.here p.here [] (λ x. refl) p.entries p.logs)) (Ok tt)
meets_flush_folder p = record {
  time = passes p p.here p.here [] (λ x. refl) p.entries p.logs;
  seen = λ x. refl;
  entries = refl;
  crash = λ c l both. ((p.here, p.whole, λ x. subst (λ (f : File). Agrees f (c x)) (both.0.1 x) (both.0.2 x)), both.1);
  done = λ c l both x. subst (λ (f : File). Agrees f (c x)) (both.0.1 x) (both.0.2 x);
}

agrees_firmed : (f : File) (o : Option (List ℕ)) → Agrees (firmed f) o → Agrees f o
agrees_firmed Missing o is = is
agrees_firmed (Loose b) o is = tt
agrees_firmed (Firm b) o is = is

pub meets_flush_all : (p : Pending) → FlushedAll (disk p) (disk (now p (λ x. firmed (p.here x)) (λ x. firmed (p.here x)) [] (λ x. refl) p.entries p.logs)) (Ok tt)
meets_flush_all p = record {
  time = passes p (λ x. firmed (p.here x)) (λ x. firmed (p.here x)) [] (λ x. refl) p.entries p.logs;
  seen = inr (λ x. refl);
  entries = refl;
  crash = λ c l both. ((p.here, p.whole, λ x. agrees_firmed (p.here x) (c x) (subst (λ (f : File). Agrees f (c x)) (both.0.1 x) (both.0.2 x))), both.1);
  done = (λ x. refl, λ c l both x. subst (λ (f : File). Agrees f (c x)) (both.0.1 x) (both.0.2 x));
}

-- a flush that fails may do nothing
pub meets_flush_folder_err : (p : Pending) (e : Fault) → FlushedFolder (disk p) (disk (logged p p.entries p.logs)) (Err e)
meets_flush_folder_err p e = record { time = passes p p.here p.base p.pending p.whole p.entries p.logs; seen = λ x. refl; entries = refl; crash = λ c l left. left; done = tt }

pub is_there : File → Type 0
is_there Missing = ⊥
is_there (Loose b) = Unit {0}
is_there (Firm b) = Unit {0}

taken_there : (f g : File) → is_there f → f ≡ taken f g
unfolding is_there
taken_there Missing g there = absurd there
taken_there (Loose b) g there = refl
taken_there (Firm b) g there = refl

landed_there : (f : File) (o : Option (List ℕ)) → is_there f → Agrees f o → Landed f o
unfolding is_there
landed_there Missing o there agrees = there
landed_there (Loose b) o there agrees = tt
landed_there (Firm b) o there agrees = agrees

pub meets_rename : (p : Pending) (n : Which) → is_there (p.here (New n)) → (r : Result (Unit {0}) Fault) → Renamed (disk p) (disk (done p (Move n (p.here (New n))))) n r
meets_rename p n there r = record {
  time = done_passes p (Move n (p.here (New n)));
  whole = inr moved;
  entries = refl;
  crash = λ c l both. ⊎_elim
      (λ before. (c, ((both.0.0, before, both.0.2), both.1), inl (λ x. refl)))
      (λ did. let d : Names = did.0 in (
        (λ x. if same x (New n) then found (d x) else if same x (Record n) then found (d x) else c x),
        ((d, did.1, λ x. twice (same x (New n)) (same x (Record n)) (both.0.0 x) (d x) (c x) (both.0.2 x) (did.2 x)), both.1),
        inr record {
          gone = subst (λ (f : File). Agrees f (c (New n))) (did.2 (New n) ∙ at_new d) (both.0.2 (New n));
          there = landed_there (p.here (New n)) (c (Record n)) there (subst (λ (f : File). Agrees f (c (Record n))) (did.2 (Record n) ∙ at_record d) (both.0.2 (Record n)));
          others = λ x a b. sym (if_false (same x (New n)) (found (d x)) (if same x (Record n) then found (d x) else c x) a ∙ if_false (same x (Record n)) (found (d x)) (c x) b);
        },
      ))
      both.0.1;
  done = ok r moved;
}
  where
    at_new : (d : Names) → after (Move n (p.here (New n))) d (New n) ≡ Missing
    at_new d = if_true (same (New n) (New n)) Missing (d (New n)) (self n)

    at_record : (d : Names) → after (Move n (p.here (New n))) d (Record n) ≡ p.here (New n)
    at_record d = if_true (same (Record n) (Record n)) (p.here (New n)) (d (Record n)) (self n)

    moved : Moved p.here (after (Move n (p.here (New n))) p.here) n
    moved = record {
      gone = at_new p.here;
      there = at_record p.here ∙ taken_there (p.here (New n)) (p.here (Record n)) there;
      others = λ x a b. if_false (same x (New n)) Missing (if same x (Record n) then p.here (New n) else p.here x) a ∙ if_false (same x (Record n)) (p.here (New n)) (p.here x) b;
    }

    twice : (j k : Bool) (f g : File) (o : Option (List ℕ)) → Agrees f o → f ≡ (if j then Missing else if k then p.here (New n) else g) → Agrees g (if j then found g else if k then found g else o)
    twice true k f g o agrees is = found_agrees g
    twice false true f g o agrees is = found_agrees g
    twice false false f g o agrees is = subst (λ (h : File). Agrees h o) is agrees

-- of a file that isn't there nothing is done
pub meets_rename_missing : (p : Pending) (n : Which) → p.here (New n) ≡ Missing → (r : Result (Unit {0}) Fault) → Renamed (disk p) (disk (logged p p.entries p.logs)) n r
meets_rename_missing p n is r = record {
  time = passes p p.here p.base p.pending p.whole p.entries p.logs;
  whole = inl (λ x. refl);
  entries = refl;
  crash = λ c l left. (c, left, inl (λ x. refl));
  done = ok r record { gone = is; there = sym (ap (λ (f : File). taken f (p.here (Record n))) is); others = λ x a b. refl };
}

pub meets_look : (p : Pending) → Stayed (disk p) (disk (logged p p.entries p.logs))
meets_look p = record { time = passes p p.here p.base p.pending p.whole p.entries p.logs; seen = λ x. refl; entries = refl; crash = λ c l left. left }

-- the log becomes another: which of the two is on the disk isn't known until it is flushed
module _ (p : Pending) (entries : Log) where
  log_passes : Passes (disk p) (disk (logged p entries (p.entries ∷ p.logs)))
  log_passes = passes p p.here p.base p.pending p.whole entries (p.entries ∷ p.logs)

  log_crash : (c : Files) (l : Log) → Left p.base p.pending c × IsOneOf (entries ∷ p.entries ∷ p.logs) l → (k : Log) × (Left p.base p.pending c × IsOneOf (p.entries ∷ p.logs) k) × ((l ≡ k) ⊎ (l ≡ entries))
  log_crash c l both = ⊎_elim (λ is. (p.entries, (both.0, inl refl), inr is)) (λ one. (l, (both.0, one), inl refl)) both.1

pub meets_append : (p : Pending) (entry : List Line) (r : Result (Unit {0}) Fault) → Appended (disk p) (disk (logged p (p.entries ++ entry ∷ []) (p.entries ∷ p.logs))) entry r
meets_append p entry r = record {
  time = log_passes p (p.entries ++ entry ∷ []);
  seen = λ x. refl;
  whole = inr refl;
  crash = log_crash p (p.entries ++ entry ∷ []);
  done = ok r refl;
}

pub meets_cut : (p : Pending) (count : ℕ) (r : Result (Unit {0}) Fault) → Cut (disk p) (disk (logged p (take count p.entries) (p.entries ∷ p.logs))) count r
meets_cut p count r = record {
  time = log_passes p (take count p.entries);
  seen = λ x. refl;
  whole = inr refl;
  crash = log_crash p (take count p.entries);
  done = ok r refl;
}

pub meets_flush_log : (p : Pending) → FlushedLog (disk p) (disk (logged p p.entries [])) (Ok tt)
meets_flush_log p = record {
  time = passes p p.here p.base p.pending p.whole p.entries [];
  seen = λ x. refl;
  entries = refl;
  crash = λ c l both. (both.0, ⊎_elim (λ is. inl is) (λ none. absurd none) both.1);
  done = λ c l both. ⊎_elim (λ is. is) (λ none. absurd none) both.1;
}

pub meets_flush_log_err : (p : Pending) (e : Fault) → FlushedLog (disk p) (disk (logged p p.entries p.logs)) (Err e)
meets_flush_log_err p e = record { time = passes p p.here p.base p.pending p.whole p.entries p.logs; seen = λ x. refl; entries = refl; crash = λ c l left. left; done = tt }
