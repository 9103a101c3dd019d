-- A folder is brought to rest.
use Rattle.std.proofs.Common.{◌≡◌, inl, inr, ⊎_elim, ℕ, ◌<◌, ◌⊎◌, ◌++◌, Bool, true, false, if◌then◌else◌, List, [], ◌∷◌, length, take, Option, Some, None, Vec, Contains, Result, Ok, Err, OnOk, IfOk, refl, sym, ◌∙◌, ap, ap₂, subst, true≢false, arith}
use Rattle.std.specs.declared.alloc.Global.{Global}
use Rattle.store.specs.declared.store.StoreError.{StoreError}
use Rattle.store.specs.declared.store.StoreError.TheVariants as errors
use Rattle.log_store.specs.Names.{same_which, is_among}
use Rattle.log_store.specs.Lines.{Log, Records, over, latest, task_of, all_lines}
use Rattle.log_store.specs.Disk.{Files, File, Missing, Loose, Firm, Disk, Leaves, Removed, Stayed, Cut, Lists, FlushedLog, FlushedAll, firmed}
use Rattle.log_store.specs.Sound.{kept, resolved, shown, shown_file, moves, Loads, OneOf, IsSound, IsQuiet, AreThere, Carried}
use Rattle.log_store.specs.Store.{IsLeft, CaughtUp, IsRead, Rested, Tidied, Swept, Closed, Loaded, AreAll, carried}
use Rattle.log_store.specs.declared.carrying.Unfinished.{Unfinished}
use Rattle.log_store.specs.declared.carrying.Unfinished.TheVariants as unfinished
use Rattle.log_store.specs.declared.edit.Line.{Line}
use Rattle.log_store.specs.declared.edit.Task.{Task}
use Rattle.log_store.specs.declared.edit.Task.TheVariants as task
use Rattle.log_store.specs.declared.folder.Fault.{Fault}
use Rattle.log_store.specs.declared.which.Which.{Which}
use Rattle.log_store.specs.declared.which.FileName.{FileName}
use Rattle.log_store.specs.declared.which.FileName.TheVariants.{Record, New}
use Rattle.log_store.proofs.Steps.{one_step, and_then, weaker, nothing, on_ok, always}
use Rattle.log_store.proofs.lemmas.Logs.{all_say}
use Rattle.log_store.proofs.Redo.{kept_missing, quiet_sound, agrees_kept}

-- the records that lines are of
pub whichs : List Line → List Which
whichs [] = []
whichs (x ∷ xs) = x.which ∷ whichs xs

none_by : (a b : Bool) (o : Option Task) (t : Task) → (b ≡ false → o ≡ None) → (if a then true else b) ≡ false → over o (if a then Some t else None) ≡ None
none_by true b o t none is = absurd (true≢false is)
none_by false b o t none is = ap (λ (p : Option Task). over p None) (none is)

none_latest : (xs : List Line) (n : Which) → is_among n (whichs xs) ≡ false → latest xs n ≡ None
unfolding whichs
none_latest [] n is = refl
none_latest (x ∷ xs) n is = none_by (same_which n x.which) (is_among n (whichs xs)) (latest xs n) x.task (none_latest xs n) is

shown_kept : (t : Option Task) (o p : Option (List ℕ)) → shown_file t (kept o) (kept p) ≡ kept (shown t o p)
shown_kept None o p = refl
shown_kept (Some (task.Put bytes)) o p = refl
shown_kept (Some (task.Moves k)) None p = refl
shown_kept (Some (task.Moves k)) (Some bytes) p = refl
shown_kept (Some task.Goes) o p = refl

-- what a cut left is sound once it is read
pub read_sound : (c : Files) (l : Log) (records : Records) (d : Disk) → IsRead c l d → Loads l c records → IsSound records [] (whichs (all_lines l)) d
read_sound c l records d read loads =
    let free : ((n : Which) → is_among n (whichs (all_lines l)) ≡ false → moves (task_of l n) ≡ false) = λ n is. ap moves (sym (all_say l n) ∙ none_latest (all_lines l) n is) in
    let there : ((f : Files) (k : Log) → d.may_leave f k → Loads l f records) = λ f k left n. ap₂ (shown (task_of l n)) (read.files f k left (New n)) (read.files f k left (Record n)) ∙ loads n in
    record {
      seen = λ n. ap₂ (shown_file (task_of d.entries n)) (read.seen (New n)) (read.seen (Record n)) ∙ ap (λ (k : Log). shown_file (task_of k n) (kept (c (New n))) (kept (c (Record n)))) read.entries
          ∙ shown_kept (task_of l n) (c (New n)) (c (Record n)) ∙ ap kept (loads n);
      whole = λ f k left. subst (λ (j : Log). Loads j f records) (sym read.entries) (there f k left);
      each = λ f k left. inl (subst (λ (j : Log). Loads j f records) (sym (read.log f k left)) (there f k left));
      free = λ n is. ap (λ (k : Log). moves (task_of k n)) read.entries ∙ free n is;
      free_left = λ f k left n is. ap (λ (j : Log). moves (task_of j n)) (read.log f k left) ∙ free n is;
    }

pub done_by : (r : Result (Unit {0}) Unfinished) (P : Type 0) → OnOk r P → OnOk (carried r) P
done_by (Ok u) P p = p
done_by (Err unfinished.Failed) P p = tt
done_by (Err unfinished.Memory) P p = tt
done_by (Err unfinished.InDoubt) P p = tt

past_too : (records : Records) (past : List Records) (c : Files) (l : Log) → OneOf (records ∷ []) c l → OneOf (records ∷ past) c l
past_too records past c l (inl loads) = inl loads
past_too records past c l (inr none) = absurd none

-- all that is seen is flushed
module _ (f : Files) (l : Log) (past : List Records) (d0 d1 : Disk) (is : IsLeft f l past d0) where
  pub not_flushed : (e : Fault) → FlushedLog d0 d1 (Err e) → CaughtUp f l past d0 d1 (Err e)
  not_flushed e did = record {
    leaves = one_step (OneOf past) did.time (λ c k left. is.left c k (did.crash c k left));
    left = λ c k left. is.left c k (did.crash c k left);
    done = tt;
  }

  pub flushed_up : FlushedLog d0 d1 (Ok tt) → (d2 : Disk) (r : Result (Unit {0}) Fault) → FlushedAll d1 d2 r → CaughtUp f l past d0 d2 r
  flushed_up first d2 r did =
      let left_2 : ((c : Files) (k : Log) → d2.may_leave c k → OneOf past c k) = λ c k left. is.left c k (first.crash c k (did.crash c k left)) in
      record {
        leaves = and_then (OneOf past) (one_step (OneOf past) first.time (λ c k left. is.left c k (first.crash c k left))) (one_step (OneOf past) did.time left_2);
        left = left_2;
        done = on_ok r (λ both.
            let seen_2 : ((x : FileName) → d2.seen x ≡ kept (f x)) = λ x. both.0 x ∙ ap firmed (first.seen x) ∙ is.seen x in
            record {
              seen = seen_2;
              entries = did.entries ∙ first.entries ∙ is.entries;
              files = λ c k left x. agrees_kept (d2.seen x) (c x) (f x) (both.1 c k left x) (seen_2 x);
              log = λ c k left. first.done c k (did.crash c k left) ∙ first.entries ∙ is.entries;
            }) did.done;
      }

pub rested : (records : Records) (past : List Records) (pending : List Which) (f : Files) (l : Log) (d0 old new : Disk) (r : Result (Unit {0}) Unfinished) (q : Result (Unit {0}) StoreError) → q ≡ carried r → CaughtUp f l past d0 old (Ok tt) → Carried records [] pending old new r
    → Rested records past d0 new q
rested records past pending f l d0 old new r q is u c = record {
  leaves = and_then (OneOf (records ∷ past)) (weaker (λ g k o. inr o) u.leaves) (weaker (past_too records past) c.leaves);
  left = λ g k left. past_too records past g k (c.left g k left);
  done = subst (λ (p : Result (Unit {0}) StoreError). OnOk p (IsQuiet records new)) (sym is) (done_by r (IsQuiet records new) c.done);
}

pub quiet_each : (records : Records) (past : List Records) (d : Disk) → IsQuiet records d → (c : Files) (l : Log) → d.may_leave c l → OneOf (records ∷ past) c l
quiet_each records past d q c l left = inl (subst (λ (k : Log). Loads k c records) (sym (q.log c l left)) (q.left c l left))

pub tidied : (records : Records) (n : Which) (old new : Disk) (r : Result (Unit {0}) Fault) → IsQuiet records old → Removed old new (New n) r → Tidied records old new
tidied records n old new r q did =
    let quiet : IsQuiet records new = record {
      entries = did.entries ∙ q.entries;
      there = λ m. did.others (Record m) refl ∙ q.there m;
      log = λ c l left. let from = did.crash c l left in q.log from.0 l from.1;
      left = λ c l left m. let from = did.crash c l left in from.2 (Record m) refl ∙ q.left from.0 l from.1 m;
    } in
    record { leaves = one_step (OneOf (records ∷ [])) did.time (quiet_each records [] new quiet); quiet = quiet; there = λ m. did.others (Record m) refl }

pub tidied_on : (records : Records) (old mid new : Disk) → Tidied records old mid → Tidied records mid new → Tidied records old new
tidied_on records old mid new a b = record { leaves = and_then (OneOf (records ∷ [])) a.leaves b.leaves; quiet = b.quiet; there = λ n. b.there n ∙ a.there n }

pub tidied_none : (records : Records) (d : Disk) → IsQuiet records d → Tidied records d d
tidied_none records d q = record { leaves = nothing (OneOf (records ∷ [])); quiet = q; there = λ n. refl }

pub quiet_stayed : (records : Records) (old new : Disk) → IsQuiet records old → Stayed old new → IsQuiet records new
quiet_stayed records old new q did = record {
  entries = did.entries ∙ q.entries;
  there = λ m. did.seen (Record m) ∙ q.there m;
  log = λ c l left. q.log c l (did.crash c l left);
  left = λ c l left m. q.left c l (did.crash c l left) m;
}

pub stayed_tidied : (records : Records) (old new : Disk) → IsQuiet records old → Stayed old new → Tidied records old new
stayed_tidied records old new q did =
    let quiet = quiet_stayed records old new q did in
    record { leaves = one_step (OneOf (records ∷ [])) did.time (quiet_each records [] new quiet); quiet = quiet; there = λ m. did.seen (Record m) }

missing_none : (f : File) (o : Option (List ℕ)) → f ≡ kept o → f ≡ Missing → o ≡ None
missing_none f o is gone = sym (kept_missing o (sym gone ∙ is))

pub all_by : (records : Records) (d : Disk) (names : List FileName) (whole : List Which) → AreThere records d → ((x : FileName) → Contains names x ⊎ (d.seen x ≡ Missing)) → ((n : Which) → Contains names (Record n) → Contains whole n) → AreAll whole records
all_by records d names whole there lists holds n = ⊎_elim
    (λ is. inl (holds n is))
    (λ gone. inr (missing_none (d.seen (Record n)) (records n) (there n) gone))
    (lists (Record n))

pub swept : (records : Records) (d0 d1 d2 : Disk) (r : Result (Vec Which Global) StoreError) → IsQuiet records d0 → Stayed d0 d1 → Tidied records d1 d2 → IfOk r (λ names. AreAll names.items records) → Swept records d0 d2 r
swept records d0 d1 d2 r q looked tidy all =
    let both = tidied_on records d0 d1 d2 (stayed_tidied records d0 d1 q looked) tidy in
    record { leaves = both.leaves; quiet = both.quiet; names = all }

pub quiet_cut : (records : Records) (old new : Disk) (r : Result (Unit {0}) Fault) → IsQuiet records old → Cut old new 0 r → IsQuiet records new
quiet_cut records old new r q did = record {
  entries = ⊎_elim (λ is. is ∙ q.entries) (λ is. is) did.whole;
  there = λ m. did.seen (Record m) ∙ q.there m;
  log = λ c l left. let from = did.crash c l left in ⊎_elim (λ is. is ∙ q.log c from.0 from.1) (λ is. is) from.2;
  left = λ c l left m. let from = did.crash c l left in q.left c from.0 from.1 m;
}

module _ (records : Records) (past : List Records) (pending : List Which) (d0 d1 : Disk) where
  module _ (c : Carried records past pending d0 d1 (Ok tt)) (d2 : Disk) (r : Result (Vec Which Global) StoreError) (s : Swept records d1 d2 r) where
    leaves_2 : Leaves d0 d2 (OneOf (records ∷ past))
    leaves_2 = and_then (OneOf (records ∷ past)) c.leaves (weaker (past_too records past) s.leaves)

    pub swept_closed : (q : Result (Unit {0}) Unfinished) → Closed records past d0 d2 q
    swept_closed q = record { leaves = leaves_2; left = quiet_each records past d2 s.quiet; done = on_ok q (λ u. s.quiet) (always q) }

    pub dropped : (d3 : Disk) (q : Result (Unit {0}) Fault) (p : Result (Unit {0}) Unfinished) → Cut d2 d3 0 q → Closed records past d0 d3 p
    dropped d3 q p did =
        let quiet : IsQuiet records d3 = quiet_cut records d2 d3 q s.quiet did in
        record {
          leaves = and_then (OneOf (records ∷ past)) leaves_2 (one_step (OneOf (records ∷ past)) did.time (quiet_each records past d3 quiet));
          left = quiet_each records past d3 quiet;
          done = on_ok p (λ u. quiet) (always p);
        }

module _ (records : Records) (past : List Records) (d0 d1 d2 : Disk) (q : Rested records past d0 d1 (Ok tt)) (r : Result (Vec Which Global) StoreError) (s : Swept records d1 d2 r) where
  pub leaves_swept : Leaves d0 d2 (OneOf (records ∷ past))
  leaves_swept = and_then (OneOf (records ∷ past)) q.leaves (weaker (past_too records past) s.leaves)

  pub left_swept : (c : Files) (l : Log) → d2.may_leave c l → OneOf (records ∷ past) c l
  left_swept = quiet_each records past d2 s.quiet

pub loaded : (records : Records) (past : List Records) (d0 d1 d2 d3 : Disk) → Rested records past d0 d1 (Ok tt) → (v : Vec Which Global) → Swept records d1 d2 (Ok v) → Stayed d2 d3 → Loaded records past d0 d3 (Ok v)
loaded records past d0 d1 d2 d3 q v s did =
    let quiet = quiet_stayed records d2 d3 s.quiet did in
    record {
      leaves = and_then (OneOf (records ∷ past)) (leaves_swept records past d0 d1 d2 q (Ok v) s) (one_step (OneOf (records ∷ past)) did.time (quiet_each records past d3 quiet));
      left = quiet_each records past d3 quiet;
      names = s.names;
      quiet = quiet;
      sound = quiet_sound records [] [] d3 quiet;
    }

pub still_there : (xs ys : List Which) (n : Which) → ys ≡ xs → Contains xs n → Contains ys n
still_there xs ys n is has = subst (λ (zs : List Which). Contains zs n) (sym is) has

pub none_there : (xs : List FileName) (x : FileName) → length xs < 1 → Contains xs x → ⊥
none_there xs x lt has = omega (arith, lt, has.1)

pub contains_by : (xs ys : List FileName) (x : FileName) → xs ≡ ys → Contains xs x → Contains ys x
contains_by xs ys x is has = subst (λ (zs : List FileName). Contains zs x) is has
