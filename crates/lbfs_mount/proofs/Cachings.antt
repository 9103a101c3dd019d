-- How a mount ends that has a cache file, from how its parts end.
use Rattle.std.proofs.Common.{◌≡◌, inl, inr, ℕ, ◌≤◌, List, [], Option, Result, Ok, Err, Bool, true, false, refl, sym, subst, arith}
use Rattle.std.specs.Prelude.{OnOk, IsErrOf}
use Rattle.std.proofs.lemmas.List.{append-nil}
use Rattle.lbfs_client.specs.declared.line.MountLine.{MountLine}
use Rattle.mount_desk.specs.Turns.{IsAnswer}
use Rattle.lbfs_mount.specs.Cached.{Notes, NoticeEnds, IsDoneAll, WritesAll, FailsAll, EndsAll, SavesAfter}
use Rattle.lbfs_mount.specs.Mounts.{Outside, Fails, Ends, Unwritten, WriteEnds}
use Rattle.lbfs_mount.specs.declared.mount_error.MountError.{MountError}
use Rattle.lbfs_mount.specs.declared.mount_error.MountError.TheVariants as errors
use Rattle.lbfs_mount.proofs.Progress.{ends_writes, rose_more, appends_none, writes_nothing}

-- ---- nothing is to be said

pub none_noted : (cached : Bool) (held : Option (List ℕ)) → Notes cached held held
none_noted true held = ([], inl refl, appends_none held)
none_noted false held = ([], refl, appends_none held)

-- ---- one answer was

pub noticed : (text : List ℕ) (held held' : Option (List ℕ)) (writes writes' : ℕ) (r : Result Unit MountError) → IsAnswer text → WriteEnds text held held' writes writes' r → NoticeEnds true held held' writes writes' r
noticed text held held' writes writes' (Ok u) is out = (text, inr is, out)
noticed text held held' writes writes' (Err e) is (out, why) = ((text, inr is, out), why)

no_error : (u : Unit {0}) (e : MountError) → Ok u ≡ Err e → ⊥
no_error u e is = cc

module _ (Says : MountLine → List ℕ → Type 0) where
  pub none_written : (cached : Bool) (held : Option (List ℕ)) → WritesAll Says cached held held
  none_written cached held = WritesAll.lines (held, none_noted cached held, writes_nothing Says held)

  -- ---- the cache file was read, and what was to be said of that wasn't written

  unwritten : (cached : Bool) (lf : Type 0) (o s : Outside) (e : MountError) → Unwritten o.writes s.writes e → FailsAll Says cached lf o s e
  unwritten cached lf o s errors.WriteFault h = h
  unwritten cached lf o s errors.Memory h = tt
  unwritten cached lf o s errors.ReadFault h = absurd h
  unwritten cached lf o s errors.Network h = absurd h
  unwritten cached lf o s (errors.BadLine n) h = absurd h
  unwritten cached lf o s errors.TooLong h = absurd h

  pub unnoticed : (cached : Bool) (lf : Type 0) (o : Outside) (held' : Option (List ℕ)) (writes' : ℕ) (e : MountError) → NoticeEnds cached o.held held' o.writes writes' (Err e)
      → EndsAll Says cached lf o (record o { held = held'; writes = writes' }) (Err e)
  unnoticed cached lf o held' writes' e h = (WritesAll.notice h.0, unwritten cached lf o (record o { held = held'; writes = writes' }) e h.1)

  -- ---- the lines were run, and the cache file was written or not

  still_fails : (cached : Bool) (lf : Type 0) (o t : Outside) (first : Option (List ℕ)) (writes : ℕ) (e : MountError) → Notes cached o.held first → o.writes ≤ writes → Fails Says lf (record o { held = first; writes = writes }) t e → FailsAll Says cached lf o t e
  still_fails cached lf o t first writes errors.ReadFault n le h = h
  still_fails cached lf o t first writes errors.WriteFault n le h = rose_more o.writes writes t.writes le h
  still_fails cached lf o t first writes errors.Network n le h = h
  still_fails cached lf o t first writes (errors.BadLine k) n le h = (first, n, h)
  still_fails cached lf o t first writes errors.TooLong n le h = h
  still_fails cached lf o t first writes errors.Memory n le h = tt

  last_fails : (cached : Bool) (lf : Type 0) (o s : Outside) (writes : ℕ) (e : MountError) → o.writes ≤ writes → Unwritten writes s.writes e → FailsAll Says cached lf o s e
  last_fails cached lf o s writes errors.WriteFault le h = rose_more o.writes writes s.writes le h
  last_fails cached lf o s writes errors.Memory le h = tt
  last_fails cached lf o s writes errors.ReadFault le h = absurd h
  last_fails cached lf o s writes errors.Network le h = absurd h
  last_fails cached lf o s writes (errors.BadLine n) le h = absurd h
  last_fails cached lf o s writes errors.TooLong le h = absurd h

  pub saved : (cached : Bool) (lf : Type 0) (o t : Outside) (first held' : Option (List ℕ)) (writes writes' : ℕ) (ended r : Result Unit MountError)
      → Notes cached o.held first → o.writes ≤ writes → Ends Says lf (record o { held = first; writes = writes }) t ended → writes ≤ t.writes
      → SavesAfter cached ended t.held held' t.writes writes' r → EndsAll Says cached lf o (record t { held = held'; writes = writes' }) r
  saved cached lf o t first held' writes writes' (Ok u) (Ok v) n le ends later h = (first, t.held, n, ends, h)
  saved cached lf o t first held' writes writes' (Ok u) (Err e) n le ends later h = (
    WritesAll.last first t.held n (ends_writes Says lf (record o { held = first; writes = writes }) t (Ok u) ends) h.0,
    last_fails cached lf o (record t { held = held'; writes = writes' }) t.writes e (omega (arith, le, later)) h.1,
  )
  saved cached lf o t first held' writes writes' (Err e) r n le ends later h =
      let same : EndsAll Says cached lf o t (Err e) = (WritesAll.lines (first, n, ends.0), still_fails cached lf o t first writes e n le ends.1) in
      subst (λ (x : Result Unit MountError). EndsAll Says cached lf o (record t { held = held'; writes = writes' }) x) (sym h.0)
      (subst (λ (w : ℕ). EndsAll Says cached lf o (record t { held = held'; writes = w }) (Err e)) (sym h.2) (subst (λ (x : Option (List ℕ)). EndsAll Says cached lf o (record t { held = x }) (Err e)) (sym h.1) same))

  -- ---- what a mount promises

  pub all_done : (cached : Bool) (lf : Type 0) (o s : Outside) (r : Result Unit MountError) → EndsAll Says cached lf o s r → OnOk r (IsDoneAll Says cached o.left s.left o.held s.held)
  all_done cached lf o s (Ok u) h = h
  all_done cached lf o s (Err e) h = tt

  pub all_writes : (cached : Bool) (lf : Type 0) (o s : Outside) (r : Result Unit MountError) → EndsAll Says cached lf o s r → WritesAll Says cached o.held s.held
  all_writes cached lf o s (Ok u) (first, last, n, done, m) =
      WritesAll.last first last n (ends_writes Says lf (record o { held = first }) (record s { held = last }) (Ok u) done) (m.0, m.1, (m.0, [], append-nil m.0, m.2))
  all_writes cached lf o s (Err e) h = h.0

  pub all_fails : (cached : Bool) (lf : Type 0) (o s : Outside) (r : Result Unit MountError) (e : MountError) → EndsAll Says cached lf o s r → IsErrOf r e → FailsAll Says cached lf o s e
  all_fails cached lf o s (Ok u) e h is = absurd (no_error u e is)
  all_fails cached lf o s (Err f) e h is =
      let same : f ≡ e = cc in
      subst (FailsAll Says cached lf o s) same h.1
