-- A session that is no client's takes a step: what it leaves, and what the history says of the tree's files where it changed one.
use Rattle.std.proofs.Common.{inl, inr, ◌≡◌, ℕ, ◌+◌, List, [], ◌∷◌, ◌++◌, length, map, replicate, refl, sym, ap, ◌∙◌, subst, None}
use Rattle.std.specs.List.{AllByRecursion}
use Rattle.register_model.specs.declared.raw.Raw.{Raw}
use Rattle.register_model.specs.Raw.{op_of, word_of}
use Rattle.server_core.specs.State as server
use Rattle.server_core.specs.Recalling.{recall_sent}
use Rattle.server_core.specs.declared.event.Sent.{Sent}
use Rattle.callback_core.specs.declared.back_calls.Asked.{Asked}
use Rattle.chunk_calls.specs.Files as the_files
use Rattle.kept_promise.proofs.Common.{Entry, Op, Book, history, value_at, version_at, value_from, Tree, Core, CoreStep, Loss.Nothing, Session, Queue}
use Rattle.kept_promise.proofs.Lists.{same_or_not}
use Rattle.kept_promise.proofs.Marks.{marks, mark_of}
use Rattle.kept_promise.proofs.Rights.{IsSound}
use Rattle.kept_promise.proofs.Growth.{value_alike, version_alike}
use Rattle.kept_promise.proofs.History.{stranger_book, grows_stranger, stranger_now, value_then, version_then, marks_then}
use Rattle.kept_promise.proofs.MadeFiles.{file_alike, at_two}
use Rattle.kept_promise.proofs.Facts.{FileIs, IsKept}
use Rattle.kept_promise.proofs.Turns.{RawTurn, raw_core, kept_raw_turn, kept_noted, CameOn}
use Rattle.kept_promise.proofs.Recallings.{recalls_alone}
use Rattle.kept_promise.proofs.Leading.{Leads, IsFit, IsStray}

-- ---- files

-- any other file is as it was
pub stranger_else : (book : Book) (r : Raw) (es : List Entry) (g : ℕ) → r.point ≡ book.steps + 1 → (r.file ≡ g → ⊥) → IsSound book → (let more = stranger_book book r es in (value_at more g (more.steps + 1) ≡ value_at book g (book.steps + 1)) × (version_at more g (more.steps + 1) ≡ version_at book g (book.steps + 1)))
stranger_else book r es g now apart sound =
    let more = stranger_book book r es in
    let same : marks g (book.steps + 1 + 1) (history more).ops ≡ marks g (book.steps + 1) (history book).ops = at_two (λ n. marks g n (history more).ops ≡ marks g (book.steps + 1) (history book).ops) book.steps (marks_then book more r.file g (mark_of (op_of r)) (stranger_now book r es now) apart sound) in
    (value_alike book more g (book.steps + 1 + 1) (book.steps + 1) refl same, version_alike book more g (book.steps + 1 + 1) (book.steps + 1) refl same)

-- the file itself is what it left, in the next version
pub stranger_own : (book : Book) (r : Raw) (es : List Entry) → r.point ≡ book.steps + 1 → IsSound book → (let more = stranger_book book r es in (value_at more r.file (more.steps + 1) ≡ value_from (word_of r.kind) r.value) × (version_at more r.file (more.steps + 1) ≡ version_at book r.file (book.steps + 1) + 1))
stranger_own book r es now sound =
    let more = stranger_book book r es in
    let made = stranger_now book r es now in
    (at_two (λ n. value_at more r.file n ≡ value_from (word_of r.kind) r.value) book.steps (value_then book more r.file (mark_of (op_of r)) made sound), at_two (λ n. version_at more r.file n ≡ version_at book r.file (book.steps + 1) + 1) book.steps (version_then book more r.file (mark_of (op_of r)) made sound))

-- what the tree has of each, once it left one so
pub stranger_files : (book : Book) (r : Raw) (es : List Entry) (t after : Tree) → r.point ≡ book.steps + 1 → IsSound book → FileIs (stranger_book book r es) r.file (the_files.file_at after r.file) → ((f : ℕ) → (r.file ≡ f → ⊥) → the_files.file_at after f ≡ the_files.file_at t f)
    → ((f : ℕ) → FileIs book f (the_files.file_at t f)) → (f : ℕ) → FileIs (stranger_book book r es) f (the_files.file_at after f)
stranger_files book r es t after now sound own others held f = elim (same_or_not r.file f) [
  | inl here ↦ subst (λ (z : ℕ). FileIs (stranger_book book r es) z (the_files.file_at after z)) here own
  | inr apart ↦
      let same = stranger_else book r es f now apart sound in
      subst (FileIs (stranger_book book r es) f) (sym (others f apart)) (file_alike book (stranger_book book r es) None None f (the_files.file_at t f) (grows_stranger book r es now) same.0 same.1 (held f))
]

-- what no file has had as its number has no version
pub stranger_fresh : (book : Book) (r : Raw) (es : List Entry) (f : ℕ) → r.point ≡ book.steps + 1 → IsSound book → (r.file ≡ f → ⊥) → version_at book f (book.steps + 1) ≡ 0 → (let more = stranger_book book r es in version_at more f (more.steps + 1) ≡ 0)
stranger_fresh book r es f now sound apart fresh = (stranger_else book r es f now apart sound).1 ∙ fresh

-- ---- the step

-- what is sent to itself vanishes, and RECALLs go to others
abbrev pub raw_step : Core → server.State → List Session → (entries came : List ℕ) → List Raw → List Sent → CoreStep
raw_step k r sessions entries came raws down = record {
  core = record k { steps = k.steps + 1; server = r; sessions = sessions; entries = entries; came = came; raws = raws };
  loss = Nothing;
  session = None;
  up = [];
  down = down;
}

pub leads_raw : (book more : Book) (k : Core) (qs : List Queue) (r : server.State) (sessions : List Session) (n : ℕ) (x y : Session) (entries came : List ℕ) (raws : List Raw) (strays : List Sent) (recalls : List Asked)
    → IsKept book k qs → RawTurn book more k qs r sessions n x y → more.journal ≡ r.journal → more.moments ≡ book.moments → more.opening ≡ book.opening → more.steps ≡ k.steps + 1 → more.entries ≡ entries → more.raws ≡ raws → CameOn k.came came (k.steps + 1)
    → AllByRecursion (IsStray sessions) strays → AllByRecursion IsFit recalls → Leads book qs (raw_step k r sessions entries came raws (strays ++ map recall_sent recalls))
leads_raw book more k qs r sessions n x y entries came raws strays recalls kept t journal moments opening steps entries_is raws_is on cut fit =
    let c : Core = record k { steps = k.steps + 1; server = r; sessions = sessions; entries = entries; came = came; raws = raws } in
    let core : raw_core k more r sessions ≡ record k { steps = k.steps + 1; server = r; sessions = sessions; entries = entries; raws = raws } =
    ap (λ (s : ℕ). record k { server = r; sessions = sessions; steps = s; ops = more.ops; entries = more.entries; raws = more.raws }) steps
    ∙ ap (λ (o : List Op). record k { server = r; sessions = sessions; steps = k.steps + 1; ops = o; entries = more.entries; raws = more.raws }) (t.ops ∙ kept.ops)
    ∙ ap (λ (l : List ℕ). record k { server = r; sessions = sessions; steps = k.steps + 1; entries = l; raws = more.raws }) entries_is
    ∙ ap (λ (l : List Raw). record k { server = r; sessions = sessions; steps = k.steps + 1; entries = entries; raws = l }) raws_is in
    record {
      sends = record { replies = []; replies_fit = tt; asks = []; up_is = refl; strays = strays; strays_cut = cut; recalls = recalls; recalls_fit = fit; tolds = []; down_is = ap (λ (l : List Sent). strays ++ l) (recalls_alone recalls) };
      more = more;
      moments = moments;
      opening = opening;
      kept = kept_noted more c qs k.came raws refl on (subst (λ (z : Core). IsKept more z qs) core (kept_raw_turn book more k qs r sessions n x y t journal kept));
    }
