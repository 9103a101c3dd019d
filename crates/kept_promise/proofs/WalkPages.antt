-- A listing that gave up asked for as many pages as it may; and none goes on as an open of a file.
use Rattle.std.proofs.Common.{◌≡◌, ℕ, ◌+◌, ◌<◌, List, [], ◌∷◌, Option, Some, None, Bool, true, false, refl, ap, ◌∙◌, subst, arith}
use Rattle.std.proofs.lemmas.Bool.Decides.{nat_tests}
use Rattle.std.specs.Prelude.{nat_le}
use Rattle.xdr_codec.specs.Handle.{file_of}
use Rattle.xdr_codec.specs.declared.answer.Answer.TheVariants.{Done, Failed}
use Rattle.xdr_codec.specs.declared.status.Status.{Status}
use Rattle.command_text.specs.declared.path.PathCommand.TheVariants as path
use Rattle.nfs3_calls.specs.declared.message.Nfs.{Nfs}
use Rattle.nfs3_calls.specs.declared.message.Nfs.TheVariants as nfs
use Rattle.nfs3_calls.specs.declared.listing.Entry.{Entry}
use Rattle.nfs3_calls.specs.declared.listing.Listing.{Listing}
use Rattle.wire.specs.declared.message.Body.TheVariants as body
use Rattle.wire.specs.declared.message.Message.TheVariants as message
use Rattle.open_close.specs.Walking.{is_its}
use Rattle.path_calls.specs.Told.{walk_told, goes_down, lists_on, asks_page, with_page}
use Rattle.path_calls.specs.Walk.{begun, call_at, no_pages, pages_most}
use Rattle.path_calls.specs.declared.answers.Ended.TheVariants as walk_end
use Rattle.path_calls.specs.declared.answers.Told.{Told as Leading}
use Rattle.path_calls.specs.declared.answers.Told.TheVariants as leading
use Rattle.path_calls.specs.declared.walk.Goal.TheVariants as goal
use Rattle.path_calls.specs.declared.walk.Pages.{Pages}
use Rattle.path_calls.specs.declared.walk.Walk.{Walk}
use Rattle.register_model.specs.declared.op.Word.TheVariants as words
use Rattle.trace_replay.specs.Naming.{page_number, pages_in}
use Rattle.trace_replay.specs.Traffic.{AreOwn}
use Rattle.kept_promise.proofs.Common.{Stage, Deal, Deal.Sent, Deal.Took}
use Rattle.kept_promise.proofs.Messages.{stage_word}
use Rattle.kept_promise.proofs.StepCases.{IsOfFile}
use Rattle.kept_promise.proofs.WalkLog.{GoesAs, IsUnder, GaveUp}
use Rattle.trace_replay.specs.Walking.{Part.asks}

-- ---- what an answer leads to

abbrev pub lists : (dir : ℕ) → (left : List (List ℕ)) → Pages → Walk
lists dir left p = record { dir = dir; left = left; goal = goal.List p }

-- a page is asked for where no name is left
abbrev asked : List (List ℕ) → ℕ
asked [] = 1
asked (n ∷ ns) = 0

abbrev pub ListsTo : (left : List (List ℕ)) → Pages → Leading → Type 0
ListsTo left p (leading.Asks v) = (d : ℕ) × (l : List (List ℕ)) × (q : Pages) × (v ≡ lists d l q) × (q.count ≡ p.count + asked left) × (q.count < pages_most)
ListsTo left p (leading.Ends e) = e ≡ walk_end.NoLink → p.count + asked left ≡ pages_most
ListsTo left p (leading.Finds id) = ⊥
ListsTo left p (leading.Rewrites id) = ⊥
ListsTo left p t = Unit {0}

refused_to : (left : List (List ℕ)) (p : Pages) (s : Status) → ListsTo left p (leading.Ends (walk_end.Refused s))
refused_to left p s e = absurd cc

done_to : (left : List (List ℕ)) (p : Pages) → ListsTo left p (leading.Ends walk_end.Done)
done_to left p e = absurd cc

names_to : (p : Pages) (ns : List (List ℕ)) → ListsTo [] p (leading.Ends (walk_end.Names ns))
names_to p ns e = absurd cc

page_to : (dir : ℕ) (p : Pages) (l : Listing) → p.count < pages_most → ListsTo [] p (lists_on dir (with_page p l) l.entries l.eof)
page_to dir p l few = by l.entries l.eof
  where
    next : (b : Bool) → nat_le pages_most (p.count + 1) ≡ b → ListsTo [] p (asks_page dir (with_page p l) b)
    next true e = λ same. let le : pages_most < p.count + 2 = grind (arith, nat_tests, e) in omega (arith, le, few)
    next false e = (dir, [], record (with_page p l) { count = p.count + 1 }, refl, refl, grind (arith, nat_tests, e))

    by : (es : List Entry) (eof : Bool) → ListsTo [] p (lists_on dir (with_page p l) es eof)
    by es true = names_to p (with_page p l).names
    by [] false = tt
    by (e ∷ es) false = next (nat_le pages_most (p.count + 1)) refl

down_to : (n : List ℕ) (ns : List (List ℕ)) (p : Pages) → p.count < pages_most → (id : Option ℕ) → ListsTo (n ∷ ns) p (goes_down ns (goal.List p) id)
down_to n ns p few None = tt
down_to n [] p few (Some id) = (id, [], p, refl, omega arith, few)
down_to n (m ∷ ns) p few (Some id) = (id, m ∷ ns, p, refl, omega arith, few)

answer_to : (dir : ℕ) (left : List (List ℕ)) (p : Pages) (a : Nfs) → p.count < pages_most → is_its (lists dir left p) a ≡ true → ListsTo left p (walk_told (lists dir left p) a)
answer_to dir [] p (nfs.LookupAnswer (Done f)) few its = tt
answer_to dir (n ∷ ns) p (nfs.LookupAnswer (Done f)) few its = down_to n ns p few (file_of f.handle)
answer_to dir [] p (nfs.ReadDirAnswer (Done l)) few its = page_to dir p l few
answer_to dir (n ∷ ns) p (nfs.ReadDirAnswer (Done l)) few its = absurd cc
answer_to dir left p (nfs.GetAttrAnswer (Done a)) few its = tt
answer_to dir left p (nfs.LookupAnswer (Failed s a)) few its = refused_to left p s
answer_to dir left p (nfs.GetAttrAnswer (Failed s a)) few its = refused_to left p s
answer_to dir left p (nfs.ReadDirAnswer (Failed s a)) few its = refused_to left p s
answer_to dir left p (nfs.CreateAnswer (Done d)) few its = done_to left p
answer_to dir left p (nfs.CreateAnswer (Failed s a)) few its = refused_to left p s
answer_to dir left p (nfs.MkDirAnswer (Done d)) few its = done_to left p
answer_to dir left p (nfs.MkDirAnswer (Failed s a)) few its = refused_to left p s
answer_to dir left p (nfs.RemoveAnswer (Done d)) few its = done_to left p
answer_to dir left p (nfs.RemoveAnswer (Failed s a)) few its = refused_to left p s
answer_to dir left p (nfs.RmDirAnswer (Done d)) few its = done_to left p
answer_to dir left p (nfs.RmDirAnswer (Failed s a)) few its = refused_to left p s
answer_to dir left p (nfs.RenameAnswer (Done d)) few its = done_to left p
answer_to dir left p (nfs.RenameAnswer (Failed s a)) few its = refused_to left p s
answer_to dir left p a few its = tt

-- ---- what was said

pub gave_pages : (ds : List Deal) (dir : ℕ) (left : List (List ℕ)) (p : Pages) → p.count < pages_most → GaveUp (asks (lists dir left p)) ds → pages_in ds + p.count ≡ pages_most
gave_pages (Sent (message.Call xid (body.Nfs m)) ∷ (Took (message.Answer y (body.Nfs a)) ∷ ds)) dir left p few h =
    let call = number left ∙ refl in
    let one : page_number (Sent (message.Call xid (body.Nfs m))) ≡ asked left = ap (λ (z : Nfs). page_number (Sent (message.Call xid (body.Nfs z)))) h.0 ∙ call in
    let e = by (walk_told (lists dir left p) a) (answer_to dir left p a few h.1.1) (λ d l q lt g. gave_pages ds d l q lt g) h.1.2 in
    omega (arith, one, e)
  where
    number : (ns : List (List ℕ)) → page_number (Sent (message.Call xid (body.Nfs (call_at dir ns (goal.List p))))) ≡ asked ns
    number [] = refl
    number (n ∷ ns) = refl

    by : (t : Leading) → ListsTo left p t → ((d : ℕ) (l : List (List ℕ)) (q : Pages) → q.count < pages_most → GaveUp (asks (lists d l q)) ds → pages_in ds + q.count ≡ pages_most) → elim t as (λ (x : Leading). Type 0) [ leading.Asks v ↦ GaveUp (asks v) ds | leading.Ends e ↦ (ds ≡ []) × (e ≡ walk_end.NoLink) | _ ↦ ⊥ ] → pages_in ds + (p.count + asked left) ≡ pages_most
    by (leading.Asks v) to rest g = let e = rest to.0 to.1 to.2 to.5 (subst (λ (z : Walk). GaveUp (asks z) ds) to.3 g) in let c = to.4 in omega (arith, e, c)
    by (leading.Ends z) to rest g = let none = ap pages_in g.0 in let e = to g.1 in omega (arith, none, e)
    by (leading.Finds id) to rest g = absurd to
    by (leading.Rewrites id) to rest g = absurd to
    by t to rest g = absurd g
gave_pages (Sent (message.Call xid (body.Nfs m)) ∷ []) dir left p few h = absurd h.1
gave_pages (Sent (message.Call xid (body.Nfs m)) ∷ (d ∷ ds)) dir left p few h = absurd h.1
gave_pages ds dir left p few h = absurd h

-- no listing opens a file, or writes it anew
pub lists_file : (ds : List Deal) (dir : ℕ) (left : List (List ℕ)) (p : Pages) → p.count < pages_most → (file : ℕ) (st : Stage) → IsUnder (asks (lists dir left p)) ds file st → IsOfFile st → ⊥
lists_file (Sent (message.Call xid (body.Nfs m)) ∷ (Took (message.Answer y (body.Nfs a)) ∷ ds)) dir left p few file st h of = by (walk_told (lists dir left p) a) (answer_to dir left p a few h.1.1) (λ d l q lt g. lists_file ds d l q lt file st g of) h.1.2
  where
    by : (t : Leading) → ListsTo left p t → ((d : ℕ) (l : List (List ℕ)) (q : Pages) → q.count < pages_most → IsUnder (asks (lists d l q)) ds file st → ⊥) → elim t as (λ (x : Leading). Type 0) [ leading.Asks v ↦ IsUnder (asks v) ds file st | leading.Finds id ↦ GoesAs words.Open id file ds st | leading.Rewrites id ↦ GoesAs words.Rewrite id file ds st | _ ↦ ⊥ ] → ⊥
    by (leading.Asks v) to rest g = rest to.0 to.1 to.2 to.5 (subst (λ (z : Walk). IsUnder (asks z) ds file st) to.3 g)
    by (leading.Finds id) to rest g = absurd to
    by (leading.Rewrites id) to rest g = absurd to
    by t to rest g = absurd g
lists_file (Sent (message.Call xid (body.Nfs m)) ∷ []) dir left p few file st h of = absurd (subst IsOfFile h.1 of)
lists_file (Sent (message.Call xid (body.Nfs m)) ∷ (d ∷ ds)) dir left p few file st h of = absurd h.1
lists_file ds dir left p few file st h of = absurd h

pub begun_pages : (ns : List (List ℕ)) (ds : List Deal) → GaveUp (asks (begun (path.List ns))) ds → pages_in ds ≡ pages_most
begun_pages ns ds h = let e = gave_pages ds 1 ns no_pages (omega arith) h in omega (arith, e)

pub begun_file : (ns : List (List ℕ)) (ds : List Deal) (file : ℕ) (st : Stage) → IsUnder (asks (begun (path.List ns))) ds file st → IsOfFile st → ⊥
begun_file ns ds file st h of = lists_file ds 1 ns no_pages (omega arith) file st h of
