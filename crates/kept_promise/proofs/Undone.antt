-- No answer to a call of a rewrite's walk ends it well: it looks names up alone.
use Rattle.std.specs.Prelude.{nat_le}
use Rattle.std.proofs.Common.{◌≡◌, ℕ, ◌+◌, List, [], ◌∷◌, Option, Some, None, Bool, true, false, refl, sym, ap, ◌∙◌, subst}
use Rattle.nfs3_calls.specs.Nfs.{nfs_proc, proc_number}
use Rattle.nfs3_calls.specs.declared.message.Nfs.{Nfs}
use Rattle.nfs3_calls.specs.declared.message.Nfs.TheVariants as nfs
use Rattle.nfs3_calls.specs.declared.listing.Entry.{Entry}
use Rattle.nfs3_calls.specs.declared.listing.Listing.{Listing}
use Rattle.nfs3_calls.specs.declared.place.Found.{Found as FoundName}
use Rattle.xdr_codec.specs.Handle.{file_of}
use Rattle.xdr_codec.specs.declared.answer.Answer.TheVariants.{Done, Failed}
use Rattle.xdr_codec.specs.declared.attr.Attr.{Attr}
use Rattle.path_calls.specs.Walk.{pages_most, call_at, next_call}
use Rattle.path_calls.specs.Told.{finds, finds_anew, walk_told, told_found, told_page, told_attr, goes_down, sees, lists_on, more_pages, asks_page, with_page}
use Rattle.path_calls.specs.declared.answers.Ended.TheVariants as ended
use Rattle.path_calls.specs.declared.answers.Told.{Told}
use Rattle.path_calls.specs.declared.answers.Told.TheVariants as told
use Rattle.path_calls.specs.declared.walk.Goal.{Goal}
use Rattle.path_calls.specs.declared.walk.Goal.TheVariants as goal
use Rattle.path_calls.specs.declared.walk.Pages.{Pages}
use Rattle.path_calls.specs.declared.walk.Walk.{Walk}
use Rattle.open_close.specs.Walking.{is_its}
use Rattle.register_model.specs.declared.op.Word.TheVariants as words
use Rattle.kept_promise.proofs.Common.{◌==◌}
use Rattle.kept_promise.proofs.Messages.{goal_word}

abbrev IsUndone : Told → Type 0
IsUndone (told.Ends ended.Done) = ⊥
IsUndone t = Unit {0}

-- a name is looked up
looks : (dir : ℕ) (left : List (List ℕ)) (g : Goal) → goal_word g ≡ words.Rewrite → proc_number (nfs_proc (call_at dir left g)) ≡ 3
looks dir (n ∷ ns) g e = refl
looks dir [] (goal.Rewrite n) e = refl
looks dir [] _ e = absurd cc

pub rewrite_undone : (w : Walk) (a : Nfs) → is_its w a ≡ true → walk_told w a ≡ told.Ends ended.Done → goal_word w.goal ≡ words.Rewrite → ⊥
rewrite_undone w a own done renews = subst IsUndone done (by a own)
  where
    down : (ns : List (List ℕ)) (g : Goal) (o : Option ℕ) → IsUndone (goes_down ns g o)
    down ns g None = tt
    down ns g (Some d) = tt

    opened : (o : Option ℕ) → IsUndone (finds o)
    opened None = tt
    opened (Some d) = tt

    renewed : (o : Option ℕ) → IsUndone (finds_anew o)
    renewed None = tt
    renewed (Some d) = tt

    saw : (o : Option ℕ) (b : Option Attr) → IsUndone (sees o b)
    saw None b = tt
    saw (Some d) None = tt
    saw (Some d) (Some b) = tt

    found : (left : List (List ℕ)) (g : Goal) (f : FoundName) → IsUndone (told_found left g f)
    found (n ∷ ns) g f = down ns g (file_of f.handle)
    found [] (goal.Find n) f = opened (file_of f.handle)
    found [] (goal.Rewrite n) f = renewed (file_of f.handle)
    found [] (goal.Look n) f = saw (file_of f.handle) f.attr
    found [] g f = tt

    ends : (dir : ℕ) (p : Pages) (b : Bool) → IsUndone (asks_page dir p b)
    ends dir p true = tt
    ends dir p false = tt

    more : (dir : ℕ) (p : Pages) (es : List Entry) → IsUndone (more_pages dir p es)
    more dir p [] = tt
    more dir p (x ∷ es) = ends dir p (nat_le pages_most (p.count + 1))

    listed : (dir : ℕ) (p : Pages) (es : List Entry) (eof : Bool) → IsUndone (lists_on dir p es eof)
    listed dir p es true = tt
    listed dir p es false = more dir p es

    page : (g : Goal) (l : Listing) → IsUndone (told_page w.dir g l)
    page (goal.List p) l = listed w.dir (with_page p l) l.entries l.eof
    page g l = tt

    attr : (g : Goal) (b : Attr) → IsUndone (told_attr w.dir g b)
    attr goal.LookRoot b = tt
    attr g b = tt

    -- an answer to a call that changes names is none of its calls'
    other : {A : Type 0} (n : ℕ) → (n == 3) ≡ false → (n == proc_number (nfs_proc (next_call w))) ≡ true → A
    other n apart own = absurd (never (sym (ap (λ (m : ℕ). n == m) (looks w.dir w.left w.goal renews) ∙ apart) ∙ own))
      where
        never : false ≡ true → ⊥
        never e = cc

    by : (a : Nfs) → is_its w a ≡ true → IsUndone (walk_told w a)
    by (nfs.LookupAnswer (Done f)) own = found w.left w.goal f
    by (nfs.LookupAnswer (Failed s b)) own = tt
    by (nfs.GetAttrAnswer (Done b)) own = attr w.goal b
    by (nfs.GetAttrAnswer (Failed s b)) own = tt
    by (nfs.ReadDirAnswer (Done l)) own = page w.goal l
    by (nfs.ReadDirAnswer (Failed s b)) own = tt
    by (nfs.CreateAnswer b) own = other 8 refl own
    by (nfs.MkDirAnswer b) own = other 9 refl own
    by (nfs.RemoveAnswer b) own = other 12 refl own
    by (nfs.RmDirAnswer b) own = other 13 refl own
    by (nfs.RenameAnswer b) own = other 14 refl own
    by a own = tt
