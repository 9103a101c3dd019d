-- Only an open, or a rewrite, is told of a file that a path stands for, and a walk that goes on is one of the same command.
use Rattle.std.specs.Prelude.{nat_le}
use Rattle.std.proofs.Common.{◌≡◌, ℕ, ◌+◌, List, [], ◌∷◌, Option, Some, None, Bool, true, false, refl, subst}
use Rattle.nfs3_calls.specs.declared.message.Nfs.{Nfs}
use Rattle.nfs3_calls.specs.declared.message.Nfs.TheVariants as nfs
use Rattle.nfs3_calls.specs.declared.listing.Entry.{Entry}
use Rattle.nfs3_calls.specs.declared.listing.Listing.{Listing}
use Rattle.nfs3_calls.specs.declared.place.Found.{Found as FoundName}
use Rattle.xdr_codec.specs.Handle.{file_of}
use Rattle.xdr_codec.specs.declared.answer.Answer.{Answer}
use Rattle.xdr_codec.specs.declared.answer.Answer.TheVariants.{Done, Failed}
use Rattle.xdr_codec.specs.declared.attr.Attr.{Attr}
use Rattle.path_calls.specs.Walk.{pages_most, arrives}
use Rattle.path_calls.specs.Told.{finds as finds_id, finds_anew, walk_told, told_found, told_page, told_attr, plainly_told, changed_by, goes_down, sees, lists_on, more_pages, asks_page, with_page}
use Rattle.path_calls.specs.declared.answers.Told.{Told}
use Rattle.path_calls.specs.declared.answers.Told.TheVariants as told
use Rattle.path_calls.specs.declared.walk.Goal.{Goal}
use Rattle.path_calls.specs.declared.walk.Goal.TheVariants as goal
use Rattle.path_calls.specs.declared.walk.Pages.{Pages}
use Rattle.path_calls.specs.declared.walk.Walk.{Walk}
use Rattle.register_model.specs.declared.op.Word.{Word}
use Rattle.register_model.specs.declared.op.Word.TheVariants as words
use Rattle.kept_promise.proofs.Messages.{goal_word}

-- ---- a file is found for an open or a rewrite alone

-- what this word asks for, where a file is found
abbrev pub FoundFor : Word → Told → Type 0
FoundFor what (told.Finds id) = what ≡ words.Open
FoundFor what (told.Rewrites id) = what ≡ words.Rewrite
FoundFor what t = Unit {0}

pub found_for : (w : Walk) (a : Nfs) → FoundFor (goal_word w.goal) (walk_told w a)
found_for w a = by a
  where
    down : (what : Word) (ns : List (List ℕ)) (g : Goal) (o : Option ℕ) → FoundFor what (goes_down ns g o)
    down what ns g None = tt
    down what ns g (Some d) = tt

    opened : (o : Option ℕ) → FoundFor words.Open (finds_id o)
    opened None = tt
    opened (Some d) = refl

    renewed : (o : Option ℕ) → FoundFor words.Rewrite (finds_anew o)
    renewed None = tt
    renewed (Some d) = refl

    saw : (o : Option ℕ) (b : Option Attr) → FoundFor words.Look (sees o b)
    saw None b = tt
    saw (Some d) None = tt
    saw (Some d) (Some b) = tt

    found : (left : List (List ℕ)) (g : Goal) (f : FoundName) → FoundFor (goal_word g) (told_found left g f)
    found (n ∷ ns) g f = down (goal_word g) ns g (file_of f.handle)
    found [] (goal.Find n) f = opened (file_of f.handle)
    found [] (goal.Rewrite n) f = renewed (file_of f.handle)
    found [] (goal.Look n) f = saw (file_of f.handle) f.attr
    found [] g f = tt

    ends : (what : Word) (dir : ℕ) (p : Pages) (b : Bool) → FoundFor what (asks_page dir p b)
    ends what dir p true = tt
    ends what dir p false = tt

    more : (what : Word) (dir : ℕ) (p : Pages) (es : List Entry) → FoundFor what (more_pages dir p es)
    more what dir p [] = tt
    more what dir p (x ∷ es) = ends what dir p (nat_le pages_most (p.count + 1))

    listed : (what : Word) (dir : ℕ) (p : Pages) (es : List Entry) (eof : Bool) → FoundFor what (lists_on dir p es eof)
    listed what dir p es true = tt
    listed what dir p es false = more what dir p es

    page : (g : Goal) (l : Listing) → FoundFor (goal_word g) (told_page w.dir g l)
    page (goal.List p) l = listed words.List w.dir (with_page p l) l.entries l.eof
    page g l = tt

    attr : (g : Goal) (b : Attr) → FoundFor (goal_word g) (told_attr w.dir g b)
    attr goal.LookRoot b = tt
    attr g b = tt

    changes : {D F : Type 0} (b : Answer D F) → FoundFor (goal_word w.goal) (changed_by b)
    changes (Done d) = tt
    changes (Failed s f) = tt

    plain : (a : Nfs) → FoundFor (goal_word w.goal) (plainly_told a)
    plain (nfs.LookupAnswer (Failed s b)) = tt
    plain (nfs.GetAttrAnswer (Failed s b)) = tt
    plain (nfs.ReadDirAnswer (Failed s b)) = tt
    plain (nfs.CreateAnswer b) = changes b
    plain (nfs.MkDirAnswer b) = changes b
    plain (nfs.RemoveAnswer b) = changes b
    plain (nfs.RmDirAnswer b) = changes b
    plain (nfs.RenameAnswer b) = changes b
    plain a = tt

    by : (a : Nfs) → FoundFor (goal_word w.goal) (walk_told w a)
    by (nfs.LookupAnswer (Done f)) = found w.left w.goal f
    by (nfs.GetAttrAnswer (Done b)) = attr w.goal b
    by (nfs.ReadDirAnswer (Done l)) = page w.goal l
    by a = plain a

pub finds_open : (w : Walk) (a : Nfs) (id : ℕ) → walk_told w a ≡ told.Finds id → goal_word w.goal ≡ words.Open
finds_open w a id e = subst (FoundFor (goal_word w.goal)) e (found_for w a)

pub finds_rewrite : (w : Walk) (a : Nfs) (id : ℕ) → walk_told w a ≡ told.Rewrites id → goal_word w.goal ≡ words.Rewrite
finds_rewrite w a id e = subst (FoundFor (goal_word w.goal)) e (found_for w a)

-- ---- a walk goes on

-- with this word, if it does
abbrev GoesOn : Word → Told → Type 0
GoesOn what (told.Asks v) = goal_word v.goal ≡ what
GoesOn what t = Unit {0}

arrives_word : (dir : ℕ) (left : List (List ℕ)) (g : Goal) → goal_word (arrives dir left g).goal ≡ goal_word g
arrives_word dir (n ∷ ns) g = refl
arrives_word dir [] (goal.RenameFrom n to) = refl
arrives_word dir _ _ = refl

pub asks_word : (w : Walk) (a : Nfs) (v : Walk) → walk_told w a ≡ told.Asks v → goal_word v.goal ≡ goal_word w.goal
asks_word w a v e = subst (GoesOn (goal_word w.goal)) e (by a)
  where
    down : (ns : List (List ℕ)) (g : Goal) (o : Option ℕ) → GoesOn (goal_word g) (goes_down ns g o)
    down ns g None = tt
    down ns g (Some d) = arrives_word d ns g

    finds : (g : Goal) (o : Option ℕ) → GoesOn (goal_word g) (finds_id o)
    finds g None = tt
    finds g (Some d) = tt

    renews : (g : Goal) (o : Option ℕ) → GoesOn (goal_word g) (finds_anew o)
    renews g None = tt
    renews g (Some d) = tt

    saw : (g : Goal) (o : Option ℕ) (b : Option Attr) → GoesOn (goal_word g) (sees o b)
    saw g None b = tt
    saw g (Some d) None = tt
    saw g (Some d) (Some b) = tt

    found : (left : List (List ℕ)) (g : Goal) (f : FoundName) → GoesOn (goal_word g) (told_found left g f)
    found (n ∷ ns) g f = down ns g (file_of f.handle)
    found [] (goal.Find n) f = finds (goal.Find n) (file_of f.handle)
    found [] (goal.Rewrite n) f = renews (goal.Rewrite n) (file_of f.handle)
    found [] (goal.Look n) f = saw (goal.Look n) (file_of f.handle) f.attr
    found [] g f = tt

    ends : (dir : ℕ) (p : Pages) (b : Bool) → GoesOn words.List (asks_page dir p b)
    ends dir p true = tt
    ends dir p false = refl

    more : (dir : ℕ) (p : Pages) (es : List Entry) → GoesOn words.List (more_pages dir p es)
    more dir p [] = tt
    more dir p (x ∷ es) = ends dir p (nat_le pages_most (p.count + 1))

    listed : (dir : ℕ) (p : Pages) (es : List Entry) (eof : Bool) → GoesOn words.List (lists_on dir p es eof)
    listed dir p es true = tt
    listed dir p es false = more dir p es

    page : (g : Goal) (l : Listing) → GoesOn (goal_word g) (told_page w.dir g l)
    page (goal.List p) l = listed w.dir (with_page p l) l.entries l.eof
    page g l = tt

    attr : (g : Goal) (b : Attr) → GoesOn (goal_word g) (told_attr w.dir g b)
    attr goal.LookRoot b = tt
    attr g b = tt

    changes : {D F : Type 0} (b : Answer D F) → GoesOn (goal_word w.goal) (changed_by b)
    changes (Done d) = tt
    changes (Failed s f) = tt

    plain : (a : Nfs) → GoesOn (goal_word w.goal) (plainly_told a)
    plain (nfs.LookupAnswer (Failed s b)) = tt
    plain (nfs.GetAttrAnswer (Failed s b)) = tt
    plain (nfs.ReadDirAnswer (Failed s b)) = tt
    plain (nfs.CreateAnswer b) = changes b
    plain (nfs.MkDirAnswer b) = changes b
    plain (nfs.RemoveAnswer b) = changes b
    plain (nfs.RmDirAnswer b) = changes b
    plain (nfs.RenameAnswer b) = changes b
    plain a = tt

    by : (a : Nfs) → GoesOn (goal_word w.goal) (walk_told w a)
    by (nfs.LookupAnswer (Done f)) = found w.left w.goal f
    by (nfs.GetAttrAnswer (Done b)) = attr w.goal b
    by (nfs.ReadDirAnswer (Done l)) = page w.goal l
    by a = plain a
