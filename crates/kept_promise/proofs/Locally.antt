-- What commands leave of a client's local contents, and which of them find it busy, as operations go on and end.
use Rattle.std.proofs.Common.{◌⊎◌, inl, inr, ◌≡◌, ℕ, zero, suc, ◌<◌, List, [], ◌∷◌, ◌++◌, length, Option, Some, Bool, true, false, refl, sym, ap, ◌∙◌, subst, arith, eq-eqb, ne_eqb, take}
use Rattle.register_model.specs.declared.op.Outcome.{Outcome}
use Rattle.register_model.specs.declared.op.Outcome.TheVariants as told
use Rattle.command_text.specs.declared.command.Command.TheVariants as command
use Rattle.command_text.specs.declared.path.PathCommand.TheVariants as path
use Rattle.kept_promise.proofs.Common.{nat_tests, slice_get, slice_set, ◌==◌, ◌&&◌, ◌||◌, nat_lt, if◌then◌else◌, Op, Command, Moment, Deed, deed_by, deeds_from, deeds_of, joined_by, joined_from, leaves, after_one, local_from, lasts, is_busy, is_untold}
use Rattle.kept_promise.proofs.Lists.{some_is, nothing_there, true_and_false}

-- ---- moments

with_last : {A : Type 0} (xs : List A) (y : A) (ys : List A) → (xs ++ y ∷ []) ++ ys ≡ xs ++ y ∷ ys
with_last [] y ys = refl
with_last (x ∷ xs) y ys = ap (λ l. x ∷ l) (with_last xs y ys)

joined : {A : Type 0} (xs ys zs : List A) → (xs ++ ys) ++ zs ≡ xs ++ (ys ++ zs)
joined [] ys zs = refl
joined (x ∷ xs) ys zs = ap (λ l. x ∷ l) (joined xs ys zs)

no_more : {A : Type 0} (xs : List A) → xs ++ [] ≡ xs
no_more [] = refl
no_more (x ∷ xs) = ap (λ l. x ∷ l) (no_more xs)

deeds_last : (past ms : List Moment) (m : Moment) → deeds_from past (ms ++ m ∷ []) ≡ deeds_from past ms ++ deed_by (past ++ ms) m.before m.event
deeds_last past [] m = no_more (deed_by past m.before m.event) ∙ ap (λ (l : List Moment). deed_by l m.before m.event) (sym (no_more past))
deeds_last past (z ∷ ms) m =
    ap (λ l. deed_by past z.before z.event ++ l) (deeds_last (past ++ z ∷ []) ms m)
    ∙ ap (λ (l : List Moment). deed_by past z.before z.event ++ (deeds_from (past ++ z ∷ []) ms ++ deed_by l m.before m.event)) (with_last past z ms)
    ∙ sym (joined (deed_by past z.before z.event) (deeds_from (past ++ z ∷ []) ms) (deed_by (past ++ z ∷ ms) m.before m.event))

-- the commands with one moment more
pub deeds_more : (past : List Moment) (m : Moment) → deeds_of (past ++ m ∷ []) ≡ deeds_of past ++ deed_by past m.before m.event
deeds_more past m = deeds_last [] past m

pub joined_more : (c : ℕ) (was : Bool) (past : List Moment) (m : Moment) → joined_from c was (past ++ m ∷ []) ≡ joined_by c (joined_from c was past) m.event
joined_more c was [] m = refl
joined_more c was (z ∷ past) m = joined_more c (joined_by c was z.event) past m

-- ---- lists

pub in_taken : {A : Type 0} (n i : ℕ) (xs : List A) (x : A) → slice_get (take n xs) i ≡ Some x → (i < n) × (slice_get xs i ≡ Some x)
in_taken (suc n) zero (y ∷ xs) x e = (omega arith, e)
in_taken (suc n) (suc i) (y ∷ xs) x e = let h = in_taken n i xs x e in let lt = h.0 in (omega (arith, lt), h.1)
in_taken _ i _ x e = nothing_there x e

-- ---- local contents

-- what two operations of one command leave is the same, or nothing is left by either
abbrev LeavesSame : (c f : ℕ) → Deed → Op → Op → Type 0
LeavesSame c f d o r = (l : Option (List ℕ)) → after_one c f d r l ≡ after_one c f d o l

abbrev AllSame : (c f : ℕ) → List Deed → List Op → List Op → Type 0
AllSame c f ds os rs = (i : ℕ) (d : Deed) (o r : Op) → slice_get ds i ≡ Some d → slice_get os i ≡ Some o → slice_get rs i ≡ Some r → LeavesSame c f d o r

pub local_same : (c f : ℕ) (l : Option (List ℕ)) (ds : List Deed) (os rs : List Op) → length os ≡ length rs → AllSame c f ds os rs → local_from c f l ds rs ≡ local_from c f l ds os
local_same c f l (d ∷ ds) [] (r ∷ rs) n h = absurd (omega (arith, n))
local_same c f l (d ∷ ds) (o ∷ os) [] n h = absurd (omega (arith, n))
local_same c f l (d ∷ ds) (o ∷ os) (r ∷ rs) n h = ap (λ (z : Option (List ℕ)). local_from c f z ds rs) (h 0 d o r refl refl refl l) ∙ local_same c f (after_one c f d o l) ds os rs (omega (arith, n)) (λ i e p q a b k. h (suc i) e p q a b k)
local_same c f l _ _ _ n h = refl

-- one that leaves nothing else
abbrev pub Idles : (c f : ℕ) → Deed → Op → Type 0
Idles c f d o = (l : Option (List ℕ)) → after_one c f d o l ≡ l

abbrev pub AllIdle : (c f : ℕ) → List Deed → List Op → Type 0
AllIdle c f ds os = (i : ℕ) (d : Deed) (o : Op) → slice_get ds i ≡ Some d → slice_get os i ≡ Some o → Idles c f d o

pub local_idle : (c f : ℕ) (l : Option (List ℕ)) (ds : List Deed) (os : List Op) → AllIdle c f ds os → local_from c f l ds os ≡ l
local_idle c f l (d ∷ ds) (o ∷ os) h = ap (λ (z : Option (List ℕ)). local_from c f z ds os) (h 0 d o refl refl l) ∙ local_idle c f l ds os (λ i e p a b. h (suc i) e p a b)
local_idle c f l _ _ h = refl

-- One that ends late: none behind it left anything, and it left nothing as long as it was under way.
pub local_late : (c f : ℕ) (l : Option (List ℕ)) (ds : List Deed) (os : List Op) (p : ℕ) (d : Deed) (o r : Op) → slice_get ds p ≡ Some d → slice_get os p ≡ Some o → Idles c f d o → ((i : ℕ) (e : Deed) (q : Op) → p < i → slice_get ds i ≡ Some e → slice_get os i ≡ Some q → Idles c f e q)
    → local_from c f l ds (slice_set os p r) ≡ after_one c f d r (local_from c f l ds os)
local_late c f l [] os p d o r at is idle later = nothing_there d at
local_late c f l (e ∷ ds) [] p d o r at is idle later = nothing_there o is
local_late c f l (e ∷ ds) (q ∷ os) zero d o r at is idle later =
    let e_is : e ≡ d = some_is e d at in
    let q_is : q ≡ o = some_is q o is in
    let rest : AllIdle c f ds os = (λ i z w a b. later (suc i) z w (omega arith) a b) in
    let same : after_one c f e q l ≡ l = ap (λ (z : Deed). after_one c f z q l) e_is ∙ ap (λ (z : Op). after_one c f d z l) q_is ∙ idle l in
    local_idle c f (after_one c f e r l) ds os rest ∙ ap (λ (z : Deed). after_one c f z r l) e_is ∙ ap (after_one c f d r) (sym (ap (λ (z : Option (List ℕ)). local_from c f z ds os) same ∙ local_idle c f l ds os rest))
local_late c f l (e ∷ ds) (q ∷ os) (suc p) d o r at is idle later = local_late c f (after_one c f e q l) ds os p d o r at is idle (λ i z w lt a b. later (suc i) z w (omega (arith, lt)) a b)

-- one command more
pub local_more : (c f : ℕ) (l : Option (List ℕ)) (ds : List Deed) (os : List Op) (d : Deed) (o : Op) → length os ≡ length ds → local_from c f l (ds ++ d ∷ []) (os ++ o ∷ []) ≡ after_one c f d o (local_from c f l ds os)
local_more c f l [] [] d o n = refl
local_more c f l (e ∷ ds) (q ∷ os) d o n = local_more c f (after_one c f e q l) ds os d o (omega (arith, n))
local_more c f l _ _ d o n = absurd (omega (arith, n))

-- ---- a command of another client, or on another file

pub other_client : (c f : ℕ) (d : Deed) (o : Op) → (d.client ≡ c → ⊥) → Idles c f d o
other_client c f d o apart l = ap (λ b. if (b && o.file == f) then leaves d.command o.outcome o.value l else l) (ne_eqb d.client c apart)

pub other_file : (c f : ℕ) (d : Deed) (o : Op) → (o.file ≡ f → ⊥) → Idles c f d o
other_file c f d o apart l = by (d.client == c)
  where
    by : (b : Bool) → (if (b && o.file == f) then leaves d.command o.outcome o.value l else l) ≡ l
    by true = ap (λ b. if b then leaves d.command o.outcome o.value l else l) (ne_eqb o.file f apart)
    by false = refl

pub its_own : (c f : ℕ) (d : Deed) (o : Op) (l : Option (List ℕ)) → d.client ≡ c → o.file ≡ f → after_one c f d o l ≡ leaves d.command o.outcome o.value l
its_own c f d o l is at = ap (λ b. if (b && o.file == f) then leaves d.command o.outcome o.value l else l) (eq-eqb d.client c is) ∙ ap (λ b. if b then leaves d.command o.outcome o.value l else l) (eq-eqb o.file f at)

pub idles_by : (c f : ℕ) (d : Deed) (o : Op) → ((l : Option (List ℕ)) → leaves d.command o.outcome o.value l ≡ l) → Idles c f d o
idles_by c f d o h l = by (d.client == c && o.file == f)
  where
    by : (b : Bool) → (if b then leaves d.command o.outcome o.value l else l) ≡ l
    by true = h l
    by false = refl

-- with the same file, outcome and value the same is left
pub leaves_alike : (c f : ℕ) (d : Deed) (o r : Op) → r.file ≡ o.file → r.outcome ≡ o.outcome → r.value ≡ o.value → LeavesSame c f d o r
leaves_alike c f d o r g a b l =
    ap (λ (z : ℕ). if (d.client == c && z == f) then leaves d.command r.outcome r.value l else l) g
    ∙ ap (λ (z : Outcome). if (d.client == c && o.file == f) then leaves d.command z r.value l else l) a
    ∙ ap (λ (z : List ℕ). if (d.client == c && o.file == f) then leaves d.command o.outcome z l else l) b

-- nothing was got, changed or dropped
abbrev pub LeavesAll : Outcome → Type 0
LeavesAll (told.Opened n d) = ⊥
LeavesAll (told.Closed v n d) = ⊥
LeavesAll told.Done = ⊥
LeavesAll u = Unit {0}

-- so all stays as it was
pub leaves_all : (k : Command) (u : Outcome) (v : List ℕ) (l : Option (List ℕ)) → LeavesAll u → leaves k u v l ≡ l
leaves_all k (told.Opened n d) v l h = absurd h
leaves_all k (told.Closed w n d) v l h = absurd h
leaves_all k told.Done v l h = absurd h
leaves_all (command.Open f) u v l h = refl
leaves_all (command.Rewrite f) u v l h = refl
leaves_all (command.Write f offset content) u v l h = refl
leaves_all (command.Trunc f size) u v l h = refl
leaves_all (command.Read f offset count) u v l h = refl
leaves_all (command.Close f) u v l h = refl
leaves_all (command.Abandon f) u v l h = refl
leaves_all (command.Named (path.Find t)) u v l h = refl
leaves_all (command.Named (path.Rewrite t)) u v l h = refl
leaves_all (command.Named t) u v l h = refl

-- by an operation that is not done
pub leaves_none : (k : Command) (u : Outcome) (v : List ℕ) (l : Option (List ℕ)) → (u ≡ told.Running) ⊎ (u ≡ told.Busy) → leaves k u v l ≡ l
leaves_none k u v l (inl e) = leaves_all k u v l (subst LeavesAll (sym e) tt)
leaves_none k u v l (inr e) = leaves_all k u v l (subst LeavesAll (sym e) tt)

-- and by one whose client was told nothing
pub leaves_untold : (k : Command) (u : Outcome) (v : List ℕ) (l : Option (List ℕ)) → is_untold u ≡ true → leaves k u v l ≡ l
leaves_untold k told.Running v l e = leaves_all k told.Running v l tt
leaves_untold k told.Lost v l e = leaves_all k told.Lost v l tt
leaves_untold k u v l e = absurd cc

-- ---- busy clients

-- whether an operation keeps another one's client busy
abbrev pub keeps : (o q : Op) → Bool
keeps o q = (q.client == o.client) && (nat_lt q.begin o.begin && lasts q.end o.begin)

pub busy_by : (ops : List Op) (o : Op) (i : ℕ) (q : Op) → slice_get ops i ≡ Some q → keeps o q ≡ true → is_busy ops o ≡ true
busy_by [] o i q at e = nothing_there q at
busy_by (z ∷ ops) o zero q at e = ap (λ b. b || is_busy ops o) (ap (keeps o) (some_is z q at) ∙ e)
busy_by (z ∷ ops) o (suc i) q at e = by (keeps o z) (busy_by ops o i q at e)
  where
    by : (b : Bool) → is_busy ops o ≡ true → (b || is_busy ops o) ≡ true
    by true h = refl
    by false h = h

pub free_by : (ops : List Op) (o : Op) → ((i : ℕ) (q : Op) → slice_get ops i ≡ Some q → keeps o q ≡ false) → is_busy ops o ≡ false
free_by [] o h = refl
free_by (z ∷ ops) o h = ap (λ b. b || is_busy ops o) (h 0 z refl) ∙ free_by ops o (λ i q at. h (suc i) q at)

pub free_each : (ops : List Op) (o : Op) (i : ℕ) (q : Op) → is_busy ops o ≡ false → slice_get ops i ≡ Some q → keeps o q ≡ false
free_each ops o i q e at = by (keeps o q) refl
  where
    by : (b : Bool) → keeps o q ≡ b → b ≡ false
    by true is = absurd (true_and_false (is_busy ops o) (busy_by ops o i q at is) e)
    by false is = refl

-- the same where each keeps it busy as before
pub busy_same : (ops rs : List Op) (o r : Op) → length ops ≡ length rs → ((i : ℕ) (p q : Op) → slice_get ops i ≡ Some p → slice_get rs i ≡ Some q → keeps r q ≡ keeps o p) → is_busy rs r ≡ is_busy ops o
busy_same [] [] o r n h = refl
busy_same (p ∷ ops) (q ∷ rs) o r n h = ap (λ b. b || is_busy rs r) (h 0 p q refl refl) ∙ ap (λ b. keeps o p || b) (busy_same ops rs o r (omega (arith, n)) (λ i a b at is. h (suc i) a b at is))
busy_same _ _ o r n h = absurd (omega (arith, n))

pub busy_more : (ops : List Op) (o new : Op) → keeps o new ≡ false → is_busy (ops ++ new ∷ []) o ≡ is_busy ops o
busy_more [] o new e = ap (λ b. b || false) e
busy_more (z ∷ ops) o new e = ap (λ b. keeps o z || b) (busy_more ops o new e)

-- what is told of one that keeps the client busy
pub keeps_is : (o q : Op) → keeps o q ≡ true → (q.client ≡ o.client) × (q.begin < o.begin) × (lasts q.end o.begin ≡ true)
keeps_is o q e = by (q.client == o.client) (nat_lt q.begin o.begin) (lasts q.end o.begin) refl refl refl e
  where
    by : (a b c : Bool) → (q.client == o.client) ≡ a → nat_lt q.begin o.begin ≡ b → lasts q.end o.begin ≡ c → (a && (b && c)) ≡ true → (q.client ≡ o.client) × (q.begin < o.begin) × (lasts q.end o.begin ≡ true)
    by true true true x y z e = (grind (arith, nat_tests, x), grind (arith, nat_tests, y), z)
    by _ _ _ x y z e = absurd cc

pub keeps_if : (o q : Op) → q.client ≡ o.client → q.begin < o.begin → lasts q.end o.begin ≡ true → keeps o q ≡ true
keeps_if o q a b c = ap (λ x. x && (nat_lt q.begin o.begin && lasts q.end o.begin)) (eq-eqb q.client o.client a) ∙ (let lt : nat_lt q.begin o.begin ≡ true = grind (arith, nat_tests, b) in ap (λ x. x && lasts q.end o.begin) lt) ∙ c

pub keeps_not : (o q : Op) → (q.begin < o.begin → ⊥) → keeps o q ≡ false
keeps_not o q h = by (keeps o q) refl
  where
    by : (b : Bool) → keeps o q ≡ b → b ≡ false
    by true e = absurd (h (keeps_is o q e).1)
    by false e = refl
