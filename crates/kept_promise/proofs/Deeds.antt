-- The commands of a run and their operations, one for one: what each client answered by itself, and what it asked the server for.
use Rattle.std.proofs.Common.{◌⊎◌, inl, inr, ◌≡◌, ℕ, zero, suc, ◌+◌, ◌<◌, ◌≤◌, List, [], ◌∷◌, ◌++◌, length, Option, Some, None, Bool, true, false, refl, sym, ap, ◌∙◌, subst, arith, take}
use Rattle.std.proofs.lemmas.List.{length-append}
use Rattle.command_text.specs.declared.command.Command.TheVariants as command
use Rattle.client_state.specs.State as client
use Rattle.register_model.specs.declared.op.Outcome.{Outcome}
use Rattle.register_model.specs.declared.op.Outcome.TheVariants as told
use Rattle.register_model.specs.declared.op.Word.TheVariants as words
use Rattle.kept_promise.proofs.Common.{nat_tests, slice_get, nat_lt, option_map, Command, Local, Op, word_of, file_of, Seat, numbered, Deed, can_go, lasts, is_busy, local_from, local_before, own_answer, after_one, is_untold, if◌then◌else◌, local_most, written_size, content_length, unless_asks, write_outcome, sized_outcome}
use Rattle.kept_promise.proofs.Lists.{some_is, nothing_there, same_or_not, of_appended, within, take_before, take_whole}
use Rattle.kept_promise.proofs.Locally.{Idles, other_client, leaves_alike, leaves_none, idles_by, local_same, local_more, in_taken, keeps, busy_by, free_each, busy_same, busy_more, keeps_is, keeps_if, keeps_not, leaves_untold}
use Rattle.kept_promise.proofs.PathNames.{IsSmall}
use Rattle.register_model.specs.declared.op.Word.{Word}

-- ---- what is said

-- none of a client's own answers to a command with this word
abbrev pub FromServer : (what : Word) → Outcome → Type 0
FromServer what (told.Piece len digest) = ⊥
FromServer what told.Done = what ≡ words.Rewrite
FromServer what told.Busy = ⊥
FromServer what told.NotOpen = ⊥
FromServer what told.AlreadyOpen = ⊥
FromServer what (told.TooBig size) = ⊥
FromServer what told.NoLink = ⊥
FromServer what u = Unit {0}

-- a command on names
abbrev pub IsOnNames : Command → Type 0
IsOnNames (command.Named k) = Unit {0}
IsOnNames d = ⊥

-- how a command on names ends is what its walk leads to
abbrev pub ByServer : Command → Outcome → Type 0
ByServer (command.Named k) u = Unit {0}
ByServer d u = FromServer (word_of d) u

pub by_server : (d : Command) (u : Outcome) → FromServer (word_of d) u → ByServer d u
by_server (command.Named k) u h = tt
by_server _ u h = h

-- what a close is to store
abbrev pub Stores : Command → Op → Option (List ℕ) → Type 0
Stores (command.Close f) o l = l ≡ Some o.value
Stores d o l = Unit {0}

-- the file of an operation is that of the command's id
abbrev pub HasIdFile : Command → Op → Type 0
HasIdFile (command.Named k) o = Unit {0}
HasIdFile d o = o.file ≡ file_of d

pub id_file : (d : Command) (o : Op) → o.file ≡ file_of d → HasIdFile d o
id_file (command.Named k) o e = tt
id_file _ o e = e

-- what isn't answered by its client ends in a later step, but for what is open at once
abbrev pub IsLate : Command → Op → Type 0
IsLate (command.Open f) o = Unit {0}
IsLate (command.Rewrite f) o = Unit {0}
IsLate k o = o.end ≡ Some o.begin → ⊥

late_still : (k : Command) (o r : Op) → ((o.end ≡ Some o.begin → ⊥) → r.end ≡ Some r.begin → ⊥) → IsLate k o → IsLate k r
late_still (command.Open f) o r h late = tt
late_still (command.Rewrite f) o r h late = tt
late_still _ o r h late = h late

-- what became of a command whose client's own answer is this one, or none
abbrev pub Came : Deed → Op → Option (List ℕ) → Option Outcome → Type 0
Came d o l (Some own) = (o.outcome ≡ own) × (o.end ≡ Some o.begin) × ((o.word ≡ words.Close → ⊥) → o.point ≡ None) × (o.file ≡ file_of d.command)
Came d o l None = Stores d.command o l × ByServer d.command o.outcome × IsLate d.command o

pub record IsDeed (ds : List Deed) (ops : List Op) (i : ℕ) (d : Deed) (o : Op) : Type 0 where
  pub small : IsSmall d.command
  pub client : o.client ≡ d.client
  pub word : o.word ≡ word_of d.command
  pub file : HasIdFile d.command o
  pub begin : o.begin ≡ d.begin
  pub came : Came d o (local_before ds ops i d.client (file_of d.command)) (own_answer (is_busy ops o) (can_go d) d.command (local_before ds ops i d.client (file_of d.command)))

-- the local content that a client has of a file
abbrev pub local_of : client.State → (file : ℕ) → Option (List ℕ)
local_of s f = option_map (λ (l : Local). l.bytes) (client.local_at s.opened f)

abbrev pub Rises : List Op → Type 0
Rises ops = (i j : ℕ) (o q : Op) → i < j → slice_get ops i ≡ Some o → slice_get ops j ≡ Some q → o.begin < q.begin

abbrev pub AreDeeds : List Deed → List Op → Type 0
AreDeeds ds ops = (i : ℕ) (d : Deed) (o : Op) → slice_get ds i ≡ Some d → slice_get ops i ≡ Some o → IsDeed ds ops i d o

abbrev pub HasLocals : List Deed → List Op → List Seat → Type 0
HasLocals ds ops seats = (c : ℕ) (seat : Seat) → numbered seats c ≡ Some seat → (f : ℕ) → local_of seat.client f ≡ local_from c f None ds ops

pub record HasDeeds (ds : List Deed) (ops : List Op) (seats : List Seat) : Type 0 where
  pub count : length ops ≡ length ds
  pub rising : Rises ops
  pub each : AreDeeds ds ops
  pub locals : HasLocals ds ops seats

-- ---- operations go on

-- a list as long has something at the same place
pub also_there : {A B : Type 0} (xs : List A) (ys : List B) (k : ℕ) (x : A) → length ys ≡ length xs → slice_get xs k ≡ Some x → (y : B) × (slice_get ys k ≡ Some y)
also_there [] ys k x e at = nothing_there x at
also_there (z ∷ xs) [] k x e at = absurd (omega (arith, e))
also_there (z ∷ xs) (y ∷ ys) zero x e at = (y, refl)
also_there (z ∷ xs) (y ∷ ys) (suc k) x e at = also_there xs ys k x (omega (arith, e)) at

-- what becomes of an operation in a step of this number: an ended one stays as it is, but for what the server makes of one whose answer was
-- lost, and one under way ends then, if it does
pub record Moved (step : ℕ) (o r : Op) : Type 0 where
  pub client : r.client ≡ o.client
  pub word : r.word ≡ o.word
  pub begin : r.begin ≡ o.begin
  pub value : o.word ≡ words.Close → r.value ≡ o.value
  pub ended : (e : ℕ) → o.end ≡ Some e → (r.end ≡ Some e) × (r.outcome ≡ o.outcome) × (r.value ≡ o.value) × (is_untold o.outcome ≡ false → (r.point ≡ o.point) × (r.file ≡ o.file))
  pub ends : o.end ≡ None → (r.end ≡ None) ⊎ (r.end ≡ Some step)

pub moved_same : (step : ℕ) (o : Op) → Moved step o o
moved_same step o = record { client = refl; word = refl; begin = refl; value = λ w. refl; ended = λ e at. (at, refl, refl, λ w. (refl, refl)); ends = λ e. inl e }

-- and what stays by its command: one by an id has that file
pub record StaysBy (d : Command) (o r : Op) : Type 0 where
  pub file : HasIdFile d o → HasIdFile d r
  pub asked : ByServer d o.outcome → ByServer d r.outcome

pub stays_same : (d : Command) (o : Op) → StaysBy d o o
stays_same d o = record { file = λ h. h; asked = λ h. h }

pub stays_by : (d : Command) (o r : Op) → r.file ≡ o.file → (FromServer (word_of d) o.outcome → FromServer (word_of d) r.outcome) → StaysBy d o r
stays_by (command.Named k) o r e h = record { file = λ x. x; asked = λ x. x }
stays_by _ o r e h = record { file = λ x. e ∙ x; asked = h }

pub stays_named : (d : Command) (o r : Op) → IsOnNames d → StaysBy d o r
stays_named (command.Named k) o r n = record { file = λ x. x; asked = λ x. x }
stays_named _ o r n = absurd n

abbrev pub AllStay : List Deed → List Op → List Op → Type 0
AllStay ds ops rs = (i : ℕ) (d : Deed) (o r : Op) → slice_get ds i ≡ Some d → slice_get ops i ≡ Some o → slice_get rs i ≡ Some r → StaysBy d.command o r

pub all_stay : (ds : List Deed) (ops : List Op) → AllStay ds ops ops
all_stay ds ops i d o r at is there = subst (StaysBy d.command o) (some_is o r (sym is ∙ there)) (stays_same d.command o)

pub record AllMoved (step : ℕ) (ops rs : List Op) : Type 0 where
  pub count : length rs ≡ length ops
  pub each : (i : ℕ) (o r : Op) → slice_get ops i ≡ Some o → slice_get rs i ≡ Some r → Moved step o r

pub all_same : (step : ℕ) (ops : List Op) → AllMoved step ops ops
all_same step ops = record { count = refl; each = λ i o r at is. subst (Moved step o) (some_is o r (sym at ∙ is)) (moved_same step o) }

lasts_same : (step b : ℕ) (o r : Op) → b < step → Moved step o r → lasts r.end b ≡ lasts o.end b
lasts_same step b o r lt m = by o.end refl
  where
    by : (e : Option ℕ) → o.end ≡ e → lasts r.end b ≡ lasts e b
    by None e = elim (m.ends e) [ inl n ↦ ap (λ z. lasts z b) n | inr s ↦ ap (λ z. lasts z b) s ∙ (let t : nat_lt b step ≡ true = grind (arith, nat_tests, lt) in t) ]
    by (Some n) e = ap (λ z. lasts z b) (m.ended n e).0

keeps_same : (step : ℕ) (o r p q : Op) → o.begin < step → Moved step o r → Moved step p q → keeps r q ≡ keeps o p
keeps_same step o r p q lt m n =
    by (keeps r q) (keeps o p) refl refl
  where
    lasting : lasts q.end r.begin ≡ lasts p.end o.begin
    lasting = ap (lasts q.end) m.begin ∙ lasts_same step o.begin p q lt n

    by : (a b : Bool) → keeps r q ≡ a → keeps o p ≡ b → a ≡ b
    by true true e f = refl
    by false false e f = refl
    by true false e f = let k = keeps_is r q e in not_both (keeps o p) (keeps_if o p (sym n.client ∙ k.0 ∙ m.client) (let a = k.1 in let b = n.begin in let c = m.begin in omega (arith, a, b, c)) (sym lasting ∙ k.2)) f
      where
        not_both : (b : Bool) → b ≡ true → b ≡ false → true ≡ false
        not_both b e d = absurd cc
    by false true e f = let k = keeps_is o p f in not_both (keeps r q) (keeps_if r q (n.client ∙ k.0 ∙ sym m.client) (let a = k.1 in let b = n.begin in let c = m.begin in omega (arith, a, b, c)) (lasting ∙ k.2)) e
      where
        not_both : (b : Bool) → b ≡ true → b ≡ false → false ≡ true
        not_both b e d = absurd cc

take_count : {A B : Type 0} (n : ℕ) (xs : List A) (ys : List B) → length xs ≡ length ys → length (take n xs) ≡ length (take n ys)
take_count zero xs ys e = refl
take_count (suc n) [] [] e = refl
take_count (suc n) [] (y ∷ ys) e = absurd (omega (arith, e))
take_count (suc n) (x ∷ xs) [] e = absurd (omega (arith, e))
take_count (suc n) (x ∷ xs) (y ∷ ys) e = ap suc (take_count n xs ys (omega (arith, e)))

-- a client's own answer is of a command that is no longer under way
abbrev IsTold : Option Outcome → Type 0
IsTold (Some u) = is_untold u ≡ false
IsTold None = Unit {0}

sized_told : (size : ℕ) → IsTold (Some (sized_outcome size))
sized_told size = by (nat_lt local_most size)
  where
    by : (b : Bool) → IsTold (Some (if b then told.TooBig size else told.Done))
    by true = refl
    by false = refl

written_told : (size offset count : ℕ) → IsTold (Some (write_outcome size offset count))
written_told size offset zero = refl
written_told size offset (suc count) = sized_told (written_size size offset (suc count))

asks_told : (b : Bool) → IsTold (unless_asks b)
asks_told true = tt
asks_told false = refl

own_told : (busy asks : Bool) (k : Command) (l : Option (List ℕ)) → IsTold (own_answer busy asks k l)
own_told true asks k l = refl
own_told false asks (command.Named n) None = asks_told asks
own_told false asks (command.Named n) (Some x) = asks_told asks
own_told false asks (command.Open f) None = asks_told asks
own_told false asks (command.Rewrite f) None = asks_told asks
own_told false asks (command.Write f offset content) None = refl
own_told false asks (command.Trunc f size) None = refl
own_told false asks (command.Read f offset count) None = refl
own_told false asks (command.Close f) None = refl
own_told false asks (command.Abandon f) None = refl
own_told false asks (command.Open f) (Some x) = refl
own_told false asks (command.Rewrite f) (Some x) = refl
own_told false asks (command.Write f offset content) (Some x) = written_told (length x) offset (content_length content)
own_told false asks (command.Trunc f size) (Some x) = sized_told size
own_told false asks (command.Read f offset count) (Some x) = refl
own_told false asks (command.Close f) (Some x) = asks_told asks
own_told false asks (command.Abandon f) (Some x) = refl

came_moved : (step : ℕ) (d : Deed) (o r : Op) (l : Option (List ℕ)) (x : Option Outcome) → IsTold x → o.begin < step → o.word ≡ word_of d.command → Moved step o r → StaysBy d.command o r → Came d o l x → Came d r l x
came_moved step d o r l (Some own) is lt w m b h = let e = m.ended o.begin h.1 in let k = e.3 (ap is_untold h.0 ∙ is) in (e.1 ∙ h.0, e.0 ∙ ap (λ n. Some n) (sym m.begin), (λ z. k.0 ∙ h.2 (λ w. z (m.word ∙ w))), k.1 ∙ h.3)
came_moved step d o r l None is lt w m b h = (stores d.command w h.0, b.asked h.1, late_still d.command o r (λ never z. later never o.end refl z) h.2)
  where
    later : (o.end ≡ Some o.begin → ⊥) → (e : Option ℕ) → o.end ≡ e → r.end ≡ Some r.begin → ⊥
    later never None e z = elim (m.ends e) [
      | inl none ↦ nothing_there r.begin (sym none ∙ z)
      | inr now ↦ let same = some_is step r.begin (sym now ∙ z) in let begin = m.begin in absurd (omega (arith, lt, same, begin))
    ]
    later never (Some n) e z = never (e ∙ ap (λ q. Some q) (some_is n r.begin (sym (m.ended n e).0 ∙ z) ∙ m.begin))

    stores : (k : Command) → o.word ≡ word_of k → Stores k o l → Stores k r l
    stores (command.Close f) w s = s ∙ ap (λ z. Some z) (sym (m.value w))
    stores _ w s = s

-- where a client was free all that it had begun before had ended
pub local_before_same : (step : ℕ) (ds : List Deed) (ops rs : List Op) (i : ℕ) (d : Deed) (o : Op) (f : ℕ) → Rises ops → AreDeeds ds ops → AllMoved step ops rs → slice_get ds i ≡ Some d → slice_get ops i ≡ Some o → is_busy ops o ≡ false → local_before ds rs i d.client f ≡ local_before ds ops i d.client f
local_before_same step ds ops rs i d o f rising each moved at is free = local_same d.client f None (take i ds) (take i ops) (take i rs) (take_count i ops rs (sym moved.count)) (λ j e q r a b c. same j e q r (in_taken i j ds e a) (in_taken i j ops q b) (in_taken i j rs r c))
  where
    same : (j : ℕ) (e : Deed) (q r : Op) → (j < i) × (slice_get ds j ≡ Some e) → (j < i) × (slice_get ops j ≡ Some q) → (j < i) × (slice_get rs j ≡ Some r) → (l : Option (List ℕ)) → after_one d.client f e r l ≡ after_one d.client f e q l
    same j e q r a b c = elim (same_or_not e.client d.client) [
      | inr apart ↦ λ l. other_client d.client f e r apart l ∙ sym (other_client d.client f e q apart l)
      | inl mine ↦
          let m = moved.each j q r b.1 c.1 in
          let first = rising j i q o a.0 b.1 is in
          let own = (each j e q a.1 b.1).client ∙ mine ∙ sym (each i d o at is).client in
          by e q r m own first q.end refl (free_each ops o j q free b.1)
    ]
      where
        by : (e : Deed) (q r : Op) → Moved step q r → q.client ≡ o.client → q.begin < o.begin → (n : Option ℕ) → q.end ≡ n → keeps o q ≡ false → (l : Option (List ℕ)) → after_one d.client f e r l ≡ after_one d.client f e q l
        by e q r m own first None n not = absurd (not_both (keeps o q) (keeps_if o q own first (ap (λ z. lasts z o.begin) n)) not)
          where
            not_both : (b : Bool) → b ≡ true → b ≡ false → ⊥
            not_both b e d = absurd cc
        by e q r m own first (Some z) n not = let k = m.ended z n in alike k.1 k.2 k.3 (is_untold q.outcome) refl
          where
            alike : r.outcome ≡ q.outcome → r.value ≡ q.value → (is_untold q.outcome ≡ false → (r.point ≡ q.point) × (r.file ≡ q.file)) → (u : Bool) → is_untold q.outcome ≡ u → (l : Option (List ℕ)) → after_one d.client f e r l ≡ after_one d.client f e q l
            alike a v known false u = leaves_alike d.client f e q r (known u).1 a v
            alike a v known true u = λ l. idles_by d.client f e r (λ z. leaves_untold e.command r.outcome r.value z (ap is_untold a ∙ u)) l ∙ sym (idles_by d.client f e q (λ z. leaves_untold e.command q.outcome q.value z u) l)

each_moved : (step : ℕ) (ds : List Deed) (ops rs : List Op) → length ops ≡ length ds → Rises ops → AreDeeds ds ops → ((i : ℕ) (o : Op) → slice_get ops i ≡ Some o → o.begin < step) → AllMoved step ops rs → AllStay ds ops rs → AreDeeds ds rs
each_moved step ds ops rs count rising each past moved stay i d r at is =
    let w = also_there rs ops i r (sym moved.count) is in
    let o : Op = w.0 in
    let h = each i d o at w.1 in
    let m = moved.each i o r w.1 is in
    let b = stay i d o r at w.1 is in
    let busy : is_busy rs r ≡ is_busy ops o = busy_same ops rs o r (sym moved.count) (λ j p q a b. keeps_same step o r p q (past i o w.1) m (moved.each j p q a b)) in
    record {
      small = h.small;
      client = m.client ∙ h.client;
      word = m.word ∙ h.word;
      file = b.file h.file;
      begin = m.begin ∙ h.begin;
      came = subst (λ (b : Bool). Came d r (local_before ds rs i d.client (file_of d.command)) (own_answer b (can_go d) d.command (local_before ds rs i d.client (file_of d.command)))) (sym busy) (by o h m b w.1 (is_busy ops o) refl h.came);
    }
  where
    by : (o : Op) (h : IsDeed ds ops i d o) → Moved step o r → StaysBy d.command o r → slice_get ops i ≡ Some o → (b : Bool) → is_busy ops o ≡ b
        → Came d o (local_before ds ops i d.client (file_of d.command)) (own_answer b (can_go d) d.command (local_before ds ops i d.client (file_of d.command)))
        → Came d r (local_before ds rs i d.client (file_of d.command)) (own_answer b (can_go d) d.command (local_before ds rs i d.client (file_of d.command)))
    by o h m b there true e c = came_moved step d o r (local_before ds ops i d.client (file_of d.command)) (Some told.Busy) refl (past i o there) h.word m b c
    by o h m b there false e c =
        subst (λ (l : Option (List ℕ)). Came d r l (own_answer false (can_go d) d.command l)) (sym (local_before_same step ds ops rs i d o (file_of d.command) rising each moved at there e))
        (came_moved step d o r (local_before ds ops i d.client (file_of d.command)) (own_answer false (can_go d) d.command (local_before ds ops i d.client (file_of d.command))) (own_told false (can_go d) d.command (local_before ds ops i d.client (file_of d.command))) (past i o there) h.word m b c)

pub deeds_moved : (step : ℕ) (ds : List Deed) (ops rs : List Op) (seats others : List Seat) → HasDeeds ds ops seats → ((i : ℕ) (o : Op) → slice_get ops i ≡ Some o → o.begin < step) → AllMoved step ops rs → AllStay ds ops rs → HasLocals ds rs others → HasDeeds ds rs others
deeds_moved step ds ops rs seats others h past moved stay locals = record {
  count = moved.count ∙ h.count;
  rising = λ i j o q lt at is.
      let a = also_there rs ops i o (sym moved.count) at in
      let b = also_there rs ops j q (sym moved.count) is in
      let c = h.rising i j a.0 b.0 lt a.1 b.1 in
      let x = (moved.each i a.0 o a.1 at).begin in
      let y = (moved.each j b.0 q b.1 is).begin in
      omega (arith, c, x, y);
  each = each_moved step ds ops rs h.count h.rising h.each past moved stay;
  locals = locals;
}

-- whatever a client began while one of its operations went on found it busy, and left nothing
pub busy_behind : (ds : List Deed) (ops : List Op) (p : ℕ) (o : Op) (f : ℕ) → Rises ops → AreDeeds ds ops → slice_get ops p ≡ Some o → o.end ≡ None
    → (i : ℕ) (e : Deed) (q : Op) → p < i → slice_get ds i ≡ Some e → slice_get ops i ≡ Some q → Idles o.client f e q
busy_behind ds ops p o f rising each at under i e q lt a b = elim (same_or_not e.client o.client) [
  | inr apart ↦ other_client o.client f e q apart
  | inl mine ↦
      let h = each i e q a b in
      let busy : is_busy ops q ≡ true = busy_by ops q p o at (keeps_if q o (sym mine ∙ sym h.client) (rising p i o q lt at b) (ap (λ z. lasts z q.begin) under)) in
      let c : Came e q (local_before ds ops i e.client (file_of e.command)) (Some told.Busy) = subst (λ (z : Bool). Came e q (local_before ds ops i e.client (file_of e.command)) (own_answer z (can_go e) e.command (local_before ds ops i e.client (file_of e.command)))) busy h.came in
      idles_by o.client f e q (λ l. leaves_none e.command q.outcome q.value l (inr c.0))
]

-- ---- one more

-- what a new operation is to be, where its client has this local content of the file
pub record IsNew (ds : List Deed) (ops : List Op) (d : Deed) (o : Op) : Type 0 where
  pub small : IsSmall d.command
  pub client : o.client ≡ d.client
  pub word : o.word ≡ word_of d.command
  pub file : o.file ≡ file_of d.command
  pub begin : o.begin ≡ d.begin
  pub came : Came d o (local_from d.client (file_of d.command) None ds ops) (own_answer (is_busy ops o) (can_go d) d.command (local_from d.client (file_of d.command) None ds ops))

pub before_more : (ds : List Deed) (ops : List Op) (d : Deed) (o : Op) (i c f : ℕ) → length ops ≡ length ds → i ≤ length ops → local_before (ds ++ d ∷ []) (ops ++ o ∷ []) i c f ≡ local_before ds ops i c f
before_more ds ops d o i c f n le = ap (λ z. local_from c f None z (take i (ops ++ o ∷ []))) (take_before ds d i (omega (arith, n, le))) ∙ ap (local_from c f None (take i ds)) (take_before ops o i le)

pub before_all : (ds : List Deed) (ops : List Op) (c f : ℕ) → length ops ≡ length ds → local_before ds ops (length ops) c f ≡ local_from c f None ds ops
before_all ds ops c f n = ap (λ m. local_from c f None (take m ds) (take (length ops) ops)) n ∙ ap (λ z. local_from c f None z (take (length ops) ops)) (take_whole ds) ∙ ap (local_from c f None ds) (take_whole ops)

pub deeds_added : (ds : List Deed) (ops : List Op) (seats others : List Seat) (d : Deed) (new : Op) → HasDeeds ds ops seats → ((i : ℕ) (o : Op) → slice_get ops i ≡ Some o → o.begin < new.begin) → IsNew ds ops d new
    → ((c : ℕ) (seat : Seat) → numbered others c ≡ Some seat → (f : ℕ) → local_of seat.client f ≡ after_one c f d new (local_from c f None ds ops))
    → HasDeeds (ds ++ d ∷ []) (ops ++ new ∷ []) others
deeds_added ds ops seats others d new h past fresh locals = record {
  count = length-append ops (new ∷ []) ∙ ap (λ n. n + 1) h.count ∙ sym (length-append ds (d ∷ []));
  rising = λ i j o q lt at is. elim (of_appended ops new j q is) [
    | inl last ↦ elim (of_appended ops new i o at) [
      | inl both ↦ let x = last.0 in let y = both.0 in absurd (omega (arith, x, y, lt))
      | inr old ↦ subst (λ (z : Op). o.begin < z.begin) (sym last.1) (past i o old)
    ]
    | inr there ↦ elim (of_appended ops new i o at) [
      | inl last ↦ let x = last.0 in let y = within ops j q there in absurd (omega (arith, x, y, lt))
      | inr old ↦ h.rising i j o q lt old there
    ]
  ];
  each = λ i e o at is. elim (of_appended ops new i o is) [
    | inl last ↦ elim (of_appended ds d i e at) [
      | inr old ↦ let x = within ds i e old in let y = last.0 in let n = h.count in absurd (omega (arith, x, y, n))
      | inl both ↦ subst (λ (z : Op). IsDeed (ds ++ d ∷ []) (ops ++ new ∷ []) i e z) (sym last.1) (subst (λ (z : Deed). IsDeed (ds ++ d ∷ []) (ops ++ new ∷ []) i z new) (sym both.1) (subst (λ (z : ℕ). IsDeed (ds ++ d ∷ []) (ops ++ new ∷ []) z d new) (sym last.0) the_new))
    ]
    | inr old ↦ elim (of_appended ds d i e at) [
      | inl last ↦ let x = within ops i o old in let y = last.0 in let n = h.count in absurd (omega (arith, x, y, n))
      | inr there ↦ was i e o old (h.each i e o there old)
    ]
  ];
  locals = λ c seat at f. locals c seat at f ∙ sym (local_more c f None ds ops d new h.count);
}
  where
    busy_new : is_busy (ops ++ new ∷ []) new ≡ is_busy ops new
    busy_new = busy_more ops new new (keeps_not new new (λ lt. omega (arith, lt)))

    the_new : IsDeed (ds ++ d ∷ []) (ops ++ new ∷ []) (length ops) d new
    the_new = record {
      small = fresh.small;
      client = fresh.client;
      word = fresh.word;
      file = id_file d.command new fresh.file;
      begin = fresh.begin;
      came = subst (λ (b : Bool). Came d new (local_before (ds ++ d ∷ []) (ops ++ new ∷ []) (length ops) d.client (file_of d.command)) (own_answer b (can_go d) d.command (local_before (ds ++ d ∷ []) (ops ++ new ∷ []) (length ops) d.client (file_of d.command)))) (sym busy_new)
          (subst (λ (l : Option (List ℕ)). Came d new l (own_answer (is_busy ops new) (can_go d) d.command l)) (sym (before_more ds ops d new (length ops) d.client (file_of d.command) h.count (omega arith) ∙ before_all ds ops d.client (file_of d.command) h.count)) fresh.came);
    }

    was : (i : ℕ) (e : Deed) (o : Op) → slice_get ops i ≡ Some o → IsDeed ds ops i e o → IsDeed (ds ++ d ∷ []) (ops ++ new ∷ []) i e o
    was i e o at k = record {
      small = k.small;
      client = k.client;
      word = k.word;
      file = k.file;
      begin = k.begin;
      came = let lt = past i o at in let there = within ops i o at in
          subst (λ (b : Bool). Came e o (local_before (ds ++ d ∷ []) (ops ++ new ∷ []) i e.client (file_of e.command)) (own_answer b (can_go e) e.command (local_before (ds ++ d ∷ []) (ops ++ new ∷ []) i e.client (file_of e.command)))) (sym (busy_more ops o new (keeps_not o new (λ less. omega (arith, lt, less)))))
          (subst (λ (l : Option (List ℕ)). Came e o l (own_answer (is_busy ops o) (can_go e) e.command l)) (sym (before_more ds ops d new i e.client (file_of e.command) h.count (omega (arith, there)))) k.came);
    }
