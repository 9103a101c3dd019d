-- Messages that are put into boxes one after the other.
use Rattle.std.specs.Prelude.{◌≡◌, ℕ, List, [], ◌∷◌, ◌++◌, Some, Bool, true, false, ◌==◌, if◌then◌else◌}
use Rattle.std.proofs.Common.{refl, sym, ap, ◌∙◌, subst, arith, append_assoc}
use Rattle.std.proofs.lemmas.Bool.Decides.{nat_tests}
use Rattle.std.proofs.lemmas.List.{append-nil}
use Rattle.slab.specs.Slab.{Slab, get}
use Rattle.server_held.specs.declared.boxes.Outbox.{Outbox}
use Rattle.server_held.specs.Boxes.{Holds, Lacks, KeepsOthers}
use Rattle.wire.specs.declared.message.Message.{Message}
use Rattle.server_core.specs.declared.event.Sent.{Sent}
use Rattle.server_held.specs.Held.{messages_to, Adds, Spares, AllLack, AllOwed}

abbrev Boxes : Type 0
Boxes = Slab (Outbox Message)

one_more : (session : ℕ) (s : Sent) (front back both : List Message) (same : Bool) → both ≡ front ++ back → (if same then s.message ∷ both else both) ≡ (if same then s.message ∷ front else front) ++ back
one_more session s front back both true e = ap (λ ms. s.message ∷ ms) e
one_more session s front back both false e = e

messages_to_append : (session : ℕ) (xs ys : List Sent) → messages_to session (xs ++ ys) ≡ messages_to session xs ++ messages_to session ys
messages_to_append session [] ys = refl
messages_to_append session (s ∷ ss) ys = one_more session s (messages_to session ss) (messages_to session ys) (messages_to session (ss ++ ys)) (s.session == session) (messages_to_append session ss ys)

-- ---- sessions that were lost

spares_both : (session : ℕ) (xs ys : List ℕ) → Spares (xs ++ ys) session → Spares xs session × Spares ys session
spares_both session [] ys spares = (tt, spares)
spares_both session (x ∷ xs) ys spares = let both = spares_both session xs ys spares.1 in ((spares.0, both.0), both.1)

all_lack_later : (old new : Boxes) (xs : List ℕ) → ((session : ℕ) → Lacks old session → Lacks new session) → AllLack old xs → AllLack new xs
all_lack_later old new [] stays lack = tt
all_lack_later old new (x ∷ xs) stays lack = (stays x lack.0, all_lack_later old new xs stays lack.1)

all_lack_both : (boxes : Boxes) (xs ys : List ℕ) → AllLack boxes xs → AllLack boxes ys → AllLack boxes (xs ++ ys)
all_lack_both boxes [] ys one other = other
all_lack_both boxes (x ∷ xs) ys one other = (one.0, all_lack_both boxes xs ys one.1 other)

-- ---- sessions that were to be told something

none_left : (a b : List Message) → a ++ b ≡ [] → a ≡ []
none_left [] b is = refl
none_left (m ∷ ms) b is = cc

none_right : (a b : List Message) → a ++ b ≡ [] → b ≡ []
none_right [] b is = is
none_right (m ∷ ms) b is = cc

owed_both : (xs ys : List Sent) (ls ks : List ℕ) → AllOwed xs ls → AllOwed ys ks → AllOwed (xs ++ ys) (ls ++ ks)
owed_both xs ys [] [] one other = tt
owed_both xs ys [] (k ∷ ks) one other = (λ none. other.0 (none_right (messages_to k xs) (messages_to k ys) (sym (messages_to_append k xs ys) ∙ none)), owed_both xs ys [] ks tt other.1)
owed_both xs ys (l ∷ ls) ks one other = (λ none. one.0 (none_left (messages_to l xs) (messages_to l ys) (sym (messages_to_append l xs ys) ∙ none)), owed_both xs ys ls ks one.1 other)

-- ---- none, and first these, then those

pub adds_none : (boxes : Boxes) → Adds boxes [] [] boxes
adds_none boxes = record {
  held = λ session messages spares holds. subst (λ ms. Holds boxes session ms) (sym (append-nil messages)) holds;
  none = λ session lacks. lacks;
  gone = tt;
  owed = tt;
}

pub adds_more : (a b c : Boxes) (xs ys : List Sent) (ls ks : List ℕ) → Adds a xs ls b → Adds b ys ks c → Adds a (xs ++ ys) (ls ++ ks) c
adds_more a b c xs ys ls ks first second = record {
  held = λ session messages spares holds.
      let both : (messages ++ messages_to session xs) ++ messages_to session ys ≡ messages ++ messages_to session (xs ++ ys) = append_assoc messages (messages_to session xs) (messages_to session ys) ∙ ap (λ ms. messages ++ ms) (sym (messages_to_append session xs ys)) in
      let spared = spares_both session ls ks spares in
      subst (λ ms. Holds c session ms) both (second.held session (messages ++ messages_to session xs) spared.1 (first.held session messages spared.0 holds));
  none = λ session lacks. second.none session (first.none session lacks);
  gone = all_lack_both c ls ks (all_lack_later b c ls second.none first.gone) second.gone;
  owed = owed_both xs ys ls ks first.owed second.owed;
}

-- ---- one

-- a message is put into its session's box, and the others stay
pub record PutInto (old : Boxes) (s : Sent) (new : Boxes) : Type 0 where
  pub put : (messages : List Message) → Holds old s.session messages → Holds new s.session (messages ++ s.message ∷ [])
  pub none : Lacks old s.session → Lacks new s.session
  pub others : KeepsOthers old new s.session

away : (a b : ℕ) → (a == b) ≡ false → ¬ (b ≡ a)
away a b e same = grind (arith, nat_tests, e, same)

here : (a b : ℕ) → (a == b) ≡ true → a ≡ b
here a b e = grind (arith, nat_tests, e)

pub others_lack : (old new : Boxes) (session other : ℕ) → KeepsOthers old new session → ¬ (other ≡ session) → Lacks old other → Lacks new other
others_lack old new session other keeps differ lacks = λ key one at same.
    let held : Holds new other one.messages = (key, subst (λ k. get new key ≡ Some (record { session = k; messages = one.messages })) same at) in
    let was = keeps.back other one.messages differ held in
    lacks was.0 (record { session = other; messages = one.messages }) was.1 refl

pub keeps_more : (a b c : Boxes) (session : ℕ) → KeepsOthers a b session → KeepsOthers b c session → KeepsOthers a c session
keeps_more a b c session first second = record {
  there = λ other messages differ holds. second.there other messages differ (first.there other messages differ holds);
  back = λ other messages differ holds. first.back other messages differ (second.back other messages differ holds);
}

pub adds_one : (old : Boxes) (s : Sent) (new : Boxes) → PutInto old s new → Adds old (s ∷ []) [] new
adds_one old s new p = record {
  held = λ session messages spares holds. by_session session messages holds (s.session == session) refl;
  none = λ session lacks. lacks_on session lacks (s.session == session) refl;
  gone = tt;
  owed = tt;
}
  where
    by_session : (session : ℕ) (messages : List Message) → Holds old session messages → (same : Bool) → (s.session == session) ≡ same → Holds new session (messages ++ (if same then s.message ∷ [] else []))
    by_session session messages holds true e =
        subst (λ k. Holds new k (messages ++ s.message ∷ [])) (here s.session session e) (p.put messages (subst (λ k. Holds old k messages) (sym (here s.session session e)) holds))
    by_session session messages holds false e =
        subst (λ ms. Holds new session ms) (sym (append-nil messages)) (p.others.there session messages (away s.session session e) holds)

    lacks_on : (session : ℕ) → Lacks old session → (same : Bool) → (s.session == session) ≡ same → Lacks new session
    lacks_on session lacks true e = subst (λ k. Lacks new k) (here s.session session e) (p.none (subst (λ k. Lacks old k) (sym (here s.session session e)) lacks))
    lacks_on session lacks false e = others_lack old new s.session session p.others (away s.session session e) lacks

told_some : (s : Sent) (same : Bool) → same ≡ true → ¬ ((if same then s.message ∷ [] else []) ≡ [])
told_some s true is none = cc
told_some s false is none = cc

-- the session of a message was lost
pub adds_lost : (old : Boxes) (s : Sent) (new : Boxes) → KeepsOthers old new s.session → Lacks new s.session → Adds old (s ∷ []) (s.session ∷ []) new
adds_lost old s new keeps gone = record {
  held = λ session messages spares holds. by_session session messages spares.0 holds (s.session == session) refl;
  none = λ session lacks. lacks_on session lacks (s.session == session) refl;
  gone = (gone, tt);
  owed = (told_some s (s.session == s.session) (grind (arith, nat_tests)), tt);
}
  where
    by_session : (session : ℕ) (messages : List Message) → ¬ (session ≡ s.session) → Holds old session messages → (same : Bool) → (s.session == session) ≡ same → Holds new session (messages ++ (if same then s.message ∷ [] else []))
    by_session session messages differ holds true e = absurd (differ (sym (here s.session session e)))
    by_session session messages differ holds false e = subst (λ ms. Holds new session ms) (sym (append-nil messages)) (keeps.there session messages differ holds)

    lacks_on : (session : ℕ) → Lacks old session → (same : Bool) → (s.session == session) ≡ same → Lacks new session
    lacks_on session lacks true e = subst (λ k. Lacks new k) (here s.session session e) gone
    lacks_on session lacks false e = others_lack old new s.session session keeps (away s.session session e) lacks
