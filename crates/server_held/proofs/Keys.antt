-- A change at one key.
use Rattle.std.specs.Prelude.{◌≡◌, ◌≢◌, ℕ, List, [], ◌∷◌, ◌++◌, Some, None, Bool, true, false, ◌==◌, Result, Ok, Err, OnOk, OnErr, IsErr, Option}
use Rattle.std.proofs.Common.{refl, sym, ap, ◌∙◌, subst, arith}
use Rattle.std.proofs.lemmas.Bool.Decides.{nat_tests}
use Rattle.slab.specs.Slab.{Slab, get}
use Rattle.server_held.specs.declared.boxes.Outbox.{Outbox}
use Rattle.server_held.specs.Boxes.{Holds, Lacks, IsUnique, KeepsOthers}

pub alike : (a b : ℕ) → (a == b) ≡ true → a ≡ b
alike a b e = grind (arith, nat_tests, e)

pub apart : (a b : ℕ) → (a == b) ≡ false → ¬ (a ≡ b)
apart a b e same = grind (arith, nat_tests, e, same)

module _ {T : Type 0} where
  -- what stands at the key is the session's alone, or nothing, before and after
  pub record IsAt (old new : Slab (Outbox T)) (key session : ℕ) : Type 0 where
    pub before : (one : Outbox T) → get old key ≡ Some one → one.session ≡ session
    pub after : (one : Outbox T) → get new key ≡ Some one → one.session ≡ session
    pub others : (other : ℕ) → other ≢ key → get new other ≡ get old other

  -- so the others' boxes are as before
  pub keeps_others : (old new : Slab (Outbox T)) (key session : ℕ) → IsAt old new key session → KeepsOthers old new session
  keeps_others old new key session k =
      let away_old : (other i : ℕ) (messages : List T) → ¬ (other ≡ session) → get old i ≡ Some (record { session = other; messages = messages }) → i ≢ key = λ other i messages differ held e. differ (k.before (record { session = other; messages = messages }) (subst (λ j. get old j ≡ Some (record { session = other; messages = messages })) e held)) in
      let away_new : (other i : ℕ) (messages : List T) → ¬ (other ≡ session) → get new i ≡ Some (record { session = other; messages = messages }) → i ≢ key = λ other i messages differ held e. differ (k.after (record { session = other; messages = messages }) (subst (λ j. get new j ≡ Some (record { session = other; messages = messages })) e held)) in
      record {
        there = λ other messages differ held. (held.0, k.others held.0 (away_old other held.0 messages differ held.1) ∙ held.1);
        back = λ other messages differ held. (held.0, sym (k.others held.0 (away_new other held.0 messages differ held.1)) ∙ held.1);
      }

  -- the session's box alone stood at the key, or none stood anywhere; so it has one box at most
  pub unique_after : (old new : Slab (Outbox T)) (key session : ℕ) → IsAt old new key session → ((j : ℕ) (b : Outbox T) → get old j ≡ Some b → b.session ≡ session → j ≡ key) → IsUnique old → IsUnique new
  unique_after old new key session k alone unique = λ i j a b ga gb same. by_place i j a b ga gb same (i == key) (j == key) refl refl
    where
      away : (i : ℕ) → (i == key) ≡ false → i ≢ key
      away i e same = grind (arith, nat_tests, e, same)

      here : (i : ℕ) → (i == key) ≡ true → i ≡ key
      here i e = grind (arith, nat_tests, e)

      before : (i : ℕ) (a : Outbox T) → (i == key) ≡ false → get new i ≡ Some a → get old i ≡ Some a
      before i a e g = sym (k.others i (away i e)) ∙ g

      by_place : (i j : ℕ) (a b : Outbox T) → get new i ≡ Some a → get new j ≡ Some b → a.session ≡ b.session → (bi bj : Bool) → (i == key) ≡ bi → (j == key) ≡ bj → i ≡ j
      by_place i j a b ga gb same true true ei ej = here i ei ∙ sym (here j ej)
      by_place i j a b ga gb same true false ei ej =
          let at : get new key ≡ Some a = subst (λ z. get new z ≡ Some a) (here i ei) ga in
          here i ei ∙ sym (alone j b (before j b ej gb) (sym same ∙ k.after a at))
      by_place i j a b ga gb same false true ei ej =
          let at : get new key ≡ Some b = subst (λ z. get new z ≡ Some b) (here j ej) gb in
          alone i a (before i a ei ga) (same ∙ k.after b at) ∙ sym (here j ej)
      by_place i j a b ga gb same false false ei ej = unique i j a b (before i a ei ga) (before j b ej gb) same

  -- the box at the key is the session's, before and after
  pub record Changed (old new : Slab (Outbox T)) (key session : ℕ) (before after : List T) : Type 0 where
    pub was : get old key ≡ Some (record { session = session; messages = before })
    pub is : get new key ≡ Some (record { session = session; messages = after })
    pub others : (other : ℕ) → other ≢ key → get new other ≡ get old other

  same_session : (a b : Outbox T) → Some a ≡ Some b → a.session ≡ b.session
  same_session a b e = ap (λ o. elim o [ None ↦ 0 | Some x ↦ x.session ]) e

  same_messages : (a b : Outbox T) → Some a ≡ Some b → a.messages ≡ b.messages
  same_messages a b e = ap (λ o. elim o [ None ↦ [] | Some x ↦ x.messages ]) e

  changed_at : (old new : Slab (Outbox T)) (key session : ℕ) (before after : List T) → Changed old new key session before after → IsAt old new key session
  changed_at old new key session before after k = record {
    before = λ one e. same_session one (record { session = session; messages = before }) (sym e ∙ k.was);
    after = λ one e. same_session one (record { session = session; messages = after }) (sym e ∙ k.is);
    others = k.others;
  }

  pub changed_others : (old new : Slab (Outbox T)) (key session : ℕ) (before after : List T) → Changed old new key session before after → KeepsOthers old new session
  changed_others old new key session before after k = keeps_others old new key session (changed_at old new key session before after k)

  pub changed_unique : (old new : Slab (Outbox T)) (key session : ℕ) (before after : List T) → Changed old new key session before after → IsUnique old → IsUnique new
  changed_unique old new key session before after k unique =
      unique_after old new key session (changed_at old new key session before after k) (λ j b e same. unique j key b (record { session = session; messages = before }) e k.was same) unique

  -- what the session has is what the box had
  pub changed_is : (old new : Slab (Outbox T)) (key session : ℕ) (before after : List T) → Changed old new key session before after → IsUnique old → (messages : List T) → Holds old session messages → messages ≡ before
  changed_is old new key session before after k unique messages held =
      let at : held.0 ≡ key = unique held.0 key (record { session = session; messages = messages }) (record { session = session; messages = before }) held.1 k.was refl in
      let here : get old key ≡ Some (record { session = session; messages = messages }) = subst (λ z. get old z ≡ Some (record { session = session; messages = messages })) at held.1 in
      same_messages (record { session = session; messages = messages }) (record { session = session; messages = before }) (sym here ∙ k.was)

  -- the box that stands at the key is all that the session has
  pub holds_is : (boxes : Slab (Outbox T)) (key session : ℕ) (messages before : List T) → IsUnique boxes → get boxes key ≡ Some (record { session = session; messages = before }) → Holds boxes session messages → messages ≡ before
  holds_is boxes key session messages before unique was held =
      changed_is boxes boxes key session before before (record { was = was; is = was; others = λ other differs. refl }) unique messages held

  pub lacks_unholds : (boxes : Slab (Outbox T)) (session : ℕ) (messages : List T) → Lacks boxes session → ¬ Holds boxes session messages
  lacks_unholds boxes session messages lacks held = lacks held.0 (record { session = session; messages = messages }) held.1 refl

  -- nothing is changed
  pub keeps_same : (boxes : Slab (Outbox T)) (session : ℕ) → KeepsOthers boxes boxes session
  keeps_same boxes session = record { there = λ other messages differ held. held; back = λ other messages differ held. held }

  -- after two changes of the session's box
  pub keeps_more : (a b c : Slab (Outbox T)) (session : ℕ) → KeepsOthers a b session → KeepsOthers b c session → KeepsOthers a c session
  keeps_more a b c session first second = record {
    there = λ other messages differ held. second.there other messages differ (first.there other messages differ held);
    back = λ other messages differ held. first.back other messages differ (second.back other messages differ held);
  }

  -- a message was added to the session's box under the key, where the result is Ok
  pub record PutAt {A E : Type 0} (old new : Slab (Outbox T)) (key session : ℕ) (before : List T) (message : T) (r : Result A E) : Type 0 where
    pub was : get old key ≡ Some (record { session = session; messages = before })
    pub ok : OnOk r (get new key ≡ Some (record { session = session; messages = before ++ message ∷ [] }))
    pub err : OnErr r (get new key ≡ Some (record { session = session; messages = before }))
    pub others : (other : ℕ) → other ≢ key → get new other ≡ get old other

  module _ {A E : Type 0} where
    pub put_changed : (old new : Slab (Outbox T)) (key session : ℕ) (before : List T) (message : T) (r : Result A E) → PutAt old new key session before message r → (after : List T) × Changed old new key session before after
    put_changed old new key session before message (Ok x) k = (before ++ message ∷ [], record { was = k.was; is = k.ok; others = k.others })
    put_changed old new key session before message (Err e) k = (before, record { was = k.was; is = k.err; others = k.others })

    put_is : (old new : Slab (Outbox T)) (key session : ℕ) (before : List T) (message : T) (r : Result A E) → PutAt old new key session before message r → IsUnique old → (messages : List T) → Holds old session messages → messages ≡ before
    put_is old new key session before message r k unique messages held =
        let changed = put_changed old new key session before message r k in
        changed_is old new key session before changed.0 changed.1 unique messages held

    pub put_others : (old new : Slab (Outbox T)) (key session : ℕ) (before : List T) (message : T) (r : Result A E) → PutAt old new key session before message r → KeepsOthers old new session
    put_others old new key session before message r k =
        let changed = put_changed old new key session before message r k in
        changed_others old new key session before changed.0 changed.1

    pub put_unique : (old new : Slab (Outbox T)) (key session : ℕ) (before : List T) (message : T) (r : Result A E) → PutAt old new key session before message r → IsUnique old → IsUnique new
    put_unique old new key session before message r k =
        let changed = put_changed old new key session before message r k in
        changed_unique old new key session before changed.0 changed.1

    pub put_there : (old new : Slab (Outbox T)) (key session : ℕ) (before : List T) (message : T) (r : Result A E) → PutAt old new key session before message r → IsUnique old → (messages : List T) → Holds old session messages → OnOk r (Holds new session (messages ++ message ∷ []))
    put_there old new key session before message (Ok x) k unique messages held = (key, k.ok ∙ ap (λ ms. Some (record { session = session; messages = ms ++ message ∷ [] })) (sym (put_is old new key session before message (Ok x) k unique messages held)))
    put_there old new key session before message (Err e) k unique messages held = tt

    pub put_kept : (old new : Slab (Outbox T)) (key session : ℕ) (before : List T) (message : T) (r : Result A E) → PutAt old new key session before message r → IsUnique old → (messages : List T) → Holds old session messages → OnErr r (Holds new session messages)
    put_kept old new key session before message (Ok x) k unique messages held = tt
    put_kept old new key session before message (Err e) k unique messages held = (key, k.err ∙ ap (λ ms. Some (record { session = session; messages = ms })) (sym (put_is old new key session before message (Err e) k unique messages held)))

  absurd_none : (o : Option (Outbox T)) (one : Outbox T) → o ≡ None → o ≡ Some one → ⊥
  absurd_none o one none some = cc

  -- the session's box went
  pub record GoneAt (old new : Slab (Outbox T)) (key session : ℕ) (before : List T) : Type 0 where
    pub was : get old key ≡ Some (record { session = session; messages = before })
    pub gone : get new key ≡ None
    pub others : (other : ℕ) → other ≢ key → get new other ≡ get old other

  gone_at : (old new : Slab (Outbox T)) (key session : ℕ) (before : List T) → GoneAt old new key session before → IsAt old new key session
  gone_at old new key session before k = record {
    before = λ one e. same_session one (record { session = session; messages = before }) (sym e ∙ k.was);
    after = λ one e. absurd (absurd_none (get new key) one k.gone e);
    others = k.others;
  }

  pub gone_others : (old new : Slab (Outbox T)) (key session : ℕ) (before : List T) → GoneAt old new key session before → KeepsOthers old new session
  gone_others old new key session before k = keeps_others old new key session (gone_at old new key session before k)

  pub gone_unique : (old new : Slab (Outbox T)) (key session : ℕ) (before : List T) → GoneAt old new key session before → IsUnique old → IsUnique new
  gone_unique old new key session before k unique =
      unique_after old new key session (gone_at old new key session before k) (λ j b e same. unique j key b (record { session = session; messages = before }) e k.was same) unique

  pub gone_lacks : (old new : Slab (Outbox T)) (key session : ℕ) (before : List T) → GoneAt old new key session before → IsUnique old → Lacks new session
  gone_lacks old new key session before k unique = λ j b e same. by_place j b e same (j == key) refl
    where
      by_place : (j : ℕ) (b : Outbox T) → get new j ≡ Some b → b.session ≡ session → (at : Bool) → (j == key) ≡ at → ⊥
      by_place j b e same true here =
          let is : j ≡ key = grind (arith, nat_tests, here) in
          absurd_none (get new key) b k.gone (subst (λ z. get new z ≡ Some b) is e)
      by_place j b e same false away =
          let differs : j ≢ key = grind (arith, nat_tests, away) in
          differs (unique j key b (record { session = session; messages = before }) (sym (k.others j differs) ∙ e) k.was same)

  -- a session that had none got an empty box
  pub record OpenAt (old new : Slab (Outbox T)) (key session : ℕ) : Type 0 where
    pub vacant : get old key ≡ None
    pub is : get new key ≡ Some (record { session = session; messages = [] })
    pub others : (other : ℕ) → other ≢ key → get new other ≡ get old other

  open_at : (old new : Slab (Outbox T)) (key session : ℕ) → OpenAt old new key session → IsAt old new key session
  open_at old new key session k = record {
    before = λ one e. absurd (absurd_none (get old key) one k.vacant e);
    after = λ one e. same_session one (record { session = session; messages = [] }) (sym e ∙ k.is);
    others = k.others;
  }

  pub open_others : (old new : Slab (Outbox T)) (key session : ℕ) → OpenAt old new key session → KeepsOthers old new session
  open_others old new key session k = keeps_others old new key session (open_at old new key session k)

  pub open_unique : (old new : Slab (Outbox T)) (key session : ℕ) → OpenAt old new key session → Lacks old session → IsUnique old → IsUnique new
  open_unique old new key session k lacks unique =
      unique_after old new key session (open_at old new key session k) (λ j b e same. absurd (lacks j b e same)) unique

  -- a slab that found no room is as it was, but for its room
  pub full_unique : (old new : Slab (Outbox T)) → new ≡ record old { capacity = new.capacity } → IsUnique old → IsUnique new
  full_unique old new e unique = subst (λ b. IsUnique b) (sym e) (let same : IsUnique (record old { capacity = new.capacity }) = unique in same)

  pub full_lacks : (old new : Slab (Outbox T)) (session : ℕ) → new ≡ record old { capacity = new.capacity } → Lacks old session → Lacks new session
  full_lacks old new session e lacks = subst (λ b. Lacks b session) (sym e) (let same : Lacks (record old { capacity = new.capacity }) session = lacks in same)

  pub full_others : (old new : Slab (Outbox T)) (session : ℕ) → new ≡ record old { capacity = new.capacity } → KeepsOthers old new session
  full_others old new session e =
      let same : KeepsOthers old (record old { capacity = new.capacity }) session = record { there = λ other messages differ held. held; back = λ other messages differ held. held } in
      subst (λ b. KeepsOthers old b session) (sym e) same

pub is_empty_unless : {A : Type 0} (xs : List A) → ¬ ¬ (xs ≡ []) → xs ≡ []
is_empty_unless [] not = refl
is_empty_unless (x ∷ xs) not = absurd (not (λ is. cc))

pub no_ok : {A E : Type 0} (r : Result A E) (P : Type 0) → IsErr r → OnOk r P
no_ok (Ok x) P e = cc
no_ok (Err d) P e = tt

pub on_err : {A E : Type 0} (r : Result A E) (P : Type 0) → P → OnErr r P
on_err (Ok x) P p = tt
on_err (Err d) P p = p
