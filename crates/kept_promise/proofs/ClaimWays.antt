-- What is on its way on a session after an event, message by message.
use Rattle.std.proofs.Common.{◌≡◌, ◌⊎◌, inl, inr, ℕ, List, [], ◌∷◌, ◌++◌, Option, Some, None, Bool, true, false, refl, sym, ap, ◌∙◌, arith, map, eqb-true}
use Rattle.std.specs.Prelude.{◌==◌, cond, filter, if◌then◌else◌}
use Rattle.std.proofs.lemmas.Bool.Decides.{nat_tests}
use Rattle.std.proofs.lemmas.List.{append_assoc}
use Rattle.wire.specs.declared.message.Message.{Message}
use Rattle.server_core.specs.Recalling.{recall_sent}
use Rattle.server_core.specs.declared.event.Sent.{Sent}
use Rattle.lease_law.specs.Claims.{Way}
use Rattle.lease_law.specs.Orderly.{sent_on, behind_with}
use Rattle.std.specs.List.{AllByRecursion}
use Rattle.kept_promise.proofs.Common.{Session, CoreStep, numbered, with_numbered, unless, Up, Up.Asks, Up.Replies, Down, Mix, up_message, down_message, reply_message}
use Rattle.kept_promise.proofs.Lists.{some_is, nothing_there, same_or_not, none_behind, true_and_false}
use Rattle.kept_promise.proofs.Turns.{around_with}
use Rattle.kept_promise.proofs.Leading.{Sends, sent_ups, recall_down, told_down, sent_downs, mix_ups_in, mix_ups, mix_downs_in, mix_downs, mixes_lost, mixes_after, IsStray}
use Rattle.kept_promise.proofs.Claimed.{downs_of}

-- ---- what is put up

-- what was on its way on a session, to whose client's newest session these are put
record UpsAt (sessions : List Session) (ms : List Mix) (o : Option ℕ) (us : List Up) (n : ℕ) (m : Mix) : Type 0 where
  pub was : Mix
  pub there : numbered ms n ≡ Some was
  pub downs : m.downs ≡ was.downs
  pub other : (o ≡ Some n → ⊥) → m.ups ≡ was.ups
  pub own : (x : Session) → o ≡ Some n → numbered sessions n ≡ Some x → m.ups ≡ unless x.hung was.ups us

no_number : {A : Type 0} (n : ℕ) → ◌≡◌ {A = Option ℕ} None (Some n) → A
no_number n e = absurd cc

ups_at : (sessions : List Session) (ms : List Mix) (o : Option ℕ) (us : List Up) (n : ℕ) (m : Mix) → numbered (mix_ups sessions ms o us) n ≡ Some m → UpsAt sessions ms o us n m
ups_at sessions ms None us n m e = record { was = m; there = e; downs = refl; other = λ apart. refl; own = λ x is at. no_number n is }
ups_at sessions ms (Some k) us n m e = by (numbered sessions k) (numbered ms k) refl refl e
  where
    -- nothing is put, as there is no such session, or nothing can be on its way on it
    kept : ((x : Session) → numbered sessions k ≡ Some x → (y : Mix) → numbered ms k ≡ Some y → ⊥) → numbered ms n ≡ Some m → UpsAt sessions ms (Some k) us n m
    kept never e = record {
      was = m;
      there = e;
      downs = refl;
      other = λ apart. refl;
      own = λ x is at. (let same = some_is k n is in absurd (never x (ap (numbered sessions) same ∙ at) m (ap (numbered ms) same ∙ e)));
    }

    by : (x : Option Session) (y : Option Mix) → numbered sessions k ≡ x → numbered ms k ≡ y → numbered (mix_ups_in ms k us x y) n ≡ Some m → UpsAt sessions ms (Some k) us n m
    by None y at is e = kept (λ x there. nothing_there x (sym at ∙ there)) e
    by (Some x) None at is e = kept (λ z there y here. nothing_there y (sym is ∙ here)) e
    by (Some x) (Some y) at is e = split (same_or_not n k)
      where
        new : Mix
        new = record y { ups = unless x.hung y.ups us }

        split : (n ≡ k) ⊎ (n ≡ k → ⊥) → UpsAt sessions ms (Some k) us n m
        split (inl same) =
            let h = around_with ms k y new is in
            let got : new ≡ m = some_is new m (sym h.there ∙ ap (numbered (with_numbered ms k new)) (sym same) ∙ e) in
            record {
              was = y;
              there = ap (numbered ms) same ∙ is;
              downs = ap (λ (z : Mix). z.downs) (sym got);
              other = λ apart. absurd (apart (ap (λ (i : ℕ). Some i) (sym same)));
              own = λ z mine there. (let own_ = some_is x z (sym at ∙ ap (numbered sessions) (sym same) ∙ there) in ap (λ (w : Mix). w.ups) (sym got) ∙ ap (λ (w : Session). unless w.hung y.ups us) own_);
            }
        split (inr apart) = let h = around_with ms k y new is in record {
          was = m;
          there = sym (h.others n apart) ∙ e;
          downs = refl;
          other = λ a. refl;
          own = λ z mine there. absurd (apart (sym (some_is k n mine)));
        }

-- ---- what is put down

-- those of a session
abbrev pub downs_on : (n : ℕ) → List (ℕ × Down) → List Down
downs_on n ps = map (λ p. p.1) (filter (λ p. p.0 == n) ps)

record DownsAt (sessions : List Session) (ms : List Mix) (ps : List (ℕ × Down)) (n : ℕ) (m : Mix) : Type 0 where
  pub was : Mix
  pub there : numbered ms n ≡ Some was
  pub ups : m.ups ≡ was.ups
  pub downs : (x : Session) → numbered sessions n ≡ Some x → m.downs ≡ unless x.cut was.downs (downs_on n ps)

unless_none : {A : Type 0} (b : Bool) (xs : List A) → xs ≡ unless b xs []
unless_none true xs = refl
unless_none false xs = by xs
  where
    by : {A : Type 0} (xs : List A) → xs ≡ xs ++ []
    by [] = refl
    by (x ∷ xs) = ap (λ l. x ∷ l) (by xs)

unless_join : {A : Type 0} (b : Bool) (xs ys zs : List A) → unless b (unless b xs ys) zs ≡ unless b xs (ys ++ zs)
unless_join true xs ys zs = refl
unless_join false xs ys zs = append_assoc xs ys zs

is_same : (n : ℕ) → (n == n) ≡ true
is_same n = grind (arith, nat_tests)

is_other : (k n : ℕ) → (n ≡ k → ⊥) → (k == n) ≡ false
is_other k n apart = by (k == n) refl
  where
    by : (b : Bool) → (k == n) ≡ b → b ≡ false
    by true e = let same : k ≡ n = grind (arith, nat_tests, e) in absurd (apart (sym same))
    by false e = refl

one_at : (sessions : List Session) (ms : List Mix) (p : ℕ × Down) (n : ℕ) (m : Mix) → numbered (mix_downs_in ms p (numbered sessions p.0) (numbered ms p.0)) n ≡ Some m → DownsAt sessions ms (p ∷ []) n m
one_at sessions ms p n m e = by (numbered sessions p.0) (numbered ms p.0) refl refl e
  where
    here : p.0 ≡ n → downs_on n (p ∷ []) ≡ p.1 ∷ []
    here same = ap (λ (b : Bool). map (λ (z : ℕ × Down). z.1) (cond b (p ∷ []) [])) (ap (λ (i : ℕ). i == n) same ∙ is_same n)

    else_ : (n ≡ p.0 → ⊥) → downs_on n (p ∷ []) ≡ []
    else_ apart = ap (λ (b : Bool). map (λ (z : ℕ × Down). z.1) (cond b (p ∷ []) [])) (is_other p.0 n apart)

    away : (n ≡ p.0 → ⊥) → numbered ms n ≡ Some m → DownsAt sessions ms (p ∷ []) n m
    away apart e = record { was = m; there = e; ups = refl; downs = λ x at. unless_none x.cut m.downs ∙ ap (λ (l : List Down). unless x.cut m.downs l) (sym (else_ apart)) }

    by : (x : Option Session) (y : Option Mix) → numbered sessions p.0 ≡ x → numbered ms p.0 ≡ y → numbered (mix_downs_in ms p x y) n ≡ Some m → DownsAt sessions ms (p ∷ []) n m
    by None y at is e = split (same_or_not n p.0)
      where
        split : (n ≡ p.0) ⊎ (n ≡ p.0 → ⊥) → DownsAt sessions ms (p ∷ []) n m
        split (inl same) = record { was = m; there = e; ups = refl; downs = λ x there. nothing_there x (sym at ∙ ap (numbered sessions) (sym same) ∙ there) }
        split (inr apart) = away apart e
    by (Some x) None at is e = away (λ same. nothing_there m (sym is ∙ ap (numbered ms) (sym same) ∙ e)) e
    by (Some x) (Some y) at is e = split (same_or_not n p.0)
      where
        new : Mix
        new = record y { downs = unless x.cut y.downs (p.1 ∷ []) }

        split : (n ≡ p.0) ⊎ (n ≡ p.0 → ⊥) → DownsAt sessions ms (p ∷ []) n m
        split (inl same) =
            let h = around_with ms p.0 y new is in
            let got : new ≡ m = some_is new m (sym h.there ∙ ap (numbered (with_numbered ms p.0 new)) (sym same) ∙ e) in
            record {
              was = y;
              there = ap (numbered ms) same ∙ is;
              ups = ap (λ (z : Mix). z.ups) (sym got);
              downs = λ z there. (let own_ = some_is x z (sym at ∙ ap (numbered sessions) (sym same) ∙ there) in ap (λ (w : Mix). w.downs) (sym got) ∙ ap (λ (w : Session). unless w.cut y.downs (p.1 ∷ [])) own_ ∙ ap (λ (l : List Down). unless z.cut y.downs l) (sym (here (sym same))));
            }
        split (inr apart) = away apart (let h = around_with ms p.0 y new is in sym (h.others n apart) ∙ e)

on_cons : (n : ℕ) (p : ℕ × Down) (ps : List (ℕ × Down)) → downs_on n (p ∷ []) ++ downs_on n ps ≡ downs_on n (p ∷ ps)
on_cons n p ps = by (p.0 == n)
  where
    by : (b : Bool) → map (λ (z : ℕ × Down). z.1) (cond b (p ∷ []) []) ++ downs_on n ps ≡ map (λ (z : ℕ × Down). z.1) (cond b (p ∷ filter (λ z. z.0 == n) ps) (filter (λ z. z.0 == n) ps))
    by true = refl
    by false = refl

downs_at : (sessions : List Session) (ps : List (ℕ × Down)) (ms : List Mix) (n : ℕ) (m : Mix) → numbered (mix_downs sessions ms ps) n ≡ Some m → DownsAt sessions ms ps n m
downs_at sessions [] ms n m e = record { was = m; there = e; ups = refl; downs = λ x at. unless_none x.cut m.downs }
downs_at sessions (p ∷ ps) ms n m e =
    let later = downs_at sessions ps (mix_downs_in ms p (numbered sessions p.0) (numbered ms p.0)) n m e in
    let one = one_at sessions ms p n later.was later.there in
    record {
      was = one.was;
      there = one.there;
      ups = later.ups ∙ one.ups;
      downs = λ x at. later.downs x at ∙ ap (λ (l : List Down). unless x.cut l (downs_on n ps)) (one.downs x at) ∙ unless_join x.cut one.was.downs (downs_on n (p ∷ [])) (downs_on n ps) ∙ ap (unless x.cut one.was.downs) (on_cons n p ps);
    }

-- ---- after an event

-- what was on its way on a session before the event sent something, but for what was lost by then
pub record Before (ms : List Mix) (t : CoreStep) (s : Sends t) (n : ℕ) (m : Mix) : Type 0 where
  pub was : Mix
  pub there : numbered (mixes_lost ms t.loss) n ≡ Some was
  pub other : (t.session ≡ Some n → ⊥) → m.ups ≡ was.ups
  pub own : (x : Session) → t.session ≡ Some n → numbered t.core.sessions n ≡ Some x → m.ups ≡ unless x.hung was.ups (sent_ups t s)
  pub downs : (x : Session) → numbered t.core.sessions n ≡ Some x → m.downs ≡ unless x.cut was.downs (downs_on n (sent_downs t s))

pub before_at : (ms : List Mix) (t : CoreStep) (s : Sends t) (n : ℕ) (m : Mix) → numbered (mixes_after ms t s) n ≡ Some m → Before ms t s n m
before_at ms t s n m e =
    let d = downs_at t.core.sessions (sent_downs t s) (mix_ups t.core.sessions (mixes_lost ms t.loss) t.session (sent_ups t s)) n m e in
    let u = ups_at t.core.sessions (mixes_lost ms t.loss) t.session (sent_ups t s) n d.was d.there in
    record {
      was = u.was;
      there = u.there;
      other = λ apart. d.ups ∙ u.other apart;
      own = λ x mine at. d.ups ∙ u.own x mine at;
      downs = λ x at. d.downs x at ∙ ap (λ (l : List Down). unless x.cut l (downs_on n (sent_downs t s))) u.downs;
    }

-- ---- as messages

pub map_append : {A B : Type 0} (f : A → B) (xs ys : List A) → map f (xs ++ ys) ≡ map f xs ++ map f ys
map_append f [] ys = refl
map_append f (x ∷ xs) ys = ap (λ l. f x ∷ l) (map_append f xs ys)

map_map : {A B C : Type 0} (f : A → B) (g : B → C) (xs : List A) → map g (map f xs) ≡ map (λ x. g (f x)) xs
map_map f g [] = refl
map_map f g (x ∷ xs) = ap (λ l. g (f x) ∷ l) (map_map f g xs)

pub behind_unless : (way : Way) (b : Bool) (ds more : List Down) → way.cut ≡ b → downs_of (unless b ds more) ≡ behind_with way (downs_of ds) (downs_of more)
behind_unless way b ds more e = by b ∙ ap (λ (c : Bool). if c then downs_of ds else downs_of ds ++ downs_of more) (sym e)
  where
    by : (c : Bool) → downs_of (unless c ds more) ≡ (if c then downs_of ds else downs_of ds ++ downs_of more)
    by true = refl
    by false = map_append down_message ds more

pub ups_unless : (b : Bool) (us more : List Up) → map up_message (unless b us more) ≡ unless b (map up_message us) (map up_message more)
ups_unless true us more = refl
ups_unless false us more = map_append up_message us more

abbrev down_sent : ℕ × Down → Sent
down_sent p = record { session = p.0; message = down_message p.1 }

pub downs_are : (t : CoreStep) (s : Sends t) → t.down ≡ s.strays ++ map down_sent (sent_downs t s)
downs_are t s =
    s.down_is
    ∙ ap (λ (l : List Sent). s.strays ++ l) (sym (map_append down_sent (map recall_down s.recalls) (map told_down s.tolds)
    ∙ ap (λ (l : List Sent). l ++ map down_sent (map told_down s.tolds)) (map_map recall_down down_sent s.recalls)
    ∙ ap (λ (l : List Sent). map recall_sent s.recalls ++ l) (map_map told_down down_sent s.tolds)))

on_sent : (n : ℕ) (ps : List (ℕ × Down)) → sent_on n (map down_sent ps) ≡ downs_of (downs_on n ps)
on_sent n [] = refl
on_sent n (p ∷ ps) = by (p.0 == n) (on_sent n ps)
  where
    by : (b : Bool) → sent_on n (map down_sent ps) ≡ downs_of (downs_on n ps)
        → map (λ (x : Sent). x.message) (cond b (down_sent p ∷ filter (λ x. x.session == n) (map down_sent ps)) (filter (λ x. x.session == n) (map down_sent ps))) ≡ downs_of (map (λ (z : ℕ × Down). z.1) (cond b (p ∷ filter (λ z. z.0 == n) ps) (filter (λ z. z.0 == n) ps)))
    by true later = ap (λ (l : List Message). down_message p.1 ∷ l) later
    by false later = later

sent_more : (n : ℕ) (xs ys : List Sent) → sent_on n (xs ++ ys) ≡ sent_on n xs ++ sent_on n ys
sent_more n [] ys = refl
sent_more n (x ∷ xs) ys = by (x.session == n) (sent_more n xs ys)
  where
    by : (b : Bool) → sent_on n (xs ++ ys) ≡ sent_on n xs ++ sent_on n ys
        → map (λ (z : Sent). z.message) (cond b (x ∷ filter (λ z. z.session == n) (xs ++ ys)) (filter (λ z. z.session == n) (xs ++ ys))) ≡ map (λ (z : Sent). z.message) (cond b (x ∷ filter (λ z. z.session == n) xs) (filter (λ z. z.session == n) xs)) ++ sent_on n ys
    by true later = ap (λ (l : List Message). x.message ∷ l) later
    by false later = later

-- what nobody hears goes down no session that its client hasn't left
strays_else : (sessions : List Session) (xs : List Sent) (n : ℕ) → AllByRecursion (IsStray sessions) xs → ((y : Session) → numbered sessions n ≡ Some y → y.cut ≡ false) → sent_on n xs ≡ []
strays_else sessions [] n all whole = refl
strays_else sessions (x ∷ xs) n all whole = by (x.session == n) refl (strays_else sessions xs n all.1 whole)
  where
    by : (b : Bool) → (x.session == n) ≡ b → sent_on n xs ≡ [] → map (λ (z : Sent). z.message) (cond b (x ∷ filter (λ z. z.session == n) xs) (filter (λ z. z.session == n) xs)) ≡ []
    by true is later = absurd (true_and_false (all.0.0).cut all.0.2 (whole all.0.0 (ap (numbered sessions) (sym (eqb-true x.session n is)) ∙ all.0.1)))
    by false is later = later

-- what is put down a session that its client hasn't left are the messages that are sent on it
pub sent_is : (t : CoreStep) (s : Sends t) (n : ℕ) → ((y : Session) → numbered t.core.sessions n ≡ Some y → y.cut ≡ false) → downs_of (downs_on n (sent_downs t s)) ≡ sent_on n t.down
sent_is t s n whole = sym (ap (sent_on n) (downs_are t s) ∙ sent_more n s.strays (map down_sent (sent_downs t s)) ∙ ap (λ (l : List Message). l ++ sent_on n (map down_sent (sent_downs t s))) (strays_else t.core.sessions s.strays n s.strays_cut whole) ∙ on_sent n (sent_downs t s))

-- where nothing is sent nothing is put down
pub none_is : (t : CoreStep) (s : Sends t) (n : ℕ) → t.down ≡ [] → downs_of (downs_on n (sent_downs t s)) ≡ []
none_is t s n none = sym (on_sent n (sent_downs t s)) ∙ ap (sent_on n) (sym (none_behind s.strays (map down_sent (sent_downs t s)) (sym none ∙ downs_are t s)))

pub ups_are : (t : CoreStep) (s : Sends t) → map up_message (sent_ups t s) ≡ t.up
ups_are t s =
    map_append up_message (map Replies s.replies) (map Asks s.asks)
    ∙ ap (λ (l : List Message). l ++ map up_message (map Asks s.asks)) (map_map Replies up_message s.replies)
    ∙ ap (λ (l : List Message). map reply_message s.replies ++ l) (map_map Asks up_message s.asks)
    ∙ sym s.up_is
