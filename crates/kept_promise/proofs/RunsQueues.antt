-- What is on its way without its first messages: to take them off goes before what an event sends as well as behind it.
use Rattle.std.proofs.Common.{◌≡◌, ℕ, suc, List, [], ◌∷◌, ◌++◌, Option, Some, None, Bool, drop, refl, sym, ap, ◌∙◌, subst, map}
use Rattle.kept_promise.proofs.Common.{Session, Loss, Loss.Nothing, CoreStep, numbered, with_numbered, unless, Told, Up, Down, Mix}
use Rattle.kept_promise.proofs.Places.{becomes, swap, become_has, put_is, next_is}
use Rattle.callback_core.specs.declared.back_calls.Asked.{Asked}
use Rattle.server_core.specs.Recalling.{recall_sent}
use Rattle.kept_promise.proofs.Leading.{Sends, sent_message, recall_down, told_down, sent_ups, sent_downs, mix_ups_in, mix_ups, mix_downs_in, mix_downs, mixes_lost, mixes_after}
use Rattle.kept_promise.proofs.Lists.{none_behind}

-- ---- what is sent, as changes of what is on its way

abbrev pub off_ups : (count : ℕ) → Mix → Mix
off_ups i q = record q { ups = drop i q.ups }

abbrev pub off_downs : (count : ℕ) → Mix → Mix
off_downs i q = record q { downs = drop i q.downs }

abbrev add_down : (lost : Bool) → Down → Mix → Mix
add_down lost t q = record q { downs = unless lost q.downs (t ∷ []) }

abbrev add_up : (lost : Bool) → List Up → Mix → Mix
add_up lost asks q = record q { ups = unless lost q.ups asks }

down_in : (qs : List Mix) (p : ℕ × Down) (x : Session) → mix_downs_in qs p (Some x) (numbered qs p.0) ≡ becomes (add_down x.cut p.1) qs p.0
down_in qs p x = put_is (mix_downs_in qs p (Some x)) (add_down x.cut p.1) qs p.0 refl (λ q. refl)

up_in : (qs : List Mix) (n : ℕ) (asks : List Up) (x : Session) → mix_ups_in qs n asks (Some x) (numbered qs n) ≡ becomes (add_up x.hung asks) qs n
up_in qs n asks x = put_is (mix_ups_in qs n asks (Some x)) (add_up x.hung asks) qs n refl (λ q. refl)

down_off_in : (i n : ℕ) (qs : List Mix) (p : ℕ × Down) (x : Option Session) → mix_downs_in (becomes (off_ups i) qs n) p x (numbered (becomes (off_ups i) qs n) p.0) ≡ becomes (off_ups i) (mix_downs_in qs p x (numbered qs p.0)) n
down_off_in i n qs p None = refl
down_off_in i n qs p (Some x) = down_in (becomes (off_ups i) qs n) p x ∙ sym (swap (off_ups i) (add_down x.cut p.1) (λ q. refl) qs p.0 n) ∙ ap (λ (zs : List Mix). becomes (off_ups i) zs n) (sym (down_in qs p x))

downs_off : (i n : ℕ) (sessions : List Session) (qs : List Mix) (ps : List (ℕ × Down)) → mix_downs sessions (becomes (off_ups i) qs n) ps ≡ becomes (off_ups i) (mix_downs sessions qs ps) n
downs_off i n sessions qs [] = refl
downs_off i n sessions qs (p ∷ ps) =
    ap (λ (zs : List Mix). mix_downs sessions zs ps) (down_off_in i n qs p (numbered sessions p.0))
    ∙ downs_off i n sessions (mix_downs_in qs p (numbered sessions p.0) (numbered qs p.0)) ps

ups_off : (i n : ℕ) (sessions : List Session) (qs : List Mix) (o : Option ℕ) (asks : List Up) → mix_ups sessions (becomes (off_downs i) qs n) o asks ≡ becomes (off_downs i) (mix_ups sessions qs o asks) n
ups_off i n sessions qs None asks = refl
ups_off i n sessions qs (Some m) asks = by (numbered sessions m)
  where
    by : (x : Option Session) → mix_ups_in (becomes (off_downs i) qs n) m asks x (numbered (becomes (off_downs i) qs n) m) ≡ becomes (off_downs i) (mix_ups_in qs m asks x (numbered qs m)) n
    by None = refl
    by (Some x) = up_in (becomes (off_downs i) qs n) m asks x ∙ sym (swap (off_downs i) (add_up x.hung asks) (λ q. refl) qs m n) ∙ ap (λ (zs : List Mix). becomes (off_downs i) zs n) (sym (up_in qs m asks x))

-- what is sent down leaves what is on its way up, and what is sent up what is on its way down
downs_have_in : (qs : List Mix) (p : ℕ × Down) (x : Option Session) (n : ℕ) (q : Mix) → numbered qs n ≡ Some q → (r : Mix) × (numbered (mix_downs_in qs p x (numbered qs p.0)) n ≡ Some r) × (r.ups ≡ q.ups)
downs_have_in qs p None n q e = (q, e, refl)
downs_have_in qs p (Some x) n q e = subst (λ (zs : List Mix). (r : Mix) × (numbered zs n ≡ Some r) × (r.ups ≡ q.ups)) (sym (down_in qs p x)) (become_has (λ r. r.ups) (add_down x.cut p.1) (λ r. refl) qs p.0 n q e)

downs_have : (sessions : List Session) (qs : List Mix) (ps : List (ℕ × Down)) (n : ℕ) (q : Mix) → numbered qs n ≡ Some q → (r : Mix) × (numbered (mix_downs sessions qs ps) n ≡ Some r) × (r.ups ≡ q.ups)
downs_have sessions qs [] n q e = (q, e, refl)
downs_have sessions qs (p ∷ ps) n q e =
    let one = downs_have_in qs p (numbered sessions p.0) n q e in
    let all = downs_have sessions (mix_downs_in qs p (numbered sessions p.0) (numbered qs p.0)) ps n one.0 one.1 in
    (all.0, all.1, all.2 ∙ one.2)

ups_have : (sessions : List Session) (qs : List Mix) (o : Option ℕ) (asks : List Up) (n : ℕ) (q : Mix) → numbered qs n ≡ Some q → (r : Mix) × (numbered (mix_ups sessions qs o asks) n ≡ Some r) × (r.downs ≡ q.downs)
ups_have sessions qs None asks n q e = (q, e, refl)
ups_have sessions qs (Some m) asks n q e = by (numbered sessions m)
  where
    by : (x : Option Session) → (r : Mix) × (numbered (mix_ups_in qs m asks x (numbered qs m)) n ≡ Some r) × (r.downs ≡ q.downs)
    by None = (q, e, refl)
    by (Some x) = subst (λ (zs : List Mix). (r : Mix) × (numbered zs n ≡ Some r) × (r.downs ≡ q.downs)) (sym (up_in qs m asks x)) (become_has (λ r. r.downs) (add_up x.hung asks) (λ r. refl) qs m n q e)

-- ---- an event of the server, which sends nothing up

abbrev after_down : List Mix → (t : CoreStep) → Sends t → List Mix
after_down qs t s = mix_downs t.core.sessions qs (sent_downs t s)

down_is : (qs : List Mix) (t : CoreStep) (s : Sends t) → t.loss ≡ Nothing → t.session ≡ None → mixes_after qs t s ≡ after_down qs t s
down_is qs t s loss session =
    ap (λ (l : Loss). mix_downs t.core.sessions (mix_ups t.core.sessions (mixes_lost qs l) t.session (sent_ups t s)) (sent_downs t s)) loss
    ∙ ap (λ (o : Option ℕ). mix_downs t.core.sessions (mix_ups t.core.sessions qs o (sent_ups t s)) (sent_downs t s)) session

pub served_off : (i n : ℕ) (qs : List Mix) (t : CoreStep) (s : Sends t) → t.loss ≡ Nothing → t.session ≡ None → mixes_after (becomes (off_ups i) qs n) t s ≡ becomes (off_ups i) (mixes_after qs t s) n
served_off i n qs t s loss session = down_is (becomes (off_ups i) qs n) t s loss session ∙ downs_off i n t.core.sessions qs (sent_downs t s) ∙ ap (λ (zs : List Mix). becomes (off_ups i) zs n) (sym (down_is qs t s loss session))

pub served_has : (qs : List Mix) (t : CoreStep) (s : Sends t) → t.loss ≡ Nothing → t.session ≡ None → (n : ℕ) (q : Mix) → numbered qs n ≡ Some q → (r : Mix) × (numbered (mixes_after qs t s) n ≡ Some r) × (r.ups ≡ q.ups)
served_has qs t s loss session n q e = subst (λ (zs : List Mix). (r : Mix) × (numbered zs n ≡ Some r) × (r.ups ≡ q.ups)) (sym (down_is qs t s loss session)) (downs_have t.core.sessions qs (sent_downs t s) n q e)

-- ---- an event of a client, which sends nothing down

no_more : (cs : List Asked) (ts : List (ℕ × Told)) → [] ≡ map recall_sent cs ++ map sent_message ts → map recall_down cs ++ map told_down ts ≡ []
no_more [] [] e = refl
no_more [] (t ∷ ts) e = absurd (by e)
  where
    by : [] ≡ sent_message t ∷ map sent_message ts → ⊥
    by h = cc
no_more (a ∷ cs) ts e = absurd (by e)
  where
    by : [] ≡ recall_sent a ∷ (map recall_sent cs ++ map sent_message ts) → ⊥
    by h = cc

up_is : (qs : List Mix) (t : CoreStep) (s : Sends t) → t.loss ≡ Nothing → t.down ≡ [] → mixes_after qs t s ≡ mix_ups t.core.sessions qs t.session (sent_ups t s)
up_is qs t s loss none =
    ap (λ (l : Loss). mix_downs t.core.sessions (mix_ups t.core.sessions (mixes_lost qs l) t.session (sent_ups t s)) (sent_downs t s)) loss
    ∙ ap (λ (ps : List (ℕ × Down)). mix_downs t.core.sessions (mix_ups t.core.sessions qs t.session (sent_ups t s)) ps) (no_more s.recalls s.tolds (none_behind s.strays (map recall_sent s.recalls ++ map sent_message s.tolds) (sym none ∙ s.down_is)))

pub heard_off : (i n : ℕ) (qs : List Mix) (t : CoreStep) (s : Sends t) → t.loss ≡ Nothing → t.down ≡ [] → mixes_after (becomes (off_downs i) qs n) t s ≡ becomes (off_downs i) (mixes_after qs t s) n
heard_off i n qs t s loss none = up_is (becomes (off_downs i) qs n) t s loss none ∙ ups_off i n t.core.sessions qs t.session (sent_ups t s) ∙ ap (λ (zs : List Mix). becomes (off_downs i) zs n) (sym (up_is qs t s loss none))

pub heard_has : (qs : List Mix) (t : CoreStep) (s : Sends t) → t.loss ≡ Nothing → t.down ≡ [] → (n : ℕ) (q : Mix) → numbered qs n ≡ Some q → (r : Mix) × (numbered (mixes_after qs t s) n ≡ Some r) × (r.downs ≡ q.downs)
heard_has qs t s loss none n q e = subst (λ (zs : List Mix). (r : Mix) × (numbered zs n ≡ Some r) × (r.downs ≡ q.downs)) (sym (up_is qs t s loss none)) (ups_have t.core.sessions qs t.session (sent_ups t s) n q e)

-- ---- to take more off

pub ups_next : (qs : List Mix) (i n : ℕ) (q : Mix) (a : Up) (us : List Up) → numbered qs n ≡ Some q → q.ups ≡ a ∷ us → becomes (off_ups (suc i)) qs n ≡ becomes (off_ups i) (with_numbered qs n (record q { ups = us })) n
ups_next qs i n q a us e is = next_is (off_ups (suc i)) (off_ups i) qs n q (record q { ups = us }) e (ap (λ (zs : List Up). record q { ups = drop (suc i) zs }) is)

pub downs_next : (qs : List Mix) (i n : ℕ) (q : Mix) (t : Down) (ts : List Down) → numbered qs n ≡ Some q → q.downs ≡ t ∷ ts → becomes (off_downs (suc i)) qs n ≡ becomes (off_downs i) (with_numbered qs n (record q { downs = ts })) n
downs_next qs i n q t ts e is = next_is (off_downs (suc i)) (off_downs i) qs n q (record q { downs = ts }) e (ap (λ (zs : List Down). record q { downs = drop (suc i) zs }) is)
