-- RECALLs and their answers among what is on its way: what was said of the calls and answers alone stays so, and what is sent has a record.
use Rattle.std.proofs.Common.{◌≡◌, ℕ, zero, suc, ◌<◌, List, [], ◌∷◌, ◌++◌, Option, Some, None, Bool, true, false, refl, sym, ap, ◌∙◌, subst, map}
use Rattle.std.specs.List.{AllByRecursion}
use Rattle.callback_core.specs.declared.back_calls.Asked.{Asked}
use Rattle.kept_promise.proofs.Common.{Session, Loss, Loss.Nothing, Loss.Down_of, Loss.Up_of, CoreStep, numbered, with_numbered, slice_get, slice_set, unless, Ask, Told, Queue, no_queue, Up, Up.Asks, Up.Replies, Down, Down.Tells, Down.Recalls, Mix, no_mix, asks_in, tolds_in, queue_of, is_raw}
use Rattle.kept_promise.proofs.Lists.{nothing_there}
use Rattle.kept_promise.proofs.Leading.{Sends, recall_down, told_down, ups_put_in, ups_put, downs_put_in, downs_put, downs_lost, ups_lost, queues_lost, queues_after, mix_ups_in, mix_ups, mix_downs_in, mix_downs, mix_downs_lost, mix_ups_lost, mixes_lost, mixes_after}
use Rattle.trace_ends.specs.Core.{Loss.Made}

-- ---- lists by number

map_join : {A B : Type 0} (f : A → B) (xs ys : List A) → map f (xs ++ ys) ≡ map f xs ++ map f ys
map_join f [] ys = refl
map_join f (x ∷ xs) ys = ap (λ l. f x ∷ l) (map_join f xs ys)

map_set : {A B : Type 0} (f : A → B) (xs : List A) (k : ℕ) (x : A) → map f (slice_set xs k x) ≡ slice_set (map f xs) k (f x)
map_set f [] k x = refl
map_set f (y ∷ ys) zero x = refl
map_set f (y ∷ ys) (suc k) x = ap (λ l. f y ∷ l) (map_set f ys k x)

set_same : {A : Type 0} (xs : List A) (k : ℕ) (x : A) → slice_get xs k ≡ Some x → slice_set xs k x ≡ xs
set_same [] k x e = nothing_there x e
set_same (y ∷ ys) zero x e = ap (λ z. z ∷ ys) (by e)
  where
    by : Some y ≡ Some x → x ≡ y
    by q = cc
set_same (y ∷ ys) (suc k) x e = ap (λ l. y ∷ l) (set_same ys k x e)

pub with_same : {A : Type 0} (xs : List A) (n : ℕ) (x : A) → numbered xs n ≡ Some x → with_numbered xs n x ≡ xs
with_same xs zero x e = refl
with_same xs (suc k) x e = set_same xs k x e

abbrev mapped : Option Mix → Option Queue
mapped None = None
mapped (Some m) = Some (queue_of m)

get_mapped : (ms : List Mix) (k : ℕ) → slice_get (map queue_of ms) k ≡ mapped (slice_get ms k)
get_mapped [] k = refl
get_mapped (y ∷ ys) zero = refl
get_mapped (y ∷ ys) (suc k) = get_mapped ys k

pub numbered_plain : (ms : List Mix) (n : ℕ) → numbered (map queue_of ms) n ≡ mapped (numbered ms n)
numbered_plain ms zero = refl
numbered_plain ms (suc k) = get_mapped ms k

-- what is on its way on a session, without RECALLs
pub there_plain : (ms : List Mix) (n : ℕ) (m : Mix) → numbered ms n ≡ Some m → numbered (map queue_of ms) n ≡ Some (queue_of m)
there_plain ms n m e = numbered_plain ms n ∙ ap mapped e

pub with_plain : (ms : List Mix) (n : ℕ) (m : Mix) → map queue_of (with_numbered ms n m) ≡ with_numbered (map queue_of ms) n (queue_of m)
with_plain ms zero m = refl
with_plain ms (suc k) m = map_set queue_of ms k m

-- ---- what is sent, without RECALLs

asks_join : (us vs : List Up) → asks_in (us ++ vs) ≡ asks_in us ++ asks_in vs
asks_join [] vs = refl
asks_join (Asks a ∷ us) vs = ap (λ l. a ∷ l) (asks_join us vs)
asks_join (Replies x ∷ us) vs = asks_join us vs

asks_none : (xs : List ℕ) → asks_in (map Replies xs) ≡ []
asks_none [] = refl
asks_none (x ∷ xs) = asks_none xs

asks_all : (cs : List Ask) → asks_in (map Asks cs) ≡ cs
asks_all [] = refl
asks_all (a ∷ cs) = ap (λ l. a ∷ l) (asks_all cs)

asks_sent : (xs : List ℕ) (cs : List Ask) → asks_in (map Replies xs ++ map Asks cs) ≡ cs
asks_sent xs cs = asks_join (map Replies xs) (map Asks cs) ∙ ap (λ l. l ++ asks_in (map Asks cs)) (asks_none xs) ∙ asks_all cs

asks_unless : (b : Bool) (us : List Up) (xs : List ℕ) (cs : List Ask) → asks_in (unless b us (map Replies xs ++ map Asks cs)) ≡ unless b (asks_in us) cs
asks_unless true us xs cs = refl
asks_unless false us xs cs = asks_join us (map Replies xs ++ map Asks cs) ∙ ap (λ l. asks_in us ++ l) (asks_sent xs cs)

tolds_join : (ds es : List Down) → tolds_in (ds ++ es) ≡ tolds_in ds ++ tolds_in es
tolds_join [] es = refl
tolds_join (Tells t ∷ ds) es = ap (λ l. t ∷ l) (tolds_join ds es)
tolds_join (Recalls x f ∷ ds) es = tolds_join ds es

tolds_unless : (b : Bool) (ds : List Down) (d : Down) → tolds_in (unless b ds (d ∷ [])) ≡ unless b (tolds_in ds) (tolds_in (d ∷ []))
tolds_unless true ds d = refl
tolds_unless false ds d = tolds_join ds (d ∷ [])

unless_none : {A : Type 0} (b : Bool) (xs : List A) → unless b xs [] ≡ xs
unless_none true xs = refl
unless_none false xs = by xs
  where
    by : {A : Type 0} (xs : List A) → xs ++ [] ≡ xs
    by [] = refl
    by (x ∷ xs) = ap (λ l. x ∷ l) (by xs)

-- ---- what is put

ups_in_plain : (ms : List Mix) (n : ℕ) (xs : List ℕ) (cs : List Ask) (x : Option Session) (o : Option Mix) → numbered ms n ≡ o → map queue_of (mix_ups_in ms n (map Replies xs ++ map Asks cs) x o) ≡ ups_put_in (map queue_of ms) n cs x (mapped o)
ups_in_plain ms n xs cs None o e = refl
ups_in_plain ms n xs cs (Some x) None e = refl
ups_in_plain ms n xs cs (Some x) (Some m) e =
    with_plain ms n (record m { ups = unless x.hung m.ups (map Replies xs ++ map Asks cs) })
    ∙ ap (λ (l : List Ask). with_numbered (map queue_of ms) n (record { ups = l; downs = tolds_in m.downs })) (asks_unless x.hung m.ups xs cs)

ups_plain : (sessions : List Session) (ms : List Mix) (o : Option ℕ) (xs : List ℕ) (cs : List Ask) → map queue_of (mix_ups sessions ms o (map Replies xs ++ map Asks cs)) ≡ ups_put sessions (map queue_of ms) o cs
ups_plain sessions ms None xs cs = refl
ups_plain sessions ms (Some n) xs cs =
    ups_in_plain ms n xs cs (numbered sessions n) (numbered ms n) refl
    ∙ ap (λ (q : Option Queue). ups_put_in (map queue_of ms) n cs (numbered sessions n) q) (sym (numbered_plain ms n))

told_in_plain : (ms : List Mix) (p : ℕ × Told) (x : Option Session) (o : Option Mix) → numbered ms p.0 ≡ o → map queue_of (mix_downs_in ms (told_down p) x o) ≡ downs_put_in (map queue_of ms) p x (mapped o)
told_in_plain ms p None o e = refl
told_in_plain ms p (Some x) None e = refl
told_in_plain ms p (Some x) (Some m) e =
    with_plain ms p.0 (record m { downs = unless x.cut m.downs (Tells p.1 ∷ []) })
    ∙ ap (λ (l : List Told). with_numbered (map queue_of ms) p.0 (record { ups = asks_in m.ups; downs = l })) (tolds_unless x.cut m.downs (Tells p.1))

tolds_plain : (sessions : List Session) (ms : List Mix) (ps : List (ℕ × Told)) → map queue_of (mix_downs sessions ms (map told_down ps)) ≡ downs_put sessions (map queue_of ms) ps
tolds_plain sessions ms [] = refl
tolds_plain sessions ms (p ∷ ps) =
    tolds_plain sessions (mix_downs_in ms (told_down p) (numbered sessions p.0) (numbered ms p.0)) ps
    ∙ ap (λ (qs : List Queue). downs_put sessions qs ps) (told_in_plain ms p (numbered sessions p.0) (numbered ms p.0) refl ∙ ap (λ (q : Option Queue). downs_put_in (map queue_of ms) p (numbered sessions p.0) q) (sym (numbered_plain ms p.0)))

recall_in_plain : (ms : List Mix) (a : Asked) (x : Option Session) (o : Option Mix) → numbered ms a.session ≡ o → map queue_of (mix_downs_in ms (recall_down a) x o) ≡ map queue_of ms
recall_in_plain ms a None o e = refl
recall_in_plain ms a (Some x) None e = refl
recall_in_plain ms a (Some x) (Some m) e =
    with_plain ms a.session (record m { downs = unless x.cut m.downs (Recalls a.xid a.file ∷ []) })
    ∙ ap (λ (l : List Told). with_numbered (map queue_of ms) a.session (record { ups = asks_in m.ups; downs = l })) (tolds_unless x.cut m.downs (Recalls a.xid a.file) ∙ unless_none x.cut (tolds_in m.downs))
    ∙ with_same (map queue_of ms) a.session (queue_of m) (there_plain ms a.session m e)

recalls_plain : (sessions : List Session) (ms : List Mix) (cs : List Asked) → map queue_of (mix_downs sessions ms (map recall_down cs)) ≡ map queue_of ms
recalls_plain sessions ms [] = refl
recalls_plain sessions ms (a ∷ cs) =
    recalls_plain sessions (mix_downs_in ms (recall_down a) (numbered sessions a.session) (numbered ms a.session)) cs
    ∙ recall_in_plain ms a (numbered sessions a.session) (numbered ms a.session) refl

downs_join : (sessions : List Session) (ms : List Mix) (ps rs : List (ℕ × Down)) → mix_downs sessions ms (ps ++ rs) ≡ mix_downs sessions (mix_downs sessions ms ps) rs
downs_join sessions ms [] rs = refl
downs_join sessions ms (p ∷ ps) rs = downs_join sessions (mix_downs_in ms p (numbered sessions p.0) (numbered ms p.0)) ps rs

downs_plain : (sessions : List Session) (ms : List Mix) (cs : List Asked) (ps : List (ℕ × Told)) → map queue_of (mix_downs sessions ms (map recall_down cs ++ map told_down ps)) ≡ downs_put sessions (map queue_of ms) ps
downs_plain sessions ms cs ps =
    ap (map queue_of) (downs_join sessions ms (map recall_down cs) (map told_down ps))
    ∙ tolds_plain sessions (mix_downs sessions ms (map recall_down cs)) ps
    ∙ ap (λ (qs : List Queue). downs_put sessions qs ps) (recalls_plain sessions ms cs)

-- ---- what is lost

lost_plain : (ms : List Mix) (loss : Loss) → map queue_of (mixes_lost ms loss) ≡ queues_lost (map queue_of ms) loss
lost_plain ms Nothing = refl
lost_plain ms Made = map_join queue_of ms (no_mix ∷ [])
lost_plain ms (Down_of n) = by (numbered ms n) ∙ ap (downs_lost (map queue_of ms) n) (sym (numbered_plain ms n))
  where
    by : (o : Option Mix) → map queue_of (mix_downs_lost ms n o) ≡ downs_lost (map queue_of ms) n (mapped o)
    by None = refl
    by (Some m) = with_plain ms n (record m { downs = [] })
lost_plain ms (Up_of n) = by (numbered ms n) ∙ ap (ups_lost (map queue_of ms) n) (sym (numbered_plain ms n))
  where
    by : (o : Option Mix) → map queue_of (mix_ups_lost ms n o) ≡ ups_lost (map queue_of ms) n (mapped o)
    by None = refl
    by (Some m) = with_plain ms n (record m { ups = [] })

-- what is put among RECALLs and their answers is put as without them
pub after_plain : (ms : List Mix) (t : CoreStep) (s : Sends t) → map queue_of (mixes_after ms t s) ≡ queues_after (map queue_of ms) t s
after_plain ms t s =
    downs_plain t.core.sessions (mix_ups t.core.sessions (mixes_lost ms t.loss) t.session (map Replies s.replies ++ map Asks s.asks)) s.recalls s.tolds
    ∙ ap (λ (qs : List Queue). downs_put t.core.sessions qs s.tolds) (ups_plain t.core.sessions (mixes_lost ms t.loss) t.session s.replies s.asks ∙ ap (λ (qs : List Queue). ups_put t.core.sessions qs t.session s.asks) (lost_plain ms t.loss))

-- ---- what is on its way has a record, and nothing is on its way where a connection is lost

abbrev pub UpFits : Up → Type 0
UpFits (Asks a) = Unit {0}
UpFits (Replies xid) = xid < 4294967296

abbrev pub DownFits : Down → Type 0
DownFits (Tells t) = Unit {0}
DownFits (Recalls xid file) = (xid < 4294967296) × (file < 18446744073709551616)

pub record IsMix (x : Session) (m : Mix) : Type 0 where
  pub ups : AllByRecursion UpFits m.ups
  pub downs : AllByRecursion DownFits m.downs
  pub lost : x.hung ≡ true → m.ups ≡ []
  pub shut : x.cut ≡ true → m.downs ≡ []
  -- what a session sends that is no client's is none of it
  pub strange : is_raw x ≡ true → m.ups ≡ []

abbrev pub AreMixes : List Session → List Mix → Type 0
AreMixes sessions ms = (n : ℕ) (x : Session) (m : Mix) → numbered sessions n ≡ Some x → numbered ms n ≡ Some m → IsMix x m
