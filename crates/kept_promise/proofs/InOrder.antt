-- The calls of a store and their answers stay in order as the store goes on.
use Rattle.std.proofs.Common.{◌≡◌, ℕ, zero, suc, ◌+◌, ◌≤◌, List, [], ◌∷◌, ◌++◌, Some, Bool, true, false, refl, sym, ap, ◌∙◌, arith, eq-eqb, eqb-true, ne_eqb}
use Rattle.client_state.specs.declared.task.Stage.TheVariants as stage
use Rattle.client_state.specs.declared.task.Way.TheVariants as way
use Rattle.kept_promise.proofs.Common.{slice_get, cond, ◌==◌, not, chunk_bytes, Chunk, Failed, store_at, without_store, Stage, Upload, UploadCall, Way, Book, Call, Call.Make, Call.Name, Call.Send, Call.Commit, Reply, Reply.Made, Reply.Named, Reply.Stored, Reply.Changed, Ask}
use Rattle.kept_promise.proofs.Lists.{some_is, nothing_there}
use Rattle.kept_promise.proofs.Messages.{Job}
use Rattle.kept_promise.proofs.Naming.{Named as Notes}
use Rattle.kept_promise.proofs.Orderly.{IsStore, InPlace, Wanted}
use Rattle.kept_promise.proofs.Ordered.{IsFetching, IsFetched}

-- ---- calls by their xids

pub store_still : (us : List UploadCall) (x y : ℕ) → (y ≡ x → ⊥) → store_at (without_store us x) y ≡ store_at us y
store_still [] x y apart = refl
store_still (u ∷ us) x y apart = by (u.xid == x) refl (store_still us x y apart)
  where
    by : (b : Bool) → (u.xid == x) ≡ b → store_at (without_store us x) y ≡ store_at us y → store_at (cond (not b) (u ∷ without_store us x) (without_store us x)) y ≡ cond (u.xid == y) (Some u) (store_at us y)
    by true e later = later ∙ sym (ap (λ b. cond b (Some u) (store_at us y)) (ne_eqb u.xid y (λ s. apart (sym s ∙ eqb-true u.xid x e))))
    by false e later = ap (cond (u.xid == y) (Some u)) later

pub store_front : (us vs : List UploadCall) (y : ℕ) (u : UploadCall) → store_at us y ≡ Some u → store_at (us ++ vs) y ≡ Some u
store_front [] vs y u e = nothing_there u e
store_front (z ∷ us) vs y u e = by (z.xid == y) e (store_front us vs y u)
  where
    by : (b : Bool) → cond b (Some z) (store_at us y) ≡ Some u → (store_at us y ≡ Some u → store_at (us ++ vs) y ≡ Some u) → cond b (Some z) (store_at (us ++ vs) y) ≡ Some u
    by true e later = e
    by false e later = later e

pub store_behind : (us vs : List UploadCall) (y : ℕ) → ((k : ℕ) (w : UploadCall) → slice_get us k ≡ Some w → w.xid ≡ y → ⊥) → store_at (us ++ vs) y ≡ store_at vs y
store_behind [] vs y none = refl
store_behind (u ∷ us) vs y none = ap (λ b. cond b (Some u) (store_at (us ++ vs) y)) (ne_eqb u.xid y (none 0 u refl)) ∙ store_behind us vs y (λ k w at. none (suc k) w at)

-- ---- a message of a store is one of the store that it goes on to

storing_is : (a b : Upload) → stage.Storing a ≡ stage.Storing b → a ≡ b
storing_is a b e = cc

-- the store goes on, and still waits for this call
pub record GoesOver (j i : Job) (st more : Upload) (y : ℕ) : Type 0 where
  pub was : j.stage ≡ stage.Storing st
  pub is : i.stage ≡ stage.Storing more
  pub file : i.file ≡ j.file
  pub temp : more.temp ≡ st.temp
  pub chunks : more.chunks ≡ st.chunks
  pub found : (u : UploadCall) → store_at st.under y ≡ Some u → store_at more.under y ≡ Some u

store_of_job : (j : Job) (st : Upload) (y : ℕ) (w : Way) → j.stage ≡ stage.Storing st → (s : IsStore (Some j) y w) → (s.of ≡ j) × (s.store ≡ st)
store_of_job j st y w was s = let of : s.of ≡ j = sym (some_is j s.of s.is) in (of, storing_is s.store st (sym s.at ∙ ap (λ (z : Job). z.stage) of ∙ was))

store_over : (j i : Job) (st more : Upload) (y : ℕ) (w : Way) → GoesOver j i st more y → IsStore (Some j) y w → IsStore (Some i) y w
store_over j i st more y w g s =
    let o = store_of_job j st y w g.was s in
    record { of = i; is = refl; store = more; at = g.is; call = s.call; found = g.found s.call (ap (λ (z : Upload). store_at z.under y) (sym o.1) ∙ s.found); way = s.way }

not_storing_making : (st : Upload) (x m : ℕ) → stage.Storing st ≡ stage.Making x m → ⊥
not_storing_making st x m e = absurd cc

not_storing_committing : (st : Upload) (x : ℕ) → stage.Storing st ≡ stage.Committing x → ⊥
not_storing_committing st x e = absurd cc

stage_of : (j i : Job) (s r : Stage) → Some j ≡ Some i → j.stage ≡ s → i.stage ≡ r → s ≡ r
stage_of j i s r same a b = sym a ∙ ap (λ (z : Job). z.stage) (some_is j i same) ∙ b

pub place_over : (j i : Job) (v : ℕ → List ℕ) (st more : Upload) (y : ℕ) (c : Call) → GoesOver j i st more y → InPlace (Some j) v y c → InPlace (Some i) v y c
place_over j i v st more y (Make m f) g h = absurd (not_storing_making st y m (stage_of j h.0 (stage.Storing st) (stage.Making y m) h.1 g.was h.2))
place_over j i v st more y (Commit m f s) g h = absurd (not_storing_committing st y (stage_of j h.0 (stage.Storing st) (stage.Committing y) h.1 g.was h.2))
place_over j i v st more y (Name m c) g h =
    let o = store_of_job j st y way.Named g.was h.0 in
    let r : IsStore (Some i) y way.Named = record { of = i; is = refl; store = more; at = g.is; call = h.0.call; found = g.found h.0.call (ap (λ (z : Upload). store_at z.under y) (sym o.1) ∙ h.0.found); way = h.0.way } in
    (r, g.temp ∙ ap (λ (z : Upload). z.temp) (sym o.1) ∙ h.1, ap (λ (l : List Chunk). slice_get l h.0.call.index) (g.chunks ∙ ap (λ (z : Upload). z.chunks) (sym o.1)) ∙ h.2)
place_over j i v st more y (Send m s b) g h =
    let o = store_of_job j st y way.Whole g.was h.0 in
    let r : IsStore (Some i) y way.Whole = record { of = i; is = refl; store = more; at = g.is; call = h.0.call; found = g.found h.0.call (ap (λ (z : Upload). store_at z.under y) (sym o.1) ∙ h.0.found); way = h.0.way } in
    (r, g.temp ∙ ap (λ (z : Upload). z.temp) (sym o.1) ∙ h.1, (h.2.0, ap (λ (l : List Chunk). slice_get l h.0.call.index) (g.chunks ∙ ap (λ (z : Upload). z.chunks) (sym o.1)) ∙ h.2.1, h.2.2, h.2.3 ∙ ap (λ (z : ℕ). chunk_bytes (v z) h.2.0) (ap (λ (z : Job). z.file) o.0 ∙ sym g.file)))
place_over j i v st more y _ g h = tt

pub want_over : (book : Book) (j i : Job) (st more : Upload) (y : ℕ) (r : Reply) → GoesOver j i st more y → Wanted book (Some j) y r → Wanted book (Some i) y r
want_over book j i st more y (Made a) g h = absurd (not_storing_making st y h.1 (stage_of j h.0 (stage.Storing st) (stage.Making y h.1) h.2 g.was h.3))
want_over book j i st more y (Changed (Failed s u)) g h = absurd (not_storing_committing st y (stage_of j h.0 (stage.Storing st) (stage.Committing y) h.2 g.was h.3))
want_over book j i st more y (Named a) g h = (store_over j i st more y way.Named g h.0, h.1)
want_over book j i st more y (Stored a) g h = (store_over j i st more y way.Whole g h.0, h.1)
want_over book j i st more y _ g h = tt

-- ---- nothing is under way

pub idle_call : (j : Job) (v : ℕ → List ℕ) (st : Upload) (y : ℕ) (c : Call) → j.stage ≡ stage.Storing st → st.under ≡ [] → InPlace (Some j) v y c → IsFetching c
idle_call j v st y (Make m f) was none h = not_storing_making st y m (stage_of j h.0 (stage.Storing st) (stage.Making y m) h.1 was h.2)
idle_call j v st y (Commit m f s) was none h = not_storing_committing st y (stage_of j h.0 (stage.Storing st) (stage.Committing y) h.1 was h.2)
idle_call j v st y (Name m c) was none h = let o = store_of_job j st y way.Named was h.0 in nothing_there h.0.call (ap (λ l. store_at l y) (sym none) ∙ ap (λ (z : Upload). store_at z.under y) (sym o.1) ∙ h.0.found)
idle_call j v st y (Send m s b) was none h = let o = store_of_job j st y way.Whole was h.0 in nothing_there h.0.call (ap (λ l. store_at l y) (sym none) ∙ ap (λ (z : Upload). store_at z.under y) (sym o.1) ∙ h.0.found)
idle_call j v st y _ was none h = tt

pub idle_reply : (book : Book) (j : Job) (st : Upload) (y : ℕ) (r : Reply) → j.stage ≡ stage.Storing st → st.under ≡ [] → Wanted book (Some j) y r → IsFetched r
idle_reply book j st y (Made a) was none h = not_storing_making st y h.1 (stage_of j h.0 (stage.Storing st) (stage.Making y h.1) h.2 was h.3)
idle_reply book j st y (Changed (Failed s u)) was none h = not_storing_committing st y (stage_of j h.0 (stage.Storing st) (stage.Committing y) h.2 was h.3)
idle_reply book j st y (Named a) was none h = let o = store_of_job j st y way.Named was h.0 in nothing_there h.0.call (ap (λ l. store_at l y) (sym none) ∙ ap (λ (z : Upload). store_at z.under y) (sym o.1) ∙ h.0.found)
idle_reply book j st y (Stored a) was none h = let o = store_of_job j st y way.Whole was h.0 in nothing_there h.0.call (ap (λ l. store_at l y) (sym none) ∙ ap (λ (z : Upload). store_at z.under y) (sym o.1) ∙ h.0.found)
idle_reply book j st y _ was none h = tt

-- ---- names that go out

-- each is noted
pub name_noted : (lbfs temp : ℕ) (chunks : List Chunk) (x i : ℕ) (us : List UploadCall) (b : List Ask) (y k : ℕ) (a : Ask) → Notes lbfs temp chunks x i us b y → slice_get b k ≡ Some a → (u : UploadCall) × (c : Chunk) × (store_at us a.xid ≡ Some u) × (u.way ≡ way.Named) × (slice_get chunks u.index ≡ Some c) × (a ≡ record { lbfs = lbfs; xid = a.xid; call = Name temp c }) × (x ≤ a.xid)
name_noted lbfs temp chunks x i us [] y k a s at = nothing_there a at
name_noted lbfs temp chunks x i [] (z ∷ b) y k a s at = absurd s
name_noted lbfs temp chunks x i (u ∷ us) (z ∷ b) y zero a s at =
    let same : z ≡ a = some_is z a at in
    let id : u.xid ≡ a.xid = ap (λ (v : UploadCall). v.xid) s.0 ∙ ap (λ (v : Ask). v.xid) (sym s.1.2) ∙ ap (λ (v : Ask). v.xid) same in
    let ax : a.xid ≡ x = ap (λ (v : Ask). v.xid) (sym same) ∙ ap (λ (v : Ask). v.xid) s.1.2 in
    (u, s.1.0, ap (λ t. cond t (Some u) (store_at us a.xid)) (eq-eqb u.xid a.xid id), ap (λ (v : UploadCall). v.way) s.0, ap (λ (v : UploadCall). slice_get chunks v.index) s.0 ∙ s.1.1, sym same ∙ s.1.2 ∙ ap (λ (n : ℕ). record { lbfs = lbfs; xid = n; call = Name temp s.1.0 }) (sym ax), omega (arith, ax))
name_noted lbfs temp chunks x i (u ∷ us) (z ∷ b) y (suc k) a s at =
    let h = name_noted lbfs temp chunks (x + 1) (i + 1) us b y k a s.2 at in
    let le = h.6 in
    let ux : u.xid ≡ x = ap (λ (v : UploadCall). v.xid) s.0 in
    (h.0, h.1, ap (λ t. cond t (Some u) (store_at us a.xid)) (ne_eqb u.xid a.xid (λ e. omega (arith, e, ux, le))) ∙ h.2, h.3, h.4, h.5, omega (arith, le))

pub no_asks : (lbfs temp : ℕ) (chunks : List Chunk) (x i : ℕ) (us : List UploadCall) (b : List Ask) (y : ℕ) → us ≡ [] → Notes lbfs temp chunks x i us b y → b ≡ []
no_asks lbfs temp chunks x i [] [] y e s = refl
no_asks lbfs temp chunks x i [] (a ∷ b) y e s = absurd s
no_asks lbfs temp chunks x i (u ∷ us) b y e s = absurd cc
