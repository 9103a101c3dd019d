-- Calls and answers of closes stay in order: as a run grows, where none is of the operation under way, and as the first call is taken.
use Rattle.std.proofs.Common.{inl, inr, ◌≡◌, ℕ, zero, suc, ◌<◌, ◌≤◌, List, [], ◌∷◌, ◌++◌, Option, Some, None, Bool, true, false, length, refl, sym, ap, ◌∙◌, subst, arith}
use Rattle.client_state.specs.declared.task.Stage.TheVariants as stage
use Rattle.register_model.specs.declared.op.Word.TheVariants as words
use Rattle.trace_replay.specs.OwnCalls.{WaitsFor}
use Rattle.kept_promise.proofs.Common.{changes, Done, Failed, Temp, temp_at, is_full, Stage, Upload, Op, Seat, unless, Book, step_of, Call, Call.Lease, Call.Hash, Call.Read, Call.Make, Call.Name, Call.Send, Call.Commit, Reply, Reply.Versioned, Reply.Hashed, Reply.Bytes, Reply.Made, Reply.Named, Reply.Stored, Reply.Changed, Ask, Told, Queue, Call.Walks, Reply.Walked, Status, value_at}
use Rattle.kept_promise.proofs.Lists.{some_is, nothing_there, at_end, of_appended, in_front, all_unless}
use Rattle.kept_promise.proofs.Messages.{Job, job, stage_word, AllAsks, AllTolds}
use Rattle.kept_promise.proofs.Growth.{Grows, there_later, value_later, Follows}
use Rattle.kept_promise.proofs.Shelf.{NoTemp, OneTemp}
use Rattle.kept_promise.proofs.Orderly.{locals_of, InPlace, IsInPlace, NoRoom, Wanted, IsWanted, UpMake, UpSend, UpCommit, known_reply, DownKnown, Holds, HeldIn, HoldsTemp, Orderly, Went, Denied, DownRefused}
use Rattle.kept_promise.proofs.Rights.{WasThere}

-- ---- calls and answers of opens

abbrev pub IsFetching : Call → Type 0
IsFetching (Lease f) = Unit {0}
IsFetching (Hash f o) = Unit {0}
IsFetching (Read f c) = Unit {0}
IsFetching (Walks w) = Unit {0}
IsFetching _ = ⊥

abbrev pub IsFetched : Reply → Type 0
IsFetched (Made a) = ⊥
IsFetched (Named a) = ⊥
IsFetched (Stored a) = ⊥
IsFetched (Changed (Failed s u)) = ⊥
IsFetched _ = Unit {0}

abbrev pub AllFetching : List Ask → Type 0
AllFetching us = AllAsks (λ a. IsFetching a.call) us

abbrev pub AllFetched : List Told → Type 0
AllFetched ts = AllTolds (λ t. IsFetched t.reply) ts

-- they are in place, whatever is under way
pub fetching_place : (job : Option Job) (v : ℕ → List ℕ) (us : List Ask) → AllFetching us → AllAsks (IsInPlace job v) us
fetching_place job v [] h = tt
fetching_place job v (a ∷ us) h = (by a.call h.0, fetching_place job v us h.1)
  where
    by : (c : Call) → IsFetching c → InPlace job v a.xid c
    by (Lease f) h = tt
    by (Hash f o) h = tt
    by (Read f c) h = tt
    by (Walks w) h = tt
    by _ h = absurd h

pub fetched_wanted : (book : Book) (job : Option Job) (ts : List Told) → AllFetched ts → AllTolds (IsWanted book job) ts
fetched_wanted book job [] h = tt
fetched_wanted book job (t ∷ ts) h = (by t.reply h.0, fetched_wanted book job ts h.1)
  where
    by : (r : Reply) → IsFetched r → Wanted book job t.xid r
    by (Versioned a) h = tt
    by (Hashed a) h = tt
    by (Bytes a) h = tt
    by (Walked a) h = tt
    by (Changed (Done c)) h = tt
    by _ h = absurd h

-- no close is under way
abbrev pub CloseFree : Option Job → Type 0
CloseFree job = (j : Job) → job ≡ Some j → stage_word j.stage ≡ words.Close → ⊥

free_call : (job : Option Job) (v : ℕ → List ℕ) (x : ℕ) (c : Call) → CloseFree job → InPlace job v x c → IsFetching c
free_call job v x (Make m f) free h = free h.0 h.1 (ap stage_word h.2)
free_call job v x (Name m c) free h = free h.0.of h.0.is (ap stage_word h.0.at)
free_call job v x (Send m s b) free h = free h.0.of h.0.is (ap stage_word h.0.at)
free_call job v x (Commit m f s) free h = free h.0 h.1 (ap stage_word h.2)
free_call job v x _ free h = tt

pub free_asks : (job : Option Job) (v : ℕ → List ℕ) (us : List Ask) → CloseFree job → AllAsks (IsInPlace job v) us → AllFetching us
free_asks job v [] free h = tt
free_asks job v (a ∷ us) free h = (free_call job v a.xid a.call free h.0, free_asks job v us free h.1)

free_reply : (book : Book) (job : Option Job) (x : ℕ) (r : Reply) → CloseFree job → Wanted book job x r → IsFetched r
free_reply book job x (Made a) free h = free h.0 h.2 (ap stage_word h.3)
free_reply book job x (Named a) free h = free h.0.of h.0.is (ap stage_word h.0.at)
free_reply book job x (Stored a) free h = free h.0.of h.0.is (ap stage_word h.0.at)
free_reply book job x (Changed (Failed s u)) free h = free h.0 h.2 (ap stage_word h.3)
free_reply book job x _ free h = tt

pub free_tolds : (book : Book) (job : Option Job) (ts : List Told) → CloseFree job → AllTolds (IsWanted book job) ts → AllFetched ts
free_tolds book job [] free h = tt
free_tolds book job (t ∷ ts) free h = (free_reply book job t.xid t.reply free h.0, free_tolds book job ts free h.1)

pub none_free : (job : Option Job) → job ≡ None → CloseFree job
none_free job e j f w = nothing_there j (sym e ∙ f)

-- where no close is under way there is no temporary file
pub free_held : (temps : List (ℕ × Temp)) (n : ℕ) (us : List Ask) (ts : List Told) (v : ℕ → List ℕ) (job : Option Job) → CloseFree job → HoldsTemp temps n us ts v job → NoTemp temps n
free_held temps n us ts v None free h = h
free_held temps n us ts v (Some j) free h = by j.stage (free j refl) h
  where
    by : (s : Stage) → (stage_word s ≡ words.Close → ⊥) → HeldIn temps n us ts (v j.file) s → NoTemp temps n
    by (stage.Making x m) free h = absurd (free refl)
    by (stage.Storing st) free h = absurd (free refl)
    by (stage.Committing x) free h = absurd (free refl)
    by _ free h = h

pub held_free : (temps : List (ℕ × Temp)) (n : ℕ) (us : List Ask) (ts : List Told) (v : ℕ → List ℕ) (job : Option Job) → CloseFree job → NoTemp temps n → HoldsTemp temps n us ts v job
held_free temps n us ts v None free h = h
held_free temps n us ts v (Some j) free h = by j.stage (free j refl)
  where
    by : (s : Stage) → (stage_word s ≡ words.Close → ⊥) → HeldIn temps n us ts (v j.file) s
    by (stage.Making x m) free = absurd (free refl)
    by (stage.Storing st) free = absurd (free refl)
    by (stage.Committing x) free = absurd (free refl)
    by _ free = h

-- ---- a run grows

room_later : (book more : Book) (made ended : Option ℕ) (o r : Op) → Grows book more made ended → r.client ≡ o.client → r.begin ≡ o.begin → r.value ≡ o.value → NoRoom book o → NoRoom more r
room_later book more made ended o r g client begin value h = record {
  moment = h.moment;
  there = g.happened h.moment h.there;
  session = h.session;
  now = h.now;
  bytes = h.bytes;
  event_is = h.event_is;
  xid = h.xid;
  call = h.call;
  parsed = h.parsed;
  size = h.size ∙ ap (λ (l : List ℕ). length l) (sym value);
  after = subst (λ (z : ℕ). z ≤ step_of h.moment) (sym begin) h.after;
  before = let a = h.before in let b = g.passes in omega (arith, a, b);
  waits = subst (λ (c : ℕ). WaitsFor h.moment c h.session h.xid) (sym client) h.waits;
  full = subst (λ (l : List ℕ). is_full h.moment.before.server (length l) ≡ true) (sym value) h.full;
}

went_later : (book more : Book) (made ended : Option ℕ) (o r : Op) → Grows book more made ended → r.file ≡ o.file → r.begin ≡ o.begin → Went book o → Went more r
went_later book more made ended o r g file begin h = record {
  step = h.step;
  after = subst (λ (z : ℕ). z ≤ h.step) (sym begin) h.after;
  before = let a = h.before in let b = g.passes in omega (arith, a, b);
  value_is = ap (λ (f : ℕ). value_at more f h.step) file ∙ value_later book more made ended o.file h.step g (let a = h.before in omega (arith, a)) ∙ h.value_is;
}

denied_later : (book more : Book) (made ended : Option ℕ) (j : ℕ) (o r : Op) (s : Status) → Grows book more made ended → Follows book made ended j o r → o.word ≡ words.Close → Denied book o s → Denied more r s
denied_later book more made ended j o r s g f close (inl h) = inl (room_later book more made ended o r g f.client f.begin (f.value (ap changes close)) h.0, h.1)
denied_later book more made ended j o r s g f close (inr h) = inr (went_later book more made ended o r g (f.close_file close) f.begin h.0, h.1)

pub wanted_later : (book more : Book) (made ended : Option ℕ) (job : Option Job) (t : Told) → Grows book more made ended → IsWanted book job t → IsWanted more job t
wanted_later book more made ended job t g h = by t.reply h
  where
    by : (r : Reply) → Wanted book job t.xid r → Wanted more job t.xid r
    by (Made (Done u)) h = h
    by (Made (Failed s u)) h = let z = h.4 in let r = g.each h.0.place z.0 z.1 in (h.0, h.1, h.2, h.3, (r.0, r.1, r.2.word ∙ z.2, went_later book more made ended z.0 r.0 g (r.2.close_file z.2) r.2.begin z.3, z.4))
    by (Named a) h = h
    by (Stored a) h = h
    by (Changed (Failed s u)) h = let r = g.each h.0.place h.1 h.4 in (h.0, r.0, h.2, h.3, r.1, r.2.word ∙ h.5, denied_later book more made ended h.0.place h.1 r.0 s g r.2 h.5 h.6)
    by _ h = tt

pub all_wanted_later : (book more : Book) (made ended : Option ℕ) (job : Option Job) (ts : List Told) → Grows book more made ended → AllTolds (IsWanted book job) ts → AllTolds (IsWanted more job) ts
all_wanted_later book more made ended job [] g h = tt
all_wanted_later book more made ended job (t ∷ ts) g h = (wanted_later book more made ended job t g h.0, all_wanted_later book more made ended job ts g h.1)

-- the same is found of a session
abbrev pub SameFound : (temps after : List (ℕ × Temp)) → (n : ℕ) → Type 0
SameFound temps after n = (m : ℕ) → m < 4294967296 → temp_at after n m ≡ temp_at temps n m

none_found : (temps after : List (ℕ × Temp)) (n : ℕ) → SameFound temps after n → NoTemp temps n → NoTemp after n
none_found temps after n same h m lt = same m lt ∙ h m lt

one_found : (temps after : List (ℕ × Temp)) (n m : ℕ) (t : Temp) → SameFound temps after n → OneTemp temps n m t → OneTemp after n m t
one_found temps after n m t same h = (h.0, h.1, h.2, same m h.0 ∙ h.3, λ p lt apart. same p lt ∙ h.4 p lt apart)

pub held_found : (temps after : List (ℕ × Temp)) (n : ℕ) (us : List Ask) (ts : List Told) (v : ℕ → List ℕ) (job : Option Job) → SameFound temps after n → HoldsTemp temps n us ts v job → HoldsTemp after n us ts v job
held_found temps after n us ts v None same h = none_found temps after n same h
held_found temps after n us ts v (Some j) same h = by j.stage h
  where
    by : (s : Stage) → HeldIn temps n us ts (v j.file) s → HeldIn after n us ts (v j.file) s
    by (stage.Making x m) h = (λ u. none_found temps after n same (h.0 u), (λ u d. let w = h.1 u d in (w.0, one_found temps after n m w.0 same w.1, w.2)), λ d. none_found temps after n same (h.2 d))
    by (stage.Storing st) h = (h.0, one_found temps after n st.temp h.0 same h.1, h.2)
    by (stage.Committing x) h = (λ u. let w = h.0 u in (w.0, one_found temps after n u.1 w.0 same w.1, w.2), λ u. none_found temps after n same (h.1 u))
    by _ h = none_found temps after n same h

tree_later : (book more : Book) (made ended : Option ℕ) (seat : Seat) → Grows book more made ended → ((j : Job) → job seat ≡ Some j → stage_word j.stage ≡ words.Close → WasThere book j.file) → (j : Job) → job seat ≡ Some j → stage_word j.stage ≡ words.Close → WasThere more j.file
tree_later book more made ended seat g h j f w = there_later book more made ended j.file g (h j f w)

pub orderly_later : (book more : Book) (made ended : Option ℕ) (n : ℕ) (temps after : List (ℕ × Temp)) (hung : Bool) (q : Queue) (seat : Seat) → Grows book more made ended → SameFound temps after n → Orderly book n temps hung q seat → Orderly more n after hung q seat
orderly_later book more made ended n temps after hung q seat g same h = record {
  asks = h.asks;
  tolds = all_wanted_later book more made ended (job seat) q.downs g h.tolds;
  holds = λ up. held_found temps after n q.ups q.downs (locals_of seat.client) (job seat) same (h.holds up);
  tree = tree_later book more made ended seat g h.tree;
}

-- with nothing under way, whatever else changes at the client
pub orderly_free : (book : Book) (n : ℕ) (temps : List (ℕ × Temp)) (hung : Bool) (q : Queue) (c d : Seat) → CloseFree (job c) → CloseFree (job d) → Orderly book n temps hung q c → Orderly book n temps hung q d
orderly_free book n temps hung q c d was is h = record {
  asks = fetching_place (job d) (locals_of d.client) q.ups (free_asks (job c) (locals_of c.client) q.ups was h.asks);
  tolds = fetched_wanted book (job d) q.downs (free_tolds book (job c) q.downs was h.tolds);
  holds = λ up. held_free temps n q.ups q.downs (locals_of d.client) (job d) is (free_held temps n q.ups q.downs (locals_of c.client) (job c) was (h.holds up));
  tree = λ j e w. absurd (is j e w);
}

-- the server lost the connection
pub orderly_hung : (book more : Book) (made ended : Option ℕ) (n : ℕ) (temps after : List (ℕ × Temp)) (hung : Bool) (q : Queue) (seat : Seat) → Grows book more made ended → Orderly book n temps hung q seat → Orderly more n after true (record q { ups = [] }) seat
orderly_hung book more made ended n temps after hung q seat g h = record {
  asks = tt;
  tolds = all_wanted_later book more made ended (job seat) q.downs g h.tolds;
  holds = λ up. absurd cc;
  tree = tree_later book more made ended seat g h.tree;
}

-- a new session
pub orderly_new : (book : Book) (n : ℕ) (temps : List (ℕ × Temp)) (seat : Seat) → job seat ≡ None → NoTemp temps n → Orderly book n temps false (record { ups = []; downs = [] }) seat
orderly_new book n temps seat free none = record {
  asks = tt;
  tolds = tt;
  holds = λ up. held_free temps n [] [] (locals_of seat.client) (job seat) (none_free (job seat) free) none;
  tree = λ j e w. nothing_there j (sym free ∙ e);
}

-- nothing is told of as known, and no temporary file as refused
abbrev pub TellsNone : Reply → Type 0
TellsNone (Named (Done u)) = ⊥
TellsNone (Made (Failed s u)) = ⊥
TellsNone _ = Unit {0}

known_before : (ts : List Told) (t : Told) (x : ℕ) → TellsNone t.reply → DownKnown (ts ++ t ∷ []) x → DownKnown ts x
known_before ts t x none k = elim (of_appended ts t k.0 (record { xid = x; reply = known_reply }) k.1) [
  | inl last ↦ absurd (subst (λ (u : Told). TellsNone u.reply) (sym last.1) none)
  | inr was ↦ (k.0, was)
]

pub refused_before : (ts : List Told) (t : Told) (x : ℕ) → TellsNone t.reply → DownRefused (ts ++ t ∷ []) x → DownRefused ts x
refused_before ts t x none d = elim (of_appended ts t d.0 (record { xid = x; reply = Made (Failed d.1 d.2) }) d.3) [
  | inl last ↦ absurd (subst (λ (u : Told). TellsNone u.reply) (sym last.1) none)
  | inr was ↦ (d.0, d.1, d.2, was)
]

pub refused_more : (ts more : List Told) (x : ℕ) → DownRefused ts x → DownRefused (ts ++ more) x
refused_more ts more x d = (d.0, d.1, d.2, in_front ts more d.0 (record { xid = x; reply = Made (Failed d.1 d.2) }) d.3)

pub known_more : (ts more : List Told) (x : ℕ) → DownKnown ts x → DownKnown (ts ++ more) x
known_more ts more x k = (k.0, in_front ts more k.0 (record { xid = x; reply = known_reply }) k.1)

pub holds_told : (v : List ℕ) (us : List Ask) (ts : List Told) (st : Upload) (ps : List (ℕ × List ℕ)) (t : Told) → TellsNone t.reply → Holds v us ts st ps → Holds v us (ts ++ t ∷ []) st ps
holds_told v us ts st ps t none h = record {
  has = h.has;
  pieces_is = h.pieces_is;
  later = h.later;
  done = h.done;
  by_name = λ k u c at w unknown. h.by_name k u c at w (λ d. unknown (known_more ts (t ∷ []) u.xid d));
  known = λ k u c at w d. h.known k u c at w (known_before ts t u.xid none d);
  up = h.up;
  taken = h.taken;
  apart = h.apart;
}

pub held_told : (temps : List (ℕ × Temp)) (n : ℕ) (us : List Ask) (ts : List Told) (t : Told) (cut : Bool) (v : ℕ → List ℕ) (job : Option Job) → TellsNone t.reply → HoldsTemp temps n us ts v job → HoldsTemp temps n us (unless cut ts (t ∷ [])) v job
held_told temps n us ts t true v job none h = h
held_told temps n us ts t false v None none h = h
held_told temps n us ts t false v (Some j) none h = by j.stage h
  where
    by : (s : Stage) → HeldIn temps n us ts (v j.file) s → HeldIn temps n us (ts ++ t ∷ []) (v j.file) s
    by (stage.Making x m) h = (h.0, (λ u d. h.1 u (λ r. d (refused_more ts (t ∷ []) x r))), λ d. h.2 (refused_before ts t x none d))
    by (stage.Storing st) h = (h.0, h.1, holds_told (v j.file) us ts st h.0.pieces t none h.2)
    by (stage.Committing x) h = h
    by _ h = h

pub orderly_told : (book : Book) (n : ℕ) (temps : List (ℕ × Temp)) (hung cut : Bool) (q : Queue) (t : Told) (seat : Seat) → TellsNone t.reply → IsWanted book (job seat) t → Orderly book n temps hung q seat → Orderly book n temps hung (record q { downs = unless cut q.downs (t ∷ []) }) seat
orderly_told book n temps hung cut q t seat none w h = record { asks = h.asks; tolds = all_unless (IsWanted book (job seat)) cut q.downs (t ∷ []) h.tolds (w, tt); holds = λ up. held_told temps n q.ups q.downs t cut (locals_of seat.client) (job seat) none (h.holds up); tree = h.tree }

-- ---- the first call is taken

abbrev pub IsQuietCall : Call → Type 0
IsQuietCall (Make m f) = ⊥
IsQuietCall (Send m s b) = ⊥
IsQuietCall (Commit m f s) = ⊥
IsQuietCall _ = Unit {0}

pub make_up : (a : Ask) (us : List Ask) (x : ℕ) → UpMake us x → UpMake (a ∷ us) x
make_up a us x u = (suc u.0, u.1, u.2, u.3, u.4)

pub send_up : (a : Ask) (us : List Ask) (x : ℕ) → UpSend us x → UpSend (a ∷ us) x
send_up a us x u = (suc u.0, u.1, u.2, u.3, u.4, u.5)

abbrev pub commit_up : (a : Ask) (us : List Ask) (x : ℕ) → UpCommit us x → UpCommit (a ∷ us) x
commit_up a us x u = (suc u.0, u.1, u.2, u.3, u.4, u.5)

make_rest : (a : Ask) (us : List Ask) (x : ℕ) → IsQuietCall a.call → UpMake (a ∷ us) x → UpMake us x
make_rest a us x plain (zero, m, f, v, e) = absurd (subst (λ (b : Ask). IsQuietCall b.call) (some_is a _ e) plain)
make_rest a us x plain (suc i, m, f, v, e) = (i, m, f, v, e)

send_rest : (a : Ask) (us : List Ask) (x : ℕ) → IsQuietCall a.call → UpSend (a ∷ us) x → UpSend us x
send_rest a us x plain (zero, m, s, b, v, e) = absurd (subst (λ (b : Ask). IsQuietCall b.call) (some_is a _ e) plain)
send_rest a us x plain (suc i, m, s, b, v, e) = (i, m, s, b, v, e)

commit_rest : (a : Ask) (us : List Ask) (x : ℕ) → IsQuietCall a.call → UpCommit (a ∷ us) x → UpCommit us x
commit_rest a us x plain (zero, m, f, s, v, e) = absurd (subst (λ (b : Ask). IsQuietCall b.call) (some_is a _ e) plain)
commit_rest a us x plain (suc i, m, f, s, v, e) = (i, m, f, s, v, e)

-- no bytes are among them
holds_rest : (v : List ℕ) (a : Ask) (us : List Ask) (ts : List Told) (st : Upload) (ps : List (ℕ × List ℕ)) → IsQuietCall a.call → Holds v (a ∷ us) ts st ps → Holds v us ts st ps
holds_rest v a us ts st ps plain h = record {
  has = h.has;
  pieces_is = h.pieces_is;
  later = h.later;
  done = h.done;
  by_name = h.by_name;
  known = h.known;
  up = λ k u c at w. h.up k u c at (send_up a us u.xid w);
  taken = λ k u c at by_way none. h.taken k u c at by_way (λ w. none (send_rest a us u.xid plain w));
  apart = h.apart;
}

pub held_rest : (temps : List (ℕ × Temp)) (n : ℕ) (a : Ask) (us : List Ask) (ts : List Told) (v : ℕ → List ℕ) (job : Option Job) → IsQuietCall a.call → HoldsTemp temps n (a ∷ us) ts v job → HoldsTemp temps n us ts v job
held_rest temps n a us ts v None plain h = h
held_rest temps n a us ts v (Some j) plain h = by j.stage h
  where
    by : (s : Stage) → HeldIn temps n (a ∷ us) ts (v j.file) s → HeldIn temps n us ts (v j.file) s
    by (stage.Making x m) h = (λ u. h.0 (make_up a us x u), (λ none d. h.1 (λ u. none (make_rest a us x plain u)) d), h.2)
    by (stage.Storing st) h = (h.0, h.1, holds_rest (v j.file) a us ts st h.0.pieces plain h.2)
    by (stage.Committing x) h = (λ u. h.0 (commit_up a us x u), λ none. h.1 (λ u. none (commit_rest a us x plain u)))
    by _ h = h

-- with an answer to it
pub orderly_answered : (book more : Book) (made ended : Option ℕ) (n : ℕ) (temps after : List (ℕ × Temp)) (cut : Bool) (q : Queue) (a : Ask) (us : List Ask) (t : Told) (seat : Seat) → Grows book more made ended → q.ups ≡ a ∷ us → IsWanted more (job seat) t → HoldsTemp after n us (unless cut q.downs (t ∷ [])) (locals_of seat.client) (job seat) → Orderly book n temps false q seat
    → Orderly more n after false (record { ups = us; downs = unless cut q.downs (t ∷ []) }) seat
orderly_answered book more made ended n temps after cut q a us t seat g first w held h = record {
  asks = (subst (AllAsks (IsInPlace (job seat) (locals_of seat.client))) first h.asks).1;
  tolds = all_unless (IsWanted more (job seat)) cut q.downs (t ∷ []) (all_wanted_later book more made ended (job seat) q.downs g h.tolds) (w, tt);
  holds = λ up. held;
  tree = tree_later book more made ended seat g h.tree;
}

-- with none
pub orderly_taken : (book more : Book) (made ended : Option ℕ) (n : ℕ) (temps after : List (ℕ × Temp)) (hung : Bool) (q : Queue) (a : Ask) (us : List Ask) (seat : Seat) → Grows book more made ended → q.ups ≡ a ∷ us → HoldsTemp after n us q.downs (locals_of seat.client) (job seat) → Orderly book n temps hung q seat → Orderly more n after hung (record q { ups = us }) seat
orderly_taken book more made ended n temps after hung q a us seat g first held h = record {
  asks = (subst (AllAsks (IsInPlace (job seat) (locals_of seat.client))) first h.asks).1;
  tolds = all_wanted_later book more made ended (job seat) q.downs g h.tolds;
  holds = λ up. held;
  tree = tree_later book more made ended seat g h.tree;
}

pub held_first : (book : Book) (n : ℕ) (temps : List (ℕ × Temp)) (q : Queue) (a : Ask) (us : List Ask) (seat : Seat) → q.ups ≡ a ∷ us → Orderly book n temps false q seat → HoldsTemp temps n (a ∷ us) q.downs (locals_of seat.client) (job seat)
held_first book n temps q a us seat first h = subst (λ (l : List Ask). HoldsTemp temps n l q.downs (locals_of seat.client) (job seat)) first (h.holds refl)

pub place_first : (book : Book) (n : ℕ) (temps : List (ℕ × Temp)) (hung : Bool) (q : Queue) (a : Ask) (us : List Ask) (seat : Seat) → q.ups ≡ a ∷ us → Orderly book n temps hung q seat → InPlace (job seat) (locals_of seat.client) a.xid a.call
place_first book n temps hung q a us seat first h = (subst (AllAsks (IsInPlace (job seat) (locals_of seat.client))) first h.asks).0

-- ---- an operation begins

-- its first stage, and the call that goes out
abbrev pub BeginsWith : Stage → Ask → Type 0
BeginsWith (stage.Asking x) a = Unit {0}
BeginsWith (stage.Rewriting x) a = Unit {0}
BeginsWith (stage.Hashing t x) a = Unit {0}
BeginsWith (stage.Walking x w) a = Unit {0}
BeginsWith (stage.Making x m) a = (f lbfs : ℕ) × (a ≡ record { lbfs = lbfs; xid = x; call = Make m f })
BeginsWith s a = ⊥

-- what is there of closes where nothing is under way: nothing
pub record IsClear (temps : List (ℕ × Temp)) (n : ℕ) (hung : Bool) (q : Queue) : Type 0 where
  pub ups : AllFetching q.ups
  pub downs : AllFetched q.downs
  pub none : hung ≡ false → NoTemp temps n

pub orderly_clear : (book : Book) (n : ℕ) (temps : List (ℕ × Temp)) (hung : Bool) (q : Queue) (seat : Seat) → job seat ≡ None → Orderly book n temps hung q seat → IsClear temps n hung q
orderly_clear book n temps hung q seat free h = record {
  ups = free_asks (job seat) (locals_of seat.client) q.ups (none_free (job seat) free) h.asks;
  downs = free_tolds book (job seat) q.downs (none_free (job seat) free) h.tolds;
  none = λ up. free_held temps n q.ups q.downs (locals_of seat.client) (job seat) (none_free (job seat) free) (h.holds up);
}

pub orderly_begun : (book : Book) (n : ℕ) (temps : List (ℕ × Temp)) (hung : Bool) (q : Queue) (a : Ask) (d : Seat) (j : Job) → job d ≡ Some j → InPlace (job d) (locals_of d.client) a.xid a.call → BeginsWith j.stage a → (stage_word j.stage ≡ words.Close → WasThere book j.file) → IsClear temps n hung q
    → Orderly book n temps hung (record { ups = unless hung q.ups (a ∷ []); downs = q.downs }) d
orderly_begun book n temps hung q a d j is place begins tree clear = record {
  asks = all_unless (IsInPlace (job d) (locals_of d.client)) hung q.ups (a ∷ []) (fetching_place (job d) (locals_of d.client) q.ups clear.ups) (place, tt);
  tolds = fetched_wanted book (job d) q.downs clear.downs;
  holds = λ up. subst (λ (o : Option Job). HoldsTemp temps n (unless hung q.ups (a ∷ [])) q.downs (locals_of d.client) o) (sym is) (by j.stage begins hung up (clear.none up));
  tree = λ i e w. let same = some_is j i (sym is ∙ e) in subst (λ (z : Job). WasThere book z.file) same (tree (ap (λ (z : Job). stage_word z.stage) same ∙ w));
}
  where
    by : (s : Stage) → BeginsWith s a → (b : Bool) → b ≡ false → NoTemp temps n → HeldIn temps n (unless b q.ups (a ∷ [])) q.downs (locals_of d.client j.file) s
    by (stage.Asking x) begins b up none = none
    by (stage.Rewriting x) begins b up none = none
    by (stage.Hashing t x) begins b up none = none
    by (stage.Walking x w) begins b up none = none
    by (stage.Making x m) begins false up none = (λ u. none, (λ u d. absurd (u (length q.ups, m, begins.0, begins.1, at_end q.ups a ∙ ap (λ (z : Ask). Some z) begins.2))), λ d. none)
    by (stage.Making x m) begins true up none = absurd cc
    by _ begins b up none = absurd begins
