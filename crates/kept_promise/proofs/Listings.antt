-- An open is told chunks: it takes their bytes from what is kept, or asks for them.
use Rattle.std.proofs.Common.{◌⊎◌, inl, inr, ◌≡◌, ℕ, zero, suc, ◌+◌, ◌-◌, ◌*◌, ◌<◌, ◌≤◌, List, [], ◌∷◌, ◌++◌, length, Option, Some, None, Bool, true, false, refl, sym, ap, ◌∙◌, subst, arith, eqb-true, eq-eqb, map, take, drop}
use Rattle.chunk_index.specs.Index.{key_of, place_of}
use Rattle.chunk_index.specs.Places.{indexed}
use Rattle.client_cache.specs.Cache.{with_content}
use Rattle.file_open.specs.Caching.{bytes_there, from_index, found_all}
use Rattle.client_state.specs.State as client
use Rattle.client_state.specs.declared.step.Outcome.TheVariants as outcome
use Rattle.client_state.specs.declared.task.Stage.TheVariants as stage
use Rattle.register_model.specs.declared.op.Outcome.TheVariants as told
use Rattle.register_model.specs.declared.op.Word.TheVariants as words
use Rattle.kept_promise.proofs.Common.{nat_tests, slice_get, slice_set, ◌==◌, ◌&&◌, nat_lt, Contains, sha1, chunks_of, chunk_bytes, Chunk, Pending, read_pending, no_counts, is_none, is_here, reads_from, reads_chunk, reads_all, looked_up, read_at, slots_bytes, idle, opened_with, reads_on, reads_if, Entries, Indexed, ClientStep, ends, ended_op, Reads, Fetch, Local, ReadCall, Stage, local_at_itself, local_at_another, Op, Traffic, TakenCall, Core, Session, has_point, point_if, counted, hashed_of, Book, HadContent, Or, value_at, Call.Read, Told, Queue}
use Rattle.kept_promise.proofs.Statements.{CallFits}
use Rattle.kept_promise.proofs.Lists.{some_is, nothing_there, same_or_not, within, in_front, there_at, of_appended, at_end, of_replaced, at_replaced, set_count, set_else}
use Rattle.kept_promise.proofs.Keys.{times}
use Rattle.kept_promise.proofs.Messages.{Job, stage_word, IsTold, IsAsked, read_chunk, chunk_for, IsFetch, IsReading, IsCommit, IsPiece, TempUnder}
use Rattle.kept_promise.proofs.Growth.{or_later, or_map, or_both, bytes_or, value_later, there_later}
use Rattle.kept_promise.proofs.Facts.{Cached, IsSession, IsOf}
use Rattle.kept_promise.proofs.Taken.{times_map_append}
use Rattle.kept_promise.proofs.Heard.{told_pending}
use Rattle.kept_promise.proofs.Ordered.{IsFetching}
use Rattle.kept_promise.proofs.Caches.{given_is, cached_with}
use Rattle.kept_promise.proofs.StepCases.{reads_keep, reads_end}
use Rattle.kept_promise.proofs.Steps.{speaks_at, Here, session_at, Quiet, job_op, GoesOn, on, counting, opens_in_order, open_unnamed}
use Rattle.kept_promise.proofs.ReadCalls.{Ran, reads_run, sent_rising, sent_all, sent_count, sent_times, sent_same, sent_from, sent_commits, read_found, read_front}
use Rattle.kept_promise.proofs.Chunks.{row_of, link_at, chunks_are_named}
use Rattle.kept_promise.proofs.Attempts.{fetch_few, Came, whole_length, whole_value}
use Rattle.kept_promise.proofs.CloseSteps.{calls_are}
use Rattle.kept_promise.proofs.Comes.{client_at, Comes, open_op, stops_open, told_point}
use Rattle.kept_promise.proofs.Hashings.{file_small}
use Rattle.kept_promise.proofs.Rights.{WasThere}

-- a fetch of a job is that of its next stage
abbrev pub fetch_on : (book : Book) (taken : List TakenCall) (j : Job) (s : Stage) (f : Fetch) → IsFetch book taken j f → IsFetch book taken (on j s) f
fetch_on book taken j s f h = record {
  file = h.file;
  held = h.held;
  version = h.version;
  value = h.value;
  told = record { moment = h.told.moment; was = h.told.was; past = h.told.past; value = h.told.value; version_is = h.told.version_is; op = h.told.op; there = h.told.there; after = h.told.after; apart = h.told.apart };
  value_is = h.value_is;
  tried = record { moment = h.tried.moment; was = h.tried.was; past = h.tried.past; op = h.tried.op; there = h.tried.there; count = h.tried.count; tries_is = h.tried.tries_is; tried = h.tried.tried; call = (let s = h.tried.call in record { moment = s.moment; was = s.was; op = s.op; there = s.there; takes = s.takes }) };
  size = h.size;
  short = h.short;
  known = h.known;
  count = h.count;
  within = h.within;
  chunks = h.chunks;
  hashed = h.hashed;
}

-- ---- chunks are looked up

-- the READs that go out for an attempt
abbrev pub reads_at : client.State → (file : ℕ) → Fetch → Reads
reads_at c file f = reads_all c.cache c.index file f c.next_xid

-- whatever is found then, of a chunk's length, is noted
abbrev pub Looked : (hashed : List (List ℕ)) → client.State → (file : ℕ) → Fetch → Type 0
Looked hashed c file f = (i : ℕ) (d : Chunk) (b : List ℕ) → slice_get (looked_up f (reads_at c file f)) i ≡ Some d → bytes_there c.cache d (place_of c.index.pairs (key_of d.digest)) ≡ Some b → Contains hashed b

abbrev NotedTo : (hashed : List (List ℕ)) → Entries → Indexed → List Chunk → (from to : ℕ) → Type 0
NotedTo hashed cache index chunks lo hi = (i : ℕ) (d : Chunk) (b : List ℕ) → lo ≤ i → i < hi → slice_get chunks i ≡ Some d → bytes_there cache d (place_of index.pairs (key_of d.digest)) ≡ Some b → Contains hashed b

taken_at_ : {A : Type 0} (n i : ℕ) (xs : List A) (x : A) → slice_get xs i ≡ Some x → i < n → slice_get (take n xs) i ≡ Some x
taken_at_ zero i xs x at lt = absurd (omega (arith, lt))
taken_at_ (suc n) i [] x at lt = nothing_there x at
taken_at_ (suc n) zero (y ∷ xs) x at lt = at
taken_at_ (suc n) (suc i) (y ∷ xs) x at lt = taken_at_ n i xs x at (omega (arith, lt))

dropped_at : {A : Type 0} (m i : ℕ) (xs : List A) (x : A) → slice_get xs (m + i) ≡ Some x → slice_get (drop m xs) i ≡ Some x
dropped_at zero i xs x at = let e : i ≡ 0 + i = omega arith in ap (slice_get xs) e ∙ at
dropped_at (suc m) i [] x at = nothing_there x at
dropped_at (suc m) i (y ∷ xs) x at = let e : suc (m + i) ≡ suc m + i = omega arith in dropped_at m i xs x (ap (slice_get (y ∷ xs)) e ∙ at)

noted_to : (hashed : List (List ℕ)) (c : client.State) (file : ℕ) (f : Fetch) → (reads_at c file f).fetch.chunks ≡ f.chunks → Looked hashed c file f → NotedTo hashed c.cache c.index f.chunks f.asked (reads_at c file f).fetch.asked
noted_to hashed c file f same h i d b lo hi at e =
    let k : ℕ = i - f.asked in
    let back : f.asked + k ≡ i = omega (arith, lo) in
    let lt : k < (reads_at c file f).fetch.asked - f.asked = omega (arith, lo, hi) in
    h k d b (taken_at_ ((reads_at c file f).fetch.asked - f.asked) k (drop f.asked (reads_at c file f).fetch.chunks) d (dropped_at f.asked k (reads_at c file f).fetch.chunks d (ap (slice_get (reads_at c file f).fetch.chunks) back ∙ ap (λ (l : List Chunk). slice_get l i) same ∙ at)) lt) e

-- one more chunk was asked for
one_asked : (book : Book) (v : List ℕ) (f : Fetch) (c : Chunk) (x : ℕ) → slice_get f.chunks f.asked ≡ Some c → IsReading book v f → IsReading book v (record f { asked = f.asked + 1; under = f.under ++ record { xid = x; index = f.asked } ∷ [] })
one_asked book v f c x at h =
    let lt = within f.chunks f.asked c at in
    record {
      whole = h.whole;
      slots = h.slots;
      came = h.came;
      asked = omega (arith, lt);
      inside = λ k r e. elim (of_appended f.under (record { xid = x; index = f.asked }) k r e) [
        | inl new ↦ let i = ap (λ (z : ReadCall). z.index) new.1 in omega (arith, i)
        | inr old ↦ let less = h.inside k r old in omega (arith, less)
      ];
      filled = λ i less. elim (same_or_not i f.asked) [
        | inl same ↦ inr (length f.under, record { xid = x; index = f.asked }, at_end f.under (record { xid = x; index = f.asked }), sym same)
        | inr apart ↦ elim (h.filled i (omega (arith, less, below i less apart))) [
          | inl here ↦ inl here
          | inr under ↦ inr (under.0, under.1, in_front f.under (record { xid = x; index = f.asked } ∷ []) under.0 under.1 under.2, under.3)
        ]
      ];
    }
  where
    below : (i : ℕ) → i < f.asked + 1 → (i ≡ f.asked → ⊥) → i < f.asked
    below i less apart = by (nat_lt i f.asked) refl
      where
        by : (b : Bool) → nat_lt i f.asked ≡ b → i < f.asked
        by true e = grind (arith, nat_tests, e)
        by false e = let le : f.asked ≤ i = grind (arith, nat_tests, e) in absurd (apart (omega (arith, le, less)))

-- one more was found
one_found : (book : Book) (v : List ℕ) (f : Fetch) (c : Chunk) (bytes : List ℕ) → slice_get f.chunks f.asked ≡ Some c → length bytes ≡ c.len → Or book (bytes ≡ chunk_bytes v c) → IsReading book v f → IsReading book v (record f { asked = f.asked + 1; slots = slice_set f.slots f.asked (Some bytes) })
one_found book v f c bytes at len is h =
    let lt = within f.chunks f.asked c at in
    let size = h.slots in
    let slot = there_at f.slots f.asked (omega (arith, lt, size)) in
    record {
      whole = h.whole;
      slots = set_count f.slots f.asked (Some bytes) ∙ h.slots;
      came = λ i b e there chunk. elim (of_replaced f.slots f.asked (Some bytes) i (Some b) there) [
        | inl here ↦
            let same : e ≡ c = some_is e c (sym chunk ∙ ap (slice_get f.chunks) here.0 ∙ at) in
            let is_b : b ≡ bytes = some_is b bytes here.1 in
            (subst (λ z. Or book (z ≡ chunk_bytes v e)) (sym is_b) (subst (λ (z : Chunk). Or book (bytes ≡ chunk_bytes v z)) (sym same) is), ap length is_b ∙ len ∙ ap (λ (z : Chunk). z.len) (sym same))
        | inr old ↦ h.came i b e old.1 chunk
      ];
      asked = omega (arith, lt);
      inside = λ k r e. let less = h.inside k r e in omega (arith, less);
      filled = λ i less. elim (same_or_not i f.asked) [
        | inl same ↦ inl (bytes, ap (slice_get (slice_set f.slots f.asked (Some bytes))) same ∙ at_replaced f.slots f.asked (Some bytes) slot.0 slot.1)
        | inr apart ↦ elim (h.filled i (below i less apart)) [
          | inl here ↦ inl (here.0, set_else f.slots f.asked i (Some bytes) apart ∙ here.1)
          | inr under ↦ inr under
        ]
      ];
    }
  where
    below : (i : ℕ) → i < f.asked + 1 → (i ≡ f.asked → ⊥) → i < f.asked
    below i less apart = by (nat_lt i f.asked) refl
      where
        by : (b : Bool) → nat_lt i f.asked ≡ b → i < f.asked
        by true e = grind (arith, nat_tests, e)
        by false e = let le : f.asked ≤ i = grind (arith, nat_tests, e) in absurd (apart (omega (arith, le, less)))

record Going (book : Book) (v : List ℕ) (cache : Entries) (index : Indexed) (f : Fetch) (r : Reads) : Type 0 where
  chunks : r.fetch.chunks ≡ f.chunks
  further : f.asked ≤ r.fetch.asked
  reading : NotedTo (hashed_of book.moments) cache index f.chunks f.asked r.fetch.asked → IsReading book v r.fetch

-- READs of a further part of the chunks are under way, and what was found of it is theirs
reading_more : (book : Book) (v : List ℕ) (c : client.State) (file : ℕ) (f : Fetch) → ((i : ℕ) (d : Chunk) → slice_get f.chunks i ≡ Some d → Contains (hashed_of book.moments) (chunk_bytes v d)) → IsReading book v f → Looked (hashed_of book.moments) c file f → IsReading book v (reads_at c file f).fetch
reading_more book v c file f hashed h looked = all.reading (noted_to (hashed_of book.moments) c file f all.chunks looked)
  where
    more : (r : Reads) (d : Chunk) (o : Option (List ℕ)) → Going book v c.cache c.index f r → slice_get r.fetch.chunks r.fetch.asked ≡ Some d → from_index c.cache c.index d ≡ o → Going book v c.cache c.index f (reads_chunk file r d o)
    more r d None g at found =
        let le = g.further in
        record { chunks = g.chunks; further = omega (arith, le); reading = λ noted. one_asked book v r.fetch d r.next_xid at (g.reading (λ i e b lo hi. noted i e b lo (omega (arith, hi)))) }
    more r d (Some bytes) g at found =
        let le = g.further in
        let is = given_is c.cache c.index d bytes found in
        let there : slice_get f.chunks r.fetch.asked ≡ Some d = ap (λ (l : List Chunk). slice_get l r.fetch.asked) (sym g.chunks) ∙ at in
        record {
          chunks = g.chunks;
          further = omega (arith, le);
          reading = λ noted.
              let named = chunks_are_named v r.fetch.asked d (ap (λ (l : List Chunk). slice_get l r.fetch.asked) (sym h.whole) ∙ there) in
              let own = noted r.fetch.asked d bytes le (omega arith) there is.there in
              one_found book v r.fetch d bytes at is.len (bytes_or book bytes (chunk_bytes v d) own (hashed r.fetch.asked d there) (is.digest ∙ named.0)) (g.reading (λ i e b lo hi. noted i e b lo (omega (arith, hi))));
        }

    all : Going book v c.cache c.index f (reads_at c file f)
    all = reads_keep (Going book v c.cache c.index f) c.cache c.index file more (length f.chunks - f.asked) (reads_from f c.next_xid) (record { chunks = refl; further = omega arith; reading = λ noted. h })

-- what the READs under way of an attempt are, of which the answer was taken
pub record MayRead (book : Book) (k : Core) (qs : List Queue) (n : ℕ) (x : Session) (q : Queue) (t : Told) (ts : List Told) (j : Job) (g : Here book k qs n x q t ts j) (f : Fetch) (fact : IsFetch book x.taken j f) : Type 0 where
  pub quiet : Quiet k n q
  pub word : stage_word j.stage ≡ words.Open
  pub reading : IsReading book fact.file.content f
  pub looked : Looked (hashed_of book.moments) (client_at book k qs n x q t ts j g) j.file f
  pub moves : (m : Pending → ℕ) (y : ℕ) → times y (map m (map read_pending f.under)) + times y (m (told_pending t) ∷ []) ≡ times y (map m (client.pending_in j.stage))
  pub below : (y : ℕ) (r : ReadCall) → read_at f.under y ≡ Some r → y < (client_at book k qs n x q t ts j g).next_xid
  pub again : (y : ℕ) (r : ReadCall) (c : Chunk) → read_at f.under y ≡ Some r → slice_get f.chunks r.index ≡ Some c → (u : Fetch) × (j.stage ≡ stage.Reading u) × (read_chunk j.stage y ≡ Some c) × (u.first ≡ f.first)
  pub xids : (spare : ℕ) × (f.tries + spare ≡ 4) × ((client_at book k qs n x q t ts j g).next_xid + 100000 * spare + 40000 ≤ 4294967296 + f.asked)

pendings_both : (us vs : List ReadCall) → map read_pending (us ++ vs) ≡ map read_pending us ++ map read_pending vs
pendings_both [] vs = refl
pendings_both (u ∷ us) vs = ap (λ l. read_pending u ∷ l) (pendings_both us vs)

-- ---- all is here

is_none_means : (us : List ReadCall) (b : Bool) → (is_none us && b) ≡ true → (us ≡ []) × (b ≡ true)
is_none_means [] true e = (refl, refl)
is_none_means _ _ e = absurd cc

-- a file's content has come, as far as digests tell
all_came : (book : Book) (v : List ℕ) (f : Fetch) → IsReading book v f → f.under ≡ [] → f.asked ≡ length f.chunks → Came book v (chunks_of v) f.slots
all_came book v f h none all k c e =
    let at : slice_get f.chunks k ≡ Some c = ap (λ l. slice_get l k) h.whole ∙ e in
    let lt = within f.chunks k c at in
    elim (h.filled k (omega (arith, lt, all))) [
      | inl here ↦ let p = h.came k here.0 c here.1 at in (here.0, here.1, p.0, p.1)
      | inr under ↦ nothing_there under.1 (ap (λ (l : List ReadCall). slice_get l under.0) (sym none) ∙ under.2)
    ]

-- an open ends with this content, which its file had in that version at a moment within it
pub record Gets (book : Book) (k : Core) (qs : List Queue) (n : ℕ) (x : Session) (q : Queue) (t : Told) (ts : List Told) (j : Job) (g : Here book k qs n x q t ts j) (rests version : ℕ) (v : List ℕ) : Type 0 where
  pub quiet : Quiet k n q
  pub word : stage_word j.stage ≡ words.Open
  pub value : List ℕ
  pub told_ : IsTold book x.taken j rests (Some value) version
  pub value_is : Or book (v ≡ value)
  pub short : length v ≤ 67108864
  pub known : WasThere book j.file

-- the client then, with what it keeps
pub record EndsSo (c : client.State) (file version : ℕ) (v : List ℕ) (rests bytes xid : ℕ) (cache : Entries) (index : Indexed) (r : client.State × ClientStep) : Type 0 where
  pub state : r.0 ≡ record c { task = None; opened = client.with_local c.opened file (record { version = version; bytes = v }); forgotten = client.without_call (client.calls_of c) xid; cache = cache; index = index }
  pub acts : r.1 ≡ ends (outcome.Opened file (length v) (sha1 v)) rests bytes

pub had_content : (book : Book) (k : Core) (qs : List Queue) (n : ℕ) (x : Session) (q : Queue) (t : Told) (ts : List Told) (j : Job) (g : Here book k qs n x q t ts j) (rests version : ℕ) (v : List ℕ) → Gets book k qs n x q t ts j g rests version v → HadContent book j.file version v
had_content book k qs n x q t ts j g rests version v h = record {
  moment = h.told_.moment;
  past = h.told_.past;
  version_is = h.told_.version_is;
  value_is = or_map book (v ≡ h.value) (value_at book j.file h.told_.moment ≡ Some v) (λ e. h.told_.value ∙ ap (λ z. Some z) (sym e)) h.value_is;
}

pub comes_opened : (book : Book) (k : Core) (qs : List Queue) (n : ℕ) (x : Session) (q : Queue) (t : Told) (ts : List Told) (j : Job) (g : Here book k qs n x q t ts j) (rests version : ℕ) (v : List ℕ) (bytes : ℕ) (cache : Entries) (index : Indexed) (r : client.State × ClientStep) → Gets book k qs n x q t ts j g rests version v
    → Cached book cache → EndsSo (client_at book k qs n x q t ts j g) j.file version v rests bytes t.xid cache index r → Comes book k qs n x q t ts j g r
comes_opened book k qs n x q t ts j g rests version v bytes cache index r gets cached is = inr (record {
  op = new;
  ended = record { outcome = outcome.Opened j.file (length v) (sha1 v); rests_on = rests };
  made = None;
  opened = opened;
  forgotten = client.without_call (client.calls_of c) t.xid;
  cache = cache;
  index = index;
  shows = stops_open book k qs n x q t ts j g tr (Some m) (told.Opened (length v) (sha1 v)) v opened gets.quiet gets.word refl (told_point book k qs n x q t ts j g rests (Some gets.value) version gets.told_) (λ more grows steps. (
    w,
    record {
      length_is = refl;
      digest_is = refl;
      point = m;
      within = (refl, after, (book.steps + 1, refl, omega (arith, past)));
      value_is = λ leased. or_later book more None (Some j.place) (v ≡ gets.value) (value_at more of.op.file m ≡ Some v) grows (λ e. ap (λ z. value_at more z m) (of.file (open_unnamed j.stage gets.word)) ∙ value_later book more None (Some j.place) j.file m grows (omega (arith, past)) ∙ gets.told_.value ∙ ap (λ z. Some z) (sym e)) gets.value_is;
    },
    there_later book more None (Some j.place) of.op.file grows (subst (λ (z : ℕ). WasThere book z) (sym (of.file (open_unnamed j.stage gets.word))) gets.known),
  )) (λ i l e. ok i l e (same_or_not i j.file));
  cached = inl cached;
  state_is = is.state;
  send_is = ap (λ (z : ClientStep). z.send) is.acts;
  ended_is = ap (λ (z : ClientStep). z.ended) is.acts;
  op_is = ap (λ (z : client.State × ClientStep). ended_op (counting of.op (counted of.op.traffic z.1.counts)) z.0 x.taken (book.steps + 1) (record { outcome = outcome.Opened j.file (length v) (sha1 v); rests_on = rests })) both
      ∙ ap (λ z. open_op of.op tr (book.steps + 1) (point_if (has_point z (outcome.Opened j.file (length v) (sha1 v))) x.taken rests (book.steps + 1) of.op.point) (told.Opened (length v) (sha1 v)) (client.local_bytes opened j.file)) w
      ∙ ap (λ p. open_op of.op tr (book.steps + 1) (Some (Rattle.std.specs.Prelude.unwrap_or p (book.steps + 1))) (told.Opened (length v) (sha1 v)) (client.local_bytes opened j.file)) gets.told_.was
      ∙ ap (λ b. open_op of.op tr (book.steps + 1) (Some m) (told.Opened (length v) (sha1 v)) b) local_is;
})
  where
    h : IsSession book k.seats k.server n x q
    h = session_at book k qs n x q t ts j g

    c : client.State
    c = h.seat.client

    of : IsOf book x.owner j
    of = job_op book k qs x h.seat j g.kept h.owner g.job_is

    w : of.op.word ≡ words.Open
    w = of.word ∙ gets.word

    tr : Traffic
    tr = counted of.op.traffic (record no_counts { bytes = bytes })

    m : ℕ
    m = gets.told_.moment

    past : m ≤ book.steps
    past = gets.told_.past

    after : of.op.begin ≤ m
    after = subst (λ (o : Op). o.begin ≤ m) (some_is gets.told_.op of.op (sym gets.told_.there ∙ of.there)) gets.told_.after

    local : Local
    local = record { version = version; bytes = v }

    opened : List (ℕ × Local)
    opened = client.with_local c.opened j.file local

    both : r ≡ (record c { task = None; opened = opened; forgotten = client.without_call (client.calls_of c) t.xid; cache = cache; index = index }, ends (outcome.Opened j.file (length v) (sha1 v)) rests bytes)
    both = ap (λ (s : client.State). (s, r.1)) is.state ∙ ap (λ (s : ClientStep). (record c { task = None; opened = opened; forgotten = client.without_call (client.calls_of c) t.xid; cache = cache; index = index }, s)) is.acts

    local_is : client.local_bytes opened j.file ≡ v
    local_is = ap (λ o. Rattle.std.specs.Prelude.unwrap_or (Rattle.std.specs.Prelude.option_map (λ (l : Local). l.bytes) o) []) (local_at_itself c.opened j.file local)

    ok : (i : ℕ) (l : Local) → client.local_at opened i ≡ Some l → ((i ≡ j.file) ⊎ (i ≡ j.file → ⊥)) → WasThere book i × (length l.bytes ≤ 67108864)
    ok i l e (inl same) =
        let is : local ≡ l = some_is local l (sym (local_at_itself c.opened j.file local) ∙ ap (client.local_at opened) (sym same) ∙ e) in
        (subst (λ z. WasThere book z) (sym same) gets.known, subst (λ (z : Local). length z.bytes ≤ 67108864) is gets.short)
    ok i l e (inr apart) = (g.kept.seats x.owner h.seat h.owner).opened i l (sym (local_at_another c.opened j.file local i apart) ∙ e)

    new : Op
    new = open_op of.op tr (book.steps + 1) (Some m) (told.Opened (length v) (sha1 v)) v

-- all chunks of a fetch are here: its content is kept, and the places of its chunks
fetch_opened : (book : Book) (k : Core) (qs : List Queue) (n : ℕ) (x : Session) (q : Queue) (t : Told) (ts : List Told) (j : Job) (g : Here book k qs n x q t ts j) (f : Fetch) (bytes : ℕ) (index : Indexed) → (fact : IsFetch book x.taken j f) → stage_word j.stage ≡ words.Open → Quiet k n q → IsReading book fact.file.content f → f.under ≡ [] → f.asked ≡ length f.chunks
    → Comes book k qs n x q t ts j g (opened_with (record (idle (client_at book k qs n x q t ts j g)) { index = index }) (client.calls_of (client_at book k qs n x q t ts j g)) j.file t.xid f bytes)
fetch_opened book k qs n x q t ts j g f bytes index fact word quiet reading none all =
    let c = client_at book k qs n x q t ts j g in
    let v : List ℕ = slots_bytes f.slots in
    let came = all_came book fact.file.content f reading none all in
    let slots : length f.slots ≡ length (chunks_of fact.file.content) = reading.slots ∙ ap length reading.whole in
    let len = whole_length book fact.file.content f.slots slots came in
    let short = fact.short in
    let gets : Gets book k qs n x q t ts j g f.first f.version v = record {
      quiet = quiet;
      word = word;
      value = fact.value;
      told_ = fact.told;
      value_is = or_both book (v ≡ fact.file.content) (fact.value ≡ fact.file.content) (v ≡ fact.value) (λ a b. a ∙ sym b) (whole_value book fact.file.content f.slots slots came) fact.value_is;
      short = omega (arith, len, short);
      known = fact.known;
    } in
    comes_opened book k qs n x q t ts j g f.first f.version v bytes (with_content c.cache j.file f.version v) (indexed index j.file f.chunks) _ gets
    (cached_with book c.cache j.file f.version v (had_content book k qs n x q t ts j g f.first f.version v gets) gets.known gets.short (g.kept.seats x.owner (session_at book k qs n x q t ts j g).seat (session_at book k qs n x q t ts j g).owner).kept)
    (record { state = refl; acts = refl })

-- ---- READs go out

chunk_found : (chunks : List Chunk) (o : Option ReadCall) (p : Chunk) → chunk_for chunks o ≡ Some p → (r : ReadCall) × (o ≡ Some r) × (slice_get chunks r.index ≡ Some p)
chunk_found chunks None p e = nothing_there p e
chunk_found chunks (Some r) p e = (r, refl, e)

none_of : (us : List ReadCall) → 0 < length us ⊎ (us ≡ [])
none_of [] = inr refl
none_of (u ∷ us) = inl (omega arith)

abbrev read_fetch : Fetch → Reads → List ReadCall → Fetch
read_fetch f r notes = record f { asked = r.fetch.asked; slots = r.fetch.slots; under = f.under ++ notes }

pub comes_reading : (book : Book) (k : Core) (qs : List Queue) (n : ℕ) (x : Session) (q : Queue) (t : Told) (ts : List Told) (j : Job) (g : Here book k qs n x q t ts j) (f : Fetch) (bytes : ℕ) (fact : IsFetch book x.taken j f) → MayRead book k qs n x q t ts j g f fact
    → Comes book k qs n x q t ts j g (reads_on (idle (client_at book k qs n x q t ts j g)) (client.calls_of (client_at book k qs n x q t ts j g)) j.file t.xid f bytes)
comes_reading book k qs n x q t ts j g f bytes fact may = by (is_here r.fetch) refl
  where
    h : IsSession book k.seats k.server n x q
    h = session_at book k qs n x q t ts j g

    c : client.State
    c = h.seat.client

    r : Reads
    r = reads_all c.cache c.index j.file f c.next_xid

    ran : Ran c.lbfs j.file (reads_from f c.next_xid) r
    ran = reads_run c.lbfs c.cache c.index j.file (length f.chunks - f.asked) (reads_from f c.next_xid)

    reading : IsReading book fact.file.content (read_fetch f r ran.notes)
    reading = subst (IsReading book fact.file.content) ran.fetch_is (reading_more book fact.file.content c j.file f fact.hashed may.reading may.looked)

    fetched : IsFetch book x.taken j (read_fetch f r ran.notes)
    fetched = record { file = fact.file; held = fact.held; version = fact.version; value = fact.value; told = fact.told; value_is = fact.value_is; tried = fact.tried; size = fact.size; short = fact.short; known = fact.known; count = fact.count; within = fact.within; chunks = fact.chunks; hashed = fact.hashed }

    s : Stage
    s = stage.Reading (read_fetch f r ran.notes)

    bound : r.next_xid ≤ 4294967296
    bound =
        let v = may.xids.2 in
        let a = sent_count c.lbfs j.file f.chunks c.next_xid ran.notes ran.asks r.next_xid ran.sent in
        let b = reading.asked in
        let d = fetch_few book x.taken j f fact in
        let e = ran.further in
        omega (arith, v, a, b, d, e)

    front_or : (y : ℕ) (p : Chunk) → read_chunk s y ≡ Some p → (u : ReadCall) × (slice_get f.chunks u.index ≡ Some p) × ((read_at f.under y ≡ Some u) ⊎ (read_at ran.notes y ≡ Some u))
    front_or y p e = let v = chunk_found f.chunks (read_at (f.under ++ ran.notes) y) p e in (v.0, v.2, read_front f.under ran.notes y v.0 v.1)

    ask_of : (m : ℕ) (u : ReadCall) (d : Chunk) → slice_get ran.notes m ≡ Some u → slice_get f.chunks u.index ≡ Some d → c.next_xid ≤ u.xid → IsAsked (Some (on j s)) (record { lbfs = c.lbfs; xid = u.xid; call = Read j.file d })
    ask_of m u d at chunk le = λ i p e w.
        let is = some_is (on j s) i e in
        let o = front_or u.xid p (subst (λ (v : Job). read_chunk v.stage u.xid ≡ Some p) (sym is) w) in (
          sym (ap (λ (v : Job). v.file) is),
          elim o.2 [
            | inl old ↦ let lt = may.below u.xid o.0 old in absurd (omega (arith, lt, le))
            | inr new ↦
                let found = read_found ran.notes u.xid o.0 new in
                let same = sent_same c.lbfs j.file f.chunks c.next_xid ran.notes ran.asks r.next_xid m found.0 u o.0 ran.sent at found.1 (sym found.2) in
                some_is p d (sym o.1 ∙ ap (λ (v : ReadCall). slice_get f.chunks v.index) (sym same) ∙ chunk)
          ],
        )

    fits_of : (u : ReadCall) (d : Chunk) → slice_get f.chunks u.index ≡ Some d → u.xid < r.next_xid → CallFits c.lbfs u.xid (Read j.file d)
    fits_of u d at lt =
        let l = link_at fact.file.content 0 (chunks_of fact.file.content) u.index d (row_of fact.file.content) (ap (λ v. slice_get v u.index) (sym may.reading.whole) ∙ at) in
        let b = bound in
        let wi = l.1.within in
        let st = l.1.start in
        let short = fact.short in
        (omega (arith, lt, b), file_small book k qs j.file g.kept fact.known, omega (arith, wi, st, short), l.1.most)

    goes : 0 < length (f.under ++ ran.notes) → GoesOn book k qs n x q t ts j g s r.next_xid c.forgotten ran.asks
    goes some = record {
      quiet = may.quiet;
      word = sym may.word;
      again = record {
        lease = λ y lt e. nothing_there y e;
        walk = λ y w lt e. absurd cc;
        hash = λ y o lt e. nothing_there o e;
        commit = λ y lt e. absurd cc;
        read = λ y d e2 lt e at.
            let o = front_or y d at in
            elim o.2 [
              | inl old ↦ let a = may.again y o.0 d old o.1 in (a.0, a.1, a.2, a.3 ∙ ap first_of e)
              | inr new ↦ let found = read_found ran.notes y o.0 new in let xid = found.2 in let le = sent_from c.lbfs j.file f.chunks c.next_xid ran.notes ran.asks r.next_xid found.0 o.0 ran.sent found.1 in absurd (omega (arith, le, xid, lt))
            ];
      };
      moves = λ m y.
          let a = times_map_append m y (map read_pending (f.under ++ ran.notes)) c.forgotten in
          let b = ap (λ l. times y (map m l)) (pendings_both f.under ran.notes) ∙ times_map_append m y (map read_pending f.under) (map read_pending ran.notes) in
          let d = sent_times m y c.lbfs j.file f.chunks c.next_xid ran.notes ran.asks r.next_xid ran.sent in
          let e = may.moves m y in
          let v = ap (λ l. times y (map m l)) (calls_are h.seat j g.job_is) ∙ times_map_append m y (client.pending_in j.stage) c.forgotten in
          omega (arith, a, b, d, e, v);
      rising = sent_rising c.lbfs j.file f.chunks c.next_xid ran.notes ran.asks r.next_xid ran.sent;
      asked = sent_all (IsAsked (Some (on j s))) c.lbfs j.file f.chunks c.next_xid ran.notes ran.asks r.next_xid (λ m u d at chunk le lt. ask_of m u d at chunk le) ran.sent;
      fits = sent_all (λ a. CallFits a.lbfs a.xid a.call) c.lbfs j.file f.chunks c.next_xid ran.notes ran.asks r.next_xid (λ m u d at chunk le lt. fits_of u d chunk lt) ran.sent;
      speak = sent_all (λ a. a.lbfs ≡ book.lbfs) c.lbfs j.file f.chunks c.next_xid ran.notes ran.asks r.next_xid (λ m u d at chunk le lt. speaks_at book k qs n x q t ts j g) ran.sent;
      commits = sent_all (IsCommit book x.closing x.cut (Some (on j s)) h.contents) c.lbfs j.file f.chunks c.next_xid ran.notes ran.asks r.next_xid (λ m u d at chunk le lt. tt) ran.sent;
      pieces = sent_all (IsPiece (hashed_of book.moments) h.contents) c.lbfs j.file f.chunks c.next_xid ran.notes ran.asks r.next_xid (λ m u d at chunk le lt. tt) ran.sent;
      under = sent_all (λ a. TempUnder c.next_temp a.call) c.lbfs j.file f.chunks c.next_xid ran.notes ran.asks r.next_xid (λ m u d at chunk le lt. tt) ran.sent;
      few = let v = sent_commits c.lbfs j.file f.chunks c.next_xid ran.notes ran.asks r.next_xid ran.sent in omega (arith, v);
      fetch = (fetch_on book x.taken j s (read_fetch f r ran.notes) fetched, reading);
      busy = mapped (f.under ++ ran.notes) some;
      closes = tt;
      trying = λ m y e. absurd cc;
      xids =
          let v = may.xids.2 in
          let a = sent_count c.lbfs j.file f.chunks c.next_xid ran.notes ran.asks r.next_xid ran.sent in
          let e = ran.further in
          (may.xids.0, may.xids.1, omega (arith, v, a, e));
      bounded = bound;
      orderly = opens_in_order book k qs n x q t ts j g s r.next_xid c.forgotten ran.asks may.word refl (sent_all (λ a. IsFetching a.call) c.lbfs j.file f.chunks c.next_xid ran.notes ran.asks r.next_xid (λ m u d at chunk le lt. tt) ran.sent);
    }
      where
        first_of : Stage → ℕ
        first_of (stage.Reading u) = u.first
        first_of _ = 0

        mapped : (us : List ReadCall) → 0 < length us → 0 < length (map read_pending us)
        mapped [] lt = lt
        mapped (u ∷ us) lt = omega arith

    -- where none is under way all were looked up, and all are here
    some_sent : (is_none r.fetch.under && (r.fetch.asked == length r.fetch.chunks)) ≡ false → 0 < length (f.under ++ ran.notes)
    some_sent e = elim (none_of (f.under ++ ran.notes)) [
      | inl some ↦ some
      | inr none ↦
          let gone : r.fetch.under ≡ [] = ap (λ (v : Fetch). v.under) ran.fetch_is ∙ none in
          let end = reads_end c.cache c.index j.file (length f.chunks - f.asked) (reads_from f c.next_xid) (omega arith) gone in
          let chunks = ap (λ (v : Fetch). length v.chunks) ran.fetch_is in
          let asked = reading.asked in
          let all : r.fetch.asked ≡ length r.fetch.chunks = omega (arith, end, chunks, asked) in
          absurd (not_both r.fetch.under (r.fetch.asked == length r.fetch.chunks) gone (eq-eqb r.fetch.asked (length r.fetch.chunks) all) e)
    ]
      where
        not_both : (us : List ReadCall) (b : Bool) → us ≡ [] → b ≡ true → (is_none us && b) ≡ false → ⊥
        not_both [] true none all e = absurd cc
        not_both [] false none all e = absurd cc
        not_both (u ∷ us) b none all e = absurd cc

    by : (b : Bool) → is_here r.fetch ≡ b → Comes book k qs n x q t ts j g (reads_if (record (idle c) { index = found_all c.index (looked_up f r) }) (client.calls_of c) j.file t.xid r bytes b)
    by true e =
        let here = is_none_means r.fetch.under (r.fetch.asked == length r.fetch.chunks) e in
        subst (λ (v : Fetch). Comes book k qs n x q t ts j g (opened_with (record (idle c) { index = found_all c.index (looked_up f r) }) (client.calls_of c) j.file t.xid v bytes)) (sym ran.fetch_is)
        (fetch_opened book k qs n x q t ts j g (read_fetch f r ran.notes) bytes (found_all c.index (looked_up f r)) fetched may.word may.quiet reading (ap (λ (v : Fetch). v.under) (sym ran.fetch_is) ∙ here.0) (eqb-true r.fetch.asked (length r.fetch.chunks) here.1 ∙ ap (λ (v : Fetch). length v.chunks) ran.fetch_is))
    by false e = inl (record {
      to = s;
      next = r.next_xid;
      forgotten = c.forgotten;
      cache = c.cache;
      index = found_all c.index (looked_up f r);
      sent = c.sent;
      asks = ran.asks;
      shows = goes (some_sent e);
      cached = (g.kept.seats x.owner h.seat h.owner).kept;
      state_is = ap (λ (v : Fetch). record c { next_xid = r.next_xid; task = Some (record { file = j.file; stage = stage.Reading v }); index = found_all c.index (looked_up f r) }) ran.fetch_is;
      send_is = ran.send_is;
      ended_is = refl;
    })
