-- The server takes the name of a chunk: it knows its bytes by its index, or not.
use Rattle.std.proofs.Common.{inl, inr, ◌≡◌, ℕ, ◌+◌, ◌<◌, List, [], ◌∷◌, ◌++◌, length, take, drop, Option, Some, None, Bool, true, false, refl, sym, ap, ◌∙◌, subst, arith, eqb-true, map}
use Rattle.std.proofs.lemmas.Slice.Eq.{bytes_eq-Decides}
use Rattle.chunk_index.specs.Index.{key_of as digest_key, place_of, found}
use Rattle.chunk_index.specs.declared.place.Place.{Place}
use Rattle.hash_calls.specs.declared.call.CondPiece.{CondPiece}
use Rattle.hash_calls.specs.declared.message.LbProc.TheVariants as lb_proc
use Rattle.wire.specs.declared.message.Program.TheVariants as program
use Rattle.xdr_codec.specs.declared.status.Status.TheVariants as status
use Rattle.chunk_calls.specs.Files as the_files
use Rattle.server_core.specs.Closing.{looked_up}
use Rattle.server_core.specs.Hashed.{bytes_compared, listed}
use Rattle.chunk_calls.specs.Indexing.{bytes_of, wanted_bytes, with_digest}
use Rattle.temp_files.specs.Temps.{with_piece}
use Rattle.client_state.specs.State as client
use Rattle.client_state.specs.declared.task.Way.TheVariants as way
use Rattle.trace_replay.specs.Trail.{served_hashed}
use Rattle.kept_promise.proofs.Common.{nat_tests, slice_get, ◌==◌, nat_le, bytes_eq, Contains, sha1, if◌then◌else◌, Chunk, chunk_bytes, Done, Failed, Status, at, cond_fault, names, names_unless, names_bytes, bytes_known, bytes_found, Indexed, Temp, temp_at, with_temp, key_of, File, Core, Session, unless, hashed_of, Book, Or, Call.Name, Call.Send, Reply.Named, Ask, Told, Queue, Tree, later, ask_message, message_spell}
use Rattle.kept_promise.proofs.Statements.{CallFits}
use Rattle.kept_promise.proofs.Lists.{some_is, nothing_there}
use Rattle.kept_promise.proofs.Keys.{times, times_append, times_head, own, key, change_key, ask_key, told_key, there_by}
use Rattle.kept_promise.proofs.Messages.{job, AllAsks, IsNamed, IsPartOf, AreParts, IsPiece, TempUnder}
use Rattle.kept_promise.proofs.Growth.{bytes_or, or_map}
use Rattle.kept_promise.proofs.Fits.{FitLaws}
use Rattle.kept_promise.proofs.Shelf.{OneTemp, one_put}
use Rattle.kept_promise.proofs.Shelves.{of_lookup, parts_put}
use Rattle.kept_promise.proofs.Orderly.{locals_of, IsStore, known_reply, DownKnown, HeldIn, HoldsTemp}
use Rattle.kept_promise.proofs.Chunks.{bytes_count}
use Rattle.kept_promise.proofs.OrderSteps.{keys_once}
use Rattle.kept_promise.proofs.Stored.{in_store}
use Rattle.kept_promise.proofs.Fills.{name_free, holds_known}
use Rattle.kept_promise.proofs.Facts.{IsSession}
use Rattle.kept_promise.proofs.Serves.{answered, parsed, contains_at}
use Rattle.kept_promise.proofs.Calls.{downs_then, put_temp, served, Given, session_in, first_fits, rest_of, leads_by, held_still, held_at, place_at, rest_above, serve_plain}
use Rattle.kept_promise.proofs.Leading.{Leads}
use Rattle.kept_promise.proofs.Turns.{owned_hashed}

-- ---- bytes that are known

abbrev pub name_piece : (lbfs temp : ℕ) → Chunk → CondPiece
name_piece lbfs m d = record { lbfs = lbfs; fd = m; offset = d.start; count = d.len; digest = d.digest }

-- those of a place are as many as it has
bytes_many : (f : Option File) (p : Place) (bytes : List ℕ) → bytes_of f p ≡ Some bytes → length bytes ≡ p.count
bytes_many None p bytes e = nothing_there bytes e
bytes_many (Some f) p bytes e = by (nat_le (p.offset + p.count) (length f.content)) refl e
  where
    by : (b : Bool) → nat_le (p.offset + p.count) (length f.content) ≡ b → (if b then Some (take p.count (drop p.offset f.content)) else None) ≡ Some bytes → length bytes ≡ p.count
    by true le e = ap (λ (l : List ℕ). length l) (sym (some_is (take p.count (drop p.offset f.content)) bytes e)) ∙ bytes_count f.content p.offset p.count (grind (arith, nat_tests, le))
    by false le e = nothing_there bytes e

wanted_many : (f : Option File) (p : Place) (n : ℕ) (bytes : List ℕ) → wanted_bytes f p n ≡ Some bytes → length bytes ≡ n
wanted_many f p n bytes e = by (p.count == n) refl e
  where
    by : (b : Bool) → (p.count == n) ≡ b → (if b then bytes_of f p else None) ≡ Some bytes → length bytes ≡ n
    by true same e = bytes_many f p bytes e ∙ eqb-true p.count n same
    by false same e = nothing_there bytes e

found_many : (t : Tree) (a : CondPiece) (p : Option Place) (bytes : List ℕ) → bytes_found t a p ≡ Some bytes → length bytes ≡ a.count
found_many t a None bytes e = nothing_there bytes e
found_many t a (Some p) bytes e = wanted_many (the_files.file_at t p.file) p a.count bytes e

-- they were compared, and have the digest
digest_is : (digest : List ℕ) (o : Option (List ℕ)) (bytes : List ℕ) → with_digest digest o ≡ Some bytes → (o ≡ Some bytes) × (sha1 bytes ≡ digest)
digest_is digest None bytes e = nothing_there bytes e
digest_is digest (Some b) bytes e = by (bytes_eq (sha1 b) digest) refl e
  where
    by : (t : Bool) → bytes_eq (sha1 b) digest ≡ t → (if t then Some b else None) ≡ Some bytes → (Some b ≡ Some bytes) × (sha1 bytes ≡ digest)
    by true same e = (e, ap sha1 (sym (some_is b bytes e)) ∙ (bytes_eq-Decides (sha1 b) digest).0 same)
    by false same e = nothing_there bytes e

-- ---- a name on its way

-- it has no answer yet
not_known : (book : Book) (k : Core) (qs : List Queue) (n now : ℕ) (x : Session) (q : Queue) (lbfs xid m : ℕ) (d : Chunk) (us : List Ask) → (g : Given book k qs n now x q (record { lbfs = lbfs; xid = xid; call = Name m d }) us) → x.cut ≡ false → DownKnown q.downs xid → ⊥
not_known book k qs n now x q lbfs xid m d us g uncut z =
    let seat = (session_in book k qs n now x q (record { lbfs = lbfs; xid = xid; call = Name m d }) us g).seat in
    let talk = (session_in book k qs n now x q (record { lbfs = lbfs; xid = xid; call = Name m d }) us g).talk uncut in
    let y = key xid (program.Lb lb_proc.CondWrite) in
    let a = talk.balanced.most y in
    let b = talk.balanced.once xid in
    let c = keys_once xid (program.Lb lb_proc.CondWrite) (client.calls_of seat.client) in
    let e1 = ap (λ (l : List Ask). times y (map ask_key l ++ (map change_key (own n k.server.waiting) ++ map told_key q.downs))) g.first in
    let e2 = times_append y (map ask_key (record { lbfs = lbfs; xid = xid; call = Name m d } ∷ us)) (map change_key (own n k.server.waiting) ++ map told_key q.downs) in
    let e3 = times_head y (map ask_key us) in
    let e4 = times_append y (map change_key (own n k.server.waiting)) (map told_key q.downs) in
    let e5 = there_by told_key q.downs z.0 (record { xid = xid; reply = known_reply }) z.1 in
    omega (arith, a, b, c, e1, e2, e3, e4, e5)

-- where its client is there, the name is that of a chunk under way, and the one temporary file has not held it
pub record IsInOrder (book : Book) (k : Core) (qs : List Queue) (n now : ℕ) (x : Session) (q : Queue) (lbfs xid m : ℕ) (d : Chunk) (us : List Ask) (g : Given book k qs n now x q (record { lbfs = lbfs; xid = xid; call = Name m d }) us) : Type 0 where
  pub store : IsStore (job (session_in book k qs n now x q (record { lbfs = lbfs; xid = xid; call = Name m d }) us g).seat) xid way.Named
  pub temp : Temp
  pub found : temp_at k.server.temps n m ≡ Some temp
  pub free : cond_fault (name_piece lbfs m d) (Some temp) ≡ None
  pub filled : (bytes : List ℕ) → length bytes ≡ d.len → HoldsTemp (with_temp k.server.temps (with_piece temp d.start bytes)) n us (q.downs ++ record { xid = xid; reply = known_reply } ∷ []) (locals_of (session_in book k qs n now x q (record { lbfs = lbfs; xid = xid; call = Name m d }) us g).seat.client) (job (session_in book k qs n now x q (record { lbfs = lbfs; xid = xid; call = Name m d }) us g).seat)

in_order : (book : Book) (k : Core) (qs : List Queue) (n now : ℕ) (x : Session) (q : Queue) (lbfs xid m : ℕ) (d : Chunk) (us : List Ask) → (g : Given book k qs n now x q (record { lbfs = lbfs; xid = xid; call = Name m d }) us) → x.cut ≡ false → IsInOrder book k qs n now x q lbfs xid m d us g
in_order book k qs n now x q lbfs xid m d us g uncut =
    let a : Ask = record { lbfs = lbfs; xid = xid; call = Name m d } in
    let h = session_in book k qs n now x q a us g in
    let p = place_at book k qs n now x q a us g uncut in
    let s = p.0 in
    let v = locals_of h.seat.client s.of.file in
    let held = subst (HeldIn k.server.temps n (a ∷ us) q.downs v) s.at (subst (HoldsTemp k.server.temps n (a ∷ us) q.downs (locals_of h.seat.client)) s.is (held_at book k qs n now x q a us g uncut)) in
    let is = in_store book k.seats k.server n x q h uncut xid way.Named s in
    let chunk = ap (λ (l : List Chunk). slice_get l s.call.index) (sym is.chunks) ∙ p.2 in
    let t : Temp = held.0 in
    let one : OneTemp k.server.temps n s.store.temp t = held.1 in
    let unknown : DownKnown q.downs xid → ⊥ = not_known book k qs n now x q lbfs xid m d us g uncut in
    let none = held.2.by_name is.place s.call d is.there s.way (λ z. unknown (subst (λ (y : ℕ). DownKnown q.downs y) is.same z)) chunk in
    let ts : List Told = q.downs ++ record { xid = xid; reply = known_reply } ∷ [] in
    record {
      store = s;
      temp = t;
      found = ap (λ (z : ℕ). temp_at k.server.temps n z) (sym p.1) ∙ one.3;
      free = name_free lbfs v held.2.has s.call.index d t m is.short chunk none held.2.pieces_is;
      filled = λ bytes count.
          let w : Temp = with_piece t d.start bytes in
          let fills = holds_known v lbfs xid m bytes us q.downs s.store t.pieces is.place s.call d is.short is.there is.same is.inside s.way chunk is.unique count (λ u. rest_above book k qs n now x q a us g uncut u.0 (record { lbfs = u.4; xid = xid; call = Send u.1 u.2 u.3 }) u.5 refl) unknown held.2 in
          subst (HoldsTemp (with_temp k.server.temps w) n us ts (locals_of h.seat.client)) (sym s.is) (subst (HeldIn (with_temp k.server.temps w) n us ts v) (sym s.at) (w, one_put k.server.temps n s.store.temp w one.0 one.1 one.2 one.4, fills));
    }

-- ---- a name is taken

pub serve_name : FitLaws → (book : Book) (k : Core) (qs : List Queue) (n now : ℕ) (x : Session) (q : Queue) (lbfs xid m : ℕ) (d : Chunk) (us : List Ask) → Given book k qs n now x q (record { lbfs = lbfs; xid = xid; call = Name m d }) us
    → Leads book (rest_of qs n q us) (served k n x xid (names (at k.server now) n xid (name_piece lbfs m d) (temp_at k.server.temps n m)))
serve_name laws book k qs n now x q lbfs xid m d us g = by (temp_at k.server.temps n m) (cond_fault c (temp_at k.server.temps n m)) refl refl
  where
    a : Ask
    a = record { lbfs = lbfs; xid = xid; call = Name m d }

    c : CondPiece
    c = name_piece lbfs m d

    h : IsSession book k.seats k.server n x q
    h = session_in book k qs n now x q a us g

    fits : CallFits lbfs xid (Name m d)
    fits = first_fits book k qs n now x q a us g

    known : Option (List ℕ)
    known = bytes_known k.server.tree c (place_of k.server.index.pairs (digest_key d.digest))

    index : Indexed
    index = found k.server.index (digest_key d.digest)

    order : x.cut ≡ false → IsInOrder book k qs n now x q lbfs xid m d us g
    order uncut = in_order book k qs n now x q lbfs xid m d us g uncut

    no_fault : x.cut ≡ false → cond_fault c (temp_at k.server.temps n m) ≡ None
    no_fault uncut = let o = order uncut in ap (cond_fault c) o.found ∙ o.free

    -- where its client is there it is not refused
    refuses : (e : Status) (left : Indexed) → (x.cut ≡ false → ⊥) → Leads book (rest_of qs n q us) (answered k n (later k.server.leasing now) x a k.server.temps left (Named (Failed e tt)))
    refuses e left never = serve_plain laws book k qs n now x q a us left (Named (Failed e tt)) g (λ uncut. absurd (never uncut)) (λ uncut. absurd (never uncut)) refl tt fits.0 (λ uncut. tt)

    unknown : Leads book (rest_of qs n q us) (answered k n (later k.server.leasing now) x a k.server.temps index (Named (Failed status.HashNotFound tt)))
    unknown = serve_plain laws book k qs n now x q a us index (Named (Failed status.HashNotFound tt)) g (λ uncut. ((order uncut).store, inr refl)) (λ uncut vs e. held_still book k qs n now x q a us g (Named (Failed status.HashNotFound tt)) tt tt uncut vs e) refl tt fits.0 (λ uncut. tt)

    -- bytes that are known were compared, and are the chunk's, or two collide
    compared : (bytes : List ℕ) → cond_fault c (temp_at k.server.temps n m) ≡ None → known ≡ Some bytes → Contains (hashed_of book.moments) bytes
    compared bytes none is =
        let there = (digest_is d.digest (bytes_found k.server.tree c (place_of k.server.index.pairs (digest_key d.digest))) bytes is).0 in
        g.noted.hashed bytes (subst (λ (l : List (List ℕ)). Contains l bytes) (sym (owned_hashed k n now (message_spell (ask_message a)) x g.at g.owned ∙ ap (served_hashed k n) (parsed laws a fits) ∙ ap (bytes_compared k.server c) none ∙ ap listed there)) (contains_at (bytes ∷ []) 0 bytes refl))

    parts : (bytes : List ℕ) → cond_fault c (temp_at k.server.temps n m) ≡ None → known ≡ Some bytes → length bytes ≡ d.len → Or book (IsPartOf (h.contents m) d.start bytes)
    parts bytes none is count =
        let named : IsNamed (hashed_of book.moments) (h.contents m) d = (subst (AllAsks (IsPiece (hashed_of book.moments) h.contents)) g.first h.pieces).0 in
        let same = (digest_is d.digest (bytes_found k.server.tree c (place_of k.server.index.pairs (digest_key d.digest))) bytes is).1 in
        or_map book _ _ (λ e. e ∙ ap (λ (z : ℕ). take z (drop d.start (h.contents m))) (sym count)) (bytes_or book bytes (chunk_bytes (h.contents m) d) (compared bytes none is) named.there (same ∙ named.digest))

    -- its bytes are put into the temporary file
    takes : (t : Temp) (bytes : List ℕ) → temp_at k.server.temps n m ≡ Some t → cond_fault c (temp_at k.server.temps n m) ≡ None → known ≡ Some bytes → Leads book (rest_of qs n q us) (answered k n (later k.server.leasing now) x a (with_temp k.server.temps (with_piece t d.start bytes)) index (Named (Done tt)))
    takes t bytes found none is =
        let count : length bytes ≡ d.len = found_many k.server.tree c (place_of k.server.index.pairs (digest_key d.digest)) bytes (digest_is d.digest (bytes_found k.server.tree c (place_of k.server.index.pairs (digest_key d.digest))) bytes is).0 in
        let e = of_lookup k.server.temps (key_of n m) t found in
        let held = h.temps e.0 m e.1 fits.1 e.2 e.3 in
        let pieces : AreParts (hashed_of book.moments) (h.contents m) t.pieces = subst (λ (u : Temp). AreParts (hashed_of book.moments) (h.contents m) u.pieces) e.4 held.0 in
        let keyed : key_of t.session t.fd ≡ key_of n m = ap (λ (u : Temp). key_of u.session u.fd) (sym e.4) ∙ held.1 ∙ e.3 in
        let small : t.fd < 4294967296 = subst (λ (u : Temp). u.fd < 4294967296) e.4 (g.kept.shelf.1 e.0 e.1 e.2).1 in
        let w : Temp = with_piece t d.start bytes in
        leads_by book k qs n now x q a us (with_temp k.server.temps w) index (Named (Done tt)) g (put_temp book k n x q a (Named (Done tt)) m w h g.kept.shelf small (λ uncut. ((order uncut).store, inl refl)) (λ uncut vs e2. after uncut vs e2 count) refl (laws.plain book.lbfs xid (Named (Done tt)) fits.0 tt) (λ uncut. tt) fits.1 keyed (parts_put (hashed_of book.moments) (h.contents m) t.pieces d.start bytes pieces (parts bytes none is count)) (λ uncut. (subst (AllAsks (λ b. TempUnder h.seat.client.next_temp b.call)) g.first (h.temps_below uncut).0).0))
      where
        tails : {b c : Ask} {us vs : List Ask} → b ∷ us ≡ c ∷ vs → us ≡ vs
        tails e = cc

        after : x.cut ≡ false → (vs : List Ask) → q.ups ≡ a ∷ vs → length bytes ≡ d.len → HoldsTemp (with_temp k.server.temps (with_piece t d.start bytes)) n vs (downs_then x q a (Named (Done tt))) (locals_of h.seat.client) (job h.seat)
        after uncut vs e count =
            let o = order uncut in
            let ts : List Told = q.downs ++ record { xid = xid; reply = known_reply } ∷ [] in
            let same : us ≡ vs = tails (sym g.first ∙ e) in
            let filled = subst (λ (z : Temp). HoldsTemp (with_temp k.server.temps (with_piece z d.start bytes)) n us ts (locals_of h.seat.client) (job h.seat)) (some_is o.temp t (sym o.found ∙ found)) (o.filled bytes count) in
            subst (λ (b : Bool). HoldsTemp (with_temp k.server.temps (with_piece t d.start bytes)) n vs (unless b q.downs (record { xid = xid; reply = known_reply } ∷ [])) (locals_of h.seat.client) (job h.seat)) (sym uncut) (subst (λ (l : List Ask). HoldsTemp (with_temp k.server.temps (with_piece t d.start bytes)) n l ts (locals_of h.seat.client) (job h.seat)) same filled)

    piece_by : (t : Temp) (b : Option (List ℕ)) → temp_at k.server.temps n m ≡ Some t → cond_fault c (temp_at k.server.temps n m) ≡ None → known ≡ b → Leads book (rest_of qs n q us) (served k n x xid (names_bytes (looked_up (at k.server now) c) n xid c (Some t) b))
    piece_by t None found none is = unknown
    piece_by t (Some b) found none is = takes t b found none is

    by : (t : Option Temp) (o : Option Status) → temp_at k.server.temps n m ≡ t → cond_fault c (temp_at k.server.temps n m) ≡ o → Leads book (rest_of qs n q us) (served k n x xid (names_unless (at k.server now) n xid c t o))
    by t (Some e) found fault = refuses e k.server.index (λ uncut. nothing_there e (sym (no_fault uncut) ∙ fault))
    by None None found fault = refuses status.HashNotFound index (λ uncut. nothing_there (order uncut).temp (sym found ∙ (order uncut).found))
    by (Some t) None found fault = piece_by t known found fault refl
