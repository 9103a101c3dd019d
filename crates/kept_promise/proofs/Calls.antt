-- The server takes the first call on its way, whichever it is.
use Rattle.std.proofs.Common.{inl, inr, ◌≡◌, ℕ, zero, suc, ◌+◌, ◌<◌, ◌≤◌, List, [], ◌∷◌, ◌++◌, length, Option, Some, None, Bool, false, refl, sym, ap, ◌∙◌, subst, arith, Result, Ok, Err, true, ◌⊎◌}
use Rattle.xdr_codec.specs.declared.status.Status.TheVariants as status
use Rattle.server_core.specs.State as server
use Rattle.client_state.specs.State as client
use Rattle.chunk_calls.specs.Answers.{chunks_told}
use Rattle.chunk_calls.specs.Writing.{done_unless}
use Rattle.chunk_calls.specs.Entering.{with_told}
use Rattle.temp_files.specs.Temps.{with_piece}
use Rattle.client_state.specs.declared.task.Way.TheVariants as way
use Rattle.kept_promise.proofs.Common.{slice_get, Chunk, handle_bytes, Done, Failed, Status, message_spell, MessageFits, Node, directory, file, node_of, at, makes, makes_unless, writes_unless, room_fault, Temp, temp_at, with_temp, key_of, piece_fault, range_fault, insert_entry, nat_cmp, ServerStep, Indexed, File, Core, Session, Event.Serves, CoreStep, Loss.Nothing, numbered, with_numbered, unless, hashed_of, Book, Call.Lease, Call.Hash, Call.Read, Call.Make, Call.Send, Reply, Reply.Made, Reply.Stored, Ask, Told, Queue, ask_message, told_message, call_program, reply_program, Tree, Call.Walks, Reply.Walked, happens, serves, serves_if, got_if, stands, Message, WireFault, Contains, Contains-push, name_answer, not, value_at, later, Leasing, is_raw}
use Rattle.server_core.specs.Recalling.{term_on, file_in, grants_on}
use Rattle.kept_promise.proofs.Recallings.{term_small}
use Rattle.kept_promise.proofs.Statements.{ToldFits, CallFits, IsPlain}
use Rattle.kept_promise.proofs.Lists.{some_is, nothing_there, at_end}
use Rattle.kept_promise.proofs.Messages.{Job, job, stage_word, AllAsks, Rising, AreParts, IsPiece, TempUnder, AnswerOf}
use Rattle.kept_promise.proofs.History.{onward}
use Rattle.kept_promise.proofs.Fits.{FitLaws}
use Rattle.kept_promise.proofs.Takes.{took, Answers}
use Rattle.kept_promise.proofs.Facts.{IsLeasing, IsServer, IsSession, IsKept, is_naming}
use Rattle.kept_promise.proofs.Serves.{answered, leads_answer, parsed_at, serves_as}
use Rattle.kept_promise.proofs.Tells.{hash_range, lease_reply, lease_reply_fits, lease_told, hash_reply, hash_reply_fits, hash_told, read_reply, read_reply_fits, read_told, walk_told}
use Rattle.kept_promise.proofs.Shelves.{of_inserted, of_lookup, keys_tell, keys_number, parts_put}
use Rattle.kept_promise.proofs.Shelf.{IsShelf, NoTemp, shelf_put, one_put, other_put}
use Rattle.kept_promise.proofs.Orderly.{locals_of, InPlace, Wanted, Holds, HeldIn, HoldsTemp, Orderly, DownRefused}
use Rattle.kept_promise.proofs.Ordered.{IsQuietCall, TellsNone, held_told, held_rest, held_first, place_first, refused_before}
use Rattle.kept_promise.proofs.Chunks.{chunks_are_named}
use Rattle.kept_promise.proofs.Stored.{in_store}
use Rattle.kept_promise.proofs.Fills.{room_there, holds_taken}
use Rattle.kept_promise.proofs.Leading.{IsNoted, Leads}
use Rattle.path_calls.specs.declared.walk.Walk.{Walk}
use Rattle.kept_promise.proofs.PathNames.{is_making}
use Rattle.wire.specs.declared.message.Message.TheVariants as message
use Rattle.wire.specs.declared.message.Body.TheVariants as body
use Rattle.wire.specs.declared.message.Program.TheVariants as program
use Rattle.kept_promise.proofs.WalkReplies.{walk_reply, reply_told, reply_its, called_walk}
use Rattle.server_core.specs.declared.event.Sent.{Sent}
use Rattle.kept_promise.proofs.Rights.{WasThere}
use Rattle.kept_promise.proofs.Gone.{IsStill, IsNone, still_or_none, close_gone}
use Rattle.kept_promise.proofs.OrderSteps.{up_untold}

-- the answers on their way once one was told
abbrev pub downs_then : Session → Queue → Ask → Reply → List Told
downs_then x q a r = unless x.cut q.downs (record { xid = a.xid; reply = r } ∷ [])

-- ---- what is answered with no change of the temporary files

pub same_temps : (book : Book) (k : Core) (n : ℕ) (x : Session) (q : Queue) (a : Ask) (r : Reply) (h : IsSession book k.seats k.server n x q) → IsShelf k.server.temps → (x.cut ≡ false → Wanted (onward book 1 book.ops) (job h.seat) a.xid r) → (x.cut ≡ false → (us : List Ask) → q.ups ≡ a ∷ us → HoldsTemp k.server.temps n us (downs_then x q a r) (locals_of h.seat.client) (job h.seat)) → reply_program r ≡ call_program a.call → ToldFits book.lbfs (record { xid = a.xid; reply = r })
    → (x.cut ≡ false → AnswerOf (onward book 1 book.ops) (x.taken ++ record { xid = a.xid; step = book.steps + 1 } ∷ []) x.closing (job h.seat) a.xid r) → Answers book k n x q a k.server.temps r h
same_temps book k n x q a r h shelf wanted held program fits answer = record {
  shelf = shelf;
  found = λ o apart m lt. refl;
  wanted = wanted;
  held = held;
  program = program;
  fits = fits;
  answer = answer;
  pieces = h.temps;
  below = λ uncut. (h.temps_below uncut).1;
  others = λ o i m e apart lt is key. (i, is);
}

-- ---- what is answered with one put in

pub put_temp : (book : Book) (k : Core) (n : ℕ) (x : Session) (q : Queue) (a : Ask) (r : Reply) (m : ℕ) (t : Temp) (h : IsSession book k.seats k.server n x q) → IsShelf k.server.temps → t.fd < 4294967296 → (x.cut ≡ false → Wanted (onward book 1 book.ops) (job h.seat) a.xid r) → (x.cut ≡ false → (us : List Ask) → q.ups ≡ a ∷ us → HoldsTemp (with_temp k.server.temps t) n us (downs_then x q a r) (locals_of h.seat.client) (job h.seat)) → reply_program r ≡ call_program a.call → ToldFits book.lbfs (record { xid = a.xid; reply = r })
    → (x.cut ≡ false → AnswerOf (onward book 1 book.ops) (x.taken ++ record { xid = a.xid; step = book.steps + 1 } ∷ []) x.closing (job h.seat) a.xid r)
    → m < 4294967296 → key_of t.session t.fd ≡ key_of n m → AreParts (hashed_of book.moments) (h.contents m) t.pieces → (x.cut ≡ false → m < h.seat.client.next_temp) → Answers book k n x q a (with_temp k.server.temps t) r h
put_temp book k n x q a r m t h shelf number wanted held program fits answer small keyed parts under = record {
  shelf = shelf_put k.server.temps t number shelf;
  found = λ o apart p lt. other_put k.server.temps n m o p t small lt apart keyed;
  wanted = wanted;
  held = held;
  program = program;
  fits = fits;
  answer = answer;
  pieces = λ i p e lt is key. elim (of_inserted k.server.temps (key_of t.session t.fd) t i e is) [
    | inl new ↦
        let same : m ≡ p = keys_number n m p (sym keyed ∙ sym new.0 ∙ key) in
        (subst (λ (z : ℕ). AreParts (hashed_of book.moments) (h.contents z) e.1.pieces) same (subst (λ (u : Temp). AreParts (hashed_of book.moments) (h.contents m) u.pieces) (sym new.1) parts), ap (λ (u : Temp). key_of u.session u.fd) new.1 ∙ sym new.0)
    | inr old ↦ h.temps old.0 p e lt old.1 key
  ];
  below = λ uncut i p e lt is key. elim (of_inserted k.server.temps (key_of t.session t.fd) t i e is) [
    | inl new ↦ subst (λ (z : ℕ). z < h.seat.client.next_temp) (keys_number n m p (sym keyed ∙ sym new.0 ∙ key)) (under uncut)
    | inr old ↦ (h.temps_below uncut).1 old.0 p e lt old.1 key
  ];
  others = λ o i p e apart lt is key. elim (of_inserted k.server.temps (key_of t.session t.fd) t i e is) [
    | inl new ↦ absurd (apart (keys_tell o p n m lt small (sym key ∙ new.0 ∙ keyed)))
    | inr old ↦ old
  ];
}

-- ---- each call but a commit

-- the server did this for a call
abbrev pub served : Core → (n : ℕ) → Session → (xid : ℕ) → server.State × ServerStep → CoreStep
served k n x xid r = record {
  core = record k { steps = k.steps + 1; server = r.0; sessions = with_numbered k.sessions n (took x xid (k.steps + 1)) };
  loss = Nothing;
  session = None;
  up = [];
  down = r.1.send;
}

-- what all calls are given
pub record Given (book : Book) (k : Core) (qs : List Queue) (n now : ℕ) (x : Session) (q : Queue) (a : Ask) (us : List Ask) : Type 0 where
  pub kept : IsKept book k qs
  pub at : numbered k.sessions n ≡ Some x
  pub is : numbered qs n ≡ Some q
  -- the session is a client's
  pub owned : is_raw x ≡ false
  pub first : q.ups ≡ a ∷ us
  pub unhung : x.hung ≡ false
  pub noted : IsNoted book k (Serves n now (message_spell (ask_message a)))

abbrev pub session_in : (book : Book) (k : Core) (qs : List Queue) (n now : ℕ) (x : Session) (q : Queue) (a : Ask) (us : List Ask) → Given book k qs n now x q a us → IsSession book k.seats k.server n x q
session_in book k qs n now x q a us g = g.kept.sessions n x q g.at g.is g.owned

-- the first call fits
pub first_fits : (book : Book) (k : Core) (qs : List Queue) (n now : ℕ) (x : Session) (q : Queue) (a : Ask) (us : List Ask) → (g : Given book k qs n now x q a us) → CallFits a.lbfs a.xid a.call
first_fits book k qs n now x q a us g = (subst (AllAsks (λ b. CallFits b.lbfs b.xid b.call)) g.first (session_in book k qs n now x q a us g).ups_fit).0

-- and is of the version that the clients speak
pub first_speaks : (book : Book) (k : Core) (qs : List Queue) (n now : ℕ) (x : Session) (q : Queue) (a : Ask) (us : List Ask) → (g : Given book k qs n now x q a us) → a.lbfs ≡ book.lbfs
first_speaks book k qs n now x q a us g = (subst (AllAsks (λ b. b.lbfs ≡ book.lbfs)) g.first (session_in book k qs n now x q a us g).ups_speak).0

abbrev pub rest_of : List Queue → (n : ℕ) → Queue → List Ask → List Queue
rest_of qs n q us = with_numbered qs n (record q { ups = us })

-- with these leases
leads_with : (book : Book) (k : Core) (qs : List Queue) (n now : ℕ) (leasing : Leasing) (x : Session) (q : Queue) (a : Ask) (us : List Ask) (temps : List (ℕ × Temp)) (index : Indexed) (r : Reply) → (g : Given book k qs n now x q a us) → IsLeasing leasing → Answers book k n x q a temps r (session_in book k qs n now x q a us g) → Leads book (rest_of qs n q us) (answered k n leasing x a temps index r)
leads_with book k qs n now leasing x q a us temps index r g leases shows = leads_answer book k qs n leasing x q a us temps index r leases g.kept g.at g.is g.owned g.first g.unhung shows

pub leads_by : (book : Book) (k : Core) (qs : List Queue) (n now : ℕ) (x : Session) (q : Queue) (a : Ask) (us : List Ask) (temps : List (ℕ × Temp)) (index : Indexed) (r : Reply) → (g : Given book k qs n now x q a us) → Answers book k n x q a temps r (session_in book k qs n now x q a us g) → Leads book (rest_of qs n q us) (answered k n (later k.server.leasing now) x a temps index r)
leads_by book k qs n now x q a us temps index r g shows = leads_with book k qs n now (later k.server.leasing now) x q a us temps index r g g.kept.server.leases shows

-- what is held of a session once a call was taken that leaves it as it was
pub held_still : (book : Book) (k : Core) (qs : List Queue) (n now : ℕ) (x : Session) (q : Queue) (a : Ask) (us : List Ask) → (g : Given book k qs n now x q a us) → (r : Reply) → TellsNone r → IsQuietCall a.call → x.cut ≡ false → (vs : List Ask) → q.ups ≡ a ∷ vs
    → HoldsTemp k.server.temps n vs (downs_then x q a r) (locals_of (session_in book k qs n now x q a us g).seat.client) (job (session_in book k qs n now x q a us g).seat)
held_still book k qs n now x q a us g r none quiet uncut vs e =
    let h = session_in book k qs n now x q a us g in
    let rest = held_rest k.server.temps n a vs q.downs (locals_of h.seat.client) (job h.seat) quiet (held_first book n k.server.temps q a vs h.seat e (subst (λ (b : Bool). Orderly book n k.server.temps b q h.seat) g.unhung (h.orderly uncut))) in
    held_told k.server.temps n vs q.downs (record { xid = a.xid; reply = r }) x.cut (locals_of h.seat.client) (job h.seat) none rest

-- what is held of a session whose first call is this, and that the call is in order
pub held_at : (book : Book) (k : Core) (qs : List Queue) (n now : ℕ) (x : Session) (q : Queue) (a : Ask) (us : List Ask) → (g : Given book k qs n now x q a us) → x.cut ≡ false → HoldsTemp k.server.temps n (a ∷ us) q.downs (locals_of (session_in book k qs n now x q a us g).seat.client) (job (session_in book k qs n now x q a us g).seat)
held_at book k qs n now x q a us g uncut =
    let h = session_in book k qs n now x q a us g in
    held_first book n k.server.temps q a us h.seat g.first (subst (λ (b : Bool). Orderly book n k.server.temps b q h.seat) g.unhung (h.orderly uncut))

pub place_at : (book : Book) (k : Core) (qs : List Queue) (n now : ℕ) (x : Session) (q : Queue) (a : Ask) (us : List Ask) → (g : Given book k qs n now x q a us) → x.cut ≡ false → InPlace (job (session_in book k qs n now x q a us g).seat) (locals_of (session_in book k qs n now x q a us g).seat.client) a.xid a.call
place_at book k qs n now x q a us g uncut = let h = session_in book k qs n now x q a us g in place_first book n k.server.temps x.hung q a us h.seat g.first (h.orderly uncut)

-- the calls behind it have greater xids
pub rest_above : (book : Book) (k : Core) (qs : List Queue) (n now : ℕ) (x : Session) (q : Queue) (a : Ask) (us : List Ask) → (g : Given book k qs n now x q a us) → x.cut ≡ false → (i : ℕ) (b : Ask) → slice_get us i ≡ Some b → b.xid ≡ a.xid → ⊥
rest_above book k qs n now x q a us g uncut i b at e =
    let talk = (session_in book k qs n now x q a us g).talk uncut in
    let r = (subst (λ (l : List Ask). Rising talk.floor l (session_in book k qs n now x q a us g).seat.client.next_xid) g.first talk.rising).1 in
    let le = above (a.xid + 1) us (session_in book k qs n now x q a us g).seat.client.next_xid r i b at in
    omega (arith, le, e)
  where
    above : (n : ℕ) (us : List Ask) (top : ℕ) → Rising n us top → (i : ℕ) (b : Ask) → slice_get us i ≡ Some b → n ≤ b.xid
    above n [] top r i b at = nothing_there b at
    above n (c ∷ cs) top r zero b at = subst (λ (z : Ask). n ≤ z.xid) (some_is c b at) r.0
    above n (c ∷ cs) top r (suc i) b at = let le = above (c.xid + 1) cs top r.1 i b at in let f = r.0 in omega (arith, le, f)

hash_wanted : (book : Book) (o : Option Job) (xid lbfs term : ℕ) (t : Tree) (f p : ℕ) → Wanted book o xid (hash_reply lbfs term t f p)
hash_wanted book o xid lbfs term t f p = tt

read_wanted : (book : Book) (o : Option Job) (xid : ℕ) (t : Tree) (f : ℕ) (d : Chunk) → Wanted book o xid (read_reply t f d)
read_wanted book o xid t f d = tt

-- what a GETLEASE and a GETHASH are told for a term, and the leases that they leave
abbrev pub told_term : server.State → (f : ℕ) → ℕ
told_term s f = term_on s (file_in (node_of s.tree (handle_bytes f)))

abbrev pub told_leasing : server.State → (n now f : ℕ) → Leasing
told_leasing s n now f = (grants_on (at s now) n (file_in (node_of s.tree (handle_bytes f)))).leasing

term_fits : (book : Book) (s : server.State) (f : ℕ) → IsServer book s → told_term s f < 4294967296
term_fits book s f h = term_small s.leasing.term s.waiting (file_in (node_of s.tree (handle_bytes f))) h.leases.0

-- what a GETHASH leaves of the index
abbrev pub hash_index : server.State → (lbfs f o : ℕ) → Indexed
hash_index s lbfs f o = with_told s.index (chunks_told (node_of s.tree (handle_bytes f)) (hash_range lbfs f o))

pub serve_hash : FitLaws → (book : Book) (k : Core) (qs : List Queue) (n now : ℕ) (x : Session) (q : Queue) (lbfs xid f o : ℕ) (us : List Ask) → Given book k qs n now x q (record { lbfs = lbfs; xid = xid; call = Hash f o }) us → Leads book (rest_of qs n q us) (answered k n (told_leasing k.server n now f) x (record { lbfs = lbfs; xid = xid; call = Hash f o }) k.server.temps (hash_index k.server lbfs f o) (hash_reply lbfs (told_term k.server f) k.server.tree f o))
serve_hash laws book k qs n now x q lbfs xid f o us g =
    let a : Ask = record { lbfs = lbfs; xid = xid; call = Hash f o } in
    let h = session_in book k qs n now x q a us g in
    let fits = first_fits book k qs n now x q a us g in
    let term = told_term k.server f in
    leads_with book k qs n now (told_leasing k.server n now f) x q a us k.server.temps (hash_index k.server lbfs f o) (hash_reply lbfs term k.server.tree f o) g g.kept.server.leases (same_temps book k n x q a (hash_reply lbfs term k.server.tree f o) h g.kept.shelf (λ uncut. hash_wanted (onward book 1 book.ops) (job h.seat) xid lbfs term k.server.tree f o) (λ uncut vs e. held_still book k qs n now x q a us g (hash_reply lbfs term k.server.tree f o) tt tt uncut vs e) refl (hash_reply_fits laws book k.server lbfs xid term f o g.kept.server fits.0 (term_fits book k.server f g.kept.server) fits.1) (λ uncut. hash_told laws book k qs n now x q lbfs xid term f o us h.seat g.kept h.owner (h.here uncut).0 (h.talk uncut) g.first fits (first_speaks book k qs n now x q a us g) g.noted))

pub serve_read : FitLaws → (book : Book) (k : Core) (qs : List Queue) (n now : ℕ) (x : Session) (q : Queue) (lbfs xid f : ℕ) (d : Chunk) (us : List Ask) → Given book k qs n now x q (record { lbfs = lbfs; xid = xid; call = Read f d }) us → Leads book (rest_of qs n q us) (answered k n (later k.server.leasing now) x (record { lbfs = lbfs; xid = xid; call = Read f d }) k.server.temps k.server.index (read_reply k.server.tree f d))
serve_read laws book k qs n now x q lbfs xid f d us g =
    let a : Ask = record { lbfs = lbfs; xid = xid; call = Read f d } in
    let h = session_in book k qs n now x q a us g in
    let fits = first_fits book k qs n now x q a us g in
    leads_by book k qs n now x q a us k.server.temps k.server.index (read_reply k.server.tree f d) g (same_temps book k n x q a (read_reply k.server.tree f d) h g.kept.shelf (λ uncut. read_wanted (onward book 1 book.ops) (job h.seat) xid k.server.tree f d) (λ uncut vs e. held_still book k qs n now x q a us g (read_reply k.server.tree f d) tt tt uncut vs e) refl (read_reply_fits laws book k.server xid f d g.kept.server fits.0 fits.1) (λ uncut. read_told book k qs n now x q lbfs xid f d us h.seat g.kept h.owner (h.talk uncut) g.first fits.1 g.noted))

lease_wanted : (book : Book) (o : Option Job) (xid term : ℕ) (t : Tree) (f : ℕ) → Wanted book o xid (lease_reply term t f)
lease_wanted book o xid term t f = tt

pub serve_lease : FitLaws → (book : Book) (k : Core) (qs : List Queue) (n now : ℕ) (x : Session) (q : Queue) (lbfs xid f : ℕ) (us : List Ask) → Given book k qs n now x q (record { lbfs = lbfs; xid = xid; call = Lease f }) us → Leads book (rest_of qs n q us) (answered k n (told_leasing k.server n now f) x (record { lbfs = lbfs; xid = xid; call = Lease f }) k.server.temps k.server.index (lease_reply (told_term k.server f) k.server.tree f))
serve_lease laws book k qs n now x q lbfs xid f us g =
    let a : Ask = record { lbfs = lbfs; xid = xid; call = Lease f } in
    let h = session_in book k qs n now x q a us g in
    let fits = first_fits book k qs n now x q a us g in
    let term = told_term k.server f in
    leads_with book k qs n now (told_leasing k.server n now f) x q a us k.server.temps k.server.index (lease_reply term k.server.tree f) g g.kept.server.leases (same_temps book k n x q a (lease_reply term k.server.tree f) h g.kept.shelf (λ uncut. lease_wanted (onward book 1 book.ops) (job h.seat) xid term k.server.tree f) (λ uncut vs e. held_still book k qs n now x q a us g (lease_reply term k.server.tree f) tt tt uncut vs e) refl (lease_reply_fits laws book k.server xid term f g.kept.server fits.0 (term_fits book k.server f g.kept.server) fits.1) (λ uncut. lease_told laws book k qs n now x q lbfs xid term f us h.seat g.kept h.owner (h.here uncut).0 (h.talk uncut) g.first fits (first_speaks book k qs n now x q a us g) g.noted))

-- the answer to a walk's call is all that is sent
walk_sent : FitLaws → (book : Book) (k : Core) (qs : List Queue) (n now : ℕ) (x : Session) (q : Queue) (lbfs xid : ℕ) (w : Walk) (us : List Ask) → Given book k qs n now x q (record { lbfs = lbfs; xid = xid; call = Walks w }) us → is_making w ≡ false
    → (happens k (Serves n now (message_spell (ask_message (record { lbfs = lbfs; xid = xid; call = Walks w }))))).down ≡ record { session = n; message = message.Answer xid (body.Nfs (name_answer (walk_reply k.server.tree w))) } ∷ []
walk_sent laws book k qs n now x q lbfs xid w us g none =
    let a : Ask = record { lbfs = lbfs; xid = xid; call = Walks w } in
    let h = session_in book k qs n now x q a us g in
    let fits = first_fits book k qs n now x q a us g in
    let standing : stands k.server n ≡ true = h.stands_is ∙ ap not g.unhung in
    ap (λ (t : CoreStep). t.down) (serves_as k n now (message_spell (ask_message a)) x (ask_message a) g.at g.unhung (parsed_at laws k n a fits))
    ∙ ap (λ (b : Bool). (got_if k.server b n (ask_message a) now).1.send) standing
    ∙ ap (λ (r : server.State × ServerStep). r.1.send) (called_walk (at k.server now) n xid w fits.1 none)

-- what names stand for
pub serve_walk : FitLaws → (book : Book) (k : Core) (qs : List Queue) (n now : ℕ) (x : Session) (q : Queue) (lbfs xid : ℕ) (w : Walk) (us : List Ask) → Given book k qs n now x q (record { lbfs = lbfs; xid = xid; call = Walks w }) us → is_making w ≡ false → Leads book (rest_of qs n q us) (answered k n (later k.server.leasing now) x (record { lbfs = lbfs; xid = xid; call = Walks w }) k.server.temps k.server.index (Walked (walk_reply k.server.tree w)))
serve_walk laws book k qs n now x q lbfs xid w us g none =
    let a : Ask = record { lbfs = lbfs; xid = xid; call = Walks w } in
    let r : Reply = Walked (walk_reply k.server.tree w) in
    let h = session_in book k qs n now x q a us g in
    let fits = first_fits book k qs n now x q a us g in
    leads_by book k qs n now x q a us k.server.temps k.server.index (Walked (walk_reply k.server.tree w)) g (same_temps book k n x q a (Walked (walk_reply k.server.tree w)) h g.kept.shelf (λ uncut. tt) (λ uncut vs e. held_still book k qs n now x q a us g (Walked (walk_reply k.server.tree w)) tt tt uncut vs e) (ap (λ p. program.Nfs p) (reply_its k.server.tree w fits.1 none)) (laws.names book.lbfs xid k.server.tree w (walk_reply k.server.tree w) fits.0 g.kept.server.bounded fits.1 (reply_told k.server.tree w fits.1 none)) (λ uncut. walk_told book k qs n now x q lbfs xid w us h.seat g.kept h.owner (h.here uncut).0 (h.talk uncut) g.first fits none g.noted sent))
  where
    answer : Sent
    answer = record { session = n; message = message.Answer xid (body.Nfs (name_answer (walk_reply k.server.tree w))) }

    sent : Contains (happens k (Serves n now (message_spell (ask_message (record { lbfs = lbfs; xid = xid; call = Walks w }))))).down answer
    sent = subst (λ (l : List Sent). Contains l answer) (sym (walk_sent laws book k qs n now x q lbfs xid w us g none)) (Contains-push [] answer)

-- an answer that has nothing to tell
pub serve_plain : FitLaws → (book : Book) (k : Core) (qs : List Queue) (n now : ℕ) (x : Session) (q : Queue) (a : Ask) (us : List Ask) (index : Indexed) (r : Reply) → (g : Given book k qs n now x q a us) → (x.cut ≡ false → Wanted (onward book 1 book.ops) (job (session_in book k qs n now x q a us g).seat) a.xid r) → (x.cut ≡ false → (vs : List Ask) → q.ups ≡ a ∷ vs → HoldsTemp k.server.temps n vs (downs_then x q a r) (locals_of (session_in book k qs n now x q a us g).seat.client) (job (session_in book k qs n now x q a us g).seat))
    → reply_program r ≡ call_program a.call → IsPlain r → a.xid < 4294967296 → (x.cut ≡ false → AnswerOf (onward book 1 book.ops) (x.taken ++ record { xid = a.xid; step = book.steps + 1 } ∷ []) x.closing (job (session_in book k qs n now x q a us g).seat) a.xid r) → Leads book (rest_of qs n q us) (answered k n (later k.server.leasing now) x a k.server.temps index r)
serve_plain laws book k qs n now x q a us index r g wanted held program plain lt answer = leads_by book k qs n now x q a us k.server.temps index r g (same_temps book k n x q a r (session_in book k qs n now x q a us g) g.kept.shelf wanted held program (laws.plain book.lbfs a.xid r lt plain) answer)

pub serve_make : FitLaws → (book : Book) (k : Core) (qs : List Queue) (n now : ℕ) (x : Session) (q : Queue) (lbfs xid m f : ℕ) (us : List Ask) → Given book k qs n now x q (record { lbfs = lbfs; xid = xid; call = Make m f }) us → Leads book (rest_of qs n q us) (served k n x xid (makes (at k.server now) n xid m (node_of k.server.tree (handle_bytes f))))
serve_make laws book k qs n now x q lbfs xid m f us g = by (node_of k.server.tree (handle_bytes f)) refl
  where
    a : Ask
    a = record { lbfs = lbfs; xid = xid; call = Make m f }

    h : IsSession book k.seats k.server n x q
    h = session_in book k qs n now x q a us g

    fits : CallFits lbfs xid (Make m f)
    fits = first_fits book k qs n now x q a us g

    ts : List Told
    ts = downs_then x q a (Made (Done tt))

    -- where its client is there, the file was in the tree, and the session has no temporary file
    none : x.cut ≡ false → NoTemp k.server.temps n
    none uncut =
        let p = place_at book k qs n now x q a us g uncut in
        let held = subst (HoldsTemp k.server.temps n (a ∷ us) q.downs (locals_of h.seat.client)) p.1 (held_at book k qs n now x q a us g uncut) in
        (subst (HeldIn k.server.temps n (a ∷ us) q.downs (locals_of h.seat.client p.0.file)) p.2 held).0 (0, m, f, lbfs, refl)

    node : x.cut ≡ false → IsStill k.server f ⊎ IsNone book k.server f
    node uncut =
        let p = place_at book k qs n now x q a us g uncut in
        still_or_none book k.server f g.kept.server (subst (λ (z : ℕ). WasThere book z) p.3 ((h.orderly uncut).tree p.0 p.1 (ap stage_word p.2))) fits.2

    -- it is refused where its file is gone
    refuses : (e : Status) → (x.cut ≡ false → (e ≡ status.Stale) × (value_at book f (book.steps + 1) ≡ None)) → Leads book (rest_of qs n q us) (answered k n (later k.server.leasing now) x a k.server.temps k.server.index (Made (Failed e tt)))
    refuses e gone = serve_plain laws book k qs n now x q a us k.server.index (Made (Failed e tt)) g wanted left refl tt fits.0 (λ uncut. tt)
      where
        wanted : x.cut ≡ false → Wanted (onward book 1 book.ops) (job h.seat) xid (Made (Failed e tt))
        wanted uncut =
            let p = place_at book k qs n now x q a us g uncut in
            let w = close_gone book k qs x.owner h.seat p.0 g.kept h.owner p.1 (ap stage_word p.2) (ap is_naming p.2) (ap (λ (z : ℕ). value_at book z (book.steps + 1)) p.3 ∙ (gone uncut).1) in
            (p.0, m, p.1, p.2, (w.0, w.1, w.2, w.3, (gone uncut).0))

        told : x.cut ≡ false → DownRefused (downs_then x q a (Made (Failed e tt))) xid
        told uncut = subst (λ (b : Bool). DownRefused (unless b q.downs (record { xid = xid; reply = Made (Failed e tt) } ∷ [])) xid) (sym uncut) (length q.downs, e, tt, at_end q.downs (record { xid = xid; reply = Made (Failed e tt) }))

        left : x.cut ≡ false → (vs : List Ask) → q.ups ≡ a ∷ vs → HoldsTemp k.server.temps n vs (downs_then x q a (Made (Failed e tt))) (locals_of h.seat.client) (job h.seat)
        left uncut vs first =
            let p = place_at book k qs n now x q a us g uncut in
            subst (HoldsTemp k.server.temps n vs (downs_then x q a (Made (Failed e tt))) (locals_of h.seat.client)) (sym p.1)
            (subst (HeldIn k.server.temps n vs (downs_then x q a (Made (Failed e tt))) (locals_of h.seat.client p.0.file)) (sym p.2)
            ((λ u. none uncut), (λ u d. absurd (d (told uncut))), λ d. none uncut))

    -- no answer to it was on its way
    unrefused : x.cut ≡ false → DownRefused ts xid → ⊥
    unrefused uncut d =
        let old = refused_before q.downs (record { xid = xid; reply = Made (Done tt) }) xid tt (subst (λ (b : Bool). DownRefused (unless b q.downs (record { xid = xid; reply = Made (Done tt) } ∷ [])) xid) uncut d) in
        up_untold n k.server.waiting q x.hung h.seat.client.next_xid (client.calls_of h.seat.client) 0 old.0 a (record { xid = xid; reply = Made (Failed old.1 old.2) }) (h.talk uncut).balanced (ap (λ (l : List Ask). slice_get l 0) g.first) old.3 refl

    made : x.cut ≡ false → Wanted (onward book 1 book.ops) (job h.seat) xid (Made (Done tt))
    made uncut = let p = place_at book k qs n now x q a us g uncut in (p.0, m, p.1, p.2, tt)

    held : (t : Temp) → t.session ≡ n → t.fd ≡ m → t.pieces ≡ [] → x.cut ≡ false → (vs : List Ask) → q.ups ≡ a ∷ vs → HoldsTemp (with_temp k.server.temps t) n vs ts (locals_of h.seat.client) (job h.seat)
    held t session number empty uncut vs e =
        let p = place_at book k qs n now x q a us g uncut in
        let same : us ≡ vs = tails (sym g.first ∙ e) in
        subst (λ (l : List Ask). HoldsTemp (with_temp k.server.temps t) n l ts (locals_of h.seat.client) (job h.seat)) same
        (subst (HoldsTemp (with_temp k.server.temps t) n us ts (locals_of h.seat.client)) (sym p.1)
        (subst (HeldIn (with_temp k.server.temps t) n us ts (locals_of h.seat.client p.0.file)) (sym p.2)
        ((λ u. absurd (rest_above book k qs n now x q a us g uncut u.0 (record { lbfs = u.3; xid = xid; call = Make u.1 u.2 }) u.4 refl)), (λ u d. (t, one_put k.server.temps n m t fits.1 session number (λ o lt apart. none uncut o lt), empty)), λ d. absurd (unrefused uncut d))))
      where
        tails : {b c : Ask} {us vs : List Ask} → b ∷ us ≡ c ∷ vs → us ≡ vs
        tails e = cc

    faults : (o : Option Status) (t : ℕ) → room_fault k.server.temps n m ≡ o → Leads book (rest_of qs n q us) (served k n x xid (makes_unless (at k.server now) n xid m t o))
    faults (Some e) t is = refuses e (λ uncut. nothing_there e (sym (room_there k.server.temps n m fits.1 g.kept.shelf (none uncut)) ∙ is))
    faults None t is =
        let w : Temp = record { session = n; fd = m; target = t; pieces = [] } in
        leads_by book k qs n now x q a us (with_temp k.server.temps w) k.server.index (Made (Done tt)) g (put_temp book k n x q a (Made (Done tt)) m w h g.kept.shelf fits.1 made (held w refl refl refl) refl (laws.plain book.lbfs xid (Made (Done tt)) fits.0 tt) (λ uncut. tt) fits.1 refl tt (λ uncut. (subst (AllAsks (λ b. TempUnder h.seat.client.next_temp b.call)) g.first (h.temps_below uncut).0).0))

    by : (nd : Result Node Status) → node_of k.server.tree (handle_bytes f) ≡ nd → Leads book (rest_of qs n q us) (served k n x xid (makes (at k.server now) n xid m nd))
    by (Err e) is = refuses e (λ uncut. elim (node uncut) [
      | inl still ↦ absurd (not_err e still.0 (sym is ∙ still.2))
      | inr gone ↦ (same_err e (sym is ∙ gone.1), gone.2)
    ])
      where
        not_err : (e : Status) (z : File) → Err e ≡ Ok (file z) → ⊥
        not_err e z q = absurd cc

        same_err : (e : Status) → ◌≡◌ {A = Result Node Status} (Err e) (Err status.Stale) → e ≡ status.Stale
        same_err e q = cc
    by (Ok directory) is = refuses status.IsDir (λ uncut. elim (node uncut) [
      | inl still ↦ absurd (not_root still.0 (sym is ∙ still.2))
      | inr gone ↦ absurd (not_gone (sym is ∙ gone.1))
    ])
      where
        not_root : (z : File) → ◌≡◌ {A = Result Node Status} (Ok directory) (Ok (file z)) → ⊥
        not_root z q = absurd cc

        not_gone : ◌≡◌ {A = Result Node Status} (Ok directory) (Err status.Stale) → ⊥
        not_gone q = absurd cc
    by (Ok (file z)) is = faults (room_fault k.server.temps n m) z.id refl

pub serve_send : FitLaws → (book : Book) (k : Core) (qs : List Queue) (n now : ℕ) (x : Session) (q : Queue) (lbfs xid m start : ℕ) (bytes : List ℕ) (us : List Ask) → Given book k qs n now x q (record { lbfs = lbfs; xid = xid; call = Send m start bytes }) us
    → Leads book (rest_of qs n q us) (served k n x xid (writes_unless (at k.server now) n xid (record { lbfs = lbfs; fd = m; offset = start; bytes = bytes }) (temp_at k.server.temps n m) (piece_fault (temp_at k.server.temps n m) start (length bytes))))
serve_send laws book k qs n now x q lbfs xid m start bytes us g = by (temp_at k.server.temps n m) (piece_fault (temp_at k.server.temps n m) start (length bytes)) refl refl
  where
    a : Ask
    a = record { lbfs = lbfs; xid = xid; call = Send m start bytes }

    h : IsSession book k.seats k.server n x q
    h = session_in book k qs n now x q a us g

    fits : CallFits lbfs xid (Send m start bytes)
    fits = first_fits book k qs n now x q a us g

    -- where its client is there, the bytes of a chunk are put into the one temporary file, which had not held them
    goes : x.cut ≡ false → (t : Temp) × (temp_at k.server.temps n m ≡ Some t) × (piece_fault (temp_at k.server.temps n m) start (length bytes) ≡ None) × (t.session ≡ n) × (t.fd ≡ m) × HoldsTemp (with_temp k.server.temps (with_piece t start bytes)) n us q.downs (locals_of h.seat.client) (job h.seat)
    goes uncut =
        let p = place_at book k qs n now x q a us g uncut in
        let s = p.0 in
        let v = locals_of h.seat.client s.of.file in
        let held = subst (HeldIn k.server.temps n (a ∷ us) q.downs v) s.at (subst (HoldsTemp k.server.temps n (a ∷ us) q.downs (locals_of h.seat.client)) s.is (held_at book k qs n now x q a us g uncut)) in
        let is = in_store book k.seats k.server n x q h uncut xid way.Whole s in
        let t = held.0 in
        let one = held.1 in
        let chunk = p.2 in
        let c = chunk.0 in
        let at_chunk = ap (λ (l : List Chunk). slice_get l s.call.index) (sym is.chunks) ∙ chunk.1 in
        let taken = holds_taken v lbfs xid m start bytes us q.downs s.store t.pieces is.place s.call c is.short is.there is.same is.inside s.way at_chunk is.unique (λ u. rest_above book k qs n now x q a us g uncut u.0 (record { lbfs = u.4; xid = xid; call = Send u.1 u.2 u.3 }) u.5 refl) held.2 in
        let found : temp_at k.server.temps n m ≡ Some t = ap (λ (z : ℕ). temp_at k.server.temps n z) (sym p.1) ∙ one.3 in
        let count : length bytes ≡ c.len = ap (λ (l : List ℕ). length l) chunk.3 ∙ (chunks_are_named v s.call.index c at_chunk).1 in
        let none : piece_fault (temp_at k.server.temps n m) start (length bytes) ≡ None = ap (λ (o : Option Temp). piece_fault o start (length bytes)) found ∙ ap (λ (z : ℕ). range_fault t.pieces z (length bytes)) chunk.2 ∙ ap (range_fault t.pieces c.start) count ∙ taken.0 in
        let filled : Holds v us q.downs s.store (insert_entry nat_cmp t.pieces start bytes) = subst (λ (z : ℕ). Holds v us q.downs s.store (insert_entry nat_cmp t.pieces z bytes)) (sym chunk.2) (subst (λ (l : List ℕ). Holds v us q.downs s.store (insert_entry nat_cmp t.pieces c.start l)) (sym chunk.3) taken.1) in
        (t, found, none, one.1, one.2 ∙ p.1, subst (HoldsTemp (with_temp k.server.temps (with_piece t start bytes)) n us q.downs (locals_of h.seat.client)) (sym s.is) (subst (HeldIn (with_temp k.server.temps (with_piece t start bytes)) n us q.downs v) (sym s.at) (with_piece t start bytes, one_put k.server.temps n s.store.temp (with_piece t start bytes) one.0 one.1 one.2 one.4, filled)))

    plain : (o : Option Status) → (x.cut ≡ false → ⊥) → Leads book (rest_of qs n q us) (answered k n (later k.server.leasing now) x a k.server.temps k.server.index (Stored (done_unless o)))
    plain o never = serve_plain laws book k qs n now x q a us k.server.index (Stored (done_unless o)) g (λ uncut. absurd (never uncut)) (λ uncut. absurd (never uncut)) refl tt fits.0 (λ uncut. tt)

    by : (t : Option Temp) (o : Option Status) → temp_at k.server.temps n m ≡ t → piece_fault (temp_at k.server.temps n m) start (length bytes) ≡ o → Leads book (rest_of qs n q us) (served k n x xid (writes_unless (at k.server now) n xid (record { lbfs = lbfs; fd = m; offset = start; bytes = bytes }) t o))
    by None o found fault = plain o (λ uncut. let w = goes uncut in nothing_there w.0 (sym found ∙ w.1))
    by (Some t) (Some s) found fault = plain (Some s) (λ uncut. nothing_there s (sym (goes uncut).2 ∙ fault))
    by (Some t) None found fault =
        let e = of_lookup k.server.temps (key_of n m) t found in
        let held = h.temps e.0 m e.1 fits.1 e.2 e.3 in
        let parts : AreParts (hashed_of book.moments) (h.contents m) t.pieces = subst (λ (u : Temp). AreParts (hashed_of book.moments) (h.contents m) u.pieces) e.4 held.0 in
        let keyed : key_of t.session t.fd ≡ key_of n m = ap (λ (u : Temp). key_of u.session u.fd) (sym e.4) ∙ held.1 ∙ e.3 in
        let small : t.fd < 4294967296 = subst (λ (u : Temp). u.fd < 4294967296) e.4 (g.kept.shelf.1 e.0 e.1 e.2).1 in
        leads_by book k qs n now x q a us (with_temp k.server.temps (with_piece t start bytes)) k.server.index (Stored (Done tt)) g (put_temp book k n x q a (Stored (Done tt)) m (with_piece t start bytes) h g.kept.shelf small (λ uncut. ((place_at book k qs n now x q a us g uncut).0, refl)) (λ uncut vs e2. after uncut vs e2 t found) refl (laws.plain book.lbfs xid (Stored (Done tt)) fits.0 tt) (λ uncut. tt) fits.1 keyed (parts_put (hashed_of book.moments) (h.contents m) t.pieces start bytes parts (inl (subst (AllAsks (IsPiece (hashed_of book.moments) h.contents)) g.first h.pieces).0)) (λ uncut. (subst (AllAsks (λ b. TempUnder h.seat.client.next_temp b.call)) g.first (h.temps_below uncut).0).0))
      where
        tails : {b c : Ask} {us vs : List Ask} → b ∷ us ≡ c ∷ vs → us ≡ vs
        tails e = cc

        after : x.cut ≡ false → (vs : List Ask) → q.ups ≡ a ∷ vs → (t : Temp) → temp_at k.server.temps n m ≡ Some t → HoldsTemp (with_temp k.server.temps (with_piece t start bytes)) n vs (downs_then x q a (Stored (Done tt))) (locals_of h.seat.client) (job h.seat)
        after uncut vs e t found =
            let w = goes uncut in
            let same : us ≡ vs = tails (sym g.first ∙ e) in
            held_told (with_temp k.server.temps (with_piece t start bytes)) n vs q.downs (record { xid = xid; reply = Stored (Done tt) }) x.cut (locals_of h.seat.client) (job h.seat) tt
            (subst (λ (l : List Ask). HoldsTemp (with_temp k.server.temps (with_piece t start bytes)) n l q.downs (locals_of h.seat.client) (job h.seat)) same (subst (λ (z : Temp). HoldsTemp (with_temp k.server.temps (with_piece z start bytes)) n us q.downs (locals_of h.seat.client) (job h.seat)) (some_is w.0 t (sym w.1 ∙ found)) w.5))
