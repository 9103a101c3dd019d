-- The server takes a call of which something is made at once: the frame of all such.
use Rattle.std.proofs.Common.{◌≡◌, ℕ, ◌+◌, List, [], ◌∷◌, Option, Some, None, false, refl, sym, ap, ◌∙◌, subst}
use Rattle.server_core.specs.State as server
use Rattle.kept_promise.proofs.Common.{Entry, Op, Core, CoreStep, Loss.Nothing, Session, numbered, with_numbered, Book, Reply, Ask, Told, Queue, Tree, Leasing, is_raw}
use Rattle.kept_promise.proofs.Takes.{took, put_down, Shows, kept_taken}
use Rattle.kept_promise.proofs.Turns.{Around, around_with, turned_core}
use Rattle.kept_promise.proofs.Serves.{again, put_is}
use Rattle.kept_promise.proofs.Leading.{Leads, sent_message}
use Rattle.kept_promise.proofs.Facts.{IsKept}

-- the server with this tree, this journal and these leases
abbrev pub entered_server : server.State → Leasing → Tree → List Entry → server.State
entered_server s leasing tree journal = record s { leasing = leasing; tree = tree; journal = journal }

kept_entered : (book more : Book) (k : Core) (qs : List Queue) (n : ℕ) (leasing : Leasing) (tree : Tree) (journal : List Entry) (x : Session) (q : Queue) (a : Ask) (us : List Ask) (r : Reply) (made : Option ℕ) (sessions : List Session) (after : List Queue)
    → (kept : IsKept book k qs) → (at : numbered k.sessions n ≡ Some x) → (is : numbered qs n ≡ Some q) → (owned : is_raw x ≡ false) → q.ups ≡ a ∷ us → x.hung ≡ false
    → Around k.sessions sessions n (took x a.xid (book.steps + 1)) → Around qs after n (put_down q us x.cut (record { xid = a.xid; reply = r }))
    → Shows book more k n x q a us (entered_server k.server leasing tree journal) r made (kept.sessions n x q at is owned)
    → IsKept more (turned_core k more (entered_server k.server leasing tree journal) k.seats sessions) after
kept_entered book more k qs n leasing tree journal x q a us r made sessions after kept at is owned e unhung around queues shows =
    let h = kept.sessions n x q at is owned in
    kept_taken book more k qs n leasing tree journal k.server.temps k.server.index x q a us r made sessions after kept at is owned e unhung around queues shows
    (record { pieces = h.temps; below = λ uncut. (h.temps_below uncut).1; shelf = kept.shelf; found = λ o apart m lt. refl; others = λ o i m u apart lt at is. (i, at) })

-- ---- the step

-- what the server left, and sent
abbrev pub entered_step : Core → (n : ℕ) → Leasing → Session → Ask → Tree → List Entry → List Op → (entries : List ℕ) → Reply → CoreStep
entered_step k n leasing x a tree journal ops entries r = record {
  core = record k { steps = k.steps + 1; server = entered_server k.server leasing tree journal; sessions = with_numbered k.sessions n (took x a.xid (k.steps + 1)); ops = ops; entries = entries };
  loss = Nothing;
  session = None;
  up = [];
  down = sent_message (n, record { xid = a.xid; reply = r }) ∷ [];
}

pub leads_entered : (book more : Book) (k : Core) (qs : List Queue) (n : ℕ) (leasing : Leasing) (tree : Tree) (journal : List Entry) (ops : List Op) (entries : List ℕ) (x : Session) (q : Queue) (a : Ask) (us : List Ask) (r : Reply) (made : Option ℕ) → (kept : IsKept book k qs) → (at : numbered k.sessions n ≡ Some x) → (is : numbered qs n ≡ Some q) → (owned : is_raw x ≡ false) → q.ups ≡ a ∷ us → x.hung ≡ false
    → more.moments ≡ book.moments → more.opening ≡ book.opening → more.steps ≡ k.steps + 1 → more.ops ≡ ops → more.entries ≡ entries
    → Shows book more k n x q a us (entered_server k.server leasing tree journal) r made (kept.sessions n x q at is owned) → Leads book (with_numbered qs n (record q { ups = us })) (entered_step k n leasing x a tree journal ops entries r)
leads_entered book more k qs n leasing tree journal ops entries x q a us r made kept at is owned e unhung moments opening steps ops_is entries_is shows =
    let t : Told = record { xid = a.xid; reply = r } in
    let y = took x a.xid (book.steps + 1) in
    let z = took x a.xid (k.steps + 1) in
    let same : y ≡ z = ap (λ (s : ℕ). took x a.xid (s + 1)) kept.steps in
    let s = entered_server k.server leasing tree journal in
    let sessions = with_numbered k.sessions n z in
    let around = around_with k.sessions n x z at in
    let after = with_numbered (with_numbered qs n (record q { ups = us })) n (put_down q us x.cut t) in
    let done : IsKept more (turned_core k more s k.seats sessions) after = kept_entered book more k qs n leasing tree journal x q a us r made sessions after kept at is owned e unhung (record { there = around.there ∙ ap (λ v. Some v) (sym same); others = around.others; count = around.count }) (again qs n q (put_down q us x.cut t) us is) shows in
    let core : turned_core k more s k.seats sessions ≡ (entered_step k n leasing x a tree journal ops entries r).core =
    ap (λ v. record k { server = s; seats = k.seats; sessions = sessions; steps = v; ops = more.ops; entries = more.entries }) steps
    ∙ ap (λ o. record k { server = s; seats = k.seats; sessions = sessions; steps = k.steps + 1; ops = o; entries = more.entries }) ops_is
    ∙ ap (λ o. record k { server = s; seats = k.seats; sessions = sessions; steps = k.steps + 1; ops = ops; entries = o }) entries_is in
    record {
      sends = record { replies = []; replies_fit = tt; asks = []; up_is = refl; strays = []; strays_cut = tt; recalls = []; recalls_fit = tt; tolds = (n, t) ∷ []; down_is = refl };
      more = more;
      moments = moments;
      opening = opening;
      kept = subst (λ (l : List Queue). IsKept more (entered_step k n leasing x a tree journal ops entries r).core l) (sym (put_is qs sessions n q us z t is around.there)) (subst (λ (c : Core). IsKept more c after) core done);
    }
