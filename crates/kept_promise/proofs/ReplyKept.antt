-- An answer to a RECALL is taken by the server, whether it is waited for or not: its leases alone may change.
use Rattle.std.proofs.Common.{◌≡◌, ℕ, ◌+◌, ◌<◌, List, [], Option, Some, None, refl, sym, ap, subst, inl, inr, false}
use Rattle.trace_ends.specs.Core.{idles}
use Rattle.kept_promise.proofs.Common.{message_spell, Core, Session, Event.Serves, numbered, happens, Book, Queue, Leasing, serves, reply_message}
use Rattle.kept_promise.proofs.History.{onward, grows_same, goes_same, still_same}
use Rattle.kept_promise.proofs.Rests.{kept_rest}
use Rattle.kept_promise.proofs.Takes.{server_still}
use Rattle.kept_promise.proofs.Hangs.{core_is, leads_noted, leads_hung}
use Rattle.kept_promise.proofs.Fits.{FitLaws}
use Rattle.kept_promise.proofs.Facts.{IsLeasing, IsKept}
use Rattle.kept_promise.proofs.Leading.{Leads, KeptReplies}
use Rattle.kept_promise.proofs.Replies.{Replied, reply_taken}
use Rattle.kept_promise.proofs.Turns.{also_numbered}

-- the server with other leases, a step later
leased_kept : (book : Book) (k : Core) (qs : List Queue) (l : Leasing) → IsLeasing l → IsKept book k qs → IsKept (onward book 1 book.ops) (record k { steps = k.steps + 1; server = record k.server { leasing = l } }) qs
leased_kept book k qs l term kept =
    let more = onward book 1 book.ops in
    let r = record k.server { leasing = l } in
    subst (λ (z : Core). IsKept more z qs) (core_is book k qs r k.seats k.sessions kept)
    (kept_rest book more k qs r (goes_same book 1 kept.sound) (server_still book more None None k.server l k.server.temps k.server.index term (grows_same book 1) (still_same book 1 kept.sound) kept.server)
    refl (λ m. record { stands_is = refl; waiting = refl; temps = λ i p u lt at key. (i, at); found = λ p lt. refl }) kept.home kept.running kept.journal kept.shelf kept)

leads_leased : (book : Book) (k : Core) (qs : List Queue) (l : Leasing) → IsLeasing l → IsKept book k qs → Leads book qs (idles (record k { server = record k.server { leasing = l } }))
leads_leased book k qs l term kept = record { sends = record { replies = []; replies_fit = tt; asks = []; up_is = refl; strays = []; strays_cut = tt; recalls = []; recalls_fit = tt; tolds = []; down_is = refl }; more = onward book 1 book.ops; moments = refl; opening = refl; kept = leased_kept book k qs l term kept }

pub kept_replies : FitLaws → KeptReplies
kept_replies laws = λ book k qs n now xid x at unhung small kept noted. by book k qs n now (message_spell (reply_message xid)) x at unhung kept (reply_taken laws k qs n now (message_spell (reply_message xid)) qs (record { session = x; at = at; unhung = unhung; xid = xid; fits = small; bytes_is = refl; mid_is = refl }))
  where
    by : (book : Book) (k : Core) (qs : List Queue) (n now : ℕ) (bytes : List ℕ) (x : Session) → numbered k.sessions n ≡ Some x → x.hung ≡ false → IsKept book k qs → Replied k n now bytes x → Leads book qs (happens k (Serves n now bytes))
    by book k qs n now bytes x at unhung kept (inl taken) = leads_noted book k qs (happens k (Serves n now bytes)) taken.4 taken.3 (subst (Leads book qs) (sym taken.1) (leads_leased book k qs taken.0 (taken.2 kept.server.leases) kept))
    by book k qs n now bytes x at unhung kept (inr lost) = let q = also_numbered k.sessions qs n x kept.made.1 at in subst (Leads book qs) (sym lost) (leads_hung book k qs n x q.0 kept at q.1 false unhung)
