-- A client hears a RECALL: a step in which its clock changes, and what it noted of the file goes; the answer goes up.
use Rattle.std.proofs.Common.{◌≡◌, ℕ, ◌+◌, ◌<◌, List, [], ◌∷◌, Option, Some, None, Result, Ok, Bool, true, false, refl, sym, ap, ◌∙◌, subst}
use Rattle.xdr_codec.specs.Handle.{file_of, handle_bytes}
use Rattle.client_state.specs.State as client
use Rattle.lease_law.specs.Claims.{recall_message}
use Rattle.kept_promise.proofs.Common.{Entries, Message, WireFault, parse_of, message_spell, got_step, Core, Seat, Session, numbered, with_numbered, is_newest, acted, hears, hears_at, hears_if, Book, Queue}
use Rattle.kept_promise.proofs.History.{onward}
use Rattle.kept_promise.proofs.Caches.{cached_unnoted}
use Rattle.kept_promise.proofs.Facts.{Cached, IsKept}
use Rattle.kept_promise.proofs.Kin.{Parts, parts_of, with_parts, kept_one}
use Rattle.kept_promise.proofs.Fits.{FitLaws}
use Rattle.kept_promise.proofs.Leading.{Leads, KeptRecalls}
use Rattle.kept_promise.proofs.Hangs.{leads_quiet}
use Rattle.kept_promise.proofs.Cuts.{idle_kept}
use Rattle.kept_promise.proofs.Does.{ups_none}
use Rattle.kept_promise.proofs.Replies.{recall_fits, cache_without, recalled_step, acted_is}

cached_without : (book : Book) (es : Entries) (o : Option ℕ) → Cached book es → Cached book (cache_without es o)
cached_without book es None h = h
cached_without book es (Some file) h = cached_unnoted book es file h

-- the client is as it was, but for its clock and a note
leads_recalled : (book : Book) (k : Core) (qs : List Queue) (owner now xid : ℕ) (seat : Seat) (o : Option ℕ) → xid < 4294967296 → IsKept book k qs → numbered k.seats owner ≡ Some seat → Leads book qs (recalled_step k owner now seat (cache_without seat.client.cache o) xid)
leads_recalled book k qs owner now xid seat o small kept here = record {
  sends = record { replies = xid ∷ []; replies_fit = (small, tt); asks = []; up_is = refl; strays = []; strays_cut = tt; recalls = []; recalls_fit = tt; tolds = []; down_is = refl };
  more = onward book 1 book.ops;
  moments = refl;
  opening = refl;
  kept = subst (IsKept (onward book 1 book.ops) (recalled_step k owner now seat (cache_without seat.client.cache o) xid).core) (sym (ups_none k.sessions qs seat.session)) still;
}
  where
    parts : Parts
    parts = record (parts_of seat) { clock = now; cache = cache_without seat.client.cache o }

    idle : IsKept (onward book 1 book.ops) (record k { steps = k.steps + 1 }) qs
    idle = idle_kept book k qs kept

    still : IsKept (onward book 1 book.ops) (record k { steps = k.steps + 1; seats = with_numbered k.seats owner (with_parts seat parts) }) qs
    still = kept_one (onward book 1 book.ops) (record k { steps = k.steps + 1 }) qs owner seat parts here (cached_without (onward book 1 book.ops) seat.client.cache o (idle.seats owner seat here).kept) idle

pub kept_recalls : FitLaws → KeptRecalls
kept_recalls laws book k qs n now xid file small fits kept noted = by (numbered k.sessions n)
  where
    bytes : List ℕ
    bytes = message_spell (recall_message xid file)

    reads : (seat : Seat) → parse_of (client.waiting_of seat.client) (message_spell (recall_message xid file)) ≡ Ok (recall_message xid file)
    reads seat = laws.again (client.waiting_of seat.client) (recall_message xid file) (recall_fits xid file small).0 (refl, refl)

    heard : (owner : ℕ) (seat : Seat) → numbered k.seats owner ≡ Some seat → (b : Bool) → Leads book qs (hears_if k owner now seat bytes b)
    heard owner seat here false = leads_quiet book k qs kept
    heard owner seat here true = subst (Leads book qs) (sym (ap (λ (r : Result Message WireFault). acted k owner seat (got_step seat.client r now).0 (got_step seat.client r now).1) (reads seat) ∙ acted_is k owner now seat xid (file_of (handle_bytes file)))) (leads_recalled book k qs owner now xid seat (file_of (handle_bytes file)) small kept here)

    of_owner : (owner : ℕ) (o : Option Seat) → numbered k.seats owner ≡ o → Leads book qs (hears_at k n owner now bytes o)
    of_owner owner None at = leads_quiet book k qs kept
    of_owner owner (Some seat) at = heard owner seat at (is_newest seat.session n)

    by : (o : Option Session) → Leads book qs (hears k n now bytes o)
    by None = leads_quiet book k qs kept
    by (Some x) = of_owner x.owner (numbered k.seats x.owner) refl
