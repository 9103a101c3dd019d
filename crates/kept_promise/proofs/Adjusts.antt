-- Another index, other contents that are kept, or another reading of a clock: no step, and what is kept stays kept.
use Rattle.std.proofs.Common.{inl, inr, ◌≡◌, ℕ, List, length, Option, Some, None, refl, sym, ap, ◌∙◌, subst}
use Rattle.chunk_index.specs.Index.{Indexed, put, cleared}
use Rattle.cache_file.specs.Items.{items}
use Rattle.client_cache.specs.Cache.{without_content}
use Rattle.client_state.specs.Hints.{warms}
use Rattle.command_text.specs.Content.{content_bytes}
use Rattle.server_core.specs.State as server
use Rattle.server_core.specs.Step.{with_index}
use Rattle.client_state.specs.State as client
use Rattle.trace_text.specs.declared.line.Who.TheVariants as who
use Rattle.trace_ends.specs.declared.adjusting.Adjustment.{Adjustment}
use Rattle.trace_ends.specs.declared.adjusting.Adjustment.TheVariants as adjustment
use Rattle.trace_ends.specs.Core.{with_client, adjusted}
use Rattle.kept_promise.proofs.Common.{Entries, Core, Seat, numbered, with_numbered, Book, Queue}
use Rattle.kept_promise.proofs.Lists.{some_is, same_or_not}
use Rattle.kept_promise.proofs.Facts.{Cached, IsKept}
use Rattle.kept_promise.proofs.Kin.{Kin, parts_of, kept_kin}
use Rattle.kept_promise.proofs.Turns.{Around, around_with}
use Rattle.kept_promise.proofs.Caches.{cached_without, cached_warm, AddsNone, same_notes, without_notes, warm_notes}

-- ---- a client with another cache, and another index and clock

abbrev pub with_kept : Seat → Entries → Indexed × ℕ → Seat
with_kept c es p = record c { client = record c.client { cache = es; index = p.0; clock = p.1 } }

-- each client is as it was, but for these; it has no note more
pub record SameSeats (seats after : List Seat) : Type 0 where
  pub was : (i : ℕ) (e : Seat) → numbered after i ≡ Some e → (c : Seat) × (es : Entries) × (ix : Indexed × ℕ) × (numbered seats i ≡ Some c) × (e ≡ with_kept c es ix) × AddsNone c.client.cache es
  pub is : (i : ℕ) (c : Seat) → numbered seats i ≡ Some c → (es : Entries) × (ix : Indexed × ℕ) × (numbered after i ≡ Some (with_kept c es ix))
  pub count : length after ≡ length seats

pub same_seats : (seats : List Seat) → SameSeats seats seats
same_seats seats = record { was = λ i e at. (e, e.client.cache, (e.client.index, e.client.clock), at, refl, same_notes e.client.cache); is = λ i c at. (c.client.cache, (c.client.index, c.client.clock), at); count = refl }

pub one_seat : (seats : List Seat) (i : ℕ) (c : Seat) (es : Entries) (ix : Indexed × ℕ) → numbered seats i ≡ Some c → AddsNone c.client.cache es → SameSeats seats (with_numbered seats i (with_kept c es ix))
one_seat seats i c es ix here adds = record {
  was = λ j e at. elim (same_or_not j i) [
    | inl mine ↦ (c, es, ix, ap (numbered seats) mine ∙ here, some_is e (with_kept c es ix) (sym at ∙ ap (numbered after) mine ∙ around.there), adds)
    | inr away ↦ (e, e.client.cache, (e.client.index, e.client.clock), sym (around.others j away) ∙ at, refl, same_notes e.client.cache)
  ];
  is = λ j d at. elim (same_or_not j i) [
    | inl mine ↦
        let same : c ≡ d = some_is c d (sym here ∙ ap (numbered seats) (sym mine) ∙ at) in
        (es, ix, ap (numbered after) mine ∙ around.there ∙ ap (λ (z : Seat). Some (with_kept z es ix)) same)
    | inr away ↦ (d.client.cache, (d.client.index, d.client.clock), around.others j away ∙ at)
  ];
  count = around.count;
}
  where
    after : List Seat
    after = with_numbered seats i (with_kept c es ix)

    around : Around seats (with_numbered seats i (with_kept c es ix)) i (with_kept c es ix)
    around = around_with seats i c (with_kept c es ix) here

-- the two ends, with such clients and another index of the server
abbrev pub adjusted_core : Core → Indexed → List Seat → Core
adjusted_core k index seats = record k { server = with_index k.server index; seats = seats }

-- ---- what is kept

kin : (seats after : List Seat) → SameSeats seats after → Kin seats after
kin seats after same = record {
  was = λ i e at. let w = same.was i e at in (w.0, record (parts_of w.0) { cache = w.1; index = w.2.0; clock = w.2.1 }, w.3, w.4);
  is = λ i c at. let e = same.is i c at in (record (parts_of c) { cache = e.0; index = e.1.0; clock = e.1.1 }, e.2);
}

-- where each content that is kept is still what its file had in its version
pub kept_adjusted : (book : Book) (k : Core) (qs : List Queue) (index : Indexed) (seats : List Seat) → SameSeats k.seats seats → ((i : ℕ) (e : Seat) → numbered seats i ≡ Some e → Cached book e.client.cache) → IsKept book k qs → IsKept book (adjusted_core k index seats) qs
kept_adjusted book k qs index seats same cached h = kept_kin book k qs index seats (kin k.seats seats same) cached h

-- ---- what a line changes

-- the index of the server, or one client's index or cache
pub record Adjusts (book : Book) (k : Core) (a : Adjustment) : Type 0 where
  pub index : Indexed
  pub seats : List Seat
  pub is : adjusted k a ≡ adjusted_core k index seats
  pub same : SameSeats k.seats seats
  pub cached : (i : ℕ) (e : Seat) → numbered seats i ≡ Some e → Cached book e.client.cache

-- a client of this number may have any of these
client_adjusts : (book : Book) (k : Core) (qs : List Queue) (a : Adjustment) (c : ℕ) (es : Seat → Entries) (ix : Seat → Indexed) → IsKept book k qs → ((seat : Seat) → Cached book seat.client.cache → Cached book (es seat)) → ((seat : Seat) → AddsNone seat.client.cache (es seat))
    → (o : Option Seat) → numbered k.seats c ≡ o → adjusted k a ≡ with_client k c (λ (s : client.State). record s { cache = es (record { client = s; session = None; place = None }); index = ix (record { client = s; session = None; place = None }) }) o → Adjusts book k a
client_adjusts book k qs a c es ix kept still adds None at e = record { index = k.server.index; seats = k.seats; is = e; same = same_seats k.seats; cached = λ i d is. (kept.seats i d is).kept }
client_adjusts book k qs a c es ix kept still adds (Some seat) at e =
    let bare : Seat = record { client = seat.client; session = None; place = None } in
    let d : Seat = with_kept seat (es bare) (ix bare, seat.client.clock) in
    let around = around_with k.seats c seat d at in
    record {
      index = k.server.index;
      seats = with_numbered k.seats c d;
      is = e;
      same = one_seat k.seats c seat (es bare) (ix bare, seat.client.clock) at (adds bare);
      cached = λ i z is. elim (same_or_not i c) [
        | inl mine ↦ subst (λ (v : Seat). Cached book v.client.cache) (some_is d z (sym around.there ∙ ap (numbered (with_numbered k.seats c d)) (sym mine) ∙ is)) (still bare (kept.seats c seat at).kept)
        | inr away ↦ (kept.seats i z (sym (around.others i away) ∙ is)).kept
      ];
    }

server_adjusts : (book : Book) (k : Core) (qs : List Queue) (a : Adjustment) (index : Indexed) → IsKept book k qs → adjusted k a ≡ adjusted_core k index k.seats → Adjusts book k a
server_adjusts book k qs a index kept e = record { index = index; seats = k.seats; is = e; same = same_seats k.seats; cached = λ i d is. (kept.seats i d is).kept }

pub adjusts_is : (book : Book) (k : Core) (qs : List Queue) (a : Adjustment) → IsKept book k qs → Adjusts book k a
adjusts_is book k qs (adjustment.Forge who.Server key place) kept = server_adjusts book k qs (adjustment.Forge who.Server key place) (put k.server.index key place) kept refl
adjusts_is book k qs (adjustment.Clear who.Server) kept = server_adjusts book k qs (adjustment.Clear who.Server) (cleared k.server.index) kept refl
adjusts_is book k qs (adjustment.Forge (who.Client c) key place) kept = client_adjusts book k qs (adjustment.Forge (who.Client c) key place) c (λ s. s.client.cache) (λ s. put s.client.index key place) kept (λ s h. h) (λ s. same_notes s.client.cache) (numbered k.seats c) refl refl
adjusts_is book k qs (adjustment.Clear (who.Client c)) kept = client_adjusts book k qs (adjustment.Clear (who.Client c)) c (λ s. s.client.cache) (λ s. cleared s.client.index) kept (λ s h. h) (λ s. same_notes s.client.cache) (numbered k.seats c) refl refl
adjusts_is book k qs (adjustment.Warm c content) kept = client_adjusts book k qs (adjustment.Warm c content) c (λ s. (warms s.client (items (content_bytes content))).cache) (λ s. (warms s.client (items (content_bytes content))).index) kept (λ s h. cached_warm book s.client (items (content_bytes content)) h) (λ s. warm_notes s.client (items (content_bytes content))) (numbered k.seats c) refl refl
adjusts_is book k qs (adjustment.Evict c file) kept = client_adjusts book k qs (adjustment.Evict c file) c (λ s. without_content s.client.cache file) (λ s. s.client.index) kept (λ s h. cached_without book s.client.cache file h) (λ s. without_notes s.client.cache file) (numbered k.seats c) refl refl
