-- Another index, or other contents that are kept, change nothing of claims: no note comes by them.
use Rattle.std.proofs.Common.{◌≡◌, ℕ, List, [], Some, refl, sym, subst}
use Rattle.clock_rule.specs.declared.rule.Note.{Note as Noted}
use Rattle.chunk_index.specs.Index.{Indexed}
use Rattle.kept_promise.proofs.Common.{Core, Seat, numbered, Mix}
use Rattle.kept_promise.proofs.Adjusts.{SameSeats, with_kept, adjusted_core}
use Rattle.kept_promise.proofs.Claimed.{Claimed, HasClaims, IsPromised, way_of}
use Rattle.kept_promise.proofs.ClaimFrame.{note_goes, tails_map, promised_map}

module _ (k : Core) (index : Indexed) (seats : List Seat) (same : SameSeats k.seats seats) (ms : List Mix) (clock : ℕ) (noted : List Noted) (h : Claimed noted clock k ms) where
  abbrev l : Core
  l = adjusted_core k index seats

  seat_adjusted : (i : ℕ) (e : Seat) → numbered seats i ≡ Some e → HasClaims noted clock l ms i e
  seat_adjusted i e at =
      let w = same.was i e at in
      let c = h.seats i w.0 w.3 in
      subst (HasClaims noted clock l ms i) (sym w.4) (record {
        drift = c.drift;
        notes = λ f x n there is.
            (let old = w.5 f x n there is in
            let o = c.notes f old.0 n old.1 old.2 in
            note_goes noted noted clock clock k l ms ms i f n.version n.until refl refl (λ z a. a) o (λ f. Unit {0}) (record {
              was = o.session;
              mix = o.mix;
              is = o.session;
              mixed = o.mix;
              was_there = o.there;
              mix_there = o.mix_is;
              is_there = o.there;
              mixed_there = o.mix_is;
              owner = refl;
              claims = λ file version base keep q. q;
            }) tt);
        sent = c.sent;
        promises = λ u n x m task mine there is. tails_map (IsPromised noted clock k i n (way_of x m) w.0.client.sent u) (IsPromised noted clock l i n (way_of x m) w.0.client.sent u)
            (λ d ds q. promised_map noted noted clock clock k l i n (way_of x m) (way_of x m) w.0.client.sent u d ds ds refl refl (λ z a. a) (λ version base z. z) q) m.downs (c.promises u n x m task mine there is);
      })

  pub adjusted_claimed : Claimed noted clock l ms
  adjusted_claimed = record {
    orderly = record { early = h.orderly.early; ordered = h.orderly.ordered; changes = h.orderly.changes; given = h.orderly.given };
    recalls = h.recalls;
    talks = λ n m at. (let t = h.talks n m at in record { numbers = record { drawn = t.numbers.drawn; apart = t.numbers.apart }; awaited = record { waited = t.awaited.waited; once = t.awaited.once; beside = t.awaited.beside } });
    seats = λ i e at. seat_adjusted i e at;
  }
