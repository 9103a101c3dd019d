-- Where nothing happens at the two ends claims go on while time passes.
use Rattle.std.proofs.Common.{◌≡◌, ℕ, ◌+◌, ◌≤◌, List, [], ◌∷◌, ◌++◌, Option, None, refl, sym, ap, ◌∙◌, subst, arith, map}
use Rattle.clock_rule.specs.declared.rule.Note.{Note as Noted}
use Rattle.register_model.specs.declared.op.Op.{Op}
use Rattle.callback_core.specs.declared.back_calls.Asked.{Asked}
use Rattle.server_core.specs.Recalling.{recall_sent}
use Rattle.lease_law.specs.Claims.{IsAmong, IsClaim}
use Rattle.lease_law.proofs.lemmas.Events.{orderly_later, safe_later}
use Rattle.kept_promise.proofs.Common.{Core, CoreStep, Seat, Session, quiet, Down, Mix, Told}
use Rattle.trace_ends.specs.Core.{idles}
use Rattle.kept_promise.proofs.Leading.{Sends, sent_message, sent_ups, sent_downs, recall_down, told_down, mix_ups, mix_downs, mixes_lost, mixes_after}
use Rattle.kept_promise.proofs.Claimed.{Claimed, HasClaims, IsPromised, downs_of, way_of}
use Rattle.kept_promise.proofs.ClaimFrame.{claim_of, note_goes, tails_map, promised_map}
use Rattle.kept_promise.proofs.Lists.{none_behind}

-- ---- nothing is sent

map_none : {A B : Type 0} (f : A → B) (xs : List A) (ys : List B) → [] ≡ map f xs ++ ys → (xs ≡ []) × ([] ≡ ys)
map_none f [] ys e = (refl, e)
map_none f (x ∷ xs) ys e = absurd cc

map_none_last : {A B : Type 0} (f : A → B) (xs : List A) → [] ≡ map f xs → xs ≡ []
map_none_last f [] e = refl
map_none_last f (x ∷ xs) e = absurd cc

pub mixes_still : (t : CoreStep) → t.session ≡ None → t.down ≡ [] → (sent : Sends t) (ms : List Mix) → mixes_after ms t sent ≡ mixes_lost ms t.loss
mixes_still t none down sent ms =
    let a = map_none recall_sent sent.recalls (map sent_message sent.tolds) (none_behind sent.strays (map recall_sent sent.recalls ++ map sent_message sent.tolds) (sym down ∙ sent.down_is)) in
    let b = map_none_last sent_message sent.tolds a.1 in
    ap (λ (o : Option ℕ). mix_downs t.core.sessions (mix_ups t.core.sessions lost o (sent_ups t sent)) (sent_downs t sent)) none
    ∙ ap (λ (l : List Asked). mix_downs t.core.sessions lost (map recall_down l ++ map told_down sent.tolds)) a.0
    ∙ ap (λ (l : List (ℕ × Told)). mix_downs t.core.sessions lost (map told_down l)) b
  where
    lost : List Mix
    lost = mixes_lost ms t.loss

-- ---- time passes

module _ (k : Core) (steps : ℕ) (ops : List Op) (entries : List ℕ) (ms : List Mix) (clock now : ℕ) (noted more : List Noted) (le : clock ≤ now) (grows : (x : Noted) → IsAmong x noted → IsAmong x more) (h : Claimed noted clock k ms) where
  abbrev later : Core
  later = record k { steps = steps; ops = ops; entries = entries }

  claim_later : (n : ℕ) (x : Session) (m : Mix) (behind : List Down) (file version base : ℕ) → IsClaim k.server clock (claim_of n file version base) (way_of x m) (downs_of behind) → IsClaim k.server now (claim_of n file version base) (way_of x m) (downs_of behind)
  claim_later n x m behind file version base c = let b = c.0 in (omega (arith, b, le), safe_later k.server clock now (claim_of n file version base) (way_of x m) (downs_of behind) le c.1)

  seat_later : (i : ℕ) (seat : Seat) → HasClaims noted clock k ms i seat → HasClaims more now later ms i seat
  seat_later i seat c = record {
    drift = c.drift;
    notes = λ f e n there is.
        (let o = c.notes f e n there is in
        note_goes noted more clock now k later ms ms i f n.version n.until refl refl grows o (λ f. Unit {0}) (record {
          was = o.session;
          mix = o.mix;
          is = o.session;
          mixed = o.mix;
          was_there = o.there;
          mix_there = o.mix_is;
          is_there = o.there;
          mixed_there = o.mix_is;
          owner = refl;
          claims = λ file version base keep q. claim_later o.number o.session o.mix o.mix.downs file version base q;
        }) tt);
    sent = λ u x task lease. (let s = c.sent u x task lease in let b = s.2 in (s.0, grows _ s.1, omega (arith, b, le)));
    promises = λ u n x m task mine at is. tails_map (IsPromised noted clock k i n (way_of x m) seat.client.sent u) (IsPromised more now later i n (way_of x m) seat.client.sent u)
        (λ d ds q. promised_map noted more clock now k later i n (way_of x m) (way_of x m) seat.client.sent u d ds ds refl refl grows (λ version base z. claim_later n x m ds u.file version base z) q) m.downs (c.promises u n x m task mine at is);
  }

  pub claimed_later : Claimed more now later ms
  claimed_later = record {
    orderly = orderly_later k.server clock now le h.orderly;
    recalls = h.recalls;
    talks = λ n m at. (let t = h.talks n m at in record { numbers = t.numbers; awaited = t.awaited });
    seats = λ i seat at. seat_later i seat (h.seats i seat at);
  }

-- a step of which nothing comes
pub quiet_claimed : (k : Core) (ms : List Mix) (clock now : ℕ) (noted more : List Noted) → clock ≤ now → ((x : Noted) → IsAmong x noted → IsAmong x more) → (sent : Sends (quiet k)) → Claimed noted clock k ms → Claimed more now k (mixes_after ms (quiet k) sent)
quiet_claimed k ms clock now noted more le grows sent h = subst (Claimed more now k) (sym (mixes_still (quiet k) refl refl sent ms)) (claimed_later k k.steps k.ops k.entries ms clock now noted more le grows h)

pub idle_claimed : (k : Core) (ms : List Mix) (clock now : ℕ) (noted more : List Noted) → clock ≤ now → ((x : Noted) → IsAmong x noted → IsAmong x more) → (sent : Sends (idles k)) → Claimed noted clock k ms → Claimed more now (idles k).core (mixes_after ms (idles k) sent)
idle_claimed k ms clock now noted more le grows sent h = subst (Claimed more now (idles k).core) (sym (mixes_still (idles k) refl refl sent ms)) (claimed_later k (k.steps + 1) k.ops k.entries ms clock now noted more le grows h)
