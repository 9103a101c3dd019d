-- A client hears a RECALL: its note goes, and it answers; other claims go on in a run.
use Rattle.std.proofs.Common.{◌≡◌, ◌⊎◌, inl, inr, ℕ, ◌+◌, ◌<◌, ◌≤◌, List, [], ◌∷◌, ◌++◌, length, Option, Some, None, Result, Ok, Bool, true, false, refl, sym, ap, ◌∙◌, subst, arith, map}
use Rattle.std.specs.List.{AllByRecursion}
use Rattle.std.specs.Option.{option_map}
use Rattle.std.proofs.lemmas.List.{append-nil}
use Rattle.clock_rule.specs.declared.rule.Note.{Note as Noted}
use Rattle.xdr_codec.specs.Handle.{file_of as named_by, handle_bytes}
use Rattle.wire.specs.Parse.{parse_of}
use Rattle.wire.specs.declared.fault.WireFault.{WireFault}
use Rattle.wire.specs.declared.message.Message.{Message}
use Rattle.client_state.specs.State.{waiting_of}
use Rattle.client_cache.specs.Cache.{Entries, kept_of}
use Rattle.client_cache.specs.declared.kept.Kept.{Kept}
use Rattle.client_cache.specs.declared.kept.Note.{Note}
use Rattle.client_state.specs.declared.task.Task.{Task}
use Rattle.chunk_calls.specs.Files as the_files
use Rattle.server_core.specs.State as server
use Rattle.lease_law.specs.Claims.{Way, Claim, IsAmong, IsSafe, IsClaim, noted_at, recall_message, called_by, version_at}
use Rattle.lease_law.specs.Orderly.{AreNumbered, AllApart, AreApart}
use Rattle.lease_law.proofs.lemmas.Events.{orderly_later, safe_later}
use Rattle.lease_law.proofs.lemmas.Ways.{safe_heard, safe_replied}
use Rattle.kept_promise.proofs.Common.{Core, CoreStep, Seat, Session, Event.Hears, happens, numbered, with_numbered, unless, File, Moment, Opening, message_spell, Up, up_message, Down, Down.Recalls, Mix, queue_of, reply_message}
use Rattle.kept_promise.proofs.Lists.{some_is, nothing_there, same_or_not}
use Rattle.kept_promise.proofs.Turns.{also_numbered, around_with}
use Rattle.kept_promise.proofs.TreeWalks.{own_handle}
use Rattle.kept_promise.proofs.Facts.{FileIs}
use Rattle.kept_promise.proofs.Fits.{FitLaws}
use Rattle.kept_promise.proofs.Adjusts.{with_kept}
use Rattle.kept_promise.proofs.Leading.{Sends, sent_ups, sent_downs, mixes_after}
use Rattle.kept_promise.proofs.RunsCarried.{MixStep, book_at}
use Rattle.kept_promise.proofs.Mixes.{DownFits}
use Rattle.kept_promise.proofs.Replies.{recall_fits, Recalled, recall_heard, recalled_step, cache_without, without_adds}
use Rattle.kept_promise.proofs.RecallsKept.{AreAwaited, AreTwo, AllOnce, AllBeside, IsBeside, all_join, all_map}
use Rattle.kept_promise.proofs.Claimed.{Claimed, HasClaims, IsTalking, IsPromised, AllTails, ups_of, downs_of, way_of}
use Rattle.kept_promise.proofs.ClaimWays.{downs_on, before_at, sent_is, ups_are, ups_unless, none_is}
use Rattle.kept_promise.proofs.ClaimFrame.{claim_of, Goes, note_goes, tails_map, promised_map}
use Rattle.kept_promise.proofs.ClaimServed.{pairs_are, finish}
use Rattle.kept_promise.proofs.ClaimHears.{owners_are}
use Rattle.kept_promise.proofs.NoteSteps.{unnoted_own}

none_mapped : {A B : Type 0} (f : A → B) (xs : List A) → map f xs ≡ [] → xs ≡ []
none_mapped f [] e = refl
none_mapped f (x ∷ xs) e = absurd cc

unless_nothing : {A : Type 0} (b : Bool) (xs : List A) → unless b xs [] ≡ xs
unless_nothing true xs = refl
unless_nothing false xs = append-nil xs

-- ---- a RECALL is read, and answered

handle_is : (x y f g : ℕ) → recall_message x f ≡ recall_message y g → handle_bytes f ≡ handle_bytes g
handle_is x y f g e = cc

abbrev Far : (xid : ℕ) → List Message → Type 0
Far xid ms = AllByRecursion (λ d. called_by d ≡ Some xid → ⊥) ms

far_of : (xid f : ℕ) (ms : List Message) → AllByRecursion (AreApart (recall_message xid f)) ms → Far xid ms
far_of xid f ms h = all_map (AreApart (recall_message xid f)) (λ d. called_by d ≡ Some xid → ⊥) ms (λ d apart e. apart xid refl e) h

-- the file of a claim that is held is in the tree, and so has a number of 64 bits
held_small : (s : server.State) (g v : ℕ) → ((f : ℕ) (x : File) → the_files.file_at s.tree f ≡ Some x → f < 18446744073709551616) → version_at s.tree g ≡ Some v → g < 18446744073709551616
held_small s g v small is = by (the_files.file_at s.tree g) refl is
  where
    by : (o : Option File) → the_files.file_at s.tree g ≡ o → option_map (λ (x : File). x.version) o ≡ Some v → g < 18446744073709551616
    by None at e = nothing_there v e
    by (Some x) at e = small g x at

module _ (s : server.State) (clock : ℕ) (small : (f : ℕ) (x : File) → the_files.file_at s.tree f ≡ Some x → f < 18446744073709551616) where
  recall_read : (c : Claim) (way : Way) (xid f : ℕ) (behind : List Message) → (named_by (handle_bytes f) ≡ Some c.file → ⊥) → IsClaim s clock c way (recall_message xid f ∷ behind) → IsClaim s clock c way behind
  recall_read c way xid f behind other h = (h.0, by h.1)
    where
      by : IsSafe s clock c way (recall_message xid f ∷ behind) → IsSafe s clock c way behind
      by (inl spent) = inl spent
      by (inr held) = safe_heard s clock c way (recall_message xid f) behind (λ x e. other (ap named_by (handle_is xid x f c.file e) ∙ own_handle c.file (held_small s c.file c.version small held.0))) (inr held)

  recall_answered : (c : Claim) (us : List Message) (xid : ℕ) (behind : List Message) → Far xid behind → IsClaim s clock c (record { ups = us; cut = false }) behind → IsClaim s clock c (record { ups = us ++ reply_message xid ∷ []; cut = false }) behind
  recall_answered c us xid behind far h = (h.0, safe_replied s clock c (record { ups = us; cut = false }) behind (reply_message xid) xid refl refl refl far h.1)

-- ---- what is said of RECALLs

numbers_replied : (s : server.State) (n xid f : ℕ) (us ds : List Message) → AreNumbered s n us (recall_message xid f ∷ ds) → AreNumbered s n (us ++ reply_message xid ∷ []) ds
numbers_replied s n xid f us ds h = record { drawn = λ q. (let d = h.drawn q in record { answers = all_join _ us (reply_message xid ∷ []) d.answers (d.calls.0, tt); calls = d.calls.1 }); apart = h.apart.1 }

numbers_read : (s : server.State) (n : ℕ) (us : List Message) (m : Message) (ds : List Message) → AreNumbered s n us (m ∷ ds) → AreNumbered s n us ds
numbers_read s n us m ds h = record { drawn = λ q. (let d = h.drawn q in record { answers = d.answers; calls = d.calls.1 }); apart = h.apart.1 }

once_replied : (xid f : ℕ) (us ds : List Message) → AllOnce us → AllBeside us (recall_message xid f ∷ ds) → AllOnce (us ++ reply_message xid ∷ [])
once_replied xid f [] ds h b = (tt, tt)
once_replied xid f (u ∷ us) ds h b = (all_join (AreTwo u) us (reply_message xid ∷ []) h.0 ((λ x p q. b.0.0 x p q), tt), once_replied xid f us ds h.1 b.1)

beside_read : (us : List Message) (m : Message) (ds : List Message) → AllBeside us (m ∷ ds) → AllBeside us ds
beside_read [] m ds h = tt
beside_read (u ∷ us) m ds h = (h.0.1, beside_read us m ds h.1)

beside_reply : (xid f : ℕ) (ds : List Message) → AllByRecursion (AreApart (recall_message xid f)) ds → AllByRecursion (IsBeside (reply_message xid)) ds
beside_reply xid f ds h = all_map (AreApart (recall_message xid f)) (IsBeside (reply_message xid)) ds (λ d apart x p q. apart x p q) h

awaited_replied : (s : server.State) (n xid f : ℕ) (us ds : List Message) → AllApart (recall_message xid f ∷ ds) → AreAwaited s n us (recall_message xid f ∷ ds) → AreAwaited s n (us ++ reply_message xid ∷ []) ds
awaited_replied s n xid f us ds apart h = record {
  waited = λ q. (let w = h.waited q in record { answers = all_join _ us (reply_message xid ∷ []) w.answers (w.calls.0, tt); calls = w.calls.1 });
  once = once_replied xid f us ds h.once h.beside;
  beside = all_join (λ u. AllByRecursion (IsBeside u) ds) us (reply_message xid ∷ []) (beside_read us (recall_message xid f) ds h.beside) (beside_reply xid f ds apart.0, tt);
}

awaited_read : (s : server.State) (n : ℕ) (us : List Message) (m : Message) (ds : List Message) → AreAwaited s n us (m ∷ ds) → AreAwaited s n us ds
awaited_read s n us m ds h = record { waited = λ q. (let w = h.waited q in record { answers = w.answers; calls = w.calls.1 }); once = h.once; beside = beside_read us m ds h.beside }

-- ---- a note that goes

gone : (es : Entries) (o : Option ℕ) (g : ℕ) (e : Kept) (n : Note) → kept_of (cache_without es o) g ≡ Some e → e.note ≡ Some n → o ≡ Some g → ⊥
gone es None g e n at is own = nothing_there g own
gone es (Some f) g e n at is own = let same : f ≡ g = some_is f g own in unnoted_own es f e n (ap (kept_of (cache_without es (Some f))) same ∙ at) is

module _ (k : Core) (ms : List Mix) (n now xid f : ℕ) (x : Session) (seat : Seat) (m : Mix) (ds : List Down) (x_there : numbered k.sessions n ≡ Some x) (here : numbered k.seats x.owner ≡ Some seat) (newest : seat.session ≡ Some n) (uncut : x.cut ≡ false) (is : numbered ms n ≡ Some m) (first : m.downs ≡ Recalls xid f ∷ ds)
    (small : (g : ℕ) (y : File) → the_files.file_at k.server.tree g ≡ Some y → g < 18446744073709551616) (pairs : length ms ≡ length k.sessions) where
  abbrev cache_then : Entries
  cache_then = cache_without seat.client.cache (named_by (handle_bytes f))

  abbrev step_ : CoreStep
  step_ = recalled_step k x.owner now seat cache_then xid

  abbrev seat_then : Seat
  seat_then = with_kept seat cache_then (seat.client.index, now)

  abbrev left_ : List Mix
  left_ = with_numbered ms n (record m { downs = ds })

  module _ (sent : Sends step_) (pairs_then : length (mixes_after left_ step_ sent) ≡ length step_.core.sessions) where
    abbrev then_ : List Mix
    then_ = mixes_after left_ step_ sent

    record Here : Type 0 where
      pub p : Mix
      pub p_there : numbered then_ n ≡ Some p
      pub downs : p.downs ≡ ds
      pub ups : (ups_of p ≡ ups_of m) ⊎ (ups_of p ≡ ups_of m ++ reply_message xid ∷ [])

    nothing_down : (j : ℕ) → downs_on j (sent_downs step_ sent) ≡ []
    nothing_down j = none_mapped _ (downs_on j (sent_downs step_ sent)) (none_is step_ sent j refl)

    here_then : Here
    here_then =
        let p = also_numbered k.sessions then_ n x pairs_then x_there in
        let b = before_at left_ step_ sent n p.0 p.1 in
        let around = around_with ms n m (record m { downs = ds }) is in
        let was : record m { downs = ds } ≡ b.was = some_is (record m { downs = ds }) b.was (sym around.there ∙ b.there) in
        record {
          p = p.0;
          p_there = p.1;
          downs = b.downs x x_there ∙ ap (unless x.cut b.was.downs) (nothing_down n) ∙ unless_nothing x.cut b.was.downs ∙ ap (λ (q : Mix). q.downs) (sym was);
          ups = by x.hung p.0 (b.own x newest x_there ∙ ap (λ (q : Mix). unless x.hung q.ups (sent_ups step_ sent)) (sym was));
        }
      where
        by : (h : Bool) (p : Mix) → p.ups ≡ unless h m.ups (sent_ups step_ sent) → (ups_of p ≡ ups_of m) ⊎ (ups_of p ≡ ups_of m ++ reply_message xid ∷ [])
        by true p e = inl (ap (λ (us : List Up). map up_message us) e)
        by false p e = inr (ap (λ (us : List Up). map up_message us) e ∙ ups_unless false m.ups (sent_ups step_ sent) ∙ ap (λ (us : List Message). ups_of m ++ us) (ups_are step_ sent))

    other_then : (j : ℕ) (q : Mix) → (j ≡ n → ⊥) → numbered ms j ≡ Some q → numbered then_ j ≡ Some q
    other_then j q apart at =
        let y = also_numbered ms k.sessions j q (sym pairs) at in
        let p = also_numbered k.sessions then_ j y.0 pairs_then y.1 in
        let b = before_at left_ step_ sent j p.0 p.1 in
        let around = around_with ms n m (record m { downs = ds }) is in
        let was : q ≡ b.was = some_is q b.was (sym at ∙ sym (around.others j apart) ∙ b.there) in
        let ups_same : p.0.ups ≡ q.ups = b.other (λ mine. apart (sym (some_is n j (sym newest ∙ mine)))) ∙ ap (λ (z : Mix). z.ups) (sym was) in
        let downs_same : p.0.downs ≡ q.downs = b.downs y.0 y.1 ∙ ap (unless y.0.cut b.was.downs) (nothing_down j) ∙ unless_nothing y.0.cut b.was.downs ∙ ap (λ (z : Mix). z.downs) (sym was) in
        p.1 ∙ ap (λ (us : List Up). Some (record { ups = us; downs = p.0.downs })) ups_same ∙ ap (λ (l : List Down). Some (record { ups = q.ups; downs = l })) downs_same

    module _ (clock at_ : ℕ) (noted more : List Noted) (le : clock ≤ at_) (grows : (y : Noted) → IsAmong y noted → IsAmong y more) (h : Claimed noted clock k ms) (owners : (j : ℕ) (e : Seat) (i : ℕ) → numbered k.seats j ≡ Some e → e.session ≡ Some i → (y : Session) × (numbered k.sessions i ≡ Some y) × (y.owner ≡ j)) where
      later : (c : Claim) (way : Way) (behind : List Message) → IsClaim k.server clock c way behind → IsClaim k.server at_ c way behind
      later c way behind q = let b = q.0 in (omega (arith, b, le), safe_later k.server clock at_ c way behind le q.1)

      apart_downs : AllApart (recall_message xid f ∷ downs_of ds)
      apart_downs = subst (λ (l : List Down). AllApart (downs_of l)) first (h.talks n m is).numbers.apart

      -- on its session, with these behind it
      way_then : (w : Here) (c : Claim) (behind : List Message) → Far xid behind → IsClaim k.server at_ c (way_of x m) behind → IsClaim k.server at_ c (way_of x w.p) behind
      way_then w c behind far q = by w.ups
        where
          moved : (us : List Message) → ups_of w.p ≡ us → IsClaim k.server at_ c (record { ups = us; cut = x.cut }) behind → IsClaim k.server at_ c (way_of x w.p) behind
          moved us e z = subst (λ (l : List Message). IsClaim k.server at_ c (record { ups = l; cut = x.cut }) behind) (sym e) z

          by : (ups_of w.p ≡ ups_of m) ⊎ (ups_of w.p ≡ ups_of m ++ reply_message xid ∷ []) → IsClaim k.server at_ c (way_of x w.p) behind
          by (inl e) = moved (ups_of m) e q
          by (inr e) = moved (ups_of m ++ reply_message xid ∷ []) e (subst (λ (b : Bool). IsClaim k.server at_ c (record { ups = ups_of m ++ reply_message xid ∷ []; cut = b }) behind) (sym uncut)
              (recall_answered k.server at_ small c (ups_of m) xid behind far (subst (λ (b : Bool). IsClaim k.server at_ c (record { ups = ups_of m; cut = b }) behind) uncut q)))

      goes_then : (j : ℕ) (y : Session) → numbered k.sessions j ≡ Some y → Goes clock at_ k step_.core ms then_ j (λ g. j ≡ n → named_by (handle_bytes f) ≡ Some g → ⊥)
      goes_then j y at = by (same_or_not j n)
        where
          by : (j ≡ n) ⊎ (j ≡ n → ⊥) → Goes clock at_ k step_.core ms then_ j (λ g. j ≡ n → named_by (handle_bytes f) ≡ Some g → ⊥)
          by (inl mine) =
              let w = here_then in
              record {
                was = x;
                mix = m;
                is = x;
                mixed = w.p;
                was_there = ap (numbered k.sessions) mine ∙ x_there;
                mix_there = ap (numbered ms) mine ∙ is;
                is_there = ap (numbered k.sessions) mine ∙ x_there;
                mixed_there = ap (numbered then_) mine ∙ w.p_there;
                owner = refl;
                claims = λ file version base keep q.
                    (let late = later (claim_of j file version base) (way_of x m) (downs_of m.downs) q in
                    let headed = subst (λ (l : List Down). IsClaim k.server at_ (claim_of j file version base) (way_of x m) (downs_of l)) first late in
                    let read = recall_read k.server at_ small (claim_of j file version base) (way_of x m) xid f (downs_of ds) (keep mine) headed in
                    subst (λ (l : List Down). IsClaim k.server at_ (claim_of j file version base) (way_of x w.p) (downs_of l)) (sym w.downs) (way_then w (claim_of j file version base) (downs_of ds) (far_of xid f (downs_of ds) apart_downs.0) read));
              }
          by (inr other) =
              let q = also_numbered k.sessions ms j y pairs at in
              record {
                was = y;
                mix = q.0;
                is = y;
                mixed = q.0;
                was_there = at;
                mix_there = q.1;
                is_there = at;
                mixed_there = other_then j q.0 other q.1;
                owner = refl;
                claims = λ file version base keep z. later (claim_of j file version base) (way_of y q.0) (downs_of q.0.downs) z;
              }

      talk_then : (w : Here) → IsTalking k.server n w.p
      talk_then w =
          let talk = h.talks n m is in
          let numbers = subst (λ (l : List Down). AreNumbered k.server n (ups_of m) (downs_of l)) first talk.numbers in
          let awaited = subst (λ (l : List Down). AreAwaited k.server n (ups_of m) (downs_of l)) first talk.awaited in
          let p = by w.ups numbers awaited in
          record { numbers = subst (λ (l : List Down). AreNumbered k.server n (ups_of w.p) (downs_of l)) (sym w.downs) p.0; awaited = subst (λ (l : List Down). AreAwaited k.server n (ups_of w.p) (downs_of l)) (sym w.downs) p.1 }
        where
          by : (ups_of w.p ≡ ups_of m) ⊎ (ups_of w.p ≡ ups_of m ++ reply_message xid ∷ []) → AreNumbered k.server n (ups_of m) (recall_message xid f ∷ downs_of ds) → AreAwaited k.server n (ups_of m) (recall_message xid f ∷ downs_of ds)
              → AreNumbered k.server n (ups_of w.p) (downs_of ds) × AreAwaited k.server n (ups_of w.p) (downs_of ds)
          by (inl e) numbers awaited = (
            subst (λ (us : List Message). AreNumbered k.server n us (downs_of ds)) (sym e) (numbers_read k.server n (ups_of m) (recall_message xid f) (downs_of ds) numbers),
            subst (λ (us : List Message). AreAwaited k.server n us (downs_of ds)) (sym e) (awaited_read k.server n (ups_of m) (recall_message xid f) (downs_of ds) awaited),
          )
          by (inr e) numbers awaited = (
            subst (λ (us : List Message). AreNumbered k.server n us (downs_of ds)) (sym e) (numbers_replied k.server n xid f (ups_of m) (downs_of ds) numbers),
            subst (λ (us : List Message). AreAwaited k.server n us (downs_of ds)) (sym e) (awaited_replied k.server n xid f (ups_of m) (downs_of ds) apart_downs awaited),
          )

      -- promises on its session
      tails_here : (w : Here) (j : ℕ) (sent_ : ℕ) (u : Task) (bs : List Down) → Far xid (downs_of bs) → AllTails (IsPromised noted clock k j n (way_of x m) sent_ u) bs → AllTails (IsPromised more at_ step_.core j n (way_of x w.p) sent_ u) bs
      tails_here w j sent_ u [] far q = tt
      tails_here w j sent_ u (d ∷ bs) far q = (
        promised_map noted more clock at_ k step_.core j n (way_of x m) (way_of x w.p) sent_ u d bs bs refl refl grows (λ version base z. way_then w (claim_of n u.file version base) (downs_of bs) far.1 (later (claim_of n u.file version base) (way_of x m) (downs_of bs) z)) q.0,
        tails_here w j sent_ u bs far.1 q.1,
      )

      seats_so : (j : ℕ) (was now_ : Seat) → now_.client.drift ≡ was.client.drift → now_.client.sent ≡ was.client.sent → now_.client.task ≡ was.client.task → now_.session ≡ was.session → numbered k.seats j ≡ Some was
          → ((g : ℕ) (e : Kept) (i : Note) → kept_of now_.client.cache g ≡ Some e → e.note ≡ Some i → ((w : Kept) × (kept_of was.client.cache g ≡ Some w) × (w.note ≡ Some i)) × ((j ≡ x.owner) → named_by (handle_bytes f) ≡ Some g → ⊥))
          → HasClaims noted clock k ms j was → HasClaims more at_ step_.core then_ j now_
      seats_so j was now_ drift sent_same task session there had c = record {
        drift = drift ∙ c.drift;
        notes = λ g e i at noted_.
            (let w = had g e i at noted_ in
            let o = c.notes g w.0.0 i w.0.1 w.0.2 in
            note_goes noted more clock at_ k step_.core ms then_ j g i.version i.until refl refl grows o (λ g. o.number ≡ n → named_by (handle_bytes f) ≡ Some g → ⊥) (goes_then o.number o.session o.there)
            (λ mine. w.1 (sym o.owner ∙ ap (λ (z : Session). z.owner) (some_is o.session x (sym o.there ∙ ap (numbered k.sessions) mine ∙ x_there)))));
        sent = λ u y under lease. (let s = c.sent u y (sym task ∙ under) lease in let b = s.2 in (s.0, subst (λ (z : ℕ). IsAmong (noted_at j z s.0) more) (sym sent_same) (grows _ s.1), omega (arith, b, le)));
        promises = λ u i y p under mine at is_mix. promised u i y p (sym task ∙ under) (sym session ∙ mine) at is_mix (same_or_not i n);
      }
        where
          promised : (u : Task) (i : ℕ) (y : Session) (p : Mix) → was.client.task ≡ Some u → was.session ≡ Some i → numbered k.sessions i ≡ Some y → numbered then_ i ≡ Some p → (i ≡ n) ⊎ (i ≡ n → ⊥) → AllTails (IsPromised more at_ step_.core j i (way_of y p) now_.client.sent u) p.downs
          promised u i y p under mine at is_mix (inl own) =
              let w = here_then in
              let same_x : x ≡ y = some_is x y (sym x_there ∙ ap (numbered k.sessions) (sym own) ∙ at) in
              let same_p : w.p ≡ p = some_is w.p p (sym w.p_there ∙ ap (numbered then_) (sym own) ∙ is_mix) in
              let old = subst (AllTails (IsPromised noted clock k j n (way_of x m) was.client.sent u)) first (c.promises u n x m under (mine ∙ ap (λ (z : ℕ). Some z) own) x_there is) in
              let new = tails_here w j was.client.sent u ds (far_of xid f (downs_of ds) apart_downs.0) old.1 in
              subst (λ (z : ℕ). AllTails (IsPromised more at_ step_.core j i (way_of y p) z u) p.downs) (sym sent_same)
              (subst (λ (z : ℕ). AllTails (IsPromised more at_ step_.core j z (way_of y p) was.client.sent u) p.downs) (sym own)
              (subst (λ (z : Session). AllTails (IsPromised more at_ step_.core j n (way_of z p) was.client.sent u) p.downs) same_x
              (subst (λ (z : Mix). AllTails (IsPromised more at_ step_.core j n (way_of x z) was.client.sent u) z.downs) same_p
              (subst (AllTails (IsPromised more at_ step_.core j n (way_of x w.p) was.client.sent u)) (sym w.downs) new))))
          promised u i y p under mine at is_mix (inr other) =
              let q = also_numbered k.sessions ms i y pairs at in
              let same_p : q.0 ≡ p = some_is q.0 p (sym (other_then i q.0 other q.1) ∙ is_mix) in
              subst (λ (z : ℕ). AllTails (IsPromised more at_ step_.core j i (way_of y p) z u) p.downs) (sym sent_same)
              (subst (λ (z : Mix). AllTails (IsPromised more at_ step_.core j i (way_of y z) was.client.sent u) z.downs) same_p
              (tails_map (IsPromised noted clock k j i (way_of y q.0) was.client.sent u) (IsPromised more at_ step_.core j i (way_of y q.0) was.client.sent u)
              (λ d bs z. promised_map noted more clock at_ k step_.core j i (way_of y q.0) (way_of y q.0) was.client.sent u d bs bs refl refl grows (λ version base v. later (claim_of i u.file version base) (way_of y q.0) (downs_of bs) v) z) q.0.downs (c.promises u i y q.0 under mine at q.1)))

      recalled_at : Claimed more at_ step_.core then_
      recalled_at = record {
        orderly = orderly_later k.server clock at_ le h.orderly;
        recalls = h.recalls;
        talks = λ j p at. talks_so j p at (same_or_not j n);
        seats = λ j e at. seats_then j e at (same_or_not j x.owner);
      }
        where
          talks_so : (j : ℕ) (p : Mix) → numbered then_ j ≡ Some p → (j ≡ n) ⊎ (j ≡ n → ⊥) → IsTalking k.server j p
          talks_so j p at (inl mine) =
              let w = here_then in
              subst (λ (z : ℕ). IsTalking k.server z p) (sym mine) (subst (λ (z : Mix). IsTalking k.server n z) (some_is w.p p (sym w.p_there ∙ ap (numbered then_) (sym mine) ∙ at)) (talk_then w))
          talks_so j p at (inr other) =
              let y = also_numbered then_ k.sessions j p (sym pairs_then) at in
              let q = also_numbered k.sessions ms j y.0 pairs y.1 in
              let t = subst (λ (z : Mix). IsTalking k.server j z) (some_is q.0 p (sym (other_then j q.0 other q.1) ∙ at)) (h.talks j q.0 q.1) in
              record { numbers = t.numbers; awaited = t.awaited }

          seats_then : (j : ℕ) (e : Seat) → numbered (with_numbered k.seats x.owner seat_then) j ≡ Some e → (j ≡ x.owner) ⊎ (j ≡ x.owner → ⊥) → HasClaims more at_ step_.core then_ j e
          seats_then j e at (inl mine) =
              subst (λ (z : Seat). HasClaims more at_ step_.core then_ j z) (some_is seat_then e (sym (around_with k.seats x.owner seat seat_then here).there ∙ ap (numbered (with_numbered k.seats x.owner seat_then)) (sym mine) ∙ at))
              (subst (λ (z : ℕ). HasClaims more at_ step_.core then_ z seat_then) (sym mine)
              (seats_so x.owner seat seat_then refl refl refl refl here (λ g w i found noted_. ((without_adds seat.client.cache (named_by (handle_bytes f)) g w i found noted_), λ its own. gone seat.client.cache (named_by (handle_bytes f)) g w i found noted_ own)) (h.seats x.owner seat here)))
          seats_then j e at (inr apart) =
              let there = sym ((around_with k.seats x.owner seat seat_then here).others j apart) ∙ at in
              seats_so j e e refl refl refl refl there (λ g w i found noted_. ((w, found, noted_), λ its own. apart its)) (h.seats j e there)

pub recall_claimed : FitLaws → {all past rest : List Moment} {opening : List Opening} {k : Core} {ms : List Mix} (n now : ℕ) (bytes : List ℕ) {mid after : List Mix} (s : MixStep all past rest opening k ms (Hears n now bytes) mid after) (clock at_ : ℕ) (noted more : List Noted) → clock ≤ at_ → ((x : Noted) → IsAmong x noted → IsAmong x more)
    → (m : Mix) (xid f : ℕ) (ds : List Down) → numbered ms n ≡ Some m → m.downs ≡ Recalls xid f ∷ ds → bytes ≡ message_spell (recall_message xid f) → mid ≡ with_numbered ms n (record m { downs = ds }) → Claimed noted clock k ms → Claimed more at_ (happens k (Hears n now bytes)).core after
recall_claimed laws {all = all} {opening = opening} {k = k} {ms = ms} n now bytes {mid = mid} {after = after} s clock at_ noted more le grows m xid f ds is first bytes_is mid_is h =
    let x = also_numbered ms k.sessions n m (sym (pairs_are s)) is in
    go x.0 x.1 (uncut x.0 x.1)
  where
    some_none : (d : Down) (bs : List Down) → d ∷ bs ≡ [] → ⊥
    some_none d bs e = absurd cc

    uncut : (x : Session) → numbered k.sessions n ≡ Some x → x.cut ≡ false
    uncut x at = by x.cut refl
      where
        by : (b : Bool) → x.cut ≡ b → x.cut ≡ false
        by false e = e
        by true e = absurd (some_none (Recalls xid f) ds (sym first ∙ (s.fit n x m at is).shut e))

    small : (g : ℕ) (y : File) → the_files.file_at k.server.tree g ≡ Some y → g < 18446744073709551616
    small g y at = (subst (λ (o : Option File). FileIs (book_at opening k all) g o) at (s.plain.kept.server.held g)).2

    go : (x : Session) → numbered k.sessions n ≡ Some x → x.cut ≡ false → Claimed more at_ (happens k (Hears n now bytes)).core after
    go x at un =
        let fits = subst (AllByRecursion DownFits) first (s.fit n x m at is).downs in
        let r = recall_heard laws (book_at opening k all) k (map queue_of ms) n now bytes (map queue_of ms) s.plain.kept (record { session = x; at = at; uncut = un; xid = xid; file = f; xid_fits = fits.0.0; file_fits = fits.0.1; bytes_is = bytes_is; mid_is = refl }) in
        stepped r
      where
        stepped : Recalled k n now bytes → Claimed more at_ (happens k (Hears n now bytes)).core after
        stepped r =
            finish s more at_ (recalled_step k x.owner now r.seat (cache_without r.seat.client.cache (named_by (handle_bytes f))) xid) (r.is ∙ same_step)
            (λ sent. subst (λ (l : List Mix). length (mixes_after l (recalled_step k x.owner now r.seat (cache_without r.seat.client.cache (named_by (handle_bytes f))) xid) sent) ≡ length k.sessions → Claimed more at_ (record k { steps = k.steps + 1; seats = with_numbered k.seats x.owner (with_kept r.seat (cache_without r.seat.client.cache (named_by (handle_bytes f))) (r.seat.client.index, now)) }) (mixes_after l (recalled_step k x.owner now r.seat (cache_without r.seat.client.cache (named_by (handle_bytes f))) xid) sent)) (sym mid_is)
            (λ count. recalled_at k ms n now xid f x r.seat m ds at (ap (λ (y : Session). numbered k.seats y.owner) (sym same_x) ∙ r.owner) r.newest un is first small (pairs_are s) sent count clock at_ noted more le grows h (owners_are s)))
          where
            same_x : r.session ≡ x
            same_x = some_is r.session x (sym r.at ∙ at)

            small_xid : xid < 4294967296
            small_xid = (subst (AllByRecursion DownFits) first (s.fit n x m at is).downs).0.0

            ok_is : (a b : Message) → ◌≡◌ {A = Result Message WireFault} (Ok a) (Ok b) → a ≡ b
            ok_is a b e = cc

            same_message : recall_message r.xid r.file ≡ recall_message xid f
            same_message = ok_is (recall_message r.xid r.file) (recall_message xid f) (sym r.reads ∙ ap (parse_of (waiting_of r.seat.client)) bytes_is ∙ laws.again (waiting_of r.seat.client) (recall_message xid f) (recall_fits xid f small_xid).0 (refl, refl))

            xid_is : (a b g i : ℕ) → recall_message a g ≡ recall_message b i → a ≡ b
            xid_is a b g i e = cc

            same_cache : r.cache ≡ cache_without r.seat.client.cache (named_by (handle_bytes f))
            same_cache = r.cache_is ∙ ap (λ (b : List ℕ). cache_without r.seat.client.cache (named_by b)) (handle_is r.xid xid r.file f same_message)

            same_step : recalled_step k r.session.owner now r.seat r.cache r.xid ≡ recalled_step k x.owner now r.seat (cache_without r.seat.client.cache (named_by (handle_bytes f))) xid
            same_step = ap (λ (y : Session). recalled_step k y.owner now r.seat r.cache r.xid) same_x ∙ ap (λ (es : Entries). recalled_step k x.owner now r.seat es r.xid) same_cache ∙ ap (λ (y : ℕ). recalled_step k x.owner now r.seat (cache_without r.seat.client.cache (named_by (handle_bytes f))) y) (xid_is r.xid xid r.file f same_message)
