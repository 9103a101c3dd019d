-- One event of a run: what it leaves is kept, has records, and the wires carry what is on its way.
use Rattle.std.proofs.Common.{inl, inr, ◌≡◌, ℕ, zero, List, [], ◌∷◌, ◌++◌, append_assoc, refl, sym, ap, ◌∙◌, subst, arith, map}
use Rattle.std.proofs.lemmas.Grind.{flat_map-append}
use Rattle.trace_replay.specs.Trail.{hashed_in}
use Rattle.kept_promise.proofs.Common.{Contains-append_left, Contains-append_right, Contains, flat_map, Entry, Op, Opening, Core, Seat, Event, Event.Joins, Event.Does, Event.Serves, Event.Hears, Event.Settles, Event.Cuts, Event.Hangs, CoreStep, with_numbered, happens, World, happened, Moment, hashed_of, hashed_by, Book, Queue, Mix, queue_of, Event.RawJoins}
use Rattle.kept_promise.proofs.Lists.{some_is}
use Rattle.kept_promise.proofs.Facts.{IsKept}
use Rattle.kept_promise.proofs.Leading.{Sends, queues_after, mixes_after, IsNoted, Leads}
use Rattle.kept_promise.proofs.Mixes.{AreMixes, after_plain}
use Rattle.kept_promise.proofs.MixesFit.{finds_plain, mixes_fit, map_count}
use Rattle.kept_promise.proofs.Routes.{routes_carry}
use Rattle.kept_promise.proofs.Rounds.{rests_happened}
use Rattle.kept_promise.proofs.Wider.{Wider, kept_wider, wider_more, wider_split, alike_of}
use Rattle.kept_promise.proofs.RunsCarried.{KeptLaws, book_at, moment, Finds, FindsMix, CarriedMix, Stands}
use Rattle.register_model.specs.declared.raw.Raw.{Raw}
use Rattle.kept_promise.proofs.OwnersKept.{owners_stay, deaf_of, sent_owned}

abbrev pub Fact : Type 1
Fact = (all past : List Moment) → List Opening → Core → List Queue → Type 0

-- one that speaks of RECALLs
abbrev pub MixFact : Type 1
MixFact = (all past : List Moment) → List Opening → Core → List Mix → Type 0

-- a fact that doesn't, as one that could
abbrev pub AsMix : Fact → MixFact
AsMix P all past opening k ms = P all past opening k (map queue_of ms)

-- ---- the moment is noted

here : {A : Type 0} (x : A) (xs : List A) → Contains (x ∷ xs) x
here x xs = (zero, omega arith, refl)

noted_of : (all past rest : List Moment) (opening : List Opening) (k : Core) (e : Event) → all ≡ past ++ moment k e ∷ rest → IsNoted (book_at opening k all) k e
noted_of all past rest opening k e split = record {
  there = subst (λ (l : List Moment). Contains l (moment k e)) (sym split) (Contains-append_right past (moment k e ∷ rest) (moment k e) (here (moment k e) rest));
  hashed = λ b at.
      let own = Contains-append_left (hashed_by k e) (flat_map hashed_in rest) b at in
      let behind = Contains-append_right (flat_map hashed_in past) (hashed_by k e ++ flat_map hashed_in rest) b own in
      subst (λ (l : List Moment). Contains (hashed_of l) b) (sym split) (subst (λ (l : List (List ℕ)). Contains l b) (sym (flat_map-append hashed_in past (moment k e ∷ rest))) behind);
}

-- ---- the book that an event leads to is that of what it leaves

same_book : (more : Book) (opening : List Opening) (k : Core) (all : List Moment) → more.lbfs ≡ k.lbfs → more.opening ≡ opening → more.ops ≡ k.ops → more.raws ≡ k.raws → more.steps ≡ k.steps → more.journal ≡ k.server.journal → more.entries ≡ k.entries → more.moments ≡ all → more ≡ book_at opening k all
same_book more opening k all v o p r s j e m =
    ap (λ (z : ℕ). record more { lbfs = z }) v
    ∙ ap (λ (z : List Opening). record more { lbfs = k.lbfs; opening = z }) o
    ∙ ap (λ (z : List Op). record { lbfs = k.lbfs; opening = opening; ops = z; raws = more.raws; steps = more.steps; journal = more.journal; entries = more.entries; moments = more.moments }) p
    ∙ ap (λ (z : List Raw). record { lbfs = k.lbfs; opening = opening; ops = k.ops; raws = z; steps = more.steps; journal = more.journal; entries = more.entries; moments = more.moments }) r
    ∙ ap (λ (z : ℕ). record { lbfs = k.lbfs; opening = opening; ops = k.ops; raws = k.raws; steps = z; journal = more.journal; entries = more.entries; moments = more.moments }) s
    ∙ ap (λ (z : List Entry). record { lbfs = k.lbfs; opening = opening; ops = k.ops; raws = k.raws; steps = k.steps; journal = z; entries = more.entries; moments = more.moments }) j
    ∙ ap (λ (z : List ℕ). record { lbfs = k.lbfs; opening = opening; ops = k.ops; raws = k.raws; steps = k.steps; journal = k.server.journal; entries = z; moments = more.moments }) e
    ∙ ap (λ (z : List Moment). record { lbfs = k.lbfs; opening = opening; ops = k.ops; raws = k.raws; steps = k.steps; journal = k.server.journal; entries = k.entries; moments = z }) m

-- ---- any event

leads_of : KeptLaws → (book : Book) (k : Core) (qs : List Queue) (e : Event) (mid : List Queue) → IsKept book k qs → Finds k qs e mid → IsNoted book k e → Leads book mid (happens k e)
leads_of l book k qs (Joins c) mid kept f noted =
    subst (λ (z : List Queue). Leads book z (happens k (Joins c))) (sym f.5) (l.joins book k qs c kept noted f.3 f.4 (λ seat at. ap (λ (z : Seat). z.client.linked) (some_is seat f.0 (sym at ∙ f.1)) ∙ f.2))
leads_of l book k qs (Does c now d) mid kept f noted = subst (λ (z : List Queue). Leads book z (happens k (Does c now d))) (sym f.3) (l.does book k qs c now d f.2 kept noted)
leads_of l book k qs (Serves n now bytes) mid kept (inl f) noted =
    let is = f.5 in
    subst (λ (z : List Queue). Leads book z (happens k (Serves n now bytes))) (sym f.6)
    (subst (λ (b : List ℕ). Leads book (with_numbered qs n (record f.0 { ups = f.2 })) (happens k (Serves n now b))) (sym is)
    (l.serves book k qs n now f.0 f.1 f.2 kept f.3 f.4 (subst (λ (b : List ℕ). IsNoted book k (Serves n now b)) is noted)))
leads_of l book k qs (Serves n now bytes) mid kept (inr (inl f)) noted =
    let is = f.bytes_is in
    subst (λ (z : List Queue). Leads book z (happens k (Serves n now bytes))) (sym f.mid_is)
    (subst (λ (b : List ℕ). Leads book qs (happens k (Serves n now b))) (sym is)
    (l.replies book k qs n now f.xid f.session f.at f.unhung f.fits kept (subst (λ (b : List ℕ). IsNoted book k (Serves n now b)) is noted)))
leads_of l book k qs (Serves n now bytes) mid kept (inr (inr f)) noted = subst (λ (z : List Queue). Leads book z (happens k (Serves n now bytes))) (sym f.3) (l.raws book k qs n now bytes f.0 f.1 f.2 f.4 kept noted)
leads_of l book k qs (Hears n now bytes) mid kept (inl f) noted =
    let is = f.5 in
    subst (λ (z : List Queue). Leads book z (happens k (Hears n now bytes))) (sym f.6)
    (subst (λ (b : List ℕ). Leads book (with_numbered qs n (record f.0 { downs = f.2 })) (happens k (Hears n now b))) (sym is)
    (l.hears book k qs n now f.0 f.1 f.2 kept f.3 f.4 (subst (λ (b : List ℕ). IsNoted book k (Hears n now b)) is noted)))
leads_of l book k qs (Hears n now bytes) mid kept (inr f) noted =
    let is = f.bytes_is in
    subst (λ (z : List Queue). Leads book z (happens k (Hears n now bytes))) (sym f.mid_is)
    (subst (λ (b : List ℕ). Leads book qs (happens k (Hears n now b))) (sym is)
    (l.recalls book k qs n now f.xid f.file f.xid_fits f.file_fits kept (subst (λ (b : List ℕ). IsNoted book k (Hears n now b)) is noted)))
leads_of l book k qs (Settles now) mid kept f noted = subst (λ (z : List Queue). Leads book z (happens k (Settles now))) (sym f) (l.settles book k qs now kept noted)
leads_of l book k qs (Cuts c) mid kept f noted = subst (λ (z : List Queue). Leads book z (happens k (Cuts c))) (sym f.2) (l.cuts book k qs c kept noted)
leads_of l book k qs (Hangs n) mid kept f noted = subst (λ (z : List Queue). Leads book z (happens k (Hangs n))) (sym f.2) (l.hangs book k qs n kept noted)
leads_of l book k qs RawJoins mid kept f noted = subst (λ (z : List Queue). Leads book z (happens k RawJoins)) (sym f.2) (l.raw_joins book k qs kept noted f.0 f.1)

-- what an event leaves, apart from the wires
pub record Left (P : MixFact) (all past : List Moment) (opening : List Opening) (k : Core) (e : Event) (mid : List Mix) : Type 0 where
  pub sends : Sends (happens k e)
  pub fit : AreMixes (happens k e).core.sessions (mixes_after mid (happens k e) sends)
  pub kept : IsKept (book_at opening (happens k e).core all) (happens k e).core (map queue_of (mixes_after mid (happens k e) sends))
  pub early : IsKept (book_at opening (happens k e).core (past ++ moment k e ∷ [])) (happens k e).core (map queue_of (mixes_after mid (happens k e) sends))
  pub more : P all (past ++ moment k e ∷ []) opening (happens k e).core (mixes_after mid (happens k e) sends)

pub left_by : (P : MixFact) → KeptLaws → CarriedMix P → (all past rest : List Moment) (opening : List Opening) (k : Core) (ms : List Mix) (e : Event) (mid : List Mix) → all ≡ past ++ moment k e ∷ rest → AreMixes k.sessions ms → IsKept (book_at opening k all) k (map queue_of ms) → IsKept (book_at opening k past) k (map queue_of ms) → FindsMix k ms e mid → P all past opening k ms → Left P all past opening k e mid
left_by P l carried all past rest opening k ms e mid split fit kept early found holds =
    let t : CoreStep = happens k e in
    let now : List Moment = past ++ moment k e ∷ [] in
    let within : Wider now all = wider_split all now rest (split ∙ sym (append_assoc past (moment k e ∷ []) rest)) in
    let book = kept_wider (book_at opening k past) now k (map queue_of ms) (wider_more past (moment k e ∷ [])) (alike_of now all within kept.sound.alike) early in
    let finds : Finds k (map queue_of ms) e (map queue_of mid) = finds_plain k ms e mid kept.made.1 fit found in
    let lead = leads_of l (book_at opening k now) k (map queue_of ms) e (map queue_of mid) book finds (noted_of now past [] opening k e refl) in
    let same : lead.more ≡ book_at opening t.core now = same_book lead.more opening t.core now lead.kept.lbfs lead.opening lead.kept.ops lead.kept.raws lead.kept.steps lead.kept.journal lead.kept.entries lead.moments in
    let after : List Mix = mixes_after mid t lead.sends in
    let plain : map queue_of after ≡ queues_after (map queue_of mid) t lead.sends = after_plain mid t lead.sends in
    let left_early = subst (λ (qs : List Queue). IsKept (book_at opening t.core now) t.core qs) (sym plain) (subst (λ (b : Book). IsKept b t.core (queues_after (map queue_of mid) t lead.sends)) same lead.kept) in
    let left = kept_wider (book_at opening t.core now) all t.core (map queue_of after) within kept.sound.alike left_early in
    let left_fit : AreMixes t.core.sessions after = mixes_fit k ms e mid lead.sends kept.made.1 fit (sent_owned kept e) found in
    record {
      sends = lead.sends;
      fit = left_fit;
      kept = left;
      early = left_early;
      more = carried.steps all past rest opening k ms e mid after (record {
        plain = record { split = split; kept = kept; noted = noted_of all past rest opening k e split; finds = finds; sends = lead.sends; after_is = plain; left = left; early = early; left_early = left_early };
        found = found;
        sent = lead.sends;
        after_is = refl;
        fit = fit;
        left_fit = left_fit;
      }) holds;
    }

-- ---- an event that takes no record

pub event_stands : (P : MixFact) → KeptLaws → CarriedMix P → (all past rest : List Moment) (w : World) (e : Event) → (h : Stands P all past w) → all ≡ past ++ moment w.core e ∷ rest → FindsMix w.core h.mixes e h.mixes → Stands P all (past ++ moment w.core e ∷ []) (happened w e)
event_stands P l carried all past rest w e h split found =
    let left = left_by P l carried all past rest w.opening w.core h.mixes e h.mixes split h.fit h.kept h.early found h.more in
    record {
      mixes = mixes_after h.mixes (happens w.core e) left.sends;
      fit = left.fit;
      kept = left.kept;
      early = left.early;
      carry = routes_carry w.core.sessions w.wires h.mixes (happens w.core e) left.sends (owners_stay w.core e) (deaf_of left.kept) (sent_owned h.kept e) (sym h.kept.made.1 ∙ map_count queue_of h.mixes) h.carry;
      rested = rests_happened w e h.rested;
      more = left.more;
    }
