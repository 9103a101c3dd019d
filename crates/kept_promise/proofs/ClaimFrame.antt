-- A claim goes through an event with its session; so what rests on claims does.
use Rattle.std.proofs.Common.{◌≡◌, ℕ, ◌+◌, ◌<◌, ◌≤◌, List, [], ◌∷◌, ◌++◌, Some, Bool, true, false, refl, sym, ap, ◌∙◌, subst, arith}
use Rattle.clock_rule.specs.declared.rule.Note.{Note as Noted}
use Rattle.wire.specs.declared.message.Message.{Message}
use Rattle.client_state.specs.declared.task.Task.{Task}
use Rattle.server_core.specs.State as server
use Rattle.server_core.specs.Step.{server_step}
use Rattle.server_core.specs.declared.event.Event.{Event}
use Rattle.lease_law.specs.Claims.{Way, Claim, IsAmong, IsClaim, IsNote, IsPromise}
use Rattle.lease_law.specs.Orderly.{IsOrderly, AreNumbered, IsTimed, IsOnWay, sent_on, behind_with}
use Rattle.lease_law.proofs.lemmas.Events.{event_keeps}
use Rattle.lease_law.proofs.lemmas.Ways.{safe_taken}
use Rattle.kept_promise.proofs.Common.{Core, Session, numbered, unless, Down, Down.Tells, Down.Recalls, Mix}
use Rattle.kept_promise.proofs.Lists.{some_is}
use Rattle.kept_promise.proofs.Claimed.{HasNote, IsPromised, AllTails, downs_of, way_of}

abbrev pub claim_of : (session file version base : ℕ) → Claim
claim_of session file version base = record { session = session; file = file; version = version; base = base }

-- ---- notes and promises, by claims

module _ (s t : server.State) (clock now drift : ℕ) (noted more : List Noted) (client session file version : ℕ) (way after : Way) (behind later : List Message) (term : t.leasing.term ≡ s.leasing.term) (grows : (x : Noted) → IsAmong x noted → IsAmong x more)
    (go : (base : ℕ) → IsClaim s clock (claim_of session file version base) way behind → IsClaim t now (claim_of session file version base) after later) where
  pub note_map : (until : ℕ) → IsNote s clock drift noted client session file version until way behind → IsNote t now drift more client session file version until after later
  note_map until h = record {
    sent = h.sent;
    ends = h.ends ∙ ap (λ (n : ℕ). h.sent + n) (sym term);
    some = subst (λ (n : ℕ). drift < n) (sym term) h.some;
    has = record { base = h.has.base; known = grows _ h.has.known; claim = go h.has.base h.has.claim };
  }

  pub promise_map : (told sent : ℕ) → IsPromise s clock drift noted client session file version told sent way behind → IsPromise t now drift more client session file version told sent after later
  promise_map told sent h lt = let p = h lt in (p.0 ∙ sym term, record { base = p.1.base; known = grows _ p.1.known; claim = go p.1.base p.1.claim })

-- ---- a session goes on

-- claims on these files go on
pub record Goes (clock now : ℕ) (k l : Core) (ms after : List Mix) (n : ℕ) (keeps : ℕ → Type 0) : Type 0 where
  pub was : Session
  pub mix : Mix
  pub is : Session
  pub mixed : Mix
  pub was_there : numbered k.sessions n ≡ Some was
  pub mix_there : numbered ms n ≡ Some mix
  pub is_there : numbered l.sessions n ≡ Some is
  pub mixed_there : numbered after n ≡ Some mixed
  pub owner : is.owner ≡ was.owner
  pub claims : (file version base : ℕ) → keeps file → IsClaim k.server clock (claim_of n file version base) (way_of was mix) (downs_of mix.downs) → IsClaim l.server now (claim_of n file version base) (way_of is mixed) (downs_of mixed.downs)

pub note_goes : (noted more : List Noted) (clock now : ℕ) (k l : Core) (ms after : List Mix) (i f version until : ℕ) → l.drift ≡ k.drift → l.server.leasing.term ≡ k.server.leasing.term → ((x : Noted) → IsAmong x noted → IsAmong x more)
    → (h : HasNote noted clock k ms i f version until) → (keeps : ℕ → Type 0) → Goes clock now k l ms after h.number keeps → keeps f → HasNote more now l after i f version until
note_goes noted more clock now k l ms after i f version until drift term grows h keeps g keep =
    let x : h.session ≡ g.was = some_is h.session g.was (sym h.there ∙ g.was_there) in
    let m : h.mix ≡ g.mix = some_is h.mix g.mix (sym h.mix_is ∙ g.mix_there) in
    let was = subst (λ (z : Session). IsNote k.server clock k.drift noted i h.number f version until (way_of z g.mix) (downs_of g.mix.downs)) x
    (subst (λ (z : Mix). IsNote k.server clock k.drift noted i h.number f version until (way_of h.session z) (downs_of z.downs)) m h.note) in
    record {
      number = h.number;
      session = g.is;
      mix = g.mixed;
      there = g.is_there;
      mix_is = g.mixed_there;
      owner = g.owner ∙ ap (λ (z : Session). z.owner) (sym x) ∙ h.owner;
      note = subst (λ (d : ℕ). IsNote l.server now d more i h.number f version until (way_of g.is g.mixed) (downs_of g.mixed.downs)) (sym drift)
          (note_map k.server l.server clock now k.drift noted more i h.number f version (way_of g.was g.mix) (way_of g.is g.mixed) (downs_of g.mix.downs) (downs_of g.mixed.downs) term grows (λ base c. g.claims f version base keep c) until was);
    }

-- ---- promises, one by one

-- each goes on with more behind it, and what is new is promised too
pub tails_more : (P Q : Down → List Down → Type 0) (more : List Down) → ((d : Down) (ds : List Down) → P d ds → Q d (ds ++ more)) → AllTails Q more → (ds : List Down) → AllTails P ds → AllTails Q (ds ++ more)
tails_more P Q more go new [] h = new
tails_more P Q more go new (d ∷ ds) h = (go d ds h.0, tails_more P Q more go new ds h.1)

pub tails_map : (P Q : Down → List Down → Type 0) → ((d : Down) (ds : List Down) → P d ds → Q d ds) → (ds : List Down) → AllTails P ds → AllTails Q ds
tails_map P Q go [] h = tt
tails_map P Q go (d ∷ ds) h = (go d ds h.0, tails_map P Q go ds h.1)

pub tails_unless : (P Q : Down → List Down → Type 0) (b : Bool) (more : List Down) → ((d : Down) (ds : List Down) → P d ds → Q d (unless b ds more)) → (b ≡ false → AllTails Q more) → (ds : List Down) → AllTails P ds → AllTails Q (unless b ds more)
tails_unless P Q true more go new ds h = tails_map P Q go ds h
tails_unless P Q false more go new ds h = tails_more P Q more go (new refl) ds h

-- an answer's promise, by claims on the file
pub promised_map : (noted more : List Noted) (clock now : ℕ) (k l : Core) (i n : ℕ) (way after : Way) (sent : ℕ) (t : Task) (d : Down) (behind later : List Down) → l.drift ≡ k.drift → l.server.leasing.term ≡ k.server.leasing.term → ((x : Noted) → IsAmong x noted → IsAmong x more)
    → ((version base : ℕ) → IsClaim k.server clock (claim_of n t.file version base) way (downs_of behind) → IsClaim l.server now (claim_of n t.file version base) after (downs_of later))
    → IsPromised noted clock k i n way sent t d behind → IsPromised more now l i n after sent t d later
promised_map noted more clock now k l i n way after sent t (Tells a) behind later drift term grows go h = λ g mine lease.
    subst (λ (e : ℕ). IsPromise l.server now e more i n t.file g.version g.term sent after (downs_of later)) (sym drift)
    (promise_map k.server l.server clock now k.drift noted more i n t.file g.version way after (downs_of behind) (downs_of later) term grows (λ base c. go g.version base c) g.term sent (h g mine lease))
promised_map noted more clock now k l i n way after sent t (Recalls x f) behind later drift term grows go h = tt

-- ---- the server's part

module _ (s : server.State) (clock now : ℕ) (e : Event) (o : IsOrderly s clock) (timed : IsTimed e clock now) (le : clock ≤ now) (n : ℕ) (some : 0 < n) (made : n ≤ s.sessions_made) (way : Way) (downs : List Message) (numbers : AreNumbered s n way.ups downs) (own : IsOnWay e n way.ups) where
  pub server_claim : (behind : List Message) (file version base : ℕ) → IsClaim s clock (claim_of n file version base) way behind → IsClaim (server_step s e).0 now (claim_of n file version base) way (behind_with way behind (sent_on n (server_step s e).1.send))
  server_claim behind file version base c =
      let b = c.0 in
      let h = event_keeps s clock now (claim_of n file version base) way behind downs c.0 some made o false e timed own (λ q. (numbers.drawn q).answers) in
      (omega (arith, b, le), h.safe c.1)

  pub server_numbers : AreNumbered (server_step s e).0 n way.ups (behind_with way downs (sent_on n (server_step s e).1.send))
  server_numbers = (event_keeps s clock now (claim_of n 0 0 0) way downs downs (omega arith) some made o false e timed own (λ q. (numbers.drawn q).answers)).numbered numbers

  pub server_orderly : IsOrderly (server_step s e).0 now
  server_orderly = (event_keeps s clock now (claim_of n 0 0 0) way downs downs (omega arith) some made o false e timed own (λ q. (numbers.drawn q).answers)).orderly

-- the first message is taken
pub taken_numbers : (s : server.State) (n : ℕ) (m : Message) (us downs : List Message) → AreNumbered s n (m ∷ us) downs → AreNumbered s n us downs
taken_numbers s n m us downs h = record { drawn = λ q. (let d = h.drawn q in record { answers = d.answers.1; calls = d.calls }); apart = h.apart }

pub taken_claim : (s : server.State) (clock : ℕ) (c : Claim) (m : Message) (us : List Message) (cut : Bool) (behind : List Message) → IsClaim s clock c (record { ups = m ∷ us; cut = cut }) behind → IsClaim s clock c (record { ups = us; cut = cut }) behind
taken_claim s clock c m us cut behind h = (h.0, safe_taken s clock c m us cut behind h.1)
