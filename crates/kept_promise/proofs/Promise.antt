-- The promise, of every trace that is accepted.
use Rattle.std.proofs.Common.{◌≡◌, ℕ, List, [], ◌∷◌, Some, refl, sym, ◌∙◌, subst, arith, Ok, ap, map}
use Rattle.register_model.specs.declared.op.Outcome.TheVariants as told
use Rattle.register_model.specs.declared.op.Word.TheVariants as words
use Rattle.trace_replay.specs.Traces.{IsKeptPromise}
use Rattle.command_text.specs.declared.command.Command.TheVariants as command
use Rattle.kept_promise.proofs.Common.{Command, Contains-append_right, Contains-push, World, Op, slice_get, passes, run, accepted, Moment, deeds_of, moments, local_before, Deed, book_of, rounds, deals_of, Mix, Queue, queue_of}
use Rattle.kept_promise.proofs.Statements.{ClocksKeepTheRule}
use Rattle.kept_promise.proofs.Rounds.{passes_are_rounds}
use Rattle.kept_promise.proofs.Laws.{fit_laws, kept_laws}
use Rattle.kept_promise.proofs.RunsCarried.{moment, Carried, CarriedMix, lifted, both_carried, Stands}
use Rattle.kept_promise.proofs.RunsEvents.{Fact, MixFact, AsMix}
use Rattle.kept_promise.proofs.Runs.{carried_run, carried_plain, kept_run, clocks_kept, Whatever, has_room}
use Rattle.kept_promise.proofs.Readings.{run_accepted}
use Rattle.kept_promise.proofs.ClaimClocks.{accepted_clocked}
use Rattle.kept_promise.proofs.Claimed.{clock_after, noted_after}
use Rattle.kept_promise.proofs.ClaimRuns.{ClaimsBy, carried_claims}
use Rattle.kept_promise.proofs.ClaimNumbers.{claimed_numbers}
use Rattle.kept_promise.proofs.RunsOpening.{opening_said}
use Rattle.kept_promise.proofs.RunsMessages.{HaveNumbers, holds_messages}
use Rattle.kept_promise.proofs.ChainedRuns.{run_chained}
use Rattle.kept_promise.proofs.Commanded.{events_said, commands_said}
use Rattle.kept_promise.proofs.StepsCount.{steps_counted}
use Rattle.kept_promise.proofs.Done.{deeds_counted, deeds_done, asked_late, IsKnown, rewrite_pointless}
use Rattle.kept_promise.proofs.CutEnds.{AreFollowed, carried_follow, cuts_end}
use Rattle.kept_promise.proofs.StoredWhole.{Stored, carried_stored, has_stored, have_stored, made_sent}
use Rattle.kept_promise.proofs.VersionRuns.{Versions, carried_versions, opens_version}
use Rattle.kept_promise.proofs.MadeRuns.{AllSettled, carried_settled, settles_ready}
use Rattle.kept_promise.proofs.InTurn.{AllTurns, carried_turns, waits_in_turn}
use Rattle.kept_promise.proofs.NotesCame.{AllNotes, carried_notes, answers_recall}
use Rattle.kept_promise.proofs.SmallDeeds.{SmallDeeds, carried_small}
use Rattle.kept_promise.proofs.Alike.{runs_in_order, run_given, all_given}
use Rattle.kept_promise.proofs.Following.{IsFollowed}
use Rattle.kept_promise.proofs.OpensRuns.{IsOpening, carried_opens}
use Rattle.kept_promise.proofs.NoZero.{HaveNoZero, finds_positive}
use Rattle.kept_promise.proofs.NoZeroRuns.{carried_no_zero}
use Rattle.kept_promise.proofs.WalkRuns.{Walks, bare}
use Rattle.kept_promise.proofs.OneSession.{OneSession, carried_one_session}
use Rattle.kept_promise.proofs.WalkEvents.{WalksAt, carried_walks}
use Rattle.kept_promise.proofs.Known.{known_by}
use Rattle.kept_promise.proofs.Refusals.{open_refused, rewrite_refused}
use Rattle.kept_promise.proofs.OwnedRuns.{AllOwned, carried_owned, is_for}
use Rattle.kept_promise.proofs.NumberedRuns.{AllNumbered, carried_numbered}
use Rattle.kept_promise.proofs.LogSums.{counts_log}
use Rattle.kept_promise.proofs.LogEvents.{LogsAt, carried_logs}
use Rattle.kept_promise.proofs.OpenedOnce.{IsMet, carried_once, opened_once}
use Rattle.kept_promise.proofs.Points.{opens_at}
use Rattle.kept_promise.proofs.Rights.{Caused, AreLeased, Soon}
use Rattle.kept_promise.proofs.SoonRuns.{AllSoon, carried_soon}
use Rattle.kept_promise.proofs.OpensLog.{OpensBy, OpenRead, opens_laws, each_reaches, got_by}
use Rattle.kept_promise.proofs.ClosesLog.{names_chunks, pays_all, saves_all}
use Rattle.kept_promise.proofs.MetLog.{attempts_met, attempts_end}
use Rattle.kept_promise.proofs.OwnLog.{OwnBy, OpOwn, own_laws, own_counts}
use Rattle.kept_promise.proofs.Completed.{completes}
use Rattle.kept_promise.proofs.EndedWell.{ends_well}
use Rattle.kept_promise.proofs.KeptUsed.{UsedAt, used_event, follows_used, follows_anew}
use Rattle.kept_promise.proofs.WalkSaid.{AreSaid, GaveNow, said_event, own_calls}
use Rattle.kept_promise.proofs.WalkPages.{begun_pages}
use Rattle.kept_promise.proofs.Messages.{job}
use Rattle.kept_promise.proofs.Lists.{nothing_there}
use Rattle.kept_promise.proofs.Saved.{none_unknown}
use Rattle.kept_promise.proofs.EntriesGrow.{journal_grows}
use Rattle.kept_promise.proofs.Awaiting.{AllAwaited, carried_awaited, changed_by}
use Rattle.kept_promise.proofs.NamesMove.{AllNamed, carried_named, names_change}
use Rattle.kept_promise.proofs.Promised.{no_fault, legal_kept, holds_files, holds_contents, holds_values}
use Rattle.kept_promise.proofs.AtOnceRuns.{both_at_once}

-- ---- facts that are carried together

pub carried_both : (P Q : Fact) → Carried P → Carried Q → Carried (λ all past opening k qs. P all past opening k qs × Q all past opening k qs)
carried_both P Q p q = record {
  first = λ all opening tree header kept. (p.first all opening tree header kept, q.first all opening tree header kept);
  steps = λ all past rest opening k qs e mid after s h. (p.steps all past rest opening k qs e mid after s h.0, q.steps all past rest opening k qs e mid after s h.1);
  adjusts = λ all past opening k qs index seats same h. (p.adjusts all past opening k qs index seats same h.0, q.adjusts all past opening k qs index seats same h.1);
}

abbrev Follows : Fact
Follows all past opening k qs = AreFollowed past k

-- of the steps of changes, of whose the messages are, and of the numbers of calls
abbrev Changes : Fact
Changes all past opening k qs = AllSettled all past opening k qs × (AllOwned all past opening k qs × AllNumbered all past opening k qs)

-- by what was said for operations, in order: what opens read since their last attempt began, why they gave one up, and that all calls are their own
abbrev Logs : Fact
Logs all past opening k qs = LogsAt OpensBy (OpenRead all) past k × (IsMet all past opening k qs × LogsAt OwnBy OpOwn past k)

-- what is told of the commands and their operations, of what these count and store, of versions, and of the rest
abbrev Told : Fact
Told all past opening k qs = Follows all past opening k qs × (Stored all past opening k qs × (Versions all past opening k qs × (Changes all past opening k qs × Logs all past opening k qs)))

logs_carried : Carried Logs
logs_carried = carried_both (λ all past opening k qs. LogsAt OpensBy (OpenRead all) past k) (λ all past opening k qs. IsMet all past opening k qs × LogsAt OwnBy OpOwn past k)
    (carried_logs (λ all. OpensBy) (λ all. OpenRead all) opens_laws fit_laws)
    (carried_both IsMet (λ all past opening k qs. LogsAt OwnBy OpOwn past k) (carried_once fit_laws) (carried_logs (λ all. OwnBy) (λ all. OpOwn) own_laws fit_laws))

-- and that an open gets what its client keeps, and that a walk's calls are its own, which rest on what is told before
abbrev Used : Fact
Used all past opening k qs = Told all past opening k qs × (UsedAt all past opening k × AreSaid past k)

-- how far commands on names came, and what was open where their paths led
abbrev Walked : Fact
Walked all past opening k qs = WalksAt all past opening k qs × ((IsFollowed past k × IsOpening past k) × (HaveNoZero past × OneSession past k))

-- all that is carried
abbrev More : Fact
More all past opening k qs = Used all past opening k qs × (AllNamed all past opening k qs × (SmallDeeds all past opening k qs × Walked all past opening k qs))

-- how pending changes go on, and where notes come from, which needs nothing else
abbrev Leased : Fact
Leased all past opening k qs = AllTurns all past opening k qs × AllNotes all past opening k qs

-- and by which calls the journal grew, and which operations waited for those
abbrev Whole : Fact
Whole all past opening k qs = More all past opening k qs × (AllAwaited all past opening k qs × Leased all past opening k qs)

told_carried : Carried Told
told_carried =
    carried_both Follows (λ all past opening k qs. Stored all past opening k qs × (Versions all past opening k qs × (Changes all past opening k qs × Logs all past opening k qs))) (carried_follow fit_laws)
    (carried_both Stored (λ all past opening k qs. Versions all past opening k qs × (Changes all past opening k qs × Logs all past opening k qs)) (carried_stored fit_laws)
    (carried_both Versions (λ all past opening k qs. Changes all past opening k qs × Logs all past opening k qs) (carried_versions fit_laws)
    (carried_both Changes Logs (carried_both AllSettled (λ all past opening k qs. AllOwned all past opening k qs × AllNumbered all past opening k qs) (carried_settled fit_laws) (carried_both AllOwned AllNumbered (carried_owned fit_laws) (carried_numbered fit_laws))) logs_carried)))

used_carried : Carried Used
used_carried = record {
  first = λ all opening tree header kept. (told_carried.first all opening tree header kept, (record { by = λ m there. (let lt = there.1 in absurd (omega (arith, lt))); leased = λ m there. (let lt = there.1 in absurd (omega (arith, lt))); each = λ m there. (let lt = there.1 in absurd (omega (arith, lt))); shut = λ m there. (let lt = there.1 in absurd (omega (arith, lt))); now = record { told = λ m there. (let lt = there.1 in absurd (omega (arith, lt))); each = λ m there. (let lt = there.1 in absurd (omega (arith, lt))) } }, record { jobs = λ i seat j o here is at. nothing_there o at; each = λ p o at. nothing_there o at }));
  steps = λ all past rest opening k qs e mid after s h.
      let told = told_carried.steps all past rest opening k qs e mid after s h.0 in
      let said = told.1.1.1.0.1.0.by (moment k e) (Contains-append_right past (moment k e ∷ []) (moment k e) (Contains-push [] (moment k e))) in
      (told, (used_event fit_laws all past rest opening k qs e mid after s (record { opens = h.0.1.1.1.1.0; own = h.0.1.1.1.1.1.1; counted = h.0.1.0.counted }) said h.1.0, said_event fit_laws all past rest opening k qs e mid after s h.0.1.1.1.1.0.by h.0.0.followed.deeds.count (λ p d o deed at. (h.0.0.followed.deeds.each p d o deed at).word) h.1.1));
  adjusts = λ all past opening k qs index seats same h. (told_carried.adjusts all past opening k qs index seats same h.0, (record { by = h.1.0.by; leased = h.1.0.leased; each = h.1.0.each; shut = h.1.0.shut; now = h.1.0.now }, record { jobs = λ i seat j o here is at. (let z = same.was i seat here in h.1.1.jobs i z.0 j o z.3 (ap job (sym z.4) ∙ is) at); each = h.1.1.each }));
}

walked_carried : Carried Walked
walked_carried =
    carried_both WalksAt (λ all past opening k qs. (IsFollowed past k × IsOpening past k) × (HaveNoZero past × OneSession past k)) (carried_walks fit_laws)
    (carried_both (λ all past opening k qs. IsFollowed past k × IsOpening past k) (λ all past opening k qs. HaveNoZero past × OneSession past k) (carried_opens fit_laws)
    (carried_both (λ all past opening k qs. HaveNoZero past) (λ all past opening k qs. OneSession past k) carried_no_zero (carried_one_session fit_laws)))

more_carried : Carried More
more_carried =
    carried_both Used (λ all past opening k qs. AllNamed all past opening k qs × (SmallDeeds all past opening k qs × Walked all past opening k qs)) used_carried
    (carried_both AllNamed (λ all past opening k qs. SmallDeeds all past opening k qs × Walked all past opening k qs) (carried_named fit_laws)
    (carried_both SmallDeeds Walked (carried_small fit_laws) walked_carried))

whole_carried : Carried Whole
whole_carried =
    carried_both More (λ all past opening k qs. AllAwaited all past opening k qs × Leased all past opening k qs) more_carried
    (carried_both AllAwaited Leased (carried_awaited fit_laws) (carried_both AllTurns AllNotes carried_turns (carried_notes fit_laws)))

-- ---- the promise of what a run leaves

-- what is known of each command
is_known : (w : World) (all : List Moment) → AreLeased all → (soon : (k : ℕ) (o : Op) → slice_get w.core.ops k ≡ Some o → Soon (book_of w all) o o.outcome) (h : Stands (AsMix More) all all w) → Walks all all w.core → (k : ℕ) (d : Deed) (o : Op) → slice_get (deeds_of all) k ≡ Some d → slice_get w.core.ops k ≡ Some o → IsKnown (book_of w all) d o (local_before (deeds_of all) w.core.ops k d.client o.file)
is_known w all leased soon h walks k d o was at =
    let deeds = h.more.0.0.0.followed.deeds in
    let cause = (h.kept.sound.rights k o at).cause in
    known_by (book_of w all) (deeds_of all) k d o leased (deeds.each k d o was at).word (soon k o at) (rewrite_pointless (book_of w all) o (h.kept.sound.rights k o at)) cause (walks.over k d o was at) h.more.1.1.1.1.0.1.opens was at
    (λ c is late. record {
      positive = λ s found. finds_positive (bare all) h.more.1.1.1.1.1.0 o s found;
      too_long = λ p list none. begun_pages p (deals_of o all) (subst (λ (x : Command). GaveNow x o.outcome o.end o.begin (deals_of o all)) (is ∙ ap (λ z. command.Named z) list) (h.more.0.1.1.each k o at d was).gave none late);
    })
    (λ f is status refused. open_refused (book_of w all) (deeds_of all) deeds.rising deeds.each deeds.count walks.before k d o was at f is cause status refused)
    (λ f is status refused. rewrite_refused (book_of w all) (deeds_of all) deeds.rising deeds.each deeds.count walks.before k d o was at f is cause status refused)

promise_of : (input : List ℕ) (w : World) → AreLeased (moments input) → ((k : ℕ) (o : Op) → slice_get w.core.ops k ≡ Some o → Soon (book_of w (moments input)) o o.outcome) → run input ≡ Ok w → (h : Stands (AsMix More) (moments input) (moments input) w) → AllAwaited (moments input) (moments input) w.opening w.core (map queue_of h.mixes) → Leased (moments input) (moments input) w.opening w.core (map queue_of h.mixes) → HaveNumbers w.core h.mixes → IsKeptPromise input w
promise_of input w leased soon ran h awaited leases counted =
    let all : List Moment = moments input in
    let qs : List Queue = map queue_of h.mixes in
    let stored : Stored all all w.opening w.core qs = h.more.0.0.1.0 in
    let versions : Versions all all w.opening w.core qs = h.more.0.0.1.1.0 in
    let changes : Changes all all w.opening w.core qs = h.more.0.0.1.1.1.0 in
    let logs : Logs all all w.opening w.core qs = h.more.0.0.1.1.1.1 in
    let walks : Walks all all w.core = h.more.1.1.1.0 (runs_in_order input) (w.core.steps, steps_counted (kept_laws fit_laws) fit_laws input w ran) h.more.1.1.1.1.1.1.each in
    record {
      chained = run_chained input w ran;
      faithful = record {
        opening = opening_said input w ran;
        lines = events_said input w ran;
        commands = commands_said input w ran;
        counted = steps_counted (kept_laws fit_laws) fit_laws input w ran;
        count = deeds_counted w all h.more.0.0.0.followed;
        done = (λ k d o was at. deeds_done w all leased soon qs h.kept h.more.0.0.0.followed k d o was at (is_known w all leased soon h walks k d o was at));
        cuts = cuts_end w all h.more.0.0.0.cuts;
        journal = h.kept.sound.journal;
        settled = λ i p e at is kind. changes.0.0.settled i p e at is kind;
        removed = λ i p e at is kind. changes.0.0.removed i p e at is kind;
        settles = settles_ready (book_of w all) changes.0.0.makes changes.0.1;
        waits = waits_in_turn (book_of w all) w.core leases.0;
        closed = λ m there. h.more.1.0.closes m there;
        recalls = λ m there. answers_recall m;
        notes = λ m there. leases.1.come m there;
        points = λ k o at. opens_at (book_of w all) o (λ len digest is. (logs.1.0.once k len digest o at is).called);
        versions = opens_version (book_of w all) w.core qs h.kept leased versions.1;
        no_fault = no_fault (book_of w all) h.kept.sound;
        traffic = stored.counted.counts;
        own = λ k o at. own_counts all o (logs.1.1.each k o at) (counts_log o all (stored.counted.counts k o at));
        attempts = λ k o at. attempts_end (book_of w all) all o (h.kept.sound.rights k o at) (logs.1.0.met.each k o at) (logs.1.1.each k o at);
        met = λ k o at open_. attempts_met all o open_ (logs.1.0.met.each k o at);
        owned = λ m there. is_for w.core.ops m (changes.1.0.each m there);
        files = λ k d o was at. (h.more.0.1.1.each k o at d was).filed;
        names = λ m there. names_change (book_of w all) m (h.more.1.0.named.each m there) changes.1.0.each;
        entered = λ m there. journal_grows (book_of w all) m (awaited.entered.each m there) changes.1.0.each;
        whose = λ k p o at alters point. changed_by all all w.opening w.core qs awaited k p o at alters point;
        calls = λ k d o at is. own_calls d.command o (deals_of o all) (h.more.0.1.1.each k o is d at).each (logs.1.1.each k o is).0;
        numbered = λ n. changes.1.1.each n;
        silent = stored.counted.silent;
        opened = λ k len digest o at is. opened_once (book_of w all) o len digest is (open_word k o len digest at is) (counts_log o all (stored.counted.counts k o at)) (logs.1.1.each k o at) (logs.0.each k o at) (logs.1.0.once k len digest o at is);
        reached = λ k o at open_. each_reaches all o all open_ (logs.0.each k o at);
        fetched = λ k len digest o at is. got_by (book_of w all) o len digest is (open_word k o len digest at is) (logs.1.1.each k o at) (logs.0.each k o at) (counts_log o all (stored.counted.counts k o at)) leased;
        named = λ k o at close. names_chunks all o close (stored.closes.each k o at);
        paid = λ k o at close. pays_all all o close (stored.closes.each k o at);
        stored = λ k o at sent. has_stored all o (stored.counted.counts k o at) (stored.closes.each k o at) (logs.1.1.each k o at) sent;
        made = λ k p o at close point. made_sent (book_of w all) all w.opening w.core qs h.kept stored k p o at close point;
      };
      legal = λ apart. (let l = legal_kept (book_of w all) w.core qs h.kept leased apart in record { apart = l.apart; within = l.within; opens = l.opens; absences = l.absences; successes = l.successes; failures = l.failures });
      complete = record {
        ended = completes fit_laws w all h.mixes h.kept h.carry h.fit h.rested;
        well = λ k d o was at alone asks free uncut.
            ends_well (book_of w all) d o _ (λ n is status refused. (is_known w all leased soon h walks k d o was at).ends n is (asked_late (deeds_of all) w.core.ops k d o n (h.more.0.0.0.followed.deeds.each k d o was at) is asks free) status refused) (deeds_done w all leased soon qs h.kept h.more.0.0.0.followed k d o was at (is_known w all leased soon h walks k d o was at)) (completes fit_laws w all h.mixes h.kept h.carry h.fit h.rested k o at alone) asks free uncut;
      };
      saving = record {
        known = λ m there. (h.more.1.0.saved.each m there).0;
        told = λ m there. (h.more.1.0.saved.each m there).1;
        saved = λ k o at close known. saves_all all o close (stored.closes.each k o at) (stored.counted.counts k o at) (none_unknown all o (λ m there. (h.more.1.0.saved.each m there).1) known);
        asked = λ m there. (h.more.1.0.saved.each m there).2;
        found = λ m there. (h.more.1.0.saved.each m there).3;
        leased = λ m k o there at. h.more.0.1.0.leased m there k o at;
        used = λ m k o there at. follows_used m o (h.more.0.1.0.each m there k o at);
        spares = λ m there. (h.more.1.0.saved.each m there).5;
        anew = λ m k o there at. follows_anew m o (h.more.0.1.0.each m there k o at);
        at_once = λ m k o there at. both_at_once m o (h.more.0.1.0.now.each m there k o at);
      };
      waiting = holds_values (book_of w all) w qs h.kept (have_stored (book_of w all) all all w.opening w.core qs h.kept stored (λ p o at. logs.1.1.each p o at));
      tree = holds_files (book_of w all) w qs refl h.kept;
      contents = holds_contents (book_of w all) w qs h.kept;
      messages = holds_messages (AsMix More) fit_laws all all w h counted;
    }
  where
    -- it is an open
    open_word : (k : ℕ) (o : Op) (len : ℕ) (digest : List ℕ) → slice_get w.core.ops k ≡ Some o → o.outcome ≡ told.Opened len digest → o.word ≡ words.Open
    open_word k o len digest at is = (subst (Caused (book_of w (moments input)) o) is (h.kept.sound.rights k o at).cause).0

-- ---- the laws

pub accepted_exactly : ClocksKeepTheRule
accepted_exactly = clocks_kept (kept_laws fit_laws) fit_laws

pub passes_run : (input : List ℕ) (w : World) → run input ≡ Ok w → (count number server at : ℕ) → passes count w number server at ≡ rounds count w number server at
passes_run input w ran count number server at = passes_are_rounds count w number server at (kept_run (kept_laws fit_laws) fit_laws input w ran).rested

-- where what is carried of leases, whatever it is, gives that no note is stale and that RECALLs have numbers of their own
pub promise_by : (C : MixFact) → CarriedMix C → (input : List ℕ) (w : World) → run input ≡ Ok w → ((ms : List Mix) → C (moments input) (moments input) w.opening w.core ms → AreLeased (moments input) × HaveNumbers w.core ms) → IsKeptPromise input w
promise_by C claims input w ran gives =
    let h = carried_run (λ all past opening k ms. AsMix Whole all past opening k ms × C all past opening k ms) (kept_laws fit_laws) fit_laws (both_carried (AsMix Whole) C (lifted Whole whole_carried) claims) input w ran in
    let early = carried_plain AllSoon (kept_laws fit_laws) fit_laws (carried_soon fit_laws) input w ran in
    let g = gives h.mixes h.more.1 in
    promise_of input w g.0 (λ k o at. early.more.each g.0 k o at) ran (record { mixes = h.mixes; fit = h.fit; kept = h.kept; early = h.early; carry = h.carry; rested = h.rested; more = h.more.0.0 }) h.more.0.1.0 h.more.0.1.1 g.1

pub promise_accepted : (input : List ℕ) (w : World) → accepted input ≡ Ok w → IsKeptPromise input w
promise_accepted input w e =
    let ran = run_accepted input w e in
    let c = accepted_clocked Whatever (has_room (kept_laws fit_laws) fit_laws) input w e in
    promise_by (ClaimsBy c.0) (carried_claims fit_laws c.0) input w ran (λ ms h.
    let g = h c.1 (all_given input) in
    (g.1, claimed_numbers (noted_after [] c.0 (moments input)) (clock_after 0 c.0 (moments input)) w.core ms (g.0 (run_given input w ran))))
