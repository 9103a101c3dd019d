-- What a run that replays a trace and ends with Done was of, and what it wrote.
use Rattle.std.proofs.Common.{◌≡◌, ℕ, ◌≤◌, List, Bool, true, false, Option, Some, Result, Ok, Err, length, nat_lt, refl, sym, ap, ◌∙◌, subst, arith}
use Rattle.std.specs.Io.KnownBytes.{Appends}
use Rattle.std.proofs.lemmas.Bool.Decides.{nat_tests}
use Rattle.trace_replay.specs.declared.fault.Refused.{Refused}
use Rattle.trace_replay.specs.World.{World}
use Rattle.trace_replay.specs.Timed.{accepted}
use Rattle.trace_replay.specs.Traces.{IsKeptPromise}
use Rattle.trace_generator.specs.Lines.{generated_text}
use Rattle.exit_status.specs.declared.status.Status.{Status}
use Rattle.exit_status.specs.declared.status.Status.TheVariants as status
use Rattle.program_words.specs.declared.asked.View.{View}
use Rattle.program_words.specs.declared.asked.InputCommand.TheVariants as input
use Rattle.program_words.specs.declared.asked.SeedCommand.{SeedCommand}
use Rattle.program_words.specs.declared.asked.SeedCommand.TheVariants as seeded
use Rattle.program_words.specs.declared.asked.Command.{Command}
use Rattle.program_words.specs.declared.asked.Command.TheVariants.{OfInput, OfSeed}
use Rattle.program_words.specs.Words.{IsFew}
use Rattle.lbfs_run.specs.Output.{told, output_for, replay_output, seed_output, unless_long, most_bytes}
use Rattle.lbfs_run.specs.PlainEnds.{IsAnswered, IsAnsweredFrom, IsRun}

abbrev pub KeepsPromises : Type 0
KeepsPromises = (input : List ℕ) (w : World) → accepted input ≡ Ok w → IsKeptPromise input w

abbrev pub AreAccepted : Type 0
AreAccepted = (seed blocks : ℕ) → blocks ≤ 5000 → (w : World) × (accepted (generated_text seed blocks) ≡ Ok w)

-- stated for any goal: the kernel takes that of a whole run apart, where `cc` stands in it
not_refused : {A : Type 0} → ◌≡◌ {A = Status} status.Done status.Refused → A
not_refused e = cc

told_whole : (view : View) (trace : List ℕ) (held held' : Option (List ℕ)) (ran : Result World Refused) → KeepsPromises → accepted trace ≡ ran
    → status.Done ≡ (told view ran).0 → Appends held held' (told view ran).1 → IsRun view held held' trace
told_whole view trace held held' (Ok w) kept e done given = (w, e, given, kept trace w e)
told_whole view trace held held' (Err n) kept e done given = not_refused done

within : (view : View) (trace : List ℕ) (held held' : Option (List ℕ)) (long : Bool) → KeepsPromises → status.Done ≡ (unless_long long (replay_output view trace)).0
    → Appends held held' (unless_long long (replay_output view trace)).1 → IsRun view held held' trace
within view trace held held' true kept done given = not_refused done
within view trace held held' false kept done given = told_whole view trace held held' (accepted trace) kept refl done given

-- what is answered for one input, by one command
abbrev Answered : Option Command → Option (List ℕ) → Option (List ℕ) → Status → List ℕ → Type 0
Answered command held held' s bytes = (s ≡ (output_for command bytes).0) × Appends held held' (output_for command bytes).1

pub replayed : (asked : Option Command) (left held held' : Option (List ℕ)) (s : Status) (view : View) (trace : List ℕ) → KeepsPromises
    → IsAnswered asked left held held' s → asked ≡ Some (OfInput (input.Replay view)) → s ≡ status.Done → left ≡ Some trace → IsRun view held held' trace
replayed asked left held held' s view trace kept answered asks done told =
    let given = answered trace told in
    let named = subst (λ (c : Option Command). Answered c held held' s trace) asks given in
    let a = subst (λ (x : Status). Answered (Some (OfInput (input.Replay view))) held held' x trace) done named in
    within view trace held held' (nat_lt most_bytes (length trace)) kept a.0 a.1

pub generated : (asked : Option Command) (left left' held held' : Option (List ℕ)) (s : Status) (view : View) (seed blocks : ℕ) → KeepsPromises
    → IsAnsweredFrom asked left left' held held' s → asked ≡ Some (OfSeed seed blocks (seeded.Replay view)) → s ≡ status.Done → IsRun view held held' (generated_text seed blocks)
generated asked left left' held held' s view seed blocks kept answered asks done =
    let named = subst (λ (c : Option Command). Answered c held held' s answered.0) asks (answered.3, answered.4) in
    let a = subst (λ (x : Status). Answered (Some (OfSeed seed blocks (seeded.Replay view))) held held' x answered.0) done named in
    told_whole view (generated_text seed blocks) held held' (accepted (generated_text seed blocks)) kept refl a.0 a.1

-- ---- a generated trace is not refused

never : {A : Type 0} (seed blocks : ℕ) (command : SeedCommand) → ((w : World) × (accepted (generated_text seed blocks) ≡ Ok w)) → status.Refused ≡ (seed_output seed blocks command).0 → A
never seed blocks seeded.Write is e = cc
never seed blocks (seeded.Replay view) is e =
    let done : status.Refused ≡ status.Done = e ∙ ap (λ (r : Result World Refused). (told view r).0) is.1 in
    cc

pub unrefused : (asked : Option Command) (left left' held held' : Option (List ℕ)) (s : Status) (seed blocks : ℕ) (command : SeedCommand) → AreAccepted → IsFew asked
    → IsAnsweredFrom asked left left' held held' s → asked ≡ Some (OfSeed seed blocks command) → s ≡ status.Refused → ⊥
unrefused asked left left' held held' s seed blocks command all few answered asks refused =
    let named = subst (λ (c : Option Command). Answered c held held' s answered.0) asks (answered.3, answered.4) in
    never seed blocks command (all seed blocks (subst IsFew asks few)) (sym refused ∙ named.0)

-- ---- nor is its text, where it is read

abbrev pub AreShort : Type 0
AreShort = (seed blocks : ℕ) → blocks ≤ 5000 → length (generated_text seed blocks) ≤ most_bytes

not_long : (n m : ℕ) → n ≤ m → nat_lt m n ≡ false
not_long n m h = grind (arith, nat_tests, h)

pub unrefused_read : (asked : Option Command) (left held held' : Option (List ℕ)) (s : Status) (view : View) (seed blocks : ℕ) → AreAccepted → AreShort
    → IsAnswered asked left held held' s → asked ≡ Some (OfInput (input.Replay view)) → blocks ≤ 5000 → left ≡ Some (generated_text seed blocks) → s ≡ status.Refused → ⊥
unrefused_read asked left held held' s view seed blocks all short answered asks few told refused =
    let trace : List ℕ = generated_text seed blocks in
    let given = answered trace told in
    let named = subst (λ (c : Option Command). Answered c held held' s trace) asks given in
    let fits : nat_lt most_bytes (length trace) ≡ false = not_long (length trace) most_bytes (short seed blocks few) in
    never seed blocks (seeded.Replay view) (all seed blocks few) (sym refused ∙ named.0 ∙ ap (λ (b : Bool). (unless_long b (replay_output view trace)).0) fits)
