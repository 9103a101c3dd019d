-- Worked words.
use Rattle.std.specs.Prelude.{◌≡◌, ℕ, List, [], ◌∷◌, Option, Some, None, Bool, codes, true, false, refl, map, replicate}
use Rattle.clap.specs.Words.{is_simple_and_free}
use Rattle.clap.proofs.OnLiterals.{clap_on_literals}
use Rattle.command_text.specs.Parts.{words_of}
use Rattle.program_words.specs.declared.asked.View.TheVariants.{History, Summary}
use Rattle.program_words.specs.declared.asked.InputCommand.{InputCommand}
use Rattle.program_words.specs.declared.asked.InputCommand.TheVariants.{Replay, Cut, Show}
use Rattle.program_words.specs.declared.asked.SeedCommand.{SeedCommand}
use Rattle.program_words.specs.declared.asked.SeedCommand.TheVariants as seeded
use Rattle.program_words.specs.declared.asked.Command.TheVariants.{OfInput, OfSeed}
use Rattle.program_words.specs.declared.asked.Asked.{Asked}
use Rattle.program_words.specs.declared.asked.Asked.TheVariants as asked
use Rattle.program_words.specs.Line.{lbfs}
use Rattle.program_words.specs.Words.{asked_of, command_of}

-- of this command `clap` tells all: which words it takes, and what they say
pub told_by_clap : is_simple_and_free lbfs ≡ true
unfolding clap_on_literals lbfs asked_of
told_by_clap = refl

abbrev said : List (List ℕ) → List (Option Asked)
said lines = map (λ line. asked_of (words_of line)) lines

abbrev mount : (port drift : ℕ) → Option Asked
mount p e = Some (asked.Mount (record { port = p; drift = e; cache = None; keep = 268435456 }))

abbrev mount_with : (cache : Option (List ℕ)) → (keep : ℕ) → Option Asked
mount_with c k = Some (asked.Mount (record { port = 7000; drift = 1; cache = c; keep = k }))

abbrev serve_as : Bool → (port term sessions : ℕ) → (store : List ℕ) → Option Asked
serve_as u p t n d = Some (asked.Serve (record { port = p; term = t; sessions = n; store = d; unsynced = u }))

abbrev serve : (port term sessions : ℕ) → (store : List ℕ) → Option Asked
serve p t n d = serve_as false p t n d

abbrev check : (store : List ℕ) → Option Asked
check d = Some (asked.Check (record { store = d }))

abbrev on_input : InputCommand → Option Asked
on_input c = Some (asked.Command (OfInput c))

abbrev on_seed : (seed blocks : ℕ) → SeedCommand → Option Asked
on_seed s n c = Some (asked.Command (OfSeed s n c))

-- the options stand in any order, each value behind its name or behind `=`
mounts : said (codes "mount --port 7000 --drift 100" ∷ codes "mount --drift=100 --port=7000" ∷ codes "mount --port=1 --drift 0" ∷ codes "mount --port 65535 --drift 3600000" ∷ []) ≡ (mount 7000 100 ∷ mount 7000 100 ∷ mount 1 0 ∷ mount 65535 3600000 ∷ [])
unfolding clap_on_literals lbfs asked_of
mounts = refl

-- a cache file, and how much is kept
keeps : said (codes "mount --port 7000 --drift 1 --cache c" ∷ codes "mount --cache=d/c --keep=0 --port 7000 --drift 1" ∷ codes "mount --keep 18446744073709551615 --port 7000 --drift 1" ∷ codes "mount --port 7000 --drift 1 --keep 268435456" ∷ []) ≡ (mount_with (Some (codes "c")) 268435456 ∷ mount_with (Some (codes "d/c")) 0 ∷ mount_with None 18446744073709551615 ∷ mount 7000 1 ∷ [])
unfolding clap_on_literals lbfs asked_of
keeps = refl

keeps_refused : said (codes "mount --port 7000 --drift 1 --cache" ∷ codes "mount --port 7000 --drift 1 --cache a --cache b" ∷ codes "mount --port 7000 --drift 1 --keep" ∷ codes "mount --port 7000 --drift 1 --keep 01" ∷ codes "mount --port 7000 --drift 1 --keep -1" ∷ codes "mount --port 7000 --drift 1 --keep 18446744073709551616" ∷ codes "mount --port 7000 --drift 1 --keep 1 --keep 1" ∷ codes "serve --port 7000 --term 1 --sessions 1 --store d --cache c" ∷ []) ≡ replicate 8 None
unfolding clap_on_literals lbfs asked_of
keeps_refused = refl

serves : said (codes "serve --port 7000 --term 1000 --sessions 1 --store d" ∷ codes "serve --store=d/e --sessions 4294967295 --term 1 --port 1" ∷ []) ≡ (serve 7000 1000 1 (codes "d") ∷ serve 1 1 4294967295 (codes "d/e") ∷ [])
unfolding clap_on_literals lbfs asked_of
serves = refl

-- changes may be left unflushed; and a store is looked over
unsynced : said (codes "serve --port 7000 --term 1000 --sessions 1 --store d --unsynced" ∷ codes "serve --unsynced --store=d --sessions 2 --term 1 --port 1" ∷ []) ≡ (serve_as true 7000 1000 1 (codes "d") ∷ serve_as true 1 1 2 (codes "d") ∷ [])
unfolding clap_on_literals lbfs asked_of
unsynced = refl

checks : said (codes "check --store d" ∷ codes "check --store=d/e" ∷ codes "check" ∷ codes "check d" ∷ codes "check --store" ∷ codes "check --store d --store e" ∷ codes "check --store d --port 1" ∷ codes "serve --port 7000 --term 1000 --sessions 1 --store d --unsynced=true" ∷ codes "mount --port 7000 --drift 1 --unsynced" ∷ []) ≡ (check (codes "d") ∷ check (codes "d/e") ∷ replicate 7 None)
unfolding clap_on_literals lbfs asked_of
checks = refl

-- a word `--` says that no option follows
parted_off : said (codes "mount --port 7000 --drift 100 --" ∷ codes "mount -- --port 7000 --drift 100" ∷ []) ≡ (mount 7000 100 ∷ None ∷ [])
unfolding clap_on_literals lbfs asked_of
parted_off = refl

-- an option that is missing, one too many, one given twice, a number out of its range or with a leading zero or sign
refused : said (codes "" ∷ codes "mount" ∷ codes "mount --port 7000" ∷ codes "mount --port 7000 --drift" ∷ codes "mount --port 7000 --drift 1 --drift 1" ∷ codes "mount --port 7000 --drift 1 x" ∷ codes "mount --port 0 --drift 1" ∷ codes "mount --port 65536 --drift 1" ∷ codes "mount --port 07000 --drift 1" ∷ codes "mount --port +7000 --drift 1" ∷ codes "mount --port 7000 --drift 3600001" ∷ codes "mount --por 7000 --drift 1" ∷ codes "serve --port 7000 --term 0 --sessions 1 --store d" ∷ codes "help" ∷ codes "--help" ∷ codes "mount --help" ∷ codes "frob" ∷ []) ≡ replicate 17 None
unfolding clap_on_literals lbfs asked_of
refused = refl

-- what stands today is read as today
others : said (codes "replay" ∷ codes "replay --summary" ∷ codes "replay --seed 1 --blocks 2" ∷ codes "replay --blocks=5000 --summary --seed=18446744073709551615" ∷ codes "gen 31 1" ∷ codes "cut" ∷ codes "show" ∷ []) ≡ (on_input (Replay History) ∷ on_input (Replay Summary) ∷ on_seed 1 2 (seeded.Replay History) ∷ on_seed 18446744073709551615 5000 (seeded.Replay Summary) ∷ on_seed 31 1 seeded.Write ∷ on_input Cut ∷ on_input Show ∷ [])
unfolding clap_on_literals lbfs asked_of
others = refl

still_refused : said (codes "replay x" ∷ codes "replay --seed 1" ∷ codes "replay --blocks 1" ∷ codes "replay --seed 1 --blocks 0" ∷ codes "replay --seed 1 --blocks 5001" ∷ codes "replay --seed 01 --blocks 1" ∷ codes "replay --summary --summary" ∷ codes "replay --summary=true" ∷ codes "replay --seed --blocks 1" ∷ codes "replay --seed= --blocks=1" ∷ codes "gen" ∷ codes "gen 1" ∷ codes "gen 1 2 3" ∷ codes "gen -1 2" ∷ codes "gen 1 0" ∷ codes "cut x" ∷ codes "show --summary" ∷ codes "-replay" ∷ codes "replay -s" ∷ []) ≡ replicate 19 None
unfolding clap_on_literals lbfs asked_of
still_refused = refl

-- and the one thing that is new: a word `--`
newly_taken : said (codes "replay --" ∷ codes "gen -- 31 1" ∷ codes "gen 31 -- 1" ∷ codes "cut --" ∷ []) ≡ (on_input (Replay History) ∷ on_seed 31 1 seeded.Write ∷ on_seed 31 1 seeded.Write ∷ on_input Cut ∷ [])
unfolding clap_on_literals lbfs asked_of
newly_taken = refl

-- the word `replay` alone
pub replay_alone : command_of (codes "replay" ∷ []) ≡ Some (OfInput (Replay History))
unfolding clap_on_literals lbfs asked_of
replay_alone = refl
