-- Worked words of `shell` and `share`.
use Rattle.std.specs.Prelude.{◌≡◌, ℕ, List, [], ◌∷◌, Option, Some, None, Bool, codes, true, false, refl, map, replicate}
use Rattle.clap.specs.Words.{is_simple_and_free}
use Rattle.clap.proofs.OnLiterals.{clap_on_literals}
use Rattle.command_text.specs.Parts.{words_of}
use Rattle.program_words.specs.declared.front.Front.{Front}
use Rattle.program_words.specs.declared.front.Front.TheVariants as fronts
use Rattle.program_words.specs.declared.asked.Asked.{Asked}
use Rattle.program_words.specs.declared.asked.Asked.TheVariants as asked
use Rattle.program_words.specs.Line.{lbfs}
use Rattle.program_words.specs.Words.{asked_of}
use Rattle.program_words.specs.FrontLine.{front}
use Rattle.program_words.specs.Front.{front_of}

-- of these commands `clap` tells all: which words they take, and what they say
pub front_told_by_clap : is_simple_and_free front ≡ true
unfolding clap_on_literals front front_of
front_told_by_clap = refl

abbrev said : List (List ℕ) → List (Option Front)
said lines = map (λ line. front_of (words_of line)) lines

abbrev shell : (port links : ℕ) → (quiet : Bool) → List (List ℕ) → Option Front
shell p n q command = Some (fronts.Shell (record { port = p; links = n; cache = None; quiet = q; command = command }))

abbrev share : (store : List ℕ) → (port term : ℕ) → Option Front
share d p t = Some (fronts.Share (record { store = d; port = p; term = t; unsynced = false }))

abbrev hasty : (store : List ℕ) → Option Front
hasty d = Some (fronts.Share (record { store = d; port = 7000; term = 30000; unsynced = true }))

-- what may be left out has a number of its own
plain : said (codes "shell --port 7000" ∷ codes "share store" ∷ []) ≡ (shell 7000 8 false [] ∷ share (codes "store") 7000 30000 ∷ [])
unfolding clap_on_literals front front_of
plain = refl

-- options stand before the command, whose words may begin with anything
commands : said (codes "shell --port 7000 put -r a b" ∷ codes "shell --quiet --links=2 --port=1 ls -l" ∷ codes "shell --port 7 sync --delete a --port" ∷ codes "shell --port 7 -- ls" ∷ []) ≡ (shell 7000 8 false (words_of (codes "put -r a b")) ∷ shell 1 2 true (words_of (codes "ls -l")) ∷ shell 7 8 false (words_of (codes "sync --delete a --port")) ∷ shell 7 8 false (words_of (codes "ls")) ∷ [])
unfolding clap_on_literals front front_of
commands = refl

abbrev cached : (cache : List ℕ) → List (List ℕ) → Option Front
cached name command = Some (fronts.Shell (record { port = 7; links = 8; cache = Some name; quiet = false; command = command }))

caches : said (codes "shell --port 7 --cache kept" ∷ codes "shell --cache=d/kept --port 7 ls --cache x" ∷ codes "shell --port 7 --cache" ∷ codes "shell --port 7 --cache a --cache a" ∷ []) ≡ (cached (codes "kept") [] ∷ cached (codes "d/kept") (words_of (codes "ls --cache x")) ∷ None ∷ None ∷ [])
unfolding clap_on_literals front front_of
caches = refl

shares : said (codes "share --port 1 --term=5 d/e" ∷ codes "share d --term 3600000 --port=65535" ∷ codes "share -- -d" ∷ codes "share --unsynced d" ∷ codes "share d --unsynced" ∷ []) ≡ (share (codes "d/e") 1 5 ∷ share (codes "d") 65535 3600000 ∷ share (codes "-d") 7000 30000 ∷ hasty (codes "d") ∷ hasty (codes "d") ∷ [])
unfolding clap_on_literals front front_of
shares = refl

refused : said (codes "" ∷ codes "shell" ∷ codes "shell --port 0" ∷ codes "shell --port 65536" ∷ codes "shell --port 7 --links 0" ∷ codes "shell --port 7 --links 33" ∷ codes "shell --port 7 --drift 0" ∷ codes "shell --port 7 --port 7" ∷ codes "shell --port 7 --frob" ∷ codes "shell -l --port 7" ∷ codes "share" ∷ codes "share a b" ∷ codes "share a --port 0" ∷ codes "share a --term 0" ∷ codes "share a --sessions 1" ∷ codes "serve --port 7" ∷ codes "help" ∷ codes "shells" ∷ []) ≡ replicate 18 None
unfolding clap_on_literals front front_of
refused = refl

-- words for which `share` stands are read by `serve`
abbrev served : (port term : ℕ) → (store : List ℕ) → (unsynced : Bool) → Option Asked
served p t d u = Some (asked.Serve (record { port = p; term = t; sessions = 4294967295; store = d; unsynced = u }))

abbrev plain_words : List (List ℕ)
plain_words = codes "serve" ∷ codes "--port=7000" ∷ codes "--term=30000" ∷ codes "--sessions=4294967295" ∷ codes "--store=store" ∷ []

abbrev odd_words : List (List ℕ)
odd_words = codes "serve" ∷ codes "--port=65535" ∷ codes "--term=1" ∷ codes "--sessions=4294967295" ∷ codes "--store=-a b" ∷ codes "--unsynced" ∷ []

read_so : map asked_of (plain_words ∷ odd_words ∷ []) ≡ (served 7000 30000 (codes "store") false ∷ served 65535 1 (codes "-a b") true ∷ [])
unfolding clap_on_literals lbfs asked_of
read_so = refl
