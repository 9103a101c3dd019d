-- What a line that is taken asks for: it names what is there, within the limits, and its numbers are of 64 bits.
use Rattle.std.proofs.Common.{◌≡◌, ℕ, lit<, ◌+◌, ◌^◌, ◌<◌, ◌≤◌, List, [], ◌∷◌, length, Option, Some, None, Bool, true, false, refl, sym, ap, ◌∙◌, subst, arith, Result, Ok, Err, drop, take}
use Rattle.std.specs.Prelude.{codes}
use Rattle.command_text.specs.Commands.{command_of, open_of, open_at, rewrite_of, rewrite_at, write_of, trunc_of, read_of, close_of, abandon_of, path_command_of}
use Rattle.command_text.specs.Fields.{value_from, is_decimal, value_of, number_of, number_within, content_of, id_of, is_hex}
use Rattle.command_text.specs.Parts.{words_of}
use Rattle.command_text.specs.Paths.{spot_of}
use Rattle.command_text.specs.declared.command.Command.TheVariants as command
use Rattle.command_text.specs.declared.path.Spot.{Spot}
use Rattle.trace_text.specs.Fields.{lbfs_of, reading_of, amount_of, who_of, key_of, bytes_of}
use Rattle.trace_text.specs.Grammar.{version_of, term_of, drift_of, clients_of, dir_of, file_of, join_of, do_of, up_of, down_of, pass_of, settle_of, cut_of, hang_of, forge_of, clear_of, evict_of, warm_of, event_from, line_from, said_by, is_skipped, rawjoin_of, raw_of}
use Rattle.trace_text.specs.declared.line.Line.TheVariants as line
use Rattle.trace_text.specs.declared.line.TheConstants.{LBFS_TRACED}
use Rattle.kept_promise.proofs.Statements.{IsSpoken}
use Rattle.trace_ends.specs.declared.adjusting.Adjustment.TheVariants as adjustment
use Rattle.trace_replay.specs.declared.stage.Stage.{Stage}
use Rattle.trace_replay.specs.declared.stage.Stage.TheVariants as stage
use Rattle.trace_replay.specs.declared.turn.Turn.TheVariants as turn
use Rattle.trace_replay.specs.Run.{file_most, tree_most, is_there, place_for, free_in, led_to, file_asks, directory_asks, raw_joins_within, is_raw_at}
use Rattle.kept_promise.proofs.Common.{nat_tests, ◌&&◌, nat_lt, nat_le, if◌then◌else◌, bytes_eq, content_length, Command, Part, line_of, Line, LineFault, Grammar, Turn, Seat, Session, numbered, World, line_most, sessions_most, asks_if, sized, joins_if, joins_within, event_asks, asks_at, asks, asks_within, asked, can_open, is_raw}
use Rattle.kept_promise.proofs.Parsed.{Gives, gives_some, gives_none, gives_if, gives_after, gives_then}
use Rattle.kept_promise.proofs.PathNames.{IsNamed, IsPlain, IsSmall, find_named, renew_named, path_command_named}
use Rattle.trace_replay.proofs.lemmas.Warming.{warms_turn, warm_taken}
use Rattle.kept_promise.proofs.RunsResults.{asking, turn_is, refused_line}
use Rattle.kept_promise.proofs.Lists.{some_is, nothing_there}
use Rattle.tree_reading.specs.Tree.{Tree}
use Rattle.xdr_codec.specs.declared.handle.TheConstants.{ROOT}
use Rattle.kept_promise.proofs.SentBytes.{AreBytes, decoded_bytes}
use Rattle.hex.specs.Hex.{decode_of}
use Rattle.hex.specs.declared.error.FromHexError.{FromHexError}
use Rattle.std.specs.Result.{result_ok}

-- ---- numbers of a text

small_of : (v : ℕ) (b : Bool) → nat_lt v (2 ^ 64) ≡ b → Gives (λ n. n < 18446744073709551616) (if b then Some v else None)
small_of v true e = gives_some (λ n. n < 18446744073709551616) v (grind (arith, nat_tests, e))
small_of v false e = gives_none (λ n. n < 18446744073709551616)

number_small : (word : List ℕ) → Gives (λ n. n < 18446744073709551616) (number_of word)
number_small word = gives_if (λ n. n < 18446744073709551616) (is_decimal word) (value_of word) None (small_of (value_from 0 word) (nat_lt (value_from 0 word) (2 ^ 64)) refl) (gives_none (λ n. n < 18446744073709551616))

id_small : (word : List ℕ) → Gives (λ n. n < 18446744073709551616) (id_of word)
id_small word = gives_if (λ n. n < 18446744073709551616) (bytes_eq (take 1 word) (codes "#")) (number_of (drop 1 word)) None (number_small (drop 1 word)) (gives_none (λ n. n < 18446744073709551616))

-- ---- a command that was read

named_small : (o : Option Command) → Gives IsNamed o → Gives IsPlain o
named_small o h d e = by d (h d e)
  where
    by : (d : Command) → IsNamed d → IsPlain d
    by (command.Named k) names = names
    by d none = absurd none

open_small : (words : List (List ℕ)) → Gives IsPlain (open_of words)
open_small (place ∷ []) = by (id_of place) (id_small place)
  where
    by : (o : Option ℕ) → Gives (λ n. n < 18446744073709551616) o → Gives IsPlain (open_at place o)
    by (Some n) h = gives_some IsPlain (command.Open n) (h n refl)
    by None h = named_small (open_at place None) (find_named place)
open_small _ = gives_none IsPlain

rewrite_small : (words : List (List ℕ)) → Gives IsPlain (rewrite_of words)
rewrite_small (place ∷ []) = by (id_of place) (id_small place)
  where
    by : (o : Option ℕ) → Gives (λ n. n < 18446744073709551616) o → Gives IsPlain (rewrite_at place o)
    by (Some n) h = gives_some IsPlain (command.Rewrite n) (h n refl)
    by None h = named_small (rewrite_at place None) (renew_named place)
rewrite_small _ = gives_none IsPlain

close_small : (words : List (List ℕ)) → Gives IsPlain (close_of words)
close_small (place ∷ []) = gives_after (λ n. n < 18446744073709551616) IsPlain (id_of place) _ (id_small place) (λ n h. gives_some IsPlain (command.Close n) h)
close_small _ = gives_none IsPlain

abandon_small : (words : List (List ℕ)) → Gives IsPlain (abandon_of words)
abandon_small (place ∷ []) = gives_after (λ n. n < 18446744073709551616) IsPlain (id_of place) _ (id_small place) (λ n h. gives_some IsPlain (command.Abandon n) h)
abandon_small _ = gives_none IsPlain

write_small : (words : List (List ℕ)) → Gives IsPlain (write_of words)
write_small (place ∷ offset ∷ content ∷ []) =
    gives_after (λ n. n < 18446744073709551616) IsPlain (id_of place) _ (id_small place) (λ f h. gives_then IsPlain (number_of offset) _ (λ o. gives_then IsPlain (content_of content) _ (λ c. gives_some IsPlain (command.Write f o c) h)))
write_small _ = gives_none IsPlain

trunc_small : (words : List (List ℕ)) → Gives IsPlain (trunc_of words)
trunc_small (place ∷ size ∷ []) = gives_after (λ n. n < 18446744073709551616) IsPlain (id_of place) _ (id_small place) (λ f h. gives_then IsPlain (number_of size) _ (λ n. gives_some IsPlain (command.Trunc f n) h))
trunc_small _ = gives_none IsPlain

read_small : (words : List (List ℕ)) → Gives IsPlain (read_of words)
read_small (place ∷ offset ∷ count ∷ []) =
    gives_after (λ n. n < 18446744073709551616) IsPlain (id_of place) _ (id_small place) (λ f h. gives_then IsPlain (number_of offset) _ (λ o. gives_then IsPlain (number_of count) _ (λ n. gives_some IsPlain (command.Read f o n) h)))
read_small _ = gives_none IsPlain

command_small : (word : List ℕ) (words : List (List ℕ)) → Gives IsPlain (command_of word words)
command_small word words =
    gives_if IsPlain (bytes_eq word (codes "open")) _ _ (open_small words)
    (gives_if IsPlain (bytes_eq word (codes "rewrite")) _ _ (rewrite_small words)
    (gives_if IsPlain (bytes_eq word (codes "write")) _ _ (write_small words)
    (gives_if IsPlain (bytes_eq word (codes "trunc")) _ _ (trunc_small words)
    (gives_if IsPlain (bytes_eq word (codes "read")) _ _ (read_small words)
    (gives_if IsPlain (bytes_eq word (codes "close")) _ _ (close_small words)
    (gives_if IsPlain (bytes_eq word (codes "abandon")) _ _ (abandon_small words) (named_small (path_command_of word words) (path_command_named word words))))))))

-- ---- a line that was read

abbrev pub LineFits : Line → Type 0
LineFits (line.Do c r d) = IsPlain d
LineFits (line.Version n) = IsSpoken n
LineFits (line.Term n) = n < 4294967296
LineFits (line.Raw n bytes) = AreBytes bytes
LineFits l = Unit {0}

do_fits : (words : List (List ℕ)) → Gives LineFits (do_of words)
do_fits (client ∷ at ∷ word ∷ words) =
    gives_then LineFits (number_of client) _ (λ c. gives_then LineFits (reading_of at) _ (λ a. gives_after IsPlain LineFits (command_of word words) _ (command_small word words) (λ d h. gives_some LineFits (line.Do c a d) h)))
do_fits _ = gives_none LineFits

-- a version of which there are traces is one that is served
spoken_within : (word : List ℕ) → Gives IsSpoken (lbfs_of word)
spoken_within word = gives_then IsSpoken (number_of word) _ (λ n. by n (nat_le 1 n) (nat_le n LBFS_TRACED) refl refl)
  where
    by : (n : ℕ) (a b : Bool) → nat_le 1 n ≡ a → nat_le n LBFS_TRACED ≡ b → Gives IsSpoken (if a && b then Some n else None)
    by n true true least most = gives_some IsSpoken n (record { least = grind (arith, nat_tests, least); most = grind (arith, nat_tests, most) })
    by n true false least most = gives_none IsSpoken
    by n false b least most = gives_none IsSpoken

version_fits : (words : List (List ℕ)) → Gives LineFits (version_of words)
version_fits (v ∷ []) = gives_after IsSpoken LineFits (lbfs_of v) _ (spoken_within v) (λ n h. gives_some LineFits (line.Version n) h)
version_fits _ = gives_none LineFits

-- a number up to a limit below 2^32
low_within : (low high : ℕ) → high < 4294967296 → (word : List ℕ) → Gives (λ n. n < 4294967296) (number_within low high word)
low_within low high lt word = gives_then (λ n. n < 4294967296) (number_of word) _ (λ n. by n (nat_le low n && nat_le n high) refl)
  where
    up_to : (a b : Bool) → (a && b) ≡ true → b ≡ true
    up_to true b e = e
    up_to false b e = absurd cc

    by : (n : ℕ) (b : Bool) → (nat_le low n && nat_le n high) ≡ b → Gives (λ m. m < 4294967296) (if b then Some n else None)
    by n true e = let le = up_to (nat_le low n) (nat_le n high) e in gives_some (λ m. m < 4294967296) n (grind (arith, nat_tests, le, lt))
    by n false e = gives_none (λ m. m < 4294967296)

term_fits : (words : List (List ℕ)) → Gives LineFits (term_of words)
term_fits (v ∷ []) = gives_after (λ n. n < 4294967296) LineFits (number_within 1 3600000 v) _ (low_within 1 3600000 (lit< tt) v) (λ n h. gives_some LineFits (line.Term n) h)
term_fits _ = gives_none LineFits

drift_fits : (words : List (List ℕ)) → Gives LineFits (drift_of words)
drift_fits (v ∷ []) = gives_then LineFits (number_within 0 3600000 v) _ (λ n. gives_some LineFits (line.Drift n) tt)
drift_fits _ = gives_none LineFits

clients_fits : (words : List (List ℕ)) → Gives LineFits (clients_of words)
clients_fits (v ∷ []) = gives_then LineFits (number_within 1 16 v) _ (λ n. gives_some LineFits (line.Clients n) tt)
clients_fits _ = gives_none LineFits

file_fits : (words : List (List ℕ)) → Gives LineFits (file_of words)
file_fits (path ∷ content ∷ []) = gives_then LineFits (spot_of path) _ (λ s. gives_then LineFits (content_of content) _ (λ c. gives_some LineFits (line.File s c) tt))
file_fits _ = gives_none LineFits

dir_fits : (words : List (List ℕ)) → Gives LineFits (dir_of words)
dir_fits (path ∷ []) = gives_then LineFits (spot_of path) _ (λ s. gives_some LineFits (line.Dir s) tt)
dir_fits _ = gives_none LineFits

join_fits : (words : List (List ℕ)) → Gives LineFits (join_of words)
join_fits (a ∷ b ∷ c ∷ []) = gives_then LineFits (number_of a) _ (λ x. gives_then LineFits (reading_of b) _ (λ y. gives_then LineFits (reading_of c) _ (λ z. gives_some LineFits (line.Join x y z) tt)))
join_fits _ = gives_none LineFits

up_fits : (words : List (List ℕ)) → Gives LineFits (up_of words)
up_fits (a ∷ b ∷ c ∷ []) = gives_then LineFits (number_of a) _ (λ x. gives_then LineFits (amount_of b) _ (λ y. gives_then LineFits (reading_of c) _ (λ z. gives_some LineFits (line.Up x y z) tt)))
up_fits _ = gives_none LineFits

down_fits : (words : List (List ℕ)) → Gives LineFits (down_of words)
down_fits (a ∷ b ∷ c ∷ []) = gives_then LineFits (number_of a) _ (λ x. gives_then LineFits (amount_of b) _ (λ y. gives_then LineFits (reading_of c) _ (λ z. gives_some LineFits (line.Down x y z) tt)))
down_fits _ = gives_none LineFits

pass_fits : (words : List (List ℕ)) → Gives LineFits (pass_of words)
pass_fits (a ∷ b ∷ c ∷ d ∷ []) =
    gives_then LineFits (number_of a) _ (λ x. gives_then LineFits (number_of b) _ (λ y. gives_then LineFits (reading_of c) _ (λ z. gives_then LineFits (reading_of d) _ (λ u. gives_some LineFits (line.Pass x y z u) tt))))
pass_fits _ = gives_none LineFits

rawjoin_fits : (words : List (List ℕ)) → Gives LineFits (rawjoin_of words)
rawjoin_fits (a ∷ []) = gives_then LineFits (reading_of a) _ (λ x. gives_some LineFits (line.RawJoin x) tt)
rawjoin_fits _ = gives_none LineFits

sent_bytes : (word : List ℕ) → Gives AreBytes (bytes_of word)
sent_bytes word = gives_if AreBytes (is_hex word) (result_ok (decode_of word)) None (λ bytes e. decoded_bytes word bytes (by (decode_of word) bytes e)) (gives_none AreBytes)
  where
    by : (r : Result (List ℕ) FromHexError) (bytes : List ℕ) → result_ok r ≡ Some bytes → r ≡ Ok bytes
    by (Ok x) bytes e = ap (λ (z : List ℕ). Ok z) (some_is x bytes e)
    by (Err why) bytes e = nothing_there bytes e

raw_fits : (words : List (List ℕ)) → Gives LineFits (raw_of words)
raw_fits (a ∷ b ∷ []) = gives_then LineFits (number_of a) _ (λ x. gives_after AreBytes LineFits (bytes_of b) _ (sent_bytes b) (λ y h. gives_some LineFits (line.Raw x y) h))
raw_fits _ = gives_none LineFits

settle_fits : (words : List (List ℕ)) → Gives LineFits (settle_of words)
settle_fits (a ∷ []) = gives_then LineFits (reading_of a) _ (λ x. gives_some LineFits (line.Settle x) tt)
settle_fits _ = gives_none LineFits

cut_fits : (words : List (List ℕ)) → Gives LineFits (cut_of words)
cut_fits (a ∷ b ∷ []) = gives_then LineFits (number_of a) _ (λ x. gives_then LineFits (reading_of b) _ (λ y. gives_some LineFits (line.Cut x y) tt))
cut_fits _ = gives_none LineFits

hang_fits : (words : List (List ℕ)) → Gives LineFits (hang_of words)
hang_fits (a ∷ b ∷ []) = gives_then LineFits (number_of a) _ (λ x. gives_then LineFits (reading_of b) _ (λ y. gives_some LineFits (line.Hang x y) tt))
hang_fits _ = gives_none LineFits

forge_fits : (words : List (List ℕ)) → Gives LineFits (forge_of words)
forge_fits (a ∷ b ∷ c ∷ d ∷ n ∷ []) =
    gives_then LineFits (who_of a) _ (λ x. gives_then LineFits (key_of b) _ (λ k. gives_then LineFits (number_of c) _ (λ y. gives_then LineFits (number_of d) _ (λ z. gives_then LineFits (number_of n) _ (λ u. gives_some LineFits (line.Forge x k y z u) tt)))))
forge_fits _ = gives_none LineFits

clear_fits : (words : List (List ℕ)) → Gives LineFits (clear_of words)
clear_fits (a ∷ []) = gives_then LineFits (who_of a) _ (λ x. gives_some LineFits (line.Clear x) tt)
clear_fits _ = gives_none LineFits

evict_fits : (words : List (List ℕ)) → Gives LineFits (evict_of words)
evict_fits (a ∷ b ∷ []) = gives_then LineFits (number_of a) _ (λ x. gives_then LineFits (number_of b) _ (λ y. gives_some LineFits (line.Evict x y) tt))
evict_fits _ = gives_none LineFits

warm_fits : (words : List (List ℕ)) → Gives LineFits (warm_of words)
warm_fits (a ∷ b ∷ []) = gives_then LineFits (number_of a) _ (λ x. gives_then LineFits (content_of b) _ (λ y. gives_some LineFits (line.Warm x y) tt))
warm_fits _ = gives_none LineFits

event_fits : (kind : List ℕ) (words : List (List ℕ)) → Gives LineFits (event_from kind words)
event_fits kind words =
    gives_if LineFits (bytes_eq kind (codes "join")) _ _ (join_fits words)
    (gives_if LineFits (bytes_eq kind (codes "do")) _ _ (do_fits words)
    (gives_if LineFits (bytes_eq kind (codes "up")) _ _ (up_fits words)
    (gives_if LineFits (bytes_eq kind (codes "down")) _ _ (down_fits words)
    (gives_if LineFits (bytes_eq kind (codes "pass")) _ _ (pass_fits words)
    (gives_if LineFits (bytes_eq kind (codes "rawjoin")) _ _ (rawjoin_fits words)
    (gives_if LineFits (bytes_eq kind (codes "raw")) _ _ (raw_fits words)
    (gives_if LineFits (bytes_eq kind (codes "settle")) _ _ (settle_fits words)
    (gives_if LineFits (bytes_eq kind (codes "cut")) _ _ (cut_fits words)
    (gives_if LineFits (bytes_eq kind (codes "hang")) _ _ (hang_fits words)
    (gives_if LineFits (bytes_eq kind (codes "forge")) _ _ (forge_fits words)
    (gives_if LineFits (bytes_eq kind (codes "clear")) _ _ (clear_fits words)
    (gives_if LineFits (bytes_eq kind (codes "evict")) _ _ (evict_fits words)
    (gives_if LineFits (bytes_eq kind (codes "warm")) _ _ (warm_fits words) (gives_none LineFits))))))))))))))

words_fit : (kind : List ℕ) (words : List (List ℕ)) → Gives LineFits (line_from kind words)
words_fit kind words =
    gives_if LineFits (bytes_eq kind (codes "lbfs-trace")) _ _ (version_fits words)
    (gives_if LineFits (bytes_eq kind (codes "term")) _ _ (term_fits words)
    (gives_if LineFits (bytes_eq kind (codes "drift")) _ _ (drift_fits words)
    (gives_if LineFits (bytes_eq kind (codes "clients")) _ _ (clients_fits words)
    (gives_if LineFits (bytes_eq kind (codes "dir")) _ _ (dir_fits words)
    (gives_if LineFits (bytes_eq kind (codes "file")) _ _ (file_fits words) (event_fits kind words))))))

said_fits : (words : List (List ℕ)) → Gives LineFits (said_by words)
said_fits [] = gives_none LineFits
said_fits (kind ∷ words) = words_fit kind words

pub line_fits : (bytes : List ℕ) (l : Line) → line_of bytes ≡ Some l → LineFits l
line_fits bytes = gives_if LineFits (is_skipped bytes) (Some line.Skipped) (said_by (words_of bytes)) (gives_some LineFits line.Skipped tt) (said_fits (words_of bytes))

-- ---- a line that is taken

-- no event came yet
abbrev pub is_early : Stage → Bool
is_early stage.Events = false
is_early s = true

-- the directory is there, and the name is free in it
abbrev pub IsFree : World → (dir : ℕ) → List ℕ → Type 0
IsFree w dir name = can_open w.core.server.tree dir name ≡ true

-- and the content within the limits of a file, and of the tree
abbrev pub MayOpen : World → (dir : ℕ) → List ℕ → List Part → Type 0
MayOpen w dir name content = IsFree w dir name × (content_length content ≤ 67108864) × (w.size + content_length content ≤ 1073741824)

-- what a turn finds
abbrev pub Allows : World → Turn → Type 0
Allows w (turn.Version n) = (w.stage ≡ stage.Version) × IsSpoken n
Allows w (turn.Term n) = (w.stage ≡ stage.Term) × (n < 4294967296)
Allows w (turn.Drift n) = w.stage ≡ stage.Drift
Allows w (turn.Clients n) = is_early w.stage ≡ true
Allows w (turn.Dir dir name) = (is_early w.stage ≡ true) × IsFree w dir name
Allows w (turn.File dir name content) = (is_early w.stage ≡ true) × MayOpen w dir name content
Allows w (turn.Join c) = (seat : Seat) × (numbered w.core.seats c ≡ Some seat) × (seat.client.linked ≡ false) × (length w.core.server.sessions < 64)
Allows w (turn.Do c now d) = (seat : Seat) × (numbered w.core.seats c ≡ Some seat) × IsSmall d
Allows w (turn.Cut c) = (seat : Seat) × (numbered w.core.seats c ≡ Some seat)
Allows w (turn.Hang n) = (x : Session) × (numbered w.core.sessions n ≡ Some x)
Allows w turn.RawJoin = length w.core.server.sessions < 64
Allows w (turn.Raw n bytes) = (x : Session) × (numbered w.core.sessions n ≡ Some x) × (is_raw x ≡ true) × AreBytes bytes
Allows w t = Unit {0}

goes : (w : World) (u t : Turn) → asking u ≡ asking t → Allows w u → Allows w t
goes w u t e h = subst (λ (z : Turn). Allows w z) (turn_is u t e) h

goes_if : (w : World) (b : Bool) (u t : Turn) → asks_if b u ≡ asking t → Allows w u → Allows w t
goes_if w true u t e h = goes w u t e h
goes_if w false u t e h = refused_line Grammar t e

-- what is asked for is there
goes_there : {A : Type 0} (w : World) (o : Option A) (u t : Turn) → asks_if (is_there o) u ≡ asking t → ((x : A) → o ≡ Some x → Allows w u) → Allows w t
goes_there w None u t e h = refused_line Grammar t e
goes_there w (Some x) u t e h = goes w u t e (h x refl)

joins_on : (w : World) (c : ℕ) (t : Turn) → joins_if (length w.core.server.sessions) c (numbered w.core.seats c) ≡ asking t → Allows w t
joins_on w c t e = by (numbered w.core.seats c) refl e
  where
    by_room : (seat : Seat) → numbered w.core.seats c ≡ Some seat → seat.client.linked ≡ false → (b : Bool) → nat_lt (length w.core.server.sessions) sessions_most ≡ b → joins_within b c ≡ asking t → Allows w t
    by_room seat at out true room e = goes w (turn.Join c) t e (seat, at, out, grind (arith, nat_tests, room))
    by_room seat at out false room e = refused_line _ t e

    by_seat : (seat : Seat) → numbered w.core.seats c ≡ Some seat → (b : Bool) → seat.client.linked ≡ b → elim b as (λ (x : Bool). Result Turn LineFault) [ true ↦ Err Grammar | false ↦ joins_within (nat_lt (length w.core.server.sessions) sessions_most) c ] ≡ asking t → Allows w t
    by_seat seat at true out e = refused_line Grammar t e
    by_seat seat at false out e = by_room seat at out (nat_lt (length w.core.server.sessions) sessions_most) refl e

    by : (o : Option Seat) → numbered w.core.seats c ≡ o → joins_if (length w.core.server.sessions) c o ≡ asking t → Allows w t
    by None at e = refused_line Grammar t e
    by (Some seat) at e = by_seat seat at seat.client.linked refl e

raw_joins_on : (w : World) (t : Turn) → raw_joins_within (nat_lt (length w.core.server.sessions) sessions_most) ≡ asking t → Allows w t
raw_joins_on w t e = by (nat_lt (length w.core.server.sessions) sessions_most) refl e
  where
    by : (b : Bool) → nat_lt (length w.core.server.sessions) sessions_most ≡ b → raw_joins_within b ≡ asking t → Allows w t
    by true room e = goes w turn.RawJoin t e (grind (arith, nat_tests, room))
    by false room e = refused_line _ t e

-- the session that sends is no client's
raw_on : (w : World) (n : ℕ) (bytes : List ℕ) (t : Turn) → AreBytes bytes → asks_if (is_raw_at (numbered w.core.sessions n)) (turn.Raw n bytes) ≡ asking t → Allows w t
raw_on w n bytes t are e = by (numbered w.core.sessions n) refl e
  where
    by_raw : (x : Session) → numbered w.core.sessions n ≡ Some x → (b : Bool) → is_raw x ≡ b → asks_if b (turn.Raw n bytes) ≡ asking t → Allows w t
    by_raw x at true raw e = goes w (turn.Raw n bytes) t e (x, at, raw, are)
    by_raw x at false own e = refused_line Grammar t e

    by : (o : Option Session) → numbered w.core.sessions n ≡ o → asks_if (is_raw_at o) (turn.Raw n bytes) ≡ asking t → Allows w t
    by None at e = refused_line Grammar t e
    by (Some x) at e = by_raw x at (is_raw x) refl e

-- its names are names, or its id has a number of 64 bits
plain_small : (d : Command) → IsPlain d → IsSmall d
plain_small (command.Named k) plain = plain
plain_small d plain = plain

event_on : (w : World) (l : Line) (t : Turn) → LineFits l → event_asks w.core l ≡ asking t → Allows w t
event_on w (line.Join c r at) t fits e = joins_on w c t e
event_on w (line.Do c r d) t fits e = goes_there w (numbered w.core.seats c) (turn.Do c r d) t e (λ x at. (x, at, plain_small d fits))
event_on w (line.Up n a at) t fits e = goes_if w _ (turn.Up n a at) t e tt
event_on w (line.Down n a r) t fits e = goes_if w _ (turn.Down n a r) t e tt
event_on w (line.Settle at) t fits e = goes w (turn.Settle at) t e tt
event_on w (line.Cut c r) t fits e = goes_there w (numbered w.core.seats c) (turn.Cut c) t e (λ x at. (x, at))
event_on w (line.RawJoin at) t fits e = raw_joins_on w t e
event_on w (line.Raw n bytes) t fits e = raw_on w n bytes t fits e
event_on w (line.Hang n at) t fits e = goes_there w (numbered w.core.sessions n) (turn.Hang n) t e (λ x at. (x, at))
event_on w (line.Pass n rounds at r) t fits e = goes_if w _ (turn.Pass n rounds at r) t e tt
event_on w (line.Forge u key file offset count) t fits e = goes_if w _ (turn.Adjust (adjustment.Forge u key (record { file = file; offset = offset; count = count }))) t e tt
event_on w (line.Clear u) t fits e = goes_if w _ (turn.Adjust (adjustment.Clear u)) t e tt
event_on w (line.Evict c file) t fits e = goes_if w _ (turn.Adjust (adjustment.Evict c file)) t e tt
event_on w (line.Warm c content) t fits e = goes w (warms_turn c content) t (warm_taken c content (numbered w.core.seats c) t e) tt
event_on w l t fits e = refused_line Grammar t e

free_place : (t : Tree) (name : List ℕ) (o : Option ℕ) (dir : ℕ) → free_in t name o ≡ Some dir → can_open t dir name ≡ true
free_place t name None dir e = nothing_there dir e
free_place t name (Some d) dir e = by (can_open t d name) refl e
  where
    by : (b : Bool) → can_open t d name ≡ b → (if b then Some d else None) ≡ Some dir → can_open t dir name ≡ true
    by true free e = ap (λ (i : ℕ). can_open t i name) (sym (some_is d dir e)) ∙ free
    by false free e = nothing_there dir e

directory_on : (w : World) (spot : Spot) (o : Option ℕ) (t : Turn) → is_early w.stage ≡ true → place_for w.core.server.tree spot ≡ o → directory_asks o spot.name ≡ asking t → Allows w t
directory_on w spot None t early at e = refused_line Grammar t e
directory_on w spot (Some dir) t early at e = goes w (turn.Dir dir spot.name) t e (early, free_place w.core.server.tree spot.name (led_to w.core.server.tree.nodes ROOT spot.dirs) dir at)

file_on : (w : World) (spot : Spot) (content : List Part) (o : Option ℕ) (t : Turn) → is_early w.stage ≡ true → place_for w.core.server.tree spot ≡ o → file_asks o w.size spot.name content ≡ asking t → Allows w t
file_on w spot content None t early at e = refused_line Grammar t e
file_on w spot content (Some dir) t early at e = by (nat_lt file_most (content_length content)) (nat_lt tree_most (w.size + content_length content)) refl refl e
  where
    by : (long much : Bool) → nat_lt file_most (content_length content) ≡ long → nat_lt tree_most (w.size + content_length content) ≡ much → sized long much (turn.File dir spot.name content) ≡ asking t → Allows w t
    by false false is all e = goes w (turn.File dir spot.name content) t e (early, (free_place w.core.server.tree spot.name (led_to w.core.server.tree.nodes ROOT spot.dirs) dir at, grind (arith, nat_tests, is), grind (arith, nat_tests, all)))
    by _ _ is all e = refused_line _ t e

at_stage : (w : World) (s : Stage) (l : Line) (t : Turn) → w.stage ≡ s → LineFits l → asks_at w s l ≡ asking t → Allows w t
at_stage w stage.Version (line.Version n) t at fits e = goes w (turn.Version n) t e (at, fits)
at_stage w stage.Term (line.Term n) t at fits e = goes w (turn.Term n) t e (at, fits)
at_stage w stage.Drift (line.Drift n) t at fits e = goes w (turn.Drift n) t e at
at_stage w stage.Clients (line.Clients n) t at fits e = goes w (turn.Clients n) t e (ap is_early at)
at_stage w stage.Files (line.Dir spot) t at fits e = directory_on w spot (place_for w.core.server.tree spot) t (ap is_early at) refl e
at_stage w stage.Files (line.File spot content) t at fits e = file_on w spot content (place_for w.core.server.tree spot) t (ap is_early at) refl e
at_stage w stage.Files l t at fits e = event_on w l t fits e
at_stage w stage.Events l t at fits e = event_on w l t fits e
at_stage w s l t at fits e = refused_line Grammar t e

any_line : (w : World) (l : Line) (t : Turn) → LineFits l → asks w l ≡ asking t → Allows w t
any_line w line.Skipped t fits e = goes w turn.Skip t e tt
any_line w l t fits e = at_stage w w.stage l t refl fits e

within : (b : Bool) (r : Result Turn LineFault) (t : Turn) → asks_within b r ≡ asking t → (r ≡ asking t) × (b ≡ true)
within true r t e = (e, refl)
within false (Err Grammar) t e = refused_line Grammar t e
within false _ t e = refused_line _ t e

pub allowed : (w : World) (n : ℕ) (l : Line) (t : Turn) → LineFits l → asked w n l ≡ Ok t → Allows w t
allowed w n l t fits e = any_line w l t fits (within (nat_le n line_most) (asks w l) t e).0

pub within_lines : (w : World) (n : ℕ) (l : Line) (t : Turn) → asked w n l ≡ Ok t → n ≤ 65536
within_lines w n l t e = let h = (within (nat_le n line_most) (asks w l) t e).1 in grind (arith, nat_tests, h)
