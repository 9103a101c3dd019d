-- The names that are read have at most 255 bytes each.
use Rattle.std.proofs.Common.{◌≡◌, ℕ, zero, suc, ◌-◌, ◌≤◌, List, [], ◌∷◌, ◌++◌, length, take, drop, Some, None, Bool, true, false, refl, arith}
use Rattle.std.specs.Prelude.{cond, not, ◌&&◌, nat_le, codes, bytes_eq, slice_index_or}
use Rattle.std.proofs.lemmas.Bool.Decides.{nat_tests}
use Rattle.limits.specs.declared.TheConstants.{NAME_MOST, PATH_NAMES_MOST}
use Rattle.command_text.specs.Fields.{◌>>=◌, is_text, name_of}
use Rattle.command_text.specs.Parts.{cut_at}
use Rattle.command_text.specs.Paths.{names_of, within_path, names_in, spot_at, spot_in, spot_of, path_of}
use Rattle.command_text.specs.declared.path.PathCommand.{PathCommand}
use Rattle.command_text.specs.declared.path.PathCommand.TheVariants.{Find, Rewrite as Renew, Look, LookRoot, List as Lists, Make, MakeDir, Remove, RemoveDir, Rename}
use Rattle.command_text.specs.declared.path.Spot.{Spot}
use Rattle.trace_text.proofs.Found.{Of, of_then, of_either}

abbrev pub IsShort : List ℕ → Type 0
IsShort name = length name ≤ 255

abbrev pub AreShort : List (List ℕ) → Type 0
AreShort [] = Unit {0}
AreShort (n ∷ ns) = IsShort n × AreShort ns

abbrev pub IsShortSpot : Spot → Type 0
IsShortSpot s = AreShort s.dirs × IsShort s.name

-- the names of a command
abbrev pub AreNamesShort : PathCommand → Type 0
AreNamesShort (Find s) = IsShortSpot s
AreNamesShort (Renew s) = IsShortSpot s
AreNamesShort (Look s) = IsShortSpot s
AreNamesShort LookRoot = Unit {0}
AreNamesShort (Lists p) = AreShort p
AreNamesShort (Make s) = IsShortSpot s
AreNamesShort (MakeDir s) = IsShortSpot s
AreNamesShort (Remove s) = IsShortSpot s
AreNamesShort (RemoveDir s) = IsShortSpot s
AreNamesShort (Rename s t) = IsShortSpot s × IsShortSpot t

-- ---- lists of names

short_take : (k : ℕ) (ns : List (List ℕ)) → AreShort ns → AreShort (take k ns)
short_take zero ns h = tt
short_take (suc k) [] h = tt
short_take (suc k) (n ∷ ns) h = (h.0, short_take k ns h.1)

short_drop : (k : ℕ) (ns : List (List ℕ)) → AreShort ns → AreShort (drop k ns)
short_drop zero ns h = h
short_drop (suc k) [] h = tt
short_drop (suc k) (n ∷ ns) h = short_drop k ns h.1

short_joined : (ns ms : List (List ℕ)) → AreShort ns → AreShort ms → AreShort (ns ++ ms)
short_joined [] ms h i = i
short_joined (n ∷ ns) ms h i = (h.0, short_joined ns ms h.1 i)

short_at : (ns : List (List ℕ)) (k : ℕ) → AreShort ns → IsShort (slice_index_or ns k [])
short_at [] k h = omega arith
short_at (n ∷ ns) zero h = h.0
short_at (n ∷ ns) (suc k) h = short_at ns k h.1

-- ---- what is read

short_name : (word : List ℕ) → Of IsShort (name_of word)
short_name word = by (is_text word) (nat_le (length word) NAME_MOST) (not (bytes_eq word (codes "."))) (not (bytes_eq word (codes ".."))) refl
  where
    by : (a b c d : Bool) → nat_le (length word) NAME_MOST ≡ b → Of IsShort (cond (a && b && c && d) (Some word) None)
    by false b c d e = tt
    by true false c d e = tt
    by true true false d e = tt
    by true true true false e = tt
    by true true true true e = grind (arith, nat_tests, e)

short_names : (words : List (List ℕ)) → Of AreShort (names_of words)
short_names [] = tt
short_names (w ∷ ws) = of_then IsShort AreShort (name_of w) (λ n. names_of ws >>= λ ns. Some (n ∷ ns)) (short_name w) (λ n h. of_then AreShort AreShort (names_of ws) (λ ns. Some (n ∷ ns)) (short_names ws) (λ ns i. (h, i)))

short_in : (word : List ℕ) → Of AreShort (names_in word)
short_in word = of_then AreShort AreShort (names_of (cut_at 47 word)) within_path (short_names (cut_at 47 word)) (λ ns h. of_either AreShort (nat_le (length ns) PATH_NAMES_MOST) (Some ns) None h tt)

short_spot_at : (ns : List (List ℕ)) → AreShort ns → IsShortSpot (spot_at ns)
short_spot_at ns h = (short_joined (take (length ns - 1) ns) (drop (suc (length ns - 1)) ns) (short_take (length ns - 1) ns h) (short_drop (suc (length ns - 1)) ns h), short_at ns (length ns - 1) h)

short_spot_in : (ns : List (List ℕ)) → AreShort ns → Of IsShortSpot (spot_in ns)
short_spot_in [] h = tt
short_spot_in (n ∷ ns) h = short_spot_at (n ∷ ns) h

pub short_spot : (word : List ℕ) → Of IsShortSpot (spot_of word)
short_spot word = of_then AreShort IsShortSpot (names_in word) spot_in (short_in word) short_spot_in

pub short_path : (word : List ℕ) → Of AreShort (path_of word)
short_path word = of_either AreShort (bytes_eq word (codes "/")) (Some []) (names_in word) tt (short_in word)
