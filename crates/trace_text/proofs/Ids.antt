-- What the grammar keeps of the numbers in a line.
use Rattle.std.proofs.Common.{◌≡◌, ℕ, ◌<◌, ◌-◌, ◌^◌, List, [], ◌∷◌, Option, Some, None, Bool, true, false, take, drop, refl, arith}
use Rattle.std.specs.Prelude.{cond, Result, Ok, Err, IfOk, ◌&&◌, codes, bytes_eq, nat_lt, nat_le}
use Rattle.std.proofs.lemmas.Bool.Decides.{nat_tests}
use Rattle.command_text.specs.Commands.{open_of, renew_of, rewrite_at, rewrite_of, write_of, trunc_of, read_of, close_of, abandon_of, find_of, open_at, one_spot, spot_command, rename_of, list_of, look_of, path_command_of, command_of}
use Rattle.command_text.specs.Fields.{◌>>=◌, value_from, value_of, is_decimal, number_of, number_within, content_of, id_of}
use Rattle.command_text.specs.Paths.{spot_of, path_of}
use Rattle.command_text.specs.Reading.{Gives}
use Rattle.trace_text.specs.Fields.{lbfs_of, reading_of, amount_of, who_of, key_of, bytes_of}
use Rattle.trace_text.specs.Grammar.{version_of, term_of, drift_of, clients_of, dir_of, file_of, join_of, do_of, up_of, down_of, pass_of, rawjoin_of, raw_of, settle_of, cut_of, hang_of, forge_of, clear_of, evict_of, warm_of, event_from, line_from, said_by, is_skipped, line_of}
use Rattle.command_text.specs.Parts.{words_of}
use Rattle.trace_text.specs.Reading.{IsTimely}
use Rattle.command_text.specs.declared.line_error.LineError.{LineError}
use Rattle.command_text.specs.declared.command.Command.{Command}
use Rattle.command_text.specs.declared.command.Command.TheVariants.{Open, Rewrite, Write, Trunc, Read, Close, Abandon, Named}
use Rattle.command_text.specs.declared.path.PathCommand.{PathCommand}
use Rattle.command_text.specs.declared.path.PathCommand.TheVariants.{Find, Rewrite as Renew, Look, LookRoot, List as Lists, Make, MakeDir, Remove, RemoveDir, Rename}
use Rattle.command_text.specs.declared.path.Spot.{Spot}
use Rattle.trace_text.specs.declared.line.Line.{Line}
use Rattle.trace_text.specs.declared.line.Line.TheVariants.{Version, Term, Drift, Clients, Dir, File, Join, Do, Up, Down, Pass, RawJoin, Raw, Settle, Cut, Hang, Forge, Clear, Evict, Warm, Skipped}
use Rattle.trace_text.proofs.Found.{Of, of_it, of_then, of_either, of_any}
use Rattle.trace_text.proofs.ShortNames.{AreShort, IsShortSpot, AreNamesShort, short_spot, short_path}

-- the numbers in a command have at most 64 bits, and its names 255 bytes each
abbrev pub IsSmall : Command → Type 0
IsSmall (Open id) = id < 2 ^ 64
IsSmall (Rewrite id) = id < 2 ^ 64
IsSmall (Write id offset content) = (id < 2 ^ 64) × (offset < 2 ^ 64)
IsSmall (Trunc id size) = (id < 2 ^ 64) × (size < 2 ^ 64)
IsSmall (Read id offset count) = (id < 2 ^ 64) × (offset < 2 ^ 64) × (count < 2 ^ 64)
IsSmall (Close id) = id < 2 ^ 64
IsSmall (Abandon id) = id < 2 ^ 64
IsSmall (Named k) = AreNamesShort k

-- the numbers in the command of a line, if it has one, have at most 64 bits, and the server's reading that it brings to a step 63; its names have at most 255 bytes each
abbrev pub IsFit : Line → Type 0
IsFit (Do client at command) = IsSmall command
IsFit (Dir s) = IsShortSpot s
IsFit (File s content) = IsShortSpot s
IsFit line = IsTimely line

-- ---- fields

of_value : (digits : List ℕ) → Of (λ n. n < 2 ^ 64) (value_of digits)
of_value digits = by (value_from 0 digits) (nat_lt (value_from 0 digits) (2 ^ 64)) refl
  where
    by : (n : ℕ) (b : Bool) → nat_lt n (2 ^ 64) ≡ b → Of (λ n. n < 2 ^ 64) (cond b (Some n) None)
    by n true e = grind (arith, nat_tests, e)
    by n false e = tt

of_number : (word : List ℕ) → Of (λ n. n < 2 ^ 64) (number_of word)
of_number word = of_either (λ n. n < 2 ^ 64) (is_decimal word) (value_of word) None (of_value word) tt

of_id : (word : List ℕ) → Of (λ n. n < 2 ^ 64) (id_of word)
of_id word = of_either (λ n. n < 2 ^ 64) (bytes_eq (take 1 word) (codes "#")) (number_of (drop 1 word)) None (of_number (drop 1 word)) tt

of_reading : (word : List ℕ) → Of (λ n. n < 2 ^ 63) (reading_of word)
of_reading word = of_then (λ a. Unit {0}) (λ n. n < 2 ^ 63) (number_of word) _ (of_any (number_of word)) (λ n h. by n (nat_le 0 n) (nat_le n (2 ^ 63 - 1)) refl)
  where
    by : (n : ℕ) (a b : Bool) → nat_le n (2 ^ 63 - 1) ≡ b → Of (λ m. m < 2 ^ 63) (cond (a && b) (Some n) None)
    by n true true e = grind (arith, nat_tests, e)
    by n true false e = tt
    by n false b e = tt

pub number_fits : (word : List ℕ) (n : ℕ) → number_of word ≡ Some n → n < 2 ^ 64
number_fits word n e = of_it (λ n. n < 2 ^ 64) (number_of word) n (of_number word) e

pub id_fits : (word : List ℕ) (n : ℕ) → id_of word ≡ Some n → n < 2 ^ 64
id_fits word n e = of_it (λ n. n < 2 ^ 64) (id_of word) n (of_id word) e

-- ---- lines

of_version : (ws : List (List ℕ)) → Of IsFit (version_of ws)
of_version [] = tt
of_version (v ∷ []) = of_then (λ a. Unit {0}) IsFit (lbfs_of v) (λ n. Some (Version n)) (of_any (lbfs_of v)) (λ a h. tt)
of_version (v ∷ w ∷ ws) = tt

of_term : (ws : List (List ℕ)) → Of IsFit (term_of ws)
of_term [] = tt
of_term (v ∷ []) = of_then (λ a. Unit {0}) IsFit (number_within 1 3600000 v) (λ n. Some (Term n)) (of_any (number_within 1 3600000 v)) (λ a h. tt)
of_term (v ∷ w ∷ ws) = tt

of_drift : (ws : List (List ℕ)) → Of IsFit (drift_of ws)
of_drift [] = tt
of_drift (v ∷ []) = of_then (λ a. Unit {0}) IsFit (number_within 0 3600000 v) (λ n. Some (Drift n)) (of_any (number_within 0 3600000 v)) (λ a h. tt)
of_drift (v ∷ w ∷ ws) = tt

of_clients : (ws : List (List ℕ)) → Of IsFit (clients_of ws)
of_clients [] = tt
of_clients (v ∷ []) = of_then (λ a. Unit {0}) IsFit (number_within 1 16 v) (λ n. Some (Clients n)) (of_any (number_within 1 16 v)) (λ a h. tt)
of_clients (v ∷ w ∷ ws) = tt

of_dir : (ws : List (List ℕ)) → Of IsFit (dir_of ws)
of_dir [] = tt
of_dir (v ∷ []) = of_then IsShortSpot IsFit (spot_of v) (λ s. Some (Dir s)) (short_spot v) (λ s h. h)
of_dir (v ∷ w ∷ ws) = tt

of_file : (ws : List (List ℕ)) → Of IsFit (file_of ws)
of_file [] = tt
of_file (v ∷ []) = tt
of_file (v ∷ w ∷ []) = of_then IsShortSpot IsFit (spot_of v) (λ s. content_of w >>= λ c. Some (File s c)) (short_spot v) (λ s h. of_then (λ a. Unit {0}) IsFit (content_of w) (λ c. Some (File s c)) (of_any (content_of w)) (λ c i. h))
of_file (v ∷ w ∷ x ∷ ws) = tt

of_join : (ws : List (List ℕ)) → Of IsFit (join_of ws)
of_join [] = tt
of_join (v ∷ []) = tt
of_join (v ∷ w ∷ []) = tt
of_join (v ∷ w ∷ x ∷ []) = of_then (λ a. Unit {0}) IsFit (number_of v) _ (of_any (number_of v)) (λ c h. of_then (λ a. Unit {0}) IsFit (reading_of w) _ (of_any (reading_of w)) (λ a i. of_then (λ a. Unit {0}) IsFit (reading_of x) (λ s. Some (Join c a s)) (of_any (reading_of x)) (λ s j. tt)))
of_join (v ∷ w ∷ x ∷ y ∷ ws) = tt

of_find : (word : List ℕ) → Of IsSmall (find_of word)
of_find word = of_then IsShortSpot IsSmall (spot_of word) (λ s. Some (Named (Find s))) (short_spot word) (λ s h. h)

of_open_at : (word : List ℕ) (o : Option ℕ) → Of (λ n. n < 2 ^ 64) o → Of IsSmall (open_at word o)
of_open_at word (Some n) h = h
of_open_at word None h = of_find word

of_open : (ws : List (List ℕ)) → Of IsSmall (open_of ws)
of_open [] = tt
of_open (v ∷ []) = of_open_at v (id_of v) (of_id v)
of_open (v ∷ w ∷ ws) = tt

of_renew : (word : List ℕ) → Of IsSmall (renew_of word)
of_renew word = of_then IsShortSpot IsSmall (spot_of word) (λ s. Some (Named (Renew s))) (short_spot word) (λ s h. h)

of_rewrite_at : (word : List ℕ) (o : Option ℕ) → Of (λ n. n < 2 ^ 64) o → Of IsSmall (rewrite_at word o)
of_rewrite_at word (Some n) h = h
of_rewrite_at word None h = of_renew word

of_rewrite : (ws : List (List ℕ)) → Of IsSmall (rewrite_of ws)
of_rewrite [] = tt
of_rewrite (v ∷ []) = of_rewrite_at v (id_of v) (of_id v)
of_rewrite (v ∷ w ∷ ws) = tt

of_write : (ws : List (List ℕ)) → Of IsSmall (write_of ws)
of_write [] = tt
of_write (v ∷ []) = tt
of_write (v ∷ w ∷ []) = tt
of_write (v ∷ w ∷ x ∷ []) = of_then (λ n. n < 2 ^ 64) IsSmall (id_of v) _ (of_id v) (λ f h. of_then (λ n. n < 2 ^ 64) IsSmall (number_of w) _ (of_number w) (λ o i. of_then (λ c. Unit {0}) IsSmall (content_of x) (λ c. Some (Write f o c)) (of_any (content_of x)) (λ c j. (h, i))))
of_write (v ∷ w ∷ x ∷ y ∷ ws) = tt

of_trunc : (ws : List (List ℕ)) → Of IsSmall (trunc_of ws)
of_trunc [] = tt
of_trunc (v ∷ []) = tt
of_trunc (v ∷ w ∷ []) = of_then (λ n. n < 2 ^ 64) IsSmall (id_of v) _ (of_id v) (λ f h. of_then (λ n. n < 2 ^ 64) IsSmall (number_of w) (λ n. Some (Trunc f n)) (of_number w) (λ n i. (h, i)))
of_trunc (v ∷ w ∷ x ∷ ws) = tt

of_read : (ws : List (List ℕ)) → Of IsSmall (read_of ws)
of_read [] = tt
of_read (v ∷ []) = tt
of_read (v ∷ w ∷ []) = tt
of_read (v ∷ w ∷ x ∷ []) = of_then (λ n. n < 2 ^ 64) IsSmall (id_of v) _ (of_id v) (λ f h. of_then (λ n. n < 2 ^ 64) IsSmall (number_of w) _ (of_number w) (λ o i. of_then (λ n. n < 2 ^ 64) IsSmall (number_of x) (λ n. Some (Read f o n)) (of_number x) (λ n j. (h, i, j))))
of_read (v ∷ w ∷ x ∷ y ∷ ws) = tt

of_close : (ws : List (List ℕ)) → Of IsSmall (close_of ws)
of_close [] = tt
of_close (v ∷ []) = of_then (λ n. n < 2 ^ 64) IsSmall (id_of v) (λ n. Some (Close n)) (of_id v) (λ n h. h)
of_close (v ∷ w ∷ ws) = tt

of_abandon : (ws : List (List ℕ)) → Of IsSmall (abandon_of ws)
of_abandon [] = tt
of_abandon (v ∷ []) = of_then (λ n. n < 2 ^ 64) IsSmall (id_of v) (λ n. Some (Abandon n)) (of_id v) (λ n h. h)
of_abandon (v ∷ w ∷ ws) = tt

of_one : (ws : List (List ℕ)) → Of IsShortSpot (one_spot ws)
of_one [] = tt
of_one (v ∷ []) = short_spot v
of_one (v ∷ w ∷ ws) = tt

of_spot : (k : Spot → PathCommand) (ws : List (List ℕ)) → ((s : Spot) → IsShortSpot s → AreNamesShort (k s)) → Of IsSmall (spot_command k ws)
of_spot k ws short = of_then IsShortSpot IsSmall (one_spot ws) (λ s. Some (Named (k s))) (of_one ws) short

of_rename : (ws : List (List ℕ)) → Of IsSmall (rename_of ws)
of_rename [] = tt
of_rename (v ∷ []) = tt
of_rename (v ∷ w ∷ []) = of_then IsShortSpot IsSmall (spot_of v) (λ f. spot_of w >>= λ t. Some (Named (Rename f t))) (short_spot v) (λ f h. of_then IsShortSpot IsSmall (spot_of w) (λ t. Some (Named (Rename f t))) (short_spot w) (λ t i. (h, i)))
of_rename (v ∷ w ∷ x ∷ ws) = tt

of_list : (ws : List (List ℕ)) → Of IsSmall (list_of ws)
of_list [] = tt
of_list (v ∷ []) = of_then AreShort IsSmall (path_of v) (λ p. Some (Named (Lists p))) (short_path v) (λ p h. h)
of_list (v ∷ w ∷ ws) = tt

of_look : (ws : List (List ℕ)) → Of IsSmall (look_of ws)
of_look [] = tt
of_look (v ∷ []) = of_either IsSmall (bytes_eq v (codes "/")) (Some (Named LookRoot)) (spot_of v >>= λ s. Some (Named (Look s))) tt (of_then IsShortSpot IsSmall (spot_of v) (λ s. Some (Named (Look s))) (short_spot v) (λ s h. h))
of_look (v ∷ w ∷ ws) = tt

of_named : (word : List ℕ) (ws : List (List ℕ)) → Of IsSmall (path_command_of word ws)
of_named word ws =
    of_either IsSmall (bytes_eq word (codes "make")) _ _ (of_spot Make ws (λ s h. h)) (of_either IsSmall (bytes_eq word (codes "mkdir")) _ _ (of_spot MakeDir ws (λ s h. h)) (of_either IsSmall (bytes_eq word (codes "remove")) _ _ (of_spot Remove ws (λ s h. h))
    (of_either IsSmall (bytes_eq word (codes "rmdir")) _ _ (of_spot RemoveDir ws (λ s h. h)) (of_either IsSmall (bytes_eq word (codes "rename")) _ _ (of_rename ws) (of_either IsSmall (bytes_eq word (codes "list")) _ _ (of_list ws)
    (of_either IsSmall (bytes_eq word (codes "look")) (look_of ws) None (of_look ws) tt))))))

of_command : (word : List ℕ) (ws : List (List ℕ)) → Of IsSmall (command_of word ws)
of_command word ws =
    of_either IsSmall (bytes_eq word (codes "open")) _ _ (of_open ws) (of_either IsSmall (bytes_eq word (codes "rewrite")) _ _ (of_rewrite ws) (of_either IsSmall (bytes_eq word (codes "write")) _ _ (of_write ws) (of_either IsSmall (bytes_eq word (codes "trunc")) _ _ (of_trunc ws)
    (of_either IsSmall (bytes_eq word (codes "read")) _ _ (of_read ws) (of_either IsSmall (bytes_eq word (codes "close")) _ _ (of_close ws) (of_either IsSmall (bytes_eq word (codes "abandon")) (abandon_of ws) (path_command_of word ws) (of_abandon ws) (of_named word ws)))))))

of_do : (ws : List (List ℕ)) → Of IsFit (do_of ws)
of_do [] = tt
of_do (v ∷ []) = tt
of_do (v ∷ w ∷ []) = tt
of_do (v ∷ w ∷ x ∷ ws) = of_then (λ a. Unit {0}) IsFit (number_of v) _ (of_any (number_of v)) (λ c h. of_then (λ a. Unit {0}) IsFit (reading_of w) _ (of_any (reading_of w)) (λ a i. of_then IsSmall IsFit (command_of x ws) (λ k. Some (Do c a k)) (of_command x ws) (λ k j. j)))

of_up : (ws : List (List ℕ)) → Of IsFit (up_of ws)
of_up [] = tt
of_up (v ∷ []) = tt
of_up (v ∷ w ∷ []) = tt
of_up (v ∷ w ∷ x ∷ []) = of_then (λ a. Unit {0}) IsFit (number_of v) _ (of_any (number_of v)) (λ n h. of_then (λ a. Unit {0}) IsFit (amount_of w) _ (of_any (amount_of w)) (λ m i. of_then (λ s. s < 2 ^ 63) IsFit (reading_of x) (λ s. Some (Up n m s)) (of_reading x) (λ s j. j)))
of_up (v ∷ w ∷ x ∷ y ∷ ws) = tt

of_down : (ws : List (List ℕ)) → Of IsFit (down_of ws)
of_down [] = tt
of_down (v ∷ []) = tt
of_down (v ∷ w ∷ []) = tt
of_down (v ∷ w ∷ x ∷ []) = of_then (λ a. Unit {0}) IsFit (number_of v) _ (of_any (number_of v)) (λ n h. of_then (λ a. Unit {0}) IsFit (amount_of w) _ (of_any (amount_of w)) (λ m i. of_then (λ a. Unit {0}) IsFit (reading_of x) (λ a. Some (Down n m a)) (of_any (reading_of x)) (λ a j. tt)))
of_down (v ∷ w ∷ x ∷ y ∷ ws) = tt

of_pass : (ws : List (List ℕ)) → Of IsFit (pass_of ws)
of_pass [] = tt
of_pass (v ∷ []) = tt
of_pass (v ∷ w ∷ []) = tt
of_pass (v ∷ w ∷ x ∷ []) = tt
of_pass (v ∷ w ∷ x ∷ y ∷ []) = of_then (λ a. Unit {0}) IsFit (number_of v) _ (of_any (number_of v)) (λ n h. of_then (λ a. Unit {0}) IsFit (number_of w) _ (of_any (number_of w)) (λ k i. of_then (λ s. s < 2 ^ 63) IsFit (reading_of x) _ (of_reading x) (λ s j. of_then (λ a. Unit {0}) IsFit (reading_of y) (λ a. Some (Pass n k s a)) (of_any (reading_of y)) (λ a l. j))))
of_pass (v ∷ w ∷ x ∷ y ∷ z ∷ ws) = tt

of_rawjoin : (ws : List (List ℕ)) → Of IsFit (rawjoin_of ws)
of_rawjoin [] = tt
of_rawjoin (v ∷ []) = of_then (λ a. Unit {0}) IsFit (reading_of v) (λ s. Some (RawJoin s)) (of_any (reading_of v)) (λ s h. tt)
of_rawjoin (v ∷ w ∷ ws) = tt

of_raw : (ws : List (List ℕ)) → Of IsFit (raw_of ws)
of_raw [] = tt
of_raw (v ∷ []) = tt
of_raw (v ∷ w ∷ []) = of_then (λ a. Unit {0}) IsFit (number_of v) _ (of_any (number_of v)) (λ n h. of_then (λ a. Unit {0}) IsFit (bytes_of w) (λ b. Some (Raw n b)) (of_any (bytes_of w)) (λ b i. tt))
of_raw (v ∷ w ∷ x ∷ ws) = tt

of_settle : (ws : List (List ℕ)) → Of IsFit (settle_of ws)
of_settle [] = tt
of_settle (v ∷ []) = of_then (λ s. s < 2 ^ 63) IsFit (reading_of v) (λ s. Some (Settle s)) (of_reading v) (λ s h. h)
of_settle (v ∷ w ∷ ws) = tt

of_cut : (ws : List (List ℕ)) → Of IsFit (cut_of ws)
of_cut [] = tt
of_cut (v ∷ []) = tt
of_cut (v ∷ w ∷ []) = of_then (λ a. Unit {0}) IsFit (number_of v) _ (of_any (number_of v)) (λ c h. of_then (λ a. Unit {0}) IsFit (reading_of w) (λ a. Some (Cut c a)) (of_any (reading_of w)) (λ a i. tt))
of_cut (v ∷ w ∷ x ∷ ws) = tt

of_hang : (ws : List (List ℕ)) → Of IsFit (hang_of ws)
of_hang [] = tt
of_hang (v ∷ []) = tt
of_hang (v ∷ w ∷ []) = of_then (λ a. Unit {0}) IsFit (number_of v) _ (of_any (number_of v)) (λ n h. of_then (λ a. Unit {0}) IsFit (reading_of w) (λ s. Some (Hang n s)) (of_any (reading_of w)) (λ s i. tt))
of_hang (v ∷ w ∷ x ∷ ws) = tt

of_forge : (ws : List (List ℕ)) → Of IsFit (forge_of ws)
of_forge [] = tt
of_forge (u ∷ []) = tt
of_forge (u ∷ v ∷ []) = tt
of_forge (u ∷ v ∷ w ∷ []) = tt
of_forge (u ∷ v ∷ w ∷ x ∷ []) = tt
of_forge (u ∷ v ∷ w ∷ x ∷ y ∷ []) = of_then (λ a. Unit {0}) IsFit (who_of u) _ (of_any (who_of u)) (λ a h. of_then (λ a. Unit {0}) IsFit (key_of v) _ (of_any (key_of v)) (λ k i. of_then (λ a. Unit {0}) IsFit (number_of w) _ (of_any (number_of w))
    (λ f j. of_then (λ a. Unit {0}) IsFit (number_of x) _ (of_any (number_of x)) (λ o l. of_then (λ a. Unit {0}) IsFit (number_of y) (λ n. Some (Forge a k f o n)) (of_any (number_of y)) (λ n m. tt)))))
of_forge (u ∷ v ∷ w ∷ x ∷ y ∷ z ∷ ws) = tt

of_clear : (ws : List (List ℕ)) → Of IsFit (clear_of ws)
of_clear [] = tt
of_clear (v ∷ []) = of_then (λ a. Unit {0}) IsFit (who_of v) (λ a. Some (Clear a)) (of_any (who_of v)) (λ a h. tt)
of_clear (v ∷ w ∷ ws) = tt

of_evict : (ws : List (List ℕ)) → Of IsFit (evict_of ws)
of_evict [] = tt
of_evict (v ∷ []) = tt
of_evict (v ∷ w ∷ []) = of_then (λ a. Unit {0}) IsFit (number_of v) _ (of_any (number_of v)) (λ c h. of_then (λ a. Unit {0}) IsFit (number_of w) (λ f. Some (Evict c f)) (of_any (number_of w)) (λ f i. tt))
of_evict (v ∷ w ∷ x ∷ ws) = tt

of_warm : (ws : List (List ℕ)) → Of IsFit (warm_of ws)
of_warm [] = tt
of_warm (v ∷ []) = tt
of_warm (v ∷ w ∷ []) = of_then (λ a. Unit {0}) IsFit (number_of v) _ (of_any (number_of v)) (λ c h. of_then (λ a. Unit {0}) IsFit (content_of w) (λ b. Some (Warm c b)) (of_any (content_of w)) (λ b i. tt))
of_warm (v ∷ w ∷ x ∷ ws) = tt

of_event : (kind : List ℕ) (ws : List (List ℕ)) → Of IsFit (event_from kind ws)
of_event kind ws =
    of_either IsFit (bytes_eq kind (codes "join")) _ _ (of_join ws) (of_either IsFit (bytes_eq kind (codes "do")) _ _ (of_do ws) (of_either IsFit (bytes_eq kind (codes "up")) _ _ (of_up ws)
    (of_either IsFit (bytes_eq kind (codes "down")) _ _ (of_down ws) (of_either IsFit (bytes_eq kind (codes "pass")) _ _ (of_pass ws) (of_either IsFit (bytes_eq kind (codes "rawjoin")) _ _ (of_rawjoin ws)
    (of_either IsFit (bytes_eq kind (codes "raw")) _ _ (of_raw ws) (of_either IsFit (bytes_eq kind (codes "settle")) _ _ (of_settle ws)
    (of_either IsFit (bytes_eq kind (codes "cut")) _ _ (of_cut ws) (of_either IsFit (bytes_eq kind (codes "hang")) _ _ (of_hang ws)
    (of_either IsFit (bytes_eq kind (codes "forge")) _ _ (of_forge ws) (of_either IsFit (bytes_eq kind (codes "clear")) _ _ (of_clear ws) (of_either IsFit (bytes_eq kind (codes "evict")) _ _ (of_evict ws) (of_either IsFit (bytes_eq kind (codes "warm")) (warm_of ws) None (of_warm ws) tt)))))))))))))

of_kind : (kind : List ℕ) (ws : List (List ℕ)) → Of IsFit (line_from kind ws)
of_kind kind ws =
    of_either IsFit (bytes_eq kind (codes "lbfs-trace")) _ _ (of_version ws) (of_either IsFit (bytes_eq kind (codes "term")) _ _ (of_term ws) (of_either IsFit (bytes_eq kind (codes "drift")) _ _ (of_drift ws)
    (of_either IsFit (bytes_eq kind (codes "clients")) _ _ (of_clients ws) (of_either IsFit (bytes_eq kind (codes "dir")) _ _ (of_dir ws) (of_either IsFit (bytes_eq kind (codes "file")) (file_of ws) (event_from kind ws) (of_file ws) (of_event kind ws))))))

of_said : (ws : List (List ℕ)) → Of IsFit (said_by ws)
of_said [] = tt
of_said (w ∷ ws) = of_kind w ws

of_line : (line : List ℕ) → Of IsFit (line_of line)
of_line line = of_either IsFit (is_skipped line) (Some Skipped) (said_by (words_of line)) tt (of_said (words_of line))

-- the numbers in the command of a line that was read have at most 64 bits
pub fit_line : (line : List ℕ) (said : Line) → line_of line ≡ Some said → IsFit said
fit_line line said e = of_it IsFit (line_of line) said (of_line line) e

-- a line that fits is timely
timely : (said : Line) → IsFit said → IsTimely said
timely (Do client at command) h = tt
timely (Dir s) h = tt
timely (File s content) h = tt
timely said h = h

pub timely_line : (line : List ℕ) (said : Line) → line_of line ≡ Some said → IsTimely said
timely_line line said e = timely said (fit_line line said e)

pub gives_timely : (line : List ℕ) (r : Result Line LineError) → Gives r (line_of line) → IfOk r IsTimely
gives_timely line (Ok said) g = timely_line line said g
gives_timely line (Err e) g = tt
