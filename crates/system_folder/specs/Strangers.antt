-- How the files begin that a store has beside its records: by that a file of their names is known that isn't a store's.
use Rattle.std.specs.Prelude.{ℕ, Bool, true, false, List, [], ◌∷◌, length, take, drop, nat_lt, ◌==◌, ◌&&◌, ◌||◌, if◌then◌else◌}

-- no byte is this or more
abbrev pub are_below : ℕ → List ℕ → Bool
are_below most [] = true
are_below most (b ∷ bs) = nat_lt b most && are_below most bs

-- a log begins by a number below 2^32 and a length below 2^24, eight bytes each; what is shorter is zeros
abbrev pub begins_log : List ℕ → Bool
begins_log front = if nat_lt (length front) 16 then are_below 1 front else (are_below 1 (take 4 front) && are_below 1 (take 5 (drop 8 front)))

-- what is reserved is ones, or zeros where they didn't reach the disk
abbrev pub begins_reserve : List ℕ → Bool
begins_reserve front = are_below 2 front

-- a list of a change begins by a line's sign, or is zeros
abbrev pub begins_list : List ℕ → Bool
begins_list [] = true
begins_list (b ∷ bs) = (b == 43) || (b == 45) || (b == 0)
