-- The sessions of a server: those that stand, and how many were ever made.
use Rattle.std.specs.Prelude.{ℕ, ◌+◌, List, [], ◌∷◌, ◌++◌, Bool, ◌&&◌, not, filter, length, nat_lt, ◌==◌}
use Rattle.limits.specs.declared.TheConstants.{SESSIONS_MOST, SESSIONS_EVER_MOST}

pub record Sessions : Type 0 where
  -- the numbers of those that stand, in the order in which they were made
  pub standing : List ℕ
  -- how many were ever made
  pub made : ℕ

abbrev pub no_sessions : Sessions
no_sessions = record { standing = []; made = 0 }

-- when one more may stand: at most 64 stand at once, and at most 4,294,967,295 are ever made
abbrev pub has_place : (standing made : ℕ) → Bool
has_place standing made = nat_lt standing SESSIONS_MOST && nat_lt made SESSIONS_EVER_MOST

abbrev pub has_room : Sessions → Bool
has_room s = has_place (length s.standing) s.made

-- one more, whose number none had before
abbrev pub with_next : Sessions → Sessions
with_next s = record { standing = s.standing ++ (s.made + 1) ∷ []; made = s.made + 1 }

-- the others
abbrev pub without : Sessions → (session : ℕ) → Sessions
without s session = record s { standing = filter (λ k. not (k == session)) s.standing }
