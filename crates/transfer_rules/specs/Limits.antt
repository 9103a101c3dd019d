-- The bounds of an operation: its calls under way, its attempts, and the lengths of what it fetches or stores.
use Rattle.std.specs.Prelude.{ℕ}
use Rattle.limits.specs.declared.TheConstants.{ATTEMPTS_MOST, FILE_MOST, CHUNK_MOST, CHUNK_LEAST}
use Rattle.transfer_rules.specs.declared.bounds.TheConstants.{CALLS_MOST}

-- The most calls of one operation that are under way at once. It stays shut in a proof that doesn't ask to unfold it, so that none looks at so
-- many calls one by one.
unfoldable pub calls_most : ℕ
calls_most = CALLS_MOST

-- the most attempts of an open
abbrev pub tries_most : ℕ
tries_most = ATTEMPTS_MOST

-- no file is longer, in bytes
abbrev pub file_limit : ℕ
file_limit = FILE_MOST

-- no chunk is longer, and only the last of a file is shorter than the least (the LBFS paper, section 3.1)
abbrev pub chunk_most : ℕ
chunk_most = CHUNK_MOST

abbrev pub chunk_least : ℕ
chunk_least = CHUNK_LEAST
