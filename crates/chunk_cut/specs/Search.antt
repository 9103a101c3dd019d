-- The ends of chunks, found by a search that takes the least each time. `ends` is the one list that
-- `AreEnds` of `Ends` holds of: the law of the crate says so.
use Rattle.std.specs.Prelude.{ℕ, zero, suc, ◌+◌, ◌-◌, ◌%◌, ◌^◌, List, [], ◌∷◌, ◌++◌, length, Option, Some, None, Bool, true, false, nat_eq, nat_le, nat_lt, ◌&&◌, ◌||◌}
use Rattle.limits.specs.declared.TheConstants.{CHUNK_LEAST, CHUNK_MOST}
use Rattle.rabin_window.specs.Fingerprint.{fp}
use Rattle.chunk_cut.specs.Ends.{window_before}

-- the least of n numbers from e on that passes the test
abbrev pub least : (ℕ → Bool) → ℕ → ℕ → Option ℕ
least test zero e = None
least test (suc n) e = elim (test e) [ true ↦ Some e | false ↦ least test n (e + 1) ]

-- a chunk that begins at s, and has the least size, may end at e
abbrev pub may_end : List ℕ → ℕ → ℕ → Bool
may_end content s e = nat_le e (s + CHUNK_MOST) && (nat_eq (fp (window_before content e) % 2 ^ 13) 0x78 || nat_eq e (s + CHUNK_MOST))

-- the least place in the content where a chunk that begins at s may end
unfoldable pub next_end : List ℕ → ℕ → Option ℕ
next_end content s = least (may_end content s) (length content + 1 - (s + CHUNK_LEAST)) (s + CHUNK_LEAST)

-- the ends of the next chunks from the cut at s on that end whatever follows, so many at most
abbrev pub closed_from : ℕ → List ℕ → ℕ → List ℕ
closed_from zero content s = []
closed_from (suc more) content s = elim (next_end content s) [ None ↦ [] | Some e ↦ e ∷ closed_from more content e ]

-- the ends of all chunks that end whatever follows
unfoldable pub closed_ends : List ℕ → List ℕ
closed_ends content = closed_from (length content) content 0

-- the last cut, where the first is at s
abbrev pub last_cut : ℕ → List ℕ → ℕ
last_cut s [] = s
last_cut s (e ∷ ends) = last_cut e ends

-- where the chunk begins that bytes to come would still belong to
abbrev pub open_at : List ℕ → ℕ
open_at content = last_cut 0 (closed_ends content)

-- the ends of the chunks of the content
abbrev pub ends : List ℕ → List ℕ
ends content =
    closed_ends content ++ elim (nat_lt (open_at content) (length content)) [ true ↦ length content ∷ [] | false ↦ [] ]
