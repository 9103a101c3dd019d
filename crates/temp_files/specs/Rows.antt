-- Temporary files at worked calls.
use Rattle.std.specs.Prelude.{◌≡◌, ℕ, List, [], ◌∷◌, Some, None, refl}
use Rattle.xdr_codec.specs.declared.status.Status.TheVariants as status
use Rattle.temp_files.specs.Pieces.{Piece, range_fault, joined}
use Rattle.temp_files.specs.Temps.{Temps, temp_at, with_temp, without_temp, without_session, empty_temp, room_fault, piece_fault, with_more, size_fault, whole_of}

-- ---- a session makes one, for file 2, and puts "ab" at 0 and "d" at 3

abbrev one : Temps
one = with_temp [] (empty_temp 1 1 2)

abbrev two : Temps
two = with_more one (temp_at one 1 1) 0 (97 ∷ 98 ∷ [])

abbrev three : Temps
three = with_more two (temp_at two 1 1) 3 (100 ∷ [])

first_fits : room_fault [] 1 1 ≡ None
first_fits = refl

again : room_fault one 1 1 ≡ Some status.FdInUse
again = refl

-- the same number of another session is another temporary file
other_session : room_fault one 2 1 ≡ None
other_session = refl

piece_fits : piece_fault (temp_at one 1 1) 0 2 ≡ None
piece_fits = refl

-- "x" at 1 meets "ab"
meets : piece_fault (temp_at two 1 1) 1 1 ≡ Some status.Inval
meets = refl

-- "d" at 3 leaves a gap, and may
leaves_gap : piece_fault (temp_at two 1 1) 3 1 ≡ None
leaves_gap = refl

gap : whole_of (temp_at three 1 1) 4 ≡ None
gap = refl

gap_no_fault : size_fault (temp_at three 1 1) 4 ≡ None
gap_no_fault = refl

ended : without_temp three 1 1 ≡ []
ended = refl

ended_is_gone : size_fault (temp_at (without_temp three 1 1) 1 1) 4 ≡ Some status.BadFd
ended_is_gone = refl

never_made : size_fault (temp_at three 1 9) 0 ≡ Some status.BadFd
never_made = refl

-- "c" fills the gap, from any side
filled : whole_of (temp_at (with_more three (temp_at three 1 1) 2 (99 ∷ [])) 1 1) 4 ≡ Some (97 ∷ 98 ∷ 99 ∷ 100 ∷ [])
filled = refl

-- ---- the size that is asked for is that of the pieces

shorter : whole_of (temp_at two 1 1) 1 ≡ None
shorter = refl

exact : whole_of (temp_at two 1 1) 2 ≡ Some (97 ∷ 98 ∷ [])
exact = refl

longer : whole_of (temp_at two 1 1) 3 ≡ None
longer = refl

nothing : whole_of (temp_at one 1 1) 0 ≡ Some []
nothing = refl

-- no byte before the first piece
late : joined 0 2 ((1, 7 ∷ []) ∷ []) ≡ None
late = refl

limit : size_fault (temp_at one 1 1) 67108864 ≡ None
limit = refl

past_limit : size_fault (temp_at one 1 1) 67108865 ≡ Some status.FBig
past_limit = refl

past_limit_gone : size_fault (temp_at one 1 2) 67108865 ≡ Some status.BadFd
past_limit_gone = refl

-- ---- a piece's faults, one before the other

abbrev pieces : List Piece
pieces = (4, 1 ∷ 2 ∷ 3 ∷ []) ∷ []

-- pieces of "4, 5, 6" up to 4, from 7, and each way to meet it
before : range_fault pieces 0 4 ≡ None
before = refl

behind : range_fault pieces 7 9 ≡ None
behind = refl

into_front : range_fault pieces 0 5 ≡ Some status.Inval
into_front = refl

into_end : range_fault pieces 6 9 ≡ Some status.Inval
into_end = refl

inside : range_fault pieces 5 1 ≡ Some status.Inval
inside = refl

around : range_fault pieces 0 99 ≡ Some status.Inval
around = refl

empty : range_fault pieces 9 0 ≡ Some status.Inval
empty = refl

-- the limit, and one byte more
ends_at_limit : range_fault pieces 67108863 1 ≡ None
ends_at_limit = refl

ends_past_limit : range_fault pieces 67108864 1 ≡ Some status.FBig
ends_past_limit = refl

-- beyond all numbers comes before the limit, and the limit before another piece
ends_past_all : range_fault pieces 18446744073709551615 1 ≡ Some status.Inval
ends_past_all = refl

ends_at_all : range_fault pieces 18446744073709551614 1 ≡ Some status.FBig
ends_at_all = refl

meets_past_limit : range_fault pieces 5 67108864 ≡ Some status.FBig
meets_past_limit = refl

-- ---- many of them

-- a session's temporary files under these numbers
abbrev many : ℕ → List ℕ → Temps
many session [] = []
many session (fd ∷ fds) = let rest : Temps = many session fds in with_temp rest (empty_temp session fd 2)

abbrev numbers : List ℕ
numbers = 16 ∷ 15 ∷ 14 ∷ 13 ∷ 12 ∷ 11 ∷ 10 ∷ 9 ∷ 8 ∷ 7 ∷ 6 ∷ 5 ∷ 4 ∷ 3 ∷ 2 ∷ []

fifteen : room_fault (many 1 numbers) 1 17 ≡ None
fifteen = refl

sixteen : room_fault (many 1 (1 ∷ numbers)) 1 17 ≡ Some status.TooManyTemps
sixteen = refl

-- a number in use comes first, and another session has its own sixteen
in_use_first : room_fault (many 1 (1 ∷ numbers)) 1 16 ≡ Some status.FdInUse
in_use_first = refl

own_sixteen : room_fault (many 1 (1 ∷ numbers)) 2 1 ≡ None
own_sixteen = refl

-- a session that is dropped takes its own along, and no other's
dropped : without_session (with_temp one (empty_temp 2 1 5)) 1 ≡ with_temp [] (empty_temp 2 1 5)
dropped = refl

dropped_none : without_session one 2 ≡ one
dropped_none = refl
