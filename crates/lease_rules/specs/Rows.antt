-- Terms, notes and xids at worked numbers.
use Rattle.std.specs.Prelude.{◌≡◌, Option, Some, None, true, false, refl}
use Rattle.lease_rules.specs.Leases.{term_for, note_until}
use Rattle.lease_rules.specs.Xids.{draw}

-- nothing waits
granted : term_for false 60000 ≡ 60000
granted = refl

while_a_change_waits : term_for true 60000 ≡ 0
while_a_change_waits = refl

-- ---- a client's note

-- from the reading at which the call was sent on, for the term less the drift
from_sending : note_until 1000 60000 100 ≡ Some 60900
from_sending = refl

without_drift : note_until 1000 60000 0 ≡ Some 61000
without_drift = refl

-- the least term that gives one
just_above : note_until 1000 101 100 ≡ Some 1001
just_above = refl

-- a term that is no longer than the drift gives none
as_long_as_the_drift : note_until 1000 100 100 ≡ None
as_long_as_the_drift = refl

below_the_drift : note_until 1000 1 3600000 ≡ None
below_the_drift = refl

-- nor does no term
no_term : note_until 1000 0 0 ≡ None
no_term = refl

-- ---- xids

first : draw 0 ≡ Some 1
first = refl

next : draw 7 ≡ Some 8
next = refl

last : draw 4294967294 ≡ Some 4294967295
last = refl

-- none is used again
all_drawn : draw 4294967295 ≡ None
all_drawn = refl
