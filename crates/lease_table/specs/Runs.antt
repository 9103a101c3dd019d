-- Runs of the machine of one lease, and of machines that differ from it in one thing. Each run's
-- readings keep the clock rule (all are taken, which is the rule by `laws::readings_keep_the_rule` of
-- `clock_rule`), so what becomes wrong is wrong by that one thing alone.
use Rattle.std.specs.Prelude.{◌≡◌, ℕ, List, [], ◌∷◌, ◌++◌, Some, None, Bool, true, false, is_ok, refl}
use Rattle.clock_rule.specs.Keeping.{at_first, all_read}
use Rattle.lease_table.specs.Leases.{without_lease}
use Rattle.lease_table.specs.Machine.{Machine, Up, Up.Reply, Down, Down.Answered, Down.Recall, Event, Event.Open, Event.Fetch, Event.Store, Event.Read, Event.Take, Event.Arrive, Event.Change, Event.Settle, Event.Refuse, Event.Cut, Event.Hang, Event.Restart, unless, takes_one, reads_one, note_of, is_free, stores_if, happens, timed, start}
use Rattle.lease_table.specs.Claims.{readings_of}

-- the term is 1000 and the drift 100
abbrev keeps : List Event → Bool
keeps es = is_ok (all_read (at_first 1000 100) (readings_of 1 es))

abbrev run_by : (Machine → Event → Machine) → Machine → List Event → Machine
run_by event m [] = m
run_by event m (e ∷ es) = run_by event (event (timed m e) e) es

-- what was opened by the note, the last first: the version, and the one that the file had
abbrev opens : (Machine → Event → Machine) → List Event → List (ℕ × ℕ)
opens event es = (run_by event (start 1 1 2 1000 100) es).opens

-- ---- an open by the note

-- The call goes out at 0 of the client's clock, so the lease ends at 1000 of the server's or later, and
-- the note at 900. The server's clock runs ahead, by 90 in 899. Another's change waits at 989, and is
-- made at 1000. At 899 the client opens by its note, and at 900 it asks.
abbrev by_the_note : List Event
by_the_note = Open 0 ∷ Take 0 true ∷ Read 3 ∷ Change 9 989 ∷ Open 899 ∷ Open 900 ∷ Change 9 1000 ∷ []

by_the_note_keeps : keeps by_the_note ≡ true
by_the_note_keeps = refl

opened_by_the_note : opens happens by_the_note ≡ (1, 1) ∷ []
opened_by_the_note = refl

changed_after : (run_by happens (start 1 1 2 1000 100) by_the_note).version ≡ 2
changed_after = refl

-- ---- an answer to a RECALL that comes late

-- The RECALL is on its way down when the lease ends and a change is made. The client asks again, and has
-- a new lease, before it reads the RECALL; its answer comes then.
abbrev late_answer : List Event
late_answer = Open 0 ∷ Take 0 true ∷ Read 0 ∷ Arrive 9 0 ∷ Change 9 1000 ∷ Open 1000 ∷ Take 1000 true ∷ Read 1000 ∷ Read 1000 ∷ Take 1000 true ∷ Change 9 1000 ∷ Open 1000 ∷ []

late_answer_keeps : keeps late_answer ≡ true
late_answer_keeps = refl

late_answer_is_right : opens happens late_answer ≡ (2, 2) ∷ []
late_answer_is_right = refl

-- any answer to a RECALL takes the session's lease on the file
abbrev gives_up : Bool → Machine → List Up → Machine
gives_up grants m (Reply x ∷ us) = record m { ups = us; leases = without_lease m.leases m.session m.file }
gives_up grants m us = takes_one grants m us

abbrev any_answer : Machine → Event → Machine
any_answer m (Take at grants) = unless m.hung m (gives_up grants m m.ups)
any_answer m e = happens m e

-- so the file is changed under the new lease, and the open gives version 2 of a file that has version 3
any_answer_is_wrong : opens any_answer late_answer ≡ (2, 3) ∷ []
any_answer_is_wrong = refl

-- ---- a RECALL is answered, and the note stays

-- The lease is recalled and given up, and the file is changed long before the lease would have ended.
abbrev given_up : List Event
given_up = Open 0 ∷ Take 0 true ∷ Read 0 ∷ Arrive 9 0 ∷ Read 0 ∷ Take 0 true ∷ Change 9 0 ∷ Open 10 ∷ []

given_up_keeps : keeps given_up ≡ true
given_up_keeps = refl

given_up_is_right : opens happens given_up ≡ []
given_up_is_right = refl

given_up_is_changed : (run_by happens (start 1 1 2 1000 100) given_up).version ≡ 2
given_up_is_changed = refl

abbrev replies_alone : Machine → List Down → Machine
replies_alone m (Recall x ∷ ds) = record m { downs = ds; ups = m.ups ++ Reply x ∷ [] }
replies_alone m ds = reads_one m ds

abbrev forgets_recall : Machine → Event → Machine
forgets_recall m (Read seen) = unless m.cut m (replies_alone m m.downs)
forgets_recall m e = happens m e

forgets_recall_is_wrong : opens forgets_recall given_up ≡ (1, 2) ∷ []
forgets_recall_is_wrong = refl

-- ---- an answer to a call that comes late

abbrev slow_answer : List Event
slow_answer = Open 0 ∷ Take 0 true ∷ Change 9 400 ∷ Read 500 ∷ Change 9 1000 ∷ Open 1300 ∷ []

slow_answer_keeps : keeps slow_answer ≡ true
slow_answer_keeps = refl

slow_answer_is_right : opens happens slow_answer ≡ []
slow_answer_is_right = refl

-- the note is counted from the reading at which the answer is read
abbrev counts_from : (seen : ℕ) → Machine → List Down → Machine
counts_from seen m (Answered version term ∷ ds) = record m { downs = ds; sent = None; note = note_of m.clocks.drift (Some seen) version term m.note }
counts_from seen m ds = reads_one m ds

abbrev from_arrival : Machine → Event → Machine
from_arrival m (Read seen) = unless m.cut m (counts_from seen m m.downs)
from_arrival m e = happens m e

from_arrival_is_wrong : opens from_arrival slow_answer ≡ (1, 2) ∷ []
from_arrival_is_wrong = refl

-- ---- clocks that drift

-- the server's clock runs ahead, by 50 in 950
abbrev ahead : List Event
ahead = Open 0 ∷ Take 0 true ∷ Read 3 ∷ Change 9 1000 ∷ Open 950 ∷ []

ahead_keeps : keeps ahead ≡ true
ahead_keeps = refl

ahead_is_right : opens happens ahead ≡ []
ahead_is_right = refl

-- the note lasts for the whole term
abbrev forgets_drift : Machine → List Down → Machine
forgets_drift m (Answered version term ∷ ds) = record m { downs = ds; sent = None; note = note_of 0 m.sent version term m.note }
forgets_drift m ds = reads_one m ds

abbrev no_drift : Machine → Event → Machine
no_drift m (Read seen) = unless m.cut m (forgets_drift m m.downs)
no_drift m e = happens m e

no_drift_is_wrong : opens no_drift ahead ≡ (1, 2) ∷ []
no_drift_is_wrong = refl

-- ---- a session that is hung

abbrev lost_connection : List Event
lost_connection = Open 0 ∷ Take 0 true ∷ Read 0 ∷ Hang 10 ∷ Change 9 10 ∷ Open 10 ∷ []

lost_connection_keeps : keeps lost_connection ≡ true
lost_connection_keeps = refl

lost_connection_is_right : opens happens lost_connection ≡ (1, 1) ∷ []
lost_connection_is_right = refl

-- its leases go at once
abbrev hang_drops : Machine → Event → Machine
hang_drops m (Hang at) = record m { hung = true; ups = []; waits = false; leases = without_lease m.leases m.session m.file }
hang_drops m e = happens m e

hang_drops_is_wrong : opens hang_drops lost_connection ≡ (1, 2) ∷ []
hang_drops_is_wrong = refl

-- they stand to their end, and a change is made then
abbrev waited_for : (at : ℕ) → List Event
waited_for at = Open 0 ∷ Take 0 true ∷ Read 0 ∷ Hang 10 ∷ Change 9 at ∷ []

stands_to_its_end : (run_by happens (start 1 1 2 1000 100) (waited_for 999)).version ≡ 1
stands_to_its_end = refl

changed_at_its_end : (run_by happens (start 1 1 2 1000 100) (waited_for 1000)).version ≡ 2
changed_at_its_end = refl

-- ---- one's own COMMITTMP

abbrev own_change : List Event
own_change = Open 0 ∷ Take 0 true ∷ Read 0 ∷ Store 0 ∷ Take 0 true ∷ Settle 0 true ∷ Open 0 ∷ Read 0 ∷ Open 0 ∷ []

own_change_keeps : keeps own_change ≡ true
own_change_keeps = refl

-- its answer tells the new version, which is noted
own_change_is_right : opens happens own_change ≡ (2, 2) ∷ []
own_change_is_right = refl

-- the note stays when it is sent
abbrev keeps_note : Machine → Event → Machine
keeps_note m (Store seen) = record (stores_if (is_free m) m seen) { note = m.note }
keeps_note m e = happens m e

keeps_note_is_wrong : opens keeps_note own_change ≡ (2, 2) ∷ (1, 2) ∷ []
keeps_note_is_wrong = refl

-- ---- a server that begins again

abbrev begins_again : List Event
begins_again = Open 0 ∷ Take 0 true ∷ Read 0 ∷ Restart 10 0 ∷ Change 9 10 ∷ Open 10 ∷ []

begins_again_keeps : keeps begins_again ≡ true
begins_again_keeps = refl

begins_again_is_right : opens happens begins_again ≡ (1, 1) ∷ []
begins_again_is_right = refl

-- it makes changes at once
abbrev no_grace : Machine → Event → Machine
no_grace m (Restart at grace) = record (happens m (Restart at grace)) { quiet = m.quiet }
no_grace m e = happens m e

no_grace_is_wrong : opens no_grace begins_again ≡ (1, 2) ∷ []
no_grace_is_wrong = refl

-- ---- a call while the note lasts

abbrev further_call : List Event
further_call = Open 0 ∷ Take 0 true ∷ Read 0 ∷ Fetch 0 ∷ Take 0 false ∷ Read 0 ∷ Open 10 ∷ Fetch 10 ∷ Cut 20 ∷ Open 30 ∷ []

further_call_keeps : keeps further_call ≡ true
further_call_keeps = refl

further_call_is_right : opens happens further_call ≡ (1, 1) ∷ (1, 1) ∷ []
further_call_is_right = refl

-- ---- a COMMITTMP that is refused

abbrev refused_change : List Event
refused_change = Open 0 ∷ Take 0 true ∷ Read 0 ∷ Store 0 ∷ Take 0 true ∷ Refuse 0 ∷ Read 0 ∷ Open 0 ∷ Take 0 true ∷ Read 0 ∷ Open 0 ∷ []

refused_change_keeps : keeps refused_change ≡ true
refused_change_keeps = refl

refused_change_is_right : opens happens refused_change ≡ (1, 1) ∷ []
refused_change_is_right = refl
