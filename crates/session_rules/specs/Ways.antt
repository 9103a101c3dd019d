-- On which wire goes what is sent on a session.
use Rattle.std.specs.Prelude.{ℕ, zero, suc, Option, Some, None, Bool, true, false, nat_lt, if◌then◌else◌}
use Rattle.session_rules.specs.Session.{Session}

-- the place of a session's own wire, among so many, unless the end that it goes to saw the connection lost
abbrev pub own_way : (lost : Bool) → (wires number : ℕ) → Option ℕ
own_way true wires number = None
own_way false wires zero = None
own_way false wires (suc k) = if nat_lt k wires then Some k else None

-- of what a client sends
abbrev pub way_up : Option Session → (wires number : ℕ) → Option ℕ
way_up None wires number = None
way_up (Some x) wires number = own_way x.hung wires number

-- of what the server sends
abbrev pub way_down : Option Session → (wires number : ℕ) → Option ℕ
way_down None wires number = None
way_down (Some x) wires number = own_way x.cut wires number
