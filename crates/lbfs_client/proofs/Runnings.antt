-- What a line comes to, as the code comes to it: over the parts of a mount.
use Rattle.std.proofs.Common.{◌≡◌, ℕ, List, [], ◌++◌, true, false, refl, sym, subst, Bool, ap, ◌∙◌}
use Rattle.std.specs.Prelude.{Option, Some, None, Result, Ok, Err, IfOk, is_some}
use Rattle.command_text.specs.declared.command.Command.{Command}
use Rattle.links.specs.declared.files.FilesError.{FilesError}
use Rattle.wire.specs.declared.message.Message.{Message}
use Rattle.client_state.specs.State.{State}
use Rattle.client_state.specs.declared.step.Ended.{Ended}
use Rattle.client_state.specs.declared.step.Outcome.TheVariants as outcome
use Rattle.lbfs_client.specs.Lines.{opening, renewing, file_of}
use Rattle.lbfs_client.specs.declared.line.Place.{Place}
use Rattle.lbfs_client.specs.Client.{Goes}
use Rattle.lbfs_client.specs.Host.{Host, HasRead}
use Rattle.lbfs_client.specs.Mounting.{Mount, Leads, Commands, Begins, PutsRead, PutLine, GoesOn, GetLine, Wants, JoinLine}
use Rattle.lbfs_client.specs.Walks.{says, answer_of, answer_to}
use Rattle.lbfs_client.specs.declared.said.Said.{Said}
use Rattle.lbfs_client.specs.declared.walk.Walk.{Walk}
use Rattle.lbfs_client.specs.declared.walk.Walk.TheVariants as walk
use Rattle.lbfs_client.proofs.Leadings.{mount_of}

-- a command is all of its line
pub commands_is : {E : Type 0} (r : Result Said E) (c : State) (command : Command) (now : ℕ) (before : List Message) (c' : State) (ended : Option Ended) (sent : List Message) → before ≡ [] → Goes c command now before c' ended sent → IfOk r (λ said. said ≡ says sent (answer_to ended)) → IfOk r (λ said. Commands c command now c' said)
commands_is (Ok said) c command now before c' ended sent none goes e = record {
  step = goes.step;
  takes = goes.takes;
  is_said = e ∙ (ap (λ (xs : List Message). says xs (answer_to ended)) (goes.sent ∙ ap (λ (xs : List Message). xs ++ goes.step.send) none) ∙ ap (λ (o : Option Ended). says goes.step.send (answer_to o)) goes.ended_is);
}
commands_is (Err e) c command now before c' ended sent none goes p = tt

-- the first operation of a line
pub begins_is : {E : Type 0} (r : Result Said E) (h : Host) (c : State) (w : Option Walk) (next : Walk) (k : Command) (now : ℕ) (c1 : State) (ended : Option Ended) (before sent : List Message) (m' : Mount) → before ≡ [] → Goes c k now before c1 ended sent → IfOk r (λ said. Leads (mount_of h c1 (Some next)) ended now sent m' said) → IfOk r (λ said. Begins (mount_of h c w) next k now m' said)
begins_is (Ok said) h c w next k now c1 ended before sent m' none goes p = record { client = c1; ended = ended; sent = sent; goes = subst (λ (xs : List Message). Goes c k now xs c1 ended sent) none goes; leads = p }
begins_is (Err e) h c w next k now c1 ended before sent m' none goes p = tt

-- ---- put

pub none_of : (w : Option Walk) → is_some w ≡ false → w ≡ None
none_of None is = refl
none_of (Some w) is = cc

pub put_busy : (h : Host) (w : Option Walk) (name : List ℕ) (place : Place) (said : Said) → is_some w ≡ true → said ≡ says [] (Some (answer_of outcome.Busy)) → PutLine h w name place h w said
put_busy h None name place said is e = cc
put_busy h (Some w) name place said is e = (refl, refl, e)

pub put_free : (h : Host) (w : Option Walk) (name : List ℕ) (place : Place) (h1 : Host) (read : Result (List ℕ) FilesError) (w' : Option Walk) (said : Said) → is_some w ≡ false → HasRead h name read h1 → PutsRead place read w' said → PutLine h w name place h1 w' said
put_free h None name place h1 read w' said is reads p = record { read = read; reads = reads; goes_on = p }
put_free h (Some w) name place h1 read w' said is reads p = cc

-- a put that waits goes on
other_walk : (h : Host) (c : State) (w v : Option Walk) (next : Walk) (k : Command) (now : ℕ) (m' : Mount) (said : Said) → Begins (mount_of h c w) next k now m' said → Begins (mount_of h c v) next k now m' said
other_walk h c w v next k now m' said p = record { client = p.client; ended = p.ended; sent = p.sent; goes = p.goes; leads = p.leads }

pub goes_on_is : (h : Host) (c : State) (w : Option Walk) (held : Walk) (place : Place) (bytes : List ℕ) (file : Option ℕ) (kept : List ℕ) (k : Command) (now : ℕ) (m' : Mount) (said : Said) → held ≡ walk.Reads place bytes → file ≡ file_of place → kept ≡ bytes → k ≡ renewing place
    → Begins (mount_of h c w) (walk.Renews file kept) k now m' said → GoesOn (mount_of h c (Some held)) (Some held) now m' said
goes_on_is h c w held place bytes file kept k now m' said is its same by p = subst (λ (x : Walk). GoesOn (mount_of h c (Some x)) (Some x) now m' said) (sym is)
    (other_walk h c w (Some (walk.Reads place bytes)) (walk.Renews (file_of place) bytes) (renewing place) now m' said
    (subst (λ (x : Command). Begins (mount_of h c w) (walk.Renews (file_of place) bytes) x now m' said) by
    (subst (λ (xs : List ℕ). Begins (mount_of h c w) (walk.Renews (file_of place) xs) k now m' said) same
    (subst (λ (f : Option ℕ). Begins (mount_of h c w) (walk.Renews f kept) k now m' said) its p))))

-- ---- get

pub get_busy : (h : Host) (c : State) (w : Option Walk) (place : Place) (name : List ℕ) (now : ℕ) (said : Said) → is_some w ≡ true → said ≡ says [] (Some (answer_of outcome.Busy)) → GetLine (mount_of h c w) w place name now (mount_of h c w) said
get_busy h c None place name now said is e = cc
get_busy h c (Some w) place name now said is e = (refl, e)

pub get_free : (h : Host) (c : State) (w : Option Walk) (place : Place) (name : List ℕ) (now : ℕ) (m' : Mount) (said : Said) (k : Command) → k ≡ opening place → is_some w ≡ false → Begins (mount_of h c w) (walk.Gets name) k now m' said → GetLine (mount_of h c w) w place name now m' said
get_free h c None place name now m' said k same is p = subst (λ (x : Command). Begins (mount_of h c None) (walk.Gets name) x now m' said) same p
get_free h c (Some w) place name now m' said k same is p = cc

-- ---- join

pub join_busy : (linked : Bool) (w : Option Walk) (said : Said) → is_some w ≡ true → said ≡ says [] (Some (answer_of outcome.Busy)) → JoinLine linked w w said
join_busy linked None said is e = cc
join_busy linked (Some w) said is e = (refl, e)

pub join_done : (linked : Bool) (w : Option Walk) (said : Said) → is_some w ≡ false → linked ≡ true → said ≡ says [] (Some (answer_of outcome.Done)) → JoinLine linked w w said
join_done linked None said is on e = subst (λ (b : Bool). Wants b None said) (sym on) (refl, e)
join_done linked (Some w) said is on e = cc

pub join_wants : (linked : Bool) (w : Option Walk) (said : Said) → is_some w ≡ false → linked ≡ false → said ≡ says [] None → JoinLine linked w (Some walk.Joins) said
join_wants linked None said is off e = subst (λ (b : Bool). Wants b (Some walk.Joins) said) (sym off) (refl, e)
join_wants linked (Some w) said is off e = cc
