-- What a step of the client leads to, as the code comes to it: over the parts of a mount.
use Rattle.std.proofs.Common.{◌≡◌, ℕ, List, [], ◌++◌, subst, ap, ◌∙◌}
use Rattle.std.specs.Prelude.{Option, Result, Ok, Err, IfOk, OnOk}
use Rattle.command_text.specs.declared.command.Command.{Command}
use Rattle.wire.specs.Parse.{parse_of}
use Rattle.wire.specs.declared.fault.WireFault.{WireFault}
use Rattle.wire.specs.declared.message.Message.{Message}
use Rattle.client_state.specs.State.{State, waiting_of}
use Rattle.client_state.specs.declared.step.ClientStep.{ClientStep}
use Rattle.client_state.specs.declared.step.Ended.{Ended}
use Rattle.lbfs_client.specs.Client.{Hears, Takes, Goes}
use Rattle.lbfs_client.specs.Host.{Host}
use Rattle.lbfs_client.specs.Walks.{noted}
use Rattle.lbfs_client.specs.Paging.{bounded}
use Rattle.lbfs_client.specs.Mounting.{Mount, Leads, Hearing, Receives}
use Rattle.lbfs_client.specs.declared.said.Said.{Said}
use Rattle.lbfs_client.specs.declared.walk.Walk.{Walk}

abbrev pub mount_of : Host → State → Option Walk → Mount
mount_of h c w = record { host = h; client = c; walk = w }

-- ---- a step of the client

pub goes_is : {E : Type 0} (r : Result (Option Ended) E) (c : State) (k : Command) (now : ℕ) (send : List Message) (c' : State) (send' : List Message) (step : ClientStep) → Takes c k now c' step → IfOk r (λ ended. ended ≡ step.ended) → OnOk r (send' ≡ send ++ step.send) → IfOk r (λ ended. Goes c k now send c' ended send')
goes_is (Ok ended) c k now send c' send' step takes is sent = record { step = step; takes = takes; ended_is = is; sent = sent }
goes_is (Err e) c k now send c' send' step takes is sent = tt

-- ---- it is followed

follows_is : {E : Type 0} (r : Result Said E) (h : Host) (c : State) (w : Option Walk) (step : ClientStep) (now : ℕ) (before send more : List Message) (ended : Option Ended) (m' : Mount) → before ≡ [] → send ≡ before ++ more → more ≡ step.send → ended ≡ step.ended → IfOk r (λ said. Leads (mount_of h c w) ended now send m' said) → IfOk r (λ said. Leads (mount_of h c w) step.ended now step.send m' said)
follows_is r h c w step now before send more ended m' none is same ends p =
    subst (λ (o : Option Ended). IfOk r (λ said. Leads (mount_of h c w) o now step.send m' said)) ends
    (subst (λ (xs : List Message). IfOk r (λ said. Leads (mount_of h c w) ended now xs m' said)) (is ∙ (ap (λ (xs : List Message). xs ++ more) none ∙ same)) p)

-- and the walk notes what it found
pub follows_noted : {E : Type 0} (r : Result Said E) (h : Host) (c : State) (w w1 : Option Walk) (step : ClientStep) (now : ℕ) (before send more : List Message) (ended : Option Ended) (m' : Mount) → w1 ≡ noted w step.found → before ≡ [] → send ≡ before ++ more → more ≡ step.send → ended ≡ step.ended → IfOk r (λ said. Leads (mount_of h c w1) ended now send m' said)
    → IfOk r (λ said. Leads (mount_of h c (noted w step.found)) step.ended now step.send m' said)
follows_noted r h c w w1 step now before send more ended m' notes none is same ends p = follows_is r h c (noted w step.found) step now before send more ended m' none is same ends (subst (λ (x : Option Walk). IfOk r (λ said. Leads (mount_of h c x) ended now send m' said)) notes p)

-- ---- what comes

pub hearing_is : (h : Host) (c : State) (w : Option Walk) (message : Result Message WireFault) (now : ℕ) (c1 : State) (step : ClientStep) (m' : Mount) (said : Said) → Hears c message now c1 step → Leads (mount_of h c1 (noted w step.found)) step.ended now step.send m' said → Hearing (mount_of h c w) message now m' said
hearing_is h c w message now c1 step m' said hears leads = record { client = c1; step = step; hears = hears; leads = leads }

pub receives_is : (m : Mount) (listed : ℕ) (bytes : List ℕ) (message : Result Message WireFault) (now : ℕ) (m' : Mount) (said : Said) → message ≡ bounded listed (parse_of (waiting_of m.client) bytes) → Hearing m message now m' said → Receives m listed bytes now m' said
receives_is m listed bytes message now m' said is p = subst (λ (x : Result Message WireFault). Hearing m x now m' said) is p
