-- A RECALL is answered in the turn in which it is heard, whatever is under way, and the file's note goes.
use Rattle.std.proofs.Common.{◌≡◌, ◌∙◌, ℕ, List, [], ◌∷◌, Bool, true, false, refl, sym, ap, subst}
use Rattle.std.specs.Prelude.{Option, Some, None, Result, Ok, nat_lt}
use Rattle.xdr_codec.specs.Handle.{file_of}
use Rattle.xdr_codec.specs.declared.handle.Handle.{Handle}
use Rattle.hash_calls.specs.declared.message.Back.TheVariants as back
use Rattle.wire.specs.Parse.{parse_of}
use Rattle.wire.specs.declared.fault.WireFault.{WireFault}
use Rattle.wire.specs.declared.message.Body.TheVariants as body
use Rattle.wire.specs.declared.message.Body.{Body}
use Rattle.wire.specs.declared.message.Message.TheVariants as message
use Rattle.wire.specs.declared.message.Message.{Message}
use Rattle.client_state.specs.Noting.{at}
use Rattle.client_state.specs.State.{State, waiting_of}
use Rattle.client_state.specs.declared.step.ClientStep.{ClientStep}
use Rattle.open_close.specs.Step.{called_back, recalls, got_step}
use Rattle.open_close.proofs.lemmas.Calls.{never_missed}
use Rattle.lbfs_client.specs.Client.{Hears}
use Rattle.lbfs_client.specs.Mounting.{Mount, Hearing, Leads, Receives}
use Rattle.lbfs_client.specs.Paging.{bounded, emptied_if, listed_most}
use Rattle.lbfs_client.specs.Walks.{says, file_with, noting, noted}
use Rattle.lbfs_client.specs.declared.said.Said.{Said}
use Rattle.lbfs_client.specs.declared.walk.Walk.{Walk}
use Rattle.lbfs_client.specs.declared.walk.Walk.TheVariants as walk

abbrev recall_of : (xid : ℕ) → Handle → Message
recall_of xid h = message.Call xid (body.Back (back.Recall h))

-- the step is the definition's
steps : (s : State) (xid : ℕ) (b : Body) (now : ℕ) (new : State) (step : ClientStep) (missed : Bool) → step.missed ≡ missed → Hears s (Ok (message.Call xid b)) now new step → got_step s (Ok (message.Call xid b)) now ≡ (new, step)
steps s xid b now new step false is h = h.exact is
steps s xid b now new step true is h = absurd (never_missed s xid b now new step (h.missed is))

-- a step that finds no file notes none
same_file : (file : Option ℕ) → file_with file None ≡ file
same_file None = refl
same_file (Some f) = refl

same_walk : (w : Walk) → noting w None ≡ w
same_walk walk.Joins = refl
same_walk (walk.Reads place bytes) = refl
same_walk (walk.Renews file bytes) = ap (λ (f : Option ℕ). walk.Renews f bytes) (same_file file)
same_walk (walk.Closes file) = refl
same_walk (walk.Gets name) = refl

nothing_noted : (w : Option Walk) → noted w None ≡ w
nothing_noted None = refl
nothing_noted (Some w) = ap (λ (v : Walk). Some v) (same_walk w)

-- what a RECALL leaves of a mount
abbrev pub recalled : Mount → Handle → (now : ℕ) → Mount
recalled m h now = record m { client = recalls (at m.client now) (file_of h) }

-- Of the mount the file's note goes and the clock is set, and nothing else changes; one answer is said, and no line ends.
pub a_recall_is_answered : (m : Mount) (xid : ℕ) (h : Handle) (now : ℕ) (m' : Mount) (said : Said) → Hearing m (Ok (recall_of xid h)) now m' said → (m' ≡ recalled m h now) × (said ≡ says (message.Answer xid (body.Back back.RecallAnswer) ∷ []) None)
a_recall_is_answered m xid h now m' said p =
    let is : called_back (at m.client now) xid (back.Recall h) ≡ (p.client, p.step) = steps m.client xid (body.Back (back.Recall h)) now p.client p.step p.step.missed refl p.hears in
    let leads : Leads (record m { client = recalls (at m.client now) (file_of h); walk = noted m.walk None }) None now (message.Answer xid (body.Back back.RecallAnswer) ∷ []) m' said =
    subst (λ (r : State × ClientStep). Leads (record m { client = r.0; walk = noted m.walk r.1.found }) r.1.ended now r.1.send m' said) (sym is) p.leads in
    (leads.0 ∙ ap (λ (w : Option Walk). record m { client = recalls (at m.client now) (file_of h); walk = w }) (nothing_noted m.walk), leads.1)

same_recall : (past : Bool) (xid : ℕ) (h : Handle) → emptied_if past (Ok (recall_of xid h)) ≡ Ok (recall_of xid h)
same_recall true xid h = refl
same_recall false xid h = refl

-- so with the record of one, however many bytes the answers to the line have
pub a_recalls_record_is_answered : (m : Mount) (xid : ℕ) (h : Handle) (listed : ℕ) (bytes : List ℕ) (now : ℕ) (m' : Mount) (said : Said) → parse_of (waiting_of m.client) bytes ≡ Ok (recall_of xid h) → Receives m listed bytes now m' said
    → (m' ≡ recalled m h now) × (said ≡ says (message.Answer xid (body.Back back.RecallAnswer) ∷ []) None)
a_recalls_record_is_answered m xid h listed bytes now m' said is p = a_recall_is_answered m xid h now m' said (subst (λ (r : Result Message WireFault). Hearing m r now m' said) (ap (λ (r : Result Message WireFault). bounded listed r) is ∙ same_recall (nat_lt listed_most listed) xid h) p)
