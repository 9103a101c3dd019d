-- What the server's step is that takes a walk's last call, which removes or renames.
use Rattle.std.proofs.Common.{◌≡◌, ℕ, ◌+◌, List, [], ◌∷◌, ◌++◌, replicate, append-nil, Bool, true, refl, ap, ◌∙◌}
use Rattle.wire.specs.declared.message.Body.TheVariants as body
use Rattle.wire.specs.declared.message.Message.TheVariants as message
use Rattle.tree_reading.specs.Tree.{Tree}
use Rattle.tree_calls.specs.Waiting.{some, file_of}
use Rattle.tree_calls.specs.declared.asked.Asked.{Asked}
use Rattle.tree_calls.specs.declared.asked.Done.{Done}
use Rattle.tree_calls.specs.declared.asked.Outcome.{Outcome}
use Rattle.tree_calls.specs.declared.asked.Outcome.TheVariants.{Answered, Waits}
use Rattle.path_calls.specs.Walk.{next_call}
use Rattle.path_calls.specs.declared.walk.Walk.{Walk}
use Rattle.server_core.specs.State as server
use Rattle.server_core.specs.Closing.{count_of, entries_by}
use Rattle.server_core.specs.Recalling.{comes}
use Rattle.server_core.specs.Step.{asks_tree}
use Rattle.server_core.specs.declared.change.Wanted.TheVariants as wanted
use Rattle.server_core.specs.declared.event.ServerStep.{ServerStep}
use Rattle.server_core.specs.declared.journal.Entry.{Entry}
use Rattle.trace_ends.specs.Core.{newest_entries, server_got, changed_file}
use Rattle.trace_ends.specs.Ops.{pointed_at}
use Rattle.kept_promise.proofs.Common.{Op, FileChange, at, has_waiting, got_if, stands, Core, Session, CoreStep, with_numbered, quiet, change_of}
use Rattle.kept_promise.proofs.PathNames.{IsWalkSmall, is_going}
use Rattle.kept_promise.proofs.Departures.{comes_by, called_going}
use Rattle.kept_promise.proofs.ServesFiles.{making_got, count_is, newest_more, none_newest, pointed_none}
use Rattle.kept_promise.proofs.Turns.{unnoted}

-- what the server did, and what is noted of it
did : Core → (n : ℕ) → Session → (xid : ℕ) → server.State × ServerStep → CoreStep
did k n x xid r = record (quiet (record k {
  steps = k.steps + 1;
  server = r.0;
  sessions = with_numbered k.sessions n (record x { taken = x.taken ++ record { xid = xid; step = k.steps + 1 } ∷ [] });
  ops = pointed_at k.ops x.closing (k.steps + 1) (changed_file (newest_entries r.0.journal r.1.entries));
  entries = k.entries ++ replicate r.1.entries (k.steps + 1);
})) { down = r.1.send }

-- it comes to wait
abbrev pub coming : (n xid : ℕ) → Asked → FileChange
coming n xid a = change_of n xid (file_of a) (wanted.Asked a)

abbrev pub waits_got : Core → (n now : ℕ) → Session → (xid : ℕ) → Asked → CoreStep
waits_got k n now x xid a =
    let r : server.State × ServerStep = comes (at k.server now) (coming n xid a) in
    record (quiet (record k {
      steps = k.steps + 1;
      server = r.0;
      sessions = with_numbered k.sessions n (record x { taken = x.taken ++ record { xid = xid; step = k.steps + 1 } ∷ [] });
    })) { down = r.1.send }

-- by what the tree makes of it
abbrev going_did : Core → (n now : ℕ) → Session → (xid : ℕ) → Tree × Outcome → CoreStep
going_did k n now x xid p = did k n x xid (asks_tree (at k.server now) n xid (some p))

got_going : (k : Core) (n now : ℕ) (x : Session) (xid : ℕ) (w : Walk) → IsWalkSmall w → is_going w ≡ true → stands k.server n ≡ true → unnoted k (server_got k n now x (message.Call xid (body.Nfs (next_call w)))) ≡ going_did k n now x xid (comes_by k.server.tree (server.held k.server.waiting) (has_waiting k.server.waiting n) w.dir w.goal)
unfolding did
got_going k n now x xid w small going standing =
    ap (λ (b : Bool). did k n x xid (got_if k.server b n (message.Call xid (body.Nfs (next_call w))) now)) standing
    ∙ ap (did k n x xid) (called_going (at k.server now) n xid w small going)

pub got_answered : (k : Core) (n now : ℕ) (x : Session) (xid : ℕ) (w : Walk) (after : Tree) (d : Done) → IsWalkSmall w → is_going w ≡ true → stands k.server n ≡ true → comes_by k.server.tree (server.held k.server.waiting) (has_waiting k.server.waiting n) w.dir w.goal ≡ (after, Answered d) → unnoted k (server_got k n now x (message.Call xid (body.Nfs (next_call w)))) ≡ making_got k n now x xid (after, d)
unfolding did
got_answered k n now x xid w after d small going standing is =
    got_going k n now x xid w small going standing
    ∙ ap (going_did k n now x xid) is
    ∙ ap (λ (l : List Entry). record (making_got k n now x xid (after, d)) { core = record (making_got k n now x xid (after, d)).core { ops = pointed_at k.ops x.closing (k.steps + 1) (changed_file l) } }) (newest_more k.server.journal (entries_by n d.first d.second) (count_of d.first d.second) (count_is n d.first d.second))

pub got_waits : (k : Core) (n now : ℕ) (x : Session) (xid : ℕ) (w : Walk) (a : Asked) → IsWalkSmall w → is_going w ≡ true → stands k.server n ≡ true → comes_by k.server.tree (server.held k.server.waiting) (has_waiting k.server.waiting n) w.dir w.goal ≡ (k.server.tree, Waits a) → unnoted k (server_got k n now x (message.Call xid (body.Nfs (next_call w)))) ≡ waits_got k n now x xid a
unfolding did
got_waits k n now x xid w a small going standing is =
    got_going k n now x xid w small going standing
    ∙ ap (going_did k n now x xid) is
    ∙ ap (λ (l : List Op). record (waits_got k n now x xid a) { core = record (waits_got k n now x xid a).core { ops = l; entries = k.entries ++ [] } }) (ap (pointed_at k.ops x.closing (k.steps + 1)) (none_newest k.server.journal 0 refl) ∙ pointed_none k.ops x.closing (k.steps + 1))
    ∙ ap (λ (l : List ℕ). record (waits_got k n now x xid a) { core = record (waits_got k n now x xid a).core { entries = l } }) (append-nil k.entries)
