-- Worked lines, over a client that isn't short of memory.
use Rattle.std.proofs.Common.{◌≡◌, ℕ, List, [], ◌∷◌, ◌++◌, true, false, refl, sym, ◌∙◌, arith, codes}
use Rattle.std.specs.Prelude.{Some, None, Ok, Err}
use Rattle.command_text.specs.declared.command.Command.{Command}
use Rattle.command_text.specs.declared.command.Command.TheVariants as command
use Rattle.command_text.specs.declared.content.Part.{Part}
use Rattle.command_text.specs.declared.content.Part.TheVariants as part
use Rattle.links.specs.declared.files.FilesError.TheVariants as errors
use Rattle.wire.specs.declared.message.Message.{Message}
use Rattle.xdr_codec.specs.declared.status.Status.TheVariants as status
use Rattle.client_state.specs.State.{State, start_with, local_bytes}
use Rattle.client_state.specs.declared.step.Outcome.TheVariants as outcome
use Rattle.file_close.specs.Closing.{make_call}
use Rattle.open_close.specs.Step.{command_step}
use Rattle.lbfs_client.specs.declared.answer.Answer.TheVariants as answer
use Rattle.lbfs_client.specs.declared.line.MountLine.TheVariants as line
use Rattle.lbfs_client.specs.declared.line.Place.TheVariants as place
use Rattle.lbfs_client.specs.Client.{Takes, Goes}
use Rattle.lbfs_client.specs.Host.{Host}
use Rattle.lbfs_client.specs.Mounting.{Mount, Runs, PutsRead, Continues, joined_step}
use Rattle.lbfs_client.specs.Walks.{says, answer_of, Stores.at_close, Renewed, noted, Closed, Fetched}
use Rattle.lbfs_client.specs.declared.walk.Walk.TheVariants as walk

abbrev start : State
start = start_with 100 1

apart : false ≡ true → ⊥
apart e = cc

exactly : (s : State) (k : Command) (now : ℕ) → (command_step s k now).1.missed ≡ false → Takes s k now (command_step s k now).0 (command_step s k now).1
exactly s k now sure = record { exact = λ e. refl; missed = λ e. absurd (apart (sym sure ∙ e)) }

went : (s : State) (k : Command) (now : ℕ) (before : List Message) → (command_step s k now).1.missed ≡ false → Goes s k now before (command_step s k now).0 (command_step s k now).1.ended (before ++ (command_step s k now).1.send)
went s k now before sure = record { step = (command_step s k now).1; takes = exactly s k now sure; ended_is = refl; sent = refl }

-- ---- with no connection

abbrev quiet : Host
quiet = record { files = None; faults = 0 }

abbrev idle : Mount
idle = record { host = quiet; client = start; walk = None }

-- a command says its own outcome
open_row : Runs idle (line.Plain (command.Open 2)) 0 idle (says [] (Some (answer_of outcome.NoLink)))
open_row = (refl, refl, record { step = (command_step start (command.Open 2) 0).1; takes = exactly start (command.Open 2) 0 refl; is_said = refl })

-- a put waits with what it read, and then says the outcome of its rewrite; one whose file of the host isn't there opens nothing
abbrev waiting : Mount
waiting = record idle { walk = Some (walk.Reads (place.File 2) (codes "abc")) }

put_row : PutsRead (place.File 2) (Ok (codes "abc")) waiting.walk (says [] None)
put_row = (refl, refl)

continued_row : Continues waiting 0 idle (says [] (Some (answer_of outcome.NoLink)))
continued_row = record {
  client = start;
  ended = (command_step start (command.Rewrite 2) 0).1.ended;
  sent = [];
  goes = went start (command.Rewrite 2) 0 [] refl;
  leads = (refl, (refl, (refl, refl)));
}

fault_row : PutsRead (place.File 2) (Err errors.Failed) None (says [] (Some answer.LocalFault))
fault_row = (refl, refl)

large_row : PutsRead (place.File 2) (Err (errors.TooBig 67108865)) None (says [] (Some (answer_of (outcome.TooBig 67108865))))
large_row = (refl, refl)

-- with no put that waits nothing goes on
none_row : Continues idle 0 idle (says [] None)
none_row = (refl, refl)

-- a join waits for a connection, and is done with it
join_row : Runs idle line.Join 0 (record idle { walk = Some walk.Joins }) (says [] None)
join_row = (refl, refl, (refl, refl))

joined_row : joined_step (record idle { walk = Some walk.Joins }) ≡ (record idle { client = record start { linked = true } }, says [] (Some (answer_of outcome.Done)))
joined_row = refl

-- ---- with a connection, and an open file

abbrev open_file : State
open_file = record start { linked = true; next_xid = 5; opened = (2, record { version = 1; bytes = codes "xyzw" }) ∷ [] }

abbrev content : List Part
content = part.Bytes (codes "abc") ∷ []

-- it is open with nothing in it
abbrev emptied : State
emptied = record start { linked = true; next_xid = 5; opened = (2, record { version = 1; bytes = [] }) ∷ [] }

abbrev written : State
written = (command_step emptied (command.Write 2 0 content) 0).0

abbrev closing : State
closing = (command_step written (command.Close 2) 0).0

-- the file that a put wrote anew gets its content and nothing else, and its close is under way
stored_row : Renewed emptied (Some 2) content outcome.Done 0 [] closing (Some (walk.Closes 2)) (says (make_call 1 5 1 2 ∷ []) None)
stored_row = record {
  client = closing;
  ended = None;
  sent = make_call 1 5 1 2 ∷ [];
  stores = at_close written (command_step emptied (command.Write 2 0 content) 0).1.ended [] (went emptied (command.Write 2 0 content) 0 [] refl) refl (went written (command.Close 2) 0 [] refl);
  goes_on = (refl, refl, refl);
}

content_row : local_bytes closing.opened 2 ≡ codes "abc"
content_row = refl

-- a put of a name notes the file that its path led to, and keeps it
noted_row : noted (noted (Some (walk.Renews None (codes "abc"))) (Some 2)) None ≡ Some (walk.Renews (Some 2) (codes "abc"))
noted_row = refl

-- one whose rewrite was refused says so, and stores nothing
unstored_row : Renewed open_file (Some 2) content outcome.AlreadyOpen 0 [] open_file None (says [] (Some (answer_of outcome.AlreadyOpen)))
unstored_row = (refl, (refl, refl))

-- a close that stored the file is the put's line
closed_row : Closed closing 2 (outcome.Closed 2 2 3 []) 0 [] closing (says [] (Some (answer_of (outcome.Closed 2 2 3 []))))
closed_row = (refl, refl)

-- one that was refused is, too, and the file is abandoned
refused_row : Closed open_file 2 (outcome.Refused status.Stale) 0 [] (record open_file { opened = [] }) (says [] (Some (answer_of (outcome.Refused status.Stale))))
refused_row = record { ended = (command_step open_file (command.Abandon 2) 0).1.ended; sent = []; goes = went open_file (command.Abandon 2) 0 [] refl; is_said = refl }

-- a get says its open, and abandons what it opened
fetched_row : Fetched quiet open_file (codes "k") (outcome.Opened 2 4 []) 0 [] quiet (record open_file { opened = [] }) (says [] (Some (answer_of (outcome.Opened 2 4 []))))
fetched_row = record {
  wrote = Ok tt;
  writes = record { ok = refl; err = tt; later = omega arith; cause = λ e. cc };
  leaves = record { ended = (command_step open_file (command.Abandon 2) 0).1.ended; sent = []; goes = went open_file (command.Abandon 2) 0 [] refl; is_said = refl };
}
