-- A file that is written anew: it is open with nothing in it, and what the server has of it isn't fetched.
use Rattle.std.specs.Prelude.{ℕ, ◌+◌, List, [], Option, Some, None, Bool, true, false}
use Rattle.xdr_codec.specs.declared.answer.Answer.TheVariants.{Done, Failed}
use Rattle.xdr_codec.specs.declared.answer.Answer.{Answer}
use Rattle.hash_calls.specs.declared.call.Leased.{Leased}
use Rattle.wire.specs.declared.message.Pending.{Pending}
use Rattle.client_cache.specs.Cache.{reserved}
use Rattle.client_state.specs.Counting.{sends_one, ends}
use Rattle.client_state.specs.Ending.{is_open, may_ask, forgets, refused}
use Rattle.client_state.specs.State.{State, with_local}
use Rattle.client_state.specs.declared.step.ClientStep.{ClientStep}
use Rattle.client_state.specs.declared.step.Outcome.TheVariants as outcome
use Rattle.client_state.specs.declared.task.Stage.TheVariants as stage
use Rattle.client_state.specs.declared.task.Task.{Task}
use Rattle.client_cache.specs.declared.kept.Content.{Content}
use Rattle.file_open.specs.Caching.{fresh_content}
use Rattle.file_open.specs.Opening.{lease_call}

-- the file's version is asked for, and nothing else
abbrev pub asks_version : State → (file : ℕ) → State × ClientStep
asks_version s file = (record s { next_xid = s.next_xid + 1; task = Some (record { file = file; stage = stage.Rewriting s.next_xid }); sent = s.clock }, sends_one (lease_call s.lbfs s.next_xid file) 0)

-- the file's entry comes first in the cache, and what is kept there stays
abbrev pub asks_anew : State → (file : ℕ) → (may_ask : Bool) → State × ClientStep
asks_anew s file true = asks_version (record s { cache = reserved s.cache file }) file
asks_anew s file false = (s, ends outcome.NoLink 0 0)

-- the file is open in this version with nothing in it, resting on the call with this xid
abbrev pub reempties : State → (file version rests_on : ℕ) → State × ClientStep
reempties s file version rests_on = (record s { opened = with_local s.opened file (record { version = version; bytes = [] }) }, ends outcome.Done rests_on 0)

-- where its content is fresh nobody is asked: its version is known
abbrev pub empties_fresh : State → (file : ℕ) → Content → State × ClientStep
empties_fresh s file c = reempties s file c.version 0

abbrev pub renews_kept : State → (file : ℕ) → (fresh : Option Content) → State × ClientStep
renews_kept s file (Some c) = empties_fresh s file c
renews_kept s file None = asks_anew s file (may_ask s)

abbrev pub rewrites_if : State → ℕ → Bool → State × ClientStep
rewrites_if s file true = (s, ends outcome.AlreadyOpen 0 0)
rewrites_if s file false = renews_kept s file (fresh_content s.cache file s.clock)

-- the file is one that a path was found to stand for, by the answer with this xid
abbrev pub empties_kept : State → (calls : List Pending) → (xid file : ℕ) → (fresh : Option Content) → State × ClientStep
empties_kept s calls xid file (Some c) = empties_fresh (forgets s calls xid) file c
empties_kept s calls xid file None = asks_anew s file true

-- it is refused as an open is
abbrev pub rewrites : State → ℕ → Option Task → State × ClientStep
rewrites s file (Some t) = (s, ends outcome.Busy 0 0)
rewrites s file None = rewrites_if s file (is_open s.opened file)

-- the file is there, in this version, and is open with nothing in it
abbrev pub opened_empty : State → (calls : List Pending) → (file xid version : ℕ) → State × ClientStep
opened_empty s calls file xid version = reempties (forgets s calls xid) file version xid

abbrev pub told_anew : State → (calls : List Pending) → (file xid : ℕ) → Answer Leased Unit → State × ClientStep
told_anew s calls file xid (Failed status u) = refused s calls xid status
told_anew s calls file xid (Done l) = opened_empty s calls file xid l.version
