-- How an open or a rewrite of a path ends that led to its file: as one of an id does, or it finds the file open.
use Rattle.std.proofs.Common.{◌≡◌, ℕ, List}
use Rattle.client_state.specs.declared.step.Outcome.TheVariants as outcome
use Rattle.register_model.specs.declared.op.Outcome.{Outcome as Told}
use Rattle.register_model.specs.declared.op.Outcome.TheVariants as told
use Rattle.register_model.specs.declared.op.Word.{Word}
use Rattle.register_model.specs.declared.op.Word.TheVariants as words
use Rattle.kept_promise.proofs.Common.{Outcome, Local, told_of}
use Rattle.kept_promise.proofs.Leaving.{EndsWith}

abbrev pub IsFetched : (what : Word) → Told → Type 0
IsFetched what (told.Opened len digest) = Unit {0}
IsFetched what told.AlreadyOpen = Unit {0}
IsFetched what (told.Changed first last) = Unit {0}
IsFetched what (told.Refused status) = Unit {0}
IsFetched what told.Lost = Unit {0}
IsFetched what told.Running = Unit {0}
IsFetched what (told.Closed version len digest) = Unit {0}
IsFetched what told.PeerMemory = Unit {0}
IsFetched what (told.BadPeer n) = Unit {0}
IsFetched what told.Memory = Unit {0}
IsFetched what (told.Names list) = Unit {0}
IsFetched what (told.Seen id kind version len) = Unit {0}
IsFetched what (told.Piece len digest) = ⊥
IsFetched what told.Done = what ≡ words.Rewrite
IsFetched what told.Busy = ⊥
IsFetched what told.NotOpen = ⊥
IsFetched what (told.TooBig size) = ⊥
IsFetched what told.NoLink = ⊥

-- at the end of a fetch
pub ends_fetched : (what : Word) (u : Outcome) (opened after : List (ℕ × Local)) (file : ℕ) → EndsWith what opened after file u → IsFetched what (told_of u)
ends_fetched what (outcome.Piece len digest) opened after file h = absurd h
ends_fetched what outcome.Done opened after file h = h.0
ends_fetched what outcome.Busy opened after file h = absurd h
ends_fetched what outcome.NotOpen opened after file h = absurd h
ends_fetched what outcome.AlreadyOpen opened after file h = absurd h
ends_fetched what (outcome.TooBig size) opened after file h = absurd h
ends_fetched what outcome.NoLink opened after file h = absurd h
ends_fetched what _ opened after file h = tt
