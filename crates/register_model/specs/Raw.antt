-- Changes of files by sessions that are no client's, as operations of a history.
use Rattle.std.specs.Prelude.{ℕ, List, [], map, Option, Some, None}
use Rattle.register_model.specs.declared.op.Word.{Word}
use Rattle.register_model.specs.declared.op.Word.TheVariants as word
use Rattle.register_model.specs.declared.op.Outcome.{Outcome}
use Rattle.register_model.specs.declared.op.Outcome.TheVariants as outcome
use Rattle.register_model.specs.declared.op.Op.{Op}
use Rattle.register_model.specs.declared.op.Traffic.{Traffic}
use Rattle.register_model.specs.declared.raw.Raw.{Raw}
use Rattle.register_model.specs.declared.raw.RawKind.{RawKind}
use Rattle.register_model.specs.declared.raw.RawKind.TheVariants as kind

-- the word of a client's operation that does the same
abbrev pub word_of : RawKind → Word
word_of kind.Commit = word.Close
word_of kind.Make = word.Make
word_of kind.Remove = word.Remove

-- how that ends where it is done
abbrev pub outcome_of : RawKind → (version len : ℕ) → List ℕ → Outcome
outcome_of kind.Commit version len sha1 = outcome.Closed version len sha1
outcome_of k version len sha1 = outcome.Done

-- such a change is an operation that ended as it was made; no client has the number 0
abbrev pub op_of : Raw → Op
op_of r = record {
  client = 0;
  word = word_of r.kind;
  file = r.file;
  begin = r.begin;
  end = Some r.point;
  point = Some r.point;
  outcome = outcome_of r.kind r.version r.len r.sha1;
  value = r.value;
  traffic = record { cond = 0; tmp = 0; read = 0; «data» = 0 };
}

-- those of a run, if it may have any
abbrev pub ops_of : Option (List Raw) → List Op
ops_of None = []
ops_of (Some rs) = map op_of rs
