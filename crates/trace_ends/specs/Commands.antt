-- Commands as operations: what each is called, and on which file.
use Rattle.std.specs.Prelude.{ℕ, List, [], Option, None}
use Rattle.command_text.specs.declared.command.Command.{Command}
use Rattle.command_text.specs.declared.command.Command.TheVariants as command
use Rattle.command_text.specs.declared.path.PathCommand.{PathCommand}
use Rattle.command_text.specs.declared.path.PathCommand.TheVariants as path
use Rattle.client_state.specs.State as client
use Rattle.client_state.specs.declared.step.Ended.{Ended}
use Rattle.register_model.specs.declared.op.Word.{Word}
use Rattle.register_model.specs.declared.op.Word.TheVariants as word

abbrev pub path_word : PathCommand → Word
path_word (path.Find s) = word.Open
path_word (path.Rewrite s) = word.Rewrite
path_word (path.Look s) = word.Look
path_word path.LookRoot = word.Look
path_word (path.List p) = word.List
path_word (path.Make s) = word.Make
path_word (path.MakeDir s) = word.Mkdir
path_word (path.Remove s) = word.Remove
path_word (path.RemoveDir s) = word.Rmdir
path_word (path.Rename s t) = word.Rename

abbrev pub word_of : Command → Word
word_of (command.Open file) = word.Open
word_of (command.Rewrite file) = word.Rewrite
word_of (command.Write file offset content) = word.Write
word_of (command.Trunc file size) = word.Trunc
word_of (command.Read file offset count) = word.Read
word_of (command.Close file) = word.Close
word_of (command.Abandon file) = word.Abandon
word_of (command.Named k) = path_word k

-- the file that a command names by its id; 0 where it has names in place of it
abbrev pub file_of : Command → ℕ
file_of (command.Open file) = file
file_of (command.Rewrite file) = file
file_of (command.Write file offset content) = file
file_of (command.Trunc file size) = file
file_of (command.Read file offset count) = file
file_of (command.Close file) = file
file_of (command.Abandon file) = file
file_of (command.Named k) = 0

-- the content that a close is to store, as the client has it when the close begins; nothing where its first step ends it
abbrev pub value_at_begin : client.State → Word → (file : ℕ) → Option Ended → List ℕ
value_at_begin c word.Close file None = client.local_bytes c.opened file
value_at_begin c w file ended = []
