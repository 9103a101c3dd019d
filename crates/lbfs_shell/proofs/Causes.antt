-- The causes of an end, with counts that began earlier or went on.
use Rattle.shell_words.specs.Commands.{verb_of, some_line, line_of, command_of}
use Rattle.shell_words.specs.Giving.{Gives}
use Rattle.shell_words.specs.declared.command.Line.{Line}
use Rattle.shell_words.specs.declared.mistake.Mistake.{Mistake}
use Rattle.shell_words.specs.declared.mistake.ReadError.{ReadError}
use Rattle.std.proofs.Common.{List, [], ◌∷◌, Option, Some, None, Result, Ok, Err, ◌≡◌, ℕ, ◌≤◌, arith, refl, sym, subst}
use Rattle.lb_base.specs.Causes.{Rose}
use Rattle.exit_status.specs.declared.shell_end.ShellEnd.{ShellEnd}
use Rattle.exit_status.specs.declared.shell_end.ShellEnd.TheVariants as end
use Rattle.lbfs_shell.specs.Ends.{SinkCause, HasCause}

rose_more : (a b c : ℕ) → a ≤ b → Rose b c → Rose a c
rose_more a b c h r = omega (arith, h, r)

-- an end of what touches the output alone, in a shell that had read before
pub of_sink : (e : ShellEnd) (r r' w m w' : ℕ) → w ≤ m → SinkCause m w' e → HasCause r r' w w' e
of_sink end.ReadFault r r' w m w' h c = absurd c
of_sink end.WriteFault r r' w m w' h c = rose_more w m w' h c
of_sink end.Done r r' w m w' h c = tt
of_sink end.Undone r r' w m w' h c = tt
of_sink end.BadWords r r' w m w' h c = tt
of_sink end.TooLong r r' w m w' h c = tt
of_sink end.Memory r r' w m w' h c = tt
of_sink end.Network r r' w m w' h c = tt

-- running out of memory has no cause
pub starved : (e : ShellEnd) (w w' : ℕ) → e ≡ end.Memory → SinkCause w w' e
starved e w w' is = subst (λ (x : ShellEnd). SinkCause w w' x) (sym is) tt

-- an input that failed
pub of_read : (r m r' : ℕ) → r ≤ m → Rose m r' → Rose r r'
of_read r m r' h c = rose_more r m r' h c

-- ---- words that say nothing are none

is_some_line : (r : Result Line Mistake) → some_line r ≡ Ok None → ⊥
is_some_line (Ok l) e = cc
is_some_line (Err m) e = cc

none_of : (words : List (List ℕ)) → command_of words ≡ Ok None → words ≡ []
none_of [] e = refl
none_of (word ∷ words) e = absurd (is_some_line (line_of (verb_of word) word words) e)

pub said_nothing : (words : List (List ℕ)) (read : Result (Option Line) ReadError) → Gives read (command_of words) → read ≡ Ok None → words ≡ []
said_nothing words (Ok None) said e = none_of words said
said_nothing words (Ok (Some l)) said e = cc
said_nothing words (Err m) said e = cc
