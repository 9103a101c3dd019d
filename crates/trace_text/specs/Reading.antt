-- The readings of lines.
use Rattle.std.specs.Prelude.{◌<◌, ◌^◌}
use Rattle.trace_text.specs.declared.line.Line.{Line}
use Rattle.trace_text.specs.declared.line.Line.TheVariants.{Up, Pass, Settle}

-- the server's reading that a line brings to a step has at most 63 bits
abbrev pub IsTimely : Line → Type 0
IsTimely (Up session amount server) = server < 2 ^ 63
IsTimely (Pass session rounds server at) = server < 2 ^ 63
IsTimely (Settle server) = server < 2 ^ 63
IsTimely line = Unit {0}
