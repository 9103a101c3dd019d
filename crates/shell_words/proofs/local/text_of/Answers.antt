use Rattle.std.proofs.Common.{◌≡◌, subst, MatchResult}
use Rattle.std.proofs.lemmas.Str.{is_utf8-from_IsUtf8}
use Rattle.shell_words.proofs.Texts.{no_text}
use Rattle.shell_words.proofs.local.text_of.Goals as goal

pub returns-in-Ok : goal.returns-in-Ok
returns-in-Ok c = (c.in-Ok.ensures.cases.0, is_utf8-from_IsUtf8 _ c.in-Ok.ensures.cases.1)

pub returns-in-Err : goal.returns-in-Err
returns-in-Err c = no_text _ c.in-Err.ensures.cases.0
