use Rattle.command_text.proofs.lemmas.Contents.{content_size}
use Rattle.command_text.proofs.laws.contents_have_their_length.Goals as goal

pub returns : goal.returns
returns c = content_size
