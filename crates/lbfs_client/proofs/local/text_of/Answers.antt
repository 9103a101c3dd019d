use Rattle.lbfs_client.proofs.Letters.{letters_utf8}
use Rattle.lbfs_client.proofs.local.text_of.Goals as goal

pub returns : goal.returns
returns c = c.in_ok-text.ensures.ok (letters_utf8 c.args.word.now c.requires)
