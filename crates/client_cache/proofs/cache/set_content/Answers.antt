use Rattle.client_cache.proofs.Entries.{content_written}
use Rattle.client_cache.proofs.cache.set_content.Goals as goal

pub returns-in-Some : goal.returns-in-Some
returns-in-Some c = content_written c.args.entries.now c.args.file c.args.version c.args.bytes c.in-Some.kept.now c.requires.within c.in-Some.ensures.value
