use Rattle.client_cache.proofs.Entries.{bounded, notes_within}
use Rattle.client_cache.proofs.cache.Cache.note_lease.Goals as goal

pub invariant_of-self : goal.invariant_of-self
invariant_of-self c = bounded c.set_note.new.entries _ _ c.set_note.ensures (notes_within c.self.inside.entries.entries c.args.file _ _ c.self.invariant.0) c.self.invariant.1
