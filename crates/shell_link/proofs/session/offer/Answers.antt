use Rattle.std.proofs.Common.{refl}
use Rattle.shell_link.specs.Asking.{MayOffer.nothing_offered}
use Rattle.shell_link.proofs.Hints.{may_offer}
use Rattle.shell_link.proofs.session.offer.Goals as goal

pub returns-in-Ok : goal.returns-in-Ok
returns-in-Ok c = may_offer _ _ c.in-Ok.content c.args.bytes c.offer-offered.result c.in-Ok.ensures.ok c.offer-offered.ensures.ok c.offer-offered.ensures.err

pub returns-in_default : goal.returns-in_default
returns-in_default c = nothing_offered _ refl
