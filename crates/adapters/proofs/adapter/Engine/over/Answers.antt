use Rattle.adapters.proofs.Building.{small}
use Rattle.adapters.proofs.adapter.Engine.over.Goals as goal

pub invariant_of-new : goal.invariant_of-new
invariant_of-new c =
    let fits = small c.args.cut c.args.status.numbers c.args.width c.args.limits.burst c.args.limits.pending c.requires.suited in
    record { some = fits.some; few = fits.few; shared = fits.shared }
