use Rattle.adapters.proofs.Building.{wide_suits}
use Rattle.adapters.proofs.adapter.build.widener.Goals as goal

pub over-requires : goal.over-requires
over-requires g c =
    let x = c.args.below in
    wide_suits (g.P.Port.fixed x) (g.P.Port.state x) c.status.result g.W.Width.BYTES c.BYTES.result c.args.limits.burst c.args.limits.pending c.in-Ok.cut
    (g.met.P.Port.legal x).ranges g.met.W.Width.widths c.status.ensures c.BYTES.ensures c.in-Ok.ensures.0 c.in-Ok.ensures.1
