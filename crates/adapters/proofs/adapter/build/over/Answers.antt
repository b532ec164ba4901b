use Rattle.std.proofs.Common.{refl, ap}
use Rattle.port.specs.declared.record.PortRecord.{PortRecord}
use Rattle.adapters.proofs.Building.{built, raised}
use Rattle.adapters.proofs.adapter.build.over.Goals as goal

pub invariant_of-result : goal.invariant_of-result
invariant_of-result g c =
    let x = c.args.below in
    let e = c.in-Ok.engine in
    let n = g.P.Port.fixed x in
    let σ = g.P.Port.state x in
    let here = raised c.args.cut n σ c.status.result g.W.Width.BYTES c.BYTES.result c.args.limits.burst c.args.limits.pending e c.status.ensures c.BYTES.ensures c.in-Ok.ensures in
    let kept = built c.args.cut n σ g.W.Width.BYTES c.args.limits.burst c.args.limits.pending e (g.met.P.Port.legal x) c.requires here.0 here.1 in
    record {
      kept = ∣ kept.0 ∣₁;
      wide = ap (λ (r : PortRecord). r.numbers.width) (here.1.plain σ.memory);
      shaped = here.1.width;
    }

pub returns : goal.returns
returns g c =
    let x = c.args.below in
    let e = c.in-Ok.engine in
    let n = g.P.Port.fixed x in
    let σ = g.P.Port.state x in
    let here = raised c.args.cut n σ c.status.result g.W.Width.BYTES c.BYTES.result c.args.limits.burst c.args.limits.pending e c.status.ensures c.BYTES.ensures c.in-Ok.ensures in
    let kept = built c.args.cut n σ g.W.Width.BYTES c.args.limits.burst c.args.limits.pending e (g.met.P.Port.legal x) c.requires here.0 here.1 in (
      here.0,
      record {
        port = refl;
        numbers = ap (λ (r : PortRecord). r.numbers) (here.1.plain σ.memory);
        cut = here.1.cut;
        start = kept.1;
      },
    )
