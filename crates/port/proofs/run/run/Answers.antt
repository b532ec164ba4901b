use Rattle.std.proofs.Common.{◌≡◌, ◌+◌, length, get_or, drop, sym, ap, ◌∙◌, subst, arith}
use Rattle.std.proofs.lemmas.List.{drop-drop, drop-set-lt}
use Rattle.port.specs.Legal.{Legal}
use Rattle.port.specs.Machine.{Moves}
use Rattle.port.specs.declared.calls.Command.TheVariants.{Idle}
use Rattle.port.specs.declared.numbers.Numbers.{Numbers}
use Rattle.port.proofs.Laws.{ran_all, ran_step}
use Rattle.port.proofs.run.run.Goals as goal

pub loop-i-preserved : goal.loop-i-preserved
loop-i-preserved g c =
    let i = c.loop-i.i in
    let cs = c.args.calls.now in
    let bs = c.loop-i.answers in
    let b = c.clock.result in
    let n = g.P.Port.fixed c.args.port.now in
    let σ = g.P.Port.state c.args.port.now in
    let τ = g.P.Port.state c.loop-i.port in
    let υ = g.P.Port.state c.clock.new.self in
    let same = c.loop-i.invariant.0 in
    let legal = subst (λ (m : Numbers). Legal m τ) same (g.met.P.Port.legal c.loop-i.port) in
    let moves = subst (λ (m : Numbers). Moves m τ (get_or cs i Idle) b υ) same c.clock.ensures.moves in (
      c.clock.ensures.fixed ∙ same,
      ran_step n σ cs bs i τ b υ (omega arith) (omega arith) legal c.loop-i.invariant.1 moves,
      drop-set-lt (i + 1) bs i b (omega arith) ∙ sym (drop-drop 1 i bs) ∙ ap (drop 1) c.loop-i.invariant.2 ∙ drop-drop 1 i c.args.answers.now,
    )

pub returns : goal.returns
returns g c =
    let cs = c.args.calls.now in
    let bs = c.loop-i.answers in
    let n = g.P.Port.fixed c.args.port.now in
    let all : c.loop-i.i ≡ length cs = omega arith in
    record {
      ran = (
        omega arith,
        ran_all n (g.P.Port.state c.args.port.now) cs bs c.loop-i.i (g.P.Port.state c.loop-i.port) all c.loop-i.invariant.1,
        subst (λ j. drop j bs ≡ drop j c.args.answers.now) all c.loop-i.invariant.2,
      );
      fixed = c.loop-i.invariant.0;
    }
