use Rattle.std.proofs.Common.{sym, ap, ◌∙◌, subst}
use Rattle.port.specs.Machine.{command_rule, hold_rule}
use Rattle.port.specs.Refusals.{number_of}
use Rattle.port.specs.declared.numbers.Numbers.{Numbers}
use Rattle.port.proofs.Rules.{first_later}
use Rattle.port.proofs.Tally.{words_below}
use Rattle.adapters.specs.Cuts.{Loadable}
use Rattle.adapters.specs.Lawful.{legal_kept}
use Rattle.adapters.specs.declared.cut.Shape.{Shape}
use Rattle.adapters.proofs.Ready.{comes_due, loadable, works}
use Rattle.adapters.proofs.Serve.{served, unrefused}
use Rattle.adapters.proofs.adapter.Adapter.serve.Goals as goal

pub next_part-part-requires : goal.next_part-part-requires
next_part-part-requires g c =
    let x = c.args.self.now in
    (works (g.P.Port.fixed x.below) (g.P.Port.state x.below) x.engine (g.met.P.Port.legal x.below) (x.shaped ∙ sym x.wide) x.kept).placed

pub settle-requires : goal.settle-requires
settle-requires g c =
    let x = c.args.self.now in
    let n = g.P.Port.fixed x.below in
    let σ = g.P.Port.state x.below in
    let n' = x.engine.plain.numbers in
    let legal = g.met.P.Port.legal x.below in
    let lawful = legal_kept n σ x.engine x.kept in
    let free = first_later (hold_rule x.engine.plain.burst x.engine.plain.held c.args.command) (command_rule n' x.engine.plain.burst c.args.command) c.requires in (
      works n σ x.engine legal (x.shaped ∙ sym x.wide) x.kept,
      (
        comes_due n σ x.engine c.in-Ok.word legal x.kept c.in-Ok.ensures.moves.first,
        subst (λ v. Loadable v x.engine.plain.burst c.args.command) (x.wide ∙ sym x.shaped)
            (loadable n' x.engine.plain.burst c.args.command (words_below n' lawful.ranges) lawful.opened free),
      ),
    )

pub unreachable-requires : goal.unreachable-requires
unreachable-requires g c =
    let x = c.args.self.now in
    unrefused (g.P.Port.fixed x.below) (g.P.Port.state x.below) x.engine c.next_part-part.result (number_of c.in-Err.field-0) (g.met.P.Port.legal x.below) x.kept
    c.next_part-part.ensures c.in-Err.ensures.moves.0

pub invariant_of-self : goal.invariant_of-self
invariant_of-self g c =
    let x = c.args.self.now in
    let left = served (g.P.Port.fixed x.below) (g.P.Port.fixed c.clock.new.self) (g.P.Port.state x.below) (g.P.Port.state c.clock.new.self) x.engine c.settle.new.self
    c.args.command c.next_part-part.result c.in-Ok.taken c.in-Ok.word c.settle.result.0 c.settle.result.1
    (g.met.P.Port.legal x.below) x.kept c.requires c.next_part-part.ensures c.in-Ok.ensures.fixed c.in-Ok.ensures.moves c.settle.ensures in
    record { kept = left.kept; wide = ap (λ (n : Numbers). n.width) left.fixed ∙ x.wide; shaped = ap (λ (s : Shape). s.width) c.settle.ensures.same_shape ∙ x.shaped }

pub returns-clause-fixed : goal.returns-clause-fixed
returns-clause-fixed g c =
    let x = c.args.self.now in
    let left = served (g.P.Port.fixed x.below) (g.P.Port.fixed c.clock.new.self) (g.P.Port.state x.below) (g.P.Port.state c.clock.new.self) x.engine c.settle.new.self
    c.args.command c.next_part-part.result c.in-Ok.taken c.in-Ok.word c.settle.result.0 c.settle.result.1
    (g.met.P.Port.legal x.below) x.kept c.requires c.next_part-part.ensures c.in-Ok.ensures.fixed c.in-Ok.ensures.moves c.settle.ensures in
    left.fixed

pub returns-clause-moves : goal.returns-clause-moves
returns-clause-moves g c =
    let x = c.args.self.now in
    let left = served (g.P.Port.fixed x.below) (g.P.Port.fixed c.clock.new.self) (g.P.Port.state x.below) (g.P.Port.state c.clock.new.self) x.engine c.settle.new.self
    c.args.command c.next_part-part.result c.in-Ok.taken c.in-Ok.word c.settle.result.0 c.settle.result.1
    (g.met.P.Port.legal x.below) x.kept c.requires c.next_part-part.ensures c.in-Ok.ensures.fixed c.in-Ok.ensures.moves c.settle.ensures in
    left.moves
