use Rattle.std.proofs.Common.{length, ap, ◌∙◌}
use Rattle.port.specs.Refusals.{number_of}
use Rattle.adapters.specs.Piles.{numbers_top}
use Rattle.adapters.specs.Adapters.{fixed_over, state_over}
use Rattle.adapters.proofs.Piles.{from_reset, too_few}
use Rattle.adapters.proofs.pile.build.run_on_pile.Goals as goal

pub returns-in-Ok : goal.returns-in-Ok
returns-in-Ok g c =
    let built = c.in_ok-pile.ensures in
    let ran = c.in-Ok.ensures in
    let n = g.P.Port.fixed c.args.below in
    let law = from_reset (fixed_over c.in_ok-pile.pile) (numbers_top n g.U.Width.BYTES g.V.Width.BYTES c.args.limits) (state_over c.in_ok-pile.pile) (state_over c.run.new.port)
    (g.P.Port.state c.args.below).memory c.args.calls.now c.run.new.answers built.1 built.2 ran.ran.1 in
    (built.0, ran.ran.0, ran.fixed ∙ built.1, law.0, law.1, ran.ran.2)

pub returns-in-Err : goal.returns-in-Err
returns-in-Err g c =
    let built = c.in_ok-pile.ensures in
    let ran = c.in-Err.ensures.ran in
    let same = c.into_below-in-Err-2.ensures ∙ (ap (λ x. x.below) c.into_below-in-Err.ensures ∙ (ap (λ x. x.below.below) c.into_below.ensures ∙ (ap (λ x. x.below.below.below) ran.2 ∙ built.3))) in
    (too_few _ (length c.args.answers.now) (length c.args.calls.now) (number_of c.in-Err.refusal) built.0 ran.1 ran.0, same, ran.3)
