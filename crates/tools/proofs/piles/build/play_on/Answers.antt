use Rattle.std.proofs.Common.{◌≡◌, ◌-◌, take, ap, ◌∙◌, arith}
use Rattle.tools.specs.Piles.{count_of}
use Rattle.tools.specs.Plays.{takes_in}
use Rattle.tools.proofs.Finals.{plays}
use Rattle.tools.proofs.piles.build.play_on.Goals as goal

pub returns : goal.returns
returns g c =
    let p = c.args.port.now in
    let q = c.play_all.new.port in
    let bs = c.play_all.new.answers in
    let ran = c.in_ok-play_all.ensures.ran in
    let all : c.command_count.result - 0 ≡ count_of c.args.session.now.commands.bytes.now = omega (arith, c.command_count.ensures) in
    let counted = c.count_taken-taken.ensures ∙ ap (λ k. takes_in (take k bs)) all in (
      λ image at-reset. plays (g.P.Port.fixed p) image c.args.session.now.commands.bytes.now bs (g.P.Port.state p) (g.P.Port.state q) c.status.result c.status-2.result (g.P.Port.fixed q)
          c.count_taken-taken.result at-reset ran.1 c.status.ensures c.status-2.ensures counted,
      ran.2,
    )
