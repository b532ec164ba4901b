use Rattle.port.specs.Legal.{came_word}
use Rattle.port.specs.Machine.{given}
use Rattle.port.proofs.Tally.{few_owed, few_reads, few_waits, reach, silence_below}
use Rattle.port.proofs.record.PortRecord.clock.Goals as goal

pub returns-clause-moves : goal.returns-clause-moves
returns-clause-moves c n σ e legal free came =
    let x = came_word c.args.returned in
    c.act.ensures n (given x σ) (c.give.ensures n σ e (silence_below n σ legal) came)
    (few_owed n σ x legal) (few_reads n σ x legal) (few_waits n σ x legal) (reach n σ x c.args.command legal free)
