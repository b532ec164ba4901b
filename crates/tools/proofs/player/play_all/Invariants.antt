use Rattle.std.proofs.Common.{◌≡◌, take, drop}
use Rattle.tools.specs.Plays.{SessionRan, commands_in}
use Rattle.tools.proofs.player.play_all.Given as goal

-- the commands so far were played, and the places from here on are as they were
abbrev pub invariant-loop-i : goal.invariant-loop-i
invariant-loop-i g l =
    (g.P.Port.fixed l.port ≡ g.P.Port.fixed l.initial.port)
    × SessionRan (g.P.Port.fixed l.initial.port) (g.P.Port.state l.initial.port) (commands_in l.session.commands.bytes.now l.i) (take l.i l.answers) (g.P.Port.state l.port)
    × (drop l.i l.answers ≡ drop l.i l.initial.answers)
