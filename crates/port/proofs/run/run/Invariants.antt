use Rattle.std.proofs.Common.{◌≡◌, take, drop}
use Rattle.port.specs.Runs.{Ran}
use Rattle.port.proofs.run.run.Given as goal

-- the calls so far ran, and the places from here on are as they were
abbrev pub invariant-loop-i : goal.invariant-loop-i
invariant-loop-i g l =
    (g.P.Port.fixed l.port ≡ g.P.Port.fixed l.initial.port)
    × Ran (g.P.Port.fixed l.initial.port) (g.P.Port.state l.initial.port) (take l.i l.calls) (take l.i l.answers) (g.P.Port.state l.port)
    × (drop l.i l.answers ≡ drop l.i l.initial.answers)
