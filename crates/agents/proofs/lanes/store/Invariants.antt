use Rattle.std.proofs.Common.{◌≡◌}
use Rattle.port.specs.Lanes.{lanes_stored}
use Rattle.agents.proofs.lanes.store.Given as goal

-- the first i lanes are stored
abbrev pub invariant-loop-i : goal.invariant-loop-i
invariant-loop-i l = l.lanes ≡ lanes_stored 0 l.mask l.word l.i l.initial.lanes
