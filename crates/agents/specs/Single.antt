-- What every scripted memory keeps has at most one proof, so a memory can carry it in a ghost field.
use Rattle.std.proofs.Props.{props}
use Rattle.agents.specs.Memory.{Sound, fixed_of, state_of}
use Rattle.agents.specs.declared.memory.Parts.{Parts}
use Rattle.port.specs.Single.{legal_prop}

pub sound_prop : (m : Parts) → IsProp (Sound m)
sound_prop m = Prim.hlevel (props, legal_prop (fixed_of m) (state_of m))
