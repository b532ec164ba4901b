-- The state of an adapter: what its own data and the state of the port below stand for.
use Rattle.std.specs.Prelude.{ℕ, ◌*◌, List, [], ◌++◌}
use Rattle.adapters.specs.Owed.{bursts_in, host_words, lefts, offsets_in}
use Rattle.adapters.specs.declared.adapter.Engine.{Engine}
use Rattle.adapters.specs.declared.cut.Cut.{Cut}
use Rattle.adapters.specs.Slots.{Empty, Reading, Beat, Slot}
use Rattle.adapters.specs.declared.owed.Collected.{Collected}
use Rattle.adapters.specs.declared.owed.OwedBurst.{OwedBurst}
use Rattle.port.specs.Lanes.{byte_in, lanes_stored, words_at}
use Rattle.port.specs.State.{State}
use Rattle.port.specs.declared.record.PortRecord.{PortRecord}

-- the memory below, with the rest of the beat in the slot stored
abbrev pub memory_with : Cut → Slot → List ℕ → List ℕ
memory_with c Empty memory = memory
memory_with c (Reading h n) memory = memory
memory_with c (Beat o p m d n) memory = lanes_stored (o.0 * c.width) m d (p * c.width) memory

-- the host words that a read in the slot has yet to request
abbrev pub words_in_slot : ℕ → Slot → List ℕ → List ℕ
words_in_slot v Empty memory = []
words_in_slot v (Reading h n) memory = words_at v (byte_in memory) h.0 n
words_in_slot v (Beat o p m d n) memory = []

-- the words owed to the host: those of the words owed below, then those of a read in the slot
abbrev pub owed_above : Cut → ℕ → Slot → List OwedBurst → Collected → State → List ℕ
owed_above c v s bs g σ = host_words c v (offsets_in bs) g σ.owed ++ words_in_slot v s σ.memory

-- what is open, held and counted is in the plain record
abbrev pub state_above : Cut → Slot → List OwedBurst → Collected → PortRecord → State → State
state_above c s bs g p σ =
    record {
      memory = memory_with c s σ.memory;
      burst = p.burst;
      held = p.held;
      owed = owed_above c p.numbers.width s bs g σ;
      reads = lefts bs;
      waits = p.waits;
      silence = p.silence;
    }

-- the state of an adapter over a port in this state
abbrev pub above : Engine → State → State
above e σ = state_above e.shape.cut e.slot (bursts_in e.owed) e.collected e.plain σ
