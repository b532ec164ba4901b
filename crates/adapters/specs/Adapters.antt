-- An adapter over a port, as a port of its own: its numbers, its state, and its timing. The port below is given by what its
-- make says of it, p: its numbers, its state, and its timing.
use Rattle.std.specs.Prelude.{◌≡◌, ℕ, ◌++◌, Option}
use Rattle.adapters.specs.Above.{above}
use Rattle.adapters.specs.Cuts.{next_part}
use Rattle.adapters.specs.Engine.{burst_of, bursts_less, host_width, host_word, reply_above, slot_filled, slot_sent}
use Rattle.adapters.specs.Owed.{bursts_in, collected_after}
use Rattle.adapters.specs.declared.adapter.Adapter.{Adapter}
use Rattle.adapters.specs.declared.adapter.Engine.{Engine}
use Rattle.port.specs.Machine.{Clocks}
use Rattle.port.specs.Runs.{takes}
use Rattle.port.specs.State.{State}
use Rattle.port.specs.declared.ports.Port as port
use Rattle.port.specs.declared.width.Width as width
use Rattle.port.specs.Answers.{Answer, Clocked, Refused}
use Rattle.port.specs.declared.calls.Command.{Command}
use Rattle.port.specs.declared.calls.Reply.{Reply}
use Rattle.port.specs.declared.numbers.Numbers.{Numbers}

-- the numbers of an adapter, and its state
module _ {P W V : Type 0} {p : port.Ghosts P V} {v : width.Ghosts V} {w : width.Ghosts W} where
  abbrev pub fixed_over : Adapter P W V p v w → Numbers
  fixed_over x = x.engine.plain.numbers

  abbrev pub state_over : Adapter P W V p v w → State
  state_over x = above x.engine (p.state x.below)

-- In a clocked call exactly one call goes below: the slot's next part if the slot was full at the start, else idle. It is
-- answered by `taken` and x, as the port below moves and by its own timing. The host's command is taken exactly when the
-- slot was empty at the start and, for a read, fewer than P' bursts were owed then. The slot empties when its last part is
-- taken. A host word returns in the call in which its last part returns.
pub record CallsOnce (n : Numbers) (σ τ : State) (timed : Command → Answer → Type 0) (was is : Engine) (c : Command) (a : Reply) (y : Option ℕ) : Type 0 where
  pub taken : Reply
  pub x : Option ℕ
  pub called : Clocks n σ (next_part was.shape.cut was.slot) taken x τ
  pub in_time : timed (next_part was.shape.cut was.slot) (Clocked taken x)
  pub replies : a ≡ reply_above was.slot was.plain.bursts_owed was.plain.numbers.pending_limit c
  pub returns : y ≡ host_word was x
  pub slot : is.slot ≡ slot_filled was.shape.cut (host_width was) was.plain.burst c a (slot_sent was.shape.cut taken was.slot)
  -- the rest of its data, on which later calls depend
  pub collects : is.collected ≡ collected_after was.shape.cut was.collected x
  pub owes : bursts_in is.owed ≡ bursts_less y (bursts_in was.owed) ++ burst_of c (takes a)
  pub cuts : is.shape.cut ≡ was.shape.cut

-- a refused call puts nothing below, and leaves the whole adapter as it was
module _ {P W V : Type 0} {p : port.Ghosts P V} {v : width.Ghosts V} {w : width.Ghosts W} where
  abbrev pub TimedOver : Adapter P W V p v w → Command → Answer → Adapter P W V p v w → Type 0
  TimedOver was c (Refused r) is = is ≡ was
  TimedOver was c (Clocked a y) is =
      CallsOnce (p.fixed was.below) (p.state was.below) (p.state is.below) (λ part answer. p.timing was.below part answer is.below) was.engine is.engine c a y
