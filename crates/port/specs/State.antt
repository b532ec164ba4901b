-- The state of a port, its numbers, and what every port keeps of them.
use Rattle.std.specs.Prelude.{◌≡◌, ℕ, ◌*◌, ◌%◌, ◌≤◌, List, [], length, None, Option}
use Rattle.port.specs.Widths.{Wide}
use Rattle.port.specs.declared.calls.Command.{Command}
use Rattle.port.specs.declared.calls.OpenBurst.{OpenBurst}
use Rattle.port.specs.declared.numbers.Numbers.{Numbers}

pub record State : Type 0 where
  -- a byte at each byte address
  pub memory : List ℕ
  -- the write burst that is open
  pub burst : Option OpenBurst
  -- the command that was told to wait
  pub held : Option Command
  -- the words owed, first to last
  pub owed : List ℕ
  -- how many words are left of each read burst owed, first to last
  pub reads : List ℕ
  -- r: waits since the last take
  pub waits : ℕ
  -- s: clocked calls since the last word, with words owed before them
  pub silence : ℕ

-- at reset the memory is any image, and nothing is open, held or owed
abbrev pub reset : List ℕ → State
reset image = record { memory = image; burst = None; held = None; owed = []; reads = []; waits = 0; silence = 0 }

-- the ranges of the six numbers
pub record Ranges (n : Numbers) : Type 0 where
  pub wide : Wide n.width
  pub eights : n.words * n.width % 8 ≡ 0
  pub some : 8 ≤ n.words * n.width
  pub few : n.words * n.width ≤ 32768
  pub beats_some : 1 ≤ n.burst_limit
  pub beats_few : n.burst_limit ≤ 64
  pub pending_some : 1 ≤ n.pending_limit
  pub pending_few : n.pending_limit ≤ 16
  pub patient : n.wait_bound ≤ 100000000
  pub prompt : n.silence_bound ≤ 100000000

-- after every call at most P bursts are owed, r ≤ A and s ≤ L
pub record Within (n : Numbers) (σ : State) : Type 0 where
  pub pending : length σ.reads ≤ n.pending_limit
  pub waiting : σ.waits ≤ n.wait_bound
  pub silent : σ.silence ≤ n.silence_bound
