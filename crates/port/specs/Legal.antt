-- What every port keeps of its numbers and its state, and the plain record that it holds of them.
use Rattle.std.specs.Prelude.{◌≡◌, ℕ, ◌+◌, ◌*◌, ◌^◌, ◌<◌, ◌≤◌, List, [], ◌∷◌, length, Some, None, Option, slice_index}
use Rattle.port.specs.Lanes.{byte_in}
use Rattle.port.specs.Machine.{beat_offset, one_came, refusal_by}
use Rattle.port.specs.State.{State, Ranges, Within}
use Rattle.port.specs.declared.calls.Command.{Command}
use Rattle.port.specs.declared.calls.Command.TheVariants.{Idle, Read, Write}
use Rattle.port.specs.declared.calls.OpenBurst.{OpenBurst}
use Rattle.port.specs.declared.numbers.Numbers.{Numbers}
use Rattle.port.specs.declared.record.PortRecord.{PortRecord}
use Rattle.port.specs.declared.record.Returned.{Returned}
use Rattle.port.specs.declared.record.Returned.TheVariants.{More, Last}

-- an open burst has beats left, fewer than a whole burst, all within the words
abbrev pub OpenWithin : Numbers → Option OpenBurst → Type 0
OpenWithin n None = Unit {0}
OpenWithin n (Some b) = (1 ≤ b.left) × (b.left < n.burst_limit) × (b.next + b.left ≤ n.words)

-- a held command is one that is not refused, and without one no wait is counted
abbrev pub HeldLegal : Numbers → Option OpenBurst → ℕ → Option Command → Type 0
HeldLegal n b waits None = waits ≡ 0
HeldLegal n b waits (Some c) = refusal_by n b (Some c) c ≡ None

-- each read burst owed has 1 to B words left
abbrev pub ReadsWithin : ℕ → List ℕ → Type 0
ReadsWithin most [] = Unit {0}
ReadsWithin most (k ∷ later) = (1 ≤ k) × (k ≤ most) × ReadsWithin most later

abbrev pub total : List ℕ → ℕ
total [] = 0
total (k ∷ later) = k + total later

pub record Legal (n : Numbers) (σ : State) : Type 0 where
  pub ranges : Ranges n
  pub size : length σ.memory ≡ n.words * n.width
  pub bytes : (address : ℕ) → byte_in σ.memory address < 256
  pub opened : OpenWithin n σ.burst
  pub holds : HeldLegal n σ.burst σ.waits σ.held
  pub reading : ReadsWithin n.burst_limit σ.reads
  pub counted : total σ.reads ≡ length σ.owed
  pub values : (i : ℕ) → slice_index σ.owed i < 2 ^ (8 * n.width)
  pub quiet : σ.owed ≡ [] → σ.silence ≡ 0
  pub within : Within n σ

-- the plain record of a state
abbrev pub tally : Numbers → State → PortRecord
tally n σ =
    record { numbers = n; burst = σ.burst; held = σ.held; words_owed = length σ.owed; bursts_owed = length σ.reads; waits = σ.waits; silence = σ.silence }

-- the word that came back
abbrev pub word_of : Returned → ℕ
word_of (More x) = x
word_of (Last x) = x

-- that word, or none
abbrev pub came_word : Option Returned → Option ℕ
came_word None = None
came_word (Some r) = Some (word_of r)

-- what came back in a call: nothing, a word with more of its burst to come, or the last word of a burst
abbrev pub Came : Option Returned → List ℕ → Type 0
Came None reads = Unit {0}
Came (Some (More x)) reads = length (one_came reads) ≡ length reads
Came (Some (Last x)) reads = length (one_came reads) + 1 ≡ length reads

-- the beat of a write goes to an offset far below the largest number
abbrev pub WithinReach : Option OpenBurst → Command → Type 0
WithinReach b Idle = Unit {0}
WithinReach b (Read o k) = Unit {0}
WithinReach b (Write o k m d) = beat_offset b o.0 < 65536
