-- Over which storage a scripted memory can be built, and the numbers that it then has.
use Rattle.std.specs.Prelude.{◌≡◌, ℕ, ◌+◌, ◌*◌, ◌/◌, ◌%◌, ◌≤◌, List, length}
use Rattle.agents.specs.Memory.{Sound, fixed_of, state_of}
use Rattle.agents.specs.Scripts.{greatest_of, listed, place_of}
use Rattle.agents.specs.declared.memory.Parts.{Parts}
use Rattle.agents.specs.declared.memory.Storage.{Storage}
use Rattle.port.specs.State.{reset}
use Rattle.port.specs.declared.numbers.Numbers.{Numbers}

-- b beats to a burst, p read bursts owed: a memory of 8 to 32768 bytes in eights, scripts of 1 to 256 values, and
-- places for the words and the records of all the bursts that can be owed
pub record Buildable (size wait_values gap_values word_places burst_places b p : ℕ) : Type 0 where
  pub beats_some : 1 ≤ b
  pub beats_few : b ≤ 64
  pub pending_some : 1 ≤ p
  pub pending_few : p ≤ 16
  pub eights : size % 8 ≡ 0
  pub some : 8 ≤ size
  pub few : size ≤ 32768
  pub waits_some : 1 ≤ wait_values
  pub waits_few : wait_values ≤ 256
  pub gaps_some : 1 ≤ gap_values
  pub gaps_few : gap_values ≤ 256
  pub words_room : b * p ≤ word_places
  pub bursts_room : p ≤ burst_places

-- this storage is enough for a memory with these limits
abbrev pub Enough : Storage → ℕ → ℕ → Type 0
Enough s b p = Buildable (length s.bytes.now) (length s.waits.now) (length s.gaps.now) (length s.words.now) (length s.bursts.now) b p

-- storage that holds what it held
abbrev pub Unchanged : Storage → Storage → Type 0
Unchanged was is =
    (is.bytes.now ≡ was.bytes.now) × (is.waits.now ≡ was.waits.now) × (is.gaps.now ≡ was.gaps.now)
    × (is.words.now ≡ was.words.now) × (is.bursts.now ≡ was.bursts.now)

-- L is the greatest gap value, and A the greatest wait value and B (L + 1)
abbrev pub numbers_of : ℕ → ℕ → List ℕ → List ℕ → ℕ → ℕ → Numbers
numbers_of w size wait_list gap_list b p =
    record { width = w; words = size / w; burst_limit = b; pending_limit = p; wait_bound = greatest_of wait_list + b * (greatest_of gap_list + 1); silence_bound = greatest_of gap_list }

-- a memory at reset on these bytes, with both scripts at their first value
pub record Built (w : ℕ) (image wait_list gap_list : List ℕ) (b p : ℕ) (m : Parts) : Type 0 where
  pub sound : Sound m
  pub numbers : fixed_of m ≡ numbers_of w (length image) wait_list gap_list b p
  pub state : state_of m ≡ reset image
  pub waits : listed m.waits ≡ wait_list
  pub waits_at : place_of m.waits ≡ 0
  pub gaps : listed m.gaps ≡ gap_list
  pub gaps_at : place_of m.gaps ≡ 0
