-- The state that a scripted memory stands for, what it keeps, and what its steps leave.
use Rattle.std.specs.Prelude.{◌≡◌, ℕ, ◌+◌, ◌*◌, ◌<◌, ◌≤◌, List, map, length, Option}
use Rattle.agents.specs.Queue.{items, room}
use Rattle.agents.specs.Scripts.{greatest_of, listed, place_of, value_now}
use Rattle.agents.specs.Timing.{Patient, gap_place_after, reply_to, wait_place_after, word_back}
use Rattle.agents.specs.declared.memory.ReadBurst.{ReadBurst}
use Rattle.agents.specs.declared.memory.Parts.{Parts}
use Rattle.agents.specs.declared.queue.Ring.{Ring}
use Rattle.port.specs.Legal.{Legal, tally}
use Rattle.port.specs.Machine.{acted, beat_offset, given}
use Rattle.port.specs.State.{State}
use Rattle.port.specs.Answers.{Answer, Clocked, Refused}
use Rattle.port.specs.declared.calls.Command.{Command}
use Rattle.port.specs.declared.calls.Command.TheVariants.{Idle, Read, Write}
use Rattle.port.specs.declared.calls.Reply.{Reply}
use Rattle.port.specs.declared.calls.Reply.TheVariants as reply
use Rattle.port.specs.declared.numbers.Numbers.{Numbers}

-- how many words are left of each read burst in a queue
abbrev pub lefts : Ring ReadBurst → List ℕ
lefts q = map (λ b. b.left) (items q)

abbrev pub fixed_of : Parts → Numbers
fixed_of m = m.plain.numbers

abbrev pub state_of : Parts → State
state_of m =
    record { memory = m.bytes.all.now; burst = m.plain.burst; held = m.plain.held; owed = items m.words; reads = lefts m.bursts; waits = m.plain.waits; silence = m.plain.silence }

-- what every scripted memory keeps
pub record Sound (m : Parts) : Type 0 where
  pub words_room : (fixed_of m).burst_limit * (fixed_of m).pending_limit ≤ room m.words
  pub bursts_room : (fixed_of m).pending_limit ≤ room m.bursts
  pub tallied : m.plain ≡ tally (fixed_of m) (state_of m)
  pub legal : Legal (fixed_of m) (state_of m)
  -- L is the greatest gap value, and A the greatest wait value and B (L + 1)
  pub prompt : (fixed_of m).silence_bound ≡ greatest_of (listed m.gaps)
  pub patient : (fixed_of m).wait_bound ≡ greatest_of (listed m.waits) + (fixed_of m).burst_limit * ((fixed_of m).silence_bound + 1)
  pub waiting : Patient (fixed_of m) (state_of m) (value_now m.waits)

-- the timing of a call: which answer, which word, and where the scripts stand afterwards
abbrev pub Timed : Parts → Command → Answer → Parts → Type 0
Timed was c (Refused r) is = is ≡ was
Timed was c (Clocked a x) is =
    (a ≡ reply_to (fixed_of was) (state_of was) (value_now was.waits) c)
    × (x ≡ word_back (state_of was) (value_now was.gaps))
    × (listed is.waits ≡ listed was.waits)
    × (listed is.gaps ≡ listed was.gaps)
    × (place_of is.waits ≡ wait_place_after a (length (listed was.waits)) (place_of was.waits))
    × (place_of is.gaps ≡ gap_place_after x (length (listed was.gaps)) (place_of was.gaps))

-- Steps within a call ------------------------------------------------------------

-- what no step changes
pub record Alike (was is : Parts) : Type 0 where
  pub words_room : room is.words ≡ room was.words
  pub bursts_room : room is.bursts ≡ room was.bursts
  pub plain : is.plain ≡ was.plain
  pub waits : listed is.waits ≡ listed was.waits
  pub gaps : listed is.gaps ≡ listed was.gaps

-- a word that comes back, or none
pub record Gave (was : Parts) (x : Option ℕ) (is : Parts) : Type 0 where
  pub alike : Alike was is
  pub word : x ≡ word_back (state_of was) (value_now was.gaps)
  pub memory : is.bytes.all.now ≡ was.bytes.all.now
  pub owed : items is.words ≡ (given x (state_of was)).owed
  pub reads : lefts is.bursts ≡ (given x (state_of was)).reads
  pub waits_at : place_of is.waits ≡ place_of was.waits
  pub gaps_at : place_of is.gaps ≡ gap_place_after x (length (listed was.gaps)) (place_of was.gaps)

-- there is room for what a command that is taken needs
abbrev pub Ready : ℕ → Parts → Command → Reply → Type 0
Ready w m Idle a = Unit {0}
Ready w m (Read o k) reply.Idle = Unit {0}
Ready w m (Read o k) reply.Wait = Unit {0}
Ready w m (Read o k) reply.Take =
    (length (items m.words) + k ≤ room m.words) × (length (items m.bursts) < room m.bursts) × (o.0 + k ≤ 32768) × ((o.0 + k) * w ≤ length m.bytes.all.now)
Ready w m (Write o k mask d) reply.Idle = Unit {0}
Ready w m (Write o k mask d) reply.Wait = Unit {0}
Ready w m (Write o k mask d) reply.Take = beat_offset m.plain.burst o.0 * w + w ≤ length m.bytes.all.now

-- idle, wait or take, with the wait script
pub record Acted (w : ℕ) (was : Parts) (c : Command) (a : Reply) (is : Parts) : Type 0 where
  pub alike : Alike was is
  pub memory : is.bytes.all.now ≡ (acted w c a (state_of was)).memory
  pub owed : items is.words ≡ (acted w c a (state_of was)).owed
  pub reads : lefts is.bursts ≡ (acted w c a (state_of was)).reads
  pub waits_at : place_of is.waits ≡ wait_place_after a (length (listed was.waits)) (place_of was.waits)
  pub gaps_at : place_of is.gaps ≡ place_of was.gaps
