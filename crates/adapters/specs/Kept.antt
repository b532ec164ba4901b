-- What every adapter keeps, of its own data and of the state of the port below. Primed numbers are the adapter's.
use Rattle.std.specs.Prelude.{◌≡◌, ℕ, ◌+◌, ◌-◌, ◌*◌, ◌^◌, ◌<◌, ◌≤◌, false, ◌⊎◌, List, [], ◌∷◌, ◌++◌, length, Some, None, Option}
use Rattle.adapters.specs.Above.{state_above}
use Rattle.adapters.specs.Cuts.{in_one_burst, is_free, next_part, parts_due}
use Rattle.adapters.specs.Owed.{bursts_in, counted, lefts, offsets_in}
use Rattle.adapters.specs.declared.adapter.Engine.{Engine}
use Rattle.adapters.specs.declared.cut.Cut.{Cut}
use Rattle.adapters.specs.Slots.{Empty, Reading, Beat, Slot}
use Rattle.adapters.specs.declared.owed.Collected.{Collected}
use Rattle.adapters.specs.declared.owed.OwedBurst.{OwedBurst}
use Rattle.port.specs.Legal.{Legal, tally}
use Rattle.port.specs.Machine.{rest_of_burst}
use Rattle.port.specs.State.{State}
use Rattle.port.specs.Waiting.{calls_due}
use Rattle.port.specs.declared.calls.Command.{Command}
use Rattle.port.specs.declared.calls.OpenBurst.{OpenBurst}
use Rattle.port.specs.declared.numbers.Numbers.{Numbers}
use Rattle.port.specs.declared.record.PortRecord.{PortRecord}

-- Numbers --------------------------------------------------------------------------------

-- L' = A + 1 + k (L + 1)
abbrev pub silence_above : ℕ → ℕ → ℕ → ℕ
silence_above k a l = a + 1 + k * (l + 1)

-- A' = k B' (A + 1) + B' (L' + 1)
abbrev pub wait_above : ℕ → ℕ → ℕ → ℕ → ℕ
wait_above k a l b = k * b * (a + 1) + b * (silence_above k a l + 1)

-- how an adapter with the numbers n' cuts for a port with the numbers n
pub record Fitted (c : Cut) (n n' : Numbers) : Type 0 where
  pub below : c.width ≡ n.width
  -- k words below have the bytes of f host words
  pub widths : n'.width * c.share ≡ c.width * c.parts
  pub sizes : n'.words * c.parts ≡ n.words * c.share
  -- a word below holds no more than one host word, or else every burst below has one word
  pub kind : (c.share ≡ 1) ⊎ ((c.parts ≡ 1) × (c.most ≡ 1))
  pub parts_some : 1 ≤ c.parts
  pub share_some : 1 ≤ c.share
  pub most_some : 1 ≤ c.most
  pub bytes_few : c.width * c.parts ≤ 8
  pub burst_fits : c.most * c.parts ≤ n.burst_limit
  pub silence : n'.silence_bound ≡ silence_above c.parts n.wait_bound n.silence_bound
  pub waits : n'.wait_bound ≡ wait_above c.parts n.wait_bound n.silence_bound n'.burst_limit

-- Open and held below ----------------------------------------------------------------------

-- the port below holds nothing, or exactly the slot's next part
abbrev pub HoldsPart : Cut → Slot → Option Command → Type 0
HoldsPart c s None = Unit {0}
HoldsPart c s (Some h) = (h ≡ next_part c s) × (is_free s ≡ false)

-- between two beats: a burst that is open below goes on at the next beat of the one above, and ends no later
abbrev pub Between : Cut → Option OpenBurst → Option OpenBurst → Type 0
Between c None b' = Unit {0}
Between c (Some b) None = ⊥
Between c (Some b) (Some b') = (c.share ≡ 1) × (b.next ≡ b'.next * c.parts) × (j : ℕ) × (b.left ≡ j * c.parts) × (1 ≤ j) × (j ≤ b'.left)

-- within a beat: nothing is open below, and its first part opens a burst; or its next part is the next below
abbrev pub Opening : Cut → Numbers → ℕ → ℕ → ℕ → Option OpenBurst → Type 0
Opening c n o p left None = (p ≡ c.parts) × (o + in_one_burst c left * c.parts ≤ n.words)
Opening c n o p left (Some b) = (c.share ≡ 1) × (b.next ≡ o) × (j : ℕ) × (b.left ≡ p + j * c.parts) × (j + 1 ≤ left)

-- a beat to the host word at h, of which p parts from the word o below on are left
pub record WithinBeat (c : Cut) (n n' : Numbers) (o p left : ℕ) (b b' : Option OpenBurst) : Type 0 where
  pub some : 1 ≤ p
  pub few : p ≤ c.parts
  pub left_some : 1 ≤ left
  pub inside : o + p ≤ n.words
  pub host : ℕ
  pub host_inside : host + left ≤ n'.words
  pub place : c.share ≡ 1 → o + p ≡ (host + 1) * c.parts
  pub rest : b' ≡ rest_of_burst host left
  pub opening : Opening c n o p left b

abbrev pub LinedUp : Cut → Numbers → Numbers → Slot → Option OpenBurst → Option OpenBurst → Type 0
LinedUp c n n' Empty b b' = Between c b b'
LinedUp c n n' (Reading h k) b b' = (b ≡ None) × (b' ≡ None) × (1 ≤ k) × (k ≤ n'.burst_limit) × (h.0 + k ≤ n'.words)
LinedUp c n n' (Beat o p m d k) b b' = WithinBeat c n n' o.0 p k b b'

-- Words owed ---------------------------------------------------------------------------------

-- the host words that a read in the slot has yet to request, by their offsets
abbrev pub offsets_in_slot : Slot → List ℕ
offsets_in_slot Empty = []
offsets_in_slot (Reading h n) = counted h.0 n
offsets_in_slot (Beat o p m d n) = []

-- each read burst owed has words left, all within the memory
abbrev pub BurstsWithin : ℕ → List OwedBurst → Type 0
BurstsWithin size [] = Unit {0}
BurstsWithin size (b ∷ bs) = (1 ≤ b.left) × (b.next.0 + b.left ≤ size) × BurstsWithin size bs

-- Waiting ---------------------------------------------------------------------------------------

-- how many calls at the most until the slot is empty
abbrev pub slot_due : Numbers → State → Slot → ℕ
slot_due n σ s = parts_due s * (n.wait_bound + 1) - σ.waits

pub record Keeps (n : Numbers) (σ : State) (c : Cut) (s : Slot) (bs : List OwedBurst) (g : Collected) (p : PortRecord) : Type 0 where
  pub fitted : Fitted c n p.numbers
  pub legal : Legal p.numbers (state_above c s bs g p σ)
  pub tallied : p ≡ tally p.numbers (state_above c s bs g p σ)
  pub holding : HoldsPart c s σ.held
  pub lined : LinedUp c n p.numbers s σ.burst p.burst
  -- the host words of the words owed below, and of the parts that have come, are all but those of a read in the slot
  pub requested : List ℕ
  pub queued : offsets_in bs ≡ requested ++ offsets_in_slot s
  pub grouped : length requested * c.parts ≡ g.count + length σ.owed
  pub bursts_within : BurstsWithin p.numbers.words bs
  pub parts_few : g.count < c.parts
  pub value_fits : g.value < 2 ^ (8 * (c.width * g.count))
  -- silence: words are owed below, or only a read in the slot is waited for
  pub heard : 0 < length σ.owed → p.silence + (c.parts - g.count) * (n.silence_bound + 1) ≤ p.numbers.silence_bound + σ.silence
  pub awaited : length σ.owed ≡ 0 → p.silence ≤ σ.waits
  -- waits, the calls until the slot is empty, and, while P' bursts are owed, the calls until one ends
  pub patient : p.waits + slot_due n σ s + calls_due p.numbers.pending_limit p.numbers.silence_bound p.silence (lefts bs) ≤ p.numbers.wait_bound

abbrev pub Kept : Numbers → State → Engine → Type 0
Kept n σ e =
    Keeps n σ e.shape.cut e.slot (bursts_in e.owed) e.collected e.plain
