-- How the commands of a host are cut into parts, the commands for the port below. A host word has v bytes. Memory above is
-- the memory below, byte address for byte address.
use Rattle.std.specs.Prelude.{ℕ, zero, suc, ◌+◌, ◌-◌, ◌*◌, ◌/◌, ◌%◌, ◌^◌, ◌<◌, ◌≤◌, Bool, true, false, cond, List, [], ◌∷◌, Some, None, Option, nat_lt}
use Rattle.adapters.specs.declared.cut.Cut.{Cut}
use Rattle.adapters.specs.Slots.{Empty, Reading, Beat, Slot}
use Rattle.port.specs.Machine.{beat_offset}
use Rattle.port.specs.declared.calls.Command.{Command}
use Rattle.port.specs.declared.calls.Command.TheVariants.{Idle, Read, Write}
use Rattle.port.specs.declared.calls.OpenBurst.{OpenBurst}

-- the word below in which the host word at h begins: h k of a narrower, h / f of a widener
abbrev pub offset_below : Cut → ℕ → ℕ
offset_below c h = h * c.parts / c.share

-- by how many lanes a host word stands above the first lane of that word: (h mod f) v
abbrev pub lanes_up : Cut → ℕ → ℕ → ℕ
lanes_up c v h = h % c.share * v

-- of n host words, how many go into the next burst below: a burst is cut from its start, the last holds the rest
abbrev pub in_one_burst : Cut → ℕ → ℕ
in_one_burst c n = cond (nat_lt c.most n) c.most n

-- the next part of a slot. A part of a beat opens a burst below where none is open; else its offset and count are ignored
abbrev pub next_part : Cut → Slot → Command
next_part c Empty = Idle
next_part c (Reading h n) = Read (record { 0 = offset_below c h.0 }) (in_one_burst c n * c.parts)
next_part c (Beat o p m d n) = Write o (in_one_burst c n * c.parts) (m % 2 ^ c.width) (d % 2 ^ (8 * c.width))

-- a slot when its next part is taken: a beat's parts go lowest lanes first
abbrev pub after_part : Cut → Slot → Slot
after_part c Empty = Empty
after_part c (Reading h n) = cond (nat_lt c.most n) (Reading (record { 0 = h.0 + c.most }) (n - c.most)) Empty
after_part c (Beat o p m d n) =
    cond (nat_lt 1 p) (Beat (record { 0 = o.0 + 1 }) (p - 1) (m / 2 ^ c.width) (d / 2 ^ (8 * c.width)) n) Empty

-- how many beats a write has left with this one: its count, or those of the open burst
abbrev pub beats_left : Option OpenBurst → ℕ → ℕ
beats_left None n = n
beats_left (Some b) n = b.left

-- the slot of a beat to the host word at h, of which n are left: its lanes are moved up to where they stand below
abbrev pub beat_slot : Cut → ℕ → ℕ → ℕ → ℕ → ℕ → Slot
beat_slot c v h n m d = Beat (record { 0 = offset_below c h }) c.parts (m * 2 ^ lanes_up c v h) (d * 2 ^ (8 * lanes_up c v h)) n

-- the slot that a taken command fills, while this write burst is open above
abbrev pub slot_for : Cut → ℕ → Option OpenBurst → Command → Slot
slot_for c v b Idle = Empty
slot_for c v b (Read o n) = Reading o n
slot_for c v b (Write o n m d) = beat_slot c v (beat_offset b o.0) (beats_left b n) m d

abbrev pub is_free : Slot → Bool
is_free Empty = true
is_free (Reading h n) = false
is_free (Beat o p m d n) = false

-- how many parts a slot has, at the most: a read has no more than words to request
abbrev pub parts_due : Slot → ℕ
parts_due Empty = 0
parts_due (Reading h n) = n
parts_due (Beat o p m d n) = p

-- the first i parts of a slot, in order
abbrev pub parts_in : ℕ → Cut → Slot → List Command
parts_in zero c s = []
parts_in (suc i) c Empty = []
parts_in (suc i) c (Reading h n) = next_part c (Reading h n) ∷ parts_in i c (after_part c (Reading h n))
parts_in (suc i) c (Beat o p m d n) = next_part c (Beat o p m d n) ∷ parts_in i c (after_part c (Beat o p m d n))

-- the parts of a command of a host with words of v bytes, while no burst is open above
abbrev pub parts_of : Cut → ℕ → Command → List Command
parts_of c v command = parts_in (parts_due (slot_for c v None command)) c (slot_for c v None command)

-- What the code asks of its sums ---------------------------------------------------------

abbrev pub Placed : Cut → Slot → Type 0
Placed c Empty = Unit {0}
Placed c (Reading h n) = h.0 ≤ 32768
Placed c (Beat o p m d n) = (o.0 ≤ 262144) × (p ≤ c.parts)

abbrev pub Loadable : ℕ → Option OpenBurst → Command → Type 0
Loadable v b Idle = Unit {0}
Loadable v b (Read o n) = Unit {0}
Loadable v b (Write o n m d) = (beat_offset b o.0 ≤ 32768) × (m < 2 ^ v) × (d < 2 ^ (8 * v))
