-- The rules of parts, kind by kind: what `parts_of` gives for every read and every opening beat.
use Rattle.std.specs.Prelude.{◌≡◌, ℕ, zero, suc, ◌+◌, ◌*◌, ◌/◌, ◌%◌, ◌^◌, ◌<◌, ◌≤◌, List, [], ◌∷◌, ◌++◌}
use Rattle.adapters.specs.Building.{narrow_cut, narrow_parts, split_cut, wide_cut, wide_share}
use Rattle.adapters.specs.Cuts.{in_one_burst, parts_of}
use Rattle.port.specs.declared.calls.Command.{Command}
use Rattle.port.specs.declared.calls.Command.TheVariants.{Read, Write}
use Rattle.port.specs.declared.numbers.Numbers.{Numbers}

abbrev pub reads : ℕ → ℕ → Command
reads o n = Read (record { 0 = o }) n

abbrev pub writes : ℕ → ℕ → ℕ → ℕ → Command
writes o n m d = Write (record { 0 = o }) n m d

-- i bursts of b words from o on
abbrev pub full_bursts : ℕ → ℕ → ℕ → List Command
full_bursts b o zero = []
full_bursts b o (suc i) = reads o b ∷ full_bursts b (o + b) i

-- a burst of 1 for each of n host words from h on, f of which share a word below
abbrev pub single_words : ℕ → ℕ → ℕ → List Command
single_words f h zero = []
single_words f h (suc n) = reads (h / f) 1 ∷ single_words f (h + 1) n

-- part i of a beat that opens (o, n) below, in words of w bytes: lanes i w to i w + w - 1
abbrev pub lanes_part : ℕ → ℕ → ℕ → ℕ → ℕ → ℕ → Command
lanes_part w o n m d i = writes (o + i) n (m / 2 ^ (i * w) % 2 ^ w) (d / 2 ^ (8 * (i * w)) % 2 ^ (8 * w))

-- k parts of it, from part i on
abbrev pub lanes_parts : ℕ → ℕ → ℕ → ℕ → ℕ → ℕ → ℕ → List Command
lanes_parts w o n m d i zero = []
lanes_parts w o n m d i (suc k) = lanes_part w o n m d i ∷ lanes_parts w o n m d (i + 1) k

pub record PartsRules : Type 0 where
  -- narrower: a read (o, c) is the one read (o k, c k)
  pub narrow_read : (n : Numbers) (v o c : ℕ) → 1 ≤ c → c ≤ n.burst_limit / narrow_parts n v →
      parts_of (narrow_cut n v) v (reads o c) ≡ reads (o * narrow_parts n v) (c * narrow_parts n v) ∷ []
  -- narrower: a beat is k parts, lowest lanes first, the first opening (o k, c k)
  pub narrow_beat : (n : Numbers) (v o c m d : ℕ) → 1 ≤ c → c ≤ n.burst_limit / narrow_parts n v →
      parts_of (narrow_cut n v) v (writes o c m d) ≡ lanes_parts n.width (o * narrow_parts n v) (c * narrow_parts n v) m d 0 (narrow_parts n v)
  -- splitter: a burst is cut from its start into bursts of B, the last holding the rest
  pub split_read : (n : Numbers) (v o i rest : ℕ) → 1 ≤ rest → rest ≤ n.burst_limit →
      parts_of (split_cut n) v (reads o (i * n.burst_limit + rest)) ≡ full_bursts n.burst_limit o i ++ (reads (o + i * n.burst_limit) rest ∷ [])
  -- splitter: a beat is one part, which opens the first of these bursts
  pub split_beat : (n : Numbers) (o c m d : ℕ) → m < 2 ^ n.width → d < 2 ^ (8 * n.width) →
      parts_of (split_cut n) n.width (writes o c m d) ≡ writes o (in_one_burst (split_cut n) c) m d ∷ []
  -- widener: each word of a read is a burst of 1 at o / f
  pub wide_read : (n : Numbers) (v o c : ℕ) → parts_of (wide_cut n v) v (reads o c) ≡ single_words (wide_share n v) o c
  -- widener: a beat is a burst of 1 at o / f, its lanes moved up by (o mod f) v
  pub wide_beat : (n : Numbers) (v o c m d : ℕ) → 1 ≤ c → 1 ≤ wide_share n v → wide_share n v * v ≡ n.width → m < 2 ^ v → d < 2 ^ (8 * v) →
      parts_of (wide_cut n v) v (writes o c m d) ≡ writes (o / wide_share n v) 1 (m * 2 ^ (o % wide_share n v * v)) (d * 2 ^ (8 * (o % wide_share n v * v))) ∷ []
