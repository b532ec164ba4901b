-- Lanes: how the bytes of a memory stand in words.
use Rattle.std.specs.Prelude.{ℕ, zero, suc, ◌+◌, ◌*◌, ◌/◌, ◌%◌, ◌^◌, Bool, cond, List, [], ◌∷◌, ◌==◌, slice_index, slice_set}

-- lane i of a word is its bits 8i to 8i + 7
abbrev pub lane : ℕ → ℕ → ℕ
lane word i = word / 2 ^ (8 * i) % 256

-- bit i of a mask enables lane i
abbrev pub enabled : ℕ → ℕ → Bool
enabled mask i = mask / 2 ^ i % 2 == 1

-- what a memory holds at each byte address
abbrev pub byte_in : List ℕ → ℕ → ℕ
byte_in memory address = slice_index memory address

-- the word whose lanes, lowest first, are the n bytes from an address on
unfoldable pub joined_bytes : (ℕ → ℕ) → ℕ → ℕ → ℕ
joined_bytes byte address zero = 0
joined_bytes byte address (suc n) = byte address + 256 * joined_bytes byte (address + 1) n

-- the word at an offset: lane i holds byte offset * w + i
abbrev pub word_at : ℕ → (ℕ → ℕ) → ℕ → ℕ
word_at w byte offset = joined_bytes byte (offset * w) w

-- count words from an offset on
unfoldable pub words_at : ℕ → (ℕ → ℕ) → ℕ → ℕ → List ℕ
words_at w byte offset zero = []
words_at w byte offset (suc n) = word_at w byte offset ∷ words_at w byte (offset + 1) n

-- a memory after the first n lanes of a word are stored from an address on, where the mask enables them
unfoldable pub lanes_stored : ℕ → ℕ → ℕ → ℕ → List ℕ → List ℕ
lanes_stored address mask word zero memory = memory
lanes_stored address mask word (suc i) memory =
    cond (enabled mask i) (slice_set (lanes_stored address mask word i memory) (address + i) (lane word i)) (lanes_stored address mask word i memory)

-- a memory after the enabled lanes of a word are stored at an offset
abbrev pub stored : ℕ → ℕ → ℕ → ℕ → List ℕ → List ℕ
stored w offset mask word memory = lanes_stored (offset * w) mask word w memory
