-- Worked examples of the rules of adapters, as one theorem over the definitions that the contracts use.
use Rattle.std.specs.Prelude.{◌≡◌, ℕ, List, [], ◌∷◌, Some, None}
use Rattle.adapters.specs.Building.{narrow_cut, narrow_numbers, narrow_refusal, split_cut, wide_cut}
use Rattle.adapters.specs.Cuts.{lanes_up, offset_below, parts_of}
use Rattle.port.specs.State.{reset}
use Rattle.port.specs.declared.calls.Command.TheVariants.{Read, Write}
use Rattle.port.specs.declared.numbers.Numbers.{Numbers}

-- a port with words of w bytes and the burst limit b, A 3 and L 5
abbrev pub sample_port : ℕ → ℕ → Numbers
sample_port w b = record { width = w; words = 64; burst_limit = b; pending_limit = 1; wait_bound = 3; silence_bound = 5 }

pub record Worked : Type 0 where
  -- a narrower of 4 bytes over 1: the read (1, 1) is (4, 4)
  pub narrow_read : parts_of (narrow_cut (sample_port 1 64) 4) 4 (Read (record { 0 = 1 }) 1) ≡ Read (record { 0 = 4 }) 4 ∷ []
  -- a widener of 4 bytes over 8: offset 3 is offset 1, lanes 4 to 7
  pub wide_place : (offset_below (wide_cut (sample_port 8 4) 4) 3 ≡ 1) × (lanes_up (wide_cut (sample_port 8 4) 4) 4 3 ≡ 4)
  -- there, a full write at offset 1 is offset 0, mask 0xF0
  pub wide_write :
      parts_of (wide_cut (sample_port 8 4) 4) 4 (Write (record { 0 = 1 }) 1 0xF 0x11223344) ≡ Write (record { 0 = 0 }) 1 0xF0 0x1122334400000000 ∷ []
  -- a splitter over the burst limit 4: (10, 9) is (10, 4), (14, 4), (18, 1)
  pub split_read :
      parts_of (split_cut (sample_port 4 4)) 4 (Read (record { 0 = 10 }) 9) ≡ Read (record { 0 = 10 }) 4 ∷ (Read (record { 0 = 14 }) 4 ∷ (Read (record { 0 = 18 }) 1 ∷ []))
  -- A 3, L 5, k 4 and B' 16 give L' 28 and A' 720
  pub sums :
      ((narrow_numbers (sample_port 1 64) 4 1).burst_limit ≡ 16) × ((narrow_numbers (sample_port 1 64) 4 1).silence_bound ≡ 28)
      × ((narrow_numbers (sample_port 1 64) 4 1).wait_bound ≡ 720)
  -- a narrower by 4 over B 7 has B' 1; over B 3 it is refused with 3
  pub limits :
      ((narrow_numbers (sample_port 1 7) 4 1).burst_limit ≡ 1) × ((image : List ℕ) → narrow_refusal (sample_port 1 7) (reset image) 4 1 ≡ None)
      × ((image : List ℕ) → narrow_refusal (sample_port 1 3) (reset image) 4 1 ≡ Some 3)
  -- 8 bytes over 4: 0x1122334455667788 with mask 0x81 is 0x55667788 with mask 1, then 0x11223344 with mask 8
  pub narrow_beat :
      parts_of (narrow_cut (sample_port 4 4) 8) 8 (Write (record { 0 = 0 }) 1 0x81 0x1122334455667788)
      ≡ Write (record { 0 = 0 }) 2 1 0x55667788 ∷ (Write (record { 0 = 1 }) 2 8 0x11223344 ∷ [])
