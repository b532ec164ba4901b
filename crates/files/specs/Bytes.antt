-- Bytes of a file: stretches, and numbers low byte first.
use Rattle.std.specs.Prelude.{ℕ, zero, suc, ◌+◌, ◌*◌, List, take, drop, slice_index}

-- the n bytes from a place on
abbrev pub bytes_at : List ℕ → ℕ → ℕ → List ℕ
bytes_at xs from n = take n (drop from xs)

-- the number that the n bytes from a place on hold, low byte first
abbrev pub number_at : List ℕ → ℕ → ℕ → ℕ
number_at xs from zero = 0
number_at xs from (suc n) = slice_index xs from + 256 * number_at xs (from + 1) n
