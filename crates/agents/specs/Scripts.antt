-- Scripts of delays.
use Rattle.std.specs.Prelude.{ℕ, ◌+◌, ◌<◌, max, cond, List, [], ◌∷◌, length, nat_lt, slice_index}
use Rattle.agents.specs.declared.script.Script.{Script}

-- the greatest of a list, 0 of none
abbrev pub greatest_of : List ℕ → ℕ
greatest_of [] = 0
greatest_of (x ∷ later) = max x (greatest_of later)

-- the place after a place in a script of so many values: the first after the last
abbrev pub next_place : ℕ → ℕ → ℕ
next_place size place = cond (nat_lt (place + 1) size) (place + 1) 0

-- the values of a script
abbrev pub listed : Script → List ℕ
listed s = s.values.now

-- where a script stands
abbrev pub place_of : Script → ℕ
place_of s = s.at

-- the value that counts now
abbrev pub value_now : Script → ℕ
value_now s = slice_index (listed s) (place_of s)

-- a script stands at one of its values
abbrev pub InPlace : Script → Type 0
InPlace s = place_of s < length (listed s)
