-- The items of a queue in storage that they go round.
use Rattle.std.specs.Prelude.{ℕ, ◌+◌, ◌-◌, cond, List, [], ◌∷◌, ◌++◌, take, drop, Some, None, Option, nat_lt}

-- the first n items of the storage, read from a place on and round to the front
unfoldable pub around : {X : Type 0} → List X → ℕ → ℕ → List X
around storage from n = take n (drop from storage ++ take from storage)

-- where the first item stands
abbrev pub start_of : ℕ → ℕ → ℕ
start_of size from = cond (nat_lt from size) from 0

-- where the next item goes
abbrev pub end_of : ℕ → ℕ → ℕ → ℕ
end_of size from n = cond (nat_lt n (size - from)) (from + n) (n - (size - from))

abbrev pub first_item : {X : Type 0} → List X → Option X
first_item [] = None
first_item (x ∷ later) = Some x

-- a list with another first item
abbrev pub with_first : {X : Type 0} → X → List X → List X
with_first x [] = []
with_first x (y ∷ later) = x ∷ later
