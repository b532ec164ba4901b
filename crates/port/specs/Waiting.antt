-- How long a read is held back while as many read bursts are owed as may be.
use Rattle.std.specs.Prelude.{ℕ, ◌+◌, ◌-◌, ◌*◌, cond, List, [], ◌∷◌, length, nat_le}

-- the words left of the oldest read burst
abbrev pub oldest : List ℕ → ℕ
oldest [] = 0
oldest (k ∷ later) = k

-- q: how many calls at most until a read burst ends, while P are owed
abbrev pub calls_due : ℕ → ℕ → ℕ → List ℕ → ℕ
calls_due most l s reads = cond (nat_le most (length reads)) (oldest reads * (l + 1) - s) 0
