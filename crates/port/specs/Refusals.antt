-- The number of each refusal.
use Rattle.std.specs.Prelude.{◌≡◌, ℕ, Some, None, Ok, Err, Option, Result}
use Rattle.port.specs.declared.calls.Refusal.{Refusal}
use Rattle.port.specs.declared.calls.Refusal.TheVariants.{OutOfRange, PortBelow, Bound, Count, PastEnd, Misaligned, Lanes, ReadAndWrite, NoPlace, Held, InBurst}

abbrev pub number_of : Refusal → ℕ
number_of OutOfRange = 2
number_of PortBelow = 3
number_of Bound = 4
number_of Count = 5
number_of PastEnd = 6
number_of Misaligned = 7
number_of Lanes = 8
number_of ReadAndWrite = 9
number_of NoPlace = 10
number_of Held = 11
number_of InBurst = 12

-- a check passes where no rule is broken, and fails with the number of the first that is
abbrev pub Checked : Result (Unit {0}) Refusal → Option ℕ → Type 0
Checked (Ok _) n = n ≡ None
Checked (Err r) n = n ≡ Some (number_of r)
