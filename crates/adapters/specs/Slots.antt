-- The slot of an adapter, by its cases.
use Rattle.std.specs.Prelude.{ℕ, Some, None, Option}
use Rattle.adapters.specs.declared.cut.Task.{Task}
use Rattle.adapters.specs.declared.cut.Task.TheVariants as task
use Rattle.port.specs.declared.addresses.WordOffset.{WordOffset}

abbrev pub Slot : Type 0
Slot = Option Task

pattern abbrev pub Empty : Option Task
Empty = None

-- of a read: the next host word to request, and how many are left
pattern abbrev pub Reading : WordOffset → ℕ → Option Task
Reading h n = Some (task.Read h n)

-- of a beat: the word below to which its next part goes, how many parts are left, its mask and word from there on, and how
-- many beats the host's burst has left, this one counted
pattern abbrev pub Beat : WordOffset → ℕ → ℕ → ℕ → ℕ → Option Task
Beat o p m d n = Some (task.Beat o p m d n)
