-- What a queue holds, and what each of its calls leaves.
use Rattle.std.specs.Prelude.{◌≡◌, ℕ, ◌<◌, List, [], ◌∷◌, ◌++◌, length, Some, None, Ok, Err, Option, Result}
use Rattle.agents.specs.Items.{around, with_first}
use Rattle.agents.specs.declared.queue.Ring.{Ring}
use Rattle.port.specs.Refusals.{number_of}
use Rattle.port.specs.declared.calls.Refusal.{Refusal}

-- what a queue holds, first to last
abbrev pub items : {X : Type 0} → Ring X → List X
items r = around r.slots.now r.head r.count

-- how many items its storage takes
abbrev pub room : {X : Type 0} → Ring X → ℕ
room r = length r.slots.now

-- a put adds one item at the end; a full queue refuses it with number 10, and stays as it was
abbrev pub Put : {X : Type 0} → X → Ring X → Ring X → Result (Unit {0}) Refusal → Type 0
Put x was is (Ok _) = (length (items was) < room was) × (items is ≡ items was ++ (x ∷ [])) × (room is ≡ room was)
Put x was is (Err e) = (number_of e ≡ 10) × (length (items was) ≡ room was) × (is ≡ was)

-- a take removes the first item; an empty queue stays as it was
abbrev pub Taken : {X : Type 0} → Ring X → Ring X → Option X → Type 0
Taken was is (Some x) = (items was ≡ x ∷ items is) × (room is ≡ room was)
Taken was is None = (items was ≡ []) × (is ≡ was)

-- another first item, if there was one
abbrev pub Replaced : {X : Type 0} → X → Ring X → Ring X → Type 0
Replaced x was is = (items is ≡ with_first x (items was)) × (room is ≡ room was)
