-- The law over the commands of a session that are put to a port.
use Rattle.std.specs.Prelude.{◌≡◌, ℕ, zero, suc, ◌*◌, List, [], ◌∷◌, ◌++◌, count_by, Some, None}
use Rattle.port.specs.Book.{Event, book}
use Rattle.port.specs.Refusals.{number_of}
use Rattle.port.specs.Runs.{Served, was_taken}
use Rattle.port.specs.State.{State}
use Rattle.port.specs.Answers.{Answer, Clocked, Refused}
use Rattle.port.specs.declared.numbers.Numbers.{Numbers}
use Rattle.files.specs.Bytes.{bytes_at}
use Rattle.tools.specs.Calls.{command_in, session_refusal}
use Rattle.files.specs.Fields.{command_record}
use Rattle.files.specs.declared.records.CommandFields.{CommandFields}

-- the first n commands of a section of commands
abbrev pub commands_in : List ℕ → ℕ → List CommandFields
commands_in xs zero = []
commands_in xs (suc i) = commands_in xs i ++ (command_record (bytes_at xs (16 * i) 16) ∷ [])

-- a history after a command got its answer: a refused one is not put to the port, or leaves it as it was
abbrev pub after_command : ℕ → CommandFields → Answer → List Event → List Event
after_command w f (Refused r) h = h
after_command w f (Clocked a x) h = record { call = command_in w f; answer = Clocked a x } ∷ h

-- a history after a list of commands got these answers
abbrev pub after_commands : ℕ → List CommandFields → List Answer → List Event → List Event
after_commands w [] bs h = h
after_commands w (f ∷ fs) [] h = h
after_commands w (f ∷ fs) (b ∷ bs) h = after_commands w fs bs (after_command w f b h)

-- a command is refused exactly for the rules' reasons, with their number
abbrev pub Rightly : Numbers → State → CommandFields → Answer → Type 0
Rightly n σ f (Refused r) = session_refusal n σ f ≡ Some (number_of r)
Rightly n σ f (Clocked a x) = session_refusal n σ f ≡ None

-- each command of a list, in the state of the book at its turn
abbrev pub AllRightly : Numbers → List ℕ → List CommandFields → List Answer → List Event → Type 0
AllRightly n image [] bs h = Unit {0}
AllRightly n image (f ∷ fs) [] h = ⊥
AllRightly n image (f ∷ fs) (b ∷ bs) h =
    Rightly n (book n.width image h) f b × AllRightly n image fs bs (after_command n.width f b h)

-- Commands of a session from a state, with their answers, to a state. Whatever the start image and the earlier history
-- whose book is the first state: the history with the clocked calls added is served, its book is the last state, and
-- every command is refused exactly for the rules' reasons
abbrev pub SessionRan : Numbers → State → List CommandFields → List Answer → State → Type 0
SessionRan n σ fs bs τ =
    (image : List ℕ) (earlier : List Event) → book n.width image earlier ≡ σ → Served n image earlier →
    Served n image (after_commands n.width fs bs earlier) × (book n.width image (after_commands n.width fs bs earlier) ≡ τ)
    × AllRightly n image fs bs earlier

-- how many commands were taken, each beat counted
abbrev pub takes_in : List Answer → ℕ
takes_in bs = count_by was_taken bs
