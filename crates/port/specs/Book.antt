-- The book of a list of calls: the port machine at reset on an image, fed with each clocked call's command and
-- answer. The machine's last rule is not built into it.
use Rattle.std.specs.Prelude.{ℕ, List, [], ◌∷◌}
use Rattle.port.specs.Machine.{moved}
use Rattle.port.specs.State.{State, reset}
use Rattle.port.specs.Answers.{Answer, Clocked, Refused}
use Rattle.port.specs.declared.calls.Command.{Command}

-- a call and its answer
pub record Event : Type 0 where
  pub call : Command
  pub answer : Answer

-- A history is a list of events, the newest first. This is a history after a list of calls got these answers
abbrev pub after_calls : List Command → List Answer → List Event → List Event
after_calls [] bs h = h
after_calls (c ∷ cs) [] h = h
after_calls (c ∷ cs) (b ∷ bs) h = after_calls cs bs (record { call = c; answer = b } ∷ h)

abbrev pub fed : ℕ → State → Command → Answer → State
fed w σ c (Refused r) = σ
fed w σ c (Clocked a x) = moved w σ c a x

unfoldable pub book : ℕ → List ℕ → List Event → State
book w image [] = reset image
book w image (e ∷ h) = fed w (book w image h) e.call e.answer
