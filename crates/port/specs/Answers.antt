-- The answers to a clock call, by their cases.
use Rattle.std.specs.Prelude.{ℕ, Ok, Err, Option, Result}
use Rattle.port.specs.declared.calls.Refusal.{Refusal}
use Rattle.port.specs.declared.calls.Reply.{Reply}

abbrev pub Answer : Type 0
Answer = Result (Reply × Option ℕ) Refusal

pattern abbrev pub Refused : Refusal → Result (Reply × Option ℕ) Refusal
Refused r = Err r

-- clocked: idle, wait or take, with one word or none
pattern abbrev pub Clocked : Reply → Option ℕ → Result (Reply × Option ℕ) Refusal
Clocked a x = Ok (a, x)
