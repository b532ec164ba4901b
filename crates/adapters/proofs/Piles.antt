-- The law over lists, for a pile that is run from reset on.
use Rattle.std.proofs.Common.{◌≡◌, ℕ, ◌<◌, ltb, List, [], Some, None, Option, sym, ap, subst}
use Rattle.std.proofs.lemmas.Bool.{lt-ltb}
use Rattle.port.specs.Book.{after_calls, book}
use Rattle.port.specs.Machine.{broken, first_of}
use Rattle.port.specs.Runs.{Ran, Served}
use Rattle.port.specs.State.{State, reset}
use Rattle.port.specs.Answers.{Answer}
use Rattle.port.specs.declared.calls.Command.{Command}
use Rattle.port.specs.declared.numbers.Numbers.{Numbers}

-- a run from reset on has no earlier history
pub from_reset : (n m : Numbers) (σ τ : State) (image : List ℕ) (calls : List Command) (answers : List Answer) → n ≡ m → σ ≡ reset image → Ran n σ calls answers τ →
    Served m image (after_calls calls answers []) × (book m.width image (after_calls calls answers []) ≡ τ)
unfolding book Served
from_reset n m σ τ image calls answers same start ran =
    subst (λ (k : Numbers). Served k image (after_calls calls answers []) × (book k.width image (after_calls calls answers []) ≡ τ)) same (ran image [] (sym start) tt)

-- too few places
pub too_few : (built : Option ℕ) (places count number : ℕ) → built ≡ None → places < count → number ≡ 10 → first_of built (broken (ltb places count) 10) ≡ Some number
too_few built places count number none few ten = rw (none, lt-ltb places count few) (ap (λ i. Some i) (sym ten))
