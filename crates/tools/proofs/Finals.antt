-- What a session's run on a port at reset comes to.
use Rattle.std.proofs.Common.{◌≡◌, ℕ, List, [], length, take, sym, ap, ◌∙◌}
use Rattle.port.specs.Book.{book}
use Rattle.port.specs.Legal.{tally}
use Rattle.port.specs.Runs.{Served}
use Rattle.port.specs.State.{State, reset}
use Rattle.port.specs.Answers.{Answer}
use Rattle.port.specs.declared.numbers.Numbers.{Numbers}
use Rattle.port.specs.declared.record.PortRecord.{PortRecord}
use Rattle.tools.specs.Piles.{Plays, count_of}
use Rattle.tools.specs.Plays.{SessionRan, commands_in, takes_in}

pub plays : (n : Numbers) (image : List ℕ) (xs : List ℕ) (bs : List Answer) (σ τ : State) (first last : PortRecord) (m : Numbers) (count : ℕ) → σ ≡ reset image →
    SessionRan n σ (commands_in xs (count_of xs)) bs τ → first ≡ tally n σ → last ≡ tally m τ → count ≡ takes_in (take (count_of xs) bs) →
    Plays n image xs bs (record { top = first.numbers; taken = count; owed = last.words_owed })
unfolding book Served
plays n image xs bs σ τ first last m count at-reset ran opening closing counted =
    let law = ran image [] (sym at-reset) tt in
    record {
      served = law.0;
      rightly = law.2;
      top = ap (λ (p : PortRecord). p.numbers) opening;
      taken = counted;
      owed = ap (λ (p : PortRecord). p.words_owed) closing ∙ ap (λ (ρ : State). length ρ.owed) (sym law.1);
    }
