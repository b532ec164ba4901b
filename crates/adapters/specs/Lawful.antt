-- What an adapter's record and its state are known to keep. The type says that all of it is kept; `kept_known` gives it.
use Rattle.std.specs.Prelude.{◌≡◌}
use Rattle.adapters.specs.Whole.{kept_known}
use Rattle.adapters.specs.Above.{above}
use Rattle.adapters.specs.Kept.{Kept}
use Rattle.adapters.specs.declared.adapter.Engine.{Engine}
use Rattle.port.specs.Legal.{Legal, tally}
use Rattle.port.specs.State.{State}
use Rattle.port.specs.declared.numbers.Numbers.{Numbers}

pub legal_kept : (n : Numbers) (σ : State) (e : Engine) → ∥ Kept n σ e ∥₁ → Legal e.plain.numbers (above e σ)
legal_kept n σ e kept = (kept_known n σ e kept).legal

pub tallied_kept : (n : Numbers) (σ : State) (e : Engine) → ∥ Kept n σ e ∥₁ → e.plain ≡ tally e.plain.numbers (above e σ)
tallied_kept n σ e kept = (kept_known n σ e kept).tallied
