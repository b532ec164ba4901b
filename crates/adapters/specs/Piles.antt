-- A narrower over a splitter over a widener over any port: its numbers, and when it is refused.
use Rattle.std.specs.Prelude.{ℕ, Option}
use Rattle.adapters.specs.Building.{narrow_numbers, narrow_refusal, split_numbers, split_refusal, wide_numbers, wide_refusal}
use Rattle.adapters.specs.declared.pile.PileLimits.{PileLimits}
use Rattle.port.specs.Machine.{first_of}
use Rattle.port.specs.State.{State, reset}
use Rattle.port.specs.declared.numbers.Numbers.{Numbers}

-- the numbers of the widener, of the splitter over it and of the narrower on top; u and v are the bytes of their words
abbrev pub numbers_low : Numbers → ℕ → PileLimits → Numbers
numbers_low n u l = wide_numbers n u l.widener.burst l.widener.pending

abbrev pub numbers_middle : Numbers → ℕ → PileLimits → Numbers
numbers_middle n u l = split_numbers (numbers_low n u l) u l.splitter.burst l.splitter.pending

abbrev pub numbers_top : Numbers → ℕ → ℕ → PileLimits → Numbers
numbers_top n u v l = narrow_numbers (numbers_middle n u l) v l.narrower_pending

-- the first refusal, from the bottom up; each adapter stands over one at reset
abbrev pub pile_refusal : Numbers → State → ℕ → ℕ → PileLimits → Option ℕ
pile_refusal n σ u v l =
    first_of (wide_refusal n σ u l.widener.burst l.widener.pending)
    (first_of (split_refusal (numbers_low n u l) (reset σ.memory) u l.splitter.burst l.splitter.pending)
    (narrow_refusal (numbers_middle n u l) (reset σ.memory) v l.narrower_pending))
