-- The widths of a word.
use Rattle.std.specs.Prelude.{◌≡◌, ℕ, ◌⊎◌}

-- a word has 1, 2, 4 or 8 bytes
abbrev pub Wide : ℕ → Type 0
Wide w = (w ≡ 1) ⊎ ((w ≡ 2) ⊎ ((w ≡ 4) ⊎ (w ≡ 8)))
