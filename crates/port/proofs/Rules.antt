-- What a command that is not refused is known to keep.
use Rattle.std.proofs.Common.{◌≡◌, ℕ, ◌+◌, ◌≤◌, true, Some, None, Option, refl, arith}
use Rattle.std.proofs.lemmas.Bool.Decides.{nat_tests}
use Rattle.std.proofs.lemmas.Bool.{eq-eqb}
use Rattle.port.specs.Machine.{first_of, opening_rule, repeats}
use Rattle.port.specs.declared.calls.Command.{Command}
use Rattle.port.specs.declared.calls.Command.TheVariants.{Idle, Read, Write}
use Rattle.port.specs.declared.calls.OpenBurst.{OpenBurst}
use Rattle.port.specs.declared.numbers.Numbers.{Numbers}

pub first_later : (x y : Option ℕ) → first_of x y ≡ None → y ≡ None
first_later None y e = e
first_later (Some n) y e = cc

pub first_sooner : (x y : Option ℕ) → first_of x y ≡ None → x ≡ None
first_sooner None y e = refl
first_sooner (Some n) y e = e

pub opening_fits : (n : Numbers) (o k : ℕ) → opening_rule n o k ≡ None → (1 ≤ k) × (k ≤ n.burst_limit) × (o + k ≤ n.words)
opening_fits n o k e = grind (arith, nat_tests)

-- a command that is not refused may be held: it repeats itself
pub repeats_itself : (b : Option OpenBurst) (c : Command) → (c ≡ Idle → ⊥) → repeats b c c ≡ true
repeats_itself b Idle no-idle = absurd (no-idle refl)
repeats_itself b (Read o k) no-idle = rw (eq-eqb o.0 o.0 refl, eq-eqb k k refl)
repeats_itself None (Write o k m d) no-idle = rw (eq-eqb o.0 o.0 refl, eq-eqb k k refl, eq-eqb m m refl, eq-eqb d d refl)
repeats_itself (Some b) (Write o k m d) no-idle = rw (eq-eqb m m refl, eq-eqb d d refl)
