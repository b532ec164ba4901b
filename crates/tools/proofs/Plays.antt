-- How the rules of a session's command fit together.
use Rattle.std.proofs.Common.{◌≡◌, ℕ, ◌≤◌, true, false, not, ◌&&◌, Some, None, Ok, Option, refl, ap, arith}
use Rattle.std.proofs.lemmas.Bool.{and_right, eq-eqb, lt-leb, ne_eqb}
use Rattle.port.specs.Legal.{tally}
use Rattle.port.specs.State.{State}
use Rattle.port.specs.declared.addresses.WordOffset.{WordOffset}
use Rattle.port.specs.declared.calls.Command.TheVariants.{Read, Write}
use Rattle.port.specs.declared.calls.OpenBurst.{OpenBurst}
use Rattle.port.specs.declared.numbers.Numbers.{Numbers}
use Rattle.port.specs.declared.record.PortRecord.{PortRecord}
use Rattle.tools.specs.Calls.{Converted, Placed, aligned, host_rule, offset_in, opens}
use Rattle.files.specs.declared.records.CommandFields.{CommandFields}

placed : (w : ℕ) (b : Option OpenBurst) (f : CommandFields) → (b ≡ None → aligned w f.address ≡ true) → (opens b f && not (aligned w f.address)) ≡ false
placed w None f even = and_right (opens None f) (not (aligned w f.address)) (ap not (even refl))
placed w (Some b) f even = refl

host_none : (w : ℕ) (b : Option OpenBurst) (f : CommandFields) → f.flags ≤ 2 → (b ≡ None → aligned w f.address ≡ true) → host_rule w b f ≡ None
host_none w b f small even = rw (lt-leb 3 f.flags (omega arith), placed w b f even)

pub converts_read : (w : ℕ) (b : Option OpenBurst) (f : CommandFields) (o : WordOffset) → f.flags ≡ 1 → Placed w b f.address (Ok o) → Converted w b f (Ok (Read o f.count))
converts_read w b f o one at =
    let offset : o ≡ record { 0 = offset_in w f.address } = ap (λ (a : ℕ). record { 0 = a }) at.0 in (
      host_none w b f (omega arith) at.1,
      rw (ne_eqb f.flags 0 (omega arith), eq-eqb f.flags 1 one) (ap (λ (q : WordOffset). Read q f.count) offset),
    )

pub converts_write : (w : ℕ) (b : Option OpenBurst) (f : CommandFields) (o : WordOffset) → f.flags ≡ 2 → Placed w b f.address (Ok o) → Converted w b f (Ok (Write o f.count f.mask f.bits))
converts_write w b f o two at =
    let offset : o ≡ record { 0 = offset_in w f.address } = ap (λ (a : ℕ). record { 0 = a }) at.0 in (
      host_none w b f (omega arith) at.1,
      rw (ne_eqb f.flags 0 (omega arith), ne_eqb f.flags 1 (omega arith)) (ap (λ (q : WordOffset). Write q f.count f.mask f.bits) offset),
    )

-- the plain record answers as the state
pub burst_told : (n : Numbers) (σ : State) (p : PortRecord) → p ≡ tally n σ → p.burst ≡ σ.burst
burst_told n σ p e = ap (λ (q : PortRecord). q.burst) e
