-- What every port keeps has at most one proof, so a make of port can carry it in a ghost field, and so has a clocked call.
use Rattle.std.proofs.Common.{ℕ, List, [], ◌∷◌, Some, None, Option, ◌⊎◌, inl, inr, ap, arith}
use Rattle.std.specs.Coded.{Unit-prop}
use Rattle.std.proofs.Props.{props}
use Rattle.port.specs.Legal.{HeldLegal, Legal, OpenWithin, ReadsWithin}
use Rattle.port.specs.Machine.{Answers, Clocks, First}
use Rattle.port.specs.State.{State}
use Rattle.port.specs.Widths.{Wide}
use Rattle.port.specs.declared.calls.Command.{Command}
use Rattle.port.specs.declared.calls.Command.TheVariants.{Idle, Read, Write}
use Rattle.port.specs.declared.calls.OpenBurst.{OpenBurst}
use Rattle.port.specs.declared.calls.Reply.{Reply}
use Rattle.port.specs.declared.calls.Reply.TheVariants as reply
use Rattle.port.specs.declared.numbers.Numbers.{Numbers}

-- one of two facts that exclude one another
either_prop : {A B : Type 0} → IsProp A → IsProp B → (A → B → ⊥) → IsProp (A ⊎ B)
either_prop p q apart (inl a) (inl b) = ap inl (p a b)
either_prop p q apart (inl a) (inr b) = absurd (apart a b)
either_prop p q apart (inr a) (inl b) = absurd (apart b a)
either_prop p q apart (inr a) (inr b) = ap inr (q a b)

wide_prop : (w : ℕ) → IsProp (Wide w)
wide_prop w =
    either_prop (Prim.hlevel props) (either_prop (Prim.hlevel props) (either_prop (Prim.hlevel props) (Prim.hlevel props) (λ a b. omega arith)) (λ a b. elim b [ inl e ↦ omega arith | inr e ↦ omega arith ]))
    (λ a b. elim b [ inl e ↦ omega arith | inr later ↦ elim later [ inl e ↦ omega arith | inr e ↦ omega arith ] ])

open_prop : (n : Numbers) (b : Option OpenBurst) → IsProp (OpenWithin n b)
open_prop n None = Unit-prop
open_prop n (Some b) = Prim.hlevel props

held_prop : (n : Numbers) (b : Option OpenBurst) (waits : ℕ) (h : Option Command) → IsProp (HeldLegal n b waits h)
held_prop n b waits None = Prim.hlevel props
held_prop n b waits (Some c) = Prim.hlevel props

reads_prop : (most : ℕ) (reads : List ℕ) → IsProp (ReadsWithin most reads)
reads_prop most [] = Unit-prop
reads_prop most (k ∷ later) = Prim.hlevel (props, reads_prop most later)

pub legal_prop : (n : Numbers) (σ : State) → IsProp (Legal n σ)
legal_prop n σ = Prim.hlevel (props, wide_prop n.width, open_prop n σ.burst, held_prop n σ.burst σ.waits σ.held, reads_prop n.burst_limit σ.reads)

answers_prop : (c : Command) (a : Reply) → IsProp (Answers c a)
answers_prop Idle reply.Idle = Unit-prop
answers_prop Idle reply.Wait = Prim.hlevel props
answers_prop Idle reply.Take = Prim.hlevel props
answers_prop (Read o k) reply.Idle = Prim.hlevel props
answers_prop (Read o k) reply.Wait = Unit-prop
answers_prop (Read o k) reply.Take = Unit-prop
answers_prop (Write o k m d) reply.Idle = Prim.hlevel props
answers_prop (Write o k m d) reply.Wait = Unit-prop
answers_prop (Write o k m d) reply.Take = Unit-prop

first_prop : (x : Option ℕ) (owed : List ℕ) → IsProp (First x owed)
first_prop None owed = Unit-prop
first_prop (Some x) [] = Prim.hlevel props
first_prop (Some x) (y ∷ owed) = Prim.hlevel props

pub clocks_prop : (n : Numbers) (σ : State) (c : Command) (a : Reply) (x : Option ℕ) (τ : State) → IsProp (Clocks n σ c a x τ)
clocks_prop n σ c a x τ = Prim.hlevel (props, answers_prop c a, first_prop x σ.owed)
