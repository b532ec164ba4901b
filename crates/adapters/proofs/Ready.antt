-- What an adapter keeps is what its code asks.
use Rattle.std.proofs.Common.{◌≡◌, ℕ, ◌+◌, ◌*◌, ◌^◌, ◌<◌, ◌≤◌, List, [], ◌∷◌, length, get_or, Some, None, Option, sym, ap, ◌∙◌, subst, inl, inr, zero-mul, mul-one, mul-add, arith}
use Rattle.std.proofs.lemmas.Nat.{mul-le}
use Rattle.std.proofs.lemmas.List.{length-append, length-map}
use Rattle.std.proofs.lemmas.Bool.{cases_lt}
use Rattle.port.specs.Legal.{Legal, OpenWithin}
use Rattle.port.specs.Machine.{First, command_rule, lanes_rule, opening_rule}
use Rattle.port.specs.State.{State}
use Rattle.port.specs.declared.calls.Command.{Command}
use Rattle.port.specs.declared.calls.Command.TheVariants.{Idle, Read, Write}
use Rattle.port.specs.declared.calls.OpenBurst.{OpenBurst}
use Rattle.port.specs.declared.numbers.Numbers.{Numbers}
use Rattle.port.specs.declared.record.PortRecord.{PortRecord}
use Rattle.port.proofs.Rules.{first_sooner, opening_fits}
use Rattle.port.proofs.Tally.{words_below}
use Rattle.adapters.specs.Cuts.{Loadable, Placed}
use Rattle.adapters.specs.Engine.{Due, Workable}
use Rattle.adapters.specs.Kept.{BurstsWithin, Kept, LinedUp, offsets_in_slot}
use Rattle.adapters.specs.Owed.{bursts_in, next_owed, offsets_in}
use Rattle.adapters.specs.declared.adapter.Engine.{Engine}
use Rattle.adapters.specs.declared.cut.Cut.{Cut}
use Rattle.adapters.specs.Whole.{kept_known}
use Rattle.adapters.specs.Slots.{Empty, Reading, Beat, Slot}
use Rattle.adapters.specs.declared.owed.OwedBurst.{OwedBurst}
use Rattle.adapters.proofs.Replies.{LanesFit, write_fits}

pub placed : (c : Cut) (n n' : Numbers) (s : Slot) (b b' : Option OpenBurst) → n.words ≤ 32768 → n'.words ≤ 32768 → LinedUp c n n' s b b' → Placed c s
placed c n n' Empty b b' below-few above-few lined = tt
placed c n n' (Reading h k) b b' below-few above-few lined = omega (arith, lined.4)
placed c n n' (Beat o p m d k) b b' below-few above-few lined = (omega (arith, lined.inside), lined.few)

near : (size : ℕ) (bs : List OwedBurst) → size ≤ 32768 → BurstsWithin size bs → next_owed bs ≤ 32768
near size [] few within = omega arith
near size (b ∷ bs) few within = omega (arith, within.1)

-- w (g + 1) ≤ w k
parts_fit : (w g k : ℕ) → g < k → w * k ≤ 8 → w * g + w ≤ 8
parts_fit w g k lt few = let h = mul-le w (g + 1) w k (omega arith) (omega arith) in omega (arith, mul-add w g 1, mul-one w)

pub workable : (n : Numbers) (σ : State) (e : Engine) → Legal n σ → e.shape.width ≡ e.plain.numbers.width → Kept n σ e → Workable e
workable n σ e legal same kept =
    let k = kept in
    let f = k.fitted in
    let n' = e.plain.numbers in
    let few = words_below n' k.legal.ranges in
    record {
      wide = same;
      placed = placed e.shape.cut n n' e.slot σ.burst e.plain.burst (words_below n legal.ranges) few k.lined;
      pending = k.legal.ranges.pending_few;
      tallied = ap (λ (p : PortRecord). p.bursts_owed) k.tallied ∙ length-map (bursts_in e.owed) (λ b. b.left);
      near = near n'.words (bursts_in e.owed) few k.bursts_within;
      parts_few = k.parts_few;
      parts_fit = parts_fit e.shape.cut.width e.collected.count e.shape.cut.parts k.parts_few f.bytes_few;
      value_fits = k.value_fits;
    }

pub works : (n : Numbers) (σ : State) (e : Engine) → Legal n σ → e.shape.width ≡ e.plain.numbers.width → ∥ Kept n σ e ∥₁ → Workable e
works n σ e legal same kept = workable n σ e legal same (kept_known n σ e kept)

-- a word that comes was owed
came_small : (limit x : ℕ) (owed : List ℕ) → First (Some x) owed → ((i : ℕ) → get_or owed i 0 < limit) → (x < limit) × (0 < length owed)
came_small limit x [] first small = absurd first
came_small limit x (y ∷ ys) first small = (omega (arith, small 0), omega arith)

some_bursts : (bs : List OwedBurst) → 0 < length (offsets_in bs) → 0 < length bs
unfolding offsets_in
some_bursts [] some = some
some_bursts (b ∷ bs) some = omega arith

pub due : (n : Numbers) (σ : State) (e : Engine) (x : Option ℕ) → Legal n σ → Kept n σ e → First x σ.owed → Due e x
due n σ e None legal kept first = tt
due n σ e (Some x) legal kept first =
    let k = kept in
    let came = came_small (2 ^ (8 * n.width)) x σ.owed first legal.values in
    let small = subst (λ w. x < 2 ^ (8 * w)) (sym k.fitted.below) came.0 in
    let asked : 0 < length k.requested = elim (cases_lt 0 (length k.requested)) [
      | inl some ↦ some
      | inr none ↦ let z : length k.requested ≡ 0 = omega arith in absurd (omega (arith, k.grouped, ap (λ i. i * e.shape.cut.parts) z, zero-mul e.shape.cut.parts))
    ] in
    let all : 0 < length (offsets_in (bursts_in e.owed)) = omega (arith, ap (λ (xs : List ℕ). length xs) k.queued, length-append k.requested (offsets_in_slot e.slot)) in
    let some = some_bursts (bursts_in e.owed) all in
    (small, omega arith)

pub comes_due : (n : Numbers) (σ : State) (e : Engine) (x : Option ℕ) → Legal n σ → ∥ Kept n σ e ∥₁ → First x σ.owed → Due e x
comes_due n σ e x legal kept first = due n σ e x legal (kept_known n σ e kept) first

beat_near : (n : Numbers) (b : Option OpenBurst) (command : Command) → n.words ≤ 32768 → OpenWithin n b → command_rule n b command ≡ None → LanesFit n.width command → Loadable n.width b command
beat_near n b Idle few within free fits = tt
beat_near n b (Read o k) few within free fits = tt
beat_near n None (Write o k m d) few within free fits =
    let at = opening_fits n o.0 k (first_sooner (opening_rule n o.0 k) (lanes_rule n m d) free) in
    (omega arith, fits.0, fits.1)
beat_near n (Some b) (Write o k m d) few within free fits = (omega (arith, within.2), fits.0, fits.1)

pub loadable : (n : Numbers) (b : Option OpenBurst) (command : Command) → n.words ≤ 32768 → OpenWithin n b → command_rule n b command ≡ None → Loadable n.width b command
loadable n b command few within free = beat_near n b command few within free (write_fits n b command free)
