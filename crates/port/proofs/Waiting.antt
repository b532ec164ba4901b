-- Laws of the calls that are left until a read burst ends, and of a port at which nothing is owed.
use Rattle.std.proofs.Common.{◌≡◌, ℕ, ◌+◌, ◌-◌, ◌*◌, ◌/◌, ◌%◌, ◌<◌, ◌≤◌, ltb, leb, List, [], ◌∷◌, length, Some, None, Option, sym, refl, ap, subst, inl, inr, ⊎_elim, mul-le-mul_right, add-mul, arith, pow_pos}
use Rattle.std.proofs.lemmas.List.{nil_from_length}
use Rattle.std.proofs.lemmas.Bool.{cases_lt, cond_both, cond-false, cond-true, le-leb, lt-leb}
use Rattle.port.specs.Lanes.{byte_in}
use Rattle.port.specs.Legal.{HeldLegal, Legal, ReadsWithin, total}
use Rattle.port.specs.Machine.{given, one_came, silence_after}
use Rattle.port.specs.State.{Ranges, State, reset}
use Rattle.port.specs.Waiting.{calls_due, oldest}
use Rattle.port.specs.Widths.{Wide}
use Rattle.port.specs.declared.numbers.Numbers.{Numbers}
use Rattle.port.proofs.Steps.{silence_more}

-- Nothing owed -------------------------------------------------------------------

-- no words owed: no bursts owed
pub none_owed : (limit : ℕ) (reads : List ℕ) → ReadsWithin limit reads → total reads ≡ 0 → length reads ≡ 0
none_owed limit [] within e = refl
none_owed limit (k ∷ later) within e = absurd (omega (arith, within.0))

-- with nothing open, held or owed, a port is at reset on its memory
pub at_rest : (n : Numbers) (σ : State) → Legal n σ → σ.burst ≡ None → σ.held ≡ None → length σ.owed ≡ 0 → σ ≡ reset σ.memory
at_rest n σ legal shut free none =
    let owed = nil_from_length σ.owed none in
    let reads = nil_from_length σ.reads (none_owed n.burst_limit σ.reads legal.reading (omega arith)) in
    let waits : σ.waits ≡ 0 = subst (HeldLegal n σ.burst σ.waits) free legal.holds in
    let silence = legal.quiet owed in
    let whole : ◌≡◌ {A = State} (record { memory = σ.memory; burst = σ.burst; held = σ.held; owed = σ.owed; reads = σ.reads; waits = σ.waits; silence = σ.silence }) (reset σ.memory) = cc in
    whole

-- a multiple of 8 is a whole number of words
pub whole : (w size : ℕ) → Wide w → size % 8 ≡ 0 → size / w * w ≡ size
whole w size wide eights =
    ⊎_elim (λ e. subst (λ k. size / k * k ≡ size) (sym e) (omega arith))
    (⊎_elim (λ e. subst (λ k. size / k * k ≡ size) (sym e) (omega arith))
    (⊎_elim (λ e. subst (λ k. size / k * k ≡ size) (sym e) (omega arith)) (λ e. subst (λ k. size / k * k ≡ size) (sym e) (omega arith)))) wide

-- a port at reset is legal, with numbers in their ranges over a memory of their size
pub legal_reset : (n : Numbers) (image : List ℕ) → Ranges n → length image ≡ n.words * n.width → ((address : ℕ) → byte_in image address < 256) → Legal n (reset image)
legal_reset n image ranges size bytes = record {
  ranges = ranges;
  size = size;
  bytes = bytes;
  opened = tt;
  holds = refl;
  reading = tt;
  counted = refl;
  values = λ i. pow_pos (8 * n.width);
  quiet = λ _. refl;
  within = record { pending = omega arith; waiting = omega arith; silent = omega arith };
}

-- How many calls are left until a read burst ends ----------------------------------

-- a word came
pub due_came : (most l s limit : ℕ) (reads : List ℕ) → 1 ≤ most → s ≤ l → ReadsWithin limit reads → length reads ≡ most →
    calls_due most l 0 (one_came reads) + 1 ≤ calls_due most l s reads
due_came most l s limit [] some quiet within full = absurd (omega arith)
due_came most l s limit (k ∷ later) some quiet within full =
    let up : calls_due most l s (k ∷ later) ≡ k * (l + 1) - s = cond-true (leb most (length (k ∷ later))) (k * (l + 1) - s) 0 (le-leb most (length (k ∷ later)) (omega arith)) in
    let split : (k - 1 + 1) * (l + 1) ≡ (k - 1) * (l + 1) + 1 * (l + 1) = add-mul (k - 1) 1 (l + 1) in
    let same : k - 1 + 1 ≡ k = omega (arith, within.0) in
    let parts : k * (l + 1) ≡ (k - 1) * (l + 1) + (l + 1) = omega (arith, split, ap (λ j. j * (l + 1)) same) in
    cond_both (ltb 1 k) ((k - 1) ∷ later) later (λ rs. calls_due most l 0 rs + 1 ≤ calls_due most l s (k ∷ later))
    (λ e.
    let low : calls_due most l 0 ((k - 1) ∷ later) ≡ (k - 1) * (l + 1) - 0 = cond-true (leb most (length ((k - 1) ∷ later))) ((k - 1) * (l + 1) - 0) 0 (le-leb most (length ((k - 1) ∷ later)) (omega arith)) in
    omega (arith, low, up, parts))
    (λ e.
    let low : calls_due most l 0 later ≡ 0 = cond-false (leb most (length later)) (oldest later * (l + 1) - 0) 0 (lt-leb most (length later) (omega arith)) in
    omega (arith, low, up, parts))

-- no word came
pub due_later : (most l s limit : ℕ) (reads : List ℕ) → 1 ≤ most → s ≤ l → ReadsWithin limit reads → length reads ≡ most →
    calls_due most l (s + 1) reads + 1 ≤ calls_due most l s reads
due_later most l s limit [] some quiet within full = absurd (omega arith)
due_later most l s limit (k ∷ later) some quiet within full =
    let full' = le-leb most (length (k ∷ later)) (omega arith) in
    let up : calls_due most l s (k ∷ later) ≡ k * (l + 1) - s = cond-true (leb most (length (k ∷ later))) (k * (l + 1) - s) 0 full' in
    let low : calls_due most l (s + 1) (k ∷ later) ≡ k * (l + 1) - (s + 1) = cond-true (leb most (length (k ∷ later))) (k * (l + 1) - (s + 1)) 0 full' in
    let one : 1 * (l + 1) ≤ k * (l + 1) = mul-le-mul_right (l + 1) within.0 in
    omega (arith, low, up, one)

-- fewer than P are owed
pub due_none : (most l s : ℕ) (reads : List ℕ) → length reads < most → calls_due most l s reads ≡ 0
due_none most l s reads few = cond-false (leb most (length reads)) (oldest reads * (l + 1) - s) 0 (lt-leb most (length reads) few)

-- at most B (L + 1)
pub due_below : (most l s limit : ℕ) (reads : List ℕ) → ReadsWithin limit reads → calls_due most l s reads ≤ limit * (l + 1)
due_below most l s limit [] within = cond_both (leb most 0) (0 * (l + 1) - s) 0 (λ d. d ≤ limit * (l + 1)) (λ e. omega arith) (λ e. omega arith)
due_below most l s limit (k ∷ later) within =
    let less : k * (l + 1) ≤ limit * (l + 1) = mul-le-mul_right (l + 1) within.1 in
    cond_both (leb most (length (k ∷ later))) (k * (l + 1) - s) 0 (λ d. d ≤ limit * (l + 1)) (λ e. omega arith) (λ e. omega arith)

-- while P bursts are owed, each call leaves fewer
pub due_falls : (n : Numbers) (σ : State) (x : Option ℕ) → Legal n σ → length σ.reads ≡ n.pending_limit →
    calls_due n.pending_limit n.silence_bound (given x σ).silence (given x σ).reads + 1 ≤ calls_due n.pending_limit n.silence_bound σ.silence σ.reads
due_falls n σ None legal full =
    let some : 0 < length σ.owed = elim (cases_lt 0 (length σ.owed)) [
      | inl more ↦ more
      | inr few ↦ let none = none_owed n.burst_limit σ.reads legal.reading (omega arith) in omega arith
    ] in
    let on = silence_more σ.owed σ.silence some in
    let next : silence_after σ.owed σ.silence ≡ σ.silence + 1 = omega arith in
    subst (λ t. calls_due n.pending_limit n.silence_bound t σ.reads + 1 ≤ calls_due n.pending_limit n.silence_bound σ.silence σ.reads) (sym next)
    (due_later n.pending_limit n.silence_bound σ.silence n.burst_limit σ.reads legal.ranges.pending_some legal.within.silent legal.reading full)
due_falls n σ (Some x) legal full =
    due_came n.pending_limit n.silence_bound σ.silence n.burst_limit σ.reads legal.ranges.pending_some legal.within.silent legal.reading full
