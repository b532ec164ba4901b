-- All that an adapter keeps can be had of it, and not only that it keeps something: a number that is chosen in it, and
-- which of two cases holds, is known from the rest.
use Rattle.std.proofs.Common.{◌≡◌, ℕ, zero, suc, ◌+◌, ◌-◌, ◌*◌, ◌/◌, ◌≤◌, ltb, ◌⊎◌, List, [], ◌∷◌, ◌++◌, length, take, Some, None, Option, sym, refl, ap, ◌∙◌, subst, inl, inr, arith}
use Rattle.std.specs.Coded.{Unit-prop}
use Rattle.std.proofs.Math.Logic.{∥∥₁_elim, ∥∥₁_map}
use Rattle.std.proofs.Math.Nat.{mul-div_cancel}
use Rattle.std.proofs.Props.{props}
use Rattle.std.proofs.lemmas.Bool.{cases_lt, cond-false, cond-true, le-ltb, lt-ltb}
use Rattle.std.proofs.lemmas.List.{length-append, take_at}
use Rattle.port.specs.Machine.{rest_of_burst}
use Rattle.port.specs.Single.{legal_prop}
use Rattle.port.specs.State.{State}
use Rattle.port.specs.declared.calls.Command.{Command}
use Rattle.port.specs.declared.calls.OpenBurst.{OpenBurst}
use Rattle.port.specs.declared.numbers.Numbers.{Numbers}
use Rattle.adapters.specs.Above.{above}
use Rattle.adapters.specs.Kept.{Between, BurstsWithin, Fitted, HoldsPart, Kept, LinedUp, Opening, WithinBeat, offsets_in_slot}
use Rattle.adapters.specs.Owed.{bursts_in, offsets_in}
use Rattle.adapters.specs.Slots.{Empty, Reading, Beat, Slot}
use Rattle.adapters.specs.declared.adapter.Engine.{Engine}
use Rattle.adapters.specs.declared.cut.Cut.{Cut}
use Rattle.adapters.specs.declared.owed.OwedBurst.{OwedBurst}

one_or_not : (n : ℕ) → (n ≡ 1) ⊎ (n ≡ 1 → ⊥)
one_or_not zero = inr (λ e. omega arith)
one_or_not (suc zero) = inl refl
one_or_not (suc (suc n)) = inr (λ e. omega arith)

-- a word below holds no more than one host word, or else every burst below has one word
kind_known : (c : Cut) → ((c.share ≡ 1 → ⊥) → (c.parts ≡ 1) × (c.most ≡ 1)) → (c.share ≡ 1) ⊎ ((c.parts ≡ 1) × (c.most ≡ 1))
kind_known c other = elim (one_or_not c.share) [ inl one ↦ inl one | inr not_one ↦ inr (other not_one) ]

kind_other : (c : Cut) → (c.share ≡ 1) ⊎ ((c.parts ≡ 1) × (c.most ≡ 1)) → (c.share ≡ 1 → ⊥) → (c.parts ≡ 1) × (c.most ≡ 1)
kind_other c (inl one) not_one = absurd (not_one one)
kind_other c (inr both) not_one = both

fitted_known : (c : Cut) (n n' : Numbers) → ∥ Fitted c n n' ∥₁ → Fitted c n n'
fitted_known c n n' t =
    record {
      below = ∥∥₁_elim t (Prim.hlevel props) (λ f. f.below);
      widths = ∥∥₁_elim t (Prim.hlevel props) (λ f. f.widths);
      sizes = ∥∥₁_elim t (Prim.hlevel props) (λ f. f.sizes);
      kind = kind_known c (∥∥₁_elim t (Prim.hlevel props) (λ f. kind_other c f.kind));
      parts_some = ∥∥₁_elim t (Prim.hlevel props) (λ f. f.parts_some);
      share_some = ∥∥₁_elim t (Prim.hlevel props) (λ f. f.share_some);
      most_some = ∥∥₁_elim t (Prim.hlevel props) (λ f. f.most_some);
      bytes_few = ∥∥₁_elim t (Prim.hlevel props) (λ f. f.bytes_few);
      burst_fits = ∥∥₁_elim t (Prim.hlevel props) (λ f. f.burst_fits);
      silence = ∥∥₁_elim t (Prim.hlevel props) (λ f. f.silence);
      waits = ∥∥₁_elim t (Prim.hlevel props) (λ f. f.waits);
    }

-- the beats left below are a whole number of beats above
between_known : (c : Cut) (b b' : Option OpenBurst) → 1 ≤ c.parts → ∥ Between c b b' ∥₁ → Between c b b'
between_known c None b' some t = tt
between_known c (Some b) None some t = ∥∥₁_elim t (Prim.hlevel props) (λ x. x)
between_known c (Some b) (Some b') some t =
    let j = b.left / c.parts in
    let same : (x : Between c (Some b) (Some b')) → x.2 ≡ j = λ x. sym (mul-div_cancel x.2 (omega arith)) ∙ ap (λ k. k / c.parts) (sym x.3) in (
      ∥∥₁_elim t (Prim.hlevel props) (λ x. x.0),
      ∥∥₁_elim t (Prim.hlevel props) (λ x. x.1),
      j,
      ∥∥₁_elim t (Prim.hlevel props) (λ x. x.3 ∙ ap (λ k. k * c.parts) (same x)),
      ∥∥₁_elim t (Prim.hlevel props) (λ x. subst (λ k. 1 ≤ k) (same x) x.4),
      ∥∥₁_elim t (Prim.hlevel props) (λ x. subst (λ k. k ≤ b'.left) (same x) x.5),
    )

opening_known : (c : Cut) (n : Numbers) (o p left : ℕ) (b : Option OpenBurst) → 1 ≤ c.parts → ∥ Opening c n o p left b ∥₁ → Opening c n o p left b
opening_known c n o p left None some t = ∥∥₁_elim t (Prim.hlevel props) (λ x. x)
opening_known c n o p left (Some b) some t =
    let j = (b.left - p) / c.parts in
    let same : (x : Opening c n o p left (Some b)) → x.2 ≡ j =
    λ x. let more : x.2 * c.parts ≡ b.left - p = omega (arith, x.3) in sym (mul-div_cancel x.2 (omega arith)) ∙ ap (λ k. k / c.parts) more in (
      ∥∥₁_elim t (Prim.hlevel props) (λ x. x.0),
      ∥∥₁_elim t (Prim.hlevel props) (λ x. x.1),
      j,
      ∥∥₁_elim t (Prim.hlevel props) (λ x. x.3 ∙ ap (λ k. p + k * c.parts) (same x)),
      ∥∥₁_elim t (Prim.hlevel props) (λ x. subst (λ k. k + 1 ≤ left) (same x) x.4),
    )

-- the host word of a beat: the one before the next of the open burst, or, of the last beat, the one whose parts these are. Where
-- a word below holds several, what is kept does not tell them apart, and any will do
abbrev At : Cut → Numbers → ℕ → ℕ → ℕ → Option OpenBurst → ℕ → Type 0
At c n' o p left b' host = (host + left ≤ n'.words) × (c.share ≡ 1 → o + p ≡ (host + 1) * c.parts) × (b' ≡ rest_of_burst host left)

abbrev next_in : Option OpenBurst → ℕ
next_in None = 0
next_in (Some b) = b.next - 1

last_rest : (host left : ℕ) → left ≤ 1 → rest_of_burst host left ≡ rest_of_burst 0 left
last_rest host left last =
    cond-false (ltb 1 left) (Some (record { next = host + 1; left = left - 1 })) None (le-ltb 1 left last)
    ∙ sym (cond-false (ltb 1 left) (Some (record { next = 0 + 1; left = left - 1 })) None (le-ltb 1 left last))

host_known : (c : Cut) (n n' : Numbers) (o p left : ℕ) (b b' : Option OpenBurst) → 1 ≤ c.parts → ∥ WithinBeat c n n' o p left b b' ∥₁ → (host : ℕ) × At c n' o p left b' host
host_known c n n' o p left b b' some t =
    elim (cases_lt 1 left) [
      | inl more ↦
          let same : (x : WithinBeat c n n' o p left b b') → x.host ≡ next_in b' =
          λ x.
          let gone : x.host + 1 - 1 ≡ x.host = omega arith in
          sym (ap next_in (x.rest ∙ cond-true (ltb 1 left) (Some (record { next = x.host + 1; left = left - 1 })) None (lt-ltb 1 left more)) ∙ gone) in
          (next_in b', ∥∥₁_elim t (Prim.hlevel props) (λ x. subst (At c n' o p left b') (same x) (x.host_inside, x.place, x.rest)))
      | inr last ↦
          elim (one_or_not c.share) [
            | inl one ↦
                let same : (x : WithinBeat c n n' o p left b b') → x.host ≡ (o + p) / c.parts - 1 =
                λ x. let whole : (x.host + 1) ≡ (o + p) / c.parts = sym (mul-div_cancel (x.host + 1) (omega arith)) ∙ ap (λ k. k / c.parts) (sym (x.place one)) in omega arith in
                ((o + p) / c.parts - 1, ∥∥₁_elim t (Prim.hlevel props) (λ x. subst (At c n' o p left b') (same x) (x.host_inside, x.place, x.rest)))
            | inr not_one ↦ (0, ∥∥₁_elim t (Prim.hlevel props) (λ x. (omega (arith, x.host_inside), (λ one. absurd (not_one one)), x.rest ∙ last_rest x.host left last)))
          ]
    ]

beat_known : (c : Cut) (n n' : Numbers) (o p left : ℕ) (b b' : Option OpenBurst) → 1 ≤ c.parts → ∥ WithinBeat c n n' o p left b b' ∥₁ → WithinBeat c n n' o p left b b'
beat_known c n n' o p left b b' some t =
    let at = host_known c n n' o p left b b' some t in
    record {
      some = ∥∥₁_elim t (Prim.hlevel props) (λ x. x.some);
      few = ∥∥₁_elim t (Prim.hlevel props) (λ x. x.few);
      left_some = ∥∥₁_elim t (Prim.hlevel props) (λ x. x.left_some);
      inside = ∥∥₁_elim t (Prim.hlevel props) (λ x. x.inside);
      host = at.0;
      host_inside = at.1.0;
      place = at.1.1;
      rest = at.1.2;
      opening = opening_known c n o p left b some (∥∥₁_map t (λ x. x.opening));
    }

lined_known : (c : Cut) (n n' : Numbers) (s : Slot) (b b' : Option OpenBurst) → 1 ≤ c.parts → ∥ LinedUp c n n' s b b' ∥₁ → LinedUp c n n' s b b'
lined_known c n n' Empty b b' some t = between_known c b b' some t
lined_known c n n' (Reading h k) b b' some t = ∥∥₁_elim t (Prim.hlevel props) (λ x. x)
lined_known c n n' (Beat o p m d k) b b' some t = beat_known c n n' o.0 p k b b' some t

holds_prop : (c : Cut) (s : Slot) (h : Option Command) → IsProp (HoldsPart c s h)
holds_prop c s None = Unit-prop
holds_prop c s (Some h) = Prim.hlevel props

within_prop : (size : ℕ) (bs : List OwedBurst) → IsProp (BurstsWithin size bs)
within_prop size [] = Unit-prop
within_prop size (b ∷ bs) = Prim.hlevel (props, within_prop size bs)

pub kept_known : (n : Numbers) (σ : State) (e : Engine) → ∥ Kept n σ e ∥₁ → Kept n σ e
kept_known n σ e t =
    let c = e.shape.cut in
    let s = e.slot in
    let bs = bursts_in e.owed in
    let n' = e.plain.numbers in
    let fitted = fitted_known c n n' (∥∥₁_map t (λ k. k.fitted)) in
    let all = offsets_in bs in
    let asked = take (length all - length (offsets_in_slot s)) all in
    let same : (k : Kept n σ e) → k.requested ≡ asked =
    λ k.
    let size : length k.requested ≡ length all - length (offsets_in_slot s) = omega (arith, ap length k.queued, length-append k.requested (offsets_in_slot s)) in
    sym (take_at k.requested (offsets_in_slot s) (length all - length (offsets_in_slot s)) size) ∙ ap (take (length all - length (offsets_in_slot s))) (sym k.queued) in
    record {
      fitted = fitted;
      legal = ∥∥₁_elim t (legal_prop n' (above e σ)) (λ k. k.legal);
      tallied = ∥∥₁_elim t (Prim.hlevel props) (λ k. k.tallied);
      holding = ∥∥₁_elim t (holds_prop c s σ.held) (λ k. k.holding);
      lined = lined_known c n n' s σ.burst e.plain.burst fitted.parts_some (∥∥₁_map t (λ k. k.lined));
      requested = asked;
      queued = ∥∥₁_elim t (Prim.hlevel props) (λ k. k.queued ∙ ap (λ hs. hs ++ offsets_in_slot s) (same k));
      grouped = ∥∥₁_elim t (Prim.hlevel props) (λ k. subst (λ hs. length hs * c.parts ≡ e.collected.count + length σ.owed) (same k) k.grouped);
      bursts_within = ∥∥₁_elim t (within_prop n'.words bs) (λ k. k.bursts_within);
      parts_few = ∥∥₁_elim t (Prim.hlevel props) (λ k. k.parts_few);
      value_fits = ∥∥₁_elim t (Prim.hlevel props) (λ k. k.value_fits);
      heard = ∥∥₁_elim t (Prim.hlevel props) (λ k. k.heard);
      awaited = ∥∥₁_elim t (Prim.hlevel props) (λ k. k.awaited);
      patient = ∥∥₁_elim t (Prim.hlevel props) (λ k. k.patient);
    }
