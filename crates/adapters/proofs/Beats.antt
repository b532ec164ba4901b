-- A beat that is stored below part by part is the beat stored above.
use Rattle.std.proofs.Common.{◌≡◌, ℕ, ◌+◌, ◌-◌, ◌*◌, ◌/◌, ◌%◌, ◌^◌, ◌<◌, ◌≤◌, ltb, ◌⊎◌, List, sym, ap, ◌∙◌, add-mul, one-mul, arith}
use Rattle.std.proofs.lemmas.Bool.{cond_both, ltb-false, ltb-true}
use Rattle.port.specs.Lanes.{lanes_stored, stored}
use Rattle.port.specs.declared.addresses.WordOffset.{WordOffset}
use Rattle.port.proofs.Bytes.{lanes_low, lanes_moved, lanes_split}
use Rattle.adapters.specs.Above.{memory_with}
use Rattle.adapters.specs.Cuts.{after_part, beat_slot, lanes_up, offset_below}
use Rattle.adapters.specs.declared.cut.Cut.{Cut}
use Rattle.adapters.specs.Slots.{Empty, Beat}
use Rattle.adapters.proofs.Places.{lanes_within, same_address}

-- the next part stored below leaves the memory above as it was
pub part_stored : (c : Cut) (o : WordOffset) (p m d n : ℕ) (memory : List ℕ) → 1 ≤ p →
    memory_with c (after_part c (Beat o p m d n)) (stored c.width o.0 (m % 2 ^ c.width) (d % 2 ^ (8 * c.width)) memory) ≡ memory_with c (Beat o p m d n) memory
part_stored c o p m d n memory some =
    let w = c.width in
    let now-in = stored w o.0 (m % 2 ^ w) (d % 2 ^ (8 * w)) memory in
    cond_both (ltb 1 p) (Beat (record { 0 = o.0 + 1 }) (p - 1) (m / 2 ^ w) (d / 2 ^ (8 * w)) n) Empty (λ s. memory_with c s now-in ≡ lanes_stored (o.0 * w) m d (p * w) memory)
    (λ e.
    let more = ltb-true 1 p e in
    let next : (o.0 + 1) * w ≡ o.0 * w + w = add-mul o.0 1 w ∙ ap (λ k. o.0 * w + k) (one-mul w) in
    let one : 1 + (p - 1) ≡ p = omega arith in
    let all : w + (p - 1) * w ≡ p * w = ap (λ k. k + (p - 1) * w) (sym (one-mul w)) ∙ (sym (add-mul 1 (p - 1) w) ∙ ap (λ k. k * w) one) in
    ap (λ a. lanes_stored a (m / 2 ^ w) (d / 2 ^ (8 * w)) ((p - 1) * w) now-in) next
    ∙ (sym (lanes_split (o.0 * w) m d w ((p - 1) * w) memory) ∙ ap (λ k. lanes_stored (o.0 * w) m d k memory) all))
    (λ e.
    let last = ltb-false 1 p e in
    let one : p ≡ 1 = omega arith in
    let all : w ≡ p * w = sym (one-mul w) ∙ ap (λ k. k * w) (sym one) in
    lanes_low (o.0 * w) m d w memory ∙ ap (λ k. lanes_stored (o.0 * w) m d k memory) all)

-- a beat in the slot counts as stored above
pub beat_counted : (c : Cut) (v h n m d : ℕ) (memory : List ℕ) → v * c.share ≡ c.width * c.parts → (c.share ≡ 1) ⊎ (c.parts ≡ 1) → 1 ≤ c.share → m < 2 ^ v →
    memory_with c (beat_slot c v h n m d) memory ≡ stored v h m d memory
beat_counted c v h n m d memory widths kind some small =
    let w = c.width in
    lanes_moved (offset_below c h * w) (lanes_up c v h) v (c.parts * w) m d memory (lanes_within c v h widths some) small
    ∙ ap (λ a. lanes_stored a m d v memory) (same_address c v h widths kind)
