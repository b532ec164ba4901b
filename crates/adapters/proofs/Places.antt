-- Where a host word stands below.
use Rattle.std.proofs.Common.{◌≡◌, ℕ, ◌+◌, ◌*◌, ◌/◌, ◌%◌, ◌≤◌, ◌⊎◌, sym, ap, ◌∙◌, inl, inr, mul_assoc, mul_comm, add-mul, zero-mul, mul-one, div-one, arith}
use native.Mathlib.Nat.{mod-one}
use Rattle.std.proofs.lemmas.Nat.{div-add-mod', mod_below}
use Rattle.adapters.specs.Cuts.{lanes_up, offset_below}
use Rattle.adapters.specs.declared.cut.Cut.{Cut}
use Rattle.adapters.proofs.Rows.{row_fits}

-- the first word below of a host word in words of its own
pub offset_whole : (c : Cut) (h : ℕ) → c.share ≡ 1 → offset_below c h ≡ h * c.parts
offset_whole c h one = ap (λ f. h * c.parts / f) one ∙ div-one (h * c.parts)

-- the byte address of a host word, by its word below and its lanes there
pub same_address : (c : Cut) (v h : ℕ) → v * c.share ≡ c.width * c.parts → (c.share ≡ 1) ⊎ (c.parts ≡ 1) → offset_below c h * c.width + lanes_up c v h ≡ h * v
same_address c v h widths (inl one) =
    let o = offset_whole c h one in
    let up : h % c.share ≡ 0 = ap (λ f. h % f) one ∙ mod-one h in
    let none : lanes_up c v h ≡ 0 = ap (λ r. r * v) up ∙ zero-mul v in
    let wide : v ≡ c.parts * c.width = sym (mul-one v) ∙ (ap (λ f. v * f) (sym one) ∙ (widths ∙ mul_comm c.width c.parts)) in
    let whole : h * c.parts * c.width ≡ h * v = mul_assoc h c.parts c.width ∙ ap (λ k. h * k) (sym wide) in
    omega (arith, ap (λ k. k * c.width) o)
same_address c v h widths (inr one) =
    let f = c.share in
    let wide : c.width ≡ f * v = sym (mul-one c.width) ∙ (ap (λ k. c.width * k) (sym one) ∙ (sym widths ∙ mul_comm v f)) in
    let o : offset_below c h ≡ h / f = ap (λ k. h * k / f) one ∙ ap (λ k. k / f) (mul-one h) in
    let split = div-add-mod' h f in
    let all : h / f * c.width + h % f * v ≡ h * v =
    ap (λ k. h / f * k + h % f * v) wide ∙ (ap (λ k. k + h % f * v) (sym (mul_assoc (h / f) f v)) ∙ (sym (add-mul (h / f * f) (h % f) v) ∙ ap (λ k. k * v) split)) in
    omega (arith, ap (λ k. k * c.width) o)

-- its lanes stand within the words below that hold it
pub lanes_within : (c : Cut) (v h : ℕ) → v * c.share ≡ c.width * c.parts → 1 ≤ c.share → lanes_up c v h + v ≤ c.parts * c.width
lanes_within c v h widths some =
    let fits = row_fits (h % c.share) c.share v (mod_below h c.share (omega arith)) in
    omega (arith, mul_comm v c.share, mul_comm c.width c.parts)
