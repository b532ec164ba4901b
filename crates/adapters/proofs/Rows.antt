-- Sums and products in the code of an adapter stay small.
use Rattle.std.proofs.Common.{◌≡◌, ℕ, ◌+◌, ◌*◌, ◌^◌, ◌<◌, ◌≤◌, ap, ◌∙◌, mul_comm, add-mul, one-mul, arith, pow_mono}
use Rattle.std.proofs.lemmas.Nat.{mul-le, pow-add, shl_below}

-- a row with its last place is below the end of all rows
pub row_fits : (r f v : ℕ) → r < f → r * v + v ≤ f * v
row_fits r f v lt =
    let m = mul-le (r + 1) v f v (omega arith) (omega arith) in
    let s : (r + 1) * v ≡ r * v + v = add-mul r 1 v ∙ ap (λ k. r * v + k) (one-mul v) in
    omega arith

-- a part above the parts that have come still fits their lanes
pub value_fits : (value x w g : ℕ) → value < 2 ^ (8 * (w * g)) → x < 2 ^ (8 * w) → value + x * 2 ^ (8 * (w * g)) < 2 ^ (8 * (w * (g + 1)))
value_fits value x w g small part =
    let p = 2 ^ (8 * (w * g)) in
    let e : 8 * (w * (g + 1)) ≡ 8 * w + 8 * (w * g) = omega (arith, mul_comm w (g + 1), add-mul g 1 w, mul_comm w g) in
    let q : 2 ^ (8 * (w * (g + 1))) ≡ 2 ^ (8 * w) * p = ap (λ k. 2 ^ k) e ∙ pow-add 2 (8 * w) (8 * (w * g)) in
    let m = mul-le (x + 1) p (2 ^ (8 * w)) p (omega arith) (omega arith) in
    let s : (x + 1) * p ≡ x * p + p = add-mul x 1 p ∙ ap (λ k. x * p + k) (one-mul p) in
    omega arith

-- eight bytes are enough
pub below_eight : (x n : ℕ) → x < 2 ^ (8 * n) → n ≤ 8 → x < 2 ^ 64
below_eight x n small few =
    let h : 8 * n ≤ 64 = omega arith in
    let p : 2 ^ (8 * n) ≤ 2 ^ 64 = pow_mono h in
    omega arith

pub mask_moved : (m v l : ℕ) → m < 2 ^ v → l + v ≤ 8 → m * 2 ^ l < 256
mask_moved m v l small fits =
    let b = shl_below m v l small in
    let h : v + l ≤ 8 = omega arith in
    let p : 2 ^ (v + l) ≤ 2 ^ 8 = pow_mono h in
    omega arith

pub word_moved : (d v l : ℕ) → d < 2 ^ (8 * v) → l + v ≤ 8 → d * 2 ^ (8 * l) < 2 ^ 64
word_moved d v l small fits =
    let b = shl_below d (8 * v) (8 * l) small in
    let h : 8 * v + 8 * l ≤ 64 = omega arith in
    let p : 2 ^ (8 * v + 8 * l) ≤ 2 ^ 64 = pow_mono h in
    omega arith
