-- The rules of parts, kind by kind.
use Rattle.std.proofs.Common.{◌≡◌, ℕ, zero, suc, ◌+◌, ◌-◌, ◌*◌, ◌/◌, ◌%◌, ◌^◌, ◌<◌, ◌≤◌, ltb, [], ◌∷◌, ◌++◌, sym, refl, ap, ◌∙◌, inl, inr, mod-eq_of_lt, add-mul, one-mul, zero-mul, mul-one, div-one, one-add, arith, pow_mono}
use native.Mathlib.Nat.{mod-one}
use Rattle.std.proofs.lemmas.Nat.{mod_below, mul-le, shl_below, shr-shr}
use Rattle.std.proofs.lemmas.Bool.{cases_lt, cond-false, cond-true, le-ltb, lt-ltb}
use Rattle.adapters.specs.Building.{narrow_cut, narrow_parts, split_cut, wide_cut, wide_share}
use Rattle.adapters.specs.Cuts.{beat_slot, in_one_burst, lanes_up, offset_below, parts_in, parts_of}
use Rattle.adapters.specs.Rules.{PartsRules, full_bursts, lanes_parts, reads, single_words, writes}
use Rattle.adapters.specs.declared.cut.Cut.{Cut}
use Rattle.adapters.specs.Slots.{Empty, Reading, Beat, Slot}
use Rattle.port.specs.declared.numbers.Numbers.{Numbers}
use Rattle.adapters.proofs.Places.{offset_whole}
use Rattle.adapters.proofs.Rows.{row_fits}

no_parts : (i : ℕ) (c : Cut) → parts_in i c Empty ≡ []
no_parts zero c = refl
no_parts (suc i) c = refl

-- Reads ---------------------------------------------------------------------------------------

abbrev slot_at : ℕ → ℕ → Slot
slot_at h n = Reading (record { 0 = h }) n

-- the last burst of a read
last_read : (c : Cut) (h n i : ℕ) → n ≤ c.most → parts_in (suc i) c (slot_at h n) ≡ reads (offset_below c h) (n * c.parts) ∷ []
last_read c h n i fits =
    rw (le-ltb c.most n fits) (ap (λ xs. reads (offset_below c h) (n * c.parts) ∷ xs) (no_parts i c))

-- a burst with more to come
more_read : (c : Cut) (h n i : ℕ) → c.most < n → parts_in (suc i) c (slot_at h n) ≡ reads (offset_below c h) (c.most * c.parts) ∷ parts_in i c (slot_at (h + c.most) (n - c.most))
more_read c h n i more = rw (lt-ltb c.most n more) refl

some_read : (c : Cut) (h n : ℕ) → 1 ≤ n → n ≤ c.most → c.share ≡ 1 → parts_in n c (slot_at h n) ≡ reads (h * c.parts) (n * c.parts) ∷ []
some_read c h zero some fits one = absurd (omega arith)
some_read c h (suc n) some fits one = last_read c h (suc n) n fits ∙ ap (λ o. reads o (suc n * c.parts) ∷ []) (offset_whole c h one)

split_all : (n : Numbers) (o i rest fuel : ℕ) → 1 ≤ rest → rest ≤ n.burst_limit → i < fuel →
    parts_in fuel (split_cut n) (slot_at o (i * n.burst_limit + rest)) ≡ full_bursts n.burst_limit o i ++ (reads (o + i * n.burst_limit) rest ∷ [])
split_all n o i rest zero some few enough = absurd (omega arith)
split_all n o zero rest (suc f) some few enough =
    let b = n.burst_limit in
    let e : 0 * b + rest ≡ rest = omega (arith, zero-mul b) in
    let at : offset_below (split_cut n) o ≡ o + 0 * b = offset_whole (split_cut n) o refl ∙ (mul-one o ∙ omega (arith, zero-mul b)) in
    ap (λ k. parts_in (suc f) (split_cut n) (slot_at o k)) e
    ∙ (last_read (split_cut n) o rest f few ∙ (ap (λ k. reads (offset_below (split_cut n) o) k ∷ []) (mul-one rest) ∙ ap (λ k. reads k rest ∷ []) at))
split_all n o (suc i) rest (suc f) some few enough =
    let b = n.burst_limit in
    let c = split_cut n in
    let step : suc i * b ≡ b + i * b = ap (λ k. k * b) (sym (one-add i)) ∙ (add-mul 1 i b ∙ ap (λ k. k + i * b) (one-mul b)) in
    let left : suc i * b + rest - b ≡ i * b + rest = omega arith in
    let at : offset_below c o ≡ o = offset_whole c o refl ∙ mul-one o in
    let far : o + b + i * b ≡ o + suc i * b = omega arith in
    more_read c o (suc i * b + rest) f (omega arith)
    ∙ (ap (λ k. reads k (b * 1) ∷ parts_in f c (slot_at (o + b) (suc i * b + rest - b))) at
    ∙ (ap (λ k. reads o k ∷ parts_in f c (slot_at (o + b) (suc i * b + rest - b))) (mul-one b)
    ∙ ap (λ xs. reads o b ∷ xs) (ap (λ k. parts_in f c (slot_at (o + b) k)) left
    ∙ (split_all n (o + b) i rest f some few (omega arith) ∙ ap (λ k. full_bursts b (o + b) i ++ (reads k rest ∷ [])) far))))

-- as many parts as words are enough
enough : (i b rest : ℕ) → 1 ≤ b → 1 ≤ rest → i < i * b + rest
enough i b rest some more = let h = mul-le i 1 i b (omega arith) some in omega (arith, mul-one i)

wide_all : (n : Numbers) (v o c : ℕ) → parts_in c (wide_cut n v) (slot_at o c) ≡ single_words (wide_share n v) o c
wide_all n v o zero = refl
wide_all n v o (suc c) =
    let f = wide_share n v in
    let at : offset_below (wide_cut n v) o ≡ o / f = ap (λ k. k / f) (mul-one o) in
    elim (cases_lt 0 c) [
      | inl more ↦
          let left : suc c - 1 ≡ c = omega arith in
          more_read (wide_cut n v) o (suc c) c (omega arith)
          ∙ (ap (λ k. reads k 1 ∷ parts_in c (wide_cut n v) (slot_at (o + 1) (suc c - 1))) at
          ∙ ap (λ xs. reads (o / f) 1 ∷ xs) (ap (λ k. parts_in c (wide_cut n v) (slot_at (o + 1) k)) left ∙ wide_all n v (o + 1) c))
      | inr none ↦
          let z : c ≡ 0 = omega arith in
          let one : suc c * 1 ≡ 1 = ap (λ k. suc k * 1) z in
          last_read (wide_cut n v) o (suc c) c (omega arith)
          ∙ (ap (λ k. reads k (suc c * 1) ∷ []) at ∙ (ap (λ k. reads (o / f) k ∷ []) one ∙ ap (λ k. reads (o / f) 1 ∷ single_words f (o + 1) k) (sym z)))
    ]

-- Beats -----------------------------------------------------------------------------------------

abbrev beat_at : ℕ → ℕ → ℕ → ℕ → ℕ → Slot
beat_at o p m d n = Beat (record { 0 = o }) p m d n

-- the last k parts of a beat, from part i on
beat_parts : (c : Cut) (o m d n i k : ℕ) →
    parts_in k c (beat_at (o + i) k (m / 2 ^ (i * c.width)) (d / 2 ^ (8 * (i * c.width))) n) ≡ lanes_parts c.width o (in_one_burst c n * c.parts) m d i k
beat_parts c o m d n i zero = refl
beat_parts c o m d n i (suc k) =
    let w = c.width in
    let cut = writes (o + i) (in_one_burst c n * c.parts) (m / 2 ^ (i * w) % 2 ^ w) (d / 2 ^ (8 * (i * w)) % 2 ^ (8 * w)) in
    ap (λ xs. cut ∷ xs)
    (elim (cases_lt 0 k) [
      | inl more ↦
          let on : i * w + w ≡ (i + 1) * w = sym (add-mul i 1 w ∙ ap (λ j. i * w + j) (one-mul w)) in
          let masks : m / 2 ^ (i * w) / 2 ^ w ≡ m / 2 ^ ((i + 1) * w) = shr-shr m (i * w) w ∙ ap (λ j. m / 2 ^ j) on in
          let wide : 8 * (i * w) + 8 * w ≡ 8 * ((i + 1) * w) = omega arith in
          let words : d / 2 ^ (8 * (i * w)) / 2 ^ (8 * w) ≡ d / 2 ^ (8 * ((i + 1) * w)) = shr-shr d (8 * (i * w)) (8 * w) ∙ ap (λ j. d / 2 ^ j) wide in
          let one : suc k - 1 ≡ k = omega arith in
          let at : o + i + 1 ≡ o + (i + 1) = omega arith in
          rw (lt-ltb 1 (suc k) (omega arith))
          (ap (λ p. parts_in k c (beat_at (o + i + 1) p (m / 2 ^ (i * w) / 2 ^ w) (d / 2 ^ (8 * (i * w)) / 2 ^ (8 * w)) n)) one
          ∙ (ap (λ q. parts_in k c (beat_at q k (m / 2 ^ (i * w) / 2 ^ w) (d / 2 ^ (8 * (i * w)) / 2 ^ (8 * w)) n)) at
          ∙ (ap (λ q. parts_in k c (beat_at (o + (i + 1)) k q (d / 2 ^ (8 * (i * w)) / 2 ^ (8 * w)) n)) masks
          ∙ (ap (λ q. parts_in k c (beat_at (o + (i + 1)) k (m / 2 ^ ((i + 1) * w)) q n)) words ∙ beat_parts c o m d n (i + 1) k))))
      | inr none ↦
          let z : k ≡ 0 = omega arith in
          rw (le-ltb 1 (suc k) (omega arith)) (no_parts k c ∙ ap (lanes_parts w o (in_one_burst c n * c.parts) m d (i + 1)) (sym z))
    ])

-- where a host word has words of its own, its lanes stay
stays : (c : Cut) (v o n m d : ℕ) → c.share ≡ 1 → beat_slot c v o n m d ≡ beat_at (o * c.parts + 0) c.parts (m / 2 ^ (0 * c.width)) (d / 2 ^ (8 * (0 * c.width))) n
stays c v o n m d one =
    let up : lanes_up c v o ≡ 0 = ap (λ r. r * v) (ap (λ f. o % f) one ∙ mod-one o) ∙ zero-mul v in
    let none : 0 * c.width ≡ 0 = zero-mul c.width in
    let at : offset_below c o ≡ o * c.parts + 0 = offset_whole c o one ∙ omega arith in
    let masks : m * 2 ^ lanes_up c v o ≡ m / 2 ^ (0 * c.width) = ap (λ j. m * 2 ^ j) up ∙ (mul-one m ∙ (sym (div-one m) ∙ ap (λ j. m / 2 ^ j) (sym none))) in
    let words : d * 2 ^ (8 * lanes_up c v o) ≡ d / 2 ^ (8 * (0 * c.width)) = ap (λ j. d * 2 ^ (8 * j)) up ∙ (mul-one d ∙ (sym (div-one d) ∙ ap (λ j. d / 2 ^ (8 * j)) (sym none))) in
    ap (λ q. beat_at q c.parts (m * 2 ^ lanes_up c v o) (d * 2 ^ (8 * lanes_up c v o)) n) at
    ∙ (ap (λ q. beat_at (o * c.parts + 0) c.parts q (d * 2 ^ (8 * lanes_up c v o)) n) masks ∙ ap (λ q. beat_at (o * c.parts + 0) c.parts (m / 2 ^ (0 * c.width)) q n) words)

all_lanes : (c : Cut) (v o n m d : ℕ) → c.share ≡ 1 → parts_in c.parts c (beat_slot c v o n m d) ≡ lanes_parts c.width (o * c.parts) (in_one_burst c n * c.parts) m d 0 c.parts
all_lanes c v o n m d one = ap (parts_in c.parts c) (stays c v o n m d one) ∙ beat_parts c (o * c.parts) m d n 0 c.parts

whole_burst : (c : Cut) (n : ℕ) → n ≤ c.most → in_one_burst c n ≡ n
whole_burst c n fits = cond-false (ltb c.most n) c.most n (le-ltb c.most n fits)

one_part : (w o n m d : ℕ) → m < 2 ^ w → d < 2 ^ (8 * w) → lanes_parts w (o * 1) (n * 1) m d 0 1 ≡ writes o n m d ∷ []
one_part w o n m d narrow fits =
    let none : 0 * w ≡ 0 = zero-mul w in
    let masks : m / 2 ^ (0 * w) % 2 ^ w ≡ m = ap (λ j. m / 2 ^ j % 2 ^ w) none ∙ (ap (λ j. j % 2 ^ w) (div-one m) ∙ mod-eq_of_lt narrow) in
    let words : d / 2 ^ (8 * (0 * w)) % 2 ^ (8 * w) ≡ d = ap (λ j. d / 2 ^ (8 * j) % 2 ^ (8 * w)) none ∙ (ap (λ j. j % 2 ^ (8 * w)) (div-one d) ∙ mod-eq_of_lt fits) in
    let at : o * 1 + 0 ≡ o = omega (arith, mul-one o) in
    ap (λ q. writes q (n * 1) (m / 2 ^ (0 * w) % 2 ^ w) (d / 2 ^ (8 * (0 * w)) % 2 ^ (8 * w)) ∷ []) at
    ∙ (ap (λ q. writes o q (m / 2 ^ (0 * w) % 2 ^ w) (d / 2 ^ (8 * (0 * w)) % 2 ^ (8 * w)) ∷ []) (mul-one n)
    ∙ (ap (λ q. writes o n q (d / 2 ^ (8 * (0 * w)) % 2 ^ (8 * w)) ∷ []) masks ∙ ap (λ q. writes o n m q ∷ []) words))

wide_one : (n : Numbers) (v o c m d : ℕ) → 1 ≤ c → 1 ≤ wide_share n v → wide_share n v * v ≡ n.width → m < 2 ^ v → d < 2 ^ (8 * v) →
    parts_of (wide_cut n v) v (writes o c m d) ≡ writes (o / wide_share n v) 1 (m * 2 ^ (o % wide_share n v * v)) (d * 2 ^ (8 * (o % wide_share n v * v))) ∷ []
wide_one n v o c m d some share wide narrow fits =
    let f = wide_share n v in
    let w = n.width in
    let up = o % f * v in
    let room = row_fits (o % f) f v (mod_below o f (omega arith)) in
    let high : v + up ≤ w = omega arith in
    let high' : 8 * v + 8 * up ≤ 8 * w = omega arith in
    let p : 2 ^ (v + up) ≤ 2 ^ w = pow_mono high in
    let p' : 2 ^ (8 * v + 8 * up) ≤ 2 ^ (8 * w) = pow_mono high' in
    let a = shl_below m v up narrow in
    let b = shl_below d (8 * v) (8 * up) fits in
    let small : m * 2 ^ up < 2 ^ w = omega arith in
    let small' : d * 2 ^ (8 * up) < 2 ^ (8 * w) = omega arith in
    let at : offset_below (wide_cut n v) o ≡ o / f = ap (λ k. k / f) (mul-one o) in
    let one : in_one_burst (wide_cut n v) c * 1 ≡ 1 = mul-one (in_one_burst (wide_cut n v) c) ∙ elim (cases_lt 1 c) [
      | inl more ↦ cond-true (ltb 1 c) 1 c (lt-ltb 1 c more)
      | inr last ↦ cond-false (ltb 1 c) 1 c (le-ltb 1 c last) ∙ omega arith
    ] in
    ap (λ q. writes q (in_one_burst (wide_cut n v) c * 1) (m * 2 ^ up % 2 ^ w) (d * 2 ^ (8 * up) % 2 ^ (8 * w)) ∷ []) at
    ∙ (ap (λ q. writes (o / f) q (m * 2 ^ up % 2 ^ w) (d * 2 ^ (8 * up) % 2 ^ (8 * w)) ∷ []) one
    ∙ (ap (λ q. writes (o / f) 1 q (d * 2 ^ (8 * up) % 2 ^ (8 * w)) ∷ []) (mod-eq_of_lt small) ∙ ap (λ q. writes (o / f) 1 (m * 2 ^ up) q ∷ []) (mod-eq_of_lt small')))

pub parts_rules : PartsRules
parts_rules = record {
  narrow_read = λ n v o c some fits. some_read (narrow_cut n v) o c some fits refl;
  narrow_beat = λ n v o c m d some fits.
      all_lanes (narrow_cut n v) v o c m d refl
      ∙ ap (λ j. lanes_parts n.width (o * narrow_parts n v) (j * narrow_parts n v) m d 0 (narrow_parts n v)) (whole_burst (narrow_cut n v) c fits);
  split_read = λ n v o i rest some few. split_all n o i rest (i * n.burst_limit + rest) some few (enough i n.burst_limit rest (omega arith) some);
  split_beat = λ n o c m d narrow fits. all_lanes (split_cut n) n.width o c m d refl ∙ one_part n.width o (in_one_burst (split_cut n) c) m d narrow fits;
  wide_read = wide_all;
  wide_beat = wide_one;
}
