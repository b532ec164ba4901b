-- Laws of lanes and words: how long, how large, and which byte stands where after a store.
use Rattle.std.proofs.Common.{◌≡◌, ℕ, zero, suc, ◌+◌, ◌-◌, ◌*◌, ◌/◌, ◌%◌, ◌^◌, ◌<◌, ◌≤◌, true, false, cond, eqb, ◌≢◌, ◌⊎◌, List, [], ◌∷◌, ◌++◌, length, get_or, set, sym, refl, ap, ◌∙◌, subst, inl, inr, mul_assoc, mul_comm, add-mul, one-mul, add-one, arith, length-set, pow_pos, pow_mono}
use native.Mathlib.Nat.{div-eq_of_lt}
use lib.Pow.{mod-mod-pow}
use Rattle.std.proofs.lemmas.Nat.{field_of, mod_below, mod_low, mod-mul-add, pow-add, shl-shr, shr_high, shr-shr}
use Rattle.std.proofs.lemmas.List.{get_or-set_same, get_or-set_other}
use Rattle.std.proofs.lemmas.Bool.{cases_eq, cond_both, cond-false}
use Rattle.port.specs.Lanes.{enabled, joined_bytes, lane, lanes_stored, word_at, words_at}

pub length_words_at : (w : ℕ) (byte : ℕ → ℕ) (o n : ℕ) → length (words_at w byte o n) ≡ n
unfolding words_at
length_words_at w byte o zero = refl
length_words_at w byte o (suc n) = ap suc (length_words_at w byte (o + 1) n)

pub length_lanes_stored : (a m d n : ℕ) (memory : List ℕ) → length (lanes_stored a m d n memory) ≡ length memory
unfolding lanes_stored
length_lanes_stored a m d zero memory = refl
length_lanes_stored a m d (suc i) memory =
    let below = length_lanes_stored a m d i memory in
    cond_both (enabled m i) _ _ (λ (xs : List ℕ). length xs ≡ length memory)
    (λ _. length-set (lanes_stored a m d i memory) (a + i) (lane d i) ∙ below)
    (λ _. below)

-- two memories that agree below a limit give the same words there
joined_agree : (f g : ℕ → ℕ) (a n limit : ℕ) → ((i : ℕ) → i < limit → f i ≡ g i) → a + n ≤ limit → joined_bytes f a n ≡ joined_bytes g a n
unfolding joined_bytes
joined_agree f g a zero limit same fits = refl
joined_agree f g a (suc n) limit same fits =
    let here = same a (omega arith) in
    let rest = joined_agree f g (a + 1) n limit same (omega arith) in
    cc

pub words_agree : (w : ℕ) (f g : ℕ → ℕ) (o n limit : ℕ) → ((i : ℕ) → i < limit → f i ≡ g i) → o * w + n * w ≤ limit → words_at w f o n ≡ words_at w g o n
unfolding words_at
words_agree w f g o zero limit same fits = refl
words_agree w f g o (suc n) limit same fits =
    let split : suc n * w ≡ n * w + w = ap (λ k. k * w) (sym (add-one n)) ∙ add-mul n 1 w ∙ ap (λ k. n * w + k) (one-mul w) in
    let on : (o + 1) * w ≡ o * w + w = add-mul o 1 w ∙ ap (λ k. o * w + k) (one-mul w) in
    let here = joined_agree f g (o * w) w limit same (omega arith) in
    let rest = words_agree w f g (o + 1) n limit same (omega arith) in
    cc

-- a word of n bytes is below 256 to the n
pub joined_below : (f : ℕ → ℕ) (a n : ℕ) → ((i : ℕ) → f i < 256) → joined_bytes f a n < 2 ^ (8 * n)
unfolding joined_bytes
joined_below f a zero small = omega arith
joined_below f a (suc n) small =
    let here = small a in
    let rest = joined_below f (a + 1) n small in
    let e : 8 * suc n ≡ 8 * n + 8 = omega arith in
    let p : 2 ^ (8 * suc n) ≡ 2 ^ (8 * n) * 256 = ap (λ k. 2 ^ k) e ∙ pow-add 2 (8 * n) 8 in
    omega arith

pub words_below : (w : ℕ) (f : ℕ → ℕ) (o n : ℕ) → ((i : ℕ) → f i < 256) → (i : ℕ) → get_or (words_at w f o n) i 0 < 2 ^ (8 * w)
unfolding words_at
words_below w f o zero small i = pow_pos (8 * w)
words_below w f o (suc n) small zero = joined_below f (o * w) w small
words_below w f o (suc n) small (suc i) = words_below w f (o + 1) n small i

-- what stands in a list after a set is the new element or the old one
get_or_set_below : (P : ℕ → Type 0) (xs : List ℕ) (k v i : ℕ) → P v → P (get_or xs i 0) → P (get_or (set xs k v) i 0)
get_or_set_below P [] k v i new old = old
get_or_set_below P (x ∷ xs) zero v zero new old = new
get_or_set_below P (x ∷ xs) zero v (suc i) new old = old
get_or_set_below P (x ∷ xs) (suc k) v zero new old = old
get_or_set_below P (x ∷ xs) (suc k) v (suc i) new old = get_or_set_below P xs k v i new old

pub bytes_stored : (a m d n : ℕ) (memory : List ℕ) → ((i : ℕ) → get_or memory i 0 < 256) → (i : ℕ) → get_or (lanes_stored a m d n memory) i 0 < 256
unfolding lanes_stored
bytes_stored a m d zero memory small i = small i
bytes_stored a m d (suc j) memory small i =
    let below = bytes_stored a m d j memory small i in
    cond_both (enabled m j) _ _ (λ (xs : List ℕ). get_or xs i 0 < 256)
    (λ _. get_or_set_below (λ b. b < 256) (lanes_stored a m d j memory) (a + j) (lane d j) i (mod_below (d / 2 ^ (8 * j)) 256 (omega arith)) below)
    (λ _. below)

-- bytes outside the lanes stay
pub stored_outside : (a m d n : ℕ) (memory : List ℕ) (i : ℕ) → (i < a) ⊎ (a + n ≤ i) → get_or (lanes_stored a m d n memory) i 0 ≡ get_or memory i 0
unfolding lanes_stored
stored_outside a m d zero memory i out = refl
stored_outside a m d (suc j) memory i out =
    let narrow : (i < a) ⊎ (a + j ≤ i) = elim out [ inl h ↦ inl h | inr h ↦ inr (omega arith) ] in
    let below = stored_outside a m d j memory i narrow in
    let apart : i ≢ a + j = elim out [ inl h ↦ omega arith | inr h ↦ omega arith ] in
    cond_both (enabled m j) _ _ (λ (xs : List ℕ). get_or xs i 0 ≡ get_or memory i 0)
    (λ _. get_or-set_other (lanes_stored a m d j memory) (a + j) i (lane d j) 0 apart ∙ below)
    (λ _. below)

-- lane j of the stored word is the word's where the mask enables it
pub stored_inside : (a m d n : ℕ) (memory : List ℕ) (j : ℕ) → j < n → a + j < length memory →
    get_or (lanes_stored a m d n memory) (a + j) 0 ≡ cond (enabled m j) (lane d j) (get_or memory (a + j) 0)
unfolding lanes_stored
stored_inside a m d zero memory j lt fits = absurd (omega arith)
stored_inside a m d (suc k) memory j lt fits =
    let xs = lanes_stored a m d k memory in
    elim (cases_eq j k) [
      | inl e ↦
          let out = stored_outside a m d k memory (a + j) (inr (omega arith)) in
          let fit : a + j < length xs = omega (arith, length_lanes_stored a m d k memory) in
          subst (λ q. get_or (cond (enabled m q) (set xs (a + q) (lane d q)) xs) (a + j) 0 ≡ cond (enabled m j) (lane d j) (get_or memory (a + j) 0)) e
          (elim (enabled m j) as (λ t. get_or (cond t (set xs (a + j) (lane d j)) xs) (a + j) 0 ≡ cond t (lane d j) (get_or memory (a + j) 0)) [
            | true ↦ get_or-set_same xs (a + j) (lane d j) 0 fit
            | false ↦ out
          ])
      | inr ne ↦
          let below = stored_inside a m d k memory j (omega arith) fits in
          let apart : a + j ≢ a + k = omega arith in
          cond_both (enabled m k) _ _ (λ (ys : List ℕ). get_or ys (a + j) 0 ≡ cond (enabled m j) (lane d j) (get_or memory (a + j) 0))
          (λ _. get_or-set_other xs (a + k) (a + j) (lane d k) 0 apart ∙ below)
          (λ _. below)
    ]

-- Parts of words -----------------------------------------------------------------------

-- a field of bits that lies below a limit is that of the bits below the limit
field_below : (x i j w : ℕ) → i + j ≤ w → x % 2 ^ w / 2 ^ i % 2 ^ j ≡ x / 2 ^ i % 2 ^ j
field_below x i j w fits =
    let above : w - i + i ≡ w = omega arith in
    let over : w - i - j + j ≡ w - i = omega arith in
    ap (λ k. x % 2 ^ k / 2 ^ i % 2 ^ j) (sym above) ∙ (ap (λ y. y % 2 ^ j) (field_of x (w - i) i)
    ∙ (ap (λ k. x / 2 ^ i % 2 ^ k % 2 ^ j) (sym over) ∙ mod-mod-pow (x / 2 ^ i) (w - i - j) j))

enabled_low : (m w i : ℕ) → i < w → enabled (m % 2 ^ w) i ≡ enabled m i
enabled_low m w i lt = ap (λ b. eqb b 1) (field_below m i 1 w (omega arith))

lane_low : (d w i : ℕ) → i < w → lane (d % 2 ^ (8 * w)) i ≡ lane d i
lane_low d w i lt = field_below d (8 * i) 8 (8 * w) (omega arith)

enabled_high : (m w i : ℕ) → enabled m (w + i) ≡ enabled (m / 2 ^ w) i
enabled_high m w i = ap (λ q. eqb (q % 2) 1) (sym (shr-shr m w i))

lane_high : (d w i : ℕ) → lane d (w + i) ≡ lane (d / 2 ^ (8 * w)) i
lane_high d w i =
    let e : 8 * (w + i) ≡ 8 * w + 8 * i = omega arith in
    ap (λ k. d / 2 ^ k % 256) e ∙ ap (λ q. q % 256) (sym (shr-shr d (8 * w) (8 * i)))

-- a mask enables no lane from its own size on
enabled_off : (m v i : ℕ) → m < 2 ^ v → v ≤ i → enabled m i ≡ false
enabled_off m v i small past =
    let up = pow_mono {i = v} {j = i} past in
    let below : m < 2 ^ i = omega arith in
    let none : m / 2 ^ i ≡ 0 = div-eq_of_lt below in
    ap (λ q. eqb (q % 2) 1) none

-- masks and words that agree on the lanes store the same
lanes_agree : (a m d m' d' n : ℕ) (memory : List ℕ) → ((i : ℕ) → i < n → enabled m i ≡ enabled m' i) → ((i : ℕ) → i < n → lane d i ≡ lane d' i) →
    lanes_stored a m d n memory ≡ lanes_stored a m' d' n memory
unfolding lanes_stored
lanes_agree a m d m' d' zero memory masks words = refl
lanes_agree a m d m' d' (suc i) memory masks words =
    let here = masks i (omega arith) in
    let word = words i (omega arith) in
    let rest = lanes_agree a m d m' d' i memory (λ j lt. masks j (omega arith)) (λ j lt. words j (omega arith)) in
    cc

-- the lanes of a word are stored from its low bits alone
pub lanes_low : (a m d w : ℕ) (memory : List ℕ) → lanes_stored a (m % 2 ^ w) (d % 2 ^ (8 * w)) w memory ≡ lanes_stored a m d w memory
lanes_low a m d w memory = lanes_agree a (m % 2 ^ w) (d % 2 ^ (8 * w)) m d w memory (enabled_low m w) (lane_low d w)

-- a wide word is stored as its low lanes, and then the others above them
pub lanes_split : (a m d w n : ℕ) (memory : List ℕ) →
    lanes_stored a m d (w + n) memory ≡ lanes_stored (a + w) (m / 2 ^ w) (d / 2 ^ (8 * w)) n (lanes_stored a (m % 2 ^ w) (d % 2 ^ (8 * w)) w memory)
unfolding lanes_stored
lanes_split a m d w zero memory =
    let e : w + zero ≡ w = omega arith in
    ap (λ k. lanes_stored a m d k memory) e ∙ sym (lanes_low a m d w memory)
lanes_split a m d w (suc i) memory =
    let up : w + suc i ≡ suc (w + i) = omega arith in
    let here = enabled_high m w i in
    let word = lane_high d w i in
    let place : a + (w + i) ≡ a + w + i = omega arith in
    let rest = lanes_split a m d w i memory in
    let step : lanes_stored a m d (suc (w + i)) memory
    ≡ lanes_stored (a + w) (m / 2 ^ w) (d / 2 ^ (8 * w)) (suc i) (lanes_stored a (m % 2 ^ w) (d % 2 ^ (8 * w)) w memory) = cc in
    ap (λ k. lanes_stored a m d k memory) up ∙ step

-- lanes that the mask is too small for are off
lanes_off : (a m d v n : ℕ) (memory : List ℕ) → m < 2 ^ v → lanes_stored a m d (v + n) memory ≡ lanes_stored a m d v memory
unfolding lanes_stored
lanes_off a m d v zero memory small =
    let e : v + zero ≡ v = omega arith in
    ap (λ k. lanes_stored a m d k memory) e
lanes_off a m d v (suc i) memory small =
    let up : v + suc i ≡ suc (v + i) = omega arith in
    let xs = lanes_stored a m d (v + i) memory in
    let off = cond-false (enabled m (v + i)) (set xs (a + (v + i)) (lane d (v + i))) xs (enabled_off m v (v + i) small (omega arith)) in
    ap (λ k. lanes_stored a m d k memory) up ∙ (off ∙ lanes_off a m d v i memory small)

-- an empty mask stores nothing
pub lanes_none : (a d n : ℕ) (memory : List ℕ) → lanes_stored a 0 d n memory ≡ memory
unfolding lanes_stored
lanes_none a d n memory =
    let e : n ≡ 0 + n = omega arith in
    ap (λ k. lanes_stored a 0 d k memory) e ∙ lanes_off a 0 d 0 n memory (omega arith)

-- a narrow word moved up by l lanes is stored l bytes further on
pub lanes_moved : (a l v n m d : ℕ) (memory : List ℕ) → l + v ≤ n → m < 2 ^ v → lanes_stored a (m * 2 ^ l) (d * 2 ^ (8 * l)) n memory ≡ lanes_stored (a + l) m d v memory
lanes_moved a l v n m d memory fits small =
    let whole : l + (n - l) ≡ n = omega arith in
    let rest : v + (n - l - v) ≡ n - l = omega arith in
    let zeros : m * 2 ^ l ≡ m * 2 ^ l + 0 = omega arith in
    let low : m * 2 ^ l % 2 ^ l ≡ 0 = ap (λ k. k % 2 ^ l) zeros ∙ mod-mul-add m (2 ^ l) 0 (pow_pos l) in
    let split = lanes_split a (m * 2 ^ l) (d * 2 ^ (8 * l)) l (n - l) memory in
    let below = lanes_none a (d * 2 ^ (8 * l) % 2 ^ (8 * l)) l memory in
    let mask = shl-shr m l in
    let word = shl-shr d (8 * l) in
    let above = lanes_off (a + l) m d v (n - l - v) memory small in
    cc

-- a word is its low bytes and the bytes above them
pub joined_split : (f : ℕ → ℕ) (a m n : ℕ) → joined_bytes f a (m + n) ≡ joined_bytes f a m + 2 ^ (8 * m) * joined_bytes f (a + m) n
unfolding joined_bytes
joined_split f a zero n =
    let none : zero + n ≡ n = omega arith in
    let start : a + zero ≡ a = omega arith in
    let left = ap (λ k. joined_bytes f a k) none in
    let right = ap (λ k. joined_bytes f k n) start in
    omega arith
joined_split f a (suc m) n =
    let up : suc m + n ≡ suc (m + n) = omega arith in
    let place : a + 1 + m ≡ a + suc m = omega arith in
    let e : 8 * suc m ≡ 8 * m + 8 = omega arith in
    let grown : joined_bytes f a (suc m + n) ≡ f a + 256 * joined_bytes f (a + 1) (m + n) = ap (λ k. joined_bytes f a k) up in
    let more = joined_bytes f (a + suc m) n in
    let rest : joined_bytes f (a + 1) (m + n) ≡ joined_bytes f (a + 1) m + 2 ^ (8 * m) * more =
    subst (λ k. joined_bytes f (a + 1) (m + n) ≡ joined_bytes f (a + 1) m + 2 ^ (8 * m) * joined_bytes f k n) place (joined_split f (a + 1) m n) in
    let power : 2 ^ (8 * suc m) ≡ 256 * 2 ^ (8 * m) = ap (λ k. 2 ^ k) e ∙ (pow-add 2 (8 * m) 8 ∙ mul_comm (2 ^ (8 * m)) 256) in
    let scaled : 2 ^ (8 * suc m) * more ≡ 256 * (2 ^ (8 * m) * more) = ap (λ q. q * more) power ∙ mul_assoc 256 (2 ^ (8 * m)) more in
    omega arith

joined_high : (f : ℕ → ℕ) (a m n : ℕ) → joined_bytes f a (m + n) ≡ joined_bytes f (a + m) n * 2 ^ (8 * m) + joined_bytes f a m
joined_high f a m n = omega (arith, joined_split f a m n, mul_comm (2 ^ (8 * m)) (joined_bytes f (a + m) n))

-- the word of v bytes from byte l on, out of a word of n bytes
pub joined_inside : (f : ℕ → ℕ) (a l v n : ℕ) → ((i : ℕ) → f i < 256) → l + v ≤ n → joined_bytes f a n / 2 ^ (8 * l) % 2 ^ (8 * v) ≡ joined_bytes f (a + l) v
joined_inside f a l v n small fits =
    let whole : l + (v + (n - l - v)) ≡ n = omega arith in
    let upper : joined_bytes f a n / 2 ^ (8 * l) ≡ joined_bytes f (a + l) (v + (n - l - v)) =
    ap (λ k. joined_bytes f a k / 2 ^ (8 * l)) (sym whole) ∙ (ap (λ x. x / 2 ^ (8 * l)) (joined_high f a l (v + (n - l - v)))
    ∙ shr_high (joined_bytes f (a + l) (v + (n - l - v))) (8 * l) (joined_bytes f a l) (joined_below f a l small)) in
    ap (λ x. x % 2 ^ (8 * v)) (upper ∙ joined_high f (a + l) v (n - l - v))
    ∙ mod_low (joined_bytes f (a + l + v) (n - l - v)) (8 * v) (joined_bytes f (a + l) v) (joined_below f (a + l) v small)

-- words, and those that follow them
pub words_append : (w : ℕ) (f : ℕ → ℕ) (o m n : ℕ) → words_at w f o (m + n) ≡ words_at w f o m ++ words_at w f (o + m) n
unfolding words_at
words_append w f o zero n =
    let none : zero + n ≡ n = omega arith in
    let start : o ≡ o + zero = omega arith in
    ap (λ k. words_at w f o k) none ∙ ap (λ k. words_at w f k n) start
words_append w f o (suc m) n =
    let up : suc m + n ≡ suc (m + n) = omega arith in
    let place : o + 1 + m ≡ o + suc m = omega arith in
    ap (λ k. words_at w f o k) up
    ∙ ap (λ xs. word_at w f o ∷ xs) (words_append w f (o + 1) m n ∙ ap (λ k. words_at w f (o + 1) m ++ words_at w f k n) place)
