-- Laws of words joined from bytes, and of lanes stored, step by step.
use Rattle.std.proofs.Common.{◌≡◌, ℕ, zero, suc, ◌+◌, ◌-◌, ◌<◌, ◌≤◌, true, false, cond, List, [], ◌∷◌, ◌++◌, length, get_or, set, take, drop, replicate, refl, ap, ◌∙◌, append_assoc, add-zero, add-one, arith, length-drop, length-take-le}
use Rattle.std.proofs.lemmas.List.{get_or-drop, get_or-take, set-append_left, set-append_right, take-append-drop}
use borrow.Rule.Slice.PartMut.{put_mid}
use Rattle.std.specs.Int.{from_le_bytes, to_le_bytes, w64}
use Rattle.port.proofs.Bytes.{length_lanes_stored, words_append}
use Rattle.port.specs.Lanes.{byte_in, enabled, joined_bytes, lane, lanes_stored, word_at, words_at}

-- the lanes of a word, the lowest first, filled up to eight bytes
pub joined_eight : (xs : List ℕ) → length xs ≤ 8 → from_le_bytes w64 (xs ++ drop (length xs) (replicate 8 0)) ≡ joined_bytes (byte_in xs) 0 (length xs)
unfolding joined_bytes
joined_eight [] le = omega arith
joined_eight (a ∷ []) le = omega arith
joined_eight (a ∷ b ∷ []) le = omega arith
joined_eight (a ∷ b ∷ c ∷ []) le = omega arith
joined_eight (a ∷ b ∷ c ∷ d ∷ []) le = omega arith
joined_eight (a ∷ b ∷ c ∷ d ∷ e ∷ []) le = omega arith
joined_eight (a ∷ b ∷ c ∷ d ∷ e ∷ f ∷ []) le = omega arith
joined_eight (a ∷ b ∷ c ∷ d ∷ e ∷ f ∷ g ∷ []) le = omega arith
joined_eight (a ∷ b ∷ c ∷ d ∷ e ∷ f ∷ g ∷ h ∷ []) le = omega arith
joined_eight (a ∷ b ∷ c ∷ d ∷ e ∷ f ∷ g ∷ h ∷ i ∷ xs) le = absurd (omega arith)

pub lane_at : (word i : ℕ) → i < 8 → get_or (to_le_bytes w64 word) i 0 ≡ lane word i
lane_at word zero lt = omega arith
lane_at word (suc zero) lt = refl
lane_at word (suc (suc zero)) lt = refl
lane_at word (suc (suc (suc zero))) lt = refl
lane_at word (suc (suc (suc (suc zero)))) lt = refl
lane_at word (suc (suc (suc (suc (suc zero))))) lt = refl
lane_at word (suc (suc (suc (suc (suc (suc zero)))))) lt = refl
lane_at word (suc (suc (suc (suc (suc (suc (suc zero))))))) lt = refl
lane_at word (suc (suc (suc (suc (suc (suc (suc (suc i)))))))) lt = absurd (omega arith)

-- words are joined alike from bytes that are alike
pub joined_alike : (f g : ℕ → ℕ) (a b n : ℕ) → ((i : ℕ) → i < n → f (a + i) ≡ g (b + i)) → joined_bytes f a n ≡ joined_bytes g b n
unfolding joined_bytes
joined_alike f g a b zero same = refl
joined_alike f g a b (suc n) same =
    let h : f a ≡ g b = simp add-zero at (same 0 (omega arith)) in
    let later = joined_alike f g (a + 1) (b + 1) n (λ i lt.
    let x : a + 1 + i ≡ a + (i + 1) = omega arith in
    let y : b + (i + 1) ≡ b + 1 + i = omega arith in
    ap f x ∙ (same (i + 1) (omega arith) ∙ ap g y)) in
    cc

-- the word of the bytes of a memory from a to e
pub joined_part : (memory : List ℕ) (a e : ℕ) → a ≤ e → e ≤ length memory →
    joined_bytes (byte_in (take (e - a) (drop a memory))) 0 (length (take (e - a) (drop a memory))) ≡ joined_bytes (byte_in memory) a (e - a)
joined_part memory a e up le =
    let part = take (e - a) (drop a memory) in
    let long : length part ≡ e - a = length-take-le (e - a) (drop a memory) (omega (arith, length-drop a memory)) in
    let same = joined_alike (byte_in part) (byte_in memory) 0 a (e - a) (λ i lt.
    let z : 0 + i ≡ i = omega arith in
    ap (byte_in part) z ∙ (get_or-take (e - a) (drop a memory) i 0 lt ∙ get_or-drop a memory i 0)) in
    ap (joined_bytes (byte_in part) 0) long ∙ same

-- one lane more is stored where the mask enables it
pub store_yes : (start mask word i v : ℕ) (memory was : List ℕ) → enabled mask i ≡ true → v ≡ lane word i → was ≡ lanes_stored start mask word i memory →
    set was (start + i) v ≡ lanes_stored start mask word (i + 1) memory
unfolding lanes_stored
store_yes start mask word i v memory was on here e =
    rw (add-one i) (rw on (rw here (ap (λ m. set m (start + i) (lane word i)) e)))

pub store_no : (start mask word i : ℕ) (memory was : List ℕ) → enabled mask i ≡ false → was ≡ lanes_stored start mask word i memory →
    was ≡ lanes_stored start mask word (i + 1) memory
unfolding lanes_stored
store_no start mask word i memory was off e = rw (add-one i) (rw off e)

-- lanes stored within a part of a memory
within_part : (front part back : List ℕ) (mask word n : ℕ) → n ≤ length part →
    lanes_stored (length front) mask word n (front ++ (part ++ back)) ≡ front ++ (lanes_stored 0 mask word n part ++ back)
unfolding lanes_stored
within_part front part back mask word zero le = refl
within_part front part back mask word (suc n) le =
    let e = within_part front part back mask word n (omega arith) in
    let was = lanes_stored 0 mask word n part in
    let whole = lanes_stored (length front) mask word n (front ++ (part ++ back)) in
    let long = length_lanes_stored 0 mask word n part in
    let v = lane word n in
    elim (enabled mask n) as (λ b. cond b (set whole (length front + n) v) whole ≡ front ++ (cond b (set was (0 + n) v) was ++ back)) [
      | true ↦
          let k : length front + n - length front ≡ n = omega arith in
          let z : 0 + n ≡ n = omega arith in
          let r = set-append_right front (was ++ back) (length front) (length front + n) v refl (omega arith) in
          let l = set-append_left was back n v (omega arith) in
          cc
      | false ↦ e
    ]

-- the bytes of a memory from a to e, with lanes stored in them
pub stored_part : (memory : List ℕ) (a e mask word : ℕ) → a ≤ e → e ≤ length memory →
    put_mid a (e - a) memory (lanes_stored 0 mask word (length (take (e - a) (drop a memory))) (take (e - a) (drop a memory))) ≡ lanes_stored a mask word (e - a) memory
stored_part memory a e mask word up le =
    let front = take a memory in
    let part = take (e - a) (drop a memory) in
    let back = drop (e - a) (drop a memory) in
    let starts : length front ≡ a = length-take-le a memory (omega arith) in
    let long : length part ≡ e - a = length-take-le (e - a) (drop a memory) (omega (arith, length-drop a memory)) in
    let all : front ++ (part ++ back) ≡ memory = ap (λ xs. front ++ xs) (take-append-drop (e - a) (drop a memory)) ∙ take-append-drop a memory in
    let within = within_part front part back mask word (e - a) (omega arith) in
    cc

-- with the word at p, the words from o on are owed up to p + 1
pub owed_more : (w : ℕ) (byte : ℕ → ℕ) (o p x : ℕ) (was owed is : List ℕ) → o ≤ p → x ≡ word_at w byte p → owed ≡ was ++ words_at w byte o (p - o) → is ≡ owed ++ (x ∷ []) →
    is ≡ was ++ words_at w byte o (p + 1 - o)
unfolding words_at
owed_more w byte o p x was owed is le here e more =
    let long : p + 1 - o ≡ p - o + 1 = omega arith in
    let place : o + (p - o) ≡ p = omega arith in
    let all = words_append w byte o (p - o) 1 in
    let asc = append_assoc was (words_at w byte o (p - o)) (x ∷ []) in
    let last : words_at w byte p 1 ≡ word_at w byte p ∷ [] = refl in
    cc
