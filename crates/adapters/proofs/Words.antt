-- The host words that are joined of the words below.
use Rattle.std.proofs.Common.{◌≡◌, ℕ, zero, suc, ◌+◌, ◌-◌, ◌*◌, ◌^◌, ◌<◌, ◌≤◌, true, false, ◌⊎◌, List, [], ◌∷◌, ◌++◌, length, sym, refl, ap, ◌∙◌, inl, inr, mul_comm, add-mul, one-mul, zero-mul, one-add, arith}
use Rattle.std.proofs.lemmas.Bool.{cases_Bool, le-ltb, lt-ltb, ltb-false, ltb-true}
use Rattle.port.specs.Lanes.{joined_bytes, word_at, words_at}
use Rattle.port.proofs.Bytes.{joined_inside, joined_split, length_words_at, words_append}
use Rattle.adapters.specs.Cuts.{lanes_up, offset_below}
use Rattle.adapters.specs.Owed.{counted, host_words, lanes_of, more_to_come, value_with}
use Rattle.adapters.specs.declared.cut.Cut.{Cut}
use Rattle.adapters.specs.declared.owed.Collected.{Collected}
use Rattle.adapters.proofs.Places.{lanes_within, offset_whole, same_address}

-- The words below as host words ------------------------------------------------------

-- nothing has come of the next host word
abbrev pub none_yet : Collected
none_yet = record { value = 0; count = 0 }

abbrev coll : ℕ → ℕ → Collected
coll i j = record { value = i; count = j }

-- words below that make whole host words, and then more
pub host_append : (c : Cut) (v : ℕ) (hs more : List ℕ) (g : Collected) (xs zs : List ℕ) → g.count < c.parts → (g.count ≡ 0 → g.value ≡ 0) → length hs * c.parts ≡ g.count + length xs →
    host_words c v (hs ++ more) g (xs ++ zs) ≡ host_words c v hs g xs ++ host_words c v more none_yet zs
unfolding host_words
host_append c v [] more g [] zs few none e =
    let z : g.count ≡ 0 = omega (arith, zero-mul c.parts) in
    let same : g ≡ none_yet = ap (λ (i : ℕ). coll i g.count) (none z) ∙ ap (λ (i : ℕ). coll 0 i) z in
    ap (λ (k : Collected). host_words c v more k zs) same
host_append c v (h ∷ hs) more g [] zs few none e =
    absurd (omega (arith, add-mul 1 (length hs) c.parts, ap (λ k. k * c.parts) (one-add (length hs)), one-mul c.parts))
host_append c v [] more g (x ∷ xs) zs few none e = absurd (omega (arith, zero-mul c.parts))
host_append c v (h ∷ hs) more g (x ∷ xs) zs few none e =
    let total : suc (length hs) * c.parts ≡ c.parts + length hs * c.parts =
    ap (λ k. k * c.parts) (sym (one-add (length hs))) ∙ (add-mul 1 (length hs) c.parts ∙ ap (λ k. k + length hs * c.parts) (one-mul c.parts)) in
    elim (cases_Bool (more_to_come c g)) [
      | inl t ↦
          let lt = ltb-true (g.count + 1) c.parts t in
          rw t (host_append c v (h ∷ hs) more (record { value = value_with c g x; count = g.count + 1 }) xs zs lt (λ z. absurd (omega arith)) (omega arith))
      | inr t ↦
          let le = ltb-false (g.count + 1) c.parts t in
          rw t (ap (λ ys. lanes_of c v h (value_with c g x) ∷ ys) (host_append c v hs more none_yet xs zs (omega arith) (λ z. refl) (omega arith)))
    ]

joined_none : (f : ℕ → ℕ) (a : ℕ) → joined_bytes f a 0 ≡ 0
unfolding joined_bytes
joined_none f a = refl

-- a part above those that have come, as bytes
joined_more : (f : ℕ → ℕ) (o w i : ℕ) → joined_bytes f (o * w) (i * w) + word_at w f (o + i) * 2 ^ (8 * (w * i)) ≡ joined_bytes f (o * w) ((i + 1) * w)
joined_more f o w i =
    let place : (o + i) * w ≡ o * w + i * w = add-mul o i w in
    let turn : 8 * (w * i) ≡ 8 * (i * w) = ap (λ k. 8 * k) (mul_comm w i) in
    let split : (i + 1) * w ≡ i * w + w = add-mul i 1 w ∙ ap (λ k. i * w + k) (one-mul w) in
    ap (λ k. joined_bytes f (o * w) (i * w) + k) (mul_comm (word_at w f (o + i)) (2 ^ (8 * (w * i))) ∙ (ap (λ k. 2 ^ k * word_at w f (o + i)) turn ∙ ap (λ a. 2 ^ (8 * (i * w)) * joined_bytes f a w) place))
    ∙ (sym (joined_split f (o * w) (i * w) w) ∙ ap (λ k. joined_bytes f (o * w) k) (sym split))

-- the last words below of a host word
word_rest : (c : Cut) (v h o : ℕ) (f : ℕ → ℕ) (g : Collected) (r : ℕ) → g.count + suc r ≡ c.parts → g.value ≡ joined_bytes f (o * c.width) (g.count * c.width) →
    host_words c v (h ∷ []) g (words_at c.width f (o + g.count) (suc r)) ≡ lanes_of c v h (joined_bytes f (o * c.width) (c.parts * c.width)) ∷ []
unfolding host_words words_at
word_rest c v h o f g zero last so_far =
    let t : more_to_come c g ≡ false = le-ltb (g.count + 1) c.parts (omega arith) in
    let all : g.count + 1 ≡ c.parts = omega arith in
    let joined : value_with c g (word_at c.width f (o + g.count)) ≡ joined_bytes f (o * c.width) (c.parts * c.width) =
    ap (λ k. k + word_at c.width f (o + g.count) * 2 ^ (8 * (c.width * g.count))) so_far ∙ (joined_more f o c.width g.count ∙ ap (λ k. joined_bytes f (o * c.width) (k * c.width)) all) in
    rw t (ap (λ k. lanes_of c v h k ∷ []) joined)
word_rest c v h o f g (suc r) last so_far =
    let t : more_to_come c g ≡ true = lt-ltb (g.count + 1) c.parts (omega arith) in
    let x = word_at c.width f (o + g.count) in
    let joined : value_with c g x ≡ joined_bytes f (o * c.width) ((g.count + 1) * c.width) =
    ap (λ k. k + x * 2 ^ (8 * (c.width * g.count))) so_far ∙ joined_more f o c.width g.count in
    let on : o + g.count + 1 ≡ o + (g.count + 1) = omega arith in
    rw t (ap (λ p. host_words c v (h ∷ []) (record { value = value_with c g x; count = g.count + 1 }) (words_at c.width f p (suc r))) on
    ∙ word_rest c v h o f (record { value = value_with c g x; count = g.count + 1 }) r (omega arith) joined)

-- the words below of one host word
pub one_word : (c : Cut) (v h : ℕ) (f : ℕ → ℕ) → ((i : ℕ) → f i < 256) → v * c.share ≡ c.width * c.parts → (c.share ≡ 1) ⊎ (c.parts ≡ 1) → 1 ≤ c.share → 1 ≤ c.parts →
    host_words c v (h ∷ []) none_yet (words_at c.width f (offset_below c h) c.parts) ≡ word_at v f h ∷ []
one_word c v h f small widths kind some parts =
    let o = offset_below c h in
    let w = c.width in
    let k : suc (c.parts - 1) ≡ c.parts = omega arith in
    let at : o + 0 ≡ o = omega arith in
    let whole = word_rest c v h o f none_yet (c.parts - 1) (omega arith) (sym (ap (λ k. joined_bytes f (o * w) k) (zero-mul w) ∙ joined_none f (o * w))) in
    let inside = joined_inside f (o * w) (lanes_up c v h) v (c.parts * w) small (lanes_within c v h widths some) in
    ap (λ n. host_words c v (h ∷ []) none_yet (words_at w f o n)) (sym k)
    ∙ (ap (λ p. host_words c v (h ∷ []) none_yet (words_at w f p (suc (c.parts - 1)))) (sym at)
    ∙ (whole ∙ ap (λ y. y ∷ []) (inside ∙ ap (λ a. joined_bytes f a v) (same_address c v h widths kind))))

-- the words of a read below are those of the host words that it asks for
pub read_whole : (c : Cut) (v : ℕ) (f : ℕ → ℕ) (h j : ℕ) → ((i : ℕ) → f i < 256) → v * c.share ≡ c.width * c.parts → c.share ≡ 1 → 1 ≤ c.parts →
    host_words c v (counted h j) none_yet (words_at c.width f (offset_below c h) (j * c.parts)) ≡ words_at v f h j
unfolding host_words words_at counted
read_whole c v f h zero small widths one parts =
    ap (λ n. host_words c v [] none_yet (words_at c.width f (offset_below c h) n)) (zero-mul c.parts)
read_whole c v f h (suc j) small widths one parts =
    let w = c.width in
    let k = c.parts in
    let o = offset_below c h in
    let total : suc j * k ≡ k + j * k = ap (λ i. i * k) (sym (one-add j)) ∙ (add-mul 1 j k ∙ ap (λ i. i + j * k) (one-mul k)) in
    let next : o + k ≡ offset_below c (h + 1) =
    ap (λ i. i + k) (offset_whole c h one) ∙ (ap (λ i. h * k + i) (sym (one-mul k)) ∙ (sym (add-mul h 1 k) ∙ sym (offset_whole c (h + 1) one))) in
    let cut : words_at w f o (suc j * k) ≡ words_at w f o k ++ words_at w f (offset_below c (h + 1)) (j * k) =
    ap (λ n. words_at w f o n) total ∙ (words_append w f o k (j * k) ∙ ap (λ p. words_at w f o k ++ words_at w f p (j * k)) next) in
    ap (λ ws. host_words c v (h ∷ counted (h + 1) j) none_yet ws) cut
    ∙ (host_append c v (h ∷ []) (counted (h + 1) j) none_yet (words_at w f o k) (words_at w f (offset_below c (h + 1)) (j * k)) (omega arith) (λ _. refl) (omega (arith, length_words_at w f o k, one-mul k))
    ∙ (ap (λ ys. ys ++ host_words c v (counted (h + 1) j) none_yet (words_at w f (offset_below c (h + 1)) (j * k))) (one_word c v h f small widths (inl one) (omega arith) parts)
    ∙ ap (λ ys. word_at v f h ∷ ys) (read_whole c v f (h + 1) j small widths one parts)))
