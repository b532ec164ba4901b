-- A word that comes from below, and the host word that it makes whole.
use Rattle.std.proofs.Common.{◌≡◌, ℕ, zero, suc, ◌+◌, ◌-◌, ◌*◌, ◌^◌, ◌<◌, ◌≤◌, ltb, ◌⊎◌, List, [], ◌∷◌, ◌++◌, length, get_or, drop, Some, None, Option, sym, refl, ap, ◌∙◌, subst, inl, inr, add-mul, one-mul, zero-mul, one-add, arith, pow_pos}
use Rattle.std.proofs.lemmas.Bool.{cases_Bool, cond_both, ltb-false, ltb-true}
use Rattle.port.specs.Machine.{First, given, one_came}
use Rattle.port.specs.State.{State}
use Rattle.adapters.specs.Above.{owed_above, words_in_slot}
use Rattle.adapters.specs.Engine.{bursts_less}
use Rattle.adapters.specs.Kept.{BurstsWithin}
use Rattle.adapters.specs.Owed.{collected_after, counted, first_offset, host_words, lanes_of, lefts, more_to_come, next_owed, offsets_in, one_gone, value_with, word_up}
use Rattle.adapters.specs.declared.cut.Cut.{Cut}
use Rattle.adapters.specs.Slots.{Slot}
use Rattle.adapters.specs.declared.owed.Collected.{Collected}
use Rattle.adapters.specs.declared.owed.OwedBurst.{OwedBurst}
use Rattle.adapters.proofs.Bursts.{lefts_gone}
use Rattle.adapters.proofs.Rows.{value_fits}

-- a list after its first item has come, or none has
abbrev pub after_first : Option ℕ → List ℕ → List ℕ
after_first None xs = xs
after_first (Some x) xs = drop 1 xs

-- The read bursts owed by their offsets --------------------------------------------------

counted_first : (h n : ℕ) (more : List ℕ) → 1 ≤ n → counted h n ++ more ≡ h ∷ (counted (h + 1) (n - 1) ++ more)
unfolding counted
counted_first h zero more some = absurd (omega arith)
counted_first h (suc n) more some = let e : suc n - 1 ≡ n = omega arith in ap (λ i. h ∷ (counted (h + 1) i ++ more)) (sym e)

counted_none : (h n : ℕ) → n ≡ 0 → counted h n ≡ []
unfolding counted
counted_none h zero e = refl
counted_none h (suc n) e = absurd (omega arith)

first_owed : (size : ℕ) (bs : List OwedBurst) → BurstsWithin size bs → first_offset (offsets_in bs) ≡ next_owed bs
unfolding offsets_in
first_owed size [] within = refl
first_owed size (b ∷ bs) within = ap first_offset (counted_first b.next.0 b.left (offsets_in bs) within.0)

gone_offsets : (size : ℕ) (bs : List OwedBurst) → BurstsWithin size bs → offsets_in (one_gone bs) ≡ drop 1 (offsets_in bs)
unfolding offsets_in
gone_offsets size [] within = refl
gone_offsets size (b ∷ bs) within =
    let h = b.next.0 in
    let n = b.left in
    let rest = ap (drop 1) (counted_first h n (offsets_in bs) within.0) in
    cond_both (ltb 1 n) (record { next = record { 0 = h + 1 }; left = n - 1 } ∷ bs) bs (λ ds. offsets_in ds ≡ drop 1 (counted h n ++ offsets_in bs))
    (λ e. sym rest)
    (λ e. let le = ltb-false 1 n e in let none : n - 1 ≡ 0 = omega arith in sym (rest ∙ ap (λ xs. xs ++ offsets_in bs) (counted_none (h + 1) (n - 1) none)))

gone_within : (size : ℕ) (bs : List OwedBurst) → BurstsWithin size bs → BurstsWithin size (one_gone bs)
gone_within size [] within = tt
gone_within size (b ∷ bs) within =
    cond_both (ltb 1 b.left) (record { next = record { 0 = b.next.0 + 1 }; left = b.left - 1 } ∷ bs) bs (BurstsWithin size)
    (λ e. let more = ltb-true 1 b.left e in (omega arith, omega arith, within.2))
    (λ e. within.2)

pub less_within : (size : ℕ) (y : Option ℕ) (bs : List OwedBurst) → BurstsWithin size bs → BurstsWithin size (bursts_less y bs)
less_within size None bs within = within
less_within size (Some y) bs within = gone_within size bs within

pub less_offsets : (size : ℕ) (y : Option ℕ) (bs : List OwedBurst) → BurstsWithin size bs → offsets_in (bursts_less y bs) ≡ after_first y (offsets_in bs)
less_offsets size None bs within = refl
less_offsets size (Some y) bs within = gone_offsets size bs within

pub less_reads : (y : Option ℕ) (bs : List OwedBurst) (σ : State) → σ.reads ≡ lefts bs → lefts (bursts_less y bs) ≡ (given y σ).reads
less_reads None bs σ e = sym e
less_reads (Some y) bs σ e = lefts_gone bs ∙ ap one_came (sym e)

-- The words owed --------------------------------------------------------------------------

-- the host word is the first one owed
first_came : (c : Cut) (v : ℕ) (hs : List ℕ) (g : Collected) (owed more : List ℕ) (x : Option ℕ) → First x owed → First (word_up c v (first_offset hs) g x) (host_words c v hs g owed ++ more)
unfolding host_words
first_came c v hs g owed more None first = tt
first_came c v hs g [] more (Some z) first = absurd first
first_came c v hs g (y ∷ ys) more (Some z) first =
    elim (cases_Bool (more_to_come c g)) [
      | inl t ↦ rw t tt
      | inr t ↦ rw t (ap (λ i. lanes_of c v (first_offset hs) (value_with c g i)) first)
    ]

-- what is owed after it
rest_came : (c : Cut) (v : ℕ) (hs : List ℕ) (g : Collected) (owed more : List ℕ) (x : Option ℕ) → First x owed →
    after_first (word_up c v (first_offset hs) g x) (host_words c v hs g owed ++ more) ≡ host_words c v (after_first (word_up c v (first_offset hs) g x) hs) (collected_after c g x) (after_first x owed) ++ more
unfolding host_words
rest_came c v hs g owed more None first = refl
rest_came c v hs g [] more (Some z) first = absurd first
rest_came c v hs g (y ∷ ys) more (Some z) first =
    elim (cases_Bool (more_to_come c g)) [
      | inl t ↦ rw t (ap (λ i. host_words c v hs (record { value = value_with c g i; count = g.count + 1 }) ys ++ more) (sym first))
      | inr t ↦ rw t refl
    ]

pub word_first : (c : Cut) (v size : ℕ) (s : Slot) (bs : List OwedBurst) (g : Collected) (σ : State) (x y : Option ℕ) → BurstsWithin size bs → First x σ.owed → y ≡ word_up c v (next_owed bs) g x →
    First y (owed_above c v s bs g σ)
word_first c v size s bs g σ x y within first e =
    let is : y ≡ word_up c v (first_offset (offsets_in bs)) g x = e ∙ ap (λ h. word_up c v h g x) (sym (first_owed size bs within)) in
    subst (λ o. First o (owed_above c v s bs g σ)) (sym is) (first_came c v (offsets_in bs) g σ.owed _ x first)

pub after_given : (x : Option ℕ) (σ : State) → after_first x σ.owed ≡ (given x σ).owed
after_given None σ = refl
after_given (Some x) σ = refl

pub word_rest : (c : Cut) (v size : ℕ) (s : Slot) (bs : List OwedBurst) (g : Collected) (σ ρ : State) (x y : Option ℕ) → BurstsWithin size bs → First x σ.owed → y ≡ word_up c v (next_owed bs) g x →
    ρ.owed ≡ (given x σ).owed → ρ.memory ≡ σ.memory → after_first y (owed_above c v s bs g σ) ≡ owed_above c v s (bursts_less y bs) (collected_after c g x) ρ
word_rest c v size s bs g σ ρ x y within first e owed memory =
    let is : y ≡ word_up c v (first_offset (offsets_in bs)) g x = e ∙ ap (λ h. word_up c v h g x) (sym (first_owed size bs within)) in
    let same : ρ.owed ≡ after_first x σ.owed = owed ∙ sym (after_given x σ) in
    let ws = words_in_slot v s in
    let g' = collected_after c g x in
    let came = subst (λ (o : Option ℕ). after_first o (owed_above c v s bs g σ) ≡ host_words c v (after_first o (offsets_in bs)) g' (after_first x σ.owed) ++ ws σ.memory) (sym is) (rest_came c v (offsets_in bs) g σ.owed (ws σ.memory) x first) in
    came
    ∙ (ap (λ hs. host_words c v hs g' (after_first x σ.owed) ++ ws σ.memory) (sym (less_offsets size y bs within))
    ∙ (ap (λ xs. host_words c v (offsets_in (bursts_less y bs)) g' xs ++ ws σ.memory) (sym same)
    ∙ ap (λ m. host_words c v (offsets_in (bursts_less y bs)) g' ρ.owed ++ ws m) (sym memory)))

-- What is kept of the parts that have come ---------------------------------------------------

-- one host word fewer is requested when one has come
came_grouped : (c : Cut) (v h : ℕ) (g : Collected) (owed hs : List ℕ) (x : Option ℕ) → First x owed → g.count < c.parts → length hs * c.parts ≡ g.count + length owed →
    length (after_first (word_up c v h g x) hs) * c.parts ≡ (collected_after c g x).count + length (after_first x owed)
came_grouped c v h g owed hs None first few e = e
came_grouped c v h g [] hs (Some z) first few e = absurd first
came_grouped c v h g (y ∷ ys) [] (Some z) first few e = absurd (omega (arith, zero-mul c.parts))
came_grouped c v h g (y ∷ ys) (i ∷ hs) (Some z) first few e =
    let total : suc (length hs) * c.parts ≡ c.parts + length hs * c.parts =
    ap (λ k. k * c.parts) (sym (one-add (length hs))) ∙ (add-mul 1 (length hs) c.parts ∙ ap (λ k. k + length hs * c.parts) (one-mul c.parts)) in
    elim (cases_Bool (more_to_come c g)) [
      | inl t ↦ rw t (omega arith)
      | inr t ↦ let le = ltb-false (g.count + 1) c.parts t in rw t (omega arith)
    ]

pub word_grouped : (c : Cut) (v h : ℕ) (g : Collected) (σ : State) (hs : List ℕ) (x y : Option ℕ) → First x σ.owed → y ≡ word_up c v h g x → g.count < c.parts → length hs * c.parts ≡ g.count + length σ.owed →
    length (after_first y hs) * c.parts ≡ (collected_after c g x).count + length (given x σ).owed
word_grouped c v h g σ hs x y first e few grouped =
    let came = came_grouped c v h g σ.owed hs x first few grouped in
    let a = ap (λ o. length (after_first o hs) * c.parts) e in
    let b = ap (λ xs. length xs) (after_given x σ) in
    omega arith

-- the host words requested, one fewer when one has come
after_append : (y : Option ℕ) (hs more : List ℕ) → (y ≡ None) ⊎ (1 ≤ length hs) → after_first y (hs ++ more) ≡ after_first y hs ++ more
after_append None hs more some = refl
after_append (Some y) (h ∷ hs) more some = refl
after_append (Some y) [] more (inl e) = let z : ◌≡◌ {A = ℕ} 0 1 = cc in absurd (omega arith)
after_append (Some y) [] more (inr e) = absurd (omega arith)

some_asked : (c : Cut) (v h : ℕ) (g : Collected) (owed hs : List ℕ) (x : Option ℕ) → First x owed → length hs * c.parts ≡ g.count + length owed → (word_up c v h g x ≡ None) ⊎ (1 ≤ length hs)
some_asked c v h g owed hs None first e = inl refl
some_asked c v h g [] hs (Some z) first e = absurd first
some_asked c v h g (y ∷ ys) [] (Some z) first e = absurd (omega (arith, zero-mul c.parts))
some_asked c v h g (y ∷ ys) (i ∷ hs) (Some z) first e = inr (omega arith)

pub word_queued : (c : Cut) (v h size : ℕ) (g : Collected) (σ : State) (bs : List OwedBurst) (hs more : List ℕ) (x y : Option ℕ) → BurstsWithin size bs → First x σ.owed → y ≡ word_up c v h g x →
    length hs * c.parts ≡ g.count + length σ.owed → offsets_in bs ≡ hs ++ more → offsets_in (bursts_less y bs) ≡ after_first y hs ++ more
word_queued c v h size g σ bs hs more x y within first e grouped queued =
    let some = subst (λ o. (o ≡ None) ⊎ (1 ≤ length hs)) (sym e) (some_asked c v h g σ.owed hs x first grouped) in
    less_offsets size y bs within ∙ (ap (after_first y) queued ∙ after_append y hs more some)

-- the parts that have come are fewer than a host word has, and fit their lanes
pub word_few : (c : Cut) (g : Collected) (x : Option ℕ) → 1 ≤ c.parts → g.count < c.parts → (collected_after c g x).count < c.parts
word_few c g None some few = few
word_few c g (Some x) some few =
    cond_both (more_to_come c g) (record { value = value_with c g x; count = g.count + 1 }) (record { value = 0; count = 0 }) (λ (k : Collected). k.count < c.parts)
    (λ t. ltb-true (g.count + 1) c.parts t)
    (λ t. omega arith)

came_fits : (c : Cut) (g : Collected) (owed : List ℕ) (x : Option ℕ) → First x owed → ((i : ℕ) → get_or owed i 0 < 2 ^ (8 * c.width)) → g.value < 2 ^ (8 * (c.width * g.count)) →
    (collected_after c g x).value < 2 ^ (8 * (c.width * (collected_after c g x).count))
came_fits c g owed None first small fits = fits
came_fits c g [] (Some z) first small fits = absurd first
came_fits c g (y ∷ ys) (Some z) first small fits =
    cond_both (more_to_come c g) (record { value = value_with c g z; count = g.count + 1 }) (record { value = 0; count = 0 }) (λ (k : Collected). k.value < 2 ^ (8 * (c.width * k.count)))
    (λ t. value_fits g.value z c.width g.count fits (omega (arith, small 0)))
    (λ t. pow_pos (8 * (c.width * 0)))

pub word_fits : (c : Cut) (g : Collected) (σ : State) (x : Option ℕ) → First x σ.owed → ((i : ℕ) → get_or σ.owed i 0 < 2 ^ (8 * c.width)) → g.value < 2 ^ (8 * (c.width * g.count)) →
    (collected_after c g x).value < 2 ^ (8 * (c.width * (collected_after c g x).count))
word_fits c g σ x first small fits = came_fits c g σ.owed x first small fits
