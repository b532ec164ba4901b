-- A part that the port below has answered: what is in the slot and what is below are together as before.
use Rattle.std.proofs.Common.{◌≡◌, ℕ, zero, suc, ◌+◌, ◌-◌, ◌*◌, ◌/◌, ◌%◌, ◌^◌, ◌<◌, ◌≤◌, cond, ltb, ◌⊎◌, List, [], ◌∷◌, ◌++◌, length, Some, None, Option, sym, refl, ap, ◌∙◌, subst, inl, inr, add-mul, one-mul, zero-mul, arith}
use Rattle.std.proofs.lemmas.List.{append_assoc, append-nil, length-append}
use Rattle.std.proofs.lemmas.Bool.{cases_Bool, cond_both, ltb-false, ltb-true}
use Rattle.port.specs.Lanes.{byte_in, stored, words_at}
use Rattle.port.specs.Machine.{acted, beat_offset}
use Rattle.port.specs.Runs.{takes}
use Rattle.port.specs.State.{State}
use Rattle.port.specs.declared.addresses.WordOffset.{WordOffset}
use Rattle.port.specs.declared.calls.OpenBurst.{OpenBurst}
use Rattle.port.specs.declared.calls.Reply.{Reply}
use Rattle.port.specs.declared.calls.Reply.TheVariants as reply
use Rattle.port.specs.declared.numbers.Numbers.{Numbers}
use Rattle.port.proofs.Bytes.{length_words_at, words_append}
use Rattle.adapters.specs.Above.{memory_with, owed_above, words_in_slot}
use Rattle.adapters.specs.Cuts.{after_part, in_one_burst, next_part, offset_below}
use Rattle.adapters.specs.Engine.{slot_sent}
use Rattle.adapters.specs.Kept.{Fitted, LinedUp, Opening, offsets_in_slot}
use Rattle.adapters.specs.Owed.{counted, host_words, offsets_in}
use Rattle.adapters.specs.declared.cut.Cut.{Cut}
use Rattle.adapters.specs.Slots.{Empty, Reading, Beat, Slot}
use Rattle.adapters.specs.declared.owed.Collected.{Collected}
use Rattle.adapters.specs.declared.owed.OwedBurst.{OwedBurst}
use Rattle.adapters.proofs.Beats.{part_stored}
use Rattle.adapters.proofs.Words.{host_append, none_yet, one_word, read_whole}

-- Memory ------------------------------------------------------------------------------------

-- a part goes where its slot says
part_place : (c : Cut) (n : Numbers) (o p left : ℕ) (b : Option OpenBurst) → Opening c n o p left b → beat_offset b o ≡ o
part_place c n o p left None opening = refl
part_place c n o p left (Some b) opening = opening.1

-- a read in the slot stores nothing
still : (c : Cut) (h : WordOffset) (n : ℕ) (memory : List ℕ) → memory_with c (after_part c (Reading h n)) memory ≡ memory
still c h n memory = cond_both (ltb c.most n) (Reading (record { 0 = h.0 + c.most }) (n - c.most)) Empty (λ s. memory_with c s memory ≡ memory) (λ _. refl) (λ _. refl)

pub memory_sent : (c : Cut) (n n' : Numbers) (s : Slot) (a : Reply) (ρ : State) (b' : Option OpenBurst) → LinedUp c n n' s ρ.burst b' →
    memory_with c (slot_sent c a s) (acted c.width (next_part c s) a ρ).memory ≡ memory_with c s ρ.memory
memory_sent c n n' Empty reply.Idle ρ b' lined = refl
memory_sent c n n' Empty reply.Wait ρ b' lined = refl
memory_sent c n n' Empty reply.Take ρ b' lined = refl
memory_sent c n n' (Reading h k) reply.Idle ρ b' lined = refl
memory_sent c n n' (Reading h k) reply.Wait ρ b' lined = refl
memory_sent c n n' (Reading h k) reply.Take ρ b' lined = still c h k ρ.memory
memory_sent c n n' (Beat o p m d k) reply.Idle ρ b' lined = refl
memory_sent c n n' (Beat o p m d k) reply.Wait ρ b' lined = refl
memory_sent c n n' (Beat o p m d k) reply.Take ρ b' lined =
    let w = c.width in
    ap (λ at. memory_with c (after_part c (Beat o p m d k)) (stored w at (m % 2 ^ w) (d % 2 ^ (8 * w)) ρ.memory)) (part_place c n o.0 p k ρ.burst lined.opening)
    ∙ part_stored c o p m d k ρ.memory lined.some

-- Words owed ----------------------------------------------------------------------------------

pub length_counted : (h n : ℕ) → length (counted h n) ≡ n
unfolding counted
length_counted h zero = refl
length_counted h (suc n) = ap suc (length_counted (h + 1) n)

pub counted_append : (h i j : ℕ) → counted h (i + j) ≡ counted h i ++ counted (h + i) j
unfolding counted
counted_append h zero j = let a : 0 + j ≡ j = omega arith in let b : h ≡ h + 0 = omega arith in ap (counted h) a ∙ ap (λ k. counted k j) b
counted_append h (suc i) j =
    let a : suc i + j ≡ suc (i + j) = omega arith in
    let b : h + 1 + i ≡ h + suc i = omega arith in
    ap (counted h) a ∙ ap (λ xs. h ∷ xs) (counted_append (h + 1) i j ∙ ap (λ k. counted (h + 1) i ++ counted k j) b)

-- the words of the read below that asks for j host words
read_part : (c : Cut) (v : ℕ) (f : ℕ → ℕ) (h j : ℕ) → ((i : ℕ) → f i < 256) → v * c.share ≡ c.width * c.parts → (c.share ≡ 1) ⊎ ((c.parts ≡ 1) × (j ≡ 1)) → 1 ≤ c.share → 1 ≤ c.parts →
    host_words c v (counted h j) none_yet (words_at c.width f (offset_below c h) (j * c.parts)) ≡ words_at v f h j
unfolding counted words_at
read_part c v f h j small widths (inl one) some parts = read_whole c v f h j small widths one parts
read_part c v f h j small widths (inr one) some parts =
    let k : j * c.parts ≡ c.parts = ap (λ i. i * c.parts) one.1 ∙ one-mul c.parts in
    ap (λ i. host_words c v (counted h j) none_yet (words_at c.width f (offset_below c h) i)) k
    ∙ (subst (λ i. host_words c v (counted h i) none_yet (words_at c.width f (offset_below c h) c.parts) ≡ words_at v f h i) (sym one.1)
    (one_word c v h f small widths (inr one.0) some parts))

-- host words that are not asked for yet do not count
pub asked_only : (c : Cut) (v : ℕ) (hs more : List ℕ) (g : Collected) (xs : List ℕ) → g.count < c.parts → (g.count ≡ 0 → g.value ≡ 0) → length hs * c.parts ≡ g.count + length xs →
    host_words c v (hs ++ more) g xs ≡ host_words c v hs g xs
unfolding host_words
asked_only c v hs more g xs few none grouped =
    ap (host_words c v (hs ++ more) g) (sym (append-nil xs)) ∙ (host_append c v hs more g xs [] few none grouped ∙ append-nil (host_words c v hs g xs))

-- a widener's bursts below have one host word
pub one_asked : (c : Cut) (n : ℕ) → 1 ≤ n → (c.share ≡ 1) ⊎ ((c.parts ≡ 1) × (c.most ≡ 1)) → (c.share ≡ 1) ⊎ ((c.parts ≡ 1) × (in_one_burst c n ≡ 1))
one_asked c n some (inl one) = inl one
one_asked c n some (inr one) =
    inr (one.0, cond_both (ltb c.most n) c.most n (λ i. i ≡ 1) (λ _. one.1) (λ t. let le = ltb-false c.most n t in omega arith))

pub asked_few : (c : Cut) (n : ℕ) → in_one_burst c n ≤ n
asked_few c n = cond_both (ltb c.most n) c.most n (λ i. i ≤ n) (λ t. let lt = ltb-true c.most n t in omega arith) (λ t. omega arith)

pub asked_most : (c : Cut) (n : ℕ) → in_one_burst c n ≤ c.most
asked_most c n = cond_both (ltb c.most n) c.most n (λ i. i ≤ c.most) (λ t. omega arith) (λ t. ltb-false c.most n t)

pub asked_some : (c : Cut) (n : ℕ) → 1 ≤ n → 1 ≤ c.most → 1 ≤ in_one_burst c n
asked_some c n some most = cond_both (ltb c.most n) c.most n (λ i. 1 ≤ i) (λ _. most) (λ _. some)

-- what a read in the slot leaves to be asked for when its next part is taken
rest_offsets : (c : Cut) (h : WordOffset) (n : ℕ) → offsets_in_slot (after_part c (Reading h n)) ≡ counted (h.0 + in_one_burst c n) (n - in_one_burst c n)
unfolding counted
rest_offsets c h n =
    elim (cases_Bool (ltb c.most n)) [
      | inl t ↦ rw t refl
      | inr t ↦ let none : n - n ≡ 0 = omega arith in rw t (ap (counted (h.0 + n)) (sym none))
    ]

rest_words : (c : Cut) (v : ℕ) (h : WordOffset) (n : ℕ) (memory : List ℕ) → words_in_slot v (after_part c (Reading h n)) memory ≡ words_at v (byte_in memory) (h.0 + in_one_burst c n) (n - in_one_burst c n)
unfolding words_at
rest_words c v h n memory =
    elim (cases_Bool (ltb c.most n)) [
      | inl t ↦ rw t refl
      | inr t ↦ let none : n - n ≡ 0 = omega arith in rw t (ap (words_at v (byte_in memory) (h.0 + n)) (sym none))
    ]

beat_silent : (c : Cut) (v : ℕ) (o : WordOffset) (p m d n : ℕ) (memory : List ℕ) → words_in_slot v (after_part c (Beat o p m d n)) memory ≡ []
beat_silent c v o p m d n memory =
    cond_both (ltb 1 p) (Beat (record { 0 = o.0 + 1 }) (p - 1) (m / 2 ^ c.width) (d / 2 ^ (8 * c.width)) n) Empty (λ s. words_in_slot v s memory ≡ []) (λ _. refl) (λ _. refl)

beat_offsets : (c : Cut) (o : WordOffset) (p m d n : ℕ) → offsets_in_slot (after_part c (Beat o p m d n)) ≡ []
beat_offsets c o p m d n =
    cond_both (ltb 1 p) (Beat (record { 0 = o.0 + 1 }) (p - 1) (m / 2 ^ c.width) (d / 2 ^ (8 * c.width)) n) Empty (λ s. offsets_in_slot s ≡ []) (λ _. refl) (λ _. refl)

-- the host words that an answered part asks for
abbrev pub asked_now : Cut → Slot → Reply → List ℕ
asked_now c Empty a = []
asked_now c (Reading h n) a = cond (takes a) (counted h.0 (in_one_burst c n)) []
asked_now c (Beat o p m d n) a = []

slot_asks : (c : Cut) (s : Slot) (a : Reply) → offsets_in_slot s ≡ asked_now c s a ++ offsets_in_slot (slot_sent c a s)
slot_asks c Empty reply.Idle = refl
slot_asks c Empty reply.Wait = refl
slot_asks c Empty reply.Take = refl
slot_asks c (Reading h n) reply.Idle = refl
slot_asks c (Reading h n) reply.Wait = refl
slot_asks c (Reading h n) reply.Take =
    let j = in_one_burst c n in
    let all : n ≡ j + (n - j) = let le = asked_few c n in omega arith in
    ap (counted h.0) all ∙ (counted_append h.0 j (n - j) ∙ ap (λ xs. counted h.0 j ++ xs) (sym (rest_offsets c h n)))
slot_asks c (Beat o p m d n) reply.Idle = refl
slot_asks c (Beat o p m d n) reply.Wait = refl
slot_asks c (Beat o p m d n) reply.Take = sym (beat_offsets c o p m d n)

pub queued_sent : (c : Cut) (s : Slot) (a : Reply) (bs : List OwedBurst) (hs : List ℕ) → offsets_in bs ≡ hs ++ offsets_in_slot s → offsets_in bs ≡ (hs ++ asked_now c s a) ++ offsets_in_slot (slot_sent c a s)
queued_sent c s a bs hs queued = queued ∙ (ap (λ xs. hs ++ xs) (slot_asks c s a) ∙ sym (append_assoc hs (asked_now c s a) (offsets_in_slot (slot_sent c a s))))

-- as many words come below as the host words asked for have
pub asked_words : (c : Cut) (s : Slot) (a : Reply) (ρ : State) → length (acted c.width (next_part c s) a ρ).owed ≡ length ρ.owed + length (asked_now c s a) * c.parts
asked_words c Empty reply.Idle ρ = omega (arith, zero-mul c.parts)
asked_words c Empty reply.Wait ρ = omega (arith, zero-mul c.parts)
asked_words c Empty reply.Take ρ = omega (arith, zero-mul c.parts)
asked_words c (Reading h n) reply.Idle ρ = omega (arith, zero-mul c.parts)
asked_words c (Reading h n) reply.Wait ρ = omega (arith, zero-mul c.parts)
asked_words c (Reading h n) reply.Take ρ =
    let j = in_one_burst c n in
    let ws = words_at c.width (byte_in ρ.memory) (offset_below c h.0) (j * c.parts) in
    length-append ρ.owed ws ∙ omega (arith, length_words_at c.width (byte_in ρ.memory) (offset_below c h.0) (j * c.parts), ap (λ i. i * c.parts) (length_counted h.0 j))
asked_words c (Beat o p m d n) reply.Idle ρ = omega (arith, zero-mul c.parts)
asked_words c (Beat o p m d n) reply.Wait ρ = omega (arith, zero-mul c.parts)
asked_words c (Beat o p m d n) reply.Take ρ = omega (arith, zero-mul c.parts)

pub grouped_sent : (c : Cut) (s : Slot) (a : Reply) (g : Collected) (ρ : State) (hs : List ℕ) → length hs * c.parts ≡ g.count + length ρ.owed →
    length (hs ++ asked_now c s a) * c.parts ≡ g.count + length (acted c.width (next_part c s) a ρ).owed
grouped_sent c s a g ρ hs grouped =
    ap (λ i. i * c.parts) (length-append hs (asked_now c s a)) ∙ (add-mul (length hs) (length (asked_now c s a)) c.parts ∙ omega (arith, asked_words c s a ρ))

-- a read's part is taken: its words below are host words that were counted in the slot
read_sent : (c : Cut) (v : ℕ) (h : WordOffset) (n : ℕ) (bs : List OwedBurst) (g : Collected) (ρ : State) (hs : List ℕ) → 1 ≤ n → v * c.share ≡ c.width * c.parts → (c.share ≡ 1) ⊎ ((c.parts ≡ 1) × (c.most ≡ 1)) →
    1 ≤ c.share → 1 ≤ c.parts → ((i : ℕ) → byte_in ρ.memory i < 256) → g.count < c.parts → (g.count ≡ 0 → g.value ≡ 0) →
    offsets_in bs ≡ hs ++ counted h.0 n → length hs * c.parts ≡ g.count + length ρ.owed →
    owed_above c v (after_part c (Reading h n)) bs g (acted c.width (next_part c (Reading h n)) reply.Take ρ) ≡ owed_above c v (Reading h n) bs g ρ
read_sent c v h n bs g ρ hs some widths kind share parts small few none queued grouped =
    let f = byte_in ρ.memory in
    let j = in_one_burst c n in
    let le = asked_few c n in
    let all : n ≡ j + (n - j) = omega arith in
    let ws = words_at c.width f (offset_below c h.0) (j * c.parts) in
    let later = counted (h.0 + j) (n - j) in
    let cut : offsets_in bs ≡ hs ++ (counted h.0 j ++ later) = queued ∙ ap (λ xs. hs ++ xs) (ap (counted h.0) all ∙ counted_append h.0 j (n - j)) in
    let size : length (counted h.0 j) * c.parts ≡ 0 + length ws = omega (arith, ap (λ i. i * c.parts) (length_counted h.0 j), length_words_at c.width f (offset_below c h.0) (j * c.parts)) in
    let front = host_words c v hs g ρ.owed in
    let new : host_words c v (offsets_in bs) g (ρ.owed ++ ws) ≡ front ++ words_at v f h.0 j =
    ap (λ os. host_words c v os g (ρ.owed ++ ws)) cut
    ∙ (host_append c v hs (counted h.0 j ++ later) g ρ.owed ws few none grouped
    ∙ ap (λ xs. front ++ xs) (asked_only c v (counted h.0 j) later none_yet ws (omega arith) (λ _. refl) size ∙ read_part c v f h.0 j small widths (one_asked c n some kind) share parts)) in
    let old : host_words c v (offsets_in bs) g ρ.owed ≡ front = ap (λ os. host_words c v os g ρ.owed) queued ∙ asked_only c v hs (counted h.0 n) g ρ.owed few none grouped in
    ap (λ xs. xs ++ words_in_slot v (after_part c (Reading h n)) ρ.memory) new
    ∙ (ap (λ xs. (front ++ words_at v f h.0 j) ++ xs) (rest_words c v h n ρ.memory)
    ∙ (append_assoc front (words_at v f h.0 j) (words_at v f (h.0 + j) (n - j))
    ∙ (ap (λ xs. front ++ xs) (sym (words_append v f h.0 j (n - j)) ∙ ap (words_at v f h.0) (sym all))
    ∙ ap (λ xs. xs ++ words_at v f h.0 n) (sym old))))

pub owed_sent : (c : Cut) (n n' : Numbers) (s : Slot) (a : Reply) (bs : List OwedBurst) (g : Collected) (ρ : State) (hs : List ℕ) (b' : Option OpenBurst) → Fitted c n n' → LinedUp c n n' s ρ.burst b' →
    ((i : ℕ) → byte_in ρ.memory i < 256) → g.count < c.parts → (g.count ≡ 0 → g.value ≡ 0) → offsets_in bs ≡ hs ++ offsets_in_slot s → length hs * c.parts ≡ g.count + length ρ.owed →
    owed_above c n'.width (slot_sent c a s) bs g (acted c.width (next_part c s) a ρ) ≡ owed_above c n'.width s bs g ρ
owed_sent c n n' Empty reply.Idle bs g ρ hs b' fitted lined small few none queued grouped = refl
owed_sent c n n' Empty reply.Wait bs g ρ hs b' fitted lined small few none queued grouped = refl
owed_sent c n n' Empty reply.Take bs g ρ hs b' fitted lined small few none queued grouped = refl
owed_sent c n n' (Reading h k) reply.Idle bs g ρ hs b' fitted lined small few none queued grouped = refl
owed_sent c n n' (Reading h k) reply.Wait bs g ρ hs b' fitted lined small few none queued grouped = refl
owed_sent c n n' (Reading h k) reply.Take bs g ρ hs b' fitted lined small few none queued grouped =
    read_sent c n'.width h k bs g ρ hs lined.2 fitted.widths fitted.kind fitted.share_some fitted.parts_some small few none queued grouped
owed_sent c n n' (Beat o p m d k) reply.Idle bs g ρ hs b' fitted lined small few none queued grouped = refl
owed_sent c n n' (Beat o p m d k) reply.Wait bs g ρ hs b' fitted lined small few none queued grouped = refl
owed_sent c n n' (Beat o p m d k) reply.Take bs g ρ hs b' fitted lined small few none queued grouped =
    ap (λ xs. host_words c n'.width (offsets_in bs) g ρ.owed ++ xs) (beat_silent c n'.width o p m d k _)
