-- Silence and waits of an adapter stay within L' and A', by the bounds of the port below alone.
use Rattle.std.proofs.Common.{◌≡◌, ℕ, zero, suc, ◌+◌, ◌-◌, ◌*◌, ◌<◌, ◌≤◌, ltb, List, [], ◌∷◌, ◌++◌, length, Some, None, Option, refl, ap, ◌∙◌, inl, inr, add-mul, one-mul, zero-mul, arith}
use Rattle.std.proofs.lemmas.Nat.{mul-le}
use Rattle.std.proofs.lemmas.List.{length-append}
use Rattle.std.proofs.lemmas.Bool.{cases_Bool, cases_lt, cond_both, ltb-true}
use Rattle.port.specs.Lanes.{byte_in, words_at}
use Rattle.port.specs.Legal.{Legal}
use Rattle.port.specs.Machine.{Answers, First, acted, given, silence_after}
use Rattle.port.specs.State.{State}
use Rattle.port.specs.Waiting.{calls_due}
use Rattle.port.specs.declared.calls.Command.TheVariants.{Idle}
use Rattle.port.specs.declared.calls.OpenBurst.{OpenBurst}
use Rattle.port.specs.declared.calls.Reply.{Reply}
use Rattle.port.specs.declared.calls.Reply.TheVariants as reply
use Rattle.port.specs.declared.numbers.Numbers.{Numbers}
use Rattle.port.proofs.Bytes.{length_words_at}
use Rattle.port.proofs.Kept.{silence_acted}
use Rattle.port.proofs.Steps.{silence_more}
use Rattle.port.proofs.Tally.{one_came_below}
use Rattle.port.proofs.Waiting.{due_falls, due_none}
use Rattle.adapters.specs.Above.{owed_above, words_in_slot}
use Rattle.adapters.specs.Cuts.{after_part, in_one_burst, next_part, offset_below, parts_due}
use Rattle.adapters.specs.Engine.{slot_sent}
use Rattle.adapters.specs.Kept.{Fitted, LinedUp, slot_due}
use Rattle.adapters.specs.Owed.{collected_after, host_words, more_to_come, offsets_in, word_up}
use Rattle.adapters.specs.declared.cut.Cut.{Cut}
use Rattle.adapters.specs.Slots.{Empty, Reading, Beat, Slot}
use Rattle.adapters.specs.declared.owed.Collected.{Collected}
use Rattle.adapters.specs.declared.owed.OwedBurst.{OwedBurst}
use Rattle.adapters.proofs.Lined.{parts_fit}
use Rattle.adapters.proofs.Parts.{asked_now, asked_words}
use Rattle.adapters.proofs.Taking.{empty_stays}

-- Silence ------------------------------------------------------------------------------------

-- the silence above, with these parts collected and the port below in this state
abbrev pub Hushed : Cut → Numbers → Numbers → ℕ → Collected → State → Type 0
Hushed c n n' s' g τ =
    (0 < length τ.owed → s' + (c.parts - g.count) * (n.silence_bound + 1) ≤ n'.silence_bound + τ.silence) × (length τ.owed ≡ 0 → s' ≤ τ.waits)

-- the silence after a call that brought this word, or none
abbrev pub silence_next : Option ℕ → List ℕ → ℕ → ℕ
silence_next None owed s = silence_after owed s
silence_next (Some x) owed s = 0

at_most_one : (owed : List ℕ) (s : ℕ) → silence_after owed s ≤ s + 1
at_most_one [] s = omega arith
at_most_one (x ∷ owed) s = omega arith

nothing_owed : (owed : List ℕ) (s : ℕ) → owed ≡ [] → silence_after owed s ≡ 0
nothing_owed owed s e = ap (λ xs. silence_after xs s) e

-- one part fewer to come
one_fewer : (k g l : ℕ) → g + 1 ≤ k → (k - g) * (l + 1) ≡ (k - (g + 1)) * (l + 1) + (l + 1)
one_fewer k g l lt =
    let e : k - g ≡ k - (g + 1) + 1 = omega arith in
    ap (λ i. i * (l + 1)) e ∙ (add-mul (k - (g + 1)) 1 (l + 1) ∙ ap (λ i. (k - (g + 1)) * (l + 1) + i) (one-mul (l + 1)))

-- with no words owed below no part has come
none_came : (k g i : ℕ) → g < k → i * k ≡ g + 0 → g ≡ 0
none_came k g zero lt e = omega (arith, zero-mul k)
none_came k g (suc i) lt e = let h = mul-le 1 k (suc i) k (omega arith) (omega arith) in absurd (omega (arith, one-mul k))

-- where parts have come, words are owed below
some_left : (k g i rest : ℕ) → g < k → 1 ≤ g → i * k ≡ g + rest → 1 ≤ rest
some_left k g zero rest lt some e = absurd (omega (arith, zero-mul k))
some_left k g (suc i) rest lt some e = let h = mul-le 1 k (suc i) k (omega arith) (omega arith) in omega (arith, one-mul k)

host_none : (c : Cut) (v : ℕ) (os : List ℕ) (g : Collected) (owed : List ℕ) → owed ≡ [] → host_words c v os g owed ≡ []
unfolding host_words
host_none c v os g owed e = ap (host_words c v os g) e

-- no word is owed below, and none is asked for: none is owed above
unasked : (c : Cut) (n n' : Numbers) (v s' : ℕ) (s : Slot) (a : Reply) (bs : List OwedBurst) (g : Collected) (σ : State) → σ.owed ≡ [] → words_in_slot v s σ.memory ≡ [] → asked_now c s a ≡ [] →
    Hushed c n n' (silence_after (owed_above c v s bs g σ) s') g (acted c.width (next_part c s) a (given None σ))
unasked c n n' v s' s a bs g σ none silent no_more =
    let all : owed_above c v s bs g σ ≡ [] = ap (λ xs. xs ++ words_in_slot v s σ.memory) (host_none c v (offsets_in bs) g σ.owed none) ∙ silent in
    let quiet = nothing_owed (owed_above c v s bs g σ) s' all in
    let same = asked_words c s a (given None σ) in
    let zeros : length (asked_now c s a) * c.parts ≡ 0 = ap (λ (xs : List ℕ). length xs * c.parts) no_more ∙ zero-mul c.parts in
    let empty : length σ.owed ≡ 0 = ap (λ (xs : List ℕ). length xs) none in
    (λ some. absurd (omega arith), λ _. omega arith)

-- no word is owed below: only the read in the slot is waited for
quiet_below : (c : Cut) (n n' : Numbers) (v s' : ℕ) (s : Slot) (a : Reply) (bs : List OwedBurst) (g : Collected) (σ : State) (b' : Option OpenBurst) → Fitted c n n' → LinedUp c n n' s σ.burst b' → Answers (next_part c s) a →
    σ.owed ≡ [] → g.count ≡ 0 → σ.waits ≤ n.wait_bound → s' ≤ σ.waits →
    Hushed c n n' (silence_after (owed_above c v s bs g σ) s') g (acted c.width (next_part c s) a (given None σ))
quiet_below c n n' v s' Empty a bs g σ b' fitted lined answers none start patient awaited = unasked c n n' v s' Empty a bs g σ none refl refl
quiet_below c n n' v s' (Beat o p m d k) a bs g σ b' fitted lined answers none start patient awaited = unasked c n n' v s' (Beat o p m d k) a bs g σ none refl refl
quiet_below c n n' v s' (Reading h k) reply.Idle bs g σ b' fitted lined answers none start patient awaited = absurd answers
quiet_below c n n' v s' (Reading h k) reply.Wait bs g σ b' fitted lined answers none start patient awaited =
    let empty : length σ.owed ≡ 0 = ap (λ (xs : List ℕ). length xs) none in
    (λ some. absurd (omega arith), λ _. omega (arith, at_most_one (owed_above c v (Reading h k) bs g σ) s'))
quiet_below c n n' v s' (Reading h k) reply.Take bs g σ b' fitted lined answers none start patient awaited =
    let j = in_one_burst c k in
    let empty : length σ.owed ≡ 0 = ap (λ (xs : List ℕ). length xs) none in
    let ws = words_at c.width (byte_in σ.memory) (offset_below c h.0) (j * c.parts) in
    let count = length-append σ.owed ws in
    let size = length_words_at c.width (byte_in σ.memory) (offset_below c h.0) (j * c.parts) in
    let some = parts_fit c n n' k fitted lined.2 in
    let whole : (c.parts - g.count) * (n.silence_bound + 1) ≡ c.parts * (n.silence_bound + 1) = let e : c.parts - g.count ≡ c.parts = omega arith in ap (λ i. i * (n.silence_bound + 1)) e in
    (λ _. omega (arith, at_most_one (owed_above c v (Reading h k) bs g σ) s', fitted.silence), λ e. absurd (omega (arith, some.0)))

-- words are owed below, and none came
later_below : (c : Cut) (n n' : Numbers) (v s' : ℕ) (s : Slot) (a : Reply) (bs : List OwedBurst) (g : Collected) (σ : State) → 0 < length σ.owed →
    s' + (c.parts - g.count) * (n.silence_bound + 1) ≤ n'.silence_bound + σ.silence →
    Hushed c n n' (silence_after (owed_above c v s bs g σ) s') g (acted c.width (next_part c s) a (given None σ))
later_below c n n' v s' s a bs g σ some heard =
    let more = silence_more σ.owed σ.silence some in
    let same = silence_acted c.width (next_part c s) a (given None σ) in
    let count = asked_words c s a (given None σ) in
    (λ _. omega (arith, at_most_one (owed_above c v s bs g σ) s'), λ e. absurd (omega arith))

-- a word came
came_below : (c : Cut) (n n' : Numbers) (v h s' x : ℕ) (s : Slot) (a : Reply) (bs : List OwedBurst) (g : Collected) (σ : State) (i : ℕ) → Fitted c n n' → g.count < c.parts → σ.silence ≤ n.silence_bound →
    s' + (c.parts - g.count) * (n.silence_bound + 1) ≤ n'.silence_bound + σ.silence →
    i * c.parts ≡ (collected_after c g (Some x)).count + length (acted c.width (next_part c s) a (given (Some x) σ)).owed →
    Hushed c n n' (silence_next (word_up c v h g (Some x)) (owed_above c v s bs g σ) s') (collected_after c g (Some x)) (acted c.width (next_part c s) a (given (Some x) σ))
came_below c n n' v h s' x s a bs g σ i fitted few quiet heard grouped =
    let T = acted c.width (next_part c s) a (given (Some x) σ) in
    let l = n.silence_bound in
    elim (cases_Bool (more_to_come c g)) [
      | inl t ↦
          let lt = ltb-true (g.count + 1) c.parts t in
          let fall = one_fewer c.parts g.count l (omega arith) in
          let most = at_most_one (owed_above c v s bs g σ) s' in
          let left = some_left c.parts (g.count + 1) i (length T.owed) lt (omega arith) (rw t at grouped) in
          rw t (λ _. omega arith, λ e. absurd (omega arith))
      | inr t ↦ rw t (λ _. let e : c.parts - 0 ≡ c.parts = omega arith in omega (arith, fitted.silence, ap (λ j. j * (l + 1)) e), λ _. omega arith)
    ]

hushed_by : (c : Cut) (n n' : Numbers) (v h s' : ℕ) (s : Slot) (a : Reply) (bs : List OwedBurst) (g : Collected) (σ : State) (x : Option ℕ) (owed : List ℕ) (i j : ℕ) (b' : Option OpenBurst) →
    Fitted c n n' → LinedUp c n n' s σ.burst b' → Answers (next_part c s) a → σ.owed ≡ owed → First x owed → g.count < c.parts → σ.waits ≤ n.wait_bound → σ.silence ≤ n.silence_bound → Hushed c n n' s' g σ →
    i * c.parts ≡ g.count + length σ.owed → j * c.parts ≡ (collected_after c g x).count + length (acted c.width (next_part c s) a (given x σ)).owed →
    Hushed c n n' (silence_next (word_up c v h g x) (owed_above c v s bs g σ) s') (collected_after c g x) (acted c.width (next_part c s) a (given x σ))
hushed_by c n n' v h s' s a bs g σ None [] i j b' fitted lined answers is first few patient quiet hushed grouped after =
    let empty : length σ.owed ≡ 0 = ap (λ (xs : List ℕ). length xs) is in
    quiet_below c n n' v s' s a bs g σ b' fitted lined answers is (none_came c.parts g.count i few (omega arith)) patient (hushed.1 empty)
hushed_by c n n' v h s' s a bs g σ None (y ∷ ys) i j b' fitted lined answers is first few patient quiet hushed grouped after =
    let some : 0 < length σ.owed = omega (arith, ap (λ (xs : List ℕ). length xs) is) in
    later_below c n n' v s' s a bs g σ some (hushed.0 some)
hushed_by c n n' v h s' s a bs g σ (Some x) [] i j b' fitted lined answers is first few patient quiet hushed grouped after = absurd first
hushed_by c n n' v h s' s a bs g σ (Some x) (y ∷ ys) i j b' fitted lined answers is first few patient quiet hushed grouped after =
    let some : 0 < length σ.owed = omega (arith, ap (λ (xs : List ℕ). length xs) is) in
    came_below c n n' v h s' x s a bs g σ j fitted few quiet (hushed.0 some) after

pub hushed_on : (c : Cut) (n n' : Numbers) (v h s' : ℕ) (s : Slot) (a : Reply) (bs : List OwedBurst) (g : Collected) (σ : State) (x : Option ℕ) (i j : ℕ) (b' : Option OpenBurst) →
    Fitted c n n' → LinedUp c n n' s σ.burst b' → Answers (next_part c s) a → First x σ.owed → g.count < c.parts → σ.waits ≤ n.wait_bound → σ.silence ≤ n.silence_bound → Hushed c n n' s' g σ →
    i * c.parts ≡ g.count + length σ.owed → j * c.parts ≡ (collected_after c g x).count + length (acted c.width (next_part c s) a (given x σ)).owed →
    Hushed c n n' (silence_next (word_up c v h g x) (owed_above c v s bs g σ) s') (collected_after c g x) (acted c.width (next_part c s) a (given x σ))
hushed_on c n n' v h s' s a bs g σ x i j b' fitted lined answers first few patient quiet hushed grouped after =
    hushed_by c n n' v h s' s a bs g σ x σ.owed i j b' fitted lined answers refl first few patient quiet hushed grouped after

-- L' is enough
pub silence_within : (c : Cut) (n n' : Numbers) (s' : ℕ) (g : Collected) (τ : State) → Fitted c n n' → g.count < c.parts → τ.waits ≤ n.wait_bound → τ.silence ≤ n.silence_bound → Hushed c n n' s' g τ → s' ≤ n'.silence_bound
silence_within c n n' s' g τ fitted few patient quiet hushed =
    let l = n.silence_bound in
    elim (cases_lt 0 (length τ.owed)) [
      | inl some ↦
          let h = hushed.0 some in
          let one = mul-le 1 (l + 1) (c.parts - g.count) (l + 1) (omega arith) (omega arith) in
          omega (arith, one-mul (l + 1))
      | inr none ↦ let h = hushed.1 (omega arith) in omega (arith, fitted.silence)
    ]

-- Waits: the calls until the slot is empty --------------------------------------------------------

parts_less : (c : Cut) (n n' : Numbers) (s : Slot) (b b' : Option OpenBurst) → 1 ≤ c.most → LinedUp c n n' s b b' → 1 ≤ parts_due s → parts_due (after_part c s) + 1 ≤ parts_due s
parts_less c n n' Empty b b' most lined some = absurd (omega arith)
parts_less c n n' (Reading h k) b b' most lined some =
    cond_both (ltb c.most k) (Reading (record { 0 = h.0 + c.most }) (k - c.most)) Empty (λ s. parts_due s + 1 ≤ k) (λ e. let lt = ltb-true c.most k e in omega arith) (λ _. some)
parts_less c n n' (Beat o p m d k) b b' most lined some =
    cond_both (ltb 1 p) _ Empty (λ s. parts_due s + 1 ≤ p) (λ e. let lt = ltb-true 1 p e in omega arith) (λ _. some)

pub waits_of : (x : Option ℕ) (σ : State) → (given x σ).waits ≡ σ.waits
waits_of None σ = refl
waits_of (Some x) σ = refl

-- a part that waits or is taken leaves fewer calls
due_wait : (d a r : ℕ) → 1 ≤ d → r ≤ a → d * (a + 1) - (r + 1) + 1 ≤ d * (a + 1) - r
due_wait d a r some le = let h = mul-le 1 (a + 1) d (a + 1) some (omega arith) in omega (arith, one-mul (a + 1))

due_take : (d e a r : ℕ) → e + 1 ≤ d → r ≤ a → e * (a + 1) - 0 + 1 ≤ d * (a + 1) - r
due_take d e a r less le = let h = mul-le (e + 1) (a + 1) d (a + 1) less (omega arith) in omega (arith, add-mul e 1 (a + 1), one-mul (a + 1))

pub slot_falls : (c : Cut) (n n' : Numbers) (s : Slot) (a : Reply) (σ ρ : State) (b' : Option OpenBurst) → 1 ≤ c.most → LinedUp c n n' s σ.burst b' → Answers (next_part c s) a → σ.waits ≤ n.wait_bound → ρ.waits ≡ σ.waits → 1 ≤ parts_due s →
    slot_due n (acted c.width (next_part c s) a ρ) (slot_sent c a s) + 1 ≤ slot_due n σ s
slot_falls c n n' Empty a σ ρ b' most lined answers patient same some = absurd (omega arith)
slot_falls c n n' (Reading h k) reply.Idle σ ρ b' most lined answers patient same some = absurd answers
slot_falls c n n' (Reading h k) reply.Wait σ ρ b' most lined answers patient same some =
    let e : k * (n.wait_bound + 1) - (ρ.waits + 1) ≡ k * (n.wait_bound + 1) - (σ.waits + 1) = ap (λ r. k * (n.wait_bound + 1) - (r + 1)) same in
    omega (arith, due_wait k n.wait_bound σ.waits some patient)
slot_falls c n n' (Reading h k) reply.Take σ ρ b' most lined answers patient same some =
    due_take k (parts_due (after_part c (Reading h k))) n.wait_bound σ.waits (parts_less c n n' (Reading h k) σ.burst b' most lined some) patient
slot_falls c n n' (Beat o p m d k) reply.Idle σ ρ b' most lined answers patient same some = absurd answers
slot_falls c n n' (Beat o p m d k) reply.Wait σ ρ b' most lined answers patient same some =
    let e : p * (n.wait_bound + 1) - (ρ.waits + 1) ≡ p * (n.wait_bound + 1) - (σ.waits + 1) = ap (λ r. p * (n.wait_bound + 1) - (r + 1)) same in
    omega (arith, due_wait p n.wait_bound σ.waits some patient)
slot_falls c n n' (Beat o p m d k) reply.Take σ ρ b' most lined answers patient same some =
    due_take p (parts_due (after_part c (Beat o p m d k))) n.wait_bound σ.waits (parts_less c n n' (Beat o p m d k) σ.burst b' most lined some) patient

-- the calls until a read burst above ends
pub queue_falls : (n' : Numbers) (σ : State) (y : Option ℕ) → Legal n' σ →
    (calls_due n'.pending_limit n'.silence_bound (given y σ).silence (given y σ).reads ≤ calls_due n'.pending_limit n'.silence_bound σ.silence σ.reads)
    × (n'.pending_limit ≤ length σ.reads → calls_due n'.pending_limit n'.silence_bound (given y σ).silence (given y σ).reads + 1 ≤ calls_due n'.pending_limit n'.silence_bound σ.silence σ.reads)
queue_falls n' σ y legal =
    let pending = legal.within.pending in
    let fewer : length (given y σ).reads ≤ length σ.reads = elim y as (λ o. length (given o σ).reads ≤ length σ.reads) [ None ↦ omega arith | Some x ↦ one_came_below σ.reads ] in
    elim (cases_lt (length σ.reads) n'.pending_limit) [
      | inl few ↦ (omega (arith, due_none n'.pending_limit n'.silence_bound (given y σ).silence (given y σ).reads (omega arith)), λ full. absurd (omega arith))
      | inr full ↦ let h = due_falls n' σ y legal (omega arith) in (omega arith, λ _. h)
    ]

-- the calls until the slot is empty never rise while no command is taken
pub slot_stays : (c : Cut) (n n' : Numbers) (s : Slot) (a : Reply) (σ ρ : State) (b' : Option OpenBurst) → 1 ≤ c.most → LinedUp c n n' s σ.burst b' → Answers (next_part c s) a → σ.waits ≤ n.wait_bound → ρ.waits ≡ σ.waits →
    slot_due n (acted c.width (next_part c s) a ρ) (slot_sent c a s) ≤ slot_due n σ s
slot_stays c n n' Empty a σ ρ b' most lined answers patient same =
    let e : slot_due n (acted c.width Idle a ρ) (slot_sent c a Empty) ≡ 0 * (n.wait_bound + 1) - (acted c.width Idle a ρ).waits = ap (slot_due n (acted c.width Idle a ρ)) (empty_stays c a) in
    omega (arith, zero-mul (n.wait_bound + 1))
slot_stays c n n' (Reading h k) a σ ρ b' most lined answers patient same = let f = slot_falls c n n' (Reading h k) a σ ρ b' most lined answers patient same lined.2 in omega arith
slot_stays c n n' (Beat o p m d k) a σ ρ b' most lined answers patient same = let f = slot_falls c n n' (Beat o p m d k) a σ ρ b' most lined answers patient same lined.some in omega arith
