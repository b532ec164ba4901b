-- Why an adapter answers as it does, and what its answer to the host leaves.
use Rattle.std.proofs.Common.{◌≡◌, ℕ, ◌+◌, ◌*◌, ◌^◌, ◌<◌, ◌≤◌, Bool, true, false, ◌&&◌, ltb, leb, ◌⊎◌, List, [], ◌∷◌, ◌++◌, length, Some, None, Option, sym, refl, ap, ◌∙◌, subst, inl, inr, one-mul, mul-one, arith}
use Rattle.std.proofs.lemmas.Nat.{mul-le}
use Rattle.std.proofs.lemmas.List.{append-nil, length_push}
use Rattle.std.proofs.lemmas.Bool.{and_parts, and_cases, cond_both, leb-false, ltb-false, ltb-true}
use Rattle.port.specs.Legal.{OpenWithin, ReadsWithin}
use Rattle.port.specs.Machine.{Answers, acted, broken, command_rule, lanes_rule, opening_rule}
use Rattle.port.specs.Runs.{takes}
use Rattle.port.specs.State.{State}
use Rattle.port.specs.Waiting.{calls_due}
use Rattle.port.specs.declared.calls.Command.{Command}
use Rattle.port.specs.declared.calls.Command.TheVariants.{Idle, Read, Write}
use Rattle.port.specs.declared.calls.OpenBurst.{OpenBurst}
use Rattle.port.specs.declared.calls.Reply.{Reply}
use Rattle.port.specs.declared.calls.Reply.TheVariants as reply
use Rattle.port.specs.declared.numbers.Numbers.{Numbers}
use Rattle.port.proofs.Rules.{first_later, first_sooner}
use Rattle.port.proofs.Kept.{read_fits}
use Rattle.port.proofs.Waiting.{due_below}
use Rattle.adapters.specs.Above.{memory_with, owed_above}
use Rattle.adapters.specs.Cuts.{is_free, next_part, parts_due, slot_for}
use Rattle.adapters.specs.Engine.{burst_of, reply_above, slot_filled, slot_sent}
use Rattle.adapters.specs.Kept.{BurstsWithin, Fitted, HoldsPart, LinedUp, offsets_in_slot, slot_due}
use Rattle.adapters.specs.Owed.{lefts, offsets_in}
use Rattle.adapters.specs.declared.cut.Cut.{Cut}
use Rattle.adapters.specs.Slots.{Empty, Reading, Beat, Slot}
use Rattle.adapters.specs.declared.owed.Collected.{Collected}
use Rattle.adapters.specs.declared.owed.OwedBurst.{OwedBurst}
use Rattle.adapters.proofs.Lined.{lined_accepted}
use Rattle.adapters.proofs.Taking.{NarrowMask, burst_none, empty_stays, memory_accepted, owed_accepted, queued_accepted, reads_accepted}

-- The answer to the host -----------------------------------------------------------------------

-- there is a place for one burst more
abbrev PlaceFor : Command → ℕ → ℕ → Type 0
PlaceFor Idle bursts p = ⊥
PlaceFor (Read o n) bursts p = bursts < p
PlaceFor (Write o n m d) bursts p = Unit {0}

-- idle is answered by idle; a command waits for the slot or for a read burst to end, or else the slot is empty
abbrev pub Why : Slot → ℕ → ℕ → Command → Reply → Type 0
Why s bursts p command reply.Idle = command ≡ Idle
Why s bursts p command reply.Wait = (command ≡ Idle → ⊥) × ((1 ≤ parts_due s) ⊎ (p ≤ bursts))
Why s bursts p command reply.Take = (s ≡ Empty) × PlaceFor command bursts p

full_parts : (c : Cut) (n n' : Numbers) (s : Slot) (b b' : Option OpenBurst) → LinedUp c n n' s b b' → is_free s ≡ false → 1 ≤ parts_due s
full_parts c n n' Empty b b' lined e = let z : ◌≡◌ {A = ℕ} 0 1 = cc in absurd (omega arith)
full_parts c n n' (Reading h k) b b' lined e = lined.2
full_parts c n n' (Beat o p m d k) b b' lined e = lined.some

free_empty : (s : Slot) → is_free s ≡ true → s ≡ Empty
free_empty Empty e = refl
free_empty (Reading h n) e = let z : ◌≡◌ {A = Bool} true false = sym e in cc
free_empty (Beat o p m d n) e = let z : ◌≡◌ {A = Bool} true false = sym e in cc

pub why_of : (c : Cut) (n n' : Numbers) (s : Slot) (b b' : Option OpenBurst) (bursts p : ℕ) (command : Command) → LinedUp c n n' s b b' → Why s bursts p command (reply_above s bursts p command)
why_of c n n' s b b' bursts p Idle lined = refl
why_of c n n' s b b' bursts p (Read o k) lined =
    cond_both (is_free s && ltb bursts p) reply.Take reply.Wait (Why s bursts p (Read o k))
    (λ t. let both = and_parts (is_free s) (ltb bursts p) t in (free_empty s both.0, ltb-true bursts p both.1))
    (λ t. (
      λ e. let z : ◌≡◌ {A = ℕ} 0 1 = cc in absurd (omega arith),
      elim (and_cases (is_free s) (ltb bursts p) t) [ inl f ↦ inl (full_parts c n n' s b b' lined f) | inr f ↦ inr (ltb-false bursts p f) ],
    ))
why_of c n n' s b b' bursts p (Write o k m d) lined =
    cond_both (is_free s) reply.Take reply.Wait (Why s bursts p (Write o k m d))
    (λ t. (free_empty s t, tt))
    (λ t. (λ e. let z : ◌≡◌ {A = ℕ} 0 1 = cc in absurd (omega arith), inl (full_parts c n n' s b b' lined t)))

pub in_kind : (s : Slot) (bursts p : ℕ) (command : Command) → Answers command (reply_above s bursts p command)
in_kind s bursts p Idle = tt
in_kind s bursts p (Read o k) = cond_both (is_free s && ltb bursts p) reply.Take reply.Wait (Answers (Read o k)) (λ _. tt) (λ _. tt)
in_kind s bursts p (Write o k m d) = cond_both (is_free s) reply.Take reply.Wait (Answers (Write o k m d)) (λ _. tt) (λ _. tt)

-- an empty slot stays empty until a command is taken
abbrev pub Into : Reply → Slot → Type 0
Into reply.Idle s = Unit {0}
Into reply.Wait s = Unit {0}
Into reply.Take s = s ≡ Empty

pub into : (c : Cut) (s : Slot) (taken a : Reply) (bursts p : ℕ) (command : Command) → Why s bursts p command a → Into a (slot_sent c taken s)
into c s t reply.Idle bursts p command why = tt
into c s t reply.Wait bursts p command why = tt
into c s t reply.Take bursts p command why = ap (slot_sent c t) why.0 ∙ empty_stays c t

-- What it leaves -----------------------------------------------------------------------------------

-- the lanes of a write fit its width
abbrev pub LanesFit : ℕ → Command → Type 0
LanesFit v Idle = Unit {0}
LanesFit v (Read o k) = Unit {0}
LanesFit v (Write o k m d) = (m < 2 ^ v) × (d < 2 ^ (8 * v))

broken_not : (t : Bool) (n : ℕ) → broken t n ≡ None → t ≡ false
broken_not true n e = let z : ◌≡◌ {A = ℕ} 0 1 = cc in absurd (omega arith)
broken_not false n e = refl

lanes_fit : (n : Numbers) (m d : ℕ) → lanes_rule n m d ≡ None → (m < 2 ^ n.width) × (d < 2 ^ (8 * n.width))
lanes_fit n m d free =
    let a = first_sooner (broken (leb (2 ^ n.width) m) 8) (broken (leb (2 ^ (8 * n.width)) d) 8) free in
    let b = first_later (broken (leb (2 ^ n.width) m) 8) (broken (leb (2 ^ (8 * n.width)) d) 8) free in
    (leb-false (2 ^ n.width) m (broken_not (leb (2 ^ n.width) m) 8 a), leb-false (2 ^ (8 * n.width)) d (broken_not (leb (2 ^ (8 * n.width)) d) 8 b))

pub write_fits : (n : Numbers) (b : Option OpenBurst) (command : Command) → command_rule n b command ≡ None → LanesFit n.width command
write_fits n b Idle free = tt
write_fits n b (Read o k) free = tt
write_fits n None (Write o k m d) free = lanes_fit n m d (first_later (opening_rule n o.0 k) (lanes_rule n m d) free)
write_fits n (Some b) (Write o k m d) free = lanes_fit n m d free

pub mask_fits : (v : ℕ) (command : Command) → LanesFit v command → NarrowMask v command
mask_fits v Idle fits = tt
mask_fits v (Read o k) fits = tt
mask_fits v (Write o k m d) fits = fits.0

same_bursts : (bs : List OwedBurst) (command : Command) → bs ++ burst_of command false ≡ bs
same_bursts bs command = ap (λ ds. bs ++ ds) (burst_none command) ∙ append-nil bs

pub fill_memory : (c : Cut) (n n' : Numbers) (b : Option OpenBurst) (command : Command) (a : Reply) (s : Slot) (σ : State) (memory : List ℕ) → Fitted c n n' → NarrowMask n'.width command → Into a s →
    memory_with c s memory ≡ σ.memory → σ.burst ≡ b → memory_with c (slot_filled c n'.width b command a s) memory ≡ (acted n'.width command a σ).memory
fill_memory c n n' b command reply.Idle s σ memory fitted small into e eb = e
fill_memory c n n' b command reply.Wait s σ memory fitted small into e eb = e
fill_memory c n n' b command reply.Take s σ memory fitted small into e eb =
    memory_accepted c n n' b command σ memory fitted small (sym e ∙ ap (λ t. memory_with c t memory) into) eb

pub fill_owed : (c : Cut) (v : ℕ) (b : Option OpenBurst) (command : Command) (a : Reply) (s : Slot) (bs : List OwedBurst) (g : Collected) (hs : List ℕ) (σ τ : State) → g.count < c.parts → (g.count ≡ 0 → g.value ≡ 0) → Into a s →
    offsets_in bs ≡ hs ++ offsets_in_slot s → length hs * c.parts ≡ g.count + length τ.owed → memory_with c s τ.memory ≡ σ.memory → owed_above c v s bs g τ ≡ σ.owed →
    owed_above c v (slot_filled c v b command a s) (bs ++ burst_of command (takes a)) g τ ≡ (acted v command a σ).owed
fill_owed c v b command reply.Idle s bs g hs σ τ few none into queued grouped e eo = ap (λ ds. owed_above c v s ds g τ) (same_bursts bs command) ∙ eo
fill_owed c v b command reply.Wait s bs g hs σ τ few none into queued grouped e eo = ap (λ ds. owed_above c v s ds g τ) (same_bursts bs command) ∙ eo
fill_owed c v b command reply.Take s bs g hs σ τ few none into queued grouped e eo =
    let all : offsets_in bs ≡ hs = queued ∙ (ap (λ t. hs ++ offsets_in_slot t) into ∙ append-nil hs) in
    owed_accepted c v b command bs g σ τ few none (ap (λ (xs : List ℕ). length xs * c.parts) all ∙ grouped) (sym e ∙ ap (λ t. memory_with c t τ.memory) into) (sym eo ∙ ap (λ t. owed_above c v t bs g τ) into)

pub fill_reads : (v : ℕ) (command : Command) (a : Reply) (bs : List OwedBurst) (σ : State) → lefts bs ≡ σ.reads → lefts (bs ++ burst_of command (takes a)) ≡ (acted v command a σ).reads
fill_reads v command reply.Idle bs σ e = ap lefts (same_bursts bs command) ∙ e
fill_reads v command reply.Wait bs σ e = ap lefts (same_bursts bs command) ∙ e
fill_reads v command reply.Take bs σ e = reads_accepted v command bs σ (sym e)

pub fill_queued : (c : Cut) (v : ℕ) (b : Option OpenBurst) (command : Command) (a : Reply) (s : Slot) (bs : List OwedBurst) (hs : List ℕ) → Into a s → offsets_in bs ≡ hs ++ offsets_in_slot s →
    offsets_in (bs ++ burst_of command (takes a)) ≡ hs ++ offsets_in_slot (slot_filled c v b command a s)
fill_queued c v b command reply.Idle s bs hs into queued = ap offsets_in (same_bursts bs command) ∙ queued
fill_queued c v b command reply.Wait s bs hs into queued = ap offsets_in (same_bursts bs command) ∙ queued
fill_queued c v b command reply.Take s bs hs into queued =
    queued_accepted c v b command bs hs (queued ∙ (ap (λ t. hs ++ offsets_in_slot t) into ∙ append-nil hs))

pub fill_lined : (c : Cut) (n n' : Numbers) (command : Command) (a : Reply) (s : Slot) (b b' : Option OpenBurst) (v : ℕ) (σ : State) → Fitted c n n' → LinedUp c n n' s b b' → Into a s → OpenWithin n' b' → command_rule n' b' command ≡ None → σ.burst ≡ b' →
    LinedUp c n n' (slot_filled c v b' command a s) b (acted v command a σ).burst
fill_lined c n n' command reply.Idle s b b' v σ fitted lined into within free e = subst (LinedUp c n n' s b) (sym e) lined
fill_lined c n n' command reply.Wait s b b' v σ fitted lined into within free e = subst (LinedUp c n n' s b) (sym e) lined
fill_lined c n n' command reply.Take s b b' v σ fitted lined into within free e =
    lined_accepted c n n' command b b' v σ fitted (subst (λ t. LinedUp c n n' t b b') into lined) within free e

-- what is held below is still the next part
none_held : (c : Cut) (s : Slot) (held : Option Command) → HoldsPart c s held → s ≡ Empty → held ≡ None
none_held c s None holds e = refl
none_held c s (Some h) holds e = let z : ◌≡◌ {A = Bool} true false = ap is_free (sym e) ∙ holds.1 in let y : ◌≡◌ {A = ℕ} 0 1 = cc in absurd (omega arith)

pub fill_holding : (c : Cut) (v : ℕ) (b : Option OpenBurst) (command : Command) (a : Reply) (s : Slot) (held : Option Command) → Into a s → HoldsPart c s held → HoldsPart c (slot_filled c v b command a s) held
fill_holding c v b command reply.Idle s held into holds = holds
fill_holding c v b command reply.Wait s held into holds = holds
fill_holding c v b command reply.Take s held into holds = subst (HoldsPart c (slot_for c v b command)) (sym (none_held c s held holds into)) tt

pub held_sent : (c : Cut) (s : Slot) (a : Reply) (ρ : State) → Answers (next_part c s) a → HoldsPart c s ρ.held → HoldsPart c (slot_sent c a s) (acted c.width (next_part c s) a ρ).held
held_sent c Empty reply.Idle ρ answers holds = holds
held_sent c Empty reply.Wait ρ answers holds = absurd answers
held_sent c Empty reply.Take ρ answers holds = absurd answers
held_sent c (Reading h k) reply.Idle ρ answers holds = absurd answers
held_sent c (Reading h k) reply.Wait ρ answers holds = (refl, refl)
held_sent c (Reading h k) reply.Take ρ answers holds = tt
held_sent c (Beat o p m d k) reply.Idle ρ answers holds = absurd answers
held_sent c (Beat o p m d k) reply.Wait ρ answers holds = (refl, refl)
held_sent c (Beat o p m d k) reply.Take ρ answers holds = tt

-- the read bursts owed lie within the memory
push_within : (size : ℕ) (bs : List OwedBurst) (b : OwedBurst) → BurstsWithin size bs → 1 ≤ b.left → b.next.0 + b.left ≤ size → BurstsWithin size (bs ++ (b ∷ []))
push_within size [] b within some fits = (some, fits, tt)
push_within size (d ∷ bs) b within some fits = (within.0, within.1, push_within size bs b within.2 some fits)

accepted_within : (n' : Numbers) (b' : Option OpenBurst) (command : Command) (bs : List OwedBurst) → command_rule n' b' command ≡ None → BurstsWithin n'.words bs → BurstsWithin n'.words (bs ++ burst_of command true)
accepted_within n' b' Idle bs free within = subst (BurstsWithin n'.words) (sym (append-nil bs)) within
accepted_within n' b' (Read o k) bs free within = let fits = read_fits n' b' o k free in push_within n'.words bs (record { next = o; left = k }) within fits.0 fits.2
accepted_within n' b' (Write o k m d) bs free within = subst (BurstsWithin n'.words) (sym (append-nil bs)) within

pub fill_within : (n' : Numbers) (b' : Option OpenBurst) (command : Command) (a : Reply) (bs : List OwedBurst) → command_rule n' b' command ≡ None → BurstsWithin n'.words bs → BurstsWithin n'.words (bs ++ burst_of command (takes a))
fill_within n' b' command reply.Idle bs free within = subst (BurstsWithin n'.words) (sym (same_bursts bs command)) within
fill_within n' b' command reply.Wait bs free within = subst (BurstsWithin n'.words) (sym (same_bursts bs command)) within
fill_within n' b' command reply.Take bs free within = accepted_within n' b' command bs free within

-- at most P' bursts are owed
accepted_pending : (v : ℕ) (s : Slot) (bursts p : ℕ) (command : Command) (σ : State) → Why s bursts p command reply.Take → length σ.reads ≤ bursts → bursts ≤ p → length (acted v command reply.Take σ).reads ≤ p
accepted_pending v s bursts p Idle σ why few most = absurd why.1
accepted_pending v s bursts p (Read o k) σ why few most = omega (arith, length_push σ.reads k, why.1)
accepted_pending v s bursts p (Write o k m d) σ why few most = omega arith

pub pending_within : (v : ℕ) (s : Slot) (bursts p : ℕ) (command : Command) (a : Reply) (σ : State) → Why s bursts p command a → length σ.reads ≤ bursts → bursts ≤ p → length (acted v command a σ).reads ≤ p
pending_within v s bursts p command reply.Idle σ why few most = omega arith
pending_within v s bursts p command reply.Wait σ why few most = omega arith
pending_within v s bursts p command reply.Take σ why few most = accepted_pending v s bursts p command σ why few most

-- Waits stay within A' ---------------------------------------------------------------------------------

-- a command waits only while the calls until the slot is empty, or until a read burst ends, fall
pub record Falls (n n' : Numbers) (s s1 : Slot) (σ τ ρ : State) (bursts due : ℕ) : Type 0 where
  pub slot : slot_due n τ s1 ≤ slot_due n σ s
  pub slot_more : 1 ≤ parts_due s → slot_due n τ s1 + 1 ≤ slot_due n σ s
  pub queue : calls_due n'.pending_limit n'.silence_bound ρ.silence ρ.reads ≤ due
  pub queue_more : n'.pending_limit ≤ bursts → calls_due n'.pending_limit n'.silence_bound ρ.silence ρ.reads + 1 ≤ due
  pub patient : ρ.waits + slot_due n σ s + due ≤ n'.wait_bound

waits_accepted : (v most : ℕ) (s : Slot) (bursts p : ℕ) (command : Command) (ρ : State) → Why s bursts p command reply.Take → (acted v command reply.Take ρ).waits ≤ most
waits_accepted v most s bursts p Idle ρ why = absurd why.1
waits_accepted v most s bursts p (Read o k) ρ why = omega arith
waits_accepted v most s bursts p (Write o k m d) ρ why = omega arith

pub waits_within : (v : ℕ) (n n' : Numbers) (s s1 : Slot) (σ τ ρ : State) (bursts due : ℕ) (command : Command) (a : Reply) → Falls n n' s s1 σ τ ρ bursts due → Why s bursts n'.pending_limit command a → (acted v command a ρ).waits ≤ n'.wait_bound
waits_within v n n' s s1 σ τ ρ bursts due command reply.Idle falls why = omega (arith, falls.patient)
waits_within v n n' s s1 σ τ ρ bursts due command reply.Wait falls why =
    elim why.1 [
      | inl full ↦ omega (arith, falls.patient, falls.slot_more full)
      | inr full ↦ omega (arith, falls.patient, falls.queue_more full)
    ]
waits_within v n n' s s1 σ τ ρ bursts due command reply.Take falls why = waits_accepted v n'.wait_bound s bursts n'.pending_limit command ρ why

-- a slot that was just filled is empty after k B' (A + 1) calls
parts_within : (c : Cut) (v : ℕ) (n' : Numbers) (b : Option OpenBurst) (command : Command) → 1 ≤ c.parts → 1 ≤ n'.burst_limit → command_rule n' b command ≡ None → parts_due (slot_for c v b command) ≤ c.parts * n'.burst_limit
parts_within c v n' b Idle parts some free = omega arith
parts_within c v n' b (Read o k) parts some free =
    let fits = read_fits n' b o k free in
    let h = mul-le 1 k c.parts n'.burst_limit parts fits.1 in
    omega (arith, one-mul k)
parts_within c v n' b (Write o k m d) parts some free = let h = mul-le c.parts 1 c.parts n'.burst_limit (omega arith) some in omega (arith, mul-one c.parts)

pub fill_patient : (c : Cut) (v : ℕ) (n n' : Numbers) (b : Option OpenBurst) (s s1 : Slot) (σ τ ρ : State) (bursts due : ℕ) (command : Command) (a : Reply) → Fitted c n n' → 1 ≤ n'.burst_limit → Falls n n' s s1 σ τ ρ bursts due →
    Why s bursts n'.pending_limit command a → command_rule n' b command ≡ None → ReadsWithin n'.burst_limit (acted v command a ρ).reads →
    (acted v command a ρ).waits + slot_due n τ (slot_filled c v b command a s1) + calls_due n'.pending_limit n'.silence_bound (acted v command a ρ).silence (acted v command a ρ).reads ≤ n'.wait_bound
fill_patient c v n n' b s s1 σ τ ρ bursts due command reply.Idle fitted some falls why free reading = omega (arith, falls.patient, falls.slot, falls.queue)
fill_patient c v n n' b s s1 σ τ ρ bursts due command reply.Wait fitted some falls why free reading =
    elim why.1 [
      | inl full ↦ omega (arith, falls.patient, falls.slot_more full, falls.queue)
      | inr full ↦ omega (arith, falls.patient, falls.slot, falls.queue_more full)
    ]
fill_patient c v n n' b s s1 σ τ ρ bursts due command reply.Take fitted some falls why free reading =
    let τ' = acted v command reply.Take ρ in
    let none = waits_accepted v 0 s bursts n'.pending_limit command ρ why in
    let low = mul-le (parts_due (slot_for c v b command)) (n.wait_bound + 1) (c.parts * n'.burst_limit) (n.wait_bound + 1) (parts_within c v n' b command fitted.parts_some some free) (omega arith) in
    let due-most = due_below n'.pending_limit n'.silence_bound τ'.silence n'.burst_limit τ'.reads reading in
    let same = ap (λ l. n'.burst_limit * (l + 1)) fitted.silence in
    omega (arith, fitted.waits)
