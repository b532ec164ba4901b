-- A command that the adapter takes, or not: the slot counts as done.
use Rattle.std.proofs.Common.{◌≡◌, ℕ, ◌+◌, ◌*◌, ◌^◌, ◌<◌, true, false, ◌⊎◌, List, [], ◌∷◌, ◌++◌, length, Option, sym, refl, ap, ◌∙◌, inl, inr}
use Rattle.std.proofs.lemmas.List.{append_assoc, append-nil, map_push}
use Rattle.port.specs.Lanes.{byte_in, stored, words_at}
use Rattle.port.specs.Machine.{acted, beat_offset}
use Rattle.port.specs.State.{State}
use Rattle.port.specs.declared.calls.Command.{Command}
use Rattle.port.specs.declared.calls.Command.TheVariants.{Idle, Read, Write}
use Rattle.port.specs.declared.calls.OpenBurst.{OpenBurst}
use Rattle.port.specs.declared.calls.Reply.{Reply}
use Rattle.port.specs.declared.calls.Reply.TheVariants as reply
use Rattle.port.specs.declared.numbers.Numbers.{Numbers}
use Rattle.adapters.specs.Above.{memory_with, owed_above}
use Rattle.adapters.specs.Cuts.{beats_left, slot_for}
use Rattle.adapters.specs.Engine.{burst_of, slot_sent}
use Rattle.adapters.specs.Kept.{Fitted, offsets_in_slot}
use Rattle.adapters.specs.Owed.{counted, host_words, lefts, offsets_in}
use Rattle.adapters.specs.declared.cut.Cut.{Cut}
use Rattle.adapters.specs.Slots.{Empty}
use Rattle.adapters.specs.declared.owed.Collected.{Collected}
use Rattle.adapters.specs.declared.owed.OwedBurst.{OwedBurst}
use Rattle.adapters.proofs.Beats.{beat_counted}
use Rattle.adapters.proofs.Parts.{asked_only}

-- an empty slot has no part
pub empty_stays : (c : Cut) (a : Reply) → slot_sent c a Empty ≡ Empty
empty_stays c reply.Idle = refl
empty_stays c reply.Wait = refl
empty_stays c reply.Take = refl

pub burst_none : (c : Command) → burst_of c false ≡ []
burst_none Idle = refl
burst_none (Read o n) = refl
burst_none (Write o n m d) = refl

-- A command that is taken --------------------------------------------------------------------------

pub offsets_push : (bs : List OwedBurst) (b : OwedBurst) → offsets_in (bs ++ (b ∷ [])) ≡ offsets_in bs ++ counted b.next.0 b.left
unfolding offsets_in
offsets_push [] b = append-nil (counted b.next.0 b.left)
offsets_push (d ∷ bs) b = ap (λ xs. counted d.next.0 d.left ++ xs) (offsets_push bs b) ∙ sym (append_assoc (counted d.next.0 d.left) (offsets_in bs) (counted b.next.0 b.left))

-- the mask of a write that is not refused has a bit for each lane
abbrev pub NarrowMask : ℕ → Command → Type 0
NarrowMask v Idle = Unit {0}
NarrowMask v (Read o k) = Unit {0}
NarrowMask v (Write o k m d) = m < 2 ^ v

one_of : {A B C : Type 0} → A ⊎ (B × C) → A ⊎ B
one_of (inl a) = inl a
one_of (inr b) = inr b.0

-- a taken beat counts as stored; a read stores nothing
pub memory_accepted : (c : Cut) (n n' : Numbers) (b : Option OpenBurst) (command : Command) (σ : State) (memory : List ℕ) → Fitted c n n' → NarrowMask n'.width command →
    σ.memory ≡ memory → σ.burst ≡ b → memory_with c (slot_for c n'.width b command) memory ≡ (acted n'.width command reply.Take σ).memory
memory_accepted c n n' b Idle σ memory fitted small e eb = sym e
memory_accepted c n n' b (Read o k) σ memory fitted small e eb = sym e
memory_accepted c n n' b (Write o k m d) σ memory fitted small e eb =
    beat_counted c n'.width (beat_offset b o.0) (beats_left b k) m d memory fitted.widths (one_of fitted.kind) fitted.share_some small
    ∙ (ap (λ h. stored n'.width (beat_offset h o.0) m d memory) (sym eb) ∙ ap (λ xs. stored n'.width (beat_offset σ.burst o.0) m d xs) (sym e))

pub owed_accepted : (c : Cut) (v : ℕ) (b : Option OpenBurst) (command : Command) (bs : List OwedBurst) (g : Collected) (σ τ : State) → g.count < c.parts → (g.count ≡ 0 → g.value ≡ 0) →
    length (offsets_in bs) * c.parts ≡ g.count + length τ.owed → σ.memory ≡ τ.memory → σ.owed ≡ owed_above c v Empty bs g τ →
    owed_above c v (slot_for c v b command) (bs ++ burst_of command true) g τ ≡ (acted v command reply.Take σ).owed
owed_accepted c v b Idle bs g σ τ few none grouped e eo = ap (λ ds. owed_above c v Empty ds g τ) (append-nil bs) ∙ sym eo
owed_accepted c v b (Read o k) bs g σ τ few none grouped e eo =
    let ws = words_at v (byte_in τ.memory) o.0 k in
    ap (λ os. host_words c v os g τ.owed ++ ws) (offsets_push bs (record { next = o; left = k }))
    ∙ (ap (λ xs. xs ++ ws) (asked_only c v (offsets_in bs) (counted o.0 k) g τ.owed few none grouped ∙ (sym (append-nil (host_words c v (offsets_in bs) g τ.owed)) ∙ sym eo))
    ∙ ap (λ m. σ.owed ++ words_at v (byte_in m) o.0 k) (sym e))
owed_accepted c v b (Write o k m d) bs g σ τ few none grouped e eo = ap (λ ds. owed_above c v Empty ds g τ) (append-nil bs) ∙ sym eo

pub reads_accepted : (v : ℕ) (command : Command) (bs : List OwedBurst) (σ : State) → σ.reads ≡ lefts bs → lefts (bs ++ burst_of command true) ≡ (acted v command reply.Take σ).reads
reads_accepted v Idle bs σ e = ap lefts (append-nil bs) ∙ sym e
reads_accepted v (Read o k) bs σ e = map_push (λ b. b.left) bs (record { next = o; left = k }) ∙ ap (λ xs. xs ++ (k ∷ [])) (sym e)
reads_accepted v (Write o k m d) bs σ e = ap lefts (append-nil bs) ∙ sym e

pub queued_accepted : (c : Cut) (v : ℕ) (b : Option OpenBurst) (command : Command) (bs : List OwedBurst) (hs : List ℕ) → offsets_in bs ≡ hs → offsets_in (bs ++ burst_of command true) ≡ hs ++ offsets_in_slot (slot_for c v b command)
queued_accepted c v b Idle bs hs e = ap offsets_in (append-nil bs) ∙ (e ∙ sym (append-nil hs))
queued_accepted c v b (Read o k) bs hs e = offsets_push bs (record { next = o; left = k }) ∙ ap (λ xs. xs ++ counted o.0 k) e
queued_accepted c v b (Write o k m d) bs hs e = ap offsets_in (append-nil bs) ∙ (e ∙ sym (append-nil hs))
