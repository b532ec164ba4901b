-- A burst that is open below follows the one above, and no part is refused.
use Rattle.std.proofs.Common.{◌≡◌, ℕ, ◌+◌, ◌-◌, ◌*◌, ◌/◌, ◌%◌, ◌^◌, ◌≤◌, Bool, true, false, ltb, ◌⊎◌, Some, None, Option, sym, refl, ap, ◌∙◌, subst, inl, inr, add-mul, one-mul, zero-mul, mul-one, arith, pow_pos}
use Rattle.std.proofs.lemmas.Nat.{div_below, mod_below, mul-le}
use Rattle.std.proofs.lemmas.Bool.{cases_Bool, cases_lt, cond_both, cond-true, ne_eqb, lt-ltb, le-ltb, lt-leb, ltb-false, ltb-true}
use Rattle.port.specs.Legal.{OpenWithin}
use Rattle.port.specs.Machine.{acted, burst_after, command_rule, hold_rule, lanes_rule, opening_rule, refusal_by, rest_of_burst}
use Rattle.port.specs.State.{State}
use Rattle.port.specs.declared.addresses.WordOffset.{WordOffset}
use Rattle.port.specs.declared.calls.Command.{Command}
use Rattle.port.specs.declared.calls.Command.TheVariants.{Idle, Read, Write}
use Rattle.port.specs.declared.calls.OpenBurst.{OpenBurst}
use Rattle.port.specs.declared.calls.Reply.{Reply}
use Rattle.port.specs.declared.calls.Reply.TheVariants as reply
use Rattle.port.specs.declared.numbers.Numbers.{Numbers}
use Rattle.port.proofs.Rules.{first_sooner, opening_fits, repeats_itself}
use Rattle.adapters.specs.Cuts.{after_part, in_one_burst, is_free, next_part, offset_below, slot_for}
use Rattle.adapters.specs.Engine.{slot_sent}
use Rattle.adapters.specs.Kept.{Between, Fitted, HoldsPart, LinedUp, Opening, WithinBeat}
use Rattle.adapters.specs.declared.cut.Cut.{Cut}
use Rattle.adapters.specs.Slots.{Empty, Reading, Beat, Slot}
use Rattle.adapters.proofs.Parts.{asked_few, asked_most, asked_some, one_asked}
use Rattle.adapters.proofs.Places.{offset_whole}

-- Where host words lie below ---------------------------------------------------------------

-- so many host words from h on lie within the words below: more than one only where each has words of its own
pub lies_below : (c : Cut) (n n' : Numbers) (h i : ℕ) → Fitted c n n' → h + i ≤ n'.words → 1 ≤ i → (c.share ≡ 1) ⊎ ((c.parts ≡ 1) × (i ≡ 1)) → offset_below c h + i * c.parts ≤ n.words
lies_below c n n' h i fitted fits some (inl one) =
    let k = c.parts in
    let o = offset_whole c h one in
    let up = mul-le (h + i) k n'.words k fits (omega arith) in
    let all : n.words * c.share ≡ n.words = ap (λ f. n.words * f) one ∙ mul-one n.words in
    omega (arith, add-mul h i k, fitted.sizes)
lies_below c n n' h i fitted fits some (inr one) =
    let f = c.share in
    let o : offset_below c h ≡ h / f = ap (λ k. h * k / f) one.0 ∙ ap (λ k. k / f) (mul-one h) in
    let size : n'.words ≡ n.words * f = sym (mul-one n'.words) ∙ (ap (λ k. n'.words * k) (sym one.0) ∙ fitted.sizes) in
    let low = div_below h f n.words (omega (arith, fitted.share_some)) (omega arith) in
    let single : i * c.parts ≡ 1 = ap (λ k. k * c.parts) one.1 ∙ (one-mul c.parts ∙ one.0) in
    omega arith

-- After a part ---------------------------------------------------------------------------------

-- the burst below, of which t beats were left with this part
after_beat : (c : Cut) (n n' : Numbers) (o : WordOffset) (p m d left j t : ℕ) (b b' : Option OpenBurst) → WithinBeat c n n' o.0 p left b b' → t ≡ p + j * c.parts → j + 1 ≤ left → (c.share ≡ 1) ⊎ (t ≡ 1) →
    LinedUp c n n' (after_part c (Beat o p m d left)) (rest_of_burst o.0 t) b'
after_beat c n n' o p m d left j t b b' beat total fewer kind =
    let w = c.width in
    cond_both (ltb 1 p) (Beat (record { 0 = o.0 + 1 }) (p - 1) (m / 2 ^ w) (d / 2 ^ (8 * w)) left) Empty (λ s. LinedUp c n n' s (rest_of_burst o.0 t) b')
    (λ e.
    let more = ltb-true 1 p e in
    let one : c.share ≡ 1 = elim kind [ inl i ↦ i | inr i ↦ absurd (omega arith) ] in
    let open_is : rest_of_burst o.0 t ≡ Some (record { next = o.0 + 1; left = t - 1 }) = cond-true (ltb 1 t) (Some (record { next = o.0 + 1; left = t - 1 })) None (lt-ltb 1 t (omega arith)) in
    record {
      some = omega arith;
      few = omega (arith, beat.few);
      left_some = beat.left_some;
      inside = omega (arith, beat.inside);
      host = beat.host;
      host_inside = beat.host_inside;
      place = λ i. omega (arith, beat.place i);
      rest = beat.rest;
      opening = subst (Opening c n (o.0 + 1) (p - 1) left) (sym open_is) (one, refl, j, omega arith, fewer);
    })
    (λ e.
    let le = ltb-false 1 p e in
    let last : p ≡ 1 = omega (arith, beat.some) in
    elim (cases_Bool (ltb 1 t)) [
      | inl u ↦
          let more = ltb-true 1 t u in
          let one : c.share ≡ 1 = elim kind [ inl i ↦ i | inr i ↦ absurd (omega arith) ] in
          let some : 1 ≤ j = elim (cases_lt j 1) [ inl z ↦ let none : j ≡ 0 = omega arith in absurd (omega (arith, ap (λ i. i * c.parts) none, zero-mul c.parts)) | inr s ↦ s ] in
          let above : b' ≡ Some (record { next = beat.host + 1; left = left - 1 }) =
          beat.rest ∙ cond-true (ltb 1 left) (Some (record { next = beat.host + 1; left = left - 1 })) None (lt-ltb 1 left (omega arith)) in
          let at : o.0 + 1 ≡ (beat.host + 1) * c.parts = omega (arith, beat.place one) in
          rw u (subst (Between c (Some (record { next = o.0 + 1; left = t - 1 }))) (sym above) (one, at, j, omega arith, some, omega arith))
      | inr u ↦ rw u tt
    ])

lined_beat : (c : Cut) (n n' : Numbers) (o : WordOffset) (p m d left : ℕ) (b b' : Option OpenBurst) → Fitted c n n' → WithinBeat c n n' o.0 p left b b' → Opening c n o.0 p left b →
    LinedUp c n n' (after_part c (Beat o p m d left)) (burst_after b o.0 (in_one_burst c left * c.parts)) b'
lined_beat c n n' o p m d left None b' fitted beat opening =
    let i = in_one_burst c left in
    let k = c.parts in
    let some = asked_some c left beat.left_some fitted.most_some in
    let split : i * k ≡ k + (i - 1) * k = let one : i ≡ 1 + (i - 1) = omega arith in ap (λ e. e * k) one ∙ (add-mul 1 (i - 1) k ∙ ap (λ e. e + (i - 1) * k) (one-mul k)) in
    let kind : (c.share ≡ 1) ⊎ (i * k ≡ 1) = elim (one_asked c left beat.left_some fitted.kind) [ inl e ↦ inl e | inr e ↦ inr (ap (λ j. j * k) e.1 ∙ (one-mul k ∙ e.0)) ] in
    after_beat c n n' o p m d left (i - 1) (i * k) None b' beat (omega (arith, opening.0)) (omega (arith, asked_few c left)) kind
lined_beat c n n' o p m d left (Some b) b' fitted beat opening =
    subst (λ at. LinedUp c n n' (after_part c (Beat o p m d left)) (rest_of_burst at b.left) b') (sym opening.1)
    (after_beat c n n' o p m d left opening.2 b.left (Some b) b' beat opening.3 opening.4 (inl opening.0))

-- what is left of a read
lined_read : (c : Cut) (n n' : Numbers) (h : WordOffset) (k : ℕ) (b b' : Option OpenBurst) → 1 ≤ c.most → LinedUp c n n' (Reading h k) b b' → LinedUp c n n' (after_part c (Reading h k)) b b'
lined_read c n n' h k b b' most lined =
    cond_both (ltb c.most k) (Reading (record { 0 = h.0 + c.most }) (k - c.most)) Empty (λ s. LinedUp c n n' s b b')
    (λ e. let lt = ltb-true c.most k e in (lined.0, lined.1, omega arith, omega (arith, lined.3), omega (arith, lined.4)))
    (λ e. subst (λ o. Between c o b') (sym lined.0) tt)

pub lined_sent : (c : Cut) (n n' : Numbers) (s : Slot) (a : Reply) (ρ : State) (b' : Option OpenBurst) → Fitted c n n' → LinedUp c n n' s ρ.burst b' →
    LinedUp c n n' (slot_sent c a s) (acted c.width (next_part c s) a ρ).burst b'
lined_sent c n n' Empty reply.Idle ρ b' fitted lined = lined
lined_sent c n n' Empty reply.Wait ρ b' fitted lined = lined
lined_sent c n n' Empty reply.Take ρ b' fitted lined = lined
lined_sent c n n' (Reading h k) reply.Idle ρ b' fitted lined = lined
lined_sent c n n' (Reading h k) reply.Wait ρ b' fitted lined = lined
lined_sent c n n' (Reading h k) reply.Take ρ b' fitted lined = lined_read c n n' h k ρ.burst b' fitted.most_some lined
lined_sent c n n' (Beat o p m d k) reply.Idle ρ b' fitted lined = lined
lined_sent c n n' (Beat o p m d k) reply.Wait ρ b' fitted lined = lined
lined_sent c n n' (Beat o p m d k) reply.Take ρ b' fitted lined = lined_beat c n n' o p m d k ρ.burst b' fitted lined lined.opening

-- After a command is taken ------------------------------------------------------------------------

-- a beat to the host word at h, the next one of what is open below
opened : (c : Cut) (n n' : Numbers) (h left : ℕ) (b b' : Option OpenBurst) → Fitted c n n' → Between c b b' → 1 ≤ left → h + left ≤ n'.words → ((d : OpenBurst) → b' ≡ Some d → (d.next ≡ h) × (d.left ≡ left)) →
    Opening c n (offset_below c h) c.parts left b
opened c n n' h left None b' fitted between some fits same =
    let i = in_one_burst c left in
    let le = asked_few c left in
    (refl, lies_below c n n' h i fitted (omega arith) (asked_some c left some fitted.most_some) (one_asked c left some fitted.kind))
opened c n n' h left (Some b) None fitted between some fits same = absurd between
opened c n n' h left (Some b) (Some d) fitted between some fits same =
    let k = c.parts in
    let j = between.2 in
    let is = same d refl in
    let one : j ≡ 1 + (j - 1) = omega (arith, between.4) in
    let split : j * k ≡ k + (j - 1) * k = ap (λ e. e * k) one ∙ (add-mul 1 (j - 1) k ∙ ap (λ e. e + (j - 1) * k) (one-mul k)) in
    (between.0, between.1 ∙ (ap (λ e. e * k) is.0 ∙ sym (offset_whole c h between.0)), j - 1, omega (arith, between.3), omega (arith, between.5, between.4, is.1))

taken_beat : (c : Cut) (n n' : Numbers) (h left : ℕ) (b b' : Option OpenBurst) → Fitted c n n' → Between c b b' → 1 ≤ left → h + left ≤ n'.words → ((d : OpenBurst) → b' ≡ Some d → (d.next ≡ h) × (d.left ≡ left)) →
    WithinBeat c n n' (offset_below c h) c.parts left b (rest_of_burst h left)
taken_beat c n n' h left b b' fitted between some fits same =
    let k = c.parts in
    let kind : (c.share ≡ 1) ⊎ ((k ≡ 1) × (◌≡◌ {A = ℕ} 1 1)) = elim fitted.kind [ inl e ↦ inl e | inr e ↦ inr (e.0, refl) ] in
    let low = lies_below c n n' h 1 fitted (omega arith) (omega arith) kind in
    record {
      some = fitted.parts_some;
      few = omega arith;
      left_some = some;
      inside = omega (arith, one-mul k);
      host = h;
      host_inside = fits;
      place = λ one. omega (arith, offset_whole c h one, add-mul h 1 k, one-mul k);
      rest = refl;
      opening = opened c n n' h left b b' fitted between some fits same;
    }

between_none : (c : Cut) (b : Option OpenBurst) → Between c b None → b ≡ None
between_none c None between = refl
between_none c (Some b) between = absurd between

pub lined_accepted : (c : Cut) (n n' : Numbers) (command : Command) (b : Option OpenBurst) (b' : Option OpenBurst) (v : ℕ) (σ : State) → Fitted c n n' → Between c b b' → OpenWithin n' b' → command_rule n' b' command ≡ None → σ.burst ≡ b' →
    LinedUp c n n' (slot_for c v b' command) b (acted v command reply.Take σ).burst
lined_accepted c n n' Idle b b' v σ fitted between within free e = subst (Between c b) (sym e) between
lined_accepted c n n' (Read o k) b None v σ fitted between within free e =
    let fits = opening_fits n' o.0 k free in
    (between_none c b between, e, fits.0, fits.1, fits.2)
lined_accepted c n n' (Read o k) b (Some d) v σ fitted between within free e = let z : ◌≡◌ {A = ℕ} 0 1 = cc in absurd (omega arith)
lined_accepted c n n' (Write o k m d) b None v σ fitted between within free e =
    let fits = opening_fits n' o.0 k (first_sooner (opening_rule n' o.0 k) (lanes_rule n' m d) free) in
    subst (λ x. WithinBeat c n n' (offset_below c o.0) c.parts k b (burst_after x o.0 k)) (sym e)
    (taken_beat c n n' o.0 k b None fitted between fits.0 fits.2 (λ x i. let z : ◌≡◌ {A = ℕ} 0 1 = cc in absurd (omega arith)))
lined_accepted c n n' (Write o k m d) b (Some x) v σ fitted between within free e =
    subst (λ y. WithinBeat c n n' (offset_below c x.next) c.parts x.left b (burst_after y o.0 k)) (sym e)
    (taken_beat c n n' x.next x.left b (Some x) fitted between within.0 within.2 (λ y i. let same : x ≡ y = cc in (ap (λ q. q.next) (sym same), ap (λ q. q.left) (sym same))))

-- No part is refused --------------------------------------------------------------------------------

-- an opening command within the limits is not refused
pub opening_free : (n : Numbers) (o k : ℕ) → 1 ≤ k → k ≤ n.burst_limit → o + k ≤ n.words → opening_rule n o k ≡ None
opening_free n o k some few fits =
    rw (ne_eqb k 0 (λ e. omega arith), le-ltb n.burst_limit k few, le-ltb n.words (o + k) fits)

lanes_free : (n : Numbers) (m d : ℕ) → lanes_rule n (m % 2 ^ n.width) (d % 2 ^ (8 * n.width)) ≡ None
lanes_free n m d =
    rw (
      lt-leb (2 ^ n.width) (m % 2 ^ n.width) (mod_below m (2 ^ n.width) (pow_pos n.width)),
      lt-leb (2 ^ (8 * n.width)) (d % 2 ^ (8 * n.width)) (mod_below d (2 ^ (8 * n.width)) (pow_pos (8 * n.width))),
    )

pub parts_fit : (c : Cut) (n n' : Numbers) (left : ℕ) → Fitted c n n' → 1 ≤ left → (1 ≤ in_one_burst c left * c.parts) × (in_one_burst c left * c.parts ≤ n.burst_limit)
parts_fit c n n' left fitted some =
    let i = in_one_burst c left in
    let low = mul-le 1 1 i c.parts (asked_some c left some fitted.most_some) fitted.parts_some in
    let high = mul-le i c.parts c.most c.parts (asked_most c left) (omega arith) in
    (omega arith, omega (arith, fitted.burst_fits))

beat_free : (c : Cut) (n n' : Numbers) (o : WordOffset) (p m d left : ℕ) (b b' : Option OpenBurst) → Fitted c n n' → WithinBeat c n n' o.0 p left b b' → Opening c n o.0 p left b →
    command_rule n b (Write o (in_one_burst c left * c.parts) (m % 2 ^ n.width) (d % 2 ^ (8 * n.width))) ≡ None
beat_free c n n' o p m d left None b' fitted beat opening =
    let fits = parts_fit c n n' left fitted beat.left_some in
    rw (opening_free n o.0 (in_one_burst c left * c.parts) fits.0 fits.1 opening.1) (lanes_free n m d)
beat_free c n n' o p m d left (Some b) b' fitted beat opening = lanes_free n m d

rule_free : (c : Cut) (n n' : Numbers) (s : Slot) (b b' : Option OpenBurst) → Fitted c n n' → LinedUp c n n' s b b' → command_rule n b (next_part c s) ≡ None
rule_free c n n' Empty b b' fitted lined = refl
rule_free c n n' (Reading h k) b b' fitted lined =
    let fits = parts_fit c n n' k fitted lined.2 in
    let le = asked_few c k in
    let lies = lies_below c n n' h.0 (in_one_burst c k) fitted (omega (arith, lined.4)) (asked_some c k lined.2 fitted.most_some) (one_asked c k lined.2 fitted.kind) in
    subst (λ o. command_rule n o (next_part c (Reading h k)) ≡ None) (sym lined.0) (opening_free n (offset_below c h.0) (in_one_burst c k * c.parts) fits.0 fits.1 lies)
rule_free c n n' (Beat o p m d k) b b' fitted lined =
    subst (λ w. command_rule n b (Write o (in_one_burst c k * c.parts) (m % 2 ^ w) (d % 2 ^ (8 * w))) ≡ None) (sym fitted.below) (beat_free c n n' o p m d k b b' fitted lined lined.opening)

part_not_idle : (c : Cut) (s : Slot) → is_free s ≡ false → next_part c s ≡ Idle → ⊥
part_not_idle c Empty e i = let z : ◌≡◌ {A = Bool} true false = e in absurd (let y : ◌≡◌ {A = ℕ} 0 1 = cc in omega arith)
part_not_idle c (Reading h k) e i = let z : ◌≡◌ {A = ℕ} 0 1 = cc in omega arith
part_not_idle c (Beat o p m d k) e i = let z : ◌≡◌ {A = ℕ} 0 1 = cc in omega arith

pub part_free : (c : Cut) (n n' : Numbers) (s : Slot) (b b' : Option OpenBurst) (held : Option Command) → Fitted c n n' → LinedUp c n n' s b b' → HoldsPart c s held → refusal_by n b held (next_part c s) ≡ None
part_free c n n' s b b' None fitted lined holds = rule_free c n n' s b b' fitted lined
part_free c n n' s b b' (Some h) fitted lined holds =
    let same : hold_rule b (Some h) (next_part c s) ≡ None =
    subst (λ x. hold_rule b (Some x) (next_part c s) ≡ None) (sym holds.0) (rw (repeats_itself b (next_part c s) (part_not_idle c s holds.1)) refl) in
    rw same (rule_free c n n' s b b' fitted lined)
