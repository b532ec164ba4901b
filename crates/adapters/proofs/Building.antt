-- An adapter that was built keeps what every adapter keeps.
use Rattle.std.proofs.Common.{◌≡◌, ℕ, ◌*◌, ◌/◌, ◌%◌, ◌≤◌, Bool, true, false, not, ◌&&◌, eqb, ltb, leb, List, [], Some, None, Option, sym, refl, ap, ◌∙◌, subst, inl, inr, ⊎_elim, mul_assoc, mul_comm, mul-one, mul_right_comm, one-mul, zero-mul, div-mul-le_self, mul-div_cancel, arith, pow_pos}
use Rattle.std.proofs.lemmas.Nat.{le-div, mul-le}
use Rattle.std.proofs.lemmas.Bool.{and_parts, cases_lt, eqb-true, false≢true, leb-true, ltb-false, not-false}
use Rattle.std.proofs.lemmas.Bool.Decides.{nat_tests}
use Rattle.port.proofs.Rules.{first_later, first_sooner}
use Rattle.port.proofs.Waiting.{at_rest as resting, due_none, legal_reset, whole}
use Rattle.port.specs.Legal.{Legal, tally}
use Rattle.port.specs.Machine.{broken}
use Rattle.port.specs.State.{Ranges, State, reset}
use Rattle.port.specs.Widths.{Wide}
use Rattle.port.specs.declared.numbers.Numbers.{Numbers}
use Rattle.port.specs.declared.record.PortRecord.{PortRecord}
use Rattle.adapters.specs.Above.{above, state_above}
use Rattle.adapters.specs.Building.{Fresh, Suited, at_rest, in_range, is_factor, is_none, narrow_cut, narrow_fits, narrow_parts, narrow_rule, numbers_above, over_rule, wide_cut, wide_fits, wide_rule, wide_share}
use Rattle.adapters.specs.Kept.{Fitted, Keeps, Kept}
use Rattle.adapters.specs.Owed.{bursts_in, host_words, offsets_in}
use Rattle.adapters.specs.declared.adapter.Engine.{Engine}
use Rattle.adapters.specs.declared.cut.Cut.{Cut}
use Rattle.adapters.specs.Slots.{Empty, Slot}
use Rattle.adapters.specs.declared.owed.Collected.{Collected}
use Rattle.adapters.specs.declared.owed.OwedBurst.{OwedBurst}

-- Rules that are not broken ---------------------------------------------------------------

none_is : {X : Type 0} (o : Option X) → is_none o ≡ true → o ≡ None
none_is None e = refl
none_is (Some x) e = cc

unbroken : (t : Bool) (k : ℕ) → broken t k ≡ None → t ≡ false
unbroken true k e = cc
unbroken false k e = refl

-- the port below is at rest, and both bounds are small
pub record Served (n' : Numbers) (r : PortRecord) : Type 0 where
  pub shut : r.burst ≡ None
  pub free : r.held ≡ None
  pub none : r.words_owed ≡ 0
  pub patient : n'.wait_bound ≤ 100000000
  pub prompt : n'.silence_bound ≤ 100000000

served : (n' : Numbers) (r : PortRecord) → over_rule n' r ≡ None → Served n' r
served n' r e =
    let rests = not-false (at_rest r) (unbroken (not (at_rest r)) 3 (first_sooner _ _ e)) in
    let shut = and_parts (is_none r.burst) (is_none r.held && eqb r.words_owed 0) rests in
    let free = and_parts (is_none r.held) (eqb r.words_owed 0) shut.1 in
    let bounds = first_later (broken (not (at_rest r)) 3) _ e in
    record {
      shut = none_is r.burst shut.0;
      free = none_is r.held free.0;
      none = eqb-true r.words_owed 0 free.1;
      patient = ltb-false 100000000 n'.wait_bound (unbroken (ltb 100000000 n'.wait_bound) 4 (first_sooner _ _ bounds));
      prompt = ltb-false 100000000 n'.silence_bound (unbroken (ltb 100000000 n'.silence_bound) 4 (first_later (broken (ltb 100000000 n'.wait_bound) 4) _ bounds));
    }

-- Numbers -----------------------------------------------------------------------------------

some_wide : (w : ℕ) → Wide w → 1 ≤ w
some_wide w wide = grind (arith, nat_tests)

few_wide : (w : ℕ) → Wide w → w ≤ 8
few_wide w wide = grind (arith, nat_tests)

-- as many bytes above as below
same_bytes : (c : Cut) (n : Numbers) (v b p : ℕ) → Ranges n → Suited c n v b p → n.words * n.width / v * v ≡ n.words * n.width
same_bytes c n v b p ranges suited = whole v (n.words * n.width) suited.wide ranges.eights

-- equal products with one factor in common
cancel : (a b w : ℕ) → 1 ≤ w → a * w ≡ b * w → a ≡ b
cancel a b w some e = sym (mul-div_cancel a some) ∙ (ap (λ z. z / w) e ∙ mul-div_cancel b some)

sizes : (size v w words k f : ℕ) → 1 ≤ w → size * v ≡ words * w → v * f ≡ w * k → size * k ≡ words * f
sizes size v w words k f some same widths =
    cancel (size * k) (words * f) w some
    (mul_assoc size k w ∙ (ap (λ z. size * z) (mul_comm k w ∙ sym widths) ∙ (sym (mul_assoc size v f) ∙ (ap (λ z. z * f) same ∙ mul_right_comm words w f))))

ranges_above : (c : Cut) (n : Numbers) (v b p : ℕ) → Ranges n → Suited c n v b p → (r : PortRecord) → Served (numbers_above c.parts n v b p) r → Ranges (numbers_above c.parts n v b p)
ranges_above c n v b p ranges suited r s =
    let all = same_bytes c n v b p ranges suited in
    record {
      wide = suited.wide;
      eights = ap (λ k. k % 8) all ∙ ranges.eights;
      some = omega (arith, all, ranges.some);
      few = omega (arith, all, ranges.few);
      beats_some = suited.beats_some;
      beats_few = suited.beats_few;
      pending_some = suited.pending_some;
      pending_few = suited.pending_few;
      patient = s.patient;
      prompt = s.prompt;
    }

fitted : (c : Cut) (n : Numbers) (v b p : ℕ) → Ranges n → Suited c n v b p → Fitted c n (numbers_above c.parts n v b p)
fitted c n v b p ranges suited =
    record {
      below = suited.below;
      widths = suited.widths ∙ ap (λ w. w * c.parts) (sym suited.below);
      sizes = sizes (n.words * n.width / v) v n.width n.words c.parts c.share (some_wide n.width ranges.wide) (same_bytes c n v b p ranges suited) suited.widths;
      kind = suited.kind;
      parts_some = suited.parts_some;
      share_some = suited.share_some;
      most_some = suited.most_some;
      bytes_few = subst (λ w. w * c.parts ≤ 8) (sym suited.below) suited.bytes_few;
      burst_fits = suited.burst_fits;
      silence = refl;
      waits = refl;
    }

-- At reset ------------------------------------------------------------------------------------

abbrev none_yet : Collected
none_yet = record { value = 0; count = 0 }

-- a fresh engine over a port at reset
reset_above : (n n' : Numbers) (c : Cut) (image : List ℕ) → Fitted c n n' → Legal n' (reset image) →
    Keeps n (reset image) c Empty [] none_yet (tally n' (reset image)) × (state_above c Empty [] none_yet (tally n' (reset image)) (reset image) ≡ reset image)
unfolding host_words offsets_in
reset_above n n' c image fit legal =
    let due = due_none n'.pending_limit n'.silence_bound 0 [] legal.ranges.pending_some in (
      record {
        fitted = fit;
        legal = legal;
        tallied = refl;
        holding = tt;
        lined = tt;
        requested = [];
        queued = refl;
        grouped = omega arith;
        bursts_within = tt;
        parts_few = fit.parts_some;
        value_fits = pow_pos (8 * (c.width * 0));
        heard = λ some. absurd (omega arith);
        awaited = λ none. omega arith;
        patient = omega (arith, due);
      },
      refl,
    )

-- the same of data that are those of a fresh engine
keeps_fresh : (n n' : Numbers) (image : List ℕ) (σ : State) (c d : Cut) (s : Slot) (bs : List OwedBurst) (g : Collected) (r : PortRecord) → σ ≡ reset image → d ≡ c → s ≡ Empty → bs ≡ [] → g ≡ none_yet →
    r ≡ tally n' (reset image) → Fitted c n n' → Legal n' (reset image) → Keeps n σ d s bs g r × (state_above d s bs g r σ ≡ reset image)
keeps_fresh n n' image σ c d s bs g r eσ ed es eb eg er fit legal = rw (eσ, ed, es, eb, eg, er) (reset_above n n' c image fit legal)

-- what is built over a legal port keeps what every adapter keeps, at reset on the memory below
pub built : (c : Cut) (n : Numbers) (σ : State) (v b p : ℕ) (e : Engine) → Legal n σ → Suited c n v b p → over_rule (numbers_above c.parts n v b p) (tally n σ) ≡ None → Fresh (numbers_above c.parts n v b p) c v e →
    Kept n σ e × (above e σ ≡ reset σ.memory)
built c n σ v b p e legal suited rule fresh =
    let n' = numbers_above c.parts n v b p in
    let s = served n' (tally n σ) rule in
    let all = same_bytes c n v b p legal.ranges suited in
    let at = resting n σ legal s.shut s.free s.none in
    let empty : ◌≡◌ {A = Collected} (record { value = e.collected.value; count = e.collected.count }) none_yet = cc (fresh.value, fresh.count) in
    let ranges = ranges_above c n v b p legal.ranges suited (tally n σ) s in
    let both = keeps_fresh n n' σ.memory σ c e.shape.cut e.slot (bursts_in e.owed) e.collected e.plain at fresh.cut fresh.slot fresh.bursts empty (fresh.plain σ.memory)
    (fitted c n v b p legal.ranges suited) (legal_reset n' σ.memory ranges (legal.size ∙ sym all) legal.bytes) in
    (both.0, both.1)

-- an engine over a port that told its status, with a width that told its bytes
abbrev Raised : Cut → ℕ → ℕ → ℕ → PortRecord → Engine → Type 0
Raised c v b p r e = (over_rule (numbers_above c.parts r.numbers v b p) r ≡ None) × Fresh (numbers_above c.parts r.numbers v b p) c v e

pub raised : (c : Cut) (n : Numbers) (σ : State) (r : PortRecord) (v u b p : ℕ) (e : Engine) → r ≡ tally n σ → u ≡ v → Raised c u b p r e → Raised c v b p (tally n σ) e
raised c n σ r v u b p e er eu h = subst (λ j. Raised c j b p (tally n σ) e) eu (subst (λ q. Raised c u b p q e) er h)

-- What a cut that suits is small enough for ----------------------------------------------------------

pub record Small (c : Cut) (v : ℕ) : Type 0 where
  pub some : (1 ≤ c.width) × ((1 ≤ c.parts) × ((1 ≤ c.share) × (1 ≤ v)))
  pub few : (c.width ≤ 8) × ((c.parts ≤ 8) × (c.parts * c.width ≤ 8))
  pub shared : c.share * v ≤ 8

pub small : (c : Cut) (n : Numbers) (v b p : ℕ) → Suited c n v b p → Small c v
small c n v b p suited =
    let wide = some_wide v suited.wide in
    let whole = mul-le 1 1 v c.share wide suited.share_some in
    let bytes : c.width * c.parts ≤ 8 = subst (λ w. w * c.parts ≤ 8) (sym suited.below) suited.bytes_few in
    let some : 1 ≤ c.width = elim (cases_lt 0 c.width) [
      | inl lt ↦ lt
      | inr none ↦ let z : c.width ≡ 0 = omega arith in absurd (omega (arith, whole, suited.widths, ap (λ w. w * c.parts) suited.below, ap (λ w. w * c.parts) z, zero-mul c.parts))
    ] in
    let width = mul-le c.width 1 c.width c.parts (omega arith) suited.parts_some in
    let parts = mul-le 1 c.parts c.width c.parts some (omega arith) in
    record {
      some = (some, (suited.parts_some, (suited.share_some, wide)));
      few = (omega (arith, width, bytes, mul-one c.width), (omega (arith, parts, bytes, one-mul c.parts), omega (arith, bytes, mul_comm c.parts c.width)));
      shared = omega (arith, suited.widths, suited.bytes_few, mul_comm c.share v);
    }

-- Cuts that suit --------------------------------------------------------------------------------

by_width : (P : ℕ → Type 0) → P 1 → P 2 → P 4 → P 8 → (w : ℕ) → Wide w → P w
by_width P a b c d w wide =
    ⊎_elim (λ e. subst P (sym e) a) (⊎_elim (λ e. subst P (sym e) b) (⊎_elim (λ e. subst P (sym e) c) (λ e. subst P (sym e) d))) wide

-- one width goes into the other 2, 4 or 8 times, with no rest
abbrev Goes : ℕ → ℕ → Type 0
Goes v w = is_factor (v / w) ≡ true → (w * (v / w) ≡ v) × (2 ≤ v / w)

goes : (v w : ℕ) → Wide v → Wide w → Goes v w
goes v w wide =
    by_width (λ u. Goes v u)
    (by_width (λ u. Goes u 1) (λ t. absurd (false≢true t)) (λ t. (refl, omega arith)) (λ t. (refl, omega arith)) (λ t. (refl, omega arith)) v wide)
    (by_width (λ u. Goes u 2) (λ t. absurd (false≢true t)) (λ t. absurd (false≢true t)) (λ t. (refl, omega arith)) (λ t. (refl, omega arith)) v wide)
    (by_width (λ u. Goes u 4) (λ t. absurd (false≢true t)) (λ t. absurd (false≢true t)) (λ t. absurd (false≢true t)) (λ t. (refl, omega arith)) v wide)
    (by_width (λ u. Goes u 8) (λ t. absurd (false≢true t)) (λ t. absurd (false≢true t)) (λ t. absurd (false≢true t)) (λ t. absurd (false≢true t)) v wide)
    w

within : (low high n : ℕ) → in_range low high n ≡ true → (low ≤ n) × (n ≤ high)
within low high n t =
    let both = and_parts (leb low n) (leb n high) t in
    (leb-true low n both.0, leb-true n high both.1)

narrow_suited : (n : Numbers) (v p : ℕ) → Ranges n → Wide v → narrow_rule n v p ≡ None → Suited (narrow_cut n v) n v (narrow_cut n v).most p
narrow_suited n v p ranges wide rule =
    let k = narrow_parts n v in
    let b = n.burst_limit in
    let fits = and_parts (is_factor k) (in_range 1 16 p) (not-false (narrow_fits n v p) (unbroken (not (narrow_fits n v p)) 2 (first_sooner _ _ rule))) in
    let long = ltb-false b k (unbroken (ltb b k) 3 (first_later (broken (not (narrow_fits n v p)) 2) _ rule)) in
    let pending = within 1 16 p fits.1 in
    let exact = goes v n.width wide ranges.wide fits.0 in
    let some : 1 ≤ b / k = le-div 1 b k (omega arith) (omega arith) in
    let all : b / k * k ≤ b = div-mul-le_self b k in
    let fewer : b / k * 1 ≤ b / k * k = mul-le (b / k) 1 (b / k) k (omega arith) (omega arith) in
    record {
      wide = wide;
      below = refl;
      widths = mul-one v ∙ sym exact.0;
      kind = inl refl;
      parts_some = omega arith;
      share_some = omega arith;
      most_some = some;
      bytes_few = omega (arith, few_wide v wide);
      burst_fits = all;
      beats_some = some;
      beats_few = omega (arith, ranges.beats_few);
      pending_some = pending.0;
      pending_few = pending.1;
    }

wide_suited : (n : Numbers) (v b p : ℕ) → Ranges n → Wide v → wide_rule n v b p ≡ None → Suited (wide_cut n v) n v b p
wide_suited n v b p ranges wide rule =
    let f = wide_share n v in
    let fits = and_parts (is_factor f) (in_range 1 64 b && in_range 1 16 p) (not-false (wide_fits n v b p) (unbroken (not (wide_fits n v b p)) 2 rule)) in
    let limits = and_parts (in_range 1 64 b) (in_range 1 16 p) fits.1 in
    let beats = within 1 64 b limits.0 in
    let pending = within 1 16 p limits.1 in
    let exact = goes n.width v ranges.wide wide fits.0 in
    record {
      wide = wide;
      below = refl;
      widths = exact.0 ∙ sym (mul-one n.width);
      kind = inr (refl, refl);
      parts_some = omega arith;
      share_some = omega arith;
      most_some = omega arith;
      bytes_few = omega (arith, few_wide n.width ranges.wide);
      burst_fits = ranges.beats_some;
      beats_some = beats.0;
      beats_few = beats.1;
      pending_some = pending.0;
      pending_few = pending.1;
    }

-- the same where the port below tells its status, and a width its bytes
pub narrow_suits : (n : Numbers) (σ : State) (r : PortRecord) (v u p : ℕ) (c : Cut) → Ranges n → Wide v → r ≡ tally n σ → u ≡ v → narrow_rule r.numbers u p ≡ None → c ≡ narrow_cut r.numbers u → Suited c n v c.most p
narrow_suits n σ r v u p c ranges wide er eu rule cut =
    let en = ap (λ (q : PortRecord). q.numbers) er in
    let here : narrow_rule n v p ≡ None = subst (λ j. narrow_rule n j p ≡ None) eu (subst (λ m. narrow_rule m u p ≡ None) en rule) in
    let same : c ≡ narrow_cut n v = cut ∙ (ap (λ m. narrow_cut m u) en ∙ ap (narrow_cut n) eu) in
    subst (λ d. Suited d n v d.most p) (sym same) (narrow_suited n v p ranges wide here)

pub wide_suits : (n : Numbers) (σ : State) (r : PortRecord) (v u b p : ℕ) (c : Cut) → Ranges n → Wide v → r ≡ tally n σ → u ≡ v → wide_rule r.numbers u b p ≡ None → c ≡ wide_cut r.numbers u → Suited c n v b p
wide_suits n σ r v u b p c ranges wide er eu rule cut =
    let en = ap (λ (q : PortRecord). q.numbers) er in
    let here : wide_rule n v b p ≡ None = subst (λ j. wide_rule n j b p ≡ None) eu (subst (λ m. wide_rule m u b p ≡ None) en rule) in
    let same : c ≡ wide_cut n v = cut ∙ (ap (λ m. wide_cut m u) en ∙ ap (wide_cut n) eu) in
    subst (λ d. Suited d n v b p) (sym same) (wide_suited n v b p ranges wide here)
