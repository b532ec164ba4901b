-- One call below, and one call above: what an adapter keeps, it keeps, and its state moves as the port machine does.
use Rattle.std.proofs.Common.{◌≡◌, ℕ, ◌+◌, ◌*◌, ◌^◌, ◌<◌, ◌≤◌, List, ◌++◌, length, get_or, Some, None, Option, sym, refl, ap, ◌∙◌, subst, mul_comm, zero-mul, arith}
use Rattle.port.specs.Lanes.{byte_in}
use Rattle.port.specs.Legal.{Legal, tally}
use Rattle.port.specs.Machine.{Answers, Clocks, First, acted, command_rule, given, hold_rule, moved, refusal_in}
use Rattle.port.specs.Runs.{takes}
use Rattle.port.specs.State.{State, Within}
use Rattle.port.specs.Waiting.{calls_due}
use Rattle.port.specs.declared.calls.Command.{Command}
use Rattle.port.specs.declared.calls.Reply.{Reply}
use Rattle.port.specs.declared.numbers.Numbers.{Numbers}
use Rattle.port.specs.declared.record.PortRecord.{PortRecord}
use Rattle.port.proofs.Kept.{moves_legal, silence_acted}
use Rattle.port.proofs.Rules.{first_later}
use Rattle.port.proofs.Steps.{burst_given, memory_given, same_state}
use Rattle.port.proofs.Tally.{one_came_below}
use Rattle.adapters.specs.Above.{memory_with, owed_above, state_above}
use Rattle.adapters.specs.Cuts.{next_part}
use Rattle.adapters.specs.Engine.{burst_of, bursts_less, slot_filled, slot_sent}
use Rattle.adapters.specs.Kept.{HoldsPart, Keeps, LinedUp, offsets_in_slot, slot_due}
use Rattle.adapters.specs.Owed.{collected_after, lefts, next_owed, offsets_in, word_up}
use Rattle.adapters.specs.declared.cut.Cut.{Cut}
use Rattle.adapters.specs.Slots.{Slot}
use Rattle.adapters.specs.declared.owed.Collected.{Collected}
use Rattle.adapters.specs.declared.owed.OwedBurst.{OwedBurst}
use Rattle.adapters.proofs.Bounds.{Hushed, hushed_on, queue_falls, silence_next, silence_within, slot_falls, slot_stays, waits_of}
use Rattle.adapters.proofs.Coming.{after_first, after_given, less_reads, less_within, word_few, word_first, word_fits, word_grouped, word_queued, word_rest}
use Rattle.adapters.proofs.Lined.{lined_sent}
use Rattle.adapters.proofs.Parts.{asked_now, grouped_sent, memory_sent, owed_sent, queued_sent}
use Rattle.adapters.proofs.Replies.{Falls, Into, Why, fill_holding, fill_lined, fill_memory, fill_owed, fill_patient, fill_queued, fill_reads, fill_within, held_sent, into, mask_fits, pending_within, waits_within, write_fits}

-- the facts of a call
pub record Step (n : Numbers) (σ : State) (c : Cut) (s : Slot) (bs : List OwedBurst) (g : Collected) (p : PortRecord) (command : Command) (taken : Reply) (x : Option ℕ) (a : Reply) (y : Option ℕ) : Type 0 where
  pub legal : Legal n σ
  pub keeps : Keeps n σ c s bs g p
  pub free : refusal_in p.numbers (state_above c s bs g p σ) command ≡ None
  pub answers : Answers (next_part c s) taken
  pub first : First x σ.owed
  pub within : Within n (acted c.width (next_part c s) taken (given x σ))
  pub why : Why s (length (lefts bs)) p.numbers.pending_limit command a
  pub in_kind : Answers command a
  pub word : y ≡ word_up c p.numbers.width (next_owed bs) g x

-- the port below after the call
abbrev below_after : State → Cut → Slot → Reply → Option ℕ → State
below_after σ c s taken x = acted c.width (next_part c s) taken (given x σ)

held_given : (c : Cut) (s : Slot) (x : Option ℕ) (σ : State) → HoldsPart c s σ.held → HoldsPart c s (given x σ).held
held_given c s None σ holds = holds
held_given c s (Some x) σ holds = holds

none_value : (c : Cut) (g : Collected) → g.value < 2 ^ (8 * (c.width * g.count)) → g.count ≡ 0 → g.value ≡ 0
none_value c g fits none =
    let e : 8 * (c.width * g.count) ≡ 0 = ap (λ i. 8 * (c.width * i)) none ∙ omega (arith, mul_comm c.width 0, zero-mul c.width) in
    let q : 2 ^ (8 * (c.width * g.count)) ≡ 1 = ap (λ i. 2 ^ i) e in
    omega arith

abbrev get_or_below : List ℕ → ℕ → ℕ → Type 0
get_or_below xs i w = get_or xs i 0 < 2 ^ (8 * w)

silence_given : (y : Option ℕ) (σ : State) → (given y σ).silence ≡ silence_next y σ.owed σ.silence
silence_given None σ = refl
silence_given (Some x) σ = refl

module _ (n : Numbers) (σ : State) (c : Cut) (s : Slot) (bs : List OwedBurst) (g : Collected) (p : PortRecord) (command : Command) (taken : Reply) (x : Option ℕ) (a : Reply) (y : Option ℕ) (step : Step n σ c s bs g p command taken x a y) where
  -- what is kept after the word from below
  step_rule : command_rule p.numbers p.burst command ≡ None
  step_rule = first_later (hold_rule p.burst p.held command) (command_rule p.numbers p.burst command) step.free

  lined_word : LinedUp c n p.numbers s (given x σ).burst p.burst
  lined_word = subst (λ b. LinedUp c n p.numbers s b p.burst) (sym (burst_given x σ)) step.keeps.lined

  few_word : (collected_after c g x).count < c.parts
  few_word = word_few c g x step.keeps.fitted.parts_some step.keeps.parts_few

  fits_word : (collected_after c g x).value < 2 ^ (8 * (c.width * (collected_after c g x).count))
  fits_word = word_fits c g σ x step.first (λ i. subst (λ w. get_or_below σ.owed i w) (sym step.keeps.fitted.below) (step.legal.values i)) step.keeps.value_fits

  queued_word : offsets_in (bursts_less y bs) ≡ after_first y step.keeps.requested ++ offsets_in_slot s
  queued_word = word_queued c p.numbers.width (next_owed bs) p.numbers.words g σ bs step.keeps.requested (offsets_in_slot s) x y step.keeps.bursts_within step.first step.word step.keeps.grouped step.keeps.queued

  grouped_word : length (after_first y step.keeps.requested) * c.parts ≡ (collected_after c g x).count + length (given x σ).owed
  grouped_word = word_grouped c p.numbers.width (next_owed bs) g σ step.keeps.requested x y step.first step.word step.keeps.parts_few step.keeps.grouped

  small_word : (i : ℕ) → byte_in (given x σ).memory i < 256
  small_word i = subst (λ m. byte_in m i < 256) (sym (memory_given x σ)) (step.legal.bytes i)

  -- what is kept after the part
  memory_part : memory_with c (slot_sent c taken s) (below_after σ c s taken x).memory ≡ (given y (state_above c s bs g p σ)).memory
  memory_part =
      memory_sent c n p.numbers s taken (given x σ) p.burst lined_word
      ∙ (ap (memory_with c s) (memory_given x σ) ∙ sym (memory_given y (state_above c s bs g p σ)))

  owed_part : owed_above c p.numbers.width (slot_sent c taken s) (bursts_less y bs) (collected_after c g x) (below_after σ c s taken x) ≡ (given y (state_above c s bs g p σ)).owed
  owed_part =
      owed_sent c n p.numbers s taken (bursts_less y bs) (collected_after c g x) (given x σ) (after_first y step.keeps.requested) p.burst step.keeps.fitted lined_word small_word few_word
      (none_value c (collected_after c g x) fits_word) queued_word grouped_word
      ∙ (sym (word_rest c p.numbers.width p.numbers.words s bs g σ (given x σ) x y step.keeps.bursts_within step.first step.word refl (memory_given x σ))
      ∙ after_given y (state_above c s bs g p σ))

  reads_part : lefts (bursts_less y bs) ≡ (given y (state_above c s bs g p σ)).reads
  reads_part = less_reads y bs (state_above c s bs g p σ) refl

  queued_part : offsets_in (bursts_less y bs) ≡ (after_first y step.keeps.requested ++ asked_now c s taken) ++ offsets_in_slot (slot_sent c taken s)
  queued_part = queued_sent c s taken (bursts_less y bs) (after_first y step.keeps.requested) queued_word

  grouped_part : length (after_first y step.keeps.requested ++ asked_now c s taken) * c.parts ≡ (collected_after c g x).count + length (below_after σ c s taken x).owed
  grouped_part = grouped_sent c s taken (collected_after c g x) (given x σ) (after_first y step.keeps.requested) grouped_word

  lined_part : LinedUp c n p.numbers (slot_sent c taken s) (below_after σ c s taken x).burst p.burst
  lined_part = lined_sent c n p.numbers s taken (given x σ) p.burst step.keeps.fitted lined_word

  into_part : Into a (slot_sent c taken s)
  into_part = into c s taken a (length (lefts bs)) p.numbers.pending_limit command step.why

  -- the state above after the call
  memory_after : memory_with c (slot_filled c p.numbers.width p.burst command a (slot_sent c taken s)) (below_after σ c s taken x).memory ≡ (moved p.numbers.width (state_above c s bs g p σ) command a y).memory
  memory_after =
      fill_memory c n p.numbers p.burst command a (slot_sent c taken s) (given y (state_above c s bs g p σ)) (below_after σ c s taken x).memory step.keeps.fitted
      (mask_fits p.numbers.width command (write_fits p.numbers p.burst command step_rule)) into_part memory_part (burst_given y (state_above c s bs g p σ))

  owed_after : owed_above c p.numbers.width (slot_filled c p.numbers.width p.burst command a (slot_sent c taken s)) (bursts_less y bs ++ burst_of command (takes a)) (collected_after c g x) (below_after σ c s taken x)
      ≡ (moved p.numbers.width (state_above c s bs g p σ) command a y).owed
  owed_after =
      fill_owed c p.numbers.width p.burst command a (slot_sent c taken s) (bursts_less y bs) (collected_after c g x) (after_first y step.keeps.requested ++ asked_now c s taken) (given y (state_above c s bs g p σ)) (below_after σ c s taken x)
      few_word (none_value c (collected_after c g x) fits_word) into_part queued_part grouped_part memory_part owed_part

  reads_after : lefts (bursts_less y bs ++ burst_of command (takes a)) ≡ (moved p.numbers.width (state_above c s bs g p σ) command a y).reads
  reads_after = fill_reads p.numbers.width command a (bursts_less y bs) (given y (state_above c s bs g p σ)) reads_part

  pub state_after :
      state_above c (slot_filled c p.numbers.width p.burst command a (slot_sent c taken s)) (bursts_less y bs ++ burst_of command (takes a)) (collected_after c g x) (tally p.numbers (moved p.numbers.width (state_above c s bs g p σ) command a y)) (below_after σ c s taken x)
      ≡ moved p.numbers.width (state_above c s bs g p σ) command a y
  state_after = same_state (moved p.numbers.width (state_above c s bs g p σ) command a y) _ _ _ memory_after owed_after reads_after

  -- silence
  hushed_after : Hushed c n p.numbers (moved p.numbers.width (state_above c s bs g p σ) command a y).silence (collected_after c g x) (below_after σ c s taken x)
  hushed_after =
      let σ' = state_above c s bs g p σ in
      let v = p.numbers.width in
      let on = hushed_on c n p.numbers v (next_owed bs) p.silence s taken bs g σ x (length step.keeps.requested) (length (after_first y step.keeps.requested ++ asked_now c s taken)) p.burst
      step.keeps.fitted step.keeps.lined step.answers step.first step.keeps.parts_few step.legal.within.waiting step.legal.within.silent (step.keeps.heard, step.keeps.awaited) step.keeps.grouped grouped_part in
      let is : silence_next (word_up c v (next_owed bs) g x) σ'.owed p.silence ≡ (moved v σ' command a y).silence =
      ap (λ o. silence_next o σ'.owed p.silence) (sym step.word) ∙ (sym (silence_given y σ') ∙ sym (silence_acted v command a (given y σ'))) in
      subst (λ t. Hushed c n p.numbers t (collected_after c g x) (below_after σ c s taken x)) is on

  -- waits
  falls_after : Falls n p.numbers s (slot_sent c taken s) σ (below_after σ c s taken x) (given y (state_above c s bs g p σ)) (length (lefts bs)) (calls_due p.numbers.pending_limit p.numbers.silence_bound p.silence (lefts bs))
  falls_after =
      let most = step.keeps.fitted.most_some in
      let queue = queue_falls p.numbers (state_above c s bs g p σ) y step.keeps.legal in
      record {
        slot = slot_stays c n p.numbers s taken σ (given x σ) p.burst most step.keeps.lined step.answers step.legal.within.waiting (waits_of x σ);
        slot_more = slot_falls c n p.numbers s taken σ (given x σ) p.burst most step.keeps.lined step.answers step.legal.within.waiting (waits_of x σ);
        queue = queue.0;
        queue_more = queue.1;
        patient = omega (arith, step.keeps.patient, waits_of y (state_above c s bs g p σ));
      }

  within_after : Within p.numbers (moved p.numbers.width (state_above c s bs g p σ) command a y)
  within_after =
      let σ' = state_above c s bs g p σ in
      let fewer : length (given y σ').reads ≤ length (lefts bs) = elim y as (λ o. length (given o σ').reads ≤ length (lefts bs)) [ None ↦ omega arith | Some z ↦ one_came_below (lefts bs) ] in
      record {
        pending = pending_within p.numbers.width s (length (lefts bs)) p.numbers.pending_limit command a (given y σ') step.why fewer step.keeps.legal.within.pending;
        waiting = waits_within p.numbers.width n p.numbers s (slot_sent c taken s) σ (below_after σ c s taken x) (given y σ') (length (lefts bs)) (calls_due p.numbers.pending_limit p.numbers.silence_bound p.silence (lefts bs)) command a falls_after step.why;
        silent = silence_within c n p.numbers (moved p.numbers.width σ' command a y).silence (collected_after c g x) (below_after σ c s taken x) step.keeps.fitted few_word step.within.waiting step.within.silent hushed_after;
      }

  -- The call above --------------------------------------------------------------------------------

  clocks_move : Clocks p.numbers (state_above c s bs g p σ) command a y (moved p.numbers.width (state_above c s bs g p σ) command a y)
  clocks_move = record {
    legal = step.free;
    answers = step.in_kind;
    first = word_first c p.numbers.width p.numbers.words s bs g σ x y step.keeps.bursts_within step.first step.word;
    moves = refl;
    within = within_after;
  }

  legal_after : Legal p.numbers (moved p.numbers.width (state_above c s bs g p σ) command a y)
  legal_after = moves_legal p.numbers (state_above c s bs g p σ) command a y (moved p.numbers.width (state_above c s bs g p σ) command a y) step.keeps.legal clocks_move

  pub clocks_after : Clocks p.numbers (state_above c s bs g p σ) command a y
      (state_above c (slot_filled c p.numbers.width p.burst command a (slot_sent c taken s)) (bursts_less y bs ++ burst_of command (takes a)) (collected_after c g x) (tally p.numbers (moved p.numbers.width (state_above c s bs g p σ) command a y)) (below_after σ c s taken x))
  clocks_after = subst (Clocks p.numbers (state_above c s bs g p σ) command a y) (sym state_after) clocks_move

  pub keeps_after : Keeps n (below_after σ c s taken x) c (slot_filled c p.numbers.width p.burst command a (slot_sent c taken s)) (bursts_less y bs ++ burst_of command (takes a)) (collected_after c g x)
      (tally p.numbers (moved p.numbers.width (state_above c s bs g p σ) command a y))
  keeps_after =
      let σ' = state_above c s bs g p σ in
      let n' = p.numbers in
      let v = n'.width in
      let s1 = slot_sent c taken s in
      let T = below_after σ c s taken x in
      let hs = after_first y step.keeps.requested ++ asked_now c s taken in
      let τ' = moved v σ' command a y in
      record {
        fitted = step.keeps.fitted;
        legal = subst (Legal n') (sym state_after) legal_after;
        tallied = ap (tally n') (sym state_after);
        holding = fill_holding c v p.burst command a s1 T.held into_part (held_sent c s taken (given x σ) step.answers (held_given c s x σ step.keeps.holding));
        lined = fill_lined c n n' command a s1 T.burst p.burst v (given y σ') step.keeps.fitted lined_part into_part step.keeps.legal.opened step_rule (burst_given y σ');
        requested = hs;
        queued = fill_queued c v p.burst command a s1 (bursts_less y bs) hs into_part queued_part;
        grouped = grouped_part;
        bursts_within = fill_within n' p.burst command a (bursts_less y bs) step_rule (less_within n'.words y bs step.keeps.bursts_within);
        parts_few = few_word;
        value_fits = fits_word;
        heard = hushed_after.0;
        awaited = hushed_after.1;
        patient =
            subst (λ rs. τ'.waits + slot_due n T (slot_filled c v p.burst command a s1) + calls_due n'.pending_limit n'.silence_bound τ'.silence rs ≤ n'.wait_bound) (sym reads_after)
            (fill_patient c v n n' p.burst s s1 σ T (given y σ') (length (lefts bs)) (calls_due n'.pending_limit n'.silence_bound p.silence (lefts bs)) command a step.keeps.fitted step.keeps.legal.ranges.beats_some falls_after step.why step_rule legal_after.reading);
      }
