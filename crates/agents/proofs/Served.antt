-- A clocked call of a scripted memory, from its steps: what it keeps, how its state moves, and its timing.
use Rattle.std.proofs.Common.{◌≡◌, ℕ, ◌+◌, ◌*◌, ◌<◌, ◌≤◌, ◌||◌, ltb, length, get_or, Some, None, Option, sym, refl, ap, ◌∙◌, subst, mul-le-mul_right, add-mul, arith}
use Rattle.std.proofs.lemmas.List.{length-map}
use Rattle.std.proofs.lemmas.Bool.{cond_both, leb-false, or_parts}
use Rattle.agents.proofs.Greatest.{now_below}
use Rattle.agents.proofs.Patience.{Eased, due_first, eased, in_kind, patient_call, within_call, words_fit}
use Rattle.agents.specs.Memory.{Acted, Gave, Ready, Sound, Timed, fixed_of, lefts, state_of}
use Rattle.agents.specs.Queue.{items}
use Rattle.agents.specs.Scripts.{InPlace, greatest_of, listed, place_of, value_now}
use Rattle.agents.specs.Timing.{Patient, bursts_full, gap_place_after, reply_to, wait_place_after, word_back}
use Rattle.agents.specs.declared.memory.Parts.{Parts}
use Rattle.port.proofs.Kept.{legal_given, moves_legal, read_fits}
use Rattle.port.proofs.Rules.{first_later, first_sooner, opening_fits}
use Rattle.port.proofs.Steps.{acted_memory, acted_owed, acted_reads, burst_given, memory_given, same_state}
use Rattle.port.proofs.Tally.{words_below}
use Rattle.port.specs.Legal.{Legal, OpenWithin, tally}
use Rattle.port.specs.Machine.{Clocks, Answers, First, acted, beat_offset, command_rule, given, hold_rule, lanes_rule, moved, opening_rule, refusal_in}
use Rattle.port.specs.State.{State, Within}
use Rattle.port.specs.declared.addresses.WordOffset.{WordOffset}
use Rattle.port.specs.Answers.{Clocked}
use Rattle.port.specs.declared.calls.Command.{Command}
use Rattle.port.specs.declared.calls.Command.TheVariants.{Idle, Read, Write}
use Rattle.port.specs.declared.calls.OpenBurst.{OpenBurst}
use Rattle.port.specs.declared.calls.Reply.{Reply}
use Rattle.port.specs.declared.calls.Reply.TheVariants as reply
use Rattle.port.specs.declared.numbers.Numbers.{Numbers}
use Rattle.port.specs.declared.record.PortRecord.{PortRecord}

-- What a sound memory gives -------------------------------------------------------------

short : (m : Parts) → Sound m → value_now m.gaps ≤ (fixed_of m).silence_bound
short m sound = omega (arith, now_below m.gaps m.gaps_in, sound.prompt)

bounded : (m : Parts) → Sound m → value_now m.waits + (fixed_of m).burst_limit * ((fixed_of m).silence_bound + 1) ≤ (fixed_of m).wait_bound
bounded m sound = omega (arith, now_below m.waits m.waits_in, sound.patient)

easy : (m : Parts) (x : Option ℕ) → Sound m → x ≡ word_back (state_of m) (value_now m.gaps) → Eased (fixed_of m) (state_of m) (given x (state_of m))
easy m x sound e =
    subst (λ y. Eased (fixed_of m) (state_of m) (given y (state_of m))) (sym e) (eased (fixed_of m) (state_of m) (value_now m.gaps) sound.legal (short m sound))

first : (m : Parts) (x : Option ℕ) → x ≡ word_back (state_of m) (value_now m.gaps) → First x (state_of m).owed
first m x e = subst (λ y. First y (state_of m).owed) (sym e) (due_first (state_of m) (value_now m.gaps))

clocked : (m : Parts) (c : Command) (a : Reply) (x : Option ℕ) → Sound m → refusal_in (fixed_of m) (state_of m) c ≡ None →
    a ≡ reply_to (fixed_of m) (state_of m) (value_now m.waits) c → x ≡ word_back (state_of m) (value_now m.gaps) →
    Clocks (fixed_of m) (state_of m) c a x (moved (fixed_of m).width (state_of m) c a x)
clocked m c a x sound free replies returns =
    let n = fixed_of m in
    let σ = state_of m in
    let v = value_now m.waits in
    record {
      legal = free;
      answers = subst (Answers c) (sym replies) (in_kind n σ v c);
      first = first m x returns;
      moves = refl;
      within = subst (λ b. Within n (acted n.width c b (given x σ))) (sym replies)
          (within_call n σ (given x σ) v c sound.legal (easy m x sound returns) sound.waiting (bounded m sound));
    }

-- Room for what is taken -----------------------------------------------------------------

-- the beat of a write that is not refused goes to one of the words
beat_below : (n : Numbers) (b : Option OpenBurst) (o : WordOffset) (k m d : ℕ) → OpenWithin n b → command_rule n b (Write o k m d) ≡ None → beat_offset b o.0 + 1 ≤ n.words
beat_below n None o k m d within free =
    let fits = opening_fits n o.0 k (first_sooner (opening_rule n o.0 k) (lanes_rule n m d) free) in
    omega (arith, fits.0, fits.2)
beat_below n (Some b) o k m d within free = omega (arith, within.0, within.2)

-- what holds of the memory after the word came back, in the words of the machine
memory_after_word : (m0 m1 : Parts) (x : Option ℕ) → Gave m0 x m1 → (state_of m1).memory ≡ (given x (state_of m0)).memory
memory_after_word m0 m1 x gave = gave.memory ∙ sym (memory_given x (state_of m0))

burst_after_word : (m0 m1 : Parts) (x : Option ℕ) → Gave m0 x m1 → (state_of m1).burst ≡ (given x (state_of m0)).burst
burst_after_word m0 m1 x gave = ap (λ p. p.burst) gave.alike.plain ∙ sym (burst_given x (state_of m0))

read_ready : (m0 m1 : Parts) (o : WordOffset) (k : ℕ) (x : Option ℕ) → Sound m0 → refusal_in (fixed_of m0) (state_of m0) (Read o k) ≡ None → Gave m0 x m1 →
    length (state_of m0).reads < (fixed_of m0).pending_limit → Ready (fixed_of m0).width m1 (Read o k) reply.Take
read_ready m0 m1 o k x sound free gave few =
    let n = fixed_of m0 in
    let σ = state_of m0 in
    let ease = easy m0 x sound gave.word in
    let legal = legal_given n σ x sound.legal (first m0 x gave.word) ease.silent in
    let fits = read_fits n σ.burst o k (first_later (hold_rule σ.burst σ.held (Read o k)) (command_rule n σ.burst (Read o k)) free) in
    let room-left = words_fit n (given x σ) k legal (omega (arith, ease.fewer)) fits.1 in
    let up : (o.0 + k) * n.width ≤ n.words * n.width = mul-le-mul_right n.width fits.2 in
    let size = ap length gave.memory ∙ sound.legal.size in
    let bursts = sym (length-map (items m1.bursts) (λ b. b.left)) ∙ ap length gave.reads in (
      omega (arith, ap length gave.owed, room-left, sound.words_room, gave.alike.words_room),
      omega (arith, bursts, ease.fewer, sound.bursts_room, gave.alike.bursts_room),
      omega (arith, fits.2, words_below n sound.legal.ranges),
      omega (arith, up, size),
    )

write_ready : (m0 m1 : Parts) (o : WordOffset) (k m d : ℕ) (x : Option ℕ) → Sound m0 → refusal_in (fixed_of m0) (state_of m0) (Write o k m d) ≡ None → Gave m0 x m1 →
    Ready (fixed_of m0).width m1 (Write o k m d) reply.Take
write_ready m0 m1 o k m d x sound free gave =
    let n = fixed_of m0 in
    let σ = state_of m0 in
    let b = σ.burst in
    let low = beat_below n b o k m d sound.legal.opened (first_later (hold_rule b σ.held (Write o k m d)) (command_rule n b (Write o k m d)) free) in
    let same = ap (λ p. beat_offset p.burst o.0 * n.width) gave.alike.plain in
    let up : (beat_offset b o.0 + 1) * n.width ≤ n.words * n.width = mul-le-mul_right n.width low in
    let split = add-mul (beat_offset b o.0) 1 n.width in
    let size = ap length gave.memory ∙ sound.legal.size in
    omega (arith, same, up, split, size)

ready_by : (m0 m1 : Parts) (c : Command) (x : Option ℕ) → Sound m0 → refusal_in (fixed_of m0) (state_of m0) c ≡ None → Gave m0 x m1 →
    Ready (fixed_of m0).width m1 c (reply_to (fixed_of m0) (state_of m0) (value_now m0.waits) c)
ready_by m0 m1 Idle x sound free gave = tt
ready_by m0 m1 (Read o k) x sound free gave =
    let n = fixed_of m0 in
    let early = ltb (state_of m0).waits (value_now m0.waits) in
    cond_both (early || bursts_full n (state_of m0)) reply.Wait reply.Take (Ready n.width m1 (Read o k))
    (λ e. tt)
    (λ e. read_ready m0 m1 o k x sound free gave (leb-false n.pending_limit (length (state_of m0).reads) (or_parts early (bursts_full n (state_of m0)) e).1))
ready_by m0 m1 (Write o k m d) x sound free gave =
    cond_both (ltb (state_of m0).waits (value_now m0.waits)) reply.Wait reply.Take (Ready (fixed_of m0).width m1 (Write o k m d))
    (λ e. tt)
    (λ e. write_ready m0 m1 o k m d x sound free gave)

pub ready : (w : ℕ) (m0 m1 : Parts) (c : Command) (a : Reply) (x : Option ℕ) → Sound m0 → (fixed_of m0).width ≡ w → refusal_in (fixed_of m0) (state_of m0) c ≡ None →
    a ≡ reply_to (fixed_of m0) (state_of m0) (value_now m0.waits) c → Gave m0 x m1 → Ready w m1 c a
ready w m0 m1 c a x sound wide free replies gave =
    subst (λ k. Ready k m1 c a) wide (subst (Ready (fixed_of m0).width m1 c) (sym replies) (ready_by m0 m1 c x sound free gave))

-- The whole call ---------------------------------------------------------------------------

-- a memory with another plain record
abbrev pub with_plain : (m : Parts) → PortRecord → InPlace m.waits → InPlace m.gaps → Parts
with_plain m p waits_in gaps_in = record m { plain = p; waits_in = waits_in; gaps_in = gaps_in }

-- the state that the call leads to
abbrev pub after_of : Parts → Command → Reply → Option ℕ → State
after_of m c a x = moved (fixed_of m).width (state_of m) c a x

-- the steps of a call
pub record Steps (w : ℕ) (m0 m1 m2 : Parts) (p : PortRecord) (c : Command) (a : Reply) (x : Option ℕ) : Type 0 where
  pub sound : Sound m0
  pub wide : (fixed_of m0).width ≡ w
  pub free : refusal_in (fixed_of m0) (state_of m0) c ≡ None
  pub replies : a ≡ reply_to (fixed_of m0) (state_of m0) (value_now m0.waits) c
  pub gave : Gave m0 x m1
  pub acts : Acted w m1 c a m2
  pub told : m2.plain ≡ tally (fixed_of m0) (state_of m0) → p ≡ tally (fixed_of m0) (after_of m0 c a x)

state_after : (w : ℕ) (m0 m1 m2 : Parts) (p : PortRecord) (c : Command) (a : Reply) (x : Option ℕ) (waits_in : InPlace m2.waits) (gaps_in : InPlace m2.gaps) → Steps w m0 m1 m2 p c a x →
    state_of (with_plain m2 (tally (fixed_of m0) (after_of m0 c a x)) waits_in gaps_in) ≡ after_of m0 c a x
state_after w m0 m1 m2 p c a x waits_in gaps_in s =
    let ρ = given x (state_of m0) in
    let wider = s.wide in
    let memory : m2.bytes.all.now ≡ (after_of m0 c a x).memory =
    s.acts.memory ∙ (acted_memory w c a (state_of m1) ρ (memory_after_word m0 m1 x s.gave) (burst_after_word m0 m1 x s.gave) ∙ ap (λ k. (acted k c a ρ).memory) (sym wider)) in
    let owed : items m2.words ≡ (after_of m0 c a x).owed =
    s.acts.owed ∙ (acted_owed w c a (state_of m1) ρ (memory_after_word m0 m1 x s.gave) s.gave.owed ∙ ap (λ k. (acted k c a ρ).owed) (sym wider)) in
    let reads : lefts m2.bursts ≡ (after_of m0 c a x).reads =
    s.acts.reads ∙ (acted_reads w c a (state_of m1) ρ s.gave.reads ∙ ap (λ k. (acted k c a ρ).reads) (sym wider)) in
    same_state (after_of m0 c a x) m2.bytes.all.now (items m2.words) (lefts m2.bursts) memory owed reads

-- what a call leaves
pub record Leaves (m0 m3 : Parts) (c : Command) (a : Reply) (x : Option ℕ) : Type 0 where
  pub sound : Sound m3
  pub fixed : fixed_of m3 ≡ fixed_of m0
  pub moves : Clocks (fixed_of m0) (state_of m0) c a x (state_of m3)
  pub timing : Timed m0 c (Clocked a x) m3

leaves_tally : (w : ℕ) (m0 m1 m2 : Parts) (p : PortRecord) (c : Command) (a : Reply) (x : Option ℕ) (waits_in : InPlace m2.waits) (gaps_in : InPlace m2.gaps) → Steps w m0 m1 m2 p c a x →
    Leaves m0 (with_plain m2 (tally (fixed_of m0) (after_of m0 c a x)) waits_in gaps_in) c a x
leaves_tally w m0 m1 m2 p c a x waits_in gaps_in s =
    let n = fixed_of m0 in
    let σ = state_of m0 in
    let τ = after_of m0 c a x in
    let sound = s.sound in
    let gave = s.gave in
    let acts = s.acts in
    let e = state_after w m0 m1 m2 p c a x waits_in gaps_in s in
    let clocks = clocked m0 c a x sound s.free s.replies gave.word in
    let legal = moves_legal n σ c a x τ sound.legal clocks in
    let size = length (listed m0.waits) in
    let place = place_of m0.waits in
    let later : Reply → ℕ = λ b. get_or (listed m0.waits) (wait_place_after b size place) 0 in
    let waits-listed : listed m2.waits ≡ listed m0.waits = acts.alike.waits ∙ gave.alike.waits in
    let gaps-listed : listed m2.gaps ≡ listed m0.gaps = acts.alike.gaps ∙ gave.alike.gaps in
    let waits_at : place_of m2.waits ≡ wait_place_after a size place =
    acts.waits_at ∙ (ap (λ xs. wait_place_after a (length xs) (place_of m1.waits)) gave.alike.waits ∙ ap (λ p. wait_place_after a size p) gave.waits_at) in
    let gaps_at : place_of m2.gaps ≡ gap_place_after x (length (listed m0.gaps)) (place_of m0.gaps) = acts.gaps_at ∙ gave.gaps_at in
    let value : value_now m2.waits ≡ later a = ap (λ xs. get_or xs (place_of m2.waits) 0) waits-listed ∙ ap (λ p. get_or (listed m0.waits) p 0) waits_at in
    let calm : Patient n τ (later a) =
    subst (λ b. Legal n (acted n.width c b (given x σ)) → Patient n (acted n.width c b (given x σ)) (later b)) (sym s.replies)
    (patient_call n σ (given x σ) (value_now m0.waits) c later sound.legal (easy m0 x sound gave.word) sound.waiting refl refl) legal in
    record {
      sound = record {
        words_room = omega (arith, sound.words_room, gave.alike.words_room, acts.alike.words_room);
        bursts_room = omega (arith, sound.bursts_room, gave.alike.bursts_room, acts.alike.bursts_room);
        tallied = ap (tally n) (sym e);
        legal = subst (Legal n) (sym e) legal;
        prompt = sound.prompt ∙ ap greatest_of (sym gaps-listed);
        patient = sound.patient ∙ ap (λ xs. greatest_of xs + n.burst_limit * (n.silence_bound + 1)) (sym waits-listed);
        waiting = subst (λ v. Patient n (state_of (with_plain m2 (tally n τ) waits_in gaps_in)) v) (sym value) (subst (λ t. Patient n t (later a)) (sym e) calm);
      };
      fixed = refl;
      moves = subst (Clocks n σ c a x) (sym e) clocks;
      timing = (s.replies, gave.word, waits-listed, gaps-listed, waits_at, gaps_at);
    }

pub leaves : (w : ℕ) (m0 m1 m2 : Parts) (p : PortRecord) (c : Command) (a : Reply) (x : Option ℕ) (waits_in : InPlace m2.waits) (gaps_in : InPlace m2.gaps) → Steps w m0 m1 m2 p c a x →
    Leaves m0 (with_plain m2 p waits_in gaps_in) c a x
leaves w m0 m1 m2 p c a x waits_in gaps_in s =
    let e = s.told (s.acts.alike.plain ∙ (s.gave.alike.plain ∙ s.sound.tallied)) in
    subst (λ q. Leaves m0 (with_plain m2 q waits_in gaps_in) c a x) (sym e) (leaves_tally w m0 m1 m2 p c a x waits_in gaps_in s)
