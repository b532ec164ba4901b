-- A clocked call leaves a legal state legal.
use Rattle.std.proofs.Common.{◌≡◌, ℕ, zero, suc, ◌+◌, ◌*◌, ◌^◌, ◌<◌, ◌≤◌, ltb, List, [], ◌∷◌, ◌++◌, length, get_or, drop, Some, None, Option, sym, refl, ◌∙◌, subst, arith}
use Rattle.std.proofs.lemmas.List.{get_or-drop, length-append, length-drop}
use Rattle.std.proofs.lemmas.Bool.{cond_both, ltb-false, ltb-true}
use Rattle.port.specs.Lanes.{byte_in}
use Rattle.port.specs.Legal.{HeldLegal, Legal, OpenWithin, ReadsWithin, total}
use Rattle.port.specs.Machine.{Answers, Clocks, First, acted, beat_offset, burst_after, command_rule, given, hold_rule, lanes_rule, moved, one_came, opening_rule, read_words, rest_of_burst, silence_after}
use Rattle.port.specs.State.{State, Within}
use Rattle.port.specs.declared.addresses.WordOffset.{WordOffset}
use Rattle.port.specs.declared.calls.Command.{Command}
use Rattle.port.specs.declared.calls.Command.TheVariants.{Idle, Read, Write}
use Rattle.port.specs.declared.calls.OpenBurst.{OpenBurst}
use Rattle.port.specs.declared.calls.Reply.{Reply}
use Rattle.port.specs.declared.calls.Reply.TheVariants as reply
use Rattle.port.specs.declared.numbers.Numbers.{Numbers}
use Rattle.port.proofs.Bytes.{bytes_stored, length_lanes_stored, length_words_at, words_below}
use Rattle.port.proofs.Steps.{burst_given}
use Rattle.port.proofs.Tally.{one_came_below}
use Rattle.port.proofs.Rules.{first_later, first_sooner, opening_fits, repeats_itself}

-- Read bursts owed --------------------------------------------------------------

came_within : (most : ℕ) (reads : List ℕ) → ReadsWithin most reads → ReadsWithin most (one_came reads)
came_within most [] r = tt
came_within most (k ∷ later) r =
    cond_both (ltb 1 k) _ _ (ReadsWithin most)
    (λ e. let more = ltb-true 1 k e in (omega arith, omega arith, r.2))
    (λ _. r.2)

came_total : (most : ℕ) (reads : List ℕ) → ReadsWithin most reads → 1 ≤ total reads → total (one_came reads) + 1 ≡ total reads
came_total most [] r some = absurd (omega arith)
came_total most (k ∷ later) r some =
    cond_both (ltb 1 k) _ _ (λ (xs : List ℕ). total xs + 1 ≡ k + total later)
    (λ e. let more = ltb-true 1 k e in omega arith)
    (λ e. let one = ltb-false 1 k e in omega arith)

push_within : (most : ℕ) (reads : List ℕ) (k : ℕ) → ReadsWithin most reads → 1 ≤ k → k ≤ most → ReadsWithin most (reads ++ (k ∷ []))
push_within most [] k r some fits = (some, fits, tt)
push_within most (j ∷ later) k r some fits = (r.0, r.1, push_within most later k r.2 some fits)

push_total : (reads : List ℕ) (k : ℕ) → total (reads ++ (k ∷ [])) ≡ total reads + k
push_total [] k = omega arith
push_total (j ∷ later) k = omega (arith, push_total later k)

-- Words owed --------------------------------------------------------------------

some_owed : (x : ℕ) (owed : List ℕ) → First (Some x) owed → 1 ≤ length owed
some_owed x [] f = absurd f
some_owed x (y ∷ owed) f = omega arith

append_below : (limit : ℕ) (xs ys : List ℕ) → ((i : ℕ) → get_or xs i 0 < limit) → ((i : ℕ) → get_or ys i 0 < limit) → (i : ℕ) → get_or (xs ++ ys) i 0 < limit
append_below limit [] ys small more i = more i
append_below limit (x ∷ xs) ys small more zero = small 0
append_below limit (x ∷ xs) ys small more (suc i) = append_below limit xs ys (λ j. small (suc j)) more i

drop_below : (limit : ℕ) (xs : List ℕ) → ((i : ℕ) → get_or xs i 0 < limit) → (i : ℕ) → get_or (drop 1 xs) i 0 < limit
drop_below limit xs small i = rw (get_or-drop 1 xs i 0) (small (1 + i))

none_left : (s : ℕ) (owed : List ℕ) → owed ≡ [] → silence_after owed s ≡ 0
none_left s [] e = refl
none_left s (x ∷ owed) e = cc

append_none : (xs ys : List ℕ) → xs ++ ys ≡ [] → xs ≡ []
append_none [] ys e = refl
append_none (x ∷ xs) ys e = cc

-- a read that is not refused keeps the limits
pub read_fits : (n : Numbers) (b : Option OpenBurst) (o : WordOffset) (k : ℕ) → command_rule n b (Read o k) ≡ None → (1 ≤ k) × (k ≤ n.burst_limit) × (o.0 + k ≤ n.words)
read_fits n None o k free = opening_fits n o.0 k free
read_fits n (Some b) o k free = let z : ◌≡◌ {A = ℕ} 0 1 = cc in absurd (omega arith)

-- Open bursts ---------------------------------------------------------------------

rest_within : (n : Numbers) (offset beats : ℕ) → beats ≤ n.burst_limit → offset + beats ≤ n.words → OpenWithin n (rest_of_burst offset beats)
rest_within n offset beats few fits =
    cond_both (ltb 1 beats) _ _ (OpenWithin n)
    (λ e. let more = ltb-true 1 beats e in (omega arith, omega arith, omega arith))
    (λ _. tt)

burst_within : (n : Numbers) (b : Option OpenBurst) (o : WordOffset) (k m d : ℕ) → OpenWithin n b → command_rule n b (Write o k m d) ≡ None → OpenWithin n (burst_after b o.0 k)
burst_within n None o k m d within free =
    let fits = opening_fits n o.0 k (first_sooner (opening_rule n o.0 k) (lanes_rule n m d) free) in
    rest_within n o.0 k fits.1 fits.2
burst_within n (Some b) o k m d within free = rest_within n b.next b.left (omega arith) (omega arith)

-- Held commands -------------------------------------------------------------------

-- a command that is not refused may be held
may_hold : (n : Numbers) (b : Option OpenBurst) (waits : ℕ) (c : Command) → (c ≡ Idle → ⊥) → command_rule n b c ≡ None → HeldLegal n b waits (Some c)
may_hold n b waits c no-idle free = rw (repeats_itself b c no-idle) free

-- The two halves of a move ----------------------------------------------------------

pub legal_given : (n : Numbers) (σ : State) (x : Option ℕ) → Legal n σ → First x σ.owed → (given x σ).silence ≤ n.silence_bound → Legal n (given x σ)
legal_given n σ None legal first silent = record {
  ranges = legal.ranges;
  size = legal.size;
  bytes = legal.bytes;
  opened = legal.opened;
  holds = legal.holds;
  reading = legal.reading;
  counted = legal.counted;
  values = legal.values;
  quiet = none_left σ.silence σ.owed;
  within = record { pending = legal.within.pending; waiting = legal.within.waiting; silent = silent };
}
legal_given n σ (Some x) legal first silent =
    let some = some_owed x σ.owed first in
    let less = came_total n.burst_limit σ.reads legal.reading (omega arith) in
    record {
      ranges = legal.ranges;
      size = legal.size;
      bytes = legal.bytes;
      opened = legal.opened;
      holds = legal.holds;
      reading = came_within n.burst_limit σ.reads legal.reading;
      counted = simp length-drop (omega arith);
      values = drop_below (2 ^ (8 * n.width)) σ.owed legal.values;
      quiet = λ _. refl;
      within = record { pending = let h = one_came_below σ.reads in omega arith; waiting = legal.within.waiting; silent = silent };
    }

read_taken : (n : Numbers) (σ : State) (o : WordOffset) (k : ℕ) → Legal n σ → command_rule n σ.burst (Read o k) ≡ None → Within n (acted n.width (Read o k) reply.Take σ) →
    Legal n (acted n.width (Read o k) reply.Take σ)
read_taken n σ o k legal free within =
    let fits = read_fits n σ.burst o k free in
    let all = length_words_at n.width (byte_in σ.memory) o.0 k in
    record {
      ranges = legal.ranges;
      size = legal.size;
      bytes = legal.bytes;
      opened = legal.opened;
      holds = refl;
      reading = push_within n.burst_limit σ.reads k legal.reading fits.0 fits.1;
      counted = push_total σ.reads k ∙ (rw (length-append σ.owed (read_words n.width σ o.0 k)) (omega arith));
      values = append_below (2 ^ (8 * n.width)) σ.owed (read_words n.width σ o.0 k) legal.values (words_below n.width (byte_in σ.memory) o.0 k legal.bytes);
      quiet = λ e. legal.quiet (append_none σ.owed (read_words n.width σ o.0 k) e);
      within = within;
    }

write_taken : (n : Numbers) (σ : State) (o : WordOffset) (k m d : ℕ) → Legal n σ → command_rule n σ.burst (Write o k m d) ≡ None → Within n (acted n.width (Write o k m d) reply.Take σ) →
    Legal n (acted n.width (Write o k m d) reply.Take σ)
write_taken n σ o k m d legal free within =
    let at = beat_offset σ.burst o.0 * n.width in
    record {
      ranges = legal.ranges;
      size = length_lanes_stored at m d n.width σ.memory ∙ legal.size;
      bytes = bytes_stored at m d n.width σ.memory legal.bytes;
      opened = burst_within n σ.burst o k m d legal.opened free;
      holds = refl;
      reading = legal.reading;
      counted = legal.counted;
      values = legal.values;
      quiet = legal.quiet;
      within = within;
    }

held_back : (n : Numbers) (σ : State) (c : Command) → (c ≡ Idle → ⊥) → Legal n σ → command_rule n σ.burst c ≡ None → Within n (acted n.width c reply.Wait σ) →
    Legal n (acted n.width c reply.Wait σ)
held_back n σ c no-idle legal free within = record {
  ranges = legal.ranges;
  size = legal.size;
  bytes = legal.bytes;
  opened = legal.opened;
  holds = may_hold n σ.burst (σ.waits + 1) c no-idle free;
  reading = legal.reading;
  counted = legal.counted;
  values = legal.values;
  quiet = legal.quiet;
  within = within;
}

pub legal_acted : (n : Numbers) (σ : State) (c : Command) (a : Reply) → Legal n σ → command_rule n σ.burst c ≡ None → Answers c a → Within n (acted n.width c a σ) →
    Legal n (acted n.width c a σ)
legal_acted n σ Idle reply.Idle legal free answers within = legal
legal_acted n σ Idle reply.Wait legal free answers within = absurd answers
legal_acted n σ Idle reply.Take legal free answers within = absurd answers
legal_acted n σ (Read o k) reply.Idle legal free answers within = absurd answers
legal_acted n σ (Read o k) reply.Wait legal free answers within = held_back n σ (Read o k) (λ e. let z : ◌≡◌ {A = ℕ} 0 1 = cc in omega arith) legal free within
legal_acted n σ (Read o k) reply.Take legal free answers within = read_taken n σ o k legal free within
legal_acted n σ (Write o k m d) reply.Idle legal free answers within = absurd answers
legal_acted n σ (Write o k m d) reply.Wait legal free answers within = held_back n σ (Write o k m d) (λ e. let z : ◌≡◌ {A = ℕ} 0 1 = cc in omega arith) legal free within
legal_acted n σ (Write o k m d) reply.Take legal free answers within = write_taken n σ o k m d legal free within

pub silence_acted : (w : ℕ) (c : Command) (a : Reply) (σ : State) → (acted w c a σ).silence ≡ σ.silence
silence_acted w Idle reply.Idle σ = refl
silence_acted w Idle reply.Wait σ = refl
silence_acted w Idle reply.Take σ = refl
silence_acted w (Read o k) reply.Idle σ = refl
silence_acted w (Read o k) reply.Wait σ = refl
silence_acted w (Read o k) reply.Take σ = refl
silence_acted w (Write o k m d) reply.Idle σ = refl
silence_acted w (Write o k m d) reply.Wait σ = refl
silence_acted w (Write o k m d) reply.Take σ = refl

pub moves_legal : (n : Numbers) (σ : State) (c : Command) (a : Reply) (x : Option ℕ) (τ : State) → Legal n σ → Clocks n σ c a x τ → Legal n τ
moves_legal n σ c a x τ legal clocks =
    let within : Within n (moved n.width σ c a x) = subst (Within n) clocks.moves clocks.within in
    let quiet : (given x σ).silence ≤ n.silence_bound = omega (arith, within.silent, silence_acted n.width c a (given x σ)) in
    let half = legal_given n σ x legal clocks.first quiet in
    let free : command_rule n (given x σ).burst c ≡ None =
    subst (λ b. command_rule n b c ≡ None) (sym (burst_given x σ)) (first_later (hold_rule σ.burst σ.held c) (command_rule n σ.burst c) clocks.legal) in
    subst (Legal n) (sym clocks.moves) (legal_acted n (given x σ) c a half free clocks.answers within)
