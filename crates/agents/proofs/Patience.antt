-- Within the scripts' delays no command waits longer than A, and no owed word stays out longer than L.
use Rattle.std.proofs.Common.{◌≡◌, ℕ, ◌+◌, ◌*◌, ◌<◌, ◌≤◌, true, ◌||◌, ltb, leb, ◌⊎◌, List, [], ◌∷◌, length, Some, None, refl, sym, subst, ap, ◌∙◌, inl, inr, ⊎_elim, mul-le-mul_right, mul_comm, add-mul, arith}
use Rattle.std.proofs.lemmas.List.{length-append}
use Rattle.std.proofs.lemmas.Bool.{cond_both, leb-true, leb-false, ltb-true, or_cases, or_parts, cases_lt}
use Rattle.agents.specs.Timing.{first_due, word_back, bursts_full, reply_to, Patient}
use Rattle.port.proofs.Tally.{one_came_below, total_below}
use Rattle.port.proofs.Waiting.{due_below, due_came, due_later, due_none, none_owed}
use Rattle.port.specs.Legal.{Legal}
use Rattle.port.specs.Machine.{Answers, First, acted, given, silence_after}
use Rattle.port.specs.State.{State, Within}
use Rattle.port.specs.Waiting.{calls_due}
use Rattle.port.specs.declared.calls.Command.{Command}
use Rattle.port.specs.declared.calls.Command.TheVariants.{Idle, Read, Write}
use Rattle.port.specs.declared.calls.Reply.{Reply}
use Rattle.port.specs.declared.calls.Reply.TheVariants as reply
use Rattle.port.specs.declared.numbers.Numbers.{Numbers}

-- A word that comes back ---------------------------------------------------------

-- the due word is the first one owed
first_is_due : (owed : List ℕ) (s g : ℕ) → First (first_due owed s g) owed
first_is_due [] s g = tt
first_is_due (x ∷ later) s g = cond_both (leb g s) (Some x) None (λ o. First o (x ∷ later)) (λ e. refl) (λ e. tt)

pub due_first : (σ : State) (g : ℕ) → First (word_back σ g) σ.owed
due_first σ g = first_is_due σ.owed σ.silence g

-- What a word that comes back, or none, leaves ---------------------------------------

-- what holds after the word: the silence is at most L, and while P bursts were owed the calls left fell
pub record Eased (n : Numbers) (σ : State) (τ : State) : Type 0 where
  pub silent : τ.silence ≤ n.silence_bound
  pub fewer : length τ.reads ≤ length σ.reads
  pub falls : length σ.reads ≡ n.pending_limit →
      calls_due n.pending_limit n.silence_bound τ.silence τ.reads + 1 ≤ calls_due n.pending_limit n.silence_bound σ.silence σ.reads
  pub same : τ.waits ≡ σ.waits

eased_none : (n : Numbers) (σ : State) (x : ℕ) (later : List ℕ) (g : ℕ) → Legal n σ → g ≤ n.silence_bound → σ.owed ≡ x ∷ later → σ.silence < g → Eased n σ (given None σ)
eased_none n σ x later g legal short some early =
    let s : silence_after σ.owed σ.silence ≡ σ.silence + 1 = ap (λ xs. silence_after xs σ.silence) some in
    record {
      silent = omega (arith, s);
      fewer = omega arith;
      falls = λ full. subst (λ t. calls_due n.pending_limit n.silence_bound t σ.reads + 1 ≤ calls_due n.pending_limit n.silence_bound σ.silence σ.reads) (sym s)
          (due_later n.pending_limit n.silence_bound σ.silence n.burst_limit σ.reads legal.ranges.pending_some (omega arith) legal.reading full);
      same = refl;
    }

eased_some : (n : Numbers) (σ : State) (x : ℕ) → Legal n σ → Eased n σ (given (Some x) σ)
eased_some n σ x legal = record {
  silent = omega arith;
  fewer = one_came_below σ.reads;
  falls = λ full. due_came n.pending_limit n.silence_bound σ.silence n.burst_limit σ.reads legal.ranges.pending_some legal.within.silent legal.reading full;
  same = refl;
}

eased_by : (n : Numbers) (σ : State) (owed : List ℕ) (g : ℕ) → Legal n σ → g ≤ n.silence_bound → σ.owed ≡ owed → Eased n σ (given (first_due owed σ.silence g) σ)
eased_by n σ [] g legal short e =
    let s : silence_after σ.owed σ.silence ≡ 0 = ap (λ xs. silence_after xs σ.silence) e in
    let none : length σ.reads ≡ 0 = none_owed n.burst_limit σ.reads legal.reading (legal.counted ∙ ap length e) in
    let some = legal.ranges.pending_some in
    record { silent = omega (arith, s); fewer = omega arith; falls = λ full. absurd (omega arith); same = refl }
eased_by n σ (x ∷ later) g legal short e =
    cond_both (leb g σ.silence) (Some x) None (λ o. Eased n σ (given o σ))
    (λ t. eased_some n σ x legal)
    (λ f. eased_none n σ x later g legal short e (leb-false g σ.silence f))

pub eased : (n : Numbers) (σ : State) (g : ℕ) → Legal n σ → g ≤ n.silence_bound → Eased n σ (given (word_back σ g) σ)
eased n σ g legal short = eased_by n σ σ.owed g legal short refl

-- What is done with the command -------------------------------------------------------

-- with P bursts owed the calls left fell by one, and otherwise none were left
idle_on : (n : Numbers) (σ ρ : State) (v : ℕ) → Legal n σ → Eased n σ ρ → Patient n σ v → Patient n ρ v
idle_on n σ ρ v legal ease patient =
    let pending = legal.within.pending in
    ⊎_elim
    (λ (few : length σ.reads < n.pending_limit).
    let none = due_none n.pending_limit n.silence_bound ρ.silence ρ.reads (omega (arith, ease.fewer)) in
    omega (arith, none, ease.same))
    (λ (full : n.pending_limit ≤ length σ.reads). let falls = ease.falls (omega arith) in omega (arith, falls, ease.same))
    (cases_lt (length σ.reads) n.pending_limit)

wait_on : (n : Numbers) (σ ρ : State) (v : ℕ) → Legal n σ → Eased n σ ρ → Patient n σ v → (σ.waits < v) ⊎ (n.pending_limit ≤ length σ.reads) →
    ρ.waits + 1 + calls_due n.pending_limit n.silence_bound ρ.silence ρ.reads ≤ v + n.burst_limit * (n.silence_bound + 1)
wait_on n σ ρ v legal ease patient why =
    let pending = legal.within.pending in
    ⊎_elim
    (λ (few : length σ.reads < n.pending_limit).
    let none = due_none n.pending_limit n.silence_bound ρ.silence ρ.reads (omega (arith, ease.fewer)) in
    let early : σ.waits < v = ⊎_elim (λ (e : σ.waits < v). e) (λ (full : n.pending_limit ≤ length σ.reads). omega arith) why in
    omega (arith, none, ease.same))
    (λ (full : n.pending_limit ≤ length σ.reads). let falls = ease.falls (omega arith) in omega (arith, falls, ease.same))
    (cases_lt (length σ.reads) n.pending_limit)

-- why a read waits
read_why : (n : Numbers) (σ : State) (v : ℕ) → ltb σ.waits v || bursts_full n σ ≡ true → (σ.waits < v) ⊎ (n.pending_limit ≤ length σ.reads)
read_why n σ v e =
    ⊎_elim (λ t. inl (ltb-true σ.waits v t)) (λ t. inr (leb-true n.pending_limit (length σ.reads) t)) (or_cases (ltb σ.waits v) (bursts_full n σ) e)

-- The last rule of the machine: at most P bursts, r ≤ A, s ≤ L ---------------------------

pub within_call : (n : Numbers) (σ ρ : State) (v : ℕ) (c : Command) → Legal n σ → Eased n σ ρ → Patient n σ v → v + n.burst_limit * (n.silence_bound + 1) ≤ n.wait_bound →
    Within n (acted n.width c (reply_to n σ v c) ρ)
within_call n σ ρ v Idle legal ease patient bound =
    let p = idle_on n σ ρ v legal ease patient in
    record { pending = omega (arith, ease.fewer, legal.within.pending); waiting = omega arith; silent = ease.silent }
within_call n σ ρ v (Read o k) legal ease patient bound =
    cond_both (ltb σ.waits v || bursts_full n σ) reply.Wait reply.Take (λ a. Within n (acted n.width (Read o k) a ρ))
    (λ e.
    let p = wait_on n σ ρ v legal ease patient (read_why n σ v e) in
    record { pending = omega (arith, ease.fewer, legal.within.pending); waiting = omega arith; silent = ease.silent })
    (λ e.
    let f = leb-false n.pending_limit (length σ.reads) (or_parts (ltb σ.waits v) (bursts_full n σ) e).1 in
    record { pending = rw (length-append ρ.reads (k ∷ [])) (omega (arith, ease.fewer, f)); waiting = omega arith; silent = ease.silent })
within_call n σ ρ v (Write o k m d) legal ease patient bound =
    cond_both (ltb σ.waits v) reply.Wait reply.Take (λ a. Within n (acted n.width (Write o k m d) a ρ))
    (λ e.
    let p = wait_on n σ ρ v legal ease patient (inl (ltb-true σ.waits v e)) in
    record { pending = omega (arith, ease.fewer, legal.within.pending); waiting = omega arith; silent = ease.silent })
    (λ e. record { pending = omega (arith, ease.fewer, legal.within.pending); waiting = omega arith; silent = ease.silent })

-- r + q ≤ v + B (L + 1) again, with the wait value that counts after the call
taken_patient : (n : Numbers) (τ : State) (v : ℕ) → Legal n τ → τ.waits ≡ 0 → Patient n τ v
taken_patient n τ v legal none =
    let low = due_below n.pending_limit n.silence_bound τ.silence n.burst_limit τ.reads legal.reading in
    omega (arith, low)

pub patient_call : (n : Numbers) (σ ρ : State) (v : ℕ) (c : Command) (later : Reply → ℕ) → Legal n σ → Eased n σ ρ → Patient n σ v →
    later reply.Idle ≡ v → later reply.Wait ≡ v → Legal n (acted n.width c (reply_to n σ v c) ρ) → Patient n (acted n.width c (reply_to n σ v c) ρ) (later (reply_to n σ v c))
patient_call n σ ρ v Idle later legal ease patient i h = λ _. let p = idle_on n σ ρ v legal ease patient in omega arith
patient_call n σ ρ v (Read o k) later legal ease patient i h =
    cond_both (ltb σ.waits v || bursts_full n σ) reply.Wait reply.Take (λ a. Legal n (acted n.width (Read o k) a ρ) → Patient n (acted n.width (Read o k) a ρ) (later a))
    (λ e _. let p = wait_on n σ ρ v legal ease patient (read_why n σ v e) in omega arith)
    (λ e l. taken_patient n (acted n.width (Read o k) reply.Take ρ) (later reply.Take) l refl)
patient_call n σ ρ v (Write o k m d) later legal ease patient i h =
    cond_both (ltb σ.waits v) reply.Wait reply.Take (λ a. Legal n (acted n.width (Write o k m d) a ρ) → Patient n (acted n.width (Write o k m d) a ρ) (later a))
    (λ e _. let p = wait_on n σ ρ v legal ease patient (inl (ltb-true σ.waits v e)) in omega arith)
    (λ e l. taken_patient n (acted n.width (Write o k m d) reply.Take ρ) (later reply.Take) l refl)

-- idle is answered by idle, and any other command by wait or take
pub in_kind : (n : Numbers) (σ : State) (v : ℕ) (c : Command) → Answers c (reply_to n σ v c)
in_kind n σ v Idle = tt
in_kind n σ v (Read o k) = cond_both (ltb σ.waits v || bursts_full n σ) reply.Wait reply.Take (Answers (Read o k)) (λ e. tt) (λ e. tt)
in_kind n σ v (Write o k m d) = cond_both (ltb σ.waits v) reply.Wait reply.Take (Answers (Write o k m d)) (λ e. tt) (λ e. tt)

-- Room for the words of a read -------------------------------------------------------------

-- while fewer than P bursts are owed, the words of one more fit into B P places
pub words_fit : (n : Numbers) (ρ : State) (k : ℕ) → Legal n ρ → length ρ.reads < n.pending_limit → k ≤ n.burst_limit → length ρ.owed + k ≤ n.burst_limit * n.pending_limit
words_fit n ρ k legal few fits =
    let t = total_below n.burst_limit ρ.reads legal.reading in
    let s = add-mul (length ρ.reads) 1 n.burst_limit in
    let u : (length ρ.reads + 1) * n.burst_limit ≤ n.pending_limit * n.burst_limit = mul-le-mul_right n.burst_limit (omega arith) in
    omega (arith, t, s, u, legal.counted, mul_comm n.pending_limit n.burst_limit)
