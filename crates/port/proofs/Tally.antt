-- The plain record of a legal state stays far below the largest numbers, and moves with the state.
use Rattle.std.proofs.Common.{◌≡◌, ℕ, suc, ◌+◌, ◌*◌, ◌≤◌, ltb, List, [], ◌∷◌, ◌++◌, length, Some, None, Option, sym, ap, ◌∙◌, inl, inr, add-mul, one-mul, add-one, arith, length-drop}
use Rattle.std.proofs.lemmas.Nat.{mul-le}
use Rattle.std.proofs.lemmas.List.{length-append, length_push}
use Rattle.std.proofs.lemmas.Bool.{cond_both}
use Rattle.port.specs.Lanes.{byte_in}
use Rattle.port.specs.Legal.{Legal, OpenWithin, ReadsWithin, WithinReach, tally, total}
use Rattle.port.specs.Machine.{acted, command_rule, given, hold_rule, lanes_rule, one_came, opening_rule, read_words, refusal_in}
use Rattle.port.specs.State.{Ranges, State}
use Rattle.port.specs.Widths.{Wide}
use Rattle.port.specs.declared.addresses.WordOffset.{WordOffset}
use Rattle.port.specs.declared.calls.Command.{Command}
use Rattle.port.specs.declared.calls.Command.TheVariants.{Idle, Read, Write}
use Rattle.port.specs.declared.calls.OpenBurst.{OpenBurst}
use Rattle.port.specs.declared.calls.Reply.{Reply}
use Rattle.port.specs.declared.calls.Reply.TheVariants as reply
use Rattle.port.specs.declared.numbers.Numbers.{Numbers}
use Rattle.port.specs.declared.record.PortRecord.{PortRecord}
use Rattle.port.proofs.Bytes.{length_words_at}
use Rattle.port.proofs.Rules.{first_later, first_sooner, opening_fits}

-- at most P bursts of at most B words are owed
pub total_below : (most : ℕ) (reads : List ℕ) → ReadsWithin most reads → total reads ≤ length reads * most
total_below most [] r = omega arith
total_below most (k ∷ later) r =
    let rest = total_below most later r.2 in
    let split : suc (length later) * most ≡ length later * most + most = ap (λ i. i * most) (sym (add-one (length later))) ∙ add-mul (length later) 1 most ∙ ap (λ i. length later * most + i) (one-mul most) in
    omega arith

pub owed_below : (n : Numbers) (σ : State) → Legal n σ → length σ.owed ≤ 1024
owed_below n σ legal =
    let all = total_below n.burst_limit σ.reads legal.reading in
    let most = mul-le (length σ.reads) n.burst_limit 16 64 (omega arith) (omega arith) in
    omega arith

pub one_came_below : (reads : List ℕ) → length (one_came reads) ≤ length reads
one_came_below [] = omega arith
one_came_below (k ∷ later) =
    cond_both (ltb 1 k) _ _ (λ (xs : List ℕ). length xs ≤ suc (length later)) (λ _. omega arith) (λ _. omega arith)

pub few_owed : (n : Numbers) (σ : State) (x : Option ℕ) → Legal n σ → length (given x σ).owed ≤ 65536
few_owed n σ None legal = let h = owed_below n σ legal in omega arith
few_owed n σ (Some x) legal = let h = owed_below n σ legal in simp length-drop (omega arith)

pub few_reads : (n : Numbers) (σ : State) (x : Option ℕ) → Legal n σ → length (given x σ).reads ≤ 16
few_reads n σ None legal = omega arith
few_reads n σ (Some x) legal = let h = one_came_below σ.reads in omega arith

beat_reach : (n : Numbers) (b : Option OpenBurst) (c : Command) → n.words ≤ 32768 → OpenWithin n b → command_rule n b c ≡ None → WithinReach b c
beat_reach n b Idle small within free = tt
beat_reach n b (Read o k) small within free = tt
beat_reach n None (Write o k m d) small within free =
    let fits = opening_fits n o.0 k (first_sooner (opening_rule n o.0 k) (lanes_rule n m d) free) in
    omega arith
beat_reach n (Some b) (Write o k m d) small within free = omega arith

-- a width is 1 to 8
pub wide_some : (w : ℕ) → Wide w → (1 ≤ w) × (w ≤ 8)
wide_some w wide =
    elim wide [
      | inl e ↦ (omega arith, omega arith)
      | inr later ↦ elim later [
        | inl e ↦ (omega arith, omega arith)
        | inr last ↦ elim last [ inl e ↦ (omega arith, omega arith) | inr e ↦ (omega arith, omega arith) ]
      ]
    ]

pub words_below : (n : Numbers) → Ranges n → n.words ≤ 32768
words_below n ranges =
    let some = wide_some n.width ranges.wide in
    let h = mul-le n.words 1 n.words n.width (omega arith) some.0 in
    omega arith

pub reach : (n : Numbers) (σ : State) (x : Option ℕ) (c : Command) → Legal n σ → refusal_in n σ c ≡ None → WithinReach (given x σ).burst c
reach n σ x c legal free =
    let here = beat_reach n σ.burst c (words_below n legal.ranges) legal.opened (first_later (hold_rule σ.burst σ.held c) (command_rule n σ.burst c) free) in
    elim x as (λ y. WithinReach (given y σ).burst c) [ None ↦ here | Some v ↦ here ]

-- the record after a read is taken
pub tally_read : (p : PortRecord) (n : Numbers) (σ : State) (c : Command) (o : WordOffset) (k words bursts : ℕ) →
    p ≡ tally n σ → c ≡ Read o k → words ≡ p.words_owed + k → bursts ≡ p.bursts_owed + 1 →
    ◌≡◌ {A = PortRecord} (record { numbers = p.numbers; burst = p.burst; held = None; words_owed = words; bursts_owed = bursts; waits = 0; silence = p.silence })
    (tally n (acted n.width c reply.Take σ))
tally_read p n σ c o k words bursts e is more one =
    let added = length-append σ.owed (read_words n.width σ o.0 k) in
    let count = length_words_at n.width (byte_in σ.memory) o.0 k in
    let was : p.words_owed ≡ length σ.owed = ap (λ (q : PortRecord). q.words_owed) e in
    let had : p.bursts_owed ≡ length σ.reads = ap (λ (q : PortRecord). q.bursts_owed) e in
    let owed : words ≡ length (σ.owed ++ read_words n.width σ o.0 k) = omega arith in
    let reads : bursts ≡ length (σ.reads ++ (k ∷ [])) = omega (arith, length_push σ.reads k) in
    rw is (cc)

-- the record after a wait
pub tally_wait : (p : PortRecord) (n : Numbers) (σ : State) (c : Command) (a : Reply) (waits : ℕ) →
    p ≡ tally n σ → a ≡ reply.Wait → waits ≡ p.waits + 1 →
    ◌≡◌ {A = PortRecord} (record { numbers = p.numbers; burst = p.burst; held = Some c; words_owed = p.words_owed; bursts_owed = p.bursts_owed; waits = waits; silence = p.silence })
    (tally n (acted n.width c a σ))
tally_wait p n σ c a waits e is more =
    let was : p.waits ≡ σ.waits = ap (λ (q : PortRecord). q.waits) e in
    let all : waits ≡ σ.waits + 1 = omega arith in
    rw is (cc)

-- the waits of a legal state, a word returned or not
pub few_waits : (n : Numbers) (σ : State) (x : Option ℕ) → Legal n σ → (given x σ).waits ≤ 100000000
few_waits n σ None legal = omega arith
few_waits n σ (Some x) legal = omega arith

pub waits_given : (n : Numbers) (σ : State) (x : Option ℕ) (p : PortRecord) → Legal n σ → p ≡ tally n (given x σ) → p.waits ≤ 100000000
waits_given n σ x p legal e = let h : p.waits ≡ (given x σ).waits = ap (λ (q : PortRecord). q.waits) e in omega (arith, few_waits n σ x legal)

pub silence_below : (n : Numbers) (σ : State) → Legal n σ → σ.silence ≤ 100000000
silence_below n σ legal = omega arith
