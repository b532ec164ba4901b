-- The machine's steps: what a word that comes back leaves, and what a command depends on.
use Rattle.std.proofs.Common.{◌≡◌, ℕ, ◌+◌, ◌<◌, List, [], ◌∷◌, ◌++◌, length, Some, None, Option, refl, ap, ◌∙◌, arith}
use Rattle.port.specs.Lanes.{byte_in, stored, words_at}
use Rattle.port.specs.Machine.{acted, beat_offset, given, silence_after}
use Rattle.port.specs.State.{State}
use Rattle.port.specs.declared.calls.Command.{Command}
use Rattle.port.specs.declared.calls.Command.TheVariants.{Idle, Read, Write}
use Rattle.port.specs.declared.calls.Reply.{Reply}
use Rattle.port.specs.declared.calls.Reply.TheVariants as reply

pub memory_given : (x : Option ℕ) (σ : State) → (given x σ).memory ≡ σ.memory
memory_given None σ = refl
memory_given (Some x) σ = refl

pub burst_given : (x : Option ℕ) (σ : State) → (given x σ).burst ≡ σ.burst
burst_given None σ = refl
burst_given (Some x) σ = refl

-- no word came, and some are owed
pub silence_more : (owed : List ℕ) (s : ℕ) → 0 < length owed → silence_after owed s ≡ 1 + s
silence_more [] s some = absurd (omega arith)
silence_more (x ∷ owed) s some = omega arith

-- memory, words and bursts after a command come from memory, open burst, words and bursts alone
pub acted_memory : (w : ℕ) (c : Command) (a : Reply) (σ τ : State) → σ.memory ≡ τ.memory → σ.burst ≡ τ.burst → (acted w c a σ).memory ≡ (acted w c a τ).memory
acted_memory w Idle reply.Idle σ τ e b = e
acted_memory w Idle reply.Wait σ τ e b = e
acted_memory w Idle reply.Take σ τ e b = e
acted_memory w (Read o k) reply.Idle σ τ e b = e
acted_memory w (Read o k) reply.Wait σ τ e b = e
acted_memory w (Read o k) reply.Take σ τ e b = e
acted_memory w (Write o k m d) reply.Idle σ τ e b = e
acted_memory w (Write o k m d) reply.Wait σ τ e b = e
acted_memory w (Write o k m d) reply.Take σ τ e b =
    ap (λ h. stored w (beat_offset h o.0) m d σ.memory) b ∙ ap (λ mem. stored w (beat_offset τ.burst o.0) m d mem) e

pub acted_owed : (w : ℕ) (c : Command) (a : Reply) (σ τ : State) → σ.memory ≡ τ.memory → σ.owed ≡ τ.owed → (acted w c a σ).owed ≡ (acted w c a τ).owed
acted_owed w Idle reply.Idle σ τ e o = o
acted_owed w Idle reply.Wait σ τ e o = o
acted_owed w Idle reply.Take σ τ e o = o
acted_owed w (Read at k) reply.Idle σ τ e o = o
acted_owed w (Read at k) reply.Wait σ τ e o = o
acted_owed w (Read at k) reply.Take σ τ e o =
    ap (λ xs. xs ++ words_at w (byte_in σ.memory) at.0 k) o ∙ ap (λ mem. τ.owed ++ words_at w (byte_in mem) at.0 k) e
acted_owed w (Write at k m d) reply.Idle σ τ e o = o
acted_owed w (Write at k m d) reply.Wait σ τ e o = o
acted_owed w (Write at k m d) reply.Take σ τ e o = o

pub acted_reads : (w : ℕ) (c : Command) (a : Reply) (σ τ : State) → σ.reads ≡ τ.reads → (acted w c a σ).reads ≡ (acted w c a τ).reads
acted_reads w Idle reply.Idle σ τ e = e
acted_reads w Idle reply.Wait σ τ e = e
acted_reads w Idle reply.Take σ τ e = e
acted_reads w (Read at k) reply.Idle σ τ e = e
acted_reads w (Read at k) reply.Wait σ τ e = e
acted_reads w (Read at k) reply.Take σ τ e = ap (λ xs. xs ++ (k ∷ [])) e
acted_reads w (Write at k m d) reply.Idle σ τ e = e
acted_reads w (Write at k m d) reply.Wait σ τ e = e
acted_reads w (Write at k m d) reply.Take σ τ e = e

abbrev the_state : State → List ℕ → List ℕ → List ℕ → State
the_state τ memory owed reads = record { memory = memory; burst = τ.burst; held = τ.held; owed = owed; reads = reads; waits = τ.waits; silence = τ.silence }

-- a state with an equal memory, equal words and equal bursts
pub same_state : (τ : State) (memory owed reads : List ℕ) → memory ≡ τ.memory → owed ≡ τ.owed → reads ≡ τ.reads →
    ◌≡◌ {A = State} (record { memory = memory; burst = τ.burst; held = τ.held; owed = owed; reads = reads; waits = τ.waits; silence = τ.silence }) τ
same_state τ memory owed reads em eo er =
    ap (λ (mem : List ℕ). the_state τ mem owed reads) em ∙ (ap (λ (ws : List ℕ). the_state τ τ.memory ws reads) eo ∙ ap (λ (rs : List ℕ). the_state τ τ.memory τ.owed rs) er)
