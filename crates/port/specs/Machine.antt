-- The port machine: when a call is refused, how a clocked call moves the state, and which moves a port may show.
use Rattle.std.specs.Prelude.{◌≡◌, ℕ, ◌+◌, ◌-◌, ◌*◌, ◌^◌, Bool, true, false, cond, ◌&&◌, List, [], ◌∷◌, ◌++◌, drop, Some, None, Option, ◌==◌, nat_le, nat_lt}
use Rattle.port.specs.Lanes.{byte_in, words_at, stored}
use Rattle.port.specs.Refusals.{number_of}
use Rattle.port.specs.State.{State, Within}
use Rattle.port.specs.Answers.{Answer, Clocked, Refused}
use Rattle.port.specs.declared.calls.Command.{Command}
use Rattle.port.specs.declared.calls.Command.TheVariants.{Idle, Read, Write}
use Rattle.port.specs.declared.calls.OpenBurst.{OpenBurst}
use Rattle.port.specs.declared.calls.Reply.{Reply}
use Rattle.port.specs.declared.calls.Reply.TheVariants as reply
use Rattle.port.specs.declared.numbers.Numbers.{Numbers}

-- Refusals ------------------------------------------------------------------

-- the first rule that is broken counts
abbrev pub first_of : Option ℕ → Option ℕ → Option ℕ
first_of (Some n) later = Some n
first_of None later = later

-- a rule is broken, with this number
abbrev pub broken : Bool → ℕ → Option ℕ
broken true n = Some n
broken false n = None

-- is this the command that is held? A next beat compares mask and word only
abbrev pub repeats : Option OpenBurst → Command → Command → Bool
repeats b Idle c = false
repeats b (Read o k) Idle = false
repeats b (Read o k) (Read o' k') = o.0 == o'.0 && k == k'
repeats b (Read o k) (Write o' k' m' d') = false
repeats b (Write o k m d) Idle = false
repeats b (Write o k m d) (Read o' k') = false
repeats None (Write o k m d) (Write o' k' m' d') =
    (o.0 == o'.0) && (k == k' && (m == m' && d == d'))
repeats (Some b) (Write o k m d) (Write o' k' m' d') = m == m' && d == d'

-- 11: a command is held, and this one differs or is idle
abbrev pub hold_rule : Option OpenBurst → Option Command → Command → Option ℕ
hold_rule b None c = None
hold_rule b (Some h) c = cond (repeats b h c) None (Some 11)

-- 5: a count of 0 or above the burst limit; 6: the burst ends past the last word
abbrev pub opening_rule : Numbers → ℕ → ℕ → Option ℕ
opening_rule n offset count =
    first_of (broken (count == 0) 5) (first_of (broken (nat_lt n.burst_limit count) 5) (broken (nat_lt n.words (offset + count)) 6))

-- 8: a mask or a word has bits beyond the width
abbrev pub lanes_rule : Numbers → ℕ → ℕ → Option ℕ
lanes_rule n mask word = first_of (broken (nat_le (2 ^ n.width) mask) 8) (broken (nat_le (2 ^ (8 * n.width)) word) 8)

-- 12: a read while a write burst is open; otherwise the rules of an opening command or of a next beat
abbrev pub command_rule : Numbers → Option OpenBurst → Command → Option ℕ
command_rule n b Idle = None
command_rule n None (Read o k) = opening_rule n o.0 k
command_rule n (Some b) (Read o k) = Some 12
command_rule n None (Write o k m d) = first_of (opening_rule n o.0 k) (lanes_rule n m d)
command_rule n (Some b) (Write o k m d) = lanes_rule n m d

-- the number with which a command is refused: 11, 12, 5, 6, 8, in this order
abbrev pub refusal_by : Numbers → Option OpenBurst → Option Command → Command → Option ℕ
refusal_by n b h c = first_of (hold_rule b h c) (command_rule n b c)

abbrev pub refusal_in : Numbers → State → Command → Option ℕ
refusal_in n σ c = refusal_by n σ.burst σ.held c

-- Moves ---------------------------------------------------------------------

-- where a write's beat goes: to its own offset, or to the open burst's next
abbrev pub beat_offset : Option OpenBurst → ℕ → ℕ
beat_offset None offset = offset
beat_offset (Some b) offset = b.next

-- what is open after a beat at an offset, of which this many beats were left with it
abbrev pub rest_of_burst : ℕ → ℕ → Option OpenBurst
rest_of_burst offset beats = cond (nat_lt 1 beats) (Some (record { next = offset + 1; left = beats - 1 })) None

-- an opening write leaves count - 1 beats open, and a next beat one fewer
abbrev pub burst_after : Option OpenBurst → ℕ → ℕ → Option OpenBurst
burst_after None offset count = rest_of_burst offset count
burst_after (Some b) offset count = rest_of_burst b.next b.left

-- one word of the oldest read burst has come; the burst is no longer owed when it was its last
abbrev pub one_came : List ℕ → List ℕ
one_came [] = []
one_came (n ∷ later) = cond (nat_lt 1 n) ((n - 1) ∷ later) later

-- s after a call that brought no word: 0 if nothing was owed before it, else one more
abbrev pub silence_after : List ℕ → ℕ → ℕ
silence_after [] s = 0
silence_after (x ∷ owed) s = s + 1

-- what a returned word, or none, leaves owed
abbrev pub given : Option ℕ → State → State
given None σ =
    record { memory = σ.memory; burst = σ.burst; held = σ.held; owed = σ.owed; reads = σ.reads; waits = σ.waits; silence = silence_after σ.owed σ.silence }
given (Some x) σ =
    record { memory = σ.memory; burst = σ.burst; held = σ.held; owed = drop 1 σ.owed; reads = one_came σ.reads; waits = σ.waits; silence = 0 }

-- the words that a read taken now requests
abbrev pub read_words : ℕ → State → ℕ → ℕ → List ℕ
read_words w σ offset count = words_at w (byte_in σ.memory) offset count

-- idle, wait or take
abbrev pub acted : ℕ → Command → Reply → State → State
acted w c reply.Idle σ = σ
acted w c reply.Wait σ =
    record { memory = σ.memory; burst = σ.burst; held = Some c; owed = σ.owed; reads = σ.reads; waits = σ.waits + 1; silence = σ.silence }
acted w Idle reply.Take σ = σ
acted w (Read o k) reply.Take σ =
    record { memory = σ.memory; burst = σ.burst; held = None; owed = σ.owed ++ read_words w σ o.0 k; reads = σ.reads ++ (k ∷ []); waits = 0; silence = σ.silence }
acted w (Write o k m d) reply.Take σ =
    record { memory = stored w (beat_offset σ.burst o.0) m d σ.memory; burst = burst_after σ.burst o.0 k; held = None; owed = σ.owed; reads = σ.reads; waits = 0; silence = σ.silence }

-- the state after a clocked call: the word first, then idle, wait or take
abbrev pub moved : ℕ → State → Command → Reply → Option ℕ → State
moved w σ c a x = acted w c a (given x σ)

-- idle is answered by idle, and any other command by wait or take
abbrev pub Answers : Command → Reply → Type 0
Answers Idle reply.Idle = Unit {0}
Answers Idle reply.Wait = ⊥
Answers Idle reply.Take = ⊥
Answers (Read o k) reply.Idle = ⊥
Answers (Read o k) reply.Wait = Unit {0}
Answers (Read o k) reply.Take = Unit {0}
Answers (Write o k m d) reply.Idle = ⊥
Answers (Write o k m d) reply.Wait = Unit {0}
Answers (Write o k m d) reply.Take = Unit {0}

-- a returned word is the first one owed before the call
abbrev pub First : Option ℕ → List ℕ → Type 0
First None owed = Unit {0}
First (Some x) [] = ⊥
First (Some x) (y ∷ owed) = x ≡ y

-- what a clocked call shows. Which calls wait and which return a word is left free to the make of port, within the last rule
pub record Clocks (n : Numbers) (σ : State) (c : Command) (a : Reply) (x : Option ℕ) (τ : State) : Type 0 where
  pub legal : refusal_in n σ c ≡ None
  pub answers : Answers c a
  pub first : First x σ.owed
  pub moves : τ ≡ moved n.width σ c a x
  pub within : Within n τ

-- a clock call: refused with exactly the rules' number, and nothing changed; or clocked
abbrev pub Moves : Numbers → State → Command → Answer → State → Type 0
Moves n σ c (Refused r) τ = (refusal_in n σ c ≡ Some (number_of r)) × (τ ≡ σ)
Moves n σ c (Clocked a x) τ = Clocks n σ c a x τ
