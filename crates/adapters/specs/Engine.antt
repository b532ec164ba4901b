-- What an adapter does in a clocked call with its own data, once the port below has answered.
use Rattle.std.specs.Prelude.{◌≡◌, ℕ, ◌+◌, ◌*◌, ◌^◌, ◌<◌, ◌≤◌, Bool, cond, ◌&&◌, List, [], ◌∷◌, ◌++◌, length, Some, None, Option, nat_lt}
use Rattle.adapters.specs.Cuts.{Placed, after_part, is_free, slot_for}
use Rattle.adapters.specs.Owed.{bursts_in, collected_after, lefts, next_owed, one_gone, word_up}
use Rattle.adapters.specs.declared.adapter.Engine.{Engine}
use Rattle.adapters.specs.declared.cut.Cut.{Cut}
use Rattle.adapters.specs.Slots.{Slot}
use Rattle.adapters.specs.declared.owed.OwedBurst.{OwedBurst}
use Rattle.port.specs.Legal.{Legal, tally}
use Rattle.port.specs.Machine.{moved, refusal_in}
use Rattle.port.specs.Runs.{takes}
use Rattle.port.specs.State.{State}
use Rattle.port.specs.declared.calls.Command.{Command}
use Rattle.port.specs.declared.calls.Command.TheVariants.{Idle, Read, Write}
use Rattle.port.specs.declared.calls.OpenBurst.{OpenBurst}
use Rattle.port.specs.declared.calls.Reply.{Reply}
use Rattle.port.specs.declared.calls.Reply.TheVariants as reply
use Rattle.port.specs.declared.numbers.Numbers.{Numbers}

-- A command is taken exactly when the slot was empty at the start of the call and, for a read, fewer than P' bursts were
-- owed then; bursts and p are how many, and P'
abbrev pub reply_above : Slot → ℕ → ℕ → Command → Reply
reply_above s bursts p Idle = reply.Idle
reply_above s bursts p (Read o n) = cond (is_free s && nat_lt bursts p) reply.Take reply.Wait
reply_above s bursts p (Write o n m d) = cond (is_free s) reply.Take reply.Wait

-- the slot after the port below has answered its next part
abbrev pub slot_sent : Cut → Reply → Slot → Slot
slot_sent c taken s = cond (takes taken) (after_part c s) s

-- the slot after the host's command, which was answered so
abbrev pub slot_filled : Cut → ℕ → Option OpenBurst → Command → Reply → Slot → Slot
slot_filled c v b command a s = cond (takes a) (slot_for c v b command) s

-- the bursts owed after a host word, or none
abbrev pub bursts_less : Option ℕ → List OwedBurst → List OwedBurst
bursts_less None bs = bs
bursts_less (Some x) bs = one_gone bs

-- the burst that a command adds to them, taken or not
abbrev pub burst_of : Command → Bool → List OwedBurst
burst_of Idle t = []
burst_of (Read o n) t = cond t (record { next = o; left = n } ∷ []) []
burst_of (Write o n m d) t = []

-- how many bytes a host word has
abbrev pub host_width : Engine → ℕ
host_width e = e.plain.numbers.width

-- the host word that a word from below, or none, makes whole
abbrev pub host_word : Engine → Option ℕ → Option ℕ
host_word e x = word_up e.shape.cut (host_width e) (next_owed (bursts_in e.owed)) e.collected x

-- What the code asks: its numbers are small, and its places are there ----------------------

pub record Workable (e : Engine) : Type 0 where
  pub wide : e.shape.width ≡ host_width e
  pub placed : Placed e.shape.cut e.slot
  pub pending : e.plain.numbers.pending_limit ≤ 16
  pub tallied : e.plain.bursts_owed ≡ length (bursts_in e.owed)
  pub near : next_owed (bursts_in e.owed) ≤ 32768
  pub parts_few : e.collected.count < e.shape.cut.parts
  pub parts_fit : e.shape.cut.width * e.collected.count + e.shape.cut.width ≤ 8
  pub value_fits : e.collected.value < 2 ^ (8 * (e.shape.cut.width * e.collected.count))

-- a word that comes from below fits its width, and belongs to a read burst that is owed
abbrev pub Due : Engine → Option ℕ → Type 0
Due e None = Unit {0}
Due e (Some x) = (x < 2 ^ (8 * e.shape.cut.width)) × (0 < length (bursts_in e.owed))

-- there is a place for the burst of a read
abbrev pub RoomFor : ℕ → Command → Type 0
RoomFor bursts Idle = Unit {0}
RoomFor bursts (Read o n) = bursts < 16
RoomFor bursts (Write o n m d) = Unit {0}

-- What a call leaves -------------------------------------------------------------------------

-- a word from below, or none, and what it makes whole
pub record Collects (e : Engine) (x y : Option ℕ) (e' : Engine) : Type 0 where
  pub word : y ≡ host_word e x
  pub collected : e'.collected ≡ collected_after e.shape.cut e.collected x
  pub bursts : bursts_in e'.owed ≡ bursts_less y (bursts_in e.owed)
  pub same_shape : e'.shape ≡ e.shape
  pub same_slot : e'.slot ≡ e.slot
  pub same_plain : e'.plain ≡ e.plain

-- a clocked call: a is the answer to the host's command and y its word, taken the answer to the part and x its word
pub record Settled (e : Engine) (c : Command) (taken : Reply) (x : Option ℕ) (a : Reply) (y : Option ℕ) (e' : Engine) : Type 0 where
  pub replies : a ≡ reply_above e.slot e.plain.bursts_owed e.plain.numbers.pending_limit c
  pub word : y ≡ host_word e x
  pub collected : e'.collected ≡ collected_after e.shape.cut e.collected x
  pub bursts : bursts_in e'.owed ≡ bursts_less y (bursts_in e.owed) ++ burst_of c (takes a)
  pub same_shape : e'.shape ≡ e.shape
  pub slot : e'.slot ≡ slot_filled e.shape.cut (host_width e) e.plain.burst c a (slot_sent e.shape.cut taken e.slot)
  pub plain : (n : Numbers) (σ : State) → e.plain ≡ tally n σ → Legal n σ → refusal_in n σ c ≡ None → σ.reads ≡ lefts (bursts_in e.owed) → e'.plain ≡ tally n (moved n.width σ c a y)
