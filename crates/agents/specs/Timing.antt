-- When a scripted memory waits, and when it returns a word. v and g are the values at which its wait script and its
-- gap script stand, r and s the waits and the silence of its state: all as they are at the start of the call.
use Rattle.std.specs.Prelude.{ℕ, ◌+◌, ◌*◌, ◌≤◌, Bool, cond, ◌||◌, List, [], ◌∷◌, length, Some, None, Option, nat_le, nat_lt}
use Rattle.agents.specs.Scripts.{next_place}
use Rattle.port.specs.State.{State}
use Rattle.port.specs.Waiting.{calls_due}
use Rattle.port.specs.declared.calls.Command.{Command}
use Rattle.port.specs.declared.calls.Command.TheVariants.{Idle, Read, Write}
use Rattle.port.specs.declared.calls.Reply.{Reply}
use Rattle.port.specs.declared.calls.Reply.TheVariants as reply
use Rattle.port.specs.declared.numbers.Numbers.{Numbers}

-- the first word owed comes back when g ≤ s
abbrev pub first_due : List ℕ → ℕ → ℕ → Option ℕ
first_due [] s g = None
first_due (x ∷ later) s g = cond (nat_le g s) (Some x) None

-- the word that a call brings, if any
abbrev pub word_back : State → ℕ → Option ℕ
word_back σ g = first_due σ.owed σ.silence g

-- P read bursts are owed
abbrev pub bursts_full : Numbers → State → Bool
bursts_full n σ = nat_le n.pending_limit (length σ.reads)

-- a write waits when r < v, and a read also when P bursts are owed
abbrev pub reply_to : Numbers → State → ℕ → Command → Reply
reply_to n σ v Idle = reply.Idle
reply_to n σ v (Read o k) = cond (nat_lt σ.waits v || bursts_full n σ) reply.Wait reply.Take
reply_to n σ v (Write o k m d) = cond (nat_lt σ.waits v) reply.Wait reply.Take

-- the place of the wait script after a reply: a take moves it on
abbrev pub wait_place_after : Reply → ℕ → ℕ → ℕ
wait_place_after reply.Idle size place = place
wait_place_after reply.Wait size place = place
wait_place_after reply.Take size place = next_place size place

-- the place of the gap script after a call: a word that comes back moves it on
abbrev pub gap_place_after : Option ℕ → ℕ → ℕ → ℕ
gap_place_after None size place = place
gap_place_after (Some x) size place = next_place size place

-- Why no command waits longer than A ------------------------------------------

-- r + q ≤ v + B (L + 1), where q is how many calls at most until a read burst ends
abbrev pub Patient : Numbers → State → ℕ → Type 0
Patient n σ v = σ.waits + calls_due n.pending_limit n.silence_bound σ.silence σ.reads ≤ v + n.burst_limit * (n.silence_bound + 1)
