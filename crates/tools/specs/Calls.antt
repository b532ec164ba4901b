-- How the player puts a command of a session to a port, and when it is refused.
use Rattle.std.specs.Prelude.{◌≡◌, ℕ, ◌-◌, ◌/◌, ◌%◌, ◌^◌, Bool, true, false, cond, not, ◌&&◌, ◌||◌, Some, None, Ok, Err, Option, Result, ◌==◌, nat_le}
use Rattle.port.specs.Machine.{Clocks, broken, first_of, refusal_in}
use Rattle.port.specs.Refusals.{number_of}
use Rattle.port.specs.State.{State}
use Rattle.port.specs.declared.addresses.WordOffset.{WordOffset}
use Rattle.port.specs.Answers.{Answer, Clocked, Refused}
use Rattle.port.specs.declared.calls.Command.{Command}
use Rattle.port.specs.declared.calls.Command.TheVariants.{Idle, Read, Write}
use Rattle.port.specs.declared.calls.OpenBurst.{OpenBurst}
use Rattle.port.specs.declared.calls.Refusal.{Refusal}
use Rattle.port.specs.declared.numbers.Numbers.{Numbers}
use Rattle.files.specs.declared.records.CommandFields.{CommandFields}

-- an address is a multiple of the width
abbrev pub aligned : ℕ → ℕ → Bool
aligned w address = address % w == 0

-- the word at an address; 0 where none begins there, which only an open burst lets pass
abbrev pub offset_in : ℕ → ℕ → ℕ
offset_in w address = cond (aligned w address) (address / w) 0

-- the command that a record's flags name: 0 idle, 1 read, 2 write
abbrev pub command_in : ℕ → CommandFields → Command
command_in w f =
    cond (f.flags == 0) Idle
    (cond (f.flags == 1) (Read (record { 0 = offset_in w f.address }) f.count)
    (Write (record { 0 = offset_in w f.address }) f.count f.mask f.bits))

-- a read or a write opens a burst when none is open
abbrev pub opens : Option OpenBurst → CommandFields → Bool
opens None f = not (f.flags == 0)
opens (Some b) f = false

-- 9: read and write together; 7: an opening address is no multiple of the width
abbrev pub host_rule : ℕ → Option OpenBurst → CommandFields → Option ℕ
host_rule w b f = first_of (broken (nat_le 3 f.flags) 9) (broken (opens b f && not (aligned w f.address)) 7)

-- no read, or a read whose mask names all lanes
abbrev pub all_lanes : ℕ → CommandFields → Bool
all_lanes w f = not (f.flags == 1) || f.mask == 2 ^ w - 1

-- 8: the mask of a read does not name all lanes
abbrev pub mask_rule : ℕ → CommandFields → Option ℕ
mask_rule w f = broken (not (all_lanes w f)) 8

-- the number with which a command of a session is refused: 9, 7, then the port's reasons, with a read's mask last
abbrev pub session_refusal : Numbers → State → CommandFields → Option ℕ
session_refusal n σ f =
    first_of (host_rule n.width σ.burst f) (first_of (refusal_in n σ (command_in n.width f)) (mask_rule n.width f))

-- a command of a session, its answer and the state after it
abbrev pub Played : Numbers → State → CommandFields → Answer → State → Type 0
Played n σ f (Refused r) τ = (session_refusal n σ f ≡ Some (number_of r)) × (τ ≡ σ)
Played n σ f (Clocked a x) τ = (session_refusal n σ f ≡ None) × Clocks n σ (command_in n.width f) a x τ

-- the offset of an address, or a refusal where an opening address is no multiple of the width
abbrev pub Placed : ℕ → Option OpenBurst → ℕ → Result WordOffset Refusal → Type 0
Placed w b address (Ok o) = (o.0 ≡ offset_in w address) × (b ≡ None → aligned w address ≡ true)
Placed w b address (Err e) = (number_of e ≡ 7) × (aligned w address ≡ false) × (b ≡ None)

-- the command of a record, or what the host's side refuses it with
abbrev pub Converted : ℕ → Option OpenBurst → CommandFields → Result Command Refusal → Type 0
Converted w b f (Ok c) = (host_rule w b f ≡ None) × (c ≡ command_in w f)
Converted w b f (Err e) = host_rule w b f ≡ Some (number_of e)
