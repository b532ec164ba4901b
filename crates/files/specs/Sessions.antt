-- What it means that a session was read from a file.
use Rattle.std.specs.Prelude.{◌≡◌, ℕ, ◌+◌, ◌*◌, ◌%◌, ◌<◌, ◌≤◌, List, length, Some, None, slice_index}
use Rattle.std.specs.Borrow.{Bor}
use Rattle.files.specs.declared.faults.Fault.{Fault}
use Rattle.files.specs.declared.records.Stretch.{Stretch}
use Rattle.files.specs.declared.session.Session.{Session}
use Rattle.files.specs.Faults.{first_fault}
use Rattle.files.specs.Forms.{Contents, WellFormed}
use Rattle.files.specs.Parts.{Part}
use Rattle.files.specs.Sections.{adapters_in}

-- the numbers and the bytes of a session
abbrev pub contents_of : Session → Contents
contents_of s = record {
  pile_number = s.pile.pile;
  burst = s.pile.burst_limit;
  pending = s.pile.pending_limit;
  adapter_bytes = s.adapters.bytes.now;
  wait_bytes = s.waits.bytes.now;
  gap_bytes = s.gaps.bytes.now;
  memory_bytes = s.memory.bytes.now;
  command_bytes = s.commands.bytes.now;
}

-- all of a stretch is the part of the file at a place
abbrev pub Lies : Bor (List ℕ) → ℕ → Stretch → Type 0
Lies whole from t = Part whole from (length t.bytes.now) t

-- the place behind a stretch and the count that follows it
abbrev pub past_count : Stretch → ℕ
past_count t = t.place + length t.bytes.now + 2

-- the session's stretches are parts of the file itself, one behind the other, from the adapters on
pub record InPlace (whole : Bor (List ℕ)) (s : Session) : Type 0 where
  pub adapters_lie : Lies whole 7 s.adapters
  pub waits_lie : Lies whole (past_count s.adapters) s.waits
  pub gaps_lie : Lies whole (past_count s.waits) s.gaps
  pub memory_lies : Lies whole (past_count s.gaps) s.memory
  pub commands_lie : Lies whole (past_count s.memory) s.commands

-- all numbers of a session are in their ranges
pub record InRange (s : Session) : Type 0 where
  pub burst_low : 1 ≤ s.pile.burst_limit
  pub burst_high : s.pile.burst_limit ≤ 64
  pub pending_low : 1 ≤ s.pile.pending_limit
  pub pending_high : s.pile.pending_limit ≤ 16
  pub pile_known : (n : ℕ) × (adapters_in s.pile.pile ≡ Some n) × (length s.adapters.bytes.now ≡ n * 2)
  pub waits_low : 1 ≤ length s.waits.bytes.now
  pub waits_high : length s.waits.bytes.now ≤ 256
  pub gaps_low : 1 ≤ length s.gaps.bytes.now
  pub gaps_high : length s.gaps.bytes.now ≤ 256
  pub memory_low : 8 ≤ length s.memory.bytes.now
  pub memory_high : length s.memory.bytes.now ≤ 32768
  pub memory_whole : length s.memory.bytes.now % 8 ≡ 0
  pub commands_high : length s.commands.bytes.now ≤ 16384
  pub commands_whole : length s.commands.bytes.now % 16 ≡ 0
  pub flags_named : (i : ℕ) → 16 * i < length s.commands.bytes.now → slice_index s.commands.bytes.now (16 * i) ≤ 3

-- a session that was read: the file is well formed, and holds just what the session has
pub record Accepted (whole : Bor (List ℕ)) (s : Session) : Type 0 where
  pub faultless : first_fault whole.now ≡ None
  pub formed : WellFormed whole.now (contents_of s)
  pub in_place : InPlace whole s
  pub in_range : InRange s

-- a file that was refused: the fault is its first, and the file is not well formed, whatever it should hold
pub record Rejected (whole : Bor (List ℕ)) (f : Fault) : Type 0 where
  pub first : first_fault whole.now ≡ Some f
  pub malformed : (s : Contents) → WellFormed whole.now s → ⊥
