-- The six sections of a session file: their numbers, the sizes of their records, the counts and the records that they allow.
use Rattle.std.specs.Prelude.{ℕ, ◌%◌, Bool, false, cond, ◌&&◌, List, is_some, Some, None, Ok, Err, Option, Result, ◌==◌, nat_le}
use Rattle.files.specs.declared.faults.FileFault.{FileFault}
use Rattle.files.specs.declared.faults.FileFault.TheVariants.{Broken, OutOfRange}
use Rattle.files.specs.declared.records.Stretch.{Stretch}
use Rattle.files.specs.declared.records.PileFields.{PileFields}
use Rattle.files.specs.declared.records.CommandFields.{CommandFields}
use Rattle.files.specs.declared.records.SessionRecord.{SessionRecord}
use Rattle.files.specs.declared.records.SessionRecord.TheVariants as of
use Rattle.files.specs.declared.section.Section.{Section}
use Rattle.files.specs.declared.section.Section.TheVariants.{Pile, Adapters, Waits, Gaps, Memory, Commands}
use Rattle.files.specs.Fields.{pile_in, command_fields_in}

-- n is from low to high
abbrev pub from_to : ℕ → ℕ → ℕ → Bool
from_to low high n = nat_le low n && nat_le n high

-- how many adapters a pile has; a number that stands for no pile has no answer
abbrev pub adapters_in : ℕ → Option ℕ
adapters_in n = cond (n == 2) (Some 0) None

abbrev pub rank : Section → ℕ
rank Pile = 1
rank (Adapters _) = 2
rank Waits = 3
rank Gaps = 4
rank Memory = 5
rank Commands = 6

-- how many bytes a record has
abbrev pub bytes_each : Section → ℕ
bytes_each Pile = 3
bytes_each (Adapters _) = 2
bytes_each Waits = 1
bytes_each Gaps = 1
bytes_each Memory = 1
bytes_each Commands = 16

abbrev pub same_number : Option ℕ → ℕ → Bool
same_number (Some m) n = n == m
same_number None n = false

-- the counts that a section allows
abbrev pub allowed : Section → ℕ → Bool
allowed Pile n = n == 1
allowed (Adapters p) n = same_number (adapters_in p) n
allowed Waits n = from_to 1 256 n
allowed Gaps n = from_to 1 256 n
allowed Memory n = from_to 8 32768 n && n % 8 == 0
allowed Commands n = nat_le n 1024

abbrev pub ranged : PileFields → Bool
ranged p = is_some (adapters_in p.pile) && (from_to 1 64 p.burst_limit && from_to 1 16 p.pending_limit)

abbrev pub unless_pile : Option PileFields → Option FileFault
unless_pile (Some p) = cond (ranged p) None (Some OutOfRange)
unless_pile None = Some OutOfRange

-- a pile's record has three numbers in their ranges
abbrev pub pile_wrong : List ℕ → Option FileFault
pile_wrong xs = unless_pile (pile_in xs)

abbrev pub unless_command : Option CommandFields → Option FileFault
unless_command (Some c) = cond (nat_le c.flags 3) None (Some Broken)
unless_command None = Some Broken

-- a command's record has flags of two bits
abbrev pub command_wrong : List ℕ → Option FileFault
command_wrong xs = unless_command (command_fields_in xs)

-- what is wrong with the bytes of a record of a section
abbrev pub wrong_in : Section → List ℕ → Option FileFault
wrong_in Pile xs = pile_wrong xs
wrong_in (Adapters _) xs = None
wrong_in Waits xs = None
wrong_in Gaps xs = None
wrong_in Memory xs = None
wrong_in Commands xs = command_wrong xs

-- the record that a stretch of the file is
abbrev pub record_in : Section → Stretch → SessionRecord
record_in Pile s = of.Pile s
record_in (Adapters _) s = of.Adapter s
record_in Waits s = of.Script s
record_in Gaps s = of.Script s
record_in Memory s = of.Memory s
record_in Commands s = of.Command s

-- the stretch that carries a record
abbrev pub carrier : SessionRecord → Stretch
carrier (of.Pile s) = s
carrier (of.Adapter s) = s
carrier (of.Script s) = s
carrier (of.Memory s) = s
carrier (of.Command s) = s

-- a check passes where nothing is wrong
abbrev pub passed : Option FileFault → Result (Unit {0}) FileFault
passed None = Ok tt
passed (Some k) = Err k

abbrev pub wrong : SessionRecord → Option FileFault
wrong (of.Pile s) = pile_wrong s.bytes.now
wrong (of.Adapter s) = None
wrong (of.Script s) = None
wrong (of.Memory s) = None
wrong (of.Command s) = command_wrong s.bytes.now
