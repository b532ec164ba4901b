-- The first fault of a file, looked for in the order of the file: section by section, the count before its records, record by record.
use Rattle.std.specs.Prelude.{ℕ, zero, suc, ◌+◌, ◌*◌, cond, List, [], ◌∷◌, length, Some, None, Option, nat_lt, slice_index}
use Rattle.files.specs.declared.faults.FileFault.{FileFault}
use Rattle.files.specs.declared.faults.FileFault.TheVariants.{Broken, OutOfRange}
use Rattle.files.specs.declared.faults.Fault.{Fault}
use Rattle.files.specs.declared.section.Section.{Section}
use Rattle.files.specs.declared.section.Section.TheVariants.{Pile, Adapters, Waits, Gaps, Memory, Commands}
use Rattle.files.specs.Bytes.{bytes_at, number_at}
use Rattle.files.specs.Sections.{rank, bytes_each, allowed, wrong_in}

-- the count that stands at a place
abbrev pub count_at : List ℕ → ℕ → ℕ
count_at xs from = number_at xs from 2

-- a fault of a section, at its b-th record (0 is the count) and at a byte
abbrev pub fault_at : Section → ℕ → ℕ → FileFault → Fault
fault_at k b at e = record { kind = e; section = rank k; «record» = b; byte = at }

-- the first of two findings
abbrev pub or_else : Option Fault → Option Fault → Option Fault
or_else (Some f) _ = Some f
or_else None g = g

abbrev pub found_at : Section → ℕ → ℕ → Option FileFault → Option Fault
found_at k b at (Some e) = Some (fault_at k b at e)
found_at k b at None = None

-- a count that is cut, or that the section does not allow
abbrev pub count_fault : Section → List ℕ → ℕ → Option Fault
count_fault k xs from =
    cond (nat_lt (length xs) (from + 2)) (Some (fault_at k 0 (length xs) Broken))
    (cond (allowed k (count_at xs from)) None (Some (fault_at k 0 from OutOfRange)))

-- a b-th record that is cut, or that is wrong
abbrev pub record_fault : Section → List ℕ → ℕ → ℕ → Option Fault
record_fault k xs from b =
    cond (nat_lt (length xs) (from + bytes_each k)) (Some (fault_at k b (length xs) Broken))
    (found_at k b from (wrong_in k (bytes_at xs from (bytes_each k))))

-- the first fault among n records, the b-th and those behind it
abbrev pub records_fault : Section → List ℕ → ℕ → ℕ → ℕ → Option Fault
records_fault k xs from b zero = None
records_fault k xs from b (suc n) = or_else (record_fault k xs from b) (records_fault k xs (from + bytes_each k) (b + 1) n)

-- the first fault of the section that begins at a place
abbrev pub section_fault : Section → List ℕ → ℕ → Option Fault
section_fault k xs from = or_else (count_fault k xs from) (records_fault k xs (from + 2) 1 (count_at xs from))

-- the place behind a section
abbrev pub behind : Section → List ℕ → ℕ → ℕ
behind k xs from = from + 2 + count_at xs from * bytes_each k

-- bytes that are left over behind the last section
abbrev pub rest_fault : Section → List ℕ → ℕ → Option Fault
rest_fault k xs from =
    cond (nat_lt (behind k xs from) (length xs)) (Some (fault_at k (count_at xs from) (behind k xs from) Broken)) None

-- the first fault of sections that follow one another from a place on, with nothing behind the last
unfoldable pub sections_fault : Section → List Section → List ℕ → ℕ → Option Fault
sections_fault k [] xs from = or_else (section_fault k xs from) (rest_fault k xs from)
sections_fault k (j ∷ js) xs from = or_else (section_fault k xs from) (sections_fault j js xs (behind k xs from))

-- the sections that follow the pile's, for a pile of this number
abbrev pub after_pile : ℕ → List Section
after_pile p = Adapters p ∷ Waits ∷ Gaps ∷ Memory ∷ Commands ∷ []

-- the first fault of a session file; the pile's number is its byte 2
abbrev pub first_fault : List ℕ → Option Fault
first_fault xs = sections_fault Pile (after_pile (slice_index xs 2)) xs 0
