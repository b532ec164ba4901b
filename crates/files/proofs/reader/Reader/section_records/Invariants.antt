-- The records that are left have the fault that all of them have.
use Rattle.std.proofs.Common.{◌≡◌, ◌+◌, ◌-◌, ◌*◌, ◌≤◌}
use Rattle.files.specs.Faults.{records_fault}
use Rattle.files.specs.Sections.{bytes_each}
use Rattle.files.proofs.reader.Reader.section_records.Given as goal

abbrev pub invariant-loop-number : goal.invariant-loop-number
invariant-loop-number l =
    (l.number ≤ l.count + 1)
    × (l.self.file ≡ l.initial.self.file)
    × (l.self.place ≡ l.initial.self.place + (l.number - 1) * bytes_each l.section)
    × (records_fault l.section l.self.file.now l.self.place l.number (l.count + 1 - l.number)
    ≡ records_fault l.section l.initial.self.file.now l.initial.self.place 1 l.count)
