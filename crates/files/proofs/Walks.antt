-- Steps of the search for the first fault.
use Rattle.std.proofs.lemmas.Grind.{common_steps}
use Rattle.std.proofs.Common.{◌≡◌, ℕ, suc, ◌+◌, ◌-◌, ◌<◌, List, None, arith}
use Rattle.files.specs.declared.section.Section.{Section}
use Rattle.files.specs.Faults.{record_fault, records_fault}
use Rattle.files.specs.Sections.{bytes_each}

-- past a record without a fault, the fault is among those behind it
pub records_go : (k : Section) (xs : List ℕ) (from b i n : ℕ) → i < n → record_fault k xs from b ≡ None
    → records_fault k xs (from + bytes_each k) (b + 1) (n - (i + 1)) ≡ records_fault k xs from b (n - i)
records_go k xs from b i n h e =
    let more : n - i ≡ suc (n - (i + 1)) = omega arith in
    grind (arith, common_steps)
