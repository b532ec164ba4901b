-- Parts of a file that are handed out: the very bytes of the file, and no copy.
use Rattle.std.specs.Prelude.{◌≡◌, ℕ, ◌+◌, ◌*◌, ◌^◌, ◌<◌, ◌≤◌, List, length, None}
use Rattle.std.specs.Borrow.{Bor}
use Rattle.files.specs.declared.records.Stretch.{Stretch}
use Rattle.files.specs.declared.records.Records.{Records}
use Rattle.files.specs.declared.section.Section.{Section}
use Rattle.files.specs.Bytes.{bytes_at}
use Rattle.files.specs.Faults.{behind, count_at, section_fault}
use Rattle.files.specs.Sections.{bytes_each}

-- a stretch is the n bytes at a place of the file, in the file's own memory
pub record Part (whole : Bor (List ℕ)) (from n : ℕ) (s : Stretch) : Type 0 where
  pub holds : s.bytes.now ≡ bytes_at whole.now from n
  pub long : length s.bytes.now ≡ n
  pub placed : s.place ≡ from
  pub inside : from + n ≤ length whole.now
  pub block : s.bytes.ref_ptr.0 ≡ whole.ref_ptr.0
  pub offset : s.bytes.ref_ptr.1 ≡ whole.ref_ptr.1 + from

-- a stretch is n bytes of another one, at a place of that
pub record Piece (of : Stretch) (from n : ℕ) (s : Stretch) : Type 0 where
  pub holds : s.bytes.now ≡ bytes_at of.bytes.now from n
  pub long : length s.bytes.now ≡ n
  pub placed : of.place + from < 2 ^ 64 → s.place ≡ of.place + from
  pub inside : from + n ≤ length of.bytes.now
  pub block : s.bytes.ref_ptr.0 ≡ of.bytes.ref_ptr.0
  pub offset : s.bytes.ref_ptr.1 ≡ of.bytes.ref_ptr.1 + from

-- a section without a fault was read from a place on: its count, the part that its records are, and the place behind it
pub record Passed (k : Section) (whole : Bor (List ℕ)) (from : ℕ) (r : Records) (to : ℕ) : Type 0 where
  pub faultless : section_fault k whole.now from ≡ None
  pub counted : r.count ≡ count_at whole.now from
  pub records_part : Part whole (from + 2) (r.count * bytes_each k) r.stretch
  pub ends : to ≡ behind k whole.now from
