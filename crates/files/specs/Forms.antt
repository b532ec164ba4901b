-- Well-formed files: sections one after the other, each a count and then so many good records, and nothing left over.
use Rattle.std.specs.Prelude.{◌≡◌, ℕ, zero, suc, ◌+◌, ◌*◌, true, List, [], ◌∷◌, ◌++◌, length, None}
use Rattle.files.specs.declared.section.Section.{Section}
use Rattle.files.specs.declared.section.Section.TheVariants.{Pile}
use Rattle.files.specs.Faults.{after_pile}
use Rattle.files.specs.Sections.{bytes_each, allowed, wrong_in}

-- the bytes are n records of a section, with nothing wrong in any of them
abbrev pub RecordsOf : Section → ℕ → List ℕ → Type 0
RecordsOf k zero xs = xs ≡ []
RecordsOf k (suc n) xs =
    (one : List ℕ) × (others : List ℕ) × (xs ≡ one ++ others) × (length one ≡ bytes_each k) × (wrong_in k one ≡ None) × RecordsOf k n others

-- the bytes are a section, a count and then the records of the body, and what is behind it
abbrev pub SectionOf : Section → List ℕ → List ℕ → List ℕ → Type 0
SectionOf k body behind xs =
    (lo : ℕ) × (hi : ℕ) × (xs ≡ lo ∷ hi ∷ (body ++ behind)) × (allowed k (lo + 256 * hi) ≡ true) × RecordsOf k (lo + 256 * hi) body

-- the bytes are sections with these bodies, and no more
abbrev pub SectionsOf : List Section → List (List ℕ) → List ℕ → Type 0
SectionsOf [] [] xs = xs ≡ []
SectionsOf [] (body ∷ bodies) xs = ⊥
SectionsOf (k ∷ ks) [] xs = ⊥
SectionsOf (k ∷ ks) (body ∷ bodies) xs = (others : List ℕ) × SectionOf k body others xs × SectionsOf ks bodies others

-- what a session file holds: the pile's number and limits, and the bytes of the other sections
pub record Contents : Type 0 where
  pub pile_number : ℕ
  pub burst : ℕ
  pub pending : ℕ
  pub adapter_bytes : List ℕ
  pub wait_bytes : List ℕ
  pub gap_bytes : List ℕ
  pub memory_bytes : List ℕ
  pub command_bytes : List ℕ

-- a well-formed session file that holds this
abbrev pub WellFormed : List ℕ → Contents → Type 0
WellFormed xs s =
    SectionsOf (Pile ∷ after_pile s.pile_number)
    ((s.pile_number ∷ s.burst ∷ s.pending ∷ []) ∷ s.adapter_bytes ∷ s.wait_bytes ∷ s.gap_bytes ∷ s.memory_bytes ∷ s.command_bytes ∷ [])
    xs
