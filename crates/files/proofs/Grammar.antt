-- A file has no fault exactly when it is well formed.
use Rattle.std.proofs.lemmas.Grind.{common_steps}
use Rattle.std.proofs.Common.{◌≡◌, ℕ, zero, suc, ◌+◌, ◌-◌, ◌*◌, ◌<◌, ◌≤◌, true, List, [], ◌∷◌, ◌++◌, length, get_or, drop, Some, None, Option, sym, refl, ap, ◌∙◌, subst, suc-mul, zero-mul, arith, length-append, length-drop, take-add, rules}
use Rattle.std.proofs.lemmas.List.{drop-drop, take-append-drop, drop_at}
use Rattle.files.specs.declared.faults.Fault.{Fault}
use Rattle.files.specs.declared.faults.FileFault.{FileFault}
use Rattle.files.specs.declared.section.Section.{Section}
use Rattle.files.specs.Bytes.{bytes_at}
use Rattle.files.specs.Faults.{count_at, count_fault, record_fault, records_fault, section_fault, sections_fault, rest_fault, behind, or_else, found_at}
use Rattle.files.specs.Sections.{allowed, bytes_each, wrong_in}
use Rattle.files.specs.Forms.{RecordsOf, SectionOf, SectionsOf}

-- nothing is found where neither of two looks finds anything
pub both_none : (a b : Option Fault) → or_else a b ≡ None → (a ≡ None) × (b ≡ None)
both_none (Some f) b e = search rules
both_none None b e = (refl, e)

found_none : (k : Section) (b at : ℕ) (o : Option FileFault) → found_at k b at o ≡ None → o ≡ None
found_none k b at (Some f) e = search rules
found_none k b at None e = refl

pub record_sound : (k : Section) (xs : List ℕ) (from b : ℕ) → record_fault k xs from b ≡ None
    → (from + bytes_each k ≤ length xs) × (wrong_in k (bytes_at xs from (bytes_each k)) ≡ None)
record_sound k xs from b e = search (rules, found_none)

-- records without a fault are good records
pub records_sound : (k : Section) (xs : List ℕ) (from b n : ℕ) → records_fault k xs from b n ≡ None
    → RecordsOf k n (bytes_at xs from (n * bytes_each k))
records_sound k xs from b zero e = rw zero-mul
records_sound k xs from b (suc n) e =
    let h = both_none _ _ e in
    let g = record_sound k xs from b h.0 in
    let s : ℕ = bytes_each k in
    let more : suc n * s ≡ s + n * s = omega (arith, suc-mul n s) in
    let split : bytes_at xs from (suc n * s) ≡ bytes_at xs from s ++ bytes_at xs (from + s) (n * s) =
    rw (more, take-add s (n * s) (drop from xs), drop-drop s from xs) in (
      bytes_at xs from s,
      bytes_at xs (from + s) (n * s),
      split,
      grind (arith, common_steps),
      g.1,
      records_sound k xs (from + s) (b + 1) n h.1,
    )

-- a part that stands at a place
chunk : (xs one others : List ℕ) (from s : ℕ) → drop from xs ≡ one ++ others → length one ≡ s → 0 < s
    → (from + s ≤ length xs) × (bytes_at xs from s ≡ one) × (drop (from + s) xs ≡ others)
chunk xs one others from s d l h =
    let e : length xs - from ≡ length one + length others = sym (length-drop from xs) ∙ ap length d ∙ length-append one others in
    (omega arith, grind (arith, common_steps), sym (drop-drop s from xs) ∙ rw d (drop_at one others s l))

some_bytes : (k : Section) → 0 < bytes_each k
some_bytes k = grind arith

record_complete : (k : Section) (xs one : List ℕ) (from b : ℕ) → from + bytes_each k ≤ length xs → bytes_at xs from (bytes_each k) ≡ one
    → wrong_in k one ≡ None → record_fault k xs from b ≡ None
record_complete k xs one from b h e w = search rules

-- good records have no fault
pub records_complete : (k : Section) (xs : List ℕ) (from b n : ℕ) (body others : List ℕ) → drop from xs ≡ body ++ others → RecordsOf k n body
    → records_fault k xs from b n ≡ None
records_complete k xs from b zero body others d r = refl
records_complete k xs from b (suc n) body others d r =
    let s : ℕ = bytes_each k in
    let first : drop from xs ≡ r.0 ++ (r.1 ++ others) = grind (arith, common_steps) in
    let p = chunk xs r.0 (r.1 ++ others) from s first r.3 (some_bytes k) in
    let one = record_complete k xs r.0 from b p.0 p.1 r.4 in
    rw one (records_complete k xs (from + s) (b + 1) n r.1 others p.2 r.5)

pub count_sound : (k : Section) (xs : List ℕ) (from : ℕ) → count_fault k xs from ≡ None
    → (from + 2 ≤ length xs) × (allowed k (count_at xs from) ≡ true)
count_sound k xs from e = search rules

count_is : (xs : List ℕ) (from : ℕ) → count_at xs from ≡ get_or xs from 0 + 256 * get_or xs (from + 1) 0
count_is xs from = omega arith

-- the count and what comes behind it
count_first : (xs : List ℕ) (from : ℕ) → from + 2 ≤ length xs → drop from xs ≡ get_or xs from 0 ∷ get_or xs (from + 1) 0 ∷ drop (from + 2) xs
count_first xs from h = grind (arith, common_steps)

-- a section without a fault is a good section
pub section_sound : (k : Section) (xs body : List ℕ) (from : ℕ) → section_fault k xs from ≡ None
    → body ≡ bytes_at xs (from + 2) (count_at xs from * bytes_each k) → SectionOf k body (drop (behind k xs from) xs) (drop from xs)
section_sound k xs body from e s =
    let h = both_none _ _ e in
    let g = count_sound k xs from h.0 in
    let n = count_is xs from in
    let m : ℕ = count_at xs from * bytes_each k in
    let first = count_first xs from g.0 in
    let rest : drop (from + 2) xs ≡ body ++ drop (behind k xs from) xs =
    rw (s, ← drop-drop m (from + 2) xs) (sym (take-append-drop m (drop (from + 2) xs))) in
    let whole : drop from xs ≡ get_or xs from 0 ∷ get_or xs (from + 1) 0 ∷ (body ++ drop (behind k xs from) xs) = cc in (
      get_or xs from 0,
      get_or xs (from + 1) 0,
      whole,
      subst (λ (c : ℕ). allowed k c ≡ true) n g.1,
      subst (λ (c : ℕ). RecordsOf k c body) n (rw s (records_sound k xs (from + 2) 1 (count_at xs from) h.1)),
    )

records_length : (k : Section) (n : ℕ) (body : List ℕ) → RecordsOf k n body → length body ≡ n * bytes_each k
records_length k zero body e = grind (arith, common_steps)
records_length k (suc n) body r =
    let i = records_length k n r.1 r.5 in
    let l : length body ≡ length r.0 + length r.1 = ap length r.2 ∙ length-append r.0 r.1 in
    grind (arith, common_steps)

count_complete : (k : Section) (xs : List ℕ) (from : ℕ) → from + 2 ≤ length xs → allowed k (count_at xs from) ≡ true → count_fault k xs from ≡ None
count_complete k xs from h a = search rules

-- a good section has no fault, and ends where its last record does
pub section_complete : (k : Section) (xs body others : List ℕ) (from : ℕ) → SectionOf k body others (drop from xs)
    → (section_fault k xs from ≡ None) × (drop (behind k xs from) xs ≡ others)
section_complete k xs body others from s =
    let p = chunk xs (s.0 ∷ s.1 ∷ []) (body ++ others) from 2 s.2 refl (omega arith) in
    let low : get_or xs from 0 ≡ s.0 = grind (arith, common_steps) in
    let high : get_or xs (from + 1) 0 ≡ s.1 = grind (arith, common_steps) in
    let n : s.0 + 256 * s.1 ≡ count_at xs from = omega arith in
    let body_records = subst (λ (c : ℕ). RecordsOf k c body) n s.4 in
    let ok = count_complete k xs from p.0 (subst (λ (c : ℕ). allowed k c ≡ true) n s.3) in
    let good = records_complete k xs (from + 2) 1 (count_at xs from) body others p.2 body_records in
    let m : ℕ = count_at xs from * bytes_each k in
    (rw ok good, sym (drop-drop m (from + 2) xs) ∙ rw p.2 (drop_at body others m (records_length k (count_at xs from) body body_records)))

rest_complete : (k : Section) (xs : List ℕ) (from : ℕ) → drop (behind k xs from) xs ≡ [] → rest_fault k xs from ≡ None
rest_complete k xs from e =
    let l : length xs - behind k xs from ≡ 0 = sym (length-drop (behind k xs from) xs) ∙ ap length e in
    search rules

-- good sections with nothing left over have no fault
pub sections_complete : (k : Section) (js : List Section) (bodies : List (List ℕ)) (xs : List ℕ) (from : ℕ)
    → SectionsOf (k ∷ js) bodies (drop from xs) → sections_fault k js xs from ≡ None
unfolding sections_fault
sections_complete k js [] xs from s = absurd s
sections_complete k [] (body ∷ []) xs from s =
    let p = section_complete k xs body s.0 from s.1 in
    ap (λ (o : Option Fault). or_else o (rest_fault k xs from)) p.0 ∙ rest_complete k xs from (p.1 ∙ s.2)
sections_complete k [] (body ∷ (more ∷ bodies)) xs from s = absurd s.2
sections_complete k (j ∷ js) (body ∷ bodies) xs from s =
    let p = section_complete k xs body s.0 from s.1 in
    ap (λ (o : Option Fault). or_else o (sections_fault j js xs (behind k xs from))) p.0
    ∙ sections_complete j js bodies xs (behind k xs from) (subst (λ (ys : List ℕ). SectionsOf (j ∷ js) bodies ys) (sym p.1) s.2)
