-- The numbers of sections without a fault are in their ranges.
use Rattle.std.proofs.lemmas.Grind.{common_steps}
use Rattle.std.proofs.Common.{◌≡◌, ℕ, zero, suc, ◌+◌, ◌*◌, ◌%◌, ◌<◌, ◌≤◌, true, ◌&&◌, eqb, leb, List, length, get_or, Some, None, Option, sym, refl, subst, suc-mul, zero-mul, arith, Bor, rules}
use Rattle.files.specs.declared.records.PileFields.{PileFields}
use Rattle.files.specs.declared.records.Records.{Records}
use Rattle.files.specs.declared.section.Section.{Section}
use Rattle.files.specs.declared.section.Section.TheVariants.{Pile, Commands}
use Rattle.files.specs.Bytes.{bytes_at}
use Rattle.files.specs.Faults.{count_at, records_fault}
use Rattle.files.specs.Fields.{pile_in}
use Rattle.files.specs.Parts.{Passed}
use Rattle.files.specs.Sections.{allowed, same_number, from_to, bytes_each, command_wrong, pile_wrong, unless_pile, wrong_in}
use Rattle.files.proofs.Grammar.{both_none, count_sound, record_sound}

-- the count of a section that was read is one that it allows
pub count_allowed : {k : Section} {whole : Bor (List ℕ)} {from to : ℕ} {r : Records} → Passed k whole from r to → allowed k r.count ≡ true
count_allowed {k = k} {whole = whole} {from = from} p = search (rules, count_sound, both_none)

-- nothing is wrong with any record of records without a fault
each_good : (k : Section) (xs : List ℕ) (from b n i : ℕ) → records_fault k xs from b n ≡ None → i < n
    → wrong_in k (bytes_at xs (from + i * bytes_each k) (bytes_each k)) ≡ None
each_good k xs from b zero i e h = absurd (omega arith)
each_good k xs from b (suc n) zero e h =
    let z : from ≡ from + zero * bytes_each k = omega (arith, zero-mul (bytes_each k)) in
    rw (← z) (record_sound k xs from b (both_none _ _ e).0).1
each_good k xs from b (suc n) (suc i) e h =
    let z : from + bytes_each k + i * bytes_each k ≡ from + suc i * bytes_each k = omega (arith, suc-mul i (bytes_each k)) in
    rw (← z) (each_good k xs (from + bytes_each k) (b + 1) n i (both_none _ _ e).1 (omega arith))

-- nothing is wrong with any record of a section that was read
pub record_good : {k : Section} {whole : Bor (List ℕ)} {from to : ℕ} {r : Records} (i : ℕ) → Passed k whole from r to → i < r.count
    → wrong_in k (bytes_at whole.now (from + 2 + i * bytes_each k) (bytes_each k)) ≡ None
record_good {k = k} {whole = whole} {from = from} {r = r} i p h =
    each_good k whole.now (from + 2) 1 (count_at whole.now from) i (both_none _ _ p.faultless).1 (omega (arith, p.counted))

pub script_range : (n l : ℕ) → from_to 1 256 n ≡ true → l ≡ n * 1 → (1 ≤ l) × (l ≤ 256)
script_range n l e h = search rules

pub memory_range : (n l : ℕ) → (from_to 8 32768 n && eqb (n % 8) 0) ≡ true → l ≡ n * 1 → (8 ≤ l) × (l ≤ 32768) × (l % 8 ≡ 0)
memory_range n l e h = search rules

pub adapters_range : (o : Option ℕ) (n l : ℕ) → same_number o n ≡ true → l ≡ n * 2 → (m : ℕ) × (o ≡ Some m) × (l ≡ m * 2)
adapters_range (Some m) n l e h = (m, refl, search rules)
adapters_range None n l e h = search rules

pub fields_range : (xs : List ℕ) (p : PileFields) → pile_wrong xs ≡ None → Some p ≡ pile_in xs
    → (1 ≤ p.burst_limit) × (p.burst_limit ≤ 64) × (1 ≤ p.pending_limit) × (p.pending_limit ≤ 16)
fields_range xs p e f =
    let g : unless_pile (Some p) ≡ None = subst (λ (o : Option PileFields). unless_pile o ≡ None) (sym f) e in
    search rules

pub commands_range : (n l : ℕ) → leb n 1024 ≡ true → l ≡ n * 16 → (l ≤ 16384) × (l % 16 ≡ 0)
commands_range n l e h = search rules

flags_range : (xs : List ℕ) → command_wrong xs ≡ None → get_or xs 0 0 ≤ 3
flags_range xs e = search rules

pub command_flags : {whole : Bor (List ℕ)} {from to : ℕ} {r : Records} → Passed Commands whole from r to
    → (i : ℕ) → 16 * i < length r.stretch.bytes.now → get_or r.stretch.bytes.now (16 * i) 0 ≤ 3
command_flags {whole = whole} {from = from} {r = r} p i h =
    let long = p.records_part.long in
    let holds = p.records_part.holds in
    let good = flags_range (bytes_at whole.now (from + 2 + i * 16) 16) (record_good i p (omega arith)) in
    grind (arith, common_steps)

pub pile_good : {whole : Bor (List ℕ)} {from to : ℕ} {r : Records} → Passed Pile whole from r to → length r.stretch.bytes.now ≡ 3
    → pile_wrong r.stretch.bytes.now ≡ None
pile_good {whole = whole} {from = from} {r = r} p h =
    let long = p.records_part.long in
    let good = record_good 0 p (omega arith) in
    grind (arith, common_steps)
