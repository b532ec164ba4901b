-- The way of a reader through a session file, section by section.
use Rattle.std.proofs.lemmas.Grind.{common_steps}
use Rattle.std.proofs.Common.{◌≡◌, ℕ, ◌+◌, ◌<◌, List, [], ◌∷◌, length, get_or, drop, Some, None, sym, refl, ap, ◌∙◌, subst, arith, Bor, rules}
use Rattle.std.proofs.lemmas.List.{drop_all}
use Rattle.files.specs.declared.faults.Fault.{Fault}
use Rattle.files.specs.declared.faults.FileFault.TheVariants.{Broken}
use Rattle.files.specs.declared.records.PileFields.{PileFields}
use Rattle.files.specs.declared.records.Records.{Records}
use Rattle.files.specs.declared.section.Section.{Section}
use Rattle.files.specs.declared.section.Section.TheVariants.{Pile, Adapters, Waits, Gaps, Memory, Commands}
use Rattle.files.specs.Faults.{count_at, section_fault, sections_fault, rest_fault, after_pile, first_fault, fault_at, behind}
use Rattle.files.specs.Forms.{SectionsOf}
use Rattle.files.specs.Parts.{Passed}
use Rattle.files.specs.Fields.{pile_in}
use Rattle.files.specs.Sections.{adapters_in}
use Rattle.files.specs.Sessions.{Accepted, Lies, Rejected, past_count}
use Rattle.files.proofs.Ranges.{adapters_range, command_flags, commands_range, count_allowed, fields_range, memory_range, pile_good, script_range}
use Rattle.files.proofs.Grammar.{section_sound, sections_complete}

-- a reader has come to a section, and whatever fault the file has is from there on
pub record Reached (whole : Bor (List ℕ)) (k : Section) (js : List Section) (w : Bor (List ℕ)) (from : ℕ) : Type 0 where
  pub same : w ≡ whole
  pub left : first_fault whole.now ≡ sections_fault k js whole.now from

pub start : (whole w : Bor (List ℕ)) (from : ℕ) → w ≡ whole → from ≡ 0
    → Reached whole Pile (after_pile (get_or whole.now 2 0)) w from
start whole w from e z = record { same = e; left = rw z }

sections_go : (k j : Section) (js : List Section) (xs : List ℕ) (from : ℕ) → section_fault k xs from ≡ None
    → sections_fault k (j ∷ js) xs from ≡ sections_fault j js xs (behind k xs from)
unfolding sections_fault
sections_go k j js xs from e = rw e

sections_end : (k : Section) (xs : List ℕ) (from : ℕ) → section_fault k xs from ≡ None
    → sections_fault k [] xs from ≡ rest_fault k xs from
unfolding sections_fault
sections_end k xs from e = rw e

sections_stop : (k : Section) (js : List Section) (xs : List ℕ) (from : ℕ) (f : Fault) → section_fault k xs from ≡ Some f
    → sections_fault k js xs from ≡ Some f
unfolding sections_fault
sections_stop k [] xs from f e = rw e
sections_stop k (j ∷ js) xs from f e = rw e

-- a section of another reference to the same file
pub passed_in : {k : Section} {whole w : Bor (List ℕ)} {from to : ℕ} {r : Records} → w ≡ whole → Passed k w from r to → Passed k whole from r to
passed_in e p = rw (← e) p

-- past a section without a fault
pub go : {whole w v : Bor (List ℕ)} {k j : Section} {js : List Section} {from to : ℕ} {r : Records}
    → Reached whole k (j ∷ js) w from → Passed k w from r to → v ≡ w → Reached whole j js v to
go {whole = whole} {k = k} {j = j} {js = js} {from = from} {to = to} a p e =
    let q = passed_in a.same p in
    record {
      same = e ∙ a.same;
      left = a.left ∙ sections_go k j js whole.now from q.faultless ∙ ap (λ (m : ℕ). sections_fault j js whole.now m) (sym q.ends);
    }

-- a file with a fault is not well formed
refused : (whole : Bor (List ℕ)) (f : Fault) → first_fault whole.now ≡ Some f → Rejected whole f
refused whole f e = record {
  first = e;
  malformed = λ s g.
      let bodies : List (List ℕ) =
      (s.pile_number ∷ s.burst ∷ s.pending ∷ []) ∷ s.adapter_bytes ∷ s.wait_bytes ∷ s.gap_bytes ∷ s.memory_bytes ∷ s.command_bytes ∷ [] in
      let p : s.pile_number ≡ get_or whole.now 2 0 = sym (ap (λ (ys : List ℕ). get_or ys 2 0) g.1.2) in
      let h = sections_complete Pile (after_pile (get_or whole.now 2 0)) bodies whole.now 0
      (subst (λ (n : ℕ). SectionsOf (Pile ∷ after_pile n) bodies whole.now) p g) in
      cc;
}

-- a section with a fault
pub stop : {whole w : Bor (List ℕ)} {k : Section} {js : List Section} {from : ℕ} {f : Fault}
    → Reached whole k js w from → section_fault k w.now from ≡ Some f → Rejected whole f
stop {whole = whole} {k = k} {js = js} {from = from} {f = f} a e =
    refused whole f (a.left ∙ sections_stop k js whole.now from f (rw (← a.same) e))

-- the fields of a pile's record are its bytes
fields_are : (xs : List ℕ) (p : PileFields) → pile_in xs ≡ Some p → (length xs ≡ 3) × (p.pile ≡ get_or xs 0 0) × (p.burst_limit ≡ get_or xs 1 0) × (p.pending_limit ≡ get_or xs 2 0)
fields_are xs p e = search rules

-- the pile's number is the file's byte 2
pile_is : {whole : Bor (List ℕ)} {from to : ℕ} {r : Records} (p : PileFields) → Passed Pile whole from r to → from ≡ 0
    → Some p ≡ pile_in r.stretch.bytes.now → p.pile ≡ get_or whole.now 2 0
pile_is {whole = whole} {from = from} {r = r} p s z e =
    let f = fields_are r.stretch.bytes.now p (sym e) in
    let holds = s.records_part.holds in
    let long = s.records_part.long in
    grind (arith, common_steps)

-- past the pile's section, with its number
pub go_pile : {whole w v : Bor (List ℕ)} {from to : ℕ} {r : Records} {q : PileFields} → (w ≡ whole) × (from ≡ 0)
    → Passed Pile w from r to → v ≡ w → Some q ≡ pile_in r.stretch.bytes.now
    → Reached whole (Adapters q.pile) (Waits ∷ Gaps ∷ Memory ∷ Commands ∷ []) v to
go_pile {whole = whole} {w = w} {v = v} {from = from} {to = to} {q = q} (e, z) s f t =
    subst (λ (n : ℕ). Reached whole (Adapters n) (Waits ∷ Gaps ∷ Memory ∷ Commands ∷ []) v to) (sym (pile_is q (passed_in e s) z t)) (go (start whole w from e z) s f)

left_over : (k : Section) (xs : List ℕ) (from to n : ℕ) (f : Fault) → to ≡ behind k xs from → n ≡ count_at xs from → to < length xs
    → f ≡ fault_at k n to Broken → rest_fault k xs from ≡ Some f
left_over k xs from to n f e c l g = search rules

no_rest : (k : Section) (xs : List ℕ) (from to : ℕ) → to ≡ behind k xs from → to ≡ length xs → rest_fault k xs from ≡ None
no_rest k xs from to e l = search rules

-- behind the last section there are bytes left over
pub over : {whole w v : Bor (List ℕ)} {k : Section} {from to : ℕ} {r : Records} {f : Fault}
    → Reached whole k [] w from → Passed k w from r to → v ≡ w
    → (to < length v.now) × (f ≡ fault_at k r.count to Broken) → Rejected whole f
over {whole = whole} {w = w} {v = v} {k = k} {from = from} {to = to} {r = r} {f = f} a p e l =
    let q = passed_in a.same p in
    let d : v.now ≡ whole.now = ap (λ x. x.now) (e ∙ a.same) in
    let n : to < length whole.now = rw d at l.0 in
    let o : rest_fault k whole.now from ≡ Some f = left_over k whole.now from to r.count f q.ends q.counted n l.1 in
    refused whole f (a.left ∙ sections_end k whole.now from q.faultless ∙ o)

-- behind the last section there is nothing
pub ended : {whole w v : Bor (List ℕ)} {k : Section} {from to : ℕ} {r : Records}
    → Reached whole k [] w from → Passed k w from r to → v ≡ w → to ≡ length v.now
    → (first_fault whole.now ≡ None) × (to ≡ length whole.now)
ended {whole = whole} {w = w} {v = v} {k = k} {from = from} {to = to} {r = r} a p e l =
    let q = passed_in a.same p in
    let d : v.now ≡ whole.now = ap (λ x. x.now) (e ∙ a.same) in
    let n : to ≡ length whole.now = l ∙ ap length d in
    (a.left ∙ sections_end k whole.now from q.faultless ∙ no_rest k whole.now from to q.ends n, n)

-- a section that was read stands first in what is left of the file
section_first : {k : Section} {whole : Bor (List ℕ)} {from to : ℕ} {r : Records} (ks : List Section) (body : List ℕ) (bodies : List (List ℕ))
    → Passed k whole from r to → body ≡ r.stretch.bytes.now → SectionsOf ks bodies (drop to whole.now)
    → SectionsOf (k ∷ ks) (body ∷ bodies) (drop from whole.now)
section_first {k = k} {whole = whole} {from = from} {to = to} {r = r} ks body bodies p e s = (
  drop (behind k whole.now from) whole.now,
  section_sound k whole.now body from p.faultless (rw (e, p.records_part.holds, p.counted)),
  rw (← p.ends) s,
)

lies_at : {k : Section} {whole : Bor (List ℕ)} {from to : ℕ} {r : Records} (m : ℕ) → Passed k whole from r to → from + 2 ≡ m
    → Lies whole m r.stretch
lies_at {whole = whole} {from = from} {r = r} m p e = rw (← e, p.records_part.long) p.records_part

ends_at : {k : Section} {whole : Bor (List ℕ)} {from to : ℕ} {r : Records} → Passed k whole from r to
    → to ≡ r.stretch.place + length r.stretch.bytes.now
ends_at {k = k} {whole = whole} {from = from} {to = to} {r = r} p = grind (arith, p.ends, p.counted, p.records_part.placed, p.records_part.long)

three : (xs : List ℕ) → length xs ≡ 3 → get_or xs 0 0 ∷ get_or xs 1 0 ∷ get_or xs 2 0 ∷ [] ≡ xs
three xs e = grind (arith, common_steps)

fields_all : (xs : List ℕ) (p : PileFields) → pile_in xs ≡ Some p → p.pile ∷ p.burst_limit ∷ p.pending_limit ∷ [] ≡ xs
fields_all xs p e = search (rules, fields_are, three)

-- six sections that were read one behind the other, up to the end of the file, are a session
pub accepted : {whole : Bor (List ℕ)} {p0 p1 p2 p3 p4 p5 p6 : ℕ} {r1 r2 r3 r4 r5 r6 : Records} (q : PileFields)
    → p0 ≡ 0 → Passed Pile whole p0 r1 p1 → Some q ≡ pile_in r1.stretch.bytes.now
    → Passed (Adapters q.pile) whole p1 r2 p2 → Passed Waits whole p2 r3 p3 → Passed Gaps whole p3 r4 p4
    → Passed Memory whole p4 r5 p5 → Passed Commands whole p5 r6 p6 → p6 ≡ length whole.now → first_fault whole.now ≡ None
    → Accepted whole record
    { pile = q; adapters = r2.stretch; waits = r3.stretch; gaps = r4.stretch; memory = r5.stretch; commands = r6.stretch }
accepted {whole = whole} {p0 = p0} {p1 = p1} {p2 = p2} {p3 = p3} {p4 = p4} {p5 = p5} {p6 = p6} {r1 = r1} {r2 = r2} {r3 = r3} {r4 = r4} {r5 = r5} {r6 = r6} q z a1 t a2 a3 a4 a5 a6 l n =
    let f = fields_are r1.stretch.bytes.now q (sym t) in
    let e1 = ends_at a1 in
    let e2 = ends_at a2 in
    let e3 = ends_at a3 in
    let e4 = ends_at a4 in
    let e5 = ends_at a5 in
    let g = a1.records_part.placed in
    let g0 = f.0 in
    let b1 = q.pile ∷ q.burst_limit ∷ q.pending_limit ∷ [] in
    let b2 = r2.stretch.bytes.now in
    let b3 = r3.stretch.bytes.now in
    let b4 = r4.stretch.bytes.now in
    let b5 = r5.stretch.bytes.now in
    let b6 = r6.stretch.bytes.now in
    let s6 = section_first [] b6 [] a6 refl (drop_all p6 whole.now (omega arith)) in
    let s5 = section_first (Commands ∷ []) b5 (b6 ∷ []) a5 refl s6 in
    let s4 = section_first (Memory ∷ Commands ∷ []) b4 (b5 ∷ b6 ∷ []) a4 refl s5 in
    let s3 = section_first (Gaps ∷ Memory ∷ Commands ∷ []) b3 (b4 ∷ b5 ∷ b6 ∷ []) a3 refl s4 in
    let s2 = section_first (Waits ∷ Gaps ∷ Memory ∷ Commands ∷ []) b2 (b3 ∷ b4 ∷ b5 ∷ b6 ∷ []) a2 refl s3 in
    let s1 = section_first (after_pile q.pile) b1 (b2 ∷ b3 ∷ b4 ∷ b5 ∷ b6 ∷ []) a1 (fields_all r1.stretch.bytes.now q (sym t)) s2 in
    let g1 = fields_range r1.stretch.bytes.now q (pile_good a1 f.0) t in
    let g2 = adapters_range (adapters_in q.pile) r2.count (length b2) (count_allowed a2) a2.records_part.long in
    let g3 = script_range r3.count (length b3) (count_allowed a3) a3.records_part.long in
    let g4 = script_range r4.count (length b4) (count_allowed a4) a4.records_part.long in
    let g5 = memory_range r5.count (length b5) (count_allowed a5) a5.records_part.long in
    let g6 = commands_range r6.count (length b6) (count_allowed a6) a6.records_part.long in
    record {
      faultless = n;
      formed = subst (λ (m : ℕ). SectionsOf (Pile ∷ after_pile q.pile) (b1 ∷ b2 ∷ b3 ∷ b4 ∷ b5 ∷ b6 ∷ []) (drop m whole.now)) z s1;
      in_place = record {
        adapters_lie = lies_at 7 a2 (omega arith);
        waits_lie = lies_at (past_count r2.stretch) a3 (omega arith);
        gaps_lie = lies_at (past_count r3.stretch) a4 (omega arith);
        memory_lies = lies_at (past_count r4.stretch) a5 (omega arith);
        commands_lie = lies_at (past_count r5.stretch) a6 (omega arith);
      };
      in_range = record {
        burst_low = g1.0;
        burst_high = g1.1;
        pending_low = g1.2;
        pending_high = g1.3;
        pile_known = g2;
        waits_low = g3.0;
        waits_high = g3.1;
        gaps_low = g4.0;
        gaps_high = g4.1;
        memory_low = g5.0;
        memory_high = g5.1;
        memory_whole = g5.2;
        commands_high = g6.0;
        commands_whole = g6.1;
        flags_named = command_flags a6;
      };
    }
