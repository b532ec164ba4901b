-- Laws of the items of a queue that go round its storage.
use Rattle.std.proofs.Common.{◌≡◌, ℕ, zero, suc, ◌+◌, ◌-◌, ◌<◌, ◌≤◌, Bool, true, false, cond, ltb, List, [], ◌∷◌, ◌++◌, length, get_or, take, drop, set, refl, ap, ◌∙◌, append_assoc, arith, length-append, length-drop, length-set, length-take-le, take_all, get_or-set_same, ltb-false, ltb-true}
use lib.Seq.{take-set-lt, take-set-le, take-append-le}
use Rattle.std.proofs.lemmas.List.{drop-set-add, drop-set-lt, set-append_left, set-append_right, take_more_set, drop_more, take_more, drop_all, append-nil}
use Rattle.agents.specs.Items.{around, start_of, end_of, with_first}

put_low : {X : Type 0} (s : List X) (h n : ℕ) (x : X) → h ≤ length s → n < length s - h → around (set s (h + n) x) h (n + 1) ≡ around s h n ++ (x ∷ [])
unfolding around
put_low s h n x le lt =
    let a = drop-set-add h s n x in
    let b = take-set-le h s (h + n) x (omega arith) in
    let l : n < length (drop h s) = omega (arith, length-drop h s) in
    let e = set-append_left (drop h s) (take h s) n x l in
    let m : n < length (drop h s ++ take h s) = omega (arith, length-append (drop h s) (take h s)) in
    let t = take_more_set (drop h s ++ take h s) n x m in
    cc

put_high : {X : Type 0} (s : List X) (h n : ℕ) (x : X) → h ≤ length s → length s - h ≤ n → n < length s → around (set s (n - (length s - h)) x) h (n + 1) ≡ around s h n ++ (x ∷ [])
unfolding around
put_high s h n x le ge lt =
    let k : n - (length s - h) < h = omega arith in
    let a = drop-set-lt h s (n - (length s - h)) x k in
    let b = take-set-lt h s (n - (length s - h)) x k in
    let d = length-drop h s in
    let e = set-append_right (drop h s) (take h s) (length s - h) n x d ge in
    let m : n < length (drop h s ++ take h s) = omega (arith, length-append (drop h s) (take h s), length-drop h s, length-take-le h s le) in
    let t = take_more_set (drop h s ++ take h s) n x m in
    cc

at_end : {X : Type 0} (s : List X) (h n : ℕ) (x : X) → h ≤ length s → n < length s → around (set s (end_of (length s) h n) x) h (n + 1) ≡ around s h n ++ (x ∷ [])
at_end s h n x le lt =
    (λ (b : Bool) (e : ltb n (length s - h) ≡ b).
    elim b as (λ v. ltb n (length s - h) ≡ v → around (set s (cond v (h + n) (n - (length s - h))) x) h (n + 1) ≡ around s h n ++ (x ∷ [])) [
      | true ↦ λ t. put_low s h n x le (ltb-true _ _ t)
      | false ↦ λ f. put_high s h n x le (ltb-false _ _ f) lt
    ] e)
    (ltb n (length s - h)) refl

pub put_end : {X : Type 0} (s : List X) (h n p : ℕ) (x : X) → p ≡ end_of (length s) h n → h ≤ length s → n < length s → around (set s p x) h (n + 1) ≡ around s h n ++ (x ∷ [])
put_end s h n p x e le lt = rw e (at_end s h n x le lt)

pub end_below : (size h n : ℕ) → h ≤ size → n < size → end_of size h n < size
end_below size h n le lt = grind arith

wrap : {X : Type 0} (s : List X) (h n : ℕ) → h ≡ length s → around s h n ≡ around s 0 n
unfolding around
wrap s h n e =
    let a = drop_all h s (omega arith) in
    let b = take_all h s (omega arith) in
    let d = append-nil s in
    cc

step : {X : Type 0} (y : X) (ys : List X) (n : ℕ) → 0 < n → take n (y ∷ ys) ≡ y ∷ take (n - 1) ys
step y ys zero pos = absurd (omega arith)
step y ys (suc m) pos =
    let e : m ≡ suc m - 1 = omega arith in
    ap (λ k. y ∷ take k ys) e

take_first : {X : Type 0} (s : List X) (h n : ℕ) (d : X) → h < length s → 0 < n → n ≤ length s → around s h n ≡ get_or s h d ∷ around s (h + 1) (n - 1)
unfolding around
take_first s h n d lt pos fits =
    let a = drop_more s h d lt in
    let b = take_more s h d lt in
    let asc = append_assoc (drop (h + 1) s) (take h s) (get_or s h d ∷ []) in
    let le : n - 1 ≤ length (drop (h + 1) s ++ take h s) = omega (arith, length-append (drop (h + 1) s) (take h s), length-drop (h + 1) s, length-take-le h s (omega arith)) in
    let t = take-append-le (n - 1) (drop (h + 1) s ++ take h s) (get_or s h d ∷ []) le in
    let one = step (get_or s h d) (drop (h + 1) s ++ take h s) n pos in
    cc

pub start_below : (size h : ℕ) → 0 < size → start_of size h < size
start_below size h pos = grind arith

pub take_start : {X : Type 0} (s : List X) (h n : ℕ) (d : X) → h ≤ length s → 0 < n → n ≤ length s → around s h n ≡ get_or s (start_of (length s) h) d ∷ around s (start_of (length s) h + 1) (n - 1)
take_start s h n d le pos fits =
    (λ (b : Bool) (e : ltb h (length s) ≡ b).
    elim b as (λ v. ltb h (length s) ≡ v → around s h n ≡ get_or s (cond v h 0) d ∷ around s (cond v h 0 + 1) (n - 1)) [
      | true ↦ λ t. take_first s h n d (ltb-true _ _ t) pos fits
      | false ↦ λ f. let z : length s ≤ h = ltb-false _ _ f in wrap s h n (omega arith) ∙ take_first s 0 n d (omega arith) pos fits
    ] e)
    (ltb h (length s)) refl

-- the items after the first do not change with it
after_set : {X : Type 0} (s : List X) (p n : ℕ) (x : X) → p < length s → n < length s → around (set s p x) (p + 1) n ≡ around s (p + 1) n
unfolding around
after_set s p n x lt few =
    let a = drop-set-lt (p + 1) s p x (omega arith) in
    let b = take_more_set s p x lt in
    let e = take_more s p x lt in
    let asc = append_assoc (drop (p + 1) s) (take p s) (x ∷ []) in
    let bsc = append_assoc (drop (p + 1) s) (take p s) (get_or s p x ∷ []) in
    let le : n ≤ length (drop (p + 1) s ++ take p s) = omega (arith, length-append (drop (p + 1) s) (take p s), length-drop (p + 1) s, length-take-le p s (omega arith)) in
    let t = take-append-le n (drop (p + 1) s ++ take p s) (x ∷ []) le in
    let u = take-append-le n (drop (p + 1) s ++ take p s) (get_or s p x ∷ []) le in
    cc

pub set_start : {X : Type 0} (s : List X) (h n p : ℕ) (x : X) → p ≡ start_of (length s) h → h ≤ length s → 0 < n → n ≤ length s → around (set s p x) h n ≡ with_first x (around s h n)
set_start s h n p x here le pos fits =
    let lt : p < length s = omega (arith, start_below (length s) h (omega arith)) in
    let l = length-set s p x in
    let e : around (set s p x) h n ≡ get_or (set s p x) (start_of (length (set s p x)) h) x ∷ around (set s p x) (start_of (length (set s p x)) h + 1) (n - 1) =
    take_start (set s p x) h n x (omega arith) pos (omega arith) in
    let f = after_set s p (n - 1) x lt (omega arith) in
    let k = get_or-set_same s p x x lt in
    let o = take_start s h n x le pos fits in
    let w = ap (with_first x) o in
    cc

pub length_around : {X : Type 0} (s : List X) (h n : ℕ) → h ≤ length s → n ≤ length s → length (around s h n) ≡ n
unfolding around
length_around s h n le fits =
    length-take-le n (drop h s ++ take h s)
    (omega (arith, length-append (drop h s) (take h s), length-drop h s, length-take-le h s le))

pub around_none : {X : Type 0} (s : List X) (h : ℕ) → around s h 0 ≡ []
unfolding around
around_none s h = refl
