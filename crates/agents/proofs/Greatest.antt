-- Laws of the greatest value of a list.
use Rattle.std.proofs.Common.{◌≡◌, ℕ, zero, suc, ◌≤◌, max, List, [], ◌∷◌, get_or, fold, unwrap_or, ◌∙◌, arith}
use Rattle.std.proofs.lemmas.List.Folds.{max_of_map}
use Rattle.std.proofs.lemmas.List.{map-id}
use Rattle.std.specs.List.{reduce}
use Rattle.std.specs.Ordering.{nat_cmp, max_by_ordering}
use Rattle.agents.specs.Scripts.{InPlace, greatest_of, listed, place_of, value_now}
use Rattle.agents.specs.declared.script.Script.{Script}

greatest_fold : (x : ℕ) (xs : List ℕ) → fold (λ a y. max a y) x xs ≡ max x (greatest_of xs)
greatest_fold x [] = omega arith
greatest_fold x (y ∷ ys) = let e = greatest_fold (max x y) ys in omega arith

-- the greatest by `max`, or 0 of none
pub greatest_max : (xs : List ℕ) → unwrap_or (reduce (λ p z. max_by_ordering (nat_cmp p z) p z) xs) 0 ≡ greatest_of xs
greatest_max xs =
    let e = rw (map-id xs) at (max_of_map (λ (x : ℕ). x) xs) in
    e ∙ (greatest_fold 0 xs ∙ omega arith)

-- every value is at most the greatest
pub at_most_greatest : (xs : List ℕ) (i : ℕ) → get_or xs i 0 ≤ greatest_of xs
at_most_greatest [] i = omega arith
at_most_greatest (x ∷ xs) zero = omega arith
at_most_greatest (x ∷ xs) (suc i) = let e = at_most_greatest xs i in omega arith

-- the value that counts now is at most the greatest
pub now_below : (s : Script) → InPlace s → value_now s ≤ greatest_of (listed s)
now_below s placed = at_most_greatest (listed s) (place_of s)
