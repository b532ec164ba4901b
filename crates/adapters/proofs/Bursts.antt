-- The read bursts that an adapter owes.
use Rattle.std.proofs.Common.{◌≡◌, ◌+◌, ◌-◌, true, false, cond, ltb, List, [], ◌∷◌, refl}
use Rattle.adapters.specs.Owed.{lefts, one_gone}
use Rattle.adapters.specs.declared.owed.OwedBurst.{OwedBurst}
use Rattle.port.specs.Machine.{one_came}

-- the bursts owed, in the machine's words
pub lefts_gone : (bs : List OwedBurst) → lefts (one_gone bs) ≡ one_came (lefts bs)
lefts_gone [] = refl
lefts_gone (b ∷ bs) =
    elim (ltb 1 b.left) as (λ t. lefts (cond t (record { next = record { 0 = b.next.0 + 1 }; left = b.left - 1 } ∷ bs) bs) ≡ cond t ((b.left - 1) ∷ lefts bs) (lefts bs)) [
      | true ↦ refl
      | false ↦ refl
    ]
