-- The words that an adapter owes its host, from the words owed to it below.
use Rattle.std.specs.Prelude.{ℕ, zero, suc, ◌+◌, ◌-◌, ◌*◌, ◌/◌, ◌%◌, ◌^◌, Bool, cond, List, [], ◌∷◌, ◌++◌, map, drop, Some, None, Option, nat_lt}
use Rattle.adapters.specs.Cuts.{lanes_up}
use Rattle.adapters.specs.declared.cut.Cut.{Cut}
use Rattle.adapters.specs.declared.owed.Collected.{Collected}
use Rattle.adapters.specs.declared.owed.OwedBurst.{OwedBurst}
use Rattle.adapters.specs.declared.owed.OwedBursts.{OwedBursts}

-- Read bursts ---------------------------------------------------------------------

-- the read bursts owed, the oldest first
abbrev pub bursts_in : OwedBursts → List OwedBurst
bursts_in q = q.bursts.items

-- how many words are left of each
abbrev pub lefts : List OwedBurst → List ℕ
lefts bs = map (λ b. b.left) bs

-- one word of the oldest burst has come
abbrev pub one_gone : List OwedBurst → List OwedBurst
one_gone [] = []
one_gone (b ∷ bs) = cond (nat_lt 1 b.left) (record { next = record { 0 = b.next.0 + 1 }; left = b.left - 1 } ∷ bs) bs

-- the host word that comes next; 0 where none is owed
abbrev pub next_owed : List OwedBurst → ℕ
next_owed [] = 0
next_owed (b ∷ bs) = b.next.0

-- n host words from h on
unfoldable pub counted : ℕ → ℕ → List ℕ
counted h zero = []
counted h (suc n) = h ∷ counted (h + 1) n

-- the host words owed, by their offsets
unfoldable pub offsets_in : List OwedBurst → List ℕ
offsets_in [] = []
offsets_in (b ∷ bs) = counted b.next.0 b.left ++ offsets_in bs

abbrev pub first_offset : List ℕ → ℕ
first_offset [] = 0
first_offset (h ∷ hs) = h

-- Words -----------------------------------------------------------------------------

-- the parts that have come, with one part more: the first part has the lowest lanes
abbrev pub value_with : Cut → Collected → ℕ → ℕ
value_with c g x = g.value + x * 2 ^ (8 * (c.width * g.count))

-- does the host word have more parts after the one that comes now?
abbrev pub more_to_come : Cut → Collected → Bool
more_to_come c g = nat_lt (g.count + 1) c.parts

-- what is collected after a part has come
abbrev pub collected_with : Cut → Collected → ℕ → Collected
collected_with c g x = cond (more_to_come c g) (record { value = value_with c g x; count = g.count + 1 }) (record { value = 0; count = 0 })

-- the joined parts, where the last one has come
abbrev pub whole_with : Cut → Collected → ℕ → Option ℕ
whole_with c g x = cond (more_to_come c g) None (Some (value_with c g x))

-- the host word at h, of v bytes, in the joined words below
abbrev pub lanes_of : Cut → ℕ → ℕ → ℕ → ℕ
lanes_of c v h joined = joined / 2 ^ (8 * lanes_up c v h) % 2 ^ (8 * v)

-- the host words, at these offsets, of the parts that have come and of the words still owed below
unfoldable pub host_words : Cut → ℕ → List ℕ → Collected → List ℕ → List ℕ
host_words c v hs g [] = []
host_words c v hs g (x ∷ xs) =
    cond (more_to_come c g)
    (host_words c v hs (collected_with c g x) xs)
    (lanes_of c v (first_offset hs) (value_with c g x) ∷ host_words c v (drop 1 hs) (collected_with c g x) xs)

-- the host word that a word from below makes whole
abbrev pub word_up : Cut → ℕ → ℕ → Collected → Option ℕ → Option ℕ
word_up c v h g None = None
word_up c v h g (Some x) = cond (more_to_come c g) None (Some (lanes_of c v h (value_with c g x)))

abbrev pub collected_after : Cut → Collected → Option ℕ → Collected
collected_after c g None = g
collected_after c g (Some x) = collected_with c g x
