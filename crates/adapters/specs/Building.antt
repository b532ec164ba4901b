-- Over which ports an adapter can be built, and the numbers that it then has.
use Rattle.std.specs.Prelude.{◌≡◌, ℕ, ◌*◌, ◌/◌, ◌≤◌, Bool, true, false, not, ◌&&◌, ◌||◌, ◌⊎◌, List, [], Some, None, Option, ◌==◌, nat_le, nat_lt}
use Rattle.adapters.specs.Adapters.{fixed_over, state_over}
use Rattle.adapters.specs.Kept.{silence_above, wait_above}
use Rattle.adapters.specs.Owed.{bursts_in}
use Rattle.adapters.specs.declared.adapter.Adapter.{Adapter}
use Rattle.adapters.specs.declared.adapter.Engine.{Engine}
use Rattle.adapters.specs.declared.cut.Cut.{Cut}
use Rattle.adapters.specs.Slots.{Empty}
use Rattle.port.specs.Legal.{tally}
use Rattle.port.specs.Machine.{broken, first_of}
use Rattle.port.specs.State.{State, reset}
use Rattle.port.specs.Widths.{Wide}
use Rattle.port.specs.declared.numbers.Numbers.{Numbers}
use Rattle.port.specs.declared.ports.Port as port
use Rattle.port.specs.declared.record.PortRecord.{PortRecord}
use Rattle.port.specs.declared.width.Width as width

-- n is from low to high
abbrev pub in_range : ℕ → ℕ → ℕ → Bool
in_range low high n = nat_le low n && nat_le n high

-- a narrower's k and a widener's f are 2, 4 or 8
abbrev pub is_factor : ℕ → Bool
is_factor k = k == 2 || (k == 4 || k == 8)

-- nothing of a kind
abbrev pub is_none : {X : Type 0} → Option X → Bool
is_none None = true
is_none (Some x) = false

-- nothing is open, held or owed
abbrev pub at_rest : PortRecord → Bool
at_rest r = is_none r.burst && (is_none r.held && r.words_owed == 0)

-- the numbers of an adapter with words of v bytes over a port with the numbers n: N' has the same bytes; k, B' and P' as given
abbrev pub numbers_above : ℕ → Numbers → ℕ → ℕ → ℕ → Numbers
numbers_above k n v b p =
    record {
      width = v;
      words = n.words * n.width / v;
      burst_limit = b;
      pending_limit = p;
      wait_bound = wait_above k n.wait_bound n.silence_bound b;
      silence_bound = silence_above k n.wait_bound n.silence_bound;
    }

-- 4: A' or L' would exceed 100,000,000
abbrev pub bound_rule : Numbers → Option ℕ
bound_rule n' = first_of (broken (nat_lt 100000000 n'.wait_bound) 4) (broken (nat_lt 100000000 n'.silence_bound) 4)

-- 3: something is open, held or owed below; then 4
abbrev pub over_rule : Numbers → PortRecord → Option ℕ
over_rule n' r = first_of (broken (not (at_rest r)) 3) (bound_rule n')

-- Narrower: k = v / w is 2, 4 or 8, and B' = B / k ----------------------------------------

abbrev pub narrow_parts : Numbers → ℕ → ℕ
narrow_parts n v = v / n.width

abbrev pub narrow_cut : Numbers → ℕ → Cut
narrow_cut n v = record { width = n.width; parts = narrow_parts n v; share = 1; most = n.burst_limit / narrow_parts n v }

abbrev pub narrow_numbers : Numbers → ℕ → ℕ → Numbers
narrow_numbers n v p = numbers_above (narrow_parts n v) n v (n.burst_limit / narrow_parts n v) p

abbrev pub narrow_fits : Numbers → ℕ → ℕ → Bool
narrow_fits n v p = is_factor (narrow_parts n v) && in_range 1 16 p

-- 2: a number is out of range, or the widths do not fit; 3: B is below k
abbrev pub narrow_rule : Numbers → ℕ → ℕ → Option ℕ
narrow_rule n v p = first_of (broken (not (narrow_fits n v p)) 2) (broken (nat_lt n.burst_limit (narrow_parts n v)) 3)

-- the number with which a narrower is refused: 2, 3 (B below k first), 4
abbrev pub narrow_refusal : Numbers → State → ℕ → ℕ → Option ℕ
narrow_refusal n σ v p = first_of (narrow_rule n v p) (over_rule (narrow_numbers n v p) (tally n σ))

-- Splitter: v = w, and B' is chosen ----------------------------------------------------------

abbrev pub split_cut : Numbers → Cut
split_cut n = record { width = n.width; parts = 1; share = 1; most = n.burst_limit }

abbrev pub split_numbers : Numbers → ℕ → ℕ → ℕ → Numbers
split_numbers n v b p = numbers_above 1 n v b p

abbrev pub split_fits : Numbers → ℕ → ℕ → ℕ → Bool
split_fits n v b p = v == n.width && (in_range 1 64 b && in_range 1 16 p)

abbrev pub split_rule : Numbers → ℕ → ℕ → ℕ → Option ℕ
split_rule n v b p = broken (not (split_fits n v b p)) 2

abbrev pub split_refusal : Numbers → State → ℕ → ℕ → ℕ → Option ℕ
split_refusal n σ v b p = first_of (split_rule n v b p) (over_rule (split_numbers n v b p) (tally n σ))

-- Widener: f = w / v is 2, 4 or 8, and B' is chosen -------------------------------------------

abbrev pub wide_share : Numbers → ℕ → ℕ
wide_share n v = n.width / v

abbrev pub wide_cut : Numbers → ℕ → Cut
wide_cut n v = record { width = n.width; parts = 1; share = wide_share n v; most = 1 }

abbrev pub wide_numbers : Numbers → ℕ → ℕ → ℕ → Numbers
wide_numbers n v b p = numbers_above 1 n v b p

abbrev pub wide_fits : Numbers → ℕ → ℕ → ℕ → Bool
wide_fits n v b p = is_factor (wide_share n v) && (in_range 1 64 b && in_range 1 16 p)

abbrev pub wide_rule : Numbers → ℕ → ℕ → ℕ → Option ℕ
wide_rule n v b p = broken (not (wide_fits n v b p)) 2

abbrev pub wide_refusal : Numbers → State → ℕ → ℕ → ℕ → Option ℕ
wide_refusal n σ v b p = first_of (wide_rule n v b p) (over_rule (wide_numbers n v b p) (tally n σ))

-- What is built ----------------------------------------------------------------------------------

-- a cut that suits an adapter with words of v bytes, B' = b and P' = p, over a port with the numbers n
pub record Suited (c : Cut) (n : Numbers) (v b p : ℕ) : Type 0 where
  pub wide : Wide v
  pub below : c.width ≡ n.width
  pub widths : v * c.share ≡ n.width * c.parts
  pub kind : (c.share ≡ 1) ⊎ ((c.parts ≡ 1) × (c.most ≡ 1))
  pub parts_some : 1 ≤ c.parts
  pub share_some : 1 ≤ c.share
  pub most_some : 1 ≤ c.most
  pub bytes_few : n.width * c.parts ≤ 8
  pub burst_fits : c.most * c.parts ≤ n.burst_limit
  pub beats_some : 1 ≤ b
  pub beats_few : b ≤ 64
  pub pending_some : 1 ≤ p
  pub pending_few : p ≤ 16

-- an engine at reset
pub record Fresh (n' : Numbers) (c : Cut) (v : ℕ) (e : Engine) : Type 0 where
  pub plain : (image : List ℕ) → e.plain ≡ tally n' (reset image)
  pub cut : e.shape.cut ≡ c
  pub width : e.shape.width ≡ v
  pub slot : e.slot ≡ Empty
  pub bursts : bursts_in e.owed ≡ []
  pub value : e.collected.value ≡ 0
  pub count : e.collected.count ≡ 0

-- an adapter over this port with these numbers and this cut, at reset on the memory below
module _ {P W V : Type 0} {p : port.Ghosts P V} {v : width.Ghosts V} {w : width.Ghosts W} where
  pub record BuiltOver (below : P) (n' : Numbers) (c : Cut) (x : Adapter P W V p v w) : Type 0 where
    pub port : x.below ≡ below
    pub numbers : fixed_over x ≡ n'
    pub cut : x.engine.shape.cut ≡ c
    pub start : state_over x ≡ reset (p.state below).memory
