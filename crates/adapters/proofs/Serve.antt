-- A clocked call of an adapter, from one call below and what its engine did.
use Rattle.std.proofs.Common.{◌≡◌, ℕ, List, length, Some, None, Option, sym, refl, ap, ◌∙◌, subst, arith}
use Rattle.std.proofs.Props.{props}
use Rattle.std.proofs.Math.Logic.{∥∥₁_elim, ∥∥₁_map}
use Rattle.port.specs.Legal.{Legal, tally}
use Rattle.port.specs.Machine.{Answers, Clocks, acted, given, moved, refusal_in}
use Rattle.port.specs.Single.{clocks_prop}
use Rattle.port.specs.State.{State, Within}
use Rattle.port.specs.declared.calls.Command.{Command}
use Rattle.port.specs.declared.calls.Reply.{Reply}
use Rattle.port.specs.declared.numbers.Numbers.{Numbers}
use Rattle.port.specs.declared.record.PortRecord.{PortRecord}
use Rattle.adapters.specs.Above.{above, state_above}
use Rattle.adapters.specs.Cuts.{next_part}
use Rattle.adapters.specs.Engine.{Settled, reply_above}
use Rattle.adapters.specs.Kept.{Keeps, Kept}
use Rattle.adapters.specs.Owed.{bursts_in, lefts}
use Rattle.adapters.specs.declared.adapter.Engine.{Engine}
use Rattle.adapters.specs.declared.cut.Cut.{Cut}
use Rattle.adapters.specs.declared.cut.Shape.{Shape}
use Rattle.adapters.specs.Slots.{Slot}
use Rattle.adapters.specs.declared.owed.Collected.{Collected}
use Rattle.adapters.specs.declared.owed.OwedBurst.{OwedBurst}
use Rattle.adapters.proofs.Lined.{part_free}
use Rattle.adapters.proofs.Replies.{Why, in_kind, why_of}
use Rattle.adapters.proofs.Step.{Step, clocks_after, keeps_after}

-- equal data, equal state; equal data keep the same
same_above : (c c' : Cut) (s s' : Slot) (bs bs' : List OwedBurst) (g g' : Collected) (p p' : PortRecord) (σ σ' : State) → c ≡ c' → s ≡ s' → bs ≡ bs' → g ≡ g' → p ≡ p' → σ ≡ σ' →
    state_above c s bs g p σ ≡ state_above c' s' bs' g' p' σ'
same_above c c' s s' bs bs' g g' p p' σ σ' ec es eb eg ep eσ =
    ap (λ (i : Cut). state_above i s bs g p σ) ec ∙ (ap (λ (i : Slot). state_above c' i bs g p σ) es ∙ (ap (λ (i : List OwedBurst). state_above c' s' i g p σ) eb
    ∙ (ap (λ (i : Collected). state_above c' s' bs' i p σ) eg ∙ (ap (λ (i : PortRecord). state_above c' s' bs' g' i σ) ep ∙ ap (λ (i : State). state_above c' s' bs' g' p' i) eσ))))

same_keeps : (n n' : Numbers) (c c' : Cut) (s s' : Slot) (bs bs' : List OwedBurst) (g g' : Collected) (p p' : PortRecord) (σ σ' : State) → n ≡ n' → c ≡ c' → s ≡ s' → bs ≡ bs' → g ≡ g' → p ≡ p' → σ ≡ σ' →
    Keeps n σ c s bs g p → Keeps n' σ' c' s' bs' g' p'
same_keeps n n' c c' s s' bs bs' g g' p p' σ σ' en ec es eb eg ep eσ keeps =
    subst (λ (i : State). Keeps n' i c' s' bs' g' p') eσ (subst (λ (i : PortRecord). Keeps n' σ c' s' bs' g' i) ep (subst (λ (i : Collected). Keeps n' σ c' s' bs' i p) eg
    (subst (λ (i : List OwedBurst). Keeps n' σ c' s' i g p) eb (subst (λ (i : Slot). Keeps n' σ c' i bs g p) es (subst (λ (i : Cut). Keeps n' σ i s bs g p) ec (subst (λ (i : Numbers). Keeps i σ c s bs g p) en keeps))))))

-- what a clocked call leaves
pub record Left (m : Numbers) (τ : State) (σ' : State) (e e' : Engine) (command : Command) (a : Reply) (y : Option ℕ) : Type 0 where
  pub kept : Kept m τ e'
  pub fixed : e'.plain.numbers ≡ e.plain.numbers
  pub moves : Clocks e.plain.numbers σ' command a y (above e' τ)

-- the call below, in the terms of the slot
moved_below : (n : Numbers) (σ τ : State) (e : Engine) (part : Command) (t : Reply) (x : Option ℕ) → e.shape.cut.width ≡ n.width → part ≡ next_part e.shape.cut e.slot → τ ≡ moved n.width σ part t x →
    τ ≡ acted e.shape.cut.width (next_part e.shape.cut e.slot) t (given x σ)
moved_below n σ τ e part t x wide is moves =
    moves ∙ (ap (λ (c : Command). acted n.width c t (given x σ)) is ∙ ap (λ w. acted w (next_part e.shape.cut e.slot) t (given x σ)) (sym wide))

step_of : (n : Numbers) (σ τ : State) (e e' : Engine) (command part : Command) (t : Reply) (x : Option ℕ) (a : Reply) (y : Option ℕ) → Legal n σ → Kept n σ e → refusal_in e.plain.numbers (above e σ) command ≡ None →
    part ≡ next_part e.shape.cut e.slot → Clocks n σ part t x τ → Settled e command t x a y e' → Step n σ e.shape.cut e.slot (bursts_in e.owed) e.collected e.plain command t x a y
step_of n σ τ e e' command part t x a y legal kept free is called settled =
    let bs = bursts_in e.owed in
    let n' = e.plain.numbers in
    let count : e.plain.bursts_owed ≡ length (lefts bs) = ap (λ (p : PortRecord). p.bursts_owed) kept.tallied in
    let replies : a ≡ reply_above e.slot (length (lefts bs)) n'.pending_limit command = settled.replies ∙ ap (λ i. reply_above e.slot i n'.pending_limit command) count in
    record {
      legal = legal;
      keeps = kept;
      free = free;
      answers = subst (λ (c : Command). Answers c t) is called.answers;
      first = called.first;
      within = subst (Within n) (moved_below n σ τ e part t x kept.fitted.below is called.moves) called.within;
      why = subst (Why e.slot (length (lefts bs)) n'.pending_limit command) (sym replies) (why_of e.shape.cut n n' e.slot σ.burst e.plain.burst (length (lefts bs)) n'.pending_limit command kept.lined);
      in_kind = subst (Answers command) (sym replies) (in_kind e.slot (length (lefts bs)) n'.pending_limit command);
      word = settled.word;
    }

left : (n m : Numbers) (σ τ : State) (e e' : Engine) (command part : Command) (t : Reply) (x : Option ℕ) (a : Reply) (y : Option ℕ) →
    Legal n σ → Kept n σ e → refusal_in e.plain.numbers (above e σ) command ≡ None → part ≡ next_part e.shape.cut e.slot →
    m ≡ n → Clocks n σ part t x τ → Settled e command t x a y e' → Left m τ (above e σ) e e' command a y
left n m σ τ e e' command part t x a y legal kept free cut same called settled =
    let n' = e.plain.numbers in
    let bs = bursts_in e.owed in
    let step = step_of n σ τ e e' command part t x a y legal kept free cut called settled in
    let plain : e'.plain ≡ tally n' (moved n'.width (above e σ) command a y) = settled.plain n' (above e σ) kept.tallied kept.legal free refl in
    let down = moved_below n σ τ e part t x kept.fitted.below cut called.moves in
    record {
      kept = same_keeps n m _ e'.shape.cut _ e'.slot _ (bursts_in e'.owed) _ e'.collected _ e'.plain _ τ
          (sym same) (sym (ap (λ (s : Shape). s.cut) settled.same_shape)) (sym settled.slot) (sym settled.bursts) (sym settled.collected) (sym plain) (sym down)
          (keeps_after n σ e.shape.cut e.slot bs e.collected e.plain command t x a y step);
      fixed = ap (λ (p : PortRecord). p.numbers) plain;
      moves = subst (Clocks n' (above e σ) command a y)
          (same_above _ e'.shape.cut _ e'.slot _ (bursts_in e'.owed) _ e'.collected _ e'.plain _ τ
          (sym (ap (λ (s : Shape). s.cut) settled.same_shape)) (sym settled.slot) (sym settled.bursts) (sym settled.collected) (sym plain) (sym down))
          (clocks_after n σ e.shape.cut e.slot bs e.collected e.plain command t x a y step);
    }

-- the same, where an adapter is known to keep this, and not how
pub record Served (m : Numbers) (τ : State) (σ' : State) (e e' : Engine) (command : Command) (a : Reply) (y : Option ℕ) : Type 0 where
  pub kept : ∥ Kept m τ e' ∥₁
  pub fixed : e'.plain.numbers ≡ e.plain.numbers
  pub moves : Clocks e.plain.numbers σ' command a y (above e' τ)

pub served : (n m : Numbers) (σ τ : State) (e e' : Engine) (command part : Command) (t : Reply) (x : Option ℕ) (a : Reply) (y : Option ℕ) →
    Legal n σ → ∥ Kept n σ e ∥₁ → refusal_in e.plain.numbers (above e σ) command ≡ None → part ≡ next_part e.shape.cut e.slot →
    m ≡ n → Clocks n σ part t x τ → Settled e command t x a y e' → Served m τ (above e σ) e e' command a y
served n m σ τ e e' command part t x a y legal kept free cut same called settled =
    let all : ∥ Left m τ (above e σ) e e' command a y ∥₁ = ∥∥₁_map kept (λ k. left n m σ τ e e' command part t x a y legal k free cut same called settled) in
    record {
      kept = ∥∥₁_map all (λ l. l.kept);
      fixed = ∥∥₁_elim all (Prim.hlevel props) (λ l. l.fixed);
      moves = ∥∥₁_elim all (clocks_prop e.plain.numbers (above e σ) command a y (above e' τ)) (λ l. l.moves);
    }

-- no part is refused below
pub unrefused : (n : Numbers) (σ : State) (e : Engine) (part : Command) (number : ℕ) → Legal n σ → ∥ Kept n σ e ∥₁ → part ≡ next_part e.shape.cut e.slot → refusal_in n σ part ≡ Some number → ⊥
unrefused n σ e part number legal kept cut refused =
    ∥∥₁_elim kept (Prim.hlevel props) (λ k.
    let free = part_free e.shape.cut n e.plain.numbers e.slot σ.burst e.plain.burst σ.held k.fitted k.lined k.holding in
    let here = ap (λ (p : Command). refusal_in n σ p) cut in
    let z : ◌≡◌ {A = ℕ} 0 1 = cc in omega arith)
