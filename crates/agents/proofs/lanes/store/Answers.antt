use Rattle.std.proofs.Common.{◌≡◌, ◌+◌, get_or, sym, ap, ◌∙◌, arith}
use Rattle.std.proofs.lemmas.List.{set-get_or}
use Rattle.port.specs.Lanes.{lane}
use Rattle.agents.proofs.Joined.{lane_at, store_yes, store_no}
use Rattle.agents.proofs.lanes.store.Goals as goal
use Rattle.agents.proofs.lanes.store.Goals.{then-is_enabled, else-is_enabled}

pub loop-i-preserved : goal.loop-i-preserved
loop-i-preserved c =
    let a = c.args in
    let i = c.loop-i.i in
    let v : get_or c.to_le_bytes-bytes.result i 0 ≡ lane a.word i = ap (λ l. get_or l i 0) c.to_le_bytes-bytes.ensures ∙ lane_at a.word i (omega arith) in
    let told = sym c.is_enabled.ensures in
    let z : 0 + i ≡ i = omega arith in
    elim c.if-is_enabled.branch [
      | then-is_enabled w ↦ w.lanes-is ∙ rw z at (store_yes 0 a.mask a.word i _ a.lanes.now c.loop-i.lanes (told ∙ w.if-is_enabled.true) v c.loop-i.invariant)
      | else-is_enabled w ↦ w.lanes-is ∙ (set-get_or c.loop-i.lanes i 0 ∙ store_no 0 a.mask a.word i a.lanes.now c.loop-i.lanes (told ∙ w.if-is_enabled.false) c.loop-i.invariant)
    ]
