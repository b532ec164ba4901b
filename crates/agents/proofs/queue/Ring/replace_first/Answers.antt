use Rattle.std.proofs.Common.{◌≡◌, sym, refl, ap, ◌∙◌, arith, length-set}
use Rattle.agents.specs.Items.{around, with_first}
use Rattle.agents.proofs.queue.Ring.replace_first.Goals as goal
use Rattle.agents.proofs.Around.{set_start, around_none}

pub returns-then-self-gt0 : goal.returns-then-self-gt0
returns-then-self-gt0 g c =
    let r = c.args.self.now in
    let s = r.slots.now in
    let p = c.start-place.result in
    (set_start s r.head r.count p c.args.item c.start-place.ensures r.begins (omega arith) r.fits, length-set s p c.args.item)

pub returns-else-self-gt0 : goal.returns-else-self-gt0
returns-else-self-gt0 g c =
    let r = c.args.self.now in
    let z : r.count ≡ 0 = omega arith in
    let e = ap (λ n. around r.slots.now r.head n) z ∙ around_none r.slots.now r.head in
    (e ∙ sym (ap (with_first c.args.item) e), refl)
