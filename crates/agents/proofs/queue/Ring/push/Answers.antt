use Rattle.std.proofs.Common.{arith, length-set}
use Rattle.agents.proofs.queue.Ring.push.Goals as goal
use Rattle.agents.proofs.Around.{put_end, length_around}

pub invariant_of-self : goal.invariant_of-self
invariant_of-self g c =
    let r = c.args.self.now in
    let l = length_around r.slots.now r.head r.count r.begins r.fits in
    let k = length-set r.slots.now c.end-place.result c.args.item in
    record { begins = omega arith; fits = omega arith }

pub returns : goal.returns
returns g c =
    let r = c.args.self.now in
    let s = r.slots.now in
    let x = c.args.item in
    let l = length_around s r.head r.count r.begins r.fits in
    (put_end s r.head r.count c.end-place.result x c.end-place.ensures r.begins (omega arith), length-set s c.end-place.result x)
