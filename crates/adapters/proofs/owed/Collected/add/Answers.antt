use Rattle.std.proofs.Common.{◌+◌, ◌*◌, ◌≤◌, mul_comm, add-mul, arith}
use Rattle.adapters.proofs.Rows.{below_eight, value_fits, word_moved}
use Rattle.adapters.proofs.owed.Collected.add.Goals as goal

pub move_up-requires : goal.move_up-requires
move_up-requires c =
    let l = c.args.shape.cut.width * c.args.self.now.count in
    (omega arith, word_moved c.args.part c.args.shape.cut.width l c.requires.values.1 (omega arith))

pub overflow_add-value : goal.overflow_add-value
overflow_add-value c =
    let w = c.args.shape.cut.width in
    let g = c.args.self.now.count in
    let fits = value_fits c.args.self.now.value c.args.part w g c.requires.values.0 c.requires.values.1 in
    let few : w * (g + 1) ≤ 8 = omega (arith, mul_comm w (g + 1), add-mul g 1 w, mul_comm w g) in
    let all = below_eight _ (w * (g + 1)) fits few in
    omega arith
