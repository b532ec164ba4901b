use Rattle.std.proofs.Common.{◌+◌, ◌*◌, ◌^◌, ◌<◌, ◌≤◌, arith}
use Rattle.adapters.proofs.Rows.{mask_moved, word_moved}
use Rattle.adapters.proofs.cut.Shape.beat_slot.Goals as goal

pub overflow_cast-result : goal.overflow_cast-result
overflow_cast-result c =
    let fits : c.lanes_up-up.result + c.args.self.width ≤ 8 = omega arith in
    let small : c.args.mask * 2 ^ c.lanes_up-up.result < 256 = mask_moved c.args.mask c.args.self.width c.lanes_up-up.result c.requires.lanes.0 fits in
    omega (arith, c.move_up.ensures)

pub move_up-requires-2 : goal.move_up-requires-2
move_up-requires-2 c =
    let fits : c.lanes_up-up.result + c.args.self.width ≤ 8 = omega arith in
    (omega arith, word_moved c.args.word c.args.self.width c.lanes_up-up.result c.requires.lanes.1 fits)
