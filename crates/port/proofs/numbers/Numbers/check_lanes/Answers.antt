use Rattle.std.proofs.Common.{◌*◌, ◌^◌, ◌≤◌, arith, pow_mono}
use Rattle.std.proofs.lemmas.Bool.{lt-leb}
use Rattle.port.proofs.numbers.Numbers.check_lanes.Goals as goal

-- from eight bytes on, no mask and no word has a bit beyond the width
pub returns-then-self-ge8 : goal.returns-then-self-ge8
returns-then-self-ge8 c =
    let w = c.args.self.now.width in
    let wide : 8 ≤ w = omega arith in
    let masks : 2 ^ 8 ≤ 2 ^ w = pow_mono wide in
    let words : 2 ^ 64 ≤ 2 ^ (8 * w) = let h : 64 ≤ 8 * w = omega arith in pow_mono h in
    let m = lt-leb (2 ^ w) c.args.mask (omega arith) in
    let d = lt-leb (2 ^ (8 * w)) c.args.word (omega arith) in
    rw (m, d)
