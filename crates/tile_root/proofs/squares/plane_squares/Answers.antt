use Rattle.std.specs.Prelude.{◌*◌, ◌+◌}
use Rattle.tile_root.specs.Prelude.{arith}
use Rattle.std.proofs.Common.{mul-le-mul}
use Rattle.sequences.specs.Sum.{sum-start, sum-turn, sum_done, sum-most}
use Rattle.tile_root.proofs.squares.plane_squares.Goals as goal

pub loop-j-init : goal.loop-j-init
loop-j-init g c = sum-start

pub overflow_add-s : goal.overflow_add-s
overflow_add-s g c =
    let most = mul-le-mul c.loop-j.invariant.count c.requires.1.side_most in
    omega (arith, c.loop-j.invariant.most, most, c.from-s.ensures, c.requires.2.most (2 * c.loop-j.j + c.args.p))

pub loop-j-preserved : goal.loop-j-preserved
loop-j-preserved g c = sum-turn c.loop-j.invariant (omega arith) c.from-s.ensures (rw c.from-s.ensures (c.requires.2.most _))

pub returns : goal.returns
returns g c = (sum_done c.loop-j.invariant (omega arith), sum-most c.loop-j.invariant (omega arith))
