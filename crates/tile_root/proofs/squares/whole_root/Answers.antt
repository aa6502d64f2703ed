use Rattle.std.specs.Prelude.{◌≡◌, ◌+◌, ◌/◌, ◌≤◌}
use Rattle.std.proofs.Common.{arith, mul-le-mul}
use Rattle.tile_root.specs.RootLaws.{root-unique}
use Rattle.tile_root.proofs.squares.whole_root.Goals as goal

pub overflow_mul-middle : goal.overflow_mul-middle
overflow_mul-middle c =
    let h : (c.loop-high.low + c.loop-high.high) / 2 ≤ 262143 = omega arith in
    omega (arith, mul-le-mul h h)

pub returns : goal.returns
returns c =
    let w = c.loop-high.invariant in
    let e : c.loop-high.high ≡ c.loop-high.low + 1 = omega arith in
    root-unique (record { low = w.from; high = rw e at w.to })
