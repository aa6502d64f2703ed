use Rattle.std.proofs.Common.{◌≡◌, ◌+◌, ◌*◌, ◌/◌, ◌≤◌, length}
use Rattle.algebra.specs.Prelude.{refl, arith, rules}
use Rattle.align_pyramid.proofs.Descent.{halving-start, halving-source, halving-room, halving-turn}
use Rattle.align_pyramid.proofs.images.halve_down.Goals as goal

pub loop-init : goal.loop-init
loop-init c = (halving-start c.requires, refl)

pub halve-requires : goal.halve-requires
halve-requires c =
    let room = halving-room c.requires c.loop.invariant.0 (omega arith) in
    (record { source = halving-source c.requires c.loop.invariant.0; after = omega arith; room = room }, omega (arith, c.loop.invariant.1))

pub loop-preserved : goal.loop-preserved
loop-preserved c = (halving-turn c.requires c.loop.invariant.0 (omega arith) c.halve.ensures, search rules)
