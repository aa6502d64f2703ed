-- A hit refuses, the end accepts.
use Rattle.std.proofs.Common.{arith}
use Rattle.refusals.specs.SomeLaws.{pass-start}
use Rattle.file_pgm.proofs.samples.Raster.{raster-hit, raster-turn, raster-done}
use Rattle.file_pgm.proofs.samples.raster_refusal.Goals as goal

pub loop-i-init : goal.loop-i-init
loop-i-init c = (pass-start, omega (arith, c.requires.1))

pub high_bits-requires : goal.high_bits-requires
high_bits-requires c = omega (arith, c.requires.0, c.loop-i.invariant.1, c.loop-i-test.true)

pub returns-then-high_bits-gt15 : goal.returns-then-high_bits-gt15
returns-then-high_bits-gt15 c =
    raster-hit c.args.bytes.now c.args.start c.args.count c.requires.0 (record { below = λ k. omega (arith, c.type_inv.bytes k) }) c.loop-i.i _
    (omega (arith, c.loop-i.invariant.1, c.loop-i-test.true)) c.high_bits.ensures c.if-high_bits-gt15.true

pub loop-i-preserved : goal.loop-i-preserved
loop-i-preserved c = (
  raster-turn c.args.bytes.now c.args.start c.args.count c.requires.0 (record { below = λ k. omega (arith, c.type_inv.bytes k) }) c.loop-i.i _
      (omega (arith, c.loop-i.invariant.1, c.loop-i-test.true)) c.high_bits.ensures c.if-high_bits-gt15.false c.loop-i.invariant.0,
  omega (arith, c.loop-i.invariant.1),
)

pub returns : goal.returns
returns c = raster-done _ _ c.args.count c.requires.0 (record { below = λ k. omega (arith, c.type_inv.bytes k) }) c.loop-i.invariant.0 c.loop-i-test.false

-- the last block
pub returns-else-high_bits-gt15 : goal.returns-else-high_bits-gt15
returns-else-high_bits-gt15 c =
    raster-done _ _ c.args.count c.requires.0 (record { below = λ k. omega (arith, c.type_inv.bytes k) })
    (raster-turn c.args.bytes.now c.args.start c.args.count c.requires.0 (record { below = λ k. omega (arith, c.type_inv.bytes k) }) c.loop-i.i _
    (omega (arith, c.loop-i.invariant.1, c.loop-i-test.true)) c.high_bits.ensures c.if-high_bits-gt15.false c.loop-i.invariant.0)
    (omega arith)
