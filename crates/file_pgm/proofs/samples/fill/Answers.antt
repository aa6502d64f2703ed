use Rattle.std.proofs.Common.{arith, refl}
use Rattle.sequences.specs.Write.{write-start}
use Rattle.file_pgm.proofs.samples.Raster.{fill-block, fill-done}
use Rattle.file_pgm.proofs.samples.fill.Goals as goal

pub loop-at-init : goal.loop-at-init
loop-at-init c = (write-start (omega arith), omega (arith, c.requires.1))

pub words-block-requires : goal.words-block-requires
words-block-requires c = omega (arith, c.requires.0, c.loop-at.invariant.1, c.loop-at-test.true)

pub put_words-requires : goal.put_words-requires
put_words-requires c = omega (arith, c.loop-at.invariant.0.same, c.loop-at.invariant.1, c.loop-at-test.true)

pub loop-at-preserved : goal.loop-at-preserved
loop-at-preserved c = (
  fill-block c.args.bytes.now c.args.start _ c.requires.0 (record { below = λ k. omega (arith, c.type_inv.bytes k) }) refl c.loop-at.invariant.0
      (omega (arith, c.loop-at.invariant.1, c.loop-at-test.true)) c.words-block.ensures c.put_words.ensures,
  omega (arith, c.loop-at.invariant.1),
)

pub returns : goal.returns
returns c = fill-done c.args.bytes.now c.args.start _ c.requires.0 (record { below = λ k. omega (arith, c.type_inv.bytes k) }) refl c.loop-at.invariant.0 c.loop-at-test.false

-- the last block
pub returns-2 : goal.returns-2
returns-2 c =
    fill-done c.args.bytes.now c.args.start _ c.requires.0 (record { below = λ k. omega (arith, c.type_inv.bytes k) }) refl
    (fill-block c.args.bytes.now c.args.start _ c.requires.0 (record { below = λ k. omega (arith, c.type_inv.bytes k) }) refl c.loop-at.invariant.0
    (omega (arith, c.loop-at.invariant.1, c.loop-at-test.true)) c.words-block.ensures c.put_words.ensures)
    (omega arith)
