-- A hit refuses, the end accepts.
use Rattle.std.proofs.Common.{arith, ◌∙◌, lt-ltb, le-ltb}
use Rattle.refusals.specs.SomeLaws.{pass-start}
use Rattle.file_dng.specs.Strip.StripLaws.{block, strip-refused, strip-passed, strip-accepted}
use Rattle.file_dng.proofs.strip.strip_refusal.Goals as goal

pub loop-i-init : goal.loop-i-init
loop-i-init c = (pass-start, omega (arith, c.requires.1))

pub word_bits-requires : goal.word_bits-requires
word_bits-requires c = omega (arith, c.requires.0, c.loop-i.invariant.1, c.loop-i-test.true)

pub returns-then-word_bits-gt-SAMPLE_MOST : goal.returns-then-word_bits-gt-SAMPLE_MOST
returns-then-word_bits-gt-SAMPLE_MOST c =
    strip-refused _ _ c.args.count c.loop-i.i (omega (arith, c.loop-i.invariant.1, c.loop-i-test.true))
    (block _ c.args.start c.args.count c.loop-i.i ∙ c.word_bits.ensures ∙ lt-ltb 4095 c.word_bits.result c.if-word_bits-gt-SAMPLE_MOST.true)

pub loop-i-preserved : goal.loop-i-preserved
loop-i-preserved c = (
  strip-passed _ _ c.args.count c.loop-i.invariant.0 (omega (arith, c.loop-i.invariant.1, c.loop-i-test.true))
      (block _ c.args.start c.args.count c.loop-i.i ∙ c.word_bits.ensures ∙ le-ltb 4095 c.word_bits.result c.if-word_bits-gt-SAMPLE_MOST.false),
  omega (arith, c.loop-i.invariant.1),
)

pub returns : goal.returns
returns c = strip-accepted _ _ _ c.loop-i.invariant.0 c.loop-i-test.false

-- the last block
pub returns-else-word_bits-gt-SAMPLE_MOST : goal.returns-else-word_bits-gt-SAMPLE_MOST
returns-else-word_bits-gt-SAMPLE_MOST c =
    strip-accepted _ _ _
    (strip-passed _ _ c.args.count c.loop-i.invariant.0 (omega (arith, c.loop-i.invariant.1, c.loop-i-test.true))
    (block _ c.args.start c.args.count c.loop-i.i ∙ c.word_bits.ensures ∙ le-ltb 4095 c.word_bits.result c.if-word_bits-gt-SAMPLE_MOST.false))
    (omega arith)
