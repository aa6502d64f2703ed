-- Each row lies in the strip, and in the frame.
use Rattle.std.proofs.Common.{arith}
use Rattle.file_dng.specs.Strip.RowLaws.{rows_start, rows-turn, rows-done, strip-row, row_fits}
use Rattle.file_dng.proofs.strip.fill.Goals as goal

pub loop-row-init : goal.loop-row-init
loop-row-init c = rows_start

pub sample_index-at-requires : goal.sample_index-at-requires
sample_index-at-requires c =
    let fits = c.requires.frame_fits in
    (fits.allowed, record { frame_in = fits.below; row_in = c.loop-row-test.true; column-in = omega (arith, fits.allowed.wide.least) })

pub overflow_mul-row : goal.overflow_mul-row
overflow_mul-row c = omega (arith, strip-row c.args.shape c.loop-row.row c.loop-row-test.true, c.requires.height_in_bounds)

pub fill_row-requires : goal.fill_row-requires
fill_row-requires c = record {
  width_in_bounds = omega (arith, strip-row c.args.shape c.loop-row.row c.loop-row-test.true, c.requires.height_in_bounds);
  width_in_bounds_2 = omega (arith, c.sample_index-at.ensures.0, c.loop-row.invariant.same, row_fits c.requires.frame_fits c.loop-row.row c.loop-row-test.true);
}

pub loop-row-preserved : goal.loop-row-preserved
loop-row-preserved c = rows-turn c.sample_index-at.result c.requires.frame_fits c.loop-row.invariant c.loop-row-test.true c.sample_index-at.ensures.0 c.fill_row.ensures

pub returns : goal.returns
returns c = rows-done c.loop-row.invariant c.loop-row-test.false
