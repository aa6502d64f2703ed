use Rattle.std.specs.Prelude.{◌*◌, ◌≤◌, ◌-ℤ◌, ◌*ℤ◌}
use Rattle.tile_spatial.specs.Prelude.{sym, ap₂, subst, ◌∙◌, lit<, pos, away, grid, cell, TileMost, copy_most}
use Rattle.tile_spectrum.specs.Lines.Tiles.{cell_or}
use Rattle.tile_spatial.specs.Filtering.{copy_in, SumMost}
use Rattle.tile_spatial.proofs.CopyLaws.{part-most}
use Rattle.tile_spatial.proofs.PairLaws.{table-most}
use Rattle.tile_spatial.proofs.copying.copy_pair.Goals as goal

pub zipped-requires : goal.zipped-requires
unfolding cell
zipped-requires c =
    let t = c.args.t0.now in
    let s = c.args.sum.now in (
      lit< tt,
      (
        lit< tt,
        (
          lit< tt,
          (
            lit< tt,
            (
              lit< tt,
              (
                lit< tt,
                λ y l p q i m n j. record {
                  frames_fit = c.requires.frames_fit;
                  sample = subst (λ z. z ≤ 4095) (cell_or t 0 p y l 32 m j) ((c.requires.samples.row y).at l);
                  sum-most = subst (SumMost c.args.frames) (cell_or s (pos 0) q y l 32 n j) ((c.requires.sums.row y).at l);
                },
              ),
            ),
          ),
        ),
      ),
    )

pub returns : goal.returns
unfolding grid cell copy_in
returns c =
    let t = c.args.t0.now in
    let s = c.args.sum.now in
    let e = c.zipped.ensures (copy_in c.args.frames (cell 0 t) (cell (pos 0) s))
    (λ y l p q r i m n j o. o.0 ∙ ap₂ (λ t s. away (pos t *ℤ pos (256 * c.args.frames) -ℤ s) c.args.frames) (cell_or t p 0 y l 32 m j) (cell_or s q (pos 0) y l 32 n j))
    in
    (e, subst (TileMost copy_most) (sym e) (table-most copy_most _ (λ y l. part-most c.requires.frames_fit (c.requires.samples.row y) (c.requires.sums.row y) l) 16 32))
