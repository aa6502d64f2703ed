use Rattle.std.proofs.Common.{rules}
use Rattle.std.specs.Prelude.{◌≡◌, ◌*◌, ◌/◌, ◌%◌}
use Rattle.tile_spatial.specs.Prelude.{ap, ◌∙◌, ℤ, pos, w64, to_z, of_z, AtMost, spatial_gain_most, binary64, of_int, cell, spread, plane_in}
use Rattle.tile_spectrum.specs.Lines.Held.{number_is}
use Rattle.sequences.specs.MadeLaws.{made-tab}
use Rattle.tile_spatial.proofs.folds.fold_row.Goals as goal

held-double : (z r : ℤ) → (r ≡ z) × AtMost (2 * spatial_gain_most) r → of_int binary64 (to_z w64 (of_z w64 r)) ≡ of_int binary64 z
held-double z r h = ap (of_int binary64) (number_is w64 h.1 tt ∙ h.0)

pub returns : goal.returns
returns c =
    made-tab c.from_fn.ensures.items (λ l. of_int binary64 (spread (plane_in (cell (pos 0) c.args.g.now) (l % 2)) (plane_in (cell (pos 0) c.args.h.now) (l % 2)) (l / 2) c.args.b))
    (λ l y q i d. search (rules, held-double))
