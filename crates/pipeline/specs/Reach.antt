-- "vectors found level by level reach at most 4, 20, 84 and 172, whatever the burst, with either tile side": of any images, whatever their sizes.
use Rattle.std.specs.Prelude.{ℕ}
use Rattle.align_patch.specs.Bounds.{Within}
use Rattle.align_residual.specs.Residual.{Pair}
use Rattle.align_burst.specs.Fields.{field0, field1, field2, field3}
use Rattle.align_burst.specs.FieldLaws.{field0-within, field1-within, field2-within, field3-within}

-- the bounds of levels 3 to 0, at level 0 with any side
pub record Reaches (p : ℕ → Pair) : Type 0 where
  pub at3 : (row column : ℕ) → Within 4 (field3 p row column)
  pub at2 : (row column : ℕ) → Within 20 (field2 p row column)
  pub at1 : (row column : ℕ) → Within 84 (field1 p row column)
  pub at0 : (side row column : ℕ) → Within 172 (field0 side p row column)

pub reaches : (p : ℕ → Pair) → Reaches p
reaches p = record { at3 = field3-within p; at2 = field2-within p; at1 = field1-within p; at0 = field0-within p }
