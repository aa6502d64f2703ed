-- Laws of fields: what a field's words are, and the bounds 4, 20, 84 and 172.
use Rattle.std.specs.Prelude.{◌+◌, ◌*◌, ◌/◌, ◌%◌, ◌≤◌}
use Rattle.align_burst.specs.Prelude.{ℕ, zero, suc, arith, lit≤, pos, nat_abs, Level, finest_level, level1, level2, level3, Step, finest_step, step2to1, step3to2, Within, Pair, VectorField, numbered, part, word, level_tile, coarsest, from_coarse, finer}
use Rattle.algebra.specs.Order.{abs-mul-le}
use Rattle.geometry.specs.declared.vectors.Vector.{Vector}
use Rattle.align_search.specs.Vectors.{still, ◌times◌}
use Rattle.align_search.specs.SearchLaws.{found_within, guess-within}
use Rattle.align_burst.specs.Fields.{field0, field1, field2, field3}

part-most : (v : Vector) (b k : ℕ) → Within b v → nat_abs (part k v) ≤ b
unfolding part
part-most v b zero w = w.vertical
part-most v b (suc k) w = w.sideways

pub word-most : (columns : ℕ) (f : VectorField) (b : ℕ) → ((row column : ℕ) → Within b (f row column)) → (k : ℕ) → nat_abs (word columns f k) ≤ b
unfolding word
word-most columns f b w k = part-most (numbered columns f (k / 2)) b (k % 2) (w (k / 2 / columns) (k / 2 % columns))

-- "vectors found level by level reach at most 4, 20, 84 and 172"
times-within : {v : Vector} (b f : ℕ) → Within b v → Within (b * f) (v times f)
times-within {v} b f w =
    record {
      vertical = abs-mul-le v.down (pos f) w.vertical (omega arith);
      sideways = abs-mul-le v.right (pos f) w.sideways (omega arith);
    }

coarsest-within : (l : Level) (p : Pair) (row column : ℕ) → Within 4 (coarsest l p row column)
unfolding coarsest
coarsest-within l p row column = found_within l.squared p (level_tile l row column) still 0 (record { vertical = lit≤ tt; sideways = lit≤ tt })

pub finer-within : (l : Level) (s : Step) (rows columns : ℕ) (p : Pair) (f : VectorField) (b : ℕ) → ((row column : ℕ) → Within b (f row column)) → (row column : ℕ) → Within (b * s.factor + 4) (finer l s rows columns p f row column)
unfolding finer from_coarse
finer-within l s rows columns p f b h row column =
    found_within l.squared p (level_tile l row column) _ (b * s.factor)
    (guess-within p (level_tile l row column) _ _ _ (b * s.factor) (times-within b s.factor (h _ _)) (times-within b s.factor (h _ _)) (times-within b s.factor (h _ _)))

module _ (p : ℕ → Pair) where
  pub field3-within : (row column : ℕ) → Within level3.bound (field3 p row column)
  unfolding field3
  field3-within = coarsest-within level3 (p 3)

  pub field2-within : (row column : ℕ) → Within level2.bound (field2 p row column)
  unfolding field2
  field2-within = finer-within level2 step3to2 _ _ (p 2) (field3 p) 4 field3-within

  pub field1-within : (row column : ℕ) → Within level1.bound (field1 p row column)
  unfolding field1
  field1-within = finer-within level1 step2to1 _ _ (p 1) (field2 p) 20 field2-within

  pub field0-within : (side row column : ℕ) → Within (finest_level side).bound (field0 side p row column)
  unfolding field0
  field0-within side = finer-within (finest_level side) (finest_step side) _ _ (p 0) (field1 p) 84 field1-within
