use Rattle.tile_pair.specs.Prelude.{false, nan, binary64, of_int, backward, fold_most, InDouble}
use Rattle.tile_spectrum.specs.ColumnLaws.{ColumnsSet}
use Rattle.tile_pair.proofs.columns_back.back.Given as goal

-- the sums back down the columns up to l are stored
abbrev pub invariant-loop-l : goal.invariant-loop-l
invariant-loop-l l = ColumnsSet 16 32 nan {H = InDouble (fold_most false) l.fn.g} (λ w y l'. of_int binary64 (backward (λ b. w.number b l') y)) l.l l.fn.g l.g
