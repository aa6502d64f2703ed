use Rattle.tile_pair32.specs.Prelude.{false, nan, binary64, of_int, side32, backward_of, long_fold_most, LongInDouble}
use Rattle.tile_spectrum.specs.ColumnLaws.{ColumnsSet}
use Rattle.tile_pair32.proofs.columns_back.back.Given as goal

-- the sums back down the columns up to l are stored
abbrev pub invariant-loop-l : goal.invariant-loop-l
invariant-loop-l l = ColumnsSet 32 64 nan {H = LongInDouble (long_fold_most false false) l.fn.g} (λ w y l'. of_int binary64 (backward_of side32 (λ b. w.number b l') y)) l.l l.fn.g l.g
