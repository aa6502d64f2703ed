use Rattle.tile_pair32.specs.Prelude.{pos, side32, cell, halfcomplex_of}
use Rattle.tile_spectrum.specs.ColumnLaws.{ColumnsSet}
use Rattle.tile_pair32.proofs.columns.forward.Given as goal

-- the transforms of the columns up to l are stored
abbrev pub invariant-loop-l : goal.invariant-loop-l
invariant-loop-l l = ColumnsSet 32 64 (pos 0) {H = Unit {0}} (λ _ b l'. halfcomplex_of side32 (λ y. cell (pos 0) l.d y l') b) l.l l.fn.r l.r
