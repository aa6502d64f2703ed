use Rattle.tile_spectrum.specs.Prelude.{cond, eqb, get_or, tab}
use Rattle.sequences.specs.Grid.{cell}
use Rattle.sequences.specs.TabLaws.{Filled}
use Rattle.tile_spectrum.proofs.columns.set_column.Given as goal

-- the lines up to k are those of the contract
abbrev pub invariant-loop-k : goal.invariant-loop-k
invariant-loop-k g l = (o : g.row.T.Denot) → Filled (λ k. tab g.row.LANES (λ m. cond (eqb m l.l) (get_or l.z k o) (cell o l.fn.t k m))) g.row.ROWS l.k l.fn.t l.t
