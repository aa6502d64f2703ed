-- `stacker::band::band_rows`: a band on the grid of tiles is so many rows of tiles.
use Rattle.algebra.specs.Prelude.{rules}
use Rattle.admit_length.specs.BandLaws.{side-least}
use Rattle.stacker.specs.BandRowLaws.{rows-lent, rows-merged}
use Rattle.stacker.proofs.band.band_rows as of

merge-rows-requires : of.Tie.Need-merge_rows-requires
merge-rows-requires c κs = rows-lent c.requires

returns : of.Tie.Need-returns
returns c =
    let r = c in
    rows-merged r.requires r.merge_rows.ensures

pub band_rows_spec : {M : Type 1} → of.Statement.statement M
band_rows_spec = of.Tie.close (of.Tie.spec
    (λ c. side-least c.requires.accepted.burst.sided) (λ c. search rules) (λ c. side-least c.requires.accepted.burst.sided) merge-rows-requires (λ c. search rules) (λ c. search rules) returns)
