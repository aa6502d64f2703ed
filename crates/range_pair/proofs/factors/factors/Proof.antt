-- One computed test over the whole table.
use Rattle.range_pair.specs.Prelude.{refl, tab, grid, cosines, cosine16, sine16}
use Rattle.range_pair.proofs.factors.factors as of

returns : of.Tie.Need-returns
unfolding grid tab cosines cosine16 sine16
returns c = refl

pub factors_spec : {M : Type 1} → of.Statement.statement M
factors_spec = of.Tie.close (of.Tie.spec returns)
