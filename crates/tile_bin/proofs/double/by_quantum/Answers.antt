use Rattle.std.proofs.Common.{eq-eqb, ne_eqb}
use Rattle.tile_bin.specs.Prelude.{of_bits}
use Rattle.floats.specs.ProductLaws.{fraction}
use Rattle.tile_bin.proofs.double.by_quantum.Goals as goal

pub returns-then-this-eq32 : goal.returns-then-this-eq32
unfolding of_bits fraction
returns-then-this-eq32 g c = rw (eq-eqb g.row.SIDE 32 c.if-this-eq32.true)

pub returns-else-this-eq32 : goal.returns-else-this-eq32
unfolding of_bits fraction
returns-else-this-eq32 g c = rw (ne_eqb g.row.SIDE 32 c.if-this-eq32.false)
