use Rattle.tile_wiener_exact.specs.Prelude.{sym, arith, bins_in}
use Rattle.tile_spectrum.specs.QuadLaws.{is-top, is-left, is-inner}
use Rattle.tile_wiener_exact.proofs.bins.Goals as goal

pub returns-then-k-eq0 : goal.returns-then-k-eq0
unfolding bins_in
returns-then-k-eq0 c = sym (is-top _ _ _ _ _ (omega arith))

pub returns-then-u-eq0 : goal.returns-then-u-eq0
unfolding bins_in
returns-then-u-eq0 c = sym (is-left _ _ _ _ _ (omega arith) (omega arith))

pub returns : goal.returns
unfolding bins_in
returns c = sym (is-inner _ _ _ _ _ (omega arith) (omega arith))
