-- The count is at most one more than the size.
use Rattle.algebra.specs.Prelude.{refl, arith, rules}
use Rattle.geometry.specs.Tiles.{tile_count}
use Rattle.geometry.specs.TileLaws.{count_most}
use Rattle.geometry.proofs.tiles.tile_count as of

add-result-2 : of.Tie.Need-overflow_add-result-2
unfolding tile_count
add-result-2 c = omega (arith, count_most c.args.half c.args.size c.requires.some)

returns : of.Tie.Need-returns
unfolding tile_count
returns c = record { is = refl; some = omega arith; most = count_most c.args.half c.args.size c.requires.some }

pub tile_count_spec : {M : Type 1} → of.Statement.statement M
tile_count_spec = of.Tie.close (of.Tie.spec
    (λ c. search rules) (λ c. search rules) (λ c. search rules) add-result-2 returns)
