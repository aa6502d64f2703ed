-- N is at most 8, a number of P' at most 1776856, and a sum less than 2^26.
use Rattle.tile_spatial.proofs.Sums64.{product-fits, more-fits, more-is}
use Rattle.algebra.specs.Prelude.{w64}
use Rattle.algebra.specs.Bound.{most_fits}
use Rattle.tile_spatial.proofs.adding.add_part as of

cast-result : of.Tie.Need-overflow_cast-result
cast-result c =
    most_fits w64 _ 8 (record { most = c.requires.frames_fit.few }) tt

mul-result : of.Tie.Need-overflow_mul-result
mul-result c =
    let p = c.requires in product-fits p.frames_fit p.part p.sum-most

add-result : of.Tie.Need-overflow_add-result
add-result c =
    let p = c.requires in more-fits p.frames_fit p.part p.sum-most

returns : of.Tie.Need-returns
returns c =
    let p = c.requires in more-is p.frames_fit p.part p.sum-most

pub add_part_spec : {M : Type 1} → of.Statement.statement M
add_part_spec = of.Tie.close (of.Tie.spec cast-result mul-result add-result returns)
