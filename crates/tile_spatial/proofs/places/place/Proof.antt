-- Both parts fit 64 bits, and so does what they make.
use Rattle.tile_spatial.proofs.PlaceParts.{whole-fits, product-fits, sum_fits, sum_is}
use Rattle.tile_spatial.proofs.places.place as of

-- Both parts fit 64 bits, and so does what they make.

mul-result : of.Tie.Need-overflow_mul-result
mul-result c =
    product-fits c.requires.0 c.requires.1

add-result : of.Tie.Need-overflow_add-result
add-result c =
    let p = c.requires in sum_fits p.0 p.1

returns : of.Tie.Need-returns
returns c =
    let p = c.requires in sum_is p.0 p.1

pub place_spec : {M : Type 1} → of.Statement.statement M
place_spec = of.Tie.close (of.Tie.spec
    (λ c. whole-fits c.requires.0) mul-result (λ c. whole-fits c.requires.1)
    add-result returns)
