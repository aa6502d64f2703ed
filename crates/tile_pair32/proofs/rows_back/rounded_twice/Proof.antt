-- `tile_pair32::rows_back::rounded_twice`: the definition's own operations.
use Rattle.std.specs.Prelude.{◌^◌, ◌-ℤ◌}
use Rattle.tile_pair32.specs.Prelude.{sym, subst, pos, w64, to_z, of_int, of_bits, middle, middle_bits}
use Rattle.algebra.specs.Bound.{AtMost, most_fits}
use Rattle.floats.specs.ProductLaws.{fraction}
use Rattle.floats.specs.TwiceLaws.{less_fraction}
use Rattle.tile_pair32.specs.Rounded.{first_bits, second_bits}
use Rattle.tile_pair32.proofs.Rounding.{first-number, second-number, first_below, second_below, first_most, second_most, twice-fits, twice-held, twice_most}
use Rattle.tile_pair32.proofs.rows_back.rounded_twice as of

float-to-bits-result : of.Tie.Need-float_to_bits-result
unfolding of_bits of_int middle fraction less_fraction
float-to-bits-result c = first-number c.requires

cast-result : of.Tie.Need-overflow_cast-result
unfolding of_bits of_int middle fraction less_fraction first_bits
cast-result c = record { sfits = first_below c.requires }

sub-result : of.Tie.Need-overflow_sub-result
unfolding of_bits of_int middle fraction less_fraction first_bits
sub-result c = most_fits w64 (to_z w64 (first_bits c.args.x) -ℤ pos middle_bits) (2 ^ 51) (first_most c.requires) tt

float-to-bits-result-2 : of.Tie.Need-float_to_bits-result-2
unfolding of_bits of_int middle fraction less_fraction
float-to-bits-result-2 c = second-number c.requires

cast-result-2 : of.Tie.Need-overflow_cast-result-2
unfolding of_bits of_int middle fraction less_fraction second_bits
cast-result-2 c = record { sfits = second_below c.requires }

sub-result-2 : of.Tie.Need-overflow_sub-result-2
unfolding of_bits of_int middle fraction less_fraction second_bits
sub-result-2 c = most_fits w64 (to_z w64 (second_bits c.args.x) -ℤ pos middle_bits) (2 ^ 51) (second_most c.requires) tt

add-result : of.Tie.Need-overflow_add-result
unfolding of_bits of_int middle fraction less_fraction first_bits second_bits
add-result c = twice-fits c.requires

returns : of.Tie.Need-returns
unfolding of_bits of_int middle fraction less_fraction first_bits second_bits
returns c = let e = twice-held c.requires in (e, subst (AtMost (2 ^ 22)) (sym e) (twice_most c.requires))

pub rounded_twice_spec : {M : Type 1} → of.Statement.statement M
rounded_twice_spec = of.Tie.close (of.Tie.spec float-to-bits-result cast-result sub-result float-to-bits-result-2 cast-result-2 sub-result-2 add-result returns)
