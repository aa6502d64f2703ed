use Rattle.std.specs.Prelude.{◌^◌, ◌-ℤ◌}
use Rattle.algebra.specs.Prelude.{sym, subst, ◌∙◌, lit<, pos, w64, to_z}
use Rattle.std.specs.Float.Ieee.{of_bits}
use Rattle.algebra.specs.Bound.{AtMost, most_fits}
use Rattle.floats.specs.Middle.{middle, middle_bits}
use Rattle.floats.specs.ProductLaws.{fraction}
use Rattle.tile_spectrum.specs.Lines.Held.{number_is}
use Rattle.tile_spectrum.specs.Rounded.{rounded_bits, rounded-number, rounded-below, rounded-most, rounded-held}
use Rattle.tile_spectrum.proofs.adding.rounded.Goals as goal
use Rattle.tile_spectrum.proofs.adding.rounded.Goals.{Start}

held-most : (c : Start) → AtMost (2 ^ 21) (to_z w64 (rounded_bits c.args.x) -ℤ pos middle_bits)
held-most c = subst (AtMost (2 ^ 21)) (sym (rounded-held c.requires (lit< tt))) (rounded-most c.requires (lit< tt))

pub float_to_bits-result : goal.float_to_bits-result
unfolding of_bits middle fraction
float_to_bits-result c = rounded-number c.requires (lit< tt)

pub overflow_cast-result : goal.overflow_cast-result
unfolding of_bits middle fraction rounded_bits
overflow_cast-result c = record { sfits = rounded-below c.requires (lit< tt) }

pub overflow_sub-result : goal.overflow_sub-result
unfolding of_bits middle fraction rounded_bits
overflow_sub-result c = most_fits w64 (to_z w64 (rounded_bits c.args.x) -ℤ pos middle_bits) (2 ^ 21) (held-most c) tt

pub returns : goal.returns
unfolding of_bits middle fraction rounded_bits
returns c =
    let e = number_is w64 (held-most c) tt ∙ rounded-held c.requires (lit< tt) in
    (e, subst (AtMost (2 ^ 21)) (sym e) (rounded-most c.requires (lit< tt)))
