-- Both parts are places, and a bin is at most twice as large.
use Rattle.std.specs.Prelude.{◌≡◌, ◌+◌, ◌*◌, ◌/◌, ◌%◌, ◌+ℤ◌}
use Rattle.tile_spatial.specs.Prelude.{sym, ap, ap₂, ◌∙◌, subst, arith, pos, cell, copy_bin_most, side16, imaginary_of, tile_im_of}
use Rattle.algebra.specs.Bound.{AtMost, add_most}
use Rattle.tile_spatial.proofs.Sums64.{sum_fits, sum_is}
use Rattle.tile_spatial.proofs.gains.bin_im as of

imaginary-requires : of.Tie.Need-imaginary-requires
imaginary-requires c κs =
    record { places_most = c.requires.places_most; u_below = c.requires.u_below; l_below = omega (arith, c.requires.l_below) }

add-result : of.Tie.Need-overflow_add-result
add-result c =
    sum_fits c.imaginary.ensures.1 c.beside_real.ensures.1 tt tt

returns : of.Tie.Need-returns
unfolding tile_im_of side16
returns c =
    let r = c in
    let a = r.args in
    let column : a.l ≡ 2 * (a.l / 2) + a.l % 2 = omega arith in
    let e = sum_is r.imaginary.ensures.1 c.beside_real.ensures.1 tt tt in (
      e ∙ ap₂ ◌+ℤ◌ (r.imaginary.ensures.0 ∙ ap (λ k. imaginary_of (λ b. cell (pos 0) a.w.now b k) a.u) column) c.beside_real.ensures.0,
      subst (AtMost copy_bin_most) (sym e) (record { most = omega (arith, (add_most r.imaginary.ensures.1 c.beside_real.ensures.1).most) }),
    )

pub bin_im_spec : {M : Type 1} → of.Statement.statement M
bin_im_spec = of.Tie.close (of.Tie.spec imaginary-requires (λ c κs. c.requires) add-result returns)
