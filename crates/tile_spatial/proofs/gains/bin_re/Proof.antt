-- Both parts are places, and a bin is at most twice as large.
use Rattle.std.specs.Prelude.{◌≡◌, ◌+◌, ◌*◌, ◌/◌, ◌%◌, ◌-ℤ◌}
use Rattle.tile_spatial.specs.Prelude.{sym, ap, ap₂, ◌∙◌, subst, arith, pos, cell, copy_bin_most, side16, real_of, tile_re_of}
use Rattle.algebra.specs.Bound.{AtMost, sub-most}
use Rattle.tile_spatial.proofs.Sums64.{difference-fits, difference-is}
use Rattle.tile_spatial.proofs.gains.bin_re as of

real-requires : of.Tie.Need-real-requires
real-requires c κs =
    record { places_most = c.requires.places_most; u_below = c.requires.u_below; l_below = omega (arith, c.requires.l_below) }

sub-result : of.Tie.Need-overflow_sub-result
sub-result c =
    difference-fits c.real.ensures.1 c.beside_imaginary.ensures.1 tt tt

returns : of.Tie.Need-returns
unfolding tile_re_of side16
returns c =
    let r = c in
    let a = r.args in
    let column : a.l ≡ 2 * (a.l / 2) + a.l % 2 = omega arith in
    let e = difference-is r.real.ensures.1 c.beside_imaginary.ensures.1 tt tt in (
      e ∙ ap₂ ◌-ℤ◌ (r.real.ensures.0 ∙ ap (λ k. real_of (λ b. cell (pos 0) a.w.now b k) a.u) column) c.beside_imaginary.ensures.0,
      subst (AtMost copy_bin_most) (sym e) (record { most = omega (arith, (sub-most r.real.ensures.1 c.beside_imaginary.ensures.1).most) }),
    )

pub bin_re_spec : {M : Type 1} → of.Statement.statement M
bin_re_spec = of.Tie.close (of.Tie.spec real-requires (λ c κs. c.requires) sub-result returns)
