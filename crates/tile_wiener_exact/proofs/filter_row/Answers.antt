use Rattle.std.specs.Prelude.{◌/◌, ◌%◌, ◌≤◌}
use Rattle.tile_wiener_exact.specs.Prelude.{sym, ap, subst, ◌∙◌, arith, rules, eqb, bits_of, WholeBinsOf, bin_most_at, noise_most_at}
use Rattle.tile_spectrum.specs.Apart.{cond_cases}
use Rattle.tile_quad.specs.AtSideLaws.{side_even, even-pair}
use Rattle.tile_quad.specs.LaneLaws.{lanes_start, lanes_at, lanes-turn}
use Rattle.tile_wiener_exact.specs.ExactQuads.{new_exactly_by}
use Rattle.tile_wiener_exact.specs.ExactQuadLaws.{new-exactly}
use Rattle.tile_wiener_exact.proofs.filter_row.Goals as goal

pub loop-l-init : goal.loop-l-init
loop-l-init g c = lanes_start _ c.requires.paired

pub quad_at-q-requires : goal.quad_at-q-requires
quad_at-q-requires g c = (search rules, (search rules, (even-pair c.requires.pair, c.requires.u_below, omega arith)))

pub quad-g-requires : goal.quad-g-requires
quad-g-requires g c =
    let n = g.row.SIDE in
    let u = c.args.u in
    let l = c.loop-l.l in
    let e = side_even c.requires.pair.sided in
    record {
      sided = c.requires.pair.sided;
      noise_below = subst (λ m. m ≤ noise_most_at n) (sym c.of_plane.ensures) (cond_cases (λ m. m ≤ noise_most_at n) (eqb (l % 2) 0) c.requires.first_below c.requires.second_below);
      k_below = omega arith;
      u_below = c.requires.u_below;
      whole =
          subst (WholeBinsOf (bin_most_at n) (l / 2) u) (sym (c.quad_at-q.ensures ∙ c.loop-l.invariant.rest u l (omega arith) (omega arith) (λ i j. omega arith)))
          (c.requires.whole l (omega arith));
    }

pub set_quad-requires : goal.set_quad-requires
set_quad-requires g c = (search rules, (search rules, record { pair = even-pair c.requires.pair; u_below = c.requires.u_below; l_below = omega arith; paired = c.loop-l.invariant.paired }))

pub loop-l-preserved : goal.loop-l-preserved
loop-l-preserved g c =
    let n = g.row.SIDE in
    let u = c.args.u in
    let l = c.loop-l.l in
    let first = c.args.first in
    let second = c.args.second in
    let even = side_even c.requires.pair.sided in
    let e = new-exactly (bits_of n) first second u l c.quad_at-q.result c.of_plane.ensures c.quad-g.ensures ∙ ap (new_exactly_by (bits_of n) first second u l) c.quad_at-q.ensures in
    lanes_at (lanes-turn {u = u} {l = l} c.loop-l.invariant (omega arith) (omega arith) (omega arith) c.set_quad.ensures e) (omega arith)

pub returns : goal.returns
returns g c = lanes_at c.loop-l.invariant (omega arith)
