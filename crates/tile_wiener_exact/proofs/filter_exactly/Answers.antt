use Rattle.std.specs.Prelude.{◌≡◌, ◌*◌, ◌/◌}
use Rattle.tile_wiener_exact.specs.Prelude.{sym, ap₂, subst, arith, rules, WholeBinsOf, bin_most_at}
use Rattle.tile_quad.specs.AtSideLaws.{side_even, binned-paired}
use Rattle.tile_quad.specs.LaneLaws.{lanes_start, lanes_at, lanes-join}
use Rattle.tile_wiener_exact.proofs.ExactGains.{whole-at, filtered-at}
use Rattle.tile_wiener_exact.proofs.filter_exactly.Goals as goal

pub loop-u-init : goal.loop-u-init
loop-u-init g c = lanes_at (lanes_start 0 (binned-paired c.requires.pair.sided c.requires.binned)) (omega arith)

pub filter_row-requires : goal.filter_row-requires
filter_row-requires g c =
    let u = c.loop-u.u in
    let e = side_even c.requires.pair.sided in (
      search rules,
      (
        search rules,
        record {
          pair = c.requires.pair;
          paired = c.loop-u.invariant.paired;
          first_below = c.requires.first_below;
          second_below = c.requires.second_below;
          u_below = omega arith;
          whole = λ l h. subst (WholeBinsOf (bin_most_at g.row.SIDE) (l / 2) u) (sym (c.loop-u.invariant.rest u l (omega arith) (omega arith) (λ i j. omega arith))) (whole-at c.requires.pair.sided _ c.requires.binned u l (omega arith) h);
        },
      ),
    )

pub loop-u-preserved : goal.loop-u-preserved
loop-u-preserved g c =
    let e = side_even c.requires.pair.sided in
    lanes_at (lanes-join (omega arith) (omega arith) c.loop-u.invariant c.filter_row.ensures) (omega arith)

pub returns : goal.returns
returns g c =
    let e = side_even c.requires.pair.sided in
    let d : c.loop-u.u ≡ g.row.SIDE / 2 = omega arith in
    filtered-at c.requires.pair.sided c.args.first c.args.second _ _ (lanes_at c.loop-u.invariant (let p = ap₂ (λ a b. a * b) (sym e) d in omega arith))
