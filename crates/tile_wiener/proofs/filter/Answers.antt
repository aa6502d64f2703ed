use Rattle.std.specs.Prelude.{◌≡◌, ◌*◌, ◌/◌}
use Rattle.tile_wiener.specs.Prelude.{refl, sym, true, arith, of_bits, place}
use Rattle.algebra.specs.Prelude.{ap₂}
use Rattle.std.proofs.Common.{le_trans, mul-le-mul_left}
use Rattle.floats.specs.QuotientLaws.{slightly_more}
use Rattle.tile_quad.specs.AtSideLaws.{side_even, side_some, noise-within}
use Rattle.tile_wiener.proofs.SureLaws.{shrunk-at, shrunk-join}
use Rattle.tile_wiener.proofs.DoubleGains.{filtered-at}
use Rattle.tile_wiener.proofs.filter.Goals as goal

pub loop-u-preserved : goal.loop-u-preserved
loop-u-preserved g c =
    let even = side_even c.requires.pair.sided in
    let some = side_some c.requires.pair.sided in
    let more = mul-le-mul_left (2 * (g.row.SIDE / 2)) c.loop-u.auto.u in
    let half = shrunk-join {z = true} (omega arith) (omega arith) c.loop-u.invariant c.top.ensures (λ e. (refl, c.if-not-top.false)) in
    shrunk-at (shrunk-join (omega arith) (omega arith) half c.inner.ensures (λ e. (refl, c.if-not-inner.false))) (omega arith)

pub returns : goal.returns
unfolding of_bits slightly_more
returns g c =
    let n = g.row.SIDE in
    let a = c.args in
    let r = c.requires in
    let even = side_even r.pair.sided in
    let some = side_some r.pair.sided in
    let done : c.loop-u.u ≡ n / 2 = omega arith in
    let more = mul-le-mul_left (2 * (n / 2)) c.loop-u.auto.u in
    let start = shrunk-at {o = place n 1 0} (shrunk-join {z = true} (omega arith) (omega arith) c.corner.ensures c.left.ensures (λ e. (c.if-not-corner.false, c.if-not-left.false))) (omega arith) in
    let all = shrunk-at {s = true} {o = n * (n / 2)} (shrunk-join (omega arith) (omega arith) start c.loop-u.invariant (λ e. (refl, refl))) (let p = ap₂ (λ a b. a * b) (sym even) done in omega arith) in
    record {
      paired = all.new.paired;
      is = λ e.
          filtered-at r.pair.sided a.first a.second (omega arith) (omega arith) (le_trans r.first_below (noise-within n)) (le_trans r.second_below (noise-within n)) _ _ c.alternating-v.ensures c.alternating-w.ensures all;
    }
