-- Four terms, each far below 2^63, in the definition's order.
use Rattle.std.specs.Prelude.{◌+◌, ◌*◌, ◌/◌, ◌+ℤ◌}
use Rattle.algebra.specs.Prelude.{ap, ◌∙◌, arith, rules, w64, to_z-of_z}
use Rattle.algebra.specs.Bound.{AtMost, most_fits}
use Rattle.merge_tiles.specs.SignedLaws.{plus64, sum_is, sum-most}
use Rattle.merge_gather.specs.Work.{part_most, sum_most}
use Rattle.merge_gather.proofs.Weighing.{side-most, square-most, upper-below, weight-small, windowed-four}
use Rattle.merge_gather.proofs.windowed as of

most-2 : (c : of.Tie.After-part-2) → AtMost (2 * part_most) (plus64 c.part.result c.part-2.result)
most-2 c = sum-most c.part.ensures.1 c.part-2.ensures.1 tt tt

most-3 : (c : of.Tie.After-part-3) → AtMost (3 * part_most) (plus64 (plus64 c.part.result c.part-2.result) c.part-3.result)
most-3 c = sum-most (most-2 c.before) c.part-3.ensures.1 tt tt

most-4 : (c : of.Tie.After-part-4) → AtMost sum_most (plus64 (plus64 (plus64 c.part.result c.part-2.result) c.part-3.result) c.part-4.result)
most-4 c = sum-most (most-3 c.before) c.part-4.ensures.1 tt tt

part-requires : of.Tie.Need-part-requires
part-requires c κs =
    let s = c in
    let w = s.requires.0 in
    let l = s.args.l in
    record {
      inside = omega (arith, w.lower_later.room, s.requires.1);
      place = omega (arith, s.requires.1, side-most w.sided);
      word-most = w.lower_later.most l s.requires.1;
      weight-most = weight-small w.sided s.args.span.i l w.lower_weights (omega (arith, upper-below w.sided s.args.span.i w.row)) (omega (arith, s.requires.1));
    }

part-requires-2 : of.Tie.Need-part-requires-2
part-requires-2 c κs =
    let s = c in
    let w = s.requires.0 in
    let l = s.args.l in
    record {
      inside = omega (arith, w.lower_earlier.room, s.requires.1);
      place = omega (arith, s.requires.1, side-most w.sided);
      word-most = w.lower_earlier.most l s.requires.1;
      weight-most = weight-small w.sided s.args.span.i (l + s.args.span.side) w.lower_weights (omega (arith, upper-below w.sided s.args.span.i w.row)) (omega (arith, s.requires.1));
    }

part-requires-3 : of.Tie.Need-part-requires-3
part-requires-3 c κs =
    let s = c in
    let w = s.requires.0 in
    let l = s.args.l in
    record {
      inside = omega (arith, w.upper_later.room, s.requires.1);
      place = omega (arith, s.requires.1, side-most w.sided);
      word-most = w.upper_later.most l s.requires.1;
      weight-most = weight-small w.sided (s.args.span.i + s.args.span.side / 2) l w.upper_weights (upper-below w.sided s.args.span.i w.row) (omega (arith, s.requires.1));
    }

part-requires-4 : of.Tie.Need-part-requires-4
part-requires-4 c κs =
    let s = c in
    let w = s.requires.0 in
    let l = s.args.l in
    record {
      inside = omega (arith, w.upper_earlier.room, s.requires.1);
      place = omega (arith, s.requires.1, side-most w.sided);
      word-most = w.upper_earlier.most l s.requires.1;
      weight-most = weight-small w.sided (s.args.span.i + s.args.span.side / 2) (l + s.args.span.side) w.upper_weights (upper-below w.sided s.args.span.i w.row) (omega (arith, s.requires.1));
    }

add-result-3 : of.Tie.Need-overflow_add-result-3
add-result-3 c = most_fits w64 _ _ (most-4 c) tt

returns : of.Tie.Need-returns
returns c =
    let p = c.part in
    let p2 = c.part-2 in
    let p3 = c.part-3 in
    let s = c in
    let a = s.args in
    let back = to_z-of_z (add-result-3 c) in
    let sum =
    sum_is (most-3 c.before) c.part-4.ensures.1 tt tt
    ∙ ap (λ z. z +ℤ c.part-4.result) (sum_is (most-2 c.before.before) p3.ensures.1 tt tt ∙ ap (λ z. z +ℤ p3.result) (sum_is p.ensures.1 p2.ensures.1 tt tt)) in
    (back ∙ sum ∙ windowed-four s.requires.0 a.l s.requires.1 p.ensures.0 p2.ensures.0 p3.ensures.0 c.part-4.ensures.0, rw back (most-4 c))

pub windowed_spec : {M : Type 1} → of.Statement.statement M
windowed_spec = of.Tie.close (of.Tie.spec
    (λ c. omega (arith, square-most c.requires.0.sided)) (λ c. search rules) part-requires (λ c. search rules) (λ c. search rules)
    (λ c. omega (arith, c.requires.1, side-most c.requires.0.sided)) part-requires-2
    (λ c. most_fits w64 _ _ (most-2 c) tt) (λ c. search rules) part-requires-3
    (λ c. most_fits w64 _ _ (most-3 c) tt) (λ c. search rules) (λ c. search rules)
    (λ c. omega (arith, c.requires.1, side-most c.requires.0.sided)) part-requires-4
    add-result-3 returns)
