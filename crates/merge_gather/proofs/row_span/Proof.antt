-- The row lies in its frame, for the output and for the samples, and frames are small.
use Rattle.std.specs.Prelude.{◌+◌, ◌-◌, ◌*◌, ◌/◌, ◌%◌, ◌≤◌, ◌<◌}
use Rattle.merge_gather.specs.Prelude.{arith, rules, row_stride, frame_stride, sample_length, output_length}
use native.Mathlib.Nat.{mul-le-mul_right}
use Rattle.geometry.specs.ShapeLaws.{area-most, samples-most}
use Rattle.geometry.specs.ReadLaws.{frame-room}
use Rattle.merge_gather.specs.Work.{row_span}
use Rattle.merge_gather.specs.Places.{output_room, frame-row-room}
use Rattle.merge_gather.proofs.Weighing.{side-most, half_above, quotient-most, row-in-half, place-most}
use Rattle.merge_gather.proofs.row_span as of

room : (c : of.Tie.Start) → let s = c.args.shape in let row = 2 * c.args.y + c.args.parity in
    record {
      output_row : row * s.width + s.width ≤ s.width * s.height;
      output-small : s.width * s.height ≤ 16777216;
      frame_row : row * row_stride s + row_stride s ≤ frame_stride s;
      frame : c.args.reference * frame_stride s + frame_stride s ≤ s.count * frame_stride s;
      samples-small : s.count * frame_stride s ≤ 142606336;
      longer : s.width ≤ row_stride s;
      from-top : (row - c.args.top) * s.width ≤ row * s.width;
    }
unfolding output_length sample_length
room c =
    let w = c.requires in
    let s = c.args.shape in
    let below : 2 * c.args.y + c.args.parity < s.height = omega (arith, w.row, w.parity, w.allowed) in
    record {
      output_row = output_room s _ below;
      output-small = area-most w.allowed;
      frame_row = frame-row-room s _ below;
      frame = frame-room s c.args.reference w.reference_below;
      samples-small = samples-most w.allowed;
      longer = w.allowed.row_least;
      from-top = mul-le-mul_right s.width (omega arith);
    }

-- where rows of pairs lie in the work area
above_most : (c : of.Tie.Start) → let n = c.args.shape.side in n * (c.args.y % (n / 2) + n / 2) ≤ 1024
above_most c = place-most c.requires.sided c.args.y

below-most : (c : of.Tie.Start) → let n = c.args.shape.side in n * (c.args.y % (n / 2)) ≤ 1024
below-most c = omega (arith, above_most c)

add-above : of.Tie.Need-overflow_add-above
add-above c =
    let s = c in
    omega (arith, row-in-half s.requires.sided s.args.y, side-most s.requires.sided)

add-above-2 : of.Tie.Need-overflow_add-above-2
add-above-2 c = omega (arith, above_most c.before.before.before.before, c.slot.ensures.most)

add-slot : of.Tie.Need-overflow_add-y
add-slot c =
    let s = c in
    omega (arith, quotient-most s.requires.sided s.args.y, s.requires.row, s.requires.allowed.high.most)

add-below : of.Tie.Need-overflow_add-below
add-below c = omega (arith, below-most c.before.before.before.before.before, c.slot-2.ensures.most)

returns : of.Tie.Need-returns
unfolding row_span sample_length output_length
returns c =
    let s = c.before.before.before.before.before in
    let r = room s in
    let above = c.slot.ensures in
    let below = c.slot-2.ensures in (
      rw (above.is, below.is),
      record {
        small = record { from = omega (arith, r); start = omega (arith, r); above = omega (arith, above.most, above_most s); below = omega (arith, below.most, below-most s) };
        samples = omega (arith, r);
      },
    )

pub row_span_spec : {M : Type 1} → of.Statement.statement M
row_span_spec = of.Tie.close (of.Tie.spec
    (λ c. search rules) (λ c. search rules) (λ c. omega (arith, room c.before))
    (λ c. omega (arith, room c.before)) (λ c. omega (arith, room c.before.before))
    (λ c. omega (arith, room c.before.before)) (λ c. c.requires.under) (λ c. omega (arith, room c.before.before.before))
    (λ c. half_above c.requires.sided) (λ c. half_above c.requires.sided)
    (λ c κs. (side-most c.requires.sided, c.requires.allowed.wide.most))
    add-above (λ c. omega (arith, above_most c.before.before.before.before)) add-above-2
    (λ c. half_above c.requires.sided) add-slot
    (λ c κs. (side-most c.requires.sided, c.requires.allowed.wide.most))
    (λ c. omega (arith, below-most c.before.before.before.before.before)) add-below returns)
