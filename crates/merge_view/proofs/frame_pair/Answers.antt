-- The pair of a frame: the frame's part lies in the burst, and its view reads the burst's planes.
use Rattle.std.proofs.Common.{refl, arith}
use Rattle.algebra.specs.Prelude.{to_z-of_z}
use Rattle.merge_view.specs.ViewLaws.{part-shaped, part_pair}
use Rattle.merge_view.proofs.FramePart.{lent, room, wide, high, planar}
use Rattle.merge_view.proofs.frame_pair.Goals as goal

pub slice_bounds-view-end : goal.slice_bounds-view-end
slice_bounds-view-end g c = room c.requires.sampled _ c.requires.frame_below

pub fill_pair-requires : goal.fill_pair-requires
fill_pair-requires g c =
    let k = c.requires.sampled in
    let s = c.args.shape in
    let all = c.args.samples.now in
    let frame = c.args.frame in (
      omega arith,
      (
        omega arith,
        record {
          place = record {
            shaped = rw (lent s all frame) (part-shaped s all frame k.allowed k.long c.requires.frame_below (planar k c.requires.parity) (wide k) (high k));
            first = refl;
            near = rw (to_z-of_z c.ranges.x) c.requires.near_x;
          };
          near = rw (to_z-of_z c.ranges.y) c.requires.near_y;
          lanes = c.requires.lanes;
          most = c.requires.most;
        },
      ),
    )

pub returns : goal.returns
returns g c =
    let k = c.requires.sampled in
    let s = c.args.shape in
    let all = c.args.samples.now in
    let frame = c.args.frame in
    rw (c.fill_pair.ensures, lent s all frame, to_z-of_z c.ranges.y, to_z-of_z c.ranges.x)
    (part_pair s all frame k.allowed k.long c.requires.frame_below (planar k c.requires.parity) (wide k) (high k) g.row.SIDE c.args.y c.args.x)
