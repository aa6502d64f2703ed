-- A view of a frame's part of the burst reads the burst's plane.
use Rattle.merge_view.specs.Prelude.{sym, ap, ◌∙◌, List, ℕ, arith, ℤ, pos, Shape, frame_stride, sample_length, Allowed, Image, sample_index, sample_at, plane_of, read}
use Rattle.std.proofs.Math.Nat.{mul_comm}
use Rattle.std.proofs.Common.{mul-div_cancel, length-take, length-drop, get_or-drop}
use Rattle.std.specs.Prelude.{length, ◌≡◌, ◌+◌, ◌*◌, ◌/◌, ◌<◌, ◌+ℤ◌}
use Rattle.std.proofs.Math.ListN.{get_or}
use Rattle.std.proofs.Math.Seq.{get_or-take}
use Rattle.sequences.specs.Grid.{grid-ext}
use Rattle.geometry.specs.ReadLaws.{cell_below, frame-room, inside-below}
use Rattle.merge_view.specs.View.{row_length_of, frame_image, frame_part, pair_of, plane_pair, Planar, Shaped}

-- a pair depends on what the frame has inside alone
pair-ext : (side height width : ℕ) (f g : Image) → 0 < height → 0 < width → (rowParity : ℕ) → rowParity < 2 →
    ((row column : ℕ) → row < 2 * height → column < 2 * width → f row column ≡ g row column) → (y x : ℤ) → pair_of side height width f rowParity y x ≡ pair_of side height width g rowParity y x
unfolding pair_of read plane_of
pair-ext side height width f g h w rowParity p e y x =
    grid-ext side (2 * side) _ _ (λ i l _ _. e _ _ (omega (arith, inside-below height (y +ℤ pos i) h)) (omega (arith, inside-below width (x +ℤ pos (l / 2)) w)))

module _ (s : Shape) (samples : List ℕ) (frame : ℕ) (ok : Allowed s) (long : length samples ≡ sample_length s) (below : frame < s.count) where
  module _ {width height rowParity columnParity : ℕ} (p : Planar width height rowParity columnParity) (wide : s.width ≡ 2 * width) (high : s.height ≡ 2 * height) where
    -- such a part is a frame, and its rows have the burst's length
    part-long : length (frame_part s samples frame) ≡ s.pitch * (2 * height)
    unfolding frame_part
    part-long = simp (length-take, length-drop) (omega (arith, frame-room s frame below, long, ap (λ n. s.pitch * n) high))

    part-row : row_length_of (length (frame_part s samples frame)) height ≡ s.pitch
    part-row = ap (λ n. n / (2 * height)) part-long ∙ mul-div_cancel s.pitch (omega (arith, p.high))

    pub part-shaped : Shaped (length (frame_part s samples frame)) width height rowParity columnParity
    part-shaped =
        record {
          whole = part-long ∙ mul_comm s.pitch (2 * height) ∙ ap (λ n. 2 * height * n) (sym part-row);
          row_least = omega (arith, part-row, ok.row_least);
          row-most = omega (arith, part-row, ok.row-most, ok.wide.most);
          planar = p;
        }

    part-sample : (row column : ℕ) → row < 2 * height → column < 2 * width →
        frame_image (frame_part s samples frame) width height row column ≡ sample_at s samples frame row column
    unfolding frame_part sample_at sample_index
    part-sample row column h k =
        let below : (0 * (2 * height) + row) * s.pitch + column < frame_stride s = omega (arith, cell_below row column s.height s.pitch (omega arith) (omega (arith, ok.row_least)), mul_comm s.pitch s.height) in
        rw (part-row, get_or-take, get_or-drop) (ap (λ n. get_or samples n 0) (rw high (omega arith)))

    pub part_pair : (side : ℕ) (y x : ℤ) → plane_pair side y x (frame_part s samples frame) width height rowParity ≡ pair_of side height width (sample_at s samples frame) rowParity y x
    unfolding plane_pair
    part_pair side y x = pair-ext side height width _ _ p.high p.wide rowParity p.row part-sample y x
