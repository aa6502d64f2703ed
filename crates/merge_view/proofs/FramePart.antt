-- A frame's part lies in the burst, and its planes are half as wide and high.
use Rattle.std.specs.Prelude.{◌≡◌, ◌+◌, ◌-◌, ◌*◌, ◌/◌, ◌≤◌, ◌<◌}
use Rattle.merge_view.specs.Prelude.{ap, List, ℕ, arith, length, take, drop, Shape, frame_stride, Sampled}
use Rattle.geometry.specs.ReadLaws.{frame-room}
use Rattle.merge_view.specs.View.{frame_part, Planar}

-- the slice that is lent
pub lent : (s : Shape) (samples : List ℕ) (frame : ℕ) →
    let words = frame_stride s in
    take (frame * words + words - frame * words) (drop (frame * words) samples) ≡ frame_part s samples frame
unfolding frame_part
lent s samples frame =
    let words = frame_stride s in
    let e : frame * words + words - frame * words ≡ words = omega arith in
    ap (λ n. take n (drop (frame * words) samples)) e

module _ {s : Shape} {samples : List ℕ} (sampled : Sampled s samples) where
  pub room : (frame : ℕ) → frame < s.count → frame * frame_stride s + frame_stride s ≤ length samples
  room frame below = omega (arith, frame-room s frame below, sampled.long)

  pub wide : s.width ≡ 2 * (s.width / 2)
  wide = omega (arith, sampled.allowed.wide.whole)

  pub high : s.height ≡ 2 * (s.height / 2)
  high = omega (arith, sampled.allowed.high.whole)

  pub planar : {rowParity : ℕ} → rowParity < 2 → Planar (s.width / 2) (s.height / 2) rowParity 0
  planar parity =
      let a = sampled.allowed in
      record {
        wide = omega (arith, a.wide.least);
        high = omega (arith, a.high.least);
        width-most = omega (arith, a.wide.most);
        height_most = omega (arith, a.high.most);
        row = parity;
        column = omega arith;
      }
