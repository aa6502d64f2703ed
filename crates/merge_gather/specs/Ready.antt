-- Inside this crate and merge_frame: what a row of the output and a block of it require. A buffer that is only measured stands here as its length.
use Rattle.std.specs.Prelude.{◌≡◌, ◌+◌, ◌-◌, ◌*◌, ◌≤◌}
use Rattle.merge_gather.specs.Prelude.{List, ℕ, ℤ, Shape, sample_length}
use Rattle.merge_gather.specs.declared.Span.{Span}
use Rattle.merge_gather.specs.declared.Divisor.{Divisor}
use Rattle.merge_gather.specs.Work.{Divided, Weighed, Inside, Over}

-- row y of a row parity, for an output that begins with row `top` of the frame
pub record RowReady (s : Shape) (reference rowParity y top samples output : ℕ) (work : List ℤ) : Type 0 where
  pub inside : Inside s reference rowParity y top
  pub over : Over work s.side s.width y
  pub samples_long : samples ≡ sample_length s
  pub output_room : (2 * y + rowParity - top) * s.width + s.width ≤ output

-- a block of a row
pub record BlockReady (p : Span) (by : Divisor) (samples output : ℕ) (work lower upper : List ℤ) : Type 0 where
  pub weighed : Weighed work p lower upper
  pub divided : Divided by.count by.inverse
  pub samples_room : p.from + p.side ≤ samples
  pub output_room : p.start + p.side ≤ output
