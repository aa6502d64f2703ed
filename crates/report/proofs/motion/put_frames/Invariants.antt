-- The lines so far are those of the frames passed.
use Rattle.std.specs.Prelude.{◌≡◌, ◌++◌, ◌+◌, ◌*◌, ◌≤◌}
use Rattle.report.specs.Prelude.{length}
use Rattle.report.specs.Motion.{frame_lines}
use Rattle.report.specs.Inner.{vector_room}
use Rattle.report.proofs.motion.put_frames.Given as goal

abbrev pub invariant-loop-k : goal.invariant-loop-k
invariant-loop-k l = record {
  lines : l.text ≡ l.fn.text ++ frame_lines l.reference (vector_room 1) l.vectors l.residuals l.k;
  short : length l.text ≤ length l.fn.text + 105 * l.k;
}
