-- The names, then the lines of the vectors that align found.
use Rattle.std.specs.Prelude.{◌≡◌, ◌++◌, ◌-◌}
use Rattle.report.specs.Prelude.{sym, ap, ◌∙◌, List, ℕ, take, ℤ, aligned_vectors, residual_sums, Header, motion_names}
use Rattle.geometry.specs.Tiles.{frame_parts}
use Rattle.report.specs.Inner.{vector_room, burst_of, Taken}
use Rattle.report.specs.Motion.{frame_lines, motion_of}
use Rattle.report.proofs.motion.put_aligned.Goals as goal

frame-parts : {header : Header} {samples : List ℕ} → Taken header samples → frame_parts header.shape ≡ vector_room 1
frame-parts t = rw (t.sixteen, t.wide, t.high)

lines_of : {header : Header} {samples : List ℕ} {vectors : List ℤ} {sums : List ℕ} → Taken header samples →
    vectors ≡ aligned_vectors header.shape header.reference samples → sums ≡ residual_sums header.shape header.reference samples →
    motion_names ++ frame_lines header.reference (vector_room 1) vectors sums (header.shape.count - 1) ≡ motion_of (burst_of header samples)
unfolding motion_of
lines_of {header} {samples} {vectors} {sums} t v s =
    rw (v, s)
    (ap
    (λ n. motion_names ++ frame_lines header.reference n (aligned_vectors header.shape header.reference samples) (residual_sums header.shape header.reference samples) (header.shape.count - 1))
    (sym (frame-parts t)))

pub returns : goal.returns
returns c =
    let aligned = c.align_burst-residuals in
    let header = c.args.header in
    let others = header.shape.count - 1 in
    let lines = frame_lines header.reference (vector_room 1) (take (vector_room others) aligned.new.vectors) aligned.result others in
    let names = c.put_bytes.ensures ∙ ap (λ t. t ++ motion_names) c.requires.empty in
    c.put_frames.ensures ∙ ap (λ t. t ++ lines) names ∙ lines_of c.requires.taken aligned.ensures.found aligned.ensures.residuals
