-- A frame's line follows those of the frames before it.
use Rattle.std.specs.Prelude.{◌≡◌, ◌++◌, ◌+◌, ◌-◌, ◌*◌}
use Rattle.std.proofs.Common.{arith, append_assoc, append-nil, add-one}
use Rattle.report.specs.Prelude.{sym, ap, ◌∙◌, List, ℕ, get_or, take, drop, ℤ}
use Rattle.geometry.specs.Vectors.{other_frame, parts_of}
use Rattle.report.specs.Motion.{frame_line, frame_lines}
use Rattle.report.specs.Inner.{vector_room}
use Rattle.report.proofs.motion.put_frames.Goals as goal

parts : (vectors : List ℤ) (k : ℕ) → take (vector_room k + vector_room 1 - vector_room k) (drop (vector_room k) vectors) ≡ parts_of (vector_room 1) vectors k
unfolding parts_of
parts vectors k =
    let count : vector_room k + vector_room 1 - vector_room k ≡ vector_room 1 = omega arith in
    let from : vector_room k ≡ k * vector_room 1 = omega arith in
    rw (count, from)

module _ (reference : ℕ) (vectors : List ℤ) (sums : List ℕ) where
  next-line : (k : ℕ) {frame : ℕ} → frame ≡ other_frame reference k →
      frame_lines reference (vector_room 1) vectors sums k ++ frame_line frame (take (vector_room k + vector_room 1 - vector_room k) (drop (vector_room k) vectors)) (get_or sums k 0)
      ≡ frame_lines reference (vector_room 1) vectors sums (k + 1)
  unfolding frame_lines
  next-line k e = rw (add-one, parts vectors k, e)

pub loop-k-init : goal.loop-k-init
unfolding frame_lines
loop-k-init c = record { lines = sym (append-nil c.args.text.now); short = omega arith }

pub put_frame-requires : goal.put_frame-requires
put_frame-requires c = omega (arith, c.requires.text-room)

pub loop-k-preserved : goal.loop-k-preserved
loop-k-preserved c =
    let k = c.loop-k.k in
    let line = next-line c.args.reference c.args.vectors.now c.args.residuals k c.other_frame-frame.ensures.0 in
    let before = frame_lines c.args.reference (vector_room 1) c.args.vectors.now c.args.residuals k in
    let this = frame_line c.other_frame-frame.result (take (vector_room k + vector_room 1 - vector_room k) (drop (vector_room k) c.args.vectors.now)) (get_or c.args.residuals k 0) in
    record {
      lines = c.put_frame.ensures.line ∙ ap (λ t. t ++ this) c.loop-k.invariant.lines ∙ append_assoc c.args.text.now before this ∙ ap (λ l. c.args.text.now ++ l) line;
      short = omega arith;
    }

pub returns : goal.returns
returns c =
    let all : c.loop-k.k ≡ c.args.others = omega arith in
    rw all at c.loop-k.invariant.lines
