-- What that call's tests let through, and its answer beside a refusal with the number k and beside acceptance.
use Rattle.std.specs.Prelude.{◌≡◌}
use Rattle.stacker.specs.Prelude.{sym, ◌∙◌, List, ℕ, arith, length, ℤ, Shape, align_frame_refusal}
use Rattle.refusals.specs.TestLaws.{among, passed, both-passed}
use Rattle.refusals.specs.AfterLaws.{kept, made}
use Rattle.admit_length.specs.OneFrame.{frame_work_length, align_frame_shape_tests}
use Rattle.admit_length.specs.OneFrameLaws.{align-frame-fits, other_in, frame-vectors-long, frame-work-long}
use Rattle.admit_value.specs.BoundLaws.{samples_fit}
use Rattle.align_burst.specs.Burst.{ReadyFrame}
use Rattle.stacker.specs.declared.one_frame.FrameAlignment.{FrameAlignment}
use Rattle.stacker.specs.OneFrame.{frame_answered}

pub align-frame-passed : (s : Shape) (reference other : ℕ) (samples : List ℕ) (vectors work : List ℤ) → align_frame_refusal s reference other samples vectors work ≡ 0 → ReadyFrame s reference other samples vectors work
unfolding align_frame_refusal frame_work_length
align-frame-passed s reference other samples vectors work e =
    let both = both-passed (align_frame_shape_tests s reference other (length samples) (length vectors) (length work)) _ e in
    record {
      burst = align-frame-fits s reference other (length samples) (length vectors) (length work) both.0;
      room = omega (arith, frame-work-long s reference other (length samples) (length vectors) (length work) both.0);
      samples_fit = samples_fit s samples (passed both.1 (search among));
      other_in = other_in s reference other (length samples) (length vectors) (length work) both.0;
      vectors_long = frame-vectors-long s reference other (length samples) (length vectors) (length work) both.0;
    }

-- the three fields of an answer
made-frame : {k m x y a b : ℕ} → k ≡ m → x ≡ y → a ≡ b → ◌≡◌ {A = FrameAlignment} (record { refusal = k; residual = x; rows = a }) (record { refusal = m; residual = y; rows = b })
made-frame p q r = rw (p, q, r)

pub frame_refused : {k : ℕ} (number residual rows : ℕ) → k ≡ number → (k ≡ 0 → ⊥) → ◌≡◌ {A = FrameAlignment} (record { refusal = k; residual = 0; rows = 0 }) (frame_answered number residual rows)
unfolding frame_answered
frame_refused number residual rows e h = made-frame e (kept number 0 residual e h) (kept number 0 rows e h)

pub frame-accepted : {k x n : ℕ} (number residual rows : ℕ) → k ≡ number → k ≡ 0 → x ≡ residual → n ≡ rows → ◌≡◌ {A = FrameAlignment} (record { refusal = 0; residual = x; rows = n }) (frame_answered number residual rows)
unfolding frame_answered
frame-accepted number residual rows e z is are = made-frame (sym z ∙ e) (made number 0 residual e z is) (made number 0 rows e z are)
