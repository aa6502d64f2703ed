-- The digits behind `P5` and LF, then those behind the width and a space.
use Rattle.std.proofs.Common.{◌≡◌, ◌+◌, ap, ap₂, ◌∙◌}
use Rattle.file_pgm.specs.Prelude.{ℕ, length, drop, decimal, leading}
use Rattle.file_pgm.specs.declared.reading.Size.{Size}
use Rattle.file_pgm.specs.Reading.{width_in, height_in}
use Rattle.file_pgm.proofs.reading.size_in.Goals as goal

made : (width height : ℕ) → Size
made width height = record { width = width; height = height }

pub returns : goal.returns
unfolding width_in height_in made
returns c =
    let bytes = c.args.bytes.now in
    let wide : c.leading-width.result ≡ leading 4 0 (drop 3 bytes) = c.leading-width.ensures.0 in
    let place = c.digits.ensures.0 ∙ ap (λ n. length (decimal n)) wide in
    let high = c.leading-height.ensures.0 ∙ ap (λ n. leading 4 0 (drop (4 + n) bytes)) place in
    ap₂ (λ w h. made w h) wide high
