-- Beside a refusal the tag, else the two values.
use Rattle.std.proofs.Common.{◌≡◌, arith, refl, ap, ap₂, ◌∙◌}
use Rattle.file_dng.specs.Tags.Prelude.{ℕ, List, first, Shape, entries}
use Rattle.refusals.specs.AfterLaws.{kept, made}
use Rattle.refusals.specs.RefusedLaws.{some-number}
use Rattle.file_dng.specs.declared.tags.DngSize.{DngSize}
use Rattle.file_dng.specs.Tags.Refusals.{tag_tests}
use Rattle.file_dng.specs.Tags.Faults.{fault_tag}
use Rattle.file_dng.specs.Tags.Size.{lone_shape, lone_refusal, dng_size}
use Rattle.file_dng.proofs.tags.size.dng_size.Goals as goal

-- the number of the tests
number_is : {k : ℕ} (file : List ℕ) (shape : Shape) → shape ≡ lone_shape file (entries file) → k ≡ first (tag_tests file (entries file) shape) → k ≡ lone_refusal file (entries file)
unfolding lone_refusal
number_is file shape s e = e ∙ ap (λ (s : Shape). first (tag_tests file (entries file) s)) s

abbrev refusal : (number tag : ℕ) → DngSize
refusal number tag = record { refusal = number; tag = tag; width = 0; height = 0 }

pub returns-in-Ok : goal.returns-in-Ok
unfolding dng_size
returns-in-Ok c =
    made _ _ _ (number_is c.args.file.now _ c.lone_shape-shape.ensures c.in-Ok.ensures) refl
    (ap (λ (s : Shape). record { refusal = 0; tag = 0; width = s.width; height = s.height }) c.lone_shape-shape.ensures)

pub returns-in-Err : goal.returns-in-Err
unfolding dng_size
returns-in-Err c =
    let file = c.args.file.now in
    let is = number_is file _ c.lone_shape-shape.ensures c.in-Err.ensures in
    ap₂ refusal (c.number.ensures ∙ is) (c.fault_tag.ensures ∙ ap₂ (λ (n : ℕ) (s : Shape). fault_tag n file (entries file) s) is c.lone_shape-shape.ensures)
    ∙ kept _ _ _ is (λ z. let some = some-number c.in-Err.refusal in absurd (omega (arith, z, some)))
