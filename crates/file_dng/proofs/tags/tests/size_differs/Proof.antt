-- The sizes are below 2^32, so their product fits; a length that is twice it is even.
use Rattle.algebra.specs.Prelude.{arith, rules}
use native.Mathlib.Nat.{mul-le-mul}
use Rattle.file_dng.specs.Tags.TagLaws.{width-differs, height-differs, odd-differs, half-differs}
use Rattle.file_dng.proofs.tags.tests.size_differs as of

returns : of.Tie.Need-returns-then-value_of-shape
returns c = width-differs _ _ _ c.value_of.ensures.0 c.if-value_of-shape.true

returns-2 : of.Tie.Need-returns-then-value_of-shape-2
returns-2 c =
    let first = c.before.before.before in
    height-differs _ _ _ first.value_of.ensures.0 first.if-value_of-shape.false c.value_of-2.ensures.0 c.if-value_of-shape-2.true

returns-3 : of.Tie.Need-returns-then-length-ne0
returns-3 c =
    let second = c.before.before in
    let first = second.before.before.before in
    odd-differs _ _ _ first.value_of.ensures.0 first.if-value_of-shape.false second.value_of-2.ensures.0 second.if-value_of-shape-2.false c.strip_length-length.ensures.0 c.if-length-ne0.true

mul-result : of.Tie.Need-overflow_mul-result
mul-result c =
    let third = c.before in
    let second = third.before.before in
    let first = second.before.before.before in
    let shape = first.args.shape in
    omega (arith, mul-le-mul {n₁ = shape.width} {m₁ = shape.height} {n₂ = 4294967295} {m₂ = 4294967295} (omega (arith, first.value_of.ensures.1, first.if-value_of-shape.false)) (omega (arith, second.value_of-2.ensures.1, second.if-value_of-shape-2.false)))

returns-4 : of.Tie.Need-returns
returns-4 c =
    let third = c.before in
    let second = third.before.before in
    let first = second.before.before.before in
    half-differs _ _ _ first.value_of.ensures.0 first.if-value_of-shape.false second.value_of-2.ensures.0 second.if-value_of-shape-2.false third.strip_length-length.ensures.0 third.if-length-ne0.false

pub size_differs_spec : {M : Type 1} → of.Statement.statement M
size_differs_spec = of.Tie.close (of.Tie.spec
    (λ c κs. search rules) returns (λ c κs. search rules) returns-2 (λ c κs. search rules) returns-3
    mul-result returns-4)
