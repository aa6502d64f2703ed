-- Each step fits: the sum is the largest number.
use Rattle.std.specs.Prelude.{◌≡◌, ◌∷◌, ◌^◌}
use Rattle.algebra.specs.Prelude.{◌∙◌, List, [], ℕ, arith, rules, ℤ, pos, w64, to_z}
use mir.Facts.{to_z_pos}
use Rattle.algebra.specs.Ring.{nth}
use Rattle.algebra.specs.Code.{Code, par, loc, lit, add, sub, mul, shr, Bounded, fits, val-den}
use Rattle.merge_gather.specs.Work.{sum_most}
use Rattle.merge_gather.proofs.scaled as of

abbrev xs : of.Tie.Start → List ℤ
xs c = to_z w64 c.args.t0 ∷ to_z w64 c.args.count ∷ c.args.sum ∷ []

abbrev bs : List ℕ
bs = 65535 ∷ 8 ∷ sum_most ∷ []

t0-is : (c : of.Tie.Start) → to_z w64 c.args.t0 ≡ pos c.args.t0
t0-is c = to_z_pos w64 (omega (arith, c.ranges.t0))

count-is : (c : of.Tie.Start) → to_z w64 c.args.count ≡ pos c.args.count
count-is c = to_z_pos w64 (omega (arith, c.requires.0))

small : (c : of.Tie.Start) → Bounded (xs c) bs
small c = (rw (t0-is c) (omega (arith, c.ranges.t0)), (rw (count-is c) c.requires.0, (c.requires.1.most, tt)))

module _ (c : of.Tie.Start) where
  abbrev First : Code (nth (xs c))
  First = mul w64 (loc 0) (loc 1)

  abbrev Half : Code (nth (xs c))
  Half = mul w64 (loc 1) (lit (pos 2147483648))

  abbrev Rest : Code (nth (xs c))
  Rest = sub w64 Half (par w64 2 c.ranges.sum)

  abbrev Result : Code (nth (xs c))
  Result = add w64 First (shr w64 Rest (2 ^ 32))

mul-result : of.Tie.Need-overflow_mul-result
mul-result c = fits (xs c) bs (small c) w64 (First c) tt

add-result : of.Tie.Need-overflow_add-result
add-result c = fits (xs c) bs (small c) w64 (Result c) tt

returns : of.Tie.Need-returns
returns c = val-den (xs c) bs (small c) (Result c) tt ∙ rw (t0-is c, count-is c)

pub scaled_spec : {M : Type 1} → of.Statement.statement M
scaled_spec = of.Tie.close (of.Tie.spec
    (λ c. search rules) (λ c. search rules) mul-result (λ c. search rules)
    (λ c. fits (xs c) bs (small c) w64 (Half c) tt) (λ c. fits (xs c) bs (small c) w64 (Rest c) tt)
    add-result returns)
