-- The loop sums the words of the images before number k.
use Rattle.std.specs.Prelude.{◌≡◌, ◌+◌, ◌-◌, ◌*◌, ◌/◌, ◌≤◌, ◌<◌}
use Rattle.align_pyramid.specs.Prelude.{refl, ap, ap₂, ◌∙◌, ℕ, arith, rules, level_size}
use native.Mathlib.Nat.{mul-le-mul}
use native.Mathlib.Numerals.{add-one}
use Rattle.align_pyramid.specs.Chain.{halves, words_before}
use Rattle.align_pyramid.specs.ChainLaws.{words-rise, words-third}
use Rattle.align_pyramid.specs.Layout.{offset}
use Rattle.align_pyramid.proofs.offset as of

-- the words of the images before number i are summed, of k
record Summing (height width k i h w sum : ℕ) : Type 0 where
  count : i ≤ k
  high : h ≡ halves height i
  wide : w ≡ halves width i
  is : sum ≡ words_before height width i

module _ {height width k : ℕ} where
  sum-start : Summing height width k 0 height width 0
  unfolding halves words_before
  sum-start = record { count = omega arith; high = refl; wide = refl; is = refl }

  sum-turn : {i h w sum : ℕ} → Summing height width k i h w sum → i < k → Summing height width k (i + 1) (h / 2) (w / 2) (sum + h * w)
  unfolding halves words_before
  sum-turn {i} s less =
      rw (add-one i)
      (record {
        count = omega arith;
        high = ap (λ x. x / 2) s.high;
        wide = ap (λ x. x / 2) s.wide;
        is = ap₂ ◌+◌ s.is (ap₂ ◌*◌ s.high s.wide);
      })

  -- which stay few
  sum-most : {i h w sum : ℕ} → Summing height width k i h w sum → i ≤ 6 → height ≤ 2048 → width ≤ 2048 → sum ≤ 5592405
  sum-most {i} s less a b =
      omega (arith, s.is, words-rise height width i 6 less, words-third height width, mul-le-mul {n₁ = height} {m₁ = width} {n₂ = 2048} {m₂ = 2048} a b)

abbrev invariant-loop : of.Tie.invariant-loop
invariant-loop k height₀ width₀ sum₀ counter₀ height width sum counter = Summing height₀ width₀ k counter height width sum

abbrev decreases-loop : of.Tie.decreases-loop
decreases-loop k height₀ width₀ sum₀ counter₀ height width sum counter = k - counter

bound : (c : of.Tie.In-loop invariant-loop decreases-loop) → let s = c.before.loop in s.sum + s.height * s.width ≤ 5592405
bound c = sum-most (sum-turn c.before.loop.invariant (omega arith)) (omega arith) (omega arith) (omega arith)

loop-again : of.Tie.Need-loop-preserved invariant-loop decreases-loop
loop-again c = sum-turn c.before.loop.invariant (omega arith)

returns : of.Tie.Need-returns invariant-loop decreases-loop
unfolding offset level_size
returns c =
    let s = c.before.loop in
    let all : s.counter ≡ c.before.before.before.before.args.k = omega arith in
    (s.invariant.is ∙ ap (words_before _ _) all, sum-most s.invariant (omega arith) (omega arith) (omega arith))

pub offset_spec : {M : Type 1} → of.Statement.statement M
offset_spec = of.Tie.close (of.Tie.spec
    invariant-loop decreases-loop (λ c. sum-start) (λ c. omega (arith, bound c)) (λ c. omega (arith, bound c))
    (λ c. search rules) (λ c. search rules) loop-again returns)
