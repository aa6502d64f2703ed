-- What is known of sharpness and of the frame chosen by it.
use Rattle.std.specs.Prelude.{◌≡◌, ◌+◌, ◌-◌, ◌*◌, ◌/◌, ◌≤◌, ◌<◌}
use Rattle.sharpness.specs.Prelude.{ap₂, List, ℕ, arith, ltb, min, Shape, Image, sample_at, plane_of, Allowed, SamplesFit}
use Rattle.std.proofs.Common.{mul-le-mul}
use borrow.Author.Tests.{lt-ltb, le-ltb, ltb-true, ltb-false}
use Rattle.algebra.specs.SumLaws.{sum_n-cong, sum_n-bound}
use Rattle.sequences.specs.Least.{first_by}
use Rattle.sequences.specs.FirstLaws.{first_most, first_cong, Order, unbeaten, beats-before}
use Rattle.sharpness.specs.Sharpness.{step, row_steps, steps, green, first_max, sharpness, sharpest}

-- the steps of a plane of at most 2048 by 2048 samples, each at most 4095
steps-most : (height width down right : ℕ) (plane : Image) → ((row column : ℕ) → row < height → column < width → plane row column ≤ 4095) → steps height width down right plane ≤ (height - down) * ((width - right) * 4095)
unfolding steps row_steps
steps-most height width down right plane most =
    sum_n-bound (height - down) ((width - right) * 4095) (row_steps width down right plane)
    (λ row r. sum_n-bound (width - right) 4095 _ (λ column c. omega (arith, most row column (omega arith) (omega arith), most (row + down) (column + right) (omega arith) (omega arith))))

-- u64 has room for it
pub sharpness-most : {s : Shape} {samples : List ℕ} → Allowed s → SamplesFit s samples → (frame : ℕ) → frame < s.count → sharpness s samples frame ≤ 34334576640
unfolding sharpness plane_of
sharpness-most {s} {samples} ok fit frame h =
    let high = s.height / 2 in
    let wide = s.width / 2 in
    let most : (row column : ℕ) → row < high → column < wide → green s samples frame row column ≤ 4095 = λ row column r c. fit.most frame (2 * row + 0) (2 * column + 1) h (omega arith) (omega arith) in
    omega (
      arith,
      steps-most high wide 0 1 (green s samples frame) most,
      steps-most high wide 1 0 (green s samples frame) most,
      mul-le-mul {n₁ = high - 0} {m₁ = (wide - 1) * 4095} {n₂ = 2048} {m₂ = 8382465} (omega (arith, ok.high.most)) (omega (arith, ok.wide.most)),
      mul-le-mul {n₁ = high - 1} {m₁ = (wide - 0) * 4095} {n₂ = 2047} {m₂ = 8386560} (omega (arith, ok.high.most)) (omega (arith, ok.wide.most)),
    )

greater : Order (λ a b. ltb b a)
greater =
    record {
      never = λ a. le-ltb a a (omega arith);
      not_back = λ a b h. le-ltb a b (omega (arith, ltb-true b a h));
      over = λ a b c h l. lt-ltb c a (omega (arith, ltb-true b a h, ltb-false b c l));
    }

-- a place of those compared
first_max-most : (f : ℕ → ℕ) (n : ℕ) → first_max f n ≤ n
first_max-most = first_most (λ a b. ltb b a)

module _ (s : Shape) (samples : List ℕ) where
  -- one of the burst's frames, and of the first three
  pub sharpest-below : 1 ≤ s.count → sharpest s samples < s.count
  unfolding sharpest
  sharpest-below h = omega (arith, first_max-most (sharpness s samples) (min s.count 3 - 1))

  pub sharpest-third : sharpest s samples ≤ 2
  unfolding sharpest
  sharpest-third = omega (arith, first_max-most (sharpness s samples) (min s.count 3 - 1))

  -- "the sharpest": none of the first three is sharper
  pub none-sharper : (frame : ℕ) → frame < s.count → frame < 3 → sharpness s samples frame ≤ sharpness s samples (sharpest s samples)
  unfolding sharpest
  none-sharper frame h t = ltb-false _ _ (unbeaten greater (sharpness s samples) (min s.count 3 - 1) frame (omega arith))

  -- "A tie goes to the lower index": those before it are less sharp
  pub earlier-less : (frame : ℕ) → frame < sharpest s samples → sharpness s samples frame < sharpness s samples (sharpest s samples)
  unfolding sharpest
  earlier-less frame h = ltb-true _ _ (beats-before greater (sharpness s samples) (min s.count 3 - 1) frame h)

  -- "0 where there is one"
  pub lone-first : s.count ≤ 1 → sharpest s samples ≡ 0
  unfolding sharpest first_by
  lone-first h = let none : min s.count 3 - 1 ≡ 0 = omega arith in rw none

steps-same : (height width down right : ℕ) (p q : Image) → ((row column : ℕ) → row < height → column < width → p row column ≡ q row column) → steps height width down right p ≡ steps height width down right q
unfolding steps row_steps
steps-same height width down right p q e =
    sum_n-cong (height - down) _ _
    (λ row r. sum_n-cong (width - right) _ _ (λ column c. ap₂ step (e row column (omega arith) (omega arith)) (e (row + down) (column + right) (omega arith) (omega arith))))

-- the same samples, the same frame
pub sharpest-same : (s : Shape) (samples samples₂ : List ℕ) → Allowed s →
    ((frame row column : ℕ) → frame < s.count → row < s.height → column < s.width → sample_at s samples₂ frame row column ≡ sample_at s samples frame row column) →
    sharpest s samples₂ ≡ sharpest s samples
unfolding sharpest sharpness plane_of
sharpest-same s samples samples₂ ok same = first_cong (λ a b. ltb b a) (sharpness s samples₂) (sharpness s samples) (min s.count 3 - 1) (λ frame h. frames frame (omega (arith, ok.some)))
  where
    frames : (frame : ℕ) → frame < s.count → sharpness s samples₂ frame ≡ sharpness s samples frame
    frames frame f =
        let plane : (row column : ℕ) → row < s.height / 2 → column < s.width / 2 → green s samples₂ frame row column ≡ green s samples frame row column = λ row column r c. same frame (2 * row + 0) (2 * column + 1) f (omega arith) (omega arith) in
        ap₂ ◌+◌
        (steps-same (s.height / 2) (s.width / 2) 0 1 (green s samples₂ frame) (green s samples frame) plane)
        (steps-same (s.height / 2) (s.width / 2) 1 0 (green s samples₂ frame) (green s samples frame) plane)
