-- Whatever the noise numbers between their ends, the merged sample lies between the low and the high one; where the ends are equal, so are all three.
use Rattle.std.specs.Prelude.{◌≡◌, ◌≤◌, ◌-ℤ◌, ◌≤ℤ◌}
use Rattle.range.specs.Prelude.{refl, ap, ap₂, ℕ, ℤ, min_z, max_z, away, Side}
use Rattle.std.proofs.Math.Path.{fun_ext}
use Rattle.algebra.specs.SumLaws.{sum_z-cong}
use Rattle.algebra.specs.ClampLaws.{min_cases, max_cases}
use Rattle.recipe.specs.Correction.{inverse_re, inverse_at, correction_at}
use Rattle.recipe.specs.Output.{row_in, column_in}
use Rattle.recipe.specs.PlainOutput.{output_sample}
use Rattle.range.specs.Range.{end_re, least_at, greatest_at, sample_from, low_sample, high_sample}
use Rattle.range.specs.RangeLaws.{least-below, greatest-above, sample-falls}

module _ (s : Side) (a b others : ℕ) (lower noise upper : ℕ → ℕ) (h : (t : ℕ) → lower t ≤ noise t) (k : (t : ℕ) → noise t ≤ upper t) (d : ℕ → ℕ → ℕ → ℕ → ℤ) (t0 : ℤ) where
  pub sample-inside : (low_sample s a b others lower upper d t0 ≤ℤ output_sample s a b others noise d t0) × (output_sample s a b others noise d t0 ≤ℤ high_sample s a b others lower upper d t0)
  unfolding low_sample high_sample output_sample
  sample-inside = (
    sample-falls s a b others _ _ t0 (λ t z. greatest-above s (lower t) (noise t) (upper t) (h t) (k t) (d t z) (row_in s a t) (column_in s b t)),
    sample-falls s a b others _ _ t0 (λ t z. least-below s (lower t) (noise t) (upper t) (h t) (k t) (d t z) (row_in s a t) (column_in s b t)),
  )

-- ---- equal ends

min-same : (a : ℤ) → min_z a a ≡ a
min-same a = min_cases a a (λ m. m ≡ a) (λ h. refl) (λ h. refl)

max-same : (a : ℤ) → max_z a a ≡ a
max-same a = max_cases a a (λ m. m ≡ a) (λ h. refl) (λ h. refl)

module _ (s : Side) (noise : ℕ) (d : ℕ → ℕ → ℤ) (y x : ℕ) where
  end_same : (added taken : ℤ → ℤ → ℤ) → ((a : ℤ) → added a a ≡ a) → ((a : ℤ) → taken a a ≡ a) → away (end_re s added taken noise noise d y x) s.divisor ≡ correction_at s noise d y x
  unfolding end_re correction_at inverse_at inverse_re
  end_same added taken h k =
      ap (λ z. away z s.divisor) (sum_z-cong s.side _ _ (λ u i. sum_z-cong s.side _ _ (λ v j. ap₂ ◌-ℤ◌ (h _) (k _))))

  pub greatest-same : greatest_at s noise noise d y x ≡ correction_at s noise d y x
  unfolding greatest_at
  greatest-same = end_same max_z min_z max-same min-same

  pub least-same : least_at s noise noise d y x ≡ correction_at s noise d y x
  unfolding least_at
  least-same = end_same min_z max_z min-same max-same

-- "Equal curves give low and high equal to the plain merge"
module _ (s : Side) (a b others : ℕ) (noise : ℕ → ℕ) (d : ℕ → ℕ → ℕ → ℕ → ℤ) (t0 : ℤ) where
  pub low_same : low_sample s a b others noise noise d t0 ≡ output_sample s a b others noise d t0
  unfolding low_sample output_sample
  low_same = ap (λ P. sample_from s a b others P t0) (fun_ext (λ t. fun_ext (λ z. greatest-same s (noise t) (d t z) (row_in s a t) (column_in s b t))))

  pub high_same : high_sample s a b others noise noise d t0 ≡ output_sample s a b others noise d t0
  unfolding high_sample output_sample
  high_same = ap (λ P. sample_from s a b others P t0) (fun_ext (λ t. fun_ext (λ z. least-same s (noise t) (d t z) (row_in s a t) (column_in s b t))))
