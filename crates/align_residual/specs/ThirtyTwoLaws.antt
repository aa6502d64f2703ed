-- A row of a tile of side 32 in two parts.
use Rattle.std.specs.Prelude.{◌≡◌, ◌+◌}
use Rattle.algebra.specs.Prelude.{ap, ap₂, ◌∙◌, Bool, false, List, ℕ, arith, get_or}
use Rattle.algebra.specs.Sums.{sum_n}
use Rattle.algebra.specs.SumLaws.{sum_n-cong}
use Rattle.align_residual.specs.Residual.{gap, difference}
use Rattle.align_residual.specs.Local.{row_sum, beside_sum}

parts : (f : ℕ → ℕ) → sum_n 16 f + sum_n 16 (λ j. f (16 + j)) ≡ sum_n 32 f
unfolding sum_n
parts f = omega arith

-- the first sixteen samples and the others
pub row-halves : (squared : Bool) (tile window : List ℕ) (a b : ℕ) → row_sum squared tile window a b 16 + row_sum squared tile window (a + 16) (b + 16) 16 ≡ row_sum squared tile window a b 32
unfolding row_sum
row-halves squared tile window a b =
    let f : ℕ → ℕ = λ j. difference squared (get_or tile (a + j) 0) (get_or window (b + j) 0) in
    ap₂ ◌+◌ (sum_n-cong 16 _ f (λ j h. omega arith))
    (sum_n-cong 16 _ (λ j. f (16 + j)) (λ j h. ap₂ (λ m n. difference squared (get_or tile m 0) (get_or window n 0)) (omega arith) (omega arith)))
    ∙ parts f

-- eight times four places, eight apart
quarters : (f : ℕ → ℕ) → sum_n 8 (λ j. f j + f (8 + j) + (f (16 + j) + f (24 + j))) ≡ sum_n 32 f
unfolding sum_n
quarters f = omega arith

-- the distances of four pairs of samples, eight apart in their rows
abbrev pub four_sum : (tile window : List ℕ) → (a b : ℕ) → ℕ
four_sum tile window a b = beside_sum tile window a b + beside_sum tile window (a + 16) (b + 16)

-- a row
pub four-row : (tile window : List ℕ) (a b : ℕ) → sum_n 8 (λ j. four_sum tile window (a + j) (b + j)) ≡ row_sum false tile window a b 32
unfolding row_sum difference
four-row tile window a b =
    let g : ℕ → ℕ → ℕ = λ m n. gap (get_or tile m 0) (get_or window n 0) in
    let f : ℕ → ℕ = λ j. g (a + j) (b + j) in
    sum_n-cong 8 _ _
    (λ j h. ap₂ ◌+◌ (ap (λ n. f j + n) (ap₂ g (omega arith) (omega arith))) (ap₂ ◌+◌ (ap₂ g (omega arith) (omega arith)) (ap₂ g (omega arith) (omega arith))))
    ∙ quarters f
