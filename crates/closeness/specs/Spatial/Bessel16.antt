-- Bessel's inequality for side 16: 4295154752 times the squares of the numbers, less the squares of the sums, is a sum of squares, by one computed identity of polynomials.
use Rattle.std.specs.Prelude.{◌∷◌, ◌+◌, ◌*◌}
use Rattle.closeness.specs.Spatial.Prelude.{List, [], ℕ, ℤ, neg_ℤ, sum_z, Expr, var, con, ◌⊞◌, ◌⊟◌, ◌⊠◌, #◌, cos_at, sin_at, cosines, cosine16, sine16, side16}
use Rattle.algebra.specs.Forms.{sum_e}
use Rattle.algebra.specs.Cert.{num, Cert, sqr, ◌⊕◌, ◌⊗◌, by_le}
use Rattle.closeness.specs.Spatial.Bessel.{Bessel, Gain}

-- the numbers a + i·b of the line, and the places that stand for them
abbrev numbers : (a b : ℕ → ℤ) → List ℤ
numbers a b =
    a 0 ∷ a 1 ∷ a 2 ∷ a 3 ∷ a 4 ∷ a 5 ∷ a 6 ∷ a 7 ∷ a 8 ∷ a 9 ∷ a 10 ∷ a 11 ∷ a 12 ∷ a 13 ∷ a 14 ∷ a 15 ∷ b 0 ∷ b 1 ∷ b 2 ∷ b 3 ∷ b 4 ∷ b 5 ∷ b 6 ∷ b 7 ∷ b 8 ∷ b 9 ∷ b 10 ∷ b 11 ∷ b 12 ∷ b 13 ∷ b 14 ∷ b 15 ∷ []

abbrev A : ℕ → Expr
A j = var j

abbrev B : ℕ → Expr
B j = var (16 + j)

abbrev squared : Expr → Expr
squared e = e ⊠ e

abbrev sums : (c t : ℕ → ℕ → ℤ) → Expr
sums c t =
    sum_e 16 (λ k. squared (sum_e 16 (λ j. A j ⊠ con (c k j) ⊟ B j ⊠ con (t k j))) ⊞ squared (sum_e 16 (λ j. A j ⊠ con (t k j) ⊞ B j ⊠ con (c k j))))

abbrev bound : Expr
bound = # 4295154752 ⊠ sum_e 16 (λ j. squared (A j) ⊞ squared (B j))

-- the table's lines are nearly at right angles: lines of odd numbers meet those 4, 8 and 12 further on, lines 2 and 6 those 8 further on
module _ {ρ : ℕ → ℤ} where
  abbrev own : ℕ → Cert ρ
  own i = num 187456 ⊗ (sqr (A i) ⊕ sqr (B i))

  abbrev alike : ℕ → ℕ → Cert ρ
  alike i j = num 44024 ⊗ (sqr (A i ⊟ A j) ⊕ sqr (B i ⊟ B j))

  abbrev unlike : ℕ → ℕ → Cert ρ
  unlike i j = num 93728 ⊗ (sqr (A i ⊞ A j) ⊕ sqr (B i ⊞ B j))

  abbrev two : ℕ → Cert ρ
  two i = num 2 ⊗ alike i (8 + i) ⊕ own i ⊕ own (8 + i)

  abbrev four : ℕ → Cert ρ
  four i =
      alike i (4 + i) ⊕ alike (4 + i) (8 + i) ⊕ alike (8 + i) (12 + i) ⊕ alike (12 + i) i ⊕ unlike i (8 + i) ⊕ unlike (4 + i) (12 + i)

  abbrev rest : Cert ρ
  rest = own 0 ⊕ own 4 ⊕ own 8 ⊕ own 12 ⊕ two 2 ⊕ two 6 ⊕ four 1 ⊕ four 3

back : Bessel 16 4295154752 (λ k j. cos_at side16 (j * k)) (λ k j. sin_at side16 (j * k))
unfolding sum_z cos_at sin_at side16 sine16 cosine16 cosines
back = record { line = λ a b. by_le (numbers a b) (sums (λ k j. cos_at side16 (j * k)) (λ k j. sin_at side16 (j * k))) bound rest tt }

forth : Bessel 16 4295154752 (λ k j. cos_at side16 (k * j)) (λ k j. neg_ℤ (sin_at side16 (k * j)))
unfolding sum_z cos_at sin_at side16 sine16 cosine16 cosines
forth = record { line = λ a b. by_le (numbers a b) (sums (λ k j. cos_at side16 (k * j)) (λ k j. neg_ℤ (sin_at side16 (k * j)))) bound rest tt }

pub gain16 : Gain side16 4295154752
unfolding side16
gain16 = record { back = back; forth = forth }
