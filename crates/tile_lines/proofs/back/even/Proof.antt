-- `tile_lines::back::even`: the even places' sums, by computed tests for either `own`.
use Rattle.std.specs.Prelude.{◌∷◌, ◌*◌}
use Rattle.tile_lines.specs.Back.Prelude.{refl, ap, ◌∙◌, List, [], ℕ, rules, get_or, Float, nan, of_bits, of_int, sum_z, tab, cosines, cosine16, side16, half_z, frequency_of, phase_of, basis_of, half_basis_of, basis, even_sum_of, even_half_of}
use Rattle.algebra.specs.Ring.{con, ◌⊠◌}
use Rattle.algebra.specs.Ring as ring
use Rattle.algebra.specs.Forms.{sum_e}
use Rattle.floats.specs.Kernels.{Form}
use Rattle.recipe.specs.Side.{cos_at}
use Rattle.tile_spectrum.specs.Lines.DoubleForms.{floats, forms-are}
use Rattle.tile_spectrum.specs.Lines.Program.{arg, ◌⊕◌, ◌⊖◌, ◌⊗◌, ◌>>=◌, give, double_forms}
use Rattle.tile_lines.proofs.back.even as of

-- number k is place 2k
abbrev results : (own : ℕ) → List Form
results own = double_forms 8 do
  p ← own ⊗ (arg 0 ⊕ arg 4)
  m ← own ⊗ (arg 0 ⊖ arg 4)
  k ← 16384 ⊗ arg 2
  j ← 16384 ⊗ arg 6
  a ← p ⊕ k
  b ← m ⊖ j
  c ← p ⊖ k
  d ← m ⊕ j
  e ← 16384 ⊗ (arg 1 ⊕ arg 3)
  f ← 16384 ⊗ (arg 7 ⊖ arg 5)
  g ← 11585 ⊗ (arg 1 ⊖ arg 3)
  h ← 11585 ⊗ (arg 5 ⊕ arg 7)
  q ← g ⊖ h
  u ← g ⊕ h
  give (a ⊕ e ∷ b ⊕ q ∷ c ⊕ f ∷ d ⊖ u ∷ a ⊖ e ∷ b ⊖ q ∷ c ⊖ f ∷ d ⊕ u ∷ [])

-- as the code reads them
abbrev read : (own : ℕ) → List Float → List Float
read own z = floats (results own) (λ k. get_or z k nan)

returns : of.Tie.Need-returns
unfolding tab sum_z even_sum_of even_half_of half_z half_basis_of basis_of frequency_of phase_of cos_at side16 cosine16 cosines of_bits of_int
returns c =
    record {
      whole = λ o g most e. rw o (ap (read 16384) e ∙ forms-are 8 g most refl (results 16384) (tab 8 (λ n. sum_e 8 (λ k. ring.var k ⊠ con (basis (2 * k) n)))) tt tt);
      half = λ o g most e. rw o (ap (read 8192) e ∙ forms-are 8 g most refl (results 8192) (tab 8 (λ n. sum_e 8 (λ k. ring.var k ⊠ con (half_basis_of side16 (2 * k) n)))) tt tt);
    }

pub even_spec : {M : Type 1} → of.Statement.statement M
even_spec = of.Tie.close (of.Tie.spec
    (λ c. search rules) (λ c. search rules) (λ c. search rules) (λ c. search rules) (λ c. search rules)
    (λ c. search rules) (λ c. search rules) (λ c. search rules) (λ c. search rules) (λ c. search rules)
    (λ c. search rules) (λ c. search rules) (λ c. search rules) (λ c. search rules) returns)
