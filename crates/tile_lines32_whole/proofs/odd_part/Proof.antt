-- `tile_lines32_whole::odd_part`: what the odd differences add: that each step fits, and what the results are, by computed tests.
use Rattle.std.specs.Prelude.{◌∷◌, ◌+◌, ◌*◌, ◌/◌, ◌%◌}
use Rattle.tile_lines32_whole.specs.Prelude.{List, [], ℤ, sum_z, tab, cosines32, cosine32, side32, frequency_of, phase_of, basis_of}
use Rattle.algebra.specs.Ring.{var, con, ◌⊠◌}
use Rattle.algebra.specs.Forms.{sum_e}
use Rattle.recipe.specs.Side.{cos_at}
use Rattle.tile_spectrum.specs.Lines.Program.{Program, arg, ◌⊕◌, ◌⊖◌, minus, ◌⊗◌, wide, ◌>>=◌, give, steps-fit, results-are}
use Rattle.tile_lines32_whole.proofs.odd_part as of

abbrev xs : of.Tie.Start → List ℤ
xs s = s.args.t1 ∷ s.args.t3 ∷ s.args.t5 ∷ s.args.t7 ∷ s.args.t9 ∷ s.args.t11 ∷ s.args.t13 ∷ s.args.t15 ∷ []

-- argument n is number 2n + 1 of the differences
abbrev odd_part : Program
odd_part = do
  b1 ← wide (arg 0 ⊖ arg 7)
  b3 ← wide (arg 1 ⊖ arg 6)
  b5 ← wide (arg 2 ⊖ arg 5)
  b7 ← wide (arg 3 ⊖ arg 4)
  h1 ← wide (arg 0 ⊕ arg 7)
  h3 ← wide (arg 1 ⊕ arg 6)
  h5 ← wide (arg 2 ⊕ arg 5)
  h7 ← wide (arg 3 ⊕ arg 4)
  give (16069 ⊗ b1 ⊕ 13623 ⊗ b3 ⊕ (9102 ⊗ b5 ⊕ 3196 ⊗ b7) ∷ 13623 ⊗ b1 ⊖ 3196 ⊗ b3 ⊖ (16069 ⊗ b5 ⊕ 9102 ⊗ b7) ∷ 9102 ⊗ b1 ⊖ 16069 ⊗ b3 ⊕ (3196 ⊗ b5 ⊕ 13623 ⊗ b7) ∷ 3196 ⊗ b1 ⊖ 9102 ⊗ b3 ⊕ (13623 ⊗ b5 ⊖ 16069 ⊗ b7) ∷ minus (3196 ⊗ h1 ⊕ 9102 ⊗ h3) ⊖ (13623 ⊗ h5 ⊕ 16069 ⊗ h7) ∷ 13623 ⊗ h7 ⊖ 9102 ⊗ h1 ⊖ (16069 ⊗ h3 ⊕ 3196 ⊗ h5) ∷ 16069 ⊗ h5 ⊖ 13623 ⊗ h1 ⊖ (3196 ⊗ h3 ⊕ 9102 ⊗ h7) ∷ 13623 ⊗ h3 ⊖ 16069 ⊗ h1 ⊕ (3196 ⊗ h7 ⊖ 9102 ⊗ h5) ∷ [])

returns : of.Tie.Need-returns
unfolding tab sum_z basis_of frequency_of phase_of cos_at side32 cosine32 cosines32
returns s = results-are xs (λ s. s.requires) tt s odd_part (tab 8 (λ i. sum_e 8 (λ n. var n ⊠ con (basis_of side32 (2 * (i % 4) + 1 + 16 * (i / 4)) (2 * n + 1))))) tt tt

pub odd_part_spec : {M : Type 1} → of.Statement.statement M
odd_part_spec = of.Tie.close (steps-fit xs (λ s. s.requires) tt odd_part (λ s. tt) of.Tie.spec returns)
