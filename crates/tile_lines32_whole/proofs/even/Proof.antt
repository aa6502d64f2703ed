-- `tile_lines32_whole::even`: eight places from the eight sums: that each step fits, and that the results are the places, by computed tests.
use Rattle.std.specs.Prelude.{◌∷◌, ◌*◌}
use Rattle.tile_lines32_whole.specs.Prelude.{List, [], ℤ, tab, cosines, cosine16, side16, frequency_of, phase_of, basis_of, folded_of}
use Rattle.algebra.specs.Ring.{var, con, ◌⊠◌}
use Rattle.algebra.specs.Sums.{sum_z}
use Rattle.algebra.specs.Forms.{sum_e}
use Rattle.recipe.specs.Side.{cos_at}
use Rattle.tile_spectrum.specs.Lines.Program.{Program, arg, ◌⊕◌, ◌⊖◌, minus, ◌⊗◌, wide, ◌>>=◌, give, steps-fit, results-are}
use Rattle.tile_lines32_whole.proofs.even as of

abbrev xs : of.Tie.Start → List ℤ
xs s = s.args.s0 ∷ s.args.s1 ∷ s.args.s2 ∷ s.args.s3 ∷ s.args.s4 ∷ s.args.s5 ∷ s.args.s6 ∷ s.args.s7 ∷ []

abbrev even : Program
even = do
  a ← wide (arg 0) ⊕ wide (arg 4)
  b ← wide (arg 1) ⊕ wide (arg 5)
  c ← wide (arg 2) ⊕ wide (arg 6)
  d ← wide (arg 3) ⊕ wide (arg 7)
  p ← 11585 ⊗ wide (arg 1 ⊖ arg 5)
  q ← 11585 ⊗ wide (arg 3 ⊖ arg 7)
  m ← 16384 ⊗ wide (arg 0 ⊖ arg 4)
  n ← 16384 ⊗ wide (arg 2 ⊖ arg 6)
  g ← p ⊖ q
  h ← p ⊕ q
  give (16384 ⊗ (a ⊕ c ⊕ (b ⊕ d)) ∷ m ⊕ g ∷ 16384 ⊗ (a ⊖ c) ∷ m ⊖ g ∷ 16384 ⊗ (a ⊕ c ⊖ (b ⊕ d)) ∷ minus n ⊖ h ∷ 16384 ⊗ (d ⊖ b) ∷ n ⊖ h ∷ [])

returns : of.Tie.Need-returns
unfolding tab sum_z folded_of basis_of frequency_of phase_of cos_at side16 cosine16 cosines
returns s = results-are xs (λ s. s.requires) tt s even (tab 8 (λ i. sum_e 8 (λ n. var n ⊠ con (basis_of side16 (2 * i) n)))) tt tt

pub even_spec : {M : Type 1} → of.Statement.statement M
even_spec = of.Tie.close (steps-fit xs (λ s. s.requires) tt even (λ s. tt) of.Tie.spec returns)
