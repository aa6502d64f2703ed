-- `tile_lines::back::odd`: the odd places' sums, by computed tests.
use Rattle.std.specs.Prelude.{◌∷◌, ◌+◌, ◌*◌}
use Rattle.tile_lines.specs.Back.Prelude.{List, [], of_bits, of_int, sum_z, tab, cosines, cosine16, side16, frequency_of, phase_of, basis_of, basis, odd_sum_of}
use Rattle.algebra.specs.Ring.{con, ◌⊠◌}
use Rattle.algebra.specs.Ring as ring
use Rattle.algebra.specs.Forms.{sum_e}
use Rattle.floats.specs.Kernels.{Form}
use Rattle.recipe.specs.Side.{cos_at}
use Rattle.tile_spectrum.specs.Lines.DoubleForms.{forms-are}
use Rattle.tile_spectrum.specs.Lines.Program.{arg, ◌⊕◌, ◌⊖◌, minus, ◌⊗◌, ◌>>=◌, give, double_forms}
use Rattle.tile_lines.proofs.back.odd as of

-- number k is place 2k + 1
abbrev results : List Form
results = double_forms 8 do
  p ← arg 0 ⊖ arg 3
  q ← arg 1 ⊖ arg 2
  r ← arg 0 ⊕ arg 3
  s ← arg 1 ⊕ arg 2
  u ← arg 4 ⊕ arg 7
  w ← arg 5 ⊕ arg 6
  x ← arg 7 ⊖ arg 4
  y ← arg 5 ⊖ arg 6
  a ← 15137 ⊗ p ⊕ 6270 ⊗ q
  b ← 11585 ⊗ (r ⊖ s)
  c ← 6270 ⊗ p ⊖ 15137 ⊗ q
  d ← 15137 ⊗ w ⊕ 6270 ⊗ u
  e ← 11585 ⊗ (x ⊖ y)
  f ← 6270 ⊗ w ⊖ 15137 ⊗ u
  give (16384 ⊗ (r ⊕ s) ∷ a ⊖ d ∷ b ⊕ e ∷ c ⊕ f ∷ 16384 ⊗ (x ⊕ y) ∷ f ⊖ c ∷ e ⊖ b ∷ minus a ⊖ d ∷ [])

returns : of.Tie.Need-returns
unfolding tab sum_z odd_sum_of basis_of frequency_of phase_of cos_at side16 cosine16 cosines of_bits of_int
returns c z most e = forms-are 8 z most e results (tab 8 (λ n. sum_e 8 (λ k. ring.var k ⊠ con (basis (2 * k + 1) n)))) tt tt

pub odd_spec : {M : Type 1} → of.Statement.statement M
odd_spec = of.Tie.close (of.Tie.spec returns)
