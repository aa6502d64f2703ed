-- `tile_lines::whole::even`: eight places from the eight sums: that each step fits, and that the results are the places, by computed tests.
use Rattle.std.specs.Prelude.{◌∷◌, ◌*◌}
use Rattle.tile_lines.specs.Whole.Prelude.{List, [], ℤ, tab, cosines, cosine16, side16, frequency_of, phase_of, basis_of, basis, folded_of}
use Rattle.algebra.specs.Ring.{var, con, ◌⊠◌}
use Rattle.algebra.specs.Sums.{sum_z}
use Rattle.algebra.specs.Forms.{sum_e}
use Rattle.recipe.specs.Side.{cos_at}
use Rattle.tile_spectrum.specs.Lines.Program.{steps-fit, results-are}
use Rattle.tile_lines.specs.Kernels.{even}
use Rattle.tile_lines.proofs.whole.even as of

abbrev xs : of.Tie.Start → List ℤ
xs s = s.args.s0 ∷ s.args.s1 ∷ s.args.s2 ∷ s.args.s3 ∷ s.args.s4 ∷ s.args.s5 ∷ s.args.s6 ∷ s.args.s7 ∷ []

returns : of.Tie.Need-returns
unfolding tab sum_z folded_of basis_of frequency_of phase_of cos_at side16 cosine16 cosines
returns s = results-are xs (λ s. s.requires) tt s even (tab 8 (λ i. sum_e 8 (λ n. var n ⊠ con (basis (2 * i) n)))) tt tt

pub even_spec : {M : Type 1} → of.Statement.statement M
even_spec = of.Tie.close (steps-fit xs (λ s. s.requires) tt even (λ s. tt) of.Tie.spec returns)
