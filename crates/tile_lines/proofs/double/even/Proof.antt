-- `tile_lines::double::even`: eight places from the eight sums, by computed tests.
use Rattle.std.specs.Prelude.{◌*◌}
use Rattle.tile_lines.specs.Double.Prelude.{of_bits, of_int, tab, cosines, cosine16, side16, frequency_of, phase_of, basis_of, basis, folded_of}
use Rattle.algebra.specs.Ring.{var, con, ◌⊠◌}
use Rattle.algebra.specs.Sums.{sum_z}
use Rattle.algebra.specs.Forms.{sum_e}
use Rattle.recipe.specs.Side.{cos_at}
use Rattle.tile_spectrum.specs.Lines.DoubleForms.{forms-are}
use Rattle.tile_spectrum.specs.Lines.Program.{double_forms}
use Rattle.tile_lines.specs.Kernels.{even}
use Rattle.tile_lines.proofs.double.even as of

returns : of.Tie.Need-returns
unfolding tab sum_z folded_of basis_of frequency_of phase_of cos_at side16 cosine16 cosines of_bits of_int
returns c s most e = forms-are 8 s most e (double_forms 8 even) (tab 8 (λ i. sum_e 8 (λ n. var n ⊠ con (basis (2 * i) n)))) tt tt

pub even_spec : {M : Type 1} → of.Statement.statement M
even_spec = of.Tie.close (of.Tie.spec returns)
