-- `tile_lines32_double::even_sines`: the even numbers' part of the imaginary parts, by computed tests.
use Rattle.std.specs.Prelude.{◌∷◌, ◌+◌, ◌*◌}
use Rattle.tile_lines32_double.specs.Prelude.{List, [], rules, of_bits, of_int, sum_z, tab, Form, cos_at, cosines32, cosine32, side32, frequency_of, phase_of, basis_of, folded_of, every_second}
use Rattle.tile_spectrum.specs.Lines.Program.{arg, ◌⊕◌, ◌⊖◌, minus, ◌⊗◌, ◌>>=◌, give, double_forms}
use Rattle.tile_lines32_double.proofs.FourParts.{part_e, line-are}
use Rattle.tile_lines32_double.proofs.even_sines as of

abbrev results : List Form
results = double_forms 16 do
  b ← arg 2 ⊕ arg 14
  d ← arg 6 ⊕ arg 10
  e ← 16384 ⊗ arg 8
  g ← 11585 ⊗ (arg 4 ⊕ arg 12)
  m ← e ⊕ g
  w ← 6270 ⊗ d ⊖ 15137 ⊗ b
  give (minus (m ⊕ 6270 ⊗ b ⊕ 15137 ⊗ d) ∷ e ⊖ g ⊕ w ∷ g ⊖ e ⊕ w ∷ m ⊖ 6270 ⊗ b ⊖ 15137 ⊗ d ∷ [])

returns : of.Tie.Need-returns
unfolding tab sum_z folded_of every_second basis_of frequency_of phase_of cos_at side32 cosine32 cosines32 of_bits of_int
returns c z most e =
    let s = c.before.before.before.before.before.before.before in
    line-are s.args.p s.requires z most e results (tab 4 (λ i. part_e 0 (2 * i + 17))) tt tt

pub even_sines_spec : {M : Type 1} → of.Statement.statement M
even_sines_spec = of.Tie.close (of.Tie.spec
    (λ c. search rules) (λ c. search rules) (λ c. search rules) (λ c. search rules) (λ c. search rules) (λ c. search rules)
    (λ c. search rules) (λ c. search rules) (λ c. search rules) (λ c. search rules) (λ c. search rules) (λ c. search rules)
    (λ c. search rules) (λ c. search rules) (λ c. search rules) (λ c. search rules) (λ c. search rules) (λ c. search rules)
    (λ c. search rules) (λ c. search rules) (λ c. search rules)
    returns)
