-- `tile_lines32_double::even_cosines`: the even numbers' part of the real parts, by computed tests.
use Rattle.std.specs.Prelude.{◌∷◌, ◌+◌, ◌*◌}
use Rattle.tile_lines32_double.specs.Prelude.{List, [], rules, of_bits, of_int, sum_z, tab, Form, cos_at, cosines32, cosine32, side32, frequency_of, phase_of, basis_of, folded_of, every_second}
use Rattle.tile_spectrum.specs.Lines.Program.{arg, ◌⊕◌, ◌⊖◌, ◌⊗◌, ◌>>=◌, give, double_forms}
use Rattle.tile_lines32_double.proofs.FourParts.{part_e, line-are}
use Rattle.tile_lines32_double.proofs.even_cosines as of

abbrev results : List Form
results = double_forms 16 do
  b ← arg 2 ⊖ arg 14
  d ← arg 6 ⊖ arg 10
  a ← 16384 ⊗ arg 0
  c ← 11585 ⊗ (arg 4 ⊖ arg 12)
  m ← a ⊕ c
  n ← a ⊖ c
  w ← 6270 ⊗ b ⊖ 15137 ⊗ d
  give (m ⊕ 15137 ⊗ b ⊕ 6270 ⊗ d ∷ n ⊕ w ∷ n ⊖ w ∷ m ⊖ 15137 ⊗ b ⊖ 6270 ⊗ d ∷ [])

returns : of.Tie.Need-returns
unfolding tab sum_z folded_of every_second basis_of frequency_of phase_of cos_at side32 cosine32 cosines32 of_bits of_int
returns c z most e =
    let s = c.before.before.before.before.before.before.before in
    line-are s.args.p s.requires z most e results (tab 4 (λ i. part_e 0 (2 * i + 1))) tt tt

pub even_cosines_spec : {M : Type 1} → of.Statement.statement M
even_cosines_spec = of.Tie.close (of.Tie.spec
    (λ c. search rules) (λ c. search rules) (λ c. search rules) (λ c. search rules) (λ c. search rules) (λ c. search rules)
    (λ c. search rules) (λ c. search rules) (λ c. search rules) (λ c. search rules) (λ c. search rules) (λ c. search rules)
    (λ c. search rules) (λ c. search rules) (λ c. search rules) (λ c. search rules) (λ c. search rules) (λ c. search rules)
    (λ c. search rules) (λ c. search rules)
    returns)
