-- `tile_lines32_double::odd_sines`: the odd numbers' part of the imaginary parts, by computed tests.
use Rattle.std.specs.Prelude.{◌∷◌, ◌+◌, ◌*◌}
use Rattle.tile_lines32_double.specs.Prelude.{List, [], rules, of_bits, of_int, sum_z, tab, Form, cos_at, cosines32, cosine32, side32, frequency_of, phase_of, basis_of, folded_of, every_second}
use Rattle.tile_spectrum.specs.Lines.Program.{arg, ◌⊕◌, ◌⊖◌, minus, ◌⊗◌, ◌>>=◌, give, double_forms}
use Rattle.tile_lines32_double.proofs.FourParts.{part_e, line-are}
use Rattle.tile_lines32_double.proofs.odd_sines as of

abbrev results : List Form
results = double_forms 16 do
  b ← arg 1 ⊕ arg 15
  d ← arg 3 ⊕ arg 13
  e ← arg 5 ⊕ arg 11
  f ← arg 7 ⊕ arg 9
  give (minus (3196 ⊗ b) ⊖ 9102 ⊗ d ⊖ 13623 ⊗ e ⊖ 16069 ⊗ f ∷ 13623 ⊗ f ⊖ 9102 ⊗ b ⊖ 16069 ⊗ d ⊖ 3196 ⊗ e ∷ 16069 ⊗ e ⊖ 13623 ⊗ b ⊖ 3196 ⊗ d ⊖ 9102 ⊗ f ∷ 13623 ⊗ d ⊖ 16069 ⊗ b ⊕ 3196 ⊗ f ⊖ 9102 ⊗ e ∷ [])

returns : of.Tie.Need-returns
unfolding tab sum_z folded_of every_second basis_of frequency_of phase_of cos_at side32 cosine32 cosines32 of_bits of_int
returns c z most e =
    let s = c.before.before.before.before.before.before.before.before in
    line-are s.args.p s.requires z most e results (tab 4 (λ i. part_e 1 (2 * i + 17))) tt tt

pub odd_sines_spec : {M : Type 1} → of.Statement.statement M
odd_sines_spec = of.Tie.close (of.Tie.spec
    (λ c. search rules) (λ c. search rules) (λ c. search rules) (λ c. search rules) (λ c. search rules) (λ c. search rules)
    (λ c. search rules) (λ c. search rules) (λ c. search rules) (λ c. search rules) (λ c. search rules) (λ c. search rules)
    (λ c. search rules) (λ c. search rules) (λ c. search rules) (λ c. search rules) (λ c. search rules) (λ c. search rules)
    (λ c. search rules) (λ c. search rules) (λ c. search rules) (λ c. search rules) (λ c. search rules) (λ c. search rules)
    returns)
