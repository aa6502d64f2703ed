-- `tile_lines32_back::even_sines`: the imaginary parts at even numbers, by computed tests.
use Rattle.std.specs.Prelude.{◌∷◌, ◌+◌, ◌*◌}
use Rattle.tile_lines32_back.specs.Prelude.{refl, ap, ◌∙◌, List, [], rules, T, get_or, Float, nan, of_bits, of_int, Expr, sum_z, same, tab, Form, cos_at, cosines32, cosine32, side32, half_z, frequency_of, phase_of, basis_of}
use Rattle.tile_spectrum.specs.Lines.DoubleForms.{floats, exprs, forms-are}
use Rattle.tile_spectrum.specs.Lines.Program.{arg, ◌⊕◌, ◌⊖◌, ◌⊗◌, ◌>>=◌, give, double_forms}
use Rattle.tile_lines32_back.specs.Parts.{part_basis, sine_part}
use Rattle.tile_lines32_back.proofs.PartSums.{sines_e}
use Rattle.tile_lines32_back.proofs.even_sines as of

-- number k is place 2k + 1
abbrev results : List Form
results = double_forms 16 do
  u1 ← arg 15 ⊖ arg 8
  u3 ← arg 14 ⊖ arg 9
  u5 ← arg 13 ⊖ arg 10
  u7 ← arg 12 ⊖ arg 11
  u ← u1 ⊕ u7
  w ← u3 ⊕ u5
  x ← u1 ⊖ u7
  y ← u5 ⊖ u3
  give (15137 ⊗ w ⊕ 6270 ⊗ u ∷ 11585 ⊗ (x ⊖ y) ∷ 15137 ⊗ u ⊖ 6270 ⊗ w ∷ 8192 ⊗ (x ⊕ y) ∷ [])

-- as the code reads them
abbrev read : List Float → List Float
read t = floats results (λ k. get_or t k nan)

-- they are the sums
abbrev sums : List Expr
sums = tab 4 (λ n. sines_e (2 * n + 2))

sums_same : T (same (exprs 16 results) sums)
unfolding tab part_basis half_z basis_of frequency_of phase_of cos_at side32 cosine32 cosines32
sums_same = tt

returns : of.Tie.Need-returns
unfolding tab sum_z sine_part part_basis half_z basis_of frequency_of phase_of cos_at side32 cosine32 cosines32 of_bits of_int
returns c z most e = ap read e ∙ forms-are 16 z most refl results sums tt sums_same

pub even_sines_spec : {M : Type 1} → of.Statement.statement M
even_sines_spec = of.Tie.close (of.Tie.spec
    (λ c. search rules) (λ c. search rules) (λ c. search rules) (λ c. search rules) (λ c. search rules) (λ c. search rules)
    (λ c. search rules) (λ c. search rules)
    returns)
