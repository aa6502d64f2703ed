-- `tile_lines32_back::odd_sines`: the imaginary parts at odd numbers, by computed tests.
use Rattle.std.specs.Prelude.{◌∷◌, ◌+◌, ◌*◌}
use Rattle.tile_lines32_back.specs.Prelude.{refl, ap, ◌∙◌, cond, List, [], rules, T, ltb, get_or, pos, Float, nan, binary64, of_bits, of_int, Expr, sum_z, same, tab, Form, cos_at, cosines32, cosine32, side32, half_z, frequency_of, phase_of, basis_of}
use Rattle.tile_spectrum.specs.Lines.DoubleForms.{floats, exprs, forms-are}
use Rattle.tile_spectrum.specs.Lines.Program.{arg, ◌⊕◌, ◌⊖◌, minus, ◌⊗◌, ◌>>=◌, give, double_forms}
use Rattle.tile_lines32_back.specs.Parts.{part_basis, sine_part}
use Rattle.tile_lines32_back.proofs.PartSums.{sines_e}
use Rattle.tile_lines32_back.proofs.odd_sines as of

-- number k is place 2k + 1
abbrev results : List Form
results = double_forms 16 do
  w1 ← arg 8 ⊕ arg 15
  w3 ← arg 9 ⊕ arg 14
  w5 ← arg 10 ⊕ arg 13
  w7 ← arg 11 ⊕ arg 12
  give (minus (3196 ⊗ w1 ⊕ 9102 ⊗ w3 ⊕ (13623 ⊗ w5 ⊕ 16069 ⊗ w7)) ∷ 13623 ⊗ w7 ⊖ 9102 ⊗ w1 ⊖ (16069 ⊗ w3 ⊕ 3196 ⊗ w5) ∷ 16069 ⊗ w5 ⊖ 13623 ⊗ w1 ⊖ (3196 ⊗ w3 ⊕ 9102 ⊗ w7) ∷ 13623 ⊗ w3 ⊖ 16069 ⊗ w1 ⊕ (3196 ⊗ w7 ⊖ 9102 ⊗ w5) ∷ [])

-- as the code reads them
abbrev read : List Float → List Float
read t = floats results (λ k. cond (ltb k 16) (get_or t k nan) (of_int binary64 (pos 0)))

-- they are the sums
abbrev sums : List Expr
sums = tab 4 (λ n. sines_e (2 * n + 1))

sums_same : T (same (exprs 16 results) sums)
unfolding tab part_basis half_z basis_of frequency_of phase_of cos_at side32 cosine32 cosines32
sums_same = tt

returns : of.Tie.Need-returns
unfolding tab sum_z sine_part part_basis half_z basis_of frequency_of phase_of cos_at side32 cosine32 cosines32 of_bits of_int
returns c z most e = ap read e ∙ forms-are 16 z most refl results sums tt sums_same

pub odd_sines_spec : {M : Type 1} → of.Statement.statement M
odd_sines_spec = of.Tie.close (of.Tie.spec
    (λ c. search rules) (λ c. search rules) (λ c. search rules) (λ c. search rules) (λ c. search rules) (λ c. search rules)
    (λ c. search rules) (λ c. search rules)
    returns)
