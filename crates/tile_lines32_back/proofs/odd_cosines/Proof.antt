-- `tile_lines32_back::odd_cosines`: the real parts at odd numbers, by computed tests.
use Rattle.std.specs.Prelude.{◌∷◌, ◌+◌, ◌*◌}
use Rattle.tile_lines32_back.specs.Prelude.{refl, ap, ◌∙◌, List, [], rules, T, get_or, Float, nan, of_bits, of_int, Expr, sum_z, same, tab, Form, cos_at, cosines32, cosine32, side32, half_z, frequency_of, phase_of, basis_of}
use Rattle.tile_spectrum.specs.Lines.DoubleForms.{floats, exprs, forms-are}
use Rattle.tile_spectrum.specs.Lines.Program.{arg, ◌⊕◌, ◌⊖◌, ◌⊗◌, ◌>>=◌, give, double_forms}
use Rattle.tile_lines32_back.specs.Parts.{part_basis, cosine_part}
use Rattle.tile_lines32_back.proofs.PartSums.{cosines_e}
use Rattle.tile_lines32_back.proofs.odd_cosines as of

-- number k is place 2k + 1
abbrev results : List Form
results = double_forms 16 do
  d1 ← arg 0 ⊖ arg 7
  d3 ← arg 1 ⊖ arg 6
  d5 ← arg 2 ⊖ arg 5
  d7 ← arg 3 ⊖ arg 4
  give (16069 ⊗ d1 ⊕ 13623 ⊗ d3 ⊕ (9102 ⊗ d5 ⊕ 3196 ⊗ d7) ∷ 13623 ⊗ d1 ⊖ 3196 ⊗ d3 ⊖ (16069 ⊗ d5 ⊕ 9102 ⊗ d7) ∷ 9102 ⊗ d1 ⊖ 16069 ⊗ d3 ⊕ (3196 ⊗ d5 ⊕ 13623 ⊗ d7) ∷ 3196 ⊗ d1 ⊖ 9102 ⊗ d3 ⊕ (13623 ⊗ d5 ⊖ 16069 ⊗ d7) ∷ [])

-- as the code reads them
abbrev read : List Float → List Float
read t = floats results (λ k. get_or t k nan)

-- they are the sums
abbrev sums : List Expr
sums = tab 4 (λ n. cosines_e (2 * n + 1))

sums_same : T (same (exprs 16 results) sums)
unfolding tab part_basis half_z basis_of frequency_of phase_of cos_at side32 cosine32 cosines32
sums_same = tt

returns : of.Tie.Need-returns
unfolding tab sum_z cosine_part part_basis half_z basis_of frequency_of phase_of cos_at side32 cosine32 cosines32 of_bits of_int
returns c z most e = ap read e ∙ forms-are 16 z most refl results sums tt sums_same

pub odd_cosines_spec : {M : Type 1} → of.Statement.statement M
odd_cosines_spec = of.Tie.close (of.Tie.spec
    (λ c. search rules) (λ c. search rules) (λ c. search rules) (λ c. search rules) (λ c. search rules) (λ c. search rules)
    (λ c. search rules) (λ c. search rules)
    returns)
