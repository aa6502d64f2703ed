-- `tile_lines32_back::even_cosines`: the real parts at even numbers, by computed tests.
use Rattle.std.specs.Prelude.{◌∷◌, ◌*◌}
use Rattle.tile_lines32_back.specs.Prelude.{refl, ap, ◌∙◌, List, [], rules, T, get_or, Float, nan, of_bits, of_int, Expr, sum_z, same, tab, Form, cos_at, cosines32, cosine32, side32, half_z, frequency_of, phase_of, basis_of}
use Rattle.tile_spectrum.specs.Lines.DoubleForms.{floats, exprs, forms-are}
use Rattle.tile_spectrum.specs.Lines.Program.{arg, ◌⊕◌, ◌⊖◌, ◌⊗◌, ◌>>=◌, give, double_forms}
use Rattle.tile_lines32_back.specs.Parts.{part_basis, cosine_part}
use Rattle.tile_lines32_back.proofs.PartSums.{cosines_e}
use Rattle.tile_lines32_back.proofs.even_cosines as of

-- number k is place 2k + 1
abbrev results : List Form
results = double_forms 16 do
  a1 ← arg 0 ⊕ arg 7
  a3 ← arg 1 ⊕ arg 6
  a5 ← arg 2 ⊕ arg 5
  a7 ← arg 3 ⊕ arg 4
  p ← a1 ⊖ a7
  q ← a3 ⊖ a5
  r ← a1 ⊕ a7
  s ← a3 ⊕ a5
  give (8192 ⊗ (r ⊕ s) ∷ 15137 ⊗ p ⊕ 6270 ⊗ q ∷ 11585 ⊗ (r ⊖ s) ∷ 6270 ⊗ p ⊖ 15137 ⊗ q ∷ [])

-- as the code reads them
abbrev read : List Float → List Float
read t = floats results (λ k. get_or t k nan)

-- they are the sums
abbrev sums : List Expr
sums = tab 4 (λ n. cosines_e (2 * n))

sums_same : T (same (exprs 16 results) sums)
unfolding tab part_basis half_z basis_of frequency_of phase_of cos_at side32 cosine32 cosines32
sums_same = tt

returns : of.Tie.Need-returns
unfolding tab sum_z cosine_part part_basis half_z basis_of frequency_of phase_of cos_at side32 cosine32 cosines32 of_bits of_int
returns c z most e = ap read e ∙ forms-are 16 z most refl results sums tt sums_same

pub even_cosines_spec : {M : Type 1} → of.Statement.statement M
even_cosines_spec = of.Tie.close (of.Tie.spec
    (λ c. search rules) (λ c. search rules) (λ c. search rules) (λ c. search rules) (λ c. search rules) (λ c. search rules)
    (λ c. search rules) (λ c. search rules)
    returns)
