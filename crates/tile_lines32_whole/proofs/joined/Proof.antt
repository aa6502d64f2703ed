-- `tile_lines32_whole::joined`: the places from the two parts.
use Rattle.tile_lines32_whole.specs.Prelude.{lit<}
use Rattle.tile_lines32_whole.proofs.OddParts.{sum_fits, difference-fits, joined_is}
use Rattle.tile_lines32_whole.proofs.joined as of

returns : of.Tie.Need-returns
returns c z w =
    let s = c.before.before.before.before.before.before.before.before.before.before.before.before.before.before.before.before.before.before.before.before.before.before.before.before.before.before.before.before.before.before.before.before in
    joined_is s.requires.0 s.requires.1 z w

pub joined_spec : {M : Type 1} → of.Statement.statement M
joined_spec = of.Tie.close (of.Tie.spec
    (λ c. lit< tt) (λ c. lit< tt) (λ c. search sum_fits) (λ c. lit< tt) (λ c. lit< tt) (λ c. search sum_fits)
    (λ c. lit< tt) (λ c. lit< tt) (λ c. search sum_fits) (λ c. lit< tt) (λ c. lit< tt) (λ c. search sum_fits)
    (λ c. lit< tt) (λ c. lit< tt) (λ c. search difference-fits) (λ c. lit< tt) (λ c. lit< tt) (λ c. search difference-fits)
    (λ c. lit< tt) (λ c. lit< tt) (λ c. search difference-fits) (λ c. lit< tt) (λ c. lit< tt) (λ c. search difference-fits)
    (λ c. lit< tt) (λ c. lit< tt) (λ c. search sum_fits) (λ c. lit< tt) (λ c. lit< tt) (λ c. search sum_fits)
    (λ c. lit< tt) (λ c. lit< tt) (λ c. search sum_fits) (λ c. lit< tt) (λ c. lit< tt) (λ c. search sum_fits)
    (λ c. lit< tt) (λ c. lit< tt) (λ c. search difference-fits)
    (λ c. lit< tt) (λ c. lit< tt) (λ c. let s = c.before.before.before.before.before.before.before.before.before.before.before.before.before.before.before.before.before.before.before.before.before.before.before.before.before.before.before.before in difference-fits s.requires.1 s.requires.0 6)
    (λ c. lit< tt) (λ c. lit< tt) (λ c. let s = c.before.before.before.before.before.before.before.before.before.before.before.before.before.before.before.before.before.before.before.before.before.before.before.before.before.before.before.before.before.before in difference-fits s.requires.1 s.requires.0 5)
    (λ c. lit< tt) (λ c. lit< tt) (λ c. let s = c.before.before.before.before.before.before.before.before.before.before.before.before.before.before.before.before.before.before.before.before.before.before.before.before.before.before.before.before.before.before.before.before in difference-fits s.requires.1 s.requires.0 4)
    returns)
