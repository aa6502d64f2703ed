use Rattle.std.proofs.Common.{rules, ◌≡◌}
use Rattle.std.specs.Prelude.{◌/◌, ◌%◌}
use Rattle.tile_spatial.specs.Prelude.{refl, ap, ◌∙◌, Bool, true, false, cond, List, [], ℕ, eqb, get_or, tab, either}
use Rattle.sequences.specs.Grid.{grid, cell, tab-ext}
use Rattle.sequences.specs.MadeLaws.{made-tab}
use Rattle.tile_spatial.proofs.lanes.lanes.Goals as goal

-- a row of either plane
row_of : (c : Bool) (a b : List (List ℕ)) (u : ℕ) → cond c (get_or a u []) (get_or b u []) ≡ get_or (cond c a b) u []
row_of true a b u = refl
row_of false a b u = refl

pub returns : goal.returns
unfolding grid cell
returns c =
    made-tab c.from_fn.ensures.items (λ u. tab 18 (λ l. cell 0 (either c.args.first.now c.args.second.now (l % 2)) u (l / 2)))
    (λ u y q i d.
    let row : y ≡ tab 18 (λ l. get_or (either (get_or c.args.first.now u []) (get_or c.args.second.now u []) (l % 2)) (l / 2) 0) = search rules in
    (row ∙ tab-ext 18 _ _ (λ k h. ap (λ t. get_or t (k / 2) 0) (row_of (eqb (k % 2) 0) c.args.first.now c.args.second.now u)), search rules))
