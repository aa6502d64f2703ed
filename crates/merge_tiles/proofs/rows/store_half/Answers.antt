-- A row a turn.
use Rattle.std.proofs.Common.{◌≡◌, ◌+◌, ◌-◌, ◌≤◌, ℕ, List, length, get_or, take, drop, ap, subst, ◌∙◌, arith, rules, length-take-le, length-drop, get_or-take, get_or-drop}
use Rattle.merge_tiles.specs.Prelude.{ℤ, pos, cell}
use Rattle.sequences.specs.Grid.{tab-ext}
use Rattle.sequences.specs.Written.{written}
use Rattle.std.proofs.Math.Seq.{paste}
use Rattle.merge_tiles.specs.Rows.{Spread}
use Rattle.merge_tiles.specs.StoreLaws.{spread-start, spread-turn}
use Rattle.merge_tiles.proofs.rows.store_half.Goals as goal

-- a part of a row is written by its words
module _ (d : List ℤ) (at : ℕ) (row : List ℤ) (from n : ℕ) (room : from + n ≤ length row) where
  abbrev part : List ℤ
  part = take (from + n - from) (drop from row)

  part-written : written d at (λ j. get_or part j (pos 0)) (length part) ≡ written d at (λ j. get_or row (from + j) (pos 0)) n
  unfolding written
  part-written =
      let long : length part ≡ n = length-take-le _ _ (simp length-drop (omega arith)) ∙ omega arith in
      ap (written d at (λ j. get_or part j (pos 0))) long
      ∙ ap (λ t. written d at (λ j. get_or t j (pos 0)) n) (ap (λ k. take k (drop from row)) (omega arith))
      ∙ ap (λ t. paste d at t n) (tab-ext n _ _ (λ j h. get_or-take n (drop from row) j (pos 0) h ∙ get_or-drop from row j (pos 0)))

pub loop-i-init : goal.loop-i-init
loop-i-init g c = spread-start

pub loop-i-preserved : goal.loop-i-preserved
unfolding cell
loop-i-preserved g c = spread-turn tt c.loop-i.invariant (grind arith) (c.store_block.ensures ∙ part-written _ _ _ _ _ (search rules))

pub returns : goal.returns
returns g c =
    let all : c.loop-i.i ≡ g.row.SIDE = omega arith in
    subst (λ n. Spread (Unit {0}) (λ i j. cell (pos 0) c.args.tile.now i (c.args.from + j)) c.args.at g.row.SIDE g.row.SIDE n c.args.work.now c.loop-i.work) all c.loop-i.invariant
