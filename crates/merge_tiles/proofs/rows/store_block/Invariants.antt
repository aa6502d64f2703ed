use Rattle.merge_tiles.specs.Prelude.{pos, length, get_or}
use Rattle.sequences.specs.Write.{Writing}
use Rattle.merge_tiles.proofs.rows.store_block.Given as goal

-- the words passed stand in their places
abbrev pub invariant-loop-j : goal.invariant-loop-j
invariant-loop-j l = Writing l.fn.work l.fn.at (λ j. get_or l.fn.words j (pos 0)) (length l.fn.words) l.j l.work
