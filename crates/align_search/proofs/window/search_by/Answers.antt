use Rattle.align_search.specs.Prelude.{refl, arith, lit<}
use Rattle.sequences.specs.Sum.{sum-start, sum-turn}
use Rattle.sequences.specs.LeastLaws.{lowest_start, lowest-take, lowest-keep}
use Rattle.align_search.specs.Table.{downs, rights}
use Rattle.align_search.specs.WindowLaws.{kind-most}
use Rattle.align_search.proofs.Searching.{offset-inside, offset-found, offset_not-found, offset_rows-are, offset_rows-few}
use Rattle.align_search.proofs.window.search_by.Goals as goal
use Rattle.align_search.proofs.window.search_by.Goals.{in-Some, in_default}

pub loop-k-init : goal.loop-k-init
loop-k-init g c = (lowest_start, sum-start)

pub try_offset-tried-requires : goal.try_offset-tried-requires
unfolding downs rights
try_offset-tried-requires g c = offset-inside c.requires.0 c.requires.1 c.loop-k-test.true c.wide-y.ensures c.wide-x.ensures

pub overflow_add-rows : goal.overflow_add-rows
unfolding downs rights
overflow_add-rows g c =
    let few = offset_rows-few c.requires.0 c.requires.1 c.loop-k-test.true c.wide-y.ensures c.wide-x.ensures c.try_offset-tried.ensures c.loop-k.invariant.0 in
    omega (arith, few, c.loop-k.invariant.1.most)

pub loop-k-preserved : goal.loop-k-preserved
unfolding downs rights
loop-k-preserved g c =
    let w = c.requires.0 in
    let kind = c.requires.1 in
    let h = c.loop-k-test.true in
    let l = c.try_offset-tried.ensures in
    let b = kind-most _ w kind c.loop-k.k h in
    let found = c.loop-k.invariant.0 in (
      elim c.match-tried.branch [
        | in-Some s ↦
            let t = offset-found w kind h c.wide-y.ensures c.wide-x.ensures l s.in-Some.is in
            rw (s.best-is, s.low-is) (lowest-take found h t.1 (omega (arith, t.1, b)) t.0)
        | in_default s ↦ rw (s.best-is, s.low-is) (lowest-keep found h refl b (lit< tt) (offset_not-found w kind h c.wide-y.ensures c.wide-x.ensures l s.in_default.is))
      ],
      sum-turn c.loop-k.invariant.1 h (offset_rows-are w kind h c.wide-y.ensures c.wide-x.ensures l found) (offset_rows-few w kind h c.wide-y.ensures c.wide-x.ensures l found),
    )
