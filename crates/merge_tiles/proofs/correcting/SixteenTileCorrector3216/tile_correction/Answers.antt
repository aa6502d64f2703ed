-- What is taken from T0 is its sums, or these with the spatial filter's.
use Rattle.std.specs.Prelude.{◌≡◌, ◌≤◌}
use Rattle.std.proofs.Common.{sym, subst}
use Rattle.merge_tiles.specs.Prelude.{List, ℕ, ℤ, suc, arith, lit≤, either, side16, side_of, small_most, Merge, scene_at, SpatialRange}
use Rattle.merge_tiles.specs.declared.Site.{Site}
use Rattle.merge_tiles.specs.Accepted.{Accepted, Tuned}
use Rattle.merge_tiles.specs.Asked.{PairSummed}
use Rattle.merge_tiles.specs.Sum.{Taken}
use Rattle.merge_tiles.specs.DifferenceLaws.{tile-fits, reference-most}
use Rattle.merge_tiles.specs.NoiseLaws.{both}
use Rattle.merge_tiles.specs.Sixteen.{side_is}
use Rattle.merge_tiles.specs.TileLaws.{taken-off}
use Rattle.merge_tiles.proofs.Filtering.{sums-fit, sums-paired, taken-on}
use Rattle.merge_tiles.proofs.correcting.SixteenTileCorrector3216.tile_correction.Goals as goal

-- the pair's sums, by the recipe's side
at_16 : (m : Merge) (samples : List ℕ) (vectors : List ℤ) (site : Site) (t0 : List (List ℕ)) (first second : ℕ) (sum : List (List ℤ)) →
    PairSummed 16 small_most (scene_at (side_of 16) m samples vectors) site t0 first second sum → PairSummed 16 small_most (scene_at side16 m samples vectors) site t0 first second sum
at_16 m samples vectors site t0 first second sum = subst (λ side. PairSummed 16 small_most (scene_at side m samples vectors) site t0 first second sum) side_is

-- N frames
frames-are : {m : Merge} {samples : List ℕ} {vectors : List ℤ} → Accepted 16 m samples vectors → m.shape.count ≡ suc (scene_at side16 m samples vectors).others
unfolding scene_at
frames-are ok = let h = ok.burst.allowed.some in omega arith

tuned : {m : Merge} {samples : List ℕ} {vectors : List ℤ} → Accepted 16 m samples vectors → Tuned m
tuned ok = record { some = ok.burst.allowed.some; few = ok.burst.allowed.few; shot_most = ok.shot_most; read_most = ok.read_most; spatial-most = ok.spatial-most }

pub returns-then-burst-eq0-clause-taken : goal.returns-then-burst-eq0-clause-taken
unfolding scene_at
returns-then-burst-eq0-clause-taken c =
    let few = c.requires.accepted.burst.allowed.few in
    taken-off _ _ c.if-burst-eq0.true 16 small_most (omega arith) (lit≤ tt) c.sum_pair-roots.ensures.summed.sums

pub filter_sums-requires : goal.filter_sums-requires
filter_sums-requires c =
    let a = c.args in
    let ok = c.requires.accepted in
    let p = at_16 a.burst.merge a.burst.samples.now a.burst.vectors.now a.site _ _ _ _ c.sum_pair-roots.ensures.summed in
    let fits = tile-fits 16 _ (reference-most side16 ok c.requires.sited) p.tile in
    record {
      tuned = tuned ok;
      first_most = p.first_most;
      second_most = p.second_most;
      samples = record { row = λ y. record { at = λ l. (fits.row y).most l } };
      sums = sums-fit _ _ _ (frames-are ok) p.sums;
      paired = sums-paired p.sums;
    }

pub returns-clause-taken : goal.returns-clause-taken
returns-clause-taken c =
    let a = c.args in
    let k = tuned c.requires.accepted in
    let p = at_16 a.burst.merge a.burst.samples.now a.burst.vectors.now a.site _ _ _ _ c.sum_pair-roots.ensures.summed in
    let first = c.sum_pair-roots.result.first in
    let second = c.sum_pair-roots.result.second in
    let range : (root : ℕ) → root ≤ 65520 → SpatialRange a.burst.merge.tuning.spatial a.burst.merge.shot a.burst.merge.read root a.burst.merge.shape.count =
    λ root h. record { strength = k.spatial-most; shot = k.shot_most; read = k.read_most; root = h; some = k.some; few = k.few } in
    subst (λ side. Taken 16 (scene_at side a.burst.merge a.burst.samples.now a.burst.vectors.now) a.site c.filter_sums.new.sum) (sym side_is)
    (taken-on a.burst.merge a.burst.samples.now a.burst.vectors.now a.site _ _ first second k.some k.few p.tile p.sums p.roots
    (both (λ q. SpatialRange a.burst.merge.tuning.spatial a.burst.merge.shot a.burst.merge.read (either first second q) a.burst.merge.shape.count) (range _ p.first_most) (range _ p.second_most))
    c.filter_sums.ensures)
