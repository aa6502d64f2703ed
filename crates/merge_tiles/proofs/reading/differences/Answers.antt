-- The pair of the frame that the index names, moved by the vector that stands at its place.
use Rattle.std.specs.Prelude.{◌≡◌, ◌+◌, ◌<◌, ◌-ℤ◌}
use Rattle.algebra.specs.Prelude.{List, ℕ, ℤ, ap, ◌∙◌, arith, rules, pos, get_or, w32, to_z, of_z}
use Rattle.merge_tiles.specs.Prelude.{Sampled, VectorsFit, Merge, grid, cell, sample_at, side_of, tile_at, other_tile, scene_at}
use Rattle.geometry.specs.Vectors.{other_frame, vector_place}
use Rattle.merge_tiles.specs.declared.Site.{Site}
use Rattle.merge_tiles.specs.DifferenceLaws.{pair-rows, difference-grid, tile-fits, part-most, part-is, other-pair-is, site-row, site-column, reference-most, other-most}
use Rattle.merge_tiles.specs.Sum.{pair_at}
use Rattle.merge_tiles.proofs.reading.differences.Goals as goal

pub vector_place-place-requires : goal.vector_place-place-requires
vector_place-place-requires g c =
    let r = c.requires.comparable in
    let ok = r.accepted in
    record { allowed = ok.burst.allowed; sided = ok.burst.sided; other = r.frame; row_in = site-row ok r.sited; column-in = site-column ok r.sited }

pub pair-requires : goal.pair-requires
pair-requires g c =
    let r = c.requires.comparable in
    let v = r.accepted.vectors_fit in
    let burst : record { sampled : Sampled c.args.burst.merge.shape c.args.burst.samples.now; frame_below : c.other_frame-frame.result < c.args.burst.merge.shape.count } = record { sampled = search rules; frame_below = search rules } in (
      omega arith,
      (
        omega arith,
        (
          record {
            sampled = burst.sampled;
            frame_below = burst.frame_below;
            sited = r.sited;
            down_most = rw (part-is v _) (part-most v _);
            right_most = rw (part-is v _) (part-most v _);
            rows = r.tz_rows;
          },
          c.requires.size,
        ),
      ),
    )

-- Tz
tz-is : (n : ℕ) (m : Merge) (samples : List ℕ) (vectors : List ℤ) → VectorsFit vectors → (site : Site) (k : ℕ) {frame place : ℕ} {tz : List (List ℕ)} →
    tz ≡ pair_at n (λ r p. tile_at (side_of n) m.shape.height m.shape.width r p (sample_at m.shape samples frame) (to_z w32 (of_z w32 (get_or vectors place (pos 0)))) (to_z w32 (of_z w32 (get_or vectors (place + 1) (pos 0))))) site
    → frame ≡ other_frame m.reference k → place ≡ vector_place m.shape k site.row site.column
    → tz ≡ pair_at n (λ r p a b. other_tile (scene_at (side_of n) m samples vectors) r p a b k) site
tz-is n m samples vectors v site k e f p = e ∙ other-pair-is n (side_of n) m samples vectors _ _ _ k f p (part-is v _) (part-is v _)

pub difference-requires : goal.difference-requires
difference-requires g c =
    let a = c.args in
    let r = c.requires.comparable in
    let tz = tz-is g.row.SIDE a.burst.merge a.burst.samples.now a.burst.vectors.now r.accepted.vectors_fit a.site a.k c.pair.ensures c.other_frame-frame.ensures.0 c.vector_place-place.ensures.0 in (
      omega arith,
      (
        omega arith,
        (
          omega arith,
          (
            omega arith,
            record {
              reference = tile-fits g.row.SIDE _ (reference-most (side_of g.row.SIDE) r.accepted r.sited) r.tile;
              other = tile-fits g.row.SIDE _ (other-most (side_of g.row.SIDE) r.accepted r.sited c.args.k (omega arith)) tz;
            },
          ),
        ),
      ),
    )

pub returns : goal.returns
returns g c =
    let a = c.args in
    let n = g.row.SIDE in
    let tz = tz-is n a.burst.merge a.burst.samples.now a.burst.vectors.now c.requires.comparable.accepted.vectors_fit a.site a.k c.pair.ensures c.other_frame-frame.ensures.0 c.vector_place-place.ensures.0 in
    record {
      are = c.difference.ensures ∙ ap (λ w. grid n w (λ i l. pos (cell 0 a.t0.now i l) -ℤ pos (cell 0 c.pair.new.tile i l))) c.requires.size.twice
          ∙ difference-grid n (scene_at (side_of n) a.burst.merge a.burst.samples.now a.burst.vectors.now) _ _ _ _ c.requires.comparable.tile tz;
      rows = pair-rows n _ tz;
    }
