-- The view's pair at the moved origins, cell by cell.
use Rattle.std.specs.Prelude.{◌≡◌, ◌*◌, ◌/◌, ◌%◌, ◌+ℤ◌}
use Rattle.algebra.specs.Prelude.{ℕ, ℤ, pos, sym, ap, ap₂, ◌∙◌, arith, rules, w64, to_z, of_z, to_z-of_z}
use Rattle.sequences.specs.Grid.{grid-ext}
use Rattle.geometry.specs.Read.{Image, plane_of, read}
use Rattle.geometry.specs.Tiles.{origin}
use Rattle.merge_tiles.specs.Prelude.{TileSide, side_of, tile_at}
use Rattle.merge_tiles.specs.declared.Site.{Site}
use Rattle.merge_tiles.specs.Sum.{pair_at}
use Rattle.merge_tiles.specs.Places.{side_most, side_of-half}
use Rattle.merge_view.specs.View.{pair_of}
use Rattle.merge_tiles.proofs.reading.pair.Goals as goal

module _ {n : ℕ} (t : TileSide n) (frame : Image) (height width : ℕ) (down right : ℤ) (site : Site) {y x : ℤ} (ey : y ≡ origin (n / 2) site.row +ℤ down) (ex : x ≡ origin (n / 2) site.column +ℤ right) where
  moved : pair_of n (height / 2) (width / 2) frame site.parity y x ≡ pair_at n (λ r p. tile_at (side_of n) height width r p frame down right) site
  unfolding pair_of tile_at
  moved =
      ap₂ (pair_of n (height / 2) (width / 2) frame site.parity) ey ex
      ∙ grid-ext n (2 * n) _ _ (λ i l _ _. ap (λ k. read (height / 2) (width / 2) (plane_of frame site.parity (l % 2)) (origin k site.row +ℤ down +ℤ pos i) (origin k site.column +ℤ right +ℤ pos (l / 2))) (sym (side_of-half t)))

pub frame_pair-requires : goal.frame_pair-requires
frame_pair-requires g c =
    let r = c.requires.readable in
    let most = side_most c.requires.size.sided in
    (omega arith, (omega arith, search rules))

pub returns : goal.returns
returns g c =
    let a = c.args in
    let y = c.moved-y in
    let x = c.moved-x in
    let ey : to_z w64 (of_z w64 y.result) ≡ y.result = search rules in
    let ex : to_z w64 (of_z w64 x.result) ≡ x.result = search rules in
    c.frame_pair.ensures
    ∙ moved c.requires.size.sided _ a.shape.height a.shape.width a.down a.right a.site
    (ey ∙ y.ensures.is ∙ ap (λ z. origin (g.row.SIDE / 2) a.site.row +ℤ z) (to_z-of_z c.ranges.down))
    (ex ∙ x.ensures.is ∙ ap (λ z. origin (g.row.SIDE / 2) a.site.column +ℤ z) (to_z-of_z c.ranges.right))
