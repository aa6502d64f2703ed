-- From level to level: the pyramids stay, and a level's vectors stand where the next level reads them.
use Rattle.std.specs.Prelude.{◌≡◌, ◌+◌, ◌*◌, ◌≤◌, ◌<◌}
use Rattle.std.proofs.Math.Path.{refl, ap, ap₂, subst, fun_ext}
use Rattle.std.proofs.Common.{sym, ◌∙◌, le_trans, ⊎_elim}
use Rattle.align_burst.specs.Prelude.{List, ℕ, zero, suc, arith, lit≤, length, get_or, ℤ, pos, nat_abs, Shape, Allowed, TileSide, Level, Step, finest_level, level0, level3, level_size, tile_count, tile_rows, tile_columns, frame_parts, level_tiles, offset, pyramid_length, tiles, align_length, Grid, Area, Within, VectorField, word, level_at, coarsest, finer, residuals, coarsest_rows, finer_rows, Sums, pair_in, Stored, Before, Few, Room, finest_in, finer_in, finer_rows_in, Finest, field_at}
use Rattle.geometry.specs.TileLaws.{finest-tiles}
use Rattle.align_pyramid.specs.ChainLaws.{words-end}
use Rattle.align_pyramid.specs.LayoutLaws.{size0, size1, size3, size5}
use Rattle.align_pyramid.specs.WordsLaws.{Kept}
use Rattle.sequences.specs.Write.{written, written_in, written-before, written-length}
use Rattle.align_burst.specs.Fields.{level_rows, level_columns, field0, field1, field2, field3, residual_sum}
use Rattle.align_burst.specs.Rows.{rows0, rows1, rows2, rows3, frame_rows}
use Rattle.align_burst.specs.RowLaws.{finer-rows-agree}
use Rattle.align_level.specs.Steps.{step_to}
use Rattle.align_level.specs.FieldLaws.{finer-agree}
use Rattle.align_burst.specs.FieldLaws.{word-most, field0-within, field1-within, field2-within, field3-within}
use Rattle.align_field.specs.LoopLaws.{kept-stored, kept_pair}
use Rattle.align_burst.specs.GridLaws.{written-field, written-vectors}
use Rattle.align_burst.specs.Sites.{area_at, grid_at, after, pairs_in, level_in, level_rows_in, Standing, Site, Prepared, Reached, Coarse, Aligned}

written-kept : (d : List ℤ) (at : ℕ) (f : ℕ → ℤ) (n : ℕ) → at + n ≤ length d → Kept d at (written d at f n)
written-kept d at f n h = record { same = written-length d at f n (pos 0) h; kept = written-before d at f n (pos 0) h }

kept_more : {d l m : List ℤ} {a b : ℕ} → Kept d a l → Kept l b m → a ≤ b → Kept d a m
kept_more k j h = record { same = j.same ∙ k.same; kept = λ i l. j.kept i (le_trans l h) ∙ k.kept i l }

-- a level's images end before the vectors begin
area-before : (shape : Shape) (k : ℕ) → Before (area_at shape k) (2 * pyramid_length shape)
unfolding area_at offset level_size
area-before shape zero =
    let e = rw (size0 shape.height, size0 shape.width) at (words-end (level_size level0 shape.height) (level_size level0 shape.width) 0 (omega arith)) in
    record { reference = omega arith; other = omega arith }
area-before shape (suc zero) =
    let e = rw (size1 shape.height, size1 shape.width) at (words-end (level_size level0 shape.height) (level_size level0 shape.width) 1 (omega arith)) in
    record { reference = omega arith; other = omega arith }
area-before shape (suc (suc zero)) =
    let e = rw (size3 shape.height, size3 shape.width) at (words-end (level_size level0 shape.height) (level_size level0 shape.width) 3 (omega arith)) in
    record { reference = omega arith; other = omega arith }
area-before shape (suc (suc (suc k))) =
    let e = rw (size5 shape.height, size5 shape.width) at (words-end (level_size level0 shape.height) (level_size level0 shape.width) 5 (omega arith)) in
    record { reference = omega arith; other = omega arith }

-- a level has some tiles, and few
some-tiles : (side size k : ℕ) → 0 < level_tiles (level_at side k) size
unfolding level_tiles tile_count
some-tiles side size zero = omega arith
some-tiles side size (suc zero) = omega arith
some-tiles side size (suc (suc zero)) = omega arith
some-tiles side size (suc (suc (suc k))) = omega arith

few-tiles : {side : ℕ} → TileSide side → (size k : ℕ) → size ≤ 4096 → level_tiles (level_at side k) size ≤ 257
unfolding level_tiles tile_count level_size
few-tiles sided size zero h = ⊎_elim (λ e. rw e (omega arith)) (λ e. rw e (omega arith)) sided.is
few-tiles sided size (suc zero) h = omega arith
few-tiles sided size (suc (suc zero)) h = omega arith
few-tiles sided size (suc (suc (suc k))) h = omega arith

pub grid-few : {shape : Shape} → Allowed shape → TileSide shape.side → (k : ℕ) → Few (level_tiles (level_at shape.side k) shape.height) (level_tiles (level_at shape.side k) shape.width)
grid-few {shape} ok sided k =
    record {
      some_columns = some-tiles shape.side shape.width k;
      few_rows = few-tiles sided shape.height k ok.high.most;
      few_columns = few-tiles sided shape.width k ok.wide.most;
    }

module _ {d : List ℤ} {base : ℕ} where
  -- a grid whose vectors are written
  pub reach : {m : List ℤ} (g : Grid) (f : VectorField) (b : ℕ) → Kept d base m → base ≤ g.at → 0 < g.rows → 0 < g.columns → after g ≤ length m → b ≤ 84 → ((row column : ℕ) → Within b (f row column)) → Reached d base g f (written m g.at (word g.columns f) (2 * (g.rows * g.columns)))
  reach {m} g f b k behind some_rows some_columns room small w =
      record {
        kept = kept_more k (written-kept m g.at (word g.columns f) (2 * (g.rows * g.columns)) room) behind;
        behind = behind;
        vectors = written-vectors m g.at g.rows g.columns f room b small w some_rows some_columns;
        field = written-field m g.at g.rows g.columns f room;
      }

  -- the next level's field, as the work area has it, is the definition's
  pub next : {g : Grid} {f : VectorField} {l : List ℤ} (v : Level) (s : Step) (a : Area) → Reached d base g f l → Stored d a → Before a base → finer v s g.rows g.columns (pair_in l a) (field_at l g.at g.columns) ≡ finer v s g.rows g.columns (pair_in d a) f
  next {g} {f} {l} v s a r stored before =
      ap (λ p. finer v s g.rows g.columns p (field_at l g.at g.columns)) (kept_pair r.kept a stored before)
      ∙ fun_ext (λ row. fun_ext (λ column. finer-agree v s g.rows g.columns (pair_in d a) (field_at l g.at g.columns) f r.vectors.some_rows r.vectors.some_columns r.field row column))

  -- and the rows summed for it are
  next-counted : {g : Grid} {f : VectorField} {l : List ℤ} (v : Level) (s : Step) (a : Area) → Reached d base g f l → Stored d a → Before a base → (rows columns : ℕ) → finer_rows v s g.rows g.columns (pair_in l a) (field_at l g.at g.columns) rows columns ≡ finer_rows v s g.rows g.columns (pair_in d a) f rows columns
  next-counted {g} {f} {l} v s a r stored before rows columns =
      ap (λ p. finer_rows v s g.rows g.columns p (field_at l g.at g.columns) rows columns) (kept_pair r.kept a stored before)
      ∙ finer-rows-agree v s g.rows g.columns (pair_in d a) (field_at l g.at g.columns) f r.vectors.some_rows r.vectors.some_columns r.field rows columns

-- the pyramids still stand
pub standing-kept : {shape : Shape} {d l : List ℤ} → Standing shape d → Kept d (2 * pyramid_length shape) l → Standing shape l
standing-kept {shape} s k = record { stored = λ n. kept-stored k (area_at shape n) (s.stored n) (area-before shape n) }

-- what a level's loop asks of its images and its grid
pub level-ready : {shape : Shape} {l : List ℤ} (k at : ℕ) {a : Area} {g : Grid} → Site shape l k at → a ≡ area_at shape k → g ≡ grid_at shape k at → Room l a g.at g.rows g.columns
unfolding grid_at
level-ready {shape} {l} k at s ea eg =
    let b = area-before shape k in
    let behind = s.behind in
    rw (ea, eg) (record { stored = s.standing.stored k; before = record { reference = le_trans b.reference behind; other = le_trans b.other behind }; few = grid-few s.allowed s.sided k; room = s.room })

-- a level is reached where its field is written
reached : (shape : Shape) {d m l : List ℤ} (k at : ℕ) (g : Grid) (f : VectorField) (b : ℕ) → Kept d (2 * pyramid_length shape) m → 2 * pyramid_length shape ≤ at → after (grid_at shape k at) ≤ length m → g ≡ grid_at shape k at → l ≡ written m at (word g.columns f) (2 * (g.rows * g.columns)) → b ≤ 84 → ((row column : ℕ) → Within b (f row column)) → Reached d (2 * pyramid_length shape) g f l
unfolding grid_at
reached shape {d} {m} {l} k at g f b kept behind room eg el small w =
    rw (el, eg) (reach (grid_at shape k at) f b kept behind (some-tiles shape.side shape.height k) (some-tiles shape.side shape.width k) room small w)

-- and the next one's field is the definition's
next_field : (shape : Shape) {d l : List ℤ} {g : Grid} {f : VectorField} (k c at : ℕ) → Reached d (2 * pyramid_length shape) g f l → Standing shape d → g ≡ grid_at shape c at → finer_in shape.side k l (area_at shape k) g ≡ finer (level_at shape.side k) (step_to shape.side k) (level_rows (level_at shape.side c) (pairs_in shape d c)) (level_columns (level_at shape.side c) (pairs_in shape d c)) (pairs_in shape d k) f
unfolding grid_at pairs_in level_rows level_columns level_tiles area_at pair_in
next_field shape {d} {l} {g} {f} k c at r s e =
    next (level_at shape.side k) (step_to shape.side k) (area_at shape k) r (s.stored k) (area-before shape k)
    ∙ ap (λ g. finer (level_at shape.side k) (step_to shape.side k) g.rows g.columns (pairs_in shape d k) f) e

-- and so are the rows summed for a level: h is its grid
counted : (shape : Shape) {d l : List ℤ} {g h : Grid} {f : VectorField} (k c at to : ℕ) → Reached d (2 * pyramid_length shape) g f l → Standing shape d → g ≡ grid_at shape c at → h ≡ grid_at shape k to → finer_rows_in shape.side k l (area_at shape k) g h.rows h.columns ≡ finer_rows (level_at shape.side k) (step_to shape.side k) (level_rows (level_at shape.side c) (pairs_in shape d c)) (level_columns (level_at shape.side c) (pairs_in shape d c)) (pairs_in shape d k) f (level_rows (level_at shape.side k) (pairs_in shape d k)) (level_columns (level_at shape.side k) (pairs_in shape d k))
unfolding grid_at pairs_in level_rows level_columns level_tiles area_at pair_in
counted shape {d} {l} {g} {h} {f} k c at to r s e i =
    next-counted (level_at shape.side k) (step_to shape.side k) (area_at shape k) r (s.stored k) (area-before shape k) h.rows h.columns
    ∙ ap₂ (λ g h. finer_rows (level_at shape.side k) (step_to shape.side k) g.rows g.columns (pairs_in shape d k) f h.rows h.columns) e i

-- where the vectors of levels 3, 2 and 1 stand
abbrev pub site3 : Shape → Grid
site3 shape = grid_at shape 3 (2 * pyramid_length shape)

abbrev pub site2 : Shape → Grid
site2 shape = grid_at shape 2 (after (site3 shape))

abbrev pub site1 : Shape → Grid
site1 shape = grid_at shape 1 (after (site2 shape))

-- they stand one after the other, within the words of alignment
pub sites-fit : (shape : Shape) → (2 * pyramid_length shape ≤ after (site3 shape)) × (after (site3 shape) ≤ after (site2 shape)) × (after (site2 shape) ≤ after (site1 shape)) × (after (site1 shape) ≤ align_length shape)
unfolding align_length tiles grid_at
sites-fit shape = (omega arith, omega arith, omega arith, omega arith)

-- level by level, the fields are the definition's
module _ {shape : Shape} {d : List ℤ} (p : Prepared shape d) where
  pub reached3 : {l : List ℤ} (g : Grid) → g ≡ site3 shape → l ≡ written d (2 * pyramid_length shape) (word g.columns (coarsest level3 (pair_in d (area_at shape 3)))) (2 * (g.rows * g.columns)) → Reached d (2 * pyramid_length shape) g (field3 (pairs_in shape d)) l
  unfolding field3 pairs_in
  reached3 g e el =
      let f = sites-fit shape in
      let room = p.room in
      reached shape 3 (2 * pyramid_length shape) g (field3 (pairs_in shape d)) 4 (record { same = refl; kept = λ i h. refl }) (omega arith) (omega arith) e el (lit≤ tt) (field3-within (pairs_in shape d))

  pub reached2 : {m l : List ℤ} (c g : Grid) → Reached d (2 * pyramid_length shape) c (field3 (pairs_in shape d)) m → c ≡ site3 shape → g ≡ site2 shape → l ≡ written m (after (site3 shape)) (word g.columns (level_in shape m 2 c)) (2 * (g.rows * g.columns)) → Reached d (2 * pyramid_length shape) g (field2 (pairs_in shape d)) l
  unfolding field2
  reached2 {m} {l} c g r ec e el =
      let f = sites-fit shape in
      let room = p.room in
      let same = r.kept.same in
      reached shape 2 (after (site3 shape)) g (field2 (pairs_in shape d)) 20 r.kept (omega arith) (omega arith) e
      (el ∙ ap (λ f. written m (after (site3 shape)) (word g.columns f) (2 * (g.rows * g.columns))) (next_field shape 2 3 (2 * pyramid_length shape) r p.standing ec))
      (lit≤ tt) (field2-within (pairs_in shape d))

  pub reached1 : {m l : List ℤ} (c g : Grid) → Reached d (2 * pyramid_length shape) c (field2 (pairs_in shape d)) m → c ≡ site2 shape → g ≡ site1 shape → l ≡ written m (after (site2 shape)) (word g.columns (level_in shape m 1 c)) (2 * (g.rows * g.columns)) → Reached d (2 * pyramid_length shape) g (field1 (pairs_in shape d)) l
  unfolding field1
  reached1 {m} {l} c g r ec e el =
      let f = sites-fit shape in
      let room = p.room in
      let same = r.kept.same in
      reached shape 1 (after (site2 shape)) g (field1 (pairs_in shape d)) 84 r.kept (omega arith) (omega arith) e
      (el ∙ ap (λ f. written m (after (site2 shape)) (word g.columns f) (2 * (g.rows * g.columns))) (next_field shape 1 2 (after (site3 shape)) r p.standing ec))
      (lit≤ tt) (field1-within (pairs_in shape d))

  -- the rows summed for the three
  pub counted3 : (g : Grid) → g ≡ site3 shape → coarsest_rows level3 (pair_in d (area_at shape 3)) g.rows g.columns ≡ rows3 (pairs_in shape d)
  unfolding rows3 grid_at pairs_in level_rows level_columns level_tiles area_at pair_in
  counted3 g e = ap (λ g. coarsest_rows level3 (pairs_in shape d 3) g.rows g.columns) e

  pub counted2 : {m : List ℤ} (c g : Grid) → Reached d (2 * pyramid_length shape) c (field3 (pairs_in shape d)) m → c ≡ site3 shape → g ≡ site2 shape → level_rows_in shape m 2 c g.rows g.columns ≡ rows2 (pairs_in shape d)
  unfolding rows2 finer_rows
  counted2 c g r ec e = counted shape 2 3 (2 * pyramid_length shape) (after (site3 shape)) r p.standing ec e

  pub counted1 : {m : List ℤ} (c g : Grid) → Reached d (2 * pyramid_length shape) c (field2 (pairs_in shape d)) m → c ≡ site2 shape → g ≡ site1 shape → level_rows_in shape m 1 c g.rows g.columns ≡ rows1 (pairs_in shape d)
  unfolding rows1 finer_rows
  counted1 c g r ec e = counted shape 1 2 (after (site3 shape)) (after (site2 shape)) r p.standing ec e

  counted0 : {l : List ℤ} {a : Area} (c g : Grid) (to : ℕ) → Reached d (2 * pyramid_length shape) c (field1 (pairs_in shape d)) l → c ≡ grid_at shape 1 c.at → a ≡ area_at shape 0 → g ≡ grid_at shape 0 to → finer_rows_in shape.side 0 l a c g.rows g.columns ≡ rows0 shape.side (pairs_in shape d)
  unfolding rows0 pairs_in
  counted0 {l} {a} c g to r ec ea eg =
      ap (λ a. finer_rows_in shape.side 0 l a c g.rows g.columns) ea ∙ counted shape 0 1 c.at to r p.standing ec eg

  -- and level 0's as well, from what stands there
  pub finest-field : {l : List ℤ} (c : Grid) → Reached d (2 * pyramid_length shape) c (field1 (pairs_in shape d)) l → c ≡ grid_at shape 1 c.at → finest_in shape.side l (area_at shape 0) c ≡ field0 shape.side (pairs_in shape d)
  unfolding finest_in field0 pairs_in
  finest-field c r e = next_field shape 0 1 c.at r p.standing e

  finest-pair : {l : List ℤ} {c : Grid} {f : VectorField} → Reached d (2 * pyramid_length shape) c f l → pair_in l (area_at shape 0) ≡ pairs_in shape d 0
  unfolding pairs_in
  finest-pair r = kept_pair r.kept (area_at shape 0) (p.standing.stored 0) (area-before shape 0)

  finest-sum : {l : List ℤ} (c : Grid) → Reached d (2 * pyramid_length shape) c (field1 (pairs_in shape d)) l → c ≡ grid_at shape 1 c.at → residuals (finest_level shape.side) (pair_in l (area_at shape 0)) (tile_rows shape) (tile_columns shape) (finest_in shape.side l (area_at shape 0) c) ≡ residual_sum shape.side (pairs_in shape d)
  unfolding residual_sum level_rows level_columns level_tiles pairs_in area_at pair_in
  finest-sum c r e =
      let ok = p.allowed in
      rw (← finest-tiles p.sided ok.high, ← finest-tiles p.sided ok.wide)
      (ap₂ (λ q w. residuals (finest_level shape.side) q (level_tiles (finest_level shape.side) shape.height) (level_tiles (finest_level shape.side) shape.width) w) (finest-pair r) (finest-field c r e))

  pub aligned : {l v v' : List ℤ} {to n : ℕ} {t : Sums} {c g : Grid} {a : Area} → Coarse shape d l c n → a ≡ area_at shape 0 → g ≡ grid_at shape 0 to → to + frame_parts shape ≤ length v → Finest shape.side l a c g.rows g.columns v g.at v' t → Aligned shape d v to l v' (record { residual = t.residual; rows = n + t.rows })
  unfolding grid_at frame_rows
  aligned {l} {v} {v'} {to} {n} {t} {c} {g} {a} k ea eg fits fin =
      let ok = p.allowed in
      let r = k.reached in
      let ec = k.grid_is in
      let f = rw (ea, eg, finest-tiles p.sided ok.high, finest-tiles p.sided ok.wide) at fin in
      let columns = tile_columns shape in
      let w = field0 shape.side (pairs_in shape d) in
      let e : v' ≡ written v to (word columns w) (frame_parts shape) = f.vectors ∙ ap (λ w. written v to (word columns w) (frame_parts shape)) (finest-field c r ec) in
      record {
        vectors = e;
        bound = λ i h.
            subst (λ z. nat_abs z ≤ 172) (sym (ap (λ x. get_or x (to + i) (pos 0)) e ∙ written_in v to (word columns w) (frame_parts shape) (pos 0) fits i h))
            (word-most columns w 172 (field0-within (pairs_in shape d) shape.side) i);
        residual_is = f.residual_is ∙ finest-sum c r ec;
        most = fin.most;
        rows_are = ap₂ ◌+◌ k.rows_are (fin.rows_are ∙ counted0 c g to r ec ea eg);
        kept = r.kept;
      }
