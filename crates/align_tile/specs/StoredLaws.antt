-- From what is copied and searched to the answer for a tile.
use Rattle.std.proofs.Math.Path.{◌≡◌, ap}
use Rattle.std.specs.Prelude.{refl, ◌+◌, ◌*◌, ◌/◌, ◌%◌, ◌^◌, ◌≤◌, ◌<◌, ◌+ℤ◌}
use Rattle.std.proofs.Common.{sym, ◌∙◌, subst, ltb-true, ltb-false, zero-mul, div-add-mod'}
use Rattle.align_tile.specs.Prelude.{Bool, true, false, cond, List, ℕ, zero, suc, arith, lit≤, ltb, length, get_or, ℤ, pos, ◌plus◌, Within, Pair, residual, square_sum, Low, window_row, Window, Searched}
use Rattle.geometry.specs.Read.{inside, read}
use Rattle.geometry.specs.ReadLaws.{inside-below}
use Rattle.align_pyramid.specs.declared.images.Raster.{Raster}
use Rattle.align_pyramid.specs.Words.{image_in, read_in, Source}
use Rattle.align_residual.specs.declared.Tile.{Tile}
use Rattle.geometry.specs.declared.vectors.Vector.{Vector}
use Rattle.align_tile.specs.declared.Area.{Area}
use Rattle.align_tile.specs.declared.Found.{Found}
use Rattle.align_search.specs.declared.window.Best.{Best}
use Rattle.align_search.specs.VectorLaws.{within_more}
use Rattle.align_search.specs.Offsets.{offset}
use Rattle.align_search.specs.Search.{best_vector, guessed}
use Rattle.align_search.specs.SearchLaws.{found_within, guess-own, guess-sideways, guess-third, guess-last}
use Rattle.align_search.specs.Rows.{offset_rows}
use Rattle.align_search.specs.RowLaws.{offset-rows-most}
use Rattle.algebra.specs.SumLaws.{sum_n-bound}
use Rattle.sequences.specs.Place.{row_below, column_below}
use Rattle.align_patch.specs.Copies.{Copied, SquareCopy}
use Rattle.align_search.specs.LocalLaws.{middle-residual, searched-finds}
use Rattle.align_tile.specs.Stored.{pair_in, Stored, Placed, Ready, Around, Moved, answer, refined, least_of_three}

-- what is copied from an image is low
pub copied-low : {words : List ℤ} {r : Raster} → Source words r → {l : List ℕ} {n : ℕ} {row column : ℤ} → n * n ≤ length l → Copied l n n (read_in words r) row column → Low l (n * n)
unfolding read
copied-low {words} {r} s {l} {n} {row} {column} room c = record { room = room; most = λ k h. at k h (some k n h) }
  where
    some : (k n : ℕ) → k < n * n → 0 < n
    some k zero h = absurd (omega (arith, zero-mul 0))
    some k (suc n) h = omega arith

    at : (k : ℕ) → k < n * n → 0 < n → get_or l k 0 ≤ 16380
    at k h b =
        let y = inside r.height (row +ℤ pos (k / n)) in
        let x = inside r.width (column +ℤ pos (k % n)) in
        let e : get_or l k 0 ≡ image_in words r y x = ap (λ k. get_or l k 0) (sym (div-add-mod' k n)) ∙ c.cell (k / n) (k % n) (row_below k n n h) (column_below k n n h) in
        omega (arith, e, s.holds.most y x (inside-below r.height (row +ℤ pos (k / n)) s.high) (inside-below r.width (column +ℤ pos (k % n)) s.wide))

-- what copying a tile's samples asks
pub copyable : {words : List ℤ} {a : Area} {t : Tile} {many : ℕ} → Stored words a → Placed t → t.side * t.side ≤ many → SquareCopy words a.reference t.origin t.side many
copyable s h room =
    record {
      source = s.reference;
      near = within_more (2 ^ 20) h.near (lit≤ tt);
      small = omega (arith, h.small);
      eights = h.eights;
      room = room;
    }

-- and what it makes ready
pub ready : {words : List ℤ} {a : Area} {t : Tile} {l : List ℕ} → Stored words a → Placed t → t.side * t.side ≤ length l → 256 ≤ length l → Copied l t.side t.side (read_in words a.reference) t.origin.down t.origin.right → Ready words a t l
unfolding pair_in
ready s h room enough c = record { stored = s; placed = h; room = room; enough = enough; copied = c }

-- a tile's samples and the window around a guess
module _ {words : List ℤ} {a : Area} {t : Tile} {samples : List ℕ} {guess : Vector} {window : List ℕ} (r : Ready words a t samples) (w : Around words a t guess window) where
  -- they are low: what the sums ask
  side-low : Window samples window t.side
  unfolding pair_in
  side-low =
      record { tile_low = copied-low r.stored.reference r.room r.copied; window_low = copied-low r.stored.other w.room w.copied }

  pub window_low : (n : ℕ) → t.side ≡ n → Window samples window n
  window_low n e = subst (Window samples window) e side-low

  -- the guess's residual
  pub guess-residual : square_sum false samples window (4 * (t.side + 8) + 4) (t.side + 8) t.side ≡ residual false (pair_in words a) t guess
  guess-residual = middle-residual false (pair_in words a) t guess samples window r.copied w.copied

  -- the answer that the search there gives
  pub search-answer : (squared : Bool) (before : ℕ) {best : Best} {f : Found} {n : ℕ} → t.side ≡ n → Searched (window_row squared samples window n) n best → Moved guess best before f → f ≡ refined squared words a t guess before
  unfolding best_vector
  search-answer squared before {best} {f} {n} side s m =
      let (is, low, rows) = searched-finds squared (pair_in words a) t guess samples window best r.copied w.copied (subst (λ n. Searched (window_row squared samples window n) n best) (sym side) s) in
      let ev = m.vector_is ∙ ap (λ k. guess plus offset k) is in
      let er = m.residual_is ∙ low in
      let es = m.rows_are ∙ ap (λ n. before + n) rows in
      made ev er es
    where
      made : {v v' : Vector} {m m' k k' : ℕ} → v ≡ v' → m ≡ m' → k ≡ k' → ◌≡◌ {A = Found} (record { vector = v; residual = m; rows = k }) (record { vector = v'; residual = m'; rows = k' })
      made ev er es = rw (ev, er, es)

-- the rows of a search
pub searched-few : {f : ℕ → ℕ → ℕ} {n : ℕ} {best : Best} → Searched f n best → n ≤ 32 → best.rows ≤ 2592
searched-few {f} {n} s h = omega (arith, s.rows_are, sum_n-bound 81 n (offset_rows f n) (λ k l. offset-rows-most f n k))

-- the first of the least of three candidates is the guess
pub guess-is : (p : Pair) (t : Tile) (own sideways vertically : Vector) (x y z : ℕ) → x ≡ residual false p t own → y ≡ residual false p t sideways → z ≡ residual false p t vertically → least_of_three own sideways vertically x y z ≡ guessed p t own sideways vertically
guess-is p t own sideways vertically x y z ex ey ez = by (ltb y x) refl (ltb z y) refl (ltb z x) refl
  where
    by : (d : Bool) → ltb y x ≡ d → (e : Bool) → ltb z y ≡ e → (f : Bool) → ltb z x ≡ f → cond d (cond e vertically sideways) (cond f vertically own) ≡ guessed p t own sideways vertically
    by true h true k f l = guess-last p t own sideways vertically x y z ex ey ez (ltb-true y x h) (ltb-true z y k)
    by true h false k f l = guess-sideways p t own sideways vertically x y z ex ey ez (ltb-true y x h) (ltb-false z y k)
    by false h e k true l = guess-third p t own sideways vertically x y z ex ey ez (ltb-false y x h) (ltb-true z x l)
    by false h e k false l = guess-own p t own sideways vertically x y z ex ey ez (ltb-false y x h) (ltb-false z x l)

-- the answer's parts are at most 4 more than the guess's
pub answer-within : (squared : Bool) (p : Pair) (t : Tile) (guess : Vector) (n : ℕ) (r : Found) → r ≡ answer squared p t (best_vector squared p t guess) n → (b : ℕ) → Within b guess → Within (b + 4) r.vector
answer-within squared p t guess n r is b w = subst (Within (b + 4)) (sym (ap (λ x. x.vector) is)) (found_within squared p t guess b w)
