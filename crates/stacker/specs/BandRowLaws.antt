-- A band in rows of tiles, a side of the frame's rows each: what merging asks for, and what it gives.
use Rattle.std.specs.Prelude.{◌≡◌, ◌+◌, ◌-◌, ◌*◌, ◌/◌, ◌%◌, ◌≤◌}
use Rattle.stacker.specs.Prelude.{sym, ap, ap₂, ◌∙◌, List, ℕ, arith, ℤ, TileSide, band_length, band_work_length, tab, Merge, Scene, scene_at, scene_of, word_at, merged}
use Rattle.merge_tiles.specs.Places.{by_side}
use Rattle.merge_tiles.specs.Rows.{row_words}
use Rattle.merge_frame.specs.Progress.{merged_rows}
use Rattle.merge_frame.specs.Ready.{RowsLent}
use Rattle.stacker.specs.Bands.{band}
use Rattle.stacker.specs.BandLaws.{band-room, tab-part}
use Rattle.stacker.specs.BandReady.{BandLent}

module _ {n : ℕ} (t : TileSide n) where
  on-grid : (k : ℕ) → k % n ≡ 0 → n * (k / n) ≡ k
  on-grid = by_side t (λ n. (k : ℕ) → k % n ≡ 0 → n * (k / n) ≡ k) (λ k h. omega arith) (λ k h. omega arith)

  sum-on-grid : (a b : ℕ) → a % n ≡ 0 → b % n ≡ 0 → n * ((a + b) / n) ≡ a + b
  sum-on-grid = by_side t (λ n. (a b : ℕ) → a % n ≡ 0 → b % n ≡ 0 → n * ((a + b) / n) ≡ a + b) (λ a b h k. omega arith) (λ a b h k. omega arith)

  rows-mono : (a b : ℕ) → a ≤ b → a / n ≤ b / n
  rows-mono = by_side t (λ n. (a b : ℕ) → a ≤ b → a / n ≤ b / n) (λ a b h. omega arith) (λ a b h. omega arith)

-- the rows of the merge between two tile rows are a band of it
rows-band : (side : ℕ) (s : Scene) (first last top rows : ℕ) → side * first ≡ top → side * last ≡ top + rows → top + rows ≤ s.height → merged_rows side s first last ≡ band s.width top rows (merged s)
unfolding merged_rows merged band
rows-band side s first last top rows a b inside =
    let many : side * last - side * first ≡ rows = omega arith in
    ap₂ (λ n t. tab (n * s.width) (λ k. word_at s (t * s.width + k))) many a
    ∙ sym (tab-part (word_at s) (rows * s.width) (top * s.width) (s.width * s.height) (band-room s.width s.height top rows inside))

module _ {m : Merge} {top rows : ℕ} {samples : List ℕ} {vectors : List ℤ} {output work : ℕ} (lent : BandLent m top rows samples vectors output work) where
  abbrev side : ℕ
  side = m.shape.side

  first-row : side * (top / side) ≡ top
  first-row = on-grid lent.accepted.burst.sided top lent.band.top_on

  last_row : side * ((top + rows) / side) ≡ top + rows
  last_row = sum-on-grid lent.accepted.burst.sided top rows lent.band.top_on lent.band.rows_on

  pub rows-lent : RowsLent m samples vectors (top / side) ((top + rows) / side) output work
  unfolding band_length band_work_length row_words
  rows-lent =
      let many : rows ≡ side * ((top + rows) / side) - side * (top / side) = omega (arith, first-row, last_row) in
      record {
        accepted = lent.accepted;
        ordered = rows-mono lent.accepted.burst.sided top (top + rows) (omega arith);
        last_most = rows-mono lent.accepted.burst.sided (top + rows) m.shape.height lent.band.inside;
        output_long = lent.output_long ∙ ap (λ n. n * m.shape.width) many;
        room = omega (arith, lent.work_long);
      }

  pub rows-merged : {o : List ℕ} → o ≡ merged_rows side (scene_of m samples vectors) (top / side) ((top + rows) / side) → o ≡ band m.shape.width top rows (merged (scene_of m samples vectors))
  unfolding scene_at
  rows-merged e = e ∙ rows-band side (scene_of m samples vectors) (top / side) ((top + rows) / side) top rows first-row last_row lent.band.inside
