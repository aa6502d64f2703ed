-- Inside this crate: the rows of a band of both frames: what a row requires, a record for the loop, and how it starts, goes on and ends.
use Rattle.std.specs.Prelude.{◌≡◌, ◌+◌, ◌-◌, ◌*◌, ◌/◌, ◌%◌, ◌≤◌, ◌<◌}
use Rattle.range_frame.specs.Prelude.{sym, ap, subst, ◌∙◌, List, ℕ, arith, length, ℤ, nat_abs, output_length, side16, Merge, Scene, scene_at, greatest_at, least_at, End, plane_end, frame_end, row_written, RowReady, EndAt, end_taken, raised, at_noises, RowHeld, RowsWritten}
use Rattle.std.proofs.Common.{mul_comm}
use Rattle.sequences.specs.Tab.{tab}
use Rattle.sequences.specs.Grid.{tab-ext}
use Rattle.sequences.specs.Place.{place-row, place-column}
use Rattle.geometry.specs.Fits.{AllowedSize}
use Rattle.merge_tiles.specs.Accepted.{Accepted}
use Rattle.merge_gather.specs.Places.{output_room}
use Rattle.range_tiles.specs.declared.Upper.{Upper}
use Rattle.range_tiles.specs.EndRowLaws.{sixteen}
use Rattle.merge_gather.specs.RowLaws.{rows_start, rows_on, row-written, rows_whole, all-written}
use Rattle.range_frame.specs.Held.{end_word, least_part, EndsHeld, RowsRanged}
use Rattle.range_frame.specs.SampleLaws.{Picks, low-picks, high-picks, end-word}

-- the frame's word at a row of a row parity
place-word : (end : End) (lower upper : Scene) (rowParity y c : ℕ) → rowParity < 2 → c < lower.width → nat_abs (plane_end end lower upper rowParity (c % 2) y (c / 2)) ≡ end_word end lower upper ((2 * y + rowParity) * lower.width + c)
place-word end lower upper rowParity y c parity inside =
    let row = 2 * y + rowParity in
    let odd : row % 2 ≡ rowParity = omega arith in
    let half : row / 2 ≡ y = omega arith in
    rw (place-row row c lower.width inside, place-column row c lower.width inside, odd, half)

-- row i of a band, of either end
module _ (m : Merge) (upper : Upper) (samples : List ℕ) (vectors : List ℤ) {rowParity : ℕ} (ok : Accepted 16 m samples vectors) (parity : rowParity < 2) {band i : ℕ} (below : band < m.shape.height / 16) (h : i < 8) where
  abbrev lows : Scene
  lows = scene_at side16 m samples vectors

  abbrev ups : Scene
  ups = scene_at side16 (raised m upper) samples vectors

  row_below : 8 * band + i < m.shape.height / 2
  row_below = omega arith

  frame_row : 2 * (8 * band + i) + rowParity < m.shape.height
  frame_row = omega arith

  row_is : (8 * band + i) / 8 ≡ band
  row_is = omega arith

  row_room : {n : ℕ} → n ≡ output_length m.shape → (2 * (8 * band + i) + rowParity - 0) * m.shape.width + m.shape.width ≤ n
  row_room long =
      let e : 2 * (8 * band + i) + rowParity - 0 ≡ 2 * (8 * band + i) + rowParity = omega arith in
      rw e (omega (arith, output_room m.shape (2 * (8 * band + i) + rowParity) frame_row, long))

  module _ (at : EndAt) {work : List ℤ} (above : RowHeld 16 m.shape.width (end_taken at lows ups) rowParity band work) (under : RowHeld 16 m.shape.width (end_taken at lows ups) rowParity (band + 1) work) where
    above-held : RowHeld m.shape.side m.shape.width (end_taken at lows ups) rowParity ((8 * band + i) / (m.shape.side / 2)) work
    above-held = subst (λ n. RowHeld n m.shape.width (end_taken at lows ups) rowParity ((8 * band + i) / (n / 2)) work) (sym ok.side_is) (rw row_is above)

    under-held : RowHeld m.shape.side m.shape.width (end_taken at lows ups) rowParity ((8 * band + i) / (m.shape.side / 2) + 1) work
    under-held = subst (λ n. RowHeld n m.shape.width (end_taken at lows ups) rowParity ((8 * band + i) / (n / 2) + 1) work) (sym ok.side_is) (rw row_is under)

    pub row-ready : {output : ℕ} → output ≡ output_length m.shape → RowReady m.shape m.reference rowParity (8 * band + i) 0 (length samples) output work
    row-ready long =
        record {
          inside = record { allowed = ok.burst.allowed; sided = ok.burst.sided; reference_below = ok.burst.reference_below; parity = parity; row = row_below; under = omega arith };
          over = record { above = above-held.words; below = under-held.words };
          samples_long = ok.burst.samples_long;
          output_room = row_room long;
        }

    pub row-ranged : {end : End} → Picks end at → {r o : List ℕ} → length r ≡ output_length m.shape
        → o ≡ row_written r samples work m.shape m.reference rowParity (8 * band + i) 0 → RowsWritten m.shape.width (end_word end lows ups) 0 rowParity (8 * band + i) (8 * band + i + 1) r o
    unfolding scene_at
    row-ranged {end} picks long is =
        row-written (omega arith) (row_room long)
        (λ c k. end-word picks m (raised m upper) samples vectors rowParity work (8 * band + i) c ok.side_is ok.burst.sided ok.burst.allowed.wide k above-held under-held ∙ place-word end lows ups rowParity (8 * band + i) c parity k) is

module _ {lower upper : Scene} {rowParity : ℕ} where
  pub ranged-start : {a : ℕ} {low high : List ℕ} → RowsRanged lower upper rowParity a a low low high high
  ranged-start = record { lows = rows_start; highs = rows_start }

  pub ranged-on : {a b c : ℕ} {low low' low'' high high' high'' : List ℕ} → RowsRanged lower upper rowParity a b low low' high high' → RowsRanged lower upper rowParity b c low' low'' high' high'' → RowsRanged lower upper rowParity a c low low'' high high''
  ranged-on v w = record { lows = rows_on v.lows w.lows; highs = rows_on v.highs w.highs }

-- both frames with the first i rows of a band, for whatever upper noise the work area holds the band's two rows
pub record InBand (m : Merge) (samples : List ℕ) (vectors : List ℤ) (rowParity band : ℕ) (work : List ℤ) (low high : List ℕ) (i : ℕ) (low' high' : List ℕ) : Type 0 where
  pub count : i ≤ 8
  pub rows : (upper : Upper) → at_noises EndsHeld m upper samples vectors rowParity band work
      → at_noises EndsHeld m upper samples vectors rowParity (band + 1) work
      → at_noises RowsRanged m upper samples vectors rowParity (8 * band) (8 * band + i) low low' high high'

module _ {m : Merge} {samples : List ℕ} {vectors : List ℤ} {rowParity band : ℕ} {work : List ℤ} {low high : List ℕ} where
  pub band-start : InBand m samples vectors rowParity band work low high 0 low high
  band-start =
      record {
        count = omega arith;
        rows = λ upper a b. subst (λ n. at_noises RowsRanged m upper samples vectors rowParity (8 * band) n low low high high) (omega arith) ranged-start;
      }

  -- one more row of both
  pub band-turn : {i : ℕ} {low' high' o o' : List ℕ} → Accepted 16 m samples vectors → rowParity < 2 → band < m.shape.height / 16 → i < 8
      → length low ≡ output_length m.shape → length high ≡ output_length m.shape
      → InBand m samples vectors rowParity band work low high i low' high'
      → o ≡ row_written low' samples work m.shape m.reference rowParity (8 * band + i) 0
      → o' ≡ row_written high' samples (least_part m.shape.width work) m.shape m.reference rowParity (8 * band + i) 0
      → InBand m samples vectors rowParity band work low high (i + 1) o o'
  unfolding scene_at
  band-turn {i} {low'} {high'} {o} {o'} ok parity below h low_long high_long w e f =
      record {
        count = omega arith;
        rows = λ upper a b.
            let before = w.rows upper a b in
            subst (λ n. at_noises RowsRanged m upper samples vectors rowParity (8 * band) n low o high o') (omega arith)
            (ranged-on before
            (record {
              lows = row-ranged m upper samples vectors ok parity below h greatest_at a.greatest b.greatest low-picks (before.lows.toward.same ∙ low_long) e;
              highs = row-ranged m upper samples vectors ok parity below h least_at a.least b.least high-picks (before.highs.toward.same ∙ high_long) f;
            }));
      }

-- after both row parities the output is the frame
pub frame-whole : (end : End) (lower upper : Scene) → AllowedSize lower.height → {l m o : List ℕ} → length l ≡ lower.width * lower.height
    → RowsWritten lower.width (end_word end lower upper) 0 0 0 (8 * (lower.height / 16)) l m → RowsWritten lower.width (end_word end lower upper) 0 1 0 (8 * (lower.height / 16)) m o → o ≡ frame_end end lower upper
unfolding frame_end
frame-whole end lower upper high {l} long a b =
    let size : (16 * (lower.height / 16) - 16 * 0) * lower.width ≡ lower.width * lower.height = ap (λ k. k * lower.width) (rows_whole sixteen lower.height high.whole) ∙ mul_comm lower.height lower.width in
    all-written sixteen {word = end_word end lower upper} 0 (lower.height / 16) (long ∙ sym size) a b
    ∙ ap (λ n. tab n (λ k. end_word end lower upper (16 * 0 * lower.width + k))) size
    ∙ tab-ext (lower.width * lower.height) (λ k. end_word end lower upper (16 * 0 * lower.width + k)) (end_word end lower upper) (λ k h. ap (end_word end lower upper) (omega arith))
