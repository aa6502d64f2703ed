-- The rows of a band, and the bands of a row parity: a record for each loop, and how it starts, goes on and ends.
use Rattle.std.specs.Prelude.{◌≡◌, ◌+◌, ◌-◌, ◌*◌, ◌/◌, ◌≤◌, ◌<◌}
use Rattle.merge_frame.specs.Prelude.{subst, List, ℕ, arith, length, ℤ, TileSide, Merge, scene_at, scene_of, Accepted, row_words, Stored}
use Rattle.sequences.specs.Written.{written}
use Rattle.sequences.specs.Place.{row_room}
use Rattle.merge_tiles.specs.Places.{by_side}
use Rattle.merge_gather.specs.Work.{Inside, Over, row_span, word_from}
use Rattle.merge_frame.specs.Progress.{Held, RowsMerged, BandMerged}
use Rattle.merge_gather.specs.HoldLaws.{slot-room}
use Rattle.merge_gather.specs.RowLaws.{rows_start, rows_on}
use Rattle.merge_frame.proofs.Holding.{stored-held, held_kept, next-room, output-word}
use Rattle.merge_frame.proofs.Advance.{row-merged}

-- rows of a band
module _ {n : ℕ} (t : TileSide n) where
  band-of : (band i : ℕ) → i < n / 2 → (n / 2 * band + i) / (n / 2) ≡ band
  band-of = by_side t (λ n. (band i : ℕ) → i < n / 2 → (n / 2 * band + i) / (n / 2) ≡ band) (λ b i h. omega arith) (λ b i h. omega arith)

  band-row : (height band i : ℕ) → band < height / n → i < n / 2 → n / 2 * band + i < height / 2
  band-row = by_side t (λ n. (height band i : ℕ) → band < height / n → i < n / 2 → n / 2 * band + i < height / 2) (λ k b i h l. omega arith) (λ k b i h l. omega arith)

  pub band-most : (height band : ℕ) → height ≤ 4096 → band < height / n → band < 256
  band-most = by_side t (λ n. (height band : ℕ) → height ≤ 4096 → band < height / n → band < 256) (λ k b h l. omega arith) (λ k b h l. omega arith)

  pub top-most : (height first band : ℕ) → height ≤ 4096 → first ≤ band → band < height / n → n * first ≤ 4096
  top-most = by_side t (λ n. (height first band : ℕ) → height ≤ 4096 → first ≤ band → band < height / n → n * first ≤ 4096) (λ k f b h l m. omega arith) (λ k f b h l m. omega arith)

  pub half-most : (height band : ℕ) → height ≤ 4096 → band < height / n → n / 2 * band ≤ 4096
  half-most = by_side t (λ n. (height band : ℕ) → height ≤ 4096 → band < height / n → n / 2 * band ≤ 4096) (λ k b h l. omega arith) (λ k b h l. omega arith)

  pub side-most : n ≤ 32
  side-most = by_side t (λ n. n ≤ 32) (omega arith) (omega arith)

  pub side_above : 0 < n
  side_above = by_side t (λ n. 0 < n) (omega arith) (omega arith)

  band-under : (first band i p : ℕ) → first ≤ band → n * first ≤ 2 * (n / 2 * band + i) + p
  band-under = by_side t (λ n. (first band i p : ℕ) → first ≤ band → n * first ≤ 2 * (n / 2 * band + i) + p) (λ f b i p h. omega arith) (λ f b i p h. omega arith)

  band-last : (first band i p : ℕ) → first ≤ band → p < 2 → i < n / 2 → 2 * (n / 2 * band + i) + p - n * first < n * band + n - n * first
  band-last =
      by_side t (λ n. (first band i p : ℕ) → first ≤ band → p < 2 → i < n / 2 → 2 * (n / 2 * band + i) + p - n * first < n * band + n - n * first) (λ f b i p h k l. omega arith) (λ f b i p h k l. omega arith)

-- r is l with the first i rows of the band merged
pub record InBand (m : Merge) (samples : List ℕ) (vectors : List ℤ) (rowParity first band : ℕ) (work : List ℤ) (l : List ℕ) (i : ℕ) (r : List ℕ) : Type 0 where
  pub count : i ≤ m.shape.side / 2
  pub rows : RowsMerged (scene_of m samples vectors) (m.shape.side * first) rowParity (m.shape.side / 2 * band) (m.shape.side / 2 * band + i) l r
  pub upper : Held m.shape.side (scene_of m samples vectors) rowParity band work
  pub lower : Held m.shape.side (scene_of m samples vectors) rowParity (band + 1) work

module _ {m : Merge} {samples : List ℕ} {vectors : List ℤ} {rowParity first band : ℕ} where
  pub band-start : {d work : List ℤ} {l : List ℕ} → Stored m.shape.side (scene_of m samples vectors) rowParity (band + 1) d work → 2 * row_words m.shape.side m.shape.width ≤ length d
      → Held m.shape.side (scene_of m samples vectors) rowParity band d → InBand m samples vectors rowParity first band work l 0 l
  unfolding scene_at
  band-start {l = l} stored room held =
      record {
        count = omega arith;
        rows = subst (λ b. RowsMerged (scene_of m samples vectors) (m.shape.side * first) rowParity (m.shape.side / 2 * band) b l l) (omega arith) rows_start;
        upper = held_kept stored room held;
        lower = stored-held stored (next-room stored room held);
      }

  module _ (ok : Accepted m.shape.side m samples vectors) (parity : rowParity < 2) (from_first : first ≤ band) (inside : band < m.shape.height / m.shape.side) {work : List ℤ} {l : List ℕ} {i : ℕ} {r : List ℕ} (w : InBand m samples vectors rowParity first band work l i r) (h : i < m.shape.side / 2) where
    upper-row : (m.shape.side / 2 * band + i) / (m.shape.side / 2) ≡ band
    upper-row = band-of ok.burst.sided band i h

    upper-held : Held m.shape.side (scene_of m samples vectors) rowParity ((m.shape.side / 2 * band + i) / (m.shape.side / 2)) work
    upper-held = rw upper-row w.upper

    lower-held : Held m.shape.side (scene_of m samples vectors) rowParity ((m.shape.side / 2 * band + i) / (m.shape.side / 2) + 1) work
    lower-held = rw upper-row w.lower

    row_below : m.shape.side / 2 * band + i < m.shape.height / 2
    row_below = band-row ok.burst.sided m.shape.height band i inside h

    pub band-inside : Inside m.shape m.reference rowParity (m.shape.side / 2 * band + i) (m.shape.side * first)
    band-inside = record { allowed = ok.burst.allowed; sided = ok.burst.sided; reference_below = ok.burst.reference_below; parity = parity; row = row_below; under = band-under ok.burst.sided first band i rowParity from_first }

    pub band-over : Over work m.shape.side m.shape.width (m.shape.side / 2 * band + i)
    unfolding scene_at
    band-over = record { above = upper-held.words; below = lower-held.words }

    pub band-room : (m.shape.side * band + m.shape.side - m.shape.side * first) * m.shape.width ≤ length l → (2 * (m.shape.side / 2 * band + i) + rowParity - m.shape.side * first) * m.shape.width + m.shape.width ≤ length r
    band-room long = omega (arith, row_room (2 * (m.shape.side / 2 * band + i) + rowParity - m.shape.side * first) (m.shape.side * band + m.shape.side - m.shape.side * first) m.shape.width (band-last ok.burst.sided first band i rowParity from_first parity h), long, w.rows.toward.same)

    pub band-turn : {o : List ℕ} → (m.shape.side * band + m.shape.side - m.shape.side * first) * m.shape.width ≤ length l
        → o ≡ written r ((2 * (m.shape.side / 2 * band + i) + rowParity - m.shape.side * first) * m.shape.width) (word_from samples work (row_span m.shape m.reference rowParity (m.shape.side / 2 * band + i) (m.shape.side * first)) m.shape.count) m.shape.width
        → InBand m samples vectors rowParity first band work l (i + 1) o
    unfolding scene_at
    band-turn {o} long is =
        let a = ok.burst.allowed in
        let y = m.shape.side / 2 * band + i in
        record {
          count = omega arith;
          rows =
              subst (λ b. RowsMerged (scene_of m samples vectors) (m.shape.side * first) rowParity (m.shape.side / 2 * band) b l o) (omega arith)
              (rows_on w.rows
              (row-merged (scene_of m samples vectors) parity (band-under ok.burst.sided first band i rowParity from_first) (band-room long)
              (λ c k. output-word m samples vectors rowParity work y (m.shape.side * first) c ok.burst.sided a.wide k upper-held lower-held) is));
          upper = w.upper;
          lower = w.lower;
        }

  pub band-done : {work : List ℤ} {l r : List ℕ} {i : ℕ} → InBand m samples vectors rowParity first band work l i r → m.shape.side / 2 ≤ i → BandMerged m.shape.side (scene_of m samples vectors) (m.shape.side * first) rowParity band l r work
  band-done {l = l} {r = r} w h =
      record { rows = subst (λ b. RowsMerged (scene_of m samples vectors) (m.shape.side * first) rowParity (m.shape.side / 2 * band) b l r) (omega (arith, w.count)) w.rows; held = w.lower }

-- r is l with the parity's rows between the tile rows `first` and `band` merged, and the work area holds the second
pub record InParity (m : Merge) (samples : List ℕ) (vectors : List ℤ) (rowParity first : ℕ) (l : List ℕ) (band : ℕ) (r : List ℕ) (work : List ℤ) : Type 0 where
  pub from_first : first ≤ band
  pub rows : RowsMerged (scene_of m samples vectors) (m.shape.side * first) rowParity (m.shape.side / 2 * first) (m.shape.side / 2 * band) l r
  pub held : Held m.shape.side (scene_of m samples vectors) rowParity band work

module _ {m : Merge} {samples : List ℕ} {vectors : List ℤ} {rowParity first : ℕ} where
  pub parity-start : {d work : List ℤ} {l : List ℕ} → Stored m.shape.side (scene_of m samples vectors) rowParity first d work → 2 * row_words m.shape.side m.shape.width ≤ length d → InParity m samples vectors rowParity first l first l work
  unfolding scene_at
  parity-start stored room = record { from_first = omega arith; rows = rows_start; held = stored-held stored (slot-room m.shape.side m.shape.width first room) }

  pub parity-turn : {band : ℕ} {l r o : List ℕ} {work next : List ℤ} → InParity m samples vectors rowParity first l band r work
      → BandMerged m.shape.side (scene_of m samples vectors) (m.shape.side * first) rowParity band r o next → InParity m samples vectors rowParity first l (band + 1) o next
  parity-turn {band} {l} {r} {o} w b =
      record {
        from_first = omega (arith, w.from_first);
        rows = subst (λ n. RowsMerged (scene_of m samples vectors) (m.shape.side * first) rowParity (m.shape.side / 2 * first) n l o) (omega arith) (rows_on w.rows b.rows);
        held = b.held;
      }
