-- Places of a plane are places of its frame.
use Rattle.std.specs.Prelude.{◌≡◌, ◌+◌, ◌*◌, ◌/◌, ◌%◌, ◌≤◌, ◌+ℤ◌, ◌≤ℤ◌}
use Rattle.merge_view.specs.Prelude.{ap, ◌∙◌, List, ℕ, arith, length, get_or, ℤ, pos, negsuc, nat_abs, tab, sample_index, sample_at, plane_of, inside, read}
use Rattle.sequences.specs.Grid.{tab-ext}
use Rattle.geometry.specs.ReadLaws.{inside-same}
use Rattle.merge_view.specs.View.{row_length_of, plane_image, plane_sample, pair_row, RowStart}

-- a row of a pair by where its row starts in the plane of column parity 0
module _ {y : ℤ} {height rowParity r : ℕ} (samples : List ℕ) (width : ℕ) (s : RowStart y (row_length_of (length samples) height) height rowParity 0 r) where
  -- the sample of the plane beside stands one word further
  beside : (x : ℤ) (p : ℕ) → get_or samples (r + 2 * inside width x + p) 0 ≡ plane_sample y x samples width height rowParity p
  unfolding plane_sample plane_image plane_of read sample_at sample_index
  beside x p = ap (λ n. get_or samples n 0) (omega (arith, s.is))

  pub row-by-start : (side : ℕ) (x : ℤ) → tab (2 * side) (λ l. get_or samples (r + 2 * inside width (x +ℤ pos (l / 2)) + l % 2) 0) ≡ pair_row side y x samples width height rowParity
  unfolding pair_row
  row-by-start side x = tab-ext (2 * side) _ _ (λ l h. beside (x +ℤ pos (l / 2)) (l % 2))

  -- inside the planes, nothing is held to an edge
  pub inner-by-start : (side : ℕ) (x : ℤ) → pos 0 ≤ℤ x → nat_abs x + side ≤ width → tab (2 * side) (λ l. get_or samples (r + 2 * nat_abs x + l) 0) ≡ pair_row side y x samples width height rowParity
  inner-by-start side (pos first) h room =
      tab-ext (2 * side) _ _ (λ l b. let same = inside-same width (first + l / 2) (omega arith) in ap (λ n. get_or samples n 0) (omega (arith, same))) ∙ row-by-start side (pos first)
  inner-by-start side (negsuc a) h room = absurd h.le
