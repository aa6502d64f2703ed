-- Try the frames of a burst in another order, the reference at another place among them: each other frame keeps its vectors, its residuals and
-- their sum, and the merged frame stays the same.
use Rattle.std.specs.Prelude.{◌≡◌, ◌+◌, ◌-◌, ◌/◌, ◌≤◌, ◌<◌}
use Rattle.sanity.specs.Prelude.{refl, sym, ap, ap₂, subst, ◌∙◌, List, ℕ, arith, ℤ, Shape, TileSide, sample_at, finest_level, tile_rows, tile_columns, other_frame, down_at, right_at, Pair, residual, level_tile, field0, residual_sum, pairs, vectors_of, residual_of, field_of, sum_of, aligned_vectors, tile_residual, Merge, side16, side_of, scene_of, scene_at, merged}
use Rattle.geometry.specs.VectorLaws.{list-down, list_right}
use Rattle.recipe.specs.Tables32.{side32}
use Rattle.recipe.specs.SideLaws.{by-table}
use Rattle.sanity.specs.Frames.{frame_words, Burst, Same}
use Rattle.sanity.specs.FrameLaws.{frames-same}
use Rattle.sanity.specs.PyramidLaws.{pairs-agree}
use Rattle.sanity.specs.RenumberLaws.{Renumbering}
use Rattle.sanity.specs.Renumbered.{moved, Reordered, frame-stays}

-- samples' has the frames of samples: the same reference, and as its other frame k the other frame `to k`
pub record Shuffled (s : Shape) (to from : ℕ → ℕ) (reference reference' : ℕ) (samples samples' : List ℕ) : Type 0 where
  pub order : Renumbering (s.count - 1) to from
  pub reference_words : frame_words s samples' reference' ≡ frame_words s samples reference
  pub other_words : (k : ℕ) → k < s.count - 1 → frame_words s samples' (other_frame reference' k) ≡ frame_words s samples (other_frame reference (to k))

-- vectors' has the vectors of these frames
pub record Carried (s : Shape) (to : ℕ → ℕ) (vectors vectors' : List ℤ) : Type 0 where
  pub down : (k a b : ℕ) → k < s.count - 1 → a < tile_rows s → b < tile_columns s → down_at s vectors' k a b ≡ down_at s vectors (to k) a b
  pub right : (k a b : ℕ) → k < s.count - 1 → a < tile_rows s → b < tile_columns s → right_at s vectors' k a b ≡ right_at s vectors (to k) a b

module _ {s : Shape} {to from : ℕ → ℕ} {reference reference' : ℕ} {samples samples' : List ℕ} (burst : Burst s reference samples) (sh : Shuffled s to from reference reference' samples samples') where
  reference_same : Same s.height s.width (sample_at s samples' reference') (sample_at s samples reference)
  reference_same = frames-same s samples' samples reference' reference sh.reference_words

  other_same : (k : ℕ) → k < s.count - 1 → Same s.height s.width (sample_at s samples' (other_frame reference' k)) (sample_at s samples (other_frame reference (to k)))
  other_same k h = frames-same s samples' samples _ _ (sh.other_words k h)

  -- alignment
  pairs-carried : (k : ℕ) → k < s.count - 1 →
      pairs s (sample_at s samples' reference') (sample_at s samples' (other_frame reference' k)) ≡ pairs s (sample_at s samples reference) (sample_at s samples (other_frame reference (to k)))
  pairs-carried k h = pairs-agree s burst.sampled.allowed _ _ _ _ reference_same (other_same k h)

  pub field-carried : (k : ℕ) → k < s.count - 1 → field_of s reference' samples' k ≡ field_of s reference samples (to k)
  unfolding field_of vectors_of
  field-carried k h = ap (field0 s.side) (pairs-carried k h)

  pub sum-carried : (k : ℕ) → k < s.count - 1 → sum_of s reference' samples' k ≡ sum_of s reference samples (to k)
  unfolding sum_of residual_of
  sum-carried k h = ap (residual_sum s.side) (pairs-carried k h)

  -- at vectors that go with their frames
  pub residual-carried : {vectors vectors' : List ℤ} → Carried s to vectors vectors' → (k row column : ℕ) → k < s.count - 1 → row < tile_rows s → column < tile_columns s →
      tile_residual s reference' samples' vectors' k row column ≡ tile_residual s reference samples vectors (to k) row column
  unfolding tile_residual
  residual-carried {vectors} {vectors'} c k row column h i j =
      let at : (ℕ → Pair) → (down right : ℤ) → ℕ = λ p down right. residual (finest_level s.side).squared (p 0) (level_tile (finest_level s.side) row column) (record { down = down; right = right }) in
      ap (λ p. at p (down_at s vectors' k row column) (right_at s vectors' k row column)) (pairs-carried k h)
      ∙ ap₂ (at (pairs s (sample_at s samples reference) (sample_at s samples (other_frame reference (to k))))) (c.down k row column h i j) (c.right k row column h i j)

  pub vectors-carried : Carried s to (aligned_vectors s reference samples) (aligned_vectors s reference' samples')
  unfolding aligned_vectors
  vectors-carried =
      record {
        down = λ k a b h i j.
            list-down s k a b h i j (field_of s reference' samples') ∙ ap (λ f. (f a b).down) (field-carried k h) ∙ sym (list-down s (to k) a b (sh.order.to_below k h) i j (field_of s reference samples));
        right = λ k a b h i j.
            list_right s k a b h i j (field_of s reference' samples') ∙ ap (λ f. (f a b).right) (field-carried k h) ∙ sym (list_right s (to k) a b (sh.order.to_below k h) i j (field_of s reference samples));
      }

-- merge, with vectors that go with their frames
module _ (m : Merge) {to from : ℕ → ℕ} {reference' : ℕ} {samples samples' : List ℕ} (sided : TileSide m.shape.side) (burst : Burst m.shape m.reference samples) (sh : Shuffled m.shape to from m.reference reference' samples samples') where
  side_is : (side_of m.shape.side).side ≡ m.shape.side
  unfolding side16 side32
  side_is = by-table sided (λ n s. s.side ≡ n) refl refl

  below : (size a : ℕ) → a ≤ size / (side_of m.shape.side).side → a < size / m.shape.side + 1
  below size a h =
      let l : a ≤ size / m.shape.side = subst (λ n. a ≤ size / n) side_is h in
      omega (arith, l)

  pub merge-stays : {vectors vectors' : List ℤ} → Carried m.shape to vectors vectors' → merged (scene_of (moved m reference') samples' vectors') ≡ merged (scene_of m samples vectors)
  unfolding scene_at
  merge-stays {vectors} {vectors'} c = frame-stays m reference' samples samples' vectors vectors' sided reordered
    where
      reordered : Reordered (scene_of m samples vectors) (scene_of (moved m reference') samples' vectors') to from
      reordered =
          record {
            order = sh.order;
            high = burst.sampled.allowed.high;
            wide = burst.sampled.allowed.wide;
            reference_same = reference_same burst sh;
            other_same = other_same burst sh;
            down_same = λ k a b h i j. c.down k a b h (below m.shape.height a i) (below m.shape.width b j);
            right_same = λ k a b h i j. c.right k a b h (below m.shape.height a i) (below m.shape.width b j);
          }

  -- align and then merge
  pub run-stays : merged (scene_of (moved m reference') samples' (aligned_vectors m.shape reference' samples')) ≡ merged (scene_of m samples (aligned_vectors m.shape m.reference samples))
  run-stays = merge-stays (vectors-carried burst sh)
