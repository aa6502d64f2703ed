-- What acceptance says of sizes, counts, row lengths and buffers, in a form that linear arithmetic reads.
use Rattle.std.specs.Prelude.{◌⊎◌, ◌≡◌, ◌&&◌, ◌||◌, ◌-◌, ◌*◌, ◌≤◌, ◌<◌}
use Rattle.std.proofs.Common.{inl, inr, mul-le-mul, leb-true, leb-false, eqb-true}
use Rattle.algebra.specs.Prelude.{refl, subst, Bool, true, false, not, ℕ, arith, T, leb, eqb, ltb}
use Rattle.std.proofs.lemmas.Bool.{not-false}
use Rattle.refusals.specs.Numbers as no
use Rattle.refusals.specs.TestLaws.{refuse-not}
use Rattle.geometry.specs.declared.Shape.{Shape}
use Rattle.geometry.specs.Tiles.{tile_columns, tile_rows, frame_parts}
use Rattle.geometry.specs.Shape.{size_allowed, count_allowed, side_allowed, row_allowed, size_refusal, count_refusal, side_refusal, row_refusal, reference_refusal, frame_stride, length_refusal}
use Rattle.geometry.specs.Fits.{AllowedSize, Allowed, TileSide}
use Rattle.geometry.specs.TileLaws.{sided-most}

-- both parts of a test that holds
pub both : {a b : Bool} → a && b ≡ true → (a ≡ true) × (b ≡ true)
both {a = true} e = (refl, e)
both {a = false} e = absurd (subst (λ b. T (not b)) e tt)

pub allowed-size : (size : ℕ) → size_allowed size ≡ true → AllowedSize size
unfolding size_allowed
allowed-size size e =
    let whole = both e in
    let range = both whole.0 in
    record { least = leb-true _ _ range.0; most = leb-true _ _ range.1; whole = eqb-true _ _ whole.1 }

pub allowed : (s : Shape) → size_refusal s ≡ 0 → count_refusal s ≡ 0 → row_refusal s ≡ 0 → Allowed s
unfolding size_refusal count_refusal count_allowed row_refusal row_allowed
allowed s size count row =
    let sizes = both (not-false _ (refuse-not no.size (not (size_allowed s.width && size_allowed s.height)) tt size)) in
    let counts = both (not-false _ (refuse-not no.count (not (count_allowed s.count)) tt count)) in
    let rows = both (not-false _ (refuse-not no.row_length (not (row_allowed s.width s.pitch)) tt row)) in
    record {
      wide = allowed-size _ sizes.0;
      high = allowed-size _ sizes.1;
      some = leb-true _ _ counts.0;
      few = leb-true _ _ counts.1;
      row_least = leb-true _ _ rows.0;
      row-most = leb-true _ _ rows.1;
    }

pub allowed-side : (s : Shape) → side_refusal s ≡ 0 → TileSide s.side
unfolding side_refusal side_allowed
allowed-side s e = record { is = by (eqb s.side 16) refl (not-false _ (refuse-not no.side (not (side_allowed s.side)) tt e)) }
  where
    by : (b : Bool) → eqb s.side 16 ≡ b → b || eqb s.side 32 ≡ true → (s.side ≡ 16) ⊎ (s.side ≡ 32)
    by true h k = inl (eqb-true _ _ h)
    by false h k = inr (eqb-true _ _ k)

pub below-count : (s : Shape) (reference : ℕ) → reference_refusal s reference ≡ 0 → reference < s.count
unfolding reference_refusal
below-count s reference e = leb-false s.count reference (refuse-not no.reference (leb s.count reference) tt e)

pub right-length : (number right length : ℕ) → T (ltb 0 number) → length_refusal number right length ≡ 0 → length ≡ right
unfolding length_refusal
right-length number right length l e = eqb-true length right (not-false _ (refuse-not number (not (eqb length right)) l e))

-- the greatest lengths
module _ {s : Shape} (ok : Allowed s) where
  pub area-most : s.width * s.height ≤ 16777216
  area-most = mul-le-mul {n₁ = s.width} {m₁ = s.height} {n₂ = 4096} {m₂ = 4096} ok.wide.most ok.high.most

  pub frame-most : frame_stride s ≤ 17825792
  frame-most = mul-le-mul {n₁ = s.pitch} {m₁ = s.height} {n₂ = 4352} {m₂ = 4096} (omega (arith, ok.row-most, ok.wide.most)) ok.high.most

  pub samples-most : s.count * frame_stride s ≤ 142606336
  samples-most = mul-le-mul {n₁ = s.count} {m₁ = frame_stride s} {n₂ = 8} {m₂ = 17825792} ok.few frame-most

  module _ (sided : TileSide s.side) where
    pub tiles-most : tile_rows s * tile_columns s ≤ 66049
    tiles-most =
        mul-le-mul {n₁ = tile_rows s} {m₁ = tile_columns s} {n₂ = 257} {m₂ = 257} (sided-most sided s.height ok.high.most) (sided-most sided s.width ok.wide.most)

    pub vectors-most : (s.count - 1) * frame_parts s ≤ 924686
    vectors-most = mul-le-mul {n₁ = s.count - 1} {m₁ = frame_parts s} {n₂ = 7} {m₂ = 132098} (omega arith) (omega (arith, tiles-most))
