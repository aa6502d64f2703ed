-- Flat frames: a tile of equal differences has one bin and one correction everywhere, and the windows add up to one.
use Rattle.sanity.specs.Prelude.{refl, sym, ap, ap₂, ◌∙◌, [], ℕ, zero, suc, arith, sum_z, sum_n, away, upward, clamp_z, sum_of_squares, tile_root, Side, cos_at, sin_at, cosines, cosine16, sine16, side16, wiener, row_re, row_im, bin_re, bin_im, quantized, filtered, twiddle_re, twiddle_im, inverse_at, correction_at, row_in, column_in, weight_in, output_sample}
use Rattle.std.specs.Prelude.{T, eqb, ℤ, negsuc, nat_abs, ◌+ℤ◌, ◌-ℤ◌, ◌*ℤ◌, ◌≡◌, ◌∷◌, ◌+◌, ◌-◌, ◌*◌, ◌%◌, ◌<◌}
use Rattle.std.proofs.Common.{eqb→eq, lit<}
use Rattle.std.proofs.Math.IntN.{pos, neg_ℤ, +ℤ_idr, *ℤ-zero, zero-*ℤ, *ℤ_comm}
use Rattle.algebra.specs.Ring.{var, ◌⊠◌, #◌, ring, ◌⊟◌}
use Rattle.algebra.specs.SumLaws.{sum_z-cong, sum_z-scale, sum_z-scaler, sum_n-cong, sum_n-const}
use Rattle.algebra.specs.Test.{all, all_sound}
use Rattle.tile_root.specs.RootLaws.{root-unique}
use Rattle.recipe.specs.TableLaws.{window_halves}
use Rattle.closeness.specs.Windows.{four-windows}
use Rattle.tile_spectrum.specs.ZeroLaws.{sum_z-zero, away-zero, wiener-zero, less_none, more-none}
use Rattle.figures.specs.LoneBin.{lone-bin}
use Rattle.sanity.specs.RoundLaws.{away-whole, away-scale, upward-scale}
use Rattle.sanity.specs.Flat.{flat_correction}

-- C(vx) and −S(vx), summed over a row
unfoldable cos_sum : ℕ → ℤ
cos_sum v = sum_z 16 (λ x. cos_at side16 (v * x))

unfoldable sin_sum : ℕ → ℤ
sin_sum v = sum_z 16 (λ x. neg_ℤ (sin_at side16 (v * x)))

-- all are 0 but the cosines' at v = 0
abs-zero : (z : ℤ) → nat_abs z ≡ 0 → z ≡ pos 0
abs-zero (pos n) h = ap pos h
abs-zero (negsuc n) h = absurd (omega arith)

all-zero : (n : ℕ) (f : ℕ → ℤ) → T (all n (λ v. eqb (nat_abs (f v)) 0)) → (v : ℕ) → v < n → f v ≡ pos 0
all-zero n f t v h = abs-zero (f v) (eqb→eq (nat_abs (f v)) 0 (all_sound n (λ v. eqb (nat_abs (f v)) 0) t v h))

sine-none : (v : ℕ) → v < 16 → sin_sum v ≡ pos 0
unfolding sin_sum sum_z sin_at side16 sine16 cosine16 cosines
sine-none = all-zero 16 sin_sum tt

cosine-none : (v : ℕ) → v < 15 → cos_sum (suc v) ≡ pos 0
unfolding cos_sum sum_z cos_at side16 cosine16 cosines
cosine-none = all-zero 15 (λ v. cos_sum (suc v)) tt

cosine-all : cos_sum 0 ≡ pos 262144
unfolding cos_sum sum_z cos_at side16 cosine16 cosines
cosine-all = refl

less-second : {a b d : ℤ} (p q : ℤ) → a ≡ b → d ≡ pos 0 → a *ℤ p -ℤ d *ℤ q ≡ b *ℤ p
less-second {a} {b} {d} p q e f = rw (e, f, zero-*ℤ q) (+ℤ_idr (b *ℤ p))

more-second : {a b d : ℤ} (p q : ℤ) → a ≡ b → d ≡ pos 0 → a *ℤ p +ℤ d *ℤ q ≡ b *ℤ p
more-second {a} {b} {d} p q e f = rw (e, f, zero-*ℤ q) (+ℤ_idr (b *ℤ p))

less-last : {p q a b d : ℤ} → p ≡ q → a ≡ b → d ≡ pos 0 → (r : ℤ) → p *ℤ a -ℤ r *ℤ d ≡ b *ℤ q
less-last {p} {q} {a} {b} {d} e f g r = rw (e, f, g, *ℤ-zero r) (+ℤ_idr (q *ℤ b) ∙ *ℤ_comm q b)

twiddle-first : twiddle_re side16 0 0 0 0 ≡ pos 268435456
unfolding twiddle_re cos_at sin_at side16 sine16 cosine16 cosines
twiddle-first = refl

part_none : {z : ℤ} → z ≡ pos 0 → quantized side16 z ≡ pos 0
unfolding quantized side16
part_none e = ap (λ z. away z 16777216) e ∙ away-zero 16777216 (lit< tt)

module _ (c : ℤ) where
  abbrev flat : ℕ → ℕ → ℤ
  flat y x = c

  row-re : (y v : ℕ) → row_re side16 flat y v ≡ c *ℤ cos_sum v
  unfolding row_re side16 cos_sum
  row-re y v = sum_z-scale 16 c (λ x. cos_at side16 (v * x))

  row-im : (y v : ℕ) → v < 16 → row_im side16 flat y v ≡ pos 0
  unfolding row_im side16 sin_sum
  row-im y v h = sum_z-scale 16 c (λ x. neg_ℤ (sin_at side16 (v * x))) ∙ ap (λ z. c *ℤ z) (sine-none v h) ∙ *ℤ-zero c

  row-re-none : (y v : ℕ) → v < 15 → row_re side16 flat y (suc v) ≡ pos 0
  row-re-none y v h = row-re y (suc v) ∙ ap (λ z. c *ℤ z) (cosine-none v h) ∙ *ℤ-zero c

  -- the only bin is (0, 0), and it is real
  bin-side : (u v : ℕ) → v < 15 → bin_re side16 flat u (suc v) ≡ pos 0
  unfolding bin_re side16
  bin-side u v h = sum_z-zero 16 _ (λ y k. less_none _ (cos_at side16 (u * y)) _ (neg_ℤ (sin_at side16 (u * y))) (row-re-none y v h) (row-im y (suc v) (omega arith)))

  bin-column : (u : ℕ) → bin_re side16 flat u 0 ≡ (c *ℤ pos 262144) *ℤ cos_sum u
  unfolding bin_re side16 cos_sum
  bin-column u =
      sum_z-cong 16 _ _ (λ y k. less-second (cos_at side16 (u * y)) (neg_ℤ (sin_at side16 (u * y))) (row-re y 0 ∙ ap (λ z. c *ℤ z) cosine-all) (row-im y 0 (lit< tt)))
      ∙ sum_z-scale 16 (c *ℤ pos 262144) (λ y. cos_at side16 (u * y))

  bin-re-none : (u v : ℕ) → u < 16 → v < 16 → 0 < u + v → bin_re side16 flat u v ≡ pos 0
  bin-re-none zero zero h k l = absurd (omega arith)
  bin-re-none (suc u) zero h k l = bin-column (suc u) ∙ ap (λ z. (c *ℤ pos 262144) *ℤ z) (cosine-none u (omega arith)) ∙ *ℤ-zero (c *ℤ pos 262144)
  bin-re-none u (suc v) h k l = bin-side u v (omega arith)

  bin-first : bin_re side16 flat 0 0 ≡ (c *ℤ pos 4096) *ℤ pos 16777216
  bin-first =
      bin-column 0 ∙ ap (λ z. (c *ℤ pos 262144) *ℤ z) cosine-all ∙ ring (c ∷ []) (var 0 ⊠ # 262144 ⊠ # 262144) (var 0 ⊠ # 4096 ⊠ # 16777216) tt

  bin-im-none : (u v : ℕ) → u < 16 → v < 16 → bin_im side16 flat u v ≡ pos 0
  unfolding bin_im side16 sin_sum
  bin-im-none u zero h k =
      sum_z-cong 16 _ _ (λ y l. more-second (neg_ℤ (sin_at side16 (u * y))) (cos_at side16 (u * y)) (row-re y 0 ∙ ap (λ z. c *ℤ z) cosine-all) (row-im y 0 (lit< tt)))
      ∙ sum_z-scale 16 (c *ℤ pos 262144) (λ y. neg_ℤ (sin_at side16 (u * y)))
      ∙ ap (λ z. (c *ℤ pos 262144) *ℤ z) (sine-none u h) ∙ *ℤ-zero (c *ℤ pos 262144)
  bin-im-none u (suc v) h k =
      sum_z-zero 16 _ (λ y l. more-none _ (neg_ℤ (sin_at side16 (u * y))) _ (cos_at side16 (u * y)) (row-re-none y v (omega arith)) (row-im y (suc v) k))

  module _ (noise : ℕ) where
    abbrev re : ℕ → ℕ → ℤ
    re u v = filtered side16 noise (bin_re side16 flat u v) (bin_im side16 flat u v)

    abbrev im : ℕ → ℕ → ℤ
    im u v = filtered side16 noise (bin_im side16 flat u v) (bin_re side16 flat u v)

    re-none : (u v : ℕ) → u < 16 → v < 16 → 0 < u + v → re u v ≡ pos 0
    unfolding filtered
    re-none u v h k l = ap (λ q. wiener noise q (quantized side16 (bin_im side16 flat u v))) (part_none (bin-re-none u v h k l)) ∙ wiener-zero noise _

    im-none : (u v : ℕ) → u < 16 → v < 16 → im u v ≡ pos 0
    unfolding filtered
    im-none u v h k = ap (λ q. wiener noise q (quantized side16 (bin_re side16 flat u v))) (part_none (bin-im-none u v h k)) ∙ wiener-zero noise _

    re-first : re 0 0 ≡ wiener noise (c *ℤ pos 4096) (pos 0)
    unfolding filtered quantized side16
    re-first =
        ap₂ (wiener noise) (ap (λ z. away z 16777216) bin-first ∙ away-whole (c *ℤ pos 4096) 16777216 (lit< tt)) (part_none (bin-im-none 0 0 (lit< tt) (lit< tt)))

    -- P, everywhere on the tile
    pub flat-correction : (y x : ℕ) → correction_at side16 noise flat y x ≡ away (wiener noise (c *ℤ pos 4096) (pos 0)) 16
    unfolding correction_at inverse_at side16
    flat-correction y x =
        ap (λ z. away z 4294967296)
        (lone-bin side16 re im (λ u v h k l. (re-none u v h k l, im-none u v h k)) y x
        ∙ less-last twiddle-first re-first (im-none 0 0 (lit< tt) (lit< tt)) (twiddle_im side16 0 0 0 0))
        ∙ away-scale (wiener noise (c *ℤ pos 4096) (pos 0)) 268435456 16 (lit< tt) (lit< tt)

-- r of a flat tile
pub flat-root : (black a : ℕ) → tile_root 16 black (λ i j. a) ≡ 16 * (a - black)
unfolding tile_root sum_of_squares
flat-root black a = sym (root-unique (record { low = omega (arith, squares (a - black)); high = omega (arith, squares (a - black)) }))
  where
    squares : (x : ℕ) → sum_n 16 (λ i. sum_n 16 (λ j. x * x)) ≡ 16 * x * (16 * x)
    squares x = sum_n-cong 16 _ _ (λ i h. sum_n-const 16 (x * x)) ∙ sum_n-const 16 (16 * (x * x)) ∙ omega arith

-- w·w' of the four tiles
windows : (i j : ℕ) → i < 8 → j < 8 → sum_z 4 (λ t. pos (weight_in side16 i j t)) ≡ pos 16777216
unfolding sum_z sum_n side16
windows i j hi hj = ap pos (four-windows side16 4096 window_halves i j hi hj)

-- the output sample where each frame's difference is one number, and each tile's noise the same
module _ {n : Side} (of_16 : n ≡ side16) (y x others : ℕ) (noise : ℕ → ℕ) (d : ℕ → ℕ → ℕ → ℕ → ℤ) (t0 : ℤ) (v : ℕ) (c : ℕ → ℤ) where
  abbrev i : ℕ
  i = y % 8

  abbrev j : ℕ
  j = x % 8

  abbrev total : ℤ
  total = sum_z others (λ k. flat_correction v (c k))

  weighed : ((t : ℕ) → noise t ≡ v) → ((t k : ℕ) → k < others → d t k ≡ (λ y x. c k)) →
      sum_z 4 (λ t. sum_z others (λ k. pos (weight_in side16 i j t) *ℤ correction_at side16 (noise t) (d t k) (row_in side16 i t) (column_in side16 j t))) ≡ pos 16777216 *ℤ total
  unfolding flat_correction
  weighed en ed =
      sum_z-cong 4 _ _
      (λ t h.
      sum_z-cong others _ _
      (λ k l. ap (λ z. pos (weight_in side16 i j t) *ℤ z) (ap₂ (λ n f. correction_at side16 n f (row_in side16 i t) (column_in side16 j t)) (en t) (ed t k l) ∙ flat-correction (c k) v (row_in side16 i t) (column_in side16 j t)))
      ∙ sum_z-scale others (pos (weight_in side16 i j t)) (λ k. flat_correction v (c k)))
      ∙ sum_z-scaler 4 total (λ t. pos (weight_in side16 i j t))
      ∙ ap (λ z. z *ℤ total) (windows i j (omega arith) (omega arith))

  pub flat-sample : ((t : ℕ) → noise t ≡ v) → ((t k : ℕ) → k < others → d t k ≡ (λ y x. c k)) →
      output_sample n (y % n.half) (x % n.half) others noise d t0 ≡ clamp_z (pos 0) (pos 4095) (upward (t0 *ℤ pos (256 * suc others) -ℤ total) (256 * suc others))
  unfolding output_sample side16
  flat-sample en ed =
      let whole = 256 * (16777216 * suc others) in
      let e : whole ≡ 256 * suc others * 16777216 = omega arith in
      ap (λ n. output_sample n (y % n.half) (x % n.half) others noise d t0) of_16
      ∙ ap (clamp_z (pos 0) (pos 4095))
      (ap₂ (λ z n. upward z n)
      (ap (λ z. t0 *ℤ pos whole -ℤ z) (weighed en ed)
      ∙ ring (t0 ∷ pos (suc others) ∷ total ∷ []) (var 0 ⊠ (# 256 ⊠ (# 16777216 ⊠ var 1)) ⊟ # 16777216 ⊠ var 2) ((var 0 ⊠ (# 256 ⊠ var 1) ⊟ var 2) ⊠ # 16777216) tt) e
      ∙ upward-scale (t0 *ℤ pos (256 * suc others) -ℤ total) 16777216 (256 * suc others) (lit< tt) (omega arith))
