-- Laws of the spectrum of real differences: its halfcomplex form holds the bins of document 01, the bins are mirror images, and the filter keeps signs.
use Rattle.std.specs.Prelude.{◌≡◌, ℤ, nat_abs, ◌*ℤ◌, ◌∷◌, ◌+◌, ◌-◌, ◌*◌, ◌%◌, ◌<◌}
use Rattle.std.proofs.Math.Path.{refl, sym, ap, ap₂, fun_ext}
use Rattle.std.proofs.Common.{◌∙◌, lt-ltb}
use Rattle.tile_spectrum.specs.Prelude.{Bool, true, false, cond, List, [], ℕ, zero, suc, arith, eqb, ltb, away, vars4, var, ◌⊞◌, ◌⊟◌, ◌⊠◌, ⊖◌, ring, sum_z, Side, cos_at, sin_at, side16, opposite_of, power, wiener, row_re, row_im, bin_re, bin_im, quantized, filtered, basis_of, halfcomplex_of}
use Rattle.std.proofs.Math.IntN.{pos, neg_ℤ, ◌+ℤ◌, ◌-ℤ◌, *ℤ-zero, zero-*ℤ}
use Rattle.algebra.specs.Order.{abs_neg}
use Rattle.algebra.specs.NearestLaws.{away-odd}
use Rattle.algebra.specs.SumLaws.{sum_z-0, sum_z-cong, sum_z-scaler, sum_z-add, sum_z-sub, sum_z-neg, sum_z-exchange}
use Rattle.tile_spectrum.specs.Spectrum.{MirroredOf, two_way_of, apart_of, real_part, imaginary_part, beside_of, tile_re_of, tile_im_of, two_way, tile_re, tile_im}
use Rattle.tile_spectrum.specs.Turns.{Turns, turns16}

-- a term of a bin, from the row's parts a and b, and C and S of the column
abbrev term_re : (a b c s : ℤ) → ℤ
term_re a b c s = a *ℤ c -ℤ b *ℤ neg_ℤ s

abbrev term_im : (a b c s : ℤ) → ℤ
term_im a b c s = a *ℤ neg_ℤ s +ℤ b *ℤ c

module _ {s : Side} (t : Turns s) where
  -- ---- a line: the halfcomplex_of s form gives each number's parts

  module _ (x : ℕ → ℤ) where
    -- a part of the sums is the sum against that part of the bases
    real-terms : (b : Bool) (j k : ℕ) → cond b (halfcomplex_of s x j) (halfcomplex_of s x k) ≡ sum_z s.side (λ n. x n *ℤ cond b (basis_of s j n) (basis_of s k n))
    unfolding halfcomplex_of
    real-terms true j k = refl
    real-terms false j k = refl

    imaginary-terms : (a b : Bool) (j k : ℕ) → cond a (pos 0) (cond b (halfcomplex_of s x j) (neg_ℤ (halfcomplex_of s x k))) ≡ sum_z s.side (λ n. x n *ℤ cond a (pos 0) (cond b (basis_of s j n) (neg_ℤ (basis_of s k n))))
    unfolding halfcomplex_of
    imaginary-terms true b j k = sym (sum_z-cong s.side _ (λ n. pos 0) (λ n l. *ℤ-zero (x n)) ∙ sum_z-0 s.side)
    imaginary-terms false true j k = refl
    imaginary-terms false false j k =
        sym (sum_z-cong s.side _ (λ n. neg_ℤ (x n *ℤ basis_of s k n)) (λ n l. ring (x n ∷ basis_of s k n ∷ []) (var 0 ⊠ ⊖ var 1) (⊖ (var 0 ⊠ var 1)) tt)
        ∙ sum_z-neg s.side (λ n. x n *ℤ basis_of s k n))

    line-real : (u : ℕ) → u < s.side → real_part s (halfcomplex_of s x) u ≡ sum_z s.side (λ n. x n *ℤ cos_at s (u * n))
    unfolding real_part
    line-real u h = real-terms (ltb u (s.half + 1)) u (s.side - u) ∙ sum_z-cong s.side _ _ (λ n l. ap (λ z. x n *ℤ z) (t.real-part u n h l))

    line-imaginary : (u : ℕ) → u < s.side → imaginary_part s (halfcomplex_of s x) u ≡ sum_z s.side (λ n. x n *ℤ neg_ℤ (sin_at s (u * n)))
    unfolding imaginary_part apart_of
    line-imaginary u h =
        imaginary-terms (eqb (u % s.half) 0) (ltb u (s.half + 1)) (s.half + u) (s.side + s.half - u) ∙ sum_z-cong s.side _ _ (λ n l. ap (λ z. x n *ℤ z) (t.imaginary-part u n h l))

  -- ---- a tile: line v and the one beside_of s it are the columns' forms of the rows' parts

  module _ (d : ℕ → ℕ → ℤ) (v : ℕ) (h : v < s.half + 1) where
    line-is : two_way_of s d v ≡ halfcomplex_of s (λ y. row_re s d y v)
    unfolding two_way_of real_part row_re
    line-is =
        ap (halfcomplex_of s) (fun_ext (λ y. sym (ap (λ b. cond b (halfcomplex_of s (d y) v) (halfcomplex_of s (d y) (s.side - v))) (lt-ltb v (s.half + 1) h)) ∙ line-real (d y) v (omega (arith, t.whole, t.above))))

    beside-terms : (a : Bool) → cond a (λ b. pos 0) (two_way_of s d (s.half + v)) ≡ halfcomplex_of s (λ y. cond a (pos 0) (halfcomplex_of s (d y) (s.half + v)))
    unfolding two_way_of halfcomplex_of
    beside-terms true = fun_ext (λ b. sym (sum_z-cong s.side _ (λ n. pos 0) (λ n l. zero-*ℤ (basis_of s b n)) ∙ sum_z-0 s.side))
    beside-terms false = refl

    beside-is : beside_of s (two_way_of s d) v ≡ halfcomplex_of s (λ y. row_im s d y v)
    unfolding beside_of apart_of imaginary_part row_im
    beside-is =
        beside-terms (eqb (v % s.half) 0)
        ∙ ap (halfcomplex_of s) (fun_ext (λ y. sym (ap (λ b. cond (eqb (v % s.half) 0) (pos 0) (cond b (halfcomplex_of s (d y) (s.half + v)) (neg_ℤ (halfcomplex_of s (d y) (s.side + s.half - v))))) (lt-ltb v (s.half + 1) h))
        ∙ line-imaginary (d y) v (omega (arith, t.whole, t.above))))

    module _ (u : ℕ) (k : u < s.side) where
      abbrev re : ℕ → ℤ
      re y = row_re s d y v

      abbrev im : ℕ → ℤ
      im y = row_im s d y v

      bin-real : tile_re_of s (two_way_of s d) u v ≡ bin_re s d u v
      unfolding tile_re_of bin_re
      bin-real =
          ap₂ (λ p q. real_part s p u -ℤ imaginary_part s q u) line-is beside-is ∙ ap₂ ◌-ℤ◌ (line-real re u k) (line-imaginary im u k)
          ∙ sym (sum_z-sub s.side (λ y. re y *ℤ cos_at s (u * y)) (λ y. im y *ℤ neg_ℤ (sin_at s (u * y))))

      bin-imaginary : tile_im_of s (two_way_of s d) u v ≡ bin_im s d u v
      unfolding tile_im_of bin_im
      bin-imaginary =
          ap₂ (λ p q. imaginary_part s p u +ℤ real_part s q u) line-is beside-is ∙ ap₂ ◌+ℤ◌ (line-imaginary re u k) (line-real im u k)
          ∙ sym (sum_z-add s.side (λ y. re y *ℤ neg_ℤ (sin_at s (u * y))) (λ y. im y *ℤ cos_at s (u * y)))

  -- the bins up to column 8 are the parts that the halfcomplex_of s form holds
  pub bin-re-of : (d : ℕ → ℕ → ℤ) (u v : ℕ) → u < s.side → v < s.half + 1 → tile_re_of s (two_way_of s d) u v ≡ bin_re s d u v
  bin-re-of d u v h l = bin-real d v l u h

  pub bin-im-of : (d : ℕ → ℕ → ℤ) (u v : ℕ) → u < s.side → v < s.half + 1 → tile_im_of s (two_way_of s d) u v ≡ bin_im s d u v
  bin-im-of d u v h l = bin-imaginary d v l u h

  -- ---- the order of the passes

  -- the columns' transforms first, and then the rows' along them, come to the same
  pub columns-first : (d : ℕ → ℕ → ℤ) (k b : ℕ) → two_way_of s d k b ≡ halfcomplex_of s (λ x. halfcomplex_of s (λ y. d y x) b) k
  unfolding two_way_of halfcomplex_of
  columns-first d k b =
      sum_z-cong s.side _ (λ y. sum_z s.side (λ x. d y x *ℤ basis_of s k x *ℤ basis_of s b y)) (λ y i. sym (sum_z-scaler s.side (basis_of s b y) (λ x. d y x *ℤ basis_of s k x)))
      ∙ sum_z-exchange s.side s.side (λ y x. d y x *ℤ basis_of s k x *ℤ basis_of s b y)
      ∙ sum_z-cong s.side _ _
      (λ x i. sum_z-cong s.side _ (λ y. d y x *ℤ basis_of s b y *ℤ basis_of s k x) (λ y j. ring (d y x ∷ basis_of s k x ∷ basis_of s b y ∷ []) (var 0 ⊠ var 1 ⊠ var 2) (var 0 ⊠ var 2 ⊠ var 1) tt)
      ∙ sum_z-scaler s.side (basis_of s k x) (λ y. d y x *ℤ basis_of s b y))

  -- ---- the mirror image

  module _ (d : ℕ → ℕ → ℤ) where
    row-re-mirror : (y v : ℕ) → v < s.side → row_re s d y (opposite_of s v) ≡ row_re s d y v
    unfolding row_re
    row-re-mirror y v h = sum_z-cong s.side _ _ (λ x l. ap (λ z. d y x *ℤ z) (t.cosine_opposite v x h l))

    row-im-mirror : (y v : ℕ) → v < s.side → row_im s d y (opposite_of s v) ≡ neg_ℤ (row_im s d y v)
    unfolding row_im
    row-im-mirror y v h =
        sum_z-cong s.side _ (λ x. neg_ℤ (d y x *ℤ neg_ℤ (sin_at s (v * x))))
        (λ x l. ap (λ z. d y x *ℤ neg_ℤ z) (t.sine_opposite v x h l) ∙ ring (d y x ∷ sin_at s (v * x) ∷ []) (var 0 ⊠ ⊖ ⊖ var 1) (⊖ (var 0 ⊠ ⊖ var 1)) tt)
        ∙ sum_z-neg s.side (λ x. d y x *ℤ neg_ℤ (sin_at s (v * x)))

    module _ (u v : ℕ) (h : u < s.side) (l : v < s.side) where
      -- at the mirror image, both imaginary parts change sign
      mirrored : (term : (a b c s : ℤ) → ℤ) (y : ℕ) → y < s.side → term (row_re s d y (opposite_of s v)) (row_im s d y (opposite_of s v)) (cos_at s (opposite_of s u * y)) (sin_at s (opposite_of s u * y)) ≡ term (row_re s d y v) (neg_ℤ (row_im s d y v)) (cos_at s (u * y)) (neg_ℤ (sin_at s (u * y)))
      mirrored term y k =
          ap₂ (λ a b. term a b (cos_at s (opposite_of s u * y)) (sin_at s (opposite_of s u * y))) (row-re-mirror y v l) (row-im-mirror y v l)
          ∙ ap₂ (term (row_re s d y v) (neg_ℤ (row_im s d y v))) (t.cosine_opposite u y h k) (t.sine_opposite u y h k)

      abbrev values : ℕ → List ℤ
      values y = row_re s d y v ∷ row_im s d y v ∷ cos_at s (u * y) ∷ sin_at s (u * y) ∷ []

      re-mirror : bin_re s d (opposite_of s u) (opposite_of s v) ≡ bin_re s d u v
      unfolding bin_re
      re-mirror =
          sum_z-cong s.side _ _
          (λ y k. mirrored term_re y k ∙ (let (A, B, C, S) = vars4 in ring (values y) (A ⊠ C ⊟ ⊖ B ⊠ ⊖ ⊖ S) (A ⊠ C ⊟ B ⊠ ⊖ S) tt))

      im-mirror : bin_im s d (opposite_of s u) (opposite_of s v) ≡ neg_ℤ (bin_im s d u v)
      unfolding bin_im
      im-mirror =
          sum_z-cong s.side _ (λ y. neg_ℤ (term_im (row_re s d y v) (row_im s d y v) (cos_at s (u * y)) (sin_at s (u * y))))
          (λ y k. mirrored term_im y k ∙ (let (A, B, C, S) = vars4 in ring (values y) (A ⊠ ⊖ ⊖ S ⊞ ⊖ B ⊠ C) (⊖ (A ⊠ ⊖ S ⊞ B ⊠ C)) tt))
          ∙ sum_z-neg s.side (λ y. term_im (row_re s d y v) (row_im s d y v) (cos_at s (u * y)) (sin_at s (u * y)))

    -- the bins of real differences are their mirror images' conjugates
    pub bins-mirrored-of : MirroredOf s (bin_re s d) (bin_im s d)
    bins-mirrored-of = record { re = re-mirror; im = im-mirror }

-- ---- the filter keeps signs

pub wiener-odd : (noise : ℕ) (q r : ℤ) → wiener noise (neg_ℤ q) r ≡ neg_ℤ (wiener noise q r)
unfolding wiener
wiener-odd zero q r = refl
wiener-odd (suc v) q r =
    ap₂ away (ring (pos (suc v) ∷ q ∷ []) (var 0 ⊠ ⊖ var 1) (⊖ (var 0 ⊠ var 1)) tt) (ap (λ a. a * a + nat_abs r * nat_abs r + suc v) (abs_neg q))
    ∙ away-odd (pos (suc v) *ℤ q) (power (suc v) q r) (omega arith)

pub wiener-even : (noise : ℕ) (q r : ℤ) → wiener noise q (neg_ℤ r) ≡ wiener noise q r
unfolding wiener
wiener-even zero q r = refl
wiener-even (suc v) q r = ap (λ a. away (pos (suc v) *ℤ q) (nat_abs q * nat_abs q + a * a + suc v)) (abs_neg r)

module _ (s : Side) where
  quantized-odd : (b : ℤ) → quantized s (neg_ℤ b) ≡ neg_ℤ (quantized s b)
  unfolding quantized
  quantized-odd b = away-odd b s.quantum s.quantum_above

  module _ (noise : ℕ) where
    -- a part of G changes sign with that part of B
    pub filtered-odd-of : (b c : ℤ) → filtered s noise (neg_ℤ b) c ≡ neg_ℤ (filtered s noise b c)
    unfolding filtered
    filtered-odd-of b c =
        ap (λ q. wiener noise q (quantized s c)) (quantized-odd b) ∙ wiener-odd noise (quantized s b) (quantized s c)

    -- and not with the other
    pub filtered-even-of : (b c : ℤ) → filtered s noise b (neg_ℤ c) ≡ filtered s noise b c
    unfolding filtered
    filtered-even-of b c = ap (wiener noise (quantized s b)) (quantized-odd c) ∙ wiener-even noise (quantized s b) (quantized s c)

-- ---- side 16

pub bin-re : (d : ℕ → ℕ → ℤ) (u v : ℕ) → u < 16 → v < 9 → tile_re (two_way d) u v ≡ bin_re side16 d u v
unfolding side16
bin-re = bin-re-of turns16

pub bin-im : (d : ℕ → ℕ → ℤ) (u v : ℕ) → u < 16 → v < 9 → tile_im (two_way d) u v ≡ bin_im side16 d u v
unfolding side16
bin-im = bin-im-of turns16
