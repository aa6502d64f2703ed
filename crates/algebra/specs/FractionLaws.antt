-- Laws of `Within`. Most have a whole number on one side and a multiple k·x of a fraction on the other: so the recipe meets the exact merge.
use Rattle.std.specs.Prelude.{◌≡◌, ℤ, negsuc, nat_abs, ◌+ℤ◌, ◌-ℤ◌, ◌*ℤ◌, ◌≤ℤ◌, ◌<ℤ◌, ◌∷◌, ◌+◌, ◌*◌, ◌≤◌, ◌<◌}
use Rattle.std.proofs.Common.{sym, ◌∙◌, subst, subst₂, mul-le-mul_left, le_refl, le_trans, add_comm}
use Rattle.algebra.specs.Prelude.{[], ℕ, zero, suc, arith}
use Rattle.std.proofs.Math.IntN.{pos, zero-*ℤ}
use Rattle.algebra.specs.Vars.{vars3, vars4, vars5, vars6, vars7, vars8, vars9, vars10}
use Rattle.algebra.specs.Ring.{var, ◌⊞◌, ◌⊟◌, ◌⊠◌, ⊖◌, #◌, nth}
use Rattle.algebra.specs.Order.{zarith, abs-upper, abs-lower, abs-le, abs-mul, 0≤pos}
use Rattle.algebra.specs.Cert.{Cert, num, nn, le, eq, ◌⊕◌, ◌⊗◌, by_le, by-le-times, le-pos}
use Rattle.algebra.specs.Sums.{sum_z, sum_n}
use Rattle.algebra.specs.SumLaws.{sum_n-const}
use Rattle.algebra.specs.Clamp.{clamp_z}
use Rattle.algebra.specs.ClampLaws.{clamp-cases, clamp-near, clamp-below, clamp-same, clamp-above}
use Rattle.algebra.specs.Fraction.{Frac, frac, whole, ◌+F◌, ◌-F◌, ◌·F◌, over, sum_f, held, Within}
use Rattle.algebra.specs.NearestLaws.{Rounds}

-- ---- one side of it: x − y ≤ e/d

record Below (e d : ℕ) (x y : Frac) : Type 0 where
  is : (pos d *ℤ (x.num *ℤ pos y.den -ℤ y.num *ℤ pos x.den)) ≤ℤ pos (e * (x.den * y.den))

module _ {e d : ℕ} {x y : Frac} where
  below : Within e d x y → Below e d x y
  below h = record { is = abs-upper _ h.within }

  above_of : Within e d x y → Below e d y x
  above_of h =
      let (D, E, XN, XD, YN, YD) = vars6 in
      record {
        is =
            by_le (pos d ∷ pos e ∷ x.num ∷ pos x.den ∷ y.num ∷ pos y.den ∷ []) (D ⊠ (YN ⊠ XD ⊟ XN ⊠ YD)) (E ⊠ (YD ⊠ XD))
            (le (⊖ (E ⊠ (XD ⊠ YD))) (D ⊠ (XN ⊠ YD ⊟ YN ⊠ XD)) (abs-lower _ h.within)) tt;
      }

  both : Below e d x y → Below e d y x → Within e d x y
  both h k =
      let (D, E, XN, XD, YN, YD) = vars6 in
      record {
        within =
            abs-le _
            (by_le (pos d ∷ pos e ∷ x.num ∷ pos x.den ∷ y.num ∷ pos y.den ∷ []) (⊖ (E ⊠ (XD ⊠ YD))) (D ⊠ (XN ⊠ YD ⊟ YN ⊠ XD)) (le (D ⊠ (YN ⊠ XD ⊟ XN ⊠ YD)) (E ⊠ (YD ⊠ XD)) k.is) tt) h.is;
      }

pos-above : {m : ℕ} → 0 < m → pos 0 <ℤ pos m
pos-above {m} h = omega zarith

below-trans : {e f d : ℕ} {x y z : Frac} → Below e d x y → Below f d y z → Below (e + f) d x z
below-trans {e} {f} {d} {x} {y} {z} h k =
    let (D, E, F, XN, XD, YN, YD, ZN, ZD) = vars9 in
    record {
      is =
          by-le-times (pos d ∷ pos e ∷ pos f ∷ x.num ∷ pos x.den ∷ y.num ∷ pos y.den ∷ z.num ∷ pos z.den ∷ []) YD
          (D ⊠ (XN ⊠ ZD ⊟ ZN ⊠ XD)) ((E ⊞ F) ⊠ (XD ⊠ ZD))
          (le (D ⊠ (XN ⊠ YD ⊟ YN ⊠ XD)) (E ⊠ (XD ⊠ YD)) h.is ⊗ nn ZD (0≤pos z.den) ⊕ le (D ⊠ (YN ⊠ ZD ⊟ ZN ⊠ YD)) (F ⊠ (YD ⊠ ZD)) k.is ⊗ nn XD (0≤pos x.den))
          (pos-above y.above) tt;
    }

pub within-trans : {e f d : ℕ} {x y z : Frac} → Within e d x y → Within f d y z → Within (e + f) d x z
within-trans {e} {f} {d} {x} {y} {z} h k =
    both (below-trans (below h) (below k)) (subst (λ t. Below t d z x) (add_comm f e) (below-trans (above_of k) (above_of h)))

-- the same fraction
pub within_same : (d : ℕ) (x y : Frac) → x.num *ℤ pos y.den ≡ y.num *ℤ pos x.den → Within 0 d x y
within_same d x y h =
    let (A, B, D) = vars3 in
    let xs = (x.num *ℤ pos y.den) ∷ (y.num *ℤ pos x.den) ∷ pos d ∷ pos x.den ∷ pos y.den ∷ [] in
    both
    (record { is = by_le xs (D ⊠ (A ⊟ B)) (# 0 ⊠ (var 3 ⊠ var 4)) (eq D A B h) tt })
    (record { is = by_le xs (D ⊠ (B ⊟ A)) (# 0 ⊠ (var 4 ⊠ var 3)) (eq (⊖ D) A B h) tt })

-- ---- a whole number a within e/d of k·x

pub record Near (e d : ℕ) (a k : ℤ) (x : Frac) : Type 0 where
  pub more : (pos d *ℤ (a *ℤ pos x.den -ℤ k *ℤ x.num)) ≤ℤ pos (e * x.den)
  pub less : (pos d *ℤ (k *ℤ x.num -ℤ a *ℤ pos x.den)) ≤ℤ pos (e * x.den)

module _ {e d : ℕ} {a k : ℤ} {x : Frac} where
  pub within-near : Within e d (whole a) (k ·F x) → Near e d a k x
  unfolding whole ◌·F◌
  within-near h =
      let (A, K, N, M, D, E) = vars6 in
      let xs = a ∷ k ∷ x.num ∷ pos x.den ∷ pos d ∷ pos e ∷ [] in
      record {
        more = by_le xs (D ⊠ (A ⊠ M ⊟ K ⊠ N)) (E ⊠ M) (le (D ⊠ (A ⊠ M ⊟ K ⊠ N ⊠ # 1)) (E ⊠ (# 1 ⊠ M)) (below h).is) tt;
        less = by_le xs (D ⊠ (K ⊠ N ⊟ A ⊠ M)) (E ⊠ M) (le (D ⊠ (K ⊠ N ⊠ # 1 ⊟ A ⊠ M)) (E ⊠ (M ⊠ # 1)) (above_of h).is) tt;
      }

-- the statement's form, where k is 1
pub near-one : {e d : ℕ} {a : ℤ} {x : Frac} → Near e d a (pos 1) x → Within e d (whole a) x
unfolding whole
near-one {e} {d} {a} {x} h =
    let (A, N, M, D, E) = vars5 in
    let xs = a ∷ x.num ∷ pos x.den ∷ pos d ∷ pos e ∷ [] in
    both
    (record { is = by_le xs (D ⊠ (A ⊠ M ⊟ N ⊠ # 1)) (E ⊠ (# 1 ⊠ M)) (le (D ⊠ (A ⊠ M ⊟ # 1 ⊠ N)) (E ⊠ M) h.more) tt })
    (record { is = by_le xs (D ⊠ (N ⊠ # 1 ⊟ A ⊠ M)) (E ⊠ (M ⊠ # 1)) (le (D ⊠ (# 1 ⊠ N ⊟ A ⊠ M)) (E ⊠ M) h.less) tt })

pub near-zero : (d : ℕ) (k : ℤ) → Near 0 d (pos 0) k (whole (pos 0))
unfolding whole
near-zero d k =
    record {
      more = by_le (pos d ∷ k ∷ []) (var 0 ⊠ (# 0 ⊠ # 1 ⊟ var 1 ⊠ # 0)) (# 0) (num 0) tt;
      less = by_le (pos d ∷ k ∷ []) (var 0 ⊠ (var 1 ⊠ # 0 ⊟ # 0 ⊠ # 1)) (# 0) (num 0) tt;
    }

module _ {e f d : ℕ} {a b k : ℤ} {x y : Frac} (h : Near e d a k x) (g : Near f d b k y) where
  pub near_add : Near (e + f) d (a +ℤ b) k (x +F y)
  unfolding ◌+F◌
  near_add =
      let (A, B, K, XN, X, YN, Y, D, E, F) = vars10 in
      let xs = a ∷ b ∷ k ∷ x.num ∷ pos x.den ∷ y.num ∷ pos y.den ∷ pos d ∷ pos e ∷ pos f ∷ [] in
      let Z = XN ⊠ Y ⊞ YN ⊠ X in
      record {
        more = by_le xs (D ⊠ ((A ⊞ B) ⊠ (X ⊠ Y) ⊟ K ⊠ Z)) ((E ⊞ F) ⊠ (X ⊠ Y)) (le (D ⊠ (A ⊠ X ⊟ K ⊠ XN)) (E ⊠ X) h.more ⊗ nn Y (0≤pos y.den) ⊕ le (D ⊠ (B ⊠ Y ⊟ K ⊠ YN)) (F ⊠ Y) g.more ⊗ nn X (0≤pos x.den)) tt;
        less = by_le xs (D ⊠ (K ⊠ Z ⊟ (A ⊞ B) ⊠ (X ⊠ Y))) ((E ⊞ F) ⊠ (X ⊠ Y)) (le (D ⊠ (K ⊠ XN ⊟ A ⊠ X)) (E ⊠ X) h.less ⊗ nn Y (0≤pos y.den) ⊕ le (D ⊠ (K ⊠ YN ⊟ B ⊠ Y)) (F ⊠ Y) g.less ⊗ nn X (0≤pos x.den)) tt;
      }

  pub near_sub : Near (e + f) d (a -ℤ b) k (x -F y)
  unfolding ◌-F◌
  near_sub =
      let (A, B, K, XN, X, YN, Y, D, E, F) = vars10 in
      let xs = a ∷ b ∷ k ∷ x.num ∷ pos x.den ∷ y.num ∷ pos y.den ∷ pos d ∷ pos e ∷ pos f ∷ [] in
      let Z = XN ⊠ Y ⊟ YN ⊠ X in
      record {
        more = by_le xs (D ⊠ ((A ⊟ B) ⊠ (X ⊠ Y) ⊟ K ⊠ Z)) ((E ⊞ F) ⊠ (X ⊠ Y)) (le (D ⊠ (A ⊠ X ⊟ K ⊠ XN)) (E ⊠ X) h.more ⊗ nn Y (0≤pos y.den) ⊕ le (D ⊠ (K ⊠ YN ⊟ B ⊠ Y)) (F ⊠ Y) g.less ⊗ nn X (0≤pos x.den)) tt;
        less = by_le xs (D ⊠ (K ⊠ Z ⊟ (A ⊟ B) ⊠ (X ⊠ Y))) ((E ⊞ F) ⊠ (X ⊠ Y)) (le (D ⊠ (K ⊠ XN ⊟ A ⊠ X)) (E ⊠ X) h.less ⊗ nn Y (0≤pos y.den) ⊕ le (D ⊠ (B ⊠ Y ⊟ K ⊠ YN)) (F ⊠ Y) g.more ⊗ nn X (0≤pos x.den)) tt;
      }

-- c·a against k·(c·x)
pub near-scale : {e d : ℕ} {a k : ℤ} {x : Frac} (c : ℤ) → Near e d a k x → Near (nat_abs c * e) d (c *ℤ a) k (c ·F x)
unfolding ◌·F◌
near-scale {e} {d} {a} {k} {x} (pos c) h =
    let (A, K, N, M, D, E, C) = vars7 in
    let xs = a ∷ k ∷ x.num ∷ pos x.den ∷ pos d ∷ pos e ∷ pos c ∷ [] in
    record {
      more = by_le xs (D ⊠ (C ⊠ A ⊠ M ⊟ K ⊠ (C ⊠ N))) (C ⊠ E ⊠ M) (nn C (0≤pos c) ⊗ le (D ⊠ (A ⊠ M ⊟ K ⊠ N)) (E ⊠ M) h.more) tt;
      less = by_le xs (D ⊠ (K ⊠ (C ⊠ N) ⊟ C ⊠ A ⊠ M)) (C ⊠ E ⊠ M) (nn C (0≤pos c) ⊗ le (D ⊠ (K ⊠ N ⊟ A ⊠ M)) (E ⊠ M) h.less) tt;
    }
near-scale {e} {d} {a} {k} {x} (negsuc c) h =
    let (A, K, N, M, D, E, C) = vars7 in
    let xs = a ∷ k ∷ x.num ∷ pos x.den ∷ pos d ∷ pos e ∷ pos (suc c) ∷ [] in
    record {
      more = by_le xs (D ⊠ (⊖ C ⊠ A ⊠ M ⊟ K ⊠ (⊖ C ⊠ N))) (C ⊠ E ⊠ M) (nn C (0≤pos (suc c)) ⊗ le (D ⊠ (K ⊠ N ⊟ A ⊠ M)) (E ⊠ M) h.less) tt;
      less = by_le xs (D ⊠ (K ⊠ (⊖ C ⊠ N) ⊟ ⊖ C ⊠ A ⊠ M)) (C ⊠ E ⊠ M) (nn C (0≤pos (suc c)) ⊗ le (D ⊠ (A ⊠ M ⊟ K ⊠ N)) (E ⊠ M) h.more) tt;
    }

pub near-sum : (n : ℕ) {d : ℕ} {k : ℤ} (e : ℕ → ℕ) (a : ℕ → ℤ) (f : ℕ → Frac) → ((i : ℕ) → i < n → Near (e i) d (a i) k (f i)) → Near (sum_n n e) d (sum_z n a) k (sum_f n f)
unfolding sum_n sum_z sum_f
near-sum zero {d} {k} e a f h = near-zero d k
near-sum (suc n) e a f h = near_add (near-sum n e a f (λ i l. h i (omega arith))) (h n (le_refl (suc n)))

pub near-sums : (n : ℕ) {e d : ℕ} {k : ℤ} (a : ℕ → ℤ) (f : ℕ → Frac) → ((i : ℕ) → i < n → Near e d (a i) k (f i)) → Near (n * e) d (sum_z n a) k (sum_f n f)
near-sums n {e} {d} {k} a f h = subst (λ t. Near t d (sum_z n a) k (sum_f n f)) (sum_n-const n e) (near-sum n (λ i. e) a f h)

-- a bound that is no smaller: e/d ≤ e'/d'
pub near-mono : {e d e' d' : ℕ} {a k : ℤ} {x : Frac} → 0 < d → e * d' ≤ e' * d → Near e d a k x → Near e' d' a k x
near-mono {e} {d} {e'} {d'} {a} {k} {x} p l h =
    let (Z, E, D, E', D', M) = vars6 in
    let grow : (z : ℤ) → (pos d *ℤ z) ≤ℤ pos (e * x.den) → (pos d' *ℤ z) ≤ℤ pos (e' * x.den) =
    λ z g. by-le-times (z ∷ pos e ∷ pos d ∷ pos e' ∷ pos d' ∷ pos x.den ∷ []) D (D' ⊠ Z) (E' ⊠ M)
    (nn D' (0≤pos d') ⊗ le (D ⊠ Z) (E ⊠ M) g ⊕ le (E ⊠ D') (E' ⊠ D) (le-pos l) ⊗ nn M (0≤pos x.den)) (pos-above p) tt in
    record { more = grow (a *ℤ pos x.den -ℤ k *ℤ x.num) h.more; less = grow (k *ℤ x.num -ℤ a *ℤ pos x.den) h.less }

-- ---- rounding

pub rounds-within : {z : ℤ} {m : ℕ} {q : ℤ} (h : 0 < m) → Rounds z m q → Within 1 2 (whole q) (frac z m h)
unfolding whole frac
rounds-within {z} {m} {q} h r =
    let (Z, M, Q) = vars3 in
    both
    (record { is = by_le (z ∷ pos m ∷ q ∷ []) (# 2 ⊠ (Q ⊠ M ⊟ Z ⊠ # 1)) (# 1 ⊠ (# 1 ⊠ M)) (le (# 2 ⊠ (M ⊠ Q ⊟ Z)) M r.up) tt })
    (record { is = by_le (z ∷ pos m ∷ q ∷ []) (# 2 ⊠ (Z ⊠ # 1 ⊟ Q ⊠ M)) (# 1 ⊠ (M ⊠ # 1)) (le (# 2 ⊠ (Z ⊟ M ⊠ Q)) M r.down) tt })

-- a near k·x is a near (k·m)·(x/m)
pub near-over : {e d k : ℕ} {a : ℤ} {x : Frac} (m : ℕ) (h : 0 < m) → Near e d a (pos k) x → Near e d a (pos (k * m)) (over x m h)
unfolding over
near-over {e} {d} {k} {a} {x} m h g =
    let (A, K, N, X, D, E, M) = vars7 in
    let xs = a ∷ pos k ∷ x.num ∷ pos x.den ∷ pos d ∷ pos e ∷ pos m ∷ [] in
    record {
      more = by_le xs (D ⊠ (A ⊠ (X ⊠ M) ⊟ K ⊠ M ⊠ N)) (E ⊠ (X ⊠ M)) (le (D ⊠ (A ⊠ X ⊟ K ⊠ N)) (E ⊠ X) g.more ⊗ nn M (0≤pos m)) tt;
      less = by_le xs (D ⊠ (K ⊠ M ⊠ N ⊟ A ⊠ (X ⊠ M))) (E ⊠ (X ⊠ M)) (le (D ⊠ (K ⊠ N ⊟ A ⊠ X)) (E ⊠ X) g.less ⊗ nn M (0≤pos m)) tt;
    }

-- z near (j·m)·x, and q is z/m rounded: q is near j·x, by 1/2 more
pub near-rounds : {e d : ℕ} {z : ℤ} {j m : ℕ} {x : Frac} {q : ℤ} → Near e d z (pos (j * m)) x → Rounds z m q → Near (2 * e + d * m) (2 * (d * m)) q (pos j) x
near-rounds {e} {d} {z} {j} {m} {x} {q} g r =
    let (E, D, Z, J, M, N, X, Q) = vars8 in
    let xs = pos e ∷ pos d ∷ z ∷ pos j ∷ pos m ∷ x.num ∷ pos x.den ∷ q ∷ [] in
    let dx : Cert (nth xs) = nn D (0≤pos d) ⊗ nn X (0≤pos x.den) in
    record {
      more = by_le xs (# 2 ⊠ (D ⊠ M) ⊠ (Q ⊠ X ⊟ J ⊠ N)) ((# 2 ⊠ E ⊞ D ⊠ M) ⊠ X) (num 2 ⊗ le (D ⊠ (Z ⊠ X ⊟ J ⊠ M ⊠ N)) (E ⊠ X) g.more ⊕ dx ⊗ le (# 2 ⊠ (M ⊠ Q ⊟ Z)) M r.up) tt;
      less = by_le xs (# 2 ⊠ (D ⊠ M) ⊠ (J ⊠ N ⊟ Q ⊠ X)) ((# 2 ⊠ E ⊞ D ⊠ M) ⊠ X) (num 2 ⊗ le (D ⊠ (J ⊠ M ⊠ N ⊟ Z ⊠ X)) (E ⊠ X) g.less ⊕ dx ⊗ le (# 2 ⊠ (Z ⊟ M ⊠ Q)) M r.down) tt;
    }

-- a·k is k times the whole number a
pub near-whole : (d k : ℕ) (a : ℤ) → Near 0 d (a *ℤ pos k) (pos k) (whole a)
unfolding whole
near-whole d k a =
    let (A, K, D) = vars3 in
    record {
      more = by_le (a ∷ pos k ∷ pos d ∷ []) (D ⊠ (A ⊠ K ⊠ # 1 ⊟ K ⊠ A)) (# 0) (num 0) tt;
      less = by_le (a ∷ pos k ∷ pos d ∷ []) (D ⊠ (K ⊠ A ⊟ A ⊠ K ⊠ # 1)) (# 0) (num 0) tt;
    }

-- ---- holding to 0..hi does not stretch

clamp-times : (hi m : ℕ) (z : ℤ) → clamp_z (pos 0) (pos (hi * m)) (z *ℤ pos m) ≡ clamp_z (pos 0) (pos hi) z *ℤ pos m
clamp-times hi m z =
    let (H, M, Z) = vars3 in
    let xs = pos hi ∷ pos m ∷ z ∷ [] in
    let c : Cert (nth xs) = nn M (0≤pos m) in
    clamp-cases (pos 0) (pos hi) z (0≤pos hi) (λ t. clamp_z (pos 0) (pos (hi * m)) (z *ℤ pos m) ≡ t *ℤ pos m)
    (λ a. clamp-below (pos 0) (pos (hi * m)) (z *ℤ pos m) (0≤pos (hi * m)) (by_le xs (Z ⊠ M) (# 0) (le Z (# 0) a ⊗ c) tt) ∙ sym (zero-*ℤ (pos m)))
    (λ a b. clamp-same (pos 0) (pos (hi * m)) (z *ℤ pos m) (by_le xs (# 0) (Z ⊠ M) (nn Z a ⊗ c) tt) (by_le xs (Z ⊠ M) (H ⊠ M) (le Z H b ⊗ c) tt))
    (λ a. clamp-above (pos 0) (pos (hi * m)) (z *ℤ pos m) (0≤pos (hi * m)) (by_le xs (H ⊠ M) (Z ⊠ M) (le H Z a ⊗ c) tt))

-- |d·u| ≤ K and |t| ≤ |u| give |d·t| ≤ K
shorter : (d K : ℕ) (t u : ℤ) → nat_abs t ≤ nat_abs u → nat_abs (pos d *ℤ u) ≤ K → nat_abs (pos d *ℤ t) ≤ K
shorter d K t u h k = le_trans (subst₂ ◌≤◌ (sym (abs-mul (pos d) t)) (sym (abs-mul (pos d) u)) (mul-le-mul_left d h)) k

pub near-held : {e d : ℕ} {a : ℤ} {x : Frac} (hi : ℕ) → Near e d a (pos 1) x → Near e d (clamp_z (pos 0) (pos hi) a) (pos 1) (held hi x)
unfolding held
near-held {e} {d} {a} {x} hi h =
    let (T, C, D, E) = vars4 in
    let xs = (clamp_z (pos 0) (pos hi) a *ℤ pos x.den) ∷ clamp_z (pos 0) (pos (hi * x.den)) x.num ∷ pos d ∷ pos (e * x.den) ∷ [] in
    record {
      more = by_le xs (D ⊠ (T ⊟ # 1 ⊠ C)) E (le (D ⊠ (T ⊟ C)) E (abs-upper _ small)) tt;
      less = by_le xs (D ⊠ (# 1 ⊠ C ⊟ T)) E (le (⊖ E) (D ⊠ (T ⊟ C)) (abs-lower _ small)) tt;
    }
  where
    large : nat_abs (pos d *ℤ (a *ℤ pos x.den -ℤ x.num)) ≤ e * x.den
    large =
        let (A, N, D, E) = vars4 in
        let xs = (a *ℤ pos x.den) ∷ x.num ∷ pos d ∷ pos (e * x.den) ∷ [] in
        abs-le _ (by_le xs (⊖ E) (D ⊠ (A ⊟ N)) (le (D ⊠ (# 1 ⊠ N ⊟ A)) E h.less) tt) (by_le xs (D ⊠ (A ⊟ N)) E (le (D ⊠ (A ⊟ # 1 ⊠ N)) E h.more) tt)

    small : nat_abs (pos d *ℤ (clamp_z (pos 0) (pos hi) a *ℤ pos x.den -ℤ clamp_z (pos 0) (pos (hi * x.den)) x.num)) ≤ e * x.den
    small =
        subst (λ t. nat_abs (pos d *ℤ (t -ℤ clamp_z (pos 0) (pos (hi * x.den)) x.num)) ≤ e * x.den) (clamp-times hi x.den a)
        (shorter d (e * x.den) (clamp_z (pos 0) (pos (hi * x.den)) (a *ℤ pos x.den) -ℤ clamp_z (pos 0) (pos (hi * x.den)) x.num) (a *ℤ pos x.den -ℤ x.num) (clamp-near (pos 0) (pos (hi * x.den)) (a *ℤ pos x.den) x.num (0≤pos (hi * x.den))) large)

-- a/k against x, where a is near k·x
pub near-frac : {e d k : ℕ} {a : ℤ} {x : Frac} (h : 0 < k) → Near e d a (pos k) x → Within e (d * k) (frac a k h) x
unfolding frac
near-frac {e} {d} {k} {a} {x} h g =
    let (A, K, N, M, D, E) = vars6 in
    let xs = a ∷ pos k ∷ x.num ∷ pos x.den ∷ pos d ∷ pos e ∷ [] in
    both
    (record { is = by_le xs (D ⊠ K ⊠ (A ⊠ M ⊟ N ⊠ K)) (E ⊠ (K ⊠ M)) (nn K (0≤pos k) ⊗ le (D ⊠ (A ⊠ M ⊟ K ⊠ N)) (E ⊠ M) g.more) tt })
    (record { is = by_le xs (D ⊠ K ⊠ (N ⊠ K ⊟ A ⊠ M)) (E ⊠ (M ⊠ K)) (nn K (0≤pos k) ⊗ le (D ⊠ (K ⊠ N ⊟ A ⊠ M)) (E ⊠ M) g.less) tt })
