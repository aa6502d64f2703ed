-- A fraction that is a whole number over k: `Near 0 1 a k x` says that k·x is a.
use Rattle.algebra.specs.Prelude.{[], ℕ, ℤ, pos}
use Rattle.std.specs.Prelude.{◌<ℤ◌, ◌≡◌, ◌∷◌, ◌<◌, ◌*ℤ◌}
use Rattle.algebra.specs.Vars.{vars4}
use Rattle.algebra.specs.Ring.{◌⊟◌, ◌⊠◌, ⊖◌, #◌}
use Rattle.algebra.specs.Order.{zarith, ≤ℤ-antisym}
use Rattle.algebra.specs.Cert.{le, eq, by_le}
use Rattle.algebra.specs.Fraction.{Frac}
use Rattle.algebra.specs.FractionLaws.{Near}

pub pos-above : {m : ℕ} → 0 < m → pos 0 <ℤ pos m
pos-above {m} h = omega zarith

pub near_same : {a : ℤ} {k : ℤ} {x : Frac} → a *ℤ pos x.den ≡ k *ℤ x.num → Near 0 1 a k x
near_same {a} {k} {x} e =
    let (A, K, N, M) = vars4 in
    let xs = a ∷ k ∷ x.num ∷ pos x.den ∷ [] in
    record {
      more = by_le xs (# 1 ⊠ (A ⊠ M ⊟ K ⊠ N)) (# 0 ⊠ M) (eq (# 1) (A ⊠ M) (K ⊠ N) e) tt;
      less = by_le xs (# 1 ⊠ (K ⊠ N ⊟ A ⊠ M)) (# 0 ⊠ M) (eq (⊖ # 1) (A ⊠ M) (K ⊠ N) e) tt;
    }

pub near-cross : {a : ℤ} {k : ℤ} {x : Frac} → Near 0 1 a k x → a *ℤ pos x.den ≡ k *ℤ x.num
near-cross {a} {k} {x} h =
    let (A, K, N, M) = vars4 in
    let xs = a ∷ k ∷ x.num ∷ pos x.den ∷ [] in
    ≤ℤ-antisym
    (by_le xs (A ⊠ M) (K ⊠ N) (le (# 1 ⊠ (A ⊠ M ⊟ K ⊠ N)) (# 0 ⊠ M) h.more) tt)
    (by_le xs (K ⊠ N) (A ⊠ M) (le (# 1 ⊠ (K ⊠ N ⊟ A ⊠ M)) (# 0 ⊠ M) h.less) tt)
