-- The rules of document 01's tables, each one computed test over the whole table.
use Rattle.algebra.specs.Prelude.{refl, sym, ap, ◌∙◌, Bool, false, ℕ, arith, ℤ, pos, negsuc, nat_abs, neg_ℤ}
use Rattle.std.proofs.Common.{mod-lt, eqb→eq, leb→le, lit<}
use Rattle.std.proofs.Math.Nat.{mod-add-mod}
use Rattle.std.specs.Prelude.{T, eqb, leb, ◌≡◌, ◌+◌, ◌-◌, ◌*◌, ◌%◌, ◌≤◌, ◌<◌}
use Rattle.algebra.specs.Test.{all, all_sound}
use Rattle.recipe.specs.Side.{cos_at, sin_at}
use Rattle.recipe.specs.Tables.{cosines, cosine16, sine16, windows, window16, side16}
use Rattle.recipe.specs.TableRules.{Rules}

-- the index −k
abbrev pub opposite : ℕ → ℕ
opposite k = (16 - k) % 16

-- equal integers, by a test
abbrev same_z : ℤ → ℤ → Bool
same_z (pos a) (pos b) = eqb a b
same_z (pos a) (negsuc b) = false
same_z (negsuc a) (pos b) = false
same_z (negsuc a) (negsuc b) = eqb a b

same-sound : (x y : ℤ) → T (same_z x y) → x ≡ y
same-sound (pos a) (pos b) t = ap pos (eqb→eq a b t)
same-sound (pos a) (negsuc b) t = absurd t
same-sound (negsuc a) (pos b) t = absurd t
same-sound (negsuc a) (negsuc b) t = ap negsuc (eqb→eq a b t)

-- f and g agree below n
pub agree : (n : ℕ) (f g : ℕ → ℤ) → T (all n (λ k. same_z (f k) (g k))) → (k : ℕ) → k < n → f k ≡ g k
agree n f g t k h = same-sound (f k) (g k) (all_sound n (λ k. same_z (f k) (g k)) t k h)

pub agree-nat : (n : ℕ) (f g : ℕ → ℕ) → T (all n (λ k. eqb (f k) (g k))) → (k : ℕ) → k < n → f k ≡ g k
agree-nat n f g t k h = eqb→eq (f k) (g k) (all_sound n (λ k. eqb (f k) (g k)) t k h)

-- f and g agree below n and m
pub agree-both : (n m : ℕ) (f g : ℕ → ℕ → ℤ) → T (all n (λ i. all m (λ k. same_z (f i k) (g i k)))) → (i k : ℕ) → i < n → k < m → f i k ≡ g i k
agree-both n m f g t i k h = agree m (f i) (g i) (all_sound n (λ i. all m (λ k. same_z (f i k) (g i k))) t i h) k

-- C(8−k) = −C(k)
pub cosine-half : (k : ℕ) → k < 9 → cosine16 (8 - k) ≡ neg_ℤ (cosine16 k)
unfolding cosine16 cosines
cosine-half = agree 9 (λ k. cosine16 (8 - k)) (λ k. neg_ℤ (cosine16 k)) tt

-- C(16−k) = C(k)
pub cosine-whole : (k : ℕ) → k < 16 → cosine16 (opposite k) ≡ cosine16 k
unfolding cosine16 cosines
cosine-whole = agree 16 (λ k. cosine16 (opposite k)) cosine16 tt

-- −S(k) = C(k+4)
minus-sine : (k : ℕ) → k < 16 → neg_ℤ (sine16 k) ≡ cosine16 ((k + 4) % 16)
unfolding sine16 cosine16 cosines
minus-sine = agree 16 (λ k. neg_ℤ (sine16 k)) (λ k. cosine16 ((k + 4) % 16)) tt

-- C(−u·n) = C(u·n) and S(−u·n) = −S(u·n)
pub cosine_opposite : (u n : ℕ) → u < 16 → n < 16 → cos_at side16 (opposite u * n) ≡ cos_at side16 (u * n)
unfolding cos_at side16 cosine16 cosines
cosine_opposite = agree-both 16 16 (λ u n. cos_at side16 (opposite u * n)) (λ u n. cos_at side16 (u * n)) tt

pub sine_opposite : (u n : ℕ) → u < 16 → n < 16 → sin_at side16 (opposite u * n) ≡ neg_ℤ (sin_at side16 (u * n))
unfolding sin_at side16 sine16 cosine16 cosines
sine_opposite = agree-both 16 16 (λ u n. sin_at side16 (opposite u * n)) (λ u n. neg_ℤ (sin_at side16 (u * n))) tt

-- w(15−i) = w(i)
pub window-mirror : (i : ℕ) → i < 16 → window16 (15 - i) ≡ window16 i
unfolding window16 windows
window-mirror = agree-nat 16 (λ i. window16 (15 - i)) window16 tt

-- w(i) + w(i+8) = 4096
pub window_halves : (i : ℕ) → i < 8 → window16 i + window16 (i + 8) ≡ 4096
unfolding window16 windows
window_halves = agree-nat 8 (λ i. window16 i + window16 (i + 8)) (λ i. 4096) tt

-- |C(k)| ≤ 16384, whatever the index
pub cosine-most : (k : ℕ) → nat_abs (cos_at side16 k) ≤ 16384
unfolding cos_at side16 cosine16 cosines
cosine-most k =
    leb→le (nat_abs (cosine16 (k % 16))) 16384 (all_sound 16 (λ k. leb (nat_abs (cosine16 k)) 16384) tt (k % 16) (mod-lt k (lit< tt)))

-- −S(k) = C(k+4), whatever the index
pub minus-sine-is : (k : ℕ) → neg_ℤ (sin_at side16 k) ≡ cos_at side16 (k + 4)
unfolding cos_at sin_at side16
minus-sine-is k = minus-sine (k % 16) (mod-lt k (lit< tt)) ∙ ap cosine16 (mod-add-mod k 16 4)

-- |C(k)| + |S(k)| ≤ 23170, whatever the index
abbrev pair : ℕ → ℕ
pair k = nat_abs (cosine16 k) + nat_abs (sine16 k)

pub pair-most : (k : ℕ) → nat_abs (cos_at side16 k) + nat_abs (sin_at side16 k) ≤ 23170
unfolding cos_at sin_at side16 sine16 cosine16 cosines
pair-most k = leb→le (pair (k % 16)) 23170 (all_sound 16 (λ k. leb (pair k) 23170) tt (k % 16) (mod-lt k (lit< tt)))

-- C(k+8) = −C(k)
half_turn : (k : ℕ) → k < 16 → cosine16 ((k + 8) % 16) ≡ neg_ℤ (cosine16 k)
unfolding cosine16 cosines
half_turn = agree 16 (λ k. cosine16 ((k + 8) % 16)) (λ k. neg_ℤ (cosine16 k)) tt

-- C(16−k) = C(k), for 16 too
mirrored : (k : ℕ) → k < 17 → cosine16 ((16 - k) % 16) ≡ cosine16 (k % 16)
unfolding cosine16 cosines
mirrored = agree 17 (λ k. cosine16 ((16 - k) % 16)) (λ k. cosine16 (k % 16)) tt

pub rules16 : Rules side16
unfolding cos_at side16
rules16 =
    record {
      whole = refl;
      quarters = refl;
      half_turn = λ j. ap cosine16 (sym (mod-add-mod j 16 8)) ∙ half_turn (j % 16) (mod-lt j (lit< tt));
      mirrored = λ k h. mirrored k (omega (arith, h));
      most = cosine-most;
    }
