-- The rules of request L8's tables, each one computed test over the whole table.
use Rattle.algebra.specs.Prelude.{refl, sym, ap, ◌∙◌, ℕ, arith, nat_abs, neg_ℤ}
use Rattle.std.proofs.Common.{mod-lt, leb→le, lit<}
use Rattle.std.proofs.Math.Nat.{mod-add-mod}
use Rattle.std.specs.Prelude.{leb, ◌≡◌, ◌+◌, ◌-◌, ◌*◌, ◌%◌, ◌≤◌, ◌<◌}
use Rattle.algebra.specs.Test.{all_sound}
use Rattle.recipe.specs.Side.{cos_at}
use Rattle.recipe.specs.Tables.{cosines, cosine16, side16}
use Rattle.recipe.specs.Tables32.{cosines32, cosine32, windows32, window32, side32}
use Rattle.recipe.specs.TableRules.{Rules, Doubled}
use Rattle.recipe.specs.TableLaws.{agree, agree-nat}

-- C(16−k) = −C(k)
pub cosine-half-32 : (k : ℕ) → k < 17 → cosine32 (16 - k) ≡ neg_ℤ (cosine32 k)
unfolding cosine32 cosines32
cosine-half-32 = agree 17 (λ k. cosine32 (16 - k)) (λ k. neg_ℤ (cosine32 k)) tt

-- C(32−k) = C(k), for 32 too
mirrored : (k : ℕ) → k < 33 → cosine32 ((32 - k) % 32) ≡ cosine32 (k % 32)
unfolding cosine32 cosines32
mirrored = agree 33 (λ k. cosine32 ((32 - k) % 32)) (λ k. cosine32 (k % 32)) tt

-- w(31−i) = w(i)
pub window-mirror-32 : (i : ℕ) → i < 32 → window32 (31 - i) ≡ window32 i
unfolding window32 windows32
window-mirror-32 = agree-nat 32 (λ i. window32 (31 - i)) window32 tt

-- w(i) + w(i+16) = 4096
pub window-halves-32 : (i : ℕ) → i < 16 → window32 i + window32 (i + 16) ≡ 4096
unfolding window32 windows32
window-halves-32 = agree-nat 16 (λ i. window32 i + window32 (i + 16)) (λ i. 4096) tt

-- |C(k)| ≤ 16384, whatever the index
cosine-most : (k : ℕ) → nat_abs (cos_at side32 k) ≤ 16384
unfolding cos_at side32 cosine32 cosines32
cosine-most k =
    leb→le (nat_abs (cosine32 (k % 32))) 16384 (all_sound 32 (λ k. leb (nat_abs (cosine32 k)) 16384) tt (k % 32) (mod-lt k (lit< tt)))

-- C(k+16) = −C(k)
half_turn : (k : ℕ) → k < 32 → cosine32 ((k + 16) % 32) ≡ neg_ℤ (cosine32 k)
unfolding cosine32 cosines32
half_turn = agree 32 (λ k. cosine32 ((k + 16) % 32)) (λ k. neg_ℤ (cosine32 k)) tt

pub rules32 : Rules side32
unfolding cos_at side32
rules32 =
    record {
      whole = refl;
      quarters = refl;
      half_turn = λ j. ap cosine32 (sym (mod-add-mod j 32 16)) ∙ half_turn (j % 32) (mod-lt j (lit< tt));
      mirrored = λ k h. mirrored k (omega (arith, h));
      most = cosine-most;
    }

-- C(2j) is side 16's C(j)
evens : (j : ℕ) → j < 16 → cosine32 (2 * j) ≡ cosine16 j
unfolding cosine32 cosines32 cosine16 cosines
evens = agree 16 (λ j. cosine32 (2 * j)) cosine16 tt

pub doubled32 : Doubled side32 side16
unfolding cos_at side32 side16
doubled32 =
    record {
      line = refl;
      evens = λ j. let twice : 2 * j % 32 ≡ 2 * (j % 16) = omega arith in ap cosine32 twice ∙ evens (j % 16) (mod-lt j (lit< tt));
    }
