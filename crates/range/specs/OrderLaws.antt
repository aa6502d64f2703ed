-- The order of curves: what lies between two numbers that refusals 8 and 9 let through is let through, and its level lies between theirs.
use Rattle.range.specs.Prelude.{refl, Bool, true, false, not, ℕ, zero, suc, arith, Float, nan, inf, fin, up, down, below, level, lt, eq, le}
use Rattle.std.proofs.Common.{le_of_lt, le_of_eq, mul-pos, zero-mul, ltb→lt, le→leb, eqb→eq, ltb-false, eq-eqb}
use Rattle.std.proofs.Math.Nat.{mul-le-mul_right, le_of_mul-le-mul_right}
use Rattle.std.proofs.Math.Dec.{T, eqb, leb→le}
use Rattle.std.specs.Prelude.{ltb, ◌≡◌, ◌&&◌, ◌||◌, ◌+◌, ◌*◌, ◌≤◌, ◌<◌}
use Rattle.std.specs.Float.Ieee.Fits.{up_pos, down_pos, and_l, and_r, and_i}
use Rattle.noise.specs.Level.{floor1024}
use Rattle.noise.specs.Within.{within}
use Rattle.range.specs.Monotone.{quotient-mono}

-- ---- numbers that are not negative, by their significands at one scale: minus zero is 0

or_cases : (a b : Bool) {P : Type 0} → T (a || b) → (T a → P) → (T b → P) → P
or_cases true b t f g = f tt
or_cases false b t f g = g t

module _ (a b : ℕ) where
  least : (s t : Bool) → (T s → a ≡ 0) → T (below s a t b || level s a t b) → a ≤ b
  least true t h l = rw (h tt) (omega arith)
  least false true h l = le_of_eq (eqb→eq a b (and_l (eqb a b) (eqb a 0) l))
  least false false h l = or_cases (ltb a b) (eqb a b && true) l (λ k. le_of_lt (ltb→lt a b k)) (λ k. le_of_eq (eqb→eq a b (and_l (eqb a b) true k)))

  -- nothing is below minus zero but zeros
  none : (s : Bool) → (T s → a ≡ 0) → T (below s a true b || level s a true b) → b ≡ 0
  none false h l = let e = eqb→eq a b (and_l (eqb a b) (eqb a 0) l) in let z = eqb→eq a 0 (and_r (eqb a b) (eqb a 0) l) in omega arith
  none true h l =
      or_cases (ltb b a) (eqb a b && true) l (λ k. let z = h tt in absurd (omega (arith, ltb→lt b a k))) (λ k. let z = h tt in let e = eqb→eq a b (and_l (eqb a b) true k) in omega arith)

-- ---- floats

zero_of : (s : Bool) (m u w : ℕ) → T (not s || eqb m 0) → T s → m * u * w ≡ 0
zero_of true m u w h t = rw (eqb→eq m 0 h, zero-mul u) (zero-mul w)
zero_of false m u w h t = absurd t

zero_is : (n u w : ℕ) → 0 < u → 0 < w → n * u * w ≡ 0 → T (eqb n 0)
zero_is zero u w h k z = tt
zero_is (suc n) u w h k z = absurd (omega (arith, mul-pos h k))

module _ (k : ℕ) where
  pub floor-mono : (l : ℕ) (x y : Float) → T (within k x) → T (within l y) → T (le x y) → floor1024 x ≤ floor1024 y
  unfolding le lt eq
  floor-mono l nan y h g i = absurd h
  floor-mono l (inf s) y h g i = absurd h
  floor-mono l (fin s m e) nan h g i = absurd g
  floor-mono l (fin s m e) (inf t) h g i = absurd g
  floor-mono l (fin s m e) (fin t n d) h g i =
      let cross : m * up e * down d ≤ n * up d * down e = least _ _ s t (zero_of s m (up e) (down d) (and_l (not s || eqb m 0) _ h)) i in
      quotient-mono (1024 * (m * up e)) (1024 * (n * up d)) (down e) (down d) (down_pos e) (down_pos d) (omega arith)

  pub within-between : (x y z : Float) → T (within k x) → T (within k z) → T (le x y) → T (le y z) → T (within k y)
  unfolding le lt eq
  within-between nan y z h g i j = absurd h
  within-between (inf s) y z h g i j = absurd h
  within-between (fin s m e) nan z h g i j = absurd i
  within-between (fin s m e) (inf true) z h g i j = absurd i
  within-between (fin s m e) (inf false) nan h g i j = absurd j
  within-between (fin s m e) (inf false) (inf r) h g i j = absurd g
  within-between (fin s m e) (inf false) (fin r p f) h g i j = absurd j
  within-between (fin s m e) (fin t n d) nan h g i j = absurd g
  within-between (fin s m e) (fin t n d) (inf r) h g i j = absurd g
  within-between (fin s m e) (fin t n d) (fin r p f) h g i j =
      let sign = signed t (zero_of s m (up e) (down d) (and_l (not s || eqb m 0) _ h)) i in
      let cross : n * up d * down f ≤ p * up f * down d = least _ _ t r (zero_of t n (up d) (down f) sign) j in
      let top : p * up f ≤ k * down f = leb→le _ _ (and_r (not r || eqb p 0) _ g) in
      let low : n * up d ≤ k * down d = le_of_mul-le-mul_right {k = down f} (omega (arith, mul-le-mul_right (down d) top)) (down_pos f) in
      and_i (not t || eqb n 0) _ sign (le→leb _ _ low)
    where
      signed : (t : Bool) → (T s → m * up e * down d ≡ 0) → T (below s (m * up e * down d) t (n * up d * down e) || level s (m * up e * down d) t (n * up d * down e)) → T (not t || eqb n 0)
      signed false q l = tt
      signed true q l = zero_is n (up d) (down e) (up_pos d) (down_pos e) (none (m * up e * down d) (n * up d * down e) s q l)

-- ---- what is not above is at most

or_from : (c d : Bool) → (c ≡ false → T d) → T (c || d)
or_from true d f = tt
or_from false d f = f refl

at_most : (a b : ℕ) (s t : Bool) → (T s → a ≡ 0) → (T t → b ≡ 0) → below t b s a ≡ false → T (below s a t b || level s a t b)
at_most a b false false h g e = or_from (ltb a b) (level false a false b) (λ p. let same : a ≡ b = omega (arith, ltb-false b a e, ltb-false a b p) in rw (eq-eqb a b same) tt)
at_most a b false true h g e =
    let none : a ≡ 0 = omega (arith, ltb-false 0 (b + a) e) in
    let same : a ≡ b = omega (arith, ltb-false 0 (b + a) e) in
    rw (eq-eqb a b same, eq-eqb a 0 none) tt
at_most a b true false h g e =
    or_from (ltb 0 (a + b)) (level true a false b)
    (λ p. let none : a ≡ 0 = omega (arith, ltb-false 0 (a + b) p) in
    let same : a ≡ b = omega (arith, ltb-false 0 (a + b) p) in
    rw (eq-eqb a b same, eq-eqb a 0 none) tt)
at_most a b true true h g e = or_from (ltb b a) (level true a true b) (λ p. let same : a ≡ b = omega (arith, h tt, g tt) in rw (eq-eqb a b same) tt)

pub not-above : (k l : ℕ) (x y : Float) → T (within k x) → T (within l y) → lt y x ≡ false → T (le x y)
unfolding le lt eq
not-above k l nan y h g e = absurd h
not-above k l (inf s) y h g e = absurd h
not-above k l (fin s m d) nan h g e = absurd g
not-above k l (fin s m d) (inf t) h g e = absurd g
not-above k l (fin s m d) (fin t n f) h g e =
    at_most (m * up d * down f) (n * up f * down d) s t (zero_of s m (up d) (down f) (and_l (not s || eqb m 0) _ h)) (zero_of t n (up f) (down d) (and_l (not t || eqb n 0) _ g)) e
