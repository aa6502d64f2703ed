-- The length of a tile of numbers, the root of the sum of their squares, as a bound e/d; lengths add up.
use Rattle.std.specs.Prelude.{◌≡◌, ◌∷◌, ◌+◌, ◌*◌, ◌≤◌, ◌<◌, ◌+ℤ◌, ◌-ℤ◌, ◌*ℤ◌, ◌≤ℤ◌}
use Rattle.closeness.specs.Spatial.Prelude.{◌∙◌, ap₂, subst, [], ℕ, zero, suc, arith, ℤ, pos, nat_abs, subst₂, vars3, vars4, vars5, vars6, var, ◌⊞◌, ◌⊟◌, ◌⊠◌, #◌, ring, sq, sum_z}
use Rattle.std.proofs.Common.{le_refl, mul-pos}
use Rattle.algebra.specs.Order.{abs-of-sq, 0≤pos, 0≤sq}
use Rattle.algebra.specs.Cert.{nn, le, sqr, ◌⊕◌, ◌⊗◌, by_le, by-le-times}
use Rattle.algebra.specs.SumLaws.{sum_z-cong, sum_z-add, sum_z-scale}
use Rattle.algebra.specs.SumOrder.{sum_z-const, sum_z-mono, sum_z-nonneg, sum_z-at}
use Rattle.algebra.specs.Same.{pos-above}

-- ---- sums over a tile of n rows of n

unfoldable pub tile_sum : ℕ → (ℕ → ℕ → ℤ) → ℤ
tile_sum n f = sum_z n (λ y. sum_z n (λ x. f y x))

module _ (n : ℕ) (f g : ℕ → ℕ → ℤ) where
  pub tile-cong : ((y x : ℕ) → y < n → x < n → f y x ≡ g y x) → tile_sum n f ≡ tile_sum n g
  unfolding tile_sum
  tile-cong h = sum_z-cong n _ _ (λ y k. sum_z-cong n _ _ (λ x l. h y x k l))

  pub tile-mono : ((y x : ℕ) → y < n → x < n → f y x ≤ℤ g y x) → tile_sum n f ≤ℤ tile_sum n g
  unfolding tile_sum
  tile-mono h = sum_z-mono n _ _ (λ y k. sum_z-mono n _ _ (λ x l. h y x k l))

  pub tile-add : tile_sum n (λ y x. f y x +ℤ g y x) ≡ tile_sum n f +ℤ tile_sum n g
  unfolding tile_sum
  tile-add = sum_z-cong n _ _ (λ y k. sum_z-add n (f y) (g y)) ∙ sum_z-add n (λ y. sum_z n (f y)) (λ y. sum_z n (g y))

pub tile-scale : (n : ℕ) (c : ℤ) (f : ℕ → ℕ → ℤ) → tile_sum n (λ y x. c *ℤ f y x) ≡ c *ℤ tile_sum n f
unfolding tile_sum
tile-scale n c f = sum_z-cong n _ _ (λ y k. sum_z-scale n c (f y)) ∙ sum_z-scale n c (λ y. sum_z n (f y))

pub tile-const : (n : ℕ) (c : ℤ) → tile_sum n (λ y x. c) ≡ pos (n * n) *ℤ c
unfolding tile_sum
tile-const n c =
    sum_z-cong n _ (λ y. pos n *ℤ c) (λ y k. sum_z-const n c) ∙ sum_z-const n (pos n *ℤ c) ∙ ring (pos n ∷ c ∷ []) (var 0 ⊠ (var 0 ⊠ var 1)) (var 0 ⊠ var 0 ⊠ var 1) tt

-- ---- lengths

-- q has the squares at each place: their sum is at most (e/d)²
pub record Length (n e d : ℕ) (q : ℕ → ℕ → ℤ) : Type 0 where
  pub length : (pos (d * d) *ℤ tile_sum n q) ≤ℤ pos (e * e)

-- the squares of a tile of numbers, and of one of complex numbers
abbrev pub squares : (ℕ → ℕ → ℤ) → ℕ → ℕ → ℤ
squares f y x = sq (f y x)

abbrev pub moduli : (g h : ℕ → ℕ → ℤ) → ℕ → ℕ → ℤ
moduli g h y x = sq (g y x) +ℤ sq (h y x)

abbrev pub minus : (f g : ℕ → ℕ → ℤ) → ℕ → ℕ → ℤ
minus f g y x = f y x -ℤ g y x

pub length-bounded : (n d b : ℕ) (q : ℕ → ℕ → ℤ) → ((y x : ℕ) → y < n → x < n → (pos (d * d) *ℤ q y x) ≤ℤ pos (b * b)) → Length n (n * b) d q
length-bounded n d b q h =
    record {
      length =
          subst₂ ◌≤ℤ◌ (tile-scale n (pos (d * d)) q) (tile-const n (pos (b * b)) ∙ ring (pos n ∷ pos b ∷ []) (var 0 ⊠ var 0 ⊠ (var 1 ⊠ var 1)) (var 0 ⊠ var 1 ⊠ (var 0 ⊠ var 1)) tt)
          (tile-mono n (λ y x. pos (d * d) *ℤ q y x) (λ y x. pos (b * b)) h);
    }

-- the length of a difference is at most the sum of the lengths, since e·e'·(f − g)² ≤ (e + e')·(e'·f² + e·g²) at each place
place : (e e' : ℕ) (f g : ℤ) → (pos (e * e') *ℤ sq (f -ℤ g)) ≤ℤ (pos ((e + e') * e') *ℤ sq f +ℤ pos ((e + e') * e) *ℤ sq g)
place e e' f g =
    let (E, E', F, G) = vars4 in
    by_le (pos e ∷ pos e' ∷ f ∷ g ∷ []) (E ⊠ E' ⊠ ((F ⊟ G) ⊠ (F ⊟ G))) ((E ⊞ E') ⊠ E' ⊠ (F ⊠ F) ⊞ (E ⊞ E') ⊠ E ⊠ (G ⊠ G)) (sqr (E' ⊠ F ⊞ E ⊠ G)) tt

places : (n e e' : ℕ) (f g : ℕ → ℕ → ℤ) → (pos (e * e') *ℤ tile_sum n (squares (minus f g))) ≤ℤ (pos ((e + e') * e') *ℤ tile_sum n (squares f) +ℤ pos ((e + e') * e) *ℤ tile_sum n (squares g))
places n e e' f g =
    subst₂ ◌≤ℤ◌ (tile-scale n (pos (e * e')) (squares (minus f g)))
    (tile-add n (λ y x. pos ((e + e') * e') *ℤ sq (f y x)) (λ y x. pos ((e + e') * e) *ℤ sq (g y x)) ∙ ap₂ ◌+ℤ◌ (tile-scale n (pos ((e + e') * e')) (squares f)) (tile-scale n (pos ((e + e') * e)) (squares g)))
    (tile-mono n (λ y x. pos (e * e') *ℤ sq (f y x -ℤ g y x)) (λ y x. pos ((e + e') * e') *ℤ sq (f y x) +ℤ pos ((e + e') * e) *ℤ sq (g y x)) (λ y x k l. place e e' (f y x) (g y x)))

pub length-sub : {n e e' d : ℕ} (f g : ℕ → ℕ → ℤ) → 0 < e → 0 < e' → Length n e d (squares f) → Length n e' d (squares g) → Length n (e + e') d (squares (minus f g))
length-sub {n} {e} {e'} {d} f g p p' h h' =
    let (E, E', D, S, F, G) = vars6 in
    record {
      length =
          by-le-times (pos e ∷ pos e' ∷ pos d ∷ tile_sum n (squares (minus f g)) ∷ tile_sum n (squares f) ∷ tile_sum n (squares g) ∷ []) (E ⊠ E') (D ⊠ D ⊠ S) ((E ⊞ E') ⊠ (E ⊞ E'))
          (sqr D ⊗ le (E ⊠ E' ⊠ S) ((E ⊞ E') ⊠ E' ⊠ F ⊞ (E ⊞ E') ⊠ E ⊠ G) (places n e e' f g)
          ⊕ (nn E (0≤pos e) ⊕ nn E' (0≤pos e')) ⊗ (nn E' (0≤pos e') ⊗ le (D ⊠ D ⊠ F) (E ⊠ E) h.length ⊕ nn E (0≤pos e) ⊗ le (D ⊠ D ⊠ G) (E' ⊠ E') h'.length))
          (pos-above (mul-pos p p')) tt;
    }

-- the same tile
pub length-cong : {n e d : ℕ} (q r : ℕ → ℕ → ℤ) → ((y x : ℕ) → y < n → x < n → q y x ≡ r y x) → Length n e d q → Length n e d r
length-cong {n} {e} {d} q r c h = record { length = subst (λ t. (pos (d * d) *ℤ t) ≤ℤ pos (e * e)) (tile-cong n q r c) h.length }

-- f less the sum of k tiles
pub length-sums : {n e b d : ℕ} (k : ℕ) (f : ℕ → ℕ → ℤ) (g : ℕ → ℕ → ℕ → ℤ) → 0 < e → 0 < b → Length n e d (squares f) → ((z : ℕ) → z < k → Length n b d (squares (g z))) → Length n (e + k * b) d (squares (λ y x. f y x -ℤ sum_z k (λ z. g z y x)))
unfolding sum_z
length-sums {n} {e} {b} {d} zero f g p p' h h' =
    subst (λ m. Length n m d (squares (λ y x. f y x -ℤ pos 0))) (omega arith) (length-cong (squares f) (squares (λ y x. f y x -ℤ pos 0)) (λ y x k l. ring (f y x ∷ []) (var 0 ⊠ var 0) ((var 0 ⊟ # 0) ⊠ (var 0 ⊟ # 0)) tt) h)
length-sums {n} {e} {b} {d} (suc k) f g p p' h h' =
    let f' : ℕ → ℕ → ℤ = λ y x. f y x -ℤ sum_z k (λ z. g z y x) in
    let r : ℕ → ℕ → ℤ = λ y x. f y x -ℤ (sum_z k (λ z. g z y x) +ℤ g k y x) in
    subst (λ m. Length n m d (squares r)) (omega arith)
    (length-cong (squares (λ y x. f' y x -ℤ g k y x)) (squares r)
    (λ y x i j. let (A, B, C) = vars3 in let z = A ⊟ B ⊟ C in let z' = A ⊟ (B ⊞ C) in ring (f y x ∷ sum_z k (λ z. g z y x) ∷ g k y x ∷ []) (z ⊠ z) (z' ⊠ z') tt)
    (length-sub f' (g k) (omega arith) p' (length-sums k f g p p' h (λ z l. h' z (omega arith))) (h' k (le_refl (suc k)))))

-- no number is larger than the length
pub length_at : {n e d : ℕ} (f : ℕ → ℕ → ℤ) → Length n e d (squares f) → (y x : ℕ) → y < n → x < n → nat_abs (pos d *ℤ f y x) ≤ e
unfolding tile_sum
length_at {n} {e} {d} f h y x k l =
    let (D, F, E, L, S) = vars5 in
    abs-of-sq (pos d *ℤ f y x) e
    (by_le (pos d ∷ f y x ∷ pos e ∷ sum_z n (λ x. sq (f y x)) ∷ sum_z n (λ y. sum_z n (λ x. sq (f y x))) ∷ []) (D ⊠ F ⊠ (D ⊠ F)) (E ⊠ E)
    (sqr D ⊗ le (F ⊠ F) L (sum_z-at n (λ x. sq (f y x)) (λ x j. 0≤sq (f y x)) x l) ⊕ sqr D ⊗ le L S (sum_z-at n (λ y. sum_z n (λ x. sq (f y x))) (λ y i. sum_z-nonneg n (λ x. sq (f y x)) (λ x j. 0≤sq (f y x))) y k) ⊕ le (D ⊠ D ⊠ S) (E ⊠ E) h.length) tt)
