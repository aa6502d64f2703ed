-- Lines of whole numbers folded in halves: the fold as the code computes it, and the places of a folded line.
use Rattle.algebra.specs.Prelude.{ap, ap₂, ◌∙◌, cond, List, ℕ, arith, set, ℤ, pos, to_z-of_z}
use Rattle.std.proofs.Math.Nat.{le_trans}
use Rattle.std.proofs.Common.{add-le-add, eq-eqb, ne_eqb, ltb→lt, lt→ltb}
use Rattle.std.specs.Prelude.{T, eqb, ltb, ◌≡◌, ◌+◌, ◌*◌, ◌/◌, ◌%◌, ◌^◌, ◌≤◌, ◌<◌, ◌+ℤ◌, ◌-ℤ◌}
use Rattle.tile_spectrum.specs.Lines.Prelude.{Width, SFits, to_z, of_z, hbits, tab, Side}
use Rattle.algebra.specs.Order.{abs-add, abs-sub}
use Rattle.algebra.specs.Bound.{AtMost, add-fits, sub-fits}
use Rattle.sequences.specs.TabLaws.{Filled, fill-turn, get_d-tab}
use Rattle.sequences.specs.Grid.{tab-ext}
use Rattle.tile_spectrum.specs.Lines.Fold.{sum_of, difference_of, folded_of}
use Rattle.tile_spectrum.specs.Lines.SideFolds.{folds-ext}
use Rattle.tile_spectrum.specs.Lines.Lines.{LineMost}
use Rattle.tile_spectrum.specs.Lines.Tiles.{line-most}
use Rattle.tile_spectrum.specs.Lines.Held.{of, held-is, held-most}
use Rattle.tile_spectrum.specs.Lines.Picked.{held, picked, held-tab}

half-fits : (w : Width) (b : ℕ) → T (ltb (b + b) (2 ^ hbits w)) → T (ltb b (2 ^ hbits w))
half-fits w b t = lt→ltb b (2 ^ hbits w) (omega (arith, ltb→lt (b + b) (2 ^ hbits w) t))

-- a larger bound
pub line-wider : {b c : ℕ} {x : List ℤ} → b ≤ c → LineMost b x → LineMost c x
line-wider h m = record { at = λ i. le_trans (m.at i) h }

-- the sum and the difference of two numbers half a line apart, as the code computes them at a width
module _ (s : Side) (w : Width) {b : ℕ} {x : List ℤ} (m : LineMost b x) (t : T (ltb (b + b) (2 ^ hbits w))) (i : ℕ) where
  abbrev near : ℤ
  near = to_z w (of_z w (of x i))

  abbrev far : ℤ
  far = to_z w (of_z w (of x (i + s.half)))

  near-is : near ≡ of x i
  near-is = held-is w m i (half-fits w b t)

  far-is : far ≡ of x (i + s.half)
  far-is = held-is w m (i + s.half) (half-fits w b t)

  near-most : AtMost b near
  near-most = held-most w m i (half-fits w b t)

  far-most : AtMost b far
  far-most = held-most w m (i + s.half) (half-fits w b t)

  pub sum_fits : SFits w (near +ℤ far)
  sum_fits = add-fits w near far b b near-most far-most t

  pub sum_is : to_z w (of_z w (near +ℤ far)) ≡ sum_of s (of x) i
  unfolding sum_of
  sum_is = to_z-of_z sum_fits ∙ ap₂ ◌+ℤ◌ near-is far-is

  pub difference-fits : SFits w (near -ℤ far)
  difference-fits = sub-fits w near far b b near-most far-most t

  pub difference-is : to_z w (of_z w (near -ℤ far)) ≡ difference_of s (of x) i
  unfolding difference_of
  difference-is = to_z-of_z difference-fits ∙ ap₂ ◌-ℤ◌ near-is far-is

-- their bounds
module _ (s : Side) (n : ℕ) {b : ℕ} {x : List ℤ} (m : LineMost b x) {z : List ℤ} where
  pub sums_most : z ≡ tab n (sum_of s (of x)) → LineMost (b + b) z
  unfolding sum_of
  sums_most e =
      rw e (line-most (b + b) (sum_of s (of x)) (λ n. le_trans (abs-add (of x n) (of x (n + s.half))) (add-le-add (m.at n) (m.at (n + s.half)))) n)

  pub differences-most : z ≡ tab n (difference_of s (of x)) → LineMost (b + b) z
  unfolding difference_of
  differences-most e =
      rw e (line-most (b + b) (difference_of s (of x)) (λ n. le_trans (abs-sub (of x n) (of x (n + s.half))) (add-le-add (m.at n) (m.at (n + s.half)))) n)

-- the places g i of a line, from its sums or differences f as the code holds them
pub places-held : (s : Side) (w : Width) {b : ℕ} (m : ℕ) {z : List ℤ} (ks : List ℕ) (f : ℕ → ℤ) → picked (tab s.half f) ks ≡ tab s.half f → LineMost b z → T (ltb b (2 ^ hbits w)) → z ≡ tab s.half f → (g : ℕ → ℕ) (v : ℕ → ℤ) → ((i : ℕ) → folded_of s f (g i) ≡ v i) → tab m (λ i. folded_of s (of (held w z ks)) (g i)) ≡ tab m v
places-held s w m {z} ks f p k t e g v h =
    tab-ext m _ _
    (λ i l. folds-ext s (of (held w z ks)) f (λ n j. ap (λ z. of z n) (held-tab w s.half f ks p k t e) ∙ get_d-tab f (pos 0) s.half n j) (g i) ∙ h i)

-- place k, from the even places e and the odd ones o
abbrev pub placed : (e o : List ℤ) → ℕ → ℤ
placed e o k = cond (eqb (k % 2) 0) (of e (k / 2)) (of o (k / 2))

module _ (e o : List ℤ) {k : ℕ} where
  even-at : (i : ℕ) → i % 2 ≡ 0 → i / 2 ≡ k → of e k ≡ placed e o i
  even-at i p q = rw (eq-eqb (i % 2) 0 p, q)

  odd-at : (i : ℕ) → i % 2 ≡ 1 → i / 2 ≡ k → of o k ≡ placed e o i
  odd-at i p q = rw (ne_eqb (i % 2) 0 (λ z. omega arith), q)

  -- a loop that stores them by twos
  pub placed-turn : (n : ℕ) {l r : List ℤ} {v w : ℤ} → Filled (placed e o) (2 * n) (2 * k) l r → k < n → v ≡ of e k → w ≡ of o k → Filled (placed e o) (2 * n) (2 * (k + 1)) l (set (set r (2 * k) v) (2 * k + 1) w)
  placed-turn n f h p q =
      let w1 = fill-turn f (omega arith) (p ∙ even-at (2 * k) (omega arith) (omega arith)) in
      let w2 = fill-turn w1 (omega arith) (q ∙ odd-at (2 * k + 1) (omega arith) (omega arith)) in
      let s2 : 2 * k + 1 + 1 ≡ 2 * (k + 1) = omega arith in
      rw s2 at w2

pub placed-is : {e o : List ℤ} (f : ℕ → ℤ) → e ≡ tab 8 (λ i. f (2 * i)) → o ≡ tab 8 (λ i. f (2 * i + 1)) → tab 16 (placed e o) ≡ tab 16 f
unfolding tab
placed-is f p q = ap₂ (λ e o. tab 16 (placed e o)) p q

pub placed-long : {e o : List ℤ} (f : ℕ → ℤ) → e ≡ tab 16 (λ i. f (2 * i)) → o ≡ tab 16 (λ i. f (2 * i + 1)) → tab 32 (placed e o) ≡ tab 32 f
unfolding tab
placed-long f p q = ap₂ (λ e o. tab 32 (placed e o)) p q
