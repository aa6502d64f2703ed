-- Half of the sums back of two rows side by side, n numbers in all: z holds number k of row p at place 2·k + p. Over the side s, and over the greatest half c
-- where a number is at most m.
use Rattle.tile_spectrum.specs.Prelude.{sym, ap, subst, ◌∙◌, List, ℕ, arith, lit<, get_or, ℤ, nat_abs, away, tab, Side, half_sum_of}
use Rattle.std.proofs.Common.{le_trans}
use Rattle.std.specs.Prelude.{Float, ◌≡◌, ◌+◌, ◌*◌, ◌/◌, ◌%◌, ◌^◌, ◌≤◌, ◌<◌}
use Rattle.std.specs.Float.{binary64}
use Rattle.std.specs.Float.Ieee.{of_int}
use Rattle.sequences.specs.Grid.{tab-ext}
use Rattle.sequences.specs.TabLaws.{get_d-tab}
use Rattle.tile_spectrum.specs.RoundingLaws.{away-within}
use Rattle.tile_spectrum.specs.Lines.Lines.{LineMost}
use Rattle.tile_spectrum.specs.Lines.Tiles.{line-most}
use Rattle.tile_spectrum.specs.Lines.Doubles.{double_line, HalvesOf, WholeLine}

-- the half at place l
abbrev pub half_at : Side → (z : ℕ → ℤ) (l : ℕ) → ℤ
half_at s z l = half_sum_of s (λ k. z (2 * k + l % 2)) (l / 2)

-- a line by its lanes
pub by-lanes : (n : ℕ) (z : ℕ → ℤ) → double_line n z ≡ double_line n (λ l. z (2 * (l / 2) + l % 2))
by-lanes n z = tab-ext n _ _ (λ l h. ap (λ i. of_int binary64 (z i)) (lane l))
  where
    lane : (l : ℕ) → l ≡ 2 * (l / 2) + l % 2
    lane l = omega arith

module _ (s : Side) {n m c : ℕ} (bound : (z : ℕ → ℤ) → ((k : ℕ) → nat_abs (z k) ≤ m) → (x : ℕ) → nat_abs (half_sum_of s z x) ≤ c) {h : List Float} (w : WholeLine n m h) where
  -- a half is at most c
  pub half-most : (l : ℕ) → nat_abs (half_at s w.number l) ≤ c
  half-most l = bound (λ k. w.number (2 * k + l % 2)) (λ k. w.most (2 * k + l % 2)) (l / 2)

  -- in double
  abbrev pub halves_row : {k : ℕ} {x : List Float} → HalvesOf s k n h x → m ≤ k → WholeLine n c x
  halves_row f l = record {
    number = half_at s w.number;
    most = half-most;
    is = f (λ p k. w.number (2 * k + p)) (λ p k. le_trans (w.most (2 * k + p)) l) (w.is ∙ by-lanes n w.number);
  }

  -- and in 64 bits
  pub halves_most : {x : List ℤ} → x ≡ tab n (half_at s w.number) → LineMost c x
  halves_most e = subst (LineMost c) (sym e) (line-most c _ half-most n)

  module _ {x : List ℤ} (e : x ≡ tab n (half_at s w.number)) (l : ℕ) (a : ℤ) (i : l < n) where
    pub half-is : get_or x l a ≡ half_at s w.number l
    half-is = ap (λ x. get_or x l a) e ∙ get_d-tab (half_at s w.number) a n l i

    pub half-below : nat_abs (get_or x l a) ≤ c
    half-below = subst (λ z. nat_abs z ≤ c) (sym half-is) (half-most l)

    -- and P of it
    pub half-rounded : c ≤ 2 ^ 24 * 2 ^ 31 → nat_abs (away (get_or x l a) (2 ^ 31)) ≤ 2 ^ 24
    half-rounded k = away-within (get_or x l a) (2 ^ 31) (2 ^ 24) (lit< tt) (le_trans half-below k)
