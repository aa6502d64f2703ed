-- A copy of a tile has its rows, and how large the totals in a window are.
use Rattle.std.specs.Prelude.{◌≡◌, ◌+◌, ◌*◌, ◌≤◌, ◌<◌, take}
use Rattle.align_search.specs.Prelude.{ap, tab, subst, ◌∙◌, Bool, true, false, List, ℕ, arith, length, get_or, sum_n, gap, difference, row_sum, square_row}
use Rattle.std.proofs.Common.{sym, ext_get_or, length-take-le, ⊎_elim}
use Rattle.std.proofs.Math.Seq.{get_or-take}
use Rattle.std.proofs.Math.Nat.{mul-le-mul}
use Rattle.algebra.specs.SumLaws.{sum_n-cong, sum_n-bound}
use Rattle.sequences.specs.Place.{row_room}
use Rattle.sequences.specs.TabLaws.{length-tab, get_d-tab}
use Rattle.align_search.specs.Table.{downs, rights}
use Rattle.align_search.specs.OffsetLaws.{parts-most}
use Rattle.align_search.specs.Local.{window_row, Window, Kind}

-- what copies of a tile's samples hold
module _ (tile own : List ℕ) (is : own ≡ tab 256 (λ k. get_or tile k 0)) where
  own_at : (k : ℕ) → k < 256 → get_or own k 0 ≡ get_or tile k 0
  own_at k h = ap (λ l. get_or l k 0) is ∙ get_d-tab (λ k. get_or tile k 0) 0 256 k h

  module _ (side : ℕ) (small : side ≤ 16) where
    pub own-window : {window : List ℕ} → Window tile window side → Window own window side
    own-window w =
        let l = mul-le-mul small small in
        record {
          tile_low =
              record {
                room = omega (arith, ap length is, length-tab (λ k. get_or tile k 0) 256);
                most = λ k h. omega (arith, own_at k (omega arith), w.tile_low.most k h);
              };
          window_low = w.window_low;
        }

    pub own_row : (squared : Bool) (window : List ℕ) (k i : ℕ) → i < side → window_row squared own window side k i ≡ window_row squared tile window side k i
    unfolding window_row square_row row_sum
    own_row squared window k i h =
        sum_n-cong side _ _
        (λ j l. rw (own_at (i * side + j) (omega (arith, row_room i side side h, mul-le-mul small small))))

-- a tile's first samples, as a table
pub taken : (tile : List ℕ) → 256 ≤ length tile → take 256 tile ≡ tab 256 (λ k. get_or tile k 0)
taken tile room =
    let f : ℕ → ℕ = λ k. get_or tile k 0 in
    let long = length-take-le 256 tile room in
    ext_get_or 0 (take 256 tile) (tab 256 f) (long ∙ sym (length-tab f 256))
    (λ i l. let h : i < 256 = omega (arith, l, long) in get_or-take 256 tile i 0 h ∙ sym (get_d-tab f 0 256 i h))

-- how large the totals are
difference-most : (squared : Bool) (a b : ℕ) → a ≤ 16380 → b ≤ 16380 → difference squared a b ≤ 268304400
unfolding difference
difference-most true a b h k = let l : gap a b ≤ 16380 = omega arith in omega (arith, mul-le-mul l l)
difference-most false a b h k = omega arith

window-bound : {tile window : List ℕ} {side : ℕ} → Window tile window side → (squared : Bool) (b : ℕ) → ((x y : ℕ) → x ≤ 16380 → y ≤ 16380 → difference squared x y ≤ b) → (k : ℕ) → k < 81 → sum_n side (window_row squared tile window side k) ≤ side * (side * b)
unfolding window_row square_row row_sum
window-bound {tile} {window} {side} w squared b each k h = sum_n-bound side (side * b) _ row
  where
    row : (i : ℕ) → i < side → row_sum squared tile window (i * side) (get_or downs k 0 * (side + 8) + get_or rights k 0 + i * (side + 8)) side ≤ side * b
    row i l =
        let (y, x) = parts-most k h in
        sum_n-bound side b _
        (λ j m. each (get_or tile (i * side + j) 0) (get_or window (get_or downs k 0 * (side + 8) + get_or rights k 0 + i * (side + 8) + j) 0)
        (w.tile_low.most (i * side + j) (omega (arith, row_room i side side l)))
        (w.window_low.most (get_or downs k 0 * (side + 8) + get_or rights k 0 + i * (side + 8) + j) (omega (arith, row_room (get_or downs k 0 + i) (side + 8) (side + 8) (omega arith)))))

pub window-most : {tile window : List ℕ} {side : ℕ} → Window tile window side → side ≤ 16 → (squared : Bool) (k : ℕ) → k < 81 → sum_n side (window_row squared tile window side k) ≤ 68685926400
window-most {side = side} w small squared k h =
    omega (arith, mul-le-mul small small, window-bound w squared 268304400 (difference-most squared) k h)

pub wide-most : {tile window : List ℕ} → Window tile window 32 → (k : ℕ) → k < 81 → sum_n 32 (window_row false tile window 32 k) ≤ 68685926400
unfolding difference
wide-most w k h = omega (arith, window-bound w false 16380 (λ x y l m. omega arith) k h)

-- of any tile that is searched
pub kind-most : {tile window : List ℕ} {side : ℕ} (squared : Bool) → Window tile window side → Kind squared side → (k : ℕ) → k < 81 → sum_n side (window_row squared tile window side k) ≤ 68685926400
kind-most {tile} {window} {side} squared w kind k h =
    ⊎_elim (λ n. window-most w (⊎_elim (λ p. omega (arith, p.0)) (λ p. omega (arith, p)) n.is) squared k h)
    (λ p. rw (p.0, p.1) (wide-most (subst (Window tile window) p.0 w) k h)) kind.is

pub kind_few : {squared : Bool} {side : ℕ} → Kind squared side → side ≤ 32
kind_few kind = ⊎_elim (λ n. ⊎_elim (λ p. omega (arith, p.0)) (λ p. omega (arith, p)) n.is) (λ p. omega (arith, p.0)) kind.is
