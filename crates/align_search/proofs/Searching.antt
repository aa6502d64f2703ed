-- What one turn of the search has found, and what is found in a copy of the tile.
use Rattle.std.specs.Prelude.{◌≡◌, ◌+◌, ◌*◌, ◌≤◌, ◌<◌, take}
use Rattle.align_search.specs.Prelude.{ap₂, subst, ◌∙◌, Bool, true, List, ℕ, arith, length, get_or, lit<, sum_n, residual_most, square_row, InWindow, Left}
use Rattle.std.proofs.Common.{⊎_elim}
use Rattle.sequences.specs.LeastLaws.{Lowest}
use Rattle.std.specs.declared.option.Option.TheVariants.{None, Some}
use Rattle.align_search.specs.declared.trials.Tried.{Tried}
use Rattle.align_search.specs.declared.window.Best.{Best}
use Rattle.align_search.specs.Table.{downs, rights}
use Rattle.align_search.specs.OffsetLaws.{parts-most}
use Rattle.align_search.specs.Rows.{offset_rows}
use Rattle.align_search.specs.RowLaws.{offset-rows-most, next-rows}
use Rattle.align_search.specs.Local.{window_row, Window, Kind, Searched}
use Rattle.align_search.specs.LocalLaws.{searched-same}
use Rattle.align_search.specs.WindowLaws.{own_row, taken, kind-most, kind_few}

module _ {squared : Bool} {tile window : List ℕ} {side : ℕ} (w : Window tile window side) (kind : Kind squared side) {k y x : ℕ} (h : k < 81) (ey : y ≡ get_or downs k 0) (ex : x ≡ get_or rights k 0) where
  pub offset-inside : InWindow tile window side y x
  offset-inside =
      let m = parts-most k h in
      record {
        compared = record { tile_low = w.tile_low; window_low = w.window_low };
        vertical = omega (arith, ey, m.0);
        sideways = omega (arith, ex, m.1);
      }

  module _ {low : ℕ} {r : Tried} (l : Left low (square_row squared tile window (y * (side + 8) + x) (side + 8) side) side r) where
    pub offset-left : Left low (window_row squared tile window side k) side r
    unfolding window_row
    offset-left =
        subst (λ p. Left low (square_row squared tile window p (side + 8) side) side r)
        (ap₂ (λ y x. y * (side + 8) + x) ey ex) l

    pub offset-found : {total : ℕ} → r.least ≡ Some total → (total < low) × (total ≡ sum_n side (window_row squared tile window side k))
    offset-found e = rw e at offset-left.found

    pub offset_not-found : r.least ≡ None → low ≤ sum_n side (window_row squared tile window side k)
    offset_not-found e = rw e at offset-left.found

    module _ {at : ℕ} (found : Lowest (λ k. sum_n side (window_row squared tile window side k)) residual_most 18446744073709551615 81 k at low) where
      pub offset_rows-are : r.rows ≡ offset_rows (window_row squared tile window side) side k
      offset_rows-are =
          offset-left.rows_are
          ∙ next-rows (window_row squared tile window side) side found (lit< tt) (kind-most squared w kind k h)

      pub offset_rows-few : r.rows ≤ 32
      offset_rows-few = omega (arith, offset_rows-are, kind_few kind, offset-rows-most (window_row squared tile window side) side k)

-- the kinds by their sides
pub kind_eight : {squared : Bool} {side : ℕ} → Kind squared side → side ≡ 8 → squared ≡ true
kind_eight kind e =
    ⊎_elim (λ n. ⊎_elim (λ p. p.1) (λ p. absurd (omega (arith, p, e))) n.is) (λ p. absurd (omega (arith, p.0, e))) kind.is

pub kind_sixteen : {squared : Bool} {side : ℕ} → Kind squared side → (side ≡ 32 → ⊥) → (side ≡ 8 → ⊥) → side ≡ 16
kind_sixteen kind f g = ⊎_elim (λ n. ⊎_elim (λ p. absurd (g p.0)) (λ p. p) n.is) (λ p. absurd (f p.0)) kind.is

pub own-searched : (tile own : List ℕ) → own ≡ take 256 tile → 256 ≤ length tile → {side : ℕ} → side ≤ 16 → (squared : Bool) (window : List ℕ) {r : Best} → Searched (window_row squared own window side) side r → Searched (window_row squared tile window side) side r
own-searched tile own is room {side} small squared window s =
    searched-same (λ k i h m. own_row tile own (is ∙ taken tile room) side small squared window k i m) s
