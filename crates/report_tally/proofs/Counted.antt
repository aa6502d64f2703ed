-- The greatest of one more, and what the chain of pairs counts.
use Rattle.std.specs.Prelude.{◌≡◌, ◌+◌, ◌*◌, ◌&&◌, max, pos}
use Rattle.algebra.specs.Prelude.{Bool, cond, eqb, refl, List, ℕ, zero, suc, ℤ, nat_abs, get_or, take, drop, arith, lit≤}
use Rattle.algebra.specs.Sums.{sum_n}
use Rattle.algebra.specs.SumLaws.{sum_n-cong, sum_n-moved}
use Rattle.std.proofs.lemmas.List.{get_or-drop, get_or-take}
use Rattle.std.specs.List.{count_by}
use Rattle.std.proofs.Common.{add-one}
use Rattle.std.proofs.lemmas.List.Sums.{sum_by-cons}
use Rattle.std.specs.Simd.{first_chunks}
use Rattle.report_tally.specs.Tallies.{greatest, still_tile}

pub greatest-next : (n : ℕ) (f : ℕ → ℕ) → greatest (n + 1) f ≡ max (greatest n f) (f n)
unfolding greatest
greatest-next n f = rw add-one

-- whether a tile stays where it is
abbrev pub stays : (tile : List ℤ) → Bool
stays tile = eqb (nat_abs (get_or tile 0 (pos 0))) 0 && eqb (nat_abs (get_or tile 1 (pos 0))) 0

next : (parts : List ℤ) (k : ℕ) → still_tile (drop 2 parts) k ≡ still_tile parts (suc k)
unfolding still_tile
next parts k =
    let down : 2 + 2 * k ≡ 2 * suc k = omega arith in
    let right : 2 + (2 * k + 1) ≡ 2 * suc k + 1 = omega arith in
    rw (get_or-drop 2 parts (2 * k) (pos 0), get_or-drop 2 parts (2 * k + 1) (pos 0), down, right)

first : (parts : List ℤ) → cond (stays (take 2 parts)) 1 0 ≡ still_tile parts 0
unfolding still_tile
first parts = rw (get_or-take 2 parts 0 (pos 0) (lit≤ tt), get_or-take 2 parts 1 (pos 0) (lit≤ tt))

pub counted : (n : ℕ) (parts : List ℤ) → count_by stays (first_chunks 2 n parts) ≡ sum_n n (still_tile parts)
unfolding sum_n still_tile
counted zero parts = refl
counted (suc n) parts =
    let h = counted n (drop 2 parts) in
    let s = sum_n-moved n (still_tile parts) in
    let e = sum_n-cong n (still_tile (drop 2 parts)) (λ k. still_tile parts (suc k)) (λ k _. next parts k) in
    let f = first parts in
    rw (sum_by-cons) (omega arith)
