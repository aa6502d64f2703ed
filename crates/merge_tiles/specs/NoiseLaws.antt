-- Inside the crates of the merge: the noise numbers of a pair of tiles, which may both be 0.
use Rattle.std.specs.Prelude.{◌≡◌, ◌+◌, ◌<◌}
use Rattle.merge_tiles.specs.Prelude.{sym, ◌∙◌, List, ℕ, arith, lit<, Scene, tile_noise}
use Rattle.std.proofs.Common.{below_none, below_more}
use Rattle.merge_tiles.specs.declared.Site.{Site}
use Rattle.merge_tiles.specs.Sum.{at_site, TileOf}

-- what holds of either column parity
pub both : (P : ℕ → Type 0) → P 0 → P 1 → (p : ℕ) → p < 2 → P p
both P a b = below_more P 1 (below_more P 0 (below_none P) a) b

-- where they add up to 0, neither tile has noise
pub no-noise-of : {side top : ℕ} {s : Scene} {t : Site} {t0 : List (List ℕ)} {first second : ℕ} → TileOf side top s t t0 first second → first + second ≡ 0 → (p : ℕ) → p < 2 → at_site (tile_noise s) t p ≡ 0
no-noise-of {s = s} {t} {first = first} {second = second} k h =
    let f : first ≡ 0 = omega arith in
    let g : second ≡ 0 = omega arith in
    both (λ p. at_site (tile_noise s) t p ≡ 0) (sym (k.number 0 (lit< tt)) ∙ f) (sym (k.number 1 (lit< tt)) ∙ g)
