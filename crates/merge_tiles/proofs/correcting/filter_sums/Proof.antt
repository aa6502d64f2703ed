-- V' of both planes, and the filter.
use Rattle.std.specs.Prelude.{◌≡◌, ◌/◌, ◌%◌, ◌≤◌, ◌<◌, ◌+ℤ◌, ◌*ℤ◌}
use Rattle.merge_tiles.specs.Prelude.{ap, subst, sym, ◌∙◌, List, [], ℕ, arith, pos, tab, side16, frequency, spatial_number, Merge, SpatialRange, spatial_most, plane_in, either, copy_in, NoiseLine, NoisesMost}
use Prim.Native.Nat.{zero-le}
use Rattle.sequences.specs.TabLaws.{tab-every}
use Rattle.sequences.specs.Grid.{grid, cell, cell-grid, grid-ext}
use Rattle.noise.specs.SpatialLaws.{frequency-most, spatial-number-most, number-folded}
use Rattle.tile_spatial.specs.FilteringLaws.{step-noise}
use Rattle.merge_tiles.specs.Accepted.{Tuned}
use Rattle.merge_tiles.specs.NoiseLaws.{both}
use Rattle.merge_tiles.proofs.correcting.filter_sums as of

range : {m : Merge} {root : ℕ} → Tuned m → root ≤ 65520 → SpatialRange m.tuning.spatial m.shot m.read root m.shape.count
range t h = record { strength = t.spatial-most; shot = t.shot_most; read = t.read_most; root = h; some = t.some; few = t.few }

numbers-most : (f : ℕ → ℕ → ℕ) → ((u v : ℕ) → f u v ≤ spatial_most) → {t : List (List ℕ)} → t ≡ grid 9 9 f → NoisesMost spatial_most t
unfolding grid
numbers-most f h e =
    subst (NoisesMost spatial_most) (sym e)
    (record { line = tab-every (NoiseLine spatial_most) [] (λ u. tab 9 (f u)) (record { at = λ v. zero-le }) (λ u. record { at = tab-every (λ n. n ≤ spatial_most) 0 (f u) zero-le (h u) 9 }) 9 })

spatial-numbers-requires : of.Tie.Need-spatial_numbers-a-requires
spatial-numbers-requires c κs = range c.requires.tuned c.requires.first_most

spatial-numbers-requires-2 : of.Tie.Need-spatial_numbers-b-requires
spatial-numbers-requires-2 c κs = range c.requires.tuned c.requires.second_most

filter-pair-requires : of.Tie.Need-filter_pair-requires
filter-pair-requires c κs =
    let b = c in
    let a = b in
    let p = a.requires in
    record {
      frames_fit = record { some = p.tuned.some; few = p.tuned.few };
      first_most = numbers-most _ (spatial-number-most (range p.tuned p.first_most)) a.spatial_numbers-a.ensures;
      second_most = numbers-most _ (spatial-number-most (range p.tuned p.second_most)) b.spatial_numbers-b.ensures;
      samples = p.samples;
      sums = p.sums;
      paired = p.paired;
    }

-- V' of the tile of either plane
either_number : (f : ℕ → ℕ → ℕ → ℕ) (first second : ℕ) {a b : List (List ℕ)} → a ≡ grid 9 9 (f first) → b ≡ grid 9 9 (f second) → (p : ℕ) → p < 2 → (u v : ℕ) → u < 9 → v < 9 → cell 0 (either a b p) u v ≡ f (either first second p) u v
either_number f first second {a} {b} d e =
    both (λ p. (u v : ℕ) → u < 9 → v < 9 → cell 0 (either a b p) u v ≡ f (either first second p) u v)
    (λ u v h k. ap (λ t. cell 0 t u v) d ∙ cell-grid 0 9 9 (f first) u v h k)
    (λ u v h k. ap (λ t. cell 0 t u v) e ∙ cell-grid 0 9 9 (f second) u v h k)

returns : of.Tie.Need-returns
returns c =
    let b = c in
    let a = b in
    let s = a in
    let g = s.args in
    let m = g.m in
    let n = m.shape.count in
    let f : ℕ → ℕ → ℕ → ℕ = λ r. spatial_number side16 m.tuning.spatial m.shot m.read r n in
    c.filter_pair.ensures
    ∙ grid-ext 16 32 _ _
    (λ y l h k. ap (λ z. cell (pos 0) g.sum.now y l +ℤ pos n *ℤ z)
    (step-noise _ (f (either g.first g.second (l % 2)))
    (λ u v i j. either_number f g.first g.second a.spatial_numbers-a.ensures b.spatial_numbers-b.ensures (l % 2) (omega arith) (frequency u) (frequency v) (frequency-most u) (frequency-most v)
    ∙ number-folded m.tuning.spatial m.shot m.read (either g.first g.second (l % 2)) n u v)
    (copy_in n (plane_in (cell 0 g.t0.now) (l % 2)) (plane_in (cell (pos 0) g.sum.now) (l % 2))) y (l / 2)))

pub filter_sums_spec : {M : Type 1} → of.Statement.statement M
filter_sums_spec = of.Tie.close (of.Tie.spec spatial-numbers-requires spatial-numbers-requires-2 filter-pair-requires returns)
