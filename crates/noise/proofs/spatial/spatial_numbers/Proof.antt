-- The lines are stored one after the other; the table is that of m.
use Rattle.std.specs.Prelude.{◌≡◌, ◌*◌, ◌/◌, ◌-◌, ◌≤◌, ◌<◌}
use Rattle.noise.specs.Prelude.{refl, sym, ap, subst, ◌∙◌, [], ℕ, arith, rules, get_or, tab, side16, variance, distance, spatial_number}
use Prim.Native.Nat.{zero-le}
use native.Mathlib.Nat.{mul-le-mul}
use Rattle.sequences.specs.TabLaws.{Filled, fill_start, fill-turn, fill_done, get_d-tab, tab-each}
use Rattle.sequences.specs.Grid.{grid, tab-ext}
use Rattle.noise.specs.DistanceTable.{distances, distances-are}
use Rattle.noise.specs.SpatialLaws.{distance_most, scale-most, number_is}
use Rattle.noise.proofs.spatial.spatial_numbers as of

abbrev invariant-loop-u : of.Tie.invariant-loop-u
invariant-loop-u s ls lr r frames table scale divisor n₀ u₀ n u = Filled (λ u. tab 9 (spatial_number side16 s ls lr r frames u)) 9 u n₀ n

abbrev decreases-loop-u : of.Tie.decreases-loop-u
decreases-loop-u s ls lr r frames table scale divisor n₀ u₀ n u = 9 - u

-- row u of the table
row_is : (u : ℕ) → u < 9 → get_or distances u [] ≡ tab 9 (distance u)
unfolding grid
row_is u h = ap (λ t. get_or t u []) distances-are ∙ get_d-tab (λ u. tab 9 (distance u)) [] 9 u h

row-most : (u : ℕ) → u < 9 → (j : ℕ) → get_or (get_or distances u []) j 0 ≤ 181
row-most u h j = subst (λ l. get_or l j 0 ≤ 181) (sym (row_is u h)) (tab-each (λ n. n ≤ 181) 0 (distance u) zero-le 9 (λ v k. distance_most u v) j)

mul-scale-3 : of.Tie.Need-overflow_mul-scale-3 invariant-loop-u decreases-loop-u
unfolding variance side16
mul-scale-3 c = omega (arith, scale-most c.requires)

line-requires : of.Tie.Need-line-requires invariant-loop-u decreases-loop-u
unfolding distances variance side16
line-requires c κs =
    let l = c.before.before in
    let s = l.before in
    record { distances_most = row-most l.loop-u.u (omega arith); scale-most = scale-most s.requires; divisor_some = omega (arith, s.requires.some) }

loop-again : of.Tie.Need-loop-u-preserved invariant-loop-u decreases-loop-u
unfolding distances variance side16
loop-again c =
    let l = c.before.before.before in
    let s = l.before in
    let u = l.loop-u.u in
    let a = s.args in
    fill-turn l.loop-u.invariant (omega arith)
    (c.line.ensures
    ∙ tab-ext 9 _ _ (λ v h. ap (λ m. m * (a.s * variance side16 a.ls a.lr a.r) / (16384 * a.frames)) (ap (λ t. get_or t v 0) (row_is u (omega arith)) ∙ get_d-tab (distance u) 0 9 v h) ∙ number_is s.requires u v))

returns : of.Tie.Need-returns invariant-loop-u decreases-loop-u
unfolding grid
returns c = fill_done c.before.loop-u.invariant (omega arith)

pub spatial_numbers_spec : {M : Type 1} → of.Statement.statement M
spatial_numbers_spec = of.Tie.close (of.Tie.spec
    invariant-loop-u decreases-loop-u (λ c. omega (arith, mul-le-mul c.requires.shot c.requires.root)) (λ c. search rules) (λ c. omega (arith, mul-le-mul c.requires.shot c.requires.root))
    mul-scale-3 (λ c. search rules) (λ c. fill_start refl) (λ c. search rules) (λ c. search rules) line-requires
    (λ c. search rules) (λ c. search rules) (λ c. search rules) (λ c. search rules) loop-again returns)
