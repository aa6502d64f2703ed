-- Each turn writes a tile's residual: `Writing` is the loop's invariant.
use Rattle.std.specs.Prelude.{◌≡◌, ◌+◌, ◌-◌, ◌*◌, ◌/◌, ◌%◌}
use Rattle.align_measure.specs.Prelude.{sym, ap₂, subst, ◌∙◌, false, List, ℕ, arith, rules, ℤ, TileSide, finest_level, Pair, residual, level_tile, pair_in}
use Rattle.sequences.specs.Write.{Writing, write-start, write-turn, write_done}
use Rattle.geometry.specs.declared.vectors.Vector.{Vector}
use Rattle.align_residual.specs.declared.Tile.{Tile}
use Rattle.align_field.specs.LoopLaws.{tiles-few, place-few}
use Rattle.align_measure.specs.Frames.{vector_in, residual_in}
use Rattle.align_measure.proofs.frame_residuals as of

abbrev invariant-loop-k : of.Tie.invariant-loop-k
invariant-loop-k work area side vectors residuals₀ to rows columns k₀ k-end residuals k = Writing residuals₀ to (residual_in side (pair_in work area) columns vectors to) (rows * columns) k residuals

abbrev decreases-loop-k : of.Tie.decreases-loop-k
decreases-loop-k work area side vectors residuals₀ to rows columns k₀ k-end residuals k = rows * columns - k

level-sided : {side : ℕ} (row column : ℕ) {t : Tile} → TileSide side → t ≡ level_tile (finest_level side) row column → TileSide t.side
unfolding level_tile
level-sided row column sided e = subst (λ t. TileSide t.side) (sym e) sided

word-is : (side : ℕ) (p : Pair) (columns : ℕ) (vectors : List ℤ) (to k : ℕ) {r : ℕ} {t : Tile} {v : Vector} → r ≡ residual false p t v → t ≡ level_tile (finest_level side) (k / columns) (k % columns) → v ≡ vector_in vectors (2 * (to + k)) → r ≡ residual_in side p columns vectors to k
unfolding residual_in
word-is side p columns vectors to k e t v = e ∙ ap₂ (residual false p) t v

tile-at-requires : of.Tie.Need-tile_at-tile-requires invariant-loop-k decreases-loop-k
tile-at-requires c κs =
    let s = c.before.before.before in
    let at = place-few s.requires.few c.loop-k.k c.loop-k-test.true in
    record { sided = s.requires.sided; level_most = omega arith; row-most = at.0; column-most = at.1 }

vector-at-requires : of.Tie.Need-vector_at-v-requires invariant-loop-k decreases-loop-k
vector-at-requires c κs =
    let s = c.before.before.before.before in
    (omega (arith, s.requires.lent.vectors_room), s.requires.lent.vectors_fit)

residual-at-requires : of.Tie.Need-residual_at-requires invariant-loop-k decreases-loop-k
residual-at-requires c κs =
    let t = c.before in
    let s = t.before.before.before.before in
    record { stored = s.requires.stored; placed = t.tile_at-tile.ensures.1; sided = level-sided _ _ s.requires.sided t.tile_at-tile.ensures.0; near = c.vector_at-v.ensures.1 }

loop-again : of.Tie.Need-loop-k-preserved invariant-loop-k decreases-loop-k
loop-again c =
    let t = c.before.before in
    let i = t.before in
    write-turn i.loop-k.invariant i.loop-k-test.true (word-is _ _ _ _ _ _ c.residual_at.ensures t.tile_at-tile.ensures.0 c.vector_at-v.ensures.0)

pub frame_residuals_spec : {M : Type 1} → of.Statement.statement M
frame_residuals_spec = of.Tie.close (of.Tie.spec
    invariant-loop-k decreases-loop-k (λ c. omega (arith, tiles-few c.requires.few)) (λ c. write-start c.requires.lent.room) (λ c. search rules) (λ c. search rules)
    tile-at-requires (λ c. search rules) (λ c. search rules) vector-at-requires residual-at-requires
    (λ c. search rules) (λ c. search rules) (λ c. search rules) (λ c. search rules) (λ c. search rules)
    loop-again (λ c. search rules) (λ c. write_done c.loop-k.invariant (omega arith)))
