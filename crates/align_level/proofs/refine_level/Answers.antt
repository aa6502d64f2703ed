-- Level 3 starts from no motion, the others from the coarse vectors.
use Rattle.std.specs.Prelude.{◌≡◌, ◌+◌, ◌*◌, ◌≤◌}
use Rattle.align_level.specs.Prelude.{pair_in, answer, best_vector, guessed, search_rows, Kind, TileSide, level3, still, true, sym, ap, ap₂, subst, ◌∙◌, arith, lit≤}
use Rattle.align_search.specs.SearchLaws.{guess-within}
use Rattle.align_search.specs.VectorLaws.{within_more}
use Rattle.align_search.specs.RowLaws.{eight-rows-most}
use Rattle.align_level.specs.Fields.{level_at, level_tile}
use Rattle.align_level.specs.Steps.{step_to}
use Rattle.align_tile.specs.StoredLaws.{answer-within}
use Rattle.align_level.specs.Grids.{field_at, guess_from}
use Rattle.align_level.proofs.Answers.{coarsest-answer, finer-answer, finer-at, eight-side, finer-sided, level-kind, finer-few}
use Rattle.align_level.proofs.refine_level.Goals as goal

pub refine-requires : goal.refine-requires
refine-requires c =
    let s = c.args.step in
    let three : c.args.tile ≡ level_tile level3 c.args.row c.args.column = subst (λ l. c.args.tile ≡ level_tile (level_at s.side l) c.args.row c.args.column) c.if-step-eq3.true c.requires.at.tile_is in
    record {
      ready = c.requires.ready;
      kind = subst (λ t. Kind true t.side) (sym three) (level-kind s.side 3 c.args.row c.args.column c.requires.at.sided);
      room = c.requires.roomy.window_room;
      near = record { vertical = lit≤ tt; sideways = lit≤ tt };
      few_before = lit≤ tt;
    }

pub returns-then-step-eq3 : goal.returns-then-step-eq3
returns-then-step-eq3 c =
    let a = c.args in
    let m = c.refine in
    let p = pair_in a.words.now a.area in
    let three : a.tile ≡ level_tile level3 a.row a.column = subst (λ l. a.tile ≡ level_tile (level_at a.step.side l) a.row a.column) c.if-step-eq3.true c.requires.at.tile_is in
    let e = coarsest-answer level3 p a.row a.column a.tile m.result three m.ensures.0 in
    rw c.if-step-eq3.true
    (record {
      is = e;
      near = within_more 340 (answer-within true p a.tile still _ m.result m.ensures.0 0 (record { vertical = lit≤ tt; sideways = lit≤ tt })) (lit≤ tt);
      most = m.ensures.1;
      few = omega (arith, ap (λ r. r.rows) e, eight-rows-most true p (level_tile level3 a.row a.column) still (eight-side a.row a.column));
    })

pub refine_candidates-requires : goal.refine_candidates-requires
refine_candidates-requires c =
    let a = c.args in
    let t = c.requires.at in
    let finer : a.step.level ≤ 2 = omega (arith, t.led.level_most, c.if-step-eq3.false) in
    record {
      ready = c.requires.ready;
      sided = subst (λ t. TileSide t.side) (sym t.tile_is) (finer-sided a.step.side a.step.level a.row a.column t.sided finer);
      kind = rw (c.is_squared-squared.ensures, t.tile_is) (level-kind a.step.side a.step.level a.row a.column t.sided);
      window_room = c.requires.roomy.window_room;
      other_room = c.requires.roomy.other_room;
      own_near = c.candidates-around.ensures.own_near;
      sideways_near = c.candidates-around.ensures.sideways_near;
      vertically_near = c.candidates-around.ensures.vertically_near;
    }

pub returns : goal.returns
returns c =
    let a = c.args in
    let s = a.step in
    let g = s.coarse in
    let p = pair_in a.words.now a.area in
    let k = c.candidates-around in
    let m = c.refine_candidates in
    let l = level_at s.side s.level in
    let h : s.level ≤ 2 = omega (arith, c.requires.at.led.level_most, c.if-step-eq3.false) in
    let is =
    m.ensures.0
    ∙ ap₂ (λ q v. answer q p a.tile (best_vector q p a.tile v) (3 * a.tile.side + search_rows q p a.tile v)) c.is_squared-squared.ensures (k.ensures.guess p a.tile) in
    let e = finer-answer l p a.row a.column a.tile m.result c.requires.at.tile_is (step_to s.side s.level) g.rows g.columns (field_at a.words.now g.at g.columns) is in
    finer-at s.side s.level a.words.now a.area g a.row a.column m.result h
    (record {
      is = e;
      near = answer-within c.is_squared-squared.result p a.tile (guessed p a.tile k.result.own k.result.sideways k.result.vertically) _ m.result m.ensures.0 336 (guess-within p a.tile k.result.own k.result.sideways k.result.vertically 336 k.ensures.own_near k.ensures.sideways_near k.ensures.vertically_near);
      most = m.ensures.1;
      few = omega (arith, ap (λ r. r.rows) e, finer-few s.side s.level a.row a.column c.requires.at.sided h l.squared p (guess_from s.side s.level a.words.now a.area g (level_tile l a.row a.column) a.row a.column));
    })
