-- Each level's field is written behind the coarser one's, and is the definition's, and so are the rows summed for it.
use Rattle.align_pyramid.specs.Layout.{pyramid_length}
use Rattle.align_field.specs.LoopLaws.{tiles-few}
use Rattle.align_burst.specs.Fields.{field2, field3}
use Rattle.align_burst.specs.Rows.{coarse_rows}
use Rattle.align_field.specs.LevelSums.{coarsest_rows, finer_rows}
use Rattle.align_burst.specs.Sites.{grid_at, after, pairs_in, Reached}
use Rattle.align_burst.specs.LevelLaws.{site3, site2, sites-fit, reached3, reached2, reached1, counted3, counted2, counted1, standing-kept, grid-few}
use Rattle.std.specs.Prelude.{◌≡◌, ◌+◌, ◌*◌}
use Rattle.algebra.specs.Prelude.{sym, ap, ap₂, ◌∙◌, arith, rules}
use Rattle.align_burst.proofs.frame.coarse_levels as of

-- level 3
base-is : (c : of.Tie.After-offset-base) → 2 * c.offset-base.result ≡ 2 * pyramid_length c.before.args.shape
base-is c = ap (λ n. 2 * n) c.offset-base.ensures.0

third-is : (c : of.Tie.After-lay_level-third) → c.lay_level-third.result.grid ≡ site3 c.before.before.before.args.shape
third-is c = c.lay_level-third.ensures.grid_is ∙ ap (grid_at c.before.before.before.args.shape 3) (base-is c.before.before)

third : (c : of.Tie.After-lay_level-third) → let a = c.before.before.before.args in Reached a.work.now (2 * pyramid_length a.shape) c.lay_level-third.result.grid (field3 (pairs_in a.shape a.work.now)) c.lay_level-third.new.work
third c =
    let s = c.before.before.before.requires in
    reached3 s c.lay_level-third.result.grid (third-is c) (rw (base-is c.before.before) at c.lay_level-third.ensures.laid.vectors)

-- level 2
behind-third : (c : of.Tie.After-after) → c.after.result ≡ after (site3 c.before.before.before.before.before.before.before.args.shape)
behind-third c = c.after.ensures ∙ ap after (third-is c.before.before.before.before)

second_is : (c : of.Tie.After-lay_level-second) → c.lay_level-second.result.grid ≡ site2 c.before.before.before.before.before.before.before.before.args.shape
second_is c = c.lay_level-second.ensures.grid_is ∙ ap (grid_at c.before.before.before.before.before.before.before.before.args.shape 2) (behind-third c.before)

second : (c : of.Tie.After-lay_level-second) → let a = c.before.before.before.before.before.before.before.before.args in Reached a.work.now (2 * pyramid_length a.shape) c.lay_level-second.result.grid (field2 (pairs_in a.shape a.work.now)) c.lay_level-second.new.work
second c =
    let t = c.before.before.before.before.before in
    let s = t.before.before.before.requires in
    reached2 s t.lay_level-third.result.grid c.lay_level-second.result.grid (third t) (third-is t) (second_is c) (rw (behind-third c.before) at c.lay_level-second.ensures.laid.vectors)

-- level 1
behind-second : (c : of.Tie.After-after-2) → c.after-2.result ≡ after (site2 c.before.before.before.before.before.before.before.before.before.before.before.before.args.shape)
behind-second c = c.after-2.ensures ∙ ap after (second_is c.before.before.before.before)

lay-level-requires : of.Tie.Need-lay_level-third-requires
lay-level-requires c κs = let s = c.before.before in
    let f = sites-fit s.args.shape in
    record {
      site = record { allowed = s.requires.allowed; sided = s.requires.sided; standing = s.requires.standing; behind = omega (arith, base-is c.before); room = rw (base-is c.before) (omega (arith, s.requires.room)) };
      led = record { level_most = omega arith; vectors = λ h. absurd (omega arith) };
      ends = record { end = λ h. absurd (omega arith) };
    }

after-requires : of.Tie.Need-after-requires
unfolding grid_at
after-requires c κs = let t = c.before.before.before in
    let o = t.before.before in
    rw (third-is t) (omega (arith, base-is o, o.offset-base.ensures.1), grid-few o.before.requires.allowed o.before.requires.sided 3)

lay-level-requires-2 : of.Tie.Need-lay_level-second-requires
lay-level-requires-2 c κs = let r = third c.before.before.before.before in
    let s = c.before.before.before.before.before.before.before in
    let f = sites-fit s.args.shape in
    record {
      site = record { allowed = s.requires.allowed; sided = s.requires.sided; standing = standing-kept s.requires.standing r.kept; behind = rw (behind-third c) f.0; room = rw (behind-third c) (omega (arith, r.kept.same, s.requires.room)) };
      led = record { level_most = omega arith; vectors = λ h. r.vectors };
      ends = record { end = λ h. omega (arith, c.after.ensures) };
    }

after-requires-2 : of.Tie.Need-after-requires-2
unfolding grid_at
after-requires-2 c κs = let n = c.before.before.before in
    let o = n.before.before.before.before.before.before.before in
    rw (second_is n) (omega (arith, base-is o, o.offset-base.ensures.1, tiles-few (grid-few o.before.requires.allowed o.before.requires.sided 3)), grid-few o.before.requires.allowed o.before.requires.sided 2)

lay-level-requires-3 : of.Tie.Need-lay_level-first-requires
lay-level-requires-3 c κs = let r = second c.before.before.before.before in
    let s = c.before.before.before.before.before.before.before.before.before.before.before.before in
    let f = sites-fit s.args.shape in
    record {
      site = record { allowed = s.requires.allowed; sided = s.requires.sided; standing = standing-kept s.requires.standing r.kept; behind = rw (behind-second c) (omega arith); room = rw (behind-second c) (omega (arith, r.kept.same, s.requires.room)) };
      led = record { level_most = omega arith; vectors = λ h. r.vectors };
      ends = record { end = λ h. omega (arith, c.after-2.ensures) };
    }

add-t18 : of.Tie.Need-overflow_add-result
add-t18 c = omega (arith, c.before.before.before.before.before.before.before.before.before.before.before.before.before.before.lay_level-third.ensures.laid.few, c.before.before.before.before.before.before.before.before.before.lay_level-second.ensures.laid.few)

add-t19 : of.Tie.Need-overflow_add-result-2
add-t19 c = omega (arith, c.before.before.before.before.before.before.before.before.before.before.before.before.before.before.before.lay_level-third.ensures.laid.few, c.before.before.before.before.before.before.before.before.before.before.lay_level-second.ensures.laid.few, c.before.before.before.before.before.lay_level-first.ensures.laid.few)

returns : of.Tie.Need-returns
unfolding grid_at coarse_rows coarsest_rows finer_rows
returns c = let n = c.before.before.before.before.before in
    let m = n.before.before.before.before.before in
    let t = m.before.before.before.before.before in
    let s = t.before.before.before in
    let shape = s.args.shape in
    let e = n.lay_level-first.ensures.grid_is in
    let first_is = e ∙ ap (grid_at shape 1) (behind-second n.before) in
    record {
      reached = reached1 s.requires m.lay_level-second.result.grid n.lay_level-first.result.grid (second m) (second_is m) first_is (rw (behind-second n.before) at n.lay_level-first.ensures.laid.vectors);
      grid_is = e ∙ ap (grid_at shape 1) (sym (ap (λ g. g.at) e));
      rows_are = ap₂ ◌+◌
          (ap₂ ◌+◌ (t.lay_level-third.ensures.laid.rows_are ∙ counted3 s.requires t.lay_level-third.result.grid (third-is t))
          (m.lay_level-second.ensures.laid.rows_are ∙ counted2 s.requires t.lay_level-third.result.grid m.lay_level-second.result.grid (third t) (third-is t) (second_is m)))
          (n.lay_level-first.ensures.laid.rows_are ∙ counted1 s.requires m.lay_level-second.result.grid n.lay_level-first.result.grid (second m) (second_is m) first_is);
      few = omega (arith, t.lay_level-third.ensures.laid.few, m.lay_level-second.ensures.laid.few, n.lay_level-first.ensures.laid.few);
    }

pub coarse_levels_spec : {M : Type 1} → of.Statement.statement M
coarse_levels_spec = of.Tie.close (of.Tie.spec
    (λ c κs. search rules) (λ c. search rules) lay-level-requires after-requires
    lay-level-requires-2 after-requires-2 lay-level-requires-3 add-t18 add-t19 (λ c. search rules) returns)
