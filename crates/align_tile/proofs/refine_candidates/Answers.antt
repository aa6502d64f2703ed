-- The residual in the middle of the window is the own candidate's; the window is searched where that one is the guess.
use Rattle.std.specs.Prelude.{◌*◌}
use Rattle.align_tile.specs.Prelude.{refl, sym, ap, ◌∙◌, arith}
use Rattle.align_tile.specs.Stored.{refined}
use Rattle.align_tile.specs.StoredLaws.{window_low, guess-residual, search-answer, searched-few}
use Rattle.align_tile.proofs.Guessing.{best_is, best-within}
use Rattle.align_tile.proofs.refine_candidates.Goals as goal

pub middle_sum-first-requires : goal.middle_sum-first-requires
middle_sum-first-requires c = (c.requires.sided, window_low c.requires.ready c.copy_window.ensures _ refl)

pub other_sum-second-requires : goal.other_sum-second-requires
other_sum-second-requires c =
    let r = c.requires in
    record { ready = r.ready; sided = r.sided; room = r.other_room; near = r.sideways_near; own_near = r.own_near; first_is = c.middle_sum-first.ensures ∙ guess-residual r.ready c.copy_window.ensures }

pub other_sum-third-requires : goal.other_sum-third-requires
other_sum-third-requires c =
    let r = c.requires in
    record { ready = r.ready; sided = r.sided; room = omega (arith, r.other_room); near = r.vertically_near; own_near = r.own_near; first_is = c.middle_sum-first.ensures ∙ guess-residual r.ready c.copy_window.ensures }

pub same-requires : goal.same-requires
same-requires c =
    let r = c.requires in
    (best-within c.args.words.now c.args.area c.args.tile c.args.candidates.own c.args.candidates.sideways c.args.candidates.vertically c.guess-best.ensures (c.middle_sum-first.ensures ∙ guess-residual r.ready c.copy_window.ensures) c.other_sum-second.ensures c.other_sum-third.ensures r.own_near r.sideways_near r.vertically_near, r.own_near)

pub search-requires : goal.search-requires
search-requires c = record { around = window_low c.requires.ready c.copy_window.ensures _ refl; kind = c.requires.kind; room = c.requires.ready.enough }

pub moved-requires : goal.moved-requires
moved-requires c = record { near = c.requires.own_near; tried = c.search.ensures.within; few = searched-few c.search.ensures c.requires.ready.placed.small; few_before = omega (arith, c.requires.ready.placed.small) }

pub returns-then-same : goal.returns-then-same
returns-then-same c =
    let a = c.args in
    let r = c.requires in
    let is = best_is c.args.words.now c.args.area c.args.tile c.args.candidates.own c.args.candidates.sideways c.args.candidates.vertically c.guess-best.ensures (c.middle_sum-first.ensures ∙ guess-residual r.ready c.copy_window.ensures) c.other_sum-second.ensures c.other_sum-third.ensures in (
      search-answer r.ready c.copy_window.ensures a.squared (3 * a.tile.side) refl c.search.ensures c.moved.ensures
          ∙ ap (λ g. refined a.squared a.words.now a.area a.tile g (3 * a.tile.side)) (sym (c.same.ensures c.if-same.true) ∙ is),
      omega (arith, c.moved.ensures.residual_is, c.search.ensures.most),
    )

pub refine-requires : goal.refine-requires
refine-requires c =
    let r = c.requires in
    record {
      ready = r.ready;
      kind = r.kind;
      room = c.copy_window.ensures.room;
      near = best-within c.args.words.now c.args.area c.args.tile c.args.candidates.own c.args.candidates.sideways c.args.candidates.vertically c.guess-best.ensures (c.middle_sum-first.ensures ∙ guess-residual r.ready c.copy_window.ensures) c.other_sum-second.ensures c.other_sum-third.ensures r.own_near r.sideways_near r.vertically_near;
      few_before = omega (arith, r.ready.placed.small);
    }

pub returns : goal.returns
returns c =
    let a = c.args in
    let r = c.requires in
    let is = best_is c.args.words.now c.args.area c.args.tile c.args.candidates.own c.args.candidates.sideways c.args.candidates.vertically c.guess-best.ensures (c.middle_sum-first.ensures ∙ guess-residual r.ready c.copy_window.ensures) c.other_sum-second.ensures c.other_sum-third.ensures in
    (c.refine.ensures.0 ∙ ap (λ g. refined a.squared a.words.now a.area a.tile g (3 * a.tile.side)) is, c.refine.ensures.1)
