-- The side and the kind of differences decide which search it is; a narrow tile is searched in its copy.
use mathlib.Core.Logic.{inl, inr}
use Rattle.algebra.specs.Prelude.{refl, subst, ◌∙◌, true, false, arith, lit≤}
use Rattle.align_search.specs.Local.{Window}
use Rattle.align_search.specs.WindowLaws.{own-window, taken}
use Rattle.align_search.proofs.Searching.{kind_eight, kind_sixteen, own-searched}
use Rattle.align_search.proofs.window.search.Goals as goal

pub search_by-requires-then-side-eq8 : goal.search_by-requires-then-side-eq8
search_by-requires-then-side-eq8 c =
    (subst (Window c.copied-own.result c.args.window.now) c.if-side-eq8.true (own-window c.args.tile.now c.copied-own.result (c.copied-own.ensures ∙ taken c.args.tile.now c.requires.room) c.args.side (omega (arith, c.if-side-eq8.true)) c.requires.around), record { is = inl (record { is = inl (refl, refl) }) })

pub returns-then-side-eq8 : goal.returns-then-side-eq8
returns-then-side-eq8 c =
    rw (kind_eight c.requires.kind c.if-side-eq8.true, c.if-side-eq8.true)
    (own-searched c.args.tile.now c.copied-own.result c.copied-own.ensures c.requires.room (lit≤ tt) true c.args.window.now c.search_by-then-side-eq8.ensures)

pub search_by-requires-then-squared : goal.search_by-requires-then-squared
search_by-requires-then-squared c =
    let e = kind_sixteen c.requires.kind c.if-side-eq32.false c.if-side-eq8.false in
    (subst (Window c.copied-own.result c.args.window.now) e (own-window c.args.tile.now c.copied-own.result (c.copied-own.ensures ∙ taken c.args.tile.now c.requires.room) c.args.side (omega (arith, e)) c.requires.around), record { is = inl (record { is = inr refl }) })

pub returns-then-squared : goal.returns-then-squared
returns-then-squared c =
    rw (c.if-squared.true, kind_sixteen c.requires.kind c.if-side-eq32.false c.if-side-eq8.false)
    (own-searched c.args.tile.now c.copied-own.result c.copied-own.ensures c.requires.room (lit≤ tt) true c.args.window.now c.search_by-then-squared.ensures)

pub search_by-requires-2 : goal.search_by-requires-2
search_by-requires-2 c =
    let e = kind_sixteen c.requires.kind c.if-side-eq32.false c.if-side-eq8.false in
    (subst (Window c.copied-own.result c.args.window.now) e (own-window c.args.tile.now c.copied-own.result (c.copied-own.ensures ∙ taken c.args.tile.now c.requires.room) c.args.side (omega (arith, e)) c.requires.around), record { is = inl (record { is = inr refl }) })

pub returns : goal.returns
returns c =
    rw (c.if-squared.false, kind_sixteen c.requires.kind c.if-side-eq32.false c.if-side-eq8.false)
    (own-searched c.args.tile.now c.copied-own.result c.copied-own.ensures c.requires.room (lit≤ tt) false c.args.window.now c.search_by-2.ensures)
