use Rattle.std.proofs.Common.{arith, sym, ap₂, subst, ◌∙◌, ◌≡◌, ◌≢◌, ◌<◌, ◌+◌, ◌^◌, ◌+ℤ◌, get_or-set_other}
use Rattle.algebra.specs.Prelude.{pos, nat_abs}
use Rattle.tile_spectrum.specs.Prelude.{get_or, refl}
use Rattle.sequences.specs.TabLaws.{fill_start, fill-turn, fill_done}
use Rattle.tile_spectrum.specs.AddingLaws.{sum-fits, sum-is}
use Rattle.tile_spectrum.proofs.adding.add_each.Goals as goal
use Rattle.tile_spectrum.proofs.adding.add_each.Given.{Over}
use Rattle.tile_spectrum.proofs.adding.add_each.Goals.{After-f}

pub loop-l-init : goal.loop-l-init
loop-l-init g c = (λ k j. refl, λ h e. fill_start c.told-sum)

module _ (g : Over) (c : After-f g) where
  unset : get_or c.loop-l.sum c.loop-l.l (pos 0) ≡ get_or c.args.sum.now c.loop-l.l (pos 0)
  unset = c.loop-l.invariant.0 c.loop-l.l (omega arith)

  small : nat_abs (get_or c.loop-l.sum c.loop-l.l (pos 0)) + nat_abs c.f.result < 2 ^ 63
  small = subst (λ z. nat_abs z + nat_abs c.f.result < 2 ^ 63) (sym unset) (c.requires.fits c.loop-l.l c.index-x-l.result c.f.result c.type_inv.x (omega arith) c.f.ensures)

pub overflow_add-sum : goal.overflow_add-sum
overflow_add-sum g c = sum-fits (get_or c.loop-l.sum c.loop-l.l (pos 0)) c.f.result (small g c)

pub loop-l-preserved : goal.loop-l-preserved
loop-l-preserved g c = (
  λ k j. let ne : k ≢ c.loop-l.l = omega arith in get_or-set_other c.loop-l.sum c.loop-l.l k _ (pos 0) ne ∙ c.loop-l.invariant.0 k (omega arith),
  λ h e. fill-turn (c.loop-l.invariant.1 h e) (omega arith)
      (sum-is (get_or c.loop-l.sum c.loop-l.l (pos 0)) c.f.result (small g c) ∙ ap₂ ◌+ℤ◌ (unset g c) (e c.loop-l.l c.index-x-l.result c.f.result c.type_inv.x (omega arith) c.f.ensures)),
)

pub returns : goal.returns
returns g c h e = fill_done (c.loop-l.invariant.1 h e) (omega arith)
