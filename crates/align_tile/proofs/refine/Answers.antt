-- The window around the guess is copied and searched; the first least sum there is what the definition finds.
use Rattle.algebra.specs.Prelude.{refl, arith}
use Rattle.align_tile.specs.StoredLaws.{window_low, search-answer, searched-few}
use Rattle.align_tile.proofs.refine.Goals as goal

pub search-requires : goal.search-requires
search-requires c = record { around = window_low c.requires.ready c.copy_window.ensures _ refl; kind = c.requires.kind; room = c.requires.ready.enough }

pub moved-requires : goal.moved-requires
moved-requires c = record { near = c.requires.near; tried = c.search.ensures.within; few = searched-few c.search.ensures c.requires.ready.placed.small; few_before = c.requires.few_before }

pub returns : goal.returns
returns c = (
  search-answer c.requires.ready c.copy_window.ensures c.args.squared c.args.before refl c.search.ensures c.moved.ensures,
  omega (arith, c.moved.ensures.residual_is, c.search.ensures.most),
)
