-- Each turn halves the last image into the words after it.
use Rattle.std.proofs.Common.{◌≡◌, length}
use Rattle.align_pyramid.specs.Words.{image_in}
use Rattle.align_pyramid.proofs.Descent.{Halving}
use Rattle.align_pyramid.proofs.images.halve_down.Given as goal

abbrev pub invariant-loop : goal.invariant-loop
invariant-loop l = (Halving l.fn.image (image_in l.fn.work l.fn.image) l.fn.work l.counter l.work l.image.from l.image.height l.image.width) × (length l.sums ≡ 4098)
