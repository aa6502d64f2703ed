-- What a size that has passed says.
use Rattle.std.proofs.Common.{arith, sym, ◌∙◌}
use Rattle.refusals.specs.Numbers as no
use Rattle.file_pgm.specs.FormLaws.{passes, sized, area-most}
use Rattle.file_pgm.proofs.writing.write_refusal.Goals as goal

pub overflow_mul-width : goal.overflow_mul-width
overflow_mul-width c = omega (arith, area-most (sized (sym c.sizes_allowed.ensures ∙ passes no.size _ tt (sym c.in_ok-refuse.ensures))))

pub file_length-requires : goal.file_length-requires
file_length-requires c = sized (sym c.sizes_allowed.ensures ∙ passes no.size _ tt (sym c.in_ok-refuse.ensures))
