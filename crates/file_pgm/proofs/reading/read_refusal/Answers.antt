-- What a form that has passed says of the size.
use Rattle.std.proofs.Common.{arith, sym, ◌∙◌}
use Rattle.refusals.specs.Numbers as no
use Rattle.file_pgm.specs.Form.{file_length}
use Rattle.file_pgm.specs.FormLaws.{passes, area-most, area-whole}
use Rattle.file_pgm.specs.HeaderLaws.{form-sized, form-long}
use Rattle.file_pgm.proofs.reading.read_refusal.Goals as goal

pub overflow_mul-width : goal.overflow_mul-width
overflow_mul-width c = omega (arith, area-most (form-sized _ _ _ (sym c.formed.ensures ∙ passes no.pgm_form _ tt (sym c.in_ok-refuse.ensures))))

pub header_length-requires : goal.header_length-requires
header_length-requires c =
    let ok = form-sized _ _ _ (sym c.formed.ensures ∙ passes no.pgm_form _ tt (sym c.in_ok-refuse.ensures)) in
    (omega (arith, ok.wide.most), omega (arith, ok.high.most))

pub overflow_mul-width-2 : goal.overflow_mul-width-2
overflow_mul-width-2 c = omega (arith, area-most (form-sized _ _ _ (sym c.formed.ensures ∙ passes no.pgm_form _ tt (sym c.in_ok-refuse.ensures))))

pub raster_refusal-requires : goal.raster_refusal-requires
unfolding file_length
raster_refusal-requires c =
    let e = sym c.formed.ensures ∙ passes no.pgm_form _ tt (sym c.in_ok-refuse.ensures) in
    (omega (arith, form-long _ _ _ e, c.header_length.ensures.0), area-whole (form-sized _ _ _ e))
