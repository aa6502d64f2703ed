-- What the burst's tests, and the band's, let through.
use Rattle.std.proofs.Common.{sym, arith}
use Rattle.admit_length.specs.BandLaws.{band-in}
use Rattle.admit_length.specs.OrderLaws.{burst-allowed}
use Rattle.admit_length.proofs.bands.band_shape_refusal.Goals as goal

pub band_part_refusal-requires : goal.band_part_refusal-requires
band_part_refusal-requires c = (burst-allowed _ c.args.reference (sym c.in_ok-burst_refusal.ensures)).1

pub band_lengths-requires : goal.band_lengths-requires
band_lengths-requires c =
    let fits = burst-allowed _ c.args.reference (sym c.in_ok-burst_refusal.ensures) in
    let band = band-in _ _ _ (sym c.in_ok-band_part_refusal.ensures) in
    record { allowed = fits.0; sided = fits.1; inside = omega (arith, band.inside) }
