-- A band a turn, each under the row of pairs of tiles that the one before has left.
use Rattle.std.specs.Prelude.{◌+◌, ◌-◌, ◌*◌, ◌≤◌, ◌<◌}
use Rattle.merge_frame.specs.Prelude.{ℕ, arith, TileSide}
use native.Mathlib.Nat.{mul-le-mul_right}
use Rattle.merge_tiles.specs.Places.{by_side}
use Rattle.merge_frame.proofs.Bands.{parity-start}
use Rattle.merge_frame.proofs.planes.merge_parity.Goals as goal

bands : {n : ℕ} → TileSide n → (first band last : ℕ) → band < last → n * band + n - n * first ≤ n * last - n * first
bands t = by_side t (λ n. (first band last : ℕ) → band < last → n * band + n - n * first ≤ n * last - n * first) (λ f b l h. omega arith) (λ f b l h. omega arith)

pub loop-band-init : goal.loop-band-init
loop-band-init c = record { rows = parity-start c.correction_row.ensures c.requires.lent.room; long = c.correction_row.auto.work; most = c.requires.lent.ordered }

pub merge_band-requires : goal.merge_band-requires
merge_band-requires c =
    let a = c.args in
    let w = c.loop-band.invariant in
    let lent = c.requires.lent in
    let n = a.burst.merge.shape.side in
    let band = c.loop-band.band in
    let below : band < a.last = omega arith in
    record {
      accepted = lent.accepted;
      parity = c.requires.parity;
      from_first = w.rows.from_first;
      band_below = omega (arith, below, lent.last_most);
      output_room = omega (arith, lent.output_long, w.rows.rows.toward.same, mul-le-mul_right {m = n * band + n - n * a.first} {n = n * a.last - n * a.first} a.burst.merge.shape.width (bands lent.accepted.burst.sided a.first band a.last below));
      room = omega (arith, lent.room, w.long);
      held = w.rows.held;
    }
