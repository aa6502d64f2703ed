-- The two row parities, one after the other.
use Rattle.std.specs.Prelude.{◌≡◌}
use Rattle.range_frame.specs.Prelude.{sym, subst, ◌∙◌, List, ℕ, ℤ, arith, lit<, output_length, side16, scene_at, scene_of, low_sample, high_sample, End, frame_end, raised}
use Rattle.recipe.specs.SideLaws.{of_16}
use Rattle.recipe.specs.declared.Merge.{Merge}
use Rattle.range_tiles.specs.declared.Upper.{Upper}
use Rattle.range_frame.specs.BandLaws.{frame-whole}
use Rattle.range_frame.proofs.range_frames.Goals as goal

pub range_parity-requires-2 : goal.range_parity-requires-2
range_parity-requires-2 c =
    let t = c.requires in
    record {
      lent = record {
        accepted = t.accepted;
        upper_fits = t.upper_fits;
        low_long = c.range_parity.ensures.lows.toward.same ∙ t.low_long;
        high_long = c.range_parity.ensures.highs.toward.same ∙ t.high_long;
        room = omega (arith, t.room, c.range_parity.auto);
      };
      parity = lit< tt;
    }

-- the frames by the burst's side
by_side : (m : Merge) (upper : Upper) (samples : List ℕ) (vectors : List ℤ) → m.shape.side ≡ 16 → (end : End) {o : List ℕ}
    → o ≡ frame_end end (scene_at side16 m samples vectors) (scene_at side16 (raised m upper) samples vectors) → o ≡ frame_end end (scene_of m samples vectors) (scene_of (raised m upper) samples vectors)
by_side m upper samples vectors side end {o} e =
    subst (λ n. o ≡ frame_end end (scene_at n m samples vectors) (scene_at n (raised m upper) samples vectors)) (sym (of_16 side)) e

pub returns : goal.returns
unfolding scene_at output_length
returns c =
    let a = c.args in
    let t = c.requires in
    let high = t.accepted.burst.allowed.high in
    record {
      low_is = by_side a.m a.upper a.samples.now a.vectors.now t.accepted.side_is low_sample (frame-whole low_sample _ _ high t.low_long c.range_parity.ensures.lows c.range_parity-2.ensures.lows);
      high_is = by_side a.m a.upper a.samples.now a.vectors.now t.accepted.side_is high_sample (frame-whole high_sample _ _ high t.high_long c.range_parity.ensures.highs c.range_parity-2.ensures.highs);
    }
