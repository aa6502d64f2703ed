-- Inside the crates of side 16: that side as its corrector has it.
use Rattle.std.specs.Prelude.{◌≡◌, ◌≤◌}
use Rattle.merge_tiles.specs.Prelude.{refl, sym, subst, lit≤, nat_abs, side16, side_of, noise_most, small_most}
use Rattle.std.proofs.Common.{inl}
use Rattle.recipe.specs.Correction.{correction_at}
use Rattle.recipe.specs.NoiseNumber.{noise_number}
use Rattle.recipe.specs.SideLaws.{of_16}
use Rattle.noise.specs.NoiseNumberLaws.{noise-number-bound}
use Rattle.tile_spectrum.specs.SizeLaws.{correction-small}
use Rattle.merge_tiles.specs.Asked.{CorrectorLaws}

pub side_is : side_of 16 ≡ side16
side_is = of_16 refl

pub laws_of_16 : CorrectorLaws 32 16 noise_most small_most
laws_of_16 =
    record {
      size = record { sided = record { is = inl refl }; twice = refl };
      noise = λ t ls lr r ht hs hr h. subst (λ n. noise_number n t ls lr r ≤ noise_most) (sym side_is) (noise-number-bound ht hs hr h);
      correction = λ noise l d y x. subst (λ n. nat_abs (correction_at n noise d y x) ≤ small_most) (sym side_is) (correction-small noise l d y x);
      top_most = lit≤ tt;
      few = lit≤ tt;
    }
