-- The recipe's output sample from what is taken from each of the four tiles.
use Rattle.std.specs.Prelude.{◌≡◌, ◌%◌}
use Rattle.merge_frame.specs.Prelude.{refl, subst, ℕ, Scene, plane_output, taken_in}
use Rattle.geometry.specs.Read.{plane_of}
use Rattle.recipe.specs.Spatial.{filtered_sample}
use Rattle.merge_gather.specs.Gather.{windowed, corrected}
use Rattle.merge_gather.specs.HoldLaws.{taken_over}

module _ (s : Scene) (rowParity columnParity y x : ℕ) where
  abbrev i : ℕ
  i = y % s.side.half

  abbrev j : ℕ
  j = x % s.side.half

  gathered : plane_output s rowParity columnParity y x ≡ corrected s.side (plane_of s.reference rowParity columnParity y x) (windowed s.side i j (taken_over (taken_in s) s.side.half rowParity columnParity y x)) s.others
  unfolding plane_output filtered_sample corrected windowed taken_in
  gathered = refl

  -- the same by the number that half a side is
  pub gathered-by : {half : ℕ} → s.side.half ≡ half → plane_output s rowParity columnParity y x ≡ corrected s.side (plane_of s.reference rowParity columnParity y x) (windowed s.side (y % half) (x % half) (taken_over (taken_in s) half rowParity columnParity y x)) s.others
  gathered-by e = subst (λ half. plane_output s rowParity columnParity y x ≡ corrected s.side (plane_of s.reference rowParity columnParity y x) (windowed s.side (y % half) (x % half) (taken_over (taken_in s) half rowParity columnParity y x)) s.others) e gathered
