-- Figures of our own beside document 01's: the definitions of the recipe, of sharpness, of the vectors' layout, of residuals and of black levels, at numbers
-- where each factor, sign, order and rounded half of the papers changes what comes out.
use Rattle.algebra.specs.Prelude.{refl, cond, List, [], ℕ, lit<, eqb, get_or, ℤ, pos, neg_ℤ}
use Rattle.std.specs.Prelude.{replicate, ◌≡◌, ◌∷◌, ◌++◌, ◌+◌, ◌*◌, ◌^◌, ◌*ℤ◌}
use Rattle.algebra.specs.Sums.{sum_n, sum_z}
use Rattle.algebra.specs.Clamp.{min_z, max_z, clamp_z}
use Rattle.algebra.specs.Nearest.{away, upward}
use Rattle.algebra.specs.Fraction.{Frac, frac, whole, ◌+F◌, ◌-F◌, ◌·F◌, ◌×F◌, divide, ◌÷F◌, over, sum_f, held}
use Rattle.sequences.specs.Tab.{tab}
use Rattle.sequences.specs.Least.{first_by}
use Rattle.geometry.specs.declared.Shape.{Shape}
use Rattle.geometry.specs.Read.{sample_index, sample_at, plane_of, mirrored, inside, read}
use Rattle.geometry.specs.Shape.{shaped, vector_length}
use Rattle.geometry.specs.Tiles.{level_size, origin}
use Rattle.geometry.specs.Vectors.{other_frame, vector_place, down_at, right_at, VectorField, part, word, word_of, vector_list}
use Rattle.recipe.specs.declared.Merge.{Merge}
use Rattle.recipe.specs.Root.{root_in, whole_root}
use Rattle.recipe.specs.NoiseNumber.{sum_of_squares, tile_root, variance, noise_number}
use Rattle.recipe.specs.Side.{Side, cos_at, sin_at}
use Rattle.recipe.specs.Tables.{cosines, cosine16, sine16, windows, window16, side16}
use Rattle.recipe.specs.Tables32.{cosines32, cosine32, sine32, side32}
use Rattle.recipe.specs.Sides.{side_of}
use Rattle.recipe.specs.Correction.{wiener, row_re, row_im, bin_re, bin_im, quantized, filtered, twiddle_re, twiddle_im, inverse_re, inverse_at, correction_at}
use Rattle.recipe.specs.Output.{weight_in, rounded}
use Rattle.recipe.specs.Spatial.{FilteredTile, copy_quantized, copy_filtered, merged_sum, copy_at, spatial_at, taken_at, filtered_sample}
use Rattle.recipe.specs.SpatialNoise.{frequency, distance, spatial_number}
use Rattle.recipe.specs.Scene.{Scene, scene_at, scene_of, black_of, tile_over, tile_at, reference_tile, other_tile, tile_noise, tile_spatial, tile_difference}
use Rattle.recipe.specs.Exact.{exact_bin, exact_noise, exact_wiener, exact_inverse_re, exact_inverse_at, unrounded}
use Rattle.recipe.specs.ExactSpatial.{exact_row_re, exact_row_im, exact_bin_re, exact_bin_im}
use Rattle.admit_length.specs.Residuals.{residual_length}
use Rattle.align_pyramid.specs.Bayer.Bayer.{bayer_sum}
use Rattle.align_pyramid.specs.Pyramid.{image0}
use Rattle.align_residual.specs.Residual.{difference, row_residual, residual}
use Rattle.align_level.specs.Fields.{level_tile}
use Rattle.align_burst.specs.Frames.{pairs}
use Rattle.align_measure.specs.Residuals.{tile_residual, residual_word, tile_residuals}
use Rattle.sharpness.specs.Sharpness.{row_steps, steps, sharpness, sharpest}
use Rattle.figures.specs.Figures.{only}

-- what a definition gives, and what the papers' words give
infix 3 ◌is◌ ◌counts◌
pub record Figure : Type 0 where
  pub computed : ℤ
  pub stated : ℤ

abbrev pub ◌is◌ : ℤ → ℤ → Figure
a is b = record { computed = a; stated = b }

abbrev pub ◌counts◌ : ℕ → ℕ → Figure
a counts b = pos a is pos b

-- the fraction z/d, by cross-multiplying
abbrev pub fraction : Frac → (z : ℤ) (d : ℕ) → Figure
fraction x z d = x.num *ℤ pos d is z *ℤ pos x.den

abbrev pub minus : ℕ → ℤ
minus n = neg_ℤ (pos n)

abbrev pub none : ℕ → ℕ → ℤ
none i j = pos 0

-- "16·Lr", and at side 32 "V = floor(t·(Ls·r + 32·Lr)/128)"; samples of 100, 68 and 60 on a plane of black level 64; m and V', with bin indices of 8 and above it
abbrev pub noises : List Figure
noises =
    (noise_number side16 8 1024 1024 1600 counts 827392)
    ∷ (noise_number side32 8 1024 1024 1600 counts 104448)
    ∷ (tile_root 16 64 (λ i j. 100) counts 576)
    ∷ (tile_root 16 64 (λ i j. cond (eqb j 0) 68 60) counts 16)
    ∷ (distance 3 4 counts 80)
    ∷ (distance 1 1 counts 22)
    ∷ (distance 8 0 counts 128)
    ∷ (distance 0 9 counts 112)
    ∷ (spatial_number side16 256 1024 1024 1600 2 3 4 counts 1034240)
    ∷ (spatial_number side16 255 1024 1024 1600 3 1 1 counts 188870)
    ∷ []

-- B, Q and G of a tile with a single 1, a half that is rounded, and P of single bins of 2^18
abbrev pub bins : List Figure
bins =
    (bin_re side16 (only 1 0 (pos 1) (pos 0)) 1 0 is pos 248004608)
    ∷ (bin_im side16 (only 1 0 (pos 1) (pos 0)) 1 0 is minus 102727680)
    ∷ (bin_re side32 (only 1 0 (pos 1) (pos 0)) 1 0 is pos 263274496)
    ∷ (bin_im side32 (only 1 0 (pos 1) (pos 0)) 1 0 is minus 52363264)
    ∷ (quantized side32 (minus 100663296) is minus 2)
    ∷ (bin_re side16 (only 1 0 (pos 1) (pos 0)) 0 1 is pos 268435456)
    ∷ (bin_im side16 (only 1 0 (pos 1) (pos 0)) 0 1 is pos 0)
    ∷ (bin_re side16 (only 2 1 (pos 1) (pos 0)) 3 5 is minus 102724195)
    ∷ (bin_im side16 (only 2 1 (pos 1) (pos 0)) 3 5 is pos 248000095)
    ∷ (quantized side16 (minus 25165824) is minus 2)
    ∷ (wiener 2930 (minus 3) (pos 121) is minus 1)
    ∷ (filtered side16 2930 (minus 50331648) (pos 2030043136) is minus 1)
    ∷ (inverse_at side16 (only 1 0 (pos 262144) (pos 0)) none 1 0 is pos 15137)
    ∷ (inverse_at side16 (only 1 0 (pos 262144) (pos 0)) none 0 1 is pos 16384)
    ∷ (inverse_at side16 none (only 1 0 (pos 262144) (pos 0)) 1 0 is minus 6270)
    ∷ (inverse_at side16 none (only 0 1 (pos 262144) (pos 0)) 0 1 is minus 6270)
    ∷ (inverse_at side16 (only 3 5 (pos 262144) (pos 0)) none 2 1 is minus 6270)
    ∷ (inverse_at side16 none (only 3 5 (pos 262144) (pos 0)) 2 1 is pos 15137)
    ∷ []

-- Side 4, on which whole tiles are worked out: the same scales, C(0..3) = 16384, 0, −16384, 0, S(k) = C(k+3), w(0..3) = 600, 3496, 3496, 600, and an inverse
-- divided by 16·2^24
abbrev pub side4 : Side
side4 =
    record {
      side = 4;
      half = 2;
      cosine = λ k. get_or (pos 16384 ∷ pos 0 ∷ minus 16384 ∷ []) k (pos 0);
      sine = λ k. get_or (pos 0 ∷ pos 16384 ∷ pos 0 ∷ minus 16384 ∷ []) k (pos 0);
      window = λ i. get_or (600 ∷ 3496 ∷ 3496 ∷ 600 ∷ []) i 0;
      scale = 2 ^ 28;
      parts = 16;
      noise_divisor = 16;
      quantum = 2 ^ 24;
      divisor = 2 ^ 28;
      weight = 2 ^ 24;
      side_above = lit< tt;
      scale_above = lit< tt;
      parts_above = lit< tt;
      quantum_above = lit< tt;
      divisor_above = lit< tt;
      weight_above = lit< tt;
      size_above = lit< tt;
    }

-- differences of 97, 40 and 7, at V = 300001
abbrev pub moved : FilteredTile
moved =
    record {
      noise = 300001;
      spatial = λ u v. 0;
      reference = only 1 2 (pos 30) (pos 0);
      differences = λ z i j. only 1 2 (pos 97) (only 0 1 (pos 40) (only 3 3 (pos 7) (pos 0) i j) i j) i j;
    }

-- a lone sample of 4000, with V' in bin (1, 0) alone
abbrev pub grainy : FilteredTile
grainy =
    record {
      noise = 0;
      spatial = only 1 0 1000000000 0;
      reference = only 1 2 (pos 4000) (pos 0);
      differences = λ z. none;
    }

-- and one of 64
abbrev pub faint : FilteredTile
faint = record { noise = 0; spatial = only 1 0 1000000 0; reference = only 1 0 (pos 64) (pos 0); differences = λ z. none }

abbrev pub tiles : List Figure
tiles =
    (correction_at side4 300001 (moved.differences 0) 1 2 is pos 2671)
    ∷ (correction_at side4 300001 (moved.differences 0) 0 1 is pos 47)
    ∷ (correction_at side4 300001 (moved.differences 0) 3 3 is pos 43)
    ∷ (merged_sum side4 2 moved 1 2 is pos 5342)
    ∷ (copy_at side4 1 moved 1 2 is pos 6345)
    ∷ (copy_at side4 1 moved 0 1 is minus 24)
    ∷ (copy_quantized side16 (minus 6442450944) is minus 2)
    ∷ (copy_filtered side16 2930 (minus 12884901888) (pos 519691042816) is minus 1)
    ∷ (spatial_at side16 0 faint 1 0 is pos 31)
    ∷ (spatial_at side16 0 faint 0 1 is pos 29)
    ∷ (spatial_at side16 0 faint 15 0 is pos 22)
    ∷ (taken_at side4 1 grainy 1 2 is pos 25118)
    ∷ (filtered_sample side4 0 1 1 (λ t. grainy) (pos 2000) is pos 2000)
    ∷ (filtered_sample side4 1 0 1 (λ t. grainy) (pos 2000) is pos 1965)
    ∷ []

-- w·w' of the four tiles; a half and a little more, held to 0..4095
abbrev pub outputs : List Figure
outputs =
    (weight_in side16 1 2 0 counts 313950)
    ∷ (weight_in side16 1 2 1 counts 1099170)
    ∷ (weight_in side16 1 2 2 counts 3413410)
    ∷ (weight_in side16 1 2 3 counts 11950686)
    ∷ (rounded side16 1 (λ t. pos (2 ^ 30)) (pos 10) is pos 10)
    ∷ (rounded side16 1 (λ t. pos (2 ^ 30 + t)) (pos 10) is pos 9)
    ∷ (rounded side16 0 (λ t. pos (2 ^ 31)) (pos 10) is pos 8)
    ∷ (rounded side16 0 (λ t. pos (2 ^ 31)) (pos 1) is pos 0)
    ∷ (rounded side16 0 (λ t. minus (2 ^ 31)) (pos 4094) is pos 4095)
    ∷ []

-- "bins B/2^28, noise V/256, inverse divided by 256·2^28"; "/(2^24·N), held to 0..4095"
abbrev pub exacts : List Figure
exacts =
    fraction (exact_bin side16 (pos 7)) (pos 7) (2 ^ 28)
    ∷ fraction (exact_noise side16 5) (pos 5) 256
    ∷ fraction (exact_wiener side16 256 (whole (pos 1)) (whole (pos 2))) (pos 1) 6
    ∷ fraction (exact_bin_re side16 (only 2 1 (whole (pos 1)) (whole (pos 0))) 3 5) (minus 102724195) (2 ^ 28)
    ∷ fraction (exact_bin_im side16 (only 2 1 (whole (pos 1)) (whole (pos 0))) 3 5) (pos 248000095) (2 ^ 28)
    ∷ fraction (exact_inverse_at side16 (λ u v. whole (pos 0)) (only 1 0 (whole (pos 256)) (whole (pos 0))) 1 0) (minus 6270) 16384
    ∷ fraction (unrounded side16 1 (λ t. whole (pos (2 ^ 23))) (pos 10)) (pos 9) 1
    ∷ fraction (unrounded side16 1 (λ t. whole (pos (2 ^ 23))) (pos 0)) (pos 0) 1
    ∷ []

-- a burst of three frames of 2 by 2 samples in rows of three words, whose words count from 100
abbrev pub counted : Merge
counted = record { shape = shaped 2 2 3 16 3; reference = 1; shot = 5; read = 6; tuning = record { strength = 7; black = 10 ∷ 200 ∷ 30 ∷ 40 ∷ []; spatial = 8 } }

abbrev pub counted_scene : Scene
counted_scene = scene_of counted (tab 18 (λ i. 100 + i)) (pos 1 ∷ pos 2 ∷ pos 3 ∷ pos 4 ∷ [])

-- and frames that rise by 60 a row, and by 10, with vectors of their own for each tile
abbrev pub rising : Scene
rising =
    record {
      side = side16;
      height = 64;
      width = 64;
      others = 2;
      reference = λ row column. 60 * row + column;
      other = λ k row column. 1000 * (k + 1) + 10 * row + column;
      down = λ k a b. minus (a + 2);
      right = λ k a b. pos (k + b);
      shot = 1024;
      read = 1024;
      tuning = record { strength = 8; black = 10 ∷ 200 ∷ 30 ∷ 40 ∷ []; spatial = 256 };
    }

abbrev pub scenes : List Figure
scenes =
    (counted_scene.reference 1 1 counts 110)
    ∷ (counted_scene.other 0 0 1 counts 101)
    ∷ (counted_scene.other 1 1 0 counts 115)
    ∷ (counted_scene.others counts 2)
    ∷ (counted_scene.down 1 0 0 is pos 3)
    ∷ (counted_scene.right 1 0 0 is pos 4)
    ∷ (black_of counted.tuning 0 1 counts 200)
    ∷ (black_of counted.tuning 1 0 counts 30)
    ∷ (tile_over side16 19 0 counts 3)
    ∷ (tile_over side16 19 1 counts 2)
    ∷ (reference_tile rising 1 0 0 2 1 3 counts 802)
    ∷ (other_tile rising 1 0 0 2 1 1 3 counts 2198)
    ∷ (tile_difference rising 1 0 0 2 1 1 3 is minus 1396)
    ∷ (tile_noise rising 0 1 1 1 counts 7409664)
    ∷ (tile_spatial rising 0 1 1 1 3 4 counts 6174720)
    ∷ (inside 4 (minus 1) counts 0)
    ∷ (inside 4 (minus 2) counts 1)
    ∷ (inside 4 (pos 4) counts 3)
    ∷ (inside 4 (pos 5) counts 2)
    ∷ (inside 4 (pos 8) counts 0)
    ∷ (inside 4 (minus 9) counts 0)
    ∷ (inside 1 (pos 7) counts 0)
    ∷ []

-- the vectors of two other frames of 64 by 64, 25 tiles each: those of frame k, row a and column b are k, a and b in decimal, and that negated
abbrev pub numbered_field : ℕ → VectorField
numbered_field k a b = record { down = pos (100 * k + 10 * a + b); right = minus (100 * k + 10 * a + b) }

abbrev pub three : Shape
three = shaped 64 64 3 16 64

abbrev pub layout : List Figure
layout =
    (other_frame 1 0 counts 0)
    ∷ (other_frame 1 1 counts 2)
    ∷ (vector_length three counts 100)
    ∷ (vector_place three 1 2 3 counts 76)
    ∷ (get_or (vector_list three numbered_field) 76 (pos 0) is pos 123)
    ∷ (get_or (vector_list three numbered_field) 77 (pos 0) is minus 123)
    ∷ (down_at three (vector_list three numbered_field) 1 2 3 is pos 123)
    ∷ (right_at three (vector_list three numbered_field) 1 2 3 is minus 123)
    ∷ []

-- three frames of 4 by 4 samples in rows of five words: their squares add up to 100 200 300 500, the reference's to 10 25 47 80, and the last one's to 0 3 70 1
abbrev pub squares : List ℕ
squares =
    (10 ∷ 20 ∷ 50 ∷ 50 ∷ 999 ∷ 30 ∷ 40 ∷ 50 ∷ 50 ∷ 999 ∷ 60 ∷ 70 ∷ 100 ∷ 100 ∷ 999 ∷ 80 ∷ 90 ∷ 150 ∷ 150 ∷ 999 ∷ [])
    ++ (1 ∷ 2 ∷ 5 ∷ 6 ∷ 999 ∷ 3 ∷ 4 ∷ 7 ∷ 7 ∷ 999 ∷ 11 ∷ 12 ∷ 20 ∷ 20 ∷ 999 ∷ 12 ∷ 12 ∷ 20 ∷ 20 ∷ 999 ∷ [])
    ++ (0 ∷ 0 ∷ 1 ∷ 1 ∷ 999 ∷ 0 ∷ 0 ∷ 1 ∷ 0 ∷ 999 ∷ 10 ∷ 20 ∷ 0 ∷ 0 ∷ 999 ∷ 20 ∷ 20 ∷ 0 ∷ 1 ∷ 999 ∷ [])

-- tiles of side 2, nine to a frame, of which the last frame's at row 1 and column 2 is moved by one up and one to the right, and no other
abbrev pub tile_word : ℕ → ℕ
tile_word i = get_or (tile_residuals (shaped 4 4 3 2 5) 1 squares (replicate 28 (pos 0) ++ minus 1 ∷ pos 1 ∷ replicate 6 (pos 0))) i 0

-- 4·|10 − 100|; |10 − 100| + |25 − 200| + |47 − 300| + |80 − 500|; |25 − 3| + |25 − 0| + |80 − 3| + |80 − 0|, since the tile lies half outside and what it
-- is held against lies above and beside the frame, mirrored; 4·|80 − 1|; and no more words
abbrev pub residuals : List Figure
residuals =
    (tile_word 0 counts 360)
    ∷ (tile_word 4 counts 938)
    ∷ (tile_word 14 counts 204)
    ∷ (tile_word 17 counts 316)
    ∷ (tile_word 18 counts 0)
    ∷ (residual_length (shaped 4 4 3 2 5) counts 18)
    ∷ []

-- a frame of 4 by 4 samples in rows of five words, whose green plane is 10, g, 4, 3
abbrev pub greens : (g : ℕ) → List ℕ
greens g = 7 ∷ 10 ∷ 7 ∷ g ∷ 999 ∷ 50 ∷ 60 ∷ 70 ∷ 80 ∷ 999 ∷ 7 ∷ 4 ∷ 7 ∷ 3 ∷ 999 ∷ 1 ∷ 2 ∷ 3 ∷ 4 ∷ 999 ∷ []

abbrev pub sharp : List Figure
sharp =
    (sharpness (shaped 4 4 1 16 5) (greens 25) 0 counts 44)
    ∷ (sharpest (shaped 4 4 4 16 5) (greens 24 ++ greens 25 ++ greens 25 ++ greens 99) counts 1)
    ∷ (sharpest (shaped 4 4 2 16 5) (greens 24 ++ greens 25) counts 1)
    ∷ (sharpest (shaped 4 4 1 16 5) (greens 25) counts 0)
    ∷ []

abbrev pub computed : List Figure → List ℤ
computed [] = []
computed (f ∷ fs) = f.computed ∷ computed fs

abbrev pub stated : List Figure → List ℤ
stated [] = []
stated (f ∷ fs) = f.stated ∷ stated fs

abbrev pub table : List Figure
table = noises ++ bins ++ tiles ++ outputs ++ exacts ++ scenes ++ layout ++ residuals ++ sharp

pub own-figures : computed table ≡ stated table
unfolding tile_root sum_of_squares sum_n whole_root root_in noise_number variance frequency distance spatial_number side16 side32 bin_re bin_im row_re row_im quantized wiener filtered away inverse_at inverse_re twiddle_re twiddle_im cos_at sin_at cosine16 sine16 cosines cosine32 sine32 cosines32 sum_z correction_at merged_sum copy_at copy_quantized copy_filtered spatial_at taken_at filtered_sample windows window16 upward clamp_z min_z max_z exact_bin exact_noise exact_wiener exact_row_re exact_row_im exact_bin_re exact_bin_im exact_inverse_re exact_inverse_at frac whole ◌+F◌ ◌-F◌ ◌·F◌ ◌×F◌ divide ◌÷F◌ over sum_f held scene_at side_of sample_at sample_index tab down_at right_at vector_place other_frame black_of reference_tile other_tile tile_at read origin inside mirrored plane_of tile_difference tile_noise tile_spatial vector_length vector_list word_of word part residual_length tile_residuals residual_word tile_residual residual row_residual difference pairs image0 bayer_sum level_size level_tile sharpness steps row_steps sharpest first_by
own-figures = refl
