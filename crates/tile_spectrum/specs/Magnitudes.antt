-- The largest magnitudes of a tile that the code is proved for, in the order of the computation.
use Rattle.std.specs.Prelude.{ℕ, ◌*◌, ◌^◌}

-- ---- of a bin

-- V at t = 1024, Ls = 65536, Lr = 4194304 and r = 65520
abbrev pub noise_most : ℕ
noise_most = 279105765376

-- a part of B: sixteen times row_most·(|C(k)| + |S(k)|), which is at most 23170
abbrev pub bin_most : ℕ
bin_most = 397960386969600

-- a part of Q, which is that over 2^24, and so of G
abbrev pub gain_most : ℕ
gain_most = 23720288

-- ---- of a tile

-- a part of a row's transform, or of a column's: sixteen differences times a cosine of at most 16384
abbrev pub row_most : ℕ
row_most = 1073479680

-- P
abbrev pub correction_most : ℕ
correction_most = 2 ^ 30

-- ---- of two tiles in double

-- V up to which the inverse's last sums stay below 5·2^49
abbrev pub low_noise : ℕ
low_noise = 2 ^ 33

-- ---- of the spatial filter (request L13)

-- a part of G at V up to noise_most: half the root of V. And P of such parts
abbrev pub root_most : ℕ
root_most = 264153

abbrev pub small_most : ℕ
small_most = 8452550

-- a sample of the copy, in 1/256: 256·4095, and P of seven frames over 8
abbrev pub copy_most : ℕ
copy_most = 8444302

-- a part of its bins: two passes of sixteen terms of at most 2^15 times a number, and that over 2^32
abbrev pub copy_bin_most : ℕ
copy_bin_most = copy_most * 2 ^ 38

abbrev pub copy_part_most : ℕ
copy_part_most = copy_most * 64

-- V' at s = 256, m = 181, Ls = 65536, Lr = 4194304, r = 65520 and N = 1; a part of the step at it, which is half the root of V', and P' of such parts
abbrev pub spatial_most : ℕ
spatial_most = 12333531136

abbrev pub spatial_gain_most : ℕ
spatial_gain_most = 55529

abbrev pub spatial_correction_most : ℕ
spatial_correction_most = 1776856

-- ---- of side 32 (request L8)

-- V at t = 1024, Ls = 65536, Lr = 4194304 and r = 131040
abbrev pub long_noise_most : ℕ
long_noise_most = 69776441344

-- a part of B: thirty-two times that of a row, which is at most 2146959360, times |C(k)| + |S(k)|, which is at most 23170; over 2^26 it is gain_most again
abbrev pub long_bin_most : ℕ
long_bin_most = 1591841547878400

-- V up to which the inverse's last sums stay below 5·2^49
abbrev pub long_low_noise : ℕ
long_low_noise = 2 ^ 29

-- V up to which they stay below 2^53
abbrev pub long_middle_noise : ℕ
long_middle_noise = 2 ^ 32
