-- Inside the crates of the merge: a quad of G from that of B, with quotients in double, and where these leave no doubt of it. A side's quantum is 2^bits.
use Rattle.std.specs.Prelude.{◌≡◌, ◌+◌, ◌*◌, ◌/◌, ◌≤◌, ◌<◌}
use Rattle.tile_wiener.specs.Prelude.{Bool, true, List, ℕ, get_or, pos, Float, nan, binary64, of_int, cell, gains_by, SureBy, real_gain_by, number_of, bins_in, quad_in, bits_of, PairedOf}
use Rattle.tile_quad.specs.Lanes.{quad_at_of, place_of, LanesOf}

-- at V and W
unfoldable pub double_quad : (bits : ℕ) (v w : Float) (k u : ℕ) (q : List Float) → List Float
double_quad bits v w = quad_in (real_gain_by bits v w) (gains_by bits v w)

-- quad (u, l), at V and W of each lane
unfoldable pub new_quad_by : (bits : ℕ) (v w : List Float) (u l : ℕ) → List Float → List Float
new_quad_by bits v w u l = double_quad bits (get_or v l nan) (get_or w l nan) (l / 2) u

-- the quotients of a quad's bins are certain: of the four real ones of the corner, and else of two
pub record SureQuadBy (bits : ℕ) (v w : Float) (k u : ℕ) (q : List Float) : Type 0 where
  pub corner : k + u ≡ 0 → (i : ℕ) → i < 4 → SureBy bits v w (number_of (bins_in k u q) i) (of_int binary64 (pos 0))
  pub others : 0 < k + u → SureBy bits v w (number_of (bins_in k u q) 0) (number_of (bins_in k u q) 1) × SureBy bits v w (number_of (bins_in k u q) 2) (number_of (bins_in k u q) 3)

-- those of the quads of a pair of side 2·h from m on and below n, in the order of their places
pub record SureQuadsOf (h bits : ℕ) (v w : List Float) (m n : ℕ) (b : List (List Float)) : Type 0 where
  pub quad : (u l : ℕ) → u < h → l < 2 * h → m ≤ place_of h u l → place_of h u l < n → SureQuadBy bits (get_or v l nan) (get_or w l nan) (l / 2) u (quad_at_of h (cell nan b) u l)

-- r is b with these quads replaced; where s is true, without a doubt: a loop's invariant
pub record ShrunkOf (h bits : ℕ) (Pair : List (List Float) → Type 0) (s : Bool) (v w : List Float) (m n : ℕ) (b r : List (List Float)) : Type 0 where
  pub new : LanesOf h Pair (new_quad_by bits v w) m n b r
  pub sure : s ≡ true → SureQuadsOf h bits v w m n b

-- ---- of a pair of side n, 32 or else 16

abbrev pub new_quad : (n : ℕ) (v w : List Float) (u l : ℕ) → List Float → List Float
new_quad n = new_quad_by (bits_of n)

abbrev pub Shrunk : (n : ℕ) (s : Bool) (v w : List Float) (from below : ℕ) (b r : List (List Float)) → Type 0
Shrunk n = ShrunkOf (n / 2) (bits_of n) (PairedOf n nan)
