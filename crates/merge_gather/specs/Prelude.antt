-- The words of other crates that this crate's files share. Lemmas are not passed on: of those the `use` line says where they are.
pub use Rattle.algebra.specs.Prelude.{Bool, List, SFits, ℕ, ℤ, [], ap, arith, cond, eqb, false, get_or, length, lit<, ltb, nat_abs, rules, negsuc, pos, refl, set, subst, suc, sym, to_z, true, w64, zero, ◌∙◌}
pub use Rattle.std.specs.Int.Signed.{shr_z}
pub use Rattle.std.specs.Prelude.{◌<ℤ◌, ◌≤ℤ◌, ◌%◌, ◌*◌, ◌*ℤ◌, ◌++◌, ◌+◌, ◌+ℤ◌, ◌-◌, ◌-ℤ◌, ◌/◌, ◌<◌, ◌^◌, ◌∷◌, ◌≡◌, ◌≤◌}
pub use Rattle.algebra.specs.Bound.{AtMost}
pub use Rattle.algebra.specs.Clamp.{clamp_z}
unfoldable pub use Rattle.algebra.specs.Nearest.{upward}
unfoldable pub use Rattle.sequences.specs.Tab.{tab}
pub use Rattle.sequences.specs.Write.{written}
pub use Rattle.geometry.specs.Fits.{Allowed, AllowedSize, TileSide}
pub use Rattle.geometry.specs.Shape.{frame_stride, row_stride}
unfoldable pub use Rattle.geometry.specs.Shape.{output_length, sample_length}
pub use Rattle.geometry.specs.declared.Shape.{Shape}
pub use Rattle.recipe.specs.Sides.{side_of}
unfoldable pub use Rattle.recipe.specs.Tables.{side16, window16, windows}
unfoldable pub use Rattle.recipe.specs.Tables32.{side32, window32, windows32}
unfoldable pub use Rattle.merge_tiles.specs.Rows.{half_word, row_word, row_words, slot_of}
pub use Rattle.merge_tiles.specs.Sum.{Taking, taken_most}
