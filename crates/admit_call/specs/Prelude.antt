-- The words of other crates that this crate's files share. Lemmas are not passed on: of those the `use` line says where they are.
pub use Rattle.std.specs.Prelude.{◌&&◌, ◌++◌, ◌∷◌, ◌≡◌}
pub use Rattle.algebra.specs.Prelude.{List, ℕ, ℤ, [], ap, ap₂, arith, eqb, length, ltb, rules, refl, suc, sym, zero, ◌∙◌}
pub use Rattle.refusals.specs.Tests.{first, refuse}
pub use Rattle.geometry.specs.declared.Shape.{Shape}
pub use Rattle.admit_value.specs.Bounds.{sample_refusal, vector_refusal}
pub use Rattle.recipe.specs.declared.Tuning.{Tuning}
pub use Rattle.noise.specs.Levels.{black_refusal, levels_of, noise_tests, read_level, refusal_of, shot_level, spatial_refusal, strength_refusal}
pub use Rattle.noise.specs.declared.Noise.{Noise}
