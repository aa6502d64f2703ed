-- The words of other crates that this crate's files share. Lemmas are not passed on: of those the `use` line says where they are.
pub use Rattle.std.specs.Prelude.{◌&&◌, ◌*◌, ◌++◌, ◌+◌, ◌-◌, ◌/◌, ◌<◌, ◌∷◌, ◌≡◌, ◌≤◌}
pub use Rattle.algebra.specs.Prelude.{Bool, List, ℕ, ℤ, [], ap, ap₂, arith, cond, drop, eqb, false, get_or, length, ltb, rules, subst, suc, sym, take, true, zero, ◌∙◌}
pub use Rattle.geometry.specs.Fits.{AlignFits, Allowed, BurstFits, MergeFits, ValuesFit}
pub use Rattle.file_burst.specs.declared.head.Header.{Header}
pub use Rattle.file_burst.specs.Burst.{FileBurst}
pub use Rattle.printing.specs.Lines.{motion_names, number_line, refusal, sample_rows, stack_names, too_large}
pub use Rattle.align_burst.specs.Aligned.{aligned_vectors, residual_sums}
