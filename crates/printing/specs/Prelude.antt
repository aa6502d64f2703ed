-- The words of other crates that this crate's files share. Lemmas are not passed on: of those the `use` line says where they are.
pub use Prim.Native.Char.{code}
pub use Rattle.std.specs.Prelude.{ℕ, suc, zero, ◌%◌, ◌*◌, ◌+◌, ◌-◌, ◌/◌, ◌<◌, ◌^◌, ◌≤◌, drop, length, take, List, [], ◌++◌, ◌∷◌, refl, ◌≡◌}
pub use Rattle.std.proofs.Common.{rules, ap, ap₂, sym, ◌∙◌, arith}
