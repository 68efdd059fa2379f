-- Check 2, by the kind of a row.
use Prim.Native.Nat.{ℕ}
use mathlib.Core.Path.{◌≡◌, sym}
use mathlib.Core.Bool.{Bool, true}
use mathlib.Core.List.{List}
use borrow.Author.Tests.{ne_eqb}
use Rattle.subsumption.specs.declared.tables.Row.{Row}
use Rattle.subsumption.specs.Tables.{or}
use Rattle.subsumption.specs.Inner.Tables.{row_of}
use Rattle.subsumption.specs.Check.{malformed_row, malformed}

module _ (v k a b : ℕ) where
  pub top_field : k ≡ 0 → (a ≡ 0 → ⊥) → true ≡ malformed_row v k a b
  unfolding malformed_row or
  top_field e h = rw (e, ne_eqb a 0 h)

module _ (cs : List ℕ) (v i : ℕ) (row : Row) (r : Bool) where
  pub row-malformed : row ≡ row_of cs i → r ≡ malformed_row v row.kind row.a row.b → malformed cs v i ≡ r
  unfolding malformed
  row-malformed e h = sym (rw e at h)
