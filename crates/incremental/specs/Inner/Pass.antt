-- Passes over the square of marks: what each promises, for lines of some rules.
use Rattle.std.specs.Prelude.{ℕ, ◌<◌, ◌≡◌, List, Bool, true, false}
use Rattle.subsumption.specs.Inner.Columns.{slack}
use Rattle.square.specs.Inner.Square.{in_row, Square}

-- every mark of an id is at an id, and in the relation
abbrev pub Within : ℕ → (ℕ → ℕ → Bool) → List ℕ → Type 0
Within count R square = (i j : ℕ) → i < count → j < 192 → in_row square i j ≡ true → (j < count) × (R i j ≡ true)

-- No mark goes; what comes in is in every relation with the law that holds the marks before; a change uses up slack, and without one
-- Quiet holds.
pub record Pass (count : ℕ) (Law : (ℕ → ℕ → Bool) → Type 0) (Quiet : List ℕ → Type 0) (before after : List ℕ)
    (changed : Bool) : Type 0 where
  pub square : Square after
  pub kept : (i j : ℕ) → i < 192 → j < 192 → in_row before i j ≡ true → in_row after i j ≡ true
  pub sound : (R : ℕ → ℕ → Bool) → Law R → Within count R before → Within count R after
  pub same : changed ≡ false → after ≡ before
  pub less : changed ≡ true → slack after < slack before
  pub quiet : changed ≡ false → Quiet before
