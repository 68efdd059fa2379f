-- Sets of ids (src/sets.rt).
use Rattle.std.specs.Prelude.{ℕ, ◌+◌, ◌<◌, ◌≤◌, ◌≡◌, List, true, ◌⊎◌, length}
use Rattle.square.specs.Inner.Square.{on_line}

-- y comes into the set of the three words from `at` on, and nothing else changes
pub record Inserted (before after : List ℕ) (at y : ℕ) : Type 0 where
  pub long : length after ≡ length before
  pub kept : (from q : ℕ) → on_line before from q ≡ true → on_line after from q ≡ true
  pub bits : (q : ℕ) → q < 192 → on_line after at q ≡ true → (on_line before at q ≡ true) ⊎ (q ≡ y)
  pub taken : on_line after at y ≡ true
  pub there : (from q : ℕ) → q < 192 → (from + 3 ≤ at) ⊎ (at + 3 ≤ from) → on_line after from q ≡ on_line before from q
