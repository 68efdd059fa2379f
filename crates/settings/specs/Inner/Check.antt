-- What reading the permitted atoms promises.
use Rattle.std.specs.Prelude.{ℕ, ◌≡◌, List, length, get_or}

-- the same numbers, and zeros up to eight
pub record Loaded (permitted choice : List ℕ) : Type 0 where
  pub long : length choice ≡ 8
  pub same : (k : ℕ) → get_or choice k 0 ≡ get_or permitted k 0
