-- What the parts of finding an assignment promise.
use Rattle.std.specs.Prelude.{ℕ, ◌-◌, ◌<◌, ◌^◌, ◌≡◌, List, length, get_or}

-- Every atom for every variable.
pub record Full (count : ℕ) (choice : List ℕ) : Type 0 where
  pub long : length choice ≡ 8
  pub all : (k : ℕ) → k < 8 → get_or choice k 0 ≡ 2 ^ count - 1
