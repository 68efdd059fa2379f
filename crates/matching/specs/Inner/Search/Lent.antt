-- What a search is lent: the sets and numbers that tests read, the nogoods, and room for values and masks.
use Rattle.std.specs.Prelude.{ℕ, ◌≡◌, List, length}
use Rattle.matching.specs.Inner.Search.Problem.{Shaped}
use Rattle.matching.specs.Inner.Search.Nogoods.{Room}

pub record Lent (sets problem store scratch : List ℕ) : Type 0 where
  pub shaped : Shaped sets problem
  pub room : Room store
  pub scratch-long : length scratch ≡ 16977
