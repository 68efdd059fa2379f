-- What changing, joining and meeting sets of pairs promises.
use Rattle.std.specs.Prelude.{ℕ, ◌≡◌, List, Bool, length}
use Rattle.subsumption.specs.Tables.{or, both}
use Rattle.matching.specs.Solving.{takes}

-- One bit is as said, every other as before.
pub record Changed (before after : List ℕ) (k q : ℕ) (b : Bool) : Type 0 where
  pub long : length after ≡ 8
  pub here : takes after k q ≡ b
  pub elsewhere : (l r : ℕ) → ((l ≡ k) × (r ≡ q) → ⊥) → takes after l r ≡ takes before l r

pub record Joined (a b sum : List ℕ) : Type 0 where
  pub long : length sum ≡ 8
  pub bits : (k q : ℕ) → takes sum k q ≡ or (takes a k q) (takes b k q)

pub record Met (a b common : List ℕ) : Type 0 where
  pub long : length common ≡ 8
  pub bits : (k q : ℕ) → takes common k q ≡ both (takes a k q) (takes b k q)
