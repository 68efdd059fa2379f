-- Lists that passed check 21 (src/order.rt).
use Rattle.std.specs.Prelude.{ℕ, ◌<◌, ◌≡◌, List, length, get_or}
use Rattle.renumbering.specs.Order.{new_id, place_of}

-- all ids below count, once each
pub record Arranges (count : ℕ) (order : List ℕ) : Type 0 where
  pub long : length order ≡ count
  pub low : (i : ℕ) → i < count → new_id order i < count
  pub apart : (i j : ℕ) → i < count → j < count → new_id order i ≡ new_id order j → i ≡ j

-- for each new id its old one
pub record LeadsBack (order back : List ℕ) : Type 0 where
  pub long : length back ≡ 192
  pub each : (k : ℕ) → k < length order → get_or back k 0 ≡ place_of k order
