-- The count of decisions (02, A.4): the open partial choices up to and including the answer, or all of them when nothing fills the card.
use Rattle.std.specs.Prelude.{ℕ, suc, ◌<◌, ◌≤◌, ◌≡◌, List, [], ◌∷◌, ◌++◌, Bool, length}
use Rattle.subsumption.specs.Tables.{Tables}
use Rattle.settings.specs.Settings.{Settings}
use Rattle.allowance.specs.Partial.{pairs, Open, all_partials}

-- A stretch of the order without an answer, so many of it open. An answer is open and settles every pair.
pub data Stretch (t : Tables) (settings : Settings) : List (List Bool) → ℕ → Type 0 where
  none : Stretch t settings [] 0
  opened :
      (s : List Bool) (rest : List (List Bool)) (n : ℕ) → length s < pairs t → Open t settings s → Stretch t settings rest n
      → Stretch t settings (s ∷ rest) (suc n)
  shut :
      (s : List Bool) (rest : List (List Bool)) (n : ℕ) → (Open t settings s → ⊥) → Stretch t settings rest n
      → Stretch t settings (s ∷ rest) n

-- The first answer.
pub record Answered (t : Tables) (settings : Settings) (n : ℕ) (s : List Bool) : Type 0 where
  pub before : List (List Bool)
  pub after : List (List Bool)
  pub order : all_partials t ≡ before ++ (s ∷ after)
  pub stretch : Stretch t settings before n
  pub whole : length s ≡ pairs t
  pub is_open : Open t settings s

pub data CountOf (t : Tables) (settings : Settings) : ℕ → Type 0 where
  answered : (n : ℕ) (s : List Bool) → Answered t settings n s → CountOf t settings (suc n)
  unanswered : (n : ℕ) → Stretch t settings (all_partials t) n → CountOf t settings n

-- This is the count, and it is no more than the allowance.
pub record Counts (t : Tables) (settings : Settings) (allowance count : ℕ) : Type 0 where
  pub counted : CountOf t settings count
  pub enough : count ≤ allowance

-- The count is over so many: there is one more open before or at the answer.
pub record Exceeds (t : Tables) (settings : Settings) (allowance : ℕ) : Type 0 where
  pub before : List (List Bool)
  pub here : List Bool
  pub after : List (List Bool)
  pub order : all_partials t ≡ before ++ (here ∷ after)
  pub stretch : Stretch t settings before allowance
  pub is_open : Open t settings here
